-- The inputs of a function are those of its signature, one before the other, and have their facts at the entry.
use Rattle.std.proofs.Common.{◌≡◌, ◌≢◌, ◌⊎◌, inl, inr, ⊎_elim, ℕ, zero, suc, ◌+◌, ◌≤◌, ◌<◌, Bool, true, false, List, [], ◌∷◌, ◌++◌, map, take, length, Option, Some, None, refl, sym, ap, subst, ◌∙◌, arith}
use Rattle.std.specs.Prelude.{Contains, if◌then◌else◌, nat_lt, not, slice_get}
use Rattle.std.specs.List.{flat_map}
use Rattle.std.proofs.lemmas.Bool.{false≢true}
use Rattle.std.proofs.lemmas.Bool.Decides.{nat_tests}
use Rattle.std.proofs.lemmas.List.Elements.{Contains-append_left, Contains-append_right}
use Rattle.life_types.specs.Pointees.{or_void, ty_of}
use Rattle.life_types.specs.Trees.{IsOrdered, tree_at, tree_of}
use Rattle.life_types.specs.TypeTests.{is_constant, is_pointer}
use Rattle.life_types.specs.Types.{Types}
use Rattle.life_types.specs.declared.place.Place.{Place}
use Rattle.life_types.specs.declared.ty.Ty.{Ty}
use Rattle.life_types.specs.declared.ty.Ty.TheVariants as variant
use Rattle.life_types.specs.declared.ty.TyId.{TyId}
use Rattle.life_types.proofs.TreeLemmas.{tree_made}
use Rattle.life_core.specs.declared.program.Local.{Local}
use Rattle.life_core.specs.declared.program.LocalKind.{LocalKind}
use Rattle.life_core.specs.declared.program.LocalKind.TheVariants.{Object, Register, Range}
use Rattle.life_core.specs.Function.{Function}
use Rattle.life_pset.specs.Elements.{Input, elements_of, input_at, input_if, inputs_among, inputs_from, inputs_of, local_inputs, local_locations, local_place, locations_in, pointers_in}
use Rattle.life_pset.specs.Places.{root_place}
use Rattle.life_pset.specs.Shapes.{has_buffer, shape, shape_if, target_type, tree_if, ty_if}
use Rattle.life_pset.specs.declared.element.AbsPlace.{AbsPlace}
use Rattle.life_pset.specs.declared.element.Element.TheVariants as element
use Rattle.life_pset.specs.declared.element.Fact.{Fact}
use Rattle.life_pset.specs.declared.element.Root.{Root}
use Rattle.life_pset.specs.declared.element.Root.TheVariants as root
use Rattle.life_contract.specs.Breaking.{of_pairs}
use Rattle.life_contract.specs.Inputs.{inputs_of_signature, is_mutating, may_be_null, parameter_local, parameter_number}
use Rattle.life_contract.specs.Signatures.{parameter_of, signature_of}
use Rattle.life_rules.specs.Deriving.{entry_facts, entry_facts_from, input_facts, owner_facts, parameter_facts}
use Rattle.life_rules.specs.Matching.{fact_at, given_if}
use Rattle.life_rules.proofs.Giving.{at_head, cons_cases, flat_map_into, in_tail, none_in_empty}
use Rattle.life_store.proofs.CellLemmas.{none_some, some_same}
use Rattle.life_cover.specs.Inputs as given
use Rattle.life_cover.specs.Inputs.{may_change, owning, test_input}
use Rattle.life_cover.proofs.InputPlaces.{input_known}
use Rattle.life_cover.proofs.InputRoots.{IsOwnInput, got_among, lt_true, own_input}
use Rattle.life_cover.proofs.Listing.{place_itself}

-- ---- two of a list

-- one of them stands before the other
pub in_order : {A B : Type 0} (xs : List A) (x y : A) → x ≢ y → Contains xs x → Contains xs y
    → ((g : A → A → List B) (d : B) → Contains (g x y) d → Contains (of_pairs g xs) d) ⊎ ((g : A → A → List B) (d : B) → Contains (g y x) d → Contains (of_pairs g xs) d)
in_order [] x y ne has_x has_y = absurd (none_in_empty x has_x)
in_order (z ∷ zs) x y ne has_x has_y = ⊎_elim
    (λ x_here. ⊎_elim
    (λ y_here. absurd (ne (sym x_here ∙ y_here)))
    (λ y_more. inl (λ g d told. Contains-append_left (flat_map (g z) zs) (of_pairs g zs) d (flat_map_into (g z) zs y d y_more (subst (λ u. Contains (g u y) d) (sym x_here) told))))
    (cons_cases z zs y has_y))
    (λ x_more. ⊎_elim
    (λ y_here. inr (λ g d told. Contains-append_left (flat_map (g z) zs) (of_pairs g zs) d (flat_map_into (g z) zs x d x_more (subst (λ u. Contains (g u x) d) (sym y_here) told))))
    (λ y_more. ⊎_elim
    (λ first. inl (λ g d told. Contains-append_right (flat_map (g z) zs) (of_pairs g zs) d (first g d told)))
    (λ second. inr (λ g d told. Contains-append_right (flat_map (g z) zs) (of_pairs g zs) d (second g d told)))
    (in_order zs x y ne x_more y_more))
    (cons_cases z zs y has_y))
    (cons_cases z zs x has_x)

-- ---- those of a signature

lt_false : (a b : ℕ) → b ≤ a → nat_lt a b ≡ false
lt_false a b h = grind (arith, nat_tests)

module _ (types : Types) (ordered : IsOrdered types) where
  -- a vector and a string have no pointers, whatever the kind of their local
  no_pointer : (t : Ty) → has_buffer t ≡ true → is_pointer t ≡ false
  no_pointer variant.Text h = refl
  no_pointer (variant.Vector item) h = refl
  no_pointer _ h = absurd (false≢true h)

  none_in_buffer : (a : AbsPlace) (id : TyId) → has_buffer (ty_of types id) ≡ true → pointers_in a (tree_at types id) ≡ []
  none_in_buffer a id h = ap (pointers_in a) (tree_made types ordered id) ∙ go (slice_get types.types id.0) h
    where
      go : (o : Option Ty) → has_buffer (or_void o) ≡ true → pointers_in a (tree_of types (tree_at types) o) ≡ []
      go None k = absurd (false≢true k)
      go (Some variant.Text) k = refl
      go (Some (variant.Vector item)) k = refl
      go (Some _) k = absurd (false≢true k)

  -- an object has the inputs that a register has
  object_inputs : (x : ℕ) (id : TyId) → inputs_among types x id 0 (locations_in types Object id (local_place x)) ≡ inputs_among types x id 0 (pointers_in (local_place x) (tree_at types id))
  object_inputs x id = go (has_buffer (ty_of types id)) refl
    where
      go : (b : Bool) → has_buffer (ty_of types id) ≡ b → inputs_among types x id 0 (if b then local_place x ∷ [] else pointers_in (local_place x) (tree_at types id)) ≡ inputs_among types x id 0 (pointers_in (local_place x) (tree_at types id))
      go false e = refl
      go true e =
          ap (λ (b : Bool). input_if b (input_at x 0 (local_place x) (Some id)) ++ []) (no_pointer (ty_of types id) e)
          ∙ ap (inputs_among types x id 0) (sym (none_in_buffer (local_place x) id e))

  kind_inputs : (k : LocalKind) (x : ℕ) (id : TyId) → inputs_among types x id 0 (locations_in types Object id (local_place x)) ≡ inputs_among types x id 0 (locations_in types k id (local_place x))
  kind_inputs Object x id = refl
  kind_inputs Register x id = object_inputs x id
  kind_inputs Range x id = object_inputs x id

  -- a parameter has the same ones in a function and in its signature
  same_inputs : (place : Place) (m n x : ℕ) (l : Local) → x < m → x < n → local_inputs types m x (parameter_local place (parameter_of l)) ≡ local_inputs types n x l
  same_inputs place m n x l lt_m lt_n =
      ap (λ (b : Bool). if b then inputs_among types x (shape types m x (parameter_local place (parameter_of l))) 0 (local_locations types m x (parameter_local place (parameter_of l))) else []) (lt_true x m lt_m)
      ∙ ap (λ (id : TyId). inputs_among types x id 0 (locations_in types Object id (local_place x))) (ap (λ (b : Bool). shape_if types b l.ty) (lt_true x m lt_m ∙ sym (lt_true x n lt_n)))
      ∙ kind_inputs l.kind x (shape types n x l)
      ∙ ap (λ (b : Bool). if b then inputs_among types x (shape types n x l) 0 (local_locations types n x l) else []) (sym (lt_true x n lt_n))

  -- no other local has one
  none_behind : (n : ℕ) (ls : List Local) (first : ℕ) → n ≤ first → inputs_from types n first ls ≡ []
  none_behind n [] first le = refl
  none_behind n (l ∷ ls) first le =
      ap (λ (b : Bool). (if b then inputs_among types first (shape types n first l) 0 (local_locations types n first l) else []) ++ inputs_from types n (first + 1) ls) (lt_false first n le)
      ∙ none_behind n ls (first + 1) (omega (arith, le))

  signature_from : (place : Place) (m n k first : ℕ) (ls : List Local) → first + k ≡ n → first + length (map parameter_of (take k ls)) ≡ m → inputs_from types m first (map (parameter_local place) (map parameter_of (take k ls))) ≡ inputs_from types n first ls
  signature_from place m n zero first ls at_n at_m = sym (none_behind n ls first (omega (arith, at_n)))
  signature_from place m n (suc k) first [] at_n at_m = refl
  signature_from place m n (suc k) first (l ∷ ls) at_n at_m =
      ap (λ (is : List Input). is ++ inputs_from types m (first + 1) (map (parameter_local place) (map parameter_of (take k ls)))) (same_inputs place m n first l (omega (arith, at_m)) (omega (arith, at_n)))
      ∙ ap (λ (is : List Input). local_inputs types n first l ++ is) (signature_from place m n k (first + 1) ls (omega (arith, at_n)) (omega (arith, at_m)))

  pub signature_inputs : (f : Function) → inputs_of_signature types (signature_of f) ≡ inputs_of types f
  signature_inputs f = signature_from f.place (length (map parameter_of (take f.parameters f.locals))) f.parameters f.parameters 0 f.locals (omega arith) (omega arith)

  pub in_signature : (f : Function) (i : Input) → Contains (inputs_of types f) i → Contains (inputs_of_signature types (signature_of f)) i
  in_signature f i h = subst (λ (is : List Input). Contains is i) (sym (signature_inputs f)) h

  pub from_signature : (f : Function) (i : Input) → Contains (inputs_of_signature types (signature_of f)) i → Contains (inputs_of types f) i
  from_signature f i h = subst (λ (is : List Input). Contains is i) (signature_inputs f) h

pub signature_parameter : (f : Function) (x : ℕ) (l : Local) → slice_get f.locals x ≡ Some l → x < f.parameters → slice_get (signature_of f).parameters x ≡ Some (parameter_of l)
signature_parameter f x l there lt = go f.parameters f.locals x lt there
  where
    go : (n : ℕ) (ls : List Local) (y : ℕ) → y < n → slice_get ls y ≡ Some l → slice_get (map parameter_of (take n ls)) y ≡ Some (parameter_of l)
    go zero ls y less e = absurd (omega (arith, less))
    go (suc n) [] y less e = absurd (none_some e)
    go (suc n) (u ∷ ls) zero less e = ap (λ (w : Local). Some (parameter_of w)) (some_same e)
    go (suc n) (u ∷ ls) (suc y) less e = go n ls y (omega (arith, less)) e

-- ---- what a root says of its input

module _ (types : Types) (f : Function) (i : Input) where
  pub root_owning : (r : Root) → given.input_at types f r ≡ Some i → owning types f r ≡ true → is_mutating types (signature_of f) i ≡ true
  root_owning (root.Local x) is own = absurd (none_some is)
  root_owning (root.Input q member) is own = ap (test_input (is_mutating types (signature_of f))) (sym is) ∙ own

  -- what may be changed through it has no const
  pub root_free : (r : Root) → given.input_at types f r ≡ Some i → may_change types f r ≡ true → is_constant (ty_if types i.ty) ≡ false
  root_free (root.Local x) is may = absurd (none_some is)
  root_free (root.Input q member) is may = go (is_constant (ty_if types i.ty)) (ap (λ (o : Option Input). test_input (λ (j : Input). not (is_constant (ty_if types j.ty))) o) (sym is) ∙ may)
    where
      go : (b : Bool) → not b ≡ true → b ≡ false
      go true h = absurd (false≢true h)
      go false h = refl

  -- .. and what has no const may be
  pub root_changes : (r : Root) → given.input_at types f r ≡ Some i → is_constant (ty_if types i.ty) ≡ false → may_change types f r ≡ true
  root_changes (root.Local x) is free = refl
  root_changes (root.Input q member) is free = ap (test_input (λ (j : Input). not (is_constant (ty_if types j.ty)))) is ∙ ap not free

-- ---- the facts at the entry

module _ (types : Types) (n : ℕ) where
  pub facts_among : (ls : List Local) (first k x : ℕ) (l : Local) (a : Fact) → first + k ≡ x → slice_get ls k ≡ Some l → Contains (parameter_facts types n x l) a → Contains (entry_facts_from types n first ls) a
  facts_among [] first k x l a is e has = absurd (none_some e)
  facts_among (m ∷ ls) first zero x l a is e has =
      let here : x ≡ first = omega (arith, is) in
      Contains-append_left (parameter_facts types n first m) (entry_facts_from types n (first + 1) ls) a
      (subst (λ (u : Local). Contains (parameter_facts types n first u) a) (sym (some_same e)) (subst (λ y. Contains (parameter_facts types n y l) a) here has))
  facts_among (m ∷ ls) first (suc k) x l a is e has =
      Contains-append_right (parameter_facts types n first m) (entry_facts_from types n (first + 1) ls) a (facts_among ls (first + 1) k x l a (omega (arith, is)) e has)

module _ (types : Types) (f : Function) (i : Input) (among : Contains (inputs_of types f) i) where
  abbrev o : IsOwnInput types f i
  o = own_input types f i among

  -- what it stands for is among the elements
  pub input_element : Contains (elements_of types f) (element.At (root_place i.root))
  input_element = input_known types f i among (root_place i.root) (place_itself (root_place i.root) (tree_if types (target_type types i.ty)))

  entry_given : (a : Fact) → Contains (input_facts types (own_input types f i among).local.nonnull i) a → Contains (entry_facts types f) a
  entry_given a has =
      facts_among types f.parameters f.locals 0 (parameter_number i) (parameter_number i) o.local a (omega arith) o.there
      (Contains-append_left (flat_map (input_facts types o.local.nonnull) (local_inputs types f.parameters (parameter_number i) o.local)) (if nat_lt (parameter_number i) f.parameters then flat_map (owner_facts types (shape types f.parameters (parameter_number i) o.local)) (local_locations types f.parameters (parameter_number i) o.local) else []) a
      (flat_map_into (input_facts types o.local.nonnull) (local_inputs types f.parameters (parameter_number i) o.local) i a (got_among (local_inputs types f.parameters (parameter_number i) o.local) o.number i o.listed) has))

  pub points_at_entry : Contains (entry_facts types f) (fact_at i.pointer (element.At (root_place i.root)))
  points_at_entry = entry_given (fact_at i.pointer (element.At (root_place i.root))) (at_head (fact_at i.pointer (element.At (root_place i.root))) (given_if (may_be_null types o.local.nonnull i) (fact_at i.pointer element.Null)))

  pub null_at_entry : may_be_null types (own_input types f i among).local.nonnull i ≡ true → Contains (entry_facts types f) (fact_at i.pointer element.Null)
  null_at_entry null =
      entry_given (fact_at i.pointer element.Null)
      (in_tail (fact_at i.pointer (element.At (root_place i.root))) (given_if (may_be_null types o.local.nonnull i) (fact_at i.pointer element.Null)) (fact_at i.pointer element.Null)
      (subst (λ b. Contains (given_if b (fact_at i.pointer element.Null)) (fact_at i.pointer element.Null)) (sym null) (at_head (fact_at i.pointer element.Null) [])))
