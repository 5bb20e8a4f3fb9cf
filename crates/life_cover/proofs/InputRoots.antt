-- Each pointer of a parameter is one input of its function, which is found by its root.
use Rattle.std.proofs.Common.{◌≡◌, ⊎_elim, ℕ, zero, suc, ◌+◌, ◌≤◌, ◌<◌, Bool, true, false, List, [], ◌∷◌, ◌++◌, length, length-append, Option, Some, None, refl, sym, ap, subst, ◌∙◌, arith}
use Rattle.std.specs.Prelude.{Contains, if◌then◌else◌, min, nat_eq, nat_lt, slice_get, take}
use Rattle.std.proofs.lemmas.Bool.{false≢true}
use Rattle.std.proofs.lemmas.Bool.Decides.{nat_tests}
use Rattle.std.proofs.lemmas.List.Elements.{Contains-append_cases, Contains-append_left, Contains-append_right}
use Rattle.life_types.specs.Pointees.{or_void, ty_of}
use Rattle.life_types.specs.Trees.{IsOrdered, tree_at, tree_of}
use Rattle.life_types.specs.TypeTests.{is_pointer}
use Rattle.life_types.specs.Types.{Types}
use Rattle.life_types.specs.declared.ty.Ty.{Ty}
use Rattle.life_types.specs.declared.ty.Ty.TheVariants as variant
use Rattle.life_types.specs.declared.ty.TyId.{TyId}
use Rattle.life_types.proofs.TreeLemmas.{tree_made}
use Rattle.life_core.specs.Function.{Function}
use Rattle.life_core.specs.Operands.{Location}
use Rattle.life_core.specs.declared.program.Local.{Local}
use Rattle.life_core.specs.declared.program.LocalKind.{LocalKind}
use Rattle.life_core.specs.declared.program.LocalKind.TheVariants.{Object, Register, Range}
use Rattle.life_pset.specs.Elements.{Input, input_at, input_if, input_root, inputs_among, inputs_from, inputs_of, local_inputs, local_locations, local_place, locations_from, locations_in, locations_of, number_after, pointers_in}
use Rattle.life_pset.specs.Places.{path}
use Rattle.life_pset.specs.Shapes.{has_buffer, is_variable, location_type, members_type, shape, shape_of, ty_if}
use Rattle.life_pset.specs.declared.element.AbsPlace.{AbsPlace}
use Rattle.life_pset.specs.declared.element.Root.{Root}
use Rattle.life_pset.specs.declared.element.Root.TheVariants as root
use Rattle.life_contract.specs.Inputs.{parameter_number}
use Rattle.life_rules.specs.Texts.{input_number, inputs_at}
use Rattle.life_rules.proofs.Giving.{at_head, cons_cases, in_tail, none_in_empty}
use Rattle.life_store.proofs.CellLemmas.{none_some, some_same}
use Rattle.life_cover.specs.Inputs as given
use Rattle.life_cover.proofs.Listing.{one_pointer}

lt_of : (a b : ℕ) → nat_lt a b ≡ true → a < b
lt_of a b h = grind (arith, nat_tests)

pub lt_true : (a b : ℕ) → a < b → nat_lt a b ≡ true
lt_true a b h = grind (arith, nat_tests)

eq_of : (a b : ℕ) → nat_eq a b ≡ true → a ≡ b
eq_of a b h = grind (arith, nat_tests)

pub got_among : {A : Type 0} (xs : List A) (n : ℕ) (x : A) → slice_get xs n ≡ Some x → Contains xs x
got_among [] n x e = absurd (none_some e)
got_among (y ∷ ys) zero x e = subst (Contains (y ∷ ys)) (some_same e) (at_head y ys)
got_among (y ∷ ys) (suc n) x e = in_tail y ys x (got_among ys n x e)

-- ---- a pointer is one location

unbuffered : (t : Ty) → is_pointer t ≡ true → has_buffer t ≡ false
unbuffered variant.Text p = absurd (false≢true p)
unbuffered (variant.Vector item) p = absurd (false≢true p)
unbuffered _ p = refl

no_variable : (k : LocalKind) (t : Ty) → is_pointer t ≡ true → is_variable k t ≡ false
no_variable Object t p = unbuffered t p
no_variable Register t p = refl
no_variable Range t p = refl

-- a pointer is one location
pub pointer_location : (types : Types) (ordered : IsOrdered types) (k : LocalKind) (id : TyId) (a : AbsPlace) → is_pointer (ty_of types id) ≡ true → locations_in types k id a ≡ a ∷ []
pointer_location types ordered k id a pointer =
    ap (λ (b : Bool). if b then a ∷ [] else pointers_in a (tree_at types id)) (no_variable k (ty_of types id) pointer) ∙ ap (pointers_in a) (tree_made types ordered id) ∙ go (slice_get types.types id.0) pointer
  where
    go : (o : Option Ty) → is_pointer (or_void o) ≡ true → pointers_in a (tree_of types (tree_at types) o) ≡ a ∷ []
    go None h = absurd (false≢true h)
    go (Some t) h = one_pointer a types (tree_at types) t h

-- ---- the inputs of one parameter

module _ (types : Types) where
  -- it has a number, and is made of one of the locations
  pub record IsNumbered (q : ℕ) (id : TyId) (k : ℕ) (ls : List AbsPlace) (i : Input) : Type 0 where
    pub number : ℕ
    pub there : slice_get (inputs_among types q id k ls) number ≡ Some i
    pub less : number < length ls
    pub is : i ≡ input_at q (k + number) i.pointer (members_type types (Some id) (path i.pointer))
    pub points : is_pointer (ty_if types (members_type types (Some id) (path i.pointer))) ≡ true

  numbered : (q : ℕ) (id : TyId) (k : ℕ) (ls : List AbsPlace) (i : Input) → Contains (inputs_among types q id k ls) i → IsNumbered q id k ls i
  numbered q id k [] i h = absurd (none_in_empty i h)
  numbered q id k (l ∷ ls) i h = go (λ b c. numbered q id (number_after b k) ls i c) (is_pointer (ty_if types (members_type types (Some id) (path l)))) refl h
    where
      first : Input
      first = input_at q k l (members_type types (Some id) (path l))

      go : ((b : Bool) → Contains (inputs_among types q id (number_after b k) ls) i → IsNumbered q id (number_after b k) ls i) → (b : Bool) → is_pointer (ty_if types (members_type types (Some id) (path l))) ≡ b
          → Contains (input_if b first ++ inputs_among types q id (number_after b k) ls) i → IsNumbered q id k (l ∷ ls) i
      go more true e c = ⊎_elim
          (λ same. subst (IsNumbered q id k (l ∷ ls)) same (record {
            number = 0;
            there = ap (λ (b : Bool). slice_get (input_if b first ++ inputs_among types q id (number_after b k) ls) 0) e;
            less = omega arith;
            is = let n : k ≡ k + 0 = omega arith in ap (λ m. input_at q m l (members_type types (Some id) (path l))) n;
            points = e;
          }))
          (λ rest. let r = more true rest in let lt = r.less in record {
            number = suc r.number;
            there = ap (λ (b : Bool). slice_get (input_if b first ++ inputs_among types q id (number_after b k) ls) (suc r.number)) e ∙ r.there;
            less = omega (arith, lt);
            is = r.is ∙ (let n : k + 1 + r.number ≡ k + suc r.number = omega arith in ap (λ m. input_at q m i.pointer (members_type types (Some id) (path i.pointer))) n);
            points = r.points;
          })
          (cons_cases first (inputs_among types q id (k + 1) ls) i c)
      go more false e c = let r = more false c in let lt = r.less in record {
        number = r.number;
        there = ap (λ (b : Bool). slice_get (input_if b first ++ inputs_among types q id (number_after b k) ls) r.number) e ∙ r.there;
        less = omega (arith, lt);
        is = r.is;
        points = r.points;
      }

  -- each pointer among the locations is one
  record IsMadeOf (q : ℕ) (id : TyId) (k : ℕ) (ls : List AbsPlace) (p : AbsPlace) : Type 0 where
    pub input : Input
    pub among : Contains (inputs_among types q id k ls) input
    pub pointer : input.pointer ≡ p
    pub parameter : parameter_number input ≡ q

  made_of : (q : ℕ) (id : TyId) (k : ℕ) (ls : List AbsPlace) (p : AbsPlace) → Contains ls p → is_pointer (ty_if types (members_type types (Some id) (path p))) ≡ true → IsMadeOf q id k ls p
  made_of q id k [] p h points = absurd (none_in_empty p h)
  made_of q id k (l ∷ ls) p h points = ⊎_elim here (λ more. there (made_of q id (number_after (is_pointer (ty_if types (members_type types (Some id) (path l)))) k) ls p more points)) (cons_cases l ls p h)
    where
      first : Input
      first = input_at q k l (members_type types (Some id) (path l))

      here : l ≡ p → IsMadeOf q id k (l ∷ ls) p
      here same = record {
        input = first;
        among =
            subst (λ (b : Bool). Contains (input_if b first ++ inputs_among types q id (number_after b k) ls) first) (sym (ap (λ (z : AbsPlace). is_pointer (ty_if types (members_type types (Some id) (path z)))) same ∙ points))
            (at_head first (inputs_among types q id (k + 1) ls));
        pointer = same;
        parameter = refl;
      }

      there : IsMadeOf q id (number_after (is_pointer (ty_if types (members_type types (Some id) (path l)))) k) ls p → IsMadeOf q id k (l ∷ ls) p
      there r = record {
        input = r.input;
        among = Contains-append_right (input_if (is_pointer (ty_if types (members_type types (Some id) (path l)))) first) (inputs_among types q id (number_after (is_pointer (ty_if types (members_type types (Some id) (path l)))) k) ls) r.input r.among;
        pointer = r.pointer;
        parameter = r.parameter;
      }

  -- ---- among those of all locals

  pub input_among : (n : ℕ) (ls : List Local) (first k x : ℕ) (l : Local) (i : Input) → first + k ≡ x → slice_get ls k ≡ Some l → Contains (local_inputs types n x l) i → Contains (inputs_from types n first ls) i
  input_among n [] first k x l i is e has = absurd (none_some e)
  input_among n (m ∷ ls) first zero x l i is e has =
      let here : x ≡ first = omega (arith, is) in
      Contains-append_left (local_inputs types n first m) (inputs_from types n (first + 1) ls) i
      (subst (λ (u : Local). Contains (local_inputs types n first u) i) (sym (some_same e)) (subst (λ y. Contains (local_inputs types n y l) i) here has))
  input_among n (m ∷ ls) first (suc k) x l i is e has =
      Contains-append_right (local_inputs types n first m) (inputs_from types n (first + 1) ls) i (input_among n ls (first + 1) k x l i (omega (arith, is)) e has)

  record IsFrom (n first : ℕ) (ls : List Local) (i : Input) : Type 0 where
    pub parameter : ℕ
    pub behind : ℕ
    pub at : first + behind ≡ parameter
    pub local : Local
    pub there : slice_get ls behind ≡ Some local
    pub among : Contains (local_inputs types n parameter local) i

  from_local : (n first : ℕ) (ls : List Local) (i : Input) → Contains (inputs_from types n first ls) i → IsFrom n first ls i
  from_local n first [] i h = absurd (none_in_empty i h)
  from_local n first (l ∷ ls) i h = ⊎_elim
      (λ here. record { parameter = first; behind = 0; at = omega arith; local = l; there = refl; among = here })
      (λ more. let r = from_local n (first + 1) ls i more in let at = r.at in record { parameter = r.parameter; behind = suc r.behind; at = omega (arith, at); local = r.local; there = r.there; among = r.among })
      (Contains-append_cases (local_inputs types n first l) (inputs_from types n (first + 1) ls) i h)

  -- the locations of a local are no more than all
  locations_le : (n : ℕ) (ls : List Local) (first k x : ℕ) (l : Local) → first + k ≡ x → slice_get ls k ≡ Some l → length (local_locations types n x l) ≤ length (locations_from types n first ls)
  locations_le n [] first k x l is e = absurd (none_some e)
  locations_le n (m ∷ ls) first zero x l is e =
      let here : x ≡ first = omega (arith, is) in
      let both = length-append (local_locations types n first m) (locations_from types n (first + 1) ls) in
      let same = ap (λ (u : Local). length (local_locations types n first u)) (some_same e) in
      let own = ap (λ y. length (local_locations types n y l)) here in
      omega (arith, both, same, own)
  locations_le n (m ∷ ls) first (suc k) x l is e =
      let both = length-append (local_locations types n first m) (locations_from types n (first + 1) ls) in
      let more = locations_le n ls (first + 1) k x l (omega (arith, is)) e in
      omega (arith, both, more)

-- ---- of a function

-- an input is a pointer of a parameter
pub record IsOwnInput (types : Types) (f : Function) (i : Input) : Type 0 where
  pub local : Local
  pub there : slice_get f.locals (parameter_number i) ≡ Some local
  pub lt : parameter_number i < f.parameters
  pub number : ℕ
  pub listed : slice_get (local_inputs types f.parameters (parameter_number i) local) number ≡ Some i
  pub few : number < length (locations_of types f)
  pub type : i.ty ≡ members_type types (Some (shape types f.parameters (parameter_number i) local)) (path i.pointer)
  pub points : is_pointer (ty_if types i.ty) ≡ true
  pub named : i.root ≡ input_root (parameter_number i) number i.pointer

module _ (types : Types) (f : Function) where
  pub own_input : (i : Input) → Contains (inputs_of types f) i → IsOwnInput types f i
  own_input i h = of (from_local types f.parameters 0 f.locals i h)
    where
      of : IsFrom types f.parameters 0 f.locals i → IsOwnInput types f i
      of r = by_test (nat_lt r.parameter f.parameters) refl r.among
        where
          x : ℕ
          x = r.parameter

          at_x : slice_get f.locals x ≡ Some r.local
          at_x = let at = r.at in let same : x ≡ r.behind = omega (arith, at) in ap (slice_get f.locals) same ∙ r.there

          id : TyId
          id = shape types f.parameters r.parameter r.local

          ls : List AbsPlace
          ls = local_locations types f.parameters r.parameter r.local

          by_test : (b : Bool) → nat_lt x f.parameters ≡ b → Contains (if b then inputs_among types x id 0 ls else []) i → IsOwnInput types f i
          by_test false e c = absurd (none_in_empty i c)
          by_test true e c = made
            where
              n : IsNumbered types x id 0 ls i
              n = numbered types x id 0 ls i c

              zero_more : (m : ℕ) → 0 + m ≡ m
              zero_more m = omega arith

              parameter : x ≡ parameter_number i
              parameter = ap parameter_number (sym n.is)

              type : i.ty ≡ members_type types (Some id) (path i.pointer)
              type = ap (λ (j : Input). j.ty) n.is

              made : IsOwnInput types f i
              made = record {
                local = r.local;
                there = ap (slice_get f.locals) (sym parameter) ∙ at_x;
                lt = subst (λ y. y < f.parameters) parameter (lt_of x f.parameters e);
                number = n.number;
                listed = subst (λ y. slice_get (local_inputs types f.parameters y r.local) n.number ≡ Some i) parameter (ap (λ (b : Bool). slice_get (if b then inputs_among types x id 0 ls else []) n.number) e ∙ n.there);
                few = let lt = n.less in let le = locations_le types f.parameters f.locals 0 r.behind x r.local r.at r.there in omega (arith, lt, le);
                type = subst (λ y. i.ty ≡ members_type types (Some (shape types f.parameters y r.local)) (path i.pointer)) parameter type;
                points = ap (λ (t : Option TyId). is_pointer (ty_if types t)) type ∙ n.points;
                named = ap (λ (j : Input). j.root) n.is ∙ ap (λ m. input_root x m i.pointer) (zero_more n.number) ∙ ap (λ y. input_root y n.number i.pointer) parameter;
              }

  -- it lies at this location
  abbrev pub input_location : Input → Location
  input_location i = record { local = parameter_number i; members = path i.pointer }

  pub input_typed : (i : Input) → Contains (inputs_of types f) i → i.ty ≡ location_type types f (input_location i)
  input_typed i among =
      let o = own_input i among in
      o.type ∙ ap (λ (l : Option Local). members_type types (shape_of types f.parameters (parameter_number i) l) (path i.pointer)) (sym o.there)

  -- what is found is one
  pub found_among : (r : Root) (i : Input) → given.input_at types f r ≡ Some i → Contains (inputs_of types f) i
  found_among (root.Local x) i e = absurd (none_some e)
  found_among (root.Input q member) i e = by_local (slice_get f.locals q) refl e
    where
      by_local : (o : Option Local) → slice_get f.locals q ≡ o → slice_get (inputs_at types f.parameters q o) (input_number member) ≡ Some i → Contains (inputs_of types f) i
      by_local None there h = absurd (none_some h)
      by_local (Some l) there h = input_among types f.parameters f.locals 0 q q l i (omega arith) there (got_among (local_inputs types f.parameters q l) (input_number member) i h)

  -- .. and each is found
  module _ (ordered : IsOrdered types) (few : length (locations_of types f) ≤ 256) where
    pub found_input : (i : Input) → Contains (inputs_of types f) i → given.input_at types f i.root ≡ Some i
    found_input i among = by_length (nat_eq i.pointer.length 0) refl
      where
        o : IsOwnInput types f i
        o = own_input i among

        q : ℕ
        q = parameter_number i

        listed_at : (member : Option ℕ) → slice_get (local_inputs types f.parameters q o.local) (input_number member) ≡ Some i → given.input_at types f (root.Input q member) ≡ Some i
        listed_at member e = ap (λ (l : Option Local). slice_get (inputs_at types f.parameters q l) (input_number member)) o.there ∙ e

        -- a whole parameter is its only input
        only : (xs : List Input) (n : ℕ) → length xs ≤ 1 → slice_get xs n ≡ Some i → slice_get xs 0 ≡ Some i
        only xs zero le e = e
        only [] (suc n) le e = absurd (none_some e)
        only (x ∷ []) (suc n) le e = absurd (none_some e)
        only (x ∷ (y ∷ ys)) (suc n) le e = absurd (omega (arith, le))

        among_le : (k : ℕ) (ls : List AbsPlace) (id : TyId) → length (inputs_among types q id k ls) ≤ length ls
        among_le k [] id = omega arith
        among_le k (l ∷ ls) id = go (is_pointer (ty_if types (members_type types (Some id) (path l)))) (λ m. among_le m ls id)
          where
            go : (b : Bool) → ((m : ℕ) → length (inputs_among types q id m ls) ≤ length ls) → length (input_if b (input_at q k l (members_type types (Some id) (path l))) ++ inputs_among types q id (number_after b k) ls) ≤ length (l ∷ ls)
            go true more = let le = more (k + 1) in omega (arith, le)
            go false more = let le = more k in omega (arith, le)

        by_length : (b : Bool) → nat_eq i.pointer.length 0 ≡ b → given.input_at types f i.root ≡ Some i
        by_length true e =
            ap (given.input_at types f) (o.named ∙ ap (λ (b : Bool). root.Input q (if b then None else Some (min o.number 255))) e)
            ∙ listed_at None (only (local_inputs types f.parameters q o.local) o.number one o.listed)
          where
            short : path i.pointer ≡ []
            short = ap (λ n. take n i.pointer.steps) (eq_of i.pointer.length 0 e)

            points : is_pointer (ty_of types (shape types f.parameters q o.local)) ≡ true
            points = ap (λ (ms : List ℕ). is_pointer (ty_if types (members_type types (Some (shape types f.parameters q o.local)) ms))) (sym short) ∙ ap (λ (t : Option TyId). is_pointer (ty_if types t)) (sym o.type) ∙ o.points

            one : length (local_inputs types f.parameters q o.local) ≤ 1
            one =
                let le = among_le 0 (local_locations types f.parameters q o.local) (shape types f.parameters q o.local) in
                let locations = ap (λ (ls : List AbsPlace). length ls) (pointer_location types ordered o.local.kind (shape types f.parameters q o.local) (local_place q) points) in
                let is = ap (λ (b : Bool). length (if b then inputs_among types q (shape types f.parameters q o.local) 0 (local_locations types f.parameters q o.local) else [])) (lt_true q f.parameters o.lt) in
                omega (arith, le, locations, is)
        by_length false e =
            ap (given.input_at types f) (o.named ∙ ap (λ (b : Bool). root.Input q (if b then None else Some (min o.number 255))) e ∙ ap (λ n. root.Input q (Some n)) least)
            ∙ listed_at (Some o.number) o.listed
          where
            least : min o.number 255 ≡ o.number
            least = let lt = o.few in omega (arith, lt, few)

    -- so no two have one root
    pub one_root : (i j : Input) → Contains (inputs_of types f) i → Contains (inputs_of types f) j → i.root ≡ j.root → i ≡ j
    one_root i j has_i has_j same = some_same (sym (found_input i has_i) ∙ ap (given.input_at types f) same ∙ found_input j has_j)

  -- a pointer of a parameter is an input
  pub record IsPointerOf (q : ℕ) (p : AbsPlace) : Type 0 where
    pub input : Input
    pub among : Contains (inputs_of types f) input
    pub pointer : input.pointer ≡ p
    pub parameter : parameter_number input ≡ q

  pub pointer_input : (q : ℕ) (l : Local) (p : AbsPlace) → slice_get f.locals q ≡ Some l → q < f.parameters → Contains (local_locations types f.parameters q l) p → is_pointer (ty_if types (members_type types (Some (shape types f.parameters q l)) (path p))) ≡ true → IsPointerOf q p
  pointer_input q l p there lt among points =
      let m = made_of types q (shape types f.parameters q l) 0 (local_locations types f.parameters q l) p among points in record {
        input = m.input;
        among = input_among types f.parameters f.locals 0 q q l m.input (omega arith) there
            (subst (λ (b : Bool). Contains (if b then inputs_among types q (shape types f.parameters q l) 0 (local_locations types f.parameters q l) else []) m.input) (sym (lt_true q f.parameters lt)) m.among);
        pointer = m.pointer;
        parameter = m.parameter;
      }
