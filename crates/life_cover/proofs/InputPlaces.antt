-- The places behind an input that a function has facts of, and that what is reached there through a pointer without const, and isn't kept, is mutating.
use Rattle.std.proofs.Common.{◌≡◌, ◌⊎◌, inl, inr, ⊎_elim, ℕ, zero, suc, Bool, true, false, List, [], ◌∷◌, Option, Some, None, refl, sym, ap, subst, ◌∙◌}
use Rattle.std.specs.Prelude.{Contains, map, not, slice_get, take, ◌&&◌, ◌++◌, ◌||◌}
use Rattle.std.specs.List.{flat_map}
use Rattle.std.proofs.lemmas.Bool.{false≢true}
use Rattle.std.proofs.lemmas.List.Elements.{Contains-append_left, Contains-append_right}
use Rattle.life_types.specs.Trees.{IsOrdered, holds_owner, tree_at, tree_of, members_at}
use Rattle.life_types.specs.Trees as trees
use Rattle.life_types.proofs.TreeLemmas.{tree_made}
use Rattle.life_types.specs.TypeTests.{is_constant}
use Rattle.life_types.specs.Types.{Types}
use Rattle.life_types.specs.declared.ty.Ty.{Ty}
use Rattle.life_types.specs.declared.ty.Ty.TheVariants as ty
use Rattle.life_types.specs.declared.ty.TyId.{TyId}
use Rattle.life_core.specs.declared.program.Local.{Local}
use Rattle.life_core.specs.Function.{Function}
use Rattle.life_pset.specs.Elements.{Input, caused_elements, elements_of, input_places, inputs_of, objects_from, places_in}
use Rattle.life_pset.specs.Places.{root_place}
use Rattle.life_pset.specs.Shapes.{target_type, tree_if, ty_if}
use Rattle.life_pset.specs.declared.element.AbsPlace.{AbsPlace}
use Rattle.life_pset.specs.declared.element.Element.{Element}
use Rattle.life_pset.specs.declared.element.Element.TheVariants as element
use Rattle.life_pset.specs.declared.element.Root.{Root}
use Rattle.life_pset.specs.declared.element.Root.TheVariants as root
use Rattle.life_contract.specs.Inputs.{bears_keeps, input_parameter, is_mutating, parameter_in}
use Rattle.life_contract.specs.Signatures.{parameter_of, signature_of}
use Rattle.life_rules.specs.Keeping.{is_kept}
use Rattle.life_rules.proofs.Giving.{cons_cases, flat_map_into, none_in_empty}
use Rattle.life_store.specs.Content.{Content}
use Rattle.life_store.specs.Parts.{characters_type, members_if, members_of}
use Rattle.life_store.proofs.CellLemmas.{none_some, some_same}
use Rattle.life_forest.proofs.Laying.{none_behind}
use Rattle.life_cover.specs.Inputs.{IsInput, may_change, owning, test_input}
use Rattle.life_cover.specs.Regions.{Goes, Lies, Region, owned_in_type}
use Rattle.life_cover.proofs.Listing.{map_into, place_itself}

-- a character of a string has no type in the table
characters_tree : (types : Types) → IsOrdered types → tree_at types (characters_type types) ≡ trees.Void
characters_tree types ordered = tree_made types ordered (characters_type types) ∙ ap (tree_of types (tree_at types)) (none_behind types ordered types.types)

-- ---- places

-- each place behind an input is among the elements
pub input_known : (types : Types) (f : Function) (i : Input) → Contains (inputs_of types f) i → (z : AbsPlace) → Contains (input_places types i) z → Contains (elements_of types f) (element.At z)
input_known types f i among z has =
    Contains-append_right (element.Null ∷ element.Own ∷ element.Static ∷ []) (objects ++ (behind ++ caused_elements f)) (element.At z)
    (Contains-append_right objects (behind ++ caused_elements f) (element.At z)
    (Contains-append_left behind (caused_elements f) (element.At z)
    (map_into element.At (flat_map (input_places types) (inputs_of types f)) z (flat_map_into (input_places types) (inputs_of types f) i z among has))))
  where
    objects : List Element
    objects = map element.At (objects_from types f.parameters 0 f.locals)

    behind : List Element
    behind = map element.At (flat_map (input_places types) (inputs_of types f))

module _ (types : Types) (ordered : IsOrdered types) (f : Function) (r : Root) (a : Region) (i : IsInput types f r a) where
  pub place_behind : (z : AbsPlace) → Contains (places_in (root_place r) (tree_at types a.ty)) z → Contains (elements_of types f) (element.At z)
  place_behind z has = input_known types f i.input i.among z (subst (λ (ro : Root). Contains (places_in (root_place ro) (tree_if types (target_type types i.input.ty))) z) (sym i.named) (go i.type))
    where
      only : (z ≡ root_place r) → Contains (places_in (root_place r) (tree_if types (target_type types i.input.ty))) z
      only e = subst (Contains (places_in (root_place r) (tree_if types (target_type types i.input.ty)))) (sym e) (place_itself (root_place r) (tree_if types (target_type types i.input.ty)))

      single : Contains (places_in (root_place r) trees.Void) z → z ≡ root_place r
      single h = ⊎_elim (λ e. sym e) (λ none. absurd (none_in_empty z none)) (cons_cases (root_place r) [] z h)

      go : (target_type types i.input.ty ≡ Some a.ty) ⊎ (a.ty ≡ characters_type types) → Contains (places_in (root_place r) (tree_if types (target_type types i.input.ty))) z
      go (inl e) = subst (λ (id : Option TyId). Contains (places_in (root_place r) (tree_if types id)) z) (sym e) has
      go (inr e) = only (single (subst (λ (t : trees.TypeTree). Contains (places_in (root_place r) t) z) (ap (tree_at types) e ∙ characters_tree types ordered) has))

-- ---- what has owners

module _ (types : Types) (ordered : IsOrdered types) where
  pub owner_holds : (id item : TyId) → owned_in_type types (slice_get types.types id.0) ≡ Some item → holds_owner (tree_at types id) ≡ true
  owner_holds id item owned = ap holds_owner (tree_made types ordered id) ∙ go (slice_get types.types id.0) owned
    where
      go : (o : Option Ty) → owned_in_type types o ≡ Some item → holds_owner (tree_of types (tree_at types) o) ≡ true
      go (Some ty.Text) e = refl
      go (Some (ty.Vector part)) e = refl
      go (Some (ty.Unique part)) e = refl
      go None e = absurd (none_some e)
      go (Some _) e = absurd (none_some e)

  -- a struct with a member that has one
  pub struct_holds : (id : TyId) (m : ℕ) (part : TyId) → slice_get (members_of types id) m ≡ Some part → holds_owner (tree_at types part) ≡ true → holds_owner (tree_at types id) ≡ true
  struct_holds id m part typed h = ap holds_owner (tree_made types ordered id) ∙ go (slice_get types.types id.0) typed
    where
      either : (a b : Bool) → (a ≡ true) ⊎ (b ≡ true) → (a || b) ≡ true
      either true b e = refl
      either false b (inl e) = absurd (false≢true e)
      either false b (inr e) = e

      among : (ids : List TyId) (j : ℕ) → slice_get ids j ≡ Some part → holds_owner (trees.struct_of (tree_at types) ids) ≡ true
      among [] j e = absurd (none_some e)
      among (x ∷ ids) zero e = either (holds_owner (tree_at types x)) (holds_owner (trees.struct_of (tree_at types) ids)) (inl (ap (λ (i : TyId). holds_owner (tree_at types i)) (some_same e) ∙ h))
      among (x ∷ ids) (suc j) e = either (holds_owner (tree_at types x)) (holds_owner (trees.struct_of (tree_at types) ids)) (inr (among ids j e))

      go : (o : Option Ty) → slice_get (members_if types o) m ≡ Some part → holds_owner (tree_of types (tree_at types) o) ≡ true
      go (Some (ty.Struct number)) e = among (members_at types number) m e
      go None e = absurd (none_some e)
      go (Some _) e = absurd (none_some e)

  pub holds_up : (c : Content) (ss : List ℕ) (a b : Region) → Lies types c ss a b → holds_owner (tree_at types b.ty) ≡ true → holds_owner (tree_at types a.ty) ≡ true
  holds_up c [] a b lies h = subst (λ (x : Region). holds_owner (tree_at types x.ty) ≡ true) (sym lies) h
  holds_up c (s ∷ ss) a b lies h = step lies.1 (holds_up c ss lies.0 b lies.2 h)
    where
      step : Goes types c s a lies.0 → holds_owner (tree_at types lies.0.ty) ≡ true → holds_owner (tree_at types a.ty) ≡ true
      step (inl m) inner = struct_holds a.ty s lies.0.ty m.type inner
      step (inr o) inner = owner_holds a.ty lies.0.ty o.type

-- ---- what is kept

-- the parameter of a signature keeps what the local does
kept_parameter : (n : ℕ) (ls : List Local) (q : ℕ) → bears_keeps (slice_get (map parameter_of (take n ls)) q) ≡ true → is_kept (slice_get ls q) ≡ true
kept_parameter zero ls q h = absurd (false≢true h)
kept_parameter (suc n) [] q h = absurd (false≢true h)
kept_parameter (suc n) (l ∷ ls) zero h = h
kept_parameter (suc n) (l ∷ ls) (suc q) h = kept_parameter n ls q h

-- so an input without const behind which there is an owner, and whose parameter doesn't keep it, is mutating
pub mutating_input : (types : Types) (ordered : IsOrdered types) (f : Function) (q : ℕ) (member : Option ℕ) (a : Region) → IsInput types f (root.Input q member) a → may_change types f (root.Input q member) ≡ true → holds_owner (tree_at types a.ty) ≡ true
    → is_kept (slice_get f.locals q) ≡ false → owning types f (root.Input q member) ≡ true
mutating_input types ordered f q member a i may holds free = ap (test_input (is_mutating types (signature_of f))) i.is ∙ all (is_constant (ty_if types i.input.ty)) (bears_keeps (input_parameter (signature_of f) i.input)) writable owner kept
  where
    writable : not (is_constant (ty_if types i.input.ty)) ≡ true
    writable = sym (ap (test_input (λ j. not (is_constant (ty_if types j.ty)))) i.is) ∙ may

    owner : holds_owner (tree_if types (target_type types i.input.ty)) ≡ true
    owner = go i.type
      where
        go : (target_type types i.input.ty ≡ Some a.ty) ⊎ (a.ty ≡ characters_type types) → holds_owner (tree_if types (target_type types i.input.ty)) ≡ true
        go (inl e) = ap (λ (id : Option TyId). holds_owner (tree_if types id)) e ∙ holds
        go (inr e) = absurd (false≢true (ap holds_owner (sym (ap (tree_at types) e ∙ characters_tree types ordered)) ∙ holds))

    kept : bears_keeps (input_parameter (signature_of f) i.input) ≡ true → ⊥
    kept h = false≢true (sym free ∙ kept_parameter f.parameters f.locals q (subst (λ (ro : Root). bears_keeps (slice_get (signature_of f).parameters (parameter_in ro)) ≡ true) i.named h))

    all : (constant keeps : Bool) → not constant ≡ true → holds_owner (tree_if types (target_type types i.input.ty)) ≡ true → (keeps ≡ true → ⊥) → (not constant && (holds_owner (tree_if types (target_type types i.input.ty)) && not keeps)) ≡ true
    all true keeps w h k = absurd (false≢true w)
    all false true w h k = absurd (k refl)
    all false false w h k = ap (λ b. b && true) h
