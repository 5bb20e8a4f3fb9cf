-- An owner is moved, as it is asked of well-formed instructions: to another local or a member of one, and a vector or a string to a place behind a
-- pointer as well.
use Rattle.std.proofs.Common.{◌≡◌, ℕ, Bool, true, false, List, [], ◌∷◌, refl, sym, ap, subst, ◌∙◌, arith, ◌≢◌, ◌⊎◌, ⊎_elim, inl, inr, Option}
use Rattle.std.specs.Prelude.{◌&&◌, nat_eq, not}
use Rattle.std.proofs.lemmas.Bool.{and_parts, false≢true}
use Rattle.std.proofs.lemmas.Bool.Decides.{nat_tests}
use Rattle.life_types.specs.TypeTests.{is_unique, is_void}
use Rattle.life_types.specs.Types.{Types}
use Rattle.life_types.specs.declared.place.Place.{Place}
use Rattle.life_types.specs.declared.ty.Ty.{Ty}
use Rattle.life_types.specs.declared.ty.Ty.TheVariants as ty
use Rattle.life_core.specs.Function.{Function}
use Rattle.life_core.specs.Operands.{Location, Operand, whole}
use Rattle.life_core.specs.Operands as named
use Rattle.life_core.specs.Step.{Move}
use Rattle.life_pset.specs.declared.element.Fact.{Fact}
use Rattle.life_pset.specs.Shapes.{has_buffer}
use Rattle.life_pset.specs.Shapes as shapes
use Rattle.life_pset.specs.declared.element.Root.{Root}
use Rattle.life_contract.specs.Signatures.{Signature}
use Rattle.life_proper.specs.OperandTypes.{is_owner, same}
use Rattle.life_proper.specs.Placed.{is_const_place, object_at, result_at, type_at, type_in, type_of}
use Rattle.life_proper.specs.WellFormed.{is_itself, is_well_formed_step, is_whole}
use Rattle.life_proper.proofs.HeldSorts.{same_is}
use Rattle.life_store.specs.State.{State}
use Rattle.life_forest.proofs.OneNumber.{same_solid}
use Rattle.life_cover.proofs.KnownFrames.{IsKnownFrame, IsRight, memberless, solid_type, typed}
use Rattle.life_cover.proofs.MovedFacts.{IsBeside, member_beside, through_beside}
use Rattle.life_cover.proofs.PlainTargets.{through_other}
use Rattle.life_cover.specs.Regions.{Region}

-- what is moved is a unique_ptr, a vector or a string
owner_sort : (t : Ty) → is_owner t ≡ true → (is_unique t ≡ true) ⊎ (has_buffer t ≡ true)
owner_sort ty.Text e = inr refl
owner_sort (ty.Vector element) e = inr refl
owner_sort (ty.Unique target) e = inl refl
owner_sort _ e = absurd (false≢true e)

pub unique_solid : (t : Ty) → is_unique t ≡ true → is_void t ≡ false
unique_solid (ty.Unique target) e = refl
unique_solid _ e = absurd (false≢true e)

eq_same : (x : ℕ) → nat_eq x x ≡ true
eq_same x = grind (arith, nat_tests)

not_true : (b : Bool) → not b ≡ true → b ≡ false
not_true true e = absurd (false≢true e)
not_true false e = refl

module _ (types : Types) (f : Function) (rest : ℕ → ℕ) (inputs : Root → Option Region) (S : Fact → Type 0) (st : State) (k : IsKnownFrame types f rest inputs S st) (sigs : List Signature) (number : ℕ) (place : Place) (S' : Fact → Type 0) (texts : ℕ) (fs : List Function) (y : ℕ) where
  -- what is asked of unique_ptrs, which are locals or members of them
  abbrev pub OfUniques : (Operand → Type 0) → Type 0
  OfUniques Q = (to : Location) → IsRight sigs types number f place (Move (named.Name to) y) S S' → is_unique (type_in types f to) ≡ true → type_in types f to ≡ type_at types f y → to.local ≢ y → Q (named.Name to)

  -- .. of vectors and strings that are whole locals
  abbrev pub OfLocals : (Operand → Type 0) → Type 0
  OfLocals Q = (x : ℕ) → IsRight sigs types number f place (Move (named.Name (whole x)) y) S S' → has_buffer (type_at types f x) ≡ true → type_at types f x ≡ type_at types f y → x ≢ y → Q (named.Name (whole x))

  -- .. and of those that are members, or behind pointers
  abbrev pub OfPlaces : (Operand → Type 0) → Type 0
  OfPlaces Q = (to : Operand) → IsBeside sigs types f place y S S' inputs st to → IsRight sigs types number f place (Move to y) S S' → has_buffer (type_at types f y) ≡ true → type_of types f to ≡ type_at types f y → is_const_place types f to ≡ false → Q to

  module _ (Q : Operand → Type 0) (unique : OfUniques Q) (buffer : OfLocals Q) (placed : OfPlaces Q) where
    at_whole : (x : ℕ) → IsRight sigs types number f place (Move (named.Name (whole x)) y) S S' → has_buffer (type_at types f x) ≡ true → same (type_of types f (named.Name (whole x))) (type_at types f y) ≡ true
        → is_itself types texts fs f y (named.Name (whole x)) ≡ false → Q (named.Name (whole x))
    at_whole x right is alike other = buffer x right is types_same apart
      where
        types_same : type_at types f x ≡ type_at types f y
        types_same = typed types f rest inputs S st k (named.Name (whole x)) (same_solid (type_of types f (named.Name (whole x))) (type_at types f y) alike) ∙ same_is (type_of types f (named.Name (whole x))) (type_at types f y) alike

        apart : x ≢ y
        apart h = false≢true (sym other ∙ subst (λ z. nat_eq x z ≡ true) h (eq_same x))

    -- a unique_ptr, which isn't the local itself
    at_unique : (l : Location) → IsRight sigs types number f place (Move (named.Name l) y) S S' → is_unique (type_in types f l) ≡ true → same (type_of types f (named.Name l)) (type_at types f y) ≡ true → is_itself types texts fs f y (named.Name l) ≡ false → Q (named.Name l)
    at_unique l right is alike other = unique l right is types_same apart
      where
        solid : is_void (type_of types f (named.Name l)) ≡ false
        solid = same_solid (type_of types f (named.Name l)) (type_at types f y) alike

        types_same : type_in types f l ≡ type_at types f y
        types_same = typed types f rest inputs S st k (named.Name l) solid ∙ same_is (type_of types f (named.Name l)) (type_at types f y) alike

        apart : l.local ≢ y
        apart h =
            let none = memberless types (shapes.local_type types f l.local) l.members (subst (λ z. is_unique (type_at types f z) ≡ true) (sym h) (ap is_unique (sym types_same) ∙ is)) (solid_type types f rest inputs S st k (named.Name l) solid) in
            false≢true (sym (subst (λ (ms : List ℕ). (is_whole (record { local = l.local; members = ms }) && nat_eq l.local y) ≡ false) none other) ∙ subst (λ z. nat_eq l.local z ≡ true) h (eq_same l.local))

    -- a vector or a string that is a local
    at_local : (l : Location) → whole l.local ≡ l → IsRight sigs types number f place (Move (named.Name l) y) S S' → has_buffer (type_in types f l) ≡ true → same (type_of types f (named.Name l)) (type_at types f y) ≡ true → is_itself types texts fs f y (named.Name l) ≡ false → Q (named.Name l)
    at_local l is =
        subst (λ (q : Location). IsRight sigs types number f place (Move (named.Name q) y) S S' → has_buffer (type_in types f q) ≡ true → same (type_of types f (named.Name q)) (type_at types f y) ≡ true → is_itself types texts fs f y (named.Name q) ≡ false → Q (named.Name q)) is (at_whole l.local)

    -- .. or a member
    at_location : (l : Location) → IsRight sigs types number f place (Move (named.Name l) y) S S' → (is_unique (type_in types f l) ≡ true) ⊎ (has_buffer (type_in types f l) ≡ true) → same (type_of types f (named.Name l)) (type_at types f y) ≡ true
        → is_itself types texts fs f y (named.Name l) ≡ false → is_const_place types f (named.Name l) ≡ false → Q (named.Name l)
    at_location l right (inl is) alike other free = at_unique l right is alike other
    at_location l right (inr is) alike other free = go l.members refl
      where
        go : (ms : List ℕ) → l.members ≡ ms → Q (named.Name l)
        go [] e = at_local l (ap (λ (ms : List ℕ). record { local = l.local; members = ms }) (sym e)) right is alike other
        go (m ∷ ms) e =
            let solid = same_solid (type_of types f (named.Name l)) (type_at types f y) alike in
            let types_same = same_is (type_of types f (named.Name l)) (type_at types f y) alike in
            placed (named.Name l) (member_beside sigs types f place y S S' inputs st l m ms e right.closed) right
            (subst (λ (t : Ty). has_buffer t ≡ true) (typed types f rest inputs S st k (named.Name l) solid ∙ types_same) is) types_same free

    -- what is behind a pointer is no unique_ptr
    at_place : (p : Location) (members : List ℕ) → IsRight sigs types number f place (Move (named.Through p members) y) S S' → is_owner (type_of types f (named.Through p members)) ≡ true → same (type_of types f (named.Through p members)) (type_at types f y) ≡ true
        → is_const_place types f (named.Through p members) ≡ false → Q (named.Through p members)
    at_place p members right owner alike free =
        let solid = same_solid (type_of types f (named.Through p members)) (type_at types f y) alike in
        let types_same = same_is (type_of types f (named.Through p members)) (type_at types f y) alike in
        ⊎_elim
        (λ is. absurd (false≢true (sym (through_other types f rest inputs S st k p members solid) ∙ is)))
        (λ is. placed (named.Through p members) (through_beside sigs types f place y S S' inputs st p members right.closed) right (subst (λ (t : Ty). has_buffer t ≡ true) types_same is) types_same free)
        (owner_sort (type_of types f (named.Through p members)) owner)

    pub by_move : (to : Operand) → IsRight sigs types number f place (Move to y) S S' → is_well_formed_step types texts fs f (Move to y) ≡ true → Q to
    by_move (named.Through p members) right e =
        let outer = and_parts (is_owner (type_of types f (named.Through p members))) _ e in
        let object = and_parts (object_at types f y) _ outer.1 in
        let alike = and_parts (same (type_of types f (named.Through p members)) (type_at types f y)) _ object.1 in
        let result = and_parts (not (result_at types f y)) _ alike.1 in
        let itself = and_parts (not (is_itself types texts fs f y (named.Through p members))) (not (is_const_place types f (named.Through p members))) result.1 in
        at_place p members right outer.0 alike.0 (not_true (is_const_place types f (named.Through p members)) itself.1)
    by_move (named.Name l) right e =
        let outer = and_parts (is_owner (type_of types f (named.Name l))) _ e in
        let object = and_parts (object_at types f y) _ outer.1 in
        let alike = and_parts (same (type_of types f (named.Name l)) (type_at types f y)) _ object.1 in
        let result = and_parts (not (result_at types f y)) _ alike.1 in
        let itself = and_parts (not (is_itself types texts fs f y (named.Name l))) (not (is_const_place types f (named.Name l))) result.1 in
        let solid = same_solid (type_of types f (named.Name l)) (type_at types f y) alike.0 in
        let sort = owner_sort (type_in types f l) (subst (λ (t : Ty). is_owner t ≡ true) (sym (typed types f rest inputs S st k (named.Name l) solid)) outer.0) in
        at_location l right sort alike.0 (not_true (is_itself types texts fs f y (named.Name l)) itself.0) (not_true (is_const_place types f (named.Name l)) itself.1)
