-- The first frame of a call is sound when its parameters have what was handed over.
use Rattle.std.proofs.Common.{◌≡◌, ℕ, zero, suc, ◌+◌, ◌≤◌, ◌<◌, Bool, true, false, ◌||◌, not, List, [], ◌∷◌, length, map, take, Option, Some, None, refl, sym, ap, subst, ◌∙◌, arith}
use Rattle.std.proofs.lemmas.Bool.{and_parts, false≢true}
use Rattle.std.proofs.lemmas.Bool.Decides.{nat_tests}
use Rattle.std.specs.Prelude.{is_some, nat_lt, slice_get}
use Rattle.life_types.specs.Pointees.{ty_of}
use Rattle.life_types.specs.Trees.{IsOrdered, tree_at}
use Rattle.life_types.specs.TypeTests.{is_pointer, is_value, is_void}
use Rattle.life_types.specs.Types.{Types, is_slot_at}
use Rattle.life_types.specs.declared.ty.NameId.{NameId}
use Rattle.life_types.specs.declared.ty.Ty.{Ty}
use Rattle.life_types.specs.declared.ty.TyId.{TyId}
use Rattle.life_core.specs.declared.program.Local.{Local}
use Rattle.life_core.specs.declared.program.LocalKind.{LocalKind}
use Rattle.life_core.specs.declared.program.LocalKind.TheVariants as kind
use Rattle.life_core.specs.Function.{Function}
use Rattle.life_core.specs.Ready.{Ready, entry_ready, given_ready}
use Rattle.life_pset.specs.Shapes.{shape, shape_of, ty_if}
use Rattle.life_proper.specs.Placed.{type_at}
use Rattle.life_proper.specs.WellFormed.{types_taken}
use Rattle.life_proper.specs.WellFormed as formed
use Rattle.life_proper.specs.WellFormedPrograms.{fits_kind, is_name_if, is_named_as, is_well_formed_local, may_stand}
use Rattle.life_store.specs.Calls.{parameters_given}
use Rattle.life_store.specs.Content.{Content}
use Rattle.life_store.specs.Effects.{Setting}
use Rattle.life_store.specs.Meaning.{empty_cell, frame}
use Rattle.life_store.specs.Parts.{held_type_if}
use Rattle.life_store.specs.State.{Cell, Empty, Named, Pointer, Points, World, is_there}
use Rattle.life_store.proofs.Entering.{empty_cells}
use Rattle.life_forest.specs.Frames.{named_in}
use Rattle.life_forest.specs.Owned.{times}
use Rattle.life_forest.specs.Settled.{KindsFit}
use Rattle.life_forest.specs.Sorted.{Fits, sort_at}
use Rattle.life_forest.specs.Typed.{IsStore}
use Rattle.life_forest.proofs.EnteredFrames.{AreTaking, GivesOn}
use Rattle.life_forest.proofs.Frames.{less_in_hand}
use Rattle.life_forest.proofs.HandedOver.{AreHandedTo, ArePointerSlots, AreTaken}
use Rattle.life_forest.proofs.HeldPoints.{IsSound}
use Rattle.life_forest.proofs.ParametersGo.{AreParameters, IsParameter, parameters_give}
use Rattle.life_forest.proofs.ReadyCells.{value_points}
use Rattle.life_forest.proofs.Shaped.{IsShaped}
use Rattle.life_forest.proofs.SlotSorts.{taken_type}

-- the types of the parameters' locals
abbrev pub types_held : Types → Function → List TyId
types_held types f = map (taken_type types) (types_taken f)

-- ---- a parameter that is a value is an object, since it has a name

value_object : (k : LocalKind) (t : Ty) (name : Option NameId) → is_value t ≡ true → fits_kind k t ≡ true → is_named_as k t name ≡ true → is_some name ≡ true → k ≡ kind.Object
value_object kind.Object t name value fits named some = refl
value_object kind.Range t name value fits named some = absurd (false≢true (sym (value_points t value) ∙ fits))
value_object kind.Register t None value fits named some = absurd (false≢true some)
value_object kind.Register t (Some name) value fits named some = absurd (false≢true (sym (ap not value) ∙ named))

below_true : (a b : ℕ) → a < b → nat_lt a b ≡ true
below_true a b lt = grind (arith, nat_tests)

or_true : (a b : Bool) → a ≡ true → (not a || b) ≡ true → b ≡ true
or_true true b e h = h
or_true false b e h = absurd (false≢true e)

module _ (types : Types) (names : ℕ) (f : Function) (shaped : IsShaped types f) (formed_at : (x : ℕ) (l : Local) → slice_get f.locals x ≡ Some l → is_well_formed_local types names f.parameters x l ≡ true) where
  parameter_one : (x : ℕ) (l : Local) → slice_get f.locals x ≡ Some l → x < f.parameters → IsParameter types f x l l.ty
  parameter_one x l there lt = record { there = there; type = refl; value = λ value. by_type value }
    where
      own : type_at types f x ≡ ty_of types (taken_type types l.ty)
      own = ap (ty_if types) (shaped x ∙ ap (held_type_if types) there)

      shaped_type : ty_of types (shape types f.parameters x l) ≡ type_at types f x
      shaped_type = ap (λ (o : Option Local). ty_if types (shape_of types f.parameters x o)) (sym there)

      by_type : is_value (ty_of types (taken_type types l.ty)) ≡ true → l.kind ≡ kind.Object
      by_type value =
          let t = ty_of types (shape types f.parameters x l) in
          let a = and_parts (not (is_void (ty_of types l.ty))) _ (formed_at x l there) in
          let b = and_parts (may_stand (tree_at types (shape types f.parameters x l))) _ a.1 in
          let c = and_parts (fits_kind l.kind t) _ b.1 in
          let d = and_parts (is_named_as l.kind t l.name) _ c.1 in
          let e = and_parts (is_name_if names l.name) (not (nat_lt x f.parameters) || is_some l.name) d.1 in
          value_object l.kind t l.name (ap is_value (shaped_type ∙ own) ∙ value) c.0 d.0 (or_true (nat_lt x f.parameters) (is_some l.name) (below_true x f.parameters lt) e.1)

  parameters_from : (n : ℕ) (ls : List Local) (x : ℕ) → ((i : ℕ) (l : Local) → slice_get ls i ≡ Some l → slice_get f.locals (x + i) ≡ Some l) → x + n ≤ f.parameters → AreParameters types f x (map formed.local_type (take n ls))
  parameters_from zero ls x inside le = tt
  parameters_from (suc n) [] x inside le = tt
  parameters_from (suc n) (l ∷ ls) x inside le =
      let none : x + 0 ≡ x = omega arith in (
        (l, parameter_one x l (ap (slice_get f.locals) (sym none) ∙ inside 0 l refl) (omega (arith, le))),
        parameters_from n ls (x + 1) (λ i m e. let k : x + suc i ≡ x + 1 + i = omega arith in ap (slice_get f.locals) (sym k) ∙ inside (suc i) m e) (omega (arith, le)),
      )

  pub parameters_all : AreParameters types f 0 (types_taken f)
  parameters_all = parameters_from f.parameters f.locals 0 (λ i l e. let k : i ≡ 0 + i = omega arith in ap (slice_get f.locals) (sym k) ∙ e) (omega arith)

  -- where no slot is one of a unique_ptr, each is like any local
  taking_from : (x : ℕ) (ids : List TyId) → ArePointerSlots types ids → AreParameters types f x ids → AreTaking types f x (map (taken_type types) ids)
  taking_from x [] free are = tt
  taking_from x (id ∷ ids) free are = (
    (are.0.0, record { there = are.0.1.there; type = ap (taken_type types) are.0.1.type; free = λ other. ap (is_slot_at types) are.0.1.type ∙ no_pointer (is_slot_at types id) free.0 other; value = are.0.1.value }),
    taking_from (x + 1) ids free.1 are.1,
  )
    where
      no_pointer : (b : Bool) → (b ≡ true → is_pointer (ty_of types (taken_type types id)) ≡ true) → is_pointer (ty_of types (taken_type types id)) ≡ false → b ≡ false
      no_pointer false h other = refl
      no_pointer true h other = absurd (false≢true (sym other ∙ h refl))

  pub taking_all : ArePointerSlots types (types_taken f) → AreTaking types f 0 (types_held types f)
  taking_all free = taking_from 0 (types_taken f) free parameters_all

-- ---- the frame

none_named : (ls : List Local) (k : ℕ) → times (named_in (map empty_cell ls)) k ≡ 0
none_named [] k = refl
none_named (l ∷ ls) k = none_named ls k

none_given : (ls : List Local) → map is_there (map empty_cell ls) ≡ given_ready zero ls
none_given [] = refl
none_given (l ∷ ls) = ap (λ bits. false ∷ bits) (none_given ls)

taken_many : (types : Types) (c : Content) (ids : List TyId) (vs : List Cell) → AreTaken types c ids vs → length vs ≡ length ids
taken_many types c [] [] taken = refl
taken_many types c [] (v ∷ vs) taken = absurd taken
taken_many types c (id ∷ ids) [] taken = absurd taken
taken_many types c (id ∷ ids) (v ∷ vs) taken = ap suc (taken_many types c ids vs taken.1)

pub as_many : (types : Types) (c : Content) (ids : List TyId) (vs : List Cell) → AreHandedTo types c ids vs → length vs ≡ length ids
as_many types c [] [] suits = refl
as_many types c [] (v ∷ vs) suits = absurd suits
as_many types c (id ∷ ids) [] suits = absurd suits
as_many types c (id ∷ ids) (v ∷ vs) suits = ap suc (as_many types c ids vs suits.1)

-- more than there are locals are none
all_given : (types : Types) (n : ℕ) (ls : List Local) → given_ready (length (map formed.local_type (take n ls))) ls ≡ given_ready n ls
all_given types n [] = refl
all_given types zero (l ∷ ls) = refl
all_given types (suc n) (l ∷ ls) = ap (λ bits. true ∷ bits) (all_given types n ls)

module _ (types : Types) (ordered : IsOrdered types) (f : Function) (shaped : IsShaped types f) (kinds : KindsFit types f) (rest : ℕ → ℕ) where
  first_sound : (vs : List Cell) (w : World) → IsStore types (λ k. times (named_in vs) k + rest k) w.content → IsSound types f (λ k. times (named_in vs) k + rest k) (frame f w)
  first_sound vs w store = record {
    stands = record {
      store = less_in_hand types (λ k. times (named_in vs) k + rest k) (λ k. times (named_in (map empty_cell f.locals)) k + (times (named_in vs) k + rest k)) w.content (λ k. let z = none_named f.locals k in omega (arith, z)) store;
      frame = record {
        objects = λ x n e. absurd (unnamed n (empty_cells f.locals x (Named n) e));
        pointers = λ x p e. absurd (unaimed p (empty_cells f.locals x (Points p) e));
      };
    };
    sorted = λ x v e. subst (Fits (sort_at types f x) (type_at types f x)) (empty_cells f.locals x v e) tt;
    held = λ x n id e typed. absurd (unnamed n (empty_cells f.locals x (Named n) e));
  }
    where
      unnamed : (n : ℕ) → Empty ≡ Named n → ⊥
      unnamed n e = cc

      unaimed : (p : Pointer) → Empty ≡ Points p → ⊥
      unaimed p e = cc

  pub entry_gives : (s : Setting) (vs : List Cell) (w : World) → AreParameters types f 0 (types_taken f) → IsStore types (λ k. times (named_in vs) k + rest k) w.content → AreTaken types w.content (types_taken f) vs
      → GivesOn types f rest w.content (entry_ready f) (parameters_given s types f 0 vs (frame f w))
  entry_gives s vs w are store taken =
      subst (λ (bits : Ready). GivesOn types f rest w.content bits (parameters_given s types f 0 vs (frame f w))) same
      (parameters_give types ordered f shaped kinds rest s 0 (types_taken f) vs (frame f w) are (first_sound vs w store) taken (none_given f.locals))
    where
      same : given_ready (0 + length vs) f.locals ≡ entry_ready f
      same =
          let k : 0 + length vs ≡ length (types_taken f) = omega (arith, taken_many types w.content (types_taken f) vs taken) in
          ap (λ n. given_ready n f.locals) k ∙ all_given types f.parameters f.locals
