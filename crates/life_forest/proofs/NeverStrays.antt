-- No run of a proper program strays, whatever the kinds of its instructions.
use Rattle.std.proofs.Common.{◌≡◌, ℕ, zero, suc, ◌+◌, ◌≤◌, ◌<◌, Bool, true, false, ◌&&◌, List, [], ◌∷◌, length, Option, Some, None, refl, sym, subst, ◌∙◌, arith, ap}
use Rattle.std.proofs.lemmas.Bool.{and_parts, false≢true}
use Rattle.std.specs.Prelude.{ℤ, map, nat_eq, nat_lt, not, slice_get, take}
use Rattle.std.specs.List.{list_all}
use Rattle.life_types.specs.Pointees.{or_void, ty_of}
use Rattle.life_types.specs.TypeTests.{is_pointer, is_value, is_void}
use Rattle.life_types.specs.Types.{Types, class}
use Rattle.life_types.specs.declared.place.Place.{Place}
use Rattle.life_types.specs.declared.ty.NameId.{NameId}
use Rattle.life_types.specs.declared.ty.Ty.{Ty}
use Rattle.life_types.specs.declared.ty.Ty.TheVariants as ty
use Rattle.life_types.specs.declared.ty.TyId.{TyId}
use Rattle.life_core.specs.declared.program.Local.{Local}
use Rattle.life_core.specs.declared.program.LocalKind.{LocalKind}
use Rattle.life_core.specs.Function.{Function, Program}
use Rattle.life_core.specs.Holdings.{APointer, AView, AnObject, Blank, held_if, sort_of_local}
use Rattle.life_core.specs.Proper.{HasReadyWays, HaveReadyWays, IsReadyProgram}
use Rattle.life_proper.specs.GivenOver.{all_keep_given, keeps_all_given}
use Rattle.life_proper.specs.WellFormed.{is_well_formed_spot}
use Rattle.life_proper.specs.WellFormed as formed
use Rattle.life_proper.specs.WellFormedPrograms.{IsWellFormedProgram, have_names, is_name, is_well_formed_function}
use Rattle.life_proper.proofs.FormedSpots.{formed_spots}
use Rattle.life_proper.proofs.SortedNodes.{formed_parts}
use Rattle.life_proper.proofs.SpotTests.{all_at, point_tested}
use Rattle.life_store.specs.Calls.{entry_arguments}
use Rattle.life_store.specs.Content.{Content, empty_content}
use Rattle.life_store.specs.Effects.{Given}
use Rattle.life_store.specs.Meaning.{AreObjects, Back, Barred, Called, Exhausted, Faulted, IsAdmitted, IsFound, Quit, Stray, Trapped, first_called, first_world, run_from, run_of, setting_of}
use Rattle.life_store.specs.State.{Number, World}
use Rattle.life_store.proofs.CellLemmas.{none_some, some_same}
use Rattle.life_forest.specs.Frames.{named_in}
use Rattle.life_forest.specs.Owned.{times}
use Rattle.life_forest.proofs.CallersGo.{GoodCalled}
use Rattle.life_forest.proofs.CallsGo.{GoesWell, calls_good}
use Rattle.life_forest.proofs.FrameChanges.{lt_of}
use Rattle.life_forest.proofs.Frames.{less_in_hand}
use Rattle.life_forest.proofs.HandedOver.{AreTaken, IsTaken, IsTakenIf}
use Rattle.life_forest.proofs.SettlingLives.{HaveMembers}
use Rattle.life_forest.proofs.Shaped.{local_formed, no_slot}
use Rattle.life_forest.proofs.SlotSorts.{taken_type, value_free}
use Rattle.life_forest.proofs.Slots.{ArePointsFormed}
use Rattle.life_forest.proofs.Worked.{empty_store}

-- ---- what a well-formed program is asked for

pub have_members : (types : Types) (names : ℕ) (members : List (List NameId)) → have_names names types.structs members ≡ true → HaveMembers types
have_members types names members e number ids there = go types.structs members e number there
  where
    go : (structs : List (List TyId)) (members : List (List NameId)) → have_names names structs members ≡ true → (number : ℕ) → slice_get structs number ≡ Some ids → 0 < length ids
    go [] members h number k = absurd (none_some k)
    go (s ∷ structs) [] h number k = absurd (false≢true h)
    go (s ∷ structs) (ns ∷ members) h zero k = subst (λ (x : List TyId). 0 < length x) (some_same k) (lt_of 0 (length s) (and_parts (nat_lt 0 (length s)) _ h).0)
    go (s ∷ structs) (ns ∷ members) h (suc number) k =
        let a = and_parts (nat_lt 0 (length s)) _ h in
        let b = and_parts (nat_eq (length s) (length ns)) _ a.1 in
        go structs members (and_parts (list_all (is_name names) ns) (have_names names structs members) b.1).1 number k

pub points_formed : (types : Types) (names texts : ℕ) (fs : List Function) (f : Function) → is_well_formed_function types names texts fs f ≡ true → ArePointsFormed types texts fs f
points_formed types names texts fs f e p l at = point_tested (is_well_formed_spot types texts fs f) f p l (formed_spots types texts fs f f.body ∙ (formed_parts types names texts fs f e).body) at

ways_at : (types : Types) (fs : List Function) (n : ℕ) (f : Function) → HaveReadyWays types fs → slice_get fs n ≡ Some f → HasReadyWays types f
ways_at types [] n f h at = absurd (none_some at)
ways_at types (g ∷ gs) zero f h at = subst (HasReadyWays types) (some_same at) h.0
ways_at types (g ∷ gs) (suc n) f h at = ways_at types gs n f h.1 at

-- ---- what the entry is given: numbers

object_value : (k : LocalKind) (o : Option Ty) → held_if (class o) k o ≡ AnObject → is_void (or_void o) ≡ false → is_value (or_void o) ≡ true
object_value k None e solid = absurd (false≢true (sym solid))
object_value k (Some ty.Void) e solid = absurd (false≢true (sym solid))
object_value k (Some ty.Bool) e solid = refl
object_value k (Some ty.Char) e solid = refl
object_value k (Some ty.Int) e solid = refl
object_value k (Some ty.Long) e solid = refl
object_value k (Some ty.Size) e solid = refl
object_value k (Some ty.Text) e solid = absurd (blank e)
  where
    blank : Blank ≡ AnObject → ⊥
    blank h = cc
object_value k (Some (ty.Vector element)) e solid = absurd (blank e)
  where
    blank : Blank ≡ AnObject → ⊥
    blank h = cc
object_value k (Some (ty.Unique target)) e solid = absurd (blank e)
  where
    blank : Blank ≡ AnObject → ⊥
    blank h = cc
object_value k (Some (ty.Struct number)) e solid = absurd (blank e)
  where
    blank : Blank ≡ AnObject → ⊥
    blank h = cc
object_value k (Some (ty.Iterator target constant)) e solid = absurd (blank e)
  where
    blank : Blank ≡ AnObject → ⊥
    blank h = cc
object_value k (Some (ty.Span target constant)) e solid = absurd (blank e)
  where
    blank : Blank ≡ AnObject → ⊥
    blank h = cc
object_value k (Some (ty.Raw target constant)) e solid = absurd (pointer e)
  where
    pointer : APointer ≡ AnObject → ⊥
    pointer h = cc
object_value k (Some (ty.Reference target constant)) e solid = absurd (pointer e)
  where
    pointer : APointer ≡ AnObject → ⊥
    pointer h = cc
object_value k (Some ty.View) e solid = absurd (view e)
  where
    view : AView ≡ AnObject → ⊥
    view h = cc

module _ (types : Types) (f : Function) (c : Content) where
  -- a value is no slot
  value_taken : (id : TyId) → is_value (ty_of types id) ≡ true → is_value (ty_of types (taken_type types id)) ≡ true
  value_taken id value = ap (λ (i : TyId). is_value (ty_of types i)) (no_slot types id (slice_get types.types id.0) (value_free types (slice_get types.types id.0) value)) ∙ value

  value_given : (id : TyId) (z : ℤ) → is_value (ty_of types id) ≡ true → IsTaken types c id (Number z)
  value_given id z value =
      subst (λ (b : Bool). IsTakenIf b types c (taken_type types id) (Number z))
      (sym (ap (λ (b : Bool). b && not (is_pointer (ty_of types (taken_type types id)))) (value_free types (slice_get types.types id.0) value)))
      (value_taken id value)

  pub numbers_handed : (n : ℕ) (ls : List Local) (x : ℕ) (input : List ℤ) → AreObjects (map (sort_of_local types) (take n ls)) → n ≤ length ls → n ≤ length input → ((i : ℕ) (l : Local) → slice_get ls i ≡ Some l → is_void (ty_of types l.ty) ≡ false)
      → AreTaken types c (map formed.local_type (take n ls)) (entry_arguments types f x n input)
  numbers_handed zero ls x input objects le enough solid = tt
  numbers_handed (suc n) [] x input objects le enough solid = absurd (omega (arith, le))
  numbers_handed (suc n) (l ∷ ls) x [] objects le enough solid = absurd (omega (arith, enough))
  numbers_handed (suc n) (l ∷ ls) x (z ∷ zs) objects le enough solid = (
    value_given l.ty _ (object_value l.kind (slice_get types.types l.ty.0) objects.0 (solid 0 l refl)),
    numbers_handed n ls (x + 1) zs objects.1 (omega (arith, le)) (omega (arith, enough)) (λ i m e. solid (suc i) m e),
  )

  pub none_named : (x n : ℕ) (input : List ℤ) (k : ℕ) → times (named_in (entry_arguments types f x n input)) k ≡ 0
  none_named x zero input k = refl
  none_named x (suc n) [] k = refl
  none_named x (suc n) (z ∷ zs) k = none_named (x + 1) n zs k

-- ---- runs

called_found : (types : Types) (f : Function) (entry : Place) (before : World) (c : Content) (r : Called) → GoodCalled types f (λ k. 0) c r → IsFound (run_from entry before r).outcome
called_found types f entry before c (Back n w values) g = tt
called_found types f entry before c (Barred kind) g = tt
called_found types f entry before c (Quit (Trapped kind place) w) g = tt
called_found types f entry before c (Quit (Faulted kind place) w) g = tt
called_found types f entry before c (Quit Stray w) g = g
called_found types f entry before c (Quit Exhausted w) g = tt

pub never_strays : (p : Program) (given : Given) (entry : ℕ) (f : Function) (input : List ℤ) (n : ℕ) → IsWellFormedProgram p → IsReadyProgram p → keeps_all_given p ≡ true → slice_get p.functions entry ≡ Some f → IsAdmitted p f input
    → IsFound (run_of given p entry f input n).outcome
never_strays p given entry f input n well ready apart is admitted =
    called_found p.types f f.place (first_world f input) empty_content (first_called given p entry f input n)
    (calls_good (setting_of given p) p well.table well.once (have_members p.types (length p.names) p.members well.members) (length p.names) (length p.texts) each given.depth entry f (λ k. 0) (entry_arguments p.types f 0 f.parameters input) n (first_world f input) is
    (numbers_handed p.types f empty_content f.parameters f.locals 0 input admitted.values admitted.room admitted.enough solid)
    (less_in_hand p.types (λ k. 0) (λ k. times (named_in (entry_arguments p.types f 0 f.parameters input)) k + 0) empty_content (λ k. let z = none_named p.types f empty_content 0 f.parameters input k in omega (arith, z)) (empty_store p.types)))
  where
    formed_function : (k : ℕ) (g : Function) → slice_get p.functions k ≡ Some g → is_well_formed_function p.types (length p.names) (length p.texts) p.functions g ≡ true
    formed_function k g at = all_at (is_well_formed_function p.types (length p.names) (length p.texts) p.functions) p.functions k g well.functions at

    each : (k : ℕ) (g : Function) → slice_get p.functions k ≡ Some g → GoesWell p.types (length p.names) (length p.texts) p.functions g
    each k g at = record {
      formed = formed_function k g at;
      points = points_formed p.types (length p.names) (length p.texts) p.functions g (formed_function k g at);
      ready = ways_at p.types p.functions k g ready at;
      given = all_at (all_keep_given p.types) p.functions k g apart at;
    }

    solid : (i : ℕ) (l : Local) → slice_get f.locals i ≡ Some l → is_void (ty_of p.types l.ty) ≡ false
    solid i l at = not_true (is_void (ty_of p.types l.ty)) (and_parts (not (is_void (ty_of p.types l.ty))) _ (local_formed p.types well.table (length p.names) f.parameters f.locals i l (formed_parts p.types (length p.names) (length p.texts) p.functions f (formed_function entry f is)).locals at)).0
      where
        not_true : (b : Bool) → not b ≡ true → b ≡ false
        not_true true k = absurd (false≢true k)
        not_true false k = refl
