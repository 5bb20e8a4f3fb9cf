-- What is handed over as a slot isn't given over by the same call, nor is what the call writes a member of.
use Rattle.std.proofs.Common.{◌≡◌, ℕ, zero, suc, Bool, true, false, ◌&&◌, ◌||◌, not, if◌then◌else◌, List, [], ◌∷◌, ◌++◌, Option, Some, refl, sym, ap, subst, ◌∙◌, arith}
use Rattle.std.proofs.lemmas.Bool.{and_parts, false≢true}
use Rattle.std.proofs.lemmas.Bool.Decides.{nat_tests}
use Rattle.std.specs.List.{list_all, list_any}
use Rattle.std.specs.Prelude.{flat_map, nat_eq, slice_set}
use Rattle.life_types.specs.Types.{Types}
use Rattle.life_core.specs.Function.{Function}
use Rattle.life_core.specs.Linked.{code_of, goes, numbered, spot_at}
use Rattle.life_core.specs.Operands.{Argument, GivenOver, Location, PointerOf, Slot, Value}
use Rattle.life_core.specs.Ready.{AreBits, IsThere, Ready, set_bits}
use Rattle.life_core.specs.Step.{Call}
use Rattle.life_core.specs.Touched.{argument_leaves, argument_uses, by_members, target_uses}
use Rattle.life_core.specs.Tree.{Action, Spot, spots}
use Rattle.life_core.specs.declared.program.FnId.{FnId}
use Rattle.life_core.proofs.ReadyLemmas.{bits_right}
use Rattle.life_types.specs.declared.place.Place.{Place}
use Rattle.life_proper.specs.GivenOver.{all_keep_given, given_argument, given_in, given_spot, is_handed_in, is_kept, is_kept_argument, keeps_target, spot_keeps_given}
use Rattle.life_proper.specs.Placed.{object_at}
use Rattle.life_proper.proofs.SpotTests.{point_tested}
use Rattle.life_forest.proofs.SlotsGo.{AreSlotsThere}

-- ---- lists

abbrev is_among : ℕ → List ℕ → Bool
is_among y xs = list_any (nat_eq y) xs

neither : (a b : Bool) → a ≡ false → b ≡ false → (a || b) ≡ false
neither true b e h = e
neither false b e h = h

both_false : (a b : Bool) → (a || b) ≡ false → (a ≡ false) × (b ≡ false)
both_false true b e = absurd (false≢true (sym e))
both_false false b e = (refl, e)

parts_apart : (y : ℕ) (xs ys : List ℕ) → is_among y (xs ++ ys) ≡ false → (is_among y xs ≡ false) × (is_among y ys ≡ false)
parts_apart y [] ys e = (refl, e)
parts_apart y (x ∷ xs) ys e =
    let first = both_false (nat_eq y x) (is_among y (xs ++ ys)) e in
    let more = parts_apart y xs ys first.1 in
    (neither (nat_eq y x) (is_among y xs) first.0 more.0, more.1)

append_apart : (y : ℕ) (xs ys : List ℕ) → is_among y xs ≡ false → is_among y ys ≡ false → is_among y (xs ++ ys) ≡ false
append_apart y [] ys e h = h
append_apart y (x ∷ xs) ys e h = let first = both_false (nat_eq y x) (is_among y xs) e in neither (nat_eq y x) (is_among y (xs ++ ys)) first.0 (append_apart y xs ys first.1 h)

-- what is there stays there while others go
stays_there : (ys : List ℕ) (bits : Ready) (y : ℕ) → IsThere bits y → is_among y ys ≡ false → IsThere (set_bits false ys bits) y
stays_there [] bits y there apart = there
stays_there (x ∷ xs) bits y there apart =
    let first = both_false (nat_eq y x) (is_among y xs) apart in
    stays_there xs (slice_set bits x false) y (others bits x y there (unlike first.0)) first.1
  where
    unlike : nat_eq y x ≡ false → y ≡ x → ⊥
    unlike e same = grind (arith, nat_tests)

    others : (bs : Ready) (x y : ℕ) → IsThere bs y → (y ≡ x → ⊥) → IsThere (slice_set bs x false) y
    others [] x y e apart = e
    others (b ∷ bs) zero zero e apart = absurd (apart refl)
    others (b ∷ bs) zero (suc y) e apart = e
    others (b ∷ bs) (suc x) zero e apart = e
    others (b ∷ bs) (suc x) (suc y) e apart = others bs x y e (λ same. apart (ap suc same))

module _ (types : Types) (f : Function) where
  -- what is nowhere given over isn't at a point
  given_nowhere : (y : ℕ) (ss : List Spot) → is_among y (flat_map given_spot ss) ≡ false → list_all (λ s. not (is_among y (given_spot s))) ss ≡ true
  given_nowhere y [] e = refl
  given_nowhere y (s ∷ ss) e =
      let parts = parts_apart y (given_spot s) (flat_map given_spot ss) e in
      ap (λ (b : Bool). not b && list_all (λ t. not (is_among y (given_spot t))) ss) parts.0 ∙ given_nowhere y ss parts.1

  -- only objects leave, and only those that are given over
  leaves_apart : (y : ℕ) (xs : List Argument) → (object_at types f y ≡ true → is_among y (flat_map given_argument xs) ≡ false) → is_among y (flat_map (argument_leaves f) xs) ≡ false
  leaves_apart y [] apart = refl
  leaves_apart y (Value r ∷ xs) apart = leaves_apart y xs apart
  leaves_apart y (PointerOf l ∷ xs) apart = leaves_apart y xs apart
  leaves_apart y (Slot l ∷ xs) apart = leaves_apart y xs apart
  leaves_apart y (GivenOver x ∷ xs) apart =
      append_apart y (argument_leaves f (GivenOver x)) (flat_map (argument_leaves f) xs) (one (object_at types f x) refl)
      (leaves_apart y xs (λ object. (both_false (nat_eq y x) (is_among y (flat_map given_argument xs)) (apart object)).1))
    where
      same_number : nat_eq y x ≡ true → y ≡ x
      same_number e = grind (arith, nat_tests)

      other : (b : Bool) → nat_eq y x ≡ b → object_at types f x ≡ true → nat_eq y x ≡ false
      other false e object = e
      other true e object = (both_false (nat_eq y x) (is_among y (flat_map given_argument xs)) (apart (ap (object_at types f) (same_number e) ∙ object))).0

      one : (b : Bool) → object_at types f x ≡ b → is_among y (argument_leaves f (GivenOver x)) ≡ false
      one false e = ap (λ (c : Bool). is_among y (if c then x ∷ [] else [])) e
      one true e = ap (λ (c : Bool). is_among y (if c then x ∷ [] else [])) e ∙ neither (nat_eq y x) false (other (nat_eq y x) refl e) refl

  not_true : (b : Bool) → not b ≡ true → b ≡ false
  not_true true k = absurd (false≢true k)
  not_true false k = refl

  not_among : (a b : Bool) → not (a && b) ≡ true → a ≡ true → b ≡ false
  not_among true true e h = absurd (false≢true e)
  not_among true false e h = refl
  not_among false b e h = absurd (false≢true h)

  module _ (given : all_keep_given types f ≡ true) (b : ℕ) (bits : Ready) (place : Place) (target : Option Location) (g : FnId) (all : List Argument) (to : Option ℕ) (here : numbered (code_of f) b ≡ Some (record { spot = spot_at place (Action (Call target g all)); leads = goes to })) where
    kept_here : (y : ℕ) → is_kept types f y ≡ true → object_at types f y ≡ true → is_among y (flat_map given_argument all) ≡ false
    kept_here y kept object =
        not_true (is_among y (flat_map given_argument all))
        (point_tested (λ s. not (is_among y (given_spot s))) f b (record { spot = spot_at place (Action (Call target g all)); leads = goes to })
        (given_nowhere y (spots f.body) (not_among (object_at types f y) (is_among y (given_in f)) kept object)) here)

    keeps : (list_all (is_kept_argument types f) all && keeps_target target all) ≡ true
    keeps = point_tested (spot_keeps_given types f) f b (record { spot = spot_at place (Action (Call target g all)); leads = goes to }) given here

    each_there : (xs : List Argument) → list_all (is_kept_argument types f) xs ≡ true → AreBits true bits (flat_map (argument_uses f) xs) → AreSlotsThere (set_bits false (flat_map (argument_leaves f) all) bits) xs
    each_there [] kept uses = tt
    each_there (Value r ∷ xs) kept uses = each_there xs kept uses.1
    each_there (GivenOver x ∷ xs) kept uses = each_there xs kept (bits_right true bits (argument_uses f (GivenOver x)) (flat_map (argument_uses f) xs) uses)
    each_there (PointerOf l ∷ xs) kept uses = each_there xs kept uses.1
    each_there (Slot l ∷ xs) kept uses =
        let both = and_parts (is_kept types f l.local) (list_all (is_kept_argument types f) xs) kept in
        (stays_there (flat_map (argument_leaves f) all) bits l.local uses.0 (leaves_apart l.local all (kept_here l.local both.0)), each_there xs both.1 uses.1)

    pub slots_kept : AreBits true bits (flat_map (argument_uses f) all) → AreSlotsThere (set_bits false (flat_map (argument_leaves f) all) bits) all
    slots_kept uses = each_there all (and_parts (list_all (is_kept_argument types f) all) (keeps_target target all) keeps).0 uses

    pub target_kept : AreBits true bits (target_uses target) → (l : Location) → target ≡ Some l → (m : ℕ) (ms : List ℕ) → l.members ≡ m ∷ ms → IsThere (set_bits false (flat_map (argument_leaves f) all) bits) l.local
    target_kept uses l at m ms members =
        stays_there (flat_map (argument_leaves f) all) bits l.local (subst (AreBits true bits) used uses).0
        (leaves_apart l.local all (λ object. (both_false (is_handed_in all l.local) false (not_true (is_handed_in all l.local || false) (subst (λ (ys : List ℕ). not (list_any (is_handed_in all) ys) ≡ true) used (and_parts (list_all (is_kept_argument types f) all) (keeps_target target all) keeps).1))).0))
      where
        used : target_uses target ≡ l.local ∷ []
        used = ap target_uses at ∙ ap (λ (ns : List ℕ). by_members ns [] (l.local ∷ [])) members
