-- What is made of a covered pointer, a part of what it sees, one of its positions, or its end, is covered by the facts that it takes.
use Rattle.std.proofs.Common.{◌≡◌, ℕ, ◌+◌, ◌≤◌, Bool, true, false, length, refl, sym, subst}
use Rattle.std.specs.Prelude.{cond}
use Rattle.life_types.specs.Types.{Types}
use Rattle.life_pset.specs.declared.element.AbsPlace.{AbsPlace}
use Rattle.life_pset.specs.declared.element.Element.{Element}
use Rattle.life_pset.specs.declared.element.Element.TheVariants as element
use Rattle.life_pset.specs.declared.element.Fact.{Fact}
use Rattle.life_pset.specs.declared.element.Root.{Root}
use Rattle.life_rules.specs.Matching.{fact_at}
use Rattle.life_store.specs.Content.{Content}
use Rattle.life_store.specs.Effects.{Attempt, Got, GotTrap, GotFault, GotLost, Effect, Next, Traps, Faults, Strays, on_got}
use Rattle.life_store.specs.Held.{slots_at}
use Rattle.life_store.specs.Iterators.{at_index, element_of, standing}
use Rattle.life_store.specs.State.{Target, Pointer, Null, Wild, To, Static, State}
use Rattle.life_store.specs.Views.{part_of, seen_count, usable}
use Rattle.life_store.specs.declared.run.FaultKind.TheVariants as fault
use Rattle.life_forest.specs.Forest.{IsForest}
use Rattle.life_forest.specs.Kinds.{kinds_of}
use Rattle.life_cover.specs.Covers.{Covers, Holds, IsCovered, Look, Reseen}
use Rattle.life_cover.specs.Regions.{Region}
use Rattle.life_cover.proofs.Fresh.{advanced_holds, at_position, at_range, element_holds, part_holds, position_valid, range_valid}
use Rattle.life_cover.proofs.Using.{NotInvalid, not_wild, points_again, to_place}

-- ---- what comes of an attempt, and of an effect, that may be no fault

abbrev pub IfRight : {A : Type 0} → Attempt A → (A → Type 0) → Type 0
IfRight (Got a) P = P a
IfRight (GotTrap kind) P = Unit {0}
IfRight (GotFault kind) P = ⊥
IfRight GotLost P = Unit {0}

abbrev pub OnRight : Effect → (State → Type 0) → Type 0
OnRight (Next st) Q = Q st
OnRight (Traps kind) Q = Unit {0}
OnRight (Faults kind) Q = ⊥
OnRight Strays Q = Unit {0}

pub right_weaker : (e : Effect) (P Q : State → Type 0) → OnRight e P → ((st : State) → P st → Q st) → OnRight e Q
right_weaker (Next st) P Q h weaker = weaker st h
right_weaker (Traps kind) P Q h weaker = tt
right_weaker (Faults kind) P Q h weaker = h
right_weaker Strays P Q h weaker = tt

pub right_then : {A : Type 0} (x : Attempt A) (go : A → Effect) (P : A → Type 0) (Q : State → Type 0) → IfRight x P → ((a : A) → P a → OnRight (go a) Q) → OnRight (on_got x go) Q
right_then (Got a) go P Q h each = each a h
right_then (GotTrap kind) go P Q h each = tt
right_then (GotFault kind) go P Q h each = absurd h
right_then GotLost go P Q h each = tt

-- the position is one, the end among them, of what an iterator points into
abbrev pub HasPosition : Content → Pointer → ℕ → Type 0
HasPosition c (To t) i = i ≤ length (slots_at c t.object)
HasPosition c _ i = Unit {0}

module _ (types : Types) (c : Content) (Stands : Root → Region → Type 0) (may_change : Root → Bool) (S S' : Fact → Type 0) (l l' : AbsPlace) (look look' : Look) (right : NotInvalid S l) (target : Reseen types look.target look'.target)
    (constant : look'.constant ≡ false → look.constant ≡ false) (takes : (e : Element) → S (fact_at l e) → S' (fact_at l' e)) where
  -- another pointer to the same place
  pub again_covered : (t t' : Target) → t'.object ≡ t.object → t'.word ≡ t.word → (Holds c look.ranged t → Holds c look'.ranged t') → IsCovered types c Stands may_change S l look (To t) → IsCovered types c Stands may_change S' l' look' (To t')
  again_covered t t' object word holds h =
      let to = to_place types c Stands may_change S l look right t h in record {
        known = element.At to.place;
        holds = takes (element.At to.place) to.fact;
        covers = points_again types c Stands may_change look look' to.place t t' to.points object word target constant (holds to.points.holds);
      }

  module _ (hand : ℕ → ℕ) (forest : IsForest (kinds_of types) hand c) where
    -- a range is used: one of its positions, or its end; and a part of it
    pub used_right : (v : Pointer) → look.ranged ≡ true → look'.ranged ≡ false → IsCovered types c Stands may_change S l look v
        → IfRight (usable c v) (λ u. (i : ℕ) → i ≤ seen_count u → IsCovered types c Stands may_change S' l' look' (element_of c.clock i u))
    used_right Null is is' h = tt
    used_right Wild is is' h = absurd (not_wild types c Stands may_change S l look right h)
    used_right (Static k) is is' h = λ i le. tt
    used_right (To t) is is' h =
        let holds = subst (λ b. Holds c b t) is (to_place types c Stands may_change S l look right t h).points.holds in
        subst (λ b. IfRight (cond b (Got (To t)) (GotFault fault.Dangling)) (λ u. (i : ℕ) → i ≤ seen_count u → IsCovered types c Stands may_change S' l' look' (element_of c.clock i u))) (sym (range_valid c t holds))
        (λ i le. again_covered t (at_position c t.object (t.index + i) t.word) refl refl (λ g. subst (λ b. Holds c b (at_position c t.object (t.index + i) t.word)) (sym is') (element_holds (kinds_of types) hand c forest t i le holds)) h)

    pub part_right : (v : Pointer) → look.ranged ≡ true → look'.ranged ≡ true → IsCovered types c Stands may_change S l look v
        → IfRight (usable c v) (λ u. (i n : ℕ) → i + n ≤ seen_count u → IsCovered types c Stands may_change S' l' look' (part_of c.clock i n u))
    part_right Null is is' h = tt
    part_right Wild is is' h = absurd (not_wild types c Stands may_change S l look right h)
    part_right (Static k) is is' h = λ i n le. tt
    part_right (To t) is is' h =
        let holds = subst (λ b. Holds c b t) is (to_place types c Stands may_change S l look right t h).points.holds in
        subst (λ b. IfRight (cond b (Got (To t)) (GotFault fault.Dangling)) (λ u. (i n : ℕ) → i + n ≤ seen_count u → IsCovered types c Stands may_change S' l' look' (part_of c.clock i n u))) (sym (range_valid c t holds))
        (λ i n le. again_covered t (at_range c t.object (t.index + i) t.word n) refl refl (λ g. subst (λ b. Holds c b (at_range c t.object (t.index + i) t.word n)) (sym is') (part_holds (kinds_of types) hand c forest t i n le holds)) h)

    -- an iterator goes on to a position, or to the end
    pub advanced_right : (v : Pointer) → look.ranged ≡ false → look'.ranged ≡ false → IsCovered types c Stands may_change S l look v
        → IfRight (standing c v) (λ u. (i : ℕ) → HasPosition c u i → IsCovered types c Stands may_change S' l' look' (at_index c.clock i u))
    advanced_right Null is is' h = tt
    advanced_right Wild is is' h = absurd (not_wild types c Stands may_change S l look right h)
    advanced_right (Static k) is is' h = λ i le. tt
    advanced_right (To t) is is' h =
        let holds = subst (λ b. Holds c b t) is (to_place types c Stands may_change S l look right t h).points.holds in
        subst (λ b. IfRight (cond b (Got (To t)) (GotFault fault.Dangling)) (λ u. (i : ℕ) → HasPosition c u i → IsCovered types c Stands may_change S' l' look' (at_index c.clock i u))) (sym (position_valid c t holds))
        (λ i le. again_covered t (at_position c t.object i t.word) refl refl (λ g. subst (λ b. Holds c b (at_position c t.object i t.word)) (sym is') (advanced_holds (kinds_of types) hand c forest t false i le holds)) h)

-- a pointer that takes another's value is covered as that is, also where it may be null or invalid
pub repointed_covered : (types : Types) (c : Content) (Stands : Root → Region → Type 0) (may_change : Root → Bool) (S S' : Fact → Type 0) (l l' : AbsPlace) (look look' : Look) → Reseen types look.target look'.target → (look'.constant ≡ false → look.constant ≡ false) → look'.ranged ≡ look.ranged
    → ((e : Element) → S (fact_at l e) → S' (fact_at l' e)) → (v : Pointer) → IsCovered types c Stands may_change S l look v → IsCovered types c Stands may_change S' l' look' v
repointed_covered types c Stands may_change S S' l l' look look' target constant ranged takes v = go v
  where
    told : (e : Element) (u : Pointer) → Covers types c Stands may_change look e u → Covers types c Stands may_change look' e u
    told (element.Invalid cause) u k = tt
    told element.Null Null k = tt
    told element.Null Wild k = k
    told element.Null (To t) k = k
    told element.Null (Static s) k = k
    told (element.Moved cause) u k = absurd k
    told element.Own u k = absurd k
    told element.Static u k = absurd k
    told (element.At place) Null k = k
    told (element.At place) Wild k = k
    told (element.At place) (Static s) k = k
    told (element.At place) (To t) k = points_again types c Stands may_change look look' place t t k refl refl target constant (subst (λ b. Holds c b t) (sym ranged) k.holds)

    go : (u : Pointer) → IsCovered types c Stands may_change S l look u → IsCovered types c Stands may_change S' l' look' u
    go (Static s) h = tt
    go Null h = record { known = h.known; holds = takes h.known h.holds; covers = told h.known Null h.covers }
    go Wild h = record { known = h.known; holds = takes h.known h.holds; covers = told h.known Wild h.covers }
    go (To t) h = record { known = h.known; holds = takes h.known h.holds; covers = told h.known (To t) h.covers }
