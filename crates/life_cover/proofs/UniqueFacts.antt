-- What facts say of a unique_ptr stays where an instruction doesn't write it: nothing that is killed or ends is a fact of an owner.
use Rattle.std.proofs.Common.{◌≡◌, ℕ, Bool, true, false, List, [], ◌++◌, Option, Some, None, refl, sym, subst}
use Rattle.std.specs.Prelude.{◌||◌, Contains}
use Rattle.std.proofs.lemmas.List.Elements.{Contains-append_left}
use Rattle.life_types.specs.Types.{Types}
use Rattle.life_types.specs.declared.place.Place.{Place}
use Rattle.life_core.specs.Function.{Function}
use Rattle.life_core.specs.Step.{End, Step}
use Rattle.life_pset.specs.declared.element.AbsPlace.{AbsPlace}
use Rattle.life_pset.specs.declared.element.Cause.{Cause}
use Rattle.life_pset.specs.declared.element.Element.{Element}
use Rattle.life_pset.specs.declared.element.Element.TheVariants as element
use Rattle.life_pset.specs.declared.element.Fact.{Fact}
use Rattle.life_contract.specs.Signatures.{Signature}
use Rattle.life_rules.specs.Carrying.{drops, is_gone, is_killed, is_killed_by, killed_facts, kills, makes, writes}
use Rattle.life_rules.specs.Matching.{fact_at, points_among, unless}
use Rattle.life_rules.specs.declared.kill.Kill.{Kill}
use Rattle.life_rules.specs.declared.kill.KillPair.{KillPair}
use Rattle.life_rules.proofs.Giving.{at_head}
use Rattle.life_cover.specs.Covers.{CoversOwner, IsOwnerTold}
use Rattle.life_cover.specs.Kills.{Closed}

-- ---- what isn't a place stays

abbrev pub IsNoPlace : Element → Type 0
IsNoPlace (element.At place) = ⊥
IsNoPlace _ = Unit {0}

both_false : (a b : Bool) → a ≡ false → b ≡ false → (a || b) ≡ false
both_false true b e f = e
both_false false b e f = f

unkilled_by : (k : Option Kill) (e : Element) → IsNoPlace e → is_killed_by k e ≡ false
unkilled_by None e none = refl
unkilled_by (Some k) element.Null none = refl
unkilled_by (Some k) (element.Invalid cause) none = refl
unkilled_by (Some k) (element.Moved cause) none = refl
unkilled_by (Some k) element.Own none = refl
unkilled_by (Some k) element.Static none = refl
unkilled_by (Some k) (element.At place) none = absurd none

unkilled : (ks : KillPair) (e : Element) → IsNoPlace e → is_killed ks e ≡ false
unkilled ks e none = both_false (is_killed_by ks.first e) (is_killed_by ks.second e) (unkilled_by ks.first e none) (unkilled_by ks.second e none)

not_among : (xs : List ℕ) (e : Element) → IsNoPlace e → points_among xs e ≡ false
not_among xs element.Null none = refl
not_among xs (element.Invalid cause) none = refl
not_among xs (element.Moved cause) none = refl
not_among xs element.Own none = refl
not_among xs element.Static none = refl
not_among xs (element.At place) none = absurd none

not_gone : (types : Types) (f : Function) (place : Place) (i : Step) (e : Element) → IsNoPlace e → is_gone types f place i e ≡ false
not_gone types f place (End xs) e none = not_among xs e none
not_gone types f place i e none = unkilled (kills types f place i) e none

module _ (sigs : List Signature) (types : Types) (f : Function) (place : Place) (i : Step) (S S' : Fact → Type 0) (closed : Closed sigs types f place i S S') where
  pub stays : (l : AbsPlace) (e : Element) → IsNoPlace e → S (fact_at l e) → writes i l ≡ false → S' (fact_at l e)
  stays l e none s free =
      closed.one (fact_at l e) (fact_at l e) s (closed.of (fact_at l e) s)
      (Contains-append_left (unless (drops types f place i (fact_at l e)) (fact_at l e)) (killed_facts (kills types f place i) i (fact_at l e) ++ makes sigs types f place i (fact_at l e)) (fact_at l e)
      (subst (λ t. Contains (unless t (fact_at l e)) (fact_at l e)) (sym (both_false (is_gone types f place i e) (writes i l) (not_gone types f place i e none) free)) (at_head (fact_at l e) [])))

  pub unique_told : (l : AbsPlace) (owned : Option ℕ) → writes i l ≡ false → IsOwnerTold S l true owned → IsOwnerTold S' l true owned
  unique_told l owned free h = go h.known h.holds h.covers
    where
      with_known : (e : Element) → IsNoPlace e → S (fact_at l e) → CoversOwner true e owned → IsOwnerTold S' l true owned
      with_known e none s k = record { known = e; holds = stays l e none s free; covers = k }

      no_place : (place : AbsPlace) (o : Option ℕ) → CoversOwner true (element.At place) o → ⊥
      no_place a None k = k
      no_place a (Some n) k = k

      go : (e : Element) → S (fact_at l e) → CoversOwner true e owned → IsOwnerTold S' l true owned
      go element.Null s k = with_known element.Null tt s k
      go (element.Invalid cause) s k = with_known (element.Invalid cause) tt s k
      go (element.Moved cause) s k = with_known (element.Moved cause) tt s k
      go element.Own s k = with_known element.Own tt s k
      go element.Static s k = with_known element.Static tt s k
      go (element.At a) s k = absurd (no_place a owned k)

-- ---- what a fact says

-- what may be neither null nor moved from has something
pub has_something : (S : Fact → Type 0) (l : AbsPlace) (owned : Option ℕ) → IsOwnerTold S l true owned → (S (fact_at l element.Null) → ⊥) → ((cause : Cause) → S (fact_at l (element.Moved cause)) → ⊥) → (n : ℕ) × (owned ≡ Some n)
has_something S l owned h some unmoved = go h.known owned h.holds h.covers
  where
    go : (e : Element) (o : Option ℕ) → S (fact_at l e) → CoversOwner true e o → (n : ℕ) × (o ≡ Some n)
    go element.Own (Some n) s k = (n, refl)
    go element.Own None s k = absurd k
    go element.Null o s k = absurd (some s)
    go (element.Moved cause) o s k = absurd (unmoved cause s)
    go (element.Invalid cause) None s k = absurd k
    go (element.Invalid cause) (Some n) s k = absurd k
    go element.Static None s k = absurd k
    go element.Static (Some n) s k = absurd k
    go (element.At place) None s k = absurd k
    go (element.At place) (Some n) s k = absurd k
