-- Steps from an owner to what it owns, one after the other, lead from a place of a frame to one that it knows.
use Rattle.std.proofs.Common.{◌≡◌, inl, inr, ℕ, true, List, [], ◌∷◌, Option, Some, refl, sym, ap, subst, ◌∙◌, ◌<◌, false, arith}
use Rattle.std.specs.Prelude.{Contains, if◌then◌else◌, slice_get, nat_eq, nat_lt}
use Rattle.life_types.specs.Trees.{IsOrdered}
use Rattle.life_types.specs.Types.{Types}
use Rattle.life_core.specs.Function.{Function}
use Rattle.life_pset.specs.Elements.{AreShort, elements_of}
use Rattle.life_pset.specs.Places.{member_place, owned_place, owned_step, path, stepped, too_long}
use Rattle.life_pset.specs.declared.element.AbsPlace.{AbsPlace}
use Rattle.life_pset.specs.declared.element.Element.TheVariants as element
use Rattle.life_pset.specs.declared.element.Root.{Root}
use Rattle.life_contract.specs.Positions.{step_place, steps_place}
use Rattle.life_proper.specs.Placed.{object_at}
use Rattle.life_store.specs.Content.{Content}
use Rattle.life_store.specs.State.{Cell, Named}
use Rattle.life_forest.proofs.Shaped.{IsShaped}
use Rattle.life_cover.specs.Frames.{RootStands}
use Rattle.life_cover.specs.Inputs.{IsInput, StandsAt}
use Rattle.life_cover.specs.Regions.{Goes, IsAt, Lies, Region, ToOwned, ToMember}
use Rattle.life_cover.proofs.Guarding.{eq_same}
use Rattle.life_cover.proofs.Making.{CanOpen, IsItsPath, IsMadeOf, can_open, known_at, made_path, place_short, stepped_made, member_known, room_at}
use Rattle.life_cover.proofs.Stepping.{goes_at}
use Rattle.std.proofs.lemmas.Bool.Decides.{nat_tests}

lt_true : (n m : ℕ) → n < m → nat_lt n m ≡ true
lt_true n m lt = grind (arith, nat_tests)

ne_same : (n m : ℕ) → n < m → nat_eq n m ≡ false
ne_same n m lt = grind (arith, nat_tests)

module _ (types : Types) (ordered : IsOrdered types) (f : Function) (shaped : IsShaped types f) (short : AreShort (elements_of types f)) (c : Content) (cells : List Cell) (objects : (x n : ℕ) → slice_get cells x ≡ Some (Named n) → object_at types f x ≡ true)
    (inputs : Root → Option Region) (each : (r : Root) (a : Region) → StandsAt inputs r a → IsInput types f r a) where
  -- a place that lies there, made of its root
  pub record IsReachedAt (a : AbsPlace) (r : Region) : Type 0 where
    pub path : IsItsPath a
    pub lies : IsAt types c (RootStands types f (StandsAt inputs) cells) a r

  -- what is its path is made of its root
  made_of_root : (a : AbsPlace) → IsItsPath a → IsMadeOf a.root a
  made_of_root a is = record { root = refl; made = λ le. (path a, is.made) }

  one_more : (a : AbsPlace) (r q : Region) → IsReachedAt a r → ToOwned types c owned_step r q → IsReachedAt (owned_place a) q
  one_more a r q h goes =
      let can : CanOpen types ordered f shaped short c cells objects inputs each a = can_open types ordered f shaped short c cells objects inputs each a r q.ty h.path h.lies goes.type in
      let made : IsMadeOf a.root (owned_place a) = stepped_made a.root a owned_step (made_of_root a h.path) in
      record {
        path = made_path (owned_place a) (subst (λ (ro : Root). IsMadeOf ro (owned_place a)) (sym made.root) made) (place_short types ordered f shaped short c cells objects inputs each (owned_place a) can.known);
        lies = goes_at types c (RootStands types f (StandsAt inputs) cells) 0 a owned_step r q can.room h.lies (inr goes);
      }

  -- a member of a place
  one_member : (a : AbsPlace) (r q : Region) (s : ℕ) → IsReachedAt a r → ToMember types s r q → IsReachedAt (stepped a s) q
  one_member a r q s h m =
      let known = member_known types ordered f shaped short c cells objects inputs each a r s q.ty h.path h.lies m.small m.type in
      let made : IsMadeOf a.root (stepped a s) = stepped_made a.root a s (made_of_root a h.path) in
      record {
        path = made_path (stepped a s) (subst (λ (ro : Root). IsMadeOf ro (stepped a s)) (sym made.root) made) (place_short types ordered f shaped short c cells objects inputs each (stepped a s) known);
        lies = goes_at types c (RootStands types f (StandsAt inputs) cells) 0 a s r q (room_at types ordered f shaped short c cells objects inputs each a s h.path known) h.lies (inl m);
      }

  pub steps_reached : (ss : List ℕ) (a : AbsPlace) (r q : Region) → IsReachedAt a r → Lies types c ss r q → IsReachedAt (steps_place a ss) q
  steps_reached [] a r q h lies = subst (IsReachedAt a) lies h
  steps_reached (s ∷ ss) a r q h lies = step (λ b at_b. steps_reached ss b lies.0 q at_b lies.2) lies.1
    where
      step : ((b : AbsPlace) → IsReachedAt b lies.0 → IsReachedAt (steps_place b ss) q) → Goes types c s r lies.0 → IsReachedAt (steps_place (step_place a s) ss) q
      step more (inl m) =
          subst (λ (b : AbsPlace). IsReachedAt (steps_place b ss) q)
          (sym (ap (λ b. if b then owned_place a else member_place a s) (ne_same s owned_step m.small) ∙ ap (λ b. if b then stepped a s else too_long a) (lt_true s owned_step m.small)))
          (more (stepped a s) (one_member a r lies.0 s h m))
      step more (inr o) =
          subst (λ (b : AbsPlace). IsReachedAt (steps_place b ss) q) (sym (ap (λ b. if b then owned_place a else member_place a s) (eq_same s owned_step o.owned)))
          (more (owned_place a) (one_more a r lies.0 h (subst (λ z. ToOwned types c z r lies.0) o.owned o)))

  pub reached_known : (a : AbsPlace) (r : Region) → IsReachedAt a r → Contains (elements_of types f) (element.At a)
  reached_known a r h = known_at types ordered f shaped short c cells objects inputs each a r h.path h.lies
