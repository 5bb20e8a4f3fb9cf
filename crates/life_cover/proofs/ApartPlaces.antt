-- Two places of which neither is a part of the other lie apart, where what is owned beneath the one may be changed.
use Rattle.std.proofs.Common.{◌≡◌, ◌≢◌, Bool, true, false, refl, sym, ap, subst, ◌∙◌, ℕ, Option}
use Rattle.std.specs.Prelude.{◌&&◌, ◌||◌}
use Rattle.std.proofs.lemmas.Bool.{false≢true}
use Rattle.life_types.specs.Types.{Types}
use Rattle.life_core.specs.Function.{Function}
use Rattle.life_pset.specs.Places.{begins, overlap, path}
use Rattle.life_pset.specs.contracts.element.RootPartialEq.TheImpl.{ghosts as compared}
use Rattle.life_pset.specs.declared.element.AbsPlace.{AbsPlace}
use Rattle.life_pset.specs.declared.element.Fact.{Fact}
use Rattle.life_pset.specs.declared.element.Root.{Root}
use Rattle.life_store.specs.State.{State}
use Rattle.life_cover.specs.Frames.{RootStands}
use Rattle.life_cover.specs.Inputs.{StandsAt, owning}
use Rattle.life_cover.specs.Regions.{IsAt, Lies, Region}
use Rattle.life_cover.specs.Roots.{IsApart}
use Rattle.life_cover.proofs.Guarding.{exact_root, root_laws}
use Rattle.life_cover.proofs.Inside.{lies_inside}
use Rattle.life_cover.proofs.KnownFrames.{IsKnownFrame, hand_of, rooted_of, store_of}
use Rattle.life_cover.proofs.PartedPlaces.{apart_inside, parted}

module _ (types : Types) (f : Function) (rest : ℕ → ℕ) (inputs : Root → Option Region) (S : Fact → Type 0) (st : State) (k : IsKnownFrame types f rest inputs S st) where
  abbrev pub Stood : AbsPlace → Region → Type 0
  Stood place r = IsAt types st.world.content (RootStands types f (StandsAt inputs) st.cells) place r

  pub places_apart : (a b : AbsPlace) (r s : Region) → Stood a r → Stood b s → owning types f a.root ≡ true → overlap a b ≡ false → IsApart types st.world.content r s
  places_apart a b r s at_a at_b own separate = go (compared.eq a.root b.root) refl
    where
      go : (t : Bool) → compared.eq a.root b.root ≡ t → IsApart types st.world.content r s
      go true e =
          let one = (rooted_of types f rest inputs S st k).one a.root at_a.start at_b.start at_a.stands (subst (λ (q : Root). RootStands types f (StandsAt inputs) st.cells q at_b.start) (sym (exact_root a.root b.root e)) at_b.stands) in
          parted types k.ordered (hand_of rest st) st.world.content (store_of types f rest inputs S st k) (path a) (path b) at_a.start r s at_a.lies
          (subst (λ (q : Region). Lies types st.world.content (path b) q s) (sym one) at_b.lies) ((rooted_of types f rest inputs S st k).fits a.root at_a.start at_a.stands)
          (sym (ap (λ t. t && (begins (path a) (path b) || begins (path b) (path a))) e) ∙ separate)
      go false e =
          let ne : a.root ≢ b.root = λ h. absurd (false≢true (sym e ∙ ap (compared.eq a.root) (sym h) ∙ root_laws.refl a.root)) in
          apart_inside types k.ordered (hand_of rest st) st.world.content (store_of types f rest inputs S st k) at_a.start at_b.start r s
          ((rooted_of types f rest inputs S st k).apart a.root b.root at_a.start at_b.start own ne at_a.stands at_b.stands)
          (lies_inside types k.ordered (hand_of rest st) st.world.content (store_of types f rest inputs S st k) (path a) at_a.start r ((rooted_of types f rest inputs S st k).fits a.root at_a.start at_a.stands) at_a.lies)
          (lies_inside types k.ordered (hand_of rest st) st.world.content (store_of types f rest inputs S st k) (path b) at_b.start s ((rooted_of types f rest inputs S st k).fits b.root at_b.start at_b.stands) at_b.lies)
