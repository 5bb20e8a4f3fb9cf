use Rattle.std.proofs.Common.{All, List, refl, subst}
use Rattle.std.proofs.lemmas.Bool.{both_ways, false≢true}
use Rattle.std.proofs.lemmas.List.{take_all}
use Rattle.std.proofs.lemmas.List.Elements.{All-more, Contains-get_or}
use Rattle.life_pset.specs.declared.element.AbsPlace.{AbsPlace}
use Rattle.life_contract.specs.Targets.{HasOuter}
use Rattle.life_contract.proofs.OuterPlaces.{no_part, part_found}
use Rattle.life_contract.proofs.targets.Targets.has_part_in.Goals as goal

pub loop-place-preserved : goal.loop-place-preserved
loop-place-preserved c =
    let outlines = c.others.inside.outlines.keys in
    All-more (λ a. HasOuter a outlines → ⊥) c.as_slice-place-items.result.now c.loop-place.place-index _ c.loop-place-test.true c.loop-place.invariant (λ h. both_ways c.has_outer.result c.if-has_outer.false (c.has_outer.ensures.1 h))

pub returns-then-has_outer : goal.returns-then-has_outer
returns-then-has_outer c =
    let places = c.as_slice-place-items.result.now in
    let there = Contains-get_or places c.loop-place.place-index _ c.loop-place-test.true in (
      λ _. rw (← c.self.view_is, ← c.others.view_is, ← c.as_slice-place-items.ensures.keys)
          (part_found places c.others.inside.places.keys c.others.inside.outlines.keys c.others.invariant _ there (c.has_outer.ensures.0 c.if-has_outer.true)),
      λ _. refl,
    )

pub returns : goal.returns
returns c =
    let places = c.as_slice-place-items.result.now in
    let outlines = c.others.inside.outlines.keys in
    let none = subst (λ (l : List AbsPlace). All (λ a. HasOuter a outlines → ⊥) l) (take_all c.loop-place.place-index places c.loop-place-test.false) c.loop-place.invariant in (
      λ t. absurd (false≢true t),
      rw (← c.self.view_is, ← c.others.view_is, ← c.as_slice-place-items.ensures.keys) (λ h. absurd (no_part places c.others.inside.places.keys outlines c.others.invariant none h)),
    )
