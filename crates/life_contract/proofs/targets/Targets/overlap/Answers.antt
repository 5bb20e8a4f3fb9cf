use Rattle.std.proofs.Common.{inl, inr}
use Rattle.std.proofs.lemmas.Bool.{both_ways}
use Rattle.life_contract.proofs.OuterPlaces.{overlap_has_part, part_overlaps}
use Rattle.life_contract.proofs.targets.Targets.overlap.Goals as goal

pub returns-else-has_part_in : goal.returns-else-has_part_in
returns-else-has_part_in c =
    let self = c.args.self.now in
    let others = c.args.others.now in
    let second = c.has_part_in-else-has_part_in in (
      λ t. (part_overlaps others self (second.ensures.0 t)).1,
      λ h.
          elim (overlap_has_part self others h) [
            | inl part ↦ absurd (both_ways c.has_part_in.result c.if-has_part_in.false (c.has_part_in.ensures.1 part))
            | inr part ↦ second.ensures.1 part
          ],
    )
