use Rattle.std.proofs.Common.{◌-◌, ◌∙◌, ap}
use Rattle.std.specs.Prelude.{option_map}
use Rattle.life_core.specs.Linked.{code_of}
use Rattle.life_core.specs.Node.{spot_seen}
use Rattle.life_rules.proofs.Spots.{got, spot_at}
use Rattle.life_rules.proofs.spot.spot_in.Goals as goal

pub returns : goal.returns
returns c =
    let spots = c.args.spots.now in
    let point = c.args.point.0 in
    let read = got c.get.result spots (point - 1) c.get.ensures.lookup.1 c.get.ensures.lookup.3 in
    λ f is. ap (option_map spot_seen) (c.copied.ensures ∙ read) ∙ spot_at spot_seen spots (code_of f) point c.if-point-eq0.false is
