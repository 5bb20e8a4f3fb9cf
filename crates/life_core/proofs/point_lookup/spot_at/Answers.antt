use Rattle.std.proofs.Common.{◌∙◌, arith}
use Rattle.std.proofs.lemmas.Bool.Decides.{nat_tests}
use Rattle.life_core.specs.Function.{function_of}
use Rattle.life_core.proofs.SpotLemmas.{spot_at_is}
use Rattle.life_core.proofs.point_lookup.spot_at.Goals as goal

pub returns : goal.returns
returns c = c.spot_in.ensures ∙ spot_at_is (function_of c.args.f.now) c.args.point.0 (grind (arith, nat_tests))
