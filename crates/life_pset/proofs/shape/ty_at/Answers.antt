use Rattle.std.proofs.Common.{sym, ◌∙◌}
use Rattle.life_pset.proofs.CandidateLemmas.{nowhere}
use Rattle.life_pset.proofs.shape.ty_at.Goals as goal

pub returns-in-None-clause-made : goal.returns-in-None-clause-made
returns-in-None-clause-made c = nowhere c.args.types.now c.args.id (sym c.get.ensures ∙ c.in-None.is)
