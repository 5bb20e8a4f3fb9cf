use Rattle.std.proofs.Common.{◌∙◌}
use Rattle.life_cells.proofs.MemberLemmas.{width_laid}
use Rattle.life_cells.specs.Scopes.{types_in}
use Rattle.life_cells.proofs.members.width_at.Goals as goal

pub returns : goal.returns
returns c = c.laid_width.ensures ∙ width_laid (types_in c.args.scope.now) c.args.scope.now.layouts.now c.args.scope.now.laid c.args.ty
