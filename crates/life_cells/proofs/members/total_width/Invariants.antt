use Rattle.std.proofs.Common.{◌≡◌, drop}
use Rattle.std.specs.Prelude.{sum_by}
use Rattle.life_store.specs.Parts.{width_at}
use Rattle.life_cells.specs.Scopes.{types_in}
use Rattle.life_cells.proofs.MemberLemmas.{added}
use Rattle.life_cells.proofs.members.total_width.Given as goal

abbrev pub invariant-loop-ty : goal.invariant-loop-ty
invariant-loop-ty l = added (width_at (types_in l.scope)) l.words (drop l.ty-index l.types) ≡ sum_by (width_at (types_in l.scope)) l.types
