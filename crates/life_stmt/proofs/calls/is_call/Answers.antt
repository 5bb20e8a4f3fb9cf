use Rattle.life_stmt.proofs.CallParts.{call_parts}
use Rattle.life_stmt.proofs.calls.is_call.Goals as goal

pub returns : goal.returns
returns c = rw c.ends_in_call.ensures (call_parts c.args.first c.args.parts.now)
