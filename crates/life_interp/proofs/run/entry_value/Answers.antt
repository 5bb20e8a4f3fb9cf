use Rattle.std.proofs.Common.{ap, rules, ◌∙◌}
use Rattle.std.proofs.lemmas.Int.{to_z-of_z}
use mir.Val.{SFits}
use Rattle.std.specs.Int.{w64}
use Rattle.life_store.specs.Doing.{as_long, converted}
use Rattle.life_store.specs.State as state
use Rattle.life_interp.proofs.run.entry_value.Goals as goal

pub returns-clause-seen : goal.returns-clause-seen
returns-clause-seen c =
    let long : SFits w64 c.as_long.result = search rules in
    let number : SFits w64 c.args.number = search rules in
    let value : SFits w64 c.converted.result = search rules in
    ap state.Number
    (to_z-of_z w64 c.converted.result value
    ∙ c.converted.ensures
    ∙ ap (converted c.type_at.result) (to_z-of_z w64 c.as_long.result long ∙ c.as_long.ensures ∙ ap as_long (to_z-of_z w64 c.args.number number))
    ∙ ap (λ ty. converted ty (as_long c.args.number)) c.type_at.ensures)
