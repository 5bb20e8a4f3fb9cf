use Rattle.std.proofs.Common.{◌≡◌, ◌++◌, drop}
use Rattle.life_rules.specs.Texts.{spelling_of, steps_text}
use Rattle.life_rules.proofs.texts.push_steps.Given as goal

-- the text so far, and that of the steps that are left
abbrev pub invariant-loop-step : goal.invariant-loop-step
invariant-loop-step l =
    let text = steps_text (spelling_of l.names) l.types in
    l.out.items ++ text l.here (drop l.step-index l.steps) ≡ l.fn.out.items ++ text l.fn.ty l.steps
