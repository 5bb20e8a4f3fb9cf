use Rattle.std.proofs.Common.{◌≡◌, ℕ, Option, ap, rules, ◌∙◌, sym}
use Rattle.std.proofs.lemmas.Int.{to_z-of_z}
use mir.Val.{SFits}
use Rattle.std.specs.Int.{cast_unsigned, w64}
use Rattle.std.specs.Prelude.{Some}
use Rattle.life_store.specs.Doing.{count_in}
use Rattle.life_store.specs.Effects.{Got}
use Rattle.life_cells.specs.Cells.{state_in}
use Rattle.life_cells.proofs.Cutting.{with_count, without_count}
use Rattle.life_cells.proofs.parts.counted.Goals as goal

pub returns-in-None-number_at : goal.returns-in-None-number_at
returns-in-None-number_at c = λ content. ap (λ (n : Option ℕ). count_in (state_in content c.args.cells.now) n) c.in-Some.is ∙ without_count (state_in content c.args.cells.now) c.in-Some.register c.in-None-number_at.ensures

pub returns-in-Some-number_at : goal.returns-in-Some-number_at
returns-in-Some-number_at c = λ content.
    let number = c.in-Some-number_at.size in
    let fits : SFits w64 number = search rules in
    let whole : c.cast_unsigned.result ≡ cast_unsigned w64 number = c.cast_unsigned.ensures ∙ ap (cast_unsigned w64) (to_z-of_z w64 number fits) in
    ap (λ (n : Option ℕ). count_in (state_in content c.args.cells.now) n) c.in-Some.is
    ∙ with_count (state_in content c.args.cells.now) c.in-Some.register number c.in-Some-number_at.ensures
    ∙ ap (λ (k : ℕ). Got (Some k)) (sym whole)
