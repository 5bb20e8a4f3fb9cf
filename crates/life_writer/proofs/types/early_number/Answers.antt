use Rattle.std.proofs.Common.{sym, ap, ◌∙◌}
use Rattle.std.specs.Prelude.{ℕ}
use Rattle.life_writer.proofs.TypeNumbers.{comes_here, comes_later, stays_with}
use Rattle.life_writer.proofs.types.early_number.Goals as goal

pub returns-in-Some-clause-number : goal.returns-in-Some-clause-number
returns-in-Some-clause-number c =
    ap (λ (n : ℕ). record { 0 = n }) (comes_here c.args.types.now.types c.args.ty c.in-Some.found c.first.number c.first.invariant (sym c.in-Some.ensures) (sym c.eq.ensures ∙ c.if-eq.true))

pub returns-in-Some-clause-there : goal.returns-in-Some-clause-there
returns-in-Some-clause-there c = stays_with c.args.types.now c.args.ty c.in-Some.found c.first.number (sym c.in-Some.ensures) (sym c.eq.ensures ∙ c.if-eq.true)

pub first-preserved : goal.first-preserved
first-preserved c = comes_later c.args.types.now.types c.args.ty c.in-Some.found c.first.number c.first.invariant (sym c.in-Some.ensures) (sym c.eq.ensures ∙ c.if-eq.false)
