use Rattle.std.proofs.Common.{◌+◌, ℕ, subst, sym}
use Rattle.life_pointers.specs.Pointers.{IsShort}
use Rattle.life_pointers.proofs.pointer.element_of.Goals as goal

pub returns-clause-fits : goal.returns-clause-fits
returns-clause-fits c = λ content rows fits counted short.
    c.at_index.ensures.fits content rows fits counted (subst (λ (k : ℕ). IsShort (k + c.args.index + 1) c.args.pointer) (sym c.start_of.ensures.start) short)
