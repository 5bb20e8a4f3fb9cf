use Rattle.std.proofs.Common.{◌≡◌, ◌-◌, ◌≤◌, ℕ, arith, subst, sym}
use Rattle.life_seen.specs.Housed.{IsRef}
use Rattle.life_pointers.proofs.Reading.{all_of, object_fits, read_static, read_to, text_fits}
use Rattle.life_pointers.proofs.words.pointer_from.Goals as goal

pub returns-then-last-eq0-clause-is : goal.returns-then-last-eq0-clause-is
returns-then-last-eq0-clause-is c = λ content rows readable.
    let led : 2 ≤ c.args.first = omega arith in
    let none : c.args.last ≡ 0 = omega arith in
    let fits = text_fits content rows c.args.first c.args.index c.args.count c.args.fourth c.args.last readable led none in
    read_static c.args.first c.args.index c.args.count _ c.args.last c.text_in.result led none (c.text_in.ensures fits.0)

pub returns-then-last-eq0-clause-fits : goal.returns-then-last-eq0-clause-fits
returns-then-last-eq0-clause-fits c = λ content rows readable.
    let fits = text_fits content rows c.args.first c.args.index c.args.count c.args.fourth c.args.last readable (omega arith) (omega arith) in
    (fits.1, fits.2)

pub returns-clause-is : goal.returns-clause-is
returns-clause-is c = λ content rows readable.
    let led : 2 ≤ c.args.first = omega arith in
    let some : 1 ≤ c.args.last = omega arith in
    let fits = object_fits content rows c.args.first c.args.index c.args.count c.args.fourth c.args.last readable led some in
    read_to c.args.first c.args.index c.args.count _ c.args.last c.low.result c.low-2.result c.low-3.result led some
    (all_of c.args.index c.low.result fits.1 c.low.ensures) (all_of c.args.count c.low-2.result fits.2 c.low-2.ensures) c.low-3.ensures

pub returns-clause-fits : goal.returns-clause-fits
returns-clause-fits c = λ content rows readable.
    let led : 2 ≤ c.args.first = omega arith in
    let some : 1 ≤ c.args.last = omega arith in
    let fits = object_fits content rows c.args.first c.args.index c.args.count c.args.fourth c.args.last readable led some in
    (subst (λ (k : ℕ). IsRef content rows (record { row = k; birth = c.args.first - 2 })) (sym c.high.ensures) fits.0, omega arith)
