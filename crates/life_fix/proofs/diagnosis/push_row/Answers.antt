use Rattle.std.proofs.Common.{◌≡◌, ◌⊎◌, ◌↔◌, Contains, Some, ap, subst, sym}
use Rattle.std.specs.Option.{option_copied}
use Rattle.life_core.specs.Function.{function_of}
use Rattle.life_core.specs.Node.{spot_seen}
use Rattle.life_rules.specs.declared.diag.Diag.{Diag}
use Rattle.life_fix.specs.Finding.{IsWrongIn}
use Rattle.life_fix.proofs.Finding.{wrong_by_none}
use Rattle.life_fix.proofs.ToldFacts.{untold_all}
use Rattle.life_fix.proofs.diagnosis.push_row.Goals as goal

pub returns-in_ok-push_wrong_by-in-Some-clause-wrong : goal.returns-in_ok-push_wrong_by-in-Some-clause-wrong
returns-in_ok-push_wrong_by-in-Some-clause-wrong g c =
    let is : option_copied c.args.row ≡ Some c.in-Some.row.now = ap option_copied c.in-Some.is in
    subst (λ row. (d : Diag) → Contains c.push_wrong_by.new.out.items d
    ↔ (Contains c.args.out.now.items d ⊎ IsWrongIn c.args.sigs.now c.args.types.now c.args.function (function_of c.args.f.now) c.args.table.now g.R.Rows.has (spot_seen c.args.spot) row d))
    (sym is) c.in_ok-push_wrong_by-in-Some.ensures.wrong

pub returns-then-not-tells_some-clause-wrong : goal.returns-then-not-tells_some-clause-wrong
returns-then-not-tells_some-clause-wrong g c =
    let is : option_copied c.args.row ≡ Some c.in-Some.row.now = ap option_copied c.in-Some.is in
    let sigs = c.args.sigs.now in
    let types = c.args.types.now in
    let f = function_of c.args.f.now in
    let table = c.args.table.now in
    let spot = spot_seen c.args.spot in
    let has = g.R.Rows.has c.in-Some.row.now in
    let out = c.args.out.now.items in
    let told = untold_all types f spot table has (c.tells_some.ensures.none c.if-not-tells_some.true) in
    subst (λ row. (d : Diag) → Contains out d ↔ (Contains out d ⊎ IsWrongIn sigs types c.args.function f table g.R.Rows.has spot row d)) (sym is)
    (wrong_by_none sigs types c.args.function f table has spot out told)
