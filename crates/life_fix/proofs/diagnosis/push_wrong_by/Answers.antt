use Rattle.std.proofs.Common.{◌≡◌, Contains, List, refl, subst, sym}
use Rattle.life_core.specs.Function.{function_of}
use Rattle.life_core.specs.Node.{spot_seen}
use Rattle.life_pset.specs.declared.element.Fact.{Fact}
use Rattle.life_rules.specs.Pairs.{Adds}
use Rattle.life_rules.specs.declared.diag.Diag.{Diag}
use Rattle.life_fix.specs.Finding.{all_wrong}
use Rattle.life_fix.specs.Told.{AreTold}
use Rattle.life_fix.proofs.Finding.{wrong_by_told}
use Rattle.life_fix.proofs.diagnosis.push_wrong_by.Goals as goal

pub returns-clause-wrong : goal.returns-clause-wrong
returns-clause-wrong g c =
    let sigs = c.args.sigs.now in
    let types = c.args.types.now in
    let function = c.args.function in
    let f = function_of c.args.f.now in
    let table = c.args.table.now in
    let spot = spot_seen c.args.spot in
    let facts = c.deref.result.now in
    let out = c.args.out.now.items in
    let at = c.in_ok-at in
    let has = g.R.Rows.has c.args.row.now in
    let held = subst (λ (facts : List Fact). AreTold types f spot table has facts) (sym c.deref.ensures.value) c.in_ok-facts.ensures.told in
    let same : all_wrong at.at.sigs.now at.at.types.now at.at.function (function_of at.at.f.now) (spot_seen at.at.spot) facts ≡ all_wrong sigs types function f spot facts =
    rw (at.ensures.sigs, at.ensures.types, at.ensures.function, at.ensures.f, at.ensures.spot) refl in
    wrong_by_told sigs types function f table has spot facts out c.push_all_wrong.new.out.items held (subst (λ (ds : List Diag). Adds (Contains ds) out c.push_all_wrong.new.out.items) same c.in_ok-push_all_wrong.ensures)
