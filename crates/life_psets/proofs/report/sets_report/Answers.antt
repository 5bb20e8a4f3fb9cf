use Rattle.std.proofs.Common.{◌+◌, ◌≤◌, ◌++◌, List, map, length, ap, subst, sym, ◌∙◌, arith}
use Rattle.std.proofs.lemmas.List.{length-map}
use Rattle.std.proofs.lemmas.List.Sums.{prefix_len-le-length}
use Rattle.life_core.specs.Function.{function_of, program_of}
use Rattle.life_core.specs.declared.program.CoreFn.{CoreFn}
use Rattle.life_rules.specs.Texts.{naming_of}
use Rattle.life_psets.specs.Sets.{set_seen}
use Rattle.life_psets.specs.SetTexts.{function_text, is_own}
use Rattle.life_psets.specs.declared.line.SetLine.{SetLine}
use Rattle.life_psets.proofs.Numbered.{function_there}
use Rattle.life_psets.proofs.Tables.{IsTableSoFar, table_next, table_whole}
use Rattle.life_psets.proofs.report.sets_report.Goals as goal

pub split_at-requires : goal.split_at-requires
split_at-requires c = omega (arith, c.leading-count.ensures, prefix_len-le-length (is_own c.loop-index.index) c.loop-index.left.now)

pub loop-index-preserved : goal.loop-index-preserved
loop-index-preserved c =
    let p = program_of c.args.program.now in
    let f = function_of c.f-item.result in
    let parts = c.split_at in
    let here = function_there c.args.program.now.functions.items c.deref-f-items.result.now c.loop-index.index c.f-item.result c.deref-f-items.ensures.value c.loop-index-test.true c.f-item.is in
    let more = c.in_ok-push_function.ensures
    ∙ (λ i. c.loop-index.text.items ++ function_text (naming_of c.args.program.now.names (c.in_ok-sigs.ensures i)) p.types f (map set_seen (parts.ensures.front i))) in
    subst (λ (xs : List SetLine). IsTableSoFar p (map set_seen c.args.sets.now) (c.loop-index.index + 1) (map set_seen xs) c.push_function.new.out.items) (sym parts.ensures.back)
    (table_next p (map set_seen c.args.sets.now) c.loop-index.index f c.loop-index.left.now c.leading-count.result c.loop-index.text.items c.push_function.new.out.items here c.leading-count.ensures more c.loop-index.invariant)

pub returns : goal.returns
returns c =
    let p = program_of c.args.program.now in
    let count : length p.functions ≤ c.loop-index.index =
    omega (arith, length-map c.args.program.now.functions.items function_of, c.loop-index-test.false, ap (λ (fs : List CoreFn). length fs) c.deref-f-items.ensures.value) in
    table_whole p (map set_seen c.args.sets.now) c.loop-index.index (map set_seen c.loop-index.left.now) c.loop-index.text.items count c.loop-index.invariant
