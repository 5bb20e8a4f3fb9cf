use Rattle.std.proofs.Common.{◌∙◌, drop, length, List, subst, sym}
use Rattle.std.proofs.lemmas.List.{take_at}
use Rattle.life_core.specs.Function.{function_of}
use Rattle.life_sets.specs.NumberSets.{Numbers}
use Rattle.life_plan.specs.declared.plan.Plan.{Plan}
use Rattle.life_fix.specs.Solving.{set_at, AreMade, IsFirstDue}
use Rattle.life_fix.proofs.Starting.{first_rows}
use Rattle.life_fix.proofs.solver.rows_with.Goals as goal

pub run_all-requires-clause-partial : goal.run_all-requires-clause-partial
run_all-requires-clause-partial g c =
    let sigs = c.args.sigs.now in
    let types = c.args.types.now in
    let f = function_of c.args.f.now in
    let table = c.args.table.now in
    let edges = c.deref.result.now in
    let made = subst (λ (ps : List Plan). AreMade sigs types f edges ps) (sym c.deref_mut-2.ensures.value) c.in_ok-plans.ensures.made in
    first_rows g.R.Rows.has sigs types f edges c.deref_mut-2.result.now (set_at c.deref_mut-3.result.now) table c.in_ok-rows.rows.items c.deref_mut.result.now c.requires.table c.deref_mut.ensures.value c.in_ok-rows.ensures.start made
    (λ k.
    subst (λ (ps : List Plan). IsFirstDue (length table.locations) edges ps k (set_at c.deref_mut-3.result.now k)) (c.deref-2.ensures.value ∙ sym c.deref_mut-2.ensures.value)
    (subst (λ (ds : List Numbers). IsFirstDue (length table.locations) edges c.deref-2.result.now k (set_at ds k)) (sym c.deref_mut-3.ensures.value) (c.in_ok-dues.ensures.due k)))

pub returns-clause-solved : goal.returns-clause-solved
returns-clause-solved g c =
    let n = c.in_ok-rows.rows.len in
    let back = take_at c.run_all.new.rows (drop (length c.run_all.new.rows) c.in_ok-rows.rows.items) n (c.run_all.auto.rows ∙ c.deref_mut.ensures.len) in
    rw back c.in_ok-run_all.ensures.solved

pub returns-clause-locations : goal.returns-clause-locations
returns-clause-locations g c =
    let n = c.in_ok-rows.rows.len in
    let back = take_at c.run_all.new.rows (drop (length c.run_all.new.rows) c.in_ok-rows.rows.items) n (c.run_all.auto.rows ∙ c.deref_mut.ensures.len) in
    rw back c.in_ok-run_all.ensures.locations

pub returns-clause-elements : goal.returns-clause-elements
returns-clause-elements g c =
    let n = c.in_ok-rows.rows.len in
    let back = take_at c.run_all.new.rows (drop (length c.run_all.new.rows) c.in_ok-rows.rows.items) n (c.run_all.auto.rows ∙ c.deref_mut.ensures.len) in
    rw back c.in_ok-run_all.ensures.elements
