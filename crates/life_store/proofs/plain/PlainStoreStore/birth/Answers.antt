use Rattle.std.proofs.Common.{◌+◌, ◌≤◌, List, length, ap, subst, sym, refl, rules, ◌∙◌, arith}
use Rattle.std.proofs.lemmas.Result.{err_from_is_err_and}
use Rattle.life_store.specs.Cells.{Cells, set}
use Rattle.life_store.specs.Content.{Object, Content, cost}
use Rattle.life_store.specs.PlainRows.{Row, Table, objects_in, rows_of}
use Rattle.life_store.specs.References.{IsFreeRow}
use Rattle.life_store.proofs.Past.{past_born}
use Rattle.life_store.proofs.StoreLemmas.{live_words_are, filled_seen, row_small}
use Rattle.life_store.proofs.plain.PlainStoreStore.birth.Goals as goal

pub returns-in_default-clause-cells : goal.returns-in_default-clause-cells
returns-in_default-clause-cells c =
    let live = live_words_are c.self.inside c.args.self.now c.self.invariant c.self.view_is in
    let limit = ap (λ (t : Table). t.limit) c.self.view_is in
    ((λ h. omega (arith, c.in_default.ensures, live, limit)), (λ lt. refl))

pub returns-in_err-object-clause-cells : goal.returns-in_err-object-clause-cells
returns-in_err-object-clause-cells c =
    let live = live_words_are c.self.inside c.args.self.now c.self.invariant c.self.view_is in
    let limit = ap (λ (t : Table). t.limit) c.self.view_is in
    let e = err_from_is_err_and c.from_residual.result c.from_residual.ensures.1 in
    rw (e.1, e.2) ((λ h. cc), (λ lt. absurd (omega (arith, lt, c.in-Some.ensures.0, c.in-Some.ensures.1, live, limit))))

pub returns-in_err-fill_row-clause-cells : goal.returns-in_err-fill_row-clause-cells
returns-in_err-fill_row-clause-cells c =
    let live = live_words_are c.self.inside c.args.self.now c.self.invariant c.self.view_is in
    let limit = ap (λ (t : Table). t.limit) c.self.view_is in
    let e = err_from_is_err_and c.from_residual-in_err-fill_row.result c.from_residual-in_err-fill_row.ensures.1 in
    rw (e.1, e.2) ((λ h. cc), (λ lt. absurd (omega (arith, lt, c.in-Some.ensures.0, c.in-Some.ensures.1, live, limit))))

pub overflow_cast-result : goal.overflow_cast-result
overflow_cast-result c =
    let small = row_small c.self.inside c.vacant_row-row.result c.deref.result.now c.self.invariant c.deref.ensures.value c.vacant_row-row.ensures.taken in
    search (rules, small)

pub invariant_of-self-2 : goal.invariant_of-self-2
invariant_of-self-2 c =
    let t = c.vacant_row-row.ensures in
    let f = filled_seen c.self.inside c.vacant_row-row.result c.in_ok-object.object c.deref.result.now c.fill_row.new.rows.items c.self.invariant c.deref.ensures.value t.taken t.within t.vacant c.in_ok-fill_row.ensures.filled c.in_ok-fill_row.ensures.grown in
    let born = ap (λ (o : Object). cost o) c.in_ok-object.ensures in
    record {
      numbered = f.numbered;
      past = past_born c.self.inside.clock (record { birth = c.self.inside.births; object = c.in_ok-object.object }) (subst (λ (o : Object). o.end ≤ c.self.inside.clock) (sym c.in_ok-object.ensures) (omega arith)) c.self.inside.rows.items c.fill_row.new.rows.items c.vacant_row-row.result (subst (λ (rows : List Row). c.vacant_row-row.result ≤ length rows) c.deref.ensures.value t.within) c.self.invariant.past c.in_ok-fill_row.ensures.filled c.in_ok-fill_row.ensures.grown;
      live = omega (arith, f.costs, born, c.in-Some.ensures.0, c.self.invariant.live);
      within = c.in-Some.ensures.1;
      small = c.self.invariant.small;
      taken = f.taken;
    }

pub returns-clause-born : goal.returns-clause-born
returns-clause-born c =
    let t = c.vacant_row-row.ensures in
    let f = filled_seen c.self.inside c.vacant_row-row.result c.in_ok-object.object c.deref.result.now c.fill_row.new.rows.items c.self.invariant c.deref.ensures.value t.taken t.within t.vacant c.in_ok-fill_row.ensures.filled c.in_ok-fill_row.ensures.grown in
    let made : Object → Content = λ o. record { objects = set (objects_in c.self.inside.rows.items) c.self.inside.births o; births = c.self.inside.births + 1; clock = c.self.inside.clock } in
    let holding : Cells Object → Content = λ m. record { objects = m; births = c.self.inside.births + 1; clock = c.self.inside.clock } in
    rw (← c.self.view_is) (ap holding f.objects ∙ ap made c.in_ok-object.ensures)

pub returns-clause-free : goal.returns-clause-free
returns-clause-free c =
    let t = c.vacant_row-row.ensures in
    let f = filled_seen c.self.inside c.vacant_row-row.result c.in_ok-object.object c.deref.result.now c.fill_row.new.rows.items c.self.invariant c.deref.ensures.value t.taken t.within t.vacant c.in_ok-fill_row.ensures.filled c.in_ok-fill_row.ensures.grown in
    subst (λ (t : Table). IsFreeRow (rows_of t) c.vacant_row-row.result) c.self.view_is f.free

pub returns-clause-row : goal.returns-clause-row
returns-clause-row c =
    let t = c.vacant_row-row.ensures in
    let f = filled_seen c.self.inside c.vacant_row-row.result c.in_ok-object.object c.deref.result.now c.fill_row.new.rows.items c.self.invariant c.deref.ensures.value t.taken t.within t.vacant c.in_ok-fill_row.ensures.filled c.in_ok-fill_row.ensures.grown in
    rw (← c.self.view_is) f.places

pub returns-clause-cells : goal.returns-clause-cells
returns-clause-cells c =
    let live = live_words_are c.self.inside c.args.self.now c.self.invariant c.self.view_is in
    let limit = ap (λ (t : Table). t.limit) c.self.view_is in
    ((λ h. cc), (λ lt. absurd (omega (arith, lt, c.in-Some.ensures.0, c.in-Some.ensures.1, live, limit))))
