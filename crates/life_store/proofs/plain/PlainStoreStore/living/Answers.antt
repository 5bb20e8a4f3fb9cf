use Rattle.std.proofs.Common.{◌+◌, ◌≡◌, ℕ, Some, ap, subst, refl, sym, ◌∙◌, arith}
use Rattle.std.proofs.lemmas.Option.{none-some, same_Some, slice_get_read, slice_get_past}
use Rattle.life_store.specs.Cells.{at}
use Rattle.life_store.specs.PlainRows.{Table, Row, rows_of}
use Rattle.life_store.specs.References.{IsFreeRow}
use Rattle.life_store.proofs.RowLemmas.{found_row, vacant_free}
use Rattle.life_store.proofs.plain.PlainStoreStore.living.Goals as goal

pub returns-in-Some-clause-found : goal.returns-in-Some-clause-found
returns-in-Some-clause-found c =
    let rows = c.self.inside.rows in
    let there = slice_get_read rows.items rows.len c.args.row c.index.result.now rows.ok.0 (omega (arith, c.if-at-len.true, c.len.ensures)) c.index.ensures in
    let entry = there ∙ ap (λ (row : Row). Some row) c.in-Some.is in
    let k : 0 + c.args.row ≡ c.args.row = omega arith in
    (refl, ap (λ (t : Table). at (rows_of t) c.in-Some.entry.birth) (sym c.self.view_is) ∙ found_row c.self.inside.births 0 rows.items c.args.row c.in-Some.entry c.self.invariant.numbered entry ∙ ap (λ (n : ℕ). Some n) k)

pub returns-in_default-clause-none : goal.returns-in_default-clause-none
returns-in_default-clause-none c =
    let rows = c.self.inside.rows in
    let there = slice_get_read rows.items rows.len c.args.row c.index.result.now rows.ok.0 (omega (arith, c.if-at-len.true, c.len.ensures)) c.index.ensures in
    let vacant = vacant_free c.self.inside.births c.args.row rows.items c.self.invariant.numbered (λ e t. c.in_default.not-Some e (same_Some c.index.result.now (Some e) (sym there ∙ t))) in
    subst (λ (t : Table). IsFreeRow (rows_of t) c.args.row) c.self.view_is vacant

pub returns-else-at-len-clause-none : goal.returns-else-at-len-clause-none
returns-else-at-len-clause-none c =
    let rows = c.self.inside.rows in
    let past = slice_get_past rows.items c.args.row (omega (arith, c.if-at-len.false, c.len.ensures, rows.ok.0)) in
    let vacant = vacant_free c.self.inside.births c.args.row rows.items c.self.invariant.numbered (λ e t. none-some (Some e) (sym past ∙ t)) in
    subst (λ (t : Table). IsFreeRow (rows_of t) c.args.row) c.self.view_is vacant
