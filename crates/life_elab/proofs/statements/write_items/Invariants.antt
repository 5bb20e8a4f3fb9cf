use Rattle.std.proofs.Common.{◌≡◌, drop, map}
use Rattle.life_typed.specs.TypedStatement.{item_view}
use Rattle.life_writer.specs.Views.{around_of, state_of}
use Rattle.life_elab.specs.StatementForms.{items}
use Rattle.life_elab.proofs.statements.write_items.Given as goal

abbrev pub invariant-items : goal.invariant-items
invariant-items l =
    items (around_of l.a) (map item_view (drop l.item-index l.items)) l.behind (state_of l.writer) ≡ items (around_of l.a) (map item_view l.items) l.behind (state_of l.initial.writer)
