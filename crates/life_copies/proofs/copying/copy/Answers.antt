use Rattle.std.proofs.Common.{sym, ap, subst, ◌∙◌}
use Rattle.std.proofs.lemmas.Option.{none-some, same_Some}
use Rattle.life_core.specs.Operands.{operand_of}
use Rattle.life_store.specs.Parts.{parts_at, parts_if}
use Rattle.life_values.specs.Copyable.{HasCopy}
use Rattle.life_cells.specs.Fits.{meant}
use Rattle.life_cells.specs.Scopes.{function_in, types_in}
use Rattle.life_copies.proofs.Operands.{value_at}
use Rattle.life_copies.proofs.Steps.{copy_goes, copy_stops}
use Rattle.life_copies.proofs.copying.copy.Goals as goal

pub returns-in-Err-clause-step : goal.returns-in-Err-clause-step
returns-in-Err-clause-step g c s cells texts =
    copy_stops (types_in c.args.scope.now) (function_in c.args.scope.now) (meant (types_in c.args.scope.now) (g.S.Store.content c.args.store.now) (g.S.Store.rows c.args.store.now)) c.args.cells.now s (operand_of c.args.to.now) (operand_of c.args.from.now) c.in-Err.stop c.in-Err.ensures.is (meant (types_in c.args.scope.now) (g.S.Store.content c.args.store.now) (g.S.Store.rows c.args.store.now))

pub returns-in-None-clause-step : goal.returns-in-None-clause-step
returns-in-None-clause-step g c s cells texts = absurd (none-some c.requires.typed.0 (c.in-None.ensures ∙ c.requires.typed.2.0))

pub copy_from-requires-clause-target : goal.copy_from-requires-clause-target
copy_from-requires-clause-target g c =
    value_at (types_in c.args.scope.now) (function_in c.args.scope.now) (g.S.Store.limit c.args.store.now) c.args.depth (g.S.Store.content c.args.store.now) (g.S.Store.rows c.args.store.now) c.args.cells.now c.requires.served c.requires.ready (operand_of c.args.to.now) c.requires.to_placed c.in-Ok.target c.in-Ok.ensures.found.here c.in-Ok.ensures.found.word
    c.requires.typed.0 c.requires.typed.2 c.in-Some.ty (ap (parts_at (types_in c.args.scope.now)) (same_Some c.requires.typed.0 c.in-Some.ty (sym c.requires.typed.2.0 ∙ sym c.in-Some.ensures)))

pub copy_from-requires-clause-typed : goal.copy_from-requires-clause-typed
copy_from-requires-clause-typed g c = (c.requires.typed.1, c.requires.typed.3, c.requires.typed.4 ∙ (ap (parts_at (types_in c.args.scope.now)) (same_Some c.requires.typed.0 c.in-Some.ty (sym c.requires.typed.2.0 ∙ sym c.in-Some.ensures))))

pub copy_from-requires-clause-copied : goal.copy_from-requires-clause-copied
copy_from-requires-clause-copied g c = subst (λ id. HasCopy (parts_if (types_in c.args.scope.now) id)) (sym c.in-Some.ensures) c.requires.copied

pub returns-in-Some-clause-step : goal.returns-in-Some-clause-step
returns-in-Some-clause-step g c s cells texts =
    copy_goes (types_in c.args.scope.now) (function_in c.args.scope.now) (meant (types_in c.args.scope.now) (g.S.Store.content c.args.store.now) (g.S.Store.rows c.args.store.now)) c.args.cells.now s (operand_of c.args.to.now) (operand_of c.args.from.now) c.in-Ok.target c.in-Ok.ensures.is c.in-Some.ty c.in-Some.ensures (meant (types_in c.args.scope.now) (g.S.Store.content c.copy_from.new.store) (g.S.Store.rows c.copy_from.new.store)) c.copy_from.result
    (c.copy_from.ensures.step s cells texts)
