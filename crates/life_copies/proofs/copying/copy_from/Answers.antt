use Rattle.std.proofs.Common.{sym, subst, ◌∙◌}
use Rattle.life_core.specs.Operands.{operand_of}
use Rattle.life_store.specs.Parts.{parts_at}
use Rattle.life_store.specs.Places.{locate, operand_word}
use Rattle.life_forest.proofs.Operands.{FoundWell, operand_well}
use Rattle.life_seen.specs.Kinds.{kinds_of}
use Rattle.life_pointers.specs.Owned.{spot_seen}
use Rattle.life_pointers.specs.Places.{BeginsAt, IsPlace}
use Rattle.life_pointers.specs.Pointers.{characters_seen}
use Rattle.life_pointers.specs.declared.places.Place.{Place}
use Rattle.life_cells.specs.Cells.{state_in}
use Rattle.life_cells.specs.Fits.{meant}
use Rattle.life_cells.specs.Scopes.{function_in, types_in}
use Rattle.life_copies.proofs.Operands.{value_at}
use Rattle.life_copies.proofs.Steps.{from_stops, from_text, from_there}
use Rattle.life_copies.proofs.copying.copy_from.Goals as goal

pub returns-in-Err-clause-step : goal.returns-in-Err-clause-step
returns-in-Err-clause-step g c s cells texts =
    from_stops (types_in c.args.scope.now) (function_in c.args.scope.now) (meant (types_in c.args.scope.now) (g.S.Store.content c.args.store.now) (g.S.Store.rows c.args.store.now)) c.args.cells.now s (parts_at (types_in c.args.scope.now) c.args.ty) (spot_seen c.args.target) (operand_of c.args.from.now) c.in-Err.stop c.in-Err.ensures.is (meant (types_in c.args.scope.now) (g.S.Store.content c.args.store.now) (g.S.Store.rows c.args.store.now))

pub copy_character-requires-clause-single : goal.copy_character-requires-clause-single
copy_character-requires-clause-single g c =
    sym c.requires.typed.2
    ∙ subst (FoundWell (types_in c.args.scope.now) (meant (types_in c.args.scope.now) (g.S.Store.content c.args.store.now) (g.S.Store.rows c.args.store.now)) c.requires.typed.0 (operand_word (types_in c.args.scope.now) (function_in c.args.scope.now) (operand_of c.args.from.now) (state_in (meant (types_in c.args.scope.now) (g.S.Store.content c.args.store.now) (g.S.Store.rows c.args.store.now)) c.args.cells.now))) (subst (λ (x : Place). IsPlace (kinds_of (types_in c.args.scope.now)) (g.S.Store.content c.args.store.now) (g.S.Store.rows c.args.store.now) (locate (types_in c.args.scope.now) (function_in c.args.scope.now) (operand_of c.args.from.now) (state_in (meant (types_in c.args.scope.now) (g.S.Store.content c.args.store.now) (g.S.Store.rows c.args.store.now)) c.args.cells.now)) x) c.in-Ok-Fixed.field-0-is c.in-Ok-Fixed.ensures.is)
    (operand_well (types_in c.args.scope.now) c.requires.target.owner.served.ordered (function_in c.args.scope.now) (state_in (meant (types_in c.args.scope.now) (g.S.Store.content c.args.store.now) (g.S.Store.rows c.args.store.now)) c.args.cells.now) c.requires.target.owner.ready.stands.frame (operand_of c.args.from.now) c.requires.typed.0 c.requires.typed.1.0 c.requires.typed.1.1)

pub returns-in-Ok-Fixed-clause-step : goal.returns-in-Ok-Fixed-clause-step
returns-in-Ok-Fixed-clause-step g c s cells texts =
    from_text (types_in c.args.scope.now) (function_in c.args.scope.now) (meant (types_in c.args.scope.now) (g.S.Store.content c.args.store.now) (g.S.Store.rows c.args.store.now)) c.args.cells.now s (parts_at (types_in c.args.scope.now) c.args.ty) (spot_seen c.args.target) (operand_of c.args.from.now) (characters_seen c.in-Ok-Fixed.characters) (subst (λ (x : Place). IsPlace (kinds_of (types_in c.args.scope.now)) (g.S.Store.content c.args.store.now) (g.S.Store.rows c.args.store.now) (locate (types_in c.args.scope.now) (function_in c.args.scope.now) (operand_of c.args.from.now) (state_in (meant (types_in c.args.scope.now) (g.S.Store.content c.args.store.now) (g.S.Store.rows c.args.store.now)) c.args.cells.now)) x) c.in-Ok-Fixed.field-0-is c.in-Ok-Fixed.ensures.is) (meant (types_in c.args.scope.now) (g.S.Store.content c.copy_character.new.store) (g.S.Store.rows c.copy_character.new.store)) c.copy_character.result
    (c.copy_character.ensures.step s texts)

pub copy_there-requires-clause-source : goal.copy_there-requires-clause-source
copy_there-requires-clause-source g c =
    value_at (types_in c.args.scope.now) (function_in c.args.scope.now) (g.S.Store.limit c.args.store.now) c.args.depth (g.S.Store.content c.args.store.now) (g.S.Store.rows c.args.store.now) c.args.cells.now c.requires.target.owner.served c.requires.target.owner.ready (operand_of c.args.from.now) c.requires.placed c.in-Ok-Here.source
    (subst (λ (x : Place). IsPlace (kinds_of (types_in c.args.scope.now)) (g.S.Store.content c.args.store.now) (g.S.Store.rows c.args.store.now) (locate (types_in c.args.scope.now) (function_in c.args.scope.now) (operand_of c.args.from.now) (state_in (meant (types_in c.args.scope.now) (g.S.Store.content c.args.store.now) (g.S.Store.rows c.args.store.now)) c.args.cells.now)) x) c.in-Ok-Here.field-0-is c.in-Ok-Here.ensures.is) (subst (λ (x : Place). BeginsAt (operand_word (types_in c.args.scope.now) (function_in c.args.scope.now) (operand_of c.args.from.now) (state_in (meant (types_in c.args.scope.now) (g.S.Store.content c.args.store.now) (g.S.Store.rows c.args.store.now)) c.args.cells.now)) x) c.in-Ok-Here.field-0-is c.in-Ok-Here.ensures.word)
    c.requires.typed.0 c.requires.typed.1 c.args.ty c.requires.typed.2

pub returns-in-Ok-Here-clause-step : goal.returns-in-Ok-Here-clause-step
returns-in-Ok-Here-clause-step g c s cells texts =
    from_there (types_in c.args.scope.now) (function_in c.args.scope.now) (g.S.Store.content c.args.store.now) (g.S.Store.rows c.args.store.now) c.args.cells.now s (parts_at (types_in c.args.scope.now) c.args.ty) (spot_seen c.args.target) (operand_of c.args.from.now) c.in-Ok-Here.source (record { here = (subst (λ (x : Place). IsPlace (kinds_of (types_in c.args.scope.now)) (g.S.Store.content c.args.store.now) (g.S.Store.rows c.args.store.now) (locate (types_in c.args.scope.now) (function_in c.args.scope.now) (operand_of c.args.from.now) (state_in (meant (types_in c.args.scope.now) (g.S.Store.content c.args.store.now) (g.S.Store.rows c.args.store.now)) c.args.cells.now)) x) c.in-Ok-Here.field-0-is c.in-Ok-Here.ensures.is); word = (subst (λ (x : Place). BeginsAt (operand_word (types_in c.args.scope.now) (function_in c.args.scope.now) (operand_of c.args.from.now) (state_in (meant (types_in c.args.scope.now) (g.S.Store.content c.args.store.now) (g.S.Store.rows c.args.store.now)) c.args.cells.now)) x) c.in-Ok-Here.field-0-is c.in-Ok-Here.ensures.word) }) (g.S.Store.content c.copy_there.new.store) (g.S.Store.rows c.copy_there.new.store) c.copy_there.result
    (c.copy_there.ensures.gets s cells)
