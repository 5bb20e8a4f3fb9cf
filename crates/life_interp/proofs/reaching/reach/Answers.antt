use Rattle.std.proofs.Common.{List, subst, sym}
use Rattle.life_core.specs.Operands.{operand_of}
use Rattle.life_core.specs.Step.{step_of}
use Rattle.life_core.specs.declared.instr.Instr.{Instr}
use Rattle.life_cells.specs.Cells.{state_in, state_of}
use Rattle.life_cells.specs.Fits.{meant}
use Rattle.life_cells.specs.Scopes.{function_in, types_in}
use Rattle.life_cells.specs.Steps.{Comes}
use Rattle.life_cells.specs.declared.cell.Cell.{Cell}
use Rattle.life_cells.proofs.LocationLemmas.{keeps_itself}
use Rattle.life_store.specs.Doing.{does}
use Rattle.life_interp.specs.Accessed.{HasPlaces, IsNumberPlace}
use Rattle.life_interp.specs.Steps.{stored}
use Rattle.life_interp.proofs.Others.{others_stray}
use Rattle.life_interp.proofs.reaching.reach.Goals as goal

pub load-requires-clause-number : goal.load-requires-clause-number
load-requires-clause-number g c =
    let types = types_in c.args.scope.now in
    let f = function_in c.args.scope.now in
    let content = g.S.Store.content c.args.store.now in
    let rows = g.S.Store.rows c.args.store.now in
    let m = meant types content rows in
    let cells = c.args.cells.now.items in
    subst (λ (i : Instr). HasPlaces types f (state_in m cells) (step_of i)) c.in-Load.is c.requires.places

pub returns-in-Load-clause-step : goal.returns-in-Load-clause-step
returns-in-Load-clause-step g c = λ s texts.
    let types = types_in c.args.scope.now in
    let f = function_in c.args.scope.now in
    let content = g.S.Store.content c.args.store.now in
    let rows = g.S.Store.rows c.args.store.now in
    let m = meant types content rows in
    let cells = c.args.cells.now.items in
    subst (λ (i : Instr). Comes (does s types f (step_of i)) m cells (meant types content rows) c.load.new.cells.items c.load.result) (sym c.in-Load.is)
    (c.load.ensures.step s texts)

pub returns-in-Load-clause-keeps : goal.returns-in-Load-clause-keeps
returns-in-Load-clause-keeps g c = keeps_itself (g.S.Store.content c.args.store.now) (g.S.Store.rows c.args.store.now)

pub save-requires-clause-number : goal.save-requires-clause-number
save-requires-clause-number g c =
    let types = types_in c.args.scope.now in
    let f = function_in c.args.scope.now in
    let content = g.S.Store.content c.args.store.now in
    let rows = g.S.Store.rows c.args.store.now in
    let m = meant types content rows in
    let cells = c.args.cells.now.items in
    subst (λ (cs : List Cell). IsNumberPlace types f (operand_of c.in-Save.to) (state_in m cs)) (sym c.deref.ensures.value)
    (subst (λ (i : Instr). HasPlaces types f (state_in m cells) (step_of i)) c.in-Save.is c.requires.places)

pub returns-in-Save-clause-step : goal.returns-in-Save-clause-step
returns-in-Save-clause-step g c = λ s texts.
    let types = types_in c.args.scope.now in
    let f = function_in c.args.scope.now in
    let content = g.S.Store.content c.args.store.now in
    let rows = g.S.Store.rows c.args.store.now in
    let m = meant types content rows in
    let cells = c.args.cells.now.items in
    subst (λ (i : Instr). Comes (does s types f (step_of i)) m cells (meant types (g.S.Store.content c.save.new.store) (g.S.Store.rows c.save.new.store)) cells c.save.result) (sym c.in-Save.is)
    (subst (λ (cs : List Cell). Comes (stored types f (operand_of c.in-Save.to) c.in-Save.from) m cs (meant types (g.S.Store.content c.save.new.store) (g.S.Store.rows c.save.new.store)) cs c.save.result) c.deref.ensures.value c.save.ensures.step)

pub aim-requires-clause-pointer : goal.aim-requires-clause-pointer
aim-requires-clause-pointer g c =
    let types = types_in c.args.scope.now in
    let f = function_in c.args.scope.now in
    let content = g.S.Store.content c.args.store.now in
    let rows = g.S.Store.rows c.args.store.now in
    let m = meant types content rows in
    let cells = c.args.cells.now.items in
    (subst (λ (i : Instr). HasPlaces types f (state_in m cells) (step_of i)) c.in-Aim.is c.requires.places).0

pub aim-requires-clause-source : goal.aim-requires-clause-source
aim-requires-clause-source g c =
    let types = types_in c.args.scope.now in
    let f = function_in c.args.scope.now in
    let content = g.S.Store.content c.args.store.now in
    let rows = g.S.Store.rows c.args.store.now in
    let m = meant types content rows in
    let cells = c.args.cells.now.items in
    (subst (λ (i : Instr). HasPlaces types f (state_in m cells) (step_of i)) c.in-Aim.is c.requires.places).1

pub returns-in-Aim-clause-step : goal.returns-in-Aim-clause-step
returns-in-Aim-clause-step g c = λ s texts.
    let types = types_in c.args.scope.now in
    let f = function_in c.args.scope.now in
    let content = g.S.Store.content c.args.store.now in
    let rows = g.S.Store.rows c.args.store.now in
    let m = meant types content rows in
    let cells = c.args.cells.now.items in
    subst (λ (i : Instr). Comes (does s types f (step_of i)) m cells (meant types (g.S.Store.content c.aim.new.store) (g.S.Store.rows c.aim.new.store)) c.aim.new.cells.items c.aim.result) (sym c.in-Aim.is)
    (c.aim.ensures.step s texts)

pub repoint-requires-clause-pointer : goal.repoint-requires-clause-pointer
repoint-requires-clause-pointer g c =
    let types = types_in c.args.scope.now in
    let f = function_in c.args.scope.now in
    let content = g.S.Store.content c.args.store.now in
    let rows = g.S.Store.rows c.args.store.now in
    let m = meant types content rows in
    let cells = c.args.cells.now.items in
    (subst (λ (i : Instr). HasPlaces types f (state_in m cells) (step_of i)) c.in-Repoint.is c.requires.places).0

pub repoint-requires-clause-from : goal.repoint-requires-clause-from
repoint-requires-clause-from g c =
    let types = types_in c.args.scope.now in
    let f = function_in c.args.scope.now in
    let content = g.S.Store.content c.args.store.now in
    let rows = g.S.Store.rows c.args.store.now in
    let m = meant types content rows in
    let cells = c.args.cells.now.items in
    (subst (λ (i : Instr). HasPlaces types f (state_in m cells) (step_of i)) c.in-Repoint.is c.requires.places).1

pub returns-in-Repoint-clause-step : goal.returns-in-Repoint-clause-step
returns-in-Repoint-clause-step g c = λ s texts.
    let types = types_in c.args.scope.now in
    let f = function_in c.args.scope.now in
    let content = g.S.Store.content c.args.store.now in
    let rows = g.S.Store.rows c.args.store.now in
    let m = meant types content rows in
    let cells = c.args.cells.now.items in
    subst (λ (i : Instr). Comes (does s types f (step_of i)) m cells (meant types (g.S.Store.content c.repoint.new.store) (g.S.Store.rows c.repoint.new.store)) c.repoint.new.cells.items c.repoint.result) (sym c.in-Repoint.is)
    (c.repoint.ensures.step)

pub element-requires-clause-pointer : goal.element-requires-clause-pointer
element-requires-clause-pointer g c =
    let types = types_in c.args.scope.now in
    let f = function_in c.args.scope.now in
    let content = g.S.Store.content c.args.store.now in
    let rows = g.S.Store.rows c.args.store.now in
    let m = meant types content rows in
    let cells = c.args.cells.now.items in
    (subst (λ (i : Instr). HasPlaces types f (state_in m cells) (step_of i)) c.in-Element.is c.requires.places).0

pub element-requires-clause-base : goal.element-requires-clause-base
element-requires-clause-base g c =
    let types = types_in c.args.scope.now in
    let f = function_in c.args.scope.now in
    let content = g.S.Store.content c.args.store.now in
    let rows = g.S.Store.rows c.args.store.now in
    let m = meant types content rows in
    let cells = c.args.cells.now.items in
    (subst (λ (i : Instr). HasPlaces types f (state_in m cells) (step_of i)) c.in-Element.is c.requires.places).1

pub returns-in-Element-clause-step : goal.returns-in-Element-clause-step
returns-in-Element-clause-step g c = λ s texts.
    let types = types_in c.args.scope.now in
    let f = function_in c.args.scope.now in
    let content = g.S.Store.content c.args.store.now in
    let rows = g.S.Store.rows c.args.store.now in
    let m = meant types content rows in
    let cells = c.args.cells.now.items in
    subst (λ (i : Instr). Comes (does s types f (step_of i)) m cells (meant types (g.S.Store.content c.element.new.store) (g.S.Store.rows c.element.new.store)) c.element.new.cells.items c.element.result) (sym c.in-Element.is)
    (c.element.ensures.step)

pub advance-requires-clause-pointer : goal.advance-requires-clause-pointer
advance-requires-clause-pointer g c =
    let types = types_in c.args.scope.now in
    let f = function_in c.args.scope.now in
    let content = g.S.Store.content c.args.store.now in
    let rows = g.S.Store.rows c.args.store.now in
    let m = meant types content rows in
    let cells = c.args.cells.now.items in
    (subst (λ (i : Instr). HasPlaces types f (state_in m cells) (step_of i)) c.in-Advance.is c.requires.places).0

pub advance-requires-clause-from : goal.advance-requires-clause-from
advance-requires-clause-from g c =
    let types = types_in c.args.scope.now in
    let f = function_in c.args.scope.now in
    let content = g.S.Store.content c.args.store.now in
    let rows = g.S.Store.rows c.args.store.now in
    let m = meant types content rows in
    let cells = c.args.cells.now.items in
    (subst (λ (i : Instr). HasPlaces types f (state_in m cells) (step_of i)) c.in-Advance.is c.requires.places).1

pub returns-in-Advance-clause-step : goal.returns-in-Advance-clause-step
returns-in-Advance-clause-step g c = λ s texts.
    let types = types_in c.args.scope.now in
    let f = function_in c.args.scope.now in
    let content = g.S.Store.content c.args.store.now in
    let rows = g.S.Store.rows c.args.store.now in
    let m = meant types content rows in
    let cells = c.args.cells.now.items in
    subst (λ (i : Instr). Comes (does s types f (step_of i)) m cells (meant types (g.S.Store.content c.advance.new.store) (g.S.Store.rows c.advance.new.store)) c.advance.new.cells.items c.advance.result) (sym c.in-Advance.is)
    (c.advance.ensures.step s texts)

pub cut-requires-clause-pointer : goal.cut-requires-clause-pointer
cut-requires-clause-pointer g c =
    let types = types_in c.args.scope.now in
    let f = function_in c.args.scope.now in
    let content = g.S.Store.content c.args.store.now in
    let rows = g.S.Store.rows c.args.store.now in
    let m = meant types content rows in
    let cells = c.args.cells.now.items in
    (subst (λ (i : Instr). HasPlaces types f (state_in m cells) (step_of i)) c.in-Cut.is c.requires.places).0

pub cut-requires-clause-from : goal.cut-requires-clause-from
cut-requires-clause-from g c =
    let types = types_in c.args.scope.now in
    let f = function_in c.args.scope.now in
    let content = g.S.Store.content c.args.store.now in
    let rows = g.S.Store.rows c.args.store.now in
    let m = meant types content rows in
    let cells = c.args.cells.now.items in
    (subst (λ (i : Instr). HasPlaces types f (state_in m cells) (step_of i)) c.in-Cut.is c.requires.places).1

pub returns-in-Cut-clause-step : goal.returns-in-Cut-clause-step
returns-in-Cut-clause-step g c = λ s texts.
    let types = types_in c.args.scope.now in
    let f = function_in c.args.scope.now in
    let content = g.S.Store.content c.args.store.now in
    let rows = g.S.Store.rows c.args.store.now in
    let m = meant types content rows in
    let cells = c.args.cells.now.items in
    subst (λ (i : Instr). Comes (does s types f (step_of i)) m cells (meant types (g.S.Store.content c.cut.new.store) (g.S.Store.rows c.cut.new.store)) c.cut.new.cells.items c.cut.result) (sym c.in-Cut.is)
    (c.cut.ensures.step)

pub size-requires-clause-base : goal.size-requires-clause-base
size-requires-clause-base g c =
    let types = types_in c.args.scope.now in
    let f = function_in c.args.scope.now in
    let content = g.S.Store.content c.args.store.now in
    let rows = g.S.Store.rows c.args.store.now in
    let m = meant types content rows in
    let cells = c.args.cells.now.items in
    subst (λ (i : Instr). HasPlaces types f (state_in m cells) (step_of i)) c.in-Size.is c.requires.places

pub returns-in-Size-clause-step : goal.returns-in-Size-clause-step
returns-in-Size-clause-step g c = λ s texts.
    let types = types_in c.args.scope.now in
    let f = function_in c.args.scope.now in
    let content = g.S.Store.content c.args.store.now in
    let rows = g.S.Store.rows c.args.store.now in
    let m = meant types content rows in
    let cells = c.args.cells.now.items in
    subst (λ (i : Instr). Comes (does s types f (step_of i)) m cells (meant types content rows) c.size.new.cells.items c.size.result) (sym c.in-Size.is)
    (c.size.ensures.step)

pub returns-in-Size-clause-keeps : goal.returns-in-Size-clause-keeps
returns-in-Size-clause-keeps g c = keeps_itself (g.S.Store.content c.args.store.now) (g.S.Store.rows c.args.store.now)

pub same-requires-clause-left : goal.same-requires-clause-left
same-requires-clause-left g c =
    let types = types_in c.args.scope.now in
    let f = function_in c.args.scope.now in
    let content = g.S.Store.content c.args.store.now in
    let rows = g.S.Store.rows c.args.store.now in
    let m = meant types content rows in
    let cells = c.args.cells.now.items in
    (subst (λ (i : Instr). HasPlaces types f (state_in m cells) (step_of i)) c.in-Same.is c.requires.places).0

pub same-requires-clause-right : goal.same-requires-clause-right
same-requires-clause-right g c =
    let types = types_in c.args.scope.now in
    let f = function_in c.args.scope.now in
    let content = g.S.Store.content c.args.store.now in
    let rows = g.S.Store.rows c.args.store.now in
    let m = meant types content rows in
    let cells = c.args.cells.now.items in
    (subst (λ (i : Instr). HasPlaces types f (state_in m cells) (step_of i)) c.in-Same.is c.requires.places).1

pub same-requires-clause-left_seen : goal.same-requires-clause-left_seen
same-requires-clause-left_seen g c =
    let types = types_in c.args.scope.now in
    let f = function_in c.args.scope.now in
    let content = g.S.Store.content c.args.store.now in
    let rows = g.S.Store.rows c.args.store.now in
    let m = meant types content rows in
    let cells = c.args.cells.now.items in
    (subst (λ (i : Instr). HasPlaces types f (state_in m cells) (step_of i)) c.in-Same.is c.requires.places).2

pub same-requires-clause-right_seen : goal.same-requires-clause-right_seen
same-requires-clause-right_seen g c =
    let types = types_in c.args.scope.now in
    let f = function_in c.args.scope.now in
    let content = g.S.Store.content c.args.store.now in
    let rows = g.S.Store.rows c.args.store.now in
    let m = meant types content rows in
    let cells = c.args.cells.now.items in
    (subst (λ (i : Instr). HasPlaces types f (state_in m cells) (step_of i)) c.in-Same.is c.requires.places).3

pub returns-in-Same-clause-step : goal.returns-in-Same-clause-step
returns-in-Same-clause-step g c = λ s texts.
    let types = types_in c.args.scope.now in
    let f = function_in c.args.scope.now in
    let content = g.S.Store.content c.args.store.now in
    let rows = g.S.Store.rows c.args.store.now in
    let m = meant types content rows in
    let cells = c.args.cells.now.items in
    subst (λ (i : Instr). Comes (does s types f (step_of i)) m cells (meant types content rows) c.same.new.cells.items c.same.result) (sym c.in-Same.is)
    (c.same.ensures.step s texts)

pub returns-in-Same-clause-keeps : goal.returns-in-Same-clause-keeps
returns-in-Same-clause-keeps g c = keeps_itself (g.S.Store.content c.args.store.now) (g.S.Store.rows c.args.store.now)

pub returns-in_default-clause-step : goal.returns-in_default-clause-step
returns-in_default-clause-step g c = λ s texts output input.
    others_stray s (types_in c.args.scope.now) (function_in c.args.scope.now) (state_of (meant (types_in c.args.scope.now) (g.S.Store.content c.args.store.now) (g.S.Store.rows c.args.store.now)) c.args.cells.now.items output input) c.args.instr.now c.requires.access
    (λ r o e. c.in_default.not-Load r o e) (λ o r e. c.in_default.not-Save o r e) (λ p x e. c.in_default.not-Aim p x e) (λ p q e. c.in_default.not-Repoint p q e) (λ p b which e. c.in_default.not-Element p b which e) (λ p q r direction e. c.in_default.not-Advance p q r direction e) (λ p q r count e. c.in_default.not-Cut p q r count e) (λ r b e. c.in_default.not-Size r b e) (λ r a b equal e. c.in_default.not-Same r a b equal e)

pub returns-in_default-clause-keeps : goal.returns-in_default-clause-keeps
returns-in_default-clause-keeps g c = keeps_itself (g.S.Store.content c.args.store.now) (g.S.Store.rows c.args.store.now)
