use Rattle.std.proofs.Common.{ap, arith, sym, ◌∙◌}
use Rattle.life_core.specs.Operands.{location_of}
use Rattle.life_store.specs.Effects.{cell}
use Rattle.life_store.specs.Kinds.{Owner}
use Rattle.life_store.specs.Places.{owner_spot_if}
use Rattle.life_cells.specs.Cells.{state_in}
use Rattle.life_cells.specs.Fits.{meant}
use Rattle.life_cells.specs.Scopes.{function_in, types_in}
use Rattle.life_cells.specs.Typed.{member_of}
use Rattle.life_cells.specs.declared.cell.Cell.TheVariants as held
use Rattle.life_cells.proofs.CellLemmas.{names}
use Rattle.life_cells.proofs.FitLemmas.{cell_fits}
use Rattle.life_cells.proofs.OwnerLemmas.{no_spot, stored_owns, spot_of}
use Rattle.life_cells.proofs.Stored.{small_word, stored}
use Rattle.life_cells.proofs.owners.local_owner.Goals as goal

pub returns-in-None-clause-is : goal.returns-in-None-clause-is
returns-in-None-clause-is g c =
    let types = types_in c.args.scope.now in
    let f = function_in c.args.scope.now in
    let content = g.S.Store.content c.args.store.now in
    let rows = g.S.Store.rows c.args.store.now in
    let m = meant types content rows in
    let l = location_of c.args.location.now in
    let v = cell (state_in m c.args.cells.now) l.local in
    sym (no_spot types f l v c.in-None.ensures.is)

pub member_word-word-requires : goal.member_word-word-requires
member_word-word-requires g c =
    let types = types_in c.args.scope.now in
    let f = function_in c.args.scope.now in
    let content = g.S.Store.content c.args.store.now in
    let rows = g.S.Store.rows c.args.store.now in
    let m = meant types content rows in
    let l = location_of c.args.location.now in
    let v = cell (state_in m c.args.cells.now) l.local in
    let ref = cell_fits content rows c.args.cells.now l.local (held.Object c.in-Some.object) c.requires.fits.held c.in-Some.ensures.held in
    let there = names v c.in-Some.object.birth c.in-Some.ensures.is in
    let word = member_of types f l in
    let s = stored types Owner 1 content rows c.in-Some.object word c.requires.fits.housed ref (c.requires.owner c.in-Some.object.birth there) in
    small_word word 1 s.object s.lies (omega arith)

pub returns-in-Some-clause-is : goal.returns-in-Some-clause-is
returns-in-Some-clause-is g c =
    let types = types_in c.args.scope.now in
    let f = function_in c.args.scope.now in
    let content = g.S.Store.content c.args.store.now in
    let rows = g.S.Store.rows c.args.store.now in
    let m = meant types content rows in
    let l = location_of c.args.location.now in
    let v = cell (state_in m c.args.cells.now) l.local in
    let there = names v c.in-Some.object.birth c.in-Some.ensures.is in
    ap (spot_of c.in-Some.object.birth) c.member_word-word.ensures ∙ ap (owner_spot_if types f l) (sym there)

pub returns-in-Some-clause-owns : goal.returns-in-Some-clause-owns
returns-in-Some-clause-owns g c =
    let types = types_in c.args.scope.now in
    let f = function_in c.args.scope.now in
    let content = g.S.Store.content c.args.store.now in
    let rows = g.S.Store.rows c.args.store.now in
    let m = meant types content rows in
    let l = location_of c.args.location.now in
    let v = cell (state_in m c.args.cells.now) l.local in
    let ref = cell_fits content rows c.args.cells.now l.local (held.Object c.in-Some.object) c.requires.fits.held c.in-Some.ensures.held in
    let there = names v c.in-Some.object.birth c.in-Some.ensures.is in
    let word = member_of types f l in
    let s = stored types Owner 1 content rows c.in-Some.object word c.requires.fits.housed ref (c.requires.owner c.in-Some.object.birth there) in
    stored_owns types content rows c.in-Some.object word c.member_word-word.result c.requires.fits.housed c.member_word-word.ensures s
