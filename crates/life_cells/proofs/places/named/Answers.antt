use Rattle.std.proofs.Common.{ap, arith, refl, subst, sym, ◌∙◌}
use Rattle.life_core.specs.Operands.{location_of}
use Rattle.life_store.specs.Effects.{cell}
use Rattle.life_store.specs.Parts.{local_type, word_within}
use Rattle.life_store.specs.Places.{Found, named_by}
use Rattle.life_seen.specs.Kinds.{kinds_of}
use Rattle.life_seen.specs.Named.{names_of}
use Rattle.life_seen.specs.Seen.{object_seen}
use Rattle.life_pointers.specs.Places.{IsHere}
use Rattle.life_pointers.specs.declared.stop.Stop.TheVariants as stop
use Rattle.life_cells.specs.Cells.{state_in}
use Rattle.life_cells.specs.Fits.{meant}
use Rattle.life_cells.specs.Scopes.{function_in, types_in}
use Rattle.life_cells.specs.declared.cell.Cell.TheVariants as held
use Rattle.life_cells.proofs.CellLemmas.{names}
use Rattle.life_cells.proofs.FitLemmas.{cell_fits}
use Rattle.life_cells.proofs.PlaceLemmas.{here_at, missed, unnamed}
use Rattle.life_cells.proofs.Stored.{small_word}
use Rattle.life_cells.proofs.places.named.Goals as goal

pub returns-in-None-clause-is : goal.returns-in-None-clause-is
returns-in-None-clause-is g c =
    let types = types_in c.args.scope.now in
    let content = g.S.Store.content c.args.store.now in
    let rows = g.S.Store.rows c.args.store.now in
    let m = meant types content rows in
    let l = location_of c.args.location.now in
    let v = cell (state_in m c.args.cells.now) l.local in
    missed _ _ stop.Lost (unnamed m v c.in-None.ensures.is) (λ go fixed. refl)

pub returns-in-Err-clause-is : goal.returns-in-Err-clause-is
returns-in-Err-clause-is g c =
    let types = types_in c.args.scope.now in
    let content = g.S.Store.content c.args.store.now in
    let rows = g.S.Store.rows c.args.store.now in
    let m = meant types content rows in
    let l = location_of c.args.location.now in
    let v = cell (state_in m c.args.cells.now) l.local in
    let ref = cell_fits content rows c.args.cells.now l.local (held.Object c.in-Some.object) c.requires.fits.held c.in-Some.ensures.held in
    let there = ap (named_by m) (names v c.in-Some.object.birth c.in-Some.ensures.is) in
    missed _ _ c.in-Err.stop there (c.in-Err.ensures (kinds_of types) c.requires.fits.housed ref)

pub member_word-word-requires : goal.member_word-word-requires
member_word-word-requires g c =
    let types = types_in c.args.scope.now in
    let f = function_in c.args.scope.now in
    let content = g.S.Store.content c.args.store.now in
    let rows = g.S.Store.rows c.args.store.now in
    let m = meant types content rows in
    let l = location_of c.args.location.now in
    let v = cell (state_in m c.args.cells.now) l.local in
    let ref = cell_fits content rows c.args.cells.now l.local (held.Object c.in-Some.object) c.requires.fits.held c.in-Some.ensures.held in
    let there = ap (named_by m) (names v c.in-Some.object.birth c.in-Some.ensures.is) in
    let h = c.in-Ok.ensures (kinds_of types) c.requires.fits.housed ref in
    let lies = c.requires.placed.lies c.in-Ok.spot.object.birth c.in-Ok.spot.index (object_seen (kinds_of types) (names_of content rows) h.object) (there ∙ h.here) in
    small_word (word_within types (local_type types f l.local) l.members) 1 _ lies (omega arith)

pub returns-in-Ok-clause-is : goal.returns-in-Ok-clause-is
returns-in-Ok-clause-is g c =
    let types = types_in c.args.scope.now in
    let content = g.S.Store.content c.args.store.now in
    let rows = g.S.Store.rows c.args.store.now in
    let m = meant types content rows in
    let l = location_of c.args.location.now in
    let v = cell (state_in m c.args.cells.now) l.local in
    let ref = cell_fits content rows c.args.cells.now l.local (held.Object c.in-Some.object) c.requires.fits.held c.in-Some.ensures.held in
    let there = ap (named_by m) (names v c.in-Some.object.birth c.in-Some.ensures.is) in
    let h = c.in-Ok.ensures (kinds_of types) c.requires.fits.housed ref in
    subst (λ (w : Found). IsHere (kinds_of types) content rows w (record { object = c.in-Ok.spot.object; index = c.in-Ok.spot.index; word = c.member_word-word.result })) (sym there) (here_at (kinds_of types) content rows _ c.in-Ok.spot c.member_word-word.result h)

pub returns-in-Ok-clause-word : goal.returns-in-Ok-clause-word
returns-in-Ok-clause-word g c =
    c.member_word-word.ensures
