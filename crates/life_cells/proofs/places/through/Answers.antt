use Rattle.std.proofs.Common.{◌≡◌, ◌<◌, ◌^◌, ◌+◌, Option, Some, ap, arith, refl, subst, sym, ◌∙◌}
use Rattle.life_types.specs.declared.ty.TyId.{TyId}
use Rattle.life_core.specs.Operands.{location_of}
use Rattle.life_store.specs.Parts.{location_type, target_type, word_within}
use Rattle.life_store.specs.Places.{Found, behind_pointer, location_cell, pointer_word}
use Rattle.life_store.specs.State.{Points}
use Rattle.life_seen.specs.Kinds.{kinds_of}
use Rattle.life_seen.specs.Named.{names_of}
use Rattle.life_seen.specs.Seen.{object_seen}
use Rattle.life_pointers.specs.Places.{BeginsAt, IsHere, IsPlace}
use Rattle.life_pointers.specs.Pointers.{pointer_seen}
use Rattle.life_pointers.specs.declared.places.Place.{Place}
use Rattle.life_pointers.specs.declared.stop.Stop.TheVariants as stop
use Rattle.life_cells.specs.Cells.{state_in}
use Rattle.life_cells.specs.Fits.{meant}
use Rattle.life_cells.specs.Scopes.{function_in, types_in}
use Rattle.life_cells.proofs.CellLemmas.{points}
use Rattle.life_cells.proofs.PlaceLemmas.{here_at, missed, none_behind, some_behind}
use Rattle.life_cells.proofs.Stored.{small_word}
use Rattle.life_cells.proofs.places.through.Goals as goal

pub returns-in-None-clause-is : goal.returns-in-None-clause-is
returns-in-None-clause-is g c =
    let types = types_in c.args.scope.now in
    let f = function_in c.args.scope.now in
    let content = g.S.Store.content c.args.store.now in
    let rows = g.S.Store.rows c.args.store.now in
    let m = meant types content rows in
    let l = location_of c.args.pointer.now in
    let v = location_cell types f l (state_in m c.args.cells.now) in
    missed _ _ stop.Lost (none_behind m v c.in-None.ensures.is) (λ go fixed. refl)

pub returns-in-Err-clause-is : goal.returns-in-Err-clause-is
returns-in-Err-clause-is g c =
    let types = types_in c.args.scope.now in
    let f = function_in c.args.scope.now in
    let content = g.S.Store.content c.args.store.now in
    let rows = g.S.Store.rows c.args.store.now in
    let m = meant types content rows in
    let l = location_of c.args.pointer.now in
    let v = location_cell types f l (state_in m c.args.cells.now) in
    let there = some_behind m v (pointer_seen c.in-Some.to) c.in-Some.ensures.is in
    missed _ _ c.in-Err.stop there (c.in-Err.ensures.is (kinds_of types) c.requires.fits.housed c.in-Some.ensures.fits)

pub returns-in-Ok-Fixed-clause-is : goal.returns-in-Ok-Fixed-clause-is
returns-in-Ok-Fixed-clause-is g c =
    let types = types_in c.args.scope.now in
    let f = function_in c.args.scope.now in
    let content = g.S.Store.content c.args.store.now in
    let rows = g.S.Store.rows c.args.store.now in
    let m = meant types content rows in
    let l = location_of c.args.pointer.now in
    let v = location_cell types f l (state_in m c.args.cells.now) in
    let there = some_behind m v (pointer_seen c.in-Some.to) c.in-Some.ensures.is in
    there ∙ subst (λ (x : Place). IsPlace (kinds_of types) content rows (behind_pointer m (pointer_seen c.in-Some.to)) x) c.in-Ok-Fixed.field-0-is (c.in-Ok-Fixed.ensures.is (kinds_of types) c.requires.fits.housed c.in-Some.ensures.fits)

pub word_within-inner-requires : goal.word_within-inner-requires
word_within-inner-requires g c =
    let types = types_in c.args.scope.now in
    let f = function_in c.args.scope.now in
    let content = g.S.Store.content c.args.store.now in
    let rows = g.S.Store.rows c.args.store.now in
    let m = meant types content rows in
    let l = location_of c.args.pointer.now in
    let v = location_cell types f l (state_in m c.args.cells.now) in
    let there = some_behind m v (pointer_seen c.in-Some.to) c.in-Some.ensures.is in
    let h : IsHere (kinds_of types) content rows (behind_pointer m (pointer_seen c.in-Some.to)) c.in-Ok-Here.spot = subst (λ (x : Place). IsPlace (kinds_of types) content rows (behind_pointer m (pointer_seen c.in-Some.to)) x) c.in-Ok-Here.field-0-is (c.in-Ok-Here.ensures.is (kinds_of types) c.requires.fits.housed c.in-Some.ensures.fits) in
    let lies = c.requires.placed.lies c.in-Ok-Here.spot.object.birth c.in-Ok-Here.spot.index (object_seen (kinds_of types) (names_of content rows) h.object) (there ∙ h.here) in
    let inner = word_within types (target_type types (location_type types f l)) c.args.members.now in
    let small : pointer_word v + inner < 2 ^ 32 = small_word (pointer_word v + inner) 1 _ lies (omega arith) in
    let ty = c.target_type-ty.ensures ∙ ap (target_type types) c.location_type.ensures in
    let same : word_within types c.target_type-ty.result c.args.members.now ≡ inner = ap (λ (t : Option TyId). word_within types t c.args.members.now) ty in
    omega (arith, same, small)

pub overflow_add-word : goal.overflow_add-word
overflow_add-word g c =
    let types = types_in c.args.scope.now in
    let f = function_in c.args.scope.now in
    let content = g.S.Store.content c.args.store.now in
    let rows = g.S.Store.rows c.args.store.now in
    let m = meant types content rows in
    let l = location_of c.args.pointer.now in
    let v = location_cell types f l (state_in m c.args.cells.now) in
    let there = some_behind m v (pointer_seen c.in-Some.to) c.in-Some.ensures.is in
    let h : IsHere (kinds_of types) content rows (behind_pointer m (pointer_seen c.in-Some.to)) c.in-Ok-Here.spot = subst (λ (x : Place). IsPlace (kinds_of types) content rows (behind_pointer m (pointer_seen c.in-Some.to)) x) c.in-Ok-Here.field-0-is (c.in-Ok-Here.ensures.is (kinds_of types) c.requires.fits.housed c.in-Some.ensures.fits) in
    let lies = c.requires.placed.lies c.in-Ok-Here.spot.object.birth c.in-Ok-Here.spot.index (object_seen (kinds_of types) (names_of content rows) h.object) (there ∙ h.here) in
    let begins : c.in-Ok-Here.spot.word ≡ pointer_word v = subst (λ (x : Place). BeginsAt (pointer_word (Some (Points (pointer_seen c.in-Some.to)))) x) c.in-Ok-Here.field-0-is c.in-Ok-Here.ensures.word ∙ ap pointer_word (sym (points v (pointer_seen c.in-Some.to) c.in-Some.ensures.is)) in
    let inner = word_within types (target_type types (location_type types f l)) c.args.members.now in
    let small : pointer_word v + inner < 2 ^ 32 = small_word (pointer_word v + inner) 1 _ lies (omega arith) in
    let ty = c.target_type-ty.ensures ∙ ap (target_type types) c.location_type.ensures in
    let same : word_within types c.target_type-ty.result c.args.members.now ≡ inner = ap (λ (t : Option TyId). word_within types t c.args.members.now) ty in
    let w = c.word_within-inner.ensures in omega (arith, w, same, small, begins)

pub returns-in-Ok-Here-clause-is : goal.returns-in-Ok-Here-clause-is
returns-in-Ok-Here-clause-is g c =
    let types = types_in c.args.scope.now in
    let f = function_in c.args.scope.now in
    let content = g.S.Store.content c.args.store.now in
    let rows = g.S.Store.rows c.args.store.now in
    let m = meant types content rows in
    let l = location_of c.args.pointer.now in
    let v = location_cell types f l (state_in m c.args.cells.now) in
    let there = some_behind m v (pointer_seen c.in-Some.to) c.in-Some.ensures.is in
    let h : IsHere (kinds_of types) content rows (behind_pointer m (pointer_seen c.in-Some.to)) c.in-Ok-Here.spot = subst (λ (x : Place). IsPlace (kinds_of types) content rows (behind_pointer m (pointer_seen c.in-Some.to)) x) c.in-Ok-Here.field-0-is (c.in-Ok-Here.ensures.is (kinds_of types) c.requires.fits.housed c.in-Some.ensures.fits) in
    subst (λ (w : Found). IsHere (kinds_of types) content rows w (record { object = c.in-Ok-Here.spot.object; index = c.in-Ok-Here.spot.index; word = c.in-Ok-Here.spot.word + c.word_within-inner.result })) (sym there) (here_at (kinds_of types) content rows _ c.in-Ok-Here.spot (c.in-Ok-Here.spot.word + c.word_within-inner.result) h)

pub returns-in-Ok-Here-clause-word : goal.returns-in-Ok-Here-clause-word
returns-in-Ok-Here-clause-word g c =
    let types = types_in c.args.scope.now in
    let f = function_in c.args.scope.now in
    let content = g.S.Store.content c.args.store.now in
    let rows = g.S.Store.rows c.args.store.now in
    let m = meant types content rows in
    let l = location_of c.args.pointer.now in
    let v = location_cell types f l (state_in m c.args.cells.now) in
    let begins : c.in-Ok-Here.spot.word ≡ pointer_word v = subst (λ (x : Place). BeginsAt (pointer_word (Some (Points (pointer_seen c.in-Some.to)))) x) c.in-Ok-Here.field-0-is c.in-Ok-Here.ensures.word ∙ ap pointer_word (sym (points v (pointer_seen c.in-Some.to) c.in-Some.ensures.is)) in
    let inner = word_within types (target_type types (location_type types f l)) c.args.members.now in
    let ty = c.target_type-ty.ensures ∙ ap (target_type types) c.location_type.ensures in
    let same : word_within types c.target_type-ty.result c.args.members.now ≡ inner = ap (λ (t : Option TyId). word_within types t c.args.members.now) ty in
    let w = c.word_within-inner.ensures in omega (arith, w, same, begins)
