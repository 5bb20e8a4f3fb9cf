use Rattle.std.proofs.Common.{◌<◌, ℕ, List, Some, length, map, ap, subst, sym, ◌∙◌}
use Rattle.std.proofs.lemmas.Option.{slice_get-get_or}
use Rattle.std.specs.Prelude.{slice_get}
use Rattle.life_core.specs.Function.{name_bytes}
use Rattle.life_pointers.specs.Bytes.{stored_bytes, stored_slots, IsInside}
use Rattle.life_pointers.specs.declared.pointer.Pointer.{Pointer}
use Rattle.life_pointers.proofs.ViewedBytes.{byte_there, in_count}
use Rattle.life_pointers.proofs.bytes.byte_at.Goals as goal

pub returns-in-To : goal.returns-in-To
returns-in-To g c =
    let content = g.S.Store.content c.args.store.now in
    let rows = g.S.Store.rows c.args.store.now in
    let texts = map name_bytes c.args.texts.now in
    let within = subst (λ (p : Pointer). c.args.position < length (stored_bytes texts content rows p)) c.in-To.is c.requires.within in
    let inside = subst (λ (p : Pointer). IsInside content rows p) c.in-To.is c.requires.inside in
    let lt = in_count (stored_slots content rows c.in-To.object) c.in-To.index c.in-To.count c.args.position within in
    ap (λ (p : Pointer). slice_get (stored_bytes texts content rows p) c.args.position) c.in-To.is
    ∙ byte_there content rows c.in-To.object c.in-To.index c.in-To.count inside c.args.position lt
    ∙ ap Some (sym c.slot_byte.ensures)

pub returns-in-Static : goal.returns-in-Static
returns-in-Static g c =
    let content = g.S.Store.content c.args.store.now in
    let rows = g.S.Store.rows c.args.store.now in
    let texts = map name_bytes c.args.texts.now in
    let within = subst (λ (p : Pointer). c.args.position < length (stored_bytes texts content rows p)) c.in-Static.is c.requires.within in
    let lt = subst (λ (xs : List ℕ). c.args.position < length xs) (sym c.characters_in.ensures) within in
    ap (λ (p : Pointer). slice_get (stored_bytes texts content rows p) c.args.position) c.in-Static.is
    ∙ ap (λ (xs : List ℕ). slice_get xs c.args.position) (sym c.characters_in.ensures)
    ∙ slice_get-get_or c.characters_in.result.now c.args.position 0 lt
