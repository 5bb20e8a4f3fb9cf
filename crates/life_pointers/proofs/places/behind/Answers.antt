use Rattle.std.proofs.Common.{◌≡◌, Bool, MatchResult, true, false, ap, subst, sym, ◌∙◌}
use Rattle.life_store.specs.Cells.{at}
use Rattle.life_store.specs.Content.{is_valid_in}
use Rattle.life_store.specs.Places.{Found, Wrong, behind_pointer, found_if, on_place}
use Rattle.life_store.specs.State.{Target}
use Rattle.life_store.specs.declared.run.FaultKind.TheVariants as fault
use Rattle.life_seen.specs.Seen.{seen}
use Rattle.life_pointers.specs.Places.{reached_at, IsPlace, TellsMiss}
use Rattle.life_pointers.specs.Pointers.{pointer_seen, PointerFits}
use Rattle.life_pointers.specs.declared.pointer.Pointer.{Pointer}
use Rattle.life_pointers.proofs.Validity.{valid_meant}
use Rattle.life_pointers.proofs.places.behind.Goals as goal

pub returns-then-valid-clause-is : goal.returns-then-valid-clause-is
returns-then-valid-clause-is g c = λ kinds housed fits.
    let content = g.S.Store.content c.args.store.now in
    let rows = g.S.Store.rows c.args.store.now in
    let m = seen kinds content rows in
    let to : Target = record { object = c.in-To.object.birth; index = c.in-To.index; word = c.in-To.word; count = c.in-To.count; moment = c.in-To.moment } in
    let ref = subst (λ (p : Pointer). PointerFits content rows p) c.in-To.is fits in
    let lives : true ≡ is_valid_in c.in-To.index 1 c.in-To.moment (at m.objects c.in-To.object.birth) =
    sym c.if-valid.true ∙ c.valid.ensures ∙ valid_meant kinds content rows c.in-To.object housed ref.0 c.in-To.index 1 c.in-To.moment in
    let is : behind_pointer m (pointer_seen c.args.pointer) ≡ reached_at m c.in-To.object.birth c.in-To.index =
    ap (λ (p : Pointer). behind_pointer m (pointer_seen p)) c.in-To.is ∙ ap (λ (b : Bool). found_if b m to) (sym lives) in
    subst (λ (w : Found). MatchResult c.reached.result (IsPlace kinds content rows w) (TellsMiss w)) (sym is) (c.reached.ensures.is kinds housed ref.0)

pub returns-else-valid-clause-is : goal.returns-else-valid-clause-is
returns-else-valid-clause-is g c = λ kinds housed fits go fixed.
    let content = g.S.Store.content c.args.store.now in
    let rows = g.S.Store.rows c.args.store.now in
    let m = seen kinds content rows in
    let to : Target = record { object = c.in-To.object.birth; index = c.in-To.index; word = c.in-To.word; count = c.in-To.count; moment = c.in-To.moment } in
    let ref = subst (λ (p : Pointer). PointerFits content rows p) c.in-To.is fits in
    let ends : false ≡ is_valid_in c.in-To.index 1 c.in-To.moment (at m.objects c.in-To.object.birth) =
    sym c.if-valid.false ∙ c.valid.ensures ∙ valid_meant kinds content rows c.in-To.object housed ref.0 c.in-To.index 1 c.in-To.moment in
    let is : behind_pointer m (pointer_seen c.args.pointer) ≡ Wrong fault.Dangling =
    ap (λ (p : Pointer). behind_pointer m (pointer_seen p)) c.in-To.is ∙ ap (λ (b : Bool). found_if b m to) (sym ends) in
    ap (λ (w : Found). on_place w go fixed) is
