use Rattle.std.proofs.Common.{◌≡◌, Bool, true, false, cond, ap, subst, sym, ◌∙◌}
use Rattle.life_store.specs.Cells.{at}
use Rattle.life_store.specs.Content.{is_valid_in}
use Rattle.life_store.specs.Effects.{Attempt, Got, GotFault}
use Rattle.life_store.specs.Iterators.{standing}
use Rattle.life_store.specs.State.{Pointer as Meant}
use Rattle.life_store.specs.declared.run.FaultKind.TheVariants as fault
use Rattle.life_seen.specs.Seen.{seen}
use Rattle.life_pointers.specs.Pointers.{pointer_seen, PointerFits}
use Rattle.life_pointers.specs.declared.pointer.Pointer.{Pointer}
use Rattle.life_pointers.specs.declared.pointer.Pointer.TheVariants as leads
use Rattle.life_pointers.proofs.Validity.{valid_meant}
use Rattle.life_pointers.proofs.valid.standing.Goals as goal

pub returns-then-valid-clause-is : goal.returns-then-valid-clause-is
returns-then-valid-clause-is g c = λ kinds housed fits.
    let content = g.S.Store.content c.args.store.now in
    let rows = g.S.Store.rows c.args.store.now in
    let m = seen kinds content rows in
    let to : Pointer = leads.To c.in-To.index c.in-To.count c.in-To.word c.in-To.object c.in-To.moment in
    let ref = subst (λ (p : Pointer). PointerFits content rows p) c.in-To.is fits in
    let lives : true ≡ is_valid_in c.in-To.index 1 c.in-To.moment (at m.objects c.in-To.object.birth) =
    sym c.if-valid.true ∙ c.valid.ensures ∙ valid_meant kinds content rows c.in-To.object housed ref.0 c.in-To.index 1 c.in-To.moment in
    let is : standing m (pointer_seen to) ≡ standing m (pointer_seen c.args.pointer) = ap (λ (p : Pointer). standing m (pointer_seen p)) (sym c.in-To.is) in
    ap (λ (b : Bool). cond {A = Attempt Meant} b (Got (pointer_seen to)) (GotFault fault.Dangling)) lives ∙ is

pub returns-else-valid-clause-is : goal.returns-else-valid-clause-is
returns-else-valid-clause-is g c = λ kinds housed fits.
    let content = g.S.Store.content c.args.store.now in
    let rows = g.S.Store.rows c.args.store.now in
    let m = seen kinds content rows in
    let to : Pointer = leads.To c.in-To.index c.in-To.count c.in-To.word c.in-To.object c.in-To.moment in
    let ref = subst (λ (p : Pointer). PointerFits content rows p) c.in-To.is fits in
    let ends : false ≡ is_valid_in c.in-To.index 1 c.in-To.moment (at m.objects c.in-To.object.birth) =
    sym c.if-valid.false ∙ c.valid.ensures ∙ valid_meant kinds content rows c.in-To.object housed ref.0 c.in-To.index 1 c.in-To.moment in
    let is : standing m (pointer_seen to) ≡ standing m (pointer_seen c.args.pointer) = ap (λ (p : Pointer). standing m (pointer_seen p)) (sym c.in-To.is) in
    ap (λ (b : Bool). cond {A = Attempt Meant} b (Got (pointer_seen to)) (GotFault fault.Dangling)) ends ∙ is
