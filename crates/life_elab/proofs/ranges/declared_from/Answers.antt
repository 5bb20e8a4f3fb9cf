use Rattle.std.proofs.Common.{◌≡◌, Bool, List, Option, Some, ap, sym, ◌∙◌}
use Rattle.std.proofs.lemmas.Option.{slice_get-get_or}
use Rattle.std.proofs.lemmas.Result.{on_ok_weaker}
use Rattle.std.specs.Prelude.{slice_get}
use Rattle.life_types.specs.declared.ty.TyId.{TyId}
use Rattle.life_typed.specs.declared.typed_program.TypedLocal.{TypedLocal}
use Rattle.life_writer.specs.PartUses.{expression_uses}
use Rattle.life_writer.specs.Views.{around_of, state_of}
use Rattle.life_elab.specs.RangeForms.{declared_from, element_at, element_of}
use Rattle.life_elab.proofs.SimpleSteps.{followed}
use Rattle.life_elab.proofs.ranges.declared_from.Goals as goal

pub returns-in-Some : goal.returns-in-Some
returns-in-Some c =
    let a = around_of c.args.a.now in let colon = c.args.colon in let it = c.args.iterator in let s = state_of c.args.writer.now in
    let v = c.in-Some.variable.now in let e = expression_uses a c.args.range.now in
    let there : slice_get a.function.locals c.args.local ≡ Some v =
    ap (λ (vs : List TypedLocal). slice_get vs c.args.local) (sym c.deref.ensures.value) ∙ slice_get-get_or c.deref.result.now c.args.local v c.in-Some.ensures.lookup.3.0 ∙ ap Some (sym c.in-Some.ensures.lookup.1) in
    on_ok_weaker c.given_element.result
    (followed (state_of c.given_element.new.writer)
    (ap (λ (x : Option (TyId × Bool)). declared_from a (Some v) colon it (element_at a.program.types colon it x) s) c.element_of.ensures
    ∙ ap (λ (o : Option TypedLocal). declared_from a o colon it (element_at a.program.types colon it (element_of e)) s) (sym there)))
    c.given_element.ensures
