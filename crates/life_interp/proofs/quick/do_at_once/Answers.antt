use Rattle.std.proofs.Common.{[], ◌∷◌, ap, subst, sym, ◌∙◌}
use Rattle.std.proofs.lemmas.Option.{none-some, same_Some}
use Rattle.life_core.specs.Operands.{Owner, behind, object_named, whole}
use Rattle.life_core.specs.Step.{Step, Element, End, Eval, Live, Load, Save}
use Rattle.life_core.specs.declared.instr.Form.TheVariants as form
use Rattle.life_core.specs.declared.operand.Which.TheVariants as which
use Rattle.life_cells.specs.Scopes.{function_in, texts_in, types_in}
use Rattle.life_interp.specs.Flats.{step_in}
use Rattle.life_interp.specs.Quick.{Attempts}
use Rattle.life_interp.proofs.quick.do_at_once.Goals as goal

-- ---- a number comes to life

pub returns-in-Live-clause-done : goal.returns-in-Live-clause-done
returns-in-Live-clause-done g c = λ i here.
    let types = types_in c.args.scope.now in
    let f = function_in c.args.scope.now in
    let content = g.S.Store.content c.args.store.now in
    let rows = g.S.Store.rows c.args.store.now in
    let cells = c.args.cells.now in
    let new = c.live_at_once.new in
    subst (λ (j : Step). Attempts types f (g.S.Store.limit c.args.store.now) (texts_in c.args.scope.now) j content (g.S.Store.content new.store) rows (g.S.Store.rows new.store) cells new.cells c.live_at_once.result)
    (same_Some (Live c.in-Live.local form.Plain) i (sym (ap step_in c.in-Live.is) ∙ here))
    c.live_at_once.ensures.done

-- ---- .. and ends

pub end_at_once-requires : goal.end_at_once-requires
end_at_once-requires g c =
    let e = ap step_in c.in-End.is in
    record {
      layouts = c.requires.layouts;
      ordered = c.requires.ordered (End (c.in-End.local ∷ [])) e;
      fits = c.requires.fits;
      stands = c.requires.stands (End (c.in-End.local ∷ [])) e;
    }

pub returns-in-End-clause-done : goal.returns-in-End-clause-done
returns-in-End-clause-done g c = λ i here.
    let types = types_in c.args.scope.now in
    let f = function_in c.args.scope.now in
    let content = g.S.Store.content c.args.store.now in
    let rows = g.S.Store.rows c.args.store.now in
    let cells = c.args.cells.now in
    let new = c.end_at_once.new in
    subst (λ (j : Step). Attempts types f (g.S.Store.limit c.args.store.now) (texts_in c.args.scope.now) j content (g.S.Store.content new.store) rows (g.S.Store.rows new.store) cells new.cells c.end_at_once.result)
    (same_Some (End (c.in-End.local ∷ [])) i (sym (ap step_in c.in-End.is) ∙ here))
    c.end_at_once.ensures.done

-- ---- a value is made

pub returns-in-Eval-clause-done : goal.returns-in-Eval-clause-done
returns-in-Eval-clause-done g c = λ i here.
    let types = types_in c.args.scope.now in
    let f = function_in c.args.scope.now in
    let content = g.S.Store.content c.args.store.now in
    let rows = g.S.Store.rows c.args.store.now in
    let cells = c.args.cells.now in
    subst (λ (j : Step). Attempts types f (g.S.Store.limit c.args.store.now) (texts_in c.args.scope.now) j content content rows rows cells c.eval_at_once.new.cells c.eval_at_once.result)
    (same_Some (Eval c.in-Eval.into c.in-Eval.operation) i (sym (ap step_in c.in-Eval.is) ∙ here))
    (c.eval_at_once.ensures (g.S.Store.limit c.args.store.now) content rows c.requires.fits)

-- ---- .. or read

pub load_named-requires-clause-place : goal.load_named-requires-clause-place
load_named-requires-clause-place g c = c.requires.places (Load c.in-Load.into (object_named c.in-Load.local)) (ap step_in c.in-Load.is)

pub returns-in-Load-clause-done : goal.returns-in-Load-clause-done
returns-in-Load-clause-done g c = λ i here.
    let types = types_in c.args.scope.now in
    let f = function_in c.args.scope.now in
    let content = g.S.Store.content c.args.store.now in
    let rows = g.S.Store.rows c.args.store.now in
    let cells = c.args.cells.now in
    subst (λ (j : Step). Attempts types f (g.S.Store.limit c.args.store.now) (texts_in c.args.scope.now) j content content rows rows cells c.load_named.new.cells c.load_named.result)
    (same_Some (Load c.in-Load.into (object_named c.in-Load.local)) i (sym (ap step_in c.in-Load.is) ∙ here))
    c.load_named.ensures

-- ---- .. behind a pointer

pub load_pointed-requires-clause-place : goal.load_pointed-requires-clause-place
load_pointed-requires-clause-place g c = c.requires.places (Load c.in-LoadThrough.into (behind c.in-LoadThrough.pointer)) (ap step_in c.in-LoadThrough.is)

pub returns-in-LoadThrough-clause-done : goal.returns-in-LoadThrough-clause-done
returns-in-LoadThrough-clause-done g c = λ i here.
    let types = types_in c.args.scope.now in
    let f = function_in c.args.scope.now in
    let content = g.S.Store.content c.args.store.now in
    let rows = g.S.Store.rows c.args.store.now in
    let cells = c.args.cells.now in
    subst (λ (j : Step). Attempts types f (g.S.Store.limit c.args.store.now) (texts_in c.args.scope.now) j content content rows rows cells c.load_pointed.new.cells c.load_pointed.result)
    (same_Some (Load c.in-LoadThrough.into (behind c.in-LoadThrough.pointer)) i (sym (ap step_in c.in-LoadThrough.is) ∙ here))
    c.load_pointed.ensures

-- ---- .. or written

pub save_named-requires-clause-place : goal.save_named-requires-clause-place
save_named-requires-clause-place g c = c.requires.places (Save (object_named c.in-Save.local) c.in-Save.from) (ap step_in c.in-Save.is)

pub returns-in-Save-clause-done : goal.returns-in-Save-clause-done
returns-in-Save-clause-done g c = λ i here.
    let types = types_in c.args.scope.now in
    let f = function_in c.args.scope.now in
    let content = g.S.Store.content c.args.store.now in
    let rows = g.S.Store.rows c.args.store.now in
    let cells = c.args.cells.now in
    subst (λ (j : Step). Attempts types f (g.S.Store.limit c.args.store.now) (texts_in c.args.scope.now) j content (g.S.Store.content c.save_named.new.store) rows (g.S.Store.rows c.save_named.new.store) cells c.save_named.new.cells c.save_named.result)
    (same_Some (Save (object_named c.in-Save.local) c.in-Save.from) i (sym (ap step_in c.in-Save.is) ∙ here))
    c.save_named.ensures.done

-- ---- .. behind a pointer

pub save_pointed-requires-clause-place : goal.save_pointed-requires-clause-place
save_pointed-requires-clause-place g c = c.requires.places (Save (behind c.in-SaveThrough.pointer) c.in-SaveThrough.from) (ap step_in c.in-SaveThrough.is)

pub returns-in-SaveThrough-clause-done : goal.returns-in-SaveThrough-clause-done
returns-in-SaveThrough-clause-done g c = λ i here.
    let types = types_in c.args.scope.now in
    let f = function_in c.args.scope.now in
    let content = g.S.Store.content c.args.store.now in
    let rows = g.S.Store.rows c.args.store.now in
    let cells = c.args.cells.now in
    subst (λ (j : Step). Attempts types f (g.S.Store.limit c.args.store.now) (texts_in c.args.scope.now) j content (g.S.Store.content c.save_pointed.new.store) rows (g.S.Store.rows c.save_pointed.new.store) cells c.save_pointed.new.cells c.save_pointed.result)
    (same_Some (Save (behind c.in-SaveThrough.pointer) c.in-SaveThrough.from) i (sym (ap step_in c.in-SaveThrough.is) ∙ here))
    c.save_pointed.ensures.done

-- ---- an element is pointed to

pub index_named-requires-clause-place : goal.index_named-requires-clause-place
index_named-requires-clause-place g c = (c.requires.places (Element (whole c.in-Index.pointer) (Owner (object_named c.in-Index.owner)) (which.Index c.in-Index.index)) (ap step_in c.in-Index.is)).1

pub returns-in-Index-clause-done : goal.returns-in-Index-clause-done
returns-in-Index-clause-done g c = λ i here.
    let types = types_in c.args.scope.now in
    let f = function_in c.args.scope.now in
    let content = g.S.Store.content c.args.store.now in
    let rows = g.S.Store.rows c.args.store.now in
    let cells = c.args.cells.now in
    subst (λ (j : Step). Attempts types f (g.S.Store.limit c.args.store.now) (texts_in c.args.scope.now) j content content rows rows cells c.index_named.new.cells c.index_named.result)
    (same_Some (Element (whole c.in-Index.pointer) (Owner (object_named c.in-Index.owner)) (which.Index c.in-Index.index)) i (sym (ap step_in c.in-Index.is) ∙ here))
    c.index_named.ensures

-- ---- nothing is done

pub returns-in-Other-clause-done : goal.returns-in-Other-clause-done
returns-in-Other-clause-done g c = λ i here. absurd (none-some i (sym (ap step_in c.in-Other.is) ∙ here))

pub returns-in-Test-clause-done : goal.returns-in-Test-clause-done
returns-in-Test-clause-done g c = λ i here. absurd (none-some i (sym (ap step_in c.in-Test.is) ∙ here))
