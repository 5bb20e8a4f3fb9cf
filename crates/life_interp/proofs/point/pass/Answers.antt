use Rattle.std.proofs.Common.{drop, Some, ap, refl, subst, sym, ◌∙◌, arith}
use Rattle.std.proofs.lemmas.List.{length-map}
use Rattle.std.proofs.lemmas.Option.{slice_get_read}
use Rattle.std.specs.Prelude.{option_map}
use Rattle.life_core.specs.Function.{function_of, program_of}
use Rattle.life_core.specs.Link.{leads_seen, link_seen}
use Rattle.life_core.specs.Node.{node_seen}
use Rattle.life_core.specs.Linked.{goes, spot_at}
use Rattle.life_core.specs.Step.{asked_of, step_of}
use Rattle.life_core.specs.Tree.{Node, Action, Question, Return, Stop}
use Rattle.life_interp.specs.Walking.{acts, asks, returns, StandsHere, Sunk}
use Rattle.life_cells.specs.Fits.{meant}
use Rattle.life_interp.proofs.CodeLists.{codes_length}
use Rattle.life_interp.proofs.PointLemmas.{leads_as, leads_quiet, passes_at, passes_node, point_seen}
use Rattle.life_interp.proofs.SoundFrames.{action_there, chosen_sound, return_there}
use Rattle.life_interp.proofs.StepLemmas.{ok_holds}
use Rattle.life_interp.proofs.WalkLemmas.{untouched}
use Rattle.life_interp.proofs.point.pass.Goals as goal

pub returns-in-None-clause-step : goal.returns-in-None-clause-step
returns-in-None-clause-step g c = λ s set growing depth.
    let p = program_of c.args.program.now in
    let functions = c.args.program.now.functions.items in
    let frames = c.args.frames.now in
    let codes = c.args.code.now in
    let lt = c.requires.frames.here in
    let v = c.index-code-frames.result in
    let there = slice_get_read codes _ frames.function v refl (omega (arith, lt, codes_length codes functions c.requires.linked, length-map functions function_of)) c.index-code-frames.is in
    let point = point_seen p frames codes functions c.requires.linked refl lt v there c.deref.result.now c.deref.ensures.value c.link_at.result c.link_at.ensures in
    let k : Sunk = record { old = g.O.Sink.taken c.args.out.now; new = g.O.Sink.taken c.args.out.now; faults = g.O.Sink.faults c.args.out.now; later = g.O.Sink.faults c.args.out.now } in
    let alone = untouched (g.O.Sink.taken c.args.out.now) (g.O.Sink.faults c.args.out.now) in
    let content = meant (program_of c.args.program.now).types (g.S.Store.content c.args.store.now) (g.S.Store.rows c.args.store.now) in
    let ins = drop c.args.taken.now c.args.input.now in
    (alone, λ go n output. passes_at s p frames content ins _ (point ∙ ap (option_map link_seen) c.in-None.is) go n output)

pub returns-in-Action-clause-step : goal.returns-in-Action-clause-step
returns-in-Action-clause-step g c = λ s set growing depth.
    let p = program_of c.args.program.now in
    let functions = c.args.program.now.functions.items in
    let frames = c.args.frames.now in
    let codes = c.args.code.now in
    let lt = c.requires.frames.here in
    let v = c.index-code-frames.result in
    let there = slice_get_read codes _ frames.function v refl (omega (arith, lt, codes_length codes functions c.requires.linked, length-map functions function_of)) c.index-code-frames.is in
    let point = point_seen p frames codes functions c.requires.linked refl lt v there c.deref.result.now c.deref.ensures.value c.link_at.result c.link_at.ensures in
    let content = meant (program_of c.args.program.now).types (g.S.Store.content c.args.store.now) (g.S.Store.rows c.args.store.now) in
    let ins = drop c.args.taken.now c.args.input.now in
    let l = link_seen c.in-Some.link in
    let at = point ∙ ap (option_map link_seen) c.in-Some.is in
    let k : Sunk = record { old = g.O.Sink.taken c.args.out.now; new = g.O.Sink.taken c.act.new.out; faults = g.O.Sink.faults c.args.out.now; later = g.O.Sink.faults c.act.new.out } in
    leads_as _ (acts s p frames content ins (step_of c.in-Action.instr.now) c.in-Some.link.spot.place c.first_way.result) p.functions content ins c.act.new.frames (meant (program_of c.args.program.now).types (g.S.Store.content c.act.new.store) (g.S.Store.rows c.act.new.store)) (drop c.act.new.taken c.args.input.now) k c.act.result
    (λ go n output.
    passes_node s p frames content ins l (Action (step_of c.in-Action.instr.now)) at (ap node_seen c.in-Action.is) go n output
    ∙ ap (λ to. acts s p frames content ins (step_of c.in-Action.instr.now) c.in-Some.link.spot.place to go n output) (sym c.first_way.ensures))
    (c.act.ensures.step s set growing depth)

pub returns-in-Question-clause-step : goal.returns-in-Question-clause-step
returns-in-Question-clause-step g c = λ s set growing depth.
    let p = program_of c.args.program.now in
    let functions = c.args.program.now.functions.items in
    let frames = c.args.frames.now in
    let codes = c.args.code.now in
    let lt = c.requires.frames.here in
    let v = c.index-code-frames.result in
    let there = slice_get_read codes _ frames.function v refl (omega (arith, lt, codes_length codes functions c.requires.linked, length-map functions function_of)) c.index-code-frames.is in
    let point = point_seen p frames codes functions c.requires.linked refl lt v there c.deref.result.now c.deref.ensures.value c.link_at.result c.link_at.ensures in
    let content = meant (program_of c.args.program.now).types (g.S.Store.content c.args.store.now) (g.S.Store.rows c.args.store.now) in
    let ins = drop c.args.taken.now c.args.input.now in
    let l = link_seen c.in-Some.link in
    let at = point ∙ ap (option_map link_seen) c.in-Some.is in
    let k : Sunk = record { old = g.O.Sink.taken c.args.out.now; new = g.O.Sink.taken c.args.out.now; faults = g.O.Sink.faults c.args.out.now; later = g.O.Sink.faults c.args.out.now } in
    let alone = untouched (g.O.Sink.taken c.args.out.now) (g.O.Sink.faults c.args.out.now) in
    leads_as _ (asks s p frames content ins (asked_of c.in-Question.test.now) (leads_seen c.in-Some.link.leads)) p.functions content ins c.choose.new.frames content ins k c.choose.result
    (λ go n output. passes_node s p frames content ins l (Question (asked_of c.in-Question.test.now)) at (ap node_seen c.in-Question.is) go n output)
    (leads_quiet _ p.functions content ins c.choose.new.frames content k c.choose.result alone (c.choose.ensures.step s ins))

pub returns-in-Return-clause-step : goal.returns-in-Return-clause-step
returns-in-Return-clause-step g c = λ s set growing depth.
    let p = program_of c.args.program.now in
    let functions = c.args.program.now.functions.items in
    let frames = c.args.frames.now in
    let codes = c.args.code.now in
    let lt = c.requires.frames.here in
    let v = c.index-code-frames.result in
    let there = slice_get_read codes _ frames.function v refl (omega (arith, lt, codes_length codes functions c.requires.linked, length-map functions function_of)) c.index-code-frames.is in
    let point = point_seen p frames codes functions c.requires.linked refl lt v there c.deref.result.now c.deref.ensures.value c.link_at.result c.link_at.ensures in
    let content = meant (program_of c.args.program.now).types (g.S.Store.content c.args.store.now) (g.S.Store.rows c.args.store.now) in
    let ins = drop c.args.taken.now c.args.input.now in
    let l = link_seen c.in-Some.link in
    let at = point ∙ ap (option_map link_seen) c.in-Some.is in
    let k : Sunk = record { old = g.O.Sink.taken c.args.out.now; new = g.O.Sink.taken c.args.out.now; faults = g.O.Sink.faults c.args.out.now; later = g.O.Sink.faults c.args.out.now } in
    let alone = untouched (g.O.Sink.taken c.args.out.now) (g.O.Sink.faults c.args.out.now) in
    leads_as _ (returns s p frames content ins) p.functions content ins c.back.new.frames (meant (program_of c.args.program.now).types (g.S.Store.content c.back.new.store) (g.S.Store.rows c.back.new.store)) ins k c.back.result
    (λ go n output. passes_node s p frames content ins l Return at (ap node_seen c.in-Return.is) go n output)
    (leads_quiet _ p.functions content ins c.back.new.frames (meant (program_of c.args.program.now).types (g.S.Store.content c.back.new.store) (g.S.Store.rows c.back.new.store)) k c.back.result alone (c.back.ensures.step s ins set))

pub returns-in-Stop-clause-step : goal.returns-in-Stop-clause-step
returns-in-Stop-clause-step g c = λ s set growing depth.
    let p = program_of c.args.program.now in
    let functions = c.args.program.now.functions.items in
    let frames = c.args.frames.now in
    let codes = c.args.code.now in
    let lt = c.requires.frames.here in
    let v = c.index-code-frames.result in
    let there = slice_get_read codes _ frames.function v refl (omega (arith, lt, codes_length codes functions c.requires.linked, length-map functions function_of)) c.index-code-frames.is in
    let point = point_seen p frames codes functions c.requires.linked refl lt v there c.deref.result.now c.deref.ensures.value c.link_at.result c.link_at.ensures in
    let content = meant (program_of c.args.program.now).types (g.S.Store.content c.args.store.now) (g.S.Store.rows c.args.store.now) in
    let ins = drop c.args.taken.now c.args.input.now in
    let l = link_seen c.in-Some.link in
    let at = point ∙ ap (option_map link_seen) c.in-Some.is in
    let k : Sunk = record { old = g.O.Sink.taken c.args.out.now; new = g.O.Sink.taken c.args.out.now; faults = g.O.Sink.faults c.args.out.now; later = g.O.Sink.faults c.args.out.now } in
    let alone = untouched (g.O.Sink.taken c.args.out.now) (g.O.Sink.faults c.args.out.now) in
    (alone, λ go n output. passes_node s p frames content ins l Stop at (ap node_seen c.in-Stop.is) go n output)

-- what stands at the point is what its link tells
pub act-requires-clause-here : goal.act-requires-clause-here
act-requires-clause-here g c =
    let p = program_of c.args.program.now in
    let functions = c.args.program.now.functions.items in
    let frames = c.args.frames.now in
    let codes = c.args.code.now in
    let lt = c.requires.frames.here in
    let v = c.index-code-frames.result in
    let there = slice_get_read codes _ frames.function v refl (omega (arith, lt, codes_length codes functions c.requires.linked, length-map functions function_of)) c.index-code-frames.is in
    let point = point_seen p frames codes functions c.requires.linked refl lt v there c.deref.result.now c.deref.ensures.value c.link_at.result c.link_at.ensures in
    let at = point ∙ ap (option_map link_seen) c.in-Some.is in
    let l = link_seen c.in-Some.link in
    subst (λ to. StandsHere p frames c.in-Some.link.spot.place (Action (step_of c.in-Action.instr.now)) (goes to)) (sym c.first_way.ensures)
    (action_there p frames l at (step_of c.in-Action.instr.now) (ap node_seen c.in-Action.is))

pub choose-requires-clause-here : goal.choose-requires-clause-here
choose-requires-clause-here g c =
    let p = program_of c.args.program.now in
    let functions = c.args.program.now.functions.items in
    let frames = c.args.frames.now in
    let codes = c.args.code.now in
    let lt = c.requires.frames.here in
    let v = c.index-code-frames.result in
    let there = slice_get_read codes _ frames.function v refl (omega (arith, lt, codes_length codes functions c.requires.linked, length-map functions function_of)) c.index-code-frames.is in
    let point = point_seen p frames codes functions c.requires.linked refl lt v there c.deref.result.now c.deref.ensures.value c.link_at.result c.link_at.ensures in
    let at = point ∙ ap (option_map link_seen) c.in-Some.is in
    (c.in-Some.link.spot.place, at ∙ ap (λ (n : Node). Some (record { spot = spot_at c.in-Some.link.spot.place n; leads = leads_seen c.in-Some.link.leads })) (ap node_seen c.in-Question.is))

pub returns-in-Question-clause-sound : goal.returns-in-Question-clause-sound
returns-in-Question-clause-sound g c =
    let p = program_of c.args.program.now in
    let functions = c.args.program.now.functions.items in
    let frames = c.args.frames.now in
    let codes = c.args.code.now in
    let lt = c.requires.frames.here in
    let v = c.index-code-frames.result in
    let there = slice_get_read codes _ frames.function v refl (omega (arith, lt, codes_length codes functions c.requires.linked, length-map functions function_of)) c.index-code-frames.is in
    let point = point_seen p frames codes functions c.requires.linked refl lt v there c.deref.result.now c.deref.ensures.value c.link_at.result c.link_at.ensures in
    let at = point ∙ ap (option_map link_seen) c.in-Some.is in
    let l = link_seen c.in-Some.link in
    let content = meant p.types (g.S.Store.content c.args.store.now) (g.S.Store.rows c.args.store.now) in
    chosen_sound p frames content c.requires.sound c.in-Some.link.spot.place (asked_of c.in-Question.test.now) (leads_seen c.in-Some.link.leads)
    (at ∙ ap (λ (n : Node). Some (record { spot = spot_at c.in-Some.link.spot.place n; leads = leads_seen c.in-Some.link.leads })) (ap node_seen c.in-Question.is))
    c.choose.new.frames c.choose.ensures.function c.choose.ensures.cells c.choose.ensures.waiting c.choose.result c.choose.ensures.point

pub back-requires-clause-here : goal.back-requires-clause-here
back-requires-clause-here g c =
    let p = program_of c.args.program.now in
    let functions = c.args.program.now.functions.items in
    let frames = c.args.frames.now in
    let codes = c.args.code.now in
    let lt = c.requires.frames.here in
    let v = c.index-code-frames.result in
    let there = slice_get_read codes _ frames.function v refl (omega (arith, lt, codes_length codes functions c.requires.linked, length-map functions function_of)) c.index-code-frames.is in
    let point = point_seen p frames codes functions c.requires.linked refl lt v there c.deref.result.now c.deref.ensures.value c.link_at.result c.link_at.ensures in
    let at = point ∙ ap (option_map link_seen) c.in-Some.is in
    let l = link_seen c.in-Some.link in
    (c.in-Some.link.spot.place, return_there p frames l at (ap node_seen c.in-Return.is))

pub returns-in-Question-clause-bounded : goal.returns-in-Question-clause-bounded
returns-in-Question-clause-bounded g c = ok_holds c.choose.result _ c.requires.bounded
