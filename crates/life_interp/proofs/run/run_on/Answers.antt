use Rattle.std.proofs.Common.{◌≡◌, List, [], ◌++◌, Some, drop, ap, refl, rules, subst, sym, ◌∙◌, arith}
use Rattle.std.proofs.lemmas.Int.{to_z-of_z}
use Rattle.std.proofs.lemmas.List.{length-map}
use Rattle.std.proofs.lemmas.Option.{slice_get-map, slice_get_read}
use mir.Val.{SFits, of_z, to_z}
use Rattle.std.specs.Int.{w64}
use Rattle.std.specs.Prelude.{option_map}
use Rattle.life_core.specs.Function.{function_of, program_of}
use Rattle.life_store.specs.Calls.{entry_arguments}
use Rattle.life_store.specs.Content.{CanCount, Content}
use Rattle.life_store.specs.Doing.{Given}
use Rattle.life_store.specs.Meaning.{first_world, run_of, setting_of, IsAdmitted}
use Rattle.life_store.specs.declared.run.Growth.TheVariants.{Always}
use Rattle.life_cells.specs.Fits.{meant, IsFit}
use Rattle.life_changes.specs.Bounded.{IsBounded}
use Rattle.life_interp.specs.Fits.{CanStep}
use Rattle.life_interp.specs.Frames.{waiting_cells, AreThere}
use Rattle.life_interp.specs.Runs.{RunEnds}
use Rattle.life_interp.specs.Steps.{IsSet}
use Rattle.life_interp.specs.Walk.{walk}
use Rattle.life_interp.specs.Walking.{from, Sunk}
use Rattle.life_interp.specs.declared.frames.Frames.{Frames}
use Rattle.life_interp.specs.declared.frames.Waiting.{Waiting}
use Rattle.life_interp.specs.declared.outcome.Outcome.TheVariants as outcome
use Rattle.life_interp.proofs.BoundedSteps.{empty_bounded, given_bounded}
use Rattle.life_interp.proofs.EmptyStore.{housed_nothing, meant_empty, rowed_nothing}
use Rattle.life_interp.proofs.SoundPrograms.{never_lost}
use Rattle.life_interp.proofs.RunLemmas.{all_begin, barred_ends, begins_sound, can_be_barred, fault_ends, front_ends, if_there, not_lost, of_there, part_ends, run_from_frames, steps_end, trap_ends, value_ends}
use Rattle.life_interp.proofs.WalkLemmas.{untouched}
use Rattle.life_interp.proofs.run.run_on.Goals as goal

pub first_cells-requires : goal.first_cells-requires
first_cells-requires g c =
    let p = program_of c.args.program.now in
    let all = c.args.program.now.functions in
    let entry = c.args.entry.0 in
    let at = slice_get_read all.items all.len entry c.index-f.result.now all.ok.0 (omega (arith, c.requires.entry, length-map all.items function_of, all.ok.0)) c.index-f.ensures in
    let f = function_of c.index-f.result.now in
    let there = slice_get-map function_of all.items entry ∙ ap (option_map function_of) at in
    let input = c.args.input.now in
    let admitted = of_there p.functions entry f (λ k. IsAdmitted p k input) there c.requires.admitted in
    record {
      fits = record {
        housed = housed_nothing p.types (g.S.Store.content c.args.store.now) (g.S.Store.rows c.args.store.now) c.requires.empty c.requires.rows;
        rowed = rowed_nothing p.types (g.S.Store.content c.args.store.now) (g.S.Store.rows c.args.store.now) c.requires.empty c.requires.rows;
        countable = subst CanCount (sym c.requires.empty) (record { births = omega arith; clock = omega arith });
        held = tt;
      };
      countable = subst CanStep (sym c.requires.empty) (record { births = omega arith; clock = omega arith });
      room = omega (arith, c.requires.limit);
      enough = admitted.enough;
    }

pub barred-requires : goal.barred-requires
barred-requires g c =
    let p = program_of c.args.program.now in
    let all = c.args.program.now.functions in
    let entry = c.args.entry.0 in
    let at = slice_get_read all.items all.len entry c.index-f.result.now all.ok.0 (omega (arith, c.requires.entry, length-map all.items function_of, all.ok.0)) c.index-f.ensures in
    let f = function_of c.index-f.result.now in
    let there = slice_get-map function_of all.items entry ∙ ap (option_map function_of) at in
    let input = c.args.input.now in
    let admitted = of_there p.functions entry f (λ k. IsAdmitted p k input) there c.requires.admitted in
    let given : Given = record { growth = Always; cells = c.args.limits.cells; depth = c.args.limits.depth } in
    let ends = c.in-Err.ensures.step (setting_of given p) (sym c.requires.limit) in
    can_be_barred given p entry f input c.args.steps c.requires.proper there admitted c.requires.depth (meant p.types (g.S.Store.content c.args.store.now) (g.S.Store.rows c.args.store.now)) (meant_empty p.types (g.S.Store.content c.args.store.now) (g.S.Store.rows c.args.store.now) c.requires.empty c.requires.rows) c.in-Err.ending ends

pub returns-in-Err : goal.returns-in-Err
returns-in-Err g c =
    let growth = c.args.growth in
    let p = program_of c.args.program.now in
    let all = c.args.program.now.functions in
    let entry = c.args.entry.0 in
    let at = slice_get_read all.items all.len entry c.index-f.result.now all.ok.0 (omega (arith, c.requires.entry, length-map all.items function_of, all.ok.0)) c.index-f.ensures in
    let f = function_of c.index-f.result.now in
    let there = slice_get-map function_of all.items entry ∙ ap (option_map function_of) at in
    let input = c.args.input.now in
    let admitted = of_there p.functions entry f (λ k. IsAdmitted p k input) there c.requires.admitted in
    let given : Given = record { growth = growth; cells = c.args.limits.cells; depth = c.args.limits.depth } in
    let ends = c.in-Err.ensures.step (setting_of given p) (sym c.requires.limit) in
    let n = c.args.steps in
    let k : Sunk = record { old = g.O.Sink.taken c.args.out.now; new = g.O.Sink.taken c.args.out.now; faults = g.O.Sink.faults c.args.out.now; later = g.O.Sink.faults c.args.out.now } in
    if_there p.functions entry f (λ h. RunEnds (run_of given p entry h input n) k c.barred.result) there
    (subst (RunEnds (run_of given p entry f input n) k) (sym c.barred.ensures)
    (barred_ends given p entry f input n c.requires.proper there admitted c.requires.depth (meant p.types (g.S.Store.content c.args.store.now) (g.S.Store.rows c.args.store.now)) (meant_empty p.types (g.S.Store.content c.args.store.now) (g.S.Store.rows c.args.store.now) c.requires.empty c.requires.rows) c.in-Err.ending ends k
    (untouched (g.O.Sink.taken c.args.out.now) (g.O.Sink.faults c.args.out.now))))

pub walk-requires : goal.walk-requires
walk-requires g c =
    let p = program_of c.args.program.now in
    let grows = c.in-Ok.ensures.grows in
    let births : (g.S.Store.content c.args.store.now).births ≡ 0 = ap (λ (x : Content). x.births) c.requires.empty in
    let clock : (g.S.Store.content c.args.store.now).clock ≡ 0 = ap (λ (x : Content). x.clock) c.requires.empty in
    record {
      linked = c.requires.linked;
      tables = c.requires.tables;
      layouts = c.requires.layouts;
      begin = all_begin p c.requires.proper;
      frames = record { here = c.requires.entry; there = subst (AreThere p.functions) (sym c.new.ensures.items) tt };
      sound =
          let all = c.args.program.now.functions in
          let entry = c.args.entry.0 in
          let at = slice_get_read all.items all.len entry c.index-f.result.now all.ok.0 (omega (arith, c.requires.entry, length-map all.items function_of, all.ok.0)) c.index-f.ensures in
          let f = function_of c.index-f.result.now in
          let there = slice_get-map function_of all.items entry ∙ ap (option_map function_of) at in
          let input = c.args.input.now in
          let admitted = of_there p.functions entry f (λ k. IsAdmitted p k input) there c.requires.admitted in
          let given : Given = record { growth = Always; cells = c.args.limits.cells; depth = c.args.limits.depth } in
          let frames : Frames = record { function = entry; point = Some 1; cells = c.in-Ok.cells; waiting = c.new.result } in
          let d = meant p.types (g.S.Store.content c.first_cells.new.store) (g.S.Store.rows c.first_cells.new.store) in
          begins_sound given p entry f input c.args.steps c.requires.proper there admitted frames (meant p.types (g.S.Store.content c.args.store.now) (g.S.Store.rows c.args.store.now)) d refl refl c.new.ensures.items
          (meant_empty p.types (g.S.Store.content c.args.store.now) (g.S.Store.rows c.args.store.now) c.requires.empty c.requires.rows) (c.in-Ok.ensures.step (setting_of given p) (sym c.requires.limit));
      fits = subst (λ (ws : List Waiting). IsFit p.types (g.S.Store.content c.first_cells.new.store) (g.S.Store.rows c.first_cells.new.store) (waiting_cells ws ++ c.in-Ok.cells.items)) (sym c.new.ensures.items) c.in-Ok.ensures.fits;
      bounded =
          let f = function_of c.index-f.result.now in
          let given : Given = record { growth = Always; cells = c.args.limits.cells; depth = c.args.limits.depth } in
          let m = meant p.types (g.S.Store.content c.args.store.now) (g.S.Store.rows c.args.store.now) in
          let d = meant p.types (g.S.Store.content c.first_cells.new.store) (g.S.Store.rows c.first_cells.new.store) in
          let cells = c.args.limits.cells in
          let nothing = meant_empty p.types (g.S.Store.content c.args.store.now) (g.S.Store.rows c.args.store.now) c.requires.empty c.requires.rows in
          subst (λ n. IsBounded n d) (sym (c.first_cells.ensures.limit ∙ c.requires.limit))
          (given_bounded cells (setting_of given p) refl p.types f (entry_arguments p.types f 0 f.parameters c.args.input.now) m d c.in-Ok.cells.items (subst (IsBounded cells) (sym nothing) (empty_bounded cells))
          (c.in-Ok.ensures.step (setting_of given p) (sym c.requires.limit) [] []));
      countable = record { births = omega (arith, grows.births, births, c.requires.steps); clock = omega (arith, grows.clock, clock, c.requires.steps) };
      room = omega (arith, c.first_cells.ensures.limit, c.requires.limit);
    }

pub returns-in-Returned : goal.returns-in-Returned
returns-in-Returned g c =
    let growth = c.args.growth in
    let p = program_of c.args.program.now in
    let all = c.args.program.now.functions in
    let entry = c.args.entry.0 in
    let at = slice_get_read all.items all.len entry c.index-f.result.now all.ok.0 (omega (arith, c.requires.entry, length-map all.items function_of, all.ok.0)) c.index-f.ensures in
    let f = function_of c.index-f.result.now in
    let there = slice_get-map function_of all.items entry ∙ ap (option_map function_of) at in
    let input = c.args.input.now in
    let admitted = of_there p.functions entry f (λ k. IsAdmitted p k input) there c.requires.admitted in
    let given : Given = record { growth = growth; cells = c.args.limits.cells; depth = c.args.limits.depth } in
    let n = c.args.steps in
    let frames : Frames = record { function = entry; point = Some 1; cells = c.in-Ok.cells; waiting = c.new.result } in
    let d = meant p.types (g.S.Store.content c.first_cells.new.store) (g.S.Store.rows c.first_cells.new.store) in
    let walked = from p.functions frames d (drop f.parameters input) (walk (setting_of given p) p n) n [] in
    let r = run_from_frames given p entry f input n c.requires.proper there admitted frames (meant p.types (g.S.Store.content c.args.store.now) (g.S.Store.rows c.args.store.now)) d f.parameters c.requires.depth refl refl c.new.ensures.items refl (meant_empty p.types (g.S.Store.content c.args.store.now) (g.S.Store.rows c.args.store.now) c.requires.empty c.requires.rows) (c.in-Ok.ensures.step (setting_of given p) (sym c.requires.limit)) in
    let k : Sunk = record { old = g.O.Sink.taken c.args.out.now; new = g.O.Sink.taken c.walk.new.out; faults = g.O.Sink.faults c.args.out.now; later = g.O.Sink.faults c.walk.new.out } in
    let set : IsSet (setting_of given p) (g.S.Store.limit c.first_cells.new.store) p.texts = record { cells = sym (c.first_cells.ensures.limit ∙ c.requires.limit); texts = refl } in
    let run = run_of given p entry f input n in
    let fits : SFits w64 c.in-Returned.value = search rules in
    if_there p.functions entry f (λ h. RunEnds (run_of given p entry h input n) k (outcome.Value (to_z w64 (of_z w64 c.in-Returned.value)))) there
    (subst (λ z. RunEnds run k (outcome.Value z)) (sym (to_z-of_z w64 c.in-Returned.value fits))
    (value_ends run f.place (first_world f input) walked r k c.in-Returned.value (c.in-Returned.ensures (setting_of given p) set refl refl)))

pub returns-in-Trap : goal.returns-in-Trap
returns-in-Trap g c =
    let growth = c.args.growth in
    let p = program_of c.args.program.now in
    let all = c.args.program.now.functions in
    let entry = c.args.entry.0 in
    let at = slice_get_read all.items all.len entry c.index-f.result.now all.ok.0 (omega (arith, c.requires.entry, length-map all.items function_of, all.ok.0)) c.index-f.ensures in
    let f = function_of c.index-f.result.now in
    let there = slice_get-map function_of all.items entry ∙ ap (option_map function_of) at in
    let input = c.args.input.now in
    let admitted = of_there p.functions entry f (λ k. IsAdmitted p k input) there c.requires.admitted in
    let given : Given = record { growth = growth; cells = c.args.limits.cells; depth = c.args.limits.depth } in
    let n = c.args.steps in
    let frames : Frames = record { function = entry; point = Some 1; cells = c.in-Ok.cells; waiting = c.new.result } in
    let d = meant p.types (g.S.Store.content c.first_cells.new.store) (g.S.Store.rows c.first_cells.new.store) in
    let walked = from p.functions frames d (drop f.parameters input) (walk (setting_of given p) p n) n [] in
    let r = run_from_frames given p entry f input n c.requires.proper there admitted frames (meant p.types (g.S.Store.content c.args.store.now) (g.S.Store.rows c.args.store.now)) d f.parameters c.requires.depth refl refl c.new.ensures.items refl (meant_empty p.types (g.S.Store.content c.args.store.now) (g.S.Store.rows c.args.store.now) c.requires.empty c.requires.rows) (c.in-Ok.ensures.step (setting_of given p) (sym c.requires.limit)) in
    let k : Sunk = record { old = g.O.Sink.taken c.args.out.now; new = g.O.Sink.taken c.walk.new.out; faults = g.O.Sink.faults c.args.out.now; later = g.O.Sink.faults c.walk.new.out } in
    let set : IsSet (setting_of given p) (g.S.Store.limit c.first_cells.new.store) p.texts = record { cells = sym (c.first_cells.ensures.limit ∙ c.requires.limit); texts = refl } in
    let run = run_of given p entry f input n in
    if_there p.functions entry f (λ h. RunEnds (run_of given p entry h input n) k (outcome.Trap c.in-Trap.kind c.in-Trap.place)) there
    (trap_ends run f.place (first_world f input) walked r k c.in-Trap.kind c.in-Trap.place (c.in-Trap.ensures (setting_of given p) set refl refl))

pub returns-in-Fault : goal.returns-in-Fault
returns-in-Fault g c =
    let growth = c.args.growth in
    let p = program_of c.args.program.now in
    let all = c.args.program.now.functions in
    let entry = c.args.entry.0 in
    let at = slice_get_read all.items all.len entry c.index-f.result.now all.ok.0 (omega (arith, c.requires.entry, length-map all.items function_of, all.ok.0)) c.index-f.ensures in
    let f = function_of c.index-f.result.now in
    let there = slice_get-map function_of all.items entry ∙ ap (option_map function_of) at in
    let input = c.args.input.now in
    let admitted = of_there p.functions entry f (λ k. IsAdmitted p k input) there c.requires.admitted in
    let given : Given = record { growth = growth; cells = c.args.limits.cells; depth = c.args.limits.depth } in
    let n = c.args.steps in
    let frames : Frames = record { function = entry; point = Some 1; cells = c.in-Ok.cells; waiting = c.new.result } in
    let d = meant p.types (g.S.Store.content c.first_cells.new.store) (g.S.Store.rows c.first_cells.new.store) in
    let walked = from p.functions frames d (drop f.parameters input) (walk (setting_of given p) p n) n [] in
    let r = run_from_frames given p entry f input n c.requires.proper there admitted frames (meant p.types (g.S.Store.content c.args.store.now) (g.S.Store.rows c.args.store.now)) d f.parameters c.requires.depth refl refl c.new.ensures.items refl (meant_empty p.types (g.S.Store.content c.args.store.now) (g.S.Store.rows c.args.store.now) c.requires.empty c.requires.rows) (c.in-Ok.ensures.step (setting_of given p) (sym c.requires.limit)) in
    let k : Sunk = record { old = g.O.Sink.taken c.args.out.now; new = g.O.Sink.taken c.walk.new.out; faults = g.O.Sink.faults c.args.out.now; later = g.O.Sink.faults c.walk.new.out } in
    let set : IsSet (setting_of given p) (g.S.Store.limit c.first_cells.new.store) p.texts = record { cells = sym (c.first_cells.ensures.limit ∙ c.requires.limit); texts = refl } in
    let run = run_of given p entry f input n in
    if_there p.functions entry f (λ h. RunEnds (run_of given p entry h input n) k (outcome.Fault c.in-Fault.kind c.in-Fault.place)) there
    (fault_ends run f.place (first_world f input) walked r k c.in-Fault.kind c.in-Fault.place (c.in-Fault.ensures (setting_of given p) set refl refl))

pub returns-in-OutOfSteps : goal.returns-in-OutOfSteps
returns-in-OutOfSteps g c =
    let growth = c.args.growth in
    let p = program_of c.args.program.now in
    let all = c.args.program.now.functions in
    let entry = c.args.entry.0 in
    let at = slice_get_read all.items all.len entry c.index-f.result.now all.ok.0 (omega (arith, c.requires.entry, length-map all.items function_of, all.ok.0)) c.index-f.ensures in
    let f = function_of c.index-f.result.now in
    let there = slice_get-map function_of all.items entry ∙ ap (option_map function_of) at in
    let input = c.args.input.now in
    let admitted = of_there p.functions entry f (λ k. IsAdmitted p k input) there c.requires.admitted in
    let given : Given = record { growth = growth; cells = c.args.limits.cells; depth = c.args.limits.depth } in
    let n = c.args.steps in
    let frames : Frames = record { function = entry; point = Some 1; cells = c.in-Ok.cells; waiting = c.new.result } in
    let d = meant p.types (g.S.Store.content c.first_cells.new.store) (g.S.Store.rows c.first_cells.new.store) in
    let walked = from p.functions frames d (drop f.parameters input) (walk (setting_of given p) p n) n [] in
    let r = run_from_frames given p entry f input n c.requires.proper there admitted frames (meant p.types (g.S.Store.content c.args.store.now) (g.S.Store.rows c.args.store.now)) d f.parameters c.requires.depth refl refl c.new.ensures.items refl (meant_empty p.types (g.S.Store.content c.args.store.now) (g.S.Store.rows c.args.store.now) c.requires.empty c.requires.rows) (c.in-Ok.ensures.step (setting_of given p) (sym c.requires.limit)) in
    let k : Sunk = record { old = g.O.Sink.taken c.args.out.now; new = g.O.Sink.taken c.walk.new.out; faults = g.O.Sink.faults c.args.out.now; later = g.O.Sink.faults c.walk.new.out } in
    let set : IsSet (setting_of given p) (g.S.Store.limit c.first_cells.new.store) p.texts = record { cells = sym (c.first_cells.ensures.limit ∙ c.requires.limit); texts = refl } in
    let run = run_of given p entry f input n in
    if_there p.functions entry f (λ h. RunEnds (run_of given p entry h input n) k (outcome.OutOfSteps)) there
    (steps_end run f.place (first_world f input) walked r k (c.in-OutOfSteps.ensures (setting_of given p) set refl refl))

pub returns-in-WriteFault : goal.returns-in-WriteFault
returns-in-WriteFault g c =
    let growth = c.args.growth in
    let p = program_of c.args.program.now in
    let all = c.args.program.now.functions in
    let entry = c.args.entry.0 in
    let at = slice_get_read all.items all.len entry c.index-f.result.now all.ok.0 (omega (arith, c.requires.entry, length-map all.items function_of, all.ok.0)) c.index-f.ensures in
    let f = function_of c.index-f.result.now in
    let there = slice_get-map function_of all.items entry ∙ ap (option_map function_of) at in
    let input = c.args.input.now in
    let admitted = of_there p.functions entry f (λ k. IsAdmitted p k input) there c.requires.admitted in
    let given : Given = record { growth = growth; cells = c.args.limits.cells; depth = c.args.limits.depth } in
    let n = c.args.steps in
    let frames : Frames = record { function = entry; point = Some 1; cells = c.in-Ok.cells; waiting = c.new.result } in
    let d = meant p.types (g.S.Store.content c.first_cells.new.store) (g.S.Store.rows c.first_cells.new.store) in
    let walked = from p.functions frames d (drop f.parameters input) (walk (setting_of given p) p n) n [] in
    let r = run_from_frames given p entry f input n c.requires.proper there admitted frames (meant p.types (g.S.Store.content c.args.store.now) (g.S.Store.rows c.args.store.now)) d f.parameters c.requires.depth refl refl c.new.ensures.items refl (meant_empty p.types (g.S.Store.content c.args.store.now) (g.S.Store.rows c.args.store.now) c.requires.empty c.requires.rows) (c.in-Ok.ensures.step (setting_of given p) (sym c.requires.limit)) in
    let k : Sunk = record { old = g.O.Sink.taken c.args.out.now; new = g.O.Sink.taken c.walk.new.out; faults = g.O.Sink.faults c.args.out.now; later = g.O.Sink.faults c.walk.new.out } in
    let set : IsSet (setting_of given p) (g.S.Store.limit c.first_cells.new.store) p.texts = record { cells = sym (c.first_cells.ensures.limit ∙ c.requires.limit); texts = refl } in
    let run = run_of given p entry f input n in
    if_there p.functions entry f (λ h. RunEnds (run_of given p entry h input n) k (outcome.WriteFault)) there
    (part_ends run f.place (first_world f input) walked r k refl (c.in-WriteFault.ensures (setting_of given p) set refl refl))

pub returns : goal.returns
returns g c =
    let growth = c.args.growth in
    let p = program_of c.args.program.now in
    let all = c.args.program.now.functions in
    let entry = c.args.entry.0 in
    let at = slice_get_read all.items all.len entry c.index-f.result.now all.ok.0 (omega (arith, c.requires.entry, length-map all.items function_of, all.ok.0)) c.index-f.ensures in
    let f = function_of c.index-f.result.now in
    let there = slice_get-map function_of all.items entry ∙ ap (option_map function_of) at in
    let input = c.args.input.now in
    let admitted = of_there p.functions entry f (λ k. IsAdmitted p k input) there c.requires.admitted in
    let given : Given = record { growth = growth; cells = c.args.limits.cells; depth = c.args.limits.depth } in
    let n = c.args.steps in
    let frames : Frames = record { function = entry; point = Some 1; cells = c.in-Ok.cells; waiting = c.new.result } in
    let d = meant p.types (g.S.Store.content c.first_cells.new.store) (g.S.Store.rows c.first_cells.new.store) in
    let walked = from p.functions frames d (drop f.parameters input) (walk (setting_of given p) p n) n [] in
    let r = run_from_frames given p entry f input n c.requires.proper there admitted frames (meant p.types (g.S.Store.content c.args.store.now) (g.S.Store.rows c.args.store.now)) d f.parameters c.requires.depth refl refl c.new.ensures.items refl (meant_empty p.types (g.S.Store.content c.args.store.now) (g.S.Store.rows c.args.store.now) c.requires.empty c.requires.rows) (c.in-Ok.ensures.step (setting_of given p) (sym c.requires.limit)) in
    let k : Sunk = record { old = g.O.Sink.taken c.args.out.now; new = g.O.Sink.taken c.walk.new.out; faults = g.O.Sink.faults c.args.out.now; later = g.O.Sink.faults c.walk.new.out } in
    let set : IsSet (setting_of given p) (g.S.Store.limit c.first_cells.new.store) p.texts = record { cells = sym (c.first_cells.ensures.limit ∙ c.requires.limit); texts = refl } in
    let run = run_of given p entry f input n in
    if_there p.functions entry f (λ h. RunEnds (run_of given p entry h input n) k (outcome.NoMemory)) there
    (front_ends run f.place (first_world f input) walked r k refl (c.in-NoMemory.ensures (setting_of given p) set refl refl))

pub unreachable-requires : goal.unreachable-requires
unreachable-requires g c =
    let growth = c.args.growth in
    let p = program_of c.args.program.now in
    let all = c.args.program.now.functions in
    let entry = c.args.entry.0 in
    let at = slice_get_read all.items all.len entry c.index-f.result.now all.ok.0 (omega (arith, c.requires.entry, length-map all.items function_of, all.ok.0)) c.index-f.ensures in
    let f = function_of c.index-f.result.now in
    let there = slice_get-map function_of all.items entry ∙ ap (option_map function_of) at in
    let input = c.args.input.now in
    let admitted = of_there p.functions entry f (λ k. IsAdmitted p k input) there c.requires.admitted in
    let given : Given = record { growth = growth; cells = c.args.limits.cells; depth = c.args.limits.depth } in
    let n = c.args.steps in
    let frames : Frames = record { function = entry; point = Some 1; cells = c.in-Ok.cells; waiting = c.new.result } in
    let d = meant p.types (g.S.Store.content c.first_cells.new.store) (g.S.Store.rows c.first_cells.new.store) in
    let walked = from p.functions frames d (drop f.parameters input) (walk (setting_of given p) p n) n [] in
    let r = run_from_frames given p entry f input n c.requires.proper there admitted frames (meant p.types (g.S.Store.content c.args.store.now) (g.S.Store.rows c.args.store.now)) d f.parameters c.requires.depth refl refl c.new.ensures.items refl (meant_empty p.types (g.S.Store.content c.args.store.now) (g.S.Store.rows c.args.store.now) c.requires.empty c.requires.rows) (c.in-Ok.ensures.step (setting_of given p) (sym c.requires.limit)) in
    let k : Sunk = record { old = g.O.Sink.taken c.args.out.now; new = g.O.Sink.taken c.walk.new.out; faults = g.O.Sink.faults c.args.out.now; later = g.O.Sink.faults c.walk.new.out } in
    let set : IsSet (setting_of given p) (g.S.Store.limit c.first_cells.new.store) p.texts = record { cells = sym (c.first_cells.ensures.limit ∙ c.requires.limit); texts = refl } in
    let run = run_of given p entry f input n in
    not_lost run f.place (first_world f input) walked r k (c.in-Stray.ensures (setting_of given p) set refl refl) (never_lost p given entry f input n c.requires.proper there admitted)
