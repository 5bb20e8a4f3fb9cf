use Rattle.std.proofs.Common.{◌≡◌, ℕ, List, [], drop}
use Rattle.life_core.specs.Function.{program_of}
use Rattle.life_store.specs.Doing.{Setting}
use Rattle.life_cells.specs.Fits.{meant, IsFit}
use Rattle.life_changes.specs.Bounded.{IsBounded}
use Rattle.life_interp.specs.Fits.{CanWalk}
use Rattle.life_interp.specs.Frames.{all_cells, AreFrames}
use Rattle.life_interp.specs.Steps.{IsSet}
use Rattle.life_interp.specs.Walk.{walk}
use Rattle.life_interp.specs.Walking.{from, IsSoundWalk, Takes}
use Rattle.life_interp.proofs.walk.walk.Given as goal

abbrev pub decreases-loop-left : goal.decreases-loop-left
decreases-loop-left g l = l.left

-- what was written so far, and the walk from here on
abbrev pub invariant-loop-left : goal.invariant-loop-left
invariant-loop-left g l =
    let content = g.S.Store.content in
    let rows = g.S.Store.rows in
    let most = g.S.Store.limit in
    let taken = g.O.Sink.taken in
    let faults = g.O.Sink.faults in
    let p = program_of l.program in
    record {
      there : AreFrames p.functions l.frames;
      fits : IsFit p.types (content l.store) (rows l.store) (all_cells l.frames);
      sound : IsSoundWalk p l.frames (meant p.types (content l.store) (rows l.store));
      bounded : IsBounded (most l.store) (meant p.types (content l.store) (rows l.store));
      countable : CanWalk l.left (content l.store);
      limit : most l.store ≡ most l.initial.store;
      walked : (s : Setting) → IsSet s (most l.initial.store) p.texts → s.given.growth ≡ l.growth → s.given.depth ≡ l.depth → (text : List ℕ)
          × Takes (record { old = taken l.initial.out; new = taken l.out; faults = faults l.initial.out; later = faults l.out }) text
          × (from p.functions l.initial.frames (meant p.types (content l.initial.store) (rows l.initial.store)) (drop l.initial.taken l.input) (walk s p l.fn.steps) l.fn.steps []
          ≡ from p.functions l.frames (meant p.types (content l.store) (rows l.store)) (drop l.taken l.input) (walk s p l.left) l.left text);
    }
