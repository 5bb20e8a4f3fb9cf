use Rattle.std.proofs.Common.{◌≡◌, ◌≤◌}
use Rattle.life_core.specs.Function.{program_of}
use Rattle.life_store.specs.Doing.{Setting}
use Rattle.life_cells.specs.Fits.{meant, IsFit}
use Rattle.life_changes.specs.Bounded.{IsBounded}
use Rattle.life_interp.specs.Fits.{CanWalk}
use Rattle.life_interp.specs.Frames.{all_cells, AreFrames}
use Rattle.life_interp.specs.Quick.{WalksOn}
use Rattle.life_interp.specs.Steps.{IsSet}
use Rattle.life_interp.specs.Walking.{IsSoundWalk}
use Rattle.life_interp.proofs.quick.stride.Given as goal

abbrev pub decreases-loop-left : goal.decreases-loop-left
decreases-loop-left g l = l.left

-- the walk goes on from here
abbrev pub invariant-loop-left : goal.invariant-loop-left
invariant-loop-left g l =
    let content = g.S.Store.content in
    let rows = g.S.Store.rows in
    let most = g.S.Store.limit in
    let p = program_of l.program in
    record {
      there : AreFrames p.functions l.frames;
      fits : IsFit p.types (content l.store) (rows l.store) (all_cells l.frames);
      sound : IsSoundWalk p l.frames (meant p.types (content l.store) (rows l.store));
      bounded : IsBounded (most l.initial.store) (meant p.types (content l.store) (rows l.store));
      countable : CanWalk l.left (content l.store);
      limit : most l.store ≡ most l.initial.store;
      fewer : l.left ≤ l.fn.steps;
      function : l.frames.function ≡ l.initial.frames.function;
      walked : (s : Setting) → IsSet s (most l.initial.store) p.texts → WalksOn s p l.fn.steps l.initial.frames (meant p.types (content l.initial.store) (rows l.initial.store)) l.left l.frames (meant p.types (content l.store) (rows l.store));
    }
