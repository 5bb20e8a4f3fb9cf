-- What the machine's frames stand for.
use Rattle.std.specs.Prelude.{◌≡◌, ◌<◌, ℕ, zero, suc, List, [], ◌∷◌, ◌++◌, length, map, option_and_then, option_map, Option, Some, reverse, slice_get}
use Rattle.life_core.specs.Function.{Function, Default}
use Rattle.life_core.specs.Linked.{Linked, code_of, enter, no_exits, numbered}
use Rattle.life_core.specs.Operands.{argument_of, location_of}
use Rattle.life_core.specs.Tree.{Skip}
use Rattle.life_cells.specs.Cells.{cells_seen}
use Rattle.life_interp.specs.Walk as walk
use Rattle.life_interp.specs.declared.frames.Frames.{Frames}
use Rattle.life_interp.specs.declared.frames.Waiting.{Waiting}
use Rattle.life_cells.specs.declared.cell.Cell.{Cell}

-- a function by its number; no frame is of one that isn't there
abbrev pub no_function : Function
no_function = record {
  name = record { 0 = 0 };
  place = record { line = 0; column = 0 };
  parameters = 0;
  result = record { 0 = 0 };
  promise = Default;
  locals = [];
  body = Skip;
}

abbrev pub function_at : List Function → ℕ → Function
function_at [] n = no_function
function_at (f ∷ fs) zero = f
function_at (f ∷ fs) (suc n) = function_at fs n

abbrev pub waiting_seen : List Function → Waiting → walk.Waiting
waiting_seen fs w = record {
  function = function_at fs w.function;
  cells = cells_seen w.cells.items;
  place = w.place;
  to = w.to;
  target = option_map location_of w.target.now;
  arguments = map argument_of w.arguments.now;
}

-- the newest first
abbrev pub stack_seen : List Function → List Waiting → List walk.Waiting
stack_seen fs ws = reverse (map (waiting_seen fs) ws)

-- each frame is of a function that is there
abbrev pub AreThere : List Function → List Waiting → Type 0
AreThere fs [] = Unit {0}
AreThere fs (w ∷ ws) = (w.function < length fs) × AreThere fs ws

pub record AreFrames (fs : List Function) (frames : Frames) : Type 0 where
  pub here : frames.function < length fs
  pub there : AreThere fs frames.waiting.items

-- control enters each function by its first point
abbrev pub AllBegin : List Function → Type 0
AllBegin fs = (n : ℕ) (g : Function) → slice_get fs n ≡ Some g → enter g.body 1 no_exits ≡ Some 1

-- the cells of those that wait, and then those of the frame at hand
abbrev pub waiting_cells : List Waiting → List Cell
waiting_cells [] = []
waiting_cells (w ∷ ws) = w.cells.items ++ waiting_cells ws

abbrev pub all_cells : Frames → List Cell
all_cells frames = waiting_cells frames.waiting.items ++ frames.cells.items

-- what stands at the point of the frame at hand
abbrev pub point_at : List Function → Frames → Option Linked
point_at fs frames = option_and_then (numbered (code_of (function_at fs frames.function))) frames.point
