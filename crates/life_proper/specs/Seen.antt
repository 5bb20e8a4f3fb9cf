-- Rust values as what definitions see.
use Rattle.std.specs.Prelude.{List, Option, option_map}
use Rattle.std.specs.declared.vec.Vec.{Vec}
use Rattle.std.specs.declared.alloc.Global.{Global}
use Rattle.life_proper.specs.declared.flow.Flow.{Flow as Held}
use Rattle.life_proper.specs.declared.known.Known.{Known}
use Rattle.life_proper.specs.Checking.{Flow}
use Rattle.life_proper.specs.Knowing.{State}

abbrev pub known_items : Vec Known Global → List Known
known_items k = k.items

abbrev pub state_seen : Option (Vec Known Global) → State
state_seen s = option_map known_items s

unfoldable pub flow_seen : Held → Flow
flow_seen w = record {
  fine = w.fine;
  next = state_seen w.next;
  on_break = state_seen w.on_break;
  on_continue = state_seen w.on_continue;
  on_true = state_seen w.on_true;
  on_false = state_seen w.on_false;
}
