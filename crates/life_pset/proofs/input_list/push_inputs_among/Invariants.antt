use Rattle.std.proofs.Common.{◌≡◌, ◌≤◌, ◌++◌, drop, map}
use Rattle.life_pset.specs.Elements.{inputs_among}
use Rattle.life_pset.specs.Inputs.{input_seen}
use Rattle.life_pset.proofs.input_list.push_inputs_among.Given as goal

abbrev pub invariant-loop-pointer : goal.invariant-loop-pointer
invariant-loop-pointer l =
    let among = inputs_among l.types l.parameter l.id in
    record {
      added : map input_seen l.all.items ++ among l.next (drop l.pointer-index l.held) ≡ map input_seen l.fn.all.items ++ among 0 l.held;
      few : l.next ≤ l.pointer-index;
    }
