use Rattle.std.proofs.Common.{◌≡◌, drop, false}
use Rattle.life_lex.specs.Lengths.{plus}
use Rattle.life_lex.specs.Scan.{string_scan}
use Rattle.life_lex.proofs.literal.string_scan.Given as goal

abbrev pub invariant-loop-b : goal.invariant-loop-b
invariant-loop-b l = record {
  found : string_scan false l.bytes ≡ plus l.b-index (string_scan l.escaped (drop l.b-index l.bytes));
  passed : l.len ≡ l.b-index;
}
