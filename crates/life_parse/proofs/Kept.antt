-- What stands behind what was read is the end of the list.
use Rattle.std.proofs.Common.{◌≡◌, ◌+◌, ◌-◌, ◌++◌, length, Ok, Err, ap, arith, length-append}
use Rattle.life_expr.specs.Read.{refused, deep}
use Rattle.life_expr.specs.Readers.{read_rule}
use Rattle.life_tree.specs.Rules as rules
use Rattle.life_tree.specs.Tree.{Tree, Tokens}
use Rattle.life_parse.proofs.Near.{near_rule}

behind : (ts before rest : Tokens) → ts ≡ before ++ rest → length ts ≡ (length ts - length rest) + length rest
behind ts before rest e = omega (arith, ap length e, length-append before rest)

pub behind_read : (ts : Tokens) (t : Tree) (rest : Tokens) → read_rule 64 rules.program ts ≡ Ok (t, rest) → length ts ≡ (length ts - length rest) + length rest
behind_read ts t rest e = let s = (near_rule 64 64 rules.program (omega arith)).reads ts t rest e in behind ts s.0 rest s.1

pub behind_refused : (ts rest : Tokens) → read_rule 64 rules.program ts ≡ Err (refused rest) → length ts ≡ (length ts - length rest) + length rest
behind_refused ts rest e = let s = (near_rule 64 64 rules.program (omega arith)).refuses ts rest e in behind ts s.0 rest s.1

pub behind_deep : (ts rest : Tokens) → read_rule 64 rules.program ts ≡ Err (deep rest) → length ts ≡ (length ts - length rest) + length rest
behind_deep ts rest e = let s = (near_rule 64 64 rules.program (omega arith)).deepens ts rest e in behind ts s.0 rest s.1
