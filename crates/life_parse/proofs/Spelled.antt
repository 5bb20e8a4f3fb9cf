-- What a file's tokens spell, by what reading them as a program says.
use Rattle.std.proofs.Common.{◌≡◌, ◌+◌, ◌-◌, ◌<◌, ℕ, [], length, Ok, Err, inl, inr}
use Rattle.life_parse.specs.ParsesTokens.{IsTheTree, AreRefused, AreTooDeep}
use Rattle.life_expr.specs.Read.{refused, deep}
use Rattle.life_expr.specs.Readers.{read_rule}
use Rattle.life_tree.specs.Rules as rules
use Rattle.life_tree.specs.Tree.{Tree, Tokens}
use Rattle.life_parse.proofs.Kept.{behind_read, behind_refused, behind_deep}
use Rattle.life_parse.proofs.Parsed.{read_whole, StopsAt, whole_refused, whole_deep}

pub spelled : (ts : Tokens) (t : Tree) (rest : Tokens) → read_rule 64 rules.program ts ≡ Ok (t, rest) → rest ≡ [] → IsTheTree ts t
spelled ts t rest e none = let w = read_whole ts t rest e none in record { spelled = w.0; fits = w.1; only = w.2 }

refused_at : (ts rest : Tokens) → StopsAt ts rest → (at : ℕ) → length ts ≡ at + length rest → AreRefused ts at
refused_at ts rest stops at far = let w = whole_refused ts rest stops at far in record { refused = w.0; shallow = w.1; none = λ u fits e. w.2 u fits.program e }

pub spelled_less : (ts : Tokens) (t : Tree) (rest : Tokens) → read_rule 64 rules.program ts ≡ Ok (t, rest) → 0 < length rest → AreRefused ts (length ts - length rest)
spelled_less ts t rest e more = refused_at ts rest (inr (t, e, more)) (length ts - length rest) (behind_read ts t rest e)

pub spelled_refused : (ts rest : Tokens) → read_rule 64 rules.program ts ≡ Err (refused rest) → AreRefused ts (length ts - length rest)
spelled_refused ts rest e = refused_at ts rest (inl e) (length ts - length rest) (behind_refused ts rest e)

pub spelled_deep : (ts rest : Tokens) → read_rule 64 rules.program ts ≡ Err (deep rest) → AreTooDeep ts (length ts - length rest)
spelled_deep ts rest e =
    let w = whole_deep ts rest e (length ts - length rest) (behind_deep ts rest e) in
    record { deep = w.0; first = w.1; none = w.2 }
