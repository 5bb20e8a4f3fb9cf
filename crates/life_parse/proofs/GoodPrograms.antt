-- Whole lists of tokens: what they are read as, and that no other tree has these tokens.
use Rattle.std.proofs.Common.{◌≡◌, ℕ, ◌≤◌, ◌↔◌, [], Ok, refl, sym, ap, ◌∙◌, append-nil, arith, max}
use Rattle.life_expr.specs.Readers.{read_rule}
use Rattle.life_parse.proofs.Binds.{ok_is}
use Rattle.life_parse.proofs.GoodRules.{good_rule}
use Rattle.life_parse.proofs.Laws.{IsTree, Stops}
use Rattle.life_tree.specs.Grammar.{rule, IsProgram, Fits}
use Rattle.life_tree.specs.Rules as rules
use Rattle.life_tree.specs.Rules.{Rule}
use Rattle.life_tree.specs.Tree.{Tree, tokens_of, depth, Tokens}

-- ---- trees of a rule, with nothing behind

-- nothing goes on with a tree at the end of the tokens
pub stops_at_end : (t : Tree) (r : Rule) → Stops t (rule r) []
stops_at_end t r = record { tails = refl; elses = λ e. absurd cc }

pub reads_whole : (n : ℕ) (r : Rule) (ts : Tokens) (t : Tree) → read_rule n r ts ≡ Ok (t, []) → (ts ≡ tokens_of t) × IsTree t (rule r) × (depth t ≤ n)
reads_whole n r ts t e = let s = (good_rule n r).sound ts t [] e in (s.0 ∙ append-nil (tokens_of t), s.1, s.2)

pub whole_is_read : (n : ℕ) (r : Rule) (t : Tree) → IsTree t (rule r) → depth t ≤ n → read_rule n r (tokens_of t) ≡ Ok (t, [])
whole_is_read n r t i d = ap (read_rule n r) (sym (append-nil (tokens_of t))) ∙ (good_rule n r).again t [] i d (stops_at_end t r)

-- A list of tokens is spelled by one tree of a rule at most.
pub one_tree : (r : Rule) (t u : Tree) → IsTree t (rule r) → IsTree u (rule r) → tokens_of t ≡ tokens_of u → t ≡ u
one_tree r t u i j e =
    let n : ℕ = max (depth t) (depth u) in
    let x : read_rule n r (tokens_of t) ≡ Ok (t, []) = whole_is_read n r t i (omega arith) in
    let y : read_rule n r (tokens_of u) ≡ Ok (u, []) = whole_is_read n r u j (omega arith) in
    ap (λ (z : Tree × Tokens). z.0) (ok_is (t, []) (u, []) (sym x ∙ ap (read_rule n r) e ∙ y))

-- ---- programs

pub program_tree : (t : Tree) → IsProgram t → IsTree t (rule rules.program)
program_tree t p = record { conforms = p.conforms; elses = p.elses }

-- The tokens are read as a tree, up to the end, just if they are those of the tree and it fits.
pub read_exactly : (ts : Tokens) (t : Tree) → read_rule 64 rules.program ts ≡ Ok (t, []) ↔ (ts ≡ tokens_of t) × Fits t
read_exactly ts t = (
  λ e. let w = reads_whole 64 rules.program ts t e in (w.0, record { program = record { conforms = w.1.conforms; elses = w.1.elses }; nested = w.2 }),
  λ h. ap (read_rule 64 rules.program) h.0 ∙ whole_is_read 64 rules.program t (program_tree t h.1.program) h.1.nested,
)

pub one_program : (t u : Tree) → IsProgram t → IsProgram u → tokens_of t ≡ tokens_of u → t ≡ u
one_program t u p q e = one_tree rules.program t u (program_tree t p) (program_tree u q) e
