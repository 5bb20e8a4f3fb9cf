-- The reader of what stands behind an `if` and its statement is good.
use Rattle.std.proofs.Common.{◌≡◌, ℕ, zero, suc, ◌<◌, ◌++◌, length, refl, ap, length-append, arith}
use Rattle.life_expr.specs.Read.{reads}
use Rattle.life_expr.specs.Readers.{Readers, else_parts, else_part_below, else_part_with, condition_with, statement_with, plain_with}
use Rattle.life_parse.proofs.FirstTokens.{has_tokens}
use Rattle.life_parse.proofs.GoodBelow.{GoodBelow, below}
use Rattle.life_parse.proofs.GoodChoice.{good_or_no_else}
use Rattle.life_parse.proofs.GoodDerived.{good_made}
use Rattle.life_parse.proofs.GoodExprs.{good_condition}
use Rattle.life_parse.proofs.GoodParts.{append_parts, good_then}
use Rattle.life_parse.proofs.GoodReads.{InsideGood, good_reads}
use Rattle.life_parse.proofs.GoodStatements.{good_plain, good_statement}
use Rattle.life_parse.proofs.Laws.{Good}
use Rattle.life_tree.specs.Grammar.{Form, quoted, ◌then◌, ◌or◌, rule, form_of, Conforms}
use Rattle.life_tree.specs.Rules as rules
use Rattle.life_tree.specs.Tree.{Tree, ◌⨾◌, tokens_of, Tokens}
use Rattle.life_tree.specs.declared.fixed.TheConstants as fixed

-- behind an `else`
abbrev else_behind : Form
else_behind = (quoted fixed.IF then rule rules.condition then rule rules.statement then rule rules.else_part) or rule rules.plain

abbrev else_mark : Form
else_mark = quoted fixed.ELSE

-- behind the `else` there are fewer tokens
fewer : (k : ℕ) (a b : Tree) (rest : Tokens) → Conforms a else_mark → length (tokens_of (a ⨾ b) ++ rest) < suc k → length (tokens_of b ++ rest) < k
fewer k a b rest c l =
    let some = has_tokens a else_mark refl refl c in
    let whole : length (tokens_of (a ⨾ b) ++ rest) ≡ length (tokens_of a ++ (tokens_of b ++ rest)) = ap length (append_parts a b rest) in
    let long : length (tokens_of a) ≡ suc (length some.1) = ap length some.2 in
    omega (arith, l, whole, long, length-append (tokens_of a) (tokens_of b ++ rest))

module _ (n : ℕ) (inside : Readers) (i : InsideGood n inside) where
  none_below : GoodBelow 0 (else_part_below 0 n inside) (rule rules.else_part) n
  none_below = record { sound = λ ts t rest e. absurd cc; again = λ t rest l i d s. absurd (omega (arith, l)) }

  one_more : (k : ℕ) → GoodBelow k (else_part_below k n inside) (rule rules.else_part) n → GoodBelow (suc k) (else_part_below (suc k) n inside) (rule rules.else_part) n
  one_more k g = good_made (suc k) n (λ ts. reads n inside same (form_of rules.else_part) ts) rules.else_part
      (good_or_no_else (suc k) n (λ ts. reads n inside same (else_mark then else_behind) ts) (else_mark then else_behind) refl refl refl
      (good_then (suc k) k n (λ ts. reads n inside same else_mark ts) (λ ts. reads n inside same else_behind ts) else_mark else_behind refl refl (fewer k)
      (good_reads else_mark (suc k) n inside same refl i tt)
      (good_reads else_behind k n inside same refl i ((tt, (condition, (statement, g))), plain))))
    where
      same : Readers
      same = else_parts (else_part_below k n inside) n inside

      condition : GoodBelow k (condition_with n inside) (rule rules.condition) n
      condition = below (condition_with n inside) (rule rules.condition) n (good_condition n inside i) k

      statement : GoodBelow k (statement_with n inside) (rule rules.statement) n
      statement = below (statement_with n inside) (rule rules.statement) n (good_statement n inside i) k

      plain : GoodBelow k (plain_with n inside) (rule rules.plain) n
      plain = below (plain_with n inside) (rule rules.plain) n (good_plain n inside i) k

  so_many : (k : ℕ) → GoodBelow k (else_part_below k n inside) (rule rules.else_part) n
  so_many zero = none_below
  so_many (suc k) = one_more k (so_many k)

  pub good_else_part : Good (else_part_with n inside) (rule rules.else_part) n
  unfolding else_part_with
  good_else_part = record {
    sound = λ ts t rest e. (so_many (suc (length ts))).sound ts t rest e;
    again = λ t rest j d s. (so_many (suc (length (tokens_of t ++ rest)))).again t rest (omega arith) j d s;
  }
