-- What stands behind an `else` is read as often as one stands there; to count by the tokens is enough.
use Rattle.std.proofs.Common.{◌≡◌, ℕ, zero, suc, ◌<◌, true, false, cond, [], ◌∷◌, length, Ok, Err, refl, ap, arith}
use Rattle.life_expr.specs.Heads.{quoted_kind}
use Rattle.life_expr.specs.Read.{◌>>=◌, Read, Reader, starts, reads, mark}
use Rattle.life_expr.specs.Readers.{Readers, condition_with, statement_with, plain_with, else_parts, else_part_below, else_part_with}
use Rattle.life_parse.proofs.Looks.{Answer, Law}
use Rattle.life_parse.proofs.LooksOn.{turned, Law-token}
use Rattle.life_parse.proofs.LooksMany.{Looks-numbered}
use Rattle.life_parse.proofs.LooksForms.{Laws, Law-no_reader, Law-derived}
use Rattle.life_tree.specs.Grammar.{quoted, ◌then◌, rule}
use Rattle.life_tree.specs.Rules as rules
use Rattle.life_tree.specs.Tree.{Tree, node, ◌⨾◌, without_else, Tokens}
use Rattle.life_tree.specs.declared.fixed.TheConstants as fixed

pub bind_same : {A B : Type 0} (r : Answer A) (f f' : A × Tokens → Answer B) → ((x : A × Tokens) → r ≡ Ok x → f x ≡ f' x) → (r >>= f) ≡ (r >>= f')
bind_same (Ok x) f f' h = h x refl
bind_same (Err e) f f' h = refl

-- p and then, as its tree is, q or q'
then_same : (p q q' : Reader) (ts : Tokens) → ((x : Tree × Tokens) → p ts ≡ Ok x → q x.1 ≡ q' x.1) → ◌≡◌ {A = Read} (p ts >>= λ x. q x.1 >>= λ y. Ok (x.0 ⨾ y.0, y.1)) (p ts >>= λ x. q' x.1 >>= λ y. Ok (x.0 ⨾ y.0, y.1))
then_same p q q' ts h = bind_same (p ts) _ _ (λ x e. ap (λ (r : Read). r >>= λ y. Ok (x.0 ⨾ y.0, y.1)) (h x e))

module _ (n : ℕ) (inside : Readers) (i : Laws inside) (condition : Law false (condition_with n inside)) (statement : Law false (statement_with n inside)) (plain : Law false (plain_with n inside)) where
  else_laws : (more : Reader) → Law true more → Laws (else_parts more n inside)
  else_laws more g rules.condition = condition
  else_laws more g rules.statement = statement
  else_laws more g rules.plain = plain
  else_laws more g rules.else_part = g
  else_laws more g _ = Law-no_reader _

  Law-else_below : (k : ℕ) → Law true (else_part_below k n inside)
  Law-else_below zero = Law-no_reader true
  Law-else_below (suc k) = Law-derived n inside (else_parts (else_part_below k n inside) n inside) i (else_laws (else_part_below k n inside) (Law-else_below k)) rules.else_part refl

  -- `if`, a condition, a statement, and more
  abbrev branch : Reader → Reader
  branch more = reads n inside (else_parts more n inside) (quoted fixed.IF then rule rules.condition then rule rules.statement then rule rules.else_part)

  branch_same : (more more' : Reader) (ts : Tokens) → ((us : Tokens) → length us < length ts → more us ≡ more' us) → branch more ts ≡ branch more' ts
  branch_same more more' ts h =
      then_same (mark fixed.IF) (behind_if more) (behind_if more') ts (λ x e. then_same (condition_with n inside) (behind_condition more) (behind_condition more') x.1 (λ y f. then_same (statement_with n inside) more more' y.1 (λ z g.
      let a = ((Law-token false (quoted_kind fixed.IF) _).shrinks refl).shrinks ts x.0 x.1 e in
      let b = (condition.shrinks refl).shrinks x.1 y.0 y.1 f in
      let c = (statement.shrinks refl).shrinks y.1 z.0 z.1 g in
      h z.1 (omega arith))))
    where
      behind_condition : Reader → Reader
      behind_condition more us = reads n inside (else_parts more n inside) (rule rules.statement then rule rules.else_part) us

      behind_if : Reader → Reader
      behind_if more us = reads n inside (else_parts more n inside) (rule rules.condition then rule rules.statement then rule rules.else_part) us

  abbrev next : Reader → Reader
  next more us = cond (starts (quoted_kind fixed.IF ∷ []) us) (branch more us) (plain_with n inside us)

  else_enough : (k m : ℕ) (ts : Tokens) → length ts < k → length ts < m → else_part_below k n inside ts ≡ else_part_below m n inside ts
  else_enough zero m ts h l = absurd (omega arith)
  else_enough (suc k) zero ts h l = absurd (omega arith)
  else_enough (suc k) (suc m) ts h l = ap (λ (r : Read). cond (starts (quoted_kind fixed.ELSE ∷ []) ts) r (Ok (without_else, ts)) >>= turned (node rules.else_part)) (behind (else_enough k))
    where
      behind : ((m : ℕ) (us : Tokens) → length us < k → length us < m → else_part_below k n inside us ≡ else_part_below m n inside us)
          → ◌≡◌ {A = Read} (mark fixed.ELSE ts >>= λ x. next (else_part_below k n inside) x.1 >>= λ y. Ok (x.0 ⨾ y.0, y.1)) (mark fixed.ELSE ts >>= λ x. next (else_part_below m n inside) x.1 >>= λ y. Ok (x.0 ⨾ y.0, y.1))
      behind ih = then_same (mark fixed.ELSE) (next (else_part_below k n inside)) (next (else_part_below m n inside)) ts (λ x e.
          let a = ((Law-token false (quoted_kind fixed.ELSE) _).shrinks refl).shrinks ts x.0 x.1 e in
          ap (λ (r : Read). cond (starts (quoted_kind fixed.IF ∷ []) x.1) r (plain_with n inside x.1))
          (branch_same (else_part_below k n inside) (else_part_below m n inside) x.1 (λ us less. ih m us (omega arith) (omega arith))))

  pub Law-else_part : Law true (else_part_with n inside)
  unfolding else_part_with
  Law-else_part = record {
    looks = Looks-numbered (λ k. else_part_below k n inside) (λ k. (Law-else_below k).looks) else_enough;
    shrinks = λ e. absurd cc;
  }
