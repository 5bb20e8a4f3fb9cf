-- What follows the first branch of an `if`, branch by branch.
use Rattle.std.proofs.Common.{◌≡◌, ℕ, zero, suc, ◌<◌, Bool, true, false, ◌&&◌, List, [], ◌∷◌, ◌++◌, length, Ok, Err, Option, Some, None, refl, sym, ap, subst, ◌∙◌, arith}
use Rattle.life_expr.specs.declared.stop.Stop.{Stop as Fault}
use Rattle.life_expr.specs.declared.stop.Stop.TheVariants as faults
use Rattle.life_stmt.specs.Elses.{else_if_kinds, else_if_with, last_else_with, else_if_front, attach, elses_before, last_form, BranchesRead}
use Rattle.life_stmt.specs.Fronts.{mapped, behind}
use Rattle.life_expr.specs.Gives.{Fails}
use Rattle.life_expr.specs.Heads.{quoted_kind, is_of}
use Rattle.life_expr.specs.Read.{Stop, Read, Reader, ◌>>=◌}
use Rattle.life_expr.specs.Readers.{Readers, no_reader, begins, condition_with, statement_with, else_part_below, else_part_with, else_parts}
use Rattle.life_stmt.proofs.ShrinksReads.{Takes, TakesAll, Takes-none, Takes-reads, ok_is, shrinks}
use Rattle.life_stmt.proofs.ShrinksRules.{Takes-condition, Takes-statement, else_parts_take}
use Rattle.life_tree.specs.Grammar.{◌then◌, quoted, rule}
use Rattle.life_tree.specs.Rules as rules
use Rattle.life_tree.specs.Tree.{Tree, node, ◌⨾◌, Tokens}
use Rattle.life_tree.specs.Views.{ElseIfView, at, else_part_tree}
use Rattle.life_tree.specs.declared.fixed.TheConstants as fixed
use Rattle.life_tree.specs.declared.token.TreeToken.{TreeToken}

both_true : (a b : Bool) → (a && b) ≡ true → (a ≡ true) × (b ≡ true)
both_true true true e = (refl, refl)
both_true true false e = absurd cc
both_true false b e = absurd cc

not_both : (a : Bool) → (a && false) ≡ true → ⊥
not_both true e = absurd cc
not_both false e = absurd cc

abbrev stopped : Stop → Read
stopped why = Err why

same_stop : (a b : Stop) → stopped a ≡ stopped b → stopped a ≡ stopped b
same_stop a b e = e

module _ (n : ℕ) (inside : Readers) (hi : TakesAll inside) where
  -- a condition, a statement, and then what `more` reads
  abbrev branch_from : Reader → Reader
  branch_from more ts = condition_with n inside ts >>= λ c. behind c.0 (statement_with n inside c.1 >>= λ s. behind s.0 (more s.1))

  abbrev branch_alone : Reader
  branch_alone ts = condition_with n inside ts >>= λ c. behind c.0 (statement_with n inside c.1)

  -- .. behind both words
  abbrev words : TreeToken → TreeToken → Read → Read
  words k l read = behind (at fixed.ELSE k.place) (behind (at fixed.IF l.place) read)

  abbrev whole : TreeToken → TreeToken → Read → Read
  whole k l read = mapped (λ t. node rules.else_part t) (words k l read)

  else_opens : (m : ℕ) (k l : TreeToken) (ks : Tokens) → is_of (quoted_kind fixed.ELSE) k ≡ true → is_of (quoted_kind fixed.IF) l ≡ true
      → else_part_below (suc m) n inside (k ∷ l ∷ ks) ≡ whole k l (branch_from (else_part_below m n inside) ks)
  else_opens m k l ks h i = rw (h, i) refl

  else_if_opens : (k l : TreeToken) (ks : Tokens) → is_of (quoted_kind fixed.ELSE) k ≡ true → is_of (quoted_kind fixed.IF) l ≡ true
      → else_if_with n inside (k ∷ l ∷ ks) ≡ words k l (branch_alone ks)
  else_if_opens k l ks h i = rw (h, i) refl

  pub Takes-else_if : Takes false (else_if_with n inside)
  Takes-else_if =
      Takes-reads n inside (else_parts no_reader n inside) hi (else_parts_take n inside hi no_reader (Takes-none true))
      (quoted fixed.ELSE then quoted fixed.IF then rule rules.condition then rule rules.statement) refl

  -- ---- as many steps as there are tokens are enough

  same_branch : (p q : Reader) (ks : Tokens) → ((us : Tokens) → length us < length ks → p us ≡ q us) → branch_from p ks ≡ branch_from q ks
  same_branch p q ks same = go (condition_with n inside ks) refl
    where
      then_statement : (c : Tree × Tokens) → length c.1 < length ks → (s : Read) → statement_with n inside c.1 ≡ s
          → behind c.0 (s >>= λ s. behind s.0 (p s.1)) ≡ behind c.0 (s >>= λ s. behind s.0 (q s.1))
      then_statement c less (Err why) is = refl
      then_statement c less (Ok s) is =
          let k = shrinks (statement_with n inside) (Takes-statement n inside hi) c.1 s.0 s.1 is in
          ap (λ (r : Read). behind c.0 (behind s.0 r)) (same s.1 (omega arith))

      go : (c : Read) → condition_with n inside ks ≡ c
          → (c >>= λ c. behind c.0 (statement_with n inside c.1 >>= λ s. behind s.0 (p s.1))) ≡ (c >>= λ c. behind c.0 (statement_with n inside c.1 >>= λ s. behind s.0 (q s.1)))
      go (Err why) is = refl
      go (Ok c) is = then_statement c (shrinks (condition_with n inside) (Takes-condition n inside hi) ks c.0 c.1 is) (statement_with n inside c.1) refl

  fuel : (a b : ℕ) (ts : Tokens) → length ts < a → length ts < b → else_part_below a n inside ts ≡ else_part_below b n inside ts
  fuel zero b ts h k = absurd (omega arith)
  fuel (suc a) zero ts h k = absurd (omega arith)
  fuel (suc a) (suc b) [] h k = refl
  fuel (suc a) (suc b) (t ∷ []) h k = go (is_of (quoted_kind fixed.ELSE) t) refl
    where
      go : (x : Bool) → is_of (quoted_kind fixed.ELSE) t ≡ x → else_part_below (suc a) n inside (t ∷ []) ≡ else_part_below (suc b) n inside (t ∷ [])
      go true e = rw e refl
      go false e = rw e refl
  fuel (suc a) (suc b) (t ∷ u ∷ us) h k = go (fuel a b) (is_of (quoted_kind fixed.ELSE) t) refl (is_of (quoted_kind fixed.IF) u) refl
    where
      go : ((ts : Tokens) → length ts < a → length ts < b → else_part_below a n inside ts ≡ else_part_below b n inside ts)
          → (x : Bool) → is_of (quoted_kind fixed.ELSE) t ≡ x → (y : Bool) → is_of (quoted_kind fixed.IF) u ≡ y
          → else_part_below (suc a) n inside (t ∷ u ∷ us) ≡ else_part_below (suc b) n inside (t ∷ u ∷ us)
      go ih false e y f = rw e refl
      go ih true e false f = rw (e, f) refl
      go ih true e true f =
          else_opens a t u us e f ∙ ap (whole t u) (same_branch (else_part_below a n inside) (else_part_below b n inside) us (λ vs less. ih vs (omega arith) (omega arith))) ∙ sym (else_opens b t u us e f)

  -- ---- a branch more

  regroup : (k l : TreeToken) (c s : Tree) (r : Read) → whole k l (behind c (behind s r)) ≡ mapped (attach (at fixed.ELSE k.place ⨾ at fixed.IF l.place ⨾ c ⨾ s)) r
  regroup k l c s (Ok x) = refl
  regroup k l c s (Err why) = refl

  more_opens : (more : Reader) (k l : TreeToken) (ks : Tokens) (t : Tree) (rest : Tokens) → words k l (branch_alone ks) ≡ Ok (t, rest) → whole k l (branch_from more ks) ≡ mapped (attach t) (more rest)
  more_opens more k l ks t rest e = go (condition_with n inside ks) e
    where
      then_statement : (c : Tree) (s : Read) → words k l (behind c s) ≡ Ok (t, rest) → whole k l (behind c (s >>= λ s. behind s.0 (more s.1))) ≡ mapped (attach t) (more rest)
      then_statement c (Err why) e = absurd cc
      then_statement c (Ok s) e =
          let same = ok_is (at fixed.ELSE k.place ⨾ at fixed.IF l.place ⨾ c ⨾ s.0, s.1) (t, rest) e in
          subst (λ (y : Tree × Tokens). whole k l (behind c (behind s.0 (more s.1))) ≡ mapped (attach y.0) (more y.1)) same (regroup k l c s.0 (more s.1))

      go : (c : Read) → words k l (c >>= λ c. behind c.0 (statement_with n inside c.1)) ≡ Ok (t, rest)
          → whole k l (c >>= λ c. behind c.0 (statement_with n inside c.1 >>= λ s. behind s.0 (more s.1))) ≡ mapped (attach t) (more rest)
      go (Err why) e = absurd cc
      go (Ok c) e = then_statement c.0 (statement_with n inside c.1) e

  pub else_more : (ts : Tokens) (t : Tree) (rest : Tokens) → begins else_if_kinds ts ≡ true → else_if_with n inside ts ≡ Ok (t, rest)
      → else_part_with n inside ts ≡ mapped (attach t) (else_part_with n inside rest)
  unfolding else_part_with
  else_more [] t rest h e = absurd cc
  else_more (k ∷ []) t rest h e = absurd (not_both (is_of (quoted_kind fixed.ELSE) k) h)
  else_more (k ∷ l ∷ ks) t rest h e =
      let a = both_true (is_of (quoted_kind fixed.ELSE) k) (is_of (quoted_kind fixed.IF) l && true) h in
      let b = both_true (is_of (quoted_kind fixed.IF) l) true a.1 in
      let less = shrinks (else_if_with n inside) Takes-else_if (k ∷ l ∷ ks) t rest e in
      let many : ℕ = length (k ∷ l ∷ ks) in
      else_opens many k l ks a.0 b.0
      ∙ more_opens (else_part_below many n inside) k l ks t rest (sym (else_if_opens k l ks a.0 b.0) ∙ e)
      ∙ ap (mapped (attach t)) (fuel many (suc (length rest)) rest (omega arith) (omega arith))

  fails_opens : (more : Reader) (k l : TreeToken) (ks : Tokens) (why : Stop) → words k l (branch_alone ks) ≡ Err why → whole k l (branch_from more ks) ≡ Err why
  fails_opens more k l ks why e = go (condition_with n inside ks) e
    where
      then_statement : (c : Tree) (s : Read) → words k l (behind c s) ≡ Err why → whole k l (behind c (s >>= λ s. behind s.0 (more s.1))) ≡ Err why
      then_statement c (Err other) e = same_stop other why e
      then_statement c (Ok s) e = absurd cc

      go : (c : Read) → words k l (c >>= λ c. behind c.0 (statement_with n inside c.1)) ≡ Err why
          → whole k l (c >>= λ c. behind c.0 (statement_with n inside c.1 >>= λ s. behind s.0 (more s.1))) ≡ Err why
      go (Err other) e = same_stop other why e
      go (Ok c) e = then_statement c.0 (statement_with n inside c.1) e

  pub else_fails : (ts : Tokens) (why : Stop) → begins else_if_kinds ts ≡ true → else_if_with n inside ts ≡ Err why → else_part_with n inside ts ≡ Err why
  unfolding else_part_with
  else_fails [] why h e = absurd cc
  else_fails (k ∷ []) why h e = absurd (not_both (is_of (quoted_kind fixed.ELSE) k) h)
  else_fails (k ∷ l ∷ ks) why h e =
      let a = both_true (is_of (quoted_kind fixed.ELSE) k) (is_of (quoted_kind fixed.IF) l && true) h in
      let b = both_true (is_of (quoted_kind fixed.IF) l) true a.1 in
      let many : ℕ = length (k ∷ l ∷ ks) in
      else_opens many k l ks a.0 b.0 ∙ fails_opens (else_part_below many n inside) k l ks why (sym (else_if_opens k l ks a.0 b.0) ∙ e)

  -- ---- no branch more

  pub else_ends : (ts : Tokens) → begins else_if_kinds ts ≡ false → else_part_with n inside ts ≡ mapped (λ t. node rules.else_part t) (last_else_with n inside ts)
  unfolding else_part_with
  else_ends [] h = refl
  else_ends (k ∷ []) h = go (is_of (quoted_kind fixed.ELSE) k) refl
    where
      go : (x : Bool) → is_of (quoted_kind fixed.ELSE) k ≡ x → else_part_below 2 n inside (k ∷ []) ≡ mapped (λ t. node rules.else_part t) (last_else_with n inside (k ∷ []))
      go true e = rw e refl
      go false e = rw e refl
  else_ends (k ∷ l ∷ ks) h = go (is_of (quoted_kind fixed.ELSE) k) refl (is_of (quoted_kind fixed.IF) l) refl h
    where
      go : (x : Bool) → is_of (quoted_kind fixed.ELSE) k ≡ x → (y : Bool) → is_of (quoted_kind fixed.IF) l ≡ y → (x && (y && true)) ≡ false
          → else_part_below (suc (suc (suc (length ks)))) n inside (k ∷ l ∷ ks) ≡ mapped (λ t. node rules.else_part t) (last_else_with n inside (k ∷ l ∷ ks))
      go false e y f h = rw e refl
      go true e false f h = rw (e, f) refl
      go true e true f h = absurd cc

-- ---- branches that were read before

pub elses_more : (es : List ElseIfView) (e : ElseIfView) (t : Tree) → elses_before es (attach (else_if_front e) t) ≡ elses_before (es ++ e ∷ []) t
elses_more [] e t = refl
elses_more (x ∷ xs) e t = ap (λ (u : Tree). node rules.else_part (at fixed.ELSE x.keyword ⨾ at fixed.IF x.branch.keyword ⨾ x.branch.condition ⨾ x.branch.body ⨾ u)) (elses_more xs e t)

pub elses_last : (es : List ElseIfView) (last : Option Tree) → elses_before es (node rules.else_part (last_form last)) ≡ else_part_tree es last
elses_last [] None = refl
elses_last [] (Some last) = refl
elses_last (x ∷ xs) last = ap (λ (u : Tree). node rules.else_part (at fixed.ELSE x.keyword ⨾ at fixed.IF x.branch.keyword ⨾ x.branch.condition ⨾ x.branch.body ⨾ u)) (elses_last xs last)

mapped_twice : (es : List ElseIfView) (t : Tree) (e : ElseIfView) (read : Read) → t ≡ else_if_front e → mapped (elses_before es) (mapped (attach t) read) ≡ mapped (elses_before (es ++ e ∷ [])) read
mapped_twice es t e (Ok x) same = rw same (ap (λ (u : Tree). Ok (u, x.1)) (elses_more es e x.0))
mapped_twice es t e (Err why) same = refl

module _ (n : ℕ) (inside : Readers) (hi : TakesAll inside) where
  pub branches_more : (es : List ElseIfView) (e : ElseIfView) (ts rest : Tokens) (total : Read) → begins else_if_kinds ts ≡ true → else_if_with n inside ts ≡ Ok (else_if_front e, rest)
      → mapped (elses_before es) (else_part_with n inside ts) ≡ total → mapped (elses_before (es ++ e ∷ [])) (else_part_with n inside rest) ≡ total
  branches_more es e ts rest total h read so_far =
      sym (mapped_twice es (else_if_front e) e (else_part_with n inside rest) refl) ∙ ap (mapped (elses_before es)) (sym (else_more n inside hi ts (else_if_front e) rest h read)) ∙ so_far

  pub branches_fail : (e : Fault) (es : List ElseIfView) (ts : Tokens) (total : Read) → begins else_if_kinds ts ≡ true → Fails e (else_if_with n inside ts)
      → mapped (elses_before es) (else_part_with n inside ts) ≡ total → Fails e total
  branches_fail faults.Memory es ts total h f so_far = tt
  branches_fail (faults.Refused r) es ts total h f so_far = sym so_far ∙ ap (mapped (elses_before es)) (else_fails n inside hi ts _ h f)
  branches_fail (faults.Deep r) es ts total h f so_far = sym so_far ∙ ap (mapped (elses_before es)) (else_fails n inside hi ts _ h f)

  last_reads : (es : List ElseIfView) (ts rest : Tokens) → BranchesRead (else_part_with n inside) es ts rest
      → else_part_with n inside ts ≡ mapped (elses_before es) (mapped (λ t. node rules.else_part t) (last_else_with n inside rest))
  last_reads es ts rest b = b.so_far ∙ ap (mapped (elses_before es)) (else_ends n inside hi rest b.no_more)

  pub last_fails : (e : Fault) (es : List ElseIfView) (ts rest : Tokens) → BranchesRead (else_part_with n inside) es ts rest → Fails e (last_else_with n inside rest) → Fails e (else_part_with n inside ts)
  last_fails faults.Memory es ts rest b f = tt
  last_fails (faults.Refused r) es ts rest b f = last_reads es ts rest b ∙ rw f refl
  last_fails (faults.Deep r) es ts rest b f = last_reads es ts rest b ∙ rw f refl

  pub last_given : (es : List ElseIfView) (last : Option Tree) (ts rest after : Tokens) → BranchesRead (else_part_with n inside) es ts rest
      → last_else_with n inside rest ≡ Ok (last_form last, after) → else_part_with n inside ts ≡ Ok (else_part_tree es last, after)
  last_given es last ts rest after b e = last_reads es ts rest b ∙ rw e (ap (λ (t : Tree). Ok (t, after)) (elses_last es last))
