-- Where control goes to trees of statements and of conditions.
use Rattle.std.proofs.Common.{◌≡◌, ℕ, ◌+◌, ◌≤◌, refl, ap, arith}
use Rattle.std.proofs.lemmas.Bool.{and_parts, false≢true}
use Rattle.std.specs.Prelude.{IsTrue}
use Rattle.life_core.specs.declared.exits.Entry.{Entry}
use Rattle.life_core.specs.declared.exits.Entry.TheVariants as entry
use Rattle.life_core.specs.declared.exits.Exits.{Exits}
use Rattle.life_core.specs.Linked.{entry_then, entry_of, target_of, enter, with_next}
use Rattle.life_core.specs.Shape.{is_statement, is_condition}
use Rattle.life_core.specs.Tree.{Tree, Skip, Then, Acts, Asks, Both, Either, Negated, Choice, Turns, Breaks, Continues, Returns, Stops, size}

-- control goes straight through a statement only where that has no point, and through no condition
abbrev IsStatementEntry : Entry → ℕ → Type 0
IsStatementEntry entry.First n = 1 ≤ n
IsStatementEntry entry.Next n = n ≡ 0
IsStatementEntry entry.Break n = Unit {0}
IsStatementEntry entry.Continue n = Unit {0}

abbrev IsConditionEntry : Entry → ℕ → Type 0
IsConditionEntry entry.First n = 1 ≤ n
IsConditionEntry entry.Next n = ⊥
IsConditionEntry entry.Break n = Unit {0}
IsConditionEntry entry.Continue n = Unit {0}

two_statements : (d e : Entry) (m n : ℕ) → IsStatementEntry d m → IsStatementEntry e n → IsStatementEntry (entry_then d e) (m + n)
two_statements entry.First e m n p q = omega (arith, p)
two_statements entry.Next entry.First m n p q = omega (arith, q)
two_statements entry.Next entry.Next m n p q = omega (arith, p, q)
two_statements entry.Next entry.Break m n p q = tt
two_statements entry.Next entry.Continue m n p q = tt
two_statements entry.Break e m n p q = tt
two_statements entry.Continue e m n p q = tt

statement_before : (d e : Entry) (m n : ℕ) → IsStatementEntry d m → IsConditionEntry e n → IsConditionEntry (entry_then d e) (m + n)
statement_before entry.First e m n p q = omega (arith, p)
statement_before entry.Next entry.First m n p q = omega (arith, q)
statement_before entry.Next entry.Next m n p q = q
statement_before entry.Next entry.Break m n p q = tt
statement_before entry.Next entry.Continue m n p q = tt
statement_before entry.Break e m n p q = tt
statement_before entry.Continue e m n p q = tt

more_condition : (e : Entry) (m n : ℕ) → IsConditionEntry e m → IsConditionEntry e (m + n)
more_condition entry.First m n p = omega (arith, p)
more_condition entry.Next m n p = p
more_condition entry.Break m n p = tt
more_condition entry.Continue m n p = tt

condition_first : (e : Entry) (m n : ℕ) → IsConditionEntry e m → IsStatementEntry e (m + n)
condition_first entry.First m n p = omega (arith, p)
condition_first entry.Next m n p = absurd p
condition_first entry.Break m n p = tt
condition_first entry.Continue m n p = tt

mutual
  statement_entry : (t : Tree) → IsTrue (is_statement t) → IsStatementEntry (entry_of t) (size t)
  statement_entry Skip h = refl
  statement_entry (Then a b) h =
      let parts = and_parts (is_statement a) (is_statement b) h in
      two_statements (entry_of a) (entry_of b) (size a) (size b) (statement_entry a parts.0) (statement_entry b parts.1)
  statement_entry (Acts place i) h = omega arith
  statement_entry (Asks place t) h = absurd (false≢true h)
  statement_entry (Both a b) h = absurd (false≢true h)
  statement_entry (Either a b) h = absurd (false≢true h)
  statement_entry (Negated a) h = absurd (false≢true h)
  statement_entry (Choice t a b) h = condition_first (entry_of t) (size t) (size a + size b) (condition_entry t (and_parts (is_condition t) _ h).0)
  statement_entry (Turns t body step) h =
      condition_first (entry_of t) (size t) (size body + size step) (condition_entry t (and_parts (is_condition t) _ h).0)
  statement_entry Breaks h = tt
  statement_entry Continues h = tt
  statement_entry (Returns place) h = omega arith
  statement_entry (Stops place) h = omega arith

  condition_entry : (t : Tree) → IsTrue (is_condition t) → IsConditionEntry (entry_of t) (size t)
  condition_entry Skip h = absurd (false≢true h)
  condition_entry (Then a b) h =
      let parts = and_parts (is_statement a) (is_condition b) h in
      statement_before (entry_of a) (entry_of b) (size a) (size b) (statement_entry a parts.0) (condition_entry b parts.1)
  condition_entry (Acts place i) h = absurd (false≢true h)
  condition_entry (Asks place t) h = omega arith
  condition_entry (Both a b) h = more_condition (entry_of a) (size a) (size b) (condition_entry a (and_parts (is_condition a) _ h).0)
  condition_entry (Either a b) h = more_condition (entry_of a) (size a) (size b) (condition_entry a (and_parts (is_condition a) _ h).0)
  condition_entry (Negated a) h = condition_entry a h
  condition_entry (Choice t a b) h = absurd (false≢true h)
  condition_entry (Turns t body step) h = absurd (false≢true h)
  condition_entry Breaks h = absurd (false≢true h)
  condition_entry Continues h = absurd (false≢true h)
  condition_entry (Returns place) h = absurd (false≢true h)
  condition_entry (Stops place) h = absurd (false≢true h)

-- a condition has a point
pub condition_size : (t : Tree) → IsTrue (is_condition t) → 1 ≤ size t
condition_size Skip h = absurd (false≢true h)
condition_size (Then a b) h = omega (arith, condition_size b (and_parts (is_statement a) (is_condition b) h).1)
condition_size (Acts place i) h = absurd (false≢true h)
condition_size (Asks place t) h = omega arith
condition_size (Both a b) h = omega (arith, condition_size a (and_parts (is_condition a) _ h).0)
condition_size (Either a b) h = omega (arith, condition_size a (and_parts (is_condition a) _ h).0)
condition_size (Negated a) h = condition_size a h
condition_size (Choice t a b) h = absurd (false≢true h)
condition_size (Turns t body step) h = absurd (false≢true h)
condition_size Breaks h = absurd (false≢true h)
condition_size Continues h = absurd (false≢true h)
condition_size (Returns place) h = absurd (false≢true h)
condition_size (Stops place) h = absurd (false≢true h)

target_then : (d e : Entry) (n at : ℕ) (x : Exits) → IsStatementEntry d n → target_of (entry_then d e) at x ≡ target_of d at (with_next (target_of e (at + n) x) x)
target_then entry.First e n at x p = refl
target_then entry.Next e n at x p = let same : at ≡ at + n = omega (arith, p) in ap (λ k. target_of e k x) same
target_then entry.Break e n at x p = refl
target_then entry.Continue e n at x p = refl

-- control enters two trees, the first a statement, by the first with its way on to the second
pub enter_then : (a b : Tree) (at : ℕ) (x : Exits) → IsTrue (is_statement a) → enter (Then a b) at x ≡ enter a at (with_next (enter b (at + size a) x) x)
enter_then a b at x h = target_then (entry_of a) (entry_of b) (size a) at x (statement_entry a h)

target_same : (e : Entry) (at : ℕ) (x y : Exits) → x.next ≡ y.next → x.on_break ≡ y.on_break → x.on_continue ≡ y.on_continue → target_of e at x ≡ target_of e at y
target_same entry.First at x y p q r = refl
target_same entry.Next at x y p q r = p
target_same entry.Break at x y p q r = q
target_same entry.Continue at x y p q r = r

-- where control enters a tree depends on no way out of a condition
pub enter_same : (t : Tree) (at : ℕ) (x y : Exits) → x.next ≡ y.next → x.on_break ≡ y.on_break → x.on_continue ≡ y.on_continue → enter t at x ≡ enter t at y
enter_same t at x y p q r = target_same (entry_of t) at x y p q r

target_condition : (e : Entry) (n at : ℕ) (x y : Exits) → IsConditionEntry e n → x.on_break ≡ y.on_break → x.on_continue ≡ y.on_continue → target_of e at x ≡ target_of e at y
target_condition entry.First n at x y p q r = refl
target_condition entry.Next n at x y p q r = absurd p
target_condition entry.Break n at x y p q r = q
target_condition entry.Continue n at x y p q r = r

-- .. and for a condition on no way past its end
pub enter_condition : (t : Tree) (at : ℕ) (x y : Exits) → IsTrue (is_condition t) → x.on_break ≡ y.on_break → x.on_continue ≡ y.on_continue → enter t at x ≡ enter t at y
enter_condition t at x y h q r = target_condition (entry_of t) (size t) at x y (condition_entry t h) q r
