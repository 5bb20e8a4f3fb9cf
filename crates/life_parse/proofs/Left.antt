-- What is left is no more than what its first part leaves.
use Rattle.std.proofs.Common.{◌≡◌, ℕ, ◌≤◌, Bool, true, false, cond, length, Ok, Err, le_refl, le_trans}
use Rattle.life_expr.specs.Read.{refused, deep, ◌>>=◌, Read, reads}
use Rattle.life_expr.specs.Readers.{Readers, derived}
use Rattle.life_parse.proofs.Looks.{Answer, rest_of, Looks}
use Rattle.life_parse.proofs.LooksOn.{both, turned, keeps}
use Rattle.life_parse.proofs.LooksForms.{Laws, is_plain, reads_law}
use Rattle.life_tree.specs.Grammar.{Form, form_of, ◌then◌}
use Rattle.life_tree.specs.Rules.{Rule}
use Rattle.life_tree.specs.Tree.{Tree, node, ◌⨾◌, Tokens}

abbrev pub left : {A : Type 0} → Answer A → ℕ
left r = length (rest_of r)

pub bind_left : {A B : Type 0} (r : Answer A) (f : A × Tokens → Answer B) → ((x : A × Tokens) → left (f x) ≤ length x.1) → left (r >>= f) ≤ left r
bind_left (Ok x) f h = h x
bind_left (Err (refused us)) f h = le_refl (length us)
bind_left (Err (deep us)) f h = le_refl (length us)

pub made_left : {A B : Type 0} (f : A → B) (r : Answer A) → left (r >>= turned f) ≤ left r
made_left f r = bind_left r (turned f) (λ x. le_refl (length x.1))

pub both_left : {A B C : Type 0} (p : Tokens → Answer A) (q : A → Tokens → Answer B) (f : A → B → C) → ((x : A) → Looks (q x)) → (ts : Tokens) → left (both p q f ts) ≤ left (p ts)
both_left p q f h ts = bind_left (p ts) _ (λ x. le_trans (made_left (f x.0) (q x.0 x.1)) (keeps (q x.0) (h x.0) x.1))

pub cond_left : {A : Type 0} (b : Bool) (p q : Answer A) (n : ℕ) → left p ≤ n → left q ≤ n → left (cond b p q) ≤ n
cond_left true p q n g h = g
cond_left false p q n g h = h

pub node_left : (r : Rule) (a : Read) → left (a >>= turned (node r)) ≤ left a
node_left r a = made_left (node r) a

-- behind a part that was read
pub part_left : (x : Tree) (a : Read) → left (a >>= turned (λ y. x ⨾ y)) ≤ left a
part_left x a = made_left (λ y. x ⨾ y) a

pub derived_left : (n : ℕ) (inside same : Readers) (r : Rule) (ts : Tokens) → left (derived n inside same r ts) ≤ left (reads n inside same (form_of r) ts)
derived_left n inside same r ts = made_left (node r) (reads n inside same (form_of r) ts)

module _ (n : ℕ) (inside same : Readers) (i : Laws inside) (s : Laws same) where
  pub then_left : (f g : Form) → is_plain g ≡ true → (ts : Tokens) → left (reads n inside same (f then g) ts) ≤ left (reads n inside same f ts)
  then_left f g h ts = both_left (reads n inside same f) (λ x. reads n inside same g) _ (λ x. (reads_law n inside same i s g h).looks) ts
