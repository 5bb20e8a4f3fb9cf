-- From the reader of a rule's form to that of the rule.
use Rattle.std.proofs.Common.{◌≡◌, ℕ, ◌<◌, ◌≤◌, true, ◌++◌, length, Ok, refl, subst}
use Rattle.life_expr.specs.Read.{Reader, made, reads}
use Rattle.life_expr.specs.Readers.{Readers, derived}
use Rattle.life_parse.specs.Tails.{tails, tails_of}
use Rattle.life_parse.proofs.Binds.{bind_ok, ok_is}
use Rattle.life_parse.proofs.GoodBelow.{Found, Sound, GoodBelow, below, all_below}
use Rattle.life_parse.proofs.GoodReads.{checked, Each, AllBelow, InsideGood, good_reads}
use Rattle.life_parse.proofs.Laws.{Good, IsTree, Stops}
use Rattle.life_parse.proofs.Parts.{rule_parts}
use Rattle.life_parse.proofs.TokenKinds.{covers, covers_not}
use Rattle.life_tree.specs.Grammar.{Form, ◌then◌, ◌or◌, many, rule, form_of}
use Rattle.life_tree.specs.Rules as rules
use Rattle.life_tree.specs.Rules.{Rule}
use Rattle.life_tree.specs.Tree.{Tree, node, tokens_of, depth, Tokens}

pub tails_rule : (r : Rule) → covers (tails (form_of r)) (tails_of r) ≡ true
tails_rule rules.program = refl
tails_rule _ = refl

pub good_made : (limit n : ℕ) (p : Reader) (r : Rule) → GoodBelow limit p (form_of r) n → GoodBelow limit (made (node r) p) (rule r) n
good_made limit n p r g = record { sound = sound; again = λ t rest l i d s. let o = rule_parts t r i.conforms in again t rest o.0 o.1 l i d s }
  where
    sound : Sound (made (node r) p) (rule r) n
    sound ts t rest e =
        let a = bind_ok (p ts) (λ x. Ok (node r x.0, x.1)) (t, rest) e in
        let x = g.sound ts a.0.0 a.0.1 a.1 in
        subst (λ (y : Tree × Tokens). Found (rule r) n ts y.0 y.1) (ok_is (node r a.0.0, a.0.1) (t, rest) a.2)
        (x.0, record { conforms = (refl, x.1.conforms); elses = x.1.elses }, x.2, x.3)

    at : (u : Tree) (rest : Tokens) → length (tokens_of u ++ rest) < limit → IsTree (node r u) (rule r) → depth u ≤ n → Stops (node r u) (rule r) rest → made (node r) p (tokens_of u ++ rest) ≡ Ok (node r u, rest)
    at u rest l i d s =
        let read = g.again u rest l (record { conforms = i.conforms.1; elses = i.elses }) d (record { tails = covers_not (tails (form_of r)) (tails_of r) rest (tails_rule r) s.tails; elses = s.elses }) in
        rw read refl

    again : (t : Tree) (rest : Tokens) (u : Tree) → t ≡ node r u → length (tokens_of t ++ rest) < limit → IsTree t (rule r) → depth t ≤ n → Stops t (rule r) rest → made (node r) p (tokens_of t ++ rest) ≡ Ok (t, rest)
    again t rest u e = rw e (at u rest)

-- ---- with the readers of the rules that stand in it

abbrev pub AllGood : Readers → ℕ → Rule → Type 0
AllGood same n r = Good (same r) (rule r) n

pub each_below : (limit n : ℕ) (same : Readers) (f : Form) → Each (AllGood same n) f → Each (AllBelow limit same n) f
each_below limit n same (f then g) e = (each_below limit n same f e.0, each_below limit n same g e.1)
each_below limit n same (f or g) e = (each_below limit n same f e.0, each_below limit n same g e.1)
each_below limit n same (many f) e = each_below limit n same f e
each_below limit n same (rule r) e = below (same r) (rule r) n e limit
each_below limit n same _ e = tt

pub good_derived : (n : ℕ) (inside same : Readers) (r : Rule) → checked (form_of r) ≡ true → InsideGood n inside → Each (AllGood same n) (form_of r) → Good (derived n inside same r) (rule r) n
good_derived n inside same r c i e = all_below (derived n inside same r) (rule r) n
    (λ limit. good_made limit n (λ ts. reads n inside same (form_of r) ts) r (good_reads (form_of r) limit n inside same c i (each_below limit n same (form_of r) e)))
