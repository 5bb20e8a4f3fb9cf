-- Good readers of a form and then of one that its tree decides on, at the end of assignments, steps and calls.
use Rattle.std.proofs.Common.{◌≡◌, ℕ, ◌<◌, ◌≤◌, true, ◌++◌, length, Ok, arith}
use Rattle.life_expr.specs.Heads.{heads}
use Rattle.life_expr.specs.Read.{Reader, pair}
use Rattle.life_parse.specs.Tails.{tails, simple_tails}
use Rattle.life_parse.proofs.Elses.{second_closed}
use Rattle.life_parse.proofs.FirstTokens.{sane}
use Rattle.life_parse.proofs.GoodBelow.{GoodBelow}
use Rattle.life_parse.proofs.GoodParts.{sound_pair, again_pair, stops_first, shorter, shorter_rest}
use Rattle.life_parse.proofs.Laws.{IsTree, Stops}
use Rattle.life_parse.proofs.Parts.{decides_parts}
use Rattle.life_parse.proofs.TokenKinds.{disjoint, covers, covers_not}
use Rattle.life_tree.specs.Grammar.{Form, ◌decides◌}
use Rattle.life_tree.specs.Tree.{Tree, ◌⨾◌, tokens_of, depth, Tokens}

-- what is asked of the forms that may come second
pub record Second (f g : Form) : Type 0 where
  pub is_sane : sane g ≡ true
  pub apart : disjoint (heads g) (tails f) ≡ true
  pub tails : covers (tails g) simple_tails ≡ true

pub good_decides : (limit n : ℕ) (p : Reader) (q : Tree → Reader) (f : Form) (g : Tree → Form) → covers (tails f) simple_tails ≡ true → ((a : Tree) → Second f (g a))
    → GoodBelow limit p f n → ((a : Tree) → GoodBelow limit (q a) (g a) n) → GoodBelow limit (pair p q) (f decides g) n
good_decides limit n p q f g ends second x y = record {
  sound = sound_pair p q f g (f decides g) n (λ a b u v. (u, v)) x.sound (λ a. (y a).sound);
  again = again;
}
  where
    at : (a b : Tree) (rest : Tokens) → length (tokens_of (a ⨾ b) ++ rest) < limit → IsTree (a ⨾ b) (f decides g) → depth (a ⨾ b) ≤ n → Stops (a ⨾ b) (f decides g) rest → pair p q (tokens_of (a ⨾ b) ++ rest) ≡ Ok (a ⨾ b, rest)
    at a b rest l i k stops =
        again_pair p q a b rest
        (x.again a (tokens_of b ++ rest) (shorter a b rest limit l) (record { conforms = i.conforms.0; elses = i.elses.0 }) (omega (arith, k))
        (stops_first f (g a) (f decides g) a b rest (second a).is_sane (second a).apart (λ m. covers_not (tails f) simple_tails rest ends stops.tails) i.elses i.conforms.1 stops))
        ((y a).again b rest (shorter_rest a b rest limit l) (record { conforms = i.conforms.1; elses = i.elses.1 }) (omega (arith, k))
        (record { tails = covers_not (tails (g a)) simple_tails rest (second a).tails stops.tails; elses = second_closed a b rest stops.elses }))

    again : (t : Tree) (rest : Tokens) → length (tokens_of t ++ rest) < limit → IsTree t (f decides g) → depth t ≤ n → Stops t (f decides g) rest → pair p q (tokens_of t ++ rest) ≡ Ok (t, rest)
    again t rest l i k stops =
        let m = decides_parts t f g i.conforms in
        go t m.0 m.1 m.2 l i k stops
      where
        go : (t a b : Tree) → t ≡ a ⨾ b → length (tokens_of t ++ rest) < limit → IsTree t (f decides g) → depth t ≤ n → Stops t (f decides g) rest → pair p q (tokens_of t ++ rest) ≡ Ok (t, rest)
        go t a b e = rw e (at a b rest)
