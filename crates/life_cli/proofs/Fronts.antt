-- Fronts of the answer's text on out.
use Rattle.std.proofs.Common.{List, ℕ, Option, None, Some, IfSome, length, sym, subst, arith}
use Rattle.std.proofs.lemmas.List.{take_all}
use Rattle.std.proofs.KnownBytes.{Appends-nil}
use Rattle.std.specs.Io.KnownBytes.{Appends}
use Rattle.life_base.specs.Edges.{AppendsFront}
use Rattle.life_cli.specs.Ends.{GainsFront}
use Rattle.life_cli.specs.Question.{Question}

-- a whole text is a front of it
pub whole_front : (a b : Option (List ℕ)) (text : List ℕ) → Appends a b text → AppendsFront a b text
whole_front a b text h = (length text, subst (Appends a b) (sym (take_all (length text) text (omega arith))) h)

-- what is known of every value is known of the one that is there
pub known_of : {X : Type 0} (o : Option X) {P : X → Type 0} → ((x : X) → P x) → IfSome o P
known_of None p = tt
known_of (Some x) p = p x

-- nothing was written
pub gains_nothing : (asked : Option Question) (a : Option (List ℕ)) → GainsFront asked a a
gains_nothing asked a = record { gained = known_of asked (λ question answer is. (0, Appends-nil a)) }
