-- What the words of a value own, and an object without that.
use Rattle.std.specs.Prelude.{ℕ, ◌+◌, List, [], ◌∷◌, ◌++◌}
use Rattle.life_store.specs.Content.{Object, with_word, word_at}
use Rattle.life_store.specs.Held.{owned_in}
use Rattle.life_forest.specs.Values.{listed}

abbrev pub held : (slot word : ℕ) → List ℕ → Object → List ℕ
held i w [] o = []
held i w (u ∷ us) o = listed (owned_in (word_at o i (w + u))) ++ held i w us (with_word i (w + u) 0 o)

-- these words own nothing
abbrev pub zeroed : (slot word : ℕ) → List ℕ → Object → Object
zeroed i w [] o = o
zeroed i w (u ∷ us) o = zeroed i w us (with_word i (w + u) 0 o)
