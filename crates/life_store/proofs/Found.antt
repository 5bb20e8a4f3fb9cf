-- A position of an object that lives is found.
use Rattle.std.proofs.Common.{◌≡◌, ℕ, ◌<◌, length, Some, ap, ◌∙◌}
use Rattle.std.proofs.lemmas.Bool.{lt-ltb}
use Rattle.life_store.specs.Cells.{at}
use Rattle.life_store.specs.Content.{Object, Content}
use Rattle.life_store.specs.Doing.{Here, here_if, found_in, found_at}

pub found_here : (c : Content) (n i : ℕ) (o : Object) → at c.objects n ≡ Some o → i < length o.slots → found_at c n i ≡ Here n i o
found_here c n i o there within = ap (λ x. found_in x n i) there ∙ ap (λ b. here_if b n i o) (lt-ltb i (length o.slots) within)
