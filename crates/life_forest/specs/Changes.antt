-- The changes of which all others are made, and lists of objects that are taken out.
use Rattle.std.specs.Prelude.{ℕ, ◌+◌, List, [], ◌∷◌}
use Rattle.life_store.specs.Cells.{set}
use Rattle.life_store.specs.Content.{Object, Content, without}

-- an object has the next number
abbrev pub with_born : Object → Content → Content
with_born o c = record { objects = set c.objects c.births o; births = c.births + 1; clock = c.clock }

abbrev pub ticked : Content → Content
ticked c = record c { clock = c.clock + 1 }

abbrev pub without_all : List ℕ → Content → Content
without_all [] c = c
without_all (n ∷ ns) c = without_all ns (without n c)
