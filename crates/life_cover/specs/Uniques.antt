-- What the facts say of the unique_ptrs of a frame, its locals and members of them: whether they have something.
use Rattle.std.specs.Prelude.{◌≡◌, ℕ, true, Option, Some, slice_get}
use Rattle.life_types.specs.TypeTests.{is_unique}
use Rattle.life_types.specs.Types.{Types}
use Rattle.life_contract.specs.Located.{located}
use Rattle.life_core.specs.Function.{Function}
use Rattle.life_core.specs.Operands.{Location}
use Rattle.life_proper.specs.Placed.{type_in}
use Rattle.life_pset.specs.declared.element.Fact.{Fact}
use Rattle.life_store.specs.Content.{Content}
use Rattle.life_store.specs.Edits.{owned_at}
use Rattle.life_store.specs.Parts.{local_type, word_within}
use Rattle.life_store.specs.State.{Named, State}
use Rattle.life_cover.specs.Covers.{IsOwnerTold}

-- what an owner has that begins at a word of an object
abbrev pub had_at : Content → (object word : ℕ) → Option ℕ
had_at c n w = owned_at c (record { object = n; index = 0; word = w })

-- where a location begins in its local's object
abbrev pub word_in : Types → Function → Location → ℕ
word_in types f l = word_within types (local_type types f l.local) l.members

-- own covers what has something, null and moved what has nothing
abbrev pub UniquesTold : Types → Function → (S : Fact → Type 0) → State → Type 0
UniquesTold types f S st =
    (l : Location) (n : ℕ) → slice_get st.cells l.local ≡ Some (Named n) → is_unique (type_in types f l) ≡ true → IsOwnerTold S (located l) true (had_at st.world.content n (word_in types f l))
