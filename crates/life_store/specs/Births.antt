-- How locals come to life and end.
use Rattle.std.specs.Prelude.{ℕ, ◌+◌, ◌*◌, cond, nat_lt, List, [], ◌∷◌, Option, Some, None, slice_get}
use Rattle.life_types.specs.Types.{Types}
use Rattle.life_types.specs.declared.ty.TyId.{TyId}
use Rattle.life_core.specs.declared.instr.Form.{Form}
use Rattle.life_core.specs.declared.program.Local.{Local}
use Rattle.life_core.specs.Function.{Function}
use Rattle.life_core.specs.Holdings.{Holding, Blank, AnObject, ANumber, APointer, AView, sort_of}
use Rattle.life_store.specs.Cells.{at}
use Rattle.life_store.specs.Content.{Object, Content, live_words_of, newborn, with_birth, with_resize, without}
use Rattle.life_store.specs.Effects.{Setting, Effect, Next, Traps, Strays, cell, put_cell, put_content, on_got, on_next}
use Rattle.life_store.specs.Held.{words_if}
use Rattle.life_store.specs.Owners.{born_pointer, empty_view, ended, fresh, object_with}
use Rattle.life_store.specs.Parts.{Parts, Single, Raw, Iterates, Views, Text, Vector, Unique, Member, NoMember, local_parts, parts_at}
use Rattle.life_store.specs.State.{Wild, Cell, Empty, Named, Number, Points, State}
use Rattle.life_store.specs.declared.run.TrapKind.TheVariants as trap

-- ---- births

-- an object of one word and one slot
abbrev pub with_value_object : TyId → Content → Content
with_value_object ty c = with_resize c.births 1 0 (newborn ty 1 1 c.clock) (with_birth ty 1 1 c)

abbrev pub born_object : Setting → TyId → ℕ → State → Effect
born_object s ty x st =
    cond (nat_lt s.given.cells (live_words_of st.world.content + (2 + 1 * 1)))
    (Traps trap.Cells)
    (Next (put_cell x (Named st.world.content.births) (put_content (with_value_object ty st.world.content) st)))

-- an owner or a struct: the local first, then the buffers of its parts
abbrev pub born_owner : Setting → TyId → Parts → Form → ℕ → State → Effect
born_owner s ty parts form x st = on_got (object_with s ty parts (fresh s form parts) st.world.content) (λ b. Next (put_cell x (Named b.0) (put_content b.1 st)))

abbrev pub live_of : Setting → TyId → Parts → Form → ℕ → State → Effect
live_of s ty Single form x st = Strays
live_of s ty Raw form x st = Strays
live_of s ty Iterates form x st = Next (put_cell x (Points Wild) st)
live_of s ty Views form x st = Next (put_cell x (Points empty_view) st)
live_of s ty (Text id) form x st = born_owner s ty (Text id) form x st
live_of s ty (Vector id element) form x st = born_owner s ty (Vector id element) form x st
live_of s ty (Unique id target) form x st = born_owner s ty (Unique id target) form x st
live_of s ty (Member first others) form x st = born_owner s ty (Member first others) form x st
live_of s ty NoMember form x st = Strays

abbrev pub live_as : Setting → Types → Holding → TyId → Form → ℕ → State → Effect
live_as s types Blank ty form x st = live_of s ty (parts_at types ty) form x st
live_as s types AnObject ty form x st = born_object s ty x st
live_as s types ANumber ty form x st = Strays
live_as s types APointer ty form x st = Next (put_cell x (Points (born_pointer form)) st)
live_as s types AView ty form x st = Next (put_cell x (Points empty_view) st)

-- what is alive isn't born again
abbrev pub live_over : Setting → Types → Option Cell → Holding → TyId → Form → ℕ → State → Effect
live_over s types None sort ty form x st = Strays
live_over s types (Some Empty) sort ty form x st = live_as s types sort ty form x st
live_over s types (Some (Named n)) sort ty form x st = Strays
live_over s types (Some (Number z)) sort ty form x st = Strays
live_over s types (Some (Points p)) sort ty form x st = Strays

abbrev pub live_local : Setting → Types → Function → Option Local → Form → ℕ → State → Effect
live_local s types f None form x st = Strays
live_local s types f (Some l) form x st = live_over s types (cell st x) (sort_of types f x) l.ty form x st

-- ---- ends

-- an object ends with what it owns, and all beneath
abbrev pub end_object : Parts → Option Object → ℕ → ℕ → State → Effect
end_object parts None n x st = Strays
end_object parts (Some o) n x st = Next (put_cell x Empty (put_content (without n (ended parts (words_if (slice_get o.slots 0)) st.world.content)) st))

abbrev pub end_cell : Parts → Option Cell → ℕ → State → Effect
end_cell parts None x st = Strays
end_cell parts (Some Empty) x st = Strays
end_cell parts (Some (Named n)) x st = end_object parts (at st.world.content.objects n) n x st
end_cell parts (Some (Number z)) x st = Strays
end_cell parts (Some (Points p)) x st = Next (put_cell x Empty st)

abbrev pub end_locals : Types → Function → List ℕ → State → Effect
end_locals types f [] st = Next st
end_locals types f (x ∷ xs) st = on_next (end_cell (local_parts types f x) (cell st x) x st) (end_locals types f xs)
