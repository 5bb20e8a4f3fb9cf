-- One change of a vector or a string, as the machine has it.
use Rattle.std.specs.Prelude.{◌≡◌, [], ◌∷◌}
use Rattle.life_types.specs.Types.{Types}
use Rattle.life_types.specs.declared.ty.TyId.{TyId}
use Rattle.life_store.specs.Content.{Content}
use Rattle.life_store.specs.Edits as meaning
use Rattle.life_store.specs.Edits.{buffer_of, edited}
use Rattle.life_store.specs.Effects.{Setting, Attempt, then_get}
use Rattle.life_store.specs.Parts.{Parts, Single, Vector, parts_at}
use Rattle.life_store.specs.Places.{Spot}
use Rattle.life_changes.specs.declared.edit.Edit.{Edit}
use Rattle.life_changes.specs.declared.edit.Edit.TheVariants as edit

-- .. and as the meaning has it
abbrev pub edit_of : Edit → meaning.Edit
edit_of (edit.Push number) = meaning.Push (λ c. (number ∷ [], c))
edit_of edit.Pop = meaning.Pop
edit_of edit.Clear = meaning.Clear
edit_of (edit.Reserve count) = meaning.Reserve count
edit_of (edit.Put words) = meaning.Put words.now
edit_of (edit.Add words) = meaning.Add words.now

-- the owner's buffer is found first
abbrev pub edited_at : Setting → Parts → Spot → meaning.Edit → Content → Attempt Content
edited_at s parts spot edit c = then_get (buffer_of c spot) (λ b. edited s parts spot b edit c)

-- a number is pushed where elements are numbers
abbrev pub IsFor : Types → TyId → Edit → Type 0
IsFor types ty (edit.Push number) = (id : TyId) (element : Parts) → parts_at types ty ≡ Vector id element → element ≡ Single
IsFor types ty _ = Unit {0}
