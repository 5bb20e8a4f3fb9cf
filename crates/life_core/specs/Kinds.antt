-- What lies in memory, and what in a register.
use Rattle.std.specs.Prelude.{ℕ, Bool, true, false, Option, Some, None, slice_get}
use Rattle.life_core.specs.declared.program.Local.{Local}
use Rattle.life_core.specs.declared.program.LocalKind.{LocalKind}
use Rattle.life_core.specs.declared.program.LocalKind.TheVariants.{Object, Register, Range}
use Rattle.life_core.specs.Function.{Function}

abbrev pub is_object : LocalKind → Bool
is_object Object = true
is_object Register = false
is_object Range = false

abbrev pub is_register : LocalKind → Bool
is_register Register = true
is_register _ = false

-- a local, where there is one
abbrev pub has_kind : (LocalKind → Bool) → Option Local → Bool
has_kind test None = false
has_kind test (Some l) = test l.kind

abbrev pub is_object_at : Function → ℕ → Bool
is_object_at f x = has_kind is_object (slice_get f.locals x)

abbrev pub is_register_at : Function → ℕ → Bool
is_register_at f x = has_kind is_register (slice_get f.locals x)
