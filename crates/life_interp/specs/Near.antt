-- Characters whose end can be numbered.
use Rattle.std.specs.Prelude.{◌≤◌, ◌+◌, ◌^◌, Option, Some, None}
use Rattle.life_pointers.specs.declared.pointer.Characters.{Characters}
use Rattle.life_pointers.specs.declared.pointer.Pointer.{Pointer}
use Rattle.life_pointers.specs.declared.pointer.Pointer.TheVariants as leads

-- an iterator stands at one position, which its end has, too
abbrev pub EndNear : Characters → Type 0
EndNear c = c.index + c.count + 1 ≤ 2 ^ 63

abbrev pub IsNear : Pointer → Type 0
IsNear leads.Null = Unit {0}
IsNear leads.Wild = Unit {0}
IsNear (leads.To index count word object moment) = Unit {0}
IsNear (leads.Static c) = EndNear c

abbrev pub IsNearIf : Option Pointer → Type 0
IsNearIf None = Unit {0}
IsNearIf (Some p) = IsNear p
