-- What has elements, and its elements (ISO/IEC 14882:2017 [sequence.reqmts], [unique.ptr.single.observers]).
use Rattle.std.specs.Prelude.{None}
use Rattle.life_types.specs.declared.place.Place.{Place}
use Rattle.life_types.specs.declared.ty.Ty.{Ty}
use Rattle.life_types.specs.declared.ty.Ty.TheVariants as ty
use Rattle.life_typed.specs.declared.typed_expr.Category.{Category}
use Rattle.life_typed.specs.declared.typed_expr.Category.TheVariants as category
use Rattle.life_core.specs.Operands.{Base, Operand, Owner, Pointer, behind}
use Rattle.life_core.specs.Step.{Element}
use Rattle.life_core.specs.declared.operand.Which.{Which}
use Rattle.life_writer.specs.Building.{Fill, built}
use Rattle.life_writer.specs.Registers.{wanted}
use Rattle.life_writer.specs.Uses.{Uses, own}
use Rattle.life_writer.specs.Using.{operand, pointer}
use Rattle.life_writer.specs.Writing.{State, Gives, mapped}

-- a span and a view are pointers, and a vector, a string and a unique_ptr are owners at a place
abbrev pub base_by : Ty → Uses → State → Gives Base
base_by ty.View e s = mapped Pointer (pointer e (own e) s)
base_by (ty.Span target constant) e s = mapped Pointer (pointer e (own e) s)
base_by _ e s = mapped Owner (operand e s)

abbrev pub base : Uses → State → Gives Base
base e s = base_by (own e) e s

-- the reference to what stands at a place
abbrev pub reference_to : Category → Ty
reference_to category.Value = ty.Void
reference_to (category.Place id constant) = ty.Reference id constant

-- an element is reached through a register
abbrev pub element : Place → Category → Base → Which → State → Gives Operand
element place category from which s = mapped behind (built (Fill place (λ p. Element p from which)) (wanted place None (reference_to category)) s)
