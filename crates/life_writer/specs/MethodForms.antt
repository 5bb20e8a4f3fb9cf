-- Calls of member functions: the object's place, the operands, and what the member does (ISO/IEC 14882:2017 [vector], [basic.string], [string.view], [unique.ptr]).
use Rattle.std.specs.Prelude.{ℕ, List, [], ◌∷◌, Option, Some, None}
use Rattle.life_types.specs.declared.place.Place.{Place}
use Rattle.life_types.specs.declared.ty.Ty.{Ty}
use Rattle.life_types.specs.declared.ty.Ty.TheVariants as ty
use Rattle.life_typed.specs.Delimiters.{DelimitersForm, behind_first, behind_others}
use Rattle.life_typed.specs.Members.{element_type}
use Rattle.life_typed.specs.declared.typed_expr.Category.{Category}
use Rattle.life_typed.specs.declared.typed_expr.ExprType.{ExprType}
use Rattle.life_typed.specs.declared.typed_expr.Method.{Method}
use Rattle.life_typed.specs.declared.typed_expr.Method.TheVariants as method
use Rattle.life_core.specs.Operands.{Get, Null}
use Rattle.life_core.specs.Step.{Change, Changes, Clear, Cursor, Cut, Erase, Make, PopBack, PushBack, Reserve, Size}
use Rattle.life_core.specs.declared.instr.Made.TheVariants as made
use Rattle.life_core.specs.declared.operand.RangeEnd.{RangeEnd}
use Rattle.life_core.specs.declared.operand.RangeEnd.TheVariants as range_end
use Rattle.life_core.specs.declared.operand.Which.{Which}
use Rattle.life_core.specs.declared.operand.Which.TheVariants as which
use Rattle.life_core.specs.declared.operation.Operation.TheVariants as operation
use Rattle.life_writer.specs.Around.{Around}
use Rattle.life_writer.specs.Bases.{base, element}
use Rattle.life_writer.specs.Giving.{given_over}
use Rattle.life_writer.specs.Pointers.{Pointing, By, aimed}
use Rattle.life_writer.specs.Registers.{computed, eval}
use Rattle.life_writer.specs.Uses.{Uses, own, unused}
use Rattle.life_writer.specs.Using.{location_in, operand, pointer, value}
use Rattle.life_writer.specs.Writing.{State, Gives, gives, ◌>>◌, emit, mapped}

-- ---- how many elements there are

abbrev pub sized : Uses → Place → Option ℕ → State → Gives ℕ
sized e place into s = base e s >> λ b s. computed into ty.Size place (λ r. Size r b) s

-- whether there are none
abbrev pub emptied : Uses → Place → Option ℕ → State → Gives ℕ
emptied e place into s = sized e place None s >> λ n s. computed into ty.Bool place (eval (operation.IsZero n)) s

-- ---- what is pointed to

abbrev pub cursor : Uses → RangeEnd → State → Gives Pointing
cursor e end s = mapped (λ b. By (λ p. Cursor p b end)) (base e s)

-- what a unique_ptr owns
abbrev pub got : Uses → State → Gives Pointing
got e s = mapped (λ o. aimed (Get (location_in o))) (operand e s)

-- without the element at an iterator
abbrev pub erased : Uses → List Uses → State → Gives Pointing
erased e [] s = gives (aimed Null) s
erased e (at ∷ more) s = operand e s >> λ o s. mapped (λ l. By (λ p. Changes o (Erase l p))) (pointer at (own at) s)

-- from an index on, and so many, if it is said
abbrev pub size_if : Option Uses → (behind : Place) → State → Gives (Option ℕ)
size_if None behind s = gives None s
size_if (Some n) behind s = mapped Some (value n behind ty.Size None s)

abbrev pub count_if : List Uses → DelimitersForm → State → Gives (Option ℕ)
count_if [] d s = size_if None (behind_first d) s
count_if (n ∷ more) d s = size_if (Some n) (behind_first d) s

abbrev pub cut : Uses → List Uses → DelimitersForm → State → Gives Pointing
cut e [] d s = gives (aimed Null) s
cut e (i ∷ more) d s =
    pointer e (own e) s >> λ l s. value i (behind_first d) ty.Size None s >> λ i s.
    mapped (λ n. By (λ p. Cut p l i n)) (count_if more (behind_others d) s)

-- ---- what changes its object

abbrev pub changed : Uses → Place → Change → State → State
changed e place change s = operand e s >> λ o s. emit place (Changes o change) s

abbrev pub pushed_back : Uses → (element : Ty) → List Uses → DelimitersForm → Place → State → State
pushed_back e t [] d place s = s
pushed_back e t (x ∷ more) d place s =
    operand e s >> λ o s. given_over x t (behind_first d) s >> λ n s. emit place (Changes o (PushBack n)) s

abbrev pub reserved : Uses → List Uses → DelimitersForm → Place → State → State
reserved e [] d place s = s
reserved e (n ∷ more) d place s = operand e s >> λ o s. value n (behind_first d) ty.Size None s >> λ n s. emit place (Changes o (Reserve n)) s

abbrev pub reset : Uses → Place → State → State
reset e place s = operand e s >> λ o s. emit place (Make (location_in o) made.Null) s

-- ---- by the member

-- an element at an end of a vector
abbrev pub end_uses : Uses → Which → Place → ExprType → Category → Uses
end_uses e which place t c = record (unused place t c) { at = λ s. base e s >> λ b s. element place c b which s }

abbrev pub pointing_uses : (State → Gives Pointing) → Place → ExprType → Category → Uses
pointing_uses p place t c = record (unused place t c) { pointing = p }

abbrev pub alone_uses : (State → State) → Place → ExprType → Category → Uses
alone_uses does place t c = record (unused place t c) { alone = does }

abbrev pub method_uses : Around → Uses → Method → List Uses → DelimitersForm → Place → ExprType → Category → Uses
method_uses a e method.Size es d place t c = record (unused place t c) { made = λ behind into s. sized e place into s }
method_uses a e method.Empty es d place t c = record (unused place t c) { made = λ behind into s. emptied e place into s }
method_uses a e method.Front es d place t c = end_uses e which.First place t c
method_uses a e method.Back es d place t c = end_uses e which.Last place t c
method_uses a e method.Begin es d place t c = pointing_uses (cursor e range_end.Begin) place t c
method_uses a e method.End es d place t c = pointing_uses (cursor e range_end.End) place t c
method_uses a e method.PushBack es d place t c = alone_uses (pushed_back e (element_type a.program.types (own e)) es d place) place t c
method_uses a e method.PopBack es d place t c = alone_uses (changed e place PopBack) place t c
method_uses a e method.Clear es d place t c = alone_uses (changed e place Clear) place t c
method_uses a e method.Reserve es d place t c = alone_uses (reserved e es d place) place t c
method_uses a e method.Erase es d place t c = pointing_uses (erased e es) place t c
method_uses a e method.Get es d place t c = pointing_uses (got e) place t c
method_uses a e method.Reset es d place t c = alone_uses (reset e place) place t c
method_uses a e method.Subspan es d place t c = pointing_uses (cut e es d) place t c
method_uses a e method.Substr es d place t c = pointing_uses (cut e es d) place t c
