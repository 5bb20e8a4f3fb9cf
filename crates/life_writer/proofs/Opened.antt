-- Parts that were opened.
use Rattle.std.proofs.Common.{◌≡◌, ℕ, Bool, true, false, Option, None, Some, Result, sym, ap, ◌∙◌}
use Rattle.std.specs.Prelude.{if◌then◌else◌}
use Rattle.life_types.specs.contracts.ty.TyPartialEq.TheImpl.{ghosts as compared}
use Rattle.life_types.specs.declared.memory.NoMemory.{NoMemory}
use Rattle.life_types.specs.declared.place.Place.{Place}
use Rattle.life_types.specs.declared.ty.Ty.{Ty}
use Rattle.life_typed.specs.TypedForm.{Typed, whole}
use Rattle.life_writer.specs.Answers.{Answers}
use Rattle.life_writer.specs.Around.{Around, own_type}
use Rattle.life_writer.specs.ExpressionForms.{uses}
use Rattle.life_writer.specs.PartUses.{node_uses, part_uses}
use Rattle.life_writer.specs.Parts.{node_view, part_view}
use Rattle.life_writer.specs.Registers.{computed, conversion}
use Rattle.life_writer.specs.Uses.{own}
use Rattle.life_writer.specs.Using.{own_value, value}
use Rattle.life_writer.specs.Writing.{State, Gives, gives}
use Rattle.life_writer.specs.declared.parts.Node.{Node}
use Rattle.life_writer.specs.declared.parts.Part.{Part}
use Rattle.life_writer.proofs.Giving.{answers_as}

-- an operand is what it is made of
pub opened_uses : (a : Around) (operand : Option Part) (p : Part) (n : Node) → operand ≡ Some p → node_view n ≡ part_view p → part_uses a operand ≡ node_uses a n
opened_uses a operand p n is node = ap (part_uses a) is ∙ ap (λ (t : Typed). uses a (whole t)) (sym node)

-- ---- a value as one of a type

-- the type and the place of an operand that is there
own_there : (a : Around) (operand : Option Part) (p : Part) (t : Ty) → operand ≡ Some p → t ≡ own_type p.ty → own (part_uses a operand) ≡ t
own_there a operand p t is own_is = ap (λ (o : Option Part). own (part_uses a o)) is ∙ sym own_is

place_there : (a : Around) (operand : Option Part) (p : Part) → operand ≡ Some p → (part_uses a operand).place ≡ p.place
place_there a operand p is = ap (λ (o : Option Part). (part_uses a o).place) is

chosen : (b c : Bool) (x y : Gives ℕ) → b ≡ c → (if b then x else y) ≡ (if c then x else y)
chosen b c x y same = ap (λ (d : Bool). if d then x else y) same

-- .. which is its own
pub value_same : (a : Around) (operand : Option Part) (p : Part) (behind : Place) (t to : Ty) (into : Option ℕ) (s now : State) (r : Result ℕ NoMemory)
    → operand ≡ Some p → t ≡ own_type p.ty → compared.eq t to ≡ true → Answers (λ n. n) r (own_value (part_uses a operand) behind into s) now
    → Answers (λ n. n) r (value (part_uses a operand) behind to into s) now
value_same a operand p behind t to into s now r is own_is same given =
    let e = part_uses a operand in
    answers_as (λ n. n) r _ _ now
    (chosen (compared.eq (own e) to) true (own_value e behind into s) (computed into to e.place (conversion (own_value e behind None s).given) (own_value e behind None s).state)
    (ap (λ (u : Ty). compared.eq u to) (own_there a operand p t is own_is) ∙ same))
    given

-- .. or another
pub value_converted : (a : Around) (operand : Option Part) (p : Part) (behind : Place) (t to : Ty) (into : Option ℕ) (s s1 now : State) (x : ℕ) (r : Result ℕ NoMemory)
    → operand ≡ Some p → t ≡ own_type p.ty → compared.eq t to ≡ false → own_value (part_uses a operand) behind None s ≡ gives x s1
    → Answers (λ n. n) r (computed into to p.place (conversion x) s1) now → Answers (λ n. n) r (value (part_uses a operand) behind to into s) now
value_converted a operand p behind t to into s s1 now x r is own_is other first given =
    let e = part_uses a operand in
    answers_as (λ n. n) r _ _ now
    (chosen (compared.eq (own e) to) false (own_value e behind into s) (computed into to e.place (conversion (own_value e behind None s).given) (own_value e behind None s).state)
    (ap (λ (u : Ty). compared.eq u to) (own_there a operand p t is own_is) ∙ other)
    ∙ ap (λ (w : Gives ℕ). computed into to e.place (conversion w.given) w.state) first
    ∙ ap (λ (place : Place). computed into to place (conversion x) s1) (place_there a operand p is))
    given
