-- Assignments and steps, part by part.
use Rattle.std.proofs.Common.{◌≡◌, ℕ, Option, None, Some, length, sym, ap, ◌∙◌}
use Rattle.std.specs.Prelude.{pos}
use Rattle.life_types.specs.declared.place.Place.{Place}
use Rattle.life_types.specs.Types.{class}
use Rattle.life_types.specs.declared.ty.Class.{Class}
use Rattle.life_types.specs.declared.ty.Class.TheVariants as classes
use Rattle.life_types.specs.declared.ty.Ty.{Ty}
use Rattle.life_tree.specs.declared.operator.StepOperator.{StepOperator}
use Rattle.life_typed.specs.Operators.{promoted}
use Rattle.life_typed.specs.TypedForm.{Typed, typed_view, whole}
use Rattle.life_typed.specs.declared.typed_expr.TypedExpr.{TypedExpr, out-TypedExpr}
use Rattle.life_core.specs.Operands.{Operand}
use Rattle.life_core.specs.declared.instr.Form.TheVariants.{Plain}
use Rattle.life_core.specs.declared.operation.Operation.TheVariants as operation
use Rattle.life_core.specs.declared.operation.Operator.{Operator}
use Rattle.life_writer.proofs.Seen.{type_seen}
use Rattle.life_writer.specs.Around.{Around, own_type, result_local, type_of}
use Rattle.life_writer.specs.Assigning.{moved}
use Rattle.life_writer.specs.Building.{Destination}
use Rattle.life_writer.specs.ExpressionForms.{uses}
use Rattle.life_writer.specs.Giving.{initial}
use Rattle.life_writer.specs.Initialising.{initialised_by}
use Rattle.life_writer.specs.Registers.{computed, constant}
use Rattle.life_writer.specs.Temporaries.{temporary}
use Rattle.life_writer.specs.Uses.{Uses, lived, own}
use Rattle.life_writer.specs.Using.{operand, value}
use Rattle.life_writer.specs.Variables.{end_pending, full}
use Rattle.life_writer.specs.Writing.{State, Gives, gives, ◌>>◌}
use Rattle.life_elab.specs.SimpleForms.{stepped}
use Rattle.life_elab.specs.Simples.{held, put_back, step_operator, type_in}
use Rattle.life_elab.specs.StatementForms.{given_back, moved_out, object_named, result, result_by}

pub followed : {y z : State} (x : State) → y ≡ z → x ≡ y → x ≡ z
followed x e is = is ∙ e

pub stepped_gives : (a : Around) (target : Typed) (operator : StepOperator) (place : Place) (t common : Ty) (s reached took made after : State) (at from : Operand) (l r : ℕ) (by : Operator)
    → common ≡ t → operand (uses a (whole target)) s ≡ gives at reached → from ≡ at → held target from common reached ≡ gives l took → computed None common place (constant (pos 1)) took ≡ gives r made
    → by ≡ step_operator operator → after ≡ put_back target at common place (operation.Binary by l r) made → after ≡ stepped a target operator place t s
stepped_gives a target operator place t common s reached took made after at from l r by types first copy second third operates last =
    let same : held target at common reached ≡ gives l took = ap (λ (o : Operand). held target o common reached) (sym copy) ∙ second in
    last
    ∙ ap (λ (o : Operator). put_back target at common place (operation.Binary o l r) made) operates
    ∙ sym (ap (λ (w : Gives ℕ). put_back target at common place (operation.Binary (step_operator operator) l w.given) w.state) third)
    ∙ sym (ap (λ (w : Gives ℕ). computed None common place (constant (pos 1)) w.state >> λ r s. put_back target at common place (operation.Binary (step_operator operator) w.given r) s) same)
    ∙ sym (ap (λ (w : Gives Operand). held target w.given common w.state >> λ l s. computed None common place (constant (pos 1)) s >> λ r s. put_back target w.given common place (operation.Binary (step_operator operator) l r) s) first)
    ∙ ap (λ (u : Ty). stepped a target operator place u s) types

pub same_common : (x : TypedExpr) (own common : Ty) → own ≡ own_type (out-TypedExpr x).ty → common ≡ promoted own own → common ≡ promoted (type_in (typed_view x)) (type_in (typed_view x))
same_common x own common is promotes =
    promotes ∙ ap (λ (t : Ty). promoted t t) (is ∙ ap own_type (sym (type_seen x)))

pub given_result : (a : Around) (e : Uses) (behind : Place) (t : Ty) (into r : ℕ) (s after : State) → into ≡ result_local a
    → value e behind t (Some into) s ≡ gives r after → after ≡ (value e behind t (Some (result_local a)) s).state
given_result a e behind t into r s after goes given =
    sym (ap (λ (n : ℕ). (value e behind t (Some n) s).state) (sym goes) ∙ ap (λ (w : Gives ℕ). w.state) given)

-- .. by the class of the result
pub value_result : (a : Around) (e : Typed) (keyword behind : Place) (t : Ty) (k : Class) (s : State) → t ≡ type_of a a.function.result → k ≡ class (Some t) → k ≡ classes.Value
    → (value (uses a (whole e)) behind t (Some (result_local a)) s).state ≡ given_back a e keyword behind s
value_result a e keyword behind t k s as_type of is =
    ap (λ (x : Class). result_by a x (uses a (whole e)) t keyword behind s) (sym is ∙ of)
    ∙ ap (λ (u : Ty). result_by a (class (Some u)) (uses a (whole e)) u keyword behind s) as_type

-- what is built into the result
pub object_result : (a : Around) (e : Typed) (keyword behind : Place) (t : Ty) (k known : Class) (s : State) → t ≡ type_of a a.function.result → k ≡ class (Some t) → k ≡ known
    → result_by a known (uses a (whole e)) t keyword behind s ≡ given_back a e keyword behind s
object_result a e keyword behind t k known s as_type of is =
    ap (λ (x : Class). result_by a x (uses a (whole e)) t keyword behind s) (sym is ∙ of)
    ∙ ap (λ (u : Ty). result_by a (class (Some u)) (uses a (whole e)) u keyword behind s) as_type

-- a full expression: what was made for it ends behind it
pub full_gives : (expression : State → State) (behind : Place) (s written after : State) (pending : ℕ) → pending ≡ length s.pending → written ≡ expression s → after ≡ end_pending pending behind written → after ≡ full behind expression s
full_gives expression behind s written after pending count first last =
    last ∙ ap (λ (n : ℕ). end_pending n behind written) count ∙ ap (end_pending (length s.pending) behind) first

-- .. and an owner is moved there out of what is named
module _ (a : Around) (e : Uses) (t : Ty) (keyword behind : Place) (s : State) where
  pub object_moved : (now : State) (x r : ℕ) (d : Destination) → object_named e.named s ≡ Some x → d ≡ result a keyword → lived Plain (moved x) d s ≡ gives r now → now ≡ result_by a classes.Owner e t keyword behind s
  object_moved now x r d there goes given =
      sym
      (ap (λ (o : Option ℕ). (moved_out classes.Owner o (initial a temporary e t behind) s >> λ rest s. rest (result a keyword) s).state) there
      ∙ ap (λ (y : Destination). (lived Plain (moved x) y s).state) (sym goes)
      ∙ ap (λ (w : Gives ℕ). w.state) given)

  pub object_kept : object_named e.named s ≡ None → (initialised_by a temporary e t behind (result a keyword) s).state ≡ result_by a classes.Owner e t keyword behind s
  object_kept none = sym (ap (λ (o : Option ℕ). (moved_out classes.Owner o (initial a temporary e t behind) s >> λ rest s. rest (result a keyword) s).state) none)
