-- Values that are made of others.
use Rattle.std.proofs.Common.{◌≡◌, ℕ, Bool, List, Option, None, Result, sym, ap, ◌∙◌}
use Rattle.std.specs.Prelude.{ℤ}
use Rattle.life_types.specs.declared.memory.NoMemory.{NoMemory}
use Rattle.life_types.specs.declared.place.Place.{Place}
use Rattle.life_types.specs.declared.ty.Ty.{Ty}
use Rattle.life_types.specs.declared.ty.TyId.{TyId}
use Rattle.life_typed.specs.Delimiters.{DelimitersForm}
use Rattle.life_typed.specs.TypedForm.{Form, binary, call, input, negate, number, paren, typed}
use Rattle.life_typed.specs.declared.typed_expr.BinaryOperator.{BinaryOperator}
use Rattle.life_typed.specs.declared.typed_expr.Category.{Category}
use Rattle.life_typed.specs.declared.typed_expr.Category.TheVariants as category
use Rattle.life_typed.specs.declared.typed_expr.ExprType.{ExprType}
use Rattle.life_core.specs.Operands.{Argument, Operand}
use Rattle.life_core.specs.Step.{Eval, Ports, Step, Takes}
use Rattle.life_core.specs.declared.operation.Operation.TheVariants as operation
use Rattle.life_core.specs.declared.operation.Operator.{Operator}
use Rattle.life_writer.specs.Answers.{Answers}
use Rattle.life_writer.specs.Around.{Around, own_type, parameter_types}
use Rattle.life_writer.specs.Building.{Fill, built}
use Rattle.life_writer.specs.Calls.{called}
use Rattle.life_writer.specs.Chains.{converted_in, operated_on, operated_with}
use Rattle.life_writer.specs.ExpressionForms.{all_uses, binary_uses, uses}
use Rattle.life_writer.specs.Giving.{arguments}
use Rattle.life_writer.specs.Registers.{computed, constant, load, target, wanted}
use Rattle.life_writer.specs.Rows.{row_between}
use Rattle.life_writer.specs.Uses.{Uses, own}
use Rattle.life_writer.specs.Using.{read_or_made, value}
use Rattle.life_writer.specs.Values.{long}
use Rattle.life_writer.specs.Values as values
use Rattle.life_writer.specs.Writing.{State, Gives, gives, ◌>>◌, emit}
use Rattle.life_writer.specs.declared.rows.Row.{Row}
use Rattle.life_writer.specs.declared.rows.Row.TheVariants as row
use Rattle.life_writer.proofs.Giving.{answers_as}

-- ---- what is read, and what is made

pub is_made : (e : Uses) (behind : Place) (into : Option ℕ) (s now : State) (r : Result ℕ NoMemory) → e.category ≡ category.Value
    → Answers (λ n. n) r (e.made behind into s) now → Answers (λ n. n) r (read_or_made e behind into s) now
is_made e behind into s now r is given =
    answers_as (λ n. n) r _ _ now (ap (λ (c : Category). values.read_or_made (own e) e.place c e.at (e.made behind) into s) is) given

pub is_read : (e : Uses) (behind : Place) (u : Ty) (ty : TyId) (constant : Bool) (into : Option ℕ) (s s1 now : State) (from : Operand) (r : Result ℕ NoMemory) → e.category ≡ category.Place ty constant → u ≡ own e
    → e.at s ≡ gives from s1 → Answers (λ n. n) r (computed into u e.place (load from) s1) now → Answers (λ n. n) r (read_or_made e behind into s) now
is_read e behind u ty constant into s s1 now from r is same at given =
    answers_as (λ n. n) r _ _ now
    (ap (λ (c : Category). values.read_or_made (own e) e.place c e.at (e.made behind) into s) is
    ∙ ap (λ (w : Gives Operand). computed into (own e) e.place (load w.given) w.state) at
    ∙ ap (λ (x : Ty). computed into x e.place (load from) s1) (sym same))
    given

-- ---- what is made, by its form

module _ (a : Around) (place : Place) (t : ExprType) (c : Category) (behind : Place) (into : Option ℕ) (s now : State) where
  abbrev Made : Form → Gives ℕ
  Made f = (uses a (typed place t c f)).made behind into s

  -- the number of a literal, as the long that it is
  pub made_number : (f : Form) (n : ℕ) (z : ℤ) (u : Ty) (r : Result ℕ NoMemory) → f ≡ number n → z ≡ long n → u ≡ own_type t
      → Answers (λ m. m) r (computed into u place (constant z) s) now → Answers (λ m. m) r (Made f) now
  made_number f n z u r is same own_is given =
      answers_as (λ m. m) r _ _ now
      (ap Made is ∙ ap (λ (x : Ty). computed into x place (constant (long n)) s) (sym own_is) ∙ ap (λ (x : ℤ). computed into u place (constant x) s) (sym same)) given

  -- one that an instruction computes
  pub made_computed : (f known : Form) (u : Ty) (step : ℕ → Step) (r : Result ℕ NoMemory) → f ≡ known → u ≡ own_type t → Made known ≡ computed into (own_type t) place step s
      → Answers (λ n. n) r (computed into u place step s) now → Answers (λ n. n) r (Made f) now
  made_computed f known u step r is own_is made given =
      answers_as (λ n. n) r _ _ now (ap Made is ∙ made ∙ ap (λ (x : Ty). computed into x place step s) (sym own_is)) given

  pub made_called : (f : Form) (function : ℕ) (es : Form) (d : DelimitersForm) (u : Ty) (s1 : State) (types : List TyId) (given : List Argument) (r : Result ℕ NoMemory)
      → f ≡ call function es d → u ≡ own_type t → types ≡ parameter_types a function → arguments a (all_uses a es) d types s ≡ gives given s1
      → Answers (λ n. n) r (built (Fill place (called function given)) (wanted place into u) s1) now → Answers (λ n. n) r (Made f) now
  made_called f function es d u s1 types given r is own_is as_declared first answered =
      answers_as (λ n. n) r _ _ now
      (ap Made is
      ∙ ap (λ (ts : List TyId). arguments a (all_uses a es) d ts s >> λ xs s. built (Fill place (called function xs)) (wanted place into (own_type t)) s) (sym as_declared)
      ∙ ap (λ (w : Gives (List Argument)). built (Fill place (called function w.given)) (wanted place into (own_type t)) w.state) first
      ∙ ap (λ (x : Ty). built (Fill place (called function given)) (wanted place into x) s1) (sym own_is))
      answered

  pub made_within : (f e : Form) (closing : Place) (u : Ty) (r : Result ℕ NoMemory) → f ≡ paren e closing → u ≡ own_type t
      → Answers (λ n. n) r (value (uses a e) closing u into s) now → Answers (λ n. n) r (Made f) now
  made_within f e closing u r is own_is given =
      answers_as (λ n. n) r _ _ now (ap Made is ∙ ap (λ (x : Ty). value (uses a e) closing x into s) (sym own_is)) given

  pub made_taken : (f : Form) (u : Ty) (s1 : State) (r : ℕ) → f ≡ input → u ≡ own_type t → target place into u s ≡ gives r s1 → now ≡ emit place (Ports (Takes r)) s1 → Made f ≡ gives r now
  made_taken f u s1 r is own_is first written =
      ap Made is
      ∙ ap (λ (x : Ty). target place into x s >> λ x s. gives x (emit place (Ports (Takes x)) s)) (sym own_is)
      ∙ ap (λ (w : Gives ℕ). gives w.given (emit place (Ports (Takes w.given)) w.state)) first
      ∙ ap (λ (x : State). gives r x) (sym written)

  pub made_negated : (f e : Form) (u : Ty) (r : ℕ) (after : State) → f ≡ negate e → u ≡ own_type t
      → value (uses a e) behind u None s ≡ gives r after → Made f ≡ computed into u place (λ (n : ℕ). Eval n (operation.Negate r)) after
  made_negated f e u r after is own_is given =
      ap Made is
      ∙ ap (λ (x : Ty). value (uses a e) behind x None s >> λ r s. computed into x place (values.negated r) s) (sym own_is)
      ∙ ap (λ (w : Gives ℕ). computed into u place (λ (n : ℕ). Eval n (operation.Negate w.given)) w.state) given

  -- what the row says
  pub made_between : (o : BinaryOperator) (left right f : Form) (w : Row) (r : Result ℕ NoMemory) → f ≡ binary o left right → w ≡ row_between o left right
      → Answers (λ n. n) r ((binary_uses w (uses a left) (uses a right) place t c).made behind into s) now → Answers (λ n. n) r (Made f) now
  made_between o left right f w r is same given =
      answers_as (λ n. n) r _ _ now (ap Made is ∙ ap (λ (v : Row). (binary_uses v (uses a left) (uses a right) place t c).made behind into s) (sym same)) given

-- ---- operators

-- behind the left operand
pub operated_between : (a : Around) (o : BinaryOperator) (left right f : Form) (place behind : Place) (t : ExprType) (category : Category) (u : Ty) (register : ℕ) (into : Option ℕ) (s now : State) (w : Row) (r : Result ℕ NoMemory)
    → f ≡ binary o left right → w ≡ row_between o left right → u ≡ own_type t
    → Answers (λ n. n) r (operated_with w (uses a left) register into u place (λ common s. value (uses a right) behind common None s) s) now
    → Answers (λ n. n) r (operated_on a (typed place t category f) behind register into s) now
operated_between a o left right f place behind t category u register into s now w r is same own_is given =
    answers_as (λ n. n) r _ _ now
    (ap (λ (g : Form). operated_on a (typed place t category g) behind register into s) is
    ∙ ap (λ (v : Row). operated_with v (uses a left) register into (own_type t) place (λ common s. value (uses a right) behind common None s) s) (sym same)
    ∙ ap (λ (x : Ty). operated_with w (uses a left) register into x place (λ common s. value (uses a right) behind common None s) s) (sym own_is))
    given

module _ (w : Row) (by : Operator) (common : Ty) (is : w ≡ row.Computed by common) (into : Option ℕ) (place : Place) (left right : Uses) (behind : Place) (l r : ℕ) (s between after : State)
    (second : value right behind common None between ≡ gives r after) where
  abbrev rest : Ty → Gives ℕ → Gives ℕ
  rest t v = (let u = value right behind common None v.state in computed into t place (λ (n : ℕ). Eval n (operation.Binary by v.given u.given)) u.state)

  behind_left : (t : Ty) → rest t (gives l between) ≡ computed into t place (λ (n : ℕ). Eval n (operation.Binary by l r)) after
  behind_left t = ap (λ (v : Gives ℕ). computed into t place (λ (n : ℕ). Eval n (operation.Binary by l v.given)) v.state) second

  pub operated_computes : (t : ExprType) (c : Category) (u : Ty) → u ≡ own_type t → value left behind common None s ≡ gives l between
      → (binary_uses w left right place t c).made behind into s ≡ computed into u place (λ (n : ℕ). Eval n (operation.Binary by l r)) after
  operated_computes t c u own_is first =
      ap (λ (v : Row). (binary_uses v left right place t c).made behind into s) is ∙ ap (rest (own_type t)) first ∙ behind_left (own_type t)
      ∙ ap (λ (x : Ty). computed into x place (λ (n : ℕ). Eval n (operation.Binary by l r)) after) (sym own_is)

  pub operated_goes_on : (t : Ty) (register : ℕ) → converted_in left common register s ≡ gives l between
      → operated_with w left register into t place (λ common s. value right behind common None s) s ≡ computed into t place (λ (n : ℕ). Eval n (operation.Binary by l r)) after
  operated_goes_on t register first =
      ap (λ (v : Row). operated_with v left register into t place (λ common s. value right behind common None s) s) is ∙ ap (rest t) first ∙ behind_left t
