-- Conditions that are made of others.
use Rattle.std.proofs.Common.{◌≡◌, Option, Result, Ok, Err, sym, ap, ◌∙◌}
use Rattle.std.specs.Prelude.{IfOk}
use Rattle.life_types.specs.declared.memory.NoMemory.{NoMemory}
use Rattle.life_types.specs.declared.place.Place.{Place}
use Rattle.life_typed.specs.TypedForm.{Form, binary, typed}
use Rattle.life_typed.specs.declared.typed_expr.BinaryOperator.{BinaryOperator}
use Rattle.life_typed.specs.declared.typed_expr.Category.{Category}
use Rattle.life_typed.specs.declared.typed_expr.ExprType.{ExprType}
use Rattle.life_core.specs.Tree.{Negated, Tree, condition_tree}
use Rattle.life_core.specs.declared.stmt.Condition.{Condition}
use Rattle.life_writer.specs.Answers.{Answered, Answers}
use Rattle.life_writer.specs.Around.{Around}
use Rattle.life_writer.specs.Behind.{ending}
use Rattle.life_writer.specs.Chains.{joined_on, joined_with}
use Rattle.life_writer.specs.Conditions.{joined, joined_by, negation, not_null, on}
use Rattle.life_writer.specs.ExpressionForms.{binary_uses, uses}
use Rattle.life_writer.specs.PartUses.{part_uses}
use Rattle.life_writer.specs.Parts.{part_form}
use Rattle.life_writer.specs.Rows.{row_between}
use Rattle.life_writer.specs.Uses.{Uses}
use Rattle.life_writer.specs.Using.{condition, nullable}
use Rattle.life_writer.specs.Writing.{State, Gives, gives, mapped}
use Rattle.life_writer.specs.declared.behind.Behind.{Behind}
use Rattle.life_writer.specs.declared.parts.Part.{Part}
use Rattle.life_writer.specs.declared.rows.Join.{Join}
use Rattle.life_writer.specs.declared.rows.Row.{Row}
use Rattle.life_writer.specs.declared.rows.Row.TheVariants as row
use Rattle.life_writer.specs.declared.rows.Side.{Side}
use Rattle.life_writer.specs.declared.rows.Side.TheVariants.{Left, Right}
use Rattle.life_writer.proofs.Giving.{answered_as, answers_as, joined_gives, negation_gives}

-- ---- behind the left operand

pub joined_between : (a : Around) (o : BinaryOperator) (left right f : Form) (place behind : Place) (t : ExprType) (category : Category) (test : Tree) (s now : State) (w : Row) (x : Result Condition NoMemory)
    → f ≡ binary o left right → w ≡ row_between o left right
    → Answers condition_tree x (joined_with w test (condition (uses a right) (ending behind)) s) now
    → Answers condition_tree x (joined_on a (typed place t category f) behind test s) now
joined_between a o left right f place behind t category test s now w x is same given =
    answers_as condition_tree x _ _ now
    (ap (λ (g : Form). joined_on a (typed place t category g) behind test s) is
    ∙ ap (λ (v : Row). joined_with v test (condition (uses a right) (ending behind)) s) (sym same))
    given

pub joined_answers : (w : Row) (by : Join) (right : Uses) (behind : Place) (b : Behind) (test second : Tree) (s now : State) (x : Result Condition NoMemory)
    → w ≡ row.Joined by → b ≡ ending behind → condition right b s ≡ gives second now → IfOk x (λ c. condition_tree c ≡ joined_by by test second)
    → Answers condition_tree x (joined_with w test (condition right (ending behind)) s) now
joined_answers w by right behind b test second s now (Ok c) is here given made =
    ap (λ (v : Row). joined_with v test (condition right (ending behind)) s) is
    ∙ ap (λ (d : Behind). mapped (joined_by by test) (condition right d s)) (sym here)
    ∙ ap (λ (v : Gives Tree). gives (joined_by by test v.given) v.state) given
    ∙ ap (λ (tree : Tree). gives tree now) (sym made)
joined_answers w by right behind b test second s now (Err e) is here given made = tt

-- ---- by the row

module _ (a : Around) (w : Row) (place : Place) (t : ExprType) (kind : Category) (b : Behind) (left right : Option Part) where
  abbrev By : Row → Option (State → Gives Tree)
  By v = (binary_uses v (part_uses a left) (part_uses a right) place t kind).decision b

  pub both_decided : (by : Join) (c d : Behind) (s between after : State) (l r : Tree) (x : Condition) → w ≡ row.Joined by → c ≡ ending place → d ≡ ending b.token
      → condition (part_uses a left) c s ≡ gives l between → condition (part_uses a right) d between ≡ gives r after → condition_tree x ≡ joined_by by l r → Answered condition_tree x (By w) s after
  both_decided by c d s between after l r x is first second before behind made =
      answered_as condition_tree x (By w) (joined (joined_by by) (condition (part_uses a left) (ending place)) (condition (part_uses a right) (ending b.token))) s after (ap By is)
      (joined_gives (joined_by by) (condition (part_uses a left) (ending place)) (condition (part_uses a right) (ending b.token)) s l between r after (condition_tree x)
      (ap (λ (e : Behind). condition (part_uses a left) e s) (sym first) ∙ before) (ap (λ (e : Behind). condition (part_uses a right) e between) (sym second) ∙ behind) made)

  -- what is compared with nullptr
  abbrev Pointers : Side → State → Gives Tree
  Pointers side s = not_null place b.ends (on side (nullable (part_uses a left)) (nullable (part_uses a right))) s

  beside : (side : Side) (f : Form) (s : State) → f ≡ part_form (on side left right) → Pointers side s ≡ not_null place b.ends (nullable (uses a f)) s
  beside Left f s is = ap (λ (g : Form). not_null place b.ends (nullable (uses a g)) s) (sym is)
  beside Right f s is = ap (λ (g : Form). not_null place b.ends (nullable (uses a g)) s) (sym is)

  pub null_decided : (side : Side) (f : Form) (s after : State) (l : Tree) (x : Condition) → w ≡ row.IsNull side → f ≡ part_form (on side left right)
      → not_null place b.ends (nullable (uses a f)) s ≡ gives l after → condition_tree x ≡ Negated l → Answered condition_tree x (By w) s after
  null_decided side f s after l x is at given made =
      answered_as condition_tree x (By w) (negation (Pointers side)) s after (ap By is)
      (negation_gives (Pointers side) s l after (condition_tree x) (beside side f s at ∙ given) made)

  pub some_decided : (side : Side) (f : Form) (s after : State) (x : Condition) → w ≡ row.NotNull side → f ≡ part_form (on side left right)
      → not_null place b.ends (nullable (uses a f)) s ≡ gives (condition_tree x) after → Answered condition_tree x (By w) s after
  some_decided side f s after x is at given = answered_as condition_tree x (By w) (Pointers side) s after (ap By is) (beside side f s at ∙ given)
