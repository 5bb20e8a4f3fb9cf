-- How large a form is: what the recursion over expressions goes down.
use Rattle.std.proofs.Common.{◌≡◌, ◌+◌, ◌-◌, ◌<◌, ◌≤◌, ◌&&◌, ℕ, zero, suc, Bool, true, false, List, [], ◌∷◌, Option, None, Some, drop, get_or, length, take, sym, ap, ◌∙◌, arith}
use Rattle.std.proofs.lemmas.List.{drop_more, take_all}
use Rattle.std.specs.Prelude.{if◌then◌else◌}
use Rattle.std.specs.Prelude.{not as negated}
use Rattle.life_types.specs.contracts.ty.TyPartialEq.TheImpl.{ghosts as compared}
use Rattle.life_types.specs.declared.ty.Ty.{Ty}
use Rattle.life_typed.specs.Conversions.{is_place}
use Rattle.life_typed.specs.TypedForm.{Form, Typed, call, construct, paren, make_unique, text_of, member, dereference, index, method, negate, not, address_of, binary, typed, ◌⨟◌, forms, typed_view, typed_views, whole}
use Rattle.life_typed.specs.declared.typed_expr.TypedExpr.{TypedExpr}
use Rattle.life_typed.specs.declared.typed_expr.TypedOperand.{TypedOperand}
use Rattle.life_writer.specs.Chains.{Call, Element, Follows, Link, Member, Operator, Owned, Runs, linked}
use Rattle.life_writer.specs.Around.{own_type}
use Rattle.life_writer.specs.Calls.{Called, call_for, expression_call, form_call}
use Rattle.life_writer.specs.Conditions.{on}
use Rattle.life_writer.specs.Parts.{inside, part_form, part_view}
use Rattle.life_writer.specs.declared.assigning.Target.{Target}
use Rattle.life_writer.specs.declared.assigning.Target.TheVariants as target
use Rattle.life_writer.specs.declared.chains.Chain.{Chain}
use Rattle.life_writer.specs.declared.parts.Part.{Part}
use Rattle.life_writer.specs.declared.rows.Side.{Side}
use Rattle.life_writer.specs.declared.rows.Side.TheVariants.{Left, Right}

abbrev pub weight : Form → ℕ
weight (call f arguments delimiters) = suc (weight arguments)
weight (construct s elements delimiters) = suc (weight elements)
weight (paren inner closing) = suc (weight inner)
weight (make_unique t argument closing) = suc (weight argument)
weight (text_of inner closing) = suc (weight inner)
weight (member base which) = suc (weight base)
weight (dereference e) = suc (weight e)
weight (index base position closing) = suc (weight base + weight position)
weight (method base called arguments delimiters) = suc (weight base + weight arguments)
weight (negate e) = suc (weight e)
weight (not e) = suc (weight e)
weight (address_of e) = suc (weight e)
weight (binary o left right) = suc (weight left + weight right)
weight (typed place t category form) = suc (weight form)
weight (e ⨟ es) = suc (weight e + weight es)
weight _ = 0

-- .. and of what is assigned to
abbrev pub target_weight : Target → ℕ
target_weight (target.Part p) = weight (whole (part_view p))
target_weight (target.Member x m) = 0

-- ---- arguments

rest_lighter : (es : List TypedExpr) (i : ℕ) → weight (forms (typed_views (drop i es))) ≤ weight (forms (typed_views es))
rest_lighter es zero = omega arith
rest_lighter [] (suc i) = omega arith
rest_lighter (e ∷ es) (suc i) = let rest = rest_lighter es i in omega arith

pub argument_lighter : (es : List TypedExpr) (i : ℕ) (e : TypedExpr) → i < length es → e ≡ get_or es i e → weight (whole (typed_view e)) < weight (forms (typed_views es))
argument_lighter es i e more is =
    let first : drop i es ≡ e ∷ drop (i + 1) es = drop_more es i e more ∙ ap (λ (x : TypedExpr). x ∷ drop (i + 1) es) (sym is) in
    let sum : weight (forms (typed_views (drop i es))) ≡ suc (weight (whole (typed_view e)) + weight (forms (typed_views (drop (i + 1) es)))) = ap (λ (xs : List TypedExpr). weight (forms (typed_views xs))) first in
    let rest = rest_lighter es i in omega arith

-- ---- calls

abbrev call_weight : Option Called → ℕ
call_weight None = 0
call_weight (Some c) = suc (weight c.arguments)

mutual
  expression_call_within : (f : Form) → call_weight (expression_call f) ≤ weight f
  expression_call_within (typed place t category form) = let inner = form_call_within form in omega arith
  expression_call_within _ = omega arith

  form_call_within : (f : Form) → call_weight (form_call f) ≤ weight f
  form_call_within (call f arguments delimiters) = omega arith
  form_call_within (paren inner closing) = let within = expression_call_within inner in omega arith
  form_call_within _ = omega arith

-- the arguments of the call that an expression is weigh less than it
pub call_lighter : (e : Typed) (t : Ty) (c : Called) → call_for e t ≡ Some c → weight c.arguments < weight (whole e)
call_lighter e t c is = go (compared.eq (own_type e.ty) t && negated (is_place e.category)) is
  where
    go : (b : Bool) → (if b then form_call e.form else None) ≡ Some c → weight c.arguments < weight (whole e)
    go true h = let same : call_weight (form_call e.form) ≡ suc (weight c.arguments) = ap call_weight h in let within = form_call_within e.form in omega arith
    go false h = absurd (let both : None ≡ Some c = h in cc)

-- ---- operands

-- what stands on a side weighs no more than both
pub side_lighter : (side : Side) (left : Option Part) (right : Part) → weight (part_form (on side left (Some right))) ≤ weight (part_form left) + weight (whole (part_view right))
side_lighter Left left right = omega arith
side_lighter Right left right = omega arith

-- a link weighs more than what is to its left
linked_heavier : (by : Link) (left : Form) → weight left < weight (linked by left)
linked_heavier (Operator by right) left = omega arith
linked_heavier (Call called arguments delimiters) left = omega arith
linked_heavier (Member m) left = omega arith
linked_heavier (Element position closing) left = omega arith
linked_heavier Owned left = omega arith

pub left_lighter : (which : Chain) (first second : Form) → Follows which first second → suc (weight first) < weight second
left_lighter which first second h =
    let whole_one : weight second ≡ suc (weight (linked h.by first)) = ap weight h.between in let more = linked_heavier h.by first in omega arith

-- operands from one on weigh more and more
module _ (which : Chain) (operands : List TypedOperand) (from : ℕ) (runs : Runs which operands from) where
  onward : (left k : ℕ) → from ≤ k → k + left ≡ length operands → weight (inside (take k operands)) ≤ weight (inside operands)
  onward zero k after all =
      let same : weight (inside (take k operands)) ≡ weight (inside operands) = ap (λ (xs : List TypedOperand). weight (inside xs)) (take_all k operands (omega arith)) in omega arith
  onward (suc left) k after all =
      let step = left_lighter which (inside (take k operands)) (inside (take (k + 1) operands)) (runs k after (omega arith)) in
      let rest = onward left (k + 1) (omega arith) (omega arith) in omega arith

  pub runs_lighter : (k : ℕ) → from ≤ k → k ≤ length operands → weight (inside (take k operands)) ≤ weight (inside operands)
  runs_lighter k after within = onward (length operands - k) k after (omega arith)
