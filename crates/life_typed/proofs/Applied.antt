-- A form that is applied to an expression stands around all that is within that.
use Rattle.std.proofs.Common.{◌≡◌, List, [], ◌∷◌, ◌++◌, map, refl, sym, ap, ◌∙◌}
use Rattle.std.proofs.lemmas.List.{map-append}
use Rattle.std.specs.declared.alloc.Global.{Global}
use Rattle.std.specs.declared.vec.Vec.{Vec}
use Rattle.life_types.specs.declared.place.Place.{Place}
use Rattle.life_typed.specs.TypedForm.{Applied, Form, Typed, applied, form_view, nested, nothing, operand_view, typed, typed_view, whole}
use Rattle.life_typed.specs.declared.typed_expr.Category.{Category}
use Rattle.life_typed.specs.declared.typed_expr.ExprForm.{ExprForm}
use Rattle.life_typed.specs.declared.typed_expr.ExprForm.TheFolds.{fold-roll-TypedExpr, fold-roll-TypedOperand}
use Rattle.life_typed.specs.declared.typed_expr.ExprForm.TheViews.{roll-TypedExpr, roll-TypedOperand}
use Rattle.life_typed.specs.declared.typed_expr.ExprType.{ExprType}
use Rattle.life_typed.specs.declared.typed_expr.TypedExpr.{TypedExpr, fold_out-TypedExpr, out-TypedExpr}
use Rattle.life_typed.specs.declared.typed_expr.TypedOperand.{TypedOperand}

-- one more, around the others
pub nested_more : (operand : Form) (fs : List Applied) (f : Applied) → nested operand (fs ++ f ∷ []) ≡ f (nested operand fs)
nested_more operand [] f = refl
nested_more operand (g ∷ gs) f = nested_more (g operand) gs f

-- all that is within an expression
abbrev pub inside : List TypedOperand → Form
inside os = nested nothing (map operand_view os)

seen : (place : Place) (t : ExprType) (category : Category) (form : ExprForm) (within : Vec TypedOperand Global)
    → typed_view (roll-TypedExpr (record { place = place; ty = t; category = category; form = form; within = within })) ≡ record { place = place; ty = t; category = category; form = form_view form (inside within.items) }
seen place t category form within = rw fold-roll-TypedExpr

pub seen_out : (e : TypedExpr) → typed_view e ≡ (let o = out-TypedExpr e in record { place = o.place; ty = o.ty; category = o.category; form = form_view o.form (inside o.within.items) })
seen_out e = rw fold_out-TypedExpr

-- an expression as what another is applied to
abbrev as_operand : TypedExpr → TypedOperand
as_operand e = roll-TypedOperand (record { place = (out-TypedExpr e).place; ty = (out-TypedExpr e).ty; category = (out-TypedExpr e).category; form = (out-TypedExpr e).form })

operand_seen : (e : TypedExpr) (operand : Form) → operand_view (as_operand e) operand ≡ (let o = out-TypedExpr e in typed o.place o.ty o.category (form_view o.form operand))
operand_seen e operand = rw fold-roll-TypedOperand

inside_more : (e : TypedExpr) (os more : List TypedOperand) → os ≡ (out-TypedExpr e).within.items → more ≡ os ++ as_operand e ∷ [] → inside more ≡ whole (typed_view e)
inside_more e os more is grown =
    ap inside grown
    ∙ ap (nested nothing) (map-append operand_view os (as_operand e ∷ []))
    ∙ nested_more nothing (map operand_view os) (operand_view (as_operand e))
    ∙ operand_seen e (inside os)
    ∙ ap (λ (xs : List TypedOperand). (let o = out-TypedExpr e in typed o.place o.ty o.category (form_view o.form (inside xs)))) is
    ∙ sym (ap whole (seen_out e))

pub applied_is : (e : TypedExpr) (place : Place) (t : ExprType) (category : Category) (form : ExprForm) (within : Vec TypedOperand Global)
    → within.items ≡ (out-TypedExpr e).within.items ++ as_operand e ∷ []
    → typed_view (roll-TypedExpr (record { place = place; ty = t; category = category; form = form; within = within })) ≡ applied (typed_view e) place t category (form_view form)
applied_is e place t category form within grown =
    seen place t category form within
    ∙ ap (λ (f : Form). (let r : Typed = record { place = place; ty = t; category = category; form = form_view form f } in r)) (inside_more e (out-TypedExpr e).within.items within.items refl grown)
