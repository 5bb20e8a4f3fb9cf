-- Expressions and the operands within them, as they are seen.
use Rattle.std.proofs.Common.{◌≡◌, ◌+◌, ◌<◌, ◌≤◌, ◌⊎◌, inl, inr, ℕ, List, [], ◌∷◌, ◌++◌, Option, None, Some, get_or, length, map, slice_get, take, refl, sym, ap, ◌∙◌, arith}
use Rattle.std.proofs.lemmas.List.{map-append, take_all, take_more}
use Rattle.std.proofs.lemmas.Option.{slice_get_cases}
use Rattle.life_types.specs.declared.place.Place.{Place}
use Rattle.life_typed.proofs.Applied.{nested_more, seen_out}
use Rattle.life_typed.specs.TypedForm.{Form, Typed, form_view, nested, nothing, operand_view, typed, typed_view}
use Rattle.life_typed.specs.declared.typed_expr.ExprForm.TheFolds.{fold_out-TypedOperand}
use Rattle.life_typed.specs.declared.typed_expr.TypedExpr.{TypedExpr, out-TypedExpr}
use Rattle.life_typed.specs.declared.typed_expr.TypedOperand.{TypedOperand, out-TypedOperand}
use Rattle.life_writer.specs.Chains.{place_if, token_behind}
use Rattle.life_writer.specs.Parts.{inside}
use Rattle.life_writer.proofs.Following.{form_place}

operand_seen : (o : TypedOperand) (f : Form) → operand_view o f ≡ (let out = out-TypedOperand o in typed out.place out.ty out.category (form_view out.form f))
operand_seen o f = rw fold_out-TypedOperand refl

-- what is last among operands, with the others within it
pub last_seen : (operands : List TypedOperand) (n : ℕ) (o : TypedOperand) → n + 1 ≡ length operands → o ≡ get_or operands n o
    → (let out = out-TypedOperand o in typed out.place out.ty out.category (form_view out.form (inside (take n operands)))) ≡ inside operands
last_seen operands n o count is =
    let within : n < length operands = omega arith in
    sym (operand_seen o (inside (take n operands)))
    ∙ sym (nested_more nothing (map operand_view (take n operands)) (operand_view o))
    ∙ sym (ap (nested nothing) (map-append operand_view (take n operands) (o ∷ [])))
    ∙ sym (ap inside (take_more operands n o within ∙ ap (λ (x : TypedOperand). take n operands ++ x ∷ []) (sym is)))
    ∙ ap inside (take_all (n + 1) operands (omega arith))

-- what is last among the first of them
pub one_seen : (operands : List TypedOperand) (n : ℕ) (o : TypedOperand) → n < length operands → o ≡ get_or operands n o
    → inside (take (n + 1) operands) ≡ operand_view o (inside (take n operands))
one_seen operands n o within is =
    ap inside (take_more operands n o within ∙ ap (λ (x : TypedOperand). take n operands ++ x ∷ []) (sym is))
    ∙ ap (nested nothing) (map-append operand_view (take n operands) (o ∷ []))
    ∙ nested_more nothing (map operand_view (take n operands)) (operand_view o)

-- the token of the operand with a number
pub token_seen : (operands : List TypedOperand) (n : ℕ) (last : Place) → n < length operands → form_place (inside (take (n + 1) operands)) ≡ token_behind operands n last
token_seen operands n last within = go (slice_get_cases operands n).1
  where
    go : ((o : TypedOperand) × (n < length operands) × (slice_get operands n ≡ Some o) × (get_or operands n o ≡ o)) ⊎ ((length operands ≤ n) × (slice_get operands n ≡ None))
        → form_place (inside (take (n + 1) operands)) ≡ token_behind operands n last
    go (inl h) =
        ap form_place (one_seen operands n h.0 within (sym h.3) ∙ operand_seen h.0 (inside (take n operands)))
        ∙ sym (ap (λ (o : Option TypedOperand). place_if o last) h.2)
    go (inr h) = absurd (omega (arith, h.0, within))

pub type_seen : (e : TypedExpr) → (typed_view e).ty ≡ (out-TypedExpr e).ty
type_seen e = ap (λ (t : Typed). t.ty) (seen_out e)
