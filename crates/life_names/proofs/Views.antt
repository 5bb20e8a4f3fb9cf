-- The fields of an expression are those of what it is seen as.
use Rattle.std.proofs.Common.{◌≡◌}
use Rattle.life_typed.specs.TypedForm.{typed_view}
use Rattle.life_typed.specs.declared.typed_expr.TypedExpr.{TypedExpr, fold_out-TypedExpr, out-TypedExpr}

pub seen_place : (e : TypedExpr) → (typed_view e).place ≡ (out-TypedExpr e).place
seen_place e = rw fold_out-TypedExpr

pub seen_type : (e : TypedExpr) → (typed_view e).ty ≡ (out-TypedExpr e).ty
seen_type e = rw fold_out-TypedExpr

pub seen_category : (e : TypedExpr) → (typed_view e).category ≡ (out-TypedExpr e).category
seen_category e = rw fold_out-TypedExpr

pub ruleset views = (seen_place, seen_type, seen_category)
