-- The category and the place of an expression are those that it is seen with.
use Rattle.std.proofs.Common.{◌≡◌, ap}
use Rattle.life_typed.proofs.Applied.{seen_out}
use Rattle.life_typed.specs.TypedForm.{Typed, typed_view}
use Rattle.life_typed.specs.declared.typed_expr.TypedExpr.{TypedExpr, out-TypedExpr}

pub category_seen : (e : TypedExpr) → (typed_view e).category ≡ (out-TypedExpr e).category
category_seen e = ap (λ (t : Typed). t.category) (seen_out e)

pub place_seen : (e : TypedExpr) → (typed_view e).place ≡ (out-TypedExpr e).place
place_seen e = ap (λ (t : Typed). t.place) (seen_out e)
