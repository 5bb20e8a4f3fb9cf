-- Forms as the program makes them.
use Rattle.std.proofs.Common.{◌≡◌, List, [], ◌∷◌, Option, None, Some, Ok, Box, map, length, option_map, refl, sym, ap, ◌∙◌, arith}
use Rattle.std.specs.declared.alloc.Global.{Global}
use Rattle.life_types.specs.declared.place.Place.{Place}
use Rattle.life_types.specs.declared.ty.TyId.{TyId}
use Rattle.life_typed.specs.TypedForm.{form_view, make_unique, nothing, optional_form, typed_view}
use Rattle.life_typed.specs.declared.typed_expr.ExprForm.{ExprForm}
use Rattle.life_typed.specs.declared.typed_expr.ExprForm.TheFolds.{fold-roll-ExprForm}
use Rattle.life_typed.specs.declared.typed_expr.ExprForm.TheVariants as form
use Rattle.life_typed.specs.declared.typed_expr.TypedExpr.{TypedExpr}
use Rattle.life_names.specs.Checked.{Checked, Fails}
use Rattle.life_type_expr.specs.Expressions.{first_of}
use Rattle.life_names.specs.Found.{Found, Misses}
use Rattle.life_names.specs.declared.fault.IllFault.{IllFault}
use Rattle.life_names.specs.declared.fault.IllFault.TheVariants as faults

pub seen_unique : (id : TyId) (argument : Option (Box TypedExpr Global)) (closing : Place)
    → form_view (form.MakeUnique id argument closing) nothing ≡ make_unique id (optional_form (option_map (λ (e : Box TypedExpr Global). typed_view e.value) argument)) closing
seen_unique id None closing = ap (λ (f : ExprForm). form_view f nothing) (sym (form.rolls-MakeUnique id None closing)) ∙ rw fold-roll-ExprForm
seen_unique id (Some e) closing = ap (λ (f : ExprForm). form_view f nothing) (sym (form.rolls-MakeUnique id (Some e) closing)) ∙ rw fold-roll-ExprForm

-- what is found isn't missed
pub never_fails : {A B : Type 0} (e : IllFault) (x : A) (found : Found A) (total : Checked B) → found ≡ Ok x → Misses e found → Fails e total
never_fails faults.NoMemory x found total is f = tt
never_fails (faults.Ill kind place) x found total is f = cc

pub same_found : {A : Type 0} (x y : A) (found : Found A) → found ≡ Ok x → found ≡ Ok y → x ≡ y
same_found x y found a b = cc

-- ---- the first of a list

pub no_first : (items : List TypedExpr) → length items ≡ 0 → first_of (map typed_view items) ≡ None
no_first [] e = refl
no_first (x ∷ xs) e = absurd (omega arith)

pub the_first : (items rest : List TypedExpr) (x : TypedExpr) → items ≡ x ∷ rest → first_of (map typed_view items) ≡ Some (typed_view x)
the_first items rest x e = ap (λ (es : List TypedExpr). first_of (map typed_view es)) e
