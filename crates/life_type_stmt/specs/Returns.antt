-- What a function returns (ISO/IEC 14882:2017 [stmt.return]).
use Rattle.std.specs.Prelude.{ℕ, ◌==◌, Bool, true, false, ◌&&◌, not, Box, Option, Some, None, Ok}
use Rattle.std.specs.declared.alloc.Global.{Global}
use Rattle.life_types.specs.TypeTests.{is_void}
use Rattle.life_types.specs.Types.{Types}
use Rattle.life_types.specs.declared.place.Place.{Place}
use Rattle.life_types.specs.declared.ty.Ty.{Ty}
use Rattle.life_types.specs.declared.ty.Ty.TheVariants as ty
use Rattle.life_types.specs.declared.ty.TyId.{TyId}
use Rattle.life_tree.specs.declared.expr.Expr.{Expr}
use Rattle.life_typed.specs.TypedForm.{Typed}
use Rattle.life_typed.specs.declared.typed_program.TypedLocal.{TypedLocal}
use Rattle.life_names.specs.Checked.{Checked, ◌>>=◌}
use Rattle.life_names.specs.Environment.{Scope, local}
use Rattle.life_type_stmt.specs.Conditions.{unless}
use Rattle.life_names.specs.Found.{allowed, given}
use Rattle.life_type_stmt.specs.Given.{given_expr, value_fault}
use Rattle.life_type_stmt.specs.Simples.{named_in}
use Rattle.life_typed.specs.BaseTypes.{type_at}
use Rattle.life_names.specs.declared.fault.IllKind.{IllKind}
use Rattle.life_names.specs.declared.fault.IllKind.TheVariants as kinds

-- a variable or value parameter of this type that isn't const
abbrev pub is_moved_out : TyId → Option TypedLocal → Bool
is_moved_out result None = false
is_moved_out result (Some l) = (l.ty.0 == result.0) && not l.constant

abbrev pub named_local : Scope → Option ℕ → Option TypedLocal
named_local scope None = None
named_local scope (Some n) = local scope n

-- a `std::unique_ptr` is moved out of what is named ([class.copy.elision])
abbrev pub moves_out : Ty → TyId → Option TypedLocal → Bool
moves_out (ty.Unique target) result named = is_moved_out result named
moves_out t result named = false

-- the rule that a return with an expression breaks at its keyword: there is none where the function answers nothing
abbrev pub result_fault : Bool → Bool → Types → Ty → Typed → Option IllKind
result_fault true moved types t e = Some kinds.WrongType
result_fault false true types t e = None
result_fault false false types t e = value_fault kinds.WrongType types t e.ty e.category

-- what a return gives in a function that answers this; `void` too
abbrev pub returned : TyId → Place → Option (Box Expr Global) → Scope → Types → Checked (Option Typed)
returned result keyword None scope types = given (allowed (unless (is_void (type_at types result)) kinds.WrongType) keyword) (λ _. Ok (None, types))
returned result keyword (Some e) scope types =
    given_expr (type_at types result) e.value scope types >>= (λ x.
    given (allowed (result_fault (is_void (type_at types result)) (moves_out (type_at types result) result (named_local scope (named_in x.0.form))) x.1 (type_at types result) x.0) keyword) (λ _.
    Ok (Some x.0, x.1)))
