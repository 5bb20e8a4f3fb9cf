-- Where temporaries end, worked out by hand: a part that makes two stands for what a form will make.
use Rattle.std.proofs.Common.{◌≡◌, ℕ, [], ◌∷◌, ◌++◌, Some, None, refl}
use Rattle.life_types.specs.Types.{Types}
use Rattle.life_types.specs.declared.place.Place.{Place}
use Rattle.life_types.specs.declared.ty.Ty.TheVariants as ty
use Rattle.life_types.specs.declared.ty.TyId.{TyId}
use Rattle.life_typed.specs.Delimiters.{DelimitersForm}
use Rattle.life_typed.specs.TypedForm.{Form, binary, call, nothing, typed, ◌⨟◌}
use Rattle.life_typed.specs.declared.typed_expr.BinaryOperator.TheVariants.{And}
use Rattle.life_typed.specs.declared.typed_expr.Category.TheVariants as category
use Rattle.life_typed.specs.declared.typed_expr.ExprType.TheVariants as expr_type
use Rattle.life_core.specs.Step.{End, NonZero}
use Rattle.life_core.specs.Tree.{Acts, Asks, Skip, Then}
use Rattle.life_writer.specs.Around.{Around, type_of}
use Rattle.life_writer.specs.Behind.{ending}
use Rattle.life_writer.specs.Conditions.{by_branch, joined, joined_by, non_zero}
use Rattle.life_writer.specs.ExpressionForms.{all_uses, uses}
use Rattle.life_writer.specs.Giving.{argument, arguments}
use Rattle.life_writer.specs.Using.{condition as tested, value}
use Rattle.life_writer.specs.Variables.{full}
use Rattle.life_writer.specs.Writing.{State, Gives, gives, ◌>>◌, nothing_written}
use Rattle.life_writer.specs.declared.rows.Join.TheVariants as join

-- a place on the one line
abbrev at : ℕ → Place
at column = record { line = 1; column = column }

-- the temporaries 5 and 6 are made, and 6 is what is given
abbrev makes : State → Gives ℕ
makes s = gives 6 (record s { pending = s.pending ++ 5 ∷ 6 ∷ [] })

-- what is written where 4 is pending already
abbrev begun : Types → State
begun types = record (nothing_written types) { pending = 4 ∷ [] }

-- those of a condition end right before its test, at the token behind it, the last first; what was pending stays so
condition : (types : Types) → non_zero (at 3) (Some (at 9)) makes (begun types) ≡ gives (Then (Then (Acts (at 9) (End (6 ∷ 5 ∷ []))) Skip) (Asks (at 3) (NonZero 6))) (begun types)
condition types = refl

-- those of a test within a value last
lasting_value : (types : Types) → non_zero (at 3) None makes (begun types) ≡ gives (Then Skip (Asks (at 3) (NonZero 6))) (record (begun types) { pending = 4 ∷ 5 ∷ 6 ∷ [] })
lasting_value types = refl

-- .. up to the end of the full expression
expression : (types : Types) → full (at 12) (λ s. (makes s).state) (begun types) ≡ record (begun types) { code = Acts (at 12) (End (6 ∷ 5 ∷ [])) ∷ [] }
expression types = refl

-- ---- an operand that stands before a comma

-- a call whose value is a truth, and the test that it stands in before the token behind it
abbrev truth : Place → Form → Form
truth place form = typed place (expr_type.Of ty.Bool) category.Value form

-- in `f(a && b, c)`, with `&&` in column 5, the comma in column 8 and the parenthesis in column 11, `a && b` stands before the comma, and `c` before the parenthesis
arguments_of : (a : Around) (first b c : Form) (t u : TyId) (s : State)
    → arguments a (all_uses a (truth (at 5) (binary And first b) ⨟ c ⨟ nothing)) (record { commas = at 8 ∷ []; closing = at 11 }) (t ∷ u ∷ []) s
    ≡ (argument a (uses a (truth (at 5) (binary And first b))) (type_of a t) (at 8) s >> λ x s. argument a (uses a c) (type_of a u) (at 11) s >> λ y s. gives (x ∷ y ∷ []) s)
arguments_of a first b c t u s = refl

-- .. so that what is made for `b` ends at the comma
operands : (a : Around) (first b : Form) (s : State)
    → value (uses a (truth (at 5) (binary And first b))) (at 8) ty.Bool None s
    ≡ by_branch None ty.Bool (at 5) (joined (joined_by join.Both) (tested (uses a first) (ending (at 5))) (tested (uses a b) (ending (at 8)))) s
operands a first b s = refl

-- .. which, where `b` is a call, is the test above, with the comma as where the temporaries end
operand : (a : Around) (f : ℕ) (given : Form) (d : DelimitersForm) (s : State)
    → tested (uses a (truth (at 7) (call f given d))) (ending (at 8)) s ≡ non_zero (at 7) (Some (at 8)) ((uses a (truth (at 7) (call f given d))).made (at 8) None) s
operand a f given d s = refl
