-- Chains: operands one after the other, each with what stands before it.
use Rattle.std.proofs.Common.{◌≡◌, List, [], ◌∷◌, Result, Ok, Err, refl, sym, subst}
use Rattle.life_types.specs.Types.{Types}
use Rattle.life_types.specs.declared.place.Place.{Place}
use Rattle.life_types.specs.declared.ty.Ty.{Ty}
use Rattle.life_typed.specs.Operators.{combined, takes_literals}
use Rattle.life_typed.specs.TypedForm.{Typed, binary, whole}
use Rattle.life_typed.specs.declared.misfit.Misfit.{Misfit}
use Rattle.life_typed.specs.declared.typed_expr.BinaryOperator.{BinaryOperator}
use Rattle.life_names.specs.Checked.{Checked, ◌>>=◌}
use Rattle.life_names.specs.Environment.{Scope}
use Rattle.life_names.specs.Found.{found_in, given}
use Rattle.life_type_expr.specs.Expressions.{PartMeaning, chain, chained, operand_part}
use Rattle.life_type_expr.specs.Lists.{Meaning}
use Rattle.life_type_expr.specs.Operands.{combination, combined_to, literal_allowed, value}
use Rattle.life_typing_laws.proofs.Combining.{combined_parts}
use Rattle.life_typing_laws.proofs.Each.{EachHolds}
use Rattle.life_well_typed.specs.Visible.{Visible}
use Rattle.life_typing_laws.proofs.Growing.{grown_not, grown_on}
use Rattle.life_typing_laws.proofs.Scopes.{final_then, sound_now}
use Rattle.life_typing_laws.proofs.Steps.{Bound, bound, found_ok, given_ok}
use Rattle.life_typing_laws.proofs.Typed.{Good, GoodBehind, IsGood, IsGoodBehind, IsTyped, typed_stays}
use Rattle.life_typing_laws.specs.Sound.{IsSound}

-- ---- operands behind the first

chained_good : (qs : List PartMeaning) (v : Visible) (scope : Scope) (x y : Typed × Types) → EachHolds GoodBehind qs → chained qs scope x ≡ Ok y → IsSound v scope x.1 → IsGoodBehind v x.0 scope x.1 y
chained_good [] v scope x y good e sound =
    let same : x ≡ y = cc in
    subst (IsGoodBehind v x.0 scope x.1) same (record { grown = grown_not x.1 sound.ordered; is = λ p locals final left. left })
chained_good (q ∷ qs) v scope x y good e sound =
    let step : Bound (q x.0 scope x.1) (chained qs scope) y = bound (q x.0 scope x.1) (chained qs scope) y e in
    let first = good.0 v x.0 scope x.1 step.value step.gave sound in
    let rest = chained_good qs v scope step.value y good.1 step.behind (sound_now v scope x.1 step.value.1 sound first.grown) in
    record { grown = grown_on x.1 step.value.1 y.1 first.grown rest.grown; is = λ p locals final left. rest.is p locals final (first.is p locals (final_then p locals scope step.value.1 y.1 rest.grown final) left) }

pub chain_good : (first : Meaning) (more : List PartMeaning) → Good first → EachHolds GoodBehind more → Good (chain first more)
chain_good first more good_first good_more v scope types x e sound =
    let step : Bound (first scope types) (chained more scope) x = bound (first scope types) (chained more scope) x e in
    let one = good_first v scope types step.value step.gave sound in
    let rest = chained_good more v scope step.value x good_more step.behind (sound_now v scope types step.value.1 sound one.grown) in
    record { grown = grown_on types step.value.1 x.1 one.grown rest.grown; is = λ p locals final. rest.is p locals final (one.is p locals (final_then p locals scope step.value.1 x.1 rest.grown final)) }

-- ---- an operand with its operator

pub record Combines (operator : BinaryOperator) (place : Place) (operand : Meaning) (left : Typed) (scope : Scope) (types : Types) (x : Typed × Types) : Type 0 where
  pub right : Typed × Types
  pub reads : operand scope types ≡ Ok right
  pub combines : combination operator place left right.0 ≡ Ok x.0
  pub table : right.1 ≡ x.1

-- what is left behind the second operand
abbrev behind_right : BinaryOperator → Place → Typed → Typed × Types → Checked Typed
behind_right operator place left x = given (literal_allowed (takes_literals operator) x.0) (λ _. found_in x.1 (combination operator place left x.0))

combines_of : (operator : BinaryOperator) (place : Place) (operand : Meaning) (left : Typed) (scope : Scope) (types : Types) (x : Typed × Types)
    → operand_part operator place operand left scope types ≡ Ok x → Combines operator place operand left scope types x
combines_of operator place operand left scope types x e =
    let first = given_ok (literal_allowed (takes_literals operator) left) (λ _. operand scope types >>= behind_right operator place left) x e in
    let read = bound (operand scope types) (behind_right operator place left) x first.behind in
    let second = given_ok (literal_allowed (takes_literals operator) read.value.0) (λ _. found_in read.value.1 (combination operator place left read.value.0)) x read.behind in
    let last = found_ok read.value.1 (combination operator place left read.value.0) x second.behind in
    record { right = read.value; reads = read.gave; combines = last.0; table = last.1 }

pub record IsCombined (operator : BinaryOperator) (place : Place) (left right e : Typed) : Type 0 where
  pub ty : Ty
  pub gives : combined operator left.ty right.ty ≡ Ok ty
  pub is : value place ty (binary operator (whole left) (whole right)) ≡ e

combination_is : (operator : BinaryOperator) (place : Place) (left right e : Typed) → combination operator place left right ≡ Ok e → IsCombined operator place left right e
combination_is operator place left right e h = go (combined operator left.ty right.ty) refl h
  where
    go : (r : Result Ty Misfit) → combined operator left.ty right.ty ≡ r → combined_to r operator place left right ≡ Ok e → IsCombined operator place left right e
    go (Ok t) is h = record { ty = t; gives = is; is = cc }
    go (Err m) is h = absurd (cc)

pub operand_good : (operator : BinaryOperator) (place : Place) (operand : Meaning) → Good operand → GoodBehind (operand_part operator place operand)
operand_good operator place operand good v left scope types x e sound = made (combines_of operator place operand left scope types x e)
  where
    made : Combines operator place operand left scope types x → IsGoodBehind v left scope types x
    made c = subst (λ (s : Types). IsGoodBehind v left scope types (x.0, s)) c.table (record {
      grown = right.grown;
      is = λ p locals final left_is.
          let left_now : IsTyped p locals v c.right.1 left = typed_stays types c.right.1 right.grown.grows p locals v left left_is in
          subst (IsTyped p locals v c.right.1) sum.is (record {
            is = (subst (λ (y : Typed). combination operator place left c.right.0 ≡ Ok y) (sym sum.is) c.combines, left_now.is, (right.is p locals final).is);
            parts = combined_parts c.right.1 operator left.ty c.right.0.ty sum.ty left_now.parts sum.gives;
            place = tt;
          });
    })
      where
        sum : IsCombined operator place left c.right.0 x.0
        sum = combination_is operator place left c.right.0 x.0 c.combines

        right : IsGood v scope types c.right
        right = good v scope types c.right c.reads sound
