-- What holds of each number, of strings and of the type of the first operand holds of the type that an operator gives.
use Rattle.std.proofs.Common.{◌≡◌, Bool, true, false, ◌||◌, ◌&&◌, Option, None, Some, Result, Ok, Err, refl, ap, subst, ◌∙◌, if◌then◌else◌}
use Rattle.life_types.specs.TypeTests.{is_iterator, is_long, is_size, is_text, is_value}
use Rattle.life_types.specs.declared.ty.Ty.{Ty}
use Rattle.life_types.specs.declared.ty.Ty.TheVariants as ty
use Rattle.life_typed.specs.Operators.{answer, answered, arithmetic, are_equated, combined, concatenated, equated, given, is_condition, is_joined, is_nullable, is_text_like, misfit, moved, multiplied, negated, ordered, promoted}
use Rattle.life_typed.specs.declared.misfit.Misfit.{Misfit}
use Rattle.life_typed.specs.declared.misfit.Misfit.TheVariants.{General}
use Rattle.life_typed.specs.declared.typed_expr.BinaryOperator.{BinaryOperator}
use Rattle.life_typed.specs.declared.typed_expr.BinaryOperator.TheVariants as operators
use Rattle.life_typed.specs.declared.typed_expr.ExprType.{ExprType}
use Rattle.life_typed.specs.declared.typed_expr.ExprType.TheVariants.{Of, NullPointer, TextLiteral}

module _ (Holds : Ty → Type 0) (numbers : (t : Ty) → is_value t ≡ true → Holds t) (text : Holds ty.Text) where
  -- .. of an operand
  abbrev pub HoldsIfAny : ExprType → Type 0
  HoldsIfAny (Of t) = Holds t
  HoldsIfAny NullPointer = Unit {0}
  HoldsIfAny TextLiteral = Unit {0}

  -- a type that is given under a test
  under : (test : Bool) (u t : Ty) → Holds u → given test u ≡ Some t → Holds t
  under true u t held e = let same : u ≡ t = cc in subst Holds same held
  under false u t held e = absurd (cc)

  boolean : Holds ty.Bool
  boolean = numbers ty.Bool refl

  promoted_holds : (a b : Ty) → Holds (promoted a b)
  promoted_holds a b = go (is_size a || is_size b) (is_long a || is_long b)
    where
      go : (first second : Bool) → Holds (if first then ty.Size else (if second then ty.Long else ty.Int))
      go true second = numbers ty.Size refl
      go false true = numbers ty.Long refl
      go false false = numbers ty.Int refl

  arithmetic_holds : (a b t : Ty) → arithmetic a b ≡ Some t → Holds t
  arithmetic_holds a b t e = under (is_value a && is_value b) (promoted a b) t (promoted_holds a b) e

  concatenated_holds : (a b t : Ty) → concatenated a b ≡ Some t → Holds t
  concatenated_holds a b t e = under (is_joined a && is_joined b) ty.Text t text e

  moved_or : (iterator : Bool) (a b t : Ty) → Holds a → (if iterator then moved a b else arithmetic a b) ≡ Some t → Holds t
  moved_or true a b t held e = under (is_value b) a t held e
  moved_or false a b t held e = arithmetic_holds a b t e

  added_holds : (joins : Bool) (a b t : Ty) → Holds a → (if joins then concatenated a b else (if is_iterator a then moved a b else arithmetic a b)) ≡ Some t → Holds t
  added_holds true a b t held e = concatenated_holds a b t e
  added_holds false a b t held e = moved_or (is_iterator a) a b t held e

  equated_holds : (a b : ExprType) (t : Ty) → equated a b ≡ Some t → Holds t
  equated_holds (Of a) (Of b) t e = under (are_equated a b) ty.Bool t boolean e
  equated_holds (Of a) TextLiteral t e = under (is_text_like a) ty.Bool t boolean e
  equated_holds TextLiteral (Of b) t e = under (is_text_like b) ty.Bool t boolean e
  equated_holds (Of a) NullPointer t e = under (is_nullable a) ty.Bool t boolean e
  equated_holds NullPointer (Of b) t e = under (is_nullable b) ty.Bool t boolean e
  equated_holds NullPointer NullPointer t e = absurd (cc)
  equated_holds NullPointer TextLiteral t e = absurd (cc)
  equated_holds TextLiteral NullPointer t e = absurd (cc)
  equated_holds TextLiteral TextLiteral t e = absurd (cc)

  ordered_holds : (a b : ExprType) (t : Ty) → ordered a b ≡ Some t → Holds t
  ordered_holds (Of a) (Of b) t e = under (is_value a && is_value b) ty.Bool t boolean e
  ordered_holds (Of a) NullPointer t e = absurd (cc)
  ordered_holds (Of a) TextLiteral t e = absurd (cc)
  ordered_holds NullPointer b t e = absurd (cc)
  ordered_holds TextLiteral b t e = absurd (cc)

  multiplied_holds : (a b : ExprType) (t : Ty) → multiplied a b ≡ Some t → Holds t
  multiplied_holds (Of a) (Of b) t e = arithmetic_holds a b t e
  multiplied_holds (Of a) NullPointer t e = absurd (cc)
  multiplied_holds (Of a) TextLiteral t e = absurd (cc)
  multiplied_holds NullPointer b t e = absurd (cc)
  multiplied_holds TextLiteral b t e = absurd (cc)

  answer_holds : (operator : BinaryOperator) (a b : ExprType) (t : Ty) → HoldsIfAny a → answer operator a b ≡ Some t → Holds t
  answer_holds operators.Or a b t held e = under (is_condition a && is_condition b) ty.Bool t boolean e
  answer_holds operators.And a b t held e = under (is_condition a && is_condition b) ty.Bool t boolean e
  answer_holds operators.Equal a b t held e = equated_holds a b t e
  answer_holds operators.NotEqual a b t held e = equated_holds a b t e
  answer_holds operators.Less a b t held e = ordered_holds a b t e
  answer_holds operators.LessEqual a b t held e = ordered_holds a b t e
  answer_holds operators.Greater a b t held e = ordered_holds a b t e
  answer_holds operators.GreaterEqual a b t held e = ordered_holds a b t e
  answer_holds operators.Add (Of a) (Of b) t held e = added_holds (is_text a || is_text b) a b t held e
  answer_holds operators.Add (Of a) TextLiteral t held e = under (is_text a) ty.Text t text e
  answer_holds operators.Add TextLiteral (Of b) t held e = under (is_text b) ty.Text t text e
  answer_holds operators.Add (Of a) NullPointer t held e = absurd (cc)
  answer_holds operators.Add NullPointer b t held e = absurd (cc)
  answer_holds operators.Add TextLiteral NullPointer t held e = absurd (cc)
  answer_holds operators.Add TextLiteral TextLiteral t held e = absurd (cc)
  answer_holds operators.Subtract (Of a) (Of b) t held e = moved_or (is_iterator a) a b t held e
  answer_holds operators.Subtract (Of a) NullPointer t held e = absurd (cc)
  answer_holds operators.Subtract (Of a) TextLiteral t held e = absurd (cc)
  answer_holds operators.Subtract NullPointer b t held e = absurd (cc)
  answer_holds operators.Subtract TextLiteral b t held e = absurd (cc)
  answer_holds operators.Multiply a b t held e = multiplied_holds a b t e
  answer_holds operators.Divide a b t held e = multiplied_holds a b t e
  answer_holds operators.Remainder a b t held e = multiplied_holds a b t e

  pub combined_holds : (operator : BinaryOperator) (a b : ExprType) (t : Ty) → HoldsIfAny a → combined operator a b ≡ Ok t → Holds t
  combined_holds operator a b t held e = go (answer operator a b) refl e
    where
      go : (r : Option Ty) → answer operator a b ≡ r → answered r (misfit operator a b) ≡ Ok t → Holds t
      go (Some u) is e = let same : u ≡ t = cc in answer_holds operator a b t held (is ∙ ap Some same)
      go None is e = absurd (cc)

  pub negated_holds : (a : ExprType) (t : Ty) → negated a ≡ Ok t → Holds t
  negated_holds (Of a) t e = go (is_value a) e
    where
      go : (b : Bool) → ◌≡◌ {A = Result Ty Misfit} (if b then Ok (promoted a a) else Err General) (Ok t) → Holds t
      go true e = let same : promoted a a ≡ t = cc in subst Holds same (promoted_holds a a)
      go false e = absurd (cc)
  negated_holds NullPointer t e = absurd (cc)
  negated_holds TextLiteral t e = absurd (cc)
