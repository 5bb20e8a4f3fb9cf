-- What typing lets stand beside each row of an operator: one lemma for the whole table, of operands of every type.
use Rattle.std.proofs.Common.{◌≡◌, ◌⊎◌, inl, inr, Bool, true, false, ◌&&◌, ◌||◌, cond, Some, None, refl, sym, ap, ◌∙◌, subst}
use Rattle.std.proofs.lemmas.Bool.{and_parts, false≢true, or_cases, or_left}
use Rattle.life_types.specs.TypeTests.{is_iterator, is_text, is_value, is_view}
use Rattle.life_types.specs.declared.ty.Ty.{Ty}
use Rattle.life_types.specs.declared.ty.Ty.TheVariants as ty
use Rattle.life_typed.specs.Operators.{added_types, answer, are_equated, are_iterators_of_one, arithmetic, concatenated, is_condition, is_joined, is_literal, is_nullable, is_text_like, moved, promoted, subtracted_types}
use Rattle.life_typed.specs.Statements.{appended_to_text}
use Rattle.life_typed.specs.TypedForm.{Form, typed}
use Rattle.life_typed.specs.declared.typed_expr.BinaryOperator.{BinaryOperator}
use Rattle.life_typed.specs.declared.typed_expr.BinaryOperator.TheVariants as operator
use Rattle.life_typed.specs.declared.typed_expr.ExprType.{ExprType}
use Rattle.life_typed.specs.declared.typed_expr.ExprType.TheVariants.{Of, NullPointer, TextLiteral}
use Rattle.life_type_expr.specs.Lists.{fits_at_all}
use Rattle.life_core.specs.declared.instr.Direction.TheVariants.{Backward, Forward}
use Rattle.life_core.specs.declared.operation.Operator.{Operator}
use Rattle.life_core.specs.declared.operation.Operator.TheVariants as core
use Rattle.life_well_typed.specs.Expressions.{typed_in}
use Rattle.life_well_typed.specs.Given.{is_number}
use Rattle.life_writer.specs.Around.{operand_type, own_type}
use Rattle.life_writer.specs.Conditions.{on}
use Rattle.life_writer.specs.Rows.{added, compared, row_between, row_of, subtracted}
use Rattle.life_writer.specs.declared.rows.Row.{Row}
use Rattle.life_writer.specs.declared.rows.Row.TheVariants.{Advanced, Compared, Computed, Concatenated, IsNull, Joined, NotNull}
use Rattle.life_proper.specs.OperandTypes.{is_promoted}
use Rattle.life_proper.specs.WellFormed.{answer_of}
use Rattle.life_elab_laws.proofs.TypedKinds.{given_true, none_some, promoted_value}
use Rattle.life_elab_laws.proofs.Values.{by_values}

-- ---- what stands beside a row

-- two numbers, and the type that the instruction answers
pub record IsComputed (by : Operator) (common : Ty) (l r : ExprType) (t : Ty) : Type 0 where
  pub left : is_number l ≡ true
  pub right : is_number r ≡ true
  pub promoted : is_promoted common ≡ true
  pub value : is_value common ≡ true
  pub answers : answer_of by common ≡ t
  pub worth : is_value t ≡ true

-- two conditions
pub record IsJoined (l r : ExprType) (t : Ty) : Type 0 where
  pub left : is_condition l ≡ true
  pub right : is_condition r ≡ true
  pub worth : is_value t ≡ true

-- what may be null
pub record IsTested (t : ExprType) (answer : Ty) : Type 0 where
  pub own : Ty
  pub is : t ≡ Of own
  pub nullable : is_nullable own ≡ true
  pub worth : is_value answer ≡ true

-- characters that are seen
abbrev pub sees : ExprType → Bool
sees (Of t) = is_text_like t
sees NullPointer = false
sees TextLiteral = true

-- iterators of one type
pub record AreIterators (l r : ExprType) : Type 0 where
  pub first : Ty
  pub second : Ty
  pub left : l ≡ Of first
  pub right : r ≡ Of second
  pub one : are_iterators_of_one first second ≡ true

pub record IsCompared (l r : ExprType) (t : Ty) : Type 0 where
  pub operands : ((sees l ≡ true) × (sees r ≡ true)) ⊎ AreIterators l r
  pub literals : (is_literal l && is_literal r) ≡ false
  pub answers : t ≡ ty.Bool

-- an iterator that is moved
pub record IsMoved (l r : ExprType) (t : Ty) : Type 0 where
  pub left : l ≡ Of t
  pub iterator : is_iterator t ≡ true
  pub right : is_number r ≡ true

-- what may be joined with a string, a string too may gain
abbrev pub Gains : ExprType → Type 0
Gains t = fits_at_all (appended_to_text t) ≡ true

-- texts that are joined, one of which is a string
pub record AreTexts (l r : ExprType) (t : Ty) : Type 0 where
  pub string : (is_text (own_type l) || is_text (own_type r)) ≡ true
  pub left : Gains l
  pub right : Gains r
  pub answers : t ≡ ty.Text

abbrev pub Fits : Row → (left right : ExprType) → Ty → Type 0
Fits (Computed by common) left right t = IsComputed by common left right t
Fits (Joined by) left right t = IsJoined left right t
Fits (IsNull side) left right t = IsTested (on side left right) t
Fits (NotNull side) left right t = IsTested (on side left right) t
Fits (Compared equal) left right t = IsCompared left right t
Fits (Advanced direction) left right t = IsMoved left right t
Fits Concatenated left right t = AreTexts left right t

-- ---- numbers

pub promoted_is : (a b : Ty) → is_promoted (promoted a b) ≡ true
promoted_is a b = go _ _
  where
    inner : (b : Bool) → is_promoted (cond b ty.Long ty.Int) ≡ true
    inner true = refl
    inner false = refl

    go : (b c : Bool) → is_promoted (cond b ty.Size (cond c ty.Long ty.Int)) ≡ true
    go true c = refl
    go false c = inner c

pub no_text : (t : Ty) → is_value t ≡ true → is_text_like t ≡ false
no_text = by_values (λ t. is_text_like t ≡ false) refl refl refl refl refl

no_iterator : (t : Ty) → is_value t ≡ true → is_iterator t ≡ false
no_iterator = by_values (λ t. is_iterator t ≡ false) refl refl refl refl refl

no_iterators : (t u : Ty) → is_value t ≡ true → are_iterators_of_one t u ≡ false
no_iterators t u v = by_values (λ t. are_iterators_of_one t u ≡ false) refl refl refl refl refl t v

bool_worth : (t : Ty) → ty.Bool ≡ t → is_value t ≡ true
bool_worth t e = subst (λ (u : Ty). is_value u ≡ true) e refl

-- two values, whose operator answers this
numbers : (by : Operator) (a b t : Ty) → (is_value a && is_value b) ≡ true → answer_of by (promoted a b) ≡ t → is_value t ≡ true → IsComputed by (promoted a b) (Of a) (Of b) t
numbers by a b t both answers worth =
    let parts = and_parts (is_value a) (is_value b) both in
    record { left = parts.0; right = parts.1; promoted = promoted_is a b; value = promoted_value a b; answers = answers; worth = worth }

-- .. what both are promoted to, or a bool
counted : (by : Operator) (a b t : Ty) → answer_of by (promoted a b) ≡ promoted a b → arithmetic a b ≡ Some t → IsComputed by (promoted a b) (Of a) (Of b) t
counted by a b t same e =
    let h = given_true (is_value a && is_value b) (promoted a b) t e in
    numbers by a b t h.0 (same ∙ h.1) (subst (λ (u : Ty). is_value u ≡ true) h.1 (promoted_value a b))

ordered : (by : Operator) (l r : ExprType) (t : Ty) → ((a b : Ty) → answer_of by (promoted a b) ≡ ty.Bool) → answer operator.Less l r ≡ Some t → IsComputed by (promoted (own_type l) (own_type r)) l r t
ordered by (Of a) (Of b) t bool e = let h = given_true (is_value a && is_value b) ty.Bool t e in numbers by a b t h.0 (bool a b ∙ h.1) (bool_worth t h.1)
ordered by (Of a) NullPointer t bool e = absurd (none_some e)
ordered by (Of a) TextLiteral t bool e = absurd (none_some e)
ordered by NullPointer r t bool e = absurd (none_some e)
ordered by TextLiteral r t bool e = absurd (none_some e)

multiplied : (by : Operator) (l r : ExprType) (t : Ty) → ((u : Ty) → answer_of by u ≡ u) → answer operator.Multiply l r ≡ Some t → IsComputed by (promoted (own_type l) (own_type r)) l r t
multiplied by (Of a) (Of b) t same e = counted by a b t (same (promoted a b)) e
multiplied by (Of a) NullPointer t same e = absurd (none_some e)
multiplied by (Of a) TextLiteral t same e = absurd (none_some e)
multiplied by NullPointer r t same e = absurd (none_some e)
multiplied by TextLiteral r t same e = absurd (none_some e)

-- ---- conditions

joined : (l r : ExprType) (t : Ty) → answer operator.And l r ≡ Some t → IsJoined l r t
joined l r t e =
    let h = given_true (is_condition l && is_condition r) ty.Bool t e in
    let parts = and_parts (is_condition l) (is_condition r) h.0 in
    record { left = parts.0; right = parts.1; worth = bool_worth t h.1 }

-- ---- comparisons

-- two of one kind
equals : (by : Operator) (equal : Bool) (a b t : Ty) → answer_of by (promoted a b) ≡ ty.Bool → answer operator.Equal (Of a) (Of b) ≡ Some t → Fits (compared by equal (Of a) (Of b)) (Of a) (Of b) t
equals by equal a b t bool e = go (is_value a) refl (or_cases ((is_value a && is_value b) || (is_text_like a && is_text_like b)) (are_iterators_of_one a b) h.0)
  where
    h : (are_equated a b ≡ true) × (ty.Bool ≡ t)
    h = given_true (are_equated a b) ty.Bool t e

    plain : (v : Bool) → is_value a ≡ v → ((is_value a && is_value b) ≡ true) ⊎ ((is_text_like a && is_text_like b) ≡ true) → Fits (cond v (Computed by (promoted a b)) (Compared equal)) (Of a) (Of b) t
    plain true v (inl both) = numbers by a b t both (bool ∙ h.1) (bool_worth t h.1)
    plain true v (inr x) = absurd (false≢true (sym (no_text a v) ∙ (and_parts (is_text_like a) (is_text_like b) x).0))
    plain false v (inl both) = absurd (false≢true (sym v ∙ (and_parts (is_value a) (is_value b) both).0))
    plain false v (inr x) = record { operands = inl (and_parts (is_text_like a) (is_text_like b) x); literals = refl; answers = sym h.1 }

    go : (v : Bool) → is_value a ≡ v → (((is_value a && is_value b) || (is_text_like a && is_text_like b)) ≡ true) ⊎ (are_iterators_of_one a b ≡ true)
        → Fits (cond v (Computed by (promoted a b)) (Compared equal)) (Of a) (Of b) t
    go v is (inl x) = plain v is (or_cases (is_value a && is_value b) (is_text_like a && is_text_like b) x)
    go true v (inr x) = absurd (false≢true (sym (no_iterators a b v) ∙ x))
    go false v (inr x) = record { operands = inr (record { first = a; second = b; left = refl; right = refl; one = x }); literals = refl; answers = sym h.1 }

-- .. or a text and a literal, or what may be null and nullptr
equated : (o : BinaryOperator) (l r : ExprType) (t : Ty) → answer operator.Equal l r ≡ Some t
    → ((a b : Ty) → answer operator.Equal (Of a) (Of b) ≡ Some t → Fits (row_of o (Of a) (Of b)) (Of a) (Of b) t)
    → ((a : Ty) → IsTested (Of a) t → Fits (row_of o (Of a) NullPointer) (Of a) NullPointer t)
    → ((b : Ty) → IsTested (Of b) t → Fits (row_of o NullPointer (Of b)) NullPointer (Of b) t)
    → ((a : Ty) → is_text_like a ≡ true → t ≡ ty.Bool → Fits (row_of o (Of a) TextLiteral) (Of a) TextLiteral t)
    → ((b : Ty) → is_text_like b ≡ true → t ≡ ty.Bool → Fits (row_of o TextLiteral (Of b)) TextLiteral (Of b) t)
    → Fits (row_of o l r) l r t
equated o (Of a) (Of b) t e both right left text_right text_left = both a b e
equated o (Of a) NullPointer t e both right left text_right text_left = let h = given_true (is_nullable a) ty.Bool t e in right a (record { own = a; is = refl; nullable = h.0; worth = bool_worth t h.1 })
equated o NullPointer (Of b) t e both right left text_right text_left = let h = given_true (is_nullable b) ty.Bool t e in left b (record { own = b; is = refl; nullable = h.0; worth = bool_worth t h.1 })
equated o (Of a) TextLiteral t e both right left text_right text_left = let h = given_true (is_text_like a) ty.Bool t e in text_right a h.0 (sym h.1)
equated o TextLiteral (Of b) t e both right left text_right text_left = let h = given_true (is_text_like b) ty.Bool t e in text_left b h.0 (sym h.1)
equated o NullPointer NullPointer t e both right left text_right text_left = absurd (none_some e)
equated o NullPointer TextLiteral t e both right left text_right text_left = absurd (none_some e)
equated o TextLiteral NullPointer t e both right left text_right text_left = absurd (none_some e)
equated o TextLiteral TextLiteral t e both right left text_right text_left = absurd (none_some e)

-- a text beside a literal is no number
text_compared : (by : Operator) (equal : Bool) (a t : Ty) → is_text_like a ≡ true → t ≡ ty.Bool → Fits (compared by equal (Of a) TextLiteral) (Of a) TextLiteral t
text_compared by equal a t text answers = go (is_value a) refl
  where
    go : (v : Bool) → is_value a ≡ v → Fits (cond v (Computed by (promoted a ty.Void)) (Compared equal)) (Of a) TextLiteral t
    go true v = absurd (false≢true (sym (no_text a v) ∙ text))
    go false v = record { operands = inl (text, refl); literals = refl; answers = answers }

-- ---- sums

joined_gains : (t : Ty) → is_joined t ≡ true → Gains (Of t)
joined_gains ty.Text j = refl
joined_gains ty.Char j = refl
joined_gains _ j = absurd (false≢true j)

text_gains : (t : Ty) → is_text t ≡ true → Gains (Of t)
text_gains ty.Text x = refl
text_gains _ x = absurd (false≢true x)

-- of two operands with types
sums : (a b t : Ty) → added_types a b ≡ Some t → Fits (added (Of a) (Of b)) (Of a) (Of b) t
sums a b t e = go (is_text a || is_text b) refl (is_iterator a) refl e
  where
    row : (i : Bool) → is_iterator a ≡ i → (v : Bool) → (is_value a && is_value b) ≡ v → Fits (cond i (Advanced Forward) (cond v (Computed core.Add (promoted a b)) Concatenated)) (Of a) (Of b) t
        → Fits (added (Of a) (Of b)) (Of a) (Of b) t
    row i is v vs fit =
        subst (λ (j : Bool). Fits (cond j (Advanced Forward) (cond (is_value a && is_value b) (Computed core.Add (promoted a b)) Concatenated)) (Of a) (Of b) t) (sym is)
        (subst (λ (w : Bool). Fits (cond i (Advanced Forward) (cond w (Computed core.Add (promoted a b)) Concatenated)) (Of a) (Of b) t) (sym vs) fit)

    no_values : (is_text a || is_text b) ≡ true → (is_value a && is_value b) ≡ true → ⊥
    no_values text both =
        let parts = and_parts (is_value a) (is_value b) both in
        absurd_text (or_cases (is_text a) (is_text b) text) parts
      where
        absurd_text : (is_text a ≡ true) ⊎ (is_text b ≡ true) → (is_value a ≡ true) × (is_value b ≡ true) → ⊥
        absurd_text (inl x) v = false≢true (sym (no_text a v.0) ∙ or_left (is_text a) (is_view a) x)
        absurd_text (inr x) v = false≢true (sym (no_text b v.1) ∙ or_left (is_text b) (is_view b) x)

    joins_no_iterator : (x : Bool) → is_joined a ≡ x → cond (x && is_joined b) (Some ty.Text) None ≡ Some t → is_iterator a ≡ true → ⊥
    joins_no_iterator false is e i = none_some e
    joins_no_iterator true is e i = plain a is i
      where
        plain : (a : Ty) → is_joined a ≡ true → is_iterator a ≡ true → ⊥
        plain (ty.Iterator target constant) j i = false≢true j
        plain _ j i = false≢true i

    go : (x : Bool) → (is_text a || is_text b) ≡ x → (i : Bool) → is_iterator a ≡ i → cond x (concatenated a b) (cond i (moved a b) (arithmetic a b)) ≡ Some t → Fits (added (Of a) (Of b)) (Of a) (Of b) t
    go true text true is e = absurd (joins_no_iterator (is_joined a) refl e is)
    go true text false is e = joined_texts (is_value a && is_value b) refl
      where
        joined_texts : (v : Bool) → (is_value a && is_value b) ≡ v → Fits (added (Of a) (Of b)) (Of a) (Of b) t
        joined_texts true v = absurd (no_values text v)
        joined_texts false v =
            let h = given_true (is_joined a && is_joined b) ty.Text t e in
            let parts = and_parts (is_joined a) (is_joined b) h.0 in
            row false is false v (record { string = text; left = joined_gains a parts.0; right = joined_gains b parts.1; answers = sym h.1 })
    go false text true is e =
        let h = given_true (is_value b) a t e in
        row true is (is_value a && is_value b) refl (record { left = ap Of h.1; iterator = subst (λ (u : Ty). is_iterator u ≡ true) h.1 is; right = h.0 })
    go false text false is e =
        let both = (given_true (is_value a && is_value b) (promoted a b) t e).0 in
        row false is true both (counted core.Add a b t refl e)

sum : (l r : ExprType) (t : Ty) → answer operator.Add l r ≡ Some t → Fits (added l r) l r t
sum (Of a) (Of b) t e = sums a b t e
sum (Of a) TextLiteral t e = let h = given_true (is_text a) ty.Text t e in string a h.0 (sym h.1)
  where
    string : (a : Ty) → is_text a ≡ true → t ≡ ty.Text → Fits (added (Of a) TextLiteral) (Of a) TextLiteral t
    string ty.Text x is = record { string = refl; left = refl; right = refl; answers = is }
    string _ x is = absurd (false≢true x)
sum TextLiteral (Of b) t e = let h = given_true (is_text b) ty.Text t e in record { string = h.0; left = refl; right = text_gains b h.0; answers = sym h.1 }
sum (Of a) NullPointer t e = absurd (none_some e)
sum NullPointer (Of b) t e = absurd (none_some e)
sum NullPointer NullPointer t e = absurd (none_some e)
sum NullPointer TextLiteral t e = absurd (none_some e)
sum TextLiteral NullPointer t e = absurd (none_some e)
sum TextLiteral TextLiteral t e = absurd (none_some e)

differences : (a b t : Ty) → subtracted_types a b ≡ Some t → Fits (subtracted (Of a) (Of b)) (Of a) (Of b) t
differences a b t e = go (is_iterator a) refl e
  where
    go : (i : Bool) → is_iterator a ≡ i → cond i (moved a b) (arithmetic a b) ≡ Some t → Fits (cond i (Advanced Backward) (Computed core.Subtract (promoted a b))) (Of a) (Of b) t
    go true is e = let h = given_true (is_value b) a t e in record { left = ap Of h.1; iterator = subst (λ (u : Ty). is_iterator u ≡ true) h.1 is; right = h.0 }
    go false is e = counted core.Subtract a b t refl e

difference : (l r : ExprType) (t : Ty) → answer operator.Subtract l r ≡ Some t → Fits (subtracted l r) l r t
difference (Of a) (Of b) t e = differences a b t e
difference (Of a) NullPointer t e = absurd (none_some e)
difference (Of a) TextLiteral t e = absurd (none_some e)
difference NullPointer r t e = absurd (none_some e)
difference TextLiteral r t e = absurd (none_some e)

-- ---- the table

pub row_fits : (o : BinaryOperator) (l r : ExprType) (t : Ty) → answer o l r ≡ Some t → Fits (row_of o l r) l r t
row_fits operator.Or l r t e = joined l r t e
row_fits operator.And l r t e = joined l r t e
row_fits operator.Equal l r t e =
    equated operator.Equal l r t e (λ a b e. equals core.Equal true a b t refl e) (λ a h. h) (λ b h. h) (λ a x is. text_compared core.Equal true a t x is) (λ b x is. record { operands = inl (refl, x); literals = refl; answers = is })
row_fits operator.NotEqual l r t e =
    equated operator.NotEqual l r t e (λ a b e. equals core.NotEqual false a b t refl e) (λ a h. h) (λ b h. h) (λ a x is. text_compared core.NotEqual false a t x is) (λ b x is. record { operands = inl (refl, x); literals = refl; answers = is })
row_fits operator.Less l r t e = ordered core.Less l r t (λ a b. refl) e
row_fits operator.LessEqual l r t e = ordered core.LessEqual l r t (λ a b. refl) e
row_fits operator.Greater l r t e = ordered core.Greater l r t (λ a b. refl) e
row_fits operator.GreaterEqual l r t e = ordered core.GreaterEqual l r t (λ a b. refl) e
row_fits operator.Add l r t e = sum l r t e
row_fits operator.Subtract l r t e = difference l r t e
row_fits operator.Multiply l r t e = multiplied core.Multiply l r t (λ u. refl) e
row_fits operator.Divide l r t e = multiplied core.Divide l r t (λ u. refl) e
row_fits operator.Remainder l r t e = multiplied core.Remainder l r t (λ u. refl) e

-- ---- between two expressions

pub operand_typed : (form : Form) → operand_type form ≡ (typed_in form).ty
operand_typed (typed place t c form) = refl
operand_typed _ = refl

pub row_fits_between : (o : BinaryOperator) (left right : Form) (t : Ty) → answer o (typed_in left).ty (typed_in right).ty ≡ Some t → Fits (row_between o left right) (typed_in left).ty (typed_in right).ty t
row_fits_between o left right t e =
    subst (λ (l : ExprType). Fits (row_of o l (operand_type right)) (typed_in left).ty (typed_in right).ty t) (sym (operand_typed left))
    (subst (λ (r : ExprType). Fits (row_of o (typed_in left).ty r) (typed_in left).ty (typed_in right).ty t) (sym (operand_typed right))
    (row_fits o (typed_in left).ty (typed_in right).ty t e))
