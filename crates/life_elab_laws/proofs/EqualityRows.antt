-- What an operator does between operands of which one is an owner, an iterator or a span: it compares them where it asks whether they are equal, and what gives an owner joins them.
use Rattle.std.proofs.Common.{◌≡◌, ◌⊎◌, inl, inr, Bool, true, false, ◌||◌, cond, refl, sym, ap, ◌∙◌, subst}
use Rattle.std.proofs.lemmas.Bool.{false≢true}
use Rattle.life_types.specs.TypeTests.{is_iterator, is_value}
use Rattle.life_types.specs.declared.ty.Ty.{Ty}
use Rattle.life_types.specs.declared.ty.Ty.TheVariants as ty
use Rattle.life_elab_laws.proofs.FormKinds.{is_equality}
use Rattle.life_elab_laws.proofs.TypeKinds.{is_owner_type, is_walker_type, owns_elements}
use Rattle.life_typed.specs.Operators.{is_nullable}
use Rattle.life_typed.specs.TypedForm.{Form}
use Rattle.life_typed.specs.declared.typed_expr.BinaryOperator.{BinaryOperator}
use Rattle.life_typed.specs.declared.typed_expr.BinaryOperator.TheVariants as operator
use Rattle.life_typed.specs.declared.typed_expr.ExprType.{ExprType}
use Rattle.life_typed.specs.declared.typed_expr.ExprType.TheVariants.{NullPointer, Of, TextLiteral}
use Rattle.life_core.specs.declared.operation.Operator.{Operator}
use Rattle.life_core.specs.declared.operation.Operator.TheVariants as core
use Rattle.life_well_typed.specs.Expressions.{typed_in}
use Rattle.life_writer.specs.Around.{operand_type, own_type}
use Rattle.life_writer.specs.Conditions.{on}
use Rattle.life_writer.specs.Rows.{beside_null, common, compared, row_between, row_of, unless_null}
use Rattle.life_writer.specs.declared.rows.Row.{Row}
use Rattle.life_writer.specs.declared.rows.Row.TheVariants.{Advanced, Compared, Computed, Concatenated, IsNull, Joined, NotNull}
use Rattle.life_writer.specs.declared.rows.Side.{Side}
use Rattle.life_elab_laws.proofs.RowTypes.{Fits, IsTested, operand_typed}

-- texts are joined
abbrev pub concatenates : Row → Bool
concatenates Concatenated = true
concatenates _ = false

-- texts or iterators are compared
abbrev pub compares : Row → Bool
compares (Compared equal) = true
compares _ = false

-- ---- what gives an owner

no_value : (t : Ty) → owns_elements t ≡ true → is_value t ≡ true → ⊥
no_value ty.Text o v = false≢true v
no_value (ty.Vector item) o v = false≢true v
no_value _ o v = false≢true o

no_iterator : (t : Ty) → owns_elements t ≡ true → is_iterator t ≡ true → ⊥
no_iterator ty.Text o i = false≢true i
no_iterator (ty.Vector item) o i = false≢true i
no_iterator _ o i = false≢true o

row_joins : (w : Row) (l r : ExprType) (t : Ty) → owns_elements t ≡ true → Fits w l r t → concatenates w ≡ true
row_joins (Computed by common) l r t o fit = absurd (no_value t o fit.worth)
row_joins (Joined by) l r t o fit = absurd (no_value t o fit.worth)
row_joins (IsNull side) l r t o fit = absurd (no_value t o fit.worth)
row_joins (NotNull side) l r t o fit = absurd (no_value t o fit.worth)
row_joins (Compared equal) l r t o fit = absurd (false≢true (sym (ap owns_elements fit.answers) ∙ o))
row_joins (Advanced direction) l r t o fit = absurd (no_iterator t o fit.iterator)
row_joins Concatenated l r t o fit = refl

pub joins_texts : (op : BinaryOperator) (left right : Form) (t : Ty) → owns_elements t ≡ true → Fits (row_between op left right) (typed_in left).ty (typed_in right).ty t → concatenates (row_between op left right) ≡ true
joins_texts op left right t o fit = row_joins (row_between op left right) (typed_in left).ty (typed_in right).ty t o fit

-- ---- whether two are equal

-- an owner, an iterator or a span
abbrev pub is_ranged : ExprType → Bool
is_ranged t = is_owner_type t || is_walker_type t

ranged_no_value : (t : Ty) → is_ranged (Of t) ≡ true → is_value t ≡ false
ranged_no_value ty.Text q = refl
ranged_no_value (ty.Vector item) q = refl
ranged_no_value (ty.Iterator item constant) q = refl
ranged_no_value (ty.Span item constant) q = refl
ranged_no_value _ q = absurd (false≢true q)

ranged_not_null : (t u : Ty) → is_ranged (Of t) ≡ true → Of t ≡ Of u → is_nullable u ≡ true → ⊥
ranged_not_null t u q same n = go t q (subst (λ (x : Ty). is_nullable x ≡ true) (sym (own same)) n)
  where
    own : {x y : Ty} → Of x ≡ Of y → x ≡ y
    own e = cc

    go : (t : Ty) → is_ranged (Of t) ≡ true → is_nullable t ≡ true → ⊥
    go ty.Text q n = false≢true n
    go (ty.Vector item) q n = false≢true n
    go (ty.Iterator item constant) q n = false≢true n
    go (ty.Span item constant) q n = false≢true n
    go _ q n = false≢true q

-- what isn't computed is compared
apart : (by : Operator) (equal : Bool) (l r : ExprType) → is_value (own_type l) ≡ false → compares (compared by equal l r) ≡ true
apart by equal l r none = ap (λ (b : Bool). compares (cond b (Computed by (common l r)) (Compared equal))) none

-- an operator with a row for what is compared with nullptr
module _ (null : Side → Row) (tested : (side : Side) (l r : ExprType) (t : Ty) → Fits (null side) l r t → IsTested (on side l r) t) (by : Operator) (equal : Bool) where
  abbrev row : ExprType → ExprType → Row
  row l r = unless_null (beside_null l r) null (compared by equal l r)

  left_compares : (l r : ExprType) (t : Ty) → is_ranged l ≡ true → Fits (row l r) l r t → compares (row l r) ≡ true
  left_compares (Of u) NullPointer t q fit = let is = tested _ (Of u) NullPointer t fit in absurd (ranged_not_null u is.own q is.is is.nullable)
  left_compares (Of u) (Of v) t q fit = apart by equal (Of u) (Of v) (ranged_no_value u q)
  left_compares (Of u) TextLiteral t q fit = apart by equal (Of u) TextLiteral (ranged_no_value u q)
  left_compares NullPointer r t q fit = absurd (false≢true q)
  left_compares TextLiteral r t q fit = absurd (false≢true q)

  right_compares : (l r : ExprType) (t : Ty) → is_ranged r ≡ true → Fits (row l r) l r t → compares (row l r) ≡ true
  right_compares NullPointer (Of v) t q fit = let is = tested _ NullPointer (Of v) t fit in absurd (ranged_not_null v is.own q is.is is.nullable)
  right_compares TextLiteral (Of v) t q fit = refl
  right_compares (Of u) (Of v) t q fit = go (is_value u) refl fit
    where
      go : (b : Bool) → is_value u ≡ b → Fits (row (Of u) (Of v)) (Of u) (Of v) t → compares (row (Of u) (Of v)) ≡ true
      go false e fit = apart by equal (Of u) (Of v) e
      go true e fit = absurd (false≢true (sym (ranged_no_value v q) ∙ (subst (λ (w : Row). Fits w (Of u) (Of v) t) (ap (λ (b : Bool). cond b (Computed by (common (Of u) (Of v))) (Compared equal)) e) fit).right))
  right_compares l NullPointer t q fit = absurd (false≢true q)
  right_compares l TextLiteral t q fit = absurd (false≢true q)

equal_compares : (op : BinaryOperator) (l r : ExprType) (t : Ty) → is_equality op ≡ true → (is_ranged l ≡ true) ⊎ (is_ranged r ≡ true) → Fits (row_of op l r) l r t → compares (row_of op l r) ≡ true
equal_compares operator.Equal l r t e (inl q) fit = left_compares IsNull (λ side l r t fit. fit) core.Equal true l r t q fit
equal_compares operator.Equal l r t e (inr q) fit = right_compares IsNull (λ side l r t fit. fit) core.Equal true l r t q fit
equal_compares operator.NotEqual l r t e (inl q) fit = left_compares NotNull (λ side l r t fit. fit) core.NotEqual false l r t q fit
equal_compares operator.NotEqual l r t e (inr q) fit = right_compares NotNull (λ side l r t fit. fit) core.NotEqual false l r t q fit
equal_compares _ l r t e q fit = absurd (false≢true e)

pub compares_both : (op : BinaryOperator) (left right : Form) (t : Ty) → is_equality op ≡ true → (is_ranged (typed_in left).ty ≡ true) ⊎ (is_ranged (typed_in right).ty ≡ true)
    → Fits (row_between op left right) (typed_in left).ty (typed_in right).ty t → compares (row_between op left right) ≡ true
compares_both op left right t e q fit =
    let l = operand_typed left in
    let r = operand_typed right in
    let one = subst (λ (x : ExprType). Fits (row_of op x (operand_type right)) (typed_in left).ty (typed_in right).ty t) l fit in
    let both = subst (λ (x : ExprType). Fits (row_of op (typed_in left).ty x) (typed_in left).ty (typed_in right).ty t) r one in
    subst (λ (x : ExprType). compares (row_of op x (operand_type right)) ≡ true) (sym l)
    (subst (λ (x : ExprType). compares (row_of op (typed_in left).ty x) ≡ true) (sym r) (equal_compares op (typed_in left).ty (typed_in right).ty t e q both))
