-- An expression in which `&&` and `||` stand in parentheses, brackets and lists alone is written in one way, whatever token stands behind it. Such is each item of `std::cout << a << b`, which is a sum: so nothing ends at the `<<` behind it.
use Rattle.std.proofs.Common.{◌≡◌, ℕ, Bool, true, false, not as isnt, ◌&&◌, cond, if◌then◌else◌, List, [], ◌∷◌, Option, Some, None, refl, sym, ap, ◌∙◌, true≢false}
use Rattle.std.proofs.lemmas.Bool.{and_parts}
use Rattle.life_types.specs.declared.place.Place.{Place}
use Rattle.life_types.specs.TypeTests.{is_iterator, is_value}
use Rattle.life_types.specs.declared.ty.Ty.{Ty}
use Rattle.life_types.specs.declared.ty.Ty.TheVariants as ty
use Rattle.life_types.specs.declared.ty.TyId.{TyId}
use Rattle.life_typed.specs.Programs.{ProgramForm}
use Rattle.life_typed.specs.TypedForm.{Form, binary, method, negate, not, text_of, typed, whole}
use Rattle.life_typed.specs.Delimiters.{DelimitersForm}
use Rattle.life_typed.specs.declared.typed_expr.BinaryOperator.{BinaryOperator}
use Rattle.life_typed.specs.declared.typed_expr.BinaryOperator.TheVariants as operators
use Rattle.life_typed.specs.declared.typed_expr.Category.{Category}
use Rattle.life_typed.specs.declared.typed_expr.Category.TheVariants as category
use Rattle.life_typed.specs.declared.typed_expr.ExprType.{ExprType}
use Rattle.life_typed.specs.declared.typed_expr.Method.{Method}
use Rattle.life_typed.specs.declared.typed_expr.Method.TheVariants as methods
use Rattle.life_typed.specs.TypedStatement.{ItemForm, printed, line_end}
use Rattle.life_typed.specs.declared.typed_program.TypedLocal.{TypedLocal}
use Rattle.life_well_typed.specs.Apart.{is_apart, joins as joins_operands}
use Rattle.life_well_typed.specs.Statements.{AreItems}
use Rattle.life_core.specs.declared.instr.Direction.TheVariants.{Forward, Backward}
use Rattle.life_core.specs.declared.operation.Operator.{Operator}
use Rattle.life_core.specs.declared.operation.Operator.TheVariants as core
use Rattle.life_core.specs.Step.{Ports, Writes, WritesView}
use Rattle.life_writer.specs.Around.{Around, operand_type, own_type}
use Rattle.life_writer.specs.Characters.{seen, viewed}
use Rattle.life_writer.specs.Conditions.{negation}
use Rattle.life_writer.specs.ExpressionForms.{all_uses, binary_uses, form_uses, uses}
use Rattle.life_writer.specs.MethodForms.{method_uses}
use Rattle.life_writer.specs.OwnerForms.{string_of, string_of_string}
use Rattle.life_writer.specs.Registers.{as_type, computed}
use Rattle.life_writer.specs.Rows.{added, beside_null, common, compared, joins, row_between, row_of, subtracted, unless_null}
use Rattle.life_writer.specs.Uses.{Uses, own}
use Rattle.life_writer.specs.Using.{condition, condition_by, nullable, value}
use Rattle.life_writer.specs.Values as values
use Rattle.life_writer.specs.Writing.{State, Gives, ◌>>◌, emit}
use Rattle.life_writer.specs.declared.behind.Behind.{Behind}
use Rattle.life_writer.specs.declared.rows.Row.{Row}
use Rattle.life_writer.specs.declared.rows.Row.TheVariants as row
use Rattle.life_writer.specs.declared.rows.Side.{Side}
use Rattle.life_elab.specs.StatementForms.{items}

-- no `&&` and no `||` stands in it but in parentheses, brackets and lists
abbrev pub IsApart : Form → Type 0
IsApart (typed place t category form) = IsApart form
IsApart (negate e) = IsApart e
IsApart (not e) = IsApart e
IsApart (binary o left right) = (joins (row_between o left right) ≡ false) × IsApart left × IsApart right
IsApart _ = Unit {0}

abbrev pub AreApart : List ItemForm → Type 0
AreApart [] = Unit {0}
AreApart (printed e ∷ is) = IsApart (whole e) × AreApart is
AreApart (line_end place ∷ is) = AreApart is

module _ (a : Around) (one other : Place) where
  -- the same token in both, but for the one behind it
  abbrev first : Option Place → Behind
  first ends = record { token = one; ends = ends }

  abbrev second : Option Place → Behind
  second ends = record { token = other; ends = ends }

  -- ---- what looks at no token behind it

  -- what isn't a `&&` or `||` tests nothing to its right
  no_join : (w : Row) → joins w ≡ false → (left right : Uses) (place : Place) (t : ExprType) (c : Category) (ends : Option Place)
      → (binary_uses w left right place t c).decision (first ends) ≡ (binary_uses w left right place t c).decision (second ends)
  no_join (row.Joined by) h left right place t c ends = absurd (true≢false h)
  no_join (row.Computed by common) h left right place t c ends = refl
  no_join (row.IsNull side) h left right place t c ends = refl
  no_join (row.NotNull side) h left right place t c ends = refl
  no_join row.Concatenated h left right place t c ends = refl
  no_join (row.Advanced direction) h left right place t c ends = refl
  no_join (row.Compared equal) h left right place t c ends = refl

  by_row : (w : Row) (left right : Uses) (place : Place) (t : ExprType) (c : Category) (into : Option ℕ) (s : State)
      → ((u : Ty) (s : State) → value left one u None s ≡ value left other u None s) → ((u : Ty) (s : State) → value right one u None s ≡ value right other u None s)
      → (binary_uses w left right place t c).made one into s ≡ (binary_uses w left right place t c).made other into s
  by_row (row.Computed by common) left right place t c into s l r = λ i. values.operated into (own_type t) place by (λ s. l common s i) (λ s. r common s i) s
  by_row (row.Joined by) left right place t c into s l r = refl
  by_row (row.IsNull side) left right place t c into s l r = refl
  by_row (row.NotNull side) left right place t c into s l r = refl
  by_row row.Concatenated left right place t c into s l r = refl
  by_row (row.Advanced direction) left right place t c into s l r = refl
  by_row (row.Compared equal) left right place t c into s l r = refl

  method_decision : (m : Method) (e : Uses) (es : List Uses) (d : DelimitersForm) (place : Place) (t : ExprType) (c : Category) (ends : Option Place)
      → (method_uses a e m es d place t c).decision (first ends) ≡ (method_uses a e m es d place t c).decision (second ends)
  method_decision methods.Size e es d place t c ends = refl
  method_decision methods.Empty e es d place t c ends = refl
  method_decision methods.Front e es d place t c ends = refl
  method_decision methods.Back e es d place t c ends = refl
  method_decision methods.Begin e es d place t c ends = refl
  method_decision methods.End e es d place t c ends = refl
  method_decision methods.PushBack e es d place t c ends = refl
  method_decision methods.PopBack e es d place t c ends = refl
  method_decision methods.Clear e es d place t c ends = refl
  method_decision methods.Reserve e es d place t c ends = refl
  method_decision methods.Erase e es d place t c ends = refl
  method_decision methods.Get e es d place t c ends = refl
  method_decision methods.Reset e es d place t c ends = refl
  method_decision methods.Subspan e es d place t c ends = refl
  method_decision methods.Substr e es d place t c ends = refl

  method_made : (m : Method) (e : Uses) (es : List Uses) (d : DelimitersForm) (place : Place) (t : ExprType) (c : Category) (into : Option ℕ) (s : State)
      → (method_uses a e m es d place t c).made one into s ≡ (method_uses a e m es d place t c).made other into s
  method_made methods.Size e es d place t c into s = refl
  method_made methods.Empty e es d place t c into s = refl
  method_made methods.Front e es d place t c into s = refl
  method_made methods.Back e es d place t c into s = refl
  method_made methods.Begin e es d place t c into s = refl
  method_made methods.End e es d place t c into s = refl
  method_made methods.PushBack e es d place t c into s = refl
  method_made methods.PopBack e es d place t c into s = refl
  method_made methods.Clear e es d place t c into s = refl
  method_made methods.Reserve e es d place t c into s = refl
  method_made methods.Erase e es d place t c into s = refl
  method_made methods.Get e es d place t c into s = refl
  method_made methods.Reset e es d place t c into s = refl
  method_made methods.Subspan e es d place t c into s = refl
  method_made methods.Substr e es d place t c into s = refl

  string_decision : (k : Category) (e : Uses) (place : Place) (t : ExprType) (c : Category) (ends : Option Place)
      → (string_of_string k e place t c).decision (first ends) ≡ (string_of_string k e place t c).decision (second ends)
  string_decision category.Value e place t c ends = refl
  string_decision (category.Place id constant) e place t c ends = refl

  string_made : (k : Category) (e : Uses) (place : Place) (t : ExprType) (c : Category) (into : Option ℕ) (s : State) → (string_of_string k e place t c).made one into s ≡ (string_of_string k e place t c).made other into s
  string_made category.Value e place t c into s = refl
  string_made (category.Place id constant) e place t c into s = refl

  text_decision : (u : Ty) (e : Uses) (place : Place) (t : ExprType) (c : Category) (ends : Option Place) → (string_of u e place t c).decision (first ends) ≡ (string_of u e place t c).decision (second ends)
  text_decision ty.Text e place t c ends = string_decision e.category e place t c ends
  text_decision ty.Void e place t c ends = refl
  text_decision ty.Bool e place t c ends = refl
  text_decision ty.Char e place t c ends = refl
  text_decision ty.Int e place t c ends = refl
  text_decision ty.Long e place t c ends = refl
  text_decision ty.Size e place t c ends = refl
  text_decision ty.View e place t c ends = refl
  text_decision (ty.Vector x) e place t c ends = refl
  text_decision (ty.Unique x) e place t c ends = refl
  text_decision (ty.Raw x y) e place t c ends = refl
  text_decision (ty.Reference x y) e place t c ends = refl
  text_decision (ty.Iterator x y) e place t c ends = refl
  text_decision (ty.Span x y) e place t c ends = refl
  text_decision (ty.Struct n) e place t c ends = refl

  text_made : (u : Ty) (e : Uses) (place : Place) (t : ExprType) (c : Category) (into : Option ℕ) (s : State) → (string_of u e place t c).made one into s ≡ (string_of u e place t c).made other into s
  text_made ty.Text e place t c into s = string_made e.category e place t c into s
  text_made ty.Void e place t c into s = refl
  text_made ty.Bool e place t c into s = refl
  text_made ty.Char e place t c into s = refl
  text_made ty.Int e place t c into s = refl
  text_made ty.Long e place t c into s = refl
  text_made ty.Size e place t c into s = refl
  text_made ty.View e place t c into s = refl
  text_made (ty.Vector x) e place t c into s = refl
  text_made (ty.Unique x) e place t c into s = refl
  text_made (ty.Raw x y) e place t c into s = refl
  text_made (ty.Reference x y) e place t c into s = refl
  text_made (ty.Iterator x y) e place t c into s = refl
  text_made (ty.Span x y) e place t c into s = refl
  text_made (ty.Struct n) e place t c into s = refl

  -- ---- any expression

  mutual
    pub same_value : (e : Form) → IsApart e → (to : Ty) (into : Option ℕ) (s : State) → value (uses a e) one to into s ≡ value (uses a e) other to into s
    same_value (typed place t c form) h to into s = λ i.
        as_type (own_type t) to place (values.value_from (own_type t) place c (same_decision form h place t c None i) (form_uses a form place t c).at (λ into s. same_made form h place t c into s i)) into s
    same_value _ h to into s = refl

    same_made : (form : Form) → IsApart form → (place : Place) (t : ExprType) (c : Category) (into : Option ℕ) (s : State) → (form_uses a form place t c).made one into s ≡ (form_uses a form place t c).made other into s
    same_made (negate e) h place t c into s = ap (λ (w : Gives ℕ). w >> λ r s. computed into (own_type t) place (values.negated r) s) (same_value e h (own_type t) None s)
    same_made (binary o left right) h place t c into s =
        by_row (row_between o left right) (uses a left) (uses a right) place t c into s (λ u s. same_value left h.1 u None s) (λ u s. same_value right h.2 u None s)
    same_made (method e m es d) h place t c into s = method_made m (uses a e) (all_uses a es) d place t c into s
    same_made (text_of e closing) h place t c into s = text_made (own (uses a e)) (uses a e) place t c into s
    same_made _ h place t c into s = refl

    same_condition : (e : Form) → IsApart e → (ends : Option Place) (s : State) → condition (uses a e) (first ends) s ≡ condition (uses a e) (second ends) s
    same_condition (typed place t c form) h ends s = λ i.
        condition_by (same_decision form h place t c ends i) (own_type t) place ends (nullable (uses a (typed place t c form)))
        (values.read_or_made (own_type t) place c (form_uses a form place t c).at (λ into s. same_made form h place t c into s i) None)
        s
    same_condition _ h ends s = refl

    same_decision : (form : Form) → IsApart form → (place : Place) (t : ExprType) (c : Category) (ends : Option Place) → (form_uses a form place t c).decision (first ends) ≡ (form_uses a form place t c).decision (second ends)
    same_decision (not e) h place t c ends = λ i. Some (negation (λ s. same_condition e h ends s i))
    same_decision (binary o left right) h place t c ends = no_join (row_between o left right) h.0 (uses a left) (uses a right) place t c ends
    same_decision (method e m es d) h place t c ends = method_decision m (uses a e) (all_uses a es) d place t c ends
    same_decision (text_of e closing) h place t c ends = text_decision (own (uses a e)) (uses a e) place t c ends
    same_decision _ h place t c ends = refl

  -- so are all items of an output
  pub same_items : (is : List ItemForm) → AreApart is → (s : State) → items a is one s ≡ items a is other s
  same_items [] h s = refl
  same_items (printed e ∷ is) h s =
      ap (λ (w : Gives ℕ). items a is one (cond (is_value (own_type e.ty)) (emit e.place (Ports (Writes w.given)) w.state) (seen (uses a (whole e)) s >> λ x s. viewed x s >> λ l s. emit e.place (Ports (WritesView l)) s)))
      (same_value (whole e) h.0 (own_type e.ty) None s)
      ∙ same_items is h.1 _
  same_items (line_end place ∷ is) h s = same_items is h _

-- ---- typing gives items that are apart

compared_joins : (by : Operator) (equal : Bool) (left right : ExprType) → joins (compared by equal left right) ≡ false
compared_joins by equal left right = go (is_value (own_type left))
  where
    go : (b : Bool) → joins (if b then row.Computed by (common left right) else row.Compared equal) ≡ false
    go true = refl
    go false = refl

unless_joins : (side : Option Side) (null : Side → Row) (otherwise : Row) → ((s : Side) → joins (null s) ≡ false) → joins otherwise ≡ false → joins (unless_null side null otherwise) ≡ false
unless_joins None null otherwise tested other = other
unless_joins (Some side) null otherwise tested other = tested side

added_joins : (left right : ExprType) → joins (added left right) ≡ false
added_joins left right = go (is_iterator (own_type left)) (is_value (own_type left) && is_value (own_type right))
  where
    go : (a b : Bool) → joins (if a then row.Advanced Forward else (if b then row.Computed core.Add (common left right) else row.Concatenated)) ≡ false
    go true b = refl
    go false true = refl
    go false false = refl

subtracted_joins : (left right : ExprType) → joins (subtracted left right) ≡ false
subtracted_joins left right = go (is_iterator (own_type left))
  where
    go : (a : Bool) → joins (if a then row.Advanced Backward else row.Computed core.Subtract (common left right)) ≡ false
    go true = refl
    go false = refl

row_joins : (o : BinaryOperator) (left right : ExprType) → joins_operands o ≡ false → joins (row_of o left right) ≡ false
row_joins operators.Or left right h = absurd (true≢false h)
row_joins operators.And left right h = absurd (true≢false h)
row_joins operators.Equal left right h = unless_joins (beside_null left right) row.IsNull (compared core.Equal true left right) (λ s. refl) (compared_joins core.Equal true left right)
row_joins operators.NotEqual left right h = unless_joins (beside_null left right) row.NotNull (compared core.NotEqual false left right) (λ s. refl) (compared_joins core.NotEqual false left right)
row_joins operators.Less left right h = refl
row_joins operators.LessEqual left right h = refl
row_joins operators.Greater left right h = refl
row_joins operators.GreaterEqual left right h = refl
row_joins operators.Add left right h = added_joins left right
row_joins operators.Subtract left right h = subtracted_joins left right
row_joins operators.Multiply left right h = refl
row_joins operators.Divide left right h = refl
row_joins operators.Remainder left right h = refl

isnt_true : (b : Bool) → isnt b ≡ true → b ≡ false
isnt_true true h = absurd (true≢false (sym h))
isnt_true false h = refl

apart_form : (e : Form) → is_apart e ≡ true → IsApart e
apart_form (typed place t c form) h = apart_form form h
apart_form (negate e) h = apart_form e h
apart_form (not e) h = apart_form e h
apart_form (binary o left right) h =
    let own = and_parts (isnt (joins_operands o)) (is_apart left && is_apart right) h in
    let both = and_parts (is_apart left) (is_apart right) own.1 in
    (row_joins o (operand_type left) (operand_type right) (isnt_true (joins_operands o) own.0), apart_form left both.0, apart_form right both.1)
apart_form _ h = tt

pub items_apart : (p : ProgramForm) (locals : List TypedLocal) (result : TyId) (visible : List ℕ) (is : List ItemForm) → AreItems p locals result visible is → AreApart is
items_apart p locals result visible [] h = tt
items_apart p locals result visible (printed e ∷ is) h = (apart_form e.form h.0.1, items_apart p locals result visible is h.1)
items_apart p locals result visible (line_end place ∷ is) h = items_apart p locals result visible is h.1
