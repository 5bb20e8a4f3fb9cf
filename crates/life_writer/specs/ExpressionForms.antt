-- Expressions of every form, by what their parts are: the one recursion of the translation of expressions (ISO/IEC 14882:2017 [expr]).
use Rattle.std.specs.Prelude.{ℕ, Bool, List, [], ◌∷◌, Option, Some, None, pos}
use Rattle.life_types.specs.declared.place.Place.{Place}
use Rattle.life_types.specs.declared.ty.Ty.{Ty}
use Rattle.life_types.specs.declared.ty.Ty.TheVariants as ty
use Rattle.life_typed.specs.Delimiters.{DelimitersForm}
use Rattle.life_typed.specs.TypedForm.{Form, ◌⨟◌, address_of, binary, boolean, call, character, construct, dereference, index, input, local, make_unique, member, method, move, negate, not, null, number, paren, text, text_of, typed}
use Rattle.life_typed.specs.declared.typed_expr.Category.{Category}
use Rattle.life_typed.specs.declared.typed_expr.Category.TheVariants as category
use Rattle.life_typed.specs.declared.typed_expr.ExprType.{ExprType}
use Rattle.life_typed.specs.declared.typed_expr.ExprType.TheVariants as expr_type
use Rattle.life_core.specs.Operands.{Location, Operand, Place as Aimed, Through, behind as through, whole}
use Rattle.life_core.specs.Step.{Advance, Same, Step}
use Rattle.life_core.specs.declared.operand.Which.TheVariants as which
use Rattle.life_writer.specs.Around.{Around, own_type, parameter_types, text_in, type_of}
use Rattle.life_writer.specs.Bases.{base, element, reference_to}
use Rattle.life_writer.specs.Behind.{closed_by, ending}
use Rattle.life_writer.specs.Building.{Fill, built}
use Rattle.life_writer.specs.Calls.{called, called_alone}
use Rattle.life_writer.specs.Characters.{seen, viewed}
use Rattle.life_writer.specs.Conditions.{joined, joined_by, negation, not_null, nowhere, on}
use Rattle.life_writer.specs.Giving.{arguments}
use Rattle.life_writer.specs.Lists.{listed}
use Rattle.life_writer.specs.MethodForms.{method_uses, pointing_uses}
use Rattle.life_writer.specs.OwnerForms.{concatenation_uses, literal_uses, make_unique_uses, move_uses, null_uses, string_uses}
use Rattle.life_writer.specs.Pointers.{As, By, aimed}
use Rattle.life_writer.specs.Registers.{computed, constant, wanted}
use Rattle.life_writer.specs.Rows.{row_between}
use Rattle.life_writer.specs.Uses.{Uses, filled, own, unused}
use Rattle.life_writer.specs.Using.{condition, location_in, nullable, operand, pointer, value, with_member}
use Rattle.life_writer.specs.Values as values
use Rattle.life_writer.specs.Variables.{variable, variable_place}
use Rattle.life_writer.specs.Writing.{State, Gives, gives, ◌>>◌, emit, mapped}
use Rattle.life_core.specs.declared.operation.Operator.{Operator}
use Rattle.life_writer.specs.declared.rows.Row.{Row}
use Rattle.life_writer.specs.declared.rows.Row.TheVariants.{Advanced, Compared, Computed, Concatenated, IsNull, Joined, NotNull}
use Rattle.life_core.specs.declared.instr.Direction.{Direction}

-- ---- values

abbrev pub computed_uses : (ℕ → Step) → Place → ExprType → Category → Uses
computed_uses step place t c = record (unused place t c) { made = λ behind into s. computed into (own_type t) place step s }

abbrev pub negated_uses : Uses → Place → ExprType → Category → Uses
negated_uses e place t c =
    record (unused place t c) { made = λ behind into s. value e behind (own_type t) None s >> λ r s. computed into (own_type t) place (values.negated r) s }

-- ---- names and members

-- a pointer is its own location, and anything else a place
abbrev pub variable_uses : ℕ → Place → ExprType → Category → Uses
variable_uses x place t c = record (unused place t c) {
  at = λ s. gives (variable_place s x) s;
  pointing = λ s. gives (As (whole (variable s x))) s;
  named = Some x;
}

abbrev pub member_at : Uses → ℕ → State → Gives Operand
member_at e m s = mapped (with_member m) (operand e s)

abbrev pub member_uses : Uses → ℕ → Place → ExprType → Category → Uses
member_uses e m place t c = record (unused place t c) {
  at = member_at e m;
  pointing = λ s. mapped (λ o. As (location_in o)) (member_at e m s);
}

-- in parentheses it is as without them, but for the token behind it
abbrev pub paren_uses : Uses → (closing : Place) → Place → ExprType → Category → Uses
paren_uses e closing place t c = record e {
  place = place;
  ty = t;
  category = c;
  made = λ behind into s. value e closing (own_type t) into s;
  decision = λ b. e.decision (closed_by closing b);
}

-- ---- what is pointed to

-- what a unique_ptr owns is reached as an element
abbrev pub target_at : Ty → Uses → Place → Category → State → Gives Operand
target_at (ty.Unique target) e place c s = base e s >> λ b s. element place c b which.Target s
target_at _ e place c s = mapped (λ p. Through p []) (pointer e (own e) s)

abbrev pub dereference_uses : Uses → Place → ExprType → Category → Uses
dereference_uses e place t c = record (unused place t c) { at = target_at (own e) e place c }

abbrev pub address_uses : Uses → Place → ExprType → Category → Uses
address_uses e place t c = pointing_uses (λ s. mapped (λ o. aimed (Aimed o)) (operand e s)) place t c

abbrev pub index_uses : Uses → Uses → (closing : Place) → Place → ExprType → Category → Uses
index_uses e i closing place t c =
    record (unused place t c) { at = λ s. base e s >> λ b s. value i closing ty.Size None s >> λ r s. element place c b (which.Index r) s }

-- ---- conditions

abbrev pub not_uses : Uses → Place → ExprType → Category → Uses
not_uses e place t c = record (unused place t c) { decision = λ b. Some (negation (condition e b)) }

-- ---- operators between operands

abbrev pub operated_uses : Operator → Ty → (left right : Uses) → Place → ExprType → Category → Uses
operated_uses operator common left right place t c =
    record (unused place t c) { made = λ behind into s. values.operated into (own_type t) place operator (value left behind common None) (value right behind common None) s }

-- an iterator by so many elements, which aren't converted; the count is a term, so a `&&` in it stands in parentheses or in a list
abbrev pub advanced_uses : Direction → (left right : Uses) → Place → ExprType → Category → Uses
advanced_uses direction left right place t c =
    pointing_uses (λ s. pointer left (own left) s >> λ q s. mapped (λ n. By (λ p. Advance p q n direction)) (value right place (own right) None s)) place t c

-- both are found first, and then seen, the left one first
abbrev pub compared_with : (equal : Bool) → (left right : Uses) → Place → Ty → Option ℕ → State → Gives ℕ
compared_with equal left right place t into s =
    seen left s >> λ x s. seen right s >> λ y s. viewed x s >> λ p s. viewed y s >> λ q s. computed into t place (λ r. Same r p q equal) s

abbrev pub compared_uses : (equal : Bool) → (left right : Uses) → Place → ExprType → Category → Uses
compared_uses equal left right place t c = record (unused place t c) { made = λ behind into s. compared_with equal left right place (own_type t) into s }

abbrev pub binary_uses : Row → (left right : Uses) → Place → ExprType → Category → Uses
binary_uses (Computed operator common) left right place t c = operated_uses operator common left right place t c
binary_uses (Joined by) left right place t c =
    record (unused place t c) { decision = λ b. Some (joined (joined_by by) (condition left (ending place)) (condition right (ending b.token))) }
binary_uses (IsNull side) left right place t c =
    record (unused place t c) { decision = λ b. Some (negation (not_null place b.ends (on side (nullable left) (nullable right)))) }
binary_uses (NotNull side) left right place t c =
    record (unused place t c) { decision = λ b. Some (not_null place b.ends (on side (nullable left) (nullable right))) }
binary_uses Concatenated left right place t c = concatenation_uses left right place t c
binary_uses (Advanced direction) left right place t c = advanced_uses direction left right place t c
binary_uses (Compared equal) left right place t c = compared_uses equal left right place t c

module _ (a : Around) where
  -- ---- calls

  abbrev pub called_with : ℕ → List Uses → DelimitersForm → State → Gives (Location → Step)
  called_with f es d s = mapped (called f) (arguments a es d (parameter_types a f) s)

  -- a result goes to a register, or where it initialises something; a reference is the place that it refers to
  abbrev pub call_uses : ℕ → List Uses → DelimitersForm → Place → ExprType → Category → Uses
  call_uses f es d place t c = record (unused place t c) {
    made = λ behind into s. called_with f es d s >> λ step s. built (Fill place step) (wanted place into (own_type t)) s;
    at = λ s. called_with f es d s >> λ step s. mapped through (built (Fill place step) (wanted place None (reference_to c)) s);
    pointing = λ s. mapped By (called_with f es d s);
    object = λ s. mapped (filled place) (called_with f es d s);
    call = Some (called_with f es d);
    alone = λ s. arguments a es d (parameter_types a f) s >> λ given s. emit place (called_alone f given) s;
  }

  -- ---- any expression

  abbrev mutual
    -- it stands where it does, whatever it is made of
    pub uses : Form → Uses
    uses (typed place t c form) = record (form_uses form place t c) { place = place; ty = t; category = c }
    uses _ = unused nowhere expr_type.NullPointer category.Value

    pub all_uses : Form → List Uses
    all_uses (e ⨟ es) = uses e ∷ all_uses es
    all_uses _ = []

    -- one that may be left out
    pub uses_if : Form → Option Uses
    uses_if (typed place t c form) = Some (record (form_uses form place t c) { place = place; ty = t; category = c })
    uses_if _ = None

    pub form_uses : Form → Place → ExprType → Category → Uses
    form_uses (number n) place t c = computed_uses (constant (values.long n)) place t c
    form_uses (character n) place t c = computed_uses (constant (pos n)) place t c
    form_uses (boolean b) place t c = computed_uses (constant (values.truth b)) place t c
    form_uses (text n) place t c = literal_uses (text_in a.program n) place t c
    form_uses null place t c = null_uses place t c
    form_uses (local x) place t c = variable_uses x place t c
    form_uses (call f es d) place t c = call_uses f (all_uses es) d place t c
    form_uses (construct structure es d) place t c = listed a (own_type t) place (all_uses es) d
    form_uses (paren e closing) place t c = paren_uses (uses e) closing place t c
    form_uses (move x) place t c = move_uses x place t c
    form_uses (make_unique target e closing) place t c = make_unique_uses (type_of a target) (uses_if e) closing place t c
    form_uses (text_of e closing) place t c = string_uses (uses e) place t c
    form_uses input place t c = computed_uses values.input place t c
    form_uses (member e m) place t c = member_uses (uses e) m place t c
    form_uses (dereference e) place t c = dereference_uses (uses e) place t c
    form_uses (index e i closing) place t c = index_uses (uses e) (uses i) closing place t c
    form_uses (method e called es d) place t c = method_uses a (uses e) called (all_uses es) d place t c
    form_uses (negate e) place t c = negated_uses (uses e) place t c
    form_uses (not e) place t c = not_uses (uses e) place t c
    form_uses (address_of e) place t c = address_uses (uses e) place t c
    form_uses (binary operator left right) place t c = binary_uses (row_between operator left right) (uses left) (uses right) place t c
    form_uses _ place t c = unused place t c
