-- Chains of operators, of what is cut out of a view or a span, and of places within places.
use Rattle.std.specs.Prelude.{◌≡◌, ◌&&◌, ◌+◌, ◌<◌, ◌≤◌, ℕ, Bool, true, false, IsTrue, List, [], ◌∷◌, Option, Some, None, length, slice_get, take}
use Rattle.life_types.specs.TypeTests.{is_pointer, is_text, is_unique}
use Rattle.life_types.specs.declared.place.Place.{Place}
use Rattle.life_types.specs.declared.ty.Ty.{Ty}
use Rattle.life_types.specs.declared.ty.Ty.TheVariants.{Size, Span, View}
use Rattle.life_typed.specs.Delimiters.{DelimitersForm, behind_first, behind_others}
use Rattle.life_typed.specs.TypedForm.{Form, ◌⨟◌, binary, dereference, forms, index, member, method, typed, typed_views, whole}
use Rattle.life_typed.specs.declared.typed_expr.BinaryOperator.{BinaryOperator}
use Rattle.life_typed.specs.declared.typed_expr.Category.{Category}
use Rattle.life_typed.specs.declared.typed_expr.Category.TheVariants as category
use Rattle.life_typed.specs.declared.typed_expr.ExprType.{ExprType}
use Rattle.life_typed.specs.declared.typed_expr.Method.{Method}
use Rattle.life_typed.specs.declared.typed_expr.Method.TheVariants.{Back, Front, Subspan, Substr}
use Rattle.life_typed.specs.declared.typed_expr.TypedOperand.{TypedOperand}
use Rattle.life_core.specs.Operands.{Location, Null, Operand, Owner, object_named}
use Rattle.life_core.specs.Step.{Advance, Cut}
use Rattle.life_core.specs.Tree.{Tree}
use Rattle.life_core.specs.declared.instr.Form.TheVariants.{Plain}
use Rattle.life_core.specs.declared.operand.Which.TheVariants as which
use Rattle.life_writer.specs.declared.chains.Chain.{Chain}
use Rattle.life_writer.specs.declared.chains.Chain.TheVariants as chain
use Rattle.life_writer.specs.declared.parts.Shape.{Shape}
use Rattle.life_writer.specs.declared.parts.Shape.TheVariants as shape
use Rattle.life_writer.specs.declared.rows.Row.{Row}
use Rattle.life_writer.specs.declared.rows.Row.TheVariants.{Advanced, Computed, Joined}
use Rattle.life_writer.specs.Around.{Around, own_type}
use Rattle.life_writer.specs.Bases.{element}
use Rattle.life_writer.specs.Behind.{ending}
use Rattle.life_writer.specs.Characters.{InString, Seen, concatenated, seen}
use Rattle.life_writer.specs.Conditions.{joined_by}
use Rattle.life_writer.specs.ExpressionForms.{all_uses, uses}
use Rattle.life_writer.specs.MethodForms.{count_if}
use Rattle.life_writer.specs.Parts.{inside, part_form, part_view}
use Rattle.life_writer.specs.Pointers.{Pointing, By, aimed, located}
use Rattle.life_writer.specs.Registers.{computed, converted}
use Rattle.life_writer.specs.Rows.{advances, computes, concatenates, joins, row_between}
use Rattle.life_writer.specs.Temporaries.{temporary}
use Rattle.life_writer.specs.Uses.{Uses, lived, own}
use Rattle.life_writer.specs.Using.{condition, value, with_member}
use Rattle.life_writer.specs.Values as values
use Rattle.life_writer.specs.Writing.{State, Gives, gives, ◌>>◌, mapped}

-- ---- the links of a chain

-- a value that is computed from two others
abbrev pub is_computed : Category → Row → Bool
is_computed category.Value r = computes r
is_computed (category.Place ty constant) r = false

-- a string that is made of two texts
abbrev pub is_concatenated : ExprType → Category → Row → Bool
is_concatenated t category.Value r = is_text (own_type t) && concatenates r
is_concatenated t (category.Place ty constant) r = false

-- an iterator that is moved
abbrev pub is_advanced : ExprType → Row → Bool
is_advanced t r = is_pointer (own_type t) && advances r

-- an operator with this row is one of the chain
abbrev pub is_between : Chain → ExprType → Category → Row → Bool
is_between chain.Computed t kind r = is_computed kind r
is_between chain.Joined t kind r = joins r
is_between chain.Concatenated t kind r = is_concatenated t kind r
is_between chain.Moved t kind r = is_advanced t r
is_between chain.Placed t kind r = false

-- a member function answers a part of what its object sees
abbrev pub cuts : Method → Bool
cuts Subspan = true
cuts Substr = true
cuts _ = false

abbrev pub has_first : Form → Bool
has_first (e ⨟ es) = true
has_first _ = false

-- .. from an index on
abbrev pub is_cut : ExprType → Method → (arguments : Form) → Bool
is_cut t called arguments = (is_pointer (own_type t) && cuts called) && has_first arguments

-- a type has what it is made of in itself: a span and a view only see it
abbrev pub has_own : Ty → Bool
has_own View = false
has_own (Span target constant) = false
has_own _ = true

abbrev pub is_object_of : ExprType → Category → Bool
is_object_of t category.Value = false
is_object_of t (category.Place id constant) = has_own (own_type t)

-- a place with members or elements of its own
abbrev pub is_object : Form → Bool
is_object (typed place t kind form) = is_object_of t kind
is_object _ = false

abbrev pub is_owner_of : ExprType → Category → Bool
is_owner_of t category.Value = false
is_owner_of t (category.Place id constant) = is_unique (own_type t)

-- .. or where a unique_ptr lies
abbrev pub is_owner : Form → Bool
is_owner (typed place t kind form) = is_owner_of t kind
is_owner _ = false

-- a member function answers an element
abbrev pub is_end : Method → Bool
is_end Front = true
is_end Back = true
is_end _ = false

-- a call of this member function is one of the chain
abbrev pub is_called : Chain → ExprType → Method → (base arguments : Form) → Bool
is_called chain.Moved t called base arguments = is_cut t called arguments
is_called chain.Placed t called base arguments = is_end called && is_object base
is_called _ t called base arguments = false

-- .. a member or an element of this
abbrev pub is_reached : Chain → (base : Form) → Bool
is_reached chain.Placed base = is_object base
is_reached _ base = false

-- .. what this owns
abbrev pub is_owned : Chain → (base : Form) → Bool
is_owned chain.Placed base = is_owner base
is_owned _ base = false

-- a node of this shape is a link of the chain
abbrev pub is_link : Chain → ExprType → Category → Shape → Bool
is_link which t kind (shape.Binary o left right) = is_between which t kind (row_between o (part_form left) (whole (part_view right)))
is_link which t kind (shape.Method base called arguments delimiters) = is_called which t called (part_form base) (forms (typed_views arguments.now))
is_link which t kind (shape.Member base m) = is_reached which (part_form base)
is_link which t kind (shape.Index base position closing) = is_reached which (part_form base)
is_link which t kind (shape.Dereference e) = is_owned which (part_form e)
is_link which t kind _ = false

-- what an expression is made by is a link of the chain
abbrev pub links : Chain → Form → Bool
links which (typed place t kind (binary by left right)) = is_between which t kind (row_between by left right)
links which (typed place t kind (method base called arguments delimiters)) = is_called which t called base arguments
links which (typed place t kind (member base m)) = is_reached which base
links which (typed place t kind (index base position closing)) = is_reached which base
links which (typed place t kind (dereference e)) = is_owned which e
links which _ = false

-- ---- one around the other

-- what stands around an operand
pub data Link : Type 0 where
  Operator : BinaryOperator → (right : Form) → Link
  Call : Method → (arguments : Form) → DelimitersForm → Link
  Member : ℕ → Link
  Element : (position : Form) → (closing : Place) → Link
  Owned : Link

abbrev pub linked : Link → Form → Form
linked (Operator by right) left = binary by left right
linked (Call called arguments delimiters) left = method left called arguments delimiters
linked (Member m) left = member left m
linked (Element position closing) left = index left position closing
linked Owned left = dereference left

-- the second is a link of the chain, with the first to its left
pub record Follows (which : Chain) (first second : Form) : Type 0 where
  pub place : Place
  pub ty : ExprType
  pub kind : Category
  pub by : Link
  pub between : second ≡ typed place ty kind (linked by first)
  pub link : IsTrue (links which (typed place ty kind (linked by first)))

-- .. from one operand on
abbrev pub Runs : Chain → List TypedOperand → ℕ → Type 0
Runs which operands from = (k : ℕ) → from ≤ k → k < length operands → Follows which (inside (take k operands)) (inside (take (k + 1) operands))

-- .. and what stands before it, if anything does, is none
abbrev pub IsFirst : Chain → List TypedOperand → ℕ → Type 0
IsFirst which operands from = 0 < from → links which (inside (take from operands)) ≡ false

-- the token behind what stands before the operand with a number: the operator that this is, or the last one
abbrev pub place_if : Option TypedOperand → (last : Place) → Place
place_if None last = last
place_if (Some o) last = o.place

abbrev pub token_behind : List TypedOperand → ℕ → (last : Place) → Place
token_behind operands number last = place_if (slice_get operands number) last

-- ---- what is written behind the left operand

-- a condition joined with another
abbrev pub joined_with : Row → Tree → (State → Gives Tree) → State → Gives Tree
joined_with (Joined by) test right s = mapped (joined_by by test) (right s)
joined_with _ test right s = gives test s

-- an operand's value in a register as one of a type
abbrev pub converted_in : Uses → Ty → ℕ → State → Gives ℕ
converted_in e to r s = converted (own e) to e.place r s

-- .. with the other operand behind it
abbrev pub operated_with : Row → (left : Uses) → ℕ → Option ℕ → Ty → Place → (right : Ty → State → Gives ℕ) → State → Gives ℕ
operated_with (Computed operator common) left r into t place right s =
    converted_in left common r s >> λ x s. right common s >> λ y s. computed into t place (values.binary operator x y) s
operated_with _ left r into t place right s = gives 0 s

-- an iterator by so many elements, from a location on
abbrev pub advanced_by : Row → Location → (right : Uses) → Place → State → Gives Pointing
advanced_by (Advanced direction) q right place s = mapped (λ n. By (λ p. Advance p q n direction)) (value right place (own right) None s)
advanced_by _ q right place s = gives (aimed Null) s

-- a part of what a pointer with a location sees
abbrev pub cut_by : Location → List Uses → DelimitersForm → State → Gives Pointing
cut_by q [] d s = gives (aimed Null) s
cut_by q (i ∷ more) d s =
    value i (behind_first d) Size None s >> λ i s. mapped (λ n. By (λ p. Cut p q i n)) (count_if more (behind_others d) s)

-- an element at an end of what stands at a place
abbrev pub end_on : Method → Place → Category → Operand → State → Gives Operand
end_on Front place c o s = element place c (Owner o) which.First s
end_on Back place c o s = element place c (Owner o) which.Last s
end_on _ place c o s = gives o s

module _ (a : Around) where
  -- an operator whose left operand is in a register
  abbrev pub operated_on : Form → (behind : Place) → ℕ → Option ℕ → State → Gives ℕ
  operated_on (typed place t category (binary o left right)) behind r into s =
      operated_with (row_between o left right) (uses a left) r into (own_type t) place (λ common s. value (uses a right) behind common None s) s
  operated_on _ behind r into s = gives 0 s

  -- a condition with the one to its right
  abbrev pub joined_on : Form → (behind : Place) → Tree → State → Gives Tree
  joined_on (typed place t category (binary o left right)) behind test s = joined_with (row_between o left right) test (condition (uses a right) (ending behind)) s
  joined_on _ behind test s = gives test s

  -- what a pointer points to that is moved from one with a location
  abbrev pub moved_on : Form → Location → State → Gives Pointing
  moved_on (typed place t category (binary o left right)) q s = advanced_by (row_between o left right) q (uses a right) place s
  moved_on (typed place t category (method e called es d)) q s = cut_by q (all_uses a es) d s
  moved_on _ q s = gives (aimed Null) s

  -- .. and where it lies itself
  abbrev pub moved_to : Form → Location → State → Gives Location
  moved_to f q s = moved_on f q s >> λ p s. located (uses a f).place (own (uses a f)) p s

  -- a string that two texts become, the left one of which is found already
  abbrev pub text_on : Form → Seen → State → Gives Seen
  text_on (typed place t category (binary o left right)) x s =
      seen (uses a right) s >> λ y s. mapped (λ n. InString place (object_named n)) (lived Plain (concatenated place x y) (temporary place (own_type t)) s)
  text_on _ x s = gives x s

  -- a place within another one, which is known
  abbrev pub placed_on : Form → Operand → State → Gives Operand
  placed_on (typed place t c (member e m)) o s = gives (with_member m o) s
  placed_on (typed place t c (index e i closing)) o s = value (uses a i) closing Size None s >> λ r s. element place c (Owner o) (which.Index r) s
  placed_on (typed place t c (dereference e)) o s = element place c (Owner o) which.Target s
  placed_on (typed place t c (method e called es d)) o s = end_on called place c o s
  placed_on _ o s = gives o s
