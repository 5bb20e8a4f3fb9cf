-- Chains of operators: what is written of an operator is what is written of its left operand, and then the rest.
use Rattle.std.proofs.Common.{◌≡◌, ◌+◌, ◌-◌, ◌<◌, ◌⊎◌, inl, inr, ℕ, Bool, true, false, List, Option, None, length, take, refl, sym, ap, subst, ◌∙◌, arith, true≢false}
use Rattle.std.proofs.Math.Nat.{eq-or-lt_of_le}
use Rattle.std.proofs.lemmas.List.{length-take-le, take-take}
use Rattle.std.specs.Prelude.{IsTrue, if◌then◌else◌}
use Rattle.life_types.specs.contracts.ty.TyPartialEq.TheImpl.{ghosts as compared}
use Rattle.life_types.specs.declared.place.Place.{Place}
use Rattle.life_types.specs.declared.ty.Ty.{Ty}
use Rattle.life_typed.specs.Delimiters.{delimiters_view}
use Rattle.life_typed.specs.TypedForm.{Form, binary, dereference, forms, index, member, method, typed, typed_views, whole}
use Rattle.life_typed.specs.declared.typed_expr.BinaryOperator.{BinaryOperator}
use Rattle.life_typed.specs.declared.typed_expr.Category.{Category}
use Rattle.life_typed.specs.declared.typed_expr.Category.TheVariants as category
use Rattle.life_typed.specs.declared.typed_expr.ExprType.{ExprType}
use Rattle.life_typed.specs.declared.typed_expr.TypedOperand.{TypedOperand}
use Rattle.life_core.specs.Operands.{Location}
use Rattle.life_core.specs.Tree.{Tree}
use Rattle.life_writer.specs.Around.{Around, own_type}
use Rattle.life_writer.specs.Behind.{ending, lasting}
use Rattle.life_writer.specs.Chains.{Call, Element, Follows, Link, Member, Operator, Owned, Runs, converted_in, is_between, is_called, is_computed, is_link, is_owned, is_reached, joined_on, joined_with, linked, links, operated_on, operated_with}
use Rattle.life_writer.specs.Conditions.{nowhere}
use Rattle.life_writer.specs.ExpressionForms.{binary_uses, uses}
use Rattle.life_writer.specs.Parts.{HasLeft, inside, node_view, part_view, shape_form}
use Rattle.life_writer.specs.Registers.{as_type, computed, conversion, converted}
use Rattle.life_writer.specs.Rows.{computes, joins, row_between}
use Rattle.life_writer.specs.Uses.{Uses, own}
use Rattle.life_writer.specs.Using.{condition, condition_by, nullable, own_value, read_or_made, value}
use Rattle.life_writer.specs.Values as values
use Rattle.life_writer.specs.Writing.{State, Gives, gives, ◌>>◌}
use Rattle.life_writer.specs.declared.behind.Behind.{Behind}
use Rattle.life_writer.specs.declared.chains.Chain.{Chain}
use Rattle.life_writer.specs.declared.chains.Chain.TheVariants as chain
use Rattle.life_writer.specs.declared.parts.Node.{Node}
use Rattle.life_writer.specs.declared.parts.Part.{Part}
use Rattle.life_writer.specs.declared.rows.Row.{Row}
use Rattle.life_writer.specs.declared.rows.Row.TheVariants as row
use Rattle.life_writer.specs.declared.parts.Shape.{Shape}
use Rattle.life_writer.specs.declared.parts.Shape.TheVariants as shape

-- ---- which links follow which

module _ (which : Chain) where
  follows_by : (place : Place) (t : ExprType) (category : Category) (s : Shape) (left : Form) → IsTrue (is_link which t category s) → HasLeft s left
      → Follows which left (typed place t category (shape_form s))
  follows_by place t category (shape.Number n) left link beside = absurd (true≢false (sym link))
  follows_by place t category (shape.Char c) left link beside = absurd (true≢false (sym link))
  follows_by place t category (shape.Bool b) left link beside = absurd (true≢false (sym link))
  follows_by place t category (shape.Text x) left link beside = absurd (true≢false (sym link))
  follows_by place t category shape.Null left link beside = absurd (true≢false (sym link))
  follows_by place t category (shape.Local x) left link beside = absurd (true≢false (sym link))
  follows_by place t category (shape.Call f arguments delimiters) left link beside = absurd (true≢false (sym link))
  follows_by place t category (shape.Construct n elements delimiters) left link beside = absurd (true≢false (sym link))
  follows_by place t category (shape.Paren inner closing) left link beside = absurd (true≢false (sym link))
  follows_by place t category (shape.Move x) left link beside = absurd (true≢false (sym link))
  follows_by place t category (shape.MakeUnique element argument closing) left link beside = absurd (true≢false (sym link))
  follows_by place t category (shape.TextOf inner closing) left link beside = absurd (true≢false (sym link))
  follows_by place t category shape.Input left link beside = absurd (true≢false (sym link))
  follows_by place t category (shape.Member base m) left link beside = record {
    place = place;
    ty = t;
    kind = category;
    by = Member m;
    between = ap (λ (f : Form). typed place t category (member f m)) beside;
    link = subst (λ (f : Form). IsTrue (is_reached which f)) beside link;
  }
  follows_by place t category (shape.Dereference e) left link beside = record {
    place = place;
    ty = t;
    kind = category;
    by = Owned;
    between = ap (λ (f : Form). typed place t category (dereference f)) beside;
    link = subst (λ (f : Form). IsTrue (is_owned which f)) beside link;
  }
  follows_by place t category (shape.Index base position closing) left link beside = record {
    place = place;
    ty = t;
    kind = category;
    by = Element (whole (part_view position)) closing;
    between = ap (λ (f : Form). typed place t category (index f (whole (part_view position)) closing)) beside;
    link = subst (λ (f : Form). IsTrue (is_reached which f)) beside link;
  }
  follows_by place t category (shape.Method base called arguments delimiters) left link beside = record {
    place = place;
    ty = t;
    kind = category;
    by = Call called (forms (typed_views arguments.now)) (delimiters_view delimiters.now);
    between = ap (λ (f : Form). typed place t category (method f called (forms (typed_views arguments.now)) (delimiters_view delimiters.now))) beside;
    link = subst (λ (f : Form). IsTrue (is_called which t called f (forms (typed_views arguments.now)))) beside link;
  }
  follows_by place t category (shape.Negate e) left link beside = absurd (true≢false (sym link))
  follows_by place t category (shape.Not e) left link beside = absurd (true≢false (sym link))
  follows_by place t category (shape.AddressOf e) left link beside = absurd (true≢false (sym link))
  follows_by place t category (shape.Binary o l right) left link beside = record {
    place = place;
    ty = t;
    kind = category;
    by = Operator o (whole (part_view right));
    between = ap (λ (f : Form). typed place t category (binary o f (whole (part_view right)))) beside;
    link = subst (λ (f : Form). IsTrue (is_between which t category (row_between o f (whole (part_view right))))) beside link;
  }

  linked_by : (place : Place) (t : ExprType) (category : Category) (s : Shape) → is_link which t category s ≡ links which (typed place t category (shape_form s))
  linked_by place t category (shape.Number n) = refl
  linked_by place t category (shape.Char c) = refl
  linked_by place t category (shape.Bool b) = refl
  linked_by place t category (shape.Text x) = refl
  linked_by place t category shape.Null = refl
  linked_by place t category (shape.Local x) = refl
  linked_by place t category (shape.Call f arguments delimiters) = refl
  linked_by place t category (shape.Construct n elements delimiters) = refl
  linked_by place t category (shape.Paren inner closing) = refl
  linked_by place t category (shape.Move x) = refl
  linked_by place t category (shape.MakeUnique element argument closing) = refl
  linked_by place t category (shape.TextOf inner closing) = refl
  linked_by place t category shape.Input = refl
  linked_by place t category (shape.Member base which) = refl
  linked_by place t category (shape.Dereference e) = refl
  linked_by place t category (shape.Index base position closing) = refl
  linked_by place t category (shape.Method base called arguments delimiters) = refl
  linked_by place t category (shape.Negate e) = refl
  linked_by place t category (shape.Not e) = refl
  linked_by place t category (shape.AddressOf e) = refl
  linked_by place t category (shape.Binary o l right) = refl

  pub follows : (n : Node) (left : Form) → IsTrue (is_link which n.ty n.category n.shape) → HasLeft n.shape left → Follows which left (whole (node_view n))
  follows n left link beside = follows_by n.place n.ty n.category n.shape left link beside

shorter : (operands : List TypedOperand) (i : ℕ) → i < length operands → take (length (take (i + 1) operands) - 1) (take (i + 1) operands) ≡ take i operands
shorter operands i within =
    let count : length (take (i + 1) operands) ≡ i + 1 = length-take-le (i + 1) operands (omega arith) in
    let long : length (take (i + 1) operands) - 1 ≡ i = omega arith in
    ap (λ (n : ℕ). take n (take (i + 1) operands)) long ∙ take-take i (i + 1) operands (omega arith)

-- .. where one is an operand of a list
pub follows_at : (which : Chain) (n : Node) (part : Part) (operands : List TypedOperand) (i : ℕ) (b : Bool) → i < length operands
    → whole (part_view part) ≡ inside (take (i + 1) operands) → part.within.now ≡ take (length (take (i + 1) operands) - 1) (take (i + 1) operands)
    → node_view n ≡ part_view part → HasLeft n.shape (inside part.within.now) → b ≡ is_link which n.ty n.category n.shape → IsTrue b
    → Follows which (inside (take i operands)) (inside (take (i + 1) operands))
follows_at which n part operands i b more form within node left found is =
    let here : Follows which (inside part.within.now) (whole (node_view n)) = follows which n (inside part.within.now) (sym found ∙ is) left in
    let behind : Follows which (inside part.within.now) (inside (take (i + 1) operands)) = subst (λ (f : Form). Follows which (inside part.within.now) f) (ap whole node ∙ form) here in
    subst (λ (f : Form). Follows which f (inside (take (i + 1) operands))) (ap inside (within ∙ shorter operands i more)) behind

-- whether it is one, where it is an operand of a list
pub linked_at : (which : Chain) (n : Node) (part : Part) (form : Form) (b : Bool) → whole (part_view part) ≡ form → node_view n ≡ part_view part → b ≡ is_link which n.ty n.category n.shape → b ≡ links which form
linked_at which n part form b same node found = found ∙ linked_by which n.place n.ty n.category n.shape ∙ ap (λ (f : Form). links which f) (ap whole node ∙ same)

-- one more operand
pub runs_more : (which : Chain) (operands : List TypedOperand) (n m : ℕ) → m ≡ n + 1 → Follows which (inside (take n operands)) (inside (take (n + 1) operands)) → Runs which operands m → Runs which operands n
runs_more which operands n m next here runs = λ k after within. go k within (eq-or-lt_of_le after)
  where
    go : (k : ℕ) → k < length operands → (n ≡ k) ⊎ (n < k) → Follows which (inside (take k operands)) (inside (take (k + 1) operands))
    go k within (inl same) = subst (λ (i : ℕ). Follows which (inside (take i operands)) (inside (take (i + 1) operands))) same here
    go k within (inr later) = runs k (omega arith) within

-- ---- values

-- a value as one of a type is its own, converted behind it
as_type_behind : (from to : Ty) (place : Place) (of : Option ℕ → State → Gives ℕ) (s : State)
    → as_type from to place of None s ≡ (of None s >> λ r s. converted from to place r s)
as_type_behind from to place of s = go (compared.eq from to)
  where
    go : (b : Bool) → (if b then of None s else (of None s >> λ r s. computed None to place (conversion r) s))
        ≡ (of None s >> λ r s. if b then gives r s else computed None to place (conversion r) s)
    go true = refl
    go false = refl

operand_value : (e : Uses) (behind : Place) (to : Ty) (s : State) → value e behind to None s ≡ (own_value e behind None s >> λ r s. converted_in e to r s)
operand_value e behind to s = as_type_behind (own e) to e.place (own_value e behind) s

-- an operator that computes
module _ (place behind : Place) (t : ExprType) (left right : Uses) (into : Option ℕ) (s : State) where
  abbrev Between : Row → Type 0
  Between w =
      (let e = binary_uses w left right place t category.Value in values.value_from (own_type t) place category.Value (e.decision (lasting behind)) e.at (e.made behind) into s)
      ≡ (own_value left behind None s >> λ r s. operated_with w left r into (own_type t) place (λ common s. value right behind common None s) s)

  between : (w : Row) → IsTrue (computes w) → Between w
  between (row.Computed by common) h =
      ap (λ (w : Gives ℕ). w >> λ x s. value right behind common None s >> λ y s. computed into (own_type t) place (values.binary by x y) s) (operand_value left behind common s)
  between (row.Joined by) h = absurd (true≢false (sym h))
  between (row.IsNull side) h = absurd (true≢false (sym h))
  between (row.NotNull side) h = absurd (true≢false (sym h))
  between row.Concatenated h = absurd (true≢false (sym h))
  between (row.Advanced direction) h = absurd (true≢false (sym h))
  between (row.Compared equal) h = absurd (true≢false (sym h))

value_between : (a : Around) (place behind : Place) (t : ExprType) (category : Category) (o : BinaryOperator) (left right : Form) (into : Option ℕ) (s : State)
    → IsTrue (is_computed category (row_between o left right))
    → own_value (uses a (typed place t category (binary o left right))) behind into s
    ≡ (own_value (uses a left) behind None s >> λ r s. operated_on a (typed place t category (binary o left right)) behind r into s)
value_between a place behind t (category.Place ty constant) o left right into s h = absurd (true≢false (sym h))
value_between a place behind t category.Value o left right into s h = between place behind t (uses a left) (uses a right) into s (row_between o left right) h

value_linked : (a : Around) (place behind : Place) (t : ExprType) (category : Category) (by : Link) (left : Form) (into : Option ℕ) (s : State)
    → IsTrue (links chain.Computed (typed place t category (linked by left)))
    → own_value (uses a (typed place t category (linked by left))) behind into s
    ≡ (own_value (uses a left) behind None s >> λ r s. operated_on a (typed place t category (linked by left)) behind r into s)
value_linked a place behind t category (Operator o right) left into s h = value_between a place behind t category o left right into s h
value_linked a place behind t category (Call called arguments delimiters) left into s h = absurd (true≢false (sym h))
value_linked a place behind t category (Member m) left into s h = absurd (true≢false (sym h))
value_linked a place behind t category (Element position closing) left into s h = absurd (true≢false (sym h))
value_linked a place behind t category Owned left into s h = absurd (true≢false (sym h))

pub next_value : (a : Around) (behind : Place) (first second : Form) (into : Option ℕ) (s0 s : State) (r : ℕ) → Follows chain.Computed first second → own_value (uses a first) behind None s0 ≡ gives r s
    → own_value (uses a second) behind into s0 ≡ operated_on a second behind r into s
next_value a behind first second into s0 s r h so_far =
    subst (λ (f : Form). own_value (uses a f) behind into s0 ≡ operated_on a f behind r into s) (sym h.between)
    (value_linked a h.place behind h.ty h.kind h.by first into s0 h.link
    ∙ ap (λ (w : Gives ℕ). operated_on a (typed h.place h.ty h.kind (linked h.by first)) behind w.given into w.state) so_far)

-- ---- conditions

joined_between : (place : Place) (b : Behind) (t : ExprType) (category : Category) (left right : Uses) (p : State → Gives Location) (v : State → Gives ℕ) (s : State) (w : Row) → IsTrue (joins w)
    → condition_by ((binary_uses w left right place t category).decision b) (own_type t) place b.ends p v s
    ≡ (condition left (ending place) s >> λ test s. joined_with w test (condition right (ending b.token)) s)
joined_between place b t category left right p v s (row.Joined by) h = refl
joined_between place b t category left right p v s (row.Computed by common) h = absurd (true≢false (sym h))
joined_between place b t category left right p v s (row.IsNull side) h = absurd (true≢false (sym h))
joined_between place b t category left right p v s (row.NotNull side) h = absurd (true≢false (sym h))
joined_between place b t category left right p v s row.Concatenated h = absurd (true≢false (sym h))
joined_between place b t category left right p v s (row.Advanced direction) h = absurd (true≢false (sym h))
joined_between place b t category left right p v s (row.Compared equal) h = absurd (true≢false (sym h))

condition_between : (a : Around) (place : Place) (b : Behind) (t : ExprType) (category : Category) (o : BinaryOperator) (left right : Form) (s : State) → IsTrue (joins (row_between o left right))
    → condition (uses a (typed place t category (binary o left right))) b s
    ≡ (condition (uses a left) (ending place) s >> λ test s. joined_on a (typed place t category (binary o left right)) b.token test s)
condition_between a place b t category o left right s h =
    let e = uses a (typed place t category (binary o left right)) in
    joined_between place b t category (uses a left) (uses a right) (nullable e) (read_or_made e b.token None) s (row_between o left right) h

condition_linked : (a : Around) (place : Place) (b : Behind) (t : ExprType) (category : Category) (by : Link) (left : Form) (s : State) → IsTrue (links chain.Joined (typed place t category (linked by left)))
    → condition (uses a (typed place t category (linked by left))) b s
    ≡ (condition (uses a left) (ending place) s >> λ test s. joined_on a (typed place t category (linked by left)) b.token test s)
condition_linked a place b t category (Operator o right) left s h = condition_between a place b t category o left right s h
condition_linked a place b t category (Call called arguments delimiters) left s h = absurd (true≢false (sym h))
condition_linked a place b t category (Member m) left s h = absurd (true≢false (sym h))
condition_linked a place b t category (Element position closing) left s h = absurd (true≢false (sym h))
condition_linked a place b t category Owned left s h = absurd (true≢false (sym h))

-- the place of an expression
abbrev pub form_place : Form → Place
form_place (typed place t category form) = place
form_place _ = nowhere

pub follows_place : (which : Chain) (first second : Form) (h : Follows which first second) → h.place ≡ form_place second
follows_place which first second h = sym (ap form_place h.between)

pub next_condition : (a : Around) (b : Behind) (first second : Form) (s0 s : State) (test : Tree) → Follows chain.Joined first second
    → condition (uses a first) (ending (form_place second)) s0 ≡ gives test s
    → condition (uses a second) b s0 ≡ joined_on a second b.token test s
next_condition a b first second s0 s test h so_far =
    subst (λ (f : Form). condition (uses a f) b s0 ≡ joined_on a f b.token test s) (sym h.between)
    (condition_linked a h.place b h.ty h.kind h.by first s0 h.link
    ∙ ap (λ (w : Gives Tree). joined_on a (typed h.place h.ty h.kind (linked h.by first)) b.token w.given w.state)
    (ap (λ (place : Place). condition (uses a first) (ending place) s0) (follows_place chain.Joined first second h) ∙ so_far))
