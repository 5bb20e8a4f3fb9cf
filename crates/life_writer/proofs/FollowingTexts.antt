-- Chains of `+` between texts: what is written of an operator is where the text to its left is found, and then the rest.
use Rattle.std.proofs.Common.{◌≡◌, true, refl, sym, ap, subst, ◌∙◌, true≢false}
use Rattle.std.proofs.lemmas.Bool.{and_parts}
use Rattle.life_types.specs.TypeTests.{is_text}
use Rattle.life_types.specs.declared.place.Place.{Place}
use Rattle.life_types.specs.declared.ty.Ty.{Ty}
use Rattle.life_types.specs.declared.ty.Ty.TheVariants as ty
use Rattle.life_typed.specs.TypedForm.{Form, binary, typed}
use Rattle.life_typed.specs.declared.typed_expr.BinaryOperator.{BinaryOperator}
use Rattle.life_typed.specs.declared.typed_expr.Category.{Category}
use Rattle.life_typed.specs.declared.typed_expr.Category.TheVariants as category
use Rattle.life_typed.specs.declared.typed_expr.ExprType.{ExprType}
use Rattle.life_core.specs.Operands.{object_named}
use Rattle.life_writer.specs.Around.{Around, own_type}
use Rattle.life_writer.specs.Characters.{InString, Seen, seen, seen_by}
use Rattle.life_writer.specs.Chains.{Call, Element, Follows, Link, Member, Operator, Owned, linked, links, text_on}
use Rattle.life_writer.specs.ExpressionForms.{binary_uses, uses}
use Rattle.life_writer.specs.OwnerForms.{concatenation_uses}
use Rattle.life_writer.specs.Rows.{concatenates, row_between}
use Rattle.life_writer.specs.Temporaries.{temporary}
use Rattle.life_writer.specs.Uses.{Remaining, Uses}
use Rattle.life_writer.specs.Writing.{State, Gives, gives, ◌>>◌, mapped}
use Rattle.life_writer.specs.declared.chains.Chain.TheVariants as chain
use Rattle.life_writer.specs.declared.rows.Row.{Row}
use Rattle.life_writer.specs.declared.rows.Row.TheVariants as row

text_is : (t : Ty) → is_text t ≡ true → t ≡ ty.Text
text_is ty.Void is = absurd (true≢false (sym is))
text_is ty.Bool is = absurd (true≢false (sym is))
text_is ty.Char is = absurd (true≢false (sym is))
text_is ty.Int is = absurd (true≢false (sym is))
text_is ty.Long is = absurd (true≢false (sym is))
text_is ty.Size is = absurd (true≢false (sym is))
text_is ty.Text is = refl
text_is ty.View is = absurd (true≢false (sym is))
text_is (ty.Vector x) is = absurd (true≢false (sym is))
text_is (ty.Unique x) is = absurd (true≢false (sym is))
text_is (ty.Raw x y) is = absurd (true≢false (sym is))
text_is (ty.Reference x y) is = absurd (true≢false (sym is))
text_is (ty.Iterator x y) is = absurd (true≢false (sym is))
text_is (ty.Span x y) is = absurd (true≢false (sym is))
text_is (ty.Struct n) is = absurd (true≢false (sym is))

-- what an operator between texts builds
row_joins : (w : Row) (left right : Uses) (place : Place) (t : ExprType) (c : Category) (s : State) → concatenates w ≡ true
    → (binary_uses w left right place t c).object s ≡ (concatenation_uses left right place t c).object s
row_joins row.Concatenated left right place t c s is = refl
row_joins (row.Computed by common) left right place t c s is = absurd (true≢false (sym is))
row_joins (row.Joined by) left right place t c s is = absurd (true≢false (sym is))
row_joins (row.IsNull side) left right place t c s is = absurd (true≢false (sym is))
row_joins (row.NotNull side) left right place t c s is = absurd (true≢false (sym is))
row_joins (row.Advanced direction) left right place t c s is = absurd (true≢false (sym is))
row_joins (row.Compared equal) left right place t c s is = absurd (true≢false (sym is))

module _ (a : Around) (place : Place) (t : ExprType) (left : Form) where
  operator_joins : (c : Category) (o : BinaryOperator) (right : Form) (s : State) → links chain.Concatenated (typed place t c (binary o left right)) ≡ true
      → seen (uses a (typed place t c (binary o left right))) s ≡ (seen (uses a left) s >> λ x s. text_on a (typed place t c (binary o left right)) x s)
  operator_joins (category.Place id constant) o right s is = absurd (true≢false (sym is))
  operator_joins category.Value o right s is =
      let e = uses a (typed place t category.Value (binary o left right)) in
      let w = row_between o left right in
      let parts = and_parts (is_text (own_type t)) (concatenates w) is in
      ap (λ (u : Ty). seen_by u e s) (text_is (own_type t) parts.0)
      ∙ ap (λ (x : Gives Remaining). mapped (InString place) (mapped object_named (x >> λ rest s. rest (temporary place (own_type t)) s)))
      (row_joins w (uses a left) (uses a right) place t category.Value s parts.1)

  link_joins : (by : Link) (c : Category) (s : State) → links chain.Concatenated (typed place t c (linked by left)) ≡ true
      → seen (uses a (typed place t c (linked by left))) s ≡ (seen (uses a left) s >> λ x s. text_on a (typed place t c (linked by left)) x s)
  link_joins (Operator o right) c s is = operator_joins c o right s is
  link_joins (Call called arguments d) c s is = absurd (true≢false (sym is))
  link_joins (Member m) c s is = absurd (true≢false (sym is))
  link_joins (Element position closing) c s is = absurd (true≢false (sym is))
  link_joins Owned c s is = absurd (true≢false (sym is))

pub next_text : (a : Around) (s0 : State) (first second : Form) (s : State) (x : Seen) → Follows chain.Concatenated first second → seen (uses a first) s0 ≡ gives x s
    → seen (uses a second) s0 ≡ text_on a second x s
next_text a s0 first second s x h so_far =
    subst (λ (f : Form). seen (uses a f) s0 ≡ text_on a f x s) (sym h.between)
    (link_joins a h.place h.ty first h.by h.kind s0 h.link
    ∙ ap (λ (w : Gives Seen). text_on a (typed h.place h.ty h.kind (linked h.by first)) w.given w.state) so_far)
