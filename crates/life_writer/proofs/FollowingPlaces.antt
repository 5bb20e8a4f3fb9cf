-- Chains of places within places: what is written of one is what is written of the one that it is within, and then the rest.
use Rattle.std.proofs.Common.{◌≡◌, true, List, None, refl, sym, ap, subst, ◌∙◌, true≢false}
use Rattle.std.proofs.lemmas.Bool.{and_parts}
use Rattle.life_types.specs.TypeTests.{is_unique}
use Rattle.life_types.specs.declared.place.Place.{Place}
use Rattle.life_types.specs.declared.ty.Ty.{Ty}
use Rattle.life_types.specs.declared.ty.Ty.TheVariants as ty
use Rattle.life_typed.specs.Delimiters.{DelimitersForm}
use Rattle.life_typed.specs.TypedForm.{Form, typed}
use Rattle.life_typed.specs.declared.typed_expr.Category.{Category}
use Rattle.life_typed.specs.declared.typed_expr.Category.TheVariants as category
use Rattle.life_typed.specs.declared.typed_expr.ExprType.{ExprType}
use Rattle.life_typed.specs.declared.typed_expr.Method.{Method}
use Rattle.life_typed.specs.declared.typed_expr.Method.TheVariants as methods
use Rattle.life_core.specs.Operands.{Base, Operand, Owner}
use Rattle.life_core.specs.declared.operand.Which.TheVariants as which
use Rattle.life_writer.specs.Around.{Around, own_type}
use Rattle.life_writer.specs.Bases.{base, base_by, element}
use Rattle.life_writer.specs.Chains.{Call, Element, Follows, Link, Member, Operator, Owned, end_on, has_own, is_end, is_object, is_owner, linked, links, placed_on}
use Rattle.life_writer.specs.ExpressionForms.{all_uses, target_at, uses}
use Rattle.life_writer.specs.MethodForms.{method_uses}
use Rattle.life_writer.specs.Uses.{Uses, own}
use Rattle.life_writer.specs.Using.{operand, value, with_member}
use Rattle.life_writer.specs.Writing.{State, Gives, gives, ◌>>◌, mapped}
use Rattle.life_writer.specs.declared.chains.Chain.TheVariants as chain

-- ---- what stands at a place

base_there : (t : Ty) (e : Uses) (s : State) → has_own t ≡ true → base_by t e s ≡ mapped Owner (operand e s)
base_there ty.Void e s is = refl
base_there ty.Bool e s is = refl
base_there ty.Char e s is = refl
base_there ty.Int e s is = refl
base_there ty.Long e s is = refl
base_there ty.Size e s is = refl
base_there ty.Text e s is = refl
base_there ty.View e s is = absurd (true≢false (sym is))
base_there (ty.Vector x) e s is = refl
base_there (ty.Unique x) e s is = refl
base_there (ty.Raw x y) e s is = refl
base_there (ty.Reference x y) e s is = refl
base_there (ty.Iterator x y) e s is = refl
base_there (ty.Span x y) e s is = absurd (true≢false (sym is))
base_there (ty.Struct n) e s is = refl

-- what a unique_ptr owns
owned_there : (t : Ty) (e : Uses) (place : Place) (c : Category) (s : State) → is_unique t ≡ true → own e ≡ t → target_at t e place c s ≡ (operand e s >> λ o s. element place c (Owner o) which.Target s)
owned_there (ty.Unique x) e place c s is same = ap (λ (u : Ty). base_by u e s >> λ b s. element place c b which.Target s) same
owned_there _ e place c s is same = absurd (true≢false (sym is))

module _ (a : Around) where
  object_operand : (left : Form) (s : State) → is_object left ≡ true → operand (uses a left) s ≡ (uses a left).at s
  object_operand (typed place t (category.Place id constant) form) s is = refl
  object_operand (typed place t category.Value form) s is = absurd (true≢false (sym is))
  object_operand _ s is = absurd (true≢false (sym is))

  object_base : (left : Form) (s : State) → is_object left ≡ true → base (uses a left) s ≡ mapped Owner ((uses a left).at s)
  object_base (typed place t (category.Place id constant) form) s is = base_there (own_type t) (uses a (typed place t (category.Place id constant) form)) s is
  object_base (typed place t category.Value form) s is = absurd (true≢false (sym is))
  object_base _ s is = absurd (true≢false (sym is))

  owner_target : (left : Form) (place : Place) (c : Category) (s : State) → is_owner left ≡ true
      → target_at (own (uses a left)) (uses a left) place c s ≡ ((uses a left).at s >> λ o s. element place c (Owner o) which.Target s)
  owner_target (typed at t (category.Place id constant) form) place c s is = owned_there (own_type t) (uses a (typed at t (category.Place id constant) form)) place c s is refl
  owner_target (typed at t category.Value form) place c s is = absurd (true≢false (sym is))
  owner_target _ place c s is = absurd (true≢false (sym is))

  -- an element at an end
  call_ends : (called : Method) (e : Uses) (es : List Uses) (d : DelimitersForm) (place : Place) (t : ExprType) (c : Category) (s : State) (w : Gives Operand) → is_end called ≡ true
      → base e s ≡ mapped Owner w → (method_uses a e called es d place t c).at s ≡ (w >> λ o s. end_on called place c o s)
  call_ends methods.Front e es d place t c s w is there = ap (λ (x : Gives Base). x >> λ b s. element place c b which.First s) there
  call_ends methods.Back e es d place t c s w is there = ap (λ (x : Gives Base). x >> λ b s. element place c b which.Last s) there
  call_ends _ e es d place t c s w is there = absurd (true≢false (sym is))

  -- ---- a link

  module _ (place : Place) (t : ExprType) (c : Category) (left : Form) where
    link_places : (by : Link) (s : State) → links chain.Placed (typed place t c (linked by left)) ≡ true
        → (uses a (typed place t c (linked by left))).at s ≡ ((uses a left).at s >> λ o s. placed_on a (typed place t c (linked by left)) o s)
    link_places (Operator o right) s is = absurd (true≢false (sym is))
    link_places (Call called arguments d) s is =
        let both = and_parts (is_end called) (is_object left) is in
        call_ends called (uses a left) (all_uses a arguments) d place t c s ((uses a left).at s) both.0 (object_base left s both.1)
    link_places (Member m) s is = ap (mapped (with_member m)) (object_operand left s is)
    link_places (Element position closing) s is =
        ap (λ (x : Gives Base). x >> λ b s. value (uses a position) closing ty.Size None s >> λ r s. element place c b (which.Index r) s) (object_base left s is)
    link_places Owned s is = owner_target left place c s is

-- ---- one around the other

pub next_place : (a : Around) (s0 : State) (first second : Form) (s : State) (o : Operand) → Follows chain.Placed first second → (uses a first).at s0 ≡ gives o s
    → (uses a second).at s0 ≡ placed_on a second o s
next_place a s0 first second s o h so_far =
    subst (λ (f : Form). (uses a f).at s0 ≡ placed_on a f o s) (sym h.between)
    (link_places a h.place h.ty h.kind first h.by s0 h.link
    ∙ ap (λ (w : Gives Operand). placed_on a (typed h.place h.ty h.kind (linked h.by first)) w.given w.state) so_far)
