-- Chains of pointers that are moved, or see a part of what another one sees: what is written of a link is where the pointer to its left lies, and then the rest.
use Rattle.std.proofs.Common.{◌≡◌, ◌&&◌, Bool, true, List, refl, sym, ap, subst, ◌∙◌, true≢false}
use Rattle.std.proofs.lemmas.Bool.{and_parts}
use Rattle.std.specs.Prelude.{if◌then◌else◌}
use Rattle.life_types.specs.TypeTests.{is_pointer}
use Rattle.life_types.specs.declared.place.Place.{Place}
use Rattle.life_types.specs.declared.ty.Ty.{Ty}
use Rattle.life_types.specs.declared.ty.Ty.TheVariants as ty
use Rattle.life_typed.specs.Delimiters.{DelimitersForm}
use Rattle.life_typed.specs.TypedForm.{Form, ◌⨟◌, typed}
use Rattle.life_typed.specs.declared.typed_expr.Category.{Category}
use Rattle.life_typed.specs.declared.typed_expr.ExprType.{ExprType}
use Rattle.life_typed.specs.declared.typed_expr.Method.{Method}
use Rattle.life_typed.specs.declared.typed_expr.Method.TheVariants as methods
use Rattle.life_core.specs.Operands.{Location}
use Rattle.life_writer.specs.Around.{Around, own_type}
use Rattle.life_writer.specs.Chains.{Call, Element, Follows, Link, Member, Operator, Owned, advanced_by, cut_by, cuts, has_first, linked, links, moved_on, moved_to}
use Rattle.life_writer.specs.ExpressionForms.{all_uses, binary_uses, uses}
use Rattle.life_writer.specs.MethodForms.{cut, method_uses}
use Rattle.life_writer.specs.Pointers.{Pointing, located}
use Rattle.life_writer.specs.Rows.{advances, row_between}
use Rattle.life_writer.specs.Uses.{Uses, own}
use Rattle.life_writer.specs.Using.{pointer, pointing_by, register_type}
use Rattle.life_writer.specs.Writing.{State, Gives, gives, ◌>>◌}
use Rattle.life_writer.specs.declared.chains.Chain.TheVariants as chain
use Rattle.life_writer.specs.declared.rows.Row.{Row}
use Rattle.life_writer.specs.declared.rows.Row.TheVariants as row

-- where a pointer of its own type lies
abbrev pub own_location : Around → State → Form → Gives Location
own_location a s f = pointer (uses a f) (own (uses a f)) s

-- ---- a pointer is what it gives others, in a register of its own type

pointer_points : (t : Ty) (e : Uses) (s : State) → is_pointer t ≡ true → pointing_by t e s ≡ e.pointing s
pointer_points ty.Void e s is = refl
pointer_points ty.Bool e s is = refl
pointer_points ty.Char e s is = refl
pointer_points ty.Int e s is = refl
pointer_points ty.Long e s is = refl
pointer_points ty.Size e s is = refl
pointer_points ty.Text e s is = absurd (true≢false (sym is))
pointer_points ty.View e s is = refl
pointer_points (ty.Vector x) e s is = absurd (true≢false (sym is))
pointer_points (ty.Unique x) e s is = absurd (true≢false (sym is))
pointer_points (ty.Raw x y) e s is = refl
pointer_points (ty.Reference x y) e s is = refl
pointer_points (ty.Iterator x y) e s is = refl
pointer_points (ty.Span x y) e s is = refl
pointer_points (ty.Struct n) e s is = refl

pointer_lies : (e : Uses) (wanted : Ty) (s : State) → is_pointer (own e) ≡ true → pointer e wanted s ≡ (e.pointing s >> λ p s. located e.place (own e) p s)
pointer_lies e wanted s is =
    ap (λ (w : Gives Pointing). w >> λ p s. located e.place (register_type wanted (own e)) p s) (pointer_points (own e) e s is)
    ∙ ap (λ (b : Bool). e.pointing s >> λ p s. located e.place (if b then own e else wanted) p s) is

-- ---- what a link points to

-- an iterator that is moved
row_moves : (w : Row) (left right : Uses) (place : Place) (t : ExprType) (c : Category) (s : State) → advances w ≡ true
    → (binary_uses w left right place t c).pointing s ≡ (pointer left (own left) s >> λ q s. advanced_by w q right place s)
row_moves (row.Advanced direction) left right place t c s is = refl
row_moves (row.Computed by common) left right place t c s is = absurd (true≢false (sym is))
row_moves (row.Joined by) left right place t c s is = absurd (true≢false (sym is))
row_moves (row.IsNull side) left right place t c s is = absurd (true≢false (sym is))
row_moves (row.NotNull side) left right place t c s is = absurd (true≢false (sym is))
row_moves row.Concatenated left right place t c s is = absurd (true≢false (sym is))
row_moves (row.Compared equal) left right place t c s is = absurd (true≢false (sym is))

-- a part of what another pointer sees
cut_moves : (a : Around) (e : Uses) (arguments : Form) (d : DelimitersForm) (s : State) → has_first arguments ≡ true
    → cut e (all_uses a arguments) d s ≡ (pointer e (own e) s >> λ q s. cut_by q (all_uses a arguments) d s)
cut_moves a e (x ⨟ xs) d s is = refl
cut_moves a e _ d s is = absurd (true≢false (sym is))

call_cuts : (a : Around) (e : Uses) (called : Method) (es : List Uses) (d : DelimitersForm) (place : Place) (t : ExprType) (c : Category) (s : State) → cuts called ≡ true
    → (method_uses a e called es d place t c).pointing s ≡ cut e es d s
call_cuts a e methods.Subspan es d place t c s is = refl
call_cuts a e methods.Substr es d place t c s is = refl
call_cuts a e _ es d place t c s is = absurd (true≢false (sym is))

-- a link
module _ (a : Around) (place : Place) (t : ExprType) (c : Category) (left : Form) where
  link_moves : (by : Link) (s : State) → links chain.Moved (typed place t c (linked by left)) ≡ true
      → (uses a (typed place t c (linked by left))).pointing s ≡ (own_location a s left >> λ q s. moved_on a (typed place t c (linked by left)) q s)
  link_moves (Operator o right) s is =
      row_moves (row_between o left right) (uses a left) (uses a right) place t c s (and_parts (is_pointer (own_type t)) (advances (row_between o left right)) is).1
  link_moves (Member m) s is = absurd (true≢false (sym is))
  link_moves (Element position closing) s is = absurd (true≢false (sym is))
  link_moves Owned s is = absurd (true≢false (sym is))
  link_moves (Call called arguments d) s is =
      let first = and_parts (is_pointer (own_type t) && cuts called) (has_first arguments) is in
      call_cuts a (uses a left) called (all_uses a arguments) d place t c s (and_parts (is_pointer (own_type t)) (cuts called) first.0).1
      ∙ cut_moves a (uses a left) arguments d s first.1

  link_points : (by : Link) → links chain.Moved (typed place t c (linked by left)) ≡ true → is_pointer (own_type t) ≡ true
  link_points (Operator o right) is = (and_parts (is_pointer (own_type t)) (advances (row_between o left right)) is).0
  link_points (Member m) is = absurd (true≢false (sym is))
  link_points (Element position closing) is = absurd (true≢false (sym is))
  link_points Owned is = absurd (true≢false (sym is))
  link_points (Call called arguments d) is =
      (and_parts (is_pointer (own_type t)) (cuts called) (and_parts (is_pointer (own_type t) && cuts called) (has_first arguments) is).0).0

  link_lies : (by : Link) (wanted : Ty) (s : State) → links chain.Moved (typed place t c (linked by left)) ≡ true
      → pointer (uses a (typed place t c (linked by left))) wanted s ≡ (own_location a s left >> λ q s. moved_to a (typed place t c (linked by left)) q s)
  link_lies by wanted s is =
      let f = typed place t c (linked by left) in
      pointer_lies (uses a f) wanted s (link_points by is)
      ∙ ap (λ (w : Gives Pointing). w >> λ p s. located place (own_type t) p s) (link_moves by s is)

-- ---- one around the other

pub next_pointer : (a : Around) (wanted : Ty) (s0 : State) (first second : Form) (s : State) (q : Location) → Follows chain.Moved first second → own_location a s0 first ≡ gives q s
    → pointer (uses a second) wanted s0 ≡ moved_to a second q s
next_pointer a wanted s0 first second s q h so_far =
    subst (λ (f : Form). pointer (uses a f) wanted s0 ≡ moved_to a f q s) (sym h.between)
    (link_lies a h.place h.ty h.kind first h.by wanted s0 h.link
    ∙ ap (λ (w : Gives Location). moved_to a (typed h.place h.ty h.kind (linked h.by first)) w.given w.state) so_far)

-- .. where the pointer is one of its own type
pub next_own : (a : Around) (s0 : State) (first second : Form) (s : State) (q : Location) → Follows chain.Moved first second → own_location a s0 first ≡ gives q s
    → own_location a s0 second ≡ moved_to a second q s
next_own a s0 first second s q h so_far = next_pointer a (own (uses a second)) s0 first second s q h so_far

-- ---- alone

pub advanced_alone : (w : Row) (left right : Uses) (place : Place) (t : ExprType) (c : Category) (s s1 : State) (q : Location) → advances w ≡ true → pointer left (own left) s ≡ gives q s1
    → (binary_uses w left right place t c).pointing s ≡ advanced_by w q right place s1
advanced_alone w left right place t c s s1 q is first =
    row_moves w left right place t c s is ∙ ap (λ (x : Gives Location). advanced_by w x.given right place x.state) first

pub cut_alone : (a : Around) (e : Uses) (arguments : Form) (d : DelimitersForm) (s s1 : State) (q : Location) → has_first arguments ≡ true → pointer e (own e) s ≡ gives q s1
    → cut e (all_uses a arguments) d s ≡ cut_by q (all_uses a arguments) d s1
cut_alone a e arguments d s s1 q is first =
    cut_moves a e arguments d s is ∙ ap (λ (x : Gives Location). cut_by x.given (all_uses a arguments) d x.state) first
