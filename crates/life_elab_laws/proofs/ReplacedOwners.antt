-- What an owner that is a value is assigned by: it is moved from a temporary, but for one that is moved out of a variable, which needs none.
use Rattle.std.proofs.Common.{◌≡◌, ◌⊎◌, inl, inr, ℕ, true, List, Contains, Option, Some, None, refl, sym, ap, ◌∙◌, subst, false}
use Rattle.std.proofs.lemmas.Bool.{and_parts, false≢true}
use Rattle.life_elab_laws.proofs.FormKinds.{is_edge, is_read_form, is_read_owner}
use Rattle.life_elab_laws.proofs.TypeKinds.{is_owner_type, is_plain_type}
use Rattle.life_types.specs.TypeTests.{is_text}
use Rattle.life_types.specs.Types.{Types}
use Rattle.life_types.specs.declared.place.Place.{Place}
use Rattle.life_types.specs.declared.ty.Ty.{Ty}
use Rattle.life_types.specs.declared.ty.Ty.TheVariants as ty
use Rattle.life_typed.specs.Delimiters.{DelimitersForm}
use Rattle.life_typed.specs.TypedForm.{Form, Typed, binary, call, dereference, index, local, member, method, move, paren, text_of, typed, make_unique, null}
use Rattle.life_typed.specs.declared.typed_expr.Category.{Category}
use Rattle.life_typed.specs.declared.typed_expr.Category.TheVariants as category
use Rattle.life_typed.specs.declared.typed_expr.ExprType.{ExprType}
use Rattle.life_typed.specs.declared.typed_expr.ExprType.TheVariants.{Of, NullPointer, TextLiteral}
use Rattle.life_typed.specs.declared.typed_expr.Method.{Method}
use Rattle.life_typed.specs.declared.typed_expr.Method.TheVariants as methods
use Rattle.life_type_stmt.specs.Simples.{moved_in}
use Rattle.life_core.specs.Function.{Function}
use Rattle.life_well_typed.specs.Expressions.{IsExpression, IsMadeOf, typed_in}
use Rattle.life_writer.specs.Around.{Around, own_type}
use Rattle.life_writer.specs.ExpressionForms.{binary_uses, form_uses, uses, all_uses}
use Rattle.life_writer.specs.OwnerForms.{moved_from, string_of, string_of_string}
use Rattle.life_writer.specs.Rows.{row_between}
use Rattle.life_writer.specs.Uses.{Act, Uses, own}
use Rattle.life_writer.specs.Writing.{Gives, State}
use Rattle.life_writer.specs.declared.rows.Row.{Row}
use Rattle.life_writer.specs.declared.rows.Row.TheVariants.{Advanced, Compared, Computed, Concatenated, IsNull, Joined, NotNull}
use Rattle.life_elab_laws.proofs.ElementForms.{either_read}
use Rattle.life_elab_laws.proofs.MovedOwners.{IsMovedFrom, moved_from_variable}
use Rattle.life_elab_laws.proofs.PointerForms.{own_typed}
use Rattle.life_elab_laws.proofs.Setting.{Setting}
use Rattle.life_elab_laws.proofs.StringForms.{makes_a_text}
use Rattle.life_elab_laws.proofs.TypedKinds.{ok_same}
use Rattle.life_writer.specs.MethodForms.{method_uses}

-- nothing between operands needs none
pub row_plain : (w : Row) (left right : Uses) (place : Place) (t : ExprType) (c : Category) → (binary_uses w left right place t c).replacing ≡ None
row_plain (Computed by common) left right place t c = refl
row_plain (Joined by) left right place t c = refl
row_plain (IsNull side) left right place t c = refl
row_plain (NotNull side) left right place t c = refl
row_plain (Compared equal) left right place t c = refl
row_plain Concatenated left right place t c = refl
row_plain (Advanced direction) left right place t c = refl

plain_no_text : (t : ExprType) → is_plain_type t ≡ true → is_text (own_type t) ≡ false
plain_no_text (Of ty.Text) p = absurd (false≢true p)
plain_no_text (Of _) p = refl
plain_no_text NullPointer p = refl
plain_no_text TextLiteral p = refl

null_no_literal : NullPointer ≡ TextLiteral → ⊥
null_no_literal e = cc

module _ (a : Around) (visible : List ℕ) (types : Types) (texts : ℕ) (fs : List Function) (f : Function) (setting : Setting a types fs f) where
  -- the variable with this number, if there is one, is moved from, which has this type
  pub record IsMovingAt (name : Option ℕ) (t : ExprType) (replacing : Option (State → Gives Act)) : Type 0 where
    pub number : ℕ
    pub moved : Typed
    pub place : Place
    pub seen : Contains visible number
    pub from : IsMovedFrom a visible types texts fs f setting number moved
    pub typed : t ≡ Of from.ty
    pub replaces : replacing ≡ Some (moved_from place number)
    pub named : name ≡ Some number

  abbrev pub IsReplacedAt : Option ℕ → ExprType → Option (State → Gives Act) → Type 0
  IsReplacedAt name t replacing = (replacing ≡ None) ⊎ IsMovingAt name t replacing

  abbrev pub IsReplaced : Form → Type 0
  IsReplaced form = IsReplacedAt (moved_in form) (typed_in form).ty ((uses a form).replacing)

  -- a string that is a value is what `std::string(..)` makes of it
  module _ (inner : Form) (closing : Place) (e : Typed) (place : Place) (told : e.ty ≡ Of ty.Text) where
    abbrev u : Uses
    u = uses a inner

    abbrev MadeReplaced : Uses → Type 0
    MadeReplaced m = IsReplacedAt (moved_in inner) e.ty m.replacing

    text_replaced : ((own u ≡ ty.Text) → IsReplaced inner) → MadeReplaced (form_uses a (text_of inner closing) place e.ty e.category)
    text_replaced replaced = by_type (own u) refl
      where
        string_replaced : own u ≡ ty.Text → IsReplaced inner → IsReplacedAt (moved_in inner) e.ty u.replacing
        string_replaced text (inl none) = inl none
        string_replaced text (inr m) =
            let one : m.from.ty ≡ ty.Text = sym (ap own_type m.typed) ∙ ap own_type (own_typed a visible types texts fs f setting inner) ∙ text in
            inr (record { number = m.number; moved = m.moved; place = m.place; seen = m.seen; from = m.from; typed = told ∙ ap Of (sym one); replaces = m.replaces; named = m.named })

        by_category : own u ≡ ty.Text → (c : Category) → u.category ≡ c → MadeReplaced (string_of_string c u place e.ty e.category)
        by_category text (category.Place id constant) held = inl refl
        by_category text category.Value held = string_replaced text (replaced text)

        by_type : (t : Ty) → own u ≡ t → MadeReplaced (string_of t u place e.ty e.category)
        by_type ty.Text text = by_category text u.category refl
        by_type _ other = inl refl

  edge_plain : (m : Method) (base given : Form) (d : DelimitersForm) (place : Place) (t : ExprType) (c : Category) → is_edge m ≡ true → (form_uses a (method base m given d) place t c).replacing ≡ None
  edge_plain methods.Front base given d place t c edge = refl
  edge_plain methods.Back base given d place t c edge = refl
  edge_plain _ base given d place t c edge = absurd (false≢true edge)

  -- what is read as a value is no string
  value_no_text : (form : Form) → is_read_form texts a.program form ≡ true → IsExpression a.program a.function.locals visible form → is_text (own_type (typed_in form).ty) ≡ false
  value_no_text (typed place t c form) b h = plain_no_text t (and_parts (is_plain_type t) (is_read_form texts a.program form) b).0
  value_no_text _ b h = absurd h

  -- ---- a literal replaces nothing: it is assigned by way of a temporary

  method_plain : (m : Method) (e : Uses) (es : List Uses) (d : DelimitersForm) (place : Place) (t : ExprType) (c : Category) → (method_uses a e m es d place t c).replacing ≡ None
  method_plain methods.Size e es d place t c = refl
  method_plain _ e es d place t c = refl

  mutual
    pub literal_plain : (form : Form) → is_read_form texts a.program form ≡ true → IsExpression a.program a.function.locals visible form → (typed_in form).ty ≡ TextLiteral → (uses a form).replacing ≡ None
    literal_plain (typed place t c form) b h l = made_plain form (record { place = place; ty = t; category = c; form = form }) (and_parts (is_plain_type t) (is_read_form texts a.program form) b).1 h l place
    literal_plain _ b h l = absurd h

    made_plain : (form : Form) (e : Typed) → is_read_form texts a.program form ≡ true → IsMadeOf a.program a.function.locals visible e form → e.ty ≡ TextLiteral → (place : Place) → (form_uses a form place e.ty e.category).replacing ≡ None
    made_plain null e b h l place = absurd (null_no_literal (sym h.0 ∙ l))
    made_plain (paren inner closing) e b h l place = literal_plain inner b h.1 (ap (λ (y : Typed). y.ty) (ok_same h.0) ∙ l)
    made_plain (binary o left right) e b h l place = row_plain (row_between o left right) (uses a left) (uses a right) place e.ty e.category
    made_plain (method base m given d) e b h l place = method_plain m (uses a base) (all_uses a given) d place e.ty e.category
    made_plain (move x) e b h l place = absurd (false≢true b)
    made_plain (make_unique target argument closing) e b h l place = absurd (false≢true b)
    made_plain (text_of inner closing) e b h l place = absurd (false≢true b)
    made_plain _ e b h l place = refl

  -- ---- owners

  mutual
    pub replaced : (form : Form) → is_read_owner texts a.program form ≡ true → is_owner_type (typed_in form).ty ≡ true → IsExpression a.program a.function.locals visible form → IsReplaced form
    replaced (typed place t c form) b n h = replaced_made form (record { place = place; ty = t; category = c; form = form }) b n h place
    replaced _ b n h = absurd h

    replaced_made : (form : Form) (e : Typed) → is_read_owner texts a.program form ≡ true → is_owner_type e.ty ≡ true → IsMadeOf a.program a.function.locals visible e form → (place : Place) → IsReplacedAt (moved_in form) e.ty ((form_uses a form place e.ty e.category).replacing)
    replaced_made (local x) e b n h place = inl refl
    replaced_made (move x) e b n h place =
        let is = moved_from_variable a visible types texts fs f setting x e h.1 in
        inr (record { number = x; moved = e; place = place; seen = h.0; from = is; typed = is.is; replaces = refl; named = refl })
    replaced_made (call g given delimiters) e b n h place = inl refl
    replaced_made (paren inner closing) e b n h place =
        let t : (typed_in inner).ty ≡ e.ty = ap (λ (y : Typed). y.ty) (ok_same h.0) in
        subst (λ (x : ExprType). IsReplacedAt (moved_in inner) x ((uses a inner).replacing)) t (replaced inner b (ap is_owner_type t ∙ n) h.1)
    replaced_made (dereference inner) e b n h place = inl refl
    replaced_made (member base which) e b n h place = inl refl
    replaced_made (index base position closing) e b n h place = inl refl
    replaced_made (method base which given delimiters) e b n h place = inl (edge_plain which base given delimiters place e.ty e.category (and_parts (is_edge which) _ b).0)
    replaced_made (binary o left right) e b n h place = inl (row_plain (row_between o left right) (uses a left) (uses a right) place e.ty e.category)
    replaced_made (text_of inner closing) e b n h place =
        text_replaced inner closing e place (makes_a_text closing (typed_in inner) e h.0).is
        (λ text. elim (either_read inner (is_read_owner texts a.program inner) (is_read_form texts a.program inner) b) [
          | inl value ↦ absurd (false≢true (sym (value_no_text inner value h.1) ∙ ap (λ (x : ExprType). is_text (own_type x)) (own_typed a visible types texts fs f setting inner) ∙ ap is_text text))
          | inr owner ↦ replaced inner owner.1 owner.0 h.1
        ])
    replaced_made (typed at t c form) e b n h place = absurd h
    replaced_made _ e b n h place = absurd (false≢true b)
