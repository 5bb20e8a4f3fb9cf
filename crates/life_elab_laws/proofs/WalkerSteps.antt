-- Instructions that give an iterator or a span something: an end of a vector, so many elements on, and the whole of a vector.
use Rattle.std.proofs.Common.{◌≡◌, ◌++◌, inl, inr, ℕ, Bool, true, false, List, [], ◌∷◌, refl, sym, ap, ◌∙◌, subst, append_assoc}
use Rattle.std.proofs.lemmas.Bool.{and_from, and_parts, false≢true}
use Rattle.life_types.specs.Pointees.{ty_of}
use Rattle.life_types.specs.TypeTests.{is_constant, is_iterator}
use Rattle.life_types.specs.Types.{Types}
use Rattle.life_types.specs.declared.ty.Ty.{Ty}
use Rattle.life_types.specs.declared.ty.Ty.TheVariants as ty
use Rattle.life_types.specs.declared.ty.TyId.{TyId}
use Rattle.life_typed.specs.declared.typed_expr.ExprType.TheVariants.{Of}
use Rattle.life_core.specs.Function.{Function}
use Rattle.life_core.specs.Operands.{Base, Location, Operand, Whole}
use Rattle.life_core.specs.Step.{Advance, Cursor}
use Rattle.life_core.specs.Touched.{base_uses}
use Rattle.life_core.specs.declared.instr.Direction.{Direction}
use Rattle.life_core.specs.declared.operand.RangeEnd.{RangeEnd}
use Rattle.life_proper.specs.OperandTypes.{keeps_const, same, spans, takes, walks}
use Rattle.life_proper.specs.Placed.{element_of, is_const_base, is_const_place, is_number, type_in, type_of}
use Rattle.life_proper.specs.WellFormed.{is_source_of}
use Rattle.life_proper.specs.declared.known.Known.{Known}
use Rattle.life_writer.specs.Pointers.{By, aimed}
use Rattle.life_elab_laws.proofs.Among.{among_left}
use Rattle.life_elab_laws.proofs.Aiming.{keeps_further}
use Rattle.life_elab_laws.proofs.BaseSteps.{IsBase, IsBaseOf}
use Rattle.life_elab_laws.proofs.Gifts.{IsAt, IsGivenAs, IsNumberOf, IsPlaceOf, IsTakenBy}
use Rattle.life_elab_laws.proofs.Locations.{is_location}
use Rattle.life_elab_laws.proofs.LookedLocals.{base_used}
use Rattle.life_elab_laws.proofs.Making.{AreHeld, IsFilling, IsHeld, IsPointer}
use Rattle.life_elab_laws.proofs.OperandsThere.{number_any, same_is}
use Rattle.life_elab_laws.proofs.ViewSteps.{pointer_is_held}
use Rattle.life_elab_laws.proofs.Filling.{only_uses}

-- what takes an iterator of a type is one of that type, which is const where that is
pub record IsIteratorTo (types : Types) (item : TyId) (constant : Bool) (u : Ty) : Type 0 where
  pub target : TyId
  pub held : Bool
  pub is : u ≡ ty.Iterator target held
  pub one : ty_of types target ≡ ty_of types item
  pub kept : keeps_const held constant ≡ true

pub keeps_itself : (c : Bool) → keeps_const c c ≡ true
keeps_itself true = refl
keeps_itself false = refl

same_of : {u w : Ty} → Of u ≡ Of w → u ≡ w
same_of e = cc

pub iterator_taker : (types : Types) (item : TyId) (constant : Bool) (u : Ty) → is_location u ≡ true → IsTakenBy types u (Of (ty.Iterator item constant)) → IsIteratorTo types item constant u
iterator_taker types item constant u loc (inl e) = record { target = item; held = constant; is = sym (same_of e); one = refl; kept = keeps_itself constant }
iterator_taker types item constant (ty.Iterator target held) loc (inr e) =
    let parts = and_parts (same (ty_of types target) (ty_of types item)) (keeps_const held constant) e in
    record { target = target; held = held; is = refl; one = same_is (ty_of types target) (ty_of types item) parts.0; kept = parts.1 }
iterator_taker types item constant (ty.Raw target held) loc (inr e) = absurd (false≢true e)
iterator_taker types item constant ty.View loc (inr e) = absurd (false≢true e)
iterator_taker types item constant (ty.Span target held) loc (inr e) = absurd (false≢true e)
iterator_taker types item constant _ loc (inr e) = absurd (false≢true loc)

-- .. so of a span
pub record IsSpanTo (types : Types) (item : TyId) (constant : Bool) (u : Ty) : Type 0 where
  pub target : TyId
  pub held : Bool
  pub is : u ≡ ty.Span target held
  pub one : ty_of types target ≡ ty_of types item
  pub kept : keeps_const held constant ≡ true

pub span_taker : (types : Types) (item : TyId) (constant : Bool) (u : Ty) → is_location u ≡ true → IsTakenBy types u (Of (ty.Span item constant)) → IsSpanTo types item constant u
span_taker types item constant u loc (inl e) = record { target = item; held = constant; is = sym (same_of e); one = refl; kept = keeps_itself constant }
span_taker types item constant (ty.Span target held) loc (inr e) =
    let parts = and_parts (same (ty_of types target) (ty_of types item)) (keeps_const held constant) e in
    record { target = target; held = held; is = refl; one = same_is (ty_of types target) (ty_of types item) parts.0; kept = parts.1 }
span_taker types item constant (ty.Raw target held) loc (inr e) = absurd (false≢true e)
span_taker types item constant ty.View loc (inr e) = absurd (false≢true e)
span_taker types item constant (ty.Iterator target held) loc (inr e) = absurd (false≢true e)
span_taker types item constant _ loc (inr e) = absurd (false≢true loc)

module _ (types : Types) (texts : ℕ) (fs : List Function) (f : Function) where
  -- ---- an end of a vector

  pub cursor_given : (item : TyId) (constant : Bool) (t : Ty) (b : Base) (end : RangeEnd) → ty_of types item ≡ t → same t t ≡ true → IsBaseOf types texts fs f t constant b
      → IsGivenAs types texts fs f (Of (ty.Iterator item constant)) (By (λ p. Cursor p b end))
  cursor_given item constant t b end later v h = λ u l loc at taken.
      let to = iterator_taker types item constant u loc taken in
      let typed : type_in types f l ≡ ty.Iterator to.target to.held = at ∙ to.is in
      record {
        given = refl;
        formed =
            and_from (walks types (type_in types f l) (element_of types f b)) (keeps_const (is_constant (type_in types f l)) (is_const_base types f b))
            (ap (λ (w : Ty). walks types w (element_of types f b)) typed ∙ ap (same (ty_of types to.target)) h.element ∙ ap (λ (w : Ty). same w t) (to.one ∙ later) ∙ v)
            (ap (λ (w : Ty). keeps_const (is_constant w) (is_const_base types f b)) typed ∙ keeps_further to.held constant (is_const_base types f b) to.kept h.held);
      }

  pub cursor_filling : (b : Base) (end : RangeEnd) (n : ℕ) (k : List Known) → IsBase b n k → IsFilling f (λ p. Cursor p b end) n k
  cursor_filling b end n k h = record {
    uses = base_uses b ++ [];
    held = subst (λ (xs : List ℕ). AreHeld (xs ++ []) n k) (sym h.uses) ((h.below, h.held), tt);
    touches = λ x e. refl;
    parts = λ x m ms. only_uses (sym (append_assoc (base_uses b) [] (x ∷ [])));
    looks = λ l x m. among_left (base_uses b) [] x (base_used f b x m);
  }

  -- ---- so many elements on

  pub advance_given : (item : TyId) (constant : Bool) (t : Ty) (q : Location) (r : ℕ) (direction : Direction) → IsAt types texts fs f (ty.Iterator item constant) q → same (ty_of types item) (ty_of types item) ≡ true → IsNumberOf types texts fs f t r
      → IsGivenAs types texts fs f (Of (ty.Iterator item constant)) (By (λ p. Advance p q r direction))
  advance_given item constant t q r direction source v number = λ u l loc at taken.
      let to = iterator_taker types item constant u loc taken in
      let typed : type_in types f l ≡ ty.Iterator to.target to.held = at ∙ to.is in
      record {
        given = refl;
        formed =
            and_from (is_iterator (type_in types f l)) _ (ap is_iterator typed)
            (and_from (takes types (type_in types f l) (type_in types f q)) (is_number types f r)
            (ap (λ (w : Ty). takes types w (type_in types f q)) typed ∙ ap (takes types (ty.Iterator to.target to.held)) source.typed
            ∙ and_from (same (ty_of types to.target) (ty_of types item)) (keeps_const to.held constant) (ap (λ (w : Ty). same w (ty_of types item)) to.one ∙ v) to.kept)
            (number_any types f t r number));
      }

  pub advance_filling : (q : Location) (r : ℕ) (direction : Direction) (n : ℕ) (k : List Known) → IsPointer q n k → IsHeld r n k → IsFilling f (λ p. Advance p q r direction) n k
  advance_filling q r direction n k h number = record { uses = q.local ∷ r ∷ []; held = (pointer_is_held q n k h, (number, tt)); touches = λ x e. refl; parts = λ x m ms. refl; looks = λ l x m. absurd m }

  -- ---- the whole of a vector

  pub span_given : (item : TyId) (constant : Bool) (element : TyId) (o : Operand) → ty_of types element ≡ ty_of types item → same (ty_of types item) (ty_of types item) ≡ true → IsPlaceOf types texts fs f (ty.Vector element) constant o
      → IsGivenAs types texts fs f (Of (ty.Span item constant)) (aimed (Whole o))
  span_given item constant element o one v h = λ u l loc at taken.
      let to = span_taker types item constant u loc taken in
      let typed : type_in types f l ≡ ty.Span to.target to.held = at ∙ to.is in
      record {
        given = refl;
        formed =
            ap (λ (w : Ty). is_source_of types texts fs f w (Whole o)) typed
            ∙ and_from (spans types (ty.Span to.target to.held) (type_of types f o)) (keeps_const to.held (is_const_place types f o))
            (ap (spans types (ty.Span to.target to.held)) h.typed ∙ ap (λ (w : Ty). same w (ty_of types element)) to.one ∙ ap (same (ty_of types item)) one ∙ v)
            (keeps_further to.held constant (is_const_place types f o) to.kept h.held);
      }
