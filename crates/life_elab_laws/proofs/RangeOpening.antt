-- The hidden range of a loop, by what that goes over: an owner that is named, a view or a span.
use Rattle.std.proofs.Common.{◌≡◌, ℕ, Bool, true, List, [], ◌++◌, Option, Some, None, refl, sym, ap, ◌∙◌, subst}
use Rattle.std.proofs.lemmas.Bool.{and_from, false≢true}
use Rattle.life_elab_laws.proofs.ObjectTypes.{is_element, is_owner_of_values, is_target, is_walker_of_values}
use Rattle.life_types.specs.Pointees.{ty_of}
use Rattle.life_types.specs.TypeTests.{is_constant as is_constant_type}
use Rattle.life_types.specs.Types.{Types}
use Rattle.life_types.specs.declared.place.Place.{Place}
use Rattle.life_types.specs.declared.ty.Ty.{Ty}
use Rattle.life_types.specs.declared.ty.Ty.TheVariants as ty
use Rattle.life_types.specs.declared.ty.TyId.{TyId}
use Rattle.life_typed.specs.BaseTypes.{type_at}
use Rattle.life_typed.specs.Conversions.{is_const_place}
use Rattle.life_typed.specs.Members.{element_type}
use Rattle.life_typed.specs.Statements.{range_element}
use Rattle.life_typed.specs.TypedForm.{Form}
use Rattle.life_typed.specs.declared.basic.TheConstants.{CHAR}
use Rattle.life_typed.specs.declared.typed_expr.Category.{Category}
use Rattle.life_typed.specs.declared.typed_expr.Category.TheVariants as category
use Rattle.life_typed.specs.declared.typed_expr.ExprType.{ExprType}
use Rattle.life_typed.specs.declared.typed_expr.ExprType.TheVariants.{Of}
use Rattle.life_core.specs.Function.{Function}
use Rattle.life_core.specs.Operands.{Base, Owner, Place as Aimed, Pointer, behind, whole}
use Rattle.life_core.specs.Step.{Cursor}
use Rattle.life_core.specs.Touched.{base_uses}
use Rattle.life_core.specs.declared.operand.RangeEnd.{RangeEnd}
use Rattle.life_proper.specs.OperandTypes.{keeps_const, same, walks}
use Rattle.life_proper.specs.Placed.{element_of as placed_element, is_const_base, type_in}
use Rattle.life_well_typed.specs.Expressions.{typed_in}
use Rattle.life_writer.specs.Around.{Around, own_type}
use Rattle.life_writer.specs.Building.{Fill, built}
use Rattle.life_writer.specs.ExpressionForms.{uses}
use Rattle.life_writer.specs.Pointers.{As, aimed, pointed}
use Rattle.life_writer.specs.Temporaries.{hidden}
use Rattle.life_writer.specs.Uses.{Uses, own}
use Rattle.life_writer.specs.Using.{pointer}
use Rattle.life_writer.specs.Writing.{Gives, State, mapped, ◌>>◌}
use Rattle.life_elab.specs.RangeForms.{Iterators, cursor_at, element_of, hidden_by, hidden_owner, owner_range, range_type}
use Rattle.life_elab_laws.proofs.Elements.{element_held, element_there, one_element}
use Rattle.life_elab_laws.proofs.ExpressionForms.{IsWhole, Standing}
use Rattle.life_elab_laws.proofs.Fronts.{front_then}
use Rattle.life_elab_laws.proofs.Gifts.{Gift, a_place, a_pointer, held_stays, nothing as no_gift}
use Rattle.life_elab_laws.proofs.HiddenLocals.{IsHiddenOf, a_hidden, hidden_part}
use Rattle.life_elab_laws.proofs.Making.{AreHeld, IsHeld}
use Rattle.life_elab_laws.proofs.ObjectForms.{IsObject}
use Rattle.life_elab_laws.proofs.Parts.{Makes, Part, then_part}
use Rattle.life_elab_laws.proofs.PointerForms.{held_typed, own_typed, pointer_whole}
use Rattle.life_elab_laws.proofs.RangeBases.{a_hidden_base, hidden_owner_part, hidden_pointer_part}
use Rattle.life_elab_laws.proofs.Setting.{Setting}
use Rattle.life_elab_laws.proofs.WalkerForms.{IsWalker, walker_pointer}
use Rattle.life_elab_laws.proofs.WalkerSteps.{keeps_itself}
use Rattle.life_elab_laws.proofs.WrittenLocals.{fits_hidden, there_later}
use Rattle.life_elab_laws.proofs.Shaped.{element_further, owner_later}
use Rattle.life_elab_laws.proofs.Targets.{owner_target, target_type}
use Rattle.life_elab_laws.proofs.Values.{by_owners}

-- the elements of an owner
abbrev pub element_number : Ty → TyId
element_number (ty.Vector item) = item
element_number _ = CHAR

module _ (types : Types) (texts : ℕ) (fs : List Function) (f : Function) where
  -- ---- both iterators

  abbrev pub AreIterators : TyId → Bool → Iterators → Type 0
  AreIterators id constant it = IsHiddenOf types texts fs f (ty.Iterator id constant) it.first × IsHiddenOf types texts fs f (ty.Iterator id constant) it.last

  -- .. are there
  abbrev pub iterators : TyId → Bool → Gift types texts fs f Iterators
  iterators id constant = record {
    typed = AreIterators id constant;
    ready = λ it n k. IsHeld it.first n k × IsHeld it.last n k;
    stays = λ it n m k j h p keeps. (held_stays types texts fs f it.first n m k j h p.0 keeps, held_stays types texts fs f it.last n m k j h p.1 keeps);
  }

  -- one of them
  pub cursor_part : (id : TyId) (constant : Bool) (t : Ty) (colon : Place) (b : Base) (end : RangeEnd) (s : State) → ty_of types id ≡ t → same t t ≡ true → fits_hidden types s.types (ty.Iterator id constant) ≡ true
      → Part types texts fs f (a_hidden_base types texts fs f t constant) b None s (cursor_at colon (ty.Iterator id constant) b end s) (a_hidden types texts fs f (ty.Iterator id constant))
  cursor_part id constant t colon b end s later one fits =
      hidden_part types texts fs f colon (ty.Iterator id constant) s fits (a_hidden_base types texts fs f t constant) b (λ p. Cursor p b end)
      (λ begins p y is. record {
        given = refl;
        formed =
            and_from (walks types (type_in types f (whole y)) (placed_element types f b)) (keeps_const (is_constant_type (type_in types f (whole y))) (is_const_base types f b))
            (ap (λ (w : Ty). walks types w (placed_element types f b)) is.typed ∙ ap (same (ty_of types id)) p.of.element ∙ ap (λ (w : Ty). same w t) later ∙ one)
            (ap (λ (w : Ty). keeps_const (is_constant_type w) (is_const_base types f b)) is.typed ∙ p.of.held);
      })
      (λ n k h. record { uses = base_uses b ++ []; held = subst (λ (xs : List ℕ). AreHeld (xs ++ []) n k) (sym h.uses) ((h.below, h.held), tt); touches = λ x. refl })

module _ (a : Around) (visible : List ℕ) (types : Types) (texts : ℕ) (fs : List Function) (f : Function) (setting : Setting a types fs f) where
  abbrev Stood : State → Type 0
  Stood s = Standing a visible types texts fs f setting s

  -- ---- a range with elements of a type

  pub record IsRange (form : Form) (id : TyId) (constant : Bool) : Type 0 where
    pub elements : element_of (uses a form) ≡ Some (id, constant)
    pub worth : is_element a.program.types (type_at a.program.types id) ≡ true
    pub hides : (colon : Place) (s : State) → Stood s → Makes types texts fs f None s (hidden_by (own (uses a form)) colon (uses a form) s) (a_hidden_base types texts fs f (type_at a.program.types id) constant)

  -- the type and the category that its uses have
  pub elements_as : (form : Form) (t : Ty) (c : Category) (x : Option (TyId × Bool)) → (typed_in form).ty ≡ Of t → (typed_in form).category ≡ c → range_element (Of t) (is_const_place c) ≡ x → element_of (uses a form) ≡ x
  elements_as form t c x typed held is =
      ap (λ (y : ExprType). range_element y (is_const_place (uses a form).category)) (sym (own_typed a visible types texts fs f setting form) ∙ typed)
      ∙ ap (λ (k : Category). range_element (Of t) (is_const_place k)) (sym (held_typed a visible types texts fs f setting form) ∙ held)
      ∙ is

  pub own_as : (form : Form) (t : Ty) → (typed_in form).ty ≡ Of t → own (uses a form) ≡ t
  own_as form t typed = ap own_type (sym (own_typed a visible types texts fs f setting form) ∙ typed)

  pub owner_range_element : (constant : Bool) (t : Ty) → is_owner_of_values a.program.types t ≡ true → range_element (Of t) constant ≡ Some (element_number t, constant)
  owner_range_element constant ty.Text o = refl
  owner_range_element constant (ty.Vector item) o = refl
  owner_range_element constant _ o = absurd (false≢true o)

  pub number_here : (t : Ty) → is_owner_of_values a.program.types t ≡ true → type_at a.program.types (element_number t) ≡ element_type a.program.types t
  number_here = by_owners a.program.types _ setting.chars (λ item. refl)

  pub number_element : (t : Ty) → is_owner_of_values a.program.types t ≡ true → is_element a.program.types (type_at a.program.types (element_number t)) ≡ true
  number_element t o = ap (is_element a.program.types) (number_here t o) ∙ element_held a.program.types t o

  pub by_owner : (t : Ty) (colon : Place) (e : Uses) (s : State) → is_owner_of_values a.program.types t ≡ true → hidden_by t colon e s ≡ hidden_owner colon e s
  by_owner ty.Text colon e s o = refl
  by_owner (ty.Vector item) colon e s o = refl
  by_owner _ colon e s o = absurd (false≢true o)

  -- an owner that is named
  module _ (form : Form) (is : IsObject a visible types texts fs f setting form) where
    object_hidden : (colon : Place) (e : Uses) (s : State) → own e ≡ is.ty → e.category ≡ category.Place is.id is.constant
        → hidden_by (own e) colon e s ≡ (e.at s >> λ o s. mapped (λ r. Owner (behind r)) (built (Fill colon (pointed (aimed (Aimed o)))) (hidden colon (ty.Reference is.id is.constant)) s))
    object_hidden colon e s own_is place =
        ap (λ (t : Ty). hidden_by t colon e s) own_is
        ∙ by_owner is.ty colon e s is.owner
        ∙ ap (λ (c : Category). owner_range c e s >> λ o s. range_type c (own e) s >> λ t s. mapped (λ r. Owner (behind r)) (built (Fill colon (pointed (aimed (Aimed o)))) (hidden colon t) s)) place

    pub object_range : IsRange form (element_number is.ty) is.constant
    object_range = record {
      elements = elements_as form is.ty (category.Place is.id is.constant) (Some (element_number is.ty, is.constant)) is.is is.place (owner_range_element is.constant is.ty is.owner);
      worth = number_element is.ty is.owner;
      hides = λ colon s stands.
          let w = (uses a form).at s in
          let first = is.names s stands in
          subst (λ (g : Gives Base). Makes types texts fs f None s g (a_hidden_base types texts fs f (type_at a.program.types (element_number is.ty)) is.constant))
          (sym (object_hidden colon (uses a form) s (own_as form is.ty is.is) (sym (held_typed a visible types texts fs f setting form) ∙ is.place)))
          (then_part types texts fs f (no_gift types texts fs f) tt None s w _ (a_place types texts fs f is.ty is.constant) (a_hidden_base types texts fs f (type_at a.program.types (element_number is.ty)) is.constant) stands.opened first
          (subst (λ (t : Ty). Part types texts fs f (a_place types texts fs f is.ty is.constant) w.given None w.state (mapped (λ r. Owner (behind r)) (built (Fill colon (pointed (aimed (Aimed w.given)))) (hidden colon (ty.Reference is.id is.constant)) w.state)) (a_hidden_base types texts fs f t is.constant))
          (sym (number_here is.ty is.owner))
          (hidden_owner_part types texts fs f a.program.types setting.front is.id is.constant is.ty w.given colon w.state is.owner (λ b. later)
          (there_later a.program.types w.state.types (front_then a.program.types.types s.types.types w.state.types.types stands.table first.grown.types) (is_owner_of_values types) refl is.id
          (owner_later a.program.types types setting.front setting.plain (type_at a.program.types is.id) (ap (is_owner_of_values a.program.types) is.here ∙ is.owner))))));
    }
      where
        later : ty_of types is.id ≡ is.ty
        later = target_type a.program.types types setting.front is.id (ap (is_target a.program.types) is.here ∙ owner_target a.program.types is.ty is.owner) ∙ is.here

  -- a view
  pub view_range : (form : Form) → IsWhole a visible types texts fs f setting form → (typed_in form).ty ≡ Of ty.View → IsRange form CHAR true
  view_range form is typed = record {
    elements = elements_as form ty.View (typed_in form).category (Some (CHAR, true)) typed refl refl;
    worth = ap (is_element a.program.types) setting.chars;
    hides = λ colon s stands.
        let e = uses a form in
        let w = pointer e ty.View s in
        subst (λ (u : Ty). Makes types texts fs f None s (hidden_by u colon e s) (a_hidden_base types texts fs f (type_at a.program.types CHAR) true)) (sym (own_as form ty.View typed))
        (subst (λ (u : Ty). Makes types texts fs f None s (pointer e u s >> λ l s. mapped (λ r. Pointer (whole r)) (built (Fill colon (pointed (As l))) (hidden colon u) s)) (a_hidden_base types texts fs f (type_at a.program.types CHAR) true)) (sym (own_as form ty.View typed))
        (then_part types texts fs f (no_gift types texts fs f) tt None s w _ (a_pointer types texts fs f ty.View) (a_hidden_base types texts fs f (type_at a.program.types CHAR) true) stands.opened
        (pointer_whole a visible types texts fs f setting form is ty.View typed refl ty.View s stands)
        (hidden_pointer_part types texts fs f ty.View (type_at a.program.types CHAR) true w.given colon w.state refl (sym setting.chars) refl refl)));
  }

  -- a span
  pub span_range : (form : Form) (is : IsWalker a visible types texts fs f setting form) (item : TyId) (constant : Bool) → is.ty ≡ ty.Span item constant → IsRange form item constant
  span_range form is item constant span = record {
    elements = elements_as form (ty.Span item constant) (typed_in form).category (Some (item, constant)) typed refl refl;
    worth = worth;
    hides = λ colon s stands.
        let e = uses a form in
        let t = ty.Span item constant in
        let w = pointer e t s in
        let first : Makes types texts fs f None s w (a_pointer types texts fs f t) = subst (λ (u : Ty). Makes types texts fs f None s w (a_pointer types texts fs f u)) span (walker_pointer a visible types texts fs f setting form is t s stands) in
        subst (λ (u : Ty). Makes types texts fs f None s (hidden_by u colon e s) (a_hidden_base types texts fs f (type_at a.program.types item) constant)) (sym (own_as form t typed))
        (subst (λ (u : Ty). Makes types texts fs f None s (pointer e u s >> λ l s. mapped (λ r. Pointer (whole r)) (built (Fill colon (pointed (As l))) (hidden colon u) s)) (a_hidden_base types texts fs f (type_at a.program.types item) constant)) (sym (own_as form t typed))
        (then_part types texts fs f (no_gift types texts fs f) tt None s w _ (a_pointer types texts fs f t) (a_hidden_base types texts fs f (type_at a.program.types item) constant) stands.opened first
        (hidden_pointer_part types texts fs f t (type_at a.program.types item) constant w.given colon w.state
        (and_from (same (ty_of types item) (ty_of types item)) (keeps_const constant constant) (one_element a.program.types types setting.front item worth) (keeps_itself constant))
        later refl
        (there_later a.program.types w.state.types (front_then a.program.types.types s.types.types w.state.types.types stands.table first.grown.types) (is_element types) refl item
        (element_further a.program.types types setting.front setting.plain (type_at a.program.types item) worth)))));
  }
    where
      typed : (typed_in form).ty ≡ Of (ty.Span item constant)
      typed = is.is ∙ ap Of span

      worth : is_element a.program.types (type_at a.program.types item) ≡ true
      worth = subst (λ (t : Ty). is_walker_of_values a.program.types t ≡ true) span is.walker

      later : ty_of types item ≡ type_at a.program.types item
      later = element_there a.program.types types setting.front item worth
