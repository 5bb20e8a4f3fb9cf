-- An expression whose answer is thrown away: a place isn't read, a value or a pointer goes to a register, and what is made to a temporary.
use Rattle.std.proofs.Common.{◌≡◌, inl, inr, ℕ, Bool, true, false, List, cond, Some, None, refl, sym, ap, ◌∙◌, subst}
use Rattle.std.proofs.lemmas.Bool.{and_parts, false≢true}
use Rattle.life_types.specs.TypeTests.{is_value, is_void}
use Rattle.life_types.specs.Types.{Types, class}
use Rattle.life_types.specs.declared.place.Place.{Place}
use Rattle.life_types.specs.declared.ty.Ty.{Ty}
use Rattle.life_types.specs.declared.ty.Ty.TheVariants as ty
use Rattle.life_typed.specs.declared.typed_expr.Category.{Category}
use Rattle.life_typed.specs.declared.typed_expr.Category.TheVariants as category
use Rattle.life_typed.specs.declared.typed_expr.ExprType.{ExprType}
use Rattle.life_typed.specs.declared.typed_expr.Method.{Method}
use Rattle.life_core.specs.Function.{Function}
use Rattle.life_core.specs.Operands.{object_named}
use Rattle.life_well_typed.specs.Given.{is_number}
use Rattle.life_writer.specs.Around.{Around, own_type}
use Rattle.life_writer.specs.Uses.{Uses, own}
use Rattle.life_writer.specs.Using.{pointer, temporary_of, value}
use Rattle.life_writer.specs.Writing.{Gives, State, gives, mapped}
use Rattle.life_elab.specs.SimpleForms.{thrown, thrown_by}
use Rattle.life_elab_laws.proofs.ExpressionTypes.{own_value}
use Rattle.life_elab_laws.proofs.Gifts.{Gift, a_number, a_place, a_pointer, nothing}
use Rattle.life_elab_laws.proofs.Parts.{Makes, leaf_part, seen_part}
use Rattle.life_elab_laws.proofs.Setting.{Setting}
use Rattle.life_elab_laws.proofs.Values.{by_values}
use Rattle.life_elab_laws.proofs.VariablePlaces.{Stands}
use Rattle.life_elab_laws.proofs.MadeForms.{BuildsIn, IsOwning, is_made, stands_there, temporary_made}
use Rattle.life_elab_laws.proofs.WalkerForms.{walker_pointer}
use Rattle.life_types.specs.declared.ty.TyId.{TyId}
use Rattle.life_typed.specs.BaseTypes.{type_at}
use Rattle.life_elab_laws.proofs.ReferredOwners.{walker_value}
use Rattle.life_elab_laws.proofs.AnsweredUniques.{IsHolding, holds_answer, holds_named, unique_itself}
use Rattle.life_elab_laws.proofs.FormKinds.{is_read_walker}
use Rattle.life_elab_laws.proofs.ObjectTypes.{is_owner_of_values, is_walker_of_values}
use Rattle.life_elab_laws.proofs.TypeKinds.{gives_nothing, is_walker_type}
use Rattle.life_typed.specs.TypedForm.{Form, Typed, binary, call, local, member, method, paren, typed, whole as whole_form, ◌⨟◌}
use Rattle.life_well_typed.specs.Expressions.{IsExpression, IsMadeOf, typed_in}
use Rattle.life_typed.specs.declared.typed_expr.ExprType.TheVariants.{NullPointer, Of, TextLiteral}
use Rattle.life_writer.specs.ExpressionForms.{form_uses, member_at, uses}
use Rattle.life_elab_laws.proofs.ExpressionForms.{IsWhole, placed_finds}
use Rattle.life_elab_laws.proofs.Expressions.{struct_expression, walker_expression}
use Rattle.life_elab_laws.proofs.PointerForms.{pointer_whole}
use Rattle.life_elab_laws.proofs.TypedKinds.{HasKind, a_null, a_number as of_number, a_pointer as of_pointer, a_text, a_view as of_view, combined_as, no_value, ok_same, value_place}
use Rattle.life_elab_laws.proofs.MadeStructs.{IsAnyStruct, struct_made, struct_there, with_members}
use Rattle.life_elab_laws.proofs.StructForms.{found}
use Rattle.life_elab_laws.proofs.Locations.{is_location}
use Rattle.life_elab_laws.proofs.AdmittedTypes.{IsBuilt}
use Rattle.life_types.specs.declared.ty.Class.{Class}
use Rattle.life_types.specs.declared.ty.Class.TheVariants as classes
use Rattle.life_elab_laws.proofs.NoVoid.{no_void}
use Rattle.life_elab_laws.proofs.Types.{owner_class, walker_class}
use Rattle.life_elab_laws.proofs.CalledValues.{called_value, no_edge}

module _ (a : Around) (visible : List ℕ) (types : Types) (texts : ℕ) (fs : List Function) (f : Function) (setting : Setting a types fs f) where
  abbrev Whole : Typed → Type 0
  Whole e = IsExpression a.program a.function.locals visible (whole_form e)

  abbrev Standing : State → Type 0
  Standing s = Stands a visible s

  abbrev no_gift : Gift types texts fs f (Unit {0})
  no_gift = nothing types texts fs f

  -- what is written and gives nothing
  abbrev pub Acts : State → State → Type 0
  Acts s s' = Makes types texts fs f None s (gives tt s') no_gift

  abbrev pub Throws : Typed → (behind : Place) → State → Type 0
  Throws e behind s = Acts s (thrown e.category (uses a (whole_form e)) behind s)

  -- ---- places, and what has a type

  -- what it gives isn't asked
  unasked : {A : Type 0} (s : State) (w : Gives A) (Q : Gift types texts fs f A) → Makes types texts fs f None s w Q → Acts s w.state
  unasked s w Q is = seen_part types texts fs f no_gift tt None s w Q (λ x. tt) no_gift is (λ b h. tt) (λ n k h. tt)

  -- a place isn't read
  place_thrown : (e : Typed) (behind : Place) (s : State) (id : TyId) (constant : Bool) → e.category ≡ category.Place id constant → Acts s ((uses a (whole_form e)).at s).state → Throws e behind s
  place_thrown e behind s id constant held acts = subst (λ (k : Category). Acts s (thrown k (uses a (whole_form e)) behind s)) (sym held) acts

  -- a value of a type goes where its class says
  typed_thrown : (e : Typed) (behind : Place) (s : State) (t : Ty) → e.ty ≡ Of t → e.category ≡ category.Value → is_void t ≡ false → (k : Class) → class (Some t) ≡ k → Acts s (thrown_by k (uses a (whole_form e)) behind s) → Throws e behind s
  typed_thrown e behind s t is held some k goes acts =
      let u = uses a (whole_form e) in
      subst (Acts s)
      (sym (ap (λ (c : Category). thrown c u behind s) held
      ∙ ap (λ (x : ExprType). cond (is_void (own_type x)) (u.alone s) (thrown_by (class (Some (own_type x))) u behind s)) is
      ∙ ap (λ (b : Bool). cond b (u.alone s) (thrown_by (class (Some t)) u behind s)) some
      ∙ ap (λ (c : Class). thrown_by c u behind s) goes))
      acts

  -- a pointer
  pointer_thrown : (e : Typed) (behind : Place) (s : State) (t : Ty) → e.ty ≡ Of t → e.category ≡ category.Value → is_void t ≡ false → class (Some t) ≡ classes.Pointer
      → Makes types texts fs f None s (pointer (uses a (whole_form e)) (own (uses a (whole_form e))) s) (a_pointer types texts fs f t) → Throws e behind s
  pointer_thrown e behind s t is held some goes points =
      let u = uses a (whole_form e) in
      typed_thrown e behind s t is held some classes.Pointer goes (unasked s (pointer u (own u) s) (a_pointer types texts fs f t) points)

  -- what is made is a temporary
  temporary_thrown : {plain : Bool} (e : Typed) (behind : Place) (s : State) (t : Ty) → e.ty ≡ Of t → e.category ≡ category.Value → is_void t ≡ false → (k : Class) → class (Some t) ≡ k
      → thrown_by k (uses a (whole_form e)) behind s ≡ (temporary_of (uses a (whole_form e)) (own (uses a (whole_form e))) s).state
      → IsBuilt a.program.types t → BuildsIn a visible types texts fs f setting plain t s ((uses a (whole_form e)).object s) → Standing s → Throws e behind s
  temporary_thrown e behind s t is held some k goes as_temporary built builds stands =
      let u = uses a (whole_form e) in
      let w = mapped object_named (temporary_of u t s) in
      typed_thrown e behind s t is held some k goes
      (subst (Acts s) (sym (as_temporary ∙ ap (λ (x : ExprType). (temporary_of u (own_type x) s).state) is))
      (unasked s w (a_place types texts fs f t false) (temporary_made a visible types texts fs f setting t u.place s (u.object s) built builds stands)))

  -- ---- values and pointers

  -- what is thrown away has a value
  value_thrown : (e : Uses) (behind : Place) (t : Ty) (s : State) → own e ≡ t → is_value t ≡ true → thrown category.Value e behind s ≡ (value e behind (own e) None s).state
  value_thrown e behind t s own_is v =
      ap (λ (x : Ty). cond (is_void x) (e.alone s) (thrown_by (class (Some x)) e behind s)) own_is
      ∙ by_values (λ x. cond (is_void x) (e.alone s) (thrown_by (class (Some x)) e behind s) ≡ (value e behind (own e) None s).state) refl refl refl refl refl t v

  -- a number, which is computed, or a place that has one
  number_thrown : (e : Typed) (behind : Place) (s : State) → IsWhole a visible types texts fs f setting (whole_form e) → is_number e.ty ≡ true → Standing s → Throws e behind s
  number_thrown e behind s is n stands = go e.category refl
    where
      go : (c : Category) → e.category ≡ c → Throws e behind s
      go category.Value held =
          let u = uses a (whole_form e) in
          subst (Acts s) (sym (ap (λ (k : Category). thrown k u behind s) held ∙ value_thrown u behind (own_type e.ty) s refl (own_value e.ty n)))
          (unasked s (value u behind (own_type e.ty) None s) (a_number types texts fs f (own_type e.ty)) (is.valued n behind (own_type e.ty) (own_value e.ty n) None s tt stands))
      go (category.Place id constant) held =
          let t = type_at a.program.types id in
          let worth : is_value t ≡ true = sym (ap is_number (is.kind.place id constant held)) ∙ n in
          place_thrown e behind s id constant held (unasked s ((uses a (whole_form e)).at s) (a_place types texts fs f t constant) (is.names id constant held worth s stands))

  -- whichever it is, at a place or not
  pub whole_thrown : (e : Typed) (behind : Place) (s : State) → IsWhole a visible types texts fs f setting (whole_form e) → gives_nothing e.ty ≡ false → Standing s → Throws e behind s
  whole_thrown e behind s is some stands = go e.category refl
    where
      none : (t : ExprType) → e.ty ≡ t → gives_nothing t ≡ true → Throws e behind s
      none t at n = absurd (false≢true (sym some ∙ ap gives_nothing at ∙ n))

      points : (t : Ty) → e.ty ≡ Of t → e.category ≡ category.Value → is_void t ≡ false → class (Some t) ≡ classes.Pointer → is_location t ≡ true → Throws e behind s
      points t at held some goes loc = pointer_thrown e behind s t at held some goes (pointer_whole a visible types texts fs f setting (whole_form e) is t at loc (own (uses a (whole_form e))) s stands)

      kind : HasKind a.program.types e → e.category ≡ category.Value → Throws e behind s
      kind (of_number t at v) held = number_thrown e behind s is (ap is_number at ∙ v) stands
      kind (of_pointer target constant at w) held = points (ty.Raw target constant) at held refl refl refl
      kind (of_view at) held = points ty.View at held refl refl refl
      kind (a_text at v) held = none TextLiteral at refl
      kind (no_value at v) held = none (Of ty.Void) at refl
      kind (a_null at v) held = none NullPointer at refl

      go : (c : Category) → e.category ≡ c → Throws e behind s
      go category.Value held = kind is.kind.kind held
      go (category.Place id constant) held = place_thrown e behind s id constant held (is.found id constant held s stands)

  -- ---- owners, structs and unique_ptrs

  pub owning_thrown : (e : Typed) (behind : Place) (s : State) → IsOwning a visible types texts fs f setting (whole_form e) → Standing s → Throws e behind s
  owning_thrown e behind s (stands_there is) stands =
      place_thrown e behind s is.id is.constant is.place (unasked s ((uses a (whole_form e)).at s) (a_place types texts fs f is.ty is.constant) (is.names s stands))
  owning_thrown e behind s (is_made is) stands =
      temporary_thrown e behind s is.ty is.is is.value (no_void (is_owner_of_values a.program.types) refl is.ty is.owner) classes.Owner (owner_class a.program.types is.ty is.owner) refl (inl is.owner) (is.builds s stands) stands

  pub any_struct_thrown : (e : Typed) (behind : Place) (s : State) → IsAnyStruct a visible types texts fs f setting (whole_form e) → Standing s → Throws e behind s
  any_struct_thrown e behind s (struct_there is) stands =
      place_thrown e behind s is.id is.constant is.place (unasked s ((uses a (whole_form e)).at s) (a_place types texts fs f (ty.Struct is.number) is.constant) (is.names s stands))
  any_struct_thrown e behind s (struct_made is) stands =
      temporary_thrown e behind s (ty.Struct is.number) is.is is.value refl classes.Aggregate refl refl (inr (inr is.tabled)) (is.builds s stands) stands

  pub holding_thrown : (e : Typed) (behind : Place) (s : State) → IsHolding a visible types texts fs f setting (whole_form e) → Standing s → Throws e behind s
  holding_thrown e behind s (holds_named is) stands =
      place_thrown e behind s is.id is.constant is.place (unasked s ((uses a (whole_form e)).at s) (a_place types texts fs f (ty.Unique is.target) false) (is.placed s stands))
  holding_thrown e behind s (holds_answer is) stands =
      let made = is.fresh in
      temporary_thrown e behind s (ty.Unique made.owned) made.is made.value refl classes.Owner refl refl (inr (inl is.worth))
      (made.builds made.owned is.worth (unique_itself a.program.types e made.owned made.is made.value) s stands) stands

  -- ---- iterators and spans

  -- at a place: a variable or a member
  mutual
    walker_found : (form : Form) → is_read_walker texts a.program form ≡ true → IsExpression a.program a.function.locals visible form → (id : TyId) (constant : Bool) → (typed_in form).category ≡ category.Place id constant → (s : State) → Standing s
        → Acts s ((uses a form).at s).state
    walker_found (typed place t c form) b h id constant held s stands =
        let parts = and_parts (is_walker_type t) (is_read_walker texts a.program form) b in
        walker_made_found form (record { place = place; ty = t; category = c; form = form }) parts.0 parts.1 h id constant held place s stands
    walker_found _ b h id constant held s stands = absurd h

    walker_made_found : (form : Form) (e : Typed) → is_walker_type e.ty ≡ true → is_read_walker texts a.program form ≡ true → IsMadeOf a.program a.function.locals visible e form → (id : TyId) (constant : Bool) → e.category ≡ category.Place id constant
        → (place : Place) (s : State) → Standing s → Acts s ((form_uses a form place e.ty e.category).at s).state
    walker_made_found (local x) e n b h id constant held place s stands = leaf_part types texts fs f tt s no_gift (λ b. tt) (λ b k alive. tt)
    walker_made_found (paren inner closing) e n b h id constant held place s stands = walker_found inner b h.1 id constant (ap (λ (y : Typed). y.category) (ok_same h.0) ∙ held) s stands
    walker_made_found (member base which) e n b h id constant held place s stands =
        let is = with_members a visible types texts fs f setting base which e (struct_expression a visible types texts fs f setting base b h.1) h.0 in
        let m = found a visible types texts fs f setting base which e is h.0 in
        placed_finds a visible types texts fs f setting (type_at a.program.types m.id) is.constant s (member_at (uses a base) which s) (m.names s stands)
    walker_made_found (call g given delimiters) e n b h id constant held place s stands = absurd (value_place (sym (walker_value a visible types texts fs f setting g e n h.0) ∙ held))
    walker_made_found (method base m given delimiters) e n b h id constant held place s stands =
        let none = no_edge (λ (m : Method). is_read_walker texts a.program (method base m given delimiters)) refl refl m b in
        absurd (value_place (sym (called_value a.program.types (typed_in base).ty (typed_in base).category m given e none h.0) ∙ held))
    walker_made_found (binary o left right) e n b h id constant held place s stands = absurd (value_place (sym (combined_as o e.place (typed_in left) (typed_in right) e h.0).is.1 ∙ held))
    walker_made_found (typed at t c form) e n b h id constant held place s stands = absurd h
    walker_made_found (first ⨟ others) e n b h id constant held place s stands = absurd h
    walker_made_found _ e n b h id constant held place s stands = absurd (false≢true b)

  pub any_walker_thrown : (e : Typed) (behind : Place) (s : State) → is_read_walker texts a.program (whole_form e) ≡ true → Whole e → Standing s → Throws e behind s
  any_walker_thrown e behind s b h stands = go e.category refl
    where
      go : (c : Category) → e.category ≡ c → Throws e behind s
      go category.Value held =
          let is = walker_expression a visible types texts fs f setting (whole_form e) b h in
          pointer_thrown e behind s is.ty is.is held (no_void (is_walker_of_values a.program.types) refl is.ty is.walker) (walker_class a.program.types is.ty is.walker)
          (walker_pointer a visible types texts fs f setting (whole_form e) is (own (uses a (whole_form e))) s stands)
      go (category.Place id constant) held = place_thrown e behind s id constant held (walker_found (whole_form e) b h id constant held s stands)
