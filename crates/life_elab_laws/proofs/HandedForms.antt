-- What a parameter is handed: a value in a register, or a pointer, which is its own location or written to a register.
use Rattle.std.proofs.Common.{◌≡◌, inl, inr, ℕ, Bool, true, false, List, ◌∷◌, None, Some, Option, length, slice_get, unwrap_or, refl, sym, ap, ◌∙◌, subst, cond, []}
use Rattle.std.proofs.lemmas.Bool.{and_from, false≢true}
use Rattle.life_types.specs.Pointees.{or_void, ty_of}
use Rattle.life_types.specs.TypeTests.{is_value}
use Rattle.life_types.specs.Types.{Types, is_slot_at, is_slot_type}
use Rattle.life_types.specs.declared.place.Place.{Place}
use Rattle.life_types.specs.declared.ty.Ty.{Ty}
use Rattle.life_types.specs.declared.ty.Ty.TheVariants as ty
use Rattle.life_types.specs.declared.ty.TyId.{TyId}
use Rattle.life_typed.specs.BaseTypes.{type_at}
use Rattle.life_typed.specs.Conversions.{is_place_of, fits}
use Rattle.life_typed.specs.Delimiters.{DelimitersForm, behind_first, behind_others}
use Rattle.life_typed.specs.TypedForm.{Form, ◌⨟◌, Typed}
use Rattle.life_typed.specs.declared.typed_expr.Category.{Category}
use Rattle.life_typed.specs.declared.typed_expr.ExprType.{ExprType}
use Rattle.life_typed.specs.declared.typed_expr.ExprType.TheVariants.{NullPointer, Of, TextLiteral}
use Rattle.life_core.specs.Function.{Function}
use Rattle.life_core.specs.Operands.{Argument, GivenOver, Location, Operand, Place as Aimed, PointerOf, Value, object_named, whole}
use Rattle.life_core.specs.Step.{Aim}
use Rattle.life_proper.specs.OperandTypes.{keeps_const, same, takes}
use Rattle.life_proper.specs.Placed.{type_in}
use Rattle.life_proper.specs.WellFormed.{is_source_of}
use Rattle.life_well_typed.specs.Expressions.{typed_in}
use Rattle.life_well_typed.specs.Given.{is_given}
use Rattle.life_writer.specs.Around.{Around, own_type}
use Rattle.life_writer.specs.ExpressionForms.{all_uses, uses}
use Rattle.life_writer.specs.Giving as giving
use Rattle.life_writer.specs.Pointers.{located}
use Rattle.life_writer.specs.Registers.{new_register, wanted}
use Rattle.life_writer.specs.Temporaries.{consumed, temporary}
use Rattle.life_writer.specs.Uses.{Uses}
use Rattle.life_writer.specs.Using.{pointer, pointing, register_type, value}
use Rattle.life_writer.specs.Writing.{Gives, State, ◌>>◌, emit, gives, mapped}
use Rattle.life_elab_laws.proofs.FreshUniques.{null_builds}
use Rattle.life_elab_laws.proofs.AdmittedTypes.{IsBuilt}
use Rattle.life_elab_laws.proofs.Emitting.{new_targeted}
use Rattle.life_elab_laws.proofs.ExpressionForms.{IsWhole, Standing}
use Rattle.life_elab_laws.proofs.ExpressionTypes.{seen_kind}
use Rattle.life_elab_laws.proofs.Filling.{aimed_filling, filling_fills}
use Rattle.life_elab_laws.proofs.Targets.{reference_no_slot, one_target, owner_target, value_target, struct_target, target_unslotted}
use Rattle.life_elab_laws.proofs.FormedFits.{IsBound, at_place, by_temporary, given_bound, given_raw}
use Rattle.life_elab_laws.proofs.FormedVariables.{keeps_all, reference_there, type_later}
use Rattle.life_elab_laws.proofs.Fronts.{IsFront, front_length, last_there}
use Rattle.life_elab_laws.proofs.Gifts.{Gift, a_number, a_place, a_pointer, a_pointing, nothing as no_gift, takes_from, a_given}
use Rattle.life_elab_laws.proofs.GivenKinds.{given_number, given_pointer, given_view}
use Rattle.life_elab_laws.proofs.Growing.{Begins, added}
use Rattle.life_elab_laws.proofs.GivenOwners.{given_handing}
use Rattle.life_elab_laws.proofs.HandedArguments.{Hands as AllHanded, number_handed, owner_handed, pointer_handed}
use Rattle.life_elab_laws.proofs.HandedTypes.{IsHandedType, a_raw, a_reference, a_unique, a_value, a_view, a_walker, an_alias, an_owner, built_composed, a_struct_alias, a_struct}
use Rattle.life_elab_laws.proofs.Instructions.{emit_part, null_located_part}
use Rattle.life_elab_laws.proofs.Locations.{IsPointed, at_location, by_literal, by_null, is_pointed, pointed_type}
use Rattle.life_elab_laws.proofs.NewVariables.{bound_given}
use Rattle.life_elab_laws.proofs.OperandsThere.{register_there}
use Rattle.life_elab_laws.proofs.Parts.{Makes, Part, then_part}
use Rattle.life_elab_laws.proofs.PointedCalls.{GivesPointer, gives_called, gives_plainly}
use Rattle.life_elab_laws.proofs.PointerForms.{held_typed, own_typed, pointer_whole, points_whole, view_whole}
use Rattle.life_elab_laws.proofs.Setting.{Setting}
use Rattle.life_elab_laws.proofs.Shaped.{target_later, PlainStays}
use Rattle.life_elab_laws.proofs.Types.{type_added}
use Rattle.life_elab_laws.proofs.ValueTemporaries.{value_temporary}
use Rattle.life_elab_laws.proofs.Values.{by_owners, by_values}
use Rattle.life_elab_laws.proofs.VariablePlaces.{stands_later}
use Rattle.life_elab_laws.proofs.WalkerSteps.{keeps_itself}
use Rattle.life_elab_laws.proofs.WrittenLocals.{fits_below}
use Rattle.life_elab_laws.proofs.ObjectTypes.{is_walker_of_values, is_owner_of_values, is_target, is_unique_of_element}
use Rattle.life_type_expr.specs.Lists.{fits_at_all}
use Rattle.life_elab_laws.proofs.TypedKinds.{HasKind, a_null, a_number as is_number_kind, a_pointer as is_pointer_kind, a_text, a_view as is_view_kind, no_value}
use Rattle.life_elab_laws.proofs.AliasForms.{IsAliased, whole_aliased, to_built, to_place, value_builds}
use Rattle.life_elab_laws.proofs.MadeForms.{Builds, temporary_made}
use Rattle.life_elab_laws.proofs.StructReferences.{kind_no_struct, struct_alone, struct_fits}
use Rattle.life_elab_laws.proofs.Handing.{HandingAlone}

-- what a table has has the type that is there
found_type : (types : Types) (id : TyId) (t : Ty) → slice_get types.types id.0 ≡ Some t → type_at types id ≡ t
found_type types id t at = ap (λ (o : Option Ty). unwrap_or o ty.Void) at

-- what has a value or points to one is given to no iterator and to no span
pub no_walker_given : (types : Types) (e : Typed) → HasKind types e → (t : Ty) → is_walker_of_values types t ≡ true → is_given types t e ≡ true → ⊥
no_walker_given types e kind (ty.Iterator item constant) w given = refused kind
  where
    as_told : (x : ExprType) → e.ty ≡ x → fits_at_all (fits types (ty.Iterator item constant) x e.category) ≡ true
    as_told x is = subst (λ (x : ExprType). fits_at_all (fits types (ty.Iterator item constant) x e.category) ≡ true) is given

    refused : HasKind types e → ⊥
    refused (is_number_kind u is v) = false≢true (sym (by_values (λ u. fits_at_all (fits types (ty.Iterator item constant) (Of u) e.category) ≡ false) refl refl refl refl refl u v) ∙ as_told (Of u) is)
    refused (is_pointer_kind target held is v) = false≢true (as_told (Of (ty.Raw target held)) is)
    refused (is_view_kind is) = false≢true (as_told (Of ty.View) is)
    refused (a_text is v) = false≢true (as_told TextLiteral is)
    refused (no_value is v) = false≢true (as_told (Of ty.Void) is)
    refused (a_null is v) = false≢true (as_told NullPointer is)
no_walker_given types e kind (ty.Span item constant) w given = refused kind
  where
    as_told : (x : ExprType) → e.ty ≡ x → fits_at_all (fits types (ty.Span item constant) x e.category) ≡ true
    as_told x is = subst (λ (x : ExprType). fits_at_all (fits types (ty.Span item constant) x e.category) ≡ true) is given

    refused : HasKind types e → ⊥
    refused (is_number_kind u is v) = false≢true (sym (by_values (λ u. fits_at_all (fits types (ty.Span item constant) (Of u) e.category) ≡ false) refl refl refl refl refl u v) ∙ as_told (Of u) is)
    refused (is_pointer_kind target held is v) = false≢true (as_told (Of (ty.Raw target held)) is)
    refused (is_view_kind is) = false≢true (as_told (Of ty.View) is)
    refused (a_text is v) = false≢true (as_told TextLiteral is)
    refused (no_value is v) = false≢true (as_told (Of ty.Void) is)
    refused (a_null is v) = false≢true (as_told NullPointer is)
no_walker_given types e kind _ w given = false≢true w

module _ (types : Types) (texts : ℕ) (fs : List Function) (f : Function) where
  -- ---- a reference, which is aimed by a register

  module _ (a : Around) (front : IsFront a.program.types.types types.types) (stays : PlainStays a.program.types types) (target : TyId) (constant held : Bool) (place : Place) (o : Operand) (s : State) (table : IsFront a.program.types.types s.types.types)
      (worth : is_target a.program.types (type_at a.program.types target) ≡ true) (kept : keeps_const constant held ≡ true) where
    abbrev reference : Ty
    reference = ty.Reference target constant

    abbrev w : Gives ℕ
    w = new_register place reference s

    there : Begins types f w.state → type_in types f (whole w.given) ≡ reference
    there b =
        let l = added place reference s in
        reference_there types f (length s.locals) l target constant (b.locals (length s.locals) l (last_there s.locals l)) (b.table l.ty.0 reference (type_added s.types.types reference)) (target_unslotted a.program.types types front target worth)

    pub aimed_part : Part types texts fs f (a_place types texts fs f (type_at a.program.types target) held) o None s (gives (whole w.given) (emit place (Aim (whole w.given) (Aimed o)) w.state)) (a_pointer types texts fs f reference)
    aimed_part =
        emit_part types texts fs f (a_place types texts fs f (type_at a.program.types target) held) o None s w place (λ r. Aim (whole r) (Aimed o)) (whole w.given) (a_pointer types texts fs f reference)
        (new_targeted types f place reference s (target_later a.program.types types front stays target worth) (fits_below a.program.types s.types (front_length a.program.types.types s.types.types table) reference worth))
        (λ b h. let at = there b in (
          record {
            given = refl;
            formed = ap (λ (t : Ty). is_source_of types texts fs f t (Aimed o)) at ∙ bound_given a types texts fs f front target constant held o worth kept h;
          },
          record { typed = at; kept = register_there types f (length s.locals) (added place reference s) (b.locals (length s.locals) (added place reference s) (last_there s.locals (added place reference s))) refl },
        ))
        (λ r n k e h. filling_fills f (λ p. Aim p (Aimed o)) n k (aimed_filling f o n k h) r e)
        (λ k lt e. record { local = w.given; is = refl; below = lt; held = e })

module _ (a : Around) (visible : List ℕ) (types : Types) (texts : ℕ) (fs : List Function) (f : Function) (setting : Setting a types fs f) where
  abbrev Stood : State → Type 0
  Stood s = Standing a visible types texts fs f setting s

  abbrev Hands : List TyId → State → Gives (List Argument) → Type 0
  Hands ids s w = AllHanded types texts fs f ids s w

  -- ---- a raw pointer, which nullptr is too

  raw_part : (form : Form) (target : TyId) (constant : Bool) (s : State) → IsWhole a visible types texts fs f setting form → is_target a.program.types (type_at a.program.types target) ≡ true → is_given a.program.types (ty.Raw target constant) (typed_in form) ≡ true → Stood s
      → (u : Ty) × (takes types (ty.Raw target constant) u ≡ true) × Makes types texts fs f None s (pointer (uses a form) (ty.Raw target constant) s) (a_pointer types texts fs f u)
  raw_part form target constant s is worth given stands = go (pointed_type (typed_in form).ty pointed)
    where
      t : Ty
      t = ty.Raw target constant

      pointed : is_pointed (typed_in form).ty ≡ true
      pointed = given_pointer a.program.types (ty.Raw target constant) (typed_in form) refl given

      taken : takes_from types (ty.Raw target constant) (typed_in form).ty ≡ true
      taken = given_raw a.program.types types setting.front target constant worth (typed_in form) given

      clash : (u : Ty) → NullPointer ≡ Of u → ⊥
      clash u e = cc

      -- no call gives one
      of_null : (typed_in form).ty ≡ NullPointer → GivesPointer types texts fs f NullPointer s (pointing (uses a form) s) → (u : Ty) × (takes types (ty.Raw target constant) u ≡ true) × Makes types texts fs f None s (pointer (uses a form) (ty.Raw target constant) s) (a_pointer types texts fs f u)
      of_null at (gives_called c) = absurd (clash (ty_of types c.of.result) c.own)
      of_null at (gives_plainly first) =
          let w = pointing (uses a form) s in
          let later = stands_later a visible s w.state first.grown stands in (
            ty.Raw target constant,
            and_from (same (ty_of types target) (ty_of types target)) (keeps_const constant constant) (one_target a.program.types types setting.front target worth) (keeps_itself constant),
            subst (λ (x : Ty). Makes types texts fs f None s (w >> λ p s. located (uses a form).place (register_type (ty.Raw target constant) x) p s) (a_pointer types texts fs f (ty.Raw target constant)))
                (sym (ap own_type (sym (own_typed a visible types texts fs f setting form) ∙ at)))
                (then_part types texts fs f (no_gift types texts fs f) tt None s w _ (a_pointing types texts fs f NullPointer) (a_pointer types texts fs f (ty.Raw target constant)) stands.opened first
                (null_located_part types texts fs f w.given (ty.Raw target constant) (uses a form).place w.state refl refl (target_later a.program.types types setting.front setting.plain target worth)
                (fits_below a.program.types w.state.types (front_length a.program.types.types w.state.types.types later.table) (ty.Raw target constant) worth))),
          )

      go : IsPointed (typed_in form).ty → (u : Ty) × (takes types (ty.Raw target constant) u ≡ true) × Makes types texts fs f None s (pointer (uses a form) (ty.Raw target constant) s) (a_pointer types texts fs f u)
      go (at_location u at loc) = (u, ap (takes_from types (ty.Raw target constant)) (sym at) ∙ taken, pointer_whole a visible types texts fs f setting form is u at loc (ty.Raw target constant) s stands)
      go (by_literal at) = absurd (false≢true (ap (takes_from types (ty.Raw target constant)) (sym at) ∙ taken))
      go (by_null at) = of_null at (subst (λ (x : ExprType). GivesPointer types texts fs f x s (pointing (uses a form) s)) at (points_whole a visible types texts fs f setting form is pointed s stands))

  -- ---- any of them, before the others

  abbrev pub others_of : Form → DelimitersForm → List TyId → State → Gives (List Argument)
  others_of es d ids s = giving.arguments a (all_uses a es) (behind_others d) ids s

  -- a register of a reference, which is aimed at a place
  abbrev pub aimed_to : Uses → Ty → Gives Operand → Gives Location
  aimed_to u t w = gives (whole (new_register u.place t w.state).given) (emit u.place (Aim (whole (new_register u.place t w.state).given) (Aimed w.given)) (new_register u.place t w.state).state)

  -- .. or at a temporary
  abbrev pub bound_by : Uses → TyId → Bool → Place → State → Bool → Gives Argument
  bound_by u target constant behind s c =
      (cond c (mapped (giving.aimed_at u.place) (u.at s)) (giving.given u (type_at a.program.types target) behind s >> λ rest s. rest (temporary u.place (type_at a.program.types target)) s >> λ x s. gives (giving.aimed_at u.place (object_named x)) s))
      >> λ rest s. mapped (λ r. PointerOf (whole r)) (rest (wanted u.place None (ty.Reference target constant)) s)

  -- a register that is aimed at what is written first, before the others
  pub aimed_first : (u : Uses) (es : Form) (d : DelimitersForm) (id : TyId) (ids : List TyId) (target : TyId) (constant held : Bool) (w : State → Gives Operand) → slice_get a.program.types.types id.0 ≡ Some (ty.Reference target constant)
      → is_target a.program.types (type_at a.program.types target) ≡ true → keeps_const constant held ≡ true → ((s : State) → Stood s → Hands ids s (others_of es d ids s))
      → (s : State) → Stood s → Makes types texts fs f None s (w s) (a_place types texts fs f (type_at a.program.types target) held)
      → Hands (id ∷ ids) s (aimed_to u (ty.Reference target constant) (w s) >> λ l s. mapped (λ xs. PointerOf l ∷ xs) (others_of es d ids s))
  aimed_first u es d id ids target constant held w at worth kept rest s stands first =
      let t = ty.Reference target constant in
      let there = stands_later a visible s (w s).state first.grown stands in
      let aim = aimed_part types texts fs f a setting.front setting.plain target constant held u.place (w s).given (w s).state there.table worth kept in
      let v = aimed_to u t (w s) in
      let all = then_part types texts fs f (no_gift types texts fs f) tt None s (w s) v (a_place types texts fs f (type_at a.program.types target) held) (a_pointer types texts fs f t) stands.opened first aim in
      pointer_handed types texts fs f id t ids (others_of es d ids) s (ap or_void (setting.front id.0 t at)) t (λ s. aimed_to u t (w s)) (ap (is_slot_type types) (setting.front id.0 t at) ∙ reference_no_slot types target constant (target_later a.program.types types setting.front setting.plain target worth))
      (and_from (same (ty_of types target) (ty_of types target)) (keeps_const constant constant) (one_target a.program.types types setting.front target worth) (keeps_itself constant)) all
      (rest v.state (stands_later a visible s v.state all.grown stands))

  -- a reference to an owner or a struct
  pub alias_first : (e es : Form) (d : DelimitersForm) (id : TyId) (ids : List TyId) (target : TyId) (constant : Bool) → IsAliased a visible types texts fs f setting (uses a e) target constant → ((s : State) → Stood s → Hands ids s (others_of es d ids s))
      → slice_get a.program.types.types id.0 ≡ Some (ty.Reference target constant) → is_target a.program.types (type_at a.program.types target) ≡ true → IsBuilt a.program.types (type_at a.program.types target) → (s : State) → Stood s
      → Hands (id ∷ ids) s (giving.arguments a (all_uses a (e ⨟ es)) d (id ∷ ids) s)
  alias_first e es d id ids target constant from rest at wide o s stands =
      subst (λ (x : Ty). Hands (id ∷ ids) s (giving.argument a (uses a e) x (behind_first d) s >> λ x s. mapped (λ xs. x ∷ xs) (others_of es d ids s))) (sym (found_type a.program.types id (ty.Reference target constant) at)) (go from)
    where
      as_bound : (c : Bool) → is_place_of (uses a e).category target ≡ c → Hands (id ∷ ids) s (bound_by (uses a e) target constant (behind_first d) s c >> λ x s. mapped (λ xs. x ∷ xs) (others_of es d ids s))
          → Hands (id ∷ ids) s (bound_by (uses a e) target constant (behind_first d) s (is_place_of (uses a e).category target) >> λ x s. mapped (λ xs. x ∷ xs) (others_of es d ids s))
      as_bound c same part = subst (λ (c : Bool). Hands (id ∷ ids) s (bound_by (uses a e) target constant (behind_first d) s c >> λ x s. mapped (λ xs. x ∷ xs) (others_of es d ids s))) (sym same) part

      go : IsAliased a visible types texts fs f setting (uses a e) target constant → Hands (id ∷ ids) s (giving.argument a (uses a e) (ty.Reference target constant) (behind_first d) s >> λ x s. mapped (λ xs. x ∷ xs) (others_of es d ids s))
      go (to_place held here kept names) = as_bound true here (aimed_first (uses a e) es d id ids target constant held (uses a e).at at wide kept rest s stands (names s stands))
      go (to_built none made) =
          as_bound false none
          (aimed_first (uses a e) es d id ids target constant false (λ s. mapped object_named (giving.given (uses a e) (type_at a.program.types target) (behind_first d) s >> λ rest s. rest (temporary (uses a e).place (type_at a.program.types target)) s)) at wide (keeps_all constant) rest s stands
          (temporary_made a visible types texts fs f setting (type_at a.program.types target) (uses a e).place s (giving.given (uses a e) (type_at a.program.types target) (behind_first d) s) o (made (behind_first d) s stands) stands))

  -- an owner, a unique_ptr or a struct that is built and given over
  over_built : (t : Ty) (u : Uses) (behind : Place) (s : State) → IsBuilt a.program.types t → giving.argument a u t behind s ≡ mapped GivenOver (giving.given u t behind s >> λ rest r. rest (consumed u.place t) r)
  over_built t u behind s (inl o) = go t o
    where
      go : (t : Ty) → is_owner_of_values a.program.types t ≡ true → giving.argument a u t behind s ≡ mapped GivenOver (giving.given u t behind s >> λ rest r. rest (consumed u.place t) r)
      go = by_owners a.program.types _ refl (λ item. refl)
  over_built t u behind s (inr (inr structure)) =
      subst (λ (x : Ty). giving.argument a u x behind s ≡ mapped GivenOver (giving.given u x behind s >> λ rest r. rest (consumed u.place x) r)) (sym structure.is) refl
  over_built t u behind s (inr (inl w)) = go t w
    where
      go : (t : Ty) → is_unique_of_element a.program.types t ≡ true → giving.argument a u t behind s ≡ mapped GivenOver (giving.given u t behind s >> λ rest r. rest (consumed u.place t) r)
      go (ty.Unique target) w = refl
      go _ w = absurd (false≢true w)

  pub given_before : (e es : Form) (d : DelimitersForm) (id : TyId) (ids : List TyId) (t : Ty) → slice_get a.program.types.types id.0 ≡ Some t → IsBuilt a.program.types t
      → ((s : State) → Stood s → (let w = giving.given (uses a e) t (behind_first d) s in let v = w.given (consumed (uses a e).place t) w.state in HandingAlone types texts fs f (v.given ∷ []) s v (a_given types texts fs f t)))
      → ((s : State) → Stood s → Hands ids s (others_of es d ids s)) → (s : State) → Stood s → Hands (id ∷ ids) s (giving.arguments a (all_uses a (e ⨟ es)) d (id ∷ ids) s)
  given_before e es d id ids t at o gives_over rest s stands =
      let w = giving.given (uses a e) t (behind_first d) s in
      let v = w.given (consumed (uses a e).place t) w.state in
      let over = gives_over s stands in
      subst (λ (x : Ty). Hands (id ∷ ids) s (giving.argument a (uses a e) x (behind_first d) s >> λ x s. mapped (λ xs. x ∷ xs) (others_of es d ids s))) (sym (found_type a.program.types id t at))
      (subst (λ (g : Gives Argument). Hands (id ∷ ids) s (g >> λ x s. mapped (λ xs. x ∷ xs) (others_of es d ids s))) (sym (over_built t (uses a e) (behind_first d) s o))
      (owner_handed types texts fs f id t ids (others_of es d ids) s (ap or_void (setting.front id.0 t at)) (λ s. giving.given (uses a e) t (behind_first d) s >> λ rest r. rest (consumed (uses a e).place t) r) (built_composed a.program.types t o) over
      (rest v.state (stands_later a visible s v.state over.grown stands))))

  -- .. by whatever builds it
  pub owner_before : (e es : Form) (d : DelimitersForm) (id : TyId) (ids : List TyId) (t : Ty) → slice_get a.program.types.types id.0 ≡ Some t → IsBuilt a.program.types t
      → ((s : State) → Stood s → Builds a visible types texts fs f setting t s (giving.given (uses a e) t (behind_first d) s)) → ((s : State) → Stood s → Hands ids s (others_of es d ids s)) → (s : State) → Stood s
      → Hands (id ∷ ids) s (giving.arguments a (all_uses a (e ⨟ es)) d (id ∷ ids) s)
  owner_before e es d id ids t at o builds rest s stands =
      given_before e es d id ids t at o (λ s stands. given_handing a visible types texts fs f setting t (uses a e).place s (giving.given (uses a e) t (behind_first d) s) o (builds s stands) stands) rest s stands

  pub first_handed : (e es : Form) (d : DelimitersForm) (id : TyId) (ids : List TyId) → IsWhole a visible types texts fs f setting e → ((s : State) → Stood s → Hands ids s (giving.arguments a (all_uses a es) (behind_others d) ids s))
      → IsHandedType a.program.types id → is_given a.program.types (type_at a.program.types id) (typed_in e) ≡ true → (s : State) → Stood s → Hands (id ∷ ids) s (giving.arguments a (all_uses a (e ⨟ es)) d (id ∷ ids) s)
  first_handed e es d id ids is rest kind given s stands = go kind
    where
      as_type : (t : Ty) → slice_get a.program.types.types id.0 ≡ Some t → Hands (id ∷ ids) s (giving.argument a (uses a e) t (behind_first d) s >> λ x s. mapped (λ xs. x ∷ xs) (others_of es d ids s)) → Hands (id ∷ ids) s (giving.arguments a (all_uses a (e ⨟ es)) d (id ∷ ids) s)
      as_type t at part = subst (λ (x : Ty). Hands (id ∷ ids) s (giving.argument a (uses a e) x (behind_first d) s >> λ x s. mapped (λ xs. x ∷ xs) (others_of es d ids s))) (sym (found_type a.program.types id t at)) part

      given_as : (t : Ty) → slice_get a.program.types.types id.0 ≡ Some t → is_given a.program.types t (typed_in e) ≡ true
      given_as t at = subst (λ (x : Ty). is_given a.program.types x (typed_in e) ≡ true) (found_type a.program.types id t at) given

      later : (t : Ty) → slice_get a.program.types.types id.0 ≡ Some t → ty_of types id ≡ t
      later t at = ap or_void (setting.front id.0 t at)

      plain : (t : Ty) → slice_get a.program.types.types id.0 ≡ Some t → is_slot_type types (Some t) ≡ false → is_slot_at types id ≡ false
      plain t at none = ap (is_slot_type types) (setting.front id.0 t at) ∙ none

      behind_first_part : {A : Type 0} (w : Gives A) (Q : Gift types texts fs f A) → Makes types texts fs f None s w Q → Hands ids w.state (others_of es d ids w.state)
      behind_first_part w Q first = rest w.state (stands_later a visible s w.state first.grown stands)

      go : IsHandedType a.program.types id → Hands (id ∷ ids) s (giving.arguments a (all_uses a (e ⨟ es)) d (id ∷ ids) s)
      go (a_value worth) =
          let t = type_at a.program.types id in
          let first = is.valued (given_number a.program.types t (typed_in e) worth given) (behind_first d) t worth None s tt stands in
          subst (Hands (id ∷ ids) s)
          (sym (ap (λ (w : Gives Argument). w >> λ x s. mapped (λ xs. x ∷ xs) (others_of es d ids s)) (by_values (λ x. giving.argument a (uses a e) x (behind_first d) s ≡ mapped Value (value (uses a e) (behind_first d) x None s)) refl refl refl refl refl t worth)))
          (number_handed types texts fs f id t ids (others_of es d ids) s (type_later a.program.types types setting.front id worth) (value (uses a e) (behind_first d) t None) first
          (behind_first_part (value (uses a e) (behind_first d) t None s) (a_number types texts fs f t) first))
      go (a_raw target constant at worth) =
          let t = ty.Raw target constant in
          let found = raw_part e target constant s is worth (given_as t at) stands in
          as_type t at
          (pointer_handed types texts fs f id t ids (others_of es d ids) s (later t at) found.0 (pointer (uses a e) t) (plain t at refl) found.1 found.2
          (behind_first_part (pointer (uses a e) t s) (a_pointer types texts fs f found.0) found.2))
      go (an_alias target constant at o) = alias_first e es d id ids target constant (whole_aliased a visible types texts fs f setting e target constant o (given_as (ty.Reference target constant) at) is) rest at (owner_target a.program.types (type_at a.program.types target) o) (inl o) s stands
      go (a_struct_alias target constant number at structure pointless) =
          absurd (kind_no_struct a.program.types (typed_in e) is.kind.kind (struct_alone a.program.types target constant number (typed_in e) structure (struct_target a.program.types (type_at a.program.types target) pointless) (given_as (ty.Reference target constant) at) (λ held. is.kind.place target held)))
      go (a_walker t at w) = absurd (no_walker_given a.program.types (typed_in e) is.kind.kind t w (given_as t at))
      go (an_owner t at o) = owner_before e es d id ids t at (inl o) (λ s stands. value_builds a visible types texts fs f setting e is t o (given_as t at) (behind_first d) s stands) rest s stands
      go (a_struct number at) = absurd (kind_no_struct a.program.types (typed_in e) is.kind.kind (struct_fits a.program.types number (typed_in e).ty (typed_in e).category (given_as (ty.Struct number) at)))
      go (a_unique target at w) =
          owner_before e es d id ids (ty.Unique target) at (inr (inl w)) (λ s stands. null_builds a visible types texts fs f setting e is target (given_as (ty.Unique target) at) (behind_first d) s stands) rest s stands
      go (a_view at) =
          let seen = seen_kind a.program.types (typed_in e) is.kind.kind (given_view a.program.types (typed_in e) (given_as ty.View at)) in
          let first = view_whole a visible types texts fs f setting e is seen s stands in
          as_type ty.View at
          (pointer_handed types texts fs f id ty.View ids (others_of es d ids) s (later ty.View at) ty.View (pointer (uses a e) ty.View) (plain ty.View at refl) refl first
          (behind_first_part (pointer (uses a e) ty.View s) (a_pointer types texts fs f ty.View) first))
      go (a_reference target constant at worth) = as_type (ty.Reference target constant) at (bound_first target constant at worth (given_bound a.program.types target constant (typed_in e) (value_target a.program.types (type_at a.program.types target) worth) (given_as (ty.Reference target constant) at)))
        where
          as_bound : (target : TyId) (constant c : Bool) → is_place_of (uses a e).category target ≡ c → Hands (id ∷ ids) s (bound_by (uses a e) target constant (behind_first d) s c >> λ x s. mapped (λ xs. x ∷ xs) (others_of es d ids s))
              → Hands (id ∷ ids) s (bound_by (uses a e) target constant (behind_first d) s (is_place_of (uses a e).category target) >> λ x s. mapped (λ xs. x ∷ xs) (others_of es d ids s))
          as_bound target constant c same part = subst (λ (c : Bool). Hands (id ∷ ids) s (bound_by (uses a e) target constant (behind_first d) s c >> λ x s. mapped (λ xs. x ∷ xs) (others_of es d ids s))) (sym same) part

          seen_here : (target : TyId) → is_place_of (uses a e).category target ≡ is_place_of (typed_in e).category target
          seen_here target = ap (λ (c : Category). is_place_of c target) (sym (held_typed a visible types texts fs f setting e))

          bound_first : (target : TyId) (constant : Bool) → slice_get a.program.types.types id.0 ≡ Some (ty.Reference target constant) → (worth : is_value (type_at a.program.types target) ≡ true) → IsBound a.program.types target constant (typed_in e)
              → Hands (id ∷ ids) s (giving.argument a (uses a e) (ty.Reference target constant) (behind_first d) s >> λ x s. mapped (λ xs. x ∷ xs) (others_of es d ids s))
          bound_first target constant at worth (at_place bound) =
              as_bound target constant true (seen_here target ∙ bound.here)
              (aimed_first (uses a e) es d id ids target constant bound.held (uses a e).at at (value_target a.program.types (type_at a.program.types target) worth) bound.kept rest s stands (is.names target bound.held bound.place worth s stands))
          bound_first target constant at worth (by_temporary none initial) =
              as_bound target constant false (seen_here target ∙ none)
              (aimed_first (uses a e) es d id ids target constant false (λ s. mapped object_named (giving.given (uses a e) (type_at a.program.types target) (behind_first d) s >> λ rest s. rest (temporary (uses a e).place (type_at a.program.types target)) s)) at
              (value_target a.program.types (type_at a.program.types target) worth) (keeps_all constant) rest s stands
              (value_temporary a visible types texts fs f setting e is (type_at a.program.types target) worth (given_number a.program.types (type_at a.program.types target) (typed_in e) worth initial) (behind_first d) s stands))
