-- Variables, calls, pointers, places behind them, literals, and what is seen: how each is written.
use Rattle.std.proofs.Common.{◌≡◌, ◌⊎◌, inl, inr, ℕ, Bool, true, List, [], ◌∷◌, Contains, length, nat_lt, slice_get, Option, Some, None, refl, sym, ap, ◌∙◌, subst, unwrap_or}
use Rattle.std.proofs.lemmas.Bool.{and_from, false≢true}
use Rattle.life_elab_laws.proofs.TypeKinds.{is_plain_type}
use Rattle.life_types.specs.Pointees.{or_void, ty_of}
use Rattle.life_types.specs.TypeTests.{is_raw, is_value}
use Rattle.life_types.specs.Types.{Types}
use Rattle.life_types.specs.declared.place.Place.{Place}
use Rattle.life_types.specs.declared.ty.Ty.{Ty}
use Rattle.life_types.specs.declared.ty.Ty.TheVariants as ty
use Rattle.life_types.specs.declared.ty.TyId.{TyId}
use Rattle.life_typed.specs.BaseTypes.{type_at}
use Rattle.life_typed.specs.Programs.{FunctionForm}
use Rattle.life_typed.specs.Delimiters.{DelimitersForm}
use Rattle.life_typed.specs.TypedForm.{Form, Typed, text, null, local, call, dereference, address_of, typed}
use Rattle.life_typed.specs.declared.typed_expr.Category.{Category}
use Rattle.life_typed.specs.declared.typed_expr.Category.TheVariants as category
use Rattle.life_typed.specs.declared.typed_expr.ExprType.{ExprType}
use Rattle.life_typed.specs.declared.typed_expr.ExprType.TheVariants.{NullPointer, Of, TextLiteral}
use Rattle.life_typed.specs.declared.typed_program.TypedLocal.{TypedLocal}
use Rattle.life_type_expr.specs.Operands.{variable_of}
use Rattle.life_core.specs.Function.{Function}
use Rattle.life_core.specs.Operands.{Argument, Location, Null, Operand, Place as Aimed, Text, Through, behind as through, whole}
use Rattle.life_proper.specs.OperandTypes.{aims_at, keeps_const}
use Rattle.life_proper.specs.Placed.{is_const_place}
use Rattle.life_proper.specs.Placed as placed
use Rattle.life_well_typed.specs.Expressions.{HasResult, IsVariable, parameter_types, typed_in}
use Rattle.life_well_typed.specs.Given.{is_number}
use Rattle.life_writer.specs.Around.{Around, own_type, parameters_of, text_in}
use Rattle.life_writer.specs.Around as around
use Rattle.life_writer.specs.Bases.{reference_to}
use Rattle.life_writer.specs.Building.{Fill, built}
use Rattle.life_writer.specs.Calls.{Called, called}
use Rattle.life_writer.specs.ExpressionForms.{all_uses, form_uses, target_at, uses}
use Rattle.life_writer.specs.Characters.{InView, seen, seen_by}
use Rattle.life_writer.specs.Giving as giving
use Rattle.life_writer.specs.Pointers.{As, By, Pointing, aimed, located}
use Rattle.life_writer.specs.Registers.{computed as computed_by, wanted}
use Rattle.life_writer.specs.Uses.{Uses, own}
use Rattle.life_writer.specs.Using.{nullable, operand, operand_by, pointer, pointing, register_type, temporary_of}
use Rattle.life_writer.specs.Variables.{variable, variable_place}
use Rattle.life_writer.specs.Writing.{Gives, State, ◌>>◌, gives, mapped}
use Rattle.life_elab_laws.proofs.Aiming.{literal_given, null_given, place_given}
use Rattle.life_elab_laws.proofs.HandedArguments.{Hands as AllHanded}
use Rattle.life_elab_laws.proofs.HandingCalls.{call_part}
use Rattle.life_elab_laws.proofs.PointedCalls.{GivesPointer, gives_called, gives_plainly}
use Rattle.life_elab_laws.proofs.CalledPointers.{pointed_call, referred_call, viewed_call, walked_call}
use Rattle.life_elab_laws.proofs.ExpressionForms.{IsCall, IsForm, IsWhole, nullable_raw, of_number, place_form, pointer_form, pointer_own, pointing_itself, no_literal, no_null, placed_finds}
use Rattle.life_elab_laws.proofs.ExpressionKinds.{IsAddressed, IsDereferenced, kind_local, variable_built}
use Rattle.life_elab_laws.proofs.ExpressionTypes.{IsAnswered, answered_as, answers_nothing, answers_place, answers_raw, answers_struct, answers_value, answers_view, own_value, answers_owner, answers_walker, answers_made, answers_unique, answers_whole}
use Rattle.life_elab_laws.proofs.Filling.{aimed_filling, null_filling, text_filling}
use Rattle.life_elab_laws.proofs.FormedVariables.{behind_place, const_same, pointer_formed, type_later, variable_formed, owner_no_value, value_no_void, owner_no_location}
use Rattle.life_elab_laws.proofs.Gifts.{IsGivenAs, a_number, a_place, a_pointer, a_pointing, arguments}
use Rattle.life_elab_laws.proofs.Gifts as gifts
use Rattle.life_elab_laws.proofs.Instructions.{IsIntoOf, literal_located_part}
use Rattle.life_elab_laws.proofs.Locations.{IsPointed, at_location, by_literal, by_null, is_location, is_pointed, is_seen, number_no_pointer, pointed_type, raw_location, seen_type}
use Rattle.life_elab_laws.proofs.OperandsThere.{value_same}
use Rattle.life_elab_laws.proofs.Parts.{Makes, leaf_part, seen_part, then_part}
use Rattle.life_elab_laws.proofs.ResultTypes.{result_is}
use Rattle.life_elab_laws.proofs.RowTypes.{sees}
use Rattle.life_elab_laws.proofs.Setting.{Setting}
use Rattle.life_elab_laws.proofs.TypedKinds.{HasKind, IsKind, a_null, a_number as is_number_kind, a_pointer as is_pointer_kind, a_text, a_view, kind_of_place, kind_of_result, no_value, none_some, place_same, some_same, value_place, kind_no_owner}
use Rattle.life_elab_laws.proofs.VariablePlaces.{Stands, named_pointer, pointer_there, stands_later, variable_there, walker_is}
use Rattle.life_elab_laws.proofs.Targets.{value_target}
use Rattle.life_elab_laws.proofs.FormedFits.{walker_itself}

module _ (a : Around) (visible : List ℕ) (types : Types) (texts : ℕ) (fs : List Function) (f : Function) (setting : Setting a types fs f) where
  abbrev Standing : State → Type 0
  Standing s = Stands a visible s

  abbrev Placed : Ty → Bool → State → Gives Operand → Type 0
  Placed t constant s w = Makes types texts fs f None s w (a_place types texts fs f t constant)

  abbrev Pointed : Ty → State → Gives Location → Type 0
  Pointed t s w = Makes types texts fs f None s w (a_pointer types texts fs f t)

  abbrev Points : ExprType → State → Gives Pointing → Type 0
  Points t s w = Makes types texts fs f None s w (a_pointing types texts fs f t)

  abbrev PointsAt : ExprType → State → Gives Pointing → Type 0
  PointsAt t s w = GivesPointer types texts fs f t s w

  abbrev Hands : FunctionForm → State → Gives (List Argument) → Type 0
  Hands of s w = AllHanded types texts fs f (parameter_types (Some of)) s w

  -- ---- variables

  variable_names : (x : ℕ) (e : Typed) (s : State) → Standing s → Contains visible x → IsVariable a.program.types x (slice_get a.function.locals x) e
      → (id : TyId) (constant : Bool) → e.category ≡ category.Place id constant → is_value (type_at a.program.types id) ≡ true → Placed (type_at a.program.types id) constant s (gives (variable_place s x) s)
  variable_names x e s stands c h id constant at v = go (slice_get a.function.locals x) refl h
    where
      go : (o : Option TypedLocal) → slice_get a.function.locals x ≡ o → IsVariable a.program.types x o e → Placed (type_at a.program.types id) constant s (gives (variable_place s x) s)
      go None found h = absurd h
      go (Some l) found h =
          let built = variable_built a.program.types a.function.locals x l setting.variables found in
          leaf_part types texts fs f (variable_place s x) s (a_place types texts fs f (type_at a.program.types id) constant)
          (λ b. variable_formed types texts fs f a setting.front s b x l (stands.seen x l c found) e (local x) built h id constant at v)
          (λ b k alive. variable_there a s x l (stands.seen x l c found) f k alive)

  variable_points : (x : ℕ) (e : Typed) (s : State) → Standing s → Contains visible x → IsVariable a.program.types x (slice_get a.function.locals x) e → (t : Ty) → e.ty ≡ Of t → is_location t ≡ true → Points e.ty s (gives (As (whole (variable s x))) s)
  variable_points x e s stands c h t of loc = go (slice_get a.function.locals x) refl h
    where
      go : (o : Option TypedLocal) → slice_get a.function.locals x ≡ o → IsVariable a.program.types x o e → Points e.ty s (gives (As (whole (variable s x))) s)
      go None found h = absurd h
      go (Some l) found is =
          leaf_part types texts fs f (As (whole (variable s x))) s (a_pointing types texts fs f e.ty)
          (λ b. subst (λ (u : ExprType). IsGivenAs types texts fs f u (As (whole (variable s x)))) (sym of)
          (pointer_formed types texts fs f a setting.front s b x l (stands.seen x l c found) t loc
          (named_pointer a.program.types e l (local x) (variable_built a.program.types a.function.locals x l setting.variables found) is t of loc)))
          (λ b k alive. pointer_there a s x l (stands.seen x l c found) f k alive)

  -- it is a place
  variable_no_value : (x : ℕ) (e : Typed) → IsVariable a.program.types x (slice_get a.function.locals x) e → e.category ≡ category.Value → ⊥
  variable_no_value x e h is = go (slice_get a.function.locals x) h
    where
      go : (o : Option TypedLocal) → IsVariable a.program.types x o e → ⊥
      go None h = h
      go (Some l) h = named (type_at a.program.types l.ty) h
        where
          named : (t : Ty) → e ≡ variable_of t a.program.types l.ty l.constant e.place (local x) → ⊥
          named (ty.Reference target constant) h = value_place (sym is ∙ ap (λ (y : Typed). y.category) h)
          named _ h = value_place (sym is ∙ ap (λ (y : Typed). y.category) h)

  -- what is no type of an object has a value
  bare_value : (e : Typed) → IsKind a.program.types e → ((t : Ty) → e.ty ≡ Of t → ⊥) → e.category ≡ category.Value
  bare_value e k never = go k.kind
    where
      go : HasKind a.program.types e → e.category ≡ category.Value
      go (is_number_kind t at v) = absurd (never t at)
      go (is_pointer_kind target constant at v) = absurd (never (ty.Raw target constant) at)
      go (a_view at) = absurd (never ty.View at)
      go (a_text at v) = v
      go (no_value at v) = v
      go (a_null at v) = v

  pub variable_form : (x : ℕ) (e : Typed) → is_plain_type e.ty ≡ true → Contains visible x → IsVariable a.program.types x (slice_get a.function.locals x) e → IsForm a visible types texts fs f setting (local x) e
  variable_form x e n c h = place_form a visible types texts fs f setting (local x) e kind (variable_no_value x e h) refl (λ place b. refl) (λ id constant at v place s stands. variable_names x e s stands c h id constant at v)
      (λ id constant at place s stands. leaf_part types texts fs f tt s (gifts.nothing types texts fs f) (λ b. tt) (λ b k alive. tt)) (λ p place s stands. go (pointed_type e.ty p) s stands)
    where
      kind : IsKind a.program.types e
      kind = kind_local a.program.types a.function.locals x e setting.variables n h

      go : IsPointed e.ty → (s : State) → Standing s → Points e.ty s (gives (As (whole (variable s x))) s)
      go (at_location u is loc) s stands = variable_points x e s stands c h u is loc
      go (by_null empty) s stands = absurd (variable_no_value x e h (bare_value e kind (λ t at. null_type t (sym empty ∙ at))))
        where
          null_type : (t : Ty) → NullPointer ≡ Of t → ⊥
          null_type t e = cc
      go (by_literal empty) s stands = absurd (variable_no_value x e h (bare_value e kind (λ t at. text_type t (sym empty ∙ at))))
        where
          text_type : (t : Ty) → TextLiteral ≡ Of t → ⊥
          text_type t e = cc

  -- ---- calls

  -- what a function gives back has the type that it has in the program's table
  pub result_later : (g : ℕ) (of : FunctionForm) → slice_get a.program.functions g ≡ Some of → ty_of types of.result ≡ type_at a.program.types of.result
  result_later g of there =
      let t = setting.results g of there in
      ap or_void (setting.front of.result.0 t.0 t.1) ∙ sym (ap (λ (o : Option Ty). unwrap_or o ty.Void) t.1)

  module _ (g : ℕ) (given : Form) (delimiters : DelimitersForm) (e : Typed) (is : IsCall a visible types texts fs f setting (record { function = g; arguments = given; delimiters = delimiters }) e.ty e.category) where
    abbrev Answers : Type 0
    Answers = IsAnswered a.program.types (type_at a.program.types is.of.result) e.ty e.category

    abbrev handed : State → Gives (List Argument)
    handed s = giving.arguments a (all_uses a given) delimiters (around.parameter_types a g) s

    later : ty_of types is.of.result ≡ type_at a.program.types is.of.result
    later = result_later g is.of is.there

    computed : Answers → e.category ≡ category.Value → is_number e.ty ≡ true → (place : Place) (into : Option ℕ) (s : State) → IsIntoOf (own_type e.ty) s into → Standing s
        → Makes types texts fs f into s (computed_by into (own_type e.ty) place (λ r. called g (handed s).given (whole r)) (handed s).state) (a_number types texts fs f (own_type e.ty))
    computed (answers_nothing void own held) c n place into s wanted stands = absurd (false≢true (sym (ap is_number own) ∙ n))
    computed (answers_value v own held) c n place into s wanted stands =
        call_part types texts fs f g is.of (setting.callees g is.of is.there) s (handed s) (is.hands s stands) into (own_type e.ty) place (later ∙ sym (ap own_type own)) (own_value e.ty n) wanted
    computed (answers_raw target constant raw w own held) c n place into s wanted stands = absurd (false≢true (sym (ap is_number own) ∙ n))
    computed (answers_walker w own held) c n place into s wanted stands = absurd (false≢true (sym (walker_is a.program.types (type_at a.program.types is.of.result) w).value ∙ sym (ap is_number own) ∙ n))
    computed (answers_unique target unique w own held) c n place into s wanted stands = absurd (false≢true (sym (ap is_number own) ∙ n))
    computed (answers_whole number whole own held) c n place into s wanted stands = absurd (false≢true (sym (ap is_number own) ∙ n))
    computed (answers_made o own held) c n place into s wanted stands = absurd (owner_no_value a.program.types (type_at a.program.types is.of.result) o (sym (ap is_number own) ∙ n))
    computed (answers_view view own held) c n place into s wanted stands = absurd (false≢true (sym (ap is_number own) ∙ n))
    computed (answers_place target constant refers w own held) c n place into s wanted stands = absurd (value_place (sym c ∙ held))
    computed (answers_owner target constant refers o own held) c n place into s wanted stands = absurd (value_place (sym c ∙ held))
    computed (answers_struct target constant number refers structure pointless own held) c n place into s wanted stands = absurd (value_place (sym c ∙ held))

    named : Answers → (id : TyId) (constant : Bool) → e.category ≡ category.Place id constant → is_value (type_at a.program.types id) ≡ true → (place : Place) (s : State) → Standing s
        → Placed (type_at a.program.types id) constant s ((form_uses a (call g given delimiters) place e.ty e.category).at s)
    named (answers_nothing void own held) id constant at v place s stands = absurd (value_place (sym held ∙ at))
    named (answers_value w own held) id constant at v place s stands = absurd (value_place (sym held ∙ at))
    named (answers_raw target d raw w own held) id constant at v place s stands = absurd (value_place (sym held ∙ at))
    named (answers_walker w own held) id constant at v place s stands = absurd (value_place (sym held ∙ at))
    named (answers_unique target unique w own held) id constant at v place s stands = absurd (value_place (sym held ∙ at))
    named (answers_whole number whole own held) id constant at v place s stands = absurd (value_place (sym held ∙ at))
    named (answers_made o own held) id constant at v place s stands = absurd (value_place (sym held ∙ at))
    named (answers_view view own held) id constant at v place s stands = absurd (value_place (sym held ∙ at))
    named (answers_struct target d number refers structure pointless own held) id constant at v place s stands =
        absurd (false≢true (sym (ap is_value structure) ∙ ap (λ (i : TyId). is_value (type_at a.program.types i)) (place_same target id d constant (sym held ∙ at)) ∙ v))
    named (answers_owner target d refers o own held) id constant at v place s stands = absurd (owner_no_value a.program.types (type_at a.program.types target) o (ap (λ (i : TyId). is_value (type_at a.program.types i)) (place_same target id d constant (sym held ∙ at)) ∙ v))
    named (answers_place target d refers w own held) id constant at v place s stands =
        let hands = is.hands s stands in
        subst (λ (t : Ty). Placed (type_at a.program.types id) constant s (mapped through (built (Fill place (called g (handed s).given)) (wanted place None t) (handed s).state))) (sym (ap reference_to at))
        (referred_call types texts fs f g is.of (setting.callees g is.of is.there) s (handed s) hands a.program.types setting.front id constant (value_target a.program.types (type_at a.program.types id) v) (later ∙ refers ∙ ap reference_to (sym held ∙ at)) place
        (stands_later a visible s (handed s).state hands.grown stands).table setting.plain)

    pointed : Answers → is_pointed e.ty ≡ true → (place : Place) (s : State) → Standing s → PointsAt e.ty s ((form_uses a (call g given delimiters) place e.ty e.category).pointing s)
    pointed (answers_nothing void own held) p place s stands = absurd (false≢true (sym (ap is_pointed own) ∙ p))
    pointed (answers_value v own held) p place s stands = absurd (number_no_pointer e.ty (ap is_number own ∙ v) p)
    pointed (answers_place target constant refers w own held) p place s stands = absurd (number_no_pointer e.ty (ap is_number own ∙ w) p)
    pointed (answers_owner target constant refers o own held) p place s stands = absurd (owner_no_location a.program.types (type_at a.program.types target) o (sym (ap is_pointed own) ∙ p))
    pointed (answers_unique target unique w own held) p place s stands = absurd (false≢true (sym (ap is_pointed own) ∙ p))
    pointed (answers_struct target constant number refers structure pointless own held) p place s stands = absurd (false≢true (sym (ap is_pointed own) ∙ p))
    pointed (answers_whole number whole own held) p place s stands = absurd (false≢true (sym (ap is_pointed own) ∙ p))
    pointed (answers_made o own held) p place s stands = absurd (owner_no_location a.program.types (type_at a.program.types is.of.result) o (sym (ap is_pointed own) ∙ p))
    pointed (answers_raw target constant raw w own held) p place s stands =
        subst (λ (t : ExprType). PointsAt t s (mapped (λ (xs : List Argument). By (called g xs)) (handed s))) (sym own)
        (gives_called (pointed_call types texts fs f g is.of (setting.callees g is.of is.there) s (handed s) (is.hands s stands) a.program.types setting.front target constant w (later ∙ raw)))
    pointed (answers_walker w own held) p place s stands =
        subst (λ (t : ExprType). PointsAt t s (mapped (λ (xs : List Argument). By (called g xs)) (handed s))) (sym own)
        (gives_called (walked_call types texts fs f g is.of (setting.callees g is.of is.there) s (handed s) (is.hands s stands) a.program.types (type_at a.program.types is.of.result) w later (walker_itself a.program.types types setting.front (type_at a.program.types is.of.result) w)))
    pointed (answers_view view own held) p place s stands =
        subst (λ (t : ExprType). PointsAt t s (mapped (λ (xs : List Argument). By (called g xs)) (handed s))) (sym own)
        (gives_called (viewed_call types texts fs f g is.of (setting.callees g is.of is.there) s (handed s) (is.hands s stands) (later ∙ view)))

    answers_no_literal : Answers → e.ty ≡ TextLiteral → ⊥
    answers_no_literal (answers_nothing void own held) at = no_literal a visible types texts fs f setting ty.Void (sym own ∙ at)
    answers_no_literal (answers_value v own held) at = no_literal a visible types texts fs f setting (type_at a.program.types is.of.result) (sym own ∙ at)
    answers_no_literal (answers_raw target constant raw w own held) at = no_literal a visible types texts fs f setting (ty.Raw target constant) (sym own ∙ at)
    answers_no_literal (answers_walker w own held) at = no_literal a visible types texts fs f setting (type_at a.program.types is.of.result) (sym own ∙ at)
    answers_no_literal (answers_unique target unique w own held) at = no_literal a visible types texts fs f setting (ty.Unique target) (sym own ∙ at)
    answers_no_literal (answers_whole number whole own held) at = no_literal a visible types texts fs f setting (ty.Struct number) (sym own ∙ at)
    answers_no_literal (answers_made o own held) at = no_literal a visible types texts fs f setting (type_at a.program.types is.of.result) (sym own ∙ at)
    answers_no_literal (answers_view view own held) at = no_literal a visible types texts fs f setting ty.View (sym own ∙ at)
    answers_no_literal (answers_place target constant refers w own held) at = no_literal a visible types texts fs f setting (type_at a.program.types target) (sym own ∙ at)
    answers_no_literal (answers_owner target constant refers o own held) at = no_literal a visible types texts fs f setting (type_at a.program.types target) (sym own ∙ at)
    answers_no_literal (answers_struct target constant number refers structure pointless own held) at = no_literal a visible types texts fs f setting (ty.Struct number) (sym own ∙ at)

    answers_no_null : Answers → e.ty ≡ NullPointer → ⊥
    answers_no_null (answers_nothing void own held) at = no_null a visible types texts fs f setting ty.Void (sym own ∙ at)
    answers_no_null (answers_value v own held) at = no_null a visible types texts fs f setting (type_at a.program.types is.of.result) (sym own ∙ at)
    answers_no_null (answers_raw target constant raw w own held) at = no_null a visible types texts fs f setting (ty.Raw target constant) (sym own ∙ at)
    answers_no_null (answers_walker w own held) at = no_null a visible types texts fs f setting (type_at a.program.types is.of.result) (sym own ∙ at)
    answers_no_null (answers_unique target unique w own held) at = no_null a visible types texts fs f setting (ty.Unique target) (sym own ∙ at)
    answers_no_null (answers_whole number whole own held) at = no_null a visible types texts fs f setting (ty.Struct number) (sym own ∙ at)
    answers_no_null (answers_made o own held) at = no_null a visible types texts fs f setting (type_at a.program.types is.of.result) (sym own ∙ at)
    answers_no_null (answers_view view own held) at = no_null a visible types texts fs f setting ty.View (sym own ∙ at)
    answers_no_null (answers_place target constant refers w own held) at = no_null a visible types texts fs f setting (type_at a.program.types target) (sym own ∙ at)
    answers_no_null (answers_owner target constant refers o own held) at = no_null a visible types texts fs f setting (type_at a.program.types target) (sym own ∙ at)
    answers_no_null (answers_struct target constant number refers structure pointless own held) at = no_null a visible types texts fs f setting (ty.Struct number) (sym own ∙ at)

    -- what a plain one refers to has a value
    refers_value : Answers → HasKind a.program.types e → is_plain_type e.ty ≡ true → (id : TyId) (constant : Bool) → e.category ≡ category.Place id constant → is_value (type_at a.program.types id) ≡ true
    refers_value (answers_nothing void own held) kind plain id constant at = absurd (value_place (sym held ∙ at))
    refers_value (answers_value w own held) kind plain id constant at = absurd (value_place (sym held ∙ at))
    refers_value (answers_raw target d raw w own held) kind plain id constant at = absurd (value_place (sym held ∙ at))
    refers_value (answers_walker w own held) kind plain id constant at = absurd (value_place (sym held ∙ at))
    refers_value (answers_unique target unique w own held) kind plain id constant at = absurd (value_place (sym held ∙ at))
    refers_value (answers_whole number whole own held) kind plain id constant at = absurd (value_place (sym held ∙ at))
    refers_value (answers_made o own held) kind plain id constant at = absurd (value_place (sym held ∙ at))
    refers_value (answers_view view own held) kind plain id constant at = absurd (value_place (sym held ∙ at))
    refers_value (answers_struct target d number refers structure pointless own held) kind plain id constant at = absurd (false≢true (sym (ap is_plain_type own) ∙ plain))
    refers_value (answers_owner target d refers o own held) kind plain id constant at = absurd (kind_no_owner a.program.types e kind (type_at a.program.types target) o own)
    refers_value (answers_place target d refers w own held) kind plain id constant at = sym (ap (λ (i : TyId). is_value (type_at a.program.types i)) (place_same target id d constant (sym held ∙ at))) ∙ w

    call_of : IsKind a.program.types e → is_plain_type e.ty ≡ true → IsForm a visible types texts fs f setting (call g given delimiters) e
    call_of kind plain = record {
      kind = kind;
      computes = λ c n place b none into s wanted stands. computed is.answers c n place into s wanted stands;
      lands = λ c n place b none r s. refl;
      names = λ id constant at v place s stands. named is.answers id constant at v place s stands;
      found = λ id constant at place s stands.
          placed_finds a visible types texts fs f setting (type_at a.program.types id) constant s ((form_uses a (call g given delimiters) place e.ty e.category).at s)
          (named is.answers id constant at (refers_value is.answers kind.kind plain id constant at) place s stands);
      points = λ p place s stands. pointed is.answers p place s stands;
      decides = λ place b w at. absurd (none_some at);
      calls = λ c at. subst (λ (d : Called). IsCall a visible types texts fs f setting d e.ty e.category) (some_same at) is;
      as_literal = λ at. absurd (answers_no_literal is.answers at);
      as_null = λ at. absurd (answers_no_null is.answers at);
    }

  pub call_form : (g : ℕ) (given : Form) (delimiters : DelimitersForm) (e : Typed) → is_plain_type e.ty ≡ true → HasResult a.program.types (slice_get a.program.functions g) e
      → ((of : FunctionForm) → slice_get a.program.functions g ≡ Some of → (s : State) → Standing s → Hands of s (giving.arguments a (all_uses a given) delimiters (parameter_types (Some of)) s)) → IsForm a visible types texts fs f setting (call g given delimiters) e
  call_form g given delimiters e plain h hands = go (slice_get a.program.functions g) refl h
    where
      go : (o : Option FunctionForm) → slice_get a.program.functions g ≡ o → HasResult a.program.types o e → IsForm a visible types texts fs f setting (call g given delimiters) e
      go None at h = absurd h
      go (Some of) at h =
          let kind = result_is a.program.types (type_at a.program.types of.result) (setting.returned g of at) in
          call_of g given delimiters e
          (record {
            of = of;
            there = at;
            answers = answered_as a.program.types e (type_at a.program.types of.result) kind h;
            hands = λ s stands. subst (λ (ids : List TyId). Hands of s (giving.arguments a (all_uses a given) delimiters ids s)) (sym (ap parameters_of at)) (hands of at s stands);
          })
          (kind_of_result a.program.types e (type_at a.program.types of.result) kind plain h) plain

  -- ---- pointers

  -- an expression has the type and the category that it is typed with
  pub own_typed : (form : Form) → (typed_in form).ty ≡ (uses a form).ty
  own_typed (typed place t c form) = refl
  own_typed _ = refl

  pub held_typed : (form : Form) → (typed_in form).category ≡ (uses a form).category
  held_typed (typed place t c form) = refl
  held_typed _ = refl

  -- a place is what it is
  pub placed_operand : (form : Form) (target : TyId) (constant : Bool) (s : State) → (typed_in form).category ≡ category.Place target constant → operand (uses a form) s ≡ (uses a form).at s
  placed_operand form target constant s at =
      let e = uses a form in
      ap (λ (c : Category). operand_by c e.at (temporary_of e (own e)) s) (sym (held_typed form) ∙ at)

  -- what a pointer gives
  pub points_whole : (form : Form) → IsWhole a visible types texts fs f setting form → is_pointed (typed_in form).ty ≡ true → (s : State) → Standing s → PointsAt (typed_in form).ty s (pointing (uses a form) s)
  points_whole form is p s stands =
      subst (PointsAt (typed_in form).ty s) (sym (pointing_itself a visible types texts fs f setting (uses a form) s (ap is_pointed (sym (own_typed form)) ∙ p))) (is.points p s stands)

  -- where a raw pointer or a view lies
  pub pointer_whole : (form : Form) → IsWhole a visible types texts fs f setting form → (u : Ty) → (typed_in form).ty ≡ Of u → is_location u ≡ true → (wanted : Ty) (s : State) → Standing s → Pointed u s (pointer (uses a form) wanted s)
  pointer_whole form is u at loc wanted s stands =
      let e = uses a form in
      let own_is : own e ≡ u = ap own_type (sym (own_typed form) ∙ at) in
      subst (Pointed u s) (sym (pointer_own a visible types texts fs f setting e wanted (own e) s refl (ap is_location own_is ∙ loc))) (is.pointers u at loc s stands)

  -- a raw pointer that is tested
  pub tested_pointer : (form : Form) (u : Ty) (s : State) → (typed_in form).ty ≡ Of u → is_raw u ≡ true → Pointed u s (located (uses a form).place (own (uses a form)) ((uses a form).pointing s).given ((uses a form).pointing s).state)
      → Pointed u s (nullable (uses a form) s)
  tested_pointer form u s at raw h =
      let e = uses a form in
      let own_is : own e ≡ u = ap own_type (sym (own_typed form) ∙ at) in
      subst (Pointed u s) (sym (nullable_raw a visible types texts fs f setting e (own e) s refl (ap is_raw own_is ∙ raw))) h

  -- what it points to
  pub raw_target : (e : Uses) (t : Ty) (place : Place) (c : Category) (s : State) → own e ≡ t → is_raw t ≡ true
      → target_at (own e) e place c s ≡ mapped (λ (q : Location). Through q []) (located e.place t (e.pointing s).given (e.pointing s).state)
  raw_target e t place c s own_is raw =
      ap (λ (x : Ty). target_at x e place c s) own_is ∙ through t raw
      ∙ ap (mapped (λ (q : Location). Through q [])) (pointer_own a visible types texts fs f setting e (own e) t s own_is (raw_location t raw))
    where
      through : (x : Ty) → is_raw x ≡ true → target_at x e place c s ≡ mapped (λ (q : Location). Through q []) (pointer e (own e) s)
      through (ty.Raw target constant) raw = refl
      through _ raw = absurd (false≢true raw)

  -- ---- what is dereferenced, and addresses

  pub dereference_form : (inner : Form) (e : Typed) → (d : IsDereferenced a.program.types (typed_in inner) e) → IsWhole a visible types texts fs f setting inner → IsForm a visible types texts fs f setting (dereference inner) e
  dereference_form inner e d is =
      place_form a visible types texts fs f setting (dereference inner) e (kind_of_place a.program.types e d.target d.constant d.form d.is (is_number_kind (type_at a.program.types d.target) (ap (λ (y : Typed). y.ty) d.is) d.value))
      (λ at. value_place (sym at ∙ ap (λ (y : Typed). y.category) d.is)) refl (λ place b. refl) names
      (λ id constant at place s stands.
      placed_finds a visible types texts fs f setting (type_at a.program.types id) constant s ((form_uses a (dereference inner) place e.ty e.category).at s)
      (names id constant at (sym (ap (λ (i : TyId). is_value (type_at a.program.types i)) (place_same d.target id d.constant constant (sym (ap (λ (y : Typed). y.category) d.is) ∙ at))) ∙ d.value) place s stands))
      (λ p. absurd (number_no_pointer e.ty (of_number a visible types texts fs f setting e.ty (type_at a.program.types d.target) (ap (λ (y : Typed). y.ty) d.is) d.value) p))
    where
      -- what it goes through is a raw pointer
      pointer_own : own (uses a inner) ≡ ty.Raw d.target d.constant
      pointer_own = sym (ap own_type (own_typed inner)) ∙ ap own_type d.pointer

      reached : (place : Place) (s : State) → (form_uses a (dereference inner) place e.ty e.category).at s
          ≡ (let w = uses a inner in let l = located w.place (own w) (w.pointing s).given (w.pointing s).state in gives (Through l.given []) l.state)
      reached place s =
          raw_target (uses a inner) (ty.Raw d.target d.constant) place e.category s pointer_own refl
          ∙ ap (mapped (λ (q : Location). Through q [])) (ap (λ (x : Ty). located (uses a inner).place x ((uses a inner).pointing s).given ((uses a inner).pointing s).state) (sym pointer_own))

      names : (id : TyId) (constant : Bool) → e.category ≡ category.Place id constant → is_value (type_at a.program.types id) ≡ true → (place : Place) (s : State) → Standing s
          → Placed (type_at a.program.types id) constant s ((form_uses a (dereference inner) place e.ty e.category).at s)
      names id constant at v place s stands =
          let same : category.Place d.target d.constant ≡ category.Place id constant = sym (ap (λ (y : Typed). y.category) d.is) ∙ at in
          let w = uses a inner in
          let l = located w.place (own w) (w.pointing s).given (w.pointing s).state in
          subst (λ (g : Gives Operand). Placed (type_at a.program.types id) constant s g) (sym (reached place s))
          (subst (λ (c : Bool). Placed (type_at a.program.types id) c s (gives (Through l.given []) l.state)) (const_same d.target id d.constant constant same)
          (seen_part types texts fs f (gifts.nothing types texts fs f) tt None s l (a_pointer types texts fs f (ty.Raw d.target d.constant)) (λ q. Through q []) (a_place types texts fs f (type_at a.program.types id) d.constant)
          (is.pointers (ty.Raw d.target d.constant) d.pointer refl s stands)
          (λ b h. behind_place types texts fs f l.given (ty.Raw d.target d.constant) d.target d.constant (type_at a.program.types id) h refl refl refl
          (type_later a.program.types types setting.front d.target d.value ∙ ap (type_at a.program.types) (place_same d.target id d.constant constant same)) (value_no_void (type_at a.program.types id) v))
          (λ n k q. record { local = q.local; uses = ap (λ (x : ℕ). x ∷ []) q.is; below = q.below; held = q.held })))

  pub address_form : (inner : Form) (e : Typed) → (d : IsAddressed a.program.types (typed_in inner) e) → IsWhole a visible types texts fs f setting inner → IsForm a visible types texts fs f setting (address_of inner) e
  address_form inner e d is =
      pointer_form a visible types texts fs f setting (address_of inner) e (record { kind = is_pointer_kind d.target d.constant typed_as (value_target a.program.types (type_at a.program.types d.target) d.worth); place = λ id c at. absurd (value_place (sym no ∙ at)) }) no (λ n. false≢true (sym (ap is_number typed_as) ∙ n)) refl (λ place b. refl) (λ at. absurd (no_literal a visible types texts fs f setting (ty.Raw d.target d.constant) (sym typed_as ∙ at))) (λ at. absurd (no_null a visible types texts fs f setting (ty.Raw d.target d.constant) (sym typed_as ∙ at)))
      (λ p place s stands. subst (λ (t : ExprType). Points t s (mapped (λ o. aimed (Aimed o)) (operand (uses a inner) s))) (sym typed_as)
      (seen_part types texts fs f (gifts.nothing types texts fs f) tt None s (operand (uses a inner) s) (a_place types texts fs f (type_at a.program.types d.target) d.constant) (λ o. aimed (Aimed o)) (a_pointing types texts fs f (Of (ty.Raw d.target d.constant)))
      (subst (λ (g : Gives Operand). Placed (type_at a.program.types d.target) d.constant s g) (sym (placed_operand inner d.target d.constant s d.place)) (is.names d.target d.constant d.place d.worth s stands))
      (λ b h. let later = type_later a.program.types types setting.front d.target d.worth in
      place_given types texts fs f (ty.Raw d.target d.constant) (operand (uses a inner) s).given
      (and_from (aims_at types (ty.Raw d.target d.constant) (placed.type_of types f (operand (uses a inner) s).given)) (keeps_const d.constant (is_const_place types f (operand (uses a inner) s).given))
      (ap (aims_at types (ty.Raw d.target d.constant)) (h.typed ∙ sym later) ∙ value_same (ty_of types d.target) (ap is_value later ∙ d.worth)) h.held))
      (λ n k q. aimed_filling f (operand (uses a inner) s).given n k q)))
    where
      typed_as : e.ty ≡ Of (ty.Raw d.target d.constant)
      typed_as = ap (λ (y : Typed). y.ty) d.is

      no : e.category ≡ category.Value
      no = ap (λ (y : Typed). y.category) d.is

  pub null_form : (e : Typed) → e.ty ≡ NullPointer → e.category ≡ category.Value → IsForm a visible types texts fs f setting null e
  null_form e t c =
      pointer_form a visible types texts fs f setting null e (record { kind = a_null t c; place = λ id d at. absurd (value_place (sym c ∙ at)) }) c (λ n. false≢true (sym (ap is_number t) ∙ n)) refl (λ place b. refl) (λ at. absurd (null_text (sym t ∙ at))) (λ at place. (refl, (refl, refl)))
      (λ p place s stands. leaf_part types texts fs f (aimed Null) s (a_pointing types texts fs f e.ty) (λ b. subst (λ (t : ExprType). IsGivenAs types texts fs f t (aimed Null)) (sym t) (null_given types texts fs f)) (λ b k alive. null_filling f (length s.locals) k))
    where
      null_text : NullPointer ≡ TextLiteral → ⊥
      null_text e = cc

  -- a literal is seen where it stands
  pub text_form : (n : ℕ) (e : Typed) → e.ty ≡ TextLiteral → e.category ≡ category.Value → nat_lt (text_in a.program n) texts ≡ true → IsForm a visible types texts fs f setting (text n) e
  text_form n e t c few =
      pointer_form a visible types texts fs f setting (text n) e (record { kind = a_text t c; place = λ id d at. absurd (value_place (sym c ∙ at)) }) c (λ m. false≢true (sym (ap is_number t) ∙ m)) refl (λ place b. refl) (λ at place. record { nameless = refl; place = place; number = text_in a.program n; few = few; is = refl }) (λ at. absurd (text_null (sym t ∙ at)))
      (λ p place s stands. leaf_part types texts fs f (aimed (Text (text_in a.program n))) s (a_pointing types texts fs f e.ty)
      (λ b. subst (λ (t : ExprType). IsGivenAs types texts fs f t (aimed (Text (text_in a.program n)))) (sym t) (literal_given types texts fs f (text_in a.program n) few))
      (λ b k alive. text_filling f (text_in a.program n) (length s.locals) k))
    where
      text_null : TextLiteral ≡ NullPointer → ⊥
      text_null e = cc

  -- ---- what is seen: a view, or a literal in a register

  pub view_whole : (form : Form) → IsWhole a visible types texts fs f setting form → is_seen (typed_in form).ty ≡ true → (s : State) → Standing s → Pointed ty.View s (pointer (uses a form) ty.View s)
  view_whole form is sees s stands = go (seen_type (typed_in form).ty sees)
    where
      clash : (t : Ty) → TextLiteral ≡ Of t → ⊥
      clash t e = cc

      -- no call gives one
      seen_literal : PointsAt TextLiteral s (pointing (uses a form) s) → Pointed ty.View s (pointing (uses a form) s >> λ p s. located (uses a form).place ty.View p s)
      seen_literal (gives_plainly first) =
          then_part types texts fs f (gifts.nothing types texts fs f) tt None s (pointing (uses a form) s) _ (a_pointing types texts fs f TextLiteral) (a_pointer types texts fs f ty.View) stands.opened first
          (literal_located_part types texts fs f (pointing (uses a form) s).given (uses a form).place (pointing (uses a form) s).state)
      seen_literal (gives_called c) = absurd (clash (ty_of types c.of.result) c.own)

      go : ((typed_in form).ty ≡ Of ty.View) ⊎ ((typed_in form).ty ≡ TextLiteral) → Pointed ty.View s (pointer (uses a form) ty.View s)
      go (inl at) = pointer_whole form is ty.View at refl ty.View s stands
      go (inr at) =
          subst (Pointed ty.View s) (sym (ap (λ (x : Ty). pointing (uses a form) s >> λ p s. located (uses a form).place (register_type ty.View x) p s) (ap own_type (sym (own_typed form) ∙ at))))
          (seen_literal (subst (λ (x : ExprType). PointsAt x s (pointing (uses a form) s)) at (points_whole form is (ap is_pointed at) s stands)))

  pub seen_view : (form : Form) → is_seen (typed_in form).ty ≡ true → (s : State) → seen (uses a form) s ≡ mapped InView (pointer (uses a form) ty.View s)
  seen_view form sees s = go (seen_type (typed_in form).ty sees)
    where
      as_type : (t : ExprType) → (typed_in form).ty ≡ t → seen (uses a form) s ≡ seen_by (own_type t) (uses a form) s
      as_type t at = ap (λ (x : Ty). seen_by x (uses a form) s) (ap own_type (sym (own_typed form) ∙ at))

      go : ((typed_in form).ty ≡ Of ty.View) ⊎ ((typed_in form).ty ≡ TextLiteral) → seen (uses a form) s ≡ mapped InView (pointer (uses a form) ty.View s)
      go (inl at) = as_type (Of ty.View) at
      go (inr at) = as_type TextLiteral at
