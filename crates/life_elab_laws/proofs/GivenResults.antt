-- What a return gives back: a value, a pointer or a view that is given something, or a reference that is aimed at a place, which may be a temporary's.
use Rattle.std.proofs.Common.{◌≡◌, ℕ, Bool, true, false, cond, List, slice_get, Option, Some, None, inl, inr, refl, sym, ap, ◌∙◌, subst, ◌||◌, ◌⊎◌}
use Rattle.std.proofs.lemmas.Bool.{false≢true, or_cases, and_parts}
use Rattle.life_elab_laws.proofs.FormKinds.{is_read_expression, is_read_owner, is_read_any, is_read_walker, is_read_struct, is_read_fresh, is_read_unique}
use Rattle.life_elab_laws.proofs.ObjectTypes.{is_owner_of_values, is_target, is_walker_of_values, is_element, is_unique_of_element}
use Rattle.life_elab_laws.proofs.StatementKinds.{is_read_returned}
use Rattle.life_elab_laws.proofs.TypeKinds.{is_owner_type, owns_elements, is_unique_type}
use Rattle.life_types.specs.TypeTests.{is_unique, is_value, is_void}
use Rattle.life_types.specs.Types.{Types, class}
use Rattle.life_types.specs.declared.place.Place.{Place}
use Rattle.life_types.specs.declared.ty.Class.{Class}
use Rattle.life_types.specs.declared.ty.Class.TheVariants as classes
use Rattle.life_types.specs.declared.ty.Ty.{Ty}
use Rattle.life_types.specs.declared.ty.Ty.TheVariants as ty
use Rattle.life_types.specs.declared.ty.TyId.{TyId}
use Rattle.life_typed.specs.BaseTypes.{type_at}
use Rattle.life_typed.specs.Conversions.{is_place_of, fits}
use Rattle.life_typed.specs.TypedForm.{Typed, whole as whole_form}
use Rattle.life_core.specs.Function.{Function}
use Rattle.life_core.specs.Kinds.{is_register_at}
use Rattle.life_core.specs.Operands.{Operand, Place as Aimed, object_named, whole}
use Rattle.life_core.specs.Step.{Aim}
use Rattle.life_core.specs.Tree.{Returns}
use Rattle.life_proper.specs.Knowing.{known_at}
use Rattle.life_proper.specs.OperandTypes.{keeps_const}
use Rattle.life_proper.specs.Placed.{type_in}
use Rattle.life_proper.specs.WellFormed.{is_source_of}
use Rattle.life_type_stmt.specs.Simples.{named_in}
use Rattle.life_well_typed.specs.Given.{is_given, is_number}
use Rattle.life_well_typed.specs.Statements.{IsReturned, named_local}
use Rattle.life_well_typed.specs.Visible.{Visible}
use Rattle.life_writer.specs.Around.{Around, result_local, type_of}
use Rattle.life_writer.specs.ExpressionForms.{uses}
use Rattle.life_writer.specs.Giving as giving
use Rattle.life_writer.specs.Pointers.{Pointing, pointed}
use Rattle.life_writer.specs.Temporaries.{temporary}
use Rattle.life_writer.specs.Using.{pointing, value}
use Rattle.life_writer.specs.Writing.{State, Gives, ◌>>◌, emit, gives, mapped}
use Rattle.life_elab.specs.StatementForms.{given_back, result, result_by, result_given}
use Rattle.life_elab.specs.Statements.{left}
use Rattle.life_elab_laws.proofs.Aiming.{pointed_fills, pointed_fine}
use Rattle.life_elab_laws.proofs.Doing.{DoesLevel}
use Rattle.life_elab_laws.proofs.Emitting.{IsWanted, kept_targeted}
use Rattle.life_elab_laws.proofs.ExpressionForms.{IsWhole}
use Rattle.life_elab_laws.proofs.Expressions.{whole_expression, owner_expression, walker_expression, struct_expression, fresh_expression, holding_expression}
use Rattle.life_elab_laws.proofs.ExpressionTypes.{seen_kind}
use Rattle.life_elab_laws.proofs.Filling.{aimed_filling, filling_fills}
use Rattle.life_elab_laws.proofs.Following.{Follows, HasRegister, IsResultRegister, IsResultLocal, IsResultObject}
use Rattle.life_elab_laws.proofs.FormedFits.{IsBound, at_place, by_temporary, given_bound, given_raw, given_seen, given_string, given_vector, given_walker, walker_itself, given_owner}
use Rattle.life_elab_laws.proofs.FormedVariables.{keeps_all, location_no_reference, reference_there, owner_no_location, owner_no_value}
use Rattle.life_elab_laws.proofs.Gifts.{Gift, IsAt, a_number, a_place, a_pointing, held_stays, nothing, takes_from}
use Rattle.life_elab_laws.proofs.GivenKinds.{given_number, given_pointer, given_view}
use Rattle.life_elab_laws.proofs.Growing.{Begins, Grows}
use Rattle.life_elab_laws.proofs.Instructions.{emit_part}
use Rattle.life_elab_laws.proofs.Locations.{is_location, is_pointed, seen_pointed}
use Rattle.life_elab_laws.proofs.Making.{IsHeld}
use Rattle.life_elab_laws.proofs.NewVariables.{bound_given}
use Rattle.life_elab_laws.proofs.OperandsThere.{register_there, type_there}
use Rattle.life_elab_laws.proofs.Parts.{Makes, Part, then_part}
use Rattle.life_elab_laws.proofs.HandingCalls.{call_received, register_receives}
use Rattle.life_elab_laws.proofs.PointedCalls.{GivesPointer, gives_called, gives_plainly}
use Rattle.life_elab_laws.proofs.PointerForms.{points_whole}
use Rattle.life_elab_laws.proofs.ResultTypes.{IsResultType, gives_alias, gives_walker, gives_nothing, gives_raw, gives_reference, gives_value, gives_view, result_is, gives_struct, gives_owner, gives_unique, gives_whole}
use Rattle.life_elab_laws.proofs.Returning.{back_given, result_returned, return_does}
use Rattle.life_elab_laws.proofs.Setting.{Setting}
use Rattle.life_elab_laws.proofs.TypedKinds.{place_same, value_place, value_simple, HasKind, a_null, a_number as is_number_kind, a_pointer as is_pointer_kind, a_text, a_view as is_view_kind, no_value}
use Rattle.life_elab_laws.proofs.ValueTemporaries.{value_temporary}
use Rattle.life_elab_laws.proofs.Values.{by_owners, by_values}
use Rattle.life_elab_laws.proofs.AliasForms.{IsAliased, owning_aliased, value_reference_refused, whole_aliased, to_built, to_place, walker_reference_refused, struct_reference_refused, no_owner_given, null_refused, owning_builds, value_builds, owner_no_struct_given, walker_no_struct_given}
use Rattle.life_elab_laws.proofs.ObjectForms.{IsOwner}
use Rattle.life_elab_laws.proofs.MadeForms.{IsOwning, owning_owner, temporary_made, Builds}
use Rattle.life_typed.specs.declared.typed_expr.ExprType.TheVariants.{Of, NullPointer}
use Rattle.life_elab_laws.proofs.ElementForms.{either_read}
use Rattle.life_elab_laws.proofs.Targets.{owner_target, value_target, struct_target, target_unslotted}
use Rattle.life_elab_laws.proofs.SeenForms.{string_points}
use Rattle.life_elab_laws.proofs.WalkerForms.{IsWalker, vector_points, walker_points}
use Rattle.life_type_expr.specs.Lists.{fits_at_all}
use Rattle.life_elab_laws.proofs.HandedForms.{no_walker_given}
use Rattle.life_elab_laws.proofs.HandedOwners.{walker_no_unique_given, owner_no_iterator, owner_no_unique_given, unique_no_walker_given, walker_no_raw, walker_no_text}
use Rattle.life_elab_laws.proofs.RowTypes.{sees}
use Rattle.life_elab_laws.proofs.VariablePlaces.{walker_is}
use Rattle.life_typed.specs.declared.typed_expr.ExprType.{ExprType}
use Rattle.life_elab_laws.proofs.StructReferences.{kind_no_struct, struct_alone, struct_aliased, IsStructAlias, struct_fits}
use Rattle.life_elab_laws.proofs.HandedStructs.{struct_no_walker}
use Rattle.life_elab_laws.proofs.ReturnedOwners.{owner_given_back}
use Rattle.life_elab_laws.proofs.ReturnedUniques.{fresh_back, no_named_given, null_back, unique_back, fresh_nameless}
use Rattle.life_elab_laws.proofs.FreshUniques.{IsFresh}
use Rattle.life_elab_laws.proofs.AdmittedTypes.{IsBuilt, struct_built, IsTabled}
use Rattle.life_typed.specs.declared.typed_expr.Category.TheVariants as category
use Rattle.life_elab_laws.proofs.NamedResults.{is_object, named_builds, named_owner}
use Rattle.life_elab.specs.ProgramForms.{result_kind}
use Rattle.life_core.specs.declared.program.LocalKind.{LocalKind}
use Rattle.life_core.specs.declared.program.LocalKind.TheVariants.{Object, Register}
use Rattle.life_writer.specs.Assigning.{moved}
use Rattle.life_writer.specs.Uses.{Remaining, Uses, lived}
use Rattle.life_writer.specs.Variables.{variable}
use Rattle.std.proofs.lemmas.Option.{none-some}
use Rattle.life_core.specs.declared.instr.Form.TheVariants.{Plain}
use Rattle.life_elab.specs.StatementForms as statements
use Rattle.life_elab_laws.proofs.AnsweredUniques.{IsHolding, holds_answer, holds_named, holding_lies}
use Rattle.life_elab_laws.proofs.MadeStructs.{IsAnyStruct, struct_typed, as_struct}
use Rattle.life_elab_laws.proofs.ReturnedStructs.{struct_back}
use Rattle.life_elab_laws.proofs.UniqueForms.{owner_no_unique, walker_no_unique}

no_register : Object ≡ Register → ⊥
no_register e = cc

-- what is a unique_ptr to an element
unique_is : (types : Types) (t : Ty) → is_unique_of_element types t ≡ true → (target : TyId) × (t ≡ ty.Unique target) × (is_element types (type_at types target) ≡ true)
unique_is types (ty.Unique target) u = (target, refl, u)
unique_is types _ u = absurd (false≢true u)

module _ (a : Around) (types : Types) (texts : ℕ) (fs : List Function) (f : Function) (setting : Setting a types fs f) (v : Visible) (in_loop : Bool) where
  abbrev t : Ty
  t = type_at a.program.types a.function.result

  abbrev into : Option ℕ
  into = Some (result_local a)

  module _ (s : State) (h : Follows types f a v s) where
    abbrev Back : State → Type 0
    Back s' = DoesLevel types texts fs f a v in_loop s s'

    module _ (register : IsResultRegister a s) (unowned : IsBuilt a.program.types t → ⊥) (e : Typed) (keyword token : Place) (r : IsReturned a.program a.function.locals a.function.result v.visible (Some e)) where
      abbrev Whole : Type 0
      Whole = IsWhole a v.visible types texts fs f setting (whole_form e)

      -- it fits the result
      given_as : (u : Ty) → t ≡ u → is_unique u ≡ false → is_given a.program.types u e ≡ true
      given_as u same plain =
          subst (λ (x : Ty). is_given a.program.types x e ≡ true) same
          (back_given t a.function.result (named_local a.function.locals (named_in e.form)) (is_given a.program.types t e) (ap is_unique same ∙ plain) r.1)

      abbrev GivenBack : State
      GivenBack = left 0 keyword (Returns keyword) (result_given a (Some e) keyword token s)

      by_type : (u : Ty) → t ≡ u → given_back a e keyword token s ≡ result_by a (class (Some u)) (uses a (whole_form e)) u keyword token s
      by_type u same = ap (λ (x : Ty). result_by a (class (Some x)) (uses a (whole_form e)) x keyword token s) same

      -- ---- a value

      abbrev wanted : is_value t ≡ true → IsWanted s (result_local a)
      wanted worth = record { local = register.local; there = register.there; nameless = register.nameless; kind = register.kind; ty = t; typed = register.typed; value = worth }

      value_returned : Whole → is_value t ≡ true → Back GivenBack
      value_returned whole_is worth =
          let w = value (uses a (whole_form e)) token t into s in
          let number = given_number a.program.types t e worth (given_as t refl (value_simple t worth).unique) in
          let made = whole_is.valued number token t worth into s (wanted worth, refl) h.stands in
          result_returned a types texts fs f setting v in_loop s h register keyword token w (a_number types texts fs f t) made
          (λ n k q. ap (known_at k) (sym (whole_is.lands number token t (result_local a) s)) ∙ q.1) (given_back a e keyword token s)
          (ap (λ (k : Class). result_by a k (uses a (whole_form e)) t keyword token s) (by_values (λ x. class (Some x) ≡ classes.Value) refl refl refl refl refl t worth))

      -- ---- a pointer, which one instruction writes

      abbrev a_register : Gift types texts fs f ℕ
      a_register = record { typed = λ r. Unit {0}; ready = IsHeld; stays = held_stays types texts fs f }

      -- behind what it is given
      module _ (s' : State) (grown : Grows s s') where
        there : slice_get s'.locals (result_local a) ≡ Some register.local
        there = grown.locals (result_local a) register.local register.there

        kept : Begins types f s' → is_register_at f (result_local a) ≡ true
        kept b = register_there types f (result_local a) register.local (b.locals (result_local a) register.local there) register.kind

        typed_there : Begins types f s' → (u : Ty) → t ≡ u → slice_get types.types register.local.ty.0 ≡ Some u
        typed_there b u same = b.table register.local.ty.0 u (grown.types register.local.ty.0 u (register.typed ∙ ap Some same))

      -- a pointer that is no reference, as what the expression gives a pointer
      module _ (u : Ty) (own : t ≡ u) (loc : is_location u ≡ true) (source : ExprType) (first : GivesPointer types texts fs f source s (pointing (uses a (whole_form e)) s)) (taken : takes_from types u source ≡ true) where
        abbrev p : Gives Pointing
        p = pointing (uses a (whole_form e)) s

        -- the result is where it was
        at : (s' : State) → Grows s s' → Begins types f s' → IsAt types texts fs f u (whole (result_local a))
        at s' grown b = record {
          typed = type_there types f (result_local a) register.local u (b.locals (result_local a) register.local (there s' grown)) (typed_there s' grown b u own) (location_no_reference u loc);
          kept = kept s' grown b;
        }

        abbrev pointed_back : Gives ℕ
        pointed_back = gives (result_local a) (emit e.place (pointed p.given (whole (result_local a))) p.state)

        pointed_part : Grows s p.state → Part types texts fs f (a_pointing types texts fs f source) p.given into p.state pointed_back a_register
        pointed_part grown =
            emit_part types texts fs f (a_pointing types texts fs f source) p.given into p.state (gives (result_local a) p.state) e.place (λ x. pointed p.given (whole x)) (result_local a) a_register
            (kept_targeted types f p.state (result_local a) register.local (there p.state grown) register.nameless register.kind)
            (λ b q. (pointed_fine types texts fs f (whole (result_local a)) u source p.given loc (at p.state grown b).typed taken q, tt))
            (λ x n k is q. pointed_fills f x n p.given k q is)
            (λ k lt ready. (lt, ready))

        pointed_written : GivesPointer types texts fs f source s p → Makes types texts fs f into s pointed_back a_register
        pointed_written (gives_plainly one) = then_part types texts fs f (nothing types texts fs f) tt into s p pointed_back (a_pointing types texts fs f source) a_register h.stands.opened one (pointed_part one.grown)
        pointed_written (gives_called c) =
            let g = c.given in
            let targets = kept_targeted types f g.state (result_local a) register.local (there g.state c.hands.grown) register.nameless register.kind in
            subst (λ (q : Gives Pointing). Makes types texts fs f into s (gives (result_local a) (emit e.place (pointed q.given (whole (result_local a))) q.state)) a_register) (sym c.is)
            (call_received types texts fs f c.function c.of c.callee s g c.hands into (result_local a) g.state (result_local a) a_register e.place (register_receives types texts fs f into g.state (gives (result_local a) g.state) targets)
            (λ b. c.goes u (whole (result_local a)) (at g.state c.hands.grown b).typed (inr taken))
            (λ b. tt)
            (λ k ready. (targets.below, ready)))

        pointer_returned : given_back a e keyword token s ≡ emit e.place (pointed p.given (whole (result_local a))) p.state → Back GivenBack
        pointer_returned same = result_returned a types texts fs f setting v in_loop s h register keyword token pointed_back a_register (pointed_written first) (λ n k q. q.1) (given_back a e keyword token s) same

      raw_returned : Whole → (target : TyId) (constant : Bool) → t ≡ ty.Raw target constant → is_target a.program.types (type_at a.program.types target) ≡ true → Back GivenBack
      raw_returned whole_is target constant raw w =
          let given = given_as (ty.Raw target constant) raw refl in
          pointer_returned (ty.Raw target constant) raw refl e.ty (points_whole a v.visible types texts fs f setting (whole_form e) whole_is (given_pointer a.program.types (ty.Raw target constant) e refl given) s h.stands) (given_raw a.program.types types setting.front target constant w e given) (by_type (ty.Raw target constant) raw)

      view_returned : Whole → t ≡ ty.View → Back GivenBack
      view_returned whole_is view =
          let seen = seen_kind a.program.types e whole_is.kind.kind (given_view a.program.types e (given_as ty.View view refl)) in
          pointer_returned ty.View view refl e.ty (points_whole a v.visible types texts fs f setting (whole_form e) whole_is (seen_pointed e.ty seen) s h.stands) (given_seen types e.ty seen) (by_type ty.View view)

      -- a view of the whole of a string
      string_returned : (from : IsOwner a v.visible types texts fs f setting (whole_form e)) → t ≡ ty.View → Back GivenBack
      string_returned from view =
          pointer_returned ty.View view refl (Of ty.View)
          (gives_plainly (string_points a v.visible types texts fs f setting (whole_form e) from (given_string a.program.types from.ty e from.owner from.is (given_as ty.View view refl)) s h.stands)) refl (by_type ty.View view)

      -- a reference, at a place that is written first
      module _ (target : TyId) (constant : Bool) (refers_to : t ≡ ty.Reference target constant) (w : is_target a.program.types (type_at a.program.types target) ≡ true) where
        -- what is built where it isn't a place of the type
        abbrev built : Gives Operand
        built = mapped object_named (giving.given (uses a (whole_form e)) (type_of a target) token s >> λ rest s. rest (temporary e.place (type_of a target)) s)

        abbrev back_by : Bool → State
        back_by c = (cond c (mapped (giving.aimed_at e.place) ((uses a (whole_form e)).at s)) (mapped (giving.aimed_at e.place) built) >> λ rest s. rest (result a keyword) s).state

        module _ (held : Bool) (kept_const : keeps_const constant held ≡ true) (o : Gives Operand) (stands_at : Makes types texts fs f None s o (a_place types texts fs f (type_at a.program.types target) held)) where
          abbrev done : State
          done = emit e.place (Aim (whole (result_local a)) (Aimed o.given)) o.state

          refers_there : Begins types f o.state → type_in types f (whole (result_local a)) ≡ ty.Reference target constant
          refers_there b =
              reference_there types f (result_local a) register.local target constant (b.locals (result_local a) register.local (there o.state stands_at.grown)) (typed_there o.state stands_at.grown b (ty.Reference target constant) refers_to)
              (target_unslotted a.program.types types setting.front target w)

          aims : Part types texts fs f (a_place types texts fs f (type_at a.program.types target) held) o.given into o.state (gives (result_local a) done) a_register
          aims =
              emit_part types texts fs f (a_place types texts fs f (type_at a.program.types target) held) o.given into o.state (gives (result_local a) o.state) e.place (λ x. Aim (whole x) (Aimed o.given)) (result_local a) a_register
              (kept_targeted types f o.state (result_local a) register.local (there o.state stands_at.grown) register.nameless register.kind)
              (λ b q. (
                record {
                  given = refl;
                  formed = ap (λ (x : Ty). is_source_of types texts fs f x (Aimed o.given)) (refers_there b) ∙ bound_given a types texts fs f setting.front target constant held o.given w kept_const q;
                },
                tt,
              ))
              (λ x n k is q. filling_fills f (λ l. Aim l (Aimed o.given)) n k (aimed_filling f o.given n k q) x is)
              (λ k lt ready. (lt, ready))

          aimed_back : given_back a e keyword token s ≡ done → Back GivenBack
          aimed_back same =
              result_returned a types texts fs f setting v in_loop s h register keyword token (gives (result_local a) done) a_register
              (then_part types texts fs f (nothing types texts fs f) tt into s o (gives (result_local a) done) (a_place types texts fs f (type_at a.program.types target) held) a_register h.stands.opened stands_at aims)
              (λ n k q. q.1) (given_back a e keyword token s) same

        by_place : is_place_of e.category target ≡ true → given_back a e keyword token s ≡ back_by true
        by_place is = by_type (ty.Reference target constant) refers_to ∙ ap back_by is

        by_building : is_place_of e.category target ≡ false → given_back a e keyword token s ≡ back_by false
        by_building is = by_type (ty.Reference target constant) refers_to ∙ ap back_by is

        reference_returned : Whole → is_value (type_at a.program.types target) ≡ true → Back GivenBack
        reference_returned whole_is worth = go (given_bound a.program.types target constant e w (given_as (ty.Reference target constant) refers_to refl))
          where
            go : IsBound a.program.types target constant e → Back GivenBack
            go (at_place bound) = aimed_back bound.held bound.kept ((uses a (whole_form e)).at s) (whole_is.names target bound.held bound.place worth s h.stands) (by_place bound.here)
            go (by_temporary none initial) =
                aimed_back false (keeps_all constant) built
                (value_temporary a v.visible types texts fs f setting (whole_form e) whole_is (type_at a.program.types target) worth (given_number a.program.types (type_at a.program.types target) e worth initial) token s h.stands)
                (by_building none)

        -- .. to an owner or a struct
        alias_returned : IsBuilt a.program.types (type_at a.program.types target) → IsAliased a v.visible types texts fs f setting (uses a (whole_form e)) target constant → Back GivenBack
        alias_returned o (to_place held here kept_const names) = aimed_back held kept_const ((uses a (whole_form e)).at s) (names s h.stands) (by_place here)
        alias_returned o (to_built none made) =
            aimed_back false (keeps_all constant) built
            (temporary_made a v.visible types texts fs f setting (type_at a.program.types target) e.place s (giving.given (uses a (whole_form e)) (type_at a.program.types target) token s) o (made token s h.stands) h.stands) (by_building none)

      -- a span of the whole of a vector
      walks_as : (u : Ty) → is_walker_of_values a.program.types u ≡ true → (keyword behind : Place) (s : State) → result_by a (class (Some u)) (uses a (whole_form e)) u keyword behind s
          ≡ emit e.place (pointed (pointing (uses a (whole_form e)) s).given (whole (result_local a))) (pointing (uses a (whole_form e)) s).state
      walks_as (ty.Iterator item constant) w keyword behind s = refl
      walks_as (ty.Span item constant) w keyword behind s = refl
      walks_as _ w keyword behind s = absurd (false≢true w)

      span_returned : (from : IsOwner a v.visible types texts fs f setting (whole_form e)) → (u : Ty) → t ≡ u → is_walker_of_values a.program.types u ≡ true → Back GivenBack
      span_returned from (ty.Span item constant) own w =
          let to = given_vector a.program.types item constant from.constant from.ty e from.owner from.is from.told (given_as (ty.Span item constant) own refl) in
          pointer_returned (ty.Span item constant) own refl (Of (ty.Span item constant)) (gives_plainly (vector_points a v.visible types texts fs f setting (whole_form e) from item constant to.is to.kept s h.stands))
          (walker_itself a.program.types types setting.front (ty.Span item constant) w) (by_type (ty.Span item constant) own)
      span_returned from (ty.Iterator item constant) own w =
          absurd (owner_no_iterator a.program.types from.ty e from.owner item constant (subst (λ (x : ExprType). fits_at_all (fits a.program.types (ty.Iterator item constant) x e.category) ≡ true) from.is (given_as (ty.Iterator item constant) own refl)))
      span_returned from _ own w = absurd (false≢true w)

      -- ---- by what is given back

      no_unique_result : (target : TyId) → t ≡ ty.Unique target → is_element a.program.types (type_at a.program.types target) ≡ true → ⊥
      no_unique_result target unique w = unowned (inr (inl (subst (λ (q : Ty). is_unique_of_element a.program.types q ≡ true) (sym unique) w)))

      no_whole_result : (number : ℕ) → t ≡ ty.Struct number → ⊥
      no_whole_result number whole = unowned (struct_built a.program.types a.function.result number whole)

      whole_returned : Whole → IsResultType a.program.types t → Back GivenBack
      whole_returned whole_is (gives_nothing void) = absurd (false≢true (sym r.0 ∙ ap is_void void))
      whole_returned whole_is (gives_value w) = value_returned whole_is w
      whole_returned whole_is (gives_raw target constant raw w) = raw_returned whole_is target constant raw w
      whole_returned whole_is (gives_owner o) = absurd (unowned (inl o))
      whole_returned whole_is (gives_unique target unique w) = absurd (no_unique_result target unique w)
      whole_returned whole_is (gives_whole number whole) = absurd (no_whole_result number whole)
      whole_returned whole_is (gives_view view) = view_returned whole_is view
      whole_returned whole_is (gives_walker w) = absurd (no_walker_given a.program.types e whole_is.kind.kind t w (given_as t refl (walker_no_unique a.program.types t w)))
      whole_returned whole_is (gives_reference target constant refers_to w) = reference_returned target constant refers_to (value_target a.program.types (type_at a.program.types target) w) whole_is w
      whole_returned whole_is (gives_alias target constant refers_to o) =
          alias_returned target constant refers_to (owner_target a.program.types (type_at a.program.types target) o) (inl o)
          (whole_aliased a v.visible types texts fs f setting (whole_form e) target constant o (given_as (ty.Reference target constant) refers_to refl) whole_is)
      whole_returned whole_is (gives_struct target constant number refers_to structure pointless) =
          absurd (kind_no_struct a.program.types e whole_is.kind.kind (struct_alone a.program.types target constant number e structure (struct_target a.program.types (type_at a.program.types target) pointless) (given_as (ty.Reference target constant) refers_to refl) (λ held. whole_is.kind.place target held)))

      owner_returned : IsOwning a v.visible types texts fs f setting (whole_form e) → IsResultType a.program.types t → Back GivenBack
      owner_returned from kind = go kind
        where
          o : IsOwner a v.visible types texts fs f setting (whole_form e)
          o = owning_owner a v.visible types texts fs f setting (whole_form e) from

          go : IsResultType a.program.types t → Back GivenBack
          go (gives_nothing void) = absurd (false≢true (sym r.0 ∙ ap is_void void))
          go (gives_value w) =
              absurd (owner_no_value a.program.types o.ty o.owner (subst (λ (x : ExprType). is_number x ≡ true) o.is (given_number a.program.types t e w (given_as t refl (value_simple t w).unique))))
          go (gives_raw target constant raw w) =
              absurd (owner_no_location a.program.types o.ty o.owner (subst (λ (x : ExprType). is_pointed x ≡ true) o.is (given_pointer a.program.types (ty.Raw target constant) e refl (given_as (ty.Raw target constant) raw refl))))
          go (gives_owner owned) = absurd (unowned (inl owned))
          go (gives_unique target unique w) = absurd (no_unique_result target unique w)
          go (gives_whole number whole) = absurd (no_whole_result number whole)
          go (gives_view view) = string_returned o view
          go (gives_walker w) = span_returned o t refl w
          go (gives_struct target constant number refers_to structure pointless) =
              absurd (struct_reference_refused a v.visible types texts fs f setting (whole_form e) target constant number structure (struct_target a.program.types (type_at a.program.types target) pointless) (given_as (ty.Reference target constant) refers_to refl) from)
          go (gives_reference target constant refers_to w) = absurd (value_reference_refused a v.visible types texts fs f setting (whole_form e) target constant w (given_as (ty.Reference target constant) refers_to refl) from)
          go (gives_alias target constant refers_to owned) =
              alias_returned target constant refers_to (owner_target a.program.types (type_at a.program.types target) owned) (inl owned)
              (owning_aliased a v.visible types texts fs f setting (whole_form e) target constant owned (given_as (ty.Reference target constant) refers_to refl) from)

      -- an iterator or a span
      walker_returned : (from : IsWalker a v.visible types texts fs f setting (whole_form e)) → IsResultType a.program.types t → Back GivenBack
      walker_returned from kind = go kind
        where
          not_one : (u : Ty) → t ≡ u → is_unique u ≡ false → fits_at_all (fits a.program.types u (Of from.ty) e.category) ≡ true
          not_one u same plain = subst (λ (x : ExprType). fits_at_all (fits a.program.types u x e.category) ≡ true) from.is (given_as u same plain)

          go : IsResultType a.program.types t → Back GivenBack
          go (gives_nothing void) = absurd (false≢true (sym r.0 ∙ ap is_void void))
          go (gives_value w) =
              absurd (false≢true (sym (walker_is a.program.types from.ty from.walker).value ∙ subst (λ (x : ExprType). is_number x ≡ true) from.is (given_number a.program.types t e w (given_as t refl (value_simple t w).unique))))
          go (gives_raw target constant raw w) =
              absurd (walker_no_raw a.program.types types from.ty from.walker target constant (subst (λ (x : ExprType). takes_from types (ty.Raw target constant) x ≡ true) from.is
              (given_raw a.program.types types setting.front target constant w e (given_as (ty.Raw target constant) raw refl))))
          go (gives_owner owned) = absurd (unowned (inl owned))
          go (gives_unique target unique w) = absurd (no_unique_result target unique w)
          go (gives_whole number whole) = absurd (no_whole_result number whole)
          go (gives_view view) = absurd (walker_no_text a.program.types from.ty from.walker (subst (λ (x : ExprType). sees x ≡ true) from.is (given_view a.program.types e (given_as ty.View view refl))))
          go (gives_walker w) =
              let loc = (walker_is a.program.types t w).location in
              pointer_returned t refl loc (Of from.ty) (walker_points a v.visible types texts fs f setting (whole_form e) from s h.stands)
              (given_walker a.program.types types setting.front t from.ty e w from.walker from.is (given_as t refl (walker_no_unique a.program.types t w))) (walks_as t w keyword token s)
          go (gives_reference target constant refers_to w) = absurd (walker_reference_refused a v.visible types texts fs f setting (whole_form e) target constant (value_target a.program.types (type_at a.program.types target) w) (given_as (ty.Reference target constant) refers_to refl) from)
          go (gives_struct target constant number refers_to structure pointless) =
              absurd (walker_reference_refused a v.visible types texts fs f setting (whole_form e) target constant (struct_target a.program.types (type_at a.program.types target) pointless) (given_as (ty.Reference target constant) refers_to refl) from)
          go (gives_alias target constant refers_to o) = absurd (walker_reference_refused a v.visible types texts fs f setting (whole_form e) target constant (owner_target a.program.types (type_at a.program.types target) o) (given_as (ty.Reference target constant) refers_to refl) from)

      -- a reference to a struct
      struct_returned : (from : IsAnyStruct a v.visible types texts fs f setting (whole_form e)) → IsResultType a.program.types t → Back GivenBack
      struct_returned from kind = go kind
        where
          its : (number : ℕ) × (e.ty ≡ Of (ty.Struct number))
          its = struct_typed a v.visible types texts fs f setting (whole_form e) from

          told_as : (u : Ty) → t ≡ u → is_unique u ≡ false → fits_at_all (fits a.program.types u (Of (ty.Struct its.0)) e.category) ≡ true
          told_as u same plain = subst (λ (x : ExprType). fits_at_all (fits a.program.types u x e.category) ≡ true) its.1 (given_as u same plain)

          aliased : (target : TyId) (constant : Bool) → t ≡ ty.Reference target constant → is_target a.program.types (type_at a.program.types target) ≡ true → IsStructAlias a v.visible types texts fs f setting (whole_form e) target constant
          aliased target constant refers_to wide = struct_aliased a v.visible types texts fs f setting (whole_form e) target constant from wide (given_as (ty.Reference target constant) refers_to refl)

          go : IsResultType a.program.types t → Back GivenBack
          go (gives_nothing void) = absurd (false≢true (sym r.0 ∙ ap is_void void))
          go (gives_value w) = absurd (false≢true (subst (λ (x : ExprType). is_number x ≡ true) its.1 (given_number a.program.types t e w (given_as t refl (value_simple t w).unique))))
          go (gives_raw target constant raw w) =
              absurd (false≢true (subst (λ (x : ExprType). is_pointed x ≡ true) its.1 (given_pointer a.program.types (ty.Raw target constant) e refl (given_as (ty.Raw target constant) raw refl))))
          go (gives_view view) = absurd (false≢true (subst (λ (x : ExprType). sees x ≡ true) its.1 (given_view a.program.types e (given_as ty.View view refl))))
          go (gives_walker w) = absurd (struct_no_walker a.program.types t w its.0 e.category (told_as t refl (walker_no_unique a.program.types t w)))
          go (gives_owner owned) = absurd (unowned (inl owned))
          go (gives_unique target unique w) = absurd (no_unique_result target unique w)
          go (gives_whole number whole) = absurd (no_whole_result number whole)
          go (gives_reference target constant refers_to w) =
              absurd (false≢true (sym (ap is_value (aliased target constant refers_to (value_target a.program.types (type_at a.program.types target) w)).structure) ∙ w))
          go (gives_alias target constant refers_to o) =
              absurd (false≢true (sym (ap (is_owner_of_values a.program.types) (aliased target constant refers_to (owner_target a.program.types (type_at a.program.types target) o)).structure) ∙ o))
          go (gives_struct target constant number refers_to structure pointless) =
              let wide = struct_target a.program.types (type_at a.program.types target) pointless in
              alias_returned target constant refers_to wide (struct_built a.program.types target number structure) (aliased target constant refers_to wide).aliased

      -- a unique_ptr is given to no such result
      unique_refused : (owned : TyId) → e.ty ≡ Of (ty.Unique owned) → ((target : TyId) (held : Bool) → e.category ≡ category.Place target held → is_target a.program.types (type_at a.program.types target) ≡ true → ⊥) → IsResultType a.program.types t → ⊥
      unique_refused owned is no_place kind = go kind
        where
          bound : (target : TyId) (constant : Bool) → is_target a.program.types (type_at a.program.types target) ≡ true → (is_given a.program.types (type_at a.program.types target) e ≡ true → ⊥) → IsBound a.program.types target constant e → ⊥
          bound target constant w none (at_place there) = no_place target there.held there.place w
          bound target constant w none (by_temporary other initial) = none initial

          told : (q : Ty) → is_given a.program.types q e ≡ true → fits_at_all (fits a.program.types q (Of (ty.Unique owned)) e.category) ≡ true
          told q given = subst (λ (x : ExprType). fits_at_all (fits a.program.types q x e.category) ≡ true) is given

          go : IsResultType a.program.types t → ⊥
          go (gives_nothing void) = false≢true (sym r.0 ∙ ap is_void void)
          go (gives_value w) = false≢true (subst (λ (x : ExprType). is_number x ≡ true) is (given_number a.program.types t e w (given_as t refl (value_simple t w).unique)))
          go (gives_raw target constant raw w) = false≢true (subst (λ (x : ExprType). is_pointed x ≡ true) is (given_pointer a.program.types (ty.Raw target constant) e refl (given_as (ty.Raw target constant) raw refl)))
          go (gives_owner o) = unowned (inl o)
          go (gives_unique target unique w) = no_unique_result target unique w
          go (gives_whole number whole) = no_whole_result number whole
          go (gives_view view) = false≢true (subst (λ (x : ExprType). sees x ≡ true) is (given_view a.program.types e (given_as ty.View view refl)))
          go (gives_walker w) = walker_no_unique_given a.program.types t w owned e.category (told t (given_as t refl (walker_no_unique a.program.types t w)))
          go (gives_reference target constant refers_to w) =
              let wide = value_target a.program.types (type_at a.program.types target) w in
              bound target constant wide (λ initial. false≢true (subst (λ (x : ExprType). is_number x ≡ true) is (given_number a.program.types (type_at a.program.types target) e w initial)))
              (given_bound a.program.types target constant e wide (given_as (ty.Reference target constant) refers_to refl))
          go (gives_alias target constant refers_to o) =
              let wide = owner_target a.program.types (type_at a.program.types target) o in
              bound target constant wide (λ initial. no_owner_given a.program.types (type_at a.program.types target) o (ty.Unique owned) refl e.category (told (type_at a.program.types target) initial))
              (given_bound a.program.types target constant e wide (given_as (ty.Reference target constant) refers_to refl))
          go (gives_struct target constant number refers_to structure pointless) =
              let wide = struct_target a.program.types (type_at a.program.types target) pointless in
              bound target constant wide (λ initial. false≢true (subst (λ (q : Ty). fits_at_all (fits a.program.types q (Of (ty.Unique owned)) e.category) ≡ true) structure (told (type_at a.program.types target) initial)))
              (given_bound a.program.types target constant e wide (given_as (ty.Reference target constant) refers_to refl))

    -- ---- an owner, which is built where the result lies

    module _ (object : IsResultObject a s) (owner : is_owner_of_values a.program.types t ≡ true) (e : Typed) (keyword token : Place) (r : IsReturned a.program a.function.locals a.function.result v.visible (Some e)) where
      abbrev u : Uses
      u = uses a (whole_form e)

      abbrev Given : State
      Given = left 0 keyword (Returns keyword) (result_given a (Some e) keyword token s)

      its_given : is_given a.program.types t e ≡ true
      its_given = back_given t a.function.result (named_local a.function.locals (named_in e.form)) (is_given a.program.types t e) (owner_no_unique a.program.types t owner) r.1

      -- .. or moved there
      abbrev by_name : Option ℕ → State
      by_name o = (statements.moved_out classes.Owner o (giving.given u t token) s >> λ rest s. rest (result a keyword) s).state

      by_owner : given_back a e keyword token s ≡ by_name (statements.object_named u.named s)
      by_owner = by_owners a.program.types (λ q. result_by a (class (Some q)) u q keyword token s ≡ (statements.moved_out classes.Owner (statements.object_named u.named s) (giving.given u q token) s >> λ rest s. rest (result a keyword) s).state) refl (λ item. refl) t owner

      built_back : (w : Gives Remaining) → Builds a v.visible types texts fs f setting t s w → (w.given (result a keyword) w.state).state ≡ by_name (statements.object_named u.named s) → Back Given
      built_back w is same = owner_given_back a types texts fs f setting v in_loop s h object (inl owner) r.0 keyword token w is (given_back a e keyword token s) (by_owner ∙ sym same)

      -- where nothing is named
      plain_back : Builds a v.visible types texts fs f setting t s (giving.given u t token s) → statements.object_named u.named s ≡ None → Back Given
      plain_back is none = built_back (giving.given u t token s) is (ap by_name (sym none))

      whole_back : IsWhole a v.visible types texts fs f setting (whole_form e) → statements.object_named u.named s ≡ None → Back Given
      whole_back is none = plain_back (value_builds a v.visible types texts fs f setting (whole_form e) is t owner its_given token s h.stands) none

      owner_back : (b : is_read_owner texts a.program (whole_form e) ≡ true) (n : is_owner_type e.ty ≡ true) → Back Given
      owner_back b n = go (statements.object_named u.named s) refl
        where
          from : IsOwning a v.visible types texts fs f setting (whole_form e)
          from = owner_expression a v.visible types texts fs f setting (whole_form e) b n r.2

          named : (o : Option ℕ) → u.named ≡ o → (y : ℕ) → statements.object_named o s ≡ Some y → Back Given
          named None at y same = absurd (none-some y same)
          named (Some x) at y same =
              let is = named_owner a v.visible types texts fs f setting (whole_form e) b n r.2 x at in
              let told = is_object a v.visible types texts fs f setting x e u.at is s h.stands (statements.object_named (Some x) s) y refl same in
              let alike = given_owner a.program.types t is.object.ty e owner is.object.owner is.object.is its_given in
              built_back (gives (lived Plain (moved (variable s x))) s)
              (subst (λ (q : Ty). Builds a v.visible types texts fs f setting q s (gives (lived Plain (moved (variable s x))) s)) alike (named_builds a v.visible types texts fs f setting x e u.at is s h.stands told.0))
              (ap by_name (ap Some told.1 ∙ sym (ap (λ (o : Option ℕ). statements.object_named o s) at ∙ same)))

          go : (o : Option ℕ) → statements.object_named u.named s ≡ o → Back Given
          go None none = plain_back (owning_builds a v.visible types texts fs f setting (whole_form e) from t owner its_given token s h.stands) none
          go (Some y) same = named u.named refl y same

    -- ---- any return

    -- the local of the result is an object where that is an owner, a unique_ptr or a struct, and else a register
    result_sort : (t : Ty) → ((number : ℕ) → t ≡ ty.Struct number → IsBuilt a.program.types t) → IsResultType a.program.types t → is_void t ≡ false → (IsBuilt a.program.types t × (result_kind (class (Some t)) ≡ Object)) ⊎ (result_kind (class (Some t)) ≡ Register)
    result_sort t tabled (gives_nothing void) some = absurd (false≢true (sym some ∙ ap is_void void))
    result_sort t tabled (gives_value v) some = inr (by_values (λ q. result_kind (class (Some q)) ≡ Register) refl refl refl refl refl t v)
    result_sort t tabled (gives_raw target constant raw w) some = inr (ap (λ (q : Ty). result_kind (class (Some q))) raw)
    result_sort t tabled (gives_view view) some = inr (ap (λ (q : Ty). result_kind (class (Some q))) view)
    result_sort (ty.Iterator target constant) tabled (gives_walker w) some = inr refl
    result_sort (ty.Span target constant) tabled (gives_walker w) some = inr refl
    result_sort _ tabled (gives_walker w) some = absurd (false≢true w)
    result_sort ty.Text tabled (gives_owner o) some = inl (inl o, refl)
    result_sort (ty.Vector item) tabled (gives_owner o) some = inl (inl o, refl)
    result_sort _ tabled (gives_owner o) some = absurd (false≢true o)
    result_sort t tabled (gives_unique target unique w) some = inl (inr (inl (subst (λ (q : Ty). is_unique_of_element a.program.types q ≡ true) (sym unique) w)), ap (λ (q : Ty). result_kind (class (Some q))) unique)
    result_sort t tabled (gives_whole number whole) some = inl (tabled number whole, ap (λ (q : Ty). result_kind (class (Some q))) whole)
    result_sort t tabled (gives_reference target constant refers w) some = inr (ap (λ (q : Ty). result_kind (class (Some q))) refers)
    result_sort t tabled (gives_alias target constant refers o) some = inr (ap (λ (q : Ty). result_kind (class (Some q))) refers)
    result_sort t tabled (gives_struct target constant number refers structure pointless) some = inr (ap (λ (q : Ty). result_kind (class (Some q))) refers)

    -- a register holds none
    no_owner : (t : Ty) → result_kind (class (Some t)) ≡ Register → IsBuilt a.program.types t → ⊥
    no_owner t is (inr (inr structure)) = no_register (sym (ap (λ (q : Ty). result_kind (class (Some q))) structure.is) ∙ is)
    no_owner ty.Text is b = no_register is
    no_owner (ty.Vector item) is b = no_register is
    no_owner (ty.Unique target) is b = no_register is
    no_owner _ is (inl o) = false≢true o
    no_owner _ is (inr (inl u)) = false≢true u

    -- what a literal is given by has no name, and no other value is given to an owner
    no_name : (e : Typed) → is_owner_of_values a.program.types t ≡ true → is_given a.program.types t e ≡ true → IsWhole a v.visible types texts fs f setting (whole_form e) → statements.object_named (uses a (whole_form e)).named s ≡ None
    no_name e o given is = go is.kind.kind
      where
        as_told : (x : ExprType) → e.ty ≡ x → fits_at_all (fits a.program.types t x e.category) ≡ true
        as_told x at = subst (λ (x : ExprType). fits_at_all (fits a.program.types t x e.category) ≡ true) at given

        go : HasKind a.program.types e → statements.object_named (uses a (whole_form e)).named s ≡ None
        go (a_text at v) = ap (λ (o : Option ℕ). statements.object_named o s) (is.as_literal at).nameless
        go (is_number_kind q at w) = absurd (no_owner_given a.program.types t o q (by_values (λ q. owns_elements q ≡ false) refl refl refl refl refl q w) e.category (as_told (Of q) at))
        go (is_pointer_kind target constant at w) = absurd (no_owner_given a.program.types t o (ty.Raw target constant) refl e.category (as_told (Of (ty.Raw target constant)) at))
        go (is_view_kind at) = absurd (no_owner_given a.program.types t o ty.View refl e.category (as_told (Of ty.View) at))
        go (no_value at w) = absurd (no_owner_given a.program.types t o ty.Void refl e.category (as_told (Of ty.Void) at))
        go (a_null at w) = absurd (null_refused a.program.types t o e.category (as_told NullPointer at))

    pub returned_does : HasRegister a s → (keyword : Place) (given : Option Typed) (token : Place) → is_read_returned texts a.program given ≡ true → IsReturned a.program a.function.locals a.function.result v.visible given
        → Back (left 0 keyword (Returns keyword) (result_given a given keyword token s))
    returned_does register keyword None token b r = return_does a types texts fs f setting v in_loop s h (λ gives. false≢true (sym gives.0 ∙ r)) keyword
    returned_does register keyword (Some e) token b r = sorted (result_sort t (λ number whole. struct_built a.program.types a.function.result number whole) kind r.0)
      where
        kind : IsResultType a.program.types t
        kind = result_is a.program.types t setting.result

        -- a unique_ptr, which is made, moved or given, or is named
        uniques : Bool
        uniques = is_read_fresh texts a.program (whole_form e) || is_read_unique texts a.program (whole_form e)

        fresh : is_read_fresh texts a.program (whole_form e) ≡ true → IsFresh a v.visible types texts fs f setting (whole_form e)
        fresh b = fresh_expression a v.visible types texts fs f setting (whole_form e) b r.2

        held : is_read_unique texts a.program (whole_form e) ≡ true → IsHolding a v.visible types texts fs f setting (whole_form e)
        held b = holding_expression a v.visible types texts fs f setting (whole_form e) b r.2

        -- neither is given to a register
        holding_refused : (IsBuilt a.program.types t → ⊥) → IsResultRegister a s → IsHolding a v.visible types texts fs f setting (whole_form e) → ⊥
        holding_refused plain there (holds_named is) =
            unique_refused there plain e keyword token r is.target is.is
            (λ target held at w. false≢true (sym (ap (is_target a.program.types) (sym (ap (type_at a.program.types) (place_same is.id target is.constant held (sym is.place ∙ at))) ∙ is.owns)) ∙ w)) kind
        holding_refused plain there (holds_answer is) = unique_refused there plain e keyword token r is.fresh.owned is.fresh.is (λ target held at w. value_place (sym is.fresh.value ∙ at)) kind

        in_register : (IsBuilt a.program.types t → ⊥) → IsResultRegister a s → Back (left 0 keyword (Returns keyword) (result_given a (Some e) keyword token s))
        in_register plain there =
            elim (or_cases (is_read_any texts a.program e) (is_read_walker texts a.program (whole_form e) || (is_read_struct texts a.program (whole_form e) || uniques)) b) [
              | inl any ↦ elim (either_read (whole_form e) (is_read_owner texts a.program (whole_form e)) (is_read_expression texts a.program e) any) [
                | inl value ↦ whole_returned there plain e keyword token r (whole_expression a v.visible types texts fs f setting (whole_form e) value r.2) kind
                | inr owner ↦ owner_returned there plain e keyword token r (owner_expression a v.visible types texts fs f setting (whole_form e) owner.1 owner.0 r.2) kind
              ]
              | inr others ↦ elim (or_cases (is_read_walker texts a.program (whole_form e)) (is_read_struct texts a.program (whole_form e) || uniques) others) [
                | inl walker ↦ walker_returned there plain e keyword token r (walker_expression a v.visible types texts fs f setting (whole_form e) walker r.2) kind
                | inr others ↦ elim (or_cases (is_read_struct texts a.program (whole_form e)) uniques others) [
                  | inl structure ↦ struct_returned there plain e keyword token r (struct_expression a v.visible types texts fs f setting (whole_form e) structure r.2) kind
                  | inr unique ↦ elim (or_cases (is_read_fresh texts a.program (whole_form e)) (is_read_unique texts a.program (whole_form e)) unique) [
                    | inl made ↦ let is = fresh made in absurd (unique_refused there plain e keyword token r is.owned is.is (λ target held at w. value_place (sym is.value ∙ at)) kind)
                    | inr holds ↦ absurd (holding_refused plain there (held holds))
                  ]
                ]
              ]
            ]

        -- .. to an owner nothing but one is given, or a literal
        as_owner_object : is_owner_of_values a.program.types t ≡ true → IsResultObject a s → Back (left 0 keyword (Returns keyword) (result_given a (Some e) keyword token s))
        as_owner_object o there =
            elim (or_cases (is_read_any texts a.program e) (is_read_walker texts a.program (whole_form e) || (is_read_struct texts a.program (whole_form e) || uniques)) b) [
              | inl any ↦ elim (either_read (whole_form e) (is_read_owner texts a.program (whole_form e)) (is_read_expression texts a.program e) any) [
                | inl value ↦
                    let is = whole_expression a v.visible types texts fs f setting (whole_form e) value r.2 in
                    whole_back there o e keyword token r is (no_name e o (its_given there o e keyword token r) is)
                | inr owner ↦ owner_back there o e keyword token r owner.1 owner.0
              ]
              | inr others ↦ elim (or_cases (is_read_walker texts a.program (whole_form e)) (is_read_struct texts a.program (whole_form e) || uniques) others) [
                | inl walker ↦
                    let is = walker_expression a v.visible types texts fs f setting (whole_form e) walker r.2 in
                    refused o there is.ty is.is (walker_is a.program.types is.ty is.walker).owner
                | inr others ↦ elim (or_cases (is_read_struct texts a.program (whole_form e)) uniques others) [
                  | inl structure ↦ let is = struct_typed a v.visible types texts fs f setting (whole_form e) (struct_expression a v.visible types texts fs f setting (whole_form e) structure r.2) in refused o there (ty.Struct is.0) is.1 refl
                  | inr unique ↦ elim (or_cases (is_read_fresh texts a.program (whole_form e)) (is_read_unique texts a.program (whole_form e)) unique) [
                    | inl made ↦ let is = fresh made in refused o there (ty.Unique is.owned) is.is refl
                    | inr holds ↦ let is = holding_lies a v.visible types texts fs f setting (whole_form e) (held holds) in refused o there (ty.Unique is.target) is.is refl
                  ]
                ]
              ]
            ]
          where
            refused : is_owner_of_values a.program.types t ≡ true → IsResultObject a s → (q : Ty) → e.ty ≡ Of q → owns_elements q ≡ false → Back (left 0 keyword (Returns keyword) (result_given a (Some e) keyword token s))
            refused o there q is none =
                absurd (no_owner_given a.program.types t o q none e.category (subst (λ (x : ExprType). fits_at_all (fits a.program.types t x e.category) ≡ true) is (its_given there o e keyword token r)))

        -- .. and to a unique_ptr another one, or null
        as_unique_object : is_unique_of_element a.program.types t ≡ true → IsResultObject a s → Back (left 0 keyword (Returns keyword) (result_given a (Some e) keyword token s))
        as_unique_object one there = unique_back a types texts fs f setting v in_loop s h there x.0 x.1 x.2 e keyword token r by_form
          where
            x : (target : TyId) × (t ≡ ty.Unique target) × (is_element a.program.types (type_at a.program.types target) ≡ true)
            x = unique_is a.program.types t one

            holding_back : is_given a.program.types (ty.Unique x.0) e ≡ true → IsHolding a v.visible types texts fs f setting (whole_form e) → Back (left 0 keyword (Returns keyword) (result_given a (Some e) keyword token s))
            holding_back given (holds_named is) = absurd (no_named_given a types texts fs f setting v in_loop s h there x.0 x.1 x.2 e keyword token r is given)
            holding_back given (holds_answer is) = fresh_back a types texts fs f setting v in_loop s h there x.0 x.1 x.2 e keyword token r is.fresh is.nameless given

            by_form : is_given a.program.types (ty.Unique x.0) e ≡ true → Back (left 0 keyword (Returns keyword) (result_given a (Some e) keyword token s))
            by_form given =
                elim (or_cases (is_read_any texts a.program e) (is_read_walker texts a.program (whole_form e) || (is_read_struct texts a.program (whole_form e) || uniques)) b) [
                  | inl any ↦ elim (either_read (whole_form e) (is_read_owner texts a.program (whole_form e)) (is_read_expression texts a.program e) any) [
                    | inl value ↦ null_back a types texts fs f setting v in_loop s h there x.0 x.1 x.2 e keyword token r (whole_expression a v.visible types texts fs f setting (whole_form e) value r.2) given
                    | inr owner ↦
                        let is = owning_owner a v.visible types texts fs f setting (whole_form e) (owner_expression a v.visible types texts fs f setting (whole_form e) owner.1 owner.0 r.2) in
                        absurd (owner_no_unique_given a.program.types is.ty is.owner x.0 e.category (subst (λ (k : ExprType). fits_at_all (fits a.program.types (ty.Unique x.0) k e.category) ≡ true) is.is given))
                  ]
                  | inr others ↦ elim (or_cases (is_read_walker texts a.program (whole_form e)) (is_read_struct texts a.program (whole_form e) || uniques) others) [
                    | inl walker ↦
                        let is = walker_expression a v.visible types texts fs f setting (whole_form e) walker r.2 in
                        absurd (unique_no_walker_given a.program.types is.ty is.walker x.0 e.category (subst (λ (k : ExprType). fits_at_all (fits a.program.types (ty.Unique x.0) k e.category) ≡ true) is.is given))
                    | inr others ↦ elim (or_cases (is_read_struct texts a.program (whole_form e)) uniques others) [
                      | inl structure ↦ let is = struct_typed a v.visible types texts fs f setting (whole_form e) (struct_expression a v.visible types texts fs f setting (whole_form e) structure r.2) in
                          absurd (false≢true (subst (λ (k : ExprType). fits_at_all (fits a.program.types (ty.Unique x.0) k e.category) ≡ true) is.1 given))
                      | inr unique ↦ elim (or_cases (is_read_fresh texts a.program (whole_form e)) (is_read_unique texts a.program (whole_form e)) unique) [
                        | inl made ↦ fresh_back a types texts fs f setting v in_loop s h there x.0 x.1 x.2 e keyword token r (fresh made) (fresh_nameless a v.visible texts e.form e (and_parts (is_unique_type e.ty) (is_read_fresh texts a.program e.form) made).1 r.2 e.place) given
                        | inr holds ↦ holding_back given (held holds)
                      ]
                    ]
                  ]
                ]

        -- .. and to a struct another one
        as_struct_object : (number : ℕ) → t ≡ ty.Struct number → IsTabled a.program.types (ty.Struct number) → IsResultObject a s → Back (left 0 keyword (Returns keyword) (result_given a (Some e) keyword token s))
        as_struct_object number whole tabled there =
            elim (or_cases (is_read_any texts a.program e) (is_read_walker texts a.program (whole_form e) || (is_read_struct texts a.program (whole_form e) || uniques)) b) [
              | inl any ↦ elim (either_read (whole_form e) (is_read_owner texts a.program (whole_form e)) (is_read_expression texts a.program e) any) [
                | inl value ↦
                    absurd (kind_no_struct a.program.types e (whole_expression a v.visible types texts fs f setting (whole_form e) value r.2).kind.kind (struct_fits a.program.types number e.ty e.category taken))
                | inr owner ↦
                    let is = owning_owner a v.visible types texts fs f setting (whole_form e) (owner_expression a v.visible types texts fs f setting (whole_form e) owner.1 owner.0 r.2) in
                    absurd (owner_no_struct_given a.program.types is.ty is.owner number e.category (as_told (Of is.ty) is.is))
              ]
              | inr others ↦ elim (or_cases (is_read_walker texts a.program (whole_form e)) (is_read_struct texts a.program (whole_form e) || uniques) others) [
                | inl walker ↦
                    let is = walker_expression a v.visible types texts fs f setting (whole_form e) walker r.2 in
                    absurd (walker_no_struct_given a.program.types is.ty is.walker number e.category (as_told (Of is.ty) is.is))
                | inr others ↦ elim (or_cases (is_read_struct texts a.program (whole_form e)) uniques others) [
                  | inl structure ↦
                      struct_back a types texts fs f setting v in_loop s h there number whole tabled r.0 keyword token e
                      ((as_struct a v.visible types texts fs f setting (whole_form e) number (struct_expression a v.visible types texts fs f setting (whole_form e) structure r.2) taken).unseen token)
                  | inr unique ↦ elim (or_cases (is_read_fresh texts a.program (whole_form e)) (is_read_unique texts a.program (whole_form e)) unique) [
                    | inl made ↦ absurd (false≢true (as_told (Of (ty.Unique (fresh made).owned)) (fresh made).is))
                    | inr holds ↦ let is = holding_lies a v.visible types texts fs f setting (whole_form e) (held holds) in absurd (false≢true (as_told (Of (ty.Unique is.target)) is.is))
                  ]
                ]
              ]
            ]
          where
            taken : is_given a.program.types (ty.Struct number) e ≡ true
            taken =
                subst (λ (x : Ty). is_given a.program.types x e ≡ true) whole
                (back_given t a.function.result (named_local a.function.locals (named_in e.form)) (is_given a.program.types t e) (ap is_unique whole) r.1)

            as_told : (x : ExprType) → e.ty ≡ x → fits_at_all (fits a.program.types (ty.Struct number) x e.category) ≡ true
            as_told x at = subst (λ (x : ExprType). fits_at_all (fits a.program.types (ty.Struct number) x e.category) ≡ true) at taken

        as_object : IsBuilt a.program.types t → IsResultObject a s → Back (left 0 keyword (Returns keyword) (result_given a (Some e) keyword token s))
        as_object (inl o) there = as_owner_object o there
        as_object (inr (inl one)) there = as_unique_object one there
        as_object (inr (inr structure)) there = as_struct_object structure.number structure.is (subst (IsTabled a.program.types) structure.is structure) there

        sorted : (IsBuilt a.program.types t × (result_kind (class (Some t)) ≡ Object)) ⊎ (result_kind (class (Some t)) ≡ Register) → Back (left 0 keyword (Returns keyword) (result_given a (Some e) keyword token s))
        sorted (inl is) = as_object is.0 (subst (λ (k : LocalKind). IsResultLocal k a s) is.1 (register r.0))
        sorted (inr is) = in_register (no_owner t is) (subst (λ (k : LocalKind). IsResultLocal k a s) is (register r.0))
