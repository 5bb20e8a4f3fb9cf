-- What is written for a declaration is ready and well formed: the variable lives, and is given what typing lets it be given.
use Rattle.std.proofs.Common.{◌≡◌, [], ℕ, ◌<◌, Bool, true, false, ◌&&◌, ◌||◌, cond, not, List, ◌∷◌, ◌++◌, length, slice_get, Option, Some, None, refl, sym, ap, ◌∙◌, subst, unwrap_or, arith, append_assoc, inl, inr, flat_map, length-append}
use Rattle.std.proofs.lemmas.Bool.{and_parts, false≢true, or_cases, and_from}
use Rattle.std.specs.List.{list_all}
use Rattle.life_elab_laws.proofs.FormKinds.{is_read_expression, is_read_owner, is_read_walker, is_read_owning, are_read_elements, are_read_listed, is_read_struct, is_read_fresh, are_read_arguments}
use Rattle.life_elab_laws.proofs.ObjectTypes.{is_owner_of_values, is_plain_struct, is_admitted_variable, is_walker_of_values, is_element, is_target, is_struct}
use Rattle.life_elab_laws.proofs.StatementKinds.{is_read_declaration, is_read_declared, is_read_initial, is_read_owned}
use Rattle.life_elab_laws.proofs.TypeKinds.{is_owner_type, is_walker, takes_list, takes_owner, takes_value, takes_struct, lists_members}
use Rattle.life_types.specs.Pointees.{ty_of}
use Rattle.life_types.specs.TypeTests.{is_value, is_unique, is_reference}
use Rattle.life_types.specs.Types.{Types, class}
use Rattle.life_types.specs.contracts.ty.TyPartialEq.TheImpl.{ghosts as compared}
use Rattle.life_types.specs.declared.place.Place.{Place}
use Rattle.life_types.specs.declared.ty.Ty.{Ty}
use Rattle.life_types.specs.declared.ty.Ty.TheVariants as ty
use Rattle.life_types.specs.declared.ty.TyId.{TyId}
use Rattle.life_typed.specs.BaseTypes.{type_at}
use Rattle.life_typed.specs.Conversions.{is_place, fits, is_place_of}
use Rattle.life_typed.specs.Programs.{FunctionForm}
use Rattle.life_typed.specs.TypedForm.{Typed, whole as whole_form, Form, forms}
use Rattle.life_typed.specs.TypedStatement.{DeclarationForm, InitialForm, one, several, ListForm}
use Rattle.life_typed.specs.declared.typed_program.TypedLocal.{TypedLocal}
use Rattle.life_type_stmt.specs.Declarations.{default_fault}
use Rattle.life_core.specs.Function.{Function}
use Rattle.life_core.specs.Operands.{Argument, Empty, Location, Place as Aimed, object_named, whole}
use Rattle.life_core.specs.Step.{Aim, Live, Save, Step, Copy}
use Rattle.life_core.specs.Tree.{Tree, Acts, trees}
use Rattle.life_core.specs.declared.instr.Form.TheVariants.{Plain}
use Rattle.life_proper.specs.declared.known.Known.{Known}
use Rattle.life_proper.specs.declared.known.Known.TheVariants as known
use Rattle.life_proper.specs.GivenOver.{given_step, given_argument}
use Rattle.life_proper.specs.Knowing.{known_at}
use Rattle.life_proper.specs.OperandTypes.{is_range, keeps_const, same, takes, is_owner}
use Rattle.life_proper.specs.WellFormed.{can_live, goes_to, is_source_of}
use Rattle.life_well_typed.specs.Expressions.{IsExpression, parameter_types}
use Rattle.life_well_typed.specs.Given.{is_given, is_number}
use Rattle.life_well_typed.specs.Statements.{IsDeclaration, IsInitialised}
use Rattle.life_well_typed.specs.Visible.{Visible, with_next}
use Rattle.life_writer.specs.Around.{Around, own_type, type_of}
use Rattle.life_writer.specs.Around as around
use Rattle.life_writer.specs.Calls.{Called, call_for, called, form_call}
use Rattle.life_writer.specs.ExpressionForms.{all_uses, uses}
use Rattle.life_writer.specs.Giving.{aimed_at, call_to, initial, value_by, object_by}
use Rattle.life_writer.specs.Giving as giving
use Rattle.life_writer.specs.Building.{live}
use Rattle.life_writer.specs.Pointers.{Pointing, aimed, pointed}
use Rattle.life_writer.specs.Temporaries.{scoped}
use Rattle.life_writer.specs.Using.{pointing, value}
use Rattle.life_writer.specs.Variables.{end_pending, variable_local, kind}
use Rattle.life_writer.specs.Uses.{Remaining, Uses}
use Rattle.life_writer.specs.Writing.{State, Gives, ◌>>◌, emit, gives, mapped, with_code}
use Rattle.life_elab.specs.DeclarationForms.{declared, declared_as, default_to, empty, given_initial}
use Rattle.life_elab.specs.Declarations.{variable as home}
use Rattle.life_writer.proofs.Called.{call_for_seen, calling}
use Rattle.life_elab_laws.proofs.Aiming.{pointed_fills, pointed_fine}
use Rattle.life_elab_laws.proofs.Declaring.{declared_does, its_local, new_below, new_none, new_then, with_new, handed_declared}
use Rattle.life_elab_laws.proofs.Doing.{Does}
use Rattle.life_elab_laws.proofs.ExpressionKinds.{variable_built}
use Rattle.life_elab_laws.proofs.ExpressionForms.{IsWhole}
use Rattle.life_elab_laws.proofs.ExpressionTypes.{answer_own, seen_kind}
use Rattle.life_elab_laws.proofs.Expressions.{owner_expression, walker_expression, whole_expression, givings, struct_expression, fresh_expression, listings}
use Rattle.life_elab_laws.proofs.PointedCalls.{GivesPointer, IsPointedCall, gives_called, gives_plainly}
use Rattle.life_elab_laws.proofs.PointerForms.{points_whole, result_later}
use Rattle.life_elab_laws.proofs.GivenKinds.{given_number, given_pointer, given_view}
use Rattle.life_elab_laws.proofs.Falling.{Fills, falls_filling}
use Rattle.life_elab_laws.proofs.Following.{Follows, follows_settled, same_variable, settled}
use Rattle.life_elab_laws.proofs.Filling.{aimed_filling, filling_fills}
use Rattle.life_elab_laws.proofs.FormedFits.{IsBound, IsBoundTo, at_place, by_temporary, given_bound, given_raw, given_seen, given_owner, given_string, given_vector, given_walker}
use Rattle.life_elab_laws.proofs.Gifts.{a_number, a_place, a_pointing, Gift, nothing, takes_from, all_handed}
use Rattle.life_elab_laws.proofs.GivenApart.{given_of, step_apart, AreApart}
use Rattle.life_elab_laws.proofs.LookedLocals.{looked_of}
use Rattle.life_elab_laws.proofs.Fronts.{front_append}
use Rattle.life_elab_laws.proofs.Growing.{Begins, Grows}
use Rattle.life_elab_laws.proofs.KeptTemporaries.{temporary_does}
use Rattle.life_elab_laws.proofs.Locations.{is_location, is_pointed, seen_pointed}
use Rattle.life_elab_laws.proofs.NewVariables.{bound_given, location_declared, object_lives, object_placed, owner_lives, raw_lives, reference_declared, reference_kept, value_goes, value_lives, value_saved, owner_declared, location_lives}
use Rattle.life_elab_laws.proofs.Parts.{Makes, leaf_part}
use Rattle.life_elab_laws.proofs.Saving.{live_fills, saved_falls}
use Rattle.life_elab_laws.proofs.Setting.{Setting}
use Rattle.life_elab_laws.proofs.Shaping.{fine_acts, fine_append, is_no_object, IsFineStep, step_keeps}
use Rattle.life_elab_laws.proofs.TypedKinds.{none_some, value_simple}
use Rattle.life_elab_laws.proofs.Types.{same_types}
use Rattle.life_elab_laws.proofs.Values.{by_owners, by_values, by_walkers}
use Rattle.life_elab_laws.proofs.MadeForms.{Builds, BuildsIn, gift_of, is_made, IsMade, IsOwning, owning_owner, stands_there, one_new}
use Rattle.life_elab_laws.proofs.VariablePlaces.{a_raw, a_reference, a_struct, a_unique, a_value, a_view, a_walker, an_alias, an_owner, IsVariableType, variable_type, walker_is, a_struct_alias}
use Rattle.life_elab_laws.proofs.ObjectForms.{IsObject, IsOwner}
use Rattle.life_elab_laws.proofs.FreshUniques.{IsFresh, null_builds}
use Rattle.life_elab_laws.proofs.MoveSteps.{owner_moves}
use Rattle.life_elab_laws.proofs.MovedOwners.{moved_kind, moved_plain}
use Rattle.life_elab_laws.proofs.OwnerBirths.{lives_then}
use Rattle.life_elab_laws.proofs.OwnerSteps.{copy_fine, place_held}
use Rattle.life_elab_laws.proofs.SeenForms.{string_points}
use Rattle.life_core.specs.Touched.{place_uses}
use Rattle.life_typed.specs.declared.typed_expr.Category.{Category}
use Rattle.life_typed.specs.declared.typed_expr.ExprType.TheVariants.{Of}
use Rattle.life_elab_laws.proofs.BuiltVariables.{built_does}
use Rattle.life_typed.specs.declared.typed_expr.ExprType.{ExprType}
use Rattle.life_elab_laws.proofs.WalkerForms.{IsWalker, vector_points, walker_points, value_no_walker, owner_no_walker}
use Rattle.life_elab_laws.proofs.WalkerSteps.{keeps_itself}
use Rattle.life_elab_laws.proofs.ListForms.{list_builds}
use Rattle.life_well_typed.specs.Members.{is_listed, makes_object}
use Rattle.life_writer.specs.Initialising.{initialised}
use Rattle.life_writer.specs.Lists.{built_type, list_object, listed}
use Rattle.life_elab_laws.proofs.TemporaryEnds.{TemporariesEnd, temporary_ends}
use Rattle.life_elab_laws.proofs.Elements.{one_element}
use Rattle.life_elab_laws.proofs.PushedElements.{AreGiving}
use Rattle.life_elab_laws.proofs.AliasForms.{IsAliased, owning_aliased, value_reference_refused, whole_aliased, to_built, to_place, struct_reference_refused, value_builds}
use Rattle.life_elab_laws.proofs.BoundOwners.{bound_owner_does}
use Rattle.life_elab_laws.proofs.Targets.{owner_target, value_target, struct_target}
use Rattle.life_elab_laws.proofs.UniqueForms.{owner_no_unique, walker_no_unique}
use Rattle.life_elab_laws.proofs.StructForms.{owner_no_struct}
use Rattle.life_elab_laws.proofs.StructLists.{members_build}
use Rattle.life_elab_laws.proofs.HandedArguments.{Hands}
use Rattle.life_elab_laws.proofs.HandingCalls.{born_falls, born_fine, born_looks, born_named}
use Rattle.life_elab_laws.proofs.StructReferences.{kind_no_struct, struct_alone, struct_aliased, IsStructAlias}
use Rattle.life_elab_laws.proofs.OwnLocals.{first_own}
use Rattle.life_elab_laws.proofs.MadeStructs.{IsAnyStruct, as_struct}
use Rattle.life_elab_laws.proofs.StructMembers.{AreListed}
use Rattle.life_elab_laws.proofs.AdmittedTypes.{IsBuilt, struct_built}
use Rattle.life_core.specs.declared.program.LocalKind.TheVariants.{Object}

module _ (a : Around) (types : Types) (texts : ℕ) (fs : List Function) (f : Function) (setting : Setting a types fs f) (v : Visible) (in_loop : Bool) where
  module _ (u : TypedLocal) (s : State) (h : Follows types f a v s) (at : slice_get a.function.locals v.declared ≡ Some u) (built : is_admitted_variable a.program.types u.ty ≡ true) (last : Place) where
    -- its temporaries end behind it
    abbrev Born : State → Type 0
    Born s' = Does types texts fs f a (with_next v) in_loop s (end_pending (length s.pending) last s')

    can : TemporariesEnd types texts fs f (first_own a)
    can = temporary_ends types texts fs f (first_own a) setting.own

    abbrev Whole : Typed → Type 0
    Whole e = IsExpression a.program a.function.locals v.visible (whole_form e)

    -- where so much has been written
    abbrev New : State → Type 0
    New s' = Begins types f (with_new (variable_local a u) s')

    type_is : (t : Ty) → slice_get a.program.types.types u.ty.0 ≡ Some t → type_of a u.ty ≡ t
    type_is t is = ap (λ (o : Option Ty). unwrap_or o ty.Void) is

    -- ---- what the variable holds

    below : (s' : State) → Grows s s' → New s' → length s'.locals < length f.locals
    below s' g b = new_below types f a setting.front v u (variable_local a u) (its_local a u) (settled types f s s') (follows_settled types f a v s s' g h) at built b

    -- ---- it comes to life

    live_fine : (s' : State) → can_live types texts fs f (length s'.locals) ≡ true → IsFineStep types texts fs f (Live (length s'.locals) Plain)
    live_fine s' lives = record { given = refl; formed = lives }

    live_does : (New s → can_live types texts fs f (length s.locals) ≡ true) → Born (live (home a u) s).state
    live_does lives =
        declared_does types texts fs f a setting.front v in_loop can last u s (gives tt s) (nothing types texts fs f) (Acts u.place (Live (length s.locals) Plain) ∷ []) h at built
        (leaf_part types texts fs f tt s (nothing types texts fs f) (λ b. tt) (λ b k alive. tt))
        (λ b q. fine_acts types texts fs f u.place (Live (length s.locals) Plain) (live_fine s (lives b)))
        (λ b k size q blank. falls_filling types f u.place (Live (length s.locals) Plain) (length s.locals) k (live_fills types f (length s.locals) Plain k blank))
        (λ b q k alive r blank. new_none f (variable_local a u) s)

    -- an owner, a unique_ptr or a struct, by whatever builds it
    builds_does : {plain : Bool} (t : Ty) → slice_get a.program.types.types u.ty.0 ≡ Some t → kind (class (Some t)) ≡ Object → is_reference t ≡ false → (w : Gives Remaining) → BuildsIn a v.visible types texts fs f setting plain t s w → Born (w.given (home a u) w.state).state
    builds_does t is object direct w made =
        subst (λ (g : Gives ℕ). Born g.state) (sym (made.lives (home a u) w.state))
        (built_does a types texts fs f setting v in_loop last u s h at built made.over (gives made.found w.state) (gift_of a v.visible types texts fs f setting made.making) made.hands t made.comes
        (made.act u.place (object_named (length w.state.locals)))
        (λ b. object_lives a types texts fs f setting.front u w.state b t is object)
        (λ b. object_placed a types texts fs f setting.front u w.state b t is object direct)
        (λ stands.
        made.acts u.place (object_named (length w.state.locals)) (with_code (w.state.code ++ made.comes.code u.place (length w.state.locals)) (with_new (variable_local a u) w.state)) stands
        (λ n c. same_variable types f w.state (with_new (variable_local a u) w.state) n (front_append w.state.variables (length w.state.locals ∷ [])) (omega (arith, h.visible n c, h.count, ap length made.hands.grown.variables)))
        (one_new a v.visible types texts fs f setting s (with_code (w.state.code ++ made.comes.code u.place (length w.state.locals)) (with_new (variable_local a u) w.state)) (length w.state.locals) h.stands.opened made.hands.grown.count
        (omega (arith, length-append w.state.locals (variable_local a u ∷ []))))))

    -- ---- an object

    -- a value is computed before it lives
    valued_does : (t : Ty) → slice_get a.program.types.types u.ty.0 ≡ Some t → is_value t ≡ true → (w : Gives ℕ) → Makes types texts fs f None s w (a_number types texts fs f t)
        → Born (emit u.place (Save (object_named (length w.state.locals)) w.given) (emit u.place (Live (length w.state.locals) Plain) (with_new (variable_local a u) w.state)))
    valued_does t is worth w made =
        let x = length w.state.locals in
        let lives = Acts u.place (Live x Plain) ∷ [] in
        let saves = Acts u.place (Save (object_named x) w.given) ∷ [] in
        let value = ap is_value (type_is t is) ∙ worth in
        let typed : Makes types texts fs f None s w (a_number types texts fs f (type_of a u.ty)) = subst (λ (x : Ty). Makes types texts fs f None s w (a_number types texts fs f x)) (sym (type_is t is)) made in
        subst (λ (c : List Tree). Born (with_code c (with_new (variable_local a u) w.state)))
        (sym (append_assoc w.state.code lives saves))
        (declared_does types texts fs f a setting.front v in_loop can last u s w (a_number types texts fs f (type_of a u.ty)) (lives ++ saves) h at built typed
        (λ b q.
        fine_append types texts fs f lives saves
        (fine_acts types texts fs f u.place (Live x Plain) (live_fine w.state (value_lives a types texts fs f setting.front u w.state b value)))
        (fine_acts types texts fs f u.place (Save (object_named x) w.given) (value_saved a types texts fs f setting.front u w.state b value w.given q)))
        (λ b k size q blank. saved_falls types f u.place x w.given k (omega (arith, size, below w.state made.grown b)) blank q.0 q.1)
        (λ b q k alive r blank. new_none f (variable_local a u) w.state))

    -- ---- what one instruction brings to life: a call, a pointer, a reference

    filled_does : {A : Type 0} (place : Place) (w : Gives A) (Q : Gift types texts fs f A) (step : A → Location → Step) → Makes types texts fs f None s w Q
        → (New w.state → Q.typed w.given → IsFineStep types texts fs f (step w.given (whole (length w.state.locals))))
        → (New w.state → (k : List Known) → Q.ready w.given (length w.state.locals) k → known_at k (length w.state.locals) ≡ known.Blank → Fills f k (step w.given (whole (length w.state.locals))) (length w.state.locals))
        → Born (emit place (step w.given (whole (length w.state.locals))) (with_new (variable_local a u) w.state))
    filled_does place w Q step made fits fills =
        let x = length w.state.locals in
        declared_does types texts fs f a setting.front v in_loop can last u s w Q (Acts place (step w.given (whole x)) ∷ []) h at built made
        (λ b q. fine_acts types texts fs f place (step w.given (whole x)) (fits b q))
        (λ b k size q blank. falls_filling types f place (step w.given (whole x)) x k (fills b k q blank))
        (λ b q k alive r blank.
        new_then f (variable_local a u) w.state (looked_of (trees (Acts place (step w.given (whole x)) ∷ []))) (given_of (trees (Acts place (step w.given (whole x)) ∷ [])))
        (step_apart f types (step w.given (whole x)) place w.state k alive (fills b k r blank).ready
        (and_parts (list_all (is_no_object types f) (given_step (step w.given (whole x)))) (step_keeps f (step w.given (whole x))) (fits b q).given).0))

    -- a call, where it gives the variable's type
    called_does : (t : Ty) → slice_get a.program.types.types u.ty.0 ≡ Some t → is_value t ≡ true → (g : ℕ) (of : FunctionForm) (place : Place) → slice_get a.program.functions g ≡ Some of
        → ty_of types of.result ≡ type_of a u.ty → (w : Gives (List Argument)) → Hands types texts fs f (parameter_types (Some of)) s w
        → Born (emit place (called g w.given (whole (length w.state.locals))) (with_new (variable_local a u) w.state))
    called_does t is worth g of place there same w hands =
        let x = length w.state.locals in
        let callee = setting.callees g of there in
        handed_declared types texts fs f a setting.front v in_loop can last u s w (all_handed types texts fs f (parameter_types (Some of))) (Acts place (called g w.given (whole x)) ∷ []) h at built (flat_map given_argument w.given) hands
        (λ b q.
        born_fine types texts fs f g of callee s w hands x place q
        (ap (λ (r : Ty). goes_to types texts fs f r (Some (whole x))) same ∙ value_goes a types texts fs f setting.front u w.state b (ap is_value (type_is t is) ∙ worth)))
        (λ b r k size q blank born. born_falls types texts fs f g of callee s w hands x place r k q blank born (λ m. let lt = hands.below x m in omega (arith, lt)))
        [] (born_named types texts fs f g of callee s w hands x place)
        (λ b q k alive r blank under.
        subst (λ (xs : List ℕ). AreApart f w.state (with_new (variable_local a u) w.state) xs []) (sym (born_looks types texts fs f g of callee s w hands x place k r)) (new_none f (variable_local a u) w.state under))

    -- a call that gives a pointer
    called_pointer_does : (t : Ty) → is_location t ≡ true → slice_get a.program.types.types u.ty.0 ≡ Some t → (source : ExprType) (place : Place) (w : Gives Pointing) → IsPointedCall types texts fs f source s w → takes_from types t source ≡ true
        → Born (emit place (pointed w.given (whole (length w.state.locals))) (with_new (variable_local a u) w.state))
    called_pointer_does t loc is source place w c taken =
        let g = c.given in
        let x = length g.state.locals in
        subst (λ (q : Gives Pointing). Born (emit place (pointed q.given (whole (length q.state.locals))) (with_new (variable_local a u) q.state))) (sym c.is)
        (handed_declared types texts fs f a setting.front v in_loop can last u s g (all_handed types texts fs f (parameter_types (Some c.of))) (Acts place (called c.function g.given (whole x)) ∷ []) h at built (flat_map given_argument g.given) c.hands
        (λ b q. born_fine types texts fs f c.function c.of c.callee s g c.hands x place q (c.goes t (whole x) (location_declared a types texts fs f setting.front u g.state b t loc is).typed (inr taken)))
        (λ b r k size q blank born. born_falls types texts fs f c.function c.of c.callee s g c.hands x place r k q blank born (λ m. let lt = c.hands.below x m in omega (arith, lt)))
        [] (born_named types texts fs f c.function c.of c.callee s g c.hands x place)
        (λ b q k alive r blank under.
        subst (λ (xs : List ℕ). AreApart f g.state (with_new (variable_local a u) g.state) xs []) (sym (born_looks types texts fs f c.function c.of c.callee s g c.hands x place k r)) (new_none f (variable_local a u) g.state under)))

    -- whatever gives it that
    aimed_pointer_does : (t : Ty) → is_location t ≡ true → slice_get a.program.types.types u.ty.0 ≡ Some t → (source : ExprType) (place : Place) (w : Gives Pointing) → GivesPointer types texts fs f source s w → takes_from types t source ≡ true
        → Born (emit place (pointed w.given (whole (length w.state.locals))) (with_new (variable_local a u) w.state))
    aimed_pointer_does t loc is source place w (gives_called c) taken = called_pointer_does t loc is source place w c taken
    aimed_pointer_does t loc is source place w (gives_plainly made) taken =
        filled_does place w (a_pointing types texts fs f source) (λ p l. pointed p l) made
        (λ b q. pointed_fine types texts fs f (whole (length w.state.locals)) t source w.given loc (location_declared a types texts fs f setting.front u w.state b t loc is).typed taken q)
        (λ b k q blank. pointed_fills f (length w.state.locals) (length w.state.locals) w.given k q (location_declared a types texts fs f setting.front u w.state b t loc is).kept)

    -- ---- a reference

    -- what would be built where it isn't a place of the type
    abbrev kept_object : Typed → Place → TyId → Gives Remaining
    kept_object e behind target =
        giving.given (uses a (whole_form e)) (type_of a target) behind s >> λ rest s. rest (scoped e.place (type_of a target)) s >> λ x s. gives (aimed_at e.place (object_named x)) s

    abbrev Bound : Typed → Place → TyId → Bool → State
    Bound e behind target constant = (initial a scoped (uses a (whole_form e)) (ty.Reference target constant) behind s >> λ rest s. rest (home a u) s).state

    abbrev bound_by : Typed → Place → TyId → Bool → State
    bound_by e behind target c = (cond c (mapped (aimed_at e.place) ((uses a (whole_form e)).at s)) (kept_object e behind target) >> λ rest s. rest (home a u) s).state

    -- at a place that is written first
    aimed_does : (e : Typed) (behind : Place) (target : TyId) (constant held : Bool) → slice_get a.program.types.types u.ty.0 ≡ Some (ty.Reference target constant) → is_target a.program.types (type_at a.program.types target) ≡ true
        → is_place_of e.category target ≡ true → keeps_const constant held ≡ true → Makes types texts fs f None s ((uses a (whole_form e)).at s) (a_place types texts fs f (type_at a.program.types target) held) → Born (Bound e behind target constant)
    aimed_does e behind target constant held is wide here kept made =
        let w = (uses a (whole_form e)).at s in
        subst (λ (c : Bool). Born (bound_by e behind target c)) (sym here)
        (filled_does e.place w (a_place types texts fs f (type_at a.program.types target) held) (λ o l. pointed (aimed (Aimed o)) l) made
        (λ b q. record {
          given = refl;
          formed =
              ap (λ (t : Ty). is_source_of types texts fs f t (Aimed w.given)) (reference_declared a types texts fs f setting.front u w.state b target constant is wide)
              ∙ bound_given a types texts fs f setting.front target constant held w.given wide kept q;
        })
        (λ b k q blank. filling_fills f (λ p. Aim p (Aimed w.given)) (length w.state.locals) k (aimed_filling f w.given (length w.state.locals) k q) (length w.state.locals) (reference_kept a types texts fs f setting.front u w.state b target constant is wide)))

    -- .. to an owner or a struct, which may be built for it
    alias_does : (e : Typed) (behind : Place) (target : TyId) (constant : Bool) → slice_get a.program.types.types u.ty.0 ≡ Some (ty.Reference target constant) → is_target a.program.types (type_at a.program.types target) ≡ true
        → IsBuilt a.program.types (type_at a.program.types target) → IsAliased a v.visible types texts fs f setting (uses a (whole_form e)) target constant → Born (Bound e behind target constant)
    alias_does e behind target constant is wide o (to_place held here kept names) = aimed_does e behind target constant held is wide here kept (names s h.stands)
    alias_does e behind target constant is wide o (to_built none made) =
        let w = giving.given (uses a (whole_form e)) (type_of a target) behind s in
        let built_here = made behind s h.stands in
        subst (λ (c : Bool). Born (bound_by e behind target c)) (sym none)
        (subst (λ (g : Gives ℕ). Born (g >> λ x s. gives (aimed_at e.place (object_named x)) s >> λ rest s. rest (home a u) s).state) (sym (built_here.lives (scoped e.place (type_of a target)) w.state))
        (bound_owner_does a types texts fs f setting v in_loop last u s h at built target constant is wide o e.place w built_here))

    -- ---- built variable that is given one expression

    module _ (e : Typed) (b : is_read_expression texts a.program e ≡ true) (he : Whole e) (behind : Place) where
      whole_is : IsWhole a v.visible types texts fs f setting (whole_form e)
      whole_is = whole_expression a v.visible types texts fs f setting (whole_form e) b he

      abbrev GivenOne : Ty → State
      GivenOne t = (initial a scoped (uses a (whole_form e)) t behind s >> λ rest s. rest (home a u) s).state

      module _ (t : Ty) (is : slice_get a.program.types.types u.ty.0 ≡ Some t) (worth : is_value t ≡ true) (n : is_number e.ty ≡ true) where
        -- with the call that it is
        abbrev By : Option Called → State
        By o = (value_by (calling a o) e.place (value (uses a (whole_form e)) behind t None) s >> λ rest s. rest (home a u) s).state

        by_value_does : Born (By None)
        by_value_does = valued_does t is worth (value (uses a (whole_form e)) behind t None s) (whole_is.valued n behind t worth None s tt h.stands)

        by_call_does : (c : Called) → form_call e.form ≡ Some c → compared.eq (own_type e.ty) t ≡ true → not (is_place e.category) ≡ true → Born (By (Some c))
        by_call_does c found same plain =
            let k = whole_is.calls c found in
            called_does t is worth c.function k.of e.place k.there
            (result_later a v.visible types texts fs f setting c.function k.of k.there ∙ answer_own a.program.types (type_at a.program.types k.of.result) e.ty e.category k.answers plain ∙ same_types (own_type e.ty) t same ∙ sym (type_is t is))
            (giving.arguments a (all_uses a c.arguments) c.delimiters (around.parameter_types a c.function) s) (k.hands s h.stands)

        -- a call is one where it needs no conversion and gives no reference
        chosen_does : Born (By (call_for e t))
        chosen_does = go (compared.eq (own_type e.ty) t) refl (not (is_place e.category)) refl
          where
            found : (o : Option Called) → form_call e.form ≡ o → compared.eq (own_type e.ty) t ≡ true → not (is_place e.category) ≡ true → Born (By o)
            found None at same plain = by_value_does
            found (Some c) at same plain = by_call_does c at same plain

            go : (b : Bool) → compared.eq (own_type e.ty) t ≡ b → (c : Bool) → not (is_place e.category) ≡ c → Born (By (cond (b && c) (form_call e.form) None))
            go true same true plain = found (form_call e.form) refl same plain
            go true same false plain = by_value_does
            go false same c plain = by_value_does

        object_does : Born (GivenOne t)
        object_does =
            subst Born (sym (by_values (λ x. (initial a scoped (uses a (whole_form e)) x behind s >> λ rest s. rest (home a u) s).state ≡ (value_by (call_to (uses a (whole_form e)) x) e.place (value (uses a (whole_form e)) behind x None) s >> λ rest s. rest (home a u) s).state) refl refl refl refl refl t worth))
            (subst (λ (o : Option (State → Gives (Location → Step))). Born (value_by o e.place (value (uses a (whole_form e)) behind t None) s >> λ rest s. rest (home a u) s).state) (sym (call_for_seen a e t)) chosen_does)

      pointer_does : (t : Ty) → is_location t ≡ true → slice_get a.program.types.types u.ty.0 ≡ Some t → is_pointed e.ty ≡ true → takes_from types t e.ty ≡ true
          → Born (emit e.place (pointed (pointing (uses a (whole_form e)) s).given (whole (length (pointing (uses a (whole_form e)) s).state.locals))) (with_new (variable_local a u) (pointing (uses a (whole_form e)) s).state))
      pointer_does t loc is pointed_one taken =
          aimed_pointer_does t loc is e.ty e.place (pointing (uses a (whole_form e)) s) (points_whole a v.visible types texts fs f setting (whole_form e) whole_is pointed_one s h.stands) taken

      raw_does : (target : TyId) (constant : Bool) → slice_get a.program.types.types u.ty.0 ≡ Some (ty.Raw target constant) → is_target a.program.types (type_at a.program.types target) ≡ true → is_given a.program.types (ty.Raw target constant) e ≡ true
          → Born (GivenOne (ty.Raw target constant))
      raw_does target constant is worth given =
          pointer_does (ty.Raw target constant) refl is (given_pointer a.program.types (ty.Raw target constant) e refl given) (given_raw a.program.types types setting.front target constant worth e given)

      view_does : slice_get a.program.types.types u.ty.0 ≡ Some ty.View → is_given a.program.types ty.View e ≡ true → Born (GivenOne ty.View)
      view_does is given =
          let seen = seen_kind a.program.types e whole_is.kind.kind (given_view a.program.types e given) in
          pointer_does ty.View refl is (seen_pointed e.ty seen) (given_seen types e.ty seen)

      reference_does : (target : TyId) (constant : Bool) → slice_get a.program.types.types u.ty.0 ≡ Some (ty.Reference target constant) → is_value (type_at a.program.types target) ≡ true → IsBoundTo target constant e.category
          → Born (GivenOne (ty.Reference target constant))
      reference_does target constant is worth bound =
          aimed_does e behind target constant bound.held is (value_target a.program.types (type_at a.program.types target) worth) bound.here bound.kept (whole_is.names target bound.held bound.place worth s h.stands)

      text_does : (t : Ty) → slice_get a.program.types.types u.ty.0 ≡ Some t → is_owner_of_values a.program.types t ≡ true → is_given a.program.types t e ≡ true → Born (GivenOne t)
      text_does t is o given =
          subst Born (sym (by_string t o))
          (builds_does t is (moved_kind a v.visible types texts fs f setting t (owner_moves a.program.types t o)) (moved_plain a v.visible types texts fs f setting t (owner_moves a.program.types t o)) (giving.given (uses a (whole_form e)) t behind s)
          (value_builds a v.visible types texts fs f setting (whole_form e) whole_is t o given behind s h.stands))
        where
          by_string : (t : Ty) → is_owner_of_values a.program.types t ≡ true → GivenOne t ≡ (giving.given (uses a (whole_form e)) t behind s >> λ rest s. rest (home a u) s).state
          by_string = by_owners a.program.types _ refl (λ item. refl)

      one_does : takes_value (type_of a u.ty) ≡ true → is_given a.program.types (type_of a u.ty) e ≡ true → Born (GivenOne (type_of a u.ty))
      one_does plain given = go (variable_type a.program.types u.ty built)
        where
          as_given : (t : Ty) → slice_get a.program.types.types u.ty.0 ≡ Some t → is_given a.program.types t e ≡ true
          as_given t is = subst (λ (x : Ty). is_given a.program.types x e ≡ true) (type_is t is) given

          as_type : (t : Ty) → slice_get a.program.types.types u.ty.0 ≡ Some t → Born (GivenOne t) → Born (GivenOne (type_of a u.ty))
          as_type t is born = subst (λ (x : Ty). Born (GivenOne x)) (sym (type_is t is)) born

          go : IsVariableType a.program.types u.ty → Born (GivenOne (type_of a u.ty))
          go (a_value t is w) = as_type t is (object_does t is w (given_number a.program.types t e w (as_given t is)))
          go (a_raw target constant is w) = as_type (ty.Raw target constant) is (raw_does target constant is w (as_given (ty.Raw target constant) is))
          go (a_view is) = as_type ty.View is (view_does is (as_given ty.View is))
          go (a_walker t is w) =
              let seen = walker_is a.program.types t w in
              absurd (false≢true (sym (ap takes_value (type_is t is) ∙ ap (λ (b : Bool). not (b || is_struct t)) seen.walker) ∙ plain))
          -- a literal, of which a string is built
          go (an_owner t is o) = as_type t is (text_does t is o (as_given t is))
          -- nullptr
          go (a_unique target is w) =
              as_type (ty.Unique target) is
              (builds_does (ty.Unique target) is refl refl (giving.given (uses a (whole_form e)) (ty.Unique target) behind s) (null_builds a v.visible types texts fs f setting (whole_form e) whole_is target (as_given (ty.Unique target) is) behind s h.stands))
          go (a_struct number is) = absurd (false≢true (sym (ap takes_value (type_is (ty.Struct number) is)) ∙ plain))
          go (a_struct_alias target constant number is structure pointless) =
              absurd (kind_no_struct a.program.types e whole_is.kind.kind (struct_alone a.program.types target constant number e structure (struct_target a.program.types (type_at a.program.types target) pointless) (as_given (ty.Reference target constant) is) (λ held. whole_is.kind.place target held)))
          go (an_alias target constant is o) =
              as_type (ty.Reference target constant) is
              (alias_does e behind target constant is (owner_target a.program.types (type_at a.program.types target) o) (inl o) (whole_aliased a v.visible types texts fs f setting (whole_form e) target constant o (as_given (ty.Reference target constant) is) whole_is))
          go (a_reference target constant is w) = as_type (ty.Reference target constant) is (bound (given_bound a.program.types target constant e (value_target a.program.types (type_at a.program.types target) w) (as_given (ty.Reference target constant) is)))
            where
              bound : IsBound a.program.types target constant e → Born (GivenOne (ty.Reference target constant))
              bound (at_place there) = reference_does target constant is w there
              bound (by_temporary none initial) =
                  temporary_does a types texts fs f setting v in_loop last u s h at built target constant is w e whole_is (given_number a.program.types (type_at a.program.types target) e w initial) behind none

    -- ---- an owner, or a view of one

    module _ (e : Typed) (he : Whole e) (behind : Place) where
      abbrev GivenThis : Ty → State
      GivenThis t = (initial a scoped (uses a (whole_form e)) t behind s >> λ rest s. rest (home a u) s).state

      by_moved : (t : Ty) → is_owner t ≡ true → GivenThis t ≡ (object_by (uses a (whole_form e)).category (uses a (whole_form e)).at (uses a (whole_form e)).object s >> λ rest s. rest (home a u) s).state
      by_moved ty.Text o = refl
      by_moved (ty.Vector item) o = refl
      by_moved (ty.Unique target) o = refl
      by_moved _ o = absurd (false≢true o)

      by_owner : (t : Ty) → is_owner_of_values a.program.types t ≡ true → GivenThis t ≡ (object_by (uses a (whole_form e)).category (uses a (whole_form e)).at (uses a (whole_form e)).object s >> λ rest s. rest (home a u) s).state
      by_owner = by_owners a.program.types _ refl (λ item. refl)

      -- a pointer, as what gives it something of a type
      shown_does : (t : Ty) → is_location t ≡ true → slice_get a.program.types.types u.ty.0 ≡ Some t → (source : ExprType) → Makes types texts fs f None s (pointing (uses a (whole_form e)) s) (a_pointing types texts fs f source) → takes_from types t source ≡ true
          → Born (emit e.place (pointed (pointing (uses a (whole_form e)) s).given (whole (length (pointing (uses a (whole_form e)) s).state.locals))) (with_new (variable_local a u) (pointing (uses a (whole_form e)) s).state))
      shown_does t loc is source made taken = aimed_pointer_does t loc is source e.place (pointing (uses a (whole_form e)) s) (gives_plainly made) taken

      -- a copy
      module _ (from : IsObject a v.visible types texts fs f setting (whole_form e)) where
        copied_does : (t : Ty) → slice_get a.program.types.types u.ty.0 ≡ Some t → is_owner_of_values a.program.types t ≡ true → is_given a.program.types t e ≡ true → Born (GivenThis t)
        copied_does t is o given =
            let w = (uses a (whole_form e)).at s in
            let one : from.ty ≡ t = given_owner a.program.types t from.ty e o from.owner from.is given in
            let made = subst (λ (x : Ty). Makes types texts fs f None s w (a_place types texts fs f x from.constant)) one (from.names s h.stands) in
            subst Born (sym (by_owner t o ∙ ap (λ (c : Category). (object_by c (uses a (whole_form e)).at (uses a (whole_form e)).object s >> λ rest s. rest (home a u) s).state) from.place))
            (lives_then a types texts fs f setting v in_loop last u s h at built u.place w (a_place types texts fs f t from.constant) made (λ x. Copy (object_named x) w.given) (place_uses w.given) (λ x. refl)
            (λ n k q. place_held w.given n k q) (λ x. refl)
            (λ b. owner_lives a types texts fs f setting.front u w.state b t is o)
            (λ b q. let at = owner_declared a types texts fs f setting.front u w.state b t is o in copy_fine types texts fs f a.program.types t (object_named (length w.state.locals)) w.given o at.typed at.held q.typed))

      -- one that is made, where the variable has come to life
      made_does : (t : Ty) → slice_get a.program.types.types u.ty.0 ≡ Some t → is_owner_of_values a.program.types t ≡ true → is_given a.program.types t e ≡ true → IsMade a v.visible types texts fs f setting (whole_form e) → Born (GivenThis t)
      made_does t is o given from =
          let w = (uses a (whole_form e)).object s in
          let one : from.ty ≡ t = given_owner a.program.types t from.ty e o from.owner from.is given in
          subst Born (sym (by_owner t o ∙ ap (λ (c : Category). (object_by c (uses a (whole_form e)).at (uses a (whole_form e)).object s >> λ rest s. rest (home a u) s).state) from.value))
          (builds_does t is (moved_kind a v.visible types texts fs f setting t (owner_moves a.program.types t o)) (moved_plain a v.visible types texts fs f setting t (owner_moves a.program.types t o)) w (subst (λ (x : Ty). Builds a v.visible types texts fs f setting x s w) one (from.builds s h.stands)))

      module _ (from : IsOwner a v.visible types texts fs f setting (whole_form e)) where
        -- a view of the whole
        string_view_does : slice_get a.program.types.types u.ty.0 ≡ Some ty.View → is_given a.program.types ty.View e ≡ true → Born (GivenThis ty.View)
        string_view_does is given = shown_does ty.View refl is (Of ty.View) (string_points a v.visible types texts fs f setting (whole_form e) from (given_string a.program.types from.ty e from.owner from.is given) s h.stands) refl

        -- a span of the whole
        span_does : (item : TyId) (constant : Bool) → is_element a.program.types (type_at a.program.types item) ≡ true → slice_get a.program.types.types u.ty.0 ≡ Some (ty.Span item constant) → is_given a.program.types (ty.Span item constant) e ≡ true → Born (GivenThis (ty.Span item constant))
        span_does item constant worth is given =
            let to = given_vector a.program.types item constant from.constant from.ty e from.owner from.is from.told given in
            shown_does (ty.Span item constant) refl is (Of (ty.Span item constant)) (vector_points a v.visible types texts fs f setting (whole_form e) from item constant to.is to.kept s h.stands)
            (and_from (same (ty_of types item) (ty_of types item)) (keeps_const constant constant) (one_element a.program.types types setting.front item worth) (keeps_itself constant))

      -- another iterator or span
      walker_does : IsWalker a v.visible types texts fs f setting (whole_form e) → (t : Ty) → slice_get a.program.types.types u.ty.0 ≡ Some t → is_walker_of_values a.program.types t ≡ true → is_given a.program.types t e ≡ true → Born (GivenThis t)
      walker_does from t is w given = go t is w (given_walker a.program.types types setting.front t from.ty e w from.walker from.is given)
        where
          made : GivesPointer types texts fs f (Of from.ty) s (pointing (uses a (whole_form e)) s)
          made = walker_points a v.visible types texts fs f setting (whole_form e) from s h.stands

          go : (t : Ty) → slice_get a.program.types.types u.ty.0 ≡ Some t → is_walker_of_values a.program.types t ≡ true → takes types t from.ty ≡ true → Born (GivenThis t)
          go (ty.Iterator item constant) is w taken = aimed_pointer_does (ty.Iterator item constant) refl is (Of from.ty) e.place (pointing (uses a (whole_form e)) s) made taken
          go (ty.Span item constant) is w taken = aimed_pointer_does (ty.Span item constant) refl is (Of from.ty) e.place (pointing (uses a (whole_form e)) s) made taken
          go _ is w taken = absurd (false≢true w)

      -- ---- a unique_ptr

      -- one that is made anew, moved or given, where the variable has come to life
      fresh_does : (target : TyId) → slice_get a.program.types.types u.ty.0 ≡ Some (ty.Unique target) → is_element a.program.types (type_at a.program.types target) ≡ true → is_given a.program.types (ty.Unique target) e ≡ true → IsFresh a v.visible types texts fs f setting (whole_form e)
          → Born (GivenThis (ty.Unique target))
      fresh_does target is worth given from =
          subst Born (sym (by_moved (ty.Unique target) refl ∙ ap (λ (c : Category). (object_by c (uses a (whole_form e)).at (uses a (whole_form e)).object s >> λ rest s. rest (home a u) s).state) from.value))
          (builds_does (ty.Unique target) is refl refl ((uses a (whole_form e)).object s) (from.builds target worth given s h.stands))

    owned_does : (e : Typed) → (he : Whole e) → (behind : Place) → is_read_owned texts a.program (type_of a u.ty) e ≡ true → is_given a.program.types (type_of a u.ty) e ≡ true → Born (GivenThis e he behind (type_of a u.ty))
    owned_does e he behind b given = elim (or_cases (takes_owner (type_of a u.ty) && is_read_owning texts a.program e) _ b) [
      | inl owner ↦
          let one = and_parts (takes_owner (type_of a u.ty)) (is_owner_type e.ty && is_read_owner texts a.program (whole_form e)) owner in
          let two = and_parts (is_owner_type e.ty) (is_read_owner texts a.program (whole_form e)) one.1 in
          given_owner_does one.0 (owner_expression a v.visible types texts fs f setting (whole_form e) two.1 two.0 he) (variable_type a.program.types u.ty built)
      | inr others ↦ elim (or_cases (is_walker (type_of a u.ty) && is_read_walker texts a.program (whole_form e)) _ others) [
        | inl walks ↦
            let one = and_parts (is_walker (type_of a u.ty)) (is_read_walker texts a.program (whole_form e)) walks in
            given_walker_does one.0 (walker_expression a v.visible types texts fs f setting (whole_form e) one.1 he) (variable_type a.program.types u.ty built)
        | inr others ↦ elim (or_cases (is_unique (type_of a u.ty) && is_read_fresh texts a.program (whole_form e)) (takes_struct (type_of a u.ty) && is_read_struct texts a.program (whole_form e)) others) [
          | inl fills ↦
              let one = and_parts (is_unique (type_of a u.ty)) (is_read_fresh texts a.program (whole_form e)) fills in
              given_unique_does one.0 (variable_type a.program.types u.ty built)
              (λ target is w. fresh_does e he behind target is w (as_given (ty.Unique target) is) (fresh_expression a v.visible types texts fs f setting (whole_form e) one.1 he))
          | inr structure ↦
              let one = and_parts (takes_struct (type_of a u.ty)) (is_read_struct texts a.program (whole_form e)) structure in
              given_struct_does one.0 (struct_expression a v.visible types texts fs f setting (whole_form e) one.1 he) (variable_type a.program.types u.ty built)
        ]
      ]
    ]
      where
        as_type : (t : Ty) → slice_get a.program.types.types u.ty.0 ≡ Some t → Born (GivenThis e he behind t) → Born (GivenThis e he behind (type_of a u.ty))
        as_type t is born = subst (λ (x : Ty). Born (GivenThis e he behind x)) (sym (type_is t is)) born

        as_given : (t : Ty) → slice_get a.program.types.types u.ty.0 ≡ Some t → is_given a.program.types t e ≡ true
        as_given t is = subst (λ (x : Ty). is_given a.program.types x e ≡ true) (type_is t is) given

        -- it is an owner or a view
        refused : (t : Ty) → slice_get a.program.types.types u.ty.0 ≡ Some t → takes_owner t ≡ false → takes_owner (type_of a u.ty) ≡ true → Born (GivenThis e he behind (type_of a u.ty))
        refused t is none p = absurd (false≢true (sym (ap takes_owner (type_is t is) ∙ none) ∙ p))

        given_owner_does : takes_owner (type_of a u.ty) ≡ true → IsOwning a v.visible types texts fs f setting (whole_form e) → IsVariableType a.program.types u.ty → Born (GivenThis e he behind (type_of a u.ty))
        given_owner_does p from (a_value t is w) = refused t is (by_values (λ t. takes_owner t ≡ false) refl refl refl refl refl t w) p
        given_owner_does p from (a_raw target constant is w) = refused (ty.Raw target constant) is refl p
        given_owner_does p from (a_reference target constant is w) = absurd (value_reference_refused a v.visible types texts fs f setting (whole_form e) target constant w (as_given (ty.Reference target constant) is) from)
        given_owner_does p from (an_alias target constant is o) =
            as_type (ty.Reference target constant) is
            (alias_does e behind target constant is (owner_target a.program.types (type_at a.program.types target) o) (inl o) (owning_aliased a v.visible types texts fs f setting (whole_form e) target constant o (as_given (ty.Reference target constant) is) from))
        given_owner_does p from (a_view is) = as_type ty.View is (string_view_does e he behind (owning_owner a v.visible types texts fs f setting (whole_form e) from) is (as_given ty.View is))
        given_owner_does p from (a_unique target is w) = refused (ty.Unique target) is refl p
        given_owner_does p from (a_struct number is) = refused (ty.Struct number) is refl p
        given_owner_does p from (a_struct_alias target constant number is structure pointless) =
            absurd (struct_reference_refused a v.visible types texts fs f setting (whole_form e) target constant number structure (struct_target a.program.types (type_at a.program.types target) pointless) (as_given (ty.Reference target constant) is) from)
        given_owner_does p from (a_walker (ty.Iterator item constant) is w) = refused (ty.Iterator item constant) is refl p
        given_owner_does p from (a_walker (ty.Span item constant) is w) = as_type (ty.Span item constant) is (span_does e he behind (owning_owner a v.visible types texts fs f setting (whole_form e) from) item constant w is (as_given (ty.Span item constant) is))
        given_owner_does p from (a_walker _ is w) = absurd (false≢true w)
        given_owner_does p (stands_there from) (an_owner t is o) = as_type t is (copied_does e he behind from t is o (as_given t is))
        given_owner_does p (is_made from) (an_owner t is o) = as_type t is (made_does e he behind t is o (as_given t is) from)

        no_walker : (t : Ty) → slice_get a.program.types.types u.ty.0 ≡ Some t → is_walker t ≡ false → is_walker (type_of a u.ty) ≡ true → Born (GivenThis e he behind (type_of a u.ty))
        no_walker t is none p = absurd (false≢true (sym (ap is_walker (type_is t is) ∙ none) ∙ p))

        given_walker_does : is_walker (type_of a u.ty) ≡ true → IsWalker a v.visible types texts fs f setting (whole_form e) → IsVariableType a.program.types u.ty → Born (GivenThis e he behind (type_of a u.ty))
        given_walker_does p from (a_value t is w) = no_walker t is (value_no_walker t w) p
        given_walker_does p from (a_raw target constant is w) = no_walker (ty.Raw target constant) is refl p
        given_walker_does p from (a_reference target constant is w) = no_walker (ty.Reference target constant) is refl p
        given_walker_does p from (an_alias target constant is o) = no_walker (ty.Reference target constant) is refl p
        given_walker_does p from (a_view is) = no_walker ty.View is refl p
        given_walker_does p from (a_unique target is w) = no_walker (ty.Unique target) is refl p
        given_walker_does p from (a_struct number is) = no_walker (ty.Struct number) is refl p
        given_walker_does p from (a_struct_alias target constant number is structure pointless) = no_walker (ty.Reference target constant) is refl p
        given_walker_does p from (an_owner t is o) = no_walker t is (owner_no_walker a.program.types t o) p
        given_walker_does p from (a_walker t is w) = as_type t is (walker_does e he behind from t is w (as_given t is))

        no_unique : (t : Ty) → slice_get a.program.types.types u.ty.0 ≡ Some t → is_unique t ≡ false → is_unique (type_of a u.ty) ≡ true → Born (GivenThis e he behind (type_of a u.ty))
        no_unique t is none p = absurd (false≢true (sym (ap is_unique (type_is t is) ∙ none) ∙ p))

        given_unique_does : is_unique (type_of a u.ty) ≡ true → IsVariableType a.program.types u.ty
            → ((target : TyId) → slice_get a.program.types.types u.ty.0 ≡ Some (ty.Unique target) → is_element a.program.types (type_at a.program.types target) ≡ true → Born (GivenThis e he behind (ty.Unique target))) → Born (GivenThis e he behind (type_of a u.ty))
        given_unique_does p (a_value t is w) does = no_unique t is (value_simple t w).unique p
        given_unique_does p (a_raw target constant is w) does = no_unique (ty.Raw target constant) is refl p
        given_unique_does p (a_reference target constant is w) does = no_unique (ty.Reference target constant) is refl p
        given_unique_does p (an_alias target constant is o) does = no_unique (ty.Reference target constant) is refl p
        given_unique_does p (a_view is) does = no_unique ty.View is refl p
        given_unique_does p (a_walker t is w) does = no_unique t is (walker_no_unique a.program.types t w) p
        given_unique_does p (an_owner t is o) does = no_unique t is (owner_no_unique a.program.types t o) p
        given_unique_does p (a_struct number is) does = no_unique (ty.Struct number) is refl p
        given_unique_does p (a_struct_alias target constant number is structure pointless) does = no_unique (ty.Reference target constant) is refl p
        given_unique_does p (a_unique target is w) does = as_type (ty.Unique target) is (does target is w)

        no_struct : (t : Ty) → slice_get a.program.types.types u.ty.0 ≡ Some t → takes_struct t ≡ false → takes_struct (type_of a u.ty) ≡ true → Born (GivenThis e he behind (type_of a u.ty))
        no_struct t is none p = absurd (false≢true (sym (ap takes_struct (type_is t is) ∙ none) ∙ p))

        -- which a reference is to, if any
        aliased : IsAnyStruct a v.visible types texts fs f setting (whole_form e) → (target : TyId) (constant : Bool) → slice_get a.program.types.types u.ty.0 ≡ Some (ty.Reference target constant) → is_target a.program.types (type_at a.program.types target) ≡ true
            → IsStructAlias a v.visible types texts fs f setting (whole_form e) target constant
        aliased from target constant is wide = struct_aliased a v.visible types texts fs f setting (whole_form e) target constant from wide (as_given (ty.Reference target constant) is)

        given_struct_does : takes_struct (type_of a u.ty) ≡ true → IsAnyStruct a v.visible types texts fs f setting (whole_form e) → IsVariableType a.program.types u.ty → Born (GivenThis e he behind (type_of a u.ty))
        given_struct_does p from (a_value t is w) = no_struct t is (by_values (λ t. takes_struct t ≡ false) refl refl refl refl refl t w) p
        given_struct_does p from (a_raw target constant is w) = no_struct (ty.Raw target constant) is refl p
        given_struct_does p from (a_reference target constant is w) = absurd (false≢true (sym (ap is_value (aliased from target constant is (value_target a.program.types (type_at a.program.types target) w)).structure) ∙ w))
        given_struct_does p from (an_alias target constant is o) =
            absurd (false≢true (sym (ap (is_owner_of_values a.program.types) (aliased from target constant is (owner_target a.program.types (type_at a.program.types target) o)).structure) ∙ o))
        given_struct_does p from (a_struct_alias target constant number is structure pointless) =
            let wide = struct_target a.program.types (type_at a.program.types target) pointless in
            as_type (ty.Reference target constant) is (alias_does e behind target constant is wide (struct_built a.program.types target number structure) (aliased from target constant is wide).aliased)
        given_struct_does p from (a_view is) = no_struct ty.View is refl p
        given_struct_does p from (a_walker t is w) = no_struct t is (by_walkers a.program.types (λ t. takes_struct t ≡ false) (λ item constant. refl) (λ item constant. refl) t w) p
        given_struct_does p from (an_owner t is o) = no_struct t is (by_owners a.program.types (λ t. takes_struct t ≡ false) refl (λ item. refl) t o) p
        given_struct_does p from (a_unique target is w) = no_struct (ty.Unique target) is refl p
        given_struct_does p from (a_struct number is) =
            let of = as_struct a v.visible types texts fs f setting (whole_form e) number from (as_given (ty.Struct number) is) in
            as_type (ty.Struct number) is (builds_does (ty.Struct number) is refl refl (giving.given (uses a (whole_form e)) (ty.Struct number) behind s) (of.builds behind s h.stands))

    -- ---- built variable

    -- a view or a span sees nothing
    empty_does : (t : Ty) → is_range t ≡ true → is_location t ≡ true → slice_get a.program.types.types u.ty.0 ≡ Some t → Born (empty (home a u) s).state
    empty_does t range loc is =
        filled_does u.place (gives tt s) (nothing types texts fs f) (λ x l. Aim l Empty) (leaf_part types texts fs f tt s (nothing types texts fs f) (λ b. tt) (λ b k alive. tt))
        (λ b q. record {
          given = refl;
          formed = ap is_range (location_declared a types texts fs f setting.front u s b t loc is).typed ∙ range;
        })
        (λ b k q blank. record { ready = refl; after = refl })

    default_does : default_fault (type_of a u.ty) ≡ None → Born (default_to (type_of a u.ty) (home a u) s).state
    default_does none = go (variable_type a.program.types u.ty built)
      where
        as_type : (t : Ty) → slice_get a.program.types.types u.ty.0 ≡ Some t → Born (default_to t (home a u) s).state → Born (default_to (type_of a u.ty) (home a u) s).state
        as_type t is born = subst (λ (x : Ty). Born (default_to x (home a u) s).state) (sym (type_is t is)) born

        owner_default : (t : Ty) → is_owner_of_values a.program.types t ≡ true → default_to t (home a u) s ≡ live (home a u) s
        owner_default = by_owners a.program.types _ refl (λ element. refl)

        go : IsVariableType a.program.types u.ty → Born (default_to (type_of a u.ty) (home a u) s).state
        go (a_value t is w) =
            as_type t is
            (subst (λ (g : Gives ℕ). Born g.state) (sym (by_values (λ x. default_to x (home a u) s ≡ live (home a u) s) refl refl refl refl refl t w))
            (live_does (λ b. value_lives a types texts fs f setting.front u s b (ap is_value (type_is t is) ∙ w))))
        go (a_raw target constant is w) =
            as_type (ty.Raw target constant) is
            (live_does (λ b. raw_lives a types texts fs f setting.front u s b target constant is))
        go (a_view is) = as_type ty.View is (empty_does ty.View refl refl is)
        go (a_walker (ty.Iterator target constant) is w) =
            as_type (ty.Iterator target constant) is
            (live_does (λ b. location_lives a types texts fs f setting.front u s b (ty.Iterator target constant) refl refl refl is))
        go (a_walker (ty.Span target constant) is w) = as_type (ty.Span target constant) is (empty_does (ty.Span target constant) refl refl is)
        go (a_walker _ is w) = absurd (false≢true w)
        go (a_struct number is) = as_type (ty.Struct number) is (live_does (λ b. object_lives a types texts fs f setting.front u s b (ty.Struct number) is refl))
        go (a_unique target is w) = as_type (ty.Unique target) is (live_does (λ b. object_lives a types texts fs f setting.front u s b (ty.Unique target) is refl))
        go (an_owner t is o) =
            as_type t is
            (subst (λ (g : Gives ℕ). Born g.state) (sym (owner_default t o))
            (live_does (λ b. owner_lives a types texts fs f setting.front u s b t is o)))
        go (a_reference target constant is w) = absurd (none_some (sym (subst (λ (t : Ty). default_fault t ≡ None) (type_is (ty.Reference target constant) is) none)))
        go (an_alias target constant is o) = absurd (none_some (sym (subst (λ (t : Ty). default_fault t ≡ None) (type_is (ty.Reference target constant) is) none)))
        go (a_struct_alias target constant number is structure pointless) = absurd (none_some (sym (subst (λ (t : Ty). default_fault t ≡ None) (type_is (ty.Reference target constant) is) none)))

    -- ---- a list of elements

    abbrev ListGiven : ListForm → Place → Form → Ty → State
    ListGiven list behind es t = (initialised a (listed a (built_type a t) list.opening (all_uses a es) list.delimiters) t behind (home a u) s).state

    -- a reference to a vector that is built for it
    module _ (list : ListForm) (behind : Place) (target : TyId) where
      abbrev element_uses : List Uses
      element_uses = all_uses a (forms list.elements)

      abbrev Kept : Gives Remaining → State
      Kept w = (w >> λ rest s. rest (scoped list.opening (type_of a target)) s >> λ x s. gives (aimed_at list.opening (object_named x)) s >> λ rest s. rest (home a u) s).state

      alias_listed : (constant : Bool) → slice_get a.program.types.types u.ty.0 ≡ Some (ty.Reference target constant) → is_owner_of_values a.program.types (type_at a.program.types target) ≡ true → AreGiving a v.visible types texts fs f setting (forms list.elements)
          → is_listed a.program.types (ty.Reference target constant) (forms list.elements) ≡ true → Born (ListGiven list behind (forms list.elements) (ty.Reference target constant))
      alias_listed false is o given all = absurd (false≢true all)
      alias_listed true is o given all = go (type_at a.program.types target) refl o all
        where
          go : (t : Ty) → type_at a.program.types target ≡ t → is_owner_of_values a.program.types t ≡ true → makes_object a.program.types t (forms list.elements) ≡ true → Born (ListGiven list behind (forms list.elements) (ty.Reference target true))
          go ty.Text here worth all = absurd (false≢true all)
          go (ty.Vector item) here worth all =
              let w = gives (list_object a (ty.Vector item) list.opening element_uses list.delimiters) s in
              let builds = list_builds a v.visible types texts fs f setting item worth list.opening (forms list.elements) list.delimiters s given all in
              let kept = subst (λ (t : Ty). BuildsIn a v.visible types texts fs f setting false t s w) (sym here) builds in
              subst (λ (g : Gives Remaining). Born (Kept g)) (sym (ap (λ (t : Ty). giving.given (listed a t list.opening element_uses list.delimiters) t behind s) here))
              (subst (λ (g : Gives ℕ). Born (g >> λ x s. gives (aimed_at list.opening (object_named x)) s >> λ rest s. rest (home a u) s).state) (sym (kept.lives (scoped list.opening (type_of a target)) s)) (bound_owner_does a types texts fs f setting v in_loop last u s h at built target true is (owner_target a.program.types (type_at a.program.types target) o) (inl o) list.opening w kept))
          go _ here worth all = absurd (false≢true worth)

      -- .. or to a struct
      alias_of_members : (constant : Bool) (number : ℕ) → slice_get a.program.types.types u.ty.0 ≡ Some (ty.Reference target constant) → type_at a.program.types target ≡ ty.Struct number → is_plain_struct a.program.types (type_at a.program.types target) ≡ true
          → AreListed a v.visible types texts fs f setting (forms list.elements) → is_listed a.program.types (ty.Reference target constant) (forms list.elements) ≡ true → Born (ListGiven list behind (forms list.elements) (ty.Reference target constant))
      alias_of_members false number is here pointless given all = absurd (false≢true all)
      alias_of_members true number is here pointless given all =
          let w = gives (list_object a (ty.Struct number) list.opening element_uses list.delimiters) s in
          let each = subst (λ (t : Ty). makes_object a.program.types t (forms list.elements) ≡ true) here all in
          let builds = members_build a v.visible types texts fs f setting number list.opening (forms list.elements) list.delimiters s given each in
          let kept = subst (λ (t : Ty). BuildsIn a v.visible types texts fs f setting false t s w) (sym here) builds in
          subst (λ (g : Gives Remaining). Born (Kept g)) (sym (ap (λ (t : Ty). giving.given (listed a t list.opening element_uses list.delimiters) t behind s) here))
          (subst (λ (g : Gives ℕ). Born (g >> λ x s. gives (aimed_at list.opening (object_named x)) s >> λ rest s. rest (home a u) s).state) (sym (kept.lives (scoped list.opening (type_of a target)) s))
          (bound_owner_does a types texts fs f setting v in_loop last u s h at built target true is (struct_target a.program.types (type_at a.program.types target) pointless) (struct_built a.program.types target number here) list.opening w kept))

    listed_does : (list : ListForm) (behind : Place) → (takes_list a.program.types (type_of a u.ty) && are_read_listed texts a.program (lists_members a.program.types (type_of a u.ty)) (forms list.elements)) ≡ true → IsInitialised a.program a.function.locals a.function.result v.visible (Some u) (Some (several list)) → Born (given_initial a u (Some (several list)) behind s)
    listed_does list behind b i = go one.0 (variable_type a.program.types u.ty built)
      where
        one : (takes_list a.program.types (type_of a u.ty) ≡ true) × (are_read_listed texts a.program (lists_members a.program.types (type_of a u.ty)) (forms list.elements) ≡ true)
        one = and_parts (takes_list a.program.types (type_of a u.ty)) (are_read_listed texts a.program (lists_members a.program.types (type_of a u.ty)) (forms list.elements)) b

        as_type : (t : Ty) → slice_get a.program.types.types u.ty.0 ≡ Some t → Born (ListGiven list behind (forms list.elements) t) → Born (ListGiven list behind (forms list.elements) (type_of a u.ty))
        as_type t is born = subst (λ (x : Ty). Born (ListGiven list behind (forms list.elements) x)) (sym (type_is t is)) born

        as_listed : (t : Ty) → slice_get a.program.types.types u.ty.0 ≡ Some t → is_listed a.program.types t (forms list.elements) ≡ true
        as_listed t is = subst (λ (x : Ty). is_listed a.program.types x (forms list.elements) ≡ true) (type_is t is) i.0

        -- elements, or the members of a struct
        served : (t : Ty) → slice_get a.program.types.types u.ty.0 ≡ Some t → are_read_listed texts a.program (lists_members a.program.types t) (forms list.elements) ≡ true
        served t is = subst (λ (x : Ty). are_read_listed texts a.program (lists_members a.program.types x) (forms list.elements) ≡ true) (type_is t is) one.1

        -- .. of a reference by what it is to
        read_there : (target : TyId) (constant : Bool) → slice_get a.program.types.types u.ty.0 ≡ Some (ty.Reference target constant) → (b : Bool) → is_struct (type_at a.program.types target) ≡ b → are_read_listed texts a.program b (forms list.elements) ≡ true
        read_there target constant is b same = subst (λ (b : Bool). are_read_listed texts a.program b (forms list.elements) ≡ true) same (served (ty.Reference target constant) is)

        parts : are_read_arguments texts a.program (forms list.elements) ≡ true → AreListed a v.visible types texts fs f setting (forms list.elements)
        parts b = listings a v.visible types texts fs f setting (forms list.elements) b i.1

        given : are_read_elements texts a.program (forms list.elements) ≡ true → AreGiving a v.visible types texts fs f setting (forms list.elements)
        given b = givings a v.visible types texts fs f setting (forms list.elements) b i.1

        no_list : (t : Ty) → slice_get a.program.types.types u.ty.0 ≡ Some t → takes_list a.program.types t ≡ false → takes_list a.program.types (type_of a u.ty) ≡ true → Born (ListGiven list behind (forms list.elements) (type_of a u.ty))
        no_list t is none p = absurd (false≢true (sym (ap (takes_list a.program.types) (type_is t is) ∙ none) ∙ p))

        -- what is no vector is built by none
        value_listed : (target : TyId) (constant : Bool) → is_value (type_at a.program.types target) ≡ true → is_listed a.program.types (ty.Reference target constant) (forms list.elements) ≡ true → ⊥
        value_listed target false w listed_is = false≢true listed_is
        value_listed target true w listed_is =
            false≢true (sym (by_values (λ x. makes_object a.program.types x (forms list.elements) ≡ false) refl refl refl refl refl (type_at a.program.types target) w) ∙ listed_is)

        go : takes_list a.program.types (type_of a u.ty) ≡ true → IsVariableType a.program.types u.ty → Born (ListGiven list behind (forms list.elements) (type_of a u.ty))
        go p (a_value t is w) = no_list t is (by_values (λ t. takes_list a.program.types t ≡ false) refl refl refl refl refl t w) p
        go p (a_raw target constant is w) = no_list (ty.Raw target constant) is refl p
        go p (a_reference target constant is w) = absurd (value_listed target constant w (as_listed (ty.Reference target constant) is))
        go p (an_alias target constant is o) = as_type (ty.Reference target constant) is (alias_listed list behind target constant is o (given (read_there target constant is false (owner_no_struct a.program.types (type_at a.program.types target) o))) (as_listed (ty.Reference target constant) is))
        go p (a_struct_alias target constant number is structure pointless) =
            as_type (ty.Reference target constant) is (alias_of_members list behind target constant number is structure pointless (parts (read_there target constant is true (ap is_struct structure))) (as_listed (ty.Reference target constant) is))
        go p (a_unique target is w) = no_list (ty.Unique target) is refl p
        go p (a_struct number is) =
            as_type (ty.Struct number) is
            (builds_does (ty.Struct number) is refl refl (gives (list_object a (ty.Struct number) list.opening (all_uses a (forms list.elements)) list.delimiters) s)
            (members_build a v.visible types texts fs f setting number list.opening (forms list.elements) list.delimiters s (parts (served (ty.Struct number) is)) (as_listed (ty.Struct number) is)))
        go p (a_view is) = no_list ty.View is refl p
        go p (a_walker t is w) = no_list t is (by_walkers a.program.types (λ t. takes_list a.program.types t ≡ false) (λ item constant. refl) (λ item constant. refl) t w) p
        go p (an_owner ty.Text is o) = no_list ty.Text is refl p
        go p (an_owner (ty.Vector item) is o) =
            as_type (ty.Vector item) is
            (builds_does (ty.Vector item) is refl refl (gives (list_object a (ty.Vector item) list.opening (all_uses a (forms list.elements)) list.delimiters) s)
            (list_builds a v.visible types texts fs f setting item o list.opening (forms list.elements) list.delimiters s (given (served (ty.Vector item) is)) (as_listed (ty.Vector item) is)))
        go p (an_owner _ is o) = absurd (false≢true o)

    initial_does : (initial : Option InitialForm) (behind : Place) → is_read_initial texts a.program (type_of a u.ty) initial ≡ true → IsInitialised a.program a.function.locals a.function.result v.visible (Some u) initial → Born (given_initial a u initial behind s)
    initial_does None behind b i = default_does i
    initial_does (Some (one e)) behind b i =
        elim (or_cases (takes_value (type_of a u.ty) && is_read_expression texts a.program e) (is_read_owned texts a.program (type_of a u.ty) e) b) [
          | inl value ↦ let parts = and_parts (takes_value (type_of a u.ty)) (is_read_expression texts a.program e) value in one_does e parts.1 i.1 behind parts.0 i.0
          | inr owned ↦ owned_does e i.1 behind owned i.0
        ]
    initial_does (Some (several list)) behind b i = listed_does list behind b i

  pub declaration_does : (d : DeclarationForm) (behind : Place) (s : State) → Follows types f a v s → is_read_declaration texts a.program a.function.locals d ≡ true → IsDeclaration a.program a.function.locals a.function.result d v
      → Does types texts fs f a (with_next v) in_loop s (declared a d behind s)
  declaration_does d behind s h b here = go (slice_get a.function.locals d.local) refl b here.1
    where
      go : (o : Option TypedLocal) → slice_get a.function.locals d.local ≡ o → is_read_declared texts a.program o d.value ≡ true → IsInitialised a.program a.function.locals a.function.result v.visible o d.value
          → Does types texts fs f a (with_next v) in_loop s (end_pending (length s.pending) behind (declared_as a o d.value behind s))
      go None at b i = absurd i
      go (Some u) at b i =
          initial_does u s h (sym (ap (slice_get a.function.locals) here.0) ∙ at) (variable_built a.program.types a.function.locals d.local u setting.variables at) behind d.value behind b i
