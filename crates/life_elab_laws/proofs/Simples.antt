-- Assignments, steps, and calls that stand alone.
use Rattle.std.proofs.Common.{◌≡◌, inl, inr, ℕ, Bool, true, false, List, cond, is_none, not, Option, Some, None, refl, sym, ap, ◌∙◌, subst, ◌&&◌, ◌||◌}
use Rattle.std.proofs.lemmas.Bool.{and_from, and_parts, false≢true, or_cases}
use Rattle.std.specs.Prelude.{pos}
use Rattle.life_types.specs.TypeTests.{is_value, is_text, is_view, is_iterator}
use Rattle.life_types.specs.Types.{Types, class}
use Rattle.life_types.specs.declared.place.Place.{Place}
use Rattle.life_types.specs.declared.ty.Class.{Class}
use Rattle.life_types.specs.declared.ty.Class.TheVariants as classes
use Rattle.life_types.specs.declared.ty.Ty.{Ty}
use Rattle.life_types.specs.declared.ty.Ty.TheVariants as ty
use Rattle.life_tree.specs.declared.operator.CompoundOperator.{CompoundOperator}
use Rattle.life_tree.specs.declared.operator.StepOperator.{StepOperator}
use Rattle.life_elab_laws.proofs.FormKinds.{are_read_elements, is_read_any, is_read_either, is_read_expression, is_read_object, is_read_owner, is_read_owning, is_read_struct, is_read_unique, is_read_walker, is_read_fresh, are_read_arguments}
use Rattle.life_elab_laws.proofs.ObjectTypes.{is_owner_of_values, is_walker_of_values}
use Rattle.life_elab_laws.proofs.StatementKinds.{is_read_renewed, is_read_simple}
use Rattle.life_elab_laws.proofs.TypeKinds.{is_owner_type, is_vector, is_vector_type, is_view_type}
use Rattle.life_typed.specs.Operators.{promoted}
use Rattle.life_typed.specs.Statements.{can_step, compounded}
use Rattle.life_typed.specs.TypedForm.{Typed, forms, whole as whole_form}
use Rattle.life_typed.specs.TypedStatement.{InitialForm, ListForm, SimpleForm, assign, compound, discarded, one, several, step}
use Rattle.life_typed.specs.declared.typed_expr.Category.{Category}
use Rattle.life_typed.specs.declared.typed_expr.Category.TheVariants as category
use Rattle.life_typed.specs.declared.typed_expr.ExprType.{ExprType}
use Rattle.life_typed.specs.declared.typed_expr.ExprType.TheVariants.{Of}
use Rattle.life_type_expr.specs.Lists.{fits_at_all}
use Rattle.life_core.specs.Function.{Function}
use Rattle.life_core.specs.Operands.{Location, Operand, object_named}
use Rattle.life_core.specs.Step.{Advance}
use Rattle.life_core.specs.declared.operation.Operation.TheVariants as operation
use Rattle.life_core.specs.declared.operation.Operator.{Operator}
use Rattle.life_proper.specs.OperandTypes.{is_promoted, keeps_const, same}
use Rattle.life_proper.specs.WellFormed.{answer_of}
use Rattle.life_well_typed.specs.Expressions.{IsExpression}
use Rattle.life_well_typed.specs.Given.{is_given, is_number}
use Rattle.life_well_typed.specs.Members.{is_listed}
use Rattle.life_well_typed.specs.Statements.{IsSimple}
use Rattle.life_writer.specs.Around.{Around, own_type}
use Rattle.life_writer.specs.Assigning.{acted, assigned_by, owner_by, replaced_by}
use Rattle.life_writer.specs.ExpressionForms.{all_uses, uses}
use Rattle.life_writer.specs.Lists.{built_type, list_object, listed}
use Rattle.life_writer.specs.Pointers.{By, Pointing, pointed}
use Rattle.life_writer.specs.Registers.{computed, constant as constant_step, converted}
use Rattle.life_writer.specs.Uses.{Act, Uses, own}
use Rattle.life_writer.specs.Using.{operand, pointer, pointing, temporary_of, value}
use Rattle.life_writer.specs.Values.{read}
use Rattle.life_writer.specs.Values as values
use Rattle.life_writer.specs.Writing.{State, Gives, emit, gives, mapped}
use Rattle.life_elab.specs.SimpleForms.{advanced, appended, assigned, combined, done, stepped, target_of, direction}
use Rattle.life_elab.specs.Simples.{compound_operator, held, put_back, step_operator}
use Rattle.life_elab_laws.proofs.Aiming.{pointed_fine, pointed_keeps, pointed_ready}
use Rattle.life_elab_laws.proofs.CopiedStructs.{assigned_copied, is_copied_struct}
use Rattle.life_elab_laws.proofs.ExpressionTypes.{own_no_iterator, own_no_text, own_value, seen_kind}
use Rattle.life_elab_laws.proofs.ExpressionForms.{IsWhole}
use Rattle.life_elab_laws.proofs.Expressions.{renewing, asked_expression, givings, owner_expression, struct_expression, walker_expression, whole_expression, fresh_expression, holding_expression, listings}
use Rattle.life_elab_laws.proofs.PointedCalls.{GivesPointer, call_assigned, gives_called, gives_plainly}
use Rattle.life_elab_laws.proofs.PointerForms.{placed_operand, pointer_whole, points_whole}
use Rattle.life_elab_laws.proofs.FormedFits.{given_raw, given_seen, given_owner, given_string, given_walker, given_vector}
use Rattle.life_elab_laws.proofs.Gifts.{Gift, takes_from, a_number, a_place, a_pointer, a_pointing, both, nothing}
use Rattle.life_elab_laws.proofs.GivenKinds.{given_number, given_pointer, given_view}
use Rattle.life_elab_laws.proofs.Instructions.{acted_as_part, as_type_part, constant_part, converted_part, load_part, operator_part}
use Rattle.life_elab_laws.proofs.Locations.{is_location, is_pointed, seen_pointed, location_is, view_location}
use Rattle.life_elab_laws.proofs.Making.{IsOpen, opened_later, lies_fills}
use Rattle.life_elab_laws.proofs.Parts.{Makes, Part, and_part, gives_part, keep_part, then_part, under_part}
use Rattle.life_elab_laws.proofs.RowTypes.{promoted_is}
use Rattle.life_elab_laws.proofs.Setting.{Setting}
use Rattle.life_elab_laws.proofs.SimpleTypes.{IsFree, compound_answer, compounded_numbers, free_place, own_counts, own_same, step_answer, step_value}
use Rattle.life_elab_laws.proofs.TypedKinds.{HasKind, a_null, a_number as of_number, a_pointer as of_pointer, a_text, a_view as of_view, no_value, promoted_value, value_place}
use Rattle.life_elab_laws.proofs.Values.{by_owners}
use Rattle.life_elab_laws.proofs.VariablePlaces.{Stands, stands_later, walker_is}
use Rattle.life_elab_laws.proofs.ElementForms.{either_read}
use Rattle.life_elab_laws.proofs.AppendForms.{appended_part, text_gains}
use Rattle.life_elab_laws.proofs.AssignableOwners.{IsAssignable, assignable_owner, moved_assigned_part}
use Rattle.life_elab_laws.proofs.ComparedForms.{IsEither}
use Rattle.life_type_stmt.specs.Simples.{is_place, moved_in, named_in, onto_itself, self_fault, whole_fault}
use Rattle.life_type_expr.specs.Operands.{is_constant}
use Rattle.life_elab_laws.proofs.ObjectForms.{IsObject, IsOwner}
use Rattle.life_elab_laws.proofs.ListForms.{list_builds}
use Rattle.life_elab_laws.proofs.Saving.{saved_part}
use Rattle.life_elab_laws.proofs.MadeForms.{Builds, BuildsIn, IsMade, IsOwning, is_made, stands_there, temporary_below, temporary_dead, temporary_made, temporary_spare}
use Rattle.life_elab_laws.proofs.MovedOwners.{given_moved}
use Rattle.life_elab_laws.proofs.MoveSteps.{moves_part, owner_moves}
use Rattle.life_elab_laws.proofs.NamedTargets.{named_unique_target}
use Rattle.life_names.specs.declared.fault.IllKind.{IllKind}
use Rattle.life_elab_laws.proofs.OwnerSteps.{copies_part}
use Rattle.life_elab_laws.proofs.ReplacedOwners.{IsReplaced, replaced, literal_plain}
use Rattle.life_elab_laws.proofs.SeenForms.{string_points}
use Rattle.life_elab_laws.proofs.StructStatements.{struct_assigned_part, members_assigned_part}
use Rattle.life_elab_laws.proofs.UniqueStatements.{unique_nulled_part, unique_renewed_part}
use Rattle.life_elab_laws.proofs.WalkerForms.{IsWalker, walker_pointer, walker_points, vector_points}
use Rattle.life_elab_laws.proofs.WalkerSteps.{advance_filling, advance_given, keeps_itself}
use Rattle.life_types.specs.Pointees.{ty_of}
use Rattle.life_types.specs.declared.ty.TyId.{TyId}
use Rattle.life_typed.specs.Conversions.{fits, is_place as is_place_category}
use Rattle.life_elab_laws.proofs.Elements.{one_element}
use Rattle.life_elab_laws.proofs.PushedElements.{AreGiving}
use Rattle.life_elab_laws.proofs.StructForms.{IsStruct}
use Rattle.life_elab_laws.proofs.AnsweredUniques.{IsHolding, holding_lies, holds_answer, holds_named}
use Rattle.life_elab_laws.proofs.MadeStructs.{with_target}
use Rattle.life_elab_laws.proofs.AliasForms.{given_literal, literal_object}
use Rattle.life_elab_laws.proofs.AnsweredTargets.{answered_renewed_part}
use Rattle.life_elab_laws.proofs.Discarded.{discarded_part}
use Rattle.life_elab_laws.proofs.Types.{owner_class, value_class, walker_class}

module _ (a : Around) (visible : List ℕ) (types : Types) (texts : ℕ) (fs : List Function) (f : Function) (setting : Setting a types fs f) where
  abbrev Whole : Typed → Type 0
  Whole e = IsExpression a.program a.function.locals visible (whole_form e)

  abbrev Standing : State → Type 0
  Standing s = Stands a visible s

  abbrev Giving : Type 0 → Type 1
  Giving A = Gift types texts fs f A

  abbrev no_gift : Giving (Unit {0})
  no_gift = nothing types texts fs f

  abbrev a_value : Ty → Giving ℕ
  a_value t = a_number types texts fs f t

  abbrev a_target : Ty → Giving Operand
  a_target t = a_place types texts fs f t false

  abbrev both_of : {A B : Type 0} → Giving A → Giving B → Giving (A × B)
  both_of P Q = both types texts fs f P Q

  -- what is written and gives nothing
  abbrev pub Acts : State → State → Type 0
  Acts s s' = Makes types texts fs f None s (gives tt s') (nothing types texts fs f)

  abbrev whole : (e : Typed) → is_read_expression texts a.program e ≡ true → Whole e → IsWhole a visible types texts fs f setting (whole_form e)
  whole e b h = whole_expression a visible types texts fs f setting (whole_form e) b h

  -- what is written is a place of its own type that isn't const
  free_target : (target : Typed) (at : IsFree a.program.types target) → IsWhole a visible types texts fs f setting (whole_form target) → is_value (own_type target.ty) ≡ true → (s : State) → Standing s
      → Makes types texts fs f None s (operand (uses a (whole_form target)) s) (a_target (own_type target.ty))
  free_target target at is v s stands =
      subst (λ (w : Gives Operand). Makes types texts fs f None s w (a_target (own_type target.ty))) (sym (placed_operand a visible types texts fs f setting (whole_form target) at.id false s at.place))
      (subst (λ (t : Ty). Makes types texts fs f None s ((uses a (whole_form target)).at s) (a_target t)) (sym at.own) (is.names at.id false at.place (ap is_value (sym at.own) ∙ v) s stands))

  -- ---- assignments: the right side, the place, and what gives it that

  value_assigned_part : (target e : Typed) (equals behind : Place) (s : State) → IsWhole a visible types texts fs f setting (whole_form target) → IsWhole a visible types texts fs f setting (whole_form e) → IsFree a.program.types target → is_number target.ty ≡ true
      → is_given a.program.types (own_type target.ty) e ≡ true → Standing s → Acts s (assigned_by classes.Value (uses a (whole_form e)) (own_type target.ty) (target_of (uses a (whole_form target))) equals behind s)
  value_assigned_part target e equals behind s to from at n given stands =
      let t = own_type target.ty in
      let v = own_value target.ty n in
      let w = value (uses a (whole_form e)) behind t None s in
      let u = operand (uses a (whole_form target)) w.state in
      let first = from.valued (given_number a.program.types t e v given) behind t v None s tt stands in
      let second = free_target target at to v w.state (stands_later a visible s w.state first.grown stands) in
      then_part types texts fs f no_gift tt None s (gives (w.given, u.given) u.state) _ (both_of (a_value t) (a_target t)) no_gift stands.opened
      (and_part types texts fs f no_gift tt s w u (a_value t) (a_target t) stands.opened first second)
      (saved_part types texts fs f (both_of (a_value t) (a_target t)) (w.given, u.given) t w.given u.given equals u.state (λ h. h.0) (λ h. h.1) (λ n k p. p))

  -- a pointer, which is found behind what it is given
  module _ (target e : Typed) where
    abbrev goal_of : State → Gives Location
    goal_of s = pointer (uses a (whole_form target)) (own (uses a (whole_form target))) s

    abbrev given_at : Gives Pointing → State
    given_at q = emit e.place (pointed q.given (goal_of q.state).given) (goal_of q.state).state

  -- a pointer, which is given what an expression gives it as one of a type
  pointer_given_part : (target e : Typed) (equals behind : Place) (s : State) (u : Ty) (source : ExprType) → is_location u ≡ true → ((s : State) → Standing s → Makes types texts fs f None s (pointer (uses a (whole_form target)) (own (uses a (whole_form target))) s) (a_pointer types texts fs f u))
      → GivesPointer types texts fs f source s (pointing (uses a (whole_form e)) s) → takes_from types u source ≡ true → Standing s
      → Acts s (assigned_by classes.Pointer (uses a (whole_form e)) (own_type target.ty) (target_of (uses a (whole_form target))) equals behind s)
  pointer_given_part target e equals behind s u source loc lies first taken stands = go first
    where
      go : GivesPointer types texts fs f source s (pointing (uses a (whole_form e)) s) → Acts s (given_at target e (pointing (uses a (whole_form e)) s))
      go (gives_called c) =
          let v = c.given.state in
          subst (λ (q : Gives Pointing). Acts s (given_at target e q)) (sym c.is)
          (call_assigned types texts fs f source s (pointing (uses a (whole_form e)) s) c u (goal_of target e v) e.place (lies v (stands_later a visible s v c.hands.grown stands)) (inr taken))
      go (gives_plainly first) =
          let w = pointing (uses a (whole_form e)) s in
          let l = goal_of target e w.state in
          let P = a_pointing types texts fs f source in
          let Q = a_pointer types texts fs f u in
          let second = lies w.state (stands_later a visible s w.state first.grown stands) in
          then_part types texts fs f no_gift tt None s (gives (w.given, l.given) l.state) _ (both_of P Q) no_gift stands.opened
          (and_part types texts fs f no_gift tt s w l P Q stands.opened first second)
          (acted_as_part types texts fs f (both_of P Q) (w.given, l.given) e.place (pointed w.given l.given) l.state
          (λ h. pointed_fine types texts fs f l.given u source w.given loc h.1.typed taken h.0)
          (λ h n k p. pointed_ready f l.given n n w.given k p.1 p.0 (lies_fills f l.given h.1.kept))
          (λ h n m k p. pointed_keeps f l.given n n w.given k p.1 p.0 m (lies_fills f l.given h.1.kept)))

  pointer_assigned_part : (target e : Typed) (equals behind : Place) (s : State) (u : Ty) → is_location u ≡ true → IsWhole a visible types texts fs f setting (whole_form target) → IsWhole a visible types texts fs f setting (whole_form e) → target.ty ≡ Of u
      → is_pointed e.ty ≡ true → takes_from types u e.ty ≡ true → Standing s → Acts s (assigned_by classes.Pointer (uses a (whole_form e)) (own_type target.ty) (target_of (uses a (whole_form target))) equals behind s)
  pointer_assigned_part target e equals behind s u loc at from is pointed_one taken stands =
      pointer_given_part target e equals behind s u e.ty loc (λ s stands. pointer_whole a visible types texts fs f setting (whole_form target) at u is loc (own (uses a (whole_form target))) s stands) (points_whole a visible types texts fs f setting (whole_form e) from pointed_one s stands) taken stands

  assigned_part : (target e : Typed) (equals behind : Place) (s : State) → (bt : is_read_expression texts a.program target ≡ true) → (be : is_read_expression texts a.program e ≡ true) → IsSimple a.program a.function.locals a.function.result visible (assign target equals (one e)) → Standing s
      → Acts s (assigned a target equals (one e) behind s)
  assigned_part target e equals behind s bt be h stands = go is.kind.kind
    where
      is : IsWhole a visible types texts fs f setting (whole_form target)
      is = whole target bt h.0.1

      at : IsFree a.program.types target
      at = free_place a.program.types target is.kind h.0.0

      given : is_given a.program.types (own_type target.ty) e ≡ true
      given = subst (λ (t : Ty). is_given a.program.types t e ≡ true) (own_same target.ty) h.1.0

      chosen : (k : Class) → class (Some (own_type target.ty)) ≡ k → Acts s (assigned_by k (uses a (whole_form e)) (own_type target.ty) (target_of (uses a (whole_form target))) equals behind s) → Acts s (assigned a target equals (one e) behind s)
      chosen k is part = subst (λ (x : Class). Acts s (assigned_by x (uses a (whole_form e)) (own_type target.ty) (target_of (uses a (whole_form target))) equals behind s)) (sym is) part

      go : HasKind a.program.types target → Acts s (assigned a target equals (one e) behind s)
      go (of_number t own_is v) =
          chosen classes.Value (ap (λ (x : ExprType). class (Some (own_type x))) own_is ∙ value_class t v) (value_assigned_part target e equals behind s is (whole e be h.1.1) at (ap is_number own_is ∙ v) given stands)
      go (of_pointer to constant own_is v) =
          chosen classes.Pointer (ap (λ (x : ExprType). class (Some (own_type x))) own_is)
          (let fits = subst (λ (x : ExprType). is_given a.program.types (own_type x) e ≡ true) own_is given in
          pointer_assigned_part target e equals behind s (ty.Raw to constant) refl is (whole e be h.1.1) own_is (given_pointer a.program.types (ty.Raw to constant) e refl fits) (given_raw a.program.types types setting.front to constant v e fits) stands)
      go (of_view own_is) =
          chosen classes.Pointer (ap (λ (x : ExprType). class (Some (own_type x))) own_is)
          (let from = whole e be h.1.1 in
          let seen = seen_kind a.program.types e from.kind.kind (given_view a.program.types e (subst (λ (x : ExprType). is_given a.program.types (own_type x) e ≡ true) own_is given)) in
          pointer_assigned_part target e equals behind s ty.View refl is from own_is (seen_pointed e.ty seen) (given_seen types e.ty seen) stands)
      go (a_text own v) = absurd (value_place (sym v ∙ at.place))
      go (no_value own v) = absurd (value_place (sym v ∙ at.place))
      go (a_null own v) = absurd (value_place (sym v ∙ at.place))

  -- ---- assignments that compute, and steps

  -- what a place holds, as a value of a type
  held_part : (target : Typed) (o : Operand) (t : Ty) (s : State) → is_value (own_type target.ty) ≡ true → is_value t ≡ true → IsOpen s → Part types texts fs f (a_target (own_type target.ty)) o None s (held target o t s) (a_value t)
  held_part target o t s v w opened =
      as_type_part types texts fs f (a_target (own_type target.ty)) o (own_type target.ty) t target.place (read (own_type target.ty) target.place (gives o)) None s w tt opened
      (λ into wanted. load_part types texts fs f into (own_type target.ty) false target.place o s v wanted)

  -- the answer goes back
  put_back_part : (target : Typed) (x : (ℕ × ℕ) × Operand) (t : Ty) (place : Place) (o : Operator) (s : State) → is_value (own_type target.ty) ≡ true → is_value t ≡ true → is_promoted t ≡ true → answer_of o t ≡ t → IsOpen s
      → Part types texts fs f (both_of (both_of (a_value t) (a_value t)) (a_target (own_type target.ty))) x None s (gives tt (put_back target x.1 t place (operation.Binary o x.0.0 x.0.1) s)) no_gift
  put_back_part target x t place o s v w p answers opened =
      let u = own_type target.ty in
      let N = both_of (a_value t) (a_value t) in
      let P = both_of N (a_target u) in
      let y = computed None t place (values.binary o x.0.0 x.0.1) s in
      let z = converted t u place y.given y.state in
      let one = under_part types texts fs f N x.0 P x None s y (a_value t) (operator_part types texts fs f None t t place o x.0 s p answers w tt) (λ h. h.0) (λ n k h. h.0) in
      let first = keep_part types texts fs f P x s (gives x s) y P (a_value t) opened (gives_part types texts fs f P x None x s P (λ b h. h) (λ b k alive h. h)) one in
      let later = opened_later s y.state one.grown opened in
      let second = under_part types texts fs f (a_value t) y.given (both_of P (a_value t)) (x, y.given) None y.state z (a_value u) (converted_part types texts fs f t u place y.given y.state v later) (λ h. h.1) (λ n k h. h.1) in
      then_part types texts fs f P x None s (gives ((x, y.given), z.given) z.state) _ (both_of (both_of P (a_value t)) (a_value u)) no_gift opened
      (keep_part types texts fs f P x s (gives (x, y.given) y.state) z (both_of P (a_value t)) (a_value u) opened first second)
      (saved_part types texts fs f (both_of (both_of P (a_value t)) (a_value u)) ((x, y.given), z.given) u z.given x.1 place z.state (λ h. h.1) (λ h. h.0.0.1) (λ n k h. (h.1, h.0.0.1)))

  -- the right side, the place, what it holds, and the operator
  combined_part : (target e : Typed) (o : CompoundOperator) (place behind : Place) (t : Ty) (s : State) → IsWhole a visible types texts fs f setting (whole_form target) → IsWhole a visible types texts fs f setting (whole_form e) → IsFree a.program.types target
      → is_number target.ty ≡ true → is_number e.ty ≡ true → is_value t ≡ true → is_promoted t ≡ true → Standing s → Acts s (combined a target o place e behind t s)
  combined_part target e o place behind t s to from at n m w p stands =
      let u = own_type target.ty in
      let v = own_value target.ty n in
      let r = value (uses a (whole_form e)) behind t None s in
      let l = operand (uses a (whole_form target)) r.state in
      let h = held target l.given t l.state in
      let first = from.valued m behind t w None s tt stands in
      let second = free_target target at to v r.state (stands_later a visible s r.state first.grown stands) in
      let P = both_of (a_value t) (a_target u) in
      let Q = both_of P (a_value t) in
      let R = both_of (both_of (a_value t) (a_value t)) (a_target u) in
      let pair = and_part types texts fs f no_gift tt s r l (a_value t) (a_target u) stands.opened first second in
      let later = opened_later s l.state pair.grown stands.opened in
      let third = under_part types texts fs f (a_target u) l.given P (r.given, l.given) None l.state h (a_value t) (held_part target l.given t l.state v w later) (λ q. q.1) (λ n k q. q.1) in
      let back = put_back_part target ((h.given, r.given), l.given) t place (compound_operator o) h.state v w p (compound_answer o t) (opened_later l.state h.state third.grown later) in
      then_part types texts fs f no_gift tt None s (gives ((r.given, l.given), h.given) h.state) _ Q no_gift stands.opened
      (keep_part types texts fs f no_gift tt s (gives (r.given, l.given) l.state) h P (a_value t) stands.opened pair third)
      (under_part types texts fs f R ((h.given, r.given), l.given) Q ((r.given, l.given), h.given) None h.state _ no_gift back (λ q. ((q.1, q.0.0), q.0.1)) (λ n k q. ((q.1, q.0.0), q.0.1)))

  -- the place, what it holds, 1, and the operator
  stepped_part : (target : Typed) (o : StepOperator) (place : Place) (t : Ty) (s : State) → IsWhole a visible types texts fs f setting (whole_form target) → IsFree a.program.types target → is_number target.ty ≡ true → is_value t ≡ true → is_promoted t ≡ true
      → Standing s → Acts s (stepped a target o place t s)
  stepped_part target o place t s to at n w p stands =
      let u = own_type target.ty in
      let v = own_value target.ty n in
      let l = operand (uses a (whole_form target)) s in
      let h = held target l.given t l.state in
      let r = computed None t place (constant_step (pos 1)) h.state in
      let first = free_target target at to v s stands in
      let opened = opened_later s l.state first.grown stands.opened in
      let second = held_part target l.given t l.state v w opened in
      let later = opened_later l.state h.state second.grown opened in
      let third = constant_part types texts fs f None t place (pos 1) h.state w tt in
      let P = both_of (a_target u) (a_value t) in
      let Q = both_of P (a_value t) in
      let R = both_of (both_of (a_value t) (a_value t)) (a_target u) in
      let back = put_back_part target ((h.given, r.given), l.given) t place (step_operator o) r.state v w p (step_answer o t) (opened_later h.state r.state third.grown later) in
      then_part types texts fs f no_gift tt None s (gives ((l.given, h.given), r.given) r.state) _ Q no_gift stands.opened
      (and_part types texts fs f no_gift tt s (gives (l.given, h.given) h.state) r P (a_value t) stands.opened (keep_part types texts fs f no_gift tt s l h (a_target u) (a_value t) stands.opened first second) third)
      (under_part types texts fs f R ((h.given, r.given), l.given) Q ((l.given, h.given), r.given) None r.state _ no_gift back (λ q. ((q.0.1, q.1), q.0.0)) (λ n k q. ((q.0.1, q.1), q.0.0)))

  -- ---- assignments of owners

  not_true : (b : Bool) → not b ≡ true → b ≡ false
  not_true false e = refl
  not_true true e = absurd (false≢true e)

  to_free : (c : Category) (constant : Bool) → is_constant c ≡ constant → not (is_constant c) ≡ true → constant ≡ false
  to_free c constant is h = sym is ∙ not_true (is_constant c) h

  -- a copy
  copied_part : (target e : Typed) (equals behind : Place) (s : State) → (to : IsAssignable a visible types texts fs f setting (whole_form target)) → (from : IsObject a visible types texts fs f setting (whole_form e)) → from.ty ≡ to.ty → Standing s
      → Acts s (assigned a target equals (one e) behind s)
  copied_part target e equals behind s to from alike stands =
      let w = (uses a (whole_form e)).at s in
      let o = operand (uses a (whole_form target)) w.state in
      let P = a_place types texts fs f to.ty from.constant in
      let Q = a_target to.ty in
      let first = subst (λ (t : Ty). Makes types texts fs f None s w (a_place types texts fs f t from.constant)) alike (from.names s stands) in
      let second = to.placed w.state (stands_later a visible s w.state first.grown stands) in
      subst (Acts s)
      (sym (ap (λ (k : Class). assigned_by k (uses a (whole_form e)) (own_type target.ty) (target_of (uses a (whole_form target))) equals behind s) (ap (λ (t : Ty). class (Some t)) (ap own_type to.is) ∙ owner_class a.program.types to.ty to.owner)
      ∙ ap (λ (c : Category). acted (owner_by c (uses a (whole_form e)) (own_type target.ty) s) (target_of (uses a (whole_form target))) equals) from.place))
      (then_part types texts fs f no_gift tt None s (gives (w.given, o.given) o.state) _ (both_of P Q) no_gift stands.opened
      (and_part types texts fs f no_gift tt s w o P Q stands.opened first second)
      (copies_part types texts fs f (both_of P Q) (w.given, o.given) a.program.types to.ty from.constant o.given w.given equals o.state to.owner (λ h. (h.1, h.0)) (λ n k q. (q.1, q.0))))

  -- one that is made, by way of a temporary
  made_assigned_part : {alone : Bool} (target : Typed) (u : Uses) (equals behind : Place) (s : State) → (to : IsAssignable a visible types texts fs f setting (whole_form target)) → u.category ≡ category.Value → u.replacing ≡ None
      → BuildsIn a visible types texts fs f setting alone to.ty s (u.object s) → Standing s → Acts s (assigned_by (class (Some (own_type target.ty))) u (own_type target.ty) (target_of (uses a (whole_form target))) equals behind s)
  made_assigned_part target u equals behind s to held plain builds stands =
      let w = temporary_of u to.ty s in
      let o = operand (uses a (whole_form target)) w.state in
      let P = a_place types texts fs f to.ty false in
      let first = temporary_made a visible types texts fs f setting to.ty u.place s (u.object s) (inl to.owner) builds stands in
      let later = stands_later a visible s w.state first.grown stands in
      let second = to.placed w.state later in
      let apart =
      to.apart w.state later w.given (temporary_below a visible types texts fs f setting to.ty u.place s (u.object s) (inl to.owner) builds stands)
      (temporary_dead a visible types texts fs f setting to.ty u.place s (u.object s) (inl to.owner) builds stands) in
      subst (Acts s)
      (sym (ap (λ (k : Class). assigned_by k u (own_type target.ty) (target_of (uses a (whole_form target))) equals behind s) (ap (λ (t : Ty). class (Some t)) (ap own_type to.is) ∙ owner_class a.program.types to.ty to.owner)
      ∙ ap (λ (t : Ty). acted (owner_by u.category u t s) (target_of (uses a (whole_form target))) equals) (ap own_type to.is)
      ∙ ap (λ (c : Category). acted (owner_by c u to.ty s) (target_of (uses a (whole_form target))) equals) held
      ∙ ap (λ (r : Option (State → Gives Act)). acted (replaced_by r (temporary_of u to.ty) s) (target_of (uses a (whole_form target))) equals) plain))
      (then_part types texts fs f no_gift tt None s (gives (object_named w.given, o.given) o.state) _ (both_of P P) no_gift stands.opened
      (and_part types texts fs f no_gift tt s (mapped object_named w) o P P stands.opened first second)
      (moves_part types texts fs f (both_of P P) (object_named w.given, o.given) to.ty o.given w.given equals o.state (owner_moves a.program.types to.ty to.owner)
      (λ h. (h.1, (h.0, temporary_spare a visible types texts fs f setting to.ty u.place s (u.object s) (inl to.owner) builds stands))) (λ n k q. (q.1, q.0)) apart))

  -- .. of a literal
  filled_part : (target e : Typed) (equals behind : Place) (s : State) → (to : IsAssignable a visible types texts fs f setting (whole_form target)) → (b : is_read_expression texts a.program e ≡ true) → is_given a.program.types to.ty e ≡ true → Whole e → Standing s
      → Acts s (assigned a target equals (one e) behind s)
  filled_part target e equals behind s to b given h stands =
      let from = whole e b h in
      let literal = given_literal a visible types texts fs f setting (whole_form e) from to.ty to.owner given in
      made_assigned_part target (uses a (whole_form e)) equals behind s to literal.1 (literal_plain a visible types texts fs f setting (whole_form e) b h literal.0)
      (literal_object a visible types texts fs f setting (whole_form e) from to.ty to.owner given s stands) stands

  -- an iterator or a span
  walker_assigned_part : (target e : Typed) (equals behind : Place) (s : State) → (to : IsWalker a visible types texts fs f setting (whole_form target)) → (from : IsWalker a visible types texts fs f setting (whole_form e)) → is_given a.program.types to.ty e ≡ true → Standing s
      → Acts s (assigned a target equals (one e) behind s)
  walker_assigned_part target e equals behind s to from given stands =
      subst (λ (k : Class). Acts s (assigned_by k (uses a (whole_form e)) (own_type target.ty) (target_of (uses a (whole_form target))) equals behind s)) (sym (ap (λ (t : Ty). class (Some t)) (ap own_type to.is) ∙ walker_class a.program.types to.ty to.walker))
      (pointer_given_part target e equals behind s to.ty (Of from.ty) (walker_is a.program.types to.ty to.walker).location
      (λ s stands. walker_pointer a visible types texts fs f setting (whole_form target) to (own (uses a (whole_form target))) s stands)
      (walker_points a visible types texts fs f setting (whole_form e) from s stands) (given_walker a.program.types types setting.front to.ty from.ty e to.walker from.walker from.is given) stands)

  -- a span of the whole of a vector
  span_assigned_part : (target e : Typed) (equals behind : Place) (s : State) → (to : IsWalker a visible types texts fs f setting (whole_form target)) → (from : IsOwner a visible types texts fs f setting (whole_form e)) → is_given a.program.types to.ty e ≡ true → Standing s
      → Acts s (assigned a target equals (one e) behind s)
  span_assigned_part target e equals behind s to from given stands = go to.ty refl to.walker given
    where
      go : (t : Ty) → to.ty ≡ t → is_walker_of_values a.program.types t ≡ true → is_given a.program.types t e ≡ true → Acts s (assigned a target equals (one e) behind s)
      go (ty.Span item constant) span worth h =
          let vector = given_vector a.program.types item constant from.constant from.ty e from.owner from.is from.told h in
          let t = ty.Span item constant in
          subst (λ (k : Class). Acts s (assigned_by k (uses a (whole_form e)) (own_type target.ty) (target_of (uses a (whole_form target))) equals behind s)) (sym (ap (λ (t : Ty). class (Some t)) (ap own_type to.is ∙ span)))
          (pointer_given_part target e equals behind s t (Of t) refl
          (λ s stands. subst (λ (t : Ty). Makes types texts fs f None s (pointer (uses a (whole_form target)) (own (uses a (whole_form target))) s) (a_pointer types texts fs f t)) span
          (walker_pointer a visible types texts fs f setting (whole_form target) to (own (uses a (whole_form target))) s stands))
          (gives_plainly (vector_points a visible types texts fs f setting (whole_form e) from item constant vector.is vector.kept s stands))
          (and_from (same (ty_of types item) (ty_of types item)) (keeps_const constant constant) (one_element a.program.types types setting.front item worth) (keeps_itself constant)) stands)
      go (ty.Iterator item constant) span worth h = absurd (false≢true (sym (no_iterator from.ty from.owner) ∙ subst (λ (x : ExprType). fits_at_all (fits a.program.types (ty.Iterator item constant) x e.category) ≡ true) from.is h))
        where
          no_iterator : (u : Ty) → is_owner_of_values a.program.types u ≡ true → fits_at_all (fits a.program.types (ty.Iterator item constant) (Of u) e.category) ≡ false
          no_iterator = by_owners a.program.types _ refl (λ found. refl)
      go _ span worth h = absurd (false≢true worth)

  -- an owner, by a copy of another one, or by one that is made
  owner_assigned_part : (target e : Typed) (equals behind : Place) (s : State)
      → ((is_owner_type target.ty && (is_read_object texts a.program (whole_form target) || (not (is_place_category target.category) && is_read_owner texts a.program (whole_form target)))) && is_read_any texts a.program e) ≡ true
      → IsSimple a.program a.function.locals a.function.result visible (assign target equals (one e)) → Standing s → Acts s (assigned a target equals (one e) behind s)
  owner_assigned_part target e equals behind s b h stands =
      let both = and_parts (is_owner_type target.ty && (is_read_object texts a.program (whole_form target) || (not (is_place_category target.category) && is_read_owner texts a.program (whole_form target)))) (is_read_any texts a.program e) b in
      let to = assignable_owner a visible types texts fs f setting target both.0 (to_free target.category (is_constant target.category) refl (and_parts (is_place target.ty target.category) (not (is_constant target.category)) h.0.0).1) h.0.1 in
      let given : is_given a.program.types to.ty e ≡ true = subst (λ (t : Ty). is_given a.program.types t e ≡ true) (own_same target.ty ∙ ap own_type to.is) h.1.0 in
      elim (either_read (whole_form e) (is_read_owner texts a.program (whole_form e)) (is_read_expression texts a.program e) both.1) [
        | inl value ↦ filled_part target e equals behind s to value given h.1.1 stands
        | inr owner ↦ from_owner to given (owner_expression a visible types texts fs f setting (whole_form e) owner.1 owner.0 h.1.1) (replaced a visible types texts fs f setting (whole_form e) owner.1 owner.0 h.1.1)
      ]
    where
      none_there : (o : Option IllKind) → is_none o ≡ true → o ≡ None
      none_there None e = refl
      none_there (Some k) e = absurd (false≢true e)

      -- nothing is moved onto itself
      other : (n : ℕ) → moved_in (whole_form e) ≡ Some n → onto_itself (named_in (whole_form target)) (Some n) ≡ None
      other n moves =
          ap (onto_itself (named_in (whole_form target))) (sym moves)
          ∙ none_there (onto_itself (named_in target.form) (moved_in e.form)) (and_parts (is_none (whole_fault a.program.types target.category)) (is_none (self_fault target.form (one e))) h.2).1

      made : (to : IsAssignable a visible types texts fs f setting (whole_form target)) → is_given a.program.types to.ty e ≡ true → IsMade a visible types texts fs f setting (whole_form e) → IsReplaced a visible types texts fs f setting (whole_form e) → Acts s (assigned a target equals (one e) behind s)
      made to given from (inl plain) =
          made_assigned_part target (uses a (whole_form e)) equals behind s to from.value plain
          (subst (λ (t : Ty). Builds a visible types texts fs f setting t s ((uses a (whole_form e)).object s)) (given_owner a.program.types to.ty from.ty e to.owner from.owner from.is given) (from.builds s stands)) stands
      made to given from (inr moves) =
          moved_assigned_part a visible types texts fs f setting target moves.number moves.moved e moves.place equals behind s to (other moves.number moves.named) moves.replaces from.value moves.seen moves.from
          (given_moved a visible types texts fs f setting to.ty moves.from.ty e (owner_moves a.program.types to.ty to.owner) moves.from.owner moves.typed given) stands

      from_owner : (to : IsAssignable a visible types texts fs f setting (whole_form target)) → is_given a.program.types to.ty e ≡ true → IsOwning a visible types texts fs f setting (whole_form e) → IsReplaced a visible types texts fs f setting (whole_form e) → Acts s (assigned a target equals (one e) behind s)
      from_owner to given (stands_there from) way = copied_part target e equals behind s to from (given_owner a.program.types to.ty from.ty e to.owner from.owner from.is given) stands
      from_owner to given (is_made from) way = made to given from way

  -- .. of a list of its elements
  list_assigned_part : (target : Typed) (list : ListForm) (equals behind : Place) (s : State) → ((is_owner_type target.ty && (is_read_object texts a.program (whole_form target) || (not (is_place_category target.category) && is_read_owner texts a.program (whole_form target)))) && (is_vector_type target.ty && are_read_elements texts a.program (forms list.elements))) ≡ true → IsSimple a.program a.function.locals a.function.result visible (assign target equals (several list)) → Standing s
      → Acts s (assigned a target equals (several list) behind s)
  list_assigned_part target list equals behind s b h stands =
      let both = and_parts (is_owner_type target.ty && (is_read_object texts a.program (whole_form target) || (not (is_place_category target.category) && is_read_owner texts a.program (whole_form target)))) (is_vector_type target.ty && are_read_elements texts a.program (forms list.elements)) b in
      let one = and_parts (is_vector_type target.ty) (are_read_elements texts a.program (forms list.elements)) both.1 in
      let to = assignable_owner a visible types texts fs f setting target both.0 (to_free target.category (is_constant target.category) refl (and_parts (is_place target.ty target.category) (not (is_constant target.category)) h.0.0).1) h.0.1 in
      go to to.ty refl to.owner (ap is_vector (sym (ap own_type to.is)) ∙ vector_own target.ty one.0) (givings a visible types texts fs f setting (forms list.elements) one.1 h.1.1) (subst (λ (t : Ty). is_listed a.program.types t (forms list.elements) ≡ true) (own_same target.ty ∙ ap own_type to.is) h.1.0)
    where
      vector_own : (t : ExprType) → is_vector_type t ≡ true → is_vector (own_type t) ≡ true
      vector_own (Of t) v = v
      vector_own _ v = absurd (false≢true v)

      go : (to : IsAssignable a visible types texts fs f setting (whole_form target)) → (t : Ty) → to.ty ≡ t → is_owner_of_values a.program.types t ≡ true → is_vector t ≡ true → AreGiving a visible types texts fs f setting (forms list.elements)
          → is_listed a.program.types t (forms list.elements) ≡ true → Acts s (assigned a target equals (several list) behind s)
      go to (ty.Vector item) at o v elements all =
          let own_is : own_type target.ty ≡ ty.Vector item = ap own_type to.is ∙ at in
          let u = listed a (built_type a (own_type target.ty)) list.opening (all_uses a (forms list.elements)) list.delimiters in
          let builds = list_builds a visible types texts fs f setting item o list.opening (forms list.elements) list.delimiters s elements all in
          made_assigned_part target u equals behind s to refl refl
          (subst (λ (t : Ty). BuildsIn a visible types texts fs f setting false t s (u.object s)) (sym at)
          (subst (λ (t : Ty). BuildsIn a visible types texts fs f setting false (ty.Vector item) s (gives (list_object a (built_type a t) list.opening (all_uses a (forms list.elements)) list.delimiters) s)) (sym own_is) builds)) stands
      go to _ at o v elements all = absurd (false≢true v)

  -- a view of the whole of a string
  view_assigned_part : (target e : Typed) (equals behind : Place) (s : State)
      → ((is_view_type target.ty && is_read_expression texts a.program target) && (is_owner_type e.ty && is_read_owner texts a.program (whole_form e))) ≡ true → IsSimple a.program a.function.locals a.function.result visible (assign target equals (one e)) → Standing s
      → Acts s (assigned a target equals (one e) behind s)
  view_assigned_part target e equals behind s b h stands =
      let both = and_parts (is_view_type target.ty && is_read_expression texts a.program target) (is_owner_type e.ty && is_read_owner texts a.program (whole_form e)) b in
      let goal = and_parts (is_view_type target.ty) (is_read_expression texts a.program target) both.0 in
      let seen = view_own target.ty goal.0 in
      let source = and_parts (is_owner_type e.ty) (is_read_owner texts a.program (whole_form e)) both.1 in
      let from = asked_expression a visible types texts fs f setting (whole_form e) source.1 source.0 h.1.1 in
      let is = whole target goal.1 h.0.1 in
      let viewed : own_type target.ty ≡ ty.View = view_is (own_type target.ty) seen in
      let at : target.ty ≡ Of ty.View = location_is target.ty (view_location (own_type target.ty) seen) ∙ ap Of viewed in
      subst (λ (k : Class). Acts s (assigned_by k (uses a (whole_form e)) (own_type target.ty) (target_of (uses a (whole_form target))) equals behind s)) (sym (ap (λ (t : Ty). class (Some t)) viewed))
      (pointer_given_part target e equals behind s ty.View (Of ty.View) refl (λ s stands. pointer_whole a visible types texts fs f setting (whole_form target) is ty.View at refl (own (uses a (whole_form target))) s stands)
      (gives_plainly (string_points a visible types texts fs f setting (whole_form e) from (given_string a.program.types from.ty e from.owner from.is (subst (λ (t : Ty). is_given a.program.types t e ≡ true) (own_same target.ty ∙ viewed) h.1.0)) s stands)) refl stands)
    where
      view_own : (t : ExprType) → is_view_type t ≡ true → is_view (own_type t) ≡ true
      view_own (Of t) v = v
      view_own _ v = absurd (false≢true v)

      view_is : (t : Ty) → is_view t ≡ true → t ≡ ty.View
      view_is ty.View v = refl
      view_is _ v = absurd (false≢true v)

  -- an iterator or a span
  walker_reassigned_part : (target e : Typed) (equals behind : Place) (s : State)
      → (is_read_walker texts a.program (whole_form target) && (is_read_walker texts a.program (whole_form e) || (is_owner_type e.ty && is_read_owner texts a.program (whole_form e)))) ≡ true → IsSimple a.program a.function.locals a.function.result visible (assign target equals (one e)) → Standing s
      → Acts s (assigned a target equals (one e) behind s)
  walker_reassigned_part target e equals behind s b h stands =
      let owned : Bool = is_owner_type e.ty && is_read_owner texts a.program (whole_form e) in
      let parts = and_parts (is_read_walker texts a.program (whole_form target)) (is_read_walker texts a.program (whole_form e) || owned) b in
      let to = walker_expression a visible types texts fs f setting (whole_form target) parts.0 h.0.1 in
      let given : is_given a.program.types to.ty e ≡ true = subst (λ (t : Ty). is_given a.program.types t e ≡ true) (own_same target.ty ∙ ap own_type to.is) h.1.0 in
      elim (or_cases (is_read_walker texts a.program (whole_form e)) owned parts.1) [
        | inl walker ↦ walker_assigned_part target e equals behind s to (walker_expression a visible types texts fs f setting (whole_form e) walker h.1.1) given stands
        | inr owner ↦
            let source = and_parts (is_owner_type e.ty) (is_read_owner texts a.program (whole_form e)) owner in
            span_assigned_part target e equals behind s to (asked_expression a visible types texts fs f setting (whole_form e) source.1 source.0 h.1.1) given stands
      ]

  -- a unique_ptr owns nothing more
  unique_nothing_part : (target e : Typed) (equals behind : Place) (s : State) → IsHolding a visible types texts fs f setting (whole_form target) → is_read_expression texts a.program e ≡ true
      → IsSimple a.program a.function.locals a.function.result visible (assign target equals (one e)) → Standing s → Acts s (assigned a target equals (one e) behind s)
  unique_nothing_part target e equals behind s to b h stands =
      let lies = holding_lies a visible types texts fs f setting (whole_form target) to in
      unique_nulled_part a visible types texts fs f setting target e equals behind lies (whole e b h.1.1) (subst (λ (t : Ty). is_given a.program.types t e ≡ true) (own_same target.ty ∙ ap own_type lies.is) h.1.0) s stands

  -- .. or another value, where it is named, or a temporary
  unique_given_part : (target e : Typed) (equals behind : Place) (s : State) → is_read_unique texts a.program (whole_form target) ≡ true → IsHolding a visible types texts fs f setting (whole_form target) → is_read_fresh texts a.program (whole_form e) ≡ true
      → IsSimple a.program a.function.locals a.function.result visible (assign target equals (one e)) → Standing s → Acts s (assigned a target equals (one e) behind s)
  unique_given_part target e equals behind s b (holds_named to) fresh h stands =
      let place : is_place_category target.category ≡ true = ap is_place_category to.place in
      unique_renewed_part a visible types texts fs f setting target e equals behind to (fresh_expression a visible types texts fs f setting (whole_form e) fresh h.1.1)
      (subst (λ (t : Ty). is_given a.program.types t e ≡ true) (own_same target.ty ∙ ap own_type to.is) h.1.0)
      (named_unique_target a visible types texts fs f setting (whole_form target) b place h.0.1)
      (renewing a visible types texts fs f setting (whole_form e) fresh h.1.1) s (and_parts (is_none (whole_fault a.program.types target.category)) (is_none (self_fault target.form (one e))) h.2).1 stands
  unique_given_part target e equals behind s b (holds_answer to) fresh h stands =
      answered_renewed_part a visible types texts fs f setting target e to equals behind (fresh_expression a visible types texts fs f setting (whole_form e) fresh h.1.1)
      (subst (λ (t : Ty). is_given a.program.types t e ≡ true) (own_same target.ty ∙ ap own_type to.fresh.is) h.1.0)
      (renewing a visible types texts fs f setting (whole_form e) fresh h.1.1) s stands

  unique_reassigned_part : (target e : Typed) (equals behind : Place) (s : State) → (is_read_unique texts a.program (whole_form target) && (is_read_expression texts a.program e || is_read_fresh texts a.program (whole_form e))) ≡ true
      → IsSimple a.program a.function.locals a.function.result visible (assign target equals (one e)) → Standing s → Acts s (assigned a target equals (one e) behind s)
  unique_reassigned_part target e equals behind s b h stands =
      let parts = and_parts (is_read_unique texts a.program (whole_form target)) (is_read_expression texts a.program e || is_read_fresh texts a.program (whole_form e)) b in
      let to = holding_expression a visible types texts fs f setting (whole_form target) parts.0 h.0.1 in
      elim (or_cases (is_read_expression texts a.program e) (is_read_fresh texts a.program (whole_form e)) parts.1) [
        | inl none ↦ unique_nothing_part target e equals behind s to none h stands
        | inr fresh ↦ unique_given_part target e equals behind s parts.0 to fresh h stands
      ]

  -- a struct that is assigned to stands at a place
  placed_target : (target : Typed) → is_read_struct texts a.program (whole_form target) ≡ true → (is_place target.ty target.category && not (is_constant target.category)) ≡ true → Whole target → IsStruct a visible types texts fs f setting (whole_form target)
  placed_target target b free h =
      with_target a visible types texts fs f setting (whole_form target) (struct_expression a visible types texts fs f setting (whole_form target) b h) (and_parts (is_place target.ty target.category) (not (is_constant target.category)) free).0

  -- .. and is one that may be copied
  whole_copied : (target : Typed) (value : InitialForm) (to : IsStruct a visible types texts fs f setting (whole_form target)) → (is_none (whole_fault a.program.types target.category) && is_none (self_fault target.form value)) ≡ true → is_copied_struct a.program.types to.number ≡ true
  whole_copied target value to h =
      assigned_copied a.program.types setting.values.ordered to.id to.number to.here target.category to.constant to.place (and_parts (is_none (whole_fault a.program.types target.category)) (is_none (self_fault target.form value)) h).0

  -- .. also of a list
  parts_assigned_part : (target : Typed) (list : ListForm) (equals behind : Place) (s : State) → (is_read_struct texts a.program (whole_form target) && are_read_arguments texts a.program (forms list.elements)) ≡ true
      → IsSimple a.program a.function.locals a.function.result visible (assign target equals (several list)) → Standing s → Acts s (assigned a target equals (several list) behind s)
  parts_assigned_part target list equals behind s b h stands =
      let parts = and_parts (is_read_struct texts a.program (whole_form target)) (are_read_arguments texts a.program (forms list.elements)) b in
      let to = placed_target target parts.0 h.0.0 h.0.1 in
      members_assigned_part a visible types texts fs f setting target list equals behind s to
      (to_free target.category to.constant (ap is_constant to.place) (and_parts (is_place target.ty target.category) (not (is_constant target.category)) h.0.0).1)
      (whole_copied target (several list) to h.2)
      (listings a visible types texts fs f setting (forms list.elements) parts.1 h.1.1)
      (subst (λ (t : Ty). is_listed a.program.types t (forms list.elements) ≡ true) (own_same target.ty ∙ ap own_type to.is) h.1.0) stands

  -- a struct is copied
  struct_reassigned_part : (target e : Typed) (equals behind : Place) (s : State) → (is_read_struct texts a.program (whole_form target) && is_read_struct texts a.program (whole_form e)) ≡ true
      → IsSimple a.program a.function.locals a.function.result visible (assign target equals (one e)) → Standing s → Acts s (assigned a target equals (one e) behind s)
  struct_reassigned_part target e equals behind s b h stands =
      let parts = and_parts (is_read_struct texts a.program (whole_form target)) (is_read_struct texts a.program (whole_form e)) b in
      let to = placed_target target parts.0 h.0.0 h.0.1 in
      let from = struct_expression a visible types texts fs f setting (whole_form e) parts.1 h.1.1 in
      let given = subst (λ (t : Ty). is_given a.program.types t e ≡ true) (own_same target.ty ∙ ap own_type to.is) h.1.0 in
      struct_assigned_part a visible types texts fs f setting target e equals behind s to (to_free target.category to.constant (ap is_constant to.place) (and_parts (is_place target.ty target.category) (not (is_constant target.category)) h.0.0).1)
      (whole_copied target (one e) to h.2) from given stands

  reassigned_part : (target e : Typed) (equals behind : Place) (s : State) → is_read_renewed texts a.program target e ≡ true → IsSimple a.program a.function.locals a.function.result visible (assign target equals (one e)) → Standing s
      → Acts s (assigned a target equals (one e) behind s)
  reassigned_part target e equals behind s b h stands = elim (or_cases ((is_owner_type target.ty && (is_read_object texts a.program (whole_form target) || (not (is_place_category target.category) && is_read_owner texts a.program (whole_form target)))) && is_read_any texts a.program e) _ b) [
    | inl owners ↦ owner_assigned_part target e equals behind s owners h stands
    | inr others ↦ elim (or_cases ((is_view_type target.ty && is_read_expression texts a.program target) && (is_owner_type e.ty && is_read_owner texts a.program (whole_form e))) _ others) [
      | inl views ↦ view_assigned_part target e equals behind s views h stands
      | inr others ↦ elim (or_cases (is_read_walker texts a.program (whole_form target) && (is_read_walker texts a.program (whole_form e) || (is_owner_type e.ty && is_read_owner texts a.program (whole_form e)))) _ others) [
        | inl walks ↦ walker_reassigned_part target e equals behind s walks h stands
        | inr others ↦ elim (or_cases (is_read_unique texts a.program (whole_form target) && (is_read_expression texts a.program e || is_read_fresh texts a.program (whole_form e))) (is_read_struct texts a.program (whole_form target) && is_read_struct texts a.program (whole_form e)) others) [
          | inl uniques ↦ unique_reassigned_part target e equals behind s uniques h stands
          | inr structs ↦ struct_reassigned_part target e equals behind s structs h stands
        ]
      ]
    ]
  ]

  -- ---- an iterator steps

  advanced_part : (target : Typed) (o : StepOperator) (place : Place) (s : State) → (is : IsWalker a visible types texts fs f setting (whole_form target)) → (item : TyId) (constant : Bool) → is.ty ≡ ty.Iterator item constant → Standing s
      → Acts s (advanced (uses a (whole_form target)) o place s)
  advanced_part target o place s is item constant iterator stands =
      let u = uses a (whole_form target) in
      let t = ty.Iterator item constant in
      let l = pointer u (own u) s in
      let r = computed None ty.Int place (constant_step (pos 1)) l.state in
      let P = a_pointer types texts fs f t in
      let Q = a_value ty.Int in
      let step = By (λ p. Advance p l.given r.given (direction o)) in
      let first = subst (λ (x : Ty). Makes types texts fs f None s l (a_pointer types texts fs f x)) iterator (walker_pointer a visible types texts fs f setting (whole_form target) is (own u) s stands) in
      let second = constant_part types texts fs f None ty.Int place (pos 1) l.state refl tt in
      then_part types texts fs f no_gift tt None s (gives (l.given, r.given) r.state) _ (both_of P Q) no_gift stands.opened
      (and_part types texts fs f no_gift tt s l r P Q stands.opened first second)
      (acted_as_part types texts fs f (both_of P Q) (l.given, r.given) place (Advance l.given l.given r.given (direction o)) r.state
      (λ h. pointed_fine types texts fs f l.given t (Of t) step refl h.0.typed
      (and_from (same (ty_of types item) (ty_of types item)) (keeps_const constant constant) worth (keeps_itself constant))
      (advance_given types texts fs f item constant ty.Int l.given r.given (direction o) h.0 worth h.1))
      (λ h n k p. pointed_ready f l.given n n step k p.0 (advance_filling types texts fs f l.given r.given (direction o) n k p.0 p.1) (lies_fills f l.given h.0.kept))
      (λ h n m k p. pointed_keeps f l.given n n step k p.0 (advance_filling types texts fs f l.given r.given (direction o) n k p.0 p.1) m (lies_fills f l.given h.0.kept)))
    where
      worth : same (ty_of types item) (ty_of types item) ≡ true
      worth = one_element a.program.types types setting.front item (subst (λ (t : Ty). is_walker_of_values a.program.types t ≡ true) iterator is.walker)

  -- ---- assignments that compute

  -- of numbers
  counted_part : (target : Typed) (o : CompoundOperator) (place : Place) (e : Typed) (behind : Place) (s : State) → (is_read_expression texts a.program target && is_read_expression texts a.program e) ≡ true
      → IsSimple a.program a.function.locals a.function.result visible (compound target o place e) → Standing s → Acts s (done a (compound target o place e) behind s)
  counted_part target o place e behind s b h stands =
      let parts = and_parts (is_read_expression texts a.program target) (is_read_expression texts a.program e) b in
      let is = whole target parts.0 h.1.1 in
      let plain = own_no_text a.program.types target is.kind.kind in
      let n = compounded_numbers o (own_type target.ty) e.ty plain (subst (λ (t : Ty). fits_at_all (compounded o t e.ty) ≡ true) (own_same target.ty) h.0) in
      subst (λ (b : Bool). Acts s (cond b (appended a target place e s) (combined a target o place e behind (promoted (own_type target.ty) (own_type e.ty)) s))) (sym plain)
      (combined_part target e o place behind (promoted (own_type target.ty) (own_type e.ty)) s is (whole e parts.1 h.2) (free_place a.program.types target is.kind h.1.0) (own_counts target.ty n.0) n.1
      (promoted_value (own_type target.ty) (own_type e.ty)) (promoted_is (own_type target.ty) (own_type e.ty)) stands)

  -- .. of characters
  gained_part : (target : Typed) (o : CompoundOperator) (place : Place) (e : Typed) (behind : Place) (s : State) → (is_read_owning texts a.program target && is_read_any texts a.program e) ≡ true
      → IsSimple a.program a.function.locals a.function.result visible (compound target o place e) → Standing s → Acts s (done a (compound target o place e) behind s)
  gained_part target o place e behind s b h stands =
      let either : Bool = is_read_either (whole_form e) (is_read_owner texts a.program (whole_form e)) (is_read_expression texts a.program e) in
      let two = and_parts (is_read_owning texts a.program target) either b in
      let one = and_parts (is_owner_type target.ty) (is_read_owner texts a.program (whole_form target)) two.0 in
      let to = asked_expression a visible types texts fs f setting (whole_form target) one.1 one.0 h.1.1 in
      let from : IsEither a visible types texts fs f setting (whole_form e) = elim (either_read (whole_form e) (is_read_owner texts a.program (whole_form e)) (is_read_expression texts a.program e) two.1) [
        | inl value ↦ inl (whole e value h.2)
        | inr owner ↦ inr (asked_expression a visible types texts fs f setting (whole_form e) owner.1 owner.0 h.2)
      ] in
      let own_is : own_type target.ty ≡ to.ty = ap own_type to.is in
      let fits : fits_at_all (compounded o to.ty e.ty) ≡ true = subst (λ (t : Ty). fits_at_all (compounded o t e.ty) ≡ true) own_is (subst (λ (t : Ty). fits_at_all (compounded o t e.ty) ≡ true) (own_same target.ty) h.0) in
      let told = text_gains a.program.types o to.ty e.ty to.owner fits in
      subst (λ (t : Ty). Acts s (cond (is_text t) (appended a target place e s) (combined a target o place e behind (promoted t (own_type e.ty)) s))) (sym (own_is ∙ told.0))
      (appended_part a visible types texts fs f setting (whole_form target) (whole_form e) place s to told.0 (to_free target.category to.constant to.told (and_parts (is_place target.ty target.category) (not (is_constant target.category)) h.1.0).1) from told.1 stands)

  -- ---- steps

  number_stepped_part : (target : Typed) (o : StepOperator) (place behind : Place) (s : State) → is_read_expression texts a.program target ≡ true → IsSimple a.program a.function.locals a.function.result visible (step target o place) → Standing s
      → Acts s (done a (step target o place) behind s)
  number_stepped_part target o place behind s b h stands =
      let is = whole target b h.1.1 in
      let plain = own_no_iterator a.program.types target is.kind.kind in
      let n = step_value (own_type target.ty) plain (subst (λ (t : Ty). can_step t ≡ true) (own_same target.ty) h.0) in
      subst (λ (b : Bool). Acts s (cond b (advanced (uses a (whole_form target)) o place s) (stepped a target o place (promoted (own_type target.ty) (own_type target.ty)) s))) (sym plain)
      (stepped_part target o place (promoted (own_type target.ty) (own_type target.ty)) s is (free_place a.program.types target is.kind h.1.0) (own_counts target.ty n)
      (promoted_value (own_type target.ty) (own_type target.ty)) (promoted_is (own_type target.ty) (own_type target.ty)) stands)

  walker_stepped_part : (target : Typed) (o : StepOperator) (place behind : Place) (s : State) → is_read_walker texts a.program (whole_form target) ≡ true → IsSimple a.program a.function.locals a.function.result visible (step target o place) → Standing s
      → Acts s (done a (step target o place) behind s)
  walker_stepped_part target o place behind s b h stands =
      let is = walker_expression a visible types texts fs f setting (whole_form target) b h.1.1 in
      go is.ty is is.walker refl (subst (λ (t : Ty). can_step t ≡ true) (own_same target.ty ∙ ap own_type is.is) h.0)
    where
      go : (t : Ty) → (is : IsWalker a visible types texts fs f setting (whole_form target)) → is_walker_of_values a.program.types t ≡ true → is.ty ≡ t → can_step t ≡ true → Acts s (done a (step target o place) behind s)
      go (ty.Iterator item constant) is w at can =
          subst (λ (b : Bool). Acts s (cond b (advanced (uses a (whole_form target)) o place s) (stepped a target o place (promoted (own_type target.ty) (own_type target.ty)) s))) (sym (ap (λ (x : ExprType). is_iterator (own_type x)) is.is ∙ ap is_iterator at))
          (advanced_part target o place s is item constant at stands)
      go (ty.Span item constant) is w at can = absurd (false≢true can)
      go _ is w at can = absurd (false≢true w)

  -- ---- any of these

  pub done_part : (it : SimpleForm) (behind : Place) (s : State) → is_read_simple texts a.program it ≡ true → IsSimple a.program a.function.locals a.function.result visible it → Standing s → Acts s (done a it behind s)
  done_part (assign target equals (one e)) behind s b h stands =
      elim (or_cases (is_read_expression texts a.program target && is_read_expression texts a.program e) (is_read_renewed texts a.program target e) b) [
        | inl values ↦ let parts = and_parts (is_read_expression texts a.program target) (is_read_expression texts a.program e) values in assigned_part target e equals behind s parts.0 parts.1 h stands
        | inr owned ↦ reassigned_part target e equals behind s owned h stands
      ]
  done_part (assign target equals (several list)) behind s b h stands =
      elim (or_cases ((is_owner_type target.ty && (is_read_object texts a.program (whole_form target) || (not (is_place_category target.category) && is_read_owner texts a.program (whole_form target)))) && (is_vector_type target.ty && are_read_elements texts a.program (forms list.elements))) (is_read_struct texts a.program (whole_form target) && are_read_arguments texts a.program (forms list.elements)) b) [
        | inl elements ↦ list_assigned_part target list equals behind s elements h stands
        | inr members ↦ parts_assigned_part target list equals behind s members h stands
      ]
  done_part (compound target o place e) behind s b h stands =
      elim (or_cases (is_read_expression texts a.program target && is_read_expression texts a.program e) (is_read_owning texts a.program target && is_read_any texts a.program e) b) [ inl values ↦ counted_part target o place e behind s values h stands | inr texts_too ↦ gained_part target o place e behind s texts_too h stands ]
  done_part (step target o place) behind s b h stands = elim (or_cases (is_read_expression texts a.program target) (is_read_walker texts a.program (whole_form target)) b) [ inl value ↦ number_stepped_part target o place behind s value h stands | inr walks ↦ walker_stepped_part target o place behind s walks h stands ]
  done_part (discarded e) behind s b h stands = discarded_part a visible types texts fs f setting e behind s b h stands
