-- What is written for a well typed expression, by one recursion: each form says by one way how it is written, and has all laws by that.
use Rattle.std.proofs.Common.{◌≡◌, inl, inr, ℕ, zero, suc, Bool, true, false, List, [], ◌∷◌, slice_get, Option, Some, None, refl, sym, ap, ◌∙◌, subst, ◌&&◌, ◌||◌, if◌then◌else◌, Ok}
use Rattle.std.proofs.lemmas.Bool.{and_parts, false≢true, or_cases}
use Rattle.std.specs.Prelude.{pos}
use Rattle.life_elab_laws.proofs.FormKinds.{are_read_arguments, are_read_elements, is_asking, is_edge, is_end, is_equality, is_erase, is_get, is_read_either, is_read_form, is_read_object, is_read_owner, is_read_struct, is_read_unique, is_read_walker, is_subspan, is_testing, is_read_content, is_read_fresh, are_read_arguments}
use Rattle.life_elab_laws.proofs.ObjectTypes.{is_element, is_owner_of_values, is_walker_of_values}
use Rattle.life_elab_laws.proofs.TypeKinds.{form_type, is_owner_type, is_plain_type, is_struct_type, is_walker_type, owns_elements, is_unique_type}
use Rattle.life_types.specs.Types.{Types}
use Rattle.life_types.specs.declared.place.Place.{Place}
use Rattle.life_types.specs.declared.ty.Ty.TheVariants as ty
use Rattle.life_types.specs.declared.ty.TyId.{TyId}
use Rattle.life_typed.specs.BaseTypes.{type_at}
use Rattle.life_typed.specs.Programs.{FunctionForm}
use Rattle.life_typed.specs.Delimiters.{DelimitersForm, behind_others}
use Rattle.life_typed.specs.TypedForm.{Form, Typed, number, character, boolean, text, null, local, call, construct, paren, move, make_unique, text_of, input, member, dereference, index, method, negate, not, address_of, binary, typed, nothing, ◌⨟◌}
use Rattle.life_typed.specs.declared.typed_expr.Category.{Category}
use Rattle.life_typed.specs.declared.typed_expr.ExprType.{ExprType}
use Rattle.life_typed.specs.declared.typed_expr.ExprType.TheVariants.{Of}
use Rattle.life_typed.specs.declared.typed_expr.Method.TheVariants as methods
use Rattle.life_type_expr.specs.Operands.{number_type}
use Rattle.life_core.specs.Function.{Function}
use Rattle.life_core.specs.Tree.{Tree}
use Rattle.life_proper.specs.OperandTypes as operands
use Rattle.life_well_typed.specs.Expressions.{AreExpressions, IsExpression, IsMadeOf, are_given, parameter_types, typed_in, IsExpressionIfAny, HasResult}
use Rattle.life_well_typed.specs.Given.{is_given}
use Rattle.life_writer.specs.Around.{Around, own_type}
use Rattle.life_writer.specs.ExpressionForms.{all_uses, uses, form_uses}
use Rattle.life_writer.specs.Giving as giving
use Rattle.life_writer.specs.Uses.{Uses}
use Rattle.life_writer.specs.Using.{value}
use Rattle.life_writer.specs.Values as values
use Rattle.life_writer.specs.Writing.{Gives, State}
use Rattle.life_elab_laws.proofs.OwnedContents.{IsGivingIfAny, content_as}
use Rattle.life_elab_laws.proofs.HandedUniques.{fresh_first}
use Rattle.life_elab_laws.proofs.CalledUniques.{called_fresh, called_answer}
use Rattle.life_elab_laws.proofs.FreshUniques.{IsFresh, IsFreshAt, fresh_same, made_fresh, moved_fresh}
use Rattle.life_elab_laws.proofs.Conditions.{Tests}
use Rattle.life_elab_laws.proofs.ExpressionForms.{IsForm, IsWhole, literal, paren_form, value_form, whole_of}
use Rattle.life_elab_laws.proofs.ExpressionKinds.{addressed_as, dereferenced_as, negated_as, number_value}
use Rattle.life_elab_laws.proofs.HandedArguments.{Hands, none_handed}
use Rattle.life_elab_laws.proofs.ExpressionTypes.{negated_promoted}
use Rattle.life_elab_laws.proofs.HandedForms.{first_handed}
use Rattle.life_elab_laws.proofs.HandedTypes.{IsHandedType}
use Rattle.life_elab_laws.proofs.Instructions.{constant_part, input_part, negated_part}
use Rattle.life_elab_laws.proofs.Setting.{Setting}
use Rattle.life_elab_laws.proofs.TypedKinds.{combined_as, ok_same, IsCombined}
use Rattle.life_elab_laws.proofs.VariablePlaces.{Stands}
use Rattle.life_elab_laws.proofs.OperatorForms.{binary_form}
use Rattle.life_elab_laws.proofs.PointerForms.{address_form, call_form, dereference_form, null_form, text_form, variable_form}
use Rattle.life_elab_laws.proofs.ReferredOwners.{call_object, dereferenced_object, owner_address_form, call_walker, call_made}
use Rattle.life_elab_laws.proofs.ElementForms.{edge_reached, either_read, operand_typed, owner_index_reached, owner_method_form, view_index_reached}
use Rattle.life_elab_laws.proofs.ViewForms.{AreWhole, method_form}
use Rattle.life_elab_laws.proofs.ComparedForms.{IsEither, compared_form}
use Rattle.life_elab_laws.proofs.AdvancedForms.{advanced_walker, compared_walkers_form, end_walker, walker_dereferenced}
use Rattle.life_elab_laws.proofs.WalkerForms.{IsWalker, IsWalkerAt, variable_walker, walker_same}
use Rattle.life_elab_laws.proofs.SpanForms.{span_index_reached, span_method_form}
use Rattle.life_elab_laws.proofs.SubspanForms.{subspan_walker}
use Rattle.life_elab_laws.proofs.EraseForms.{erased_walker}
use Rattle.life_elab_laws.proofs.MadeForms.{IsOwning, IsOwningAt, is_made, owning_owner, owning_same, stands_there}
use Rattle.life_elab_laws.proofs.ObjectForms.{IsObject, IsObjectAt, IsOwner, IsReached, object_same, reached_form, reached_object, variable_object}
use Rattle.life_elab_laws.proofs.StringForms.{joined_made, text_of_owner, text_of_view}
use Rattle.life_well_typed.specs.Members.{IsCalled}
use Rattle.life_typed.specs.declared.typed_expr.Method.{Method}
use Rattle.life_elab_laws.proofs.EqualityRows.{compares_both, joins_texts, is_ranged}
use Rattle.life_elab_laws.proofs.RowTypes.{row_fits_between}
use Rattle.life_typed.specs.declared.typed_expr.BinaryOperator.{BinaryOperator}
use Rattle.life_types.specs.declared.ty.Ty.{Ty}
use Rattle.life_elab_laws.proofs.HandedOwners.{owner_first, walker_first}
use Rattle.life_elab_laws.proofs.HandedStructs.{struct_first}
use Rattle.life_elab_laws.proofs.ReferredStructs.{call_struct, dereferenced_struct, struct_address_form}
use Rattle.life_elab_laws.proofs.PushedElements.{AreGiving, IsGiving, IsPushing}
use Rattle.life_elab_laws.proofs.MovedForms.{moved_made}
use Rattle.life_elab_laws.proofs.MovedOwners.{moved_from_variable}
use Rattle.life_elab_laws.proofs.StructForms.{member_form, member_object, member_struct, variable_struct, member_walker, IsStructAt, reached_struct}
use Rattle.life_elab_laws.proofs.UniqueForms.{IsUnique, lying_dereferenced, lying_get_form, variable_unique}
use Rattle.life_elab_laws.proofs.UniqueTests.{by_unique, by_value, deciding_form, deciding_negation, IsDeciding}
use Rattle.life_type_expr.specs.Members.{indexed_at}
use Rattle.life_typed.specs.Conversions.{is_place}
use Rattle.life_elab_laws.proofs.MadeStructs.{IsAnyStruct, IsAnyStructAt, any_same, struct_made, struct_there, with_address, with_members}
use Rattle.life_elab_laws.proofs.StructLists.{constructed}
use Rattle.life_elab_laws.proofs.StructMembers.{AreListed, a_struct_listed, a_unique_listed, a_value_listed, an_owner_listed, a_walker_listed}
use Rattle.life_elab_laws.proofs.ReplacedOwners.{literal_plain, replaced}
use Rattle.life_elab_laws.proofs.ListedUniques.{IsRenewing, IsRenewingAt, by_making, by_moving, by_temporary, renewing_same}
use Rattle.life_elab_laws.proofs.MemberUniques.{member_unique}
use Rattle.life_type_stmt.specs.Simples.{moved_in}
use Rattle.life_elab_laws.proofs.AnsweredUniques.{IsHolding, IsHoldingAt, holds_answer, holds_named, holding_lies, holding_same, made_answer, moved_answer}
use Rattle.life_writer.specs.Behind.{closed_by}
use Rattle.life_elab_laws.proofs.Values.{by_owners, by_walkers}

module _ (a : Around) (visible : List ℕ) (types : Types) (texts : ℕ) (fs : List Function) (f : Function) (setting : Setting a types fs f) where
  abbrev Standing : State → Type 0
  Standing s = Stands a visible s

  abbrev Decided : Option Place → State → Gives Tree → Type 0
  Decided ends s w = Tests types texts fs f ends s w

  -- one with a value, or an owner
  either_of : (form : Form) → is_read_either form (is_read_owner texts a.program form) (is_read_form texts a.program form) ≡ true → (is_read_form texts a.program form ≡ true → IsWhole a visible types texts fs f setting form)
      → (is_read_owner texts a.program form ≡ true → is_owner_type (typed_in form).ty ≡ true → IsOwning a visible types texts fs f setting form) → IsEither a visible types texts fs f setting form
  either_of form b value owner = elim (either_read form (is_read_owner texts a.program form) (is_read_form texts a.program form) b) [
    | inl v ↦ inl (value v)
    | inr o ↦ inr (owning_owner a visible types texts fs f setting form (owner o.1 o.0))
  ]

  abbrev OwningAt : Typed → Uses → Type 0
  OwningAt e u = IsOwningAt a visible types texts fs f setting e u.at u.object

  -- ---- iterators and spans

  abbrev IsFirstWalker : Form → Type 0
  IsFirstWalker (e ⨟ es) = IsWalker a visible types texts fs f setting e
  IsFirstWalker _ = ⊥

  parted : (base : Form) (m : Method) (given : Form) (d : DelimitersForm) (e : Typed) (place : Place) → is_subspan m ≡ true → IsWalker a visible types texts fs f setting base → AreWhole a visible types texts fs f setting given
      → IsCalled a.program.types (typed_in base).ty (typed_in base).category m given e → IsWalkerAt a visible types texts fs f setting e ((form_uses a (method base m given d) place e.ty e.category).pointing)
  parted base methods.Subspan given d e place b is whole h = subspan_walker a visible types texts fs f setting base given d e place is whole h
  parted base _ given d e place b is whole h = absurd (false≢true b)

  erased : (base : Form) (m : Method) (given : Form) (d : DelimitersForm) (e : Typed) (place : Place) → is_erase m ≡ true → IsOwner a visible types texts fs f setting base → IsFirstWalker given
      → IsCalled a.program.types (typed_in base).ty (typed_in base).category m given e → IsWalkerAt a visible types texts fs f setting e ((form_uses a (method base m given d) place e.ty e.category).pointing)
  erased base methods.Erase (position ⨟ others) d e place b is at h = erased_walker a visible types texts fs f setting base position others d e place is at h
  erased base methods.Erase _ d e place b is at h = absurd at
  erased base _ given d e place b is at h = absurd (false≢true b)

  -- ---- whether two are equal

  walker_ranged : (form : Form) → IsWalker a visible types texts fs f setting form → is_ranged (typed_in form).ty ≡ true
  walker_ranged form is = subst (λ (x : ExprType). is_ranged x ≡ true) (sym is.is) (go is.ty is.walker)
    where
      go : (t : Ty) → is_walker_of_values a.program.types t ≡ true → is_ranged (Of t) ≡ true
      go = by_walkers a.program.types _ (λ item constant. refl) (λ item constant. refl)

  owner_ranged : (form : Form) → IsOwner a visible types texts fs f setting form → is_ranged (typed_in form).ty ≡ true
  owner_ranged form is = subst (λ (x : ExprType). is_ranged x ≡ true) (sym is.is) (go is.ty is.owner)
    where
      go : (t : Ty) → is_owner_of_values a.program.types t ≡ true → is_ranged (Of t) ≡ true
      go = by_owners a.program.types _ refl (λ item. refl)

  -- values are, or texts of which one is a string
  equated_form : (o : BinaryOperator) (left right : Form) (e : Typed) → IsCombined o (typed_in left) (typed_in right) e → is_equality o ≡ true → IsEither a visible types texts fs f setting left → IsEither a visible types texts fs f setting right
      → IsForm a visible types texts fs f setting (binary o left right) e
  equated_form o left right e c equality (inl l) (inl r) = binary_form a visible types texts fs f setting o left right e c l r
  equated_form o left right e c equality (inr l) r =
      compared_form a visible types texts fs f setting o left right e c (compares_both o left right c.ty equality (inl (owner_ranged left l)) (row_fits_between o left right c.ty c.answer)) (inr l) r
  equated_form o left right e c equality (inl l) (inr r) =
      compared_form a visible types texts fs f setting o left right e c (compares_both o left right c.ty equality (inr (owner_ranged right r)) (row_fits_between o left right c.ty c.answer)) (inl l) (inr r)

  -- ---- what a unique_ptr is made to own

  content_of : (place : Place) (t : ExprType) (c : Category) (form : Form) → is_read_content texts a.program (typed place t c form) ≡ true → (is_read_form texts a.program (typed place t c form) ≡ true → IsWhole a visible types texts fs f setting (typed place t c form))
      → (is_read_owner texts a.program form ≡ true → is_owner_type t ≡ true → IsOwning a visible types texts fs f setting (typed place t c form))
      → (is_read_struct texts a.program (typed place t c form) ≡ true → IsAnyStruct a visible types texts fs f setting (typed place t c form)) → IsGivingIfAny a visible types texts fs f setting (typed place t c form)
  content_of place t c form b value owner structure =
      elim (or_cases (if is_owner_type t then is_read_owner texts a.program form else (is_plain_type t && is_read_form texts a.program form)) (is_struct_type t && is_read_struct texts a.program form) b) [
        | inl either ↦ inl (elim (either_read (typed place t c form) (is_read_owner texts a.program form) (is_plain_type t && is_read_form texts a.program form) either) [ inl v ↦ inl (value v) | inr o ↦ inr (owner o.1 o.0) ])
        | inr s ↦ inr (structure s)
      ]

  -- ---- unique_ptrs that are asked

  -- what decides
  deciding_of : (form : Form) → (is_read_form texts a.program form || is_read_unique texts a.program form) ≡ true → (is_read_form texts a.program form ≡ true → IsWhole a visible types texts fs f setting form) → (is_read_unique texts a.program form ≡ true → IsHolding a visible types texts fs f setting form)
      → IsDeciding a visible types texts fs f setting form
  deciding_of form b value unique = elim (or_cases (is_read_form texts a.program form) (is_read_unique texts a.program form) b) [ inl v ↦ by_value (value v) | inr u ↦ by_unique (unique u) ]

  got_from : (m : Method) (base given : Form) (d : DelimitersForm) (e : Typed) → is_get m ≡ true → IsHolding a visible types texts fs f setting base → IsCalled a.program.types (typed_in base).ty (typed_in base).category m given e
      → IsForm a visible types texts fs f setting (method base m given d) e
  got_from methods.Get base given d e b is h = lying_get_form a visible types texts fs f setting base (holding_lies a visible types texts fs f setting base is) given d e h
  got_from _ base given d e b is h = absurd (false≢true b)

  -- what one is made to own
  pushing_of : (place : Place) (t : ExprType) (c : Category) (form : Form) → ((if is_owner_type t then is_read_owner texts a.program form else (is_plain_type t && is_read_form texts a.program form)) || (is_struct_type t && is_read_struct texts a.program form)) ≡ true
      → (is_read_form texts a.program (typed place t c form) ≡ true → IsWhole a visible types texts fs f setting (typed place t c form)) → (is_read_owner texts a.program (typed place t c form) ≡ true → is_owner_type t ≡ true → IsOwning a visible types texts fs f setting (typed place t c form))
      → (is_read_struct texts a.program (typed place t c form) ≡ true → IsAnyStruct a visible types texts fs f setting (typed place t c form)) → IsPushing a visible types texts fs f setting (typed place t c form)
  pushing_of place t c form b value owner structure =
      elim (or_cases (if is_owner_type t then is_read_owner texts a.program form else (is_plain_type t && is_read_form texts a.program form)) (is_struct_type t && is_read_struct texts a.program form) b) [
        | inl either ↦ inl (elim (either_read (typed place t c form) (is_read_owner texts a.program form) (is_plain_type t && is_read_form texts a.program form) either) [
          | inl v ↦ inl (value v)
          | inr o ↦ inr (owner o.1 o.0)
        ])
        | inr s ↦ inr (structure s)
      ]

  -- ---- elements, and what is behind a pointer, an iterator or a unique_ptr

  pub indexed_of : (base position : Form) (closing : Place) (e : Typed) → (is_read_either base (is_read_owner texts a.program base) (is_read_form texts a.program base) || is_read_walker texts a.program base) ≡ true
      → indexed_at a.program.types e.place (typed_in base) (typed_in position) closing ≡ Ok e → (is_read_form texts a.program base ≡ true → IsWhole a visible types texts fs f setting base)
      → (is_read_owner texts a.program base ≡ true → is_owner_type (typed_in base).ty ≡ true → IsOwning a visible types texts fs f setting base) → (is_read_walker texts a.program base ≡ true → IsWalker a visible types texts fs f setting base)
      → IsWhole a visible types texts fs f setting position → IsReached a visible types texts fs f setting (index base position closing) e
  indexed_of base position closing e b h value owner walker at =
      elim (or_cases (is_read_either base (is_read_owner texts a.program base) (is_read_form texts a.program base)) (is_read_walker texts a.program base) b) [
        | inl either ↦ elim (either_read base (is_read_owner texts a.program base) (is_read_form texts a.program base) either) [
          | inl v ↦ view_index_reached a visible types texts fs f setting base position closing e (value v) at h
          | inr o ↦ owner_index_reached a visible types texts fs f setting base position closing e (owning_owner a visible types texts fs f setting base (owner o.1 o.0)) at h
        ]
        | inr w ↦ span_index_reached a visible types texts fs f setting base position closing e (walker w) at h
      ]

  pub edge_of : (base : Form) (which : Method) (given : Form) (delimiters : DelimitersForm) (e : Typed) → (is_edge which && (is_owner_type (form_type base) && is_read_owner texts a.program base)) ≡ true
      → IsCalled a.program.types (typed_in base).ty (typed_in base).category which given e → (is_read_owner texts a.program base ≡ true → is_owner_type (typed_in base).ty ≡ true → IsOwning a visible types texts fs f setting base)
      → IsReached a visible types texts fs f setting (method base which given delimiters) e
  edge_of base which given delimiters e b h owner =
      let one = and_parts (is_edge which) (is_owner_type (form_type base) && is_read_owner texts a.program base) b in
      let two = and_parts (is_owner_type (form_type base)) (is_read_owner texts a.program base) one.1 in
      edge_reached a visible types texts fs f setting base which given delimiters e (owning_owner a visible types texts fs f setting base (owner two.1 (ap is_owner_type (operand_typed base) ∙ two.0))) one.0 h

  -- what is behind an iterator or a unique_ptr
  pub behind_reached : (inner : Form) (e : Typed) → (is_read_walker texts a.program inner || is_read_unique texts a.program inner) ≡ true → IsMadeOf a.program a.function.locals visible e (dereference inner) → (is_read_walker texts a.program inner ≡ true → IsWalker a visible types texts fs f setting inner)
      → (is_read_unique texts a.program inner ≡ true → IsHolding a visible types texts fs f setting inner) → IsReached a visible types texts fs f setting (dereference inner) e
  behind_reached inner e b h walker unique =
      elim (or_cases (is_read_walker texts a.program inner) (is_read_unique texts a.program inner) b) [
        | inl w ↦ walker_dereferenced a visible types texts fs f setting inner e (walker w) h.0
        | inr u ↦ lying_dereferenced a visible types texts fs f setting inner (holding_lies a visible types texts fs f setting inner (unique u)) e h.0
      ]

  behind_of : (inner : Form) (e : Typed) (place : Place) → (is_read_form texts a.program inner || (is_read_walker texts a.program inner || is_read_unique texts a.program inner)) ≡ true → is_owner_type e.ty ≡ true → IsMadeOf a.program a.function.locals visible e (dereference inner)
      → (is_read_form texts a.program inner ≡ true → IsWhole a visible types texts fs f setting inner) → (is_read_walker texts a.program inner ≡ true → IsWalker a visible types texts fs f setting inner) → (is_read_unique texts a.program inner ≡ true → IsHolding a visible types texts fs f setting inner)
      → IsObjectAt a visible types texts fs f setting e ((form_uses a (dereference inner) place e.ty e.category).at)
  behind_of inner e place b n h value walker unique =
      elim (or_cases (is_read_form texts a.program inner) (is_read_walker texts a.program inner || is_read_unique texts a.program inner) b) [
        | inl v ↦ dereferenced_object a visible types texts fs f setting inner e place (value v) n h.0
        | inr others ↦ reached_object a visible types texts fs f setting (dereference inner) e place (behind_reached inner e others h walker unique) n
      ]

  struct_behind_of : (inner : Form) (e : Typed) (place : Place) → (is_read_form texts a.program inner || (is_read_walker texts a.program inner || is_read_unique texts a.program inner)) ≡ true → is_struct_type e.ty ≡ true → IsMadeOf a.program a.function.locals visible e (dereference inner)
      → (is_read_form texts a.program inner ≡ true → IsWhole a visible types texts fs f setting inner) → (is_read_walker texts a.program inner ≡ true → IsWalker a visible types texts fs f setting inner) → (is_read_unique texts a.program inner ≡ true → IsHolding a visible types texts fs f setting inner)
      → IsStructAt a visible types texts fs f setting e ((form_uses a (dereference inner) place e.ty e.category).at)
  struct_behind_of inner e place b n h value walker unique =
      elim (or_cases (is_read_form texts a.program inner) (is_read_walker texts a.program inner || is_read_unique texts a.program inner) b) [
        | inl v ↦ dereferenced_struct a visible types texts fs f setting inner e place (value v) n h.0
        | inr others ↦ reached_struct a visible types texts fs f setting (dereference inner) e place (behind_reached inner e others h walker unique) n
      ]

  -- an owner that a call refers to, or gives itself
  called_owner : (g : ℕ) (given : Form) (delimiters : DelimitersForm) (e : Typed) (place : Place) → is_owner_type e.ty ≡ true → HasResult a.program.types (slice_get a.program.functions g) e
      → ((of : FunctionForm) → slice_get a.program.functions g ≡ Some of → (s : State) → Standing s → Hands types texts fs f (parameter_types (Some of)) s (giving.arguments a (all_uses a given) delimiters (parameter_types (Some of)) s))
      → IsOwningAt a visible types texts fs f setting e ((form_uses a (call g given delimiters) place e.ty e.category).at) ((form_uses a (call g given delimiters) place e.ty e.category).object)
  called_owner g given delimiters e place n h hands = go (is_place e.category) refl
    where
      go : (b : Bool) → is_place e.category ≡ b → IsOwningAt a visible types texts fs f setting e ((form_uses a (call g given delimiters) place e.ty e.category).at) ((form_uses a (call g given delimiters) place e.ty e.category).object)
      go true there = stands_there (call_object a visible types texts fs f setting g given delimiters e place n there h hands)
      go false there = is_made (call_made a visible types texts fs f setting g given delimiters e place n there h hands)

  -- ---- any expression

  mutual
    pub whole_expression : (form : Form) → is_read_form texts a.program form ≡ true → IsExpression a.program a.function.locals visible form → IsWhole a visible types texts fs f setting form
    whole_expression (typed place t c form) b h =
        let parts = and_parts (is_plain_type t) (is_read_form texts a.program form) b in
        whole_of a visible types texts fs f setting place t c form (expression form (record { place = place; ty = t; category = c; form = form }) parts.0 parts.1 h)
    whole_expression _ b h = absurd h

    -- each form by the way it is made
    expression : (form : Form) (e : Typed) → is_plain_type e.ty ≡ true → is_read_form texts a.program form ≡ true → IsMadeOf a.program a.function.locals visible e form → IsForm a visible types texts fs f setting form e
    expression (number n) e q b h = literal a visible types texts fs f setting (number n) e (number_type n) h (number_value n) refl (λ place b. refl) (λ place behind into s wanted stands. constant_part types texts fs f into (number_type n) place (values.long n) s (number_value n) wanted) (λ place behind r s. refl)
    expression (character c) e q b h = literal a visible types texts fs f setting (character c) e ty.Char h refl refl (λ place b. refl) (λ place behind into s wanted stands. constant_part types texts fs f into ty.Char place (pos c) s refl wanted) (λ place behind r s. refl)
    expression (boolean x) e q b h = literal a visible types texts fs f setting (boolean x) e ty.Bool h refl refl (λ place b. refl) (λ place behind into s wanted stands. constant_part types texts fs f into ty.Bool place (values.truth x) s refl wanted) (λ place behind r s. refl)
    expression null e q b h = null_form a visible types texts fs f setting e h.0 h.1
    expression (local x) e q b h = variable_form a visible types texts fs f setting x e q h.0 h.1
    expression (call g given delimiters) e q b h = call_form a visible types texts fs f setting g given delimiters e q h.0 (λ of at s stands. handed delimiters given b h.2 (parameter_types (Some of)) (subst (λ (o : Option FunctionForm). are_given a.program.types (parameter_types o) given ≡ true) at h.1) (setting.taken g of at) s stands)
    expression (paren inner closing) e q b h = paren_form a visible types texts fs f setting inner closing e (ap (λ (y : Typed). y.ty) (ok_same h.0)) (ap (λ (y : Typed). y.category) (ok_same h.0)) (whole_expression inner b h.1)
    expression input e q b h = literal a visible types texts fs f setting input e ty.Long h refl refl (λ place b. refl) (λ place behind into s wanted stands. input_part types texts fs f into ty.Long place s refl wanted) (λ place behind r s. refl)
    expression (dereference inner) e q b h =
        elim (or_cases (is_read_form texts a.program inner) (is_read_walker texts a.program inner || is_read_unique texts a.program inner) b) [
          | inl value ↦ let is = whole_expression inner value h.1 in dereference_form a visible types texts fs f setting inner e (dereferenced_as a.program.types (typed_in inner) e is.kind q h.0) is
          | inr others ↦ reached_form a visible types texts fs f setting (dereference inner) e (behind_reached inner e others h (λ w. walker_expression inner w h.1) (λ u. holding_expression inner u h.1)) q refl (λ place b. refl)
        ]
    expression (member base which) e q b h = member_form a visible types texts fs f setting base which e (with_members a visible types texts fs f setting base which e (struct_expression base b h.1) h.0) h.0 q
    expression (negate inner) e q b h =
        let is = whole_expression inner b h.1 in
        let g = negated_as a.program.types (typed_in inner) e is.kind h.0 in
        let own : e.ty ≡ Of g.ty = ap (λ (y : Typed). y.ty) g.is in
        value_form a visible types texts fs f setting (negate inner) e g.ty own (ap (λ (y : Typed). y.category) g.is) g.worth refl (λ place b. refl)
        (λ place behind into s wanted stands. negated_part types texts fs f g.ty place (value (uses a inner) behind g.ty None) into s g.worth (sym (ap (λ (t : ExprType). operands.is_promoted (own_type t)) own) ∙ negated_promoted a.program.types (typed_in inner) e is.kind h.0) wanted stands.opened
        (is.valued g.number behind g.ty g.worth None s tt stands))
        (λ place behind r s. refl)
    expression (not inner) e q b h = deciding_negation a visible types texts fs f setting inner e h.0 (deciding_of inner b (λ v. whole_expression inner v h.1) (λ u. holding_expression inner u h.1))
    expression (address_of inner) e q b h =
        elim (or_cases (is_read_either inner (is_read_object texts a.program inner) (is_read_form texts a.program inner)) (is_read_struct texts a.program inner) b) [
          | inl either ↦ elim (either_read inner (is_read_object texts a.program inner) (is_read_form texts a.program inner) either) [
            | inl value ↦ let is = whole_expression inner value h.1 in address_form a visible types texts fs f setting inner e (addressed_as a.program.types (typed_in inner) e is.kind h.0) is
            | inr owner ↦ owner_address_form a visible types texts fs f setting inner e (object_expression inner owner.1 owner.0 h.1) h.0
          ]
          | inr structure ↦ struct_address_form a visible types texts fs f setting inner e (with_address a visible types texts fs f setting inner e (struct_expression inner structure h.1) h.0) h.0
        ]
    expression (binary o left right) e q b h =
        let c = combined_as o e.place (typed_in left) (typed_in right) e h.0 in
        elim (or_cases (is_read_form texts a.program left && is_read_form texts a.program right) _ b) [
          | inl values ↦ let parts = and_parts (is_read_form texts a.program left) (is_read_form texts a.program right) values in binary_form a visible types texts fs f setting o left right e c (whole_expression left parts.0 h.1) (whole_expression right parts.1 h.2)
          | inr others ↦ elim (or_cases (is_testing o && ((is_read_form texts a.program left || is_read_unique texts a.program left) && (is_read_form texts a.program right || is_read_unique texts a.program right))) _ others) [
            | inl tests ↦
                let one = and_parts (is_testing o) ((is_read_form texts a.program left || is_read_unique texts a.program left) && (is_read_form texts a.program right || is_read_unique texts a.program right)) tests in
                let both = and_parts (is_read_form texts a.program left || is_read_unique texts a.program left) (is_read_form texts a.program right || is_read_unique texts a.program right) one.1 in
                deciding_form a visible types texts fs f setting o left right e c (deciding_of left both.0 (λ v. whole_expression left v h.1) (λ u. holding_expression left u h.1)) (deciding_of right both.1 (λ v. whole_expression right v h.2) (λ u. holding_expression right u h.2))
            | inr equal ↦
                let equality = and_parts (is_equality o) _ equal in
                elim (or_cases (is_read_either left (is_read_owner texts a.program left) (is_read_form texts a.program left) && is_read_either right (is_read_owner texts a.program right) (is_read_form texts a.program right)) (is_read_walker texts a.program left && is_read_walker texts a.program right) equality.1) [
                  | inl texts_too ↦
                      let both = and_parts (is_read_either left (is_read_owner texts a.program left) (is_read_form texts a.program left)) (is_read_either right (is_read_owner texts a.program right) (is_read_form texts a.program right)) texts_too in
                      equated_form o left right e c equality.0 (either_of left both.0 (λ v. whole_expression left v h.1) (λ o n. owner_expression left o n h.1)) (either_of right both.1 (λ v. whole_expression right v h.2) (λ o n. owner_expression right o n h.2))
                  | inr walkers ↦
                      let both = and_parts (is_read_walker texts a.program left) (is_read_walker texts a.program right) walkers in
                      let l = walker_expression left both.0 h.1 in
                      compared_walkers_form a visible types texts fs f setting o left right e c (compares_both o left right c.ty equality.0 (inl (walker_ranged left l)) (row_fits_between o left right c.ty c.answer)) l (walker_expression right both.1 h.2)
                ]
          ]
        ]
    expression (text n) e q b h = text_form a visible types texts fs f setting n e h.0 h.1 b
    expression (construct structure elements delimiters) e q b h = absurd (false≢true b)
    expression (move x) e q b h = absurd (false≢true b)
    expression (make_unique id argument closing) e q b h = absurd (false≢true b)
    expression (text_of inner closing) e q b h = absurd (false≢true b)
    expression (index base position closing) e q b h =
        let parts = and_parts (is_read_either base (is_read_owner texts a.program base) (is_read_form texts a.program base) || is_read_walker texts a.program base) (is_read_form texts a.program position) b in
        let is = indexed_of base position closing e parts.0 h.0 (λ v. whole_expression base v h.1) (λ o n. owner_expression base o n h.1) (λ w. walker_expression base w h.1) (whole_expression position parts.1 h.2) in
        reached_form a visible types texts fs f setting (index base position closing) e is q refl (λ place b. refl)
    expression (method base which given delimiters) e q b h =
        elim (or_cases (is_asking which && ((is_read_either base (is_read_owner texts a.program base) (is_read_form texts a.program base) || is_read_walker texts a.program base) && is_read_form texts a.program given)) (is_get which && is_read_unique texts a.program base) b) [
          | inl asks ↦
              let one = and_parts (is_asking which) _ asks in
              let two = and_parts (is_read_either base (is_read_owner texts a.program base) (is_read_form texts a.program base) || is_read_walker texts a.program base) (is_read_form texts a.program given) one.1 in
              elim (or_cases (is_read_either base (is_read_owner texts a.program base) (is_read_form texts a.program base)) (is_read_walker texts a.program base) two.0) [
                | inl either ↦ elim (either_read base (is_read_owner texts a.program base) (is_read_form texts a.program base) either) [
                  | inl value ↦ method_form a visible types texts fs f setting base which given delimiters e (whole_expression base value h.1) (wholes given two.1 h.2) one.0 h.0
                  | inr owner ↦ owner_method_form a visible types texts fs f setting base which given delimiters e q (owning_owner a visible types texts fs f setting base (owner_expression base owner.1 owner.0 h.1)) one.0 h.0
                ]
                | inr walker ↦ span_method_form a visible types texts fs f setting base which given delimiters e (walker_expression base walker h.1) one.0 h.0
              ]
          | inr gets ↦ let one = and_parts (is_get which) (is_read_unique texts a.program base) gets in got_from which base given delimiters e one.0 (holding_expression base one.1 h.1) h.0
        ]
    expression (typed at t c form) e q b h = absurd h
    expression nothing e q b h = absurd h
    expression (first ⨟ others) e q b h = absurd h

    -- an owner
    pub owner_expression : (form : Form) → is_read_owner texts a.program form ≡ true → is_owner_type (typed_in form).ty ≡ true → IsExpression a.program a.function.locals visible form → IsOwning a visible types texts fs f setting form
    owner_expression (typed place t c form) b n h = owner_made form (record { place = place; ty = t; category = c; form = form }) b n h place
    owner_expression _ b n h = absurd h

    owner_made : (form : Form) (e : Typed) → is_read_owner texts a.program form ≡ true → is_owner_type e.ty ≡ true → IsMadeOf a.program a.function.locals visible e form → (place : Place) → OwningAt e (form_uses a form place e.ty e.category)
    owner_made (local x) e b n h place = stands_there (variable_object a visible types texts fs f setting x e n h.0 h.1)
    owner_made (paren inner closing) e b n h place =
        let same = ok_same h.0 in
        let t : (typed_in inner).ty ≡ e.ty = ap (λ (y : Typed). y.ty) same in
        owning_same a visible types texts fs f setting (typed_in inner) e ((uses a inner).at) ((uses a inner).object) t (ap (λ (y : Typed). y.category) same) (owner_expression inner b (ap is_owner_type t ∙ n) h.1)
    owner_made (binary o left right) e b n h place =
        let both = and_parts (is_read_either left (is_read_owner texts a.program left) (is_read_form texts a.program left)) (is_read_either right (is_read_owner texts a.program right) (is_read_form texts a.program right)) b in
        let c = combined_as o e.place (typed_in left) (typed_in right) e h.0 in
        let owner : owns_elements c.ty ≡ true = subst (λ (x : ExprType). is_owner_type x ≡ true) c.is.0 n in
        is_made (joined_made a visible types texts fs f setting o left right e place c (joins_texts o left right c.ty owner (row_fits_between o left right c.ty c.answer)) (either_of left both.0 (λ v. whole_expression left v h.1) (λ o n. owner_expression left o n h.1)) (either_of right both.1 (λ v. whole_expression right v h.2) (λ o n. owner_expression right o n h.2)))
    owner_made (text_of inner closing) e b n h place =
        elim (either_read inner (is_read_owner texts a.program inner) (is_read_form texts a.program inner) b) [
          | inl value ↦ is_made (text_of_view a visible types texts fs f setting inner closing e place h.0 (whole_expression inner value h.1))
          | inr owner ↦ is_made (text_of_owner a visible types texts fs f setting inner closing e place h.0 (owner_expression inner owner.1 owner.0 h.1))
        ]
    owner_made (move x) e b n h place =
        let is = moved_from_variable a visible types texts fs f setting x e h.1 in
        is_made (moved_made a visible types texts fs f setting x e h.0 is place (is.held (subst (λ (y : ExprType). is_owner_type y ≡ true) is.is n)))
    owner_made (call g given delimiters) e b n h place =
        called_owner g given delimiters e place n h.0
        (λ of at s stands. handed delimiters given b h.2 (parameter_types (Some of)) (subst (λ (o : Option FunctionForm). are_given a.program.types (parameter_types o) given ≡ true) at h.1) (setting.taken g of at) s stands)
    owner_made (dereference inner) e b n h place = stands_there (behind_of inner e place b n h (λ v. whole_expression inner v h.1) (λ w. walker_expression inner w h.1) (λ u. holding_expression inner u h.1))
    owner_made (member base which) e b n h place = stands_there (member_object a visible types texts fs f setting base which e (with_members a visible types texts fs f setting base which e (struct_expression base b h.1) h.0) h.0 n)
    owner_made (index base position closing) e b n h place =
        let parts = and_parts (is_read_either base (is_read_owner texts a.program base) (is_read_form texts a.program base) || is_read_walker texts a.program base) (is_read_form texts a.program position) b in
        let is = indexed_of base position closing e parts.0 h.0 (λ v. whole_expression base v h.1) (λ o n. owner_expression base o n h.1) (λ w. walker_expression base w h.1) (whole_expression position parts.1 h.2) in
        stands_there (reached_object a visible types texts fs f setting (index base position closing) e place is n)
    owner_made (method base which given delimiters) e b n h place =
        let is = edge_of base which given delimiters e b h.0 (λ o n. owner_expression base o n h.1) in
        stands_there (reached_object a visible types texts fs f setting (method base which given delimiters) e place is n)
    owner_made (typed at t c form) e b n h place = absurd h
    owner_made _ e b n h place = absurd (false≢true b)

    -- .. that stands at a place
    pub object_expression : (form : Form) → is_read_object texts a.program form ≡ true → is_owner_type (typed_in form).ty ≡ true → IsExpression a.program a.function.locals visible form → IsObject a visible types texts fs f setting form
    object_expression (typed place t c form) b n h =
        let parts = and_parts (is_place c) (is_read_object texts a.program form) b in object_made form (record { place = place; ty = t; category = c; form = form }) parts.1 n parts.0 h place
    object_expression _ b n h = absurd h

    object_made : (form : Form) (e : Typed) → is_read_object texts a.program form ≡ true → is_owner_type e.ty ≡ true → is_place e.category ≡ true → IsMadeOf a.program a.function.locals visible e form → (place : Place)
        → IsObjectAt a visible types texts fs f setting e ((form_uses a form place e.ty e.category).at)
    object_made (local x) e b n p h place = variable_object a visible types texts fs f setting x e n h.0 h.1
    object_made (paren inner closing) e b n p h place =
        let same = ok_same h.0 in
        let t : (typed_in inner).ty ≡ e.ty = ap (λ (y : Typed). y.ty) same in
        object_same a visible types texts fs f setting (typed_in inner) e ((uses a inner).at) t (ap (λ (y : Typed). y.category) same) (object_expression inner b (ap is_owner_type t ∙ n) h.1)
    object_made (call g given delimiters) e b n p h place =
        call_object a visible types texts fs f setting g given delimiters e place n p h.0
        (λ of at s stands. handed delimiters given b h.2 (parameter_types (Some of)) (subst (λ (o : Option FunctionForm). are_given a.program.types (parameter_types o) given ≡ true) at h.1) (setting.taken g of at) s stands)
    object_made (dereference inner) e b n p h place = behind_of inner e place b n h (λ v. whole_expression inner v h.1) (λ w. walker_expression inner w h.1) (λ u. holding_expression inner u h.1)
    object_made (member base which) e b n p h place = member_object a visible types texts fs f setting base which e (with_members a visible types texts fs f setting base which e (struct_expression base b h.1) h.0) h.0 n
    object_made (index base position closing) e b n p h place =
        let parts = and_parts (is_read_either base (is_read_owner texts a.program base) (is_read_form texts a.program base) || is_read_walker texts a.program base) (is_read_form texts a.program position) b in
        let is = indexed_of base position closing e parts.0 h.0 (λ v. whole_expression base v h.1) (λ o n. owner_expression base o n h.1) (λ w. walker_expression base w h.1) (whole_expression position parts.1 h.2) in
        reached_object a visible types texts fs f setting (index base position closing) e place is n
    object_made (method base which given delimiters) e b n p h place =
        let is = edge_of base which given delimiters e b h.0 (λ o n. owner_expression base o n h.1) in
        reached_object a visible types texts fs f setting (method base which given delimiters) e place is n
    object_made (typed place t c form) e b n p h at = absurd h
    object_made _ e b n p h place = absurd (false≢true b)

    -- a struct, at a place or made
    pub struct_expression : (form : Form) → is_read_struct texts a.program form ≡ true → IsExpression a.program a.function.locals visible form → IsAnyStruct a visible types texts fs f setting form
    struct_expression (typed place t c form) b h =
        let parts = and_parts (is_struct_type t) (is_read_struct texts a.program form) b in struct_made_of form (record { place = place; ty = t; category = c; form = form }) parts.0 parts.1 h place
    struct_expression _ b h = absurd h

    struct_made_of : (form : Form) (e : Typed) → is_struct_type e.ty ≡ true → is_read_struct texts a.program form ≡ true → IsMadeOf a.program a.function.locals visible e form → (place : Place)
        → IsAnyStructAt a visible types texts fs f setting e ((form_uses a form place e.ty e.category).at) ((form_uses a form place e.ty e.category).object)
    struct_made_of (local x) e n b h place = struct_there (variable_struct a visible types texts fs f setting x e n h.0 h.1)
    struct_made_of (member base which) e n b h place =
        struct_there (member_struct a visible types texts fs f setting base which e (with_members a visible types texts fs f setting base which e (struct_expression base b h.1) h.0) h.0 n)
    struct_made_of (paren inner closing) e n b h place =
        let same = ok_same h.0 in
        any_same a visible types texts fs f setting (typed_in inner) e ((uses a inner).at) ((uses a inner).object) (ap (λ (y : Typed). y.ty) same) (ap (λ (y : Typed). y.category) same) (struct_expression inner b h.1)
    struct_made_of (call g given delimiters) e n b h place =
        call_struct a visible types texts fs f setting g given delimiters e place n h.0
        (λ of at s stands. handed delimiters given b h.2 (parameter_types (Some of)) (subst (λ (o : Option FunctionForm). are_given a.program.types (parameter_types o) given ≡ true) at h.1) (setting.taken g of at) s stands)
    struct_made_of (construct which elements delimiters) e n b h place = struct_made (constructed a visible types texts fs f setting which elements delimiters e place h.0 h.1 h.3 (listings elements b h.2))
    struct_made_of (dereference inner) e n b h place = struct_there (struct_behind_of inner e place b n h (λ v. whole_expression inner v h.1) (λ w. walker_expression inner w h.1) (λ u. holding_expression inner u h.1))
    struct_made_of (index base position closing) e n b h place =
        let parts = and_parts (is_read_either base (is_read_owner texts a.program base) (is_read_form texts a.program base) || is_read_walker texts a.program base) (is_read_form texts a.program position) b in
        let is = indexed_of base position closing e parts.0 h.0 (λ v. whole_expression base v h.1) (λ o n. owner_expression base o n h.1) (λ w. walker_expression base w h.1) (whole_expression position parts.1 h.2) in
        struct_there (reached_struct a visible types texts fs f setting (index base position closing) e place is n)
    struct_made_of (method base which given delimiters) e n b h place =
        let is = edge_of base which given delimiters e b h.0 (λ o n. owner_expression base o n h.1) in
        struct_there (reached_struct a visible types texts fs f setting (method base which given delimiters) e place is n)
    struct_made_of (typed at t c form) e n b h place = absurd h
    struct_made_of _ e n b h place = absurd (false≢true b)

    -- what a struct is given for its members
    pub listings : (form : Form) → are_read_arguments texts a.program form ≡ true → AreExpressions a.program a.function.locals visible form → AreListed a visible types texts fs f setting form
    listings nothing b h = tt
    listings (e ⨟ es) b h =
        let parts = and_parts (is_read_either e (is_read_owner texts a.program e) (is_read_form texts a.program e) || (is_read_walker texts a.program e || (is_read_fresh texts a.program e || is_read_struct texts a.program e))) (are_read_arguments texts a.program es) b in (
          elim (or_cases (is_read_either e (is_read_owner texts a.program e) (is_read_form texts a.program e)) (is_read_walker texts a.program e || (is_read_fresh texts a.program e || is_read_struct texts a.program e)) parts.0) [
            | inl either ↦ elim (either_read e (is_read_owner texts a.program e) (is_read_form texts a.program e) either) [
              | inl value ↦ a_value_listed (whole_expression e value h.0) (literal_plain a visible types texts fs f setting e value h.0)
              | inr owner ↦ an_owner_listed (owner_expression e owner.1 owner.0 h.0) (replaced a visible types texts fs f setting e owner.1 owner.0 h.0)
            ]
            | inr others ↦ elim (or_cases (is_read_walker texts a.program e) (is_read_fresh texts a.program e || is_read_struct texts a.program e) others) [
              | inl walker ↦ a_walker_listed (walker_expression e walker h.0)
              | inr others ↦ elim (or_cases (is_read_fresh texts a.program e) (is_read_struct texts a.program e) others) [
                | inl fresh ↦ a_unique_listed (fresh_expression e fresh h.0) (renewing e fresh h.0)
                | inr structure ↦ a_struct_listed (struct_expression e structure h.0)
              ]
            ]
          ],
          listings es parts.1 h.1,
        )
    listings _ b h = absurd h

    -- an iterator or a span
    pub walker_expression : (form : Form) → is_read_walker texts a.program form ≡ true → IsExpression a.program a.function.locals visible form → IsWalker a visible types texts fs f setting form
    walker_expression (typed place t c form) b h =
        let parts = and_parts (is_walker_type t) (is_read_walker texts a.program form) b in walker_made form (record { place = place; ty = t; category = c; form = form }) parts.0 parts.1 h place
    walker_expression _ b h = absurd h

    walker_made : (form : Form) (e : Typed) → is_walker_type e.ty ≡ true → is_read_walker texts a.program form ≡ true → IsMadeOf a.program a.function.locals visible e form → (place : Place)
        → IsWalkerAt a visible types texts fs f setting e ((form_uses a form place e.ty e.category).pointing)
    walker_made (local x) e n b h place = variable_walker a visible types texts fs f setting x e n h.0 h.1
    walker_made (paren inner closing) e n b h place = walker_same a visible types texts fs f setting (typed_in inner) e ((uses a inner).pointing) (ap (λ (y : Typed). y.ty) (ok_same h.0)) (ap (λ (y : Typed). y.category) (ok_same h.0)) (walker_expression inner b h.1)
    walker_made (member base which) e n b h place = member_walker a visible types texts fs f setting base which e (with_members a visible types texts fs f setting base which e (struct_expression base b h.1) h.0) h.0 n
    walker_made (call g given delimiters) e n b h place =
        call_walker a visible types texts fs f setting g given delimiters e place n h.0
        (λ of at s stands. handed delimiters given b h.2 (parameter_types (Some of)) (subst (λ (o : Option FunctionForm). are_given a.program.types (parameter_types o) given ≡ true) at h.1) (setting.taken g of at) s stands)
    walker_made (method base which given delimiters) e n b h place =
        elim (or_cases (is_end which && (is_owner_type (form_type base) && is_read_owner texts a.program base)) _ b) [
          | inl ends ↦
              let one = and_parts (is_end which) (is_owner_type (form_type base) && is_read_owner texts a.program base) ends in
              let two = and_parts (is_owner_type (form_type base)) (is_read_owner texts a.program base) one.1 in
              end_walker a visible types texts fs f setting base which given delimiters e place (owning_owner a visible types texts fs f setting base (owner_expression base two.1 (ap is_owner_type (operand_typed base) ∙ two.0) h.1)) one.0 h.0
          | inr others ↦ elim (or_cases (is_subspan which && (is_read_walker texts a.program base && is_read_form texts a.program given)) _ others) [
            | inl part ↦
                let one = and_parts (is_subspan which) (is_read_walker texts a.program base && is_read_form texts a.program given) part in
                let two = and_parts (is_read_walker texts a.program base) (is_read_form texts a.program given) one.1 in
                parted base which given delimiters e place one.0 (walker_expression base two.0 h.1) (wholes given two.1 h.2) h.0
            | inr erases ↦
                let one = and_parts (is_erase which) (is_owner_type (form_type base) && (is_read_owner texts a.program base && is_read_walker texts a.program given)) erases in
                let two = and_parts (is_owner_type (form_type base)) (is_read_owner texts a.program base && is_read_walker texts a.program given) one.1 in
                let three = and_parts (is_read_owner texts a.program base) (is_read_walker texts a.program given) two.1 in
                erased base which given delimiters e place one.0 (owning_owner a visible types texts fs f setting base (owner_expression base three.0 (ap is_owner_type (operand_typed base) ∙ two.0) h.1)) (walker_given given three.1 h.2) h.0
          ]
        ]
    walker_made (binary o left right) e n b h place =
        let parts = and_parts (is_read_walker texts a.program left) (is_read_form texts a.program right) b in
        advanced_walker a visible types texts fs f setting o left right e place n (combined_as o e.place (typed_in left) (typed_in right) e h.0) (walker_expression left parts.0 h.1) (whole_expression right parts.1 h.2)
    walker_made (typed at t c form) e n b h place = absurd h
    walker_made (first ⨟ others) e n b h place = absurd h
    walker_made _ e n b h place = absurd (false≢true b)

    -- .. the first of several
    walker_given : (form : Form) → is_read_walker texts a.program form ≡ true → AreExpressions a.program a.function.locals visible form → IsFirstWalker form
    walker_given nothing b h = absurd (false≢true b)
    walker_given (e ⨟ es) b h = walker_expression e b h.0
    walker_given _ b h = absurd h

    -- a unique_ptr that is asked
    pub holding_expression : (form : Form) → is_read_unique texts a.program form ≡ true → IsExpression a.program a.function.locals visible form → IsHolding a visible types texts fs f setting form
    holding_expression (typed place t c form) b h =
        let parts = and_parts (is_unique_type t) (is_read_unique texts a.program form) b in holding_made form (record { place = place; ty = t; category = c; form = form }) parts.0 parts.1 h place
    holding_expression _ b h = absurd h

    holding_made : (form : Form) (e : Typed) → is_unique_type e.ty ≡ true → is_read_unique texts a.program form ≡ true → IsMadeOf a.program a.function.locals visible e form → (place : Place)
        → (let u = form_uses a form place e.ty e.category in IsHoldingAt a visible types texts fs f setting e u.at u.object u.decision u.named)
    holding_made (local x) e n b h place = holds_named (variable_unique a visible types texts fs f setting x e n h.0 h.1)
    holding_made (call g given delimiters) e n b h place =
        holds_answer (called_answer a visible types texts fs f setting g given delimiters e place n h.0
        (λ of at s stands. handed delimiters given b h.2 (parameter_types (Some of)) (subst (λ (o : Option FunctionForm). are_given a.program.types (parameter_types o) given ≡ true) at h.1) (setting.taken g of at) s stands))
    holding_made (move x) e n b h place = holds_answer (moved_answer a visible types texts fs f setting x e place n h.0 (moved_from_variable a visible types texts fs f setting x e h.1))
    holding_made (make_unique id nothing closing) e n b h place =
        holds_answer (made_answer a visible types texts fs f setting id nothing closing e place tt (and_parts (is_element a.program.types (type_at a.program.types id)) true b).0 h)
    holding_made (make_unique id (typed at t c form) closing) e n b h place =
        let parts = and_parts (is_element a.program.types (type_at a.program.types id)) (is_read_content texts a.program (typed at t c form)) b in
        holds_answer (made_answer a visible types texts fs f setting id (typed at t c form) closing e place
        (content_of at t c form parts.1 (λ value. whole_expression (typed at t c form) value h.3) (λ owner o. owner_expression (typed at t c form) owner o h.3) (λ structure. struct_expression (typed at t c form) structure h.3)) parts.0 h)
    holding_made (make_unique id _ closing) e n b h place = absurd h.3
    holding_made (paren inner closing) e n b h place =
        let same = ok_same h.0 in
        let u = uses a inner in
        holding_same a visible types texts fs f setting (typed_in inner) e u.at u.object u.decision (λ b. u.decision (closed_by closing b)) u.named (ap (λ (y : Typed). y.ty) same) (ap (λ (y : Typed). y.category) same) (λ b none. none (closed_by closing b))
        (holding_expression inner b h.1)
    holding_made (member base which) e n b h place = holds_named (member_unique a visible types texts fs f setting base which e (with_members a visible types texts fs f setting base which e (struct_expression base b h.1) h.0) h.0 n)
    holding_made (typed at t c form) e n b h place = absurd h
    holding_made _ e n b h place = absurd (false≢true b)

    -- a unique_ptr that is made, moved out of a variable, or given by a call
    pub fresh_expression : (form : Form) → is_read_fresh texts a.program form ≡ true → IsExpression a.program a.function.locals visible form → IsFresh a visible types texts fs f setting form
    fresh_expression (typed place t c form) b h =
        let parts = and_parts (is_unique_type t) (is_read_fresh texts a.program form) b in fresh_made form (record { place = place; ty = t; category = c; form = form }) parts.0 parts.1 h place
    fresh_expression _ b h = absurd h

    fresh_made : (form : Form) (e : Typed) → is_unique_type e.ty ≡ true → is_read_fresh texts a.program form ≡ true → IsMadeOf a.program a.function.locals visible e form → (place : Place)
        → IsFreshAt a visible types texts fs f setting e ((form_uses a form place e.ty e.category).object)
    fresh_made (make_unique id nothing closing) e n b h place = made_fresh a visible types texts fs f setting id nothing closing e place tt h
    fresh_made (make_unique id (typed at t c form) closing) e n b h place =
        made_fresh a visible types texts fs f setting id (typed at t c form) closing e place
        (content_of at t c form b (λ value. whole_expression (typed at t c form) value h.3) (λ owner o. owner_expression (typed at t c form) owner o h.3) (λ structure. struct_expression (typed at t c form) structure h.3)) h
    fresh_made (paren inner closing) e n b h place =
        let same = ok_same h.0 in
        fresh_same a visible types texts fs f setting (typed_in inner) e ((uses a inner).object) (ap (λ (y : Typed). y.ty) same) (ap (λ (y : Typed). y.category) same) (fresh_expression inner b h.1)
    fresh_made (move x) e n b h place = moved_fresh a visible types texts fs f setting x e place n h.0 (moved_from_variable a visible types texts fs f setting x e h.1)
    fresh_made (call g given delimiters) e n b h place =
        called_fresh a visible types texts fs f setting g given delimiters e place n h.0
        (λ of at s stands. handed delimiters given b h.2 (parameter_types (Some of)) (subst (λ (o : Option FunctionForm). are_given a.program.types (parameter_types o) given ≡ true) at h.1) (setting.taken g of at) s stands)
    fresh_made (typed at t c form) e n b h place = absurd h
    fresh_made _ e n b h place = absurd (false≢true b)

    -- .. and what it does to one that owned something
    pub renewing : (form : Form) → is_read_fresh texts a.program form ≡ true → IsExpression a.program a.function.locals visible form → IsRenewing a visible types texts fs f setting form
    renewing (typed place t c form) b h = renewing_made form (record { place = place; ty = t; category = c; form = form }) (and_parts (is_unique_type t) (is_read_fresh texts a.program form) b).1 h place
    renewing _ b h = absurd h

    renewing_made : (form : Form) (e : Typed) → is_read_fresh texts a.program form ≡ true → IsMadeOf a.program a.function.locals visible e form → (place : Place) → IsRenewingAt a visible types texts fs f setting e (moved_in form) ((form_uses a form place e.ty e.category).replacing)
    renewing_made (make_unique id nothing closing) e b h place =
        by_making place id nothing closing refl (λ target worth given. content_as a visible types texts fs f setting target worth id nothing closing e given h tt)
    renewing_made (make_unique id (typed at t c form) closing) e b h place =
        by_making place id (typed at t c form) closing refl
        (λ target worth given.
        content_as a visible types texts fs f setting target worth id (typed at t c form) closing e given h
        (pushing_of at t c form b (λ v. whole_expression (typed at t c form) v h.3) (λ o n. owner_expression (typed at t c form) o n h.3) (λ s. struct_expression (typed at t c form) s h.3)))
    renewing_made (move x) e b h place =
        let is = moved_from_variable a visible types texts fs f setting x e h.1 in by_moving (record { number = x; moved = e; place = place; seen = h.0; from = is; typed = is.is; replaces = refl; named = refl })
    renewing_made (paren inner closing) e b h place =
        let same = ok_same h.0 in
        renewing_same a visible types texts fs f setting (typed_in inner) e (moved_in inner) ((uses a inner).replacing) (ap (λ (y : Typed). y.ty) same) (ap (λ (y : Typed). y.category) same) (renewing inner b h.1)
    renewing_made (call g given delimiters) e b h place = by_temporary refl
    renewing_made (typed at t c form) e b h place = absurd h
    renewing_made _ e b h place = absurd (false≢true b)

    -- all of several
    pub wholes : (form : Form) → is_read_form texts a.program form ≡ true → AreExpressions a.program a.function.locals visible form → AreWhole a visible types texts fs f setting form
    wholes nothing b h = tt
    wholes (e ⨟ es) b h = let parts = and_parts (is_read_form texts a.program e) (is_read_form texts a.program es) b in (whole_expression e parts.0 h.0, wholes es parts.1 h.1)
    wholes _ b h = absurd h

    -- arguments
    pub handed : (d : DelimitersForm) (form : Form) → are_read_arguments texts a.program form ≡ true → AreExpressions a.program a.function.locals visible form → (ids : List TyId) → are_given a.program.types ids form ≡ true
        → ((n : ℕ) (id : TyId) → slice_get ids n ≡ Some id → IsHandedType a.program.types id) → (s : State) → Standing s
        → Hands types texts fs f ids s (giving.arguments a (all_uses a form) d ids s)
    handed d nothing b h [] g v s stands = none_handed types texts fs f s
    handed d nothing b h (id ∷ ids) g v s stands = absurd (false≢true g)
    handed d (e ⨟ es) b h [] g v s stands = absurd (false≢true g)
    handed d (e ⨟ es) b h (id ∷ ids) g v s stands =
        let parts = and_parts (is_read_either e (is_read_owner texts a.program e) (is_read_form texts a.program e) || (is_read_walker texts a.program e || (is_read_fresh texts a.program e || is_read_struct texts a.program e))) (are_read_arguments texts a.program es) b in
        let given = and_parts (is_given a.program.types (type_at a.program.types id) (typed_in e)) (are_given a.program.types ids es) g in
        let rest : (s : State) → Standing s → Hands types texts fs f ids s (giving.arguments a (all_uses a es) (behind_others d) ids s) = λ s stands. handed (behind_others d) es parts.1 h.1 ids given.1 (λ n. v (suc n)) s stands in
        elim (or_cases (is_read_either e (is_read_owner texts a.program e) (is_read_form texts a.program e)) (is_read_walker texts a.program e || (is_read_fresh texts a.program e || is_read_struct texts a.program e)) parts.0) [
          | inl either ↦ elim (either_read e (is_read_owner texts a.program e) (is_read_form texts a.program e) either) [
            | inl value ↦ first_handed a visible types texts fs f setting e es d id ids (whole_expression e value h.0) rest (v zero id refl) given.0 s stands
            | inr owner ↦ owner_first a visible types texts fs f setting e es d id ids (owner_expression e owner.1 owner.0 h.0) rest (v zero id refl) given.0 s stands
          ]
          | inr others ↦ elim (or_cases (is_read_walker texts a.program e) (is_read_fresh texts a.program e || is_read_struct texts a.program e) others) [
            | inl walker ↦ walker_first a visible types texts fs f setting e es d id ids (walker_expression e walker h.0) rest (v zero id refl) given.0 s stands
            | inr others ↦ elim (or_cases (is_read_fresh texts a.program e) (is_read_struct texts a.program e) others) [
              | inl fresh ↦ fresh_first a visible types texts fs f setting e es d id ids (fresh_expression e fresh h.0) rest (v zero id refl) given.0 s stands
              | inr structure ↦ struct_first a visible types texts fs f setting e es d id ids (struct_expression e structure h.0) rest (v zero id refl) given.0 s stands
            ]
          ]
        ]
    handed d _ b h ids g v s stands = absurd h

  -- ---- what a vector is given, and what a unique_ptr is made to own

  giving_expression : (form : Form) → is_read_either form (is_read_owner texts a.program form) (is_read_form texts a.program form) ≡ true → IsExpression a.program a.function.locals visible form → IsGiving a visible types texts fs f setting form
  giving_expression form b h = elim (either_read form (is_read_owner texts a.program form) (is_read_form texts a.program form) b) [
    | inl value ↦ inl (whole_expression form value h)
    | inr owner ↦ inr (owner_expression form owner.1 owner.0 h)
  ]

  pub giving_if_any : (form : Form) → is_read_content texts a.program form ≡ true → IsExpressionIfAny a.program a.function.locals visible form → IsGivingIfAny a visible types texts fs f setting form
  giving_if_any (typed place t c form) b h =
      pushing_of place t c form b (λ v. whole_expression (typed place t c form) v h) (λ o n. owner_expression (typed place t c form) o n h) (λ s. struct_expression (typed place t c form) s h)
  giving_if_any nothing b h = tt
  giving_if_any _ b h = absurd h

  pub givings : (form : Form) → are_read_elements texts a.program form ≡ true → AreExpressions a.program a.function.locals visible form → AreGiving a visible types texts fs f setting form
  givings nothing b h = tt
  givings (e ⨟ es) b h =
      let parts = and_parts (is_read_either e (is_read_owner texts a.program e) (is_read_form texts a.program e) || is_read_struct texts a.program e) (are_read_elements texts a.program es) b in (
        elim (or_cases (is_read_either e (is_read_owner texts a.program e) (is_read_form texts a.program e)) (is_read_struct texts a.program e) parts.0) [
          | inl either ↦ inl (giving_expression e either h.0)
          | inr structure ↦ inr (struct_expression e structure h.0)
        ],
        givings es parts.1 h.1,
      )
  givings _ b h = absurd h

  -- ---- an owner that is asked something

  pub asked_expression : (form : Form) → is_read_owner texts a.program form ≡ true → is_owner_type (typed_in form).ty ≡ true → IsExpression a.program a.function.locals visible form → IsOwner a visible types texts fs f setting form
  asked_expression form b n h = owning_owner a visible types texts fs f setting form (owner_expression form b n h)

  -- ---- what decides

  pub deciding_expression : (form : Form) → (is_read_form texts a.program form || is_read_unique texts a.program form) ≡ true → IsExpression a.program a.function.locals visible form → IsDeciding a visible types texts fs f setting form
  deciding_expression form b h = deciding_of form b (λ v. whole_expression form v h) (λ u. holding_expression form u h)

  -- ---- a unique_ptr at a place has a name

  pub named_unique : (form : Form) → is_place (typed_in form).category ≡ true → is_read_unique texts a.program form ≡ true → IsExpression a.program a.function.locals visible form → IsUnique a visible types texts fs f setting form
  named_unique form place b h = go (holding_expression form b h)
    where
      go : IsHolding a visible types texts fs f setting form → IsUnique a visible types texts fs f setting form
      go (holds_named is) = is
      go (holds_answer is) = absurd (false≢true (sym (ap is_place is.fresh.value) ∙ place))
