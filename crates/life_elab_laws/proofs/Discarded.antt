-- What stands alone: a call that gives nothing, a change of an owner or of a unique_ptr, or any other expression, whose answer is thrown away.
use Rattle.std.proofs.Common.{◌≡◌, inl, inr, ℕ, Bool, true, false, if◌then◌else◌, List, cond, Option, Some, refl, sym, ap, ◌∙◌, subst, ◌&&◌, ◌||◌}
use Rattle.std.proofs.lemmas.Bool.{and_parts, false≢true, or_cases}
use Rattle.life_types.specs.TypeTests.{is_value, is_void}
use Rattle.life_types.specs.Types.{Types, class}
use Rattle.life_types.specs.declared.place.Place.{Place}
use Rattle.life_types.specs.declared.ty.Ty.{Ty}
use Rattle.life_types.specs.declared.ty.Ty.TheVariants as ty
use Rattle.life_typed.specs.declared.typed_expr.Category.{Category}
use Rattle.life_typed.specs.declared.typed_expr.Category.TheVariants as category
use Rattle.life_typed.specs.declared.typed_expr.ExprType.{ExprType}
use Rattle.life_typed.specs.declared.typed_expr.Method.{Method}
use Rattle.life_typed.specs.declared.typed_expr.Method.TheVariants as methods
use Rattle.life_core.specs.Function.{Function}
use Rattle.life_writer.specs.Around.{Around, own_type}
use Rattle.life_writer.specs.Around as around
use Rattle.life_writer.specs.Calls.{Called, called_alone}
use Rattle.life_writer.specs.Giving as giving
use Rattle.life_writer.specs.Uses.{own}
use Rattle.life_writer.specs.Using.{value}
use Rattle.life_writer.specs.Writing.{State, ◌>>◌, emit}
use Rattle.life_elab.specs.SimpleForms.{thrown, thrown_by}
use Rattle.life_elab_laws.proofs.HandingCalls.{alone_call_part}
use Rattle.life_elab_laws.proofs.ExpressionTypes.{IsAnswered, answers_nothing, answers_place, answers_raw, answers_value, answers_view, answers_owner, answers_walker, answers_struct, answers_made, answers_unique, answers_whole}
use Rattle.life_elab_laws.proofs.Gifts.{nothing}
use Rattle.life_elab_laws.proofs.Parts.{leaf_part}
use Rattle.life_elab_laws.proofs.Setting.{Setting}
use Rattle.life_elab_laws.proofs.VariablePlaces.{Stands}
use Rattle.life_elab_laws.proofs.ChangeForms.{change_part}
use Rattle.life_elab_laws.proofs.ElementForms.{either_read, operand_typed}
use Rattle.life_typed.specs.BaseTypes.{type_at}
use Rattle.life_elab_laws.proofs.AnsweredUniques.{holding_lies}
use Rattle.life_elab_laws.proofs.FormKinds.{are_read_arguments, are_read_elements, is_changing, is_reset, is_read_any, is_read_expression, is_read_owner, is_read_struct, is_read_unique, is_read_walker}
use Rattle.life_elab_laws.proofs.ObjectTypes.{is_owner_of_values, is_walker_of_values}
use Rattle.life_elab_laws.proofs.StatementKinds.{is_read_alone, is_read_doing, is_read_change}
use Rattle.life_elab_laws.proofs.TypeKinds.{form_type, gives_nothing, is_owner_type, is_plain_type}
use Rattle.life_typed.specs.TypedForm.{Form, Typed, call, method, null, paren, text, typed, whole as whole_form}
use Rattle.life_typed.specs.Delimiters.{DelimitersForm}
use Rattle.life_typed.specs.Programs.{FunctionForm}
use Rattle.life_well_typed.specs.Expressions.{IsExpression, IsMadeOf, are_given, parameter_types, typed_in}
use Rattle.life_typed.specs.declared.typed_expr.ExprType.TheVariants.{NullPointer, Of, TextLiteral}
use Rattle.life_writer.specs.ExpressionForms.{all_uses, form_uses, uses}
use Rattle.life_elab_laws.proofs.ExpressionForms.{IsCall}
use Rattle.life_elab_laws.proofs.Expressions.{asked_expression, givings, handed, holding_expression, owner_expression, struct_expression, whole_expression}
use Rattle.life_elab_laws.proofs.PointerForms.{call_form, result_later}
use Rattle.life_elab_laws.proofs.TypedKinds.{ok_same}
use Rattle.life_elab_laws.proofs.UniqueStatements.{reset_part}
use Rattle.life_elab_laws.proofs.ThrownAway as throwing
use Rattle.life_elab_laws.proofs.NoVoid.{no_void}
use Rattle.life_elab_laws.proofs.CalledValues.{called_value, no_edge}
use Rattle.life_elab_laws.proofs.ThrownAway.{any_struct_thrown, any_walker_thrown, holding_thrown, owning_thrown, whole_thrown}

nothing_plain : (t : ExprType) → gives_nothing t ≡ true → is_plain_type t ≡ true
nothing_plain (Of ty.Void) n = refl
nothing_plain (Of _) n = absurd (false≢true n)
nothing_plain NullPointer n = refl
nothing_plain TextLiteral n = refl

nothing_void : (t : ExprType) → gives_nothing t ≡ true → is_void (own_type t) ≡ true
nothing_void (Of t) n = n
nothing_void NullPointer n = refl
nothing_void TextLiteral n = refl

module _ (a : Around) (visible : List ℕ) (types : Types) (texts : ℕ) (fs : List Function) (f : Function) (setting : Setting a types fs f) where
  abbrev Whole : Typed → Type 0
  Whole e = IsExpression a.program a.function.locals visible (whole_form e)

  abbrev Standing : State → Type 0
  Standing s = Stands a visible s

  abbrev Acts : State → State → Type 0
  Acts s s' = throwing.Acts a visible types texts fs f setting s s'

  abbrev Throws : Typed → (behind : Place) → State → Type 0
  Throws e behind s = throwing.Throws a visible types texts fs f setting e behind s

  -- it is a value, and is done alone
  abbrev IsDone : Form → State → Type 0
  IsDone form s = ((typed_in form).category ≡ category.Value) × Acts s ((uses a form).alone s)

  -- no reference to it
  alone_is : (e : Typed) (behind : Place) (s : State) → e.category ≡ category.Value → gives_nothing e.ty ≡ true → thrown e.category (uses a (whole_form e)) behind s ≡ (uses a (whole_form e)).alone s
  alone_is e behind s held n =
      let u = uses a (whole_form e) in
      ap (λ (k : Category). thrown k u behind s) held
      ∙ ap (λ (b : Bool). cond b (u.alone s) (thrown_by (class (Some (own_type e.ty))) u behind s)) (nothing_void e.ty n)

  nothing_written : (s : State) → Acts s s
  nothing_written s = leaf_part types texts fs f tt s (nothing types texts fs f) (λ b. tt) (λ b k alive. tt)

  -- a call of a function that gives nothing
  called_done : (g : ℕ) (given : Form) (d : DelimitersForm) (e : Typed) (s : State) → gives_nothing e.ty ≡ true → are_read_arguments texts a.program given ≡ true → IsMadeOf a.program a.function.locals visible e (call g given d) → Standing s
      → (e.category ≡ category.Value) × Acts s (giving.arguments a (all_uses a given) d (around.parameter_types a g) s >> λ given s. emit e.place (called_alone g given) s)
  called_done g given d e s n b h stands = by_answer is.answers
    where
      c : Called
      c = record { function = g; arguments = given; delimiters = d }

      is : IsCall a visible types texts fs f setting c e.ty e.category
      is =
          (call_form a visible types texts fs f setting g given d e (nothing_plain e.ty n) h.0
          (λ of at s stands. handed a visible types texts fs f setting d given b h.2 (parameter_types (Some of)) (subst (λ (o : Option FunctionForm). are_given a.program.types (parameter_types o) given ≡ true) at h.1) (setting.taken g of at) s stands)).calls c refl

      Done : Type 0
      Done = (e.category ≡ category.Value) × Acts s (giving.arguments a (all_uses a given) d (around.parameter_types a g) s >> λ given s. emit e.place (called_alone g given) s)

      other : (t : Ty) → e.ty ≡ Of t → is_void t ≡ false → Done
      other t own none = absurd (false≢true (sym none ∙ sym (ap gives_nothing own) ∙ n))

      by_answer : IsAnswered a.program.types (type_at a.program.types is.of.result) e.ty e.category → Done
      by_answer (answers_nothing void own held) =
          (held, alone_call_part types texts fs f g is.of (setting.callees g is.of is.there) s (giving.arguments a (all_uses a given) d (around.parameter_types a g) s) (is.hands s stands) e.place (result_later a visible types texts fs f setting g is.of is.there ∙ void))
      by_answer (answers_value v own held) = other (type_at a.program.types is.of.result) own (no_void is_value refl (type_at a.program.types is.of.result) v)
      by_answer (answers_raw target constant raw w own held) = other (ty.Raw target constant) own refl
      by_answer (answers_walker w own held) = other (type_at a.program.types is.of.result) own (no_void (is_walker_of_values a.program.types) refl (type_at a.program.types is.of.result) w)
      by_answer (answers_unique target unique w own held) = other (ty.Unique target) own refl
      by_answer (answers_whole number back own held) = other (ty.Struct number) own refl
      by_answer (answers_made o own held) = other (type_at a.program.types is.of.result) own (no_void (is_owner_of_values a.program.types) refl (type_at a.program.types is.of.result) o)
      by_answer (answers_view view own held) = other ty.View own refl
      by_answer (answers_place target constant refers w own held) = other (type_at a.program.types target) own (no_void is_value refl (type_at a.program.types target) w)
      by_answer (answers_struct target constant number refers structure pointless own held) = other (ty.Struct number) own refl
      by_answer (answers_owner target constant refers o own held) = other (type_at a.program.types target) own (no_void (is_owner_of_values a.program.types) refl (type_at a.program.types target) o)

  -- a change of an owner or of a unique_ptr
  changed_done : (base : Form) (m : Method) (given : Form) (d : DelimitersForm) (e : Typed) (behind : Place) (s : State) → e.form ≡ method base m given d
      → is_read_change texts a.program base m given ≡ true → IsMadeOf a.program a.function.locals visible e (method base m given d) → Standing s → Throws e behind s
  changed_done base m given d e behind s same b h stands =
      let one = and_parts (is_changing m) (is_owner_type (form_type base) && (is_read_owner texts a.program base && are_read_elements texts a.program given)) b in
      let two = and_parts (is_owner_type (form_type base)) (is_read_owner texts a.program base && are_read_elements texts a.program given) one.1 in
      let three = and_parts (is_read_owner texts a.program base) (are_read_elements texts a.program given) two.1 in
      change_part a visible types texts fs f setting base m given d e behind s same
      (asked_expression a visible types texts fs f setting base three.0 (ap is_owner_type (operand_typed base) ∙ two.0) h.1)
      (givings a visible types texts fs f setting given three.1 h.2) one.0 h.0 stands

  reset_done : (base : Form) (m : Method) (given : Form) (d : DelimitersForm) (e : Typed) (behind : Place) (s : State) → e.form ≡ method base m given d → (is_reset m && is_read_unique texts a.program base) ≡ true
      → IsMadeOf a.program a.function.locals visible e (method base m given d) → Standing s → Throws e behind s
  reset_done base methods.Reset given d e behind s same b h stands =
      reset_part a visible types texts fs f setting base given d e behind s same (holding_lies a visible types texts fs f setting base (holding_expression a visible types texts fs f setting base b h.1)) h.0 stands
  reset_done base _ given d e behind s same b h stands = absurd (false≢true b)

  mutual
    done : (form : Form) → gives_nothing (typed_in form).ty ≡ true → is_read_doing texts a.program form ≡ true → IsExpression a.program a.function.locals visible form → (s : State) → Standing s → IsDone form s
    done (typed place t c form) n b h s stands = done_by form (record { place = place; ty = t; category = c; form = form }) refl n b h s stands
    done _ n b h s stands = absurd h

    done_by : (form : Form) (e : Typed) → e.form ≡ form → gives_nothing e.ty ≡ true → is_read_doing texts a.program form ≡ true → IsMadeOf a.program a.function.locals visible e form → (s : State) → Standing s
        → (e.category ≡ category.Value) × Acts s ((form_uses a form e.place e.ty e.category).alone s)
    done_by null e same n b h s stands = (h.1, nothing_written s)
    done_by (text number) e same n b h s stands = (h.1, nothing_written s)
    done_by (call g given d) e same n b h s stands = called_done g given d e s n b h stands
    done_by (paren inner closing) e same n b h s stands =
        let is = done inner (ap (λ (y : Typed). gives_nothing y.ty) (ok_same h.0) ∙ n) b h.1 s stands in
        (sym (ap (λ (y : Typed). y.category) (ok_same h.0)) ∙ is.0, is.1)
    done_by (method base m given d) e same n b h s stands =
        let held = called_value a.program.types (typed_in base).ty (typed_in base).category m given e (no_edge (λ (m : Method). is_read_doing texts a.program (method base m given d)) refl refl m b) h.0 in
        (held, subst (Acts s) (alone_is e e.place s held n ∙ ap (λ (g : Form). (uses a (typed e.place e.ty e.category g)).alone s) same) acts)
      where
        acts : Throws e e.place s
        acts = elim (or_cases (is_read_change texts a.program base m given) (is_reset m && is_read_unique texts a.program base) b) [
          | inl changes ↦ changed_done base m given d e e.place s same changes h stands
          | inr resets ↦ reset_done base m given d e e.place s same resets h stands
        ]
    done_by (typed at t c form) e same n b h s stands = absurd h
    done_by _ e same n b h s stands = absurd (false≢true b)

  -- ---- any of these

  pub discarded_part : (e : Typed) (behind : Place) (s : State) → is_read_alone texts a.program e ≡ true → Whole e → Standing s → Throws e behind s
  discarded_part e behind s b h stands = go (gives_nothing e.ty) refl b
    where
      any : Bool
      any = is_read_any texts a.program e || (is_read_walker texts a.program (whole_form e) || (is_read_struct texts a.program (whole_form e) || is_read_unique texts a.program (whole_form e)))

      go : (n : Bool) → gives_nothing e.ty ≡ n → (if n then is_read_doing texts a.program (whole_form e) else any) ≡ true → Throws e behind s
      go true n doing = let is = done (whole_form e) n doing h s stands in subst (Acts s) (sym (alone_is e behind s is.0 n)) is.1
      go false n reads =
          elim (or_cases (is_read_any texts a.program e) (is_read_walker texts a.program (whole_form e) || (is_read_struct texts a.program (whole_form e) || is_read_unique texts a.program (whole_form e))) reads) [
            | inl either ↦ elim (either_read (whole_form e) (is_read_owner texts a.program (whole_form e)) (is_read_expression texts a.program e) either) [
              | inl value ↦ whole_thrown a visible types texts fs f setting e behind s (whole_expression a visible types texts fs f setting (whole_form e) value h) n stands
              | inr owner ↦ owning_thrown a visible types texts fs f setting e behind s (owner_expression a visible types texts fs f setting (whole_form e) owner.1 owner.0 h) stands
            ]
            | inr others ↦ elim (or_cases (is_read_walker texts a.program (whole_form e)) (is_read_struct texts a.program (whole_form e) || is_read_unique texts a.program (whole_form e)) others) [
              | inl walks ↦ any_walker_thrown a visible types texts fs f setting e behind s walks h stands
              | inr others ↦ elim (or_cases (is_read_struct texts a.program (whole_form e)) (is_read_unique texts a.program (whole_form e)) others) [
                | inl structure ↦ any_struct_thrown a visible types texts fs f setting e behind s (struct_expression a visible types texts fs f setting (whole_form e) structure h) stands
                | inr unique ↦ holding_thrown a visible types texts fs f setting e behind s (holding_expression a visible types texts fs f setting (whole_form e) unique h) stands
              ]
            ]
          ]
