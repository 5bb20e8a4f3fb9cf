-- Output: a number, what a view sees, or the end of a line, which is the last text.
use Rattle.std.proofs.Common.{◌≡◌, inl, inr, ℕ, Bool, true, false, cond, List, [], ◌∷◌, length, nat_lt, None, refl, sym, ap, ◌∙◌, subst}
use Rattle.std.proofs.lemmas.Bool.{and_from, false≢true}
use Rattle.life_elab_laws.proofs.FormKinds.{is_read_expression, is_read_owner}
use Rattle.life_elab_laws.proofs.ObjectTypes.{is_owner_of_values}
use Rattle.life_elab_laws.proofs.StatementKinds.{is_read_item}
use Rattle.life_types.specs.TypeTests.{is_value, is_view}
use Rattle.life_types.specs.Types.{Types}
use Rattle.life_types.specs.declared.place.Place.{Place}
use Rattle.life_types.specs.declared.ty.Ty.{Ty}
use Rattle.life_types.specs.declared.ty.Ty.TheVariants as ty
use Rattle.life_typed.specs.TypedForm.{Typed, whole as whole_form}
use Rattle.life_typed.specs.TypedStatement.{ItemForm, line_end, printed}
use Rattle.life_typed.specs.declared.typed_expr.ExprType.{ExprType}
use Rattle.life_typed.specs.declared.typed_expr.ExprType.TheVariants.{NullPointer, Of, TextLiteral}
use Rattle.life_core.specs.Function.{Function}
use Rattle.life_core.specs.Operands.{Text, whole as whole_local}
use Rattle.life_core.specs.Step.{Aim, Ports, Writes, WritesView}
use Rattle.life_proper.specs.Knowing.{known_at}
use Rattle.life_proper.specs.Placed.{type_in}
use Rattle.life_proper.specs.WellFormed.{is_source_of}
use Rattle.life_well_typed.specs.Given.{is_number}
use Rattle.life_well_typed.specs.Statements.{IsItem}
use Rattle.life_proper.proofs.ReadyTests.{uses_ready}
use Rattle.life_writer.specs.Around.{Around, end_line, own_type}
use Rattle.life_writer.specs.Characters.{seen, viewed}
use Rattle.life_writer.specs.ExpressionForms.{uses}
use Rattle.life_writer.specs.Registers.{new_register}
use Rattle.life_writer.specs.Using.{value}
use Rattle.life_writer.specs.Writing.{State, ◌>>◌, emit, gives}
use Rattle.life_elab.specs.StatementForms.{item}
use Rattle.life_elab_laws.proofs.Emitting.{new_targeted}
use Rattle.life_elab_laws.proofs.ExpressionTypes.{own_value}
use Rattle.life_elab_laws.proofs.ExpressionForms.{IsWhole}
use Rattle.life_elab_laws.proofs.Expressions.{asked_expression, whole_expression}
use Rattle.life_elab_laws.proofs.Fronts.{last_there}
use Rattle.life_elab_laws.proofs.Gifts.{Gift, a_number, a_pointer, held_stays, nothing}
use Rattle.life_elab_laws.proofs.Growing.{Begins, added}
use Rattle.life_elab_laws.proofs.Held.{one_there}
use Rattle.life_elab_laws.proofs.Instructions.{acted_part, emit_part}
use Rattle.life_elab_laws.proofs.Locations.{is_seen}
use Rattle.life_elab_laws.proofs.Making.{IsHeld, keeps_all}
use Rattle.life_elab_laws.proofs.OperandsThere.{number_any, type_there}
use Rattle.life_elab_laws.proofs.Parts.{then_part}
use Rattle.life_elab_laws.proofs.Setting.{Setting}
use Rattle.life_elab_laws.proofs.Simples.{Acts}
use Rattle.life_elab_laws.proofs.SimpleTypes.{printed_type}
use Rattle.life_elab_laws.proofs.Types.{type_added}
use Rattle.life_elab_laws.proofs.VariablePlaces.{Stands}
use Rattle.life_elab_laws.proofs.SeenForms.{Shows, a_shown, string_shows, viewed_part, whole_shows}
use Rattle.life_elab_laws.proofs.ObjectForms.{IsOwner}
use Rattle.life_elab_laws.proofs.ElementForms.{either_read}
use Rattle.life_typed.specs.Statements.{is_printed}
use Rattle.life_elab_laws.proofs.Values.{by_owners}

module _ (a : Around) (visible : List ℕ) (types : Types) (texts : ℕ) (fs : List Function) (f : Function) (setting : Setting a types fs f) where
  -- a view in a register
  abbrev a_view : Gift types texts fs f ℕ
  a_view = record {
    typed = λ r. is_view (type_in types f (whole_local r)) ≡ true;
    ready = IsHeld;
    stays = held_stays types texts fs f;
  }

  -- the end of a line is the last text
  line_part : (place behind : Place) (s : State) → nat_lt (end_line a) texts ≡ true → Stands a visible s → Acts a visible types texts fs f setting s (item a (line_end place) behind s)
  line_part place behind s few stands =
      let w = new_register place ty.View s in
      let aimed : State = emit place (Aim (whole_local w.given) (Text (end_line a))) w.state in
      then_part types texts fs f (nothing types texts fs f) tt None s (gives w.given aimed) _ a_view (nothing types texts fs f) stands.opened
      (emit_part types texts fs f (nothing types texts fs f) tt None s w place (λ r. Aim (whole_local r) (Text (end_line a))) w.given a_view
      (new_targeted types f place ty.View s refl tt)
      (λ b p. (
        record {
          given = refl;
          formed = ap (λ (t : Ty). is_source_of types texts fs f t (Text (end_line a))) (at_view b) ∙ and_from true (nat_lt (end_line a) texts) refl few;
        },
        ap is_view (at_view b),
      ))
      (λ r n k e p. record { ready = refl; after = refl })
      (λ k lt e. (lt, e)))
      (acted_part types texts fs f a_view w.given place (Ports (WritesView (whole_local w.given))) aimed
      (λ h. record { given = refl; formed = h })
      (λ n k p. uses_ready k (w.given ∷ []) [] (one_there k w.given p.1))
      (λ n m k p. keeps_all f m None k))
    where
      at_view : Begins types f (new_register place ty.View s).state → type_in types f (whole_local (length s.locals)) ≡ ty.View
      at_view b =
          type_there types f (length s.locals) (added place ty.View s) ty.View (b.locals (length s.locals) (added place ty.View s) (last_there s.locals (added place ty.View s)))
          (b.table (added place ty.View s).ty.0 ty.View (type_added s.types.types ty.View)) refl

  printed_part : (e : Typed) (behind : Place) (s : State) → IsWhole a visible types texts fs f setting (whole_form e) → is_number e.ty ≡ true → Stands a visible s → Acts a visible types texts fs f setting s (item a (printed e) behind s)
  printed_part e behind s is n stands =
      let u = uses a (whole_form e) in
      let t = own_type e.ty in
      let w = value u behind t None s in
      subst (λ (b : Bool). Acts a visible types texts fs f setting s (cond b (w >> λ r s. emit e.place (Ports (Writes r)) s) (seen u s >> λ x s. viewed x s >> λ l s. emit e.place (Ports (WritesView l)) s))) (sym (own_value e.ty n))
      (then_part types texts fs f (nothing types texts fs f) tt None s w _ (a_number types texts fs f t) (nothing types texts fs f) stands.opened (is.valued n behind t (own_value e.ty n) None s tt stands)
      (acted_part types texts fs f (a_number types texts fs f t) w.given e.place (Ports (Writes w.given)) w.state (λ h. record { given = refl; formed = number_any types f t w.given h })
      (λ n k p. uses_ready k (w.given ∷ []) [] (one_there k w.given p.1)) (λ n m k p. keeps_all f m None k)))

  -- characters that are seen
  seen_part : (e : Typed) (behind : Place) (s : State) → Shows a visible types texts fs f setting (whole_form e) → is_value (own_type e.ty) ≡ false → Stands a visible s → Acts a visible types texts fs f setting s (item a (printed e) behind s)
  seen_part e behind s shows no_value stands =
      let u = uses a (whole_form e) in
      let x = seen u s in
      let l = viewed x.given x.state in
      let P = a_shown types texts fs f in
      let Q = a_pointer types texts fs f ty.View in
      subst (λ (b : Bool). Acts a visible types texts fs f setting s (cond b (value u behind (own_type e.ty) None s >> λ r s. emit e.place (Ports (Writes r)) s) (seen u s >> λ x s. viewed x s >> λ l s. emit e.place (Ports (WritesView l)) s))) (sym no_value)
      (then_part types texts fs f (nothing types texts fs f) tt None s l _ Q (nothing types texts fs f) stands.opened
      (then_part types texts fs f (nothing types texts fs f) tt None s x l P Q stands.opened (shows s stands) (viewed_part types texts fs f x.given x.state))
      (acted_part types texts fs f Q l.given e.place (Ports (WritesView l.given)) l.state (λ h. record { given = refl; formed = ap is_view h.typed })
      (λ n k p. uses_ready k (l.given.local ∷ []) [] (one_there k l.given.local (ap (known_at k) p.is ∙ p.held))) (λ n m k p. keeps_all f m None k)))

  -- what is printed and is no number has no value
  seen_no_value : (t : ExprType) → is_seen t ≡ true → is_value (own_type t) ≡ false
  seen_no_value (Of ty.View) e = refl
  seen_no_value (Of _) e = absurd (false≢true e)
  seen_no_value NullPointer e = refl
  seen_no_value TextLiteral e = refl

  -- a string
  string_part : (e : Typed) (behind : Place) (s : State) → IsOwner a visible types texts fs f setting (whole_form e) → is_printed e.ty ≡ true → Stands a visible s → Acts a visible types texts fs f setting s (item a (printed e) behind s)
  string_part e behind s is shown stands =
      let text = go is.ty is.owner (sym (ap is_printed is.is) ∙ shown) in
      seen_part e behind s (string_shows a visible types texts fs f setting (whole_form e) is text) (ap (λ (x : ExprType). is_value (own_type x)) is.is ∙ ap is_value text) stands
    where
      go : (t : Ty) → is_owner_of_values a.program.types t ≡ true → is_printed (Of t) ≡ true → t ≡ ty.Text
      go = by_owners a.program.types _ (λ p. refl) (λ element p. absurd (false≢true p))

  pub item_part : nat_lt (end_line a) texts ≡ true → (i : ItemForm) (behind : Place) (s : State) → is_read_item texts a.program i ≡ true → IsItem a.program a.function.locals a.function.result visible i → Stands a visible s → Acts a visible types texts fs f setting s (item a i behind s)
  item_part lines (printed e) behind s b h stands =
      elim (either_read (whole_form e) (is_read_owner texts a.program (whole_form e)) (is_read_expression texts a.program e) b) [
        | inl value ↦
            let is = whole_expression a visible types texts fs f setting (whole_form e) value h.2 in
            elim (printed_type a.program.types e is.kind.kind h.0) [
              | inl n ↦ printed_part e behind s is n stands
              | inr sees ↦ seen_part e behind s (whole_shows a visible types texts fs f setting (whole_form e) is sees) (seen_no_value e.ty sees) stands
            ]
        | inr owner ↦ string_part e behind s (asked_expression a visible types texts fs f setting (whole_form e) owner.1 owner.0 h.2) h.0 stands
      ]
  item_part lines (line_end place) behind s b h stands = line_part place behind s lines stands
