-- The hidden range of a loop over an owner that is made: a temporary that lives as long as the loop, and a reference to it (ISO/IEC 14882:2017 [stmt.ranged]).
use Rattle.std.proofs.Common.{◌≡◌, ℕ, true, false, List, [], length, Option, Some, None, refl, sym, ap, ◌∙◌, subst, unwrap_or, arith, append-nil, inl}
use Rattle.life_elab_laws.proofs.ObjectTypes.{is_owner_of_values}
use Rattle.life_types.specs.Pointees.{or_void, ty_of}
use Rattle.life_types.specs.Trees.{HasPartsBelow}
use Rattle.life_types.specs.Types.{Types}
use Rattle.life_types.specs.declared.place.Place.{Place}
use Rattle.life_types.specs.declared.ty.Ty.{Ty}
use Rattle.life_types.specs.declared.ty.Ty.TheVariants as ty
use Rattle.life_types.specs.declared.ty.TyId.{TyId}
use Rattle.life_typed.specs.BaseTypes.{type_at}
use Rattle.life_typed.specs.Members.{element_type}
use Rattle.life_typed.specs.TypedForm.{Form}
use Rattle.life_typed.specs.declared.typed_expr.Category.{Category}
use Rattle.life_typed.specs.declared.typed_expr.Category.TheVariants as category
use Rattle.life_core.specs.Function.{Function}
use Rattle.life_core.specs.Operands.{Base, Operand, Owner, Place as Aimed, behind, object_named}
use Rattle.life_proper.specs.declared.known.Known.{Known}
use Rattle.life_well_typed.specs.Visible.{Visible}
use Rattle.life_writer.specs.Around.{Around}
use Rattle.life_writer.specs.Building.{Fill, built}
use Rattle.life_writer.specs.ExpressionForms.{uses}
use Rattle.life_writer.specs.Pointers.{aimed, pointed}
use Rattle.life_writer.specs.Registers.{type_number, typed_with}
use Rattle.life_writer.specs.Temporaries.{hidden, scoped}
use Rattle.life_writer.specs.Uses.{Remaining, Uses, own}
use Rattle.life_writer.specs.Variables.{end_pending}
use Rattle.life_writer.specs.Writing.{Gives, State, gives, mapped, ◌>>◌}
use Rattle.life_elab.specs.RangeForms.{element_of, hidden_by, opened, owner_range, range_type}
use Rattle.life_elab_laws.proofs.Conditions.{Spares}
use Rattle.life_elab_laws.proofs.Following.{Follows}
use Rattle.life_elab_laws.proofs.Fronts.{IsFront, front_itself, front_length}
use Rattle.life_elab_laws.proofs.Gifts.{Gift, a_place}
use Rattle.life_elab_laws.proofs.GivenApart.{same_apart}
use Rattle.life_elab_laws.proofs.Growing.{Begins, Grows}
use Rattle.life_elab_laws.proofs.MadeForms.{Builds, IsMade}
use Rattle.life_elab_laws.proofs.Making.{keeps_all}
use Rattle.life_elab_laws.proofs.OpenedRanges.{AreOpened, range_opened}
use Rattle.life_elab_laws.proofs.Opens.{Opens}
use Rattle.life_elab_laws.proofs.OrderedTypes.{type_ordered}
use Rattle.life_elab_laws.proofs.Parts.{Part, then_part}
use Rattle.life_elab_laws.proofs.PendingTemporaries.{pending_later}
use Rattle.life_elab_laws.proofs.PointerForms.{held_typed}
use Rattle.life_elab_laws.proofs.RangeBases.{a_hidden_base, base_spared, hidden_owner_part}
use Rattle.life_elab_laws.proofs.RangeOpening.{by_owner, element_number, elements_as, number_element, number_here, own_as, owner_range_element}
use Rattle.life_elab_laws.proofs.ScopedOwners.{acted, acted_opened, acted_table, made_opens, made_typed, x}
use Rattle.life_elab_laws.proofs.Setting.{Setting}
use Rattle.life_elab_laws.proofs.Shaped.{owner_later}
use Rattle.life_elab_laws.proofs.Shaping.{fine_none}
use Rattle.life_elab_laws.proofs.StillThere.{alive_grown}
use Rattle.life_elab_laws.proofs.Types.{type_added, types_before}
use Rattle.life_elab_laws.proofs.WrittenLocals.{fits_hidden, owner_below}

-- ---- a type is put into the table

typed_grows : (t : Ty) (s : State) → Grows s (typed_with t s)
typed_grows t s = record {
  locals = front_itself s.locals;
  types = types_before s.types.types t;
  count = omega arith;
  variables = refl;
  living = refl;
  pending = front_itself s.pending;
  fresh = λ y m lt. m;
  pends = λ low p. pending_later low s (typed_with t s) (front_itself s.locals) (types_before s.types.types t) refl refl p;
  outside = refl;
}

module _ (types : Types) (texts : ℕ) (fs : List Function) (f : Function) where
  typed_part : {A : Type 0} (P : Gift types texts fs f A) (y : A) (t : Ty) (s : State) → HasPartsBelow s.types (length s.types.types) t → Part types texts fs f P y None s (gives y (typed_with t s)) P
  typed_part P y t s within = record {
    grown = typed_grows t s;
    registers = (λ z l at. inl at, type_ordered s.types t (λ ordered. within));
    code = [];
    written = sym (append-nil s.code);
    runs = λ b p. record {
      fine = fine_none types texts fs f;
      typed = p;
      goes = λ k alive q. record {
        after = k;
        falls = refl;
        keeps = keeps_all f (length s.locals) None k;
        gives = q;
        alive = alive_grown f s (typed_with t s) k refl (typed_grows t s) alive;
        apart = same_apart f s (typed_with t s) refl refl refl;
        bears = λ x object m. absurd m;
      };
    };
  }

module _ (a : Around) (types : Types) (texts : ℕ) (fs : List Function) (f : Function) (setting : Setting a types fs f) (v : Visible) (form : Form) (is : IsMade a v.visible types texts fs f setting form) (colon closing : Place) (s : State) (h : Follows types f a v s) where
  abbrev e : Uses
  e = uses a form

  abbrev t : Ty
  t = is.ty

  abbrev w : Gives Remaining
  w = e.object s

  builds : Builds a v.visible types texts fs f setting t s w
  builds = is.builds s h.stands

  -- where it is built
  abbrev there : State
  there = acted a types texts fs f setting v s h t is.owner e.place w builds

  abbrev at : Operand
  at = object_named (x a types texts fs f setting v s h t is.owner e.place w builds)

  -- ---- the reference to it

  abbrev told : State
  told = typed_with t there

  abbrev id : TyId
  id = type_number t told

  abbrev last : Gives Base
  last = mapped (λ r. Owner (behind r)) (built (Fill colon (pointed (aimed (Aimed at)))) (hidden colon (ty.Reference id false)) told)

  abbrev H : Gift types texts fs f Base
  H = a_hidden_base types texts fs f (element_type a.program.types t) false

  table : IsFront a.program.types.types there.types.types
  table = acted_table a types texts fs f setting v s h t is.owner e.place w builds

  within : HasPartsBelow there.types (length there.types.types) t
  within = owner_below a.program.types there.types (front_length a.program.types.types there.types.types table) t is.owner

  here : Begins types f told → ty_of types id ≡ t
  here b = ap or_void (b.table id.0 t (type_added there.types.types t))

  fits : fits_hidden types told.types (ty.Reference id false) ≡ true
  fits = ap (λ (o : Option Ty). is_owner_of_values types (unwrap_or o ty.Void)) (type_added there.types.types t) ∙ owner_later a.program.types types setting.front setting.plain t is.owner

  referred : Part types texts fs f (a_place types texts fs f t false) at None there last H
  referred =
      then_part types texts fs f (a_place types texts fs f t false) at None there (gives at told) last (a_place types texts fs f t false) H (acted_opened a types texts fs f setting v s h t is.owner e.place w builds)
      (typed_part types texts fs f (a_place types texts fs f t false) at t there within)
      (hidden_owner_part types texts fs f a.program.types setting.front id false t at colon told is.owner here fits)

  -- ---- all that is hidden

  hidden_is : hidden_by (own e) colon e s ≡ last
  hidden_is =
      ap (λ (q : Ty). hidden_by q colon e s) (own_as a v.visible types texts fs f setting form t is.is)
      ∙ by_owner a v.visible types texts fs f setting t colon e s is.owner
      ∙ ap (λ (c : Category). owner_range c e s >> λ o s. range_type c (own e) s >> λ u s. mapped (λ r. Owner (behind r)) (built (Fill colon (pointed (aimed (Aimed o)))) (hidden colon u) s))
      (sym (held_typed a v.visible types texts fs f setting form) ∙ is.value)
      ∙ ap (λ (q : Ty). mapped object_named (w.given (scoped e.place q) w.state) >> λ o s. range_type category.Value q s >> λ u s. mapped (λ r. Owner (behind r)) (built (Fill colon (pointed (aimed (Aimed o)))) (hidden colon u) s))
      (own_as a v.visible types texts fs f setting form t is.is)
      ∙ ap (λ (g : Gives ℕ). mapped object_named g >> λ o s. range_type category.Value t s >> λ u s. mapped (λ r. Owner (behind r)) (built (Fill colon (pointed (aimed (Aimed o)))) (hidden colon u) s))
      (builds.lives (scoped e.place t) w.state)

  spared : (n : ℕ) (k j : List Known) → H.typed last.given → H.ready last.given n k → Spares types texts fs f k j → H.ready last.given n j
  spared n k j p q spares = base_spared types texts fs f (element_type a.program.types t) false last.given n k j p q spares

  -- ---- the loop's range

  pub made_elements : element_of (uses a form) ≡ Some (element_number t, false)
  made_elements = elements_as a v.visible types texts fs f setting form t category.Value (Some (element_number t, false)) is.is is.value (owner_range_element a v.visible types texts fs f setting false t is.owner)

  -- what it gives, and where its temporaries have ended
  abbrev K : Gift types texts fs f Base
  K = a_hidden_base types texts fs f (type_at a.program.types (element_number t)) false

  abbrev Hidden : Gives Base → Type 0
  Hidden g =
      Opens types texts fs f (K.ready g.given (length (end_pending (length s.pending) closing g.state).locals)) a v s (end_pending (length s.pending) closing g.state)
      × (Begins types f (end_pending (length s.pending) closing g.state) → K.typed g.given)

  hides : Hidden last
  hides = (
    made_opens a types texts fs f setting v s h t is.owner e.place w builds last H closing referred spared,
    λ b.
        subst (λ (q : Ty). (a_hidden_base types texts fs f q false).typed last.given) (sym (number_here a v.visible types texts fs f setting t is.owner))
        (made_typed a types texts fs f setting v s h t is.owner e.place w builds last H closing referred spared b),
  )

  pub made_opened : AreOpened a types texts fs f setting v (element_number t) false s (opened colon closing (uses a form) s)
  made_opened =
      let both = subst Hidden (sym hidden_is) hides in
      range_opened a types texts fs f setting v form (element_number t) false made_elements (number_element a v.visible types texts fs f setting t is.owner) colon closing s h both.0 both.1
