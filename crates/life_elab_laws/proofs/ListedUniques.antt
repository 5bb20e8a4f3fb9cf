-- What a unique_ptr that is a member is given by what is listed for it: nothing, what is made, what is moved out of a variable, or what a call gives.
use Rattle.std.proofs.Common.{◌≡◌, inl, inr, ℕ, true, false, List, [], ◌∷◌, Option, None, Some, slice_get, refl, sym, ap, ◌∙◌, subst, length, ◌<◌}
use Rattle.life_elab_laws.proofs.ObjectTypes.{is_element}
use Rattle.life_types.specs.Trees.{members_at}
use Rattle.life_types.specs.Types.{Types}
use Rattle.life_types.specs.declared.place.Place.{Place}
use Rattle.life_types.specs.declared.ty.Ty.{Ty}
use Rattle.life_types.specs.declared.ty.Ty.TheVariants as ty
use Rattle.life_types.specs.declared.ty.TyId.{TyId}
use Rattle.life_typed.specs.BaseTypes.{type_at}
use Rattle.life_typed.specs.Conversions.{fits}
use Rattle.life_typed.specs.TypedForm.{Form, Typed}
use Rattle.life_typed.specs.declared.typed_expr.Category.{Category}
use Rattle.life_typed.specs.declared.typed_expr.ExprType.{ExprType}
use Rattle.life_type_expr.specs.Lists.{fits_at_all}
use Rattle.life_type_stmt.specs.Simples.{moved_in}
use Rattle.life_core.specs.Function.{Function}
use Rattle.life_core.specs.Operands.{Location, Name, Operand, whole}
use Rattle.life_core.specs.Step.{Make, Move}
use Rattle.life_core.specs.declared.instr.Made.TheVariants as made
use Rattle.life_proper.specs.declared.known.Known.{Known}
use Rattle.life_well_typed.specs.Expressions.{typed_in}
use Rattle.life_well_typed.specs.Given.{is_given}
use Rattle.life_writer.specs.Around.{Around, type_of}
use Rattle.life_writer.specs.Assigning.{acted, replaced_by}
use Rattle.life_writer.specs.ExpressionForms.{uses, uses_if}
use Rattle.life_writer.specs.Lists.{member_target}
use Rattle.life_writer.specs.OwnerForms.{made_at, made_null, moved_from, owned_operand}
use Rattle.life_writer.specs.Uses.{Act, Uses}
use Rattle.life_writer.specs.Using.{location_in, temporary_of, with_member}
use Rattle.life_writer.specs.Variables.{variable}
use Rattle.life_writer.specs.Writing.{Gives, State, emit, gives, mapped}
use Rattle.life_elab_laws.proofs.ExpressionForms.{IsWhole, Standing}
use Rattle.life_elab_laws.proofs.FreshUniques.{IsFresh, given_null}
use Rattle.life_elab_laws.proofs.Gifts.{IsPlaceOf}
use Rattle.life_elab_laws.proofs.MadeForms.{temporary_source}
use Rattle.life_elab_laws.proofs.Making.{IsPlace}
use Rattle.life_elab_laws.proofs.MovedOwners.{given_moved}
use Rattle.life_elab_laws.proofs.OwnedContents.{IsContentOf}
use Rattle.life_elab_laws.proofs.ReplacedOwners.{IsMovingAt}
use Rattle.life_elab_laws.proofs.Setting.{Setting}
use Rattle.life_elab_laws.proofs.StructSteps.{member_placed, member_there}
use Rattle.life_elab_laws.proofs.StructTypes.{has_member, member_type_there}
use Rattle.life_elab_laws.proofs.UniqueWrites.{content_there, moved_there, nulled_there, source_there}
use Rattle.life_elab_laws.proofs.WrittenMembers.{IsWriting}

-- ---- how it replaces what was owned

module _ (a : Around) (visible : List ℕ) (types : Types) (texts : ℕ) (fs : List Function) (f : Function) (setting : Setting a types fs f) where
  pub data IsRenewingAt (e : Typed) (name : Option ℕ) (replacing : Option (State → Gives Act)) : Type 0 where
    by_temporary : replacing ≡ None → IsRenewingAt e name replacing
    by_moving : IsMovingAt a visible types texts fs f setting name e.ty replacing → IsRenewingAt e name replacing
    by_making : (place : Place) (id : TyId) (argument : Form) (closing : Place) → replacing ≡ Some (λ s. mapped (made_at place) (owned_operand (type_of a id) (uses_if a argument) closing s))
        → ((target : TyId) → is_element a.program.types (type_at a.program.types target) ≡ true → is_given a.program.types (ty.Unique target) e ≡ true → IsContentOf a visible types texts fs f setting target id argument closing)
        → IsRenewingAt e name replacing

  -- .. in parentheses
  pub renewing_same : (e e' : Typed) (name : Option ℕ) (replacing : Option (State → Gives Act)) → e.ty ≡ e'.ty → e.category ≡ e'.category → IsRenewingAt e name replacing → IsRenewingAt e' name replacing
  renewing_same e e' name replacing t c (by_temporary none) = by_temporary none
  renewing_same e e' name replacing t c (by_moving m) = by_moving (record { number = m.number; moved = m.moved; place = m.place; seen = m.seen; from = m.from; typed = sym t ∙ m.typed; replaces = m.replaces; named = m.named })
  renewing_same e e' name replacing t c (by_making place id argument closing replaces content) =
      by_making place id argument closing replaces
      (λ target worth given.
      content target worth (subst (λ (x : ExprType). fits_at_all (fits a.program.types (ty.Unique target) x e.category) ≡ true) (sym t) (subst (λ (k : Category). fits_at_all (fits a.program.types (ty.Unique target) e'.ty k) ≡ true) (sym c) given)))

  abbrev pub IsRenewing : Form → Type 0
  IsRenewing form = IsRenewingAt (typed_in form) (moved_in form) ((uses a form).replacing)

-- ---- a member is given it, however the members are written

module _ (a : Around) (visible : List ℕ) (types : Types) (texts : ℕ) (fs : List Function) (f : Function) (setting : Setting a types fs f) (number : ℕ) (to : Operand) {Writes : State → State → Type 0}
    (ways : IsWriting types texts fs f (ty.Struct number) to Writes) (m : ℕ) (id : TyId) (there : slice_get (members_at a.program.types number) m ≡ Some id)
    (target : TyId) (same : type_at a.program.types id ≡ ty.Unique target) (worth : is_element a.program.types (type_at a.program.types target) ≡ true)
    (e : Form) (at : Place) (s : State) (given : is_given a.program.types (ty.Unique target) (typed_in e) ≡ true) (stands : Standing a visible types texts fs f setting s)
    (lies : (n : ℕ) × ((to ≡ Name (whole n)) × (n < length s.locals))) where
  abbrev t : Ty
  t = ty.Unique target

  abbrev u : Uses
  u = uses a e

  -- the struct is a local
  abbrev l : Location
  l = record { local = lies.0; members = m ∷ [] }

  here_is : with_member m to ≡ Name l
  here_is = ap (with_member m) lies.1.0

  typed : IsPlaceOf types texts fs f (ty.Struct number) false to → IsPlaceOf types texts fs f t false (Name l)
  typed h =
      subst (IsPlaceOf types texts fs f t false) here_is
      (member_placed types texts fs f number m id t false to (ap (λ (ids : List TyId). slice_get ids m) (setting.members number) ∙ there)
      (member_type_there a.program.types types setting.front id (has_member a.program.types setting.values number m id there) ∙ same) h)

  ready : (n : ℕ) (k : List Known) → IsPlace to n k → IsPlace (Name l) n k
  ready n k h = subst (λ (o : Operand). IsPlace o n k) here_is (member_there m to n k h)

  -- what is done to it where it lies
  done : (act : Operand → State) → Writes s (act (Name l)) → Writes s (act (with_member m to))
  done act writes = subst (λ (o : Operand). Writes s (act o)) (sym here_is) writes

  abbrev Given : Type 0
  Given = Writes s (acted (replaced_by u.replacing (temporary_of u t) s) (member_target m to) at)

  by : (r : Option (State → Gives Act)) → u.replacing ≡ r → Writes s (acted (replaced_by r (temporary_of u t) s) (member_target m to) at) → Given
  by r is w = subst (λ (r : Option (State → Gives Act)). Writes s (acted (replaced_by r (temporary_of u t) s) (member_target m to) at)) (sym is) w

  -- nothing
  pub null_given : IsWhole a visible types texts fs f setting e → Given
  null_given is =
      by (Some (λ s. gives made_null s)) (is.as_null (given_null a visible types texts fs f setting (typed_in e) is.kind.kind target given).0).1.0
      (done (λ o. emit at (Make (location_in o) made.Null) s) (nulled_there a visible types texts fs f setting (ty.Struct number) to ways target l typed ready at s stands.opened))

  -- something
  pub fresh_given : IsFresh a visible types texts fs f setting e → IsRenewing a visible types texts fs f setting e → Given
  fresh_given from (by_temporary none) =
      let w = temporary_of u t s in
      let first = temporary_source a visible types texts fs f setting t u.place s (u.object s) (inr (inl worth)) (from.builds target worth given s stands) stands in
      by None none (done (λ o. emit at (Move o w.given) w.state) (source_there a visible types texts fs f setting (ty.Struct number) to ways target l typed ready w at s stands.opened first refl))
  fresh_given from (by_moving moves) =
      by (Some (moved_from moves.place moves.number)) moves.replaces
      (done (λ o. emit moves.place (Move o (variable s moves.number)) s)
      (moved_there a visible types texts fs f setting (ty.Struct number) to ways target l typed ready moves.number moves.moved moves.from
      (given_moved a visible types texts fs f setting t moves.from.ty (typed_in e) refl moves.from.owner moves.typed given) moves.seen moves.place s stands refl))
  fresh_given from (by_making place made_id argument closing replaces content) =
      let w = owned_operand (type_of a made_id) (uses_if a argument) closing s in
      by (Some (λ s. mapped (made_at place) (owned_operand (type_of a made_id) (uses_if a argument) closing s))) replaces
      (done (λ o. emit place (Make (location_in o) w.given) w.state) (content_there a visible types texts fs f setting (ty.Struct number) to ways target l typed ready made_id argument closing (content target worth given) place s stands))
