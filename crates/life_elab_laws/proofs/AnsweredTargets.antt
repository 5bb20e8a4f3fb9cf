-- A unique_ptr that a call gives, or that is made or moved out of a variable, is given what another one owns: it is a temporary, which is found behind that.
use Rattle.std.proofs.Common.{◌≡◌, ◌<◌, arith, inl, inr, ℕ, true, false, List, [], ◌∷◌, Contains, length, slice_get, Some, None, refl, sym, ap, ◌∙◌, subst, unwrap_or}
use Rattle.life_types.specs.Pointees.{ty_of}
use Rattle.life_types.specs.TypeTests.{is_value}
use Rattle.life_types.specs.Types.{Types}
use Rattle.life_types.specs.declared.place.Place.{Place}
use Rattle.life_types.specs.declared.ty.Ty.{Ty}
use Rattle.life_types.specs.declared.ty.Ty.TheVariants as ty
use Rattle.life_types.specs.declared.ty.TyId.{TyId}
use Rattle.life_typed.specs.TypedForm.{Form, Typed, whole as whole_form}
use Rattle.life_typed.specs.TypedStatement.{one}
use Rattle.life_core.specs.Function.{Function}
use Rattle.life_core.specs.Operands.{Operand, object_named, whole}
use Rattle.life_core.specs.Step.{Make}
use Rattle.life_core.specs.declared.instr.Made.{Made}
use Rattle.life_core.specs.declared.instr.Made.TheVariants as made
use Rattle.life_proper.specs.WellFormed.{is_itself, is_made_for}
use Rattle.life_well_typed.specs.Given.{is_given}
use Rattle.life_writer.specs.Around.{Around, type_of}
use Rattle.life_writer.specs.Assigning.{moved}
use Rattle.life_writer.specs.ExpressionForms.{uses, uses_if}
use Rattle.life_writer.specs.OwnerForms.{made_at, moved_from, moved_out_of, owned_operand}
use Rattle.life_writer.specs.Uses.{Uses}
use Rattle.life_writer.specs.Using.{location_in, operand, temporary_of}
use Rattle.life_writer.specs.Variables.{variable}
use Rattle.life_writer.specs.Writing.{Gives, State, ◌>>◌, emit, gives, mapped}
use Rattle.life_elab.specs.SimpleForms.{assigned}
use Rattle.life_elab_laws.proofs.AnsweredUniques.{IsAnswered, answer_here, unique_itself}
use Rattle.life_elab_laws.proofs.ExpressionForms.{Standing}
use Rattle.life_elab_laws.proofs.FreshUniques.{IsFresh}
use Rattle.life_elab_laws.proofs.Gifts.{Gift, a_given, a_place, both, nothing as no_gift}
use Rattle.life_elab_laws.proofs.Handing.{HandingAlone, handing_none, handing_then}
use Rattle.life_elab_laws.proofs.Held.{place_there}
use Rattle.life_elab_laws.proofs.ListedUniques.{IsRenewing, by_making, by_moving, by_temporary}
use Rattle.life_elab_laws.proofs.MadeForms.{Builds, temporary_below, temporary_beyond, temporary_made, temporary_source}
use Rattle.life_elab_laws.proofs.MoveSteps.{a_source, moves_part}
use Rattle.life_elab_laws.proofs.MovedOwners.{IsMovedFrom, given_moved, source_part}
use Rattle.life_elab_laws.proofs.ObjectForms.{other_number}
use Rattle.life_elab_laws.proofs.OwnedContents.{IsContentOf, is_found, is_over}
use Rattle.life_elab_laws.proofs.Parts.{Makes, and_part, then_part}
use Rattle.life_elab_laws.proofs.Setting.{Setting}
use Rattle.life_elab_laws.proofs.TakenBehind.{taken_behind}
use Rattle.life_elab_laws.proofs.TakenOwners.{made_takes, object_consumed}
use Rattle.life_elab_laws.proofs.UniqueStatements.{by_replacing}
use Rattle.life_elab_laws.proofs.UniqueSteps.{a_made, lying_type, made_uses_of, makes_part}
use Rattle.life_elab_laws.proofs.VariablePlaces.{IsVariableAt, stands_later}

module _ (a : Around) (visible : List ℕ) (types : Types) (texts : ℕ) (fs : List Function) (f : Function) (setting : Setting a types fs f) (target e : Typed) (to : IsAnswered a visible types texts fs f setting (whole_form target)) where
  abbrev Stood : State → Type 0
  Stood s = Standing a visible types texts fs f setting s

  abbrev G : Gift types texts fs f (Unit {0})
  G = no_gift types texts fs f

  abbrev Writes : State → State → Type 0
  Writes s s' = Makes types texts fs f None s (gives tt s') G

  abbrev owned : TyId
  owned = to.fresh.owned

  abbrev t : Ty
  t = ty.Unique owned

  abbrev P : Gift types texts fs f Operand
  P = a_place types texts fs f t false

  abbrev v : Uses
  v = uses a (whole_form target)

  abbrev u : Uses
  u = uses a (whole_form e)

  -- ---- the temporary

  built : (s : State) → Stood s → Builds a visible types texts fs f setting t s (v.object s)
  built s stands = to.fresh.builds owned to.worth (unique_itself a.program.types target owned to.fresh.is to.fresh.value) s stands

  abbrev there : State → Gives ℕ
  there s = temporary_of v t s

  abbrev place_of : State → Gives Operand
  place_of s = mapped object_named (there s)

  found : (s : State) → Stood s → Makes types texts fs f None s (place_of s) P
  found s stands = temporary_made a visible types texts fs f setting t v.place s (v.object s) (inr (inl to.worth)) (built s stands) stands

  -- it is none of the locals that were there
  aside : (s : State) → Stood s → (y : ℕ) → y < length s.locals → is_itself types texts fs f y (place_of s).given ≡ false
  aside s stands y below =
      other_number (there s).given y
      (λ e. let far = temporary_beyond a visible types texts fs f setting t v.place s (v.object s) (inr (inl to.worth)) (built s stands) stands in omega (arith, e, below, far))

  -- what is done to it, where it is found behind what it is given
  reached : (r : State) (act : Operand → State → State) (s : State) → Writes s (place_of r >> λ o s. act o s) → Writes s (operand v r >> λ o s. act o s)
  reached r act s writes = subst (λ (g : Gives Operand). Writes s (g >> λ o s. act o s)) (sym (answer_here a visible types texts fs f setting (whole_form target) to r)) writes

  -- ---- what another one owned

  -- which was built first, as a temporary
  taken_over : (equals : Place) (s : State) → Builds a visible types texts fs f setting t s (u.object s) → Stood s → Writes s (temporary_of u t s >> λ x s. operand v s >> λ o s. moved x equals o s)
  taken_over equals s builds stands =
      let w = temporary_of u t s in
      let o = place_of w.state in
      let S = a_source types texts fs f t in
      let first = temporary_source a visible types texts fs f setting t u.place s (u.object s) (inr (inl to.worth)) builds stands in
      let later = stands_later a visible s w.state first.grown stands in
      reached w.state (λ o s. moved w.given equals o s) s
      (then_part types texts fs f G tt None s (gives (w.given, o.given) o.state) _ (both types texts fs f S P) G stands.opened
      (and_part types texts fs f G tt s w o S P stands.opened first (found w.state later))
      (moves_part types texts fs f (both types texts fs f S P) (w.given, o.given) t o.given w.given equals o.state refl (λ h. (h.1, h.0)) (λ n k q. (q.1, q.0))
      (aside w.state later w.given (temporary_below a visible types texts fs f setting t u.place s (u.object s) (inr (inl to.worth)) builds stands))))

  -- .. or is a variable
  moved_over : (x : ℕ) (e : Typed) (is : IsMovedFrom a visible types texts fs f setting x e) → is.ty ≡ t → Contains visible x → (place equals : Place) (s : State) → Stood s → Writes s (operand v s >> λ o s. moved_out_of place x equals o s)
  moved_over x e is alike c place equals s stands =
      let o = place_of s in
      let S = a_source types texts fs f t in
      let first = found s stands in
      let later = stands_later a visible s o.state first.grown stands in
      let at : IsVariableAt a s x is.source = stands.seen x is.source c is.found in
      let from = subst (λ (w : Ty). Makes types texts fs f None o.state (gives (variable o.state x) o.state) (a_source types texts fs f w)) alike (source_part a visible types texts fs f setting x e is c o.state later) in
      let stays : variable o.state x ≡ variable s x = ap (λ (vs : List ℕ). unwrap_or (slice_get vs x) 0) first.grown.variables in
      reached s (λ o s. moved_out_of place x equals o s) s
      (then_part types texts fs f G tt None s (gives (o.given, variable o.state x) o.state) _ (both types texts fs f P S) G stands.opened
      (and_part types texts fs f G tt s o (gives (variable o.state x) o.state) P S stands.opened first from)
      (moves_part types texts fs f (both types texts fs f P S) (o.given, variable o.state x) t o.given (variable o.state x) place o.state refl (λ h. h) (λ n k q. q)
      (ap (λ (z : ℕ). is_itself types texts fs f z o.given) stays ∙ aside s stands (variable s x) (stands.opened (variable s x) at.lives))))

  -- ---- what is made

  abbrev makes : Place → Gives Made → State
  makes place w = w >> λ what s. operand v s >> λ o s. emit place (Make (location_in o) what) s

  -- of what was found first
  made_found : (w : Gives Made) (place : Place) (s : State) → Makes types texts fs f None s w (a_made types texts fs f owned) → Stood s → Writes s (makes place w)
  made_found w place s first stands =
      let o = place_of w.state in
      let M = a_made types texts fs f owned in
      let later = stands_later a visible s w.state first.grown stands in
      reached w.state (λ o s. emit place (Make (location_in o) w.given) s) s
      (then_part types texts fs f G tt None s (gives (w.given, o.given) o.state) _ (both types texts fs f M P) G stands.opened
      (and_part types texts fs f G tt s w o M P stands.opened first (found w.state later))
      (makes_part types texts fs f (both types texts fs f M P) (w.given, o.given) owned w.given (made_uses_of w.given) (whole (there w.state).given) place o.state (λ h. (h.1, h.0)) (λ n k q. (q.1, q.0))))

  -- .. or of an owner or a struct that was given over
  made_over : (c : Ty) → is_value c ≡ false → ty_of types owned ≡ c → (g : Gives ℕ) (place : Place) (s : State) → HandingAlone types texts fs f (g.given ∷ []) s g (a_given types texts fs f c) → Stood s → Writes s (makes place (mapped made.Of g))
  made_over c plain holds g place s over stands =
      let o = place_of g.state in
      let C = a_given types texts fs f c in
      let l = whole (there g.state).given in
      let later = stands_later a visible s g.state over.grown stands in
      reached g.state (λ o s. emit place (Make (location_in o) (made.Of g.given)) s) s
      (taken_behind types texts fs f g.given s (gives (g.given, o.given) o.state) (both types texts fs f C P)
      (handing_then types texts fs f (g.given ∷ []) [] s g o C P over (handing_none types texts fs f G tt g.state o P (found g.state later)))
      (l.local ∷ []) (Make l (made.Of g.given)) place (made_takes f l g.given)
      (λ q object. ap (λ (w : Ty). is_made_for types texts fs f w (made.Of g.given)) (lying_type types texts fs f owned false l q.1) ∙ object_consumed types f c (ty_of types owned) g.given plain holds q.0)
      (λ n k q. place_there o.given n k q.1))

  content_over : (id : TyId) (argument : Form) (closing : Place) → IsContentOf a visible types texts fs f setting owned id argument closing → (place : Place) (s : State) → Stood s → Writes s (makes place (owned_operand (type_of a id) (uses_if a argument) closing s))
  content_over id argument closing (is_found content) place s stands = made_found (owned_operand (type_of a id) (uses_if a argument) closing s) place s (content.makes s stands) stands
  content_over id argument closing (is_over c plain holds content) place s stands =
      let over = content s stands in
      subst (λ (w : Gives Made). Writes s (makes place w)) (sym over.is) (made_over c plain holds over.given place s over.over stands)

  -- ---- whichever it is, which may stand in parentheses

  module _ (equals behind : Place) (from : IsFresh a visible types texts fs f setting (whole_form e)) (given : is_given a.program.types t e ≡ true) where
    pub answered_renewed_part : IsRenewing a visible types texts fs f setting (whole_form e) → (s : State) → Stood s → Writes s (assigned a target equals (one e) behind s)
    answered_renewed_part (by_temporary none) s stands =
        by_replacing a visible types texts fs f setting target e equals behind owned to.fresh.is None s none from.value (taken_over equals s (from.builds owned to.worth given s stands) stands)
    answered_renewed_part (by_making place id argument closing replaces content) s stands =
        by_replacing a visible types texts fs f setting target e equals behind owned to.fresh.is (Some (λ s. mapped (made_at place) (owned_operand (type_of a id) (uses_if a argument) closing s))) s replaces from.value
        (content_over id argument closing (content owned to.worth given) place s stands)
    answered_renewed_part (by_moving moves) s stands =
        by_replacing a visible types texts fs f setting target e equals behind owned to.fresh.is (Some (moved_from moves.place moves.number)) s moves.replaces from.value
        (moved_over moves.number moves.moved moves.from (given_moved a visible types texts fs f setting t moves.from.ty e refl moves.from.owner moves.typed given) moves.seen moves.place equals s stands)
