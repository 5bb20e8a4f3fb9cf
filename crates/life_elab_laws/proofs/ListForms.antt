-- A vector that is built by a list of its elements: it comes to life, and each is pushed.
use Rattle.std.proofs.Common.{◌≡◌, ℕ, true, false, List, None, Some, length, pos, refl}
use Rattle.std.proofs.lemmas.Bool.{and_parts, false≢true}
use Rattle.life_types.specs.Types.{Types}
use Rattle.life_types.specs.declared.place.Place.{Place}
use Rattle.life_types.specs.declared.ty.Ty.{Ty}
use Rattle.life_types.specs.declared.ty.Ty.TheVariants as ty
use Rattle.life_types.specs.declared.ty.TyId.{TyId}
use Rattle.life_typed.specs.BaseTypes.{type_at}
use Rattle.life_typed.specs.Delimiters.{DelimitersForm, behind_first, behind_others}
use Rattle.life_typed.specs.TypedForm.{Form, nothing, ◌⨟◌}
use Rattle.life_type_expr.specs.Lists.{is_taken}
use Rattle.life_core.specs.Function.{Function}
use Rattle.life_core.specs.Operands.{Operand}
use Rattle.life_core.specs.Step.{Changes, PushBack, Reserve}
use Rattle.life_core.specs.declared.instr.Form.TheVariants.{Plain, Zero}
use Rattle.life_proper.specs.declared.known.Known.{Known}
use Rattle.life_well_typed.specs.Expressions.{typed_in}
use Rattle.life_well_typed.specs.Members.{are_elements}
use Rattle.life_writer.specs.Around.{Around}
use Rattle.life_writer.specs.ExpressionForms.{all_uses, uses}
use Rattle.life_writer.specs.Giving.{given_over}
use Rattle.life_writer.specs.Lists.{filled_in, list_object, pushed, reserved}
use Rattle.life_writer.specs.Registers.{computed, constant}
use Rattle.life_writer.specs.Writing.{Gives, State, ◌>>◌, emit, gives}
use Rattle.life_elab_laws.proofs.ExpressionForms.{Standing}
use Rattle.life_elab_laws.proofs.Gifts.{Gift, IsPlaceOf, a_place, both, nothing as no_gift}
use Rattle.life_elab_laws.proofs.Instructions.{constant_part}
use Rattle.life_elab_laws.proofs.MadeForms.{BuildsIn, lived_builds, of_elements}
use Rattle.life_elab_laws.proofs.Making.{IsOpen, IsPlace}
use Rattle.life_elab_laws.proofs.Parts.{Part, gives_part, keep_part, leaf_part, then_part, under_part}
use Rattle.life_elab_laws.proofs.Setting.{Setting}
use Rattle.life_elab_laws.proofs.VariablePlaces.{stands_later}
use Rattle.life_elab_laws.proofs.PushedElements.{AreGiving, given_pushed, taking_part}
use Rattle.life_elab_laws.proofs.ObjectTypes.{is_element}

module _ (a : Around) (visible : List ℕ) (types : Types) (texts : ℕ) (fs : List Function) (f : Function) (setting : Setting a types fs f)
    (item : TyId) (worth : is_element a.program.types (type_at a.program.types item) ≡ true) where
  abbrev Stood : State → Type 0
  Stood s = Standing a visible types texts fs f setting s

  abbrev t : Ty
  t = type_at a.program.types item

  abbrev vector : Ty
  vector = ty.Vector item

  -- ---- behind what gave the vector

  module _ {A : Type 0} (P : Gift types texts fs f A) (x : A) (to : Operand) (typed : P.typed x → IsPlaceOf types texts fs f vector false to) (ready : (n : ℕ) (k : List Known) → P.ready x n k → IsPlace to n k) where
    abbrev G : Gift types texts fs f (Unit {0})
    G = no_gift types texts fs f

    abbrev Writes : State → State → Type 0
    Writes s r = Part types texts fs f P x None s (gives tt r) G

    -- .. which stays
    kept : {B : Type 0} (s : State) (w : Gives B) (Q : Gift types texts fs f B) → IsOpen s → Part types texts fs f P x None s w Q → Part types texts fs f P x None s (gives (x, w.given) w.state) (both types texts fs f P Q)
    kept s w Q opened part = keep_part types texts fs f P x s (gives x s) w P Q opened (gives_part types texts fs f P x None x s P (λ b h. h) (λ b k alive h. h)) part

    -- one and then another
    writes_then : (s r z : State) → IsOpen s → Writes s r → Writes r z → Writes s z
    writes_then s r z opened first second =
        let D = both types texts fs f P G in
        then_part types texts fs f P x None s (gives (x, tt) r) (gives tt z) D G opened (kept s (gives tt r) G opened first)
        (under_part types texts fs f P x D (x, tt) None r (gives tt z) G second (λ h. h.0) (λ n k h. h.0))

    elements_part : (es : Form) (d : DelimitersForm) (s : State) → AreGiving a visible types texts fs f setting es → are_elements a.program.types item es ≡ true → Stood s → Writes s (pushed t to (all_uses a es) d s)
    elements_part nothing d s givings all stands = gives_part types texts fs f P x None tt s G (λ b h. tt) (λ b k alive h. tt)
    elements_part (e ⨟ es) d s givings all stands =
        let parts = and_parts (is_taken a.program.types (Some t) (typed_in e)) (are_elements a.program.types item es) all in
        let r = given_over (uses a e) t (behind_first d) s >> λ y r. emit (uses a e).place (Changes to (PushBack y)) r in
        let first = given_pushed a visible types texts fs f setting P x to ready item typed worth e (behind_first d) (uses a e).place s givings.0 parts.0 stands in
        writes_then s r (pushed t to (all_uses a es) (behind_others d) r) stands.opened first (elements_part es (behind_others d) r givings.1 parts.1 (stands_later a visible s r first.grown stands))
    elements_part _ d s givings all stands = absurd givings

    filled_part : (opening : Place) (es : Form) (d : DelimitersForm) (s : State) → AreGiving a visible types texts fs f setting es → are_elements a.program.types item es ≡ true → Stood s
        → Writes s (pushed t to (all_uses a es) d (reserved opening (length (all_uses a es)) to s))
    filled_part opening es d s givings all stands =
        let r = reserved opening (length (all_uses a es)) to s in
        let first =
        taking_part a visible types texts fs f setting P x to ready vector typed opening ty.Size (λ s. computed None ty.Size opening (constant (pos (length (all_uses a es)))) s) Reserve s stands.opened
        (constant_part types texts fs f None ty.Size opening (pos (length (all_uses a es))) s refl tt) (λ r number. (number, record { uses = refl; leaves = refl; writes = refl; given = refl })) in
        writes_then s r (pushed t to (all_uses a es) d r) stands.opened first (elements_part es d r givings all (stands_later a visible s r first.grown stands))

  -- ---- the list

  pub list_builds : (opening : Place) (es : Form) (d : DelimitersForm) (s : State) → AreGiving a visible types texts fs f setting es → are_elements a.program.types item es ≡ true
      → BuildsIn a visible types texts fs f setting false vector s (gives (list_object a vector opening (all_uses a es) d) s)
  list_builds opening nothing d s givings all =
      lived_builds a visible types texts fs f setting false vector s s of_elements tt Zero (λ place to r. r) (leaf_part types texts fs f tt s (no_gift types texts fs f) (λ b. tt) (λ b k alive. tt)) refl
      (λ place to r stands still new.
      gives_part types texts fs f (both types texts fs f (no_gift types texts fs f) (a_place types texts fs f vector false)) (tt, to) None tt r (no_gift types texts fs f) (λ b h. tt) (λ b k alive h. tt))
      (λ e. absurd (false≢true e))
  list_builds opening (e ⨟ es) d s givings all =
      lived_builds a visible types texts fs f setting false vector s s of_elements tt Plain (filled_in a vector opening (all_uses a (e ⨟ es)) d)
      (leaf_part types texts fs f tt s (no_gift types texts fs f) (λ b. tt) (λ b k alive. tt)) refl
      (λ place to r stands still new.
      filled_part (both types texts fs f (no_gift types texts fs f) (a_place types texts fs f vector false)) (tt, to) to (λ h. h.1) (λ n k h. h.1) opening (e ⨟ es) d r givings all stands)
      (λ e. absurd (false≢true e))
  list_builds opening _ d s givings all = absurd givings
