-- Strings that are made: two texts, one behind the other, a copy of a string, and a string of what a view sees.
use Rattle.std.proofs.Common.{◌≡◌, ℕ, Bool, true, false, List, None, refl}
use Rattle.life_types.specs.Types.{Types}
use Rattle.life_types.specs.declared.place.Place.{Place}
use Rattle.life_types.specs.declared.ty.Ty.TheVariants as ty
use Rattle.life_typed.specs.TypedForm.{Form}
use Rattle.life_core.specs.Function.{Function}
use Rattle.life_core.specs.Operands.{Characters, Location, Operand}
use Rattle.life_core.specs.Step.{Append, Change, Set}
use Rattle.life_core.specs.Touched.{characters_uses}
use Rattle.life_core.specs.declared.instr.Form.TheVariants.{Plain}
use Rattle.life_proper.specs.WellFormed.{are_characters, is_change_of}
use Rattle.life_proper.specs.declared.known.Known.{Known}
use Rattle.life_writer.specs.Around.{Around}
use Rattle.life_writer.specs.Characters.{InView, Seen, changed_by, characters, concatenated, seen}
use Rattle.life_writer.specs.ExpressionForms.{uses}
use Rattle.life_writer.specs.OwnerForms.{copied_at, set_to, standing}
use Rattle.life_writer.specs.Uses.{Remaining, lived}
use Rattle.life_writer.specs.Writing.{Gives, State, ◌>>◌, gives, mapped}
use Rattle.life_elab_laws.proofs.AppendForms.{Finds, IsFoundAt, IsFoundOf, a_found, append_takes, characters_part, characters_there, some_characters}
use Rattle.life_elab_laws.proofs.ChangeSteps.{Takes, changes_part}
use Rattle.life_elab_laws.proofs.ExpressionForms.{Placed, Pointed, Standing}
use Rattle.life_elab_laws.proofs.Gifts.{Gift, IsPlaceOf, a_place, a_pointer, both, nothing as no_gift}
use Rattle.life_elab_laws.proofs.MadeForms.{Builds, lived_builds, of_copy, of_texts, of_view}
use Rattle.life_elab_laws.proofs.Making.{IsOpen, IsPlace}
use Rattle.life_elab_laws.proofs.OwnerSteps.{copies_part}
use Rattle.life_elab_laws.proofs.PlainActs.{copied_at_plain, joined_plain, set_plain, standing_plain}
use Rattle.life_elab_laws.proofs.Parts.{Part, and_part, gives_part, keep_part, then_part, under_part}
use Rattle.life_elab_laws.proofs.Setting.{Setting}
use Rattle.life_elab_laws.proofs.VariablePlaces.{stands_later}

-- a string takes characters whole, or gains them
pub record IsTaking (types : Types) (texts : ℕ) (fs : List Function) (f : Function) (change : Characters → Change) : Type 0 where
  pub formed : (c : Characters) → are_characters types texts fs f c ≡ true → is_change_of types texts fs f ty.Text (change c) ≡ true
  pub takes : (c : Characters) → Takes types f (change c) (characters_uses c)

module _ (types : Types) (texts : ℕ) (fs : List Function) (f : Function) where
  abbrev G : Type 0 → Type 1
  G A = Gift types texts fs f A

  pub sets : IsTaking types texts fs f Set
  sets = record { formed = λ c h. h; takes = λ c. record { uses = refl; leaves = refl; writes = refl; given = refl } }

  pub gains : IsTaking types texts fs f Append
  gains = record { formed = λ c h. h; takes = append_takes types texts fs f }

  -- behind what found the characters and the string
  pub changed_part : {A : Type 0} (P : G A) (x : A) (change : Characters → Change) (place : Place) (from : Seen) (to : Operand) (s : State) → IsTaking types texts fs f change → IsOpen s
      → (P.typed x → IsFoundOf types texts fs f from × IsPlaceOf types texts fs f ty.Text false to) → ((n : ℕ) (k : List Known) → P.ready x n k → IsFoundAt types texts fs f from n k × IsPlace to n k)
      → Part types texts fs f P x None s (gives tt (changed_by change place from to s)) (no_gift types texts fs f)
  changed_part P x change place from to s taking opened typed ready =
      let c = characters from s in
      let C = some_characters types texts fs f in
      let D = both types texts fs f P C in
      let here = gives_part types texts fs f P x None x s P (λ b h. h) (λ b k alive h. h) in
      let found = under_part types texts fs f (a_found types texts fs f) from P x None s c C (characters_part types texts fs f from s) (λ h. (typed h).0) (λ n k h. (ready n k h).0) in
      let all = keep_part types texts fs f P x s (gives x s) c P C opened here found in
      then_part types texts fs f P x None s (gives (x, c.given) c.state) _ D (no_gift types texts fs f) opened all
      (changes_part types texts fs f D (x, c.given) ty.Text to (change c.given) (characters_uses c.given) place c.state
      (λ h. ((typed h.0).1, taking.formed c.given h.1, taking.takes c.given))
      (λ n k q. ((ready n k q.0).1, characters_there types texts fs f c.given n k q.1)))

module _ (a : Around) (visible : List ℕ) (types : Types) (texts : ℕ) (fs : List Function) (f : Function) (setting : Setting a types fs f) where
  abbrev Stood : State → Type 0
  Stood s = Standing a visible types texts fs f setting s

  abbrev Made : State → Gives Remaining → Type 0
  Made s w = Builds a visible types texts fs f setting ty.Text s w

  -- ---- two texts, one behind the other

  pub joined_builds : (left right : Form) (place : Place) (s : State) → Finds a visible types texts fs f setting left → Finds a visible types texts fs f setting right → Stood s
      → Made s (seen (uses a left) s >> λ x s. seen (uses a right) s >> λ y s. gives (lived Plain (concatenated place x y)) s)
  joined_builds left right place s first second stands =
      let x = seen (uses a left) s in
      let y = seen (uses a right) x.state in
      let P = a_found types texts fs f in
      let one = first s stands in
      lived_builds a visible types texts fs f setting true ty.Text s y.state of_texts (x.given, y.given) Plain (concatenated place x.given y.given)
      (and_part types texts fs f (no_gift types texts fs f) tt s x y P P stands.opened one (second x.state (stands_later a visible s x.state one.grown stands))) refl
      (λ at to t there still new.
      let D = both types texts fs f (both types texts fs f P P) (a_place types texts fs f ty.Text false) in
      let z : (Seen × Seen) × Operand = ((x.given, y.given), to) in
      let set : State = changed_by Set place x.given to t in
      let here = gives_part types texts fs f D z None z t D (λ b h. h) (λ b k alive h. h) in
      let begun = changed_part types texts fs f D z Set place x.given to t (sets types texts fs f) there.opened (λ h. (h.0.0, h.1)) (λ n k h. (h.0.0, h.1)) in
      let all = keep_part types texts fs f D z t (gives z t) (gives tt set) D (no_gift types texts fs f) there.opened here begun in
      let E = both types texts fs f D (no_gift types texts fs f) in
      then_part types texts fs f D z None t (gives (z, tt) set) _ E (no_gift types texts fs f) there.opened all
      (changed_part types texts fs f E (z, tt) Append place y.given to set (gains types texts fs f) (stands_later a visible t set begun.grown there).opened (λ h. (h.0.0.1, h.0.1)) (λ n k h. (h.0.0.1, h.0.1))))
      (λ e. joined_plain _ place x.given y.given)

  -- ---- a copy of a string

  pub copy_builds : (at : Place) (constant : Bool) (s : State) (w : Gives Operand) → Placed a visible types texts fs f setting ty.Text constant s w → Made s (mapped (λ from. lived Plain (copied_at at from)) w)
  copy_builds at constant s w placed =
      lived_builds a visible types texts fs f setting true ty.Text s w.state (of_copy ty.Text constant) w.given Plain (copied_at at w.given) placed refl
      (λ place to t there still new.
      copies_part types texts fs f (both types texts fs f (a_place types texts fs f ty.Text constant) (a_place types texts fs f ty.Text false)) (w.given, to) a.program.types ty.Text constant to w.given at t refl
      (λ h. (h.1, h.0)) (λ n k h. (h.1, h.0)))
      (λ e. copied_at_plain _ at w.given)

  -- ---- a string of a literal

  pub literal_builds : (s : State) (w : Gives Location) → Pointed a visible types texts fs f setting ty.View s w → Made s (w >> λ view s. gives (lived Plain (set_to view)) s)
  literal_builds s w pointed =
      let P = a_pointer types texts fs f ty.View in
      lived_builds a visible types texts fs f setting true ty.Text s w.state of_view w.given Plain (set_to w.given) pointed refl
      (λ place to t there still new.
      changed_part types texts fs f (both types texts fs f P (a_place types texts fs f ty.Text false)) (w.given, to) Set place (InView w.given) to t (sets types texts fs f) there.opened (λ h. (h.0, h.1)) (λ n k h. (h.0, h.1)))
      (λ e. set_plain _ w.given)

  -- ---- a string of what a view sees

  pub view_builds : (at : Place) (s : State) (w : Gives Location) → Pointed a visible types texts fs f setting ty.View s w → Made s (w >> λ view s. gives (lived Plain (standing at (set_to view))) s)
  view_builds at s w pointed =
      let P = a_pointer types texts fs f ty.View in
      lived_builds a visible types texts fs f setting true ty.Text s w.state of_view w.given Plain (standing at (set_to w.given)) pointed refl
      (λ place to t there still new.
      changed_part types texts fs f (both types texts fs f P (a_place types texts fs f ty.Text false)) (w.given, to) Set at (InView w.given) to t (sets types texts fs f) there.opened (λ h. (h.0, h.1)) (λ n k h. (h.0, h.1)))
      (λ e. standing_plain _ at w.given)
