-- Characters that are seen: of strings at a place, views and literals; how they are found, and then seen by a view.
use Rattle.std.proofs.Common.{◌≡◌, ◌≤◌, ◌++◌, ℕ, Bool, true, List, [], ◌∷◌, None, Option, refl, sym, ap, ◌∙◌, subst}
use Rattle.std.proofs.lemmas.Bool.{and_from}
use Rattle.life_types.specs.TypeTests.{is_value}
use Rattle.life_types.specs.Types.{Types}
use Rattle.life_types.specs.declared.place.Place.{Place}
use Rattle.life_types.specs.declared.ty.Ty.{Ty}
use Rattle.life_types.specs.declared.ty.Ty.TheVariants as ty
use Rattle.life_typed.specs.TypedForm.{Form}
use Rattle.life_core.specs.Function.{Function}
use Rattle.life_core.specs.Operands.{Whole, whole}
use Rattle.life_core.specs.Step.{Aim, Same}
use Rattle.life_core.specs.Touched.{place_uses}
use Rattle.life_proper.specs.OperandTypes.{spans}
use Rattle.life_proper.specs.Placed.{type_of}
use Rattle.life_proper.specs.WellFormed.{is_source_of}
use Rattle.life_proper.specs.declared.known.Known.{Known}
use Rattle.life_proper.specs.declared.known.Known.TheVariants as known
use Rattle.life_proper.proofs.ReadyTests.{both_known, uses_ready}
use Rattle.life_well_typed.specs.Expressions.{typed_in}
use Rattle.life_writer.specs.Around.{Around, own_type}
use Rattle.life_writer.specs.Characters.{InRegister, InString, InView, Seen, seen, seen_by, viewed}
use Rattle.life_writer.specs.ExpressionForms.{uses}
use Rattle.life_writer.specs.Registers.{computed, new_register}
use Rattle.life_writer.specs.Using.{operand, pointer, pointing, pointing_by}
use Rattle.life_writer.specs.Writing.{Gives, State, ◌>>◌, gives}
use Rattle.life_elab_laws.proofs.Emitting.{new_targeted}
use Rattle.life_elab_laws.proofs.ExpressionForms.{IsWhole, Standing, Valued}
use Rattle.life_elab_laws.proofs.Gifts.{Gift, IsAt, IsPlaceOf, a_number, a_place, a_pointer, both, nothing as no_gift, place_stays, pointer_stays, a_pointing}
use Rattle.life_elab_laws.proofs.Held.{place_there}
use Rattle.life_elab_laws.proofs.Instructions.{IsIntoOf, emit_part, into_of_later, location_at, same_part}
use Rattle.life_elab_laws.proofs.Locations.{is_seen}
use Rattle.life_elab_laws.proofs.Making.{IsPlace, IsPointer, Keeps}
use Rattle.life_elab_laws.proofs.ObjectForms.{IsOwner}
use Rattle.life_elab_laws.proofs.Parts.{Makes, Part, and_part, gives_part, keep_part, seen_part, then_part, under_part}
use Rattle.life_elab_laws.proofs.PointerForms.{own_typed, seen_view, view_whole}
use Rattle.life_elab_laws.proofs.Setting.{Setting}
use Rattle.life_elab_laws.proofs.VariablePlaces.{stands_later}
use Rattle.life_elab_laws.proofs.OwnerSteps.{whole_filling, whole_given}
use Rattle.life_writer.specs.Pointers.{Pointing, aimed}
use Rattle.life_typed.specs.declared.typed_expr.ExprType.TheVariants.{Of}

module _ (types : Types) (texts : ℕ) (fs : List Function) (f : Function) where
  -- ---- what is found: a string at a place, or what a view sees

  abbrev pub IsShownOf : Seen → Type 0
  IsShownOf (InString place o) = IsPlaceOf types texts fs f ty.Text true o
  IsShownOf (InView l) = IsAt types texts fs f ty.View l
  IsShownOf (InRegister r) = ⊥

  abbrev pub IsShownAt : Seen → ℕ → List Known → Type 0
  IsShownAt (InString place o) n k = IsPlace o n k
  IsShownAt (InView l) n k = IsPointer l n k
  IsShownAt (InRegister r) n k = ⊥

  pub shown_stays : (x : Seen) (n m : ℕ) (k j : List Known) → n ≤ m → IsShownAt x n k → Keeps f n None k j → IsShownAt x m j
  shown_stays (InString place o) n m k j h p keeps = place_stays types texts fs f o n m k j h p keeps
  shown_stays (InView l) n m k j h p keeps = pointer_stays types texts fs f l n m k j h p keeps
  shown_stays (InRegister r) n m k j h p keeps = absurd p

  abbrev pub a_shown : Gift types texts fs f Seen
  a_shown = record { typed = IsShownOf; ready = IsShownAt; stays = shown_stays }

  -- ---- it is seen by a view

  pub viewed_part : (x : Seen) (s : State) → Part types texts fs f a_shown x None s (viewed x s) (a_pointer types texts fs f ty.View)
  viewed_part (InString place o) s =
      let w = new_register place ty.View s in
      emit_part types texts fs f a_shown (InString place o) None s w place (λ r. Aim (whole r) (Whole o)) (whole w.given) (a_pointer types texts fs f ty.View)
      (new_targeted types f place ty.View s refl tt)
      (λ b h. let at = location_at types texts fs f place ty.View s refl b in (
        record {
          given = refl;
          formed = ap (λ (t : Ty). is_source_of types texts fs f t (Whole o)) at.typed ∙ and_from (spans types ty.View (type_of types f o)) true (ap (spans types ty.View) h.typed) refl;
        },
        at,
      ))
      (λ r n k e p. record { ready = uses_ready k (place_uses o ++ []) (r ∷ []) (both_known known.Ready k (place_uses o) [] (place_there o n k p) refl); after = refl })
      (λ k lt e. record { local = w.given; is = refl; below = lt; held = e })
  viewed_part (InView l) s = gives_part types texts fs f a_shown (InView l) None l s (a_pointer types texts fs f ty.View) (λ b h. h) (λ b k alive h. h)
  viewed_part (InRegister r) s = gives_part types texts fs f a_shown (InRegister r) None (whole r) s (a_pointer types texts fs f ty.View) (λ b h. absurd h) (λ b k alive h. absurd h)

module _ (a : Around) (visible : List ℕ) (types : Types) (texts : ℕ) (fs : List Function) (f : Function) (setting : Setting a types fs f) where
  -- ---- an expression whose characters are found

  abbrev pub Shows : Form → Type 0
  Shows form = (s : State) → Standing a visible types texts fs f setting s → Makes types texts fs f None s (seen (uses a form) s) (a_shown types texts fs f)

  -- a view, or a literal
  pub whole_shows : (form : Form) → IsWhole a visible types texts fs f setting form → is_seen (typed_in form).ty ≡ true → Shows form
  whole_shows form is sees s stands =
      subst (λ (w : Gives Seen). Makes types texts fs f None s w (a_shown types texts fs f)) (sym (seen_view a visible types texts fs f setting form sees s))
      (seen_part types texts fs f (no_gift types texts fs f) tt None s (pointer (uses a form) ty.View s) (a_pointer types texts fs f ty.View) InView (a_shown types texts fs f)
      (view_whole a visible types texts fs f setting form is sees s stands) (λ b h. h) (λ n k h. h))

  -- a string
  pub string_shows : (form : Form) → (is : IsOwner a visible types texts fs f setting form) → is.ty ≡ ty.Text → Shows form
  string_shows form is text s stands =
      let w = operand (uses a form) s in
      subst (λ (w : Gives Seen). Makes types texts fs f None s w (a_shown types texts fs f))
      (sym (ap (λ (x : Ty). seen_by x (uses a form) s) (ap own_type (sym (own_typed a visible types texts fs f setting form) ∙ is.is) ∙ text)))
      (seen_part types texts fs f (no_gift types texts fs f) tt None s w (a_place types texts fs f is.ty is.constant) (InString (uses a form).place) (a_shown types texts fs f)
      (is.names s stands)
      (λ b h. record { typed = h.typed ∙ text; held = refl }) (λ n k h. h))

  -- .. which gives a view the whole of it
  pub string_points : (form : Form) → (is : IsOwner a visible types texts fs f setting form) → is.ty ≡ ty.Text → (s : State) → Standing a visible types texts fs f setting s
      → Makes types texts fs f None s (pointing (uses a form) s) (a_pointing types texts fs f (Of ty.View))
  string_points form is text s stands =
      let w = operand (uses a form) s in
      subst (λ (w : Gives Pointing). Makes types texts fs f None s w (a_pointing types texts fs f (Of ty.View)))
      (sym (ap (λ (x : Ty). pointing_by x (uses a form) s) (ap own_type (sym (own_typed a visible types texts fs f setting form) ∙ is.is) ∙ text)))
      (seen_part types texts fs f (no_gift types texts fs f) tt None s w (a_place types texts fs f is.ty is.constant) (λ o. aimed (Whole o)) (a_pointing types texts fs f (Of ty.View))
      (is.names s stands)
      (λ b h. whole_given types texts fs f w.given (h.typed ∙ text)) (λ n k h. whole_filling types texts fs f w.given n k h))

  -- ---- two of them are compared

  pub compared_part : (left right : Form) → Shows left → Shows right → (equal : Bool) (place : Place) (into : Option ℕ) (t : Ty) (s : State) → t ≡ ty.Bool → is_value t ≡ true → IsIntoOf t s into → Standing a visible types texts fs f setting s
      → Valued a visible types texts fs f setting t into s (seen (uses a left) s >> λ x s. seen (uses a right) s >> λ y s. viewed x s >> λ p s. viewed y s >> λ q s. computed into t place (λ n. Same n p q equal) s)
  compared_part left right first second equal place into t s bool v wanted stands =
      let G = no_gift types texts fs f in
      let P = a_shown types texts fs f in
      let V = a_pointer types texts fs f ty.View in
      let x = seen (uses a left) s in
      let y = seen (uses a right) x.state in
      let p = viewed x.given y.state in
      let q = viewed y.given p.state in
      let B = both types texts fs f P P in
      let C = both types texts fs f B V in
      let D = both types texts fs f C V in
      let one = first s stands in
      let two = second x.state (stands_later a visible s x.state one.grown stands) in
      let pair = and_part types texts fs f G tt s x y P P stands.opened one two in
      let three = under_part types texts fs f P x.given B (x.given, y.given) None y.state p V (viewed_part types texts fs f x.given y.state) (λ h. h.0) (λ n k h. h.0) in
      let triple = keep_part types texts fs f G tt s (gives (x.given, y.given) y.state) p B V stands.opened pair three in
      let four = under_part types texts fs f P y.given C ((x.given, y.given), p.given) None p.state q V (viewed_part types texts fs f y.given p.state) (λ h. h.0.1) (λ n k h. h.0.1) in
      let all = keep_part types texts fs f G tt s (gives ((x.given, y.given), p.given) p.state) q C V stands.opened triple four in
      then_part types texts fs f G tt into s (gives (((x.given, y.given), p.given), q.given) q.state) _ D (a_number types texts fs f t) stands.opened all
      (under_part types texts fs f (both types texts fs f V V) (p.given, q.given) D (((x.given, y.given), p.given), q.given) into q.state _ (a_number types texts fs f t)
      (same_part types texts fs f into t place equal (p.given, q.given) q.state bool v (into_of_later t s q.state into all.grown wanted)) (λ h. (h.0.1, h.1)) (λ n k h. (h.0.1, h.1)))
