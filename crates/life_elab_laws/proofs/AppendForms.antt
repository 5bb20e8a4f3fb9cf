-- Characters that a string gains at its end, or takes: of strings, views, literals and single ones.
use Rattle.std.proofs.Common.{◌≡◌, ◌≤◌, ℕ, Bool, true, false, ◌||◌, List, None, refl, sym, ap, ◌∙◌, subst, inl, inr}
use Rattle.std.proofs.lemmas.Bool.{false≢true, or_cases}
use Rattle.life_elab_laws.proofs.ObjectTypes.{is_owner_of_values}
use Rattle.life_types.specs.TypeTests.{is_char, is_view}
use Rattle.life_types.specs.Types.{Types}
use Rattle.life_types.specs.declared.place.Place.{Place}
use Rattle.life_types.specs.declared.ty.Ty.{Ty}
use Rattle.life_types.specs.declared.ty.Ty.TheVariants as ty
use Rattle.life_tree.specs.declared.operator.CompoundOperator.TheVariants as compound_by
use Rattle.life_typed.specs.Operators.{is_text_like}
use Rattle.life_typed.specs.Statements.{appended_to_text, fitting_where, compounded, counted}
use Rattle.life_typed.specs.TypedForm.{Form}
use Rattle.life_typed.specs.declared.typed_expr.ExprType.{ExprType}
use Rattle.life_typed.specs.declared.typed_expr.ExprType.TheVariants.{NullPointer, Of, TextLiteral}
use Rattle.life_type_expr.specs.Lists.{fits_at_all}
use Rattle.life_core.specs.Function.{Function}
use Rattle.life_core.specs.Operands.{Characters, Single, View}
use Rattle.life_core.specs.Step.{Append}
use Rattle.life_core.specs.Touched.{characters_uses}
use Rattle.life_proper.specs.Placed.{is_number_of}
use Rattle.life_proper.specs.WellFormed.{are_characters, is_change_of}
use Rattle.life_proper.specs.declared.known.Known.{Known}
use Rattle.life_well_typed.specs.Expressions.{typed_in}
use Rattle.life_well_typed.specs.Given.{is_number}
use Rattle.life_writer.specs.Around.{Around, own_type}
use Rattle.life_writer.specs.Characters.{InRegister, InString, InView, Seen, changed_by, characters, seen, seen_by}
use Rattle.life_writer.specs.ExpressionForms.{uses}
use Rattle.life_writer.specs.Using.{operand, value}
use Rattle.life_writer.specs.Writing.{Gives, State, ◌>>◌, gives}
use Rattle.life_elab_laws.proofs.ChangeSteps.{Takes, changes_part}
use Rattle.life_elab_laws.proofs.ComparedForms.{IsEither, either_shows}
use Rattle.life_elab_laws.proofs.ExpressionForms.{IsWhole, Standing}
use Rattle.life_elab_laws.proofs.Gifts.{Gift, a_number, a_place, a_pointer, both, held_stays, nothing as no_gift, pointer_stays}
use Rattle.life_elab_laws.proofs.Making.{AreHeld, IsHeld, IsPointer, Keeps}
use Rattle.life_elab_laws.proofs.ObjectForms.{IsOwner}
use Rattle.life_elab_laws.proofs.Parts.{Makes, Part, and_part, gives_part, keep_part, seen_part, then_part, under_part}
use Rattle.life_elab_laws.proofs.PointerForms.{own_typed}
use Rattle.life_elab_laws.proofs.SeenForms.{IsShownAt, IsShownOf, a_shown, viewed_part}
use Rattle.life_elab_laws.proofs.Setting.{Setting}
use Rattle.life_elab_laws.proofs.VariablePlaces.{stands_later}
use Rattle.life_elab_laws.proofs.RowTypes.{sees}
use Rattle.life_elab_laws.proofs.ViewSteps.{pointer_is_held}
use Rattle.life_tree.specs.declared.operator.CompoundOperator.{CompoundOperator}
use Rattle.life_elab_laws.proofs.FreeObjects.{owner_part}

-- ---- what may gain something

not_counted : (types : Types) (t : Ty) (u : ExprType) → is_owner_of_values types t ≡ true → fits_at_all (counted t u) ≡ true → ⊥
not_counted types ty.Text (Of v) own h = false≢true h
not_counted types ty.Text NullPointer own h = false≢true h
not_counted types ty.Text TextLiteral own h = false≢true h
not_counted types (ty.Vector item) (Of v) own h = false≢true h
not_counted types (ty.Vector item) NullPointer own h = false≢true h
not_counted types (ty.Vector item) TextLiteral own h = false≢true h
not_counted types _ u own h = false≢true own

-- of the owners a string, characters
pub text_gains : (types : Types) (o : CompoundOperator) (t : Ty) (u : ExprType) → is_owner_of_values types t ≡ true → fits_at_all (compounded o t u) ≡ true → (t ≡ ty.Text) × (fits_at_all (appended_to_text u) ≡ true)
text_gains types compound_by.Add ty.Text u own h = (refl, h)
text_gains types compound_by.Add (ty.Vector item) u own h = absurd (not_counted types (ty.Vector item) u own h)
text_gains types compound_by.Add _ u own h = absurd (false≢true own)
text_gains types compound_by.Subtract t u own h = absurd (not_counted types t u own h)
text_gains types compound_by.Multiply t u own h = absurd (not_counted types t u own h)
text_gains types compound_by.Divide t u own h = absurd (not_counted types t u own h)
text_gains types compound_by.Remainder t u own h = absurd (not_counted types t u own h)

module _ (types : Types) (texts : ℕ) (fs : List Function) (f : Function) where
  -- ---- what is found, a single character too

  abbrev pub IsFoundOf : Seen → Type 0
  IsFoundOf (InString place o) = IsShownOf types texts fs f (InString place o)
  IsFoundOf (InView l) = IsShownOf types texts fs f (InView l)
  IsFoundOf (InRegister r) = is_number_of types f ty.Char r ≡ true

  abbrev pub IsFoundAt : Seen → ℕ → List Known → Type 0
  IsFoundAt (InString place o) n k = IsShownAt types texts fs f (InString place o) n k
  IsFoundAt (InView l) n k = IsShownAt types texts fs f (InView l) n k
  IsFoundAt (InRegister r) n k = IsHeld r n k

  shown_found : (x : Seen) → IsShownOf types texts fs f x → IsFoundOf x
  shown_found (InString place o) h = h
  shown_found (InView l) h = h
  shown_found (InRegister r) h = absurd h

  shown_at : (x : Seen) (n : ℕ) (k : List Known) → IsShownAt types texts fs f x n k → IsFoundAt x n k
  shown_at (InString place o) n k h = h
  shown_at (InView l) n k h = h
  shown_at (InRegister r) n k h = absurd h

  pub found_stays : (x : Seen) (n m : ℕ) (k j : List Known) → n ≤ m → IsFoundAt x n k → Keeps f n None k j → IsFoundAt x m j
  found_stays (InString place o) n m k j h p keeps = (a_shown types texts fs f).stays (InString place o) n m k j h p keeps
  found_stays (InView l) n m k j h p keeps = (a_shown types texts fs f).stays (InView l) n m k j h p keeps
  found_stays (InRegister r) n m k j h p keeps = held_stays types texts fs f r n m k j h p keeps

  abbrev pub a_found : Gift types texts fs f Seen
  a_found = record { typed = IsFoundOf; ready = IsFoundAt; stays = found_stays }

  pub found_part : (s : State) (w : Gives Seen) → Makes types texts fs f None s w (a_shown types texts fs f) → Makes types texts fs f None s w (a_found)
  found_part s w part = seen_part types texts fs f (no_gift types texts fs f) tt None s w (a_shown types texts fs f) (λ x. x) a_found part (λ b h. shown_found w.given h) (λ n k h. shown_at w.given n k h)

  -- ---- as the operand of a change

  abbrev pub AreCharactersAt : Characters → ℕ → List Known → Type 0
  AreCharactersAt (View l) n k = IsPointer l n k
  AreCharactersAt (Single r) n k = IsHeld r n k

  pub characters_stay : (c : Characters) (n m : ℕ) (k j : List Known) → n ≤ m → AreCharactersAt c n k → Keeps f n None k j → AreCharactersAt c m j
  characters_stay (View l) n m k j h p keeps = pointer_stays types texts fs f l n m k j h p keeps
  characters_stay (Single r) n m k j h p keeps = held_stays types texts fs f r n m k j h p keeps

  abbrev pub some_characters : Gift types texts fs f Characters
  some_characters = record { typed = λ c. are_characters types texts fs f c ≡ true; ready = AreCharactersAt; stays = characters_stay }

  pub characters_part : (x : Seen) (s : State) → Part types texts fs f a_found x None s (characters x s) some_characters
  characters_part (InString place o) s =
      seen_part types texts fs f a_found (InString place o) None s _ (a_pointer types texts fs f ty.View) View some_characters
      (under_part types texts fs f (a_shown types texts fs f) (InString place o) a_found (InString place o) None s _ (a_pointer types texts fs f ty.View) (viewed_part types texts fs f (InString place o) s) (λ h. h) (λ n k h. h))
      (λ b h. ap is_view h.typed) (λ n k h. h)
  characters_part (InView l) s = gives_part types texts fs f a_found (InView l) None (View l) s some_characters (λ b h. ap is_view h.typed) (λ b k alive h. h)
  characters_part (InRegister r) s = gives_part types texts fs f a_found (InRegister r) None (Single r) s some_characters (λ b h. h) (λ b k alive h. h)

  -- they stay
  pub append_takes : (c : Characters) → Takes types f (Append c) (characters_uses c)
  append_takes c = record { uses = refl; leaves = refl; writes = refl; given = refl }

  pub characters_there : (c : Characters) (n : ℕ) (k : List Known) → AreCharactersAt c n k → AreHeld (characters_uses c) n k
  characters_there (View l) n k p = (pointer_is_held l n k p, tt)
  characters_there (Single r) n k p = (p, tt)

module _ (a : Around) (visible : List ℕ) (types : Types) (texts : ℕ) (fs : List Function) (f : Function) (setting : Setting a types fs f) where
  abbrev pub Finds : Form → Type 0
  Finds form = (s : State) → Standing a visible types texts fs f setting s → Makes types texts fs f None s (seen (uses a form) s) (a_found types texts fs f)

  -- a char
  char_finds : (form : Form) → IsWhole a visible types texts fs f setting form → (typed_in form).ty ≡ Of ty.Char → Finds form
  char_finds form is at s stands =
      let w = value (uses a form) (uses a form).place ty.Char None s in
      subst (λ (v : Gives Seen). Makes types texts fs f None s v (a_found types texts fs f)) (sym (ap (λ (x : Ty). seen_by x (uses a form) s) (ap own_type (sym (own_typed a visible types texts fs f setting form) ∙ at))))
      (seen_part types texts fs f (no_gift types texts fs f) tt None s w (a_number types texts fs f ty.Char) InRegister (a_found types texts fs f)
      (is.valued (ap is_number at) (uses a form).place ty.Char refl None s tt stands) (λ b h. h) (λ n k h. h))

  -- what typing lets a string gain
  pub appended_finds : (form : Form) → IsEither a visible types texts fs f setting form → fits_at_all (appended_to_text (typed_in form).ty) ≡ true → Finds form
  appended_finds form is h = go (typed_in form).ty refl h
    where
      shows : sees (typed_in form).ty ≡ true → Finds form
      shows s state stands = found_part types texts fs f state (seen (uses a form) state) (either_shows a visible types texts fs f setting form is s state stands)

      tested : (b : Bool) → fits_at_all (fitting_where b) ≡ true → b ≡ true
      tested true e = refl
      tested false e = absurd (false≢true e)

      char_is : (t : Ty) → is_char t ≡ true → t ≡ ty.Char
      char_is ty.Char e = refl
      char_is _ e = absurd (false≢true e)

      char : (t : Ty) → (typed_in form).ty ≡ Of t → is_char t ≡ true → Finds form
      char t at c = alone is
        where
          alone : IsEither a visible types texts fs f setting form → Finds form
          alone (inl value) = char_finds form value (at ∙ ap Of (char_is t c))
          alone (inr owner) = absurd (no_owner owner.ty owner.owner (same (sym (owner.is) ∙ at ∙ ap Of (char_is t c))))
            where
              same : {u w : Ty} → Of u ≡ Of w → u ≡ w
              same e = cc

              no_owner : (u : Ty) → is_owner_of_values a.program.types u ≡ true → u ≡ ty.Char → ⊥
              no_owner u o e = false≢true (subst (λ (x : Ty). is_owner_of_values a.program.types x ≡ true) e o)

      go : (t : ExprType) → (typed_in form).ty ≡ t → fits_at_all (appended_to_text t) ≡ true → Finds form
      go (Of t) at h = elim (or_cases (is_text_like t) (is_char t) (tested (is_text_like t || is_char t) h)) [ inl s ↦ shows (ap sees at ∙ s) | inr c ↦ char t at c ]
      go TextLiteral at h = shows (ap sees at)
      go NullPointer at h = absurd (false≢true h)

  -- ---- `+=`

  pub appended_part : (target e : Form) (place : Place) (s : State) → (to : IsOwner a visible types texts fs f setting target) → to.ty ≡ ty.Text → to.constant ≡ false → IsEither a visible types texts fs f setting e
      → fits_at_all (appended_to_text (typed_in e).ty) ≡ true → Standing a visible types texts fs f setting s
      → Makes types texts fs f None s (gives tt (seen (uses a e) s >> λ c s. operand (uses a target) s >> λ o s. changed_by Append place c o s)) (no_gift types texts fs f)
  appended_part target e place s to text free from fits stands =
      let G = no_gift types texts fs f in
      let x = seen (uses a e) s in
      let o = operand (uses a target) x.state in
      let c = characters x.given o.state in
      let P = a_found types texts fs f in
      let Q = a_place types texts fs f to.ty false in
      let B = both types texts fs f P Q in
      let C = some_characters types texts fs f in
      let D = both types texts fs f B C in
      let first = appended_finds e from fits s stands in
      let second = owner_part a visible types texts fs f setting target to free x.state (stands_later a visible s x.state first.grown stands) in
      let pair = and_part types texts fs f G tt s x o P Q stands.opened first second in
      let third = under_part types texts fs f P x.given B (x.given, o.given) None o.state c C (characters_part types texts fs f x.given o.state) (λ h. h.0) (λ n k h. h.0) in
      let all = keep_part types texts fs f G tt s (gives (x.given, o.given) o.state) c B C stands.opened pair third in
      then_part types texts fs f G tt None s (gives ((x.given, o.given), c.given) c.state) _ D G stands.opened all
      (changes_part types texts fs f D ((x.given, o.given), c.given) to.ty o.given (Append c.given) (characters_uses c.given) place c.state
      (λ h. (h.0.1, ap (λ (t : Ty). is_change_of types texts fs f t (Append c.given)) text ∙ h.1, append_takes types texts fs f c.given))
      (λ n k q. (q.0.1, characters_there types texts fs f c.given n k q.1)))
