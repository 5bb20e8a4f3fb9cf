-- A frame stands behind copies of values, whatever they own.
use Rattle.std.proofs.Common.{◌≡◌, ℕ, ◌+◌, Bool, true, false, List, [], ◌∷◌, Option, Some, refl, sym, subst, ◌∙◌, arith}
use Rattle.std.specs.Prelude.{ℤ, cond, nat_lt}
use Rattle.life_types.specs.Trees.{IsOrdered}
use Rattle.life_types.specs.Types.{Types}
use Rattle.life_types.specs.declared.ty.TyId.{TyId}
use Rattle.life_core.specs.Function.{Function}
use Rattle.life_core.specs.Operands.{Operand}
use Rattle.life_store.specs.Content.{Object, Content}
use Rattle.life_store.specs.Doing.{copied_to, copies, on_character, replaced, word_of_number}
use Rattle.life_store.specs.Effects.{Setting, Effect, Next, Traps, put_content}
use Rattle.life_store.specs.Held.{words_at}
use Rattle.life_store.specs.Owners.{copied}
use Rattle.life_store.specs.Parts.{Parts, operand_parts, operand_type, parts_at, parts_if, width, width_at}
use Rattle.life_store.specs.Places.{Found, Here, Fixed, Outside, Wrong, Astray, locate, on_place, operand_word}
use Rattle.life_store.specs.State.{Characters, State}
use Rattle.life_store.specs.Views.{text_size}
use Rattle.life_store.specs.declared.run.TrapKind.TheVariants as trap
use Rattle.life_forest.specs.FrameTypes.{Stands}
use Rattle.life_forest.specs.Frames.{OnNext, named_in}
use Rattle.life_forest.specs.Owned.{times}
use Rattle.life_forest.proofs.FrameChanges.{copy_keeps}
use Rattle.life_forest.proofs.Frames.{on_got_next}
use Rattle.life_forest.proofs.Following.{Follows, IsOwned, follows_content, next_stands}
use Rattle.life_forest.proofs.Operands.{FoundWell, IsPlace, OperandAims, on_spot_next, operand_well}
use Rattle.life_forest.proofs.Placed.{AreCopied, place_copied}
use Rattle.life_forest.proofs.Staying.{Stays, copied_stays, stays_self}
use Rattle.life_forest.proofs.StayingEdits.{replaced_stays}

pub on_character_next : (texts : List (List ℕ)) (c : Characters) (go : ℤ → Effect) (Q : State → Type 0) → ((z : ℤ) → OnNext (go z) Q) → OnNext (on_character texts c go) Q
on_character_next texts c go Q each = inside (nat_lt c.index (text_size texts c)) _
  where
    inside : (b : Bool) (z : ℤ) → OnNext (cond b (go z) (Traps trap.Bounds)) Q
    inside true z = each z
    inside false z = tt

module _ (types : Types) (ordered : IsOrdered types) (f : Function) (rest : ℕ → ℕ) (st : State) (stands : Stands types f rest st) where
  abbrev c : Content
  c = st.world.content

  -- words that may be copied, to a place of their type
  copied_to_stands : (s : Setting) (part : TyId) (n i w : ℕ) (o : Object) → IsPlace types st.world.content part n i w o → (ws : List ℕ) → AreCopied types st.world.content (parts_at types part) ws
      → OnNext (copied_to s (parts_at types part) (record { object = n; index = i; word = w }) ws st) (Stands types f rest)
  copied_to_stands s part n i w o place ws words =
      next_stands types f rest st stands (copied_to s (parts_at types part) (record { object = n; index = i; word = w }) ws st)
      (copy_keeps types ordered rest st stands.store n i w part o place.there place.within place.slot s ws words.wide words.known words.living)
      (on_got_next (copied s (parts_at types part) ws c) (λ v. Next (put_content (replaced (parts_at types part) (record { object = n; index = i; word = w }) v) st)) (λ v. Stays (IsOwned types st.world.content) st.world.content v.1) (Follows types f st)
      (copied_stays (IsOwned types st.world.content) st.world.content s (parts_at types part) ws st.world.content (stays_self (IsOwned types st.world.content) st.world.content))
      (λ v h. follows_content types f st (replaced (parts_at types part) (record { object = n; index = i; word = w }) v) (replaced_stays (IsOwned types st.world.content) st.world.content (parts_at types part) (record { object = n; index = i; word = w }) v h)))

  pub copies_stand : (s : Setting) (to from : Operand) (part source : TyId) → operand_type types f to ≡ Some part → operand_type types f from ≡ Some source → parts_at types source ≡ parts_at types part → OperandAims types f st to → OperandAims types f st from
      → OnNext (copies s types f to from st) (Stands types f rest)
  copies_stand s to from part source typed typed_from same aims aims_from =
      on_spot_next types ordered f st stands.frame to part
      (λ spot. on_place (locate types f from st) (λ n i object. copied_to s (operand_parts types f to) spot (words_at c n i (operand_word types f from st) (width (operand_parts types f to))) st)
      (λ t. on_character s.texts t (λ z. copied_to s (operand_parts types f to) spot (word_of_number z ∷ []) st)))
      (Stands types f rest) typed aims
      (λ n i w o place. over n i w o place (locate types f from st) (operand_well types ordered f st stands.frame from source typed_from aims_from))
    where
      over : (n i w : ℕ) (o : Object) → IsPlace types st.world.content part n i w o → (found : Found) → FoundWell types st.world.content source (operand_word types f from st) found
          → OnNext (on_place found (λ m j object. copied_to s (operand_parts types f to) (record { object = n; index = i; word = w }) (words_at st.world.content m j (operand_word types f from st) (width (operand_parts types f to))) st)
          (λ t. on_character s.texts t (λ z. copied_to s (operand_parts types f to) (record { object = n; index = i; word = w }) (word_of_number z ∷ []) st))) (Stands types f rest)
      over n i w o place (Here m j object) there =
          subst (λ (id : Option TyId). OnNext (copied_to s (parts_if types id) (record { object = n; index = i; word = w }) (words_at st.world.content m j (operand_word types f from st) (width (parts_if types id))) st) (Stands types f rest)) (sym typed)
          (copied_to_stands s part n i w o place (words_at st.world.content m j (operand_word types f from st) (width_at types part))
          (place_copied types ordered (λ k. times (named_in st.cells) k + rest k) st.world.content stands.store source m j (operand_word types f from st) object there (parts_at types part) same))
      over n i w o place (Fixed t) single =
          on_character_next s.texts t (λ z. copied_to s (operand_parts types f to) (record { object = n; index = i; word = w }) (word_of_number z ∷ []) st) (Stands types f rest)
          (λ z. subst (λ (id : Option TyId). OnNext (copied_to s (parts_if types id) (record { object = n; index = i; word = w }) (word_of_number z ∷ []) st) (Stands types f rest)) (sym typed)
          (copied_to_stands s part n i w o place (word_of_number z ∷ []) (subst (λ (p : Parts). AreCopied types st.world.content p (word_of_number z ∷ [])) (sym single ∙ same)
          (record { wide = refl; known = tt; living = λ k lt. absurd (omega (arith, lt)) }))))
      over n i w o place Outside there = tt
      over n i w o place (Wrong kind) there = tt
      over n i w o place Astray there = tt
