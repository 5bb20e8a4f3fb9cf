-- Copies settle: nothing that is copied holds a unique_ptr.
use Rattle.std.proofs.Common.{◌≡◌, ℕ, Bool, true, false, not, List, [], ◌∷◌, ◌++◌, length, Option, Some, None, refl, sym, ap, subst, ◌∙◌}
use Rattle.std.proofs.lemmas.Bool.{false≢true}
use Rattle.std.specs.Prelude.{drop, slice_index, take}
use Rattle.life_types.specs.Trees.{IsOrdered, holds_unique}
use Rattle.life_types.specs.TypeTests.{is_void}
use Rattle.life_types.specs.Types.{HasEachOnce, Types}
use Rattle.life_types.specs.declared.ty.TyId.{TyId}
use Rattle.life_core.specs.Function.{Function}
use Rattle.life_core.specs.Operands.{Operand}
use Rattle.life_core.specs.Ready.{AreBits}
use Rattle.life_core.specs.Touched.{place_uses}
use Rattle.life_core.proofs.ReadyLemmas.{bits_left, bits_right}
use Rattle.life_pset.specs.Shapes.{tree_if}
use Rattle.life_pset.specs.Shapes as shapes
use Rattle.life_proper.specs.OperandTypes.{same}
use Rattle.life_proper.specs.Placed.{is_const_place, type_of}
use Rattle.life_proper.specs.WellFormedPrograms.{may_stand}
use Rattle.life_store.specs.Content.{Slot, Content}
use Rattle.life_store.specs.Doing.{copied_to, copies, on_character, replaced}
use Rattle.life_store.specs.Effects.{Setting, Next, Strays, Attempt, Got, put_content, word_of_number}
use Rattle.life_store.specs.Held.{owned_in, slots_at, words_at}
use Rattle.life_store.specs.Owners.{Words, copied, copied_buffer, copied_slots, sized_birth}
use Rattle.life_store.specs.Parts.{Parts, Single, Raw, Iterates, Views, Text, Vector, Unique, Member, NoMember, operand_parts, parts_if, width}
use Rattle.life_store.specs.Places.{Spot, locate, on_place, operand_word}
use Rattle.life_store.specs.State.{State, ready_of}
use Rattle.life_forest.specs.Settled.{IsPoised, Settles}
use Rattle.life_forest.proofs.CopiedTypes.{LocalsStand, NoUnique, copied_free, operand_stands}
use Rattle.life_forest.proofs.OneNumber.{also_solid, same_solid}
use Rattle.life_forest.proofs.ReadyCells.{place_well}
use Rattle.life_forest.proofs.Settling.{settle_got, settle_place, well_then}
use Rattle.life_forest.proofs.SettlingEdits.{Comes, joined_comes, sized_comes}
use Rattle.life_forest.proofs.SettlingNumbers.{text_settles}
use Rattle.life_forest.proofs.SettlingOwners.{place_there}
use Rattle.life_forest.proofs.Shaped.{IsShaped}
use Rattle.life_forest.proofs.TypedSteps.{PointersAim, operand_same, operand_with}

-- ---- values that are copied

slots_come : (copy : List ℕ → Content → Attempt Words) → ((ws : List ℕ) (c : Content) → Comes (copy ws c)) → (ss : List Slot) (c : Content) → Comes (copied_slots copy ss c)
slots_come copy each [] c = tt
slots_come copy each (s ∷ ss) c = well_then (copy s.words c) _ (λ v. Unit {0}) (λ v. Unit {0}) (each s.words c) (λ v h. well_then (copied_slots copy ss v.1) _ (λ v. Unit {0}) (λ v. Unit {0}) (slots_come copy each ss v.1) (λ vs k. tt))

buffer_comes : (s : Setting) (id : TyId) (w : ℕ) (copy : List ℕ → Content → Attempt Words) → ((ws : List ℕ) (c : Content) → Comes (copy ws c)) → (x : Option ℕ) (c : Content) → Comes (copied_buffer s id w copy x c)
buffer_comes s id w copy each None c = tt
buffer_comes s id w copy each (Some n) c =
    well_then (sized_birth s id w (length (slots_at c n)) c) _ (λ b. Unit {0}) (λ v. Unit {0}) (sized_comes s id w (length (slots_at c n)) c)
    (λ b h. well_then (copied_slots copy (slots_at c n) b.1) _ (λ vs. Unit {0}) (λ v. Unit {0}) (slots_come copy each (slots_at c n) b.1) (λ vs k. tt))

copied_comes : (s : Setting) (p : Parts) → NoUnique p → (ws : List ℕ) (c : Content) → Comes (copied s p ws c)
copied_comes s Single free ws c = tt
copied_comes s Raw free ws c = tt
copied_comes s Iterates free ws c = tt
copied_comes s Views free ws c = tt
copied_comes s (Text id) free ws c = buffer_comes s id 1 (λ vs d. Got (vs, d)) (λ vs d. tt) (owned_in (slice_index ws 0)) c
copied_comes s (Vector id element) free ws c = buffer_comes s id (width element) (copied s element) (λ vs d. copied_comes s element free vs d) (owned_in (slice_index ws 0)) c
copied_comes s (Unique id target) free ws c = absurd free
copied_comes s (Member first others) free ws c =
    joined_comes (copied s first (take (width first) ws) c) (copied s others (drop (width first) ws)) (copied_comes s first free.0 (take (width first) ws) c) (λ d. copied_comes s others free.1 (drop (width first) ws) d)
copied_comes s NoMember free ws c = tt

module _ (types : Types) (ordered : IsOrdered types) (once : HasEachOnce types) (texts : ℕ) (fs : List Function) (f : Function) (shaped : IsShaped types f) (stand : LocalsStand types ordered f) (st : State) (at_point : IsPoised types f st) (aims : PointersAim types f st) where
  -- its parts hold no unique_ptr
  operand_free : (o : Operand) → is_void (type_of types f o) ≡ false → not (holds_unique (tree_if types (shapes.operand_type types f o))) ≡ true → NoUnique (operand_parts types f o)
  operand_free o some free =
      let at = operand_with types ordered once texts fs f shaped st aims at_point.sorted o (type_of types f o) refl some in
      let is : shapes.operand_type types f o ≡ Some at.whole = operand_same types ordered once texts fs f shaped o ∙ at.operand.0 in
      subst (λ (id : Option TyId). NoUnique (parts_if types id)) (sym at.operand.0)
      (copied_free types ordered at.whole (subst (λ (id : Option TyId). may_stand (tree_if types id) ≡ true) is (operand_stands types ordered f stand o))
      (not_held (holds_unique (tree_if types (Some at.whole))) (subst (λ (id : Option TyId). not (holds_unique (tree_if types id)) ≡ true) is free)))
    where
      not_held : (b : Bool) → not b ≡ true → b ≡ false
      not_held true h = absurd (false≢true h)
      not_held false h = refl

  value_copied : (s : Setting) (p : Parts) → NoUnique p → (spot : Spot) (ws : List ℕ) → Settles types f (ready_of st) (copied_to s p spot ws st)
  value_copied s p free spot ws =
      settle_got types f (ready_of st) (copied s p ws st.world.content) (λ v. Next (put_content (replaced p spot v) st)) (λ v. Unit {0}) (copied_comes s p free ws st.world.content) (λ v h. (refl, at_point.sorted))

  pub copies_settle : (s : Setting) (to from : Operand) → same (type_of types f to) (type_of types f from) ≡ true → not (holds_unique (tree_if types (shapes.operand_type types f to))) ≡ true → not (is_const_place types f to) ≡ true
      → AreBits true (ready_of st) (place_uses to ++ place_uses from) → Settles types f (ready_of st) (copies s types f to from st)
  copies_settle s to from alike free const uses =
      let some = same_solid (type_of types f to) (type_of types f from) alike in
      let none = operand_free to some free in
      settle_place types f (ready_of st) to (locate types f to st)
      (λ n i object. on_place (locate types f from st)
      (λ m j other. copied_to s (operand_parts types f to) (record { object = n; index = i; word = operand_word types f to st }) (words_at st.world.content m j (operand_word types f from st) (width (operand_parts types f to))) st)
      (λ c. on_character s.texts c (λ z. copied_to s (operand_parts types f to) (record { object = n; index = i; word = operand_word types f to st }) (word_of_number z ∷ []) st)))
      (λ c. Strays)
      (place_well types f st at_point to (place_there types ordered once texts fs f shaped st at_point aims to some) (bits_left true (ready_of st) (place_uses to) (place_uses from) uses))
      (λ n i object. settle_place types f (ready_of st) from (locate types f from st)
      (λ m j other. copied_to s (operand_parts types f to) (record { object = n; index = i; word = operand_word types f to st }) (words_at st.world.content m j (operand_word types f from st) (width (operand_parts types f to))) st)
      (λ c. on_character s.texts c (λ z. copied_to s (operand_parts types f to) (record { object = n; index = i; word = operand_word types f to st }) (word_of_number z ∷ []) st))
      (place_well types f st at_point from (place_there types ordered once texts fs f shaped st at_point aims from (also_solid (type_of types f to) (type_of types f from) alike)) (bits_right true (ready_of st) (place_uses to) (place_uses from) uses))
      (λ m j other. value_copied s (operand_parts types f to) none (record { object = n; index = i; word = operand_word types f to st }) (words_at st.world.content m j (operand_word types f from st) (width (operand_parts types f to))))
      (λ c h. text_settles types f (ready_of st) s.texts c (λ z. copied_to s (operand_parts types f to) (record { object = n; index = i; word = operand_word types f to st }) (word_of_number z ∷ []) st) (λ z. value_copied s (operand_parts types f to) none (record { object = n; index = i; word = operand_word types f to st }) (word_of_number z ∷ []))))
      (λ c h. false≢true (sym (ap not h) ∙ const))
