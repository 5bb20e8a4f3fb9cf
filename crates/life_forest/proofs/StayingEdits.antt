-- No number returns and no object changes its type, whatever is changed: of what was there, the changed buffer alone may have another size.
use Rattle.std.proofs.Common.{◌≡◌, ◌⊎◌, inl, inr, ℕ, zero, suc, ◌+◌, ◌-◌, ◌≤◌, Bool, true, false, cond, List, [], ◌∷◌, ◌++◌, length, map, Some, None, refl}
use Rattle.std.specs.Prelude.{drop, nat_lt, take}
use Rattle.life_types.specs.declared.ty.TyId.{TyId}
use Rattle.life_store.specs.Content.{Content, without}
use Rattle.life_store.specs.Doing.{moved_to, replaced}
use Rattle.life_store.specs.Edits.{Edit, Push, Pop, Clear, Reserve, Put, Add, capacity_of, characters_of, cleared, edited, erased, filled_by, grown, one_word, owns, popped, pushed, put_last, regrown, reserved, rewritten, size_of, with_room, words_in}
use Rattle.life_store.specs.Effects.{Setting, Attempt, Got, then_get}
use Rattle.life_store.specs.Held.{filled, owner_word, resized_at, slot_words, slots_at, wrote}
use Rattle.life_store.specs.Owners.{Words, birth, ended, ended_slots, sized_birth, taken_slots}
use Rattle.life_store.specs.Parts.{Parts, Single, Raw, Iterates, Views, Text, Vector, Unique, Member, NoMember, width}
use Rattle.life_store.specs.Places.{Spot, spot_words}
use Rattle.life_forest.proofs.Coming.{IfGot, got_then}
use Rattle.life_forest.proofs.Staying.{BornStays, Stays, birth_stays, ended_slots_stay, ended_stays, sized_birth_stays, stays_filled, stays_resized, stays_without, stays_wrote, taken_slots_stay}

module _ (loose : ℕ → Type 0) (c : Content) where
  -- ---- values that are written where others end

  pub replaced_stays : (p : Parts) (spot : Spot) (v : Words) → Stays loose c v.1 → Stays loose c (replaced p spot v)
  replaced_stays p spot v stays =
      stays_wrote loose c spot.object spot.index spot.word v.0 (ended p (spot_words v.1 spot (width p)) v.1) (ended_stays loose c p (spot_words v.1 spot (width p)) v.1 stays)

  pub moved_stays : (p : Parts) (spot : Spot) (m : ℕ) (v : Words) → Stays loose c v.1 → Stays loose c (moved_to p spot m v)
  moved_stays p spot m v stays = replaced_stays p spot (v.0, wrote m 0 0 (owner_word None ∷ []) v.1) (stays_wrote loose c m 0 0 (owner_word None ∷ []) v.1 stays)

  owns_stays : (spot : Spot) (n : ℕ) (d : Content) → Stays loose c d → Stays loose c (owns spot n d)
  owns_stays spot n d stays = stays_wrote loose c spot.object spot.index spot.word (owner_word (Some n) ∷ []) d stays

  -- ---- buffers that grow

  -- what is another buffer, or one whose size may change
  abbrev RoomStays : ℕ × Content → Type 0
  RoomStays f = (loose f.0 ⊎ (c.births ≤ f.0)) × Stays loose c f.1

  regrown_stays : (s : Setting) (ty : TyId) (element : Parts) (b capacity size : ℕ) (d : Content) → Stays loose c d → IfGot (regrown s ty element b capacity size d) RoomStays
  regrown_stays s ty element b capacity size d stays =
      got_then (birth s ty (width element) capacity d) (λ f. Got (f.0, without b (filled_by f.0 (taken_slots element (slots_at d b) (resized_at f.0 size 0 f.1))))) (BornStays loose c) RoomStays (birth_stays loose c s ty (width element) capacity d stays)
      (λ f h. (
        inr h.0,
        stays_without loose c b (filled_by f.0 (taken_slots element (slots_at d b) (resized_at f.0 size 0 f.1)))
            (stays_filled loose c f.0 (taken_slots element (slots_at d b) (resized_at f.0 size 0 f.1)).0 (taken_slots element (slots_at d b) (resized_at f.0 size 0 f.1)).1
            (taken_slots_stay loose c element (slots_at d b) (resized_at f.0 size 0 f.1) (stays_resized loose c f.0 size 0 f.1 (inr h.0) h.1))),
      ))

  if_grown : (full : Bool) (here there : Attempt (ℕ × Content)) → IfGot here RoomStays → IfGot there RoomStays → IfGot (cond full here there) RoomStays
  if_grown true here there a b = a
  if_grown false here there a b = b

  module _ (b : ℕ) (may : loose b) where
    room_stays : (s : Setting) (ty : TyId) (element : Parts) (d : Content) → Stays loose c d → IfGot (with_room s ty element b d) RoomStays
    room_stays s ty element d stays =
        if_grown (nat_lt (size_of d b) (capacity_of d b)) (Got (b, resized_at b (size_of d b + 1) (size_of d b) d))
        (regrown s ty element b (grown s.given.growth (size_of d b) (capacity_of d b)) (size_of d b + 1) d)
        (inl may, stays_resized loose c b (size_of d b + 1) (size_of d b) d (inl may) stays)
        (regrown_stays s ty element b (grown s.given.growth (size_of d b) (capacity_of d b)) (size_of d b + 1) d stays)

    pub pushed_stays : (s : Setting) (ty : TyId) (element : Parts) (spot : Spot) (value : Content → Words) (d : Content) → ((e : Content) → Stays loose c e → Stays loose c (value e).1) → Stays loose c d
        → IfGot (pushed s ty element spot b value d) (Stays loose c)
    pushed_stays s ty element spot value d each stays =
        got_then (with_room s ty element b d) (λ f. Got (put_last spot f.0 (size_of d b) (value f.1))) RoomStays (Stays loose c) (room_stays s ty element d stays)
        (λ f h. stays_wrote loose c f.0 (size_of d b) 0 (value f.1).0 (owns spot f.0 (value f.1).1) (owns_stays spot f.0 (value f.1).1 (each f.1 h.1)))

    -- ---- the other changes of vectors

    pub popped_stays : (element : Parts) (size : ℕ) (d : Content) → Stays loose c d → IfGot (popped element b size d) (Stays loose c)
    popped_stays element zero d stays = tt
    popped_stays element (suc n) d stays = stays_resized loose c b n n (ended element (slot_words d b n) d) (inl may) (ended_stays loose c element (slot_words d b n) d stays)

    pub cleared_stays : (element : Parts) (d : Content) → Stays loose c d → Stays loose c (cleared element b d)
    cleared_stays element d stays =
        stays_resized loose c b 0 0 (ended_slots (ended element) (slots_at d b) d) (inl may)
        (ended_slots_stay loose c (ended element) (λ ws e h. ended_stays loose c element ws e h) (slots_at d b) d stays)

    pub reserved_stays : (s : Setting) (ty : TyId) (element : Parts) (spot : Spot) (capacity : ℕ) (d : Content) → Stays loose c d → IfGot (reserved s ty element spot b capacity d) (Stays loose c)
    reserved_stays s ty element spot capacity d stays =
        if_full (nat_lt (capacity_of d b) capacity) (then_get (regrown s ty element b capacity (size_of d b) d) (λ f. Got (owns spot f.0 f.1)))
        (got_then (regrown s ty element b capacity (size_of d b) d) (λ f. Got (owns spot f.0 f.1)) RoomStays (Stays loose c) (regrown_stays s ty element b capacity (size_of d b) d stays) (λ f h. owns_stays spot f.0 f.1 h.1))
      where
        if_full : (full : Bool) (other : Attempt Content) → IfGot other (Stays loose c) → IfGot (cond full other (Got d)) (Stays loose c)
        if_full true other h = h
        if_full false other h = stays

    pub erased_stays : (element : Parts) (i : ℕ) (d : Content) → Stays loose c d → Stays loose c (erased element b i d)
    erased_stays element i d stays =
        stays_resized loose c b (size_of d b - 1) i (filled b (map words_in (take i (slots_at d b)) ++ (taken_slots element (drop (i + 1) (slots_at d b)) (ended element (slot_words d b i) d)).0) (taken_slots element (drop (i + 1) (slots_at d b)) (ended element (slot_words d b i) d)).1) (inl may)
        (stays_filled loose c b (map words_in (take i (slots_at d b)) ++ (taken_slots element (drop (i + 1) (slots_at d b)) (ended element (slot_words d b i) d)).0) (taken_slots element (drop (i + 1) (slots_at d b)) (ended element (slot_words d b i) d)).1
        (taken_slots_stay loose c element (drop (i + 1) (slots_at d b)) (ended element (slot_words d b i) d) (ended_stays loose c element (slot_words d b i) d stays)))

    -- ---- strings

    pub rewritten_stays : (s : Setting) (ty : TyId) (spot : Spot) (words : List ℕ) (d : Content) → Stays loose c d → IfGot (rewritten s ty spot b words d) (Stays loose c)
    rewritten_stays s ty spot words d stays =
        got_then (sized_birth s ty 1 (length words) d) (λ f. Got (owns spot f.0 (without b (filled f.0 (map one_word words) f.1)))) (BornStays loose c) (Stays loose c) (sized_birth_stays loose c s ty 1 (length words) d stays)
        (λ f h. owns_stays spot f.0 (without b (filled f.0 (map one_word words) f.1)) (stays_without loose c b (filled f.0 (map one_word words) f.1) (stays_filled loose c f.0 (map one_word words) f.1 h.1)))

    -- ---- one change of either

    pub edited_stays : (s : Setting) (p : Parts) (spot : Spot) (edit : Edit) (d : Content) → ((value : Content → Words) → edit ≡ Push value → (e : Content) → Stays loose c e → Stays loose c (value e).1) → Stays loose c d
        → IfGot (edited s p spot b edit d) (Stays loose c)
    edited_stays s (Vector ty element) spot (Push value) d each stays = pushed_stays s ty element spot value d (each value refl) stays
    edited_stays s (Vector ty element) spot Pop d each stays = popped_stays element (size_of d b) d stays
    edited_stays s (Vector ty element) spot Clear d each stays = cleared_stays element d stays
    edited_stays s (Vector ty element) spot (Reserve n) d each stays = reserved_stays s ty element spot n d stays
    edited_stays s (Vector ty element) spot (Put words) d each stays = tt
    edited_stays s (Vector ty element) spot (Add words) d each stays = tt
    edited_stays s (Text ty) spot (Push value) d each stays = rewritten_stays s ty spot (characters_of d b ++ (value d).0) d stays
    edited_stays s (Text ty) spot Pop d each stays = tt
    edited_stays s (Text ty) spot Clear d each stays = rewritten_stays s ty spot [] d stays
    edited_stays s (Text ty) spot (Reserve n) d each stays = tt
    edited_stays s (Text ty) spot (Put words) d each stays = rewritten_stays s ty spot words d stays
    edited_stays s (Text ty) spot (Add words) d each stays = rewritten_stays s ty spot (characters_of d b ++ words) d stays
    edited_stays s Single spot edit d each stays = tt
    edited_stays s Raw spot edit d each stays = tt
    edited_stays s Iterates spot edit d each stays = tt
    edited_stays s Views spot edit d each stays = tt
    edited_stays s (Unique ty target) spot edit d each stays = tt
    edited_stays s (Member first others) spot edit d each stays = tt
    edited_stays s NoMember spot edit d each stays = tt
