-- Whatever is changed, what stands in the pointers of an object stays that may not change whole: the word of an owner is written beside them.
use Rattle.std.proofs.Common.{◌≡◌, inl, inr, ℕ, zero, suc, ◌+◌, ◌-◌, Bool, true, false, cond, List, [], ◌∷◌, ◌++◌, length, map, Some, None, refl}
use Rattle.std.specs.Prelude.{drop, nat_lt, take}
use Rattle.life_types.specs.Trees.{IsOrdered}
use Rattle.life_types.specs.Types.{Types}
use Rattle.life_types.specs.declared.ty.TyId.{TyId}
use Rattle.life_store.specs.Content.{Content, without}
use Rattle.life_store.specs.Doing.{moved_to, replaced}
use Rattle.life_store.specs.Edits.{Edit, Push, Pop, Clear, Reserve, Put, Add, capacity_of, characters_of, cleared, edited, erased, filled_by, grown, one_word, owns, popped, pushed, put_last, regrown, reserved, rewritten, size_of, with_room, words_in}
use Rattle.life_store.specs.Effects.{Setting, Attempt, Got, then_get}
use Rattle.life_store.specs.Held.{filled, owner_word, resized_at, slot_words, slots_at, wrote}
use Rattle.life_store.specs.Owners.{Words, birth, ended, ended_slots, sized_birth, taken_slots}
use Rattle.life_store.specs.Parts.{Parts, Single, Raw, Iterates, Views, Text, Vector, Unique, Member, NoMember, width}
use Rattle.life_store.specs.Places.{Spot, spot_words}
use Rattle.life_forest.proofs.Coming.{IfGot, got_then}
use Rattle.life_forest.proofs.Keeping.{BornKeeps, Keeps, MayChange, MayWrite, birth_keeps, ended_keeps, ended_slots_keep, keeps_filled, keeps_resized, keeps_without, keeps_wrote, sized_birth_keeps, taken_slots_keep}

module _ (types : Types) (ordered : IsOrdered types) (loose : ℕ → Type 0) (c : Content) where
  -- ---- values that are written where others end

  pub replaced_keeps : (p : Parts) (spot : Spot) (v : Words) → MayWrite types ordered loose c spot.object spot.word (length v.0) → Keeps types loose c v.1 → Keeps types loose c (replaced p spot v)
  replaced_keeps p spot v write keeps =
      keeps_wrote types ordered loose c spot.object spot.index spot.word v.0 (ended p (spot_words v.1 spot (width p)) v.1) write (ended_keeps types ordered loose c p (spot_words v.1 spot (width p)) v.1 keeps)

  pub moved_keeps : (p : Parts) (spot : Spot) (m : ℕ) (v : Words) → MayWrite types ordered loose c spot.object spot.word (length v.0) → MayWrite types ordered loose c m 0 1 → Keeps types loose c v.1 → Keeps types loose c (moved_to p spot m v)
  moved_keeps p spot m v write from keeps = replaced_keeps p spot (v.0, wrote m 0 0 (owner_word None ∷ []) v.1) write (keeps_wrote types ordered loose c m 0 0 (owner_word None ∷ []) v.1 from keeps)

  owns_keeps : (spot : Spot) → MayWrite types ordered loose c spot.object spot.word 1 → (n : ℕ) (d : Content) → Keeps types loose c d → Keeps types loose c (owns spot n d)
  owns_keeps spot write n d keeps = keeps_wrote types ordered loose c spot.object spot.index spot.word (owner_word (Some n) ∷ []) d write keeps

  -- ---- buffers that grow

  -- what is another buffer, or one whose size may change
  abbrev RoomKeeps : ℕ × Content → Type 0
  RoomKeeps f = MayChange types ordered loose c f.0 × Keeps types loose c f.1

  regrown_keeps : (s : Setting) (ty : TyId) (element : Parts) (b capacity size : ℕ) (d : Content) → Keeps types loose c d → IfGot (regrown s ty element b capacity size d) RoomKeeps
  regrown_keeps s ty element b capacity size d keeps =
      got_then (birth s ty (width element) capacity d) (λ f. Got (f.0, without b (filled_by f.0 (taken_slots element (slots_at d b) (resized_at f.0 size 0 f.1))))) (BornKeeps types ordered loose c) RoomKeeps (birth_keeps types ordered loose c s ty (width element) capacity d keeps)
      (λ f h. (
        inr h.0,
        keeps_without types ordered loose c b (filled_by f.0 (taken_slots element (slots_at d b) (resized_at f.0 size 0 f.1)))
            (keeps_filled types ordered loose c f.0 (taken_slots element (slots_at d b) (resized_at f.0 size 0 f.1)).0 (taken_slots element (slots_at d b) (resized_at f.0 size 0 f.1)).1 (inr h.0)
            (taken_slots_keep types ordered loose c element (slots_at d b) (resized_at f.0 size 0 f.1) (keeps_resized types ordered loose c f.0 size 0 f.1 (inr h.0) h.1))),
      ))

  if_grown : (full : Bool) (here there : Attempt (ℕ × Content)) → IfGot here RoomKeeps → IfGot there RoomKeeps → IfGot (cond full here there) RoomKeeps
  if_grown true here there a b = a
  if_grown false here there a b = b

  module _ (b : ℕ) (may : loose b) where
    room_keeps : (s : Setting) (ty : TyId) (element : Parts) (d : Content) → Keeps types loose c d → IfGot (with_room s ty element b d) RoomKeeps
    room_keeps s ty element d keeps =
        if_grown (nat_lt (size_of d b) (capacity_of d b)) (Got (b, resized_at b (size_of d b + 1) (size_of d b) d))
        (regrown s ty element b (grown s.given.growth (size_of d b) (capacity_of d b)) (size_of d b + 1) d)
        (inl may, keeps_resized types ordered loose c b (size_of d b + 1) (size_of d b) d (inl may) keeps)
        (regrown_keeps s ty element b (grown s.given.growth (size_of d b) (capacity_of d b)) (size_of d b + 1) d keeps)

    pub pushed_keeps : (s : Setting) (ty : TyId) (element : Parts) (spot : Spot) (value : Content → Words) (d : Content) → MayWrite types ordered loose c spot.object spot.word 1 → ((e : Content) → Keeps types loose c e → Keeps types loose c (value e).1) → Keeps types loose c d
        → IfGot (pushed s ty element spot b value d) (Keeps types loose c)
    pushed_keeps s ty element spot value d write each keeps =
        got_then (with_room s ty element b d) (λ f. Got (put_last spot f.0 (size_of d b) (value f.1))) RoomKeeps (Keeps types loose c) (room_keeps s ty element d keeps)
        (λ f h. keeps_wrote types ordered loose c f.0 (size_of d b) 0 (value f.1).0 (owns spot f.0 (value f.1).1) (inl h.0) (owns_keeps spot write f.0 (value f.1).1 (each f.1 h.1)))

    -- ---- the other changes of vectors

    pub popped_keeps : (element : Parts) (size : ℕ) (d : Content) → Keeps types loose c d → IfGot (popped element b size d) (Keeps types loose c)
    popped_keeps element zero d keeps = tt
    popped_keeps element (suc n) d keeps = keeps_resized types ordered loose c b n n (ended element (slot_words d b n) d) (inl may) (ended_keeps types ordered loose c element (slot_words d b n) d keeps)

    pub cleared_keeps : (element : Parts) (d : Content) → Keeps types loose c d → Keeps types loose c (cleared element b d)
    cleared_keeps element d keeps =
        keeps_resized types ordered loose c b 0 0 (ended_slots (ended element) (slots_at d b) d) (inl may)
        (ended_slots_keep types ordered loose c (ended element) (λ ws e h. ended_keeps types ordered loose c element ws e h) (slots_at d b) d keeps)

    pub reserved_keeps : (s : Setting) (ty : TyId) (element : Parts) (spot : Spot) (capacity : ℕ) (d : Content) → MayWrite types ordered loose c spot.object spot.word 1 → Keeps types loose c d → IfGot (reserved s ty element spot b capacity d) (Keeps types loose c)
    reserved_keeps s ty element spot capacity d write keeps =
        if_full (nat_lt (capacity_of d b) capacity) (then_get (regrown s ty element b capacity (size_of d b) d) (λ f. Got (owns spot f.0 f.1)))
        (got_then (regrown s ty element b capacity (size_of d b) d) (λ f. Got (owns spot f.0 f.1)) RoomKeeps (Keeps types loose c) (regrown_keeps s ty element b capacity (size_of d b) d keeps) (λ f h. owns_keeps spot write f.0 f.1 h.1))
      where
        if_full : (full : Bool) (other : Attempt Content) → IfGot other (Keeps types loose c) → IfGot (cond full other (Got d)) (Keeps types loose c)
        if_full true other h = h
        if_full false other h = keeps

    pub erased_keeps : (element : Parts) (i : ℕ) (d : Content) → Keeps types loose c d → Keeps types loose c (erased element b i d)
    erased_keeps element i d keeps =
        keeps_resized types ordered loose c b (size_of d b - 1) i (filled b (map words_in (take i (slots_at d b)) ++ (taken_slots element (drop (i + 1) (slots_at d b)) (ended element (slot_words d b i) d)).0) (taken_slots element (drop (i + 1) (slots_at d b)) (ended element (slot_words d b i) d)).1) (inl may)
        (keeps_filled types ordered loose c b (map words_in (take i (slots_at d b)) ++ (taken_slots element (drop (i + 1) (slots_at d b)) (ended element (slot_words d b i) d)).0) (taken_slots element (drop (i + 1) (slots_at d b)) (ended element (slot_words d b i) d)).1 (inl may)
        (taken_slots_keep types ordered loose c element (drop (i + 1) (slots_at d b)) (ended element (slot_words d b i) d) (ended_keeps types ordered loose c element (slot_words d b i) d keeps)))

    -- ---- strings

    pub rewritten_keeps : (s : Setting) (ty : TyId) (spot : Spot) (words : List ℕ) (d : Content) → MayWrite types ordered loose c spot.object spot.word 1 → Keeps types loose c d → IfGot (rewritten s ty spot b words d) (Keeps types loose c)
    rewritten_keeps s ty spot words d write keeps =
        got_then (sized_birth s ty 1 (length words) d) (λ f. Got (owns spot f.0 (without b (filled f.0 (map one_word words) f.1)))) (BornKeeps types ordered loose c) (Keeps types loose c) (sized_birth_keeps types ordered loose c s ty 1 (length words) d keeps)
        (λ f h. owns_keeps spot write f.0 (without b (filled f.0 (map one_word words) f.1)) (keeps_without types ordered loose c b (filled f.0 (map one_word words) f.1) (keeps_filled types ordered loose c f.0 (map one_word words) f.1 (inr h.0) h.1)))

    -- ---- one change of either

    pub edited_keeps : (s : Setting) (p : Parts) (spot : Spot) (edit : Edit) (d : Content) → MayWrite types ordered loose c spot.object spot.word 1 → ((value : Content → Words) → edit ≡ Push value → (e : Content) → Keeps types loose c e → Keeps types loose c (value e).1) → Keeps types loose c d
        → IfGot (edited s p spot b edit d) (Keeps types loose c)
    edited_keeps s (Vector ty element) spot (Push value) d write each keeps = pushed_keeps s ty element spot value d write (each value refl) keeps
    edited_keeps s (Vector ty element) spot Pop d write each keeps = popped_keeps element (size_of d b) d keeps
    edited_keeps s (Vector ty element) spot Clear d write each keeps = cleared_keeps element d keeps
    edited_keeps s (Vector ty element) spot (Reserve n) d write each keeps = reserved_keeps s ty element spot n d write keeps
    edited_keeps s (Vector ty element) spot (Put words) d write each keeps = tt
    edited_keeps s (Vector ty element) spot (Add words) d write each keeps = tt
    edited_keeps s (Text ty) spot (Push value) d write each keeps = rewritten_keeps s ty spot (characters_of d b ++ (value d).0) d write keeps
    edited_keeps s (Text ty) spot Pop d write each keeps = tt
    edited_keeps s (Text ty) spot Clear d write each keeps = rewritten_keeps s ty spot [] d write keeps
    edited_keeps s (Text ty) spot (Reserve n) d write each keeps = tt
    edited_keeps s (Text ty) spot (Put words) d write each keeps = rewritten_keeps s ty spot words d write keeps
    edited_keeps s (Text ty) spot (Add words) d write each keeps = rewritten_keeps s ty spot (characters_of d b ++ words) d write keeps
    edited_keeps s Single spot edit d write each keeps = tt
    edited_keeps s Raw spot edit d write each keeps = tt
    edited_keeps s Iterates spot edit d write each keeps = tt
    edited_keeps s Views spot edit d write each keeps = tt
    edited_keeps s (Unique ty target) spot edit d write each keeps = tt
    edited_keeps s (Member first others) spot edit d write each keeps = tt
    edited_keeps s NoMember spot edit d write each keeps = tt
