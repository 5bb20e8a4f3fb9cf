-- Behind an end and a change in a frame each vector and each string has its buffer; and what a change touches lies beneath what the
-- frame names.
use Rattle.std.proofs.Common.{◌≡◌, ◌≢◌, ⊎_elim, ℕ, zero, suc, ◌<◌, List, [], ◌∷◌, ◌++◌, length, Option, Some, None, refl, sym, ap, subst, ◌∙◌, arith, ◌⊎◌, inl, inr, Bool, true, false}
use Rattle.std.specs.Prelude.{ℤ, slice_get, ◌||◌, nat_eq}
use Rattle.std.specs.Int.{cast_unsigned, w64}
use Rattle.std.specs.List.{list_any}
use Rattle.life_types.specs.Types.{Types}
use Rattle.life_types.specs.declared.ty.Ty.TheVariants as ty
use Rattle.life_types.specs.declared.ty.TyId.{TyId}
use Rattle.life_types.specs.TypeTests.{is_pointer, is_void}
use Rattle.life_core.specs.Function.{Function}
use Rattle.life_core.specs.Operands.{Characters, Location, Operand}
use Rattle.life_core.specs.Operands as named
use Rattle.life_core.specs.Step.{Append, Change, Changes, Clear, Erase, PopBack, PushBack, Reserve, Set, End}
use Rattle.life_pset.specs.Shapes.{has_buffer}
use Rattle.life_pset.specs.declared.element.Fact.{Fact}
use Rattle.life_proper.specs.Placed.{type_of, type_in}
use Rattle.life_store.specs.Births.{end_cell, end_locals, end_object}
use Rattle.life_store.specs.Cells.{at, at-unset_same}
use Rattle.life_store.specs.Content.{Slot, Object, Content}
use Rattle.life_store.specs.Doing.{changed, does, edits, erases, on_given, pointer_to, pushes}
use Rattle.life_store.specs.Edits.{Edit, Add, Clear as ClearAll, Pop, Push, Put, Reserve as Room, buffer_of, characters_of, cleared, edited, erased, owned_at, popped, pushed, reserved, rewritten, size_of}
use Rattle.life_store.specs.Effects.{Attempt, GotFault, GotLost, Effect, Next, Traps, Faults, Strays, Setting, cell, got_or, on_got, on_next, put_content, word_of_number}
use Rattle.life_store.specs.Held.{slots_at, words_if, slots_if}
use Rattle.life_store.specs.Iterators.{erasable, iterator}
use Rattle.life_store.specs.Owners.{ended}
use Rattle.life_store.specs.Parts.{Parts, Single, Text, Vector, characters_type, local_parts, operand_parts, parts_at, parts_if}
use Rattle.life_store.specs.Places.{Spot, location_cell, on_found, on_spot, operand_word, pointed}
use Rattle.life_store.specs.State.{Cell, Empty, Named, Number, Pointer, Points, State}
use Rattle.life_store.specs.Views.{seen_words, used}
use Rattle.life_store.specs.declared.run.FaultKind.TheVariants as fault
use Rattle.life_store.proofs.CellLemmas.{none_some, some_same}
use Rattle.life_store.proofs.MapLemmas.{one_or_apart}
use Rattle.life_forest.specs.Forest.{Touches}
use Rattle.life_forest.specs.Frames.{OnNext}
use Rattle.life_forest.specs.Kinds.{kinds_of}
use Rattle.life_forest.specs.Values.{AllWide}
use Rattle.life_forest.specs.Within.{LiesWithin}
use Rattle.life_forest.proofs.Coming.{IfGot}
use Rattle.life_forest.proofs.FrameChanges.{erasable_below}
use Rattle.life_forest.proofs.Frames.{on_got_next}
use Rattle.life_forest.proofs.SeenTypes.{character_parts, parts_typed}
use Rattle.life_forest.proofs.StandingChanges.{on_got_each, on_number_next}
use Rattle.life_forest.proofs.Following.{in_hand}
use Rattle.life_cover.specs.Buffered.{AreBut}
use Rattle.life_cover.specs.Inputs.{StandsAt, may_change, owning}
use Rattle.life_cover.specs.Regions.{Region, foot_of}
use Rattle.life_pset.specs.declared.element.Root.{Root}
use Rattle.life_cover.specs.Lacking.{MayLack}
use Rattle.life_cover.proofs.Behind.{IsBehind, behind_content, both_got, both_next, right_next, no_local, TellsLost, no_location}
use Rattle.life_cover.proofs.Buffering.{AllSome, cleared_buffered, ended_but, popped_buffered, without_but, but_more}
use Rattle.life_cover.proofs.Buffers.{clear_touches, pop_touches, push_touches, reserve_touches, rewrite_touches}
use Rattle.life_cover.proofs.EraseKinds.{erased_within, store_behind as erased_store}
use Rattle.life_cover.proofs.HeldElements.{all_free, elements_shut, held, held_type, vector_operand, vector_parts, elements_region, not_bare}
use Rattle.life_cover.proofs.KnownFrames.{IsKnownFrame, hand_of, store_of}
use Rattle.life_cover.proofs.Opening.{IsOpened, text_opened, vector_opened, IsTyped, owner_typed, region_part}
use Rattle.life_cover.proofs.Reaching.{IsReached, Reach, reached, fixed, outside, astray, spot_is}
use Rattle.life_cover.proofs.Rebuffering.{AreFree, rewritten_buffered}
use Rattle.life_cover.proofs.Regrown.{pushed_buffered, reserved_buffered}
use Rattle.life_cover.proofs.SaveKinds.{region_within}
use Rattle.life_cover.proofs.Sparing.{change_spares, named_spares}
use Rattle.life_cover.proofs.EndKinds.{AreEnded, all_end, among_named, foot_among}
use Rattle.life_cover.proofs.Lacking.{low_whole}
use Rattle.life_cover.proofs.Locals.{locals_other}
use Rattle.life_cover.proofs.UniquesStay.{had_beside, had_on}
use Rattle.life_cover.proofs.OtherTypes.{IsOther, reached_other}
use Rattle.life_cover.proofs.Putting.{set_other}
use Rattle.std.proofs.lemmas.Bool.{false≢true}
use Rattle.std.proofs.lemmas.Bool.Decides.{nat_tests}
use Rattle.life_cover.proofs.PointedBehind.{pointed_behind}
use Rattle.life_cover.proofs.SparedPointers.{owner_free, spares_reached, variable_on}

-- ---- ends

either_true : (a b : Bool) → (a || b) ≡ true → (a ≡ true) ⊎ (b ≡ true)
either_true true b e = inl refl
either_true false b e = inr e

or_before : (a b : Bool) → a ≡ true → (a || b) ≡ true
or_before true b e = refl
or_before false b e = absurd (false≢true e)

or_behind : (a b : Bool) → b ≡ true → (a || b) ≡ true
or_behind true b e = refl
or_behind false b e = e

same_number : (a b : ℕ) → nat_eq a b ≡ true → a ≡ b
same_number a b e = grind (arith, nat_tests)

-- one of these locals
abbrev pub IsAmong : List ℕ → ℕ → Type 0
IsAmong xs x = list_any (λ z. nat_eq z x) xs ≡ true

-- what may be bare, and none of these locals names
abbrev pub LeftBare : (bare : ℕ → Type 0) (xs : List ℕ) → State → ℕ → Type 0
LeftBare bare xs st n = bare n × ((x : ℕ) → IsAmong xs x → slice_get st.cells x ≡ Some (Named n) → ⊥)

module _ (types : Types) (f : Function) where
  -- what one local names is bare no more
  pub record IsOneEnded (bare : ℕ → Type 0) (x : ℕ) (st after : State) : Type 0 where
    pub buffers : AreBut types (λ n. bare n × (slice_get st.cells x ≡ Some (Named n) → ⊥)) after.world.content
    pub others : (y : ℕ) → x ≢ y → slice_get after.cells y ≡ slice_get st.cells y

  one_ended : (bare : ℕ → Type 0) (x : ℕ) (st : State) → AreBut types bare st.world.content → (v : Option Cell) → slice_get st.cells x ≡ v → OnNext (end_cell (local_parts types f x) v x st) (IsOneEnded bare x st)
  one_ended bare x st h None e = tt
  one_ended bare x st h (Some Empty) e = tt
  one_ended bare x st h (Some (Number z)) e = tt
  one_ended bare x st h (Some (Points p)) e = record {
    buffers = but_more types bare (λ n. bare n × (slice_get st.cells x ≡ Some (Named n) → ⊥)) st.world.content (λ n b. (b, λ named. unlike n (some_same (sym e ∙ named)))) h;
    others = λ y ne. set_other st.cells x y Empty ne;
  }
    where
      unlike : (n : ℕ) → Points p ≡ Named n → ⊥
      unlike n k = cc
  one_ended bare x st h (Some (Named n)) e = object (at st.world.content.objects n)
    where
      same : {i j : ℕ} → Named i ≡ Named j → i ≡ j
      same k = cc

      left : Option Object → Content
      left o = ended (local_parts types f x) (words_if (slice_get (slots_if o) 0)) st.world.content

      object : (o : Option Object) → OnNext (end_object (local_parts types f x) o n x st) (IsOneEnded bare x st)
      object None = tt
      object (Some o) = record {
        buffers = λ m i q t free there slot.
            without_but types bare n (left (Some o)) (ended_but types bare (local_parts types f x) (words_if (slice_get o.slots 0)) st.world.content h) m i q t
            (λ b. free (b, λ named. none_some (sym (at-unset_same (left (Some o)).objects n m (same (some_same (sym e ∙ named)))) ∙ there))) there slot;
        others = λ y ne. set_other st.cells x y Empty ne;
      }

  ends_buffered : (bare : ℕ → Type 0) (xs : List ℕ) (st : State) → AreBut types bare st.world.content → OnNext (end_locals types f xs st) (λ after. AreBut types (LeftBare bare xs st) after.world.content)
  ends_buffered bare [] st h = but_more types bare (LeftBare bare [] st) st.world.content (λ n b. (b, λ x among named. false≢true among)) h
  ends_buffered bare (x ∷ xs) st h =
      go (end_cell (local_parts types f x) (cell st x) x st) (one_ended bare x st h (cell st x) refl) (λ after k. ends_buffered (λ n. bare n × (slice_get st.cells x ≡ Some (Named n) → ⊥)) xs after k.buffers)
    where
      still : (st1 : State) → IsOneEnded bare x st st1 → (n : ℕ) → LeftBare (λ m. bare m × (slice_get st.cells x ≡ Some (Named m) → ⊥)) xs st1 n → LeftBare bare (x ∷ xs) st n
      still st1 one n left = (
        left.0.0,
        λ y among named. one_or_apart x y (λ same. left.0.1 (ap (slice_get st.cells) same ∙ named))
            (λ ne. ⊎_elim (λ first. ne (same_number x y first)) (λ later. left.1 y later (one.others y ne ∙ named)) (either_true (nat_eq x y) (list_any (λ z. nat_eq z y) xs) among)),
      )

      more : (st1 : State) → IsOneEnded bare x st st1 → (e : Effect) → OnNext e (λ after. AreBut types (LeftBare (λ m. bare m × (slice_get st.cells x ≡ Some (Named m) → ⊥)) xs st1) after.world.content)
          → OnNext e (λ after. AreBut types (LeftBare bare (x ∷ xs) st) after.world.content)
      more st1 one (Next after) k = but_more types (LeftBare (λ m. bare m × (slice_get st.cells x ≡ Some (Named m) → ⊥)) xs st1) (LeftBare bare (x ∷ xs) st) after.world.content (still st1 one) k
      more st1 one (Traps kind) k = tt
      more st1 one (Faults kind) k = tt
      more st1 one Strays k = tt

      go : (e : Effect) → OnNext e (IsOneEnded bare x st)
          → ((after : State) → IsOneEnded bare x st after → OnNext (end_locals types f xs after) (λ last. AreBut types (LeftBare (λ m. bare m × (slice_get st.cells x ≡ Some (Named m) → ⊥)) xs after) last.world.content))
          → OnNext (on_next e (end_locals types f xs)) (λ after. AreBut types (LeftBare bare (x ∷ xs) st) after.world.content)
      go (Next st1) h each = more st1 h (end_locals types f xs st1) (each st1 h)
      go (Traps kind) h each = tt
      go (Faults kind) h each = tt
      go Strays h each = tt

-- .. and what ends is named
module _ (types : Types) (f : Function) (rest : ℕ → ℕ) (inputs : Root → Option Region) (S : Fact → Type 0) (st : State) (k : IsKnownFrame types f rest inputs S st) (s : Setting) (xs : List ℕ) where
  unlike : (n : ℕ) → Named n ≡ Empty → ⊥
  unlike n e = cc

  -- none of them is named then
  pub ends_tell : (S' : Fact → Type 0) → OnNext (does s types f (End xs) st) (TellsLost types f S' (λ l. IsAmong xs l.local))
  ends_tell S' =
      both_next (end_locals types f xs st) (AreEnded types xs st) (AreEnded types xs st) (TellsLost types f S' (λ l. IsAmong xs l.local)) ends ends (λ after over again l n among e unique. absurd (false≢true (sym (over.was l.local (Named n) e (unlike n)).1 ∙ among)))
    where
      ends : OnNext (end_locals types f xs st) (AreEnded types xs st)
      ends = right_next (end_locals types f xs st) (AreEnded types xs st) (all_end types k.ordered f rest xs st k.stands)

  pub ends_behind : OnNext (does s types f (End xs) st) (IsBehind types f inputs (LeftBare (MayLack types f inputs S st) xs st) (IsAmong xs) no_location st)
  ends_behind =
      both_next (end_locals types f xs st) (λ after. AreBut types (LeftBare (MayLack types f inputs S st) xs st) after.world.content) (AreEnded types xs st) (IsBehind types f inputs (LeftBare (MayLack types f inputs S st) xs st) (IsAmong xs) no_location st)
      (ends_buffered types f (MayLack types f inputs S st) xs st k.buffered)
      (right_next (end_locals types f xs st) (AreEnded types xs st) (all_end types k.ordered f rest xs st k.stands))
      (λ after buffered over.
      record {
        buffered = buffered;
        touch = named_spares types f rest inputs S st k (foot_among st.cells xs) after.world.content (λ n e. let z = among_named st.cells xs n e in in_hand st.cells z.0 n z.2) (λ m w e. false≢true e) over.touch;
        named = λ x n e. inl (in_hand st.cells x n (over.was x (Named n) e (unlike n)).0);
        kept = λ x n e. by x (list_any (λ z. nat_eq z x) xs) refl (over.stays x n e);
        had = λ l n e unique. let was = over.was l.local (Named n) e (unlike n) in inr (was.0, had_on types f rest inputs S st k l n was.0 unique (foot_among st.cells xs) after.world.content over.touch (other_ended l.local n was.0 was.1) refl);
      })
    where
      other_ended : (x n : ℕ) → slice_get st.cells x ≡ Some (Named n) → list_any (λ z. nat_eq z x) xs ≡ false → (foot_among st.cells xs).whole n ≡ true → ⊥
      other_ended x n e left ends =
          let z = among_named st.cells xs n ends in
          one_or_apart z.0 x (λ same. false≢true (sym left ∙ subst (λ y. list_any (λ w. nat_eq w y) xs ≡ true) same z.1)) (λ ne. locals_other types f rest st k.stands.store k.stands.frame z.0 x n ne z.2 e)

      by : {P : Type 0} (x : ℕ) (b : Bool) → list_any (λ z. nat_eq z x) xs ≡ b → (list_any (λ z. nat_eq z x) xs ≡ false → P) → IsAmong xs x ⊎ P
      by x true e stays = inl e
      by x false e stays = inr (stays e)

-- ---- what is reached

module _ (types : Types) (f : Function) (inputs : Root → Option Region) (S : Fact → Type 0) (st : State) where
  -- elsewhere there is no next state
  pub by_next : (o : Operand) → Reach types f st (StandsAt inputs) (may_change types f) S o → (go : Spot → Effect) (Q : State → Type 0) → (IsReached types f st (StandsAt inputs) (may_change types f) S o → OnNext (on_spot types f o st go) Q) → OnNext (on_spot types f o st go) Q
  by_next o (reached r) go Q each = each r
  by_next o (fixed k e single) go Q each = subst (λ found. OnNext (on_found found (λ n i object. go (record { object = n; index = i; word = operand_word types f o st }))) Q) (sym e) tt
  by_next o (outside e) go Q each = subst (λ found. OnNext (on_found found (λ n i object. go (record { object = n; index = i; word = operand_word types f o st }))) Q) (sym e) tt
  by_next o (astray e) go Q each = subst (λ found. OnNext (on_found found (λ n i object. go (record { object = n; index = i; word = operand_word types f o st }))) Q) (sym e) tt

-- each slot has its words
pub all_some : (types : Types) (w : ℕ) → 0 < w → (ss : List Slot) → AllWide w ss → AllSome types ss
all_some types w lt [] h i t e = absurd (none_some e)
all_some types w lt (x ∷ ss) h zero t e = subst (λ (y : Slot). 0 < length y.words) (some_same e) (let l = h.0 in omega (arith, l, lt))
all_some types w lt (x ∷ ss) h (suc i) t e = all_some types w lt ss h.1 i t e

-- ---- changes of an owner that is reached

module _ (types : Types) (f : Function) (rest : ℕ → ℕ) (inputs : Root → Option Region) (S : Fact → Type 0) (st : State) (k : IsKnownFrame types f rest inputs S st) (o : Operand) (r : IsReached types f st (StandsAt inputs) (may_change types f) S o) (s : Setting) where
  -- the buffers are there, and what is touched is what is owned there
  abbrev pub IsEdited : Content → Type 0
  IsEdited d = AreBut types (MayLack types f inputs S st) d × Touches (kinds_of types) (foot_of types r.region) st.world.content d

  edited_behind : (own : owning types f r.place.root ≡ true) (other : IsOther types r.region.ty) (d : Content) → IsEdited d → IsBehind types f inputs (MayLack types f inputs S st) no_local no_location st (put_content d st)
  edited_behind own other d h =
      behind_content types f inputs (MayLack types f inputs S st) no_local no_location st d h.0 (change_spares types f rest inputs S st k o r own d h.1) (λ x n e unique. inr (had_beside types f rest inputs S st k r.region (region_part types f rest inputs S st k o r) other d h.1 x n e unique))

  within : LiesWithin types r.holder.ty r.region.word r.region.ty
  within = region_within types f rest inputs S st k o r

  pub holder_born : r.region.object < st.world.content.births
  holder_born = k.stands.store.forest.births r.region.object r.holder r.there

  module _ (own : owning types f r.place.root ≡ true) (other : IsOther types r.region.ty) (b : ℕ) (owned : owned_at st.world.content (record { object = r.region.object; index = r.index; word = r.region.word }) ≡ Some b) where
    edit_next : (p : Parts) (edit : Edit) → IfGot (edited s p (record { object = r.region.object; index = r.index; word = r.region.word }) b edit st.world.content) IsEdited
        → OnNext (edits s p (record { object = r.region.object; index = r.index; word = r.region.word }) edit st) (IsBehind types f inputs (MayLack types f inputs S st) no_local no_location st)
    edit_next p edit h =
        subst (λ w. OnNext (on_got (got_or w (GotFault fault.Moved)) go) (IsBehind types f inputs (MayLack types f inputs S st) no_local no_location st)) (sym owned)
        (on_got_next (edited s p (record { object = r.region.object; index = r.index; word = r.region.word }) b edit st.world.content) (λ d. Next (put_content d st)) IsEdited (IsBehind types f inputs (MayLack types f inputs S st) no_local no_location st) h (edited_behind own other))
      where
        go : ℕ → Effect
        go m = on_got (edited s p (record { object = r.region.object; index = r.index; word = r.region.word }) m edit st.world.content) (λ d. Next (put_content d st))

  no_edit : (p : Parts) (edit : Edit) → ((b : ℕ) → edited s p (record { object = r.region.object; index = r.index; word = r.region.word }) b edit st.world.content ≡ GotLost) → OnNext (edits s p (record { object = r.region.object; index = r.index; word = r.region.word }) edit st) (IsBehind types f inputs (MayLack types f inputs S st) no_local no_location st)
  no_edit p edit lost =
      on_got_each (buffer_of st.world.content (record { object = r.region.object; index = r.index; word = r.region.word })) (λ b. on_got (edited s p (record { object = r.region.object; index = r.index; word = r.region.word }) b edit st.world.content) (λ d. Next (put_content d st))) (IsBehind types f inputs (MayLack types f inputs S st) no_local no_location st)
      (λ b. subst (λ (x : Attempt Content). OnNext (on_got x (λ d. Next (put_content d st))) (IsBehind types f inputs (MayLack types f inputs S st) no_local no_location st)) (sym (lost b)) tt)

  pub by_change : (over : ℕ → Type 0) (p : Parts) → operand_parts types f o ≡ p → (change : Change) → OnNext (changed s types f p (record { object = r.region.object; index = r.index; word = r.region.word }) change st) (IsBehind types f inputs (MayLack types f inputs S st) over no_location st) → OnNext (does s types f (Changes o change) st) (IsBehind types f inputs (MayLack types f inputs S st) over no_location st)
  by_change over p is change h =
      subst (λ e. OnNext e (IsBehind types f inputs (MayLack types f inputs S st) over no_location st)) (sym (spot_is types f st (StandsAt inputs) (may_change types f) S o r (λ sp. changed s types f (operand_parts types f o) sp change st)))
      (subst (λ q. OnNext (changed s types f q (record { object = r.region.object; index = r.index; word = r.region.word }) change st) (IsBehind types f inputs (MayLack types f inputs S st) over no_location st)) (sym is) h)

  -- a number, or no value, is added
  by_number : (p : Parts) (x : ℕ) → ((m : ℕ) → cell st x ≡ Some (Named m) → ⊥) → ((z : ℤ) → OnNext (edits s p (record { object = r.region.object; index = r.index; word = r.region.word }) (Push (λ c. (word_of_number z ∷ [], c))) st) (IsBehind types f inputs (MayLack types f inputs S st) no_local no_location st))
      → OnNext (pushes s types f p (record { object = r.region.object; index = r.index; word = r.region.word }) x (cell st x) st) (IsBehind types f inputs (MayLack types f inputs S st) no_local no_location st)
  by_number p x free each = go (cell st x) refl
    where
      go : (v : Option Cell) → cell st x ≡ v → OnNext (pushes s types f p (record { object = r.region.object; index = r.index; word = r.region.word }) x v st) (IsBehind types f inputs (MayLack types f inputs S st) no_local no_location st)
      go None e = tt
      go (Some Empty) e = tt
      go (Some (Points q)) e = tt
      go (Some (Number z)) e = each z
      go (Some (Named m)) e = absurd (free m e)

  given_next : (given : Characters) (go : List ℕ → Effect) (Q : State → Type 0) → ((ws : List ℕ) → OnNext (go ws) Q) → OnNext (on_given s types f given st go) Q
  given_next (named.View l) go Q each = on_got_each (used st.world.content (location_cell types f l st)) (λ v. go (seen_words s.texts st.world.content v)) Q (λ v. each (seen_words s.texts st.world.content v))
  given_next (named.Single q) go Q each = on_number_next (cell st q) (λ z. go (word_of_number z ∷ [])) Q (λ z. each (word_of_number z ∷ []))

  -- ---- a string

  module _ (is_text : type_of types f o ≡ ty.Text) where
    typed_text : IsTyped types f rest inputs S st k o r ty.Text
    typed_text = owner_typed types f rest inputs S st k o r ty.Text (characters_type types) is_text refl refl

    pub text_parts : parts_at types r.region.ty ≡ Text (characters_type types)
    text_parts = parts_typed types k.ordered r.region.ty ty.Text typed_text.there

    pub text_operand : operand_parts types f o ≡ Text (characters_type types)
    text_operand = ap (parts_if types) typed_text.typed ∙ text_parts

  module _ (own : owning types f r.place.root ≡ true) (unmoved : MayLack types f inputs S st r.region.object → ⊥) (is_text : type_of types f o ≡ ty.Text) where
    text_at : IsOpened types f rest inputs S st k o r ty.Text (characters_type types)
    text_at = text_opened types f rest inputs S st k o r unmoved is_text

    text_other : IsOther types r.region.ty
    text_other = reached_other types f rest inputs S st k o r (ap is_void is_text) (ap has_buffer is_text)

    text_rewritten : (words : List ℕ) → IfGot (rewritten s (characters_type types) (record { object = r.region.object; index = r.index; word = r.region.word }) text_at.buffer words st.world.content) IsEdited
    text_rewritten words =
        both_got (rewritten s (characters_type types) (record { object = r.region.object; index = r.index; word = r.region.word }) text_at.buffer words st.world.content) (AreBut types (MayLack types f inputs S st)) (Touches (kinds_of types) (foot_of types r.region) st.world.content)
        (rewritten_buffered types (MayLack types f inputs S st) s (characters_type types) r.region.object r.index r.region.word text_at.buffer words st.world.content (character_parts types k.ordered) k.buffered)
        (rewrite_touches types k.ordered (hand_of rest st) st.world.content (store_of types f rest inputs S st k) r.region.object r.index r.region.word r.region.ty r.holder r.there within r.small (characters_type types) (text_parts is_text) text_at.buffer text_at.owned s words)

    text_edit : (edit : Edit) (words : List ℕ) → edited s (Text (characters_type types)) (record { object = r.region.object; index = r.index; word = r.region.word }) text_at.buffer edit st.world.content
        ≡ rewritten s (characters_type types) (record { object = r.region.object; index = r.index; word = r.region.word }) text_at.buffer words st.world.content
        → OnNext (edits s (Text (characters_type types)) (record { object = r.region.object; index = r.index; word = r.region.word }) edit st) (IsBehind types f inputs (MayLack types f inputs S st) no_local no_location st)
    text_edit edit words is = edit_next own text_other text_at.buffer text_at.owned (Text (characters_type types)) edit (subst (λ (x : Attempt Content). IfGot x IsEdited) (sym is) (text_rewritten words))

    text_changed : (change : Change) → ((x : ℕ) → change ≡ PushBack x → (m : ℕ) → cell st x ≡ Some (Named m) → ⊥) → OnNext (changed s types f (Text (characters_type types)) (record { object = r.region.object; index = r.index; word = r.region.word }) change st) (IsBehind types f inputs (MayLack types f inputs S st) no_local no_location st)
    text_changed (PushBack x) free = by_number (Text (characters_type types)) x (free x refl) (λ z. text_edit (Push (λ c. (word_of_number z ∷ [], c))) (characters_of st.world.content text_at.buffer ++ (word_of_number z ∷ [])) refl)
    text_changed PopBack free = no_edit (Text (characters_type types)) Pop (λ b. refl)
    text_changed Clear free = text_edit ClearAll [] refl
    text_changed (Reserve n) free = on_number_next (cell st n) (λ z. edits s (Text (characters_type types)) (record { object = r.region.object; index = r.index; word = r.region.word }) (Room (cast_unsigned w64 z)) st) (IsBehind types f inputs (MayLack types f inputs S st) no_local no_location st) (λ z. no_edit (Text (characters_type types)) (Room (cast_unsigned w64 z)) (λ b. refl))
    text_changed (Erase from into) free = on_got_each (iterator st.world.content (location_cell types f from st)) (λ v. erases types f (Text (characters_type types)) (record { object = r.region.object; index = r.index; word = r.region.word }) v into st) (IsBehind types f inputs (MayLack types f inputs S st) no_local no_location st) (λ v. tt)
    text_changed (Set given) free = given_next given (λ ws. edits s (Text (characters_type types)) (record { object = r.region.object; index = r.index; word = r.region.word }) (Put ws) st) (IsBehind types f inputs (MayLack types f inputs S st) no_local no_location st) (λ ws. text_edit (Put ws) ws refl)
    text_changed (Append given) free =
        given_next given (λ ws. edits s (Text (characters_type types)) (record { object = r.region.object; index = r.index; word = r.region.word }) (Add ws) st) (IsBehind types f inputs (MayLack types f inputs S st) no_local no_location st) (λ ws. text_edit (Add ws) (characters_of st.world.content text_at.buffer ++ ws) refl)

    pub text_behind : (change : Change) → ((x : ℕ) → change ≡ PushBack x → (m : ℕ) → cell st x ≡ Some (Named m) → ⊥) → OnNext (does s types f (Changes o change) st) (IsBehind types f inputs (MayLack types f inputs S st) no_local no_location st)
    text_behind change free = by_change no_local (Text (characters_type types)) (text_operand is_text) change (text_changed change free)

  -- ---- a vector

  module _ (own : owning types f r.place.root ≡ true) (unmoved : MayLack types f inputs S st r.region.object → ⊥) (element : TyId) (is_vector : type_of types f o ≡ ty.Vector element) where
    abbrev vector_at : IsOpened types f rest inputs S st k o r (ty.Vector element) element
    vector_at = vector_opened types f rest inputs S st k o r unmoved element is_vector

    vector_other : IsOther types r.region.ty
    vector_other = reached_other types f rest inputs S st k o r (ap is_void is_vector) (ap has_buffer is_vector)

    abbrev parts_are : parts_at types r.region.ty ≡ Vector element (parts_at types element)
    parts_are = vector_parts types f rest inputs S st k o r element is_vector

    abbrev elements : (x : Object) × (at st.world.content.objects (vector_opened types f rest inputs S st k o r unmoved element is_vector).buffer ≡ Some x)
    elements = held types f rest inputs S st k o r element is_vector unmoved

    abbrev elements_type : (held types f rest inputs S st k o r element is_vector unmoved).0.ty ≡ element
    elements_type = held_type types f rest inputs S st k o r element is_vector unmoved

    -- what its elements have was born
    old_ones : AreFree types (parts_at types element) (λ m. MayLack types f inputs S st m ⊎ (m ≡ st.world.content.births)) (slots_at st.world.content vector_at.buffer)
    old_ones = all_free types f rest inputs S st k o r element is_vector unmoved (λ m. MayLack types f inputs S st m ⊎ (m ≡ st.world.content.births)) (λ m q there low out. ⊎_elim (λ lacks. low_whole types f rest inputs S st k (elements_region types f rest inputs S st k o r element is_vector unmoved) m low lacks) (λ new. let born = k.stands.store.forest.births m q there in absurd (omega (arith, born, new))) out)

    vector_reserved : (count : ℕ) → IfGot (reserved s element (parts_at types element) (record { object = r.region.object; index = r.index; word = r.region.word }) vector_at.buffer count st.world.content) IsEdited
    vector_reserved count =
        both_got (reserved s element (parts_at types element) (record { object = r.region.object; index = r.index; word = r.region.word }) vector_at.buffer count st.world.content) (AreBut types (MayLack types f inputs S st)) (Touches (kinds_of types) (foot_of types r.region) st.world.content)
        (reserved_buffered types (MayLack types f inputs S st) s element (parts_at types element) refl r.region.object r.index r.region.word vector_at.buffer count st.world.content old_ones k.buffered)
        (reserve_touches types k.ordered (hand_of rest st) st.world.content (store_of types f rest inputs S st k) r.region.object r.index r.region.word r.region.ty r.holder r.there within r.small element (parts_at types element) parts_are vector_at.buffer vector_at.owned s count)

    module _ (single : parts_at types element ≡ Single) where
      vector_pushed : (z : ℤ) → OnNext (edits s (Vector element Single) (record { object = r.region.object; index = r.index; word = r.region.word }) (Push (λ c. (word_of_number z ∷ [], c))) st) (IsBehind types f inputs (MayLack types f inputs S st) no_local no_location st)
      vector_pushed z =
          edit_next own vector_other vector_at.buffer vector_at.owned (Vector element Single) (Push (λ c. (word_of_number z ∷ [], c)))
          (both_got (pushed s element Single (record { object = r.region.object; index = r.index; word = r.region.word }) vector_at.buffer (λ c. (word_of_number z ∷ [], c)) st.world.content) (AreBut types (MayLack types f inputs S st)) (Touches (kinds_of types) (foot_of types r.region) st.world.content)
          (pushed_buffered types (MayLack types f inputs S st) s element single vector_at.buffer st.world.content k.buffered (λ x there. ap (λ (y : Object). y.ty) (some_same (sym there ∙ elements.1)) ∙ elements_type) (subst (λ (p : Parts). AreFree types p (λ m. MayLack types f inputs S st m ⊎ (m ≡ st.world.content.births)) (slots_at st.world.content vector_at.buffer)) single old_ones) r.region.object r.index r.region.word (word_of_number z ∷ []))
          (push_touches types k.ordered (hand_of rest st) st.world.content (store_of types f rest inputs S st k) r.region.object r.index r.region.word r.region.ty r.holder r.there within r.small element Single
          (parts_are ∙ ap (Vector element) single) vector_at.buffer vector_at.owned s (word_of_number z ∷ []) refl (λ j. refl)))

    -- what is given the position of an erased element is a pointer, and to a vector of objects none is added
    abbrev pub IsKept : Change → Type 0
    IsKept (Erase from into) = is_pointer (type_in types f into) ≡ true
    IsKept (PushBack x) = (parts_at types element ≡ Single) × ((m : ℕ) → cell st x ≡ Some (Named m) → ⊥)
    IsKept _ = Unit {0}

    vector_erased : (v : Pointer) (into : Location) → is_pointer (type_in types f into) ≡ true → OnNext (erases types f (Vector element (parts_at types element)) (record { object = r.region.object; index = r.index; word = r.region.word }) v into st) (IsBehind types f inputs (MayLack types f inputs S st) no_local no_location st)
    vector_erased v into pointer =
        subst (λ w. OnNext (on_got (got_or w (GotFault fault.Moved)) at_buffer) (IsBehind types f inputs (MayLack types f inputs S st) no_local no_location st)) (sym vector_at.owned)
        (on_got_next (erasable st.world.content vector_at.buffer v) (λ i. at_element vector_at.buffer i) (λ i. i < size_of st.world.content vector_at.buffer) (IsBehind types f inputs (MayLack types f inputs S st) no_local no_location st) (erasable_below st.world.content vector_at.buffer v)
        (λ i small.
        pointed_behind types f rest inputs S st k (MayLack types f inputs S st) (erased (parts_at types element) vector_at.buffer i st.world.content) (elements_shut types f rest inputs S st k o r element is_vector unmoved i small).buffers
        (change_spares types f rest inputs S st k o r own (erased (parts_at types element) vector_at.buffer i st.world.content) (inside i small))
        (erased_store types k.ordered (hand_of rest st) st.world.content (store_of types f rest inputs S st k) r.region.object r.index r.region.word r.region.ty r.holder r.there within r.small element parts_are vector_at.buffer vector_at.owned i small)
        (λ x n e. variable_on types f rest inputs S st k (foot_of types r.region) (spares_reached types f rest inputs S st k o r (owner_free types f rest inputs S st k r.region.ty element vector_at.type)) (erased (parts_at types element) vector_at.buffer i st.world.content) (inside i small) x n e)
        (λ x n e unique. inr (had_beside types f rest inputs S st k r.region (region_part types f rest inputs S st k o r) vector_other (erased (parts_at types element) vector_at.buffer i st.world.content) (inside i small) x n e unique))
        into pointer (pointer_to (erased (parts_at types element) vector_at.buffer i st.world.content) vector_at.buffer i 0)))
      where
        inside : (i : ℕ) → i < size_of st.world.content vector_at.buffer → Touches (kinds_of types) (foot_of types r.region) st.world.content (erased (parts_at types element) vector_at.buffer i st.world.content)
        inside i small = erased_within types k.ordered (hand_of rest st) st.world.content (store_of types f rest inputs S st k) r.region.object r.index r.region.word r.region.ty r.holder r.there within r.small element parts_are vector_at.buffer vector_at.owned i small

        at_element : (b i : ℕ) → Effect
        at_element b i = pointed types f into (pointer_to (erased (parts_at types element) b i st.world.content) b i 0) (put_content (erased (parts_at types element) b i st.world.content) st)

        at_buffer : ℕ → Effect
        at_buffer b = on_got (erasable st.world.content b v) (λ i. at_element b i)

    vector_popped : IfGot (popped (parts_at types element) vector_at.buffer (size_of st.world.content vector_at.buffer) st.world.content) IsEdited
    vector_popped =
        both_got (popped (parts_at types element) vector_at.buffer (size_of st.world.content vector_at.buffer) st.world.content) (AreBut types (MayLack types f inputs S st)) (Touches (kinds_of types) (foot_of types r.region) st.world.content)
        (popped_buffered types (MayLack types f inputs S st) vector_at.buffer (not_bare types f rest inputs S st k o r element is_vector unmoved) (parts_at types element) (size_of st.world.content vector_at.buffer) st.world.content refl k.buffered) (sizes (size_of st.world.content vector_at.buffer))
      where
        sizes : (size : ℕ) → IfGot (popped (parts_at types element) vector_at.buffer size st.world.content) (Touches (kinds_of types) (foot_of types r.region) st.world.content)
        sizes zero = tt
        sizes (suc size) =
            pop_touches types k.ordered (hand_of rest st) st.world.content (store_of types f rest inputs S st k) r.region.object r.index r.region.word r.region.ty r.holder r.there within r.small element (parts_at types element) parts_are vector_at.buffer vector_at.owned size

    vector_cleared : IsEdited (cleared (parts_at types element) vector_at.buffer st.world.content)
    vector_cleared = (
      cleared_buffered types (MayLack types f inputs S st) vector_at.buffer (not_bare types f rest inputs S st k o r element is_vector unmoved) (parts_at types element) st.world.content k.buffered,
      clear_touches types k.ordered (hand_of rest st) st.world.content (store_of types f rest inputs S st k) r.region.object r.index r.region.word r.region.ty r.holder r.there within r.small element (parts_at types element) parts_are vector_at.buffer vector_at.owned,
    )

    vector_changed : (change : Change) → IsKept change → OnNext (changed s types f (Vector element (parts_at types element)) (record { object = r.region.object; index = r.index; word = r.region.word }) change st) (IsBehind types f inputs (MayLack types f inputs S st) no_local no_location st)
    vector_changed (PushBack x) kept =
        subst (λ (p : Parts). OnNext (pushes s types f (Vector element p) (record { object = r.region.object; index = r.index; word = r.region.word }) x (cell st x) st) (IsBehind types f inputs (MayLack types f inputs S st) no_local no_location st)) (sym kept.0) (by_number (Vector element Single) x kept.1 (vector_pushed kept.0))
    vector_changed PopBack kept = edit_next own vector_other vector_at.buffer vector_at.owned (Vector element (parts_at types element)) Pop vector_popped
    vector_changed Clear kept = edit_next own vector_other vector_at.buffer vector_at.owned (Vector element (parts_at types element)) ClearAll vector_cleared
    vector_changed (Reserve n) kept =
        on_number_next (cell st n) (λ z. edits s (Vector element (parts_at types element)) (record { object = r.region.object; index = r.index; word = r.region.word }) (Room (cast_unsigned w64 z)) st) (IsBehind types f inputs (MayLack types f inputs S st) no_local no_location st)
        (λ z. edit_next own vector_other vector_at.buffer vector_at.owned (Vector element (parts_at types element)) (Room (cast_unsigned w64 z)) (vector_reserved (cast_unsigned w64 z)))
    vector_changed (Erase from into) kept = on_got_each (iterator st.world.content (location_cell types f from st)) (λ v. erases types f (Vector element (parts_at types element)) (record { object = r.region.object; index = r.index; word = r.region.word }) v into st) (IsBehind types f inputs (MayLack types f inputs S st) no_local no_location st) (λ v. vector_erased v into kept)
    vector_changed (Set given) kept =
        given_next given (λ ws. edits s (Vector element (parts_at types element)) (record { object = r.region.object; index = r.index; word = r.region.word }) (Put ws) st) (IsBehind types f inputs (MayLack types f inputs S st) no_local no_location st) (λ ws. no_edit (Vector element (parts_at types element)) (Put ws) (λ b. refl))
    vector_changed (Append given) kept =
        given_next given (λ ws. edits s (Vector element (parts_at types element)) (record { object = r.region.object; index = r.index; word = r.region.word }) (Add ws) st) (IsBehind types f inputs (MayLack types f inputs S st) no_local no_location st) (λ ws. no_edit (Vector element (parts_at types element)) (Add ws) (λ b. refl))

    pub vector_behind : (change : Change) → IsKept change → OnNext (does s types f (Changes o change) st) (IsBehind types f inputs (MayLack types f inputs S st) no_local no_location st)
    vector_behind change kept = by_change no_local (Vector element (parts_at types element)) (vector_operand types f rest inputs S st k o r element is_vector) change (vector_changed change kept)
