-- Each vector and each string has its buffer where an object is pushed to a vector and gives its value over.
use Rattle.std.proofs.Common.{◌≡◌, ◌≢◌, ⊎_elim, ℕ, zero, suc, ◌+◌, ◌*◌, ◌≤◌, ◌<◌, Bool, true, false, List, [], ◌∷◌, ◌++◌, length, Option, Some, None, refl, sym, ap, subst, ◌∙◌, arith, ◌⊎◌, inl, inr}
use Rattle.std.proofs.lemmas.List.{length-take}
use Rattle.std.specs.Prelude.{cond, nat_lt, option_map, slice_get, slice_set, take}
use Rattle.life_types.specs.Types.{Types}
use Rattle.life_types.specs.declared.ty.TyId.{TyId}
use Rattle.life_store.specs.Cells.{at, at-set_other, at-set_same, at-unset_other}
use Rattle.life_store.specs.Content.{Slot, Object, Content, live_words_of, resized, resized_slots, set_slot, with_birth, with_object, with_resize, without, written}
use Rattle.life_store.specs.Edits.{capacity_of, filled_by, grown, owns, pushed, put_last, regrown, size_of, with_room}
use Rattle.life_store.specs.Effects.{Got, Setting}
use Rattle.life_store.specs.Held.{filled, filled_if, filled_slots, resized_at, resized_if, slot_words, slots_at, slots_if, with_words, words_if, wrote_if}
use Rattle.life_store.specs.Owners.{birth, consumed, taken, taken_slots}
use Rattle.life_store.specs.Parts.{Parts, parts_at, width}
use Rattle.life_store.specs.declared.run.TrapKind.TheVariants as trap
use Rattle.life_store.proofs.CellLemmas.{cell_cases, none_some, some_same}
use Rattle.life_forest.specs.Values.{AllWide}
use Rattle.life_forest.proofs.Coming.{IfGot, got_then, if_room}
use Rattle.life_forest.proofs.Widths.{count-resized, wide-resized}
use Rattle.life_cover.specs.Buffered.{AreBut, HasBuffers}
use Rattle.life_cover.proofs.Buffering.{Each, Have, birth_but, each_take, have_in, owns_but, resized_but, set_but, without_but}
use Rattle.life_cover.proofs.Copies.{slot_within}
use Rattle.life_cover.proofs.ErasedBuffers.{EachOf, count_filled, first_filled}
use Rattle.life_cover.proofs.Rebuffering.{AreFree, AreTaken, IsFree, IsSized, IsTaken, sized_is, slots_taken, taken_but}
use Rattle.life_cover.proofs.PutWords.{value_have}

-- ---- slots, of which the last is to be written

below_last : (j n : ℕ) → j < n + 1 → n ≢ j → j < n
below_last zero zero lt ne = absurd (ne refl)
below_last zero (suc n) lt ne = omega arith
below_last (suc j) zero lt ne = absurd (omega (arith, lt))
below_last (suc j) (suc n) lt ne = let r = below_last j n (omega (arith, lt)) (λ e. ne (ap suc e)) in omega (arith, r)

-- a word of the last one is written
last_written : (P : List ℕ → Type 0) (ss : List Slot) (n w v : ℕ) → ((s : Slot) → slice_get ss n ≡ Some s → P (slice_set s.words w v)) → EachOf P n ss → length ss ≤ n + 1 → Each P (set_slot ss n (option_map (written w v) (slice_get ss n)))
last_written P ss n w v new front fits = go (slice_get ss n) refl
  where
    within : (j : ℕ) (t : Slot) → slice_get ss j ≡ Some t → n ≢ j → j < n
    within j t e ne = let lt = slot_within ss j t e in below_last j n (omega (arith, lt, fits)) ne

    go : (o : Option Slot) → slice_get ss n ≡ o → Each P (set_slot ss n (option_map (written w v) o))
    go None e j t k = front j t (within j t k (λ same. none_some (sym e ∙ ap (slice_get ss) same ∙ k))) k
    go (Some s) e j t k = ⊎_elim (λ same. subst (λ (x : Slot). P x.words) same.1 (new s e)) (λ other. front j t (within j t other.1 other.0) other.1) (cell_cases ss n j (written w v s) t k)

-- one more slot than there were
front_taken : (P : List ℕ → Type 0) (n : ℕ) (xs ys : List Slot) → n ≤ length xs → EachOf P n xs → EachOf P n (xs ++ ys)
front_taken P zero xs ys le h i s lt e = absurd (omega (arith, lt))
front_taken P (suc n) [] ys le h i s lt e = absurd (omega (arith, le))
front_taken P (suc n) (x ∷ xs) ys le h zero s lt e = h 0 s (omega arith) e
front_taken P (suc n) (x ∷ xs) ys le h (suc i) s lt e = front_taken P n xs ys (omega (arith, le)) (λ j t less k. h (suc j) t (omega (arith, less)) k) i s (omega (arith, lt)) e

front_more : (P : List ℕ → Type 0) (w m : ℕ) (ss : List Slot) → Each P ss → EachOf P (length ss) (resized_slots w m (length ss + 1) (length ss) ss)
front_more P w m ss h =
    front_taken P (length ss) (take (length ss) ss) _ (let e = length-take (length ss) ss in omega (arith, e)) (λ i s lt e. each_take P (length ss) ss h i s e)

pub wide_at : (w i : ℕ) (ss : List Slot) (t : Slot) → AllWide w ss → slice_get ss i ≡ Some t → length t.words ≡ w
wide_at w i [] t h e = absurd (none_some e)
wide_at w zero (x ∷ ss) t h e = subst (λ (y : Slot). length y.words ≡ w) (some_same e) h.0
wide_at w (suc i) (x ∷ ss) t h e = wide_at w i ss t h.1 e

-- what isn't filled
past_filled : (ss : List Slot) (rows : List (List ℕ)) (i : ℕ) → length rows ≤ i → slice_get (filled_slots ss rows) i ≡ slice_get ss i
past_filled [] rows i le = refl
past_filled (s ∷ ss) [] i le = refl
past_filled (s ∷ ss) (r ∷ rows) zero le = absurd (omega (arith, le))
past_filled (s ∷ ss) (r ∷ rows) (suc i) le = past_filled ss rows i (omega (arith, le))

-- ---- values that are given over

module _ (types : Types) where
  -- the last slot of an object is given a value, where all others have their buffers
  pub value_put : (p : Parts) (q : Object) (size : ℕ) (ws : List ℕ) → parts_at types q.ty ≡ p → EachOf (HasBuffers p) size q.slots → length q.slots ≤ size + 1 → ((t : Slot) → slice_get q.slots size ≡ Some t → length t.words ≡ width p) → HasBuffers p ws → length ws ≡ width p
      → Have types (with_words size 0 ws q)
  value_put p q size ws typed front fits last has wide =
      value_have types q size ws p typed (λ j t e ne. front j t (let lt = slot_within q.slots j t e in below_last j size (omega (arith, lt, fits)) ne) e) last wide has

  -- ---- a vector whose elements are of this type, in a buffer, and an object that gives its value over

  module _ (bare : ℕ → Type 0) (s : Setting) (ty : TyId) (p : Parts) (typed : parts_at types ty ≡ p) (b : ℕ) (c : Content) (h : AreBut types bare c) (o : Object) (there : at c.objects b ≡ Some o) (type : o.ty ≡ ty) (wide : AllWide (width p) o.slots) (word : o.width ≡ width p) (born : b < c.births)
      (clear : bare b → ⊥) (m : ℕ) (m_born : m < c.births) (apart : b ≢ m) (old : AreFree types p (λ k. bare k ⊎ (k ≡ c.births)) (slots_at c b)) (old_m : AreFree types p (λ k. (bare k ⊎ (k ≡ c.births)) ⊎ (k ≡ m)) (slots_at c b)) where
    -- the buffer with room for one more
    pub record IsRoomy (f : ℕ × Content) : Type 0 where
      pub object : Object
      pub lies : at f.1.objects f.0 ≡ Some object
      pub parts : parts_at types object.ty ≡ p
      pub front : EachOf (HasBuffers p) (size_of c b) object.slots
      pub fits : length object.slots ≤ size_of c b + 1
      pub last : (t : Slot) → slice_get object.slots (size_of c b) ≡ Some t → length t.words ≡ width p
      pub buffers : AreBut types (λ k. bare k ⊎ (k ≡ f.0)) f.1
      pub either : (f.0 ≡ b) ⊎ (f.0 ≡ c.births)
      pub number : f.0 < f.1.births
      pub births : c.births ≤ f.1.births
      pub given : at f.1.objects m ≡ at c.objects m
      -- all but the old buffer is as it was
      pub same : (k : ℕ) (q : Object) → k < c.births → b ≢ k → at f.1.objects k ≡ Some q → at c.objects k ≡ Some q

    slots_are : slots_at c b ≡ o.slots
    slots_are = ap slots_if there

    size_is : size_of c b ≡ length o.slots
    size_is = ap (λ (x : Option Object). length (slots_if x)) there

    old_each : Each (HasBuffers p) o.slots
    old_each i t e = subst (λ (q : Parts). HasBuffers q t.words) (ap (parts_at types) type ∙ typed) (h b i o t clear there e)

    room_here : IsRoomy (b, resized_at b (size_of c b + 1) (size_of c b) c)
    room_here =
        subst (λ (x : Option Object). IsRoomy (b, resized_if x b (size_of c b + 1) (size_of c b) c)) (sym there)
        (record {
          object = resized (c.clock + 1) (size_of c b + 1) (size_of c b) o;
          lies = at-set_same c.objects b b (resized (c.clock + 1) (size_of c b + 1) (size_of c b) o) refl;
          parts = ap (parts_at types) type ∙ typed;
          front = subst (λ n. EachOf (HasBuffers p) n (resized_slots o.width (c.clock + 1) (n + 1) n o.slots)) (sym size_is) (front_more (HasBuffers p) o.width (c.clock + 1) o.slots old_each);
          fits = let e = count-resized o.width (c.clock + 1) (size_of c b + 1) (size_of c b) o.slots (omega arith) (let n = size_is in omega (arith, n)) in omega (arith, e);
          last = λ t e. wide_at o.width (size_of c b) (resized_slots o.width (c.clock + 1) (size_of c b + 1) (size_of c b) o.slots) t
              (wide-resized o.width (c.clock + 1) (size_of c b + 1) (size_of c b) o.slots (subst (λ n. AllWide n o.slots) (sym word) wide)) e ∙ word;
          buffers = set_but types (λ k. bare k ⊎ (k ≡ b)) b (resized (c.clock + 1) (size_of c b + 1) (size_of c b) o) c (with_resize b (size_of c b + 1) (size_of c b) o c) (inl (inr refl)) refl (λ k i q t free at_k slot. h k i q t (λ gone. free (inl gone)) at_k slot);
          either = inl refl;
          number = born;
          births = omega arith;
          given = at-set_other c.objects b m (resized (c.clock + 1) (size_of c b + 1) (size_of c b) o) apart;
          same = λ k q lt ne at_k. sym (at-set_other c.objects b k (resized (c.clock + 1) (size_of c b + 1) (size_of c b) o) ne) ∙ at_k;
        })

    module _ (capacity : ℕ) where
      abbrev first : Content
      first = resized_at c.births (size_of c b + 1) 0 (with_birth ty (width p) capacity c)

      abbrev rows : List (List ℕ) × Content
      rows = taken_slots p (slots_at c b) (resized_at c.births (size_of c b + 1) 0 (with_birth ty (width p) capacity c))

      new : IsSized c ty (width p) (size_of c b + 1) (c.births, resized_at c.births (size_of c b + 1) 0 (with_birth ty (width p) capacity c))
      new = sized_is c ty (width p) capacity (size_of c b + 1)

      first_but : (out : ℕ → Type 0) → ((k : ℕ) → bare k → out k) → out c.births → AreBut types out (resized_at c.births (size_of c b + 1) 0 (with_birth ty (width p) capacity c))
      first_but out more has = resized_but types out c.births (size_of c b + 1) 0 (with_birth ty (width p) capacity c) has (birth_but types out ty (width p) capacity c (λ k i q t free at_k slot. h k i q t (λ gone. free (more k gone)) at_k slot))

      took : AreTaken types p (λ k. bare k ⊎ (k ≡ c.births)) c.births (length (slots_at c b)) (resized_at c.births (size_of c b + 1) 0 (with_birth ty (width p) capacity c)) (taken_slots p (slots_at c b) (resized_at c.births (size_of c b + 1) 0 (with_birth ty (width p) capacity c)))
      took = slots_taken types p (λ k. bare k ⊎ (k ≡ c.births)) c.births (inr refl) (slots_at c b) old first (let n = new.births in omega (arith, n)) (first_but (λ k. bare k ⊎ (k ≡ c.births)) (λ k gone. inl gone) (inr refl))

      -- what gives its value over is as it was
      m_took : at rows.1.objects m ≡ at c.objects m
      m_took =
          (slots_taken types p (λ k. (bare k ⊎ (k ≡ c.births)) ⊎ (k ≡ m)) m (inr refl) (slots_at c b) old_m first (let n = new.births in omega (arith, n, m_born)) (first_but (λ k. (bare k ⊎ (k ≡ c.births)) ⊎ (k ≡ m)) (λ k gone. inl (inl gone)) (inl (inr refl)))).same
          ∙ new.others m m_born

      abbrev filled_one : Object
      filled_one = record (new.object) { slots = filled_slots new.object.slots rows.0 }

      new_there : at rows.1.objects c.births ≡ Some new.object
      new_there = took.same ∙ new.there

      old_not_new : b ≢ c.births
      old_not_new e = omega (arith, e, born)

      room_grown : IsRoomy (c.births, without b (filled c.births rows.0 rows.1))
      room_grown =
          subst (λ (x : Option Object). IsRoomy (c.births, without b (filled_if x c.births rows.0 rows.1))) (sym new_there)
          (record {
            object = filled_one;
            lies = at-unset_other (with_object c.births filled_one rows.1).objects b c.births old_not_new ∙ at-set_same rows.1.objects c.births c.births filled_one refl;
            parts = ap (parts_at types) new.type ∙ typed;
            front = subst (λ n. EachOf (HasBuffers p) n (filled_slots new.object.slots rows.0)) (took.count_is) (first_filled (HasBuffers p) new.object.slots rows.0 took.has);
            fits = let a = count_filled new.object.slots rows.0 in let e = new.count in omega (arith, a, e);
            last = λ t e. wide_at (width p) (size_of c b) new.object.slots t new.wide (sym (past_filled new.object.slots rows.0 (size_of c b) (let n = took.count_is in omega (arith, n))) ∙ e);
            buffers = without_but types (λ k. bare k ⊎ (k ≡ c.births)) b (with_object c.births filled_one rows.1)
                (set_but types (λ k. bare k ⊎ (k ≡ c.births)) c.births filled_one rows.1 (with_object c.births filled_one rows.1) (inl (inr refl)) refl took.buffers);
            either = inr refl;
            number = let a = new.births in let e = took.older.births in omega (arith, a, e);
            births = let a = new.births in let e = took.older.births in omega (arith, a, e);
            given = at-unset_other (with_object c.births filled_one rows.1).objects b m apart ∙ at-set_other rows.1.objects c.births m filled_one (λ e. absurd (omega (arith, e, m_born))) ∙ m_took;
            same = λ k q lt ne at_k. new.older.same k q lt
                (took.older.same k q (let a = new.births in omega (arith, a, lt)) (sym (at-set_other rows.1.objects c.births k filled_one (λ e. absurd (omega (arith, e, lt)))) ∙ sym (at-unset_other (with_object c.births filled_one rows.1).objects b k ne) ∙ at_k));
          })

    room : IfGot (with_room s ty p b c) IsRoomy
    room = go (nat_lt (size_of c b) (capacity_of c b))
      where
        go : (free : Bool) → IfGot (cond free (Got (b, resized_at b (size_of c b + 1) (size_of c b) c)) (regrown s ty p b (grown s.given.growth (size_of c b) (capacity_of c b)) (size_of c b + 1) c)) IsRoomy
        go true = room_here
        go false =
            got_then (birth s ty (width p) (grown s.given.growth (size_of c b) (capacity_of c b)) c) (λ f. Got (f.0, without b (filled_by f.0 (taken_slots p (slots_at c b) (resized_at f.0 (size_of c b + 1) 0 f.1)))))
            (λ f. f ≡ (c.births, with_birth ty (width p) (grown s.given.growth (size_of c b) (capacity_of c b)) c)) IsRoomy
            (if_room (nat_lt s.given.cells (live_words_of c + (2 + width p * grown s.given.growth (size_of c b) (capacity_of c b)))) trap.Cells (c.births, with_birth ty (width p) (grown s.given.growth (size_of c b) (capacity_of c b)) c)
            (λ f. f ≡ (c.births, with_birth ty (width p) (grown s.given.growth (size_of c b) (capacity_of c b)) c)) refl)
            (λ f e. subst (λ (g : ℕ × Content). IsRoomy (g.0, without b (filled_by g.0 (taken_slots p (slots_at c b) (resized_at g.0 (size_of c b + 1) 0 g.1))))) (sym e) (room_grown (grown s.given.growth (size_of c b) (capacity_of c b))))

    -- ---- the value is given over

    module _ (om : Object) (sl : Slot) (m_there : at c.objects m ≡ Some om) (one_slot : om.slots ≡ sl ∷ []) (has : HasBuffers p sl.words) (m_wide : length sl.words ≡ width p) (free : IsFree types p (λ k. bare k ⊎ ((k ≡ b) ⊎ (k ≡ c.births))) sl.words)
        (n i w : ℕ) (n_born : n < c.births) (n_apart : b ≢ n) where
      module _ (f : ℕ × Content) (r : IsRoomy f) where
        words : slot_words f.1 m 0 ≡ sl.words
        words = ap (λ (x : Option Object). words_if (slice_get (slots_if x) 0)) (r.given ∙ m_there) ∙ ap (λ (ss : List Slot). words_if (slice_get ss 0)) one_slot

        is_free : (k : ℕ) → (bare k ⊎ (k ≡ f.0)) → bare k ⊎ ((k ≡ b) ⊎ (k ≡ c.births))
        is_free k (inl none) = inl none
        is_free k (inr e) = inr (⊎_elim (λ old. inl (e ∙ old)) (λ new. inr (e ∙ new)) r.either)

        free_there : IsFree types p (λ k. bare k ⊎ (k ≡ f.0)) sl.words
        free_there u k e owned gone = free u k e owned (is_free k gone)

        took_m : IsTaken types p (λ k. bare k ⊎ (k ≡ f.0)) f.0 f.1 (taken p sl.words f.1)
        took_m = taken_but types p (λ k. bare k ⊎ (k ≡ f.0)) f.0 (inr refl) sl.words m_wide has free_there f.1 r.number r.buffers

        abbrev behind : Content
        behind = without m (taken p sl.words f.1).1

        abbrev new_one : Object
        new_one = with_words (size_of c b) 0 (taken p sl.words f.1).0 r.object

        m_not_new : m ≢ f.0
        m_not_new e = ⊎_elim (λ old. apart (sym old ∙ sym e)) (λ new. omega (arith, e, new, m_born)) r.either

        n_not_new : n ≢ f.0
        n_not_new e = ⊎_elim (λ old. n_apart (sym old ∙ sym e)) (λ new. omega (arith, e, new, n_born)) r.either

        behind_there : at behind.objects f.0 ≡ Some r.object
        behind_there = at-unset_other (taken p sl.words f.1).1.objects m f.0 m_not_new ∙ took_m.same ∙ r.lies

        last_there : at (owns (record { object = n; index = i; word = w }) f.0 behind).objects f.0 ≡ Some r.object
        last_there = go (at behind.objects n)
          where
            go : (x : Option Object) → at (wrote_if x n i w (suc f.0 ∷ []) behind).objects f.0 ≡ Some r.object
            go None = behind_there
            go (Some q) = at-set_other behind.objects n f.0 (with_words i w (suc f.0 ∷ []) q) n_not_new ∙ behind_there

        put_have : Have types new_one
        put_have = value_put p r.object (size_of c b) (taken p sl.words f.1).0 r.parts r.front r.fits r.last took_m.has took_m.wide

        given_over : AreBut types bare (put_last (record { object = n; index = i; word = w }) f.0 (size_of c b) (consumed p m f.1))
        given_over =
            subst (λ (ws : List ℕ). AreBut types bare (put_last (record { object = n; index = i; word = w }) f.0 (size_of c b) ((taken p ws f.1).0, without m (taken p ws f.1).1))) (sym words)
            (subst (λ (x : Option Object). AreBut types bare (wrote_if x f.0 (size_of c b) 0 (taken p sl.words f.1).0 (owns (record { object = n; index = i; word = w }) f.0 behind))) (sym last_there)
            (have_in types bare f.0 (with_object f.0 new_one (owns (record { object = n; index = i; word = w }) f.0 behind))
            (λ q e. subst (Have types) (some_same (sym (at-set_same (owns (record { object = n; index = i; word = w }) f.0 behind).objects f.0 f.0 new_one refl) ∙ e)) put_have)
            (set_but types (λ k. bare k ⊎ (k ≡ f.0)) f.0 new_one (owns (record { object = n; index = i; word = w }) f.0 behind) (with_object f.0 new_one (owns (record { object = n; index = i; word = w }) f.0 behind)) (inl (inr refl)) refl
            (owns_but types (λ k. bare k ⊎ (k ≡ f.0)) n i w f.0 behind
            (without_but types (λ k. bare k ⊎ (k ≡ f.0)) m (taken p sl.words f.1).1 took_m.buffers)))))

      pub object_buffered : IfGot (pushed s ty p (record { object = n; index = i; word = w }) b (consumed p m) c) (AreBut types bare)
      object_buffered = got_then (with_room s ty p b c) (λ f. Got (put_last (record { object = n; index = i; word = w }) f.0 (size_of c b) (consumed p m f.1))) IsRoomy (AreBut types bare) room given_over
