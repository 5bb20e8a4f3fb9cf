-- Each vector and each string has its buffer where a string is written anew; what stays as it was behind a change that makes another buffer, and what values have that are taken into it.
use Rattle.std.proofs.Common.{◌≡◌, ⊎_elim, ℕ, zero, suc, ◌+◌, ◌*◌, ◌≤◌, ◌<◌, List, [], ◌∷◌, length, map, Option, Some, None, refl, sym, ap, subst, ◌∙◌, arith, ◌⊎◌, inl, inr, length-append, true, ◌++◌}
use Rattle.std.proofs.lemmas.List.{length-drop, length-take}
use Rattle.std.specs.Prelude.{nat_lt, slice_get, slice_index, drop, take}
use Rattle.life_types.specs.Types.{Types}
use Rattle.life_types.specs.declared.ty.TyId.{TyId}
use Rattle.life_store.specs.Cells.{at, set, at-set_other, at-set_same, at-unset_other}
use Rattle.life_store.specs.Content.{Slot, Object, Content, live_words_of, newborn, resized, with_birth, with_object, with_rename, with_resize, without}
use Rattle.life_store.specs.Edits.{one_word, owns, rewritten}
use Rattle.life_store.specs.Effects.{Got, Setting}
use Rattle.life_store.specs.Held.{filled, filled_if, filled_slots, owned_in, resized_at, resized_if}
use Rattle.life_store.specs.Owners.{Words, birth, renamed, renamed_if, sized_birth, taken, taken_slots}
use Rattle.life_store.specs.Parts.{Parts, Single, Raw, Iterates, Views, Text, Vector, Unique, Member, NoMember, parts_at, width}
use Rattle.life_store.specs.declared.run.TrapKind.TheVariants as trap
use Rattle.life_store.proofs.CellLemmas.{none_some, some_same, unset_cases}
use Rattle.life_forest.specs.Values.{AllWide}
use Rattle.life_forest.proofs.Begins.{behind, in_front}
use Rattle.life_forest.proofs.Coming.{IfGot, got_then, if_room}
use Rattle.life_forest.proofs.Widths.{count-blank, wide-resized}
use Rattle.life_cover.specs.Buffered.{AreBut, HasBuffers, is_buffer_at}
use Rattle.life_cover.proofs.BufferWords.{buffer_inside, drop_index, first_member, joined_has, other_members, take_index, text_has}
use Rattle.life_cover.proofs.Buffering.{birth_but, have_in, owns_but, rename_but, resized_but, set_but, single_have, without_but}

-- ---- what was there and is there is as it was

pub record IsOlder (c d : Content) : Type 0 where
  pub births : c.births ≤ d.births
  pub same : (k : ℕ) (o : Object) → k < c.births → at d.objects k ≡ Some o → at c.objects k ≡ Some o

pub older_self : (c : Content) → IsOlder c c
older_self c = record { births = omega arith; same = λ k o lt e. e }

pub older_then : (c d e : Content) → IsOlder c d → IsOlder d e → IsOlder c e
older_then c d e one two = record {
  births = let a = one.births in let b = two.births in omega (arith, a, b);
  same = λ k o lt there. one.same k o lt (two.same k o (let a = one.births in omega (arith, a, lt)) there);
}

pub older_set : (c d e : Content) (n : ℕ) (o : Object) → c.births ≤ n → d.births ≤ e.births → e.objects ≡ set d.objects n o → IsOlder c d → IsOlder c e
older_set c d e n o new births is older = record {
  births = let a = older.births in omega (arith, a, births);
  same = λ k q lt there. older.same k q lt (sym (at-set_other d.objects n k o (λ same. absurd (omega (arith, same, lt, new)))) ∙ ap (λ objects. at objects k) (sym is) ∙ there);
}

older_birth : (c : Content) (ty : TyId) (w capacity : ℕ) → IsOlder c (with_birth ty w capacity c)
older_birth c ty w capacity = older_set c c (with_birth ty w capacity c) c.births (newborn ty w capacity c.clock) (omega arith) (omega arith) refl (older_self c)

pub older_resized : (c d : Content) (n size since : ℕ) → c.births ≤ n → IsOlder c d → IsOlder c (resized_at n size since d)
older_resized c d n size since new older = go (at d.objects n)
  where
    go : (o : Option Object) → IsOlder c (resized_if o n size since d)
    go None = older
    go (Some o) = older_set c d (with_resize n size since o d) n (resized (d.clock + 1) size since o) new (omega arith) refl older

pub older_filled : (c d : Content) (n : ℕ) (rows : List (List ℕ)) → c.births ≤ n → IsOlder c d → IsOlder c (filled n rows d)
older_filled c d n rows new older = go (at d.objects n)
  where
    go : (o : Option Object) → IsOlder c (filled_if o n rows d)
    go None = older
    go (Some o) = older_set c d (with_object n (record o { slots = filled_slots o.slots rows }) d) n (record o { slots = filled_slots o.slots rows }) new (omega arith) refl older

pub older_without : (c d : Content) (n : ℕ) → IsOlder c d → IsOlder c (without n d)
older_without c d n older = record {
  births = older.births;
  same = λ k o lt there. ⊎_elim (λ gone. absurd (none_some (sym gone.1 ∙ there))) (λ kept. older.same k o lt (sym kept.1 ∙ there)) (unset_cases d.objects n k);
}

-- ---- a new object, with so many slots

pub record IsSized (c : Content) (ty : TyId) (w size : ℕ) (f : ℕ × Content) : Type 0 where
  pub number : f.0 ≡ c.births
  pub object : Object
  pub there : at f.1.objects f.0 ≡ Some object
  pub type : object.ty ≡ ty
  pub count : length object.slots ≡ size
  pub wide : AllWide w object.slots
  pub births : f.1.births ≡ c.births + 1
  pub older : IsOlder c f.1
  pub others : (k : ℕ) → k < c.births → at f.1.objects k ≡ at c.objects k

pub sized_is : (c : Content) (ty : TyId) (w capacity size : ℕ) → IsSized c ty w size (c.births, resized_at c.births size 0 (with_birth ty w capacity c))
sized_is c ty w capacity size =
    subst (λ (d : Content). IsSized c ty w size (c.births, d)) (ap (λ (o : Option Object). resized_if o c.births size 0 (with_birth ty w capacity c)) (sym bare)) (record {
      number = refl;
      object = resized (c.clock + 1) size 0 (newborn ty w capacity c.clock);
      there = at-set_same (with_birth ty w capacity c).objects c.births c.births (resized (c.clock + 1) size 0 (newborn ty w capacity c.clock)) refl;
      type = refl;
      count = count-blank w (c.clock + 1) size;
      wide = wide-resized w (c.clock + 1) size 0 [] tt;
      births = refl;
      older = older_set c (with_birth ty w capacity c) (with_resize c.births size 0 (newborn ty w capacity c.clock) (with_birth ty w capacity c)) c.births (resized (c.clock + 1) size 0 (newborn ty w capacity c.clock)) (omega arith) (omega arith) refl (older_birth c ty w capacity);
      others = λ k lt. at-set_other (with_birth ty w capacity c).objects c.births k (resized (c.clock + 1) size 0 (newborn ty w capacity c.clock)) (λ e. absurd (omega (arith, e, lt)))
          ∙ at-set_other c.objects c.births k (newborn ty w capacity c.clock) (λ e. absurd (omega (arith, e, lt)));
    })
  where
    bare : at (with_birth ty w capacity c).objects c.births ≡ Some (newborn ty w capacity c.clock)
    bare = at-set_same c.objects c.births c.births (newborn ty w capacity c.clock) refl

module _ (types : Types) where
  pub sized_but : (s : Setting) (ty : TyId) (w size : ℕ) (c : Content) (out : ℕ → Type 0) → AreBut types out c → IfGot (sized_birth s ty w size c) (λ f. IsSized c ty w size f × AreBut types (λ k. out k ⊎ (k ≡ f.0)) f.1)
  sized_but s ty w size c out h =
      got_then (birth s ty w size c) (λ f. Got (f.0, resized_at f.0 size 0 f.1)) (λ f. f ≡ (c.births, with_birth ty w size c)) (λ f. IsSized c ty w size f × AreBut types (λ k. out k ⊎ (k ≡ f.0)) f.1)
      (if_room (nat_lt s.given.cells (live_words_of c + (2 + w * size))) trap.Cells (c.births, with_birth ty w size c) (λ f. f ≡ (c.births, with_birth ty w size c)) refl)
      (λ f is. subst (λ (g : ℕ × Content). IsSized c ty w size (g.0, resized_at g.0 size 0 g.1) × AreBut types (λ k. out k ⊎ (k ≡ g.0)) (resized_at g.0 size 0 g.1)) (sym is) (
        sized_is c ty w size size,
        resized_but types (λ k. out k ⊎ (k ≡ c.births)) c.births size 0 (with_birth ty w size c) (inr refl)
            (λ k i o t free there slot. birth_but types out ty w size c h k i o t (λ gone. free (inl gone)) there slot),
      ))

  -- an object of single values isn't left out
  pub single_in : (out : ℕ → Type 0) (n : ℕ) (c : Content) → ((o : Object) → at c.objects n ≡ Some o → parts_at types o.ty ≡ Single) → AreBut types (λ k. out k ⊎ (k ≡ n)) c → AreBut types out c
  single_in out n c single = have_in types out n c (λ o there. single_have types o (single o there))

  -- ---- a string is written anew

  pub rewritten_buffered : (bare : ℕ → Type 0) (s : Setting) (ty : TyId) (n i w b : ℕ) (words : List ℕ) (c : Content) → parts_at types ty ≡ Single → AreBut types bare c → IfGot (rewritten s ty (record { object = n; index = i; word = w }) b words c) (AreBut types bare)
  rewritten_buffered bare s ty n i w b words c single h =
      got_then (sized_birth s ty 1 (length words) c) (λ f. Got (owns (record { object = n; index = i; word = w }) f.0 (without b (filled f.0 (map one_word words) f.1)))) (λ f. IsSized c ty 1 (length words) f × AreBut types (λ k. bare k ⊎ (k ≡ f.0)) f.1) (AreBut types bare)
      (sized_but s ty 1 (length words) c bare h)
      (λ f k.
      owns_but types bare n i w f.0 (without b (filled f.0 (map one_word words) f.1))
      (without_but types bare b (filled f.0 (map one_word words) f.1)
      (single_in bare f.0 (filled f.0 (map one_word words) f.1) (λ o there. ap (parts_at types) (filled_type f (map one_word words) k.0 o there) ∙ single) (filled_out f (map one_word words) k.1))))
    where
      filled_type : (f : ℕ × Content) (rows : List (List ℕ)) → IsSized c ty 1 (length words) f → (o : Object) → at (filled f.0 rows f.1).objects f.0 ≡ Some o → o.ty ≡ ty
      filled_type f rows sized o there =
          ap (λ (x : Object). x.ty) (some_same (sym there ∙ ap (λ (x : Option Object). at (filled_if x f.0 rows f.1).objects f.0) sized.there ∙ at-set_same f.1.objects f.0 f.0 (record (sized.object) { slots = filled_slots sized.object.slots rows }) refl)) ∙ sized.type

      filled_out : (f : ℕ × Content) (rows : List (List ℕ)) → AreBut types (λ k. bare k ⊎ (k ≡ f.0)) f.1 → AreBut types (λ k. bare k ⊎ (k ≡ f.0)) (filled f.0 rows f.1)
      filled_out f rows but = go (at f.1.objects f.0)
        where
          go : (o : Option Object) → AreBut types (λ k. bare k ⊎ (k ≡ f.0)) (filled_if o f.0 rows f.1)
          go None = but
          go (Some o) = set_but types (λ k. bare k ⊎ (k ≡ f.0)) f.0 (record o { slots = filled_slots o.slots rows }) f.1 (with_object f.0 (record o { slots = filled_slots o.slots rows }) f.1) (inl (inr refl)) refl but

  -- ---- values are taken into another buffer

  pub record IsTaken (p : Parts) (out : ℕ → Type 0) (f : ℕ) (d : Content) (v : Words) : Type 0 where
    pub has : HasBuffers p v.0
    pub wide : length v.0 ≡ width p
    pub buffers : AreBut types out v.1
    pub same : at v.1.objects f ≡ at d.objects f
    pub born : f < v.1.births
    pub older : IsOlder d v.1

  -- one value behind another
  both_taken : (first others : Parts) (out : ℕ → Type 0) (f : ℕ) (d : Content) (a : Words) → IsTaken first out f d a → (b : Words) → IsTaken others out f a.1 b → IsTaken (Member first others) out f d (a.0 ++ b.0, b.1)
  both_taken first others out f d a one b two = record {
    has = joined_has first others a.0 b.0 one.wide one.has two.has;
    wide = (let all = length-append a.0 b.0 in let x = one.wide in let y = two.wide in omega (arith, all, x, y));
    buffers = two.buffers;
    same = two.same ∙ one.same;
    born = two.born;
    older = older_then d a.1 b.1 one.older two.older;
  }

  -- what its vectors and strings have isn't left out
  abbrev pub IsFree : Parts → (ℕ → Type 0) → List ℕ → Type 0
  IsFree p out ws = (u m : ℕ) → is_buffer_at p u ≡ true → owned_in (slice_index ws u) ≡ Some m → out m → ⊥

  first_free : (first others : Parts) (out : ℕ → Type 0) (ws : List ℕ) → IsFree (Member first others) out ws → IsFree first out (take (width first) ws)
  first_free first others out ws free u m e owned =
      let lt = buffer_inside first u e in
      free u m (in_front (width first) (is_buffer_at first) (is_buffer_at others) u lt ∙ e) (ap owned_in (sym (take_index ws (width first) u lt)) ∙ owned)

  others_free : (first others : Parts) (out : ℕ → Type 0) (ws : List ℕ) → IsFree (Member first others) out ws → IsFree others out (drop (width first) ws)
  others_free first others out ws free u m e owned =
      free (width first + u) m (behind (width first) (is_buffer_at first) (is_buffer_at others) u (width first + u) refl ∙ e) (ap owned_in (sym (drop_index ws (width first) u (width first + u) refl)) ∙ owned)

  pub taken_but : (p : Parts) (out : ℕ → Type 0) (f : ℕ) → out f → (ws : List ℕ) → length ws ≡ width p → HasBuffers p ws → IsFree p out ws → (d : Content) → f < d.births → AreBut types out d → IsTaken p out f d (taken p ws d)
  taken_but (Text ty) out f gone ws wide has free d born h = subst (λ (x : Option ℕ). IsTaken (Text ty) out f d (renamed x d)) (sym b.1) (go (at d.objects b.0) refl)
    where
      b : (n : ℕ) × (owned_in (slice_index ws 0) ≡ Some n)
      b = has 0 refl

      go : (o : Option Object) → at d.objects b.0 ≡ o → IsTaken (Text ty) out f d (renamed_if o b.0 d)
      go None e = record { has = text_has ty (suc b.0 ∷ []) b.0 refl; wide = refl; buffers = h; same = refl; born = born; older = older_self d }
      go (Some o) e = record {
        has = text_has ty (suc d.births ∷ []) d.births refl;
        wide = refl;
        buffers = rename_but types out b.0 o d e (free 0 b.0 refl b.1) h;
        same = at-set_other (without b.0 d).objects d.births f o (λ same. absurd (omega (arith, same, born))) ∙ at-unset_other d.objects b.0 f (λ same. free 0 b.0 refl b.1 (subst out (sym same) gone));
        born = omega (arith, born);
        older = older_set d (without b.0 d) (with_rename b.0 o d) d.births o (omega arith) (omega arith) refl (older_without d d b.0 (older_self d));
      }
  taken_but (Member first others) out f gone ws wide has free d born h =
      let one = taken_but first out f gone (take (width first) ws) (let t = length-take (width first) ws in omega (arith, t, wide)) (first_member first others ws has) (first_free first others out ws free) d born h in
      let two = taken_but others out f gone (drop (width first) ws) (let t = length-drop (width first) ws in omega (arith, t, wide)) (other_members first others ws has) (others_free first others out ws free) (taken first (take (width first) ws) d).1 one.born one.buffers in
      both_taken first others out f d (taken first (take (width first) ws) d) one (taken others (drop (width first) ws) (taken first (take (width first) ws) d).1) two
  taken_but Single out f gone ws wide has free d born h = record { has = has; wide = wide; buffers = h; same = refl; born = born; older = older_self d }
  taken_but Raw out f gone ws wide has free d born h = record { has = has; wide = wide; buffers = h; same = refl; born = born; older = older_self d }
  taken_but Iterates out f gone ws wide has free d born h = record { has = has; wide = wide; buffers = h; same = refl; born = born; older = older_self d }
  taken_but Views out f gone ws wide has free d born h = record { has = has; wide = wide; buffers = h; same = refl; born = born; older = older_self d }
  taken_but (Vector ty element) out f gone ws wide has free d born h = record { has = has; wide = wide; buffers = h; same = refl; born = born; older = older_self d }
  taken_but (Unique ty target) out f gone ws wide has free d born h = record { has = has; wide = wide; buffers = h; same = refl; born = born; older = older_self d }
  taken_but NoMember out f gone ws wide has free d born h = record { has = has; wide = wide; buffers = h; same = refl; born = born; older = older_self d }

  pub record AreTaken (p : Parts) (out : ℕ → Type 0) (f : ℕ) (count : ℕ) (d : Content) (vs : List (List ℕ) × Content) : Type 0 where
    pub has : (i : ℕ) (ws : List ℕ) → slice_get vs.0 i ≡ Some ws → HasBuffers p ws
    pub count_is : length vs.0 ≡ count
    pub buffers : AreBut types out vs.1
    pub same : at vs.1.objects f ≡ at d.objects f
    pub older : IsOlder d vs.1

  -- the slots of a buffer have theirs, which aren't left out
  abbrev pub AreFree : Parts → (ℕ → Type 0) → List Slot → Type 0
  AreFree p out ss = (i : ℕ) (t : Slot) → slice_get ss i ≡ Some t → HasBuffers p t.words × IsFree p out t.words × (length t.words ≡ width p)

  pub slots_taken : (p : Parts) (out : ℕ → Type 0) (f : ℕ) → out f → (ss : List Slot) → AreFree p out ss → (d : Content) → f < d.births → AreBut types out d → AreTaken p out f (length ss) d (taken_slots p ss d)
  slots_taken p out f gone [] free d born h = record { has = λ i ws e. absurd (none_some e); count_is = refl; buffers = h; same = refl; older = older_self d }
  slots_taken p out f gone (t ∷ ss) free d born h =
      let one = taken_but p out f gone t.words (free 0 t refl).2 (free 0 t refl).0 (free 0 t refl).1 d born h in
      let more = slots_taken p out f gone ss (λ i u e. free (suc i) u e) (taken p t.words d).1 one.born one.buffers in record {
        has = λ i ws e. first (taken p t.words d).0 (taken_slots p ss (taken p t.words d).1).0 i ws e one.has more.has;
        count_is = ap suc more.count_is;
        buffers = more.buffers;
        same = more.same ∙ one.same;
        older = older_then d (taken p t.words d).1 (taken_slots p ss (taken p t.words d).1).1 one.older more.older;
      }
    where
      first : (v : List ℕ) (vs : List (List ℕ)) (i : ℕ) (ws : List ℕ) → slice_get (v ∷ vs) i ≡ Some ws → HasBuffers p v → ((j : ℕ) (us : List ℕ) → slice_get vs j ≡ Some us → HasBuffers p us) → HasBuffers p ws
      first v vs zero ws e h k = subst (HasBuffers p) (some_same e) h
      first v vs (suc i) ws e h k = k i ws e
