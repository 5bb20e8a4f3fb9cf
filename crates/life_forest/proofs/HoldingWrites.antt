-- Where a value whose pointers point well is written to a local's object, or to a member of one, objects hold well behind it.
use Rattle.std.proofs.Common.{◌≡◌, ◌⊎◌, inl, inr, ⊎_elim, ℕ, zero, suc, ◌+◌, ◌≤◌, ◌<◌, List, [], ◌∷◌, length, Option, Some, None, refl, sym, ap, subst, ◌∙◌, arith}
use Rattle.std.specs.Prelude.{drop, slice_get, take}
use Rattle.life_types.specs.Trees.{IsOrdered}
use Rattle.life_types.specs.Types.{Types}
use Rattle.life_types.specs.declared.ty.Ty.{Ty}
use Rattle.life_types.specs.declared.ty.TyId.{TyId}
use Rattle.life_core.specs.Function.{Function}
use Rattle.life_core.specs.Operands.{Location}
use Rattle.life_store.specs.Cells.{at, at-set_same}
use Rattle.life_store.specs.Content.{Slot, Object, Content}
use Rattle.life_store.specs.Effects.{cell, put_cell, put_content}
use Rattle.life_store.specs.Held.{pointer_in, pointer_words, slots_if, words_at, words_if, wrote, wrote_if}
use Rattle.life_store.specs.Kinds.{Pointing, kind_in}
use Rattle.life_store.specs.Parts.{Parts, Single, Raw, Iterates, Views, Text, Vector, Unique, Member, NoMember, local_type, location_type, parts_at, type_within, width, width_at, word_within}
use Rattle.life_store.specs.Places.{member_pointed, pointed}
use Rattle.life_store.specs.State.{Pointer, Cell, Empty, Named, Number, Points, State}
use Rattle.life_store.proofs.CellLemmas.{none_some, some_same}
use Rattle.life_store.proofs.MapLemmas.{one_or_apart}
use Rattle.life_forest.specs.Begins.{begins_at}
use Rattle.life_forest.specs.FrameTypes.{PointsWell, Stands, seen_type}
use Rattle.life_forest.specs.Frames.{OnNext}
use Rattle.life_forest.specs.HeldPointers.{HoldWell, HoldsWell}
use Rattle.life_forest.specs.Sorted.{PointerFits}
use Rattle.life_forest.specs.Values.{AllWide}
use Rattle.life_forest.proofs.Begins.{begins_itself, path_begins, row_cases}
use Rattle.life_forest.proofs.Coming.{below_or}
use Rattle.life_forest.proofs.Following.{IsOwned, pointer_stays}
use Rattle.life_forest.proofs.Holding.{Holds, KeepsOn, gone_holds, held_cell, held_holds, held_self, keeps_waiting, kept_holds, named_free, unowned}
use Rattle.life_forest.proofs.Keeping.{keeps_more, keeps_self, keeps_wrote}
use Rattle.life_forest.proofs.BegunPointers.{begun_at}
use Rattle.life_forest.proofs.MemberPointers.{first_puts, five_words, part_back, pointer_read, sets, sets_length}
use Rattle.life_forest.proofs.Members.{path_within}
use Rattle.life_forest.proofs.Puts.{puts_in, wrote_is}
use Rattle.life_forest.proofs.StandingPointers.{IsPointer, pointed_stands, pointer_width}
use Rattle.life_forest.proofs.Staying.{Stays, stays_wrote}
use Rattle.life_forest.proofs.WrittenPointers.{gap, sets_apart}

-- the first word of a value isn't a later one of a pointer
pub first_word : (p : Parts) (j : ℕ) → 0 < width p → kind_in p 0 ≡ Pointing (suc j) → ⊥
first_word Single j some e = cc
first_word Raw j some e = cc
first_word Iterates j some e = cc
first_word Views j some e = cc
first_word (Text id) j some e = cc
first_word (Vector id element) j some e = cc
first_word (Unique id target) j some e = cc
first_word (Member first others) j some e =
    ⊎_elim
    (λ h. first_word first j h.0 (sym h.1 ∙ e))
    (λ h. let k = h.1 in let z : h.0 ≡ 0 = omega (arith, k) in first_word others j (omega (arith, some, k)) (sym (h.2 ∙ ap (kind_in others) z) ∙ e))
    (row_cases (width first) (kind_in first) (kind_in others) 0)
first_word NoMember j some e = omega (arith, some)

-- the words of the first slot
pub first_written : (w : ℕ) (vs : List ℕ) (ss : List Slot) → words_if (slice_get (puts_in 0 w vs ss) 0) ≡ sets w vs (words_if (slice_get ss 0))
first_written w vs (s ∷ ss) = first_puts w vs s ss
first_written w [] [] = refl
first_written w (v ∷ vs) [] = first_written (w + 1) vs []

pub first_wide : (n : ℕ) (ss : List Slot) → 0 < length ss → AllWide n ss → length (words_if (slice_get ss 0)) ≡ n
first_wide n [] some wide = absurd (omega (arith, some))
first_wide n (s ∷ ss) some wide = wide.0

-- each pointer in the words of a value of the type points well, and is one of its type
pub record ValueWell (types : Types) (c : Content) (id : TyId) (ws : List ℕ) : Type 0 where
  pub aims : (u : ℕ) (q : TyId) → begins_at types id u ≡ Some q → PointsWell types c (seen_type types (Some q)) (pointer_in (take 5 (drop u ws)))
  pub fits : (u : ℕ) (q : TyId) (t : Ty) → begins_at types id u ≡ Some q → slice_get types.types q.0 ≡ Some t → PointerFits t (pointer_in (take 5 (drop u ws)))

module _ (types : Types) (ordered : IsOrdered types) (f : Function) (rest : ℕ → ℕ) (st : State) (stands : Stands types f rest st) (held : HoldWell types f st) where
  abbrev c : Content
  c = st.world.content

  -- ---- a value is written to an object that a cell names

  module _ (x n : ℕ) (named : cell st x ≡ Some (Named n)) (id part : TyId) (typed : local_type types f x ≡ Some id) (ms : List ℕ) (path : type_within types (Some id) ms ≡ Some part) (d : Content) (keeps : KeepsOn types f st d)
      (vs : List ℕ) (wide : length vs ≡ width_at types part) (well : ValueWell types st.world.content part vs) (after : Stands types f rest (put_content (wrote n 0 (word_within types (Some id) ms) vs d) st)) where
    abbrev w : ℕ
    w = word_within types (Some id) ms

    abbrev done : Content
    done = wrote n 0 (word_within types (Some id) ms) vs d

    stays : Stays (IsOwned types st.world.content) st.world.content (wrote n 0 (word_within types (Some id) ms) vs d)
    stays = stays_wrote (IsOwned types c) c n 0 w vs d keeps.stays

    -- ---- the object itself

    module _ (od : Object) (there : at d.objects n ≡ Some od) where
      abbrev xs : List ℕ
      xs = words_if (slice_get od.slots 0)

      final_there : at (wrote n 0 (word_within types (Some id) ms) vs d).objects n ≡ Some (record od { slots = puts_in 0 (word_within types (Some id) ms) vs od.slots })
      final_there = ap (λ (e : Content). at e.objects n) (wrote_is d n 0 w vs od there) ∙ at-set_same d.objects n n (record od { slots = puts_in 0 w vs od.slots }) refl

      same_type : id ≡ od.ty
      same_type = let v = after.frame.objects x n named in some_same (sym typed ∙ v.type) ∙ ap (λ (y : Object). y.ty) (some_same (sym v.there ∙ final_there))

      -- its slot has all words of the type
      long : length (words_if (slice_get od.slots 0)) ≡ width_at types id
      long =
          let v = after.frame.objects x n named in
          let same = some_same (sym v.there ∙ final_there) in
          let fit = after.store.fit n (record od { slots = puts_in 0 w vs od.slots }) final_there in
          let some : length (puts_in 0 w vs od.slots) ≡ 1 = sym (ap (λ (y : Object). length y.slots) same) ∙ ap length v.one in
          sym (ap length (first_written w vs od.slots) ∙ sets_length w vs xs)
          ∙ first_wide od.width (puts_in 0 w vs od.slots) (omega (arith, some)) fit.slots
          ∙ fit.width
          ∙ ap (width_at types) (sym same_type)

      read : (u : ℕ) → words_at (wrote n 0 (word_within types (Some id) ms) vs d) n 0 u 5 ≡ take 5 (drop u (sets (word_within types (Some id) ms) vs (words_if (slice_get od.slots 0))))
      read u =
          ap (λ (o : Option Object). take 5 (drop u (words_if (slice_get (slots_if o) 0)))) final_there
          ∙ ap (λ (ws : List ℕ). take 5 (drop u ws)) (first_written w vs od.slots)

      fits : word_within types (Some id) ms + length vs ≤ length (words_if (slice_get od.slots 0))
      fits = let l = (path_within types ordered id part ms path).fits in let e = long in omega (arith, l, e, wide)

      -- a pointer of it is as it was, or one of the value
      read_apart : (u : ℕ) (q : TyId) → begins_at types id u ≡ Some q → (u + 5 ≤ word_within types (Some id) ms) ⊎ (word_within types (Some id) ms + length vs ≤ u) → words_at (wrote n 0 (word_within types (Some id) ms) vs d) n 0 u 5 ≡ words_at st.world.content n 0 u 5
      read_apart u q begins apart =
          let v = stands.frame.objects x n named in
          read u
          ∙ sets_apart w vs xs u 5 apart
          ∙ sym (ap (λ (o : Option Object). take 5 (drop u (words_if (slice_get (slots_if o) 0)))) v.there
          ∙ keeps.kept n v.object od (stands.store.forest.births n v.object v.there) (unowned types f rest st stands x n named) v.there there u q (ap (λ ty. begins_at types ty u) (sym same_type) ∙ begins))

      record IsPart (u : ℕ) (q : TyId) : Type 0 where
        pub word : ℕ
        pub begins : begins_at types part word ≡ Some q
        pub is : words_at (wrote n 0 (word_within types (Some id) ms) vs d) n 0 u 5 ≡ take 5 (drop word vs)

      read_part : (u : ℕ) (q : TyId) → begins_at types id u ≡ Some q → word_within types (Some id) ms ≤ u → u < word_within types (Some id) ms + length vs → IsPart u q
      read_part u q begins le lt =
          let g = gap w u le in
          let e = g.1 in
          let small : g.0 < width_at types part = omega (arith, e, lt, wide) in
          let of : begins_at types part g.0 ≡ Some q = sym (path_begins types ordered id part ms path g.0 small) ∙ sym (ap (begins_at types id) e) ∙ begins in
          let five = (begun_at types ordered part g.0 q of).fits in
          record {
            word = g.0;
            begins = of;
            is = read u ∙ ap (λ (v : ℕ). take 5 (drop v (sets w vs xs))) e ∙ part_back w vs xs fits g.0 5 (omega (arith, five, wide));
          }

      piece : (u : ℕ) (q : TyId) → begins_at types id u ≡ Some q → (words_at (wrote n 0 (word_within types (Some id) ms) vs d) n 0 u 5 ≡ words_at st.world.content n 0 u 5) ⊎ IsPart u q
      piece u q begins =
          below_or u w
          (λ lt. below_or w (u + 5) (λ over. none_or (length vs) refl lt over) (λ le. inl (read_apart u q begins (inl le))))
          (λ le. below_or u (w + length vs) (λ lt. inr (read_part u q begins le lt)) (λ over. inl (read_apart u q begins (inr over))))
        where
          none_or : (len : ℕ) → length vs ≡ len → u < word_within types (Some id) ms → word_within types (Some id) ms < u + 5 → (words_at (wrote n 0 (word_within types (Some id) ms) vs d) n 0 u 5 ≡ words_at st.world.content n 0 u 5) ⊎ IsPart u q
          none_or zero e lt over = inl (read u ∙ none vs e ∙ sym (read_none e))
            where
              none : (ys : List ℕ) → length ys ≡ zero → take 5 (drop u (sets (word_within types (Some id) ms) ys (words_if (slice_get od.slots 0)))) ≡ take 5 (drop u (words_if (slice_get od.slots 0)))
              none [] k = refl
              none (y ∷ ys) k = absurd (omega (arith, k))

              read_none : length vs ≡ zero → words_at st.world.content n 0 u 5 ≡ take 5 (drop u (words_if (slice_get od.slots 0)))
              read_none k =
                  let v = stands.frame.objects x n named in
                  ap (λ (o : Option Object). take 5 (drop u (words_if (slice_get (slots_if o) 0)))) v.there
                  ∙ keeps.kept n v.object od (stands.store.forest.births n v.object v.there) (unowned types f rest st stands x n named) v.there there u q (ap (λ ty. begins_at types ty u) (sym same_type) ∙ begins)
          none_or (suc len) e lt over =
              let g = gap (suc u) w (omega (arith, lt)) in
              let k = g.1 in
              let at_w : w ≡ u + suc g.0 = omega (arith, k) in
              let none : w + 0 ≡ w = omega arith in
              absurd (first_word (parts_at types part) g.0 (omega (arith, e, wide))
              (sym ((path_within types ordered id part ms path).words 0 (omega (arith, e, wide))) ∙ ap (kind_in (parts_at types id)) (none ∙ at_w) ∙ (begun_at types ordered id u q begins).words (suc g.0) (omega (arith, k, over))))

      object_holds : HoldsWell types (wrote n 0 (word_within types (Some id) ms) vs d) n id
      object_holds = record {
        aims = λ u q begins. pointer_stays types (IsOwned types c) c done stays (seen_type types (Some q)) (pointer_in (words_at done n 0 u 5))
            (⊎_elim
            (λ same. subst (λ (ws : List ℕ). PointsWell types c (seen_type types (Some q)) (pointer_in ws)) (sym same) ((held x n id named typed).aims u q begins))
            (λ h. subst (λ (ws : List ℕ). PointsWell types c (seen_type types (Some q)) (pointer_in ws)) (sym h.is) (well.aims h.word q h.begins))
            (piece u q begins));
        fits = λ u q t begins type. ⊎_elim
            (λ same. subst (λ (ws : List ℕ). PointerFits t (pointer_in ws)) (sym same) ((held x n id named typed).fits u q t begins type))
            (λ h. subst (λ (ws : List ℕ). PointerFits t (pointer_in ws)) (sym h.is) (well.fits h.word q t h.begins type))
            (piece u q begins);
      }

    -- ---- all objects

    pub written_well : HoldWell types f (put_content (wrote n 0 (word_within types (Some id) ms) vs d) st)
    written_well y m other named_y typed_y = one_or_apart n m
        (λ same. subst (λ (k : ℕ). HoldsWell types done k other) same (subst (HoldsWell types done n) (one_type same) (itself (at d.objects n) refl)))
        (λ apart. kept_holds types f rest st stands (λ k. IsOwned types c k ⊎ (n ≡ k)) done
        (keeps_wrote types ordered (λ k. IsOwned types c k ⊎ (n ≡ k)) c n 0 w vs d (inl (inl (inr refl))) (keeps_more types (IsOwned types c) (λ k. IsOwned types c k ⊎ (n ≡ k)) c d (λ k h. inl h) keeps))
        y m other (λ h. ⊎_elim (λ owned. unowned types f rest st stands y m named_y owned) (λ e. apart e) h) named_y typed_y (held y m other named_y typed_y))
      where
        one_type : n ≡ m → id ≡ other
        one_type same =
            let v = stands.frame.objects x n named in
            let u = stands.frame.objects y m named_y in
            some_same (sym typed ∙ v.type) ∙ ap (λ (z : Object). z.ty) (some_same (sym v.there ∙ subst (λ k. at c.objects k ≡ Some u.object) (sym same) u.there)) ∙ sym (some_same (sym typed_y ∙ u.type))

        itself : (o : Option Object) → at d.objects n ≡ o → HoldsWell types (wrote n 0 (word_within types (Some id) ms) vs d) n id
        itself None gone = gone_holds types done n id (ap (λ (o : Option Object). at (wrote_if o n 0 w vs d).objects n) gone ∙ gone)
        itself (Some od) there = object_holds od there

    pub written_holds : Holds types f rest st (put_content (wrote n 0 (word_within types (Some id) ms) vs d) st)
    written_holds = record {
      well = written_well;
      waits = keeps_wrote types ordered (λ k. rest k ≡ 0) c n 0 w vs d (inl (inl (named_free types f rest st stands x n named))) (keeps_waiting types f rest st stands d keeps);
    }

  -- ---- a location is given a pointer

  pointer_value : (part : TyId) (v : Pointer) → IsPointer (parts_at types part) → PointsWell types st.world.content (seen_type types (Some part)) v → ((t : Ty) → slice_get types.types part.0 ≡ Some t → PointerFits t v) → ValueWell types st.world.content part (pointer_words v)
  pointer_value part v pointer well fits = record {
    aims = λ u q begins. let h = only u q begins in subst (λ z. PointsWell types c (seen_type types (Some z)) (pointer_in (take 5 (drop u (pointer_words v))))) h.1 (subst (PointsWell types c (seen_type types (Some part))) (sym (back u h.0)) well);
    fits = λ u q t begins there. let h = only u q begins in subst (PointerFits t) (sym (back u h.0)) (fits t (ap (λ (z : TyId). slice_get types.types z.0) h.1 ∙ there));
  }
    where
      only : (u : ℕ) (q : TyId) → begins_at types part u ≡ Some q → (u ≡ 0) × (part ≡ q)
      only u q begins =
          let five = (begun_at types ordered part u q begins).fits in
          let wide = pointer_width (parts_at types part) pointer in
          let zero : u ≡ 0 = omega (arith, five, wide) in
          (zero, some_same (sym (begins_itself types ordered part pointer) ∙ sym (ap (begins_at types part) zero) ∙ begins))

      back : (u : ℕ) → u ≡ 0 → pointer_in (take 5 (drop u (pointer_words v))) ≡ v
      back u e = ap (λ k. pointer_in (take 5 (drop k (pointer_words v)))) e ∙ pointer_read v

  pub pointed_holds : (l : Location) (part : TyId) (v : Pointer) → location_type types f l ≡ Some part → IsPointer (parts_at types part) → PointsWell types st.world.content (seen_type types (Some part)) v
      → ((t : Ty) → slice_get types.types part.0 ≡ Some t → PointerFits t v) → OnNext (pointed types f l v st) (Holds types f rest st)
  pointed_holds l part v typed pointer well fits = go l.members typed (cell st l.local) refl (pointed_stands types ordered f rest st stands l part v typed pointer well)
    where
      unlike : (n : ℕ) → Points v ≡ Named n → ⊥
      unlike n e = cc

      go : (ms : List ℕ) → type_within types (local_type types f l.local) ms ≡ Some part → (o : Option Cell) → cell st l.local ≡ o → OnNext (member_pointed types f l.local ms o v st) (Stands types f rest) → OnNext (member_pointed types f l.local ms o v st) (Holds types f rest st)
      go [] e o there after = held_holds types f rest st stands (put_cell l.local (Points v) st) (held_cell types f st st l.local (Points v) unlike (held_self types f st)) held
      go (m ∷ ms) e None there after = tt
      go (m ∷ ms) e (Some Empty) there after = tt
      go (m ∷ ms) e (Some (Number z)) there after = tt
      go (m ∷ ms) e (Some (Points p)) there after = tt
      go (m ∷ ms) e (Some (Named n)) there after = of (local_type types f l.local) refl e after
        where
          of : (id : Option TyId) → local_type types f l.local ≡ id → type_within types id (m ∷ ms) ≡ Some part → Stands types f rest (put_content (wrote n 0 (word_within types id (m ∷ ms)) (pointer_words v) st.world.content) st)
              → Holds types f rest st (put_content (wrote n 0 (word_within types id (m ∷ ms)) (pointer_words v) st.world.content) st)
          of None is path later = absurd (none_some path)
          of (Some id) is path later =
              written_holds l.local n there id part is (m ∷ ms) path c (keeps_self types (IsOwned types c) c) (pointer_words v) (five_words v ∙ sym (pointer_width (parts_at types part) pointer)) (pointer_value part v pointer well fits) later
