-- A store goes the way of the meaning where an object ends with all beneath it.
use Rattle.std.proofs.Common.{◌≡◌, ⊎_elim, inl, inr, ℕ, zero, suc, ◌+◌, ◌-◌, ◌<◌, ◌≤◌, true, List, [], ◌∷◌, length, Option, Some, None, Result, Ok, Err, refl, sym, ap, subst, ◌∙◌, arith}
use Rattle.std.proofs.lemmas.Option.{none-some, same_Some}
use Rattle.std.specs.Prelude.{slice_get, option_map}
use Rattle.life_store.specs.Cells.{at, unset}
use Rattle.life_store.specs.Content.{Object, Content, with_object, with_word, word_at, without}
use Rattle.life_store.specs.Held.{owner_word}
use Rattle.life_store.specs.References.{Rows, asked_of, object_of, shape_of, HasWord}
use Rattle.life_store.specs.declared.object.Dead.{Dead}
use Rattle.life_store.specs.declared.object.ObjRef.{ObjRef}
use Rattle.life_store.specs.declared.object.Shape.{Shape}
use Rattle.life_store.proofs.MapLemmas.{one_or_apart}
use Rattle.life_forest.specs.Changes.{without_all}
use Rattle.life_forest.specs.Kinds.{Kinds}
use Rattle.life_store.specs.Kinds.{Kind, Plain, Owner, Pointing, is_owner}
use Rattle.life_forest.specs.Owned.{times}
use Rattle.life_forest.specs.Forest.{IsForest}
use Rattle.life_forest.specs.Values.{AllWide}
use Rattle.life_forest.proofs.Counting.{one_same, one_there}
use Rattle.life_forest.proofs.Puts.{IsWord}
use Rattle.life_forest.proofs.Steps.{was_there}
use Rattle.life_seen.specs.Housed.{IsHoused, Shows, Later}
use Rattle.life_seen.specs.Kinds.{Kinds as Seen}
use Rattle.life_seen.specs.Named.{names_of}
use Rattle.life_seen.specs.Seen.{object_seen, seen}
use Rattle.life_seen.proofs.Calls.{shows_end, later_end}
use Rattle.life_seen.proofs.Contents.{seen_at}
use Rattle.life_seen.proofs.MapViews.{at-mapped, set_cases}
use Rattle.life_seen.proofs.References.{of_found, lives_placed, placed_lives, later_same, later_then}
use Rattle.life_seen.proofs.Resizing.{count_seen}
use Rattle.life_words.proofs.Owning.{same_ok}
use Rattle.life_values.specs.Ended.{ended_number, AreAlike}
use Rattle.life_values.specs.Ending.{AreSized, CanEnd, IsBefore, IsClear, IsSized}
use Rattle.life_values.specs.Layouts.{AreOwners}
use Rattle.life_values.proofs.Clearing.{owns_none, past_slots, stays_zero, zero_here}
use Rattle.life_values.proofs.Emptying.{IsEnding, begin, there_now, taken, taken_forest, taken_below, ended_next, ended_all}
use Rattle.life_values.proofs.Emptying.{next_object as word_taken}
use Rattle.life_values.proofs.Ends.{AreBelow, number_end}
use Rattle.life_values.proofs.Owners.{unowned_in_hand, wide_put, wide_word, with_word_is}

owner_kind : (k : Kind) → is_owner k ≡ true → k ≡ Owner
owner_kind Plain e = absurd (clash e)
  where
    clash : is_owner Plain ≡ true → ⊥
    clash h = cc
owner_kind Owner e = refl
owner_kind (Pointing i) e = absurd (clash e)
  where
    clash : is_owner (Pointing i) ≡ true → ⊥
    clash h = cc

one_or_before : {A : Type 0} (a b : ℕ) → (a ≤ b → A) → (b < a → A) → A
one_or_before zero b high low = high (omega arith)
one_or_before (suc a) zero high low = low (omega arith)
one_or_before (suc a) (suc b) high low = one_or_before a b (λ le. high (omega arith)) (λ lt. low (omega arith))

-- ---- sizes stay

pub sized_word : (kinds : Seen) (o : Object) (i u v : ℕ) → IsSized kinds o → IsSized kinds (with_word i u v o)
sized_word kinds o i u v h =
    record {
      wide = subst (λ (x : Object). AllWide o.width x.slots) (sym (with_word_is i u v o)) (wide_put o.width o.slots i u v h.wide);
      owners = h.owners;
    }

pub sized_with : (kinds : Seen) (c : Content) (n : ℕ) (o : Object) → AreSized kinds c → IsSized kinds o → AreSized kinds (with_object n o c)
sized_with kinds c n o h own m q there = set_cases c.objects n m o q there (λ e same. subst (IsSized kinds) same own) (λ ne old. h m q old)

pub sized_less : (kinds : Seen) (kind : Kinds) (gone : List ℕ) (c : Content) → AreSized kinds c → AreSized kinds (without_all gone c)
sized_less kinds kind gone c h m q there = h m q (was_there kind gone c m q there)

module _ (kinds : Seen) (kind : Kinds) (alike : AreAlike kinds kind) (depth : ℕ) (r : ObjRef) (c : Content) (rows : Rows) (can : CanEnd kinds kind depth r c rows) where
  lives : (o : Object) × (at c.objects r.birth ≡ Some o)
  lives = placed_lives kinds c rows can.housed r.birth r.row can.placed

  abbrev pub before : Content
  before = seen kinds c rows

  pub object_before : Object
  object_before = object_seen kinds (names_of c rows) lives.0

  pub there_before : at (seen kinds c rows).objects r.birth ≡ Some object_before
  unfolding object_before
  there_before = seen_at kinds (names_of c rows) c r.birth lives.0 lives.1

  pub deeper : depth ≡ suc (depth - 1)
  deeper = let d = can.deep object_before there_before in omega (arith, d)

  pub below : AreBelow kind (suc (depth - 1)) (r.birth ∷ []) (seen kinds c rows)
  below m q lt at_m =
      let e = one_there r.birth m (omega (arith, lt)) in
      let d = can.deep q (ap (at (seen kinds c rows).objects) e ∙ at_m) in
      let s = deeper in
      omega (arith, d, s)

  abbrev pub SoFar : Content → Type 0
  SoFar now = IsEnding kind (depth - 1) r.birth can.hand (seen kinds c rows) object_before there_before can.forest below now

  -- how far the store has come
  pub record Progress (owners : List ℕ) (d : Content) (new : Rows) (slot index : ℕ) : Type 0 where
    pub housed : IsHoused kinds d new
    pub placed : at new r.birth ≡ Some r.row
    pub sized : AreSized kinds (seen kinds d new)
    pub later : Later c d rows new
    pub ending : IsEnding kind (depth - 1) r.birth can.hand (seen kinds c rows) object_before there_before can.forest below (seen kinds d new)
    pub clear : IsClear owners slot index ending.object

  pub progress_begin : (owners : List ℕ) → Progress owners c rows 0 0
  progress_begin owners = record {
    housed = can.housed;
    placed = can.placed;
    sized = can.sized;
    later = later_same c c rows (omega arith);
    ending = begin kind (depth - 1) r.birth can.hand (seen kinds c rows) object_before there_before can.forest below;
    clear = λ i j u e b. ⊎_elim (λ lt. absurd (omega (arith, lt))) (λ h. let l = h.1 in absurd (omega (arith, l))) b;
  }

  module _ (owners : List ℕ) (d : Content) (new : Rows) (slot index : ℕ) (p : Progress owners d new slot index) where
    -- the object as it lies in the store
    pub record IsNow : Type 0 where
      pub object : Object
      pub found : object_of d new r ≡ Some object
      pub same : object_seen kinds (names_of d new) object ≡ p.ending.object

    pub now_there : at (seen kinds d new).objects r.birth ≡ Some p.ending.object
    now_there = there_now kind (depth - 1) r.birth can.hand (seen kinds c rows) object_before there_before can.forest below (seen kinds d new) p.ending

    pub now : IsNow
    now =
        let l = placed_lives kinds d new p.housed r.birth r.row p.placed in
        record {
          object = l.0;
          found = of_found d new r l.0 (record { there = l.1; placed = p.placed });
          same = same_Some _ _ (sym (seen_at kinds (names_of d new) d r.birth l.0 l.1) ∙ now_there);
        }

    pub next_slot : ((j u : ℕ) → index ≤ j → slice_get owners j ≡ Some u → word_at p.ending.object slot u ≡ 0) → Progress owners d new (slot + 1) 0
    next_slot none = record {
      housed = p.housed;
      placed = p.placed;
      sized = p.sized;
      later = p.later;
      ending = p.ending;
      clear = λ i j u e b. ⊎_elim
          (λ lt. one_or_apart i slot
          (λ s. one_or_before index j
          (λ le. ap (λ k. word_at p.ending.object k u) s ∙ none j u le e)
          (λ l. p.clear i j u e (inr (s, l))))
          (λ ne. p.clear i j u e (inl (omega (arith, lt, ne)))))
          (λ h. let l = h.1 in absurd (omega (arith, l))) b;
    }

    -- ---- a word is taken out, and what it owned ends

    module _ (q : ObjRef) (j₀ u₀ : ℕ) (from : index ≤ j₀) (skipped : (j u : ℕ) → index ≤ j → j < j₀ → slice_get owners j ≡ Some u → word_at p.ending.object slot u ≡ 0) (here : slice_get owners j₀ ≡ Some u₀)
        (owner : kinds p.ending.object.ty u₀ ≡ Owner) (within : slot < length p.ending.object.slots) (holds : word_at p.ending.object slot u₀ ≡ owner_word (Some q.birth)) (there : at new q.birth ≡ Some q.row)
        (e : Content) (after : Rows) (shows : Shows kinds e after (with_object r.birth (with_word slot u₀ 0 p.ending.object) (seen kinds d new))) (same_rows : after ≡ new) where
      size : IsSized kinds p.ending.object
      size = p.sized r.birth p.ending.object now_there

      is_word : IsWord slot u₀ p.ending.object.slots
      is_word = wide_word p.ending.object.width p.ending.object.slots slot u₀ size.wide within (size.owners u₀ owner)

      owns_here : is_owner (kind.word p.ending.object.ty u₀) ≡ true
      owns_here = sym (alike p.ending.object.ty u₀) ∙ ap is_owner owner

      out : Content
      out = taken kind (depth - 1) r.birth can.hand (seen kinds c rows) object_before there_before can.forest below (seen kinds d new) p.ending slot u₀ q.birth is_word owns_here holds

      out_is : out ≡ with_object r.birth (with_word slot u₀ 0 p.ending.object) (seen kinds d new)
      unfolding out
      out_is = refl

      seen_out : seen kinds e after ≡ out
      seen_out = shows.is ∙ sym out_is

      out_sized : AreSized kinds out
      out_sized = subst (AreSized kinds) (sym out_is) (sized_with kinds (seen kinds d new) r.birth (with_word slot u₀ 0 p.ending.object) p.sized (sized_word kinds p.ending.object slot u₀ 0 size))

      out_forest : IsForest kind (λ k. times (q.birth ∷ []) k + (times (r.birth ∷ []) k + can.hand k)) out
      unfolding out
      out_forest = taken_forest kind (depth - 1) r.birth can.hand (seen kinds c rows) object_before there_before can.forest below (seen kinds d new) p.ending slot u₀ q.birth is_word owns_here holds

      out_below : AreBelow kind (depth - 1) (q.birth ∷ []) out
      unfolding out
      out_below = taken_below kind (depth - 1) r.birth can.hand (seen kinds c rows) object_before there_before can.forest below (seen kinds d new) p.ending slot u₀ q.birth is_word owns_here holds

      -- what was owned can end
      pub owned_can : CanEnd kinds kind (depth - 1) q e after
      owned_can = record {
        housed = shows.housed;
        placed = ap (λ (x : Rows). at x q.birth) same_rows ∙ there;
        sized = subst (AreSized kinds) (sym seen_out) out_sized;
        hand = λ k. times (r.birth ∷ []) k + can.hand k;
        forest = subst (IsForest kind (λ k. times (q.birth ∷ []) k + (times (r.birth ∷ []) k + can.hand k))) (sym seen_out) out_forest;
        deep = λ o at_q. let s = one_same q.birth q.birth refl in out_below q.birth o (omega (arith, s)) (ap (λ (x : Content). at x.objects q.birth) (sym seen_out) ∙ at_q);
      }

      module _ (f : Content) (last : Rows) (ends : Shows kinds f last (ended_number kind (depth - 1) q.birth (seen kinds e after))) (less : Later e f after last) where
        ended_is : seen kinds f last ≡ ended_number kind (depth - 1) q.birth out
        ended_is = ends.is ∙ ap (ended_number kind (depth - 1) q.birth) seen_out

        next_ending : IsEnding kind (depth - 1) r.birth can.hand (seen kinds c rows) object_before there_before can.forest below (ended_number kind (depth - 1) q.birth out)
        unfolding out
        next_ending = ended_next kind (depth - 1) r.birth can.hand (seen kinds c rows) object_before there_before can.forest below (seen kinds d new) p.ending slot u₀ q.birth is_word owns_here holds

        next_object : next_ending.object ≡ with_word slot u₀ 0 p.ending.object
        unfolding next_ending out
        next_object = word_taken kind (depth - 1) r.birth can.hand (seen kinds c rows) object_before there_before can.forest below (seen kinds d new) p.ending slot u₀ q.birth is_word owns_here holds

        ended_sized : AreSized kinds (ended_number kind (depth - 1) q.birth out)
        ended_sized =
            let gone = number_end kind (depth - 1) q.birth (λ k. times (r.birth ∷ []) k + can.hand k) out out out_forest out_below (λ k low. refl) in
            subst (AreSized kinds) (sym gone.is) (sized_less kinds kind gone.list out out_sized)

        at_last : at (seen kinds f last).objects r.birth ≡ Some next_ending.object
        at_last = ap (λ (x : Content). at x.objects r.birth) ended_is
            ∙ there_now kind (depth - 1) r.birth can.hand (seen kinds c rows) object_before there_before can.forest below (ended_number kind (depth - 1) q.birth out) next_ending

        still_placed : at last r.birth ≡ Some r.row
        still_placed = go (at f.objects r.birth) refl
          where
            go : (x : Option Object) → at f.objects r.birth ≡ x → at last r.birth ≡ Some r.row
            go None none = absurd (none-some next_ending.object (sym (at-mapped (object_seen kinds (names_of f last)) f.objects r.birth ∙ ap (option_map (object_seen kinds (names_of f last))) none) ∙ at_last))
            go (Some o) some =
                let k = lives_placed kinds f last ends.housed r.birth o some in
                let born = can.housed.below r.birth r.row can.placed in
                let grown = p.later.births in
                let e_born : r.birth < e.births =
                (let b = ap (λ (x : Content). x.births) shows.is in omega (arith, born, grown, b)) in
                let was = less.row r.birth k.0 e_born k.1 in
                k.1 ∙ sym was ∙ ap (λ (x : Rows). at x r.birth) same_rows ∙ p.placed

        zero_now : (i u : ℕ) → word_at p.ending.object i u ≡ 0 → word_at next_ending.object i u ≡ 0
        zero_now i u z = ap (λ (x : Object). word_at x i u) next_object ∙ stays_zero p.ending.object slot u₀ i u z

        pub next_word : Progress owners f last slot (j₀ + 1)
        next_word = record {
          housed = ends.housed;
          placed = still_placed;
          sized = subst (AreSized kinds) (sym ended_is) ended_sized;
          later = later_then c e f rows after last
              (record {
                births = let a = p.later.births in let b = ap (λ (x : Content). x.births) shows.is in omega (arith, a, b);
                row = λ n k lt t. p.later.row n k lt (ap (λ (x : Rows). at x n) (sym same_rows) ∙ t);
              }) less;
          ending = record {
            list = next_ending.list;
            object = next_ending.object;
            is = ended_is ∙ next_ending.is;
            ty = next_ending.ty;
            count = next_ending.count;
            width = next_ending.width;
            owned = next_ending.owned;
            forest = subst (IsForest kind (λ k. times (r.birth ∷ []) k + can.hand k)) (sym ended_is) next_ending.forest;
          };
          clear = still_clear;
        }
          where
            here_zero : (i j u : ℕ) → slice_get owners j ≡ Some u → i ≡ slot → j < j₀ + 1 → word_at next_ending.object i u ≡ 0
            here_zero i j u at_j s lt =
                one_or_apart j j₀
                (λ same.
                let w : u₀ ≡ u = same_Some u₀ u (sym here ∙ ap (slice_get owners) (sym same) ∙ at_j) in
                ap (λ (x : Object). word_at x i u) next_object ∙ (λ k. word_at (with_word slot u₀ 0 p.ending.object) (s k) (sym w k)) ∙ zero_here p.ending.object slot u₀)
                (λ ne. zero_now i u (before_here j u at_j (omega (arith, lt, ne)) i s))
              where
                before_here : (j u : ℕ) → slice_get owners j ≡ Some u → j < j₀ → (i : ℕ) → i ≡ slot → word_at p.ending.object i u ≡ 0
                before_here j u at_j lt i s = one_or_before index j
                    (λ le. ap (λ k. word_at p.ending.object k u) s ∙ skipped j u le lt at_j)
                    (λ l. p.clear i j u at_j (inr (s, l)))

            still_clear : (i j u : ℕ) → slice_get owners j ≡ Some u → IsBefore i j slot (j₀ + 1) → word_at next_ending.object i u ≡ 0
            still_clear i j u at_j b = ⊎_elim (λ lt. zero_now i u (p.clear i j u at_j (inl lt))) (λ h. here_zero i j u at_j h.0 h.1) b

    -- ---- and at last the object itself

    pub progress_end : length p.ending.object.slots ≤ slot → AreOwners (kinds p.ending.object.ty) owners → (e : Content) (after : Rows) → e ≡ without r.birth d → after ≡ unset new r.birth
        → Shows kinds e after (ended_number kind depth r.birth (seen kinds c rows))
    progress_end past are e after last gone =
        let free = unowned_in_hand kinds kind alike (λ k. times (r.birth ∷ []) k + can.hand k) (seen kinds d new) r.birth p.ending.forest (let s = one_same r.birth r.birth refl in omega (arith, s)) in
        let ended = shows_end kinds d new p.housed e after r now.object now.found free last gone in
        let all = ended_all kind (depth - 1) r.birth can.hand (seen kinds c rows) object_before there_before can.forest below (seen kinds d new) p.ending
        (owns_none kind p.ending.object (λ i u own.
        let w = are.complete u (owner_kind (kinds p.ending.object.ty u) (alike p.ending.object.ty u ∙ own)) in
        one_or_before (length p.ending.object.slots) i
        (λ le. past_slots p.ending.object.slots i u (omega (arith, le)))
        (λ lt. p.clear i w.0 u w.1 (inl (omega (arith, lt, past)))))) in
        record { housed = ended.housed; is = ended.is ∙ all ∙ ap (λ k. ended_number kind k r.birth (seen kinds c rows)) (sym deeper) }

    pub end_later : (e : Content) (after : Rows) → e ≡ without r.birth d → after ≡ unset new r.birth → Later c e rows after
    end_later e after last gone = later_then c d e rows new after p.later (later_end d new e after r last gone)

    -- the words that own are there
    pub has_words : AreOwners (kinds p.ending.object.ty) owners → slot < length p.ending.object.slots → (j u : ℕ) → slice_get owners j ≡ Some u → HasWord slot u now.object
    has_words are within j u e =
        let l : length (object_seen kinds (names_of d new) now.object).slots ≡ length p.ending.object.slots = ap (λ (x : Object). length x.slots) now.same in
        let s = count_seen kinds (names_of d new) now.object in
        let w : now.object.width ≡ p.ending.object.width = ap (λ (x : Object). x.width) now.same in
        let o = (p.sized r.birth p.ending.object now_there).owners u (are.sound j u e) in
        record { has_slot = omega (arith, l, s, within); has_word = omega (arith, w, o) }

  -- ---- its shape

  found_before : object_of c rows r ≡ Some lives.0
  found_before = of_found c rows r lives.0 (record { there = lives.1; placed = can.placed })

  pub shape_before : (s : Shape) → asked_of (object_of c rows r) shape_of ≡ Ok s → (object_before.ty ≡ s.ty) × (length object_before.slots ≡ s.length)
  unfolding object_before
  shape_before s e =
      let same : shape_of lives.0 ≡ s = same_ok (sym (ap (λ o. asked_of o shape_of) found_before) ∙ e) in
      (ap (λ (x : Shape). x.ty) same, count_seen kinds (names_of c rows) lives.0 ∙ ap (λ (x : Shape). x.length) same)

  pub not_dead : (x : Dead) → asked_of (object_of c rows r) shape_of ≡ Err x → ⊥
  not_dead x e = clash (sym (ap (λ o. asked_of o shape_of) found_before) ∙ e)
    where
      clash : {A B : Type 0} {x : A} {y : B} → ◌≡◌ {A = Result A B} (Ok x) (Err y) → ⊥
      clash h = cc
