-- A store goes the way of the meaning where the owners of a value get their copies, one after the other. None is written before all are there.
use Rattle.std.proofs.Common.{◌≡◌, ℕ, zero, suc, ◌+◌, ◌<◌, ◌≤◌, ◌^◌, List, [], ◌∷◌, ◌++◌, drop, length, take, Option, Some, None, Ok, Err, MatchOption, IfSome, refl, sym, ap, subst, ◌∙◌, arith, length-append}
use Rattle.std.proofs.lemmas.List.{drop_all}
use Rattle.std.proofs.lemmas.Option.{none-some, same_Some}
use Rattle.std.specs.Prelude.{slice_get}
use Rattle.life_types.specs.Trees.{IsOrdered}
use Rattle.life_types.specs.Types.{Types}
use Rattle.life_types.specs.declared.ty.TyId.{TyId}
use Rattle.life_store.specs.Cells.{at}
use Rattle.life_store.specs.Content.{Object, Content, word_at}
use Rattle.life_store.specs.Effects.{Setting, Attempt, Got, then_get}
use Rattle.life_store.specs.Held.{owned_in, owner_word, wrote}
use Rattle.life_store.specs.Kinds.{Owner, kind_in}
use Rattle.life_store.specs.Parts.{Parts, Single, Raw, Iterates, Views, Text, Vector, Unique, Member, NoMember, parts_at, width}
use Rattle.life_store.specs.Places.{Spot as Place}
use Rattle.life_store.specs.References.{Rows, object_of, HasWord}
use Rattle.life_store.specs.declared.object.ObjRef.{ObjRef}
use Rattle.life_forest.specs.Kinds.{kinds_of as forest_kinds, owned_type, rank_of}
use Rattle.life_forest.specs.Owned.{times}
use Rattle.life_forest.specs.Typed.{IsStore}
use Rattle.life_forest.proofs.Below.{lives}
use Rattle.life_forest.proofs.Counting.{one_same}
use Rattle.life_forest.proofs.Laying.{made_at, IsMade}
use Rattle.life_seen.specs.Housed.{Shows, Later}
use Rattle.life_seen.specs.Kinds.{kinds_of, Kinds as Seen}
use Rattle.life_seen.specs.Named.{names_of}
use Rattle.life_seen.specs.Seen.{object_seen, seen}
use Rattle.life_seen.proofs.References.{later_same, later_then}
use Rattle.life_seen.proofs.Resizing.{count_seen}
use Rattle.life_seen.proofs.WholePointers.{row_cases}
use Rattle.life_words.specs.Owning.{Holds, IsOwner}
use Rattle.life_values.specs.Copied.{copied_number, CanCopy, Copies}
use Rattle.life_values.specs.Copyable.{HasCopy}
use Rattle.life_values.specs.Good.{HasRoom}
use Rattle.life_values.specs.Layouts.{owners_at, AreLaid}
use Rattle.life_values.specs.Moved.{place}
use Rattle.life_values.specs.Taken.{owned_if}
use Rattle.life_values.specs.declared.copying.CopyFault.{CopyFault}
use Rattle.life_values.specs.declared.copying.CopyFault.TheVariants as copy_fault
use Rattle.life_values.specs.declared.layout.Layout.{Layout}
use Rattle.life_values.specs.declared.spot.Spot.{Spot}
use Rattle.life_values.proofs.Attempts.{then_got, then_then}
use Rattle.life_values.proofs.CopiedGood.{Copied}
use Rattle.life_values.proofs.Filling.{some_setting, still_placed}
use Rattle.life_values.proofs.Flat.{drop_here, in_either, owner_words_own, IsOwnerOf}
use Rattle.life_values.proofs.OneOwner.{owners_by_parts}
use Rattle.life_values.proofs.Recopying.{falls}
use Rattle.life_values.proofs.SeenAs.{seen_as, IsSeenAs}
use Rattle.life_moves.specs.CopiedTo.{all_given, copied_one, copied_then, AreMade, CanCopyFrom, ComeCopied}
use Rattle.life_moves.proofs.CopiedStore.{copied_good, copied_store, good_store, owned_lives}

-- what an owner of a value that has copies owns has copies, too
owned_copy : (types : Types) (ordered : IsOrdered types) (bound : ℕ) (p : Parts) → IsMade types ordered bound p → HasCopy p → (u : ℕ) (t : TyId) → owned_type p u ≡ Some t → HasCopy (parts_at types t)
owned_copy types ordered bound Single made has u t e = absurd (none-some t e)
owned_copy types ordered bound Raw made has u t e = absurd (none-some t e)
owned_copy types ordered bound Iterates made has u t e = absurd (none-some t e)
owned_copy types ordered bound Views made has u t e = absurd (none-some t e)
owned_copy types ordered bound (Text id) made has u t e = subst HasCopy (sym made.1 ∙ ap (parts_at types) (same_Some id t e)) tt
owned_copy types ordered bound (Vector id element) made has u t e = subst HasCopy (sym made.1 ∙ ap (parts_at types) (same_Some id t e)) has
owned_copy types ordered bound (Unique id target) made has u t e = absurd has
owned_copy types ordered bound (Member first others) made has u t e =
    row_cases (width first) (owned_type first) (owned_type others) u
    (λ lt f. owned_copy types ordered bound first made.0 has.0 u t (sym f ∙ e))
    (λ v s f. owned_copy types ordered bound others made.1 has.1 v t (sym f ∙ e))
owned_copy types ordered bound NoMember made has u t e = absurd (none-some t e)

-- one more at the end
given_more : (to : Place) (us : List ℕ) (rs : List ObjRef) (j u : ℕ) (r : ObjRef) (c : Content) → length rs ≡ j → slice_get us j ≡ Some u
    → all_given to (take j us) rs (wrote to.object to.index (to.word + u) (owner_word (Some r.birth) ∷ []) c) ≡ all_given to (take (j + 1) us) (rs ++ r ∷ []) c
given_more to [] rs j u r c e here = absurd (none-some u here)
given_more to (v ∷ us) [] zero u r c e here =
    let same : v ≡ u = same_Some v u here in
    ap (λ x. wrote to.object to.index (to.word + x) (owner_word (Some r.birth) ∷ []) c) (sym same) ∙ ap (wrote to.object to.index (to.word + v) (owner_word (Some r.birth) ∷ [])) (none_given us c)
  where
    none_given : (vs : List ℕ) (d : Content) → d ≡ all_given to (take 0 vs) [] d
    none_given [] d = refl
    none_given (w ∷ vs) d = refl
given_more to (v ∷ us) [] (suc j) u r c e here = absurd (let z : 0 ≡ suc j = e in omega (arith, z))
given_more to (v ∷ us) (q ∷ rs) zero u r c e here = absurd (omega (arith, e))
given_more to (v ∷ us) (q ∷ rs) (suc j) u r c e here =
    let z : suc j + 1 ≡ suc (j + 1) = omega arith in
    ap (wrote to.object to.index (to.word + v) (owner_word (Some q.birth) ∷ [])) (given_more to us rs j u r c (omega (arith, e)) here)
    ∙ ap (λ k. all_given to (take k (v ∷ us)) ((q ∷ rs) ++ r ∷ []) c) (sym z)

given_none : (to : Place) (us : List ℕ) (c : Content) → all_given to (take 0 us) [] c ≡ c
given_none to [] c = refl
given_none to (u ∷ us) c = refl

before : (us : List ℕ) (j u : ℕ) → slice_get us j ≡ Some u → j + 1 ≤ length us
before [] j u here = absurd (none-some u here)
before (v ∷ us) zero u here = omega arith
before (v ∷ us) (suc j) u here = let l = before us j u here in omega (arith, l)

take_whole : (us : List ℕ) (j : ℕ) → length us ≤ j → take j us ≡ us
take_whole [] zero le = refl
take_whole [] (suc j) le = refl
take_whole (u ∷ us) zero le = absurd (omega (arith, le))
take_whole (u ∷ us) (suc j) le = ap (λ vs. u ∷ vs) (take_whole us j (omega (arith, le)))

module _ (types : Types) (ordered : IsOrdered types) (layouts : List Layout) (laid : AreLaid types layouts) (limit depth : ℕ) (ty : TyId) (from : Spot) (c : Content) (rows : Rows) (can : CanCopyFrom types limit depth ty from c rows) where
  abbrev p : Parts
  p = parts_at types ty

  abbrev start : Content
  start = seen (kinds_of types) c rows

  abbrev copy : Setting → ℕ → Content → Attempt (ℕ × Content)
  copy s = copied_number s (owners_at layouts) depth

  abbrev then_all : Setting → Place → (Content → Content) → List ℕ → Content → Attempt Content
  then_all s to go us m = copied_then (copied_number s (owners_at layouts) depth) (place from) to go us m

  -- how far the copies have come
  pub record Progress (d : Content) (new : Rows) (copies : List ObjRef) (j : ℕ) : Type 0 where
    pub made : AreMade types limit copies (seen (kinds_of types) c rows) d new
    pub is : (s : Setting) → s.given.cells ≡ limit → (to : Place) (go : Content → Content)
        → copied_then (copied_number s (owners_at layouts) depth) (place from) to go (owners_at layouts ty) (seen (kinds_of types) c rows)
        ≡ then_get (copied_then (copied_number s (owners_at layouts) depth) (place from) to go (drop j (owners_at layouts ty)) (seen (kinds_of types) d new)) (λ e. Got (all_given to (take j (owners_at layouts ty)) copies e))
    pub count : length copies ≡ j
    pub within : j ≤ length (owners_at layouts ty)
    pub later : Later c d rows new

  pub progress_begin : Progress c rows [] 0
  progress_begin = record {
    made = record { housed = can.housed; hand = can.hand; store = can.store; room = can.room; kept = λ n o e. e; each = λ j r e. absurd (none-some r e) };
    is = λ s cells to go.
        sym (then_got (then_all s to go (owners_at layouts ty) start))
        ∙ (λ i. then_get (then_all s to go (owners_at layouts ty) start) (λ e. Got (sym (given_none to (owners_at layouts ty) e) i)));
    count = refl;
    within = omega arith;
    later = later_same c c rows (omega arith);
  }

  module _ (d : Content) (new : Rows) (copies : List ObjRef) (j : ℕ) (progress : Progress d new copies j) where
    abbrev m : Content
    m = seen (kinds_of types) d new

    there : at (seen (kinds_of types) d new).objects from.object.birth ≡ Some can.source
    there = progress.made.kept from.object.birth can.source can.there

    placed : at new from.object.birth ≡ Some from.object.row
    placed = still_placed (kinds_of types) c d rows new progress.made.housed progress.later from.object.birth from.object.row can.source (can.store.forest.births from.object.birth can.source can.there) can.placed there

    -- ---- all owners have their copies

    pub progress_end : length (owners_at layouts ty) ≤ j → (s : Setting) → s.given.cells ≡ limit → (to : Place) (go : Content → Content)
        → copied_then (copied_number s (owners_at layouts) depth) (place from) to go (owners_at layouts ty) (seen (kinds_of types) c rows) ≡ Got (all_given to (owners_at layouts ty) copies (go (seen (kinds_of types) d new)))
    progress_end all s cells to go =
        progress.is s cells to go
        ∙ ap (λ us. then_get (then_all s to go us m) (λ e. Got (all_given to (take j (owners_at layouts ty)) copies e))) (drop_all j (owners_at layouts ty) all)
        ∙ ap (λ us. Got (all_given to us copies (go m))) (take_whole (owners_at layouts ty) j all)

    module _ (u : ℕ) (here : slice_get (owners_at layouts ty) j ≡ Some u) where
      own : IsOwnerOf p 0 u
      own = owner_words_own p 0 j u (ap (λ us. slice_get us j) (sym (owners_by_parts types layouts laid ty)) ∙ here)

      is_word : u ≡ own.word
      is_word = let x = own.is in omega (arith, x)

      small : u < width p
      small = let x = own.within in let z = is_word in omega (arith, x, z)

      owner_in : kind_in p u ≡ Owner
      owner_in = ap (kind_in p) is_word ∙ own.owner

      now : IsSeenAs (kinds_of types) d new from.object can.source
      now = seen_as (kinds_of types) d new from.object can.source progress.made.housed placed there

      owner : kinds_of types can.source.ty (from.word + u) ≡ Owner
      owner = can.within.words u small ∙ owner_in

      pub fits : from.word + u < 2 ^ 64
      fits = let a = can.small in let b = small in omega (arith, a, b)

      pub word_there : IfSome (object_of d new from.object) (HasWord from.slot (from.word + u))
      word_there =
          let a : length (object_seen (kinds_of types) (names_of d new) now.object).slots ≡ length can.source.slots = ap (λ (x : Object). length x.slots) now.same in
          let b = count_seen (kinds_of types) (names_of d new) now.object in
          let e : now.object.width ≡ can.source.width = ap (λ (x : Object). x.width) now.same in
          let s = can.slot in
          let f = can.within.fits in
          let g = (can.store.fit from.object.birth can.source can.there).width in
          let l = small in
          subst (λ x. IfSome x (HasWord from.slot (from.word + u))) (sym now.found) (record { has_slot = omega (arith, a, b, s); has_word = omega (arith, e, f, g, l) })

      owner_now : IsOwner (kinds_of types) d new from.object (from.word + u) now.object
      owner_now = record { housed = progress.made.housed; there = now.found; owner = ap (λ (x : Object). kinds_of types x.ty (from.word + u)) now.same ∙ owner }

      abbrev first : ℕ
      first = word_at can.source from.slot (from.word + u)

      left : (s : Setting) (to : Place) (go : Content → Content)
          → then_all s to go (drop j (owners_at layouts ty)) m ≡ copied_one (copied_number s (owners_at layouts) depth) (then_all s to go (drop (j + 1) (owners_at layouts ty))) to u (owned_in first) m
      left s to go =
          ap (λ us. then_all s to go us m) (drop_here (owners_at layouts ty) j u here)
          ∙ ap (λ (x : Option Object). copied_one (copied_number s (owners_at layouts) depth) (then_all s to go (drop (j + 1) (owners_at layouts ty))) to u (owned_if x from.slot (from.word + u)) m) there

      module _ (found : Option ObjRef) (told : (ks : Seen) (x : Object) → IsOwner ks d new from.object (from.word + u) x → Holds ks d new from.slot (from.word + u) x found) where
        held : MatchOption found (first ≡ owner_word None) (λ q. (first ≡ owner_word (Some q.birth)) × (at new q.birth ≡ Some q.row))
        held =
            subst (λ (x : Object). MatchOption found (word_at x from.slot (from.word + u) ≡ owner_word None) (λ q. (word_at x from.slot (from.word + u) ≡ owner_word (Some q.birth)) × (at new q.birth ≡ Some q.row))) now.same
            (told (kinds_of types) now.object owner_now)

        -- it owns nothing
        pub none_comes : found ≡ None → (n : Content) → ComeCopied layouts limit depth (owners_at layouts ty) (place from) (seen (kinds_of types) c rows) (Err copy_fault.Moved) n
        none_comes none n s cells to go =
            let z : first ≡ 0 = subst (λ x. MatchOption x (first ≡ owner_word None) (λ q. (first ≡ owner_word (Some q.birth)) × (at new q.birth ≡ Some q.row))) none held in
            progress.is s cells to go
            ∙ ap (λ x. then_get x (λ e. Got (all_given to (take j (owners_at layouts ty)) copies e)))
            (left s to go ∙ ap (λ w. copied_one (copied_number s (owners_at layouts) depth) (then_all s to go (drop (j + 1) (owners_at layouts ty))) to u (owned_in w) m) z)

        module _ (q : ObjRef) (some : found ≡ Some q) where
          owned : (first ≡ owner_word (Some q.birth)) × (at new q.birth ≡ Some q.row)
          owned = subst (λ x. MatchOption x (first ≡ owner_word None) (λ y. (first ≡ owner_word (Some y.birth)) × (at new y.birth ≡ Some y.row))) some held

          there_q : (x : Object) × (at m.objects q.birth ≡ Some x)
          there_q = owned_lives types progress.made.hand m progress.made.store from.object.birth can.source there from.slot (from.word + u) q.birth owner owned.0

          type_at : (x : Object) → at m.objects q.birth ≡ Some x → owned_type (parts_at types can.source.ty) (from.word + u) ≡ Some x.ty
          type_at x at_q = (progress.made.store.fit from.object.birth can.source there).owned from.slot (from.word + u) q.birth x owner owned.0 at_q

          low : (x : Object) → at m.objects q.birth ≡ Some x → rank_of types x.ty < depth
          low x at_q = let l = falls types ordered can.source.ty (from.word + u) x.ty (type_at x at_q) in let d = can.deep in omega (arith, l, d)

          abbrev x : Object
          x = there_q.0

          has_copy : HasCopy (parts_at types x.ty)
          has_copy = owned_copy types ordered (rank_of types ty) p (made_at types ordered ty) can.has_copy u x.ty (sym (can.within.owners u small) ∙ type_at x there_q.1)

          pub copy_can : CanCopy (kinds_of types) (forest_kinds types) limit depth q d new
          copy_can = record { housed = progress.made.housed; placed = owned.1; good = good_store types progress.made.hand m progress.made.store limit progress.made.room; deep = low }

          then_copy : (s : Setting) → s.given.cells ≡ limit → (to : Place) (go : Content → Content)
              → then_all s to go (owners_at layouts ty) start
              ≡ then_get (then_get (copied_number s (owners_at layouts) depth q.birth m) (λ b. then_get (then_all s to go (drop (j + 1) (owners_at layouts ty)) b.1) (λ e. Got (wrote to.object to.index (to.word + u) (owner_word (Some b.0) ∷ []) e))))
              (λ e. Got (all_given to (take j (owners_at layouts ty)) copies e))
          then_copy s cells to go =
              progress.is s cells to go
              ∙ ap (λ y. then_get y (λ e. Got (all_given to (take j (owners_at layouts ty)) copies e)))
              (left s to go ∙ ap (λ w. copied_one (copied_number s (owners_at layouts) depth) (then_all s to go (drop (j + 1) (owners_at layouts ty))) to u (owned_in w) m) owned.0)

          -- no copy came
          pub copy_fails : (why : CopyFault) (e : Content) (after : Rows)
              → ((s : Setting) → s.given.cells ≡ limit → Copies (kinds_of types) (copied_number s (owners_at layouts) depth q.birth (seen (kinds_of types) d new)) (Err why) e after)
              → (n : Content) → ComeCopied layouts limit depth (owners_at layouts ty) (place from) (seen (kinds_of types) c rows) (Err why) n
          copy_fails copy_fault.Moved e after came n = λ s cells to go.
              then_copy s cells to go
              ∙ ap (λ y. then_get (then_get y (λ b. then_get (then_all s to go (drop (j + 1) (owners_at layouts ty)) b.1) (λ e. Got (wrote to.object to.index (to.word + u) (owner_word (Some b.0) ∷ []) e)))) (λ e. Got (all_given to (take j (owners_at layouts ty)) copies e)))
              (came s cells)
          copy_fails copy_fault.Cells e after came n = λ s cells to go.
              then_copy s cells to go
              ∙ ap (λ y. then_get (then_get y (λ b. then_get (then_all s to go (drop (j + 1) (owners_at layouts ty)) b.1) (λ e. Got (wrote to.object to.index (to.word + u) (owner_word (Some b.0) ∷ []) e)))) (λ e. Got (all_given to (take j (owners_at layouts ty)) copies e)))
              (came s cells)
          copy_fails copy_fault.NoMemory e after came n = tt

          -- .. or one did
          module _ (b : ObjRef) (e : Content) (after : Rows) (came : (s : Setting) → s.given.cells ≡ limit → Copies (kinds_of types) (copied_number s (owners_at layouts) depth q.birth (seen (kinds_of types) d new)) (Ok b) e after) (later : Later d e new after) where
            abbrev n : Content
            n = (came (some_setting limit) refl).0

            shows_e : Shows (kinds_of types) e after (came (some_setting limit) refl).0
            shows_e = (came (some_setting limit) refl).2

            good : Copied (forest_kinds types) limit q.birth m (b.birth, n)
            good = copied_good types ordered progress.made.hand m progress.made.store layouts laid limit depth progress.made.room (some_setting limit) refl q.birth x there_q.1 has_copy (low x there_q.1) b.birth n (came (some_setting limit) refl).1

            abbrev hand_e : ℕ → ℕ
            hand_e k = times (b.birth ∷ []) k + progress.made.hand k

            store_e : IsStore types hand_e (seen (kinds_of types) e after)
            store_e =
                subst (IsStore types hand_e) (sym shows_e.is)
                (copied_store types ordered progress.made.hand m progress.made.store layouts laid limit depth progress.made.room (some_setting limit) refl q.birth x there_q.1 has_copy (low x there_q.1) b.birth n (came (some_setting limit) refl).1)

            kept_e : (k : ℕ) (y : Object) → at m.objects k ≡ Some y → at (seen (kinds_of types) e after).objects k ≡ Some y
            kept_e k y at_k = ap (λ (z : Content). at z.objects k) shows_e.is ∙ good.same k (progress.made.store.forest.births k y at_k) ∙ at_k

            -- what was made before is there still
            each_e : (i : ℕ) (r : ObjRef) → slice_get copies i ≡ Some r → (at after r.birth ≡ Some r.row) × (0 < hand_e r.birth)
            each_e i r at_i =
                let was = progress.made.each i r at_i in
                let h = progress.made.store.forest.held r.birth in
                let more = was.1 in
                let y = lives (forest_kinds types) m r.birth (omega (arith, h, more)) in (
                  still_placed (kinds_of types) d e new after shows_e.housed later r.birth r.row y.0 (progress.made.store.forest.births r.birth y.0 y.1) was.0 (kept_e r.birth y.0 y.1),
                  omega (arith, more),
                )

            last_e : (k : ℕ) (r : ObjRef) → slice_get (b ∷ []) k ≡ Some r → (at after r.birth ≡ Some r.row) × (0 < hand_e r.birth)
            last_e zero r at_k =
                let one = one_same b.birth b.birth refl in
                subst (λ (y : ObjRef). (at after y.birth ≡ Some y.row) × (0 < hand_e y.birth)) (same_Some b r at_k) ((came (some_setting limit) refl).3, omega (arith, one))
            last_e (suc k) r at_k = absurd (none-some r at_k)

            pub progress_next : Progress e after (copies ++ b ∷ []) (j + 1)
            progress_next = record {
              made = record {
                housed = shows_e.housed;
                hand = hand_e;
                store = store_e;
                room = subst (HasRoom limit) (sym shows_e.is) good.good.room;
                kept = λ k y at_k. kept_e k y (progress.made.kept k y at_k);
                each = λ i r at_i. in_either copies (b ∷ []) i r at_i (each_e i r) (λ k at_k. last_e k r at_k);
              };
              is = λ s cells to go.
                  let k = came s cells in
                  then_copy s cells to go
                  ∙ ap (λ y. then_get (then_get y (λ z. then_get (then_all s to go (drop (j + 1) (owners_at layouts ty)) z.1) (λ f. Got (wrote to.object to.index (to.word + u) (owner_word (Some z.0) ∷ []) f)))) (λ f. Got (all_given to (take j (owners_at layouts ty)) copies f))) k.1
                  ∙ ap (λ (y : Content). then_get (then_get (then_all s to go (drop (j + 1) (owners_at layouts ty)) y) (λ f. Got (wrote to.object to.index (to.word + u) (owner_word (Some b.birth) ∷ []) f))) (λ f. Got (all_given to (take j (owners_at layouts ty)) copies f))) (sym k.2.is)
                  ∙ then_then (then_all s to go (drop (j + 1) (owners_at layouts ty)) (seen (kinds_of types) e after)) (λ f. Got (wrote to.object to.index (to.word + u) (owner_word (Some b.birth) ∷ []) f)) (λ f. Got (all_given to (take j (owners_at layouts ty)) copies f))
                  ∙ (λ i. then_get (then_all s to go (drop (j + 1) (owners_at layouts ty)) (seen (kinds_of types) e after)) (λ f. Got (given_more to (owners_at layouts ty) copies j u b f progress.count here i)));
              count = length-append copies (b ∷ []) ∙ ap (λ k. k + 1) progress.count;
              within = before (owners_at layouts ty) j u here;
              later = later_then c d e rows new after progress.later later;
            }
