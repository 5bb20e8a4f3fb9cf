-- A slot ends, and an owner has what it owned.
use Rattle.std.proofs.Common.{◌≡◌, ◌≢◌, ℕ, suc, List, [], ◌∷◌, length, Option, Some, None, refl, sym, ap, subst, ◌∙◌, arith}
use Rattle.std.specs.Prelude.{option_map, slice_get, take}
use Rattle.life_types.specs.Types.{Types}
use Rattle.life_store.specs.Cells.{Cells, at, at-unset_other, unset}
use Rattle.life_store.specs.Content.{Slot, Object, Content, without, word_at, word_in}
use Rattle.life_store.specs.Held.{owner_word, slot_words, slots_if, with_words, words_if, wrote, wrote_if}
use Rattle.life_store.specs.Kinds.{Kind}
use Rattle.life_store.specs.Places.{wrote_spot}
use Rattle.life_store.specs.References.{Rows, HasWord}
use Rattle.life_store.specs.declared.object.ObjRef.{ObjRef}
use Rattle.life_store.proofs.MapLemmas.{unset_apart}
use Rattle.life_seen.specs.Housed.{Later, Shows}
use Rattle.life_seen.specs.Kinds.{kinds_of}
use Rattle.life_seen.specs.Named.{names_of}
use Rattle.life_seen.specs.Owned.{owner_at, owner_if, owner_in, owner_of}
use Rattle.life_seen.specs.Seen.{object_seen}
use Rattle.life_seen.proofs.Calls.{later_end, shows_end}
use Rattle.life_seen.proofs.References.{found, later_same, later_then, of_found}
use Rattle.life_seen.proofs.Resizing.{count_seen}
use Rattle.life_words.specs.Owning.{number_of, CanOwn, Holds, IsOwner}
use Rattle.life_pointers.specs.Owned.{spot_seen}
use Rattle.life_pointers.specs.declared.owned.Spot.{Spot}
use Rattle.life_values.proofs.SeenAs.{seen_as, IsSeenAs}
use Rattle.life_cells.specs.Fits.{meant}
use Rattle.life_cells.specs.Owners.{OwnsAt}
use Rattle.life_slots.specs.Slots.{IsSlot}

-- what is written into one object is written, whether another one has ended or not
pub wrote_without : (n i w m : ℕ) (vs : List ℕ) (c : Content) → n ≢ m → wrote n i w vs (without m c) ≡ without m (wrote n i w vs c)
wrote_without n i w m vs c apart =
    ap (λ (x : Option Object). wrote_if x n i w vs (without m c)) (at-unset_other c.objects m n (λ e. apart (sym e))) ∙ go (at c.objects n)
  where
    go : (x : Option Object) → wrote_if x n i w vs (without m c) ≡ without m (wrote_if x n i w vs c)
    go None = refl
    go (Some o) = ap (λ (xs : Cells Object). record { objects = xs; births = c.births; clock = c.clock }) (sym (unset_apart c.objects n m (with_words i w vs o) apart))

module _ (types : Types) (c : Content) (rows : Rows) (r : ObjRef) (slot : IsSlot types r c rows) where
  abbrev pub lies : IsSeenAs (kinds_of types) c rows r slot.object
  lies = seen_as (kinds_of types) c rows r slot.object slot.housed slot.placed slot.there

  pub slot_owner : IsOwner (kinds_of types) c rows r 0 lies.object
  slot_owner = record { housed = slot.housed; there = lies.found; owner = ap (λ (x : Object). kinds_of types x.ty 0) lies.same ∙ slot.owner }

  pub slot_word : HasWord 0 0 lies.object
  slot_word =
      let slots = ap (λ (x : Object). length x.slots) lies.same ∙ ap (λ (ss : List Slot). length ss) slot.one in
      let seen_slots = count_seen (kinds_of types) (names_of c rows) lies.object in
      let wide = ap (λ (x : Object). x.width) lies.same ∙ slot.width in
      record { has_slot = omega (arith, slots, seen_slots); has_word = omega (arith, wide) }

  -- the meaning has this word there
  word_read : word_at (object_seen (kinds_of types) (names_of c rows) lies.object) 0 0 ≡ slot.word
  word_read = ap (λ (x : Object). word_at x 0 0) lies.same ∙ ap (λ (ss : List Slot). word_in (slice_get ss 0) 0) slot.one ∙ ap (λ (ws : List ℕ). word_in (Some (record { words = ws; stamp = slot.slot.stamp })) 0) slot.words

  pub words_read : take 1 (slot_words (meant types c rows) r.birth 0) ≡ slot.word ∷ []
  words_read =
      ap (λ (x : Option Object). take 1 (words_if (slice_get (slots_if x) 0))) slot.there
      ∙ ap (λ (ss : List Slot). take 1 (words_if (slice_get ss 0))) slot.one
      ∙ ap (take 1) slot.words

  module _ (had : Option ObjRef) (holds : Holds (kinds_of types) c rows 0 0 lies.object had) where
    pub had_word : owner_word (option_map number_of had) ≡ slot.word
    had_word = go had holds
      where
        go : (x : Option ObjRef) → Holds (kinds_of types) c rows 0 0 lies.object x → owner_word (option_map number_of x) ≡ slot.word
        go None h = sym h ∙ word_read
        go (Some q) h = sym h.0 ∙ word_read

    -- the slot doesn't own itself
    not_itself : (q : ObjRef) → had ≡ Some q → q.birth ≢ r.birth
    not_itself q e same =
        slot.unowned r.birth 0 0
        (ap (λ (x : Option Object). owner_if (kinds_of types) x 0 0) slot.there
        ∙ ap (λ (ss : List Slot). owner_in (kinds_of types slot.object.ty) ss 0 0) slot.one
        ∙ ap (λ (ws : List ℕ). owner_at (kinds_of types slot.object.ty) ws 0) slot.words
        ∙ ap (λ (k : Kind). owner_of k slot.word) slot.owner
        ∙ sym had_word
        ∙ ap (λ (x : Option ObjRef). owner_word (option_map number_of x)) e
        ∙ ap suc same)

    -- ---- behind its end

    module _ (d : Content) (new : Rows) (last : d ≡ without r.birth c) (gone : new ≡ unset rows r.birth) where
      pub ended : Shows (kinds_of types) d new (without r.birth (meant types c rows))
      ended = shows_end (kinds_of types) c rows slot.housed d new r lies.object lies.found slot.unowned last gone

      pub still_lives : CanOwn new had
      still_lives = go had refl holds
        where
          go : (x : Option ObjRef) → had ≡ x → Holds (kinds_of types) c rows 0 0 lies.object x → CanOwn new x
          go None e h = tt
          go (Some q) e h = ap (λ (x : Rows). at x q.birth) gone ∙ at-unset_other rows r.birth q.birth (λ s. not_itself q e (sym s)) ∙ h.1

      module _ (owner : Spot) (owns : OwnsAt (kinds_of types) c rows owner) (apart : owner.object.birth ≢ r.birth) where
        pub owns_still : OwnsAt (kinds_of types) d new owner
        owns_still =
            let f = found c rows owner.object owns.object owns.is.there in
            let other : r.birth ≢ owner.object.birth = λ e. apart (sym e) in
            record {
              object = owns.object;
              is = record {
                housed = ended.housed;
                there = of_found d new owner.object owns.object (record {
                  there = ap (λ (x : Content). at x.objects owner.object.birth) last ∙ at-unset_other c.objects r.birth owner.object.birth other ∙ f.there;
                  placed = ap (λ (x : Rows). at x owner.object.birth) gone ∙ at-unset_other rows r.birth owner.object.birth other ∙ f.placed;
                });
                owner = owns.is.owner;
              };
              word = owns.word;
            }

        pub returned_shows : (e : Content) (after : Rows) → Shows (kinds_of types) e after (wrote_spot (spot_seen owner) (owner_word (option_map number_of had) ∷ []) (meant types d new))
            → Shows (kinds_of types) e after (without r.birth (wrote_spot (spot_seen owner) (take 1 (slot_words (meant types c rows) r.birth 0)) (meant types c rows)))
        returned_shows e after shows = record {
          housed = shows.housed;
          is = shows.is
              ∙ ap (λ (x : Content). wrote_spot (spot_seen owner) (owner_word (option_map number_of had) ∷ []) x) ended.is
              ∙ wrote_without owner.object.birth owner.index owner.word r.birth (owner_word (option_map number_of had) ∷ []) (meant types c rows) apart
              ∙ ap (λ (w : ℕ). without r.birth (wrote_spot (spot_seen owner) (w ∷ []) (meant types c rows))) had_word
              ∙ ap (λ (ws : List ℕ). without r.birth (wrote_spot (spot_seen owner) ws (meant types c rows))) (sym words_read);
        }

        pub returned_later : (e : Content) (after : Rows) → Shows (kinds_of types) e after (wrote_spot (spot_seen owner) (owner_word (option_map number_of had) ∷ []) (meant types d new)) → after ≡ new → Later c e rows after
        returned_later e after shows same =
            later_then c d e rows new after (later_end c rows d new r last gone)
            (subst (Later d e new) (sym same) (later_same d e new (let x = ap (λ (y : Content). y.births) shows.is in let n = births_stay (at (meant types d new).objects owner.object.birth) in omega (arith, x, n))))
          where
            births_stay : (x : Option Object) → (wrote_if x owner.object.birth owner.index owner.word (owner_word (option_map number_of had) ∷ []) (meant types d new)).births ≡ d.births
            births_stay None = refl
            births_stay (Some o) = refl
