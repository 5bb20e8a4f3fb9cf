-- In the store of a run, an object with a value of a type stays where another value of the type ends: what ends is of lesser types.
use Rattle.std.proofs.Common.{◌≡◌, ℕ, ◌+◌, ◌<◌, List, length, take, drop, Option, Some, refl, sym, ap, subst, ◌∙◌, arith}
use Rattle.std.proofs.lemmas.Option.{same_Some}
use Rattle.std.specs.Prelude.{slice_get}
use Rattle.life_types.specs.Trees.{IsOrdered}
use Rattle.life_types.specs.Types.{Types}
use Rattle.life_types.specs.declared.ty.TyId.{TyId}
use Rattle.life_store.specs.Cells.{Cells, at, at-set_same, at-set_other}
use Rattle.life_store.specs.Content.{Object, Content, with_object}
use Rattle.life_store.specs.Held.{slots_if, words_at, words_if}
use Rattle.life_store.specs.Kinds.{is_owner}
use Rattle.life_store.specs.Owners.{ended}
use Rattle.life_store.specs.Parts.{Parts, parts_at, width}
use Rattle.life_store.proofs.MapLemmas.{one_or_apart, set-unset, set_back}
use Rattle.life_forest.specs.Forest.{Below, IsForest}
use Rattle.life_forest.specs.Kinds.{kinds_of, rank_of}
use Rattle.life_forest.specs.Owned.{times}
use Rattle.life_forest.specs.Typed.{IsStore}
use Rattle.life_forest.specs.Values.{owned_of}
use Rattle.life_forest.specs.Within.{LiesWithin}
use Rattle.life_forest.proofs.ByParts.{parts_end}
use Rattle.life_forest.proofs.Ending.{Ended}
use Rattle.life_forest.proofs.Lying.{length-words_of, spot_words_are}
use Rattle.life_forest.proofs.Spots.{lies_at, spot_flat}
use Rattle.life_forest.proofs.Steps.{at-without_all}
use Rattle.life_forest.proofs.Stores.{flat_lower}
use Rattle.life_values.specs.Layouts.{flat, owner_words}
use Rattle.life_values.specs.Zeroed.{held, zeroed}
use Rattle.life_values.proofs.EmptiedMeant.{low_below, zeroed_forest, AreWords}
use Rattle.life_values.proofs.Ends.{AreBelow}
use Rattle.life_values.proofs.Flat.{owner_words_own}
use Rattle.life_values.proofs.HeldWords.{held_is}
use Rattle.life_moves.proofs.ReplacedInStores.{known}
use Rattle.life_values.proofs.Zeroing.{zeroed_like}

module _ (types : Types) (ordered : IsOrdered types) (hand : ℕ → ℕ) (m : Content) (store : IsStore types hand m) (n i w : ℕ) (part : TyId) (o : Object) (there : at m.objects n ≡ Some o) (within : LiesWithin types o.ty w part) (slot : i < length o.slots) where
  abbrev p : Parts
  p = parts_at types part

  abbrev us : List ℕ
  us = owner_words (flat 0 (parts_at types part))

  abbrev ws : List ℕ
  ws = words_at m n i w (width (parts_at types part))

  abbrev bare : Object
  bare = zeroed i w (owner_words (flat 0 (parts_at types part))) o

  abbrev out : Content
  out = with_object n (zeroed i w (owner_words (flat 0 (parts_at types part))) o) m

  words : AreWords (kinds_of types) (rank_of types o.ty) n i w us o
  words =
      let fit = store.fit n o there in
      record {
        wide = fit.slots;
        slot = slot;
        own = λ j u e.
            let r = owner_words_own p 0 j u e in
            let s : u ≡ r.word = (let x = r.is in omega (arith, x)) in
            let l : u < width p = (let x = r.within in omega (arith, s, x)) in
            let f = within.fits in
            let g = fit.width in
            (ap is_owner (within.words u l ∙ ap (λ v. (kinds_of types).word part v) s ∙ r.owner), omega (arith, f, g, l));
      }

  here : IsForest (kinds_of types) hand (with_object n o m)
  here = subst (IsForest (kinds_of types) hand) (ap (λ (x : Cells Object). record { objects = x; births = m.births; clock = m.clock }) (sym (sym (set-unset m.objects n o) ∙ set_back m.objects n o there))) store.forest

  list : held i w us o ≡ owned_of p ws
  list = held_is p i w o ∙ ap (λ (x : Option Object). owned_of p (take (width p) (drop w (words_if (slice_get (slots_if x) i))))) (sym there)

  in_hand : IsForest (kinds_of types) (λ k. times (owned_of p ws) k + hand k) out
  in_hand = subst (λ ns. IsForest (kinds_of types) (λ k. times ns k + hand k) out) list (zeroed_forest (kinds_of types) (rank_of types o.ty) n i hand w us m o here words).0

  low : AreBelow (kinds_of types) (rank_of types o.ty) (owned_of p ws) out
  low = subst (λ ns. AreBelow (kinds_of types) (rank_of types o.ty) ns out) list (zeroed_forest (kinds_of types) (rank_of types o.ty) n i hand w us m o here words).1

  bare_there : at out.objects n ≡ Some bare
  bare_there = at-set_same m.objects n n bare refl

  bare_rank : rank_of types bare.ty ≡ rank_of types o.ty
  bare_rank = ap (rank_of types) (zeroed_like i w us o).ty

  apart : Below (kinds_of types) out (owned_of p ws) n → ⊥
  apart b =
      let l = low_below (kinds_of types) (λ k. times (owned_of p ws) k + hand k) out (owned_of p ws) (rank_of types o.ty) in_hand low n bare b bare_there in
      let t = bare_rank in
      absurd (omega (arith, l, t))

  agree : (k : ℕ) → Below (kinds_of types) out (owned_of p ws) k → at m.objects k ≡ at out.objects k
  agree k b = sym (at-set_other m.objects n k bare (λ s. apart (subst (Below (kinds_of types) out (owned_of p ws)) (sym s) b)))

  by_part : Ended (kinds_of types) hand (owned_of p ws) out m (ended p ws m)
  by_part = parts_end (kinds_of types) p ws hand out m in_hand (known types ordered hand m store n i w part o there within slot (rank_of types o.ty) (omega arith)) agree

  ws_wide : length ws ≡ width p
  ws_wide = let lies = lies_at types ordered hand m store n i w part o there within slot in ap length (spot_words_are (kinds_of types) m (record { object = n; index = i; word = w }) p o lies) ∙ length-words_of i w (width p) o.slots

  -- an object with such a value
  module _ (k v : ℕ) (x : Object) (x_there : at m.objects k ≡ Some x) (x_within : LiesWithin types x.ty v part) where
    -- what is owned here is of lesser types
    lesser : AreBelow (kinds_of types) (rank_of types x.ty) (owned_of p ws) out
    lesser q y more at_q =
        one_or_apart n q
        (λ e.
        let l = low q y more at_q in
        let s = ap (λ (z : Object). rank_of types z.ty) (same_Some bare y (sym bare_there ∙ ap (at out.objects) e ∙ at_q)) in
        let t = bare_rank in
        absurd (omega (arith, l, s, t)))
        (λ ne. flat_lower types ordered m x.ty part v ws x_within ws_wide (spot_flat types ordered hand m store n i w part o there within slot) q y more (sym (at-set_other m.objects n q bare ne) ∙ at_q))

    not_below : Below (kinds_of types) out (owned_of p ws) k → ⊥
    not_below b =
        one_or_apart n k
        (λ e. apart (subst (Below (kinds_of types) out (owned_of p ws)) (sym e) b))
        (λ ne.
        let l = low_below (kinds_of types) (λ j. times (owned_of p ws) j + hand j) out (owned_of p ws) (rank_of types x.ty) in_hand lesser k x b (at-set_other m.objects n k bare ne ∙ x_there) in
        absurd (omega (arith, l)))

    pub stays : at (ended (parts_at types part) (words_at m n i w (width (parts_at types part))) m).objects k ≡ Some x
    stays =
        let none : times by_part.list k ≡ 0 = one_or_apart (times by_part.list k) 0 (λ z. z) (λ nz. absurd (not_below (by_part.low k (omega (arith, nz))))) in
        ap (λ (c : Content). at c.objects k) by_part.is ∙ at-without_all (kinds_of types) by_part.list m k none ∙ x_there
