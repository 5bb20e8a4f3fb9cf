-- In the store of a run, a word takes another object, or none, in place of what it owns: that ends as the meaning ends it.
use Rattle.std.proofs.Common.{◌≡◌, ℕ, ◌+◌, ◌≤◌, ◌<◌, List, [], ◌∷◌, length, Option, Some, sym, ap, ◌∙◌, arith}
use Rattle.std.specs.Prelude.{◌&&◌}
use Rattle.life_types.specs.Trees.{IsOrdered}
use Rattle.life_types.specs.Types.{Types}
use Rattle.life_types.specs.declared.ty.TyId.{TyId}
use Rattle.life_store.specs.Cells.{at}
use Rattle.life_store.specs.Content.{Object, Content, with_object, with_word}
use Rattle.life_store.specs.Held.{owner_word, words_at, wrote, wrote_if}
use Rattle.life_store.specs.Kinds.{is_owner}
use Rattle.life_store.specs.Owners.{ended}
use Rattle.life_store.specs.Parts.{Parts, parts_at, width}
use Rattle.life_store.specs.Places.{Spot}
use Rattle.life_forest.specs.Kinds.{kinds_of, rank_of}
use Rattle.life_forest.specs.Owned.{every, owns, times}
use Rattle.life_forest.specs.Typed.{IsStore}
use Rattle.life_forest.specs.Values.{owned_of, Known}
use Rattle.life_forest.specs.Within.{LiesWithin}
use Rattle.life_forest.proofs.Knowing.{known_apart}
use Rattle.life_forest.proofs.Lying.{counted_among, counted_old}
use Rattle.life_forest.proofs.Spots.{lies_at, spot_known}
use Rattle.life_values.specs.Emptied.{emptied_each}
use Rattle.life_values.specs.Ended.{ended_number}
use Rattle.life_values.specs.Layouts.{flat, owner_words}
use Rattle.life_values.specs.Replaced.{replaced_by}
use Rattle.life_values.specs.Zeroed.{zeroed}
use Rattle.life_values.proofs.EmptiedMeant.{emptied_meant, ended_beside, IsPlace}
use Rattle.life_values.proofs.ReplacedMeant.{replaced_meant}

module _ (types : Types) (ordered : IsOrdered types) (hand : ℕ → ℕ) (m : Content) (store : IsStore types hand m) (n i w : ℕ) (part : TyId) (o : Object) (there : at m.objects n ≡ Some o) (within : LiesWithin types o.ty w part) (slot : i < length o.slots)
    (depth : ℕ) (deep : rank_of types o.ty ≤ depth) where
  abbrev p : Parts
  p = parts_at types part

  abbrev us : List ℕ
  us = owner_words (flat 0 (parts_at types part))

  abbrev ws : List ℕ
  ws = words_at m n i w (width (parts_at types part))

  abbrev spot : Spot
  spot = record { object = n; index = i; word = w }

  pub place : IsPlace (kinds_of types) depth n i w (parts_at types part) o
  place =
      let fit = store.fit n o there in
      record {
        wide = fit.slots;
        slot = slot;
        kinds = within.words;
        fits = let f = within.fits in let e = fit.width in omega (arith, f, e);
      }

  -- what it owns, the object owns
  owned_there : (k : ℕ) → times (owned_of p ws) k ≤ owns (kinds_of types) every o k
  owned_there k =
      let lies = lies_at types ordered hand m store n i w part o there within slot in
      let a = counted_old (kinds_of types) m spot p o lies k in
      let l = counted_among (λ u. is_owner ((kinds_of types).word o.ty u) && every u) o.slots i w (width p) k lies.words in
      omega (arith, a, l)

  pub known : Known (kinds_of types) (with_object n (zeroed i w (owner_words (flat 0 (parts_at types part))) o) m) (parts_at types part) (words_at m n i w (width (parts_at types part)))
  known =
      known_apart (kinds_of types) hand m n o (zeroed i w us o) store.forest there p ws (λ k lt. let l = owned_there k in omega (arith, l, lt))
      (spot_known types ordered hand m store n i w part o there within slot)

  module _ (one : owner_words (flat 0 (parts_at types part)) ≡ 0 ∷ []) where
    pub some_replaced : (f : ℕ) → replaced_by (ended_number (kinds_of types) depth) n i w (owner_words (flat 0 (parts_at types part))) f m
        ≡ wrote n i w (owner_word (Some f) ∷ []) (ended (parts_at types part) (words_at m n i w (width (parts_at types part))) m)
    some_replaced f = replaced_meant (kinds_of types) depth n i hand w p m o there store.forest deep place known one f

    pub none_replaced : emptied_each (ended_number (kinds_of types) depth) n i w (owner_words (flat 0 (parts_at types part))) m
        ≡ wrote n i w (0 ∷ []) (ended (parts_at types part) (words_at m n i w (width (parts_at types part))) m)
    none_replaced =
        let z : w + 0 ≡ w = omega arith in
        let e : Content = ended p ws m in
        emptied_meant (kinds_of types) depth n i hand w p m o there store.forest deep place known
        ∙ ap (λ xs. with_object n (zeroed i w xs o) e) one
        ∙ ap (λ u. with_object n (with_word i u 0 o) e) z
        ∙ ap (λ (x : Option Object). wrote_if x n i w (0 ∷ []) e) (sym (ended_beside (kinds_of types) depth n i hand w p m o there store.forest deep place known))
