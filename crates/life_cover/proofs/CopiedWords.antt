-- Where a value was written to a local's object, or to a member of one, its pointers are read back.
use Rattle.std.proofs.Common.{◌≡◌, ℕ, suc, Bool, ◌+◌, ◌≤◌, ◌<◌, ◌||◌, List, [], ◌∷◌, length, Option, Some, None, refl, sym, ap, ◌∙◌, arith}
use Rattle.std.specs.Prelude.{drop, option_map, slice_get, take}
use Rattle.life_store.specs.Cells.{at, at-set_same}
use Rattle.life_store.specs.Content.{Content, Object, Slot}
use Rattle.life_store.specs.Held.{slots_if, words_at, words_if, wrote, wrote_if}
use Rattle.life_store.specs.Kinds.{is_value}
use Rattle.life_store.proofs.CellLemmas.{none_some, some_same}
use Rattle.life_forest.specs.Forest.{Beneath, Foot, Touches}
use Rattle.life_forest.specs.Kinds.{Kinds}
use Rattle.life_forest.specs.Owned.{blanked, blanked_slots, spared}
use Rattle.life_forest.proofs.HoldingWrites.{first_written}
use Rattle.life_forest.proofs.MemberPointers.{part_back, sets_length}
use Rattle.life_forest.proofs.Puts.{puts_in, wrote_is}

-- ---- blanked words are as many

blanked_length : (f : ℕ → Bool) (xs : List ℕ) → length (blanked f xs) ≡ length xs
blanked_length f [] = refl
blanked_length f (x ∷ xs) = ap suc (blanked_length (λ u. f (suc u)) xs)

first_length : (f : ℕ → Bool) (ss : List Slot) → length (words_if (slice_get (blanked_slots f ss) 0)) ≡ length (words_if (slice_get ss 0))
first_length f [] = refl
first_length f (s ∷ ss) = blanked_length f s.words

-- ---- what was written

module _ (kind : Kinds) (foot : Foot) (c d before : Content) (n w : ℕ) (vs : List ℕ) (o : Object) (there : at c.objects n ≡ Some o) (born : n < c.births) (apart : Beneath kind c foot n → ⊥) (touch : Touches kind foot c d) (is : d ≡ wrote n 0 w vs before)
    (room : w + length vs ≤ length (words_if (slice_get o.slots 0))) where
  pub written_words : (u : ℕ) → u + 5 ≤ length vs → words_at d n 0 (w + u) 5 ≡ take 5 (drop u vs)
  written_words u le = go (at before.objects n) refl
    where
      kept : option_map (spared kind (foot.part n)) (at d.objects n) ≡ option_map (spared kind (foot.part n)) (Some o)
      kept = touch.kept n born apart ∙ ap (option_map (spared kind (foot.part n))) there

      gone : at before.objects n ≡ None → at d.objects n ≡ None
      gone e = ap (λ (x : Content). at x.objects n) is ∙ ap (λ (x : Option Object). at (wrote_if x n 0 w vs before).objects n) e ∙ e

      go : (x : Option Object) → at before.objects n ≡ x → words_at d n 0 (w + u) 5 ≡ take 5 (drop u vs)
      go None e = absurd (none_some (sym (ap (option_map (spared kind (foot.part n))) (gone e)) ∙ kept))
      go (Some q) e =
          ap (λ (x : Option Object). take 5 (drop (w + u) (words_if (slice_get (slots_if x) 0)))) now
          ∙ ap (λ (ws : List ℕ). take 5 (drop (w + u) ws)) (first_written w vs q.slots)
          ∙ part_back w vs (words_if (slice_get q.slots 0)) (let l = long in omega (arith, l, room)) u 5 le
        where
          now : at d.objects n ≡ Some (record q { slots = puts_in 0 w vs q.slots })
          now = ap (λ (x : Content). at x.objects n) (is ∙ wrote_is before n 0 w vs q e) ∙ at-set_same before.objects n n (record q { slots = puts_in 0 w vs q.slots }) refl

          same : spared kind (foot.part n) (record q { slots = puts_in 0 w vs q.slots }) ≡ spared kind (foot.part n) o
          same = some_same (sym (ap (option_map (spared kind (foot.part n))) now) ∙ kept)

          long : length (words_if (slice_get q.slots 0)) ≡ length (words_if (slice_get o.slots 0))
          long =
              sym (sets_length w vs (words_if (slice_get q.slots 0)))
              ∙ sym (ap length (first_written w vs q.slots))
              ∙ sym (first_length (λ v. is_value (kind.word q.ty v) || foot.part n v) (puts_in 0 w vs q.slots))
              ∙ ap (λ (z : Object). length (words_if (slice_get z.slots 0))) same
              ∙ first_length (λ v. is_value (kind.word o.ty v) || foot.part n v) o.slots
