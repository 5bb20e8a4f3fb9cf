-- What is collected of one list, and then of another.
use Rattle.std.proofs.Common.{◌≡◌, ℕ, zero, suc, ◌+◌, ◌≤◌, List, [], ◌∷◌, ◌++◌, length, map, take, Some, refl, sym, ap, ◌∙◌, arith, append-nil, append_assoc, take_all}
use Rattle.std.proofs.lemmas.List.{length-map}
use Rattle.std.proofs.lemmas.Option.{none-some, same_Some}
use Rattle.std.specs.Prelude.{drop, slice_get}
use Rattle.life_store.specs.Content.{Content}
use Rattle.life_store.specs.References.{Rows}
use Rattle.life_store.specs.Views.{characters_in, first_word, word_of_byte}
use Rattle.life_pointers.specs.Bytes.{byte_in, stored_bytes, stored_slots, stored_words}
use Rattle.life_pointers.specs.Pointers.{characters_seen}
use Rattle.life_pointers.specs.declared.pointer.Pointer.{Pointer}
use Rattle.life_pointers.specs.declared.pointer.Pointer.TheVariants as leads

-- one more of a list
take_there : {A : Type 0} (xs : List A) (i : ℕ) (x : A) → slice_get xs i ≡ Some x → take (i + 1) xs ≡ take i xs ++ x ∷ []
take_there [] i x e = absurd (none-some x e)
take_there (y ∷ ys) zero x e = ap (λ z. z ∷ []) (same_Some y x e)
take_there (y ∷ ys) (suc i) x e =
    let k : suc i + 1 ≡ suc (i + 1) = omega arith in
    ap (λ n. take n (y ∷ ys)) k ∙ ap (λ zs. y ∷ zs) (take_there ys i x e)

module _ {A : Type 0} (first others : List A) where
  -- of the first
  pub one_more : (collected now : List A) (i : ℕ) (x : A) → collected ≡ take i first → slice_get first i ≡ Some x → now ≡ collected ++ x ∷ [] → now ≡ take (i + 1) first
  one_more collected now i x is there pushed = pushed ∙ ap (λ (xs : List A). xs ++ x ∷ []) is ∙ sym (take_there first i x there)

  pub first_all : (collected : List A) (i : ℕ) → length first ≤ i → collected ≡ take i first → collected ≡ first ++ take 0 others
  first_all collected i le is = is ∙ take_all i first le ∙ sym (append-nil first)

  -- of the other
  pub other_more : (collected now : List A) (i : ℕ) (x : A) → collected ≡ first ++ take i others → slice_get others i ≡ Some x → now ≡ collected ++ x ∷ [] → now ≡ first ++ take (i + 1) others
  other_more collected now i x is there pushed =
      pushed ∙ ap (λ (xs : List A). xs ++ x ∷ []) is ∙ append_assoc first (take i others) (x ∷ []) ∙ ap (λ (xs : List A). first ++ xs) (sym (take_there others i x there))

  pub both_all : (collected : List A) (i : ℕ) → length others ≤ i → collected ≡ first ++ take i others → collected ≡ first ++ others
  both_all collected i le is = is ∙ ap (λ (xs : List A). first ++ xs) (take_all i others le)

-- a view sees as many bytes as words
pub as_many : (texts : List (List ℕ)) (c : Content) (rows : Rows) (view : Pointer) → length (stored_bytes texts c rows view) ≡ length (stored_words texts c rows view)
as_many texts c rows leads.Null = refl
as_many texts c rows leads.Wild = refl
as_many texts c rows (leads.To index count word object moment) =
    let words : List ℕ = map first_word (take count (drop index (stored_slots c rows object))) in
    length-map words byte_in
as_many texts c rows (leads.Static s) = sym (length-map (characters_in texts (characters_seen s)) word_of_byte)
