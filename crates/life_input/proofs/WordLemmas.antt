-- The first word, and those behind it.
use Rattle.std.proofs.Common.{◌≡◌, ◌+◌, ℕ, suc, Bool, true, false, cond, List, [], ◌∷◌, take, drop, refl, sym, ap, ◌∙◌, arith, add-zero}
use Rattle.std.specs.Prelude.{not, ◌&&◌}
use Rattle.std.specs.List.{prefix_len}
use Rattle.life_input.specs.Words.{Word, is_gap, is_word_byte, with_word, words_from}

one_more : (k : ℕ) → 1 + k ≡ suc k
one_more k = omega arith

passed : (at k : ℕ) → at + 1 + k ≡ at + suc k
passed at k = omega arith

module _ (at n b : ℕ) (bs : List ℕ) (is : n ≡ prefix_len is_word_byte (b ∷ bs)) where
  -- how many bytes of the word stand in front, by the first byte
  none_is : is_gap b ≡ true → n ≡ 0
  none_is h = is ∙ ap (λ (g : Bool). cond (not g) (1 + prefix_len is_word_byte bs) 0) h

  more_is : is_gap b ≡ false → n ≡ suc (prefix_len is_word_byte bs)
  more_is h = is ∙ ap (λ (g : Bool). cond (not g) (1 + prefix_len is_word_byte bs) 0) h ∙ one_more (prefix_len is_word_byte bs)

  -- .. which are passed over where they go on with a word
  passes_byte : words_from false (at + 1) bs ≡ words_from true (at + 1 + prefix_len is_word_byte bs) (drop (prefix_len is_word_byte bs) bs) → (g : Bool) → is_gap b ≡ g
      → words_from false at (b ∷ bs) ≡ words_from true (at + n) (drop n (b ∷ bs))
  passes_byte rest true h =
      rw (none_is h, add-zero)
      (ap (λ (g : Bool). words_from g (at + 1) bs) h ∙ sym (ap (λ (g : Bool). with_word (true && not g) at (b ∷ bs) (words_from g (at + 1) bs)) h))
  passes_byte rest false h =
      rw (more_is h)
      (ap (λ (g : Bool). words_from g (at + 1) bs) h ∙ rest
      ∙ ap (λ (m : ℕ). words_from true m (drop (prefix_len is_word_byte bs) bs)) (passed at (prefix_len is_word_byte bs)))

passes_word : (at n : ℕ) (bs : List ℕ) → n ≡ prefix_len is_word_byte bs → words_from false at bs ≡ words_from true (at + n) (drop n bs)
passes_word at n [] is = rw is refl
passes_word at n (b ∷ bs) is = passes_byte at n b bs is (passes_word (at + 1) (prefix_len is_word_byte bs) bs refl) (is_gap b) refl

-- where a byte of a word is first, its word is the first, and the others are those behind it
pub first_word : (at n b : ℕ) (bs : List ℕ) → n ≡ prefix_len is_word_byte (b ∷ bs) → is_gap b ≡ false
    → words_from true at (b ∷ bs) ≡ record { offset = at; text = take n (b ∷ bs) } ∷ words_from true (at + n) (drop n (b ∷ bs))
first_word at n b bs is h =
    let behind : words_from false (at + 1) bs ≡ words_from true (at + n) (drop n (b ∷ bs)) =
    rw (more_is at n b bs is h)
    (passes_word (at + 1) (prefix_len is_word_byte bs) bs refl
    ∙ ap (λ (m : ℕ). words_from true m (drop (prefix_len is_word_byte bs) bs)) (passed at (prefix_len is_word_byte bs))) in
    ap (λ (g : Bool). with_word (true && not g) at (b ∷ bs) (words_from g (at + 1) bs)) h
    ∙ ap (λ (m : ℕ). record { offset = at; text = take m (b ∷ bs) } ∷ words_from false (at + 1) bs) (sym is)
    ∙ ap (λ (ws : List Word). record { offset = at; text = take n (b ∷ bs) } ∷ ws) behind
