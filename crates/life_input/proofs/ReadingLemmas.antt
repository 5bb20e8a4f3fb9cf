-- How reading goes on behind a word that is admitted.
use Rattle.std.proofs.Common.{◌≡◌, ◌+◌, ◌≤◌, ◌++◌, ℕ, ℤ, Bool, true, false, List, [], ◌∷◌, Option, Some, Result, length, take, drop, get_or, sym, ap, ◌∙◌, arith}
use Rattle.std.specs.List.{prefix_len}
use Rattle.life_input.specs.Input.{admitted, numbers_from, with_number}
use Rattle.life_input.specs.Words.{is_gap, is_word_byte, words_from}
use Rattle.life_input.proofs.WordLemmas.{first_word}

module _ (wanted : Result (List ℤ) ℕ) (so_far : List ℤ) (number : ℤ) (at n count : ℕ) (found : Option ℤ) (same : count ≡ length so_far) (is : found ≡ Some number) where
  behind : (b : ℕ) (bs : List ℕ) → numbers_from so_far (words_from true at (b ∷ bs)) ≡ wanted → is_gap b ≡ false → n ≡ prefix_len is_word_byte (b ∷ bs)
      → found ≡ admitted count (take n (b ∷ bs)) → numbers_from (so_far ++ number ∷ []) (words_from true (at + n) (drop n (b ∷ bs))) ≡ wanted
  behind b bs reads word len tells =
      let words = words_from true (at + n) (drop n (b ∷ bs)) in
      let known : admitted (length so_far) (take n (b ∷ bs)) ≡ Some number = ap (λ (k : ℕ). admitted k (take n (b ∷ bs))) (sym same) ∙ sym tells ∙ is in
      sym (ap (with_number (λ (z : ℤ). numbers_from (so_far ++ z ∷ []) words) at) known)
      ∙ sym (ap (numbers_from so_far) (first_word at n b bs len word))
      ∙ reads

  pub reads_on : (rest : List ℕ) (gap : Bool) → numbers_from so_far (words_from true at rest) ≡ wanted → 1 ≤ length rest → gap ≡ is_gap (get_or rest 0 0) → gap ≡ false
      → n ≡ prefix_len is_word_byte rest → found ≡ admitted count (take n rest) → numbers_from (so_far ++ number ∷ []) (words_from true (at + n) (drop n rest)) ≡ wanted
  reads_on [] gap reads some tells word len number_is = absurd (omega arith)
  reads_on (b ∷ bs) gap reads some tells word len number_is = behind b bs reads (sym tells ∙ word) len number_is
