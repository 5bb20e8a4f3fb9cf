-- What parse reads of a word is what clap takes for a number.
use Rattle.std.proofs.Common.{◌≡◌, ◌<◌, ◌≤◌, ◌^◌, ◌∙◌, ℕ, Bool, true, false, cond, List, None, Some, ap, refl, subst}
use Rattle.std.specs.Str.Parse.{IsNumeral, digits_value, without_leading_plus}
use Rattle.clap.proofs.ValueTestLemmas.{Accepts-accepts, accepts-Accepts}
use Rattle.clap.specs.ValueTests.{is_unsigned_in}
use Rattle.clap.specs.declared.builder.value_parser.ValueParser.TheVariants as vp
use Rattle.life_job.specs.Numbers.{number_between}

module _ (least most : ℕ) (word : List ℕ) where
  abbrev value : ℕ
  value = digits_value 10 (without_leading_plus word)

  -- a number in its range
  pub number_is : (n : ℕ) → IsNumeral 10 (without_leading_plus word) × (value < 2 ^ 64) → n ≡ value → least ≤ n → n ≤ most → Some n ≡ number_between least most word
  number_is n reads same low high =
      let low' : least ≤ value = subst (λ (v : ℕ). least ≤ v) same low in
      let high' : value ≤ most = subst (λ (v : ℕ). v ≤ most) same high in
      let yes : is_unsigned_in least most word ≡ true = Accepts-accepts false (vp.Unsigned least most) word (reads.0, reads.1, low', high') in
      let is : Some value ≡ number_between least most word = rw yes refl in
      ap Some same ∙ is

  -- what parse doesn't read
  pub unread : (IsNumeral 10 (without_leading_plus word) × (value < 2 ^ 64) → ⊥) → None ≡ number_between least most word
  unread fails = go (is_unsigned_in least most word) refl
    where
      go : (b : Bool) → is_unsigned_in least most word ≡ b → None ≡ cond b (Some value) None
      go true accepted = let reads = accepts-Accepts false (vp.Unsigned least most) word accepted in absurd (fails (reads.0, reads.1))
      go false refused = refl
