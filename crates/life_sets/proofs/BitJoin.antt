-- A row of bits that another was joined into, word by word.
use Rattle.std.proofs.Common.{◌≡◌, ◌≢◌, ℕ, ◌+◌, ◌*◌, ◌/◌, ◌%◌, ◌^◌, ◌<◌, refl, ap, sym, ◌∙◌, inl, inr, ◌↔◌, Bool, true, false, ◌&&◌, ◌||◌, arith, subst, nat_lt, List, length, IsTrue, bit_or, slice_index}
use Rattle.std.specs.Int.{bit_at}
use Rattle.std.proofs.lemmas.Bool.{lt-ltb, cases_lt, cases_Bool, or_cases, or_right, both_ways}
use Rattle.std.proofs.lemmas.List.{get_or_past}
use Rattle.std.proofs.lemmas.Nat.{div-add-mod', div_below, or_lt}
use Rattle.std.proofs.lemmas.Nat.Bits.{bit_at_or, bit_at-lt}
use Rattle.life_sets.specs.Pairs.{HasNew, IsBetween}
use Rattle.life_sets.specs.BitSets.{BitSet, words_for, has_bit, word_of, bit_of, contains_bit, contains, IsClean, IsFilled, IsLaidOut, IsJoined, TellsGain, AreWords}
use Rattle.life_sets.proofs.Bits.{has_or, has_none, differing, new_bit}

guard_or : (a b r p q : Bool) → r ≡ (p || q) → (a && (b && r)) ≡ ((a && (b && p)) || (a && (b && q)))
guard_or true true r p q h = h
guard_or true false r p q h = refl
guard_or false b r p q h = refl

-- its pairs are those of both
pub joined_bits : (m n : ℕ) (from old new : List ℕ) → IsJoined from old new → (l e : ℕ) → contains_bit m n new l e ≡ (contains_bit m n from l e || contains_bit m n old l e)
joined_bits m n from old new each l e =
    let s = word_of n l e in
    guard_or (nat_lt l m) (nat_lt e n) (bit_of n new l e) (bit_of n from l e) (bit_of n old l e) (ap (λ (z : ℕ). has_bit z (e % 64)) (each s) ∙ has_or (slice_index from s) (slice_index old s) (e % 64))

-- no bit is set that stands for no element
pub clean_joined : (n : ℕ) (from old new : List ℕ) → IsClean n from → IsClean n old → IsJoined from old new → IsClean n new
clean_joined n from old new cf co each k b hb h =
    elim (or_cases (has_bit (slice_index from k) b) (has_bit (slice_index old k) b) (sym (has_or (slice_index from k) (slice_index old k) b) ∙ sym (ap (λ (z : ℕ). has_bit z b) (each k)) ∙ h)) [
      | inl f ↦ cf k b hb f
      | inr o ↦ co k b hb o
    ]

-- a word that gained a bit gained a pair
new_pair : (m n : ℕ) (from old new : List ℕ) → IsFilled m n new → IsClean n new → IsJoined from old new → (k : ℕ) → slice_index from k < 2 ^ 64 → slice_index old k < 2 ^ 64 → bit_or (slice_index from k) (slice_index old k) ≢ slice_index old k → HasNew (contains_bit m n old) (contains_bit m n new)
new_pair m n from old new filled clean each k ff fo ne =
    let f = slice_index from k in
    let o = slice_index old k in
    let w = words_for n in
    let d = differing 64 (bit_or f o) o (or_lt 64 f o ff fo) fo ne in
    let i = d.0 in
    let b = new_bit (bit_at f i) (bit_at o i) (bit_at (bit_or f o) i) (bit_at-lt f i) (bit_at-lt o i) (bit_at_or f o i) d.1.1 in
    let set : has_bit (slice_index new k) i ≡ true = ap (λ (z : ℕ). has_bit z i) (each k) ∙ b.1 in
    let e = k % w * 64 + i in
    let he : e < n = clean k i d.1.0 set in
    let inside : k < length new = elim (cases_lt k (length new)) [
      | inl lt ↦ lt
      | inr ge ↦ absurd (both_ways (has_bit (slice_index new k) i) (ap (λ (z : ℕ). has_bit z i) (get_or_past new k 0 ge) ∙ has_none i) set)
    ] in
    let wide : 0 < w = omega (arith, he) in
    let hl : k / w < m = div_below k w m wide (subst (λ (z : ℕ). k < z) filled inside) in
    let part : e / 64 ≡ k % w = omega (arith, d.1.0) in
    let place : e % 64 ≡ i = omega (arith, d.1.0) in
    let slot : word_of n (k / w) e ≡ k = ap (λ (z : ℕ). k / w * w + z) part ∙ div-add-mod' k w in (
      k / w,
      (
        e,
        (
          at_pair m n old (k / w) e k i false hl he slot place b.0,
          at_pair m n new (k / w) e k i true hl he slot place set,
        ),
      ),
    )
  where
    at_pair : (m n : ℕ) (ws : List ℕ) (l e k i : ℕ) (b : Bool) → l < m → e < n → word_of n l e ≡ k → e % 64 ≡ i → has_bit (slice_index ws k) i ≡ b → contains_bit m n ws l e ≡ b
    at_pair m n ws l e k i b hl he s p is =
        (λ j. lt-ltb l m hl j && (lt-ltb e n he j && has_bit (slice_index ws (s j)) (p j))) ∙ is

-- where no word gained a bit, there are the same pairs
same_pairs : (m n : ℕ) (from old new : List ℕ) → IsJoined from old new → ((k : ℕ) → bit_or (slice_index from k) (slice_index old k) ≡ slice_index old k) → (l e : ℕ) → contains_bit m n new l e ≡ contains_bit m n old l e
same_pairs m n from old new each none l e =
    let s = word_of n l e in
    ap (λ (z : ℕ). nat_lt l m && (nat_lt e n && has_bit z (e % 64))) (each s ∙ none s)

-- so the words tell whether the row gained a pair
pub gained_iff : (m n : ℕ) (from old new : List ℕ) (r : Bool) → IsFilled m n new → IsClean n new → IsJoined from old new → AreWords from → AreWords old → TellsGain from old r → IsTrue r ↔ HasNew (contains_bit m n old) (contains_bit m n new)
gained_iff m n from old new r filled clean each ff fo tells = (
  λ t. let s = tells.0 t in new_pair m n from old new filled clean each s.0 (ff s.0) (fo s.0) s.1,
  λ h.
      elim (cases_Bool r) [
        | inl t ↦ t
        | inr f ↦ absurd (both_ways (contains_bit m n new h.0 h.1.0) (same_pairs m n from old new each (tells.1 f) h.0 h.1.0 ∙ h.1.1.0) h.1.1.1)
      ],
)

-- .. also under other names for the words
pub gained_in : (m n : ℕ) (old old_held new new_held : List ℕ) (r : Bool) → new_held ≡ new → old ≡ old_held → IsTrue r ↔ HasNew (contains_bit m n old) (contains_bit m n new) → IsTrue r ↔ HasNew (contains_bit m n old_held) (contains_bit m n new_held)
gained_in m n old old_held new new_held r is_new is_old tells =
    subst (λ (ws : List ℕ). IsTrue r ↔ HasNew (contains_bit m n ws) (contains_bit m n new_held)) is_old
    (subst (λ (ws : List ℕ). IsTrue r ↔ HasNew (contains_bit m n old) (contains_bit m n ws)) (sym is_new) tells)

-- .. and it has its own pairs, and besides only those of the other
pub between_from : (from old new : ℕ → ℕ → Bool) → ((l e : ℕ) → new l e ≡ (from l e || old l e)) → IsBetween from old new
between_from from old new each l e = (
  λ h. each l e ∙ or_right (from l e) (old l e) h,
  λ h. elim (or_cases (from l e) (old l e) (sym (each l e) ∙ h)) [ inl f ↦ inr f | inr o ↦ inl o ],
)

-- what a row is that another was joined into
pub record RowJoin (from into : BitSet) (result : List ℕ) (gained : Bool) : Type 0 where
  pub laid_out : IsLaidOut into.locations into.elements result
  pub joined : (l e : ℕ) → contains_bit into.locations into.elements result l e ≡ (contains from l e || contains into l e)
  pub tells : IsTrue gained ↔ HasNew (contains into) (contains_bit into.locations into.elements result)
  pub between : IsBetween (contains from) (contains into) (contains_bit into.locations into.elements result)

-- .. from what is known of the words, which the code has under other names
pub joined_row : (from into : BitSet) (result from_words into_words new : List ℕ) (r : Bool) → from.locations ≡ into.locations → from.elements ≡ into.elements → from_words ≡ from.words → into_words ≡ into.words → result ≡ new → length new ≡ length into_words → IsLaidOut from.locations from.elements from.words → IsLaidOut into.locations into.elements into.words → IsJoined from_words into_words new → AreWords from_words → AreWords into_words → TellsGain from_words into_words r → RowJoin from into result r
joined_row from into result from_words into_words new r same_locations same_elements is_from is_into is_new same_length laid_from laid_into words_joined are_from are_into words_tell =
    let m = into.locations in
    let n = into.elements in
    let each : IsJoined from.words into.words result = λ k. (λ i. slice_index (is_new i) k) ∙ words_joined k ∙ (λ i. bit_or (slice_index (is_from i) k) (slice_index (is_into i) k)) in
    let tells : TellsGain from.words into.words r = subst (λ (ws : List ℕ). TellsGain from.words ws r) is_into (subst (λ (ws : List ℕ). TellsGain ws into_words r) is_from words_tell) in
    let full : IsFilled m n result = ap length is_new ∙ same_length ∙ ap length is_into ∙ laid_into.filled in
    let tidy : IsClean n result = clean_joined n from.words into.words result (subst (λ (z : ℕ). IsClean z from.words) same_elements laid_from.clean) laid_into.clean each in
    let limits : (l e : ℕ) → contains_bit m n from.words l e ≡ contains from l e = λ l e i. contains_bit (sym same_locations i) (sym same_elements i) from.words l e in
    let joined : (l e : ℕ) → contains_bit m n result l e ≡ (contains from l e || contains into l e) = λ l e. joined_bits m n from.words into.words result each l e ∙ ap (λ (b : Bool). b || contains into l e) (limits l e) in
    record {
      laid_out = record { filled = full; clean = tidy };
      joined = joined;
      tells = gained_iff m n from.words into.words result r full tidy each (subst AreWords is_from are_from) (subst AreWords is_into are_into) tells;
      between = between_from (contains from) (contains into) (contains_bit m n result) joined;
    }
