-- Sets of numbers as words: cut, compared and emptied word by word.
use Rattle.std.proofs.Common.{◌≡◌, ◌≢◌, ℕ, zero, suc, min, ◌+◌, ◌*◌, ◌/◌, ◌%◌, ◌^◌, ◌<◌, refl, ap, sym, ◌∙◌, inl, inr, Bool, true, false, not, ◌&&◌, ◌||◌, arith, subst, nat_lt, nat_eq, List, length, IsTrue, bit_and, slice_index}
use Rattle.std.specs.Prelude.{◌↔◌}
use Rattle.std.specs.Int.{bit_at}
use Rattle.std.proofs.lemmas.Bool.{ltb-true, cases_lt, cases_Bool, and_parts, and_from, and_right, both_ways}
use Rattle.std.proofs.lemmas.List.{get_or_past}
use Rattle.std.proofs.lemmas.Nat.{and_le_l}
use Rattle.std.proofs.lemmas.Nat.Bits.{bit_at_and, bit_at-lt, bit_at-zero}
use Rattle.life_sets.specs.Pairs.{HasNew}
use Rattle.life_sets.specs.BitSets.{words_for, has_bit, contains_bit, IsClean, IsFilled, IsLaidOut, AreWords}
use Rattle.life_sets.specs.NumberSets.{Numbers, holds, holds_bit, HasMore, HasCommon, IsCut, TellsCommon}
use Rattle.life_sets.proofs.Bits.{has_and, has_cut, has_none, differing}
use Rattle.life_sets.proofs.NextLemmas.{bit_held}

-- ---- a set of numbers is a set of pairs with one location
pub one_location : (n : ℕ) (ws : List ℕ) (e : ℕ) → contains_bit 1 n ws 0 e ≡ holds_bit n ws e
one_location n ws e = ap (λ (z : ℕ). nat_lt e n && has_bit (slice_index ws z) (e % 64)) (omega arith)

held : (n : ℕ) (ws : List ℕ) (l e : ℕ) → l ≡ 0 → holds_bit n ws e ≡ contains_bit 1 n ws l e
held n ws l e first = sym (one_location n ws e) ∙ ap (λ (z : ℕ). contains_bit 1 n ws z e) (sym first)

-- so what gained a pair gained a number
pub more_iff : (n : ℕ) (old new : List ℕ) → HasNew (contains_bit 1 n old) (contains_bit 1 n new) ↔ HasMore (holds_bit n old) (holds_bit n new)
more_iff n old new = (
  λ h.
      let first : h.0 ≡ 0 = omega (arith, ltb-true h.0 1 (and_parts (nat_lt h.0 1) (nat_lt h.1.0 n && has_bit (slice_index new (h.0 * words_for n + h.1.0 / 64)) (h.1.0 % 64)) h.1.1.1).0) in
      (h.1.0, (held n old h.0 h.1.0 first ∙ h.1.1.0, held n new h.0 h.1.0 first ∙ h.1.1.1)),
  λ h. (0, (h.0, (one_location n old h.0 ∙ h.1.0, one_location n new h.0 ∙ h.1.1))),
)

-- ---- its numbers are below its limit
pub held_below : (set : Numbers) (n : ℕ) → IsTrue (holds set n) → n < set.limit
held_below set n h = ltb-true n set.limit (and_parts (nat_lt n set.limit) (has_bit (slice_index set.words (n / 64)) (n % 64)) h).0

-- ---- emptied
pub none_held : (n : ℕ) (ws : List ℕ) → ((k : ℕ) → slice_index ws k ≡ 0) → (e : ℕ) → holds_bit n ws e ≡ false
none_held n ws zeros e = and_right (nat_lt e n) (has_bit (slice_index ws (e / 64)) (e % 64)) (ap (λ (z : ℕ). has_bit z (e % 64)) (zeros (e / 64)) ∙ has_none (e % 64))

pub clean_none : (n : ℕ) (ws : List ℕ) → ((k : ℕ) → slice_index ws k ≡ 0) → IsClean n ws
clean_none n ws zeros k b small set = absurd (both_ways (has_bit (slice_index ws k) b) (ap (λ (z : ℕ). has_bit z b) (zeros k) ∙ has_none b) set)

-- ---- not empty
is_set : (x : ℕ) → x < 2 → x ≢ 0 → nat_eq x 1 ≡ true
is_set zero p ne = absurd (ne refl)
is_set (suc zero) p ne = refl
is_set (suc (suc x)) p ne = absurd (omega (arith, p))

-- a word that isn't 0 has a bit
some_bit : (word : ℕ) → word < 2 ^ 64 → word ≢ 0 → (i : ℕ) × ((i < 64) × (has_bit word i ≡ true))
some_bit word small ne =
    let d = differing 64 word 0 small (omega arith) ne in
    (d.0, (d.1.0, is_set (bit_at word d.0) (bit_at-lt word d.0) (λ (h : bit_at word d.0 ≡ 0). d.1.1 (h ∙ sym (bit_at-zero d.0)))))

-- ---- cut
guard_cut : (a r p q : Bool) → r ≡ (p && not q) → (a && r) ≡ ((a && p) && not (a && q))
guard_cut true r p q h = h
guard_cut false r p q h = refl

pub cut_held : (n : ℕ) (from old new : List ℕ) → AreWords from → IsCut from old new → (e : ℕ) → holds_bit n new e ≡ (holds_bit n old e && not (holds_bit n from e))
cut_held n from old new words cut e =
    let k = e / 64 in
    guard_cut (nat_lt e n) (has_bit (slice_index new k) (e % 64)) (has_bit (slice_index old k) (e % 64)) (has_bit (slice_index from k) (e % 64))
    (ap (λ (z : ℕ). has_bit z (e % 64)) (cut k) ∙ has_cut (slice_index old k) (slice_index from k) (e % 64) (words k) (omega arith))

pub clean_cut : (n : ℕ) (from old new : List ℕ) → AreWords from → IsCut from old new → IsClean n old → IsClean n new
clean_cut n from old new words cut clean k b small set =
    clean k b small (and_parts (has_bit (slice_index old k) b) (not (has_bit (slice_index from k) b)) (sym (has_cut (slice_index old k) (slice_index from k) b (words k) small) ∙ sym (ap (λ (z : ℕ). has_bit z b) (cut k)) ∙ set)).0

-- ---- compared
-- two bits whose lesser isn't 0
both_bits : (x y : ℕ) → x < 2 → y < 2 → min x y ≢ 0 → (nat_eq x 1 ≡ true) × (nat_eq y 1 ≡ true)
both_bits zero zero p q ne = absurd (ne refl)
both_bits zero (suc zero) p q ne = absurd (ne refl)
both_bits zero (suc (suc y)) p q ne = absurd (omega (arith, q))
both_bits (suc zero) zero p q ne = absurd (ne refl)
both_bits (suc zero) (suc zero) p q ne = (refl, refl)
both_bits (suc (suc x)) y p q ne = absurd (omega (arith, p))
both_bits (suc zero) (suc (suc y)) p q ne = absurd (omega (arith, q))

-- two words with something in common have a bit in common
common_bit : (a b : ℕ) → a < 2 ^ 64 → bit_and a b ≢ 0 → (i : ℕ) × ((i < 64) × ((has_bit a i ≡ true) × (has_bit b i ≡ true)))
common_bit a b small ne =
    let d = differing 64 (bit_and a b) 0 (omega (arith, small, and_le_l a b)) (omega arith) ne in
    let i = d.0 in
    (i, (d.1.0, both_bits (bit_at a i) (bit_at b i) (bit_at-lt a i) (bit_at-lt b i) (λ (h : min (bit_at a i) (bit_at b i) ≡ 0). d.1.1 (bit_at_and a b i ∙ h ∙ sym (bit_at-zero i)))))

-- a word with a bit is one of the set's
word_inside : (n k b : ℕ) (ws : List ℕ) → IsFilled 1 n ws → has_bit (slice_index ws k) b ≡ true → k < words_for n
word_inside n k b ws filled set =
    elim (cases_lt k (length ws)) [
      | inl lt ↦ omega (arith, lt, filled)
      | inr ge ↦ absurd (both_ways (has_bit (slice_index ws k) b) (ap (λ (z : ℕ). has_bit z b) (get_or_past ws k 0 ge) ∙ has_none b) set)
    ]

-- the words tell whether a number is in both sets
pub common_iff : (n : ℕ) (one other : List ℕ) (r : Bool) → IsLaidOut 1 n one → IsLaidOut 1 n other → AreWords one → TellsCommon one other r → IsTrue r ↔ HasCommon (holds_bit n one) (holds_bit n other)
common_iff n one other r laid_one laid_other words tells = (
  λ t.
      let w = tells.0 t in
      let k = w.0 in
      let c = common_bit (slice_index one k) (slice_index other k) (words k) w.1 in
      let inside = word_inside n k c.0 one laid_one.filled c.1.1.0 in
      (k * 64 + c.0, ((bit_held n k c.0 one laid_one.clean inside c.1.0 c.1.1.0).0, (bit_held n k c.0 other laid_other.clean inside c.1.0 c.1.1.1).0)),
  λ h.
      elim (cases_Bool r) [
        | inl t ↦ t
        | inr f ↦
            let e = h.0 in
            let a = slice_index one (e / 64) in
            let b = slice_index other (e / 64) in
            let p = (and_parts (nat_lt e n) (has_bit a (e % 64)) h.1.0).1 in
            let q = (and_parts (nat_lt e n) (has_bit b (e % 64)) h.1.1).1 in
            absurd (both_ways (has_bit (bit_and a b) (e % 64)) (ap (λ (z : ℕ). has_bit z (e % 64)) (tells.1 f (e / 64)) ∙ has_none (e % 64)) (has_and a b (e % 64) ∙ and_from (has_bit a (e % 64)) (has_bit b (e % 64)) p q))
      ],
)

-- ---- as the code has them: the words of a set, lent and given back
-- numbers were added
pub added_in : (limit : ℕ) (more : ℕ → Bool) (old old_held new new_held : List ℕ) → new_held ≡ new → old ≡ old_held → ((x e : ℕ) → contains_bit 1 limit new x e ≡ ((nat_eq x 0 && more e) || contains_bit 1 limit old x e)) → (e : ℕ) → holds_bit limit new_held e ≡ (more e || holds_bit limit old_held e)
added_in limit more old old_held new new_held is_new is_old each e =
    ap (λ (ws : List ℕ). holds_bit limit ws e) is_new
    ∙ sym (one_location limit new e)
    ∙ each 0 e
    ∙ ap (λ (b : Bool). more e || b) (one_location limit old e)
    ∙ ap (λ (ws : List ℕ). more e || holds_bit limit ws e) is_old

pub set_added_in : (limit other_limit : ℕ) (from from_held old old_held new new_held : List ℕ) → other_limit ≡ limit → from ≡ from_held → new_held ≡ new → old ≡ old_held → ((x e : ℕ) → contains_bit 1 limit new x e ≡ ((nat_eq x 0 && holds_bit limit from e) || contains_bit 1 limit old x e)) → (e : ℕ) → holds_bit limit new_held e ≡ (holds_bit other_limit from_held e || holds_bit limit old_held e)
set_added_in limit other_limit from from_held old old_held new new_held same is_from is_new is_old each e =
    added_in limit (holds_bit limit from) old old_held new new_held is_new is_old each e
    ∙ (λ i. holds_bit (sym same i) (is_from i) e || holds_bit limit old_held e)

pub more_in : (limit : ℕ) (old old_held new new_held : List ℕ) (r : Bool) → new_held ≡ new → old ≡ old_held → IsTrue r ↔ HasNew (contains_bit 1 limit old) (contains_bit 1 limit new) → IsTrue r ↔ HasMore (holds_bit limit old_held) (holds_bit limit new_held)
more_in limit old old_held new new_held r is_new is_old tells =
    let more = more_iff limit old new in
    subst (λ (ws : List ℕ). IsTrue r ↔ HasMore (holds_bit limit ws) (holds_bit limit new_held)) is_old
    (subst (λ (ws : List ℕ). IsTrue r ↔ HasMore (holds_bit limit old) (holds_bit limit ws)) (sym is_new) (λ t. more.0 (tells.0 t), λ h. tells.1 (more.1 h)))

-- numbers were taken away
pub record SetCut (limit other_limit : ℕ) (from old new : List ℕ) : Type 0 where
  pub laid_out : IsLaidOut 1 limit new
  pub left : (e : ℕ) → holds_bit limit new e ≡ (holds_bit limit old e && not (holds_bit other_limit from e))

pub cut_in : (limit other_limit : ℕ) (from from_held old old_held new new_held : List ℕ) → other_limit ≡ limit → from ≡ from_held → new_held ≡ new → old ≡ old_held → length new ≡ length old → IsLaidOut 1 limit old_held → AreWords from → IsCut from old new → SetCut limit other_limit from_held old_held new_held
cut_in limit other_limit from from_held old old_held new new_held same is_from is_new is_old long laid words cut =
    let clean : IsClean limit new = clean_cut limit from old new words cut (subst (IsClean limit) (sym is_old) laid.clean) in
    record {
      laid_out = record {
        filled = ap length is_new ∙ long ∙ ap length is_old ∙ laid.filled;
        clean = subst (IsClean limit) (sym is_new) clean;
      };
      left = λ e.
          ap (λ (ws : List ℕ). holds_bit limit ws e) is_new
          ∙ cut_held limit from old new words cut e
          ∙ (λ i. holds_bit limit (is_old i) e && not (holds_bit (sym same i) (is_from i) e));
    }

-- no bit was found
pub none_in : (limit : ℕ) (words words_held : List ℕ) → words ≡ words_held → ((k : ℕ) → slice_index words k ≡ 0) → (e : ℕ) → holds_bit limit words_held e ≡ false
none_in limit words words_held is zeros = none_held limit words_held (λ k. ap (λ (ws : List ℕ). slice_index ws k) (sym is) ∙ zeros k)

-- .. or a word with one
pub some_in : (limit : ℕ) (words words_held : List ℕ) → words ≡ words_held → IsLaidOut 1 limit words_held → (k : ℕ) × ((slice_index words k ≢ 0) × (slice_index words k < 2 ^ 64)) → (e : ℕ) × IsTrue (holds_bit limit words_held e)
some_in limit words words_held is laid some =
    let k = some.0 in
    let here : slice_index words k ≡ slice_index words_held k = ap (λ (ws : List ℕ). slice_index ws k) is in
    let bit = some_bit (slice_index words_held k) (subst (λ (w : ℕ). w < 2 ^ 64) here some.1.1) (λ (h : slice_index words_held k ≡ 0). some.1.0 (here ∙ h)) in
    (k * 64 + bit.0, (bit_held limit k bit.0 words_held laid.clean (word_inside limit k bit.0 words_held laid.filled bit.1.1) bit.1.0 bit.1.1).0)

-- two sets were compared
pub common_in : (limit other_limit : ℕ) (one one_held other other_held : List ℕ) (r : Bool) → other_limit ≡ limit → one ≡ one_held → other ≡ other_held → IsLaidOut 1 limit one_held → IsLaidOut 1 other_limit other_held → AreWords one → TellsCommon one other r → IsTrue r ↔ HasCommon (holds_bit limit one_held) (holds_bit other_limit other_held)
common_in limit other_limit one one_held other other_held r same is_one is_other laid_one laid_other words tells =
    subst (λ (n : ℕ). IsTrue r ↔ HasCommon (holds_bit limit one_held) (holds_bit n other_held)) (sym same)
    (common_iff limit one_held other_held r laid_one (subst (λ (n : ℕ). IsLaidOut 1 n other_held) same laid_other) (subst AreWords is_one words)
    (subst (λ (ws : List ℕ). TellsCommon one_held ws r) is_other (subst (λ (ws : List ℕ). TellsCommon ws other r) is_one tells)))
