-- The words of one location of a row of bits, read and joined.
use Rattle.std.proofs.Common.{◌≡◌, ℕ, ◌+◌, ◌-◌, ◌*◌, ◌/◌, ◌%◌, ◌^◌, ◌<◌, ◌≤◌, refl, ap, sym, ◌∙◌, inl, inr, ◌↔◌, Bool, true, false, ◌&&◌, ◌||◌, arith, subst, nat_lt, nat_eq, List, ◌++◌, length, take, drop, replicate, IsTrue, bit_or, slice_index, eq-eqb}
use Rattle.std.specs.Prelude.{slice_range}
use Rattle.std.specs.Int.Bits.{or_zero_l}
use Rattle.std.proofs.lemmas.Bool.{lt-ltb, le-ltb, ne_eqb, cases_lt, cases_order, and_left, and_right, both_ways}
use Rattle.std.proofs.lemmas.List.{get_or_past, get_or_append_left, get_or-append_right, get_or-replicate, get_or-take, get_or-drop, length-replicate, length-take-le, length-append, length-drop}
use Rattle.std.proofs.lemmas.List.Edits.{get_or-between, length-between}
use Rattle.std.proofs.lemmas.Nat.{row_fits, mod-mul-add}
use Rattle.life_sets.specs.Pairs.{HasNew, pairs_from}
use Rattle.life_sets.specs.BitSets.{words_for, has_bit, bit_of, contains_bit, IsClean, IsFilled, IsLaidOut, IsJoined, TellsGain, AreWords}
use Rattle.life_sets.specs.NumberSets.{holds_bit}
use Rattle.life_sets.proofs.Bits.{has_none}
use Rattle.life_sets.proofs.BitSetLemmas.{below_width, own_number}
use Rattle.life_sets.proofs.BitJoin.{joined_bits, clean_joined, gained_iff}

-- a location's words are words of the row
pub location_fits : (m n l : ℕ) (ws : List ℕ) → IsFilled m n ws → l < m → l * words_for n + words_for n ≤ length ws
location_fits m n l ws filled hl = subst (λ (z : ℕ). l * words_for n + words_for n ≤ z) (sym filled) (row_fits l (words_for n) m (words_for n) hl (omega arith))

-- equal where it counts
where_below : (e n : ℕ) (p q : Bool) → (e < n → p ≡ q) → (nat_lt e n && p) ≡ (nat_lt e n && q)
where_below e n p q same =
    elim (cases_lt e n) [
      | inl lt ↦ ap (λ (b : Bool). nat_lt e n && b) (same lt)
      | inr ge ↦ and_left (nat_lt e n) p (le-ltb e n ge) ∙ sym (and_left (nat_lt e n) q (le-ltb e n ge))
    ]

-- ---- read
-- the words of a location
abbrev pub words_of : ℕ → ℕ → List ℕ → List ℕ
words_of n l ws = slice_range ws (l * words_for n) (l * words_for n + words_for n)

words_of_is : (n l k : ℕ) (ws : List ℕ) → k < words_for n → slice_index (words_of n l ws) k ≡ slice_index ws (l * words_for n + k)
words_of_is n l k ws lt = get_or-between ws (l * words_for n) (l * words_for n + words_for n) k 0 (omega (arith, lt))

length_of : (m n l : ℕ) (ws : List ℕ) → IsFilled m n ws → l < m → length (words_of n l ws) ≡ words_for n
length_of m n l ws filled hl = length-between ws (l * words_for n) (l * words_for n + words_for n) (location_fits m n l ws filled hl) ∙ omega arith

pub location_laid_out : (m n l : ℕ) (ws : List ℕ) → IsLaidOut m n ws → l < m → IsLaidOut 1 n (words_of n l ws)
location_laid_out m n l ws laid hl = record {
  filled = length_of m n l ws laid.filled hl ∙ omega arith;
  clean = λ k b small set.
      elim (cases_lt k (words_for n)) [
        | inl lt ↦
            let same : (l * words_for n + k) % words_for n ≡ k % words_for n = mod-mul-add l (words_for n) k lt ∙ sym (own_number (words_for n) k lt) in
            subst (λ (z : ℕ). z * 64 + b < n) same (laid.clean (l * words_for n + k) b small (sym (ap (λ (z : ℕ). has_bit z b) (words_of_is n l k ws lt)) ∙ set))
        | inr ge ↦
            let none = get_or_past (words_of n l ws) k 0 (omega (arith, ge, length_of m n l ws laid.filled hl)) in
            absurd (both_ways (has_bit (slice_index (words_of n l ws) k) b) (ap (λ (z : ℕ). has_bit z b) none ∙ has_none b) set)
      ];
}

pub location_holds : (m n l : ℕ) (ws : List ℕ) → l < m → (e : ℕ) → holds_bit n (words_of n l ws) e ≡ contains_bit m n ws l e
location_holds m n l ws hl e =
    where_below e n (has_bit (slice_index (words_of n l ws) (e / 64)) (e % 64)) (bit_of n ws l e) (λ lt. ap (λ (z : ℕ). has_bit z (e % 64)) (words_of_is n l (e / 64) ws (below_width n e lt)))
    ∙ sym (ap (λ (b : Bool). b && (nat_lt e n && bit_of n ws l e)) (lt-ltb l m hl))

-- ---- a set's words at their place in a row: no bits before them
abbrev pub moved : ℕ → List ℕ → List ℕ
moved start from = replicate start 0 ++ from

moved_before : (s k : ℕ) (from : List ℕ) → k < s → ◌≡◌ {A = ℕ} (slice_index (moved s from) k) 0
moved_before s k from lt = get_or_append_left (replicate s 0) from 0 k (subst (λ (z : ℕ). k < z) (sym (length-replicate s 0)) lt) ∙ get_or-replicate s k 0 0 lt

moved_from : (s k : ℕ) (from : List ℕ) → s ≤ k → slice_index (moved s from) k ≡ slice_index from (k - s)
moved_from s k from ge = get_or-append_right (replicate s 0) from s k 0 (length-replicate s 0) ge

-- the row that has the set's numbers at the location
pub moved_pairs : (m n l : ℕ) (from : List ℕ) → IsFilled 1 n from → l < m → (x e : ℕ) → contains_bit m n (moved (l * words_for n) from) x e ≡ (nat_eq x l && holds_bit n from e)
moved_pairs m n l from filled hl x e =
    let w = words_for n in
    let s = l * w in
    let bit = has_bit (slice_index from (e / 64)) (e % 64) in
    elim (cases_order x l) [
      | inl same ↦
          let here : (nat_lt e n && bit_of n (moved s from) l e) ≡ holds_bit n from e =
          where_below e n (bit_of n (moved s from) l e) bit (λ lt. ap (λ (z : ℕ). has_bit z (e % 64)) (moved_from s (s + e / 64) from (omega arith) ∙ ap (slice_index from) (omega arith))) in
          ap (λ (z : ℕ). contains_bit m n (moved s from) z e) same
          ∙ ap (λ (b : Bool). b && (nat_lt e n && bit_of n (moved s from) l e)) (lt-ltb l m hl)
          ∙ here
          ∙ sym (ap (λ (b : Bool). b && holds_bit n from e) (eq-eqb x l same))
      | inr other ↦
          let none : (e < n → ◌≡◌ {A = ℕ} (slice_index (moved s from) (x * w + e / 64)) 0) = λ lt.
          elim other [
            | inl before ↦ moved_before s (x * w + e / 64) from (earlier w x (e / 64) l before (below_width n e lt))
            | inr behind ↦
                let late : s + w ≤ x * w + e / 64 = later w x (e / 64) l behind in
                moved_from s (x * w + e / 64) from (omega (arith, late)) ∙ get_or_past from (x * w + e / 64 - s) 0 (omega (arith, late, filled))
          ] in
          let empty : (nat_lt e n && bit_of n (moved s from) x e) ≡ false =
          where_below e n (bit_of n (moved s from) x e) false (λ lt. ap (λ (z : ℕ). has_bit z (e % 64)) (none lt) ∙ has_none (e % 64)) ∙ and_right (nat_lt e n) false refl in
          and_right (nat_lt x m) (nat_lt e n && bit_of n (moved s from) x e) empty
          ∙ sym (ap (λ (b : Bool). b && holds_bit n from e) (ne_eqb x l (λ (same : x ≡ l). elim other [ inl before ↦ absurd (omega (arith, before, same)) | inr behind ↦ absurd (omega (arith, behind, same)) ])))
    ]
  where
    earlier : (w x k l : ℕ) → x < l → k < w → x * w + k < l * w
    earlier w x k l lt small = omega (arith, small, row_fits x w l w lt (omega arith))

    later : (w x k l : ℕ) → l < x → l * w + w ≤ x * w + k
    later w x k l lt = omega (arith, row_fits l w x w lt (omega arith))

moved_clean : (n l : ℕ) (from : List ℕ) → IsLaidOut 1 n from → IsClean n (moved (l * words_for n) from)
moved_clean n l from laid k b small set =
    let w = words_for n in
    let s = l * w in
    elim (cases_lt k s) [
      | inl lt ↦ absurd (both_ways (has_bit (slice_index (moved s from) k) b) (ap (λ (z : ℕ). has_bit z b) (moved_before s k from lt) ∙ has_none b) set)
      | inr ge ↦
          let there : has_bit (slice_index from (k - s)) b ≡ true = sym (ap (λ (z : ℕ). has_bit z b) (moved_from s k from ge)) ∙ set in
          elim (cases_lt (k - s) w) [
            | inl lt ↦
                let sum : s + (k - s) ≡ k = omega (arith, ge) in
                let same : (k - s) % w ≡ k % w = own_number w (k - s) lt ∙ sym (mod-mul-add l w (k - s) lt) ∙ ap (λ (z : ℕ). z % w) sum in
                subst (λ (z : ℕ). z * 64 + b < n) same (laid.clean (k - s) b small there)
            | inr past ↦ absurd (both_ways (has_bit (slice_index from (k - s)) b) (ap (λ (z : ℕ). has_bit z b) (get_or_past from (k - s) 0 (omega (arith, past, laid.filled))) ∙ has_none b) there)
          ]
    ]

moved_words : (s : ℕ) (from : List ℕ) → AreWords from → AreWords (moved s from)
moved_words s from words k =
    elim (cases_lt k s) [
      | inl lt ↦ subst (λ (z : ℕ). z < 2 ^ 64) (sym (moved_before s k from lt)) (omega arith)
      | inr ge ↦ subst (λ (z : ℕ). z < 2 ^ 64) (sym (moved_from s k from ge)) (words (k - s))
    ]

-- ---- joined
-- a row in which w words from s on were replaced
abbrev pub replaced : (s w : ℕ) (old part : List ℕ) → List ℕ
replaced s w old part = take s old ++ (part ++ drop w (drop s old))

replaced_before : (s w : ℕ) (old part : List ℕ) (k : ℕ) → s ≤ length old → k < s → slice_index (replaced s w old part) k ≡ slice_index old k
replaced_before s w old part k fits lt =
    get_or_append_left (take s old) (part ++ drop w (drop s old)) 0 k (subst (λ (z : ℕ). k < z) (sym (length-take-le s old fits)) lt) ∙ get_or-take s old k 0 lt

replaced_from : (s w : ℕ) (old part : List ℕ) (k : ℕ) → s ≤ length old → s ≤ k → slice_index (replaced s w old part) k ≡ slice_index (part ++ drop w (drop s old)) (k - s)
replaced_from s w old part k fits ge = get_or-append_right (take s old) (part ++ drop w (drop s old)) s k 0 (length-take-le s old fits) ge

replaced_behind : (s w : ℕ) (old part : List ℕ) (k : ℕ) → s ≤ length old → length part ≡ w → s + w ≤ k → slice_index (replaced s w old part) k ≡ slice_index old k
replaced_behind s w old part k fits long ge =
    replaced_from s w old part k fits (omega (arith, ge))
    ∙ get_or-append_right part (drop w (drop s old)) w (k - s) 0 long (omega (arith, ge))
    ∙ get_or-drop w (drop s old) (k - s - w) 0
    ∙ get_or-drop s old (w + (k - s - w)) 0
    ∙ ap (slice_index old) (omega (arith, ge))

-- the words of a part as those of the whole
part_is : (s w k : ℕ) (old : List ℕ) → k < w → slice_index (slice_range old s (s + w)) k ≡ slice_index old (s + k)
part_is s w k old lt = get_or-between old s (s + w) k 0 (omega (arith, lt))

-- what was joined to the part was joined to the whole, in its place
moved_joined : (s w : ℕ) (from old part : List ℕ) → s + w ≤ length old → length from ≡ w → length part ≡ w → IsJoined from (slice_range old s (s + w)) part → IsJoined (moved s from) old (replaced s w old part)
moved_joined s w from old part fits long_from long_part joined k =
    elim (cases_lt k s) [
      | inl lt ↦ replaced_before s w old part k (omega (arith, fits)) lt ∙ sym (or_zero_l (slice_index old k)) ∙ ap (λ (z : ℕ). bit_or z (slice_index old k)) (sym (moved_before s k from lt))
      | inr ge ↦ elim (cases_lt (k - s) w) [
        | inl lt ↦
            let sum : s + (k - s) ≡ k = omega (arith, ge) in
            replaced_from s w old part k (omega (arith, fits)) ge
            ∙ get_or_append_left part (drop w (drop s old)) 0 (k - s) (omega (arith, lt, long_part))
            ∙ joined (k - s)
            ∙ (λ i. bit_or (sym (moved_from s k from ge) i) ((part_is s w (k - s) old lt ∙ ap (slice_index old) sum) i))
        | inr past ↦
            let none = moved_from s k from ge ∙ get_or_past from (k - s) 0 (omega (arith, past, long_from)) in
            replaced_behind s w old part k (omega (arith, fits)) long_part (omega (arith, ge, past)) ∙ sym (or_zero_l (slice_index old k)) ∙ ap (λ (z : ℕ). bit_or z (slice_index old k)) (sym none)
      ]
    ]

-- .. and gained a bit where the part did
moved_tells : (s w : ℕ) (from old : List ℕ) (r : Bool) → length from ≡ w → TellsGain from (slice_range old s (s + w)) r → TellsGain (moved s from) old r
moved_tells s w from old r long tells = (
  λ t.
      let g = tells.0 t in
      let k = g.0 in
      elim (cases_lt k w) [
        | inl lt ↦ (s + k, λ (h : bit_or (slice_index (moved s from) (s + k)) (slice_index old (s + k)) ≡ slice_index old (s + k)). g.1 ((λ i. bit_or (sym (shifted k) i) (part_is s w k old lt i)) ∙ h ∙ sym (part_is s w k old lt)))
        | inr past ↦ absurd (g.1 (ap (λ (z : ℕ). bit_or z (slice_index (slice_range old s (s + w)) k)) (get_or_past from k 0 (omega (arith, past, long))) ∙ or_zero_l (slice_index (slice_range old s (s + w)) k)))
      ],
  λ f k.
      elim (cases_lt k s) [
        | inl lt ↦ ap (λ (z : ℕ). bit_or z (slice_index old k)) (moved_before s k from lt) ∙ or_zero_l (slice_index old k)
        | inr ge ↦ elim (cases_lt (k - s) w) [
          | inl lt ↦
              let sum : s + (k - s) ≡ k = omega (arith, ge) in
              let at = part_is s w (k - s) old lt ∙ ap (slice_index old) sum in
              (λ i. bit_or (moved_from s k from ge i) (sym at i)) ∙ tells.1 f (k - s) ∙ at
          | inr past ↦ ap (λ (z : ℕ). bit_or z (slice_index old k)) (moved_from s k from ge ∙ get_or_past from (k - s) 0 (omega (arith, past, long))) ∙ or_zero_l (slice_index old k)
        ]
      ],
)
  where
    shifted : (k : ℕ) → slice_index (moved s from) (s + k) ≡ slice_index from k
    shifted k = moved_from s (s + k) from (omega arith) ∙ ap (slice_index from) (omega arith)

-- what a row is to which a set was joined at a location
pub record LocationJoin (m n l : ℕ) (from old new : List ℕ) (gained : Bool) : Type 0 where
  pub laid_out : IsLaidOut m n new
  pub joined : (x e : ℕ) → contains_bit m n new x e ≡ ((nat_eq x l && holds_bit n from e) || contains_bit m n old x e)
  pub tells : IsTrue gained ↔ HasNew (contains_bit m n old) (contains_bit m n new)

length_replaced : (s w : ℕ) (old part : List ℕ) → s + w ≤ length old → length part ≡ w → length (replaced s w old part) ≡ length old
length_replaced s w old part fits long =
    let rest = drop w (drop s old) in
    omega (arith, length-append (take s old) (part ++ rest), length-append part rest, length-take-le s old (omega (arith, fits)), length-drop w (drop s old), length-drop s old, long, fits)

pub joined_location : (m n l : ℕ) (from old part new : List ℕ) (r : Bool) → new ≡ replaced (l * words_for n) (words_for n) old part → length part ≡ words_for n → IsLaidOut 1 n from → IsLaidOut m n old → l < m → AreWords from → AreWords old → IsJoined from (words_of n l old) part → TellsGain from (words_of n l old) r → LocationJoin m n l from old new r
joined_location m n l from old part new r is long laid_from laid_old hl words_from words_old part_joined part_tells =
    let w = words_for n in
    let s = l * w in
    let fits = location_fits m n l old laid_old.filled hl in
    let long_from : length from ≡ w = laid_from.filled ∙ omega arith in
    let each : IsJoined (moved s from) old new = λ k. ap (λ (ws : List ℕ). slice_index ws k) is ∙ moved_joined s w from old part fits long_from long part_joined k in
    let full : IsFilled m n new = ap length is ∙ length_replaced s w old part fits long ∙ laid_old.filled in
    let tidy : IsClean n new = clean_joined n (moved s from) old new (moved_clean n l from laid_from) laid_old.clean each in
    record {
      laid_out = record { filled = full; clean = tidy };
      joined = λ x e. joined_bits m n (moved s from) old new each x e ∙ ap (λ (b : Bool). b || contains_bit m n old x e) (moved_pairs m n l from laid_from.filled hl x e);
      tells = gained_iff m n (moved s from) old new r full tidy each (moved_words s from words_from) words_old (moved_tells s w from old r long_from part_tells);
    }

-- .. as the code has it, with the width under another name
pub joined_at_width : (m n l w : ℕ) (from old part new : List ℕ) (r : Bool) → w ≡ words_for n → new ≡ replaced (l * w) (l * w + w - l * w) old part → length part ≡ length (slice_range old (l * w) (l * w + w)) → IsLaidOut 1 n from → IsLaidOut m n old → l < m → AreWords from → AreWords old → IsJoined from (slice_range old (l * w) (l * w + w)) part → TellsGain from (slice_range old (l * w) (l * w + w)) r → LocationJoin m n l from old new r
joined_at_width m n l w from old part new r wide is long laid_from laid_old hl words_from words_old part_joined part_tells =
    let own : l * w + w - l * w ≡ words_for n = omega (arith, wide) in
    joined_location m n l from old part new r (is ∙ (λ i. replaced (l * wide i) (own i) old part)) (long ∙ (λ i. length (slice_range old (l * wide i) (l * wide i + wide i))) ∙ length_of m n l old laid_old.filled hl) laid_from laid_old hl words_from words_old
    (subst (λ (z : ℕ). IsJoined from (slice_range old (l * z) (l * z + z)) part) wide part_joined)
    (subst (λ (z : ℕ). TellsGain from (slice_range old (l * z) (l * z + z)) r) wide part_tells)

pub laid_out_at_width : (m n l w : ℕ) (ws : List ℕ) → w ≡ words_for n → IsLaidOut m n ws → l < m → IsLaidOut 1 n (slice_range ws (l * w) (l * w + w))
laid_out_at_width m n l w ws wide laid hl = subst (λ (z : ℕ). IsLaidOut 1 n (slice_range ws (l * z) (l * z + z))) (sym wide) (location_laid_out m n l ws laid hl)

-- the words of a location of one row were joined into those of another: in the names that the code has for them
pub joined_from : (locations elements other_locations other_elements l : ℕ) (from other other_held old old_held new new_held : List ℕ) → other_elements ≡ elements → other ≡ other_held → old ≡ old_held → new_held ≡ new
    → ((e : ℕ) → holds_bit other_elements from e ≡ contains_bit other_locations other_elements other l e) → ((x e : ℕ) → contains_bit locations elements new x e ≡ ((nat_eq x l && holds_bit elements from e) || contains_bit locations elements old x e))
    → (x e : ℕ) → contains_bit locations elements new_held x e ≡ (pairs_from (contains_bit other_locations other_elements other_held) l x e || contains_bit locations elements old_held x e)
joined_from locations elements other_locations other_elements l from other other_held old old_held new new_held same is_other is_old is_new each joined x e =
    ap (λ (ws : List ℕ). contains_bit locations elements ws x e) is_new
    ∙ joined x e
    ∙ (λ i. (nat_eq x l && holds_bit (sym same i) from e) || contains_bit locations elements (is_old i) x e)
    ∙ ap (λ (b : Bool). (nat_eq x l && b) || contains_bit locations elements old_held x e) (each e ∙ ap (λ (ws : List ℕ). contains_bit other_locations other_elements ws l e) is_other)
