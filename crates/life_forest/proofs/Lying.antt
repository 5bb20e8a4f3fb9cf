-- Where the value of a type lies: what its words own is what the value owns.
use Rattle.std.proofs.Common.{◌≡◌, ℕ, zero, suc, ◌+◌, ◌≤◌, ◌<◌, Bool, true, false, cond, List, [], ◌∷◌, length, replicate, Option, Some, refl, sym, ap, subst, ◌∙◌, arith}
use Rattle.std.specs.Prelude.{◌&&◌, ◌||◌, drop, slice_get, slice_index, take}
use Rattle.life_store.specs.Cells.{at}
use Rattle.life_store.specs.Content.{Slot, Object, Content}
use Rattle.life_store.specs.Held.{slots_if, words_if}
use Rattle.life_store.specs.Parts.{Parts, width}
use Rattle.life_store.specs.Places.{Spot, spot_words, wrote_spot}
use Rattle.life_forest.specs.Kinds.{Kinds}
use Rattle.life_store.specs.Kinds.{Kind, Plain, Owner, Pointing, is_owner, is_value, kind_in}
use Rattle.life_forest.specs.Owned.{hit, in_words, in_slots, every, owns, owns_if, times}
use Rattle.life_forest.specs.Forest.{IsForest, Foot, Beneath, part, Touches}
use Rattle.life_forest.specs.Values.{owned_of}
use Rattle.life_forest.proofs.Counting.{times-words_list}
use Rattle.life_forest.proofs.ByParts.{owned_words}
use Rattle.life_forest.proofs.Puts.{IsWord, AreWords, word_of, words_of, counts, counted, in_slots-puts, puts_in}
use Rattle.life_forest.proofs.Words.{forest_wrote, touches_wrote, touches_wrote_beneath}

pub in_words_near : (f g : ℕ → Bool) (xs : List ℕ) (k : ℕ) → ((u : ℕ) → u < length xs → f u ≡ g u) → in_words f xs k ≡ in_words g xs k
in_words_near f g [] k h = refl
in_words_near f g (x ∷ xs) k h =
    let a = ap (λ (b : Bool). cond b (hit x k) 0) (h 0 (omega arith)) in
    let r = in_words_near (λ u. f (suc u)) (λ u. g (suc u)) xs k (λ u lt. h (suc u) (omega arith)) in
    omega arith

counted_is : (f : ℕ → Bool) (w : ℕ) (xs : List ℕ) (k : ℕ) → counted f w xs k ≡ in_words (λ u. f (w + u)) xs k
counted_is f w [] k = refl
counted_is f w (x ∷ xs) k =
    let z : w ≡ w + 0 = omega arith in
    let a = ap (λ (u : ℕ). counts (f u) x k) z in
    let r = counted_is f (w + 1) xs k in
    let n = in_words_near (λ u. f ((w + 1) + u)) (λ u. f (w + suc u)) xs k (λ u lt. ap f (further u)) in
    omega arith
  where
    further : (u : ℕ) → (w + 1) + u ≡ w + suc u
    further u = omega arith

-- words of a value count as what it owns
pub counted_parts : (p : Parts) (f : ℕ → Bool) (w : ℕ) (vs : List ℕ) (k : ℕ) → ((u : ℕ) → u < length vs → f (w + u) ≡ (is_owner (kind_in p u) && true)) → counted f w vs k ≡ times (owned_of p vs) k
counted_parts p f w vs k h =
    counted_is f w vs k
    ∙ in_words_near (λ u. f (w + u)) (λ u. is_owner (kind_in p u) && true) vs k h
    ∙ sym (times-words_list (λ u. is_owner (kind_in p u) && true) vs k)
    ∙ ap (λ (xs : List ℕ). times xs k) (owned_words p vs)

-- ---- words that are read

take_word : (xs : List ℕ) (w n : ℕ) → w < length xs → take (suc n) (drop w xs) ≡ slice_index xs w ∷ take n (drop (suc w) xs)
take_word [] w n lt = absurd (omega arith)
take_word (x ∷ xs) zero n lt = refl
take_word (x ∷ xs) (suc w) n lt = take_word xs w n (omega arith)

word_index : (ss : List Slot) (i w : ℕ) → word_of i w ss ≡ slice_index (words_if (slice_get ss i)) w
word_index [] i w = refl
word_index (s ∷ ss) zero w = refl
word_index (s ∷ ss) (suc i) w = word_index ss i w

is_word_length : (ss : List Slot) (i w : ℕ) → IsWord i w ss → w < length (words_if (slice_get ss i))
is_word_length [] i w has = absurd has
is_word_length (s ∷ ss) zero w has = has
is_word_length (s ∷ ss) (suc i) w has = is_word_length ss i w has

pub read_is : (ss : List Slot) (i w n : ℕ) → AreWords i w n ss → words_of i w n ss ≡ take n (drop w (words_if (slice_get ss i)))
read_is ss i w zero has = refl
read_is ss i w (suc n) has =
    ap (λ (x : ℕ). x ∷ words_of i (w + 1) n ss) (word_index ss i w)
    ∙ ap (λ (xs : List ℕ). slice_index (words_if (slice_get ss i)) w ∷ xs) (read_is ss i (w + 1) n has.1)
    ∙ ap (λ (j : ℕ). slice_index (words_if (slice_get ss i)) w ∷ take n (drop j (words_if (slice_get ss i)))) (next w)
    ∙ sym (take_word (words_if (slice_get ss i)) w n (is_word_length ss i w has.0))
  where
    next : (u : ℕ) → u + 1 ≡ suc u
    next u = omega arith

pub length-words_of : (i w n : ℕ) (ss : List Slot) → length (words_of i w n ss) ≡ n
length-words_of i w zero ss = refl
length-words_of i w (suc n) ss = ap suc (length-words_of i (w + 1) n ss)

counted-zeros : (f : ℕ → Bool) (w n k : ℕ) → counted f w (replicate n 0) k ≡ 0
counted-zeros f w zero k = refl
counted-zeros f w (suc n) k = let h = counted-zeros f (w + 1) n k in let z = none (f w) in omega arith
  where
    none : (b : Bool) → counts b 0 k ≡ 0
    none true = refl
    none false = refl

length_zeros : (n : ℕ) → length {A = ℕ} (replicate n 0) ≡ n
length_zeros zero = refl
length_zeros (suc n) = ap suc (length_zeros n)

-- what stands in some words is among what the slots own
pub counted_among : (f : ℕ → Bool) (ss : List Slot) (i w n k : ℕ) → AreWords i w n ss → counted f w (words_of i w n ss) k ≤ in_slots f ss k
counted_among f ss i w n k are =
    let len = length_zeros n in
    let p = in_slots-puts f (replicate n 0) ss i w k (subst (λ m. AreWords i w m ss) (sym len) are) in
    let z = counted-zeros f w n k in
    let e = ap (λ (m : ℕ). counted f w (words_of i w m ss) k) len in
    omega arith

split_by : (w u : ℕ) → w ≤ u → (v : ℕ) × (w + v ≡ u)
split_by zero u le = (u, omega arith)
split_by (suc w) zero le = absurd (omega arith)
split_by (suc w) (suc u) le = let r = split_by w u (omega arith) in let e = r.1 in (r.0, omega arith)

module _ (kind : Kinds) where
  -- a value of the type lies at the spot
  pub record LiesAt (c : Content) (spot : Spot) (p : Parts) (o : Object) : Type 0 where
    pub there : at c.objects spot.object ≡ Some o
    pub words : AreWords spot.index spot.word (width p) o.slots
    pub kinds : (u : ℕ) → u < width p → kind.word o.ty (spot.word + u) ≡ kind_in p u

  module _ (c : Content) (spot : Spot) (p : Parts) (o : Object) (lies : LiesAt c spot p o) where
    pub spot_words_are : spot_words c spot (width p) ≡ words_of spot.index spot.word (width p) o.slots
    spot_words_are =
        ap (λ (x : Option Object). take (width p) (drop spot.word (words_if (slice_get (slots_if x) spot.index)))) lies.there
        ∙ sym (read_is o.slots spot.index spot.word (width p) lies.words)

    same_test : (vs : List ℕ) → length vs ≡ width p → (u : ℕ) → u < length vs → (is_owner (kind.word o.ty (spot.word + u)) && every (spot.word + u)) ≡ (is_owner (kind_in p u) && true)
    same_test vs e u lt = ap (λ k. is_owner k && true) (lies.kinds u (omega arith))

    pub counted_at : (vs : List ℕ) (k : ℕ) → length vs ≡ width p → counted (λ u. is_owner (kind.word o.ty u) && every u) spot.word vs k ≡ times (owned_of p vs) k
    counted_at vs k e = counted_parts p (λ u. is_owner (kind.word o.ty u) && every u) spot.word vs k (same_test vs e)

    pub counted_old : (k : ℕ) → counted (λ u. is_owner (kind.word o.ty u) && every u) spot.word (words_of spot.index spot.word (width p) o.slots) k ≡ times (owned_of p (spot_words c spot (width p))) k
    counted_old k =
        counted_at (words_of spot.index spot.word (width p) o.slots) k (length-words_of spot.index spot.word (width p) o.slots)
        ∙ ap (λ (xs : List ℕ). times (owned_of p xs) k) (sym spot_words_are)

    module _ (vs : List ℕ) (wide : length vs ≡ width p) where
      are : AreWords spot.index spot.word (length vs) o.slots
      are = subst (λ n. AreWords spot.index spot.word n o.slots) (sym wide) lies.words

      -- a value is written over another: what it owns comes from the hand, and what the other one owned goes there
      pub forest_value : (hand new : ℕ → ℕ) → IsForest kind hand c → ((m : ℕ) (q : Object) → 0 < times (owned_of p vs) m → at c.objects m ≡ Some q → kind.rank q.ty < kind.rank o.ty)
          → ((k : ℕ) → new k + times (owned_of p vs) k ≤ hand k + times (owned_of p (spot_words c spot (width p))) k) → IsForest kind new (wrote_spot spot vs c)
      forest_value hand new forest low less =
          forest_wrote kind c spot.object spot.index spot.word vs o lies.there are hand new forest
          (λ m q own below. let e = counted_at vs m wide in low m q (omega arith) below)
          (λ k. let e = counted_at vs k wide in
          let old = counted_old k in
          let n = ap (λ (j : ℕ). counted (λ u. is_owner (kind.word o.ty u) && every u) spot.word (words_of spot.index spot.word j o.slots) k) wide in
          let l = less k in
          omega arith)

      -- the object owns what the value owns
      pub value_held : (k : ℕ) → times (owned_of p vs) k ≤ owns kind every (record o { slots = puts_in spot.index spot.word vs o.slots }) k
      value_held k =
          let e = in_slots-puts (λ u. is_owner (kind.word o.ty u) && every u) vs o.slots spot.index spot.word k are in
          let a = counted_at vs k wide in
          let b = counted_among (λ u. is_owner (kind.word o.ty u) && every u) o.slots spot.index spot.word (length vs) k are in
          omega arith

      -- .. and no more, beside what it owned
      pub value_more : (k : ℕ) → owns kind every (record o { slots = puts_in spot.index spot.word vs o.slots }) k ≤ owns kind every o k + times (owned_of p vs) k
      value_more k =
          let e = in_slots-puts (λ u. is_owner (kind.word o.ty u) && every u) vs o.slots spot.index spot.word k are in
          let a = counted_at vs k wide in
          omega arith

      -- .. which may be beneath a foot as a whole
      pub touches_beneath : (t : Foot) → Beneath kind c t spot.object → ((k : ℕ) → k < c.births → 0 < times (owned_of p vs) k → Beneath kind c t k) → Touches kind t c (wrote_spot spot vs c)
      touches_beneath t beneath low =
          touches_wrote_beneath kind c spot.object spot.index spot.word vs o lies.there are t beneath
          (λ k lt own. let e = counted_at vs k wide in low k lt (omega arith))

      pub touches_value : (t : Foot) → ((u : ℕ) → u < width p → (is_value (kind_in p u) || t.part spot.object (spot.word + u)) ≡ true) → ((k : ℕ) → k < c.births → 0 < times (owned_of p vs) k → Beneath kind c t k)
          → Touches kind t c (wrote_spot spot vs c)
      touches_value t foot low =
          touches_wrote kind c spot.object spot.index spot.word vs o lies.there are t
          (λ u le lt. in_foot u le lt)
          (λ k lt own. let e = counted_at vs k wide in low k lt (omega arith))
        where
          in_foot : (u : ℕ) → spot.word ≤ u → u < spot.word + length vs → (is_value (kind.word o.ty u) || t.part spot.object u) ≡ true
          in_foot u le lt = go (split_by spot.word u le)
            where
              go : (v : ℕ) × (spot.word + v ≡ u) → (is_value (kind.word o.ty u) || t.part spot.object u) ≡ true
              go r =
                  let e = r.1 in
                  let small : r.0 < width p = omega arith in
                  subst (λ j. (is_value (kind.word o.ty j) || t.part spot.object j) ≡ true) r.1
                  (ap (λ k. is_value k || t.part spot.object (spot.word + r.0)) (lies.kinds r.0 small) ∙ foot r.0 small)

  -- ---- what a spot's words own lies beneath a foot that has them

  -- the foot has all words of the value, but for values
  abbrev pub Covers : Foot → Spot → Parts → Type 0
  Covers t spot p = (u : ℕ) → u < width p → (is_value (kind_in p u) || t.part spot.object (spot.word + u)) ≡ true

  module _ (c : Content) (spot : Spot) (p : Parts) (o : Object) (lies : LiesAt c spot p o) where
    pub value_beneath : (t : Foot) → Covers t spot p → (n : ℕ) → 0 < times (owned_of p (spot_words c spot (width p))) n → Beneath kind c t n
    value_beneath t covers n lt =
        let are = spot_words_are c spot p o lies in
        let e = ap (λ (xs : List ℕ). times (owned_of p xs) n) are in
        let a = counted_parts p (λ u. is_owner (kind.word o.ty u) && t.part spot.object u) spot.word (words_of spot.index spot.word (width p) o.slots) n covered in
        let l = counted_among (λ u. is_owner (kind.word o.ty u) && t.part spot.object u) o.slots spot.index spot.word (width p) n lies.words in
        part spot.object n (subst (λ (x : Option Object). 0 < owns_if kind (t.part spot.object) x n) (sym lies.there) (omega arith))
      where
        owner_or : (k : Kind) (b : Bool) → (is_value k || b) ≡ true → (is_owner k && b) ≡ (is_owner k && true)
        owner_or Plain b e = refl
        owner_or Owner true e = refl
        owner_or Owner false e = e
        owner_or (Pointing i) b e = refl

        covered : (u : ℕ) → u < length (words_of spot.index spot.word (width p) o.slots) → (is_owner (kind.word o.ty (spot.word + u)) && t.part spot.object (spot.word + u)) ≡ (is_owner (kind_in p u) && true)
        covered u lt =
            let n = length-words_of spot.index spot.word (width p) o.slots in
            let small : u < width p = omega arith in
            ap (λ k. is_owner k && t.part spot.object (spot.word + u)) (lies.kinds u small)
            ∙ owner_or (kind_in p u) (t.part spot.object (spot.word + u)) (covers u small)

    -- .. and the value is read as it lies, in another content that has the object
    pub spot_words_in : (d : Content) → at d.objects spot.object ≡ Some o → spot_words d spot (width p) ≡ spot_words c spot (width p)
    spot_words_in d there = ap (λ (x : Option Object). take (width p) (drop spot.word (words_if (slice_get (slots_if x) spot.index)))) (there ∙ sym lies.there)

    pub lies_in : (d : Content) → at d.objects spot.object ≡ Some o → LiesAt d spot p o
    lies_in d there = record { there = there; words = lies.words; kinds = lies.kinds }
