-- The words of all slots of an object are written, from the first slot on.
use Rattle.std.proofs.Common.{◌≡◌, ◌≢◌, ℕ, zero, suc, ◌+◌, ◌≤◌, ◌<◌, Bool, true, List, [], ◌∷◌, ◌++◌, length, map, take, Option, Some, refl, sym, ap, subst, ◌∙◌, arith}
use Rattle.std.specs.Prelude.{◌&&◌}
use Rattle.life_store.specs.Cells.{at, at-set_same, at-set_other}
use Rattle.life_store.specs.Content.{Slot, Object, Content, with_object}
use Rattle.life_store.specs.Edits.{words_in}
use Rattle.life_store.specs.Held.{filled, filled_if, filled_slots}
use Rattle.life_store.specs.Parts.{Parts}
use Rattle.life_forest.specs.Kinds.{Kinds}
use Rattle.life_store.specs.Kinds.{is_owner, kind_in}
use Rattle.life_forest.specs.Owned.{in_words, in_slots, every, times, owns}
use Rattle.life_forest.specs.Forest.{AllSince, IsForest}
use Rattle.life_forest.specs.Values.{owned_of, owned_rows}
use Rattle.life_forest.proofs.ByParts.{owned_words}
use Rattle.life_forest.proofs.Counting.{times-append, times-words_list}
use Rattle.life_forest.proofs.Lying.{in_words_near}
use Rattle.life_forest.proofs.Single.{fits_there, forest_with}

-- ---- counts

abbrev pub in_rows : (ℕ → Bool) → List (List ℕ) → ℕ → ℕ
in_rows f [] k = 0
in_rows f (v ∷ vs) k = in_words f v k + in_rows f vs k

pub in_slots-filled : (f : ℕ → Bool) (ss : List Slot) (vs : List (List ℕ)) (k : ℕ) → in_slots f (filled_slots ss vs) k ≤ in_rows f vs k + in_slots f ss k
in_slots-filled f [] vs k = omega arith
in_slots-filled f (s ∷ ss) [] k = omega arith
in_slots-filled f (s ∷ ss) (v ∷ vs) k = let h = in_slots-filled f ss vs k in omega arith

-- .. of which so many slots are kept
pub in_slots-kept : (f : ℕ → Bool) (n : ℕ) (ss : List Slot) (vs : List (List ℕ)) (k : ℕ) → n ≤ length vs → in_slots f (take n (filled_slots ss vs)) k ≤ in_rows f vs k
in_slots-kept f zero ss vs k le = omega arith
in_slots-kept f (suc n) [] vs k le = omega arith
in_slots-kept f (suc n) (s ∷ ss) [] k le = absurd (omega arith)
in_slots-kept f (suc n) (s ∷ ss) (v ∷ vs) k le = let h = in_slots-kept f n ss vs k (omega arith) in omega arith

pub in_rows-append : (f : ℕ → Bool) (us vs : List (List ℕ)) (k : ℕ) → in_rows f (us ++ vs) k ≡ in_rows f us k + in_rows f vs k
in_rows-append f [] vs k = omega arith
in_rows-append f (u ∷ us) vs k = let h = in_rows-append f us vs k in omega arith

-- the words of slots, as rows
pub in_rows-slots : (f : ℕ → Bool) (ss : List Slot) (k : ℕ) → in_rows f (map words_in ss) k ≡ in_slots f ss k
in_rows-slots f [] k = refl
in_rows-slots f (s ∷ ss) k = let h = in_rows-slots f ss k in omega arith

pub rows_owned : (p : Parts) (f : ℕ → Bool) (vs : List (List ℕ)) (k : ℕ) → ((u : ℕ) → f u ≡ (is_owner (kind_in p u) && true)) → in_rows f vs k ≡ times (owned_rows p vs) k
rows_owned p f [] k h = refl
rows_owned p f (v ∷ vs) k h =
    let a = in_words_near f (λ u. is_owner (kind_in p u) && true) v k (λ u lt. h u) in
    let b = times-words_list (λ u. is_owner (kind_in p u) && true) v k in
    let c = ap (λ (xs : List ℕ). times xs k) (owned_words p v) in
    let d = times-append (owned_of p v) (owned_rows p vs) k in
    let e = rows_owned p f vs k h in
    omega arith

pub since-filled : (t : ℕ) (ss : List Slot) (vs : List (List ℕ)) → AllSince t ss → AllSince t (filled_slots ss vs)
since-filled t [] vs h = tt
since-filled t (s ∷ ss) [] h = h
since-filled t (s ∷ ss) (v ∷ vs) h = (h.0, since-filled t ss vs h.1)

-- ---- an object whose slots own nothing is filled

module _ (c : Content) (n : ℕ) (o : Object) (vs : List (List ℕ)) (there : at c.objects n ≡ Some o) where
  abbrev pub full : Object
  full = record o { slots = filled_slots o.slots vs }

  pub filled_is : filled n vs c ≡ with_object n full c
  filled_is = ap (λ (x : Option Object). filled_if x n vs c) there

  pub filled_there : at (filled n vs c).objects n ≡ Some full
  filled_there = ap (λ (x : Content). at x.objects n) filled_is ∙ at-set_same c.objects n n full refl

  pub filled_other : (k : ℕ) → n ≢ k → at (filled n vs c).objects k ≡ at c.objects k
  filled_other k ne = ap (λ (x : Content). at x.objects k) filled_is ∙ at-set_other c.objects n k full ne

  pub filled_births : (filled n vs c).births ≡ c.births
  filled_births = ap (λ (x : Content). x.births) filled_is

  pub filled_clock : (filled n vs c).clock ≡ c.clock
  filled_clock = ap (λ (x : Content). x.clock) filled_is

  module _ (kind : Kinds) (p : Parts) (kinds : (u : ℕ) → kind.word o.ty u ≡ kind_in p u) (blank : (f : ℕ → Bool) (k : ℕ) → in_slots f o.slots k ≡ 0) where
    pub filled_owns : (k : ℕ) → owns kind every (record o { slots = filled_slots o.slots vs }) k ≤ times (owned_rows p vs) k
    filled_owns k =
        let a = in_slots-filled (λ u. is_owner (kind.word o.ty u) && every u) o.slots vs k in
        let b = rows_owned p (λ u. is_owner (kind.word o.ty u) && every u) vs k (λ u. ap (λ x. is_owner x && true) (kinds u)) in
        let z = blank (λ u. is_owner (kind.word o.ty u) && every u) k in
        omega arith

    pub filled_forest : (hand : ℕ → ℕ) → IsForest kind (λ k. times (owned_rows p vs) k + hand k) c
        → ((m : ℕ) (q : Object) → 0 < times (owned_rows p vs) m → at c.objects m ≡ Some q → kind.rank q.ty < kind.rank o.ty) → IsForest kind hand (filled n vs c)
    filled_forest hand forest low =
        let was = fits_there kind (λ k. times (owned_rows p vs) k + hand k) c n o forest there in
        subst (IsForest kind hand) (sym filled_is)
        (forest_with kind (λ k. times (owned_rows p vs) k + hand k) hand c n o full forest there refl
        (record { lower = λ m q own below. let l = filled_owns m in low m q (omega arith) below; slots = since-filled c.clock o.slots vs was.slots; end = was.end })
        (λ k. let l = filled_owns k in omega arith))
