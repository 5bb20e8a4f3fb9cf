-- Pointers in a store: what their words are seen as, and their rows where one is written.
use Rattle.std.proofs.Common.{◌≡◌, ◌≢◌, ℕ, zero, suc, ◌+◌, ◌*◌, ◌/◌, ◌%◌, ◌^◌, ◌≤◌, ◌<◌, List, [], ◌∷◌, length, Option, Some, None, refl, sym, ap, subst, ◌∙◌, arith}
use Rattle.std.proofs.lemmas.List.{length-set}
use Rattle.std.specs.Prelude.{slice_get, slice_index, slice_set, option_map}
use Rattle.life_store.specs.Content.{Slot, Object, Content, set_slot, with_word, written}
use Rattle.life_store.specs.Held.{owner_word, pointer_words, with_words}
use Rattle.life_store.specs.References.{Rows}
use Rattle.life_store.specs.State.{Pointer, Null, Wild, To, Static}
use Rattle.life_store.proofs.MapLemmas.{one_or_apart}
use Rattle.life_seen.specs.Housed.{WordLives, WordsLive, IsRef}
use Rattle.life_seen.specs.Kinds.{AreWhole}
use Rattle.life_store.specs.Kinds.{Kind, Pointing}
use Rattle.life_seen.specs.Named.{Names}
use Rattle.life_seen.specs.Rowed.{stored_words, IsReadable, IsStorable, WordsRowed, SlotsRowed}
use Rattle.life_seen.specs.Seen.{word_seen, words_seen}
use Rattle.life_seen.proofs.Rowed.{index_other, readable_as}
use Rattle.life_seen.proofs.Views.{live_alike}

-- ---- what is seen

-- where in its slot begins what is pointed to is a number of 32 bits
abbrev pub IsNear : Pointer → Type 0
IsNear Null = Unit {0}
IsNear Wild = Unit {0}
IsNear (To t) = t.word < 2 ^ 32
IsNear (Static c) = Unit {0}

below_row : (word row : ℕ) → word < 2 ^ 32 → (word + row * 2 ^ 32) % 2 ^ 32 ≡ word
below_row word row lt = omega arith

pub above_word : (word row : ℕ) → word < 2 ^ 32 → (word + row * 2 ^ 32) / 2 ^ 32 ≡ row
above_word word row lt = omega arith

pub stored_seen : (names : Names) (row : ℕ) (p : Pointer) → IsNear p → words_seen names Pointing (stored_words row p) ≡ pointer_words p
stored_seen names row Null near = refl
stored_seen names row Wild near = refl
stored_seen names row (To t) near = ap (λ (w : ℕ). suc (suc t.object) ∷ t.index ∷ t.count ∷ w ∷ suc t.moment ∷ []) (below_row t.word row near)
stored_seen names row (Static c) near = refl

stored_length : (row : ℕ) (p : Pointer) → length (stored_words row p) ≡ 5
stored_length row Null = refl
stored_length row Wild = refl
stored_length row (To t) = refl
stored_length row (Static s) = refl

alike_within : (names : Names) (f g : ℕ → Kind) (ws : List ℕ) → ((u : ℕ) → u < length ws → f u ≡ g u) → words_seen names f ws ≡ words_seen names g ws
alike_within names f g [] h = refl
alike_within names f g (w ∷ ws) h = (λ i. word_seen names (h 0 (omega arith) i) w ∷ alike_within names (λ u. f (suc u)) (λ u. g (suc u)) ws (λ u lt. h (suc u) (omega (arith, lt))) i)

-- where they begin in a value
pub point_seen : (names : Names) (f : ℕ → Kind) → AreWhole f → (u row : ℕ) (p : Pointer) → f u ≡ Pointing 0 → IsNear p → words_seen names (λ v. f (u + v)) (stored_words row p) ≡ pointer_words p
point_seen names f whole u row p begins near =
    alike_within names (λ v. f (u + v)) Pointing (stored_words row p) (λ v lt. whole u v (let l = stored_length row p in omega (arith, l, lt)) begins) ∙ stored_seen names row p near

pub point_lives : (names : Names) (f : ℕ → Kind) → AreWhole f → (u row : ℕ) (p : Pointer) → f u ≡ Pointing 0 → WordsLive names (λ v. f (u + v)) (stored_words row p)
point_lives names f whole u row p begins =
    live_alike names (λ v. f (u + (0 + v))) (λ v. f (u + v)) (stored_words row p) (λ v. ap f (omega arith)) (go (stored_words row p) 0 (let l = stored_length row p in omega (arith, l)))
  where
    go : (ws : List ℕ) (k : ℕ) → k + length ws ≡ 5 → WordsLive names (λ v. f (u + (k + v))) ws
    go [] k e = tt
    go (w ∷ ws) k e =
        let z : u + (k + 0) ≡ u + k = omega arith in
        let s : f (u + (k + 0)) ≡ Pointing k = ap f z ∙ whole u k (omega (arith, e)) begins in
        (subst (λ x. WordLives names x w) (sym s) tt, live_alike names (λ v. f (u + (k + 1 + v))) (λ v. f (u + (k + suc v))) ws (λ v. ap f (omega arith)) (go ws (k + 1) (omega (arith, e))))

-- ---- words one behind the other are written

abbrev pub puts : List ℕ → ℕ → List ℕ → List ℕ
puts ws u [] = ws
puts ws u (v ∷ vs) = puts (slice_set ws u v) (u + 1) vs

set_here : (ws : List ℕ) (u v : ℕ) → u < length ws → slice_index (slice_set ws u v) u ≡ v
set_here [] u v lt = absurd (omega arith)
set_here (w ∷ ws) zero v lt = refl
set_here (w ∷ ws) (suc u) v lt = set_here ws u v (omega arith)

puts_other : (vs ws : List ℕ) (u v : ℕ) → ((j : ℕ) → j < length vs → v ≢ u + j) → slice_index (puts ws u vs) v ≡ slice_index ws v
puts_other [] ws u v apart = refl
puts_other (x ∷ xs) ws u v apart =
    puts_other xs (slice_set ws u x) (u + 1) v (λ j lt e. apart (suc j) (omega arith) (omega (arith, e)))
    ∙ index_other ws u v x (λ e. apart 0 (omega arith) (omega (arith, e)))

puts_here : (vs ws : List ℕ) (u j : ℕ) → u + length vs ≤ length ws → j < length vs → slice_index (puts ws u vs) (u + j) ≡ slice_index vs j
puts_here [] ws u j le lt = absurd (omega arith)
puts_here (x ∷ xs) ws u zero le lt =
    let z : u + 0 ≡ u = omega arith in
    puts_other xs (slice_set ws u x) (u + 1) (u + 0) (λ j l e. omega (arith, e)) ∙ ap (slice_index (slice_set ws u x)) z ∙ set_here ws u x (omega arith)
puts_here (x ∷ xs) ws u (suc j) le lt =
    let z : u + suc j ≡ u + 1 + j = omega arith in
    let l = length-set ws u x in
    ap (slice_index (puts (slice_set ws u x) (u + 1) xs)) z ∙ puts_here xs (slice_set ws u x) (u + 1) j (omega (arith, l, le)) (omega arith)

-- ---- .. and a pointer can be read

abbrev stored_at : ℕ → Pointer → ℕ → ℕ
stored_at row p j = slice_index (stored_words row p) j

stored_readable : (c : Content) (rows : Rows) (row : ℕ) (p : Pointer) → IsStorable c rows row p → IsReadable c rows (stored_at row p)
stored_readable c rows row Null h = record { object = λ n moment first last. absurd (omega (arith, first)); characters = λ n first last. absurd (omega (arith, first)) }
stored_readable c rows row Wild h = record { object = λ n moment first last. absurd (omega (arith, first)); characters = λ n first last. absurd (omega (arith, first)) }
stored_readable c rows row (Static s) h = record {
  object = λ n moment first last. absurd (omega (arith, last));
  characters = λ n first last. (let text : owner_word s.text ≤ 2 ^ 32 = h.0 in omega (arith, first, text), h.1, h.2);
}
stored_readable c rows row (To t) h = record {
  object = λ n moment first last.
      let same : t.object ≡ n = omega (arith, first) in (
        subst (λ k. IsRef c rows (record { row = (t.word + row * 2 ^ 32) / 2 ^ 32; birth = k })) same
            (subst (λ k. IsRef c rows (record { row = k; birth = t.object })) (sym (above_word t.word row h.1)) h.0),
        h.2,
        h.3,
      );
  characters = λ n first last. absurd (omega (arith, last));
}

pointing_same : (i j : ℕ) → Pointing i ≡ Pointing j → i ≡ j
pointing_same i j e = cc

module _ (c : Content) (rows : Rows) (f : ℕ → Kind) (whole : AreWhole f) (row : ℕ) (p : Pointer) (fits : IsStorable c rows row p) (u : ℕ) (begins : f u ≡ Pointing 0) where
  -- a word of another pointer is none of these
  other : (v k : ℕ) → v ≢ u → k ≤ 4 → f v ≡ Pointing 0 → (j : ℕ) → j < length (stored_words row p) → v + k ≢ u + j
  other v k ne le at_v j lt e =
      let l = stored_length row p in
      let s = pointing_same k j (sym (whole v k le at_v) ∙ ap f e ∙ whole u j (omega (arith, l, lt)) begins) in
      ne (omega (arith, e, s))

  pub pointer_rowed : (ws : List ℕ) → u + 5 ≤ length ws → WordsRowed c rows f ws → WordsRowed c rows f (puts ws u (stored_words row p))
  pointer_rowed ws le h v at_v =
      let new : List ℕ = puts ws u (stored_words row p) in
      let l = stored_length row p in
      one_or_apart v u
      (λ e.
      readable_as c rows (stored_at row p) (λ j. slice_index new (v + j))
      (λ j le'. sym (puts_here (stored_words row p) ws u j (omega (arith, l, le)) (omega (arith, l, le'))) ∙ ap (λ k. slice_index new (k + j)) (sym e))
      (stored_readable c rows row p fits))
      (λ ne. readable_as c rows (λ j. slice_index ws (v + j)) (λ j. slice_index new (v + j)) (λ j le'. sym (puts_other (stored_words row p) ws u (v + j) (other v j ne le' at_v))) (h v at_v))

-- ---- by the slots of an object

abbrev pub change_slot : ℕ → (List ℕ → List ℕ) → List Slot → List Slot
change_slot i g [] = []
change_slot zero g (s ∷ ss) = record { words = g s.words; stamp = s.stamp } ∷ ss
change_slot (suc i) g (s ∷ ss) = s ∷ change_slot i g ss

behind_first : (s : Slot) (rest : List Slot) (i : ℕ) (o : Option Slot) → set_slot (s ∷ rest) (suc i) o ≡ s ∷ set_slot rest i o
behind_first s rest i None = refl
behind_first s rest i (Some t) = refl

one_word : (i w v : ℕ) (ss : List Slot) → set_slot ss i (option_map (written w v) (slice_get ss i)) ≡ change_slot i (λ ws. slice_set ws w v) ss
one_word i w v [] = refl
one_word zero w v (s ∷ ss) = refl
one_word (suc i) w v (s ∷ ss) = behind_first s ss i (option_map (written w v) (slice_get ss i)) ∙ ap (λ (rest : List Slot). s ∷ rest) (one_word i w v ss)

change_then : (i : ℕ) (g h : List ℕ → List ℕ) (ss : List Slot) → change_slot i h (change_slot i g ss) ≡ change_slot i (λ ws. h (g ws)) ss
change_then i g h [] = refl
change_then zero g h (s ∷ ss) = refl
change_then (suc i) g h (s ∷ ss) = ap (λ (rest : List Slot). s ∷ rest) (change_then i g h ss)

change_none : (i : ℕ) (ss : List Slot) → change_slot i (λ ws. ws) ss ≡ ss
change_none i [] = refl
change_none zero (s ∷ ss) = refl
change_none (suc i) (s ∷ ss) = ap (λ (rest : List Slot). s ∷ rest) (change_none i ss)

pub with_words_is : (i w : ℕ) (vs : List ℕ) (o : Object) → with_words i w vs o ≡ record o { slots = change_slot i (λ ws. puts ws w vs) o.slots }
with_words_is i w [] o = ap (λ (ss : List Slot). record o { slots = ss }) (sym (change_none i o.slots))
with_words_is i w (v ∷ vs) o =
    with_words_is i (w + 1) vs (with_word i w v o)
    ∙ ap (λ (ss : List Slot). record o { slots = change_slot i (λ ws. puts ws (w + 1) vs) ss }) (one_word i w v o.slots)
    ∙ ap (λ (ss : List Slot). record o { slots = ss }) (change_then i (λ ws. slice_set ws w v) (λ ws. puts ws (w + 1) vs) o.slots)

pub change_rowed : (c : Content) (rows : Rows) (f : ℕ → Kind) (i : ℕ) (g : List ℕ → List ℕ) (ss : List Slot) → ((s : Slot) → slice_get ss i ≡ Some s → WordsRowed c rows f s.words → WordsRowed c rows f (g s.words))
    → SlotsRowed c rows f ss → SlotsRowed c rows f (change_slot i g ss)
change_rowed c rows f i g [] keep h = tt
change_rowed c rows f zero g (s ∷ ss) keep h = (keep s refl h.0, h.1)
change_rowed c rows f (suc i) g (s ∷ ss) keep h = (h.0, change_rowed c rows f i g ss keep h.1)

-- a pointer that is written can be read
pub point_rowed : (c : Content) (rows : Rows) (f : ℕ → Kind) → AreWhole f → (row : ℕ) (p : Pointer) → IsStorable c rows row p → (i u : ℕ) → f u ≡ Pointing 0 → (o : Object)
    → ((s : Slot) → slice_get o.slots i ≡ Some s → u + 5 ≤ length s.words) → SlotsRowed c rows f o.slots → SlotsRowed c rows f (with_words i u (stored_words row p) o).slots
point_rowed c rows f whole row p fits i u begins o wide h =
    subst (λ (x : Object). SlotsRowed c rows f x.slots) (sym (with_words_is i u (stored_words row p) o))
    (change_rowed c rows f i (λ ws. puts ws u (stored_words row p)) o.slots (λ s there rowed. pointer_rowed c rows f whole row p fits u begins s.words (wide s there) rowed) h)
