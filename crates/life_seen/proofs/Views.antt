-- Words, slots and objects that are seen: as before where the rows that they name keep their numbers; read, written and resized.
use Rattle.std.proofs.Common.{◌≡◌, ℕ, zero, suc, List, [], ◌∷◌, Option, Some, None, refl, sym, ap, subst, ◌∙◌, arith}
use Rattle.std.specs.Prelude.{slice_get, slice_index, slice_set, option_map}
use Rattle.life_store.specs.Cells.{at}
use Rattle.life_store.specs.Content.{Slot, Object, word_in, word_at, written, set_slot, with_word}
use Rattle.life_store.specs.Held.{owner_word}
use Rattle.life_seen.specs.Kinds.{Kinds}
use Rattle.life_store.specs.Kinds.{Kind, Plain, Owner, Pointing}
use Rattle.life_seen.specs.Named.{Names}
use Rattle.life_seen.specs.Seen.{pointing_seen, word_seen, words_seen, slot_seen, slots_seen, object_seen}
use Rattle.life_seen.specs.Owned.{owner_of, owner_at, owner_in, owner_if}
use Rattle.life_seen.specs.Housed.{WordLives, WordsLive, SlotsLive}

-- ---- words are seen as before where the rows that they name keep their numbers

module _ (P : ℕ → Type 0) (names after : Names) (keeps : (j m : ℕ) → P m → at names j ≡ Some m → at after j ≡ Some m) where
  word_kept : (k : Kind) (w : ℕ) → WordLives names k w → ((m : ℕ) → owner_of k (word_seen names k w) ≡ suc m → P m)
      → (word_seen after k w ≡ word_seen names k w) × WordLives after k w
  word_kept Plain w l h = (refl, tt)
  word_kept (Pointing i) w l h = (refl, tt)
  word_kept Owner zero l h = (refl, tt)
  word_kept Owner (suc j) l h =
      let k : at after j ≡ Some l.0 = keeps j l.0 (h l.0 (ap owner_word l.1)) l.1 in
      (ap owner_word (k ∙ sym l.1), (l.0, k))

  words_kept : (f : ℕ → Kind) (ws : List ℕ) → WordsLive names f ws → ((u m : ℕ) → owner_at f (words_seen names f ws) u ≡ suc m → P m)
      → (words_seen after f ws ≡ words_seen names f ws) × WordsLive after f ws
  words_kept f [] l h = (refl, tt)
  words_kept f (w ∷ ws) l h =
      let a = word_kept (f 0) w l.0 (λ m. h zero m) in
      let r = words_kept (λ u. f (suc u)) ws l.1 (λ u. h (suc u)) in
      (λ i. a.0 i ∷ r.0 i, (a.1, r.1))

  slots_kept : (f : ℕ → Kind) (ss : List Slot) → SlotsLive names f ss → ((i u m : ℕ) → owner_in f (slots_seen names f ss) i u ≡ suc m → P m)
      → (slots_seen after f ss ≡ slots_seen names f ss) × SlotsLive after f ss
  slots_kept f [] l h = (refl, tt)
  slots_kept f (s ∷ ss) l h =
      let a = words_kept f s.words l.0 (h zero) in
      let r = slots_kept f ss l.1 (λ i. h (suc i)) in
      (λ i. record { words = a.0 i; stamp = s.stamp } ∷ r.0 i, (a.1, r.1))

-- .. and so are objects
pub record IsSeenAs (kinds : Kinds) (names after : Names) (o : Object) : Type 0 where
  pub same : object_seen kinds after o ≡ object_seen kinds names o
  pub live : SlotsLive after (kinds o.ty) o.slots

pub object_kept : (P : ℕ → Type 0) (kinds : Kinds) (names after : Names) → ((j m : ℕ) → P m → at names j ≡ Some m → at after j ≡ Some m)
    → (o : Object) → SlotsLive names (kinds o.ty) o.slots → ((i u m : ℕ) → owner_if kinds (Some (object_seen kinds names o)) i u ≡ suc m → P m) → IsSeenAs kinds names after o
object_kept P kinds names after keeps o l h =
    let k = slots_kept P names after keeps (kinds o.ty) o.slots l h in
    record { same = ap (λ (ss : List Slot). record o { slots = ss }) k.0; live = k.1 }

-- rows of kinds that are equal
pub live_alike : (names : Names) (f g : ℕ → Kind) (ws : List ℕ) → ((u : ℕ) → f u ≡ g u) → WordsLive names f ws → WordsLive names g ws
live_alike names f g [] h l = tt
live_alike names f g (x ∷ xs) h l = (subst (λ k. WordLives names k x) (h 0) l.0, live_alike names (λ u. f (suc u)) (λ u. g (suc u)) xs (λ u. h (suc u)) l.1)

-- ---- a word is read

pointing_zero : (i : ℕ) → 0 ≡ pointing_seen i 0
pointing_zero zero = refl
pointing_zero (suc zero) = refl
pointing_zero (suc (suc zero)) = refl
pointing_zero (suc (suc (suc zero))) = omega arith
pointing_zero (suc (suc (suc (suc i)))) = refl

pub word_zero : (names : Names) (k : Kind) → 0 ≡ word_seen names k 0
word_zero names Plain = refl
word_zero names Owner = refl
word_zero names (Pointing i) = pointing_zero i

pub zero_lives : (names : Names) (k : Kind) → WordLives names k 0
zero_lives names Plain = tt
zero_lives names Owner = tt
zero_lives names (Pointing i) = tt

pub word_read : (names : Names) (f : ℕ → Kind) (ws : List ℕ) (u : ℕ) → slice_index (words_seen names f ws) u ≡ word_seen names (f u) (slice_index ws u)
word_read names f [] u = word_zero names (f u)
word_read names f (w ∷ ws) zero = refl
word_read names f (w ∷ ws) (suc u) = word_read names (λ v. f (suc v)) ws u

pub word_lives : (names : Names) (f : ℕ → Kind) (ws : List ℕ) (u : ℕ) → WordsLive names f ws → WordLives names (f u) (slice_index ws u)
word_lives names f [] u l = zero_lives names (f u)
word_lives names f (w ∷ ws) zero l = l.0
word_lives names f (w ∷ ws) (suc u) l = word_lives names (λ v. f (suc v)) ws u l.1

pub slot_read : (names : Names) (f : ℕ → Kind) (ss : List Slot) (i u : ℕ) → word_in (slice_get (slots_seen names f ss) i) u ≡ word_seen names (f u) (word_in (slice_get ss i) u)
slot_read names f [] i u = word_zero names (f u)
slot_read names f (s ∷ ss) zero u = word_read names f s.words u
slot_read names f (s ∷ ss) (suc i) u = slot_read names f ss i u

pub slot_lives : (names : Names) (f : ℕ → Kind) (ss : List Slot) (i u : ℕ) → SlotsLive names f ss → WordLives names (f u) (word_in (slice_get ss i) u)
slot_lives names f [] i u l = zero_lives names (f u)
slot_lives names f (s ∷ ss) zero u l = word_lives names f s.words u l.0
slot_lives names f (s ∷ ss) (suc i) u l = slot_lives names f ss i u l.1

-- a word of an object
pub object_read : (kinds : Kinds) (names : Names) (o : Object) (i u : ℕ) → word_at (object_seen kinds names o) i u ≡ word_seen names (kinds o.ty u) (word_at o i u)
object_read kinds names o i u = slot_read names (kinds o.ty) o.slots i u

-- ---- a word is written

pub word_put : (names : Names) (f : ℕ → Kind) (ws : List ℕ) (u v : ℕ) → words_seen names f (slice_set ws u v) ≡ slice_set (words_seen names f ws) u (word_seen names (f u) v)
word_put names f [] u v = refl
word_put names f (w ∷ ws) zero v = refl
word_put names f (w ∷ ws) (suc u) v = ap (λ (xs : List ℕ). word_seen names (f 0) w ∷ xs) (word_put names (λ j. f (suc j)) ws u v)

word_put_lives : (names : Names) (f : ℕ → Kind) (ws : List ℕ) (u v : ℕ) → WordsLive names f ws → WordLives names (f u) v → WordsLive names f (slice_set ws u v)
word_put_lives names f [] u v l new = tt
word_put_lives names f (w ∷ ws) zero v l new = (new, l.1)
word_put_lives names f (w ∷ ws) (suc u) v l new = (l.0, word_put_lives names (λ j. f (suc j)) ws u v l.1 new)

behind_first : (s : Slot) (rest : List Slot) (i : ℕ) (o : Option Slot) → set_slot (s ∷ rest) (suc i) o ≡ s ∷ set_slot rest i o
behind_first s rest i None = refl
behind_first s rest i (Some t) = refl

abbrev put_at : (i u v : ℕ) → List Slot → List Slot
put_at i u v ss = set_slot ss i (option_map (written u v) (slice_get ss i))

slot_put : (names : Names) (f : ℕ → Kind) (ss : List Slot) (i u v : ℕ) → slots_seen names f (put_at i u v ss) ≡ put_at i u (word_seen names (f u) v) (slots_seen names f ss)
slot_put names f [] i u v = refl
slot_put names f (s ∷ ss) zero u v = ap (λ (ws : List ℕ). record { words = ws; stamp = s.stamp } ∷ slots_seen names f ss) (word_put names f s.words u v)
slot_put names f (s ∷ ss) (suc i) u v =
    ap (slots_seen names f) (behind_first s ss i (option_map (written u v) (slice_get ss i)))
    ∙ ap (λ (rest : List Slot). slot_seen names f s ∷ rest) (slot_put names f ss i u v)
    ∙ sym (behind_first (slot_seen names f s) (slots_seen names f ss) i (option_map (written u (word_seen names (f u) v)) (slice_get (slots_seen names f ss) i)))

slot_put_lives : (names : Names) (f : ℕ → Kind) (ss : List Slot) (i u v : ℕ) → SlotsLive names f ss → WordLives names (f u) v → SlotsLive names f (put_at i u v ss)
slot_put_lives names f [] i u v l new = tt
slot_put_lives names f (s ∷ ss) zero u v l new = (word_put_lives names f s.words u v l.0 new, l.1)
slot_put_lives names f (s ∷ ss) (suc i) u v l new = go (option_map (written u v) (slice_get ss i)) (slot_put_lives names f ss i u v l.1 new)
  where
    go : (x : Option Slot) → SlotsLive names f (set_slot ss i x) → SlotsLive names f (set_slot (s ∷ ss) (suc i) x)
    go None h = (l.0, h)
    go (Some t) h = (l.0, h)

-- a word of an object: what it is seen as is written
pub object_put : (kinds : Kinds) (names : Names) (o : Object) (i u v : ℕ) → object_seen kinds names (with_word i u v o) ≡ with_word i u (word_seen names (kinds o.ty u) v) (object_seen kinds names o)
object_put kinds names o i u v = ap (λ (ss : List Slot). record o { slots = ss }) (slot_put names (kinds o.ty) o.slots i u v)

pub object_put_lives : (kinds : Kinds) (names : Names) (o : Object) (i u v : ℕ) → SlotsLive names (kinds o.ty) o.slots → WordLives names (kinds o.ty u) v → SlotsLive names (kinds o.ty) (with_word i u v o).slots
object_put_lives kinds names o i u v l new = slot_put_lives names (kinds o.ty) o.slots i u v l new
