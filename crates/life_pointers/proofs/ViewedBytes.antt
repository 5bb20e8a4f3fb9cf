-- The characters that a view sees, one by one, and as the meaning has them.
use Rattle.std.proofs.Common.{◌≡◌, ◌≢◌, ℕ, zero, suc, ◌+◌, ◌<◌, ◌≤◌, Bool, true, false, List, [], ◌∷◌, Option, Some, None, length, map, take, drop, refl, sym, ap, subst, ◌∙◌, arith, ⊎_elim}
use Rattle.std.proofs.lemmas.Bool.Decides.{eqb_tells}
use Rattle.std.proofs.lemmas.List.{length-map, length-take}
use Rattle.std.proofs.lemmas.Option.{none-some, same_Some}
use Rattle.std.specs.Prelude.{◌&&◌, nat_eq, option_map, slice_get}
use Rattle.life_store.specs.Content.{Slot, Object, Content, word_in}
use Rattle.life_store.specs.Held.{slots_if}
use Rattle.life_store.specs.Kinds.{Kind, Plain}
use Rattle.life_store.specs.References.{Rows, object_of}
use Rattle.life_store.specs.State as state
use Rattle.life_store.specs.Effects.{Attempt, Got, then_get}
use Rattle.life_store.specs.Views.{are_same, first_word, seen_bytes, seen_words, usable}
use Rattle.life_store.specs.declared.object.ObjRef.{ObjRef}
use Rattle.life_seen.specs.Housed.{IsHoused}
use Rattle.life_seen.specs.Kinds.{Kinds}
use Rattle.life_seen.specs.Named.{Names, names_of}
use Rattle.life_seen.specs.Seen.{slot_seen, word_seen, object_seen, seen}
use Rattle.life_seen.proofs.References.{seen_by_number}
use Rattle.life_seen.proofs.Views.{word_read}
use Rattle.life_pointers.specs.Bytes.{byte_in, stored_bytes, stored_slots, stored_words, HasPositions, SeesPlain}
use Rattle.life_pointers.specs.Made.{viewed_alike}
use Rattle.life_pointers.specs.Pointers.{pointer_seen, PointerFits}
use Rattle.life_pointers.specs.declared.pointer.Pointer.{Pointer}
use Rattle.life_pointers.specs.declared.pointer.Pointer.TheVariants as leads

abbrev bytes_of : List Slot → (first count : ℕ) → List ℕ
bytes_of ss first count = map byte_in (map first_word (take count (drop first ss)))

-- ---- one by one

pub in_count : (ss : List Slot) (first count i : ℕ) → i < length (bytes_of ss first count) → i < count
in_count ss first count i lt =
    let a = length-map (map first_word (take count (drop first ss))) byte_in in
    let b = length-map (take count (drop first ss)) first_word in
    let d = length-take count (drop first ss) in
    omega (arith, a, b, d, lt)

pub get_byte : (ss : List Slot) (first count i : ℕ) → i < count → first + i < length ss → slice_get (bytes_of ss first count) i ≡ Some (byte_in (word_in (slice_get ss (first + i)) 0))
get_byte [] first count i lt within = absurd (omega arith)
get_byte (s ∷ ss) zero zero i lt within = absurd (omega arith)
get_byte (s ∷ ss) zero (suc count) zero lt within = refl
get_byte (s ∷ ss) zero (suc count) (suc i) lt within =
    let z : 0 + suc i ≡ suc (0 + i) = omega arith in
    get_byte ss zero count i (omega arith) (omega arith) ∙ ap (λ k. Some (byte_in (word_in (slice_get (s ∷ ss) k) 0))) (sym z)
get_byte (s ∷ ss) (suc first) count i lt within =
    let z : suc first + i ≡ suc (first + i) = omega arith in
    get_byte ss first count i lt (omega arith) ∙ ap (λ k. Some (byte_in (word_in (slice_get (s ∷ ss) k) 0))) (sym z)

module _ (c : Content) (rows : Rows) (r : ObjRef) (first count : ℕ) (h : HasPositions c rows r first count) where
  pub byte_there : (i : ℕ) → i < count → slice_get (bytes_of (stored_slots c rows r) first count) i ≡ Some (byte_in (word_in (slice_get (stored_slots c rows r) (first + i)) 0))
  byte_there i lt = get_byte (stored_slots c rows r) first count i lt (subst (λ (x : Option Object). first + i < length (slots_if x)) (sym h.there) (h.within i lt))

  pub position_there : (i : ℕ) → i < count → HasPositions c rows r (first + i) 1
  position_there i lt = record {
    object = h.object;
    there = h.there;
    wide = h.wide;
    within = λ k one. let w = h.within i lt in omega (arith, w, one);
  }

-- ---- two of them

drop_at : (xs : List ℕ) (i x : ℕ) → slice_get xs i ≡ Some x → drop i xs ≡ x ∷ drop (i + 1) xs
drop_at [] i x e = absurd (none-some x e)
drop_at (y ∷ ys) zero x e = ap (λ k. k ∷ ys) (same_Some y x e)
drop_at (y ∷ ys) (suc i) x e = let z : suc i + 1 ≡ suc (i + 1) = omega arith in drop_at ys i x e ∙ ap (λ k. x ∷ drop k (y ∷ ys)) (sym z)

drop_all : (i : ℕ) (xs : List ℕ) → length xs ≤ i → drop i xs ≡ []
drop_all zero [] le = refl
drop_all zero (x ∷ xs) le = absurd (omega arith)
drop_all (suc i) [] le = refl
drop_all (suc i) (x ∷ xs) le = drop_all i xs (omega arith)

pub lengths_differ : (xs ys : List ℕ) → length xs ≢ length ys → false ≡ are_same xs ys
lengths_differ [] [] ne = absurd (ne refl)
lengths_differ [] (y ∷ ys) ne = refl
lengths_differ (x ∷ xs) [] ne = refl
lengths_differ (x ∷ xs) (y ∷ ys) ne = go (nat_eq x y) (lengths_differ xs ys (λ e. ne (ap suc e)))
  where
    go : (b : Bool) → false ≡ are_same xs ys → false ≡ (b && are_same xs ys)
    go true e = e
    go false e = refl

pub same_next : (xs ys : List ℕ) (i x : ℕ) → slice_get xs i ≡ Some x → slice_get ys i ≡ Some x → are_same (drop i xs) (drop i ys) ≡ are_same (drop (i + 1) xs) (drop (i + 1) ys)
same_next xs ys i x a b =
    ap (λ (zs : List ℕ). are_same zs (drop i ys)) (drop_at xs i x a) ∙ ap (are_same (x ∷ drop (i + 1) xs)) (drop_at ys i x b) ∙ (λ j. equal j && are_same (drop (i + 1) xs) (drop (i + 1) ys))
  where
    equal : nat_eq x x ≡ true
    equal = ⊎_elim (λ h. h.0) (λ h. absurd (h.1 refl)) (eqb_tells x x)

pub differ_next : (xs ys : List ℕ) (i x y : ℕ) → slice_get xs i ≡ Some x → slice_get ys i ≡ Some y → x ≢ y → are_same (drop i xs) (drop i ys) ≡ false
differ_next xs ys i x y a b ne =
    ap (λ (zs : List ℕ). are_same zs (drop i ys)) (drop_at xs i x a) ∙ ap (are_same (x ∷ drop (i + 1) xs)) (drop_at ys i y b) ∙ (λ j. unequal j && are_same (drop (i + 1) xs) (drop (i + 1) ys))
  where
    unequal : nat_eq x y ≡ false
    unequal = ⊎_elim (λ h. absurd (ne h.1)) (λ h. h.0) (eqb_tells x y)

pub same_end : (xs ys : List ℕ) (i : ℕ) → length xs ≤ i → length ys ≤ i → are_same (drop i xs) (drop i ys) ≡ true
same_end xs ys i a b = ap (λ (zs : List ℕ). are_same zs (drop i ys)) (drop_all i xs a) ∙ ap (are_same []) (drop_all i ys b)

-- ---- as the meaning has them

module _ (kinds : Kinds) (names : Names) where
  plain_first : (f : ℕ → Kind) → f 0 ≡ Plain → (s : Slot) → first_word s ≡ first_word (slot_seen names f s)
  plain_first f plain s = sym (word_read names f s.words 0 ∙ ap (λ k. word_seen names k (first_word s)) plain)

  plain_words : (f : ℕ → Kind) → f 0 ≡ Plain → (ss : List Slot) (first count : ℕ)
      → map first_word (take count (drop first ss)) ≡ map first_word (take count (drop first (map (slot_seen names f) ss)))
  plain_words f plain [] zero zero = refl
  plain_words f plain [] zero (suc count) = refl
  plain_words f plain [] (suc first) zero = refl
  plain_words f plain [] (suc first) (suc count) = refl
  plain_words f plain (s ∷ ss) zero zero = refl
  plain_words f plain (s ∷ ss) zero (suc count) = (λ j. plain_first f plain s j ∷ plain_words f plain ss zero count j)
  plain_words f plain (s ∷ ss) (suc first) count = plain_words f plain ss first count

module _ (texts : List (List ℕ)) (kinds : Kinds) (c : Content) (rows : Rows) (h : IsHoused kinds c rows) where
  slots_words : (r : ObjRef) (first count : ℕ) (x : Option Object) → ((o : Object) → x ≡ Some o → kinds o.ty 0 ≡ Plain)
      → map first_word (take count (drop first (slots_if x))) ≡ map first_word (take count (drop first (slots_if (option_map (object_seen kinds (names_of c rows)) x))))
  slots_words r first count None plain = refl
  slots_words r first count (Some o) plain = plain_words kinds (names_of c rows) (kinds o.ty) (plain o refl) o.slots first count

  pub words_seen : (p : Pointer) → PointerFits c rows p → SeesPlain kinds c rows p → stored_words texts c rows p ≡ seen_words texts (seen kinds c rows) (pointer_seen p)
  words_seen leads.Null fits plain = refl
  words_seen leads.Wild fits plain = refl
  words_seen (leads.Static s) fits plain = refl
  words_seen (leads.To index count word object moment) fits plain =
      slots_words object index count (object_of c rows object) plain
      ∙ ap (λ (x : Option Object). map first_word (take count (drop index (slots_if x)))) (seen_by_number kinds c rows h object fits.0)

  pub bytes_seen : (p : Pointer) → PointerFits c rows p → SeesPlain kinds c rows p → stored_bytes texts c rows p ≡ seen_bytes texts (seen kinds c rows) (pointer_seen p)
  bytes_seen leads.Null fits plain = refl
  bytes_seen leads.Wild fits plain = refl
  bytes_seen (leads.Static s) fits plain = refl
  bytes_seen (leads.To index count word object moment) fits plain = ap (map byte_in) (words_seen (leads.To index count word object moment) fits plain)

-- ---- both are used first

pub alike_there : (texts : List (List ℕ)) (m : Content) (p q v w : state.Pointer) (b : Bool) → Got v ≡ usable m p → Got w ≡ usable m q → b ≡ are_same (seen_bytes texts m v) (seen_bytes texts m w)
    → Got b ≡ viewed_alike texts m p q
alike_there texts m p q v w b left right e =
    let second : state.Pointer → state.Pointer → Attempt Bool = λ x y. Got (are_same (seen_bytes texts m x) (seen_bytes texts m y)) in
    ap Got e
    ∙ ap (λ (a : Attempt state.Pointer). then_get a (second v)) right
    ∙ ap (λ (a : Attempt state.Pointer). then_get a (λ x. then_get (usable m q) (second x))) left

pub same_plain : (kinds : Kinds) (c : Content) (rows : Rows) (p q : Pointer) → q ≡ p → SeesPlain kinds c rows p → SeesPlain kinds c rows q
same_plain kinds c rows p q e plain = subst (λ (x : Pointer). SeesPlain kinds c rows x) (sym e) plain
