-- Where all copies are made before the first word is written, the words that own get what the meaning gets by the parts of the value's type.
use Rattle.std.proofs.Common.{◌≡◌, ℕ, zero, suc, ◌+◌, ◌<◌, List, [], ◌∷◌, ◌++◌, length, take, drop, Option, Some, None, refl, sym, ap, ◌∙◌, arith, append_assoc}
use Rattle.std.specs.Prelude.{slice_index}
use Rattle.life_types.specs.Types.{Types}
use Rattle.life_types.specs.declared.ty.TyId.{TyId}
use Rattle.life_store.specs.Cells.{at}
use Rattle.life_store.specs.Content.{Object, Content, word_at}
use Rattle.life_store.specs.Effects.{Setting, Attempt, Got, then_get}
use Rattle.life_store.specs.Held.{owned_in, owner_word, wrote}
use Rattle.life_store.specs.Owners.{copied, copied_buffer}
use Rattle.life_store.specs.Parts.{Parts, Single, Raw, Iterates, Views, Text, Vector, Unique, Member, NoMember, width}
use Rattle.life_store.specs.Places.{Spot as Place}
use Rattle.life_forest.specs.Kinds.{rank_of}
use Rattle.life_forest.proofs.Lists.{length_back, length_front}
use Rattle.life_values.specs.Copied.{copied_number}
use Rattle.life_moves.specs.CopiedTo.{copied_one, copied_then}
use Rattle.life_values.specs.Copyable.{IsCopyable, IsReadable, IsReadableIf}
use Rattle.life_values.specs.Layouts.{flat, owner_words}
use Rattle.life_values.specs.Taken.{owned_if}
use Rattle.life_values.proofs.Attempts.{then_alike, then_got, then_then}
use Rattle.life_values.proofs.CopiedAside.{number_copied, owned_words, owning_is, slots_still, with_first}
use Rattle.life_values.proofs.CopiedKept.{copied_kept, keeps_then, IsCopy, Keeps}
use Rattle.life_values.proofs.Flat.{owner_words-append}

-- the owners among the words of a value are written, the last one first
abbrev pub owners_written : (n i w : ℕ) → Parts → List ℕ → Content → Content
owners_written n i w (Text ty) vs c = wrote n i w (slice_index vs 0 ∷ []) c
owners_written n i w (Vector ty element) vs c = wrote n i w (slice_index vs 0 ∷ []) c
owners_written n i w (Unique ty target) vs c = wrote n i w (slice_index vs 0 ∷ []) c
owners_written n i w (Member first others) vs c = owners_written n i w first (take (width first) vs) (owners_written n i (w + width first) others (drop (width first) vs) c)
owners_written n i w _ vs c = c

-- ---- lists

pub take_front : (k : ℕ) (xs ys : List ℕ) → length xs ≡ k → take k (xs ++ ys) ≡ xs
take_front zero [] [] e = refl
take_front zero [] (y ∷ ys) e = refl
take_front zero (x ∷ xs) ys e = absurd (omega (arith, e))
take_front (suc k) [] ys e = absurd (omega (arith, e))
take_front (suc k) (x ∷ xs) ys e = ap (λ zs. x ∷ zs) (take_front k xs ys (omega (arith, e)))

pub drop_front : (k : ℕ) (xs ys : List ℕ) → length xs ≡ k → drop k (xs ++ ys) ≡ ys
drop_front zero [] ys e = refl
drop_front zero (x ∷ xs) ys e = absurd (omega (arith, e))
drop_front (suc k) [] ys e = absurd (omega (arith, e))
drop_front (suc k) (x ∷ xs) ys e = drop_front k xs ys (omega (arith, e))

pub index_take : (k : ℕ) (xs : List ℕ) (u : ℕ) → u < k → slice_index (take k xs) u ≡ slice_index xs u
index_take zero xs u lt = absurd (omega (arith, lt))
index_take (suc k) [] u lt = refl
index_take (suc k) (x ∷ xs) zero lt = refl
index_take (suc k) (x ∷ xs) (suc u) lt = index_take k xs u (omega (arith, lt))

pub index_drop : (k : ℕ) (xs : List ℕ) (u : ℕ) → slice_index (drop k xs) u ≡ slice_index xs (k + u)
index_drop zero xs u = let z : u ≡ 0 + u = omega arith in ap (slice_index xs) z
index_drop (suc k) [] u = refl
index_drop (suc k) (x ∷ xs) u = let z : suc k + u ≡ suc (k + u) = omega arith in index_drop k xs u ∙ ap (slice_index (x ∷ xs)) (sym z)

module _ (s : Setting) (types : Types) (owners : TyId → List ℕ) (old : Content) (depth : ℕ)
    (below : (ty : TyId) (element : Parts) (q : ℕ) (c : Content) → rank_of types ty < depth → Keeps old c → (r : IsReadable types ty element (IsCopyable types old (rank_of types ty) element) old q)
    → copied_number s owners depth q c ≡ number_copied s ty (width element) (copied s element) r.object.slots c)
    (from to : Place) (source : Object) (source_there : at old.objects from.object ≡ Some source) (born : from.object < old.births) (go : Content → Content) where
  abbrev copy : ℕ → Content → Attempt (ℕ × Content)
  copy = copied_number s owners depth

  abbrev then_all : List ℕ → Content → Attempt Content
  then_all us c = copied_then (copied_number s owners depth) from to go us c

  abbrev written : ℕ → Parts → List ℕ → Content → Content
  written v p vs d = owners_written to.object to.index (to.word + v) p vs d

  -- the words of a part, as the source has them
  abbrev Reads : ℕ → Parts → List ℕ → Type 0
  Reads v p ws = (length ws ≡ width p) × ((u : ℕ) → u < width p → word_at source from.index (from.word + (v + u)) ≡ slice_index ws u)

  abbrev Then : Parts → Type 0
  Then p = (v : ℕ) (us ws : List ℕ) (c : Content) → Keeps old c → Reads v p ws → IsCopyable types old depth p ws
      → copied_then (copied_number s owners depth) from to go (owner_words (flat v p) ++ us) c ≡ then_get (copied s p ws c) (λ a. then_get (then_all us a.1) (λ d. Got (written v p a.0 d)))

  none_written : (v : ℕ) (us : List ℕ) (c : Content) → then_all us c ≡ then_get (then_all us c) (λ d. Got d)
  none_written v us c = sym (then_got (then_all us c))

  -- one word that owns
  one_then : (ty : TyId) (element : Parts) → rank_of types ty < depth → (v : ℕ) (us : List ℕ) (c : Content) → Keeps old c → (x : Option ℕ) → IsReadableIf types ty element (IsCopyable types old (rank_of types ty) element) old x
      → copied_one (copied_number s owners depth) (copied_then (copied_number s owners depth) from to go us) to v x c
      ≡ then_get (copied_buffer s ty (width element) (copied s element) x c) (λ a. then_get (then_all us a.1) (λ d. Got (wrote to.object to.index (to.word + v) (slice_index a.0 0 ∷ []) d)))
  one_then ty element lt v us c keeps None r = refl
  one_then ty element lt v us c keeps (Some q) r =
      ap (λ z. then_get z (λ b. then_get (then_all us b.1) (λ d. Got (wrote to.object to.index (to.word + v) (owner_word (Some b.0) ∷ []) d)))) (below ty element q c lt keeps r)
      ∙ sym (then_then (number_copied s ty (width element) (copied s element) r.object.slots c) owned_words (λ a. then_get (then_all us a.1) (λ d. Got (wrote to.object to.index (to.word + v) (slice_index a.0 0 ∷ []) d))))
      ∙ ap (λ z. then_get z (λ a. then_get (then_all us a.1) (λ d. Got (wrote to.object to.index (to.word + v) (slice_index a.0 0 ∷ []) d))))
      (sym (owning_is s ty (width element) (copied s element) q c r.object.slots (slots_still s types old ty element (IsCopyable types old (rank_of types ty) element) q c keeps r)))

  owner_here : (v : ℕ) (c : Content) → Keeps old c → (w : ℕ) → word_at source from.index (from.word + (v + 0)) ≡ w → owned_if (at c.objects from.object) from.index (from.word + v) ≡ owned_in w
  owner_here v c keeps w is =
      let z : v ≡ v + 0 = omega arith in
      ap (λ (x : Option Object). owned_if x from.index (from.word + v)) (keeps.same from.object born ∙ source_there)
      ∙ ap (λ k. owned_in (word_at source from.index (from.word + k))) z
      ∙ ap owned_in is

  pub all_then : (p : Parts) → Then p
  all_then Single v us ws c keeps reads known = none_written v us c
  all_then Raw v us ws c keeps reads known = none_written v us c
  all_then Iterates v us ws c keeps reads known = none_written v us c
  all_then Views v us ws c keeps reads known = none_written v us c
  all_then (Text ty) v us ws c keeps reads known =
      ap (λ x. copied_one copy (copied_then copy from to go us) to v x c) (owner_here v c keeps (slice_index ws 0) (reads.1 0 (omega arith)))
      ∙ one_then ty Single known.0 v us c keeps (owned_in (slice_index ws 0)) (as_single (owned_in (slice_index ws 0)) known.1)
    where
      as_single : (x : Option ℕ) → IsReadableIf types ty Single (λ vs. Unit {0}) old x → IsReadableIf types ty Single (IsCopyable types old (rank_of types ty) Single) old x
      as_single None r = tt
      as_single (Some n) r = r
  all_then (Vector ty element) v us ws c keeps reads known =
      ap (λ x. copied_one copy (copied_then copy from to go us) to v x c) (owner_here v c keeps (slice_index ws 0) (reads.1 0 (omega arith)))
      ∙ one_then ty element known.0 v us c keeps (owned_in (slice_index ws 0)) known.1
  all_then (Unique ty target) v us ws c keeps reads known = absurd known
  all_then (Member first others) v us ws c keeps reads known =
      let front : List ℕ = take (width first) ws in
      let back : List ℕ = drop (width first) ws in
      let reads_front : Reads v first front = (
        length_front (width first) (width others) ws reads.0,
        λ u lt. reads.1 u (omega (arith, lt)) ∙ sym (index_take (width first) ws u lt),
      ) in
      let reads_back : Reads (v + width first) others back = (
        length_back (width first) (width others) ws reads.0,
        λ u lt. let z : v + width first + u ≡ v + (width first + u) = omega arith in ap (λ k. word_at source from.index (from.word + k)) z ∙ reads.1 (width first + u) (omega (arith, lt)) ∙ sym (index_drop (width first) ws u),
      ) in
      (λ j. then_all (owner_words-append (flat v first) (flat (v + width first) others) j ++ us) c)
      ∙ ap (λ xs. then_all xs c) (append_assoc (owner_words (flat v first)) (owner_words (flat (v + width first) others)) us)
      ∙ all_then first v (owner_words (flat (v + width first) others) ++ us) front c keeps reads_front known.0
      ∙ then_alike (copied s first front c) (IsCopy (width first) front c)
      (λ a. then_get (then_all (owner_words (flat (v + width first) others) ++ us) a.1) (λ d. Got (written v first a.0 d)))
      (λ a. then_get (then_get (copied s others back a.1) (with_first (λ x y. x ++ y) a.0)) (λ b. then_get (then_all us b.1) (λ d. Got (written v (Member first others) b.0 d))))
      (copied_kept s first front c)
      (λ a k.
      let long : length a.0 ≡ width first = k.long (length_front (width first) (width others) ws reads.0) in
      let z : to.word + (v + width first) ≡ to.word + v + width first = omega arith in
      ap (λ x. then_get x (λ d. Got (written v first a.0 d))) (all_then others (v + width first) us back a.1 (keeps_then old c a.1 keeps k.keeps) reads_back known.1)
      ∙ then_then (copied s others back a.1) (λ b. then_get (then_all us b.1) (λ d. Got (written (v + width first) others b.0 d))) (λ d. Got (written v first a.0 d))
      ∙ (λ j. then_get (copied s others back a.1) (λ b. then_then (then_all us b.1) (λ d. Got (written (v + width first) others b.0 d)) (λ d. Got (written v first a.0 d)) j))
      ∙ (λ j. then_get (copied s others back a.1) (λ b. then_get (then_all us b.1) (λ d. Got (owners_written to.object to.index (to.word + v) first (sym (take_front (width first) a.0 b.0 long) j)
      (owners_written to.object to.index (z j) others (sym (drop_front (width first) a.0 b.0 long) j) d)))))
      ∙ sym (then_then (copied s others back a.1) (with_first (λ x y. x ++ y) a.0) (λ b. then_get (then_all us b.1) (λ d. Got (written v (Member first others) b.0 d)))))
      ∙ sym (then_then (copied s first front c) (λ a. then_get (copied s others back a.1) (with_first (λ x y. x ++ y) a.0)) (λ b. then_get (then_all us b.1) (λ d. Got (written v (Member first others) b.0 d))))
  all_then NoMember v us ws c keeps reads known = none_written v us c
