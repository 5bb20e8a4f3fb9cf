-- Contents that are alike but for some objects: what doesn't look at these does the same to both.
use Rattle.std.proofs.Common.{◌≡◌, ◌≢◌, ℕ, suc, ◌+◌, ◌≤◌, ◌<◌, Bool, false, List, [], ◌∷◌, ◌++◌, length, Option, Some, None, refl, sym, ap, ◌∙◌, arith}
use Rattle.std.specs.Prelude.{drop, slice_index, take}
use Rattle.life_types.specs.declared.ty.TyId.{TyId}
use Rattle.life_store.specs.Cells.{Cells, at, set, unset, at-set_same, at-set_other, at-unset_same, at-unset_other, same_cells}
use Rattle.life_store.specs.Content.{Slot, Object, Content, newborn, resized, with_birth, with_object, without}
use Rattle.life_store.specs.Held.{filled, filled_if, filled_slots, owned_in, owner_word, resized_at, resized_if, slots_at, slots_if, with_words, wrote, wrote_if}
use Rattle.life_store.specs.Owners.{Words, behind_first, renamed, renamed_if, taken, taken_slots}
use Rattle.life_store.specs.Parts.{Parts, Single, Raw, Iterates, Views, Text, Vector, Unique, Member, NoMember, width}
use Rattle.life_store.proofs.MapLemmas.{one_or_apart, unset_apart}
use Rattle.life_forest.specs.Changes.{with_born}
use Rattle.life_forest.specs.Owned.{times}
use Rattle.life_forest.specs.Values.{listed, owned_of, owned_slots}
use Rattle.life_forest.proofs.Counting.{one_same, times-append}

-- alike but for the objects that pass the test
pub record Beside (but : ℕ → Bool) (c d : Content) : Type 0 where
  pub births : d.births ≡ c.births
  pub clock : d.clock ≡ c.clock
  pub alike : (k : ℕ) → but k ≡ false → at d.objects k ≡ at c.objects k

pub beside_self : (but : ℕ → Bool) (c : Content) → Beside but c c
beside_self but c = record { births = refl; clock = refl; alike = λ k e. refl }

pub beside_all : (but : ℕ → Bool) (c d : Content) → Beside but c d → ((k : ℕ) → but k ≡ false) → d ≡ c
beside_all but c d b none =
    ap (λ m. record { objects = m; births = d.births; clock = d.clock }) (same_cells d.objects c.objects (λ k. b.alike k (none k)))
    ∙ ap (λ n. record { objects = c.objects; births = n; clock = d.clock }) b.births
    ∙ ap (λ t. record { objects = c.objects; births = c.births; clock = t }) b.clock

pub same_content : (c d : Content) → d.births ≡ c.births → d.clock ≡ c.clock → ((k : ℕ) → at d.objects k ≡ at c.objects k) → d ≡ c
same_content c d births clock alike = beside_all (λ k. false) c d (record { births = births; clock = clock; alike = λ k e. alike k }) (λ k. refl)

-- words are written beside an object that is no more
pub wrote_without : (n b i w : ℕ) (vs : List ℕ) (c : Content) → n ≢ b → wrote n i w vs (without b c) ≡ without b (wrote n i w vs c)
wrote_without n b i w vs c ne = ap (λ (x : Option Object). wrote_if x n i w vs (without b c)) (at-unset_other c.objects b n (λ e. ne (sym e))) ∙ go (at c.objects n)
  where
    go : (x : Option Object) → wrote_if x n i w vs (without b c) ≡ without b (wrote_if x n i w vs c)
    go None = refl
    go (Some o) = ap (λ m. record { objects = m; births = c.births; clock = c.clock }) (sym (unset_apart c.objects n b (with_words i w vs o) ne))

-- fewer objects may differ where one was changed to the same
Fewer : ℕ → (ℕ → Bool) → (ℕ → Bool) → Type 0
Fewer n but then = (k : ℕ) → n ≢ k → then k ≡ false → but k ≡ false

set_alike : {A : Type 0} (m l : Cells A) (n k : ℕ) (v : A) → (n ≢ k → at l k ≡ at m k) → at (set l n v) k ≡ at (set m n v) k
set_alike m l n k v same = one_or_apart n k
    (λ e. at-set_same l n k v e ∙ sym (at-set_same m n k v e))
    (λ ne. at-set_other l n k v ne ∙ same ne ∙ sym (at-set_other m n k v ne))

pub beside_object : (but then : ℕ → Bool) (n : ℕ) (o : Object) (c d : Content) → ((k : ℕ) → n ≢ k → then k ≡ false → but k ≡ false) → Beside but c d → Beside then (with_object n o c) (with_object n o d)
beside_object but then n o c d fewer b = record {
  births = b.births;
  clock = b.clock;
  alike = λ k e. set_alike c.objects d.objects n k o (λ ne. b.alike k (fewer k ne e));
}

pub beside_without : (but then : ℕ → Bool) (n : ℕ) (c d : Content) → ((k : ℕ) → n ≢ k → then k ≡ false → but k ≡ false) → Beside but c d → Beside then (without n c) (without n d)
beside_without but then n c d fewer b = record {
  births = b.births;
  clock = b.clock;
  alike = λ k e. one_or_apart n k
      (λ s. at-unset_same d.objects n k s ∙ sym (at-unset_same c.objects n k s))
      (λ ne. at-unset_other d.objects n k ne ∙ b.alike k (fewer k ne e) ∙ sym (at-unset_other c.objects n k ne));
}

pub beside_born : (but : ℕ → Bool) (o p : Object) (c d : Content) → p ≡ o → Beside but c d → Beside but (with_born o c) (with_born p d)
beside_born but o p c d same b = record {
  births = ap (λ n. n + 1) b.births;
  clock = b.clock;
  alike = λ k e.
      ap (λ n. at (set d.objects n p) k) b.births
      ∙ ap (λ x. at (set d.objects c.births x) k) same
      ∙ set_alike c.objects d.objects c.births k o (λ ne. b.alike k e);
}

pub beside_birth : (but : ℕ → Bool) (ty : TyId) (w capacity : ℕ) (c d : Content) → Beside but c d → Beside but (with_birth ty w capacity c) (with_birth ty w capacity d)
beside_birth but ty w capacity c d b = beside_born but (newborn ty w capacity c.clock) (newborn ty w capacity d.clock) c d (ap (newborn ty w capacity) b.clock) b

pub beside_resized : (but : ℕ → Bool) (n size since : ℕ) (c d : Content) → but n ≡ false → Beside but c d → Beside but (resized_at n size since c) (resized_at n size since d)
beside_resized but n size since c d in_both b =
    rw (b.alike n in_both) (go (at c.objects n))
  where
    go : (x : Option Object) → Beside but (resized_if x n size since c) (resized_if x n size since d)
    go None = b
    go (Some o) = record {
      births = b.births;
      clock = ap (λ t. t + 1) b.clock;
      alike = λ k e.
          ap (λ t. at (set d.objects n (resized (t + 1) size since o)) k) b.clock
          ∙ set_alike c.objects d.objects n k (resized (c.clock + 1) size since o) (λ ne. b.alike k e);
    }

pub beside_filled : (but : ℕ → Bool) (n : ℕ) (values : List (List ℕ)) (c d : Content) → but n ≡ false → Beside but c d → Beside but (filled n values c) (filled n values d)
beside_filled but n values c d in_both b = rw (b.alike n in_both) (go (at c.objects n))
  where
    go : (x : Option Object) → Beside but (filled_if x n values c) (filled_if x n values d)
    go None = b
    go (Some o) = beside_object but but n (record o { slots = filled_slots o.slots values }) c d (λ k ne e. e) b

pub beside_wrote : (but : ℕ → Bool) (n i w : ℕ) (vs : List ℕ) (c d : Content) → but n ≡ false → Beside but c d → Beside but (wrote n i w vs c) (wrote n i w vs d)
beside_wrote but n i w vs c d in_both b = rw (b.alike n in_both) (go (at c.objects n))
  where
    go : (x : Option Object) → Beside but (wrote_if x n i w vs c) (wrote_if x n i w vs d)
    go None = b
    go (Some o) = beside_object but but n (with_words i w vs o) c d (λ k ne e. e) b

pub slots_beside : (but : ℕ → Bool) (n : ℕ) (c d : Content) → but n ≡ false → Beside but c d → slots_at d n ≡ slots_at c n
slots_beside but n c d in_both b = ap slots_if (b.alike n in_both)

-- ---- values that are taken

-- the same words, and contents beside one another
pub record Alike {A : Type 0} (but : ℕ → Bool) (v w : A × Content) : Type 0 where
  pub words : w.0 ≡ v.0
  pub contents : Beside but v.1 w.1

renamed_beside : (but : ℕ → Bool) (x : Option ℕ) (c d : Content) → Beside but c d → ((k : ℕ) → 0 < times (listed x) k → but k ≡ false) → Alike but (renamed x c) (renamed x d)
renamed_beside but None c d b clear = record { words = refl; contents = b }
renamed_beside but (Some n) c d b clear =
    let s = one_same n n refl in
    rw (b.alike n (clear n (omega arith))) (go (at c.objects n))
  where
    go : (x : Option Object) → Alike but (renamed_if x n c) (renamed_if x n d)
    go None = record { words = refl; contents = b }
    go (Some o) = record {
      words = ap (λ m. owner_word (Some m) ∷ []) b.births;
      contents = beside_born but o o (without n c) (without n d) refl (beside_without but but n c d (λ k ne e. e) b);
    }

behind_beside : (but : ℕ → Bool) (a b : Words) (f g : Content → Words) → Alike but a b → (Beside but a.1 b.1 → Alike but (f a.1) (g b.1)) → Alike but (behind_first a f) (behind_first b g)
behind_beside but a b f g one more =
    let r = more one.contents in
    record { words = ap (λ (xs : List ℕ). xs ++ (g b.1).0) one.words ∙ ap (λ (ys : List ℕ). a.0 ++ ys) r.words; contents = r.contents }

pub taken_beside : (but : ℕ → Bool) (p : Parts) (ws : List ℕ) (c d : Content) → Beside but c d → ((k : ℕ) → 0 < times (owned_of p ws) k → but k ≡ false) → Alike but (taken p ws c) (taken p ws d)
taken_beside but Single ws c d b clear = record { words = refl; contents = b }
taken_beside but Raw ws c d b clear = record { words = refl; contents = b }
taken_beside but Iterates ws c d b clear = record { words = refl; contents = b }
taken_beside but Views ws c d b clear = record { words = refl; contents = b }
taken_beside but (Text ty) ws c d b clear = renamed_beside but (owned_in (slice_index ws 0)) c d b clear
taken_beside but (Vector ty element) ws c d b clear = record { words = refl; contents = b }
taken_beside but (Unique ty target) ws c d b clear = record { words = refl; contents = b }
taken_beside but (Member first others) ws c d b clear =
    behind_beside but (taken first (take (width first) ws) c) (taken first (take (width first) ws) d) (taken others (drop (width first) ws)) (taken others (drop (width first) ws))
    (taken_beside but first (take (width first) ws) c d b
    (λ k lt. let e = times-append (owned_of first (take (width first) ws)) (owned_of others (drop (width first) ws)) k in clear k (omega arith)))
    (λ after. taken_beside but others (drop (width first) ws) (taken first (take (width first) ws) c).1 (taken first (take (width first) ws) d).1 after
    (λ k lt. let e = times-append (owned_of first (take (width first) ws)) (owned_of others (drop (width first) ws)) k in clear k (omega arith)))
taken_beside but NoMember ws c d b clear = record { words = refl; contents = b }

pub taken_slots_beside : (but : ℕ → Bool) (p : Parts) (ss : List Slot) (c d : Content) → Beside but c d → ((k : ℕ) → 0 < times (owned_slots p ss) k → but k ≡ false)
    → Alike but (taken_slots p ss c) (taken_slots p ss d)
taken_slots_beside but p [] c d b clear = record { words = refl; contents = b }
taken_slots_beside but p (s ∷ ss) c d b clear =
    let one = taken_beside but p s.words c d b (λ k lt. let e = times-append (owned_of p s.words) (owned_slots p ss) k in clear k (omega arith)) in
    let more = taken_slots_beside but p ss (taken p s.words c).1 (taken p s.words d).1 one.contents (λ k lt. let e = times-append (owned_of p s.words) (owned_slots p ss) k in clear k (omega arith)) in
    record {
      words = ap (λ (v : List ℕ). v ∷ (taken_slots p ss (taken p s.words d).1).0) one.words ∙ ap (λ (vs : List (List ℕ)). (taken p s.words c).0 ∷ vs) more.words;
      contents = more.contents;
    }

-- ---- what isn't among what they own stays

pub taken_births : (p : Parts) (ws : List ℕ) (c : Content) → c.births ≤ (taken p ws c).1.births
taken_births Single ws c = omega arith
taken_births Raw ws c = omega arith
taken_births Iterates ws c = omega arith
taken_births Views ws c = omega arith
taken_births (Text ty) ws c = go (owned_in (slice_index ws 0))
  where
    renamed_births : (x : Option Object) (n : ℕ) → c.births ≤ (renamed_if x n c).1.births
    renamed_births None n = omega arith
    renamed_births (Some o) n = omega arith

    go : (x : Option ℕ) → c.births ≤ (renamed x c).1.births
    go None = omega arith
    go (Some n) = renamed_births (at c.objects n) n
taken_births (Vector ty element) ws c = omega arith
taken_births (Unique ty target) ws c = omega arith
taken_births (Member first others) ws c =
    let a = taken_births first (take (width first) ws) c in
    let b = taken_births others (drop (width first) ws) (taken first (take (width first) ws) c).1 in
    omega arith
taken_births NoMember ws c = omega arith

pub taken_stays : (p : Parts) (ws : List ℕ) (c : Content) (k : ℕ) → k < c.births → times (owned_of p ws) k ≡ 0 → at (taken p ws c).1.objects k ≡ at c.objects k
taken_stays Single ws c k lt z = refl
taken_stays Raw ws c k lt z = refl
taken_stays Iterates ws c k lt z = refl
taken_stays Views ws c k lt z = refl
taken_stays (Text ty) ws c k lt z = go (owned_in (slice_index ws 0)) z
  where
    renamed_stays : (x : Option Object) (n : ℕ) → n ≢ k → at (renamed_if x n c).1.objects k ≡ at c.objects k
    renamed_stays None n ne = refl
    renamed_stays (Some o) n ne = at-set_other (unset c.objects n) c.births k o (λ e. absurd (omega (arith, e, lt))) ∙ at-unset_other c.objects n k ne

    go : (x : Option ℕ) → times (listed x) k ≡ 0 → at (renamed x c).1.objects k ≡ at c.objects k
    go None h = refl
    go (Some n) h = renamed_stays (at c.objects n) n (λ e. let s = one_same n k e in absurd (omega arith))
taken_stays (Vector ty element) ws c k lt z = refl
taken_stays (Unique ty target) ws c k lt z = refl
taken_stays (Member first others) ws c k lt z =
    let a = times-append (owned_of first (take (width first) ws)) (owned_of others (drop (width first) ws)) k in
    let b = taken_births first (take (width first) ws) c in
    taken_stays others (drop (width first) ws) (taken first (take (width first) ws) c).1 k (omega arith) (omega arith)
    ∙ taken_stays first (take (width first) ws) c k lt (omega arith)
taken_stays NoMember ws c k lt z = refl

pub taken_slots_stay : (p : Parts) (ss : List Slot) (c : Content) (k : ℕ) → k < c.births → times (owned_slots p ss) k ≡ 0 → at (taken_slots p ss c).1.objects k ≡ at c.objects k
taken_slots_stay p [] c k lt z = refl
taken_slots_stay p (s ∷ ss) c k lt z =
    let a = times-append (owned_of p s.words) (owned_slots p ss) k in
    let b = taken_births p s.words c in
    taken_slots_stay p ss (taken p s.words c).1 k (omega arith) (omega arith)
    ∙ taken_stays p s.words c k lt (omega arith)

pub length-taken_slots : (p : Parts) (ss : List Slot) (c : Content) → length (taken_slots p ss c).0 ≡ length ss
length-taken_slots p [] c = refl
length-taken_slots p (s ∷ ss) c = ap suc (length-taken_slots p ss (taken p s.words c).1)
