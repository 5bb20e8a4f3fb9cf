-- What is taken part by part is what the meaning takes by the parts of the value's type, written back.
use Rattle.std.proofs.Common.{◌≡◌, ◌≢◌, ℕ, zero, suc, ◌+◌, ◌≤◌, ◌<◌, List, [], ◌∷◌, ◌++◌, length, take, drop, Option, Some, None, refl, sym, ap, ◌∙◌, arith, length-append}
use Rattle.std.specs.Prelude.{slice_get, slice_index}
use Rattle.life_store.specs.Cells.{Cells, at, set, unset, at-set_same, at-set_other, at-unset_other}
use Rattle.life_store.specs.Content.{Object, Content, with_object, with_rename, with_word, word_at, without}
use Rattle.life_store.specs.Held.{owned_in, slots_if, with_words, words_at, words_if, wrote, wrote_if}
use Rattle.life_store.specs.Owners.{Words, renamed, renamed_if, taken}
use Rattle.life_store.specs.Parts.{Parts, Single, Raw, Iterates, Views, Text, Vector, Unique, Member, NoMember, width}
use Rattle.life_store.proofs.MapLemmas.{set_apart, set_back, set-unset, unset_apart}
use Rattle.life_forest.specs.Owned.{times}
use Rattle.life_forest.specs.Values.{listed, owned_of}
use Rattle.life_forest.proofs.Counting.{one_same, times-append}
use Rattle.life_values.specs.Layouts.{flat}
use Rattle.life_values.specs.Taken.{leaf_taken, leaves_taken, owned_if, renewed, wrote_back}
use Rattle.life_values.specs.declared.layout.Leaf.{Leaf}
use Rattle.life_values.proofs.ReadWords.{read, read_back, read_behind, read_front, read_is, read_length, read_same, with_twice}
use Rattle.life_values.proofs.Zeros.{words-append, wrote_with}

-- ---- what is taken is as wide, and leaves what isn't owned

renamed_wide : (x : Option Object) (q : ℕ) (d : Content) → length (renamed_if x q d).0 ≡ 1
renamed_wide None q d = refl
renamed_wide (Some o) q d = refl

pub taken_wide : (p : Parts) (ws : List ℕ) (d : Content) → length ws ≡ width p → length (taken p ws d).0 ≡ width p
taken_wide Single ws d e = e
taken_wide Raw ws d e = e
taken_wide Iterates ws d e = e
taken_wide Views ws d e = e
taken_wide (Text ty) ws d e = go (owned_in (slice_index ws 0))
  where
    go : (x : Option ℕ) → length (renamed x d).0 ≡ 1
    go None = refl
    go (Some q) = renamed_wide (at d.objects q) q d
taken_wide (Vector ty element) ws d e = e
taken_wide (Unique ty target) ws d e = e
taken_wide (Member first others) ws d e =
    let a = taken first (take (width first) ws) d in
    let b = taken others (drop (width first) ws) a.1 in
    let l = length-append a.0 b.0 in
    let x = taken_wide first (take (width first) ws) d (front_long (width first) (width others) ws e) in
    let y = taken_wide others (drop (width first) ws) a.1 (back_long (width first) (width others) ws e) in
    omega (arith, l, x, y)
  where
    front_long : (k j : ℕ) (xs : List ℕ) → length xs ≡ k + j → length (take k xs) ≡ k
    front_long zero j [] h = refl
    front_long zero j (x ∷ xs) h = refl
    front_long (suc k) j [] h = absurd (omega (arith, h))
    front_long (suc k) j (x ∷ xs) h = let r = front_long k j xs (omega (arith, h)) in omega (arith, r)

    back_long : (k j : ℕ) (xs : List ℕ) → length xs ≡ k + j → length (drop k xs) ≡ j
    back_long zero j [] h = omega (arith, h)
    back_long zero j (x ∷ xs) h = omega (arith, h)
    back_long (suc k) j [] h = absurd (omega (arith, h))
    back_long (suc k) j (x ∷ xs) h = back_long k j xs (omega (arith, h))
taken_wide NoMember ws d e = e

module _ (n : ℕ) where
  -- the object is there, and was born
  pub record Sits (o : Option Object) (d : Content) : Type 0 where
    pub born : n < d.births
    pub there : at d.objects n ≡ o

  differs : (q : ℕ) → times (q ∷ []) n ≡ 0 → q ≢ n
  differs q z e = let s = one_same q n e in absurd (omega (arith, z, s))

  renamed_sits : (old : Option Object) (x : Option Object) (q : ℕ) (d : Content) → q ≢ n → Sits old d → Sits old (renamed_if x q d).1
  renamed_sits old None q d ne sits = sits
  renamed_sits old (Some x) q d ne sits = record {
    born = let b = sits.born in omega (arith, b);
    there = at-set_other (without q d).objects d.births n x (λ e. let b = sits.born in absurd (omega (arith, b, e))) ∙ at-unset_other d.objects q n ne ∙ sits.there;
  }

  taken_sits : (old : Option Object) (p : Parts) (ws : List ℕ) (d : Content) → times (owned_of p ws) n ≡ 0 → Sits old d → Sits old (taken p ws d).1
  taken_sits old Single ws d z sits = sits
  taken_sits old Raw ws d z sits = sits
  taken_sits old Iterates ws d z sits = sits
  taken_sits old Views ws d z sits = sits
  taken_sits old (Text ty) ws d z sits = go (owned_in (slice_index ws 0)) z
    where
      go : (x : Option ℕ) → times (listed x) n ≡ 0 → Sits old (renamed x d).1
      go None h = sits
      go (Some q) h = renamed_sits old (at d.objects q) q d (differs q h) sits
  taken_sits old (Vector ty element) ws d z sits = sits
  taken_sits old (Unique ty target) ws d z sits = sits
  taken_sits old (Member first others) ws d z sits =
      let e = times-append (owned_of first (take (width first) ws)) (owned_of others (drop (width first) ws)) n in
      taken_sits old others (drop (width first) ws) (taken first (take (width first) ws) d).1 (omega (arith, e, z)) (taken_sits old first (take (width first) ws) d (omega (arith, e, z)) sits)
  taken_sits old NoMember ws d z sits = sits

  -- ---- a rename beside the object

  rename_beside : (q : ℕ) (x o : Object) (d : Content) → q ≢ n → n < d.births → with_rename q x (with_object n o d) ≡ with_object n o (with_rename q x d)
  rename_beside q x o d ne born =
      ap (λ (m : Cells Object). record { objects = m; births = d.births + 1; clock = d.clock })
      (ap (λ (m : Cells Object). set m d.births x) (unset_apart d.objects n q o (λ e. ne (sym e)))
      ∙ set_apart (unset d.objects q) n d.births o x (λ e. absurd (omega (arith, born, e))))

  module _ (i : ℕ) where
    renamed_beside : (u : ℕ) (x : Option ℕ) (o : Object) (d : Content) → times (listed x) n ≡ 0 → n < d.births
        → wrote_back n i u (renamed x (with_object n (with_word i u 0 o) d)) ≡ with_object n (with_words i u (renamed x d).0 o) (renamed x d).1
    renamed_beside u None o d z born = wrote_with n i u (0 ∷ []) (with_word i u 0 o) d ∙ ap (λ (y : Object). with_object n y d) (with_twice i u 0 0 o)
    renamed_beside u (Some q) o d z born =
        ap (λ (y : Option Object). wrote_back n i u (renamed_if y q (with_object n (with_word i u 0 o) d))) (at-set_other d.objects n q (with_word i u 0 o) (λ e. differs q z (sym e)))
        ∙ go (at d.objects q)
      where
        go : (y : Option Object) → wrote_back n i u (renamed_if y q (with_object n (with_word i u 0 o) d)) ≡ with_object n (with_words i u (renamed_if y q d).0 o) (renamed_if y q d).1
        go None = wrote_with n i u (suc q ∷ []) (with_word i u 0 o) d ∙ ap (λ (y : Object). with_object n y d) (with_twice i u 0 (suc q) o)
        go (Some x) =
            ap (wrote n i u (suc d.births ∷ [])) (rename_beside q x (with_word i u 0 o) d (differs q z) born)
            ∙ wrote_with n i u (suc d.births ∷ []) (with_word i u 0 o) (with_rename q x d)
            ∙ ap (λ (y : Object). with_object n y (with_rename q x d)) (with_twice i u 0 (suc d.births) o)

    renewed_is : (u : ℕ) (o : Object) (d : Content) → times (listed (owned_in (word_at o i u))) n ≡ 0 → n < d.births
        → renewed n i u (with_object n o d) ≡ with_object n (with_words i u (renamed (owned_in (word_at o i u)) d).0 o) (renamed (owned_in (word_at o i u)) d).1
    renewed_is u o d z born =
        (λ j. wrote_back n i u (renamed (owned_if (at-set_same d.objects n n o refl j) i u) (wrote_with n i u (0 ∷ []) o d j)))
        ∙ renamed_beside u (owned_in (word_at o i u)) o d z born

    -- ---- part by part

    leaves-append : (w : ℕ) (xs ys : List Leaf) (c : Content) → leaves_taken n i w (xs ++ ys) c ≡ leaves_taken n i w ys (leaves_taken n i w xs c)
    leaves-append w [] ys c = refl
    leaves-append w (x ∷ xs) ys c = leaves-append w xs ys (leaf_taken n i (w + x.word) x.holds c)

    -- the object with the words that were taken
    abbrev with_taken : (word : ℕ) → Object → Words → Content
    with_taken u o v = with_object n (with_words i u v.0 o) v.1

    as_it_is : (u k : ℕ) (o : Object) (d : Content) → with_object n o d ≡ with_taken u o (read i u k o, d)
    as_it_is u k o d = ap (λ (y : Object). with_object n y d) (sym (read_same i u k o))

    pub taken_leaves : (p : Parts) (w v : ℕ) (o : Object) (d : Content) → times (owned_of p (read i (w + v) (width p) o)) n ≡ 0 → n < d.births
        → leaves_taken n i w (flat v p) (with_object n o d) ≡ with_taken (w + v) o (taken p (read i (w + v) (width p) o) d)
    taken_leaves Single w v o d z born = as_it_is (w + v) 1 o d
    taken_leaves Raw w v o d z born = as_it_is (w + v) 5 o d
    taken_leaves Iterates w v o d z born = as_it_is (w + v) 5 o d
    taken_leaves Views w v o d z born = as_it_is (w + v) 5 o d
    taken_leaves (Text ty) w v o d z born = renewed_is (w + v) o d z born
    taken_leaves (Vector ty element) w v o d z born = as_it_is (w + v) 1 o d
    taken_leaves (Unique ty target) w v o d z born = as_it_is (w + v) 1 o d
    taken_leaves (Member first others) w v o d z born =
        let ws : List ℕ = read i (w + v) (width first + width others) o in
        let front : take (width first) (read i (w + v) (width first + width others) o) ≡ read i (w + v) (width first) o = read_front i (w + v) (width first) (width others) o in
        let back : drop (width first) (read i (w + v) (width first + width others) o) ≡ read i (w + v + width first) (width others) o = read_back i (w + v) (width first) (width others) o in
        let e = times-append (owned_of first (take (width first) ws)) (owned_of others (drop (width first) ws)) n in
        let one : times (owned_of first (read i (w + v) (width first) o)) n ≡ 0 = (let f = ap (λ xs. times (owned_of first xs) n) front in omega (arith, e, z, f)) in
        let two : times (owned_of others (read i (w + v + width first) (width others) o)) n ≡ 0 = (let f = ap (λ xs. times (owned_of others xs) n) back in omega (arith, e, z, f)) in
        let a : Words = taken first (read i (w + v) (width first) o) d in
        let long : length a.0 ≡ width first = taken_wide first (read i (w + v) (width first) o) d (read_length i (w + v) (width first) o) in
        let sits = taken_sits (at d.objects n) first (read i (w + v) (width first) o) d one (record { born = born; there = refl }) in
        let o' : Object = with_words i (w + v) a.0 o in
        let k : w + (v + width first) ≡ w + v + width first = omega arith in
        let same : read i (w + (v + width first)) (width others) o' ≡ read i (w + v + width first) (width others) o =
        ap (λ u. read i u (width others) o') k ∙ read_behind i (w + v) a.0 o (w + v + width first) (width others) (omega (arith, long)) in
        leaves-append w (flat v first) (flat (v + width first) others) (with_object n o d)
        ∙ ap (leaves_taken n i w (flat (v + width first) others)) (taken_leaves first w v o d one born)
        ∙ taken_leaves others w (v + width first) o' a.1 (ap (λ xs. times (owned_of others xs) n) same ∙ two) sits.born
        ∙ (λ j. with_object n (with_words i (k j) (taken others (same j) a.1).0 o') (taken others (same j) a.1).1)
        ∙ behind a long (taken others (read i (w + v + width first) (width others) o) a.1)
        ∙ (λ j. with_taken (w + v) o ((taken first (front_is front j) d).0 ++ (taken others (front_is back j) (taken first (front_is front j) d).1).0, (taken others (front_is back j) (taken first (front_is front j) d).1).1))
      where
        front_is : {xs ys : List ℕ} → xs ≡ ys → ys ≡ xs
        front_is e = sym e

        behind : (a : Words) → length a.0 ≡ width first → (b : Words) → with_object n (with_words i (w + v + width first) b.0 (with_words i (w + v) a.0 o)) b.1 ≡ with_taken (w + v) o (a.0 ++ b.0, b.1)
        behind a long b =
            ap (λ (y : Object). with_object n y b.1)
            (ap (λ u. with_words i (w + v + u) b.0 (with_words i (w + v) a.0 o)) (sym long) ∙ sym (words-append i (w + v) a.0 b.0 o))
    taken_leaves NoMember w v o d z born = refl

    -- ---- into its own place

    pub taken_meant : (p : Parts) (w : ℕ) (m : Content) (o : Object) → at m.objects n ≡ Some o → n < m.births → w + width p ≤ length (words_if (slice_get o.slots i)) → times (owned_of p (words_at m n i w (width p))) n ≡ 0
        → leaves_taken n i w (flat 0 p) m ≡ wrote n i w (taken p (words_at m n i w (width p)) m).0 (taken p (words_at m n i w (width p)) m).1
    taken_meant p w m o there born fits z =
        let k : w + 0 ≡ w = omega arith in
        let ws : List ℕ = words_at m n i w (width p) in
        let is : read i (w + 0) (width p) o ≡ words_at m n i w (width p) =
        ap (λ u. read i u (width p) o) k ∙ read_is i w (width p) o fits ∙ ap (λ (x : Option Object). take (width p) (drop w (words_if (slice_get (slots_if x) i)))) (sym there) in
        let same : m ≡ with_object n o m = ap (λ (x : Cells Object). record { objects = x; births = m.births; clock = m.clock }) (sym (sym (set-unset m.objects n o) ∙ set_back m.objects n o there)) in
        let sits = taken_sits (Some o) p ws m z (record { born = born; there = there }) in
        ap (leaves_taken n i w (flat 0 p)) same
        ∙ taken_leaves p w 0 o m (ap (λ xs. times (owned_of p xs) n) is ∙ z) born
        ∙ (λ j. with_taken (k j) o (taken p (is j) m))
        ∙ ap (λ (x : Option Object). wrote_if x n i w (taken p (words_at m n i w (width p)) m).0 (taken p (words_at m n i w (width p)) m).1) (sym sits.there)
