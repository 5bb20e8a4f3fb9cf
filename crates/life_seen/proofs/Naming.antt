-- The number in each row goes along with births, ends and renames.
use Rattle.std.proofs.Common.{◌≡◌, ℕ, zero, suc, ◌+◌, ◌<◌, ◌≤◌, Option, Some, None, refl, sym, ap, ◌∙◌, arith}
use Rattle.std.proofs.lemmas.Option.{none-some, same_Some}
use Rattle.life_store.specs.Cells.{at, set, unset, at-none, at-set_same, at-set_other, at-unset_other, same_cells}
use Rattle.life_store.specs.References.{Rows, IsFreeRow}
use Rattle.life_store.proofs.MapLemmas.{one_or_apart}
use Rattle.life_seen.specs.Named.{named_if, inverted, AreApart}
use Rattle.life_seen.proofs.MapViews.{set_cases, unset_there}

-- ---- what stands in it

abbrev pub IsOf : ℕ → Rows → ℕ → ℕ → Type 0
IsOf b rows k n = (n < b) × (at rows n ≡ Some k)

one_more : (b : ℕ) (rows : Rows) (k n : ℕ) (x : Option ℕ) → at rows b ≡ x → at (named_if x b (inverted b rows)) k ≡ Some n → (at (inverted b rows) k ≡ Some n → IsOf b rows k n) → IsOf (suc b) rows k n
one_more b rows k n None e t below = let r = below t in (omega (arith, r.0), r.1)
one_more b rows k n (Some j) e t below =
    set_cases (inverted b rows) j k b n t
    (λ row same. (omega (arith, same), ap (at rows) (sym same) ∙ e ∙ ap Some row))
    (λ ne old. let r = below old in (omega (arith, r.0), r.1))

pub inverted_is : (b : ℕ) (rows : Rows) (k n : ℕ) → at (inverted b rows) k ≡ Some n → IsOf b rows k n
unfolding inverted
inverted_is zero rows k n there = absurd (none-some n (sym (at-none k) ∙ there))
inverted_is (suc b) rows k n there = one_more b rows k n (at rows b) refl there (inverted_is b rows k n)

found_more : (b : ℕ) (rows : Rows) (k n : ℕ) → AreApart rows → n < suc b → at rows n ≡ Some k → (n < b → at (inverted b rows) k ≡ Some n) → (x : Option ℕ) → at rows b ≡ x → at (named_if x b (inverted b rows)) k ≡ Some n
found_more b rows k n apart lt there below None e =
    one_or_apart n b
    (λ same. absurd (none-some k (sym e ∙ ap (at rows) (sym same) ∙ there)))
    (λ ne. below (omega (arith, lt, ne)))
found_more b rows k n apart lt there below (Some j) e =
    one_or_apart n b
    (λ same. at-set_same (inverted b rows) j k b (same_Some j k (sym e ∙ ap (at rows) (sym same) ∙ there)) ∙ ap Some (sym same))
    (λ ne. at-set_other (inverted b rows) j k b (λ row. ne (apart n b k there (e ∙ ap Some row))) ∙ below (omega (arith, lt, ne)))

pub inverted_has : (b : ℕ) (rows : Rows) (k n : ℕ) → AreApart rows → n < b → at rows n ≡ Some k → at (inverted b rows) k ≡ Some n
unfolding inverted
inverted_has zero rows k n apart lt there = absurd (omega (arith, lt))
inverted_has (suc b) rows k n apart lt there = found_more b rows k n apart lt there (λ l. inverted_has b rows k n apart l there) (at rows b) refl

-- ---- a birth

unchanged_below : (b c k : ℕ) (rows : Rows) → b ≤ c → inverted b (set rows c k) ≡ inverted b rows
unfolding inverted
unchanged_below zero c k rows le = refl
unchanged_below (suc b) c k rows le = (λ i. named_if (at-set_other rows c b k (λ e. absurd (omega (arith, le, e))) i) b (unchanged_below b c k rows (omega (arith, le)) i))

pub inverted_birth : (b k : ℕ) (rows : Rows) → inverted (b + 1) (set rows b k) ≡ set (inverted b rows) k b
unfolding inverted
inverted_birth b k rows =
    let j : b + 1 ≡ suc b = omega arith in
    ap (λ n. inverted n (set rows b k)) j ∙ (λ i. named_if (at-set_same rows b b k refl i) b (unchanged_below b b k rows (omega arith) i))

pub inverted_free : (b k : ℕ) (rows : Rows) → IsFreeRow rows k → at (inverted b rows) k ≡ None
inverted_free b k rows free = go (at (inverted b rows) k) refl
  where
    go : (x : Option ℕ) → at (inverted b rows) k ≡ x → x ≡ None
    go None e = refl
    go (Some n) e = absurd (free n (inverted_is b rows k n e).1)

pub apart_birth : (b k : ℕ) (rows : Rows) → AreApart rows → IsFreeRow rows k → AreApart (set rows b k)
apart_birth b k rows apart free m n j x y =
    set_cases rows b m k j x
    (λ e row. set_cases rows b n k j y (λ f r. sym e ∙ f) (λ ne old. absurd (free n (old ∙ ap Some (sym row)))))
    (λ nm old. set_cases rows b n k j y (λ f r. absurd (free m (old ∙ ap Some (sym r)))) (λ ne older. apart m n j old older))

-- ---- an end

pub apart_end : (n : ℕ) (rows : Rows) → AreApart rows → AreApart (unset rows n)
apart_end n rows apart m p k x y = apart m p k (unset_there rows n m k x).1 (unset_there rows n p k y).1

pub inverted_end : (b k n : ℕ) (rows : Rows) → AreApart rows → n < b → at rows n ≡ Some k → inverted b (unset rows n) ≡ unset (inverted b rows) k
inverted_end b k n rows apart lt there = same_cells (inverted b (unset rows n)) (unset (inverted b rows) k) (λ q. go q (at (unset (inverted b rows) k) q) refl (at (inverted b (unset rows n)) q) refl)
  where
    go : (q : ℕ) (y : Option ℕ) → at (unset (inverted b rows) k) q ≡ y → (x : Option ℕ) → at (inverted b (unset rows n)) q ≡ x → at (inverted b (unset rows n)) q ≡ at (unset (inverted b rows) k) q
    go q None f None e = e ∙ sym f
    go q y f (Some m) e =
        let r = inverted_is b (unset rows n) q m e in
        let old = unset_there rows n m q r.1 in
        e ∙ sym (at-unset_other (inverted b rows) k q (λ row. old.0 (apart n m q (there ∙ ap Some row) old.1)) ∙ inverted_has b rows q m apart r.0 old.1)
    go q (Some m) f None e =
        let old = unset_there (inverted b rows) k q m f in
        let r = inverted_is b rows q m old.1 in
        absurd (none-some m (sym e ∙ inverted_has b (unset rows n) q m (apart_end n rows apart) r.0
        (at-unset_other rows n m (λ same. old.0 (same_Some k q (sym there ∙ ap (at rows) same ∙ r.1))) ∙ r.1)))
