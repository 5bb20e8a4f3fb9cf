-- What lies in rows, and how it changes.
use Rattle.std.proofs.Common.{◌≡◌, ◌≢◌, ℕ, zero, suc, ◌+◌, ◌*◌, ◌≤◌, ◌<◌, min, List, [], ◌∷◌, ◌++◌, length, Option, Some, None, cond, refl, sym, ap, subst, ◌∙◌, arith, ⊎_elim, ◌⊎◌, inl, inr}
use Rattle.std.proofs.lemmas.Bool.Decides.{eqb_tells}
use Rattle.std.proofs.lemmas.Option.{none-some, same_Some}
use Rattle.std.specs.Prelude.{slice_get, slice_set, nat_eq, option_map, option_and_then}
use Rattle.life_store.specs.Cells.{none, at, set, unset, sum_over, at-none, at-set_same, at-set_other}
use Rattle.life_store.specs.Content.{cost}
use Rattle.life_store.specs.PlainRows.{Row, objects_in, rows_in, cost_in, IsAbsent, AreNumbered, AreTaken, entry_if, entry_at, Table, content_of, rows_of}
use Rattle.life_store.specs.References.{object_of, IsFreeRow}
use Rattle.life_store.specs.declared.object.ObjRef.{ObjRef}
use Rattle.life_store.specs.declared.plain_rows.Entry.{Entry}
use Rattle.life_store.proofs.MapLemmas.{one_or_apart, set_apart, unset-set, unset_apart, sum-none, sum-set_fresh}

-- ---- what is absent, and what is found

pub absent_object : (n : ℕ) (rows : List Row) → IsAbsent n rows → at (objects_in rows) n ≡ None
absent_object n [] h = at-none n
absent_object n (None ∷ rows) h = absent_object n rows h
absent_object n (Some e ∷ rows) h = at-set_other (objects_in rows) e.birth n e.object h.0 ∙ absent_object n rows h.1

absent_row : (n a : ℕ) (rows : List Row) → IsAbsent n rows → at (rows_in a rows) n ≡ None
absent_row n a [] h = at-none n
absent_row n a (None ∷ rows) h = absent_row n (a + 1) rows h
absent_row n a (Some e ∷ rows) h = at-set_other (rows_in (a + 1) rows) e.birth n a h.0 ∙ absent_row n (a + 1) rows h.1

-- where the number is absent, what is in a row has another
absent_apart : (n : ℕ) (rows : List Row) (i : ℕ) (e : Entry) → IsAbsent n rows → slice_get rows i ≡ Some (Some e) → e.birth ≢ n
absent_apart n [] i e h there = absurd (none-some (Some e) there)
absent_apart n (None ∷ rows) zero e h there = absurd (none-some e (same_Some None (Some e) there))
absent_apart n (None ∷ rows) (suc i) e h there = absent_apart n rows i e h there
absent_apart n (Some d ∷ rows) zero e h there = subst (λ (x : Entry). x.birth ≢ n) (same_Some d e (same_Some (Some d) (Some e) there)) h.0
absent_apart n (Some d ∷ rows) (suc i) e h there = absent_apart n rows i e h.1 there

found_object : (b : ℕ) (rows : List Row) (i : ℕ) (e : Entry) → AreNumbered b rows → slice_get rows i ≡ Some (Some e) → at (objects_in rows) e.birth ≡ Some e.object
found_object b [] i e h there = absurd (none-some (Some e) there)
found_object b (None ∷ rows) zero e h there = absurd (none-some e (same_Some None (Some e) there))
found_object b (None ∷ rows) (suc i) e h there = found_object b rows i e h there
found_object b (Some d ∷ rows) zero e h there =
    let same = same_Some d e (same_Some (Some d) (Some e) there) in
    at-set_same (objects_in rows) d.birth e.birth d.object (ap (λ (x : Entry). x.birth) same) ∙ ap (λ (x : Entry). Some x.object) same
found_object b (Some d ∷ rows) (suc i) e h there =
    at-set_other (objects_in rows) d.birth e.birth d.object (λ same. absent_apart d.birth rows i e h.1 there (sym same)) ∙ found_object b rows i e h.2 there

pub found_row : (b a : ℕ) (rows : List Row) (i : ℕ) (e : Entry) → AreNumbered b rows → slice_get rows i ≡ Some (Some e) → at (rows_in a rows) e.birth ≡ Some (a + i)
found_row b a [] i e h there = absurd (none-some (Some e) there)
found_row b a (None ∷ rows) zero e h there = absurd (none-some e (same_Some None (Some e) there))
found_row b a (None ∷ rows) (suc i) e h there = let k : a + 1 + i ≡ a + suc i = omega arith in found_row b (a + 1) rows i e h there ∙ ap Some k
found_row b a (Some d ∷ rows) zero e h there =
    let k : a ≡ a + 0 = omega arith in
    at-set_same (rows_in (a + 1) rows) d.birth e.birth a (ap (λ (x : Entry). x.birth) (same_Some d e (same_Some (Some d) (Some e) there))) ∙ ap Some k
found_row b a (Some d ∷ rows) (suc i) e h there =
    let k : a + 1 + i ≡ a + suc i = omega arith in
    at-set_other (rows_in (a + 1) rows) d.birth e.birth a (λ same. absent_apart d.birth rows i e h.1 there (sym same)) ∙ found_row b (a + 1) rows i e h.2 there ∙ ap Some k

-- the number lies in some row
pub record LiesIn (n i : ℕ) (rows : List Row) : Type 0 where
  pub entry : Entry
  pub there : slice_get rows i ≡ Some (Some entry)
  pub numbered : entry.birth ≡ n

-- .. or is absent
sought : (n : ℕ) (rows : List Row) → ((i : ℕ) × LiesIn n i rows) ⊎ IsAbsent n rows
sought n [] = inr tt
sought n (None ∷ rows) = ⊎_elim (λ h. inl (suc h.0, record { entry = h.1.entry; there = h.1.there; numbered = h.1.numbered })) (λ h. inr h) (sought n rows)
sought n (Some e ∷ rows) =
    one_or_apart e.birth n (λ same. inl (zero, record { entry = e; there = refl; numbered = same }))
    (λ apart. ⊎_elim (λ h. inl (suc h.0, record { entry = h.1.entry; there = h.1.there; numbered = h.1.numbered })) (λ h. inr (apart, h)) (sought n rows))

-- a number that was not given out is absent
pub new_absent : (b : ℕ) (rows : List Row) → AreNumbered b rows → IsAbsent b rows
new_absent b [] h = tt
new_absent b (None ∷ rows) h = new_absent b rows h
new_absent b (Some e ∷ rows) h = ((λ same. absurd (omega (arith, same, h.0))), new_absent b rows h.2)

pub numbered_below : (b : ℕ) (rows : List Row) (i : ℕ) (e : Entry) → AreNumbered b rows → slice_get rows i ≡ Some (Some e) → e.birth < b
numbered_below b [] i e h there = absurd (none-some (Some e) there)
numbered_below b (None ∷ rows) zero e h there = absurd (none-some e (same_Some None (Some e) there))
numbered_below b (None ∷ rows) (suc i) e h there = numbered_below b rows i e h there
numbered_below b (Some d ∷ rows) zero e h there = subst (λ (x : Entry). x.birth < b) (same_Some d e (same_Some (Some d) (Some e) there)) h.0
numbered_below b (Some d ∷ rows) (suc i) e h there = numbered_below b rows i e h.2 there

-- what the rows say of a number's row
row_found : (b n k : ℕ) (rows : List Row) → AreNumbered b rows → at (rows_in 0 rows) n ≡ Some k → LiesIn n k rows
row_found b n k rows h there = ⊎_elim found (λ absent. absurd (none-some k (sym (absent_row n 0 rows absent) ∙ there))) (sought n rows)
  where
    found : ((i : ℕ) × LiesIn n i rows) → LiesIn n k rows
    found f =
        let at_row : at (rows_in 0 rows) n ≡ Some (0 + f.0) = ap (at (rows_in 0 rows)) (sym f.1.numbered) ∙ found_row b 0 rows f.0 f.1.entry h f.1.there in
        let same : 0 + f.0 ≡ k = same_Some (0 + f.0) k (sym at_row ∙ there) in
        let row : f.0 ≡ k = omega (arith, same) in
        subst (λ j. LiesIn n j rows) row f.1

-- a row without an object is free
pub vacant_free : (b k : ℕ) (rows : List Row) → AreNumbered b rows → ((e : Entry) → slice_get rows k ≢ Some (Some e)) → IsFreeRow (rows_in 0 rows) k
vacant_free b k rows h vacant n there = let lies = row_found b n k rows h there in vacant lies.entry lies.there

-- ---- references

entry_parts : (n : ℕ) (o : Option Row) (e : Entry) → entry_if n o ≡ Some e → (o ≡ Some (Some e)) × (e.birth ≡ n)
entry_parts n None e h = absurd (none-some e h)
entry_parts n (Some None) e h = absurd (none-some e h)
entry_parts n (Some (Some d)) e h =
    ⊎_elim
    (λ t. let same = same_Some d e (sym (ap (λ b. cond b (Some d) None) t.0) ∙ h) in (ap (λ x. Some (Some x)) same, sym (ap (λ (x : Entry). x.birth) same) ∙ t.1))
    (λ t. absurd (none-some e (sym (ap (λ b. cond b (Some d) None) t.0) ∙ h)))
    (eqb_tells d.birth n)

-- what an entry that is found is
pub entry_there : (rows : List Row) (r : ObjRef) (e : Entry) → entry_at rows r ≡ Some e → slice_get rows r.row ≡ Some (Some e)
entry_there rows r e h = (entry_parts r.birth (slice_get rows r.row) e h).0

pub entry_number : (rows : List Row) (r : ObjRef) (e : Entry) → entry_at rows r ≡ Some e → e.birth ≡ r.birth
entry_number rows r e h = (entry_parts r.birth (slice_get rows r.row) e h).1

entry_of_there : (n : ℕ) (o : Option Row) (e : Entry) → o ≡ Some (Some e) → e.birth ≡ n → entry_if n o ≡ Some e
entry_of_there n o e there same =
    ap (entry_if n) there ∙ ⊎_elim (λ t. ap (λ b. cond b (Some e) None) t.0) (λ t. absurd (t.1 same)) (eqb_tells e.birth n)

-- the object of a reference is that of its entry
pub object_is : (t : Table) (r : ObjRef) → AreNumbered t.births t.rows → object_of (content_of t) (rows_of t) r ≡ option_map (λ (e : Entry). e.object) (entry_at t.rows r)
object_is t r h = go (at (rows_of t) r.birth) refl (entry_at t.rows r) refl
  where
    go : (o : Option ℕ) → at (rows_of t) r.birth ≡ o → (q : Option Entry) → entry_at t.rows r ≡ q
        → option_and_then (λ row. cond (nat_eq row r.row) (at (objects_in t.rows) r.birth) None) o ≡ option_map (λ (e : Entry). e.object) q
    go None p None q = refl
    go None p (Some e) q =
        absurd (none-some (0 + r.row) (sym p ∙ ap (at (rows_of t)) (sym (entry_number t.rows r e q)) ∙ found_row t.births 0 t.rows r.row e h (entry_there t.rows r e q)))
    go (Some k) p None q =
        ⊎_elim
        (λ same. let lies = row_found t.births r.birth k t.rows h p in
        absurd (none-some lies.entry (sym q ∙ entry_of_there r.birth (slice_get t.rows r.row) lies.entry (ap (slice_get t.rows) (sym same.1) ∙ lies.there) lies.numbered)))
        (λ apart. ap (λ b. cond b (at (objects_in t.rows) r.birth) None) apart.0)
        (eqb_tells k r.row)
    go (Some k) p (Some e) q =
        let there = entry_there t.rows r e q in
        let number = entry_number t.rows r e q in
        let row : k ≡ 0 + r.row = same_Some k (0 + r.row) (sym p ∙ ap (at (rows_of t)) (sym number) ∙ found_row t.births 0 t.rows r.row e h there) in
        ⊎_elim
        (λ same. ap (λ b. cond b (at (objects_in t.rows) r.birth) None) same.0 ∙ ap (at (objects_in t.rows)) (sym number) ∙ found_object t.births t.rows r.row e h there)
        (λ apart. absurd (apart.1 (omega (arith, row))))
        (eqb_tells k r.row)

-- the row of an object that is found
pub row_is : (t : Table) (r : ObjRef) (e : Entry) → AreNumbered t.births t.rows → entry_at t.rows r ≡ Some e → at (rows_of t) r.birth ≡ Some r.row
row_is t r e h q =
    let k : 0 + r.row ≡ r.row = omega arith in
    ap (at (rows_of t)) (sym (entry_number t.rows r e q)) ∙ found_row t.births 0 t.rows r.row e h (entry_there t.rows r e q) ∙ ap Some k

-- ---- live words

pub live_is : (b : ℕ) (rows : List Row) → AreNumbered b rows → sum_over cost (objects_in rows) ≡ cost_in rows
live_is b [] h = sum-none cost
live_is b (None ∷ rows) h = live_is b rows h
live_is b (Some e ∷ rows) h =
    sum-set_fresh cost (objects_in rows) e.birth e.object (absent_object e.birth rows h.1) ∙ ap (λ n. cost e.object + n) (live_is b rows h.2)

-- each row that is taken costs at least two words
pub taken_cost : (n : ℕ) (rows : List Row) → AreTaken n rows → 2 * n ≤ cost_in rows
taken_cost zero rows h = omega arith
taken_cost (suc n) [] h = absurd h
taken_cost (suc n) (None ∷ rows) h = absurd h
taken_cost (suc n) (Some e ∷ rows) h = omega (arith, taken_cost n rows h)

-- ---- a row is emptied

module _ (b : ℕ) (e : Entry) where
  pub emptied_objects : (rows : List Row) (i : ℕ) → AreNumbered b rows → slice_get rows i ≡ Some (Some e) → objects_in (slice_set rows i None) ≡ unset (objects_in rows) e.birth
  emptied_objects [] i h there = absurd (none-some (Some e) there)
  emptied_objects (None ∷ rows) zero h there = absurd (none-some e (same_Some None (Some e) there))
  emptied_objects (None ∷ rows) (suc i) h there = emptied_objects rows i h there
  emptied_objects (Some d ∷ rows) zero h there =
      let same = same_Some d e (same_Some (Some d) (Some e) there) in
      sym (unset-set (objects_in rows) d.birth d.object (absent_object d.birth rows h.1)) ∙ ap (λ (x : Entry). unset (set (objects_in rows) d.birth d.object) x.birth) same
  emptied_objects (Some d ∷ rows) (suc i) h there =
      ap (λ m. set m d.birth d.object) (emptied_objects rows i h.2 there)
      ∙ sym (unset_apart (objects_in rows) d.birth e.birth d.object (λ same. absent_apart d.birth rows i e h.1 there (sym same)))

  pub emptied_rows : (a : ℕ) (rows : List Row) (i : ℕ) → AreNumbered b rows → slice_get rows i ≡ Some (Some e) → rows_in a (slice_set rows i None) ≡ unset (rows_in a rows) e.birth
  emptied_rows a [] i h there = absurd (none-some (Some e) there)
  emptied_rows a (None ∷ rows) zero h there = absurd (none-some e (same_Some None (Some e) there))
  emptied_rows a (None ∷ rows) (suc i) h there = emptied_rows (a + 1) rows i h there
  emptied_rows a (Some d ∷ rows) zero h there =
      let same = same_Some d e (same_Some (Some d) (Some e) there) in
      sym (unset-set (rows_in (a + 1) rows) d.birth a (absent_row d.birth (a + 1) rows h.1)) ∙ ap (λ (x : Entry). unset (set (rows_in (a + 1) rows) d.birth a) x.birth) same
  emptied_rows a (Some d ∷ rows) (suc i) h there =
      ap (λ m. set m d.birth a) (emptied_rows (a + 1) rows i h.2 there)
      ∙ sym (unset_apart (rows_in (a + 1) rows) d.birth e.birth a (λ same. absent_apart d.birth rows i e h.1 there (sym same)))

  pub emptied_cost : (rows : List Row) (i : ℕ) → slice_get rows i ≡ Some (Some e) → cost e.object + cost_in (slice_set rows i None) ≡ cost_in rows
  emptied_cost [] i there = absurd (none-some (Some e) there)
  emptied_cost (None ∷ rows) zero there = absurd (none-some e (same_Some None (Some e) there))
  emptied_cost (None ∷ rows) (suc i) there = emptied_cost rows i there
  emptied_cost (Some d ∷ rows) zero there = ap (λ (x : Entry). cost x.object + cost_in rows) (sym (same_Some d e (same_Some (Some d) (Some e) there)))
  emptied_cost (Some d ∷ rows) (suc i) there = omega (arith, emptied_cost rows i there)

absent_emptied : (n : ℕ) (rows : List Row) (i : ℕ) → IsAbsent n rows → IsAbsent n (slice_set rows i None)
absent_emptied n [] i h = h
absent_emptied n (None ∷ rows) zero h = h
absent_emptied n (None ∷ rows) (suc i) h = absent_emptied n rows i h
absent_emptied n (Some d ∷ rows) zero h = h.1
absent_emptied n (Some d ∷ rows) (suc i) h = (h.0, absent_emptied n rows i h.1)

pub numbered_emptied : (b : ℕ) (rows : List Row) (i : ℕ) → AreNumbered b rows → AreNumbered b (slice_set rows i None)
numbered_emptied b [] i h = h
numbered_emptied b (None ∷ rows) zero h = h
numbered_emptied b (None ∷ rows) (suc i) h = numbered_emptied b rows i h
numbered_emptied b (Some d ∷ rows) zero h = h.2
numbered_emptied b (Some d ∷ rows) (suc i) h = (h.0, absent_emptied d.birth rows i h.1, numbered_emptied b rows i h.2)

-- an object that left its row is absent
pub emptied_absent : (b : ℕ) (e : Entry) (rows : List Row) (i : ℕ) → AreNumbered b rows → slice_get rows i ≡ Some (Some e) → IsAbsent e.birth (slice_set rows i None)
emptied_absent b e [] i h there = absurd (none-some (Some e) there)
emptied_absent b e (None ∷ rows) zero h there = absurd (none-some e (same_Some None (Some e) there))
emptied_absent b e (None ∷ rows) (suc i) h there = emptied_absent b e rows i h there
emptied_absent b e (Some d ∷ rows) zero h there = subst (λ (x : Entry). IsAbsent x.birth rows) (same_Some d e (same_Some (Some d) (Some e) there)) h.1
emptied_absent b e (Some d ∷ rows) (suc i) h there = ((λ same. absent_apart d.birth rows i e h.1 there (sym same)), emptied_absent b e rows i h.2 there)

pub emptied_there : (e : Entry) (rows : List Row) (i : ℕ) → slice_get rows i ≡ Some (Some e) → slice_get (slice_set rows i None) i ≡ Some None
emptied_there e [] i there = absurd (none-some (Some e) there)
emptied_there e (d ∷ rows) zero there = refl
emptied_there e (d ∷ rows) (suc i) there = emptied_there e rows i there

-- ---- a vacant row is filled

module _ (e : Entry) where
  pub filled_objects : (rows : List Row) (i : ℕ) → IsAbsent e.birth rows → slice_get rows i ≡ Some None → objects_in (slice_set rows i (Some e)) ≡ set (objects_in rows) e.birth e.object
  filled_objects [] i h there = absurd (none-some None there)
  filled_objects (None ∷ rows) zero h there = refl
  filled_objects (None ∷ rows) (suc i) h there = filled_objects rows i h there
  filled_objects (Some d ∷ rows) zero h there = absurd (none-some d (sym (same_Some (Some d) None there)))
  filled_objects (Some d ∷ rows) (suc i) h there =
      ap (λ m. set m d.birth d.object) (filled_objects rows i h.1 there) ∙ set_apart (objects_in rows) e.birth d.birth e.object d.object (λ same. h.0 (sym same))

  pub filled_rows : (a : ℕ) (rows : List Row) (i : ℕ) → IsAbsent e.birth rows → slice_get rows i ≡ Some None → rows_in a (slice_set rows i (Some e)) ≡ set (rows_in a rows) e.birth (a + i)
  filled_rows a [] i h there = absurd (none-some None there)
  filled_rows a (None ∷ rows) zero h there = let k : a ≡ a + 0 = omega arith in ap (set (rows_in (a + 1) rows) e.birth) k
  filled_rows a (None ∷ rows) (suc i) h there = let k : a + 1 + i ≡ a + suc i = omega arith in filled_rows (a + 1) rows i h there ∙ ap (set (rows_in (a + 1) rows) e.birth) k
  filled_rows a (Some d ∷ rows) zero h there = absurd (none-some d (sym (same_Some (Some d) None there)))
  filled_rows a (Some d ∷ rows) (suc i) h there =
      let k : a + 1 + i ≡ a + suc i = omega arith in
      ap (λ m. set m d.birth a) (filled_rows (a + 1) rows i h.1 there)
      ∙ set_apart (rows_in (a + 1) rows) e.birth d.birth (a + 1 + i) a (λ same. h.0 (sym same))
      ∙ ap (set (set (rows_in (a + 1) rows) d.birth a) e.birth) k

  pub filled_cost : (rows : List Row) (i : ℕ) → slice_get rows i ≡ Some None → cost_in (slice_set rows i (Some e)) ≡ cost e.object + cost_in rows
  filled_cost [] i there = absurd (none-some None there)
  filled_cost (None ∷ rows) zero there = refl
  filled_cost (None ∷ rows) (suc i) there = filled_cost rows i there
  filled_cost (Some d ∷ rows) zero there = absurd (none-some d (sym (same_Some (Some d) None there)))
  filled_cost (Some d ∷ rows) (suc i) there = omega (arith, filled_cost rows i there)

  absent_filled : (n : ℕ) (rows : List Row) (i : ℕ) → e.birth ≢ n → IsAbsent n rows → IsAbsent n (slice_set rows i (Some e))
  absent_filled n [] i ne h = h
  absent_filled n (None ∷ rows) zero ne h = (ne, h)
  absent_filled n (None ∷ rows) (suc i) ne h = absent_filled n rows i ne h
  absent_filled n (Some d ∷ rows) zero ne h = (ne, h.1)
  absent_filled n (Some d ∷ rows) (suc i) ne h = (h.0, absent_filled n rows i ne h.1)

  pub numbered_filled : (b : ℕ) (rows : List Row) (i : ℕ) → AreNumbered b rows → e.birth < b → IsAbsent e.birth rows → slice_get rows i ≡ Some None → AreNumbered b (slice_set rows i (Some e))
  numbered_filled b [] i h lt absent there = h
  numbered_filled b (None ∷ rows) zero h lt absent there = (lt, absent, h)
  numbered_filled b (None ∷ rows) (suc i) h lt absent there = numbered_filled b rows i h lt absent there
  numbered_filled b (Some d ∷ rows) zero h lt absent there = absurd (none-some d (sym (same_Some (Some d) None there)))
  numbered_filled b (Some d ∷ rows) (suc i) h lt absent there =
      (h.0, absent_filled d.birth rows i (λ same. absent.0 (sym same)) h.1, numbered_filled b rows i h.2 lt absent.1 there)

  -- ---- a row is added

  pub pushed_objects : (rows : List Row) → IsAbsent e.birth rows → objects_in (rows ++ Some e ∷ []) ≡ set (objects_in rows) e.birth e.object
  pushed_objects [] h = refl
  pushed_objects (None ∷ rows) h = pushed_objects rows h
  pushed_objects (Some d ∷ rows) h =
      ap (λ m. set m d.birth d.object) (pushed_objects rows h.1) ∙ set_apart (objects_in rows) e.birth d.birth e.object d.object (λ same. h.0 (sym same))

  pub pushed_rows : (a : ℕ) (rows : List Row) → IsAbsent e.birth rows → rows_in a (rows ++ Some e ∷ []) ≡ set (rows_in a rows) e.birth (a + length rows)
  pushed_rows a [] h = let k : a ≡ a + 0 = omega arith in ap (set none e.birth) k
  pushed_rows a (None ∷ rows) h = let k : a + 1 + length rows ≡ a + suc (length rows) = omega arith in pushed_rows (a + 1) rows h ∙ ap (set (rows_in (a + 1) rows) e.birth) k
  pushed_rows a (Some d ∷ rows) h =
      let k : a + 1 + length rows ≡ a + suc (length rows) = omega arith in
      ap (λ m. set m d.birth a) (pushed_rows (a + 1) rows h.1)
      ∙ set_apart (rows_in (a + 1) rows) e.birth d.birth (a + 1 + length rows) a (λ same. h.0 (sym same))
      ∙ ap (set (set (rows_in (a + 1) rows) d.birth a) e.birth) k

  pub pushed_cost : (rows : List Row) → cost_in (rows ++ Some e ∷ []) ≡ cost e.object + cost_in rows
  pushed_cost [] = refl
  pushed_cost (None ∷ rows) = pushed_cost rows
  pushed_cost (Some d ∷ rows) = omega (arith, pushed_cost rows)

  absent_pushed : (n : ℕ) (rows : List Row) → e.birth ≢ n → IsAbsent n rows → IsAbsent n (rows ++ Some e ∷ [])
  absent_pushed n [] ne h = (ne, tt)
  absent_pushed n (None ∷ rows) ne h = absent_pushed n rows ne h
  absent_pushed n (Some d ∷ rows) ne h = (h.0, absent_pushed n rows ne h.1)

  pub numbered_pushed : (b : ℕ) (rows : List Row) → AreNumbered b rows → e.birth < b → IsAbsent e.birth rows → AreNumbered b (rows ++ Some e ∷ [])
  numbered_pushed b [] h lt absent = (lt, tt, tt)
  numbered_pushed b (None ∷ rows) h lt absent = numbered_pushed b rows h lt absent
  numbered_pushed b (Some d ∷ rows) h lt absent = (h.0, absent_pushed d.birth rows (λ same. absent.0 (sym same)) h.1, numbered_pushed b rows h.2 lt absent.1)

  -- ---- rows that are taken

  pub taken_filled : (n : ℕ) (rows : List Row) (i : ℕ) → AreTaken n rows → AreTaken n (slice_set rows i (Some e))
  taken_filled zero rows i h = tt
  taken_filled (suc n) [] i h = h
  taken_filled (suc n) (None ∷ rows) i h = absurd h
  taken_filled (suc n) (Some d ∷ rows) zero h = h
  taken_filled (suc n) (Some d ∷ rows) (suc i) h = taken_filled n rows i h

  -- .. and one more
  pub taken_and_filled : (rows : List Row) (i : ℕ) → AreTaken i rows → slice_get rows i ≡ Some None → AreTaken (suc i) (slice_set rows i (Some e))
  taken_and_filled [] i h there = absurd (none-some None there)
  taken_and_filled (d ∷ rows) zero h there = tt
  taken_and_filled (None ∷ rows) (suc i) h there = absurd h
  taken_and_filled (Some d ∷ rows) (suc i) h there = taken_and_filled rows i h there

  pub taken_and_pushed : (rows : List Row) → AreTaken (length rows) rows → AreTaken (suc (length rows)) (rows ++ Some e ∷ [])
  taken_and_pushed [] h = tt
  taken_and_pushed (None ∷ rows) h = absurd h
  taken_and_pushed (Some d ∷ rows) h = taken_and_pushed rows h

pub numbered_later : (b c : ℕ) (rows : List Row) → b ≤ c → AreNumbered b rows → AreNumbered c rows
numbered_later b c [] le h = tt
numbered_later b c (None ∷ rows) le h = numbered_later b c rows le h
numbered_later b c (Some d ∷ rows) le h = (omega (arith, le, h.0), h.1, numbered_later b c rows le h.2)

pub taken_emptied : (n : ℕ) (rows : List Row) (i : ℕ) → AreTaken n rows → AreTaken (min n i) (slice_set rows i None)
taken_emptied n rows i h = go (min n i) rows i (omega arith) (fewer n (min n i) rows (omega arith) h)
  where
    fewer : (n m : ℕ) (rows : List Row) → m ≤ n → AreTaken n rows → AreTaken m rows
    fewer n zero rows le h = tt
    fewer zero (suc m) rows le h = absurd (omega (arith, le))
    fewer (suc n) (suc m) [] le h = h
    fewer (suc n) (suc m) (None ∷ rows) le h = h
    fewer (suc n) (suc m) (Some e ∷ rows) le h = fewer n m rows (omega (arith, le)) h

    go : (m : ℕ) (rows : List Row) (i : ℕ) → m ≤ i → AreTaken m rows → AreTaken m (slice_set rows i None)
    go zero rows i le h = tt
    go (suc m) [] i le h = h
    go (suc m) (None ∷ rows) i le h = absurd h
    go (suc m) (Some e ∷ rows) zero le h = absurd (omega (arith, le))
    go (suc m) (Some e ∷ rows) (suc i) le h = go m rows i (omega (arith, le)) h

pub taken_within : (n : ℕ) (rows : List Row) → AreTaken n rows → n ≤ length rows
taken_within zero rows h = omega arith
taken_within (suc n) [] h = absurd h
taken_within (suc n) (None ∷ rows) h = absurd h
taken_within (suc n) (Some e ∷ rows) h = omega (arith, taken_within n rows h)

pub taken_more : (n : ℕ) (rows : List Row) (e : Entry) → AreTaken n rows → slice_get rows n ≡ Some (Some e) → AreTaken (n + 1) rows
taken_more n rows e h there = let k : suc n ≡ n + 1 = omega arith in subst (λ m. AreTaken m rows) k (go n rows h there)
  where
    go : (n : ℕ) (rows : List Row) → AreTaken n rows → slice_get rows n ≡ Some (Some e) → AreTaken (suc n) rows
    go n [] h there = absurd (none-some (Some e) there)
    go zero (None ∷ rows) h there = absurd (none-some e (same_Some None (Some e) there))
    go zero (Some d ∷ rows) h there = tt
    go (suc n) (None ∷ rows) h there = absurd h
    go (suc n) (Some d ∷ rows) h there = go n rows h there
