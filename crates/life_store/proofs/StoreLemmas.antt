-- What the calls of the plain store do to its rows, and what that says of its content.
use Rattle.std.proofs.Common.{◌≡◌, ℕ, suc, ◌+◌, ◌^◌, ◌≤◌, ◌<◌, min, List, [], ◌∷◌, ◌++◌, length, Option, Some, None, IfSome, false, true, refl, sym, ap, subst, ◌∙◌, arith, ⊎_elim}
use Rattle.std.proofs.lemmas.Bool.{false≢true}
use Rattle.std.proofs.lemmas.Bool.Decides.{leb_tells}
use Rattle.std.proofs.lemmas.List.{length-set, set-set}
use Rattle.std.proofs.lemmas.Option.{none-some, same_Some, slice_get_past, slice_get_within}
use Rattle.std.specs.Prelude.{slice_get, slice_set, is_some, option_map}
use Rattle.life_store.specs.Cells.{set, unset}
use Rattle.life_store.specs.Content.{Object, cost, live_words_of}
use Rattle.life_store.specs.PlainRows.{Row, objects_in, rows_in, cost_in, IsAbsent, AreNumbered, AreTaken, entry_at, Table, content_of, rows_of}
use Rattle.life_store.specs.PlainStore.{table_in, IsSound}
use Rattle.life_store.specs.References.{object_of, HasWord, IsFreeRow}
use Rattle.life_store.specs.declared.object.ObjRef.{ObjRef}
use Rattle.life_store.specs.declared.plain.PlainStore.TheInside.{Inside}
use Rattle.life_store.specs.declared.plain_rows.Entry.{Entry}
use Rattle.life_store.proofs.MapLemmas.{set-unset, set_back}
use Rattle.life_store.proofs.RowLemmas.{new_absent, numbered_below, vacant_free, entry_there, entry_number, object_is, row_is, live_is, emptied_objects, emptied_rows, emptied_cost, emptied_absent, emptied_there, numbered_emptied, taken_emptied, filled_objects, filled_rows, filled_cost, taken_cost, numbered_filled, numbered_later, taken_filled, taken_and_filled, pushed_objects, pushed_rows, pushed_cost, numbered_pushed, taken_and_pushed}

-- ---- what a table says

pub live_words_are : (a : Inside) (t : Table) → IsSound a → table_in a ≡ t → live_words_of (content_of t) ≡ a.live
live_words_are a t ok e = ap (λ (x : Table). live_words_of (content_of x)) (sym e) ∙ live_is a.births a.rows.items ok.numbered ∙ sym ok.live

pub found : (a : Inside) (t : Table) (r : ObjRef) (e : Entry) → IsSound a → table_in a ≡ t → entry_at a.rows.items r ≡ Some e → object_of (content_of t) (rows_of t) r ≡ Some e.object
found a t r e ok is h =
    ap (λ (x : Table). object_of (content_of x) (rows_of x) r) (sym is)
    ∙ object_is (table_in a) r ok.numbered
    ∙ ap (option_map (λ (x : Entry). x.object)) h

pub missing : (a : Inside) (t : Table) (r : ObjRef) → IsSound a → table_in a ≡ t → entry_at a.rows.items r ≡ None → object_of (content_of t) (rows_of t) r ≡ None
missing a t r ok is h =
    ap (λ (x : Table). object_of (content_of x) (rows_of x) r) (sym is)
    ∙ object_is (table_in a) r ok.numbered
    ∙ ap (option_map (λ (x : Entry). x.object)) h

-- what holds of an object that lives holds of it where that lies
held_there : (P : Object → Type 0) (there : Option Entry) → IfSome (option_map (λ (e : Entry). e.object) there) P → IfSome there (λ (e : Entry). P e.object)
held_there P None h = tt
held_there P (Some e) h = h

pub object_there : (a : Inside) (t : Table) (r : ObjRef) (P : Object → Type 0) → IsSound a → table_in a ≡ t → IfSome (object_of (content_of t) (rows_of t) r) P → IfSome (entry_at a.rows.items r) (λ (e : Entry). P e.object)
object_there a t r P ok is h =
    held_there P (entry_at a.rows.items r)
    (subst (λ (o : Option Object). IfSome o P) (ap (λ (x : Table). object_of (content_of x) (rows_of x) r) (sym is) ∙ object_is (table_in a) r ok.numbered) h)

pub word_there : (a : Inside) (t : Table) (r : ObjRef) (slot word : ℕ) → IsSound a → table_in a ≡ t → IfSome (object_of (content_of t) (rows_of t) r) (HasWord slot word)
    → IfSome (entry_at a.rows.items r) (λ (e : Entry). HasWord slot word e.object)
word_there a t r slot word ok is h = object_there a t r (HasWord slot word) ok is h

-- what is there isn't missing, and what holds of it if it is there holds of it
pub none_there : (there : Option Entry) → is_some there ≡ false → there ≡ None
none_there None h = refl
none_there (Some e) h = absurd (false≢true (sym h))

pub some_there : (there : Option Entry) (P : Entry → Type 0) → is_some there ≡ true → IfSome there P → (e : Entry) × (there ≡ Some e) × P e
some_there None P h k = absurd (false≢true h)
some_there (Some e) P h k = (e, refl, k)

-- the row of an entry is one of the rows
pub row_within : (rows : List Row) (r : ObjRef) (e : Entry) → entry_at rows r ≡ Some e → r.row < length rows
row_within rows r e h = slice_get_within rows r.row (Some e) (entry_there rows r e h)

-- ---- a birth

abbrev new_entry : ℕ → Object → Entry
new_entry b o = record { birth = b; object = o }

-- what a new object in a row changes
pub record IsFilled (b i : ℕ) (o : Object) (rows new : List Row) : Type 0 where
  pub objects : objects_in new ≡ set (objects_in rows) b o
  pub places : rows_in 0 new ≡ set (rows_in 0 rows) b i
  pub costs : cost_in new ≡ cost o + cost_in rows
  pub numbered : AreNumbered (b + 1) new
  pub taken : AreTaken (i + 1) new
  pub free : IsFreeRow (rows_in 0 rows) i

filled_inside : (b i : ℕ) (o : Object) (rows : List Row) → AreNumbered b rows → AreTaken i rows → slice_get rows i ≡ Some None → IsFilled b i o rows (slice_set rows i (Some (new_entry b o)))
filled_inside b i o rows numbered taken vacant =
    let absent = new_absent b rows numbered in
    let k : 0 + i ≡ i = omega arith in
    let m : suc i ≡ i + 1 = omega arith in
    record {
      objects = filled_objects (new_entry b o) rows i absent vacant;
      places = filled_rows (new_entry b o) 0 rows i absent vacant ∙ ap (set (rows_in 0 rows) b) k;
      costs = filled_cost (new_entry b o) rows i vacant;
      numbered = numbered_filled (new_entry b o) (b + 1) rows i (numbered_later b (b + 1) rows (omega arith) numbered) (omega arith) absent vacant;
      taken = subst (λ n. AreTaken n (slice_set rows i (Some (new_entry b o)))) m (taken_and_filled (new_entry b o) rows i taken vacant);
      free = vacant_free b i rows numbered (λ e there. none-some e (same_Some None (Some e) (sym vacant ∙ there)));
    }

filled_behind : (b : ℕ) (o : Object) (rows : List Row) → AreNumbered b rows → AreTaken (length rows) rows → IsFilled b (length rows) o rows (rows ++ Some (new_entry b o) ∷ [])
filled_behind b o rows numbered taken =
    let absent = new_absent b rows numbered in
    let k : 0 + length rows ≡ length rows = omega arith in
    let m : suc (length rows) ≡ length rows + 1 = omega arith in
    record {
      objects = pushed_objects (new_entry b o) rows absent;
      places = pushed_rows (new_entry b o) 0 rows absent ∙ ap (set (rows_in 0 rows) b) k;
      costs = pushed_cost (new_entry b o) rows;
      numbered = numbered_pushed (new_entry b o) (b + 1) rows (numbered_later b (b + 1) rows (omega arith) numbered) (omega arith) absent;
      taken = subst (λ n. AreTaken n (rows ++ Some (new_entry b o) ∷ [])) m (taken_and_pushed (new_entry b o) rows taken);
      free = vacant_free b (length rows) rows numbered (λ e there. none-some (Some e) (sym (slice_get_past rows (length rows) (omega arith)) ∙ there));
    }

pub filled : (b i : ℕ) (o : Object) (rows new : List Row) → AreNumbered b rows → AreTaken i rows → i ≤ length rows → (i < length rows → slice_get rows i ≡ Some None)
    → (i < length rows → new ≡ slice_set rows i (Some (new_entry b o))) → (i ≡ length rows → new ≡ rows ++ Some (new_entry b o) ∷ []) → IsFilled b i o rows new
filled b i o rows new numbered taken le vacant inside behind =
    ⊎_elim
    (λ h. let lt : i < length rows = omega (arith, h.1) in subst (IsFilled b i o rows) (sym (inside lt)) (filled_inside b i o rows numbered taken (vacant lt)))
    (λ h. let at : i ≡ length rows = omega (arith, h.1, le) in
    subst (IsFilled b i o rows) (sym (behind at)) (subst (λ n. IsFilled b n o rows (rows ++ Some (new_entry b o) ∷ [])) (sym at) (filled_behind b o rows numbered (subst (λ n. AreTaken n rows) at taken))))
    (leb_tells (suc i) (length rows))

-- .. where the vacant row was sought in the rows as they are seen
pub filled_seen : (a : Inside) (i : ℕ) (o : Object) (seen new : List Row) → IsSound a → seen ≡ a.rows.items → AreTaken i seen → i ≤ length seen → (i < length seen → slice_get seen i ≡ Some None)
    → (i < length a.rows.items → new ≡ slice_set a.rows.items i (Some (record { birth = a.births; object = o }))) → (i ≡ length a.rows.items → new ≡ a.rows.items ++ Some (record { birth = a.births; object = o }) ∷ [])
    → IsFilled a.births i o a.rows.items new
filled_seen a i o seen new ok e taken le vacant inside behind =
    filled a.births i o a.rows.items new ok.numbered (subst (AreTaken i) e taken) (subst (λ (rows : List Row). i ≤ length rows) e le)
    (subst (λ (rows : List Row). i < length rows → slice_get rows i ≡ Some None) e vacant) inside behind

-- a row that is sought is below the limit
pub row_small : (a : Inside) (i : ℕ) (seen : List Row) → IsSound a → seen ≡ a.rows.items → AreTaken i seen → i < 2 ^ 32
row_small a i seen ok e taken = omega (arith, taken_cost i a.rows.items (subst (AreTaken i) e taken), ok.live, ok.within, ok.small)

-- ---- an object leaves its row

pub record IsEmptied (b n : ℕ) (r : ObjRef) (o : Object) (rows new : List Row) : Type 0 where
  pub objects : objects_in new ≡ unset (objects_in rows) r.birth
  pub places : rows_in 0 new ≡ unset (rows_in 0 rows) r.birth
  pub costs : cost o + cost_in new ≡ cost_in rows
  pub numbered : AreNumbered b new
  pub taken : AreTaken (min n r.row) new

pub emptied : (b n : ℕ) (r : ObjRef) (e : Entry) (rows : List Row) → AreNumbered b rows → AreTaken n rows → entry_at rows r ≡ Some e → IsEmptied b n r e.object rows (slice_set rows r.row None)
emptied b n r e rows numbered taken h =
    let there = entry_there rows r e h in
    let number = entry_number rows r e h in
    record {
      objects = emptied_objects b e rows r.row numbered there ∙ ap (unset (objects_in rows)) number;
      places = emptied_rows b e 0 rows r.row numbered there ∙ ap (unset (rows_in 0 rows)) number;
      costs = emptied_cost b e rows r.row there;
      numbered = numbered_emptied b rows r.row numbered;
      taken = taken_emptied n rows r.row taken;
    }

-- the rows as they are after it
pub emptied_now : (a : Inside) (r : ObjRef) (e : Entry) (new : List Row) → IsSound a → entry_at a.rows.items r ≡ Some e → new ≡ slice_set a.rows.items r.row None → IsEmptied a.births a.lowest r e.object a.rows.items new
emptied_now a r e new ok h is = subst (IsEmptied a.births a.lowest r e.object a.rows.items) (sym is) (emptied a.births a.lowest r e a.rows.items ok.numbered ok.taken h)

-- its row is free then
pub emptied_free : (a : Inside) (r : ObjRef) (e : Entry) → IsSound a → entry_at a.rows.items r ≡ Some e → IsFreeRow (unset (rows_in 0 a.rows.items) r.birth) r.row
emptied_free a r e ok h =
    let there = entry_there a.rows.items r e h in
    let gone = emptied a.births a.lowest r e a.rows.items ok.numbered ok.taken h in
    subst (λ m. IsFreeRow m r.row) gone.places
    (vacant_free a.births r.row (slice_set a.rows.items r.row None) gone.numbered (λ f t. none-some f (same_Some None (Some f) (sym (emptied_there e a.rows.items r.row there) ∙ t))))

-- a row keeps its place
pub row_stays : (rows mid : List Row) (r : ObjRef) (e : Entry) → entry_at rows r ≡ Some e → mid ≡ slice_set rows r.row None → r.row < length mid
row_stays rows mid r e h is = omega (arith, ap length is, length-set rows r.row None, row_within rows r e h)

-- ---- an object leaves its row, and another one takes that

-- with the number, below the births c
pub record IsExchanged (c n m : ℕ) (r : ObjRef) (old new : Object) (rows after : List Row) : Type 0 where
  pub objects : objects_in after ≡ set (unset (objects_in rows) r.birth) m new
  pub places : rows_in 0 after ≡ set (unset (rows_in 0 rows) r.birth) m r.row
  pub costs : cost old + cost_in after ≡ cost new + cost_in rows
  pub numbered : AreNumbered c after
  pub taken : AreTaken n after

exchanged : (b c n m : ℕ) (r : ObjRef) (e : Entry) (o : Object) (rows : List Row) → AreNumbered b rows → b ≤ c → m < c → AreTaken n rows → entry_at rows r ≡ Some e
    → IsAbsent m (slice_set rows r.row None) → IsExchanged c n m r e.object o rows (slice_set (slice_set rows r.row None) r.row (Some (new_entry m o)))
exchanged b c n m r e o rows numbered le lt taken h absent =
    let there = entry_there rows r e h in
    let gone = emptied b n r e rows numbered taken h in
    let vacant = emptied_there e rows r.row there in
    let k : 0 + r.row ≡ r.row = omega arith in
    record {
      objects = filled_objects (new_entry m o) (slice_set rows r.row None) r.row absent vacant ∙ ap (λ x. set x m o) gone.objects;
      places =
          filled_rows (new_entry m o) 0 (slice_set rows r.row None) r.row absent vacant
          ∙ ap (λ x. set x m (0 + r.row)) gone.places
          ∙ ap (set (unset (rows_in 0 rows) r.birth) m) k;
      costs = omega (arith, filled_cost (new_entry m o) (slice_set rows r.row None) r.row vacant, gone.costs);
      numbered = numbered_filled (new_entry m o) c (slice_set rows r.row None) r.row (numbered_later b c (slice_set rows r.row None) le gone.numbered) lt absent vacant;
      taken = subst (AreTaken n) (sym (set-set rows r.row None (Some (new_entry m o)))) (taken_filled (new_entry m o) n rows r.row taken);
    }

-- under its own number
pub record IsChanged (b n : ℕ) (r : ObjRef) (old new : Object) (rows after : List Row) : Type 0 where
  pub objects : objects_in after ≡ set (objects_in rows) r.birth new
  pub places : rows_in 0 after ≡ rows_in 0 rows
  pub costs : cost old + cost_in after ≡ cost new + cost_in rows
  pub numbered : AreNumbered b after
  pub taken : AreTaken n after

changed : (a : Inside) (r : ObjRef) (e f : Entry) → IsSound a → entry_at a.rows.items r ≡ Some e → f.birth ≡ e.birth
    → IsChanged a.births a.lowest r e.object f.object a.rows.items (slice_set (slice_set a.rows.items r.row None) r.row (Some f))
changed a r e f ok h same =
    let number = entry_number a.rows.items r e h in
    let there = entry_there a.rows.items r e h in
    let absent = subst (λ n. IsAbsent n (slice_set a.rows.items r.row None)) (sym same) (emptied_absent a.births e a.rows.items r.row ok.numbered there) in
    let lt = numbered_below a.births a.rows.items r.row e ok.numbered there in
    let ex = exchanged a.births a.births a.lowest f.birth r e f.object a.rows.items ok.numbered (omega arith) (omega (arith, same, lt)) ok.taken h absent in
    let n : f.birth ≡ r.birth = same ∙ number in
    record {
      objects = ex.objects ∙ ap (λ k. set (unset (objects_in a.rows.items) r.birth) k f.object) n ∙ set-unset (objects_in a.rows.items) r.birth f.object;
      places =
          ex.places
          ∙ ap (λ k. set (unset (rows_in 0 a.rows.items) r.birth) k r.row) n
          ∙ set_back (rows_in 0 a.rows.items) r.birth r.row (row_is (table_in a) r e ok.numbered h);
      costs = ex.costs;
      numbered = ex.numbered;
      taken = ex.taken;
    }

pub changed_now : (a : Inside) (r : ObjRef) (e f : Entry) (mid new : List Row) → IsSound a → entry_at a.rows.items r ≡ Some e → f.birth ≡ e.birth
    → mid ≡ slice_set a.rows.items r.row None → new ≡ slice_set mid r.row (Some f) → IsChanged a.births a.lowest r e.object f.object a.rows.items new
changed_now a r e f mid new ok h same first second =
    subst (IsChanged a.births a.lowest r e.object f.object a.rows.items) (sym (second ∙ ap (λ (rows : List Row). slice_set rows r.row (Some f)) first)) (changed a r e f ok h same)

-- .. and under the next one
renamed : (a : Inside) (r : ObjRef) (e : Entry) (o : Object) → IsSound a → entry_at a.rows.items r ≡ Some e
    → IsExchanged (a.births + 1) a.lowest a.births r e.object o a.rows.items (slice_set (slice_set a.rows.items r.row None) r.row (Some (record { birth = a.births; object = o })))
renamed a r e o ok h =
    exchanged a.births (a.births + 1) a.lowest a.births r e o a.rows.items ok.numbered (omega arith) (omega arith) ok.taken h
    (new_absent a.births (slice_set a.rows.items r.row None) (numbered_emptied a.births a.rows.items r.row ok.numbered))

pub renamed_now : (a : Inside) (r : ObjRef) (e : Entry) (o : Object) (mid new : List Row) → IsSound a → entry_at a.rows.items r ≡ Some e
    → mid ≡ slice_set a.rows.items r.row None → new ≡ slice_set mid r.row (Some (record { birth = a.births; object = o })) → IsExchanged (a.births + 1) a.lowest a.births r e.object o a.rows.items new
renamed_now a r e o mid new ok h first second =
    subst (IsExchanged (a.births + 1) a.lowest a.births r e.object o a.rows.items)
    (sym (second ∙ ap (λ (rows : List Row). slice_set rows r.row (Some (new_entry a.births o))) first)) (renamed a r e o ok h)
