-- The moment up to which objects were changed.
use Rattle.std.proofs.Common.{◌≡◌, ℕ, zero, suc, ◌+◌, ◌≤◌, ◌<◌, List, [], ◌∷◌, ◌++◌, length, Option, Some, None, IfSome, refl, sym, subst, arith, ⊎_elim}
use Rattle.std.proofs.lemmas.Bool.Decides.{leb_tells}
use Rattle.std.proofs.lemmas.Option.{none-some, same_Some}
use Rattle.std.specs.Prelude.{slice_get, slice_set}
use Rattle.life_store.specs.PlainRows.{Row, ArePast, entry_at}
use Rattle.life_store.specs.declared.object.ObjRef.{ObjRef}
use Rattle.life_store.specs.declared.plain_rows.Entry.{Entry}
use Rattle.life_store.proofs.RowLemmas.{entry_there}

past_at : (moment : ℕ) (rows : List Row) (i : ℕ) (e : Entry) → ArePast moment rows → slice_get rows i ≡ Some (Some e) → e.object.end ≤ moment
past_at moment [] i e h there = absurd (none-some (Some e) there)
past_at moment (None ∷ rows) zero e h there = absurd (none-some e (same_Some None (Some e) there))
past_at moment (None ∷ rows) (suc i) e h there = past_at moment rows i e h there
past_at moment (Some d ∷ rows) zero e h there = subst (λ (x : Entry). x.object.end ≤ moment) (same_Some d e (same_Some (Some d) (Some e) there)) h.0
past_at moment (Some d ∷ rows) (suc i) e h there = past_at moment rows i e h.1 there

pub past_entry : (moment : ℕ) (rows : List Row) (r : ObjRef) (e : Entry) → ArePast moment rows → entry_at rows r ≡ Some e → e.object.end ≤ moment
past_entry moment rows r e h found = past_at moment rows r.row e h (entry_there rows r e found)

-- .. where the reference refers to one
end_there : (moment : ℕ) (there : Option Entry) → ((e : Entry) → there ≡ Some e → e.object.end ≤ moment) → IfSome there (λ (e : Entry). e.object.end ≤ moment + 1)
end_there moment None h = tt
end_there moment (Some e) h = omega (arith, h e refl)

pub past_there : (moment : ℕ) (rows : List Row) (r : ObjRef) → ArePast moment rows → IfSome (entry_at rows r) (λ (e : Entry). e.object.end ≤ moment + 1)
past_there moment rows r h = end_there moment (entry_at rows r) (λ e found. past_entry moment rows r e h found)

pub past_later : (moment later : ℕ) (rows : List Row) → moment ≤ later → ArePast moment rows → ArePast later rows
past_later moment later [] le h = tt
past_later moment later (None ∷ rows) le h = past_later moment later rows le h
past_later moment later (Some e ∷ rows) le h = (omega (arith, h.0, le), past_later moment later rows le h.1)

pub past_emptied : (moment : ℕ) (rows : List Row) (i : ℕ) → ArePast moment rows → ArePast moment (slice_set rows i None)
past_emptied moment [] i h = h
past_emptied moment (None ∷ rows) zero h = h
past_emptied moment (None ∷ rows) (suc i) h = past_emptied moment rows i h
past_emptied moment (Some e ∷ rows) zero h = h.1
past_emptied moment (Some e ∷ rows) (suc i) h = (h.0, past_emptied moment rows i h.1)

module _ (moment : ℕ) (e : Entry) (past : e.object.end ≤ moment) where
  pub past_filled : (rows : List Row) (i : ℕ) → ArePast moment rows → ArePast moment (slice_set rows i (Some e))
  past_filled [] i h = h
  past_filled (None ∷ rows) zero h = (past, h)
  past_filled (None ∷ rows) (suc i) h = past_filled rows i h
  past_filled (Some d ∷ rows) zero h = (past, h.1)
  past_filled (Some d ∷ rows) (suc i) h = (h.0, past_filled rows i h.1)

  past_pushed : (rows : List Row) → ArePast moment rows → ArePast moment (rows ++ Some e ∷ [])
  past_pushed [] h = (past, tt)
  past_pushed (None ∷ rows) h = past_pushed rows h
  past_pushed (Some d ∷ rows) h = (h.0, past_pushed rows h.1)

  -- in a vacant row, or behind all
  pub past_born : (rows new : List Row) (i : ℕ) → i ≤ length rows → ArePast moment rows → (i < length rows → new ≡ slice_set rows i (Some e)) → (i ≡ length rows → new ≡ rows ++ Some e ∷ []) → ArePast moment new
  past_born rows new i le h inside behind =
      ⊎_elim
      (λ t. let lt : i < length rows = omega (arith, t.1) in subst (ArePast moment) (sym (inside lt)) (past_filled rows i h))
      (λ t. let at : i ≡ length rows = omega (arith, t.1, le) in subst (ArePast moment) (sym (behind at)) (past_pushed rows h))
      (leb_tells (suc i) (length rows))

  -- .. or in place of another one
  pub past_changed : (rows mid new : List Row) (r : ObjRef) → ArePast moment rows → mid ≡ slice_set rows r.row None → new ≡ slice_set mid r.row (Some e) → ArePast moment new
  past_changed rows mid new r h first second =
      subst (ArePast moment) (sym second) (past_filled mid r.row (subst (ArePast moment) (sym first) (past_emptied moment rows r.row h)))
