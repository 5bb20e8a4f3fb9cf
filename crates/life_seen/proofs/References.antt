-- Objects by references, in a store and in what is seen of it.
use Rattle.std.proofs.Common.{◌≡◌, ℕ, ◌≤◌, Bool, true, false, cond, Option, Some, None, refl, sym, ap, ◌∙◌, arith, ⊎_elim}
use Rattle.std.proofs.lemmas.Bool.Decides.{eqb_tells}
use Rattle.std.proofs.lemmas.Option.{none-some}
use Rattle.std.specs.Prelude.{nat_eq, option_and_then, option_map}
use Rattle.life_store.specs.Cells.{at}
use Rattle.life_store.specs.Content.{Object, Content}
use Rattle.life_store.specs.References.{Rows, object_of}
use Rattle.life_store.specs.declared.object.ObjRef.{ObjRef}
use Rattle.life_seen.specs.Kinds.{Kinds}
use Rattle.life_seen.specs.Named.{names_of}
use Rattle.life_seen.specs.Seen.{object_seen, seen}
use Rattle.life_seen.specs.Housed.{IsHoused, IsRef, Later}
use Rattle.life_seen.proofs.Contents.{seen_at, seen_none}
use Rattle.life_seen.proofs.Naming.{inverted_is, inverted_has}

-- what is found by a reference
pub record IsFound (c : Content) (rows : Rows) (r : ObjRef) (o : Object) : Type 0 where
  pub there : at c.objects r.birth ≡ Some o
  pub placed : at rows r.birth ≡ Some r.row

found_in_row : (c : Content) (r : ObjRef) (o : Object) (k : ℕ) (b : Bool) → (b ≡ true → k ≡ r.row) → cond b (at c.objects r.birth) None ≡ Some o → (at c.objects r.birth ≡ Some o) × (k ≡ r.row)
found_in_row c r o k true same e = (e, same refl)
found_in_row c r o k false same e = absurd (none-some o e)

equal : (k q : ℕ) → nat_eq k q ≡ true → k ≡ q
equal k q e = ⊎_elim (λ h. h.1) (λ h. absurd (clash (sym h.0 ∙ e))) (eqb_tells k q)
  where
    clash : false ≡ true → ⊥
    clash x = cc

pub found : (c : Content) (rows : Rows) (r : ObjRef) (o : Object) → object_of c rows r ≡ Some o → IsFound c rows r o
found c rows r o e = go (at rows r.birth) refl e
  where
    go : (x : Option ℕ) → at rows r.birth ≡ x → option_and_then (λ row. cond (nat_eq row r.row) (at c.objects r.birth) None) x ≡ Some o → IsFound c rows r o
    go None h f = absurd (none-some o f)
    go (Some k) h f = let w = found_in_row c r o k (nat_eq k r.row) (equal k r.row) f in record { there = w.0; placed = h ∙ ap Some w.1 }

pub of_found : (c : Content) (rows : Rows) (r : ObjRef) (o : Object) → IsFound c rows r o → object_of c rows r ≡ Some o
of_found c rows r o f =
    ap (option_and_then (λ row. cond (nat_eq row r.row) (at c.objects r.birth) None)) f.placed
    ∙ ap (λ b. cond b (at c.objects r.birth) None) (⊎_elim (λ h. h.0) (λ h. absurd (h.1 refl)) (eqb_tells r.row r.row))
    ∙ f.there

module _ (kinds : Kinds) (c : Content) (rows : Rows) (h : IsHoused kinds c rows) where
  -- the number has the row, and the row the number
  pub number_in_row : (n k : ℕ) → at rows n ≡ Some k → at (names_of c rows) k ≡ Some n
  number_in_row n k e = inverted_has c.births rows k n h.apart (h.below n k e) e

  pub row_of_number : (n k : ℕ) → at (names_of c rows) k ≡ Some n → at rows n ≡ Some k
  row_of_number n k e = (inverted_is c.births rows k n e).1

  -- .. so what lives has a row, and what has a row lives
  pub lives_placed : (n : ℕ) (o : Object) → at c.objects n ≡ Some o → (k : ℕ) × (at rows n ≡ Some k)
  lives_placed n o there = let r = h.named.row n o there in (r.0, row_of_number n r.0 r.1)

  pub placed_lives : (n k : ℕ) → at rows n ≡ Some k → (o : Object) × (at c.objects n ≡ Some o)
  placed_lives n k e = h.named.lives k n (number_in_row n k e)

  -- what is found is seen at its number
  pub found_seen : (r : ObjRef) (o : Object) → object_of c rows r ≡ Some o → at (seen kinds c rows).objects r.birth ≡ Some (object_seen kinds (names_of c rows) o)
  found_seen r o e = seen_at kinds (names_of c rows) c r.birth o (found c rows r o e).there

  -- of a reference that fits nothing else is found than what its number has
  pub found_by_number : (r : ObjRef) → IsRef c rows r → object_of c rows r ≡ at c.objects r.birth
  found_by_number r fits = go (at c.objects r.birth) refl
    where
      go : (x : Option Object) → at c.objects r.birth ≡ x → object_of c rows r ≡ at c.objects r.birth
      go (Some o) e = let p = lives_placed r.birth o e in of_found c rows r o (record { there = e; placed = p.1 ∙ ap Some (fits.row p.0 p.1) }) ∙ sym e
      go None e = unfound (object_of c rows r) refl
        where
          unfound : (y : Option Object) → object_of c rows r ≡ y → object_of c rows r ≡ at c.objects r.birth
          unfound None f = f ∙ sym e
          unfound (Some o) f = f ∙ sym (found c rows r o f).there

  pub seen_by_number : (r : ObjRef) → IsRef c rows r → option_map (object_seen kinds (names_of c rows)) (object_of c rows r) ≡ at (seen kinds c rows).objects r.birth
  seen_by_number r fits = ap (option_map (object_seen kinds (names_of c rows))) (found_by_number r fits) ∙ go (at c.objects r.birth) refl
    where
      go : (x : Option Object) → at c.objects r.birth ≡ x → option_map (object_seen kinds (names_of c rows)) x ≡ at (seen kinds c rows).objects r.birth
      go None e = sym (seen_none kinds (names_of c rows) c r.birth e)
      go (Some o) e = sym (seen_at kinds (names_of c rows) c r.birth o e)

-- ---- references stay

pub ref_later : (c d : Content) (rows new : Rows) (r : ObjRef) → Later c d rows new → IsRef c rows r → IsRef d new r
ref_later c d rows new r l fits = record { born = let b = l.births in let a = fits.born in omega (arith, a, b); row = λ k e. fits.row k (l.row r.birth k fits.born e) }

pub later_same : (c d : Content) (rows : Rows) → c.births ≤ d.births → Later c d rows rows
later_same c d rows le = record { births = le; row = λ n k lt e. e }

pub later_then : (c d e : Content) (rows mid new : Rows) → Later c d rows mid → Later d e mid new → Later c e rows new
later_then c d e rows mid new a b = record {
  births = let x = a.births in let y = b.births in omega (arith, x, y);
  row = λ n k lt there. let x = a.births in a.row n k lt (b.row n k (omega (arith, lt, x)) there);
}
