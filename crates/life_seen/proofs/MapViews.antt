-- Finite maps seen through a function.
use Rattle.std.proofs.Common.{◌≡◌, ◌≢◌, ℕ, List, [], ◌∷◌, Option, Some, None, true, false, cond, refl, sym, ap, ◌∙◌, ⊎_elim}
use Rattle.std.proofs.lemmas.Bool.Decides.{eqb_tells}
use Rattle.std.proofs.lemmas.Option.{none-some, same_Some}
use Rattle.std.specs.Cmp.{unsigned_tied}
use Rattle.std.specs.FinMap as map
use Rattle.std.specs.FinMap.{find}
use Rattle.std.specs.Ordering.{nat_cmp}
use Rattle.std.specs.Prelude.{option_map, ◌==◌}
use Rattle.life_store.specs.Cells.{Cells, at, set, unset, at-none, at-set_same, at-set_other, at-unset_same, at-unset_other, same_cells}
use Rattle.life_store.proofs.MapLemmas.{one_or_apart}
use Rattle.life_seen.specs.Mapped.{over, mapped}

differ : (a b : ℕ) → a ≢ b → (b == a) ≡ false
differ a b ne = ⊎_elim (λ h. absurd (ne (sym h.1))) (λ h. h.0) (eqb_tells b a)

alike : (a b : ℕ) → a ≡ b → (b == a) ≡ true
alike a b e = ⊎_elim (λ h. h.0) (λ h. absurd (h.1 (sym e))) (eqb_tells b a)

module _ {A B : Type 0} where
  pub at-over : (f : A → B) (es : List (ℕ × A)) (q : ℕ) → at (over f es) q ≡ option_map f (find nat_cmp q es)
  at-over f [] q = at-none q
  at-over f (e ∷ es) q =
      one_or_apart e.0 q
      (λ p. at-set_same (over f es) e.0 q (f e.1) p ∙ sym (ap (λ b. option_map f (cond b (Some e.1) (find nat_cmp q es))) (unsigned_tied q e.0 ∙ alike e.0 q p)))
      (λ p. at-set_other (over f es) e.0 q (f e.1) p ∙ at-over f es q ∙ sym (ap (λ b. option_map f (cond b (Some e.1) (find nat_cmp q es))) (unsigned_tied q e.0 ∙ differ e.0 q p)))

  pub at-mapped : (f : A → B) (m : Cells A) (q : ℕ) → at (mapped f m) q ≡ option_map f (at m q)
  unfolding mapped at
  at-mapped f m q = at-over f (map.entries m) q ∙ ap (option_map f) (sym (map.get-entries m q))

  pub mapped_alike : (f g : A → B) (m : Cells A) → ((n : ℕ) (o : A) → at m n ≡ Some o → f o ≡ g o) → mapped f m ≡ mapped g m
  mapped_alike f g m h = same_cells (mapped f m) (mapped g m) (λ n. at-mapped f m n ∙ go n (at m n) refl ∙ sym (at-mapped g m n))
    where
      go : (n : ℕ) (x : Option A) → at m n ≡ x → option_map f x ≡ option_map g x
      go n None e = refl
      go n (Some o) e = ap Some (h n o e)

  pub mapped-set : (f : A → B) (m : Cells A) (k : ℕ) (v : A) → mapped f (set m k v) ≡ set (mapped f m) k (f v)
  mapped-set f m k v =
      same_cells (mapped f (set m k v)) (set (mapped f m) k (f v)) (λ q. at-mapped f (set m k v) q ∙ one_or_apart k q
      (λ e. ap (option_map f) (at-set_same m k q v e) ∙ sym (at-set_same (mapped f m) k q (f v) e))
      (λ ne. ap (option_map f) (at-set_other m k q v ne) ∙ sym (at-set_other (mapped f m) k q (f v) ne ∙ at-mapped f m q)))

  pub mapped-unset : (f : A → B) (m : Cells A) (k : ℕ) → mapped f (unset m k) ≡ unset (mapped f m) k
  mapped-unset f m k =
      same_cells (mapped f (unset m k)) (unset (mapped f m) k) (λ q. at-mapped f (unset m k) q ∙ one_or_apart k q
      (λ e. ap (option_map f) (at-unset_same m k q e) ∙ sym (at-unset_same (mapped f m) k q e))
      (λ ne. ap (option_map f) (at-unset_other m k q ne) ∙ sym (at-unset_other (mapped f m) k q ne ∙ at-mapped f m q)))

module _ {A : Type 0} where
  -- what stands in a map after a change stood there, or is new
  pub set_cases : {C : Type 0} (m : Cells A) (k q : ℕ) (v w : A) → at (set m k v) q ≡ Some w → (k ≡ q → v ≡ w → C) → (k ≢ q → at m q ≡ Some w → C) → C
  set_cases m k q v w there same other =
      one_or_apart k q
      (λ e. same e (same_Some v w (sym (at-set_same m k q v e) ∙ there)))
      (λ ne. other ne (sym (at-set_other m k q v ne) ∙ there))

  pub unset_there : (m : Cells A) (k q : ℕ) (w : A) → at (unset m k) q ≡ Some w → (k ≢ q) × (at m q ≡ Some w)
  unset_there m k q w there =
      one_or_apart k q
      (λ e. absurd (none-some w (sym (at-unset_same m k q e) ∙ there)))
      (λ ne. (ne, sym (at-unset_other m k q ne) ∙ there))
