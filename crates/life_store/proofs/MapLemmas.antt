-- Changes of finite maps, one after the other, and the sum over a map.
use Rattle.std.proofs.Common.{◌≡◌, ◌≢◌, ℕ, ◌+◌, List, [], ◌∷◌, Some, None, cond, refl, sym, ap, ◌∙◌, arith, ⊎_elim}
use Rattle.std.proofs.lemmas.Bool.Decides.{eqb_tells}
use Rattle.std.proofs.lemmas.Cmp.{nat_cmp_total}
use Rattle.std.proofs.lemmas.List.{nil_from_length}
use Rattle.std.proofs.lemmas.List.Sums.{sum_by-cons}
use Rattle.std.proofs.lemmas.Option.{none-some}
use Rattle.std.specs.FinMap as fin
use Rattle.std.specs.FinMap.{put, find}
use Rattle.std.specs.FinMap.Entries.{by_order}
use Rattle.std.specs.Ordering.{nat_cmp, is_eq}
use Rattle.std.specs.Prelude.{sum_by}
use Rattle.std.specs.declared.cmp.Ordering.{Ordering}
use Rattle.std.specs.declared.cmp.Ordering.TheVariants.{Less, Equal, Greater}
use Rattle.life_store.specs.Cells.{Cells, none, at, set, unset, sum_over, at-set_same, at-set_other, at-unset_same, at-unset_other, same_cells}

-- two numbers are one, or apart
pub one_or_apart : {C : Type 0} (k q : ℕ) → (k ≡ q → C) → (k ≢ q → C) → C
one_or_apart k q same apart = ⊎_elim (λ h. same h.1) (λ h. apart h.1) (eqb_tells k q)

module _ {A : Type 0} where
  -- what was set is set anew
  pub set-set : (m : Cells A) (k : ℕ) (v w : A) → set (set m k v) k w ≡ set m k w
  set-set m k v w =
      same_cells (set (set m k v) k w) (set m k w) (λ q. one_or_apart k q
      (λ e. at-set_same (set m k v) k q w e ∙ sym (at-set_same m k q w e))
      (λ ne. at-set_other (set m k v) k q w ne ∙ at-set_other m k q v ne ∙ sym (at-set_other m k q w ne)))

  -- two numbers are set in either order
  pub set_apart : (m : Cells A) (k j : ℕ) (v w : A) → k ≢ j → set (set m k v) j w ≡ set (set m j w) k v
  set_apart m k j v w ne =
      same_cells (set (set m k v) j w) (set (set m j w) k v) (λ q. one_or_apart k q
      (λ e. at-set_other (set m k v) j q w (λ h. ne (e ∙ sym h)) ∙ at-set_same m k q v e ∙ sym (at-set_same (set m j w) k q v e))
      (λ nk. one_or_apart j q
      (λ e. at-set_same (set m k v) j q w e ∙ sym (at-set_other (set m j w) k q v nk ∙ at-set_same m j q w e))
      (λ nj. at-set_other (set m k v) j q w nj ∙ at-set_other m k q v nk ∙ sym (at-set_other (set m j w) k q v nk ∙ at-set_other m j q w nj))))

  -- what was set is unset
  pub unset-set : (m : Cells A) (k : ℕ) (v : A) → at m k ≡ None → unset (set m k v) k ≡ m
  unset-set m k v none =
      same_cells (unset (set m k v) k) m (λ q. one_or_apart k q
      (λ e. at-unset_same (set m k v) k q e ∙ sym none ∙ ap (at m) e)
      (λ ne. at-unset_other (set m k v) k q ne ∙ at-set_other m k q v ne))

  pub unset_apart : (m : Cells A) (k j : ℕ) (v : A) → k ≢ j → unset (set m k v) j ≡ set (unset m j) k v
  unset_apart m k j v ne =
      same_cells (unset (set m k v) j) (set (unset m j) k v) (λ q. one_or_apart k q
      (λ e. at-unset_other (set m k v) j q (λ h. ne (e ∙ sym h)) ∙ at-set_same m k q v e ∙ sym (at-set_same (unset m j) k q v e))
      (λ nk. one_or_apart j q
      (λ e. at-unset_same (set m k v) j q e ∙ sym (at-set_other (unset m j) k q v nk ∙ at-unset_same m j q e))
      (λ nj. at-unset_other (set m k v) j q nj ∙ at-set_other m k q v nk ∙ sym (at-set_other (unset m j) k q v nk ∙ at-unset_other m j q nj))))

  -- what was unset is set anew
  pub set-unset : (m : Cells A) (k : ℕ) (v : A) → set (unset m k) k v ≡ set m k v
  set-unset m k v =
      same_cells (set (unset m k) k v) (set m k v) (λ q. one_or_apart k q
      (λ e. at-set_same (unset m k) k q v e ∙ sym (at-set_same m k q v e))
      (λ ne. at-set_other (unset m k) k q v ne ∙ at-unset_other m k q ne ∙ sym (at-set_other m k q v ne)))

  -- .. to what it was
  pub set_back : (m : Cells A) (k : ℕ) (v : A) → at m k ≡ Some v → set (unset m k) k v ≡ m
  set_back m k v there =
      same_cells (set (unset m k) k v) m (λ q. one_or_apart k q
      (λ e. at-set_same (unset m k) k q v e ∙ sym there ∙ ap (at m) e)
      (λ ne. at-set_other (unset m k) k q v ne ∙ at-unset_other m k q ne))

  -- ---- sums

  pub sum-none : (f : A → ℕ) → sum_over f none ≡ 0
  unfolding none sum_over
  sum-none f = ap (sum_by (λ (e : ℕ × A). f e.1)) (nil_from_length (fin.entries (fin.empty {X = A} {R = nat_cmp})) (sym (fin.len-entries fin.empty) ∙ fin.len-empty nat_cmp A))

  sum_put : (f : A → ℕ) (k : ℕ) (v : A) (es : List (ℕ × A)) → find nat_cmp k es ≡ None → sum_by (λ e. f e.1) (put nat_cmp k v es) ≡ f v + sum_by (λ e. f e.1) es
  sum_put f k v [] e = sum_by-cons (λ (e : ℕ × A). f e.1) (k, v) []
  sum_put f k v (e ∷ es) absent = go (nat_cmp k e.0) absent (sum_put f k v es)
    where
      go : (o : Ordering) → cond (is_eq o) (Some e.1) (find nat_cmp k es) ≡ None → (find nat_cmp k es ≡ None → sum_by (λ e. f e.1) (put nat_cmp k v es) ≡ f v + sum_by (λ e. f e.1) es)
          → sum_by (λ e. f e.1) (by_order o ((k, v) ∷ e ∷ es) ((e.0, v) ∷ es) (e ∷ put nat_cmp k v es)) ≡ f v + sum_by (λ e. f e.1) (e ∷ es)
      go Less h rest = sum_by-cons (λ (e : ℕ × A). f e.1) (k, v) (e ∷ es)
      go Equal h rest = absurd (none-some e.1 (sym h))
      go Greater h rest = omega (arith, rest h, sum_by-cons (λ (e : ℕ × A). f e.1) e es, sum_by-cons (λ (e : ℕ × A). f e.1) e (put nat_cmp k v es))

  -- a number that wasn't there adds its value
  pub sum-set_fresh : (f : A → ℕ) (m : Cells A) (k : ℕ) (v : A) → at m k ≡ None → sum_over f (set m k v) ≡ f v + sum_over f m
  unfolding at set sum_over
  sum-set_fresh f m k v none =
      ap (sum_by (λ (e : ℕ × A). f e.1)) (fin.entries-insert nat_cmp_total m k v) ∙ sum_put f k v (fin.entries m) (sym (fin.get-entries m k) ∙ none)

  -- one that was there takes its value along
  pub sum-unset : (f : A → ℕ) (m : Cells A) (k : ℕ) (v : A) → at m k ≡ Some v → f v + sum_over f (unset m k) ≡ sum_over f m
  sum-unset f m k v there = sym (sum-set_fresh f (unset m k) k v (at-unset_same m k k refl)) ∙ ap (sum_over f) (set_back m k v there)

  -- .. or changes it
  pub sum-set : (f : A → ℕ) (m : Cells A) (k : ℕ) (v w : A) → at m k ≡ Some v → f v + sum_over f (set m k w) ≡ f w + sum_over f m
  sum-set f m k v w there =
      let new = ap (sum_over f) (sym (set-unset m k w)) ∙ sum-set_fresh f (unset m k) k w (at-unset_same m k k refl) in
      omega (arith, new, sum-unset f m k v there)
