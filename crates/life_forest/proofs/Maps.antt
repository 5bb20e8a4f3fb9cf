-- More of finite maps: what is unset, whatever was set there.
use Rattle.std.proofs.Common.{◌≡◌, ℕ, None, sym, ap, ◌∙◌}
use Rattle.life_store.specs.Cells.{Cells, at, set, unset, at-set_other, at-unset_same, at-unset_other, same_cells}
use Rattle.life_store.proofs.MapLemmas.{one_or_apart}

module _ {A : Type 0} where
  -- nothing is lost where nothing was
  pub unset_none : (m : Cells A) (k : ℕ) → at m k ≡ None → unset m k ≡ m
  unset_none m k none =
      same_cells (unset m k) m (λ q. one_or_apart k q
      (λ e. at-unset_same m k q e ∙ sym none ∙ ap (at m) e)
      (λ ne. at-unset_other m k q ne))

  pub unset_set : (m : Cells A) (k : ℕ) (v : A) → unset (set m k v) k ≡ unset m k
  unset_set m k v =
      same_cells (unset (set m k v) k) (unset m k) (λ q. one_or_apart k q
      (λ e. at-unset_same (set m k v) k q e ∙ sym (at-unset_same m k q e))
      (λ ne. at-unset_other (set m k v) k q ne ∙ at-set_other m k q v ne ∙ sym (at-unset_other m k q ne)))
