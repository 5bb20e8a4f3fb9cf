-- Where each element stays as it is, all that a location has is kept there.
use Rattle.std.proofs.Common.{◌≡◌, ℕ, zero, suc, Bool, false, List, [], Some, None, inl, inr, refl, sym, ◌∙◌, subst}
use Rattle.std.specs.Prelude.{IsTrue}
use Rattle.life_sets.specs.NumberSets.{holds}
use Rattle.life_rules.specs.FactSets.{GainsSome}
use Rattle.life_plan.specs.Numbered.{Becomes, IsAmongAt, KeepsFrom, LeadsTo, MovesNothing}
use Rattle.life_plan.specs.declared.marking.Marking.{Marking}
use Rattle.life_plan.specs.declared.staying.Becoming.{Becoming}
use Rattle.life_plan.specs.declared.staying.Staying.{Staying}
use Rattle.life_plan.proofs.Growing.{some_as}

none_some : {A : Type 0} (x : A) → None ≡ Some x → ⊥
none_some x h = cc

becomes_none : (e m : ℕ) → Becomes [] e m → ⊥
becomes_none e m (zero, (c, (at, more))) = none_some c at
becomes_none e m (suc k, (c, (at, more))) = none_some c at

module _ (s : Staying) (k : Marking) (still : MovesNothing s k) where
  leads_same : (e m : ℕ) → LeadsTo s k e m → e ≡ m
  leads_same e m (inl (inl p)) = p.0
  leads_same e m (inl (inr b)) = absurd (becomes_none e m (subst (λ (xs : List Becoming). Becomes xs e m) still.becoming b))
  leads_same e m (inr p) = absurd (none_some m (sym still.mark ∙ p.1))

  pub unmoved_kept : (locations elements : ℕ) (from : ℕ → ℕ → Bool) (l : ℕ) (after : ℕ → ℕ → Bool) → ((m : ℕ) → IsTrue (from l m) → IsTrue (after l m)) → (m : ℕ) → KeepsFrom s k locations elements from l m → IsTrue (after l m)
  unmoved_kept locations elements from l after kept m h = kept m (subst (λ (n : ℕ). IsTrue (from l n)) (leads_same h.1.1.0 m h.1.1.1.1.1) h.1.1.1.1.0)

  pub unmoved_some : (locations elements : ℕ) (from : ℕ → ℕ → Bool) (l : ℕ) → holds s.written l ≡ false → (before after : ℕ → ℕ → Bool) → GainsSome before after (IsAmongAt l locations elements from) → GainsSome before after (KeepsFrom s k locations elements from)
  unmoved_some locations elements from l unwritten before after =
      some_as before after (IsAmongAt l locations elements from) (KeepsFrom s k locations elements from)
      (λ n m h. (h.1.0, (subst (λ (q : ℕ). holds s.written q ≡ false) (sym h.0) unwritten, (m, (h.1.1.0, (h.1.1.1, inl (inl (refl, still.gone m))))))))
