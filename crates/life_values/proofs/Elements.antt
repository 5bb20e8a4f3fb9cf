-- What the elements of a buffer own is neither the buffer itself, nor what isn't born yet.
use Rattle.std.proofs.Common.{◌≡◌, ℕ, ◌<◌, ◌≤◌, Some, sym, ap, ◌∙◌, arith}
use Rattle.life_store.specs.Cells.{at}
use Rattle.life_store.specs.Content.{Object, Content}
use Rattle.life_store.specs.Kinds.{kind_in}
use Rattle.life_store.specs.Parts.{Parts}
use Rattle.life_store.proofs.MapLemmas.{one_or_apart}
use Rattle.life_forest.specs.Forest.{IsForest}
use Rattle.life_forest.specs.Kinds.{Kinds}
use Rattle.life_forest.specs.Owned.{every, owns, times}
use Rattle.life_forest.specs.Values.{owned_slots}
use Rattle.life_forest.proofs.Below.{lives}
use Rattle.life_forest.proofs.ByParts.{owned_is}
use Rattle.life_forest.proofs.Steps.{alive_le, owned_held, times-owned_list}

none_times : (n : ℕ) → (0 < n → ⊥) → n ≡ 0
none_times n h = one_or_apart n 0 (λ z. z) (λ nz. absurd (h (omega (arith, nz))))

module _ (kind : Kinds) (element : Parts) (hand : ℕ → ℕ) (c : Content) (forest : IsForest kind hand c) (b : ℕ) (o : Object) (there : at c.objects b ≡ Some o) (kinds : (u : ℕ) → kind.word o.ty u ≡ kind_in element u) where
  pub elements_own : (k : ℕ) → owns kind every o k ≡ times (owned_slots element o.slots) k
  elements_own k = sym (times-owned_list kind (Some o) k) ∙ ap (λ xs. times xs k) (owned_is kind element o kinds)

  -- what is of no lesser type
  pub not_above : (k : ℕ) (q : Object) → at c.objects k ≡ Some q → kind.rank o.ty ≤ kind.rank q.ty → times (owned_slots element o.slots) k ≡ 0
  not_above k q at_k le = none_times (times (owned_slots element o.slots) k) (λ lt. let e = elements_own k in let l = forest.lower b k o q there (omega (arith, e, lt)) at_k in omega (arith, l, le))

  pub not_itself : times (owned_slots element o.slots) b ≡ 0
  not_itself = not_above b o there (omega arith)

  -- what is in the hand isn't owned
  pub not_in_hand : (k : ℕ) → 0 < hand k → times (owned_slots element o.slots) k ≡ 0
  not_in_hand k held =
      let e = elements_own k in
      let l = owned_held kind c b k o there in
      let h = forest.held k in
      let a = alive_le kind c k in
      omega (arith, e, l, h, a, held)

  pub not_unborn : (k : ℕ) → c.births ≤ k → times (owned_slots element o.slots) k ≡ 0
  not_unborn k le =
      none_times (times (owned_slots element o.slots) k)
      (λ lt. let e = elements_own k in
      let l = owned_held kind c b k o there in
      let h = forest.held k in
      let x = lives kind c k (omega (arith, e, l, h, lt)) in
      let born = forest.births k x.0 x.1 in
      omega (arith, born, le))
