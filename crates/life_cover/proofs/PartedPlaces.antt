-- Two paths of which neither begins with the other lead to regions that lie apart: they part at a member, or at two objects of one owner.
use Rattle.std.proofs.Common.{◌≡◌, inl, inr, ⊎_elim, ℕ, ◌+◌, false, List, [], ◌∷◌, sym, ap, subst, ◌∙◌, arith}
use Rattle.std.specs.Prelude.{◌&&◌, ◌||◌, nat_eq, slice_get, sum_by, take}
use Rattle.std.proofs.lemmas.Bool.{false≢true}
use Rattle.life_types.specs.Trees.{IsOrdered}
use Rattle.life_types.specs.Types.{Types}
use Rattle.life_pset.specs.Places.{begins}
use Rattle.life_store.specs.Content.{Content}
use Rattle.life_store.specs.Parts.{members_of, width_at}
use Rattle.life_store.proofs.CellLemmas.{some_same}
use Rattle.life_store.proofs.MapLemmas.{one_or_apart}
use Rattle.life_forest.specs.Forest.{Beneath}
use Rattle.life_forest.specs.Kinds.{kinds_of}
use Rattle.life_forest.specs.Typed.{IsStore}
use Rattle.life_cover.specs.Regions.{AreBeside, Goes, IsTrue, Lies, Region, foot_of}
use Rattle.life_cover.specs.Roots.{IsApart}
use Rattle.life_cover.proofs.Guarding.{beneath_apart, eq_same, members_apart, no_members, owned_apart, same_region}
use Rattle.life_cover.proofs.Inside.{Inside, beneath_inside, goes_true, lies_inside}

module _ (types : Types) (ordered : IsOrdered types) (hand : ℕ → ℕ) (c : Content) (store : IsStore types hand c) where
  abbrev LiesIn : Region → Region → Type 0
  LiesIn = Inside types ordered hand c store

  apart_turned : (a b : Region) → IsApart types c a b → IsApart types c b a
  apart_turned a b h = record { beside = λ same. ⊎_elim (λ l. inr l) (λ r. inl r) (h.beside (sym same)); over = h.under; under = h.over }

  -- so is what lies inside of them
  pub apart_inside : (a b r s : Region) → IsApart types c a b → LiesIn a r → LiesIn b s → IsApart types c r s
  apart_inside a b r s apart in_a in_b = record {
    beside = words in_a in_b;
    over = λ low. beneath_apart types ordered hand c store a b s apart (beneath_inside types ordered hand c store a r in_a s.object low) in_b;
    under = λ low. beneath_apart types ordered hand c store b a r (apart_turned a b apart) (beneath_inside types ordered hand c store b s in_b r.object low) in_a;
  }
    where
      words : LiesIn a r → LiesIn b s → r.object ≡ s.object → AreBeside types r s
      words (inr low) y same = absurd (beneath_apart types ordered hand c store a b s apart (subst (Beneath (kinds_of types) c (foot_of types a)) same low) in_b)
      words (inl x) (inr low) same = absurd (apart.under (subst (Beneath (kinds_of types) c (foot_of types b)) (sym same ∙ x.object) low))
      words (inl x) (inl y) same =
          let one = x.first in
          let two = x.last in
          let three = y.first in
          let four = y.last in
          ⊎_elim (λ before. inl (omega (arith, one, two, three, four, before))) (λ behind. inr (omega (arith, one, two, three, four, behind))) (apart.beside (sym x.object ∙ same ∙ y.object))

  parted_step : (j s : ℕ) (ks bs : List ℕ) (a k x : Region) (lk : Lies types c (j ∷ ks) a k) (lx : Lies types c (s ∷ bs) a x) → IsTrue types c a → (begins (j ∷ ks) (s ∷ bs) || begins (s ∷ bs) (j ∷ ks)) ≡ false
      → (IsTrue types c lk.0 → Lies types c bs lk.0 x → (begins ks bs || begins bs ks) ≡ false → IsApart types c k x) → IsApart types c k x
  parted_step j s ks bs a k x lk lx is separate rest = go lk.1 lx.1
    where
      here : IsTrue types c lk.0
      here = goes_true types ordered hand c store j a lk.0 is lk.1

      -- each lies inside of its step's region
      apart : IsApart types c lk.0 lx.0 → IsApart types c k x
      apart h =
          apart_inside lk.0 lx.0 k x h (lies_inside types ordered hand c store ks lk.0 k here lk.2)
          (lies_inside types ordered hand c store bs lx.0 x (goes_true types ordered hand c store s a lx.0 is lx.1) lx.2)

      same : j ≡ s → lx.0 ≡ lk.0 → IsApart types c k x
      same e one =
          rest here (subst (λ (r : Region). Lies types c bs r x) one lx.2)
          (sym (ap (λ b. (b && begins ks bs) || (nat_eq s j && begins bs ks)) (eq_same j s e) ∙ ap (λ b. begins ks bs || (b && begins bs ks)) (eq_same s j (sym e))) ∙ separate)

      go : Goes types c j a lk.0 → Goes types c s a lx.0 → IsApart types c k x
      go (inl m) (inl n) = one_or_apart j s
          (λ e. same e (same_region lx.0 lk.0 (n.object ∙ sym m.object)
          (n.word ∙ ap (λ i. a.word + sum_by (width_at types) (take i (members_of types a.ty))) (sym e) ∙ sym m.word)
          (some_same (sym n.type ∙ ap (slice_get (members_of types a.ty)) (sym e) ∙ m.type))))
          (λ ne. apart (members_apart types ordered hand c store j s a lk.0 lx.0 ne m n is))
      go (inl m) (inr o) = absurd (no_members types (slice_get types.types a.ty.0) j lk.0.ty lx.0.ty m.type o.type)
      go (inr o) (inl m) = absurd (no_members types (slice_get types.types a.ty.0) s lx.0.ty lk.0.ty m.type o.type)
      go (inr o) (inr p) = one_or_apart lk.0.object lx.0.object
          (λ e. same (o.owned ∙ sym p.owned) (same_region lx.0 lk.0 (sym e) (p.word ∙ sym o.word) (some_same (sym p.type ∙ o.type))))
          (λ ne. apart (owned_apart types ordered hand c store j s a lk.0 lx.0 ne o p is))

  pub parted : (ks bs : List ℕ) (a k x : Region) → Lies types c ks a k → Lies types c bs a x → IsTrue types c a → (begins ks bs || begins bs ks) ≡ false → IsApart types c k x
  parted [] bs a k x lk lx is separate = absurd (false≢true (sym separate))
  parted (j ∷ ks) [] a k x lk lx is separate = absurd (false≢true (sym separate))
  parted (j ∷ ks) (s ∷ bs) a k x lk lx is separate = parted_step j s ks bs a k x lk lx is separate (λ here lies less. parted ks bs lk.0 k x lk.2 lies here less)
