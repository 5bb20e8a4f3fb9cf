-- Words that are written beside the words of a pointer leave it as it is.
use Rattle.std.proofs.Common.{◌≡◌, ◌⊎◌, inl, inr, ⊎_elim, ℕ, zero, suc, ◌+◌, ◌≤◌, ◌<◌, List, [], ◌∷◌, length, Some, refl, sym, ap, subst, ◌∙◌, arith}
use Rattle.std.specs.Prelude.{drop, slice_get, slice_set, take}
use Rattle.life_types.specs.Trees.{IsOrdered}
use Rattle.life_types.specs.Types.{Types}
use Rattle.life_types.specs.declared.ty.TyId.{TyId}
use Rattle.life_store.specs.Content.{Slot, Object}
use Rattle.life_store.specs.Held.{words_if}
use Rattle.life_store.specs.Kinds.{Kind, Plain, Owner, Pointing, kind_in}
use Rattle.life_store.specs.Parts.{parts_at}
use Rattle.life_forest.specs.Begins.{begins_at}
use Rattle.life_forest.proofs.Coming.{below_or}
use Rattle.life_forest.proofs.BegunPointers.{IsBegun, begun_at}
use Rattle.life_forest.proofs.MemberPointers.{first_puts, sets}
use Rattle.life_forest.proofs.Puts.{put_in, puts_in}

-- no word of a pointer
abbrev pub IsNoPointer : Kind → Type 0
IsNoPointer Plain = Unit {0}
IsNoPointer Owner = Unit {0}
IsNoPointer (Pointing i) = ⊥

-- ---- lists

set_apart : (xs : List ℕ) (w v u k : ℕ) → (u + k ≤ w) ⊎ (w < u) → take k (drop u (slice_set xs w v)) ≡ take k (drop u xs)
set_apart [] w v u k apart = refl
set_apart (x ∷ xs) zero v zero zero apart = refl
set_apart (x ∷ xs) zero v zero (suc k) apart = absurd (⊎_elim (λ h. omega (arith, h)) (λ h. omega (arith, h)) apart)
set_apart (x ∷ xs) zero v (suc u) k apart = refl
set_apart (x ∷ xs) (suc w) v zero zero apart = refl
set_apart (x ∷ xs) (suc w) v zero (suc k) apart = ap (λ (ys : List ℕ). x ∷ ys) (set_apart xs w v zero k (⊎_elim (λ h. inl (omega (arith, h))) (λ h. absurd (omega (arith, h))) apart))
set_apart (x ∷ xs) (suc w) v (suc u) k apart = set_apart xs w v u k (⊎_elim (λ h. inl (omega (arith, h))) (λ h. inr (omega (arith, h))) apart)

pub sets_apart : (w : ℕ) (vs xs : List ℕ) (u k : ℕ) → (u + k ≤ w) ⊎ (w + length vs ≤ u) → take k (drop u (sets w vs xs)) ≡ take k (drop u xs)
sets_apart w [] xs u k apart = refl
sets_apart w (v ∷ vs) xs u k apart =
    sets_apart (w + 1) vs (slice_set xs w v) u k (⊎_elim (λ h. inl (omega (arith, h))) (λ h. inr (omega (arith, h))) apart)
    ∙ set_apart xs w v u k (⊎_elim (λ h. inl h) (λ h. inr (omega (arith, h))) apart)

pub puts_apart : (i w : ℕ) (vs : List ℕ) (ss : List Slot) (u k : ℕ) → (u + k ≤ w) ⊎ (w + length vs ≤ u) → take k (drop u (words_if (slice_get (puts_in i w vs ss) 0))) ≡ take k (drop u (words_if (slice_get ss 0)))
puts_apart i w vs [] u k apart = ap (λ (ss : List Slot). take k (drop u (words_if (slice_get ss 0)))) (none i w vs)
  where
    none : (i w : ℕ) (vs : List ℕ) → puts_in i w vs [] ≡ []
    none i w [] = refl
    none i w (v ∷ vs) = none i (w + 1) vs
puts_apart zero w vs (s ∷ ss) u k apart = ap (λ (ws : List ℕ). take k (drop u ws)) (first_puts w vs s ss) ∙ sets_apart w vs s.words u k apart
puts_apart (suc i) w vs (s ∷ ss) u k apart = others w vs ss
  where
    others : (w : ℕ) (vs : List ℕ) (ss : List Slot) → take k (drop u (words_if (slice_get (puts_in (suc i) w vs (s ∷ ss)) 0))) ≡ take k (drop u s.words)
    others w [] ss = refl
    others w (v ∷ vs) ss = others (w + 1) vs (put_in i w v ss)

-- ---- objects

-- the words of the pointer that begins at a word of the first slot
abbrev pub pointer_at : Object → ℕ → List ℕ
pointer_at o u = take 5 (drop u (words_if (slice_get o.slots 0)))

-- each pointer of the second is as it was in the first
abbrev pub SamePointers : Types → Object → Object → Type 0
SamePointers types o x = (u : ℕ) (q : TyId) → begins_at types x.ty u ≡ Some q → pointer_at o u ≡ pointer_at x u

pub same_if : (types : Types) (o x : Object) → o ≡ x → SamePointers types o x
same_if types o x e u q begins = ap (λ (y : Object). pointer_at y u) e

pub same_then : (types : Types) (o p x : Object) → p.ty ≡ x.ty → SamePointers types o p → SamePointers types p x → SamePointers types o x
same_then types o p x type first second u q begins = first u q (ap (λ ty. begins_at types ty u) type ∙ begins) ∙ second u q begins

pub gap : (a b : ℕ) → a ≤ b → (d : ℕ) × (b ≡ a + d)
gap zero b le = (b, omega arith)
gap (suc a) zero le = absurd (omega (arith, le))
gap (suc a) (suc b) le = let r = gap a b (omega (arith, le)) in let e = r.1 in (r.0, omega (arith, e))

module _ (types : Types) (ordered : IsOrdered types) where
  -- words that are no pointer's lie beside one that begins
  pub lie_apart : (id : TyId) (u w len : ℕ) (q : TyId) → begins_at types id u ≡ Some q → 0 < len → ((j : ℕ) → j < len → IsNoPointer (kind_in (parts_at types id) (w + j))) → (u + 5 ≤ w) ⊎ (w + len ≤ u)
  lie_apart id u w len q begins some free = below_or w (u + 5) (λ lt. below_or u (w + len) (λ less. absurd (overlap lt less)) (λ le. inr le)) (λ le. inl le)
    where
      begun : IsBegun (parts_at types id) u
      begun = begun_at types ordered id u q begins

      clash : (a b j k : ℕ) → a ≡ b → k < len → a ≡ w + k → b ≡ u + j → j < 5 → ⊥
      clash a b j k e less at_w at_u lt = subst IsNoPointer (ap (kind_in (parts_at types id)) (sym at_w ∙ e ∙ at_u) ∙ begun.words j lt) (free k less)

      overlap : w < u + 5 → u < w + len → ⊥
      overlap lt less = below_or u w
          (λ h. let d = gap u w (omega (arith, h)) in let e = d.1 in clash w w d.0 0 refl some (omega arith) e (omega (arith, e, lt)))
          (λ h. let d = gap w u h in let e = d.1 in clash u u 0 d.0 refl (omega (arith, e, less)) e (omega arith) (omega arith))

  pub apart_pointers : (o : Object) (i w : ℕ) (vs : List ℕ) → ((j : ℕ) → j < length vs → IsNoPointer (kind_in (parts_at types o.ty) (w + j))) → SamePointers types o (record o { slots = puts_in i w vs o.slots })
  apart_pointers o i w [] free u q begins = refl
  apart_pointers o i w (v ∷ vs) free u q begins = sym (puts_apart i w (v ∷ vs) o.slots u 5 (lie_apart o.ty u w (length (v ∷ vs)) q begins (omega arith) free))
