-- Steps that add to a row, one after the other.
use Rattle.std.proofs.Common.{ℕ, Bool, inl, inr}
use Rattle.std.proofs.lemmas.Bool.{both_ways, cases_Bool, false_from_ne_true}
use Rattle.life_rules.specs.FactSets.{Includes, GainsSome}
use Rattle.life_plan.specs.Noted.{Notes}

-- ---- the locations that gained

pub notes_none : (a : ℕ → ℕ → Bool) (g : ℕ → Bool) → Notes a a g g
notes_none a g l = (λ h. inl h, λ h. elim h [ inl was ↦ was | inr new ↦ absurd (both_ways (a l new.0) new.1.0 new.1.1) ])

pub notes_more : (a b c : ℕ → ℕ → Bool) (g h k : ℕ → Bool) → Includes a b → Includes b c → Notes a b g h → Notes b c h k → Notes a c g k
notes_more a b c g h k ab bc first more l = (
  λ t.
      elim ((more l).0 t) [
        | inl was ↦ elim ((first l).0 was) [
          | inl early ↦ inl early
          | inr new ↦ inr (new.0, (new.1.0, bc l new.0 new.1.1))
        ]
        | inr new ↦ inr (new.0, (false_from_ne_true (a l new.0) (λ t. both_ways (b l new.0) new.1.0 (ab l new.0 t)), new.1.1))
      ],
  λ t.
      elim t [
        | inl was ↦ (more l).1 (inl ((first l).1 (inl was)))
        | inr new ↦ elim (cases_Bool (b l new.0)) [
          | inl here ↦ (more l).1 (inl ((first l).1 (inr (new.0, (new.1.0, here)))))
          | inr not_here ↦ (more l).1 (inr (new.0, (not_here, new.1.1)))
        ]
      ],
)

-- ---- what was gained

pub some_includes : (a b : ℕ → ℕ → Bool) (p : ℕ → ℕ → Type 0) → GainsSome a b p → Includes a b
some_includes a b p some l m = (some l m).0

pub includes_more : (a b c : ℕ → ℕ → Bool) → Includes a b → Includes b c → Includes a c
includes_more a b c ab bc l m h = bc l m (ab l m h)

pub some_none : (a : ℕ → ℕ → Bool) (p : ℕ → ℕ → Type 0) → GainsSome a a p
some_none a p l m = (λ h. h, λ h. inl h)

pub some_more : (a b c : ℕ → ℕ → Bool) (p : ℕ → ℕ → Type 0) → GainsSome a b p → GainsSome b c p → GainsSome a c p
some_more a b c p first more l m = (
  λ h. (more l m).0 ((first l m).0 h),
  λ h. elim ((more l m).1 h) [ inl was ↦ (first l m).1 was | inr new ↦ inr new ],
)

pub some_as : (a b : ℕ → ℕ → Bool) (p q : ℕ → ℕ → Type 0) → ((l m : ℕ) → p l m → q l m) → GainsSome a b p → GainsSome a b q
some_as a b p q same some l m = ((some l m).0, λ h. elim ((some l m).1 h) [ inl was ↦ inl was | inr new ↦ inr (same l m new) ])
