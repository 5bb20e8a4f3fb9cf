-- Which word of an object owns what, in the meaning.
use Rattle.std.specs.Prelude.{◌≡◌, ℕ, zero, suc, List, [], ◌∷◌, Option, Some, None}
use Rattle.life_store.specs.Cells.{at}
use Rattle.life_store.specs.Content.{Slot, Object, Content}
use Rattle.life_seen.specs.Kinds.{Kinds}
use Rattle.life_store.specs.Kinds.{Kind, Plain, Owner, Pointing}

-- the word, if it is an owner's, and else 0
abbrev pub owner_of : Kind → ℕ → ℕ
owner_of Plain w = 0
owner_of Owner w = w
owner_of (Pointing i) w = 0

abbrev pub owner_at : (ℕ → Kind) → List ℕ → ℕ → ℕ
owner_at f [] u = 0
owner_at f (w ∷ ws) zero = owner_of (f 0) w
owner_at f (w ∷ ws) (suc u) = owner_at (λ v. f (suc v)) ws u

abbrev pub owner_in : (ℕ → Kind) → List Slot → (slot word : ℕ) → ℕ
owner_in f [] i u = 0
owner_in f (s ∷ ss) zero u = owner_at f s.words u
owner_in f (s ∷ ss) (suc i) u = owner_in f ss i u

abbrev pub owner_if : Kinds → Option Object → (slot word : ℕ) → ℕ
owner_if kinds None i u = 0
owner_if kinds (Some o) i u = owner_in (kinds o.ty) o.slots i u

-- the word of the slot of the object n owns that of the number m
abbrev pub Owns : Kinds → Content → (n slot word m : ℕ) → Type 0
Owns kinds c n i u m = owner_if kinds (at c.objects n) i u ≡ suc m

-- nothing owns it
abbrev pub IsUnowned : Kinds → ℕ → Content → Type 0
IsUnowned kinds m c = (n i u : ℕ) → Owns kinds c n i u m → ⊥
