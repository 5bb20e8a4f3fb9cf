-- The places where a pointer may point, as they are kept for look-ups, and when those of two pointers overlap.
use Rattle.std.specs.Prelude.{◌≡◌, ℕ, ◌≤◌, IsTrue, List, Contains, ◌++◌, drop, length, replicate, take}
use Rattle.life_pset.specs.Places.{is_within, overlap, path}
use Rattle.life_pset.specs.declared.element.AbsPlace.{AbsPlace}

-- ---- what two pointers see

-- some of these places is one of those, or a part of it
abbrev pub HasPart : (these those : List AbsPlace) → Type 0
HasPart these those = (a : AbsPlace) × ((b : AbsPlace) × (Contains these a × (Contains those b × IsTrue (is_within b a))))

-- some of these places and one of those overlap
abbrev pub Overlap : (these those : List AbsPlace) → Type 0
Overlap these those = (a : AbsPlace) × ((b : AbsPlace) × (Contains these a × (Contains those b × IsTrue (overlap a b))))

-- ---- how places are looked up

-- the place that is so many steps from the root on the way to this one, and nothing behind them
abbrev pub outer : AbsPlace → ℕ → AbsPlace
outer place count = record { root = place.root; length = count; steps = take count (path place) ++ drop count (replicate 8 0) }

-- the place itself, and nothing behind its steps
abbrev pub outline : AbsPlace → AbsPlace
outline place = outer place (length (path place))

-- the outlines are those of the places, and no others
pub record IsOutlined (places outlines : List AbsPlace) : Type 0 where
  pub covers : (p : AbsPlace) → Contains places p → Contains outlines (outline p)
  pub made : (o : AbsPlace) → Contains outlines o → (p : AbsPlace) × (Contains places p × (o ≡ outline p))

-- some place on the way to this one, itself included, is among the outlines
abbrev pub HasOuter : AbsPlace → (outlines : List AbsPlace) → Type 0
HasOuter place outlines = (count : ℕ) × ((count ≤ length (path place)) × Contains outlines (outer place count))
