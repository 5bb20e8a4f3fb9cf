-- Abstract places: how they go on from a root, and when one lies under another, or they overlap.
use Rattle.std.specs.Prelude.{ℕ, ◌+◌, Bool, ◌&&◌, ◌||◌, if◌then◌else◌, nat_eq, nat_lt, List, [], ◌∷◌, drop, length, take, slice_set}
use Rattle.std.specs.List.{list_any, starts_with}
use Rattle.life_pset.specs.contracts.element.RootPartialEq.TheImpl.{ghosts as compared}
use Rattle.life_pset.specs.declared.element.AbsPlace.{AbsPlace}
use Rattle.life_pset.specs.declared.element.Root.{Root}

-- ---- places

-- a root itself
abbrev pub root_place : Root → AbsPlace
root_place r = record { root = r; length = 0; steps = 0 ∷ 0 ∷ 0 ∷ 0 ∷ 0 ∷ 0 ∷ 0 ∷ 0 ∷ [] }

-- the step from an owner to what it owns; other steps are the numbers of members
abbrev pub owned_step : ℕ
owned_step = 255

-- what has more than eight steps has nine, and is no place of a function
abbrev pub too_long : AbsPlace → AbsPlace
too_long a = record { root = a.root; length = 9; steps = a.steps }

-- one step further
abbrev pub longer : AbsPlace → ℕ → AbsPlace
longer a step = record { root = a.root; length = a.length + 1; steps = slice_set a.steps a.length step }

abbrev pub stepped : AbsPlace → ℕ → AbsPlace
stepped a step = if nat_lt a.length 8 then longer a step else too_long a

-- what an owner owns
abbrev pub owned_place : AbsPlace → AbsPlace
owned_place a = stepped a owned_step

-- a member; no struct has so many that one has the number of the owned step
abbrev pub member_place : AbsPlace → ℕ → AbsPlace
member_place a m = if nat_lt m owned_step then stepped a m else too_long a

-- a member of a member, and so on
abbrev pub members_place : AbsPlace → List ℕ → AbsPlace
members_place a [] = a
members_place a (m ∷ ms) = members_place (member_place a m) ms

-- the steps from the root
abbrev pub path : AbsPlace → List ℕ
path a = take a.length a.steps

-- ---- one beside another

-- the second path begins with the first
abbrev pub begins : (first second : List ℕ) → Bool
begins a b = starts_with nat_eq b a

-- .. and goes on with at least one owned step
abbrev pub goes_under : (first second : List ℕ) → Bool
goes_under a b = begins a b && list_any (λ step. nat_eq step owned_step) (drop (length a) b)

-- the second place is the first, or a part of it
abbrev pub is_within : (first second : AbsPlace) → Bool
is_within a b = compared.eq a.root b.root && begins (path a) (path b)

-- the second place is owned by the first, or by a part of it
abbrev pub under : (first second : AbsPlace) → Bool
under a b = compared.eq a.root b.root && goes_under (path a) (path b)

-- one of them is a part of the other
abbrev pub overlap : (first second : AbsPlace) → Bool
overlap a b = compared.eq a.root b.root && (begins (path a) (path b) || begins (path b) (path a))
