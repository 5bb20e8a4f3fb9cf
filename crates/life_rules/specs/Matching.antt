-- Which facts a rule speaks of, and what it makes of their elements.
use Rattle.std.specs.Prelude.{ℕ, Bool, true, false, cond, List, [], ◌∷◌, Option, Some, None}
use Rattle.std.specs.List.{list_any}
use Rattle.life_pset.specs.Places.{members_place, owned_place, under}
use Rattle.life_pset.specs.declared.element.AbsPlace.{AbsPlace}
use Rattle.life_pset.specs.declared.element.Element.{Element}
use Rattle.life_pset.specs.declared.element.Element.TheVariants as element
use Rattle.life_pset.specs.declared.element.Fact.{Fact}
use Rattle.life_contract.specs.Located.{is_rooted}

abbrev pub fact_at : AbsPlace → Element → Fact
fact_at l e = record { location = l; element = e }

-- the element, if there is one, as that of a location
abbrev pub facts_at : AbsPlace → Option Element → List Fact
facts_at l None = []
facts_at l (Some e) = fact_at l e ∷ []

-- the fact, if this holds, and else nothing
abbrev pub given_if : Bool → Fact → List Fact
given_if here fact = cond here (fact ∷ []) []

-- the fact, unless this holds
abbrev pub unless : Bool → Fact → List Fact
unless gone fact = cond gone [] (fact ∷ [])

-- .. if this holds
abbrev pub facts_if : Bool → AbsPlace → Option Element → List Fact
facts_if here l e = cond here (facts_at l e) []

-- ---- locations and elements

abbrev pub is_rooted_among : List ℕ → AbsPlace → Bool
is_rooted_among xs place = list_any (λ x. is_rooted x place) xs

-- the element is a place
abbrev pub is_at_place : Element → Bool
is_at_place element.Null = false
is_at_place (element.Invalid c) = false
is_at_place (element.Moved c) = false
is_at_place element.Own = false
is_at_place element.Static = false
is_at_place (element.At place) = true

-- it points to one of these locals
abbrev pub points_among : List ℕ → Element → Bool
points_among xs element.Null = false
points_among xs (element.Invalid c) = false
points_among xs (element.Moved c) = false
points_among xs element.Own = false
points_among xs element.Static = false
points_among xs (element.At place) = is_rooted_among xs place

-- it points to what the owner at a place owns, or a part of it
abbrev pub points_under : AbsPlace → Element → Bool
points_under a element.Null = false
points_under a (element.Invalid c) = false
points_under a (element.Moved c) = false
points_under a element.Own = false
points_under a element.Static = false
points_under a (element.At b) = under a b

-- what a pointer can't be where it isn't null
abbrev pub is_null : Element → Bool
is_null element.Null = true
is_null (element.Invalid c) = false
is_null (element.Moved c) = true
is_null element.Own = false
is_null element.Static = false
is_null (element.At place) = false

-- .. and where it is null
abbrev pub is_held : Element → Bool
is_held element.Null = false
is_held (element.Invalid c) = false
is_held (element.Moved c) = false
is_held element.Own = true
is_held element.Static = true
is_held (element.At place) = true

-- a place itself, or what the owner there owns
abbrev pub part_of : (owned : Bool) → AbsPlace → AbsPlace
part_of true a = owned_place a
part_of false a = a

-- what is reached through a pointer: the part of a target, and static and invalid as they are
abbrev pub reached : (owned : Bool) → (members : List ℕ) → Element → Option Element
reached owned members element.Null = None
reached owned members (element.Invalid c) = Some (element.Invalid c)
reached owned members (element.Moved c) = None
reached owned members element.Own = None
reached owned members element.Static = Some element.Static
reached owned members (element.At a) = Some (element.At (part_of owned (members_place a members)))

-- .. the targets alone
abbrev pub position_in : (members : List ℕ) → Element → Option Element
position_in members (element.At a) = Some (element.At (owned_place (members_place a members)))
position_in members _ = None

-- what a unique_ptr gives to a pointer: what it owns, or null
abbrev pub gotten : AbsPlace → Element → Option Element
gotten u element.Null = Some element.Null
gotten u (element.Moved c) = Some element.Null
gotten u element.Own = Some (element.At (owned_place u))
gotten u _ = None

-- .. and to another unique_ptr
abbrev pub given_over : Element → Option Element
given_over element.Null = Some element.Null
given_over (element.Moved c) = Some element.Null
given_over element.Own = Some element.Own
given_over _ = None
