-- The places that lie at steps from another one, and their types.
use Rattle.std.specs.Prelude.{ℕ, if◌then◌else◌, nat_eq, List, [], ◌∷◌}
use Rattle.life_types.specs.Pointees.{ty_of}
use Rattle.life_types.specs.Types.{Types}
use Rattle.life_types.specs.declared.ty.Ty.{Ty}
use Rattle.life_types.specs.declared.ty.Ty.TheVariants as ty
use Rattle.life_pset.specs.Elements.{Input}
use Rattle.life_pset.specs.Places.{member_place, owned_place, owned_step, path}
use Rattle.life_pset.specs.Shapes.{member_of, target_of, ty_if}
use Rattle.life_pset.specs.declared.element.AbsPlace.{AbsPlace}

-- ---- places

abbrev pub step_place : AbsPlace → ℕ → AbsPlace
step_place a step = if nat_eq step owned_step then owned_place a else member_place a step

-- a place, and from there these steps
abbrev pub steps_place : AbsPlace → List ℕ → AbsPlace
steps_place a [] = a
steps_place a (s ∷ ss) = steps_place (step_place a s) ss

-- ---- types

-- what an owner owns; what has no type counts as void
abbrev pub owned_type : Types → Ty → Ty
owned_type types ty.Text = ty.Char
owned_type types (ty.Vector item) = ty_of types item
owned_type types (ty.Unique target) = ty_of types target
owned_type types _ = ty.Void

-- what a step leads to
abbrev pub step_type : Types → Ty → ℕ → Ty
step_type types t step = if nat_eq step owned_step then owned_type types t else ty_if types (member_of types t step)

abbrev pub steps_type : Types → Ty → List ℕ → Ty
steps_type types t [] = t
steps_type types t (s ∷ ss) = steps_type types (step_type types t s) ss

-- what a pointer points to: a view to characters
abbrev pub pointed_type : Types → Ty → Ty
pointed_type types ty.View = ty.Char
pointed_type types t = ty_if types (target_of t)

-- the type of a place behind an input
abbrev pub position_type : Types → Input → AbsPlace → Ty
position_type types i place = steps_type types (pointed_type types (ty_if types i.ty)) (path place)
