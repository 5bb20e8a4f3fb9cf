-- The rules on parameters one after the other, as a loop goes through them.
use Rattle.std.proofs.Common.{◌≡◌, ℕ, suc, ◌+◌, ◌<◌, ◌≤◌, Bool, List, ◌∷◌, Option, Ok, length, get_or, drop, slice_get, refl, sym, ap, ◌∙◌, add-one, drop-cons}
use Rattle.std.proofs.lemmas.Bool.{le-ltb}
use Rattle.life_tree.specs.declared.function.Parameter.{Parameter}
use Rattle.life_typing.specs.Answers.{Kept, Tells}
use Rattle.life_names.specs.Environment.{Scope}
use Rattle.life_typing.specs.Parameters.{parameter_rules, parameter_with}
use Rattle.life_names.specs.declared.fault.IllFault.{IllFault}
use Rattle.life_names.specs.declared.fault.IllFault.TheVariants as faults
use Rattle.life_typing.specs.declared.pointing.Reach.{Reach}

-- the next breaks a rule
parameter_broken : (scope : Scope) (known : List Reach) (hides : List Bool) (index : ℕ) (p : Parameter) (ps : List Parameter) (e : IllFault) (total : Kept)
    → parameter_rules scope known hides index (p ∷ ps) ≡ total → index ≤ length known
    → Tells e (parameter_with scope p (slice_get known index) (slice_get hides index)) → Tells e total
parameter_broken scope known hides index p ps faults.NoMemory total so_far within broke = tt
parameter_broken scope known hides index p ps (faults.Ill kind place) total so_far within broke = sym so_far ∙ rw (le-ltb (length known) index within, broke) refl

-- the next breaks none
parameter_kept : (scope : Scope) (known : List Reach) (hides : List Bool) (index : ℕ) (p : Parameter) (ps : List Parameter) (total : Kept)
    → parameter_rules scope known hides index (p ∷ ps) ≡ total → index ≤ length known
    → parameter_with scope p (slice_get known index) (slice_get hides index) ≡ Ok tt → parameter_rules scope known hides (index + 1) ps ≡ total
parameter_kept scope known hides index p ps total so_far within kept = rw (le-ltb (length known) index within, kept) at so_far

module _ (scope : Scope) (known : List Reach) (hides : List Bool) (index i : ℕ) (p : Parameter) (all : List Parameter) (reach : Option Reach) (hidden : Option Bool) (total : Kept) where
  next : i < length all → p ≡ get_or all i p → drop i all ≡ p ∷ drop (i + 1) all
  next within is = rw add-one (drop-cons all i p within ∙ ap (λ (x : Parameter). x ∷ drop (suc i) all) (sym is))

  -- the one at a place of a list breaks a rule
  pub broken_there : (e : IllFault) → parameter_rules scope known hides index (drop i all) ≡ total → i < length all → p ≡ get_or all i p → index ≤ length known
      → reach ≡ slice_get known index → hidden ≡ slice_get hides index → Tells e (parameter_with scope p reach hidden) → Tells e total
  broken_there e so_far within is bound its_reach its_hiding broke =
      parameter_broken scope known hides index p (drop (i + 1) all) e total (rw (next within is) at so_far) bound (rw (its_reach, its_hiding) at broke)

  -- .. or none
  pub kept_there : parameter_rules scope known hides index (drop i all) ≡ total → i < length all → p ≡ get_or all i p → index ≤ length known
      → reach ≡ slice_get known index → hidden ≡ slice_get hides index → parameter_with scope p reach hidden ≡ Ok tt
      → parameter_rules scope known hides (index + 1) (drop (i + 1) all) ≡ total
  kept_there so_far within is bound its_reach its_hiding kept =
      parameter_kept scope known hides index p (drop (i + 1) all) total (rw (next within is) at so_far) bound (rw (its_reach, its_hiding) at kept)
