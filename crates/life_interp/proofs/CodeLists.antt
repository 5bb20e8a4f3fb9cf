-- Points and functions by their numbers, as the code finds them.
use Rattle.std.proofs.Common.{◌≡◌, ℕ, zero, suc, ◌-◌, ◌<◌, ◌≤◌, ◌^◌, List, [], ◌∷◌, length, map, Option, Some, refl, sym, ap, ◌∙◌, arith}
use Rattle.std.proofs.lemmas.List.{length-map}
use Rattle.std.proofs.lemmas.Option.{none-some, same_Some, slice_get-map}
use Rattle.std.specs.declared.alloc.Global.{Global}
use Rattle.std.specs.declared.vec.Vec.{Vec}
use Rattle.std.specs.Prelude.{slice_get, option_map}
use Rattle.life_core.specs.Function.{Function, Program, function_of}
use Rattle.life_core.specs.Link.{link_seen}
use Rattle.life_core.specs.Linked.{Linked, code_of, numbered, points_of}
use Rattle.life_core.specs.declared.link.LinkRef.{LinkRef}
use Rattle.life_core.specs.declared.program.CoreFn.{CoreFn}
use Rattle.life_pset.specs.Limits.{IsProgramWithinLimits}
use Rattle.life_interp.specs.Frames.{function_at}
use Rattle.life_interp.specs.Runs.{links_seen}

-- ---- points

pub numbered_is : (ls : List LinkRef) (n : ℕ) (o : Option LinkRef) → (n ≡ 0 → ⊥) → o ≡ slice_get ls (n - 1) → option_map link_seen o ≡ numbered (map link_seen ls) n
numbered_is ls zero o ne e = absurd (ne refl)
numbered_is ls (suc n) o ne e = let k : suc n - 1 ≡ n = omega arith in ap (option_map link_seen) (e ∙ ap (slice_get ls) k) ∙ sym (slice_get-map link_seen ls n)

-- ---- functions

-- a function that is there is the one with its number
pub function_there : (fs : List Function) (n : ℕ) (f : Function) → slice_get fs n ≡ Some f → function_at fs n ≡ f
function_there [] n f e = absurd (none-some f e)
function_there (g ∷ gs) zero f e = same_Some g f e
function_there (g ∷ gs) (suc n) f e = function_there gs n f e

pub there_at : (fs : List Function) (n : ℕ) → n < length fs → slice_get fs n ≡ Some (function_at fs n)
there_at [] n lt = absurd (omega (arith, lt))
there_at (g ∷ gs) zero lt = refl
there_at (g ∷ gs) (suc n) lt = there_at gs n (omega (arith, lt))

pub few_at : (p : Program) → IsProgramWithinLimits p → (i : ℕ) (f : Function) → slice_get p.functions i ≡ Some f → points_of f < 2 ^ 31
few_at p within i f there = few (points_of f) (within.each i f there).points
  where
    few : (n : ℕ) → n ≤ 1024 → n < 2 ^ 31
    few n h = omega (arith, h)

pub code_at : (codes : List (Vec LinkRef Global)) (fs : List Function) (i : ℕ) (v : Vec LinkRef Global) (f : Function) → map links_seen codes ≡ map code_of fs → slice_get codes i ≡ Some v → slice_get fs i ≡ Some f → links_seen v ≡ code_of f
code_at codes fs i v f e there here =
    same_Some (links_seen v) (code_of f)
    (sym (slice_get-map links_seen codes i ∙ ap (option_map links_seen) there) ∙ ap (λ (xs : List (List Linked)). slice_get xs i) e ∙ slice_get-map code_of fs i ∙ ap (option_map code_of) here)

pub codes_length : (codes : List (Vec LinkRef Global)) (fs : List CoreFn) → map links_seen codes ≡ map code_of (map function_of fs) → length codes ≡ length fs
codes_length codes fs e = sym (length-map codes links_seen) ∙ ap length e ∙ length-map (map function_of fs) code_of ∙ length-map fs function_of
