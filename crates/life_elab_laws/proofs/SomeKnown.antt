-- Between statements something may be known: that the living variables are there, and nothing else is.
use Rattle.std.proofs.Common.{◌≡◌, ◌+◌, ◌<◌, ◌⊎◌, inl, inr, ℕ, zero, suc, List, [], ◌∷◌, length, refl, sym, ap, ◌∙◌, arith}
use Rattle.std.proofs.lemmas.Option.{slice_get_within}
use Rattle.life_types.specs.Types.{Types}
use Rattle.life_core.specs.Function.{Function}
use Rattle.life_core.specs.declared.program.Local.{Local}
use Rattle.life_proper.specs.Knowing.{known_at}
use Rattle.life_proper.specs.declared.known.Known.{Known}
use Rattle.life_proper.specs.declared.known.Known.TheVariants as known
use Rattle.life_well_typed.specs.Visible.{Visible}
use Rattle.life_writer.specs.Around.{Around}
use Rattle.life_writer.specs.Writing.{State}
use Rattle.life_elab_laws.proofs.Among.{Among, among_or}
use Rattle.life_elab_laws.proofs.Exits.{Knows}
use Rattle.life_elab_laws.proofs.Following.{Follows}
use Rattle.life_elab_laws.proofs.Growing.{Begins}

chosen : (living : List ℕ) (x : ℕ) → Among x living ⊎ (Among x living → ⊥) → Known
chosen living x (inl m) = known.Ready
chosen living x (inr none) = known.Blank

-- of each local from a number on
all_from : List ℕ → ℕ → List Local → List Known
all_from living n [] = []
all_from living n (l ∷ ls) = chosen living n (among_or n living) ∷ all_from living (suc n) ls

from_length : (living : List ℕ) (n : ℕ) (ls : List Local) → length (all_from living n ls) ≡ length ls
unfolding all_from
from_length living n [] = refl
from_length living n (l ∷ ls) = ap suc (from_length living (suc n) ls)

from_at : (living : List ℕ) (n : ℕ) (ls : List Local) (y : ℕ) → y < length ls → known_at (all_from living n ls) y ≡ chosen living (n + y) (among_or (n + y) living)
unfolding all_from
from_at living n [] y lt = absurd (omega (arith, lt))
from_at living n (l ∷ ls) zero lt = ap (λ (m : ℕ). chosen living m (among_or m living)) (sym (none_more n))
  where
    none_more : (n : ℕ) → n + zero ≡ n
    none_more n = omega arith
from_at living n (l ∷ ls) (suc y) lt =
    from_at living (suc n) ls y (omega (arith, lt)) ∙ ap (λ (m : ℕ). chosen living m (among_or m living)) (further n y)
  where
    further : (n y : ℕ) → suc n + y ≡ n + suc y
    further n y = omega arith

-- from the first one on
from_first : (living : List ℕ) (ls : List Local) (y : ℕ) → y < length ls → known_at (all_from living 0 ls) y ≡ chosen living y (among_or y living)
from_first living ls y lt = from_at living 0 ls y lt ∙ ap (λ (m : ℕ). chosen living m (among_or m living)) (none_before y)
  where
    none_before : (y : ℕ) → 0 + y ≡ y
    none_before y = omega arith

chosen_ready : (living : List ℕ) (x : ℕ) (o : Among x living ⊎ (Among x living → ⊥)) → Among x living → chosen living x o ≡ known.Ready
unfolding chosen
chosen_ready living x (inl m) h = refl
chosen_ready living x (inr none) h = absurd (none h)

chosen_blank : (living : List ℕ) (x : ℕ) (o : Among x living ⊎ (Among x living → ⊥)) → (Among x living → ⊥) → chosen living x o ≡ known.Blank
unfolding chosen
chosen_blank living x (inl m) h = absurd (h m)
chosen_blank living x (inr none) h = refl

module _ (types : Types) (f : Function) (a : Around) (v : Visible) (s : State) (h : Follows types f a v s) (b : Begins types f s) where
  pub some_known : List Known
  some_known = all_from s.living 0 f.locals

  pub some_knows : Knows f s.living some_known
  unfolding some_known
  some_knows = record {
    sized = from_length s.living 0 f.locals;
    alive = λ y m.
        let is = h.living y m in
        from_first s.living f.locals y (slice_get_within f.locals y is.local (b.locals y is.local is.there)) ∙ chosen_ready s.living y (among_or y s.living) m;
    blank = λ y l there lasts none. from_first s.living f.locals y (slice_get_within f.locals y l there) ∙ chosen_blank s.living y (among_or y s.living) none;
  }
