-- A list of functions after one of them got another result.
use Rattle.std.proofs.Common.{◌≡◌, ◌<◌, ℕ, zero, suc, List, [], ◌∷◌, length, map, Some, None, slice_get, slice_set, refl, sym, ap, ◌∙◌, arith}
use Rattle.std.proofs.lemmas.Option.{none-some}
use Rattle.life_types.specs.declared.ty.TyId.{TyId}
use Rattle.life_core.specs.declared.program.CoreFn.{CoreFn}
use Rattle.life_core.specs.Function.{Function, function_of}
use Rattle.life_proper_check.specs.Results.{result_set, with_result}

pub was_set : (fs : List CoreFn) (n : ℕ) (f g : CoreFn) (result : TyId) → slice_get fs n ≡ Some f → function_of g ≡ with_result result (function_of f)
    → map function_of (slice_set fs n g) ≡ result_set n result (map function_of fs)
was_set [] n f g result at is = absurd (none-some f at)
was_set (h ∷ fs) zero f g result at is = let same : h ≡ f = cc in ap (λ (k : Function). k ∷ map function_of fs) (is ∙ ap (λ (k : CoreFn). with_result result (function_of k)) (sym same))
was_set (h ∷ fs) (suc n) f g result at is = ap (λ (gs : List Function). function_of h ∷ gs) (was_set fs n f g result at is)

pub none_beyond : (fs : List CoreFn) (n : ℕ) → (n < length fs → ⊥) → slice_get fs n ≡ None
none_beyond [] n over = refl
none_beyond (f ∷ fs) zero over = absurd (over (omega arith))
none_beyond (f ∷ fs) (suc n) over = none_beyond fs n (λ lt. over (omega (arith, lt)))

pub unset : (fs : List CoreFn) (n : ℕ) (result : TyId) → slice_get fs n ≡ None → map function_of fs ≡ result_set n result (map function_of fs)
unset [] n result e = refl
unset (f ∷ fs) zero result e = absurd (none-some f (sym e))
unset (f ∷ fs) (suc n) result e = ap (λ (gs : List Function). function_of f ∷ gs) (unset fs n result e)
