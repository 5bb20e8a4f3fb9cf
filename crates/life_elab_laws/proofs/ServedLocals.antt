-- None of the locals of a function that is translated is a slot, as the theorem on runs asks.
use Rattle.std.proofs.Common.{◌≡◌, ℕ, zero, suc, Bool, true, false, not, List, [], ◌∷◌, slice_get, Option, Some, refl, ap, ◌∙◌}
use Rattle.std.proofs.lemmas.Bool.{and_from}
use Rattle.std.specs.List.{list_all}
use Rattle.life_types.specs.Types.{Types, is_slot_type}
use Rattle.life_types.specs.declared.ty.Ty.{Ty}
use Rattle.life_types.specs.declared.ty.Ty.TheVariants as ty
use Rattle.life_core_served.specs.Served.{is_no_slot}
use Rattle.life_core.specs.declared.program.Local.{Local}
use Rattle.life_elab_laws.proofs.Targets.{reference_no_slot}
use Rattle.life_elab_laws.proofs.WrittenLocals.{fits_local}

-- what each of a list passes, all do
pub all_pass : {A : Type 0} (test : A → Bool) (xs : List A) → ((n : ℕ) (x : A) → slice_get xs n ≡ Some x → test x ≡ true) → list_all test xs ≡ true
all_pass test [] each = refl
all_pass test (x ∷ xs) each = and_from (test x) (list_all test xs) (each zero x refl) (all_pass test xs (λ n. each (suc n)))

module _ (types : Types) where
  no_slot : (t : Ty) → fits_local types t ≡ true → is_slot_type types (Some t) ≡ false
  no_slot (ty.Reference target constant) h = reference_no_slot types target constant h
  no_slot _ h = refl

  pub local_served : (l : Local) (t : Ty) → slice_get types.types l.ty.0 ≡ Some t → fits_local types t ≡ true → is_no_slot types l ≡ true
  local_served l t at fits = ap (λ (o : Option Ty). not (is_slot_type types o)) at ∙ ap not (no_slot t fits)
