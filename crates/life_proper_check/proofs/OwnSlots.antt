-- No two slots are handed one local: what is handed over tells so by itself.
use Rattle.std.proofs.Common.{◌≡◌, ℕ, Bool, ◌&&◌, ◌||◌, not, List, [], ◌∷◌, Option, Some, refl, sym, ap, ◌∙◌}
use Rattle.std.specs.List.{list_any}
use Rattle.life_types.specs.Pointees.{ty_of}
use Rattle.life_types.specs.Types.{Types}
use Rattle.life_core.specs.Function.{Function}
use Rattle.life_core.specs.Operands.{Argument, GivenOver, Location, PointerOf, Slot, Value}
use Rattle.life_proper.specs.WellFormed.{are_arguments_for, are_one, goes_to, have_own_slots, is_call, is_slot_of, types_taken}
use Rattle.life_proper_check.specs.OwnSlots.{are_own_slots, is_handed_as}

module _ (types : Types) (texts : ℕ) (fs : List Function) (f : Function) where
  any_handed : (l : Location) (xs : List Argument) → list_any (is_slot_of types texts fs f l) xs ≡ list_any (is_handed_as l) xs
  any_handed l [] = refl
  any_handed l (Value r ∷ xs) = any_handed l xs
  any_handed l (GivenOver x ∷ xs) = any_handed l xs
  any_handed l (PointerOf m ∷ xs) = any_handed l xs
  any_handed l (Slot m ∷ xs) = ap (λ b. are_one l m || b) (any_handed l xs)

  pub own_slots : (xs : List Argument) → have_own_slots types texts fs f xs ≡ are_own_slots xs
  own_slots [] = refl
  own_slots (Value r ∷ xs) = own_slots xs
  own_slots (GivenOver x ∷ xs) = own_slots xs
  own_slots (PointerOf l ∷ xs) = own_slots xs
  own_slots (Slot l ∷ xs) = ap (λ b. not b && have_own_slots types texts fs f xs) (any_handed l xs) ∙ ap (λ b. not (list_any (is_handed_as l) xs) && b) (own_slots xs)

  -- a call of a function that is there
  pub call_found : (o : Option Function) (g : Function) (target : Option Location) (xs : List Argument) → o ≡ Some g
      → (are_arguments_for types texts fs f (types_taken g) xs && (are_own_slots xs && goes_to types texts fs f (ty_of types g.result) target)) ≡ is_call types texts fs f o target xs
  call_found o g target xs there =
      ap (λ (b : Bool). are_arguments_for types texts fs f (types_taken g) xs && (b && goes_to types texts fs f (ty_of types g.result) target)) (sym (own_slots xs))
      ∙ ap (λ (p : Option Function). is_call types texts fs f p target xs) (sym there)
