-- No local of a function that is served is a slot, and so none of its parameters.
use Rattle.std.proofs.Common.{◌≡◌, ℕ, zero, suc, true, false, List, [], ◌∷◌, map, take}
use Rattle.std.proofs.lemmas.Bool.{and_parts}
use Rattle.std.specs.List.{list_all}
use Rattle.life_types.specs.Types.{Types, is_slot_at}
use Rattle.life_types.specs.declared.ty.TyId.{TyId}
use Rattle.life_core.specs.declared.program.Local.{Local}
use Rattle.life_core_served.specs.Served.{is_no_slot}
use Rattle.life_proper.specs.WellFormed.{local_type}
use Rattle.life_proper.proofs.HeldSorts.{not_false}

pub not_slot : (types : Types) (l : Local) → is_no_slot types l ≡ true → is_slot_at types l.ty ≡ false
not_slot types l e = not_false (is_slot_at types l.ty) e

-- none of these types is a slot
abbrev pub HaveNoSlot : Types → List TyId → Type 0
HaveNoSlot types [] = Unit {0}
HaveNoSlot types (id ∷ ids) = (is_slot_at types id ≡ false) × HaveNoSlot types ids

-- .. of what stands first
pub first_served : (types : Types) (n : ℕ) (ls : List Local) → list_all (is_no_slot types) ls ≡ true → HaveNoSlot types (map local_type (take n ls))
first_served types zero ls e = tt
first_served types (suc n) [] e = tt
first_served types (suc n) (l ∷ ls) e =
    let both = and_parts (is_no_slot types l) (list_all (is_no_slot types) ls) e in
    (not_slot types l both.0, first_served types n ls both.1)
