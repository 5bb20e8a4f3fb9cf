-- What a birth and a word that is written change: an object is new at one number, and one that is written keeps its slots.
use Rattle.std.proofs.Common.{◌≡◌, ◌≢◌, ℕ, ◌+◌, List, length, Option, Some, None, refl, ◌∙◌, ⊎_elim, inl, inr, ◌⊎◌}
use Rattle.std.specs.Prelude.{slice_get, option_map}
use Rattle.std.proofs.lemmas.List.{length-set}
use Rattle.life_types.specs.declared.ty.TyId.{TyId}
use Rattle.life_store.specs.Cells.{at, set, at-set_other}
use Rattle.life_store.specs.Content.{Slot, Object, Content, newborn, resized, with_word, set_slot, written}
use Rattle.life_store.specs.Doing.{with_value_object}
use Rattle.life_store.proofs.CellLemmas.{set_cases}

-- ---- an object that is written keeps its slots

set_slot_length : (slots : List Slot) (i : ℕ) (s : Option Slot) → length (set_slot slots i s) ≡ length slots
set_slot_length slots i None = refl
set_slot_length slots i (Some s) = length-set slots i s

pub with_word_length : (i w value : ℕ) (o : Object) → length (with_word i w value o).slots ≡ length o.slots
with_word_length i w value o = set_slot_length o.slots i (option_map (written w value) (slice_get o.slots i))

-- ---- a new object is none that was there

-- the object of a new variable
abbrev pub value_object : TyId → ℕ → Object
value_object ty clock = resized (clock + 1) 1 0 (newborn ty 1 1 clock)

-- what is at a number after the birth
pub born_cases : (ty : TyId) (c : Content) (m : ℕ)
    → ((c.births ≡ m) × (at (with_value_object ty c).objects m ≡ Some (value_object ty c.clock))) ⊎ ((c.births ≢ m) × (at (with_value_object ty c).objects m ≡ at c.objects m))
born_cases ty c m =
    ⊎_elim
    (λ s. inl (s.0, s.1))
    (λ d. inr (d.0, d.1 ∙ at-set_other c.objects c.births m _ d.0))
    (set_cases (set c.objects c.births (newborn ty 1 1 c.clock)) c.births m (value_object ty c.clock))
