-- What a call hands over and gives back.
use Rattle.std.specs.Prelude.{ℕ, zero, suc, ℤ, pos, ◌+◌, ◌-◌, cond, List, [], ◌∷◌, ◌++◌, Option, Some, None, drop, length, slice_get, take}
use Rattle.life_types.specs.Types.{Types, is_slot_at}
use Rattle.life_types.specs.declared.ty.Ty.{Ty}
use Rattle.life_types.specs.declared.ty.Ty.TheVariants as variant
use Rattle.life_types.specs.declared.ty.TyId.{TyId}
use Rattle.life_core.specs.Function.{Function}
use Rattle.life_core.specs.Operands.{Argument, Location, Value, GivenOver, PointerOf, Slot}
use Rattle.life_core.specs.Holdings.{Holding, Blank, AnObject, ANumber, APointer, AView, result_sort, sort_of}
use Rattle.life_core.specs.declared.program.Local.{Local}
use Rattle.life_store.specs.Content.{Content, without}
use Rattle.life_store.specs.Doing.{Setting, Effect, Next, Strays, Attempt, Got, Spot, born_object, cell, converted, found_at, location_cell, on_found, on_got, on_location, on_next, pointed, put_cell, put_content, saved, as_long, type_of, wrote_spot}
use Rattle.life_store.specs.Edits.{owned_at}
use Rattle.life_store.specs.Held.{owner_word, slot_words}
use Rattle.life_store.specs.Owners.{object_with}
use Rattle.life_store.specs.Parts.{Parts, Single, Unique, variable_type, location_parts}
use Rattle.life_store.specs.Places.{owner_spot_if}
use Rattle.life_store.specs.State.{Cell, Empty, Named, Number, Points, State}

-- ---- what is handed over

abbrev pub number_handed : Option Cell → Option Cell
number_handed (Some (Number z)) = Some (Number z)
number_handed _ = None

abbrev pub pointer_handed : Option Cell → Option Cell
pointer_handed (Some (Points p)) = Some (Points p)
pointer_handed _ = None

-- a temporary is handed over as it is, with its object
abbrev pub object_handed : Option Cell → Option Cell
object_handed (Some (Named n)) = Some (Named n)
object_handed _ = None

-- what a unique_ptr owns, or nothing
abbrev pub target_cell : Option ℕ → Cell
target_cell None = Empty
target_cell (Some n) = Named n

abbrev pub target_handed : Content → Attempt Spot → Option Cell
target_handed c (Got spot) = Some (target_cell (owned_at c spot))
target_handed c _ = None

-- of what a slot refers to, a pointer is handed over as its value, and a unique_ptr as what it owns
abbrev pub slot_handed : Types → Function → Parts → Location → State → Option Cell
slot_handed types f (Unique ty target) l st = target_handed st.world.content (owner_spot_if types f l (cell st l.local))
slot_handed types f _ l st = pointer_handed (location_cell types f l st)

abbrev pub handed : Types → Function → State → Argument → Option Cell
handed types f st (Value r) = number_handed (cell st r)
handed types f st (GivenOver x) = object_handed (cell st x)
handed types f st (PointerOf l) = pointer_handed (location_cell types f l st)
handed types f st (Slot l) = slot_handed types f (location_parts types f l) l st

-- the arguments from left to right, if each is there
abbrev pub with_handed : Option Cell → Option (List Cell) → Option (List Cell)
with_handed (Some v) (Some vs) = Some (v ∷ vs)
with_handed _ _ = None

abbrev pub all_handed : Types → Function → State → List Argument → Option (List Cell)
all_handed types f st [] = Some []
all_handed types f st (x ∷ xs) = with_handed (handed types f st x) (all_handed types f st xs)

-- .. and what the caller has while the call runs: no temporary that it gave over, and null in a unique_ptr that is a slot
abbrev pub spot_lent : Attempt Spot → State → State
spot_lent (Got spot) st = put_content (wrote_spot spot (owner_word None ∷ []) st.world.content) st
spot_lent _ st = st

abbrev pub slot_lent : Types → Function → Parts → Location → State → State
slot_lent types f (Unique ty target) l st = spot_lent (owner_spot_if types f l (cell st l.local)) st
slot_lent types f _ l st = st

abbrev pub lent : Types → Function → List Argument → State → State
lent types f [] st = st
lent types f (Value r ∷ xs) st = lent types f xs st
lent types f (GivenOver x ∷ xs) st = lent types f xs (put_cell x Empty st)
lent types f (PointerOf l ∷ xs) st = lent types f xs st
lent types f (Slot l ∷ xs) st = lent types f xs (slot_lent types f (location_parts types f l) l st)

-- ---- what is given

-- an object comes to life with a value
abbrev pub born_with : Setting → TyId → ℤ → ℕ → State → Effect
born_with s ty z x st =
    on_next (born_object s ty x st) (λ born. on_found (found_at born.world.content st.world.content.births 0) (λ n i o. Next (saved z n i 0 o born)))

abbrev pub number_given : Setting → Holding → TyId → ℤ → ℕ → State → Effect
number_given s AnObject ty z x st = born_with s ty z x st
number_given s ANumber ty z x st = Next (put_cell x (Number z) st)
number_given s _ ty z x st = Strays

-- a unique_ptr that is a slot is an object of its own, with what the other one had
abbrev pub slot_born : Setting → Types → TyId → Option ℕ → ℕ → State → Effect
slot_born s types ty owned x st =
    on_got (object_with s (variable_type types ty (slice_get types.types ty.0)) Single (λ c. Got (owner_word owned ∷ [], c)) st.world.content)
    (λ b. Next (put_cell x (Named b.0) (put_content b.1 st)))

-- a local is given a value or a pointer: an object comes to life with it. An object is given as it is
abbrev pub given_to : Setting → Types → Holding → TyId → Cell → ℕ → State → Effect
given_to s types sort ty Empty x st = cond (is_slot_at types ty) (slot_born s types ty None x st) Strays
given_to s types sort ty (Named n) x st = cond (is_slot_at types ty) (slot_born s types ty (Some n) x st) (Next (put_cell x (Named n) st))
given_to s types sort ty (Number z) x st = number_given s sort ty z x st
given_to s types sort ty (Points p) x st = Next (put_cell x (Points p) st)

abbrev pub given_if : Setting → Types → Function → Option Local → Cell → ℕ → State → Effect
given_if s types f None v x st = Strays
given_if s types f (Some l) v x st = given_to s types (sort_of types f x) l.ty v x st

abbrev pub given : Setting → Types → Function → Cell → ℕ → State → Effect
given s types f v x st = given_if s types f (slice_get f.locals x) v x st

-- the parameters from the one with this number on, from left to right
abbrev pub parameters_given : Setting → Types → Function → ℕ → List Cell → State → Effect
parameters_given s types f x [] st = Next st
parameters_given s types f x (v ∷ vs) st = on_next (given s types f v x st) (parameters_given s types f (x + 1) vs)

-- ---- what is given back

-- a number that wasn't written is 0
abbrev pub number_or_zero : Option Cell → Cell
number_or_zero (Some (Number z)) = Number z
number_or_zero _ = Number (pos 0)

abbrev pub pointer_back : Option Cell → List Cell
pointer_back (Some (Points p)) = Points p ∷ []
pointer_back _ = []

-- an object is given back as it is
abbrev pub cell_back : Option Cell → List Cell
cell_back (Some (Named n)) = Named n ∷ []
cell_back (Some (Points p)) = Points p ∷ []
cell_back _ = []

abbrev pub other_back : Option Ty → Option Cell → List Cell
other_back (Some variant.Void) v = []
other_back _ v = cell_back v

abbrev pub given_back : Option Ty → Holding → Option Cell → List Cell
given_back ty Blank v = other_back ty v
given_back ty AnObject v = []
given_back ty ANumber v = number_or_zero v ∷ []
given_back ty APointer v = pointer_back v
given_back ty AView v = pointer_back v

-- .. and behind the result what each slot has, in the order of the parameters
abbrev pub slot_cell : Option Cell → Cell
slot_cell None = Empty
slot_cell (Some v) = v

abbrev pub slot_back : Types → Option Local → Option Cell → List Cell
slot_back types None v = []
slot_back types (Some l) v = cond (is_slot_at types l.ty) (slot_cell v ∷ []) []

abbrev pub slots_back : Types → Function → (x count : ℕ) → State → List Cell
slots_back types f x zero st = []
slots_back types f x (suc n) st = slot_back types (slice_get f.locals x) (cell st x) ++ slots_back types f (x + 1) n st

abbrev pub results : Types → Function → State → List Cell
results types f st = given_back (slice_get types.types f.result.0) (result_sort types f) (cell st f.parameters) ++ slots_back types f 0 f.parameters st

-- ---- what comes back

abbrev pub is_slot_operand : Argument → ℕ
is_slot_operand (Slot l) = 1
is_slot_operand _ = 0

abbrev pub slot_count : List Argument → ℕ
slot_count [] = 0
slot_count (x ∷ xs) = is_slot_operand x + slot_count xs

-- the operand of a slot has its value back; the slot of a unique_ptr ends without what it owned
abbrev pub slot_returned : Types → Function → Location → Cell → State → Effect
slot_returned types f l Empty st = Strays
slot_returned types f l (Named m) st =
    on_location types f l st (λ spot. Next (put_content (without m (wrote_spot spot (take 1 (slot_words st.world.content m 0)) st.world.content)) st))
slot_returned types f l (Number z) st = Strays
slot_returned types f l (Points p) st = pointed types f l p st

abbrev pub slots_returned : Types → Function → List Argument → List Cell → State → Effect
slots_returned types f [] vs st = Next st
slots_returned types f (Value r ∷ xs) vs st = slots_returned types f xs vs st
slots_returned types f (GivenOver x ∷ xs) vs st = slots_returned types f xs vs st
slots_returned types f (PointerOf l ∷ xs) vs st = slots_returned types f xs vs st
slots_returned types f (Slot l ∷ xs) [] st = Strays
slots_returned types f (Slot l ∷ xs) (v ∷ vs) st = on_next (slot_returned types f l v st) (slots_returned types f xs vs)

-- a member that is a pointer is written, and a whole local is given the value
abbrev pub result_given : Setting → Types → Function → Location → List ℕ → Cell → State → Effect
result_given s types f l [] v st = given s types f v l.local st
result_given s types f l (m ∷ ms) (Points p) st = pointed types f l p st
result_given s types f l (m ∷ ms) _ st = Strays

-- the caller's target is given the result, if there is one
abbrev pub first_given : Setting → Types → Function → List Cell → Location → State → Effect
first_given s types f [] l st = Strays
first_given s types f (v ∷ vs) l st = result_given s types f l l.members v st

abbrev pub target_given : Setting → Types → Function → Option Location → List Cell → State → Effect
target_given s types f None values st = Next st
target_given s types f (Some l) values st = first_given s types f values l st

-- the slots' operands first, and the target last
abbrev pub taken_back : Setting → Types → Function → Option Location → List Argument → List Cell → State → Effect
taken_back s types f target xs values st =
    on_next (slots_returned types f xs (drop (length values - slot_count xs) values) st) (target_given s types f target values)

-- ---- the entry

-- the first input numbers are the entry's arguments, as the types of its parameters
abbrev pub entry_arguments : Types → Function → (x count : ℕ) → List ℤ → List Cell
entry_arguments types f x zero input = []
entry_arguments types f x (suc n) [] = []
entry_arguments types f x (suc n) (z ∷ zs) = Number (converted (type_of types f x) (as_long z)) ∷ entry_arguments types f (x + 1) n zs
