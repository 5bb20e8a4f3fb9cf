-- A point that is ready by what is known is ready, and what is known behind it is so.
use Rattle.std.proofs.Common.{ℕ, Bool, true, false, ◌++◌, List, [], ◌∷◌, Some, None, slice_set}
use Rattle.std.proofs.lemmas.Bool.{and_parts}
use Rattle.std.specs.Prelude.{IsTrue}
use Rattle.life_types.specs.Types.{Types}
use Rattle.life_core.specs.Function.{Function}
use Rattle.life_core.specs.Proper.{AreReady, IsNodeReady, bits_after}
use Rattle.life_core.specs.Ready.{AreBits, CanLeave, Ready, set_bits}
use Rattle.life_core.specs.Step.{Step}
use Rattle.life_core.specs.Touched.{Touched, touched, touched_by}
use Rattle.life_core.specs.Tree.{Node}
use Rattle.life_proper.specs.declared.known.Known.{Known}
use Rattle.life_proper.specs.declared.known.Known.TheVariants as known
use Rattle.life_proper.specs.Checking.{is_ready_at, state_after}
use Rattle.life_proper.specs.Knowing.{State, known_as}
use Rattle.life_proper.specs.ReadyKnown.{are_known, are_ready, can_leave, is_known, known_after, set_known}
use Rattle.life_proper.proofs.Meeting.{IsMet, Meets, itself, meets_set, there}

-- ---- what is known of lists is so

all_there : (k : List Known) (bits : Ready) (g : Bool) (xs : List ℕ) → Meets k bits → IsTrue (are_known (known_as g) k xs) → AreBits g bits xs
all_there k bits g [] m e = tt
all_there k bits g (x ∷ xs) m e =
    let both = and_parts (is_known (known_as g) k x) (are_known (known_as g) k xs) e in
    (there k bits x g m both.0, all_there k bits g xs m both.1)

leave_one : (k : List Known) (bits : Ready) (x : ℕ) → Meets k bits → Meets (slice_set k x known.Blank) (slice_set bits x false)
leave_one k bits x m = meets_set k bits x known.Blank false (itself false) m

all_leave : (k : List Known) (bits : Ready) (xs : List ℕ) → Meets k bits → IsTrue (can_leave k xs) → CanLeave bits xs
all_leave k bits [] m e = tt
all_leave k bits (x ∷ xs) m e =
    let both = and_parts (is_known known.Ready k x) (can_leave (slice_set k x known.Blank) xs) e in
    (there k bits x true m both.0, all_leave (slice_set k x known.Blank) (slice_set bits x false) xs (leave_one k bits x m) both.1)

touched_ready : (k : List Known) (bits : Ready) (t : Touched) → Meets k bits → IsTrue (are_ready k t) → AreReady bits t
touched_ready k bits t m e =
    let outer = and_parts (are_known known.Ready k t.uses) _ e in
    let inner = and_parts (can_leave k t.leaves) (are_known known.Blank k t.births) outer.1 in
    record { uses = all_there k bits true t.uses m outer.0; leaves = all_leave k bits t.leaves m inner.0; births = all_there k bits false t.births m inner.1 }

pub ready_at : (types : Types) (f : Function) (s : State) (bits : Ready) (n : Node) → IsMet s bits → IsTrue (is_ready_at types f s n) → IsNodeReady types f bits n
ready_at types f None bits n m e = absurd m
ready_at types f (Some k) bits n m e = touched_ready k bits (touched types f n) m e

-- ---- behind a point

all_set : (k : List Known) (bits : Ready) (g : Bool) (xs : List ℕ) → Meets k bits → Meets (set_known (known_as g) xs k) (set_bits g xs bits)
all_set k bits g [] m = m
all_set k bits g (x ∷ xs) m = all_set (slice_set k x (known_as g)) (slice_set bits x g) g xs (meets_set k bits x (known_as g) g (itself g) m)

touched_behind : (k : List Known) (bits : Ready) (t : Touched) → Meets k bits → Meets (known_after t k) (bits_after t bits)
touched_behind k bits t m = all_set _ _ true (t.births ++ t.writes) (all_set k bits false t.leaves m)

pub met_after : (f : Function) (s : State) (bits : Ready) (i : Step) → IsMet s bits → IsMet (state_after f i s) (bits_after (touched_by f i) bits)
met_after f None bits i m = absurd m
met_after f (Some k) bits i m = touched_behind k bits (touched_by f i) m
