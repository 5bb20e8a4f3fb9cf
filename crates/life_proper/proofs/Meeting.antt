-- What is known is so.
use Rattle.std.proofs.Common.{◌≡◌, ℕ, zero, suc, Bool, true, false, List, [], ◌∷◌, Some, None, map, cond, slice_set, refl, ap}
use Rattle.std.proofs.lemmas.Bool.{and_parts, false≢true}
use Rattle.std.specs.Prelude.{IsTrue}
use Rattle.life_core.specs.declared.program.Local.{Local}
use Rattle.life_core.specs.Ready.{IsBit, Ready}
use Rattle.life_proper.specs.declared.known.Known.{Known}
use Rattle.life_proper.specs.declared.known.Known.TheVariants as known
use Rattle.life_proper.specs.Knowing.{State, agreed, agreed_all, are_implied, at_head, comes_back, forgotten, is_implied, is_forgotten, known_as, met, same}
use Rattle.life_proper.specs.ReadyKnown.{is_known}

-- ---- one local

abbrev pub Is : Known → Bool → Type 0
Is known.Unknown h = Unit {0}
Is known.Blank h = h ≡ false
Is known.Ready h = h ≡ true

pub itself : (h : Bool) → Is (known_as h) h
itself true = refl
itself false = refl

told : (a : Known) (h g : Bool) → same a (known_as g) ≡ true → Is a h → h ≡ g
told known.Blank h false e i = i
told known.Ready h true e i = i
told _ h _ e i = absurd (false≢true e)

if_known : (b : Bool) (a : Known) (h : Bool) → Is a h → Is (cond b a known.Unknown) h
if_known true a h i = i
if_known false a h i = tt

unless_known : (b : Bool) (a : Known) (h : Bool) → Is a h → Is (cond b known.Unknown a) h
unless_known true a h i = tt
unless_known false a h i = i

agreed_left : (a b : Known) (h : Bool) → Is a h → Is (agreed a b) h
agreed_left a b h i = if_known (same a b) a h i

agreed_right : (a b : Known) (h : Bool) → Is b h → Is (agreed a b) h
agreed_right known.Blank known.Blank h i = i
agreed_right known.Ready known.Ready h i = i
agreed_right _ _ h i = tt

from_implied : (a b : Known) (h : Bool) → is_implied a b ≡ true → Is b h → Is a h
from_implied known.Unknown b h e i = tt
from_implied known.Blank known.Blank h e i = i
from_implied known.Ready known.Ready h e i = i
from_implied _ _ h e i = absurd (false≢true e)

-- ---- all locals

abbrev pub Meets : List Known → Ready → Type 0
Meets [] bits = Unit {0}
Meets (a ∷ k) [] = ⊥
Meets (a ∷ k) (h ∷ bits) = Is a h × Meets k bits

unknown_known : (g : Bool) → same known.Unknown (known_as g) ≡ true → ⊥
unknown_known true e = false≢true e
unknown_known false e = false≢true e

-- what a local is known to be, it is
pub there : (k : List Known) (bits : Ready) (x : ℕ) (g : Bool) → Meets k bits → IsTrue (is_known (known_as g) k x) → IsBit bits x g
there [] bits x g m e = absurd (unknown_known g e)
there (a ∷ k) [] x g m e = absurd m
there (a ∷ k) (h ∷ bits) zero g m e = ap Some (told a h g e m.0)
there (a ∷ k) (h ∷ bits) (suc x) g m e = there k bits x g m.1 e

pub meets_set : (k : List Known) (bits : Ready) (x : ℕ) (a : Known) (h : Bool) → Is a h → Meets k bits → Meets (slice_set k x a) (slice_set bits x h)
meets_set [] bits x a h i m = tt
meets_set (b ∷ k) [] x a h i m = absurd m
meets_set (b ∷ k) (g ∷ bits) zero a h i m = (i, m.1)
meets_set (b ∷ k) (g ∷ bits) (suc x) a h i m = (m.0, meets_set k bits x a h i m.1)

pub meets_all : (bits : Ready) → Meets (map known_as bits) bits
meets_all [] = tt
meets_all (h ∷ bits) = (itself h, meets_all bits)

all_left : (k j : List Known) (bits : Ready) → Meets k bits → Meets (agreed_all k j) bits
all_left [] j bits m = tt
all_left (a ∷ k) [] bits m = tt
all_left (a ∷ k) (b ∷ j) [] m = absurd m
all_left (a ∷ k) (b ∷ j) (h ∷ bits) m = (agreed_left a b h m.0, all_left k j bits m.1)

all_right : (k j : List Known) (bits : Ready) → Meets j bits → Meets (agreed_all k j) bits
all_right [] j bits m = tt
all_right (a ∷ k) [] bits m = tt
all_right (a ∷ k) (b ∷ j) [] m = absurd m
all_right (a ∷ k) (b ∷ j) (h ∷ bits) m = (agreed_right a b h m.0, all_right k j bits m.1)

all_implied : (k j : List Known) (bits : Ready) → are_implied k j ≡ true → Meets j bits → Meets k bits
all_implied [] j bits e m = tt
all_implied (a ∷ k) [] bits e m = absurd (false≢true e)
all_implied (a ∷ k) (b ∷ j) [] e m = absurd m
all_implied (a ∷ k) (b ∷ j) (h ∷ bits) e m =
    let parts = and_parts (is_implied a b) (are_implied k j) e in
    (from_implied a b h parts.0 m.0, all_implied k j bits parts.1 m.1)

meets_forgotten : (ls : List Local) (k : List Known) (bits : Ready) → Meets k bits → Meets (forgotten ls k) bits
meets_forgotten [] k bits m = m
meets_forgotten (l ∷ ls) [] bits m = m
meets_forgotten (l ∷ ls) (a ∷ k) [] m = absurd m
meets_forgotten (l ∷ ls) (a ∷ k) (h ∷ bits) m = (unless_known (is_forgotten l a) a h m.0, meets_forgotten ls k bits m.1)

-- ---- where some way comes

abbrev pub IsMet : State → Ready → Type 0
IsMet None bits = ⊥
IsMet (Some k) bits = Meets k bits

pub met_left : (s t : State) (bits : Ready) → IsMet s bits → IsMet (met s t) bits
met_left None t bits m = absurd m
met_left (Some k) None bits m = m
met_left (Some k) (Some j) bits m = all_left k j bits m

pub met_right : (s t : State) (bits : Ready) → IsMet t bits → IsMet (met s t) bits
met_right None t bits m = m
met_right (Some k) None bits m = absurd m
met_right (Some k) (Some j) bits m = all_right k j bits m

-- a way back to the head of a loop
pub met_head : (head back : State) (bits : Ready) → comes_back head back ≡ true → IsMet back bits → IsMet head bits
met_head head None bits e m = absurd m
met_head None (Some j) bits e m = absurd (false≢true e)
met_head (Some k) (Some j) bits e m = all_implied k j bits e m

-- .. and the way to it
pub met_forgotten : (ls : List Local) (s : State) (bits : Ready) → IsMet s bits → IsMet (at_head ls s) bits
met_forgotten ls None bits m = absurd m
met_forgotten ls (Some k) bits m = meets_forgotten ls k bits m
