-- Calls: what comes of facts on their arguments alone.
use Rattle.std.proofs.Common.{◌≡◌, ℕ, zero, suc, Bool, true, false, true≢false, List, [], ◌∷◌, ◌++◌, Option, Some, None, refl, sym, ap, ◌∙◌, if◌then◌else◌}
use Rattle.std.specs.Prelude.{◌&&◌, ◌||◌, nat_lt, slice_get}
use Rattle.std.proofs.lemmas.Bool.{eq-eqb}
use Rattle.life_types.specs.Types.{Types}
use Rattle.life_types.specs.declared.place.Place.{Place}
use Rattle.life_core.specs.Function.{Function}
use Rattle.life_core.specs.Operands.{Argument, Value, GivenOver, PointerOf, Slot}
use Rattle.life_pset.proofs.Numbers.{exact_place}
use Rattle.life_pset.specs.Elements.{Input, local_place}
use Rattle.life_pset.specs.Places.{longer, member_place, members_place, owned_step, path, stepped, too_long}
use Rattle.life_pset.specs.contracts.element.AbsPlacePartialEq.TheImpl.{ghosts as compared}
use Rattle.life_pset.specs.declared.element.AbsPlace.{AbsPlace}
use Rattle.life_pset.specs.declared.element.Fact.{Fact}
use Rattle.life_contract.specs.Arguments.{is_argument_of, is_given, is_in_argument, is_in_arguments, is_mutating_argument}
use Rattle.life_contract.specs.Breaking.{of_pairs}
use Rattle.life_contract.specs.Inputs.{inputs_of_signature, is_mutating, parameter_number}
use Rattle.life_contract.specs.Located.{is_root, is_rooted}
use Rattle.life_contract.specs.Signatures.{Signature}
use Rattle.life_rules.proofs.Nothing.{and_first, and_second, any_none, cond_none, flat_map_empty, pairs_empty}
use Rattle.life_rules.specs.Arguing.{broken_by_two, moved_at, overlapping_at}
use Rattle.life_rules.specs.declared.diag.Diag.{Diag}

-- ---- members have the root of what they are members of

if_same : {A B : Type 0} (g : A → B) (b : Bool) (x y : A) (z : B) → g x ≡ z → g y ≡ z → g (if b then x else y) ≡ z
if_same g true x y z h k = h
if_same g false x y z h k = k

stepped_root : (a : AbsPlace) (step : ℕ) → (stepped a step).root ≡ a.root
stepped_root a step = if_same (λ (p : AbsPlace). p.root) (nat_lt a.length 8) (longer a step) (too_long a) a.root refl refl

member_root : (a : AbsPlace) (m : ℕ) → (member_place a m).root ≡ a.root
member_root a m = if_same (λ (p : AbsPlace). p.root) (nat_lt m owned_step) (stepped a m) (too_long a) a.root (stepped_root a m) refl

pub members_root : (a : AbsPlace) (ms : List ℕ) → (members_place a ms).root ≡ a.root
members_root a [] = refl
members_root a (m ∷ ms) = members_root (member_place a m) ms ∙ member_root a m

-- ---- an argument's location lies in the argument

pub or_first : (a b : Bool) → (a || b) ≡ false → a ≡ false
or_first true b h = h
or_first false b h = refl

pub or_second : (a b : Bool) → (a || b) ≡ false → b ≡ false
or_second true b h = absurd (true≢false h)
or_second false b h = h

member_given : (x : ℕ) (l : AbsPlace) (ms : List ℕ) → is_rooted x l ≡ false → (b : Bool) → compared.eq l (members_place (local_place x) ms) ≡ b → b ≡ false
member_given x l ms h false e = refl
member_given x l ms h true e =
    let same : l ≡ members_place (local_place x) ms = exact_place l (members_place (local_place x) ms) e in
    let root : l.root ≡ (local_place x).root = ap (λ (p : AbsPlace). p.root) same ∙ members_root (local_place x) ms in
    absurd (true≢false (sym (ap (is_root x) root ∙ eq-eqb x x refl) ∙ h))

given_in : (x : Argument) (i : Input) (l : AbsPlace) → is_in_argument x l ≡ false → is_given (Some x) i l ≡ false
given_in (Value r) i l h = refl
given_in (GivenOver x) i l h = member_given x l (path i.pointer) h _ refl
given_in (PointerOf p) i l h = h
given_in (Slot p) i l h = h

given_among : (xs : List Argument) (n : ℕ) (i : Input) (l : AbsPlace) → is_in_arguments xs l ≡ false → is_given (slice_get xs n) i l ≡ false
given_among [] zero i l h = refl
given_among [] (suc n) i l h = refl
given_among (x ∷ xs) zero i l h = given_in x i l (or_first (is_in_argument x l) (is_in_arguments xs l) h)
given_among (x ∷ xs) (suc n) i l h = given_among xs n i l (or_second (is_in_argument x l) (is_in_arguments xs l) h)

-- where a location lies in no argument, it is given for no input
pub no_argument : (xs : List Argument) (i : Input) (l : AbsPlace) → is_in_arguments xs l ≡ false → is_argument_of xs i l ≡ false
no_argument xs i l h = given_among xs (parameter_number i) i l h

-- ---- so nothing comes of it

pub no_mutating : (types : Types) (sig : Signature) (xs : List Argument) (l : AbsPlace) → is_in_arguments xs l ≡ false → is_mutating_argument types sig xs l ≡ false
no_mutating types sig xs l h =
    any_none (λ i. is_mutating types sig i && is_argument_of xs i l) (inputs_of_signature types sig) (λ i. and_second (is_mutating types sig i) (is_argument_of xs i l) (no_argument xs i l h))

pub broken_by_two_none : (types : Types) (function : ℕ) (f : Function) (place : Place) (g : ℕ) (sig : Option Signature) (xs : List Argument) (a b : Fact)
    → is_in_arguments xs a.location ≡ false → broken_by_two types function f place g sig xs a b ≡ []
broken_by_two_none types function f place g None xs a b h = refl
broken_by_two_none types function f place g (Some sig) xs a b h =
    ap (λ (ds : List Diag). ds ++ of_pairs (overlapping_at types function place g sig xs a b) (inputs_of_signature types sig))
    (flat_map_empty (moved_at types function f place g xs a b) (inputs_of_signature types sig) (λ i. cond_none (is_argument_of xs i a.location) _ (no_argument xs i a.location h)))
    ∙ pairs_empty (overlapping_at types function place g sig xs a b) (inputs_of_signature types sig) (λ i j. cond_none _ _ (and_first (is_argument_of xs i a.location && is_argument_of xs j b.location) _ (and_first (is_argument_of xs i a.location) _ (no_argument xs i a.location h))))
