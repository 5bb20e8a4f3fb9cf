-- A location is known by its place, where that isn't too long.
use Rattle.std.proofs.Common.{◌≡◌, ℕ, ◌+◌, ◌≤◌, ◌<◌, Bool, true, false, List, [], ◌∷◌, ◌++◌, length, refl, sym, ap, subst, ◌∙◌, arith}
use Rattle.std.specs.Prelude.{if◌then◌else◌, nat_lt}
use Rattle.std.proofs.lemmas.Bool.Decides.{nat_tests}
use Rattle.std.proofs.lemmas.List.{length-set}
use Rattle.life_core.specs.Operands.{Location}
use Rattle.life_contract.specs.Located.{located}
use Rattle.life_pset.specs.Elements.{local_place}
use Rattle.life_pset.specs.Places.{longer, member_place, members_place, owned_step, path, stepped, too_long}
use Rattle.life_pset.specs.declared.element.AbsPlace.{AbsPlace}
use Rattle.life_pset.specs.declared.element.Root.TheVariants as root
use Rattle.life_cover.proofs.Stepping.{AllSmall, HasRoom, stepped_is, stepped_path, stepped_room}
use Rattle.life_cover.proofs.Unkept.{members_root}

lt_of : (a b : ℕ) → nat_lt a b ≡ true → a < b
lt_of a b h = grind (arith, nat_tests)

lt_true : (a b : ℕ) → a < b → nat_lt a b ≡ true
lt_true a b h = grind (arith, nat_tests)

lt_false : (a b : ℕ) → b ≤ a → nat_lt a b ≡ false
lt_false a b h = grind (arith, nat_tests)

append_assoc : (xs ys zs : List ℕ) → (xs ++ ys) ++ zs ≡ xs ++ (ys ++ zs)
append_assoc [] ys zs = refl
append_assoc (x ∷ xs) ys zs = ap (λ (ws : List ℕ). x ∷ ws) (append_assoc xs ys zs)

append_none : (xs : List ℕ) → xs ++ [] ≡ xs
append_none [] = refl
append_none (x ∷ xs) = ap (λ (ws : List ℕ). x ∷ ws) (append_none xs)

-- ---- what is too long stays so

member_long : (a : AbsPlace) (m : ℕ) → 9 ≤ a.length → 9 ≤ (member_place a m).length
member_long a m long = go (nat_lt m owned_step)
  where
    go : (b : Bool) → 9 ≤ (if b then stepped a m else too_long a).length
    go false = omega arith
    go true = let e = ap (λ b. (if b then longer a m else too_long a).length) (lt_false a.length 8 (omega (arith, long))) in omega (arith, e)

long_stays : (ms : List ℕ) (a : AbsPlace) → 9 ≤ a.length → 9 ≤ (members_place a ms).length
long_stays [] a long = long
long_stays (m ∷ ms) a long = long_stays ms (member_place a m) (member_long a m long)

-- ---- and else the members are its last steps

pub exact_path : (ms : List ℕ) (a : AbsPlace) → length a.steps ≡ 8 → (members_place a ms).length ≤ 8 → path (members_place a ms) ≡ path a ++ ms
exact_path [] a eight short = sym (append_none (path a))
exact_path (m ∷ ms) a eight short = by_number (λ b e le. exact_path ms b e le) (nat_lt m owned_step) refl
  where
    too_far : 9 ≤ (member_place a m).length → path (members_place (member_place a m) ms) ≡ path a ++ (m ∷ ms)
    too_far long = let far = long_stays ms (member_place a m) long in absurd (omega (arith, far, short))

    by_length : ((b : AbsPlace) → length b.steps ≡ 8 → (members_place b ms).length ≤ 8 → path (members_place b ms) ≡ path b ++ ms) → nat_lt m owned_step ≡ true → (b : Bool) → nat_lt a.length 8 ≡ b → path (members_place (member_place a m) ms) ≡ path a ++ (m ∷ ms)
    by_length again small false e =
        let here = ap (λ b. (if b then stepped a m else too_long a).length) small in
        let there = ap (λ b. (if b then longer a m else too_long a).length) e in
        too_far (omega (arith, here, there))
    by_length again small true e =
        let lt = lt_of a.length 8 e in
        let room : HasRoom 1 a = record { steps = eight; fits = omega (arith, lt) } in
        let is : member_place a m ≡ stepped a m = ap (λ b. if b then stepped a m else too_long a) small in
        ap (λ (b : AbsPlace). path (members_place b ms)) is
        ∙ again (stepped a m) (ap (λ (b : AbsPlace). length b.steps) (stepped_is 0 a m room) ∙ length-set a.steps a.length m ∙ eight) (subst (λ (b : AbsPlace). (members_place b ms).length ≤ 8) is short)
        ∙ ap (λ (xs : List ℕ). xs ++ ms) (stepped_path 0 a m room)
        ∙ append_assoc (path a) (m ∷ []) ms

    by_number : ((b : AbsPlace) → length b.steps ≡ 8 → (members_place b ms).length ≤ 8 → path (members_place b ms) ≡ path b ++ ms) → (b : Bool) → nat_lt m owned_step ≡ b → path (members_place (member_place a m) ms) ≡ path a ++ (m ∷ ms)
    by_number again false e = let here = ap (λ b. (if b then stepped a m else too_long a).length) e in too_far (omega (arith, here))
    by_number again true e = by_length again e (nat_lt a.length 8) refl

-- where there is room for them, it isn't too long
pub room_length : (ms : List ℕ) (a : AbsPlace) → HasRoom (length ms) a → AllSmall ms → (members_place a ms).length ≡ a.length + length ms
room_length [] a room small = omega arith
room_length (m ∷ ms) a room small =
    let is : member_place a m ≡ stepped a m = ap (λ b. if b then stepped a m else too_long a) (lt_true m owned_step small.0) in
    let one = ap (λ (b : AbsPlace). b.length) (stepped_is (length ms) a m room) in
    let rest = ap (λ (b : AbsPlace). (members_place b ms).length) is ∙ room_length ms (stepped a m) (stepped_room (length ms) a m room) small.1 in
    omega (arith, one, rest)

-- so two at one place are one
pub one_local : (l p : Location) → located l ≡ located p → l.local ≡ p.local
one_local l p e = one (sym (members_root l.members (local_place l.local)) ∙ ap (λ (a : AbsPlace). a.root) e ∙ members_root p.members (local_place p.local))
  where
    one : root.Local l.local ≡ root.Local p.local → l.local ≡ p.local
    one h = cc

pub exact_location : (l p : Location) → (located l).length ≤ 8 → located l ≡ located p → p ≡ l
exact_location l p short e =
    ap (λ x. record { local = x; members = p.members }) (sym (one_local l p e)) ∙ ap (λ (ms : List ℕ). record { local = l.local; members = ms }) (sym members)
  where
    members : l.members ≡ p.members
    members =
        sym (exact_path l.members (local_place l.local) refl short) ∙ ap path e
        ∙ exact_path p.members (local_place p.local) refl (subst (λ (a : AbsPlace). a.length ≤ 8) e short)
