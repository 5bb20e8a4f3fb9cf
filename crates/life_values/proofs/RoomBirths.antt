-- How many numbers are given where a vector gets room for one more element, and how far the clock goes.
use Rattle.std.proofs.Common.{ℕ, ◌+◌, ◌*◌, ◌≤◌, cond, List, [], ◌∷◌, length, Option, Some, None, sym, ap, subst, arith, length-append, suc-mul}
use Rattle.std.specs.Prelude.{drop, nat_lt, slice_index, take}
use Rattle.life_types.specs.declared.ty.TyId.{TyId}
use Rattle.life_store.specs.Cells.{at}
use Rattle.life_store.specs.Content.{Slot, Object, Content, with_birth}
use Rattle.life_store.specs.Edits.{capacity_of, grown, regrown, with_room}
use Rattle.life_store.specs.Effects.{Setting, Attempt, Got}
use Rattle.life_store.specs.Held.{filled_if, owned_in, resized_at, resized_if, slots_if}
use Rattle.life_store.specs.Owners.{renamed, renamed_if, taken, taken_slots}
use Rattle.life_store.specs.Parts.{Parts, Single, Raw, Iterates, Views, Text, Vector, Unique, Member, NoMember, width}
use Rattle.life_store.specs.Places.{Spot as Place}
use Rattle.life_forest.specs.Forest.{IsForest}
use Rattle.life_forest.specs.Kinds.{Kinds}
use Rattle.life_forest.proofs.Coming.{IfGot}
use Rattle.life_forest.proofs.Growing.{OwnsBuffer}
use Rattle.life_forest.proofs.Regrowing.{if_cond, left, regrown_got}
use Rattle.life_values.specs.Layouts.{flat}

-- at most so many births more, and so many moments
pub record GoesUp (numbers moments : ℕ) (c d : Content) : Type 0 where
  pub births : d.births ≤ c.births + numbers
  pub clock : d.clock ≤ c.clock + moments

up_then : (a b x y : ℕ) (c d e : Content) → GoesUp a x c d → GoesUp b y d e → GoesUp (a + b) (x + y) c e
up_then a b x y c d e p q = record {
  births = let m = p.births in let n = q.births in omega (arith, m, n);
  clock = let m = p.clock in let n = q.clock in omega (arith, m, n);
}

none_up : (n : ℕ) (c : Content) → GoesUp n 0 c c
none_up n c = record { births = omega arith; clock = omega arith }

renamed_up : (x : Option Object) (n : ℕ) (c : Content) → GoesUp 1 0 c (renamed_if x n c).1
renamed_up None n c = none_up 1 c
renamed_up (Some o) n c = record { births = omega arith; clock = omega arith }

text_up : (x : Option ℕ) (c : Content) → GoesUp 1 0 c (renamed x c).1
text_up None c = none_up 1 c
text_up (Some n) c = renamed_up (at c.objects n) n c

-- each string of a value gets one number
taken_up : (p : Parts) (u : ℕ) (ws : List ℕ) (c : Content) → GoesUp (length (flat u p)) 0 c (taken p ws c).1
taken_up Single u ws c = none_up 0 c
taken_up Raw u ws c = none_up 1 c
taken_up Iterates u ws c = none_up 0 c
taken_up Views u ws c = none_up 1 c
taken_up (Text ty) u ws c = text_up (owned_in (slice_index ws 0)) c
taken_up (Vector ty element) u ws c = none_up 1 c
taken_up (Unique ty target) u ws c = none_up 1 c
taken_up (Member first others) u ws c =
    let a = taken_up first u (take (width first) ws) c in
    let b = taken_up others (u + width first) (drop (width first) ws) (taken first (take (width first) ws) c).1 in
    let n = length-append (flat u first) (flat (u + width first) others) in
    subst (λ k. GoesUp k 0 c (taken (Member first others) ws c).1) (sym n) (up_then _ _ 0 0 _ _ _ a b)
taken_up NoMember u ws c = none_up 0 c

slots_up : (p : Parts) (ss : List Slot) (c : Content) → GoesUp (length ss * length (flat 0 p)) 0 c (taken_slots p ss c).1
slots_up p [] c = record { births = omega arith; clock = omega arith }
slots_up p (s ∷ ss) c =
    let a = taken_up p 0 s.words c in
    let b = slots_up p ss (taken p s.words c).1 in
    let n = suc-mul (length ss) (length (flat 0 p)) in
    record { births = let x = a.births in let y = b.births in omega (arith, n, x, y); clock = let x = a.clock in let y = b.clock in omega (arith, x, y) }

filled_up : (x : Option Object) (n : ℕ) (vs : List (List ℕ)) (c : Content) → GoesUp 0 0 c (filled_if x n vs c)
filled_up None n vs c = none_up 0 c
filled_up (Some o) n vs c = record { births = omega arith; clock = omega arith }

resized_up : (x : Option Object) (n size since : ℕ) (c : Content) → GoesUp 0 1 c (resized_if x n size since c)
resized_up None n size since c = record { births = omega arith; clock = omega arith }
resized_up (Some o) n size since c = record { births = omega arith; clock = omega arith }

module _ (kind : Kinds) (ty : TyId) (element : Parts) (spot : Place) (b : ℕ) (hand : ℕ → ℕ) (c : Content) (o ob : Object) (forest : IsForest kind hand c) (own : OwnsBuffer kind ty element spot b c o ob) where
  abbrev most : ℕ
  most = 1 + length ob.slots * length (flat 0 element)

  abbrev AreFew : ℕ × Content → Type 0
  AreFew f = GoesUp most 1 c f.1

  in_place : AreFew (b, resized_at b (length ob.slots + 1) (length ob.slots) c)
  in_place = let r = resized_up (at c.objects b) b (length ob.slots + 1) (length ob.slots) c in record { births = let x = r.births in omega (arith, x); clock = r.clock }

  module _ (capacity : ℕ) where
    abbrev born : Content
    born = with_birth ty (width element) capacity c

    abbrev sized : Content
    sized = resized_at c.births (length ob.slots + 1) 0 born

    abbrev moved : List (List ℕ) × Content
    moved = taken_slots element ob.slots sized

    gone_over : AreFew (left kind ty element spot b hand c o ob forest own capacity (length ob.slots + 1))
    gone_over =
        let r = resized_up (at born.objects c.births) c.births (length ob.slots + 1) 0 born in
        let t = slots_up element ob.slots sized in
        let f = filled_up (at moved.1.objects c.births) c.births moved.0 moved.1 in
        record {
          births = let x = r.births in let y = t.births in let z = f.births in omega (arith, x, y, z);
          clock = let x = r.clock in let y = t.clock in let z = f.clock in omega (arith, x, y, z);
        }

  abbrev cond_room : Setting → ℕ → Attempt (ℕ × Content)
  cond_room s n = cond (nat_lt n (capacity_of c b)) (Got (b, resized_at b (n + 1) n c)) (regrown s ty element b (grown s.given.growth n (capacity_of c b)) (n + 1) c)

  pub room_up : (s : Setting) → IfGot (with_room s ty element b c) (λ f. GoesUp (1 + length ob.slots * length (flat 0 element)) 1 c f.1)
  room_up s =
      subst (λ n. IfGot (cond_room s n) AreFew) (sym (ap (λ (x : Option Object). length (slots_if x)) own.there))
      (if_cond (nat_lt (length ob.slots) (capacity_of c b)) (Got (b, resized_at b (length ob.slots + 1) (length ob.slots) c))
      (regrown s ty element b (grown s.given.growth (length ob.slots) (capacity_of c b)) (length ob.slots + 1) c) AreFew
      in_place
      (regrown_got kind ty element spot b hand c o ob forest own (grown s.given.growth (length ob.slots) (capacity_of c b)) (length ob.slots + 1) s AreFew (gone_over (grown s.given.growth (length ob.slots) (capacity_of c b)))))
