-- What an owner gives, in the store of a run: its word is taken, and it has nothing then.
use Rattle.std.proofs.Common.{◌≡◌, ℕ, zero, suc, ◌+◌, ◌≤◌, ◌<◌, true, false, List, [], ◌∷◌, length, take, drop, Option, Some, None, refl, sym, ap, ◌∙◌, arith}
use Rattle.std.specs.Prelude.{slice_get, slice_index}
use Rattle.life_types.specs.Trees.{IsOrdered}
use Rattle.life_types.specs.Types.{Types}
use Rattle.life_store.specs.Cells.{Cells, at, at-set_same}
use Rattle.life_store.specs.Content.{Object, Content, with_object, with_word, word_at}
use Rattle.life_store.specs.Doing.{giving, moved_to}
use Rattle.life_store.specs.Effects.{Got, GotFault, then_get}
use Rattle.life_store.specs.Held.{owned_in, owner_word, slots_if, slot_words, with_words, words_at, words_if, wrote, wrote_if}
use Rattle.life_store.specs.Kinds.{Owner, kind_in}
use Rattle.life_store.specs.Owners.{Words, taken}
use Rattle.life_store.specs.Parts.{Parts, Single, Raw, Iterates, Views, Text, Vector, Unique, Member, NoMember, parts_at, width}
use Rattle.life_store.specs.Places.{Spot as Place}
use Rattle.life_store.specs.declared.run.FaultKind.TheVariants as fault
use Rattle.life_store.proofs.MapLemmas.{one_or_apart, set-set}
use Rattle.life_forest.specs.Owned.{times}
use Rattle.life_forest.specs.Typed.{IsStore}
use Rattle.life_forest.specs.Values.{listed, owned_of}
use Rattle.life_forest.specs.Within.{LiesWithin}
use Rattle.life_forest.proofs.Above.{remains_moved, Remains}
use Rattle.life_forest.proofs.Beside.{taken_stays}
use Rattle.life_forest.proofs.Members.{within_self}
use Rattle.life_forest.proofs.Owners.{moved_out, ws_wide}
use Rattle.life_forest.proofs.Puts.{IsWord}
use Rattle.life_forest.proofs.Spots.{spot_flat}
use Rattle.life_forest.proofs.Stores.{flat_lower}
use Rattle.life_values.specs.Layouts.{flat, owner_words}
use Rattle.life_moves.specs.MovedTo.{given_to, may_give, IsOwning}
use Rattle.life_values.specs.Taken.{leaves_taken}
use Rattle.life_values.proofs.CopiedRowed.{word_here}
use Rattle.life_values.proofs.Kept.{words_like}
use Rattle.life_values.proofs.Owners.{wide_word}
use Rattle.life_values.proofs.PoppedMeant.{wide_slot}
use Rattle.life_values.proofs.ReadWords.{in_slot, with_twice}
use Rattle.life_values.proofs.TakenMeant.{taken_meant}
use Rattle.life_values.proofs.Zeroing.{IsLike}

-- ---- a string, a vector and a unique_ptr are one word, which owns

pub one_owner : (p : Parts) → IsOwning p → owner_words (flat 0 p) ≡ 0 ∷ []
one_owner (Text ty) h = refl
one_owner (Vector ty element) h = refl
one_owner (Unique ty target) h = refl
one_owner Single h = absurd h
one_owner Raw h = absurd h
one_owner Iterates h = absurd h
one_owner Views h = absurd h
one_owner (Member first others) h = absurd h
one_owner NoMember h = absurd h

pub one_wide : (p : Parts) → IsOwning p → width p ≡ 1
one_wide (Text ty) h = refl
one_wide (Vector ty element) h = refl
one_wide (Unique ty target) h = refl
one_wide Single h = absurd h
one_wide Raw h = absurd h
one_wide Iterates h = absurd h
one_wide Views h = absurd h
one_wide (Member first others) h = absurd h
one_wide NoMember h = absurd h

pub one_leaf : (p : Parts) → IsOwning p → length (flat 0 p) ≡ 1
one_leaf (Text ty) h = refl
one_leaf (Vector ty element) h = refl
one_leaf (Unique ty target) h = refl
one_leaf Single h = absurd h
one_leaf Raw h = absurd h
one_leaf Iterates h = absurd h
one_leaf Views h = absurd h
one_leaf (Member first others) h = absurd h
one_leaf NoMember h = absurd h

pub first_owns : (p : Parts) → IsOwning p → kind_in p 0 ≡ Owner
first_owns (Text ty) h = refl
first_owns (Vector ty element) h = refl
first_owns (Unique ty target) h = refl
first_owns Single h = absurd h
first_owns Raw h = absurd h
first_owns Iterates h = absurd h
first_owns Views h = absurd h
first_owns (Member first others) h = absurd h
first_owns NoMember h = absurd h

pub owns_first : (p : Parts) → IsOwning p → (x : ℕ) → owned_of p (x ∷ []) ≡ listed (owned_in x)
owns_first (Text ty) h x = refl
owns_first (Vector ty element) h x = refl
owns_first (Unique ty target) h x = refl
owns_first Single h x = absurd h
owns_first Raw h x = absurd h
owns_first Iterates h x = absurd h
owns_first Views h x = absurd h
owns_first (Member first others) h x = absurd h
owns_first NoMember h x = absurd h

-- it gives what it owns, which a unique_ptr alone may not
pub may_give_is : (p : Parts) → IsOwning p → (x : Option ℕ) → may_give (flat 0 p) x ≡ true → giving p x ≡ Got x
may_give_is (Text ty) h None e = absurd (clash e)
  where
    clash : false ≡ true → ⊥
    clash k = cc
may_give_is (Text ty) h (Some n) e = refl
may_give_is (Vector ty element) h None e = absurd (clash e)
  where
    clash : false ≡ true → ⊥
    clash k = cc
may_give_is (Vector ty element) h (Some n) e = refl
may_give_is (Unique ty target) h x e = refl
may_give_is Single h x e = absurd h
may_give_is Raw h x e = absurd h
may_give_is Iterates h x e = absurd h
may_give_is Views h x e = absurd h
may_give_is (Member first others) h x e = absurd h
may_give_is NoMember h x e = absurd h

pub may_not_give : (p : Parts) → IsOwning p → (x : Option ℕ) → may_give (flat 0 p) x ≡ false → giving p x ≡ GotFault fault.Moved
may_not_give (Text ty) h None e = refl
may_not_give (Text ty) h (Some n) e = absurd (clash e)
  where
    clash : true ≡ false → ⊥
    clash k = cc
may_not_give (Vector ty element) h None e = refl
may_not_give (Vector ty element) h (Some n) e = absurd (clash e)
  where
    clash : true ≡ false → ⊥
    clash k = cc
may_not_give (Unique ty target) h None e = absurd (clash e)
  where
    clash : true ≡ false → ⊥
    clash k = cc
may_not_give (Unique ty target) h (Some n) e = absurd (clash e)
  where
    clash : true ≡ false → ⊥
    clash k = cc
may_not_give Single h x e = absurd h
may_not_give Raw h x e = absurd h
may_not_give Iterates h x e = absurd h
may_not_give Views h x e = absurd h
may_not_give (Member first others) h x e = absurd h
may_not_give NoMember h x e = absurd h

-- ---- one word is written, and read

one_first : (vs : List ℕ) (o : Object) → length vs ≡ 1 → IsWord 0 0 o.slots → vs ≡ word_at (with_words 0 0 vs o) 0 0 ∷ []
one_first [] o e has = absurd (omega (arith, e))
one_first (x ∷ []) o e has = ap (λ (y : ℕ). y ∷ []) (sym (word_here o 0 0 x has))
one_first (x ∷ y ∷ vs) o e has = absurd (omega (arith, e))

one_twice : (vs : List ℕ) (o : Object) → length vs ≡ 1 → with_word 0 0 0 (with_words 0 0 vs o) ≡ with_word 0 0 0 o
one_twice [] o e = absurd (omega (arith, e))
one_twice (x ∷ []) o e = with_twice 0 0 x 0 o
one_twice (x ∷ y ∷ vs) o e = absurd (omega (arith, e))

pub one_front : (xs : List ℕ) → 0 < length xs → take 1 (drop 0 xs) ≡ slice_index xs 0 ∷ []
one_front [] lt = absurd (omega (arith, lt))
one_front (x ∷ []) lt = refl
one_front (x ∷ y ∷ xs) lt = refl

owner_back : (x : ℕ) → owner_word (owned_in x) ≡ x
owner_back zero = refl
owner_back (suc x) = refl

-- ---- the owner

module _ (types : Types) (ordered : IsOrdered types) (hand : ℕ → ℕ) (m : Content) (store : IsStore types hand m) (n : ℕ) (o : Object) (there : at m.objects n ≡ Some o) (slot : 0 < length o.slots) (owns : IsOwning (parts_at types o.ty)) where
  abbrev p : Parts
  p = parts_at types o.ty

  abbrev ws : List ℕ
  ws = words_at m n 0 0 (width (parts_at types o.ty))

  abbrev took : Words
  took = taken (parts_at types o.ty) (words_at m n 0 0 (width (parts_at types o.ty))) m

  -- what it has when it has given
  abbrev pub left : Content
  left = wrote n 0 0 (0 ∷ []) (taken (parts_at types o.ty) (words_at m n 0 0 (width (parts_at types o.ty))) m).1

  one : width (parts_at types o.ty) ≡ 1
  one = one_wide (parts_at types o.ty) owns

  self : LiesWithin types o.ty 0 o.ty
  self = within_self types o.ty

  pub left_store : IsStore types (λ k. times (owned_of (parts_at types o.ty) took.0) k + hand k) left
  left_store = (moved_out types ordered hand m store n o.ty o there self slot one).0

  took_wide : length took.0 ≡ 1
  took_wide = (moved_out types ordered hand m store n o.ty o there self slot one).2 ∙ one

  free : times (owned_of p ws) n ≡ 0
  free =
      one_or_apart (times (owned_of p ws) n) 0 (λ z. z)
      (λ nz.
      let l = flat_lower types ordered m o.ty o.ty 0 ws self (ws_wide types ordered hand m store n o.ty o there self slot one) (spot_flat types ordered hand m store n 0 0 o.ty o there self slot) n o (omega (arith, nz)) there in
      absurd (omega (arith, l)))

  born : n < m.births
  born = store.forest.births n o there

  kept : at took.1.objects n ≡ Some o
  kept = taken_stays p ws m n born free ∙ there

  o_wide : o.width ≡ 1
  o_wide = (store.fit n o there).width ∙ one

  has : IsWord 0 0 o.slots
  has = wide_word o.width o.slots 0 0 (store.fit n o there).slots slot (let e = o_wide in omega (arith, e))

  fits : 0 + width p ≤ length (words_if (slice_get o.slots 0))
  fits = let e = o_wide in let f = one in let l = wide_slot o.width o.slots 0 (store.fit n o there).slots slot in omega (arith, e, f, l)

  pub take_is : leaves_taken n 0 0 (flat 0 (parts_at types o.ty)) m ≡ wrote n 0 0 took.0 took.1
  take_is = taken_meant n 0 p 0 m o there born fits free

  -- the owner with what is taken
  abbrev pub full : Object
  full = with_words 0 0 took.0 o

  full_is : wrote n 0 0 took.0 took.1 ≡ with_object n full took.1
  full_is = ap (λ (x : Option Object). wrote_if x n 0 0 took.0 took.1) kept

  pub full_there : at (wrote n 0 0 took.0 took.1).objects n ≡ Some full
  full_there = ap (λ (x : Content). at x.objects n) full_is ∙ at-set_same took.1.objects n n full refl

  pub first_is : took.0 ≡ word_at full 0 0 ∷ []
  first_is = one_first took.0 o took_wide has

  pub left_is : with_object n (with_word 0 0 0 full) (wrote n 0 0 took.0 took.1) ≡ left
  left_is =
      ap (with_object n (with_word 0 0 0 full)) full_is
      ∙ ap (λ (x : Cells Object). record { objects = x; births = took.1.births; clock = took.1.clock }) (set-set took.1.objects n full (with_word 0 0 0 full))
      ∙ ap (λ (x : Object). with_object n x took.1) (one_twice took.0 o took_wide)
      ∙ ap (λ (x : Option Object). wrote_if x n 0 0 (0 ∷ []) took.1) (sym kept)

  pub full_like : IsLike full o
  full_like = words_like 0 0 took.0 o

  -- ---- its word

  abbrev first : ℕ
  first = slice_index (slot_words m n 0) 0

  words_long : 0 < length (slot_words m n 0)
  words_long =
      let e = ap (λ (x : Option Object). length (words_if (slice_get (slots_if x) 0))) there in
      let f = fits in
      let g = one in
      omega (arith, e, f, g)

  words_are : ws ≡ owner_word (owned_in first) ∷ []
  words_are = ap (λ k. take k (drop 0 (slot_words m n 0))) one ∙ one_front (slot_words m n 0) words_long ∙ ap (λ (x : ℕ). x ∷ []) (sym (owner_back first))

  pub word_is : word_at o 0 0 ≡ first
  word_is = in_slot o.slots 0 0 ∙ ap (λ (x : Option Object). slice_index (words_if (slice_get (slots_if x) 0)) 0) (sym there)

  -- what comes of it
  pub gives : (place : Place) → may_give (flat 0 p) (owned_in (word_at o 0 0)) ≡ true → given_to p place n m ≡ Got (moved_to p place n took)
  gives place may =
      ap (λ x. then_get x (λ owned. Got (moved_to p place n (taken p (owner_word owned ∷ []) m)))) (may_give_is p owns (owned_in first) (ap (λ x. may_give (flat 0 p) (owned_in x)) (sym word_is) ∙ may))
      ∙ ap (λ xs. Got (moved_to p place n (taken p xs m))) (sym words_are)

  pub gives_none : (place : Place) → may_give (flat 0 p) (owned_in (word_at o 0 0)) ≡ false → given_to p place n m ≡ GotFault fault.Moved
  gives_none place may =
      ap (λ x. then_get x (λ owned. Got (moved_to p place n (taken p (owner_word owned ∷ []) m)))) (may_not_give p owns (owned_in first) (ap (λ x. may_give (flat 0 p) (owned_in x)) (sym word_is) ∙ may))

  -- the place of another owner stays
  pub remains : (t w : ℕ) (x : Object) → at m.objects t ≡ Some x → LiesWithin types x.ty w o.ty → Remains left t x
  remains t w x x_there within = remains_moved types ordered hand m store t w o.ty x x_there within n o there self slot one
