-- A copy doesn't look at an object that has come since, so that may as well be written before it or behind it.
use Rattle.std.proofs.Common.{◌≡◌, ◌≢◌, ℕ, ◌+◌, ◌*◌, ◌≤◌, ◌<◌, Bool, true, false, cond, List, [], ◌∷◌, ◌++◌, length, Option, Some, None, refl, sym, ap, ◌∙◌, arith}
use Rattle.std.specs.Prelude.{drop, nat_lt, slice_index, take}
use Rattle.life_types.specs.Types.{Types}
use Rattle.life_types.specs.declared.ty.TyId.{TyId}
use Rattle.life_store.specs.Cells.{Cells, at, at-set_same, at-set_other}
use Rattle.life_store.specs.Content.{Slot, Object, Content, cost, live_words_of, newborn, resized, with_birth, with_object}
use Rattle.life_store.specs.Effects.{Setting, Attempt, Got, GotTrap, then_get}
use Rattle.life_store.specs.Held.{filled, filled_if, filled_slots, owned_in, resized_at, resized_if, slots_at, slots_if}
use Rattle.life_store.specs.Owners.{Words, copied, copied_buffer, copied_slots, owning, sized_birth}
use Rattle.life_store.specs.Parts.{Parts, Single, Raw, Iterates, Views, Text, Vector, Unique, Member, NoMember, width}
use Rattle.life_store.specs.declared.run.TrapKind.TheVariants as trap
use Rattle.life_store.proofs.MapLemmas.{set_apart, sum-set}
use Rattle.life_forest.specs.Kinds.{rank_of}
use Rattle.life_forest.specs.Values.{AllKnown}
use Rattle.life_forest.proofs.Coming.{IfGot}
use Rattle.life_values.specs.Copyable.{IsCopyable, IsReadable, IsReadableIf}
use Rattle.life_values.proofs.Attempts.{then_alike, then_then}
use Rattle.life_values.proofs.CopiedKept.{birth_kept, copied_kept, keeps_then, IsBorn, IsCopy, Keeps}

-- the object of the number isn't older, and may be replaced by another one of as many words
pub record MayChange (old c : Content) (m : ℕ) (x : Object) : Type 0 where
  pub keeps : Keeps old c
  pub since : old.births ≤ m
  pub born : m < c.births
  pub object : Object
  pub there : at c.objects m ≡ Some object
  pub width : x.width ≡ object.width
  pub capacity : x.capacity ≡ object.capacity

-- ---- what is got, with types

-- the content alone has the other object
abbrev pub also_over : {A : Type 0} → ℕ → Object → A × Content → Attempt (A × Content)
also_over m x v = Got (v.0, with_object m x v.1)

-- .. with what was got before
abbrev pub with_first : {A B D : Type 0} → (A → B → D) → A → B × Content → Attempt (D × Content)
with_first join a b = Got (join a b.0, b.1)

abbrev pub numbered : ℕ → Content → Attempt (ℕ × Content)
numbered n c = Got (n, c)

abbrev pub filled_one : ℕ → List (List ℕ) × Content → Attempt (ℕ × Content)
filled_one n vs = Got (n, filled n vs.0 vs.1)

abbrev pub owned_words : ℕ × Content → Attempt Words
owned_words b = Got (owning b)

-- a copy of the slots of an object, by its number
abbrev pub number_copied : Setting → TyId → (width : ℕ) → (List ℕ → Content → Attempt Words) → List Slot → Content → Attempt (ℕ × Content)
number_copied s ty w copy ss c = then_get (sized_birth s ty w (length ss) c) (λ b. then_get (copied_slots copy ss b.1) (filled_one b.0))

module _ (old : Content) (m : ℕ) (x : Object) where
  abbrev over : Content → Content
  over c = with_object m x c

  may_then : (c d : Content) → MayChange old c m x → Keeps c d → MayChange old d m x
  may_then c d may keeps = record {
    keeps = keeps_then old c d may.keeps keeps;
    since = may.since;
    born = let b = may.born in let k = keeps.births in omega (arith, b, k);
    object = may.object;
    there = keeps.same m may.born ∙ may.there;
    width = may.width;
    capacity = may.capacity;
  }

  -- ---- a birth

  module _ (c : Content) (may : MayChange old c m x) where
    cost_is : cost may.object ≡ cost x
    cost_is = (λ i. 2 + sym may.width i * sym may.capacity i)

    live_is : live_words_of (with_object m x c) ≡ live_words_of c
    live_is = let e = sum-set cost c.objects m may.object x may.there in let k = cost_is in omega (arith, e, k)

    apart : c.births ≢ m
    apart e = let b = may.born in absurd (omega (arith, b, e))

    module _ (ty : TyId) (w size : ℕ) where
      abbrev bare : Object
      bare = newborn ty w size c.clock

      abbrev blanks : Object
      blanks = resized (c.clock + 1) size 0 bare

      begun_is : with_birth ty w size (over c) ≡ over (with_birth ty w size c)
      begun_is = ap (λ (z : Cells Object). record { objects = z; births = c.births + 1; clock = c.clock }) (set_apart c.objects m c.births x bare (λ e. apart (sym e)))

      bare_there : at (with_birth ty w size c).objects c.births ≡ Some bare
      bare_there = at-set_same c.objects c.births c.births bare refl

      sized_is : resized_at c.births size 0 (with_birth ty w size (over c)) ≡ over (resized_at c.births size 0 (with_birth ty w size c))
      sized_is =
          ap (resized_at c.births size 0) begun_is
          ∙ ap (λ (z : Option Object). resized_if z c.births size 0 (over (with_birth ty w size c))) (at-set_other (with_birth ty w size c).objects m c.births x (λ e. apart (sym e)) ∙ bare_there)
          ∙ ap (λ (z : Cells Object). record { objects = z; births = c.births + 1; clock = c.clock + 1 }) (set_apart (with_birth ty w size c).objects m c.births x blanks (λ e. apart (sym e)))
          ∙ ap (λ (z : Option Object). over (resized_if z c.births size 0 (with_birth ty w size c))) (sym bare_there)

      abbrev if_so : Bool → Attempt (ℕ × Content) → Attempt (ℕ × Content)
      if_so full born = cond full (GotTrap trap.Cells) born

      abbrev if_full : Setting → ℕ → Attempt (ℕ × Content) → Attempt (ℕ × Content)
      if_full s live born = if_so (nat_lt s.given.cells (live + (2 + w * size))) born

      abbrev all_slots : ℕ × Content → Attempt (ℕ × Content)
      all_slots b = Got (b.0, resized_at b.0 size 0 b.1)

      birth_aside : (s : Setting) → sized_birth s ty w size (over c) ≡ then_get (sized_birth s ty w size c) (also_over m x)
      birth_aside s =
          ap (λ n. then_get (if_full s n (numbered c.births (with_birth ty w size (over c)))) all_slots) live_is
          ∙ go (nat_lt s.given.cells (live_words_of c + (2 + w * size)))
        where
          go : (full : Bool) → then_get (if_so full (numbered c.births (with_birth ty w size (over c)))) all_slots ≡ then_get (then_get (if_so full (numbered c.births (with_birth ty w size c))) all_slots) (also_over m x)
          go true = refl
          go false = ap (numbered c.births) sized_is

  filled_aside : (n : ℕ) (vs : List (List ℕ)) (c : Content) → n ≢ m → filled n vs (over c) ≡ over (filled n vs c)
  filled_aside n vs c ne =
      ap (λ (z : Option Object). filled_if z n vs (over c)) (at-set_other c.objects m n x (λ e. ne (sym e)))
      ∙ go (at c.objects n)
    where
      go : (z : Option Object) → filled_if z n vs (over c) ≡ over (filled_if z n vs c)
      go None = refl
      go (Some o) = ap (λ (y : Cells Object). record { objects = y; births = c.births; clock = c.clock }) (set_apart c.objects m n x (record o { slots = filled_slots o.slots vs }) (λ e. ne (sym e)))

  filled_one_aside : (n : ℕ) (vs : List (List ℕ) × Content) → n ≢ m → filled_one n (vs.0, over vs.1) ≡ then_get (filled_one n vs) (also_over m x)
  filled_one_aside n vs ne = ap (numbered n) (filled_aside n vs.0 vs.1 ne)

  -- ---- one after the other

  abbrev both : {A B D : Type 0} → (Content → Attempt (B × Content)) → (A → B → D) → A × Content → Attempt (D × Content)
  both go join a = then_get (go a.1) (with_first join a.0)

  both_aside : {A B D : Type 0} (first other : Attempt (A × Content)) (P : A × Content → Type 0) (go : Content → Attempt (B × Content)) (join : A → B → D) → other ≡ then_get first (also_over m x) → IfGot first P
      → ((a : A × Content) → P a → go (over a.1) ≡ then_get (go a.1) (also_over m x)) → then_get other (both go join) ≡ then_get (then_get first (both go join)) (also_over m x)
  both_aside first other P go join is got each =
      ap (λ z. then_get z (both go join)) is
      ∙ then_then first (also_over m x) (both go join)
      ∙ then_alike first P (λ a. then_get (go (over a.1)) (with_first join a.0)) (λ a. then_get (both go join a) (also_over m x)) got
      (λ a h.
      ap (λ z. then_get z (with_first join a.0)) (each a h)
      ∙ then_then (go a.1) (also_over m x) (with_first join a.0)
      ∙ sym (then_then (go a.1) (with_first join a.0) (also_over m x)))
      ∙ sym (then_then first (both go join) (also_over m x))

  module _ (w : ℕ) (copy : List ℕ → Content → Attempt Words) (kept : (ws : List ℕ) (c : Content) → IfGot (copy ws c) (IsCopy w ws c)) (value : List ℕ → Type 0)
      (each : (ws : List ℕ) (c : Content) → MayChange old c m x → value ws → copy ws (with_object m x c) ≡ then_get (copy ws c) (also_over m x)) where
    slots_aside : (ss : List Slot) → AllKnown value ss → (c : Content) → MayChange old c m x → copied_slots copy ss (over c) ≡ then_get (copied_slots copy ss c) (also_over m x)
    slots_aside [] known c may = refl
    slots_aside (t ∷ ts) known c may =
        both_aside (copy t.words c) (copy t.words (over c)) (IsCopy w t.words c) (copied_slots copy ts) (λ v vs. v ∷ vs) (each t.words c may known.0) (kept t.words c)
        (λ v a. slots_aside ts known.1 v.1 (may_then c v.1 may a.keeps))

    pub number_aside : (s : Setting) (ty : TyId) (u : ℕ) (ss : List Slot) → AllKnown value ss → (c : Content) → MayChange old c m x
        → number_copied s ty u copy ss (with_object m x c) ≡ then_get (number_copied s ty u copy ss c) (also_over m x)
    number_aside s ty u ss known c may =
        ap (λ z. then_get z filling) (birth_aside c may ty u (length ss) s)
        ∙ then_then (sized_birth s ty u (length ss) c) (also_over m x) filling
        ∙ then_alike (sized_birth s ty u (length ss) c) (IsBorn ty u (length ss) c) (λ b. filling (b.0, over b.1)) (λ b. then_get (filling b) (also_over m x)) (birth_kept ty u (length ss) c s)
        (λ b born.
        ap (λ z. then_get z (filled_one b.0)) (slots_aside ss known b.1 (may_then c b.1 may born.keeps))
        ∙ then_then (copied_slots copy ss b.1) (also_over m x) (filled_one b.0)
        ∙ (λ i. then_get (copied_slots copy ss b.1) (λ vs. filled_one_aside b.0 vs (λ e. let n = born.number in let l = may.born in absurd (omega (arith, e, n, l))) i))
        ∙ sym (then_then (copied_slots copy ss b.1) (filled_one b.0) (also_over m x)))
        ∙ sym (then_then (sized_birth s ty u (length ss) c) filling (also_over m x))
      where
        filling : ℕ × Content → Attempt (ℕ × Content)
        filling b = then_get (copied_slots copy ss b.1) (filled_one b.0)

-- ---- a buffer, by its number and by its word

pub owning_is : (s : Setting) (ty : TyId) (w : ℕ) (copy : List ℕ → Content → Attempt Words) (n : ℕ) (c : Content) (ss : List Slot) → slots_at c n ≡ ss
    → copied_buffer s ty w copy (Some n) c ≡ then_get (number_copied s ty w copy ss c) owned_words
owning_is s ty w copy n c ss is =
    ap (λ xs. then_get (sized_birth s ty w (length xs) c) (λ b. then_get (copied_slots copy xs b.1) (λ vs. Got (owning (b.0, filled b.0 vs.0 vs.1))))) is
    ∙ (λ i. then_get (sized_birth s ty w (length ss) c) (λ b. sym (then_then (copied_slots copy ss b.1) (filled_one b.0) owned_words) i))
    ∙ sym (then_then (sized_birth s ty w (length ss) c) (λ b. then_get (copied_slots copy ss b.1) (filled_one b.0)) owned_words)

module _ (s : Setting) (types : Types) (old : Content) where
  -- the object of the number is as it was
  pub slots_still : (ty : TyId) (element : Parts) (value : List ℕ → Type 0) (n : ℕ) (c : Content) → Keeps old c → (r : IsReadable types ty element value old n) → slots_at c n ≡ r.object.slots
  slots_still ty element value n c keeps r = ap slots_if (keeps.same n r.born ∙ r.there)

  module _ (m : ℕ) (x : Object) where
    buffer_aside : (w : ℕ) (copy : List ℕ → Content → Attempt Words) (kept : (ws : List ℕ) (c : Content) → IfGot (copy ws c) (IsCopy w ws c)) (value : List ℕ → Type 0)
        → ((ws : List ℕ) (c : Content) → MayChange old c m x → value ws → copy ws (with_object m x c) ≡ then_get (copy ws c) (also_over m x))
        → (ty : TyId) (element : Parts) (u : ℕ) (n : Option ℕ) → IsReadableIf types ty element value old n → (c : Content) → MayChange old c m x
        → copied_buffer s ty u copy n (with_object m x c) ≡ then_get (copied_buffer s ty u copy n c) (also_over m x)
    buffer_aside w copy kept value each ty element u None known c may = refl
    buffer_aside w copy kept value each ty element u (Some n) r c may =
        let ss = r.object.slots in
        let here = slots_still ty element value n c may.keeps r in
        let beside : slots_at (with_object m x c) n ≡ ss =
        ap slots_if (at-set_other c.objects m n x (λ e. let b = r.born in let l = may.since in absurd (omega (arith, e, b, l)))) ∙ here in
        owning_is s ty u copy n (with_object m x c) ss beside
        ∙ ap (λ z. then_get z owned_words) (number_aside old m x w copy kept value each s ty u ss r.slots c may)
        ∙ then_then (number_copied s ty u copy ss c) (also_over m x) owned_words
        ∙ sym (then_then (number_copied s ty u copy ss c) owned_words (also_over m x))
        ∙ ap (λ z. then_get z (also_over m x)) (sym (owning_is s ty u copy n c ss here))

    pub copied_aside : (bound : ℕ) (p : Parts) (ws : List ℕ) (c : Content) → MayChange old c m x → IsCopyable types old bound p ws → copied s p ws (with_object m x c) ≡ then_get (copied s p ws c) (also_over m x)
    copied_aside bound Single ws c may known = refl
    copied_aside bound Raw ws c may known = refl
    copied_aside bound Iterates ws c may known = refl
    copied_aside bound Views ws c may known = refl
    copied_aside bound (Text ty) ws c may known =
        buffer_aside 1 (λ vs d. Got (vs, d)) (λ vs d. copied_kept s Single vs d) (λ vs. Unit {0}) (λ vs d h u. refl) ty Single 1 (owned_in (slice_index ws 0)) known.1 c may
    copied_aside bound (Vector ty element) ws c may known =
        buffer_aside (width element) (copied s element) (copied_kept s element) (IsCopyable types old (rank_of types ty) element) (copied_aside (rank_of types ty) element) ty element (width element) (owned_in (slice_index ws 0)) known.1 c may
    copied_aside bound (Unique ty target) ws c may known = absurd known
    copied_aside bound (Member first others) ws c may known =
        both_aside old m x (copied s first (take (width first) ws) c) (copied s first (take (width first) ws) (with_object m x c)) (IsCopy (width first) (take (width first) ws) c) (copied s others (drop (width first) ws)) (λ a b. a ++ b)
        (copied_aside bound first (take (width first) ws) c may known.0) (copied_kept s first (take (width first) ws) c)
        (λ a k. copied_aside bound others (drop (width first) ws) a.1 (may_then old m x c a.1 may k.keeps) known.1)
    copied_aside bound NoMember ws c may known = refl
