-- How far one change of a vector or a string counts.
use Rattle.std.proofs.Common.{◌≡◌, ◌≢◌, ◌⊎◌, ⊎_elim, ℕ, zero, suc, ◌+◌, ◌-◌, ◌*◌, ◌≤◌, ◌<◌, Bool, true, false, cond, List, [], ◌∷◌, ◌++◌, length, map, Option, Some, refl, sym, ap, subst, ◌∙◌, arith, mul-le-mul_right}
use Rattle.std.proofs.lemmas.Bool.{false≢true}
use Rattle.std.proofs.lemmas.Bool.Decides.{eqb_tells, leb_tells}
use Rattle.std.specs.Prelude.{drop, nat_eq, nat_lt, take}
use Rattle.life_types.specs.declared.ty.TyId.{TyId}
use Rattle.life_store.specs.Cells.{at, at-set_same}
use Rattle.life_store.specs.Content.{Object, Content, live_words_of, newborn, with_birth, without}
use Rattle.life_store.specs.Edits.{Edit, Push, Pop, Clear, Reserve, Put, Add, capacity_if, capacity_of, characters_of, cleared, edited, erased, filled_by, grown, one_word, owns, popped, pushed, put_last, regrown, reserved, rewritten, size_of, with_room, words_in}
use Rattle.life_store.specs.Effects.{Setting, Attempt, Got, GotTrap, then_get}
use Rattle.life_store.specs.Held.{filled, owner_word, resized_at, slot_words, slots_at, slots_if}
use Rattle.life_store.specs.Owners.{Words, birth, ended, ended_slots, sized_birth, taken_slots}
use Rattle.life_store.specs.Parts.{Parts, Single, Raw, Iterates, Views, Text, Vector, Unique, Member, NoMember, width}
use Rattle.life_store.specs.Places.{Spot}
use Rattle.life_store.specs.declared.run.Growth.{Growth}
use Rattle.life_store.specs.declared.run.Growth.TheVariants as growth
use Rattle.life_store.specs.declared.run.TrapKind.{TrapKind}
use Rattle.life_store.proofs.CellLemmas.{some_same}
use Rattle.life_forest.proofs.Coming.{IfGot, got_then}
use Rattle.life_changes.specs.Bounded.{IsBounded}
use Rattle.life_changes.proofs.Counted.{Counted, counted_all_ended, counted_born, counted_ended, counted_filled, counted_more, counted_resized, counted_slots, counted_without, counted_wrote}

-- ---- tests

pub if_fits : {A : Type 0} (a b : ℕ) (kind : TrapKind) (x : A) (P : A → Type 0) → (b ≤ a → P x) → IfGot (cond (nat_lt a b) (GotTrap kind) (Got x)) P
if_fits a b kind x P each = go (nat_lt a b) refl
  where
    go : (full : Bool) → nat_lt a b ≡ full → IfGot (cond full (GotTrap kind) (Got x)) P
    go true e = tt
    go false e = each (⊎_elim (λ h. absurd (false≢true (sym e ∙ h.0))) (λ h. omega (arith, h.1)) (leb_tells (suc a) b))

if_below : {A : Type 0} (a b : ℕ) (here there : Attempt A) (P : A → Type 0) → (a < b → IfGot here P) → (b ≤ a → IfGot there P) → IfGot (cond (nat_lt a b) here there) P
if_below a b here there P below over = go (nat_lt a b) refl
  where
    go : (x : Bool) → nat_lt a b ≡ x → IfGot (cond x here there) P
    go true e = below (⊎_elim (λ h. omega (arith, h.1)) (λ h. absurd (false≢true (sym h.0 ∙ e))) (leb_tells (suc a) b))
    go false e = over (⊎_elim (λ h. absurd (false≢true (sym e ∙ h.0))) (λ h. omega (arith, h.1)) (leb_tells (suc a) b))

-- a buffer that was full gets more room than it has slots
grows_more : (policy : Growth) (size capacity : ℕ) → capacity ≤ size → size ≤ capacity → size + 1 ≤ grown policy size capacity
grows_more growth.Always size capacity full roomy = omega arith
grows_more growth.Double size capacity full roomy = go (nat_eq capacity 0) (eqb_tells capacity 0)
  where
    more : (k : ℕ) → k ≢ 0 → k ≤ size → size ≤ k → size + 1 ≤ 2 * k
    more zero ne a b = absurd (ne refl)
    more (suc k) ne a b = omega (arith, a, b)

    go : (x : Bool) → ((x ≡ true) × (capacity ≡ 0)) ⊎ ((x ≡ false) × (capacity ≢ 0)) → size + 1 ≤ cond x 1 (2 * capacity)
    go true h = ⊎_elim (λ e. let z = e.1 in omega (arith, z, roomy)) (λ e. absurd (false≢true (sym e.0))) h
    go false h = ⊎_elim (λ e. absurd (false≢true e.0)) (λ e. more capacity e.1 full roomy) h

-- at most so many are counted, by the elements
abbrev pub most_of : (size : ℕ) → Parts → ℕ
most_of size (Vector ty element) = 1 + size * width element
most_of size _ = 1

module _ (limit : ℕ) (c : Content) (b : ℕ) (ob : Object) (there : at c.objects b ≡ Some ob) (bounded : IsBounded limit c) (old : b < c.births) (s : Setting) (given : s.given.cells ≡ limit) where
  abbrev pub Goes : ℕ → ℕ → Content → Type 0
  Goes n t d = Counted limit c b ob.capacity n t d

  abbrev pub size : ℕ
  size = length ob.slots

  pub begin : Counted limit c b ob.capacity 0 0 c
  begin = record {
    births = omega arith;
    clock = omega arith;
    bounded = bounded;
    old = old;
    same = λ o e. ap (λ (x : Object). x.capacity) (some_same (sym e ∙ there));
  }

  fits : length ob.slots ≤ ob.capacity
  fits = bounded.roomy b ob there

  size_is : size_of c b ≡ length ob.slots
  size_is = ap (λ (x : Option Object). length (slots_if x)) there

  capacity_is : capacity_of c b ≡ ob.capacity
  capacity_is = ap capacity_if there

  slots_are : slots_at c b ≡ ob.slots
  slots_are = ap slots_if there

  -- ---- births

  -- a new object, in the content that has it
  abbrev pub IsBorn : (w capacity : ℕ) (ty : TyId) → ℕ × Content → Type 0
  IsBorn w capacity ty f = (f ≡ (c.births, with_birth ty w capacity c)) × Counted limit c b ob.capacity 1 0 f.1

  birth_counts : (ty : TyId) (w capacity : ℕ) → IfGot (birth s ty w capacity c) (IsBorn w capacity ty)
  birth_counts ty w capacity =
      if_fits s.given.cells (live_words_of c + (2 + w * capacity)) _ (c.births, with_birth ty w capacity c) (IsBorn w capacity ty)
      (λ le. (refl, counted_born limit c b ob.capacity 0 0 ty w capacity c (omega (arith, le, given)) begin))

  -- .. with so many slots
  pub born_sized : (ty : TyId) (w capacity n : ℕ) → n ≤ capacity → (f : ℕ × Content) → IsBorn w capacity ty f → Counted limit c b ob.capacity 1 1 (resized_at f.0 n 0 f.1)
  born_sized ty w capacity n le f h =
      counted_resized limit c b ob.capacity 1 0 f.0 n 0 f.1 (omega arith)
      (λ o e. let is : newborn ty w capacity c.clock ≡ o = some_same (sym (at-set_same c.objects c.births f.0 (newborn ty w capacity c.clock) (ap (λ (x : ℕ × Content). x.0) (sym h.0))) ∙ ap (λ (x : ℕ × Content). at x.1.objects f.0) (sym h.0) ∙ e) in
      let k = ap (λ (x : Object). x.capacity) is in
      omega (arith, k, le))
      h.1

  -- ---- vectors

  module _ (ty : TyId) (element : Parts) (spot : Spot) where
    -- what a buffer that goes over counts
    abbrev pub moved : ℕ
    moved = 1 + length ob.slots * width element

    regrown_counts : (capacity n : ℕ) → n ≤ capacity → IfGot (regrown s ty element b capacity n c) (λ f. Goes (1 + length ob.slots * width element) 1 f.1)
    regrown_counts capacity n le =
        got_then (birth s ty (width element) capacity c) (λ f. Got (f.0, without b (filled_by f.0 (taken_slots element (slots_at c b) (resized_at f.0 n 0 f.1))))) (IsBorn (width element) capacity ty) (λ f. Goes (1 + length ob.slots * width element) 1 f.1)
        (birth_counts ty (width element) capacity)
        (λ f h.
        counted_without limit c b ob.capacity _ 1 b (filled_by f.0 (taken_slots element (slots_at c b) (resized_at f.0 n 0 f.1)))
        (counted_filled limit c b ob.capacity _ 1 f.0 (taken_slots element (slots_at c b) (resized_at f.0 n 0 f.1)).0 (taken_slots element (slots_at c b) (resized_at f.0 n 0 f.1)).1
        (subst (λ ss. Goes (1 + length ob.slots * width element) 1 (taken_slots element ss (resized_at f.0 n 0 f.1)).1) (sym slots_are)
        (counted_slots limit c b ob.capacity element ob.slots 1 1 (resized_at f.0 n 0 f.1) (born_sized ty (width element) capacity n le f h)))))

    room_counts : IfGot (with_room s ty element b c) (λ f. Goes (1 + length ob.slots * width element) 1 f.1)
    room_counts =
        if_below (size_of c b) (capacity_of c b) (Got (b, resized_at b (size_of c b + 1) (size_of c b) c)) (regrown s ty element b (grown s.given.growth (size_of c b) (capacity_of c b)) (size_of c b + 1) c) (λ f. Goes (1 + length ob.slots * width element) 1 f.1)
        (λ below. counted_more limit c b ob.capacity 0 1 _ 1 (resized_at b (size_of c b + 1) (size_of c b) c) (omega arith) (omega arith)
        (counted_resized limit c b ob.capacity 0 0 b (size_of c b + 1) (size_of c b) c (omega arith) (λ o e. let k = ap capacity_if e in omega (arith, k, below)) begin))
        (λ over. regrown_counts (grown s.given.growth (size_of c b) (capacity_of c b)) (size_of c b + 1)
        (grows_more s.given.growth (size_of c b) (capacity_of c b) over (omega (arith, size_is, capacity_is, fits))))

    owns_counts : (n t k : ℕ) (d : Content) → Goes n t d → Goes n t (owns spot k d)
    owns_counts n t k d h = counted_wrote limit c b ob.capacity n t spot.object spot.index spot.word (owner_word (Some k) ∷ []) d h

    -- the value that is pushed may count, too
    pub push_counts : (more : ℕ) (value : Content → Words) → ((n t : ℕ) (d : Content) → Goes n t d → Goes (n + more) t (value d).1) → IfGot (pushed s ty element spot b value c) (Goes (1 + length ob.slots * width element + more) 1)
    push_counts more value each =
        got_then (with_room s ty element b c) (λ f. Got (put_last spot f.0 (size_of c b) (value f.1))) (λ f. Goes (1 + length ob.slots * width element) 1 f.1) (Goes (1 + length ob.slots * width element + more) 1) room_counts
        (λ f h. counted_wrote limit c b ob.capacity _ 1 f.0 (size_of c b) 0 (value f.1).0 (owns spot f.0 (value f.1).1) (owns_counts _ 1 f.0 (value f.1).1 (each _ 1 f.1 h)))

    pop_counts : (n : ℕ) → n ≤ length ob.slots → IfGot (popped element b n c) (Goes 0 1)
    pop_counts zero le = tt
    pop_counts (suc n) le =
        counted_resized limit c b ob.capacity 0 0 b n n (ended element (slot_words c b n) c) (omega arith)
        (λ o e. let k = (counted_ended limit c b ob.capacity element (slot_words c b n) 0 0 c begin).same o e in omega (arith, k, le, fits))
        (counted_ended limit c b ob.capacity element (slot_words c b n) 0 0 c begin)

    clear_counts : Goes 0 1 (cleared element b c)
    clear_counts = counted_resized limit c b ob.capacity 0 0 b 0 0 (ended_slots (ended element) (slots_at c b) c) (omega arith) (λ o e. omega arith) (counted_all_ended limit c b ob.capacity element (slots_at c b) 0 0 c begin)

    reserve_counts : (n : ℕ) → IfGot (reserved s ty element spot b n c) (Goes (1 + length ob.slots * width element) 1)
    reserve_counts n =
        if_below (capacity_of c b) n (then_get (regrown s ty element b n (size_of c b) c) (λ f. Got (owns spot f.0 f.1))) (Got c) (Goes (1 + length ob.slots * width element) 1)
        (λ below. got_then (regrown s ty element b n (size_of c b) c) (λ f. Got (owns spot f.0 f.1)) (λ f. Goes (1 + length ob.slots * width element) 1 f.1) (Goes (1 + length ob.slots * width element) 1)
        (regrown_counts n (size_of c b) (omega (arith, size_is, capacity_is, fits, below)))
        (λ f h. owns_counts _ 1 f.0 f.1 h))
        (λ over. counted_more limit c b ob.capacity 0 0 _ 1 c (omega arith) (omega arith) begin)

    pub erase_counts : (i : ℕ) → i < length ob.slots → Goes (length ob.slots * width element) 1 (erased element b i c)
    erase_counts i small =
        let over = counted_slots limit c b ob.capacity element (drop (i + 1) (slots_at c b)) 0 0 (ended element (slot_words c b i) c) (counted_ended limit c b ob.capacity element (slot_words c b i) 0 0 c begin) in
        let less : length (drop (i + 1) (slots_at c b)) ≤ length ob.slots = (let e = ap (λ ss. length (drop (i + 1) ss)) slots_are in let l = length-dropped (i + 1) ob.slots in omega (arith, e, l)) in
        let few = mul-le-mul_right {m = length (drop (i + 1) (slots_at c b))} {n = length ob.slots} (width element) less in
        let filled_then = counted_filled limit c b ob.capacity _ 0 b (map words_in (take i (slots_at c b)) ++ (taken_slots element (drop (i + 1) (slots_at c b)) (ended element (slot_words c b i) c)).0) (taken_slots element (drop (i + 1) (slots_at c b)) (ended element (slot_words c b i) c)).1 over in
        counted_more limit c b ob.capacity (0 + length (drop (i + 1) (slots_at c b)) * width element) (0 + 1) _ 1 _ (omega (arith, few)) (omega arith)
        (counted_resized limit c b ob.capacity _ 0 b (size_of c b - 1) i
        (filled b (map words_in (take i (slots_at c b)) ++ (taken_slots element (drop (i + 1) (slots_at c b)) (ended element (slot_words c b i) c)).0) (taken_slots element (drop (i + 1) (slots_at c b)) (ended element (slot_words c b i) c)).1)
        (omega (arith, size_is, small))
        (λ o e. let k = filled_then.same o e in omega (arith, k, size_is, fits))
        filled_then)
      where
        length-dropped : {A : Type 0} (n : ℕ) (xs : List A) → length (drop n xs) ≤ length xs
        length-dropped zero xs = omega arith
        length-dropped (suc n) [] = omega arith
        length-dropped (suc n) (x ∷ xs) = let r = length-dropped n xs in omega (arith, r)

  -- ---- strings

  rewrite_counts : (ty : TyId) (spot : Spot) (words : List ℕ) → IfGot (rewritten s ty spot b words c) (Goes 1 1)
  rewrite_counts ty spot words =
      got_then (sized_birth s ty 1 (length words) c) (λ f. Got (owns spot f.0 (without b (filled f.0 (map one_word words) f.1)))) (λ f. Goes 1 1 f.1) (Goes 1 1)
      (got_then (birth s ty 1 (length words) c) (λ f. Got (f.0, resized_at f.0 (length words) 0 f.1)) (IsBorn 1 (length words) ty) (λ f. Goes 1 1 f.1) (birth_counts ty 1 (length words)) (λ f h. born_sized ty 1 (length words) (length words) (omega arith) f h))
      (λ f h. counted_wrote limit c b ob.capacity 1 1 spot.object spot.index spot.word (owner_word (Some f.0) ∷ []) (without b (filled f.0 (map one_word words) f.1))
      (counted_without limit c b ob.capacity 1 1 b (filled f.0 (map one_word words) f.1) (counted_filled limit c b ob.capacity 1 1 f.0 (map one_word words) f.1 h)))

  -- ---- either

  pub edit_counts : (p : Parts) (spot : Spot) (edit : Edit) → ((value : Content → Words) → edit ≡ Push value → (n t : ℕ) (d : Content) → Goes n t d → Goes (n + 0) t (value d).1) → IfGot (edited s p spot b edit c) (Goes (most_of (length ob.slots) p) 1)
  edit_counts (Vector ty element) spot (Push value) each =
      let none : 1 + length ob.slots * width element + 0 ≡ 1 + length ob.slots * width element = omega arith in
      subst (λ k. IfGot (pushed s ty element spot b value c) (Goes k 1)) none (push_counts ty element spot 0 value (each value refl))
  edit_counts (Vector ty element) spot Pop each = got_more (popped element b (size_of c b) c) (pop_counts ty element spot (size_of c b) (omega (arith, size_is)))
    where
      got_more : (x : Attempt Content) → IfGot x (Goes 0 1) → IfGot x (Goes (1 + length ob.slots * width element) 1)
      got_more (Got d) h = counted_more limit c b ob.capacity 0 1 _ 1 d (omega arith) (omega arith) h
      got_more (GotTrap kind) h = tt
      got_more _ h = tt
  edit_counts (Vector ty element) spot Clear each = counted_more limit c b ob.capacity 0 1 _ 1 (cleared element b c) (omega arith) (omega arith) (clear_counts ty element spot)
  edit_counts (Vector ty element) spot (Reserve n) each = reserve_counts ty element spot n
  edit_counts (Vector ty element) spot (Put words) each = tt
  edit_counts (Vector ty element) spot (Add words) each = tt
  edit_counts (Text ty) spot (Push value) each = rewrite_counts ty spot (characters_of c b ++ (value c).0)
  edit_counts (Text ty) spot Pop each = tt
  edit_counts (Text ty) spot Clear each = rewrite_counts ty spot []
  edit_counts (Text ty) spot (Reserve n) each = tt
  edit_counts (Text ty) spot (Put words) each = rewrite_counts ty spot words
  edit_counts (Text ty) spot (Add words) each = rewrite_counts ty spot (characters_of c b ++ words)
  edit_counts Single spot edit each = tt
  edit_counts Raw spot edit each = tt
  edit_counts Iterates spot edit each = tt
  edit_counts Views spot edit each = tt
  edit_counts (Unique ty target) spot edit each = tt
  edit_counts (Member first others) spot edit each = tt
  edit_counts NoMember spot edit each = tt
