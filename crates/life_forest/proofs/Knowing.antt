-- What is known of a value stays known where what is beneath it stays.
use Rattle.std.proofs.Common.{◌≡◌, ℕ, ◌≤◌, ◌<◌, List, [], ◌∷◌, Option, Some, None, sym, ap, ◌∙◌, arith}
use Rattle.std.specs.Prelude.{drop, slice_index, take}
use Rattle.life_store.specs.Cells.{at, at-set_other}
use Rattle.life_store.specs.Content.{Slot, Object, Content, with_object}
use Rattle.life_store.specs.Held.{owned_in}
use Rattle.life_store.specs.Parts.{Parts, Single, Raw, Iterates, Views, Text, Vector, Unique, Member, NoMember, width}
use Rattle.life_forest.specs.Kinds.{Kinds}
use Rattle.life_forest.specs.Owned.{every, times, owns}
use Rattle.life_forest.specs.Forest.{IsForest}
use Rattle.life_forest.specs.Values.{listed, owned_of, owned_slots, AllKnown, OwnedKnown, Known}
use Rattle.life_forest.proofs.Below.{lives}
use Rattle.life_forest.proofs.ByParts.{owned_is}
use Rattle.life_forest.proofs.Counting.{one_same, times-append}
use Rattle.life_forest.proofs.Steps.{owned_held, times-owned_list}

module _ (kind : Kinds) (hand : ℕ → ℕ) (c d : Content) (forest : IsForest kind hand c) (P : Object → Type 0)
    (closed : (m k : ℕ) (x y : Object) → at c.objects m ≡ Some x → P x → 0 < owns kind every x k → at c.objects k ≡ Some y → P y)
    (births : c.births ≤ d.births) (same : (m : ℕ) (x : Object) → at c.objects m ≡ Some x → P x → at d.objects m ≡ Some x) where
  -- an object that lives, and stays
  pub record Stays (m : ℕ) : Type 0 where
    pub object : Object
    pub there : at c.objects m ≡ Some object
    pub such : P object

  abbrev Kept : Parts → Type 0
  Kept p = (ws : List ℕ) → ((m : ℕ) → 0 < times (owned_of p ws) m → Stays m) → Known kind c p ws → Known kind d p ws

  slots_kept : (p : Parts) → Kept p → (ss : List Slot) → ((m : ℕ) → 0 < times (owned_slots p ss) m → Stays m) → AllKnown (Known kind c p) ss → AllKnown (Known kind d p) ss
  slots_kept p one [] low h = tt
  slots_kept p one (s ∷ ss) low h = (
    one s.words (λ m lt. let e = times-append (owned_of p s.words) (owned_slots p ss) m in low m (omega arith)) h.0,
    slots_kept p one ss (λ m lt. let e = times-append (owned_of p s.words) (owned_slots p ss) m in low m (omega arith)) h.1,
  )

  some_same : {x y : Object} → Some x ≡ Some y → x ≡ y
  some_same e = cc

  owned_kept : (p : Parts) → Kept p → (x : Option ℕ) → ((m : ℕ) → 0 < times (listed x) m → Stays m) → OwnedKnown kind c p (Known kind c p) x → OwnedKnown kind d p (Known kind d p) x
  owned_kept p one None low h = tt
  owned_kept p one (Some n) low h = (
    (let a = h.0 in omega arith),
    λ o there.
        let s = low n (let e = one_same n n refl_one in omega arith) in
        let was : at c.objects n ≡ Some o = s.there ∙ sym (same n s.object s.there s.such) ∙ there in
        let i = h.1 o was in
        record {
          kinds = i.kinds;
          words = i.words;
          wide = i.wide;
          slots = slots_kept p one o.slots
              (λ m lt. let e = times-owned_list kind (Some o) m in
              let f = ap (λ xs. times xs m) (owned_is kind p o i.kinds) in
              let l = owned_held kind c n m o was in
              let h = forest.held m in
              let q = lives kind c m (omega arith) in
              record { object = q.0; there = q.1; such = closed n m s.object q.0 s.there s.such (let own = object_same s.object o m (some_same (sym s.there ∙ was)) in omega arith) q.1 })
              i.slots;
        },
  )
    where
      refl_one : n ≡ n
      refl_one = omega arith

      object_same : (x y : Object) (m : ℕ) → x ≡ y → owns kind every x m ≡ owns kind every y m
      object_same x y m e = ap (λ (z : Object). owns kind every z m) e

  pub known_kept : (p : Parts) (ws : List ℕ) → ((m : ℕ) → 0 < times (owned_of p ws) m → Stays m) → Known kind c p ws → Known kind d p ws
  known_kept Single ws low h = tt
  known_kept Raw ws low h = tt
  known_kept Iterates ws low h = tt
  known_kept Views ws low h = tt
  known_kept (Text ty) ws low h = owned_kept Single (λ vs l k. tt) (owned_in (slice_index ws 0)) low h
  known_kept (Vector ty element) ws low h = owned_kept element (known_kept element) (owned_in (slice_index ws 0)) low h
  known_kept (Unique ty target) ws low h = owned_kept target (known_kept target) (owned_in (slice_index ws 0)) low h
  known_kept (Member first others) ws low h = (
    known_kept first (take (width first) ws) (λ m lt. let e = times-append (owned_of first (take (width first) ws)) (owned_of others (drop (width first) ws)) m in low m (omega arith)) h.0,
    known_kept others (drop (width first) ws) (λ m lt. let e = times-append (owned_of first (take (width first) ws)) (owned_of others (drop (width first) ws)) m in low m (omega arith)) h.1,
  )
  known_kept NoMember ws low h = tt

  pub slots_known_kept : (p : Parts) (ss : List Slot) → ((m : ℕ) → 0 < times (owned_slots p ss) m → Stays m) → AllKnown (Known kind c p) ss → AllKnown (Known kind d p) ss
  slots_known_kept p ss low h = slots_kept p (known_kept p) ss low h

-- ---- beside an object that is changed: what it owns has a lesser type, so it isn't this object

module _ (kind : Kinds) (hand : ℕ → ℕ) (c : Content) (b : ℕ) (o q : Object) (forest : IsForest kind hand c) (there : at c.objects b ≡ Some o) where
  lesser_same : (m : ℕ) (x : Object) → at c.objects m ≡ Some x → kind.rank x.ty < kind.rank o.ty → at (with_object b q c).objects m ≡ Some x
  lesser_same m x is less = at-set_other c.objects b m q not_it ∙ is
    where
      some : {y z : Object} → Some y ≡ Some z → y ≡ z
      some k = cc

      not_it : b ≡ m → ⊥
      not_it e = let r = ap kind.rank (ap (λ (y : Object). y.ty) (some (sym there ∙ ap (at c.objects) e ∙ is))) in omega arith

  lesser_closed : (m k : ℕ) (x y : Object) → at c.objects m ≡ Some x → kind.rank x.ty < kind.rank o.ty → 0 < owns kind every x k → at c.objects k ≡ Some y → kind.rank y.ty < kind.rank o.ty
  lesser_closed m k x y is less own below = let l = forest.lower m k x y is own below in omega arith

  lesser_there : (m : ℕ) → 0 < owns kind every o m → Stays kind hand c (with_object b q c) forest (λ x. kind.rank x.ty < kind.rank o.ty) lesser_closed (omega arith) lesser_same m
  lesser_there m own =
      let h = forest.held m in
      let l = owned_held kind c b m o there in
      let x = lives kind c m (omega arith) in
      record { object = x.0; there = x.1; such = forest.lower b m o x.0 there own x.1 }

  pub known_apart : (p : Parts) (ws : List ℕ) → ((m : ℕ) → 0 < times (owned_of p ws) m → 0 < owns kind every o m) → Known kind c p ws → Known kind (with_object b q c) p ws
  known_apart p ws low known =
      known_kept kind hand c (with_object b q c) forest (λ x. kind.rank x.ty < kind.rank o.ty) lesser_closed (omega arith) lesser_same p ws (λ m lt. lesser_there m (low m lt)) known

  pub slots_known_apart : (p : Parts) (ss : List Slot) → ((m : ℕ) → 0 < times (owned_slots p ss) m → 0 < owns kind every o m) → AllKnown (Known kind c p) ss → AllKnown (Known kind (with_object b q c) p) ss
  slots_known_apart p ss low known =
      slots_known_kept kind hand c (with_object b q c) forest (λ x. kind.rank x.ty < kind.rank o.ty) lesser_closed (omega arith) lesser_same p ss (λ m lt. lesser_there m (low m lt)) known
