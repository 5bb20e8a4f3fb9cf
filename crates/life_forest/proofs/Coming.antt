-- Values that come to life: the forest has what they own in the hand, and all that was there is as it was.
use Rattle.std.proofs.Common.{◌≡◌, ℕ, suc, ◌+◌, ◌≤◌, ◌<◌, Bool, true, false, cond, List, [], ◌∷◌, ◌++◌, length, Option, Some, None, refl, sym, ap, subst, ◌∙◌, arith, ⊎_elim, inr, length-append}
use Rattle.std.specs.Prelude.{drop, option_map}
use Rattle.std.proofs.lemmas.Bool.Decides.{leb_tells}
use Rattle.life_types.specs.declared.ty.TyId.{TyId}
use Rattle.life_core.specs.declared.instr.Form.{Form}
use Rattle.life_store.specs.Cells.{at, at-set_same, at-set_other}
use Rattle.life_store.specs.Content.{Object, Content, newborn, with_birth}
use Rattle.life_store.specs.Effects.{Setting, Attempt, Got, GotTrap, GotFault, GotLost, then_get}
use Rattle.life_store.specs.Held.{pointer_words}
use Rattle.life_store.specs.Owners.{Words, birth, fresh, joined, owning}
use Rattle.life_store.specs.Parts.{Parts, Single, Raw, Iterates, Views, Text, Vector, Unique, Member, NoMember, width}
use Rattle.life_store.specs.State.{Pointer, Null, Wild, To, Static}
use Rattle.life_store.specs.declared.run.TrapKind.{TrapKind}
use Rattle.life_store.proofs.MapLemmas.{one_or_apart}
use Rattle.life_forest.specs.Kinds.{Kinds}
use Rattle.life_forest.specs.Owned.{one, every, times, owns, owns_if, owns_at, spared}
use Rattle.life_forest.specs.Forest.{IsForest, Foot, Touches}
use Rattle.life_forest.specs.Values.{owned_of, Laid}
use Rattle.life_forest.proofs.Below.{lives, empty_handed}
use Rattle.life_forest.proofs.Counting.{one_there, times-append}
use Rattle.life_forest.proofs.Lists.{take_front, drop_front}
use Rattle.life_forest.proofs.Single.{forest_birth}
use Rattle.life_forest.proofs.Steps.{own_all}

-- ---- attempts

-- if something was got, it is such
abbrev pub IfGot : {A : Type 0} → Attempt A → (A → Type 0) → Type 0
IfGot (Got a) P = P a
IfGot (GotTrap kind) P = Unit {0}
IfGot (GotFault kind) P = Unit {0}
IfGot GotLost P = Unit {0}

pub got_then : {A B : Type 0} (x : Attempt A) (go : A → Attempt B) (P : A → Type 0) (Q : B → Type 0) → IfGot x P → ((a : A) → P a → IfGot (go a) Q) → IfGot (then_get x go) Q
got_then (Got a) go P Q h more = more a h
got_then (GotTrap kind) go P Q h more = tt
got_then (GotFault kind) go P Q h more = tt
got_then GotLost go P Q h more = tt

pub if_room : {A : Type 0} (full : Bool) (kind : TrapKind) (a : A) (P : A → Type 0) → P a → IfGot (cond full (GotTrap kind) (Got a)) P
if_room true kind a P h = tt
if_room false kind a P h = h

pub below_or : {C : Type 0} (a b : ℕ) → (a < b → C) → (b ≤ a → C) → C
below_or a b below over = ⊎_elim (λ h. below (omega (arith, h.1))) (λ h. over (omega (arith, h.1))) (leb_tells (suc a) b)

module _ (kind : Kinds) where
  -- from c to d only new objects came, which own new ones alone, of which these are in the hand
  pub record Came (bound : ℕ) (hand : ℕ → ℕ) (ms : List ℕ) (c d : Content) : Type 0 where
    pub births : c.births ≤ d.births
    pub clock : c.clock ≤ d.clock
    pub same : (k : ℕ) → k < c.births → at d.objects k ≡ at c.objects k
    pub own : (m k : ℕ) → c.births ≤ m → 0 < owns_at kind d every m k → c.births ≤ k
    pub fresh : (k : ℕ) → 0 < times ms k → c.births ≤ k
    pub low : (m : ℕ) (q : Object) → 0 < times ms m → at d.objects m ≡ Some q → kind.rank q.ty < bound
    pub forest : IsForest kind (λ k. times ms k + hand k) d

  pub came_none : (bound : ℕ) (hand : ℕ → ℕ) (c : Content) → IsForest kind hand c → Came bound hand [] c c
  came_none bound hand c forest = record {
    births = omega arith;
    clock = omega arith;
    same = λ k lt. refl;
    own = λ m k le own. unborn m k le own;
    fresh = λ k lt. absurd (omega arith);
    low = λ m q lt there. absurd (omega arith);
    forest = empty_handed kind hand (λ k. times [] k + hand k) c (λ k. omega arith) forest;
  }
    where
      unborn : (m k : ℕ) → c.births ≤ m → 0 < owns_at kind c every m k → c.births ≤ k
      unborn m k le own = go (at c.objects m) refl own
        where
          go : (o : Option Object) → at c.objects m ≡ o → 0 < owns_if kind every o k → c.births ≤ k
          go None e h = absurd (omega arith)
          go (Some o) e h = let b = forest.births m o e in absurd (omega arith)

  pub came_then : (bound : ℕ) (hand : ℕ → ℕ) (ms ns : List ℕ) (c d e : Content) → Came bound hand ms c d → Came bound (λ k. times ms k + hand k) ns d e → Came bound hand (ms ++ ns) c e
  came_then bound hand ms ns c d e a b = record {
    births = let x = a.births in let y = b.births in omega arith;
    clock = let x = a.clock in let y = b.clock in omega arith;
    same = λ k lt. b.same k (later k lt) ∙ a.same k lt;
    own = λ m k le own. below_or m d.births
        (λ lt. a.own m k le (subst (λ (o : Option Object). 0 < owns_if kind every o k) (b.same m lt) own))
        (λ over. let y = b.own m k over own in let x = a.births in omega arith);
    fresh = λ k lt. let s = times-append ms ns k in
        one_or_apart (times ms k) 0 (λ z. let y = b.fresh k (omega arith) in let x = a.births in omega arith) (λ nz. a.fresh k (omega arith));
    low = λ m q lt there. let s = times-append ms ns m in
        one_or_apart (times ms m) 0
        (λ z. b.low m q (omega arith) there)
        (λ nz. a.low m q (omega arith) (sym (b.same m (held_born m (omega arith))) ∙ there));
    forest = empty_handed kind (λ k. times ns k + (times ms k + hand k)) (λ k. times (ms ++ ns) k + hand k) e (λ k. let s = times-append ms ns k in omega arith) b.forest;
  }
    where
      later : (k : ℕ) → k < c.births → k < d.births
      later k lt = let x = a.births in omega arith

      held_born : (m : ℕ) → 0 < times ms m → m < d.births
      held_born m lt = let h = a.forest.held m in let q = lives kind d m (omega arith) in a.forest.births m q.0 q.1

  -- nothing that was there is touched
  pub came_touches : (t : Foot) (bound : ℕ) (hand : ℕ → ℕ) (ms : List ℕ) (c d : Content) → Came bound hand ms c d → Touches kind t c d
  came_touches t bound hand ms c d a = record {
    births = a.births;
    clock = a.clock;
    kept = λ n lt apart. ap (option_map (spared kind (t.part n))) (a.same n lt);
    back = λ g m k lt own. inr (old g m k lt own);
  }
    where
      old : (g : ℕ → Bool) (m k : ℕ) → k < c.births → 0 < owns_at kind d g m k → 0 < owns_at kind c g m k
      old g m k lt own = below_or m c.births
          (λ h. subst (λ (o : Option Object). 0 < owns_if kind g o k) (a.same m h) own)
          (λ over. let f = a.own m k over (own_all kind d g m k own) in absurd (omega arith))

  -- ---- an object is born

  pub birth_came : (bound : ℕ) (ty : TyId) (w capacity : ℕ) (hand : ℕ → ℕ) (c : Content) → kind.rank ty < bound → IsForest kind hand c → Came bound hand (c.births ∷ []) c (with_birth ty w capacity c)
  birth_came bound ty w capacity hand c lt forest = record {
    births = omega arith;
    clock = omega arith;
    same = λ k below. at-set_other c.objects c.births k (newborn ty w capacity c.clock) (λ e. absurd (omega (arith, e, below)));
    own = λ m k le own. one_or_apart c.births m
        (λ e. let z : 0 < owns kind every (newborn ty w capacity c.clock) k = subst (λ (o : Option Object). 0 < owns_if kind every o k) (at-set_same c.objects c.births m (newborn ty w capacity c.clock) e) own in absurd (omega arith))
        (λ ne. (came_none bound hand c forest).own m k le (subst (λ (o : Option Object). 0 < owns_if kind every o k) (at-set_other c.objects c.births m (newborn ty w capacity c.clock) ne) own));
    fresh = λ k there. let e = one_there c.births k (omega arith) in omega arith;
    low = λ m q there is.
        let e = one_there c.births m (omega arith) in
        let s : ty ≡ q.ty = ap (λ (x : Object). x.ty) (some (sym (at-set_same c.objects c.births m (newborn ty w capacity c.clock) e) ∙ is)) in
        let r = ap kind.rank s in
        omega arith;
    forest =
        forest_birth kind hand (λ k. times (c.births ∷ []) k + hand k) c (newborn ty w capacity c.clock) forest
        (record { lower = λ m q own t. absurd (omega arith); slots = tt; end = omega arith })
        (λ k. omega arith)
        (λ k. omega arith);
  }
    where
      some : {x y : Object} → Some x ≡ Some y → x ≡ y
      some e = cc

  -- ---- a value as it comes to life

  abbrev pub CameWords : ℕ → (ℕ → ℕ) → Parts → Content → Words → Type 0
  CameWords bound hand p c v = Came bound hand (owned_of p v.0) c v.1 × (length v.0 ≡ width p)

  buffer_came : (s : Setting) (p : Parts) (bound : ℕ) (ty : TyId) (w : ℕ) (hand : ℕ → ℕ) (c : Content) → kind.rank ty < bound → ((n : ℕ) → owned_of p (suc n ∷ []) ≡ n ∷ []) → width p ≡ 1 → IsForest kind hand c
      → IfGot (then_get (birth s ty w 0 c) (λ b. Got (owning b))) (CameWords bound hand p c)
  buffer_came s p bound ty w hand c lt owner wide forest =
      got_then (birth s ty w 0 c) (λ b. Got (owning b)) (λ b. Came bound hand (b.0 ∷ []) c b.1) (CameWords bound hand p c)
      (if_room _ _ (c.births, with_birth ty w 0 c) (λ b. Came bound hand (b.0 ∷ []) c b.1) (birth_came bound ty w 0 hand c lt forest))
      (λ b h. (subst (λ ms. Came bound hand ms c b.1) (sym (owner b.0)) h, sym wide))

  pointer_length : (p : Pointer) → length (pointer_words p) ≡ 5
  pointer_length Null = refl
  pointer_length Wild = refl
  pointer_length (To t) = refl
  pointer_length (Static s) = refl

  -- one value behind another
  pub joined_came : (bound : ℕ) (hand : ℕ → ℕ) (first others : Parts) (c : Content) (a : Attempt Words) (f : Content → Attempt Words) → IfGot a (CameWords bound hand first c)
      → ((h : ℕ → ℕ) (v : Words) → IsForest kind h v.1 → CameWords bound hand first c v → IfGot (f v.1) (CameWords bound h others v.1)) → IfGot (joined a f) (CameWords bound hand (Member first others) c)
  joined_came bound hand first others c a f one more =
      got_then a (λ v. then_get (f v.1) (λ w. Got (v.0 ++ w.0, w.1))) (CameWords bound hand first c) (CameWords bound hand (Member first others) c) one
      (λ v h. got_then (f v.1) (λ w. Got (v.0 ++ w.0, w.1)) (CameWords bound (λ k. times (owned_of first v.0) k + hand k) others v.1) (CameWords bound hand (Member first others) c)
      (more (λ k. times (owned_of first v.0) k + hand k) v h.0.forest h)
      (λ w k. (
        subst (λ (xs : List ℕ). Came bound hand (owned_of first xs ++ owned_of others (drop (width first) (v.0 ++ w.0))) c w.1) (sym (take_front (width first) v.0 w.0 h.1))
            (subst (λ (ys : List ℕ). Came bound hand (owned_of first v.0 ++ owned_of others ys) c w.1) (sym (drop_front (width first) v.0 w.0 h.1))
            (came_then bound hand (owned_of first v.0) (owned_of others w.0) c v.1 w.1 h.0 k.0)),
        (let x = length-append v.0 w.0 in let y = h.1 in let z = k.1 in omega arith),
      )))

  pub fresh_came : (s : Setting) (form : Form) (p : Parts) (bound : ℕ) → Laid kind bound p → (hand : ℕ → ℕ) (c : Content) → IsForest kind hand c → IfGot (fresh s form p c) (CameWords bound hand p c)
  fresh_came s form Single bound laid hand c forest = (came_none bound hand c forest, refl)
  fresh_came s form Raw bound laid hand c forest = (came_none bound hand c forest, pointer_length _)
  fresh_came s form Iterates bound laid hand c forest = (came_none bound hand c forest, refl)
  fresh_came s form Views bound laid hand c forest = (came_none bound hand c forest, refl)
  fresh_came s form (Text ty) bound laid hand c forest = buffer_came s (Text ty) bound ty 1 hand c laid.0 (λ n. refl) refl forest
  fresh_came s form (Vector ty element) bound laid hand c forest = buffer_came s (Vector ty element) bound ty (width element) hand c laid.0 (λ n. refl) refl forest
  fresh_came s form (Unique ty target) bound laid hand c forest = (came_none bound hand c forest, refl)
  fresh_came s form (Member first others) bound laid hand c forest =
      joined_came bound hand first others c (fresh s form first c) (fresh s form others)
      (fresh_came s form first bound laid.0 hand c forest)
      (λ h v now came. fresh_came s form others bound laid.1 h v.1 now)
  fresh_came s form NoMember bound laid hand c forest = (came_none bound hand c forest, refl)
