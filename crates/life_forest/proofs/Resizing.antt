-- Slots that are cut, filled up and stamped: they own no more than those that stay.
use Rattle.std.proofs.Common.{◌≡◌, ℕ, zero, suc, ◌+◌, ◌-◌, ◌≤◌, Bool, true, false, cond, List, [], ◌∷◌, ◌++◌, length, map, replicate, take, drop, Some, refl, ap, arith, inl, inr}
use Rattle.std.specs.Prelude.{◌&&◌}
use Rattle.life_store.specs.Cells.{at}
use Rattle.life_store.specs.Content.{Slot, Object, Content, blank_slot, resized, resized_slots, stamped, with_resize}
use Rattle.life_forest.specs.Changes.{ticked}
use Rattle.life_forest.specs.Kinds.{Kinds}
use Rattle.life_store.specs.Kinds.{is_owner}
use Rattle.life_forest.specs.Owned.{hit, in_words, in_slots, every, owns}
use Rattle.life_forest.specs.Forest.{AllSince, IsForest, Foot, Beneath, whole, part, under, Touches}
use Rattle.life_forest.proofs.Feet.{within_self}
use Rattle.life_forest.proofs.Single.{fits_there, forest_ticked, forest_with, touches_ticked, touches_with}
use Rattle.life_forest.proofs.Steps.{touches_then}

-- ---- counts

pub in_slots-append : (f : ℕ → Bool) (ss rr : List Slot) (k : ℕ) → in_slots f (ss ++ rr) k ≡ in_slots f ss k + in_slots f rr k
in_slots-append f [] rr k = omega arith
in_slots-append f (s ∷ ss) rr k = let h = in_slots-append f ss rr k in omega arith

pub in_slots-stamped : (f : ℕ → Bool) (t : ℕ) (ss : List Slot) (k : ℕ) → in_slots f (map (stamped t) ss) k ≡ in_slots f ss k
in_slots-stamped f t [] k = refl
in_slots-stamped f t (s ∷ ss) k = let h = in_slots-stamped f t ss k in omega arith

in_words-blank : (f : ℕ → Bool) (n k : ℕ) → in_words f (replicate n 0) k ≡ 0
in_words-blank f zero k = refl
in_words-blank f (suc n) k = let h = in_words-blank (λ u. f (suc u)) n k in let z = none (f 0) in omega arith
  where
    none : (b : Bool) → cond b (hit 0 k) 0 ≡ 0
    none true = refl
    none false = refl

pub in_slots-blank : (f : ℕ → Bool) (w t n k : ℕ) → in_slots f (replicate n (blank_slot w t)) k ≡ 0
in_slots-blank f w t zero k = refl
in_slots-blank f w t (suc n) k = let h = in_slots-blank f w t n k in let z = in_words-blank f w k in omega arith

pub in_slots-take : (f : ℕ → Bool) (n : ℕ) (ss : List Slot) (k : ℕ) → in_slots f (take n ss) k + in_slots f (drop n ss) k ≡ in_slots f ss k
in_slots-take f zero ss k = omega arith
in_slots-take f (suc n) [] k = refl
in_slots-take f (suc n) (s ∷ ss) k = let h = in_slots-take f n ss k in omega arith

take-append : (f : ℕ → Bool) (n : ℕ) (ss rr : List Slot) (k : ℕ) → in_slots f (take n (ss ++ rr)) k ≤ in_slots f (take n ss) k + in_slots f rr k
take-append f zero ss rr k = omega arith
take-append f (suc n) [] rr k = let h = in_slots-take f (suc n) rr k in omega arith
take-append f (suc n) (s ∷ ss) rr k = let h = take-append f n ss rr k in omega arith

take_split : (f : ℕ → Bool) (since more : ℕ) (ss : List Slot) (k : ℕ) → in_slots f (take since ss) k + in_slots f (take more (drop since ss)) k ≡ in_slots f (take (since + more) ss) k
take_split f zero more ss k = let z : more ≡ 0 + more = omega arith in let e = ap (λ (n : ℕ). in_slots f (take n ss) k) z in omega arith
take_split f (suc since) more [] k = let e = none (suc since + more) in let z = none more in omega arith
  where
    none : (n : ℕ) → in_slots f (take n []) k ≡ 0
    none zero = refl
    none (suc n) = refl
take_split f (suc since) more (s ∷ ss) k =
    let h = take_split f since more ss k in
    let z : suc (since + more) ≡ suc since + more = omega arith in
    let e = ap (λ (n : ℕ). in_slots f (take n (s ∷ ss)) k) z in
    omega arith

pub in_slots-resized : (f : ℕ → Bool) (w t size since : ℕ) (ss : List Slot) (k : ℕ) → since ≤ size → in_slots f (resized_slots w t size since ss) k ≤ in_slots f (take size ss) k
in_slots-resized f w t size since ss k le =
    let blanks = replicate (size - length ss) (blank_slot w t) in
    let a = in_slots-append f (take since ss) (map (stamped t) (take (size - since) (drop since ss ++ replicate (size - length ss) (blank_slot w t)))) k in
    let b = in_slots-stamped f t (take (size - since) (drop since ss ++ replicate (size - length ss) (blank_slot w t))) k in
    let c = take-append f (size - since) (drop since ss) (replicate (size - length ss) (blank_slot w t)) k in
    let d = in_slots-blank f w t (size - length ss) k in
    let e = take_split f since (size - since) ss k in
    let z : since + (size - since) ≡ size = omega arith in
    let g = ap (λ (n : ℕ). in_slots f (take n ss) k) z in
    omega arith

-- ---- stamps

pub since-append : (t : ℕ) (ss rr : List Slot) → AllSince t ss → AllSince t rr → AllSince t (ss ++ rr)
since-append t [] rr h k = k
since-append t (s ∷ ss) rr h k = (h.0, since-append t ss rr h.1 k)

pub since-take : (t m n : ℕ) (ss : List Slot) → t ≤ m → AllSince t ss → AllSince m (take n ss)
since-take t m zero ss le h = tt
since-take t m (suc n) [] le h = tt
since-take t m (suc n) (s ∷ ss) le h = let a = h.0 in (omega arith, since-take t m n ss le h.1)

since-stamped : (t : ℕ) (ss : List Slot) → AllSince t (map (stamped t) ss)
since-stamped t [] = tt
since-stamped t (s ∷ ss) = (omega arith, since-stamped t ss)

pub since-resized : (t m w size since : ℕ) (ss : List Slot) → t ≤ m → AllSince t ss → AllSince m (resized_slots w m size since ss)
since-resized t m w size since ss le h =
    since-append m (take since ss) (map (stamped m) (take (size - since) (drop since ss ++ replicate (size - length ss) (blank_slot w m))))
    (since-take t m since ss le h) (since-stamped m (take (size - since) (drop since ss ++ replicate (size - length ss) (blank_slot w m))))

-- ---- an object is resized

module _ (kind : Kinds) (hand : ℕ → ℕ) (c : Content) (n size since : ℕ) (o : Object) (forest : IsForest kind hand c) (there : at c.objects n ≡ Some o) (le : since ≤ size) where
  abbrev new : Object
  new = resized (c.clock + 1) size since o

  pub resized_owns : (g : ℕ → Bool) (k : ℕ) → owns kind g (resized (c.clock + 1) size since o) k ≤ owns kind g o k
  resized_owns g k =
      let a = in_slots-resized (λ u. is_owner (kind.word o.ty u) && g u) o.width (c.clock + 1) size since o.slots k le in
      let b = in_slots-take (λ u. is_owner (kind.word o.ty u) && g u) size o.slots k in
      omega arith

  pub resize_forest : IsForest kind hand (with_resize n size since o c)
  resize_forest =
      let was = fits_there kind hand c n o forest there in
      forest_with kind hand hand (ticked c) n o new (forest_ticked kind hand c forest) there refl
      (record {
        lower = λ m q own below. let l = resized_owns every m in was.lower m q (omega arith) below;
        slots = since-resized c.clock (c.clock + 1) o.width size since o.slots (omega arith) was.slots;
        end = omega arith;
      })
      (λ k. let l = resized_owns every k in omega arith)

  pub resize_touches : (t : Foot) → Beneath kind c t n → Touches kind t c (with_resize n size since o c)
  resize_touches t low =
      touches_then kind hand c forest t t t (ticked c) (with_resize n size since o c) (touches_ticked kind t c)
      (touches_with kind t (ticked c) n o new there (inl (on_ticked n low)) (λ g k lt own. let l = resized_owns g k in inr (omega arith)))
      (within_self kind c t) (within_self kind c t)
    where
      on_ticked : (k : ℕ) → Beneath kind c t k → Beneath kind (ticked c) t k
      on_ticked k (whole _ e) = whole k e
      on_ticked k (part m _ own) = part m k own
      on_ticked k (under m _ h own) = under m k (on_ticked m h) own
