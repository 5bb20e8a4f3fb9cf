-- A store goes the way of the meaning where the slots of an object are taken where they are: the forest stays.
use Rattle.std.proofs.Common.{◌≡◌, ℕ, zero, suc, ◌+◌, ◌-◌, ◌*◌, ◌<◌, ◌≤◌, true, List, [], ◌∷◌, length, Some, refl, sym, ap, ◌∙◌, arith, suc-mul}
use Rattle.std.specs.Prelude.{slice_get}
use Rattle.life_types.specs.declared.ty.TyId.{TyId}
use Rattle.life_store.specs.Cells.{at}
use Rattle.life_store.specs.Content.{Object, Content}
use Rattle.life_store.specs.Kinds.{is_owner}
use Rattle.life_forest.specs.Forest.{IsForest}
use Rattle.life_forest.specs.Kinds.{Kinds}
use Rattle.life_forest.specs.Values.{AllWide}
use Rattle.life_values.specs.Regrown.{slots_taken}
use Rattle.life_values.specs.Taken.{leaf_taken, leaves_taken}
use Rattle.life_values.specs.declared.layout.Holds.{Holds}
use Rattle.life_values.specs.declared.layout.Holds.TheVariants as holds
use Rattle.life_values.specs.declared.layout.Leaf.{Leaf}
use Rattle.life_values.proofs.Renewed.{like_then, renewed_then}
use Rattle.life_values.proofs.Zeroing.{IsLike}

module _ (kind : Kinds) (n : ℕ) (hand : ℕ → ℕ) where
  -- the object is as it was but for some words, the forest is one, and so many objects have other numbers
  pub record IsTaken (o : Object) (many : ℕ) (m d : Content) : Type 0 where
    pub object : Object
    pub found : at d.objects n ≡ Some object
    pub like : IsLike object o
    pub long : AllWide object.width object.slots
    pub still : IsForest kind hand d
    pub births : d.births ≤ m.births + many
    pub clock : d.clock ≡ m.clock

  taken_self : (o : Object) (m : Content) → at m.objects n ≡ Some o → IsForest kind hand m → AllWide o.width o.slots → IsTaken o 0 m m
  taken_self o m there forest wide = record {
    object = o;
    found = there;
    like = record { ty = refl; width = refl; capacity = refl; count = refl };
    long = wide;
    still = forest;
    births = omega arith;
    clock = refl;
  }

  taken_then : (o : Object) (a b : ℕ) (m d e : Content) → (x : IsTaken o a m d) → IsTaken x.object b d e → IsTaken o (a + b) m e
  taken_then o a b m d e x y = record {
    object = y.object;
    found = y.found;
    like = like_then y.like x.like;
    long = y.long;
    still = y.still;
    births = let p = x.births in let q = y.births in omega (arith, p, q);
    clock = y.clock ∙ x.clock;
  }

  taken_more : (o : Object) (a b : ℕ) (m d : Content) → a ≤ b → IsTaken o a m d → IsTaken o b m d
  taken_more o a b m d le x = record {
    object = x.object;
    found = x.found;
    like = x.like;
    long = x.long;
    still = x.still;
    births = let p = x.births in omega (arith, p, le);
    clock = x.clock;
  }

  -- the characters' words of a value own, and lie within it
  abbrev pub AreOwned : TyId → (word width : ℕ) → List Leaf → Type 0
  AreOwned ty w width ls = (j : ℕ) (l : Leaf) (id : TyId) → slice_get ls j ≡ Some l → l.holds ≡ holds.Characters id → (is_owner (kind.word ty (w + l.word)) ≡ true) × (w + l.word < width)

  leaf_still : (i w : ℕ) (h : Holds) (m : Content) (o : Object) → at m.objects n ≡ Some o → IsForest kind hand m → AllWide o.width o.slots → i < length o.slots
      → ((id : TyId) → h ≡ holds.Characters id → (is_owner (kind.word o.ty w) ≡ true) × (w < o.width)) → IsTaken o 1 m (leaf_taken n i w h m)
  leaf_still i w holds.Raw m o there forest wide slot own = taken_more o 0 1 m m (omega arith) (taken_self o m there forest wide)
  leaf_still i w holds.View m o there forest wide slot own = taken_more o 0 1 m m (omega arith) (taken_self o m there forest wide)
  leaf_still i w (holds.Characters id) m o there forest wide slot own =
      let q = own id refl in
      let s = renewed_then kind n i w hand m o there forest wide slot q.1 q.0 in
      record {
        object = s.object;
        found = s.found;
        like = s.like;
        long = s.long;
        still = s.still;
        births = s.births;
        clock = s.clock;
      }
  leaf_still i w (holds.Elements id) m o there forest wide slot own = taken_more o 0 1 m m (omega arith) (taken_self o m there forest wide)
  leaf_still i w (holds.Target id) m o there forest wide slot own = taken_more o 0 1 m m (omega arith) (taken_self o m there forest wide)

  pub leaves_still : (i w : ℕ) (ls : List Leaf) (m : Content) (o : Object) → at m.objects n ≡ Some o → IsForest kind hand m → AllWide o.width o.slots → i < length o.slots → AreOwned o.ty w o.width ls
      → IsTaken o (length ls) m (leaves_taken n i w ls m)
  leaves_still i w [] m o there forest wide slot own = taken_self o m there forest wide
  leaves_still i w (l ∷ ls) m o there forest wide slot own =
      let a = leaf_still i (w + l.word) l.holds m o there forest wide slot (λ id e. own 0 l id refl e) in
      taken_more o (1 + length ls) (suc (length ls)) m (leaves_taken n i w (l ∷ ls) m) (omega arith)
      (taken_then o 1 (length ls) m (leaf_taken n i (w + l.word) l.holds m) (leaves_taken n i w (l ∷ ls) m) a
      (leaves_still i w ls (leaf_taken n i (w + l.word) l.holds m) a.object a.found a.still a.long (let c = a.like.count in omega (arith, c, slot))
      (λ j x id at_j e.
      let q = own (suc j) x id at_j e in
      let lt = q.1 in
      let same = a.like.width in
      (ap (λ ty. is_owner (kind.word ty (w + x.word))) a.like.ty ∙ q.0, omega (arith, lt, same)))))

  -- ---- one slot after the other

  module _ (ls : List Leaf) where
    pub slots_still : (k i : ℕ) (m : Content) (o : Object) → at m.objects n ≡ Some o → IsForest kind hand m → AllWide o.width o.slots → i + k ≤ length o.slots → AreOwned o.ty 0 o.width ls
        → IsTaken o (k * length ls) m (slots_taken ls n i k m)
    slots_still zero i m o there forest wide le own = taken_more o 0 (0 * length ls) m m (omega arith) (taken_self o m there forest wide)
    slots_still (suc k) i m o there forest wide le own =
        let a = leaves_still i 0 ls m o there forest wide (omega (arith, le)) own in
        let s = suc-mul k (length ls) in
        taken_more o (length ls + k * length ls) (suc k * length ls) m (slots_taken ls n i (suc k) m) (omega (arith, s))
        (taken_then o (length ls) (k * length ls) m (leaves_taken n i 0 ls m) (slots_taken ls n i (suc k) m) a
        (slots_still k (i + 1) (leaves_taken n i 0 ls m) a.object a.found a.still a.long (let c = a.like.count in omega (arith, c, le))
        (λ j l id at_j e. let q = own j l id at_j e in let b = q.1 in let same = a.like.width in (ap (λ ty. is_owner (kind.word ty (0 + l.word))) a.like.ty ∙ q.0, omega (arith, b, same)))))

    -- how far the store has come, from a slot on
    pub record Taking (i : ℕ) (o : Object) (m d : Content) (k count : ℕ) : Type 0 where
      pub taken : IsTaken o (k * length ls) m d
      pub is : slots_taken ls n (i + k) (count - k) d ≡ slots_taken ls n i count m

    pub taking_begin : (i : ℕ) (o : Object) (m : Content) (count : ℕ) → at m.objects n ≡ Some o → IsForest kind hand m → AllWide o.width o.slots → Taking i o m m 0 count
    taking_begin i o m count there forest wide = record {
      taken = taken_more o 0 (0 * length ls) m m (omega arith) (taken_self o m there forest wide);
      is = let z : count - 0 ≡ count = omega arith in let a : i + 0 ≡ i = omega arith in (λ j. slots_taken ls n (a j) (z j) m);
    }

    pub taking_end : (i : ℕ) (o : Object) (m d : Content) (k count : ℕ) → Taking i o m d k count → count ≤ k → d ≡ slots_taken ls n i count m
    taking_end i o m d k count t all = let z : 0 ≡ count - k = omega (arith, all) in ap (λ x. slots_taken ls n (i + k) x d) z ∙ t.is

    pub taking_next : (i : ℕ) (o : Object) (m d : Content) (k count : ℕ) → Taking i o m d k count → k < count → i + count ≤ length o.slots → AreOwned o.ty 0 o.width ls → Taking i o m (leaves_taken n (i + k) 0 ls d) (k + 1) count
    taking_next i o m d k count t lt le own =
        let x = t.taken in
        let c = x.like.count in
        let a = leaves_still (i + k) 0 ls d x.object x.found x.still x.long (omega (arith, c, lt, le))
        (λ j l id at_j e. let q = own j l id at_j e in let b = q.1 in let same = x.like.width in (ap (λ ty. is_owner (kind.word ty (0 + l.word))) x.like.ty ∙ q.0, omega (arith, b, same))) in
        let s : k + 1 ≡ suc k = omega arith in
        let z : count - k ≡ suc (count - (k + 1)) = omega (arith, lt) in
        let f : i + (k + 1) ≡ i + k + 1 = omega arith in
        record {
          taken = taken_more o (k * length ls + length ls) ((k + 1) * length ls) m (leaves_taken n (i + k) 0 ls d)
              (let e = ap (λ j. j * length ls) s ∙ suc-mul k (length ls) in omega (arith, e))
              (taken_then o (k * length ls) (length ls) m d (leaves_taken n (i + k) 0 ls d) x a);
          is = ap (λ j. slots_taken ls n j (count - (k + 1)) (leaves_taken n (i + k) 0 ls d)) f ∙ ap (λ x. slots_taken ls n (i + k) x d) (sym z) ∙ t.is;
        }
