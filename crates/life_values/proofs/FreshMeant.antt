-- What is written word by word where the words are 0 is the fresh value of the meaning.
use Rattle.std.proofs.Common.{◌≡◌, ℕ, ◌+◌, ◌*◌, ◌<◌, Bool, true, false, cond, List, [], ◌∷◌, ◌++◌, length, Option, Some, refl, sym, ap, ◌∙◌, arith, length-append}
use Rattle.std.specs.Prelude.{nat_lt, replicate}
use Rattle.life_types.specs.Types.{Types}
use Rattle.life_types.specs.declared.ty.TyId.{TyId}
use Rattle.life_core.specs.declared.instr.Form.{Form}
use Rattle.life_core.specs.declared.instr.Form.TheVariants as form
use Rattle.life_store.specs.Cells.{Cells, at, set, at-set_other}
use Rattle.life_store.specs.Content.{Object, Content, cost, live_words_of, newborn, with_birth, with_object, with_word}
use Rattle.life_store.specs.Effects.{Setting, Attempt, Got, GotTrap, GotFault, GotLost, then_get}
use Rattle.life_store.specs.Held.{owner_word, pointer_words, with_words, wrote, wrote_if}
use Rattle.life_store.specs.Owners.{Words, birth, born_pointer, fresh, owning}
use Rattle.life_store.specs.Parts.{Parts, Single, Raw, Iterates, Views, Text, Vector, Unique, Member, NoMember, parts_at, width}
use Rattle.life_store.specs.declared.run.TrapKind.TheVariants as trap
use Rattle.life_store.proofs.MapLemmas.{set-unset, set_apart, set_back, sum-set}
use Rattle.life_forest.specs.Kinds.{kinds_of}
use Rattle.life_forest.specs.Values.{Named}
use Rattle.life_forest.proofs.Coming.{IfGot, got_then, if_room}
use Rattle.life_seen.proofs.PointerWords.{with_words_is}
use Rattle.life_values.specs.Fresh.{leaf_wrote, leaves_wrote, raw_word}
use Rattle.life_values.specs.Layouts.{flat}
use Rattle.life_values.specs.declared.layout.Leaf.{Leaf}
use Rattle.life_values.proofs.Beginning.{by_word}
use Rattle.life_values.proofs.Zeros.{AreZero, with_zeros, wrote_with, zero_behind, words-append, words_other}

-- ---- attempts

pub then_then : {A B C : Type 0} (x : Attempt A) (f : A → Attempt B) (g : B → Attempt C) → then_get (then_get x f) g ≡ then_get x (λ a. then_get (f a) g)
then_then (Got a) f g = refl
then_then (GotTrap kind) f g = refl
then_then (GotFault kind) f g = refl
then_then GotLost f g = refl

pub then_same : {A B : Type 0} (x : Attempt A) (P : A → Type 0) (f g : A → Attempt B) → IfGot x P → ((a : A) → P a → f a ≡ g a) → then_get x f ≡ then_get x g
then_same (Got a) P f g h same = same a h
then_same (GotTrap kind) P f g h same = refl
then_same (GotFault kind) P f g h same = refl
then_same GotLost P f g h same = refl

always : {A : Type 0} (x : Attempt A) → IfGot x (λ a. Unit {0})
always (Got a) = tt
always (GotTrap kind) = tt
always (GotFault kind) = tt
always GotLost = tt

cond_then : {A B : Type 0} (b : Bool) (x y : Attempt A) (f : A → Attempt B) → then_get (cond b x y) f ≡ cond b (then_get x f) (then_get y f)
cond_then true x y f = refl
cond_then false x y f = refl

module _ (s : Setting) (types : Types) (f : Form) (n i : ℕ) (old : Object) where
  -- ---- a birth beside the object

  -- the object is there
  pub record Sits (d : Content) : Type 0 where
    pub born : n < d.births
    pub there : at d.objects n ≡ Some old

  -- it is as large as before
  pub record IsLike (o : Object) : Type 0 where
    pub width : o.width ≡ old.width
    pub capacity : o.capacity ≡ old.capacity

  live_same : (o : Object) (d : Content) → Sits d → IsLike o → live_words_of (with_object n o d) ≡ live_words_of d
  live_same o d sits like =
      let e = sum-set cost d.objects n old o sits.there in
      let c : cost o ≡ cost old = (λ j. 2 + like.width j * like.capacity j) in
      omega (arith, e, c)

  birth_beside : (ty : TyId) (w capacity : ℕ) (o : Object) (d : Content) → Sits d → IsLike o
      → birth s ty w capacity (with_object n o d) ≡ then_get (birth s ty w capacity d) (λ b. Got (b.0, with_object n o b.1))
  birth_beside ty w capacity o d sits like =
      let apart : set (set d.objects n o) d.births (newborn ty w capacity d.clock) ≡ set (set d.objects d.births (newborn ty w capacity d.clock)) n o =
      set_apart d.objects n d.births o (newborn ty w capacity d.clock) (λ e. let l = sits.born in absurd (omega (arith, e, l))) in
      (λ j. cond (nat_lt s.given.cells (live_same o d sits like j + (2 + w * capacity))) (GotTrap trap.Cells) (Got (d.births, record { objects = apart j; births = d.births + 1; clock = d.clock })))
      ∙ sym (cond_then (nat_lt s.given.cells (live_words_of d + (2 + w * capacity))) (GotTrap trap.Cells) (Got (d.births, with_birth ty w capacity d)) (λ b. Got (b.0, with_object n o b.1)))

  -- ---- what comes to life leaves the object

  pub record IsFresh (p : Parts) (x : Words) : Type 0 where
    pub wide : length x.0 ≡ width p
    pub sits : Sits x.1

  birth_sits : (ty : TyId) (w capacity : ℕ) (d : Content) → Sits d → IfGot (birth s ty w capacity d) (λ b. Sits b.1)
  birth_sits ty w capacity d sits =
      if_room (nat_lt s.given.cells (live_words_of d + (2 + w * capacity))) trap.Cells (d.births, with_birth ty w capacity d) (λ b. Sits b.1)
      (record {
        born = let l = sits.born in omega (arith, l);
        there = at-set_other d.objects d.births n (newborn ty w capacity d.clock) (λ e. let l = sits.born in absurd (omega (arith, e, l))) ∙ sits.there;
      })

  wide_pointer : (g : Form) → length (pointer_words (born_pointer g)) ≡ 5
  wide_pointer form.Plain = refl
  wide_pointer form.Zero = refl

  pub fresh_sits : (p : Parts) (d : Content) → Sits d → IfGot (fresh s f p d) (IsFresh p)
  fresh_sits Single d sits = record { wide = refl; sits = sits }
  fresh_sits Raw d sits = record { wide = wide_pointer f; sits = sits }
  fresh_sits Iterates d sits = record { wide = refl; sits = sits }
  fresh_sits Views d sits = record { wide = refl; sits = sits }
  fresh_sits (Text ty) d sits = got_then (birth s ty 1 0 d) (λ b. Got (owning b)) (λ b. Sits b.1) (IsFresh (Text ty)) (birth_sits ty 1 0 d sits) (λ b h. record { wide = refl; sits = h })
  fresh_sits (Vector ty element) d sits =
      got_then (birth s ty (width element) 0 d) (λ b. Got (owning b)) (λ b. Sits b.1) (IsFresh (Vector ty element)) (birth_sits ty (width element) 0 d sits) (λ b h. record { wide = refl; sits = h })
  fresh_sits (Unique ty target) d sits = record { wide = refl; sits = sits }
  fresh_sits (Member first others) d sits =
      got_then (fresh s f first d) (λ a. then_get (fresh s f others a.1) (λ b. Got (a.0 ++ b.0, b.1))) (IsFresh first) (IsFresh (Member first others)) (fresh_sits first d sits)
      (λ a h. got_then (fresh s f others a.1) (λ b. Got (a.0 ++ b.0, b.1)) (IsFresh others) (IsFresh (Member first others)) (fresh_sits others a.1 h.sits)
      (λ b g. record { wide = let e = length-append a.0 b.0 in let x = h.wide in let y = g.wide in omega (arith, e, x, y); sits = g.sits }))
  fresh_sits NoMember d sits = record { wide = refl; sits = sits }

  -- ---- part by part

  leaves-append : (w : ℕ) (xs ys : List Leaf) (c : Content) → leaves_wrote s types f n i w (xs ++ ys) c ≡ then_get (leaves_wrote s types f n i w xs c) (leaves_wrote s types f n i w ys)
  leaves-append w [] ys c = refl
  leaves-append w (x ∷ xs) ys c =
      then_same (leaf_wrote s types f n i (w + x.word) x.holds c) (λ d. Unit {0}) (leaves_wrote s types f n i w (xs ++ ys)) (λ d. then_get (leaves_wrote s types f n i w xs d) (leaves_wrote s types f n i w ys))
      (always (leaf_wrote s types f n i (w + x.word) x.holds c)) (λ d h. leaves-append w xs ys d)
      ∙ sym (then_then (leaf_wrote s types f n i (w + x.word) x.holds c) (leaves_wrote s types f n i w xs) (leaves_wrote s types f n i w ys))

  -- the object with the words of what came to life
  abbrev pub with_fresh : (word : ℕ) → Object → Words → Attempt Content
  with_fresh w o x = Got (with_object n (with_words i w x.0 o) x.1)

  abbrev beside : Object → ℕ × Content → Attempt (ℕ × Content)
  beside o b = Got (b.0, with_object n o b.1)

  abbrev as_owned : ℕ × Content → Attempt Words
  as_owned b = Got (owning b)

  abbrev wrote_first : (word : ℕ) → ℕ × Content → Attempt Content
  wrote_first w v = Got (wrote n i w (v.0 ∷ []) v.1)

  abbrev as_it_is : Content → Attempt Content
  as_it_is c = Got c

  -- an owner's word
  owner_wrote : (ty : TyId) (k w : ℕ) (o : Object) (d : Content) → Sits d → IsLike o
      → then_get (then_get (then_get (birth s ty k 0 (with_object n o d)) by_word) (wrote_first w)) as_it_is ≡ then_get (then_get (birth s ty k 0 d) as_owned) (with_fresh w o)
  owner_wrote ty k w o d sits like =
      ap (λ (x : Attempt (ℕ × Content)). then_get (then_get (then_get x by_word) (wrote_first w)) as_it_is) (birth_beside ty k 0 o d sits like)
      ∙ each (birth s ty k 0 d)
    where
      each : (x : Attempt (ℕ × Content)) → then_get (then_get (then_get (then_get x (beside o)) by_word) (wrote_first w)) as_it_is ≡ then_get (then_get x as_owned) (with_fresh w o)
      each (Got b) = ap (λ (y : Content). Got y) (wrote_with n i w (owner_word (Some b.0) ∷ []) o b.1)
      each (GotTrap kind) = refl
      each (GotFault kind) = refl
      each GotLost = refl

  -- the first word of a pointer
  pointer_wrote : (v w : ℕ) (ws : List ℕ) (o : Object) (d : Content) → ws ≡ v ∷ replicate 4 0 → AreZero i w 5 o → Got (wrote n i w (v ∷ []) (with_object n o d)) ≡ with_fresh w o (ws, d)
  pointer_wrote v w ws o d is z =
      ap (λ (y : Content). Got y)
      (wrote_with n i w (v ∷ []) o d
      ∙ ap (λ (x : Object). with_object n x d) (sym (with_zeros i (w + 1) 4 (with_word i w v o) (zero_behind i w v 4 o z)))
      ∙ ap (λ vs. with_object n (with_words i w vs o) d) (sym is))

  raw_words : (g : Form) → pointer_words (born_pointer g) ≡ raw_word g ∷ replicate 4 0
  raw_words form.Plain = refl
  raw_words form.Zero = refl

  like_behind : (w : ℕ) (vs : List ℕ) (o : Object) → IsLike o → IsLike (with_words i w vs o)
  like_behind w vs o like = record {
    width = ap (λ (x : Object). x.width) (with_words_is i w vs o) ∙ like.width;
    capacity = ap (λ (x : Object). x.capacity) (with_words_is i w vs o) ∙ like.capacity;
  }

  pub fresh_meant : (p : Parts) (w v : ℕ) (o : Object) (d : Content) → Named (kinds_of types) p → Sits d → IsLike o → AreZero i (w + v) (width p) o
      → leaves_wrote s types f n i w (flat v p) (with_object n o d) ≡ then_get (fresh s f p d) (with_fresh (w + v) o)
  fresh_meant Single w v o d named sits like z = ap (λ (x : Object). Got (with_object n x d)) (sym (with_zeros i (w + v) 1 o z))
  fresh_meant Raw w v o d named sits like z = pointer_wrote (raw_word f) (w + v) (pointer_words (born_pointer f)) o d (raw_words f) z
  fresh_meant Iterates w v o d named sits like z = ap (λ (x : Object). Got (with_object n x d)) (sym (with_zeros i (w + v) 5 o z))
  fresh_meant Views w v o d named sits like z = pointer_wrote 2 (w + v) (2 ∷ 0 ∷ 0 ∷ 0 ∷ 0 ∷ []) o d refl z
  fresh_meant (Text ty) w v o d named sits like z = owner_wrote ty 1 (w + v) o d sits like
  fresh_meant (Vector ty element) w v o d named sits like z =
      owner_wrote ty (width (parts_at types ty)) (w + v) o d sits like
      ∙ ap (λ k. then_get (then_get (birth s ty k 0 d) as_owned) (with_fresh (w + v) o)) named.0.0
  fresh_meant (Unique ty target) w v o d named sits like z = ap (λ (y : Content). Got y) (wrote_with n i (w + v) (0 ∷ []) o d)
  fresh_meant (Member first others) w v o d named sits like z =
      leaves-append w (flat v first) (flat (v + width first) others) (with_object n o d)
      ∙ ap (λ (x : Attempt Content). then_get x (leaves_wrote s types f n i w (flat (v + width first) others)))
      (fresh_meant first w v o d named.0 sits like (λ u le lt. z u le (omega (arith, lt))))
      ∙ then_then (fresh s f first d) (with_fresh (w + v) o) (leaves_wrote s types f n i w (flat (v + width first) others))
      ∙ then_same (fresh s f first d) (IsFresh first) (λ a. leaves_wrote s types f n i w (flat (v + width first) others) (with_object n (with_words i (w + v) a.0 o) a.1))
      (λ a. then_get (then_get (fresh s f others a.1) (λ b. Got (a.0 ++ b.0, b.1))) (with_fresh (w + v) o)) (fresh_sits first d sits)
      (λ a h. behind a h (fresh_meant others w (v + width first) (with_words i (w + v) a.0 o) a.1 named.1 h.sits (like_behind (w + v) a.0 o like)
      (λ u le lt. let x = h.wide in words_other i (w + v) a.0 o u (omega (arith, le, x)) ∙ z u (omega (arith, le)) (omega (arith, lt)))))
      ∙ sym (then_then (fresh s f first d) (λ a. then_get (fresh s f others a.1) (λ b. Got (a.0 ++ b.0, b.1))) (with_fresh (w + v) o))
    where
      behind : (a : Words) → IsFresh first a
          → leaves_wrote s types f n i w (flat (v + width first) others) (with_object n (with_words i (w + v) a.0 o) a.1) ≡ then_get (fresh s f others a.1) (with_fresh (w + (v + width first)) (with_words i (w + v) a.0 o))
          → leaves_wrote s types f n i w (flat (v + width first) others) (with_object n (with_words i (w + v) a.0 o) a.1) ≡ then_get (then_get (fresh s f others a.1) (λ b. Got (a.0 ++ b.0, b.1))) (with_fresh (w + v) o)
      behind a h e =
          let k : w + (v + width first) ≡ w + v + length a.0 = (let x = h.wide in omega (arith, x)) in
          e
          ∙ then_same (fresh s f others a.1) (λ b. Unit {0}) (with_fresh (w + (v + width first)) (with_words i (w + v) a.0 o)) (λ b. with_fresh (w + v) o (a.0 ++ b.0, b.1)) (always (fresh s f others a.1))
          (λ b g. ap (λ (x : Object). Got (with_object n x b.1)) (ap (λ j. with_words i j b.0 (with_words i (w + v) a.0 o)) k ∙ sym (words-append i (w + v) a.0 b.0 o)))
          ∙ sym (then_then (fresh s f others a.1) (λ b. Got (a.0 ++ b.0, b.1)) (with_fresh (w + v) o))
  fresh_meant NoMember w v o d named sits like z = refl

-- ---- into a slot of an object that is there

pub fresh_in_slot : (s : Setting) (types : Types) (f : Form) (n i w : ℕ) (p : Parts) (m : Content) (o : Object) → at m.objects n ≡ Some o → n < m.births → Named (kinds_of types) p → AreZero i w (width p) o
    → leaves_wrote s types f n i w (flat 0 p) m ≡ then_get (fresh s f p m) (λ v. Got (wrote n i w v.0 v.1))
fresh_in_slot s types f n i w p m o there born named z =
    let sits : Sits s types f n i o m = record { born = born; there = there } in
    let same : m ≡ with_object n o m = ap (λ (x : Cells Object). record { objects = x; births = m.births; clock = m.clock }) (sym (sym (set-unset m.objects n o) ∙ set_back m.objects n o there)) in
    let e : w ≡ w + 0 = omega arith in
    ap (leaves_wrote s types f n i w (flat 0 p)) same
    ∙ fresh_meant s types f n i o p w 0 o m named sits (record { width = refl; capacity = refl }) (λ u le lt. z u (omega (arith, le)) (omega (arith, lt)))
    ∙ then_same (fresh s f p m) (IsFresh s types f n i o p) (with_fresh s types f n i o (w + 0) o) (λ v. Got (wrote n i w v.0 v.1)) (fresh_sits s types f n i o p m sits)
    (λ a h. ap (λ (y : Content). Got y)
    (ap (λ k. with_object n (with_words i k a.0 o) a.1) (sym e)
    ∙ ap (λ (x : Option Object). wrote_if x n i w a.0 a.1) (sym h.sits.there)))
