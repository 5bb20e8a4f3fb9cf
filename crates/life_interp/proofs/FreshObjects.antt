-- A new object of a type comes to life with a fresh value.
use Rattle.std.proofs.Common.{◌≡◌, ℕ, zero, suc, ◌+◌, ◌*◌, ◌^◌, ◌<◌, ◌≤◌, Bool, true, false, List, [], ◌∷◌, length, Option, Some, None, refl, sym, ap, subst, ◌∙◌, arith}
use Rattle.std.proofs.lemmas.Bool.{le-ltb, lt-ltb}
use Rattle.std.proofs.lemmas.List.{length-append}
use Rattle.std.proofs.lemmas.Option.{none-some, same_Some}
use Rattle.std.specs.Prelude.{cond, nat_lt, replicate, slice_get, slice_index}
use Rattle.life_types.specs.Trees.{IsOrdered}
use Rattle.life_types.specs.Types.{Types}
use Rattle.life_types.specs.declared.ty.TyId.{TyId}
use Rattle.life_core.specs.declared.instr.Form.{Form}
use Rattle.life_store.specs.Cells.{at, at-set_same}
use Rattle.life_store.specs.Content.{Object, Content, live_words_of, newborn, resized, with_birth}
use Rattle.life_store.specs.Effects.{Setting, Attempt, Got, GotTrap, GotFault, GotLost, then_get}
use Rattle.life_store.specs.Held.{resized_at, resized_if, wrote, wrote_if}
use Rattle.life_store.specs.Kinds.{kind_in}
use Rattle.life_store.specs.Owners.{Words, fresh, object_with}
use Rattle.life_store.specs.Parts.{Parts, Single, Raw, Iterates, Views, Text, Vector, Unique, Member, NoMember, parts_at, width}
use Rattle.life_store.specs.References.{Rows}
use Rattle.life_store.specs.declared.object.ObjRef.{ObjRef}
use Rattle.life_store.specs.declared.run.TrapKind.{TrapKind}
use Rattle.life_store.specs.declared.run.TrapKind.TheVariants as trap
use Rattle.life_forest.proofs.Coming.{IfGot, got_then}
use Rattle.life_forest.proofs.Laying.{named_at}
use Rattle.life_seen.specs.Housed.{IsHoused, IsRef, Later, Shows}
use Rattle.life_seen.specs.Kinds.{kinds_of}
use Rattle.life_seen.specs.Named.{names_of}
use Rattle.life_seen.specs.Seen.{seen}
use Rattle.life_seen.proofs.LiveWords.{live_words_seen}
use Rattle.life_seen.proofs.WholePointers.{row_front, row_back}
use Rattle.life_values.specs.Fresh.{kind_of, leaf_born, leaf_wrote, leaves_wrote, AreBlank, CanFill}
use Rattle.life_values.specs.Layouts.{flat, leaf, AreLaid, IsLaid}
use Rattle.life_values.specs.declared.layout.Holds.{Holds}
use Rattle.life_values.specs.declared.layout.Holds.TheVariants as holds
use Rattle.life_values.specs.declared.layout.Layout.{Layout}
use Rattle.life_values.specs.declared.layout.Leaf.{Leaf}
use Rattle.life_values.proofs.Flat.{in_either}
use Rattle.life_values.proofs.FreshMeant.{fresh_in_slot}
use Rattle.life_values.proofs.LeafOwners.{leaf_within}
use Rattle.life_values.proofs.Zeros.{AreZero}

-- ---- what begins at the word of a leaf

pub record IsLeafOf (p : Parts) (w : ℕ) (l : Leaf) : Type 0 where
  pub word : ℕ
  pub is : l.word ≡ w + word
  pub kind : kind_in p word ≡ kind_of l.holds
  pub within : word < width p

only_leaf : (p : Parts) (w : ℕ) (h : Holds) (j : ℕ) (l : Leaf) → slice_get (leaf w h ∷ []) j ≡ Some l → kind_in p 0 ≡ kind_of h → 0 < width p → IsLeafOf p w l
only_leaf p w h zero l e kind wide =
    let same = same_Some (leaf w h) l e in
    record { word = 0; is = let s = ap (λ (x : Leaf). x.word) same in omega (arith, s); kind = kind ∙ ap (λ (x : Leaf). kind_of x.holds) same; within = wide }
only_leaf p w h (suc j) l e kind wide = absurd (none-some l e)

pub leaf_of : (p : Parts) (w j : ℕ) (l : Leaf) → slice_get (flat w p) j ≡ Some l → IsLeafOf p w l
leaf_of Single w j l e = absurd (none-some l e)
leaf_of Raw w j l e = only_leaf Raw w holds.Raw j l e refl (omega arith)
leaf_of Iterates w j l e = absurd (none-some l e)
leaf_of Views w j l e = only_leaf Views w holds.View j l e refl (omega arith)
leaf_of (Text ty) w j l e = only_leaf (Text ty) w (holds.Characters ty) j l e refl (omega arith)
leaf_of (Vector ty element) w j l e = only_leaf (Vector ty element) w (holds.Elements ty) j l e refl (omega arith)
leaf_of (Unique ty target) w j l e = only_leaf (Unique ty target) w (holds.Target ty) j l e refl (omega arith)
leaf_of (Member first others) w j l e =
    in_either (flat w first) (flat (w + width first) others) j l e
    (λ f. let r = leaf_of first w j l f in record {
      word = r.word;
      is = r.is;
      kind = row_front (width first) (kind_in first) (kind_in others) r.word r.within ∙ r.kind;
      within = let lt = r.within in omega (arith, lt);
    })
    (λ k f. let r = leaf_of others (w + width first) k l f in record {
      word = width first + r.word;
      is = let s = r.is in omega (arith, s);
      kind = row_back (width first) (kind_in first) (kind_in others) r.word ∙ r.kind;
      within = let lt = r.within in omega (arith, lt);
    })
leaf_of NoMember w j l e = absurd (none-some l e)

-- no more of them than words
flat_short : (p : Parts) (w : ℕ) → length (flat w p) ≤ width p
flat_short Single w = omega arith
flat_short Raw w = omega arith
flat_short Iterates w = omega arith
flat_short Views w = omega arith
flat_short (Text ty) w = omega arith
flat_short (Vector ty element) w = omega arith
flat_short (Unique ty target) w = omega arith
flat_short (Member first others) w =
    let a = length-append (flat w first) (flat (w + width first) others) in
    let i = flat_short first w in
    let k = flat_short others (w + width first) in omega (arith, a, i, k)
flat_short NoMember w = omega arith

-- ---- what is counted

-- a birth for each leaf at most
abbrev Counts : ℕ → Content → Content → Type 0
Counts n c d = (d.births ≤ c.births + n) × (d.clock ≡ c.clock)

born_counts : (b : Bool) (t : TyId) (w : ℕ) (c : Content) → IfGot (then_get {A = ℕ × Content} {B = ℕ × Content} (cond b (GotTrap trap.Cells) (Got (c.births, with_birth t w 0 c))) (λ x. Got (suc x.0, x.1))) (λ v. Counts 1 c v.1)
born_counts true t w c = tt
born_counts false t w c = (omega arith, refl)

leaf_counts : (s : Setting) (types : Types) (f : Form) (h : Holds) (c : Content) → IfGot (leaf_born s types f h c) (λ v. Counts 1 c v.1)
leaf_counts s types f holds.Raw c = (omega arith, refl)
leaf_counts s types f holds.View c = (omega arith, refl)
leaf_counts s types f (holds.Characters t) c = born_counts (nat_lt s.given.cells (live_words_of c + (2 + 1 * 0))) t 1 c
leaf_counts s types f (holds.Elements t) c = born_counts (nat_lt s.given.cells (live_words_of c + (2 + width (parts_at types t) * 0))) t (width (parts_at types t)) c
leaf_counts s types f (holds.Target t) c = (omega arith, refl)

wrote_counts : (x : Option Object) (n i w : ℕ) (vs : List ℕ) (c : Content) → Counts 0 c (wrote_if x n i w vs c)
wrote_counts None n i w vs c = (omega arith, refl)
wrote_counts (Some o) n i w vs c = (omega arith, refl)

leaves_count : (s : Setting) (types : Types) (f : Form) (n i w : ℕ) (ls : List Leaf) (c : Content) → IfGot (leaves_wrote s types f n i w ls c) (Counts (length ls) c)
leaves_count s types f n i w [] c = (omega arith, refl)
leaves_count s types f n i w (l ∷ ls) c =
    got_then (leaf_wrote s types f n i (w + l.word) l.holds c) (leaves_wrote s types f n i w ls) (Counts 1 c) (Counts (suc (length ls)) c)
    (got_then (leaf_born s types f l.holds c) (λ v. Got (wrote n i (w + l.word) (v.0 ∷ []) v.1)) (λ v. Counts 1 c v.1) (Counts 1 c) (leaf_counts s types f l.holds c)
    (λ v h. let k = wrote_counts (at v.1.objects n) n i (w + l.word) (v.0 ∷ []) v.1 in (let a = h.0 in let b = k.0 in omega (arith, a, b), k.1 ∙ h.1)))
    (λ d h. got_more d h (leaves_wrote s types f n i w ls d) (leaves_count s types f n i w ls d))
  where
    got_more : (d : Content) → Counts 1 c d → (x : Attempt Content) → IfGot x (Counts (length ls) d) → IfGot x (Counts (suc (length ls)) c)
    got_more d h (Got e) k = (let a = h.0 in let b = k.0 in omega (arith, a, b), k.1 ∙ h.1)
    got_more d h (GotTrap kind) k = tt
    got_more d h (GotFault kind) k = tt
    got_more d h GotLost k = tt

got_has : {A : Type 0} (x : Attempt A) (P : A → Type 0) (a : A) → IfGot x P → x ≡ Got a → P a
got_has x P a h e = subst (λ y. IfGot y P) e h

-- ---- with the number of the object beside it

paired : {A : Type 0} (x : Attempt A) (g : A → Content) (k : ℕ) (m : Content) → then_get x (λ v. Got (g v)) ≡ Got m → then_get {A = A} {B = ℕ × Content} x (λ v. Got (k, g v)) ≡ Got (k, m)
paired (Got v) g k m e = ap (λ d. Got (k, d)) (same e)
  where
    same : {a b : Content} → ◌≡◌ {A = Attempt Content} (Got a) (Got b) → a ≡ b
    same h = cc
paired (GotTrap kind) g k m e = absurd (clash e)
  where
    clash : ◌≡◌ {A = Attempt Content} (GotTrap kind) (Got m) → ⊥
    clash h = cc
paired (GotFault kind) g k m e = absurd (clash e)
  where
    clash : ◌≡◌ {A = Attempt Content} (GotFault kind) (Got m) → ⊥
    clash h = cc
paired GotLost g k m e = absurd (clash e)
  where
    clash : ◌≡◌ {A = Attempt Content} GotLost (Got m) → ⊥
    clash h = cc

paired_full : {A : Type 0} (x : Attempt A) (g : A → Content) (k : ℕ) → then_get x (λ v. Got (g v)) ≡ GotTrap trap.Cells → then_get {A = A} {B = ℕ × Content} x (λ v. Got (k, g v)) ≡ GotTrap trap.Cells
paired_full (Got v) g k e = absurd (clash e)
  where
    clash : ◌≡◌ {A = Attempt Content} (Got (g v)) (GotTrap trap.Cells) → ⊥
    clash h = cc
paired_full (GotTrap kind) g k e = ap GotTrap (same e)
  where
    same : {a b : TrapKind} → ◌≡◌ {A = Attempt Content} (GotTrap a) (GotTrap b) → a ≡ b
    same h = cc
paired_full (GotFault kind) g k e = absurd (clash e)
  where
    clash : ◌≡◌ {A = Attempt Content} (GotFault kind) (GotTrap trap.Cells) → ⊥
    clash h = cc
paired_full GotLost g k e = absurd (clash e)
  where
    clash : ◌≡◌ {A = Attempt Content} GotLost (GotTrap trap.Cells) → ⊥
    clash h = cc

-- ---- the object

module _ (types : Types) (ordered : IsOrdered types) (layouts : List Layout) (laid : AreLaid types layouts) (id : TyId) (layout : Layout) (here : slice_get layouts id.0 ≡ Some layout) (f : Form) (c : Content) (rows : Rows)
    (housed : IsHoused (kinds_of types) c rows) where
  abbrev p : Parts
  p = parts_at types id

  abbrev m : Content
  m = seen (kinds_of types) c rows

  pub laid_here : IsLaid (parts_at types id) layout
  laid_here = laid.1 id layout here

  abbrev born_in : ℕ → Content
  born_in w = resized_at c.births 1 0 (with_birth id w 1 (seen (kinds_of types) c rows))

  -- there is no room for it
  pub no_room : (s : Setting) → s.given.cells < live_words_of c + (2 + layout.width * 1) → object_with s id p (fresh s f p) m ≡ GotTrap trap.Cells
  no_room s full =
      let wide = laid_here.width in
      let live = live_words_seen (kinds_of types) (names_of c rows) c in
      let past : s.given.cells < live_words_of m + (2 + width p * 1) = omega (arith, wide, live, full) in
      ap (λ b. then_get {A = ℕ × Content} {B = ℕ × Content} (then_get {A = ℕ × Content} {B = ℕ × Content} (cond b (GotTrap trap.Cells) (Got (c.births, with_birth id (width p) 1 m))) (λ x. Got (x.0, resized_at x.0 1 0 x.1))) (λ x. then_get {A = Words} {B = ℕ × Content} (fresh s f p x.1) (λ v. Got (x.0, wrote x.0 0 0 v.0 v.1))))
      (lt-ltb s.given.cells (live_words_of m + (2 + width p * 1)) past)

  -- there is
  some_room : (s : Setting) → live_words_of c + (2 + layout.width * 1) ≤ s.given.cells
      → object_with s id p (fresh s f p) m ≡ then_get {A = Words} {B = ℕ × Content} (fresh s f p (born_in layout.width)) (λ v. Got (c.births, wrote c.births 0 0 v.0 v.1))
  some_room s room =
      let wide = laid_here.width in
      let live = live_words_seen (kinds_of types) (names_of c rows) c in
      let within : live_words_of m + (2 + width p * 1) ≤ s.given.cells = omega (arith, wide, live, room) in
      ap (λ b. then_get {A = ℕ × Content} {B = ℕ × Content} (then_get {A = ℕ × Content} {B = ℕ × Content} (cond b (GotTrap trap.Cells) (Got (c.births, with_birth id (width p) 1 m))) (λ x. Got (x.0, resized_at x.0 1 0 x.1))) (λ x. then_get {A = Words} {B = ℕ × Content} (fresh s f p x.1) (λ v. Got (x.0, wrote x.0 0 0 v.0 v.1))))
      (le-ltb s.given.cells (live_words_of m + (2 + width p * 1)) within)
      ∙ ap (λ w. then_get {A = Words} {B = ℕ × Content} (fresh s f p (born_in w)) (λ v. Got (c.births, wrote c.births 0 0 v.0 v.1))) (sym wide)

  module _ (r : ObjRef) (number : r.birth ≡ c.births) (d : Content) (new : Rows) (shows : Shows (kinds_of types) d new (resized_at c.births 1 0 (with_birth id layout.width 1 (seen (kinds_of types) c rows)))) (placed : at new r.birth ≡ Some r.row) where
    abbrev pub blank : Object
    blank = resized (c.clock + 1) 1 0 (newborn id layout.width 1 c.clock)

    first : at (with_birth id layout.width 1 (seen (kinds_of types) c rows)).objects c.births ≡ Some (newborn id layout.width 1 c.clock)
    first = at-set_same m.objects c.births c.births (newborn id layout.width 1 c.clock) refl

    pub there : at (seen (kinds_of types) d new).objects r.birth ≡ Some (resized (c.clock + 1) 1 0 (newborn id layout.width 1 c.clock))
    there =
        ap (λ (x : Content). at x.objects r.birth) shows.is
        ∙ ap (λ (x : Option Object). at (resized_if x c.births 1 0 (with_birth id layout.width 1 m)).objects r.birth) first
        ∙ at-set_same (with_birth id layout.width 1 m).objects c.births r.birth blank (sym number)

    pub counted : (d.births ≡ c.births + 1) × (d.clock ≡ c.clock + 1)
    counted =
        let is = shows.is ∙ ap (λ (x : Option Object). resized_if x c.births 1 0 (with_birth id layout.width 1 m)) first in
        (ap (λ (x : Content). x.births) is, ap (λ (x : Content). x.clock) is)

    zeros : (u n : ℕ) → slice_index (replicate n 0) u ≡ 0
    zeros u zero = refl
    zeros zero (suc n) = refl
    zeros (suc u) (suc n) = zeros u n

    zero_there : AreZero 0 0 (width p) blank
    zero_there u le lt = zeros u layout.width

    pub can_fill : layout.width < 2 ^ 64 → CanFill (kinds_of types) (record { object = r; slot = 0; word = 0 }) layout.leaves.items d new
    can_fill small = record {
      housed = shows.housed;
      placed = placed;
      object = blank;
      there = there;
      slot = omega arith;
      own = λ j l e.
          let h = leaf_of p 0 j l (ap (λ (ls : List Leaf). slice_get ls j) (sym laid_here.leaves) ∙ e) in
          let z : 0 + l.word ≡ h.word = (let s = h.is in omega (arith, s)) in
          ap (kind_in p) z ∙ h.kind;
      within = λ j l e. let h = leaf_within p 0 j l (ap (λ (ls : List Leaf). slice_get ls j) (sym laid_here.leaves) ∙ e) in let w = laid_here.width in omega (arith, h, w);
      small = λ j l e. let h = leaf_within p 0 j l (ap (λ (ls : List Leaf). slice_get ls j) (sym laid_here.leaves) ∙ e) in let w = laid_here.width in omega (arith, h, w, small);
    }

    -- its words are 0
    pub is_blank : (o : Object) → at (seen (kinds_of types) d new).objects r.birth ≡ Some o → AreBlank layout.leaves.items 0 0 o
    is_blank o is = subst (AreBlank layout.leaves.items 0 0) (same_Some blank o (sym there ∙ is)) (λ j l e view n some le. zeros (0 + l.word + n) layout.width)

    pub few_leaves : length layout.leaves.items ≤ layout.width
    few_leaves = let n = ap length laid_here.leaves in let s = flat_short p 0 in let w = laid_here.width in omega (arith, n, s, w)

    module _ (s : Setting) (room : live_words_of c + (2 + layout.width * 1) ≤ s.given.cells) where
      meant_so : leaves_wrote s types f r.birth 0 0 layout.leaves.items (seen (kinds_of types) d new) ≡ then_get (fresh s f p (born_in layout.width)) (λ v. Got (wrote c.births 0 0 v.0 v.1))
      meant_so =
          ap (λ (ls : List Leaf). leaves_wrote s types f r.birth 0 0 ls (seen (kinds_of types) d new)) laid_here.leaves
          ∙ fresh_in_slot s types f r.birth 0 0 p (seen (kinds_of types) d new) blank there (let b = counted.0 in omega (arith, b, number)) (named_at types ordered id) zero_there
          ∙ ap (λ (x : Content). then_get (fresh s f p x) (λ v. Got (wrote r.birth 0 0 v.0 v.1))) shows.is
          ∙ ap (λ n. then_get (fresh s f p (born_in layout.width)) (λ v. Got (wrote n 0 0 v.0 v.1))) number

      -- a buffer of it had no room
      pub no_room_behind : leaves_wrote s types f r.birth 0 0 layout.leaves.items (seen (kinds_of types) d new) ≡ GotTrap trap.Cells → object_with s id p (fresh s f p) m ≡ GotTrap trap.Cells
      no_room_behind full = some_room s room ∙ paired_full (fresh s f p (born_in layout.width)) (λ v. wrote c.births 0 0 v.0 v.1) c.births (sym meant_so ∙ full)

      module _ (now : Content) (came : leaves_wrote s types f r.birth 0 0 layout.leaves.items (seen (kinds_of types) d new) ≡ Got now) where
        pub object_came : object_with s id p (fresh s f p) m ≡ Got (r.birth, now)
        object_came =
            some_room s room
            ∙ paired (fresh s f p (born_in layout.width)) (λ v. wrote c.births 0 0 v.0 v.1) c.births now (sym meant_so ∙ came)
            ∙ ap (λ n. Got (n, now)) (sym number)

        pub object_counts : (now.births ≤ c.births + 1 + layout.width) × (now.clock ≡ c.clock + 1)
        object_counts =
            let h = got_has (leaves_wrote s types f r.birth 0 0 layout.leaves.items (seen (kinds_of types) d new)) (Counts (length layout.leaves.items) (seen (kinds_of types) d new)) now (leaves_count s types f r.birth 0 0 layout.leaves.items (seen (kinds_of types) d new)) came in
            let few = few_leaves in
            let b = counted.0 in
            (let k = h.0 in omega (arith, k, few, b), h.1 ∙ counted.1)

-- what was born is referred to while more comes
pub born_ref : (d e : Content) (new after : Rows) (r : ObjRef) → Later d e new after → r.birth < d.births → at new r.birth ≡ Some r.row → IsRef e after r
born_ref d e new after r later lt placed = record { born = let b = later.births in omega (arith, b, lt); row = λ k h. same_Some k r.row (sym (later.row r.birth k lt h) ∙ placed) }
