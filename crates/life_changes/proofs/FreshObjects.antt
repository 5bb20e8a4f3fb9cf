-- A new object of a type in a store comes to life with a fresh value.
use Rattle.std.proofs.Common.{◌≡◌, ℕ, zero, suc, ◌+◌, ◌*◌, ◌^◌, ◌<◌, ◌≤◌, List, [], ◌∷◌, length, Some, Ok, Err, refl, sym, ap, subst, ◌∙◌, arith}
use Rattle.std.proofs.lemmas.Option.{none-some, same_Some}
use Rattle.std.specs.Prelude.{replicate, slice_get, slice_index}
use Rattle.life_types.specs.Trees.{IsOrdered}
use Rattle.life_types.specs.Types.{Types}
use Rattle.life_types.specs.declared.ty.TyId.{TyId}
use Rattle.life_core.specs.declared.instr.Form.TheVariants as form
use Rattle.life_store.specs.Cells.{at}
use Rattle.life_store.specs.Content.{Object, Content, live_words_of}
use Rattle.life_store.specs.Effects.{Setting, Attempt, Got, GotTrap, GotFault, GotLost, then_get}
use Rattle.life_store.specs.Held.{wrote}
use Rattle.life_store.specs.Kinds.{kind_in}
use Rattle.life_store.specs.Owners.{fresh, object_with}
use Rattle.life_store.specs.Parts.{Parts, Single, Raw, Iterates, Views, Text, Vector, Unique, Member, NoMember, parts_at, width, width_at}
use Rattle.life_store.specs.References.{Rows}
use Rattle.life_store.specs.declared.object.BirthFault.{BirthFault}
use Rattle.life_store.specs.declared.object.BirthFault.TheVariants as birth_fault
use Rattle.life_store.specs.declared.object.ObjRef.{ObjRef}
use Rattle.life_store.specs.declared.run.TrapKind.{TrapKind}
use Rattle.life_store.specs.declared.run.TrapKind.TheVariants as trap
use Rattle.life_forest.proofs.Laying.{named_at}
use Rattle.life_seen.specs.Housed.{IsRef, Shows}
use Rattle.life_seen.specs.Kinds.{kinds_of}
use Rattle.life_seen.proofs.WholePointers.{row_front, row_back}
use Rattle.life_values.specs.Fresh.{kind_of, leaves_wrote, AreBlank, CanFill, Comes}
use Rattle.life_values.specs.Layouts.{flat, leaf, leaves_at, AreLaid}
use Rattle.life_values.specs.declared.layout.Holds.{Holds}
use Rattle.life_values.specs.declared.layout.Holds.TheVariants as holds
use Rattle.life_values.specs.declared.layout.Layout.{Layout}
use Rattle.life_values.specs.declared.layout.Leaf.{Leaf}
use Rattle.life_values.proofs.Flat.{in_either}
use Rattle.life_values.proofs.FreshMeant.{fresh_in_slot}
use Rattle.life_values.proofs.LeafOwners.{leaf_within}
use Rattle.life_values.proofs.OneOwner.{leaves_by_parts}
use Rattle.life_values.proofs.Zeros.{AreZero}
use Rattle.life_cells.specs.Fits.{meant}
use Rattle.life_changes.specs.NewObjects.{fresh_value, Bears}
use Rattle.life_changes.proofs.BornObjects.{blank, born, counted, there, with_born}
use Rattle.life_changes.proofs.Leaves.{flat_short}

-- ---- what begins at the word of a leaf

pub record IsLeafOf (p : Parts) (w : ℕ) (l : Leaf) : Type 0 where
  pub word : ℕ
  pub is : l.word ≡ w + word
  pub kind : kind_in p word ≡ kind_of l.holds
  pub within : word < width p

only_leaf : (p : Parts) (w : ℕ) (h : Holds) (j : ℕ) (l : Leaf) → slice_get (leaf w h ∷ []) j ≡ Some l → kind_in p 0 ≡ kind_of h → 0 < width p → IsLeafOf p w l
only_leaf p w h zero l e kind wide =
    let same = same_Some (leaf w h) l e in
    record { word = 0; is = let s = ap (λ (x : Leaf). x.word) same in omega (arith, s); kind = kind ∙ ap (λ (x : Leaf). kind_of x.holds) same; within = wide }
only_leaf p w h (suc j) l e kind wide = absurd (none-some l e)

pub leaf_of : (p : Parts) (w j : ℕ) (l : Leaf) → slice_get (flat w p) j ≡ Some l → IsLeafOf p w l
leaf_of Single w j l e = absurd (none-some l e)
leaf_of Raw w j l e = only_leaf Raw w holds.Raw j l e refl (omega arith)
leaf_of Iterates w j l e = absurd (none-some l e)
leaf_of Views w j l e = only_leaf Views w holds.View j l e refl (omega arith)
leaf_of (Text ty) w j l e = only_leaf (Text ty) w (holds.Characters ty) j l e refl (omega arith)
leaf_of (Vector ty element) w j l e = only_leaf (Vector ty element) w (holds.Elements ty) j l e refl (omega arith)
leaf_of (Unique ty target) w j l e = only_leaf (Unique ty target) w (holds.Target ty) j l e refl (omega arith)
leaf_of (Member first others) w j l e =
    in_either (flat w first) (flat (w + width first) others) j l e
    (λ f. let r = leaf_of first w j l f in record {
      word = r.word;
      is = r.is;
      kind = row_front (width first) (kind_in first) (kind_in others) r.word r.within ∙ r.kind;
      within = let lt = r.within in omega (arith, lt);
    })
    (λ k f. let r = leaf_of others (w + width first) k l f in record {
      word = width first + r.word;
      is = let s = r.is in omega (arith, s);
      kind = row_back (width first) (kind_in first) (kind_in others) r.word ∙ r.kind;
      within = let lt = r.within in omega (arith, lt);
    })
leaf_of NoMember w j l e = absurd (none-some l e)

-- ---- with the number of the object beside it

paired : {A : Type 0} (x : Attempt A) (g : A → Content) (k : ℕ) (m : Content) → then_get x (λ v. Got (g v)) ≡ Got m → then_get {A = A} {B = ℕ × Content} x (λ v. Got (k, g v)) ≡ Got (k, m)
paired (Got v) g k m e = ap (λ d. Got (k, d)) (same e)
  where
    same : {a b : Content} → ◌≡◌ {A = Attempt Content} (Got a) (Got b) → a ≡ b
    same h = cc
paired (GotTrap kind) g k m e = absurd (clash e)
  where
    clash : ◌≡◌ {A = Attempt Content} (GotTrap kind) (Got m) → ⊥
    clash h = cc
paired (GotFault kind) g k m e = absurd (clash e)
  where
    clash : ◌≡◌ {A = Attempt Content} (GotFault kind) (Got m) → ⊥
    clash h = cc
paired GotLost g k m e = absurd (clash e)
  where
    clash : ◌≡◌ {A = Attempt Content} GotLost (Got m) → ⊥
    clash h = cc

paired_full : {A : Type 0} (x : Attempt A) (g : A → Content) (k : ℕ) → then_get x (λ v. Got (g v)) ≡ GotTrap trap.Cells → then_get {A = A} {B = ℕ × Content} x (λ v. Got (k, g v)) ≡ GotTrap trap.Cells
paired_full (Got v) g k e = absurd (clash e)
  where
    clash : ◌≡◌ {A = Attempt Content} (Got (g v)) (GotTrap trap.Cells) → ⊥
    clash h = cc
paired_full (GotTrap kind) g k e = ap GotTrap (same e)
  where
    same : {a b : TrapKind} → ◌≡◌ {A = Attempt Content} (GotTrap a) (GotTrap b) → a ≡ b
    same h = cc
paired_full (GotFault kind) g k e = absurd (clash e)
  where
    clash : ◌≡◌ {A = Attempt Content} (GotFault kind) (GotTrap trap.Cells) → ⊥
    clash h = cc
paired_full GotLost g k e = absurd (clash e)
  where
    clash : ◌≡◌ {A = Attempt Content} GotLost (GotTrap trap.Cells) → ⊥
    clash h = cc

-- ---- the object

module _ (types : Types) (ordered : IsOrdered types) (layouts : List Layout) (laid : AreLaid types layouts) (id : TyId) (c : Content) (rows : Rows) (r : ObjRef) (number : r.birth ≡ c.births) (d : Content) (new : Rows)
    (shows : Shows (kinds_of types) d new (born types id (width_at types id) c rows)) where
  abbrev p : Parts
  p = parts_at types id

  abbrev begin : Object
  begin = blank types id (width_at types id) c rows

  here : at (meant types d new).objects r.birth ≡ Some begin
  here = there types id (width_at types id) c rows r number d new shows

  zeros : (u n : ℕ) → slice_index (replicate n 0) u ≡ 0
  zeros u zero = refl
  zeros zero (suc n) = refl
  zeros (suc u) (suc n) = zeros u n

  zero_there : AreZero 0 0 (width p) begin
  zero_there u le lt = zeros u (width p)

  is_leaf : (j : ℕ) (l : Leaf) → slice_get (leaves_at layouts id) j ≡ Some l → slice_get (flat 0 p) j ≡ Some l
  is_leaf j l e = ap (λ (ls : List Leaf). slice_get ls j) (sym (leaves_by_parts types layouts laid id)) ∙ e

  pub can_fill : at new r.birth ≡ Some r.row → width_at types id < 2 ^ 64 → CanFill (kinds_of types) (record { object = r; slot = 0; word = 0 }) (leaves_at layouts id) d new
  can_fill placed small = record {
    housed = shows.housed;
    placed = placed;
    object = begin;
    there = here;
    slot = omega arith;
    own = λ j l e.
        let h = leaf_of p 0 j l (is_leaf j l e) in
        let z : 0 + l.word ≡ h.word = (let s = h.is in omega (arith, s)) in
        ap (kind_in p) z ∙ h.kind;
    within = λ j l e. let h = leaf_within p 0 j l (is_leaf j l e) in omega (arith, h);
    small = λ j l e. let h = leaf_within p 0 j l (is_leaf j l e) in omega (arith, h, small);
  }

  -- its words are 0
  pub is_blank : (o : Object) → at (meant types d new).objects r.birth ≡ Some o → AreBlank (leaves_at layouts id) 0 0 o
  is_blank o is = subst (AreBlank (leaves_at layouts id) 0 0) (same_Some begin o (sym here ∙ is)) (λ j l e view n some le. zeros (0 + l.word + n) (width p))

  pub few_leaves : length (leaves_at layouts id) ≤ width_at types id
  few_leaves = let n = ap (λ (ls : List Leaf). length ls) (leaves_by_parts types layouts laid id) in let s = flat_short p 0 in omega (arith, n, s)

  module _ (s : Setting) (room : live_words_of c + (2 + width_at types id * 1) ≤ s.given.cells) where
    meant_so : leaves_wrote s types form.Zero r.birth 0 0 (leaves_at layouts id) (meant types d new) ≡ then_get (fresh s form.Zero p (born types id (width_at types id) c rows)) (λ v. Got (wrote c.births 0 0 v.0 v.1))
    meant_so =
        ap (λ (ls : List Leaf). leaves_wrote s types form.Zero r.birth 0 0 ls (meant types d new)) (leaves_by_parts types layouts laid id)
        ∙ fresh_in_slot s types form.Zero r.birth 0 0 p (meant types d new) begin here (let b = (counted types id (width_at types id) c rows r number d new shows).0 in omega (arith, b, number)) (named_at types ordered id) zero_there
        ∙ ap (λ (x : Content). then_get (fresh s form.Zero p x) (λ v. Got (wrote r.birth 0 0 v.0 v.1))) shows.is
        ∙ ap (λ n. then_get (fresh s form.Zero p (born types id (width_at types id) c rows)) (λ v. Got (wrote n 0 0 v.0 v.1))) number

    -- what was written into it is its value, or a buffer of it had no room
    pub bears_fresh : {A : Type 0} (e : Content) (after : Rows) → IsRef e after r → (done : A) → Comes (kinds_of types) (leaves_wrote s types form.Zero r.birth 0 0 (leaves_at layouts id) (meant types d new)) (Ok done) e after
        → Bears (kinds_of types) (object_with s id (parts_at types id) (fresh_value s (parts_at types id)) (meant types c rows)) (Ok r) e after
    bears_fresh e after referred done came = (
      came.0,
      with_born types c rows s id p (fresh_value s p) room
          ∙ paired (fresh s form.Zero p (born types id (width_at types id) c rows)) (λ v. wrote c.births 0 0 v.0 v.1) c.births came.0 (sym meant_so ∙ came.1)
          ∙ ap (λ n. Got (n, came.0)) (sym number),
      came.2,
      referred,
    )

    pub bears_no_value : (fault : BirthFault) (e : Content) (after : Rows) → Comes {A = Unit {0}} (kinds_of types) (leaves_wrote s types form.Zero r.birth 0 0 (leaves_at layouts id) (meant types d new)) (Err fault) e after
        → Bears (kinds_of types) (object_with s id (parts_at types id) (fresh_value s (parts_at types id)) (meant types c rows)) (Err fault) e after
    bears_no_value birth_fault.Cells e after came = with_born types c rows s id p (fresh_value s p) room ∙ paired_full (fresh s form.Zero p (born types id (width_at types id) c rows)) (λ v. wrote c.births 0 0 v.0 v.1) c.births (sym meant_so ∙ came)
    bears_no_value birth_fault.NoMemory e after came = tt
