-- A store goes the way of the meaning where a temporary gives its value over to a slot.
use Rattle.std.proofs.Common.{◌≡◌, ℕ, zero, suc, ◌+◌, ◌*◌, ◌<◌, ◌^◌, List, [], ◌∷◌, ◌++◌, length, Option, Some, Ok, Err, refl, sym, ap, subst, ◌∙◌, arith}
use Rattle.std.proofs.lemmas.Option.{same_Some}
use Rattle.std.specs.Prelude.{slice_get}
use Rattle.life_types.specs.Types.{Types}
use Rattle.life_store.specs.Cells.{at}
use Rattle.life_store.specs.Content.{Slot, Object, Content}
use Rattle.life_store.specs.Owners.{consumed}
use Rattle.life_store.specs.Parts.{parts_at, Parts}
use Rattle.life_store.specs.Parts.{width as parts_width}
use Rattle.life_store.specs.References.{Rows, asked_of, object_of, shape_of}
use Rattle.life_store.specs.declared.object.Dead.{Dead}
use Rattle.life_store.specs.declared.object.ObjRef.{ObjRef}
use Rattle.life_store.specs.declared.object.Shape.{Shape}
use Rattle.life_forest.specs.Kinds.{kinds_of as forest_kinds}
use Rattle.life_forest.specs.Owned.{times}
use Rattle.life_forest.specs.Values.{owned_of, owned_slots, AllWide}
use Rattle.life_forest.proofs.Counting.{times-append}
use Rattle.life_seen.specs.Housed.{Shows}
use Rattle.life_seen.specs.Kinds.{kinds_of}
use Rattle.life_seen.specs.Named.{names_of}
use Rattle.life_seen.specs.Seen.{seen}
use Rattle.life_seen.proofs.Resizing.{shape_seen}
use Rattle.life_values.specs.Consumed.{stored, CanConsume}
use Rattle.life_values.specs.Layouts.{flat, leaves_at, owner_words, owners_at, width_at, AreLaid}
use Rattle.life_values.specs.Moved.{AreUncut}
use Rattle.life_values.specs.Regrown.{handed_over, CanHandOver}
use Rattle.life_values.specs.declared.layout.Layout.{Layout}
use Rattle.life_values.specs.declared.layout.Leaf.{Leaf}
use Rattle.life_values.proofs.Beginning.{width_of_type}
use Rattle.life_values.proofs.ConsumedMeant.{consumed_meant}
use Rattle.life_values.proofs.CopiedRowed.{all_uncut}
use Rattle.life_values.proofs.Elements.{not_itself}
use Rattle.life_values.proofs.Flat.{owner_words_own}
use Rattle.life_values.proofs.LeafOwners.{characters_own, leaf_within}
use Rattle.life_values.proofs.OneOwner.{leaves_by_parts, owners_by_parts}
use Rattle.life_values.proofs.Popping.{ok_shape}
use Rattle.life_values.proofs.SeenAs.{seen_as, IsSeenAs}

-- ---- a slot among others

pub record IsCut (ss : List Slot) (i : ℕ) : Type 0 where
  pub before : List Slot
  pub slot : Slot
  pub behind : List Slot
  pub is : ss ≡ before ++ slot ∷ behind
  pub count : length before ≡ i

pub cut_at : (ss : List Slot) (i : ℕ) → i < length ss → IsCut ss i
cut_at [] i lt = absurd (omega (arith, lt))
cut_at (s ∷ ss) zero lt = record { before = []; slot = s; behind = ss; is = refl; count = refl }
cut_at (s ∷ ss) (suc i) lt =
    let r = cut_at ss i (omega (arith, lt)) in
    record { before = s ∷ r.before; slot = r.slot; behind = r.behind; is = ap (λ (xs : List Slot). s ∷ xs) r.is; count = ap suc r.count }

pub wide_in : (k : ℕ) (pre : List Slot) (s : Slot) (ss : List Slot) → AllWide k (pre ++ s ∷ ss) → length s.words ≡ k
wide_in k [] s ss wide = wide.0
wide_in k (p ∷ pre) s ss wide = wide_in k pre s ss wide.1

pub only_one : (ss : List Slot) → length ss ≡ 1 → (s : Slot) × (ss ≡ s ∷ [])
only_one [] e = absurd (omega (arith, e))
only_one (s ∷ []) e = (s, refl)
only_one (s ∷ t ∷ ss) e = absurd (omega (arith, e))

module _ (types : Types) (layouts : List Layout) (laid : AreLaid types layouts) (r to : ObjRef) (slot : ℕ) (c : Content) (rows : Rows) (can : CanConsume types r to slot c rows) where
  abbrev m : Content
  m = seen (kinds_of types) c rows

  abbrev o : Object
  o = can.temporary

  abbrev element : Parts
  element = parts_at types can.temporary.ty

  now : IsSeenAs (kinds_of types) c rows r o
  now = seen_as (kinds_of types) c rows r o can.housed can.placed can.there

  pub not_dead : (dead : Dead) → asked_of (object_of c rows r) shape_of ≡ Err dead → ⊥
  not_dead dead e = clash (sym (ap (λ (y : Option Object). asked_of y shape_of) now.found) ∙ e)
    where
      clash : asked_of (Some now.object) shape_of ≡ Err dead → ⊥
      clash h = cc

  module _ (shape : Shape) (asked : asked_of (object_of c rows r) shape_of ≡ Ok shape) (w : ℕ) (wide : w ≡ width_at layouts shape.ty) (small : w < 2 ^ 64)
      (leaves : List Leaf) (leaves_of : leaves ≡ leaves_at layouts shape.ty) (owners : List ℕ) (owners_of : owners ≡ owners_at layouts shape.ty) where
    ty_is : o.ty ≡ shape.ty
    ty_is = ap (λ (s : Shape). s.ty) (ap shape_of (sym now.same) ∙ shape_seen (kinds_of types) (names_of c rows) now.object ∙ ok_shape now.object now.found asked)

    width_is : w ≡ parts_width element
    width_is = wide ∙ width_of_type types layouts laid shape.ty ∙ ap (λ ty. parts_width (parts_at types ty)) (sym ty_is)

    leaves_are : leaves ≡ flat 0 element
    leaves_are = leaves_of ∙ leaves_by_parts types layouts laid shape.ty ∙ ap (λ ty. flat 0 (parts_at types ty)) (sym ty_is)

    owners_are : owners ≡ owner_words (flat 0 element)
    owners_are = owners_of ∙ owners_by_parts types layouts laid shape.ty ∙ ap (λ ty. owner_words (flat 0 (parts_at types ty))) (sym ty_is)

    source_width : o.width ≡ w
    source_width = can.width ∙ sym width_is

    from_free : times (owned_slots element o.slots) r.birth ≡ 0
    from_free = not_itself (forest_kinds types) element can.hand m can.forest r.birth o can.there (λ u. refl)

    leaf_small : (j : ℕ) (l : Leaf) → slice_get leaves j ≡ Some l → 0 + l.word < 2 ^ 64
    leaf_small j l at_j = let q = leaf_within element 0 j l (ap (λ ls. slice_get ls j) (sym leaves_are) ∙ at_j) in let e = width_is in omega (arith, q, e, small)

    pub target_uncut : AreUncut (kinds_of types can.target.ty) 0 w
    target_uncut = all_uncut types can.target.ty w (width_is ∙ ap (λ ty. parts_width (parts_at types ty)) can.alike)

    pub hand_can : (p : Parts) × CanHandOver (kinds_of types) (forest_kinds types) p r to w leaves owners slot 1 c rows
    hand_can =
        let width_o = source_width in
        let wid = width_is in (
          element,
          record {
            take = record {
              housed = can.housed;
              placed = can.placed;
              hand = can.hand;
              forest = can.forest;
              object = o;
              there = can.there;
              wide = can.long;
              size = let n = can.alone in omega (arith, n);
              own = λ j l ty at_j h.
                  let q = characters_own element 0 j l ty (ap (λ ls. slice_get ls j) (sym leaves_are) ∙ at_j) h in
                  let z : 0 + l.word ≡ q.word = (let x = q.is in omega (arith, x)) in
                  let lt = q.within in
                  (ap (kinds_of types o.ty) z ∙ q.owner, omega (arith, z, lt, width_o, wid));
              small = leaf_small;
            };
            held = can.held;
            to_placed = can.to_placed;
            target = can.target;
            target_there = can.target_there;
            target_long = can.target_long;
            apart = can.apart;
            alike = can.alike;
            source_width = source_width;
            target_width = can.target_width ∙ source_width;
            parts_width = width_is;
            all = can.alone;
            room = let s = can.target_slot in omega (arith, s);
            are_leaves = leaves_are;
            own = λ j u at_j.
                let q = owner_words_own element 0 j u (ap (λ xs. slice_get xs j) (sym owners_are) ∙ at_j) in
                let z : 0 + u ≡ q.word = (let x = q.is in omega (arith, x)) in
                let lt = q.within in
                (ap (kinds_of types o.ty) z ∙ q.owner, omega (arith, z, lt, wid));
            from_free = from_free;
            to_free = can.free;
          },
        )

    pub hand_births : ((x : Object) → at (seen (kinds_of types) c rows).objects r.birth ≡ Some x → c.births + length (leaves_at layouts x.ty) < 2 ^ 63) → c.births + 1 * length leaves < 2 ^ 63
    hand_births fit =
        let f = fit o can.there in
        let e = ap length (leaves_of ∙ ap (leaves_at layouts) (sym ty_is)) in
        omega (arith, f, e)

    pub consume_shows : (d : Content) (new : Rows) → Shows (kinds_of types) d new (handed_over leaves w owners r.birth to.birth slot 1 (seen (kinds_of types) c rows)) → (x : Object) → at (seen (kinds_of types) c rows).objects r.birth ≡ Some x
        → Shows (kinds_of types) d new (stored to.birth slot (consumed (parts_at types x.ty) r.birth (seen (kinds_of types) c rows)))
    consume_shows d new shown x at_r =
        let is_x : o ≡ x = same_Some o x (sym can.there ∙ at_r) in
        let one = only_one o.slots can.alone in
        let cut = cut_at can.target.slots slot can.target_slot in
        let narrow : AllWide (parts_width element) o.slots = subst (λ n. AllWide n o.slots) can.width can.long in
        let other : AllWide (parts_width element) can.target.slots = subst (λ n. AllWide n can.target.slots) (can.target_width ∙ can.width) can.target_long in
        let free_here = ap (λ (ss : List Slot). times (owned_slots element ss) r.birth) one.1 in
        let free_there = ap (λ (ss : List Slot). times (owned_slots element ss) to.birth) one.1 in
        let a = times-append (owned_of element one.0.words) [] r.birth in
        let b = times-append (owned_of element one.0.words) [] to.birth in
        let f = from_free in
        let g = can.free in
        let law = consumed_meant element owners r.birth to.birth can.apart o one.0 one.1 can.target cut.before cut.slot cut.behind cut.is m can.there can.target_there (can.forest.births r.birth o can.there) (can.forest.births to.birth can.target can.target_there)
        (subst (λ (ss : List Slot). AllWide (parts_width element) ss) one.1 narrow).0 (wide_in (parts_width element) cut.before cut.slot cut.behind (subst (λ (ss : List Slot). AllWide (parts_width element) ss) cut.is other))
        (omega (arith, free_here, a, f)) (omega (arith, free_there, b, g)) in
        record {
          housed = shown.housed;
          is =
              shown.is
              ∙ (λ j. handed_over (leaves_are j) (width_is j) owners r.birth to.birth (sym cut.count j) 1 m)
              ∙ law
              ∙ (λ j. stored to.birth (cut.count j) (consumed (parts_at types (is_x j).ty) r.birth m));
        }
