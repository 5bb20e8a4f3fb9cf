-- An element of a vector in a store goes: what it comes to is the meaning's own, and the frame stands behind it.
use Rattle.std.proofs.Common.{◌≡◌, ℕ, zero, suc, ◌+◌, ◌*◌, ◌<◌, ◌≤◌, ◌^◌, List, [], ◌∷◌, ◌++◌, length, Some, refl, sym, ap, subst, ◌∙◌, arith}
use Rattle.life_types.specs.Types.{Types}
use Rattle.life_types.specs.declared.ty.TyId.{TyId}
use Rattle.life_core.specs.Function.{Function}
use Rattle.life_store.specs.Cells.{at}
use Rattle.life_store.specs.Content.{Slot, Object, Content}
use Rattle.life_store.specs.Edits.{erased, size_of}
use Rattle.life_store.specs.Effects.{put_content}
use Rattle.life_store.specs.Kinds.{kind_in}
use Rattle.life_store.specs.Parts.{Parts, Vector, parts_at, width}
use Rattle.life_store.specs.References.{Rows}
use Rattle.life_store.specs.declared.object.ObjRef.{ObjRef}
use Rattle.life_store.specs.declared.run.Growth.TheVariants as growth
use Rattle.life_forest.specs.FrameTypes.{Stands}
use Rattle.life_forest.specs.Kinds.{kinds_of as forest_kinds}
use Rattle.life_forest.specs.Owned.{times}
use Rattle.life_forest.specs.Values.{owned_of, owned_slots, AllWide}
use Rattle.life_forest.proofs.Counting.{times-append}
use Rattle.life_forest.proofs.Following.{follows_content, follows_stands, IsOwned}
use Rattle.life_forest.proofs.Placed.{place_owns}
use Rattle.life_forest.proofs.Staying.{stays_self}
use Rattle.life_forest.proofs.StayingEdits.{erased_stays}
use Rattle.life_forest.proofs.Vectors.{erase_store}
use Rattle.life_values.specs.Ended.{ended_number}
use Rattle.life_values.specs.Erased.{erased_words}
use Rattle.life_values.specs.Layouts.{leaves_at, owners_at, width_at as layout_width, AreLaid}
use Rattle.life_values.specs.declared.layout.Layout.{Layout}
use Rattle.life_values.proofs.Beginning.{width_of_type}
use Rattle.life_values.proofs.Elements.{not_itself}
use Rattle.life_values.proofs.ErasedMeant.{erased_meant}
use Rattle.life_values.proofs.OneOwner.{leaves_by_parts, owners_by_parts}
use Rattle.life_pointers.specs.Owned.{spot_seen}
use Rattle.life_pointers.specs.declared.owned.Spot.{Spot}
use Rattle.life_cells.specs.Cells.{state_in}
use Rattle.life_cells.specs.Fits.{meant}
use Rattle.life_cells.specs.declared.cell.Cell.{Cell}
use Rattle.life_changes.specs.Owners.{HasBuffer, OwnerAt}
use Rattle.life_changes.proofs.CountedEdits.{erase_counts}
use Rattle.life_changes.proofs.Frames.{behind, in_hand, some_given, IsBehind}
use Rattle.life_changes.proofs.Owned.{elements_within, OwnsParts}
use Rattle.life_changes.proofs.Places.{ends_there, known_there, slot_place}
use Rattle.life_changes.proofs.Pushed.{parts_within}
use Rattle.life_changes.proofs.Vectors as vectors

-- ---- the slots before one, it, and those behind it

record SplitAt (i : ℕ) (all : List Slot) : Type 0 where
  front : List Slot
  one : Slot
  back : List Slot
  is : all ≡ front ++ one ∷ back
  size : length front ≡ i

split_at : (all : List Slot) (i : ℕ) → i < length all → SplitAt i all
split_at [] i lt = absurd (omega (arith, lt))
split_at (s ∷ ss) zero lt = record { front = []; one = s; back = ss; is = refl; size = refl }
split_at (s ∷ ss) (suc i) lt =
    let r = split_at ss i (omega (arith, lt)) in
    record { front = s ∷ r.front; one = r.one; back = r.back; is = ap (λ xs. s ∷ xs) r.is; size = ap suc r.size }

wide_here : (n : ℕ) (pre : List Slot) (s : Slot) (rest : List Slot) → AllWide n (pre ++ s ∷ rest) → length s.words ≡ n
wide_here n [] s rest h = h.0
wide_here n (x ∷ pre) s rest h = wide_here n pre s rest h.1

wide_behind : (n : ℕ) (pre : List Slot) (s : Slot) (rest : List Slot) → AllWide n (pre ++ s ∷ rest) → AllWide n rest
wide_behind n [] s rest h = h.1
wide_behind n (x ∷ pre) s rest h = wide_behind n pre s rest h.1

owned_behind : (p : Parts) (pre : List Slot) (s : Slot) (rest : List Slot) (k : ℕ) → times (owned_slots p rest) k ≤ times (owned_slots p (pre ++ s ∷ rest)) k
owned_behind p [] s rest k = let e = times-append (owned_of p s.words) (owned_slots p rest) k in omega (arith, e)
owned_behind p (x ∷ pre) s rest k =
    let e = times-append (owned_of p x.words) (owned_slots p (pre ++ s ∷ rest)) k in
    let r = owned_behind p pre s rest k in
    omega (arith, e, r)

-- ---- the element

module _ (types : Types) (layouts : List Layout) (laid : AreLaid types layouts) (limit depth : ℕ) (hand : ℕ → ℕ) (ty : TyId) (spot : Spot) (b : ObjRef) (c : Content) (rows : Rows) (own : HasBuffer types limit depth hand ty spot b c rows) (id : TyId) (element : Parts) (owns : OwnsParts types ty id element) where
  abbrev m : Content
  m = meant types c rows

  abbrev ob : Object
  ob = vectors.ob types limit depth hand ty spot b c rows own id element owns

  there : at (meant types c rows).objects b.birth ≡ Some ob
  there = vectors.there types limit depth hand ty spot b c rows own id element owns

  abbrev p : Parts
  p = parts_at types ob.ty

  -- word by word, by the parts of its type
  by_parts : (i : ℕ) → i < length ob.slots → (pre : List Slot) (s : Slot) (rest : List Slot) → ob.slots ≡ pre ++ s ∷ rest → length pre ≡ i
      → erased_words (ended_number (forest_kinds types) depth) (leaves_at layouts ob.ty) (layout_width layouts ob.ty) (owners_at layouts ob.ty) b.birth i (length ob.slots) (meant types c rows) ≡ erased element b.birth i (meant types c rows)
  by_parts i lt pre s rest split size =
      let ordered = own.stands.served.ordered in
      let forest = own.stands.store.forest in
      let wide = (own.stands.store.fit b.birth ob there).slots in
      let width_is = vectors.fit_width types limit depth hand ty spot b c rows own id element owns in
      let all = subst (AllWide ob.width) split wide in
      let inside : length pre < length ob.slots = omega (arith, lt, size) in
      let place = slot_place types ordered hand m own.stands.store b.birth ob there (length pre) inside in
      let free = not_itself (forest_kinds types) p hand m forest b.birth ob there (λ u. refl) in
      let none = subst (λ ss. times (owned_slots p rest) b.birth ≤ times (owned_slots p ss) b.birth) (sym split) (owned_behind p pre s rest b.birth) in
      (λ j. erased_words (ended_number (forest_kinds types) depth) (leaves_by_parts types layouts laid ob.ty j) (width_of_type types layouts laid ob.ty j) (owners_by_parts types layouts laid ob.ty j) b.birth (sym size j) (length ob.slots) m)
      ∙ erased_meant (forest_kinds types) depth b.birth hand p m ob there forest (vectors.giving types limit depth hand ty spot b c rows own id element owns).deep pre s rest split
      (ends_there types ordered hand m own.stands.store ob.ty b.birth (length pre) 0 ob place depth) width_is
      (known_there types ordered hand m own.stands.store ob.ty b.birth (length pre) 0 ob place _)
      (wide_here ob.width pre s rest all ∙ width_is) (subst (λ n. AllWide n rest) width_is (wide_behind ob.width pre s rest all)) (omega (arith, free, none))
      ∙ (λ j. erased (vectors.parts_are types limit depth hand ty spot b c rows own id element owns j) b.birth (size j) m)

  pub erase_meant : (i : ℕ) → i < length ob.slots
      → erased_words (ended_number (forest_kinds types) depth) (leaves_at layouts ob.ty) (layout_width layouts ob.ty) (owners_at layouts ob.ty) b.birth i (length ob.slots) (meant types c rows) ≡ erased element b.birth i (meant types c rows)
  erase_meant i lt = let r = split_at ob.slots i lt in by_parts i lt r.front r.one r.back r.is r.size

  -- so many numbers can be given
  pub few_erased : (o : Object) → at (meant types c rows).objects b.birth ≡ Some o → c.births + length o.slots * length (leaves_at layouts o.ty) < 2 ^ 63
  few_erased o e =
      subst (λ (x : Object). c.births + length x.slots * length (leaves_at layouts x.ty) < 2 ^ 63) (same ob o (sym there ∙ e))
      (let q = parts_within types layouts laid limit depth hand ty spot b c rows own id element owns in
      let w = elements_within types limit depth hand ty spot c rows own.stands id element owns b.birth own.owned in
      let few = own.stands.served.few in
      let early = own.stands.early.births in
      omega (arith, q, w, few, early))
    where
      same : (y z : Object) → Some y ≡ Some z → y ≡ z
      same y z k = cc

module _ (types : Types) (limit depth : ℕ) (hand : ℕ → ℕ) (ty : TyId) (spot : Spot) (b : ObjRef) (c : Content) (rows : Rows) (own : HasBuffer types limit depth hand ty spot b c rows) (id : TyId) (element : Parts) (owns : OwnsParts types ty id element) where
  abbrev buffer : Object
  buffer = vectors.ob types limit depth hand ty spot b c rows own id element owns

  -- what holds behind it
  pub erased_behind : (i : ℕ) → i < length buffer.slots → IsBehind limit (meant types c rows) (erased element b.birth i (meant types c rows))
  erased_behind i lt =
      let at_b = vectors.there types limit depth hand ty spot b c rows own id element owns in
      behind types limit depth hand ty spot c rows own.stands b.birth buffer.capacity (length buffer.slots * width element) 1 (erased element b.birth i (meant types c rows))
      (let w = elements_within types limit depth hand ty spot c rows own.stands id element owns b.birth own.owned in let few = own.stands.served.few in omega (arith, w, few)) (omega arith)
      (erase_counts limit (meant types c rows) b.birth buffer at_b own.stands.bounded (own.stands.store.forest.births b.birth buffer at_b) (some_given growth.Always limit []) refl ty element (spot_seen spot) i lt)

-- the frame stands
module _ (types : Types) (f : Function) (limit depth : ℕ) (ty : TyId) (spot : Spot) (c : Content) (rows : Rows) (cells : List Cell) (now : OwnerAt types f limit depth ty spot c rows cells) (b : ObjRef)
    (own : HasBuffer types limit depth (in_hand types f limit depth ty spot c rows cells now) ty spot b c rows) (id : TyId) (is : parts_at types ty ≡ Vector id (parts_at types id)) where
  pub stands_erased : (i : ℕ) → i < size_of (meant types c rows) b.birth → Stands types f now.ready.rest (put_content (erased (parts_at types id) b.birth i (meant types c rows)) (state_in (meant types c rows) cells))
  stands_erased i lt =
      let m = meant types c rows in
      let st = state_in m cells in
      let hand = in_hand types f limit depth ty spot c rows cells now in
      let store = now.ready.stands.store in
      let owned = place_owns types now.served.ordered hand m store ty spot.object.birth spot.index spot.word now.object now.place (ap width is) (ap (λ (p : Parts). kind_in p 0) is) b.birth own.owned in
      follows_stands types f now.ready.rest st now.ready.stands (put_content (erased (parts_at types id) b.birth i m) st)
      (erase_store types now.served.ordered hand m store spot.object.birth spot.index spot.word ty now.object now.place.there now.place.within now.place.slot id (parts_at types id) is b.birth own.owned i lt)
      (follows_content types f st (erased (parts_at types id) b.birth i m) (erased_stays (IsOwned types m) m b.birth owned (parts_at types id) i m (stays_self (IsOwned types m) m)))
