-- A vector that has got room for one more element: its buffer, and what is around it.
use Rattle.std.proofs.Common.{◌≡◌, ℕ, zero, suc, ◌+◌, ◌*◌, ◌≤◌, ◌<◌, List, [], ◌∷◌, length, Option, Some, Ok, refl, sym, ap, subst, ◌∙◌, arith}
use Rattle.life_types.specs.Types.{Types}
use Rattle.life_store.specs.Cells.{at}
use Rattle.life_store.specs.Content.{Slot, Object, Content}
use Rattle.life_store.specs.Edits.{owns as takes, pushed, put_last, with_room}
use Rattle.life_store.specs.Effects.{Setting, Attempt, Got, GotTrap, GotFault, GotLost, then_get}
use Rattle.life_store.specs.Held.{owner_word, slots_if}
use Rattle.life_store.specs.Owners.{Words}
use Rattle.life_store.specs.Parts.{parts_at, width, Parts}
use Rattle.life_store.specs.Places.{Spot as Place}
use Rattle.life_store.specs.References.{Rows}
use Rattle.life_store.specs.declared.object.ObjRef.{ObjRef}
use Rattle.life_store.specs.declared.run.Growth.{Growth}
use Rattle.life_store.specs.declared.run.TrapKind.{TrapKind}
use Rattle.life_forest.specs.Kinds.{kinds_of as forest_kinds, Kinds as Forest}
use Rattle.life_forest.specs.Typed.{AreFit, IsFit}
use Rattle.life_forest.proofs.Coming.{IfGot}
use Rattle.life_forest.proofs.Growing.{OwnsBuffer}
use Rattle.life_forest.proofs.Pushing.{HasRoom, room_fit, room_there}
use Rattle.life_forest.proofs.Puts.{wrote_is, AreWords, IsWord}
use Rattle.life_seen.specs.Housed.{Later}
use Rattle.life_seen.specs.Kinds.{kinds_of}
use Rattle.life_seen.specs.Seen.{seen}
use Rattle.life_values.specs.Fresh.{AreWide}
use Rattle.life_values.specs.Layouts.{flat, AreLaid}
use Rattle.life_values.specs.Moved.{place}
use Rattle.life_values.specs.Pushed.{CanPush}
use Rattle.life_values.specs.Regrown.{then_owned}
use Rattle.life_values.specs.Texts.{IsBuffer}
use Rattle.life_values.specs.declared.layout.Layout.{Layout}
use Rattle.life_values.specs.declared.spot.Spot.{Spot}
use Rattle.life_values.proofs.MakingRoom.{owns}
use Rattle.life_values.proofs.RoomBirths.{room_up, GoesUp}

-- some setting with a limit and a policy
abbrev pub setting_of : (limit : ℕ) → Growth → Setting
setting_of limit policy = record { given = record { growth = policy; cells = limit; depth = 0 }; texts = [] }

-- ---- what came, before the owner took it

pub record WasOwned (p : Place) (x : Attempt (ℕ × Content)) (n : ℕ) (d : Content) : Type 0 where
  pub room : ℕ × Content
  pub is : x ≡ Got room
  pub number : room.0 ≡ n
  pub content : takes p room.0 room.1 ≡ d

pub was_owned : (p : Place) (x : Attempt (ℕ × Content)) (n : ℕ) (d : Content) → then_owned p x ≡ Got (n, d) → WasOwned p x n d
was_owned p (Got f) n d e = record { room = f; is = refl; number = ap (λ (y : ℕ × Content). y.0) (same e); content = ap (λ (y : ℕ × Content). y.1) (same e) }
  where
    same : ◌≡◌ {A = Attempt (ℕ × Content)} (Got (f.0, takes p f.0 f.1)) (Got (n, d)) → ◌≡◌ {A = ℕ × Content} (f.0, takes p f.0 f.1) (n, d)
    same h = cc
was_owned p (GotTrap k) n d e = absurd (clash e)
  where
    clash : ◌≡◌ {A = Attempt (ℕ × Content)} (GotTrap k) (Got (n, d)) → ⊥
    clash h = cc
was_owned p (GotFault k) n d e = absurd (clash e)
  where
    clash : ◌≡◌ {A = Attempt (ℕ × Content)} (GotFault k) (Got (n, d)) → ⊥
    clash h = cc
was_owned p GotLost n d e = absurd (clash e)
  where
    clash : ◌≡◌ {A = Attempt (ℕ × Content)} GotLost (Got (n, d)) → ⊥
    clash h = cc

-- .. or nothing came
pub trapped_then : (p : Place) (x : Attempt (ℕ × Content)) (t : TrapKind) → then_owned p x ≡ GotTrap t → (go : ℕ × Content → Attempt Content) → then_get x go ≡ GotTrap t
trapped_then p (Got f) t e go = absurd (clash e)
  where
    clash : ◌≡◌ {A = Attempt (ℕ × Content)} (Got (f.0, takes p f.0 f.1)) (GotTrap t) → ⊥
    clash h = cc
trapped_then p (GotTrap k) t e go = ap GotTrap (same e)
  where
    same : ◌≡◌ {A = Attempt (ℕ × Content)} (GotTrap k) (GotTrap t) → k ≡ t
    same h = cc
trapped_then p (GotFault k) t e go = absurd (clash e)
  where
    clash : ◌≡◌ {A = Attempt (ℕ × Content)} (GotFault k) (GotTrap t) → ⊥
    clash h = cc
trapped_then p GotLost t e go = absurd (clash e)
  where
    clash : ◌≡◌ {A = Attempt (ℕ × Content)} GotLost (GotTrap t) → ⊥
    clash h = cc

-- ---- a slot that has words is there

word_slot : (ss : List Slot) (i w : ℕ) → IsWord i w ss → i < length ss
word_slot [] i w has = absurd has
word_slot (s ∷ ss) zero w has = omega arith
word_slot (s ∷ ss) (suc i) w has = let r = word_slot ss i w has in omega (arith, r)

words_slot : (ss : List Slot) (i w n : ℕ) → 1 ≤ n → AreWords i w n ss → i < length ss
words_slot ss i w zero le has = absurd (omega (arith, le))
words_slot ss i w (suc n) le has = word_slot ss i w has.0

module _ (types : Types) (layouts : List Layout) (laid : AreLaid types layouts) (wide : AreWide types) (spot : Spot) (b : ObjRef) (c : Content) (rows : Rows) (can : CanPush types spot b c rows) where
  abbrev m : Content
  m = seen (kinds_of types) c rows

  abbrev kind : Forest
  kind = forest_kinds types

  abbrev o : Object
  o = can.grow.own.owner

  abbrev ob : Object
  ob = can.grow.own.buffer

  abbrev element : Parts
  element = parts_at types can.grow.own.buffer.ty

  pub own : OwnsBuffer kind ob.ty element (place spot) b.birth m o ob
  own = owns types layouts laid spot b c rows can.grow

  owned_alike : (u : ℕ) → u < 1 → kind.owned o.ty (spot.word + u) ≡ Some ob.ty
  owned_alike zero lt =
      let z : spot.word + 0 ≡ spot.word = omega arith in
      ap (kind.owned o.ty) z ∙ (can.fit spot.object.birth o can.grow.own.owner_there).owned spot.slot spot.word b.birth ob can.grow.own.owns can.grow.own.owned can.grow.own.there
  owned_alike (suc u) lt = absurd (omega (arith, lt))

  module _ (s : Setting) (f : ObjRef) (d : Content) (new : Rows)
      (came : IsBuffer (kinds_of types) (then_owned (place spot) (with_room s can.grow.own.buffer.ty (parts_at types can.grow.own.buffer.ty) b.birth (seen (kinds_of types) c rows))) (Ok f) d new) (later : Later c d rows new) where
    pub was : WasOwned (place spot) (with_room s can.grow.own.buffer.ty (parts_at types can.grow.own.buffer.ty) b.birth (seen (kinds_of types) c rows)) f.birth came.0
    was = was_owned (place spot) (with_room s can.grow.own.buffer.ty (parts_at types can.grow.own.buffer.ty) b.birth (seen (kinds_of types) c rows)) f.birth came.0 came.1

    abbrev room : ℕ × Content
    room = was.room

    pub seen_is : seen (kinds_of types) d new ≡ takes (place spot) was.room.0 was.room.1
    seen_is = came.2.is ∙ sym was.content

    pub has : HasRoom kind ob.ty element (place spot) b.birth can.grow.own.hand m o ob can.grow.own.forest own was.room
    has =
        subst (λ x. IfGot x (HasRoom kind ob.ty element (place spot) b.birth can.grow.own.hand m o ob can.grow.own.forest own)) was.is
        (room_there kind ob.ty element (place spot) b.birth can.grow.own.hand m o ob can.grow.own.forest own s)

    pub fit_then : AreFit (forest_kinds types) (takes (place spot) was.room.0 was.room.1)
    fit_then =
        subst (λ x. IfGot x (λ g. AreFit kind (takes (place spot) g.0 g.1))) was.is
        (room_fit kind ob.ty element (place spot) b.birth can.grow.own.hand m o ob can.grow.own.forest own s can.fit (refl, λ u. refl) owned_alike)

    up : GoesUp (1 + length ob.slots * length (flat 0 element)) 1 m room.1
    up =
        subst (λ x. IfGot x (λ g. GoesUp (1 + length ob.slots * length (flat 0 element)) 1 m g.1)) was.is
        (room_up kind ob.ty element (place spot) b.birth can.grow.own.hand m o ob can.grow.own.forest own s)

    abbrev pub target : Object
    target = has.object

    pub target_there : at (seen (kinds_of types) d new).objects f.birth ≡ Some target
    target_there = (λ j. at (seen_is j).objects (sym was.number j)) ∙ has.there

    pub target_type : target.ty ≡ can.grow.own.buffer.ty
    target_type = has.type

    pub target_fit : IsFit (forest_kinds types) (takes (place spot) was.room.0 was.room.1) target
    target_fit = fit_then was.room.0 target has.there

    pub target_width : target.width ≡ width (parts_at types can.grow.own.buffer.ty)
    target_width = target_fit.width ∙ ap kind.width has.type

    pub target_slot : length can.grow.own.buffer.slots < length target.slots
    target_slot = words_slot target.slots (length ob.slots) 0 (width element) (wide ob.ty) has.words

    -- the owner's word alone is written in the end
    pub births_are : d.births ≡ was.room.1.births
    births_are = ap (λ (x : Content). x.births) seen_is ∙ ap (λ (x : Content). x.births) (wrote_is was.room.1 spot.object.birth spot.slot spot.word (owner_word (Some was.room.0) ∷ []) o has.holder)

    pub clock_is : d.clock ≡ was.room.1.clock
    clock_is = ap (λ (x : Content). x.clock) seen_is ∙ ap (λ (x : Content). x.clock) (wrote_is was.room.1 spot.object.birth spot.slot spot.word (owner_word (Some was.room.0) ∷ []) o has.holder)

    pub births_up : d.births ≤ c.births + (1 + length can.grow.own.buffer.slots * length (flat 0 (parts_at types can.grow.own.buffer.ty)))
    births_up = let e = births_are in let u = up.births in omega (arith, e, u)

    pub clock_up : d.clock ≤ c.clock + 1
    clock_up = let e = clock_is in let u = up.clock in omega (arith, e, u)

    -- what the meaning has once the slot is given a value
    pub pushed_is : (value : Content → Words)
        → pushed s can.grow.own.buffer.ty (parts_at types can.grow.own.buffer.ty) (place spot) b.birth value (seen (kinds_of types) c rows) ≡ Got (put_last (place spot) was.room.0 (length can.grow.own.buffer.slots) (value was.room.1))
    pushed_is value =
        ap (λ (x : Option Object). then_get (with_room s ob.ty element b.birth m) (λ g. Got (put_last (place spot) g.0 (length (slots_if x)) (value g.1)))) can.grow.own.there
        ∙ ap (λ x. then_get x (λ g. Got (put_last (place spot) g.0 (length ob.slots) (value g.1)))) was.is
