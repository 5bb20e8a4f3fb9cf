-- A store goes the way of the meaning where a vector gets one more number.
use Rattle.std.proofs.Common.{◌≡◌, ℕ, List, [], ◌∷◌, length, Option, Some, IfSome, Ok, Err, sym, ap, subst, ◌∙◌, arith}
use Rattle.std.proofs.lemmas.Option.{same_Some}
use Rattle.life_types.specs.Types.{Types}
use Rattle.life_store.specs.Cells.{at}
use Rattle.life_store.specs.Content.{Object, Content, with_object, with_word}
use Rattle.life_store.specs.Edits.{owns as takes, pushed, put_last, with_room}
use Rattle.life_store.specs.Effects.{Setting}
use Rattle.life_store.specs.Held.{wrote_if}
use Rattle.life_store.specs.Owners.{Words}
use Rattle.life_store.specs.Parts.{parts_at}
use Rattle.life_store.specs.References.{Rows, object_of, HasWord}
use Rattle.life_store.specs.declared.object.BirthFault.{BirthFault}
use Rattle.life_store.specs.declared.object.BirthFault.TheVariants as birth_fault
use Rattle.life_store.specs.declared.object.ObjRef.{ObjRef}
use Rattle.life_store.specs.declared.run.TrapKind.TheVariants as trap
use Rattle.life_seen.specs.Housed.{Later, Shows}
use Rattle.life_seen.specs.Kinds.{kinds_of, AreWhole, Kinds}
use Rattle.life_seen.specs.Named.{names_of}
use Rattle.life_seen.specs.Rowed.{AreRowed}
use Rattle.life_seen.specs.Seen.{object_seen, seen}
use Rattle.life_seen.proofs.Resizing.{count_seen}
use Rattle.life_words.specs.Numbers.{IsPlain}
use Rattle.life_values.specs.Fresh.{AreWide, Comes}
use Rattle.life_values.specs.Layouts.{AreLaid}
use Rattle.life_values.specs.Moved.{place}
use Rattle.life_values.specs.Pushed.{CanPushNumber}
use Rattle.life_values.specs.Regrown.{then_owned}
use Rattle.life_values.specs.Texts.{IsBuffer}
use Rattle.life_values.specs.declared.layout.Layout.{Layout}
use Rattle.life_values.specs.declared.spot.Spot.{Spot}
use Rattle.life_values.proofs.RoomThen.{has, pushed_is, seen_is, target, target_slot, target_there, target_type, target_width, trapped_then, was}
use Rattle.life_values.proofs.SeenAs.{seen_as, IsSeenAs}
use Rattle.life_values.proofs.StillRowed.{are_whole}

-- no room was made, so nothing is added
pub push_fails : (types : Types) (spot : Spot) (b : ObjRef) (c : Content) (rows : Rows) (s : Setting) (o : Object) (value : Content → Words) (fault : BirthFault) (d : Content) (new : Rows)
    → IsBuffer (kinds_of types) (then_owned (place spot) (with_room s o.ty (parts_at types o.ty) b.birth (seen (kinds_of types) c rows))) (Err fault) d new
    → Comes {A = Unit {0}} (kinds_of types) (pushed s o.ty (parts_at types o.ty) (place spot) b.birth value (seen (kinds_of types) c rows)) (Err fault) d new
push_fails types spot b c rows s o value birth_fault.Cells d new e = trapped_then (place spot) (with_room s o.ty (parts_at types o.ty) b.birth (seen (kinds_of types) c rows)) trap.Cells e _
push_fails types spot b c rows s o value birth_fault.NoMemory d new e = tt

module _ (types : Types) (layouts : List Layout) (laid : AreLaid types layouts) (wide : AreWide types) (spot : Spot) (b : ObjRef) (c : Content) (rows : Rows) (can : CanPushNumber types spot b c rows) (s : Setting) (f : ObjRef) (d : Content) (new : Rows)
    (came : IsBuffer (kinds_of types) (then_owned (place spot) (with_room s can.push.grow.own.buffer.ty (parts_at types can.push.grow.own.buffer.ty) b.birth (seen (kinds_of types) c rows))) (Ok f) d new) (later : Later c d rows new)
    (size : ℕ) (count : length can.push.grow.own.buffer.slots ≡ size) where
  abbrev ob : Object
  ob = can.push.grow.own.buffer

  abbrev x : Object
  x = target types layouts laid wide spot b c rows can.push s f d new came later

  now : IsSeenAs (kinds_of types) d new f x
  now = seen_as (kinds_of types) d new f x came.2.housed came.3 (target_there types layouts laid wide spot b c rows can.push s f d new came later)

  pub slot_there : IfSome (object_of d new f) (HasWord size 0)
  slot_there =
      let p : length (object_seen (kinds_of types) (names_of d new) now.object).slots ≡ length x.slots = ap (λ (y : Object). length y.slots) now.same in
      let q = count_seen (kinds_of types) (names_of d new) now.object in
      let e : now.object.width ≡ x.width = ap (λ (y : Object). y.width) now.same in
      let t = target_slot types layouts laid wide spot b c rows can.push s f d new came later in
      let v = target_width types layouts laid wide spot b c rows can.push s f d new came later in
      let w = wide ob.ty in
      subst (λ y. IfSome y (HasWord size 0)) (sym now.found) (record { has_slot = omega (arith, p, q, t, count); has_word = omega (arith, e, v, w) })

  pub put_keeps : (e : Content) (after : Rows) → ((kinds : Kinds) (y : Object) → IsPlain kinds d new f 0 y → AreWhole (kinds y.ty) → AreRowed kinds d new → AreRowed kinds e after) → AreRowed (kinds_of types) d new → AreRowed (kinds_of types) e after
  put_keeps e after keeps =
      keeps (kinds_of types) now.object
      (record {
        housed = came.2.housed;
        there = now.found;
        plain = ap (λ (y : Object). kinds_of types y.ty 0) now.same ∙ ap (λ t. kinds_of types t 0) (target_type types layouts laid wide spot b c rows can.push s f d new came later) ∙ can.plain;
      })
      (are_whole types now.object)

  module _ (value : ℕ) (e : Content) (after : Rows)
      (shows : (kinds : Kinds) (y : Object) → IsPlain kinds d new f 0 y → Shows kinds e after (with_object f.birth (with_word size 0 value (object_seen kinds (names_of d new) y)) (seen kinds d new))) where
    shown : Shows (kinds_of types) e after (with_object f.birth (with_word size 0 value (object_seen (kinds_of types) (names_of d new) now.object)) (seen (kinds_of types) d new))
    shown =
        shows (kinds_of types) now.object
        (record {
          housed = came.2.housed;
          there = now.found;
          plain = ap (λ (y : Object). kinds_of types y.ty 0) now.same ∙ ap (λ t. kinds_of types t 0) (target_type types layouts laid wide spot b c rows can.push s f d new came later) ∙ can.plain;
        })

    abbrev room : ℕ × Content
    room = (was types layouts laid wide spot b c rows can.push s f d new came later).room

    abbrev number : room.0 ≡ f.birth
    number = (was types layouts laid wide spot b c rows can.push s f d new came later).number

    -- as the meaning writes it
    written : seen (kinds_of types) e after ≡ put_last (place spot) room.0 (length ob.slots) (value ∷ [], room.1)
    written =
        shown.is
        ∙ (λ j. with_object (sym number j) (with_word (sym count j) 0 value (now.same j)) (seen_is types layouts laid wide spot b c rows can.push s f d new came later j))
        ∙ ap (λ (y : Option Object). wrote_if y room.0 (length ob.slots) 0 (value ∷ []) (takes (place spot) room.0 room.1)) (sym (has types layouts laid wide spot b c rows can.push s f d new came later).there)

    pub number_pushed : (o : Object) → at (seen (kinds_of types) c rows).objects b.birth ≡ Some o
        → Comes {A = Unit {0}} (kinds_of types) (pushed s o.ty (parts_at types o.ty) (place spot) b.birth (λ y. (value ∷ [], y)) (seen (kinds_of types) c rows)) (Ok tt) e after
    number_pushed o there =
        subst (λ (y : Object). Comes {A = Unit {0}} (kinds_of types) (pushed s y.ty (parts_at types y.ty) (place spot) b.birth (λ z. (value ∷ [], z)) (seen (kinds_of types) c rows)) (Ok tt) e after)
        (same_Some ob o (sym can.push.grow.own.there ∙ there)) (
          put_last (place spot) room.0 (length ob.slots) (value ∷ [], room.1),
          pushed_is types layouts laid wide spot b c rows can.push s f d new came later (λ z. (value ∷ [], z)),
          record { housed = shown.housed; is = written },
        )

    pub number_later : after ≡ new → Later c e rows after
    number_later same = record {
      births = let l = later.births in let x = ap (λ (y : Content). y.births) shown.is in omega (arith, l, x);
      row = λ n k lt t. later.row n k lt (ap (λ (z : Rows). at z n) (sym same) ∙ t);
    }
