-- A value that an operand names can be copied to the place of another one, and what comes of it.
use Rattle.std.proofs.Common.{◌≡◌, ℕ, ◌+◌, List, Some, Result, Ok, Err, refl, sym, ap, ◌∙◌, arith}
use Rattle.life_types.specs.Types.{Types}
use Rattle.life_types.specs.declared.ty.TyId.{TyId}
use Rattle.life_core.specs.Function.{Function}
use Rattle.life_store.specs.Content.{Object, Content}
use Rattle.life_store.specs.Doing.{replaced}
use Rattle.life_store.specs.Effects.{Setting, Attempt, Got}
use Rattle.life_store.specs.Owners.{copied, ended, Words}
use Rattle.life_store.specs.Parts.{Parts, parts_at, width}
use Rattle.life_store.specs.Places.{spot_words}
use Rattle.life_store.specs.References.{Rows}
use Rattle.life_forest.specs.Frames.{named_in}
use Rattle.life_forest.specs.Owned.{times}
use Rattle.life_forest.proofs.Coming.{IfGot, got_then}
use Rattle.life_seen.specs.Housed.{Later}
use Rattle.life_seen.specs.Kinds.{kinds_of, Kinds}
use Rattle.life_seen.specs.Rowed.{AreRowed}
use Rattle.life_values.specs.Copied.{ComesCopied}
use Rattle.life_values.specs.Copyable.{HasCopy}
use Rattle.life_values.specs.declared.copying.CopyFault.{CopyFault}
use Rattle.life_values.specs.declared.copying.CopyFault.TheVariants as copy_fault
use Rattle.life_values.proofs.Filling.{some_setting}
use Rattle.life_moves.specs.CopiedTo.{copied_over, CanCopyTo}
use Rattle.life_pointers.specs.Owned.{spot_seen}
use Rattle.life_pointers.specs.declared.owned.Spot.{Spot}
use Rattle.life_cells.specs.Cells.{cells_seen}
use Rattle.life_cells.specs.Fits.{meant, IsFit}
use Rattle.life_cells.specs.declared.cell.Cell.{Cell}
use Rattle.life_changes.specs.Owners.{widened}
use Rattle.life_changes.specs.Steps.{Gets}
use Rattle.life_changes.proofs.Counted.{counted_ended, counted_wrote}
use Rattle.life_changes.proofs.Frames.{fits_behind, got_behind, IsBehind}
use Rattle.life_changes.proofs.Inside.{deep_enough}
use Rattle.life_copies.proofs.Behind.{grows_behind}
use Rattle.life_copies.specs.Values.{as_failed, AreApart, ValueAt}
use Rattle.life_copies.proofs.Grown.{copied_grows, Grown}

pub copied_gets : {A : Type 0} (kinds : Kinds) (meaning : Attempt Content) (result : Result A CopyFault) (c : Content) (rows : Rows) → ComesCopied kinds meaning result c rows → Gets kinds meaning (as_failed result) c rows
copied_gets kinds meaning (Ok a) c rows h = h
copied_gets kinds meaning (Err copy_fault.Moved) c rows h = h
copied_gets kinds meaning (Err copy_fault.Cells) c rows h = h
copied_gets kinds meaning (Err copy_fault.NoMemory) c rows h = tt

module _ (types : Types) (f : Function) (limit depth : ℕ) (ty : TyId) (from to : Spot) (c : Content) (rows : Rows) (cells : List Cell) (source : ValueAt types f limit depth ty from c rows cells) (target : ValueAt types f limit depth ty to c rows cells) where
  abbrev m : Content
  m = meant types c rows

  abbrev hand : ℕ → ℕ
  hand k = times (named_in (cells_seen cells)) k + source.owner.ready.rest k

  pub can_copy : HasCopy (parts_at types ty) → AreApart from to (width (parts_at types ty)) → CanCopyTo types limit depth ty (widened from) (widened to) c rows
  can_copy has apart =
      let ready = source.owner.ready in
      let bounded = ready.bounded.within in
      let births = ready.early.births in
      let clock = ready.early.clock in
      let few = source.owner.served.few in
      let deep = source.owner.served.deep in
      record {
        value = record {
          housed = ready.fits.housed;
          placed = source.owner.placed;
          hand = hand;
          store = ready.stands.store;
          room = record { within = bounded; births = omega (arith, births, few); clock = omega (arith, clock, few) };
          has_copy = has;
          source = source.owner.object;
          there = source.owner.place.there;
          slot = source.owner.place.slot;
          within = source.owner.place.within;
          deep = let d = deep_enough types depth source.owner.object.ty deep in omega (arith, d);
          small =
              let w = source.owner.place.within.fits in
              let e = (ready.stands.store.fit from.object.birth source.owner.object source.owner.place.there).width in
              let n = source.narrow in
              omega (arith, w, e, n);
        };
        value_deep = let d = deep_enough types depth ty deep in omega (arith, d);
        to_placed = target.owner.placed;
        target = target.owner.object;
        target_there = target.owner.place.there;
        target_slot = target.owner.place.slot;
        target_within = target.owner.place.within;
        target_deep = let d = deep_enough types depth target.owner.object.ty deep in omega (arith, d);
        to_small =
            let w = target.owner.place.within.fits in
            let e = (ready.stands.store.fit to.object.birth target.owner.object target.owner.place.there).width in
            let n = target.narrow in
            omega (arith, w, e, n);
        apart = apart;
      }

  -- ---- how far it counts

  abbrev Far : Content → Type 0
  Far d = Grown limit m to.object.birth target.owner.object.capacity d

  same_object : (a b : Object) → Some a ≡ Some b → a ≡ b
  same_object a b e = cc

  begin : Grown limit m to.object.birth target.owner.object.capacity m
  begin = record {
    births = 0;
    moments = 0;
    counted = record {
      births = omega arith;
      clock = omega arith;
      bounded = target.owner.ready.bounded;
      old = target.owner.ready.stands.store.forest.births to.object.birth target.owner.object target.owner.place.there;
      same = λ o e. ap (λ (x : Object). x.capacity) (same_object o target.owner.object (sym e ∙ target.owner.place.there));
    };
    lives = omega arith;
    soon = omega arith;
    below = target.owner.ready.stands.store.forest.births;
  }

  behind : (v : Words) → Grown limit m to.object.birth target.owner.object.capacity v.1 → IsBehind limit (meant types c rows) (replaced (parts_at types ty) (spot_seen to) v)
  behind v h =
      let p : Parts = parts_at types ty in
      let gone = counted_ended limit m to.object.birth target.owner.object.capacity p (spot_words v.1 (spot_seen to) (width p)) h.births h.moments v.1 h.counted in
      let all = counted_wrote limit m to.object.birth target.owner.object.capacity h.births h.moments to.object.birth to.index to.word v.0 (ended p (spot_words v.1 (spot_seen to) (width p)) v.1) gone in
      let lives = h.lives in
      let within = h.counted.bounded.within in
      let few = target.owner.served.few in
      let soon = h.soon in
      record {
        bounded = all.bounded;
        grows = record {
          births = let x = all.births in omega (arith, x, lives, within, few);
          clock = let x = all.clock in omega (arith, x, lives, within, few, soon);
        };
      }

  pub copied_behind : (s : Setting) → s.given.cells ≡ limit → IfGot (copied_over s (parts_at types ty) (spot_seen from) (spot_seen to) (meant types c rows)) (IsBehind limit (meant types c rows))
  copied_behind s cells_is =
      got_then (copied s (parts_at types ty) (spot_words m (spot_seen from) (width (parts_at types ty))) m) (λ v. Got (replaced (parts_at types ty) (spot_seen to) v)) (λ v. Far v.1) (IsBehind limit m)
      (copied_grows limit m to.object.birth target.owner.object.capacity s cells_is (parts_at types ty) (spot_words m (spot_seen from) (width (parts_at types ty))) m begin)
      behind

  -- behind the copy
  module _ (d : Content) (new : Rows) (gets : (s : Setting) → s.given.cells ≡ limit → Gets {A = Unit {0}} (kinds_of types) (copied_over s (parts_at types ty) (spot_seen from) (spot_seen to) (meant types c rows)) (Ok tt) d new) where
    pub behind_copy : IsBehind limit (meant types c rows) (meant types d new)
    behind_copy =
        got_behind {A = Unit {0}} (kinds_of types) limit m (copied_over (some_setting limit) (parts_at types ty) (spot_seen from) (spot_seen to) m) d new tt (copied_behind (some_setting limit) refl) (gets (some_setting limit) refl)

    pub fits_copy : AreRowed (kinds_of types) d new → Later c d rows new → IsFit types d new cells
    fits_copy rowed later = fits_behind types c d rows new cells source.owner.ready.early source.owner.ready.fits.held (gets (some_setting limit) refl).2.housed rowed later (grows_behind types limit c d rows new behind_copy)
