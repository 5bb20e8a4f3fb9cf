-- A local can give what it has, and what comes of it.
use Rattle.std.proofs.Common.{◌≡◌, ℕ, ◌+◌, true, false, Bool, List, [], ◌∷◌, length, Option, Some, None, Result, Ok, Err, refl, sym, ap, subst, ◌∙◌, arith}
use Rattle.std.proofs.lemmas.Option.{same_Some}
use Rattle.std.specs.Prelude.{option_map, slice_index}
use Rattle.life_types.specs.Types.{Types}
use Rattle.life_core.specs.Function.{Function}
use Rattle.life_store.specs.Cells.{at}
use Rattle.life_store.specs.Content.{Object, Content}
use Rattle.life_store.specs.Doing.{giving, moved_to}
use Rattle.life_store.specs.Effects.{Attempt, Got, GotTrap, GotFault, GotLost}
use Rattle.life_store.specs.Held.{owned_in, owner_word, slot_words, wrote}
use Rattle.life_store.specs.Owners.{ended, taken}
use Rattle.life_store.specs.Parts.{Parts, local_parts, parts_at, parts_if, width}
use Rattle.life_store.specs.Places.{spot_words}
use Rattle.life_store.specs.References.{Rows, object_of}
use Rattle.life_store.specs.declared.object.ObjRef.{ObjRef}
use Rattle.life_store.specs.declared.run.FaultKind.TheVariants as fault
use Rattle.life_forest.specs.Frames.{named_in}
use Rattle.life_forest.specs.Owned.{times}
use Rattle.life_forest.specs.Within.{LiesWithin}
use Rattle.life_forest.proofs.Coming.{IfGot, got_then}
use Rattle.life_seen.specs.Housed.{Later}
use Rattle.life_seen.specs.Kinds.{kinds_of, Kinds}
use Rattle.life_seen.specs.Named.{names_of}
use Rattle.life_seen.specs.Rowed.{AreRowed}
use Rattle.life_seen.specs.Seen.{object_seen}
use Rattle.life_seen.proofs.References.{found, seen_by_number}
use Rattle.life_moves.specs.MovedTo.{given_to, CanMoveTo, Gives, IsOwning}
use Rattle.life_moves.proofs.GivenMeant.{one_wide}
use Rattle.life_pointers.specs.Owned.{spot_seen}
use Rattle.life_pointers.specs.declared.owned.Spot.{Spot}
use Rattle.life_pointers.specs.declared.stop.Stop.TheVariants as stop
use Rattle.life_cells.specs.Cells.{cells_seen}
use Rattle.life_cells.specs.Fits.{meant, IsFit}
use Rattle.life_cells.specs.declared.cell.Cell.{Cell}
use Rattle.life_changes.specs.Owners.{widened}
use Rattle.life_changes.specs.Steps.{Gets}
use Rattle.life_changes.specs.declared.failure.Failure.{Failure}
use Rattle.life_changes.specs.declared.failure.Failure.TheVariants as failure
use Rattle.life_changes.proofs.Counted.{counted_ended, counted_taken, counted_wrote, Counted}
use Rattle.life_changes.proofs.Frames.{fits_behind, got_behind, IsBehind}
use Rattle.life_changes.proofs.Inside.{deep_enough}
use Rattle.life_copies.proofs.Behind.{grows_behind}
use Rattle.life_copies.specs.Values.{IsGiver}

-- what comes of it
abbrev pub as_given : Bool → Result (Unit {0}) Failure
as_given true = Ok tt
as_given false = Err (failure.Stopped (stop.Fault fault.Moved))

gives_gets : (kinds : Kinds) (meaning : Attempt Content) (given : Bool) (d : Content) (new : Rows) → Gives kinds meaning given d new → Gets kinds meaning (as_given given) d new
gives_gets kinds meaning true d new h = h
gives_gets kinds meaning false d new h = h

module _ (types : Types) (f : Function) (limit depth from : ℕ) (object : ObjRef) (to : Spot) (c : Content) (rows : Rows) (cells : List Cell) (giver : IsGiver types f limit depth from object to c rows cells) where
  abbrev m : Content
  m = meant types c rows

  abbrev hand : ℕ → ℕ
  hand k = times (named_in (cells_seen cells)) k + giver.target.owner.ready.rest k

  -- the object is of the place's type
  same_type : giver.type ≡ giver.variable.object.ty
  same_type = same_Some giver.type giver.variable.object.ty (sym giver.typed ∙ giver.variable.type)

  parts_are : local_parts types f from ≡ parts_at types giver.variable.object.ty
  parts_are = ap (parts_if types) giver.variable.type

  placed : at rows object.birth ≡ Some object.row
  placed = go (object_of c rows object) refl
    where
      go : (x : Option Object) → object_of c rows object ≡ x → at rows object.birth ≡ Some object.row
      go None e = absurd (unlike (ap (option_map (object_seen (kinds_of types) (names_of c rows))) (sym e) ∙ seen_by_number (kinds_of types) c rows giver.target.owner.ready.fits.housed object giver.referred ∙ giver.variable.there))
        where
          unlike : None ≡ Some giver.variable.object → ⊥
          unlike h = cc
      go (Some o) e = (found c rows object o e).placed

  pub can_give : CanMoveTo types depth object (widened to) c rows
  can_give =
      let ready = giver.target.owner.ready in
      let deep = giver.target.owner.served.deep in
      record {
        housed = ready.fits.housed;
        placed = placed;
        to_placed = giver.target.owner.placed;
        hand = hand;
        store = ready.stands.store;
        source = giver.variable.object;
        there = giver.variable.there;
        slot = let l = ap length giver.variable.one in omega (arith, l);
        owns = subst IsOwning parts_are giver.owns;
        target = giver.target.owner.object;
        target_there = giver.target.owner.place.there;
        target_slot = giver.target.owner.place.slot;
        within = subst (λ t. LiesWithin types giver.target.owner.object.ty to.word t) same_type giver.target.owner.place.within;
        small = let s = giver.target.owner.small in omega (arith, s);
        deep = let d = deep_enough types depth giver.target.owner.object.ty deep in omega (arith, d);
      }

  pub given_gets : (gave : Bool) (d : Content) (new : Rows)
      → ((o : Object) → at (meant types c rows).objects object.birth ≡ Some o → Gives (kinds_of types) (given_to (parts_at types o.ty) (spot_seen to) object.birth (meant types c rows)) gave d new)
      → Gets (kinds_of types) (given_to (local_parts types f from) (spot_seen to) object.birth (meant types c rows)) (as_given gave) d new
  given_gets gave d new gives =
      gives_gets (kinds_of types) (given_to (local_parts types f from) (spot_seen to) object.birth m) gave d new
      (subst (λ p. Gives (kinds_of types) (given_to p (spot_seen to) object.birth m) gave d new) (sym parts_are) (gives giver.variable.object giver.variable.there))

  -- ---- how far it counts

  begin : Counted limit m to.object.birth giver.target.owner.object.capacity 0 0 m
  begin = record {
    births = omega arith;
    clock = omega arith;
    bounded = giver.target.owner.ready.bounded;
    old = giver.target.owner.ready.stands.store.forest.births to.object.birth giver.target.owner.object giver.target.owner.place.there;
    same = λ o e. ap (λ (x : Object). x.capacity) (same_Some o giver.target.owner.object (sym e ∙ giver.target.owner.place.there));
  }

  moved_behind : (owned : Option ℕ) → IsBehind limit (meant types c rows) (moved_to (local_parts types f from) (spot_seen to) object.birth (taken (local_parts types f from) (owner_word owned ∷ []) (meant types c rows)))
  moved_behind owned =
      let p : Parts = local_parts types f from in
      let b : ℕ = to.object.birth in
      let cap : ℕ = giver.target.owner.object.capacity in
      let n : ℕ = 0 + width p in
      let v = taken p (owner_word owned ∷ []) m in
      let left : Content = wrote object.birth 0 0 (owner_word None ∷ []) v.1 in
      let gone : Content = ended p (spot_words left (spot_seen to) (width p)) left in
      let all = counted_wrote limit m b cap n 0 to.object.birth to.index to.word v.0 gone
      (counted_ended limit m b cap p (spot_words left (spot_seen to) (width p)) n 0 left
      (counted_wrote limit m b cap n 0 object.birth 0 0 (owner_word None ∷ []) v.1 (counted_taken limit m b cap p (owner_word owned ∷ []) 0 0 m begin))) in
      let one = one_wide p giver.owns in
      record {
        bounded = all.bounded;
        grows = record { births = let x = all.births in omega (arith, x, one); clock = let x = all.clock in omega (arith, x) };
      }

  given_behind : IfGot (given_to (local_parts types f from) (spot_seen to) object.birth (meant types c rows)) (IsBehind limit (meant types c rows))
  given_behind =
      let p : Parts = local_parts types f from in
      got_then (giving p (owned_in (slice_index (slot_words m object.birth 0) 0))) (λ owned. Got (moved_to p (spot_seen to) object.birth (taken p (owner_word owned ∷ []) m))) (λ owned. Unit {0}) (IsBehind limit m)
      (anything (giving p (owned_in (slice_index (slot_words m object.birth 0) 0))))
      (λ owned h. moved_behind owned)
    where
      anything : (x : Attempt (Option ℕ)) → IfGot x (λ owned. Unit {0})
      anything (Got a) = tt
      anything (GotTrap kind) = tt
      anything (GotFault kind) = tt
      anything GotLost = tt

  -- behind it
  module _ (d : Content) (new : Rows) (gets : Gets {A = Unit {0}} (kinds_of types) (given_to (local_parts types f from) (spot_seen to) object.birth (meant types c rows)) (Ok tt) d new) where
    pub behind_give : IsBehind limit (meant types c rows) (meant types d new)
    behind_give = got_behind {A = Unit {0}} (kinds_of types) limit m (given_to (local_parts types f from) (spot_seen to) object.birth m) d new tt given_behind gets

    pub fits_give : AreRowed (kinds_of types) d new → Later c d rows new → IsFit types d new cells
    fits_give rowed later = fits_behind types c d rows new cells giver.target.owner.ready.early giver.target.owner.ready.fits.held gets.2.housed rowed later (grows_behind types limit c d rows new behind_give)
