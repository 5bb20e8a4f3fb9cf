-- What the operand of a slot hands over, lends and has back, by what it is.
use Rattle.std.proofs.Common.{◌≡◌, true, false, Option, Some, None, Err, refl, sym, ap}
use Rattle.std.proofs.lemmas.Bool.{false≢true}
use Rattle.std.proofs.lemmas.Option.{none-some}
use Rattle.life_types.specs.Types.{Types}
use Rattle.life_core.specs.Function.{Function}
use Rattle.life_core.specs.Operands.{Location}
use Rattle.life_store.specs.Calls.{pointer_handed, slot_handed, slot_lent, slot_returned, spot_lent, target_handed}
use Rattle.life_store.specs.Content.{Content}
use Rattle.life_store.specs.Effects.{Effect, Strays, cell, on_got}
use Rattle.life_store.specs.Parts.{Parts, Single, Raw, Iterates, Views, Text, Vector, Unique, Member, NoMember}
use Rattle.life_store.specs.Places.{Spot as Place, location_cell, owner_spot_if}
use Rattle.life_store.specs.State.{Cell, Empty, Named, Number, Pointer, Points, State}
use Rattle.life_pointers.specs.Attempts.{tried}
use Rattle.life_pointers.specs.Owned.{spot_seen}
use Rattle.life_pointers.specs.Places.{ended_by}
use Rattle.life_pointers.specs.declared.stop.Stop.{Stop}
use Rattle.life_pointers.specs.declared.stop.Stop.TheVariants as stop
use Rattle.life_cells.specs.Asked.{is_unique}
use Rattle.life_cells.specs.Cells.{object_in, pointer_in}
use Rattle.life_cells.proofs.CellLemmas.{points}

true_false : true ≡ false → ⊥
true_false e = cc

module _ (types : Types) (f : Function) (l : Location) (st : State) where
  -- ---- a unique_ptr

  pub owner_hands : (p : Parts) → is_unique p ≡ true → slot_handed types f p l st ≡ target_handed st.world.content (owner_spot_if types f l (cell st l.local))
  owner_hands Single e = absurd (false≢true e)
  owner_hands Raw e = absurd (false≢true e)
  owner_hands Iterates e = absurd (false≢true e)
  owner_hands Views e = absurd (false≢true e)
  owner_hands (Text id) e = absurd (false≢true e)
  owner_hands (Vector id element) e = absurd (false≢true e)
  owner_hands (Unique id target) e = refl
  owner_hands (Member first others) e = absurd (false≢true e)
  owner_hands NoMember e = absurd (false≢true e)

  pub owner_lends : (p : Parts) → is_unique p ≡ true → slot_lent types f p l st ≡ spot_lent (owner_spot_if types f l (cell st l.local)) st
  owner_lends Single e = absurd (false≢true e)
  owner_lends Raw e = absurd (false≢true e)
  owner_lends Iterates e = absurd (false≢true e)
  owner_lends Views e = absurd (false≢true e)
  owner_lends (Text id) e = absurd (false≢true e)
  owner_lends (Vector id element) e = absurd (false≢true e)
  owner_lends (Unique id target) e = refl
  owner_lends (Member first others) e = absurd (false≢true e)
  owner_lends NoMember e = absurd (false≢true e)

  -- ---- a pointer

  pub pointer_hands : (p : Parts) → is_unique p ≡ false → slot_handed types f p l st ≡ pointer_handed (location_cell types f l st)
  pointer_hands Single e = refl
  pointer_hands Raw e = refl
  pointer_hands Iterates e = refl
  pointer_hands Views e = refl
  pointer_hands (Text id) e = refl
  pointer_hands (Vector id element) e = refl
  pointer_hands (Unique id target) e = absurd (true_false e)
  pointer_hands (Member first others) e = refl
  pointer_hands NoMember e = refl

  pub pointer_stays : (p : Parts) → is_unique p ≡ false → slot_lent types f p l st ≡ st
  pointer_stays Single e = refl
  pointer_stays Raw e = refl
  pointer_stays Iterates e = refl
  pointer_stays Views e = refl
  pointer_stays (Text id) e = refl
  pointer_stays (Vector id element) e = refl
  pointer_stays (Unique id target) e = absurd (true_false e)
  pointer_stays (Member first others) e = refl
  pointer_stays NoMember e = refl

  -- ---- what comes back

  -- neither an object nor a pointer
  pub nothing_back : (v : Cell) → None ≡ object_in (Some v) → None ≡ pointer_in (Some v) → slot_returned types f l v st ≡ Strays
  nothing_back Empty e k = refl
  nothing_back (Named n) e k = absurd (none-some n e)
  nothing_back (Number z) e k = refl
  nothing_back (Points p) e k = absurd (none-some p k)

-- where there is no unique_ptr
pub no_target : (c : Content) (e : Stop) → target_handed c (tried spot_seen (Err e)) ≡ None
no_target c (stop.Trap kind) = refl
no_target c (stop.Fault kind) = refl
no_target c stop.Lost = refl

pub none_lent : (e : Stop) (st : State) → spot_lent (tried spot_seen (Err e)) st ≡ st
none_lent (stop.Trap kind) st = refl
none_lent (stop.Fault kind) st = refl
none_lent stop.Lost st = refl

pub none_found : (e : Stop) (go : Place → Effect) → on_got (tried spot_seen (Err e)) go ≡ ended_by e
none_found (stop.Trap kind) go = refl
none_found (stop.Fault kind) go = refl
none_found stop.Lost go = refl

-- where there is no pointer
pub no_pointer_handed : (o : Option Cell) → None ≡ pointer_in o → None ≡ pointer_handed o
no_pointer_handed None e = refl
no_pointer_handed (Some Empty) e = refl
no_pointer_handed (Some (Named n)) e = refl
no_pointer_handed (Some (Number z)) e = refl
no_pointer_handed (Some (Points p)) e = absurd (none-some p e)

pub pointer_is_handed : (o : Option Cell) (p : Pointer) → Some p ≡ pointer_in o → Some (Points p) ≡ pointer_handed o
pointer_is_handed o p e = sym (ap pointer_handed (points o p e))
