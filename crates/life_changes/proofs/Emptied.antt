-- What a value of one word owns may end, and another object may take its place.
use Rattle.std.proofs.Common.{◌≡◌, ℕ, zero, suc, ◌+◌, ◌≤◌, [], ◌∷◌, Some, sym, ap, subst, ◌∙◌, arith}
use Rattle.std.proofs.lemmas.Option.{none-some, same_Some}
use Rattle.std.specs.Prelude.{slice_get}
use Rattle.life_types.specs.Types.{Types}
use Rattle.life_types.specs.declared.ty.TyId.{TyId}
use Rattle.life_store.specs.Content.{CanCount, Object, Content, with_object}
use Rattle.life_store.specs.Held.{words_at}
use Rattle.life_store.specs.Parts.{Parts, parts_at, width}
use Rattle.life_store.specs.References.{Rows}
use Rattle.life_forest.specs.Kinds.{kinds_of as forest_kinds}
use Rattle.life_forest.specs.Values.{Known}
use Rattle.life_seen.specs.Kinds.{kinds_of}
use Rattle.life_values.specs.Emptied.{CanEmpty}
use Rattle.life_values.proofs.EmptiedMeant as ends
use Rattle.life_pointers.specs.declared.owned.Spot.{Spot}
use Rattle.life_cells.specs.Fits.{meant}
use Rattle.life_changes.specs.Owners.{widened, StandsAt}
use Rattle.life_changes.proofs.Inside.{deep_enough}
use Rattle.life_changes.proofs.Owned.{OwnsParts, are_sized, owns_there}
use Rattle.life_changes.proofs.Places.{ends_there, known_there}

-- a list of one
pub only : (x j u : ℕ) → slice_get (x ∷ []) j ≡ Some u → u ≡ x
only x zero u e = sym (same_Some x u e)
only x (suc j) u e = absurd (none-some u e)

module _ (types : Types) (limit depth : ℕ) (hand : ℕ → ℕ) (ty : TyId) (spot : Spot) (c : Content) (rows : Rows) (here : StandsAt types limit depth hand ty spot c rows) (id : TyId) (element : Parts) (owns : OwnsParts types ty id element) where
  pub countable : CanCount c
  countable = record { births = let e = here.early.births in omega (arith, e); clock = let e = here.early.clock in omega (arith, e) }

  pub deep : (forest_kinds types).rank here.object.ty ≤ depth
  deep = let d = deep_enough types depth here.object.ty here.served.deep in omega (arith, d)

  abbrev pub can_empty : CanEmpty (kinds_of types) (forest_kinds types) depth (widened spot) (0 ∷ []) c rows
  can_empty = record {
    housed = here.housed;
    placed = here.placed;
    sized = are_sized types limit depth hand ty spot c rows here;
    hand = hand;
    forest = here.store.forest;
    object = here.object;
    there = here.place.there;
    slot = here.place.slot;
    own = λ j u e.
        let z : spot.word + u ≡ spot.word = (let k = only 0 j u e in omega (arith, k)) in
        ap (kinds_of types here.object.ty) z ∙ owns_there types limit depth hand ty spot c rows here id element owns;
    small = λ j u e. let k = only 0 j u e in let s = here.small in omega (arith, k, s);
    deep = deep;
  }

  -- what it owns is known, by its parts
  module _ (p : Parts) (is : parts_at types ty ≡ p) where
    pub ends_at : ends.IsPlace (forest_kinds types) depth spot.object.birth spot.index spot.word p here.object
    ends_at =
        subst (λ (q : Parts). ends.IsPlace (forest_kinds types) depth spot.object.birth spot.index spot.word q here.object) is
        (ends_there types here.served.ordered hand (meant types c rows) here.store ty spot.object.birth spot.index spot.word here.object here.place depth)

    pub known_at : (q : Object) → Known (forest_kinds types) (with_object spot.object.birth q (meant types c rows)) p (words_at (meant types c rows) spot.object.birth spot.index spot.word (width p))
    known_at q =
        subst (λ (r : Parts). Known (forest_kinds types) (with_object spot.object.birth q (meant types c rows)) r (words_at (meant types c rows) spot.object.birth spot.index spot.word (width r))) is
        (known_there types here.served.ordered hand (meant types c rows) here.store ty spot.object.birth spot.index spot.word here.object here.place q)
