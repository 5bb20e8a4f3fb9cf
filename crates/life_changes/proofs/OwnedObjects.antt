-- A unique_ptr in a store owns an object that was just born.
use Rattle.std.proofs.Common.{◌≡◌, ℕ, ◌+◌, ◌<◌, [], ◌∷◌, Some, Ok, Err, refl, sym, ap, subst, ◌∙◌, arith}
use Rattle.life_types.specs.Types.{Types}
use Rattle.life_types.specs.declared.ty.TyId.{TyId}
use Rattle.life_store.specs.Cells.{at}
use Rattle.life_store.specs.Content.{Content}
use Rattle.life_store.specs.Doing.{replaced}
use Rattle.life_store.specs.Effects.{Setting, Attempt}
use Rattle.life_store.specs.Held.{owner_word}
use Rattle.life_store.specs.Owners.{Words, object_with}
use Rattle.life_store.specs.Parts.{Parts, Unique, parts_at}
use Rattle.life_store.specs.References.{Rows}
use Rattle.life_store.specs.declared.object.BirthFault.{BirthFault}
use Rattle.life_store.specs.declared.object.BirthFault.TheVariants as birth_fault
use Rattle.life_store.specs.declared.object.ObjRef.{ObjRef}
use Rattle.life_forest.specs.Kinds.{kinds_of as forest_kinds}
use Rattle.life_forest.specs.Owned.{times}
use Rattle.life_forest.proofs.Below.{lives}
use Rattle.life_forest.proofs.Coming.{IfGot}
use Rattle.life_forest.proofs.Counting.{one_same}
use Rattle.life_seen.specs.Housed.{Later, Shows}
use Rattle.life_seen.specs.Kinds.{kinds_of}
use Rattle.life_seen.specs.Rowed.{AreRowed}
use Rattle.life_pointers.specs.Owned.{spot_seen}
use Rattle.life_pointers.specs.declared.owned.Spot.{Spot}
use Rattle.life_cells.specs.Fits.{meant}
use Rattle.life_changes.specs.Bounded.{Grows, IsBounded, IsEarly}
use Rattle.life_changes.specs.Failures.{unborn}
use Rattle.life_changes.specs.NewObjects.{made_with, owned_then, Bears}
use Rattle.life_changes.specs.Owners.{StandsAt}
use Rattle.life_changes.specs.Steps.{Gets}
use Rattle.life_changes.proofs.Frames.{IsBehind}
use Rattle.life_changes.proofs.MadeObjects.{remade_behind, stands_made, IsMade}
use Rattle.life_changes.proofs.Owned.{ref_placed}

module _ (types : Types) (ty id : TyId) (unique : parts_at types ty ≡ Unique id (parts_at types id)) (spot : Spot) (c : Content) (rows : Rows) (s : Setting) (value : Parts → Content → Attempt Words) where
  -- no object was born
  pub owns_none : (fault : BirthFault) (d : Content) (new : Rows) → Bears (kinds_of types) (object_with s id (parts_at types id) (value (parts_at types id)) (meant types c rows)) (Err fault) d new
      → Gets {A = Unit {0}} (kinds_of types) (made_with s (parts_at types ty) (spot_seen spot) value (meant types c rows)) (Err (unborn fault)) d new
  owns_none birth_fault.Cells d new full =
      ap (λ (p : Parts). made_with s p (spot_seen spot) value (meant types c rows)) unique ∙ ap (owned_then (Unique id (parts_at types id)) (spot_seen spot)) full
  owns_none birth_fault.NoMemory d new full = tt

  -- one was, and the word owns it
  pub owns_it : (r : ObjRef) (d : Content) (new : Rows) → Bears (kinds_of types) (object_with s id (parts_at types id) (value (parts_at types id)) (meant types c rows)) (Ok r) d new
      → (e : Content) (after : Rows) → Shows (kinds_of types) e after (replaced (parts_at types ty) (spot_seen spot) (owner_word (Some r.birth) ∷ [], meant types d new))
      → Gets {A = Unit {0}} (kinds_of types) (made_with s (parts_at types ty) (spot_seen spot) value (meant types c rows)) (Ok tt) e after
  owns_it r d new bears e after shown = (
    replaced (Unique id (parts_at types id)) (spot_seen spot) (owner_word (Some r.birth) ∷ [], bears.0),
    ap (λ (p : Parts). made_with s p (spot_seen spot) value (meant types c rows)) unique ∙ ap (owned_then (Unique id (parts_at types id)) (spot_seen spot)) bears.1,
    record { housed = shown.housed; is = shown.is ∙ (λ j. replaced (unique j) (spot_seen spot) (owner_word (Some r.birth) ∷ [], bears.2.is j)) },
  )

module _ (types : Types) (limit depth : ℕ) (hand : ℕ → ℕ) (ty : TyId) (spot : Spot) (c : Content) (rows : Rows) (here : StandsAt types limit depth hand ty spot c rows) (early : IsEarly c) (id : TyId) (unique : parts_at types ty ≡ Unique id (parts_at types id))
    (left : ℕ → ℕ) (s : Setting) (value : Parts → Content → Attempt Words)
    (all : IfGot (object_with s id (parts_at types id) (value (parts_at types id)) (meant types c rows)) (IsMade types limit left spot.object.birth here.object (meant types c rows)))
    (r : ObjRef) (d : Content) (new : Rows) (bears : Bears (kinds_of types) (object_with s id (parts_at types id) (value (parts_at types id)) (meant types c rows)) (Ok r) d new) (rowed : AreRowed (kinds_of types) d new) (later : Later c d rows new) where
  made : IsMade types limit left spot.object.birth here.object (meant types c rows) (r.birth, bears.0)
  made = subst (λ (y : Attempt (ℕ × Content)). IfGot y (IsMade types limit left spot.object.birth here.object (meant types c rows))) bears.1 all

  pub stands_then : StandsAt types limit depth (λ k. times (r.birth ∷ []) k + left k) ty spot d new
  stands_then = stands_made types limit depth hand ty spot c rows here early left (r.birth, bears.0) made d new bears.2 rowed later

  pub held_then : 0 < times (r.birth ∷ []) r.birth + left r.birth
  held_then = let one = one_same r.birth r.birth refl in omega (arith, one)

  pub placed_then : at new r.birth ≡ Some r.row
  placed_then =
      let held = stands_then.store.forest.held r.birth in
      let some = held_then in
      let x = lives (forest_kinds types) (meant types d new) r.birth (omega (arith, held, some)) in
      ref_placed types d new bears.2.housed r bears.3 x.0 x.1

  pub behind_then : (e : Content) (after : Rows) → Shows (kinds_of types) e after (replaced (parts_at types ty) (spot_seen spot) (owner_word (Some r.birth) ∷ [], meant types d new)) → IsBounded limit (meant types e after) × Grows c e
  behind_then e after shown =
      let is = shown.is ∙ (λ j. replaced (parts_at types ty) (spot_seen spot) (owner_word (Some r.birth) ∷ [], bears.2.is j)) in
      let b = subst (IsBehind limit (meant types c rows)) (sym is) (remade_behind types limit depth hand ty spot c rows here early left (r.birth, bears.0) made (parts_at types ty)) in
      (b.bounded, record { births = b.grows.births; clock = b.grows.clock })
