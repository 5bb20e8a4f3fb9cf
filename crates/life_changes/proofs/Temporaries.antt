-- A temporary of a frame that gives its value over: it is in the hand, so no owner has it.
use Rattle.std.proofs.Common.{◌≡◌, ◌≢◌, ⊎_elim, ℕ, ◌+◌, ◌<◌, ◌≤◌, List, length, Some, sym, ap, subst, ◌∙◌, arith, mul-le-mul_left}
use Rattle.std.proofs.lemmas.Option.{slice_get-map}
use Rattle.std.specs.Prelude.{option_map, slice_get}
use Rattle.life_types.specs.Types.{Types}
use Rattle.life_types.specs.declared.ty.TyId.{TyId}
use Rattle.life_core.specs.Function.{Function}
use Rattle.life_core.specs.Step.{PushBack}
use Rattle.life_store.specs.Cells.{at, at-unset_other, unset}
use Rattle.life_store.specs.Content.{Object, Content, cost, live_words_of}
use Rattle.life_store.specs.Parts.{Vector, local_type, parts_at, width_at}
use Rattle.life_store.specs.References.{Rows}
use Rattle.life_store.specs.State.{Named}
use Rattle.life_store.specs.declared.object.ObjRef.{ObjRef}
use Rattle.life_store.proofs.CellLemmas.{some_same}
use Rattle.life_store.proofs.MapLemmas.{sum-unset}
use Rattle.life_forest.specs.FrameTypes.{IsVariable}
use Rattle.life_forest.specs.Kinds.{kinds_of as forest_kinds}
use Rattle.life_forest.proofs.Following.{in_hand as named_in_hand, IsOwned}
use Rattle.life_forest.proofs.StandingSteps.{IsTypedChange}
use Rattle.life_forest.proofs.Steps.{alive_le}
use Rattle.life_pointers.specs.declared.owned.Spot.{Spot}
use Rattle.life_cells.specs.Cells.{cell_seen, cells_seen, state_in}
use Rattle.life_cells.specs.Fits.{meant}
use Rattle.life_cells.specs.declared.cell.Cell.{Cell}
use Rattle.life_cells.specs.declared.cell.Cell.TheVariants as held
use Rattle.life_cells.proofs.FitLemmas.{cell_fits}
use Rattle.life_changes.specs.Owners.{OwnerAt}
use Rattle.life_changes.proofs.Frames.{in_hand}
use Rattle.life_changes.proofs.Owned.{ref_placed}

-- two objects that live are counted both
pub cost_both : (c : Content) (n m : ℕ) (o q : Object) → n ≢ m → at c.objects n ≡ Some o → at c.objects m ≡ Some q → cost o + cost q ≤ live_words_of c
cost_both c n m o q ne there also =
    let first = sum-unset cost c.objects n o there in
    let other = sum-unset cost (unset c.objects n) m q (at-unset_other c.objects n m ne ∙ also) in
    omega (arith, first, other)

module _ (types : Types) (f : Function) (limit depth : ℕ) (ty : TyId) (spot : Spot) (c : Content) (rows : Rows) (cells : List Cell) (now : OwnerAt types f limit depth ty spot c rows cells) (x : ℕ) (r : ObjRef) (has : slice_get cells x ≡ Some (held.Object r)) where
  pub named : slice_get (cells_seen cells) x ≡ Some (Named r.birth)
  named = slice_get-map cell_seen cells x ∙ ap (option_map cell_seen) has

  pub variable : IsVariable (meant types c rows) (local_type types f x) r.birth
  variable = now.ready.stands.frame.objects x r.birth named

  pub placed : at rows r.birth ≡ Some r.row
  placed = ref_placed types c rows now.ready.fits.housed r (cell_fits c rows cells x (held.Object r) now.ready.fits.held has) variable.object variable.there

  pub handed : 0 < in_hand types f limit depth ty spot c rows cells now r.birth
  handed = let h = named_in_hand (cells_seen cells) x r.birth named in omega (arith, h)

  -- what an owner has is another object
  pub apart : (b : ℕ) → IsOwned types (meant types c rows) b → b ≢ r.birth
  apart b owned same =
      let hand = subst (λ k. 0 < in_hand types f limit depth ty spot c rows cells now k) (sym same) handed in
      let all = now.ready.stands.store.forest.held b in
      let one = alive_le (forest_kinds types) (meant types c rows) b in
      omega (arith, owned, hand, all, one)

  pub one_slot : length variable.object.slots ≡ 1
  one_slot = ap length variable.one

  -- a vector of its type takes it, and no string
  pub is_given : IsTypedChange types f (state_in (meant types c rows) cells) ty (PushBack x) → (id : TyId) × (parts_at types ty ≡ Vector id (parts_at types id)) × (local_type types f x ≡ Some id)
  is_given typed = ⊎_elim (λ t. absurd (t.2 r.birth named)) (λ t. (t.0, t.1, t.2.1 r.birth named)) typed

  -- it is of the type
  module _ (id : TyId) (typed : local_type types f x ≡ Some id) where
    pub type_is : variable.object.ty ≡ id
    type_is = some_same (sym variable.type ∙ typed)

    pub width_is : variable.object.width ≡ width_at types id
    width_is = (now.ready.stands.store.fit r.birth variable.object variable.there).width ∙ ap (width_at types) type_is

    -- .. so its words are counted
    pub counted : 2 + width_at types id ≤ cost variable.object
    counted =
        let room = now.ready.bounded.roomy r.birth variable.object variable.there in
        let size = one_slot in
        let many = mul-le-mul_left {m = 1} {n = variable.object.capacity} variable.object.width (omega (arith, room, size)) in
        let wide = width_is in
        omega (arith, many, wide)
