-- What the edits of a vector in a store come to are the meaning's own.
use Rattle.std.proofs.Common.{◌≡◌, ℕ, List, [], ◌∷◌, length, sym, ap, ◌∙◌}
use Rattle.life_types.specs.Types.{Types}
use Rattle.life_types.specs.declared.ty.TyId.{TyId}
use Rattle.life_store.specs.Content.{Object, Content}
use Rattle.life_store.specs.Edits as meaning
use Rattle.life_store.specs.Edits.{cleared, edited, popped, pushed, reserved, size_of}
use Rattle.life_store.specs.Effects.{Setting, Got}
use Rattle.life_store.specs.Parts.{Parts, Vector, parts_at}
use Rattle.life_store.specs.References.{Rows}
use Rattle.life_store.specs.declared.object.ObjRef.{ObjRef}
use Rattle.life_forest.specs.Kinds.{kinds_of as forest_kinds}
use Rattle.life_values.specs.Cleared.{cleared_words}
use Rattle.life_values.specs.Ended.{ended_number}
use Rattle.life_values.specs.Layouts.{owners_at, AreLaid}
use Rattle.life_values.specs.Popped.{popped_words}
use Rattle.life_values.specs.declared.layout.Layout.{Layout}
use Rattle.life_values.proofs.OneOwner.{owners_by_parts}
use Rattle.life_pointers.specs.Owned.{spot_seen}
use Rattle.life_pointers.specs.declared.owned.Spot.{Spot}
use Rattle.life_cells.specs.Fits.{meant}
use Rattle.life_changes.specs.Owners.{HasBuffer}
use Rattle.life_changes.proofs.Owned.{vector_parts, OwnsParts}
use Rattle.life_changes.proofs.Pushed.{push_same, reserve_same}
use Rattle.life_changes.proofs.Vectors as vectors

module _ (types : Types) (layouts : List Layout) (laid : AreLaid types layouts) (limit depth : ℕ) (hand : ℕ → ℕ) (ty : TyId) (spot : Spot) (b : ObjRef) (c : Content) (rows : Rows) (own : HasBuffer types limit depth hand ty spot b c rows) (id : TyId) (element : Parts) (is : parts_at types ty ≡ Vector id element) where
  abbrev owns : OwnsParts types ty id element
  owns = vector_parts types own.stands.served.ordered ty id element is

  abbrev m : Content
  m = meant types c rows

  abbrev ob : Object
  ob = vectors.ob types limit depth hand ty spot b c rows own id element owns

  pub number_edited : (s : Setting) (number : ℕ) → pushed s ob.ty (parts_at types ob.ty) (spot_seen spot) b.birth (λ c. (number ∷ [], c)) (meant types c rows) ≡ edited s (parts_at types ty) (spot_seen spot) b.birth (meaning.Push (λ c. (number ∷ [], c))) (meant types c rows)
  number_edited s number =
      push_same types layouts laid limit depth hand ty spot b c rows own id element owns s (λ c. (number ∷ [], c))
      ∙ ap (λ (p : Parts). edited s p (spot_seen spot) b.birth (meaning.Push (λ c. (number ∷ [], c))) m) (sym is)

  pub reserve_edited : (s : Setting) (n : ℕ) → reserved s ob.ty (parts_at types ob.ty) (spot_seen spot) b.birth n (meant types c rows) ≡ edited s (parts_at types ty) (spot_seen spot) b.birth (meaning.Reserve n) (meant types c rows)
  reserve_edited s n =
      reserve_same types layouts laid limit depth hand ty spot b c rows own id element owns s n
      ∙ ap (λ (p : Parts). edited s p (spot_seen spot) b.birth (meaning.Reserve n) m) (sym is)

  pub pop_edited : (s : Setting) → popped_words (ended_number (forest_kinds types) depth) (owners_at layouts ob.ty) b.birth (length ob.slots) (meant types c rows) ≡ edited s (parts_at types ty) (spot_seen spot) b.birth meaning.Pop (meant types c rows)
  pop_edited s =
      ap (λ us. popped_words (ended_number (forest_kinds types) depth) us b.birth (length ob.slots) m) (owners_by_parts types layouts laid ob.ty)
      ∙ vectors.pop_meant types limit depth hand ty spot b c rows own id element owns
      ∙ ap (λ (p : Parts). edited s p (spot_seen spot) b.birth meaning.Pop m) (sym is)

  pub clear_edited : (s : Setting) → Got (cleared_words (ended_number (forest_kinds types) depth) (owners_at layouts ob.ty) b.birth (length ob.slots) (meant types c rows)) ≡ edited s (parts_at types ty) (spot_seen spot) b.birth meaning.Clear (meant types c rows)
  clear_edited s =
      ap (λ us. Got (cleared_words (ended_number (forest_kinds types) depth) us b.birth (length ob.slots) m)) (owners_by_parts types layouts laid ob.ty)
      ∙ ap (λ (x : Content). Got x) (vectors.clear_meant types limit depth hand ty spot b c rows own id element owns)
      ∙ ap (λ (p : Parts). edited s p (spot_seen spot) b.birth meaning.Clear m) (sym is)
