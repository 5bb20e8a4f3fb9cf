-- A vector in a store gains an element, or room: what is asked of the store, and what it then shows.
use Rattle.std.proofs.Common.{◌≡◌, ℕ, ◌+◌, ◌*◌, ◌<◌, ◌≤◌, ◌^◌, List, length, Some, sym, ap, subst, ◌∙◌, arith, mul-le-mul_left}
use Rattle.std.proofs.lemmas.Option.{same_Some}
use Rattle.life_types.specs.Types.{Types}
use Rattle.life_types.specs.declared.ty.TyId.{TyId}
use Rattle.life_store.specs.Cells.{at}
use Rattle.life_store.specs.Content.{Object, Content}
use Rattle.life_store.specs.Edits.{pushed, reserved}
use Rattle.life_store.specs.Effects.{Setting}
use Rattle.life_store.specs.Owners.{Words}
use Rattle.life_store.specs.Parts.{Parts, parts_at, width}
use Rattle.life_store.specs.References.{Rows}
use Rattle.life_store.specs.declared.object.ObjRef.{ObjRef}
use Rattle.life_values.specs.Layouts.{leaves_at, AreLaid}
use Rattle.life_values.specs.declared.layout.Layout.{Layout}
use Rattle.life_values.specs.declared.layout.Leaf.{Leaf}
use Rattle.life_values.proofs.OneOwner.{leaves_by_parts}
use Rattle.life_pointers.specs.Owned.{spot_seen}
use Rattle.life_pointers.specs.declared.owned.Spot.{Spot}
use Rattle.life_cells.specs.Fits.{meant}
use Rattle.life_changes.specs.Owners.{HasBuffer}
use Rattle.life_changes.proofs.Leaves.{flat_short}
use Rattle.life_changes.proofs.Owned.{OwnsParts, elements_within, parts_are, type_is}
use Rattle.life_changes.proofs.Vectors as vectors

module _ (types : Types) (layouts : List Layout) (laid : AreLaid types layouts) (limit depth : ℕ) (hand : ℕ → ℕ) (ty : TyId) (spot : Spot) (b : ObjRef) (c : Content) (rows : Rows) (own : HasBuffer types limit depth hand ty spot b c rows) (id : TyId) (element : Parts) (owns : OwnsParts types ty id element) where
  abbrev ob : Object
  ob = vectors.ob types limit depth hand ty spot b c rows own id element owns

  there : at (meant types c rows).objects b.birth ≡ Some ob
  there = vectors.there types limit depth hand ty spot b c rows own id element owns

  -- each part of an element has a word
  pub parts_short : length (leaves_at layouts ob.ty) ≤ width element
  parts_short =
      let e = ap (λ (ls : List Leaf). length ls) (leaves_by_parts types layouts laid ob.ty) in
      let f = flat_short (parts_at types ob.ty) 0 in
      let w = ap width (parts_are types limit depth hand ty spot c rows own.stands id element owns b.birth own.owned) in
      omega (arith, e, f, w)

  pub parts_within : length ob.slots * length (leaves_at layouts ob.ty) ≤ length ob.slots * width element
  parts_within = mul-le-mul_left {m = length (leaves_at layouts ob.ty)} {n = width element} (length ob.slots) parts_short

  -- so many numbers can be given
  pub few_births : (o : Object) → at (meant types c rows).objects b.birth ≡ Some o → c.births + 1 + length o.slots * length (leaves_at layouts o.ty) < 2 ^ 63
  few_births o e =
      subst (λ (x : Object). c.births + 1 + length x.slots * length (leaves_at layouts x.ty) < 2 ^ 63) (same_Some ob o (sym there ∙ e))
      (let p = parts_within in let w = elements_within types limit depth hand ty spot c rows own.stands id element owns b.birth own.owned in let f = own.stands.served.few in let l = own.stands.early.births in omega (arith, p, w, f, l))

  pub soon : c.clock + 1 < 2 ^ 63
  soon = let l = own.stands.early.clock in omega (arith, l)

  -- the meaning has the type of the elements
  type_of : ob.ty ≡ id
  type_of = type_is types limit depth hand ty spot c rows own.stands id element owns b.birth own.owned

  elements_are : parts_at types ob.ty ≡ element
  elements_are = parts_are types limit depth hand ty spot c rows own.stands id element owns b.birth own.owned

  pub push_same : (s : Setting) (value : Content → Words) → pushed s ob.ty (parts_at types ob.ty) (spot_seen spot) b.birth value (meant types c rows) ≡ pushed s id element (spot_seen spot) b.birth value (meant types c rows)
  push_same s value = (λ j. pushed s (type_of j) (elements_are j) (spot_seen spot) b.birth value (meant types c rows))

  pub reserve_same : (s : Setting) (n : ℕ) → reserved s ob.ty (parts_at types ob.ty) (spot_seen spot) b.birth n (meant types c rows) ≡ reserved s id element (spot_seen spot) b.birth n (meant types c rows)
  reserve_same s n = (λ j. reserved s (type_of j) (elements_are j) (spot_seen spot) b.birth n (meant types c rows))
