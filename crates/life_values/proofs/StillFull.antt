-- A buffer that was full, in a store in which nothing has changed: its elements go over to another one.
use Rattle.std.proofs.Common.{◌≡◌, ℕ, ◌+◌, ◌*◌, ◌<◌, ◌≤◌, ◌^◌, Bool, false, List, length, Some, Result, Ok, OnOk, subst, sym}
use Rattle.life_types.specs.Types.{Types}
use Rattle.life_store.specs.Cells.{at}
use Rattle.life_store.specs.Content.{Object, Content}
use Rattle.life_store.specs.Edits.{grown, regrown, with_room}
use Rattle.life_store.specs.Effects.{Setting, GotTrap}
use Rattle.life_store.specs.Parts.{parts_at, width}
use Rattle.life_store.specs.References.{Rows, asked_of, object_of, shape_of}
use Rattle.life_store.specs.declared.object.BirthFault.{BirthFault}
use Rattle.life_store.specs.declared.object.ObjRef.{ObjRef}
use Rattle.life_store.specs.declared.object.Shape.{Shape}
use Rattle.life_store.specs.declared.run.Growth.{Growth}
use Rattle.life_store.specs.declared.run.TrapKind.TheVariants as trap
use Rattle.life_seen.specs.Housed.{Later}
use Rattle.life_seen.specs.Kinds.{kinds_of}
use Rattle.life_seen.specs.Seen.{seen}
use Rattle.life_values.specs.Layouts.{leaves_at, AreLaid}
use Rattle.life_values.specs.Moved.{place}
use Rattle.life_values.specs.Regrown.{then_owned, CanGrow}
use Rattle.life_values.specs.Texts.{IsBuffer}
use Rattle.life_values.specs.Widened.{Widens}
use Rattle.life_values.specs.declared.layout.Layout.{Layout}
use Rattle.life_values.specs.declared.spot.Spot.{Spot}
use Rattle.life_values.proofs.MakingRoom.{room_huge, room_regrown}

-- what holds of one holds of the other
module _ (c d : Content) (rows new : Rows) (same : d ≡ c) (rows_same : new ≡ rows) where
  still : (P : Content → Rows → Type 0) → P c rows → P d new
  still P h = subst (P d) (sym rows_same) (subst (λ x. P x rows) (sym same) h)

  before : (P : Content → Rows → Type 0) → P d new → P c rows
  before P h = subst (λ x. P x rows) same (subst (P d) rows_same h)

module _ (types : Types) (layouts : List Layout) (laid : AreLaid types layouts) (spot : Spot) (b : ObjRef) (c : Content) (rows : Rows) (can : CanGrow types spot b c rows) (result : Bool) (no : result ≡ false) (d : Content) (new : Rows)
    (widened : (o : Object) → at (seen (kinds_of types) c rows).objects b.birth ≡ Some o → Widens (kinds_of types) b.birth o (seen (kinds_of types) c rows) result d new) (content_stays : result ≡ false → d ≡ c) (rows_stay : result ≡ false → new ≡ rows) where
  pub can_still : CanGrow types spot b d new
  can_still = still c d rows new (content_stays no) (rows_stay no) (CanGrow types spot b) can

  abbrev FewBirths : Content → Rows → Type 0
  FewBirths x y = (o : Object) → at (seen (kinds_of types) x y).objects b.birth ≡ Some o → x.births + 1 + length o.slots * length (leaves_at layouts o.ty) < 2 ^ 63

  pub few_births : ((o : Object) → at (seen (kinds_of types) c rows).objects b.birth ≡ Some o → c.births + 1 + length o.slots * length (leaves_at layouts o.ty) < 2 ^ 63)
      → (o : Object) → at (seen (kinds_of types) d new).objects b.birth ≡ Some o → d.births + 1 + length o.slots * length (leaves_at layouts o.ty) < 2 ^ 63
  few_births few = still c d rows new (content_stays no) (rows_stay no) FewBirths few

  pub few_moments : c.clock + 1 < 2 ^ 63 → d.clock + 1 < 2 ^ 63
  few_moments few = subst (λ (x : Content). x.clock + 1 < 2 ^ 63) (sym (content_stays no)) few

  pub later_still : {A B : Type 0} (r : Result A B) (e : Content) (after : Rows) → OnOk r (Later d e new after) → OnOk r (Later c e rows after)
  later_still r e after l = before c d rows new (content_stays no) (rows_stay no) (λ x y. OnOk r (Later x e y after)) l

  module _ (shape : Shape) (asked : asked_of (object_of d new b) shape_of ≡ Ok shape) (s : Setting) (o : Object) (there : at (seen (kinds_of types) c rows).objects b.birth ≡ Some o) (policy : Growth) (by : s.given.growth ≡ policy) where
    pub there_still : at (seen (kinds_of types) d new).objects b.birth ≡ Some o
    there_still = still c d rows new (content_stays no) (rows_stay no) (λ x y. at (seen (kinds_of types) x y).objects b.birth ≡ Some o) there

    full : o.capacity ≤ length o.slots
    full = (subst (λ x. Widens (kinds_of types) b.birth o (seen (kinds_of types) c rows) x d new) no (widened o there)).0

    pub full_regrown : (more : ℕ) → more ≡ grown policy shape.length shape.capacity → (r : Result ObjRef BirthFault) (e : Content) (after : Rows)
        → IsBuffer (kinds_of types) (then_owned (place spot) (regrown s o.ty (parts_at types o.ty) b.birth more (shape.length + 1) (seen (kinds_of types) d new))) r e after
        → IsBuffer (kinds_of types) (then_owned (place spot) (with_room s o.ty (parts_at types o.ty) b.birth (seen (kinds_of types) c rows))) r e after
    full_regrown more is r e after came =
        before c d rows new (content_stays no) (rows_stay no) (λ x y. IsBuffer (kinds_of types) (then_owned (place spot) (with_room s o.ty (parts_at types o.ty) b.birth (seen (kinds_of types) x y))) r e after)
        (room_regrown types layouts laid spot b d new can_still shape asked s o there_still full policy by more is r e after came)

    pub full_huge : (limit : ℕ) → s.given.cells ≡ limit → limit < 2 ^ 32 → 2 ^ 32 ≤ grown policy shape.length shape.capacity → 1 ≤ width (parts_at types o.ty)
        → then_owned (place spot) (with_room s o.ty (parts_at types o.ty) b.birth (seen (kinds_of types) c rows)) ≡ GotTrap trap.Cells
    full_huge limit cells few huge wide =
        before c d rows new (content_stays no) (rows_stay no) (λ x y. then_owned (place spot) (with_room s o.ty (parts_at types o.ty) b.birth (seen (kinds_of types) x y)) ≡ GotTrap trap.Cells)
        (room_huge types layouts laid spot b d new can_still shape asked s o there_still full policy by limit cells few huge wide)
