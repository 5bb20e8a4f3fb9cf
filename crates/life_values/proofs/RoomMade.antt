-- What a vector has when it has got room for one more element: its buffer, or another one.
use Rattle.std.proofs.Common.{◌≡◌, ◌≢◌, ℕ, suc, ◌+◌, ◌<◌, ◌≤◌, ◌^◌, [], ◌∷◌, length, Option, Some, Result, sym, ap, subst, ◌∙◌, arith, mul-le-mul_right}
use Rattle.life_types.specs.declared.ty.TyId.{TyId}
use Rattle.life_store.specs.Cells.{at, at-set_other}
use Rattle.life_store.specs.Content.{Object, Content, resized, with_object, with_word, without, word_at}
use Rattle.life_store.specs.Edits.{filled_by, grown, owns as takes, regrown, with_room}
use Rattle.life_store.specs.Effects.{Setting, Attempt, Got, GotTrap, then_get}
use Rattle.life_store.specs.Held.{owner_word, resized_at, resized_if, slots_at, wrote_if}
use Rattle.life_store.specs.Owners.{taken_slots}
use Rattle.life_store.specs.Parts.{Parts, width}
use Rattle.life_store.specs.Places.{Spot as Place}
use Rattle.life_store.specs.References.{Rows}
use Rattle.life_store.specs.declared.object.BirthFault.{BirthFault}
use Rattle.life_store.specs.declared.object.ObjRef.{ObjRef}
use Rattle.life_store.specs.declared.run.TrapKind.TheVariants as trap
use Rattle.life_seen.specs.Kinds.{Kinds}
use Rattle.life_seen.specs.Seen.{seen}
use Rattle.life_values.specs.Regrown.{then_owned}
use Rattle.life_values.specs.Texts.{IsBuffer}
use Rattle.life_values.proofs.Beginning.{birth_full}
use Rattle.life_values.proofs.ReadWords.{with_same}
use Rattle.life_values.proofs.RegrownMeant.{same_back}
use Rattle.life_values.proofs.Widening.{room_there, room_wanted}

-- an owner that takes what it has
owned_again : (spot : Place) (b : ℕ) (m : Content) (o : Object) → at m.objects spot.object ≡ Some o → word_at o spot.index spot.word ≡ suc b → takes spot b m ≡ m
owned_again spot b m o there own =
    ap (λ (x : Option Object). wrote_if x spot.object spot.index spot.word (owner_word (Some b) ∷ []) m) there
    ∙ ap (λ v. with_object spot.object (with_word spot.index spot.word v o) m) (sym own)
    ∙ ap (λ (x : Object). with_object spot.object x m) (with_same spot.index spot.word o)
    ∙ same_back m spot.object o there

module _ (s : Setting) (ty : TyId) (element : Parts) (spot : Place) (b : ℕ) (m : Content) (o ob : Object) (owner : at m.objects spot.object ≡ Some o) (own : word_at o spot.index spot.word ≡ suc b) (apart : spot.object ≢ b) (there : at m.objects b ≡ Some ob) where
  abbrev wider : Content
  wider = resized_at b (length ob.slots + 1) (length ob.slots) m

  owner_still : at wider.objects spot.object ≡ Some o
  owner_still =
      ap (λ (x : Option Object). at (resized_if x b (length ob.slots + 1) (length ob.slots) m).objects spot.object) there
      ∙ at-set_other m.objects b spot.object (resized (m.clock + 1) (length ob.slots + 1) (length ob.slots) ob) (λ e. apart (sym e)) ∙ owner

  -- there was room in its own
  pub own_buffer : length ob.slots < ob.capacity → then_owned spot (with_room s ty element b m) ≡ Got (b, wider)
  own_buffer lt = ap (then_owned spot) (room_there s ty element b m ob there lt) ∙ ap (λ (x : Content). Got (b, x)) (owned_again spot b wider o owner_still own)

  -- another one has come
  pub other_buffer : (kinds : Kinds) (capacity : ℕ) → ob.capacity ≤ length ob.slots → grown s.given.growth (length ob.slots) ob.capacity ≡ capacity → (result : Result ObjRef BirthFault) (d : Content) (new : Rows)
      → IsBuffer kinds (then_owned spot (regrown s ty element b capacity (length ob.slots + 1) m)) result d new → IsBuffer kinds (then_owned spot (with_room s ty element b m)) result d new
  other_buffer kinds capacity full is result d new came =
      subst (λ (x : Attempt (ℕ × Content)). IsBuffer kinds (then_owned spot x) result d new)
      (sym (room_wanted s ty element b m ob there full ∙ ap (λ n. regrown s ty element b n (length ob.slots + 1) m) is)) came

-- a capacity that is more than one can be
module _ (kinds : Kinds) (s : Setting) (ty : TyId) (element : Parts) (spot : Place) (b limit : ℕ) (c : Content) (rows : Rows) (ob : Object) (there : at (seen kinds c rows).objects b ≡ Some ob) where
  abbrev carried : ℕ × Content → Attempt (ℕ × Content)
  carried f = Got (f.0, without b (filled_by f.0 (taken_slots element (slots_at (seen kinds c rows) b) (resized_at f.0 (length ob.slots + 1) 0 f.1))))

  abbrev given : ℕ × Content → Attempt (ℕ × Content)
  given f = Got (f.0, takes spot f.0 f.1)

  pub huge_buffer : s.given.cells ≡ limit → limit < 2 ^ 32 → ob.capacity ≤ length ob.slots → 2 ^ 32 ≤ grown s.given.growth (length ob.slots) ob.capacity → 1 ≤ width element
      → then_owned spot (with_room s ty element b (seen kinds c rows)) ≡ GotTrap trap.Cells
  huge_buffer cells few full huge wide =
      let n = grown s.given.growth (length ob.slots) ob.capacity in
      let l = mul-le-mul_right {m = 1} {n = width element} n wide in
      ap (then_owned spot) (room_wanted s ty element b (seen kinds c rows) ob there full)
      ∙ ap (λ x. then_get (then_get x carried) given) (birth_full kinds s c rows ty (width element) n limit cells (omega (arith, l, few, huge)))
