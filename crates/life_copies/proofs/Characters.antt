-- A character of a text is written to the place of a number.
use Rattle.std.proofs.Common.{◌≡◌, ℕ, ◌+◌, ◌<◌, List, [], ◌∷◌, length, Option, Some, IfSome, sym, ap, subst, ◌∙◌, arith}
use Rattle.std.specs.Prelude.{ℤ}
use Rattle.life_types.specs.Types.{Types}
use Rattle.life_types.specs.declared.ty.TyId.{TyId}
use Rattle.life_core.specs.Function.{Function}
use Rattle.life_store.specs.Content.{Object, Content, with_object, with_word}
use Rattle.life_store.specs.Doing.{copied_to}
use Rattle.life_store.specs.Effects.{Setting, Next, put_content}
use Rattle.life_store.specs.Held.{wrote_if}
use Rattle.life_store.specs.Kinds.{Plain, kind_in}
use Rattle.life_store.specs.Parts.{Parts, Single, parts_at, width}
use Rattle.life_store.specs.Places.{wrote_spot}
use Rattle.life_store.specs.References.{Rows, object_of, HasWord}
use Rattle.life_store.specs.State.{State}
use Rattle.life_seen.specs.Housed.{Shows, Later}
use Rattle.life_seen.specs.Kinds.{kinds_of, AreWhole, Kinds}
use Rattle.life_seen.specs.Named.{names_of}
use Rattle.life_seen.specs.Rowed.{AreRowed}
use Rattle.life_seen.specs.Seen.{object_seen, seen}
use Rattle.life_seen.proofs.References.{later_same}
use Rattle.life_seen.proofs.Resizing.{count_seen}
use Rattle.life_words.specs.Numbers.{IsPlain}
use Rattle.life_values.proofs.SeenAs.{seen_as, IsSeenAs}
use Rattle.life_values.proofs.StillRowed.{are_whole}
use Rattle.life_pointers.specs.Owned.{spot_seen}
use Rattle.life_pointers.specs.declared.owned.Spot.{Spot}
use Rattle.life_cells.specs.Cells.{state_of}
use Rattle.life_cells.specs.Fits.{meant, IsFit}
use Rattle.life_cells.specs.declared.cell.Cell.{Cell}
use Rattle.life_changes.proofs.Counted.{counted_wrote, Counted}
use Rattle.life_changes.proofs.Frames.{fits_behind, IsBehind}
use Rattle.life_copies.proofs.Behind.{grows_behind}
use Rattle.life_copies.specs.Values.{ValueAt}

-- a number is copied by its word, and nothing ends
single_copied : (s : Setting) (p : Parts) → p ≡ Single → (spot : Spot) (x : ℕ) (st : State) → copied_to s p (spot_seen spot) (x ∷ []) st ≡ Next (put_content (wrote_spot (spot_seen spot) (x ∷ []) st.world.content) st)
single_copied s p single spot x st = ap (λ q. copied_to s q (spot_seen spot) (x ∷ []) st) single

module _ (types : Types) (f : Function) (limit depth : ℕ) (ty : TyId) (spot : Spot) (c : Content) (rows : Rows) (cells : List Cell) (value : ValueAt types f limit depth ty spot c rows cells) (single : parts_at types ty ≡ Single) where
  abbrev m : Content
  m = meant types c rows

  abbrev object : Object
  object = value.owner.object

  now : IsSeenAs (kinds_of types) c rows spot.object object
  now = seen_as (kinds_of types) c rows spot.object object value.owner.ready.fits.housed value.owner.placed value.owner.place.there

  one : width (parts_at types ty) ≡ 1
  one = ap width single

  within : spot.word < object.width
  within =
      let fits = value.owner.place.within.fits in
      let e = (value.owner.ready.stands.store.fit spot.object.birth object value.owner.place.there).width in
      let o = one in
      omega (arith, fits, e, o)

  pub word_there : IfSome (object_of c rows spot.object) (HasWord spot.index spot.word)
  word_there =
      let a : length (object_seen (kinds_of types) (names_of c rows) now.object).slots ≡ length object.slots = ap (λ (x : Object). length x.slots) now.same in
      let b = count_seen (kinds_of types) (names_of c rows) now.object in
      let e : now.object.width ≡ object.width = ap (λ (x : Object). x.width) now.same in
      let s = value.owner.place.slot in
      let w = within in
      subst (λ x. IfSome x (HasWord spot.index spot.word)) (sym now.found) (record { has_slot = omega (arith, a, b, s); has_word = omega (arith, e, w) })

  plain : kinds_of types object.ty spot.word ≡ Plain
  plain =
      let z : spot.word ≡ spot.word + 0 = omega arith in
      let o = one in
      ap (kinds_of types object.ty) z ∙ value.owner.place.within.words 0 (omega (arith, o)) ∙ ap (λ p. kind_in p 0) single

  is_plain : IsPlain (kinds_of types) c rows spot.object spot.word now.object
  is_plain = record { housed = value.owner.ready.fits.housed; there = now.found; plain = ap (λ (x : Object). kinds_of types x.ty spot.word) now.same ∙ plain }

  module _ (x : ℕ) (d : Content) (new : Rows)
      (put : (ks : Kinds) (o : Object) → IsPlain ks c rows spot.object spot.word o → Shows ks d new (with_object spot.object.birth (with_word spot.index spot.word x (object_seen ks (names_of c rows) o)) (seen ks c rows))) where
    shows : Shows (kinds_of types) d new (with_object spot.object.birth (with_word spot.index spot.word x object) (meant types c rows))
    shows = subst (λ (o : Object). Shows (kinds_of types) d new (with_object spot.object.birth (with_word spot.index spot.word x o) (meant types c rows))) now.same (put (kinds_of types) now.object is_plain)

    written : meant types d new ≡ wrote_spot (spot_seen spot) (x ∷ []) (meant types c rows)
    written = shows.is ∙ ap (λ (o : Option Object). wrote_if o spot.object.birth spot.index spot.word (x ∷ []) (meant types c rows)) (sym value.owner.place.there)

    pub character_written : (s : Setting) (output : List ℕ) (input : List ℤ)
        → copied_to s (parts_at types ty) (spot_seen spot) (x ∷ []) (state_of (meant types c rows) cells output input) ≡ Next (state_of (meant types d new) cells output input)
    character_written s output input =
        single_copied s (parts_at types ty) single spot x (state_of (meant types c rows) cells output input)
        ∙ ap (λ (n : Content). Next (state_of n cells output input)) (sym written)

    same_object : (a b : Object) → Some a ≡ Some b → a ≡ b
    same_object a b e = cc

    begin : Counted limit m spot.object.birth object.capacity 0 0 m
    begin = record {
      births = omega arith;
      clock = omega arith;
      bounded = value.owner.ready.bounded;
      old = value.owner.ready.stands.store.forest.births spot.object.birth object value.owner.place.there;
      same = λ o e. ap (λ (y : Object). y.capacity) (same_object o object (sym e ∙ value.owner.place.there));
    }

    pub behind_character : IsBehind limit (meant types c rows) (meant types d new)
    behind_character =
        let h = counted_wrote limit m spot.object.birth object.capacity 0 0 spot.object.birth spot.index spot.word (x ∷ []) m begin in
        subst (IsBehind limit m) (sym written)
        (record { bounded = h.bounded; grows = record { births = let b = h.births in omega (arith, b); clock = let b = h.clock in omega (arith, b) } })

    pub later_character : new ≡ rows → Later c d rows new
    later_character same = subst (Later c d rows) (sym same) (later_same c d rows (let b = ap (λ (n : Content). n.births) shows.is in omega (arith, b)))

    pub fits_character : ((ks : Kinds) (o : Object) → IsPlain ks c rows spot.object spot.word o → AreWhole (ks o.ty) → AreRowed ks c rows → AreRowed ks d new) → new ≡ rows → IsFit types d new cells
    fits_character keeps same =
        fits_behind types c d rows new cells value.owner.ready.early value.owner.ready.fits.held shows.housed
        (keeps (kinds_of types) now.object is_plain (are_whole types now.object) value.owner.ready.fits.rowed) (later_character same) (grows_behind types limit c d rows new behind_character)
