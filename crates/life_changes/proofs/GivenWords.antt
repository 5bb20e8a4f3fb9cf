-- The characters that a string is given, and those that it has.
use Rattle.std.proofs.Common.{◌≡◌, ℕ, ◌≤◌, List, [], ◌∷◌, ◌++◌, length, take, map, Option, Some, None, Err, refl, sym, ap, subst, ◌∙◌, append-nil, arith, take_all}
use Rattle.std.proofs.lemmas.List.{length-map}
use Rattle.std.specs.Prelude.{ℤ}
use Rattle.life_types.specs.Types.{Types}
use Rattle.life_types.specs.declared.ty.TyId.{TyId}
use Rattle.life_core.specs.Function.{Function}
use Rattle.life_core.specs.Operands.{Location}
use Rattle.life_core.specs.Operands as given
use Rattle.life_store.specs.Cells.{at}
use Rattle.life_store.specs.Content.{Object, Content}
use Rattle.life_store.specs.Doing.{on_given}
use Rattle.life_store.specs.Edits.{characters_of}
use Rattle.life_store.specs.Effects.{Setting, Effect, Strays, Attempt, Got, cell, on_got, on_number, word_of_number}
use Rattle.life_store.specs.Held.{slots_if}
use Rattle.life_store.specs.Kinds.{Plain}
use Rattle.life_store.specs.Parts.{Single, Text, parts_at}
use Rattle.life_store.specs.Places.{location_cell}
use Rattle.life_store.specs.References.{Rows, object_of}
use Rattle.life_store.specs.State.{Pointer as Meant, Cell, State}
use Rattle.life_store.specs.Views.{first_word, seen_words, usable, used}
use Rattle.life_store.specs.declared.object.ObjRef.{ObjRef}
use Rattle.life_seen.specs.Housed.{IsHoused}
use Rattle.life_seen.specs.Kinds.{kinds_of}
use Rattle.life_seen.specs.Named.{names_of}
use Rattle.life_seen.specs.Seen.{slot_seen}
use Rattle.life_values.proofs.SeenAs.{seen_as, IsSeenAs}
use Rattle.life_pointers.specs.Attempts.{tried}
use Rattle.life_pointers.specs.Bytes.{stored_words, HasPositions, SeesPlain}
use Rattle.life_pointers.specs.Places.{ended_by}
use Rattle.life_pointers.specs.Pointers.{pointer_seen, PointerFits}
use Rattle.life_pointers.specs.declared.owned.Spot.{Spot}
use Rattle.life_pointers.specs.declared.pointer.Pointer.{Pointer}
use Rattle.life_pointers.specs.declared.pointer.Pointer.TheVariants as leads
use Rattle.life_pointers.specs.declared.stop.Stop.{Stop}
use Rattle.life_pointers.proofs.ViewedBytes.{words_seen}
use Rattle.life_cells.specs.Cells.{number_in, pointer_in}
use Rattle.life_cells.specs.Fits.{meant}
use Rattle.life_cells.specs.Typed.{SeesCharacters}
use Rattle.life_cells.proofs.CellLemmas.{counts, no_number, no_view, points}
use Rattle.life_cells.proofs.Compared.{plain_seen}
use Rattle.life_cells.proofs.StepLemmas.{stopped}
use Rattle.life_changes.specs.Owners.{HasBuffer}
use Rattle.life_changes.proofs.Owned as owned
use Rattle.life_changes.proofs.Texts.{owns, plain}

-- ---- what is given

module _ (s : Setting) (types : Types) (f : Function) (st : State) (go : List ℕ → Effect) where
  abbrev given_from : Attempt Meant → Effect
  given_from x = on_got x (λ v. go (seen_words s.texts st.world.content v))

  pub given_lost : (l : Location) → None ≡ pointer_in (location_cell types f l st) → on_given s types f (given.View l) st go ≡ Strays
  given_lost l none = ap given_from (no_view st.world.content (location_cell types f l st) none)

  -- it is what the view may be used for
  view_used : (l : Location) (p : Pointer) → Some (pointer_seen p) ≡ pointer_in (location_cell types f l st) → on_given s types f (given.View l) st go ≡ given_from (usable st.world.content (pointer_seen p))
  view_used l p is = ap (λ (v : Option Cell). given_from (used st.world.content v)) (points (location_cell types f l st) (pointer_seen p) is)

  pub given_stops : (l : Location) (p : Pointer) (e : Stop) → Some (pointer_seen p) ≡ pointer_in (location_cell types f l st) → tried {A = Pointer} pointer_seen (Err e) ≡ usable st.world.content (pointer_seen p)
      → on_given s types f (given.View l) st go ≡ ended_by e
  given_stops l p e is stops = view_used l p is ∙ ap given_from (sym stops) ∙ stopped pointer_seen (λ v. go (seen_words s.texts st.world.content v)) e

  pub given_seen : (l : Location) (p q : Pointer) → Some (pointer_seen p) ≡ pointer_in (location_cell types f l st) → Got (pointer_seen q) ≡ usable st.world.content (pointer_seen p)
      → on_given s types f (given.View l) st go ≡ go (seen_words s.texts st.world.content (pointer_seen q))
  given_seen l p q is uses = view_used l p is ∙ ap given_from (sym uses)

  pub single_lost : (r : ℕ) → None ≡ number_in (cell st r) → on_given s types f (given.Single r) st go ≡ Strays
  single_lost r none = no_number (cell st r) (λ z. go (word_of_number z ∷ [])) none

  pub single_given : (r : ℕ) (z : ℤ) → Some z ≡ number_in (cell st r) → on_given s types f (given.Single r) st go ≡ go (word_of_number z ∷ [])
  single_given r z is = ap (λ (v : Option Cell). on_number v (λ n. go (word_of_number n ∷ []))) (counts (cell st r) z is)

  -- the characters that were collected
  pub view_given : (c : Content) (rows : Rows) → st.world.content ≡ meant types c rows → IsHoused (kinds_of types) c rows → (l : Location) (p q : Pointer) → PointerFits c rows p → Some (pointer_seen p) ≡ pointer_in (location_cell types f l st) → SeesCharacters types f l st
      → Got (pointer_seen q) ≡ usable st.world.content (pointer_seen p) → q ≡ p → (ws : List ℕ) → ws ≡ stored_words s.texts c rows q ++ [] → on_given s types f (given.View l) st go ≡ go ws
  view_given c rows content housed l p q fits is sees uses same ws collected =
      let plain = plain_seen (kinds_of types) c rows housed p (location_cell types f l st) (points (location_cell types f l st) (pointer_seen p) is) (λ t o e there. sees t o e (ap (λ (x : Content). at x.objects t.object) content ∙ there)) in
      given_seen l p q is uses
      ∙ ap go
      (ap (λ (x : Content). seen_words s.texts x (pointer_seen q)) content
      ∙ sym (words_seen s.texts (kinds_of types) c rows housed q (subst (PointerFits c rows) (sym same) fits) (subst (SeesPlain (kinds_of types) c rows) (sym same) plain))
      ∙ sym (append-nil (stored_words s.texts c rows q))
      ∙ sym collected)

-- ---- what a string has

module _ (types : Types) (limit depth : ℕ) (hand : ℕ → ℕ) (ty : TyId) (spot : Spot) (b : ObjRef) (c : Content) (rows : Rows) (own : HasBuffer types limit depth hand ty spot b c rows) (id : TyId) (is : parts_at types ty ≡ Text id) where
  abbrev ob : Object
  ob = owned.buffer types limit depth hand ty spot c rows own.stands id Single (owns types limit depth hand ty spot b c rows own id is) b.birth own.owned

  there : at (meant types c rows).objects b.birth ≡ Some ob
  there = (owned.lives types limit depth hand ty spot c rows own.stands id Single (owns types limit depth hand ty spot b c rows own id is) b.birth own.owned).1

  placed : at rows b.birth ≡ Some b.row
  placed = owned.placed types limit depth hand ty spot c rows own.stands id Single (owns types limit depth hand ty spot b c rows own id is) b.birth own.owned b refl own.referred

  abbrev stored : IsSeenAs (kinds_of types) c rows b ob
  stored = seen_as (kinds_of types) c rows b ob own.stands.housed placed there

  wide : 1 ≤ stored.object.width
  wide =
      let e = ap (λ (x : Object). x.width) stored.same in
      let w = owned.width_is types limit depth hand ty spot c rows own.stands id Single (owns types limit depth hand ty spot b c rows own id is) b.birth own.owned in
      omega (arith, e, w)

  pub all_inside : (count : ℕ) → ((o : Object) → object_of c rows b ≡ Some o → count ≡ length o.slots) → HasPositions c rows b 0 count
  all_inside count size = record {
    object = stored.object;
    there = stored.found;
    wide = wide;
    within = λ i lt. let e = size stored.object stored.found in omega (arith, e, lt);
  }

  pub own_words : (texts : List (List ℕ)) (count : ℕ) → ((o : Object) → object_of c rows b ≡ Some o → count ≡ length o.slots) → stored_words texts c rows (leads.To 0 count 0 b 0) ≡ characters_of (meant types c rows) b.birth
  own_words texts count size =
      words_seen texts (kinds_of types) c rows own.stands.housed (leads.To 0 count 0 b 0) (own.referred, omega arith)
      (λ o e. ap (λ (x : Object). kinds_of types x.ty 0) (same o stored.object (sym e ∙ stored.found)) ∙ ap (λ (x : Object). kinds_of types x.ty 0) stored.same ∙ plain_first)
      ∙ ap (λ (x : Option Object). map first_word (take count (slots_if x))) there
      ∙ ap (map first_word) (take_all count ob.slots enough)
      ∙ ap (λ (x : Option Object). map first_word (slots_if x)) (sym there)
    where
      plain_first : kinds_of types ob.ty 0 ≡ Plain
      plain_first =
          ap (λ (t : TyId). kinds_of types t 0) (owned.type_is types limit depth hand ty spot c rows own.stands id Single (owns types limit depth hand ty spot b c rows own id is) b.birth own.owned)
          ∙ plain types limit depth hand ty spot b c rows own id is

      same : (x y : Object) → Some x ≡ Some y → x ≡ y
      same x y e = cc

      enough : length ob.slots ≤ count
      enough =
          let e = size stored.object stored.found in
          let n = length-map stored.object.slots (slot_seen (names_of c rows) (kinds_of types stored.object.ty)) in
          let l = ap (λ (x : Object). length x.slots) stored.same in
          omega (arith, e, n, l)
