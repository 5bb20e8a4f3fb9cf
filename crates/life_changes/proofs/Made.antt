-- A unique_ptr in a store may be given nothing to own, or another object.
use Rattle.std.proofs.Common.{◌≡◌, ℕ, ◌+◌, ◌<◌, List, [], ◌∷◌, Option, Some, None, refl, sym, ap, ◌∙◌, arith}
use Rattle.life_types.specs.Types.{Types}
use Rattle.life_types.specs.declared.ty.TyId.{TyId}
use Rattle.life_store.specs.Cells.{at}
use Rattle.life_store.specs.Content.{Object, Content, with_object, with_word}
use Rattle.life_store.specs.Doing.{replaced}
use Rattle.life_store.specs.Held.{owner_word, words_at, wrote_if}
use Rattle.life_store.specs.Owners.{ended}
use Rattle.life_store.specs.Parts.{Parts, Unique, parts_at, width}
use Rattle.life_store.specs.Places.{spot_words}
use Rattle.life_store.specs.References.{Rows}
use Rattle.life_store.specs.declared.object.ObjRef.{ObjRef}
use Rattle.life_forest.specs.Kinds.{kinds_of as forest_kinds}
use Rattle.life_seen.specs.Kinds.{kinds_of}
use Rattle.life_values.specs.Emptied.{emptied_each}
use Rattle.life_values.specs.Ended.{ended_number}
use Rattle.life_values.specs.Replaced.{replaced_by, CanReplace}
use Rattle.life_values.proofs.EmptiedMeant.{emptied_meant, ended_beside}
use Rattle.life_values.proofs.ReplacedMeant.{replaced_meant}
use Rattle.life_pointers.specs.Owned.{spot_seen}
use Rattle.life_pointers.specs.declared.owned.Spot.{Spot}
use Rattle.life_cells.specs.Fits.{meant}
use Rattle.life_changes.specs.Owners.{widened, StandsAt}
use Rattle.life_changes.proofs.Counted.{counted_ended, counted_wrote, Counted}
use Rattle.life_changes.proofs.Emptied.{can_empty, deep, ends_at, known_at}
use Rattle.life_changes.proofs.Frames.{behind, IsBehind}
use Rattle.life_changes.proofs.Owned.{OwnsParts, unique_parts}

module _ (types : Types) (limit depth : ℕ) (hand : ℕ → ℕ) (ty : TyId) (spot : Spot) (c : Content) (rows : Rows) (here : StandsAt types limit depth hand ty spot c rows) where
  abbrev m : Content
  m = meant types c rows

  -- what is replaced counts nothing
  pub replaced_counts : (n t : ℕ) (d : Content) (p : Parts) (vs : List ℕ) → Counted limit (meant types c rows) spot.object.birth here.object.capacity n t d → Counted limit (meant types c rows) spot.object.birth here.object.capacity n t (replaced p (spot_seen spot) (vs, d))
  replaced_counts n t d p vs h =
      counted_wrote limit m spot.object.birth here.object.capacity n t spot.object.birth spot.index spot.word vs (ended p (spot_words d (spot_seen spot) (width p)) d)
      (counted_ended limit m spot.object.birth here.object.capacity p (spot_words d (spot_seen spot) (width p)) n t d h)

  pub replaced_behind : (p : Parts) (vs : List ℕ) → IsBehind limit (meant types c rows) (replaced p (spot_seen spot) (vs, meant types c rows))
  replaced_behind p vs =
      behind types limit depth hand ty spot c rows here spot.object.birth here.object.capacity 0 0 (replaced p (spot_seen spot) (vs, m)) (omega arith) (omega arith)
      (replaced_counts 0 0 m p vs begin)
    where
      same : (a b : Object) → Some a ≡ Some b → a ≡ b
      same a b e = cc

      begin : Counted limit (meant types c rows) spot.object.birth here.object.capacity 0 0 (meant types c rows)
      begin = record {
        births = omega arith;
        clock = omega arith;
        bounded = here.bounded;
        old = here.store.forest.births spot.object.birth here.object here.place.there;
        same = λ o e. ap (λ (x : Object). x.capacity) (same o here.object (sym e ∙ here.place.there));
      }

  module _ (id : TyId) (is : parts_at types ty ≡ Unique id (parts_at types id)) where
    abbrev pub owns : OwnsParts types ty id (parts_at types id)
    owns = unique_parts types here.served.ordered ty id (parts_at types id) is

    abbrev p : Parts
    p = Unique id (parts_at types id)

    abbrev gone : Content
    gone = ended p (words_at m spot.object.birth spot.index spot.word 1) m

    pub null_meant : emptied_each (ended_number (forest_kinds types) depth) spot.object.birth spot.index spot.word (0 ∷ []) (meant types c rows) ≡ replaced (parts_at types ty) (spot_seen spot) (owner_word None ∷ [], meant types c rows)
    null_meant =
        let z : spot.word + 0 ≡ spot.word = omega arith in
        emptied_meant (forest_kinds types) depth spot.object.birth spot.index hand spot.word p m here.object here.place.there here.store.forest (deep types limit depth hand ty spot c rows here id (parts_at types id) owns)
        (ends_at types limit depth hand ty spot c rows here id (parts_at types id) owns p is) (known_at types limit depth hand ty spot c rows here id (parts_at types id) owns p is _)
        ∙ ap (λ k. with_object spot.object.birth (with_word spot.index k 0 here.object) gone) z
        ∙ ap (λ (x : Option Object). wrote_if x spot.object.birth spot.index spot.word (0 ∷ []) gone)
        (sym (ended_beside (forest_kinds types) depth spot.object.birth spot.index hand spot.word p m here.object here.place.there here.store.forest (deep types limit depth hand ty spot c rows here id (parts_at types id) owns)
        (ends_at types limit depth hand ty spot c rows here id (parts_at types id) owns p is) (known_at types limit depth hand ty spot c rows here id (parts_at types id) owns p is _)))
        ∙ ap (λ (q : Parts). replaced q (spot_seen spot) (owner_word None ∷ [], m)) (sym is)

    -- .. or another object
    pub owned_meant : (f : ℕ) → replaced_by (ended_number (forest_kinds types) depth) spot.object.birth spot.index spot.word (0 ∷ []) f (meant types c rows) ≡ replaced (parts_at types ty) (spot_seen spot) (owner_word (Some f) ∷ [], meant types c rows)
    owned_meant f =
        replaced_meant (forest_kinds types) depth spot.object.birth spot.index hand spot.word p m here.object here.place.there here.store.forest (deep types limit depth hand ty spot c rows here id (parts_at types id) owns)
        (ends_at types limit depth hand ty spot c rows here id (parts_at types id) owns p is) (known_at types limit depth hand ty spot c rows here id (parts_at types id) owns p is _) refl f
        ∙ ap (λ (q : Parts). replaced q (spot_seen spot) (owner_word (Some f) ∷ [], m)) (sym is)

    pub can_own : (r : ObjRef) → at rows r.birth ≡ Some r.row → 0 < hand r.birth → CanReplace (kinds_of types) (forest_kinds types) depth (widened spot) (0 ∷ []) r c rows
    can_own r placed held = record { empty = can_empty types limit depth hand ty spot c rows here id (parts_at types id) owns; one = refl; placed = placed; held = held }
