-- A string in a store may be rewritten, and the store then shows what the meaning gets.
use Rattle.std.proofs.Common.{◌≡◌, ⊎_elim, ℕ, suc, ◌+◌, ◌*◌, ◌<◌, ◌≤◌, ◌^◌, Bool, true, cond, List, [], ◌∷◌, length, map, refl, ap, arith}
use Rattle.std.proofs.lemmas.Bool.Decides.{leb_tells}
use Rattle.std.specs.Prelude.{nat_lt}
use Rattle.life_types.specs.Types.{Types}
use Rattle.life_types.specs.declared.ty.TyId.{TyId}
use Rattle.life_store.specs.Content.{Content, live_words_of, with_birth, without}
use Rattle.life_store.specs.Edits.{one_word, owns as takes, rewritten}
use Rattle.life_store.specs.Effects.{Setting, Got, GotTrap, then_get}
use Rattle.life_store.specs.Held.{filled, resized_at}
use Rattle.life_store.specs.Kinds.{Plain, kind_in}
use Rattle.life_store.specs.Parts.{Parts, Single, Text, parts_at}
use Rattle.life_store.specs.References.{Rows}
use Rattle.life_store.specs.declared.object.ObjRef.{ObjRef}
use Rattle.life_store.specs.declared.run.TrapKind.TheVariants as trap
use Rattle.life_forest.specs.Kinds.{kinds_of as forest_kinds}
use Rattle.life_forest.specs.Values.{IsLaid}
use Rattle.life_seen.specs.Kinds.{kinds_of}
use Rattle.life_values.specs.Ended.{ended_number}
use Rattle.life_values.specs.Rewritten.{given_characters, CanRewrite}
use Rattle.life_values.proofs.AlikeKinds.{alike_kinds}
use Rattle.life_values.proofs.CharactersMeant.{characters_meant}
use Rattle.life_pointers.specs.Owned.{spot_seen}
use Rattle.life_pointers.specs.declared.owned.Spot.{Spot}
use Rattle.life_cells.specs.Fits.{meant}
use Rattle.life_changes.specs.Owners.{widened, HasBuffer}
use Rattle.life_changes.proofs.Emptied.{can_empty, deep, ends_at, known_at}
use Rattle.life_changes.proofs.Owned.{OwnsParts, below_object, text_parts}

-- more characters than can live
pub too_many : (s : Setting) (limit : ℕ) (id : TyId) (spot : Spot) (b : ℕ) (words : List ℕ) (m : Content) → s.given.cells ≡ limit → limit < 2 ^ 32 → 2 ^ 32 ≤ length words → rewritten s id (spot_seen spot) b words m ≡ GotTrap trap.Cells
too_many s limit id spot b words m given few many =
    let full : nat_lt s.given.cells (live_words_of m + (2 + 1 * length words)) ≡ true =
    ⊎_elim (λ h. h.0) (λ h. let l = h.1 in absurd (omega (arith, l, given, few, many))) (leb_tells (suc s.given.cells) (live_words_of m + (2 + 1 * length words))) in
    ap (λ (f : Bool). then_get {A = ℕ × Content} (then_get {A = ℕ × Content} (cond f (GotTrap trap.Cells) (Got (m.births, with_birth id 1 (length words) m))) (λ f. Got (f.0, resized_at f.0 (length words) 0 f.1)))
    (λ f. Got (takes (spot_seen spot) f.0 (without b (filled f.0 (map one_word words) f.1))))) full

module _ (types : Types) (limit depth : ℕ) (hand : ℕ → ℕ) (ty : TyId) (spot : Spot) (b : ObjRef) (c : Content) (rows : Rows) (own : HasBuffer types limit depth hand ty spot b c rows) (id : TyId) (is : parts_at types ty ≡ Text id) where
  abbrev pub owns : OwnsParts types ty id Single
  owns = text_parts types own.stands.served.ordered ty id is

  pub laid : IsLaid (forest_kinds types) id Single
  laid u = ap (λ (p : Parts). kind_in p u) owns.made

  pub plain : kinds_of types id 0 ≡ Plain
  plain = ap (λ (p : Parts). kind_in p 0) owns.made

  pub can_rewrite : CanRewrite (kinds_of types) (forest_kinds types) depth (widened spot) (0 ∷ []) id c rows
  can_rewrite = record {
    empty = can_empty types limit depth hand ty spot c rows own.stands id Single owns;
    one = refl;
    laid = laid;
    lower = below_object types limit depth hand ty spot c rows own.stands id Single owns;
  }

  pub rewrite_meant : (s : Setting) (words : List ℕ) → given_characters s (ended_number (forest_kinds types) depth) id spot.object.birth spot.index spot.word (0 ∷ []) words (meant types c rows) ≡ rewritten s id (spot_seen spot) b.birth words (meant types c rows)
  rewrite_meant s words =
      characters_meant (kinds_of types) (forest_kinds types) (alike_kinds types) depth spot.object.birth spot.index hand spot.word id words (meant types c rows) own.stands.object own.stands.place.there own.stands.store.forest
      (deep types limit depth hand ty spot c rows own.stands id Single owns)
      (ends_at types limit depth hand ty spot c rows own.stands id Single owns (Text id) is)
      (known_at types limit depth hand ty spot c rows own.stands id Single owns (Text id) is _)
      b.birth own.owned laid
      (below_object types limit depth hand ty spot c rows own.stands id Single owns) s
