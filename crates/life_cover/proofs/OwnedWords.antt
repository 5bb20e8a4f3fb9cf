-- What the word of a vector or a string in an object owns lives, and lies beneath all of the object.
use Rattle.std.proofs.Common.{◌≡◌, ℕ, zero, suc, ◌<◌, true, Option, Some, sym, ap, subst, ◌∙◌, arith, refl}
use Rattle.std.specs.Prelude.{◌&&◌, slice_get, slice_index}
use Rattle.std.proofs.lemmas.Bool.{and_from}
use Rattle.life_types.specs.Trees.{IsOrdered}
use Rattle.life_types.specs.Types.{Types}
use Rattle.life_store.specs.Cells.{at}
use Rattle.life_store.specs.Content.{Slot, Object, Content, word_in}
use Rattle.life_store.specs.Held.{owned_in}
use Rattle.life_store.specs.Kinds.{is_owner}
use Rattle.life_store.specs.Parts.{parts_at}
use Rattle.life_store.proofs.CellLemmas.{none_some, some_same}
use Rattle.life_forest.specs.Forest.{Beneath, part}
use Rattle.life_forest.specs.Kinds.{kinds_of}
use Rattle.life_forest.specs.Owned.{owns_at, owns_if}
use Rattle.life_forest.specs.Typed.{IsStore}
use Rattle.life_forest.proofs.Among.{to_among, slots_counted}
use Rattle.life_forest.proofs.Steps.{own_all}
use Rattle.life_cover.specs.Buffered.{is_buffer_at}
use Rattle.life_cover.specs.Regions.{foot_of}
use Rattle.life_cover.proofs.BufferWords.{buffer_inside, buffer_owner}
use Rattle.life_cover.proofs.Inside.{in_region, owned_lives}

pub owned_number : (x b : ℕ) → owned_in x ≡ Some b → x ≡ suc b
owned_number zero b e = absurd (none_some e)
owned_number (suc x) b e = ap suc (some_same e)

module _ (types : Types) (ordered : IsOrdered types) (hand : ℕ → ℕ) (c : Content) (store : IsStore types hand c) (n j u m : ℕ) (o : Object) (t : Slot) (there : at c.objects n ≡ Some o) (slot : slice_get o.slots j ≡ Some t) (is : is_buffer_at (parts_at types o.ty) u ≡ true)
    (owned : owned_in (slice_index t.words u) ≡ Some m) where
  word_is : word_in (slice_get o.slots j) u ≡ suc m
  word_is = ap (λ (x : Option Slot). word_in x u) slot ∙ owned_number (slice_index t.words u) m owned

  counted : 0 < owns_at (kinds_of types) c ((foot_of types (record { object = n; word = 0; ty = o.ty })).part n) n m
  counted =
      subst (λ (x : Option Object). 0 < owns_if (kinds_of types) ((foot_of types (record { object = n; word = 0; ty = o.ty })).part n) x m) (sym there)
      (slots_counted (λ v. is_owner ((kinds_of types).word o.ty v) && (foot_of types (record { object = n; word = 0; ty = o.ty })).part n v) o.slots u m (to_among o.slots j u m word_is)
      (and_from (is_owner ((kinds_of types).word o.ty u)) ((foot_of types (record { object = n; word = 0; ty = o.ty })).part n u) (ap is_owner (buffer_owner (parts_at types o.ty) u is))
      (in_region types (record { object = n; word = 0; ty = o.ty }) n u (record { object = refl; first = omega arith; last = (let lt = buffer_inside (parts_at types o.ty) u is in omega (arith, lt)) }))))

  pub word_beneath : Beneath (kinds_of types) c (foot_of types (record { object = n; word = 0; ty = o.ty })) m
  word_beneath = part n m counted

  pub word_lives : (q : Object) × (at c.objects m ≡ Some q)
  word_lives = owned_lives types ordered hand c store n m (own_all (kinds_of types) c ((foot_of types (record { object = n; word = 0; ty = o.ty })).part n) n m counted)
