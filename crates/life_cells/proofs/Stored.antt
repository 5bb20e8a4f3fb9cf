-- What the meaning has at an object's number is in the store, too.
use Rattle.std.proofs.Common.{◌≡◌, ℕ, suc, ◌+◌, ◌<◌, ◌≤◌, ◌^◌, List, [], ◌∷◌, Option, Some, None, length, refl, sym, ap, subst, ◌∙◌, arith}
use Rattle.std.proofs.lemmas.List.{length-map}
use Rattle.std.proofs.lemmas.Option.{none-some, same_Some, slice_get-map}
use Rattle.std.specs.Prelude.{option_map, slice_get}
use Rattle.life_types.specs.Types.{Types}
use Rattle.life_store.specs.Content.{Content, Object, Slot}
use Rattle.life_store.specs.Kinds.{Kind, Pointing}
use Rattle.life_store.specs.Parts.{parts_at}
use Rattle.life_store.specs.References.{Rows, object_of}
use Rattle.life_store.specs.declared.object.ObjRef.{ObjRef}
use Rattle.life_seen.specs.Housed.{IsHoused, IsRef}
use Rattle.life_seen.specs.Kinds.{kinds_of}
use Rattle.life_seen.specs.Named.{Names, names_of}
use Rattle.life_seen.specs.Seen.{object_seen, slot_seen, words_seen}
use Rattle.life_seen.proofs.References.{seen_by_number}
use Rattle.life_seen.proofs.WholePointers.{whole_pointers}
use Rattle.life_words.specs.Numbers.{HasWords}
use Rattle.life_pointers.specs.Words.{IsPointer}
use Rattle.life_cells.specs.Fits.{meant}
use Rattle.life_cells.specs.Typed.{Holds, LieIn}

-- the same of what lies in the store
pub record IsStored (types : Types) (kind : Kind) (count : ℕ) (c : Content) (rows : Rows) (r : ObjRef) (word : ℕ) : Type 0 where
  pub object : Object
  pub there : object_of c rows r ≡ Some object
  pub slot : 0 < length object.slots
  pub lies : LieIn word count object
  pub whole : (s : Slot) → slice_get object.slots 0 ≡ Some s → word + count ≤ length s.words
  pub is : kinds_of types object.ty word ≡ kind

pub length_seen : (names : Names) (f : ℕ → Kind) (ws : List ℕ) → length (words_seen names f ws) ≡ length ws
length_seen names f [] = refl
length_seen names f (w ∷ ws) = let e = length_seen names (λ u. f (suc u)) ws in omega (arith, e)

module _ (types : Types) (kind : Kind) (count : ℕ) (c : Content) (rows : Rows) (r : ObjRef) (word : ℕ) (housed : IsHoused (kinds_of types) c rows) (fits : IsRef c rows r) (h : Holds types kind count r.birth word (meant types c rows)) where
  abbrev names : Names
  names = names_of c rows

  abbrev as_seen : Object → Object
  as_seen o = object_seen (kinds_of types) names o

  of_seen : (o : Object) → object_of c rows r ≡ Some o → as_seen o ≡ h.object → IsStored types kind count c rows r word
  of_seen o there same =
      let slot : 0 < length (as_seen o).slots = subst (λ (x : Object). 0 < length x.slots) (sym same) h.slot in
      let lies : LieIn word count (as_seen o) = subst (LieIn word count) (sym same) h.lies in
      let whole : (s : Slot) → slice_get (as_seen o).slots 0 ≡ Some s → word + count ≤ length s.words = subst (λ (x : Object). (s : Slot) → slice_get x.slots 0 ≡ Some s → word + count ≤ length s.words) (sym same) h.whole in
      record {
        object = o;
        there = there;
        slot = let l = length-map o.slots (slot_seen names (kinds_of types o.ty)) in omega (arith, l, slot);
        lies = record { within = lies.within; small = lies.small };
        whole = λ s e.
            let there : slice_get (as_seen o).slots 0 ≡ Some (slot_seen names (kinds_of types o.ty) s) = slice_get-map (slot_seen names (kinds_of types o.ty)) o.slots 0 ∙ ap (option_map (slot_seen names (kinds_of types o.ty))) e in
            let l = length_seen names (kinds_of types o.ty) s.words in
            let w = whole (slot_seen names (kinds_of types o.ty) s) there in
            omega (arith, l, w);
        is = subst (λ (x : Object). kinds_of types x.ty word ≡ kind) (sym same) h.is;
      }

  pub stored : IsStored types kind count c rows r word
  stored = go (object_of c rows r) refl
    where
      go : (x : Option Object) → object_of c rows r ≡ x → IsStored types kind count c rows r word
      go None e = absurd (none-some h.object (sym (ap (option_map as_seen) e) ∙ seen_by_number (kinds_of types) c rows housed r fits ∙ h.there))
      go (Some o) e = of_seen o e (same_Some (as_seen o) h.object (sym (ap (option_map as_seen) e) ∙ seen_by_number (kinds_of types) c rows housed r fits ∙ h.there))

-- a pointer in the store
module _ (types : Types) (c : Content) (rows : Rows) (r : ObjRef) (word : ℕ) (housed : IsHoused (kinds_of types) c rows) (s : IsStored types (Pointing 0) 5 c rows r word) where
  pub is_pointer : IsPointer (kinds_of types) c rows r word s.object
  is_pointer = record { housed = housed; there = s.there; whole = λ u k. whole_pointers (parts_at types s.object.ty) u k; begins = s.is }

pub has_words : (types : Types) (kind : Kind) (count : ℕ) (c : Content) (rows : Rows) (r : ObjRef) (word : ℕ) → (s : IsStored types kind count c rows r word) → HasWords 0 word count s.object
has_words types kind count c rows r word s = record { has_slot = s.slot; has_words = s.lies.within }

pub small_word : (word count : ℕ) (o : Object) → LieIn word count o → 1 ≤ count → word < 2 ^ 32
small_word word count o lies le = let w = lies.within in let l = lies.small in omega (arith, w, l, le)
