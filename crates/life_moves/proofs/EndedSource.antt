-- In the store of a run, the source of a copy is there still when what the other place has ended: but for words that own, where both are in one object.
use Rattle.std.proofs.Common.{◌≡◌, ◌≢◌, ℕ, suc, ◌+◌, ◌≤◌, ◌<◌, List, [], ◌∷◌, length, Some, refl, sym, ap, ◌∙◌, arith}
use Rattle.std.proofs.lemmas.Option.{same_Some}
use Rattle.std.specs.Prelude.{slice_get}
use Rattle.life_types.specs.Trees.{IsOrdered}
use Rattle.life_types.specs.Types.{Types}
use Rattle.life_types.specs.declared.ty.TyId.{TyId}
use Rattle.life_store.specs.Cells.{at, at-set_same, at-set_other}
use Rattle.life_store.specs.Content.{Object, Content, with_object, with_word, word_at}
use Rattle.life_store.specs.Held.{words_at}
use Rattle.life_store.specs.Kinds.{Owner, kind_in}
use Rattle.life_store.specs.Owners.{ended}
use Rattle.life_store.specs.Parts.{Parts, parts_at, width, width_at}
use Rattle.life_store.proofs.MapLemmas.{one_or_apart}
use Rattle.life_forest.specs.Kinds.{kinds_of, rank_of}
use Rattle.life_forest.specs.Typed.{IsStore}
use Rattle.life_forest.specs.Values.{AllWide}
use Rattle.life_forest.specs.Within.{LiesWithin}
use Rattle.life_values.specs.Emptied.{emptied_each}
use Rattle.life_values.specs.Ended.{ended_number}
use Rattle.life_values.specs.Layouts.{flat, owner_words}
use Rattle.life_values.specs.Zeroed.{zeroed}
use Rattle.life_values.proofs.CopiedRowed.{word_beside}
use Rattle.life_values.proofs.EmptiedMeant.{emptied_meant}
use Rattle.life_values.proofs.Flat.{owner_words_own}
use Rattle.life_values.proofs.Renewed.{word_wide}
use Rattle.life_moves.proofs.ReplacedInStores.{known, place}
use Rattle.life_moves.proofs.SourceStays.{stays}
use Rattle.life_values.proofs.Zeroing.{zeroed_like}

-- words beside those that are zeroed
zeroed_beside : (i w : ℕ) (us : List ℕ) (o : Object) (j k : ℕ) → ((l u : ℕ) → slice_get us l ≡ Some u → w + u ≢ k) → word_at (zeroed i w us o) j k ≡ word_at o j k
zeroed_beside i w [] o j k other = refl
zeroed_beside i w (u ∷ us) o j k other = zeroed_beside i w us (with_word i (w + u) 0 o) j k (λ l v e. other (suc l) v e) ∙ word_beside o i (w + u) 0 j k (λ same. other 0 u refl)

pub zeroed_wide : (i w : ℕ) (us : List ℕ) (o : Object) → AllWide o.width o.slots → AllWide (zeroed i w us o).width (zeroed i w us o).slots
zeroed_wide i w [] o wide = wide
zeroed_wide i w (u ∷ us) o wide = zeroed_wide i w us (with_word i (w + u) 0 o) (word_wide i (w + u) 0 o wide)

module _ (types : Types) (ordered : IsOrdered types) (hand : ℕ → ℕ) (m : Content) (store : IsStore types hand m) (ty : TyId)
    (nf f v : ℕ) (source : Object) (source_there : at m.objects nf ≡ Some source) (source_within : LiesWithin types source.ty v ty)
    (n i w : ℕ) (o : Object) (there : at m.objects n ≡ Some o) (within : LiesWithin types o.ty w ty) (slot : i < length o.slots) (depth : ℕ) (deep : rank_of types o.ty ≤ depth) where
  abbrev p : Parts
  p = parts_at types ty

  abbrev us : List ℕ
  us = owner_words (flat 0 (parts_at types ty))

  abbrev rest : Content
  rest = ended (parts_at types ty) (words_at m n i w (width (parts_at types ty))) m

  abbrev bare : Object
  bare = zeroed i w (owner_words (flat 0 (parts_at types ty))) o

  -- the content then
  abbrev pub after : Content
  after = with_object n (zeroed i w (owner_words (flat 0 (parts_at types ty))) o) (ended (parts_at types ty) (words_at m n i w (width (parts_at types ty))) m)

  pub after_is : emptied_each (ended_number (kinds_of types) depth) n i w (owner_words (flat 0 (parts_at types ty))) m ≡ after
  after_is =
      emptied_meant (kinds_of types) depth n i hand w p m o there store.forest deep (place types ordered hand m store n i w ty o there within slot depth deep)
      (known types ordered hand m store n i w ty o there within slot depth deep)

  -- what stands in the source when the other place's value has ended
  pub record IsSource (e : Content) : Type 0 where
    pub object : Object
    pub found : at e.objects nf ≡ Some object
    pub wide : AllWide object.width object.slots
    pub long : object.width ≡ source.width
    pub count : length object.slots ≡ length source.slots
    pub type : object.ty ≡ source.ty
    pub words : (u : ℕ) → u < width_at types ty → (kind_in p u ≡ Owner → ⊥) → word_at object f (v + u) ≡ word_at source f (v + u)

  pub source_then : IsSource after
  source_then =
      one_or_apart n nf
      (λ e.
      let same : o ≡ source = same_Some o source (sym there ∙ ap (at m.objects) e ∙ source_there) in
      record {
        object = bare;
        found = at-set_same rest.objects n nf bare e;
        wide = zeroed_wide i w us o (store.fit n o there).slots;
        type = (zeroed_like i w us o).ty ∙ ap (λ (x : Object). x.ty) same;
        long = (zeroed_like i w us o).width ∙ ap (λ (x : Object). x.width) same;
        count = (zeroed_like i w us o).count ∙ ap (λ (x : Object). length x.slots) same;
        words = λ u lt other.
            zeroed_beside i w us o f (v + u)
            (λ l q at_l met.
            let r = owner_words_own p 0 l q at_l in
            let z : q ≡ r.word = (let x = r.is in omega (arith, x)) in
            let small : q < width p = (let x = r.within in omega (arith, z, x)) in
            other
            (sym (source_within.words u lt) ∙ ap (λ (x : Object). kind_in (parts_at types x.ty) (v + u)) (sym same) ∙ ap (kind_in (parts_at types o.ty)) (sym met) ∙ within.words q small ∙ ap (kind_in p) z ∙ r.owner))
            ∙ ap (λ (x : Object). word_at x f (v + u)) same;
      })
      (λ ne. record {
        object = source;
        found = at-set_other rest.objects n nf bare ne ∙ stays types ordered hand m store n i w ty o there within slot nf v source source_there source_within;
        wide = (store.fit nf source source_there).slots;
        type = refl;
        long = refl;
        count = refl;
        words = λ u lt other. refl;
      })
