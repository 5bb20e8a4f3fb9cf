-- A store goes the way of the meaning where a word takes another object in place of what it owns.
use Rattle.std.proofs.Common.{◌≡◌, ℕ, suc, ◌+◌, List, [], ◌∷◌, length, Option, Some, IfSome, sym, ap, subst, ◌∙◌, arith}
use Rattle.std.specs.Prelude.{option_map, slice_get}
use Rattle.life_store.specs.Cells.{at}
use Rattle.life_store.specs.Content.{Object, Content, with_object, with_word}
use Rattle.life_store.specs.Held.{wrote_if}
use Rattle.life_store.specs.Kinds.{Owner}
use Rattle.life_store.specs.References.{Rows, object_of, HasWord}
use Rattle.life_store.specs.declared.object.ObjRef.{ObjRef}
use Rattle.life_forest.specs.Kinds.{Kinds}
use Rattle.life_forest.proofs.Below.{lives}
use Rattle.life_seen.specs.Housed.{Shows, Later}
use Rattle.life_seen.specs.Kinds.{AreWhole, Kinds as Seen}
use Rattle.life_seen.specs.Named.{names_of}
use Rattle.life_seen.specs.Rowed.{AreRowed}
use Rattle.life_seen.specs.Seen.{object_seen, seen}
use Rattle.life_seen.proofs.References.{found_seen, later_then}
use Rattle.life_seen.proofs.Resizing.{count_seen}
use Rattle.life_words.specs.Owning.{number_of, with_owner, CanOwn, IsOwner}
use Rattle.life_values.specs.Emptied.{emptied_each}
use Rattle.life_values.specs.Ended.{ended_number, AreAlike}
use Rattle.life_values.specs.Replaced.{replaced_by, CanReplace}
use Rattle.life_values.specs.Zeroed.{zeroed}
use Rattle.life_values.specs.declared.spot.Spot.{Spot}
use Rattle.life_values.proofs.EmptiedThen.{still_forest, then_seen}
use Rattle.life_values.proofs.Filling.{still_placed}
use Rattle.life_values.proofs.SeenAs.{IsSeenAs}
use Rattle.life_values.proofs.StillRowed.{seen_keeps, OwnerKeeps}
use Rattle.life_values.proofs.Zeroing.{zeroed_like, IsLike}

module _ (kinds : Seen) (kind : Kinds) (alike : AreAlike kinds kind) (depth : ℕ) (spot : Spot) (owners : List ℕ) (other : ObjRef) (c : Content) (rows : Rows) (can : CanReplace kinds kind depth spot owners other c rows)
    (d : Content) (new : Rows) (shows : Shows kinds d new (emptied_each (ended_number kind depth) spot.object.birth spot.slot spot.word owners (seen kinds c rows))) (later : Later c d rows new) where
  first : slice_get owners 0 ≡ Some 0
  first = ap (λ us. slice_get us 0) can.one

  owner : kinds can.empty.object.ty spot.word ≡ Owner
  owner = let z : spot.word ≡ spot.word + 0 = omega arith in ap (kinds can.empty.object.ty) z ∙ can.empty.own 0 0 first

  now : IsSeenAs kinds d new spot.object (zeroed spot.slot spot.word owners can.empty.object)
  now = then_seen kinds kind alike depth spot owners c rows can.empty d new shows later

  like : IsLike (zeroed spot.slot spot.word owners can.empty.object) can.empty.object
  like = zeroed_like spot.slot spot.word owners can.empty.object

  pub word_there : IfSome (object_of d new spot.object) (HasWord spot.slot spot.word)
  word_there =
      let a : length (object_seen kinds (names_of d new) now.object).slots ≡ length (zeroed spot.slot spot.word owners can.empty.object).slots = ap (λ (x : Object). length x.slots) now.same in
      let b = count_seen kinds (names_of d new) now.object in
      let e : now.object.width ≡ (zeroed spot.slot spot.word owners can.empty.object).width = ap (λ (x : Object). x.width) now.same in
      let f = like.count in
      let g = like.width in
      let s = can.empty.slot in
      let w = (can.empty.sized spot.object.birth can.empty.object can.empty.there).owners spot.word owner in
      subst (λ x. IfSome x (HasWord spot.slot spot.word)) (sym now.found) (record { has_slot = omega (arith, a, b, f, s); has_word = omega (arith, e, g, w) })

  -- what is in the hand isn't among what ended
  other_lives : (x : Object) × (at (seen kinds d new).objects other.birth ≡ Some x)
  other_lives =
      let f = still_forest kinds kind alike depth spot owners c rows can.empty d new shows later in
      let h = f.held other.birth in
      let s = can.held in
      lives kind (seen kinds d new) other.birth (omega (arith, h, s))

  pub can_own : CanOwn new (Some other)
  can_own =
      let x = other_lives in
      still_placed kinds c d rows new shows.housed later other.birth other.row x.0 (can.empty.housed.below other.birth other.row can.placed) can.placed x.1

  pub own_keeps : ((x : Object) → AreWhole (kinds x.ty)) → (e : Content) (after : Rows) → OwnerKeeps d new spot.object spot.word e after → AreRowed kinds d new → AreRowed kinds e after
  own_keeps whole = seen_keeps kinds whole d new shows.housed spot.object (zeroed spot.slot spot.word owners can.empty.object) now spot.word (ap (λ ty. kinds ty spot.word) like.ty ∙ owner)

  module _ (e : Content) (after : Rows) (owned : (ks : Seen) (o : Object) → IsOwner ks d new spot.object spot.word o → Shows ks e after (with_owner ks d new spot.object spot.slot spot.word o (option_map number_of (Some other)))) (same : after ≡ new) where
    shows_owned : Shows kinds e after (with_object spot.object.birth (with_word spot.slot spot.word (suc other.birth) (object_seen kinds (names_of d new) now.object)) (seen kinds d new))
    shows_owned =
        owned kinds now.object
        (record { housed = shows.housed; there = now.found; owner = ap (λ (o : Object). kinds o.ty spot.word) now.same ∙ ap (λ ty. kinds ty spot.word) like.ty ∙ owner })

    pub replace_shows : Shows kinds e after (replaced_by (ended_number kind depth) spot.object.birth spot.slot spot.word owners other.birth (seen kinds c rows))
    replace_shows = record {
      housed = shows_owned.housed;
      is = shows_owned.is
          ∙ ap (λ (x : Option Object). wrote_if x spot.object.birth spot.slot spot.word (suc other.birth ∷ []) (seen kinds d new)) (sym (found_seen kinds d new shows.housed spot.object now.object now.found))
          ∙ ap (λ (x : Content). wrote_if (at x.objects spot.object.birth) spot.object.birth spot.slot spot.word (suc other.birth ∷ []) x) shows.is;
    }

    pub replace_later : Later c e rows after
    replace_later =
        later_then c d e rows new after later
        (record {
          births = let b = ap (λ (x : Content). x.births) shows_owned.is in omega (arith, b);
          row = λ k q lt t. ap (λ (x : Rows). at x k) (sym same) ∙ t;
        })
