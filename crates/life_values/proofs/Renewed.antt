-- What a word owns gets another number: the forest stays, and the object is as it was but for that word.
use Rattle.std.proofs.Common.{◌≡◌, ℕ, suc, ◌+◌, ◌<◌, ◌≤◌, true, [], ◌∷◌, length, Option, Some, None, refl, sym, ap, subst, ◌∙◌, arith}
use Rattle.std.proofs.lemmas.Option.{same_Some}
use Rattle.std.specs.Prelude.{slice_index, ◌&&◌}
use Rattle.life_store.specs.Cells.{Cells, at, at-set_same, at-set_other, at-unset_other}
use Rattle.life_store.specs.Content.{Object, Content, with_object, with_rename, with_word, word_at, without}
use Rattle.life_store.specs.Held.{owned_in, wrote, wrote_if}
use Rattle.life_store.specs.Kinds.{is_owner}
use Rattle.life_store.specs.Owners.{Words, renamed, renamed_if}
use Rattle.life_store.specs.Parts.{Text}
use Rattle.life_store.proofs.MapLemmas.{set-set, set-unset, set_back}
use Rattle.life_forest.specs.Kinds.{Kinds}
use Rattle.life_forest.specs.Owned.{every, hit, times}
use Rattle.life_forest.specs.Forest.{IsForest}
use Rattle.life_forest.specs.Values.{listed, AllWide}
use Rattle.life_forest.proofs.Below.{lives, empty_handed}
use Rattle.life_forest.proofs.Counting.{one_same, one_there}
use Rattle.life_forest.proofs.Puts.{IsWord, counted, counts}
use Rattle.life_forest.proofs.Taking.{taken_took}
use Rattle.life_forest.proofs.Words.{forest_wrote}
use Rattle.life_values.specs.Taken.{owned_if, renewed, wrote_back}
use Rattle.life_values.proofs.Clearing.{zero_here}
use Rattle.life_values.proofs.EmptiedMeant.{low_out, out_forest}
use Rattle.life_values.proofs.Owners.{count_put, hit_times, wide_put, wide_word, with_word_is}
use Rattle.life_values.proofs.Zeroing.{IsLike}
use Rattle.life_values.proofs.Zeros.{with_zero}

pub word_like : (i u v : ℕ) (o : Object) → IsLike (with_word i u v o) o
word_like i u v o = record { ty = refl; width = refl; capacity = refl; count = ap (λ (x : Object). length x.slots) (with_word_is i u v o) ∙ count_put o.slots i u v }

pub like_then : {x y z : Object} → IsLike x y → IsLike y z → IsLike x z
like_then a b = record { ty = a.ty ∙ b.ty; width = a.width ∙ b.width; capacity = a.capacity ∙ b.capacity; count = a.count ∙ b.count }

pub word_wide : (i u v : ℕ) (o : Object) → AllWide o.width o.slots → AllWide (with_word i u v o).width (with_word i u v o).slots
word_wide i u v o wide = subst (λ (x : Object). AllWide o.width x.slots) (sym (with_word_is i u v o)) (wide_put o.width o.slots i u v wide)

-- the object is as it was but for some words, and the forest is one
pub record IsStill (kind : Kinds) (n : ℕ) (hand : ℕ → ℕ) (o : Object) (m d : Content) : Type 0 where
  pub object : Object
  pub found : at d.objects n ≡ Some object
  pub like : IsLike object o
  pub long : AllWide object.width object.slots
  pub still : IsForest kind hand d
  pub births : d.births ≤ m.births + 1
  pub clock : d.clock ≡ m.clock

module _ (kind : Kinds) (n i u : ℕ) (hand : ℕ → ℕ) (m : Content) (o : Object) (there : at m.objects n ≡ Some o) (forest : IsForest kind hand m) (wide : AllWide o.width o.slots) (slot : i < length o.slots) (within : u < o.width) (owner : is_owner (kind.word o.ty u) ≡ true) where
  has : IsWord i u o.slots
  has = wide_word o.width o.slots i u wide slot within

  -- what was owned is taken out
  abbrev pub out : Content
  out = with_object n (with_word i u 0 o) m

  pub out_is : wrote n i u (0 ∷ []) m ≡ out
  out_is = ap (λ (x : Option Object). wrote_if x n i u (0 ∷ []) m) there

  here : IsForest kind hand (with_object n o m)
  here = subst (IsForest kind hand) (ap (λ (x : Cells Object). record { objects = x; births = m.births; clock = m.clock }) (sym (sym (set-unset m.objects n o) ∙ set_back m.objects n o there))) forest

  pub held_forest : IsForest kind (λ k. times (listed (owned_in (word_at o i u))) k + hand k) (with_object n (with_word i u 0 o) m)
  held_forest = out_forest kind 0 n i hand m o u here has owner

  pub there_out : at (with_object n (with_word i u 0 o) m).objects n ≡ Some (with_word i u 0 o)
  there_out = at-set_same m.objects n n (with_word i u 0 o) refl

  pub renewed_by : renewed n i u m ≡ wrote_back n i u (renamed (owned_in (word_at o i u)) (with_object n (with_word i u 0 o) m))
  renewed_by = (λ j. wrote_back n i u (renamed (owned_if (there j) i u) (out_is j)))

  -- the word owns nothing
  pub renewed_none : owned_in (word_at o i u) ≡ None → renewed n i u m ≡ with_object n (with_word i u 0 o) m
  renewed_none none =
      renewed_by
      ∙ ap (λ x. wrote_back n i u (renamed x (with_object n (with_word i u 0 o) m))) none
      ∙ ap (λ (x : Option Object). wrote_if x n i u (0 ∷ []) (with_object n (with_word i u 0 o) m)) there_out
      ∙ ap (λ (x : Object). with_object n x (with_object n (with_word i u 0 o) m)) (with_zero i u (with_word i u 0 o) (zero_here o i u))
      ∙ ap (λ (x : Cells Object). record { objects = x; births = m.births; clock = m.clock }) (set-set m.objects n (with_word i u 0 o) (with_word i u 0 o))

  -- it owned another object
  module _ (q : ℕ) (some : owned_in (word_at o i u) ≡ Some q) where
    pub one_held : IsForest kind (λ k. times (q ∷ []) k + hand k) (with_object n (with_word i u 0 o) m)
    one_held = subst (λ (x : Option ℕ). IsForest kind (λ k. times (listed x) k + hand k) (with_object n (with_word i u 0 o) m)) some held_forest

    pub owned_there : (x : Object) × (at (with_object n (with_word i u 0 o) m).objects q ≡ Some x)
    owned_there = let h = one_held.held q in let s = one_same q q refl in lives kind (with_object n (with_word i u 0 o) m) q (omega (arith, h, s))

    pub not_itself : n ≡ q → ⊥
    not_itself e =
        let s = one_same q q refl in
        let l = low_out kind 0 n i hand m o u here has owner q (with_word i u 0 o) (subst (λ (x : Option ℕ). 0 < times (listed x) q) (sym some) (omega (arith, s))) (ap (at (with_object n (with_word i u 0 o) m).objects) (sym e) ∙ there_out) in
        absurd (omega (arith, l))

    born : n < m.births
    born = forest.births n o there

    abbrev pub moved : Content
    moved = with_rename q owned_there.0 (with_object n (with_word i u 0 o) m)

    pub there_moved : at (with_rename q owned_there.0 (with_object n (with_word i u 0 o) m)).objects n ≡ Some (with_word i u 0 o)
    there_moved =
        at-set_other (without q (with_object n (with_word i u 0 o) m)).objects m.births n owned_there.0 (λ e. let b = born in absurd (omega (arith, e, b)))
        ∙ at-unset_other (with_object n (with_word i u 0 o) m).objects q n (λ e. not_itself (sym e)) ∙ there_out

    pub renewed_some : renewed n i u m ≡ with_object n (with_word i u (suc m.births) (with_word i u 0 o)) (with_rename q owned_there.0 (with_object n (with_word i u 0 o) m))
    renewed_some =
        renewed_by
        ∙ ap (λ x. wrote_back n i u (renamed x (with_object n (with_word i u 0 o) m))) some
        ∙ ap (λ (x : Option Object). wrote_back n i u (renamed_if x q (with_object n (with_word i u 0 o) m))) owned_there.1
        ∙ ap (λ (x : Option Object). wrote_if x n i u (suc m.births ∷ []) (with_rename q owned_there.0 (with_object n (with_word i u 0 o) m))) there_moved

    -- ---- the forest stays

    pub rank_less : kind.rank owned_there.0.ty < kind.rank o.ty
    rank_less =
        let s = one_same q q refl in
        low_out kind 0 n i hand m o u here has owner q owned_there.0 (subst (λ (x : Option ℕ). 0 < times (listed x) q) (sym some) (omega (arith, s))) owned_there.1

    moved_forest : IsForest kind (λ k. times (m.births ∷ []) k + hand k) (with_rename q owned_there.0 (with_object n (with_word i u 0 o) m))
    moved_forest =
        let t = taken_took kind (Text (record { 0 = 0 })) (suc q ∷ []) refl hand (with_object n (with_word i u 0 o) m) one_held in
        subst (λ (v : Words). IsForest kind (λ k. times (listed (owned_in (slice_index v.0 0))) k + hand k) v.1)
        (ap (λ (x : Option Object). renamed_if x q (with_object n (with_word i u 0 o) m)) owned_there.1) t.0.forest

    word_less : IsWord i u (with_word i u 0 o).slots
    word_less =
        let l = (word_like i u 0 o).count in
        wide_word (with_word i u 0 o).width (with_word i u 0 o).slots i u (word_wide i u 0 o wide) (omega (arith, l, slot)) within

    every_here : (is_owner (kind.word (with_word i u 0 o).ty u) && every u) ≡ true
    every_here = ap (λ b. b && true) owner

    one_word : (k : ℕ) → counted (λ w. is_owner (kind.word (with_word i u 0 o).ty w) && every w) u (suc m.births ∷ []) k ≡ times (m.births ∷ []) k
    one_word k =
        let e : counts (is_owner (kind.word (with_word i u 0 o).ty u) && every u) (suc m.births) k ≡ hit (suc m.births) k = ap (λ b. counts b (suc m.births) k) every_here in
        let h = hit_times (suc m.births) k in
        omega (arith, e, h)

    back_forest : IsForest kind hand (with_object n (with_word i u (suc m.births) (with_word i u 0 o)) (with_rename q owned_there.0 (with_object n (with_word i u 0 o) m)))
    back_forest =
        subst (IsForest kind hand) (ap (λ (x : Option Object). wrote_if x n i u (suc m.births ∷ []) (with_rename q owned_there.0 (with_object n (with_word i u 0 o) m))) there_moved)
        (forest_wrote kind (with_rename q owned_there.0 (with_object n (with_word i u 0 o) m)) n i u (suc m.births ∷ []) (with_word i u 0 o) there_moved (word_less, tt) (λ k. times (m.births ∷ []) k + hand k) hand moved_forest
        (λ k x own at_k.
        let w = one_word k in
        let e : m.births ≡ k = one_there m.births k (omega (arith, own, w)) in
        let y : owned_there.0 ≡ x = same_Some owned_there.0 x (sym (at-set_same (without q (with_object n (with_word i u 0 o) m)).objects m.births k owned_there.0 e) ∙ at_k) in
        let t = ap (λ (z : Object). kind.rank z.ty) y in
        let r = rank_less in
        omega (arith, t, r))
        (λ k. let w = one_word k in omega (arith, w)))

  -- ---- the content then

  pub renewed_then : IsStill kind n hand o m (renewed n i u m)
  renewed_then = go (owned_in (word_at o i u)) refl
    where
      go : (x : Option ℕ) → owned_in (word_at o i u) ≡ x → IsStill kind n hand o m (renewed n i u m)
      go None e = subst (IsStill kind n hand o m) (sym (renewed_none e)) (record {
        object = with_word i u 0 o;
        found = there_out;
        like = word_like i u 0 o;
        long = word_wide i u 0 o wide;
        still = empty_handed kind (λ k. times [] k + hand k) hand (with_object n (with_word i u 0 o) m) (λ k. omega arith)
            (subst (λ (y : Option ℕ). IsForest kind (λ k. times (listed y) k + hand k) (with_object n (with_word i u 0 o) m)) e held_forest);
        births = omega arith;
        clock = refl;
      })
      go (Some q) e = subst (IsStill kind n hand o m) (sym (renewed_some q e)) (record {
        object = with_word i u (suc m.births) (with_word i u 0 o);
        found = at-set_same (with_rename q (owned_there q e).0 (with_object n (with_word i u 0 o) m)).objects n n (with_word i u (suc m.births) (with_word i u 0 o)) refl;
        like = like_then (word_like i u (suc m.births) (with_word i u 0 o)) (word_like i u 0 o);
        long = word_wide i u (suc m.births) (with_word i u 0 o) (word_wide i u 0 o wide);
        still = back_forest q e;
        births = omega arith;
        clock = refl;
      })
