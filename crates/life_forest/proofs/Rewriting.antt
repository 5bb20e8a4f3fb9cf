-- A string takes a fresh buffer of other characters, and the old one ends.
use Rattle.std.proofs.Common.{◌≡◌, ◌≢◌, ℕ, ◌+◌, ◌<◌, List, [], ◌∷◌, length, map, Some, refl, sym, ap, subst, ◌∙◌, arith, inl}
use Rattle.std.specs.Prelude.{◌&&◌}
use Rattle.life_types.specs.declared.ty.TyId.{TyId}
use Rattle.life_store.specs.Cells.{at}
use Rattle.life_store.specs.Content.{Object, Content, without}
use Rattle.life_store.specs.Edits.{one_word, owned_at, owns as takes, rewritten}
use Rattle.life_store.specs.Effects.{Setting, Got}
use Rattle.life_store.specs.Held.{filled, owner_word}
use Rattle.life_store.specs.Owners.{sized_birth}
use Rattle.life_store.specs.Parts.{Single, Text}
use Rattle.life_store.specs.Places.{Spot, spot_words}
use Rattle.life_forest.specs.Kinds.{Kinds}
use Rattle.life_store.specs.Kinds.{is_owner, kind_in}
use Rattle.life_forest.specs.Owned.{every, times, owns}
use Rattle.life_forest.specs.Forest.{IsForest, Foot, Beneath, whole, Touches}
use Rattle.life_forest.specs.Typed.{AreFit}
use Rattle.life_forest.specs.Values.{IsNamed, listed, owned_of, owned_rows, IsLaid}
use Rattle.life_forest.proofs.Below.{empty_handed, is_positive}
use Rattle.life_forest.proofs.Beside.{wrote_without}
use Rattle.life_forest.proofs.Coming.{IfGot, came_touches, got_then}
use Rattle.life_forest.proofs.Copying.{Sized, sized_birth_came}
use Rattle.life_forest.proofs.Counting.{one_same, one_there}
use Rattle.life_forest.proofs.Feet.{and_all, within_self, within_all}
use Rattle.life_forest.proofs.Filling.{filled_forest, filled_is, filled_other, filled_owns, filled_there, full}
use Rattle.life_forest.proofs.Fitting.{OwnsAlike, fit_without_all, fit_wrote}
use Rattle.life_forest.proofs.FittingBirths.{flat_owner, got_both, value_owner}
use Rattle.life_forest.proofs.FittingCopies.{sized_fit}
use Rattle.life_forest.proofs.FittingRows.{fit_filled}
use Rattle.life_forest.proofs.Lying.{LiesAt, Covers, counted_among, counted_old, forest_value, lies_in, spot_words_in, touches_value, value_beneath}
use Rattle.life_forest.proofs.Sparing.{owns_le}
use Rattle.life_forest.proofs.Single.{forest_without, touches_with}
use Rattle.life_forest.proofs.Steps.{touches_then, touches_without_all}
use Rattle.life_forest.proofs.Widths.{AllLong}

rows_own_nothing : (vs : List (List ℕ)) (k : ℕ) → times (owned_rows Single vs) k ≡ 0
rows_own_nothing [] k = refl
rows_own_nothing (v ∷ vs) k = rows_own_nothing vs k

words_long : (ws : List ℕ) → AllLong 1 (map one_word ws)
words_long [] = tt
words_long (w ∷ ws) = (refl, words_long ws)

some_same : {x y : Object} → Some x ≡ Some y → x ≡ y
some_same e = cc

module _ (kind : Kinds) (s : Setting) (ty : TyId) (spot : Spot) (o : Object) (b : ℕ) (words : List ℕ) (hand : ℕ → ℕ) (c : Content) (forest : IsForest kind hand c) (lies : LiesAt kind c spot (Text ty) o)
    (owned : owned_at c spot ≡ Some b) (lower : kind.rank ty < kind.rank o.ty) (laid : IsLaid kind ty Single) where
  old_is : owned_of (Text ty) (spot_words c spot 1) ≡ b ∷ []
  old_is = ap listed owned

  holder_born : spot.object < c.births
  holder_born = forest.births spot.object o lies.there

  -- the holder owns the buffer, so it isn't one with it
  apart : spot.object ≢ b
  apart e =
      let a = counted_old kind c spot (Text ty) o lies b in
      let l = counted_among (λ u. is_owner (kind.word o.ty u) && every u) o.slots spot.index spot.word 1 b lies.words in
      let x = ap (λ xs. times xs b) old_is in
      let i = one_same b b refl in
      let own : 0 < owns kind every o b = omega arith in
      let h = forest.lower spot.object b o o lies.there own (sym (ap (at c.objects) e) ∙ lies.there) in
      omega arith

  module _ (f : ℕ × Content) (sized : Sized kind (kind.rank o.ty) hand ty 1 (length words) c f) where
    abbrev rows : List (List ℕ)
    rows = map one_word words

    abbrev text : Content
    text = filled f.0 rows f.1

    kinds : (u : ℕ) → kind.word sized.object.ty u ≡ kind_in Single u
    kinds u = ap (λ t. kind.word t u) sized.type ∙ laid u

    text_forest : IsForest kind (λ k. times (f.0 ∷ []) k + hand k) text
    text_forest =
        filled_forest f.1 f.0 sized.object rows sized.there kind Single kinds sized.blank (λ k. times (f.0 ∷ []) k + hand k)
        (empty_handed kind (λ k. times (f.0 ∷ []) k + hand k) (λ k. times (owned_rows Single rows) k + (times (f.0 ∷ []) k + hand k)) f.1 (λ k. let z = rows_own_nothing rows k in omega arith) sized.came.forest)
        (λ m q lt there. let z = rows_own_nothing rows m in absurd (omega arith))

    new_apart : f.0 ≢ spot.object
    new_apart e = let n = sized.number in let h = holder_born in omega arith

    holder_there : at text.objects spot.object ≡ Some o
    holder_there = filled_other f.1 f.0 sized.object rows sized.there spot.object new_apart ∙ sized.came.same spot.object holder_born ∙ lies.there

    lies_text : LiesAt kind text spot (Text ty) o
    lies_text = lies_in kind c spot (Text ty) o lies text holder_there

    old_there : (k : ℕ) → times (owned_of (Text ty) (spot_words text spot 1)) k ≡ times (b ∷ []) k
    old_there k = ap (λ (xs : List ℕ). times (owned_of (Text ty) xs) k) (spot_words_in kind c spot (Text ty) o lies text holder_there) ∙ ap (λ xs. times xs k) old_is

    rank_new : (q : Object) → at text.objects f.0 ≡ Some q → kind.rank q.ty < kind.rank o.ty
    rank_new q there =
        let e = ap (λ (x : Object). x.ty) (some_same (sym (filled_there f.1 f.0 sized.object rows sized.there) ∙ there)) in
        let r = ap kind.rank (sym sized.type ∙ e) in
        omega arith

    abbrev taken_over : Content
    taken_over = takes spot f.0 text

    over_forest : IsForest kind (λ k. times (b ∷ []) k + hand k) taken_over
    over_forest =
        forest_value kind text spot (Text ty) o lies_text (owner_word (Some f.0) ∷ []) refl (λ k. times (f.0 ∷ []) k + hand k) (λ k. times (b ∷ []) k + hand k) text_forest
        (λ m q lt there. let e = one_there f.0 m (omega arith) in rank_new q (subst (λ j. at text.objects j ≡ Some q) (sym e) there))
        (λ k. let x = old_there k in omega arith)

    is_rewritten : without b taken_over ≡ takes spot f.0 (without b text)
    is_rewritten = sym (wrote_without spot.object b spot.index spot.word (owner_word (Some f.0) ∷ []) text apart)

    done_forest : IsForest kind hand (takes spot f.0 (without b text))
    done_forest = subst (IsForest kind hand) is_rewritten (forest_without kind (λ k. times (b ∷ []) k + hand k) hand taken_over b over_forest (λ k. omega arith))

    -- .. and all fits
    done_fit : OwnsAlike kind o spot (Text ty) → IsNamed kind ty Single → AreFit kind f.1 → AreFit kind (takes spot f.0 (without b text))
    done_fit alike named fit =
        let width_is : sized.object.width ≡ 1 = (fit f.0 sized.object sized.there).width ∙ ap kind.width sized.type ∙ named.0 in
        subst (AreFit kind) is_rewritten
        (fit_without_all kind (b ∷ []) taken_over
        (fit_wrote kind text spot (Text ty) o lies_text alike (owner_word (Some f.0) ∷ []) refl
        (flat_owner text (Text ty) ty f.0 (full f.1 f.0 sized.object rows sized.there) (λ u. refl) (filled_there f.1 f.0 sized.object rows sized.there) sized.type)
        (fit_filled kind f.1 f.0 sized.object Single rows sized.there kinds (λ u. ap (λ t. kind.owned t u) sized.type ∙ named.1 u) (λ u m q k e there. absurd (value_owner k))
        (subst (λ n. AllLong n (map one_word words)) (sym width_is) (words_long words)) fit)))

    done_touches : (t : Foot) → Covers kind t spot (Text ty) → Touches kind t c (takes spot f.0 (without b text))
    done_touches t covers =
        subst (Touches kind t c) is_rewritten
        (touches_then kind hand c forest t (and_all t (b ∷ [])) t taken_over (without b taken_over) third fourth (within_self kind c t) (within_all kind c t (b ∷ [])
        (λ n lt h. subst (Beneath kind c t) (one_there b n (omega arith)) b_beneath)))
      where
        b_beneath : Beneath kind c t b
        b_beneath =
            let e = ap (λ xs. times xs b) old_is in
            let i = one_same b b refl in
            value_beneath kind c spot (Text ty) o lies t covers b (omega arith)

        new_within : (n : ℕ) → 0 < times (f.0 ∷ []) n → n < c.births → Beneath kind c t n
        new_within n lt h = let e = one_there f.0 n (omega arith) in let k = sized.number in absurd (omega arith)

        first : Touches kind t c f.1
        first = came_touches kind t (kind.rank o.ty) hand (f.0 ∷ []) c f.1 sized.came

        second : Touches kind (and_all t (f.0 ∷ [])) f.1 text
        second =
            subst (Touches kind (and_all t (f.0 ∷ [])) f.1) (sym (filled_is f.1 f.0 sized.object rows sized.there))
            (touches_with kind (and_all t (f.0 ∷ [])) f.1 f.0 sized.object (full f.1 f.0 sized.object rows sized.there) sized.there
            (inl (whole f.0 (is_positive (times (f.0 ∷ []) f.0) (let i = one_same f.0 f.0 refl in omega arith))))
            (λ g k lt own. let le = owns_le kind g every (Some (full f.1 f.0 sized.object rows sized.there)) k (λ u h. refl) in let l = filled_owns f.1 f.0 sized.object rows sized.there kind Single kinds sized.blank k in let z = rows_own_nothing rows k in absurd (omega arith)))

        middle : Touches kind t c text
        middle = touches_then kind hand c forest t (and_all t (f.0 ∷ [])) t f.1 text first second (within_self kind c t) (within_all kind c t (f.0 ∷ []) new_within)

        third : Touches kind t c taken_over
        third =
            touches_then kind hand c forest t (and_all t (f.0 ∷ [])) t text taken_over middle
            (touches_value kind text spot (Text ty) o lies_text (owner_word (Some f.0) ∷ []) refl (and_all t (f.0 ∷ [])) covers
            (λ k lt own. whole k (is_positive (times (f.0 ∷ []) k) (omega arith))))
            (within_self kind c t) (within_all kind c t (f.0 ∷ []) new_within)

        fourth : Touches kind (and_all t (b ∷ [])) taken_over (without b taken_over)
        fourth = touches_without_all kind (and_all t (b ∷ [])) taken_over (b ∷ []) (λ k lt. whole k (is_positive (times (b ∷ []) k) lt))

  pub rewritten_forest : IfGot (rewritten s ty spot b words c) (IsForest kind hand)
  rewritten_forest =
      got_then (sized_birth s ty 1 (length words) c) (λ f. Got (takes spot f.0 (without b (filled f.0 (map one_word words) f.1)))) (Sized kind (kind.rank o.ty) hand ty 1 (length words) c) (IsForest kind hand)
      (sized_birth_came kind (kind.rank o.ty) hand ty 1 (length words) c lower forest s)
      (λ f sized. done_forest f sized)

  pub rewritten_touches : (t : Foot) → Covers kind t spot (Text ty) → IfGot (rewritten s ty spot b words c) (Touches kind t c)
  rewritten_touches t covers =
      got_then (sized_birth s ty 1 (length words) c) (λ f. Got (takes spot f.0 (without b (filled f.0 (map one_word words) f.1)))) (Sized kind (kind.rank o.ty) hand ty 1 (length words) c) (Touches kind t c)
      (sized_birth_came kind (kind.rank o.ty) hand ty 1 (length words) c lower forest s)
      (λ f sized. done_touches f sized t covers)

  pub rewritten_fit : OwnsAlike kind o spot (Text ty) → IsNamed kind ty Single → AreFit kind c → IfGot (rewritten s ty spot b words c) (AreFit kind)
  rewritten_fit alike named fit =
      got_then (sized_birth s ty 1 (length words) c) (λ f. Got (takes spot f.0 (without b (filled f.0 (map one_word words) f.1)))) (λ f. Sized kind (kind.rank o.ty) hand ty 1 (length words) c f × AreFit kind f.1) (AreFit kind)
      (got_both (sized_birth s ty 1 (length words) c) (Sized kind (kind.rank o.ty) hand ty 1 (length words) c) (λ f. AreFit kind f.1)
      (sized_birth_came kind (kind.rank o.ty) hand ty 1 (length words) c lower forest s) (sized_fit kind s ty 1 (length words) hand c forest named.0 fit))
      (λ f h. done_fit f h.0 alike named h.1)
