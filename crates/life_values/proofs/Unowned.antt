-- What nothing owns is owned by nothing still where words go from one place to another.
use Rattle.std.proofs.Common.{◌≡◌, ◌⊎◌, ℕ, zero, suc, ◌+◌, ◌<◌, List, [], ◌∷◌, take, drop, Option, Some, None, refl, sym, ap, subst, ◌∙◌, arith, inl, inr, ⊎_elim}
use Rattle.std.proofs.lemmas.Option.{none-some, same_Some}
use Rattle.std.specs.Prelude.{slice_get, slice_set}
use Rattle.life_store.specs.Cells.{at, at-set_same, at-set_other}
use Rattle.life_store.specs.Content.{Slot, Object, Content, with_object, with_word}
use Rattle.life_store.specs.Held.{slots_if, with_words, words_if, wrote_if}
use Rattle.life_store.specs.Kinds.{Kind, Plain, Owner, Pointing}
use Rattle.life_store.specs.Places.{Spot as Place, spot_words, wrote_spot}
use Rattle.life_store.proofs.MapLemmas.{one_or_apart}
use Rattle.life_forest.proofs.Puts.{put_in}
use Rattle.life_seen.specs.Kinds.{Kinds}
use Rattle.life_seen.specs.Owned.{owner_of, owner_at, owner_in, owner_if, IsUnowned}
use Rattle.life_values.specs.Moved.{behind, disowned, disowned_if, moved_words, slots_moved}
use Rattle.life_values.specs.Zeroed.{zeroed}
use Rattle.life_values.proofs.Kept.{moved_kept, words_like}
use Rattle.life_values.proofs.Owners.{with_word_is}
use Rattle.life_values.proofs.Zeroing.{zeroed_like}

-- ---- one word is written

kind_owns : (k : Kind) (v n : ℕ) → owner_of k v ≡ suc n → (k ≡ Owner) × (v ≡ suc n)
kind_owns Plain v n e = absurd (omega (arith, e))
kind_owns Owner v n e = (refl, e)
kind_owns (Pointing i) v n e = absurd (omega (arith, e))

abbrev IsNew : (ℕ → Kind) → (word value n : ℕ) → Type 0
IsNew f w v n = (f w ≡ Owner) × (v ≡ suc n)

set_owns : (f : ℕ → Kind) (ws : List ℕ) (w v u n : ℕ) → owner_at f (slice_set ws w v) u ≡ suc n → (owner_at f ws u ≡ suc n) ⊎ IsNew f w v n
set_owns f [] w v u n e = inl e
set_owns f (x ∷ xs) zero v zero n e = inr (kind_owns (f 0) v n e)
set_owns f (x ∷ xs) zero v (suc u) n e = inl e
set_owns f (x ∷ xs) (suc w) v zero n e = inl e
set_owns f (x ∷ xs) (suc w) v (suc u) n e = set_owns (λ y. f (suc y)) xs w v u n e

put_owns : (f : ℕ → Kind) (ss : List Slot) (i w v j u n : ℕ) → owner_in f (put_in i w v ss) j u ≡ suc n → (owner_in f ss j u ≡ suc n) ⊎ IsNew f w v n
put_owns f [] i w v j u n e = inl e
put_owns f (s ∷ ss) zero w v zero u n e = set_owns f s.words w v u n e
put_owns f (s ∷ ss) zero w v (suc j) u n e = inl e
put_owns f (s ∷ ss) (suc i) w v zero u n e = inl e
put_owns f (s ∷ ss) (suc i) w v (suc j) u n e = put_owns f ss i w v j u n e

word_owns : (f : ℕ → Kind) (o : Object) (i w v j u n : ℕ) → owner_in f (with_word i w v o).slots j u ≡ suc n → (owner_in f o.slots j u ≡ suc n) ⊎ IsNew f w v n
word_owns f o i w v j u n e = put_owns f o.slots i w v j u n (ap (λ (x : Object). owner_in f x.slots j u) (sym (with_word_is i w v o)) ∙ e)

-- ---- several are

-- one of the words, at an owner's place
abbrev IsAmong : (ℕ → Kind) → ℕ → List ℕ → ℕ → Type 0
IsAmong f w vs n = (k : ℕ) × (slice_get vs k ≡ Some (suc n)) × (f (w + k) ≡ Owner)

words_own : (f : ℕ → Kind) (i w : ℕ) (vs : List ℕ) (o : Object) (j u n : ℕ) → owner_in f (with_words i w vs o).slots j u ≡ suc n → (owner_in f o.slots j u ≡ suc n) ⊎ IsAmong f w vs n
words_own f i w [] o j u n e = inl e
words_own f i w (v ∷ vs) o j u n e =
    ⊎_elim
    (λ old. ⊎_elim (λ was. inl was) (λ new. let z : w + 0 ≡ w = omega arith in inr (0, ap Some new.1, ap f z ∙ new.0)) (word_owns f o i w v j u n old))
    (λ more. let z : w + suc more.0 ≡ w + 1 + more.0 = omega arith in inr (suc more.0, more.1, ap f z ∙ more.2))
    (words_own f i (w + 1) vs (with_word i w v o) j u n e)

none_owns : (f : ℕ → Kind) (i w : ℕ) (us : List ℕ) (o : Object) (j u n : ℕ) → owner_in f (zeroed i w us o).slots j u ≡ suc n → owner_in f o.slots j u ≡ suc n
none_owns f i w [] o j u n e = e
none_owns f i w (x ∷ xs) o j u n e = ⊎_elim (λ old. old) (λ new. let z = new.1 in absurd (omega (arith, z))) (word_owns f o i (w + x) 0 j u n (none_owns f i w xs (with_word i (w + x) 0 o) j u n e))

-- ---- words as they are read

in_cut : (ws : List ℕ) (a n k x : ℕ) → slice_get (take n (drop a ws)) k ≡ Some x → slice_get ws (a + k) ≡ Some x × (k < n)
in_cut [] a n k x e = absurd (none_at a n k e)
  where
    none_at : (a n k : ℕ) → slice_get (take n (drop a [])) k ≡ Some x → ⊥
    none_at zero zero k h = none-some x h
    none_at zero (suc n) k h = none-some x h
    none_at (suc a) zero k h = none-some x h
    none_at (suc a) (suc n) k h = none-some x h
in_cut (w ∷ ws) zero zero k x e = absurd (none-some x e)
in_cut (w ∷ ws) zero (suc n) zero x e = (e, omega arith)
in_cut (w ∷ ws) zero (suc n) (suc k) x e = let r = in_cut ws zero n k x e in let s : 0 + suc k ≡ suc (0 + k) = omega arith in (ap (slice_get (w ∷ ws)) s ∙ r.0, let l = r.1 in omega (arith, l))
in_cut (w ∷ ws) (suc a) n k x e = let r = in_cut ws a n k x e in let s : suc a + k ≡ suc (a + k) = omega arith in (ap (slice_get (w ∷ ws)) s ∙ r.0, r.1)

read_owns : (f : ℕ → Kind) (ss : List Slot) (i u x : ℕ) → slice_get (words_if (slice_get ss i)) u ≡ Some x → f u ≡ Owner → owner_in f ss i u ≡ x
read_owns f [] i u x e own = absurd (none-some x e)
read_owns f (s ∷ ss) zero u x e own = go f s.words u e own
  where
    go : (g : ℕ → Kind) (ws : List ℕ) (v : ℕ) → slice_get ws v ≡ Some x → g v ≡ Owner → owner_at g ws v ≡ x
    go g [] v h o = absurd (none-some x h)
    go g (w ∷ ws) zero h o = ap (λ k. owner_of k w) o ∙ same_Some w x h
    go g (w ∷ ws) (suc v) h o = go (λ y. g (suc y)) ws v h o
read_owns f (s ∷ ss) (suc i) u x e own = read_owns f ss i u x e own

-- ---- contents

module _ (kinds : Kinds) (q : ℕ) where
  with_unowned : (m : Content) (n : ℕ) (o p : Object) → at m.objects n ≡ Some o → ((j u : ℕ) → owner_in (kinds p.ty) p.slots j u ≡ suc q → ⊥) → IsUnowned kinds q m → IsUnowned kinds q (with_object n p m)
  with_unowned m n o p there free un k j u own =
      one_or_apart n k
      (λ e. free j u (ap (λ x. owner_if kinds x j u) (sym (at-set_same m.objects n k p e)) ∙ own))
      (λ ne. un k j u (ap (λ x. owner_if kinds x j u) (sym (at-set_other m.objects n k p ne)) ∙ own))

  owned_there : (m : Content) (n : ℕ) (o : Object) → at m.objects n ≡ Some o → IsUnowned kinds q m → (j u : ℕ) → owner_in (kinds o.ty) o.slots j u ≡ suc q → ⊥
  owned_there m n o there un j u own = un n j u (ap (λ x. owner_if kinds x j u) there ∙ own)

  wrote_unowned : (m : Content) (p : Place) (o : Object) (vs : List ℕ) → at m.objects p.object ≡ Some o → ((k : ℕ) → slice_get vs k ≡ Some (suc q) → kinds o.ty (p.word + k) ≡ Owner → ⊥) → IsUnowned kinds q m → IsUnowned kinds q (wrote_spot p vs m)
  wrote_unowned m p o vs there free un =
      subst (IsUnowned kinds q) (ap (λ x. wrote_if x p.object p.index p.word vs m) (sym there))
      (with_unowned m p.object o (with_words p.index p.word vs o) there
      (λ j u own.
      let same = ap (λ ty. owner_in (kinds ty) (with_words p.index p.word vs o).slots j u) (sym (words_like p.index p.word vs o).ty) in
      ⊎_elim (owned_there m p.object o there un j u) (λ new. free new.0 new.1 new.2) (words_own (kinds o.ty) p.index p.word vs o j u q (same ∙ own)))
      un)

  disowned_unowned : (m : Content) (p : Place) (us : List ℕ) → IsUnowned kinds q m → IsUnowned kinds q (disowned p us m)
  disowned_unowned m p us un = go (at m.objects p.object) refl
    where
      go : (x : Option Object) → at m.objects p.object ≡ x → IsUnowned kinds q (disowned_if x p us m)
      go None e = un
      go (Some o) e =
          with_unowned m p.object o (zeroed p.index p.word us o) e
          (λ j u own.
          let same = ap (λ ty. owner_in (kinds ty) (zeroed p.index p.word us o).slots j u) (sym (zeroed_like p.index p.word us o).ty) in
          owned_there m p.object o e un j u (none_owns (kinds o.ty) p.index p.word us o j u q (same ∙ own)))
          un

  -- a value goes to a place of the same kinds
  pub moved_unowned : (m : Content) (from to : Place) (w : ℕ) (us : List ℕ) (source target : Object) → at m.objects from.object ≡ Some source → at m.objects to.object ≡ Some target
      → ((u : ℕ) → u < w → kinds source.ty (from.word + u) ≡ kinds target.ty (to.word + u)) → IsUnowned kinds q m → IsUnowned kinds q (moved_words from to w us m)
  moved_unowned m from to w us source target from_there to_there alike un =
      disowned_unowned (wrote_spot to (spot_words m from w) m) from us
      (wrote_unowned m to target (spot_words m from w) to_there
      (λ k is own.
      let r = in_cut (words_if (slice_get source.slots from.index)) from.word w k (suc q) (ap (λ x. slice_get (take w (drop from.word (words_if (slice_get (slots_if x) from.index)))) k) (sym from_there) ∙ is) in
      owned_there m from.object source from_there un from.index (from.word + k) (read_owns (kinds source.ty) source.slots from.index (from.word + k) (suc q) r.0 (alike k r.1 ∙ own)))
      un)

  -- .. and so do slots
  pub slots_unowned : (k : ℕ) (m : Content) (from to : Place) (w : ℕ) (us : List ℕ) (source target : Object) → at m.objects from.object ≡ Some source → at m.objects to.object ≡ Some target
      → ((u : ℕ) → u < w → kinds source.ty (from.word + u) ≡ kinds target.ty (to.word + u)) → IsUnowned kinds q m → IsUnowned kinds q (slots_moved from to w us k m)
  slots_unowned zero m from to w us source target from_there to_there alike un = un
  slots_unowned (suc k) m from to w us source target from_there to_there alike un =
      let a = moved_kept from.object source m from_there from to w us in
      let b = moved_kept to.object target m to_there from to w us in
      slots_unowned k (moved_words from to w us m) (behind 1 from) (behind 1 to) w us a.object b.object a.there b.there
      (λ u lt. ap (λ ty. kinds ty (from.word + u)) a.like.ty ∙ alike u lt ∙ ap (λ ty. kinds ty (to.word + u)) (sym b.like.ty))
      (moved_unowned m from to w us source target from_there to_there alike un)
