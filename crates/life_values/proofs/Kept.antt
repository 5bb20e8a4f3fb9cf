-- Objects are still there, with as many slots of as many words, where words are written and own nothing any more.
use Rattle.std.proofs.Common.{◌≡◌, ℕ, zero, suc, ◌+◌, List, [], ◌∷◌, Option, Some, None, refl, sym, ap, subst, ◌∙◌}
use Rattle.std.proofs.lemmas.Option.{same_Some}
use Rattle.life_store.specs.Cells.{at, at-set_same, at-set_other}
use Rattle.life_store.specs.Content.{Object, Content, with_object, with_word}
use Rattle.life_store.specs.Held.{with_words, wrote_if}
use Rattle.life_store.specs.Places.{Spot as Place, spot_words, wrote_spot}
use Rattle.life_store.proofs.MapLemmas.{one_or_apart}
use Rattle.life_forest.specs.Values.{AllWide}
use Rattle.life_values.specs.Moved.{behind, disowned, disowned_if, moved_words, slots_moved}
use Rattle.life_values.specs.Zeroed.{zeroed}
use Rattle.life_values.proofs.Renewed.{like_then, word_like, word_wide}
use Rattle.life_values.proofs.Zeroing.{zeroed_like, IsLike}

pub like_self : (o : Object) → IsLike o o
like_self o = record { ty = refl; width = refl; capacity = refl; count = refl }

pub words_like : (i w : ℕ) (vs : List ℕ) (o : Object) → IsLike (with_words i w vs o) o
words_like i w [] o = like_self o
words_like i w (v ∷ vs) o = like_then (words_like i (w + 1) vs (with_word i w v o)) (word_like i w v o)

pub words_wide : (i w : ℕ) (vs : List ℕ) (o : Object) → AllWide o.width o.slots → AllWide (with_words i w vs o).width (with_words i w vs o).slots
words_wide i w [] o wide = wide
words_wide i w (v ∷ vs) o wide = words_wide i (w + 1) vs (with_word i w v o) (word_wide i w v o wide)

pub zeroed_wide : (i w : ℕ) (us : List ℕ) (o : Object) → AllWide o.width o.slots → AllWide (zeroed i w us o).width (zeroed i w us o).slots
zeroed_wide i w [] o wide = wide
zeroed_wide i w (u ∷ us) o wide = zeroed_wide i w us (with_word i (w + u) 0 o) (word_wide i (w + u) 0 o wide)

-- the number has an object like this one
pub record IsKept (n : ℕ) (o : Object) (m : Content) : Type 0 where
  pub object : Object
  pub there : at m.objects n ≡ Some object
  pub like : IsLike object o
  pub long : AllWide o.width o.slots → AllWide object.width object.slots

pub kept_self : (n : ℕ) (o : Object) (m : Content) → at m.objects n ≡ Some o → IsKept n o m
kept_self n o m there = record { object = o; there = there; like = like_self o; long = λ h. h }

pub kept_with : (n : ℕ) (o : Object) (m : Content) → at m.objects n ≡ Some o → (k : ℕ) (p q : Object) → at m.objects k ≡ Some p → IsLike q p → (AllWide p.width p.slots → AllWide q.width q.slots) → IsKept n o (with_object k q m)
kept_with n o m there k p q at_k like long =
    one_or_apart k n
    (λ e. go (same_Some p o (sym at_k ∙ ap (at m.objects) e ∙ there)) e)
    (λ ne. kept_self n o (with_object k q m) (at-set_other m.objects k n q ne ∙ there))
  where
    go : p ≡ o → k ≡ n → IsKept n o (with_object k q m)
    go same e = record {
      object = q;
      there = at-set_same m.objects k n q e;
      like = subst (λ (x : Object). IsLike q x) same like;
      long = subst (λ (x : Object). AllWide x.width x.slots → AllWide q.width q.slots) same long;
    }

pub wrote_kept : (n : ℕ) (o : Object) (m : Content) → at m.objects n ≡ Some o → (p : Place) (vs : List ℕ) → IsKept n o (wrote_spot p vs m)
wrote_kept n o m there p vs = go (at m.objects p.object) refl
  where
    go : (x : Option Object) → at m.objects p.object ≡ x → IsKept n o (wrote_if x p.object p.index p.word vs m)
    go None e = kept_self n o m there
    go (Some q) e = kept_with n o m there p.object q (with_words p.index p.word vs q) e (words_like p.index p.word vs q) (words_wide p.index p.word vs q)

pub disowned_kept : (n : ℕ) (o : Object) (m : Content) → at m.objects n ≡ Some o → (p : Place) (us : List ℕ) → IsKept n o (disowned p us m)
disowned_kept n o m there p us = go (at m.objects p.object) refl
  where
    go : (x : Option Object) → at m.objects p.object ≡ x → IsKept n o (disowned_if x p us m)
    go None e = kept_self n o m there
    go (Some q) e = kept_with n o m there p.object q (zeroed p.index p.word us q) e (zeroed_like p.index p.word us q) (zeroed_wide p.index p.word us q)

pub kept_then : (n : ℕ) (o : Object) (m d : Content) → (k : IsKept n o m) → IsKept n k.object d → IsKept n o d
kept_then n o m d k l = record { object = l.object; there = l.there; like = like_then l.like k.like; long = λ h. l.long (k.long h) }

pub moved_kept : (n : ℕ) (o : Object) (m : Content) → at m.objects n ≡ Some o → (from to : Place) (w : ℕ) (us : List ℕ) → IsKept n o (moved_words from to w us m)
moved_kept n o m there from to w us =
    let a = wrote_kept n o m there to (spot_words m from w) in
    kept_then n o (wrote_spot to (spot_words m from w) m) (moved_words from to w us m) a (disowned_kept n a.object (wrote_spot to (spot_words m from w) m) a.there from us)

pub slots_kept : (k : ℕ) (n : ℕ) (o : Object) (m : Content) → at m.objects n ≡ Some o → (from to : Place) (w : ℕ) (us : List ℕ) → IsKept n o (slots_moved from to w us k m)
slots_kept zero n o m there from to w us = kept_self n o m there
slots_kept (suc k) n o m there from to w us =
    let a = moved_kept n o m there from to w us in
    kept_then n o (moved_words from to w us m) (slots_moved from to w us (suc k) m) a (slots_kept k n a.object (moved_words from to w us m) a.there (behind 1 from) (behind 1 to) w us)

-- ---- nothing comes to life, and no time passes

wrote_counts : (p : Place) (vs : List ℕ) (m : Content) → ((wrote_spot p vs m).births ≡ m.births) × ((wrote_spot p vs m).clock ≡ m.clock)
wrote_counts p vs m = go (at m.objects p.object)
  where
    go : (x : Option Object) → ((wrote_if x p.object p.index p.word vs m).births ≡ m.births) × ((wrote_if x p.object p.index p.word vs m).clock ≡ m.clock)
    go None = (refl, refl)
    go (Some o) = (refl, refl)

disowned_counts : (p : Place) (us : List ℕ) (m : Content) → ((disowned p us m).births ≡ m.births) × ((disowned p us m).clock ≡ m.clock)
disowned_counts p us m = go (at m.objects p.object)
  where
    go : (x : Option Object) → ((disowned_if x p us m).births ≡ m.births) × ((disowned_if x p us m).clock ≡ m.clock)
    go None = (refl, refl)
    go (Some o) = (refl, refl)

pub slots_counts : (k : ℕ) (from to : Place) (w : ℕ) (us : List ℕ) (m : Content) → ((slots_moved from to w us k m).births ≡ m.births) × ((slots_moved from to w us k m).clock ≡ m.clock)
slots_counts zero from to w us m = (refl, refl)
slots_counts (suc k) from to w us m =
    let a = wrote_counts to (spot_words m from w) m in
    let b = disowned_counts from us (wrote_spot to (spot_words m from w) m) in
    let r = slots_counts k (behind 1 from) (behind 1 to) w us (moved_words from to w us m) in
    (r.0 ∙ b.0 ∙ a.0, r.1 ∙ b.1 ∙ a.1)
