-- Words that are written one after the other.
use Rattle.std.proofs.Common.{◌≡◌, ℕ, zero, suc, ◌+◌, ◌<◌, List, [], ◌∷◌, ◌++◌, length, take, Option, Some, None, IfSome, IsSome, refl, sym, ap, subst, ◌∙◌, arith}
use Rattle.std.proofs.lemmas.List.{length-take, take_all}
use Rattle.std.proofs.lemmas.Option.{none-some, same_Some, slice_get_within}
use Rattle.std.specs.Prelude.{slice_get, option_map}
use Rattle.life_store.specs.Cells.{Cells, at, at-set_same}
use Rattle.life_store.specs.Content.{Slot, Object, Content, set_slot, with_object, with_word, written}
use Rattle.life_store.specs.Held.{with_words}
use Rattle.life_store.specs.References.{Rows, object_of, HasWord}
use Rattle.life_store.specs.declared.object.ObjRef.{ObjRef}
use Rattle.life_store.proofs.MapLemmas.{set-set, set-unset, set_back}
use Rattle.life_seen.proofs.References.{found, of_found}
use Rattle.life_words.specs.Numbers.{HasWords, Wrote}

words_more : (i w : ℕ) (xs : List ℕ) (v : ℕ) (o : Object) → with_words i w (xs ++ v ∷ []) o ≡ with_word i (w + length xs) v (with_words i w xs o)
words_more i w [] v o = let z : w ≡ w + 0 = omega arith in ap (λ k. with_word i k v o) z
words_more i w (x ∷ xs) v o =
    let z : w + 1 + length xs ≡ w + suc (length xs) = omega arith in
    words_more i (w + 1) xs v (with_word i w x o) ∙ ap (λ k. with_word i k v (with_words i (w + 1) xs (with_word i w x o))) z

take_more : (xs : List ℕ) (k : ℕ) (v : ℕ) → slice_get xs k ≡ Some v → take (k + 1) xs ≡ take k xs ++ v ∷ []
take_more [] k v e = absurd (none e)
  where
    none : None ≡ Some v → ⊥
    none h = cc
take_more (x ∷ xs) zero v e = ap (λ y. y ∷ []) (same_Some x v e)
take_more (x ∷ xs) (suc k) v e = let z : suc k + 1 ≡ suc (k + 1) = omega arith in ap (λ n. take n (x ∷ xs)) z ∙ ap (λ (ys : List ℕ). x ∷ ys) (take_more xs k v e)

-- slots and widths stay
set_length : (ss : List Slot) (i : ℕ) (o : Option Slot) → length (set_slot ss i o) ≡ length ss
set_length ss i None = refl
set_length [] i (Some s) = refl
set_length (t ∷ ss) zero (Some s) = refl
set_length (t ∷ ss) (suc i) (Some s) = ap suc (set_length ss i (Some s))

has_after : (i w slot word count : ℕ) (xs : List ℕ) (o : Object) → HasWords slot word count o → HasWords slot word count (with_words i w xs o)
has_after i w slot word count [] o h = h
has_after i w slot word count (x ∷ xs) o h =
    has_after i (w + 1) slot word count xs (with_word i w x o) (record { has_slot = let e = set_length o.slots i (option_map (written w x) (slice_get o.slots i)) in let s = h.has_slot in omega (arith, e, s); has_words = h.has_words })

module _ (c : Content) (rows : Rows) (r : ObjRef) (slot word : ℕ) (values : List ℕ) where
  -- so many were written
  pub record Writing (k : ℕ) (d : Content) (new : Rows) : Type 0 where
    pub same : new ≡ rows
    pub wrote : (o : Object) → object_of c rows r ≡ Some o → d ≡ with_object r.birth (with_words slot word (take k values) o) c

  pub writing_begin : Writing 0 c rows
  writing_begin = record {
    same = refl;
    wrote = λ o there. ap (λ (m : Cells Object). record { objects = m; births = c.births; clock = c.clock })
        (sym (set_back c.objects r.birth o (found c rows r o there).there) ∙ set-unset c.objects r.birth o);
  }

  module _ (k : ℕ) (d : Content) (new : Rows) (w : Writing k d new) where
    -- the object as it is then
    found_then : (o : Object) → object_of c rows r ≡ Some o → object_of d new r ≡ Some (with_words slot word (take k values) o)
    found_then o there =
        let f = found c rows r o there in
        of_found d new r (with_words slot word (take k values) o)
        (record {
          there = ap (λ (x : Content). at x.objects r.birth) (w.wrote o there) ∙ at-set_same c.objects r.birth r.birth (with_words slot word (take k values) o) refl;
          placed = ap (λ (x : Rows). at x r.birth) w.same ∙ f.placed;
        })

    pub has_word : (x : Option Object) → object_of c rows r ≡ x → IsSome x → IfSome x (HasWords slot word (length values)) → k < length values → IfSome (object_of d new r) (HasWord slot (word + k))
    has_word None e some has lt = absurd (none_is some)
      where
        none_is : IsSome (let y : Option Object = None in y) → ⊥
        none_is h = cc
    has_word (Some o) e some has lt =
        let h = has_after slot word slot word (length values) (take k values) o has in
        subst (λ x. IfSome x (HasWord slot (word + k))) (sym (found_then o e)) (record { has_slot = h.has_slot; has_word = let l = h.has_words in omega (arith, l, lt) })

    pub lives_then : (x : Option Object) → object_of c rows r ≡ x → IsSome x → object_of d new r ≡ None → ⊥
    lives_then None e some none = absurd (none_is some)
      where
        none_is : IsSome (let y : Option Object = None in y) → ⊥
        none_is h = cc
    lives_then (Some o) e some none = none-some (with_words slot word (take k values) o) (sym none ∙ found_then o e)

    pub writing_next : (v : ℕ) → slice_get values k ≡ Some v → (e : Content) (after : Rows) → IfSome (object_of d new r) (λ o. e ≡ with_object r.birth (with_word slot (word + k) v o) d) → after ≡ new → Writing (k + 1) e after
    writing_next v at_k e after put same = record {
      same = same ∙ w.same;
      wrote = λ o there.
          let le : k < length values = slice_get_within values k v at_k in
          let l : length (take k values) ≡ k = omega (arith, length-take k values, le) in
          let put_there = subst (λ x. IfSome x (λ p. e ≡ with_object r.birth (with_word slot (word + k) v p) d)) (found_then o there) put in
          put_there
          ∙ ap (with_object r.birth (with_word slot (word + k) v (with_words slot word (take k values) o))) (w.wrote o there)
          ∙ ap (λ (m : Cells Object). record { objects = m; births = c.births; clock = c.clock }) (set-set c.objects r.birth (with_words slot word (take k values) o) (with_word slot (word + k) v (with_words slot word (take k values) o)))
          ∙ ap (λ (p : Object). with_object r.birth p c)
          (ap (λ n. with_word slot (word + n) v (with_words slot word (take k values) o)) (sym l)
          ∙ sym (words_more slot word (take k values) v o)
          ∙ ap (λ (xs : List ℕ). with_words slot word xs o) (sym (take_more values k v at_k)));
    }

    pub writing_end : k ≡ length values → (x : Option Object) → object_of c rows r ≡ x → Wrote x r.birth slot word values c d
    writing_end all None e = tt
    writing_end all (Some o) e = w.wrote o e ∙ ap (λ (xs : List ℕ). with_object r.birth (with_words slot word xs o) c) (take_all k values (omega (arith, all)))
