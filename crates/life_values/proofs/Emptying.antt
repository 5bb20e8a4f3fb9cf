-- An object gives up what its words own, one word after the other, and each ends before the next is taken out.
use Rattle.std.proofs.Common.{◌≡◌, ◌≢◌, ℕ, suc, ◌+◌, ◌<◌, Bool, true, List, [], ◌∷◌, ◌++◌, length, Option, Some, None, refl, sym, ap, subst, ◌∙◌, arith}
use Rattle.std.proofs.lemmas.Option.{none-some}
use Rattle.std.specs.Prelude.{◌&&◌}
use Rattle.life_store.specs.Cells.{Cells, at, at-set_same, at-set_other, at-unset_same}
use Rattle.life_store.specs.Content.{Object, Content, with_object, with_word, word_at, without}
use Rattle.life_store.specs.Held.{wrote_if}
use Rattle.life_store.proofs.MapLemmas.{set-set, set_back, unset-set}
use Rattle.life_forest.specs.Kinds.{Kinds}
use Rattle.life_store.specs.Kinds.{is_owner}
use Rattle.life_forest.specs.Owned.{every, one, times, owns, owned_list}
use Rattle.life_forest.specs.Forest.{IsForest, Below}
use Rattle.life_forest.proofs.Below.{alike_without_all, below_lives, below_up, empty_handed, top}
use Rattle.life_forest.proofs.Counting.{one_same, one_there, times-append}
use Rattle.life_forest.proofs.Ending.{Ended}
use Rattle.life_forest.proofs.Puts.{IsWord, counted, counts, word_of, in_slots-puts}
use Rattle.life_forest.proofs.Steps.{times-owned_list, was_there}
use Rattle.life_forest.proofs.Words.{forest_wrote}
use Rattle.life_values.specs.Ended.{ended_each, ended_number}
use Rattle.life_values.proofs.Ends.{AreBelow, each_end, ended_aside, number_end, out_of_hand}
use Rattle.life_values.proofs.Owners.{count_put, with_word_is, word_of_is}

each-append : (end : ℕ → Content → Content) (ns : List ℕ) (n : ℕ) (c : Content) → ended_each end (ns ++ n ∷ []) c ≡ end n (ended_each end ns c)
each-append end [] n c = refl
each-append end (m ∷ ms) n c = each-append end ms n (end m c)

module _ (kind : Kinds) (depth n : ℕ) (hand : ℕ → ℕ) (before : Content) (o : Object) (there : at before.objects n ≡ Some o) (start : IsForest kind (λ k. times (n ∷ []) k + hand k) before) (below : AreBelow kind (suc depth) (n ∷ []) before) where
  abbrev pub ending : ℕ → Content → Content
  ending = ended_number kind depth

  -- what ended so far, and the object with the other words
  pub record IsEnding (now : Content) : Type 0 where
    pub list : List ℕ
    pub object : Object
    pub is : now ≡ with_object n object (ended_each (ended_number kind depth) list (without n before))
    pub ty : object.ty ≡ o.ty
    pub count : length object.slots ≡ length o.slots
    pub width : object.width ≡ o.width
    pub owned : (k : ℕ) → times list k + owns kind every object k ≡ owns kind every o k
    pub forest : IsForest kind (λ k. times (n ∷ []) k + hand k) now

  pub begin : IsEnding before
  begin = record {
    list = [];
    object = o;
    is = ap (λ (m : Cells Object). record { objects = m; births = before.births; clock = before.clock }) (sym (set_back before.objects n o there));
    ty = refl;
    count = refl;
    width = refl;
    owned = λ k. omega arith;
    forest = start;
  }

  -- ---- what is owned is of a lesser type, and is another object

  lesser : (m : ℕ) (q : Object) → 0 < owns kind every o m → at before.objects m ≡ Some q → kind.rank q.ty < depth
  lesser m q own at_m =
      let s = one_same n n refl in
      let a = start.lower n m o q there own at_m in
      let b = below n o (omega (arith, s)) there in
      omega (arith, a, b)

  another : (q : ℕ) → 0 < owns kind every o q → q ≢ n
  another q own e = let a = start.lower n q o o there own (ap (at before.objects) e ∙ there) in absurd (omega (arith, a))

  module _ (now : Content) (so_far : IsEnding now) where
    abbrev rest : Content
    rest = ended_each (ended_number kind depth) so_far.list (without n before)

    owned_is : (k : ℕ) → times (owned_list kind (Some o)) k ≡ times so_far.list k + owns kind every so_far.object k
    owned_is k = times-owned_list kind (Some o) k ∙ sym (so_far.owned k)

    listed_below : AreBelow kind depth so_far.list (without n before)
    listed_below m q lt at_m = let s = so_far.owned m in lesser m q (omega (arith, s, lt)) (was_there kind (n ∷ []) before m q at_m)

    ended_so_far : Ended kind (λ k. hand k + owns kind every so_far.object k) so_far.list (without n before) (without n before) rest
    ended_so_far =
        each_end kind depth (ended_number kind depth) (number_end kind depth) so_far.list (λ k. hand k + owns kind every so_far.object k) (without n before) (without n before)
        (empty_handed kind (λ k. times (owned_list kind (Some o)) k + hand k) (λ k. times so_far.list k + (hand k + owns kind every so_far.object k)) (without n before)
        (λ k. let e = owned_is k in omega (arith, e)) (out_of_hand kind hand before n o there start))
        listed_below (λ k low. refl)

    rest_forest : IsForest kind (λ k. hand k + owns kind every so_far.object k) rest
    rest_forest = subst (IsForest kind (λ k. hand k + owns kind every so_far.object k)) (sym ended_so_far.is) ended_so_far.forest

    rest_was : (k : ℕ) (q : Object) → at rest.objects k ≡ Some q → at (without n before).objects k ≡ Some q
    rest_was k q e = was_there kind ended_so_far.list (without n before) k q (ap (λ (c : Content). at c.objects k) (sym ended_so_far.is) ∙ e)

    rest_none : at rest.objects n ≡ None
    rest_none = go (at rest.objects n) refl
      where
        go : (x : Option Object) → at rest.objects n ≡ x → at rest.objects n ≡ None
        go None e = e
        go (Some q) e = absurd (none-some q (sym (at-unset_same before.objects n n refl) ∙ rest_was n q e))

    pub there_now : at now.objects n ≡ Some so_far.object
    there_now = ap (λ (c : Content). at c.objects n) so_far.is ∙ at-set_same rest.objects n n so_far.object refl

    -- ---- a word is taken out, and what it owned ends

    module _ (i u q : ℕ) (has : IsWord i u so_far.object.slots) (owner : is_owner (kind.word so_far.object.ty u) ≡ true) (holds : word_at so_far.object i u ≡ suc q) where
      abbrev less : Object
      less = with_word i u 0 so_far.object

      abbrev pub taken : Content
      taken = with_object n (with_word i u 0 so_far.object) now

      abbrev counted_here : ℕ → Bool
      counted_here v = is_owner (kind.word so_far.object.ty v) && every v

      here : (is_owner (kind.word so_far.object.ty u) && every u) ≡ true
      here = ap (λ b. b && true) owner

      word_here : word_of i u so_far.object.slots ≡ suc q
      word_here = word_of_is so_far.object.slots i u ∙ holds

      one_word : (k : ℕ) → counted (λ v. is_owner (kind.word so_far.object.ty v) && every v) u (word_of i u so_far.object.slots ∷ []) k ≡ one q k
      one_word k =
          let e : counts (is_owner (kind.word so_far.object.ty u) && every u) (word_of i u so_far.object.slots) k ≡ one q k = (λ j. counts (here j) (word_here j) k) in
          omega (arith, e)

      no_word : (k : ℕ) → counted (λ v. is_owner (kind.word so_far.object.ty v) && every v) u (0 ∷ []) k ≡ 0
      no_word k = let e : counts (is_owner (kind.word so_far.object.ty u) && every u) 0 k ≡ 0 = ap (λ b. counts b 0 k) here in omega (arith, e)

      owns_less : (k : ℕ) → owns kind every (with_word i u 0 so_far.object) k + one q k ≡ owns kind every so_far.object k
      owns_less k =
          let same = ap (λ (x : Object). owns kind every x k) (with_word_is i u 0 so_far.object) in
          let a = in_slots-puts (λ v. is_owner (kind.word so_far.object.ty v) && every v) (0 ∷ []) so_far.object.slots i u k (has, tt) in
          let b = one_word k in
          let d = no_word k in
          omega (arith, same, a, b, d)

      owned_here : 0 < owns kind every o q
      owned_here = let a = owns_less q in let b = so_far.owned q in let s = one_same q q refl in omega (arith, a, b, s)

      apart : q ≢ n
      apart = another q owned_here

      taken_is : taken ≡ with_object n (with_word i u 0 so_far.object) rest
      taken_is =
          ap (with_object n (with_word i u 0 so_far.object)) so_far.is
          ∙ ap (λ (m : Cells Object). record { objects = m; births = rest.births; clock = rest.clock }) (set-set rest.objects n so_far.object (with_word i u 0 so_far.object))

      pub taken_forest : IsForest kind (λ k. times (q ∷ []) k + (times (n ∷ []) k + hand k)) taken
      taken_forest =
          subst (IsForest kind (λ k. times (q ∷ []) k + (times (n ∷ []) k + hand k))) (ap (λ (x : Option Object). wrote_if x n i u (0 ∷ []) now) there_now)
          (forest_wrote kind now n i u (0 ∷ []) so_far.object there_now (has, tt) (λ k. times (n ∷ []) k + hand k) (λ k. times (q ∷ []) k + (times (n ∷ []) k + hand k)) so_far.forest
          (λ m x own at_m. let z = no_word m in absurd (omega (arith, z, own)))
          (λ k. let a = one_word k in let b = no_word k in omega (arith, a, b)))

      rest_below : AreBelow kind depth (q ∷ []) rest
      rest_below m x lt at_m =
          let e = one_there q m (omega (arith, lt)) in
          lesser m x (subst (λ k. 0 < owns kind every o k) e owned_here) (was_there kind (n ∷ []) before m x (rest_was m x at_m))

      pub taken_below : AreBelow kind depth (q ∷ []) taken
      taken_below m x lt at_m =
          let e = one_there q m (omega (arith, lt)) in
          rest_below m x lt
          (sym (at-set_other rest.objects n m (with_word i u 0 so_far.object) (λ s. apart (e ∙ sym s))) ∙ ap (λ (c : Content). at c.objects m) (sym taken_is) ∙ at_m)

      rest_with : IsForest kind (λ k. times (q ∷ []) k + (hand k + owns kind every (with_word i u 0 so_far.object) k)) rest
      rest_with =
          empty_handed kind (λ k. hand k + owns kind every so_far.object k) (λ k. times (q ∷ []) k + (hand k + owns kind every (with_word i u 0 so_far.object) k)) rest
          (λ k. let e = owns_less k in omega (arith, e)) rest_forest

      pub ended_next : IsEnding (ended_number kind depth q taken)
      ended_next =
          let beside = ended_aside kind (λ k. hand k + owns kind every (with_word i u 0 so_far.object) k) (q ∷ []) (AreBelow kind depth (q ∷ [])) (ended_number kind depth q) (number_end kind depth q) rest rest rest_with rest_below (λ k low. refl)
          n (with_word i u 0 so_far.object)
          (λ low. let l = below_lives kind (λ k. hand k + owns kind every (with_word i u 0 so_far.object) k) rest (q ∷ []) n rest_with low in none-some l.0 (sym rest_none ∙ l.1)) in
          let gone = number_end kind depth q (λ k. times (n ∷ []) k + hand k) taken taken taken_forest taken_below (λ k low. refl) in
          record {
            list = so_far.list ++ q ∷ [];
            object = with_word i u 0 so_far.object;
            is = ap (ended_number kind depth q) taken_is ∙ beside ∙ ap (with_object n (with_word i u 0 so_far.object)) (sym (each-append (ended_number kind depth) so_far.list q (without n before)));
            ty = so_far.ty;
            count = ap (λ (x : Object). length x.slots) (with_word_is i u 0 so_far.object) ∙ count_put so_far.object.slots i u 0 ∙ so_far.count;
            width = so_far.width;
            owned = λ k. let a = owns_less k in let b = so_far.owned k in let e = times-append so_far.list (q ∷ []) k in omega (arith, a, b, e);
            forest = subst (IsForest kind (λ k. times (n ∷ []) k + hand k)) (sym gone.is) gone.forest;
          }

      pub next_object : ended_next.object ≡ with_word i u 0 so_far.object
      unfolding ended_next
      next_object = refl

    -- ---- and at last the object itself

    pub ended_all : ((k : ℕ) → owns kind every so_far.object k ≡ 0) → without n now ≡ ended_number kind (suc depth) n before
    ended_all empty =
        ap (without n) so_far.is
        ∙ ap (λ (m : Cells Object). record { objects = m; births = rest.births; clock = rest.clock }) (unset-set rest.objects n so_far.object rest_none)
        ∙ ended_so_far.is
        ∙ alike_without_all kind ended_so_far.list whole.list (without n before)
        (λ k lt. whole.every_one k (from_list k (ended_so_far.low k lt)))
        (λ k lt. ended_so_far.every_one k (to_list k (whole.low k lt)))
        ∙ sym whole.is
        ∙ ap (λ (x : Option Object). ended_each (ended_number kind depth) (owned_list kind x) (without n before)) (sym there)
      where
        whole : Ended kind hand (owned_list kind (Some o)) (without n before) (without n before) (ended_each (ended_number kind depth) (owned_list kind (Some o)) (without n before))
        whole =
            each_end kind depth (ended_number kind depth) (number_end kind depth) (owned_list kind (Some o)) hand (without n before) (without n before) (out_of_hand kind hand before n o there start)
            (λ m q lt at_m. let e = times-owned_list kind (Some o) m in lesser m q (omega (arith, e, lt)) (was_there kind (n ∷ []) before m q at_m)) (λ k low. refl)

        from_list : (k : ℕ) → Below kind (without n before) so_far.list k → Below kind (without n before) (owned_list kind (Some o)) k
        from_list k low = below_up kind [] so_far.list (owned_list kind (Some o)) (without n before) k (λ m lt. let e = owned_is m in top kind (without n before) (owned_list kind (Some o)) m (omega (arith, e, lt))) low

        to_list : (k : ℕ) → Below kind (without n before) (owned_list kind (Some o)) k → Below kind (without n before) so_far.list k
        to_list k low = below_up kind [] (owned_list kind (Some o)) so_far.list (without n before) k (λ m lt. let e = owned_is m in let z = empty m in top kind (without n before) so_far.list m (omega (arith, e, z, lt))) low
