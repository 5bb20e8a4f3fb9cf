-- A store goes the way of the meaning where what a value owns ends, one word after the other.
use Rattle.std.proofs.Common.{◌≡◌, ℕ, suc, ◌+◌, ◌<◌, ◌≤◌, true, List, [], ◌∷◌, length, drop, Option, Some, None, MatchOption, IfSome, refl, sym, ap, subst, ◌∙◌, arith}
use Rattle.std.proofs.lemmas.List.{drop_all}
use Rattle.std.proofs.lemmas.Option.{none-some}
use Rattle.std.specs.Prelude.{slice_get, option_map, ◌&&◌}
use Rattle.life_store.specs.Cells.{at, at-set_same}
use Rattle.life_store.specs.Content.{Object, Content, with_object, with_word, word_at}
use Rattle.life_store.specs.Held.{owned_in, owner_word, wrote_if}
use Rattle.life_store.specs.Kinds.{Owner, is_owner}
use Rattle.life_store.specs.References.{Rows, object_of, HasWord}
use Rattle.life_store.specs.declared.object.ObjRef.{ObjRef}
use Rattle.life_store.proofs.MapLemmas.{one_or_apart}
use Rattle.life_forest.specs.Kinds.{Kinds}
use Rattle.life_forest.specs.Owned.{every, hit, one, times, owns, owns_if}
use Rattle.life_forest.specs.Forest.{IsForest, whole, part, under, Below}
use Rattle.life_forest.specs.Values.{listed}
use Rattle.life_forest.proofs.Below.{empty_handed, no_part, owner_lives, positive_is}
use Rattle.life_forest.proofs.Counting.{one_same, one_there}
use Rattle.life_forest.proofs.Ending.{Ended}
use Rattle.life_forest.proofs.Puts.{IsWord, counted, counts, word_of, in_slots-puts}
use Rattle.life_forest.proofs.Steps.{at-without_all}
use Rattle.life_forest.proofs.Words.{forest_wrote}
use Rattle.life_seen.specs.Housed.{Shows, Later}
use Rattle.life_seen.specs.Kinds.{Kinds as Seen}
use Rattle.life_seen.specs.Named.{names_of}
use Rattle.life_seen.specs.Seen.{object_seen, seen}
use Rattle.life_seen.proofs.MapViews.{at-mapped, set_cases}
use Rattle.life_seen.proofs.References.{lives_placed, later_same, later_then}
use Rattle.life_seen.proofs.Resizing.{count_seen}
use Rattle.life_words.specs.Owning.{with_owner, Holds, IsOwner}
use Rattle.life_values.specs.Emptied.{ended_if, emptied_if, emptied, emptied_each, CanEmpty}
use Rattle.life_values.specs.Ended.{ended_number, AreAlike}
use Rattle.life_values.specs.Ending.{AreSized, CanEnd, IsSized}
use Rattle.life_values.specs.declared.spot.Spot.{Spot}
use Rattle.life_values.proofs.Deep.{sized_less, sized_with, sized_word}
use Rattle.life_values.proofs.Ends.{AreBelow, number_end}
use Rattle.life_values.proofs.Flat.{drop_here}
use Rattle.life_values.proofs.Owners.{count_put, hit_times, wide_word, with_word_is, word_of_is}
use Rattle.life_values.proofs.SeenAs.{seen_as, IsSeenAs}

-- what is beneath an object is of types as low as its own
pub below_rank : (kind : Kinds) (hand : ℕ → ℕ) (c : Content) (q top : ℕ) → IsForest kind hand c → ((y : Object) → at c.objects q ≡ Some y → kind.rank y.ty < top)
    → (k : ℕ) (x : Object) → Below kind c (q ∷ []) k → at c.objects k ≡ Some x → kind.rank x.ty < top
below_rank kind hand c q top forest high k x (whole _ e) at_k =
    let p = positive_is (times (q ∷ []) k) e in
    let s = one_there q k (omega (arith, p)) in
    high x (ap (at c.objects) s ∙ at_k)
below_rank kind hand c q top forest high k x (part m _ own) at_k = let z = no_part kind (at c.objects m) k in absurd (omega (arith, z, own))
below_rank kind hand c q top forest high k x (under m _ b own) at_k =
    let l = owner_lives kind c every m k own in
    let owned : 0 < owns kind every l.0 k = subst (λ (y : Option Object). 0 < owns_if kind every y k) l.1 own in
    let low = forest.lower m k l.0 x l.1 owned at_k in
    let above = below_rank kind hand c q top forest high m l.0 b l.1 in
    omega (arith, low, above)

module _ (kinds : Seen) (kind : Kinds) (alike : AreAlike kinds kind) (depth : ℕ) (spot : Spot) (owners : List ℕ) where
  module _ (c : Content) (rows : Rows) (can : CanEmpty kinds kind depth spot owners c rows) where
    pub now : IsSeenAs kinds c rows spot.object can.object
    now = seen_as kinds c rows spot.object can.object can.housed can.placed can.there

    size : IsSized kinds can.object
    size = can.sized spot.object.birth can.object can.there

    -- ---- one word

    module _ (j u : ℕ) (here : slice_get owners j ≡ Some u) where
      owner : kinds can.object.ty (spot.word + u) ≡ Owner
      owner = can.own j u here

      pub word_there : IfSome (object_of c rows spot.object) (HasWord spot.slot (spot.word + u))
      word_there =
          let s = count_seen kinds (names_of c rows) now.object in
          let l : length (object_seen kinds (names_of c rows) now.object).slots ≡ length can.object.slots = ap (λ (x : Object). length x.slots) now.same in
          let w : now.object.width ≡ can.object.width = ap (λ (x : Object). x.width) now.same in
          let o = size.owners (spot.word + u) owner in
          let k = can.slot in
          subst (λ x. IfSome x (HasWord spot.slot (spot.word + u))) (sym now.found) (record { has_slot = omega (arith, l, s, k); has_word = omega (arith, w, o) })

      abbrev less : Object
      less = with_word spot.slot (spot.word + u) 0 can.object

      abbrev out : Content
      out = with_object spot.object.birth (with_word spot.slot (spot.word + u) 0 can.object) (seen kinds c rows)

      is_word : IsWord spot.slot (spot.word + u) can.object.slots
      is_word = wide_word can.object.width can.object.slots spot.slot (spot.word + u) size.wide can.slot (size.owners (spot.word + u) owner)

      owns_here : (is_owner (kind.word can.object.ty (spot.word + u)) && every (spot.word + u)) ≡ true
      owns_here = ap (λ b. b && true) (sym (alike can.object.ty (spot.word + u)) ∙ ap is_owner owner)

      no_word : (k : ℕ) → counted (λ v. is_owner (kind.word can.object.ty v) && every v) (spot.word + u) (0 ∷ []) k ≡ 0
      no_word k =
          let e : counts (is_owner (kind.word can.object.ty (spot.word + u)) && every (spot.word + u)) 0 k ≡ 0 = ap (λ b. counts b 0 k) owns_here in
          omega (arith, e)

      count_less : length (with_word spot.slot (spot.word + u) 0 can.object).slots ≡ length can.object.slots
      count_less = ap (λ (x : Object). length x.slots) (with_word_is spot.slot (spot.word + u) 0 can.object) ∙ count_put can.object.slots spot.slot (spot.word + u) 0

      there_out : at out.objects spot.object.birth ≡ Some less
      there_out = at-set_same (seen kinds c rows).objects spot.object.birth spot.object.birth less refl

      out_sized : AreSized kinds out
      out_sized = sized_with kinds (seen kinds c rows) spot.object.birth less can.sized (sized_word kinds can.object spot.slot (spot.word + u) 0 size)

      module _ (v : ℕ) (holds : word_at can.object spot.slot (spot.word + u) ≡ v) where
        held_here : word_of spot.slot (spot.word + u) can.object.slots ≡ v
        held_here = word_of_is can.object.slots spot.slot (spot.word + u) ∙ holds

        one_word : (k : ℕ) → counted (λ w. is_owner (kind.word can.object.ty w) && every w) (spot.word + u) (word_of spot.slot (spot.word + u) can.object.slots ∷ []) k ≡ times (listed (owned_in v)) k
        one_word k =
            let e : counts (is_owner (kind.word can.object.ty (spot.word + u)) && every (spot.word + u)) (word_of spot.slot (spot.word + u) can.object.slots) k ≡ hit v k = (λ i. counts (owns_here i) (held_here i) k) in
            let h = hit_times v k in
            omega (arith, e, h)

        owns_less : (k : ℕ) → owns kind every (with_word spot.slot (spot.word + u) 0 can.object) k + times (listed (owned_in v)) k ≡ owns kind every can.object k
        owns_less k =
            let same = ap (λ (x : Object). owns kind every x k) (with_word_is spot.slot (spot.word + u) 0 can.object) in
            let a = in_slots-puts (λ w. is_owner (kind.word can.object.ty w) && every w) (0 ∷ []) can.object.slots spot.slot (spot.word + u) k (is_word, tt) in
            let b = one_word k in
            let d = no_word k in
            omega (arith, same, a, b, d)

        -- what was owned is in the hand
        out_forest : IsForest kind (λ k. times (listed (owned_in v)) k + can.hand k) out
        out_forest =
            subst (IsForest kind (λ k. times (listed (owned_in v)) k + can.hand k)) (ap (λ (x : Option Object). wrote_if x spot.object.birth spot.slot (spot.word + u) (0 ∷ []) (seen kinds c rows)) can.there)
            (forest_wrote kind (seen kinds c rows) spot.object.birth spot.slot (spot.word + u) (0 ∷ []) can.object can.there (is_word, tt) can.hand (λ k. times (listed (owned_in v)) k + can.hand k) can.forest
            (λ m x own at_m. let z = no_word m in absurd (omega (arith, z, own)))
            (λ k. let a = one_word k in let b = no_word k in omega (arith, a, b)))

        -- the meaning does so
        emptied_is : emptied (ended_number kind depth) spot.object.birth spot.slot (spot.word + u) (seen kinds c rows) ≡ ended_if (ended_number kind depth) (owned_in v) out
        emptied_is =
            ap (λ (x : Option Object). emptied_if (ended_number kind depth) x spot.object.birth spot.slot (spot.word + u) (seen kinds c rows)) can.there
            ∙ ap (λ w. ended_if (ended_number kind depth) (owned_in w) out) holds

      -- ---- .. in the store

      module _ (d : Content) (new : Rows) (shows : Shows kinds d new out) (same_rows : new ≡ rows) where
        out_later : Later c d rows new
        out_later = record {
          births = let b = ap (λ (x : Content). x.births) shows.is in omega (arith, b);
          row = λ m k lt t. ap (λ (x : Rows). at x m) (sym same_rows) ∙ t;
        }

        pub none_can : word_at can.object spot.slot (spot.word + u) ≡ 0 → CanEmpty kinds kind depth spot owners d new
        none_can zero_here = record {
          housed = shows.housed;
          placed = ap (λ (x : Rows). at x spot.object.birth) same_rows ∙ can.placed;
          sized = subst (AreSized kinds) (sym shows.is) out_sized;
          hand = can.hand;
          forest = subst (IsForest kind can.hand) (sym shows.is) (empty_handed kind (λ k. times [] k + can.hand k) can.hand out (λ k. omega arith) (out_forest 0 zero_here));
          object = less;
          there = ap (λ (x : Content). at x.objects spot.object.birth) shows.is ∙ there_out;
          slot = let l = count_less in let s = can.slot in omega (arith, l, s);
          own = can.own;
          small = can.small;
          deep = can.deep;
        }

        pub none_is : word_at can.object spot.slot (spot.word + u) ≡ 0 → emptied (ended_number kind depth) spot.object.birth spot.slot (spot.word + u) (seen kinds c rows) ≡ seen kinds d new
        none_is zero_here = emptied_is 0 zero_here ∙ sym shows.is

        module _ (q : ObjRef) (holds : word_at can.object spot.slot (spot.word + u) ≡ owner_word (Some q.birth)) (there : at rows q.birth ≡ Some q.row) where
          owned_here : 0 < owns kind every can.object q.birth
          owned_here = let a = owns_less (suc q.birth) holds q.birth in let s = one_same q.birth q.birth refl in omega (arith, a, s)

          low_out : (y : Object) → at out.objects q.birth ≡ Some y → kind.rank y.ty < kind.rank can.object.ty
          low_out y at_q =
              set_cases (seen kinds c rows).objects spot.object.birth q.birth less y at_q
              (λ e same. let l = can.forest.lower spot.object.birth q.birth can.object can.object can.there owned_here (ap (at (seen kinds c rows).objects) (sym e) ∙ can.there) in absurd (omega (arith, l)))
              (λ ne old. can.forest.lower spot.object.birth q.birth can.object y can.there owned_here old)

          out_below : AreBelow kind depth (q.birth ∷ []) out
          out_below m y lt at_m =
              let e = one_there q.birth m (omega (arith, lt)) in
              let l = low_out y (ap (at out.objects) e ∙ at_m) in
              let h = can.deep in
              omega (arith, l, h)

          out_hand : IsForest kind (λ k. times (q.birth ∷ []) k + can.hand k) out
          out_hand = out_forest (suc q.birth) holds

          -- what was owned can end
          pub owned_can : CanEnd kinds kind depth q d new
          owned_can = record {
            housed = shows.housed;
            placed = ap (λ (x : Rows). at x q.birth) same_rows ∙ there;
            sized = subst (AreSized kinds) (sym shows.is) out_sized;
            hand = can.hand;
            forest = subst (IsForest kind (λ k. times (q.birth ∷ []) k + can.hand k)) (sym shows.is) out_hand;
            deep = λ o at_q. let s = one_same q.birth q.birth refl in out_below q.birth o (omega (arith, s)) (ap (λ (x : Content). at x.objects q.birth) (sym shows.is) ∙ at_q);
          }

          module _ (f : Content) (last : Rows) (ends : Shows kinds f last (ended_number kind depth q.birth (seen kinds d new))) (after : Later d f new last) where
            ended_is : seen kinds f last ≡ ended_number kind depth q.birth out
            ended_is = ends.is ∙ ap (ended_number kind depth q.birth) shows.is

            gone : Ended kind can.hand (q.birth ∷ []) out out (ended_number kind depth q.birth out)
            gone = number_end kind depth q.birth can.hand out out out_hand out_below (λ k low. refl)

            not_gone : times gone.list spot.object.birth ≡ 0
            not_gone = one_or_apart (times gone.list spot.object.birth) 0
                (λ z. z)
                (λ nz. let l = below_rank kind (λ k. times (q.birth ∷ []) k + can.hand k) out q.birth (kind.rank can.object.ty) out_hand low_out spot.object.birth less (gone.low spot.object.birth (omega (arith, nz))) there_out in
                absurd (omega (arith, l)))

            at_last : at (seen kinds f last).objects spot.object.birth ≡ Some less
            at_last = ap (λ (x : Content). at x.objects spot.object.birth) (ended_is ∙ gone.is) ∙ at-without_all kind gone.list out spot.object.birth not_gone ∙ there_out

            still_placed : at last spot.object.birth ≡ Some spot.object.row
            still_placed = go (at f.objects spot.object.birth) refl
              where
                go : (x : Option Object) → at f.objects spot.object.birth ≡ x → at last spot.object.birth ≡ Some spot.object.row
                go None none = absurd (none-some less (sym (at-mapped (object_seen kinds (names_of f last)) f.objects spot.object.birth ∙ ap (option_map (object_seen kinds (names_of f last))) none) ∙ at_last))
                go (Some o) some =
                    let k = lives_placed kinds f last ends.housed spot.object.birth o some in
                    let born = can.housed.below spot.object.birth spot.object.row can.placed in
                    let e_born : spot.object.birth < d.births = (let b = ap (λ (x : Content). x.births) shows.is in omega (arith, born, b)) in
                    let was = after.row spot.object.birth k.0 e_born k.1 in
                    k.1 ∙ sym was ∙ ap (λ (x : Rows). at x spot.object.birth) same_rows ∙ can.placed

            pub some_can : CanEmpty kinds kind depth spot owners f last
            some_can = record {
              housed = ends.housed;
              placed = still_placed;
              sized = subst (AreSized kinds) (sym (ended_is ∙ gone.is)) (sized_less kinds kind gone.list out out_sized);
              hand = can.hand;
              forest = subst (IsForest kind can.hand) (sym (ended_is ∙ gone.is)) gone.forest;
              object = less;
              there = at_last;
              slot = let l = count_less in let s = can.slot in omega (arith, l, s);
              own = can.own;
              small = can.small;
              deep = can.deep;
            }

            pub some_is : emptied (ended_number kind depth) spot.object.birth spot.slot (spot.word + u) (seen kinds c rows) ≡ seen kinds f last
            some_is = emptied_is (suc q.birth) holds ∙ sym ended_is

  -- ---- how far the store has come

  pub record Progress (c : Content) (rows : Rows) (d : Content) (new : Rows) (j : ℕ) : Type 0 where
    pub can : CanEmpty kinds kind depth spot owners d new
    pub is : emptied_each (ended_number kind depth) spot.object.birth spot.slot spot.word (drop j owners) (seen kinds d new)
        ≡ emptied_each (ended_number kind depth) spot.object.birth spot.slot spot.word owners (seen kinds c rows)
    pub later : Later c d rows new

  pub progress_begin : (c : Content) (rows : Rows) → CanEmpty kinds kind depth spot owners c rows → Progress c rows c rows 0
  progress_begin c rows can = record { can = can; is = refl; later = later_same c c rows (omega arith) }

  pub progress_end : (c : Content) (rows : Rows) (d : Content) (new : Rows) (j : ℕ) → Progress c rows d new j → length owners ≤ j
      → Shows kinds d new (emptied_each (ended_number kind depth) spot.object.birth spot.slot spot.word owners (seen kinds c rows))
  progress_end c rows d new j p all = record {
    housed = p.can.housed;
    is = ap (λ us. emptied_each (ended_number kind depth) spot.object.birth spot.slot spot.word us (seen kinds d new)) (sym (drop_all j owners all)) ∙ p.is;
  }

  module _ (c : Content) (rows : Rows) (d : Content) (new : Rows) (j u : ℕ) (p : Progress c rows d new j) (here : slice_get owners j ≡ Some u) (found : Option ObjRef)
      (told : (ks : Seen) (o : Object) → IsOwner ks d new spot.object (spot.word + u) o → Holds ks d new spot.slot (spot.word + u) o found)
      (e : Content) (after : Rows) (took : (ks : Seen) (o : Object) → IsOwner ks d new spot.object (spot.word + u) o → Shows ks e after (with_owner ks d new spot.object spot.slot (spot.word + u) o None)) (same_rows : after ≡ new) where
    is_owner_now : IsOwner kinds d new spot.object (spot.word + u) (now d new p.can).object
    is_owner_now = record {
      housed = p.can.housed;
      there = (now d new p.can).found;
      owner = ap (λ (o : Object). kinds o.ty (spot.word + u)) (now d new p.can).same ∙ p.can.own j u here;
    }

    shows : Shows kinds e after (with_object spot.object.birth (with_word spot.slot (spot.word + u) 0 p.can.object) (seen kinds d new))
    shows = subst (λ (o : Object). Shows kinds e after (with_object spot.object.birth (with_word spot.slot (spot.word + u) 0 o) (seen kinds d new))) (now d new p.can).same (took kinds (now d new p.can).object is_owner_now)

    held : MatchOption found (word_at p.can.object spot.slot (spot.word + u) ≡ owner_word None) (λ q. (word_at p.can.object spot.slot (spot.word + u) ≡ owner_word (Some q.birth)) × (at new q.birth ≡ Some q.row))
    held =
        subst (λ (o : Object). MatchOption found (word_at o spot.slot (spot.word + u) ≡ owner_word None) (λ q. (word_at o spot.slot (spot.word + u) ≡ owner_word (Some q.birth)) × (at new q.birth ≡ Some q.row))) (now d new p.can).same
        (told kinds (now d new p.can).object is_owner_now)

    left : (f : Content) (last : Rows) → emptied (ended_number kind depth) spot.object.birth spot.slot (spot.word + u) (seen kinds d new) ≡ seen kinds f last
        → emptied_each (ended_number kind depth) spot.object.birth spot.slot spot.word (drop (j + 1) owners) (seen kinds f last)
        ≡ emptied_each (ended_number kind depth) spot.object.birth spot.slot spot.word owners (seen kinds c rows)
    left f last one =
        ap (emptied_each (ended_number kind depth) spot.object.birth spot.slot spot.word (drop (j + 1) owners)) (sym one)
        ∙ ap (λ us. emptied_each (ended_number kind depth) spot.object.birth spot.slot spot.word us (seen kinds d new)) (sym (drop_here owners j u here))
        ∙ p.is

    pub none_next : found ≡ None → Progress c rows e after (j + 1)
    none_next none =
        let z : word_at p.can.object spot.slot (spot.word + u) ≡ 0 = subst (λ x. MatchOption x (word_at p.can.object spot.slot (spot.word + u) ≡ owner_word None)
        (λ q. (word_at p.can.object spot.slot (spot.word + u) ≡ owner_word (Some q.birth)) × (at new q.birth ≡ Some q.row))) none held in
        record {
          can = none_can d new p.can j u here e after shows same_rows z;
          is = left e after (none_is d new p.can j u here e after shows same_rows z);
          later = later_then c d e rows new after p.later (out_later d new p.can j u here e after shows same_rows);
        }

    module _ (q : ObjRef) (some : found ≡ Some q) where
      owned : (word_at p.can.object spot.slot (spot.word + u) ≡ owner_word (Some q.birth)) × (at new q.birth ≡ Some q.row)
      owned = subst (λ x. MatchOption x (word_at p.can.object spot.slot (spot.word + u) ≡ owner_word None)
          (λ r. (word_at p.can.object spot.slot (spot.word + u) ≡ owner_word (Some r.birth)) × (at new r.birth ≡ Some r.row))) some held

      pub then_can : CanEnd kinds kind depth q e after
      then_can = owned_can d new p.can j u here e after shows same_rows q owned.0 owned.1

      pub some_next : (f : Content) (last : Rows) → Shows kinds f last (ended_number kind depth q.birth (seen kinds e after)) → Later e f after last → Progress c rows f last (j + 1)
      some_next f last ends less = record {
        can = some_can d new p.can j u here e after shows same_rows q owned.0 owned.1 f last ends less;
        is = left f last (some_is d new p.can j u here e after shows same_rows q owned.0 owned.1 f last ends less);
        later = later_then c d f rows new last p.later (later_then d e f new after last (out_later d new p.can j u here e after shows same_rows) less);
      }
