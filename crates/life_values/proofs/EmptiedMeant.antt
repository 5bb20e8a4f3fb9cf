-- What ends word by word is what the meaning ends by the parts of the value's type; and then its words are 0.
use Rattle.std.proofs.Common.{◌≡◌, ℕ, suc, ◌+◌, ◌≤◌, ◌<◌, true, List, [], ◌∷◌, ◌++◌, length, take, drop, Option, Some, None, refl, sym, ap, subst, ◌∙◌, arith}
use Rattle.std.specs.Prelude.{slice_get, ◌&&◌}
use Rattle.life_store.specs.Cells.{Cells, at, set, at-set_same, at-set_other}
use Rattle.life_store.specs.Content.{Object, Content, with_object, with_word, word_at}
use Rattle.life_store.specs.Held.{owned_in, slots_if, words_at, words_if, wrote_if}
use Rattle.life_store.specs.Kinds.{is_owner, kind_in}
use Rattle.life_store.specs.Owners.{ended}
use Rattle.life_store.specs.Parts.{Parts, width}
use Rattle.life_store.proofs.MapLemmas.{one_or_apart, set-set, set-unset, set_back}
use Rattle.life_forest.specs.Kinds.{Kinds}
use Rattle.life_forest.specs.Owned.{every, hit, times, owns, owns_if}
use Rattle.life_forest.specs.Forest.{IsForest, whole, part, under, Below}
use Rattle.life_forest.specs.Values.{listed, owned_of, AllWide, Known}
use Rattle.life_forest.proofs.Below.{empty_handed, no_part, owner_lives, positive_is}
use Rattle.life_forest.proofs.ByParts.{parts_end}
use Rattle.life_forest.proofs.Counting.{times-append}
use Rattle.life_forest.proofs.Steps.{at-without_all}
use Rattle.life_forest.proofs.Ending.{Ended}
use Rattle.life_forest.proofs.Puts.{IsWord, counted, counts, word_of, in_slots-puts}
use Rattle.life_forest.proofs.Words.{forest_wrote}
use Rattle.life_seen.proofs.MapViews.{set_cases}
use Rattle.life_values.specs.Emptied.{ended_if, emptied_if, emptied, emptied_each}
use Rattle.life_values.specs.Ended.{ended_each, ended_number}
use Rattle.life_values.specs.Layouts.{flat, owner_words}
use Rattle.life_values.specs.Zeroed.{held, zeroed}
use Rattle.life_values.proofs.Ends.{AreBelow, each_end, ended_alike, ended_aside, number_end}
use Rattle.life_values.proofs.Flat.{owner_words_own}
use Rattle.life_values.proofs.HeldWords.{held_is}
use Rattle.life_values.proofs.Owners.{count_put, hit_times, wide_put, wide_word, with_word_is, word_of_is}
use Rattle.life_values.proofs.Zeroing.{zeroed_like}

-- what is beneath some is of types as low as theirs
pub low_below : (kind : Kinds) (hand : ℕ → ℕ) (c : Content) (ns : List ℕ) (top : ℕ) → IsForest kind hand c → AreBelow kind top ns c → (k : ℕ) (x : Object) → Below kind c ns k → at c.objects k ≡ Some x → kind.rank x.ty < top
low_below kind hand c ns top forest low k x (whole _ e) at_k = low k x (positive_is (times ns k) e) at_k
low_below kind hand c ns top forest low k x (part m _ own) at_k = let z = no_part kind (at c.objects m) k in absurd (omega (arith, z, own))
low_below kind hand c ns top forest low k x (under m _ b own) at_k =
    let l = owner_lives kind c every m k own in
    let owned : 0 < owns kind every l.0 k = subst (λ (y : Option Object). 0 < owns_if kind every y k) l.1 own in
    let less = forest.lower m k l.0 x l.1 owned at_k in
    let above = low_below kind hand c ns top forest low m l.0 b l.1 in
    omega (arith, less, above)

ended_listed : (end : ℕ → Content → Content) (x : Option ℕ) (ns : List ℕ) (c : Content) → ended_each end (listed x ++ ns) c ≡ ended_each end ns (ended_if end x c)
ended_listed end None ns c = refl
ended_listed end (Some n) ns c = refl

module _ (kind : Kinds) (depth n i : ℕ) where
  abbrev end : ℕ → Content → Content
  end = ended_number kind depth

  -- ---- one word

  module _ (hand : ℕ → ℕ) (d : Content) (o : Object) (u : ℕ) (forest : IsForest kind hand (with_object n o d)) (has : IsWord i u o.slots) (owner : is_owner (kind.word o.ty u) ≡ true) where
    abbrev pub out : Content
    out = with_object n (with_word i u 0 o) d

    there : at (with_object n o d).objects n ≡ Some o
    there = at-set_same d.objects n n o refl

    there_out : at (with_object n (with_word i u 0 o) d).objects n ≡ Some (with_word i u 0 o)
    there_out = at-set_same d.objects n n (with_word i u 0 o) refl

    out_is : with_object n (with_word i u 0 o) (with_object n o d) ≡ with_object n (with_word i u 0 o) d
    out_is = ap (λ (m : Cells Object). record { objects = m; births = d.births; clock = d.clock }) (set-set d.objects n o (with_word i u 0 o))

    owns_here : (is_owner (kind.word o.ty u) && every u) ≡ true
    owns_here = ap (λ b. b && true) owner

    no_word : (k : ℕ) → counted (λ w. is_owner (kind.word o.ty w) && every w) u (0 ∷ []) k ≡ 0
    no_word k = let e : counts (is_owner (kind.word o.ty u) && every u) 0 k ≡ 0 = ap (λ b. counts b 0 k) owns_here in omega (arith, e)

    one_word : (k : ℕ) → counted (λ w. is_owner (kind.word o.ty w) && every w) u (word_of i u o.slots ∷ []) k ≡ times (listed (owned_in (word_at o i u))) k
    one_word k =
        let e : counts (is_owner (kind.word o.ty u) && every u) (word_of i u o.slots) k ≡ hit (word_at o i u) k = (λ j. counts (owns_here j) (word_of_is o.slots i u j) k) in
        let h = hit_times (word_at o i u) k in
        omega (arith, e, h)

    -- what was owned is in the hand
    pub out_forest : IsForest kind (λ k. times (listed (owned_in (word_at o i u))) k + hand k) (with_object n (with_word i u 0 o) d)
    out_forest =
        subst (IsForest kind (λ k. times (listed (owned_in (word_at o i u))) k + hand k)) (ap (λ (x : Option Object). wrote_if x n i u (0 ∷ []) (with_object n o d)) there ∙ out_is)
        (forest_wrote kind (with_object n o d) n i u (0 ∷ []) o there (has, tt) hand (λ k. times (listed (owned_in (word_at o i u))) k + hand k) forest
        (λ m x own at_m. let z = no_word m in absurd (omega (arith, z, own)))
        (λ k. let a = one_word k in let b = no_word k in omega (arith, a, b)))

    owns_held : (k : ℕ) → times (listed (owned_in (word_at o i u))) k ≤ owns kind every o k
    owns_held k =
        let a = in_slots-puts (λ w. is_owner (kind.word o.ty w) && every w) (0 ∷ []) o.slots i u k (has, tt) in
        let b = one_word k in
        let z = no_word k in
        omega (arith, a, b, z)

    pub low_out : AreBelow kind (kind.rank o.ty) (listed (owned_in (word_at o i u))) (with_object n (with_word i u 0 o) d)
    low_out q y lt at_q =
        let own : 0 < owns kind every o q = (let h = owns_held q in omega (arith, h, lt)) in
        set_cases d.objects n q (with_word i u 0 o) y at_q
        (λ e same. let l = forest.lower n q o o there own (ap (at (with_object n o d).objects) (sym e) ∙ there) in absurd (omega (arith, l)))
        (λ ne old. forest.lower n q o y there own (at-set_other d.objects n q o ne ∙ old))

    pub record IsOut (x : Option ℕ) : Type 0 where
      pub beside : ended_if end x (with_object n (with_word i u 0 o) d) ≡ with_object n (with_word i u 0 o) (ended_if end x d)
      pub still : IsForest kind hand (with_object n (with_word i u 0 o) (ended_if end x d))

    pub is_out : kind.rank o.ty ≤ depth → (x : Option ℕ) → owned_in (word_at o i u) ≡ x → IsOut x
    is_out deep None e = record {
      beside = refl;
      still = empty_handed kind (λ k. times (listed (owned_in (word_at o i u))) k + hand k) hand (with_object n (with_word i u 0 o) d) (λ k. omega arith) out_forest;
    }
    is_out deep (Some q) e =
        let held_forest : IsForest kind (λ k. times (q ∷ []) k + hand k) (with_object n (with_word i u 0 o) d) =
        subst (λ (y : Option ℕ). IsForest kind (λ k. times (listed y) k + hand k) (with_object n (with_word i u 0 o) d)) e out_forest in
        let low : AreBelow kind (kind.rank o.ty) (q ∷ []) (with_object n (with_word i u 0 o) d) =
        subst (λ (y : Option ℕ). AreBelow kind (kind.rank o.ty) (listed y) (with_object n (with_word i u 0 o) d)) e low_out in
        let apart : Below kind (with_object n (with_word i u 0 o) d) (q ∷ []) n → ⊥ =
        λ b. let l = low_below kind (λ k. times (q ∷ []) k + hand k) (with_object n (with_word i u 0 o) d) (q ∷ []) (kind.rank o.ty) held_forest low n (with_word i u 0 o) b there_out in absurd (omega (arith, l)) in
        let below : AreBelow kind depth (q ∷ []) (with_object n (with_word i u 0 o) d) = λ m y lt at_m. let l = low m y lt at_m in omega (arith, l, deep) in
        let beside = ended_aside kind hand (q ∷ []) (AreBelow kind depth (q ∷ [])) (end q) (number_end kind depth q) (with_object n (with_word i u 0 o) d) d held_forest below
        (λ k b. sym (at-set_other d.objects n k (with_word i u 0 o) (λ s. apart (subst (Below kind (with_object n (with_word i u 0 o) d) (q ∷ [])) (sym s) b)))) n (with_word i u 0 o) apart in
        let gone = number_end kind depth q hand (with_object n (with_word i u 0 o) d) (with_object n (with_word i u 0 o) d) held_forest below (λ k b. refl) in
        record {
          beside = beside;
          still = subst (IsForest kind hand) (sym gone.is ∙ beside) gone.forest;
        }

    pub emptied_is : emptied end n i u (with_object n o d) ≡ ended_if end (owned_in (word_at o i u)) (with_object n (with_word i u 0 o) d)
    emptied_is =
        ap (λ (x : Option Object). emptied_if end x n i u (with_object n o d)) there
        ∙ ap (ended_if end (owned_in (word_at o i u))) out_is

  -- ---- one after the other

  -- the words are there and own
  pub record AreWords (w : ℕ) (us : List ℕ) (o : Object) : Type 0 where
    pub wide : AllWide o.width o.slots
    pub slot : i < length o.slots
    pub own : (j u : ℕ) → slice_get us j ≡ Some u → (is_owner (kind.word o.ty (w + u)) ≡ true) × (w + u < o.width)

  word_here : (w u : ℕ) (us : List ℕ) (o : Object) → AreWords w (u ∷ us) o → IsWord i (w + u) o.slots
  word_here w u us o are = wide_word o.width o.slots i (w + u) are.wide are.slot (are.own 0 u refl).1

  words_behind : (w u : ℕ) (us : List ℕ) (o : Object) → AreWords w (u ∷ us) o → AreWords w us (with_word i (w + u) 0 o)
  words_behind w u us o are = record {
    wide = subst (λ (x : Object). AllWide o.width x.slots) (sym (with_word_is i (w + u) 0 o)) (wide_put o.width o.slots i (w + u) 0 are.wide);
    slot = let l : length (with_word i (w + u) 0 o).slots ≡ length o.slots = ap (λ (x : Object). length x.slots) (with_word_is i (w + u) 0 o) ∙ count_put o.slots i (w + u) 0 in let s = are.slot in omega (arith, l, s);
    own = λ j v e. are.own (suc j) v e;
  }

  pub emptied_apart : (hand : ℕ → ℕ) (w : ℕ) (us : List ℕ) (d : Content) (o : Object) → IsForest kind hand (with_object n o d) → kind.rank o.ty ≤ depth → AreWords w us o
      → emptied_each end n i w us (with_object n o d) ≡ with_object n (zeroed i w us o) (ended_each end (held i w us o) d)
  emptied_apart hand w [] d o forest deep are = refl
  emptied_apart hand w (u ∷ us) d o forest deep are =
      let has = word_here w u us o are in
      let owner = (are.own 0 u refl).0 in
      let x : Option ℕ = owned_in (word_at o i (w + u)) in
      let one = is_out hand d o (w + u) forest has owner deep (owned_in (word_at o i (w + u))) refl in
      ap (emptied_each end n i w us) (emptied_is hand d o (w + u) forest has owner ∙ one.beside)
      ∙ emptied_apart hand w us (ended_if end (owned_in (word_at o i (w + u))) d) (with_word i (w + u) 0 o) one.still deep (words_behind w u us o are)
      ∙ ap (with_object n (zeroed i w us (with_word i (w + u) 0 o))) (sym (ended_listed end x (held i w us (with_word i (w + u) 0 o)) d))

  -- .. and the forest stays
  pub emptied_forest : (hand : ℕ → ℕ) (w : ℕ) (us : List ℕ) (d : Content) (o : Object) → IsForest kind hand (with_object n o d) → kind.rank o.ty ≤ depth → AreWords w us o
      → IsForest kind hand (with_object n (zeroed i w us o) (ended_each end (held i w us o) d))
  emptied_forest hand w [] d o forest deep are = forest
  emptied_forest hand w (u ∷ us) d o forest deep are =
      let has = word_here w u us o are in
      let owner = (are.own 0 u refl).0 in
      let x : Option ℕ = owned_in (word_at o i (w + u)) in
      let one = is_out hand d o (w + u) forest has owner deep (owned_in (word_at o i (w + u))) refl in
      subst (λ (e : Content). IsForest kind hand (with_object n (zeroed i w us (with_word i (w + u) 0 o)) e)) (sym (ended_listed end x (held i w us (with_word i (w + u) 0 o)) d))
      (emptied_forest hand w us (ended_if end (owned_in (word_at o i (w + u))) d) (with_word i (w + u) 0 o) one.still deep (words_behind w u us o are))

  -- .. all that they own is in the hand, where none has ended
  pub zeroed_forest : (hand : ℕ → ℕ) (w : ℕ) (us : List ℕ) (d : Content) (o : Object) → IsForest kind hand (with_object n o d) → AreWords w us o
      → IsForest kind (λ k. times (held i w us o) k + hand k) (with_object n (zeroed i w us o) d) × AreBelow kind (kind.rank o.ty) (held i w us o) (with_object n (zeroed i w us o) d)
  zeroed_forest hand w [] d o forest are = (empty_handed kind hand (λ k. times [] k + hand k) (with_object n o d) (λ k. omega arith) forest, (λ m q lt at_m. absurd (omega (arith, lt))))
  zeroed_forest hand w (u ∷ us) d o forest are =
      let has = word_here w u us o are in
      let owner = (are.own 0 u refl).0 in
      let first : List ℕ = listed (owned_in (word_at o i (w + u))) in
      let rest : List ℕ = held i w us (with_word i (w + u) 0 o) in
      let more = zeroed_forest (λ k. times first k + hand k) w us d (with_word i (w + u) 0 o) (out_forest hand d o (w + u) forest has owner) (words_behind w u us o are) in (
        empty_handed kind (λ k. times rest k + (times first k + hand k)) (λ k. times (first ++ rest) k + hand k) (with_object n (zeroed i w us (with_word i (w + u) 0 o)) d) (λ k. let e = times-append first rest k in omega (arith, e)) more.0,
        (λ q y lt at_q.
            let e = times-append first rest q in
            one_or_apart (times first q) 0
            (λ z. more.1 q y (omega (arith, e, z, lt)) at_q)
            (λ nz. set_cases d.objects n q (zeroed i w us (with_word i (w + u) 0 o)) y at_q
            (λ s same. let l = low_out hand d o (w + u) forest has owner q (with_word i (w + u) 0 o) (omega (arith, nz)) (ap (at (set d.objects n (with_word i (w + u) 0 o))) (sym s) ∙ at-set_same d.objects n n (with_word i (w + u) 0 o) refl) in absurd (omega (arith, l)))
            (λ ne old. low_out hand d o (w + u) forest has owner q y (omega (arith, nz)) (at-set_other d.objects n q (with_word i (w + u) 0 o) ne ∙ old)))),
      )

  -- ---- by the parts of the value's type

  pub record IsPlace (w : ℕ) (p : Parts) (o : Object) : Type 0 where
    pub wide : AllWide o.width o.slots
    pub slot : i < length o.slots
    pub kinds : (u : ℕ) → u < width p → kind.word o.ty (w + u) ≡ kind_in p u
    pub fits : w + width p ≤ o.width

  place_words : (w : ℕ) (p : Parts) (o : Object) → IsPlace w p o → AreWords w (owner_words (flat 0 p)) o
  place_words w p o place = record {
    wide = place.wide;
    slot = place.slot;
    own = λ j u e.
        let r = owner_words_own p 0 j u e in
        let s : u ≡ r.word = (let x = r.is in omega (arith, x)) in
        let l : u < width p = (let x = r.within in omega (arith, s, x)) in
        (ap is_owner (place.kinds u l ∙ ap (kind_in p) s ∙ r.owner), (let f = place.fits in omega (arith, f, l)));
  }

  module _ (hand : ℕ → ℕ) (w : ℕ) (p : Parts) (m : Content) (o : Object) (at_n : at m.objects n ≡ Some o) (forest : IsForest kind hand m) (deep : kind.rank o.ty ≤ depth) (place : IsPlace w p o)
      (known : Known kind (with_object n (zeroed i w (owner_words (flat 0 p)) o) m) p (words_at m n i w (width p))) where
    abbrev us : List ℕ
    us = owner_words (flat 0 p)

    abbrev ws : List ℕ
    ws = words_at m n i w (width p)

    abbrev out_m : Content
    out_m = with_object n (zeroed i w us o) m

    same : m ≡ with_object n o m
    same = ap (λ (x : Cells Object). record { objects = x; births = m.births; clock = m.clock }) (sym (sym (set-unset m.objects n o) ∙ set_back m.objects n o at_n))

    here : IsForest kind hand (with_object n o m)
    here = subst (IsForest kind hand) same forest

    list : held i w us o ≡ owned_of p ws
    list = held_is p i w o ∙ ap (λ (x : Option Object). owned_of p (take (width p) (drop w (words_if (slice_get (slots_if x) i))))) (sym at_n)

    in_hand : IsForest kind (λ k. times (owned_of p ws) k + hand k) out_m
    in_hand = subst (λ ns. IsForest kind (λ k. times ns k + hand k) out_m) list (zeroed_forest hand w us m o here (place_words w p o place)).0

    low : AreBelow kind (kind.rank o.ty) (owned_of p ws) out_m
    low = subst (λ ns. AreBelow kind (kind.rank o.ty) ns out_m) list (zeroed_forest hand w us m o here (place_words w p o place)).1

    apart : Below kind out_m (owned_of p ws) n → ⊥
    apart b =
        let l = low_below kind (λ k. times (owned_of p ws) k + hand k) out_m (owned_of p ws) (kind.rank o.ty) in_hand low n (zeroed i w us o) b (at-set_same m.objects n n (zeroed i w us o) refl) in
        let t = ap kind.rank (zeroed_like i w us o).ty in
        absurd (omega (arith, l, t))

    agree : (k : ℕ) → Below kind out_m (owned_of p ws) k → at m.objects k ≡ at out_m.objects k
    agree k b = sym (at-set_other m.objects n k (zeroed i w us o) (λ s. apart (subst (Below kind out_m (owned_of p ws)) (sym s) b)))

    by_part : Ended kind hand (owned_of p ws) out_m m (ended p ws m)
    by_part = parts_end kind p ws hand out_m m in_hand known agree

    by_number : Ended kind hand (owned_of p ws) out_m m (ended_each end (owned_of p ws) m)
    by_number = each_end kind depth end (number_end kind depth) (owned_of p ws) hand out_m m in_hand (λ q y lt at_q. let l = low q y lt at_q in omega (arith, l, deep)) agree

    pub emptied_meant : emptied_each end n i w (owner_words (flat 0 p)) m ≡ with_object n (zeroed i w (owner_words (flat 0 p)) o) (ended p (words_at m n i w (width p)) m)
    emptied_meant =
        ap (emptied_each end n i w us) same
        ∙ emptied_apart hand w us m o here deep (place_words w p o place)
        ∙ ap (λ ns. with_object n (zeroed i w us o) (ended_each end ns m)) list
        ∙ ap (with_object n (zeroed i w us o)) (ended_alike kind hand (owned_of p ws) out_m m (ended_each end (owned_of p ws) m) (ended p ws m) by_number by_part)

    -- the object isn't among what ends
    pub ended_beside : at (ended p (words_at m n i w (width p)) m).objects n ≡ Some o
    ended_beside =
        let none : times by_part.list n ≡ 0 = one_or_apart (times by_part.list n) 0 (λ z. z) (λ nz. absurd (apart (by_part.low n (omega (arith, nz))))) in
        ap (λ (x : Content). at x.objects n) by_part.is ∙ at-without_all kind by_part.list m n none ∙ at_n
