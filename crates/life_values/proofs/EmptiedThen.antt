-- The object of which some words own nothing any more is where it was.
use Rattle.std.proofs.Common.{◌≡◌, ℕ, zero, suc, ◌+◌, List, [], ◌∷◌, Option, Some, None, refl, sym, ap, subst, ◌∙◌, arith}
use Rattle.life_store.specs.Cells.{Cells, at, at-set_same}
use Rattle.life_store.specs.Content.{Object, Content, with_object, with_word, word_at, without}
use Rattle.life_store.specs.Held.{owned_in}
use Rattle.life_store.specs.Kinds.{is_owner}
use Rattle.life_store.specs.References.{Rows}
use Rattle.life_store.proofs.MapLemmas.{set-unset, set_back}
use Rattle.life_forest.specs.Kinds.{Kinds}
use Rattle.life_forest.specs.Forest.{IsForest}
use Rattle.life_forest.specs.Owned.{owned_list}
use Rattle.life_forest.proofs.Steps.{was_there}
use Rattle.life_seen.specs.Housed.{Shows, Later}
use Rattle.life_seen.specs.Kinds.{Kinds as Seen}
use Rattle.life_seen.specs.Seen.{seen}
use Rattle.life_values.specs.Emptied.{ended_if, emptied, emptied_if, emptied_each, CanEmpty}
use Rattle.life_values.specs.Ended.{ended_each, ended_number, AreAlike}
use Rattle.life_values.specs.Ending.{AreSized, IsSized}
use Rattle.life_values.specs.Popped.{IsGiving}
use Rattle.life_values.specs.Zeroed.{held, zeroed}
use Rattle.life_values.specs.declared.spot.Spot.{Spot}
use Rattle.life_values.proofs.EmptiedMeant.{emptied_apart, emptied_forest, AreWords}
use Rattle.life_values.proofs.Deep.{sized_with, sized_word}
use Rattle.life_values.proofs.Filling.{still_placed}
use Rattle.life_values.proofs.SeenAs.{seen_as, IsSeenAs}
use Rattle.life_values.proofs.Zeroing.{zeroed_like, IsLike}

-- ---- what lives still was there

each_was : (kind : Kinds) (end : ℕ → Content → Content) → ((n : ℕ) (c : Content) (k : ℕ) (x : Object) → at (end n c).objects k ≡ Some x → at c.objects k ≡ Some x) → (ns : List ℕ) (c : Content) (k : ℕ) (x : Object)
    → at (ended_each end ns c).objects k ≡ Some x → at c.objects k ≡ Some x
each_was kind end was [] c k x e = e
each_was kind end was (n ∷ ns) c k x e = was n c k x (each_was kind end was ns (end n c) k x e)

number_was : (kind : Kinds) (depth n : ℕ) (c : Content) (k : ℕ) (x : Object) → at (ended_number kind depth n c).objects k ≡ Some x → at c.objects k ≡ Some x
number_was kind zero n c k x e = e
number_was kind (suc depth) n c k x e =
    was_there kind (n ∷ []) c k x (each_was kind (ended_number kind depth) (number_was kind depth) (owned_list kind (at c.objects n)) (without n c) k x e)

zeroed_sized : (kinds : Seen) (i w : ℕ) (us : List ℕ) (o : Object) → IsSized kinds o → IsSized kinds (zeroed i w us o)
zeroed_sized kinds i w [] o h = h
zeroed_sized kinds i w (u ∷ us) o h = zeroed_sized kinds i w us (with_word i (w + u) 0 o) (sized_word kinds o i (w + u) 0 h)

module _ (kinds : Seen) (kind : Kinds) (alike : AreAlike kinds kind) (depth : ℕ) (spot : Spot) (owners : List ℕ) (c : Content) (rows : Rows) (can : CanEmpty kinds kind depth spot owners c rows) where
  abbrev m : Content
  m = seen kinds c rows

  words : AreWords kind depth spot.object.birth spot.slot spot.word owners can.object
  words =
      let size = can.sized spot.object.birth can.object can.there in
      record {
        wide = size.wide;
        slot = can.slot;
        own = λ j u e. (sym (alike can.object.ty (spot.word + u)) ∙ ap is_owner (can.own j u e), size.owners (spot.word + u) (can.own j u e));
      }

  same : seen kinds c rows ≡ with_object spot.object.birth can.object (seen kinds c rows)
  same = ap (λ (x : Cells Object). record { objects = x; births = c.births; clock = c.clock }) (sym (sym (set-unset m.objects spot.object.birth can.object) ∙ set_back m.objects spot.object.birth can.object can.there))

  here : IsForest kind can.hand (with_object spot.object.birth can.object (seen kinds c rows))
  here = subst (IsForest kind can.hand) same can.forest

  apart : emptied_each (ended_number kind depth) spot.object.birth spot.slot spot.word owners (seen kinds c rows)
      ≡ with_object spot.object.birth (zeroed spot.slot spot.word owners can.object) (ended_each (ended_number kind depth) (held spot.slot spot.word owners can.object) (seen kinds c rows))
  apart =
      ap (emptied_each (ended_number kind depth) spot.object.birth spot.slot spot.word owners) same
      ∙ emptied_apart kind depth spot.object.birth spot.slot can.hand spot.word owners (seen kinds c rows) can.object here can.deep words

  module _ (d : Content) (new : Rows) (shows : Shows kinds d new (emptied_each (ended_number kind depth) spot.object.birth spot.slot spot.word owners (seen kinds c rows))) (later : Later c d rows new) where
    there_then : at (seen kinds d new).objects spot.object.birth ≡ Some (zeroed spot.slot spot.word owners can.object)
    there_then = ap (λ (x : Content). at x.objects spot.object.birth) (shows.is ∙ apart) ∙ at-set_same _ spot.object.birth spot.object.birth (zeroed spot.slot spot.word owners can.object) refl

    -- the object, as it lies in the store then
    pub then_seen : IsSeenAs kinds d new spot.object (zeroed spot.slot spot.word owners can.object)
    then_seen =
        seen_as kinds d new spot.object (zeroed spot.slot spot.word owners can.object) shows.housed
        (still_placed kinds c d rows new shows.housed later spot.object.birth spot.object.row (zeroed spot.slot spot.word owners can.object) (can.housed.below spot.object.birth spot.object.row can.placed) can.placed there_then) there_then

    sized_then : AreSized kinds (seen kinds d new)
    sized_then = subst (AreSized kinds) (sym (shows.is ∙ apart))
        (sized_with kinds (ended_each (ended_number kind depth) (held spot.slot spot.word owners can.object) (seen kinds c rows)) spot.object.birth (zeroed spot.slot spot.word owners can.object)
        (λ k x at_k. can.sized k x (each_was kind (ended_number kind depth) (number_was kind depth) (held spot.slot spot.word owners can.object) (seen kinds c rows) k x at_k))
        (zeroed_sized kinds spot.slot spot.word owners can.object (can.sized spot.object.birth can.object can.there)))

    pub still_forest : IsForest kind can.hand (seen kinds d new)
    still_forest = subst (IsForest kind can.hand) (sym (shows.is ∙ apart)) (emptied_forest kind depth spot.object.birth spot.slot can.hand spot.word owners (seen kinds c rows) can.object here can.deep words)

    -- .. and can give up more
    pub still_giving : IsGiving kinds kind depth spot.object d new
    still_giving = record {
      housed = shows.housed;
      placed = still_placed kinds c d rows new shows.housed later spot.object.birth spot.object.row (zeroed spot.slot spot.word owners can.object) (can.housed.below spot.object.birth spot.object.row can.placed) can.placed there_then;
      sized = sized_then;
      hand = can.hand;
      forest = still_forest;
      object = zeroed spot.slot spot.word owners can.object;
      there = there_then;
      deep = let t = ap kind.rank (zeroed_like spot.slot spot.word owners can.object).ty in let k = can.deep in omega (arith, t, k);
    }

    pub still_like : IsLike still_giving.object can.object
    unfolding still_giving
    still_like = zeroed_like spot.slot spot.word owners can.object

-- ---- nothing comes to life

each_births : (end : ℕ → Content → Content) → ((n : ℕ) (c : Content) → (end n c).births ≡ c.births) → (ns : List ℕ) (c : Content) → (ended_each end ns c).births ≡ c.births
each_births end keeps [] c = refl
each_births end keeps (n ∷ ns) c = each_births end keeps ns (end n c) ∙ keeps n c

each_clock : (end : ℕ → Content → Content) → ((n : ℕ) (c : Content) → (end n c).clock ≡ c.clock) → (ns : List ℕ) (c : Content) → (ended_each end ns c).clock ≡ c.clock
each_clock end keeps [] c = refl
each_clock end keeps (n ∷ ns) c = each_clock end keeps ns (end n c) ∙ keeps n c

number_births : (kind : Kinds) (depth n : ℕ) (c : Content) → (ended_number kind depth n c).births ≡ c.births
number_births kind zero n c = refl
number_births kind (suc depth) n c = each_births (ended_number kind depth) (number_births kind depth) (owned_list kind (at c.objects n)) (without n c)

number_clock : (kind : Kinds) (depth n : ℕ) (c : Content) → (ended_number kind depth n c).clock ≡ c.clock
number_clock kind zero n c = refl
number_clock kind (suc depth) n c = each_clock (ended_number kind depth) (number_clock kind depth) (owned_list kind (at c.objects n)) (without n c)

if_births : (end : ℕ → Content → Content) → ((n : ℕ) (c : Content) → (end n c).births ≡ c.births) → (x : Option ℕ) (c : Content) → (ended_if end x c).births ≡ c.births
if_births end keeps None c = refl
if_births end keeps (Some q) c = keeps q c

if_clock : (end : ℕ → Content → Content) → ((n : ℕ) (c : Content) → (end n c).clock ≡ c.clock) → (x : Option ℕ) (c : Content) → (ended_if end x c).clock ≡ c.clock
if_clock end keeps None c = refl
if_clock end keeps (Some q) c = keeps q c

one_births : (end : ℕ → Content → Content) → ((n : ℕ) (c : Content) → (end n c).births ≡ c.births) → (x : Option Object) (n i w : ℕ) (c : Content) → (emptied_if end x n i w c).births ≡ c.births
one_births end keeps None n i w c = refl
one_births end keeps (Some o) n i w c = if_births end keeps (owned_in (word_at o i w)) (with_object n (with_word i w 0 o) c)

one_clock : (end : ℕ → Content → Content) → ((n : ℕ) (c : Content) → (end n c).clock ≡ c.clock) → (x : Option Object) (n i w : ℕ) (c : Content) → (emptied_if end x n i w c).clock ≡ c.clock
one_clock end keeps None n i w c = refl
one_clock end keeps (Some o) n i w c = if_clock end keeps (owned_in (word_at o i w)) (with_object n (with_word i w 0 o) c)

pub emptied_births : (kind : Kinds) (depth n i w : ℕ) (us : List ℕ) (c : Content) → (emptied_each (ended_number kind depth) n i w us c).births ≡ c.births
emptied_births kind depth n i w [] c = refl
emptied_births kind depth n i w (u ∷ us) c =
    emptied_births kind depth n i w us (emptied (ended_number kind depth) n i (w + u) c) ∙ one_births (ended_number kind depth) (number_births kind depth) (at c.objects n) n i (w + u) c

pub emptied_clock : (kind : Kinds) (depth n i w : ℕ) (us : List ℕ) (c : Content) → (emptied_each (ended_number kind depth) n i w us c).clock ≡ c.clock
emptied_clock kind depth n i w [] c = refl
emptied_clock kind depth n i w (u ∷ us) c =
    emptied_clock kind depth n i w us (emptied (ended_number kind depth) n i (w + u) c) ∙ one_clock (ended_number kind depth) (number_clock kind depth) (at c.objects n) n i (w + u) c
