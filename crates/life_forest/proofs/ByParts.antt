-- A value ends by the parts of its type: all that is beneath it ends, and nothing else.
use Rattle.std.proofs.Common.{◌≡◌, ℕ, zero, suc, ◌+◌, ◌<◌, Bool, true, false, List, [], ◌∷◌, ◌++◌, Option, Some, None, refl, sym, ap, subst, ◌∙◌, arith, append_assoc}
use Rattle.std.specs.Prelude.{◌&&◌, take, drop, slice_index}
use Rattle.life_store.specs.Cells.{at}
use Rattle.life_store.specs.Content.{Slot, Object, Content}
use Rattle.life_store.specs.Held.{owned_in, slots_if}
use Rattle.life_store.specs.Owners.{ended, ended_owned, ended_slots}
use Rattle.life_store.specs.Parts.{Parts, Single, Raw, Iterates, Views, Text, Vector, Unique, Member, NoMember, width}
use Rattle.life_forest.specs.Changes.{without_all}
use Rattle.life_forest.specs.Kinds.{Kinds}
use Rattle.life_store.specs.Kinds.{Kind, is_owner, row_behind, first_owns, kind_in}
use Rattle.life_forest.specs.Owned.{one_list, words_list, slots_list, times, owned_list, beneath}
use Rattle.life_forest.specs.Forest.{IsForest, Foot, Beneath, Touches, all_of, Below}
use Rattle.life_forest.specs.Values.{listed, owned_of, owned_slots, AllKnown, IsOf, OwnedKnown, Known}
use Rattle.life_forest.proofs.Steps.{births-without_all, touches_without_all, was_there, beneath_listed}
use Rattle.life_forest.proofs.Below.{positive_is, top, no_part, below_lives, alike_without_all}
use Rattle.life_forest.proofs.Ending.{Ended, Ender, end_nothing, end_then, end_one}
use Rattle.life_forest.proofs.Listed.{below_beneath, beneath_all}

-- ---- the flat row of a type and its parts own the same

words_alike : (f g : ℕ → Bool) (ws : List ℕ) → ((u : ℕ) → f u ≡ g u) → words_list f ws ≡ words_list g ws
words_alike f g [] h = refl
words_alike f g (x ∷ xs) h =
    ap (λ (b : Bool). one_list b x ++ words_list (λ u. f (suc u)) xs) (h 0)
    ∙ ap (λ (ys : List ℕ). one_list (g 0) x ++ ys) (words_alike (λ u. f (suc u)) (λ u. g (suc u)) xs (λ u. h (suc u)))

slots_alike : (f g : ℕ → Bool) (ss : List Slot) → ((u : ℕ) → f u ≡ g u) → slots_list f ss ≡ slots_list g ss
slots_alike f g [] h = refl
slots_alike f g (s ∷ ss) h =
    ap (λ (ys : List ℕ). ys ++ slots_list f ss) (words_alike f g s.words h)
    ∙ ap (λ (ys : List ℕ). words_list g s.words ++ ys) (slots_alike f g ss h)

words_empty : (f : ℕ → Bool) (ws : List ℕ) → ((u : ℕ) → f u ≡ false) → words_list f ws ≡ []
words_empty f [] h = refl
words_empty f (x ∷ xs) h =
    ap (λ (b : Bool). one_list b x ++ words_list (λ u. f (suc u)) xs) (h 0)
    ∙ none x
    ∙ words_empty (λ u. f (suc u)) xs (λ u. h (suc u))
  where
    none : (y : ℕ) → one_list false y ++ words_list (λ u. f (suc u)) xs ≡ words_list (λ u. f (suc u)) xs
    none zero = refl
    none (suc y) = refl

words_behind : (t : Kind → Bool) (n : ℕ) (f g : ℕ → Kind) (ws : List ℕ) → words_list (λ u. t (row_behind n f g u)) ws ≡ words_list (λ u. t (f u)) (take n ws) ++ words_list (λ u. t (g u)) (drop n ws)
words_behind t zero f g ws = refl
words_behind t (suc n) f g [] = refl
words_behind t (suc n) f g (x ∷ xs) =
    ap (λ (ys : List ℕ). one_list (t (f 0)) x ++ ys) (words_behind t n (λ v. f (suc v)) g xs)
    ∙ sym (append_assoc (one_list (t (f 0)) x) (words_list (λ u. t (f (suc u))) (take n xs)) (words_list (λ u. t (g u)) (drop n xs)))

first_owned : (ws : List ℕ) → words_list (λ u. is_owner (first_owns u) && true) ws ≡ listed (owned_in (slice_index ws 0))
first_owned [] = refl
first_owned (x ∷ xs) = owner_list x (words_list (λ u. false) xs) (words_empty (λ u. false) xs (λ u. refl))
  where
    owner_list : (y : ℕ) (ys : List ℕ) → ys ≡ [] → one_list true y ++ ys ≡ listed (owned_in y)
    owner_list zero ys e = e
    owner_list (suc n) ys e = ap (λ (zs : List ℕ). n ∷ zs) e

pub owned_words : (p : Parts) (ws : List ℕ) → words_list (λ u. is_owner (kind_in p u) && true) ws ≡ owned_of p ws
owned_words Single ws = words_empty (λ u. false) ws (λ u. refl)
owned_words Raw ws = words_empty (λ u. false) ws (λ u. refl)
owned_words Iterates ws = words_empty (λ u. false) ws (λ u. refl)
owned_words Views ws = words_empty (λ u. false) ws (λ u. refl)
owned_words (Text ty) ws = first_owned ws
owned_words (Vector ty element) ws = first_owned ws
owned_words (Unique ty target) ws = first_owned ws
owned_words (Member first others) ws =
    words_behind (λ k. is_owner k && true) (width first) (kind_in first) (kind_in others) ws
    ∙ ap (λ (ys : List ℕ). ys ++ words_list (λ u. is_owner (kind_in others u) && true) (drop (width first) ws)) (owned_words first (take (width first) ws))
    ∙ ap (λ (ys : List ℕ). owned_of first (take (width first) ws) ++ ys) (owned_words others (drop (width first) ws))
owned_words NoMember ws = words_empty (λ u. false) ws (λ u. refl)

owned_all : (p : Parts) (ss : List Slot) → slots_list (λ u. is_owner (kind_in p u) && true) ss ≡ owned_slots p ss
owned_all p [] = refl
owned_all p (s ∷ ss) =
    ap (λ (ys : List ℕ). ys ++ slots_list (λ u. is_owner (kind_in p u) && true) ss) (owned_words p s.words)
    ∙ ap (λ (ys : List ℕ). owned_of p s.words ++ ys) (owned_all p ss)

module _ (kind : Kinds) where
  pub owned_is : (p : Parts) (o : Object) → ((u : ℕ) → kind.word o.ty u ≡ kind_in p u) → owned_list kind (Some o) ≡ owned_slots p o.slots
  owned_is p o same =
      slots_alike (λ u. is_owner (kind.word o.ty u) && true) (λ u. is_owner (kind_in p u) && true) o.slots (λ u. ap (λ k. is_owner k && true) (same u))
      ∙ owned_all p o.slots

  -- ---- what is known lasts

  all_known : (gone : List ℕ) (c : Content) (p : Parts) (ss : List Slot) → ((ws : List ℕ) → Known kind c p ws → Known kind (without_all gone c) p ws)
      → AllKnown (Known kind c p) ss → AllKnown (Known kind (without_all gone c) p) ss
  all_known gone c p [] less h = tt
  all_known gone c p (s ∷ ss) less h = (less s.words h.0, all_known gone c p ss less h.1)

  owned_known : (gone : List ℕ) (c : Content) (p : Parts) (x : Option ℕ) → ((ws : List ℕ) → Known kind c p ws → Known kind (without_all gone c) p ws)
      → OwnedKnown kind c p (Known kind c p) x → OwnedKnown kind (without_all gone c) p (Known kind (without_all gone c) p) x
  owned_known gone c p None less h = tt
  owned_known gone c p (Some n) less h = (
    subst (λ b. n < b) (sym (births-without_all kind gone c)) h.0,
    λ o there. let i = h.1 o (was_there kind gone c n o there) in record { kinds = i.kinds; words = i.words; wide = i.wide; slots = all_known gone c p o.slots less i.slots },
  )

  pub known_less : (gone : List ℕ) (c : Content) (p : Parts) (ws : List ℕ) → Known kind c p ws → Known kind (without_all gone c) p ws
  known_less gone c Single ws h = tt
  known_less gone c Raw ws h = tt
  known_less gone c Iterates ws h = tt
  known_less gone c Views ws h = tt
  known_less gone c (Text ty) ws h = owned_known gone c Single (owned_in (slice_index ws 0)) (λ vs k. tt) h
  known_less gone c (Vector ty element) ws h = owned_known gone c element (owned_in (slice_index ws 0)) (known_less gone c element) h
  known_less gone c (Unique ty target) ws h = owned_known gone c target (owned_in (slice_index ws 0)) (known_less gone c target) h
  known_less gone c (Member first others) ws h = (known_less gone c first (take (width first) ws) h.0, known_less gone c others (drop (width first) ws) h.1)
  known_less gone c NoMember ws h = tt

  -- ---- one lemma for each way to go on

  pub slots_end : (p : Parts) (end : List ℕ → Content → Content) → ((ws : List ℕ) → Ender kind (owned_of p ws) (λ c. Known kind c p ws) (end ws)) → (ss : List Slot)
      → Ender kind (owned_slots p ss) (λ c. AllKnown (Known kind c p) ss) (ended_slots end ss)
  slots_end p end one [] = end_nothing kind (λ c. Unit {0})
  slots_end p end one (s ∷ ss) =
      end_then kind (owned_of p s.words) (owned_slots p ss) (λ c. Known kind c p s.words) (λ c. AllKnown (Known kind c p) ss) (end s.words) (ended_slots end ss)
      (one s.words) (slots_end p end one ss) (record { less = λ gone c h. all_known gone c p ss (known_less gone c p) h })

  owned_end : (p : Parts) (end : List ℕ → Content → Content) → ((ws : List ℕ) → Ender kind (owned_of p ws) (λ c. Known kind c p ws) (end ws)) → (x : Option ℕ)
      → Ender kind (listed x) (λ c. OwnedKnown kind c p (Known kind c p) x) (ended_owned end x)
  owned_end p end one None = end_nothing kind (λ c. Unit {0})
  owned_end p end one (Some n) = λ hand c d forest known agree.
      end_one kind n (λ o c. IsOf kind p o (Known kind c p)) (λ x d. ended_slots end (slots_if x) d)
      (λ o hand c d forest known agree.
      let e = owned_is p o known.kinds in
      subst (λ ns. IsForest kind (λ k. times ns k + hand k) c → ((k : ℕ) → Below kind c ns k → at d.objects k ≡ at c.objects k) → Ended kind hand ns c d (ended_slots end o.slots d)) (sym e)
      (λ f g. slots_end p end one o.slots hand c d f known.slots g) forest agree)
      (λ o. record { less = λ gone c h. record { kinds = h.kinds; words = h.words; wide = h.wide; slots = all_known gone c p o.slots (known_less gone c p) h.slots } })
      hand c d forest known.1 agree

  pub parts_end : (p : Parts) (ws : List ℕ) → Ender kind (owned_of p ws) (λ c. Known kind c p ws) (ended p ws)
  parts_end Single ws = end_nothing kind (λ c. Unit {0})
  parts_end Raw ws = end_nothing kind (λ c. Unit {0})
  parts_end Iterates ws = end_nothing kind (λ c. Unit {0})
  parts_end Views ws = end_nothing kind (λ c. Unit {0})
  parts_end (Text ty) ws = owned_end Single (λ vs d. d) (λ vs. end_nothing kind (λ c. Unit {0})) (owned_in (slice_index ws 0))
  parts_end (Vector ty element) ws = owned_end element (ended element) (parts_end element) (owned_in (slice_index ws 0))
  parts_end (Unique ty target) ws = owned_end target (ended target) (parts_end target) (owned_in (slice_index ws 0))
  parts_end (Member first others) ws =
      end_then kind (owned_of first (take (width first) ws)) (owned_of others (drop (width first) ws)) (λ c. Known kind c first (take (width first) ws)) (λ c. Known kind c others (drop (width first) ws))
      (ended first (take (width first) ws)) (ended others (drop (width first) ws)) (parts_end first (take (width first) ws)) (parts_end others (drop (width first) ws))
      (record { less = λ gone c h. known_less gone c others (drop (width first) ws) h })
  parts_end NoMember ws = end_nothing kind (λ c. Unit {0})

  -- ---- what is asked for

  module _ (p : Parts) (ws : List ℕ) (hand : ℕ → ℕ) (c : Content) (forest : IsForest kind (λ k. times (owned_of p ws) k + hand k) c) (known : Known kind c p ws) where
    ends : Ended kind hand (owned_of p ws) c c (ended p ws c)
    ends = parts_end p ws hand c c forest known (λ k b. refl)

    -- what holds of fewer objects, too, holds then
    pub ended_by : (P : Content → Type 0) → ((gone : List ℕ) (d : Content) → P d → P (without_all gone d)) → P c → P (ended p ws c)
    ended_by P less h = subst P (sym ends.is) (less ends.list c h)

    pub ended_forest : IsForest kind hand (ended p ws c)
    ended_forest = subst (IsForest kind hand) (sym ends.is) ends.forest

    pub ended_touches : (t : Foot) → ((n : ℕ) → 0 < times (owned_of p ws) n → Beneath kind c t n) → Touches kind t c (ended p ws c)
    ended_touches t tops = subst (Touches kind t c) (sym ends.is) (touches_without_all kind t c ends.list (λ k lt. below_beneath kind (owned_of p ws) c t k tops (ends.low k lt)))

    -- what ends is the list of what is beneath
    pub ended_is : (levels : ℕ) → ((n : ℕ) (q : Object) → 0 < times (owned_of p ws) n → at c.objects n ≡ Some q → kind.rank q.ty < levels) → ended p ws c ≡ without_all (beneath kind levels c (owned_of p ws)) c
    ended_is levels high =
        ends.is
        ∙ alike_without_all kind ends.list (beneath kind levels c (owned_of p ws)) c
        (λ k lt. let b = ends.low k lt in
        let q = below_lives kind hand c (owned_of p ws) k forest b in
        beneath_all kind (λ j. times (owned_of p ws) j + hand j) c forest (all_of (owned_of p ws)) (owned_of p ws) levels (λ n e. positive_is (times (owned_of p ws) n) e)
        (λ m n own. let z = no_part kind (at c.objects m) n in absurd (omega arith)) high k q.0 q.1 b)
        (λ k lt. ends.every_one k (beneath_listed kind levels (all_of (owned_of p ws)) c (owned_of p ws) k (λ n h. top kind c (owned_of p ws) n h) lt))
