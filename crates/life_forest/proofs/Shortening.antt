-- Slots at the end of a buffer end: pop_back and clear.
use Rattle.std.proofs.Common.{◌≡◌, ℕ, zero, suc, ◌+◌, ◌≤◌, ◌<◌, Bool, List, [], ◌∷◌, take, drop, Option, Some, refl, sym, ap, subst, ◌∙◌, arith, inl, inr}
use Rattle.std.specs.Prelude.{◌&&◌, slice_get}
use Rattle.life_store.specs.Cells.{at, at-set_same}
use Rattle.life_store.specs.Content.{Slot, Object, Content, resized, with_object}
use Rattle.life_store.specs.Edits.{cleared, popped}
use Rattle.life_store.specs.Held.{resized_at, resized_if, slot_words, slots_at, slots_if, words_if}
use Rattle.life_store.specs.Owners.{ended, ended_slots}
use Rattle.life_store.specs.Parts.{Parts, Single, Raw, Iterates, Views, Text, Vector, Unique, Member, NoMember, width}
use Rattle.life_store.proofs.MapLemmas.{set-set}
use Rattle.life_forest.specs.Changes.{ticked}
use Rattle.life_forest.specs.Kinds.{Kinds}
use Rattle.life_store.specs.Kinds.{is_owner, kind_in}
use Rattle.life_forest.specs.Owned.{in_slots, every, times, owns, owns_if}
use Rattle.life_forest.specs.Forest.{AllSince, IsForest, Foot, Beneath, whole, under, Touches}
use Rattle.life_forest.specs.Typed.{AreFit}
use Rattle.life_forest.specs.Values.{AllKnown, IsOf, Known, owned_of, owned_slots}
use Rattle.life_forest.proofs.Below.{is_positive}
use Rattle.life_forest.proofs.ByParts.{owned_is, parts_end, slots_end}
use Rattle.life_forest.proofs.Counting.{one_same, one_there, times-append}
use Rattle.life_forest.proofs.Coming.{IfGot}
use Rattle.life_forest.proofs.Cuts.{cut, cut_by, cut_clock, cut_forest, cut_touches, still_there}
use Rattle.life_forest.proofs.Ending.{Ender}
use Rattle.life_forest.proofs.Feet.{and_all, within_self, within_all}
use Rattle.life_forest.proofs.Fitting.{Was, fit_later, fit_resized, fit_taken, fit_ticked, fit_with, fit_without_all, was_less, was_with}
use Rattle.life_forest.proofs.Knowing.{known_apart, slots_known_apart}
use Rattle.life_forest.proofs.Resizing.{in_slots-resized, in_slots-take, since-resized, since-take}
use Rattle.life_forest.proofs.Single.{Fits, fits_there, forest_ticked, forest_with, touches_ticked, touches_with}
use Rattle.life_forest.proofs.Steps.{times-owned_list, touches_then}

-- what slots own, counted in either way
pub slots_owned : (kind : Kinds) (p : Parts) (o : Object) (ss : List Slot) (k : ℕ) → ((u : ℕ) → kind.word o.ty u ≡ kind_in p u) → in_slots (λ u. is_owner (kind.word o.ty u) && every u) ss k ≡ times (owned_slots p ss) k
slots_owned kind p o ss k kinds =
    sym (times-owned_list kind (Some (record o { slots = ss })) k)
    ∙ ap (λ xs. times xs k) (owned_is kind p (record o { slots = ss }) kinds)

take_nothing : (n : ℕ) → take {A = ℕ} n [] ≡ []
take_nothing zero = refl
take_nothing (suc n) = refl

drop_nothing : (n : ℕ) → drop {A = ℕ} n [] ≡ []
drop_nothing zero = refl
drop_nothing (suc n) = refl

owned_nothing : (p : Parts) (k : ℕ) → times (owned_of p []) k ≡ 0
owned_nothing Single k = refl
owned_nothing Raw k = refl
owned_nothing Iterates k = refl
owned_nothing Views k = refl
owned_nothing (Text ty) k = refl
owned_nothing (Vector ty element) k = refl
owned_nothing (Unique ty target) k = refl
owned_nothing (Member first others) k =
    let f = ap (λ xs. times (owned_of first xs) k) (take_nothing (width first)) in
    let o = ap (λ xs. times (owned_of others xs) k) (drop_nothing (width first)) in
    let a = owned_nothing first k in
    let b = owned_nothing others k in
    let e = times-append (owned_of first (take (width first) [])) (owned_of others (drop (width first) [])) k in
    omega arith
owned_nothing NoMember k = refl

-- what one slot owns is among what the slots from there on own
pub slot_among : (p : Parts) (n : ℕ) (ss : List Slot) (k : ℕ) → times (owned_of p (words_if (slice_get ss n))) k ≤ times (owned_slots p (drop n ss)) k
slot_among p zero [] k = let z = owned_nothing p k in omega arith
slot_among p (suc n) [] k = let z = owned_nothing p k in omega arith
slot_among p zero (s ∷ ss) k = let a = times-append (owned_of p s.words) (owned_slots p ss) k in omega arith
slot_among p (suc n) (s ∷ ss) k = slot_among p n ss k

known_nothing : (kind : Kinds) (c : Content) (p : Parts) → Known kind c p []
known_nothing kind c Single = tt
known_nothing kind c Raw = tt
known_nothing kind c Iterates = tt
known_nothing kind c Views = tt
known_nothing kind c (Text ty) = tt
known_nothing kind c (Vector ty element) = tt
known_nothing kind c (Unique ty target) = tt
known_nothing kind c (Member first others) = (
  subst (Known kind c first) (sym (take_nothing (width first))) (known_nothing kind c first),
  subst (Known kind c others) (sym (drop_nothing (width first))) (known_nothing kind c others),
)
known_nothing kind c NoMember = tt

module _ (kind : Kinds) (hand : ℕ → ℕ) (c : Content) (b size since : ℕ) (o : Object) (ns : List ℕ) (known : Content → Type 0) (end : Content → Content) (ender : Ender kind ns known end) (forest : IsForest kind hand c)
    (there : at c.objects b ≡ Some o) (le : since ≤ size) (share : (k : ℕ) → times ns k ≤ in_slots (λ u. is_owner (kind.word o.ty u) && every u) (drop size o.slots) k)
    (known_c : known (with_object b (record o { slots = take size o.slots }) c)) where
  -- the slots that stay
  abbrev short : Object
  short = record o { slots = take size o.slots }

  less : (g : ℕ → Bool) (k : ℕ) → owns kind g (record o { slots = take size o.slots }) k ≤ owns kind g o k
  less g k = let a = in_slots-take (λ u. is_owner (kind.word o.ty u) && g u) size o.slots k in omega arith

  shared : (k : ℕ) → times ns k + owns kind every (record o { slots = take size o.slots }) k ≤ owns kind every o k
  shared k = let a = in_slots-take (λ u. is_owner (kind.word o.ty u) && every u) size o.slots k in let s = share k in omega arith

  fits : Fits kind c (record o { slots = take size o.slots })
  fits =
      let was = fits_there kind hand c b o forest there in
      record { lower = λ m q own below. let l = less every m in was.lower m q (omega arith) below; slots = since-take c.clock c.clock size o.slots (omega arith) was.slots; end = was.end }

  from : (k : ℕ) → 0 < times ns k → 0 < owns kind every o k
  from k lt = let s = shared k in omega arith

  abbrev middle : Content
  middle = cut b short end c

  middle_forest : IsForest kind hand middle
  middle_forest = cut_forest kind hand hand c b o short ns known end ender forest there refl fits from (λ k. let s = shared k in omega arith) known_c

  o_there : at (end c).objects b ≡ Some o
  o_there = still_there kind hand hand c b o short ns known end ender forest there refl fits from (λ k. let s = shared k in omega arith) known_c

  short_there : at middle.objects b ≡ Some short
  short_there = at-set_same (end c).objects b b short refl

  abbrev new : Object
  new = resized ((end c).clock + 1) size since o

  fewer : (g : ℕ → Bool) (k : ℕ) → owns kind g (resized ((end c).clock + 1) size since o) k ≤ owns kind g (record o { slots = take size o.slots }) k
  fewer g k = in_slots-resized (λ u. is_owner (kind.word o.ty u) && g u) o.width ((end c).clock + 1) size since o.slots k le

  is_new : with_object b new (ticked middle) ≡ resized_at b size since (end c)
  is_new =
      ap (λ m. record { objects = m; births = (end c).births; clock = (end c).clock + 1 }) (set-set (end c).objects b short new)
      ∙ sym (ap (λ (x : Option Object). resized_if x b size since (end c)) o_there)

  -- what ends doesn't move the clock
  clock_is : (end c).clock ≡ c.clock
  clock_is = cut_clock kind hand hand c b o short ns known end ender forest there refl fits from (λ k. let s = shared k in omega arith) known_c

  new_since : AllSince ((end c).clock + 1) new.slots
  new_since =
      let was = fits_there kind hand c b o forest there in
      since-resized c.clock ((end c).clock + 1) o.width size since o.slots (let e = clock_is in omega arith) was.slots

  pub shortened_forest : IsForest kind hand (resized_at b size since (end c))
  shortened_forest =
      let was = fits_there kind hand middle b short middle_forest short_there in
      subst (IsForest kind hand) is_new
      (forest_with kind hand hand (ticked middle) b short new (forest_ticked kind hand middle middle_forest) short_there refl
      (record { lower = λ m q own below. let l = fewer every m in was.lower m q (omega arith) below; slots = new_since; end = omega arith })
      (λ k. let l = fewer every k in omega arith))

  pub shortened_fit : AreFit kind c → AreFit kind (resized_at b size since (end c))
  shortened_fit fit =
      let was : Was c middle = cut_by kind hand hand c b o short ns known end ender forest there refl fits from (λ k. let s = shared k in omega arith) known_c (Was c) (was_less c) (was_with kind c b o short there refl) in
      let before = fit b o there in
      let left : AreFit kind middle =
      cut_by kind hand hand c b o short ns known end ender forest there refl fits from (λ k. let s = shared k in omega arith) known_c (AreFit kind) (fit_without_all kind)
      (fit_with kind c b o short there refl fit (fit_taken kind c size o before)) in
      subst (AreFit kind) is_new
      (fit_with kind (ticked middle) b short new short_there refl (fit_ticked kind middle left)
      (fit_resized kind (ticked middle) ((end c).clock + 1) size since o (fit_later kind c (ticked middle) o was before)))

  pub shortened_touches : (t : Foot) → Beneath kind c t b → ((n : ℕ) → 0 < times ns n → Beneath kind c t n) → Touches kind t c (resized_at b size since (end c))
  shortened_touches t low ends =
      subst (Touches kind t c) is_new
      (touches_then kind hand c forest t (and_all t (b ∷ [])) t middle (with_object b new (ticked middle)) first second (within_self kind c t)
      (within_all kind c t (b ∷ []) (λ n lt h. subst (Beneath kind c t) (one_there b n (omega arith)) low)))
    where
      first : Touches kind t c middle
      first =
          cut_touches kind hand hand c b o short ns known end ender forest there refl fits from (λ k. let s = shared k in omega arith) known_c t (inl low) ends
          (λ g k lt own. let l = less g k in inr (omega arith))

      on_ticked : Beneath kind (ticked middle) (and_all t (b ∷ [])) b
      on_ticked = whole b (is_positive (times (b ∷ []) b) (let s = one_same b b refl in omega arith))

      second : Touches kind (and_all t (b ∷ [])) middle (with_object b new (ticked middle))
      second =
          touches_then kind hand middle middle_forest (and_all t (b ∷ [])) (and_all t (b ∷ [])) (and_all t (b ∷ [])) (ticked middle) (with_object b new (ticked middle))
          (touches_ticked kind (and_all t (b ∷ [])) middle)
          (touches_with kind (and_all t (b ∷ [])) (ticked middle) b short new short_there (inl on_ticked) (λ g k lt own. let l = fewer g k in inr (omega arith)))
          (within_self kind middle (and_all t (b ∷ []))) (within_self kind middle (and_all t (b ∷ [])))

-- ---- pop_back and clear

module _ (kind : Kinds) (hand : ℕ → ℕ) (c : Content) (element : Parts) (b : ℕ) (o : Object) (forest : IsForest kind hand c) (there : at c.objects b ≡ Some o) (is : IsOf kind element o (Known kind c element)) where
  abbrev test : ℕ → Bool
  test u = is_owner (kind.word o.ty u) && every u

  slots_are : slots_at c b ≡ o.slots
  slots_are = ap slots_if there

  -- what is owned is owned by the buffer
  owned_here : (n k : ℕ) → times (owned_slots element (drop n o.slots)) k ≤ owns kind every o k
  owned_here n k =
      let a = slots_owned kind element o (drop n o.slots) k is.kinds in
      let d = in_slots-take (λ u. is_owner (kind.word o.ty u) && every u) n o.slots k in
      omega arith

  beneath_buffer : (t : Foot) → Beneath kind c t b → (k : ℕ) → 0 < owns kind every o k → Beneath kind c t k
  beneath_buffer t low k own = under b k low (subst (λ (x : Option Object). 0 < owns_if kind every x k) (sym there) own)

  module _ (n : ℕ) where
    abbrev last : List ℕ
    last = words_if (slice_get o.slots n)

    pub last_known : (ss : List Slot) (i : ℕ) → AllKnown (Known kind c element) ss → Known kind c element (words_if (slice_get ss i))
    last_known [] i h = known_nothing kind c element
    last_known (s ∷ ss) zero h = h.0
    last_known (s ∷ ss) (suc i) h = last_known ss i h.1

    last_share : (k : ℕ) → times (owned_of element (words_if (slice_get o.slots n))) k ≤ in_slots (λ u. is_owner (kind.word o.ty u) && every u) (drop n o.slots) k
    last_share k = let a = slot_among element n o.slots k in let e = slots_owned kind element o (drop n o.slots) k is.kinds in omega arith

    last_owned : (k : ℕ) → 0 < times (owned_of element (words_if (slice_get o.slots n))) k → 0 < owns kind every o k
    last_owned k lt = let a = slot_among element n o.slots k in let h = owned_here n k in omega arith

    last_apart : Known kind (with_object b (record o { slots = take n o.slots }) c) element (words_if (slice_get o.slots n))
    last_apart = known_apart kind hand c b o (record o { slots = take n o.slots }) forest there element (words_if (slice_get o.slots n)) last_owned (last_known o.slots n is.slots)

    is_popped : resized_at b n n (ended element last c) ≡ resized_at b n n (ended element (slot_words c b n) c)
    is_popped = ap (λ (ss : List Slot). resized_at b n n (ended element (words_if (slice_get ss n)) c)) (sym slots_are)

    pub popped_forest : IfGot (popped element b (suc n) c) (IsForest kind hand)
    popped_forest =
        subst (IsForest kind hand) is_popped
        (shortened_forest kind hand c b n n o (owned_of element last) (λ d. Known kind d element last) (ended element last) (parts_end kind element last) forest there (omega arith) last_share last_apart)

    pub popped_fit : AreFit kind c → IfGot (popped element b (suc n) c) (AreFit kind)
    popped_fit fit =
        subst (AreFit kind) is_popped
        (shortened_fit kind hand c b n n o (owned_of element last) (λ d. Known kind d element last) (ended element last) (parts_end kind element last) forest there (omega arith) last_share last_apart fit)

    pub popped_touches : (t : Foot) → Beneath kind c t b → IfGot (popped element b (suc n) c) (Touches kind t c)
    popped_touches t low =
        subst (Touches kind t c) is_popped
        (shortened_touches kind hand c b n n o (owned_of element last) (λ d. Known kind d element last) (ended element last) (parts_end kind element last) forest there (omega arith) last_share last_apart t low
        (λ k lt. beneath_buffer t low k (last_owned k lt)))

  all_owned : (k : ℕ) → 0 < times (owned_slots element o.slots) k → 0 < owns kind every o k
  all_owned k lt = let h = owned_here 0 k in omega arith

  all_apart : AllKnown (Known kind (with_object b (record o { slots = take 0 o.slots }) c) element) o.slots
  all_apart = slots_known_apart kind hand c b o (record o { slots = take 0 o.slots }) forest there element o.slots all_owned is.slots

  all_share : (k : ℕ) → times (owned_slots element o.slots) k ≤ in_slots (λ u. is_owner (kind.word o.ty u) && every u) (drop 0 o.slots) k
  all_share k = let e = slots_owned kind element o o.slots k is.kinds in omega arith

  is_cleared : resized_at b 0 0 (ended_slots (ended element) o.slots c) ≡ cleared element b c
  is_cleared = ap (λ (ss : List Slot). resized_at b 0 0 (ended_slots (ended element) ss c)) (sym slots_are)

  pub cleared_forest : IsForest kind hand (cleared element b c)
  cleared_forest =
      subst (IsForest kind hand) is_cleared
      (shortened_forest kind hand c b 0 0 o (owned_slots element o.slots) (λ d. AllKnown (Known kind d element) o.slots) (ended_slots (ended element) o.slots)
      (slots_end kind element (ended element) (parts_end kind element) o.slots) forest there (omega arith) all_share all_apart)

  pub cleared_fit : AreFit kind c → AreFit kind (cleared element b c)
  cleared_fit fit =
      subst (AreFit kind) is_cleared
      (shortened_fit kind hand c b 0 0 o (owned_slots element o.slots) (λ d. AllKnown (Known kind d element) o.slots) (ended_slots (ended element) o.slots)
      (slots_end kind element (ended element) (parts_end kind element) o.slots) forest there (omega arith) all_share all_apart fit)

  pub cleared_touches : (t : Foot) → Beneath kind c t b → Touches kind t c (cleared element b c)
  cleared_touches t low =
      subst (Touches kind t c) is_cleared
      (shortened_touches kind hand c b 0 0 o (owned_slots element o.slots) (λ d. AllKnown (Known kind d element) o.slots) (ended_slots (ended element) o.slots)
      (slots_end kind element (ended element) (parts_end kind element) o.slots) forest there (omega arith) all_share all_apart t low
      (λ k lt. beneath_buffer t low k (all_owned k lt)))
