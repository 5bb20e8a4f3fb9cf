-- Slots that are cut, filled up and stamped are seen so; shapes and stamps are seen as they are.
use Rattle.std.proofs.Common.{◌≡◌, ℕ, zero, suc, ◌+◌, ◌-◌, cond, List, [], ◌∷◌, ◌++◌, length, map, replicate, take, drop, Option, Some, None, refl, sym, ap, ◌∙◌}
use Rattle.std.proofs.lemmas.List.{length-map, map-append}
use Rattle.std.specs.Prelude.{slice_get, nat_eq, nat_le, ◌&&◌, option_map}
use Rattle.life_store.specs.Content.{Slot, Object, stamped, blank_slot, resized_slots, resized, is_since, is_settled, are_settled, is_valid_in}
use Rattle.life_store.specs.References.{shape_of}
use Rattle.life_seen.specs.Kinds.{Kinds}
use Rattle.life_store.specs.Kinds.{Kind}
use Rattle.life_seen.specs.Named.{Names}
use Rattle.life_seen.specs.Seen.{words_seen, slot_seen, slots_seen, object_seen}
use Rattle.life_seen.specs.Housed.{WordsLive, SlotsLive}
use Rattle.life_seen.proofs.Views.{word_zero, zero_lives}

module _ {A B : Type 0} (f : A → B) where
  map-take : (n : ℕ) (xs : List A) → map f (take n xs) ≡ take n (map f xs)
  map-take zero xs = refl
  map-take (suc n) [] = refl
  map-take (suc n) (x ∷ xs) = ap (λ (ys : List B). f x ∷ ys) (map-take n xs)

  map-drop : (n : ℕ) (xs : List A) → map f (drop n xs) ≡ drop n (map f xs)
  map-drop zero xs = refl
  map-drop (suc n) [] = refl
  map-drop (suc n) (x ∷ xs) = map-drop n xs

  map-replicate : (n : ℕ) (x : A) → map f (replicate n x) ≡ replicate n (f x)
  map-replicate zero x = refl
  map-replicate (suc n) x = ap (λ (ys : List B). f x ∷ ys) (map-replicate n x)

module _ (names : Names) where
  -- ---- slots

  words_blank : (f : ℕ → Kind) (n : ℕ) → words_seen names f (replicate n 0) ≡ replicate n 0
  words_blank f zero = refl
  words_blank f (suc n) = (λ i. sym (word_zero names (f 0)) i ∷ words_blank (λ u. f (suc u)) n i)

  slot_blank : (f : ℕ → Kind) (w moment : ℕ) → slot_seen names f (blank_slot w moment) ≡ blank_slot w moment
  slot_blank f w moment = ap (λ (ws : List ℕ). record { words = ws; stamp = moment }) (words_blank f w)

  slots_stamped : (f : ℕ → Kind) (moment : ℕ) (ss : List Slot) → slots_seen names f (map (stamped moment) ss) ≡ map (stamped moment) (slots_seen names f ss)
  slots_stamped f moment [] = refl
  slots_stamped f moment (s ∷ ss) = ap (λ (rest : List Slot). record { words = words_seen names f s.words; stamp = moment } ∷ rest) (slots_stamped f moment ss)

  pub slots_resized : (f : ℕ → Kind) (w moment size since : ℕ) (ss : List Slot) → slots_seen names f (resized_slots w moment size since ss) ≡ resized_slots w moment size since (slots_seen names f ss)
  slots_resized f w moment size since ss =
      let see : Slot → Slot = slot_seen names f in
      let blanks : List Slot = replicate (size - length ss) (blank_slot w moment) in
      let seen_blanks : map see blanks ≡ replicate (size - length (map see ss)) (blank_slot w moment) =
      map-replicate see (size - length ss) (blank_slot w moment)
      ∙ (λ i. replicate (size - sym (length-map ss see) i) (slot_blank f w moment i)) in
      map-append see (take since ss) (map (stamped moment) (take (size - since) (drop since ss ++ blanks)))
      ∙ (λ i. map-take see since ss i ++ slots_stamped f moment (take (size - since) (drop since ss ++ blanks)) i)
      ∙ ap (λ rest. take since (map see ss) ++ map (stamped moment) rest)
      (map-take see (size - since) (drop since ss ++ blanks)
      ∙ ap (take (size - since)) (map-append see (drop since ss) blanks ∙ (λ i. map-drop see since ss i ++ seen_blanks i)))

  -- ---- .. and what they own lives

  words_blank_live : (f : ℕ → Kind) (n : ℕ) → WordsLive names f (replicate n 0)
  words_blank_live f zero = tt
  words_blank_live f (suc n) = (zero_lives names (f 0), words_blank_live (λ u. f (suc u)) n)

  pub blanks_live : (f : ℕ → Kind) (w moment n : ℕ) → SlotsLive names f (replicate n (blank_slot w moment))
  blanks_live f w moment zero = tt
  blanks_live f w moment (suc n) = (words_blank_live f w, blanks_live f w moment n)

  pub append_lives : (f : ℕ → Kind) (ss rr : List Slot) → SlotsLive names f ss → SlotsLive names f rr → SlotsLive names f (ss ++ rr)
  append_lives f [] rr l m = m
  append_lives f (s ∷ ss) rr l m = (l.0, append_lives f ss rr l.1 m)

  pub take_lives : (f : ℕ → Kind) (n : ℕ) (ss : List Slot) → SlotsLive names f ss → SlotsLive names f (take n ss)
  take_lives f zero ss l = tt
  take_lives f (suc n) [] l = tt
  take_lives f (suc n) (s ∷ ss) l = (l.0, take_lives f n ss l.1)

  pub drop_lives : (f : ℕ → Kind) (n : ℕ) (ss : List Slot) → SlotsLive names f ss → SlotsLive names f (drop n ss)
  drop_lives f zero ss l = l
  drop_lives f (suc n) [] l = tt
  drop_lives f (suc n) (s ∷ ss) l = drop_lives f n ss l.1

  stamped_live : (f : ℕ → Kind) (moment : ℕ) (ss : List Slot) → SlotsLive names f ss → SlotsLive names f (map (stamped moment) ss)
  stamped_live f moment [] l = tt
  stamped_live f moment (s ∷ ss) l = (l.0, stamped_live f moment ss l.1)

  pub resized_live : (f : ℕ → Kind) (w moment size since : ℕ) (ss : List Slot) → SlotsLive names f ss → SlotsLive names f (resized_slots w moment size since ss)
  resized_live f w moment size since ss l =
      let blanks : List Slot = replicate (size - length ss) (blank_slot w moment) in
      append_lives f (take since ss) (map (stamped moment) (take (size - since) (drop since ss ++ blanks))) (take_lives f since ss l)
      (stamped_live f moment (take (size - since) (drop since ss ++ blanks))
      (take_lives f (size - since) (drop since ss ++ blanks)
      (append_lives f (drop since ss) blanks (drop_lives f since ss l) (blanks_live f w moment (size - length ss)))))

-- ---- objects

module _ (kinds : Kinds) (names : Names) where
  pub object_resized : (o : Object) (moment size since : ℕ) → object_seen kinds names (resized moment size since o) ≡ resized moment size since (object_seen kinds names o)
  object_resized o moment size since = ap (λ (ss : List Slot). record o { slots = ss; end = moment }) (slots_resized names (kinds o.ty) o.width moment size since o.slots)

  pub count_seen : (o : Object) → length (object_seen kinds names o).slots ≡ length o.slots
  count_seen o = length-map o.slots (slot_seen names (kinds o.ty))

  pub shape_seen : (o : Object) → shape_of (object_seen kinds names o) ≡ shape_of o
  shape_seen o = ap (λ (n : ℕ). record { ty = o.ty; length = n; capacity = o.capacity }) (count_seen o)

  since_seen : (f : ℕ → Kind) (moment : ℕ) (ss : List Slot) (i : ℕ) → is_since moment (slice_get (slots_seen names f ss) i) ≡ is_since moment (slice_get ss i)
  since_seen f moment [] i = refl
  since_seen f moment (s ∷ ss) zero = refl
  since_seen f moment (s ∷ ss) (suc i) = since_seen f moment ss i

  settled_seen : (o : Object) (position moment : ℕ) → is_settled (object_seen kinds names o) position moment ≡ is_settled o position moment
  settled_seen o position moment =
      ap (λ (n : ℕ). cond (nat_eq position n) (nat_le o.end moment) (is_since moment (slice_get (slots_seen names (kinds o.ty) o.slots) position))) (count_seen o)
      ∙ ap (cond (nat_eq position (length o.slots)) (nat_le o.end moment)) (since_seen (kinds o.ty) moment o.slots position)

  are_settled_seen : (o : Object) (first count moment : ℕ) → are_settled (object_seen kinds names o) first count moment ≡ are_settled o first count moment
  are_settled_seen o first zero moment = refl
  are_settled_seen o first (suc n) moment = (λ i. settled_seen o first moment i && are_settled_seen o (first + 1) n moment i)

  -- positions stand in what is seen as they stand in the store
  pub valid_seen : (first count moment : ℕ) (o : Option Object) → is_valid_in first count moment (option_map (object_seen kinds names) o) ≡ is_valid_in first count moment o
  valid_seen first count moment None = refl
  valid_seen first count moment (Some o) = are_settled_seen o first count moment
