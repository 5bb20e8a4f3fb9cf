-- erase: an element ends, and the later ones move down.
use Rattle.std.proofs.Common.{◌≡◌, ◌≢◌, ℕ, zero, suc, ◌+◌, ◌-◌, ◌≤◌, ◌<◌, Bool, true, List, [], ◌∷◌, ◌++◌, length, map, take, drop, Option, Some, refl, sym, ap, subst, ◌∙◌, arith, inl, ⊎_elim, length-append}
use Rattle.std.specs.Prelude.{◌&&◌, nat_eq, slice_get}
use Rattle.std.proofs.lemmas.List.{length-drop, length-map, length-take}
use Rattle.life_store.specs.Cells.{at, at-set_same, at-set_other}
use Rattle.life_store.specs.Content.{Slot, Object, Content, resized, with_object}
use Rattle.life_store.specs.Edits.{closed_up, erased, words_in}
use Rattle.life_store.specs.Held.{filled, filled_slots, resized_at, resized_if, slots_if, words_if}
use Rattle.life_store.specs.Owners.{ended, taken_slots}
use Rattle.life_store.specs.Parts.{Parts, width}
use Rattle.life_store.proofs.MapLemmas.{one_or_apart, set-set}
use Rattle.life_forest.specs.Changes.{ticked}
use Rattle.life_forest.specs.Kinds.{Kinds, owned_type}
use Rattle.life_store.specs.Kinds.{Owner, is_owner, kind_in}
use Rattle.life_forest.specs.Owned.{every, times, owns, owns_if}
use Rattle.life_forest.specs.Forest.{AllSince, IsForest, Foot, Beneath, whole, under, Touches}
use Rattle.life_forest.specs.Values.{IsOf, Known, owned_of, owned_rows, owned_slots}
use Rattle.life_forest.proofs.Below.{is_positive, lives}
use Rattle.life_forest.proofs.Beside.{Alike, Beside, length-taken_slots, same_content, taken_slots_beside, taken_slots_stay}
use Rattle.life_forest.proofs.ByParts.{parts_end}
use Rattle.life_forest.proofs.Consuming.{tell_apart, told_apart}
use Rattle.life_forest.proofs.Counting.{one_same, one_there, times-append}
use Rattle.life_forest.proofs.Cuts.{cut, cut_births, cut_by, cut_clock, cut_forest, cut_touches, still_there, was_before}
use Rattle.life_forest.proofs.Feet.{and_all, within_self, within_all}
use Rattle.life_forest.proofs.Filling.{filled_is, in_rows-append, in_rows-slots, in_slots-kept, rows_owned, since-filled}
use Rattle.life_forest.proofs.Knowing.{known_apart}
use Rattle.life_forest.proofs.Resizing.{in_slots-resized, in_slots-take, since-resized}
use Rattle.life_forest.proofs.Shortening.{last_known, slots_owned}
use Rattle.life_forest.proofs.Sparing.{owns_le}
use Rattle.life_forest.proofs.Single.{Fits, fits_there, forest_ticked, forest_with, touches_ticked, touches_with}
use Rattle.life_forest.proofs.Steps.{alive_le, owned_held, touches_then}
use Rattle.life_forest.proofs.Taking.{Took, slots_took}
use Rattle.life_forest.proofs.Widths.{AllLong, long-append, slots_long, wide-drop, wide-filled, wide-resized, wide-take}
use Rattle.life_store.proofs.CellLemmas.{none_some}
use Rattle.life_forest.specs.Typed.{AreFit}
use Rattle.life_forest.proofs.Among.{Among, among-drop, among-filled, among-resized, among-take, from_among, rows-append, rows-slots, to_among}
use Rattle.life_forest.proofs.Fitting.{fit_ticked, fit_with, fit_without_all}
use Rattle.life_forest.proofs.FittingTaken.{SlotsFlat, among_counted, slots_at_all, slots_fit}

-- a slot, and those behind it
slot_split : (p : Parts) (i : ℕ) (ss : List Slot) (k : ℕ) → i < length ss → times (owned_of p (words_if (slice_get ss i))) k + times (owned_slots p (drop (suc i) ss)) k ≡ times (owned_slots p (drop i ss)) k
slot_split p i [] k lt = absurd (omega arith)
slot_split p zero (s ∷ ss) k lt = let a = times-append (owned_of p s.words) (owned_slots p ss) k in omega arith
slot_split p (suc i) (s ∷ ss) k lt = slot_split p i ss k (omega arith)

module _ (kind : Kinds) (hand : ℕ → ℕ) (c : Content) (element : Parts) (b : ℕ) (o : Object) (forest : IsForest kind hand c) (there : at c.objects b ≡ Some o) (is : IsOf kind element o (Known kind c element)) (i : ℕ) (lt : i < length o.slots) where
  abbrev gone : List ℕ
  gone = words_if (slice_get o.slots i)

  abbrev front : List Slot
  front = take i o.slots

  abbrev later : List Slot
  later = drop (i + 1) o.slots

  -- what the buffer owns, in three parts
  parted : (k : ℕ) → (times (owned_of element (words_if (slice_get o.slots i))) k + times (owned_slots element (drop (i + 1) o.slots)) k) + times (owned_slots element (take i o.slots)) k ≡ owns kind every o k
  parted k =
      let next : suc i ≡ i + 1 = omega arith in
      let a = in_slots-take (λ u. is_owner (kind.word o.ty u) && every u) i o.slots k in
      let f = slots_owned kind element o (take i o.slots) k is.kinds in
      let d = slots_owned kind element o (drop i o.slots) k is.kinds in
      let s = slot_split element i o.slots k lt in
      let e = ap (λ (n : ℕ). times (owned_slots element (drop n o.slots)) k) next in
      omega arith

  -- ---- the buffer's words are in the hand, and what the one owned ends

  abbrev bare : Object
  bare = record o { slots = [] }

  abbrev held : ℕ → ℕ
  held k = times (owned_slots element later) k + (times (owned_slots element front) k + hand k)

  bare_fits : Fits kind c bare
  bare_fits = let was = fits_there kind hand c b o forest there in record { lower = λ m q own below. absurd (omega arith); slots = tt; end = was.end }

  from : (k : ℕ) → 0 < times (owned_of element (words_if (slice_get o.slots i))) k → 0 < owns kind every o k
  from k more = let p = parted k in omega arith

  share : (k : ℕ) → ((times (owned_slots element (drop (i + 1) o.slots)) k + (times (owned_slots element (take i o.slots)) k + hand k)) + times (owned_of element (words_if (slice_get o.slots i))) k) + owns kind every (record o { slots = [] }) k ≤ hand k + owns kind every o k
  share k = let p = parted k in omega arith

  gone_known : Known kind (with_object b bare c) element gone
  gone_known = known_apart kind hand c b o bare forest there element gone from (last_known kind hand c element b o forest there is i o.slots i is.slots)

  abbrev left : Content
  left = ended element gone c

  abbrev lowered : Content
  lowered = cut b bare (ended element gone) c

  lowered_forest : IsForest kind (λ k. times (owned_slots element later) k + (times (owned_slots element front) k + hand k)) lowered
  lowered_forest = cut_forest kind hand (λ k. times (owned_slots element later) k + (times (owned_slots element front) k + hand k)) c b o bare (owned_of element gone) (λ d. Known kind d element gone) (ended element gone) (parts_end kind element gone) forest there refl bare_fits from share gone_known

  left_there : at left.objects b ≡ Some o
  left_there = still_there kind hand (λ k. times (owned_slots element later) k + (times (owned_slots element front) k + hand k)) c b o bare (owned_of element gone) (λ d. Known kind d element gone) (ended element gone) (parts_end kind element gone) forest there refl bare_fits from share gone_known

  left_births : left.births ≡ c.births
  left_births = cut_births kind hand (λ k. times (owned_slots element later) k + (times (owned_slots element front) k + hand k)) c b o bare (owned_of element gone) (λ d. Known kind d element gone) (ended element gone) (parts_end kind element gone) forest there refl bare_fits from share gone_known

  left_clock : left.clock ≡ c.clock
  left_clock = cut_clock kind hand (λ k. times (owned_slots element later) k + (times (owned_slots element front) k + hand k)) c b o bare (owned_of element gone) (λ d. Known kind d element gone) (ended element gone) (parts_end kind element gone) forest there refl bare_fits from share gone_known

  left_was : (m : ℕ) (x : Object) → at left.objects m ≡ Some x → at c.objects m ≡ Some x
  left_was m x at_m = was_before kind hand (λ k. times (owned_slots element later) k + (times (owned_slots element front) k + hand k)) c b o bare (owned_of element gone) (λ d. Known kind d element gone) (ended element gone) (parts_end kind element gone) forest there refl bare_fits from share gone_known m x at_m

  buffer_born : b < c.births
  buffer_born = forest.births b o there

  -- it doesn't own itself
  not_itself : (k : ℕ) → 0 < owns kind every o k → b ≢ k
  not_itself k own e = let l = forest.lower b k o o there own (sym (ap (at c.objects) e) ∙ there) in omega arith

  later_owned : (k : ℕ) → 0 < times (owned_slots element (drop (i + 1) o.slots)) k → 0 < owns kind every o k
  later_owned k more = let p = parted k in omega arith

  -- ---- the later ones are taken

  took : Took kind (λ k. times (owned_slots element front) k + hand k) (owned_slots element later) (owned_rows element (taken_slots element later lowered).0) lowered (taken_slots element later lowered).1
  took = slots_took kind element later (wide-drop (width element) (i + 1) o.slots is.wide) (λ k. times (owned_slots element front) k + hand k) lowered lowered_forest

  abbrev rows : List (List ℕ)
  rows = (taken_slots element later lowered).0

  abbrev moved : Content
  moved = (taken_slots element later lowered).1

  abbrev run_moved : Content
  run_moved = (taken_slots element later left).1

  beside : Beside (nat_eq b) left lowered
  beside = record { births = refl; clock = refl; alike = λ k e. at-set_other left.objects b k bare (told_apart b k e) }

  alike : Alike (nat_eq b) (taken_slots element later left) (taken_slots element later lowered)
  alike = taken_slots_beside (nat_eq b) element later left lowered beside (λ k more. tell_apart b k (not_itself k (later_owned k more)))

  none_later : times (owned_slots element (drop (i + 1) o.slots)) b ≡ 0
  none_later = one_or_apart (times (owned_slots element (drop (i + 1) o.slots)) b) 0 (λ z. z) (λ nz. absurd (not_itself b (later_owned b (omega arith)) refl))

  run_there : at run_moved.objects b ≡ Some o
  run_there = taken_slots_stay element later left b (let e = left_births in let h = buffer_born in omega arith) none_later ∙ left_there

  bare_there : at moved.objects b ≡ Some bare
  bare_there = taken_slots_stay element later lowered b (let e = left_births in let h = buffer_born in omega arith) none_later ∙ at-set_same left.objects b b bare refl

  -- ---- the buffer has its words again

  abbrev values : List (List ℕ)
  values = map words_in front ++ rows

  abbrev filled_one : Object
  filled_one = record o { slots = filled_slots o.slots values }

  abbrev closed : Object
  closed = resized (run_moved.clock + 1) (length o.slots - 1) i filled_one

  count : length values ≡ length o.slots - 1
  count =
      let a = length-append (map words_in (take i o.slots)) rows in
      let d = length-map (take i o.slots) words_in in
      let e = length-take i o.slots in
      let f = length-taken_slots element later lowered in
      let g = length-drop (i + 1) o.slots in
      omega arith

  closed_owns : (k : ℕ) → owns kind every closed k ≤ times (owned_slots element front) k + times (owned_rows element rows) k
  closed_owns k =
      let test : ℕ → Bool = λ u. is_owner (kind.word o.ty u) && every u in
      let a = in_slots-resized (λ u. is_owner (kind.word o.ty u) && every u) o.width (run_moved.clock + 1) (length o.slots - 1) i (filled_slots o.slots values) k (omega arith) in
      let n = count in
      let d = in_slots-kept (λ u. is_owner (kind.word o.ty u) && every u) (length o.slots - 1) o.slots values k (omega arith) in
      let e = in_rows-append (λ u. is_owner (kind.word o.ty u) && every u) (map words_in (take i o.slots)) rows k in
      let f = in_rows-slots (λ u. is_owner (kind.word o.ty u) && every u) (take i o.slots) k in
      let g = slots_owned kind element o (take i o.slots) k is.kinds in
      let h = rows_owned element (λ u. is_owner (kind.word o.ty u) && every u) rows k (λ u. ap (λ x. is_owner x && true) (is.kinds u)) in
      omega arith

  moved_clock : run_moved.clock ≡ c.clock
  moved_clock = sym alike.contents.clock ∙ took.clock ∙ left_clock

  -- what comes into it is of lesser types
  low : (m : ℕ) (x : Object) → 0 < times (owned_slots element front) m + times (owned_rows element rows) m → at moved.objects m ≡ Some x → kind.rank x.ty < kind.rank o.ty
  low m x more at_m = one_or_apart (times (owned_rows element rows) m) 0
      (λ z. let p = parted m in
      let own : 0 < owns kind every o m = omega arith in
      let h = lowered_forest.held m in
      let a = alive_le kind lowered m in
      let y = lives kind lowered m (omega arith) in
      let at_l : at lowered.objects m ≡ Some x = sym (took.others m (lowered_forest.births m y.0 y.1) (omega arith)) ∙ at_m in
      forest.lower b m o x there own (left_was m x (sym (at-set_other left.objects b m bare (not_itself m own)) ∙ at_l)))
      (λ nz. let w = took.types m x (omega arith) at_m in
      let own = later_owned w.number w.among in
      let l = forest.lower b w.number o w.object there own (left_was w.number w.object (sym (at-set_other left.objects b w.number bare (not_itself w.number own)) ∙ w.there)) in
      let r = ap kind.rank w.same in
      omega arith)

  abbrev done : Content
  done = with_object b closed (ticked moved)

  done_forest : IsForest kind hand done
  done_forest =
      forest_with kind (λ k. times (owned_rows element rows) k + (times (owned_slots element front) k + hand k)) hand (ticked moved) b bare closed (forest_ticked kind (λ k. times (owned_rows element rows) k + (times (owned_slots element front) k + hand k)) moved took.forest) bare_there refl
      (record {
        lower = λ m x own below. let l = closed_owns m in low m x (omega arith) below;
        slots = subst (λ (t : ℕ). AllSince (t + 1) closed.slots) (sym alike.contents.clock)
            (since-resized c.clock (run_moved.clock + 1) o.width (length o.slots - 1) i (filled_slots o.slots values) (let e = moved_clock in omega arith)
            (since-filled c.clock o.slots values (fits_there kind hand c b o forest there).slots));
        end = let e = alike.contents.clock in omega arith;
      })
      (λ k. let l = closed_owns k in omega arith)

  -- ---- the order of a run gives the same

  abbrev run_done : Content
  run_done = with_object b closed (ticked run_moved)

  done_same : run_done ≡ done
  done_same =
      same_content done run_done (sym alike.contents.births) (ap (λ (t : ℕ). t + 1) (sym alike.contents.clock))
      (λ k. one_or_apart b k
      (λ e. at-set_same run_moved.objects b k closed e ∙ sym (at-set_same moved.objects b k closed e))
      (λ ne. at-set_other run_moved.objects b k closed ne ∙ sym (at-set_other moved.objects b k closed ne ∙ alike.contents.alike k (tell_apart b k ne))))

  run_is : closed_up b i (length o.slots) (map words_in front) (taken_slots element later left) ≡ run_done
  run_is =
      ap (λ (vs : List (List ℕ)). resized_at b (length o.slots - 1) i (filled b (map words_in front ++ vs) run_moved)) (sym alike.words)
      ∙ ap (resized_at b (length o.slots - 1) i) (filled_is run_moved b o values run_there)
      ∙ ap (λ (x : Option Object). resized_if x b (length o.slots - 1) i (with_object b filled_one run_moved)) (at-set_same run_moved.objects b b filled_one refl)
      ∙ ap (λ m. record { objects = m; births = run_moved.births; clock = run_moved.clock + 1 }) (set-set run_moved.objects b filled_one closed)

  erased_is : erased element b i c ≡ done
  erased_is =
      ap (λ (ss : List Slot). closed_up b i (length ss) (map words_in (take i ss)) (taken_slots element (drop (i + 1) ss) (ended element (words_if (slice_get ss i)) c))) (ap slots_if there)
      ∙ run_is
      ∙ done_same

  -- the buffer, and what comes back into it
  abbrev again : List ℕ
  again = b ∷ owned_slots element front ++ owned_rows element rows

  pub erased_forest : IsForest kind hand (erased element b i c)
  erased_forest = subst (IsForest kind hand) (sym erased_is) done_forest

  -- ---- all fits

  -- what the buffer owned and is there was there, and is as it was
  moved_was : (m : ℕ) (x : Object) → 0 < owns kind every o m → at moved.objects m ≡ Some x → at c.objects m ≡ Some x
  moved_was m x own is_there =
      let l = owned_held kind c b m o there in
      let h = forest.held m in
      let y = lives kind c m (omega arith) in
      let born = forest.births m y.0 y.1 in
      let at_l : at lowered.objects m ≡ Some x = ⊎_elim (λ a. sym a ∙ is_there) (λ g. absurd (none_some (sym g ∙ is_there))) (slots_at_all element later lowered m (let e = left_births in omega arith)) in
      left_was m x (sym (at-set_other left.objects b m bare (not_itself m own)) ∙ at_l)

  slot_owned : (u m : ℕ) → kind_in element u ≡ Owner → Among o.slots u m → 0 < owns kind every o m
  slot_owned u m k e = let a = among_counted element o.slots u m k e in let s = slots_owned kind element o o.slots m is.kinds in omega arith

  -- an owner of a slot that stays
  slot_fits : AreFit kind c → (u m : ℕ) (x : Object) → kind.word o.ty u ≡ Owner → Among o.slots u m → at moved.objects m ≡ Some x → kind.owned o.ty u ≡ Some x.ty
  slot_fits fit u m x k e is_there =
      let r = from_among o.slots u m e in
      (fit b o there).owned r.0 u m x k r.1 (moved_was m x (slot_owned u m (sym (is.kinds u) ∙ k) e) is_there)

  lowered_fit : AreFit kind c → AreFit kind lowered
  lowered_fit fit =
      cut_by kind hand (λ k. times (owned_slots element later) k + (times (owned_slots element front) k + hand k)) c b o bare (owned_of element gone) (λ d. Known kind d element gone) (ended element gone) (parts_end kind element gone) forest there refl bare_fits from share gone_known
      (AreFit kind) (fit_without_all kind)
      (fit_with kind c b o bare there refl fit (record { owned = λ j u m q k e at_m. absurd (omega (arith, e)); width = (fit b o there).width; slots = tt }))

  later_flat : AreFit kind c → ((u : ℕ) → kind.owned o.ty u ≡ owned_type element u) → SlotsFlat lowered element later
  later_flat fit names u m q k e at_m =
      let here = among-drop (i + 1) o.slots u m e in
      let r = from_among o.slots u m here in
      sym (names u)
      ∙ (fit b o there).owned r.0 u m q (is.kinds u ∙ k) r.1 (left_was m q (sym (at-set_other left.objects b m bare (not_itself m (slot_owned u m k here))) ∙ at_m))

  pub erased_fit : AreFit kind c → ((u : ℕ) → kind.owned o.ty u ≡ owned_type element u) → AreFit kind (erased element b i c)
  erased_fit fit names =
      let rows_fit = slots_fit kind element later (wide-drop (width element) (i + 1) o.slots is.wide) (λ k. times (owned_slots element front) k + hand k) lowered lowered_forest (lowered_fit fit) (later_flat fit names) in
      let h = fit b o there in
      let front_long : AllLong o.width (map words_in front) = slots_long o.width front (wide-take o.width i o.slots h.slots) in
      let long : AllLong o.width values = long-append o.width (map words_in front) rows front_long (subst (λ n. AllLong n rows) (sym is.words) rows_fit.2) in
      subst (AreFit kind) (sym erased_is)
      (fit_with kind (ticked moved) b bare closed bare_there refl (fit_ticked kind moved rows_fit.0)
      (record {
        owned = λ j u m q k e at_m. ⊎_elim
            (λ a. slot_fits fit u m q k a at_m)
            (λ r. ⊎_elim
            (λ a. slot_fits fit u m q k (among-take i o.slots u m (rows-slots front u m a)) at_m)
            (λ a. names u ∙ rows_fit.1 u m q (sym (is.kinds u) ∙ k) a at_m)
            (rows-append (map words_in front) rows u m r))
            (among-filled o.slots values u m (among-resized o.width (run_moved.clock + 1) (length o.slots - 1) i (filled_slots o.slots values) u m (to_among closed.slots j u m e)));
        width = h.width;
        slots = wide-resized o.width (run_moved.clock + 1) (length o.slots - 1) i (filled_slots o.slots values) (wide-filled o.width o.slots values h.slots long);
      }))

  pub erased_touches : (t : Foot) → Beneath kind c t b → Touches kind t c (erased element b i c)
  erased_touches t beneath =
      subst (Touches kind t c) (sym erased_is)
      (touches_then kind hand c forest t (and_all t again) t moved done
      (touches_then kind hand c forest t (and_all t (owned_slots element later)) t lowered moved first
      (took.touches (and_all t (owned_slots element later)) (λ k more. whole k (is_positive (times (owned_slots element later) k) more)))
      (within_self kind c t) (within_all kind c t (owned_slots element later) (λ k more h. owned_low k (later_owned k more))))
      third (within_self kind c t)
      (within_all kind c t again (λ k more h. one_or_apart (times (b ∷ []) k) 0
      (λ z. let a = times-append (owned_slots element front) (owned_rows element rows) k in
      let p = parted k in
      one_or_apart (times (owned_rows element rows) k) 0
      (λ y. owned_low k (omega arith))
      (λ ny. owned_low k (later_owned k (took.old k (omega arith) (let e = left_births in omega arith)))))
      (λ nz. subst (Beneath kind c t) (one_there b k (omega arith)) beneath))))
    where
      owned_low : (k : ℕ) → 0 < owns kind every o k → Beneath kind c t k
      owned_low k own = under b k beneath (subst (λ (x : Option Object). 0 < owns_if kind every x k) (sym there) own)

      first : Touches kind t c lowered
      first =
          cut_touches kind hand (λ k. times (owned_slots element later) k + (times (owned_slots element front) k + hand k)) c b o bare (owned_of element gone) (λ d. Known kind d element gone) (ended element gone) (parts_end kind element gone) forest there refl bare_fits from share gone_known
          t (inl beneath) (λ n more. owned_low n (from n more)) (λ g k below own. absurd (omega arith))

      third : Touches kind (and_all t again) moved done
      third =
          touches_then kind (λ k. times (owned_rows element rows) k + (times (owned_slots element front) k + hand k)) moved took.forest (and_all t again) (and_all t again) (and_all t again) (ticked moved) done
          (touches_ticked kind (and_all t again) moved)
          (touches_with kind (and_all t again) (ticked moved) b bare closed bare_there
          (inl (whole b (is_positive (times again b) (let s = one_same b b refl in omega arith))))
          (λ g k below own.
          let le = owns_le kind g every (Some closed) k (λ u h. refl) in
          let l = closed_owns k in
          let a = times-append (owned_slots element front) (owned_rows element rows) k in
          inl (whole k (is_positive (times again k) (omega arith)))))
          (within_self kind moved (and_all t again)) (within_self kind moved (and_all t again))
