-- A vector goes over to a fresh buffer: the elements move there, and the old buffer ends.
use Rattle.std.proofs.Common.{◌≡◌, ◌≢◌, ℕ, ◌+◌, ◌≤◌, ◌<◌, Bool, true, false, List, [], ◌∷◌, length, Option, Some, None, refl, sym, ap, subst, ◌∙◌, arith, inl}
use Rattle.std.specs.Prelude.{◌&&◌, ◌||◌, nat_eq}
use Rattle.life_types.specs.declared.ty.TyId.{TyId}
use Rattle.life_store.specs.Cells.{at, at-set_same, at-set_other, at-unset_same, at-unset_other}
use Rattle.life_store.specs.Content.{Object, Content, with_object, without}
use Rattle.life_store.specs.Edits.{filled_by, owned_at, owns as takes}
use Rattle.life_store.specs.Held.{filled, owner_word}
use Rattle.life_store.specs.Owners.{taken_slots}
use Rattle.life_store.specs.Parts.{Parts, Vector, width}
use Rattle.life_store.specs.Places.{Spot, spot_words}
use Rattle.life_store.proofs.MapLemmas.{one_or_apart}
use Rattle.life_forest.specs.Kinds.{Kinds}
use Rattle.life_store.specs.Kinds.{is_owner, kind_in}
use Rattle.life_forest.specs.Owned.{every, times, owns, owns_if, owns_at}
use Rattle.life_forest.specs.Forest.{IsForest, Foot, Beneath, whole, under, Touches}
use Rattle.life_forest.specs.Typed.{AreFit}
use Rattle.life_forest.specs.Values.{IsNamed, listed, owned_of, owned_rows, owned_slots, IsLaid, IsOf, Known}
use Rattle.life_forest.proofs.Below.{is_positive, lives}
use Rattle.life_forest.proofs.Beside.{Alike, Beside, beside_filled, same_content, length-taken_slots, taken_slots_beside, taken_slots_stay}
use Rattle.life_forest.proofs.ByParts.{owned_is}
use Rattle.life_forest.proofs.Coming.{came_touches}
use Rattle.life_forest.proofs.Consuming.{tell_apart, told_apart}
use Rattle.life_forest.proofs.Copying.{Sized}
use Rattle.life_forest.proofs.Counting.{one_same, one_there, true_false}
use Rattle.life_forest.proofs.Feet.{and_all, within_self, within_all}
use Rattle.life_forest.proofs.Filling.{filled_forest, filled_is, filled_other, filled_owns, filled_there, full}
use Rattle.life_forest.proofs.Lying.{LiesAt, Covers, counted_among, counted_old, forest_value, lies_in, spot_words_in, touches_value, value_beneath}
use Rattle.life_forest.proofs.Puts.{puts_in, wrote_is}
use Rattle.life_forest.proofs.Sparing.{owns_le}
use Rattle.life_forest.proofs.Single.{forest_without, touches_with}
use Rattle.life_forest.proofs.Steps.{owned_held, times-owned_list, touches_then, touches_without_all}
use Rattle.life_forest.proofs.Taking.{Took, slots_took}
use Rattle.life_forest.proofs.Among.{from_among}
use Rattle.life_forest.proofs.Fitting.{OwnsAlike, fit_without_all, fit_wrote}
use Rattle.life_forest.proofs.FittingBirths.{flat_owner}
use Rattle.life_forest.proofs.FittingRows.{fit_filled}
use Rattle.life_forest.proofs.FittingTaken.{SlotsFlat, among_counted, slots_fit}
use Rattle.life_forest.proofs.Widths.{AllLong}

-- two numbers
abbrev pub either : ℕ → ℕ → ℕ → Bool
either n b k = nat_eq n k || nat_eq b k

neither : (n b k : ℕ) → n ≢ k → b ≢ k → (nat_eq n k || nat_eq b k) ≡ false
neither n b k x y = ap (λ (a : Bool). a || nat_eq b k) (tell_apart n k x) ∙ tell_apart b k y

is_neither : (n b k : ℕ) → (nat_eq n k || nat_eq b k) ≡ false → (n ≢ k) × (b ≢ k)
is_neither n b k e = go (nat_eq n k) (nat_eq b k) refl refl e
  where
    go : (x y : Bool) → nat_eq n k ≡ x → nat_eq b k ≡ y → (x || y) ≡ false → (n ≢ k) × (b ≢ k)
    go true y p q h = absurd (true_false h)
    go false true p q h = absurd (true_false h)
    go false false p q h = (told_apart n k p, told_apart b k q)

owned_born : (kind : Kinds) (hand : ℕ → ℕ) (c : Content) → IsForest kind hand c → (n k : ℕ) (o : Object) → at c.objects n ≡ Some o → 0 < owns kind every o k → k < c.births
owned_born kind hand c forest n k o there own =
    let l = owned_held kind c n k o there in
    let h = forest.held k in
    let x = lives kind c k (omega arith) in
    forest.births k x.0 x.1

-- a vector at the spot has the buffer, whose elements are known; its type is a lesser one, whose words are those of the elements
pub record OwnsBuffer (kind : Kinds) (ty : TyId) (element : Parts) (spot : Spot) (b : ℕ) (c : Content) (o ob : Object) : Type 0 where
  pub lies : LiesAt kind c spot (Vector ty element) o
  pub owned : owned_at c spot ≡ Some b
  pub there : at c.objects b ≡ Some ob
  pub is : IsOf kind element ob (Known kind c element)
  pub same : ob.ty ≡ ty
  pub lower : kind.rank ty < kind.rank o.ty
  pub laid : IsLaid kind ty element

module _ (kind : Kinds) (ty : TyId) (element : Parts) (spot : Spot) (b : ℕ) (hand : ℕ → ℕ) (c : Content) (o ob : Object) (forest : IsForest kind hand c) (own : OwnsBuffer kind ty element spot b c o ob) where
  lies : LiesAt kind c spot (Vector ty element) o
  lies = own.lies

  there : at c.objects b ≡ Some ob
  there = own.there

  is : IsOf kind element ob (Known kind c element)
  is = own.is

  old_is : owned_of (Vector ty element) (spot_words c spot 1) ≡ b ∷ []
  old_is = ap listed own.owned

  holder_born : spot.object < c.births
  holder_born = forest.births spot.object o lies.there

  buffer_born : b < c.births
  buffer_born = forest.births b ob there

  pub holder_owns : 0 < owns kind every o b
  holder_owns =
      let a = counted_old kind c spot (Vector ty element) o lies b in
      let l = counted_among (λ u. is_owner (kind.word o.ty u) && every u) o.slots spot.index spot.word 1 b lies.words in
      let x = ap (λ xs. times xs b) old_is in
      let i = one_same b b refl in
      omega arith

  -- the holder owns the buffer, so it isn't one with it
  pub apart : spot.object ≢ b
  apart e = let h = forest.lower spot.object b o o lies.there holder_owns (sym (ap (at c.objects) e) ∙ lies.there) in omega arith

  elements_owned : (k : ℕ) → owns kind every ob k ≡ times (owned_slots element ob.slots) k
  elements_owned k = sym (times-owned_list kind (Some ob) k) ∙ ap (λ xs. times xs k) (owned_is kind element ob is.kinds)

  -- what the elements own is neither of them
  elements_apart : (k : ℕ) → 0 < times (owned_slots element ob.slots) k → (spot.object ≢ k) × (b ≢ k)
  elements_apart k lt =
      let e = elements_owned k in
      let own : 0 < owns kind every ob k = omega arith in
      let up = forest.lower spot.object b o ob lies.there holder_owns there in (
        λ s. let l = forest.lower b k ob o there own (sym (ap (at c.objects) s) ∙ lies.there) in absurd (omega arith),
        λ s. let l = forest.lower b k ob ob there own (sym (ap (at c.objects) s) ∙ there) in absurd (omega arith),
      )

  -- ---- what is touched: the buffer, and what its elements own

  pub buffer_beneath : (t : Foot) → Covers kind t spot (Vector ty element) → Beneath kind c t b
  buffer_beneath t covers =
      let e = ap (λ xs. times xs b) old_is in
      let i = one_same b b refl in
      value_beneath kind c spot (Vector ty element) o lies t covers b (omega arith)

  elements_beneath : (t : Foot) → Covers kind t spot (Vector ty element) → (k : ℕ) → 0 < times (owned_slots element ob.slots) k → Beneath kind c t k
  elements_beneath t covers k lt =
      let e = elements_owned k in
      under b k (buffer_beneath t covers) (subst (λ (x : Option Object). 0 < owns_if kind every x k) (sym there) (omega arith))

  module _ (size : ℕ) (f : ℕ × Content) (sized : Sized kind (kind.rank o.ty) hand ty (width element) size c f) where
    kinds : (u : ℕ) → kind.word sized.object.ty u ≡ kind_in element u
    kinds u = ap (λ t. kind.word t u) sized.type ∙ own.laid u

    fresh_born : f.0 < f.1.births
    fresh_born = sized.came.forest.births f.0 sized.object sized.there

    later : c.births ≤ f.1.births
    later = sized.came.births

    new_holder : f.0 ≢ spot.object
    new_holder e = let n = sized.number in let h = holder_born in omega arith

    new_buffer : f.0 ≢ b
    new_buffer e = let n = sized.number in let h = buffer_born in omega arith

    holder_there : at f.1.objects spot.object ≡ Some o
    holder_there = sized.came.same spot.object holder_born ∙ lies.there

    buffer_there : at f.1.objects b ≡ Some ob
    buffer_there = sized.came.same b buffer_born ∙ there

    -- ---- in another order: the owner takes the fresh buffer first, and the old one is no more

    lies_now : LiesAt kind f.1 spot (Vector ty element) o
    lies_now = lies_in kind c spot (Vector ty element) o lies f.1 holder_there

    abbrev over : Content
    over = takes spot f.0 f.1

    abbrev q : Object
    q = record o { slots = puts_in spot.index spot.word (owner_word (Some f.0) ∷ []) o.slots }

    over_is : takes spot f.0 f.1 ≡ with_object spot.object q f.1
    over_is = wrote_is f.1 spot.object spot.index spot.word (owner_word (Some f.0) ∷ []) o holder_there

    old_there : (k : ℕ) → times (owned_of (Vector ty element) (spot_words f.1 spot 1)) k ≡ times (b ∷ []) k
    old_there k = ap (λ (xs : List ℕ). times (owned_of (Vector ty element) xs) k) (spot_words_in kind c spot (Vector ty element) o lies f.1 holder_there) ∙ ap (λ xs. times xs k) old_is

    over_forest : IsForest kind (λ k. times (b ∷ []) k + hand k) over
    over_forest =
        forest_value kind f.1 spot (Vector ty element) o lies_now (owner_word (Some f.0) ∷ []) refl (λ k. times (f.0 ∷ []) k + hand k) (λ k. times (b ∷ []) k + hand k) sized.came.forest
        (λ m x lt below. sized.came.low m x lt below)
        (λ k. let e = old_there k in omega arith)

    buffer_over : at over.objects b ≡ Some ob
    buffer_over = ap (λ (x : Content). at x.objects b) over_is ∙ at-set_other f.1.objects spot.object b q apart ∙ buffer_there

    abbrev bare : Content
    bare = without b over

    bare_forest : IsForest kind (λ k. times (owned_slots element ob.slots) k + hand k) bare
    bare_forest =
        forest_without kind (λ k. times (b ∷ []) k + hand k) (λ k. times (owned_slots element ob.slots) k + hand k) over b over_forest
        (λ k. let e = elements_owned k in let a : owns_at kind over every b k ≡ owns kind every ob k = ap (λ (x : Option Object). owns_if kind every x k) buffer_over in omega arith)

    took : Took kind hand (owned_slots element ob.slots) (owned_rows element (taken_slots element ob.slots bare).0) bare (taken_slots element ob.slots bare).1
    took = slots_took kind element ob.slots is.wide hand bare bare_forest

    abbrev pub rows : List (List ℕ)
    rows = (taken_slots element ob.slots bare).0

    abbrev pub moved : Content
    moved = (taken_slots element ob.slots bare).1

    over_births : (takes spot f.0 f.1).births ≡ f.1.births
    over_births = ap (λ (x : Content). x.births) over_is

    over_clock : (takes spot f.0 f.1).clock ≡ f.1.clock
    over_clock = ap (λ (x : Content). x.clock) over_is

    not_taken : (k : ℕ) → (0 < times (owned_slots element ob.slots) k → ⊥) → times (owned_slots element ob.slots) k ≡ 0
    not_taken k h = one_or_apart (times (owned_slots element ob.slots) k) 0 (λ z. z) (λ nz. absurd (h (omega arith)))

    bare_at : (k : ℕ) → spot.object ≢ k → b ≢ k → at bare.objects k ≡ at f.1.objects k
    bare_at k x y = at-unset_other over.objects b k y ∙ ap (λ (d : Content). at d.objects k) over_is ∙ at-set_other f.1.objects spot.object k q x

    -- the fresh buffer isn't among what is taken
    fresh_apart : 0 < times (owned_slots element ob.slots) f.0 → ⊥
    fresh_apart lt = let e = elements_owned f.0 in let n = sized.number in let h = owned_born kind hand c forest b f.0 ob there (omega arith) in omega arith

    pub fresh_moved : at moved.objects f.0 ≡ Some sized.object
    fresh_moved =
        taken_slots_stay element ob.slots bare f.0 (let e = over_births in let l = fresh_born in omega arith) (not_taken f.0 fresh_apart)
        ∙ bare_at f.0 (λ e. new_holder (sym e)) (λ e. new_buffer (sym e))
        ∙ sized.there

    abbrev pub grown_content : Content
    grown_content = filled f.0 rows moved

    rank_low : (m : ℕ) (x : Object) → 0 < times (owned_rows element rows) m → at moved.objects m ≡ Some x → kind.rank x.ty < kind.rank sized.object.ty
    rank_low m x lt at_m =
        let w = took.types m x lt at_m in
        let more = w.among in
        let e = elements_owned w.number in
        let ne = elements_apart w.number more in
        let was : at f.1.objects w.number ≡ Some w.object = sym (bare_at w.number ne.0 ne.1) ∙ w.there in
        let born = owned_born kind hand c forest b w.number ob there (omega arith) in
        let l = forest.lower b w.number ob w.object there (omega arith) (sym (sized.came.same w.number born) ∙ was) in
        let r = ap kind.rank w.same in
        let s = ap kind.rank (own.same ∙ sym sized.type) in
        omega arith

    pub grown_forest : IsForest kind hand grown_content
    grown_forest = filled_forest moved f.0 sized.object rows fresh_moved kind element kinds sized.blank hand took.forest rank_low

    -- ---- the order of a run gives the same

    beside_start : Beside (either spot.object b) f.1 bare
    beside_start = record { births = over_births; clock = over_clock; alike = λ k e. let n = is_neither spot.object b k e in bare_at k n.0 n.1 }

    alike : Alike (either spot.object b) (taken_slots element ob.slots f.1) (taken_slots element ob.slots bare)
    alike = taken_slots_beside (either spot.object b) element ob.slots f.1 bare beside_start (λ k lt. let n = elements_apart k lt in neither spot.object b k n.0 n.1)

    abbrev run_moved : Content
    run_moved = (taken_slots element ob.slots f.1).1

    abbrev run_filled : Content
    run_filled = filled f.0 rows run_moved

    beside_filled_both : Beside (either spot.object b) run_filled grown_content
    beside_filled_both = beside_filled (either spot.object b) f.0 rows run_moved moved (neither spot.object b f.0 (λ e. new_holder (sym e)) (λ e. new_buffer (sym e))) alike.contents

    abbrev run_content : Content
    run_content = without b run_filled

    fresh_run : at run_moved.objects f.0 ≡ Some sized.object
    fresh_run = taken_slots_stay element ob.slots f.1 f.0 fresh_born (not_taken f.0 fresh_apart) ∙ sized.there

    pub run_holder : at run_content.objects spot.object ≡ Some o
    run_holder =
        at-unset_other run_filled.objects b spot.object (λ e. apart (sym e))
        ∙ filled_other run_moved f.0 sized.object rows fresh_run spot.object new_holder
        ∙ taken_slots_stay element ob.slots f.1 spot.object (let h = holder_born in let l = later in omega arith) (not_taken spot.object (λ lt. (elements_apart spot.object lt).0 refl))
        ∙ holder_there

    grown_holder : at grown_content.objects spot.object ≡ Some q
    grown_holder =
        filled_other moved f.0 sized.object rows fresh_moved spot.object new_holder
        ∙ taken_slots_stay element ob.slots bare spot.object (let h = holder_born in let l = later in let e = over_births in omega arith) (not_taken spot.object (λ lt. (elements_apart spot.object lt).0 refl))
        ∙ at-unset_other over.objects b spot.object (λ e. apart (sym e))
        ∙ ap (λ (x : Content). at x.objects spot.object) over_is
        ∙ at-set_same f.1.objects spot.object spot.object q refl

    grown_gone : at grown_content.objects b ≡ None
    grown_gone =
        filled_other moved f.0 sized.object rows fresh_moved b new_buffer
        ∙ taken_slots_stay element ob.slots bare b (let h = buffer_born in let l = later in let e = over_births in omega arith) (not_taken b (λ lt. (elements_apart b lt).1 refl))
        ∙ at-unset_same over.objects b b refl

    pub run_is : takes spot f.0 run_content ≡ grown_content
    run_is =
        wrote_is run_content spot.object spot.index spot.word (owner_word (Some f.0) ∷ []) o run_holder
        ∙ same_content grown_content (with_object spot.object q run_content) (sym beside_filled_both.births) (sym beside_filled_both.clock)
        (λ k. one_or_apart spot.object k
        (λ e. at-set_same run_content.objects spot.object k q e ∙ sym (ap (at grown_content.objects) (sym e) ∙ grown_holder))
        (λ ne. at-set_other run_content.objects spot.object k q ne
        ∙ one_or_apart b k
        (λ e. at-unset_same run_filled.objects b k e ∙ sym (ap (at grown_content.objects) (sym e) ∙ grown_gone))
        (λ nb. at-unset_other run_filled.objects b k nb ∙ sym (beside_filled_both.alike k (neither spot.object b k ne nb)))))

    pub run_rows : without b (filled_by f.0 (taken_slots element ob.slots f.1)) ≡ run_content
    run_rows = ap (λ (vs : List (List ℕ)). without b (filled f.0 vs run_moved)) (sym alike.words)

    new_within : (t : Foot) (n : ℕ) → 0 < times (f.0 ∷ []) n → n < c.births → Beneath kind c t n
    new_within t n lt h = let e = one_there f.0 n (omega arith) in let k = sized.number in absurd (omega arith)

    over_touches : (t : Foot) → Covers kind t spot (Vector ty element) → Touches kind t c over
    over_touches t covers =
        touches_then kind hand c forest t (and_all t (f.0 ∷ [])) t f.1 over
        (came_touches kind t (kind.rank o.ty) hand (f.0 ∷ []) c f.1 sized.came)
        (touches_value kind f.1 spot (Vector ty element) o lies_now (owner_word (Some f.0) ∷ []) refl (and_all t (f.0 ∷ [])) covers (λ k lt own. whole k (is_positive (times (f.0 ∷ []) k) own)))
        (within_self kind c t) (within_all kind c t (f.0 ∷ []) (new_within t))

    moved_touches : (t : Foot) → Covers kind t spot (Vector ty element) → Touches kind t c moved
    moved_touches t covers =
        touches_then kind hand c forest t (and_all t (owned_slots element ob.slots)) t bare moved
        (touches_then kind hand c forest t (and_all t (b ∷ [])) t over bare (over_touches t covers)
        (touches_without_all kind (and_all t (b ∷ [])) over (b ∷ []) (λ k lt. whole k (is_positive (times (b ∷ []) k) lt)))
        (within_self kind c t) (within_all kind c t (b ∷ []) (λ n lt h. subst (Beneath kind c t) (one_there b n (omega arith)) (buffer_beneath t covers))))
        (took.touches (and_all t (owned_slots element ob.slots)) (λ k lt. whole k (is_positive (times (owned_slots element ob.slots) k) lt)))
        (within_self kind c t) (within_all kind c t (owned_slots element ob.slots) (λ n lt h. elements_beneath t covers n lt))

    -- the fresh buffer, and what comes into it
    abbrev filling : List ℕ
    filling = f.0 ∷ owned_rows element rows

    pub grown_touches : (t : Foot) → Covers kind t spot (Vector ty element) → Touches kind t c grown_content
    grown_touches t covers =
        touches_then kind hand c forest t (and_all t filling) t moved grown_content (moved_touches t covers)
        (subst (Touches kind (and_all t filling) moved) (sym (filled_is moved f.0 sized.object rows fresh_moved))
        (touches_with kind (and_all t filling) moved f.0 sized.object (full moved f.0 sized.object rows fresh_moved) fresh_moved
        (inl (whole f.0 (is_positive (times filling f.0) (let i = one_same f.0 f.0 refl in omega arith))))
        (λ g k lt own. let le = owns_le kind g every (Some (full moved f.0 sized.object rows fresh_moved)) k (λ u h. refl) in
        let l = filled_owns moved f.0 sized.object rows fresh_moved kind element kinds sized.blank k in
        inl (whole k (is_positive (times filling k) (omega arith))))))
        (within_self kind c t)
        (within_all kind c t filling (λ n lt h. one_or_apart (times (f.0 ∷ []) n) 0
        (λ z. elements_beneath t covers n (took.old n (omega arith) (let l = later in let e = over_births in omega arith)))
        (λ nz. new_within t n (omega arith) h)))

    pub fresh_grown : at grown_content.objects f.0 ≡ Some (full moved f.0 sized.object rows fresh_moved)
    fresh_grown = filled_there moved f.0 sized.object rows fresh_moved

    -- what is neither of the two, nor owned by the old buffer, stays
    pub grown_others : (k : ℕ) → k < c.births → spot.object ≢ k → b ≢ k → owns kind every ob k ≡ 0 → at grown_content.objects k ≡ at c.objects k
    grown_others k lt x y z =
        let l = later in
        let n = sized.number in
        filled_other moved f.0 sized.object rows fresh_moved k (λ e. absurd (omega (arith, e, lt, n)))
        ∙ taken_slots_stay element ob.slots bare k (let e = over_births in omega arith) (let e = elements_owned k in omega arith)
        ∙ bare_at k x y
        ∙ sized.came.same k lt

    pub rows_count : length rows ≡ length ob.slots
    rows_count = length-taken_slots element ob.slots bare

    -- ---- all fits

    elements_flat : AreFit kind c → IsNamed kind ty element → SlotsFlat bare element ob.slots
    elements_flat fit named u m q k e is_there =
        let more = among_counted element ob.slots u m k e in
        let ne = elements_apart m more in
        let born = owned_born kind hand c forest b m ob there (let a = elements_owned m in omega arith) in
        let r = from_among ob.slots u m e in
        sym (named.1 u)
        ∙ ap (λ t. kind.owned t u) (sym own.same)
        ∙ (fit b ob there).owned r.0 u m q (is.kinds u ∙ k) r.1 (sym (sized.came.same m born) ∙ sym (bare_at m ne.0 ne.1) ∙ is_there)

    pub grown_fit : AreFit kind c → AreFit kind f.1 → IsNamed kind ty element → OwnsAlike kind o spot (Vector ty element) → AreFit kind grown_content
    grown_fit fit fresh_fits named alike_owner =
        let width_is : sized.object.width ≡ width element = (fresh_fits f.0 sized.object sized.there).width ∙ ap kind.width sized.type ∙ named.0 in
        let bare_fits : AreFit kind bare =
        fit_without_all kind (b ∷ []) over
        (fit_wrote kind f.1 spot (Vector ty element) o lies_now alike_owner (owner_word (Some f.0) ∷ []) refl (flat_owner f.1 (Vector ty element) ty f.0 sized.object (λ u. refl) sized.there sized.type) fresh_fits) in
        let moved_fits = slots_fit kind element ob.slots is.wide hand bare bare_forest bare_fits (elements_flat fit named) in
        fit_filled kind moved f.0 sized.object element rows fresh_moved kinds (λ u. ap (λ t. kind.owned t u) sized.type ∙ named.1 u) moved_fits.1 (subst (λ n. AllLong n rows) (sym width_is) moved_fits.2) moved_fits.0
