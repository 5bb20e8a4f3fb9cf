-- Objects of one slot: they are born with a value, and end with it.
use Rattle.std.proofs.Common.{◌≡◌, ◌≢◌, ℕ, ◌+◌, ◌≤◌, ◌<◌, List, [], ◌∷◌, length, Option, Some, refl, sym, ap, subst, ◌∙◌, arith, inl}
use Rattle.std.specs.Prelude.{◌&&◌, slice_get}
use Rattle.life_types.specs.declared.ty.TyId.{TyId}
use Rattle.life_store.specs.Cells.{at, at-set_same, at-set_other}
use Rattle.life_store.specs.Content.{Slot, Object, Content, with_object, without}
use Rattle.life_store.specs.Effects.{Setting, Attempt, Got, then_get}
use Rattle.life_store.specs.Held.{slot_words, slots_if, words_if, wrote}
use Rattle.life_store.specs.Owners.{Words, ended, ended_object, object_with, sized_birth}
use Rattle.life_store.specs.Parts.{Parts, width}
use Rattle.life_store.specs.Places.{Spot}
use Rattle.life_store.proofs.CellLemmas.{some_same}
use Rattle.life_store.proofs.MapLemmas.{one_or_apart}
use Rattle.life_forest.specs.Kinds.{Kinds}
use Rattle.life_store.specs.Kinds.{is_owner}
use Rattle.life_forest.specs.Owned.{every, times, owns, owns_if, owns_at}
use Rattle.life_forest.specs.Forest.{IsForest, Foot, Beneath, whole, under, Touches}
use Rattle.life_forest.specs.Values.{AllKnown, IsLaid, IsNamed, IsOf, Known, owned_of}
use Rattle.life_forest.proofs.Below.{is_positive}
use Rattle.life_forest.proofs.ByParts.{parts_end}
use Rattle.life_forest.proofs.Coming.{Came, CameWords, IfGot, below_or, got_then}
use Rattle.life_forest.proofs.Consuming.{value_owned}
use Rattle.life_forest.proofs.Copying.{Sized, sized_birth_came}
use Rattle.life_forest.proofs.Counting.{one_there}
use Rattle.life_forest.proofs.Cuts.{cut, cut_by, cut_forest, cut_touches}
use Rattle.life_forest.proofs.Feet.{and_all, within_self, within_all}
use Rattle.life_forest.proofs.Knowing.{known_apart}
use Rattle.life_forest.proofs.Lying.{LiesAt, forest_value, value_more}
use Rattle.life_forest.proofs.Maps.{unset_set}
use Rattle.life_forest.proofs.Puts.{puts_in, wrote_is}
use Rattle.life_forest.proofs.Single.{Fits, fits_there, forest_without}
use Rattle.life_forest.proofs.Steps.{touches_then, touches_without_all}
use Rattle.life_forest.proofs.Widths.{are_words}
use Rattle.life_forest.specs.Typed.{AreFit}
use Rattle.life_forest.proofs.Fitting.{fit_with, fit_without_all, fit_wrote}
use Rattle.life_forest.proofs.FittingBirths.{FitWords, got_both}
use Rattle.life_forest.proofs.FittingCopies.{sized_fit}

-- the first slot of an object, from its first word on
abbrev pub first_of : ℕ → Spot
first_of n = record { object = n; index = 0; word = 0 }

nothing_before : (u : ℕ) → 0 + u ≡ u
nothing_before u = omega arith

module _ (kind : Kinds) (ty : TyId) (p : Parts) (laid : IsLaid kind ty p) where
  -- ---- births

  module _ (bound : ℕ) (hand : ℕ → ℕ) (c : Content) (lt : kind.rank ty < bound) (b : ℕ × Content) (sized : Sized kind bound hand ty (width p) 1 c b) where
    -- the value lies in the slot of the new object, wherever that is left
    lies_new : (d : Content) → at d.objects b.0 ≡ Some sized.object → LiesAt kind d (first_of b.0) p sized.object
    lies_new d there = record {
      there = there;
      words = are_words (width p) 0 sized.object.slots sized.wide (let n = sized.count in omega arith);
      kinds = λ u small. ap (kind.word sized.object.ty) (nothing_before u) ∙ ap (λ t. kind.word t u) sized.type ∙ laid u;
    }

    rank_is : kind.rank sized.object.ty ≡ kind.rank ty
    rank_is = ap kind.rank sized.type

    number_born : b.0 < b.1.births
    number_born = sized.came.forest.births b.0 sized.object sized.there

    module _ (v : Words) (inner : CameWords kind (kind.rank ty) (λ k. times (b.0 ∷ []) k + hand k) p b.1 v) where
      there_then : at v.1.objects b.0 ≡ Some sized.object
      there_then = inner.0.same b.0 number_born ∙ sized.there

      abbrev new : Object
      new = record (sized.object) { slots = puts_in 0 0 v.0 sized.object.slots }

      is_new : wrote b.0 0 0 v.0 v.1 ≡ with_object b.0 new v.1
      is_new = wrote_is v.1 b.0 0 0 v.0 sized.object there_then

      new_there : (k : ℕ) → b.0 ≡ k → at (wrote b.0 0 0 v.0 v.1).objects k ≡ Some new
      new_there k e = ap (λ (d : Content). at d.objects k) is_new ∙ at-set_same v.1.objects b.0 k new e

      new_other : (k : ℕ) → b.0 ≢ k → at (wrote b.0 0 0 v.0 v.1).objects k ≡ at v.1.objects k
      new_other k ne = ap (λ (d : Content). at d.objects k) is_new ∙ at-set_other v.1.objects b.0 k new ne

      new_owns : (k : ℕ) → owns kind every new k ≤ times (owned_of p v.0) k
      new_owns k =
          let a = value_more kind v.1 (first_of b.0) p sized.object (lies_new v.1 there_then) v.0 inner.1 k in
          let z = sized.blank (λ u. is_owner (kind.word sized.object.ty u) && every u) k in
          omega arith

      pub valued_came : Came kind bound hand (b.0 ∷ []) c (wrote b.0 0 0 v.0 v.1)
      valued_came = record {
        births = let e = ap (λ (d : Content). d.births) is_new in let x = sized.came.births in let y = inner.0.births in omega arith;
        clock = let e = ap (λ (d : Content). d.clock) is_new in let x = sized.came.clock in let y = inner.0.clock in omega arith;
        same = λ k below. let n = sized.number in let x = sized.came.births in
            new_other k (λ e. absurd (omega (arith, e, n, below))) ∙ inner.0.same k (omega arith) ∙ sized.came.same k below;
        own = λ m k le own. one_or_apart b.0 m
            (λ e. let w : 0 < owns kind every new k = subst (λ (o : Option Object). 0 < owns_if kind every o k) (new_there m e) own in
            let l = new_owns k in
            let f = inner.0.fresh k (omega arith) in
            let x = sized.came.births in
            omega arith)
            (λ ne. let w : 0 < owns_at kind v.1 every m k = subst (λ (o : Option Object). 0 < owns_if kind every o k) (new_other m ne) own in
            below_or m b.1.births
            (λ was. sized.came.own m k le (subst (λ (o : Option Object). 0 < owns_if kind every o k) (inner.0.same m was) w))
            (λ over. let f = inner.0.own m k over w in let x = sized.came.births in omega arith));
        fresh = sized.came.fresh;
        low = λ m q there is.
            let e = one_there b.0 m (omega arith) in
            let r = ap kind.rank (ap (λ (x : Object). x.ty) (some_same (sym (new_there m e) ∙ is))) in
            let s = rank_is in
            omega arith;
        forest =
            forest_value kind v.1 (first_of b.0) p sized.object (lies_new v.1 there_then) v.0 inner.1 (λ k. times (owned_of p v.0) k + (times (b.0 ∷ []) k + hand k)) (λ k. times (b.0 ∷ []) k + hand k) inner.0.forest
            (λ m q there is. let l = inner.0.low m q there is in let s = rank_is in omega arith)
            (λ k. omega arith);
      }

  -- it is there then, and has the type
  pub record IsThere (b : ℕ × Content) : Type 0 where
    pub object : Object
    pub there : at b.1.objects b.0 ≡ Some object
    pub type : object.ty ≡ ty

  pub object_there : (s : Setting) (bound : ℕ) (value : Content → Attempt Words) → kind.rank ty < bound
      → ((h : ℕ → ℕ) (d : Content) → IsForest kind h d → IfGot (value d) (CameWords kind (kind.rank ty) h p d)) → (hand : ℕ → ℕ) (c : Content) → IsForest kind hand c
      → IfGot (object_with s ty p value c) IsThere
  object_there s bound value lt each hand c forest =
      got_then (sized_birth s ty (width p) 1 c) (λ b. then_get (value b.1) (λ v. Got (b.0, wrote b.0 0 0 v.0 v.1))) (Sized kind bound hand ty (width p) 1 c) IsThere
      (sized_birth_came kind bound hand ty (width p) 1 c lt forest s)
      (λ b sized. got_then (value b.1) (λ v. Got (b.0, wrote b.0 0 0 v.0 v.1)) (CameWords kind (kind.rank ty) (λ k. times (b.0 ∷ []) k + hand k) p b.1) IsThere
      (each (λ k. times (b.0 ∷ []) k + hand k) b.1 sized.came.forest)
      (λ v inner. record { object = _; there = new_there bound hand c lt b sized v inner b.0 refl; type = sized.type }))

  -- an object of one slot with a value that fits
  pub object_fit : (s : Setting) (bound : ℕ) (value : Content → Attempt Words) → kind.rank ty < bound → IsNamed kind ty p
      → ((h : ℕ → ℕ) (d : Content) → IsForest kind h d → AreFit kind d → IfGot (value d) (λ v. CameWords kind (kind.rank ty) h p d v × FitWords kind p v)) → (hand : ℕ → ℕ) (c : Content) → IsForest kind hand c → AreFit kind c
      → IfGot (object_with s ty p value c) (λ b. AreFit kind b.1)
  object_fit s bound value lt named each hand c forest fit =
      got_then (sized_birth s ty (width p) 1 c) (λ b. then_get (value b.1) (λ v. Got (b.0, wrote b.0 0 0 v.0 v.1))) (λ b. Sized kind bound hand ty (width p) 1 c b × AreFit kind b.1) (λ b. AreFit kind b.1)
      (got_both (sized_birth s ty (width p) 1 c) (Sized kind bound hand ty (width p) 1 c) (λ b. AreFit kind b.1) (sized_birth_came kind bound hand ty (width p) 1 c lt forest s) (sized_fit kind s ty (width p) 1 hand c forest named.0 fit))
      (λ b h. got_then (value b.1) (λ v. Got (b.0, wrote b.0 0 0 v.0 v.1)) (λ v. CameWords kind (kind.rank ty) (λ k. times (b.0 ∷ []) k + hand k) p b.1 v × FitWords kind p v) (λ x. AreFit kind x.1)
      (each (λ k. times (b.0 ∷ []) k + hand k) b.1 h.0.came.forest h.1)
      (λ v k.
      let sized = h.0 in
      let there : at v.1.objects b.0 ≡ Some sized.object = k.0.0.same b.0 (sized.came.forest.births b.0 sized.object sized.there) ∙ sized.there in
      fit_wrote kind v.1 (first_of b.0) p sized.object (lies_new bound hand c lt b sized v.1 there)
      (λ u small. ap (kind.owned sized.object.ty) (nothing_before u) ∙ ap (λ t. kind.owned t u) sized.type ∙ named.1 u) v.0 k.0.1 k.1.1 k.1.0))

  -- an object of one slot with a value that comes to life
  pub object_came : (s : Setting) (bound : ℕ) (value : Content → Attempt Words) → kind.rank ty < bound
      → ((h : ℕ → ℕ) (d : Content) → IsForest kind h d → IfGot (value d) (CameWords kind (kind.rank ty) h p d)) → (hand : ℕ → ℕ) (c : Content) → IsForest kind hand c
      → IfGot (object_with s ty p value c) (λ b. Came kind bound hand (b.0 ∷ []) c b.1)
  object_came s bound value lt each hand c forest =
      got_then (sized_birth s ty (width p) 1 c) (λ b. then_get (value b.1) (λ v. Got (b.0, wrote b.0 0 0 v.0 v.1))) (Sized kind bound hand ty (width p) 1 c) (λ b. Came kind bound hand (b.0 ∷ []) c b.1)
      (sized_birth_came kind bound hand ty (width p) 1 c lt forest s)
      (λ b sized. got_then (value b.1) (λ v. Got (b.0, wrote b.0 0 0 v.0 v.1)) (CameWords kind (kind.rank ty) (λ k. times (b.0 ∷ []) k + hand k) p b.1) (λ x. Came kind bound hand (x.0 ∷ []) c x.1)
      (each (λ k. times (b.0 ∷ []) k + hand k) b.1 sized.came.forest)
      (λ v inner. valued_came bound hand c lt b sized v inner))

-- ---- ends

module _ (kind : Kinds) (p : Parts) (n : ℕ) (c : Content) (hand : ℕ → ℕ) (o : Object) (s : Slot) (there : at c.objects n ≡ Some o) (one_slot : o.slots ≡ s ∷ []) (is : IsOf kind p o (Known kind c p)) (wide : length s.words ≡ width p)
    (forest : IsForest kind (λ k. times (n ∷ []) k + hand k) c) where
  -- it ends as an object without words, behind what it owns
  abbrev bare : Object
  bare = record o { slots = [] }

  owned_here : (k : ℕ) → owns kind every o k ≡ times (owned_of p s.words) k
  owned_here k = value_owned kind p n c hand o s there one_slot is.kinds wide forest k

  bare_fits : Fits kind c bare
  bare_fits = let was = fits_there kind (λ k. times (n ∷ []) k + hand k) c n o forest there in record { lower = λ m q own below. absurd (omega arith); slots = tt; end = was.end }

  from : (k : ℕ) → 0 < times (owned_of p s.words) k → 0 < owns kind every o k
  from k lt = let e = owned_here k in omega arith

  share : (k : ℕ) → ((times (n ∷ []) k + hand k) + times (owned_of p s.words) k) + owns kind every bare k ≤ (times (n ∷ []) k + hand k) + owns kind every o k
  share k = let e = owned_here k in omega arith

  known_first : Known kind c p s.words
  known_first = (subst (λ (ss : List Slot). AllKnown (Known kind c p) ss) one_slot is.slots).0

  known_then : Known kind (with_object n bare c) p s.words
  known_then = known_apart kind (λ k. times (n ∷ []) k + hand k) c n o bare forest there p s.words from known_first

  abbrev middle : Content
  middle = cut n bare (ended p s.words) c

  middle_forest : IsForest kind (λ k. times (n ∷ []) k + hand k) middle
  middle_forest =
      cut_forest kind (λ k. times (n ∷ []) k + hand k) (λ k. times (n ∷ []) k + hand k) c n o bare (owned_of p s.words) (λ d. Known kind d p s.words) (ended p s.words) (parts_end kind p s.words) forest there refl bare_fits from share known_then

  words_are : slot_words c n 0 ≡ s.words
  words_are = ap (λ (x : Option Object). words_if (slice_get (slots_if x) 0)) there ∙ ap (λ (ss : List Slot). words_if (slice_get ss 0)) one_slot

  is_ended : without n middle ≡ ended_object p n c
  is_ended =
      ap (λ m. record { objects = m; births = (ended p s.words c).births; clock = (ended p s.words c).clock }) (unset_set (ended p s.words c).objects n bare)
      ∙ ap (λ (ws : List ℕ). without n (ended p ws c)) (sym words_are)

  pub object_ended_forest : IsForest kind hand (ended_object p n c)
  object_ended_forest = subst (IsForest kind hand) is_ended (forest_without kind (λ k. times (n ∷ []) k + hand k) hand middle n middle_forest (λ k. omega arith))

  pub object_ended_fit : AreFit kind c → AreFit kind (ended_object p n c)
  object_ended_fit fit =
      subst (AreFit kind) is_ended
      (fit_without_all kind (n ∷ []) middle
      (cut_by kind (λ k. times (n ∷ []) k + hand k) (λ k. times (n ∷ []) k + hand k) c n o bare (owned_of p s.words) (λ d. Known kind d p s.words) (ended p s.words) (parts_end kind p s.words) forest there refl bare_fits from share known_then
      (AreFit kind) (fit_without_all kind)
      (fit_with kind c n o bare there refl fit (record { owned = λ j u m q k e at_m. absurd (omega (arith, e)); width = (fit n o there).width; slots = tt }))))

  pub object_ended_touches : (t : Foot) → Beneath kind c t n → Touches kind t c (ended_object p n c)
  object_ended_touches t low =
      subst (Touches kind t c) is_ended
      (touches_then kind (λ k. times (n ∷ []) k + hand k) c forest t (and_all t (n ∷ [])) t middle (without n middle)
      (cut_touches kind (λ k. times (n ∷ []) k + hand k) (λ k. times (n ∷ []) k + hand k) c n o bare (owned_of p s.words) (λ d. Known kind d p s.words) (ended p s.words) (parts_end kind p s.words) forest there refl bare_fits from share known_then t
      (inl low) (λ k lt. under n k low (subst (λ (x : Option Object). 0 < owns_if kind every x k) (sym there) (from k lt))) (λ g k lt own. absurd (omega arith)))
      (touches_without_all kind (and_all t (n ∷ [])) middle (n ∷ []) (λ k lt. whole k (is_positive (times (n ∷ []) k) lt)))
      (within_self kind c t) (within_all kind c t (n ∷ []) (λ k lt h. subst (Beneath kind c t) (one_there n k (omega arith)) low)))
