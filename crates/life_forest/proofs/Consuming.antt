-- An object of one slot gives its value over: what it owned is in the hand then, and it is no more.
use Rattle.std.proofs.Common.{◌≡◌, ◌≢◌, ℕ, ◌+◌, ◌<◌, Bool, false, List, [], ◌∷◌, length, Option, Some, None, refl, sym, ap, subst, ◌∙◌, arith, ⊎_elim}
use Rattle.std.specs.Prelude.{nat_eq, slice_get}
use Rattle.std.proofs.lemmas.Bool.Decides.{eqb_tells}
use Rattle.life_store.specs.Cells.{at, at-unset_same, at-unset_other}
use Rattle.life_store.specs.Content.{Slot, Object, Content, without}
use Rattle.life_store.specs.Held.{slot_words, slots_if, words_if}
use Rattle.life_store.specs.Owners.{Words, consumed, taken}
use Rattle.life_store.specs.Parts.{Parts, width}
use Rattle.life_store.proofs.MapLemmas.{one_or_apart}
use Rattle.life_forest.specs.Kinds.{Kinds}
use Rattle.life_store.specs.Kinds.{kind_in}
use Rattle.life_forest.specs.Owned.{every, times, owns, owns_if, owns_at}
use Rattle.life_forest.specs.Forest.{IsForest, Foot, Beneath, whole, under, Touches}
use Rattle.life_forest.specs.Values.{owned_of, owned_slots}
use Rattle.life_forest.proofs.Below.{is_positive}
use Rattle.life_forest.proofs.Beside.{Beside, Alike, beside_all, beside_without, taken_beside, taken_stays}
use Rattle.life_forest.proofs.ByParts.{owned_is}
use Rattle.life_forest.proofs.Counting.{true_false, one_there, times-append}
use Rattle.life_forest.proofs.Feet.{and_all, within_self, within_all}
use Rattle.life_forest.proofs.Maps.{unset_none}
use Rattle.life_forest.proofs.Single.{forest_without}
use Rattle.life_forest.proofs.Steps.{times-owned_list, touches_then, touches_without_all}
use Rattle.life_forest.proofs.Taking.{Took, taken_took}

pub told_apart : (n k : ℕ) → nat_eq n k ≡ false → n ≢ k
told_apart n k e = ⊎_elim (λ h. absurd (true_false (sym h.0 ∙ e))) (λ h. h.1) (eqb_tells n k)

pub tell_apart : (n k : ℕ) → n ≢ k → nat_eq n k ≡ false
tell_apart n k ne = ⊎_elim (λ h. absurd (ne h.1)) (λ h. h.0) (eqb_tells n k)

-- without an object, all else is as it was
pub beside_out : (n : ℕ) (c : Content) → Beside (nat_eq n) c (without n c)
beside_out n c = record { births = refl; clock = refl; alike = λ k e. at-unset_other c.objects n k (told_apart n k e) }

-- the object's words are taken, and it is no more
abbrev given : Parts → ℕ → Content → List ℕ → Words
given p n c ws = ((taken p ws c).0, without n (taken p ws c).1)

abbrev with_content : List ℕ → Content → Words
with_content ws d = (ws, d)

-- contents that are alike but for other objects give the same
pub consumed_beside : (but : ℕ → Bool) (p : Parts) (n : ℕ) (c d : Content) → Beside but c d → but n ≡ false → ((k : ℕ) → 0 < times (owned_of p (slot_words c n 0)) k → but k ≡ false) → Alike but (consumed p n c) (consumed p n d)
consumed_beside but p n c d b in_both clear =
    let e : slot_words d n 0 ≡ slot_words c n 0 = ap (λ (x : Option Object). words_if (slice_get (slots_if x) 0)) (b.alike n in_both) in
    let a = taken_beside but p (slot_words c n 0) c d b clear in
    record {
      words = ap (λ (ws : List ℕ). (taken p ws d).0) e ∙ a.words;
      contents = subst (λ (ws : List ℕ). Beside but (without n (taken p (slot_words c n 0) c).1) (without n (taken p ws d).1)) (sym e)
          (beside_without but but n (taken p (slot_words c n 0) c).1 (taken p (slot_words c n 0) d).1 (λ k ne h. h) a.contents);
    }

pub consumed_stays : (p : Parts) (n : ℕ) (c : Content) (k : ℕ) → k < c.births → n ≢ k → times (owned_of p (slot_words c n 0)) k ≡ 0 → at (consumed p n c).1.objects k ≡ at c.objects k
consumed_stays p n c k lt ne z = at-unset_other (taken p (slot_words c n 0) c).1.objects n k ne ∙ taken_stays p (slot_words c n 0) c k lt z

module _ (kind : Kinds) (p : Parts) (n : ℕ) (c : Content) (hand : ℕ → ℕ) (o : Object) (s : Slot) (there : at c.objects n ≡ Some o) (one_slot : o.slots ≡ s ∷ []) (kinds : (u : ℕ) → kind.word o.ty u ≡ kind_in p u)
    (wide : length s.words ≡ width p) (forest : IsForest kind (λ k. times (n ∷ []) k + hand k) c) where
  pub words_are : slot_words c n 0 ≡ s.words
  words_are = ap (λ (x : Option Object). words_if (slice_get (slots_if x) 0)) there ∙ ap (λ (ss : List Slot). words_if (slice_get ss 0)) one_slot

  pub value_owned : (k : ℕ) → owns kind every o k ≡ times (owned_of p s.words) k
  value_owned k =
      let a = times-owned_list kind (Some o) k in
      let b = ap (λ xs. times xs k) (owned_is kind p o kinds) in
      let d = ap (λ (ss : List Slot). times (owned_slots p ss) k) one_slot in
      let e = times-append (owned_of p s.words) [] k in
      omega arith

  pub out : IsForest kind (λ k. times (owned_of p s.words) k + hand k) (without n c)
  out =
      forest_without kind (λ k. times (n ∷ []) k + hand k) (λ k. times (owned_of p s.words) k + hand k) c n forest
      (λ k. let e = value_owned k in let a : owns_at kind c every n k ≡ owns kind every o k = ap (λ (x : Option Object). owns_if kind every x k) there in omega arith)

  took : Took kind hand (owned_of p s.words) (owned_of p (taken p s.words (without n c)).0) (without n c) (taken p s.words (without n c)).1 × (length (taken p s.words (without n c)).0 ≡ width p)
  took = taken_took kind p s.words wide hand (without n c) out

  -- it doesn't own itself
  not_itself : (k : ℕ) → 0 < times (owned_of p s.words) k → n ≢ k
  not_itself k lt e =
      let v = value_owned k in
      let own : 0 < owns kind every o k = omega arith in
      let l = forest.lower n n o o there (subst (λ j. 0 < owns kind every o j) (sym e) own) there in
      omega arith

  alike : Alike (nat_eq n) (taken p s.words c) (taken p s.words (without n c))
  alike = taken_beside (nat_eq n) p s.words c (without n c) (beside_out n c) (λ k lt. tell_apart n k (not_itself k lt))

  gone : at (taken p s.words (without n c)).1.objects n ≡ None
  gone =
      took.0.others n (forest.births n o there) (one_or_apart (times (owned_of p s.words) n) 0 (λ z. z) (λ nz. absurd (not_itself n (omega arith) refl)))
      ∙ at-unset_same c.objects n n refl

  abbrev later : Content
  later = (taken p s.words (without n c)).1

  same_content : without n (taken p s.words c).1 ≡ (taken p s.words (without n c)).1
  same_content =
      sym (beside_all (λ k. false) (without n (taken p s.words c).1) (without n later) (beside_without (nat_eq n) (λ k. false) n (taken p s.words c).1 later (λ k ne e. tell_apart n k ne) alike.contents) (λ k. refl))
      ∙ ap (λ m. record { objects = m; births = later.births; clock = later.clock }) (unset_none later.objects n gone)

  pub same_words : ◌≡◌ {A = Words} (consumed p n c) (taken p s.words (without n c))
  same_words =
      ap (given p n c) words_are
      ∙ ap (with_content (taken p s.words c).0) same_content
      ∙ ap (λ (ws : List ℕ). with_content ws later) (sym alike.words)

  pub consumed_forest : IsForest kind (λ k. times (owned_of p (consumed p n c).0) k + hand k) (consumed p n c).1
  consumed_forest = subst (λ (v : Words). IsForest kind (λ k. times (owned_of p v.0) k + hand k) v.1) (sym same_words) took.0.forest

  pub consumed_wide : length (consumed p n c).0 ≡ width p
  consumed_wide = ap (λ (v : Words). length v.0) same_words ∙ took.1

  pub consumed_touches : (t : Foot) → Beneath kind c t n → Touches kind t c (consumed p n c).1
  consumed_touches t low =
      subst (λ (v : Words). Touches kind t c v.1) (sym same_words)
      (touches_then kind (λ k. times (n ∷ []) k + hand k) c forest t (and_all t (owned_of p s.words)) t (without n c) later
      (touches_without_all kind t c (n ∷ []) (λ k lt. subst (Beneath kind c t) (one_there n k (omega arith)) low))
      (took.0.touches (and_all t (owned_of p s.words)) (λ k lt. whole k (is_positive (times (owned_of p s.words) k) lt)))
      (within_self kind c t)
      (within_all kind c t (owned_of p s.words)
      (λ k lt h. let v = value_owned k in
      let a : owns_at kind c every n k ≡ owns kind every o k = ap (λ (x : Option Object). owns_if kind every x k) there in
      under n k low (omega arith))))

  -- what it owns has lesser types than it
  pub consumed_lower : (m : ℕ) (q : Object) → 0 < times (owned_of p (consumed p n c).0) m → at (consumed p n c).1.objects m ≡ Some q → kind.rank q.ty < kind.rank o.ty
  consumed_lower = subst (λ (v : Words). (m : ℕ) (q : Object) → 0 < times (owned_of p v.0) m → at v.1.objects m ≡ Some q → kind.rank q.ty < kind.rank o.ty) (sym same_words) low
    where
      low : (m : ℕ) (q : Object) → 0 < times (owned_of p (taken p s.words (without n c)).0) m → at later.objects m ≡ Some q → kind.rank q.ty < kind.rank o.ty
      low m q lt is =
          let x = took.0.types m q lt is in
          let v = value_owned x.number in
          let more = x.among in
          let r = ap kind.rank x.same in
          let was : at c.objects x.number ≡ Some x.object = sym (at-unset_other c.objects n x.number (not_itself x.number more)) ∙ x.there in
          let l = forest.lower n x.number o x.object there (omega arith) was in
          omega arith

  -- what is neither it nor owned by it stays
  pub consumed_others : (k : ℕ) → k < c.births → n ≢ k → owns kind every o k ≡ 0 → at (consumed p n c).1.objects k ≡ at c.objects k
  consumed_others k lt ne z =
      let v = value_owned k in
      ap (λ (w : Words). at w.1.objects k) same_words ∙ took.0.others k lt (omega arith) ∙ at-unset_other c.objects n k ne

  -- .. and what it owns was owned by it, or is new
  pub consumed_old : (k : ℕ) → 0 < times (owned_of p (consumed p n c).0) k → k < c.births → 0 < owns kind every o k
  consumed_old k lt below =
      let v = value_owned k in
      let e = ap (λ (w : Words). times (owned_of p w.0) k) same_words in
      let h = took.0.old k (omega arith) below in
      omega arith
