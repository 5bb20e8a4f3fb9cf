-- What isn't beneath what a step touches lies and stands as it did.
use Rattle.std.proofs.Common.{◌≡◌, inl, inr, ℕ, zero, suc, ◌+◌, ◌<◌, Bool, true, false, cond, List, [], ◌∷◌, Option, Some, None, refl, sym, ap, subst, ◌∙◌, arith, length}
use Rattle.std.specs.Prelude.{◌||◌, option_map, slice_get, slice_index}
use Rattle.std.proofs.lemmas.Bool.{false≢true}
use Rattle.life_types.specs.Trees.{IsOrdered}
use Rattle.life_types.specs.Types.{Types}
use Rattle.life_pset.specs.Places.{path}
use Rattle.life_pset.specs.declared.element.AbsPlace.{AbsPlace}
use Rattle.life_pset.specs.declared.element.Root.{Root}
use Rattle.life_store.specs.Cells.{at}
use Rattle.life_store.specs.Content.{Slot, Object, Content, is_valid_in, word_at, word_in}
use Rattle.life_store.specs.Kinds.{Owner, is_value, kind_in}
use Rattle.life_store.specs.Parts.{parts_at}
use Rattle.life_store.specs.State.{Target}
use Rattle.life_store.proofs.CellLemmas.{none_some, some_same}
use Rattle.life_forest.specs.Forest.{Beneath, Foot, Touches, part, under, whole}
use Rattle.life_forest.specs.Kinds.{Kinds, kinds_of}
use Rattle.life_forest.specs.Owned.{blanked, blanked_slots, spared}
use Rattle.life_forest.specs.Typed.{IsStore}
use Rattle.life_forest.proofs.Steps.{own_all, size_on, stands_on}
use Rattle.life_cover.specs.Covers.{Holds}
use Rattle.life_cover.specs.Regions.{Goes, IsAt, IsTrue, Lies, Region, ToOwned, foot_of}
use Rattle.life_cover.proofs.Inside.{Inside, goes_inside, goes_true, lies_inside, owned_counted, owner_of, region_owner}

-- ---- words that aren't blanked out

blanked_word : (f : ℕ → Bool) (xs : List ℕ) (u : ℕ) → slice_index (blanked f xs) u ≡ cond (f u) 0 (slice_index xs u)
blanked_word f [] u = none (f u)
  where
    none : (b : Bool) → ◌≡◌ {A = ℕ} 0 (cond b 0 0)
    none true = refl
    none false = refl
blanked_word f (x ∷ xs) zero = refl
blanked_word f (x ∷ xs) (suc u) = blanked_word (λ w. f (suc w)) xs u

blanked_slot : (f : ℕ → Bool) (ss : List Slot) (i u : ℕ) → word_in (slice_get (blanked_slots f ss) i) u ≡ cond (f u) 0 (word_in (slice_get ss i) u)
blanked_slot f [] i u = none (f u)
  where
    none : (b : Bool) → ◌≡◌ {A = ℕ} 0 (cond b 0 0)
    none true = refl
    none false = refl
blanked_slot f (s ∷ ss) zero u = blanked_word f s.words u
blanked_slot f (s ∷ ss) (suc i) u = blanked_slot f ss i u

blanked_count : (f : ℕ → Bool) (ss : List Slot) → length (blanked_slots f ss) ≡ length ss
blanked_count f [] = refl
blanked_count f (s ∷ ss) = ap suc (blanked_count f ss)

-- an object of the type is there, with as many slots and the same words but for values and those that pass the test
pub record Keeps (kind : Kinds) (g : ℕ → Bool) (d : Content) (n : ℕ) (o : Object) : Type 0 where
  pub object : Object
  pub there : at d.objects n ≡ Some object
  pub type : object.ty ≡ o.ty
  pub count : length object.slots ≡ length o.slots
  pub words : (i u : ℕ) → is_value (kind.word o.ty u) ≡ false → g u ≡ false → word_at object i u ≡ word_at o i u

pub kept_object : (kind : Kinds) (t : Foot) (c d : Content) (n : ℕ) (o : Object) → Touches kind t c d → n < c.births → (Beneath kind c t n → ⊥) → at c.objects n ≡ Some o → Keeps kind (t.part n) d n o
kept_object kind t c d n o touch born apart there = go (at d.objects n) refl (touch.kept n born apart ∙ ap (option_map (spared kind (t.part n))) there)
  where
    either : (a b : Bool) → a ≡ false → b ≡ false → (a || b) ≡ false
    either true b e f = e
    either false b e f = f

    go : (y : Option Object) → at d.objects n ≡ y → option_map (spared kind (t.part n)) y ≡ Some (spared kind (t.part n) o) → Keeps kind (t.part n) d n o
    go None e h = absurd (none_some h)
    go (Some q) e h =
        let same = some_same h in
        let ty : q.ty ≡ o.ty = ap (λ (z : Object). z.ty) same in record {
          object = q;
          there = e;
          type = ty;
          count = sym (blanked_count (λ v. is_value (kind.word q.ty v) || t.part n v) q.slots) ∙ ap (λ (z : Object). length z.slots) same ∙ blanked_count (λ v. is_value (kind.word o.ty v) || t.part n v) o.slots;
          words = λ i u value free. let blank : (is_value (kind.word o.ty u) || t.part n u) ≡ false = either (is_value (kind.word o.ty u)) (t.part n u) value free in
              let blank_q : (is_value (kind.word q.ty u) || t.part n u) ≡ false = ap (λ id. is_value (kind.word id u) || t.part n u) ty ∙ blank in
              ap (λ b. cond b 0 (word_at q i u)) (sym blank_q)
              ∙ sym (blanked_slot (λ v. is_value (kind.word q.ty v) || t.part n v) q.slots i u)
              ∙ ap (λ (z : Object). word_in (slice_get z.slots i) u) same
              ∙ blanked_slot (λ v. is_value (kind.word o.ty v) || t.part n v) o.slots i u
              ∙ ap (λ b. cond b 0 (word_at o i u)) blank;
        }

module _ (types : Types) (ordered : IsOrdered types) (hand : ℕ → ℕ) (c d : Content) (store : IsStore types hand c) (t : Foot) (touch : Touches (kinds_of types) t c d) where
  -- what is inside of what is beneath is beneath
  beneath_from : (a : Region) (n : ℕ) → Beneath (kinds_of types) c t a.object → Beneath (kinds_of types) c (foot_of types a) n → Beneath (kinds_of types) c t n
  beneath_from a n top (whole _ e) = absurd (false≢true e)
  beneath_from a n top (part m _ own) = under m n (subst (Beneath (kinds_of types) c t) (sym (region_owner types c a m n own)) top) (own_all (kinds_of types) c ((foot_of types a).part m) m n own)
  beneath_from a n top (under m _ low own) = under m n (beneath_from a m top low) own

  inside_from : (a b : Region) → Beneath (kinds_of types) c t a.object → Inside types ordered hand c store a b → Beneath (kinds_of types) c t b.object
  inside_from a b top (inl s) = subst (Beneath (kinds_of types) c t) (sym s.object) top
  inside_from a b top (inr low) = beneath_from a b.object top low

  not_true : (b : Bool) → (b ≡ true → ⊥) → b ≡ false
  not_true true h = absurd (h refl)
  not_true false h = refl

  -- an owner keeps what it has
  pub owner_on : (step : ℕ) (a b : Region) → IsTrue types c a → ToOwned types c step a b → (Beneath (kinds_of types) c t b.object → ⊥) → ToOwned types d step a b
  owner_on step a b is o apart =
      let k = kept_object (kinds_of types) t c d a.object o.holder touch (store.forest.births a.object o.holder o.there) apart_a o.there in record {
        owned = o.owned;
        type = o.type;
        holder = k.object;
        there = k.there;
        index = o.index;
        has = k.words o.index a.word (ap is_value owner) (not_true (t.part a.object a.word) touched) ∙ o.has;
        word = o.word;
      }
    where
      apart_a : Beneath (kinds_of types) c t a.object → ⊥
      apart_a top = apart (inside_from a b top (goes_inside types ordered hand c store step a b is (inr o)))

      touched : t.part a.object a.word ≡ true → ⊥
      touched e = apart (part a.object b.object (owned_counted types ordered hand c store step a b is o (t.part a.object) e))

      owner : kind_in (parts_at types o.holder.ty) a.word ≡ Owner
      owner =
          let w = owner_of types ordered a.ty b.ty o.type in
          let one = w.one in
          ap (kind_in (parts_at types o.holder.ty)) (nothing a.word) ∙ (is o.holder o.there).words 0 (omega (arith, one)) ∙ w.kind
        where
          nothing : (u : ℕ) → u ≡ u + 0
          nothing u = omega arith

  pub lies_on : (ss : List ℕ) (a b : Region) → IsTrue types c a → Lies types c ss a b → (Beneath (kinds_of types) c t b.object → ⊥) → Lies types d ss a b
  lies_on [] a b is lies apart = lies
  lies_on (s ∷ ss) a b is lies apart = (lies.0, step lies.1, lies_on ss lies.0 b here lies.2 apart)
    where
      here : IsTrue types c lies.0
      here = goes_true types ordered hand c store s a lies.0 is lies.1

      step : Goes types c s a lies.0 → Goes types d s a lies.0
      step (inl m) = inl m
      step (inr o) = inr (owner_on s a lies.0 is o (λ low. apart (inside_from lies.0 b low (lies_inside types ordered hand c store ss lies.0 b here lies.2))))

  pub at_on : (Stands Stands' : Root → Region → Type 0) (place : AbsPlace) (r : Region) → ((a : Region) → Stands place.root a → IsTrue types c a) → ((a : Region) → Stands place.root a → Stands' place.root a) → IsAt types c Stands place r
      → (Beneath (kinds_of types) c t r.object → ⊥) → IsAt types d Stands' place r
  at_on Stands Stands' place r fits stay at_r apart =
      record { start = at_r.start; stands = stay at_r.start at_r.stands; lies = lies_on (path place) at_r.start r (fits at_r.start at_r.stands) at_r.lies apart }

  -- a pointer holds as it held
  pub holds_on : (ranged : Bool) (p : Target) → (Beneath (kinds_of types) c t p.object → ⊥) → Holds c ranged p → Holds d ranged p
  holds_on ranged p apart h = record {
    settled = stands_on (kinds_of types) t c d p.object p.index p.count p.moment touch born apart ∙ h.settled;
    single = h.single;
    within = λ e. let size = size_on (kinds_of types) t c d p.object touch born apart in
        let w = h.within e in
        omega (arith, size, w);
  }
    where
      lives : (o : Option Object) → at c.objects p.object ≡ o → is_valid_in p.index p.count p.moment o ≡ true → p.object < c.births
      lives None e v = absurd (false≢true v)
      lives (Some o) e v = store.forest.births p.object o e

      born : p.object < c.births
      born = lives (at c.objects p.object) refl h.settled
