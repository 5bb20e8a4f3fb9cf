-- What a place goes to lies inside of where it starts: among the same words, or beneath them.
use Rattle.std.proofs.Common.{◌≡◌, ◌⊎◌, inl, inr, ℕ, ◌+◌, ◌≤◌, ◌<◌, Bool, true, false, List, [], ◌∷◌, Option, Some, None, refl, sym, ap, subst, ◌∙◌, arith}
use Rattle.std.specs.Prelude.{◌&&◌, nat_eq, nat_le, nat_lt, slice_get, sum_by, take}
use Rattle.std.proofs.lemmas.Bool.{and_from, eqb-true, false≢true, ne_eqb}
use Rattle.std.proofs.lemmas.Bool.Decides.{nat_tests}
use Rattle.life_types.specs.Trees.{IsOrdered}
use Rattle.life_types.specs.Types.{Types}
use Rattle.life_types.specs.declared.ty.Ty.{Ty}
use Rattle.life_types.specs.declared.ty.Ty.TheVariants as variant
use Rattle.life_types.specs.declared.ty.TyId.{TyId}
use Rattle.life_store.specs.Cells.{at}
use Rattle.life_store.specs.Content.{Object, Content}
use Rattle.life_store.specs.Kinds.{Owner, is_owner, kind_in}
use Rattle.life_store.specs.Parts.{members_of, parts_at, parts_of, width, width_at}
use Rattle.life_store.proofs.CellLemmas.{none_some, some_same}
use Rattle.life_store.proofs.MapLemmas.{one_or_apart}
use Rattle.life_forest.specs.Forest.{Beneath, part, under, whole}
use Rattle.life_forest.specs.Kinds.{kinds_of, owned_type, rank_of}
use Rattle.life_forest.specs.Owned.{every, owns_at, owns_if}
use Rattle.life_forest.specs.Typed.{IsStore}
use Rattle.life_forest.specs.Within.{LiesWithin}
use Rattle.life_forest.proofs.Among.{slots_counted, to_among}
use Rattle.life_forest.proofs.Below.{lives, owned_at_held, owner_lives}
use Rattle.life_forest.proofs.Counting.{in_slots_none}
use Rattle.life_forest.proofs.Laying.{parts_made}
use Rattle.life_forest.proofs.Members.{member_within, within_self, within_then}
use Rattle.life_forest.proofs.Sparing.{owns_le}
use Rattle.life_forest.proofs.Steps.{own_all}
use Rattle.life_cover.specs.Regions.{Goes, IsTrue, Lies, Region, ToOwned, foot_of, is_in_region, owned_in_type}

-- ---- words of a region

pub record IsWithin (types : Types) (r : Region) (m u : ℕ) : Type 0 where
  pub object : m ≡ r.object
  pub first : r.word ≤ u
  pub last : u < r.word + width_at types r.ty

le_of : (a b : ℕ) → nat_le a b ≡ true → a ≤ b
le_of a b h = grind (arith, nat_tests)

of_le : (a b : ℕ) → a ≤ b → nat_le a b ≡ true
of_le a b h = grind (arith, nat_tests)

lt_of : (a b : ℕ) → nat_lt a b ≡ true → a < b
lt_of a b h = grind (arith, nat_tests)

of_lt : (a b : ℕ) → a < b → nat_lt a b ≡ true
of_lt a b h = grind (arith, nat_tests)

eq_same : (a b : ℕ) → a ≡ b → nat_eq a b ≡ true
eq_same a b h = grind (arith, nat_tests)

left_true : (a b : Bool) → (a && b) ≡ true → a ≡ true
left_true true b h = refl
left_true false b h = h

right_true : (a b : Bool) → (a && b) ≡ true → b ≡ true
right_true true b h = h
right_true false b h = absurd (false≢true h)

pub in_region : (types : Types) (r : Region) (m u : ℕ) → IsWithin types r m u → is_in_region types r m u ≡ true
in_region types r m u h =
    and_from (nat_eq m r.object) (nat_le r.word u && nat_lt u (r.word + width_at types r.ty)) (eq_same m r.object h.object)
    (and_from (nat_le r.word u) (nat_lt u (r.word + width_at types r.ty)) (of_le r.word u h.first) (of_lt u (r.word + width_at types r.ty) h.last))

pub region_within : (types : Types) (r : Region) (m u : ℕ) → is_in_region types r m u ≡ true → IsWithin types r m u
region_within types r m u h =
    let words = right_true (nat_eq m r.object) (nat_le r.word u && nat_lt u (r.word + width_at types r.ty)) h in record {
      object = eqb-true m r.object (left_true (nat_eq m r.object) (nat_le r.word u && nat_lt u (r.word + width_at types r.ty)) h);
      first = le_of r.word u (left_true (nat_le r.word u) (nat_lt u (r.word + width_at types r.ty)) words);
      last = lt_of u (r.word + width_at types r.ty) (right_true (nat_le r.word u) (nat_lt u (r.word + width_at types r.ty)) words);
    }

-- what a region's owners own, its object owns
pub region_owner : (types : Types) (c : Content) (r : Region) (m n : ℕ) → 0 < owns_at (kinds_of types) c ((foot_of types r).part m) m n → m ≡ r.object
region_owner types c r m n own = one_or_apart m r.object (λ e. e) (λ ne. absurd (other (ne_eqb m r.object ne)))
  where
    never : (f : ℕ → Bool) → ((u : ℕ) → f u ≡ false) → (o : Option Object) → owns_if (kinds_of types) f o n ≡ 0
    never f none None = refl
    never f none (Some o) = in_slots_none (λ u. is_owner ((kinds_of types).word o.ty u) && f u) o.slots n (λ u. both (is_owner ((kinds_of types).word o.ty u)) (f u) (none u))
      where
        both : (a b : Bool) → b ≡ false → (a && b) ≡ false
        both true b e = e
        both false b e = refl

    other : nat_eq m r.object ≡ false → ⊥
    other e = let z = never ((foot_of types r).part m) (λ u. ap (λ b. b && (nat_le r.word u && nat_lt u (r.word + width_at types r.ty))) e) (at c.objects m) in omega (arith, z, own)

-- ---- owners

-- a value of such a type is an owner of that
pub record IsOwnerOf (types : Types) (id item : TyId) : Type 0 where
  pub kind : kind_in (parts_at types id) 0 ≡ Owner
  pub owned : owned_type (parts_at types id) 0 ≡ Some item
  pub one : width_at types id ≡ 1

module _ (types : Types) (ordered : IsOrdered types) where
  pub owner_of : (id item : TyId) → owned_in_type types (slice_get types.types id.0) ≡ Some item → IsOwnerOf types id item
  owner_of id item e = go (slice_get types.types id.0) refl e
    where
      by : (p : _) → parts_at types id ≡ p → kind_in p 0 ≡ Owner → owned_type p 0 ≡ Some item → width p ≡ 1 → IsOwnerOf types id item
      by p is a b c = record { kind = ap (λ q. kind_in q 0) is ∙ a; owned = ap (λ q. owned_type q 0) is ∙ b; one = ap width is ∙ c }

      go : (o : Option Ty) → slice_get types.types id.0 ≡ o → owned_in_type types o ≡ Some item → IsOwnerOf types id item
      go (Some variant.Text) is h = by (parts_of types (parts_at types) (Some variant.Text)) (parts_made types ordered id ∙ ap (parts_of types (parts_at types)) is) refl h refl
      go (Some (variant.Vector element)) is h = by (parts_of types (parts_at types) (Some (variant.Vector element))) (parts_made types ordered id ∙ ap (parts_of types (parts_at types)) is) refl h refl
      go (Some (variant.Unique target)) is h = by (parts_of types (parts_at types) (Some (variant.Unique target))) (parts_made types ordered id ∙ ap (parts_of types (parts_at types)) is) refl h refl
      go None is h = absurd (none_some h)
      go (Some _) is h = absurd (none_some h)

  module _ (hand : ℕ → ℕ) (c : Content) (store : IsStore types hand c) where
    -- what is owned lives
    pub owned_lives : (m n : ℕ) → 0 < owns_at (kinds_of types) c every m n → (q : Object) × (at c.objects n ≡ Some q)
    owned_lives m n own =
        let l = owned_at_held (kinds_of types) c m n in
        let h = store.forest.held n in
        lives (kinds_of types) c n (omega arith)

    -- the owner that a step goes through is counted
    pub record Owned (foot : ℕ → Bool) (a b : Region) : Type 0 where
      pub own : 0 < owns_at (kinds_of types) c foot a.object b.object

    pub owned_counted : (step : ℕ) (a b : Region) → IsTrue types c a → ToOwned types c step a b → (foot : ℕ → Bool) → foot a.word ≡ true → 0 < owns_at (kinds_of types) c foot a.object b.object
    owned_counted step a b is goes foot in_foot =
        let o = owner_of a.ty b.ty goes.type in
        let one = o.one in
        let word = (is goes.holder goes.there).words 0 (omega (arith, one)) in
        let kind : kind_in (parts_at types goes.holder.ty) a.word ≡ Owner = ap (kind_in (parts_at types goes.holder.ty)) (nothing a.word) ∙ word ∙ o.kind in
        subst (λ (x : Option Object). 0 < owns_if (kinds_of types) foot x b.object) (sym goes.there)
        (slots_counted (λ u. is_owner ((kinds_of types).word goes.holder.ty u) && foot u) goes.holder.slots a.word b.object
        (to_among goes.holder.slots goes.index a.word b.object goes.has)
        (and_from (is_owner ((kinds_of types).word goes.holder.ty a.word)) (foot a.word) (ap is_owner kind) in_foot))
      where
        nothing : (w : ℕ) → w ≡ w + 0
        nothing w = omega arith

    -- what it owns has the type that the step says
    pub owned_typed : (step : ℕ) (a b : Region) → IsTrue types c a → ToOwned types c step a b → (q : Object) → at c.objects b.object ≡ Some q → q.ty ≡ b.ty
    owned_typed step a b is goes q there =
        let o = owner_of a.ty b.ty goes.type in
        let one = o.one in
        let w = is goes.holder goes.there in
        let less : 0 < width_at types a.ty = omega (arith, one) in
        let kind : kind_in (parts_at types goes.holder.ty) a.word ≡ Owner = ap (kind_in (parts_at types goes.holder.ty)) (nothing a.word) ∙ w.words 0 less ∙ o.kind in
        let owned : owned_type (parts_at types goes.holder.ty) a.word ≡ Some b.ty = ap (owned_type (parts_at types goes.holder.ty)) (nothing a.word) ∙ w.owners 0 less ∙ o.owned in
        some_same (sym ((store.fit a.object goes.holder goes.there).owned goes.index a.word b.object q kind goes.has there) ∙ owned)
      where
        nothing : (w : ℕ) → w ≡ w + 0
        nothing w = omega arith

    -- ---- where a value is true, so is what a place goes to

    pub goes_true : (step : ℕ) (a b : Region) → IsTrue types c a → Goes types c step a b → IsTrue types c b
    goes_true step a b is (inl m) o there =
        subst (λ w. LiesWithin types o.ty w b.ty) (sym m.word)
        (within_then types o.ty a.ty b.ty a.word (sum_by (width_at types) (take step (members_of types a.ty)))
        (is o (ap (at c.objects) (sym m.object) ∙ there)) (member_within types ordered a.ty b.ty step m.type))
    goes_true step a b is (inr s) o there =
        subst (λ w. LiesWithin types o.ty w b.ty) (sym s.word)
        (subst (λ id. LiesWithin types id 0 b.ty) (sym (owned_typed step a b is s o there)) (within_self types b.ty))

    -- ---- inside

    pub record AmongWords (a b : Region) : Type 0 where
      pub object : b.object ≡ a.object
      pub first : a.word ≤ b.word
      pub last : b.word + width_at types b.ty ≤ a.word + width_at types a.ty

    abbrev pub Inside : Region → Region → Type 0
    Inside a b = AmongWords a b ⊎ Beneath (kinds_of types) c (foot_of types a) b.object

    pub goes_inside : (step : ℕ) (a b : Region) → IsTrue types c a → Goes types c step a b → Inside a b
    goes_inside step a b is (inl m) =
        let w = member_within types ordered a.ty b.ty step m.type in
        let fits = w.fits in
        let word = m.word in
        inl (record { object = m.object; first = omega (arith, word); last = omega (arith, word, fits) })
    goes_inside step a b is (inr s) =
        let one = (owner_of a.ty b.ty s.type).one in
        inr (part a.object b.object (owned_counted step a b is s ((foot_of types a).part a.object) (in_region types a a.object a.word (record { object = refl; first = omega arith; last = omega (arith, one) }))))

    -- what is beneath what lies inside is beneath it
    pub beneath_inside : (a b : Region) → Inside a b → (n : ℕ) → Beneath (kinds_of types) c (foot_of types b) n → Beneath (kinds_of types) c (foot_of types a) n
    beneath_inside a b in_a n (whole _ e) = absurd (false≢true e)
    beneath_inside a b (inl s) n (part m _ own) =
        let more = owns_le (kinds_of types) ((foot_of types b).part m) ((foot_of types a).part m) (at c.objects m) n wider in
        part m n (omega (arith, own, more))
      where
        wider : (u : ℕ) → is_in_region types b m u ≡ true → is_in_region types a m u ≡ true
        wider u e =
            let w = region_within types b m u e in
            let first = w.first in
            let last = w.last in
            let from = s.first in
            let to = s.last in
            in_region types a m u (record { object = w.object ∙ s.object; first = omega (arith, first, from); last = omega (arith, last, to) })
    beneath_inside a b (inr low) n (part m _ own) =
        under m n (subst (Beneath (kinds_of types) c (foot_of types a)) (sym (region_owner types c b m n own)) low) (own_all (kinds_of types) c ((foot_of types b).part m) m n own)
    beneath_inside a b in_a n (under m _ low own) = under m n (beneath_inside a b in_a m low) own

    pub inside_then : (a b x : Region) → Inside a b → Inside b x → Inside a x
    inside_then a b x in_a (inr low) = inr (beneath_inside a b in_a x.object low)
    inside_then a b x (inl s) (inl t) =
        let first = s.first in
        let last = s.last in
        let from = t.first in
        let to = t.last in
        inl (record { object = t.object ∙ s.object; first = omega (arith, first, from); last = omega (arith, last, to) })
    inside_then a b x (inr low) (inl t) = inr (subst (Beneath (kinds_of types) c (foot_of types a)) (sym t.object) low)

    -- where a place lies
    pub lies_true : (ss : List ℕ) (a b : Region) → IsTrue types c a → Lies types c ss a b → IsTrue types c b
    lies_true [] a b is lies = subst (IsTrue types c) lies is
    lies_true (s ∷ ss) a b is lies = lies_true ss lies.0 b (goes_true s a lies.0 is lies.1) lies.2

    pub lies_inside : (ss : List ℕ) (a b : Region) → IsTrue types c a → Lies types c ss a b → Inside a b
    lies_inside [] a b is lies = subst (Inside a) lies (inl (record { object = refl; first = omega arith; last = omega arith }))
    lies_inside (s ∷ ss) a b is lies = inside_then a lies.0 b (goes_inside s a lies.0 is lies.1) (lies_inside ss lies.0 b (goes_true s a lies.0 is lies.1) lies.2)

    -- ---- what is beneath is of a lesser type, so nothing is beneath itself

    pub beneath_lesser : (a : Region) (n : ℕ) → Beneath (kinds_of types) c (foot_of types a) n → (o q : Object) → at c.objects a.object ≡ Some o → at c.objects n ≡ Some q → rank_of types q.ty < rank_of types o.ty
    beneath_lesser a n (whole _ e) o q top there = absurd (false≢true e)
    beneath_lesser a n (part m _ own) o q top there =
        let same = ap (at c.objects) (region_owner types c a m n own) ∙ top in
        let all = own_all (kinds_of types) c ((foot_of types a).part m) m n own in
        store.forest.lower m n o q same (subst (λ (x : Option Object). 0 < owns_if (kinds_of types) every x n) same all) there
    beneath_lesser a n (under m _ low own) o q top there =
        let holder = owner_lives (kinds_of types) c every m n own in
        let one = beneath_lesser a m low o holder.0 top holder.1 in
        let two = store.forest.lower m n holder.0 q holder.1 (subst (λ (x : Option Object). 0 < owns_if (kinds_of types) every x n) holder.1 own) there in
        omega (arith, one, two)

    pub beneath_lives : (a : Region) (n : ℕ) → Beneath (kinds_of types) c (foot_of types a) n → (q : Object) × (at c.objects n ≡ Some q)
    beneath_lives a n (whole _ e) = absurd (false≢true e)
    beneath_lives a n (part m _ own) = owned_lives m n (own_all (kinds_of types) c ((foot_of types a).part m) m n own)
    beneath_lives a n (under m _ low own) = owned_lives m n own

    pub not_itself : (a : Region) → Beneath (kinds_of types) c (foot_of types a) a.object → ⊥
    not_itself a low =
        let q = beneath_lives a a.object low in
        let less = beneath_lesser a a.object low q.0 q.0 q.1 q.1 in
        omega (arith, less)
