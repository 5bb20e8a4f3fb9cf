-- What lies beneath a place that is changed is under it by the rules: what is owned has one path.
use Rattle.std.proofs.Common.{◌≡◌, ◌≢◌, inl, inr, ⊎_elim, ℕ, zero, suc, ◌+◌, ◌≤◌, ◌<◌, Bool, true, false, List, [], ◌∷◌, length, Option, Some, None, refl, sym, ap, subst, ◌∙◌, arith, rules, ◌⊎◌}
use Rattle.std.specs.Cmp.{IsEquivalence}
use Rattle.std.specs.Prelude.{◌&&◌, ◌||◌, drop, nat_eq, slice_get, sum_by, take}
use Rattle.std.specs.List.{list_any}
use Rattle.std.proofs.lemmas.Bool.{false≢true}
use Rattle.std.proofs.lemmas.Bool.Decides.{nat_tests}
use Rattle.std.proofs.lemmas.List.Sums.{sum_by-cons}
use Rattle.life_types.specs.Trees.{IsOrdered}
use Rattle.life_types.specs.Types.{Types}
use Rattle.life_types.specs.declared.ty.Ty.{Ty}
use Rattle.life_types.specs.declared.ty.Ty.TheVariants as variant
use Rattle.life_types.specs.declared.ty.TyId.{TyId}
use Rattle.life_pset.specs.Places.{begins, goes_under, owned_step, path}
use Rattle.life_pset.specs.Places as places
use Rattle.life_pset.specs.contracts.element.RootPartialEq.TheImpl.{ghosts as compared}
use Rattle.life_pset.specs.declared.element.AbsPlace.{AbsPlace}
use Rattle.life_pset.specs.declared.element.Root.{Root}
use Rattle.life_store.specs.Cells.{at}
use Rattle.life_store.specs.Content.{Content, Object}
use Rattle.life_store.specs.Parts.{members_if, members_of, width_at}
use Rattle.life_store.proofs.CellLemmas.{none_some, some_same}
use Rattle.life_store.proofs.MapLemmas.{one_or_apart}
use Rattle.life_forest.specs.Forest.{Beneath}
use Rattle.life_forest.specs.Kinds.{kinds_of, rank_of}
use Rattle.life_forest.specs.Owned.{every}
use Rattle.life_forest.specs.Typed.{IsStore}
use Rattle.life_forest.proofs.Apart.{Apart}
use Rattle.life_forest.proofs.Apart as feet
use Rattle.life_cover.specs.Regions.{Goes, IsAt, IsTrue, Lies, Region, ToMember, ToOwned, foot_of, owned_in_type}
use Rattle.life_cover.specs.Roots.{AreRooted, IsApart}
use Rattle.life_cover.proofs.Inside.{Inside, beneath_inside, beneath_lesser, goes_inside, goes_true, lies_inside, not_itself, owned_counted, owned_lives, owned_typed, region_within}

-- ---- roots

pub exact_root : (r s : Root) → compared.eq r s ≡ true → r ≡ s
exact_root r s h = search rules

pub root_laws : IsEquivalence compared.eq
root_laws = search rules

-- ---- paths

pub same_region : (a b : Region) → a.object ≡ b.object → a.word ≡ b.word → a.ty ≡ b.ty → a ≡ b
same_region a b object word ty =
    ap (λ n. record { object = n; word = a.word; ty = a.ty }) object
    ∙ ap (λ w. record { object = b.object; word = w; ty = a.ty }) word
    ∙ ap (λ id. record { object = b.object; word = b.word; ty = id }) ty

pub eq_same : (a b : ℕ) → a ≡ b → nat_eq a b ≡ true
eq_same a b h = grind (arith, nat_tests)

-- both go on alike
more_under : (j s : ℕ) (ks bs : List ℕ) → j ≡ s → goes_under ks bs ≡ true → goes_under (j ∷ ks) (s ∷ bs) ≡ true
more_under j s ks bs e h = ap (λ b. (b && begins ks bs) && list_any (λ step. nat_eq step owned_step) (drop (length ks) bs)) (eq_same j s e) ∙ h

-- members stand one behind the other
members_behind : (types : Types) (ids : List TyId) (j k : ℕ) (id : TyId) → j < k → slice_get ids j ≡ Some id → sum_by (width_at types) (take j ids) + width_at types id ≤ sum_by (width_at types) (take k ids)
members_behind types [] j k id less e = absurd (none_some e)
members_behind types (x ∷ xs) j zero id less e = absurd (omega (arith, less))
members_behind types (x ∷ xs) zero (suc k) id less e =
    let s = sum_by-cons (width_at types) x (take k xs) in
    let w = ap (width_at types) (some_same e) in
    omega (arith, s, w)
members_behind types (x ∷ xs) (suc j) (suc k) id less e =
    let s = sum_by-cons (width_at types) x (take k xs) in
    let t = sum_by-cons (width_at types) x (take j xs) in
    let r = members_behind types xs j k id (omega (arith, less)) e in
    omega (arith, s, t, r)

-- what owns has no members
pub no_members : (types : Types) (o : Option Ty) (j : ℕ) (id item : TyId) → slice_get (members_if types o) j ≡ Some id → owned_in_type types o ≡ Some item → ⊥
no_members types (Some (variant.Struct number)) j id item m e = none_some e
no_members types None j id item m e = none_some e
no_members types (Some _) j id item m e = none_some m

-- a path without owned steps stays in the object
stays : (types : Types) (c : Content) (ss : List ℕ) (a b : Region) → Lies types c ss a b → list_any (λ step. nat_eq step owned_step) ss ≡ false → b.object ≡ a.object
stays types c [] a b lies none = ap (λ (r : Region). r.object) (sym lies)
stays types c (s ∷ ss) a b lies none = one (λ free. stays types c ss lies.0 b lies.2 free) lies.1
  where
    left_false : (p q : Bool) → (p || q) ≡ false → p ≡ false
    left_false true q e = e
    left_false false q e = refl

    right_false : (p q : Bool) → (p || q) ≡ false → q ≡ false
    right_false true q e = absurd (false≢true (sym e))
    right_false false q e = e

    one : (list_any (λ step. nat_eq step owned_step) ss ≡ false → b.object ≡ lies.0.object) → Goes types c s a lies.0 → b.object ≡ a.object
    one rest (inl m) = rest (right_false (nat_eq s owned_step) (list_any (λ step. nat_eq step owned_step) ss) none) ∙ m.object
    one rest (inr o) = absurd (false≢true (sym (left_false (nat_eq s owned_step) (list_any (λ step. nat_eq step owned_step) ss) none) ∙ eq_same s owned_step o.owned))

module _ (types : Types) (ordered : IsOrdered types) (hand : ℕ → ℕ) (c : Content) (store : IsStore types hand c) where
  -- ---- regions that are apart

  feet_apart : (a b : Region) → IsApart types c a b → Apart (kinds_of types) c (foot_of types a) (foot_of types b)
  feet_apart a b apart = record {
    wholes = λ n e low. absurd (false≢true e);
    others = λ n e low. absurd (false≢true e);
    parts = λ m w e f. let x = region_within types a m w e in
        let y = region_within types b m w f in
        let one = x.first in
        let two = x.last in
        let three = y.first in
        let four = y.last in
        ⊎_elim (λ before. omega (arith, one, two, three, four, before)) (λ behind. omega (arith, one, two, three, four, behind)) (apart.beside (sym x.object ∙ y.object));
    holder = λ m w e low. apart.under (subst (Beneath (kinds_of types) c (foot_of types b)) (region_within types a m w e).object low);
    other_holder = λ m w e low. apart.over (subst (Beneath (kinds_of types) c (foot_of types a)) (region_within types b m w e).object low);
  }

  -- nothing beneath the one lies inside the other
  pub beneath_apart : (a b x : Region) → IsApart types c a b → Beneath (kinds_of types) c (foot_of types a) x.object → Inside types ordered hand c store b x → ⊥
  beneath_apart a b x apart low (inl s) = apart.over (subst (Beneath (kinds_of types) c (foot_of types a)) s.object low)
  beneath_apart a b x apart low (inr other) = feet.apart (kinds_of types) hand c store.forest (foot_of types a) (foot_of types b) (feet_apart a b apart) x.object low other

  pub members_apart : (j k : ℕ) (a b d : Region) → j ≢ k → ToMember types j a b → ToMember types k a d → IsTrue types c a → IsApart types c b d
  members_apart j k a b d ne one two is = record {
    beside = λ e. order (j_k j k ne);
    over = λ low. not_itself types ordered hand c store a (beneath_inside types ordered hand c store a b (goes_inside types ordered hand c store j a b is (inl one)) a.object (subst (Beneath (kinds_of types) c (foot_of types b)) two.object low));
    under = λ low. not_itself types ordered hand c store a (beneath_inside types ordered hand c store a d (goes_inside types ordered hand c store k a d is (inl two)) a.object (subst (Beneath (kinds_of types) c (foot_of types d)) one.object low));
  }
    where
      j_k : (m n : ℕ) → m ≢ n → (m < n) ⊎ (n < m)
      j_k zero zero ne = absurd (ne refl)
      j_k zero (suc n) ne = inl (omega arith)
      j_k (suc m) zero ne = inr (omega arith)
      j_k (suc m) (suc n) ne = ⊎_elim (λ l. inl (omega (arith, l))) (λ r. inr (omega (arith, r))) (j_k m n (λ e. ne (ap suc e)))

      order : ((j < k) ⊎ (k < j)) → (b.word + width_at types b.ty ≤ d.word) ⊎ (d.word + width_at types d.ty ≤ b.word)
      order (inl less) =
          let s = members_behind types (members_of types a.ty) j k b.ty less one.type in
          let x = one.word in
          let y = two.word in
          inl (omega (arith, s, x, y))
      order (inr less) =
          let s = members_behind types (members_of types a.ty) k j d.ty less two.type in
          let x = one.word in
          let y = two.word in
          inr (omega (arith, s, x, y))

  pub owned_apart : (j k : ℕ) (a b d : Region) → b.object ≢ d.object → ToOwned types c j a b → ToOwned types c k a d → IsTrue types c a → IsApart types c b d
  owned_apart j k a b d ne one two is = record {
    beside = λ e. absurd (ne e);
    over = λ low. lesser b d x.0 y.0 x.1 y.1 low (x_ty ∙ same ∙ sym y_ty);
    under = λ low. lesser d b y.0 x.0 y.1 x.1 low (y_ty ∙ sym same ∙ sym x_ty);
  }
    where
      x : (q : Object) × (at c.objects b.object ≡ Some q)
      x = owned_lives types ordered hand c store a.object b.object (owned_counted types ordered hand c store j a b is one every refl)

      y : (q : Object) × (at c.objects d.object ≡ Some q)
      y = owned_lives types ordered hand c store a.object d.object (owned_counted types ordered hand c store k a d is two every refl)

      same : b.ty ≡ d.ty
      same = some_same (sym one.type ∙ two.type)

      x_ty : x.0.ty ≡ b.ty
      x_ty = owned_typed types ordered hand c store j a b is one x.0 x.1

      y_ty : y.0.ty ≡ d.ty
      y_ty = owned_typed types ordered hand c store k a d is two y.0 y.1

      lesser : (u v : Region) (o q : Object) → at c.objects u.object ≡ Some o → at c.objects v.object ≡ Some q → Beneath (kinds_of types) c (foot_of types u) v.object → o.ty ≡ q.ty → ⊥
      lesser u v o q top there low e =
          let less = beneath_lesser types ordered hand c store u v.object low o q top there in
          let r = ap (rank_of types) e in
          omega (arith, less, r)

  -- ---- from one start

  step_under : (j s : ℕ) (ks bs : List ℕ) (a k x : Region) (lk : Lies types c (j ∷ ks) a k) (lx : Lies types c (s ∷ bs) a x) → IsTrue types c a → Beneath (kinds_of types) c (foot_of types k) x.object
      → (IsTrue types c lk.0 → Lies types c bs lk.0 x → goes_under ks bs ≡ true) → goes_under (j ∷ ks) (s ∷ bs) ≡ true
  step_under j s ks bs a k x lk lx is low rest = go lk.1 lx.1
    where
      here : IsTrue types c lk.0
      here = goes_true types ordered hand c store j a lk.0 is lk.1

      -- k lies inside of the one step's region, and x of the other's
      never : IsApart types c lk.0 lx.0 → ⊥
      never apart =
          beneath_apart lk.0 lx.0 x apart
          (beneath_inside types ordered hand c store lk.0 k (lies_inside types ordered hand c store ks lk.0 k here lk.2) x.object low)
          (lies_inside types ordered hand c store bs lx.0 x (goes_true types ordered hand c store s a lx.0 is lx.1) lx.2)

      same : j ≡ s → lx.0 ≡ lk.0 → goes_under (j ∷ ks) (s ∷ bs) ≡ true
      same e one = more_under j s ks bs e (rest here (subst (λ r. Lies types c bs r x) one lx.2))

      go : Goes types c j a lk.0 → Goes types c s a lx.0 → goes_under (j ∷ ks) (s ∷ bs) ≡ true
      go (inl m) (inl n) = one_or_apart j s
          (λ e. same e (same_region lx.0 lk.0 (n.object ∙ sym m.object)
          (n.word ∙ ap (λ i. a.word + sum_by (width_at types) (take i (members_of types a.ty))) (sym e) ∙ sym m.word)
          (some_same (sym n.type ∙ ap (slice_get (members_of types a.ty)) (sym e) ∙ m.type))))
          (λ ne. absurd (never (members_apart j s a lk.0 lx.0 ne m n is)))
      go (inl m) (inr o) = absurd (no_members types (slice_get types.types a.ty.0) j lk.0.ty lx.0.ty m.type o.type)
      go (inr o) (inl m) = absurd (no_members types (slice_get types.types a.ty.0) s lx.0.ty lk.0.ty m.type o.type)
      go (inr o) (inr p) = one_or_apart lk.0.object lx.0.object
          (λ e. same (o.owned ∙ sym p.owned) (same_region lx.0 lk.0 (sym e) (p.word ∙ sym o.word) (some_same (sym p.type ∙ o.type))))
          (λ ne. absurd (never (owned_apart j s a lk.0 lx.0 ne o p is)))

  pub path_under : (ks bs : List ℕ) (a k x : Region) → Lies types c ks a k → Lies types c bs a x → IsTrue types c a → Beneath (kinds_of types) c (foot_of types k) x.object → goes_under ks bs ≡ true
  path_under [] bs a k x lk lx is low = go (list_any (λ step. nat_eq step owned_step) bs) refl
    where
      low_a : Beneath (kinds_of types) c (foot_of types a) x.object
      low_a = subst (λ r. Beneath (kinds_of types) c (foot_of types r) x.object) (sym lk) low

      go : (b : Bool) → list_any (λ step. nat_eq step owned_step) bs ≡ b → list_any (λ step. nat_eq step owned_step) bs ≡ true
      go true e = e
      go false e = absurd (not_itself types ordered hand c store a (subst (Beneath (kinds_of types) c (foot_of types a)) (stays types c bs a x lx e) low_a))
  path_under (j ∷ ks) [] a k x lk lx is low =
      absurd (not_itself types ordered hand c store a
      (beneath_inside types ordered hand c store a k (lies_inside types ordered hand c store (j ∷ ks) a k is lk) a.object
      (subst (λ r. Beneath (kinds_of types) c (foot_of types k) r.object) (sym lx) low)))
  path_under (j ∷ ks) (s ∷ bs) a k x lk lx is low = step_under j s ks bs a k x lk lx is low (λ here lies. path_under ks bs lk.0 k x lk.2 lies here low)

  -- ---- from any roots

  module _ (Stands : Root → Region → Type 0) (owning : Root → Bool) (rooted : AreRooted types c Stands owning) where
    pub under_place : (killed place : AbsPlace) (k x : Region) → owning killed.root ≡ true → IsAt types c Stands killed k → IsAt types c Stands place x → Beneath (kinds_of types) c (foot_of types k) x.object → places.under killed place ≡ true
    under_place killed place k x may at_k at_x low = go (compared.eq killed.root place.root) refl
      where
        go : (b : Bool) → compared.eq killed.root place.root ≡ b → (compared.eq killed.root place.root && goes_under (path killed) (path place)) ≡ true
        go true e =
            let one = rooted.one killed.root at_k.start at_x.start at_k.stands (subst (λ r. Stands r at_x.start) (sym (exact_root killed.root place.root e)) at_x.stands) in
            ap (λ b. b && goes_under (path killed) (path place)) e
            ∙ path_under (path killed) (path place) at_k.start k x at_k.lies (subst (λ r. Lies types c (path place) r x) (sym one) at_x.lies) (rooted.fits killed.root at_k.start at_k.stands) low
        go false e =
            let ne : killed.root ≢ place.root = λ h. absurd (false≢true (sym e ∙ ap (compared.eq killed.root) (sym h) ∙ root_laws.refl killed.root)) in
            absurd (beneath_apart at_k.start at_x.start x (rooted.apart killed.root place.root at_k.start at_x.start may ne at_k.stands at_x.stands)
            (beneath_inside types ordered hand c store at_k.start k (lies_inside types ordered hand c store (path killed) at_k.start k (rooted.fits killed.root at_k.start at_k.stands) at_k.lies) x.object low)
            (lies_inside types ordered hand c store (path place) at_x.start x (rooted.fits place.root at_x.start at_x.stands) at_x.lies))
