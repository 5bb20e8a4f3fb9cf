-- What all words of a store are says what is known of each value.
use Rattle.std.proofs.Common.{◌≡◌, ℕ, zero, suc, ◌<◌, List, [], ◌∷◌, Some, refl, sym, ap, subst, ◌∙◌, arith}
use Rattle.std.specs.Prelude.{drop, slice_get, slice_index, take}
use Rattle.life_types.specs.declared.ty.TyId.{TyId}
use Rattle.life_types.specs.Trees.{IsOrdered}
use Rattle.life_types.specs.Types.{Types}
use Rattle.life_store.specs.Cells.{at}
use Rattle.life_store.specs.Content.{Slot, Object, Content, word_in}
use Rattle.life_store.specs.Held.{owned_in}
use Rattle.life_store.specs.Parts.{Parts, Single, Raw, Iterates, Views, Text, Vector, Unique, Member, NoMember, parts_at, width}
use Rattle.life_forest.specs.Kinds.{kinds_of, owned_type, rank_of}
use Rattle.life_store.specs.Kinds.{Kind, Owner, row_behind, kind_in}
use Rattle.life_forest.specs.Owned.{times}
use Rattle.life_forest.specs.Typed.{IsStore}
use Rattle.life_forest.specs.Values.{listed, owned_of, owned_slots, AllKnown, AllWide, IsOf, OwnedKnown, Known}
use Rattle.life_forest.proofs.Below.{lives}
use Rattle.life_forest.proofs.Counting.{one_same, times-append}
use Rattle.life_forest.proofs.Laying.{IsMade, made_at}
use Rattle.life_forest.proofs.Shortening.{slots_owned}
use Rattle.life_forest.proofs.Steps.{owned_held}

-- ---- the words of a struct are those of its first member, and behind them those of the others

no_word : {A : Type 0} (u m : ℕ) → slice_index [] u ≡ suc m → A
no_word u m e = absurd (omega (arith, e))

pub behind_front : {A : Type 0} (n : ℕ) (f g : ℕ → Kind) (a b : ℕ → A) (ws : List ℕ) (u m : ℕ) → slice_index (take n ws) u ≡ suc m → (row_behind n f g u ≡ f u) × (row_behind n a b u ≡ a u) × (slice_index ws u ≡ suc m)
behind_front zero f g a b ws u m e = no_word u m e
behind_front (suc n) f g a b [] u m e = no_word u m e
behind_front (suc n) f g a b (x ∷ xs) zero m e = (refl, refl, e)
behind_front (suc n) f g a b (x ∷ xs) (suc u) m e = behind_front n (λ v. f (suc v)) g (λ v. a (suc v)) b xs u m e

pub behind_back : {A : Type 0} (n : ℕ) (f g : ℕ → Kind) (a b : ℕ → A) (ws : List ℕ) (u m : ℕ) → slice_index (drop n ws) u ≡ suc m
    → (v : ℕ) × (row_behind n f g v ≡ g u) × (row_behind n a b v ≡ b u) × (slice_index ws v ≡ suc m)
behind_back zero f g a b ws u m e = (u, refl, refl, e)
behind_back (suc n) f g a b [] u m e = no_word u m e
behind_back (suc n) f g a b (x ∷ xs) u m e = let r = behind_back n (λ v. f (suc v)) g (λ v. a (suc v)) b xs u m e in (suc r.0, r.1, r.2, r.3)

module _ (types : Types) (ordered : IsOrdered types) (hand : ℕ → ℕ) (c : Content) (store : IsStore types hand c) where
  -- the owners among the words own objects of the types that the parts name
  abbrev pub Flat : Parts → List ℕ → Type 0
  Flat p ws = (w m : ℕ) (q : Object) → kind_in p w ≡ Owner → slice_index ws w ≡ suc m → at c.objects m ≡ Some q → owned_type p w ≡ Some q.ty

  abbrev FlatSlots : Parts → List Slot → Type 0
  FlatSlots p ss = (i w m : ℕ) (q : Object) → kind_in p w ≡ Owner → word_in (slice_get ss i) w ≡ suc m → at c.objects m ≡ Some q → owned_type p w ≡ Some q.ty

  abbrev pub Knows : Parts → Type 0
  Knows p = (ws : List ℕ) → Flat p ws → ((k : ℕ) → 0 < times (owned_of p ws) k → k < c.births) → Known (kinds_of types) c p ws

  slots_known : (p : Parts) → Knows p → (ss : List Slot) → FlatSlots p ss → ((k : ℕ) → 0 < times (owned_slots p ss) k → k < c.births) → AllKnown (Known (kinds_of types) c p) ss
  slots_known p one [] flat born = tt
  slots_known p one (s ∷ ss) flat born = (
    one s.words (λ w m q k e t. flat 0 w m q k e t) (λ k lt. let a = times-append (owned_of p s.words) (owned_slots p ss) k in born k (omega arith)),
    slots_known p one ss (λ i w m q k e t. flat (suc i) w m q k e t) (λ k lt. let a = times-append (owned_of p s.words) (owned_slots p ss) k in born k (omega arith)),
  )

  some_same : {x y : TyId} → Some x ≡ Some y → x ≡ y
  some_same e = cc

  pub object_known : (p : Parts) → Knows p → (n : ℕ) (o : Object) → at c.objects n ≡ Some o → parts_at types o.ty ≡ p → IsOf (kinds_of types) p o (Known (kinds_of types) c p)
  object_known p one n o there e =
      let wide = store.fit n o there in
      let words : o.width ≡ width p = wide.width ∙ ap width e in
      let kinds : (u : ℕ) → kind_in (parts_at types o.ty) u ≡ kind_in p u = λ u. ap (λ r. kind_in r u) e in
      record {
        kinds = kinds;
        words = words;
        wide = subst (λ w. AllWide w o.slots) words wide.slots;
        slots = slots_known p one o.slots
            (subst (λ r. FlatSlots r o.slots) e (λ i w m q k s t. wide.owned i w m q k s t))
            (λ k lt. let a = slots_owned (kinds_of types) p o o.slots k kinds in
            let l = owned_held (kinds_of types) c n k o there in
            let h = store.forest.held k in
            let x = lives (kinds_of types) c k (omega arith) in
            store.forest.births k x.0 x.1);
      }

  owned_known : (id : TyId) (p : Parts) → parts_at types id ≡ p → Knows p → (x : ℕ) → ((m : ℕ) (q : Object) → x ≡ suc m → at c.objects m ≡ Some q → Some id ≡ Some q.ty)
      → ((k : ℕ) → 0 < times (listed (owned_in x)) k → k < c.births) → OwnedKnown (kinds_of types) c p (Known (kinds_of types) c p) (owned_in x)
  owned_known id p is one zero flat born = tt
  owned_known id p is one (suc n) flat born = (
    born n (let s = one_same n n refl in omega arith),
    λ o there. object_known p one n o there (ap (parts_at types) (sym (some_same (flat n o refl there))) ∙ is),
  )

  pub known_from : (bound : ℕ) (p : Parts) → IsMade types ordered bound p → Knows p
  known_from bound Single made ws flat born = tt
  known_from bound Raw made ws flat born = tt
  known_from bound Iterates made ws flat born = tt
  known_from bound Views made ws flat born = tt
  known_from bound (Text id) made ws flat born = owned_known id Single made.1 (λ vs f b. tt) (slice_index ws 0) (λ m q e t. flat 0 m q refl e t) born
  known_from bound (Vector id element) made ws flat born = owned_known id element made.1 (known_from (rank_of types id) element made.2) (slice_index ws 0) (λ m q e t. flat 0 m q refl e t) born
  known_from bound (Unique id target) made ws flat born = owned_known id target made.1 (known_from (rank_of types id) target made.2) (slice_index ws 0) (λ m q e t. flat 0 m q refl e t) born
  known_from bound (Member first others) made ws flat born = (
    known_from bound first made.0 (take (width first) ws)
        (λ w m q k e t. let r = behind_front (width first) (kind_in first) (kind_in others) (owned_type first) (owned_type others) ws w m e in sym r.1 ∙ flat w m q (r.0 ∙ k) r.2 t)
        (λ k lt. let a = times-append (owned_of first (take (width first) ws)) (owned_of others (drop (width first) ws)) k in born k (omega arith)),
    known_from bound others made.1 (drop (width first) ws)
        (λ w m q k e t. let r = behind_back (width first) (kind_in first) (kind_in others) (owned_type first) (owned_type others) ws w m e in sym r.2 ∙ flat r.0 m q (r.1 ∙ k) r.3 t)
        (λ k lt. let a = times-append (owned_of first (take (width first) ws)) (owned_of others (drop (width first) ws)) k in born k (omega arith)),
  )
  known_from bound NoMember made ws flat born = tt

  -- of each object, by its type
  pub object_is_known : (n : ℕ) (o : Object) → at c.objects n ≡ Some o → IsOf (kinds_of types) (parts_at types o.ty) o (Known (kinds_of types) c (parts_at types o.ty))
  object_is_known n o there = object_known (parts_at types o.ty) (known_from (rank_of types o.ty) (parts_at types o.ty) (made_at types ordered o.ty)) n o there refl
