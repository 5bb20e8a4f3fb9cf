-- What stands in the store of a run can be copied, if its type holds no unique_ptr.
use Rattle.std.proofs.Common.{◌≡◌, ℕ, zero, suc, ◌<◌, List, [], ◌∷◌, Some, refl, sym, ap, subst, ◌∙◌, arith}
use Rattle.std.specs.Prelude.{drop, slice_get, slice_index, take}
use Rattle.life_types.specs.declared.ty.TyId.{TyId}
use Rattle.life_types.specs.Trees.{IsOrdered}
use Rattle.life_types.specs.Types.{Types}
use Rattle.life_store.specs.Cells.{at}
use Rattle.life_store.specs.Content.{Slot, Object, Content, word_in}
use Rattle.life_store.specs.Held.{owned_in}
use Rattle.life_store.specs.Kinds.{Owner, kind_in}
use Rattle.life_store.specs.Parts.{Parts, Single, Raw, Iterates, Views, Text, Vector, Unique, Member, NoMember, parts_at, width}
use Rattle.life_forest.specs.Kinds.{kinds_of, owned_type, rank_of}
use Rattle.life_forest.specs.Owned.{times}
use Rattle.life_forest.specs.Typed.{IsStore}
use Rattle.life_forest.specs.Values.{listed, owned_of, owned_slots, AllKnown, AllWide}
use Rattle.life_forest.proofs.Below.{lives}
use Rattle.life_forest.proofs.Counting.{one_same, times-append}
use Rattle.life_forest.proofs.FromTypes.{behind_back, behind_front, Flat}
use Rattle.life_forest.proofs.Laying.{made_at, IsMade}
use Rattle.life_forest.proofs.Shortening.{slots_owned}
use Rattle.life_forest.proofs.Steps.{owned_held}
use Rattle.life_values.specs.Copyable.{HasCopy, IsCopyable, IsReadable, IsReadableIf}

module _ (types : Types) (ordered : IsOrdered types) (hand : ℕ → ℕ) (c : Content) (store : IsStore types hand c) where
  abbrev AllLive : List ℕ → Type 0
  AllLive ns = (k : ℕ) → 0 < times ns k → (q : Object) × (at c.objects k ≡ Some q)

  abbrev CanCopy : ℕ → Parts → Type 0
  CanCopy bound p = (ws : List ℕ) → Flat types ordered hand c store p ws → AllLive (owned_of p ws) → IsCopyable types c bound p ws

  abbrev FlatSlots : Parts → List Slot → Type 0
  FlatSlots p ss = (i w m : ℕ) (q : Object) → kind_in p w ≡ Owner → word_in (slice_get ss i) w ≡ suc m → at c.objects m ≡ Some q → owned_type p w ≡ Some q.ty

  slots_copyable : (bound : ℕ) (p : Parts) → CanCopy bound p → (ss : List Slot) → FlatSlots p ss → AllLive (owned_slots p ss) → AllKnown (IsCopyable types c bound p) ss
  slots_copyable bound p one [] flat live = tt
  slots_copyable bound p one (s ∷ ss) flat live = (
    one s.words (λ w m q k e t. flat 0 w m q k e t) (λ k lt. let a = times-append (owned_of p s.words) (owned_slots p ss) k in live k (omega (arith, a, lt))),
    slots_copyable bound p one ss (λ i w m q k e t. flat (suc i) w m q k e t) (λ k lt. let a = times-append (owned_of p s.words) (owned_slots p ss) k in live k (omega (arith, a, lt))),
  )

  some_same : {x y : TyId} → Some x ≡ Some y → x ≡ y
  some_same e = cc

  object_readable : (bound : ℕ) (id : TyId) (p : Parts) → parts_at types id ≡ p → CanCopy bound p → (n : ℕ) (o : Object) → at c.objects n ≡ Some o → o.ty ≡ id → IsReadable types id p (IsCopyable types c bound p) c n
  object_readable bound id p made one n o there type =
      let fit = store.fit n o there in
      let is : parts_at types o.ty ≡ p = ap (parts_at types) type ∙ made in
      let words : o.width ≡ width p = fit.width ∙ ap width is in
      let kinds : (u : ℕ) → kind_in (parts_at types o.ty) u ≡ kind_in p u = λ u. ap (λ r. kind_in r u) is in
      record {
        born = store.forest.births n o there;
        object = o;
        there = there;
        type = type;
        parts = made;
        words = words;
        wide = subst (λ w. AllWide w o.slots) words fit.slots;
        slots = slots_copyable bound p one o.slots
            (subst (λ r. FlatSlots r o.slots) is (λ i w m q k s t. fit.owned i w m q k s t))
            (λ k lt. let a = slots_owned (kinds_of types) p o o.slots k kinds in
            let l = owned_held (kinds_of types) c n k o there in
            let h = store.forest.held k in
            lives (kinds_of types) c k (omega (arith, a, l, h, lt)));
      }

  owned_readable : (id : TyId) (p : Parts) → parts_at types id ≡ p → CanCopy (rank_of types id) p → (x : ℕ) → ((m : ℕ) (q : Object) → x ≡ suc m → at c.objects m ≡ Some q → Some id ≡ Some q.ty) → AllLive (listed (owned_in x))
      → IsReadableIf types id p (IsCopyable types c (rank_of types id) p) c (owned_in x)
  owned_readable id p made one zero flat live = tt
  owned_readable id p made one (suc n) flat live =
      let s = one_same n n refl in
      let q = live n (omega (arith, s)) in
      object_readable (rank_of types id) id p made one n q.0 q.1 (sym (some_same (flat n q.0 refl q.1)))

  pub copyable_from : (bound : ℕ) (p : Parts) → IsMade types ordered bound p → HasCopy p → CanCopy bound p
  copyable_from bound Single made has ws flat live = tt
  copyable_from bound Raw made has ws flat live = tt
  copyable_from bound Iterates made has ws flat live = tt
  copyable_from bound Views made has ws flat live = tt
  copyable_from bound (Text id) made has ws flat live = (made.0, owned_readable id Single made.1 (λ vs f b. tt) (slice_index ws 0) (λ m q e t. flat 0 m q refl e t) live)
  copyable_from bound (Vector id element) made has ws flat live = (made.0, owned_readable id element made.1 (copyable_from (rank_of types id) element made.2 has) (slice_index ws 0) (λ m q e t. flat 0 m q refl e t) live)
  copyable_from bound (Unique id target) made has ws flat live = absurd has
  copyable_from bound (Member first others) made has ws flat live = (
    copyable_from bound first made.0 has.0 (take (width first) ws)
        (λ w m q k e t. let r = behind_front (width first) (kind_in first) (kind_in others) (owned_type first) (owned_type others) ws w m e in sym r.1 ∙ flat w m q (r.0 ∙ k) r.2 t)
        (λ k lt. let a = times-append (owned_of first (take (width first) ws)) (owned_of others (drop (width first) ws)) k in live k (omega (arith, a, lt))),
    copyable_from bound others made.1 has.1 (drop (width first) ws)
        (λ w m q k e t. let r = behind_back (width first) (kind_in first) (kind_in others) (owned_type first) (owned_type others) ws w m e in sym r.2 ∙ flat r.0 m q (r.1 ∙ k) r.3 t)
        (λ k lt. let a = times-append (owned_of first (take (width first) ws)) (owned_of others (drop (width first) ws)) k in live k (omega (arith, a, lt))),
  )
  copyable_from bound NoMember made has ws flat live = tt

  -- each object, by its type
  pub is_readable : (n : ℕ) (o : Object) → at c.objects n ≡ Some o → HasCopy (parts_at types o.ty) → IsReadable types o.ty (parts_at types o.ty) (IsCopyable types c (rank_of types o.ty) (parts_at types o.ty)) c n
  is_readable n o there has =
      object_readable (rank_of types o.ty) o.ty (parts_at types o.ty) refl (copyable_from (rank_of types o.ty) (parts_at types o.ty) (made_at types ordered o.ty) has) n o there refl
