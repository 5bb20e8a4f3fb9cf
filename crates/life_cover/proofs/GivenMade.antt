-- A new object is given the value of a temporary, which is no more then: nothing else is touched, and each vector and each string has its buffer.
use Rattle.std.proofs.Common.{◌≡◌, ◌⊎◌, inr, ℕ, suc, ◌+◌, ◌≤◌, ◌<◌, List, [], ◌∷◌, length, Option, Some, refl, sym, ap, subst, ◌∙◌, arith}
use Rattle.std.specs.Prelude.{slice_get}
use Rattle.life_types.specs.Trees.{IsOrdered}
use Rattle.life_types.specs.Types.{Types}
use Rattle.life_types.specs.declared.ty.TyId.{TyId}
use Rattle.life_store.specs.Cells.{at, at-unset_other}
use Rattle.life_store.specs.Content.{Content, Object, Slot, without}
use Rattle.life_store.specs.Effects.{Got, Setting, then_get}
use Rattle.life_store.specs.Held.{slot_words, slots_if, words_if, wrote}
use Rattle.life_store.specs.Owners.{Words, consumed, object_with, sized_birth, taken}
use Rattle.life_store.specs.Parts.{parts_at, width, width_at}
use Rattle.life_store.proofs.CellLemmas.{some_same}
use Rattle.life_store.proofs.MapLemmas.{one_or_apart}
use Rattle.life_forest.specs.Forest.{Beneath, IsForest, Touches, all_of, under, whole}
use Rattle.life_forest.specs.Kinds.{kinds_of, rank_of}
use Rattle.life_forest.specs.Owned.{every, owns, owns_if, times}
use Rattle.life_forest.specs.Typed.{AreFit, IsStore}
use Rattle.life_forest.specs.Values.{AllWide, owned_of}
use Rattle.life_forest.specs.Within.{LiesWithin}
use Rattle.life_forest.proofs.Below.{empty_handed, is_positive, lives}
use Rattle.life_forest.proofs.Coming.{IfGot, came_touches, got_then}
use Rattle.life_forest.proofs.Consuming.{consumed_forest, consumed_old, consumed_others, consumed_touches, consumed_wide}
use Rattle.life_forest.proofs.Copying.{Sized, sized_birth_came}
use Rattle.life_forest.proofs.Counting.{one_same, one_there}
use Rattle.life_forest.proofs.Feet.{and_all, within_all, within_self}
use Rattle.life_forest.proofs.FittingBirths.{got_both}
use Rattle.life_forest.proofs.FittingCopies.{sized_fit}
use Rattle.life_forest.proofs.FittingTaken.{consumed_fit}
use Rattle.life_forest.proofs.Lying.{LiesAt, touches_beneath}
use Rattle.life_forest.proofs.Members as members
use Rattle.life_forest.proofs.Spots.{lies_at}
use Rattle.life_forest.proofs.Steps.{owned_held, touches_then}
use Rattle.life_cover.specs.Buffered.{AreBut, HasBuffers}
use Rattle.life_cover.proofs.Buffering.{without_but}
use Rattle.life_cover.proofs.PushedBuffers.{value_put, wide_at}
use Rattle.life_cover.proofs.Rebuffering.{IsFree, IsSized, IsTaken, sized_but, taken_but}
use Rattle.life_cover.proofs.Recopying.{written_in}

module _ (types : Types) (ordered : IsOrdered types) (hand : ℕ → ℕ) (c : Content) (m : ℕ) (store : IsStore types (λ k. times (m ∷ []) k + hand k) c) (om : Object) (sl : Slot) (m_there : at c.objects m ≡ Some om) (one_slot : om.slots ≡ sl ∷ []) (ty : TyId) (m_type : om.ty ≡ ty) (s : Setting) where
  pub given_wide : length sl.words ≡ width_at types ty
  given_wide = let fit = store.fit m om m_there in (subst (AllWide om.width) one_slot fit.slots).0 ∙ fit.width ∙ ap (width_at types) m_type

  kinds : (u : ℕ) → (kinds_of types).word om.ty u ≡ (kinds_of types).word ty u
  kinds u = ap (λ t. (kinds_of types).word t u) m_type

  names : (u : ℕ) → (kinds_of types).owned om.ty u ≡ (kinds_of types).owned ty u
  names u = ap (λ t. (kinds_of types).owned t u) m_type

  m_born : m < c.births
  m_born = store.forest.births m om m_there

  -- ---- what is touched

  module _ (b : ℕ × Content) (sized : Sized (kinds_of types) (suc (rank_of types ty)) (λ k. times (m ∷ []) k + hand k) ty (width_at types ty) 1 c b) (fit : AreFit (kinds_of types) b.1) where
    abbrev v : Words
    v = consumed (parts_at types ty) m b.1

    there_m : at b.1.objects m ≡ Some om
    there_m = sized.came.same m m_born ∙ m_there

    forest_b : IsForest (kinds_of types) (λ k. times (m ∷ []) k + (times (b.0 ∷ []) k + hand k)) b.1
    forest_b = empty_handed (kinds_of types) (λ k. times (b.0 ∷ []) k + (times (m ∷ []) k + hand k)) (λ k. times (m ∷ []) k + (times (b.0 ∷ []) k + hand k)) b.1 (λ k. omega arith) sized.came.forest

    -- the value is what it owned
    new_unowned : owns (kinds_of types) every om b.0 ≡ 0
    new_unowned = one_or_apart (owns (kinds_of types) every om b.0) 0 (λ z. z) (λ nz. absurd (owned_new (omega (arith, nz))))
      where
        owned_new : 0 < owns (kinds_of types) every om b.0 → ⊥
        owned_new own =
            let l = owned_held (kinds_of types) c m b.0 om m_there in
            let f = store.forest.held b.0 in
            let q = lives (kinds_of types) c b.0 (omega (arith, own, l, f)) in
            let born = store.forest.births b.0 q.0 q.1 in
            let n = sized.number in
            omega (arith, born, n)

    new_there : at v.1.objects b.0 ≡ Some sized.object
    new_there =
        consumed_others (kinds_of types) (parts_at types ty) m b.1 (λ k. times (b.0 ∷ []) k + hand k) om sl there_m one_slot kinds given_wide forest_b b.0 (sized.came.forest.births b.0 sized.object sized.there)
        (λ e. let n = sized.number in let l = m_born in omega (arith, e, n, l)) new_unowned
        ∙ sized.there

    store_v : IsStore types (λ k. times (owned_of (parts_at types ty) v.0) k + (times (b.0 ∷ []) k + hand k)) v.1
    store_v = record {
      forest = consumed_forest (kinds_of types) (parts_at types ty) m b.1 (λ k. times (b.0 ∷ []) k + hand k) om sl there_m one_slot kinds given_wide forest_b;
      fit = (consumed_fit (kinds_of types) (parts_at types ty) m b.1 (λ k. times (b.0 ∷ []) k + hand k) om sl there_m one_slot kinds names given_wide forest_b fit).0;
    }

    lies : LiesAt (kinds_of types) v.1 (record { object = b.0; index = 0; word = 0 }) (parts_at types ty) sized.object
    lies =
        lies_at types ordered (λ k. times (owned_of (parts_at types ty) v.0) k + (times (b.0 ∷ []) k + hand k)) v.1 store_v b.0 0 0 ty sized.object new_there
        (subst (λ x. LiesWithin types x 0 ty) (sym sized.type) (members.within_self types ty)) (let n = sized.count in omega (arith, n))

    -- first it is taken
    taken_touches : Touches (kinds_of types) (all_of (m ∷ [])) c v.1
    taken_touches =
        touches_then (kinds_of types) (λ k. times (m ∷ []) k + hand k) c store.forest (all_of (m ∷ [])) (all_of (m ∷ [])) (all_of (m ∷ [])) b.1 v.1
        (came_touches (kinds_of types) (all_of (m ∷ [])) (suc (rank_of types ty)) (λ k. times (m ∷ []) k + hand k) (b.0 ∷ []) c b.1 sized.came)
        (consumed_touches (kinds_of types) (parts_at types ty) m b.1 (λ k. times (b.0 ∷ []) k + hand k) om sl there_m one_slot kinds given_wide forest_b (all_of (m ∷ [])) (whole m (is_positive (times (m ∷ []) m) (let i = one_same m m refl in omega (arith, i)))))
        (within_self (kinds_of types) c (all_of (m ∷ []))) (within_self (kinds_of types) c (all_of (m ∷ [])))

    -- then it is written
    put_touches : Touches (kinds_of types) (and_all (all_of (m ∷ [])) (b.0 ∷ owned_of (parts_at types ty) v.0)) v.1 (wrote b.0 0 0 v.0 v.1)
    put_touches =
        touches_beneath (kinds_of types) v.1 (record { object = b.0; index = 0; word = 0 }) (parts_at types ty) sized.object lies v.0
        (consumed_wide (kinds_of types) (parts_at types ty) m b.1 (λ k. times (b.0 ∷ []) k + hand k) om sl there_m one_slot kinds given_wide forest_b) (and_all (all_of (m ∷ [])) (b.0 ∷ owned_of (parts_at types ty) v.0))
        (whole b.0 (is_positive (times (b.0 ∷ owned_of (parts_at types ty) v.0) b.0) (let i = one_same b.0 b.0 refl in omega (arith, i))))
        (λ k lt more. whole k (is_positive (times (b.0 ∷ owned_of (parts_at types ty) v.0) k) (omega (arith, more))))

    -- all that is old of it was its own
    old : (n : ℕ) → 0 < times (b.0 ∷ owned_of (parts_at types ty) v.0) n → n < c.births → Beneath (kinds_of types) c (all_of (m ∷ [])) n
    old n lt born = one_or_apart (times (owned_of (parts_at types ty) v.0) n) 0
        (λ z. let e = one_there b.0 n (omega (arith, lt, z)) in let new = sized.number in absurd (omega (arith, e, new, born)))
        (λ nz.
        let was = consumed_old (kinds_of types) (parts_at types ty) m b.1 (λ k. times (b.0 ∷ []) k + hand k) om sl there_m one_slot kinds given_wide forest_b n (omega (arith, nz)) (let a = sized.came.births in omega (arith, a, born)) in
        under m n (whole m (is_positive (times (m ∷ []) m) (let i = one_same m m refl in omega (arith, i)))) (subst (λ (x : Option Object). 0 < owns_if (kinds_of types) every x n) (sym m_there) was))

    both : Touches (kinds_of types) (all_of (m ∷ [])) c (wrote b.0 0 0 v.0 v.1) × (c.births ≤ b.0)
    both = (
      touches_then (kinds_of types) (λ k. times (m ∷ []) k + hand k) c store.forest (all_of (m ∷ [])) (and_all (all_of (m ∷ [])) (b.0 ∷ owned_of (parts_at types ty) v.0)) (all_of (m ∷ [])) v.1 (wrote b.0 0 0 v.0 v.1) taken_touches put_touches
          (within_self (kinds_of types) c (all_of (m ∷ []))) (within_all (kinds_of types) c (all_of (m ∷ [])) (b.0 ∷ owned_of (parts_at types ty) v.0) old),
      let n = sized.number in omega (arith, n),
    )

  pub given_touches : IfGot (object_with s ty (parts_at types ty) (λ d. Got (consumed (parts_at types ty) m d)) c) (λ b. Touches (kinds_of types) (all_of (m ∷ [])) c b.1 × (c.births ≤ b.0))
  given_touches =
      got_then (sized_birth s ty (width_at types ty) 1 c) (λ b. then_get {A = Words} (Got (consumed (parts_at types ty) m b.1)) (λ v. Got (b.0, wrote b.0 0 0 v.0 v.1)))
      (λ b. Sized (kinds_of types) (suc (rank_of types ty)) (λ k. times (m ∷ []) k + hand k) ty (width_at types ty) 1 c b × AreFit (kinds_of types) b.1) (λ b. Touches (kinds_of types) (all_of (m ∷ [])) c b.1 × (c.births ≤ b.0))
      (got_both (sized_birth s ty (width_at types ty) 1 c) (Sized (kinds_of types) (suc (rank_of types ty)) (λ k. times (m ∷ []) k + hand k) ty (width_at types ty) 1 c) (λ b. AreFit (kinds_of types) b.1)
      (sized_birth_came (kinds_of types) (suc (rank_of types ty)) (λ k. times (m ∷ []) k + hand k) ty (width_at types ty) 1 c (omega arith) store.forest s)
      (sized_fit (kinds_of types) s ty (width_at types ty) 1 (λ k. times (m ∷ []) k + hand k) c store.forest refl store.fit))
      (λ b h. both b h.0 h.1)

  -- ---- buffers

  module _ (bare : ℕ → Type 0) (has : HasBuffers (parts_at types ty) sl.words) (free : (f : ℕ) → c.births ≤ f → IsFree types (parts_at types ty) (λ k. bare k ⊎ (k ≡ f)) sl.words) where
    module _ (f : ℕ × Content) (sized : IsSized c ty (width (parts_at types ty)) 1 f) (buffers : AreBut types (λ k. bare k ⊎ (k ≡ f.0)) f.1) where
      words : slot_words f.1 m 0 ≡ sl.words
      words = ap (λ (x : Option Object). words_if (slice_get (slots_if x) 0)) (sized.others m m_born ∙ m_there) ∙ ap (λ (ss : List Slot). words_if (slice_get ss 0)) one_slot

      took : IsTaken types (parts_at types ty) (λ k. bare k ⊎ (k ≡ f.0)) f.0 f.1 (taken (parts_at types ty) sl.words f.1)
      took =
          taken_but types (parts_at types ty) (λ k. bare k ⊎ (k ≡ f.0)) f.0 (inr refl) sl.words given_wide has (free f.0 (let n = sized.number in omega (arith, n))) f.1 (let n = sized.number in let b = sized.births in omega (arith, n, b)) buffers

      there : at (without m (taken (parts_at types ty) sl.words f.1).1).objects f.0 ≡ Some sized.object
      there = at-unset_other (taken (parts_at types ty) sl.words f.1).1.objects m f.0 (λ e. let n = sized.number in let l = m_born in absurd (omega (arith, e, n, l))) ∙ took.same ∙ sized.there

      given_in : AreBut types bare (wrote f.0 0 0 (consumed (parts_at types ty) m f.1).0 (consumed (parts_at types ty) m f.1).1)
      given_in =
          subst (λ (ws : List ℕ). AreBut types bare (wrote f.0 0 0 (taken (parts_at types ty) ws f.1).0 (without m (taken (parts_at types ty) ws f.1).1))) (sym words)
          (written_in types ordered s bare f.0 (taken (parts_at types ty) sl.words f.1).0 (without m (taken (parts_at types ty) sl.words f.1).1)
          (λ o e.
          let same : sized.object ≡ o = some_same (sym there ∙ e) in
          value_put types (parts_at types ty) o 0 (taken (parts_at types ty) sl.words f.1).0 (sym (ap (λ (x : Object). parts_at types x.ty) same) ∙ ap (parts_at types) sized.type) (λ i t lt k. absurd (omega (arith, lt)))
          (let n = ap (λ (x : Object). length x.slots) same in let one = sized.count in omega (arith, n, one))
          (λ t k. wide_at (width (parts_at types ty)) 0 o.slots t (subst (λ (x : Object). AllWide (width (parts_at types ty)) x.slots) same sized.wide) k) took.has took.wide)
          (without_but types (λ k. bare k ⊎ (k ≡ f.0)) m (taken (parts_at types ty) sl.words f.1).1 took.buffers))

    pub given_buffered : AreBut types bare c → IfGot (object_with s ty (parts_at types ty) (λ d. Got (consumed (parts_at types ty) m d)) c) (λ b. AreBut types bare b.1)
    given_buffered h =
        got_then (sized_birth s ty (width (parts_at types ty)) 1 c) (λ b. then_get {A = Words} (Got (consumed (parts_at types ty) m b.1)) (λ v. Got (b.0, wrote b.0 0 0 v.0 v.1))) (λ f. IsSized c ty (width (parts_at types ty)) 1 f × AreBut types (λ k. bare k ⊎ (k ≡ f.0)) f.1)
        (λ b. AreBut types bare b.1)
        (sized_but types s ty (width (parts_at types ty)) 1 c bare h)
        (λ f k. given_in f k.0 k.1)
