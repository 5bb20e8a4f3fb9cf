-- Every content of a run stays one where a new object is given what is in the hand: a slot's unique_ptr, and what make_unique is given.
use Rattle.std.proofs.Common.{◌≡◌, ◌≢◌, ℕ, suc, ◌+◌, ◌≤◌, ◌<◌, [], ◌∷◌, length, Option, Some, None, refl, sym, ap, subst, ◌∙◌, arith}
use Rattle.life_types.specs.Trees.{IsOrdered}
use Rattle.life_types.specs.Types.{Types}
use Rattle.life_types.specs.declared.ty.TyId.{TyId}
use Rattle.life_store.specs.Cells.{at, at-set_same, at-set_other, at-unset_other}
use Rattle.life_store.specs.Content.{Slot, Object, Content, without}
use Rattle.life_store.specs.Effects.{Setting, Got, then_get}
use Rattle.life_store.specs.Held.{owned_in, owner_word, wrote}
use Rattle.life_store.specs.Owners.{Words, consumed, object_with, sized_birth}
use Rattle.life_store.specs.Parts.{Parts, Single, Unique, parts_at, width, width_at}
use Rattle.life_store.specs.Places.{wrote_spot}
use Rattle.life_store.proofs.MapLemmas.{one_or_apart}
use Rattle.life_forest.specs.Kinds.{kinds_of, rank_of}
use Rattle.life_forest.specs.Owned.{every, times, owns}
use Rattle.life_forest.specs.Forest.{IsForest}
use Rattle.life_forest.specs.Typed.{AreFit, IsStore}
use Rattle.life_forest.specs.Values.{AllWide, listed, owned_of}
use Rattle.life_forest.specs.Within.{LiesWithin}
use Rattle.life_forest.proofs.Below.{empty_handed, lives}
use Rattle.life_forest.proofs.Beside.{wrote_without}
use Rattle.life_forest.proofs.Coming.{IfGot, got_then}
use Rattle.life_forest.proofs.Consuming.{consumed_forest, consumed_others, consumed_wide, out}
use Rattle.life_forest.proofs.Copying.{Sized, sized_birth_came}
use Rattle.life_forest.proofs.Fitting.{Flat, fit_without_all, flat_later}
use Rattle.life_forest.proofs.FittingBirths.{came_keeps, got_both}
use Rattle.life_forest.proofs.FittingCopies.{sized_fit}
use Rattle.life_forest.proofs.FittingTaken.{consumed_fit, value_flat}
use Rattle.life_forest.proofs.Members.{within_self}
use Rattle.life_forest.proofs.Steps.{owned_held}
use Rattle.life_forest.proofs.Stores.{wrote_store}
use Rattle.life_forest.proofs.Puts.{wrote_is}

-- a new object of the type is there, and so is another one, as it was
pub record Stands (ty : TyId) (n : ℕ) (o : Object) (b : ℕ × Content) : Type 0 where
  pub object : Object
  pub there : at b.1.objects b.0 ≡ Some object
  pub type : object.ty ≡ ty
  pub other : at b.1.objects n ≡ Some o

module _ (types : Types) (ordered : IsOrdered types) (hand : ℕ → ℕ) (c : Content) where
  -- what a new object's one slot is given, whatever was done with it before
  given_store : (ty : TyId) (w : ℕ) (before : ℕ → ℕ) (b : ℕ × Content) (sized : Sized (kinds_of types) (suc (rank_of types ty)) before ty w 1 c b) (held : ℕ → ℕ) (v : Words) → IsStore types held v.1 → at v.1.objects b.0 ≡ Some sized.object
      → length v.0 ≡ width_at types ty → Flat v.1 (parts_at types ty) v.0 → ((k : ℕ) → (times (b.0 ∷ []) k + hand k) + times (owned_of (parts_at types ty) v.0) k ≤ held k) → IsStore types (λ k. times (b.0 ∷ []) k + hand k) (wrote b.0 0 0 v.0 v.1)
  given_store ty w before b sized held v store there wide flat less =
      wrote_store types ordered (λ k. times (b.0 ∷ []) k + hand k) held v.1 store b.0 0 0 ty sized.object there (subst (λ x. LiesWithin types x 0 ty) (sym sized.type) (within_self types ty))
      (let n = sized.count in omega arith) v.0 wide flat (λ k. let l = less k in omega arith)

  -- ---- a slot: a unique_ptr of its own, with what the other one had

  pub slot_store : (s : Setting) (ty target : TyId) (q : Parts) (owned : Option ℕ) → parts_at types ty ≡ Unique target q → IsStore types (λ k. times (listed owned) k + hand k) c → Flat c (parts_at types ty) (owner_word owned ∷ [])
      → IfGot (object_with s ty Single (λ d. Got (owner_word owned ∷ [], d)) c) (λ b. IsStore types (λ k. times (b.0 ∷ []) k + hand k) b.1)
  slot_store s ty target q owned is_unique store flat =
      let before : ℕ → ℕ = λ k. times (listed owned) k + hand k in
      got_then (sized_birth s ty 1 1 c) (λ b. then_get {A = Words} (Got (owner_word owned ∷ [], b.1)) (λ v. Got (b.0, wrote b.0 0 0 v.0 v.1)))
      (λ b. Sized (kinds_of types) (suc (rank_of types ty)) (λ k. times (listed owned) k + hand k) ty 1 1 c b × AreFit (kinds_of types) b.1) (λ b. IsStore types (λ k. times (b.0 ∷ []) k + hand k) b.1)
      (got_both (sized_birth s ty 1 1 c) (Sized (kinds_of types) (suc (rank_of types ty)) (λ k. times (listed owned) k + hand k) ty 1 1 c) (λ b. AreFit (kinds_of types) b.1)
      (sized_birth_came (kinds_of types) (suc (rank_of types ty)) (λ k. times (listed owned) k + hand k) ty 1 1 c (omega arith) store.forest s)
      (sized_fit (kinds_of types) s ty 1 1 (λ k. times (listed owned) k + hand k) c store.forest (ap width is_unique) store.fit))
      (λ b h.
      given_store ty 1 (λ k. times (listed owned) k + hand k) b h.0 (λ k. times (b.0 ∷ []) k + (times (listed owned) k + hand k)) (owner_word owned ∷ [], b.1) (record { forest = h.0.came.forest; fit = h.1 }) h.0.there
      (sym (ap width is_unique))
      (flat_later c b.1 (parts_at types ty) (owner_word owned ∷ [])
      (λ m lt. let e = owned_is m in let f = store.forest.held m in lives (kinds_of types) c m (omega arith))
      (came_keeps (kinds_of types) (suc (rank_of types ty)) (λ k. times (listed owned) k + hand k) (λ k. times (listed owned) k + hand k) (b.0 ∷ []) c b.1 store.forest h.0.came) flat)
      (λ k. let e = owned_is k in omega arith))
    where
      back : (x : Option ℕ) → listed (owned_in (owner_word x)) ≡ listed x
      back None = refl
      back (Some n) = refl

      owned_is : (k : ℕ) → times (owned_of (parts_at types ty) (owner_word owned ∷ [])) k ≡ times (listed owned) k
      owned_is k = ap (λ r. times (owned_of r (owner_word owned ∷ [])) k) is_unique ∙ ap (λ xs. times xs k) (back owned)

  -- ---- .. and it gives it back, and is no more

  pub slot_back_store : (m : ℕ) (om : Object) (sl : Slot) (n i w : ℕ) (o : Object) → IsStore types (λ k. times (m ∷ []) k + hand k) c → at c.objects m ≡ Some om → om.slots ≡ sl ∷ [] → at c.objects n ≡ Some o → n ≢ m → LiesWithin types o.ty w om.ty → i < length o.slots
      → IsStore types hand (without m (wrote_spot (record { object = n; index = i; word = w }) sl.words c))
  slot_back_store m om sl n i w o store m_there one_slot there apart within lt =
      let fit = store.fit m om m_there in
      let p = parts_at types om.ty in
      let wide : length sl.words ≡ width_at types om.ty = (subst (AllWide om.width) one_slot fit.slots).0 ∙ fit.width in
      let left : IsStore types (λ k. times (owned_of (parts_at types om.ty) sl.words) k + hand k) (without m c) =
      record {
        forest = out (kinds_of types) (parts_at types om.ty) m c hand om sl m_there one_slot (λ u. refl) wide store.forest;
        fit = fit_without_all (kinds_of types) (m ∷ []) c store.fit;
      } in
      subst (IsStore types hand) (wrote_without n m i w sl.words c apart)
      (wrote_store types ordered hand (λ k. times (owned_of p sl.words) k + hand k) (without m c) left n i w om.ty o (at-unset_other c.objects m n (λ e. apart (sym e)) ∙ there) within lt sl.words wide
      (value_flat (kinds_of types) p m c hand om sl m_there one_slot (λ u. refl) (λ u. refl) wide store.forest store.fit)
      (λ k. omega arith))

  -- ---- a new object is given what a temporary of the type had

  pub given_over_store : (s : Setting) (ty : TyId) (m : ℕ) (om : Object) (sl : Slot) → IsStore types (λ k. times (m ∷ []) k + hand k) c → at c.objects m ≡ Some om → om.slots ≡ sl ∷ [] → om.ty ≡ ty
      → IfGot (object_with s ty (parts_at types ty) (λ d. Got (consumed (parts_at types ty) m d)) c) (λ b. IsStore types (λ k. times (b.0 ∷ []) k + hand k) b.1)
  given_over_store s ty m om sl store m_there one_slot m_type =
      got_then (sized_birth s ty (width_at types ty) 1 c) (λ b. then_get {A = Words} (Got (consumed (parts_at types ty) m b.1)) (λ v. Got (b.0, wrote b.0 0 0 v.0 v.1)))
      (λ b. Sized (kinds_of types) (suc (rank_of types ty)) (λ k. times (m ∷ []) k + hand k) ty (width_at types ty) 1 c b × AreFit (kinds_of types) b.1) (λ b. IsStore types (λ k. times (b.0 ∷ []) k + hand k) b.1)
      (got_both (sized_birth s ty (width_at types ty) 1 c) (Sized (kinds_of types) (suc (rank_of types ty)) (λ k. times (m ∷ []) k + hand k) ty (width_at types ty) 1 c) (λ b. AreFit (kinds_of types) b.1)
      (sized_birth_came (kinds_of types) (suc (rank_of types ty)) (λ k. times (m ∷ []) k + hand k) ty (width_at types ty) 1 c (omega arith) store.forest s)
      (sized_fit (kinds_of types) s ty (width_at types ty) 1 (λ k. times (m ∷ []) k + hand k) c store.forest refl store.fit))
      (λ b h. given b h.0 h.1)
    where
      wide : length sl.words ≡ width_at types ty
      wide = let fit = store.fit m om m_there in (subst (AllWide om.width) one_slot fit.slots).0 ∙ fit.width ∙ ap (width_at types) m_type

      kinds : (u : ℕ) → (kinds_of types).word om.ty u ≡ (kinds_of types).word ty u
      kinds u = ap (λ t. (kinds_of types).word t u) m_type

      names : (u : ℕ) → (kinds_of types).owned om.ty u ≡ (kinds_of types).owned ty u
      names u = ap (λ t. (kinds_of types).owned t u) m_type

      m_born : m < c.births
      m_born = store.forest.births m om m_there

      given : (b : ℕ × Content) → Sized (kinds_of types) (suc (rank_of types ty)) (λ k. times (m ∷ []) k + hand k) ty (width_at types ty) 1 c b → AreFit (kinds_of types) b.1
          → IsStore types (λ k. times (b.0 ∷ []) k + hand k) (wrote b.0 0 0 (consumed (parts_at types ty) m b.1).0 (consumed (parts_at types ty) m b.1).1)
      given b sized fit =
          let p = parts_at types ty in
          let h : ℕ → ℕ = λ k. times (b.0 ∷ []) k + hand k in
          let there : at b.1.objects m ≡ Some om = sized.came.same m m_born ∙ m_there in
          let forest : IsForest (kinds_of types) (λ k. times (m ∷ []) k + (times (b.0 ∷ []) k + hand k)) b.1 =
          empty_handed (kinds_of types) (λ k. times (b.0 ∷ []) k + (times (m ∷ []) k + hand k)) (λ k. times (m ∷ []) k + (times (b.0 ∷ []) k + hand k)) b.1 (λ k. omega arith) sized.came.forest in
          let fits = consumed_fit (kinds_of types) (parts_at types ty) m b.1 (λ k. times (b.0 ∷ []) k + hand k) om sl there one_slot kinds names wide forest fit in
          given_store ty (width_at types ty) (λ k. times (m ∷ []) k + hand k) b sized (λ k. times (owned_of (parts_at types ty) (consumed (parts_at types ty) m b.1).0) k + (times (b.0 ∷ []) k + hand k)) (consumed (parts_at types ty) m b.1)
          (record { forest = consumed_forest (kinds_of types) (parts_at types ty) m b.1 (λ k. times (b.0 ∷ []) k + hand k) om sl there one_slot kinds wide forest; fit = fits.0 })
          (consumed_others (kinds_of types) (parts_at types ty) m b.1 (λ k. times (b.0 ∷ []) k + hand k) om sl there one_slot kinds wide forest b.0 (sized.came.forest.births b.0 sized.object sized.there)
          (λ e. let n = sized.number in let l = m_born in omega (arith, e, n, l))
          (one_or_apart (owns (kinds_of types) every om b.0) 0 (λ z. z) (λ nz. absurd (new_unowned b sized (omega arith))))
          ∙ sized.there)
          (consumed_wide (kinds_of types) (parts_at types ty) m b.1 (λ k. times (b.0 ∷ []) k + hand k) om sl there one_slot kinds wide forest) fits.1 (λ k. omega arith)
        where
          new_unowned : (x : ℕ × Content) → Sized (kinds_of types) (suc (rank_of types ty)) (λ k. times (m ∷ []) k + hand k) ty (width_at types ty) 1 c x → 0 < owns (kinds_of types) every om x.0 → ⊥
          new_unowned x y own =
              let l = owned_held (kinds_of types) c m x.0 om m_there in
              let f = store.forest.held x.0 in
              let q = lives (kinds_of types) c x.0 (omega arith) in
              let born = store.forest.births x.0 q.0 q.1 in
              let n = y.number in
              omega arith

  -- .. where another object than the temporary, which that doesn't own, is as it was
  pub given_over_stands : (s : Setting) (ty : TyId) (m : ℕ) (om : Object) (sl : Slot) (n : ℕ) (o : Object) → IsStore types (λ k. times (m ∷ []) k + hand k) c → at c.objects m ≡ Some om → om.slots ≡ sl ∷ [] → om.ty ≡ ty
      → at c.objects n ≡ Some o → m ≢ n → owns (kinds_of types) every om n ≡ 0 → IfGot (object_with s ty (parts_at types ty) (λ d. Got (consumed (parts_at types ty) m d)) c) (Stands ty n o)
  given_over_stands s ty m om sl n o store m_there one_slot m_type there apart not_owned =
      got_then (sized_birth s ty (width_at types ty) 1 c) (λ b. then_get {A = Words} (Got (consumed (parts_at types ty) m b.1)) (λ v. Got (b.0, wrote b.0 0 0 v.0 v.1)))
      (Sized (kinds_of types) (suc (rank_of types ty)) (λ k. times (m ∷ []) k + hand k) ty (width_at types ty) 1 c) (Stands ty n o)
      (sized_birth_came (kinds_of types) (suc (rank_of types ty)) (λ k. times (m ∷ []) k + hand k) ty (width_at types ty) 1 c (omega arith) store.forest s)
      stands
    where
      wide : length sl.words ≡ width_at types ty
      wide = let fit = store.fit m om m_there in (subst (AllWide om.width) one_slot fit.slots).0 ∙ fit.width ∙ ap (width_at types) m_type

      stands : (b : ℕ × Content) → Sized (kinds_of types) (suc (rank_of types ty)) (λ k. times (m ∷ []) k + hand k) ty (width_at types ty) 1 c b → Stands ty n o (b.0, wrote b.0 0 0 (consumed (parts_at types ty) m b.1).0 (consumed (parts_at types ty) m b.1).1)
      stands b sized =
          let p = parts_at types ty in
          let m_now : at b.1.objects m ≡ Some om = sized.came.same m (store.forest.births m om m_there) ∙ m_there in
          let n_now : at b.1.objects n ≡ Some o = sized.came.same n (store.forest.births n o there) ∙ there in
          let forest : IsForest (kinds_of types) (λ k. times (m ∷ []) k + (times (b.0 ∷ []) k + hand k)) b.1 =
          empty_handed (kinds_of types) (λ k. times (b.0 ∷ []) k + (times (m ∷ []) k + hand k)) (λ k. times (m ∷ []) k + (times (b.0 ∷ []) k + hand k)) b.1 (λ k. omega arith) sized.came.forest in
          let kept : (j : ℕ) → j < b.1.births → m ≢ j → owns (kinds_of types) every om j ≡ 0 → at (consumed (parts_at types ty) m b.1).1.objects j ≡ at b.1.objects j =
          λ j lt ne z. consumed_others (kinds_of types) p m b.1 (λ k. times (b.0 ∷ []) k + hand k) om sl m_now one_slot (λ u. ap (λ t. (kinds_of types).word t u) m_type) wide forest j lt ne z in
          let new_born = sized.came.forest.births b.0 sized.object sized.there in
          let old_born = sized.came.forest.births n o n_now in
          let m_old = store.forest.births m om m_there in
          let n_old = store.forest.births n o there in
          let number = sized.number in
          let new_there : at (consumed (parts_at types ty) m b.1).1.objects b.0 ≡ Some sized.object =
          kept b.0 new_born (λ e. absurd (omega (arith, e, number, m_old))) (one_or_apart (owns (kinds_of types) every om b.0) 0 (λ z. z) (λ nz. absurd (new_unowned b sized (omega arith)))) ∙ sized.there in
          let is = wrote_is (consumed p m b.1).1 b.0 0 0 (consumed p m b.1).0 sized.object new_there in
          record {
            object = _;
            there = ap (λ (d : Content). at d.objects b.0) is ∙ at-set_same (consumed p m b.1).1.objects b.0 b.0 _ refl;
            type = sized.type;
            other = ap (λ (d : Content). at d.objects n) is ∙ at-set_other (consumed p m b.1).1.objects b.0 n _ (λ e. absurd (omega (arith, e, number, n_old))) ∙ kept n old_born apart not_owned ∙ n_now;
          }
        where
          new_unowned : (x : ℕ × Content) → Sized (kinds_of types) (suc (rank_of types ty)) (λ k. times (m ∷ []) k + hand k) ty (width_at types ty) 1 c x → 0 < owns (kinds_of types) every om x.0 → ⊥
          new_unowned x y own =
              let l = owned_held (kinds_of types) c m x.0 om m_there in
              let f = store.forest.held x.0 in
              let q = lives (kinds_of types) c x.0 (omega arith) in
              let born = store.forest.births x.0 q.0 q.1 in
              let n' = y.number in
              omega arith
