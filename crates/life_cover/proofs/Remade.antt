-- A unique_ptr that is an object or a member of one is given null, or an object that comes to life, and what it had ends:
-- what is touched is what it had, it has what it was given, and each vector and each string has its buffer still.
use Rattle.std.proofs.Common.{◌≡◌, ℕ, zero, suc, ◌+◌, ◌≤◌, ◌<◌, true, false, List, [], ◌∷◌, length, Option, Some, None, refl, sym, ap, subst, ◌∙◌, arith}
use Rattle.std.specs.Prelude.{◌||◌, slice_get, slice_index}
use Rattle.std.proofs.lemmas.Bool.{false≢true, or_right}
use Rattle.life_types.specs.Trees.{IsOrdered}
use Rattle.life_types.specs.Types.{Types}
use Rattle.life_types.specs.declared.ty.TyId.{TyId}
use Rattle.life_core.specs.declared.instr.Form.{Form}
use Rattle.life_store.specs.Cells.{at}
use Rattle.life_store.specs.Content.{Slot, Object, Content}
use Rattle.life_store.specs.Doing.{replaced}
use Rattle.life_store.specs.Effects.{Attempt, Got, Setting}
use Rattle.life_store.specs.Held.{owned_in, owner_word, wrote_if}
use Rattle.life_store.specs.Kinds.{is_value}
use Rattle.life_store.specs.Owners.{Words, ended, fresh, object_with}
use Rattle.life_store.specs.Parts.{Parts, Single, Unique, parts_at, width}
use Rattle.life_store.specs.Places.{Spot, spot_words}
use Rattle.life_store.proofs.CellLemmas.{none_some, some_same}
use Rattle.life_forest.specs.Forest.{Beneath, Foot, IsForest, Touches, part, under, whole}
use Rattle.life_forest.specs.Kinds.{Kinds, kinds_of, rank_of}
use Rattle.life_forest.specs.Owned.{times}
use Rattle.life_forest.specs.Typed.{AreFit, IsStore}
use Rattle.life_forest.specs.Values.{owned_of}
use Rattle.life_forest.specs.Within.{LiesWithin}
use Rattle.life_forest.proofs.Below.{is_positive, owned_at_held, positive_is}
use Rattle.life_forest.proofs.Coming.{Came, CameWords, IfGot, came_none, came_touches, fresh_came}
use Rattle.life_forest.proofs.Feet.{and_all, within_all, within_self}
use Rattle.life_forest.proofs.Fitting.{Flat}
use Rattle.life_forest.proofs.FittingBirths.{FitWords, flat_owner, fresh_fit, got_both, value_owner}
use Rattle.life_forest.proofs.Laying.{laid_at, named_at}
use Rattle.life_forest.proofs.Lying.{value_beneath}
use Rattle.life_forest.proofs.Objects.{IsThere, object_came, object_fit, object_there}
use Rattle.life_forest.proofs.Replacing.{replaced_touches}
use Rattle.life_forest.proofs.Spots.{lies_at, spot_known}
use Rattle.life_forest.proofs.Steps.{alive_le, own_all, touches_then}
use Rattle.life_forest.proofs.Stores.{flat_lower, if_such}
use Rattle.life_cover.specs.Buffered.{AreBut, is_buffer_at}
use Rattle.life_cover.specs.Regions.{Region, foot_of}
use Rattle.life_cover.specs.Uniques.{had_at}
use Rattle.life_cover.proofs.Beside.{kept_object}
use Rattle.life_cover.proofs.Buffering.{ended_but, ended_leaves}
use Rattle.life_cover.proofs.Buffers.{foot_covers}
use Rattle.life_cover.proofs.Inside.{in_region}
use Rattle.life_cover.proofs.OwnersStay.{word_written}
use Rattle.life_cover.proofs.PutWords.{wrote_but}

-- what is in the hand is beneath nothing but itself
pub hand_apart : (kind : Kinds) (hand : ℕ → ℕ) (c : Content) (t : Foot) (n : ℕ) → IsForest kind hand c → 0 < hand n → (t.whole n ≡ true → ⊥) → Beneath kind c t n → ⊥
hand_apart kind hand c t n forest in_hand other (whole _ e) = other e
hand_apart kind hand c t n forest in_hand other (part m _ own) =
    let held = forest.held n in
    let least = owned_at_held kind c m n in
    let all = own_all kind c (t.part m) m n own in
    let one = alive_le kind c n in
    omega (arith, in_hand, held, least, all, one)
hand_apart kind hand c t n forest in_hand other (under m _ low own) =
    let held = forest.held n in
    let least = owned_at_held kind c m n in
    let one = alive_le kind c n in
    omega (arith, in_hand, held, least, own, one)

module _ (types : Types) where
  -- ---- what it has then

  pub replaced_has : (t : Foot) (c : Content) (n start : ℕ) (o : Object) (s : Slot) (p : Parts) (v : ℕ) → at c.objects n ≡ Some o → o.slots ≡ s ∷ [] → start < length s.words → n < c.births → (Beneath (kinds_of types) c t n → ⊥)
      → Touches (kinds_of types) t c (replaced p (record { object = n; index = 0; word = start }) (v ∷ [], c)) → had_at (replaced p (record { object = n; index = 0; word = start }) (v ∷ [], c)) n start ≡ owned_in v
  replaced_has t c n start o s p v there one some born apart touch =
      let k = kept_object (kinds_of types) t c (replaced p (record { object = n; index = 0; word = start }) (v ∷ [], c)) n o touch born apart there in
      go (at left.objects n) refl k.object k.there
    where
      left : Content
      left = ended p (spot_words c (record { object = n; index = 0; word = start }) (width p)) c

      go : (x : Option Object) → at (ended p (spot_words c (record { object = n; index = 0; word = start }) (width p)) c).objects n ≡ x → (q : Object) → at (replaced p (record { object = n; index = 0; word = start }) (v ∷ [], c)).objects n ≡ Some q
          → had_at (replaced p (record { object = n; index = 0; word = start }) (v ∷ [], c)) n start ≡ owned_in v
      go None e q there_q = absurd (none_some (sym e ∙ sym (ap (λ (y : Option Object). at (wrote_if y n 0 start (v ∷ []) left).objects n) e) ∙ there_q))
      go (Some x) e q there_q =
          let same = some_same (sym there ∙ ended_leaves types p (spot_words c (record { object = n; index = 0; word = start }) (width p)) c n x e) in
          word_written left n 0 start v x s e (ap (λ (y : Object). slice_get y.slots 0) (sym same) ∙ ap (λ (ss : List Slot). slice_get ss 0) one) some

  -- ---- buffers

  -- a word that is no vector's and no string's
  pub replaced_buffered : (bare : ℕ → Type 0) (c : Content) (n start : ℕ) (p : Parts) (v : ℕ) → ((o : Object) → at c.objects n ≡ Some o → is_buffer_at (parts_at types o.ty) start ≡ false) → AreBut types bare c
      → AreBut types bare (replaced p (record { object = n; index = 0; word = start }) (v ∷ [], c))
  replaced_buffered bare c n start p v free buffered =
      wrote_but types bare n 0 start (v ∷ []) left
      (λ o there j lt buffer. absurd (false≢true (sym (free o (ended_leaves types p (spot_words c (record { object = n; index = 0; word = start }) (width p)) c n o there)) ∙ ap (is_buffer_at (parts_at types o.ty)) (first j lt) ∙ buffer)))
      (ended_but types bare p (spot_words c (record { object = n; index = 0; word = start }) (width p)) c buffered)
    where
      left : Content
      left = ended p (spot_words c (record { object = n; index = 0; word = start }) (width p)) c

      first : (j : ℕ) → j < 1 → start ≡ start + j
      first j lt = omega (arith, lt)

-- ---- what is touched

-- a new object is put into it, which is in the hand so far
module _ (types : Types) (ordered : IsOrdered types) (hand : ℕ → ℕ) (n start : ℕ) (id : TyId) (o : Object) (within : LiesWithin types o.ty start id) (lt : 0 < length o.slots) (ty : TyId) (is_unique : parts_at types id ≡ Unique ty (parts_at types ty)) (b : ℕ × Content)
    (after : IsStore types (λ k. times (b.0 ∷ []) k + hand k) b.1) (kept : at b.1.objects n ≡ Some o) (q : Object) (there : at b.1.objects b.0 ≡ Some q) (type : q.ty ≡ ty) where
  abbrev all_of_it : Region
  all_of_it = record { object = n; word = start; ty = id }

  owner_flat : Flat b.1 (parts_at types id) (owner_word (Some b.0) ∷ [])
  owner_flat = subst (λ r. Flat b.1 r (owner_word (Some b.0) ∷ [])) (sym is_unique) (flat_owner b.1 (Unique ty (parts_at types ty)) ty b.0 q (λ u. refl) there type)

  pub put_touches : Touches (kinds_of types) (and_all (foot_of types (record { object = n; word = start; ty = id })) (b.0 ∷ [])) b.1 (replaced (parts_at types id) (record { object = n; index = 0; word = start }) (owner_word (Some b.0) ∷ [], b.1))
  put_touches =
      let lies = lies_at types ordered (λ k. times (b.0 ∷ []) k + hand k) b.1 after n 0 start id o kept within lt in
      let wide : length (owner_word (Some b.0) ∷ []) ≡ width (parts_at types id) = sym (ap width is_unique) in
      replaced_touches (kinds_of types) b.1 (record { object = n; index = 0; word = start }) (parts_at types id) o lies (owner_word (Some b.0) ∷ []) wide (λ k. times (b.0 ∷ []) k + hand k) hand after.forest
      (spot_known types ordered (λ k. times (b.0 ∷ []) k + hand k) b.1 after n 0 start id o kept within lt)
      (flat_lower types ordered b.1 o.ty id start (owner_word (Some b.0) ∷ []) within wide owner_flat)
      (λ k. let e = ap (λ r. times (owned_of r (owner_word (Some b.0) ∷ [])) k) is_unique in omega (arith, e))
      (and_all (foot_of types all_of_it) (b.0 ∷ [])) (λ u le less. or_right (is_value ((kinds_of types).word o.ty u)) ((foot_of types all_of_it).part n u) (in_region types all_of_it n u (record { object = refl; first = le; last = less })))
      (λ k own. value_beneath (kinds_of types) b.1 (record { object = n; index = 0; word = start }) (parts_at types id) o lies (and_all (foot_of types all_of_it) (b.0 ∷ [])) (foot_covers types n 0 start id (parts_at types id) refl) k own)
      (λ k born own. whole k (is_positive (times (b.0 ∷ []) k) (let e = ap (λ r. times (owned_of r (owner_word (Some b.0) ∷ [])) k) is_unique in omega (arith, e, own))))

module _ (types : Types) (ordered : IsOrdered types) (hand : ℕ → ℕ) (c : Content) (store : IsStore types hand c) (n start : ℕ) (id : TyId) (o : Object) (there : at c.objects n ≡ Some o) (within : LiesWithin types o.ty start id) (lt : 0 < length o.slots) (ty : TyId)
    (is_unique : parts_at types id ≡ Unique ty (parts_at types ty)) where
  abbrev spot : Spot
  spot = record { object = n; index = 0; word = start }

  abbrev region : Region
  region = record { object = n; word = start; ty = id }

  wide : (v : ℕ) → length (v ∷ []) ≡ width (parts_at types id)
  wide v = sym (ap width is_unique)

  nothing_owned : (k : ℕ) → times (owned_of (parts_at types id) (owner_word None ∷ [])) k ≡ 0
  nothing_owned k = ap (λ r. times (owned_of r (owner_word None ∷ [])) k) is_unique

  nothing_flat : Flat c (parts_at types id) (owner_word None ∷ [])
  nothing_flat u m q k e at_m = absurd (no_word u m e)
    where
      no_word : (w j : ℕ) → slice_index (0 ∷ []) w ≡ suc j → ⊥
      no_word zero j e = omega (arith, e)
      no_word (suc w) j e = omega (arith, e)

  -- all words of it may be touched
  in_foot : (u : ℕ) → start ≤ u → u < start + width (parts_at types id) → (is_value ((kinds_of types).word o.ty u) || (foot_of types (record { object = n; word = start; ty = id })).part n u) ≡ true
  in_foot u le less = or_right (is_value ((kinds_of types).word o.ty u)) ((foot_of types region).part n u) (in_region types region n u (record { object = refl; first = le; last = less }))

  pub null_touches : Touches (kinds_of types) (foot_of types (record { object = n; word = start; ty = id })) c (replaced (parts_at types id) (record { object = n; index = 0; word = start }) (owner_word None ∷ [], c))
  null_touches =
      let lies = lies_at types ordered hand c store n 0 start id o there within lt in
      replaced_touches (kinds_of types) c spot (parts_at types id) o lies (owner_word None ∷ []) (wide 0) hand hand store.forest (spot_known types ordered hand c store n 0 start id o there within lt)
      (flat_lower types ordered c o.ty id start (owner_word None ∷ []) within (wide 0) nothing_flat) (λ k. let e = nothing_owned k in omega (arith, e)) (foot_of types region) in_foot
      (λ k own. value_beneath (kinds_of types) c spot (parts_at types id) o lies (foot_of types region) (foot_covers types n 0 start id (parts_at types id) refl) k own)
      (λ k born own. let e = nothing_owned k in absurd (omega (arith, e, own)))

  -- it has the new object, and what it had is touched alone
  pub record IsRemade (b : ℕ × Content) : Type 0 where
    pub touch : Touches (kinds_of types) (foot_of types (record { object = n; word = start; ty = id })) c (replaced (parts_at types id) (record { object = n; index = 0; word = start }) (owner_word (Some b.0) ∷ [], b.1))
    pub has : had_at (replaced (parts_at types id) (record { object = n; index = 0; word = start }) (owner_word (Some b.0) ∷ [], b.1)) n start ≡ Some b.0
    pub kept : at b.1.objects n ≡ Some o

  module _ (in_hand : 0 < hand n) (slot : Slot) (one : o.slots ≡ slot ∷ []) (some : start < length slot.words) (s : Setting) where
    pub remade_with : (value : Content → Attempt Words) → ((h : ℕ → ℕ) (d : Content) → IsForest (kinds_of types) h d → IfGot (value d) (CameWords (kinds_of types) (rank_of types ty) h (parts_at types ty) d))
        → ((h : ℕ → ℕ) (d : Content) → IsForest (kinds_of types) h d → AreFit (kinds_of types) d → IfGot (value d) (FitWords (kinds_of types) (parts_at types ty))) → IfGot (object_with s ty (parts_at types ty) value c) IsRemade
    remade_with value came fits =
        let p = parts_at types ty in
        if_such (object_with s ty p value c) (λ b. Came (kinds_of types) (suc (rank_of types ty)) hand (b.0 ∷ []) c b.1 × (AreFit (kinds_of types) b.1 × IsThere (kinds_of types) ty p (λ u. refl) b)) IsRemade
        (got_both (object_with s ty p value c) (λ b. Came (kinds_of types) (suc (rank_of types ty)) hand (b.0 ∷ []) c b.1) (λ b. AreFit (kinds_of types) b.1 × IsThere (kinds_of types) ty p (λ u. refl) b)
        (object_came (kinds_of types) ty p (λ u. refl) s (suc (rank_of types ty)) value (omega arith) came hand c store.forest)
        (got_both (object_with s ty p value c) (λ b. AreFit (kinds_of types) b.1) (IsThere (kinds_of types) ty p (λ u. refl))
        (object_fit (kinds_of types) ty p (λ u. refl) s (suc (rank_of types ty)) value (omega arith) (refl, λ u. refl)
        (λ h d f g. got_both (value d) (CameWords (kinds_of types) (rank_of types ty) h p d) (FitWords (kinds_of types) p) (came h d f) (fits h d f g)) hand c store.forest store.fit)
        (object_there (kinds_of types) ty p (λ u. refl) s (suc (rank_of types ty)) value (omega arith) came hand c store.forest)))
        (λ b h. each b h.0 h.1.0 h.1.1)
      where
        each : (b : ℕ × Content) → Came (kinds_of types) (suc (rank_of types ty)) hand (b.0 ∷ []) c b.1 → AreFit (kinds_of types) b.1 → IsThere (kinds_of types) ty (parts_at types ty) (λ u. refl) b → IsRemade b
        each b came fit new = record {
          touch =
              touches_then (kinds_of types) hand c store.forest (foot_of types region) (and_all (foot_of types region) (b.0 ∷ [])) (foot_of types region) b.1 (replaced (parts_at types id) spot (owner_word (Some b.0) ∷ [], b.1))
              (came_touches (kinds_of types) (foot_of types region) (suc (rank_of types ty)) hand (b.0 ∷ []) c b.1 came) second (within_self (kinds_of types) c (foot_of types region))
              (within_all (kinds_of types) c (foot_of types region) (b.0 ∷ []) (λ k own born. let new_k = came.fresh k own in absurd (omega (arith, new_k, born))));
          has = replaced_has types (and_all (foot_of types region) (b.0 ∷ [])) b.1 n start o slot (parts_at types id) (owner_word (Some b.0)) kept one some (let up = came.births in omega (arith, up, born_n)) apart second;
          kept = kept;
        }
          where
            born_n : n < c.births
            born_n = store.forest.births n o there

            kept : at b.1.objects n ≡ Some o
            kept = came.same n born_n ∙ there

            after : IsStore types (λ k. times (b.0 ∷ []) k + hand k) b.1
            after = record { forest = came.forest; fit = fit }

            apart : Beneath (kinds_of types) b.1 (and_all (foot_of types region) (b.0 ∷ [])) n → ⊥
            apart = hand_apart (kinds_of types) (λ k. times (b.0 ∷ []) k + hand k) b.1 (and_all (foot_of types region) (b.0 ∷ [])) n came.forest (omega (arith, in_hand))
                (λ e. let new_b = came.fresh n (positive_is (times (b.0 ∷ []) n) e) in omega (arith, new_b, born_n))

            second : Touches (kinds_of types) (and_all (foot_of types region) (b.0 ∷ [])) b.1 (replaced (parts_at types id) spot (owner_word (Some b.0) ∷ [], b.1))
            second = put_touches types ordered hand n start id o within lt ty is_unique b after kept new.object new.there new.type

    -- without an operand
    pub remade_fresh : (form : Form) → IfGot (object_with s ty (parts_at types ty) (fresh s form (parts_at types ty)) c) IsRemade
    remade_fresh form =
        remade_with (fresh s form (parts_at types ty)) (λ h d f. fresh_came (kinds_of types) s form (parts_at types ty) (rank_of types ty) (laid_at types ordered ty) h d f)
        (λ h d f g. fresh_fit (kinds_of types) s form (parts_at types ty) (rank_of types ty) (laid_at types ordered ty) (named_at types ordered ty) h d f g)

    -- .. of a number
    pub remade_number : (word : ℕ) → parts_at types ty ≡ Single → IfGot (object_with s ty (parts_at types ty) (λ d. Got (word ∷ [], d)) c) IsRemade
    remade_number word is =
        remade_with (λ d. Got (word ∷ [], d))
        (λ h d f. subst (λ r. CameWords (kinds_of types) (rank_of types ty) h r d (word ∷ [], d)) (sym is) (came_none (kinds_of types) (rank_of types ty) h d f, refl))
        (λ h d f g. subst (λ r. FitWords (kinds_of types) r (word ∷ [], d)) (sym is) (g, λ u m q k e at_m. absurd (value_owner k)))
