-- Every content of a run stays one where an owner is given what a new object or another owner has.
use Rattle.std.proofs.Common.{◌≡◌, ◌≢◌, ℕ, zero, suc, ◌+◌, ◌<◌, List, [], ◌∷◌, length, Some, None, refl, sym, ap, subst, ◌∙◌, arith}
use Rattle.std.specs.Prelude.{◌&&◌, nat_eq, slice_index}
use Rattle.life_types.specs.Trees.{IsOrdered}
use Rattle.life_types.specs.Types.{Types}
use Rattle.life_types.specs.declared.ty.TyId.{TyId}
use Rattle.life_core.specs.declared.instr.Form.{Form}
use Rattle.life_store.specs.Cells.{at, at-set_same, at-set_other}
use Rattle.life_store.specs.Content.{Object, Content, with_object}
use Rattle.life_store.specs.Doing.{replaced}
use Rattle.life_store.specs.Effects.{Setting, Attempt, Got}
use Rattle.life_store.specs.Held.{owner_word, wrote}
use Rattle.life_store.specs.Owners.{Words, fresh, object_with, taken}
use Rattle.life_store.specs.Parts.{Parts, Single, Unique, parts_at, width, width_at}
use Rattle.life_store.specs.Places.{Spot, spot_words}
use Rattle.life_store.proofs.MapLemmas.{one_or_apart}
use Rattle.life_forest.specs.Kinds.{kinds_of, rank_of}
use Rattle.life_store.specs.Kinds.{is_owner}
use Rattle.life_forest.specs.Owned.{every, times, owns}
use Rattle.life_forest.specs.Forest.{IsForest}
use Rattle.life_forest.specs.Typed.{AreFit, IsStore}
use Rattle.life_forest.specs.Values.{owned_of}
use Rattle.life_forest.specs.Within.{LiesWithin}
use Rattle.life_forest.proofs.Beside.{Alike, Beside, same_content, taken_beside, taken_stays}
use Rattle.life_forest.proofs.Coming.{Came, CameWords, IfGot, came_none, fresh_came}
use Rattle.life_forest.proofs.Consuming.{tell_apart, told_apart}
use Rattle.life_forest.proofs.Fitting.{Flat, flat_later}
use Rattle.life_forest.proofs.FittingBirths.{FitWords, flat_owner, fresh_fit, got_both, value_owner}
use Rattle.life_forest.proofs.FittingTaken.{taken_fit}
use Rattle.life_forest.proofs.Laying.{laid_at, named_at}
use Rattle.life_forest.proofs.Lying.{counted_among, counted_old, length-words_of, spot_words_are}
use Rattle.life_forest.proofs.Objects.{IsThere, object_came, object_fit, object_there}
use Rattle.life_forest.proofs.Puts.{puts_in, wrote_is}
use Rattle.life_forest.proofs.Spots.{lies_at, spot_flat, spot_lives}
use Rattle.life_forest.proofs.Stores.{if_such, replaced_store, word_owned, wrote_store}
use Rattle.life_forest.proofs.Taking.{taken_took}

module _ (types : Types) (ordered : IsOrdered types) (hand : ℕ → ℕ) (c : Content) (store : IsStore types hand c) where
  -- ---- a unique_ptr is given a new object with a value that comes to life; what it had ends

  module _ (s : Setting) (n i w : ℕ) (part : TyId) (o : Object) (there : at c.objects n ≡ Some o) (within : LiesWithin types o.ty w part) (lt : i < length o.slots) (ty : TyId) (is_unique : parts_at types part ≡ Unique ty (parts_at types ty)) where
    pub made_with_store : (value : Content → Attempt Words) → ((h : ℕ → ℕ) (d : Content) → IsForest (kinds_of types) h d → IfGot (value d) (CameWords (kinds_of types) (rank_of types ty) h (parts_at types ty) d))
        → ((h : ℕ → ℕ) (d : Content) → IsForest (kinds_of types) h d → AreFit (kinds_of types) d → IfGot (value d) (FitWords (kinds_of types) (parts_at types ty)))
        → IfGot (object_with s ty (parts_at types ty) value c) (λ b. IsStore types hand (replaced (parts_at types part) (record { object = n; index = i; word = w }) (owner_word (Some b.0) ∷ [], b.1)))
    made_with_store value came fits =
        let p = parts_at types ty in
        if_such (object_with s ty p value c)
        (λ b. Came (kinds_of types) (suc (rank_of types ty)) hand (b.0 ∷ []) c b.1 × (AreFit (kinds_of types) b.1 × IsThere (kinds_of types) ty p (λ u. refl) b))
        (λ b. IsStore types hand (replaced (parts_at types part) (record { object = n; index = i; word = w }) (owner_word (Some b.0) ∷ [], b.1)))
        (got_both (object_with s ty p value c) (λ b. Came (kinds_of types) (suc (rank_of types ty)) hand (b.0 ∷ []) c b.1) (λ b. AreFit (kinds_of types) b.1 × IsThere (kinds_of types) ty p (λ u. refl) b)
        (object_came (kinds_of types) ty p (λ u. refl) s (suc (rank_of types ty)) value (omega arith) came hand c store.forest)
        (got_both (object_with s ty p value c) (λ b. AreFit (kinds_of types) b.1) (IsThere (kinds_of types) ty p (λ u. refl))
        (object_fit (kinds_of types) ty p (λ u. refl) s (suc (rank_of types ty)) value (omega arith) (refl, λ u. refl)
        (λ h d f g. got_both (value d) (CameWords (kinds_of types) (rank_of types ty) h p d) (FitWords (kinds_of types) p) (came h d f) (fits h d f g)) hand c store.forest store.fit)
        (object_there (kinds_of types) ty p (λ u. refl) s (suc (rank_of types ty)) value (omega arith) came hand c store.forest)))
        (λ b h.
        replaced_store types ordered hand (λ k. times (b.0 ∷ []) k + hand k) b.1 (record { forest = h.0.forest; fit = h.1.0 }) n i w part o (h.0.same n (store.forest.births n o there) ∙ there) within lt
        (owner_word (Some b.0) ∷ []) (sym (ap width is_unique))
        (subst (λ r. Flat b.1 r (owner_word (Some b.0) ∷ [])) (sym is_unique) (flat_owner b.1 (Unique ty (parts_at types ty)) ty b.0 h.1.1.object (λ u. refl) h.1.1.there h.1.1.type))
        (λ k. let e = ap (λ r. times (owned_of r (owner_word (Some b.0) ∷ [])) k) is_unique in omega arith))

    -- .. without an operand
    pub made_store : (form : Form) → IfGot (object_with s ty (parts_at types ty) (fresh s form (parts_at types ty)) c) (λ b. IsStore types hand (replaced (parts_at types part) (record { object = n; index = i; word = w }) (owner_word (Some b.0) ∷ [], b.1)))
    made_store form =
        made_with_store (fresh s form (parts_at types ty)) (λ h d f. fresh_came (kinds_of types) s form (parts_at types ty) (rank_of types ty) (laid_at types ordered ty) h d f)
        (λ h d f g. fresh_fit (kinds_of types) s form (parts_at types ty) (rank_of types ty) (laid_at types ordered ty) (named_at types ordered ty) h d f g)

    -- .. of a number
    pub made_number_store : (word : ℕ) → parts_at types ty ≡ Single → IfGot (object_with s ty (parts_at types ty) (λ d. Got (word ∷ [], d)) c) (λ b. IsStore types hand (replaced (parts_at types part) (record { object = n; index = i; word = w }) (owner_word (Some b.0) ∷ [], b.1)))
    made_number_store word is =
        made_with_store (λ d. Got (word ∷ [], d))
        (λ h d f. subst (λ r. CameWords (kinds_of types) (rank_of types ty) h r d (word ∷ [], d)) (sym is) (came_none (kinds_of types) (rank_of types ty) h d f, refl))
        (λ h d f g. subst (λ r. FitWords (kinds_of types) r (word ∷ [], d)) (sym is) (g, λ u m q k e at_m. absurd (value_owner k)))

    -- .. or null
    pub null_store : IsStore types hand (replaced (parts_at types part) (record { object = n; index = i; word = w }) (owner_word None ∷ [], c))
    null_store =
        replaced_store types ordered hand hand c store n i w part o there within lt (owner_word None ∷ []) (sym (ap width is_unique))
        (λ u m q k e at_m. absurd (no_word u m e))
        (λ k. let e = ap (λ r. times (owned_of r (owner_word None ∷ [])) k) is_unique in omega arith)
      where
        no_word : (u j : ℕ) → slice_index (0 ∷ []) u ≡ suc j → ⊥
        no_word zero j e = omega (arith, e)
        no_word (suc u) j e = omega (arith, e)

  -- ---- an owner gives what it has: it has nothing then, and the value is in the hand

  module _ (m : ℕ) (part : TyId) (om : Object) (m_there : at c.objects m ≡ Some om) (m_within : LiesWithin types om.ty 0 part) (m_slot : 0 < length om.slots) (one_word : width_at types part ≡ 1) where
    abbrev m_spot : Spot
    m_spot = record { object = m; index = 0; word = 0 }

    abbrev p : Parts
    p = parts_at types part

    -- the words that it has
    abbrev ws : List ℕ
    ws = spot_words c (record { object = m; index = 0; word = 0 }) (width_at types part)

    abbrev emptied : Content
    emptied = wrote m 0 0 (owner_word None ∷ []) c

    pub none_owned : (q : Parts) (k : ℕ) → times (owned_of q (owner_word None ∷ [])) k ≡ 0
    none_owned q k = one_or_apart (times (owned_of q (0 ∷ [])) k) 0 (λ z. z) (λ nz. let r = word_owned q (0 ∷ []) k (omega arith) in absurd (no_word r.0 k r.2))
      where
        no_word : (u j : ℕ) → slice_index (0 ∷ []) u ≡ suc j → ⊥
        no_word zero j e = omega (arith, e)
        no_word (suc u) j e = omega (arith, e)

    none_flat : (q : Parts) → Flat c q (owner_word None ∷ [])
    none_flat q u j x k e there = absurd (no_word u j e)
      where
        no_word : (u j : ℕ) → slice_index (0 ∷ []) u ≡ suc j → ⊥
        no_word zero j e = omega (arith, e)
        no_word (suc u) j e = omega (arith, e)

    pub emptied_store : IsStore types (λ k. times (owned_of p ws) k + hand k) emptied
    emptied_store = wrote_store types ordered (λ k. times (owned_of p ws) k + hand k) hand c store m 0 0 part om m_there m_within m_slot (owner_word None ∷ []) (sym one_word) (none_flat p) (λ k. let z = none_owned p k in omega arith)

    abbrev bare : Object
    bare = record om { slots = puts_in 0 0 (owner_word None ∷ []) om.slots }

    emptied_is : wrote m 0 0 (owner_word None ∷ []) c ≡ with_object m bare c
    emptied_is = wrote_is c m 0 0 (owner_word None ∷ []) om m_there

    -- what it owned is another object
    owned_apart : (k : ℕ) → 0 < times (owned_of p ws) k → m ≢ k
    owned_apart k lt e =
        let a = counted_old (kinds_of types) c m_spot p om (lies_at types ordered hand c store m 0 0 part om m_there m_within m_slot) k in
        let l = counted_among (λ u. is_owner ((kinds_of types).word om.ty u) && every u) om.slots 0 0 (width_at types part) k (lies_at types ordered hand c store m 0 0 part om m_there m_within m_slot).words in
        let own : 0 < owns (kinds_of types) every om k = omega arith in
        let f = store.forest.lower m k om om m_there own (sym (ap (at c.objects) e) ∙ m_there) in
        omega arith

    beside : Beside (nat_eq m) c emptied
    beside = record {
      births = ap (λ (d : Content). d.births) emptied_is;
      clock = ap (λ (d : Content). d.clock) emptied_is;
      alike = λ k e. ap (λ (d : Content). at d.objects k) emptied_is ∙ at-set_other c.objects m k bare (told_apart m k e);
    }

    pub alike : Alike (nat_eq m) (taken p ws c) (taken p ws emptied)
    alike = taken_beside (nat_eq m) p ws c emptied beside (λ k lt. tell_apart m k (owned_apart k lt))

    m_born : m < c.births
    m_born = store.forest.births m om m_there

    none_of_it : times (owned_of p ws) m ≡ 0
    none_of_it = one_or_apart (times (owned_of p ws) m) 0 (λ z. z) (λ nz. absurd (owned_apart m (omega arith) refl))

    -- it is emptied before or behind
    pub same_moved : wrote m 0 0 (owner_word None ∷ []) (taken p ws c).1 ≡ (taken p ws emptied).1
    same_moved =
        let kept : at (taken p ws c).1.objects m ≡ Some om = taken_stays p ws c m m_born none_of_it ∙ m_there in
        let left : at (taken p ws emptied).1.objects m ≡ Some bare =
        taken_stays p ws emptied m (let e = ap (λ (d : Content). d.births) emptied_is in let l = m_born in omega arith) none_of_it
        ∙ ap (λ (d : Content). at d.objects m) emptied_is ∙ at-set_same c.objects m m bare refl in
        wrote_is (taken p ws c).1 m 0 0 (owner_word None ∷ []) om kept
        ∙ same_content (taken p ws emptied).1 (with_object m bare (taken p ws c).1) (sym alike.contents.births) (sym alike.contents.clock)
        (λ k. one_or_apart m k
        (λ e. at-set_same (taken p ws c).1.objects m k bare e ∙ sym (ap (at (taken p ws emptied).1.objects) (sym e) ∙ left))
        (λ ne. at-set_other (taken p ws c).1.objects m k bare ne ∙ sym (alike.contents.alike k (tell_apart m k ne))))

    pub ws_wide : length ws ≡ width_at types part
    ws_wide =
        ap length (spot_words_are (kinds_of types) c m_spot p om (lies_at types ordered hand c store m 0 0 part om m_there m_within m_slot))
        ∙ length-words_of 0 0 (width_at types part) om.slots

    ws_flat : Flat emptied p ws
    ws_flat =
        flat_later c emptied p ws (λ k lt. spot_lives types ordered hand c store m 0 0 part om m_there m_within m_slot k lt)
        (λ k x y at_c at_e. one_or_apart m k
        (λ e. ap (λ (z : Object). z.ty) (some_same (sym at_c ∙ sym (ap (at c.objects) e) ∙ m_there)) ∙ ap (λ (z : Object). z.ty) (some_same (sym (at-set_same c.objects m k bare e) ∙ sym (ap (λ (d : Content). at d.objects k) emptied_is) ∙ at_e)))
        (λ ne. ap (λ (z : Object). z.ty) (some_same (sym at_c ∙ sym (at-set_other c.objects m k bare ne) ∙ sym (ap (λ (d : Content). at d.objects k) emptied_is) ∙ at_e))))
        (spot_flat types ordered hand c store m 0 0 part om m_there m_within m_slot)
      where
        some_same : {x y : Object} → Some x ≡ Some y → x ≡ y
        some_same k = cc

    pub moved_out : IsStore types (λ k. times (owned_of p (taken p ws c).0) k + hand k) (wrote m 0 0 (owner_word None ∷ []) (taken p ws c).1)
        × Flat (wrote m 0 0 (owner_word None ∷ []) (taken p ws c).1) p (taken p ws c).0
        × (length (taken p ws c).0 ≡ width_at types part)
    moved_out =
        let took = taken_took (kinds_of types) p ws ws_wide hand emptied emptied_store.forest in
        let fit = taken_fit (kinds_of types) p ws ws_wide hand emptied emptied_store.forest emptied_store.fit ws_flat in
        subst (λ (d : Content). IsStore types (λ k. times (owned_of p (taken p ws c).0) k + hand k) d × Flat d p (taken p ws c).0 × (length (taken p ws c).0 ≡ width_at types part)) (sym same_moved)
        (subst (λ (vs : List ℕ). IsStore types (λ k. times (owned_of p vs) k + hand k) (taken p ws emptied).1 × Flat (taken p ws emptied).1 p vs × (length vs ≡ width_at types part)) alike.words
        (record { forest = took.0.forest; fit = fit.0 }, fit.1, took.1))
