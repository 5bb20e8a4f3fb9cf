-- A unique_ptr takes what another one has, and what it had ends: what is touched is what both had.
use Rattle.std.proofs.Common.{◌≡◌, ◌≢◌, inr, ℕ, ◌+◌, ◌≤◌, ◌<◌, Bool, true, false, List, [], ◌∷◌, length, Option, Some, None, refl, sym, ap, subst, ◌∙◌, arith}
use Rattle.std.specs.Prelude.{◌||◌}
use Rattle.std.proofs.lemmas.Bool.{false≢true, or_right}
use Rattle.life_types.specs.Trees.{IsOrdered}
use Rattle.life_types.specs.Types.{Types}
use Rattle.life_types.specs.declared.ty.TyId.{TyId}
use Rattle.life_store.specs.Cells.{at, at-set_other}
use Rattle.life_store.specs.Content.{Object, Content}
use Rattle.life_store.specs.Doing.{replaced}
use Rattle.life_store.specs.Held.{owner_word, wrote}
use Rattle.life_store.specs.Kinds.{is_value, kind_in}
use Rattle.life_store.specs.Owners.{taken}
use Rattle.life_store.specs.Parts.{Parts, Unique, parts_at, width, width_at}
use Rattle.life_store.specs.Places.{spot_words}
use Rattle.life_forest.specs.Forest.{Beneath, Foot, Touches, whole}
use Rattle.life_forest.specs.Kinds.{kinds_of}
use Rattle.life_forest.specs.Owned.{times}
use Rattle.life_forest.specs.Typed.{IsStore}
use Rattle.life_forest.specs.Values.{owned_of}
use Rattle.life_forest.specs.Within.{LiesWithin}
use Rattle.life_forest.proofs.Below.{is_positive}
use Rattle.life_forest.proofs.Feet.{and_all, within_all, within_self}
use Rattle.life_forest.proofs.Fitting.{Flat}
use Rattle.life_forest.proofs.Lying.{Covers, touches_value, value_beneath}
use Rattle.life_forest.proofs.Owners.{moved_out}
use Rattle.life_forest.proofs.Replacing.{replaced_touches}
use Rattle.life_forest.proofs.Spots.{lies_at, spot_known, spot_lives}
use Rattle.life_forest.proofs.Steps.{beneath_more, touches_then}
use Rattle.life_forest.proofs.Stores.{flat_lower}
use Rattle.life_forest.proofs.Puts.{wrote_is}
use Rattle.life_cover.specs.Regions.{Region, foot_of, is_in_region}
use Rattle.life_cover.proofs.Buffers.{foot_covers}
use Rattle.life_cover.proofs.Inside.{in_region}

-- the owners of two regions
abbrev pub both_feet : Types → Region → Region → Foot
both_feet types a b = record { whole = λ n. false; part = λ m w. is_in_region types a m w || is_in_region types b m w }

pub or_left : (a b : Bool) → a ≡ true → (a || b) ≡ true
or_left true b e = refl
or_left false b e = absurd (false≢true e)

module _ (types : Types) (ordered : IsOrdered types) (hand : ℕ → ℕ) (c : Content) (store : IsStore types hand c) (id ty : TyId) (is_unique : parts_at types id ≡ Unique ty (parts_at types ty)) (n start : ℕ) (o : Object) (there : at c.objects n ≡ Some o) (within : LiesWithin types o.ty start id)
    (lt : 0 < length o.slots) (m : ℕ) (om : Object) (m_there : at c.objects m ≡ Some om) (m_within : LiesWithin types om.ty 0 id) (m_lt : 0 < length om.slots) (apart : m ≢ n) (owned : Option ℕ)
    (are : spot_words c (record { object = m; index = 0; word = 0 }) (width_at types id) ≡ owner_word owned ∷ []) where
  abbrev into : Region
  into = record { object = n; word = start; ty = id }

  abbrev from : Region
  from = record { object = m; word = 0; ty = id }

  -- where the other one has nothing
  abbrev emptied : Content
  emptied = wrote m 0 0 (owner_word None ∷ []) c

  taken_is : (ws : List ℕ) → taken (parts_at types id) ws c ≡ (ws, c)
  taken_is ws = ap (λ (q : Parts). taken q ws c) is_unique

  pub out : IsStore types (λ k. times (owned_of (parts_at types id) (owner_word owned ∷ [])) k + hand k) (wrote m 0 0 (owner_word None ∷ []) c) × Flat (wrote m 0 0 (owner_word None ∷ []) c) (parts_at types id) (owner_word owned ∷ []) × (length (owner_word owned ∷ []) ≡ width_at types id)
  out =
      subst (λ (v : List ℕ × Content). IsStore types (λ k. times (owned_of (parts_at types id) v.0) k + hand k) (wrote m 0 0 (owner_word None ∷ []) v.1) × Flat (wrote m 0 0 (owner_word None ∷ []) v.1) (parts_at types id) v.0 × (length v.0 ≡ width_at types id))
      (taken_is (owner_word owned ∷ []))
      (subst (λ (ws : List ℕ). IsStore types (λ k. times (owned_of (parts_at types id) (taken (parts_at types id) ws c).0) k + hand k) (wrote m 0 0 (owner_word None ∷ []) (taken (parts_at types id) ws c).1)
      × Flat (wrote m 0 0 (owner_word None ∷ []) (taken (parts_at types id) ws c).1) (parts_at types id) (taken (parts_at types id) ws c).0 × (length (taken (parts_at types id) ws c).0 ≡ width_at types id)) are
      (moved_out types ordered hand c store m id om m_there m_within m_lt (ap width is_unique)))

  nothing_owned : (k : ℕ) → times (owned_of (parts_at types id) (owner_word None ∷ [])) k ≡ 0
  nothing_owned k = ap (λ r. times (owned_of r (owner_word None ∷ [])) k) is_unique

  in_feet : (u : ℕ) → start ≤ u → u < start + width (parts_at types id) → (both_feet types into from).part n u ≡ true
  in_feet u le less = or_left (is_in_region types into n u) (is_in_region types from n u) (in_region types into n u (record { object = refl; first = le; last = less }))

  -- what the one that gives had is beneath its word
  given_low : (k : ℕ) → 0 < times (owned_of (parts_at types id) (spot_words c (record { object = m; index = 0; word = 0 }) (width_at types id))) k → Beneath (kinds_of types) c (both_feet types into from) k
  given_low k own =
      beneath_more (kinds_of types) hand c store.forest (foot_of types from) (both_feet types into from) k
      (record { whole = λ j born e. absurd (false≢true e); part = λ j born. inr (λ w e. or_right (is_in_region types into j w) (is_in_region types from j w) e) })
      (value_lives k own)
      (value_beneath (kinds_of types) c (record { object = m; index = 0; word = 0 }) (parts_at types id) om (lies_at types ordered hand c store m 0 0 id om m_there m_within m_lt) (foot_of types from) (foot_covers types m 0 0 id (parts_at types id) refl) k own)
    where
      value_lives : (j : ℕ) → 0 < times (owned_of (parts_at types id) (spot_words c (record { object = m; index = 0; word = 0 }) (width_at types id))) j → j < c.births
      value_lives j lives = let x = spot_lives types ordered hand c store m 0 0 id om m_there m_within m_lt j lives in store.forest.births j x.0 x.1

  emptied_touches : Touches (kinds_of types) (both_feet types into from) c (wrote m 0 0 (owner_word None ∷ []) c)
  emptied_touches =
      touches_value (kinds_of types) c (record { object = m; index = 0; word = 0 }) (parts_at types id) om (lies_at types ordered hand c store m 0 0 id om m_there m_within m_lt) (owner_word None ∷ []) (sym (ap width is_unique)) (both_feet types into from)
      (λ u less. or_right (is_value (kind_in (parts_at types id) u)) ((both_feet types into from).part m (0 + u))
      (or_right (is_in_region types into m (0 + u)) (is_in_region types from m (0 + u)) (in_region types from m (0 + u) (record { object = refl; first = omega arith; last = omega (arith, less) }))))
      (λ k born own. let e = nothing_owned k in absurd (omega (arith, e, own)))

  pub kept : at (wrote m 0 0 (owner_word None ∷ []) c).objects n ≡ Some o
  kept = ap (λ (d : Content). at d.objects n) (wrote_is c m 0 0 (owner_word None ∷ []) om m_there) ∙ at-set_other c.objects m n _ apart ∙ there

  -- what it takes is put where it lies
  put : (t : Foot) → ((u : ℕ) → start ≤ u → u < start + width (parts_at types id) → t.part n u ≡ true) → Touches (kinds_of types) (and_all t (owned_of (parts_at types id) (owner_word owned ∷ []))) (wrote m 0 0 (owner_word None ∷ []) c)
      (replaced (parts_at types id) (record { object = n; index = 0; word = start }) (owner_word owned ∷ [], wrote m 0 0 (owner_word None ∷ []) c))
  put t inside =
      let before : (ℕ → ℕ) = λ k. times (owned_of (parts_at types id) (owner_word owned ∷ [])) k + hand k in
      let lies = lies_at types ordered before emptied out.0 n 0 start id o kept within lt in
      replaced_touches (kinds_of types) emptied (record { object = n; index = 0; word = start }) (parts_at types id) o lies (owner_word owned ∷ []) out.2 before hand out.0.forest (spot_known types ordered before emptied out.0 n 0 start id o kept within lt)
      (flat_lower types ordered emptied o.ty id start (owner_word owned ∷ []) within out.2 out.1) (λ k. omega arith)
      (and_all t (owned_of (parts_at types id) (owner_word owned ∷ []))) (λ u le less. or_right (is_value ((kinds_of types).word o.ty u)) (t.part n u) (inside u le less))
      (λ k own. value_beneath (kinds_of types) emptied (record { object = n; index = 0; word = start }) (parts_at types id) o lies (and_all t (owned_of (parts_at types id) (owner_word owned ∷ []))) covers k own)
      (λ k born own. whole k (is_positive (times (owned_of (parts_at types id) (owner_word owned ∷ [])) k) own))
    where
      covers : Covers (kinds_of types) (and_all t (owned_of (parts_at types id) (owner_word owned ∷ []))) (record { object = n; index = 0; word = start }) (parts_at types id)
      covers u less = or_right (is_value (kind_in (parts_at types id) u)) (t.part n (start + u)) (inside (start + u) (omega arith) (omega (arith, less)))

  -- so nothing else is touched then
  pub put_touches : Touches (kinds_of types) (and_all (foot_of types (record { object = n; word = start; ty = id })) (owned_of (parts_at types id) (owner_word owned ∷ []))) (wrote m 0 0 (owner_word None ∷ []) c)
      (replaced (parts_at types id) (record { object = n; index = 0; word = start }) (owner_word owned ∷ [], wrote m 0 0 (owner_word None ∷ []) c))
  put_touches = put (foot_of types into) (λ u le less. in_region types into n u (record { object = refl; first = le; last = less }))

  pub moved_touches : Touches (kinds_of types) (both_feet types (record { object = n; word = start; ty = id }) (record { object = m; word = 0; ty = id })) c
      (replaced (parts_at types id) (record { object = n; index = 0; word = start }) (owner_word owned ∷ [], wrote m 0 0 (owner_word None ∷ []) c))
  moved_touches =
      touches_then (kinds_of types) hand c store.forest (both_feet types into from) (and_all (both_feet types into from) (owned_of (parts_at types id) (owner_word owned ∷ []))) (both_feet types into from) emptied
      (replaced (parts_at types id) (record { object = n; index = 0; word = start }) (owner_word owned ∷ [], emptied)) emptied_touches (put (both_feet types into from) in_feet) (within_self (kinds_of types) c (both_feet types into from))
      (within_all (kinds_of types) c (both_feet types into from) (owned_of (parts_at types id) (owner_word owned ∷ []))
      (λ k own born. given_low k (subst (λ (ws : List ℕ). 0 < times (owned_of (parts_at types id) ws) k) (sym are) own)))
