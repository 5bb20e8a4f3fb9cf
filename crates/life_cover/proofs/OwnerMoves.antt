-- An owner of one word takes what a whole object of its type has, and what it had ends: what is touched is what both had.
use Rattle.std.proofs.Common.{◌≡◌, ◌≢◌, inr, ℕ, ◌+◌, ◌≤◌, ◌<◌, true, List, [], ◌∷◌, length, Option, Some, None, refl, sym, ap, subst, ◌∙◌, arith}
use Rattle.std.specs.Prelude.{◌||◌}
use Rattle.std.proofs.lemmas.Bool.{false≢true, or_right}
use Rattle.life_types.specs.Trees.{IsOrdered}
use Rattle.life_types.specs.Types.{Types}
use Rattle.life_types.specs.declared.ty.TyId.{TyId}
use Rattle.life_store.specs.Cells.{at, at-set_other, at-set_same}
use Rattle.life_store.specs.Content.{Object, Content}
use Rattle.life_store.specs.Doing.{replaced}
use Rattle.life_store.specs.Held.{owner_word, with_words, wrote, wrote_if}
use Rattle.life_store.specs.Kinds.{is_value, kind_in}
use Rattle.life_store.specs.Owners.{taken}
use Rattle.life_store.specs.Parts.{parts_at, width, width_at}
use Rattle.life_store.specs.Places.{spot_words}
use Rattle.life_forest.specs.Forest.{Beneath, Touches, whole}
use Rattle.life_forest.specs.Kinds.{kinds_of}
use Rattle.life_forest.specs.Owned.{times}
use Rattle.life_forest.specs.Typed.{IsStore}
use Rattle.life_forest.specs.Values.{owned_of}
use Rattle.life_forest.specs.Within.{LiesWithin}
use Rattle.life_forest.proofs.Below.{is_positive}
use Rattle.life_forest.proofs.Feet.{and_all, within_all, within_self}
use Rattle.life_forest.proofs.Fitting.{Flat}
use Rattle.life_forest.proofs.Lying.{Covers, touches_value, value_beneath}
use Rattle.life_forest.proofs.Owners.{alike, emptied_store, moved_out, none_owned, same_moved, ws_wide}
use Rattle.life_forest.proofs.Replacing.{replaced_touches}
use Rattle.life_forest.proofs.Spots.{lies_at, spot_known, spot_lives}
use Rattle.life_forest.proofs.Steps.{beneath_more, touches_then}
use Rattle.life_forest.proofs.Stores.{flat_lower}
use Rattle.life_forest.proofs.Puts.{wrote_is}
use Rattle.life_forest.proofs.Taking.{Took, taken_took}
use Rattle.life_cover.specs.Regions.{Region, foot_of, is_in_region}
use Rattle.life_cover.proofs.Buffers.{foot_covers}
use Rattle.life_cover.proofs.Inside.{in_region}
use Rattle.life_cover.proofs.Moved.{both_feet, or_left}

module _ (types : Types) (ordered : IsOrdered types) (hand : ℕ → ℕ) (c : Content) (store : IsStore types hand c) (id : TyId) (one : width_at types id ≡ 1)
    (m : ℕ) (om : Object) (m_there : at c.objects m ≡ Some om) (m_within : LiesWithin types om.ty 0 id) (m_lt : 0 < length om.slots) where
  abbrev from : Region
  from = record { object = m; word = 0; ty = id }

  -- what it has
  abbrev pub ws : List ℕ
  ws = spot_words c (record { object = m; index = 0; word = 0 }) (width_at types id)

  -- where it has nothing
  abbrev emptied : Content
  emptied = wrote m 0 0 (owner_word None ∷ []) c

  -- the value that is moved, and the content then
  abbrev pub given : List ℕ
  given = (taken (parts_at types id) (spot_words c (record { object = m; index = 0; word = 0 }) (width_at types id)) c).0

  abbrev pub left : Content
  left = wrote m 0 0 (owner_word None ∷ []) (taken (parts_at types id) (spot_words c (record { object = m; index = 0; word = 0 }) (width_at types id)) c).1

  out : IsStore types (λ k. times (owned_of (parts_at types id) given) k + hand k) left × Flat left (parts_at types id) given × (length given ≡ width_at types id)
  out = moved_out types ordered hand c store m id om m_there m_within m_lt one

  took : Took (kinds_of types) hand (owned_of (parts_at types id) ws) (owned_of (parts_at types id) (taken (parts_at types id) ws emptied).0) emptied (taken (parts_at types id) ws emptied).1
  took = (taken_took (kinds_of types) (parts_at types id) ws (ws_wide types ordered hand c store m id om m_there m_within m_lt one) hand emptied (emptied_store types ordered hand c store m id om m_there m_within m_lt one).forest).0

  same : left ≡ (taken (parts_at types id) ws emptied).1
  same = same_moved types ordered hand c store m id om m_there m_within m_lt one

  words : (taken (parts_at types id) ws emptied).0 ≡ given
  words = (alike types ordered hand c store m id om m_there m_within m_lt one).words

  emptied_is : (k : ℕ) → m ≢ k → at (wrote m 0 0 (owner_word None ∷ []) c).objects k ≡ at c.objects k
  emptied_is k ne = ap (λ (d : Content). at d.objects k) (wrote_is c m 0 0 (owner_word None ∷ []) om m_there) ∙ at-set_other c.objects m k _ ne

  emptied_births : (wrote m 0 0 (owner_word None ∷ []) c).births ≡ c.births
  emptied_births = ap (λ (d : Content). d.births) (wrote_is c m 0 0 (owner_word None ∷ []) om m_there)

  -- another object that it doesn't own is as it was
  pub left_other : (n : ℕ) (o : Object) → at c.objects n ≡ Some o → m ≢ n → times (owned_of (parts_at types id) ws) n ≡ 0 → at left.objects n ≡ Some o
  left_other n o there apart free =
      ap (λ (d : Content). at d.objects n) same
      ∙ took.others n (let b = emptied_births in let born = store.forest.births n o there in omega (arith, b, born)) free
      ∙ emptied_is n apart ∙ there

  -- .. and it has nothing itself
  pub left_itself : times (owned_of (parts_at types id) ws) m ≡ 0 → at left.objects m ≡ Some (with_words 0 0 (owner_word None ∷ []) om)
  left_itself free =
      ap (λ (d : Content). at d.objects m) same
      ∙ took.others m (let b = emptied_births in let born = store.forest.births m om m_there in omega (arith, b, born)) free
      ∙ ap (λ (x : Option Object). at (wrote_if x m 0 0 (owner_word None ∷ []) c).objects m) m_there
      ∙ at-set_same c.objects m m (with_words 0 0 (owner_word None ∷ []) om) refl

  -- ---- a place of its type takes it

  module _ (n i w : ℕ) (o : Object) (kept : at left.objects n ≡ Some o) (within : LiesWithin types o.ty w id) (lt : i < length o.slots) where
    abbrev into : Region
    into = record { object = n; word = w; ty = id }

    in_feet : (u : ℕ) → w ≤ u → u < w + width (parts_at types id) → (is_value ((kinds_of types).word o.ty u) || (both_feet types into from).part n u) ≡ true
    in_feet u le less =
        or_right (is_value ((kinds_of types).word o.ty u)) ((both_feet types into from).part n u)
        (or_left (is_in_region types into n u) (is_in_region types from n u) (in_region types into n u (record { object = refl; first = le; last = less })))

    -- what the one that gives had is beneath its word
    given_low : (k : ℕ) → 0 < times (owned_of (parts_at types id) ws) k → Beneath (kinds_of types) c (both_feet types into from) k
    given_low k own =
        beneath_more (kinds_of types) hand c store.forest (foot_of types from) (both_feet types into from) k
        (record { whole = λ j born e. absurd (false≢true e); part = λ j born. inr (λ v e. or_right (is_in_region types into j v) (is_in_region types from j v) e) })
        (value_lives k own)
        (value_beneath (kinds_of types) c (record { object = m; index = 0; word = 0 }) (parts_at types id) om (lies_at types ordered hand c store m 0 0 id om m_there m_within m_lt) (foot_of types from) (foot_covers types m 0 0 id (parts_at types id) refl) k own)
      where
        value_lives : (j : ℕ) → 0 < times (owned_of (parts_at types id) (spot_words c (record { object = m; index = 0; word = 0 }) (width_at types id))) j → j < c.births
        value_lives j lives = let x = spot_lives types ordered hand c store m 0 0 id om m_there m_within m_lt j lives in store.forest.births j x.0 x.1

    emptied_touches : Touches (kinds_of types) (both_feet types into from) c (wrote m 0 0 (owner_word None ∷ []) c)
    emptied_touches =
        touches_value (kinds_of types) c (record { object = m; index = 0; word = 0 }) (parts_at types id) om (lies_at types ordered hand c store m 0 0 id om m_there m_within m_lt) (owner_word None ∷ []) (sym one) (both_feet types into from)
        (λ u less. or_right (is_value (kind_in (parts_at types id) u)) ((both_feet types into from).part m (0 + u))
        (or_right (is_in_region types into m (0 + u)) (is_in_region types from m (0 + u)) (in_region types from m (0 + u) (record { object = refl; first = omega arith; last = omega (arith, less) }))))
        (λ k born own. let e = none_owned types ordered hand c store m id om m_there m_within m_lt one (parts_at types id) k in absurd (omega (arith, e, own)))

    left_touches : Touches (kinds_of types) (both_feet types into from) c left
    left_touches =
        subst (Touches (kinds_of types) (both_feet types into from) c) (sym same)
        (touches_then (kinds_of types) hand c store.forest (both_feet types into from) (and_all (both_feet types into from) (owned_of (parts_at types id) ws)) (both_feet types into from) emptied (taken (parts_at types id) ws emptied).1 emptied_touches
        (took.touches (and_all (both_feet types into from) (owned_of (parts_at types id) ws)) (λ k own. whole k (is_positive (times (owned_of (parts_at types id) ws) k) own)))
        (within_self (kinds_of types) c (both_feet types into from))
        (within_all (kinds_of types) c (both_feet types into from) (owned_of (parts_at types id) ws) (λ k own born. given_low k own)))

    second : Touches (kinds_of types) (and_all (both_feet types into from) (owned_of (parts_at types id) given)) left (replaced (parts_at types id) (record { object = n; index = i; word = w }) (given, left))
    second =
        let before : (ℕ → ℕ) = λ k. times (owned_of (parts_at types id) given) k + hand k in
        let lies = lies_at types ordered before left out.0 n i w id o kept within lt in
        replaced_touches (kinds_of types) left (record { object = n; index = i; word = w }) (parts_at types id) o lies given out.2 before hand out.0.forest (spot_known types ordered before left out.0 n i w id o kept within lt)
        (flat_lower types ordered left o.ty id w given within out.2 out.1) (λ k. omega arith)
        (and_all (both_feet types into from) (owned_of (parts_at types id) given)) in_feet
        (λ k own. value_beneath (kinds_of types) left (record { object = n; index = i; word = w }) (parts_at types id) o lies (and_all (both_feet types into from) (owned_of (parts_at types id) given)) covers k own)
        (λ k born own. whole k (is_positive (times (owned_of (parts_at types id) given) k) own))
      where
        covers : Covers (kinds_of types) (and_all (both_feet types into from) (owned_of (parts_at types id) given)) (record { object = n; index = i; word = w }) (parts_at types id)
        covers u less = or_right (is_value (kind_in (parts_at types id) u)) ((both_feet types into from).part n (w + u))
            (or_left (is_in_region types into n (w + u)) (is_in_region types from n (w + u)) (in_region types into n (w + u) (record { object = refl; first = omega arith; last = omega (arith, less) })))

    -- what is given was beneath its word, or is new
    pub owner_touches : Touches (kinds_of types) (both_feet types (record { object = n; word = w; ty = id }) (record { object = m; word = 0; ty = id })) c
        (replaced (parts_at types id) (record { object = n; index = i; word = w })
        ((taken (parts_at types id) (spot_words c (record { object = m; index = 0; word = 0 }) (width_at types id)) c).0, wrote m 0 0 (owner_word None ∷ []) (taken (parts_at types id) (spot_words c (record { object = m; index = 0; word = 0 }) (width_at types id)) c).1))
    owner_touches =
        touches_then (kinds_of types) hand c store.forest (both_feet types into from) (and_all (both_feet types into from) (owned_of (parts_at types id) given)) (both_feet types into from) left
        (replaced (parts_at types id) (record { object = n; index = i; word = w }) (given, left)) left_touches second (within_self (kinds_of types) c (both_feet types into from))
        (within_all (kinds_of types) c (both_feet types into from) (owned_of (parts_at types id) given)
        (λ k own born. given_low k (took.old k (subst (λ (vs : List ℕ). 0 < times (owned_of (parts_at types id) vs) k) (sym words) own) (let b = emptied_births in omega (arith, b, born)))))
