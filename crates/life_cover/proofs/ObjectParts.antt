-- A part of an object has its words there, and what has no members has no part but itself; so what a pointer sees in an object is the part to which it points.
use Rattle.std.proofs.Common.{◌≡◌, inl, inr, ℕ, zero, suc, ◌+◌, ◌<◌, ◌≤◌, Bool, true, false, List, [], ◌∷◌, take, Option, Some, None, refl, sym, ap, subst, ◌∙◌, arith}
use Rattle.std.specs.Prelude.{cond, length, nat_eq, slice_get, sum_by, unwrap_or}
use Rattle.std.proofs.lemmas.Bool.{eqb-true, false≢true}
use Rattle.life_types.specs.Trees.{AllBelow, IsOrdered}
use Rattle.life_types.specs.Types.{Types}
use Rattle.life_types.specs.declared.ty.Ty.{Ty}
use Rattle.life_types.specs.declared.ty.Ty.TheVariants as ty
use Rattle.life_types.specs.declared.ty.TyId.{TyId}
use Rattle.life_store.specs.Parts.{characters_type, members_if, members_of, type_within, width_at, word_within}
use Rattle.life_store.proofs.CellLemmas.{none_some, some_same}
use Rattle.life_forest.specs.Kinds.{rank_if, rank_of}
use Rattle.life_forest.specs.Within.{LiesWithin}
use Rattle.life_forest.proofs.Laying.{none_behind}
use Rattle.life_forest.proofs.Members.{member_within, within_self, within_then}
use Rattle.life_cover.specs.Covers.{IsSeenAs}
use Rattle.life_cover.specs.Inputs.{type_seen}
use Rattle.life_cover.specs.Regions.{HasPart, itself, member_part}
use Rattle.life_cover.proofs.Guarding.{eq_same}

module _ (types : Types) where
  -- what has no members has no part but itself
  pub record IsWholePart (whole : TyId) (w : ℕ) (part : TyId) : Type 0 where
    pub word : w ≡ 0
    pub same : whole ≡ part

  pub only_part : (whole : TyId) (w : ℕ) (part : TyId) → ((m : ℕ) → slice_get (members_of types whole) m ≡ None) → HasPart types whole w part → IsWholePart whole w part
  only_part whole w part none (itself _ _ word same) = record { word = word; same = same }
  only_part whole w part none (member_part v _ m id _ has there word) =
      let h = only_part whole v id none has in
      absurd (none_some (sym (none m) ∙ ap (λ (i : TyId). slice_get (members_of types i) m) h.same ∙ there))

  -- what a path leads to is one
  pub path_part : (whole id part : TyId) (v : ℕ) (ms : List ℕ) → HasPart types whole v id → type_within types (Some id) ms ≡ Some part → HasPart types whole (v + word_within types (Some id) ms) part
  path_part whole id part v [] has typed = subst (λ w. HasPart types whole w part) (nothing v) (subst (HasPart types whole v) (some_same typed) has)
    where
      nothing : (w : ℕ) → w ≡ w + 0
      nothing w = omega arith
  path_part whole id part v (m ∷ ms) has typed = go (λ x w h k. path_part whole x part w ms h k) (slice_get (members_of types id) m) refl typed
    where
      nowhere : (ns : List ℕ) → type_within types None ns ≡ Some part → ⊥
      nowhere [] h = none_some h
      nowhere (n ∷ ns) h = none_some h

      behind : (a b c : ℕ) → (a + b) + c ≡ a + (b + c)
      behind a b c = omega arith

      go : ((x : TyId) (w : ℕ) → HasPart types whole w x → type_within types (Some x) ms ≡ Some part → HasPart types whole (w + word_within types (Some x) ms) part) → (o : Option TyId) → slice_get (members_of types id) m ≡ o → type_within types o ms ≡ Some part
          → HasPart types whole (v + (sum_by (width_at types) (take m (members_of types id)) + word_within types o ms)) part
      go again None there h = absurd (nowhere ms h)
      go again (Some x) there h =
          subst (λ w. HasPart types whole w part) (behind v (sum_by (width_at types) (take m (members_of types id))) (word_within types (Some x) ms))
          (again x (v + sum_by (width_at types) (take m (members_of types id))) (member_part v (v + sum_by (width_at types) (take m (members_of types id))) m id x has there refl) h)

  -- its words are there
  pub part_within : (ordered : IsOrdered types) (whole : TyId) (w : ℕ) (part : TyId) → HasPart types whole w part → LiesWithin types whole w part
  part_within ordered whole w part (itself _ _ word same) = subst (λ v. LiesWithin types whole v part) (sym word) (subst (LiesWithin types whole 0) same (within_self types whole))
  part_within ordered whole w part (member_part v _ m id _ has there word) =
      subst (λ u. LiesWithin types whole u part) (sym word)
      (within_then types whole id part v (sum_by (width_at types) (take m (members_of types id))) (part_within ordered whole v id has) (member_within types ordered id part m there))

  -- ---- members

  pub all_below : (n : ℕ) (ids : List TyId) (m : ℕ) (id : TyId) → AllBelow n ids → slice_get ids m ≡ Some id → id.0 < n
  all_below n [] m id below e = absurd (none_some e)
  all_below n (x ∷ xs) zero id below e = subst (λ (i : TyId). i.0 < n) (some_same e) below.0
  all_below n (x ∷ xs) (suc m) id below e = all_below n xs m id below.1 e

  -- characters are no member
  no_characters : (ordered : IsOrdered types) (id : TyId) (m : ℕ) → slice_get (members_of types id) m ≡ Some (characters_type types) → ⊥
  no_characters ordered id m e = go (slice_get types.types id.0) refl e
    where
      go : (o : Option Ty) → slice_get types.types id.0 ≡ o → slice_get (members_if types o) m ≡ Some (characters_type types) → ⊥
      go (Some (ty.Struct number)) is h =
          let has = ordered.parts id.0 (ty.Struct number) is in
          let below = all_below (length types.types) has.members m (characters_type types) (ordered.members number has.members has.there) (sym (ap (λ (x : Option (List TyId)). slice_get (unwrap_or x []) m) has.there) ∙ h) in
          omega (arith, below)
      go None is h = none_some h
      go (Some _) is h = none_some h

  -- ---- ranks

  member_rank : (ordered : IsOrdered types) (id part : TyId) (m : ℕ) → slice_get (members_of types id) m ≡ Some part → rank_of types part ≤ rank_of types id
  member_rank ordered id part m e = go (slice_get types.types id.0) refl e
    where
      low : (o : Option Ty) → rank_if part.0 o ≤ suc part.0
      low None = omega arith
      low (Some t) = omega arith

      go : (o : Option Ty) → slice_get types.types id.0 ≡ o → slice_get (members_if types o) m ≡ Some part → rank_of types part ≤ rank_of types id
      go (Some (ty.Struct number)) is h =
          let has = ordered.parts id.0 (ty.Struct number) is in
          let below = all_below id.0 has.members m part has.below (sym (ap (λ (x : Option (List TyId)). slice_get (unwrap_or x []) m) has.there) ∙ h) in
          let high : rank_of types id ≡ suc id.0 = ap (rank_if id.0) is in
          let le = low (slice_get types.types part.0) in
          omega (arith, below, high, le)
      go None is h = absurd (none_some h)
      go (Some _) is h = absurd (none_some h)

  -- a part is of no greater a rank
  pub part_rank : (ordered : IsOrdered types) (whole : TyId) (w : ℕ) (part : TyId) → HasPart types whole w part → rank_of types part ≤ rank_of types whole
  part_rank ordered whole w part (itself _ _ word same) = let e = ap (rank_of types) same in omega (arith, e)
  part_rank ordered whole w part (member_part v _ m id _ has there word) =
      let inner = part_rank ordered whole v id has in
      let le = member_rank ordered id part m there in
      omega (arith, inner, le)

  -- ---- what is seen

  -- characters have no members
  characters_alone : (ordered : IsOrdered types) → (id : TyId) → id.0 ≡ length types.types → (m : ℕ) → slice_get (members_of types id) m ≡ None
  characters_alone ordered id e m = ap (λ (o : Option Ty). slice_get (members_if types o) m) (ap (slice_get types.types) e ∙ none_behind types ordered types.types)

  pub seen_exact : (ordered : IsOrdered types) (target : Option TyId) (whole : TyId) (w : ℕ) (part : TyId) → HasPart types whole w part → IsSeenAs types target part → type_seen types target whole ≡ part
  seen_exact ordered None whole w part has seen = absurd seen
  seen_exact ordered (Some t) whole w part has seen = go (nat_eq whole.0 (length types.types)) refl seen
    where
      go : (b : Bool) → nat_eq whole.0 (length types.types) ≡ b → IsSeenAs types (Some t) part → type_seen types (Some t) whole ≡ part
      go true e s = ap (λ b. cond b whole t) e ∙ (only_part whole w part (characters_alone ordered whole (eqb-true whole.0 (length types.types) e)) has).same
      go false e (inl same) = ap (λ b. cond b whole t) e ∙ same
      go false e (inr character) = absurd (of has)
        where
          of : HasPart types whole w part → ⊥
          of (itself _ _ word same) = false≢true (sym e ∙ ap (λ (i : TyId). nat_eq i.0 (length types.types)) (same ∙ character.1) ∙ eq_same (length types.types) (length types.types) refl)
          of (member_part v _ m id _ inner there word) = no_characters ordered id m (there ∙ ap Some character.1)
