-- Behind a call each vector and each string has its buffer that had it before: what waits, and what inputs stand for, keeps what it owns, or may be
-- changed by the callee, which leaves it with its buffer.
use Rattle.std.proofs.Common.{◌≡◌, ◌⊎◌, inl, inr, ℕ, ◌+◌, ◌<◌, Bool, true, false, List, length, Option, Some, None, refl, sym, ap, subst, ◌∙◌, arith}
use Rattle.std.specs.Prelude.{Contains, option_map, slice_get, slice_index}
use Rattle.std.specs.List.{list_any}
use Rattle.life_types.specs.Types.{Types}
use Rattle.life_types.specs.declared.ty.TyId.{TyId}
use Rattle.life_pset.specs.declared.element.Root.{Root}
use Rattle.life_store.specs.Cells.{at}
use Rattle.life_store.specs.Content.{Slot, Object, Content, word_in}
use Rattle.life_store.specs.Held.{owned_in}
use Rattle.life_store.specs.Kinds.{is_value}
use Rattle.life_store.specs.Parts.{parts_at}
use Rattle.life_store.proofs.CellLemmas.{none_some, some_same}
use Rattle.life_store.proofs.MapLemmas.{one_or_apart}
use Rattle.life_forest.specs.Forest.{Beneath, Touches}
use Rattle.life_forest.specs.Kinds.{kinds_of}
use Rattle.life_forest.specs.Owned.{spared, times}
use Rattle.life_forest.specs.Typed.{IsStore}
use Rattle.life_forest.proofs.Below.{positive_is, lives}
use Rattle.life_forest.proofs.Steps.{alive_le}
use Rattle.life_cover.specs.Buffered.{AreBut, HasBuffers, is_buffer_at}
use Rattle.life_cover.specs.Inputs.{foot_with}
use Rattle.life_cover.specs.Lacking.{IsSpared}
use Rattle.life_cover.specs.Regions.{Region, is_in_region}
use Rattle.life_cover.proofs.Beside.{kept_object, Keeps}
use Rattle.life_cover.proofs.BufferWords.{buffer_owner}
use Rattle.life_cover.proofs.Copies.{slot_within}
use Rattle.life_cover.proofs.Inside.{region_within}
use Rattle.life_cover.proofs.Mutated.{which_passes}
use Rattle.life_cover.proofs.Opening.{slot_there}
use Rattle.life_cover.proofs.Remade.{hand_apart}

module _ (types : Types) (waiting : ℕ → ℕ) (regions : List Region) (over : List ℕ) (c d : Content) (store : IsStore types (λ j. times over j + waiting j) c) (touch : Touches (kinds_of types) (foot_with types regions over) c d)
    (bare loose : ℕ → Type 0) (before : AreBut types bare c) (behind : AreBut types loose d) (seen : (a : Region) → Contains regions a → loose a.object → ⊥) where
  -- what waits isn't beneath what is given over, nor beneath what the callee may change
  waits_apart : (n : ℕ) → 0 < waiting n → Beneath (kinds_of types) c (foot_with types regions over) n → ⊥
  waits_apart n lt = hand_apart (kinds_of types) (λ j. times over j + waiting j) c (foot_with types regions over) n store.forest (omega (arith, lt)) (λ e.
      let given = positive_is (times over n) e in
      let held = store.forest.held n in
      let one = alive_le (kinds_of types) c n in
      omega (arith, lt, given, held, one))

  waits_lives : (n : ℕ) → 0 < waiting n → (o : Object) × (at c.objects n ≡ Some o)
  waits_lives n lt = lives (kinds_of types) c n (let held = store.forest.held n in omega (arith, lt, held))

  -- an object that is kept has what it had, or is one that the callee leaves with its buffer
  same_kept : (n i : ℕ) (q : Object) (t : Slot) → (bare n → ⊥) → at d.objects n ≡ Some q → slice_get q.slots i ≡ Some t → (o : Object) → at c.objects n ≡ Some o → Keeps (kinds_of types) (λ u. list_any (λ a. is_in_region types a n u) regions) d n o → HasBuffers (parts_at types q.ty) t.words
  same_kept n i q t free there slot o at_c k u e = by_region (list_any (λ a. is_in_region types a n u) regions) refl
    where
      same : k.object ≡ q
      same = some_same (sym k.there ∙ there)

      ty : o.ty ≡ q.ty
      ty = sym k.type ∙ ap (λ (x : Object). x.ty) same

      s : (x : Slot) × (slice_get o.slots i ≡ Some x)
      s = slot_there o.slots i (let l = slot_within q.slots i t slot in let e = ap (λ (x : Object). length x.slots) same in let size = k.count in omega (arith, l, e, size))

      here : is_buffer_at (parts_at types o.ty) u ≡ true
      here = ap (λ (id : TyId). is_buffer_at (parts_at types id) u) ty ∙ e

      by_region : (b : Bool) → list_any (λ a. is_in_region types a n u) regions ≡ b → (m : ℕ) × (owned_in (slice_index t.words u) ≡ Some m)
      by_region true within =
          let a = which_passes (λ b. is_in_region types b n u) regions within in
          behind n i q t (λ l. seen a.0 a.1 (subst loose (region_within types a.0 n u a.2).object l)) there slot u e
      by_region false within =
          let b = before n i o s.0 free at_c s.1 u here in (
            b.0,
            ap owned_in (sym (ap (λ (x : Option Slot). word_in x u) slot)
                ∙ ap (λ (x : Object). word_in (slice_get x.slots i) u) (sym same)
                ∙ k.words i u (ap is_value (buffer_owner (parts_at types o.ty) u here)) within
                ∙ ap (λ (x : Option Slot). word_in x u) s.1) ∙ b.1,
          )

  waiting_buffered : (n i : ℕ) (q : Object) (t : Slot) → 0 < waiting n → (bare n → ⊥) → at d.objects n ≡ Some q → slice_get q.slots i ≡ Some t → HasBuffers (parts_at types q.ty) t.words
  waiting_buffered n i q t lt free there slot =
      let o = waits_lives n lt in
      same_kept n i q t free there slot o.0 o.1 (kept_object (kinds_of types) (foot_with types regions over) c d n o.0 touch (store.forest.births n o.0 o.1) (waits_apart n lt) o.1)

  -- what inputs stand for that lies nowhere beneath it
  module _ (inputs : Root → Option Region) (apart : (r : Root) (a : Region) → inputs r ≡ Some a → (a.object < c.births) × (Beneath (kinds_of types) c (foot_with types regions over) a.object → ⊥)) where
    input_buffered : (n i : ℕ) (q : Object) (t : Slot) → (bare n → ⊥) → at d.objects n ≡ Some q → slice_get q.slots i ≡ Some t → (r : Root) (a : Region) → inputs r ≡ Some a → a.object ≡ n → HasBuffers (parts_at types q.ty) t.words
    input_buffered n i q t free there slot r a stands same =
        let p = apart r a stands in
        let born : n < c.births = subst (λ j. j < c.births) same p.0 in
        let none : (Beneath (kinds_of types) c (foot_with types regions over) n → ⊥) = subst (λ j. Beneath (kinds_of types) c (foot_with types regions over) j → ⊥) same p.1 in
        go (at c.objects n) refl none born (touch.kept n born none)
      where
        go : (o : Option Object) → at c.objects n ≡ o → (Beneath (kinds_of types) c (foot_with types regions over) n → ⊥) → n < c.births
            → option_map (spared (kinds_of types) ((foot_with types regions over).part n)) (at d.objects n) ≡ option_map (spared (kinds_of types) ((foot_with types regions over).part n)) (at c.objects n) → HasBuffers (parts_at types q.ty) t.words
        go (Some o) e none born same_object = same_kept n i q t free there slot o e (kept_object (kinds_of types) (foot_with types regions over) c d n o touch born none e)
        go None e none born same_object =
            absurd (none_some (sym (sym (ap (option_map (spared (kinds_of types) ((foot_with types regions over).part n))) there) ∙ same_object ∙ ap (option_map (spared (kinds_of types) ((foot_with types regions over).part n))) e)))

    -- what may be bare was so before, or is what the callee left so, to which nobody comes here either
    pub called_spared : AreBut types (λ n. bare n ⊎ (loose n × (waiting n ≡ 0) × IsSpared inputs n)) d
    called_spared n i q t free there slot u e = go (owned_in (slice_index t.words u)) refl
      where
        go : (x : Option ℕ) → owned_in (slice_index t.words u) ≡ x → (m : ℕ) × (owned_in (slice_index t.words u) ≡ Some m)
        go (Some m) is = (m, is)
        go None is = one_or_apart (waiting n) 0
            (λ z. behind n i q t (λ l. free (inr (l, z, λ r a stands same. none_some (sym is ∙ (input_buffered n i q t (λ b. free (inl b)) there slot r a stands same u e).1)))) there slot u e)
            (λ nz. waiting_buffered n i q t (omega (arith, nz)) (λ b. free (inl b)) there slot u e)
