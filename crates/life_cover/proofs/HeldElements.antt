-- The elements of a vector that is reached in a frame: its buffer is of their type, and what they have lives and isn't the buffer.
use Rattle.std.proofs.Common.{◌≡◌, ℕ, zero, suc, ◌<◌, length, Option, Some, refl, sym, ap, subst, ◌∙◌, arith, ◌⊎◌, ⊎_elim, List, [], ◌∷◌}
use Rattle.std.specs.Prelude.{slice_get}
use Rattle.life_types.specs.Types.{Types}
use Rattle.life_types.specs.declared.ty.Ty.TheVariants as ty
use Rattle.life_types.specs.declared.ty.TyId.{TyId}
use Rattle.life_core.specs.Function.{Function}
use Rattle.life_core.specs.Operands.{Operand}
use Rattle.life_pset.specs.declared.element.Fact.{Fact}
use Rattle.life_pset.specs.declared.element.Root.{Root}
use Rattle.life_proper.specs.Placed.{type_of}
use Rattle.life_store.specs.Cells.{at}
use Rattle.life_store.specs.Content.{Slot, Object}
use Rattle.life_store.specs.Edits.{erased, size_of}
use Rattle.life_store.specs.Held.{slots_at, slots_if}
use Rattle.life_store.specs.Parts.{Vector, operand_parts, parts_at, parts_if, width_at}
use Rattle.life_store.specs.State.{State}
use Rattle.life_store.proofs.CellLemmas.{none_some, some_same}
use Rattle.life_forest.specs.Forest.{Beneath}
use Rattle.life_forest.specs.Kinds.{kinds_of}
use Rattle.life_forest.specs.Values.{AllWide, listed}
use Rattle.life_forest.proofs.SeenTypes.{parts_typed}
use Rattle.life_cover.specs.Buffered.{HasBuffers, is_buffer_at}
use Rattle.life_cover.specs.Inputs.{may_change, StandsAt}
use Rattle.life_cover.specs.Lacking.{MayLack}
use Rattle.life_cover.specs.Regions.{Region, foot_of}
use Rattle.life_cover.proofs.Buffers.{buffer, buffer_low, buffer_type}
use Rattle.life_cover.proofs.ErasedBuffers.{IsShut, erased_shut}
use Rattle.life_cover.proofs.Inside.{not_itself}
use Rattle.life_cover.proofs.KnownFrames.{IsKnownFrame, hand_of, store_of}
use Rattle.life_cover.proofs.Lacking.{low_whole}
use Rattle.life_cover.proofs.Opening.{IsOpened, IsTyped, owner_typed, vector_opened}
use Rattle.life_cover.proofs.OwnedWords.{word_beneath, word_lives}
use Rattle.life_cover.proofs.Reaching.{IsReached}
use Rattle.life_cover.proofs.Rebuffering.{AreFree}
use Rattle.life_cover.proofs.SaveKinds.{region_within}

all_wide : (w j : ℕ) (ss : List Slot) (t : Slot) → AllWide w ss → slice_get ss j ≡ Some t → length t.words ≡ w
all_wide w j [] t h e = absurd (none_some e)
all_wide w zero (x ∷ xs) t h e = subst (λ (y : Slot). length y.words ≡ w) (some_same e) h.0
all_wide w (suc j) (x ∷ xs) t h e = all_wide w j xs t h.1 e

module _ (types : Types) (f : Function) (rest : ℕ → ℕ) (inputs : Root → Option Region) (S : Fact → Type 0) (st : State) (k : IsKnownFrame types f rest inputs S st) (o : Operand) (r : IsReached types f st (StandsAt inputs) (may_change types f) S o) (element : TyId) (is_vector : type_of types f o ≡ ty.Vector element) where
  typed_at : IsTyped types f rest inputs S st k o r (ty.Vector element)
  typed_at = owner_typed types f rest inputs S st k o r (ty.Vector element) element is_vector refl refl

  pub vector_parts : parts_at types r.region.ty ≡ Vector element (parts_at types element)
  vector_parts = parts_typed types k.ordered r.region.ty (ty.Vector element) typed_at.there

  pub vector_operand : operand_parts types f o ≡ Vector element (parts_at types element)
  vector_operand = ap (parts_if types) typed_at.typed ∙ vector_parts

  module _ (unmoved : MayLack types f inputs S st r.region.object → ⊥) where
    abbrev vector_at : IsOpened types f rest inputs S st k o r (ty.Vector element) element
    vector_at = vector_opened types f rest inputs S st k o r unmoved element is_vector

    pub held : (x : Object) × (at st.world.content.objects (vector_opened types f rest inputs S st k o r unmoved element is_vector).buffer ≡ Some x)
    held =
        buffer types k.ordered (hand_of rest st) st.world.content (store_of types f rest inputs S st k) r.region.object r.index r.region.word r.region.ty r.holder r.there (region_within types f rest inputs S st k o r) r.small element (parts_at types element) vector_parts vector_at.buffer vector_at.owned

    pub held_type : held.0.ty ≡ element
    unfolding held
    held_type =
        buffer_type types k.ordered (hand_of rest st) st.world.content (store_of types f rest inputs S st k) r.region.object r.index r.region.word r.region.ty r.holder r.there (region_within types f rest inputs S st k o r) r.small element (parts_at types element) vector_parts vector_at.buffer vector_at.owned

    -- all of the buffer
    abbrev pub elements_region : Region
    elements_region = record { object = (vector_opened types f rest inputs S st k o r unmoved element is_vector).buffer; word = 0; ty = held.0.ty }

    -- it isn't bare, since the vector owns it
    pub not_bare : MayLack types f inputs S st vector_at.buffer → ⊥
    not_bare =
        low_whole types f rest inputs S st k r.region vector_at.buffer
        (buffer_low types k.ordered (hand_of rest st) st.world.content (store_of types f rest inputs S st k) r.region.object r.index r.region.word r.region.ty r.holder r.there (region_within types f rest inputs S st k o r) r.small
        (Vector element (parts_at types element)) vector_parts vector_at.buffer (ap listed vector_at.owned))

    -- what its elements have, as long as nothing that lives beneath it is left out
    module _ (out : ℕ → Type 0) (never : (m : ℕ) (q : Object) → at st.world.content.objects m ≡ Some q → Beneath (kinds_of types) st.world.content (foot_of types elements_region) m → out m → ⊥) where
      held_free : AreFree types (parts_at types element) out held.0.slots
      held_free j t here = (
        subst (λ (id : TyId). HasBuffers (parts_at types id) t.words) held_type (k.buffered vector_at.buffer j held.0 t not_bare held.1 here),
        (λ u m e owned.
            let is = ap (λ (id : TyId). is_buffer_at (parts_at types id) u) held_type ∙ e in
            let l = word_lives types k.ordered (hand_of rest st) st.world.content (store_of types f rest inputs S st k) vector_at.buffer j u m held.0 t held.1 here is owned in
            never m l.0 l.1 (word_beneath types k.ordered (hand_of rest st) st.world.content (store_of types f rest inputs S st k) vector_at.buffer j u m held.0 t held.1 here is owned)),
        all_wide held.0.width j held.0.slots t (k.stands.store.fit vector_at.buffer held.0 held.1).slots here ∙ (k.stands.store.fit vector_at.buffer held.0 held.1).width ∙ ap (width_at types) held_type,
      )

      pub all_free : AreFree types (parts_at types element) out (slots_at st.world.content vector_at.buffer)
      all_free j t slot = held_free j t (sym (ap (λ (x : Option Object). slice_get (slots_if x) j) held.1) ∙ slot)

    -- one of them is erased
    pub elements_shut : (index : ℕ) → index < size_of st.world.content vector_at.buffer → IsShut types (MayLack types f inputs S st) vector_at.buffer (length held.0.slots) (erased (parts_at types element) vector_at.buffer index st.world.content)
    elements_shut index small =
        erased_shut types (MayLack types f inputs S st) (parts_at types element) vector_at.buffer index st.world.content k.buffered held.0 held.1 (ap (parts_at types) held_type)
        (held_free (λ m. MayLack types f inputs S st m ⊎ (m ≡ vector_at.buffer))
        (λ m q there low out. ⊎_elim (λ lacks. low_whole types f rest inputs S st k elements_region m low lacks) (λ same. not_itself types k.ordered (hand_of rest st) st.world.content (store_of types f rest inputs S st k) elements_region (subst (Beneath (kinds_of types) st.world.content (foot_of types elements_region)) same low)) out))
        (k.stands.store.forest.births vector_at.buffer held.0 held.1)
        (let e = ap (λ (x : Option Object). length (slots_if x)) held.1 in omega (arith, e, small))
