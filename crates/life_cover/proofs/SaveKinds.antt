-- A number is saved where nothing is wrong: there is no fault, and the facts behind it cover all pointers of the frame.
use Rattle.std.proofs.Common.{◌≡◌, inl, inr, ℕ, true, List, [], ◌∷◌, length, Option, Some, None, refl, sym, ap, subst, ◌∙◌, arith, false, ◌||◌}
use Rattle.life_types.specs.TypeTests.{is_value}
use Rattle.life_types.specs.Types.{Types}
use Rattle.life_types.specs.declared.place.Place.{Place}
use Rattle.life_types.specs.declared.ty.TyId.{TyId}
use Rattle.life_core.specs.Function.{Function}
use Rattle.life_core.specs.Operands.{Operand}
use Rattle.life_core.specs.Step.{Save}
use Rattle.life_pset.specs.Places.{path}
use Rattle.life_pset.specs.declared.element.Fact.{Fact}
use Rattle.life_pset.specs.declared.element.Root.{Root}
use Rattle.life_contract.specs.Located.{located}
use Rattle.life_contract.specs.Signatures.{Signature}
use Rattle.life_proper.specs.Placed.{type_of}
use Rattle.life_store.specs.Content.{Object, with_object, with_word}
use Rattle.life_store.specs.Doing.{does, saved}
use Rattle.life_store.specs.Effects.{Next, Setting, Strays, cell, put_content, word_of_number}
use Rattle.life_store.specs.Held.{wrote_if}
use Rattle.life_store.specs.Parts.{Parts, Single, operand_type, parts_at, width}
use Rattle.life_store.specs.Places.{locate, on_found, operand_word, wrote_spot}
use Rattle.life_store.specs.State.{State}
use Rattle.life_store.proofs.CellLemmas.{some_same}
use Rattle.life_forest.specs.Forest.{Touches}
use Rattle.life_forest.specs.Kinds.{kinds_of}
use Rattle.life_forest.specs.Owned.{times}
use Rattle.life_forest.specs.Within.{LiesWithin}
use Rattle.life_forest.proofs.Lying.{LiesAt, touches_value}
use Rattle.life_forest.proofs.OneNumber.{IsOfType}
use Rattle.life_forest.proofs.SeenTypes.{character_parts, value_parts}
use Rattle.life_forest.proofs.Spots.{lies_at}
use Rattle.life_forest.proofs.TypedSteps.{operand_of, value_solid}
use Rattle.life_cover.specs.Covers.{IsSeenAs}
use Rattle.life_cover.specs.Frames.{FrameCovered, RootStands, look_in}
use Rattle.life_cover.proofs.SingleParts.{AreSingle, single_kinds, single_owns}
use Rattle.life_cover.proofs.Inside.{lies_true}
use Rattle.life_cover.proofs.KnownFrames.{IsKnownFrame, IsRight, hand_of, reach_at, rooted_of, store_of, used_right}
use Rattle.life_cover.proofs.OwnerKinds.{number_right}
use Rattle.life_cover.proofs.Pointers.{OnRight}
use Rattle.life_cover.proofs.Reaching.{IsReached, on_place_right}
use Rattle.life_cover.proofs.SparedPointers.{content_held, spares_nothing}
use Rattle.life_cover.proofs.Unkilled.{no_foot, unkilled_cover}
use Rattle.life_cover.specs.Inputs.{may_change, StandsAt}
use Rattle.life_cover.specs.Regions.{Region}

module _ (types : Types) (f : Function) (rest : ℕ → ℕ) (inputs : Root → Option Region) (S : Fact → Type 0) (st : State) (k : IsKnownFrame types f rest inputs S st) (o : Operand) (r : IsReached types f st (StandsAt inputs) (may_change types f) S o) where
  -- what is of a value's type has one word
  pub value_there : is_value (type_of types f o) ≡ true → parts_at types r.region.ty ≡ Single
  value_there value = go r.seen
    where
      of : IsOfType types (operand_type types f o) (type_of types f o)
      of = operand_of types k.ordered k.once 0 [] f k.shaped o (type_of types f o) refl (value_solid (type_of types f o) value)

      single : parts_at types of.number ≡ Single
      single = value_parts types k.ordered of.number (type_of types f o) of.there value

      by : (t : Option TyId) → operand_type types f o ≡ t → IsSeenAs types t r.region.ty → parts_at types r.region.ty ≡ Single
      by None e h = absurd h
      by (Some t) e (inl h) = ap (parts_at types) (sym h) ∙ ap (parts_at types) (some_same (sym e ∙ of.is)) ∙ single
      by (Some t) e (inr h) = ap (parts_at types) h.1 ∙ character_parts types k.ordered

      go : IsSeenAs types (operand_type types f o) r.region.ty → parts_at types r.region.ty ≡ Single
      go h = by (operand_type types f o) refl h

  pub region_within : LiesWithin types r.holder.ty r.region.word r.region.ty
  region_within =
      lies_true types k.ordered (hand_of rest st) st.world.content (store_of types f rest inputs S st k) (path r.place) r.lies.start r.region ((rooted_of types f rest inputs S st k).fits r.place.root r.lies.start r.lies.stands) r.lies.lies r.holder r.there

  -- so words of values alone that are written there touch nothing that is owned
  pub singles_touch : (p : Parts) → parts_at types r.region.ty ≡ p → AreSingle p → (ws : List ℕ) → length ws ≡ width p → Touches (kinds_of types) no_foot st.world.content (wrote_spot (record { object = r.region.object; index = r.index; word = r.region.word }) ws st.world.content)
  singles_touch p typed is ws wide =
      touches_value (kinds_of types) st.world.content (record { object = r.region.object; index = r.index; word = r.region.word }) p r.holder lies ws wide no_foot (λ u lt. ap (λ b. b || false) (single_kinds p is u lt))
      (λ m born own. let none = ap (λ (ns : List ℕ). times ns m) (single_owns p is ws) in absurd (omega (arith, own, none)))
    where
      lies : LiesAt (kinds_of types) st.world.content (record { object = r.region.object; index = r.index; word = r.region.word }) p r.holder
      lies =
          subst (λ (q : Parts). LiesAt (kinds_of types) st.world.content (record { object = r.region.object; index = r.index; word = r.region.word }) q r.holder) typed
          (lies_at types k.ordered (hand_of rest st) st.world.content (store_of types f rest inputs S st k) r.region.object r.index r.region.word r.region.ty r.holder r.there region_within r.small)

  pub words_touches : is_value (type_of types f o) ≡ true → (ws : List ℕ) → length ws ≡ 1 → Touches (kinds_of types) no_foot st.world.content (wrote_spot (record { object = r.region.object; index = r.index; word = r.region.word }) ws st.world.content)
  words_touches value ws one = singles_touch Single (value_there value) tt ws one

  pub saved_touches : is_value (type_of types f o) ≡ true → (word : ℕ) → Touches (kinds_of types) no_foot st.world.content (with_object r.region.object (with_word r.index r.region.word word r.holder) st.world.content)
  saved_touches value word =
      subst (Touches (kinds_of types) no_foot st.world.content) (ap (λ (x : Option Object). wrote_if x r.region.object r.index r.region.word (word ∷ []) st.world.content) r.there)
      (words_touches value (word ∷ []) refl)

module _ (types : Types) (f : Function) (rest : ℕ → ℕ) (inputs : Root → Option Region) (S : Fact → Type 0) (st : State) (k : IsKnownFrame types f rest inputs S st) (sigs : List Signature) (n : ℕ) (place : Place) (S' : Fact → Type 0) where
  pub save_kind : (s : Setting) (o : Operand) (q : ℕ) → IsRight sigs types n f place (Save o q) S S' → is_value (type_of types f o) ≡ true → OnRight (does s types f (Save o q) st) (FrameCovered types f inputs S')
  save_kind s o q right value =
      number_right (cell st q) (λ z. on_found (locate types f o st) (λ m i object. Next (saved z m i (operand_word types f o st) object st))) (FrameCovered types f inputs S')
      (λ z. on_place_right types f st (StandsAt inputs) (may_change types f) S o (reach_at types f rest inputs S st k right.closed.of o (value_solid (type_of types f o) value) (λ p used. used_right sigs types n f place (Save o q) S right.clean p used))
      (λ m i object. Next (saved z m i (operand_word types f o st) object st)) (λ c. Strays) (FrameCovered types f inputs S')
      (λ r. subst (λ w. FrameCovered types f inputs S' (saved z r.region.object r.index w r.holder st)) (sym r.word) (kept r (word_of_number z))) (λ c single. tt))
    where
      kept : (r : IsReached types f st (StandsAt inputs) (may_change types f) S o) (word : ℕ) → FrameCovered types f inputs S' (put_content (with_object r.region.object (with_word r.index r.region.word word r.holder) st.world.content) st)
      kept r word l v pointer e =
          unkilled_cover types k.ordered (hand_of rest st) st.world.content (with_object r.region.object (with_word r.index r.region.word word r.holder) st.world.content) (store_of types f rest inputs S st k)
          (saved_touches types f rest inputs S st k o r value word) (RootStands types f (StandsAt inputs) st.cells) (RootStands types f (StandsAt inputs) st.cells) (may_change types f) (rooted_of types f rest inputs S st k).fits sigs f place (Save o q) S S' right.closed (λ e. refl)
          (λ a h names free stands. stands) (located l) (look_in types f l) v refl
          (k.covered l v pointer (content_held types f rest inputs S st k no_foot (spares_nothing types f rest inputs S st k) (with_object r.region.object (with_word r.index r.region.word word r.holder) st.world.content) (saved_touches types f rest inputs S st k o r value word) l v pointer e))
