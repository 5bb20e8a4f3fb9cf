-- A callee leaves the pointers as they are that are locals of its caller, or members of one that isn't given over.
use Rattle.std.proofs.Common.{◌≡◌, ℕ, ◌+◌, ◌<◌, true, false, List, [], ◌∷◌, Option, Some, None, refl, sym, ap, subst, ◌∙◌, arith}
use Rattle.std.specs.Prelude.{Contains}
use Rattle.std.specs.List.{list_any}
use Rattle.life_types.specs.TypeTests.{is_pointer}
use Rattle.life_types.specs.Types.{Types}
use Rattle.life_types.specs.declared.ty.TyId.{TyId}
use Rattle.life_core.specs.Function.{Function}
use Rattle.life_core.specs.Operands.{Argument, Location}
use Rattle.life_pset.specs.declared.element.Fact.{Fact}
use Rattle.life_pset.specs.declared.element.Root.{Root}
use Rattle.life_proper.specs.Placed.{type_in}
use Rattle.life_store.specs.Calls.{lent}
use Rattle.life_store.specs.Cells.{at}
use Rattle.life_store.specs.Content.{Content}
use Rattle.life_store.specs.Effects.{cell}
use Rattle.life_store.specs.Kinds.{Pointing, kind_in}
use Rattle.life_store.specs.Parts.{local_type, parts_at, word_within}
use Rattle.life_store.specs.Places.{location_cell, member_cell}
use Rattle.life_store.specs.State.{Cell, Empty, Named, Number, Pointer, Points, State, is_there}
use Rattle.life_store.proofs.CellLemmas.{none_some, some_same}
use Rattle.life_forest.specs.Forest.{Beneath, Foot, Touches, part, under, whole}
use Rattle.life_forest.specs.FrameTypes.{IsVariable}
use Rattle.life_forest.specs.Frames.{named_in}
use Rattle.life_forest.specs.Kinds.{kinds_of}
use Rattle.life_forest.specs.Owned.{times}
use Rattle.life_forest.proofs.Below.{positive_is}
use Rattle.life_forest.proofs.Following.{in_hand}
use Rattle.life_forest.proofs.Steps.{alive_le, own_all}
use Rattle.life_forest.proofs.WrittenPointers.{gap}
use Rattle.life_cover.specs.Inputs.{entry_inputs, foot_with, mutated}
use Rattle.life_cover.specs.Regions.{IsPart, Region, is_in_region}
use Rattle.life_cover.proofs.Arguments.{AreAimedBy}
use Rattle.life_cover.proofs.GivenInputs.{is_entered}
use Rattle.life_cover.proofs.Inside.{region_within}
use Rattle.life_cover.proofs.KnownFrames.{IsKnownFrame, hand_of, store_of}
use Rattle.life_cover.proofs.Locals.{named_unowned}
use Rattle.life_cover.proofs.MemberWords.{held_before, kinds_at}
use Rattle.life_cover.proofs.Mutated.{mutated_from, which_passes}
use Rattle.life_cover.proofs.ObjectParts.{part_within}
use Rattle.life_cover.proofs.Opening.{place_part}
use Rattle.life_cover.proofs.SparedPointers.{HasNoPointer}
use Rattle.life_cover.proofs.UniquesStay.{not_true}
use Rattle.life_cover.proofs.OtherTypes.{pointed_free}

module _ (types : Types) (f : Function) (rest : ℕ → ℕ) (inputs : Root → Option Region) (S : Fact → Type 0) (st : State) (k : IsKnownFrame types f rest inputs S st) (gf : Function) (xs : List Argument) (values : List Cell)
    (aims : AreAimedBy types f inputs S st xs gf values) where
  -- no pointer lies where it may change owners behind its inputs
  mutated_free : (a : Region) → Contains (mutated types gf (entry_inputs types gf st.world.content values)) a → IsPart types st.world.content a × HasNoPointer types a.ty
  mutated_free a among =
      let m = mutated_from types gf (entry_inputs types gf st.world.content values) a among in
      let e = is_entered types gf st.world.content values m.0 a m.1 in
      let aim = aims e.input e.target e.among e.handed in
      let same : aim.points.region ≡ a = sym (aim.object e.object e.there) ∙ e.is in (
        subst (IsPart types st.world.content) same (place_part types f rest inputs S st k aim.place aim.points.region aim.points.lies),
        subst (λ (r : Region). HasNoPointer types r.ty) same (pointed_free types f rest inputs S st k aim.from aim.points.region.ty aim.points.type),
      )

  module _ (less : (y : ℕ) (v : Cell) → is_there v ≡ true → cell (lent types f xs st) y ≡ Some v → cell st y ≡ Some v) (hand : (j : ℕ) → times (named_in (lent types f xs st).cells) j + times (named_in values) j ≡ times (named_in st.cells) j)
      (d : Content) (touch : Touches (kinds_of types) (foot_with types (mutated types gf (entry_inputs types gf st.world.content values)) (named_in values)) st.world.content d) (l : Location) (v : Pointer) (pointer : is_pointer (type_in types f l) ≡ true) where
    abbrev foot : Foot
    foot = foot_with types (mutated types gf (entry_inputs types gf st.world.content values)) (named_in values)

    module _ (n : ℕ) (left : cell (lent types f xs st) l.local ≡ Some (Named n)) where
      abbrev named : cell st l.local ≡ Some (Named n)
      named = less l.local (Named n) refl left

      abbrev is : IsVariable st.world.content (local_type types f l.local) n
      is = k.stands.frame.objects l.local n named

      not_handed : foot.whole n ≡ true → ⊥
      not_handed handed =
          let over = positive_is (times (named_in values) n) handed in
          let here = in_hand (lent types f xs st).cells l.local n left in
          let all = hand n in
          let held = (store_of types f rest inputs S st k).forest.held n in
          let one = alive_le (kinds_of types) st.world.content n in
          omega (arith, over, here, all, held, one)

      apart : Beneath (kinds_of types) st.world.content foot n → ⊥
      apart (whole _ e) = not_handed e
      apart (part m _ own) = named_unowned types f rest st k.stands.store k.stands.frame l.local n m named (own_all (kinds_of types) st.world.content (foot.part m) m n own)
      apart (under m _ low own) = named_unowned types f rest st k.stands.store k.stands.frame l.local n m named own

      free : (j : ℕ) → j < 5 → foot.part n (word_within types (local_type types f l.local) l.members + j) ≡ false
      free j lt = not_true (list_any (λ a. is_in_region types a n (word_within types (local_type types f l.local) l.members + j)) (mutated types gf (entry_inputs types gf st.world.content values))) clash
        where
          kind : kind_in (parts_at types is.object.ty) (word_within types (local_type types f l.local) l.members + j) ≡ Pointing j
          kind =
              ap (λ (id : Option TyId). kind_in (parts_at types is.object.ty) (word_within types id l.members + j)) is.type
              ∙ kinds_at types k.ordered k.once f k.shaped st (λ x m e. k.stands.frame.objects x m e) l pointer n named j lt

          clash : list_any (λ a. is_in_region types a n (word_within types (local_type types f l.local) l.members + j)) (mutated types gf (entry_inputs types gf st.world.content values)) ≡ true → ⊥
          clash h =
              let a = which_passes (λ b. is_in_region types b n (word_within types (local_type types f l.local) l.members + j)) (mutated types gf (entry_inputs types gf st.world.content values)) h in
              let none = mutated_free a.0 a.1 in
              let inside = region_within types a.0 n (word_within types (local_type types f l.local) l.members + j) a.2 in
              let within = part_within types k.ordered is.object.ty a.0.word a.0.ty (none.0 is.object (ap (at st.world.content.objects) (sym inside.object) ∙ is.there)) in
              let last = inside.last in
              let g = gap a.0.word (word_within types (local_type types f l.local) l.members + j) inside.first in
              let at_g = g.1 in
              none.1 g.0 j (sym (within.words g.0 (omega (arith, at_g, last))) ∙ ap (kind_in (parts_at types is.object.ty)) (sym g.1) ∙ kind)

      member_before : member_cell types f l.local l.members (cell st l.local) d ≡ Some (Points v) → location_cell types f l st ≡ Some (Points v)
      member_before held =
          held_before types k.ordered k.once f k.shaped st (λ x m e. k.stands.frame.objects x m e) l pointer (hand_of rest st) (store_of types f rest inputs S st k) foot
          (record {
            apart = λ m e low. apart (subst (Beneath (kinds_of types) st.world.content foot) (one (some_same (sym e ∙ named))) low);
            words = λ m j e lt. subst (λ i. foot.part i (word_within types (local_type types f l.local) l.members + j) ≡ false) (one (some_same (sym named ∙ e))) (free j lt);
          })
          d touch v held
        where
          one : {a b : ℕ} → Named a ≡ Named b → a ≡ b
          one e = cc

    pub called_before : member_cell types f l.local l.members (cell (lent types f xs st) l.local) d ≡ Some (Points v) → location_cell types f l st ≡ Some (Points v)
    called_before held = go l.members refl (cell (lent types f xs st) l.local) refl held
      where
        go : (ms : List ℕ) → l.members ≡ ms → (x : Option Cell) → cell (lent types f xs st) l.local ≡ x → member_cell types f l.local ms x d ≡ Some (Points v) → location_cell types f l st ≡ Some (Points v)
        go [] none x e h = ap (λ (ms : List ℕ). member_cell types f l.local ms (cell st l.local) st.world.content) none ∙ less l.local (Points v) refl (e ∙ h)
        go (m ∷ ms) some (Some (Named n)) e h =
            member_before n e
            (ap (λ (x : Option Cell). member_cell types f l.local l.members x d) (less l.local (Named n) refl e) ∙ ap (λ (ks : List ℕ). member_cell types f l.local ks (Some (Named n)) d) some ∙ h)
        go (m ∷ ms) some None e h = absurd (none_some h)
        go (m ∷ ms) some (Some Empty) e h = absurd (none_some h)
        go (m ∷ ms) some (Some (Number z)) e h = absurd (none_some h)
        go (m ∷ ms) some (Some (Points p)) e h = absurd (none_some h)
