-- A value is copied that is no pointer: there is no fault, and the facts behind it cover all pointers of the frame, those of a struct that was written
-- included.
use Rattle.std.proofs.Common.{◌≡◌, ℕ, ◌+◌, ◌≤◌, Bool, true, false, List, [], length, Option, Some, refl, sym, ap, subst, ◌∙◌, arith}
use Rattle.std.specs.Prelude.{drop, if◌then◌else◌, slice_get, take}
use Rattle.life_types.specs.Pointees.{or_void, ty_of}
use Rattle.life_types.specs.Trees.{holds_owner, is_plain}
use Rattle.life_types.specs.TypeTests.{is_pointer, is_void}
use Rattle.life_types.specs.Types.{Types}
use Rattle.life_types.specs.declared.place.Place.{Place}
use Rattle.life_types.specs.declared.ty.Ty.{Ty}
use Rattle.life_types.specs.declared.ty.TyId.{TyId}
use Rattle.life_core.specs.Function.{Function}
use Rattle.life_core.specs.Operands.{Location, Operand}
use Rattle.life_core.specs.Operands as named
use Rattle.life_core.specs.Step.{Copy}
use Rattle.life_pset.specs.Shapes.{tree_if}
use Rattle.life_pset.specs.Shapes as shapes
use Rattle.life_pset.specs.declared.element.AbsPlace.{AbsPlace}
use Rattle.life_pset.specs.declared.element.Fact.{Fact}
use Rattle.life_pset.specs.declared.element.Root.{Root}
use Rattle.life_contract.specs.Located.{located}
use Rattle.life_contract.specs.Signatures.{Signature}
use Rattle.life_proper.specs.Placed.{is_const_place, type_of}
use Rattle.life_rules.specs.Keeping.{kept_through}
use Rattle.life_store.specs.Content.{Content}
use Rattle.life_store.specs.Doing.{does, replaced}
use Rattle.life_store.specs.Effects.{Setting, put_content}
use Rattle.life_store.specs.Held.{slot_words, words_at, words_if, wrote}
use Rattle.life_store.specs.Kinds.{Pointing, kind_in}
use Rattle.life_store.specs.Owners.{Words, ended}
use Rattle.life_store.specs.Parts.{Parts, operand_parts, operand_type, parts_at, parts_if, width}
use Rattle.life_store.specs.Places.{spot_words}
use Rattle.life_store.specs.State.{State}
use Rattle.life_forest.specs.Forest.{Beneath}
use Rattle.life_forest.specs.Kinds.{kinds_of}
use Rattle.life_forest.proofs.BegunPointers.{IsBegun}
use Rattle.life_forest.proofs.HoldingWrites.{first_wide}
use Rattle.life_forest.proofs.MemberPointers.{drop_further}
use Rattle.life_forest.proofs.MemberPointers as pointers
use Rattle.life_forest.proofs.OneNumber.{IsOfType, one_type}
use Rattle.life_forest.proofs.PlainTypes.{plain_free, through_plain}
use Rattle.life_forest.proofs.TypedSteps.{operand_of, operand_same}
use Rattle.life_cover.specs.Frames.{FrameCovered, RootStands}
use Rattle.life_cover.specs.Inputs.{StandsAt, may_change, owning}
use Rattle.life_cover.specs.Regions.{IsAt, Region, foot_of}
use Rattle.life_cover.proofs.Changes.{place_guards}
use Rattle.life_cover.proofs.CopiedKills.{IsCutBy, owner_cut, ownerless_cut}
use Rattle.life_cover.proofs.CopiedPlaces.{IsNamed, is_named_there}
use Rattle.life_cover.proofs.CopiedPointers.{struct_covered}
use Rattle.life_cover.proofs.CopiedWords.{written_words}
use Rattle.life_cover.proofs.CopyKinds.{IsWritten, copy_right, into_parts, plain_copy_kind, reached_holds}
use Rattle.life_cover.proofs.KnownFrames.{IsKnownFrame, IsRight, hand_of, rooted_of, store_of}
use Rattle.life_cover.proofs.Locals.{named_free}
use Rattle.life_cover.proofs.OwnerlessParts.{HasNoOwner, ownerless, ownerless_beneath}
use Rattle.life_cover.proofs.PlainParts.{plain_none}
use Rattle.life_cover.proofs.Pointers.{OnRight}
use Rattle.life_cover.proofs.Reaching.{IsReached}
use Rattle.life_cover.proofs.SaveKinds.{region_within}
use Rattle.life_cover.proofs.Unkept.{reached_owning}

module _ (types : Types) (f : Function) (rest : ℕ → ℕ) (inputs : Root → Option Region) (S : Fact → Type 0) (st : State) (k : IsKnownFrame types f rest inputs S st) (sigs : List Signature) (n : ℕ) (place : Place) (S' : Fact → Type 0) (s : Setting) where
  -- what isn't void has a number, and the parts of that
  abbrev of_type : (o : Operand) → is_void (type_of types f o) ≡ false → IsOfType types (operand_type types f o) (type_of types f o)
  of_type o solid = operand_of types k.ordered k.once 0 [] f k.shaped o (type_of types f o) refl solid

  -- ---- a struct with pointers, from one local or member to another

  module _ (to from : Location) (free : is_const_place types f (named.Name to) ≡ false) (right : IsRight sigs types n f place (Copy (named.Name to) (named.Name from)) S S') (solid_to : is_void (type_of types f (named.Name to)) ≡ false) (solid_from : is_void (type_of types f (named.Name from)) ≡ false)
      (alike : type_of types f (named.Name to) ≡ type_of types f (named.Name from)) (pointer : is_pointer (type_of types f (named.Name to)) ≡ false) where
    abbrev part : TyId
    part = (operand_of types k.ordered k.once 0 [] f k.shaped (named.Name to) (type_of types f (named.Name to)) refl solid_to).number

    typed_to : operand_type types f (named.Name to) ≡ Some part
    typed_to = (of_type (named.Name to) solid_to).is

    typed_from : operand_type types f (named.Name from) ≡ Some part
    typed_from =
        let one = of_type (named.Name to) solid_to in
        let two = of_type (named.Name from) solid_from in
        two.is ∙ ap Some (one_type types k.once two.number one.number (type_of types f (named.Name from)) two.there (one.there ∙ ap Some alike))

    solid : is_pointer (ty_of types part) ≡ false
    solid = ap (λ (t : Option Ty). is_pointer (or_void t)) (of_type (named.Name to) solid_to).there ∙ pointer

    module _ (r : IsReached types f st (StandsAt inputs) (may_change types f) S (named.Name to)) (v : Words) (written : IsWritten types f rest inputs S st k sigs n place S' s (named.Name to) (named.Name from) free right solid_to solid_from alike r v) where
      parts_is : operand_parts types f (named.Name to) ≡ parts_at types part
      parts_is = ap (parts_if types) typed_to

      region_parts : parts_at types r.region.ty ≡ parts_at types part
      region_parts = into_parts types f rest inputs S st k sigs n place S' s (named.Name to) (named.Name from) free right solid_to solid_from alike r ∙ parts_is

      abbrev behind : Content
      behind = replaced (operand_parts types f (named.Name to)) (record { object = r.region.object; index = r.index; word = r.region.word }) v

      -- ---- what it kills

      cuts : IsCutBy types sigs f place S S' to from right.closed st.world.content (RootStands types f (StandsAt inputs) st.cells) (foot_of types r.region)
      cuts = go (holds_owner (tree_if types (shapes.operand_type types f (named.Name to)))) refl
        where
          owned : holds_owner (tree_if types (shapes.operand_type types f (named.Name to))) ≡ true → owning types f r.place.root ≡ true
          owned holds =
              reached_owning sigs types n f place (Copy (named.Name to) (named.Name from)) S right.clean (named.Name to) (λ x. ap (λ b. if b then kept_through types n f place x (named.Name to) else []) holds) k.ordered inputs st k.given.each r (r.change free)
              (reached_holds types f rest inputs S st k sigs n place S' s (named.Name to) (named.Name from) free right solid_to solid_from alike r holds)

          no_owner : holds_owner (tree_if types (shapes.operand_type types f (named.Name to))) ≡ false → HasNoOwner (parts_at types r.region.ty)
          no_owner none = subst HasNoOwner (sym region_parts) (ownerless types k.ordered part (ap (λ (id : Option TyId). holds_owner (tree_if types id)) (sym (operand_same types k.ordered k.once 0 [] f k.shaped (named.Name to) ∙ typed_to)) ∙ none))

          go : (b : Bool) → holds_owner (tree_if types (shapes.operand_type types f (named.Name to))) ≡ b → IsCutBy types sigs f place S S' to from right.closed st.world.content (RootStands types f (StandsAt inputs) st.cells) (foot_of types r.region)
          go true holds =
              owner_cut types sigs f place S S' to from right.closed st.world.content (RootStands types f (StandsAt inputs) st.cells) (foot_of types r.region) holds
              (place_guards types k.ordered (hand_of rest st) st.world.content behind (store_of types f rest inputs S st k) (RootStands types f (StandsAt inputs) st.cells) (may_change types f) (owning types f) (rooted_of types f rest inputs S st k) S (located to) r.region
              (subst (λ (a : AbsPlace). owning types f a.root ≡ true) r.by (owned holds)) (subst (λ (a : AbsPlace). IsAt types st.world.content (RootStands types f (StandsAt inputs) st.cells) a r.region) r.by r.lies))
          go false none =
              ownerless_cut types sigs f place S S' to from right.closed st.world.content (RootStands types f (StandsAt inputs) st.cells) (foot_of types r.region) none
              (ownerless_beneath types k.ordered st.world.content r.region r.holder r.there (region_within types f rest inputs S st k (named.Name to) r) (no_owner none))

      -- ---- what it writes

      there : IsNamed types f rest inputs S st k to r
      there = is_named_there types f rest inputs S st k to r

      room : r.region.word + length v.0 ≤ length (words_if (slice_get r.holder.slots 0))
      room =
          let fit = (store_of types f rest inputs S st k).fit r.region.object r.holder r.there in
          let long = first_wide r.holder.width r.holder.slots (let less = r.small in omega (arith, less)) fit.slots ∙ fit.width in
          let fits = (region_within types f rest inputs S st k (named.Name to) r).fits in
          let wide = written.wide ∙ ap width (parts_is ∙ sym region_parts) in
          omega (arith, long, fits, wide)

      -- no owner has a local's object
      apart : Beneath (kinds_of types) st.world.content (foot_of types r.region) r.region.object → ⊥
      apart low = named_free types f rest st k.stands.store k.stands.frame to.local r.region.object r.region there.names low

      same : (u : ℕ) → IsBegun (parts_at types part) u
          → (h : IsReached types f st (StandsAt inputs) (may_change types f) S (named.Name from)) × (words_at behind r.region.object 0 (r.region.word + u) 5 ≡ words_at st.world.content h.region.object 0 (h.region.word + u) 5)
      same u begun =
          let begun_there = subst (λ (p : Parts). IsBegun p u) (sym parts_is) begun in
          let came = written.pointers u begun_there in (
            came.0,
            written_words (kinds_of types) (foot_of types r.region) st.world.content behind (ended (operand_parts types f (named.Name to)) (spot_words v.1 (record { object = r.region.object; index = r.index; word = r.region.word }) (width (operand_parts types f (named.Name to)))) v.1) r.region.object r.region.word v.0 r.holder r.there
                ((store_of types f rest inputs S st k).forest.births r.region.object r.holder r.there) apart written.touches at_first room u (let fits = begun_there.fits in let wide = written.wide in omega (arith, fits, wide))
                ∙ came.1
                ∙ from_words came.0 (width (operand_parts types f (named.Name to))) begun_there.fits,
          )
        where
          at_first : behind ≡ wrote r.region.object 0 r.region.word v.0 (ended (operand_parts types f (named.Name to)) (spot_words v.1 (record { object = r.region.object; index = r.index; word = r.region.word }) (width (operand_parts types f (named.Name to)))) v.1)
          at_first = ap (λ i. wrote r.region.object i r.region.word v.0 (ended (operand_parts types f (named.Name to)) (spot_words v.1 (record { object = r.region.object; index = r.index; word = r.region.word }) (width (operand_parts types f (named.Name to)))) v.1)) there.first

          from_words : (h : IsReached types f st (StandsAt inputs) (may_change types f) S (named.Name from)) (w : ℕ) → u + 5 ≤ w → take 5 (drop u (words_at st.world.content h.region.object h.index h.region.word w)) ≡ words_at st.world.content h.region.object 0 (h.region.word + u) 5
          from_words h w fits =
              pointers.inside 5 u w (drop h.region.word (slot_words st.world.content h.region.object h.index)) fits
              ∙ ap (λ (xs : List ℕ). take 5 xs) (drop_further h.region.word u (slot_words st.world.content h.region.object h.index))
              ∙ ap (λ i. take 5 (drop (h.region.word + u) (slot_words st.world.content h.region.object i))) (is_named_there types f rest inputs S st k from h).first

      named_covered : FrameCovered types f inputs S' (put_content behind st)
      named_covered =
          struct_covered types f rest inputs S st k sigs place S' to from right.closed r part typed_to typed_from solid (ap width region_parts) behind written.touches cuts same

    pub struct_copy_kind : OnRight (does s types f (Copy (named.Name to) (named.Name from)) st) (FrameCovered types f inputs S')
    struct_copy_kind = copy_right types f rest inputs S st k sigs n place S' s (named.Name to) (named.Name from) free right solid_to solid_from alike (FrameCovered types f inputs S') (λ r v written. named_covered r v written)

  -- ---- any value

  -- what is plain has no pointer
  plain_parts : (o : Operand) → is_void (type_of types f o) ≡ false → is_plain (tree_if types (shapes.operand_type types f o)) ≡ true → (u j : ℕ) → kind_in (operand_parts types f o) u ≡ Pointing j → ⊥
  plain_parts o solid plain u j h =
      let of = of_type o solid in
      plain_none (parts_at types of.number) (plain_free types k.ordered of.number (ap (λ (id : Option TyId). is_plain (tree_if types id)) (sym (operand_same types k.ordered k.once 0 [] f k.shaped o ∙ of.is)) ∙ plain)) u j
      (ap (λ (id : Option TyId). kind_in (parts_if types id) u) (sym of.is) ∙ h)

  pub copy_kind : (to from : Operand) → is_const_place types f to ≡ false → IsRight sigs types n f place (Copy to from) S S' → is_void (type_of types f to) ≡ false → is_void (type_of types f from) ≡ false → type_of types f to ≡ type_of types f from
      → is_pointer (type_of types f to) ≡ false → OnRight (does s types f (Copy to from) st) (FrameCovered types f inputs S')
  copy_kind (named.Name to) (named.Name from) free right solid_to solid_from alike pointer = struct_copy_kind to from free right solid_to solid_from alike pointer
  copy_kind (named.Through p ms) from free right solid_to solid_from alike pointer =
      plain_copy_kind types f rest inputs S st k sigs n place S' s (named.Through p ms) from free right solid_to solid_from alike (plain_parts (named.Through p ms) solid_to (through_plain types k.ordered f k.stand p ms))
  copy_kind (named.Name to) (named.Through p ms) free right solid_to solid_from alike pointer =
      plain_copy_kind types f rest inputs S st k sigs n place S' s (named.Name to) (named.Through p ms) free right solid_to solid_from alike
      (λ u j h. plain_parts (named.Through p ms) solid_from (through_plain types k.ordered f k.stand p ms) u j (ap (λ (id : Option TyId). kind_in (parts_if types id) u) (sym same_type) ∙ h))
    where
      same_type : operand_type types f (named.Name to) ≡ operand_type types f (named.Through p ms)
      same_type =
          let one = of_type (named.Name to) solid_to in
          let two = of_type (named.Through p ms) solid_from in
          one.is ∙ ap Some (one_type types k.once one.number two.number (type_of types f (named.Through p ms)) (one.there ∙ ap Some alike) two.there) ∙ sym two.is
