-- What an operand is, a local by its name or what is behind a pointer that is a local or a member of one, where nothing is wrong with the pointer: a place of the
-- rules, characters of a text, or no position at all.
use Rattle.std.proofs.Common.{◌≡◌, inl, ℕ, ◌+◌, ◌<◌, Bool, true, false, [], length, Option, Some, None, refl, sym, ap, subst, ◌∙◌, arith}
use Rattle.std.specs.Prelude.{nat_lt, slice_get}
use Rattle.std.proofs.lemmas.Bool.{false≢true}
use Rattle.std.proofs.lemmas.Bool.Decides.{nat_tests}
use Rattle.life_types.specs.Pointees.{or_void}
use Rattle.life_types.specs.TypeTests.{is_pointer}
use Rattle.life_types.specs.Types.{Types}
use Rattle.life_types.specs.declared.ty.Ty.{Ty}
use Rattle.life_types.specs.declared.ty.Ty.TheVariants as variant
use Rattle.life_types.specs.declared.ty.TyId.{TyId}
use Rattle.life_core.specs.Function.{Function}
use Rattle.life_core.specs.Operands.{Location, Operand, whole}
use Rattle.life_core.specs.Operands as named
use Rattle.life_pset.specs.Elements.{local_place}
use Rattle.life_pset.specs.Places.{members_place}
use Rattle.life_pset.specs.Shapes.{ty_if}
use Rattle.life_pset.specs.declared.element.AbsPlace.{AbsPlace}
use Rattle.life_pset.specs.declared.element.Element.TheVariants as element
use Rattle.life_pset.specs.declared.element.Fact.{Fact}
use Rattle.life_pset.specs.declared.element.Root.{Root}
use Rattle.life_pset.specs.declared.element.Root.TheVariants as root
use Rattle.life_contract.specs.Located.{located}
use Rattle.life_proper.specs.OperandTypes.{is_range}
use Rattle.life_proper.specs.Placed.{is_const_place, type_in}
use Rattle.life_rules.specs.Matching.{fact_at}
use Rattle.life_store.specs.Cells.{at}
use Rattle.life_store.specs.Content.{Object}
use Rattle.life_store.specs.Effects.{Effect, cell}
use Rattle.life_store.specs.Parts.{Single, local_type, location_type, operand_type, parts_if, target_in, target_type}
use Rattle.life_store.specs.Places.{Here, Fixed, Outside, Astray, Spot, behind_cell, found_if, found_in, found_text, here_if, locate, location_cell, named_by, on_found, on_place, on_spot, operand_word, pointer_word, reached_if, reached_in}
use Rattle.life_store.specs.State.{Characters, Target, Pointer, Null, Wild, To, Static, Cell, Empty, Named, Number, Points, State}
use Rattle.life_forest.specs.FrameTypes.{IsFrame, IsOfText, IsVariable, PointsWell, seen_in, seen_type}
use Rattle.life_cover.specs.Covers.{Holds, IsCovered, IsSeenAs}
use Rattle.life_cover.specs.Frames.{LocationsCovered, RootStands, look_in}
use Rattle.life_cover.specs.Regions.{IsAt, Region}
use Rattle.life_cover.proofs.Fresh.{holds_lives, position_valid}
use Rattle.life_cover.proofs.Making.{IsItsPath}
use Rattle.life_cover.proofs.Pointers.{OnRight}
use Rattle.life_cover.proofs.Using.{IsTo, NotInvalid, not_null, not_wild, to_place}

lt_true : (a b : ℕ) → a < b → nat_lt a b ≡ true
lt_true a b h = grind (arith, nat_tests)

lt_of : (a b : ℕ) → nat_lt a b ≡ true → a < b
lt_of a b h = grind (arith, nat_tests)

-- what isn't a range has its target in the table
pub unranged_target : (types : Types) (id : Option TyId) → is_range (ty_if types id) ≡ false → seen_type types id ≡ target_type types id
unranged_target types None e = refl
unranged_target types (Some id) e = go (slice_get types.types id.0) refl e
  where
    go : (o : Option Ty) → slice_get types.types id.0 ≡ o → is_range (or_void o) ≡ false → seen_in types o ≡ target_in o
    go None is k = refl
    go (Some variant.View) is k = absurd (false≢true (sym k))
    go (Some _) is k = refl

module _ (types : Types) (f : Function) (st : State) (Input : Root → Region → Type 0) (may_change : Root → Bool) (S : Fact → Type 0) where
  -- the place that it is by the rules
  abbrev pub IsBy : Operand → AbsPlace → Type 0
  IsBy (named.Name l) place = place ≡ located l
  IsBy (named.Through p members) place = (a : AbsPlace) × S (fact_at (located p) (element.At a)) × (place ≡ members_place a members)

  -- it lies in a slot of an object that lives
  pub record IsReached (o : Operand) : Type 0 where
    pub region : Region
    pub index : ℕ
    pub holder : Object
    pub there : at st.world.content.objects region.object ≡ Some holder
    pub small : index < length holder.slots
    pub place : AbsPlace
    pub lies : IsAt types st.world.content (RootStands types f Input st.cells) place region
    pub by : IsBy o place
    pub path : IsItsPath place
    pub change : is_const_place types f o ≡ false → may_change place.root ≡ true
    pub seen : IsSeenAs types (operand_type types f o) region.ty
    pub found : locate types f o st ≡ Here region.object index holder
    pub word : operand_word types f o st ≡ region.word

  pub data Reach (o : Operand) : Type 0 where
    reached : IsReached o → Reach o
    fixed : (k : Characters) → locate types f o st ≡ Fixed k → parts_if types (operand_type types f o) ≡ Single → Reach o
    outside : locate types f o st ≡ Outside → Reach o
    astray : locate types f o st ≡ Astray → Reach o

  -- ---- what is done with it

  pub spot_is : (o : Operand) (r : IsReached o) (go : Spot → Effect) → on_spot types f o st go ≡ go (record { object = r.region.object; index = r.index; word = r.region.word })
  spot_is o r go =
      ap (λ found. on_found found (λ n i object. go (record { object = n; index = i; word = operand_word types f o st }))) r.found
      ∙ ap (λ w. go (record { object = r.region.object; index = r.index; word = w })) r.word

  pub on_place_right : (o : Operand) → Reach o → (go : ℕ → ℕ → Object → Effect) (text : Characters → Effect) (Q : State → Type 0) → ((r : IsReached o) → OnRight (go r.region.object r.index r.holder) Q) → ((k : Characters) → parts_if types (operand_type types f o) ≡ Single → OnRight (text k) Q)
      → OnRight (on_place (locate types f o st) go text) Q
  on_place_right o (reached r) go text Q each chars = subst (λ found. OnRight (on_place found go text) Q) (sym r.found) (each r)
  on_place_right o (fixed k e single) go text Q each chars = subst (λ found. OnRight (on_place found go text) Q) (sym e) (chars k single)
  on_place_right o (outside e) go text Q each chars = subst (λ found. OnRight (on_place found go text) Q) (sym e) tt
  on_place_right o (astray e) go text Q each chars = subst (λ found. OnRight (on_place found go text) Q) (sym e) tt

  pub by_reach : (o : Operand) → Reach o → (go : Spot → Effect) (Q : State → Type 0) → (IsReached o → OnRight (on_spot types f o st go) Q) → OnRight (on_spot types f o st go) Q
  by_reach o (reached r) go Q each = each r
  by_reach o (fixed k e single) go Q each = subst (λ found. OnRight (on_found found (λ n i object. go (record { object = n; index = i; word = operand_word types f o st }))) Q) (sym e) tt
  by_reach o (outside e) go Q each = subst (λ found. OnRight (on_found found (λ n i object. go (record { object = n; index = i; word = operand_word types f o st }))) Q) (sym e) tt
  by_reach o (astray e) go Q each = subst (λ found. OnRight (on_found found (λ n i object. go (record { object = n; index = i; word = operand_word types f o st }))) Q) (sym e) tt

  -- ---- a local

  module _ (frame : IsFrame types f st.world.content st.cells) where
    pub named_reach : (x : ℕ) → may_change (root.Local x) ≡ true → (v : Option Cell) → cell st x ≡ v → Reach (named.Name (whole x))
    named_reach x may None e = astray (ap (named_by st.world.content) e)
    named_reach x may (Some Empty) e = astray (ap (named_by st.world.content) e)
    named_reach x may (Some (Number z)) e = astray (ap (named_by st.world.content) e)
    named_reach x may (Some (Points p)) e = astray (ap (named_by st.world.content) e)
    named_reach x may (Some (Named n)) e = variable (frame.objects x n e)
      where
        variable : IsVariable st.world.content (local_type types f x) n → Reach (named.Name (whole x))
        variable v =
            let small : 0 < length v.object.slots = let one = ap length v.one in omega (arith, one) in
            reached (record {
              region = record { object = n; word = 0; ty = v.object.ty };
              index = 0;
              holder = v.object;
              there = v.there;
              small = small;
              place = local_place x;
              lies = record { start = record { object = n; word = 0; ty = v.object.ty }; stands = (e, refl, v.type); lies = refl };
              by = refl;
              path = record { eight = refl; made = refl };
              change = λ e. may;
              seen = subst (λ (t : Option TyId). IsSeenAs types t v.object.ty) (sym v.type) (inl refl);
              found = ap (named_by st.world.content) e ∙ ap (λ (ob : Option Object). found_in ob n 0) v.there ∙ ap (λ b. here_if b n 0 v.object) (lt_true 0 (length v.object.slots) small);
              word = refl;
            })

    -- ---- behind a pointer

    module _ (old : LocationsCovered types f Input may_change S st) (p : Location) (pointer : is_pointer (type_in types f p) ≡ true) (right : NotInvalid S (located p)) (some : S (fact_at (located p) element.Null) → ⊥) (single : (look_in types f p).ranged ≡ false)
        (sees : (look_in types f p).target ≡ target_type types (location_type types f p)) (well : (v : Pointer) → location_cell types f p st ≡ Some (Points v) → PointsWell types st.world.content (look_in types f p).target v) (path : (a : AbsPlace) → S (fact_at (located p) (element.At a)) → IsItsPath a) where
      target_reach : (t : Target) → location_cell types f p st ≡ Some (Points (To t)) → IsTo types st.world.content (RootStands types f Input st.cells) may_change S (located p) (look_in types f p) right t → Reach (named.Through p [])
      target_reach t e to = go (holds_lives st.world.content false t holds)
        where
          holds : Holds st.world.content false t
          holds = subst (λ b. Holds st.world.content b t) single to.points.holds

          go : (o : Object) × (at st.world.content.objects t.object ≡ Some o) → Reach (named.Through p [])
          go l = by_test (nat_lt t.index (length l.0.slots)) refl
            where
              is : locate types f (named.Through p []) st ≡ reached_if (nat_lt t.index (length l.0.slots)) t.object t.index l.0
              is =
                  ap (behind_cell st.world.content) e ∙ ap (λ b. found_if b st.world.content t) (position_valid st.world.content t holds)
                  ∙ ap (λ (ob : Option Object). reached_in ob t.object t.index) l.1

              by_test : (b : Bool) → nat_lt t.index (length l.0.slots) ≡ b → Reach (named.Through p [])
              by_test false lt = outside (is ∙ ap (λ b. reached_if b t.object t.index l.0) lt)
              by_test true lt = reached (record {
                region = to.points.region;
                index = t.index;
                holder = l.0;
                there = ap (at st.world.content.objects) (sym to.points.object) ∙ l.1;
                small = lt_of t.index (length l.0.slots) lt;
                place = to.place;
                lies = to.points.lies;
                by = (to.place, to.fact, refl);
                path = path to.place to.fact;
                change = λ e. to.points.change e;
                seen = subst (λ (id : Option TyId). IsSeenAs types id to.points.region.ty) sees to.points.type;
                found = is ∙ ap (λ b. reached_if b t.object t.index l.0) lt ∙ ap (λ n. Here n t.index l.0) to.points.object;
                word = ap (λ (v : Option Cell). pointer_word v + 0) e ∙ nothing t.word ∙ to.points.word;
              })
                where
                  nothing : (w : ℕ) → w + 0 ≡ w
                  nothing w = omega arith

      pointer_reach : (v : Pointer) → location_cell types f p st ≡ Some (Points v) → IsCovered types st.world.content (RootStands types f Input st.cells) may_change S (located p) (look_in types f p) v → Reach (named.Through p [])
      pointer_reach Null e h = absurd (not_null types st.world.content (RootStands types f Input st.cells) may_change S (located p) (look_in types f p) right some h)
      pointer_reach Wild e h = absurd (not_wild types st.world.content (RootStands types f Input st.cells) may_change S (located p) (look_in types f p) right h)
      pointer_reach (To t) e h = target_reach t e (to_place types st.world.content (RootStands types f Input st.cells) may_change S (located p) (look_in types f p) right t h)
      pointer_reach (Static k) e h = text k.text (ap (behind_cell st.world.content) e) (well (Static k) e)
        where
          text : (n : Option ℕ) → locate types f (named.Through p []) st ≡ found_text n k → IsOfText types (look_in types f p).target n → Reach (named.Through p [])
          text None is of = outside is
          text (Some n) is of = fixed k is (ap (parts_if types) (sym sees) ∙ of)

      pub through_reach : (v : Option Cell) → location_cell types f p st ≡ v → Reach (named.Through p [])
      through_reach None e = astray (ap (behind_cell st.world.content) e)
      through_reach (Some Empty) e = astray (ap (behind_cell st.world.content) e)
      through_reach (Some (Named n)) e = astray (ap (behind_cell st.world.content) e)
      through_reach (Some (Number z)) e = astray (ap (behind_cell st.world.content) e)
      through_reach (Some (Points v)) e = pointer_reach v e (old p v pointer e)
