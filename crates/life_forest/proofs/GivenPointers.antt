-- What each instruction that makes a pointer gives its location: a pointer that points well, and is as good as those that it is made from.
use Rattle.std.proofs.Common.{◌≡◌, ℕ, ◌+◌, Option, Some, None, refl, sym, subst, ◌∙◌}
use Rattle.life_types.specs.Trees.{IsOrdered}
use Rattle.life_types.specs.Types.{Types}
use Rattle.life_types.specs.declared.ty.TyId.{TyId}
use Rattle.life_core.specs.declared.instr.Direction.{Direction}
use Rattle.life_core.specs.declared.operand.RangeEnd.{RangeEnd}
use Rattle.life_core.specs.declared.operand.Which.{Which}
use Rattle.life_core.specs.declared.operand.Which.TheVariants as which
use Rattle.life_core.specs.Function.{Function}
use Rattle.life_core.specs.Operands.{Base, Location, Operand, Source}
use Rattle.life_core.specs.Operands as source
use Rattle.life_store.specs.Content.{Object, Content}
use Rattle.life_store.specs.Doing.{advanced, aimed, aimed_at, count_in, cursor, cut, element, element_at, owned_pointer, owner_element, pointer_to, target_at, type_if, whole_of}
use Rattle.life_store.specs.Edits.{buffer_of, owned_at, size_of}
use Rattle.life_store.specs.Effects.{Setting, Effect, cell, on_got, on_number, on_pointer, type_of}
use Rattle.life_store.specs.Iterators.{at_index, chosen, count_of, directed, element_of, end_index, index_in, iterator, start_of, stepped}
use Rattle.life_store.specs.Owners.{empty_view}
use Rattle.life_store.specs.Parts.{Single, location_type, operand_type, parts_at, parts_if}
use Rattle.life_store.specs.Places.{Found, Here, Fixed, Outside, Wrong, Astray, locate, location_cell, operand_word, pointed}
use Rattle.life_store.specs.State.{Characters, Pointer, Null, Static, Target, To, Cell, Empty, Named, Number, Points, State}
use Rattle.life_store.specs.Views.{is_span, part_count, part_of, seen_count, used, viewed}
use Rattle.life_store.proofs.CellLemmas.{some_same}
use Rattle.life_forest.specs.FrameTypes.{Aims, IsOfText, PointsWell, Stands, seen_type}
use Rattle.life_forest.specs.Frames.{OnNext, named_in}
use Rattle.life_forest.specs.Owned.{times}
use Rattle.life_forest.specs.Within.{LiesWithin}
use Rattle.life_forest.proofs.Coming.{IfGot}
use Rattle.life_forest.proofs.FittingBirths.{got_both}
use Rattle.life_forest.proofs.FrameChanges.{on_buffer}
use Rattle.life_forest.proofs.Frames.{on_got_next}
use Rattle.life_forest.proofs.Operands.{AimsFrom, FoundWell, IsPlace, OperandAims, on_location_next, on_spot_next, operand_well}
use Rattle.life_forest.proofs.OwnedAims.{OwnsType, owned_aims}
use Rattle.life_forest.proofs.Retargets.{Retargets, begins, element_well, index_well, iterator_well, part_well, retargeted, text_retargets, used_well}
use Rattle.life_forest.proofs.StandingChanges.{on_got_each, on_number_next}
use Rattle.life_forest.proofs.StandingCopies.{on_character_next}

pub on_pointer_next : (o : Option Cell) (go : Pointer → Effect) (Q : State → Type 0) → ((p : Pointer) → o ≡ Some (Points p) → OnNext (go p) Q) → OnNext (on_pointer o go) Q
on_pointer_next None go Q each = tt
on_pointer_next (Some Empty) go Q each = tt
on_pointer_next (Some (Named n)) go Q each = tt
on_pointer_next (Some (Number z)) go Q each = tt
on_pointer_next (Some (Points p)) go Q each = each p refl

-- for what is asked of a pointer beside that it points well, and whatever holds behind one that is given such
module _ (types : Types) (ordered : IsOrdered types) (f : Function) (rest : ℕ → ℕ) (st : State) (stands : Stands types f rest st) (p : Location) (part : TyId) (good : Pointer → Type 0) (Q : State → Type 0)
    (given : (v : Pointer) → PointsWell types st.world.content (seen_type types (Some part)) v → good v → OnNext (pointed types f p v st) Q) (good_at : (t : Target) → t.word ≡ 0 → good (To t)) where
  abbrev c : Content
  c = st.world.content

  abbrev seen : Option TyId
  seen = seen_type types (Some part)

  abbrev seen_from : Location → Option TyId
  seen_from l = seen_type types (location_type types f l)

  abbrev has : ℕ → ℕ
  has k = times (named_in st.cells) k + rest k

  -- ---- from another pointer

  pub repoints_give : (q : Location) → AimsFrom types f st q → Retargets types (seen_from q) seen → ((v : Pointer) → location_cell types f q st ≡ Some (Points v) → good v) → OnNext (on_pointer (location_cell types f q st) (λ v. pointed types f p v st)) Q
  repoints_give q aims targets fits = on_pointer_next (location_cell types f q st) (λ v. pointed types f p v st) Q (λ v e. given v (retargeted types c (seen_from q) seen targets v (aims v e)) (fits v e))

  pub advances_give : (s : Setting) (q : Location) (r : ℕ) (way : Direction) → AimsFrom types f st q → Retargets types (seen_from q) seen → IfGot (iterator st.world.content (location_cell types f q st)) (λ v. (i : ℕ) → good (at_index st.world.content.clock i v)) → OnNext (advanced s types f p q r way st) Q
  advances_give s q r way aims targets fits =
      on_got_next (iterator c (location_cell types f q st))
      (λ v. on_number (cell st r) (λ z. on_got (stepped s.texts c v (directed way (count_of (type_of types f r) z))) (λ i. pointed types f p (at_index c.clock i v) st)))
      (λ v. PointsWell types c (seen_from q) v × ((i : ℕ) → good (at_index c.clock i v))) Q
      (got_both (iterator c (location_cell types f q st)) (PointsWell types c (seen_from q)) (λ v. (i : ℕ) → good (at_index c.clock i v)) (iterator_well types c (seen_from q) (location_cell types f q st) aims) fits)
      (λ v h. on_number_next (cell st r) (λ z. on_got (stepped s.texts c v (directed way (count_of (type_of types f r) z))) (λ i. pointed types f p (at_index c.clock i v) st)) Q
      (λ z. on_got_each (stepped s.texts c v (directed way (count_of (type_of types f r) z))) (λ i. pointed types f p (at_index c.clock i v) st) Q
      (λ i. given (at_index c.clock i v) (index_well types c seen c.clock i v (retargeted types c (seen_from q) seen targets v h.0)) (h.1 i))))

  pub cuts_give : (q : Location) (r : ℕ) (count : Option ℕ) → AimsFrom types f st q → Retargets types (seen_from q) seen → IfGot (used st.world.content (location_cell types f q st)) (λ v. (i k : ℕ) → good (part_of st.world.content.clock i k v)) → OnNext (cut types f p q r count st) Q
  cuts_give q r count aims targets fits =
      on_got_next (used c (location_cell types f q st))
      (λ v. on_got (index_in (cell st r)) (λ i. on_got (count_in st count) (λ n. on_got (part_count (is_span (type_if types (location_type types f q))) i n (seen_count v)) (λ k. pointed types f p (part_of c.clock i k v) st))))
      (λ v. PointsWell types c (seen_from q) v × ((i k : ℕ) → good (part_of c.clock i k v))) Q
      (got_both (used c (location_cell types f q st)) (PointsWell types c (seen_from q)) (λ v. (i k : ℕ) → good (part_of c.clock i k v)) (used_well types c (seen_from q) (location_cell types f q st) aims) fits)
      (λ v h. on_got_each (index_in (cell st r)) (λ i. on_got (count_in st count) (λ n. on_got (part_count (is_span (type_if types (location_type types f q))) i n (seen_count v)) (λ k. pointed types f p (part_of c.clock i k v) st))) Q
      (λ i. on_got_each (count_in st count) (λ n. on_got (part_count (is_span (type_if types (location_type types f q))) i n (seen_count v)) (λ k. pointed types f p (part_of c.clock i k v) st)) Q
      (λ n. on_got_each (part_count (is_span (type_if types (location_type types f q))) i n (seen_count v)) (λ k. pointed types f p (part_of c.clock i k v) st) Q
      (λ k. given (part_of c.clock i k v) (part_well types c seen c.clock i k v (retargeted types c (seen_from q) seen targets v h.0)) (h.1 i k)))))

  -- ---- at an element, or one of two ends

  element_gives : (w : Which) (size : ℕ) (base : Pointer) → PointsWell types st.world.content (seen_type types (Some part)) base → ((i : ℕ) → good (at_index st.world.content.clock i base)) → OnNext (element_at types f p w size base st) Q
  element_gives w size base well fits = on_got_each (chosen st w size) (λ i. pointed types f p (element_of c.clock i base) st) Q (λ i. given (element_of c.clock i base) (element_well types c seen c.clock i base well) (fits (start_of base + i)))

  pub seen_elements_give : (l : Location) (w : Which) → AimsFrom types f st l → Retargets types (seen_from l) seen → IfGot (used st.world.content (location_cell types f l st)) (λ v. (i : ℕ) → good (at_index st.world.content.clock i v)) → OnNext (element types f p (source.Pointer l) w st) Q
  seen_elements_give l w aims targets fits =
      on_got_next (used c (location_cell types f l st)) (λ v. element_at types f p w (seen_count v) v st) (λ v. PointsWell types c (seen_from l) v × ((i : ℕ) → good (at_index c.clock i v))) Q
      (got_both (used c (location_cell types f l st)) (PointsWell types c (seen_from l)) (λ v. (i : ℕ) → good (at_index c.clock i v)) (used_well types c (seen_from l) (location_cell types f l st) aims) fits)
      (λ v h. element_gives w (seen_count v) v (retargeted types c (seen_from l) seen targets v h.0) h.1)

  pub seen_cursors_give : (l : Location) (end : RangeEnd) → AimsFrom types f st l → Retargets types (seen_from l) seen → IfGot (used st.world.content (location_cell types f l st)) (λ v. (i : ℕ) → good (at_index st.world.content.clock i v)) → OnNext (cursor types f p (source.Pointer l) end st) Q
  seen_cursors_give l end aims targets fits =
      on_got_next (used c (location_cell types f l st)) (λ v. pointed types f p (element_of c.clock (end_index end (seen_count v)) v) st) (λ v. PointsWell types c (seen_from l) v × ((i : ℕ) → good (at_index c.clock i v))) Q
      (got_both (used c (location_cell types f l st)) (PointsWell types c (seen_from l)) (λ v. (i : ℕ) → good (at_index c.clock i v)) (used_well types c (seen_from l) (location_cell types f l st) aims) fits)
      (λ v h. given (element_of c.clock (end_index end (seen_count v)) v) (element_well types c seen c.clock (end_index end (seen_count v)) v (retargeted types c (seen_from l) seen targets v h.0)) (h.1 (start_of v + end_index end (seen_count v))))

  -- ---- at what an owner has

  module _ (whole id : TyId) (owner : OwnsType (parts_at types whole) id) (targets : Retargets types (Some id) (seen_type types (Some part))) where
    -- of the object that is owned
    at_owned : (n i w : ℕ) (o : Object) → IsPlace types st.world.content whole n i w o → (b : ℕ) → owned_at st.world.content (record { object = n; index = i; word = w }) ≡ Some b → (index count moment : ℕ)
        → Aims types st.world.content (seen_type types (Some part)) (record { object = b; index = index; word = 0; count = count; moment = moment })
    at_owned n i w o place b is index count moment = owned_aims types ordered has c stands.store whole n i w o place id owner b is seen (begins types id seen targets) index count moment

    elements_of : (n i w : ℕ) (o : Object) → IsPlace types st.world.content whole n i w o → (w' : Which)
        → OnNext (on_got (buffer_of st.world.content (record { object = n; index = i; word = w })) (λ b. element_at types f p w' (size_of st.world.content b) (pointer_to st.world.content b 0 0) st)) Q
    elements_of n i w o place w' =
        on_buffer (owned_at c (record { object = n; index = i; word = w })) (λ b. element_at types f p w' (size_of c b) (pointer_to c b 0 0) st) Q
        (λ b is. element_gives w' (size_of c b) (pointer_to c b 0 0) (at_owned n i w o place b is 0 1 c.clock) (λ i. good_at _ refl))

    owner_gives : (n i w : ℕ) (o : Object) → IsPlace types st.world.content whole n i w o → (w' : Which) → OnNext (owner_element types f p (record { object = n; index = i; word = w }) w' st) Q
    owner_gives n i w o place which.Target = go (owned_at c (record { object = n; index = i; word = w })) refl
      where
        go : (x : Option ℕ) → owned_at st.world.content (record { object = n; index = i; word = w }) ≡ x → OnNext (target_at types f p x st) Q
        go None e = tt
        go (Some b) e = given (pointer_to c b 0 0) (at_owned n i w o place b e 0 1 c.clock) (good_at _ refl)
    owner_gives n i w o place which.First = elements_of n i w o place which.First
    owner_gives n i w o place which.Last = elements_of n i w o place which.Last
    owner_gives n i w o place (which.Index r) = elements_of n i w o place (which.Index r)

    pub owned_elements_give : (o : Operand) (w : Which) → operand_type types f o ≡ Some whole → OperandAims types f st o → OnNext (element types f p (source.Owner o) w st) Q
    owned_elements_give o w typed_whole aims = on_spot_next types ordered f st stands.frame o whole (λ spot. owner_element types f p spot w st) Q typed_whole aims (λ n i k object place. owner_gives n i k object place w)

    pub owned_cursors_give : (o : Operand) (end : RangeEnd) → operand_type types f o ≡ Some whole → OperandAims types f st o → OnNext (cursor types f p (source.Owner o) end st) Q
    owned_cursors_give o end typed_whole aims =
        on_spot_next types ordered f st stands.frame o whole (λ spot. on_got (buffer_of c spot) (λ b. pointed types f p (pointer_to c b (end_index end (size_of c b)) 0) st)) Q typed_whole aims
        (λ n i k object place. on_buffer (owned_at c (record { object = n; index = i; word = k })) (λ b. pointed types f p (pointer_to c b (end_index end (size_of c b)) 0) st) Q
        (λ b is. given (pointer_to c b (end_index end (size_of c b)) 0) (at_owned n i k object place b is (end_index end (size_of c b)) 1 c.clock) (good_at _ refl)))

    -- all that a vector or a string has
    pub wholes_give : (s : Setting) (o : Operand) → operand_type types f o ≡ Some whole → OperandAims types f st o → OnNext (aimed s types f p (source.Whole o) st) Q
    wholes_give s o typed_whole aims =
        on_spot_next types ordered f st stands.frame o whole (λ spot. on_got (buffer_of c spot) (λ b. pointed types f p (whole_of c b) st)) Q typed_whole aims
        (λ n i k object place. on_buffer (owned_at c (record { object = n; index = i; word = k })) (λ b. pointed types f p (whole_of c b) st) Q
        (λ b is. given (whole_of c b) (at_owned n i k object place b is 0 (size_of c b) c.clock) (good_at _ refl)))

    -- what a unique_ptr has, or null
    pub gets_give : (s : Setting) (l : Location) → good Null → location_type types f l ≡ Some whole → OnNext (aimed s types f p (source.Get l) st) Q
    gets_give s l null typed_whole =
        on_location_next types ordered f st stands.frame l whole (λ spot. pointed types f p (owned_pointer c (owned_at c spot)) st) Q typed_whole
        (λ n k object place. go n k object place (owned_at c (record { object = n; index = 0; word = k })) refl)
      where
        go : (n k : ℕ) (object : Object) → IsPlace types st.world.content whole n 0 k object → (x : Option ℕ) → owned_at st.world.content (record { object = n; index = 0; word = k }) ≡ x → OnNext (pointed types f p (owned_pointer st.world.content x) st) Q
        go n k object place None e = given Null tt null
        go n k object place (Some b) e = given (pointer_to c b 0 0) (at_owned n 0 k object place b e 0 1 c.clock) (good_at _ refl)

  -- ---- at a place, at a text, or at nothing

  pub places_give : (s : Setting) (o : Operand) (whole : TyId) → operand_type types f o ≡ Some whole → OperandAims types f st o → Retargets types (Some whole) (seen_type types (Some part)) → ((t : Target) → good (To t)) → ((t : Characters) → locate types f o st ≡ Fixed t → good (at_index 0 t.index (Static t))) → OnNext (aimed s types f p (source.Place o) st) Q
  places_give s o whole typed_whole aims targets at_place fits = over (locate types f o st) refl (operand_well types ordered f st stands.frame o whole typed_whole aims)
    where
      over : (found : Found) → locate types f o st ≡ found → FoundWell types st.world.content whole (operand_word types f o st) found → OnNext (aimed_at s types f p o st found) Q
      over (Here n i object) is place =
          given (pointer_to c n i (operand_word types f o st))
          (retargeted types c (Some whole) seen targets (pointer_to c n i (operand_word types f o st)) (record {
            given = stands.store.forest.births n object place.there;
            place = λ x t there e. subst (λ (y : Object). LiesWithin types y.ty (operand_word types f o st) t) (some_same (sym place.there ∙ there)) (subst (LiesWithin types object.ty (operand_word types f o st)) (some_same e) place.within);
          }))
          (at_place _)
      over (Fixed t) is single =
          on_character_next s.texts t (λ z. pointed types f p (at_index 0 t.index (Static t)) st) Q
          (λ z. given (at_index 0 t.index (Static t)) (text_retargets types c (Some whole) seen targets t.text (of_text t.text)) (fits t is))
        where
          of_text : (n : Option ℕ) → IsOfText types (Some whole) n
          of_text None = tt
          of_text (Some n) = single
      over Outside is place = tt
      over (Wrong kind) is place = tt
      over Astray is place = tt

  pub nulls_give : (s : Setting) → good Null → OnNext (aimed s types f p source.Null st) Q
  nulls_give s fits = given Null tt fits

  pub texts_give : (s : Setting) (n : ℕ) → good (viewed s.texts n) → parts_if types (seen_type types (Some part)) ≡ Single → OnNext (aimed s types f p (source.Text n) st) Q
  texts_give s n fits single = given (viewed s.texts n) single fits

  pub empties_give : (s : Setting) → good empty_view → OnNext (aimed s types f p source.Empty st) Q
  empties_give s fits = given empty_view tt fits
