-- A unique_ptr that is a local or a member of one takes what another one has that is a local: there is no fault, the
-- facts behind it cover all pointers of the frame, and what is touched lies beneath what the frame names.
use Rattle.std.proofs.Common.{◌≡◌, ◌≢◌, ◌⊎◌, inl, inr, ℕ, ◌<◌, true, List, [], ◌∷◌, Option, Some, None, refl, sym, ap, subst, ◌∙◌, arith}
use Rattle.std.specs.Prelude.{◌&&◌, Contains, slice_index}
use Rattle.life_types.specs.TypeTests.{is_pointer, is_unique}
use Rattle.life_types.specs.Types.{Types}
use Rattle.life_types.specs.declared.place.Place.{Place}
use Rattle.life_types.specs.declared.ty.Ty.TheVariants as ty
use Rattle.life_core.specs.Function.{Function}
use Rattle.life_core.specs.Operands.{Location, whole}
use Rattle.life_core.specs.Operands as named
use Rattle.life_core.specs.Step.{Move}
use Rattle.life_pset.specs.Elements.{changed, elements_of, local_place, moved}
use Rattle.life_pset.specs.declared.element.Element.{Element}
use Rattle.life_pset.specs.declared.element.Element.TheVariants as element
use Rattle.life_pset.specs.declared.element.Fact.{Fact}
use Rattle.life_pset.specs.declared.element.Root.{Root}
use Rattle.life_pset.proofs.Numbers.{is_of_iff, place_laws}
use Rattle.life_contract.specs.Located.{is_location, located}
use Rattle.life_contract.specs.Signatures.{Signature}
use Rattle.life_proper.specs.Placed.{type_at, type_in}
use Rattle.life_rules.specs.Carrying.{whole_facts, writes}
use Rattle.life_rules.specs.Matching.{fact_at, facts_at, facts_if, given_over}
use Rattle.life_rules.proofs.Giving.{at_head, in_tail}
use Rattle.life_store.specs.Cells.{at, at-set_other}
use Rattle.life_store.specs.Content.{Object, Content}
use Rattle.life_store.specs.Doing.{does, moves_from, replaced}
use Rattle.life_store.specs.Effects.{Setting, cell, put_content}
use Rattle.life_store.specs.Held.{owned_in, owner_word, slot_words, wrote}
use Rattle.life_store.specs.Parts.{Parts, Single, Unique, local_parts, parts_at, parts_if, width, width_at, local_type}
use Rattle.life_store.specs.Places.{spot_words}
use Rattle.life_store.specs.State.{Cell, Empty, Named, Number, Points, State}
use Rattle.life_store.proofs.CellLemmas.{some_same}
use Rattle.life_forest.specs.Forest.{Touches}
use Rattle.life_forest.specs.Kinds.{kinds_of}
use Rattle.life_forest.specs.Within.{LiesWithin}
use Rattle.life_forest.proofs.Following.{in_hand}
use Rattle.life_forest.proofs.FrameMoves.{words_are}
use Rattle.life_forest.proofs.Members.{within_self}
use Rattle.life_forest.proofs.OneNumber.{one_type}
use Rattle.life_forest.proofs.Puts.{puts_in, wrote_is}
use Rattle.life_cover.specs.Buffered.{AreBut, is_buffer_at}
use Rattle.life_cover.specs.Covers.{CoversOwner, IsOwnerTold}
use Rattle.life_cover.specs.Regions.{Region, owned_in_type}
use Rattle.life_cover.specs.Uniques.{had_at, word_in}
use Rattle.life_cover.specs.Frames.{FrameCovered, RootStands}
use Rattle.life_cover.specs.Inputs.{StandsAt, frame_foot, owning}
use Rattle.life_cover.specs.Lacking.{MayLack}
use Rattle.life_cover.proofs.Behind.{HasPlaceOf, TellsLost, behind_content, no_local}
use Rattle.life_cover.proofs.KnownFrames.{IsKnownFrame, IsRight, hand_of, store_of}
use Rattle.life_cover.proofs.Listing.{caused_known, null_known, own_known}
use Rattle.life_cover.proofs.Locals.{locals_other}
use Rattle.life_cover.proofs.MakeKinds.{IsMade}
use Rattle.life_cover.proofs.Moved.{both_feet, moved_touches}
use Rattle.life_cover.proofs.MovedUniques.{given_has, taken_has}
use Rattle.life_cover.proofs.OwnerElements.{first_of}
use Rattle.life_cover.proofs.Pointers.{OnRight}
use Rattle.life_cover.proofs.Remade.{replaced_buffered}
use Rattle.life_cover.proofs.SparedPointers.{named_other, owner_free}
use Rattle.life_cover.proofs.Takes.{made_of}
use Rattle.life_cover.proofs.UniquesStay.{had_but_two}
use Rattle.life_cover.proofs.UniqueLocations.{IsUniqueAt, on_spot_at, told_there, unique_at}
use Rattle.life_cover.proofs.Unkept.{members_root}
use Rattle.life_cover.proofs.MovedFacts.{both_false, left_by_move, placed_covered, placed_spares}
use Rattle.life_cover.proofs.PointedPlaces.{pointer_other}

-- what has the place of one or the other
abbrev pub MovedPlaces : Location → ℕ → Location → Type 0
MovedPlaces to y l = HasPlaceOf to l ⊎ HasPlaceOf (whole y) l

-- ---- the kind

module _ (types : Types) (f : Function) (rest : ℕ → ℕ) (inputs : Root → Option Region) (S : Fact → Type 0) (st : State) (k : IsKnownFrame types f rest inputs S st) (sigs : List Signature) (number : ℕ) (place : Place) (S' : Fact → Type 0) (s : Setting) (to : Location) (y : ℕ)
    (right : IsRight sigs types number f place (Move (named.Name to) y) S S') (unique : is_unique (type_in types f to) ≡ true) (same_type : type_in types f to ≡ type_at types f y) (other : to.local ≢ y) where
  abbrev pub IsMovedTo : State → Type 0
  IsMovedTo after = IsMade types f inputs S' (MayLack types f inputs S st) no_local (MovedPlaces to y) st after

  unique_y : is_unique (type_in types f (whole y)) ≡ true
  unique_y = ap is_unique (sym same_type) ∙ unique

  module _ (n m : ℕ) (named_to : cell st to.local ≡ Some (Named n)) (named_y : cell st y ≡ Some (Named m)) where
    abbrev u : IsUniqueAt types f rest inputs S st k to n
    u = unique_at types f rest inputs S st k to n named_to unique

    abbrev w : IsUniqueAt types f rest inputs S st k (whole y) m
    w = unique_at types f rest inputs S st k (whole y) m named_y unique_y

    -- both are of one type
    numbers : w.number ≡ u.number
    numbers = one_type types k.once w.number u.number (ty.Unique u.target) (w.there ∙ ap Some (sym w.is ∙ sym same_type ∙ u.is)) u.there

    abbrev into : Region
    into = record { object = n; word = word_in types f to; ty = (unique_at types f rest inputs S st k to n named_to unique).number }

    abbrev from : Region
    from = record { object = m; word = 0; ty = (unique_at types f rest inputs S st k to n named_to unique).number }

    typed_y : local_type types f y ≡ Some u.number
    typed_y = w.typed ∙ ap Some numbers

    m_type : w.variable.object.ty ≡ u.number
    m_type = some_same (sym w.variable.type ∙ typed_y)

    apart : m ≢ n
    apart same = locals_other types f rest st k.stands.store k.stands.frame to.local y n other named_to (named_y ∙ ap (λ (j : ℕ). Some (Named j)) same)

    own : owning types f (located to).root ≡ true
    own = ap (owning types f) (members_root to.members (local_place to.local))

    covered : (d : Content) → Touches (kinds_of types) (both_feet types into from) st.world.content d → FrameCovered types f inputs S' (put_content d st)
    covered =
        placed_covered types f rest inputs S st k (located to) into own u.lies y m named_y typed_y (writes (Move (named.Name to) y)) S' (left_by_move sigs types f place to y S S' right.closed (RootStands types f (StandsAt inputs) st.cells))
        (owner_free types f rest inputs S st k u.number u.target (ap (owned_in_type types) u.there))
        (λ l v pointer e. both_false (is_location (whole y) (located l)) (is_location to (located l)) (named_other types f rest inputs S st k y m named_y l v e) (pointer_other types f rest inputs S st k to l v pointer e (ap is_pointer u.is)))

    spares : (d : Content) → Touches (kinds_of types) (both_feet types into from) st.world.content d → Touches (kinds_of types) (frame_foot types f inputs st.cells) st.world.content d
    spares = placed_spares types f rest inputs S st k (located to) into own u.lies y m named_y typed_y

    abbrev owned : Option ℕ
    owned = owned_in (slice_index (slot_words st.world.content m 0) 0)

    m_within : LiesWithin types w.variable.object.ty 0 u.number
    m_within = subst (λ id. LiesWithin types id 0 u.number) (sym m_type) (within_self types u.number)

    abbrev emptied : Content
    emptied = wrote m 0 0 (owner_word None ∷ []) st.world.content

    emptied_buffered : AreBut types (MayLack types f inputs S st) (wrote m 0 0 (owner_word None ∷ []) st.world.content)
    emptied_buffered =
        replaced_buffered types (MayLack types f inputs S st) st.world.content m 0 Single (owner_word None)
        (λ o there. ap (λ (q : Object). is_buffer_at (parts_at types q.ty) 0) (some_same (sym there ∙ w.variable.there)) ∙ w.bufferless) k.buffered

    kept : at (wrote m 0 0 (owner_word None ∷ []) st.world.content).objects n ≡ Some u.variable.object
    kept =
        ap (λ (d : Content). at d.objects n) (wrote_is st.world.content m 0 0 (owner_word None ∷ []) w.variable.object w.variable.there)
        ∙ at-set_other st.world.content.objects m n (record (w.variable.object) { slots = puts_in 0 0 (owner_word None ∷ []) w.variable.object.slots }) apart ∙ u.variable.there

    abbrev behind : Content
    behind = replaced (parts_at types (unique_at types f rest inputs S st k to n named_to unique).number) (record { object = n; index = 0; word = word_in types f to }) (owner_word owned ∷ [], emptied)

    behind_buffered : AreBut types (MayLack types f inputs S st) behind
    behind_buffered =
        replaced_buffered types (MayLack types f inputs S st) emptied n (word_in types f to) (parts_at types u.number) (owner_word owned)
        (λ o there. ap (λ (q : Object). is_buffer_at (parts_at types q.ty) (word_in types f to)) (some_same (sym there ∙ kept)) ∙ u.bufferless) emptied_buffered

    -- ---- what they have then

    words : spot_words st.world.content (record { object = m; index = 0; word = 0 }) (width_at types u.number) ≡ owner_word owned ∷ []
    words = words_are types k.ordered rest st k.stands.store m u.number w.variable.object w.variable.there m_within w.slot (ap width u.parts)

    in_the_hand : (z j : ℕ) → cell st z ≡ Some (Named j) → 0 < hand_of rest st j
    in_the_hand z j named = let e = in_hand st.cells z j named in omega (arith, e)

    to_has : had_at behind n (word_in types f to) ≡ had_at st.world.content m 0
    to_has =
        taken_has types k.ordered (hand_of rest st) st.world.content (store_of types f rest inputs S st k) u.number u.target u.parts n (word_in types f to) u.variable.object u.variable.there u.within u.slot m w.variable.object w.variable.there m_within w.slot apart owned words
        (in_the_hand to.local n named_to) (in_the_hand y m named_y) u.variable.slot u.variable.one u.wide
        ∙ sym (ap owned_in (first_of (slot_words st.world.content m 0) 0))

    y_has : had_at behind m 0 ≡ None
    y_has =
        given_has types k.ordered (hand_of rest st) st.world.content (store_of types f rest inputs S st k) u.number u.target u.parts n (word_in types f to) u.variable.object u.variable.there u.within u.slot m w.variable.object w.variable.there m_within w.slot apart owned words
        (in_the_hand to.local n named_to) (in_the_hand y m named_y) m_type

    -- it takes what the facts say of y
    moved_fact : (e g : Element) → given_over e ≡ Some g → Contains (elements_of types f) g → S (fact_at (local_place y) e) → S' (fact_at (located to) g)
    moved_fact e g gives known holds =
        made_of sigs types f place (Move (named.Name to) y) S S' right.closed (fact_at (local_place y) e) (fact_at (located to) g) holds ((is_of_iff types f (fact_at (located to) g)).1 (u.listed, known))
        (subst (λ b. Contains (facts_if (b && is_unique (type_in types f to)) (located to) (given_over e)) (fact_at (located to) g)) (sym (place_laws.refl (local_place y)))
        (subst (λ b. Contains (facts_if b (located to) (given_over e)) (fact_at (located to) g)) (sym unique)
        (subst (λ (o : Option Element). Contains (facts_at (located to) o) (fact_at (located to) g)) (sym gives) (at_head (fact_at (located to) g) []))))

    to_told : IsOwnerTold S' (located to) true (had_at behind n (word_in types f to))
    to_told = subst (IsOwnerTold S' (located to) true) (sym to_has) (let t = k.told (whole y) m named_y unique_y in by_fact t.known (had_at st.world.content m 0) t.holds t.covers)
      where
        by_fact : (e : Element) (o : Option ℕ) → S (fact_at (local_place y) e) → CoversOwner true e o → IsOwnerTold S' (located to) true o
        by_fact element.Own (Some b) holds covers = record { known = element.Own; holds = moved_fact element.Own element.Own refl (own_known types k.ordered f) holds; covers = tt }
        by_fact element.Null None holds covers = record { known = element.Null; holds = moved_fact element.Null element.Null refl (null_known types k.ordered f) holds; covers = tt }
        by_fact (element.Moved cause) None holds covers = record { known = element.Null; holds = moved_fact (element.Moved cause) element.Null refl (null_known types k.ordered f) holds; covers = tt }
        by_fact element.Own None holds covers = absurd covers
        by_fact element.Null (Some b) holds covers = absurd covers
        by_fact (element.Moved cause) (Some b) holds covers = absurd covers
        by_fact (element.Invalid cause) None holds covers = absurd covers
        by_fact (element.Invalid cause) (Some b) holds covers = absurd covers
        by_fact element.Static None holds covers = absurd covers
        by_fact element.Static (Some b) holds covers = absurd covers
        by_fact (element.At a) None holds covers = absurd covers
        by_fact (element.At a) (Some b) holds covers = absurd covers

    y_told : IsOwnerTold S' (local_place y) true (had_at behind m 0)
    y_told = record {
      known = element.Moved (moved place y);
      holds = right.closed.none (fact_at (local_place y) (element.Moved (moved place y)))
          ((is_of_iff types f (fact_at (local_place y) (element.Moved (moved place y)))).1 (
            w.listed,
            caused_known types k.ordered f (element.Moved (moved place y))
                (right.closed.causes (element.Moved (moved place y)) (in_tail (element.Invalid (moved place y)) (element.Moved (moved place y) ∷ element.Invalid (changed place to.local) ∷ []) (element.Moved (moved place y)) (at_head (element.Moved (moved place y)) (element.Invalid (changed place to.local) ∷ [])))),
          ))
          (at_head (fact_at (local_place y) (element.Moved (moved place y))) (whole_facts types f (named.Name to)));
      covers = subst (CoversOwner true (element.Moved (moved place y))) (sym y_has) tt;
    }

    told : TellsLost types f S' (MovedPlaces to y) (put_content behind st)
    told l j (inl same) e is = told_there types f to u.short S' (put_content behind st) n named_to to_told l j same e is
    told l j (inr same) e is = told_there types f (whole y) w.short S' (put_content behind st) m named_y y_told l j same e is

    moved_safe : IsMovedTo (put_content (replaced (parts_at types u.number) (record { object = n; index = 0; word = word_in types f to }) (owner_word owned ∷ [], emptied)) st)
    moved_safe =
        let touch = moved_touches types k.ordered (hand_of rest st) st.world.content (store_of types f rest inputs S st k) u.number u.target u.parts n (word_in types f to) u.variable.object u.variable.there u.within u.slot m w.variable.object w.variable.there m_within w.slot apart owned words in (
          covered behind touch,
          behind_content types f inputs (MayLack types f inputs S st) no_local (MovedPlaces to y) st behind behind_buffered (spares behind touch) (had_but_two types f rest inputs S st k to n named_to unique (whole y) m named_y unique_y u.number u.one behind touch),
          told,
        )

    parts_here : local_parts types f y ≡ Unique u.target (parts_at types u.target)
    parts_here = ap (parts_if types) typed_y ∙ u.parts

    moves_here : OnRight (moves_from (local_parts types f y) (record { object = n; index = 0; word = word_in types f to }) (Some (Named m)) st) IsMovedTo
    moves_here =
        subst (λ (p : Parts). OnRight (moves_from p (record { object = n; index = 0; word = word_in types f to }) (Some (Named m)) st) IsMovedTo) (sym parts_here)
        (subst (λ (p : Parts). IsMovedTo (put_content (replaced p (record { object = n; index = 0; word = word_in types f to }) (owner_word owned ∷ [], emptied)) st)) u.parts moved_safe)

  pub move_kind : OnRight (does s types f (Move (named.Name to) y) st) (IsMade types f inputs S' (MayLack types f inputs S st) no_local (MovedPlaces to y) st)
  move_kind = on_spot_at types f rest inputs S st k to (λ spot. moves_from (local_parts types f y) spot (cell st y) st) IsMovedTo (λ n named. by_cell n named (cell st y) refl)
    where
      by_cell : (n : ℕ) → cell st to.local ≡ Some (Named n) → (v : Option Cell) → cell st y ≡ v → OnRight (moves_from (local_parts types f y) (record { object = n; index = 0; word = word_in types f to }) v st) IsMovedTo
      by_cell n named (Some (Named m)) e = moves_here n m named e
      by_cell n named None e = tt
      by_cell n named (Some Empty) e = tt
      by_cell n named (Some (Number z)) e = tt
      by_cell n named (Some (Points p)) e = tt
