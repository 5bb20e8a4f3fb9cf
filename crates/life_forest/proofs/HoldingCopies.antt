-- Where a value is copied, the objects of the frame hold well: the pointers of what is copied point well, and stay as they are.
use Rattle.std.proofs.Common.{◌≡◌, ⊎_elim, ℕ, suc, ◌+◌, ◌≤◌, ◌<◌, Bool, true, false, List, [], ◌∷◌, ◌++◌, length, length-append, Option, Some, None, refl, sym, ap, subst, ◌∙◌, arith}
use Rattle.std.specs.Prelude.{drop, nat_lt, slice_index, take}
use Rattle.life_types.specs.Trees.{IsOrdered}
use Rattle.life_types.specs.Types.{Types}
use Rattle.life_types.specs.declared.ty.TyId.{TyId}
use Rattle.life_core.specs.Function.{Function}
use Rattle.life_core.specs.Operands.{Location, Operand, Name}
use Rattle.life_store.specs.Cells.{at}
use Rattle.life_store.specs.Content.{Object, Content}
use Rattle.life_store.specs.Doing.{copied_to, copies, on_character, replaced, word_of_number}
use Rattle.life_store.specs.Effects.{Setting, Attempt, Got, GotTrap, GotFault, GotLost, Effect, Next, Strays, cell, on_got, put_content, then_get}
use Rattle.life_store.specs.Held.{owned_in, pointer_in, slot_words, slots_at, words_at}
use Rattle.life_store.specs.Kinds.{kind_in}
use Rattle.life_store.specs.Owners.{Words, copied, copied_buffer, copied_slots, ended, sized_birth}
use Rattle.life_store.specs.Parts.{Parts, Single, Raw, Iterates, Views, Text, Vector, Unique, Member, NoMember, local_type, location_type, operand_parts, operand_type, parts_at, parts_if, type_within, width, width_at, word_within}
use Rattle.life_store.specs.Places.{Found, Here, Fixed, Outside, Wrong, Astray, found_in, here_if, locate, named_by, on_place, operand_word, spot_words}
use Rattle.life_store.specs.State.{Characters, Cell, Empty, Named, Number, Points, State}
use Rattle.life_store.proofs.CellLemmas.{none_some}
use Rattle.life_forest.specs.Begins.{begins_at}
use Rattle.life_forest.specs.FrameTypes.{PointsWell, Stands, seen_type}
use Rattle.life_forest.specs.Frames.{OnNext, named_in}
use Rattle.life_forest.specs.HeldPointers.{HoldWell}
use Rattle.life_forest.specs.Owned.{times}
use Rattle.life_forest.specs.Sorted.{PointerFits}
use Rattle.life_forest.proofs.Begins.{path_begins, row_cases}
use Rattle.life_forest.proofs.Coming.{IfGot, below_or, got_then}
use Rattle.life_forest.proofs.FittingBirths.{got_both}
use Rattle.life_forest.proofs.Following.{IsOwned}
use Rattle.life_forest.proofs.Frames.{on_got_next}
use Rattle.life_forest.proofs.FreshPointers.{front_words}
use Rattle.life_forest.proofs.Holding.{Holds, KeepsHeld, KeepsOn, held_content}
use Rattle.life_forest.proofs.HoldingChanges.{place_words}
use Rattle.life_forest.proofs.HoldingWrites.{ValueWell, first_word, written_holds}
use Rattle.life_forest.proofs.Keeping.{copied_keeps, ended_keeps, keeps_self}
use Rattle.life_forest.proofs.KeepingEdits.{replaced_keeps}
use Rattle.life_forest.proofs.BegunPointers.{IsBegun, begun_at}
use Rattle.life_forest.proofs.Lists.{drop_front, length_back, length_front}
use Rattle.life_forest.proofs.MemberPointers.{drop_further, inside}
use Rattle.life_forest.proofs.Operands.{FoundWell, IsPlace, OperandAims, on_spot_next, operand_well, place_named}
use Rattle.life_forest.proofs.Placed.{place_copied}
use Rattle.life_forest.proofs.PlainTypes.{HasNoPointer}
use Rattle.life_forest.proofs.StandingCopies.{on_character_next}
use Rattle.life_forest.proofs.WrittenPointers.{gap}

-- ---- a pointer of two values one behind the other lies in one of them

begun_front : (first others : Parts) (u : ℕ) → u < width first → IsBegun (Member first others) u → IsBegun first u
begun_front first others u lt b = below_or (width first) (u + 5) (λ over. absurd (crosses over)) (λ le. record { fits = le; words = λ j five. in_row (u + j) (omega (arith, five, le)) ∙ b.words j five })
  where
    in_row : (v : ℕ) → v < width first → kind_in first v ≡ kind_in (Member first others) v
    in_row v small = ⊎_elim (λ h. sym h.1) (λ h. let e = h.1 in absurd (omega (arith, small, e))) (row_cases (width first) (kind_in first) (kind_in others) v)

    crosses : width first < u + 5 → ⊥
    crosses over =
        let f = b.fits in
        let g = gap (suc u) (width first) (omega (arith, lt)) in
        let k = g.1 in
        ⊎_elim
        (λ h. let l = h.0 in omega (arith, l, k))
        (λ h. let e = h.1 in
        let z : h.0 ≡ 0 = omega (arith, e, k) in
        first_word others g.0 (omega (arith, f, over)) (ap (kind_in others) (sym z) ∙ sym h.2 ∙ b.words (suc g.0) (omega (arith, k, over))))
        (row_cases (width first) (kind_in first) (kind_in others) (u + suc g.0))

begun_back : (first others : Parts) (u v : ℕ) → u ≡ width first + v → IsBegun (Member first others) u → IsBegun others v
begun_back first others u v is b = record {
  fits = let f = b.fits in omega (arith, f, is);
  words = λ j five. ⊎_elim
      (λ h. let l = h.0 in absurd (omega (arith, l, is)))
      (λ h. let e = h.1 in let z : v + j ≡ h.0 = omega (arith, e, is) in ap (kind_in others) z ∙ sym h.2 ∙ b.words j five)
      (row_cases (width first) (kind_in first) (kind_in others) (u + j));
}

-- ---- copies of words

-- as many words, with the same pointers
abbrev pub IsCopyOf : Parts → List ℕ → Words → Type 0
IsCopyOf p ws v = (length v.0 ≡ width p) × ((u : ℕ) → IsBegun p u → take 5 (drop u v.0) ≡ take 5 (drop u ws))

narrow : (p : Parts) (ws vs : List ℕ) → width p ≡ 1 → (u : ℕ) → IsBegun p u → take 5 (drop u vs) ≡ take 5 (drop u ws)
narrow p ws vs one u b = let f = b.fits in absurd (omega (arith, f, one))

buffer_copied : (s : Setting) (id : TyId) (w : ℕ) (copy : List ℕ → Content → Attempt Words) (o : Option ℕ) (c : Content) → IfGot (copied_buffer s id w copy o c) (λ v. length v.0 ≡ 1)
buffer_copied s id w copy None c = tt
buffer_copied s id w copy (Some n) c =
    got_then (sized_birth s id w (length (slots_at c n)) c) _ (λ b. Unit {0}) (λ v. length v.0 ≡ 1) (any (sized_birth s id w (length (slots_at c n)) c))
    (λ b h. got_then (copied_slots copy (slots_at c n) b.1) _ (λ vs. Unit {0}) (λ v. length v.0 ≡ 1) (any (copied_slots copy (slots_at c n) b.1)) (λ vs k. refl))
  where
    any : {A : Type 0} (x : Attempt A) → IfGot x (λ a. Unit {0})
    any (Got a) = tt
    any (GotTrap kind) = tt
    any (GotFault kind) = tt
    any GotLost = tt

pub copied_words : (s : Setting) (p : Parts) (ws : List ℕ) (c : Content) → length ws ≡ width p → IfGot (copied s p ws c) (IsCopyOf p ws)
copied_words s Single ws c e = (e, λ u b. refl)
copied_words s Raw ws c e = (e, λ u b. refl)
copied_words s Iterates ws c e = (e, λ u b. refl)
copied_words s Views ws c e = (e, λ u b. refl)
copied_words s (Text id) ws c e = one_word (copied s (Text id) ws c) (buffer_copied s id 1 (λ vs d. Got (vs, d)) (owned_in (slice_index ws 0)) c)
  where
    one_word : (x : Attempt Words) → IfGot x (λ v. length v.0 ≡ 1) → IfGot x (IsCopyOf (Text id) ws)
    one_word (Got v) h = (h, narrow (Text id) ws v.0 refl)
    one_word (GotTrap kind) h = tt
    one_word (GotFault kind) h = tt
    one_word GotLost h = tt
copied_words s (Vector id element) ws c e = one_word (copied s (Vector id element) ws c) (buffer_copied s id (width element) (copied s element) (owned_in (slice_index ws 0)) c)
  where
    one_word : (x : Attempt Words) → IfGot x (λ v. length v.0 ≡ 1) → IfGot x (IsCopyOf (Vector id element) ws)
    one_word (Got v) h = (h, narrow (Vector id element) ws v.0 refl)
    one_word (GotTrap kind) h = tt
    one_word (GotFault kind) h = tt
    one_word GotLost h = tt
copied_words s (Unique id target) ws c e = tt
copied_words s (Member first others) ws c e =
    let front : length (take (width first) ws) ≡ width first = length_front (width first) (width others) ws e in
    let back : length (drop (width first) ws) ≡ width others = length_back (width first) (width others) ws e in
    got_then (copied s first (take (width first) ws) c) (λ a. then_get (copied s others (drop (width first) ws) a.1) (λ b. Got (a.0 ++ b.0, b.1))) (IsCopyOf first (take (width first) ws)) (IsCopyOf (Member first others) ws)
    (copied_words s first (take (width first) ws) c front)
    (λ a h. got_then (copied s others (drop (width first) ws) a.1) (λ b. Got (a.0 ++ b.0, b.1)) (IsCopyOf others (drop (width first) ws)) (IsCopyOf (Member first others) ws)
    (copied_words s others (drop (width first) ws) a.1 back)
    (λ b k. (
      let l = h.0 in let m = k.0 in let n = length-append a.0 b.0 in omega (arith, l, m, n),
      λ u begun. below_or u (width first)
          (λ lt.
          let f = begun_front first others u lt begun in
          let fits = f.fits in
          let l = h.0 in
          front_words 5 u a.0 b.0 (omega (arith, fits, l)) ∙ h.1 u f ∙ inside 5 u (width first) ws fits)
          (λ le.
          let g = gap (width first) u le in
          ap (λ (v : ℕ). take 5 (drop v (a.0 ++ b.0))) g.1
          ∙ ap (λ (zs : List ℕ). take 5 zs) (sym (drop_further (width first) g.0 (a.0 ++ b.0)))
          ∙ ap (λ (zs : List ℕ). take 5 (drop g.0 zs)) (drop_front (width first) a.0 b.0 h.0)
          ∙ k.1 g.0 (begun_back first others u g.0 g.1 begun)
          ∙ ap (λ (zs : List ℕ). take 5 zs) (drop_further (width first) g.0 ws)
          ∙ sym (ap (λ (v : ℕ). take 5 (drop v ws)) g.1)),
    )))
copied_words s NoMember ws c e = (refl, λ u b. let f = b.fits in absurd (omega (arith, f)))

module _ (types : Types) (ordered : IsOrdered types) (f : Function) (rest : ℕ → ℕ) (st : State) (stands : Stands types f rest st) where
  abbrev c : Content
  c = st.world.content

  abbrev Loose : ℕ → Type 0
  Loose n = IsOwned types st.world.content n

  -- ---- a value without pointers

  module _ (s : Setting) (part : TyId) (free : HasNoPointer (parts_at types part)) where
    plain_to : (n i w : ℕ) (o : Object) → IsPlace types st.world.content part n i w o → (ws : List ℕ) → length ws ≡ width_at types part
        → OnNext (copied_to s (parts_at types part) (record { object = n; index = i; word = w }) ws st) (KeepsHeld types f st)
    plain_to n i w o place ws wide =
        on_got_next (copied s (parts_at types part) ws c) (λ v. Next (put_content (replaced (parts_at types part) (record { object = n; index = i; word = w }) v) st)) (λ v. KeepsOn types f st v.1 × IsCopyOf (parts_at types part) ws v) (KeepsHeld types f st)
        (got_both (copied s (parts_at types part) ws c) (λ v. KeepsOn types f st v.1) (IsCopyOf (parts_at types part) ws)
        (copied_keeps types ordered Loose c s (parts_at types part) ws c (keeps_self types Loose c)) (copied_words s (parts_at types part) ws c wide))
        (λ v h. held_content types f st _ (replaced_keeps types ordered Loose c (parts_at types part) (record { object = n; index = i; word = w }) v (place_words types ordered f rest st stands part n i w o place free (length v.0) (let l = h.1.0 in omega (arith, l))) h.0))

    pub plain_copies : (to from : Operand) (source : TyId) → operand_type types f to ≡ Some part → operand_type types f from ≡ Some source → parts_at types source ≡ parts_at types part → OperandAims types f st to → OperandAims types f st from
        → OnNext (copies s types f to from st) (KeepsHeld types f st)
    plain_copies to from source typed typed_from same aims aims_from =
        on_spot_next types ordered f st stands.frame to part
        (λ spot. on_place (locate types f from st) (λ n i object. copied_to s (operand_parts types f to) spot (words_at c n i (operand_word types f from st) (width (operand_parts types f to))) st)
        (λ t. on_character s.texts t (λ z. copied_to s (operand_parts types f to) spot (word_of_number z ∷ []) st)))
        (KeepsHeld types f st) typed aims
        (λ n i w o place. over n i w o place (locate types f from st) (operand_well types ordered f st stands.frame from source typed_from aims_from))
      where
        over : (n i w : ℕ) (o : Object) → IsPlace types st.world.content part n i w o → (found : Found) → FoundWell types st.world.content source (operand_word types f from st) found
            → OnNext (on_place found (λ m j object. copied_to s (operand_parts types f to) (record { object = n; index = i; word = w }) (words_at st.world.content m j (operand_word types f from st) (width (operand_parts types f to))) st)
            (λ t. on_character s.texts t (λ z. copied_to s (operand_parts types f to) (record { object = n; index = i; word = w }) (word_of_number z ∷ []) st))) (KeepsHeld types f st)
        over n i w o place (Here m j object) there =
            subst (λ (id : Option TyId). OnNext (copied_to s (parts_if types id) (record { object = n; index = i; word = w }) (words_at st.world.content m j (operand_word types f from st) (width (parts_if types id))) st) (KeepsHeld types f st)) (sym typed)
            (plain_to n i w o place (words_at c m j (operand_word types f from st) (width_at types part))
            (place_copied types ordered (λ k. times (named_in st.cells) k + rest k) c stands.store source m j (operand_word types f from st) object there (parts_at types part) same).wide)
        over n i w o place (Fixed t) single =
            on_character_next s.texts t (λ z. copied_to s (operand_parts types f to) (record { object = n; index = i; word = w }) (word_of_number z ∷ []) st) (KeepsHeld types f st)
            (λ z. subst (λ (id : Option TyId). OnNext (copied_to s (parts_if types id) (record { object = n; index = i; word = w }) (word_of_number z ∷ []) st) (KeepsHeld types f st)) (sym typed)
            (plain_to n i w o place (word_of_number z ∷ []) (sym (ap width (sym same ∙ single)))))
        over n i w o place Outside there = tt
        over n i w o place (Wrong kind) there = tt
        over n i w o place Astray there = tt

  -- ---- a value that may have pointers lies in an object that a cell names, and goes to one

  module _ (held : HoldWell types f st) (s : Setting) where
    -- what stands in a member points well
    value_held : (x m : ℕ) (id part : TyId) (ms : List ℕ) → cell st x ≡ Some (Named m) → local_type types f x ≡ Some id → type_within types (Some id) ms ≡ Some part
        → ValueWell types st.world.content part (words_at st.world.content m 0 (word_within types (Some id) ms) (width_at types part))
    value_held x m id part ms named typed path = record {
      aims = λ u q begins. subst (λ (ws : List ℕ). PointsWell types c (seen_type types (Some q)) (pointer_in ws)) (sym (read u q begins)) ((held x m id named typed).aims (word_within types (Some id) ms + u) q (within u q begins));
      fits = λ u q t begins there. subst (λ (ws : List ℕ). PointerFits t (pointer_in ws)) (sym (read u q begins)) ((held x m id named typed).fits (word_within types (Some id) ms + u) q t (within u q begins) there);
    }
      where
        five : (u : ℕ) (q : TyId) → begins_at types part u ≡ Some q → u + 5 ≤ width_at types part
        five u q begins = (begun_at types ordered part u q begins).fits

        within : (u : ℕ) (q : TyId) → begins_at types part u ≡ Some q → begins_at types id (word_within types (Some id) ms + u) ≡ Some q
        within u q begins = path_begins types ordered id part ms path u (let l = five u q begins in omega (arith, l)) ∙ begins

        read : (u : ℕ) (q : TyId) → begins_at types part u ≡ Some q
            → take 5 (drop u (words_at st.world.content m 0 (word_within types (Some id) ms) (width_at types part))) ≡ words_at st.world.content m 0 (word_within types (Some id) ms + u) 5
        read u q begins =
            inside 5 u (width_at types part) (drop (word_within types (Some id) ms) (slot_words c m 0)) (five u q begins)
            ∙ ap (λ (zs : List ℕ). take 5 zs) (drop_further (word_within types (Some id) ms) u (slot_words c m 0))

    value_copied : (part : TyId) (ws vs : List ℕ) → ((u : ℕ) → IsBegun (parts_at types part) u → take 5 (drop u vs) ≡ take 5 (drop u ws)) → ValueWell types st.world.content part ws → ValueWell types st.world.content part vs
    value_copied part ws vs same well = record {
      aims = λ u q begins. subst (λ (xs : List ℕ). PointsWell types c (seen_type types (Some q)) (pointer_in xs)) (sym (same u (begun_at types ordered part u q begins))) (well.aims u q begins);
      fits = λ u q t begins there. subst (λ (xs : List ℕ). PointerFits t (pointer_in xs)) (sym (same u (begun_at types ordered part u q begins))) (well.fits u q t begins there);
    }

    on_got_after : {A : Type 0} (x : Attempt A) (go : A → Effect) (P : A → Type 0) (Q R : State → Type 0) → IfGot x P → OnNext (on_got x go) Q → ((a : A) → P a → OnNext (go a) Q → OnNext (go a) R) → OnNext (on_got x go) R
    on_got_after (Got a) go P Q R h after more = more a h after
    on_got_after (GotTrap kind) go P Q R h after more = tt
    on_got_after (GotFault kind) go P Q R h after more = tt
    on_got_after GotLost go P Q R h after more = tt

    copied_holds : (x n : ℕ) → cell st x ≡ Some (Named n) → (id part : TyId) → local_type types f x ≡ Some id → (ms : List ℕ) → type_within types (Some id) ms ≡ Some part → (ws : List ℕ) → length ws ≡ width_at types part → ValueWell types st.world.content part ws
        → OnNext (copied_to s (parts_at types part) (record { object = n; index = 0; word = word_within types (Some id) ms }) ws st) (Stands types f rest)
        → OnNext (copied_to s (parts_at types part) (record { object = n; index = 0; word = word_within types (Some id) ms }) ws st) (Holds types f rest st)
    copied_holds x n named id part typed ms path ws wide well after =
        on_got_after (copied s (parts_at types part) ws c) (λ v. Next (put_content (replaced (parts_at types part) (record { object = n; index = 0; word = word_within types (Some id) ms }) v) st)) (λ v. KeepsOn types f st v.1 × IsCopyOf (parts_at types part) ws v)
        (Stands types f rest) (Holds types f rest st)
        (got_both (copied s (parts_at types part) ws c) (λ v. KeepsOn types f st v.1) (IsCopyOf (parts_at types part) ws)
        (copied_keeps types ordered Loose c s (parts_at types part) ws c (keeps_self types Loose c)) (copied_words s (parts_at types part) ws c wide))
        after
        (λ v h later. written_holds types ordered f rest st stands held x n named id part typed ms path
        (ended (parts_at types part) (spot_words v.1 (record { object = n; index = 0; word = word_within types (Some id) ms }) (width_at types part)) v.1)
        (ended_keeps types ordered Loose c (parts_at types part) (spot_words v.1 (record { object = n; index = 0; word = word_within types (Some id) ms }) (width_at types part)) v.1 h.0)
        v.0 h.1.0 (value_copied part ws v.0 h.1.1 well) later)

    -- ---- from one local or member to another

    -- a local or a member names its object
    on_named : (l : Location) (go : ℕ → ℕ → Object → Effect) (fixed : Characters → Effect) (Q R : State → Type 0) → OnNext (on_place (named_by st.world.content (cell st l.local)) go fixed) Q
        → ((n : ℕ) (o : Object) → cell st l.local ≡ Some (Named n) → OnNext (go n 0 o) Q → OnNext (go n 0 o) R) → OnNext (on_place (named_by st.world.content (cell st l.local)) go fixed) R
    on_named l go fixed Q R after each = over (cell st l.local) refl after
      where
        here : (b : Bool) (n : ℕ) (o : Object) → cell st l.local ≡ Some (Named n) → OnNext (on_place (here_if b n 0 o) go fixed) Q → OnNext (on_place (here_if b n 0 o) go fixed) R
        here true n o e h = each n o e h
        here false n o e h = tt

        found : (x : Option Object) (n : ℕ) → cell st l.local ≡ Some (Named n) → OnNext (on_place (found_in x n 0) go fixed) Q → OnNext (on_place (found_in x n 0) go fixed) R
        found None n e h = tt
        found (Some o) n e h = here (nat_lt 0 (length o.slots)) n o e h

        over : (v : Option Cell) → cell st l.local ≡ v → OnNext (on_place (named_by st.world.content v) go fixed) Q → OnNext (on_place (named_by st.world.content v) go fixed) R
        over None e h = tt
        over (Some Empty) e h = tt
        over (Some (Number z)) e h = tt
        over (Some (Points p)) e h = tt
        over (Some (Named n)) e h = found (at c.objects n) n e h

    no_type : (ms : List ℕ) (part : TyId) → type_within types None ms ≡ Some part → ⊥
    no_type [] part e = none_some e
    no_type (m ∷ ms) part e = none_some e

    pub named_copies : (to from : Location) (part : TyId) → location_type types f to ≡ Some part → location_type types f from ≡ Some part → OnNext (copies s types f (Name to) (Name from) st) (Stands types f rest) → OnNext (copies s types f (Name to) (Name from) st) (Holds types f rest st)
    named_copies to from part typed typed_from after =
        on_named to (λ n i object. on_place (named_by c (cell st from.local)) (reads n i) (fixed n i)) (λ t. Strays) (Stands types f rest) (Holds types f rest st) after
        (λ n o named h. on_named from (reads n 0) (fixed n 0) (Stands types f rest) (Holds types f rest st) h
        (λ m q named_from k. of n m (local_type types f to.local) (local_type types f from.local) refl refl named named_from typed typed_from k))
      where
        reads : ℕ → ℕ → ℕ → ℕ → Object → Effect
        reads n i m j object = copied_to s (operand_parts types f (Name to)) (record { object = n; index = i; word = operand_word types f (Name to) st }) (words_at st.world.content m j (operand_word types f (Name from) st) (width (operand_parts types f (Name to)))) st

        fixed : ℕ → ℕ → Characters → Effect
        fixed n i t = on_character s.texts t (λ z. copied_to s (operand_parts types f (Name to)) (record { object = n; index = i; word = operand_word types f (Name to) st }) (word_of_number z ∷ []) st)

        of : (n m : ℕ) (a b : Option TyId) → local_type types f to.local ≡ a → local_type types f from.local ≡ b → cell st to.local ≡ Some (Named n) → cell st from.local ≡ Some (Named m) → type_within types a to.members ≡ Some part → type_within types b from.members ≡ Some part
            → OnNext (copied_to s (parts_if types (type_within types a to.members)) (record { object = n; index = 0; word = word_within types a to.members }) (words_at st.world.content m 0 (word_within types b from.members) (width (parts_if types (type_within types a to.members)))) st) (Stands types f rest)
            → OnNext (copied_to s (parts_if types (type_within types a to.members)) (record { object = n; index = 0; word = word_within types a to.members }) (words_at st.world.content m 0 (word_within types b from.members) (width (parts_if types (type_within types a to.members)))) st) (Holds types f rest st)
        of n m None b is is_from named named_from path path_from k = absurd (no_type to.members part path)
        of n m (Some id) None is is_from named named_from path path_from k = absurd (no_type from.members part path_from)
        of n m (Some id) (Some source) is is_from named named_from path path_from k =
            subst (λ (y : Option TyId). OnNext (copied_to s (parts_if types y) (record { object = n; index = 0; word = word_within types (Some id) to.members }) (words_at c m 0 (word_within types (Some source) from.members) (width (parts_if types y))) st) (Holds types f rest st)) (sym path)
            (copied_holds to.local n named id part is to.members path (words_at c m 0 (word_within types (Some source) from.members) (width_at types part)) (wide_from m source named_from is_from path_from) (value_held from.local m source part from.members named_from is_from path_from)
            (subst (λ (y : Option TyId). OnNext (copied_to s (parts_if types y) (record { object = n; index = 0; word = word_within types (Some id) to.members }) (words_at c m 0 (word_within types (Some source) from.members) (width (parts_if types y))) st) (Stands types f rest)) path k))
          where
            wide_from : (m : ℕ) (source : TyId) → cell st from.local ≡ Some (Named m) → local_type types f from.local ≡ Some source → type_within types (Some source) from.members ≡ Some part
                → length (words_at st.world.content m 0 (word_within types (Some source) from.members) (width_at types part)) ≡ width_at types part
            wide_from m source named_from is_from path_from =
                let p = place_named types ordered f st stands.frame from part typed_from m named_from in
                subst (λ (y : Option TyId). length (words_at c m 0 (word_within types y from.members) (width_at types part)) ≡ width_at types part) is_from
                (place_copied types ordered (λ k. times (named_in st.cells) k + rest k) c stands.store part m 0 (word_within types (local_type types f from.local) from.members) p.0 p.1 (parts_at types part) refl).wide
