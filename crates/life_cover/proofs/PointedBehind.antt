-- What stands behind it where a pointer is given a value that is a local, or a member of one: no object but the pointer's own is another one.
use Rattle.std.proofs.Common.{◌≡◌, inl, inr, ⊎_elim, ℕ, ◌+◌, ◌<◌, Bool, true, false, List, [], ◌∷◌, length, Option, Some, None, refl, sym, ap, subst, ◌∙◌, arith}
use Rattle.std.specs.Prelude.{◌&&◌, slice_get}
use Rattle.std.proofs.lemmas.Bool.{false≢true, or_right}
use Rattle.life_types.specs.TypeTests.{is_pointer, is_unique}
use Rattle.life_types.specs.Types.{Types}
use Rattle.life_types.specs.declared.ty.TyId.{TyId}
use Rattle.life_core.specs.Function.{Function}
use Rattle.life_core.specs.Operands.{Location}
use Rattle.life_pset.specs.declared.element.Fact.{Fact}
use Rattle.life_pset.specs.declared.element.Root.{Root}
use Rattle.life_proper.specs.Placed.{type_in}
use Rattle.life_store.specs.Cells.{at}
use Rattle.life_store.specs.Content.{Content, Object}
use Rattle.life_store.specs.Effects.{cell, put_content}
use Rattle.life_store.specs.Held.{pointer_words, wrote}
use Rattle.life_store.specs.Kinds.{Owner, Pointing, is_owner, is_value, kind_in}
use Rattle.life_store.specs.Parts.{local_type, parts_at, type_within, width_at, word_within}
use Rattle.life_store.specs.Places.{member_pointed, pointed}
use Rattle.life_store.specs.State.{Cell, Empty, Named, Number, Pointer, Points, State}
use Rattle.life_store.proofs.CellLemmas.{some_same}
use Rattle.life_store.proofs.MapLemmas.{one_or_apart}
use Rattle.life_forest.specs.Forest.{Beneath, Touches, part, under}
use Rattle.life_forest.specs.Forest as forest
use Rattle.life_forest.specs.FrameTypes.{IsVariable}
use Rattle.life_forest.specs.Frames.{OnNext}
use Rattle.life_forest.specs.Kinds.{kinds_of}
use Rattle.life_forest.specs.Owned.{owns_at, owns_if, times}
use Rattle.life_forest.specs.Typed.{IsStore}
use Rattle.life_forest.specs.Within.{LiesWithin}
use Rattle.life_forest.proofs.Below.{owner_lives}
use Rattle.life_forest.proofs.Counting.{in_slots_none}
use Rattle.life_forest.proofs.Feet.{within_self}
use Rattle.life_forest.proofs.Lying.{touches_value}
use Rattle.life_forest.proofs.MemberPointers.{five_words}
use Rattle.life_forest.proofs.Members.{path_within}
use Rattle.life_forest.proofs.Spots.{lies_at}
use Rattle.life_forest.proofs.StandingPointers.{pointer_width}
use Rattle.life_forest.proofs.Steps.{touches_then}
use Rattle.life_forest.proofs.WrittenPointers.{gap}
use Rattle.life_cover.specs.Buffered.{AreBut, is_buffer_at}
use Rattle.life_cover.specs.Inputs.{frame_foot}
use Rattle.life_cover.specs.Regions.{Region, foot_of, is_in_region}
use Rattle.life_cover.specs.Uniques.{had_at, word_in}
use Rattle.life_cover.proofs.Behind.{HadStays, IsBehind, behind_content, behind_points, no_local, no_location}
use Rattle.life_cover.proofs.BufferWords.{buffer_owner}
use Rattle.life_cover.proofs.Inside.{IsWithin, in_region, region_within}
use Rattle.life_cover.proofs.KnownFrames.{IsKnownFrame, hand_of, store_of}
use Rattle.life_cover.proofs.MemberWords.{IsPointing, is_pointing, path_words}
use Rattle.life_cover.proofs.OwnersStay.{owner_kept}
use Rattle.life_cover.proofs.PointedPlaces.{pointer_nameless, pointer_owns}
use Rattle.life_cover.proofs.PutWords.{wrote_but}
use Rattle.life_cover.proofs.Sparing.{local_low}
use Rattle.life_cover.proofs.UniqueLocations.{IsUniqueAt, unique_at}

module _ (types : Types) (f : Function) (rest : ℕ → ℕ) (inputs : Root → Option Region) (S : Fact → Type 0) (st : State) (k : IsKnownFrame types f rest inputs S st) where
  -- behind what touched owners alone that the frame may touch, where all that is named was named before
  module _ (bare : ℕ → Type 0) (d : Content) (buffered : AreBut types bare d) (touch : Touches (kinds_of types) (frame_foot types f inputs st.cells) st.world.content d) (hand : ℕ → ℕ) (store : IsStore types hand d) (cells : List Cell)
      (less : (x n : ℕ) → slice_get cells x ≡ Some (Named n) → cell st x ≡ Some (Named n)) (variables : (x n : ℕ) → slice_get cells x ≡ Some (Named n) → IsVariable d (local_type types f x) n) (p : Location) (pointer : is_pointer (type_in types f p) ≡ true) (v : Pointer) where
    -- ---- a member

    module _ (n : ℕ) (named : slice_get cells p.local ≡ Some (Named n)) where
      abbrev to : IsVariable d (local_type types f p.local) n
      to = variables p.local n named

      abbrev is : IsPointing types k.ordered k.once f k.shaped p
      is = is_pointing types k.ordered k.once f k.shaped p pointer

      abbrev start : ℕ
      start = word_within types (local_type types f p.local) p.members

      abbrev region : Region
      region = record { object = n; word = word_within types (local_type types f p.local) p.members; ty = (is_pointing types k.ordered k.once f k.shaped p pointer).part }

      abbrev then : Content
      then = wrote n 0 (word_within types (local_type types f p.local) p.members) (pointer_words v) d

      wide : width_at types is.part ≡ 5
      wide = pointer_width (parts_at types is.part) is.points

      typed_at : type_within types (Some to.object.ty) p.members ≡ Some is.part
      typed_at = subst (λ (id : Option TyId). type_within types id p.members ≡ Some is.part) to.type is.typed

      word_is : start ≡ word_within types (Some to.object.ty) p.members
      word_is = ap (λ (id : Option TyId). word_within types id p.members) to.type

      within : LiesWithin types to.object.ty start is.part
      within = subst (λ u. LiesWithin types to.object.ty u is.part) (sym word_is) (path_within types k.ordered to.object.ty is.part p.members typed_at)

      slot : 0 < length to.object.slots
      slot = let e = ap length to.one in omega (arith, e)

      pub member_written : Touches (kinds_of types) (foot_of types (record { object = n; word = word_within types (local_type types f p.local) p.members; ty = (is_pointing types k.ordered k.once f k.shaped p pointer).part })) d (wrote n 0 (word_within types (local_type types f p.local) p.members) (pointer_words v) d)
      member_written =
          touches_value (kinds_of types) d (record { object = n; index = 0; word = start }) (parts_at types is.part) to.object
          (lies_at types k.ordered hand d store n 0 start is.part to.object to.there within slot) (pointer_words v) (let five = five_words v in omega (arith, five, wide)) (foot_of types region)
          (λ u lt. or_right (is_value (kind_in (parts_at types is.part) u)) (is_in_region types region n (start + u)) (in_region types region n (start + u) (record { object = refl; first = omega arith; last = omega (arith, lt) })))
          (λ m born own. let none = ap (λ (ns : List ℕ). times ns m) (pointer_owns (parts_at types is.part) is.points (pointer_words v)) in absurd (omega (arith, own, none)))

      pointing_at : (u : ℕ) → IsWithin types region n u → (j : ℕ) × (kind_in (parts_at types to.object.ty) u ≡ Pointing j)
      pointing_at u inside =
          let g = gap start u inside.first in
          let e = g.1 in
          let last = inside.last in
          let begin = word_is in
          (g.0, path_words types k.ordered to.object.ty is.part p.members typed_at is.points g.0 u (omega (arith, e, last, wide)) (omega (arith, e, begin)))

      -- they own nothing
      owns_none : (j m : ℕ) → 0 < owns_at (kinds_of types) d ((foot_of types region).part j) j m → ⊥
      owns_none j m own = let z = zero_owned in omega (arith, own, z)
        where
          holder : (o : Object) × (at d.objects j ≡ Some o)
          holder = owner_lives (kinds_of types) d ((foot_of types region).part j) j m own

          no_owner : (a : Bool) → (a && false) ≡ false
          no_owner true = refl
          no_owner false = refl

          each : (u : ℕ) → (is_owner (kind_in (parts_at types holder.0.ty) u) && is_in_region types region j u) ≡ false
          each u = go (is_in_region types region j u) refl
            where
              go : (b : Bool) → is_in_region types region j u ≡ b → (is_owner (kind_in (parts_at types holder.0.ty) u) && is_in_region types region j u) ≡ false
              go false e = ap (λ b. is_owner (kind_in (parts_at types holder.0.ty) u) && b) e ∙ no_owner (is_owner (kind_in (parts_at types holder.0.ty) u))
              go true e =
                  let inside = region_within types region j u e in
                  let same : holder.0 ≡ to.object = some_same (sym holder.1 ∙ ap (at d.objects) inside.object ∙ to.there) in
                  let kind = pointing_at u (record { object = refl; first = inside.first; last = inside.last }) in
                  ap (λ x. is_owner x && is_in_region types region j u) (ap (λ (o : Object). kind_in (parts_at types o.ty) u) same ∙ kind.1)

          zero_owned : owns_at (kinds_of types) d ((foot_of types region).part j) j m ≡ 0
          zero_owned =
              ap (λ (x : Option Object). owns_if (kinds_of types) ((foot_of types region).part j) x m) holder.1
              ∙ in_slots_none (λ u. is_owner (kind_in (parts_at types holder.0.ty) u) && is_in_region types region j u) holder.0.slots m each

      pub member_unowned : (m : ℕ) → Beneath (kinds_of types) d (foot_of types (record { object = n; word = word_within types (local_type types f p.local) p.members; ty = (is_pointing types k.ordered k.once f k.shaped p pointer).part })) m → ⊥
      member_unowned m (forest.whole _ e) = absurd (false≢true e)
      member_unowned m (part j _ own) = owns_none j m own
      member_unowned m (under j _ low own) = member_unowned j low

      -- they are no buffers
      pub member_buffered : AreBut types bare then
      member_buffered = wrote_but types bare n 0 start (pointer_words v) d (λ o there j lt buffer. absurd (clash o there j lt buffer)) buffered
        where
          owner_points : (i : ℕ) → Owner ≡ Pointing i → ⊥
          owner_points i e = cc

          clash : (o : Object) → at d.objects n ≡ Some o → (j : ℕ) → j < length (pointer_words v) → is_buffer_at (parts_at types o.ty) (start + j) ≡ true → ⊥
          clash o there j lt buffer =
              let five = five_words v in
              let kind = pointing_at (start + j) (record { object = refl; first = omega arith; last = omega (arith, lt, five, wide) }) in
              owner_points kind.0 (sym (buffer_owner (parts_at types o.ty) (start + j) buffer) ∙ ap (λ (x : Object). kind_in (parts_at types x.ty) (start + j)) (some_same (sym there ∙ to.there)) ∙ kind.1)

      -- and no unique_ptr is in them
      pub member_had : (l : Location) (j : ℕ) → slice_get cells l.local ≡ Some (Named j) → is_unique (type_in types f l) ≡ true → had_at then j (word_in types f l) ≡ had_at d j (word_in types f l)
      member_had l j named_l unique =
          owner_kept (kinds_of types) (foot_of types region) d then j 0 (word_in types f l) u.object member_written (store.forest.births j u.object u.there) (member_unowned j) u.there (ap is_value owner) (not_in (is_in_region types region j (word_in types f l)) refl)
        where
          u : IsVariable d (local_type types f l.local) j
          u = variables l.local j named_l

          one : IsUniqueAt types f rest inputs S st k l j
          one = unique_at types f rest inputs S st k l j (less l.local j named_l) unique

          owner : kind_in (parts_at types u.object.ty) (word_in types f l) ≡ Owner
          owner = ap (λ (id : TyId). kind_in (parts_at types id) (word_in types f l)) (some_same (sym u.type ∙ one.variable.type)) ∙ one.owner

          owner_points : (i : ℕ) → Owner ≡ Pointing i → ⊥
          owner_points i e = cc

          clash : IsWithin types region j (word_in types f l) → ⊥
          clash inside =
              let kind = pointing_at (word_in types f l) (record { object = refl; first = inside.first; last = inside.last }) in
              owner_points kind.0 (sym owner ∙ ap (λ (o : Object). kind_in (parts_at types o.ty) (word_in types f l)) (some_same (sym u.there ∙ ap (at d.objects) inside.object ∙ to.there)) ∙ kind.1)

          not_in : (b : Bool) → is_in_region types region j (word_in types f l) ≡ b → is_in_region types region j (word_in types f l) ≡ false
          not_in true e = absurd (clash (region_within types region j (word_in types f l) e))
          not_in false e = e

      pub member_touch : Touches (kinds_of types) (frame_foot types f inputs st.cells) st.world.content then
      member_touch =
          touches_then (kinds_of types) (hand_of rest st) st.world.content (store_of types f rest inputs S st k).forest (frame_foot types f inputs st.cells) (foot_of types region) (frame_foot types f inputs st.cells) d then touch member_written
          (within_self (kinds_of types) st.world.content (frame_foot types f inputs st.cells))
          (record {
            whole = λ j lt e. absurd (false≢true e);
            part = λ j lt. one_or_apart j n (λ same. inl (subst (Beneath (kinds_of types) st.world.content (frame_foot types f inputs st.cells)) (sym same) (local_low types f rest inputs S st k p.local n (less p.local n named)))) (λ ne. inr (λ w e. absurd (ne (region_within types region j w e).object)));
          })

  -- ---- where all is named that was named

  module _ (bare : ℕ → Type 0) (d : Content) (buffered : AreBut types bare d) (touch : Touches (kinds_of types) (frame_foot types f inputs st.cells) st.world.content d) (store : IsStore types (hand_of rest st) d)
      (variables : (x n : ℕ) → cell st x ≡ Some (Named n) → IsVariable d (local_type types f x) n) (had : HadStays types f inputs bare no_local no_location st d) (p : Location) (pointer : is_pointer (type_in types f p) ≡ true) (v : Pointer) where
    abbrev Behind : State → Type 0
    Behind = IsBehind types f inputs bare no_local no_location st

    member_behind : (n : ℕ) → cell st p.local ≡ Some (Named n) → Behind (put_content (wrote n 0 (word_within types (local_type types f p.local) p.members) (pointer_words v) d) st)
    member_behind n named =
        behind_content types f inputs bare no_local no_location st (wrote n 0 (word_within types (local_type types f p.local) p.members) (pointer_words v) d)
        (member_buffered bare d buffered touch (hand_of rest st) store st.cells (λ x m e. e) variables p pointer v n named) (member_touch bare d buffered touch (hand_of rest st) store st.cells (λ x m e. e) variables p pointer v n named)
        (λ x j e unique. ⊎_elim (λ l. absurd l) (λ was. inr (member_had bare d buffered touch (hand_of rest st) store st.cells (λ y m h. h) variables p pointer v n named x j e unique ∙ was)) (had x j e unique))

    pub pointed_behind : OnNext (pointed types f p v (put_content d st)) (IsBehind types f inputs bare no_local no_location st)
    pointed_behind = go p.members refl (cell st p.local) refl
      where
        go : (ms : List ℕ) → p.members ≡ ms → (x : Option Cell) → cell st p.local ≡ x → OnNext (member_pointed types f p.local ms x v (put_content d st)) Behind
        go [] none x e = behind_points types f inputs bare no_local no_location st p.local (λ n named. pointer_nameless types f rest inputs S st k p pointer n none named) v d buffered touch had
        go (m ∷ ms) members (Some (Named n)) e =
            subst (λ (ks : List ℕ). Behind (put_content (wrote n 0 (word_within types (local_type types f p.local) ks) (pointer_words v) d) st)) members (member_behind n e)
        go (m ∷ ms) members None e = tt
        go (m ∷ ms) members (Some Empty) e = tt
        go (m ∷ ms) members (Some (Number z)) e = tt
        go (m ∷ ms) members (Some (Points q)) e = tt
