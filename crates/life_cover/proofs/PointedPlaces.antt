-- A pointer that is a local, or a member of one, is given what is covered, and nothing is killed: all pointers of the frame are covered.
use Rattle.std.proofs.Common.{◌≡◌, ◌≢◌, ⊎_elim, ℕ, ◌+◌, ◌≤◌, ◌<◌, Bool, true, false, List, [], ◌∷◌, length, Option, Some, None, refl, sym, ap, subst, ◌∙◌, arith}
use Rattle.std.specs.Prelude.{◌&&◌, slice_get, slice_set}
use Rattle.std.proofs.lemmas.Bool.{false≢true, or_right}
use Rattle.life_types.specs.Trees.{IsOrdered}
use Rattle.life_types.specs.TypeTests.{is_pointer}
use Rattle.life_types.specs.Types.{HasEachOnce, Types}
use Rattle.life_types.specs.declared.place.Place.{Place}
use Rattle.life_types.specs.declared.ty.TyId.{TyId}
use Rattle.life_core.specs.Function.{Function}
use Rattle.life_core.specs.Operands.{Location, whole}
use Rattle.life_core.specs.Step.{Step}
use Rattle.life_pset.specs.Elements.{AreShort, elements_of, local_place}
use Rattle.life_pset.specs.Places.{members_place}
use Rattle.life_pset.specs.declared.element.AbsPlace.{AbsPlace}
use Rattle.life_pset.specs.declared.element.Element.{Element}
use Rattle.life_pset.specs.declared.element.Fact.{Fact}
use Rattle.life_pset.specs.declared.element.Root.{Root}
use Rattle.life_pset.proofs.Numbers.{exact_place, place_laws}
use Rattle.life_contract.specs.Located.{is_location, located}
use Rattle.life_contract.specs.Signatures.{Signature}
use Rattle.life_proper.specs.Placed.{object_at, type_in}
use Rattle.life_rules.specs.Carrying.{is_gone, writes}
use Rattle.life_store.specs.Cells.{at}
use Rattle.life_store.specs.Content.{Content, Object}
use Rattle.life_store.specs.Effects.{cell, put_cell, put_content}
use Rattle.life_store.specs.Held.{pointer_in, pointer_words, words_at, wrote}
use Rattle.life_store.specs.Kinds.{Pointing, is_owner, is_value, kind_in}
use Rattle.life_store.specs.Parts.{Parts, Single, Raw, Iterates, Views, Text, Vector, Unique, Member, NoMember, local_type, parts_at, type_within, width_at, word_within}
use Rattle.life_store.specs.Places.{location_cell, member_cell, member_pointed, pointed}
use Rattle.life_store.specs.State.{Cell, Empty, Named, Number, Pointer, Points, State}
use Rattle.life_store.proofs.CellLemmas.{none_some, some_same}
use Rattle.life_store.proofs.MapLemmas.{one_or_apart}
use Rattle.life_forest.specs.Forest.{Beneath, Touches, part, under}
use Rattle.life_forest.specs.Forest as forest
use Rattle.life_forest.specs.FrameTypes.{IsVariable}
use Rattle.life_forest.specs.Frames.{HasStore, named_in}
use Rattle.life_forest.specs.Kinds.{kinds_of}
use Rattle.life_forest.specs.Owned.{owns_at, owns_if, times}
use Rattle.life_forest.specs.Values.{AllWide, owned_of}
use Rattle.life_forest.specs.Within.{LiesWithin}
use Rattle.life_forest.proofs.Below.{owner_lives}
use Rattle.life_forest.proofs.Counting.{in_slots_none}
use Rattle.life_forest.proofs.Lying.{touches_value}
use Rattle.life_forest.proofs.MemberPointers.{five_words, pointer_back, written_back}
use Rattle.life_forest.proofs.Members.{path_within}
use Rattle.life_forest.proofs.Shaped.{IsShaped}
use Rattle.life_forest.proofs.Spots.{lies_at}
use Rattle.life_forest.proofs.StandingPointers.{IsPointer, pointer_width}
use Rattle.life_forest.proofs.Steps.{alive_le, touches_self}
use Rattle.life_forest.proofs.WrittenPointers.{gap}
use Rattle.life_cover.specs.Covers.{IsCovered, Look}
use Rattle.life_cover.specs.Frames.{FrameCovered, LocationsCovered, RootStands, look_in}
use Rattle.life_cover.specs.Inputs.{IsInput, StandsAt, may_change}
use Rattle.life_cover.specs.Kills.{Closed}
use Rattle.life_cover.specs.Regions.{IsTrue, Region, foot_of, is_in_region}
use Rattle.life_cover.proofs.ApartLocations.{paths_beside}
use Rattle.life_cover.proofs.ExactLocations.{exact_location, room_length}
use Rattle.life_cover.proofs.HeldCells.{put_held}
use Rattle.life_cover.proofs.Inside.{IsWithin, in_region, region_within}
use Rattle.life_cover.proofs.Killing.{cover_on}
use Rattle.life_cover.proofs.KnownFrames.{IsKnownFrame, hand_of, object_named, pointer_free, rooted_of, store_of}
use Rattle.life_cover.proofs.Locals.{two_named}
use Rattle.life_cover.proofs.MemberReach.{IsReady, ready}
use Rattle.life_cover.proofs.MemberWords.{IsPointing, held_before, is_pointing, path_words}
use Rattle.life_cover.proofs.Pointers.{OnRight}
use Rattle.life_cover.proofs.Putting.{covered_more, roots_stay}
use Rattle.life_cover.proofs.Unkilled.{no_foot, unkilled_cover}

-- a pointer owns nothing
pub pointer_owns : (p : Parts) → IsPointer p → (ws : List ℕ) → owned_of p ws ≡ []
pointer_owns Raw is ws = refl
pointer_owns Iterates is ws = refl
pointer_owns Views is ws = refl
pointer_owns Single is ws = absurd is
pointer_owns (Text id) is ws = absurd is
pointer_owns (Vector id element) is ws = absurd is
pointer_owns (Unique id target) is ws = absurd is
pointer_owns (Member first others) is ws = absurd is
pointer_owns NoMember is ws = absurd is

module _ (types : Types) (ordered : IsOrdered types) (once : HasEachOnce types) (f : Function) (shaped : IsShaped types f) (short : AreShort (elements_of types f)) (rest : ℕ → ℕ) (st : State) (store : HasStore types rest st)
    (variables : (x n : ℕ) → cell st x ≡ Some (Named n) → IsVariable st.world.content (local_type types f x) n) (objects : (x n : ℕ) → slice_get st.cells x ≡ Some (Named n) → object_at types f x ≡ true) (inputs : Root → Option Region) (each : (r : Root) (a : Region) → StandsAt inputs r a → IsInput types f r a) where
  abbrev c : Content
  c = st.world.content

  abbrev Stands : Root → Region → Type 0
  Stands = RootStands types f (StandsAt inputs) st.cells

  -- ---- a member that is a pointer

  module _ (l : Location) (pointer : is_pointer (type_in types f l) ≡ true) (n : ℕ) (named : cell st l.local ≡ Some (Named n)) where
    abbrev variable : IsVariable st.world.content (local_type types f l.local) n
    variable = variables l.local n named

    typed_at : type_within types (Some variable.object.ty) l.members ≡ Some (is_pointing types ordered once f shaped l pointer).part
    typed_at = let is = is_pointing types ordered once f shaped l pointer in subst (λ (id : Option TyId). type_within types id l.members ≡ Some is.part) variable.type is.typed

    is_ready : IsReady types ordered f shaped short st objects inputs each l.members (local_place l.local)
    is_ready =
        ready types ordered f shaped short st objects inputs each l.members (local_place l.local) (record { object = n; word = 0; ty = variable.object.ty })
        (is_pointing types ordered once f shaped l pointer).part (record { eight = refl; made = refl }) (record { start = record { object = n; word = 0; ty = variable.object.ty }; stands = (named, refl, variable.type); lies = refl }) typed_at

    located_short : (located l).length ≤ 8
    located_short = let room = is_ready.room.fits in let long = room_length l.members (local_place l.local) is_ready.room is_ready.small in omega (arith, room, long)

    word_is : word_within types (local_type types f l.local) l.members ≡ word_within types (Some variable.object.ty) l.members
    word_is = ap (λ (id : Option TyId). word_within types id l.members) variable.type

  -- ---- another location isn't at its place

  -- its place isn't too long
  pub held_short : (l : Location) → is_pointer (type_in types f l) ≡ true → (w : Pointer) → location_cell types f l st ≡ Some (Points w) → (located l).length ≤ 8
  held_short l pointer w held = go l.members refl (cell st l.local) refl held
    where
      go : (ls : List ℕ) → l.members ≡ ls → (x : Option Cell) → cell st l.local ≡ x → member_cell types f l.local ls x st.world.content ≡ Some (Points w) → (located l).length ≤ 8
      go [] none x named h = let e = ap (λ (ms : List ℕ). (members_place (local_place l.local) ms).length) none in omega (arith, e)
      go (j ∷ js) some (Some (Named n)) named h = located_short l pointer n named
      go (j ∷ js) some None named h = absurd (none_some h)
      go (j ∷ js) some (Some Empty) named h = absurd (none_some h)
      go (j ∷ js) some (Some (Number z)) named h = absurd (none_some h)
      go (j ∷ js) some (Some (Points q)) named h = absurd (none_some h)

  pub other_location : (l p : Location) → is_pointer (type_in types f l) ≡ true → (w : Pointer) → location_cell types f l st ≡ Some (Points w) → p ≢ l → is_location p (located l) ≡ false
  other_location l p pointer_l w held ne = go (is_location p (located l)) refl
    where
      go : (b : Bool) → is_location p (located l) ≡ b → is_location p (located l) ≡ false
      go true e = absurd (ne (exact_location l p (held_short l pointer_l w held) (exact_place (located l) (located p) e)))
      go false e = e

  -- ---- one that is given a pointer, where all others are covered

  module _ (may_change : Root → Bool) (fits : (r : Root) (a : Region) → Stands r a → IsTrue types st.world.content a) (S' : Fact → Type 0) (p : Location) (pointer : is_pointer (type_in types f p) ≡ true) (v : Pointer)
      (covers : IsCovered types st.world.content (RootStands types f (StandsAt inputs) st.cells) may_change S' (located p) (look_in types f p) v)
      (others : (l : Location) (w : Pointer) → is_pointer (type_in types f l) ≡ true → p ≢ l → location_cell types f l st ≡ Some (Points w) → IsCovered types st.world.content (RootStands types f (StandsAt inputs) st.cells) may_change S' (located l) (look_in types f l) w) where
    points_one : {u w : Pointer} → Points u ≡ Points w → u ≡ w
    points_one e = cc

    -- what is given is covered, wherever the location is p
    at_p : (l : Location) (w : Pointer) → p ≡ l → v ≡ w → IsCovered types c Stands may_change S' (located l) (look_in types f l) w
    at_p l w here is = subst (λ (u : Pointer). IsCovered types c Stands may_change S' (located l) (look_in types f l) u) is (subst (λ (q : Location). IsCovered types c Stands may_change S' (located q) (look_in types f q) v) here covers)

    -- ---- a local

    pub local_given : ((n : ℕ) → cell st p.local ≡ Some (Named n) → ⊥) → p.members ≡ [] → LocationsCovered types f (StandsAt inputs) may_change S' (put_cell p.local (Points v) st)
    local_given no_object none l w pointer_l held =
        covered_more types c Stands (RootStands types f (StandsAt inputs) (slice_set st.cells p.local (Points v))) may_change (roots_stay types f (StandsAt inputs) st p.local (Points v) no_object) S' (located l) (look_in types f l) w
        (⊎_elim (λ h. at_p l w (p_is ∙ h.0) (points_one h.1)) (λ h. others l w pointer_l (λ same. h.0 (ap (λ (q : Location). q.local) same)) h.1) (put_held types f st p.local (Points v) (λ n e. unlike n e) l w held))
      where
        unlike : (n : ℕ) → Points v ≡ Named n → ⊥
        unlike n e = cc

        p_is : p ≡ whole p.local
        p_is = ap (λ (ms : List ℕ). record { local = p.local; members = ms }) none

    -- ---- a member

    module _ (n : ℕ) (named : cell st p.local ≡ Some (Named n)) where
      abbrev to : IsVariable st.world.content (local_type types f p.local) n
      to = variables p.local n named

      abbrev is : IsPointing types ordered once f shaped p
      is = is_pointing types ordered once f shaped p pointer

      abbrev start : ℕ
      start = word_within types (local_type types f p.local) p.members

      abbrev region : Region
      region = record { object = n; word = word_within types (local_type types f p.local) p.members; ty = (is_pointing types ordered once f shaped p pointer).part }

      abbrev behind : Content
      behind = wrote n 0 (word_within types (local_type types f p.local) p.members) (pointer_words v) st.world.content

      wide : width_at types is.part ≡ 5
      wide = pointer_width (parts_at types is.part) is.points

      within : LiesWithin types to.object.ty start is.part
      within = subst (λ u. LiesWithin types to.object.ty u is.part) (sym (word_is p pointer n named)) (path_within types ordered to.object.ty is.part p.members (typed_at p pointer n named))

      slot : 0 < length to.object.slots
      slot = let e = ap length to.one in omega (arith, e)

      -- its words alone are touched, and they own nothing
      touch : Touches (kinds_of types) (foot_of types region) c behind
      touch =
          touches_value (kinds_of types) c (record { object = n; index = 0; word = start }) (parts_at types is.part) to.object
          (lies_at types ordered (λ m. times (named_in st.cells) m + rest m) c store n 0 start is.part to.object to.there within slot) (pointer_words v) (let five = five_words v in omega (arith, five, wide)) (foot_of types region)
          (λ u lt. or_right (is_value (kind_in (parts_at types is.part) u)) (is_in_region types region n (start + u)) (in_region types region n (start + u) (record { object = refl; first = omega arith; last = omega (arith, lt) })))
          (λ m born own. let none = ap (λ (ns : List ℕ). times ns m) (pointer_owns (parts_at types is.part) is.points (pointer_words v)) in absurd (omega (arith, own, none)))

      pointing_at : (u : ℕ) → IsWithin types region n u → (j : ℕ) × (kind_in (parts_at types to.object.ty) u ≡ Pointing j)
      pointing_at u inside =
          let g = gap start u inside.first in
          let d = g.1 in
          let last = inside.last in
          let begin = word_is p pointer n named in
          (g.0, path_words types ordered to.object.ty is.part p.members (typed_at p pointer n named) is.points g.0 u (omega (arith, d, last, wide)) (omega (arith, d, begin)))

      owns_none : (j m : ℕ) → 0 < owns_at (kinds_of types) c ((foot_of types region).part j) j m → ⊥
      owns_none j m own = let z = zero_owned in omega (arith, own, z)
        where
          holder : (o : Object) × (at c.objects j ≡ Some o)
          holder = owner_lives (kinds_of types) c ((foot_of types region).part j) j m own

          no_owner : (a : Bool) → (a && false) ≡ false
          no_owner true = refl
          no_owner false = refl

          unowned : (u : ℕ) → (is_owner (kind_in (parts_at types holder.0.ty) u) && is_in_region types region j u) ≡ false
          unowned u = go (is_in_region types region j u) refl
            where
              go : (b : Bool) → is_in_region types region j u ≡ b → (is_owner (kind_in (parts_at types holder.0.ty) u) && is_in_region types region j u) ≡ false
              go false e = ap (λ b. is_owner (kind_in (parts_at types holder.0.ty) u) && b) e ∙ no_owner (is_owner (kind_in (parts_at types holder.0.ty) u))
              go true e =
                  let inside = region_within types region j u e in
                  let same : holder.0 ≡ to.object = some_same (sym holder.1 ∙ ap (at c.objects) inside.object ∙ to.there) in
                  let kind = pointing_at u (record { object = refl; first = inside.first; last = inside.last }) in
                  ap (λ x. is_owner x && is_in_region types region j u) (ap (λ (o : Object). kind_in (parts_at types o.ty) u) same ∙ kind.1)

          zero_owned : owns_at (kinds_of types) c ((foot_of types region).part j) j m ≡ 0
          zero_owned =
              ap (λ (x : Option Object). owns_if (kinds_of types) ((foot_of types region).part j) x m) holder.1
              ∙ in_slots_none (λ u. is_owner (kind_in (parts_at types holder.0.ty) u) && is_in_region types region j u) holder.0.slots m unowned

      nothing : (m : ℕ) → Beneath (kinds_of types) c (foot_of types region) m → ⊥
      nothing m (forest.whole _ e) = absurd (false≢true e)
      nothing m (part j _ own) = owns_none j m own
      nothing m (under j _ low own) = nothing j low

      -- what is covered before is so behind it
      covers_on : (a : AbsPlace) (look : Look) (u : Pointer) → IsCovered types c Stands may_change S' a look u → IsCovered types behind Stands may_change S' a look u
      covers_on a look u h =
          cover_on types ordered (λ m. times (named_in st.cells) m + rest m) c behind store (foot_of types region) touch Stands Stands may_change fits (λ b. false) (λ b. false) S' S'
          (record { kept = λ b e s free hit. s; hit = λ b d r s stands free never. absurd (false≢true never) }) (λ b r names at_r low. absurd (nothing r.object low)) (λ b r names free stands. stands) a look u refl h

      two_objects : (x y m : ℕ) → x ≢ y → slice_get st.cells x ≡ Some (Named m) → slice_get st.cells y ≡ Some (Named m) → ⊥
      two_objects x y m ne a b =
          let two = two_named st.cells x y m ne a b in
          let held = store.forest.held m in
          let one = alive_le (kinds_of types) c m in
          omega (arith, two, held, one)

      -- what l holds that isn't p it held before
      other_held : (l : Location) (w : Pointer) → is_pointer (type_in types f l) ≡ true → p ≢ l → location_cell types f l (put_content behind st) ≡ Some (Points w) → location_cell types f l st ≡ Some (Points w)
      other_held l w pointer_l ne held =
          held_before types ordered once f shaped st variables l pointer_l (λ m. times (named_in st.cells) m + rest m) store (foot_of types region)
          (record { apart = λ m e low. nothing m low; words = spared }) behind touch w held
        where
          spared : (m j : ℕ) → cell st l.local ≡ Some (Named m) → j < 5 → is_in_region types region m (word_within types (local_type types f l.local) l.members + j) ≡ false
          spared m j named_l lt = not_true (is_in_region types region m (word_within types (local_type types f l.local) l.members + j)) (λ e. clash (region_within types region m (word_within types (local_type types f l.local) l.members + j) e))
            where
              not_true : (b : Bool) → (b ≡ true → ⊥) → b ≡ false
              not_true true h = absurd (h refl)
              not_true false h = refl

              apart : l.local ≢ p.local → IsWithin types region m (word_within types (local_type types f l.local) l.members + j) → ⊥
              apart other inside = two_objects l.local p.local n other (named_l ∙ ap (λ x. Some (Named x)) inside.object) named

              beside : l.local ≡ p.local → IsWithin types region m (word_within types (local_type types f l.local) l.members + j) → ⊥
              beside same inside =
                  ⊎_elim (λ h. omega (arith, h, lt, first, last, word_l, word_p, wide)) (λ h. omega (arith, h, lt, first, last, word_l, word_p, wide))
                  (paths_beside types ordered to.object.ty (is_pointing types ordered once f shaped l pointer_l).part is.part l.members p.members typed_l (typed_at p pointer n named) (is_pointing types ordered once f shaped l pointer_l).points is.points
                  (λ e. ne (ap (λ x. record { local = x; members = p.members }) (sym same) ∙ ap (λ (ms : List ℕ). record { local = l.local; members = ms }) (sym e))))
                where
                  first : start ≤ word_within types (local_type types f l.local) l.members + j
                  first = inside.first

                  last : word_within types (local_type types f l.local) l.members + j < start + width_at types is.part
                  last = inside.last

                  typed_l : type_within types (Some to.object.ty) l.members ≡ Some (is_pointing types ordered once f shaped l pointer_l).part
                  typed_l = subst (λ (id : Option TyId). type_within types id l.members ≡ Some (is_pointing types ordered once f shaped l pointer_l).part) (ap (local_type types f) same ∙ to.type) (is_pointing types ordered once f shaped l pointer_l).typed

                  word_l : word_within types (local_type types f l.local) l.members ≡ word_within types (Some to.object.ty) l.members
                  word_l = ap (λ (id : Option TyId). word_within types id l.members) (ap (local_type types f) same ∙ to.type)

                  word_p : start ≡ word_within types (Some to.object.ty) p.members
                  word_p = word_is p pointer n named

              clash : IsWithin types region m (word_within types (local_type types f l.local) l.members + j) → ⊥
              clash inside = one_or_apart l.local p.local (λ e. beside e inside) (λ other. apart other inside)

      -- what p holds is what it was given
      given_back : (w : Pointer) → (m : ℕ) (ms : List ℕ) → p.members ≡ m ∷ ms → location_cell types f p (put_content behind st) ≡ Some (Points w) → v ≡ w
      given_back w m ms members held =
          points_one (some_same (ap (λ (q : Pointer). Some (Points q)) (sym (ap pointer_in read ∙ pointer_back v)) ∙ sym (is_held m ms members) ∙ held))
        where
          room : start + length (pointer_words v) ≤ length to.slot.words
          room =
              let all = within.fits in
              let five = five_words v in
              let o = store.fit n to.object to.there in
              let slots = o.slots in
              let w = o.width in
              let one = subst (AllWide to.object.width) to.one slots in
              let long = one.0 in
              omega (arith, all, five, w, long, wide)

          read : words_at behind n 0 start 5 ≡ pointer_words v
          read = ap (words_at behind n 0 start) (sym (five_words v)) ∙ written_back c n start (pointer_words v) to.object to.slot to.there to.one room

          is_held : (j : ℕ) (js : List ℕ) → p.members ≡ j ∷ js → location_cell types f p (put_content behind st) ≡ Some (Points (pointer_in (words_at behind n 0 start 5)))
          is_held j js e =
              ap (λ (x : Option Cell). member_cell types f p.local p.members x behind) named
              ∙ ap (λ (ks : List ℕ). member_cell types f p.local ks (Some (Named n)) behind) e
              ∙ ap (λ (ks : List ℕ). Some (Points (pointer_in (words_at behind n 0 (word_within types (local_type types f p.local) ks) 5)))) (sym e)

      module _ (m : ℕ) (ms : List ℕ) (members : p.members ≡ m ∷ ms) where
        -- what stands at p's place is p
        is_p : (l : Location) (w : Pointer) → is_pointer (type_in types f l) ≡ true → location_cell types f l (put_content behind st) ≡ Some (Points w) → is_location p (located l) ≡ true → p ≡ l
        is_p l w pointer_l held e = sym (exact_location p l (located_short p pointer n named) (sym (exact_place (located l) (located p) e)))

        member_given : LocationsCovered types f (StandsAt inputs) may_change S' (put_content behind st)
        member_given l w pointer_l held = by (is_location p (located l)) refl
          where
            by : (b : Bool) → is_location p (located l) ≡ b → IsCovered types behind Stands may_change S' (located l) (look_in types f l) w
            by true e =
                let here = is_p l w pointer_l held e in
                covers_on (located l) (look_in types f l) w (at_p l w here (given_back w m ms members (subst (λ (q : Location). location_cell types f q (put_content behind st) ≡ Some (Points w)) (sym here) held)))
            by false e =
                let ne : p ≢ l = λ here. false≢true (sym e ∙ subst (λ (q : Location). is_location p (located q) ≡ true) here (place_laws.refl (located p))) in
                covers_on (located l) (look_in types f l) w (others l w pointer_l ne (other_held l w pointer_l ne held))

    pub pointed_over : ((n : ℕ) → p.members ≡ [] → cell st p.local ≡ Some (Named n) → ⊥) → OnRight (pointed types f p v st) (LocationsCovered types f (StandsAt inputs) may_change S')
    pointed_over no_object = go p.members refl (cell st p.local) refl
      where
        go : (ms : List ℕ) → p.members ≡ ms → (x : Option Cell) → cell st p.local ≡ x → OnRight (member_pointed types f p.local ms x v st) (LocationsCovered types f (StandsAt inputs) may_change S')
        go [] none x e = local_given (λ n h. no_object n none h) none
        go (m ∷ ms) members (Some (Named n)) e =
            subst (λ (ks : List ℕ). LocationsCovered types f (StandsAt inputs) may_change S' (put_content (wrote n 0 (word_within types (local_type types f p.local) ks) (pointer_words v) st.world.content) st)) members (member_given n e m ms members)
        go (m ∷ ms) members None e = tt
        go (m ∷ ms) members (Some Empty) e = tt
        go (m ∷ ms) members (Some (Number z)) e = tt
        go (m ∷ ms) members (Some (Points q)) e = tt

-- ---- in a known frame

module _ (types : Types) (f : Function) (rest : ℕ → ℕ) (inputs : Root → Option Region) (S : Fact → Type 0) (st : State) (k : IsKnownFrame types f rest inputs S st) where
  -- the place of a pointer isn't too long
  pub pointer_short : (l : Location) → is_pointer (type_in types f l) ≡ true → (w : Pointer) → location_cell types f l st ≡ Some (Points w) → (located l).length ≤ 8
  pointer_short l pointer w held = held_short types k.ordered k.once f k.shaped k.short rest st k.stands.store (λ x n e. k.stands.frame.objects x n e) (λ x n e. object_named types f rest inputs S st k x n e) inputs k.given.each l pointer w held

  -- no instruction that writes one location writes another
  pub not_located : (p l : Location) (w : Pointer) → is_pointer (type_in types f l) ≡ true → location_cell types f l st ≡ Some (Points w) → p ≢ l → is_location p (located l) ≡ false
  not_located p l w pointer_l held ne =
      other_location types k.ordered k.once f k.shaped k.short rest st k.stands.store (λ x n e. k.stands.frame.objects x n e) (λ x n e. object_named types f rest inputs S st k x n e) inputs k.given.each l p pointer_l w held ne

  -- .. so none that isn't a pointer
  pub pointer_other : (p l : Location) (w : Pointer) → is_pointer (type_in types f l) ≡ true → location_cell types f l st ≡ Some (Points w) → is_pointer (type_in types f p) ≡ false → is_location p (located l) ≡ false
  pointer_other p l w pointer_l held none = not_located p l w pointer_l held (λ same. false≢true (sym none ∙ subst (λ (q : Location). is_pointer (type_in types f q) ≡ true) (sym same) pointer_l))

  module _ (p : Location) (pointer : is_pointer (type_in types f p) ≡ true) where
    -- a local that is a pointer names no object
    pub pointer_nameless : (n : ℕ) → p.members ≡ [] → cell st p.local ≡ Some (Named n) → ⊥
    pointer_nameless n none e = pointer_free types f rest inputs S st k p.local (subst (λ (ms : List ℕ). is_pointer (type_in types f (record { local = p.local; members = ms })) ≡ true) none pointer) n e

    pub pointer_given : (sigs : List Signature) (place : Place) (i : Step) (S' : Fact → Type 0) → Closed sigs types f place i S S' → ((e : Element) → is_gone types f place i e ≡ false) → ((a : AbsPlace) → writes i a ≡ is_location p a) → (v : Pointer)
        → IsCovered types st.world.content (RootStands types f (StandsAt inputs) st.cells) (may_change types f) S' (located p) (look_in types f p) v → OnRight (pointed types f p v st) (FrameCovered types f inputs S')
    pointer_given sigs place i S' closed gone writes_p v covers =
        pointed_over types k.ordered k.once f k.shaped k.short rest st k.stands.store (λ x n e. k.stands.frame.objects x n e) (λ x n e. object_named types f rest inputs S st k x n e) inputs k.given.each (may_change types f) (rooted_of types f rest inputs S st k).fits S' p pointer v covers
        (λ l w pointer_l ne held.
        unkilled_cover types k.ordered (hand_of rest st) st.world.content st.world.content (store_of types f rest inputs S st k) (touches_self (kinds_of types) no_foot st.world.content) (RootStands types f (StandsAt inputs) st.cells) (RootStands types f (StandsAt inputs) st.cells) (may_change types f)
        (rooted_of types f rest inputs S st k).fits sigs f place i S S' closed gone (λ a r names free stands. stands) (located l) (look_in types f l) w (writes_p (located l) ∙ not_located p l w pointer_l held ne) (k.covered l w pointer_l held))
        pointer_nameless
