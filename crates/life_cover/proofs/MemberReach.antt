-- What an operand is with its members is what it is without them, further on in its words.
use Rattle.std.proofs.Common.{◌≡◌, inl, inr, ℕ, ◌+◌, ◌<◌, Bool, true, false, List, [], ◌∷◌, length, Option, Some, None, refl, sym, ap, subst, ◌∙◌, arith}
use Rattle.std.specs.Prelude.{Contains, if◌then◌else◌, nat_lt, slice_get, sum_by, take}
use Rattle.std.proofs.lemmas.Bool.{false≢true}
use Rattle.std.proofs.lemmas.Bool.Decides.{nat_tests}
use Rattle.life_types.specs.Trees.{IsOrdered, tree_at}
use Rattle.life_types.specs.Trees as trees
use Rattle.life_types.specs.TypeTests.{is_void}
use Rattle.life_types.specs.Types.{Types}
use Rattle.life_types.specs.declared.ty.Ty.{Ty}
use Rattle.life_types.specs.declared.ty.Ty.TheVariants as ty
use Rattle.life_types.specs.declared.ty.TyId.{TyId}
use Rattle.life_core.specs.Function.{Function}
use Rattle.life_core.specs.Operands.{Location, Operand, whole}
use Rattle.life_core.specs.Operands as named
use Rattle.life_pset.specs.Elements.{AreShort, elements_of}
use Rattle.life_pset.specs.Places.{member_place, members_place, owned_step, stepped, too_long}
use Rattle.life_pset.specs.Shapes.{ty_if}
use Rattle.life_pset.specs.declared.element.AbsPlace.{AbsPlace}
use Rattle.life_pset.specs.declared.element.Element.TheVariants as element
use Rattle.life_pset.specs.declared.element.Fact.{Fact}
use Rattle.life_pset.specs.declared.element.Root.{Root}
use Rattle.life_proper.specs.Placed.{is_const_place, object_at}
use Rattle.life_store.specs.Parts.{Parts, Single, local_type, location_type, members_if, members_of, operand_type, parts_at, parts_if, parts_of, parts_within, struct_of, target_type, type_within, width_at, word_within}
use Rattle.life_store.specs.Places.{locate, location_cell, operand_word, pointer_word}
use Rattle.life_store.specs.State.{Named, State}
use Rattle.life_store.proofs.CellLemmas.{none_some}
use Rattle.life_forest.proofs.Shaped.{IsShaped}
use Rattle.life_cover.specs.Covers.{IsSeenAs}
use Rattle.life_cover.specs.Frames.{RootStands}
use Rattle.life_cover.specs.Inputs.{IsInput, StandsAt, may_change}
use Rattle.life_cover.specs.Regions.{IsAt, Region}
use Rattle.life_cover.proofs.Listing.{member_among, place_itself}
use Rattle.life_cover.proofs.Making.{IsItsPath, inside_known, known_at, place_short, room_at, stepped_its_path}
use Rattle.life_cover.proofs.Reaching.{IsBy, IsReached, Reach, astray, fixed, outside, reached}
use Rattle.life_cover.proofs.Stepping.{AllSmall, HasRoom, goes_at, members_at, stepped_is}
use Rattle.life_cover.proofs.Unkept.{members_root}

-- ---- what is single has no members

module _ (types : Types) where
  no_struct : (part : TyId → Parts) (ids : List TyId) → struct_of part ids ≡ Single → ⊥
  no_struct part [] e = cc
  no_struct part (id ∷ ids) e = cc

  single_memberless : (t : TyId) (m : ℕ) → parts_at types t ≡ Single → slice_get (members_of types t) m ≡ None
  single_memberless t m single = go (slice_get types.types t.0) single
    where
      go : (o : Option Ty) → parts_of types (parts_within t.0 types) o ≡ Single → slice_get (members_if types o) m ≡ None
      go None e = refl
      go (Some (ty.Struct number)) e = absurd (no_struct (parts_within t.0 types) (trees.members_at types number) e)
      go (Some _) e = refl

  none_within : (ms : List ℕ) → type_within types None ms ≡ None
  none_within [] = refl
  none_within (m ∷ ms) = refl

  single_within : (id : Option TyId) (m : ℕ) (ms : List ℕ) → parts_if types id ≡ Single → type_within types id (m ∷ ms) ≡ None
  single_within None m ms e = refl
  single_within (Some t) m ms e = ap (λ x. type_within types x ms) (single_memberless t m e) ∙ none_within ms

  -- what has a type has a number
  typed_item : (o : Option TyId) → is_void (ty_if types o) ≡ false → (item : TyId) × (o ≡ Some item)
  typed_item None solid = absurd (false≢true (sym solid))
  typed_item (Some item) solid = (item, refl)

  pub not_single : (id : Option TyId) (m : ℕ) (ms : List ℕ) (item : TyId) → type_within types id (m ∷ ms) ≡ Some item → parts_if types id ≡ Single → ⊥
  not_single id m ms item typed single = none_some (sym (single_within id m ms single) ∙ typed)

  -- so what has members isn't seen as a character
  seen_whole : (id : Option TyId) (t : TyId) (m : ℕ) (ms : List ℕ) (item : TyId) → IsSeenAs types id t → type_within types id (m ∷ ms) ≡ Some item → id ≡ Some t
  seen_whole None t m ms item seen typed = absurd seen
  seen_whole (Some u) t m ms item (inl e) typed = ap Some e
  seen_whole (Some u) t m ms item (inr s) typed = absurd (not_single (Some u) m ms item typed s.0)

module _ (types : Types) (ordered : IsOrdered types) (f : Function) (shaped : IsShaped types f) (short : AreShort (elements_of types f)) (st : State)
    (objects : (x n : ℕ) → slice_get st.cells x ≡ Some (Named n) → object_at types f x ≡ true) (inputs : Root → Option Region) (each : (r : Root) (a : Region) → StandsAt inputs r a → IsInput types f r a) where
  abbrev Stands : Root → Region → Type 0
  Stands = RootStands types f (StandsAt inputs) st.cells

  -- ---- places

  -- there is room for the steps, none is the one to what is owned, and they lead to a place of the table
  pub record IsReady (ms : List ℕ) (a : AbsPlace) : Type 0 where
    pub small : AllSmall ms
    pub room : HasRoom (length ms) a
    pub path : IsItsPath (members_place a ms)

  pub ready : (ms : List ℕ) (a : AbsPlace) (r : Region) (item : TyId) → IsItsPath a → IsAt types st.world.content Stands a r → type_within types (Some r.ty) ms ≡ Some item → IsReady ms a
  ready [] a r item is at_r typed =
      let le = place_short types ordered f shaped short st.world.content st.cells objects inputs each a (known_at types ordered f shaped short st.world.content st.cells objects inputs each a r is at_r) in
      record { small = tt; room = record { steps = is.eight; fits = omega (arith, le) }; path = is }
  ready (m ∷ ms) a r item is at_r typed = go (λ b q of at_q typed_q. ready ms b q item of at_q typed_q) (slice_get (members_of types r.ty) m) refl typed
    where
      lt_of : (i n : ℕ) → nat_lt i n ≡ true → i < n
      lt_of i n h = grind (arith, nat_tests)

      go : ((b : AbsPlace) (q : Region) → IsItsPath b → IsAt types st.world.content Stands b q → type_within types (Some q.ty) ms ≡ Some item → IsReady ms b)
          → (x : Option TyId) → slice_get (members_of types r.ty) m ≡ x → type_within types x ms ≡ Some item → IsReady (m ∷ ms) a
      go again None e h = absurd (none_some (sym (none_within types ms) ∙ h))
      go again (Some x) e h = by_test (nat_lt m owned_step) refl
        where
          known : Contains (elements_of types f) (element.At (member_place a m))
          known =
              inside_known types ordered f shaped short st.world.content st.cells objects inputs each a r (member_place a m) is at_r
              (member_among types ordered a r.ty m x e (member_place a m) (place_itself (member_place a m) (tree_at types x)))

          by_test : (b : Bool) → nat_lt m owned_step ≡ b → IsReady (m ∷ ms) a
          by_test false lt =
              let le = place_short types ordered f shaped short st.world.content st.cells objects inputs each (too_long a)
              (subst (λ (b : AbsPlace). Contains (elements_of types f) (element.At b)) (ap (λ b. if b then stepped a m else too_long a) lt) known) in
              absurd (omega (arith, le))
          by_test true lt = record { small = (lt_of m owned_step lt, rest.small); room = record { steps = is.eight; fits = let fits = rest.room.fits in let one = length_is in omega (arith, fits, one) }; path = subst (λ (b : AbsPlace). IsItsPath (members_place b ms)) (sym is_stepped) rest.path }
            where
              is_stepped : member_place a m ≡ stepped a m
              is_stepped = ap (λ b. if b then stepped a m else too_long a) lt

              there : Contains (elements_of types f) (element.At (stepped a m))
              there = subst (λ (b : AbsPlace). Contains (elements_of types f) (element.At b)) is_stepped known

              room : HasRoom 1 a
              room = room_at types ordered f shaped short st.world.content st.cells objects inputs each a m is there

              length_is : (stepped a m).length ≡ a.length + 1
              length_is = ap (λ (b : AbsPlace). b.length) (stepped_is 0 a m room)

              next : Region
              next = record { object = r.object; word = r.word + sum_by (width_at types) (take m (members_of types r.ty)); ty = x }

              rest : IsReady ms (stepped a m)
              rest =
                  again (stepped a m) next (stepped_its_path a m is (place_short types ordered f shaped short st.world.content st.cells objects inputs each (stepped a m) there))
                  (goes_at types st.world.content Stands 0 a m r next room at_r (inl (record { small = lt_of m owned_step lt; type = e; object = refl; word = refl }))) h

  -- ---- operands

  module _ (S : Fact → Type 0) where
    abbrev IsThere : Operand → Type 0
    IsThere o = IsReached types f st (StandsAt inputs) (may_change types f) S o

    abbrev Comes : Operand → Type 0
    Comes o = Reach types f st (StandsAt inputs) (may_change types f) S o

    -- one operand goes on from another
    record GoesOn (o p : Operand) (ms : List ℕ) (r : IsThere o) : Type 0 where
      pub by : IsBy types f st (StandsAt inputs) (may_change types f) S p (members_place r.place ms)
      pub found : locate types f p st ≡ locate types f o st
      pub word : operand_word types f p st ≡ operand_word types f o st + word_within types (Some r.region.ty) ms
      pub item : TyId
      pub within : type_within types (Some r.region.ty) ms ≡ Some item
      pub type : operand_type types f p ≡ Some item
      pub constant : is_const_place types f p ≡ is_const_place types f o

    further : (o p : Operand) (ms : List ℕ) (r : IsThere o) → GoesOn o p ms r → IsThere p
    further o p ms r on = let h = ready ms r.place r.region on.item r.path r.lies on.within in record {
      region = record { object = r.region.object; word = r.region.word + word_within types (Some r.region.ty) ms; ty = on.item };
      index = r.index;
      holder = r.holder;
      there = r.there;
      small = r.small;
      place = members_place r.place ms;
      lies = members_at types st.world.content Stands ms r.place r.region on.item h.room h.small on.within r.lies;
      by = on.by;
      path = h.path;
      change = λ e. subst (λ (root : Root). may_change types f root ≡ true) (sym (members_root ms r.place)) (r.change (sym on.constant ∙ e));
      seen = subst (λ (t : Option TyId). IsSeenAs types t on.item) (sym on.type) (inl refl);
      found = on.found ∙ r.found;
      word = on.word ∙ ap (λ w. w + word_within types (Some r.region.ty) ms) r.word;
    }

    -- a local
    pub named_further : (l : Location) → is_void (ty_if types (operand_type types f (named.Name l))) ≡ false → Comes (named.Name (whole l.local)) → Comes (named.Name l)
    named_further l solid come = go l.members refl
      where
        go : (ms : List ℕ) → l.members ≡ ms → Comes (named.Name l)
        go [] e = subst (λ (q : Location). Comes (named.Name q)) (ap (λ (ns : List ℕ). record { local = l.local; members = ns }) (sym e)) come
        go (m ∷ ms) e = by come
          where
            item : (t : TyId) × (type_within types (local_type types f l.local) l.members ≡ Some t)
            item = typed_item types (operand_type types f (named.Name l)) solid

            typed : type_within types (local_type types f l.local) (m ∷ ms) ≡ Some item.0
            typed = ap (type_within types (local_type types f l.local)) (sym e) ∙ item.1

            begun : (w : ℕ) → w ≡ 0 + w
            begun w = omega arith

            by : Comes (named.Name (whole l.local)) → Comes (named.Name l)
            by (reached r) =
                let is = seen_whole types (local_type types f l.local) r.region.ty m ms item.0 r.seen typed in
                reached (further (named.Name (whole l.local)) (named.Name l) l.members r (record {
                  by = ap (λ (a : AbsPlace). members_place a l.members) r.by;
                  found = refl;
                  word = ap (λ (t : Option TyId). word_within types t l.members) is ∙ begun (word_within types (Some r.region.ty) l.members);
                  item = item.0;
                  within = ap (λ (t : Option TyId). type_within types t l.members) (sym is) ∙ item.1;
                  type = item.1;
                  constant = refl;
                }))
            by (fixed k at_k single) = absurd (not_single types (local_type types f l.local) m ms item.0 typed single)
            by (outside h) = outside h
            by (astray h) = astray h

    -- what is behind a pointer
    pub through_further : (p : Location) (ms : List ℕ) → is_void (ty_if types (operand_type types f (named.Through p ms))) ≡ false → Comes (named.Through p []) → Comes (named.Through p ms)
    through_further p [] solid come = come
    through_further p (m ∷ ms) solid come = by come
      where
        target : Option TyId
        target = target_type types (location_type types f p)

        item : (t : TyId) × (type_within types target (m ∷ ms) ≡ Some t)
        item = typed_item types (operand_type types f (named.Through p (m ∷ ms))) solid

        onward : (w v : ℕ) → w + v ≡ (w + 0) + v
        onward w v = omega arith

        by : Comes (named.Through p []) → Comes (named.Through p (m ∷ ms))
        by (reached r) =
            let is = seen_whole types target r.region.ty m ms item.0 r.seen item.1 in
            reached (further (named.Through p []) (named.Through p (m ∷ ms)) (m ∷ ms) r (record {
              by = (r.by.0, r.by.1, ap (λ (a : AbsPlace). members_place a (m ∷ ms)) r.by.2);
              found = refl;
              word = ap (λ (t : Option TyId). pointer_word (location_cell types f p st) + word_within types t (m ∷ ms)) is ∙ onward (pointer_word (location_cell types f p st)) (word_within types (Some r.region.ty) (m ∷ ms));
              item = item.0;
              within = ap (λ (t : Option TyId). type_within types t (m ∷ ms)) (sym is) ∙ item.1;
              type = item.1;
              constant = refl;
            }))
        by (fixed k at_k single) = absurd (not_single types target m ms item.0 item.1 single)
        by (outside h) = outside h
        by (astray h) = astray h
