-- Where an operand that is named lies, and which of a frame's pointers lie in it.
use Rattle.std.proofs.Common.{◌≡◌, ⊎_elim, ℕ, ◌+◌, ◌≤◌, ◌<◌, Bool, true, false, ◌&&◌, List, [], ◌∷◌, ◌++◌, length, Option, Some, None, refl, sym, ap, subst, ◌∙◌, arith}
use Rattle.std.specs.Prelude.{nat_eq, nat_lt}
use Rattle.std.proofs.lemmas.Bool.{false≢true}
use Rattle.std.proofs.lemmas.Bool.Decides.{nat_tests}
use Rattle.life_types.specs.Pointees.{ty_of}
use Rattle.life_types.specs.TypeTests.{is_pointer}
use Rattle.life_types.specs.Types.{Types}
use Rattle.life_types.specs.declared.ty.TyId.{TyId}
use Rattle.life_core.specs.Function.{Function}
use Rattle.life_core.specs.Operands.{Location}
use Rattle.life_core.specs.Operands as named
use Rattle.life_pset.specs.Elements.{local_place}
use Rattle.life_pset.specs.Places.{begins, is_within, path}
use Rattle.life_pset.specs.Shapes.{ty_if}
use Rattle.life_pset.specs.contracts.element.RootPartialEq.TheImpl.{ghosts as compared}
use Rattle.life_pset.specs.declared.element.Fact.{Fact}
use Rattle.life_pset.specs.declared.element.Root.{Root}
use Rattle.life_pset.specs.declared.element.Root.TheVariants as root
use Rattle.life_contract.specs.Located.{located}
use Rattle.life_proper.specs.Placed.{type_in}
use Rattle.life_store.specs.Cells.{at}
use Rattle.life_store.specs.Content.{Object}
use Rattle.life_store.specs.Effects.{cell}
use Rattle.life_store.specs.Parts.{local_type, location_type, parts_at, type_within, width_at, word_within}
use Rattle.life_store.specs.Places.{Astray, Here, found_in, here_if, location_cell, named_by}
use Rattle.life_store.specs.State.{Cell, Empty, Named, Number, Pointer, Points, State}
use Rattle.life_store.proofs.CellLemmas.{some_same}
use Rattle.life_store.proofs.MapLemmas.{one_or_apart}
use Rattle.life_forest.proofs.StandingPointers.{pointer_width}
use Rattle.life_forest.proofs.TypedSteps.{operand_same}
use Rattle.life_cover.specs.Inputs.{StandsAt, may_change}
use Rattle.life_cover.specs.Regions.{Region, foot_of, is_in_region}
use Rattle.life_cover.proofs.ExactLocations.{exact_path}
use Rattle.life_cover.proofs.Inside.{IsWithin, region_within}
use Rattle.life_cover.proofs.KnownFrames.{IsKnownFrame}
use Rattle.life_cover.proofs.Locals.{locals_other, named_free}
use Rattle.life_cover.proofs.LocationsListed.{pointer_memberless}
use Rattle.life_cover.proofs.MemberWords.{IsPointing, SparesAt, is_pointing}
use Rattle.life_cover.proofs.PointedPlaces.{pointer_short}
use Rattle.life_cover.proofs.Reaching.{IsReached}
use Rattle.life_cover.proofs.RelatedPaths.{paths_related}
use Rattle.life_cover.proofs.Unkept.{members_root}
use Rattle.life_cover.proofs.WithinLocations.{type_along}

-- the location at a path in another
abbrev pub inside : Location → List ℕ → Location
inside l ks = record { local = l.local; members = l.members ++ ks }

-- ---- its place is within the other's

same_eq : (n : ℕ) → nat_eq n n ≡ true
same_eq n = grind (arith, nat_tests)

begins_along : (xs ks : List ℕ) → begins xs (xs ++ ks) ≡ true
begins_along [] ks = refl
begins_along (x ∷ xs) ks = ap (λ b. b && begins xs (xs ++ ks)) (same_eq x) ∙ begins_along xs ks

pub inside_within : (l : Location) (ks : List ℕ) → (located l).length ≤ 8 → (located (inside l ks)).length ≤ 8 → is_within (located l) (located (inside l ks)) ≡ true
inside_within l ks short short_in =
    ap (λ (r : Root). compared.eq r (located (inside l ks)).root && begins (path (located l)) (path (located (inside l ks)))) (members_root l.members (local_place l.local))
    ∙ ap (λ (r : Root). compared.eq (root.Local l.local) r && begins (path (located l)) (path (located (inside l ks)))) (members_root (l.members ++ ks) (local_place l.local))
    ∙ ap (λ b. b && begins (path (located l)) (path (located (inside l ks)))) (same_eq l.local)
    ∙ ap (λ (xs : List ℕ). begins xs (path (located (inside l ks)))) (exact_path l.members (local_place l.local) refl short)
    ∙ ap (begins l.members) (exact_path (l.members ++ ks) (local_place l.local) refl short_in)
    ∙ begins_along l.members ks

-- ---- where it lies

found_here : (n m i : ℕ) (x : Option Object) (o : Object) → found_in x n 0 ≡ Here m i o → (n ≡ m) × (i ≡ 0)
found_here n m i None o e = absurd (unlike e)
  where
    unlike : Astray ≡ Here m i o → ⊥
    unlike h = cc
found_here n m i (Some q) o e = go (nat_lt 0 (length q.slots)) e
  where
    go : (b : Bool) → here_if b n 0 q ≡ Here m i o → (n ≡ m) × (i ≡ 0)
    go true h = (first h, second h)
      where
        first : Here n 0 q ≡ Here m i o → n ≡ m
        first k = cc

        second : Here n 0 q ≡ Here m i o → i ≡ 0
        second k = cc
    go false h = absurd (unlike h)
      where
        unlike : Astray ≡ Here m i o → ⊥
        unlike k = cc

module _ (types : Types) (f : Function) (rest : ℕ → ℕ) (inputs : Root → Option Region) (S : Fact → Type 0) (st : State) (k : IsKnownFrame types f rest inputs S st) (a : Location) (r : IsReached types f st (StandsAt inputs) (may_change types f) S (named.Name a)) where
  -- in the first slot of its local's object, from its word on
  pub record IsNamed : Type 0 where
    pub names : cell st a.local ≡ Some (Named r.region.object)
    pub first : r.index ≡ 0
    pub word : word_within types (local_type types f a.local) a.members ≡ r.region.word

  pub is_named_there : IsNamed
  is_named_there = go (cell st a.local) refl (r.found)
    where
      unlike : Astray ≡ Here r.region.object r.index r.holder → ⊥
      unlike h = cc

      go : (x : Option Cell) → cell st a.local ≡ x → named_by st.world.content x ≡ Here r.region.object r.index r.holder → IsNamed
      go None e h = absurd (unlike h)
      go (Some Empty) e h = absurd (unlike h)
      go (Some (Number z)) e h = absurd (unlike h)
      go (Some (Points p)) e h = absurd (unlike h)
      go (Some (Named n)) e h =
          let both = found_here n r.region.object r.index (at st.world.content.objects n) r.holder h in
          record { names = e ∙ ap (λ m. Some (Named m)) both.0; first = both.1; word = r.word }

  -- ---- a pointer outside of it is spared

  module _ (whole : TyId) (typed : location_type types f a ≡ Some whole) (solid : is_pointer (ty_of types whole) ≡ false) (wide : width_at types r.region.ty ≡ width_at types whole) (short : (located a).length ≤ 8)
      (l : Location) (v : Pointer) (pointer : is_pointer (type_in types f l) ≡ true) (held : location_cell types f l st ≡ Some (Points v)) (outside : is_within (located a) (located l) ≡ false) where
    is : IsPointing types k.ordered k.once f k.shaped l
    is = is_pointing types k.ordered k.once f k.shaped l pointer

    apart_words : (n j : ℕ) → cell st l.local ≡ Some (Named n) → j < 5 → is_in_region types r.region n (word_within types (local_type types f l.local) l.members + j) ≡ true → ⊥
    apart_words n j names lt e = one_or_apart a.local l.local same (λ ne. locals_other types f rest st k.stands.store k.stands.frame a.local l.local n ne (there.names ∙ ap (λ m. Some (Named m)) (sym inside_is.object)) names)
      where
        there : IsNamed
        there = is_named_there

        inside_is : IsWithin types r.region n (word_within types (local_type types f l.local) l.members + j)
        inside_is = region_within types r.region n (word_within types (local_type types f l.local) l.members + j) e

        same : a.local ≡ l.local → ⊥
        same here =
            let variable = k.stands.frame.objects l.local n names in
            let id = variable.object.ty in
            let local : local_type types f l.local ≡ Some id = variable.type in
            let to_a : type_within types (Some id) a.members ≡ Some whole = ap (λ (o : Option TyId). type_within types o a.members) (sym local ∙ sym (ap (local_type types f) here)) ∙ typed in
            let to_l : type_within types (Some id) l.members ≡ Some is.part = ap (λ (o : Option TyId). type_within types o l.members) (sym local) ∙ is.typed in
            let word_a : word_within types (Some id) a.members ≡ r.region.word = ap (λ (o : Option TyId). word_within types o a.members) (sym local ∙ sym (ap (local_type types f) here)) ∙ there.word in
            let word_l : word_within types (Some id) l.members ≡ word_within types (local_type types f l.local) l.members = ap (λ (o : Option TyId). word_within types o l.members) (sym local) in
            let five : width_at types is.part ≡ 5 = pointer_width (parts_at types is.part) is.points in
            let first = inside_is.first in
            let last = inside_is.last in
            ⊎_elim
            (λ on. within_clash on.0 on.1)
            (λ other. ⊎_elim
            (λ on. around_clash id on.0 on.1 to_a to_l)
            (λ beside. ⊎_elim (λ le. omega (arith, le, word_a, word_l, wide, last, first)) (λ le. omega (arith, le, word_a, word_l, five, lt, first)) beside)
            other)
            (paths_related types k.ordered a.members l.members id whole is.part to_a to_l)
          where
            -- a location that goes on from it is within it
            within_clash : (ks : List ℕ) → l.members ≡ a.members ++ ks → ⊥
            within_clash ks on =
                let is_l : inside a ks ≡ l = ap (λ x. record { local = x; members = a.members ++ ks }) here ∙ ap (λ (ms : List ℕ). record { local = l.local; members = ms }) (sym on) in
                false≢true (sym outside ∙ subst (λ (q : Location). is_within (located a) (located q) ≡ true) is_l
                (inside_within a ks short (subst (λ (q : Location). (located q).length ≤ 8) (sym is_l) (pointer_short types f rest inputs S st k l pointer v held))))

            -- nor is it one in a pointer
            around_clash : (id : TyId) (ks : List ℕ) → a.members ≡ l.members ++ ks → type_within types (Some id) a.members ≡ Some whole → type_within types (Some id) l.members ≡ Some is.part → ⊥
            around_clash id ks on to_a to_l = go ks along
              where
                along : type_within types (Some is.part) ks ≡ Some whole
                along = ap (λ (o : Option TyId). type_within types o ks) (sym to_l) ∙ sym (type_along types l.members ks (Some id)) ∙ sym (ap (type_within types (Some id)) on) ∙ to_a

                points : is_pointer (ty_of types is.part) ≡ true
                points = ap (λ (o : Option TyId). is_pointer (ty_if types o)) (sym is.typed ∙ sym (operand_same types k.ordered k.once 0 [] f k.shaped (named.Name l))) ∙ pointer

                go : (ns : List ℕ) → type_within types (Some is.part) ns ≡ Some whole → ⊥
                go [] e = false≢true (sym solid ∙ ap (λ (i : TyId). is_pointer (ty_of types i)) (sym (some_same e)) ∙ points)
                go (m ∷ ns) e = false≢true (sym (pointer_memberless types k.ordered is.part m ns whole e) ∙ points)

    pub spares_outside : SparesAt types f st (foot_of types r.region) l
    spares_outside = record {
      apart = λ n names low. named_free types f rest st k.stands.store k.stands.frame l.local n r.region names low;
      words = λ n j names lt. not_true (is_in_region types r.region n (word_within types (local_type types f l.local) l.members + j)) (λ e. apart_words n j names lt e);
    }
      where
        not_true : (b : Bool) → (b ≡ true → ⊥) → b ≡ false
        not_true true h = absurd (h refl)
        not_true false h = refl
