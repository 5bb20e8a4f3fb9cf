-- The unique_ptrs of a frame, its locals and members of them, have what they had where an instruction touches other things: values, or owners of
-- other types, as no pointer points to what holds a unique_ptr, or another one of them.
use Rattle.std.proofs.Common.{◌≡◌, ◌≢◌, ◌⊎◌, inl, inr, ℕ, ◌<◌, Bool, true, false, List, [], ◌∷◌, Option, Some, refl, sym, ap, ◌∙◌, arith}
use Rattle.std.specs.Prelude.{◌||◌, slice_get}
use Rattle.std.proofs.lemmas.Bool.{false≢true}
use Rattle.life_types.specs.TypeTests.{is_unique}
use Rattle.life_types.specs.Types.{Types}
use Rattle.life_types.specs.declared.ty.Ty.{Ty}
use Rattle.life_types.specs.declared.ty.TyId.{TyId}
use Rattle.life_core.specs.Function.{Function}
use Rattle.life_core.specs.Operands.{Location}
use Rattle.life_pset.specs.declared.element.Fact.{Fact}
use Rattle.life_pset.specs.declared.element.Root.{Root}
use Rattle.life_pset.proofs.Numbers.{place_laws}
use Rattle.life_contract.specs.Located.{is_location, located}
use Rattle.life_proper.specs.Placed.{type_in}
use Rattle.life_store.specs.Cells.{at}
use Rattle.life_store.specs.Content.{Content}
use Rattle.life_store.specs.Effects.{cell}
use Rattle.life_store.specs.Kinds.{is_value, kind_in}
use Rattle.life_store.specs.Parts.{local_type, members_if, members_of, parts_at, type_within, width_at, word_within}
use Rattle.life_store.specs.State.{Named, State}
use Rattle.life_store.proofs.MapLemmas.{one_or_apart}
use Rattle.life_forest.specs.Forest.{Beneath, Foot, Touches, part, under, whole}
use Rattle.life_forest.specs.Kinds.{kinds_of}
use Rattle.life_forest.specs.Owned.{times}
use Rattle.life_forest.proofs.Below.{positive_is}
use Rattle.life_forest.proofs.Counting.{one_there}
use Rattle.life_forest.proofs.Feet.{and_all}
use Rattle.life_forest.proofs.PathsApart.{words_apart}
use Rattle.life_forest.proofs.Steps.{own_all}
use Rattle.life_forest.proofs.WrittenPointers.{gap}
use Rattle.life_cover.specs.Buffered.{is_buffer_at}
use Rattle.life_cover.specs.Regions.{HasPart, IsPart, Region, foot_of, is_in_region}
use Rattle.life_cover.specs.Uniques.{had_at, word_in}
use Rattle.life_cover.proofs.BufferWords.{part_words}
use Rattle.life_cover.proofs.Inside.{IsWithin, region_within}
use Rattle.life_cover.proofs.KnownFrames.{IsKnownFrame, store_of}
use Rattle.life_cover.proofs.Locals.{locals_other, named_unowned}
use Rattle.life_cover.proofs.Moved.{both_feet}
use Rattle.life_cover.proofs.ObjectParts.{part_within}
use Rattle.life_cover.proofs.OtherTypes.{IsOther}
use Rattle.life_cover.proofs.OwnersStay.{owner_kept}
use Rattle.life_cover.proofs.UniqueLocations.{IsUniqueAt, unique_at}
use Rattle.life_cover.proofs.Unkilled.{no_foot}

pub not_true : (b : Bool) → (b ≡ true → ⊥) → b ≡ false
not_true true h = absurd (h refl)
not_true false h = refl

both_false : (a b : Bool) → a ≡ false → b ≡ false → (a || b) ≡ false
both_false true b e h = e
both_false false b e h = h

module _ (types : Types) (f : Function) (rest : ℕ → ℕ) (inputs : Root → Option Region) (S : Fact → Type 0) (st : State) (k : IsKnownFrame types f rest inputs S st) where
  -- what it has behind it is what it had
  abbrev pub HasStill : Content → Location → ℕ → Type 0
  HasStill d l n = had_at d n (word_in types f l) ≡ had_at st.world.content n (word_in types f l)

  -- ---- one of them

  module _ (l : Location) (n : ℕ) (named : slice_get st.cells l.local ≡ Some (Named n)) (unique : is_unique (type_in types f l) ≡ true) where
    abbrev u : IsUniqueAt types f rest inputs S st k l n
    u = unique_at types f rest inputs S st k l n named unique

    named_apart : (t : Foot) → (t.whole n ≡ true → ⊥) → Beneath (kinds_of types) st.world.content t n → ⊥
    named_apart t other (whole _ e) = other e
    named_apart t other (part m _ own) = named_unowned types f rest st k.stands.store k.stands.frame l.local n m named (own_all (kinds_of types) st.world.content (t.part m) m n own)
    named_apart t other (under m _ low own) = named_unowned types f rest st k.stands.store k.stands.frame l.local n m named own

    -- it has what it had, where neither its object nor its word is touched
    pub had_on : (t : Foot) (d : Content) → Touches (kinds_of types) t st.world.content d → (t.whole n ≡ true → ⊥) → t.part n (word_in types f l) ≡ false → HasStill d l n
    had_on t d touch other free =
        owner_kept (kinds_of types) t st.world.content d n 0 (word_in types f l) u.variable.object touch ((store_of types f rest inputs S st k).forest.births n u.variable.object u.variable.there) (named_apart t other) u.variable.there (ap is_value u.owner) free

    -- its word isn't in a region of another type
    pub not_in : (a : Region) → IsPart types st.world.content a → IsOther types a.ty → is_in_region types a n (word_in types f l) ≡ false
    not_in a lies other =
        not_true (is_in_region types a n (word_in types f l))
        (λ e.
        let inside = region_within types a n (word_in types f l) e in
        let first = inside.first in
        let last = inside.last in
        let g = gap a.word (word_in types f l) first in
        let is = g.1 in
        let lt : g.0 < width_at types a.ty = omega (arith, is, last) in
        let has : HasPart types u.variable.object.ty a.word a.ty = lies u.variable.object (ap (at st.world.content.objects) (sym inside.object) ∙ u.variable.there) in
        let owner = sym ((part_within types k.ordered u.variable.object.ty a.word a.ty has).words g.0 lt) ∙ ap (kind_in (parts_at types u.variable.object.ty)) (sym is) ∙ u.owner in
        false≢true (sym u.bufferless ∙ ap (is_buffer_at (parts_at types u.variable.object.ty)) is ∙ part_words types k.ordered u.variable.object.ty a.word a.ty has g.0 lt ∙ other g.0 owner))

    -- nor in that of another local
    pub not_of_local : (y m : ℕ) → slice_get st.cells y ≡ Some (Named m) → l.local ≢ y → (w : ℕ) (id : TyId) → is_in_region types (record { object = m; word = w; ty = id }) n (word_in types f l) ≡ false
    not_of_local y m named_y ne w id =
        not_true (is_in_region types (record { object = m; word = w; ty = id }) n (word_in types f l))
        (λ e. locals_other types f rest st k.stands.store k.stands.frame l.local y n ne named (named_y ∙ ap (λ j. Some (Named j)) (sym (region_within types (record { object = m; word = w; ty = id }) n (word_in types f l) e).object)))

  -- ---- two of them

  module _ (p : Location) (m : ℕ) (named_p : slice_get st.cells p.local ≡ Some (Named m)) (unique_p : is_unique (type_in types f p) ≡ true) (id : TyId) (one : width_at types id ≡ 1) where
    -- a unique_ptr has no members
    leaf : (q : Location) (n : ℕ) (v : IsUniqueAt types f rest inputs S st k q n) → members_of types v.number ≡ []
    leaf q n v = ap (λ (o : Option Ty). members_if types o) v.there

    -- where its word is alone, another one isn't
    pub not_of_unique : (l : Location) (n : ℕ) → slice_get st.cells l.local ≡ Some (Named n) → is_unique (type_in types f l) ≡ true → is_location p (located l) ≡ false → is_in_region types (record { object = m; word = word_in types f p; ty = id }) n (word_in types f l) ≡ false
    not_of_unique l n named unique other =
        one_or_apart l.local p.local (λ same. not_true (is_in_region types (record { object = m; word = word_in types f p; ty = id }) n (word_in types f l)) (λ e. clash same (region_within types (record { object = m; word = word_in types f p; ty = id }) n (word_in types f l) e)))
        (λ ne. not_of_local l n named unique p.local m named_p ne (word_in types f p) id)
      where
        u : IsUniqueAt types f rest inputs S st k l n
        u = unique_at types f rest inputs S st k l n named unique

        v : IsUniqueAt types f rest inputs S st k p m
        v = unique_at types f rest inputs S st k p m named_p unique_p

        clash : l.local ≡ p.local → IsWithin types (record { object = m; word = word_in types f p; ty = id }) n (word_in types f l) → ⊥
        clash same inside = words_apart types k.ordered p.members l.members u.variable.object.ty v.number u.number at_p at_l (leaf p m v) (leaf l n u) (let e = v.one in omega (arith, e)) (let e = u.one in omega (arith, e)) apart words
          where
            at_l : type_within types (Some u.variable.object.ty) l.members ≡ Some u.number
            at_l = ap (λ (i : Option TyId). type_within types i l.members) (sym u.variable.type) ∙ u.typed

            typed_p : local_type types f p.local ≡ Some u.variable.object.ty
            typed_p = ap (local_type types f) (sym same) ∙ u.variable.type

            at_p : type_within types (Some u.variable.object.ty) p.members ≡ Some v.number
            at_p = ap (λ (i : Option TyId). type_within types i p.members) (sym typed_p) ∙ v.typed

            words : word_within types (Some u.variable.object.ty) p.members ≡ word_within types (Some u.variable.object.ty) l.members
            words =
                let first = inside.first in
                let last = inside.last in
                let is : word_in types f p ≡ word_in types f l = omega (arith, first, last, one) in
                ap (λ (i : Option TyId). word_within types i p.members) (sym typed_p) ∙ is ∙ ap (λ (i : Option TyId). word_within types i l.members) u.variable.type

            apart : p.members ≡ l.members → ⊥
            apart members =
                false≢true
                (sym other
                ∙ ap (λ (q : Location). is_location p (located q)) (ap (λ x. record { local = x; members = l.members }) same ∙ ap (λ (ms : List ℕ). record { local = p.local; members = ms }) (sym members))
                ∙ place_laws.refl (located p))

    -- so it is this one, or has what it had
    pub had_or : (l : Location) (n : ℕ) → slice_get st.cells l.local ≡ Some (Named n) → is_unique (type_in types f l) ≡ true → (t : Foot) (d : Content) → Touches (kinds_of types) t st.world.content d → (t.whole n ≡ true → ⊥)
        → (is_in_region types (record { object = m; word = word_in types f p; ty = id }) n (word_in types f l) ≡ false → t.part n (word_in types f l) ≡ false) → (is_location p (located l) ≡ true) ⊎ HasStill d l n
    had_or l n named unique t d touch other free = go (is_location p (located l)) refl
      where
        go : (b : Bool) → is_location p (located l) ≡ b → (is_location p (located l) ≡ true) ⊎ HasStill d l n
        go true e = inl e
        go false e = inr (had_on l n named unique t d touch other (free (not_of_unique l n named unique e)))

    -- where its word is touched alone
    pub had_but_one : (d : Content) → Touches (kinds_of types) (foot_of types (record { object = m; word = word_in types f p; ty = id })) st.world.content d
        → (l : Location) (n : ℕ) → slice_get st.cells l.local ≡ Some (Named n) → is_unique (type_in types f l) ≡ true → (is_location p (located l) ≡ true) ⊎ HasStill d l n
    had_but_one d touch l n named unique = had_or l n named unique (foot_of types (record { object = m; word = word_in types f p; ty = id })) d touch (λ e. false≢true e) (λ free. free)

    -- .. and all that another local names
    pub had_but_given : (z j : ℕ) → cell st z ≡ Some (Named j) → (d : Content) → Touches (kinds_of types) (and_all (foot_of types (record { object = m; word = word_in types f p; ty = id })) (j ∷ [])) st.world.content d
        → (l : Location) (n : ℕ) → z ≢ l.local → slice_get st.cells l.local ≡ Some (Named n) → is_unique (type_in types f l) ≡ true → (is_location p (located l) ≡ true) ⊎ HasStill d l n
    had_but_given z j named_z d touch l n other named unique =
        had_or l n named unique (and_all (foot_of types (record { object = m; word = word_in types f p; ty = id })) (j ∷ [])) d touch
        (λ e. locals_other types f rest st k.stands.store k.stands.frame z l.local n other (named_z ∙ ap (λ i. Some (Named i)) (one_there j n (let q = positive_is (times (j ∷ []) n) e in omega (arith, q)))) named) (λ free. free)

  -- where the words of two of them are touched
  pub had_but_two : (p : Location) (m : ℕ) → slice_get st.cells p.local ≡ Some (Named m) → is_unique (type_in types f p) ≡ true → (q : Location) (j : ℕ) → slice_get st.cells q.local ≡ Some (Named j) → is_unique (type_in types f q) ≡ true → (id : TyId) → width_at types id ≡ 1
      → (d : Content) → Touches (kinds_of types) (both_feet types (record { object = m; word = word_in types f p; ty = id }) (record { object = j; word = word_in types f q; ty = id })) st.world.content d
      → (l : Location) (n : ℕ) → slice_get st.cells l.local ≡ Some (Named n) → is_unique (type_in types f l) ≡ true → ((is_location p (located l) ≡ true) ⊎ (is_location q (located l) ≡ true)) ⊎ HasStill d l n
  had_but_two p m named_p unique_p q j named_q unique_q id one d touch l n named unique = go (is_location p (located l)) refl (is_location q (located l)) refl
    where
      go : (a : Bool) → is_location p (located l) ≡ a → (b : Bool) → is_location q (located l) ≡ b → ((is_location p (located l) ≡ true) ⊎ (is_location q (located l) ≡ true)) ⊎ HasStill d l n
      go true e b h = inl (inl e)
      go false e true h = inl (inr h)
      go false e false h =
          inr (had_on l n named unique (both_feet types (record { object = m; word = word_in types f p; ty = id }) (record { object = j; word = word_in types f q; ty = id })) d touch (λ wrong. false≢true wrong)
          (both_false (is_in_region types (record { object = m; word = word_in types f p; ty = id }) n (word_in types f l)) (is_in_region types (record { object = j; word = word_in types f q; ty = id }) n (word_in types f l))
          (not_of_unique p m named_p unique_p id one l n named unique e) (not_of_unique q j named_q unique_q id one l n named unique h)))

  -- ---- all of them

  -- where nothing is touched
  pub had_nothing : (d : Content) → Touches (kinds_of types) no_foot st.world.content d → (l : Location) (n : ℕ) → slice_get st.cells l.local ≡ Some (Named n) → is_unique (type_in types f l) ≡ true → HasStill d l n
  had_nothing d touch l n named unique = had_on l n named unique no_foot d touch (λ e. false≢true e) refl

  -- where what is owned in a region of another type is
  pub had_beside : (a : Region) → IsPart types st.world.content a → IsOther types a.ty → (d : Content) → Touches (kinds_of types) (foot_of types a) st.world.content d → (l : Location) (n : ℕ) → slice_get st.cells l.local ≡ Some (Named n) → is_unique (type_in types f l) ≡ true → HasStill d l n
  had_beside a all other d touch l n named unique = had_on l n named unique (foot_of types a) d touch (λ e. false≢true e) (not_in l n named unique a all other)

  -- .. in two of them
  pub had_beside_both : (a b : Region) → IsPart types st.world.content a → IsOther types a.ty → IsPart types st.world.content b → IsOther types b.ty → (d : Content) → Touches (kinds_of types) (both_feet types a b) st.world.content d
      → (l : Location) (n : ℕ) → slice_get st.cells l.local ≡ Some (Named n) → is_unique (type_in types f l) ≡ true → HasStill d l n
  had_beside_both a b all other all_b other_b d touch l n named unique =
      had_on l n named unique (both_feet types a b) d touch (λ e. false≢true e)
      (both_false (is_in_region types a n (word_in types f l)) (is_in_region types b n (word_in types f l)) (not_in l n named unique a all other) (not_in l n named unique b all_b other_b))

  -- .. in such a region, and all that another local names
  pub had_beside_given : (a : Region) → IsPart types st.world.content a → IsOther types a.ty → (y m : ℕ) → cell st y ≡ Some (Named m) → (d : Content) → Touches (kinds_of types) (and_all (foot_of types a) (m ∷ [])) st.world.content d
      → (l : Location) (n : ℕ) → y ≢ l.local → slice_get st.cells l.local ≡ Some (Named n) → is_unique (type_in types f l) ≡ true → HasStill d l n
  had_beside_given a all other y m named_y d touch l n ne named unique =
      had_on l n named unique (and_all (foot_of types a) (m ∷ [])) d touch
      (λ e. locals_other types f rest st k.stands.store k.stands.frame y l.local n ne (named_y ∙ ap (λ j. Some (Named j)) (one_there m n (let p = positive_is (times (m ∷ []) n) e in omega (arith, p)))) named)
      (not_in l n named unique a all other)
