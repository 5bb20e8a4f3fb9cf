-- What touches values alone, or what an owner has, leaves all pointers that are locals or members of locals as they are.
use Rattle.std.proofs.Common.{◌≡◌, inr, ℕ, zero, suc, Bool, true, false, List, [], ◌∷◌, length, Option, Some, None, refl, sym, ap, subst, ◌∙◌, arith}
use Rattle.std.specs.Prelude.{◌||◌, slice_get}
use Rattle.std.proofs.lemmas.Bool.{false≢true}
use Rattle.life_types.specs.TypeTests.{is_pointer}
use Rattle.life_types.specs.Types.{Types}
use Rattle.life_types.specs.declared.ty.Ty.{Ty}
use Rattle.life_types.specs.declared.ty.Ty.TheVariants as ty
use Rattle.life_types.specs.declared.ty.TyId.{TyId}
use Rattle.life_core.specs.Function.{Function}
use Rattle.life_core.specs.Operands.{Location, Operand, whole as whole_local}
use Rattle.life_pset.specs.Elements.{local_place}
use Rattle.life_pset.specs.Places.{members_place, path}
use Rattle.life_pset.specs.contracts.element.AbsPlacePartialEq.TheImpl.{ghosts as compared}
use Rattle.life_pset.specs.declared.element.AbsPlace.{AbsPlace}
use Rattle.life_pset.specs.declared.element.Fact.{Fact}
use Rattle.life_pset.specs.declared.element.Root.{Root}
use Rattle.life_pset.specs.declared.element.Root.TheVariants as root
use Rattle.life_pset.proofs.Numbers.{exact_place, place_laws}
use Rattle.life_contract.specs.Located.{is_location, located}
use Rattle.life_proper.specs.Placed.{type_in}
use Rattle.life_store.specs.Cells.{at}
use Rattle.life_store.specs.Content.{Content, Object, Slot}
use Rattle.life_store.specs.Effects.{cell, put_content}
use Rattle.life_store.specs.Kinds.{Owner, Plain, Pointing, kind_in}
use Rattle.life_store.specs.Parts.{Parts, Single, Raw, Iterates, Views, Text, Vector, Unique, Member, NoMember, local_type, parts_at, parts_of}
use Rattle.life_store.specs.Places.{location_cell, member_cell}
use Rattle.life_store.specs.State.{Named, Pointer, Points, State}
use Rattle.life_store.proofs.CellLemmas.{none_some, some_same}
use Rattle.life_forest.specs.Forest.{Beneath, Foot, Touches, part, under, whole}
use Rattle.life_forest.specs.FrameTypes.{IsVariable}
use Rattle.life_forest.specs.Kinds.{kinds_of}
use Rattle.life_forest.specs.Within.{LiesWithin}
use Rattle.life_forest.proofs.Members.{within_self}
use Rattle.life_forest.proofs.SeenTypes.{parts_typed}
use Rattle.life_forest.proofs.Steps.{own_all}
use Rattle.life_forest.proofs.WrittenPointers.{gap}
use Rattle.life_cover.specs.Frames.{RootStands}
use Rattle.life_cover.specs.Inputs.{StandsAt, frame_foot, may_change}
use Rattle.life_cover.specs.Regions.{IsTrue, Region, foot_of, is_in_region, owned_in_type}
use Rattle.life_cover.proofs.Beside.{kept_object}
use Rattle.life_cover.proofs.BufferMoves.{IsBufferParts}
use Rattle.life_cover.proofs.Inputs.{given_on}
use Rattle.life_cover.proofs.Inside.{lies_true, region_within}
use Rattle.life_cover.proofs.KnownFrames.{IsKnownFrame, hand_of, rooted_of, store_of}
use Rattle.life_cover.proofs.Locals.{named_free, named_unowned}
use Rattle.life_cover.proofs.Moved.{both_feet}
use Rattle.life_cover.proofs.Putting.{member_other, other_local}
use Rattle.life_cover.proofs.MemberWords.{Spares, held_before, spares_at}
use Rattle.life_cover.proofs.ObjectParts.{part_within}
use Rattle.life_cover.proofs.Reaching.{IsReached}
use Rattle.life_cover.proofs.Unkilled.{beneath_nothing, no_foot}

-- no word of the type is one of a pointer
abbrev pub HasNoPointer : Types → TyId → Type 0
HasNoPointer types id = (u j : ℕ) → kind_in (parts_at types id) u ≡ Pointing j → ⊥

not_true : (b : Bool) → (b ≡ true → ⊥) → b ≡ false
not_true true h = absurd (h refl)
not_true false h = refl

module _ (types : Types) (f : Function) (rest : ℕ → ℕ) (inputs : Root → Option Region) (S : Fact → Type 0) (st : State) (k : IsKnownFrame types f rest inputs S st) where
  -- an owner has none
  pub owner_free : (id item : TyId) → owned_in_type types (slice_get types.types id.0) ≡ Some item → HasNoPointer types id
  owner_free id item owns u j pointing = go (slice_get types.types id.0) refl owns
    where
      first : (v : ℕ) → kind_in (parts_at types id) v ≡ Pointing j → ((w : ℕ) → kind_in (parts_at types id) (suc w) ≡ Plain) → kind_in (parts_at types id) 0 ≡ Owner → ⊥
      first zero e later now = unlike (sym now ∙ e)
        where
          unlike : Owner ≡ Pointing j → ⊥
          unlike h = cc
      first (suc w) e later now = unlike (sym (later w) ∙ e)
        where
          unlike : Plain ≡ Pointing j → ⊥
          unlike h = cc

      of_type : (t : Ty) → slice_get types.types id.0 ≡ Some t → ((w : ℕ) → kind_in (parts_of types (parts_at types) (Some t)) (suc w) ≡ Plain) → kind_in (parts_of types (parts_at types) (Some t)) 0 ≡ Owner → ⊥
      of_type t there later now =
          let is = parts_typed types k.ordered id t there in
          first u pointing (λ w. ap (λ p. kind_in p (suc w)) is ∙ later w) (ap (λ p. kind_in p 0) is ∙ now)

      go : (o : Option Ty) → slice_get types.types id.0 ≡ o → owned_in_type types o ≡ Some item → ⊥
      go (Some ty.Text) there h = of_type ty.Text there (λ w. refl) refl
      go (Some (ty.Vector element)) there h = of_type (ty.Vector element) there (λ w. refl) refl
      go (Some (ty.Unique target)) there h = of_type (ty.Unique target) there (λ w. refl) refl
      go None there h = none_some h
      go (Some _) there h = none_some h

  -- .. by the parts of its type
  pub buffer_free : (id : TyId) → IsBufferParts (parts_at types id) → HasNoPointer types id
  buffer_free id is u j pointing = go (parts_at types id) is u pointing
    where
      plain : Plain ≡ Pointing j → ⊥
      plain h = cc

      owner : Owner ≡ Pointing j → ⊥
      owner h = cc

      go : (p : Parts) → IsBufferParts p → (v : ℕ) → kind_in p v ≡ Pointing j → ⊥
      go (Text item) i zero e = owner e
      go (Text item) i (suc v) e = plain e
      go (Vector item element) i zero e = owner e
      go (Vector item element) i (suc v) e = plain e
      go Single i v e = i
      go Raw i v e = i
      go Iterates i v e = i
      go Views i v e = i
      go (Unique item target) i v e = i
      go (Member first others) i v e = i
      go NoMember i v e = i

  -- ---- feet

  pub spares_nothing : Spares types f st no_foot
  spares_nothing = record { apart = λ x n named low. beneath_nothing types st.world.content n low; words = λ x n id named typed u j pointing. refl }

  -- where a value lies in which there is no pointer
  pub spares_region : (a : Region) (o : Object) → at st.world.content.objects a.object ≡ Some o → LiesWithin types o.ty a.word a.ty → HasNoPointer types a.ty → Spares types f st (foot_of types a)
  spares_region a o there within free = record {
    apart = λ x n named low. named_free types f rest st k.stands.store k.stands.frame x n a named low;
    words = λ x n id named typed u j pointing. not_true (is_in_region types a n u) (λ e. clash x n id named typed u j pointing e);
  }
    where
      clash : (x n : ℕ) (id : TyId) → cell st x ≡ Some (Named n) → local_type types f x ≡ Some id → (u j : ℕ) → kind_in (parts_at types id) u ≡ Pointing j → is_in_region types a n u ≡ true → ⊥
      clash x n id named typed u j pointing e =
          let inside = region_within types a n u e in
          let v = k.stands.frame.objects x n named in
          let same : v.object ≡ o = some_same (sym v.there ∙ ap (at st.world.content.objects) inside.object ∙ there) in
          let type : id ≡ o.ty = some_same (sym typed ∙ v.type) ∙ ap (λ (z : Object). z.ty) same in
          let first = inside.first in
          let last = inside.last in
          let g = gap a.word u first in
          let is = g.1 in
          free g.0 j (sym (within.words g.0 (omega (arith, is, last))) ∙ ap (kind_in (parts_at types o.ty)) (sym is) ∙ ap (λ (i : TyId). kind_in (parts_at types i) u) (sym type) ∙ pointing)

  pub spares_reached : (o : Operand) (r : IsReached types f st (StandsAt inputs) (may_change types f) S o) → HasNoPointer types r.region.ty → Spares types f st (foot_of types r.region)
  spares_reached o r free =
      spares_region r.region r.holder r.there
      (lies_true types k.ordered (hand_of rest st) st.world.content (store_of types f rest inputs S st k) (path r.place) r.lies.start r.region ((rooted_of types f rest inputs S st k).fits r.place.root r.lies.start r.lies.stands) r.lies.lies r.holder r.there) free

  -- of two such values
  pub spares_both : (a b : Region) → Spares types f st (foot_of types a) → Spares types f st (foot_of types b) → Spares types f st (both_feet types a b)
  spares_both a b one two = record {
    apart = λ x n named low. unowned x n named low;
    words = λ x n id named typed u j pointing. both_false (is_in_region types a n u) (is_in_region types b n u) (one.words x n id named typed u j pointing) (two.words x n id named typed u j pointing);
  }
    where
      both_false : (p q : Bool) → p ≡ false → q ≡ false → (p || q) ≡ false
      both_false true q e h = e
      both_false false q e h = h

      unowned : (x n : ℕ) → cell st x ≡ Some (Named n) → Beneath (kinds_of types) st.world.content (both_feet types a b) n → ⊥
      unowned x n named (whole _ e) = false≢true e
      unowned x n named (part m _ own) = named_unowned types f rest st k.stands.store k.stands.frame x n m named (own_all (kinds_of types) st.world.content ((both_feet types a b).part m) m n own)
      unowned x n named (under m _ low own) = named_unowned types f rest st k.stands.store k.stands.frame x n m named own

  -- a whole local
  pub spares_local : (x n : ℕ) → cell st x ≡ Some (Named n) → (id : TyId) → local_type types f x ≡ Some id → HasNoPointer types id → Spares types f st (foot_of types (record { object = n; word = 0; ty = id }))
  spares_local x n named id typed free =
      let v = k.stands.frame.objects x n named in
      let same : id ≡ v.object.ty = some_same (sym typed ∙ v.type) in
      spares_region (record { object = n; word = 0; ty = id }) v.object v.there (subst (λ (i : TyId). LiesWithin types i 0 id) same (within_self types id)) free

  -- ---- what they hold

  -- no local that names an object is a pointer's location
  pub named_other : (x n : ℕ) → cell st x ≡ Some (Named n) → (l : Location) (v : Pointer) → location_cell types f l st ≡ Some (Points v) → is_location (whole_local x) (located l) ≡ false
  named_other x n named l v held = go l.members refl held
    where
      unlike : Named n ≡ Points v → ⊥
      unlike h = cc

      not_true_at : (b : Bool) → is_location (whole_local x) (located l) ≡ b → (located l ≡ local_place x → ⊥) → is_location (whole_local x) (located l) ≡ false
      not_true_at true e other = absurd (other (exact_place (located l) (local_place x) e))
      not_true_at false e other = e

      go : (ms : List ℕ) → l.members ≡ ms → member_cell types f l.local ms (cell st l.local) st.world.content ≡ Some (Points v) → is_location (whole_local x) (located l) ≡ false
      go [] none h = ap (is_location (whole_local x)) (ap (members_place (local_place l.local)) none) ∙ other_local x l.local (λ same. unlike (some_same (sym named ∙ ap (cell st) same ∙ h)))
      go (m ∷ ms) some h = not_true_at (is_location (whole_local x) (located l)) refl (λ e. false≢true (sym (member_other l m ms some x) ∙ ap (λ (a : AbsPlace). compared.eq a (located l)) (sym e) ∙ place_laws.refl (located l)))

  pub content_held : (foot : Foot) → Spares types f st foot → (d : Content) → Touches (kinds_of types) foot st.world.content d → (l : Location) (v : Pointer) → is_pointer (type_in types f l) ≡ true → location_cell types f l (put_content d st) ≡ Some (Points v) → location_cell types f l st ≡ Some (Points v)
  content_held foot spares d touch l v pointer held =
      held_before types k.ordered k.once f k.shaped st (λ x n e. k.stands.frame.objects x n e) l pointer (hand_of rest st) (store_of types f rest inputs S st k) foot (spares_at types k.ordered k.once f k.shaped st (λ x n e. k.stands.frame.objects x n e) l pointer foot spares) d touch v held

  -- by an owner that is changed
  pub owner_held : (o : Operand) (r : IsReached types f st (StandsAt inputs) (may_change types f) S o) (item : TyId) → owned_in_type types (slice_get types.types r.region.ty.0) ≡ Some item → (d : Content) → Touches (kinds_of types) (foot_of types r.region) st.world.content d
      → (l : Location) (v : Pointer) → is_pointer (type_in types f l) ≡ true → location_cell types f l (put_content d st) ≡ Some (Points v) → location_cell types f l st ≡ Some (Points v)
  owner_held o r item owns d touch = content_held (foot_of types r.region) (spares_reached o r (owner_free r.region.ty item owns)) d touch

  -- ---- what stands behind it

  one_slot : (ss : List Slot) → length ss ≡ 1 → (t : Slot) × (ss ≡ t ∷ [])
  one_slot [] e = absurd (omega (arith, e))
  one_slot (t ∷ []) e = (t, refl)
  one_slot (t ∷ u ∷ ss) e = absurd (omega (arith, e))

  -- the objects of the locals are there
  pub variable_on : (foot : Foot) → Spares types f st foot → (d : Content) → Touches (kinds_of types) foot st.world.content d → (x n : ℕ) → cell st x ≡ Some (Named n) → IsVariable d (local_type types f x) n
  variable_on foot spares d touch x n named =
      let v = k.stands.frame.objects x n named in
      let o = kept_object (kinds_of types) foot st.world.content d n v.object touch ((store_of types f rest inputs S st k).forest.births n v.object v.there) (spares.apart x n named) v.there in
      let slots = one_slot o.object.slots (o.count ∙ ap length v.one) in record {
        object = o.object;
        there = o.there;
        type = v.type ∙ ap Some (sym o.type);
        slot = slots.0;
        one = slots.1;
      }

  -- and roots stand for values of their types
  pub true_on : (d : Content) → Touches (kinds_of types) (frame_foot types f inputs st.cells) st.world.content d → ((x n : ℕ) → cell st x ≡ Some (Named n) → IsVariable d (local_type types f x) n)
      → (ro : Root) (a : Region) → RootStands types f (StandsAt inputs) st.cells ro a → IsTrue types d a
  true_on d touch variables (root.Local x) a stands o there =
      let v = variables x a.object stands.0 in
      let ty : o.ty ≡ a.ty = ap (λ (z : Object). z.ty) (some_same (sym there ∙ v.there)) ∙ some_same (sym v.type ∙ stands.2) in
      subst (λ w. LiesWithin types o.ty w a.ty) (sym stands.1) (subst (λ id. LiesWithin types id 0 a.ty) (sym ty) (within_self types a.ty))
  true_on d touch variables (root.Input q member) a stands o there =
      part_within types k.ordered o.ty a.word a.ty
      ((given_on types f inputs (hand_of rest st) st.world.content d (store_of types f rest inputs S st k).forest (frame_foot types f inputs st.cells) k.given (frame_foot types f inputs st.cells) touch
      (record { whole = λ n lt e. whole n e; part = λ m lt. inr (λ w e. e) })).part (root.Input q member) a stands o there)
