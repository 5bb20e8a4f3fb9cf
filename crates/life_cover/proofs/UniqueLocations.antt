-- The unique_ptrs of a frame, its locals and members of them: what they are, and what is done with them.
use Rattle.std.proofs.Common.{◌≡◌, ℕ, ◌+◌, ◌≤◌, ◌<◌, true, false, [], Option, Some, None, length, refl, sym, ap, subst, ◌∙◌, arith}
use Rattle.std.specs.Prelude.{Contains, nat_lt, slice_get}
use Rattle.std.proofs.lemmas.Bool.{false≢true}
use Rattle.std.proofs.lemmas.Bool.Decides.{nat_tests}
use Rattle.life_types.specs.Pointees.{or_void}
use Rattle.life_types.specs.TypeTests.{is_unique}
use Rattle.life_types.specs.Types.{Types}
use Rattle.life_types.specs.declared.ty.Ty.{Ty}
use Rattle.life_types.specs.declared.ty.Ty.TheVariants as ty
use Rattle.life_types.specs.declared.ty.TyId.{TyId}
use Rattle.life_core.specs.Function.{Function}
use Rattle.life_core.specs.Operands.{Location}
use Rattle.life_core.specs.Operands as named
use Rattle.life_pset.specs.Elements.{locations_of}
use Rattle.life_pset.specs.declared.element.Fact.{Fact}
use Rattle.life_pset.specs.declared.element.Root.{Root}
use Rattle.life_pset.proofs.Numbers.{exact_place}
use Rattle.life_contract.specs.Located.{located}
use Rattle.life_proper.specs.Placed.{type_in}
use Rattle.life_store.specs.Content.{Object}
use Rattle.life_store.specs.Effects.{Effect, cell, on_got}
use Rattle.life_store.specs.Kinds.{Owner, kind_in}
use Rattle.life_store.specs.Parts.{Parts, Unique, local_type, location_type, parts_at, width, width_at}
use Rattle.life_store.specs.Places.{Spot, found_in, here_if, named_by, on_found, on_location, on_spot, operand_word, owner_spot_if}
use Rattle.life_store.specs.State.{Cell, Empty, Named, Number, Points, State}
use Rattle.life_store.proofs.CellLemmas.{some_same}
use Rattle.life_forest.specs.FrameTypes.{IsVariable}
use Rattle.life_forest.specs.Values.{AllWide}
use Rattle.life_forest.specs.Within.{LiesWithin}
use Rattle.life_forest.proofs.OneNumber.{IsOfType}
use Rattle.life_forest.proofs.SeenTypes.{parts_typed}
use Rattle.life_forest.proofs.TypedSteps.{location_of}
use Rattle.life_cover.specs.Buffered.{is_buffer_at}
use Rattle.life_cover.specs.Covers.{IsOwnerTold}
use Rattle.life_cover.specs.Frames.{RootStands}
use Rattle.life_cover.specs.Inputs.{StandsAt}
use Rattle.life_cover.specs.Regions.{IsAt, Region}
use Rattle.life_cover.specs.Uniques.{had_at, word_in}
use Rattle.life_cover.proofs.BufferWords.{part_words}
use Rattle.life_cover.proofs.Behind.{HasPlaceOf, TellsLost}
use Rattle.life_cover.proofs.ExactLocations.{exact_location}
use Rattle.life_cover.proofs.KnownFrames.{IsKnownFrame, store_of}
use Rattle.life_cover.proofs.Locals.{named_once}
use Rattle.life_cover.proofs.LocationsListed.{is_told, location_listed}
use Rattle.life_cover.proofs.Making.{IsItsPath}
use Rattle.life_cover.proofs.NamedLocations.{IsNamedAt, named_at}
use Rattle.life_cover.proofs.Pointers.{OnRight}

pub unique_is : (t : Ty) → is_unique t ≡ true → (target : TyId) × (t ≡ ty.Unique target)
unique_is (ty.Unique target) e = (target, refl)
unique_is _ e = absurd (false≢true e)

lt_true : (a b : ℕ) → a < b → nat_lt a b ≡ true
lt_true a b h = grind (arith, nat_tests)

nothing : (w : ℕ) → w ≡ w + 0
nothing w = omega arith

-- what is told of one is told of what has its place
pub told_there : (types : Types) (f : Function) (one : Location) → (located one).length ≤ 8 → (S' : Fact → Type 0) (after : State) (n : ℕ) → slice_get after.cells one.local ≡ Some (Named n) → IsOwnerTold S' (located one) true (had_at after.world.content n (word_in types f one)) → TellsLost types f S' (HasPlaceOf one) after
told_there types f one short S' after n named told l j place e unique =
    let here : one ≡ l = sym (exact_location one l short (sym (exact_place (located l) (located one) place))) in
    subst (λ (q : Location). IsOwnerTold S' (located q) true (had_at after.world.content j (word_in types f q))) here
    (subst (λ i. IsOwnerTold S' (located one) true (had_at after.world.content i (word_in types f one))) (named_once (some_same (sym named ∙ ap (λ (q : Location). slice_get after.cells q.local) here ∙ e))) told)

module _ (types : Types) (f : Function) (rest : ℕ → ℕ) (inputs : Root → Option Region) (S : Fact → Type 0) (st : State) (k : IsKnownFrame types f rest inputs S st) where
  -- its type, its parts, its local's object, and its word there, which is that of no vector and no string
  pub record IsUniqueAt (l : Location) (n : ℕ) : Type 0 where
    pub target : TyId
    pub is : type_in types f l ≡ ty.Unique target
    pub number : TyId
    pub typed : location_type types f l ≡ Some number
    pub there : slice_get types.types number.0 ≡ Some (ty.Unique target)
    pub parts : parts_at types number ≡ Unique target (parts_at types target)
    pub variable : IsVariable st.world.content (local_type types f l.local) n
    pub lies : IsAt types st.world.content (RootStands types f (StandsAt inputs) st.cells) (located l) (record { object = n; word = word_in types f l; ty = number })
    pub path : IsItsPath (located l)
    pub listed : Contains (locations_of types f) (located l)
    pub short : (located l).length ≤ 8
    pub within : LiesWithin types variable.object.ty (word_in types f l) number
    pub one : width_at types number ≡ 1
    pub slot : 0 < length variable.object.slots
    pub wide : word_in types f l < length variable.slot.words
    pub owner : kind_in (parts_at types variable.object.ty) (word_in types f l) ≡ Owner
    pub bufferless : is_buffer_at (parts_at types variable.object.ty) (word_in types f l) ≡ false

  module _ (l : Location) (n : ℕ) (named : slice_get st.cells l.local ≡ Some (Named n)) (target : TyId) (is : type_in types f l ≡ ty.Unique target) where
    abbrev of : IsOfType types (location_type types f l) (ty.Unique target)
    of = location_of types k.ordered k.once 0 [] f k.shaped l (ty.Unique target) is refl

    abbrev place : IsNamedAt types f rest inputs S st k l n of.number
    place = named_at types f rest inputs S st k l n (location_of types k.ordered k.once 0 [] f k.shaped l (ty.Unique target) is refl).number named (location_of types k.ordered k.once 0 [] f k.shaped l (ty.Unique target) is refl).is

    parts_of : parts_at types of.number ≡ Unique target (parts_at types target)
    parts_of = parts_typed types k.ordered of.number (ty.Unique target) of.there

    wide_one : width_at types of.number ≡ 1
    wide_one = ap width parts_of

    unique_so : IsUniqueAt l n
    unique_so = record {
      target = target;
      is = is;
      number = of.number;
      typed = of.is;
      there = of.there;
      parts = parts_of;
      variable = place.variable;
      lies = place.lies;
      path = place.path;
      listed = location_listed types k.ordered f k.shaped l of.number of.is (ap (λ (o : Option Ty). is_told (or_void o)) of.there);
      short = place.short;
      within = place.within;
      one = wide_one;
      slot = let e = ap length place.variable.one in omega (arith, e);
      wide = let fit = (store_of types f rest inputs S st k).fit n place.variable.object place.variable.there in
          let a = (subst (AllWide place.variable.object.width) place.variable.one fit.slots).0 in
          let b = fit.width in
          let fits = place.within.fits in
          omega (arith, a, b, fits, wide_one);
      owner = ap (kind_in (parts_at types place.variable.object.ty)) (nothing (word_in types f l)) ∙ place.within.words 0 (omega (arith, wide_one)) ∙ ap (λ (p : Parts). kind_in p 0) parts_of;
      bufferless = ap (is_buffer_at (parts_at types place.variable.object.ty)) (nothing (word_in types f l))
          ∙ part_words types k.ordered place.variable.object.ty (word_in types f l) of.number (place.part place.variable.object place.variable.there) 0 (omega (arith, wide_one))
          ∙ ap (λ (p : Parts). is_buffer_at p 0) parts_of;
    }

  pub unique_at : (l : Location) (n : ℕ) → slice_get st.cells l.local ≡ Some (Named n) → is_unique (type_in types f l) ≡ true → IsUniqueAt l n
  unique_at l n named unique = let u = unique_is (type_in types f l) unique in unique_so l n named u.0 u.1

  -- ---- what is done with its word

  module _ (l : Location) (go : Spot → Effect) (Q : State → Type 0) (each : (n : ℕ) → cell st l.local ≡ Some (Named n) → OnRight (go (record { object = n; index = 0; word = word_in types f l })) Q) where
    -- where it is a unique_ptr by its location
    pub on_location_at : OnRight (on_location types f l st go) Q
    on_location_at = over (cell st l.local) refl
      where
        over : (v : Option Cell) → cell st l.local ≡ v → OnRight (on_got (owner_spot_if types f l v) go) Q
        over None e = tt
        over (Some Empty) e = tt
        over (Some (Number z)) e = tt
        over (Some (Points p)) e = tt
        over (Some (Named n)) e = each n e

    -- .. and by its name
    pub on_spot_at : OnRight (on_spot types f (named.Name l) st go) Q
    on_spot_at = over (cell st l.local) refl
      where
        over : (v : Option Cell) → cell st l.local ≡ v → OnRight (on_found (named_by st.world.content v) (λ n i object. go (record { object = n; index = i; word = operand_word types f (named.Name l) st }))) Q
        over None e = tt
        over (Some Empty) e = tt
        over (Some (Number z)) e = tt
        over (Some (Points p)) e = tt
        over (Some (Named n)) e = variable (k.stands.frame.objects l.local n e)
          where
            variable : IsVariable st.world.content (local_type types f l.local) n → OnRight (on_found (named_by st.world.content (Some (Named n))) (λ j i object. go (record { object = j; index = i; word = operand_word types f (named.Name l) st }))) Q
            variable v =
                let small : 0 < length v.object.slots = let e = ap length v.one in omega (arith, e) in
                subst (λ (ob : Option Object). OnRight (on_found (found_in ob n 0) (λ j i object. go (record { object = j; index = i; word = operand_word types f (named.Name l) st }))) Q) (sym v.there)
                (subst (λ b. OnRight (on_found (here_if b n 0 v.object) (λ j i object. go (record { object = j; index = i; word = operand_word types f (named.Name l) st }))) Q) (sym (lt_true 0 (length v.object.slots) small)) (each n e))
