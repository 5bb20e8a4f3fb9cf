-- What may be bare behind an instruction of a frame: locals of which facts say so still, since the instruction doesn't write them, and what other
-- frames name.
use Rattle.std.proofs.Common.{◌≡◌, inl, inr, ⊎_elim, ℕ, Bool, true, false, Some, refl, sym, ap, subst, List, [], ◌∷◌, ◌<◌, arith, Option}
use Rattle.std.specs.Prelude.{cond, ◌&&◌, ◌||◌}
use Rattle.std.proofs.lemmas.Bool.{false≢true}
use Rattle.life_types.specs.Types.{Types}
use Rattle.life_types.specs.declared.place.Place.{Place}
use Rattle.life_types.specs.TypeTests.{is_raw, is_unique}
use Rattle.life_types.specs.declared.ty.Ty.{Ty}
use Rattle.life_types.specs.declared.ty.Ty.TheVariants as ty
use Rattle.life_core.specs.Function.{Function}
use Rattle.life_core.specs.Step.{Step, NonZero, NotNull, Test}
use Rattle.life_core.specs.Operands.{Location}
use Rattle.life_core.specs.Operands as operands
use Rattle.life_pset.specs.Elements.{local_place}
use Rattle.life_pset.specs.declared.element.Element.TheVariants as element
use Rattle.life_pset.specs.declared.element.Fact.{Fact}
use Rattle.life_pset.specs.Shapes.{has_buffer}
use Rattle.life_pset.specs.declared.element.Element.{Element}
use Rattle.life_contract.specs.Signatures.{Signature}
use Rattle.life_contract.specs.Located.{is_location}
use Rattle.life_rules.specs.Carrying.{writes, stops_at}
use Rattle.life_rules.specs.Matching.{fact_at, is_held, is_null}
use Rattle.life_store.specs.State.{State}
use Rattle.life_store.specs.Content.{Content}
use Rattle.life_cover.specs.Buffered.{AreBut}
use Rattle.life_cover.specs.Lacking.{IsMovedFrom, MayLack, IsLoose}
use Rattle.life_cover.proofs.Behind.{IsBehind}
use Rattle.life_cover.proofs.Buffering.{but_more}
use Rattle.life_cover.proofs.KnownFrames.{IsRight}
use Rattle.life_cover.proofs.UniqueFacts.{stays}
use Rattle.life_cover.proofs.Edges.{Passes}
use Rattle.life_cover.proofs.Putting.{member_other, other_local}
use Rattle.life_cover.proofs.Owning.{named_at}
use Rattle.life_proper.specs.Placed.{type_at, type_in}
use Rattle.life_proper.specs.WellFormed.{is_well_formed_test}
use Rattle.life_store.proofs.MapLemmas.{one_or_apart}
use Rattle.life_forest.specs.Forest.{Beneath, Touches, part, under, whole, Foot}
use Rattle.life_forest.specs.Frames.{named_in}
use Rattle.life_forest.specs.Kinds.{kinds_of}
use Rattle.life_forest.specs.Owned.{every, times}
use Rattle.life_forest.proofs.Below.{positive_is}
use Rattle.life_forest.proofs.Steps.{own_all}
use Rattle.life_cover.specs.Inputs.{frame_foot}
use Rattle.life_cover.specs.Regions.{Region}
use Rattle.life_pset.specs.declared.element.Root.{Root}

-- what is loose is loose behind what touches nothing but what is named
pub loose_on : (types : Types) (inputs : Root → Option Region) (names : List ℕ) (c d : Content) (names' : List ℕ) (t : Foot) → Touches (kinds_of types) t c d → ((j : ℕ) → j < c.births → 0 < times names' j → 0 < times names j) → (n : ℕ) → (Beneath (kinds_of types) c t n → ⊥) → IsLoose types inputs names c n → IsLoose types inputs names' d n
loose_on types inputs names c d names' t touch named n apart loose = record {
  spared = loose.spared;
  born = let b = touch.births in let l = loose.born in omega (arith, b, l);
  unnamed = one_or_apart (times names' n) 0 (λ z. z) (λ nz. let old = named n loose.born (omega (arith, nz)) in let none = loose.unnamed in absurd (omega (arith, old, none)));
  unowned = λ m own. ⊎_elim (λ low. apart low) (λ old. loose.unowned m old) (touch.back every m n loose.born own);
}

-- .. and it isn't beneath what is named, nor beneath parts of objects
pub loose_apart : (types : Types) (inputs : Root → Option Region) (names : List ℕ) (c : Content) (t : Foot) → ((j : ℕ) → t.whole j ≡ true → 0 < times names j) → (n : ℕ) → IsLoose types inputs names c n → Beneath (kinds_of types) c t n → ⊥
loose_apart types inputs names c t named n loose (whole _ e) = let lt = named n e in let none = loose.unnamed in omega (arith, lt, none)
loose_apart types inputs names c t named n loose (part q _ own) = loose.unowned q (own_all (kinds_of types) c (t.part q) q n own)
loose_apart types inputs names c t named n loose (under q _ low own) = loose.unowned q own

module _ (types : Types) (f : Function) (rest : ℕ → ℕ) (inputs : Root → Option Region) (S : Fact → Type 0) (st : State) (sigs : List Signature) (number : ℕ) (place : Place) (S' : Fact → Type 0) (i : Step) (right : IsRight sigs types number f place i S S') (bare over : ℕ → Type 0) where
  -- it may have been before, and if it is a local of which a fact says so, then that is neither given over nor written
  pub record StillLacks (n : ℕ) : Type 0 where
    pub lacks : MayLack types f inputs S st n
    pub kept : (m : IsMovedFrom types f S st.cells n) → over m.local → ⊥
    pub unwritten : (m : IsMovedFrom types f S st.cells n) → writes i (local_place m.local) ≡ false

  module _ (lost : Location → Type 0) (after : State) (h : IsBehind types f inputs bare over lost st after) where
    new : (j : ℕ) → j < st.world.content.births → 0 < times (named_in after.cells) j → 0 < times (named_in st.cells) j
    new j born lt = let x = named_at after.cells j lt in ⊎_elim (λ old. old) (λ late. absurd (omega (arith, born, late))) (h.named x.0 j x.1)

    -- what is loose is so behind it
    pub loose_still : (n : ℕ) → IsLoose types inputs (named_in st.cells) st.world.content n → MayLack types f inputs S' after n
    loose_still n loose = inr (loose_on types inputs (named_in st.cells) st.world.content after.world.content (named_in after.cells) (frame_foot types f inputs st.cells) h.touch new n
        (loose_apart types inputs (named_in st.cells) st.world.content (frame_foot types f inputs st.cells) (λ j e. positive_is (times (named_in st.cells) j) e) n loose) loose)

    -- a fact that says so stays
    pub moved_on : (n : ℕ) (m : IsMovedFrom types f S st.cells n) → (over m.local → ⊥) → writes i (local_place m.local) ≡ false → MayLack types f inputs S' after n
    moved_on n m kept unwritten = ⊎_elim (λ o. absurd (kept o))
        (λ named. inl (record {
          local = m.local;
          names = named;
          owner = m.owner;
          cause = m.cause;
          holds = stays sigs types f place i S S' right.closed (local_place m.local) (element.Moved m.cause) tt m.holds unwritten;
        }))
        (h.kept m.local n m.names)

    pub lacks_on : (n : ℕ) → StillLacks n → MayLack types f inputs S' after n
    lacks_on n still = go still.lacks
      where
        go : MayLack types f inputs S st n → MayLack types f inputs S' after n
        go (inr loose) = loose_still n loose
        go (inl m) = moved_on n m (still.kept m) (still.unwritten m)

    pub still_lacking : ((n : ℕ) → bare n → StillLacks n) → AreBut types (MayLack types f inputs S' after) after.world.content
    still_lacking each = but_more types bare (MayLack types f inputs S' after) after.world.content (λ n b. lacks_on n (each n b)) h.buffered

-- ---- behind a test

nullable_apart : (t : Ty) → (is_raw t || is_unique t) ≡ true → has_buffer t ≡ true → ⊥
nullable_apart ty.Text e b = false≢true e
nullable_apart (ty.Vector element) e b = false≢true e
nullable_apart _ e b = false≢true b

module _ (types : Types) (f : Function) (rest : ℕ → ℕ) (inputs : Root → Option Region) (texts : ℕ) (fs : List Function) (S S' : Fact → Type 0) (st : State) where
  not_stopped : (t : Test) (branch : Bool) (y : ℕ) (e : Element) → is_well_formed_test types texts fs f t ≡ true → has_buffer (type_at types f y) ≡ true → stops_at t (Some branch) (fact_at (local_place y) e) ≡ false
  not_stopped (NonZero r) branch y e formed buffer = refl
  not_stopped (NotNull l) branch y e formed buffer = ap (λ b. b && cond branch (is_null e) (is_held e)) (go l.members refl)
    where
      go : (ms : List ℕ) → l.members ≡ ms → is_location l (local_place y) ≡ false
      go [] none =
          let here : operands.whole l.local ≡ l = ap (λ (ms : List ℕ). record { local = l.local; members = ms }) (sym none) in
          subst (λ (q : Location). is_location q (local_place y) ≡ false) here
          (other_local l.local y (λ same. nullable_apart (type_in types f l) formed (subst (λ (q : Location). has_buffer (type_in types f q) ≡ true) here (subst (λ z. has_buffer (type_at types f z) ≡ true) (sym same) buffer))))
      go (m ∷ ms) some = member_other l m ms some y

  pub passed_lacking : (t : Test) (branch : Bool) → is_well_formed_test types texts fs f t ≡ true → Passes t branch S S' → (n : ℕ) → MayLack types f inputs S st n → MayLack types f inputs S' st n
  passed_lacking t branch formed passes n (inl m) =
      inl (record { local = m.local; names = m.names; owner = m.owner; cause = m.cause; holds = passes (fact_at (local_place m.local) (element.Moved m.cause)) m.holds (not_stopped t branch m.local (element.Moved m.cause) formed m.owner) })
  passed_lacking t branch formed passes n (inr loose) = inr loose
