-- The place of an owner that an operand names, from what is told of the spot that was found.
use Rattle.std.proofs.Common.{◌≡◌, ℕ, List, [], Option, Some, None, Ok, refl, sym, ap, subst, ◌∙◌, arith, ⊎_elim}
use Rattle.life_types.specs.Types.{Types}
use Rattle.life_types.specs.declared.ty.TyId.{TyId}
use Rattle.life_core.specs.Function.{Function}
use Rattle.life_core.specs.Operands.{Location, Operand}
use Rattle.life_core.specs.Step.{Change, Changes}
use Rattle.life_store.specs.Cells.{none}
use Rattle.life_store.specs.Content.{Object, Content}
use Rattle.life_store.specs.Effects.{Effect, Next, Traps, Faults, Strays, Attempt, Got, GotLost, cell}
use Rattle.life_store.specs.Parts.{local_type, location_type, operand_type, parts_at, word_within}
use Rattle.life_store.specs.Places.{Found, Here, Fixed, Outside, Wrong, Astray, Spot as Place, locate, on_found, operand_word, owner_spot_if}
use Rattle.life_store.specs.References.{Rows}
use Rattle.life_store.specs.State as state
use Rattle.life_store.specs.State.{Named, State}
use Rattle.life_forest.proofs.Operands.{FoundWell, IsPlace, operand_well, place_named}
use Rattle.life_forest.proofs.StandingSteps.{IsTypedChange, IsTypedStep}
use Rattle.life_seen.specs.Kinds.{kinds_of}
use Rattle.life_seen.proofs.References.{found}
use Rattle.life_pointers.specs.Owned.{spot_seen}
use Rattle.life_pointers.specs.declared.owned.Spot.{Spot}
use Rattle.life_cells.specs.Cells.{state_in}
use Rattle.life_cells.specs.Fits.{meant}
use Rattle.life_cells.specs.Owners.{IsSpot, OwnsAt}
use Rattle.life_cells.specs.Typed.{HoldsOwner, IsOwnerPlace}
use Rattle.life_cells.specs.declared.cell.Cell.{Cell}
use Rattle.life_changes.specs.Owners.{OwnerAt, IsContainer}
use Rattle.life_changes.specs.Ready.{AreServed, IsReady}

pub same_type : (a b : TyId) → Some a ≡ Some b → a ≡ b
same_type a b e = cc

-- ---- what is done with a spot tells the spot

-- a state that holds a number
abbrev number_state : ℕ → State
number_state n = record { world = record { content = record { objects = none; births = n; clock = 0 }; output = []; input = [] }; cells = [] }

abbrev number_in : Effect → ℕ
number_in (Next st) = st.world.content.births
number_in (Traps kind) = 0
number_in (Faults kind) = 0
number_in Strays = 0

abbrev held : ℕ → Effect
held n = Next (number_state n)

-- nothing is done with what isn't there
abbrev not_held : Effect → ℕ
not_held (Next st) = 1
not_held (Traps kind) = 0
not_held (Faults kind) = 0
not_held Strays = 0

pub record IsHereAt (what : Found) (w : ℕ) (spot : Place) : Type 0 where
  pub object : Object
  pub here : what ≡ Here spot.object spot.index object
  pub word : w ≡ spot.word

pub found_spot : (what : Found) (w : ℕ) (spot : Place) → ((go : Place → Effect) → on_found what (λ n i o. go (record { object = n; index = i; word = w })) ≡ go spot) → IsHereAt what w spot
found_spot (Here n i o) w spot told =
    let n_is : n ≡ spot.object = ap number_in (told (λ s. held s.object)) in
    let i_is : i ≡ spot.index = ap number_in (told (λ s. held s.index)) in
    record {
      object = o;
      here = (λ j. Here (n_is j) (i_is j) o);
      word = ap number_in (told (λ s. held s.word));
    }
found_spot (Fixed c) w spot told = absurd (omega (arith, ap not_held (told (λ s. held 0))))
found_spot Outside w spot told = absurd (omega (arith, ap not_held (told (λ s. held 0))))
found_spot (Wrong kind) w spot told = absurd (omega (arith, ap not_held (told (λ s. held 0))))
found_spot Astray w spot told = absurd (omega (arith, ap not_held (told (λ s. held 0))))

-- ---- an owner that a typed change names

module _ (types : Types) (f : Function) (limit depth : ℕ) (c : Content) (rows : Rows) (cells : List Cell) (served : AreServed types limit depth) (ready : IsReady types f limit c rows cells) (o : Operand) (change : Change)
    (owner : IsOwnerPlace types f o (state_in (meant types c rows) cells)) (typed : IsTypedStep types f (state_in (meant types c rows) cells) (Changes o change)) where
  abbrev st : State
  st = state_in (meant types c rows) cells

  abbrev part : TyId
  part = typed.0

  container : IsContainer (parts_at types part)
  container = ⊎_elim (λ t. subst IsContainer (sym t.1) tt) (λ t. subst IsContainer (sym t.1) tt) typed.2

  module _ (spot : Spot) (is : IsSpot types f o (meant types c rows) cells (Ok spot)) (owns : OwnsAt (kinds_of types) c rows spot) where
    here : IsHereAt (locate types f o st) (operand_word types f o st) (spot_seen spot)
    here = found_spot (locate types f o st) (operand_word types f o st) (spot_seen spot) (λ go. is [] [] go)

    place : IsPlace types (meant types c rows) part spot.object.birth spot.index spot.word here.object
    place =
        subst (λ w. IsPlace types (meant types c rows) part spot.object.birth spot.index w here.object) here.word
        (subst (FoundWell types (meant types c rows) part (operand_word types f o st)) here.here (operand_well types served.ordered f st ready.stands.frame o part typed.1.0 typed.1.1))

    pub owner_at : (ty : TyId) → Some ty ≡ operand_type types f o → OwnerAt types f limit depth ty spot c rows cells
    owner_at ty of = record {
      served = served;
      ready = ready;
      placed = (found c rows spot.object owns.object owns.is.there).placed;
      small =
          let l = owner.placed.lies spot.object.birth spot.index here.object here.here in
          let a = l.within in
          let b = l.small in
          let w = here.word in
          omega (arith, a, b, w);
      object = here.object;
      place = subst (λ t. IsPlace types (meant types c rows) t spot.object.birth spot.index spot.word here.object) same place;
    }
      where
        some : (a b : TyId) → Some a ≡ Some b → a ≡ b
        some a b e = cc

        same : part ≡ ty
        same = some part ty (sym typed.1.0 ∙ sym of)

    pub is_container : (ty : TyId) → Some ty ≡ operand_type types f o → IsContainer (parts_at types ty)
    is_container ty of = subst (λ t. IsContainer (parts_at types t)) same container
      where
        some : (a b : TyId) → Some a ≡ Some b → a ≡ b
        some a b e = cc

        same : part ≡ ty
        same = some part ty (sym typed.1.0 ∙ sym of)

    pub change_typed : (ty : TyId) → Some ty ≡ operand_type types f o → IsTypedChange types f (state_in (meant types c rows) cells) ty change
    change_typed ty of = subst (λ t. IsTypedChange types f st t change) same typed.2
      where
        some : (a b : TyId) → Some a ≡ Some b → a ≡ b
        some a b e = cc

        same : part ≡ ty
        same = some part ty (sym typed.1.0 ∙ sym of)

-- ---- a local that is one, or a member of one

module _ (types : Types) (f : Function) (limit depth : ℕ) (c : Content) (rows : Rows) (cells : List Cell) (served : AreServed types limit depth) (ready : IsReady types f limit c rows cells) (l : Location) (part : TyId) (typed : location_type types f l ≡ Some part)
    (holds : HoldsOwner types f l (state_in (meant types c rows) cells)) (spot : Spot) (owns : OwnsAt (kinds_of types) c rows spot) where
  abbrev frame : State
  frame = state_in (meant types c rows) cells

  abbrev w : ℕ
  w = word_within types (local_type types f l.local) l.members

  named_owner : (n : ℕ) → cell frame l.local ≡ Some (Named n) → spot_seen spot ≡ record { object = n; index = 0; word = word_within types (local_type types f l.local) l.members } → OwnerAt types f limit depth part spot c rows cells
  named_owner n named is =
      let p = place_named types served.ordered f frame ready.stands.frame l part typed n named in
      let h = holds n named in
      record {
        served = served;
        ready = ready;
        placed = (found c rows spot.object owns.object owns.is.there).placed;
        small = let a = h.lies.within in let b = h.lies.small in let e = ap (λ (s : Place). s.word) is in omega (arith, a, b, e);
        object = p.0;
        place = subst (λ (s : Place). IsPlace types (meant types c rows) part s.object s.index s.word p.0) (sym is) p.1;
      }

  pub local_at : Got (spot_seen spot) ≡ owner_spot_if types f l (cell frame l.local) → OwnerAt types f limit depth part spot c rows cells
  local_at = go (cell frame l.local) refl
    where
      lost : ◌≡◌ {A = Attempt Place} (Got (spot_seen spot)) GotLost → ⊥
      lost e = cc

      go : (v : Option state.Cell) → cell frame l.local ≡ v → Got (spot_seen spot) ≡ owner_spot_if types f l v → OwnerAt types f limit depth part spot c rows cells
      go None named e = absurd (lost e)
      go (Some state.Empty) named e = absurd (lost e)
      go (Some (state.Number z)) named e = absurd (lost e)
      go (Some (state.Points q)) named e = absurd (lost e)
      go (Some (Named n)) named e = named_owner n named (same (spot_seen spot) (record { object = n; index = 0; word = w }) e)
        where
          same : (a b : Place) → ◌≡◌ {A = Attempt Place} (Got a) (Got b) → a ≡ b
          same a b h = cc
