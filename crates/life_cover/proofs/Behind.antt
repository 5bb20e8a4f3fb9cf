-- What holds behind an instruction of a frame: each vector and each string has its buffer, what is touched lies beneath what the frame named or is an
-- owner behind a mutating input, what it names it named before, or it is new, and each unique_ptr has what it had.
use Rattle.std.proofs.Common.{◌≡◌, ◌≢◌, ◌⊎◌, inl, inr, ⊎_elim, ℕ, ◌≤◌, ◌<◌, true, List, Some, refl, sym, ap, subst, ◌∙◌, Option}
use Rattle.std.specs.Prelude.{ℤ, slice_get}
use Rattle.life_types.specs.TypeTests.{is_unique}
use Rattle.life_types.specs.Types.{Types}
use Rattle.life_core.specs.Function.{Function}
use Rattle.life_core.specs.Operands.{Location}
use Rattle.life_proper.specs.Placed.{type_in}
use Rattle.life_store.specs.Content.{Content}
use Rattle.life_store.specs.Effects.{Effect, Next, Traps, Faults, Strays, Attempt, Got, GotTrap, GotFault, GotLost, put_cell, put_content}
use Rattle.life_store.specs.State.{Cell, Empty, Named, Number, Pointer, Points, State}
use Rattle.life_store.proofs.CellLemmas.{cell_cases}
use Rattle.life_store.proofs.MapLemmas.{one_or_apart}
use Rattle.life_forest.specs.Forest.{Touches}
use Rattle.life_forest.specs.Frames.{OnNext, named_in}
use Rattle.life_forest.specs.Kinds.{kinds_of}
use Rattle.life_forest.specs.Owned.{times}
use Rattle.life_forest.proofs.Coming.{IfGot}
use Rattle.life_forest.proofs.Following.{in_hand}
use Rattle.life_forest.proofs.Steps.{touches_self}
use Rattle.life_cover.specs.Buffered.{AreBut}
use Rattle.life_cover.proofs.Pointers.{OnRight}
use Rattle.life_cover.proofs.Putting.{set_other}
use Rattle.life_contract.specs.Located.{is_location, located}
use Rattle.life_pset.specs.declared.element.Fact.{Fact}
use Rattle.life_cover.specs.Covers.{IsOwnerTold}
use Rattle.life_cover.specs.Inputs.{frame_foot}
use Rattle.life_cover.specs.Regions.{Region}
use Rattle.life_cover.specs.Uniques.{had_at, word_in}
use Rattle.life_pset.specs.declared.element.Root.{Root}

-- two things hold of what is got
pub both_got : {A : Type 0} (x : Attempt A) (P Q : A → Type 0) → IfGot x P → IfGot x Q → IfGot x (λ a. P a × Q a)
both_got (Got a) P Q h k = (h, k)
both_got (GotTrap kind) P Q h k = tt
both_got (GotFault kind) P Q h k = tt
both_got GotLost P Q h k = tt

-- .. and of a next state
pub both_next : (e : Effect) (P Q R : State → Type 0) → OnNext e P → OnNext e Q → ((after : State) → P after → Q after → R after) → OnNext e R
both_next (Next st) P Q R h k both = both st h k
both_next (Traps kind) P Q R h k both = tt
both_next (Faults kind) P Q R h k both = tt
both_next Strays P Q R h k both = tt

pub right_next : (e : Effect) (P : State → Type 0) → OnRight e P → OnNext e P
right_next (Next st) P h = h
right_next (Traps kind) P h = tt
right_next (Faults kind) P h = tt
right_next Strays P h = tt

-- no local, and any
abbrev pub no_local : ℕ → Type 0
no_local x = ⊥

abbrev pub any_local : ℕ → Type 0
any_local x = Unit {0}

-- .. and location
abbrev pub no_location : Location → Type 0
no_location l = ⊥

abbrev pub any_location : Location → Type 0
any_location l = Unit {0}

-- the locations that have the place of one
abbrev pub HasPlaceOf : (one l : Location) → Type 0
HasPlaceOf one l = is_location one (located l) ≡ true

-- each vector and each string has its buffer, but in objects that may be bare; what it named it names still, but for locals that are given over or end; and
-- what is a unique_ptr then was one before and has what it had, but for those that are lost sight of
module _ (types : Types) (f : Function) (inputs : Root → Option Region) (bare over : ℕ → Type 0) (lost : Location → Type 0) (st : State) where
  pub record IsBehind (st' : State) : Type 0 where
    pub buffered : AreBut types bare st'.world.content
    pub touch : Touches (kinds_of types) (frame_foot types f inputs st.cells) st.world.content st'.world.content
    pub named : (x n : ℕ) → slice_get st'.cells x ≡ Some (Named n) → (0 < times (named_in st.cells) n) ⊎ (st.world.content.births ≤ n)
    pub kept : (x n : ℕ) → slice_get st.cells x ≡ Some (Named n) → over x ⊎ (slice_get st'.cells x ≡ Some (Named n))
    pub had : (l : Location) (n : ℕ) → slice_get st'.cells l.local ≡ Some (Named n) → is_unique (type_in types f l) ≡ true → lost l ⊎ ((slice_get st.cells l.local ≡ Some (Named n)) × (had_at st'.world.content n (word_in types f l) ≡ had_at st.world.content n (word_in types f l)))

  -- where only the content is another one
  abbrev pub HadStays : Content → Type 0
  HadStays d = (l : Location) (n : ℕ) → slice_get st.cells l.local ≡ Some (Named n) → is_unique (type_in types f l) ≡ true → lost l ⊎ (had_at d n (word_in types f l) ≡ had_at st.world.content n (word_in types f l))

  had_self : HadStays st.world.content
  had_self l n e unique = inr refl

  -- the cells are as they were
  pub behind_same : (st' : State) → st'.cells ≡ st.cells → AreBut types bare st'.world.content → Touches (kinds_of types) (frame_foot types f inputs st.cells) st.world.content st'.world.content → HadStays st'.world.content → IsBehind st'
  behind_same st' cells buffered touch had = record {
    buffered = buffered;
    touch = touch;
    named = λ x n e. inl (in_hand st.cells x n (subst (λ (vs : List Cell). slice_get vs x ≡ Some (Named n)) cells e));
    kept = λ x n e. inr (subst (λ (vs : List Cell). slice_get vs x ≡ Some (Named n)) (sym cells) e);
    had = λ l n e unique. let was = subst (λ (vs : List Cell). slice_get vs l.local ≡ Some (Named n)) cells e in ⊎_elim (λ gone. inl gone) (λ same. inr (was, same)) (had l n was unique);
  }

  pub behind_content : (d : Content) → AreBut types bare d → Touches (kinds_of types) (frame_foot types f inputs st.cells) st.world.content d → HadStays d → IsBehind (put_content d st)
  behind_content d = behind_same (put_content d st) refl

  -- .. and a cell, which may name what is new
  module _ (x : ℕ) (free : (n : ℕ) → slice_get st.cells x ≡ Some (Named n) → over x) where
    pub behind_cell : (v : Cell) (d : Content) → ((n : ℕ) → v ≡ Named n → (st.world.content.births ≤ n) × ((l : Location) → x ≡ l.local → is_unique (type_in types f l) ≡ true → lost l)) → AreBut types bare d → Touches (kinds_of types) (frame_foot types f inputs st.cells) st.world.content d
        → ((l : Location) (n : ℕ) → x ≢ l.local → slice_get st.cells l.local ≡ Some (Named n) → is_unique (type_in types f l) ≡ true → lost l ⊎ (had_at d n (word_in types f l) ≡ had_at st.world.content n (word_in types f l))) → IsBehind (put_cell x v (put_content d st))
    behind_cell v d new buffered touch had = record {
      buffered = buffered;
      touch = touch;
      named = λ y n e. ⊎_elim (λ h. inr (new n h.1).0) (λ h. inl (in_hand st.cells y n h.1)) (cell_cases st.cells x y v (Named n) e);
      kept = λ y n e. one_or_apart x y (λ same. inl (subst over same (free n (ap (slice_get st.cells) same ∙ e)))) (λ ne. inr (set_other st.cells x y v ne ∙ e));
      had = λ l n e unique. ⊎_elim (λ h. inl ((new n h.1).1 l h.0 unique)) (λ h. ⊎_elim (λ gone. inl gone) (λ same. inr (h.1, same)) (had l n h.0 h.1 unique)) (cell_cases st.cells x l.local v (Named n) e);
    }

    -- .. that is empty now, or points
    pub behind_empty : (d : Content) → AreBut types bare d → Touches (kinds_of types) (frame_foot types f inputs st.cells) st.world.content d
        → ((l : Location) (n : ℕ) → x ≢ l.local → slice_get st.cells l.local ≡ Some (Named n) → is_unique (type_in types f l) ≡ true → lost l ⊎ (had_at d n (word_in types f l) ≡ had_at st.world.content n (word_in types f l))) → IsBehind (put_cell x Empty (put_content d st))
    behind_empty d = behind_cell Empty d (λ n e. absurd (unlike n e))
      where
        unlike : (n : ℕ) → Empty ≡ Named n → ⊥
        unlike n e = cc

    pub behind_points : (v : Pointer) (d : Content) → AreBut types bare d → Touches (kinds_of types) (frame_foot types f inputs st.cells) st.world.content d → HadStays d → IsBehind (put_cell x (Points v) (put_content d st))
    behind_points v d buffered touch had = behind_cell (Points v) d (λ n e. absurd (unlike n e)) buffered touch (λ l n ne. had l n)
      where
        unlike : (n : ℕ) → Points v ≡ Named n → ⊥
        unlike n e = cc

  -- a pointer or a number alone is another one, or nothing is
  module _ (buffered : AreBut types bare st.world.content) where
    pub behind_self : (st' : State) → st'.world.content ≡ st.world.content → st'.cells ≡ st.cells → IsBehind st'
    behind_self st' content cells =
        behind_same st' cells (subst (AreBut types bare) (sym content) buffered)
        (subst (Touches (kinds_of types) (frame_foot types f inputs st.cells) st.world.content) (sym content) (touches_self (kinds_of types) (frame_foot types f inputs st.cells) st.world.content)) (subst HadStays (sym content) had_self)

    module _ (x : ℕ) (free : (n : ℕ) → slice_get st.cells x ≡ Some (Named n) → over x) where
      pub behind_pointer : (v : Pointer) → IsBehind (put_cell x (Points v) st)
      behind_pointer v = behind_points x free v st.world.content buffered (touches_self (kinds_of types) (frame_foot types f inputs st.cells) st.world.content) had_self

      pub behind_number : (z : ℤ) → IsBehind (put_cell x (Number z) st)
      behind_number z = behind_cell x free (Number z) st.world.content (λ n e. absurd (unlike n e)) buffered (touches_self (kinds_of types) (frame_foot types f inputs st.cells) st.world.content) (λ l n ne. had_self l n)
        where
          unlike : (n : ℕ) → Number z ≡ Named n → ⊥
          unlike n e = cc

      -- .. where input was taken, too
      pub behind_input : (z : ℤ) (zs : List ℤ) → IsBehind (put_cell x (Number z) (record st { world = record (st.world) { input = zs } }))
      behind_input z zs = let h = behind_number z in record { buffered = h.buffered; touch = h.touch; named = h.named; kept = h.kept; had = h.had }

-- more may be bare, and given over, and lost sight of
pub behind_more : (types : Types) (f : Function) (inputs : Root → Option Region) (bare over : ℕ → Type 0) (lost : Location → Type 0) (bare' over' : ℕ → Type 0) (lost' : Location → Type 0) (st st' : State) → ((n : ℕ) → bare n → bare' n) → ((x : ℕ) → over x → over' x) → ((l : Location) → lost l → lost' l)
    → IsBehind types f inputs bare over lost st st'
    → IsBehind types f inputs bare' over' lost' st st'
behind_more types f inputs bare over lost bare' over' lost' st st' lacks gives loses h = record {
  buffered = λ n i o s free there slot. h.buffered n i o s (λ b. free (lacks n b)) there slot;
  touch = h.touch;
  named = h.named;
  kept = λ x n e. ⊎_elim (λ o. inl (gives x o)) (λ k. inr k) (h.kept x n e);
  had = λ l n e unique. ⊎_elim (λ gone. inl (loses l gone)) (λ same. inr same) (h.had l n e unique);
}

-- what the facts say of the unique_ptrs that were lost sight of
abbrev pub TellsLost : Types → Function → (S' : Fact → Type 0) → (lost : Location → Type 0) → State → Type 0
TellsLost types f S' lost after =
    (l : Location) (n : ℕ) → lost l → slice_get after.cells l.local ≡ Some (Named n) → is_unique (type_in types f l) ≡ true → IsOwnerTold S' (located l) true (had_at after.world.content n (word_in types f l))

pub tells_none : (types : Types) (f : Function) (S' : Fact → Type 0) (after : State) → TellsLost types f S' no_location after
tells_none types f S' after l n none e unique = absurd none
