-- Kind by kind, of a whole frame: an instruction with which nothing is wrong makes no fault, and the facts behind it cover all its pointers.
use Rattle.std.proofs.Common.{◌≡◌, ℕ, Bool, true, false, List, [], ◌++◌, Option, Some, None, refl, sym, subst}
use Rattle.std.specs.Prelude.{Contains, cond}
use Rattle.std.specs.List.{flat_map}
use Rattle.std.proofs.lemmas.List.Elements.{Contains-append_left, Contains-append_right}
use Rattle.life_types.specs.TypeTests.{is_pointer}
use Rattle.life_types.specs.Types.{Types}
use Rattle.life_types.specs.declared.place.Place.{Place}
use Rattle.life_core.specs.declared.instr.Direction.{Direction}
use Rattle.life_core.specs.declared.operand.RangeEnd.{RangeEnd}
use Rattle.life_core.specs.declared.operand.Which.{Which}
use Rattle.life_core.specs.Function.{Function}
use Rattle.life_core.specs.Operands.{Location}
use Rattle.life_core.specs.Operands as named
use Rattle.life_core.specs.Step.{Advance, Cursor, Cut, Step}
use Rattle.life_core.specs.Step as step
use Rattle.life_pset.specs.Elements.{locations_of}
use Rattle.life_pset.specs.declared.element.Element.{Element}
use Rattle.life_pset.specs.declared.element.Element.TheVariants as element
use Rattle.life_pset.specs.declared.element.Fact.{Fact}
use Rattle.life_pset.specs.declared.element.AbsPlace.{AbsPlace}
use Rattle.life_pset.specs.declared.element.Root.{Root}
use Rattle.life_pset.proofs.Numbers.{place_laws}
use Rattle.life_contract.specs.Located.{is_location, located}
use Rattle.life_contract.specs.Signatures.{Signature}
use Rattle.life_rules.specs.Arguing.{argument_diags}
use Rattle.life_proper.specs.Placed.{type_in}
use Rattle.life_rules.specs.Carrying.{is_gone, makes, taken, writes}
use Rattle.life_rules.specs.Diagnosing.{misopened_as, misread, misread_as, misused_as, moved_as, opens, owners, reads, step_diags, step_diags_of_two, use_diags, uses}
use Rattle.life_rules.specs.Keeping.{keeping_diags}
use Rattle.life_rules.specs.Matching.{fact_at}
use Rattle.life_rules.specs.declared.diag.Diag.{Diag}
use Rattle.life_rules.specs.declared.diag.DiagKind.TheVariants.{DanglingUse}
use Rattle.life_rules.specs.declared.diag.Why.TheVariants as why
use Rattle.life_rules.proofs.Giving.{at_head, flat_map_into}
use Rattle.life_store.specs.Doing.{does}
use Rattle.life_store.specs.Effects.{Setting}
use Rattle.life_store.specs.Places.{location_cell, pointed}
use Rattle.life_store.specs.State.{Pointer, Points, State}
use Rattle.life_forest.specs.Forest.{IsForest}
use Rattle.life_forest.specs.Kinds.{kinds_of}
use Rattle.life_cover.specs.Covers.{IsCovered, Reseen}
use Rattle.life_cover.specs.Frames.{LocationsCovered, RootStands, look_in}
use Rattle.life_cover.specs.Kills.{Closed}
use Rattle.life_cover.specs.Regions.{Region}
use Rattle.life_cover.proofs.Pointers.{OnRight}
use Rattle.life_cover.proofs.Takes.{taken_fact}
use Rattle.life_cover.proofs.Using.{NotInvalid}
use Rattle.life_cover.proofs.Walks.{advance_right, cursor_right, cut_right, element_right}

-- nothing is wrong at the instruction
abbrev pub IsClean : List Signature → Types → ℕ → Function → Place → Step → (Fact → Type 0) → Type 0
IsClean sigs types n f place i S = (x : Fact) → S x → (d : Diag) → Contains (step_diags sigs types n f place i x) d → ⊥

-- .. with two facts
abbrev pub IsCleanOfTwo : List Signature → Types → ℕ → Function → Place → Step → (Fact → Type 0) → Type 0
IsCleanOfTwo sigs types n f place i S = (a b : Fact) → S a → S b → (d : Diag) → Contains (step_diags_of_two sigs types n f place i a b) d → ⊥

-- so a view, a span or an iterator that it reads may not be invalid
pub read_right : (sigs : List Signature) (types : Types) (n : ℕ) (f : Function) (place : Place) (i : Step) (S : Fact → Type 0) → IsClean sigs types n f place i S → (l : Location) → Contains (reads i) l → NotInvalid S (located l)
read_right sigs types n f place i S clean l read cause s =
    clean x s d
    (Contains-append_left (use_diags types n f place i x) (argument_diags sigs types n place i x ++ keeping_diags sigs types n f place i x) d
    (Contains-append_right (flat_map (misused_as n place x) (uses i)) (flat_map (misread_as n place x) (reads i) ++ (flat_map (misopened_as n place x) (opens i) ++ flat_map (moved_as types n f place x) (owners i))) d
    (Contains-append_left (flat_map (misread_as n place x) (reads i)) (flat_map (misopened_as n place x) (opens i) ++ flat_map (moved_as types n f place x) (owners i)) d
    (flat_map_into (misread_as n place x) (reads i) l d read
    (subst (λ b. Contains (cond b (misread n place (located l) (element.Invalid cause)) []) d) (sym (place_laws.refl (located l))) (at_head d []))))))
  where
    x : Fact
    x = fact_at (located l) (element.Invalid cause)

    d : Diag
    d = record { function = n; place = place; kind = DanglingUse; name = located l; called = None; why = why.Cause cause }

module _ (types : Types) (f : Function) (hand : ℕ → ℕ) (st : State) (forest : IsForest (kinds_of types) hand st.world.content) (Input : Root → Region → Type 0) (may_change : Root → Bool) (sigs : List Signature) (n : ℕ) (place : Place) (S S' : Fact → Type 0)
    (old : LocationsCovered types f Input may_change S st) (p q : Location) (v : Pointer) (pointer : is_pointer (type_in types f q) ≡ true) (there : location_cell types f q st ≡ Some (Points v)) (listed : Contains (locations_of types f) (located p))
    (target : Reseen types (look_in types f q).target (look_in types f p).target) (constant : (look_in types f p).constant ≡ false → (look_in types f q).constant ≡ false) (s : Setting) where
  -- p may be given what is covered, where an instruction writes p alone and kills nothing
  abbrev pub MayGive : Type 0
  MayGive =
      (i : Step) → Closed sigs types f place i S S' → ((e : Element) → is_gone types f place i e ≡ false) → ((a : AbsPlace) → writes i a ≡ is_location p a) → (u : Pointer)
      → IsCovered types st.world.content (RootStands types f Input st.cells) may_change S' (located p) (look_in types f p) u → OnRight (pointed types f p u st) (LocationsCovered types f Input may_change S')

  -- it takes what q has
  record IsTaking (i : Step) : Type 0 where
    pub clean : IsClean sigs types n f place i S
    pub closed : Closed sigs types f place i S S'
    pub takes_all : (x : Fact) → makes sigs types f place i x ≡ taken p q x
    pub gone : (e : Element) → is_gone types f place i e ≡ false
    pub writes_p : (a : AbsPlace) → writes i a ≡ is_location p a
    pub reads_q : Contains (reads i) q

  module _ (give : MayGive) where
    module _ (i : Step) (taking : IsTaking i) where
      right : NotInvalid S (located q)
      right = read_right sigs types n f place i S taking.clean q taking.reads_q

      takes : (e : Element) → S (fact_at (located q) e) → S' (fact_at (located p) e)
      takes e h = taken_fact sigs types f place i S S' taking.closed p q taking.takes_all listed e h

      given : (u : Pointer) → IsCovered types st.world.content (RootStands types f Input st.cells) may_change S' (located p) (look_in types f p) u → OnRight (pointed types f p u st) (LocationsCovered types f Input may_change S')
      given u covers = give i taking.closed taking.gone taking.writes_p u covers

    pub advance_kind : (r : ℕ) (way : Direction) → IsClean sigs types n f place (Advance p q r way) S → Closed sigs types f place (Advance p q r way) S S' → (look_in types f q).ranged ≡ false → (look_in types f p).ranged ≡ false → OnRight (does s types f (Advance p q r way) st) (LocationsCovered types f Input may_change S')
    advance_kind r way clean closed is is' =
        advance_right types f (RootStands types f Input st.cells) may_change S S' st p q v there (right (Advance p q r way) taking) target constant (takes (Advance p q r way) taking) (old q v pointer there) hand forest (LocationsCovered types f Input may_change S') (given (Advance p q r way) taking) s r way is is'
      where
        taking : IsTaking (Advance p q r way)
        taking = record { clean = clean; closed = closed; takes_all = λ x. refl; gone = λ e. refl; writes_p = λ a. refl; reads_q = at_head q [] }

    pub cut_kind : (r : ℕ) (count : Option ℕ) → IsClean sigs types n f place (Cut p q r count) S → Closed sigs types f place (Cut p q r count) S S' → (look_in types f q).ranged ≡ true → (look_in types f p).ranged ≡ true → OnRight (does s types f (Cut p q r count) st) (LocationsCovered types f Input may_change S')
    cut_kind r count clean closed is is' =
        cut_right types f (RootStands types f Input st.cells) may_change S S' st p q v there (right (Cut p q r count) taking) target constant (takes (Cut p q r count) taking) (old q v pointer there) hand forest (LocationsCovered types f Input may_change S') (given (Cut p q r count) taking) r count is is'
      where
        taking : IsTaking (Cut p q r count)
        taking = record { clean = clean; closed = closed; takes_all = λ x. refl; gone = λ e. refl; writes_p = λ a. refl; reads_q = at_head q [] }

    pub element_kind : (w : Which) → IsClean sigs types n f place (step.Element p (named.Pointer q) w) S → Closed sigs types f place (step.Element p (named.Pointer q) w) S S' → (look_in types f q).ranged ≡ true → (look_in types f p).ranged ≡ false → OnRight (does s types f (step.Element p (named.Pointer q) w) st) (LocationsCovered types f Input may_change S')
    element_kind w clean closed is is' =
        element_right types f (RootStands types f Input st.cells) may_change S S' st p q v there (right (step.Element p (named.Pointer q) w) taking) target constant (takes (step.Element p (named.Pointer q) w) taking) (old q v pointer there) hand forest (LocationsCovered types f Input may_change S') (given (step.Element p (named.Pointer q) w) taking) w is is'
      where
        taking : IsTaking (step.Element p (named.Pointer q) w)
        taking = record { clean = clean; closed = closed; takes_all = λ x. refl; gone = λ e. refl; writes_p = λ a. refl; reads_q = at_head q [] }

    pub cursor_kind : (end : RangeEnd) → IsClean sigs types n f place (Cursor p (named.Pointer q) end) S → Closed sigs types f place (Cursor p (named.Pointer q) end) S S' → (look_in types f q).ranged ≡ true → (look_in types f p).ranged ≡ false → OnRight (does s types f (Cursor p (named.Pointer q) end) st) (LocationsCovered types f Input may_change S')
    cursor_kind end clean closed is is' =
        cursor_right types f (RootStands types f Input st.cells) may_change S S' st p q v there (right (Cursor p (named.Pointer q) end) taking) target constant (takes (Cursor p (named.Pointer q) end) taking) (old q v pointer there) hand forest (LocationsCovered types f Input may_change S') (given (Cursor p (named.Pointer q) end) taking) end is is'
      where
        taking : IsTaking (Cursor p (named.Pointer q) end)
        taking = record { clean = clean; closed = closed; takes_all = λ x. refl; gone = λ e. refl; writes_p = λ a. refl; reads_q = at_head q [] }
