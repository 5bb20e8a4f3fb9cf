-- The body of a proper function of which nothing is diagnosed, makes no fault, if no call in it does.
use Rattle.std.proofs.Common.{◌≡◌, ℕ, Bool, List, [], Option, Some, None, refl, sym, subst, ◌∙◌, true, false, arith}
use Rattle.std.specs.Prelude.{Contains, IsSome}
use Rattle.std.proofs.lemmas.Bool.{false≢true}
use Rattle.life_types.specs.Trees.{IsOrdered}
use Rattle.life_types.specs.Types.{HasEachOnce, Types}
use Rattle.life_types.specs.declared.place.Place.{Place}
use Rattle.life_core.specs.Function.{Function}
use Rattle.life_core.specs.Linked.{Linked, code_of, enter, entry_of, goes, no_exits, numbered, parts, spot_at, target_of}
use Rattle.life_core.specs.Proper.{HasReadyWays, Reaches, bits_past, goes_on, starts}
use Rattle.life_core.specs.Ready.{entry_ready}
use Rattle.life_core.specs.Step.{Call, Step, Test}
use Rattle.life_core.specs.Tree.{Action, Question, Return}
use Rattle.life_core.specs.declared.exits.Entry.{Entry}
use Rattle.life_core.specs.declared.exits.Entry.TheVariants as entry
use Rattle.life_core.specs.declared.exits.Exits.{Exits}
use Rattle.life_pset.specs.Elements.{AreShort, elements_of}
use Rattle.life_pset.specs.declared.element.Fact.{Fact}
use Rattle.life_pset.specs.declared.element.Root.{Root}
use Rattle.life_contract.specs.Signatures.{Signature}
use Rattle.life_proper.specs.GivenOver.{all_keep_given}
use Rattle.life_proper.specs.WellFormedPrograms.{is_well_formed_function}
use Rattle.life_rules.specs.Diagnosing.{IsDiagnosed}
use Rattle.life_rules.specs.declared.diag.Diag.{Diag}
use Rattle.life_store.specs.Doing.{does}
use Rattle.life_store.specs.Effects.{Setting, Effect, Next, Traps, Faults, Strays}
use Rattle.life_store.specs.Meaning.{Answer, Callee, Stop, Trapped, Faulted, Stray, Exhausted, Verdict, Holds, Fails, Cut as CutShort, act, exec, test_at, paid}
use Rattle.life_store.specs.State.{State, ready_of}
use Rattle.life_store.specs.Content.{Content}
use Rattle.life_store.proofs.Bodies.{body_good}
use Rattle.life_store.proofs.CellLemmas.{some_same}
use Rattle.life_store.proofs.Going.{GoodAnswer, GoodEffect, GoodVerdict, InvAt, Keeps, paid_good}
use Rattle.life_forest.proofs.HeldPoints.{held_answers}
use Rattle.life_forest.proofs.SettledTests.{Answers}
use Rattle.life_forest.proofs.SettlingLives.{HaveMembers}
use Rattle.life_forest.proofs.Slots.{ArePointsFormed}
use Rattle.life_forest.proofs.Holding.{KeepsWaiting}
use Rattle.life_forest.proofs.Keeping.{keeps_then}
use Rattle.life_cover.specs.Frames.{FrameCovered}
use Rattle.life_cover.specs.Lacking.{MayLack}
use Rattle.life_cover.specs.Regions.{Region}
use Rattle.life_cover.proofs.Branches.{IsCoveredBy, test_covered}
use Rattle.life_cover.proofs.Edges.{FactsAt, Passes, clean_at, clean_of_two_at, closed_at, failed_passes, held_passes}
use Rattle.life_cover.proofs.FramePoints.{GoesSafe, IsSafe, known, point_safe}
use Rattle.life_cover.proofs.FrameSteps.{IsSpoken}
use Rattle.life_cover.proofs.KnownFrames.{IsRight}
use Rattle.life_cover.proofs.Unnamed.{derived_unnamed, given_away}
use Rattle.life_cover.proofs.Owning.{IsOwn, own_behind}
use Rattle.life_cover.proofs.Arguments.{AreSlotless}
use Rattle.life_cover.proofs.CallKinds.{IsPlainTarget}
use Rattle.life_cover.proofs.Buffering.{but_more}
use Rattle.life_cover.proofs.StillLacking.{passed_lacking}
use Rattle.life_cover.proofs.Unmoved.{derived_unmoved, given_never}
use Rattle.life_forest.specs.Typed.{IsStore}
use Rattle.life_core.specs.declared.program.FnId.{FnId}
use Rattle.life_core.specs.Operands.{Argument, Location}
use Rattle.life_cover.proofs.UniqueTests.{IsToldBy, test_told}
use Rattle.life_cover.specs.Uniques.{UniquesTold}

-- control enters by the first point, if by any
enters_first : (e : Entry) → IsSome (target_of e 1 no_exits) → target_of e 1 no_exits ≡ Some 1
enters_first entry.First h = refl
enters_first entry.Next h = absurd (false≢true h)
enters_first entry.Break h = absurd (false≢true h)
enters_first entry.Continue h = absurd (false≢true h)

-- a run may be trapped, or come to its last step
abbrev pub IsSafeStop : Stop → Type 0
IsSafeStop (Trapped kind place) = Unit {0}
IsSafeStop (Faulted kind place) = ⊥
IsSafeStop Stray = ⊥
IsSafeStop Exhausted = Unit {0}

-- what each point asks of a state: that it is reached with the locals that are there, that the frame is safe with what is derived there, and that since
-- the function began nothing was touched but what it was given, while what waits has its pointers still
pub record IsSafeAt (sigs : List Signature) (types : Types) (f : Function) (rest : ℕ → ℕ) (inputs : Root → Option Region) (before : Content) (given : List ℕ) (p : ℕ) (st : State) : Type 0 where
  pub reached : Reaches types f p (ready_of st)
  pub safe : IsSafe types f rest inputs (FactsAt sigs types f p) st
  pub own : IsOwn types f inputs given before st
  pub waits : KeepsWaiting types rest before st.world.content

-- .. and where the function is left
pub record IsLeftSafe (sigs : List Signature) (types : Types) (f : Function) (rest : ℕ → ℕ) (inputs : Root → Option Region) (before : Content) (given : List ℕ) (st : State) : Type 0 where
  pub point : ℕ
  pub place : Place
  pub returns : numbered (code_of f) point ≡ Some (record { spot = spot_at place Return; leads = [] })
  pub safe : IsSafeAt sigs types f rest inputs before given point st

abbrev pub SafeAnswer : List Signature → Types → Function → (ℕ → ℕ) → (Root → Option Region) → Content → List ℕ → Exits → Answer → Type 0
SafeAnswer sigs types f rest inputs before given = GoodAnswer (IsSafeAt sigs types f rest inputs before given) (IsLeftSafe sigs types f rest inputs before given) IsSafeStop

-- each instruction of the body is a call that is spoken of, or no call
abbrev pub IsSpokenAction : Types → Function → Step → Type 0
IsSpokenAction types f (Call target g xs) = IsPlainTarget types f target × AreSlotless xs
IsSpokenAction types f i = IsSpoken types f i

abbrev pub IsSpokenBody : Types → Function → Type 0
IsSpokenBody types f = (p : ℕ) (l : Linked) (i : Step) → numbered (code_of f) p ≡ Some l → l.spot.node ≡ Action i → IsSpokenAction types f i

-- a call that is reached answers what its point leads to
abbrev pub CallsAreSafe : List Signature → Types → Function → (ℕ → ℕ) → (Root → Option Region) → Content → List ℕ → Setting → Callee → Type 0
CallsAreSafe sigs types f rest inputs before given s call = (b : ℕ) (place : Place) (target : Option Location) (g : FnId) (xs : List Argument) (x : Exits) → numbered (code_of f) b ≡ Some (record { spot = spot_at place (Action (Call target g xs)); leads = goes x.next })
    → (n : ℕ) (st : State) → IsSafeAt sigs types f rest inputs before given b st → SafeAnswer sigs types f rest inputs before given x (act s types f call place (Call target g xs) n st)

module _ (types : Types) (ordered : IsOrdered types) (once : HasEachOnce types) (some : HaveMembers types) (names texts : ℕ) (fs : List Function) (f : Function) (formed : is_well_formed_function types names texts fs f ≡ true) (points : ArePointsFormed types texts fs f)
    (ready : HasReadyWays types f) (short : AreShort (elements_of types f)) (kept : all_keep_given types f ≡ true) (spoken : IsSpokenBody types f) (sigs : List Signature) (number : ℕ) (none : (d : Diag) → IsDiagnosed sigs types number f d → ⊥)
    (rest : ℕ → ℕ) (inputs : Root → Option Region) (before : Content) (given : List ℕ) (hand : ℕ → ℕ) (store : IsStore types hand before) (s : Setting) where
  -- ---- instructions

  pub right_at : (b q : ℕ) (place : Place) (i : Step) → numbered (code_of f) b ≡ Some (record { spot = spot_at place (Action i); leads = goes (Some q) }) → IsRight sigs types number f place i (FactsAt sigs types f b) (FactsAt sigs types f q)
  right_at b q place i here = record {
    clean = clean_at sigs types f number none i b place (goes (Some q)) here;
    clean_of_two = clean_of_two_at sigs types f number none i b place (goes (Some q)) here;
    unmoved = λ x buffer has. derived_unmoved types sigs texts fs f points x (given_never types texts fs f points x kept b (record { spot = spot_at place (Action i); leads = goes (Some q) }) here has) b;
    given = λ x object has. derived_unnamed sigs types f kept x (given_away types f b (record { spot = spot_at place (Action i); leads = goes (Some q) }) x here object has) b;
    closed = closed_at sigs types f i b q place here;
  }

  pub effect_good : (b q : ℕ) (place : Place) (i : Step) (st : State) → numbered (code_of f) b ≡ Some (record { spot = spot_at place (Action i); leads = goes (Some q) }) → IsSafeAt sigs types f rest inputs before given b st
      → (e : Effect) → GoesSafe types f rest inputs (FactsAt sigs types f q) (bits_past types f (Action i) (ready_of st)) st e → GoodEffect (IsSafeAt sigs types f rest inputs before given) IsSafeStop place (Some q) e
  effect_good b q place i st here inv (Next after) g =
      let l : Linked = record { spot = spot_at place (Action i); leads = goes (Some q) } in
      record {
        reached = subst (Reaches types f q) (sym g.bits) (goes_on {l = l} inv.reached here (0, omega arith, refl) refl);
        safe = g.safe;
        own = own_behind types f inputs given hand before store st after inv.own g.behind;
        waits = keeps_then types (λ n. rest n ≡ 0) before st.world.content after.world.content inv.waits g.waits;
      }
  effect_good b q place i st here inv (Traps kind) g = tt
  effect_good b q place i st here inv (Faults kind) g = g
  effect_good b q place i st here inv Strays g = g

  acts_to : (b : ℕ) (place : Place) (i : Step) (to : Option ℕ) → numbered (code_of f) b ≡ Some (record { spot = spot_at place (Action i); leads = goes to }) → IsSpoken types f i → (st : State) → IsSafeAt sigs types f rest inputs before given b st
      → GoodEffect (IsSafeAt sigs types f rest inputs before given) IsSafeStop place to (does s types f i st)
  acts_to b place i None here is st inv = absurd (false≢true (ready.leads_on b (ready_of st) (record { spot = spot_at place (Action i); leads = goes None }) inv.reached here).0)
  acts_to b place i (Some q) here is st inv =
      let l : Linked = record { spot = spot_at place (Action i); leads = goes (Some q) } in
      effect_good b q place i st here inv (does s types f i st)
      (point_safe types ordered once some names texts fs f formed points ready short rest inputs s sigs number place (FactsAt sigs types f b) (FactsAt sigs types f q) b st l i inv.reached here refl is (right_at b q place i here) inv.safe)

  -- ---- tests

  -- the facts to which a branch leads
  abbrev LeadFacts : Option ℕ → Fact → Type 0
  LeadFacts None x = Unit {0}
  LeadFacts (Some q) x = FactsAt sigs types f q x

  held_facts : (b : ℕ) (place : Place) (t : Test) (held failed : Option ℕ) → numbered (code_of f) b ≡ Some (record { spot = spot_at place (Question t); leads = parts held failed }) → Passes t true (FactsAt sigs types f b) (LeadFacts held)
  held_facts b place t None failed here a h stays = tt
  held_facts b place t (Some q) failed here a h stays = held_passes sigs types f t b q place failed here a h stays

  failed_facts : (b : ℕ) (place : Place) (t : Test) (held failed : Option ℕ) → numbered (code_of f) b ≡ Some (record { spot = spot_at place (Question t); leads = parts held failed }) → Passes t false (FactsAt sigs types f b) (LeadFacts failed)
  failed_facts b place t held None here a h stays = tt
  failed_facts b place t held (Some q) here a h stays = failed_passes sigs types f t b q place held here a h stays

  -- a state that stays as it is is safe at the point to which a branch leads, with what the branch passes on
  branch_safe : (b : ℕ) (place : Place) (t : Test) (held failed : Option ℕ) (branch : Option Bool) (to : Option ℕ) (st : State) → numbered (code_of f) b ≡ Some (record { spot = spot_at place (Question t); leads = parts held failed })
      → Contains (parts held failed) (record { branch = branch; to = to }) → IsSome to → IsSafeAt sigs types f rest inputs before given b st → ((n : ℕ) → MayLack types f inputs (FactsAt sigs types f b) st n → MayLack types f inputs (LeadFacts to) st n)
      → FrameCovered types f inputs (LeadFacts to) st → UniquesTold types f (LeadFacts to) st → InvAt (IsSafeAt sigs types f rest inputs before given) to st
  branch_safe b place t held failed branch None st here among is inv lacks covered told = absurd (false≢true is)
  branch_safe b place t held failed branch (Some q) st here among is inv lacks covered told = record {
    reached = goes_on {l = record { spot = spot_at place (Question t); leads = parts held failed }} inv.reached here among refl;
    safe = record { sound = inv.safe.sound; given = inv.safe.given; covered = covered; buffered = but_more types (MayLack types f inputs (FactsAt sigs types f b) st) (MayLack types f inputs (FactsAt sigs types f q) st) st.world.content lacks inv.safe.buffered; told = told };
    own = inv.own;
    waits = inv.waits;
  }

  verdict_good : (held failed : Option ℕ) (st : State) (v : Verdict) → Answers st v → IsCoveredBy types f inputs (LeadFacts held) (LeadFacts failed) v → IsToldBy types f (LeadFacts held) (LeadFacts failed) v → (FrameCovered types f inputs (LeadFacts held) st → UniquesTold types f (LeadFacts held) st → InvAt (IsSafeAt sigs types f rest inputs before given) held st)
      → (FrameCovered types f inputs (LeadFacts failed) st → UniquesTold types f (LeadFacts failed) st → InvAt (IsSafeAt sigs types f rest inputs before given) failed st) → GoodVerdict (IsSafeAt sigs types f rest inputs before given) IsSafeStop held failed v
  verdict_good held failed st (Holds n after) is covered told a b = subst (InvAt (IsSafeAt sigs types f rest inputs before given) held) (sym is) (a (subst (FrameCovered types f inputs (LeadFacts held)) is covered) (subst (UniquesTold types f (LeadFacts held)) is told))
  verdict_good held failed st (Fails n after) is covered told a b = subst (InvAt (IsSafeAt sigs types f rest inputs before given) failed) (sym is) (b (subst (FrameCovered types f inputs (LeadFacts failed)) is covered) (subst (UniquesTold types f (LeadFacts failed)) is told))
  verdict_good held failed st (CutShort stop w) is covered told a b = absurd is

  asks : (b : ℕ) (place : Place) (t : Test) (held failed : Option ℕ) → numbered (code_of f) b ≡ Some (record { spot = spot_at place (Question t); leads = parts held failed }) → (n : ℕ) (st : State) → IsSafeAt sigs types f rest inputs before given b st
      → GoodVerdict (IsSafeAt sigs types f rest inputs before given) IsSafeStop held failed (test_at types f t n st)
  asks b place t held failed here n st inv =
      let l : Linked = record { spot = spot_at place (Question t); leads = parts held failed } in
      let on = ready.leads_on b (ready_of st) l inv.reached here in
      verdict_good held failed st (test_at types f t n st) (held_answers types ordered once some names texts fs f formed points ready rest b st l t n inv.reached here refl inv.safe.sound)
      (test_covered types f rest inputs (FactsAt sigs types f b) st (known types ordered once some names texts fs f formed points ready short rest inputs (FactsAt sigs types f b) st inv.safe) (LeadFacts held) (LeadFacts failed) t n (held_facts b place t held failed here) (failed_facts b place t held failed here))
      (test_told types f rest inputs (FactsAt sigs types f b) st (known types ordered once some names texts fs f formed points ready short rest inputs (FactsAt sigs types f b) st inv.safe) (LeadFacts held) (LeadFacts failed) t n (held_facts b place t held failed here) (failed_facts b place t held failed here))
      (λ covered told. branch_safe b place t held failed (Some true) held st here (0, omega arith, refl) on.0 inv (lacking (LeadFacts held) true (held_facts b place t held failed here)) covered told)
      (λ covered told. branch_safe b place t held failed (Some false) failed st here (1, omega arith, refl) on.1.0 inv (lacking (LeadFacts failed) false (failed_facts b place t held failed here)) covered told)
    where
      lacking : (S' : Fact → Type 0) (branch : Bool) → Passes t branch (FactsAt sigs types f b) S' → (m : ℕ) → MayLack types f inputs (FactsAt sigs types f b) st m → MayLack types f inputs S' st m
      lacking S' branch passes = passed_lacking types f rest inputs texts fs (FactsAt sigs types f b) S' st t branch (points b (record { spot = spot_at place (Question t); leads = parts held failed }) here) passes

  -- ---- the whole

  module _ (call : Callee) (calls : CallsAreSafe sigs types f rest inputs before given s call) where
    -- of a kind that is no call
    one_acts : (b : ℕ) (place : Place) (i : Step) (x : Exits) → IsSpoken types f i → numbered (code_of f) b ≡ Some (record { spot = spot_at place (Action i); leads = goes x.next }) → (n : ℕ) (st : State) → IsSafeAt sigs types f rest inputs before given b st
        → SafeAnswer sigs types f rest inputs before given x (paid place st.world (does s types f i st) n)
    one_acts b place i x is here n st inv = paid_good (IsSafeAt sigs types f rest inputs before given) (IsLeftSafe sigs types f rest inputs before given) IsSafeStop tt place st.world x (does s types f i st) n (acts_to b place i x.next here is st inv)

    acts : (b : ℕ) (place : Place) (i : Step) (x : Exits) → numbered (code_of f) b ≡ Some (record { spot = spot_at place (Action i); leads = goes x.next }) → (n : ℕ) (st : State) → IsSafeAt sigs types f rest inputs before given b st
        → SafeAnswer sigs types f rest inputs before given x (act s types f call place i n st)
    acts b place (Call target g xs) x here n st inv = calls b place target g xs x here n st inv
    acts b place i x here n st inv = one_acts b place i x (spoken b (record { spot = spot_at place (Action i); leads = goes x.next }) i here refl) here n st inv

    keeps : Keeps s types f call (IsSafeAt sigs types f rest inputs before given) (IsLeftSafe sigs types f rest inputs before given) IsSafeStop
    keeps = record {
      acts = acts;
      asks = asks;
      returns = λ b place here st inv. record { point = b; place = place; returns = here; safe = inv };
      stops = λ b place here st inv. tt;
      exhausted = tt;
    }

    pub body_safe : (n : ℕ) (st : State) → ready_of st ≡ entry_ready f → IsSafe types f rest inputs (FactsAt sigs types f 1) st → IsOwn types f inputs given before st → KeepsWaiting types rest before st.world.content → SafeAnswer sigs types f rest inputs before given no_exits (exec s types f call f.body n st)
    body_safe n st is safe own waits = body_good s types f call (IsSafeAt sigs types f rest inputs before given) (IsLeftSafe sigs types f rest inputs before given) IsSafeStop keeps ready.statement ready.straight n st (first (enter f.body 1 no_exits) refl ready.begins)
      where
        first : (to : Option ℕ) → enter f.body 1 no_exits ≡ to → IsSome to → InvAt (IsSafeAt sigs types f rest inputs before given) to st
        first None e h = absurd (false≢true h)
        first (Some p) e h =
            let one : p ≡ 1 = some_same (sym e ∙ enters_first (entry_of f.body) (subst IsSome (sym e) h)) in
            record { reached = subst (Reaches types f p) (sym is) (starts e); safe = subst (λ q. IsSafe types f rest inputs (FactsAt sigs types f q) st) (sym one) safe; own = own; waits = waits }
