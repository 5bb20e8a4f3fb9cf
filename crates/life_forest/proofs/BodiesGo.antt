-- The body of a proper function goes only where its points lead, of whatever kinds its instructions are, if each call in it does.
use Rattle.std.proofs.Common.{◌≡◌, ℕ, List, Option, Some, None, refl, sym, subst, true, false, arith}
use Rattle.std.specs.Prelude.{IsSome, Contains}
use Rattle.std.proofs.lemmas.Bool.{false≢true}
use Rattle.life_types.specs.Trees.{IsOrdered}
use Rattle.life_types.specs.Types.{HasEachOnce, Types}
use Rattle.life_types.specs.declared.place.Place.{Place}
use Rattle.life_core.specs.Function.{Function}
use Rattle.life_core.specs.Operands.{Argument, Location}
use Rattle.life_core.specs.Linked.{Lead, Linked, code_of, enter, goes, no_exits, numbered, parts, spot_at}
use Rattle.life_core.specs.Proper.{HasReadyWays, IsNodeReady, Reaches, bits_past, goes_on, starts}
use Rattle.life_core.specs.Ready.{IsThere, Ready, entry_ready}
use Rattle.life_core.specs.Step.{Step, Call, Test}
use Rattle.life_core.specs.Tree.{Action, Question, Return}
use Rattle.life_core.specs.declared.exits.Exits.{Exits}
use Rattle.life_core.specs.declared.program.FnId.{FnId}
use Rattle.life_proper.specs.Placed.{slot_at}
use Rattle.life_proper.specs.WellFormedPrograms.{is_well_formed_function}
use Rattle.life_store.specs.Content.{Content}
use Rattle.life_store.specs.Doing.{Setting, Effect, Next, Traps, Faults, Strays, does}
use Rattle.life_store.specs.Meaning.{Answer, Stop, Trapped, Faulted, Stray, Exhausted, Callee, Holds, Fails, Cut as CutShort, Verdict, act, exec, paid, test_at}
use Rattle.life_store.specs.State.{State, ready_of}
use Rattle.life_store.proofs.Bodies.{body_good}
use Rattle.life_store.proofs.Going.{GoodAnswer, GoodEffect, GoodVerdict, InvAt, Keeps, paid_good}
use Rattle.life_forest.proofs.Holding.{KeepsWaiting}
use Rattle.life_forest.proofs.Keeping.{keeps_then}
use Rattle.life_forest.proofs.HeldPoints.{GoesOn, IsSound, held_answers, held_goes}
use Rattle.life_forest.proofs.SettledSteps.{IsOneFrame}
use Rattle.life_forest.proofs.SettledTests.{Answers}
use Rattle.life_forest.proofs.SettlingLives.{HaveMembers}
use Rattle.life_forest.proofs.Slots.{ArePointsFormed, slots_stay}

-- what each point asks of a state: that it is reached with the locals that are there, that the frame is sound, and that what waits has its pointers as it
-- had in the content from which the function went on
pub record IsSoundAt (types : Types) (f : Function) (rest : ℕ → ℕ) (before : Content) (p : ℕ) (st : State) : Type 0 where
  pub reached : Reaches types f p (ready_of st)
  pub sound : IsSound types f rest st
  pub waits : KeepsWaiting types rest before st.world.content

-- .. and where the function is left
pub record IsLeft (types : Types) (f : Function) (rest : ℕ → ℕ) (before : Content) (st : State) : Type 0 where
  pub ready : IsNodeReady types f (ready_of st) Return
  pub slots : (x : ℕ) → slot_at types f x ≡ true → IsThere (ready_of st) x
  pub sound : IsSound types f rest st
  pub waits : KeepsWaiting types rest before st.world.content

-- every stop but a stray one
abbrev pub IsNoStray : Stop → Type 0
IsNoStray (Trapped kind place) = Unit {0}
IsNoStray (Faulted kind place) = Unit {0}
IsNoStray Stray = ⊥
IsNoStray Exhausted = Unit {0}

module _ (types : Types) (f : Function) (rest : ℕ → ℕ) (before : Content) where
  abbrev pub SoundAnswer : Exits → Answer → Type 0
  SoundAnswer = GoodAnswer (IsSoundAt types f rest before) (IsLeft types f rest before) IsNoStray

  -- a call that is reached answers what its point leads to
  abbrev pub CallsAreSound : Setting → Callee → Type 0
  CallsAreSound s call = (b : ℕ) (place : Place) (target : Option Location) (g : FnId) (xs : List Argument) (x : Exits) → numbered (code_of f) b ≡ Some (record { spot = spot_at place (Action (Call target g xs)); leads = goes x.next })
      → (n : ℕ) (st : State) → IsSoundAt types f rest before b st → SoundAnswer x (act s types f call place (Call target g xs) n st)

module _ (types : Types) (f : Function) (ready : HasReadyWays types f) (rest : ℕ → ℕ) (before : Content) where
  -- a state with the locals behind an instruction is sound at the point to which it leads
  pub leads : (b : ℕ) (place : Place) (i : Step) (to : Option ℕ) (bits : Ready) → numbered (code_of f) b ≡ Some (record { spot = spot_at place (Action i); leads = goes to }) → Reaches types f b bits
      → (st : State) → ready_of st ≡ bits_past types f (Action i) bits → IsSound types f rest st → KeepsWaiting types rest before st.world.content → InvAt (IsSoundAt types f rest before) to st
  leads b place i None bits here way st is sound waits = absurd (false≢true (ready.leads_on b bits _ way here).0)
  leads b place i (Some q) bits here way st is sound waits =
      let l : Linked = record { spot = spot_at place (Action i); leads = goes (Some q) } in
      record { reached = subst (Reaches types f q) (sym is) (goes_on {l = l} way here (0, omega arith, refl) refl); sound = sound; waits = waits }

module _ (types : Types) (ordered : IsOrdered types) (once : HasEachOnce types) (some : HaveMembers types) (names texts : ℕ) (fs : List Function) (f : Function) (formed : is_well_formed_function types names texts fs f ≡ true) (points : ArePointsFormed types texts fs f)
    (ready : HasReadyWays types f) (rest : ℕ → ℕ) (before : Content) (s : Setting) (call : Callee) (calls : CallsAreSound types f rest before s call) where
  effect_good : (b : ℕ) (place : Place) (i : Step) (to : Option ℕ) (bits : Ready) (c : Content) → KeepsWaiting types rest before c → numbered (code_of f) b ≡ Some (record { spot = spot_at place (Action i); leads = goes to }) → Reaches types f b bits
      → (e : Effect) → GoesOn types f rest c (bits_past types f (Action i) bits) e → GoodEffect (IsSoundAt types f rest before) IsNoStray place to e
  effect_good b place i to bits c waits here way (Next st) g = leads types f ready rest before b place i to bits here way st g.bits g.sound (keeps_then types (λ n. rest n ≡ 0) before c st.world.content waits g.waits)
  effect_good b place i to bits c waits here way (Traps kind) g = tt
  effect_good b place i to bits c waits here way (Faults kind) g = tt
  effect_good b place i to bits c waits here way Strays g = g

  one_frame : (b : ℕ) (place : Place) (i : Step) (x : Exits) → IsOneFrame i → numbered (code_of f) b ≡ Some (record { spot = spot_at place (Action i); leads = goes x.next }) → (n : ℕ) (st : State) → IsSoundAt types f rest before b st
      → SoundAnswer types f rest before x (paid place st.world (does s types f i st) n)
  one_frame b place i x one here n st inv =
      paid_good (IsSoundAt types f rest before) (IsLeft types f rest before) IsNoStray tt place st.world x (does s types f i st) n
      (effect_good b place i x.next (ready_of st) st.world.content inv.waits here inv.reached (does s types f i st)
      (held_goes types ordered once some names texts fs f formed points ready rest s b st (record { spot = spot_at place (Action i); leads = goes x.next }) i inv.reached here refl one inv.sound))

  acts : (b : ℕ) (place : Place) (i : Step) (x : Exits) → numbered (code_of f) b ≡ Some (record { spot = spot_at place (Action i); leads = goes x.next }) → (n : ℕ) (st : State) → IsSoundAt types f rest before b st
      → SoundAnswer types f rest before x (act s types f call place i n st)
  acts b place (Call target g xs) x here n st inv = calls b place target g xs x here n st inv
  acts b place i x here n st inv = one_frame b place i x tt here n st inv

  -- ---- the tests

  -- a state that stays as it is is sound at the point to which a lead goes
  lead_stands : (b : ℕ) (place : Place) (t : Test) (held failed : Option ℕ) (lead : Lead) (st : State) → numbered (code_of f) b ≡ Some (record { spot = spot_at place (Question t); leads = parts held failed }) → Contains (parts held failed) lead → IsSome lead.to
      → IsSoundAt types f rest before b st → InvAt (IsSoundAt types f rest before) lead.to st
  lead_stands b place t held failed lead st here among is inv = go lead.to refl is
    where
      l : Linked
      l = record { spot = spot_at place (Question t); leads = parts held failed }

      go : (to : Option ℕ) → lead.to ≡ to → IsSome to → InvAt (IsSoundAt types f rest before) to st
      go None e h = absurd (false≢true h)
      go (Some q) e h = record { reached = goes_on {l = record { spot = spot_at place (Question t); leads = parts held failed }} inv.reached here among e; sound = inv.sound; waits = inv.waits }

  verdict_good : (held failed : Option ℕ) (st : State) (v : Verdict) → Answers st v → InvAt (IsSoundAt types f rest before) held st → InvAt (IsSoundAt types f rest before) failed st → GoodVerdict (IsSoundAt types f rest before) IsNoStray held failed v
  verdict_good held failed st (Holds n after) is a b = subst (InvAt (IsSoundAt types f rest before) held) (sym is) a
  verdict_good held failed st (Fails n after) is a b = subst (InvAt (IsSoundAt types f rest before) failed) (sym is) b
  verdict_good held failed st (CutShort stop w) is a b = absurd is

  first_lead : (held failed : Option ℕ) → Contains (parts held failed) (record { branch = Some true; to = held })
  first_lead held failed = (0, omega arith, refl)

  second_lead : (held failed : Option ℕ) → Contains (parts held failed) (record { branch = Some false; to = failed })
  second_lead held failed = (1, omega arith, refl)

  -- ---- the whole

  keeps : Keeps s types f call (IsSoundAt types f rest before) (IsLeft types f rest before) IsNoStray
  keeps = record {
    acts = acts;
    asks = λ b place t held failed here n st inv.
        let l : Linked = record { spot = spot_at place (Question t); leads = parts held failed } in
        let on = ready.leads_on b (ready_of st) l inv.reached here in
        verdict_good held failed st (test_at types f t n st) (held_answers types ordered once some names texts fs f formed points ready rest b st l t n inv.reached here refl inv.sound)
        (lead_stands b place t held failed _ st here (first_lead held failed) on.0 inv)
        (lead_stands b place t held failed _ st here (second_lead held failed) on.1.0 inv);
    returns = λ b place here st inv. record { ready = ready.ready b (ready_of st) _ inv.reached here; slots = slots_stay types ordered texts fs f names formed points b (ready_of st) inv.reached; sound = inv.sound; waits = inv.waits };
    stops = λ b place here st inv. tt;
    exhausted = tt;
  }

  pub body_goes : (n : ℕ) (st : State) → ready_of st ≡ entry_ready f → IsSound types f rest st → KeepsWaiting types rest before st.world.content → SoundAnswer types f rest before no_exits (exec s types f call f.body n st)
  body_goes n st is sound waits = body_good s types f call (IsSoundAt types f rest before) (IsLeft types f rest before) IsNoStray keeps ready.statement ready.straight n st (first (enter f.body 1 no_exits) refl ready.begins)
    where
      first : (to : Option ℕ) → enter f.body 1 no_exits ≡ to → IsSome to → InvAt (IsSoundAt types f rest before) to st
      first None e h = absurd (false≢true h)
      first (Some p) e h = record { reached = subst (Reaches types f p) (sym is) (starts e); sound = sound; waits = waits }
