-- The machine goes where the meaning of a program goes, but where a step strays: so of every program whose bodies are statements.
use Rattle.std.proofs.Common.{◌≡◌, ℕ, zero, suc, ◌+◌, ◌<◌, ◌≤◌, List, [], ◌∷◌, ◌++◌, length, Option, Some, None, refl, sym, ap, subst, ◌∙◌, arith, cond}
use Rattle.std.proofs.lemmas.Bool.{and_parts, false≢true, le-ltb, lt-ltb}
use Rattle.std.specs.Prelude.{ℤ, pos, negsuc, IsTrue, ◌&&◌, slice_get}
use Rattle.life_types.specs.Types.{Types}
use Rattle.life_types.specs.declared.place.Place.{Place}
use Rattle.life_core.specs.declared.exits.Exits.{Exits}
use Rattle.life_core.specs.Step.{Step, Call, Test, NonZero, NotNull}
use Rattle.life_core.specs.Function.{Function, Program}
use Rattle.life_core.specs.Linked.{Linked, goes, parts, spot_at, enter, with_next, with_true, with_false, turned, body_exits, linked, code_of, no_exits, numbered}
use Rattle.life_core.specs.Shape.{is_statement, is_condition}
use Rattle.life_core.specs.Operands.{Argument, Location}
use Rattle.life_core.specs.Tree.{Tree, Skip, Then, Acts, Asks, Both, Either, Negated, Choice, Turns, Breaks, Continues, Returns, Stops, size, Action, Question, Return, Stop as StopHere}
use Rattle.life_core.specs.declared.program.FnId.{FnId}
use Rattle.life_core.proofs.EntryLemmas.{enter_then, enter_same}
use Rattle.life_core.proofs.SpotLemmas.{linked_length}
use Rattle.life_store.specs.Calls.{all_handed, lent, parameters_given, results, taken_back}
use Rattle.life_store.specs.Doing as doing
use Rattle.life_store.specs.Doing.{Setting, Effect, Next, Traps, Faults, Strays, cell}
use Rattle.life_store.specs.Meaning.{Stop, Trapped, Faulted, Stray, Exhausted, Answer, Normal, Broke, Continued, Returned, Stopped, Verdict, Holds, Fails, Cut, Called, Back, Barred, Quit, Callee, act, begun, call_with, calls, came_back, entered, frame, paid, perform, by_number, by_pointer, number_test, pointer_test, tested, ask, leave, stop_at, then_do, then_ask, choose, decide, after_body, turns, exec, test, test_at, finish}
use Rattle.life_store.specs.State.{Pointer, Null, Wild, To, Static, Cell, Empty, Named, Number, Points, World, State}
use Rattle.life_store.specs.declared.run.TrapKind.TheVariants as trap
use Rattle.life_store.proofs.CodeLemmas.{HasAt, has_front, has_back, has_all}
use Rattle.life_interp.specs.Walk.{Waiting, at_action, at_node, at_point, back, called_in, chosen, entered_in, let_in, moved, walk}

-- what a stop says of how the machine ends: of a step that strays nothing
abbrev EndsAt : Stop → World → Called → Type 0
EndsAt (Trapped kind place) w c = c ≡ Quit (Trapped kind place) w
EndsAt (Faulted kind place) w c = c ≡ Quit (Faulted kind place) w
EndsAt Stray w c = Unit {0}
EndsAt Exhausted w c = c ≡ Quit Exhausted w

ends_from : (s : Stop) (w : World) (c d : Called) → c ≡ d → EndsAt s w d → EndsAt s w c
ends_from (Trapped kind place) w c d e h = e ∙ h
ends_from (Faulted kind place) w c d e h = e ∙ h
ends_from Stray w c d e h = tt
ends_from Exhausted w c d e h = e ∙ h

-- what a function for which no frame waits says of how the machine ends
abbrev pub EndsAs : Called → Called → Type 0
EndsAs (Back n w values) c = c ≡ Back n w values
EndsAs (Barred kind) c = c ≡ Barred kind
EndsAs (Quit stop w) c = EndsAt stop w c

-- what a call says of how the machine goes on, that enters a function while a frame waits
abbrev pub Comes : (s : Setting) (p : Program) → List Waiting → Waiting → World → ℕ → Called → Called → Type 0
Comes s p ws v before n c (Back m w values) = (m ≤ n) × (c ≡ back s p (walk s p m) (v ∷ ws) m w values)
Comes s p ws v before n c (Barred kind) = c ≡ Quit (Trapped kind v.place) before
Comes s p ws v before n c (Quit stop w) = EndsAt stop w c

-- each call does what the machine does with it
abbrev pub CallsCome : (s : Setting) (p : Program) → List Waiting → Callee → Type 0
CallsCome s p ws call = (v : Waiting) (g : ℕ) (xs : List Cell) (n : ℕ) (before w : World) → Comes s p ws v before n (called_in s p (walk s p n) ws v before w (slice_get p.functions g) (Some xs)) (call g xs n w)

-- each body is a statement
abbrev pub AreStatements : List Function → Type 0
AreStatements fs = (n : ℕ) (f : Function) → slice_get fs n ≡ Some f → IsTrue (is_statement f.body)

module _ (s : Setting) (p : Program) (ws : List Waiting) (f : Function) (call : Callee) (come : CallsCome s p ws call) (shape : IsTrue (is_statement f.body)) where
  abbrev types : Types
  types = p.types

  abbrev code : List Linked
  code = code_of f

  abbrev on : ℕ → Option ℕ → State → Called
  on n to st = walk s p n ws f to st

  -- the machine, of which this is the end, goes on as the statement answers
  abbrev Agree : Exits → ℕ → Called → Answer → Type 0
  Agree x n c (Normal m st) = (m ≤ n) × (c ≡ on m x.next st)
  Agree x n c (Broke m st) = (m ≤ n) × (c ≡ on m x.on_break st)
  Agree x n c (Continued m st) = (m ≤ n) × (c ≡ on m x.on_continue st)
  Agree x n c (Returned m st) = (m ≤ n) × (c ≡ back s p (walk s p m) ws m st.world (results types f st))
  Agree x n c (Stopped stop w) = EndsAt stop w c

  -- .. and as the condition does
  abbrev AgreeTest : Option ℕ → Option ℕ → ℕ → Called → Verdict → Type 0
  AgreeTest held failed n c (Holds m st) = (m < n) × (c ≡ on m held st)
  AgreeTest held failed n c (Fails m st) = (m < n) × (c ≡ on m failed st)
  AgreeTest held failed n c (Cut stop w) = EndsAt stop w c

  agree_from : (x : Exits) (m n : ℕ) (c d : Called) (a : Answer) → m ≤ n → c ≡ d → Agree x m d a → Agree x n c a
  agree_from x m n c d (Normal k st) le e h = (omega (arith, le, h.0), e ∙ h.1)
  agree_from x m n c d (Broke k st) le e h = (omega (arith, le, h.0), e ∙ h.1)
  agree_from x m n c d (Continued k st) le e h = (omega (arith, le, h.0), e ∙ h.1)
  agree_from x m n c d (Returned k st) le e h = (omega (arith, le, h.0), e ∙ h.1)
  agree_from x m n c d (Stopped stop w) le e h = ends_from stop w c d e h

  test_from : (held failed : Option ℕ) (m n : ℕ) (c d : Called) (v : Verdict) → m ≤ n → c ≡ d → AgreeTest held failed m d v → AgreeTest held failed n c v
  test_from held failed m n c d (Holds k st) le e h = (omega (arith, le, h.0), e ∙ h.1)
  test_from held failed m n c d (Fails k st) le e h = (omega (arith, le, h.0), e ∙ h.1)
  test_from held failed m n c d (Cut stop w) le e h = ends_from stop w c d e h

  -- ---- one point

  step : (n q : ℕ) (st : State) (l : Linked) → numbered code q ≡ Some l → on (suc n) (Some q) st ≡ at_node s p (walk s p n) ws f l.spot.node l.spot.place l.leads n st
  step n q st l h = ap (λ o. at_point s p (walk s p n) ws f o n st) h

  paid_agrees : (place : Place) (before : World) (x : Exits) (n : ℕ) (e : Effect) → Agree x (suc n) (moved (on n x.next) place before e) (paid place before e n)
  paid_agrees place before x n (Next st) = (omega arith, refl)
  paid_agrees place before x n (Traps kind) = refl
  paid_agrees place before x n (Faults kind) = refl
  paid_agrees place before x n Strays = tt

  -- behind a call
  back_agrees : (place : Place) (target : Option Location) (xs : List Argument) (x : Exits) (n : ℕ) (st : State) (c r : Called)
      → Comes s p ws (record { function = f; cells = (lent types f xs st).cells; place = place; to = x.next; target = target; arguments = xs }) st.world n c r → Agree x (suc n) c (came_back s types f place target xs st r)
  back_agrees place target xs x n st c (Back m w values) h =
      agree_from x (suc m) (suc n) c _ (came_back s types f place target xs st (Back m w values)) (omega (arith, h.0)) h.1
      (paid_agrees place w x m (taken_back s types f target xs values (record { world = w; cells = (lent types f xs st).cells })))
  back_agrees place target xs x n st c (Barred kind) h = h
  back_agrees place target xs x n st c (Quit stop w) h = h

  called_agrees : (place : Place) (target : Option Location) (g : FnId) (xs : List Argument) (x : Exits) (n : ℕ) (st : State) (handed : Option (List Cell))
      → Agree x (suc n) (called_in s p (walk s p n) ws (record { function = f; cells = (lent types f xs st).cells; place = place; to = x.next; target = target; arguments = xs }) st.world (lent types f xs st).world (slice_get p.functions g.0) handed)
      (came_back s types f place target xs st (call_with call g.0 handed n (lent types f xs st).world))
  called_agrees place target g xs x n st None = tt
  called_agrees place target g xs x n st (Some values) =
      let v : Waiting = record { function = f; cells = (lent types f xs st).cells; place = place; to = x.next; target = target; arguments = xs } in
      back_agrees place target xs x n st _ (call g.0 values n (lent types f xs st).world) (come v g.0 values n st.world (lent types f xs st).world)

  act_agrees : (place : Place) (i : Step) (x : Exits) (n : ℕ) (st : State) → Agree x (suc n) (at_action s p (walk s p n) ws f i place x.next st) (act s types f call place i n st)
  act_agrees place (Call target g xs) x n st = called_agrees place target g xs x n st (all_handed types f st xs)
  act_agrees place i x n st = paid_agrees place st.world x n (doing.does s types f i st)

  acts_agree : (place : Place) (i : Step) (q : ℕ) (x : Exits) → numbered code q ≡ Some (record { spot = spot_at place (Action i); leads = goes x.next }) → (n : ℕ) (st : State) → Agree x n (on n (Some q) st) (perform s types f call place i n st)
  acts_agree place i q x h zero st = refl
  acts_agree place i q x h (suc n) st =
      agree_from x (suc n) (suc n) _ _ (act s types f call place i n st) (omega arith) (step n q st (record { spot = spot_at place (Action i); leads = goes x.next }) h) (act_agrees place i x n st)

  -- ---- tests

  module _ (held failed : Option ℕ) (n : ℕ) (st : State) where
    by_number_agrees : (z : ℤ) → AgreeTest held failed (suc n) (chosen (on n) held failed (by_number z n st)) (by_number z n st)
    by_number_agrees (pos zero) = (omega arith, refl)
    by_number_agrees (pos (suc z)) = (omega arith, refl)
    by_number_agrees (negsuc z) = (omega arith, refl)

    by_pointer_agrees : (p : Pointer) → AgreeTest held failed (suc n) (chosen (on n) held failed (by_pointer p n st)) (by_pointer p n st)
    by_pointer_agrees Null = (omega arith, refl)
    by_pointer_agrees Wild = (omega arith, refl)
    by_pointer_agrees (To t) = (omega arith, refl)
    by_pointer_agrees (Static c) = (omega arith, refl)

    number_agrees : (o : Option Cell) → AgreeTest held failed (suc n) (chosen (on n) held failed (number_test o n st)) (number_test o n st)
    number_agrees None = tt
    number_agrees (Some Empty) = tt
    number_agrees (Some (Named m)) = tt
    number_agrees (Some (Number z)) = by_number_agrees z
    number_agrees (Some (Points p)) = tt

    pointer_agrees : (o : Option Cell) → AgreeTest held failed (suc n) (chosen (on n) held failed (pointer_test o n st)) (pointer_test o n st)
    pointer_agrees None = tt
    pointer_agrees (Some Empty) = tt
    pointer_agrees (Some (Named m)) = tt
    pointer_agrees (Some (Number z)) = tt
    pointer_agrees (Some (Points p)) = by_pointer_agrees p

    test_at_agrees : (t : Test) → AgreeTest held failed (suc n) (chosen (on n) held failed (test_at types f t n st)) (test_at types f t n st)
    test_at_agrees (NonZero r) = number_agrees (cell st r)
    test_at_agrees (NotNull p) = pointer_agrees (tested types f p p.members (cell st p.local) st.world.content)

  asks_agree : (place : Place) (t : Test) (q : ℕ) (held failed : Option ℕ) → numbered code q ≡ Some (record { spot = spot_at place (Question t); leads = parts held failed }) → (n : ℕ) (st : State)
      → AgreeTest held failed n (on n (Some q) st) (ask types f t n st)
  asks_agree place t q held failed h zero st = refl
  asks_agree place t q held failed h (suc n) st =
      test_from held failed (suc n) (suc n) _ _ (test_at types f t n st) (omega arith) (step n q st (record { spot = spot_at place (Question t); leads = parts held failed }) h) (test_at_agrees held failed n st t)

  leave_agrees : (place : Place) (q : ℕ) (x : Exits) → numbered code q ≡ Some (record { spot = spot_at place Return; leads = [] }) → (n : ℕ) (st : State) → Agree x n (on n (Some q) st) (leave n st)
  leave_agrees place q x h zero st = refl
  leave_agrees place q x h (suc n) st = (omega arith, step n q st (record { spot = spot_at place Return; leads = [] }) h)

  stop_agrees : (place : Place) (q : ℕ) (x : Exits) → numbered code q ≡ Some (record { spot = spot_at place StopHere; leads = [] }) → (n : ℕ) (st : State) → Agree x n (on n (Some q) st) (stop_at place n st)
  stop_agrees place q x h zero st = refl
  stop_agrees place q x h (suc n) st = step n q st (record { spot = spot_at place StopHere; leads = [] }) h

  -- ---- ways of going on

  then_do_agrees : (to : Option ℕ) (x : Exits) (n : ℕ) (c : Called) (r : Answer) (go : ℕ → State → Answer) → Agree (with_next to x) n c r → ((m : ℕ) (st : State) → Agree x m (on m to st) (go m st)) → Agree x n c (then_do r go)
  then_do_agrees to x n c (Normal m st) go h k = agree_from x m n c _ (go m st) h.0 h.1 (k m st)
  then_do_agrees to x n c (Broke m st) go h k = h
  then_do_agrees to x n c (Continued m st) go h k = h
  then_do_agrees to x n c (Returned m st) go h k = h
  then_do_agrees to x n c (Stopped stop w) go h k = h

  then_ask_agrees : (to held failed : Option ℕ) (x : Exits) (n : ℕ) (c : Called) (r : Answer) (go : ℕ → State → Verdict) → Agree (with_next to x) n c r
      → ((m : ℕ) (st : State) → AgreeTest held failed m (on m to st) (go m st)) → AgreeTest held failed n c (then_ask r go)
  then_ask_agrees to held failed x n c (Normal m st) go h k = test_from held failed m n c _ (go m st) h.0 h.1 (k m st)
  then_ask_agrees to held failed x n c (Broke m st) go h k = tt
  then_ask_agrees to held failed x n c (Continued m st) go h k = tt
  then_ask_agrees to held failed x n c (Returned m st) go h k = tt
  then_ask_agrees to held failed x n c (Stopped stop w) go h k = h

  choose_agrees : (held failed : Option ℕ) (x : Exits) (n : ℕ) (c : Called) (v : Verdict) (a b : ℕ → State → Answer) → AgreeTest held failed n c v
      → ((m : ℕ) (st : State) → m < n → Agree x m (on m held st) (a m st)) → ((m : ℕ) (st : State) → m < n → Agree x m (on m failed st) (b m st)) → Agree x n c (choose v a b)
  choose_agrees held failed x n c (Holds m st) a b h k l = agree_from x m n c _ (a m st) (omega (arith, h.0)) h.1 (k m st h.0)
  choose_agrees held failed x n c (Fails m st) a b h k l = agree_from x m n c _ (b m st) (omega (arith, h.0)) h.1 (l m st h.0)
  choose_agrees held failed x n c (Cut stop w) a b h k l = h

  both_agree : (middle held failed : Option ℕ) (n : ℕ) (c : Called) (v : Verdict) (go : ℕ → State → Verdict) → AgreeTest middle failed n c v
      → ((m : ℕ) (st : State) → AgreeTest held failed m (on m middle st) (go m st)) → AgreeTest held failed n c (decide v go Fails)
  both_agree middle held failed n c (Holds m st) go h k = test_from held failed m n c _ (go m st) (omega (arith, h.0)) h.1 (k m st)
  both_agree middle held failed n c (Fails m st) go h k = h
  both_agree middle held failed n c (Cut stop w) go h k = h

  either_agrees : (middle held failed : Option ℕ) (n : ℕ) (c : Called) (v : Verdict) (go : ℕ → State → Verdict) → AgreeTest held middle n c v
      → ((m : ℕ) (st : State) → AgreeTest held failed m (on m middle st) (go m st)) → AgreeTest held failed n c (decide v Holds go)
  either_agrees middle held failed n c (Holds m st) go h k = h
  either_agrees middle held failed n c (Fails m st) go h k = test_from held failed m n c _ (go m st) (omega (arith, h.0)) h.1 (k m st)
  either_agrees middle held failed n c (Cut stop w) go h k = h

  negated_agrees : (held failed : Option ℕ) (n : ℕ) (c : Called) (v : Verdict) → AgreeTest failed held n c v → AgreeTest held failed n c (decide v Fails Holds)
  negated_agrees held failed n c (Holds m st) h = h
  negated_agrees held failed n c (Fails m st) h = h
  negated_agrees held failed n c (Cut stop w) h = h

  after_body_agrees : (to : Option ℕ) (x : Exits) (n : ℕ) (c : Called) (r : Answer) (go : ℕ → State → Answer) → Agree (body_exits to x) n c r → ((m : ℕ) (st : State) → m ≤ n → Agree x m (on m to st) (go m st)) → Agree x n c (after_body r go)
  after_body_agrees to x n c (Normal m st) go h k = agree_from x m n c _ (go m st) h.0 h.1 (k m st h.0)
  after_body_agrees to x n c (Broke m st) go h k = h
  after_body_agrees to x n c (Continued m st) go h k = agree_from x m n c _ (go m st) h.0 h.1 (k m st h.0)
  after_body_agrees to x n c (Returned m st) go h k = h
  after_body_agrees to x n c (Stopped stop w) go h k = h

  -- a step of a loop that is left by a break or so leaves the loop outside
  step_agrees : (first : Option ℕ) (x : Exits) (n : ℕ) (c : Called) (r : Answer) (go : ℕ → State → Answer) → Agree (with_next first x) n c r → ((m : ℕ) (st : State) → m ≤ n → Agree x m (on m first st) (go m st)) → Agree x n c (then_do r go)
  step_agrees first x n c (Normal m st) go h k = agree_from x m n c _ (go m st) h.0 h.1 (k m st h.0)
  step_agrees first x n c (Broke m st) go h k = h
  step_agrees first x n c (Continued m st) go h k = h
  step_agrees first x n c (Returned m st) go h k = h
  step_agrees first x n c (Stopped stop w) go h k = h

  turns_agree : (k : ℕ) (first into onward : Option ℕ) (x : Exits) (tested : ℕ → State → Verdict) (body next : ℕ → State → Answer)
      → ((n : ℕ) (st : State) → AgreeTest into x.next n (on n first st) (tested n st))
      → ((n : ℕ) (st : State) → Agree (body_exits onward x) n (on n into st) (body n st))
      → ((n : ℕ) (st : State) → Agree (with_next first x) n (on n onward st) (next n st))
      → (n : ℕ) (st : State) → n ≤ k → Agree x n (on n first st) (turns k tested body next n st)
  turns_agree zero first into onward x tested body next gt gb gs n st le = let e : n ≡ 0 = omega (arith, le) in ap (λ m. on m first st) e
  turns_agree (suc k) first into onward x tested body next gt gb gs n st le =
      choose_agrees into x.next x n _ (tested n st) _ _ (gt n st)
      (λ m s' lt. after_body_agrees onward x m _ (body m s') _ (gb m s')
      (λ m1 s1 le1. step_agrees first x m1 _ (next m1 s1) (turns k tested body next) (gs m1 s1)
      (λ m2 s2 le2. turns_agree k first into onward x tested body next gt gb gs m2 s2 (omega (arith, le, lt, le1, le2)))))
      (λ m s' lt. (omega arith, refl))

  -- ---- statements and conditions

  -- the second of two parts stands behind the first
  behind_first : (a : Tree) (b : ℕ) (x : Exits) (rest : List Linked) → HasAt code b (linked a b x ++ rest) → HasAt code (b + size a) rest
  behind_first a b x rest has = has_back code b (b + size a) (linked a b x) rest (ap (λ k. b + k) (linked_length a b x)) has

  enters : (t : Tree) (b : ℕ) (x y : Exits) (a : Answer) (n : ℕ) (st : State) → enter t b x ≡ enter t b y → Agree x n (on n (enter t b y) st) a → Agree x n (on n (enter t b x) st) a
  enters t b x y a n st e h = agree_from x n n _ _ a (omega arith) (ap (λ to. on n to st) e) h

  mutual
    statement_agrees : (t : Tree) (b : ℕ) (x : Exits) → IsTrue (is_statement t) → HasAt code b (linked t b x) → (n : ℕ) (st : State) → Agree x n (on n (enter t b x) st) (exec s types f call t n st)
    statement_agrees Skip b x h has n st = (omega arith, refl)
    statement_agrees (Then a c) b x h has n st =
        let hs = and_parts (is_statement a) (is_statement c) h in
        let to = enter c (b + size a) x in
        let inner = with_next to x in
        agree_from x n n _ _ (then_do (exec s types f call a n st) (exec s types f call c)) (omega arith) (ap (λ to'. on n to' st) (enter_then a c b x hs.0))
        (then_do_agrees to x n _ (exec s types f call a n st) (exec s types f call c)
        (statement_agrees a b inner hs.0 (has_front code b (linked a b inner) (linked c (b + size a) x) has) n st)
        (λ m s'. statement_agrees c (b + size a) x hs.1 (behind_first a b inner (linked c (b + size a) x) has) m s'))
    statement_agrees (Acts place i) b x h has n st = acts_agree place i b x has.0 n st
    statement_agrees (Asks place t) b x h has n st = absurd (false≢true h)
    statement_agrees (Both a c) b x h has n st = absurd (false≢true h)
    statement_agrees (Either a c) b x h has n st = absurd (false≢true h)
    statement_agrees (Negated a) b x h has n st = absurd (false≢true h)
    statement_agrees (Choice t a c) b x h has n st =
        let hs = and_parts (is_condition t) (is_statement a && is_statement c) h in
        let hs' = and_parts (is_statement a) (is_statement c) hs.1 in
        let first = b + size t in
        let second = first + size a in
        let held = enter a first x in
        let failed = enter c second x in
        let tests = with_true held (with_false failed x) in
        let rest = linked a first x ++ linked c second x in
        let more = behind_first t b tests rest has in
        agree_from x n n _ _ (choose (test s types f call t n st) (exec s types f call a) (exec s types f call c)) (omega arith) (ap (λ to'. on n to' st) (enter_same t b x tests refl refl refl))
        (choose_agrees held failed x n _ (test s types f call t n st) (exec s types f call a) (exec s types f call c)
        (condition_agrees t b tests hs.0 (has_front code b (linked t b tests) rest has) n st)
        (λ m s' lt. statement_agrees a first x hs'.0 (has_front code first (linked a first x) (linked c second x) more) m s')
        (λ m s' lt. statement_agrees c second x hs'.1 (behind_first a first x (linked c second x) more) m s'))
    statement_agrees (Turns t body next) b x h has n st =
        let hs = and_parts (is_condition t) (is_statement body && is_statement next) h in
        let hs' = and_parts (is_statement body) (is_statement next) hs.1 in
        let first = b + size t in
        let second = first + size body in
        let turn = with_next (enter t b x) x in
        let onward = enter next second turn in
        let inner = body_exits onward x in
        let into = enter body first inner in
        let tests = with_true into (with_false x.next x) in
        let rest = linked body first inner ++ linked next second turn in
        let more = behind_first t b tests rest has in
        turns_agree n (enter t b x) into onward x (test s types f call t) (exec s types f call body) (exec s types f call next)
        (λ m s'. test_from into x.next m m _ _ (test s types f call t m s') (omega arith) (ap (λ to'. on m to' s') (enter_same t b x tests refl refl refl))
        (condition_agrees t b tests hs.0 (has_front code b (linked t b tests) rest has) m s'))
        (λ m s'. statement_agrees body first inner hs'.0 (has_front code first (linked body first inner) (linked next second turn) more) m s')
        (λ m s'. statement_agrees next second turn hs'.1 (behind_first body first inner (linked next second turn) more) m s')
        n st (omega arith)
    statement_agrees Breaks b x h has n st = (omega arith, refl)
    statement_agrees Continues b x h has n st = (omega arith, refl)
    statement_agrees (Returns place) b x h has n st = leave_agrees place b x has.0 n st
    statement_agrees (Stops place) b x h has n st = stop_agrees place b x has.0 n st

    condition_agrees : (t : Tree) (b : ℕ) (x : Exits) → IsTrue (is_condition t) → HasAt code b (linked t b x) → (n : ℕ) (st : State)
        → AgreeTest x.on_true x.on_false n (on n (enter t b x) st) (test s types f call t n st)
    condition_agrees Skip b x h has n st = absurd (false≢true h)
    condition_agrees (Then a c) b x h has n st =
        let hs = and_parts (is_statement a) (is_condition c) h in
        let to = enter c (b + size a) x in
        let inner = with_next to x in
        test_from x.on_true x.on_false n n _ _ (then_ask (exec s types f call a n st) (test s types f call c)) (omega arith) (ap (λ to'. on n to' st) (enter_then a c b x hs.0))
        (then_ask_agrees to x.on_true x.on_false x n _ (exec s types f call a n st) (test s types f call c)
        (statement_agrees a b inner hs.0 (has_front code b (linked a b inner) (linked c (b + size a) x) has) n st)
        (λ m s'. condition_agrees c (b + size a) x hs.1 (behind_first a b inner (linked c (b + size a) x) has) m s'))
    condition_agrees (Acts place i) b x h has n st = absurd (false≢true h)
    condition_agrees (Asks place t) b x h has n st = asks_agree place t b x.on_true x.on_false has.0 n st
    condition_agrees (Both a c) b x h has n st =
        let hs = and_parts (is_condition a) (is_condition c) h in
        let to = enter c (b + size a) x in
        let inner = with_true to x in
        both_agree to x.on_true x.on_false n _ (test s types f call a n st) (test s types f call c)
        (test_from to x.on_false n n _ _ (test s types f call a n st) (omega arith) (ap (λ to'. on n to' st) (enter_same a b x inner refl refl refl))
        (condition_agrees a b inner hs.0 (has_front code b (linked a b inner) (linked c (b + size a) x) has) n st))
        (λ m s'. condition_agrees c (b + size a) x hs.1 (behind_first a b inner (linked c (b + size a) x) has) m s')
    condition_agrees (Either a c) b x h has n st =
        let hs = and_parts (is_condition a) (is_condition c) h in
        let to = enter c (b + size a) x in
        let inner = with_false to x in
        either_agrees to x.on_true x.on_false n _ (test s types f call a n st) (test s types f call c)
        (test_from x.on_true to n n _ _ (test s types f call a n st) (omega arith) (ap (λ to'. on n to' st) (enter_same a b x inner refl refl refl))
        (condition_agrees a b inner hs.0 (has_front code b (linked a b inner) (linked c (b + size a) x) has) n st))
        (λ m s'. condition_agrees c (b + size a) x hs.1 (behind_first a b inner (linked c (b + size a) x) has) m s')
    condition_agrees (Negated a) b x h has n st =
        let inner = turned x in
        negated_agrees x.on_true x.on_false n _ (test s types f call a n st)
        (test_from x.on_false x.on_true n n _ _ (test s types f call a n st) (omega arith) (ap (λ to'. on n to' st) (enter_same a b x inner refl refl refl))
        (condition_agrees a b inner h has n st))
    condition_agrees (Choice t a c) b x h has n st = absurd (false≢true h)
    condition_agrees (Turns t body next) b x h has n st = absurd (false≢true h)
    condition_agrees Breaks b x h has n st = absurd (false≢true h)
    condition_agrees Continues b x h has n st = absurd (false≢true h)
    condition_agrees (Returns place) b x h has n st = absurd (false≢true h)
    condition_agrees (Stops place) b x h has n st = absurd (false≢true h)

  finished : (v : Waiting) (vs : List Waiting) → ws ≡ v ∷ vs → (before : World) (n : ℕ) (c : Called) (a : Answer) → Agree no_exits n c a → Comes s p vs v before n c (finish types f a)
  finished v vs e before n c (Normal m st) h = tt
  finished v vs e before n c (Broke m st) h = tt
  finished v vs e before n c (Continued m st) h = tt
  finished v vs e before n c (Returned m st) h = (h.0, h.1 ∙ ap (λ us. back s p (walk s p m) us m st.world (results types f st)) e)
  finished v vs e before n c (Stopped stop w) h = h

  -- the machine, from where control enters the body on, goes on as the body does
  body_agrees : (n : ℕ) (st : State) → Agree no_exits n (on n (enter f.body 1 no_exits) st) (exec s types f call f.body n st)
  body_agrees n st = statement_agrees f.body 1 no_exits shape (has_all code) n st

  pub comes_back : (v : Waiting) (vs : List Waiting) → ws ≡ v ∷ vs → (before : World) (n : ℕ) (st : State) → Comes s p vs v before n (on n (enter f.body 1 no_exits) st) (finish types f (exec s types f call f.body n st))
  comes_back v vs e before n st = finished v vs e before n _ (exec s types f call f.body n st) (body_agrees n st)

  alone : ws ≡ [] → (n : ℕ) (c : Called) (a : Answer) → Agree no_exits n c a → EndsAs (finish types f a) c
  alone e n c (Normal m st) h = tt
  alone e n c (Broke m st) h = tt
  alone e n c (Continued m st) h = tt
  alone e n c (Returned m st) h = h.1 ∙ ap (λ us. back s p (walk s p m) us m st.world (results types f st)) e
  alone e n c (Stopped stop w) h = h

  -- it ends as the body does where no frame waits
  pub ends_alone : ws ≡ [] → (n : ℕ) (st : State) → EndsAs (finish types f (exec s types f call f.body n st)) (on n (enter f.body 1 no_exits) st)
  ends_alone e n st = alone e n _ (exec s types f call f.body n st) (body_agrees n st)

-- ---- calls in calls

module _ (s : Setting) (p : Program) (all : AreStatements p.functions) (d : ℕ) (ws : List Waiting) (v : Waiting) (come : CallsCome s p (v ∷ ws) (calls s p d)) (n : ℕ) (before w : World) where
  begun_comes : (k : Function) → IsTrue (is_statement k.body) → (e : Effect)
      → Comes s p ws v before n (let_in (walk s p n (v ∷ ws) k (enter k.body 1 no_exits)) v.place before e) (begun e w (λ st. finish p.types k (exec s p.types k (calls s p d) k.body n st)))
  begun_comes k shape (Next st) = comes_back s p (v ∷ ws) k (calls s p d) come shape v ws refl before n st
  begun_comes k shape (Traps kind) = refl
  begun_comes k shape (Faults kind) = tt
  begun_comes k shape Strays = tt

  callee_comes : (o : Option Function) (g : ℕ) → slice_get p.functions g ≡ o → (xs : List Cell) → Comes s p ws v before n (entered_in s p (walk s p n) (v ∷ ws) v.place before w o xs) (entered s p.types o (calls s p d) xs n w)
  callee_comes None g is xs = tt
  callee_comes (Some k) g is xs = begun_comes k (all g k is) (parameters_given s p.types k 0 xs (frame k w))

module _ (s : Setting) (p : Program) (all : AreStatements p.functions) where
  -- as many calls may stand in calls as there is room for frames
  pub calls_come : (d : ℕ) (ws : List Waiting) → length ws + 1 + d ≡ s.given.depth → CallsCome s p ws (calls s p d)
  calls_come zero ws room v g xs n before w =
      ap (λ b. cond b (entered_in s p (walk s p n) (v ∷ ws) v.place before w (slice_get p.functions g) xs) (Quit (Trapped trap.Depth v.place) before)) (le-ltb (length (v ∷ ws)) s.given.depth (omega (arith, room)))
  calls_come (suc d) ws room v g xs n before w =
      subst (λ b. Comes s p ws v before n (cond b (entered_in s p (walk s p n) (v ∷ ws) v.place before w (slice_get p.functions g) xs) (Quit (Trapped trap.Depth v.place) before)) (calls s p (suc d) g xs n w))
      (sym (lt-ltb (length (v ∷ ws)) s.given.depth (omega (arith, room))))
      (callee_comes s p all d ws v (calls_come d (v ∷ ws) (omega (arith, room))) n before w (slice_get p.functions g) g refl xs)
