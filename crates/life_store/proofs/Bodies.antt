-- A body goes only where its points lead: one induction over trees, for whatever the points ask of
-- the states that come to them, what holds where it is left, and whichever stops are allowed.
use Rattle.std.proofs.Common.{ℕ, ◌+◌, List, ◌++◌, refl, ap, subst}
use Rattle.std.proofs.lemmas.Bool.{and_parts, false≢true}
use Rattle.std.specs.Prelude.{IsTrue, ◌&&◌}
use Rattle.life_core.specs.Function.{Function}
use Rattle.life_core.specs.Linked.{Linked, enter, with_next, with_true, with_false, turned, body_exits, linked, code_of, no_exits}
use Rattle.life_core.specs.Shape.{is_statement, is_condition, is_straight, tests_straight, test_straight}
use Rattle.life_core.specs.Tree.{Tree, Skip, Then, Acts, Asks, Both, Either, Negated, Choice, Turns, Breaks, Continues, Returns, Stops, size}
use Rattle.life_core.specs.declared.exits.Exits.{Exits}
use Rattle.life_core.proofs.EntryLemmas.{enter_then, enter_same}
use Rattle.life_core.proofs.SpotLemmas.{linked_length}
use Rattle.life_types.specs.Types.{Types}
use Rattle.life_store.specs.Doing.{Setting}
use Rattle.life_store.specs.Meaning.{Stop, exec, test, Callee, Holds, Fails}
use Rattle.life_store.specs.State.{State}
use Rattle.life_store.proofs.CodeLemmas.{HasAt, has_front, has_back, has_all}
use Rattle.life_store.proofs.Going.{InvAt, GoodAnswer, GoodVerdict, Keeps, perform_good, ask_good, leave_good, stop_good, then_do_good, then_ask_good, choose_good, decide_good, turns_good}
use Rattle.life_store.proofs.Onward.{straight_onward}

module _ (s : Setting) (types : Types) (f : Function) (call : Callee) (I : ℕ → State → Type 0) (Left : State → Type 0) (Allowed : Stop → Type 0) (keeps : Keeps s types f call I Left Allowed) where
  abbrev code : List Linked
  code = code_of f

  -- the second of two parts stands behind the first
  behind_first : (a : Tree) (b : ℕ) (x : Exits) (rest : List Linked) → HasAt code b (linked a b x ++ rest) → HasAt code (b + size a) rest
  behind_first a b x rest has = has_back code b (b + size a) (linked a b x) rest (ap (λ k. b + k) (linked_length a b x)) has

  mutual
    statement_good : (t : Tree) (b : ℕ) (x : Exits) → IsTrue (is_statement t) → IsTrue (tests_straight t) → HasAt code b (linked t b x) → (n : ℕ) (st : State) → InvAt I (enter t b x) st
        → GoodAnswer I Left Allowed x (exec s types f call t n st)
    statement_good Skip b x h k has n st inv = inv
    statement_good (Then a c) b x h k has n st inv =
        let hs = and_parts (is_statement a) (is_statement c) h in
        let ks = and_parts (tests_straight a) (tests_straight c) k in
        let on = enter c (b + size a) x in
        let inner = with_next on x in
        then_do_good I Left Allowed keeps.exhausted on x (exec s types f call a n st) (exec s types f call c)
        (statement_good a b inner hs.0 ks.0 (has_front code b (linked a b inner) (linked c (b + size a) x) has) n st (subst (λ to. InvAt I to st) (enter_then a c b x hs.0) inv))
        (λ m s' g. statement_good c (b + size a) x hs.1 ks.1 (behind_first a b inner (linked c (b + size a) x) has) m s' g)
    statement_good (Acts place i) b x h k has n st inv = perform_good I Left Allowed keeps.exhausted s types f call place i x n st (λ m. keeps.acts b place i x has.0 m st inv)
    statement_good (Asks place t) b x h k has n st inv = absurd (false≢true h)
    statement_good (Both a c) b x h k has n st inv = absurd (false≢true h)
    statement_good (Either a c) b x h k has n st inv = absurd (false≢true h)
    statement_good (Negated a) b x h k has n st inv = absurd (false≢true h)
    statement_good (Choice t a c) b x h k has n st inv =
        let hs = and_parts (is_condition t) (is_statement a && is_statement c) h in
        let hs' = and_parts (is_statement a) (is_statement c) hs.1 in
        let ks = and_parts (test_straight t) (tests_straight a && tests_straight c) k in
        let ks' = and_parts (tests_straight a) (tests_straight c) ks.1 in
        let first = b + size t in
        let second = first + size a in
        let held = enter a first x in
        let failed = enter c second x in
        let tests = with_true held (with_false failed x) in
        let rest = linked a first x ++ linked c second x in
        let more = behind_first t b tests rest has in
        choose_good I Left Allowed keeps.exhausted held failed x (test s types f call t n st) (exec s types f call a) (exec s types f call c)
        (condition_good t b tests hs.0 ks.0 (has_front code b (linked t b tests) rest has) n st (subst (λ to. InvAt I to st) (enter_same t b x tests refl refl refl) inv))
        (λ m s' g. statement_good a first x hs'.0 ks'.0 (has_front code first (linked a first x) (linked c second x) more) m s' g)
        (λ m s' g. statement_good c second x hs'.1 ks'.1 (behind_first a first x (linked c second x) more) m s' g)
    statement_good (Turns t body step) b x h k has n st inv =
        let hs = and_parts (is_condition t) (is_statement body && is_statement step) h in
        let hs' = and_parts (is_statement body) (is_statement step) hs.1 in
        let ks = and_parts (test_straight t) (tests_straight body && tests_straight step) k in
        let ks' = and_parts (tests_straight body) (tests_straight step) ks.1 in
        let first = b + size t in
        let second = first + size body in
        let turn = with_next (enter t b x) x in
        let on = enter step second turn in
        let inner = body_exits on x in
        let into = enter body first inner in
        let tests = with_true into (with_false x.next x) in
        let rest = linked body first inner ++ linked step second turn in
        let more = behind_first t b tests rest has in
        turns_good I Left Allowed keeps.exhausted n (enter t b x) into on x (test s types f call t) (exec s types f call body) (exec s types f call step)
        (λ m s' g. condition_good t b tests hs.0 ks.0 (has_front code b (linked t b tests) rest has) m s' (subst (λ to. InvAt I to s') (enter_same t b x tests refl refl refl) g))
        (λ m s' g. statement_good body first inner hs'.0 ks'.0 (has_front code first (linked body first inner) (linked step second turn) more) m s' g)
        (λ m s' g. statement_good step second turn hs'.1 ks'.1 (behind_first body first inner (linked step second turn) more) m s' g)
        n st inv
    statement_good Breaks b x h k has n st inv = inv
    statement_good Continues b x h k has n st inv = inv
    statement_good (Returns place) b x h k has n st inv = leave_good I Left Allowed keeps.exhausted x n st (keeps.returns b place has.0 st inv)
    statement_good (Stops place) b x h k has n st inv = stop_good I Left Allowed keeps.exhausted x place n st (keeps.stops b place has.0 st inv)

    condition_good : (t : Tree) (b : ℕ) (x : Exits) → IsTrue (is_condition t) → IsTrue (test_straight t) → HasAt code b (linked t b x) → (n : ℕ) (st : State) → InvAt I (enter t b x) st
        → GoodVerdict I Allowed x.on_true x.on_false (test s types f call t n st)
    condition_good Skip b x h k has n st inv = absurd (false≢true h)
    condition_good (Then a c) b x h k has n st inv =
        let hs = and_parts (is_statement a) (is_condition c) h in
        let ks = and_parts (is_straight a) (tests_straight a && test_straight c) k in
        let ks' = and_parts (tests_straight a) (test_straight c) ks.1 in
        let on = enter c (b + size a) x in
        let inner = with_next on x in
        then_ask_good I Left Allowed keeps.exhausted on x x.on_true x.on_false (exec s types f call a n st) (test s types f call c)
        (straight_onward s types f call a ks.0 n st)
        (statement_good a b inner hs.0 ks'.0 (has_front code b (linked a b inner) (linked c (b + size a) x) has) n st (subst (λ to. InvAt I to st) (enter_then a c b x hs.0) inv))
        (λ m s' g. condition_good c (b + size a) x hs.1 ks'.1 (behind_first a b inner (linked c (b + size a) x) has) m s' g)
    condition_good (Acts place i) b x h k has n st inv = absurd (false≢true h)
    condition_good (Asks place t) b x h k has n st inv = ask_good I Left Allowed keeps.exhausted types f t x.on_true x.on_false n st (λ m. keeps.asks b place t x.on_true x.on_false has.0 m st inv)
    condition_good (Both a c) b x h k has n st inv =
        let hs = and_parts (is_condition a) (is_condition c) h in
        let ks = and_parts (test_straight a) (test_straight c) k in
        let on = enter c (b + size a) x in
        let inner = with_true on x in
        decide_good I Left Allowed keeps.exhausted on x.on_false x.on_true x.on_false (test s types f call a n st) (test s types f call c) Fails
        (condition_good a b inner hs.0 ks.0 (has_front code b (linked a b inner) (linked c (b + size a) x) has) n st (subst (λ to. InvAt I to st) (enter_same a b x inner refl refl refl) inv))
        (λ m s' g. condition_good c (b + size a) x hs.1 ks.1 (behind_first a b inner (linked c (b + size a) x) has) m s' g)
        (λ m s' g. g)
    condition_good (Either a c) b x h k has n st inv =
        let hs = and_parts (is_condition a) (is_condition c) h in
        let ks = and_parts (test_straight a) (test_straight c) k in
        let on = enter c (b + size a) x in
        let inner = with_false on x in
        decide_good I Left Allowed keeps.exhausted x.on_true on x.on_true x.on_false (test s types f call a n st) Holds (test s types f call c)
        (condition_good a b inner hs.0 ks.0 (has_front code b (linked a b inner) (linked c (b + size a) x) has) n st (subst (λ to. InvAt I to st) (enter_same a b x inner refl refl refl) inv))
        (λ m s' g. g)
        (λ m s' g. condition_good c (b + size a) x hs.1 ks.1 (behind_first a b inner (linked c (b + size a) x) has) m s' g)
    condition_good (Negated a) b x h k has n st inv =
        decide_good I Left Allowed keeps.exhausted x.on_false x.on_true x.on_true x.on_false (test s types f call a n st) Fails Holds
        (condition_good a b (turned x) h k has n st (subst (λ to. InvAt I to st) (enter_same a b x (turned x) refl refl refl) inv))
        (λ m s' g. g)
        (λ m s' g. g)
    condition_good (Choice t a c) b x h k has n st inv = absurd (false≢true h)
    condition_good (Turns t body step) b x h k has n st inv = absurd (false≢true h)
    condition_good Breaks b x h k has n st inv = absurd (false≢true h)
    condition_good Continues b x h k has n st inv = absurd (false≢true h)
    condition_good (Returns place) b x h k has n st inv = absurd (false≢true h)
    condition_good (Stops place) b x h k has n st inv = absurd (false≢true h)

  -- the whole body, from a state that has what its first point asks for
  pub body_good : IsTrue (is_statement f.body) → IsTrue (tests_straight f.body) → (n : ℕ) (st : State) → InvAt I (enter f.body 1 no_exits) st
      → GoodAnswer I Left Allowed no_exits (exec s types f call f.body n st)
  body_good h k n st inv = statement_good f.body 1 no_exits h k (has_all code) n st inv
