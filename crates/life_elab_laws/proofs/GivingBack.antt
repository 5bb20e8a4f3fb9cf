-- Where each return of what is written stands behind a write of the result: parts one after the other, and code without returns.
use Rattle.std.proofs.Common.{◌≡◌, ℕ, true, false, ◌&&◌, List, [], ◌∷◌, ◌++◌, Some, None, refl, sym, ap}
use Rattle.std.proofs.lemmas.Bool.{and_parts, false≢true}
use Rattle.std.proofs.lemmas.Option.{none-some}
use Rattle.life_types.specs.TypeTests.{is_void}
use Rattle.life_types.specs.Types.{Types}
use Rattle.life_typed.specs.BaseTypes.{type_at}
use Rattle.life_typed.specs.Ends.{ends}
use Rattle.life_core.specs.Function.{Function}
use Rattle.life_core.specs.Shape.{is_condition, is_statement, is_straight, test_straight, tests_straight}
use Rattle.life_core.specs.Tree.{Tree, Skip, Then, Acts, Asks, Both, Either, Negated, Choice, Turns, Breaks, Continues, Returns, Stops, trees}
use Rattle.life_proper.specs.declared.known.Known.{Known}
use Rattle.life_proper.specs.Checking.{flow}
use Rattle.life_proper.specs.Knowing.{State, at_head, met}
use Rattle.life_proper.specs.ResultsKnown.{IsKnownReady, ReturnsKnown}
use Rattle.life_writer.specs.Around.{Around}
use Rattle.life_elab_laws.proofs.Exits.{Knows, MayKnow}
use Rattle.life_elab_laws.proofs.Nowhere.{none_met, nowhere_flows}
use Rattle.life_elab_laws.proofs.Shaping.{IsFine, IsFineTest}

-- a function that gives something back, past whose text control doesn't run
abbrev pub GivesResult : Around → Type 0
GivesResult a = (is_void (type_at a.program.types a.function.result) ≡ false) × (ends a.function.body ≡ true)

pub nowhere_ready : (r : ℕ) (o : State) → o ≡ None → IsKnownReady r o
nowhere_ready r None e = tt
nowhere_ready r (Some k) e = absurd (none-some k (sym e))

module _ (types : Types) (f : Function) (r : ℕ) where
  abbrev Holds : Tree → State → Type 0
  Holds t o = ReturnsKnown types f r t o

  -- one after the other
  pub known_append : (c d : List Tree) (o : State) → Holds (trees c) o → Holds (trees d) (flow types f (trees c) o).next → Holds (trees (c ++ d)) o
  known_append [] d o first second = second
  known_append (t ∷ c) d o first second = (first.0, known_append c d (flow types f t o).next first.1 second)

  -- ---- code without returns

  mutual
    code_known : (t : Tree) → is_statement t ≡ true → is_straight t ≡ true → tests_straight t ≡ true → (o : State) → Holds t o
    code_known Skip h s e o = tt
    code_known (Then a b) h s e o =
        let shape = and_parts (is_statement a) (is_statement b) h in
        let straight = and_parts (is_straight a) (is_straight b) s in
        let tests = and_parts (tests_straight a) (tests_straight b) e in
        (code_known a shape.0 straight.0 tests.0 o, code_known b shape.1 straight.1 tests.1 (flow types f a o).next)
    code_known (Acts place i) h s e o = tt
    code_known (Choice t a b) h s e o =
        let shape = and_parts (is_condition t) (is_statement a && is_statement b) h in
        let both = and_parts (is_statement a) (is_statement b) shape.1 in
        let straight = and_parts (is_straight a) (is_straight b) s in
        let tests = and_parts (test_straight t) (tests_straight a && tests_straight b) e in
        let inner = and_parts (tests_straight a) (tests_straight b) tests.1 in
        let w = flow types f t o in
        (test_known t shape.0 tests.0 o, (code_known a both.0 straight.0 inner.0 w.on_true, code_known b both.1 straight.1 inner.1 w.on_false))
    code_known (Stops place) h s e o = tt
    code_known _ h s e o = absurd (false≢true s)

    test_known : (t : Tree) → is_condition t ≡ true → test_straight t ≡ true → (o : State) → Holds t o
    test_known (Then a b) h s o =
        let shape = and_parts (is_statement a) (is_condition b) h in
        let outer = and_parts (is_straight a) (tests_straight a && test_straight b) s in
        let inner = and_parts (tests_straight a) (test_straight b) outer.1 in
        (code_known a shape.0 outer.0 inner.0 o, test_known b shape.1 inner.1 (flow types f a o).next)
    test_known (Asks place t) h s o = tt
    test_known (Both a b) h s o =
        let shape = and_parts (is_condition a) (is_condition b) h in
        let straight = and_parts (test_straight a) (test_straight b) s in
        (test_known a shape.0 straight.0 o, test_known b shape.1 straight.1 (flow types f a o).on_true)
    test_known (Either a b) h s o =
        let shape = and_parts (is_condition a) (is_condition b) h in
        let straight = and_parts (test_straight a) (test_straight b) s in
        (test_known a shape.0 straight.0 o, test_known b shape.1 straight.1 (flow types f a o).on_false)
    test_known (Negated a) h s o = test_known a h s o
    test_known _ h s o = absurd (false≢true h)

  pub fine_known : (texts : ℕ) (fs : List Function) (c : List Tree) → IsFine types texts fs f c → (o : State) → Holds (trees c) o
  fine_known texts fs c h o = let one = h.stated false in code_known (trees c) one.statement h.straight one.tests o

  pub asks_known : (texts : ℕ) (fs : List Function) (t : Tree) → IsFineTest types texts fs f t → (o : State) → Holds t o
  asks_known texts fs t h o = test_known t h.condition h.straight o

  -- ---- where no way comes

  pub nowhere_known : (t : Tree) (o : State) → o ≡ None → Holds t o
  nowhere_known Skip o e = tt
  nowhere_known (Then a b) o e = (nowhere_known a o e, nowhere_known b (flow types f a o).next (nowhere_flows types f a o e).next)
  nowhere_known (Acts place i) o e = tt
  nowhere_known (Asks place t) o e = tt
  nowhere_known (Both a b) o e = (nowhere_known a o e, nowhere_known b (flow types f a o).on_true (nowhere_flows types f a o e).on_true)
  nowhere_known (Either a b) o e = (nowhere_known a o e, nowhere_known b (flow types f a o).on_false (nowhere_flows types f a o e).on_false)
  nowhere_known (Negated a) o e = nowhere_known a o e
  nowhere_known (Choice t a b) o e =
      let w = flow types f t o in
      let none = nowhere_flows types f t o e in
      (nowhere_known t o e, (nowhere_known a w.on_true none.on_true, nowhere_known b w.on_false none.on_false))
  nowhere_known (Turns t body step) o e =
      let head = at_head f.locals o in
      let w = flow types f t head in
      let none = nowhere_flows types f t head (ap (at_head f.locals) e) in
      let v = flow types f body w.on_true in
      let inner = nowhere_flows types f body w.on_true none.on_true in
      (nowhere_known t head (ap (at_head f.locals) e), (nowhere_known body w.on_true none.on_true, nowhere_known step (met v.next v.on_continue) (none_met v.next v.on_continue inner.next inner.on_continue)))
  nowhere_known Breaks o e = tt
  nowhere_known Continues o e = tt
  nowhere_known (Returns place) o e = nowhere_ready r o e
  nowhere_known (Stops place) o e = tt

  -- control that comes or not
  pub known_may : (living : List ℕ) (t : Tree) → ((k : List Known) → Knows f living k → Holds t (Some k)) → (o : State) → MayKnow f living o → Holds t o
  known_may living t some None h = nowhere_known t None refl
  known_may living t some (Some k) h = some k h
