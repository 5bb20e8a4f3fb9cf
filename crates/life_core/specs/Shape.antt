-- Trees that come from statements, and trees that come from conditions.
use Rattle.std.specs.Prelude.{Bool, true, false, ◌&&◌}
use Rattle.life_core.specs.Tree.{Tree, Skip, Then, Acts, Asks, Both, Either, Negated, Choice, Turns, Breaks, Continues, Returns, Stops}

-- conditions stand where a tree decides between two ways, and statements everywhere else
abbrev mutual
  pub is_statement : Tree → Bool
  is_statement Skip = true
  is_statement (Then a b) = is_statement a && is_statement b
  is_statement (Acts place i) = true
  is_statement (Asks place t) = false
  is_statement (Both a b) = false
  is_statement (Either a b) = false
  is_statement (Negated a) = false
  is_statement (Choice t a b) = is_condition t && (is_statement a && is_statement b)
  is_statement (Turns t body step) = is_condition t && (is_statement body && is_statement step)
  is_statement Breaks = true
  is_statement Continues = true
  is_statement (Returns place) = true
  is_statement (Stops place) = true

  -- a condition may stand after statements that compute what is tested
  pub is_condition : Tree → Bool
  is_condition Skip = false
  is_condition (Then a b) = is_statement a && is_condition b
  is_condition (Acts place i) = false
  is_condition (Asks place t) = true
  is_condition (Both a b) = is_condition a && is_condition b
  is_condition (Either a b) = is_condition a && is_condition b
  is_condition (Negated a) = is_condition a
  is_condition (Choice t a b) = false
  is_condition (Turns t body step) = false
  is_condition Breaks = false
  is_condition Continues = false
  is_condition (Returns place) = false
  is_condition (Stops place) = false

-- break and continue stand in the body of a loop, where the tree itself stands in one or not
abbrev pub breaks_inside : (in_loop : Bool) → Tree → Bool
breaks_inside b Skip = true
breaks_inside b (Then x y) = breaks_inside b x && breaks_inside b y
breaks_inside b (Acts place i) = true
breaks_inside b (Asks place t) = true
breaks_inside b (Both x y) = breaks_inside b x && breaks_inside b y
breaks_inside b (Either x y) = breaks_inside b x && breaks_inside b y
breaks_inside b (Negated x) = breaks_inside b x
breaks_inside b (Choice t x y) = breaks_inside b t && (breaks_inside b x && breaks_inside b y)
breaks_inside b (Turns t body step) = breaks_inside b t && (breaks_inside true body && breaks_inside b step)
breaks_inside b Breaks = b
breaks_inside b Continues = b
breaks_inside b (Returns place) = true
breaks_inside b (Stops place) = true

-- control leaves it at its end alone: it has no loop, and neither breaks, continues nor returns
abbrev pub is_straight : Tree → Bool
is_straight Skip = true
is_straight (Then a b) = is_straight a && is_straight b
is_straight (Acts place i) = true
is_straight (Asks place t) = false
is_straight (Both a b) = false
is_straight (Either a b) = false
is_straight (Negated a) = false
is_straight (Choice t a b) = is_straight a && is_straight b
is_straight (Turns t body step) = false
is_straight Breaks = false
is_straight Continues = false
is_straight (Returns place) = false
is_straight (Stops place) = true

-- what conditions compute before their tests is straight, in a statement and in a condition
abbrev mutual
  pub tests_straight : Tree → Bool
  tests_straight Skip = true
  tests_straight (Then a b) = tests_straight a && tests_straight b
  tests_straight (Acts place i) = true
  tests_straight (Asks place t) = true
  tests_straight (Both a b) = true
  tests_straight (Either a b) = true
  tests_straight (Negated a) = true
  tests_straight (Choice t a b) = test_straight t && (tests_straight a && tests_straight b)
  tests_straight (Turns t body step) = test_straight t && (tests_straight body && tests_straight step)
  tests_straight Breaks = true
  tests_straight Continues = true
  tests_straight (Returns place) = true
  tests_straight (Stops place) = true

  pub test_straight : Tree → Bool
  test_straight Skip = true
  test_straight (Then a b) = is_straight a && (tests_straight a && test_straight b)
  test_straight (Acts place i) = true
  test_straight (Asks place t) = true
  test_straight (Both a b) = test_straight a && test_straight b
  test_straight (Either a b) = test_straight a && test_straight b
  test_straight (Negated a) = test_straight a
  test_straight (Choice t a b) = true
  test_straight (Turns t body step) = true
  test_straight Breaks = true
  test_straight Continues = true
  test_straight (Returns place) = true
  test_straight (Stops place) = true
