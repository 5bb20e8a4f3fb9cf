-- The shape of what is written: statements and conditions where they belong, straight before tests, with no break or continue outside of a loop,
-- and well formed.
use Rattle.std.proofs.Common.{◌≡◌, ℕ, Bool, true, false, ◌&&◌, not, List, [], ◌∷◌, ◌++◌, slice_get, Option, Some, None, refl, sym, ◌∙◌}
use Rattle.std.proofs.lemmas.Bool.{and_from, and_parts, false≢true}
use Rattle.std.proofs.lemmas.List.Folds.{list_all-append}
use Rattle.std.specs.List.{list_all}
use Rattle.life_types.specs.Types.{Types}
use Rattle.life_types.specs.declared.place.Place.{Place}
use Rattle.life_core.specs.Function.{Function}
use Rattle.life_core.specs.Shape.{breaks_inside, is_condition, is_statement, is_straight, test_straight, tests_straight}
use Rattle.life_core.specs.Step.{Call, End, Step, Test}
use Rattle.life_core.specs.Tree.{Tree, Skip, Then, Acts, Asks, Both, Either, Negated, Choice, Turns, Breaks, Continues, Returns, Stops, Node, Action, Spot, spots, trees}
use Rattle.life_core.specs.declared.program.Local.{Local}
use Rattle.life_proper.specs.GivenOver.{given_step, keeps_target}
use Rattle.life_proper.specs.Placed.{object_at}
use Rattle.life_proper.specs.WellFormed.{is_well_formed_step, is_well_formed_test, is_well_formed_tree}
use Rattle.life_proper.proofs.SpotTests.{three_parts, two_parts}
use Rattle.life_elab_laws.proofs.Shaped.{is_passing}

-- a test that holds of two parts where it holds of both
module _ (P : Tree → Bool) (skip : P Skip ≡ true) (both : (a b : Tree) → P (Then a b) ≡ (P a && P b)) where
  pub all_append : (c d : List Tree) → P (trees c) ≡ true → P (trees d) ≡ true → P (trees (c ++ d)) ≡ true
  all_append [] d first second = second
  all_append (t ∷ c) d first second =
      let parts = and_parts (P t) (P (trees c)) (sym (both t (trees c)) ∙ first) in
      both t (trees (c ++ d)) ∙ and_from (P t) (P (trees (c ++ d))) parts.0 (all_append c d parts.1 second)

-- what may stand outside of loops may stand in one
pub breaks_anywhere : (in_loop : Bool) (t : Tree) → breaks_inside false t ≡ true → breaks_inside in_loop t ≡ true
breaks_anywhere in_loop Skip h = refl
breaks_anywhere in_loop (Then a b) h =
    let parts = and_parts (breaks_inside false a) (breaks_inside false b) h in
    and_from (breaks_inside in_loop a) (breaks_inside in_loop b) (breaks_anywhere in_loop a parts.0) (breaks_anywhere in_loop b parts.1)
breaks_anywhere in_loop (Acts place i) h = refl
breaks_anywhere in_loop (Asks place t) h = refl
breaks_anywhere in_loop (Both a b) h =
    let parts = and_parts (breaks_inside false a) (breaks_inside false b) h in
    and_from (breaks_inside in_loop a) (breaks_inside in_loop b) (breaks_anywhere in_loop a parts.0) (breaks_anywhere in_loop b parts.1)
breaks_anywhere in_loop (Either a b) h =
    let parts = and_parts (breaks_inside false a) (breaks_inside false b) h in
    and_from (breaks_inside in_loop a) (breaks_inside in_loop b) (breaks_anywhere in_loop a parts.0) (breaks_anywhere in_loop b parts.1)
breaks_anywhere in_loop (Negated a) h = breaks_anywhere in_loop a h
breaks_anywhere in_loop (Choice t a b) h =
    let parts = and_parts (breaks_inside false t) (breaks_inside false a && breaks_inside false b) h in
    let others = and_parts (breaks_inside false a) (breaks_inside false b) parts.1 in
    and_from (breaks_inside in_loop t) (breaks_inside in_loop a && breaks_inside in_loop b) (breaks_anywhere in_loop t parts.0)
    (and_from (breaks_inside in_loop a) (breaks_inside in_loop b) (breaks_anywhere in_loop a others.0) (breaks_anywhere in_loop b others.1))
breaks_anywhere in_loop (Turns t body step) h =
    let parts = and_parts (breaks_inside false t) (breaks_inside true body && breaks_inside false step) h in
    let others = and_parts (breaks_inside true body) (breaks_inside false step) parts.1 in
    and_from (breaks_inside in_loop t) (breaks_inside true body && breaks_inside in_loop step) (breaks_anywhere in_loop t parts.0)
    (and_from (breaks_inside true body) (breaks_inside in_loop step) others.0 (breaks_anywhere in_loop step others.1))
breaks_anywhere in_loop Breaks h = absurd (false≢true h)
breaks_anywhere in_loop Continues h = absurd (false≢true h)
breaks_anywhere in_loop (Returns place) h = refl
breaks_anywhere in_loop (Stops place) h = refl

-- where a call writes a member, it gives over nothing that this is of
abbrev pub keeps_its_target : Step → Bool
keeps_its_target (Call target g xs) = keeps_target target xs
keeps_its_target _ = true

-- what ends is a variable or a temporary: nothing that is passing does
abbrev pub is_lasting : Option Local → Bool
is_lasting None = false
is_lasting (Some l) = not (is_passing l)

abbrev pub lasts_at : Function → ℕ → Bool
lasts_at f x = is_lasting (slice_get f.locals x)

abbrev pub ends_lasting : Function → Step → Bool
ends_lasting f (End xs) = list_all (lasts_at f) xs
ends_lasting f _ = true

-- both, of an instruction, of a point and of all that is written
abbrev pub step_keeps : Function → Step → Bool
step_keeps f i = ends_lasting f i && keeps_its_target i

abbrev pub node_keeps : Function → Node → Bool
node_keeps f (Action i) = step_keeps f i
node_keeps f _ = true

abbrev pub spot_keeps : Function → Spot → Bool
spot_keeps f s = node_keeps f s.node

abbrev pub tree_keeps : Function → Tree → Bool
tree_keeps f t = list_all (spot_keeps f) (spots t)

module _ (types : Types) (f : Function) where
  -- what an instruction gives over is no object, no member of what is given over is written, and nothing that is passing ends
  abbrev pub is_no_object : ℕ → Bool
  is_no_object x = not (object_at types f x)

  abbrev pub gives_values : Step → Bool
  gives_values i = list_all is_no_object (given_step i) && step_keeps f i

module _ (types : Types) (texts : ℕ) (fs : List Function) (f : Function) where
  abbrev is_formed : Tree → Bool
  is_formed t = is_well_formed_tree types texts fs f t

  given_both : (a b : Tree) → tree_keeps f a ≡ true → tree_keeps f b ≡ true → tree_keeps f (Then a b) ≡ true
  given_both a b first second = two_parts (spot_keeps f) (spots a) (spots b) true true first second

  given_all : (a b c : Tree) → tree_keeps f a ≡ true → tree_keeps f b ≡ true → tree_keeps f c ≡ true → tree_keeps f (Choice a b c) ≡ true
  given_all a b c first second third = three_parts (spot_keeps f) (spots a) (spots b) (spots c) true true true first second third

  -- ---- conditions

  pub record IsFineTest (t : Tree) : Type 0 where
    pub condition : is_condition t ≡ true
    pub straight : test_straight t ≡ true
    pub breaks : (in_loop : Bool) → breaks_inside in_loop t ≡ true
    pub given : tree_keeps f t ≡ true
    pub formed : is_well_formed_tree types texts fs f t ≡ true

  pub fine_asks : (place : Place) (t : Test) → is_well_formed_test types texts fs f t ≡ true → IsFineTest (Asks place t)
  fine_asks place t e = record { condition = refl; straight = refl; breaks = λ in_loop. refl; given = refl; formed = e }

  pub fine_both : (a b : Tree) → IsFineTest a → IsFineTest b → IsFineTest (Both a b)
  fine_both a b first second = record {
    condition = and_from (is_condition a) (is_condition b) first.condition second.condition;
    straight = and_from (test_straight a) (test_straight b) first.straight second.straight;
    breaks = λ in_loop. and_from (breaks_inside in_loop a) (breaks_inside in_loop b) (first.breaks in_loop) (second.breaks in_loop);
    given = given_both a b first.given second.given;
    formed = and_from (is_formed a) (is_formed b) first.formed second.formed;
  }

  pub fine_either : (a b : Tree) → IsFineTest a → IsFineTest b → IsFineTest (Either a b)
  fine_either a b first second = record {
    condition = and_from (is_condition a) (is_condition b) first.condition second.condition;
    straight = and_from (test_straight a) (test_straight b) first.straight second.straight;
    breaks = λ in_loop. and_from (breaks_inside in_loop a) (breaks_inside in_loop b) (first.breaks in_loop) (second.breaks in_loop);
    given = given_both a b first.given second.given;
    formed = and_from (is_formed a) (is_formed b) first.formed second.formed;
  }

  pub fine_negated : (a : Tree) → IsFineTest a → IsFineTest (Negated a)
  fine_negated a h = record { condition = h.condition; straight = h.straight; breaks = h.breaks; given = h.given; formed = h.formed }

  -- ---- statements, in a loop or outside

  pub record IsStated (in_loop : Bool) (t : Tree) : Type 0 where
    pub statement : is_statement t ≡ true
    pub tests : tests_straight t ≡ true
    pub breaks : breaks_inside in_loop t ≡ true
    pub given : tree_keeps f t ≡ true
    pub formed : is_well_formed_tree types texts fs f t ≡ true

  pub stated_none : (in_loop : Bool) → IsStated in_loop Skip
  stated_none in_loop = record { statement = refl; tests = refl; breaks = refl; given = refl; formed = refl }

  pub stated_alone : (in_loop : Bool) (t : Tree) → IsStated in_loop t → IsStated in_loop (trees (t ∷ []))
  stated_alone in_loop t h = record {
    statement = and_from (is_statement t) true h.statement refl;
    tests = and_from (tests_straight t) true h.tests refl;
    breaks = and_from (breaks_inside in_loop t) true h.breaks refl;
    given = given_both t Skip h.given refl;
    formed = and_from (is_formed t) true h.formed refl;
  }

  pub stated_append : (in_loop : Bool) (c d : List Tree) → IsStated in_loop (trees c) → IsStated in_loop (trees d) → IsStated in_loop (trees (c ++ d))
  stated_append in_loop c d first second = record {
    statement = all_append is_statement refl (λ a b. refl) c d first.statement second.statement;
    tests = all_append tests_straight refl (λ a b. refl) c d first.tests second.tests;
    breaks = all_append (breaks_inside in_loop) refl (λ a b. refl) c d first.breaks second.breaks;
    given = all_append (tree_keeps f) refl (λ a b. list_all-append (spot_keeps f) (spots a) (spots b)) c d first.given second.given;
    formed = all_append (is_well_formed_tree types texts fs f) refl (λ a b. refl) c d first.formed second.formed;
  }

  pub stated_choice : (in_loop : Bool) (t a b : Tree) → IsFineTest t → IsStated in_loop a → IsStated in_loop b → IsStated in_loop (Choice t a b)
  stated_choice in_loop t a b test first second = record {
    statement = and_from (is_condition t) _ test.condition (and_from (is_statement a) (is_statement b) first.statement second.statement);
    tests = and_from (test_straight t) _ test.straight (and_from (tests_straight a) (tests_straight b) first.tests second.tests);
    breaks = and_from (breaks_inside in_loop t) _ (test.breaks in_loop) (and_from (breaks_inside in_loop a) (breaks_inside in_loop b) first.breaks second.breaks);
    given = given_all t a b test.given first.given second.given;
    formed = and_from (is_formed t) _ test.formed (and_from (is_formed a) (is_formed b) first.formed second.formed);
  }

  pub stated_turns : (in_loop : Bool) (t body step : Tree) → IsFineTest t → IsStated true body → IsStated false step → IsStated in_loop (Turns t body step)
  stated_turns in_loop t body step test first second = record {
    statement = and_from (is_condition t) _ test.condition (and_from (is_statement body) (is_statement step) first.statement second.statement);
    tests = and_from (test_straight t) _ test.straight (and_from (tests_straight body) (tests_straight step) first.tests second.tests);
    breaks = and_from (breaks_inside in_loop t) _ (test.breaks in_loop)
        (and_from (breaks_inside true body) (breaks_inside in_loop step) first.breaks (breaks_anywhere in_loop step second.breaks));
    given = given_all t body step test.given first.given second.given;
    formed = and_from (is_formed t) _ test.formed (and_from (is_formed body) (is_formed step) first.formed second.formed);
  }

  -- ---- code of an expression

  pub record IsFine (code : List Tree) : Type 0 where
    pub straight : is_straight (trees code) ≡ true
    pub stated : (in_loop : Bool) → IsStated in_loop (trees code)

  pub fine_none : IsFine []
  fine_none = record { straight = refl; stated = stated_none }

  pub fine_append : (c d : List Tree) → IsFine c → IsFine d → IsFine (c ++ d)
  fine_append c d first second = record {
    straight = all_append is_straight refl (λ a b. refl) c d first.straight second.straight;
    stated = λ in_loop. stated_append in_loop c d (first.stated in_loop) (second.stated in_loop);
  }

  -- an instruction by itself
  pub record IsFineStep (i : Step) : Type 0 where
    pub given : gives_values types f i ≡ true
    pub formed : is_well_formed_step types texts fs f i ≡ true

  -- one that may give over an object too
  pub fine_gives : (place : Place) (i : Step) → step_keeps f i ≡ true → is_well_formed_step types texts fs f i ≡ true → IsFine (Acts place i ∷ [])
  fine_gives place i keeps formed = record {
    straight = refl;
    stated = λ in_loop. stated_alone in_loop (Acts place i)
        (record { statement = refl; tests = refl; breaks = refl; given = and_from (step_keeps f i) true keeps refl; formed = formed });
  }

  pub fine_acts : (place : Place) (i : Step) → IsFineStep i → IsFine (Acts place i ∷ [])
  fine_acts place i is = fine_gives place i (and_parts (list_all (is_no_object types f) (given_step i)) (step_keeps f i) is.given).1 is.formed

  -- a branch whose branches are straight
  pub fine_choice : (t : Tree) (a b : List Tree) → IsFineTest t → IsFine a → IsFine b → IsFine (Choice t (trees a) (trees b) ∷ [])
  fine_choice t a b test first second = record {
    straight = and_from _ true (and_from (is_straight (trees a)) (is_straight (trees b)) first.straight second.straight) refl;
    stated = λ in_loop. stated_alone in_loop (Choice t (trees a) (trees b)) (stated_choice in_loop t (trees a) (trees b) test (first.stated in_loop) (second.stated in_loop));
  }

  -- .. and a condition behind code
  pub fine_behind : (c : List Tree) (t : Tree) → IsFine c → IsFineTest t → IsFineTest (Then (trees c) t)
  fine_behind c t first second = let one = first.stated false in record {
    condition = and_from (is_statement (trees c)) (is_condition t) one.statement second.condition;
    straight = and_from (is_straight (trees c)) (tests_straight (trees c) && test_straight t) first.straight (and_from (tests_straight (trees c)) (test_straight t) one.tests second.straight);
    breaks = λ in_loop. and_from (breaks_inside in_loop (trees c)) (breaks_inside in_loop t) (first.stated in_loop).breaks (second.breaks in_loop);
    given = given_both (trees c) t one.given second.given;
    formed = and_from (is_formed (trees c)) (is_formed t) one.formed second.formed;
  }
