-- No derived fact points into a local that is given over, in a proper function.
use Rattle.std.proofs.Common.{◌≡◌, inl, inr, ℕ, zero, suc, Bool, true, false, ◌&&◌, not, List, [], ◌∷◌, Option, Some, None, refl, sym, ap, subst, ◌∙◌, arith}
use Rattle.std.specs.Prelude.{Contains, ◌||◌, nat_eq, option_map}
use Rattle.std.specs.List.{list_any}
use Rattle.std.proofs.lemmas.Bool.{or_right}
use Rattle.std.proofs.lemmas.Bool.Decides.{nat_tests}
use Rattle.life_types.specs.Types.{Types}
use Rattle.life_types.specs.declared.place.Place.{Place}
use Rattle.life_core.specs.declared.stmt.Edge.{Edge}
use Rattle.life_core.specs.declared.stmt.Point.{Point}
use Rattle.life_core.specs.Function.{Function}
use Rattle.life_core.specs.Linked.{Linked, code_of, numbered, spot_of, spot_of_linked}
use Rattle.life_core.specs.Tree.{Action, Node, Question, Return, Spot, Stop, spots}
use Rattle.life_core.proofs.SpotLemmas.{code_spots}
use Rattle.life_pset.specs.declared.element.Fact.{Fact}
use Rattle.life_pset.proofs.Numbering.{numbered_contains}
use Rattle.life_contract.specs.Signatures.{Signature}
use Rattle.life_proper.specs.GivenOver.{all_keep_given, given_in, given_spot, is_kept, node_keeps_given, spot_keeps_given}
use Rattle.life_proper.specs.Placed.{object_at}
use Rattle.life_proper.proofs.SpotTests.{point_tested}
use Rattle.life_rules.specs.Carrying.{Gives, node_none, node_one, node_two, none_at, one_at, stops_at, two_at}
use Rattle.life_rules.specs.Deriving.{Derives, along, entry}
use Rattle.life_rules.proofs.Giving.{at_head, cons_cases, flat_map_into, none_in_empty}
use Rattle.life_store.proofs.CellLemmas.{none_some, some_same}
use Rattle.life_cover.specs.Kills.{IsUnnamed}
use Rattle.life_cover.proofs.Edges.{FactsAt}
use Rattle.life_cover.proofs.Listing.{map_into}
use Rattle.life_cover.proofs.Elsewhere.{AreElsewhere, IsElsewhere, entry_elsewhere, more_elsewhere, none_elsewhere, unless_elsewhere}
use Rattle.life_cover.proofs.Unaimed.{from_none_elsewhere, from_one_elsewhere, from_two_elsewhere}

module _ (x : ℕ) (sigs : List Signature) (types : Types) (f : Function) (gone : is_kept types f x ≡ false) (place : Place) where
  -- ---- of what stands at a point

  module _ (n : Node) (kept : node_keeps_given types f n ≡ true) where
    none_node : AreElsewhere x (node_none sigs types f place n)
    none_node = go n kept
      where
        go : (m : Node) → node_keeps_given types f m ≡ true → AreElsewhere x (node_none sigs types f place m)
        go (Action i) k = from_none_elsewhere x sigs types f gone place i k
        go (Question t) k = none_elsewhere x
        go Return k = none_elsewhere x
        go Stop k = none_elsewhere x

    one_node : (branch : Option Bool) (a : Fact) → IsElsewhere x a.element → AreElsewhere x (node_one sigs types f place branch n a)
    one_node branch a away = go n kept
      where
        go : (m : Node) → node_keeps_given types f m ≡ true → AreElsewhere x (node_one sigs types f place branch m a)
        go (Action i) k = from_one_elsewhere x sigs types f gone place a away i k
        go (Question t) k = unless_elsewhere x (stops_at t branch a) a away
        go Return k = more_elsewhere x a [] away (none_elsewhere x)
        go Stop k = more_elsewhere x a [] away (none_elsewhere x)

    two_node : (a b : Fact) → AreElsewhere x (node_two sigs types f place n a b)
    two_node a b = go n
      where
        go : (m : Node) → AreElsewhere x (node_two sigs types f place m a b)
        go (Action i) = from_two_elsewhere x sigs types f gone place i a b
        go (Question t) = none_elsewhere x
        go Return = none_elsewhere x
        go Stop = none_elsewhere x

-- ---- all derived facts

among : (y : ℕ) (xs : List ℕ) → Contains xs y → list_any (nat_eq y) xs ≡ true
among y [] h = absurd (none_in_empty y h)
among y (z ∷ zs) h = elim (cons_cases z zs y h) [
  | inl e ↦ ap (λ b. b || list_any (nat_eq y) zs) (same_number y z (sym e))
  | inr later ↦ or_right (nat_eq y z) (list_any (nat_eq y) zs) (among y zs later)
]
  where
    same_number : (a b : ℕ) → a ≡ b → nat_eq a b ≡ true
    same_number a b e = grind (arith, nat_tests)

-- what is given over at a point is kept nowhere
pub given_away : (types : Types) (f : Function) (p : ℕ) (l : Linked) (y : ℕ) → numbered (code_of f) p ≡ Some l → object_at types f y ≡ true → Contains (given_spot l.spot) y → is_kept types f y ≡ false
given_away types f zero l y here object has = absurd (none_some here)
given_away types f (suc n) l y here object has =
    let spot = subst (λ (ss : List Spot). Contains ss l.spot) (code_spots f) (map_into spot_of_linked (code_of f) l (numbered_contains (code_of f) n l here)) in
    ap (λ b. not (b && list_any (nat_eq y) (given_in f))) object ∙ ap not (among y (given_in f) (flat_map_into given_spot (spots f.body) l.spot y spot has))

module _ (sigs : List Signature) (types : Types) (f : Function) (given : all_keep_given types f ≡ true) (x : ℕ) (gone : is_kept types f x ≡ false) where
  module _ (edge : Edge) where
    -- what stands at its first point
    spots_keep : (o : Option Linked) → numbered (code_of f) edge.from.0 ≡ o → (s : Spot) → option_map spot_of_linked o ≡ Some s → spot_keeps_given types f s ≡ true
    spots_keep None e s is = absurd (none_some is)
    spots_keep (Some l) e s is = subst (λ (t : Spot). spot_keeps_given types f t ≡ true) (some_same is) (point_tested (spot_keeps_given types f) f edge.from.0 l given e)

    spot_keeps : (s : Spot) → spot_of f edge.from ≡ Some s → spot_keeps_given types f s ≡ true
    spot_keeps s is = spots_keep (numbered (code_of f) edge.from.0) refl s is

    none_given : (o : Option Spot) → ((s : Spot) → o ≡ Some s → spot_keeps_given types f s ≡ true) → AreElsewhere x (none_at sigs types f o)
    none_given None spot = none_elsewhere x
    none_given (Some s) spot = none_node x sigs types f gone s.place s.node (spot s refl)

    one_given : (o : Option Spot) → ((s : Spot) → o ≡ Some s → spot_keeps_given types f s ≡ true) → (a : Fact) → IsElsewhere x a.element → AreElsewhere x (one_at sigs types f edge.branch o a)
    one_given None spot a away = none_elsewhere x
    one_given (Some s) spot a away = one_node x sigs types f gone s.place s.node (spot s refl) edge.branch a away

    two_given : (o : Option Spot) → ((s : Spot) → o ≡ Some s → spot_keeps_given types f s ≡ true) → (a b : Fact) → AreElsewhere x (two_at sigs types f o a b)
    two_given None spot a b = none_elsewhere x
    two_given (Some s) spot a b = two_node x sigs types f gone s.place s.node (spot s refl) a b

    given_elsewhere : (premises : List Fact) (y : Fact) → ((a : Fact) → Contains premises a → IsElsewhere x a.element) → Gives sigs types f edge premises y → IsElsewhere x y.element
    given_elsewhere [] y away has = none_given (spot_of f edge.from) spot_keeps y has
    given_elsewhere (a ∷ []) y away has = one_given (spot_of f edge.from) spot_keeps a (away a (at_head a [])) y has
    given_elsewhere (a ∷ b ∷ []) y away has = two_given (spot_of f edge.from) spot_keeps a b y has
    given_elsewhere (a ∷ b ∷ d ∷ more) y away has = absurd has

  derived_elsewhere : {p : Point} {y : Fact} → Derives sigs types f p y → IsElsewhere x y.element
  derived_elsewhere (entry of held) = entry_elsewhere x types f.parameters 0 f.locals _ held
  derived_elsewhere (along edge premises among held carries) = given_elsewhere edge premises _ (λ a has. derived_elsewhere (held a has)) carries.1

  -- so no fact points into it
  pub derived_unnamed : (p : ℕ) → IsUnnamed (FactsAt sigs types f p) x
  derived_unnamed p a names e = derived_elsewhere names.1 e
