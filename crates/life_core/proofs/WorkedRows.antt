-- Two functions' bodies whose points and edges were written out by hand.
use Rattle.std.proofs.Common.{◌≡◌, ℕ, Bool, true, false, [], ◌∷◌, Option, Some, None, refl}
use Rattle.life_types.specs.declared.place.Place.{Place}
use Rattle.life_core.specs.declared.instr.Form.TheVariants.{Plain}
use Rattle.life_core.specs.declared.stmt.Edge.{Edge}
use Rattle.life_core.specs.Linked.{edges_from, linked, no_exits}
use Rattle.life_core.specs.Operands.{Location}
use Rattle.life_core.specs.Step.{Live, NonZero, NotNull}
use Rattle.life_core.specs.Tree.{Tree, Skip, Then, Acts, Asks, Both, Either, Negated, Choice, Turns, Breaks, Continues, Returns, Node, Action, Question, Return, Spot, size, spots}

-- a place on the line with this number
abbrev on_line : ℕ → Place
on_line n = record { line = n; column = 1 }

abbrev variable : ℕ → Location
variable x = record { local = x; members = [] }

abbrev acts : (line local : ℕ) → Tree
acts n x = Acts (on_line n) (Live x Plain)

abbrev spot : (line : ℕ) → Node → Spot
spot n node = record { node = node; place = on_line n }

abbrev edge : (from to : ℕ) → Option Bool → Edge
edge a b branch = record { from = record { 0 = a }; to = record { 0 = b }; branch = branch }

-- while (c && d) { x; if (e) break; y; } return;
abbrev breaking : Tree
breaking =
    Then
    (Turns
    (Both (Asks (on_line 1) (NonZero 0)) (Asks (on_line 2) (NotNull (variable 1))))
    (Then (acts 3 5) (Then (Choice (Asks (on_line 4) (NonZero 2)) (Then Breaks Skip) Skip) (Then (acts 5 6) Skip)))
    Skip)
    (Then (Returns (on_line 6)) Skip)

breaking_points : spots breaking
    ≡ spot 1 (Question (NonZero 0))
    ∷ spot 2 (Question (NotNull (variable 1)))
    ∷ spot 3 (Action (Live 5 Plain))
    ∷ spot 4 (Question (NonZero 2))
    ∷ spot 5 (Action (Live 6 Plain))
    ∷ spot 6 Return
    ∷ []
breaking_points = refl

breaking_edges : edges_from 1 (linked breaking 1 no_exits)
    ≡ edge 1 2 (Some true)
    ∷ edge 1 6 (Some false)
    ∷ edge 2 3 (Some true)
    ∷ edge 2 6 (Some false)
    ∷ edge 3 4 None
    ∷ edge 4 6 (Some true)
    ∷ edge 4 5 (Some false)
    ∷ edge 5 1 None
    ∷ []
breaking_edges = refl

-- for (; !(c || d); z) { if (e) continue; y; }, at the end of a body
abbrev continuing : Tree
continuing =
    Turns
    (Negated (Either (Asks (on_line 1) (NonZero 0)) (Asks (on_line 2) (NonZero 1))))
    (Then (Choice (Asks (on_line 3) (NonZero 2)) (Then Continues Skip) Skip) (Then (acts 4 5) Skip))
    (Then (acts 5 6) Skip)

continuing_points : size continuing ≡ 5
continuing_points = refl

continuing_edges : edges_from 1 (linked continuing 1 no_exits)
    ≡ edge 1 2 (Some false)
    ∷ edge 2 3 (Some false)
    ∷ edge 3 5 (Some true)
    ∷ edge 3 4 (Some false)
    ∷ edge 4 5 None
    ∷ edge 5 1 None
    ∷ []
continuing_edges = refl
