-- What is derived in a function, and what is wrong with it, where what it calls has the same signatures.
use Rattle.std.proofs.Common.{◌≡◌, ◌++◌, ℕ, Bool, List, [], ◌∷◌, Option, Some, None, Contains, refl, ap, subst, ◌∙◌}
use Rattle.std.specs.List.{flat_map}
use Rattle.life_types.specs.Types.{Types}
use Rattle.life_types.specs.declared.place.Place.{Place}
use Rattle.life_core.specs.Function.{Function}
use Rattle.life_core.specs.Linked.{spot_of}
use Rattle.life_core.specs.Step.{Step, Call}
use Rattle.life_core.specs.Tree.{Node, Action, Spot}
use Rattle.life_core.specs.declared.stmt.Edge.{Edge}
use Rattle.life_core.specs.declared.stmt.Point.{Point}
use Rattle.life_pset.specs.declared.element.Fact.{Fact}
use Rattle.life_contract.specs.Signatures.{Signature}
use Rattle.life_rules.specs.Arguing.{argument_diags, argument_diags_of_two, broken_by, broken_by_two}
use Rattle.life_rules.specs.Callees.{callee_at, callee_of}
use Rattle.life_rules.specs.Calling.{called_none, called_one, called_two}
use Rattle.life_rules.specs.Carrying.{Gives, drops, from_none, from_one, from_two, killed_facts, kills, makes, node_none, node_one, node_two, none_at, one_at, two_at, unless}
use Rattle.life_rules.specs.Deriving.{Derives, along, entry}
use Rattle.life_rules.specs.Diagnosing.{IsDiagnosed, Tells, diags_at, diags_of_two, moved_through, node_diags, node_diags_of_two, owners, step_diags, use_diags}
use Rattle.life_rules.specs.Keeping.{kept_by_call, keeping_diags}
use Rattle.life_rules.specs.declared.diag.Diag.{Diag}
use Rattle.life_modular.specs.Modular.{CallsAlike}

module _ (these those : List Signature) (types : Types) (function : ℕ) (f : Function) where
  -- ---- of an instruction

  from_none_same : (place : Place) (i : Step) → callee_of these i ≡ callee_of those i → from_none these types f place i ≡ from_none those types f place i
  from_none_same place (Call target g xs) e = ap (λ (callee : Option Signature). called_none types callee target) e
  from_none_same place _ e = refl

  makes_same : (place : Place) (i : Step) (x : Fact) → callee_of these i ≡ callee_of those i → makes these types f place i x ≡ makes those types f place i x
  makes_same place (Call target g xs) x e = ap (λ (callee : Option Signature). called_one types callee xs target x) e
  makes_same place _ x e = refl

  from_one_same : (place : Place) (i : Step) (x : Fact) → callee_of these i ≡ callee_of those i → from_one these types f place i x ≡ from_one those types f place i x
  from_one_same place i x e =
      ap (λ (made : List Fact). unless (drops types f place i x) x ++ (killed_facts (kills types f place i) i x ++ made)) (makes_same place i x e)

  from_two_same : (place : Place) (i : Step) (x y : Fact) → callee_of these i ≡ callee_of those i → from_two these types f place i x y ≡ from_two those types f place i x y
  from_two_same place (Call target g xs) x y e = ap (λ (callee : Option Signature). called_two types place g.0 callee xs target x y) e
  from_two_same place _ x y e = refl

  argument_same : (place : Place) (i : Step) (x : Fact) → callee_of these i ≡ callee_of those i
      → argument_diags these types function place i x ≡ argument_diags those types function place i x
  argument_same place (Call target g xs) x e = ap (λ (callee : Option Signature). broken_by types function place g.0 callee xs x) e
  argument_same place _ x e = refl

  keeping_same : (place : Place) (i : Step) (x : Fact) → callee_of these i ≡ callee_of those i
      → keeping_diags these types function f place i x ≡ keeping_diags those types function f place i x
  keeping_same place (Call target g xs) x e = ap (λ (callee : Option Signature). kept_by_call types function f place g.0 callee xs x) e
  keeping_same place _ x e = refl

  step_same : (place : Place) (i : Step) (x : Fact) → callee_of these i ≡ callee_of those i → step_diags these types function f place i x ≡ step_diags those types function f place i x
  step_same place i x e =
      ap (λ (told : List Diag). use_diags types function f place i x ++ (told ++ keeping_diags these types function f place i x)) (argument_same place i x e)
      ∙ ap (λ (told : List Diag). use_diags types function f place i x ++ (argument_diags those types function place i x ++ told)) (keeping_same place i x e)

  argument_two_same : (place : Place) (i : Step) (x y : Fact) → callee_of these i ≡ callee_of those i
      → argument_diags_of_two these types function f place i x y ≡ argument_diags_of_two those types function f place i x y
  argument_two_same place (Call target g xs) x y e = ap (λ (callee : Option Signature). broken_by_two types function f place g.0 callee xs x y) e
  argument_two_same place _ x y e = refl

  -- ---- of a point

  abbrev IsSameAt : Option Spot → Type 0
  IsSameAt o = (s : Spot) → o ≡ Some s → callee_at these s.node ≡ callee_at those s.node

  node_none_same : (place : Place) (n : Node) → callee_at these n ≡ callee_at those n → node_none these types f place n ≡ node_none those types f place n
  node_none_same place (Action i) e = from_none_same place i e
  node_none_same place _ e = refl

  node_one_same : (place : Place) (branch : Option Bool) (n : Node) (x : Fact) → callee_at these n ≡ callee_at those n
      → node_one these types f place branch n x ≡ node_one those types f place branch n x
  node_one_same place branch (Action i) x e = from_one_same place i x e
  node_one_same place branch _ x e = refl

  node_two_same : (place : Place) (n : Node) (x y : Fact) → callee_at these n ≡ callee_at those n → node_two these types f place n x y ≡ node_two those types f place n x y
  node_two_same place (Action i) x y e = from_two_same place i x y e
  node_two_same place _ x y e = refl

  node_diags_same : (place : Place) (n : Node) (x : Fact) → callee_at these n ≡ callee_at those n → node_diags these types function f place n x ≡ node_diags those types function f place n x
  node_diags_same place (Action i) x e = step_same place i x e
  node_diags_same place _ x e = refl

  node_diags_two_same : (place : Place) (n : Node) (x y : Fact) → callee_at these n ≡ callee_at those n
      → node_diags_of_two these types function f place n x y ≡ node_diags_of_two those types function f place n x y
  node_diags_two_same place (Action i) x y e =
      ap (λ (told : List Diag). flat_map (moved_through types function f place x y) (owners i) ++ told) (argument_two_same place i x y e)
  node_diags_two_same place _ x y e = refl

  none_same : (o : Option Spot) → IsSameAt o → none_at these types f o ≡ none_at those types f o
  none_same None same = refl
  none_same (Some s) same = node_none_same s.place s.node (same s refl)

  one_same : (branch : Option Bool) (o : Option Spot) (x : Fact) → IsSameAt o → one_at these types f branch o x ≡ one_at those types f branch o x
  one_same branch None x same = refl
  one_same branch (Some s) x same = node_one_same s.place branch s.node x (same s refl)

  two_same : (o : Option Spot) (x y : Fact) → IsSameAt o → two_at these types f o x y ≡ two_at those types f o x y
  two_same None x y same = refl
  two_same (Some s) x y same = node_two_same s.place s.node x y (same s refl)

  diags_same : (o : Option Spot) (x : Fact) → IsSameAt o → diags_at these types function f o x ≡ diags_at those types function f o x
  diags_same None x same = refl
  diags_same (Some s) x same = node_diags_same s.place s.node x (same s refl)

  diags_two_same : (o : Option Spot) (x y : Fact) → IsSameAt o → diags_of_two these types function f o x y ≡ diags_of_two those types function f o x y
  diags_two_same None x y same = refl
  diags_two_same (Some s) x y same = node_diags_two_same s.place s.node x y (same s refl)

  tells_same : (o : Option Spot) (facts : List Fact) (d : Diag) → IsSameAt o → Tells these types function f o facts d → Tells those types function f o facts d
  tells_same o [] d same told = told
  tells_same o (x ∷ []) d same told = subst (λ (ds : List Diag). Contains ds d) (diags_same o x same) told
  tells_same o (x ∷ y ∷ []) d same told = subst (λ (ds : List Diag). Contains ds d) (diags_two_same o x y same) told
  tells_same o (x ∷ y ∷ z ∷ more) d same told = told

  -- ---- of the function

  module _ (alike : CallsAlike these those f) where
    gives_same : (edge : Edge) (premises : List Fact) (x : Fact) → Gives these types f edge premises x → Gives those types f edge premises x
    gives_same edge [] x given = subst (λ (xs : List Fact). Contains xs x) (none_same (spot_of f edge.from) (alike edge.from)) given
    gives_same edge (a ∷ []) x given = subst (λ (xs : List Fact). Contains xs x) (one_same edge.branch (spot_of f edge.from) a (alike edge.from)) given
    gives_same edge (a ∷ b ∷ []) x given = subst (λ (xs : List Fact). Contains xs x) (two_same (spot_of f edge.from) a b (alike edge.from)) given
    gives_same edge (a ∷ b ∷ c ∷ more) x given = given

    derives_same : {point : Point} {x : Fact} → Derives these types f point x → Derives those types f point x
    derives_same (entry is among) = entry is among
    derives_same (along edge premises among held carries) =
        along edge premises among (λ a has. derives_same (held a has)) (carries.0, gives_same edge premises _ carries.1)

    pub diagnosed_same : (d : Diag) → IsDiagnosed these types function f d → IsDiagnosed those types function f d
    diagnosed_same d (point, (facts, (held, told))) =
        (point, (facts, ((λ x has. derives_same (held x has)), tells_same (spot_of f point) facts d (alike point) told)))
