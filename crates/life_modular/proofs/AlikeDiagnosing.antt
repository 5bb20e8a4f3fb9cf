-- What is wrong at a point looks only at the types that the function and the called ones name.
use Rattle.std.proofs.Common.{◌≡◌, ◌++◌, ◌∷◌, ◌&&◌, ap, ap₂, cond, map, refl, subst, sym, ℕ, Bool, Contains, List, [], Option, Some, None}
use Rattle.std.specs.List.{flat_map}
use Rattle.life_types.specs.Types.{Types}
use Rattle.life_types.specs.declared.place.Place.{Place}
use Rattle.life_core.specs.Function.{Function}
use Rattle.life_core.specs.Operands.{Location, Operand, Name, Through}
use Rattle.life_core.specs.Step.{Step}
use Rattle.life_core.specs.Tree.{Node, Action, Question, Return, Stop, Spot}
use Rattle.life_pset.specs.Places.{members_place}
use Rattle.life_pset.specs.contracts.element.AbsPlacePartialEq.TheImpl.{ghosts as compared}
use Rattle.life_pset.specs.declared.element.Element.{Element}
use Rattle.life_pset.specs.declared.element.Element.TheVariants as element
use Rattle.life_pset.specs.declared.element.Fact.{Fact}
use Rattle.life_contract.specs.Signatures.{Signature}
use Rattle.life_rules.specs.Callees.{callee_at, callee_of}
use Rattle.life_rules.specs.Carrying.{is_location, located}
use Rattle.life_rules.specs.Diagnosing.{Tells, diags_at, diags_of_two, misopened_as, misread_as, misused_as, moved_as, moved_target, moved_through, moved_use, node_diags, node_diags_of_two, opens, owners, reads, step_diags, step_diags_of_two, use_diags, uses}
use Rattle.life_rules.specs.declared.diag.Diag.{Diag}
use Rattle.life_modular.specs.Renumbering.{Renumbering, renumbered_function, renumbered_signature}
use Rattle.life_modular.specs.Vocabulary.{Vocabulary, CalleeNames, HaveAlike, Names}
use Rattle.life_modular.proofs.AlikeArguing.{argument_diags_of_two_same, argument_diags_same}
use Rattle.life_modular.proofs.AlikeCalling.{CallsNameAt}
use Rattle.life_modular.proofs.AlikeKeeping.{keeping_diags_same}
use Rattle.life_modular.proofs.AlikeReturning.{return_diags_same}
use Rattle.life_modular.proofs.AlikeLists.{flat_map_same}
use Rattle.life_modular.proofs.AlikeTypes.{is_variable_place_same}

module _ {v : Vocabulary} {new : Renumbering} {these those : Types} (alike : HaveAlike v new these those) (sigs : List Signature) (function : ℕ) (f : Function) (names : Names v f) where
  -- ---- one fact

  moved_as_same : (place : Place) (fact : Fact) (o : Operand)
      → moved_as those function (renumbered_function new f) place fact o ≡ moved_as these function f place fact o
  moved_as_same place fact (Name l) =
      ap
      (λ (variable : Bool). cond (is_location l fact.location && variable) (moved_use function place fact.location fact.element) [])
      (is_variable_place_same alike names fact.location)
  moved_as_same place fact (Through p members) = refl

  use_diags_same : (place : Place) (i : Step) (fact : Fact)
      → use_diags those function (renumbered_function new f) place i fact ≡ use_diags these function f place i fact
  use_diags_same place i fact =
      ap
      (λ (moved : List Diag).
      flat_map (misused_as function place fact) (uses i)
      ++ (flat_map (misread_as function place fact) (reads i) ++ (flat_map (misopened_as function place fact) (opens i) ++ moved)))
      (flat_map_same (moved_as those function (renumbered_function new f) place fact) (moved_as these function f place fact) (owners i) (λ o among. moved_as_same place fact o))

  step_diags_same : (place : Place) (i : Step) → CalleeNames v (callee_of sigs i) → (fact : Fact)
      → step_diags (map (renumbered_signature new) sigs) those function (renumbered_function new f) place i fact ≡ step_diags sigs these function f place i fact
  step_diags_same place i heads fact =
      ap₂ (λ (used others : List Diag). used ++ others)
      (use_diags_same place i fact)
      (ap₂ (λ (given kept : List Diag). given ++ kept) (argument_diags_same alike function place sigs i heads fact) (keeping_diags_same alike f names function place sigs i heads fact))

  -- ---- two facts

  moved_target_same : (place : Place) (p : Location) (members : List ℕ) (e : Element) (b : Fact)
      → moved_target those function (renumbered_function new f) place p members e b ≡ moved_target these function f place p members e b
  moved_target_same place p members (element.At a) b =
      ap
      (λ (variable : Bool). cond (compared.eq b.location (members_place a members) && variable) (moved_use function place (located p) b.element) [])
      (is_variable_place_same alike names b.location)
  moved_target_same place p members _ b = refl

  moved_through_same : (place : Place) (a b : Fact) (o : Operand)
      → moved_through those function (renumbered_function new f) place a b o ≡ moved_through these function f place a b o
  moved_through_same place a b (Name l) = refl
  moved_through_same place a b (Through p members) = ap (λ (wrong : List Diag). cond (is_location p a.location) wrong []) (moved_target_same place p members a.element b)

  step_diags_of_two_same : (place : Place) (i : Step) → CalleeNames v (callee_of sigs i) → (a b : Fact)
      → step_diags_of_two (map (renumbered_signature new) sigs) those function (renumbered_function new f) place i a b
      ≡ step_diags_of_two sigs these function f place i a b
  step_diags_of_two_same place i heads a b =
      ap₂ (λ (moved given : List Diag). moved ++ given)
      (flat_map_same (moved_through those function (renumbered_function new f) place a b) (moved_through these function f place a b) (owners i) (λ o among. moved_through_same place a b o))
      (argument_diags_of_two_same alike function place f names sigs i heads a b)

  -- ---- of a point

  node_diags_same : (place : Place) (n : Node) → CalleeNames v (callee_at sigs n) → (fact : Fact)
      → node_diags (map (renumbered_signature new) sigs) those function (renumbered_function new f) place n fact ≡ node_diags sigs these function f place n fact
  node_diags_same place (Action i) heads fact = step_diags_same place i heads fact
  node_diags_same place (Question t) heads fact = refl
  node_diags_same place Return heads fact = return_diags_same alike f names function place fact
  node_diags_same place Stop heads fact = refl

  node_diags_of_two_same : (place : Place) (n : Node) → CalleeNames v (callee_at sigs n) → (a b : Fact)
      → node_diags_of_two (map (renumbered_signature new) sigs) those function (renumbered_function new f) place n a b
      ≡ node_diags_of_two sigs these function f place n a b
  node_diags_of_two_same place (Action i) heads a b = step_diags_of_two_same place i heads a b
  node_diags_of_two_same place _ heads a b = refl

  diags_at_same : (o : Option Spot) → CallsNameAt v sigs o → (fact : Fact)
      → diags_at (map (renumbered_signature new) sigs) those function (renumbered_function new f) o fact ≡ diags_at sigs these function f o fact
  diags_at_same None heads fact = refl
  diags_at_same (Some s) heads fact = node_diags_same s.place s.node (heads s refl) fact

  diags_of_two_same : (o : Option Spot) → CallsNameAt v sigs o → (a b : Fact)
      → diags_of_two (map (renumbered_signature new) sigs) those function (renumbered_function new f) o a b ≡ diags_of_two sigs these function f o a b
  diags_of_two_same None heads a b = refl
  diags_of_two_same (Some s) heads a b = node_diags_of_two_same s.place s.node (heads s refl) a b

  pub tells_alike : (o : Option Spot) → CallsNameAt v sigs o → (facts : List Fact) (d : Diag) → Tells sigs these function f o facts d
      → Tells (map (renumbered_signature new) sigs) those function (renumbered_function new f) o facts d
  tells_alike o heads [] d told = told
  tells_alike o heads (a ∷ []) d told = subst (λ (ds : List Diag). Contains ds d) (sym (diags_at_same o heads a)) told
  tells_alike o heads (a ∷ b ∷ []) d told = subst (λ (ds : List Diag). Contains ds d) (sym (diags_of_two_same o heads a b)) told
  tells_alike o heads (a ∷ b ∷ c ∷ more) d told = told
