-- What is wrong at a point of a moved function is what was wrong there, moved.
use Rattle.std.proofs.Common.{◌≡◌, ◌∙◌, ◌∷◌, ◌&&◌, ap, cond, refl, ℕ, Bool, List, [], Option, Some, None, map, option_map}
use Rattle.std.specs.List.{flat_map}
use Rattle.life_types.specs.Types.{Types}
use Rattle.life_types.specs.declared.place.Place.{Place}
use Rattle.life_core.specs.Function.{Function}
use Rattle.life_core.specs.Operands.{Location, Operand, Name, Through, Source}
use Rattle.life_core.specs.Operands as named
use Rattle.life_core.specs.Step.{Step, Aim}
use Rattle.life_core.specs.Tree.{Node, Action, Question, Return, Stop, Spot}
use Rattle.life_pset.specs.Places.{members_place}
use Rattle.life_pset.specs.Shapes.{is_variable_place}
use Rattle.life_pset.specs.contracts.element.AbsPlacePartialEq.TheImpl.{ghosts as compared}
use Rattle.life_pset.specs.declared.element.AbsPlace.{AbsPlace}
use Rattle.life_pset.specs.declared.element.Element.{Element}
use Rattle.life_pset.specs.declared.element.Element.TheVariants as element
use Rattle.life_pset.specs.declared.element.Fact.{Fact}
use Rattle.life_contract.specs.Signatures.{Signature}
use Rattle.life_rules.specs.Callees.{callee_at, callee_of}
use Rattle.life_rules.specs.Carrying.{is_location, located}
use Rattle.life_rules.specs.Diagnosing.{Tells, diags_at, diags_of_two, misopened, misopened_as, misread, misread_as, misused, misused_as, moved_as, moved_target, moved_through, moved_use, node_diags, node_diags_of_two, opens, owner_of_source, owners, reads, step_diags, step_diags_of_two, use_diags, used_by_source, uses}
use Rattle.life_rules.specs.declared.diag.Diag.{Diag}
use Rattle.life_modular.specs.Renaming.{Renaming, moved_diag, moved_element, moved_fact, moved_function, moved_node, moved_signature, moved_source, moved_spot, moved_step}
use Rattle.life_modular.proofs.MovedArguing.{argument_diags_moved, argument_diags_of_two_moved}
use Rattle.life_modular.proofs.MovedKeeping.{keeping_diags_moved}
use Rattle.life_modular.proofs.MovedElements.{is_variable_place_moved}
use Rattle.life_modular.proofs.MovedLists.{Contains_moved, append_moved, cond_moved, flat_map_each}
use Rattle.life_modular.proofs.MovedReturning.{return_diags_moved}

-- ---- what an instruction uses is the same

module _ (r : Renaming) where
  used_by_source_moved : (s : Source) → used_by_source (moved_source r s) ≡ used_by_source s
  used_by_source_moved (named.Text number) = refl
  used_by_source_moved _ = refl

  owner_of_source_moved : (s : Source) → owner_of_source (moved_source r s) ≡ owner_of_source s
  owner_of_source_moved (named.Text number) = refl
  owner_of_source_moved _ = refl

  pub uses_moved : (i : Step) → uses (moved_step r i) ≡ uses i
  uses_moved (Aim p s) = used_by_source_moved s
  uses_moved _ = refl

  pub reads_moved : (i : Step) → reads (moved_step r i) ≡ reads i
  reads_moved (Aim p s) = refl
  reads_moved _ = refl

  pub opens_moved : (i : Step) → opens (moved_step r i) ≡ opens i
  opens_moved (Aim p s) = refl
  opens_moved _ = refl

  pub owners_moved : (i : Step) → owners (moved_step r i) ≡ owners i
  owners_moved (Aim p s) = owner_of_source_moved s
  owners_moved _ = refl

module _ (r : Renaming) (types : Types) (function : ℕ) (place : Place) where
  -- ---- what one fact makes wrong

  misused_moved : (l : AbsPlace) (e : Element) → misused (r.function function) (r.place place) l (moved_element r e) ≡ map (moved_diag r) (misused function place l e)
  misused_moved l element.Null = refl
  misused_moved l _ = refl

  misread_moved : (l : AbsPlace) (e : Element) → misread (r.function function) (r.place place) l (moved_element r e) ≡ map (moved_diag r) (misread function place l e)
  misread_moved l element.Null = refl
  misread_moved l _ = refl

  misopened_moved : (l : AbsPlace) (e : Element) → misopened (r.function function) (r.place place) l (moved_element r e) ≡ map (moved_diag r) (misopened function place l e)
  misopened_moved l element.Null = refl
  misopened_moved l _ = refl

  moved_use_moved : (l : AbsPlace) (e : Element) → moved_use (r.function function) (r.place place) l (moved_element r e) ≡ map (moved_diag r) (moved_use function place l e)
  moved_use_moved l element.Null = refl
  moved_use_moved l _ = refl

  -- .. where the fact is about the pointer
  misused_as_moved : (fact : Fact) (p : Location) → misused_as (r.function function) (r.place place) (moved_fact r fact) p ≡ map (moved_diag r) (misused_as function place fact p)
  misused_as_moved fact p = cond_moved (moved_diag r) (is_location p fact.location) _ [] (misused_moved fact.location fact.element) refl

  misread_as_moved : (fact : Fact) (p : Location) → misread_as (r.function function) (r.place place) (moved_fact r fact) p ≡ map (moved_diag r) (misread_as function place fact p)
  misread_as_moved fact p = cond_moved (moved_diag r) (is_location p fact.location) _ [] (misread_moved fact.location fact.element) refl

  misopened_as_moved : (fact : Fact) (u : Location) → misopened_as (r.function function) (r.place place) (moved_fact r fact) u ≡ map (moved_diag r) (misopened_as function place fact u)
  misopened_as_moved fact u = cond_moved (moved_diag r) (is_location u fact.location) _ [] (misopened_moved fact.location fact.element) refl

  module _ (f : Function) where
    moved_as_moved : (fact : Fact) (o : Operand)
        → moved_as types (r.function function) (moved_function r f) (r.place place) (moved_fact r fact) o ≡ map (moved_diag r) (moved_as types function f place fact o)
    moved_as_moved fact (Name l) =
        ap
        (λ (variable : Bool). cond (is_location l fact.location && variable) (moved_use (r.function function) (r.place place) fact.location (moved_element r fact.element)) [])
        (is_variable_place_moved r f types fact.location)
        ∙ cond_moved (moved_diag r) (is_location l fact.location && is_variable_place types f fact.location) _ [] (moved_use_moved fact.location fact.element) refl
    moved_as_moved fact (Through p members) = refl

    use_diags_moved : (i : Step) (fact : Fact)
        → use_diags types (r.function function) (moved_function r f) (r.place place) (moved_step r i) (moved_fact r fact) ≡ map (moved_diag r) (use_diags types function f place i fact)
    use_diags_moved i fact =
        let misused_there : Location → List Diag = misused_as (r.function function) (r.place place) (moved_fact r fact) in
        let misread_there : Location → List Diag = misread_as (r.function function) (r.place place) (moved_fact r fact) in
        let misopened_there : Location → List Diag = misopened_as (r.function function) (r.place place) (moved_fact r fact) in
        let moved_there : Operand → List Diag = moved_as types (r.function function) (moved_function r f) (r.place place) (moved_fact r fact) in
        append_moved (moved_diag r) _ _
        (ap (flat_map misused_there) (uses_moved r i) ∙ flat_map_each (moved_diag r) misused_there (misused_as function place fact) (uses i) (misused_as_moved fact))
        (append_moved (moved_diag r) _ _
        (ap (flat_map misread_there) (reads_moved r i) ∙ flat_map_each (moved_diag r) misread_there (misread_as function place fact) (reads i) (misread_as_moved fact))
        (append_moved (moved_diag r) _ _
        (ap (flat_map misopened_there) (opens_moved r i) ∙ flat_map_each (moved_diag r) misopened_there (misopened_as function place fact) (opens i) (misopened_as_moved fact))
        (ap (flat_map moved_there) (owners_moved r i) ∙ flat_map_each (moved_diag r) moved_there (moved_as types function f place fact) (owners i) (moved_as_moved fact))))

    -- ---- what two facts make wrong

    moved_target_moved : (p : Location) (members : List ℕ) (e : Element) (b : Fact)
        → moved_target types (r.function function) (moved_function r f) (r.place place) p members (moved_element r e) (moved_fact r b)
        ≡ map (moved_diag r) (moved_target types function f place p members e b)
    moved_target_moved p members (element.At a) b =
        ap
        (λ (variable : Bool).
        cond (compared.eq b.location (members_place a members) && variable) (moved_use (r.function function) (r.place place) (located p) (moved_element r b.element)) [])
        (is_variable_place_moved r f types b.location)
        ∙ cond_moved (moved_diag r) (compared.eq b.location (members_place a members) && is_variable_place types f b.location) _ [] (moved_use_moved (located p) b.element) refl
    moved_target_moved p members _ b = refl

    moved_through_moved : (a b : Fact) (o : Operand)
        → moved_through types (r.function function) (moved_function r f) (r.place place) (moved_fact r a) (moved_fact r b) o
        ≡ map (moved_diag r) (moved_through types function f place a b o)
    moved_through_moved a b (Name l) = refl
    moved_through_moved a b (Through p members) = cond_moved (moved_diag r) (is_location p a.location) _ [] (moved_target_moved p members a.element b) refl

    -- ---- at an instruction

    module _ (these those : List Signature) where
      step_diags_moved : (i : Step) → callee_of those (moved_step r i) ≡ option_map (moved_signature r) (callee_of these i) → (fact : Fact)
          → step_diags those types (r.function function) (moved_function r f) (r.place place) (moved_step r i) (moved_fact r fact)
          ≡ map (moved_diag r) (step_diags these types function f place i fact)
      step_diags_moved i called fact =
          append_moved (moved_diag r) _ _
          (use_diags_moved i fact)
          (append_moved (moved_diag r) _ _ (argument_diags_moved r types function place these those i called fact) (keeping_diags_moved r types f function place these those i called fact))

      step_diags_of_two_moved : (i : Step) → callee_of those (moved_step r i) ≡ option_map (moved_signature r) (callee_of these i) → (a b : Fact)
          → step_diags_of_two those types (r.function function) (moved_function r f) (r.place place) (moved_step r i) (moved_fact r a) (moved_fact r b)
          ≡ map (moved_diag r) (step_diags_of_two these types function f place i a b)
      step_diags_of_two_moved i called a b =
          let there : Operand → List Diag = moved_through types (r.function function) (moved_function r f) (r.place place) (moved_fact r a) (moved_fact r b) in
          append_moved (moved_diag r) _ _
          (ap (flat_map there) (owners_moved r i) ∙ flat_map_each (moved_diag r) there (moved_through types function f place a b) (owners i) (moved_through_moved a b))
          (argument_diags_of_two_moved r types function place f these those i called a b)

      node_diags_moved : (n : Node) → callee_at those (moved_node r n) ≡ option_map (moved_signature r) (callee_at these n) → (fact : Fact)
          → node_diags those types (r.function function) (moved_function r f) (r.place place) (moved_node r n) (moved_fact r fact)
          ≡ map (moved_diag r) (node_diags these types function f place n fact)
      node_diags_moved (Action i) called fact = step_diags_moved i called fact
      node_diags_moved (Question t) called fact = refl
      node_diags_moved Return called fact = return_diags_moved r types function place f fact
      node_diags_moved Stop called fact = refl

      node_diags_of_two_moved : (n : Node) → callee_at those (moved_node r n) ≡ option_map (moved_signature r) (callee_at these n) → (a b : Fact)
          → node_diags_of_two those types (r.function function) (moved_function r f) (r.place place) (moved_node r n) (moved_fact r a) (moved_fact r b)
          ≡ map (moved_diag r) (node_diags_of_two these types function f place n a b)
      node_diags_of_two_moved (Action i) called a b = step_diags_of_two_moved i called a b
      node_diags_of_two_moved _ called a b = refl

-- ---- at a point

module _ (r : Renaming) (types : Types) (function : ℕ) (f : Function) (these those : List Signature) where
  -- what stands there calls what has its signature, moved
  abbrev pub CallsMovedAt : Option Spot → Type 0
  CallsMovedAt o = (s : Spot) → o ≡ Some s → callee_at those (moved_node r s.node) ≡ option_map (moved_signature r) (callee_at these s.node)

  pub diags_at_moved : (o : Option Spot) → CallsMovedAt o → (fact : Fact)
      → diags_at those types (r.function function) (moved_function r f) (option_map (moved_spot r) o) (moved_fact r fact) ≡ map (moved_diag r) (diags_at these types function f o fact)
  diags_at_moved None called fact = refl
  diags_at_moved (Some s) called fact = node_diags_moved r types function s.place f these those s.node (called s refl) fact

  pub diags_of_two_moved : (o : Option Spot) → CallsMovedAt o → (a b : Fact)
      → diags_of_two those types (r.function function) (moved_function r f) (option_map (moved_spot r) o) (moved_fact r a) (moved_fact r b)
      ≡ map (moved_diag r) (diags_of_two these types function f o a b)
  diags_of_two_moved None called a b = refl
  diags_of_two_moved (Some s) called a b = node_diags_of_two_moved r types function s.place f these those s.node (called s refl) a b

  pub tells_moved : (o : Option Spot) → CallsMovedAt o → (facts : List Fact) (d : Diag) → Tells these types function f o facts d
      → Tells those types (r.function function) (moved_function r f) (option_map (moved_spot r) o) (map (moved_fact r) facts) (moved_diag r d)
  tells_moved o called [] d told = told
  tells_moved o called (a ∷ []) d told = Contains_moved (moved_diag r) (diags_at these types function f o a) (diags_at_moved o called a) d told
  tells_moved o called (a ∷ b ∷ []) d told = Contains_moved (moved_diag r) (diags_of_two these types function f o a b) (diags_of_two_moved o called a b) d told
  tells_moved o called (a ∷ b ∷ c ∷ more) d told = told
