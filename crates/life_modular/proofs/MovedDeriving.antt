-- What is derived in a function that stands elsewhere: what was derived before, moved.
use Rattle.std.proofs.Common.{◌≡◌, ◌+◌, ℕ, Bool, List, [], ◌∷◌, Some, Contains, if◌then◌else◌, nat_lt, map, refl, sym, ap, subst, ◌∙◌}
use Rattle.std.specs.List.{flat_map}
use Rattle.life_types.specs.Types.{Types}
use Rattle.life_types.specs.declared.ty.Ty.{Ty}
use Rattle.life_types.specs.declared.ty.TyId.{TyId}
use Rattle.life_core.specs.Function.{Function}
use Rattle.life_core.specs.declared.program.Local.{Local}
use Rattle.life_core.specs.declared.stmt.Edge.{Edge}
use Rattle.life_core.specs.declared.stmt.Point.{Point}
use Rattle.life_pset.specs.Elements.{Input, local_inputs, local_locations}
use Rattle.life_pset.specs.Places.{path, root_place}
use Rattle.life_pset.specs.Shapes.{members_type, shape, ty_if}
use Rattle.life_pset.specs.declared.element.AbsPlace.{AbsPlace}
use Rattle.life_pset.specs.declared.element.Element.TheVariants as element
use Rattle.life_pset.specs.declared.element.Fact.{Fact}
use Rattle.life_contract.specs.Inputs.{may_be_null}
use Rattle.life_contract.specs.Promises.{owner_elements}
use Rattle.life_contract.specs.Signatures.{Signature}
use Rattle.life_rules.specs.Deriving.{Carries, Derives, along, entry, entry_facts, entry_facts_from, input_facts, owner_facts, parameter_facts}
use Rattle.life_rules.specs.Matching.{fact_at}
use Rattle.life_modular.specs.Renaming.{CallsMoved, Renaming, moved_fact, moved_function, moved_local}
use Rattle.life_modular.proofs.AlikeLists.{each_map}
use Rattle.life_modular.proofs.MovedCarrying.{gives_moved}
use Rattle.life_modular.proofs.MovedCode.{edges_moved}
use Rattle.life_modular.proofs.MovedElements.{is_of_moved}
use Rattle.life_modular.proofs.MovedLists.{Contains_moved, append_moved, flat_map_each}
use Rattle.life_modular.proofs.MovedMatching.{at_location_moved, given_if_moved, if_moved, owner_elements_kept}

module _ (r : Renaming) (types : Types) where
  -- ---- at the entry

  input_facts_moved : (nonnull : Bool) (i : Input) → input_facts types nonnull i ≡ map (moved_fact r) (input_facts types nonnull i)
  input_facts_moved nonnull i = ap (λ (xs : List Fact). fact_at i.pointer (element.At (root_place i.root)) ∷ xs) (given_if_moved r (may_be_null types nonnull i) (fact_at i.pointer element.Null))

  owner_facts_moved : (id : TyId) (l : AbsPlace) → owner_facts types id l ≡ map (moved_fact r) (owner_facts types id l)
  owner_facts_moved id l =
      let t : Ty = ty_if types (members_type types (Some id) (path l)) in
      ap (map (fact_at l)) (sym (owner_elements_kept r t)) ∙ at_location_moved r l (owner_elements t)

  inputs_moved : (nonnull : Bool) (is : List Input) → flat_map (input_facts types nonnull) is ≡ map (moved_fact r) (flat_map (input_facts types nonnull) is)
  inputs_moved nonnull is = flat_map_each (moved_fact r) (input_facts types nonnull) (input_facts types nonnull) is (input_facts_moved nonnull)

  owners_moved : (id : TyId) (ls : List AbsPlace) → flat_map (owner_facts types id) ls ≡ map (moved_fact r) (flat_map (owner_facts types id) ls)
  owners_moved id ls = flat_map_each (moved_fact r) (owner_facts types id) (owner_facts types id) ls (owner_facts_moved id)

  parameter_facts_moved : (n x : ℕ) (l : Local) → parameter_facts types n x (moved_local r l) ≡ map (moved_fact r) (parameter_facts types n x l)
  parameter_facts_moved n x l =
      let inputs : List Fact = flat_map (input_facts types l.nonnull) (local_inputs types n x l) in
      let owners : List Fact = flat_map (owner_facts types (shape types n x l)) (local_locations types n x l) in
      append_moved (moved_fact r) inputs (if nat_lt x n then owners else []) (inputs_moved l.nonnull (local_inputs types n x l))
      (if_moved (moved_fact r) (nat_lt x n) owners [] (owners_moved (shape types n x l) (local_locations types n x l)) refl)

  entry_facts_from_moved : (n x : ℕ) (ls : List Local) → entry_facts_from types n x (map (moved_local r) ls) ≡ map (moved_fact r) (entry_facts_from types n x ls)
  entry_facts_from_moved n x [] = refl
  entry_facts_from_moved n x (l ∷ ls) =
      append_moved (moved_fact r) (parameter_facts types n x l) (entry_facts_from types n (x + 1) ls) (parameter_facts_moved n x l) (entry_facts_from_moved n (x + 1) ls)

  pub entry_facts_moved : (f : Function) → entry_facts types (moved_function r f) ≡ map (moved_fact r) (entry_facts types f)
  entry_facts_moved f = entry_facts_from_moved f.parameters 0 f.locals

  -- ---- at each point

  module _ (these those : List Signature) (f : Function) (calls : CallsMoved r these those f) where
    pub carries_moved : (edge : Edge) (premises : List Fact) {x : Fact}
        → Carries these types f edge premises x → Carries those types (moved_function r f) edge (map (moved_fact r) premises) (moved_fact r x)
    carries_moved edge premises {x} carries = (is_of_moved r f types x carries.0, gives_moved r types f these those calls edge premises x carries.1)

    pub derives_moved : {point : Point} {x : Fact} → Derives these types f point x → Derives those types (moved_function r f) point (moved_fact r x)
    derives_moved {point} {x} (entry is among) = entry (is_of_moved r f types x is) (Contains_moved (moved_fact r) (entry_facts types f) (entry_facts_moved f) x among)
    derives_moved (along edge premises among held carries) =
        along edge (map (moved_fact r) premises) (subst (λ (es : List Edge). Contains es edge) (sym (edges_moved r f)) among)
        (each_map (Derives those types (moved_function r f) edge.from) (moved_fact r) premises (λ a has. derives_moved (held a has)))
        (carries_moved edge premises carries)
