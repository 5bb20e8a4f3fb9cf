-- What is wrong with the arguments of a call of a moved function is what was wrong with them, moved.
use Rattle.std.proofs.Common.{◌≡◌, ◌∙◌, ◌++◌, ◌&&◌, ap, ap₂, cond, refl, ℕ, Bool, List, [], Option, Some, None, map, option_map, slice_get, unwrap_or}
use Rattle.std.specs.List.{flat_map}
use Rattle.life_types.specs.Types.{Types}
use Rattle.life_types.specs.declared.place.Place.{Place}
use Rattle.life_types.specs.declared.ty.NameId.{NameId}
use Rattle.life_core.specs.Function.{Function}
use Rattle.life_core.specs.Operands.{Argument}
use Rattle.life_core.specs.Step.{Step, Call}
use Rattle.life_pset.specs.Elements.{Input}
use Rattle.life_pset.specs.Shapes.{is_variable_place}
use Rattle.life_pset.specs.contracts.element.AbsPlacePartialEq.TheImpl.{ghosts as compared}
use Rattle.life_pset.specs.declared.element.Element.{Element}
use Rattle.life_pset.specs.declared.element.Element.TheVariants as element
use Rattle.life_pset.specs.declared.element.Fact.{Fact}
use Rattle.life_contract.specs.Arguments.{is_argument_of}
use Rattle.life_contract.specs.Breaking.{Break, NotAdmitted, Dangles, breaks_apart, breaks_at, of_pairs}
use Rattle.life_contract.specs.Inputs.{input_parameter, inputs_of_signature}
use Rattle.life_contract.specs.Signatures.{Signature}
use Rattle.life_contract.specs.declared.param.Param.{Param}
use Rattle.life_rules.specs.Arguing.{argument_diags, argument_diags_of_two, broken_at, broken_by, broken_by_two, known_name, moved_argument, moved_at, moved_behind, overlapping_at, told_break}
use Rattle.life_rules.specs.Callees.{callee_of}
use Rattle.life_rules.specs.Telling.{told_of}
use Rattle.life_rules.specs.declared.diag.Diag.{Diag}
use Rattle.life_rules.specs.declared.diag.DiagKind.TheVariants.{ArgOverlap}
use Rattle.life_rules.specs.declared.diag.Why.TheVariants as why
use Rattle.life_modular.specs.Renaming.{Renaming, moved_break, moved_diag, moved_element, moved_fact, moved_function, moved_parameter, moved_signature, moved_step}
use Rattle.life_modular.proofs.MovedElements.{is_variable_place_moved}
use Rattle.life_modular.proofs.MovedLists.{append_moved, cond_moved, flat_map_each, flat_map_moved, of_pairs_each}
use Rattle.life_modular.proofs.MovedSignatures.{breaks_apart_moved, breaks_at_moved, input_parameter_moved, inputs_of_signature_moved}

module _ (r : Renaming) (types : Types) (function : ℕ) (place : Place) where
  -- ---- one fact

  told_break_moved : (g : ℕ) (i : Input) (b : Break)
      → told_break (r.function function) (r.place place) (r.function g) i (moved_break r b) ≡ map (moved_diag r) (told_break function place g i b)
  told_break_moved g i NotAdmitted = refl
  told_break_moved g i (Dangles c) = refl

  told_at_moved : (g : ℕ) (sig : Signature) (i : Input) (e : Element)
      → flat_map (told_break (r.function function) (r.place place) (r.function g) i) (breaks_at types (moved_signature r sig) i (moved_element r e))
      ≡ map (moved_diag r) (flat_map (told_break function place g i) (breaks_at types sig i e))
  told_at_moved g sig i e =
      let there : Break → List Diag = told_break (r.function function) (r.place place) (r.function g) i in
      ap (flat_map there) (breaks_at_moved r sig types i e)
      ∙ flat_map_moved (moved_break r) (moved_diag r) there (told_break function place g i) (breaks_at types sig i e) (told_break_moved g i)

  broken_at_moved : (g : ℕ) (sig : Signature) (xs : List Argument) (fact : Fact) (i : Input)
      → broken_at types (r.function function) (r.place place) (r.function g) (moved_signature r sig) xs (moved_fact r fact) i
      ≡ map (moved_diag r) (broken_at types function place g sig xs fact i)
  broken_at_moved g sig xs fact i = cond_moved (moved_diag r) (is_argument_of xs i fact.location) _ [] (told_at_moved g sig i fact.element) refl

  pub broken_by_moved : (g : ℕ) (callee : Option Signature) (xs : List Argument) (fact : Fact)
      → broken_by types (r.function function) (r.place place) (r.function g) (option_map (moved_signature r) callee) xs (moved_fact r fact)
      ≡ map (moved_diag r) (broken_by types function place g callee xs fact)
  broken_by_moved g None xs fact = refl
  broken_by_moved g (Some sig) xs fact =
      let there : Input → List Diag = broken_at types (r.function function) (r.place place) (r.function g) (moved_signature r sig) xs (moved_fact r fact) in
      ap (flat_map there) (inputs_of_signature_moved r sig types)
      ∙ flat_map_each (moved_diag r) there (broken_at types function place g sig xs fact) (inputs_of_signature types sig) (broken_at_moved g sig xs fact)

  pub argument_diags_moved : (these those : List Signature) (i : Step) → callee_of those (moved_step r i) ≡ option_map (moved_signature r) (callee_of these i) → (fact : Fact)
      → argument_diags those types (r.function function) (r.place place) (moved_step r i) (moved_fact r fact) ≡ map (moved_diag r) (argument_diags these types function place i fact)
  argument_diags_moved these those (Call target g xs) called fact =
      ap (λ (callee : Option Signature). broken_by types (r.function function) (r.place place) (r.function g.0) callee xs (moved_fact r fact)) called
      ∙ broken_by_moved g.0 (slice_get these g.0) xs fact
  argument_diags_moved these those _ called fact = refl

  -- ---- two facts

  moved_argument_moved : (g : ℕ) (i : Input) (e : Element)
      → moved_argument (r.function function) (r.place place) (r.function g) i (moved_element r e) ≡ map (moved_diag r) (moved_argument function place g i e)
  moved_argument_moved g i (element.Moved c) = refl
  moved_argument_moved g i _ = refl

  named_moved : (other : NameId) (name : Option NameId) → unwrap_or (option_map r.name name) (r.name other) ≡ r.name (unwrap_or name other)
  named_moved other None = refl
  named_moved other (Some name) = refl

  -- the name by which a parameter is told has its new number
  known_name_moved : (other : NameId) (p : Option Param) → known_name (r.name other) (option_map (moved_parameter r) p) ≡ r.name (known_name other p)
  known_name_moved other None = refl
  known_name_moved other (Some p) = named_moved other p.name

  overlapping_at_moved : (g : ℕ) (sig : Signature) (xs : List Argument) (a b : Fact) (i j : Input)
      → overlapping_at types (r.function function) (r.place place) (r.function g) (moved_signature r sig) xs (moved_fact r a) (moved_fact r b) i j
      ≡ map (moved_diag r) (overlapping_at types function place g sig xs a b i j)
  overlapping_at_moved g sig xs a b i j =
      ap₂
      (λ (broken : Bool) (name : NameId). cond
      ((is_argument_of xs i a.location && is_argument_of xs j b.location) && broken)
      (told_of (r.function function) (r.place place) (r.function g) ArgOverlap i.pointer (why.Overlap name))
      [])
      (breaks_apart_moved r sig types i j a.element b.element)
      (ap (known_name (r.name sig.name)) (input_parameter_moved r sig j) ∙ known_name_moved sig.name (input_parameter sig j))
      ∙ cond_moved (moved_diag r) ((is_argument_of xs i a.location && is_argument_of xs j b.location) && breaks_apart types sig i j a.element b.element) _ [] refl refl

  module _ (f : Function) where
    moved_behind_moved : (g : ℕ) (i : Input) (argument : Element) (owner : Fact)
        → moved_behind types (r.function function) (moved_function r f) (r.place place) (r.function g) i (moved_element r argument) (moved_fact r owner)
        ≡ map (moved_diag r) (moved_behind types function f place g i argument owner)
    moved_behind_moved g i (element.At a) b =
        ap
        (λ (variable : Bool). cond (compared.eq b.location a && variable) (moved_argument (r.function function) (r.place place) (r.function g) i (moved_element r b.element)) [])
        (is_variable_place_moved r f types b.location)
        ∙ cond_moved (moved_diag r) (compared.eq b.location a && is_variable_place types f b.location) _ [] (moved_argument_moved g i b.element) refl
    moved_behind_moved g i _ b = refl

    moved_at_moved : (g : ℕ) (xs : List Argument) (a b : Fact) (i : Input)
        → moved_at types (r.function function) (moved_function r f) (r.place place) (r.function g) xs (moved_fact r a) (moved_fact r b) i
        ≡ map (moved_diag r) (moved_at types function f place g xs a b i)
    moved_at_moved g xs a b i = cond_moved (moved_diag r) (is_argument_of xs i a.location) _ [] (moved_behind_moved g i a.element b) refl

    pub broken_by_two_moved : (g : ℕ) (callee : Option Signature) (xs : List Argument) (a b : Fact)
        → broken_by_two types (r.function function) (moved_function r f) (r.place place) (r.function g) (option_map (moved_signature r) callee) xs (moved_fact r a) (moved_fact r b)
        ≡ map (moved_diag r) (broken_by_two types function f place g callee xs a b)
    broken_by_two_moved g None xs a b = refl
    broken_by_two_moved g (Some sig) xs a b =
        let wrong : Input → List Diag = moved_at types (r.function function) (moved_function r f) (r.place place) (r.function g) xs (moved_fact r a) (moved_fact r b) in
        let apart : Input → Input → List Diag = overlapping_at types (r.function function) (r.place place) (r.function g) (moved_signature r sig) xs (moved_fact r a) (moved_fact r b) in
        ap (λ (inputs : List Input). flat_map wrong inputs ++ of_pairs apart inputs) (inputs_of_signature_moved r sig types)
        ∙ append_moved (moved_diag r) _ _
        (flat_map_each (moved_diag r) wrong (moved_at types function f place g xs a b) (inputs_of_signature types sig) (moved_at_moved g xs a b))
        (of_pairs_each (moved_diag r) apart (overlapping_at types function place g sig xs a b) (inputs_of_signature types sig) (overlapping_at_moved g sig xs a b))

    pub argument_diags_of_two_moved : (these those : List Signature) (i : Step) → callee_of those (moved_step r i) ≡ option_map (moved_signature r) (callee_of these i) → (a b : Fact)
        → argument_diags_of_two those types (r.function function) (moved_function r f) (r.place place) (moved_step r i) (moved_fact r a) (moved_fact r b)
        ≡ map (moved_diag r) (argument_diags_of_two these types function f place i a b)
    argument_diags_of_two_moved these those (Call target g xs) called a b =
        ap
        (λ (callee : Option Signature).
        broken_by_two types (r.function function) (moved_function r f) (r.place place) (r.function g.0) callee xs (moved_fact r a) (moved_fact r b))
        called
        ∙ broken_by_two_moved g.0 (slice_get these g.0) xs a b
    argument_diags_of_two_moved these those _ called a b = refl
