-- What is wrong with the arguments of a call looks only at the types that its function and the called one name.
use Rattle.std.proofs.Common.{◌≡◌, ◌∙◌, ◌++◌, ◌&&◌, ap, ap₂, cond, map, option_map, refl, ℕ, Bool, List, [], Option, Some, None, slice_get}
use Rattle.std.proofs.lemmas.Option.{slice_get-map}
use Rattle.std.specs.List.{flat_map}
use Rattle.life_types.specs.Types.{Types}
use Rattle.life_types.specs.declared.place.Place.{Place}
use Rattle.life_types.specs.declared.ty.NameId.{NameId}
use Rattle.life_core.specs.Function.{Function}
use Rattle.life_core.specs.Operands.{Argument}
use Rattle.life_core.specs.Step.{Step, Call}
use Rattle.life_pset.specs.Elements.{Input}
use Rattle.life_pset.specs.contracts.element.AbsPlacePartialEq.TheImpl.{ghosts as compared}
use Rattle.life_pset.specs.declared.element.Element.{Element}
use Rattle.life_pset.specs.declared.element.Element.TheVariants as element
use Rattle.life_pset.specs.declared.element.Fact.{Fact}
use Rattle.life_contract.specs.Breaking.{Break, Dangles, NotAdmitted, breaks_at, of_pairs}
use Rattle.life_contract.specs.Inputs.{input_parameter, inputs_of_signature, parameter_number}
use Rattle.life_contract.specs.Signatures.{Signature}
use Rattle.life_contract.specs.declared.param.Param.{Param}
use Rattle.life_rules.specs.Arguing.{argument_diags, argument_diags_of_two, broken_at, broken_by, broken_by_two, known_name, moved_argument, moved_at, moved_behind, overlapping_at, told_break}
use Rattle.life_rules.specs.Callees.{callee_of}
use Rattle.life_rules.specs.Telling.{told_of}
use Rattle.life_rules.specs.declared.diag.Diag.{Diag}
use Rattle.life_rules.specs.declared.diag.DiagKind.TheVariants.{ArgOverlap}
use Rattle.life_rules.specs.declared.diag.Why.TheVariants as why
use Rattle.life_modular.specs.Renumbering.{Renumbering, renumbered_function, renumbered_input, renumbered_parameter, renumbered_signature}
use Rattle.life_modular.proofs.Renumbered.{is_argument_of_renumbered}
use Rattle.life_modular.specs.Vocabulary.{Vocabulary, CalleeNames, HaveAlike, HeadNames, Names}
use Rattle.life_modular.proofs.AlikeCalling.{callee_renumbered}
use Rattle.life_modular.proofs.AlikeInputs.{AreInputsNamed, breaks_apart_same, breaks_at_same, inputs_of_signature_named, inputs_of_signature_same}
use Rattle.life_modular.proofs.AlikeLists.{flat_map_mapped, flat_map_same, of_pairs_mapped}
use Rattle.life_modular.proofs.AlikeTypes.{IsNamed, is_variable_place_same}

module _ {v : Vocabulary} {new : Renumbering} {these those : Types} (alike : HaveAlike v new these those) (function : ℕ) (place : Place) where
  -- ---- one fact

  module _ (g : ℕ) (sig : Signature) (xs : List Argument) where
    told_break_renumbered : (i : Input) (b : Break) → told_break function place g (renumbered_input new i) b ≡ told_break function place g i b
    told_break_renumbered i NotAdmitted = refl
    told_break_renumbered i (Dangles c) = refl

    told_breaks_renumbered : (i : Input) (bs : List Break)
        → flat_map (told_break function place g (renumbered_input new i)) bs ≡ flat_map (told_break function place g i) bs
    told_breaks_renumbered i bs = flat_map_same (told_break function place g (renumbered_input new i)) (told_break function place g i) bs (λ b among. told_break_renumbered i b)

    known_name_renumbered : (other : NameId) (o : Option Param) → known_name other (option_map (renumbered_parameter new) o) ≡ known_name other o
    known_name_renumbered other None = refl
    known_name_renumbered other (Some p) = refl

    broken_at_same : (fact : Fact) (i : Input) → IsNamed v i.ty
        → broken_at those function place g (renumbered_signature new sig) xs fact (renumbered_input new i) ≡ broken_at these function place g sig xs fact i
    broken_at_same fact i named =
        ap₂ (λ (given : Bool) (wrong : List Diag). cond given wrong [])
        (is_argument_of_renumbered new xs i fact.location)
        (ap (flat_map (told_break function place g (renumbered_input new i))) (breaks_at_same alike sig i named fact.element)
        ∙ told_breaks_renumbered i (breaks_at these sig i fact.element))

    overlapping_at_same : (a b : Fact) (i j : Input) → IsNamed v i.ty → IsNamed v j.ty
        → overlapping_at those function place g (renumbered_signature new sig) xs a b (renumbered_input new i) (renumbered_input new j)
        ≡ overlapping_at these function place g sig xs a b i j
    overlapping_at_same a b i j one other =
        ap₂
        (λ (broken : Bool) (name : NameId). cond broken (told_of function place g ArgOverlap i.pointer (why.Overlap name)) [])
        (ap₂ (λ (given apart : Bool). given && apart)
        (ap₂ (λ (x y : Bool). x && y) (is_argument_of_renumbered new xs i a.location) (is_argument_of_renumbered new xs j b.location))
        (breaks_apart_same alike sig i j one other a.element b.element))
        (ap (known_name sig.name) (slice_get-map (renumbered_parameter new) sig.parameters (parameter_number j))
        ∙ known_name_renumbered sig.name (input_parameter sig j))

  pub broken_by_same : (g : ℕ) (callee : Option Signature) → CalleeNames v callee → (xs : List Argument) (fact : Fact)
      → broken_by those function place g (option_map (renumbered_signature new) callee) xs fact ≡ broken_by these function place g callee xs fact
  broken_by_same g None called xs fact = refl
  broken_by_same g (Some sig) called xs fact =
      let heads : HeadNames v sig = called sig refl in
      ap (flat_map (broken_at those function place g (renumbered_signature new sig) xs fact)) (inputs_of_signature_same alike heads)
      ∙ flat_map_mapped (renumbered_input new)
      (broken_at those function place g (renumbered_signature new sig) xs fact)
      (broken_at these function place g sig xs fact)
      (inputs_of_signature these sig)
      (λ i among. broken_at_same g sig xs fact i (inputs_of_signature_named alike heads i among))

  pub argument_diags_same : (sigs : List Signature) (i : Step) → CalleeNames v (callee_of sigs i) → (fact : Fact)
      → argument_diags (map (renumbered_signature new) sigs) those function place i fact ≡ argument_diags sigs these function place i fact
  argument_diags_same sigs (Call target g xs) called fact =
      ap (λ (callee : Option Signature). broken_by those function place g.0 callee xs fact) (callee_renumbered new sigs g.0)
      ∙ broken_by_same g.0 (slice_get sigs g.0) called xs fact
  argument_diags_same sigs _ called fact = refl

  -- ---- two facts

  module _ (f : Function) (names : Names v f) where
    moved_argument_renumbered : (g : ℕ) (i : Input) (e : Element)
        → moved_argument function place g (renumbered_input new i) e ≡ moved_argument function place g i e
    moved_argument_renumbered g i (element.Moved c) = refl
    moved_argument_renumbered g i _ = refl

    moved_behind_same : (g : ℕ) (i : Input) (argument : Element) (owner : Fact)
        → moved_behind those function (renumbered_function new f) place g (renumbered_input new i) argument owner
        ≡ moved_behind these function f place g i argument owner
    moved_behind_same g i (element.At a) b =
        ap₂ (λ (variable : Bool) (wrong : List Diag). cond (compared.eq b.location a && variable) wrong [])
        (is_variable_place_same alike names b.location)
        (moved_argument_renumbered g i b.element)
    moved_behind_same g i _ b = refl

    moved_at_same : (g : ℕ) (xs : List Argument) (a b : Fact) (i : Input)
        → moved_at those function (renumbered_function new f) place g xs a b (renumbered_input new i) ≡ moved_at these function f place g xs a b i
    moved_at_same g xs a b i =
        ap₂ (λ (given : Bool) (wrong : List Diag). cond given wrong []) (is_argument_of_renumbered new xs i a.location) (moved_behind_same g i a.element b)

    pub broken_by_two_same : (g : ℕ) (callee : Option Signature) → CalleeNames v callee → (xs : List Argument) (a b : Fact)
        → broken_by_two those function (renumbered_function new f) place g (option_map (renumbered_signature new) callee) xs a b
        ≡ broken_by_two these function f place g callee xs a b
    broken_by_two_same g None called xs a b = refl
    broken_by_two_same g (Some sig) called xs a b =
        let heads : HeadNames v sig = called sig refl in
        let named : AreInputsNamed v (inputs_of_signature these sig) = inputs_of_signature_named alike heads in
        let moved : Input → List Diag = moved_at those function (renumbered_function new f) place g xs a b in
        let apart : Input → Input → List Diag = overlapping_at those function place g (renumbered_signature new sig) xs a b in
        ap (λ (inputs : List Input). flat_map moved inputs ++ of_pairs apart inputs) (inputs_of_signature_same alike heads)
        ∙ ap₂ (λ (of_one of_two : List Diag). of_one ++ of_two)
        (flat_map_mapped (renumbered_input new) moved (moved_at these function f place g xs a b) (inputs_of_signature these sig) (λ i among. moved_at_same g xs a b i))
        (of_pairs_mapped (renumbered_input new) apart (overlapping_at these function place g sig xs a b) (inputs_of_signature these sig)
        (λ i j one other. overlapping_at_same g sig xs a b i j (named i one) (named j other)))

    pub argument_diags_of_two_same : (sigs : List Signature) (i : Step) → CalleeNames v (callee_of sigs i) → (a b : Fact)
        → argument_diags_of_two (map (renumbered_signature new) sigs) those function (renumbered_function new f) place i a b
        ≡ argument_diags_of_two sigs these function f place i a b
    argument_diags_of_two_same sigs (Call target g xs) called a b =
        ap (λ (callee : Option Signature). broken_by_two those function (renumbered_function new f) place g.0 callee xs a b) (callee_renumbered new sigs g.0)
        ∙ broken_by_two_same g.0 (slice_get sigs g.0) called xs a b
    argument_diags_of_two_same sigs _ called a b = refl
