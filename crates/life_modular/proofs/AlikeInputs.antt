-- The locations, elements and inputs of a function, the inputs of a signature and what they admit, are the same by two tables that have
-- the types alike that it names, under new numbers.
use Rattle.std.proofs.Common.{◌≡◌, ◌∙◌, ◌++◌, ◌+◌, ◌&&◌, ◌||◌, ℕ, Bool, true, false, not, if◌then◌else◌, nat_lt, List, [], ◌∷◌, Option, Some, Contains, cond, length, map, option_map, refl, sym, ap, ap₂}
use Rattle.std.proofs.lemmas.List.{length-map, map-append}
use Rattle.std.specs.List.{flat_map, list_any}
use Rattle.life_types.specs.Pointees.{ty_of}
use Rattle.life_types.specs.Trees.{TypeTree, holds_owner, tree_at}
use Rattle.life_types.specs.TypeTests.{is_constant, is_pointer, is_raw}
use Rattle.life_types.specs.Types.{Types}
use Rattle.life_types.specs.declared.ty.TyId.{TyId}
use Rattle.life_core.specs.Function.{Function}
use Rattle.life_core.specs.Operands.{Argument}
use Rattle.life_core.specs.declared.program.Local.{Local}
use Rattle.life_core.specs.declared.program.LocalKind.{LocalKind}
use Rattle.life_pset.specs.Elements.{Input, caused_elements, elements_of, input_at, input_if, input_places, inputs_among, inputs_from, inputs_of, local_inputs, local_locations, local_place, locations_from, locations_in, locations_of, number_after, object_places, objects_from, places_in, pointers_in}
use Rattle.life_pset.specs.Places.{path, root_place}
use Rattle.life_pset.specs.Shapes.{is_variable, members_type, shape, target_type, tree_if, ty_if}
use Rattle.life_pset.specs.Table.{table_of}
use Rattle.life_pset.specs.declared.element.AbsPlace.{AbsPlace}
use Rattle.life_pset.specs.declared.element.Element.{Element}
use Rattle.life_pset.specs.declared.element.Element.TheVariants as element
use Rattle.life_contract.specs.Arguments.{is_argument_of, is_mutating_argument}
use Rattle.life_contract.specs.Breaking.{NotAdmitted, breaks_apart, breaks_at, overlapping}
use Rattle.life_contract.specs.Inputs.{admits_null, bears_keeps, bears_nonnull, input_parameter, inputs_of_signature, is_mutating, may_be_null, parameter_local}
use Rattle.life_contract.specs.Signatures.{Signature}
use Rattle.life_rules.proofs.Giving.{at_head, in_tail, none_in_empty}
use Rattle.life_modular.proofs.AlikeLists.{any_mapped, each_append, each_map, each_one, flat_map_mapped}
use Rattle.life_modular.proofs.AlikeTypes.{AreLocalsNamed, IsNamed, members_type_named, members_type_same, shape_named, shape_same, target_type_named, target_type_same, tree_at_same, tree_if_same, ty_if_same, ty_of_same}
use Rattle.life_modular.proofs.Renumbered.{bears_keeps_renumbered, bears_nonnull_renumbered, caused_elements_renumbered, input_parameter_renumbered, is_argument_of_renumbered, is_constant_renumbered, is_pointer_renumbered, is_raw_renumbered, is_variable_renumbered, parameter_locals_renumbered}
use Rattle.life_modular.specs.Renumbering.{Renumbering, renumbered_function, renumbered_input, renumbered_local, renumbered_parameter, renumbered_signature}
use Rattle.life_modular.specs.Vocabulary.{Vocabulary, HaveAlike, HeadNames, Names}

-- each input has a type of the vocabulary, if it has one
abbrev pub AreInputsNamed : Vocabulary → List Input → Type 0
AreInputsNamed v is = (i : Input) → Contains is i → IsNamed v i.ty

-- an input that is one keeps its place in front of the others
input_if_renumbered : (new : Renumbering) (is : Bool) (i : Input) (more : List Input)
    → input_if is (renumbered_input new i) ++ map (renumbered_input new) more ≡ map (renumbered_input new) (input_if is i ++ more)
input_if_renumbered new true i more = refl
input_if_renumbered new false i more = refl

inputs_if_renumbered : (new : Renumbering) (b : Bool) (is : List Input) → (if b then map (renumbered_input new) is else []) ≡ map (renumbered_input new) (if b then is else [])
inputs_if_renumbered new true is = refl
inputs_if_renumbered new false is = refl

module _ {v : Vocabulary} {new : Renumbering} {these those : Types} (alike : HaveAlike v new these those) where
  -- ---- locations

  pub locations_in_same : (kind : LocalKind) (id : TyId) → Contains v.types id → (at : AbsPlace) → locations_in those kind (new.type id) at ≡ locations_in these kind id at
  locations_in_same kind id named at =
      ap₂ (λ (variable : Bool) (parts : TypeTree). if variable then at ∷ [] else pointers_in at parts)
      (ap (is_variable kind) (ty_of_same alike id named) ∙ is_variable_renumbered new kind (ty_of these id))
      (tree_at_same alike id named)

  pub local_locations_same : (n x : ℕ) (l : Local) → Contains v.types l.ty → local_locations those n x (renumbered_local new l) ≡ local_locations these n x l
  local_locations_same n x l named =
      ap (λ (id : TyId). locations_in those l.kind id (local_place x)) (shape_same alike n x l named)
      ∙ locations_in_same l.kind (shape these n x l) (shape_named alike n x l named) (local_place x)

  pub locations_from_same : (n x : ℕ) (ls : List Local) → AreLocalsNamed v ls → locations_from those n x (map (renumbered_local new) ls) ≡ locations_from these n x ls
  locations_from_same n x [] named = refl
  locations_from_same n x (l ∷ ls) named =
      ap₂ (λ (one more : List AbsPlace). one ++ more)
      (local_locations_same n x l (named l (at_head l ls)))
      (locations_from_same n (x + 1) ls (λ other among. named other (in_tail l ls other among)))

  -- ---- objects

  shape_tree_same : (n x : ℕ) (l : Local) → Contains v.types l.ty → tree_at those (shape those n x (renumbered_local new l)) ≡ tree_at these (shape these n x l)
  shape_tree_same n x l named = ap (tree_at those) (shape_same alike n x l named) ∙ tree_at_same alike (shape these n x l) (shape_named alike n x l named)

  pub objects_from_same : (n x : ℕ) (ls : List Local) → AreLocalsNamed v ls → objects_from those n x (map (renumbered_local new) ls) ≡ objects_from these n x ls
  objects_from_same n x [] named = refl
  objects_from_same n x (l ∷ ls) named =
      ap₂ (λ (one more : List AbsPlace). one ++ more)
      (ap (λ (t : TypeTree). object_places l.kind t x) (shape_tree_same n x l (named l (at_head l ls))))
      (objects_from_same n (x + 1) ls (λ other among. named other (in_tail l ls other among)))

  -- ---- inputs

  pub inputs_among_same : (q : ℕ) (id : TyId) → Contains v.types id → (k : ℕ) (ls : List AbsPlace)
      → inputs_among those q (new.type id) k ls ≡ map (renumbered_input new) (inputs_among these q id k ls)
  inputs_among_same q id named k [] = refl
  inputs_among_same q id named k (l ∷ ls) =
      let here : Option TyId = members_type these (Some id) (path l) in
      let is : Bool = is_pointer (ty_if these here) in
      let place : members_type those (Some (new.type id)) (path l) ≡ option_map new.type here = members_type_same alike (Some id) named (path l) in
      let kind : is_pointer (ty_if those (members_type those (Some (new.type id)) (path l))) ≡ is =
      ap (λ (o : Option TyId). is_pointer (ty_if those o)) place
      ∙ ap is_pointer (ty_if_same alike here (members_type_named alike (Some id) named (path l)))
      ∙ is_pointer_renumbered new (ty_if these here) in
      ap₂ (λ (o : Option TyId) (pointer : Bool). input_if pointer (input_at q k l o) ++ inputs_among those q (new.type id) (number_after pointer k) ls) place kind
      ∙ ap (λ (more : List Input). input_if is (renumbered_input new (input_at q k l here)) ++ more) (inputs_among_same q id named (number_after is k) ls)
      ∙ input_if_renumbered new is (input_at q k l here) (inputs_among these q id (number_after is k) ls)

  none_named : AreInputsNamed v []
  none_named i among = absurd (none_in_empty i among)

  input_named : (is : Bool) (i : Input) → IsNamed v i.ty → AreInputsNamed v (input_if is i)
  input_named true i named = each_one (λ (j : Input). IsNamed v j.ty) i named
  input_named false i named = none_named

  pub inputs_among_named : (q : ℕ) (id : TyId) → Contains v.types id → (k : ℕ) (ls : List AbsPlace) → AreInputsNamed v (inputs_among these q id k ls)
  inputs_among_named q id named k [] = none_named
  inputs_among_named q id named k (l ∷ ls) =
      let here : Option TyId = members_type these (Some id) (path l) in
      let is : Bool = is_pointer (ty_if these here) in
      each_append (λ (i : Input). IsNamed v i.ty) (input_if is (input_at q k l here)) (inputs_among these q id (number_after is k) ls)
      (input_named is (input_at q k l here) (members_type_named alike (Some id) named (path l)))
      (inputs_among_named q id named (number_after is k) ls)

  pub local_inputs_same : (n x : ℕ) (l : Local) → Contains v.types l.ty → local_inputs those n x (renumbered_local new l) ≡ map (renumbered_input new) (local_inputs these n x l)
  local_inputs_same n x l named =
      ap (λ (is : List Input). if nat_lt x n then is else [])
      (ap₂ (λ (id : TyId) (ls : List AbsPlace). inputs_among those x id 0 ls) (shape_same alike n x l named) (local_locations_same n x l named)
      ∙ inputs_among_same x (shape these n x l) (shape_named alike n x l named) 0 (local_locations these n x l))
      ∙ inputs_if_renumbered new (nat_lt x n) (inputs_among these x (shape these n x l) 0 (local_locations these n x l))

  inputs_if_named : (b : Bool) (is : List Input) → AreInputsNamed v is → AreInputsNamed v (if b then is else [])
  inputs_if_named true is named = named
  inputs_if_named false is named = none_named

  pub local_inputs_named : (n x : ℕ) (l : Local) → Contains v.types l.ty → AreInputsNamed v (local_inputs these n x l)
  local_inputs_named n x l named =
      inputs_if_named (nat_lt x n) (inputs_among these x (shape these n x l) 0 (local_locations these n x l))
      (inputs_among_named x (shape these n x l) (shape_named alike n x l named) 0 (local_locations these n x l))

  pub inputs_from_same : (n x : ℕ) (ls : List Local) → AreLocalsNamed v ls
      → inputs_from those n x (map (renumbered_local new) ls) ≡ map (renumbered_input new) (inputs_from these n x ls)
  inputs_from_same n x [] named = refl
  inputs_from_same n x (l ∷ ls) named =
      ap₂ (λ (one more : List Input). one ++ more)
      (local_inputs_same n x l (named l (at_head l ls)))
      (inputs_from_same n (x + 1) ls (λ other among. named other (in_tail l ls other among)))
      ∙ sym (map-append (renumbered_input new) (local_inputs these n x l) (inputs_from these n (x + 1) ls))

  pub inputs_from_named : (n x : ℕ) (ls : List Local) → AreLocalsNamed v ls → AreInputsNamed v (inputs_from these n x ls)
  inputs_from_named n x [] named = none_named
  inputs_from_named n x (l ∷ ls) named =
      each_append (λ (i : Input). IsNamed v i.ty) (local_inputs these n x l) (inputs_from these n (x + 1) ls)
      (local_inputs_named n x l (named l (at_head l ls)))
      (inputs_from_named n (x + 1) ls (λ other among. named other (in_tail l ls other among)))

  -- what the pointer points to is made of the same
  pub target_tree_same : (i : Input) → IsNamed v i.ty → tree_if those (target_type those (option_map new.type i.ty)) ≡ tree_if these (target_type these i.ty)
  target_tree_same i named =
      ap (tree_if those) (target_type_same alike i.ty named) ∙ tree_if_same alike (target_type these i.ty) (target_type_named alike i.ty named)

  pub input_places_same : (i : Input) → IsNamed v i.ty → input_places those (renumbered_input new i) ≡ input_places these i
  input_places_same i named = ap (places_in (root_place i.root)) (target_tree_same i named)

  -- ---- of a function that names these types

  module _ {f : Function} (names : Names v f) where
    pub locations_of_same : locations_of those (renumbered_function new f) ≡ locations_of these f
    locations_of_same = locations_from_same f.parameters 0 f.locals names.locals

    pub inputs_of_same : inputs_of those (renumbered_function new f) ≡ map (renumbered_input new) (inputs_of these f)
    inputs_of_same = inputs_from_same f.parameters 0 f.locals names.locals

    pub inputs_of_named : AreInputsNamed v (inputs_of these f)
    inputs_of_named = inputs_from_named f.parameters 0 f.locals names.locals

    places_behind_same : flat_map (input_places those) (inputs_of those (renumbered_function new f)) ≡ flat_map (input_places these) (inputs_of these f)
    places_behind_same =
        ap (flat_map (input_places those)) inputs_of_same
        ∙ flat_map_mapped (renumbered_input new) (input_places those) (input_places these) (inputs_of these f) (λ i among. input_places_same i (inputs_of_named i among))

    pub elements_of_same : elements_of those (renumbered_function new f) ≡ elements_of these f
    elements_of_same =
        ap₂ (λ (objects behind : List AbsPlace). element.Null ∷ element.Own ∷ element.Static ∷ (map element.At objects ++ (map element.At behind ++ caused_elements (renumbered_function new f))))
        (objects_from_same f.parameters 0 f.locals names.locals)
        places_behind_same
        ∙ ap (λ (caused : List Element). element.Null ∷ element.Own ∷ element.Static
        ∷ (map element.At (objects_from these f.parameters 0 f.locals) ++ (map element.At (flat_map (input_places these) (inputs_of these f)) ++ caused)))
        (caused_elements_renumbered new f)

    pub table_of_same : table_of those (renumbered_function new f) ≡ table_of these f
    table_of_same = rw (locations_of_same, elements_of_same) refl

  -- ---- what an input admits

  pub may_be_null_same : (nonnull : Bool) (i : Input) → IsNamed v i.ty → may_be_null those nonnull (renumbered_input new i) ≡ may_be_null these nonnull i
  may_be_null_same nonnull i named =
      ap (λ (raw : Bool). raw && not nonnull) (ap is_raw (ty_if_same alike i.ty named) ∙ is_raw_renumbered new (ty_if these i.ty))

  pub admits_null_same : (sig : Signature) (i : Input) → IsNamed v i.ty → admits_null those (renumbered_signature new sig) (renumbered_input new i) ≡ admits_null these sig i
  admits_null_same sig i named =
      ap (λ (nonnull : Bool). may_be_null those nonnull (renumbered_input new i))
      (ap bears_nonnull (input_parameter_renumbered new sig i) ∙ bears_nonnull_renumbered new (input_parameter sig i))
      ∙ may_be_null_same (bears_nonnull (input_parameter sig i)) i named

  pub is_mutating_same : (sig : Signature) (i : Input) → IsNamed v i.ty → is_mutating those (renumbered_signature new sig) (renumbered_input new i) ≡ is_mutating these sig i
  is_mutating_same sig i named =
      ap₂ (λ (constant : Bool) (parts : TypeTree). not constant && (holds_owner parts && not (bears_keeps (input_parameter (renumbered_signature new sig) (renumbered_input new i)))))
      (ap is_constant (ty_if_same alike i.ty named) ∙ is_constant_renumbered new (ty_if these i.ty))
      (target_tree_same i named)
      ∙ ap (λ (keeps : Bool). not (is_constant (ty_if these i.ty)) && (holds_owner (tree_if these (target_type these i.ty)) && not keeps))
      (ap bears_keeps (input_parameter_renumbered new sig i) ∙ bears_keeps_renumbered new (input_parameter sig i))

  pub breaks_at_same : (sig : Signature) (i : Input) → IsNamed v i.ty → (e : Element)
      → breaks_at those (renumbered_signature new sig) (renumbered_input new i) e ≡ breaks_at these sig i e
  breaks_at_same sig i named element.Null = ap (λ (b : Bool). cond b [] (NotAdmitted ∷ [])) (admits_null_same sig i named)
  breaks_at_same sig i named _ = refl

  pub breaks_apart_same : (sig : Signature) (i j : Input) → IsNamed v i.ty → IsNamed v j.ty → (a b : Element)
      → breaks_apart those (renumbered_signature new sig) (renumbered_input new i) (renumbered_input new j) a b ≡ breaks_apart these sig i j a b
  breaks_apart_same sig i j one other a b =
      ap₂ (λ (p q : Bool). (p || q) && overlapping a b) (is_mutating_same sig i one) (is_mutating_same sig j other)

  -- ---- of a signature that names these types

  module _ {sig : Signature} (names : HeadNames v sig) where
    parameters_named : AreLocalsNamed v (map (parameter_local sig.place) sig.parameters)
    parameters_named = each_map (λ (l : Local). Contains v.types l.ty) (parameter_local sig.place) sig.parameters names.parameters

    pub inputs_of_signature_same : inputs_of_signature those (renumbered_signature new sig) ≡ map (renumbered_input new) (inputs_of_signature these sig)
    inputs_of_signature_same =
        ap₂ (λ (n : ℕ) (ls : List Local). inputs_from those n 0 ls)
        (length-map sig.parameters (renumbered_parameter new))
        (parameter_locals_renumbered new sig.place sig.parameters)
        ∙ inputs_from_same (length sig.parameters) 0 (map (parameter_local sig.place) sig.parameters) parameters_named

    pub inputs_of_signature_named : AreInputsNamed v (inputs_of_signature these sig)
    inputs_of_signature_named =
        inputs_from_named (length sig.parameters) 0 (map (parameter_local sig.place) sig.parameters) parameters_named

    pub is_mutating_argument_same : (xs : List Argument) (location : AbsPlace)
        → is_mutating_argument those (renumbered_signature new sig) xs location ≡ is_mutating_argument these sig xs location
    is_mutating_argument_same xs location =
        ap (list_any (λ i. is_mutating those (renumbered_signature new sig) i && is_argument_of xs i location)) inputs_of_signature_same
        ∙ any_mapped (renumbered_input new)
        (λ i. is_mutating those (renumbered_signature new sig) i && is_argument_of xs i location)
        (λ i. is_mutating these sig i && is_argument_of xs i location)
        (inputs_of_signature these sig)
        (λ i among. ap₂ (λ (mutating given : Bool). mutating && given) (is_mutating_same sig i (inputs_of_signature_named i among)) (is_argument_of_renumbered new xs i location))
