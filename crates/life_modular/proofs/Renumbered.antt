-- What doesn't look at numbers of types is the same under new numbers.
use Rattle.std.proofs.Common.{◌≡◌, ◌∙◌, ◌||◌, ℕ, Bool, not, List, [], ◌∷◌, Option, Some, None, map, option_map, slice_get, take, refl, ap, ap₂}
use Rattle.std.proofs.lemmas.List.{take-map}
use Rattle.std.proofs.lemmas.Option.{slice_get-map}
use Rattle.life_types.specs.TypeTests.{is_constant, is_pointer, is_raw}
use Rattle.life_types.specs.declared.place.Place.{Place}
use Rattle.life_types.specs.declared.ty.Ty.{Ty}
use Rattle.life_types.specs.declared.ty.Ty.TheVariants as ty
use Rattle.life_core.specs.Function.{Function}
use Rattle.life_core.specs.Linked.{code_of}
use Rattle.life_core.specs.Operands.{Argument, GivenOver}
use Rattle.life_core.specs.Step.{Step, End}
use Rattle.life_core.specs.Tree.{Node, Action}
use Rattle.life_core.specs.declared.program.Local.{Local}
use Rattle.life_core.specs.declared.program.LocalKind.{LocalKind}
use Rattle.life_core.specs.declared.program.LocalKind.TheVariants.{Object}
use Rattle.life_pset.specs.Elements.{Input, caused_at, caused_elements, causes_of_end, end_causes, end_elements, node_elements, step_elements}
use Rattle.life_pset.specs.Shapes.{has_buffer, is_variable, target_of}
use Rattle.life_pset.specs.declared.element.AbsPlace.{AbsPlace}
use Rattle.life_pset.specs.declared.element.Cause.{Cause}
use Rattle.life_pset.specs.declared.element.Element.TheVariants as element
use Rattle.life_contract.specs.Arguments.{is_argument_of, is_given}
use Rattle.life_contract.specs.Inputs.{bears_keeps, bears_nonnull, input_parameter, parameter_local, parameter_number}
use Rattle.life_contract.specs.Promises.{agrees, owner_elements}
use Rattle.life_contract.specs.Signatures.{Signature, parameter_of, signature_of}
use Rattle.life_contract.specs.declared.param.Param.{Param}
use Rattle.life_modular.proofs.AlikeLists.{flat_map_same}
use Rattle.life_modular.specs.Renumbering.{Renumbering, renumbered_function, renumbered_input, renumbered_local, renumbered_parameter, renumbered_signature, renumbered_type}

module _ (new : Renumbering) where
  -- ---- types

  pub is_pointer_renumbered : (t : Ty) → is_pointer (renumbered_type new t) ≡ is_pointer t
  is_pointer_renumbered ty.View = refl
  is_pointer_renumbered _ = refl

  pub is_raw_renumbered : (t : Ty) → is_raw (renumbered_type new t) ≡ is_raw t
  is_raw_renumbered ty.View = refl
  is_raw_renumbered _ = refl

  pub is_constant_renumbered : (t : Ty) → is_constant (renumbered_type new t) ≡ is_constant t
  is_constant_renumbered ty.View = refl
  is_constant_renumbered _ = refl

  pub has_buffer_renumbered : (t : Ty) → has_buffer (renumbered_type new t) ≡ has_buffer t
  has_buffer_renumbered ty.Text = refl
  has_buffer_renumbered _ = refl

  pub is_variable_renumbered : (kind : LocalKind) (t : Ty) → is_variable kind (renumbered_type new t) ≡ is_variable kind t
  is_variable_renumbered Object t = has_buffer_renumbered t
  is_variable_renumbered _ t = refl

  pub agrees_renumbered : (t u : Ty) → agrees (renumbered_type new t) (renumbered_type new u) ≡ agrees t u
  agrees_renumbered t u = ap₂ (λ (a b : Bool). a || not b) (is_constant_renumbered t) (is_constant_renumbered u)

  pub owner_elements_renumbered : (t : Ty) → owner_elements (renumbered_type new t) ≡ owner_elements t
  owner_elements_renumbered ty.Text = refl
  owner_elements_renumbered _ = refl

  pub target_of_renumbered : (t : Ty) → target_of (renumbered_type new t) ≡ option_map new.type (target_of t)
  target_of_renumbered ty.View = refl
  target_of_renumbered _ = refl

  -- ---- parameters

  pub bears_nonnull_renumbered : (o : Option Param) → bears_nonnull (option_map (renumbered_parameter new) o) ≡ bears_nonnull o
  bears_nonnull_renumbered None = refl
  bears_nonnull_renumbered (Some p) = refl

  pub bears_keeps_renumbered : (o : Option Param) → bears_keeps (option_map (renumbered_parameter new) o) ≡ bears_keeps o
  bears_keeps_renumbered None = refl
  bears_keeps_renumbered (Some p) = refl

  pub input_parameter_renumbered : (sig : Signature) (i : Input) → input_parameter (renumbered_signature new sig) i ≡ option_map (renumbered_parameter new) (input_parameter sig i)
  input_parameter_renumbered sig i = slice_get-map (renumbered_parameter new) sig.parameters (parameter_number i)

  -- they are the same as locals
  pub parameter_locals_renumbered : (place : Place) (ps : List Param)
      → map (parameter_local place) (map (renumbered_parameter new) ps) ≡ map (renumbered_local new) (map (parameter_local place) ps)
  parameter_locals_renumbered place [] = refl
  parameter_locals_renumbered place (p ∷ ps) = ap (λ (more : List Local). renumbered_local new (parameter_local place p) ∷ more) (parameter_locals_renumbered place ps)

  parameters_renumbered : (ls : List Local) → map parameter_of (map (renumbered_local new) ls) ≡ map (renumbered_parameter new) (map parameter_of ls)
  parameters_renumbered [] = refl
  parameters_renumbered (l ∷ ls) = ap (λ (more : List Param). renumbered_parameter new (parameter_of l) ∷ more) (parameters_renumbered ls)

  -- ---- arguments

  is_given_renumbered : (o : Option Argument) (i : Input) (location : AbsPlace) → is_given o (renumbered_input new i) location ≡ is_given o i location
  is_given_renumbered None i location = refl
  is_given_renumbered (Some (GivenOver x)) i location = refl
  is_given_renumbered (Some _) i location = refl

  pub is_argument_of_renumbered : (xs : List Argument) (i : Input) (location : AbsPlace) → is_argument_of xs (renumbered_input new i) location ≡ is_argument_of xs i location
  is_argument_of_renumbered xs i location = is_given_renumbered (slice_get xs (parameter_number i)) i location

  -- ---- functions

  -- a function's head has the new numbers
  pub signature_of_renumbered : (f : Function) → signature_of (renumbered_function new f) ≡ renumbered_signature new (signature_of f)
  signature_of_renumbered f =
      ap (λ (ps : List Param). record { name = f.name; place = f.place; parameters = ps; result = new.type f.result; promise = f.promise })
      (ap (map parameter_of) (take-map (renumbered_local new) f.parameters f.locals) ∙ parameters_renumbered (take f.parameters f.locals))

  pub local_renumbered : (f : Function) (x : ℕ) → slice_get (renumbered_function new f).locals x ≡ option_map (renumbered_local new) (slice_get f.locals x)
  local_renumbered f x = slice_get-map (renumbered_local new) f.locals x

  -- ---- causes

  end_causes_renumbered : (place : Place) (x : ℕ) (o : Option Local) → end_causes place x (option_map (renumbered_local new) o) ≡ end_causes place x o
  end_causes_renumbered place x None = refl
  end_causes_renumbered place x (Some l) = refl

  -- the end of a local gives what it gave
  pub causes_of_end_renumbered : (f : Function) (place : Place) (x : ℕ) → causes_of_end (renumbered_function new f) place x ≡ causes_of_end f place x
  causes_of_end_renumbered f place x = ap (end_causes place x) (local_renumbered f x) ∙ end_causes_renumbered place x (slice_get f.locals x)

  pub step_elements_renumbered : (f : Function) (place : Place) (i : Step) → step_elements (renumbered_function new f) place i ≡ step_elements f place i
  step_elements_renumbered f place (End xs) =
      flat_map_same (end_elements (renumbered_function new f) place) (end_elements f place) xs
      (λ x among. ap (λ (causes : List Cause). map element.Invalid causes) (causes_of_end_renumbered f place x))
  step_elements_renumbered f place _ = refl

  node_elements_renumbered : (f : Function) (place : Place) (n : Node) → node_elements (renumbered_function new f) place n ≡ node_elements f place n
  node_elements_renumbered f place (Action i) = step_elements_renumbered f place i
  node_elements_renumbered f place _ = refl

  pub caused_elements_renumbered : (f : Function) → caused_elements (renumbered_function new f) ≡ caused_elements f
  caused_elements_renumbered f =
      flat_map_same (caused_at (renumbered_function new f)) (caused_at f) (code_of f) (λ l among. node_elements_renumbered f l.spot.place l.spot.node)
