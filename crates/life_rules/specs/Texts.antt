-- The texts of places, of elements, of causes and of reasons.
use Rattle.std.specs.Prelude.{ℕ, Bool, true, false, ◌&&◌, if◌then◌else◌, nat_eq, List, [], ◌∷◌, ◌++◌, Option, Some, None, codes, map, slice_get}
use Rattle.life_types.specs.Places.{position_text}
use Rattle.life_types.specs.Pointees.{ty_of}
use Rattle.life_types.specs.Types.{Types}
use Rattle.life_types.specs.declared.ty.NameId.{NameId}
use Rattle.life_types.specs.declared.ty.Ty.{Ty}
use Rattle.life_types.specs.declared.ty.Ty.TheVariants as ty
use Rattle.life_core.specs.Function.{Function, Program, member_name, member_names, name_bytes}
use Rattle.life_core.specs.declared.program.Local.{Local}
use Rattle.life_core.specs.declared.program.LocalKind.{LocalKind}
use Rattle.life_core.specs.declared.program.LocalKind.TheVariants as local_kind
use Rattle.life_core.specs.declared.program.Names.{Names}
use Rattle.life_pset.specs.Elements.{Input, local_inputs}
use Rattle.life_pset.specs.Places.{owned_step, path}
use Rattle.life_pset.specs.Shapes.{local_type, ty_if}
use Rattle.life_pset.specs.declared.element.AbsPlace.{AbsPlace}
use Rattle.life_pset.specs.declared.element.Cause.{Cause}
use Rattle.life_pset.specs.declared.element.CauseKind.{CauseKind}
use Rattle.life_pset.specs.declared.element.CauseKind.TheVariants.{Uninitialised, Ended, TemporaryEnded, Changed, OwnerChanged, Moved, Called}
use Rattle.life_pset.specs.declared.element.Element.{Element}
use Rattle.life_pset.specs.declared.element.Element.TheVariants as element
use Rattle.life_pset.specs.declared.element.Root.{Root}
use Rattle.life_pset.specs.declared.element.Root.TheVariants as root
use Rattle.life_contract.specs.Inputs.{parameter_in}
use Rattle.life_contract.specs.Positions.{pointed_type, step_type}
use Rattle.life_contract.specs.Signatures.{Signature, signatures_of}
use Rattle.life_contract.specs.declared.param.Param.{Param}
use Rattle.life_rules.specs.declared.diag.Why.{Why}
use Rattle.life_rules.specs.declared.diag.Why.TheVariants as why

-- ---- names

-- the texts of a program's names, and the names of each struct's members
pub record Spelling : Type 0 where
  pub texts : List (List ℕ)
  pub members : List (List NameId)

abbrev pub spelling_of : Names → Spelling
spelling_of names = record { texts = map name_bytes names.texts.items; members = map member_names names.members.items }

-- .. with the signatures of its functions
pub record Naming : Type 0 where
  pub spelling : Spelling
  pub sigs : List Signature

abbrev pub naming_of : Names → List Signature → Naming
naming_of names sigs = record { spelling = spelling_of names; sigs = sigs }

-- .. of a program
abbrev pub naming_in : Program → Naming
naming_in p = record { spelling = record { texts = p.names; members = p.members }; sigs = signatures_of p.functions }

abbrev pub or_nothing : Option (List ℕ) → List ℕ
or_nothing None = []
or_nothing (Some text) = text

abbrev pub name_text : Spelling → NameId → List ℕ
name_text names name = or_nothing (slice_get names.texts name.0)

abbrev pub name_if : Spelling → Option NameId → List ℕ
name_if names None = []
name_if names (Some name) = name_text names name

-- ---- locals

-- a function with a result has it behind its parameters
abbrev pub has_value : Option Ty → Bool
has_value None = false
has_value (Some ty.Void) = false
has_value (Some _) = true

abbrev pub is_result : Types → Function → ℕ → Bool
is_result types f x = nat_eq x f.parameters && has_value (slice_get types.types f.result.0)

-- a variable prints as its name, and what has none as a range, as the result or as a temporary
abbrev pub nameless : Bool → LocalKind → List ℕ
nameless result local_kind.Range = codes "range"
nameless true _ = codes "result"
nameless false _ = codes "temporary"

abbrev pub named : Spelling → Bool → LocalKind → Option NameId → List ℕ
named names result kind None = nameless result kind
named names result kind (Some name) = name_text names name

abbrev pub named_local : Spelling → Bool → Option Local → List ℕ
named_local names result None = []
named_local names result (Some l) = named names result l.kind l.name

abbrev pub local_text : Spelling → Types → Function → ℕ → List ℕ
local_text names types f x = named_local names (is_result types f x) (slice_get f.locals x)

-- ---- the steps of a place

-- a member prints as a dot and its name, an owned step as a mark
abbrev pub member_text : Spelling → Ty → ℕ → List ℕ
member_text names (ty.Struct number) m = codes "." ++ name_if names (member_name names.members number m)
member_text names _ m = []

abbrev pub step_text : Spelling → Ty → ℕ → List ℕ
step_text names t step = if nat_eq step owned_step then codes "'" else member_text names t step

abbrev pub steps_text : Spelling → Types → Ty → List ℕ → List ℕ
steps_text names types t [] = []
steps_text names types t (s ∷ ss) = step_text names t s ++ steps_text names types (step_type types t s) ss

-- ---- places

-- a part of a local
abbrev pub part_text : Spelling → Types → Function → ℕ → List ℕ → List ℕ
part_text names types f x steps = local_text names types f x ++ steps_text names types (ty_if types (local_type types f x)) steps

-- the pointer with this number among those of a parameter
abbrev pub inputs_at : Types → (parameters x : ℕ) → Option Local → List Input
inputs_at types n x None = []
inputs_at types n x (Some l) = local_inputs types n x l

abbrev pub input_number : Option ℕ → ℕ
input_number None = 0
input_number (Some k) = k

abbrev pub input_of : Types → Function → ℕ → Option ℕ → Option Input
input_of types f q member = slice_get (inputs_at types f.parameters q (slice_get f.locals q)) (input_number member)

-- what the caller passed for a pointer prints by the pointer's text
abbrev pub input_text : Spelling → Types → Function → ℕ → Option Input → List ℕ
input_text names types f q None = codes "in(" ++ local_text names types f q ++ codes ")"
input_text names types f q (Some i) = codes "in(" ++ part_text names types f q (path i.pointer) ++ codes ")"

abbrev pub behind_type : Types → Option Input → Ty
behind_type types None = ty.Void
behind_type types (Some i) = pointed_type types (ty_if types i.ty)

abbrev pub rooted_text : Spelling → Types → Function → Root → List ℕ → List ℕ
rooted_text names types f (root.Local x) steps = part_text names types f x steps
rooted_text names types f (root.Input q member) steps =
    let input = input_of types f q member in
    input_text names types f q input ++ steps_text names types (behind_type types input) steps

abbrev pub place_text : Spelling → Types → Function → AbsPlace → List ℕ
place_text names types f place = rooted_text names types f place.root (path place)

-- ---- called functions

abbrev pub called_text : Spelling → Option Signature → List ℕ
called_text names None = []
called_text names (Some sig) = name_text names sig.name

abbrev pub function_text : Naming → ℕ → List ℕ
function_text names g = called_text names.spelling (slice_get names.sigs g)

-- a location of a parameter
abbrev pub parameter_text : Spelling → Types → Option Param → List ℕ → List ℕ
parameter_text names types None steps = []
parameter_text names types (Some p) steps = name_if names p.name ++ steps_text names types (ty_of types p.ty) steps

abbrev pub parameter_at : Option Signature → Root → Option Param
parameter_at None r = None
parameter_at (Some sig) r = slice_get sig.parameters (parameter_in r)

-- what a diagnostic names: a location of the function, or of a parameter of the called one
abbrev pub diag_name : Naming → Types → Function → Option ℕ → AbsPlace → List ℕ
diag_name names types f None l = place_text names.spelling types f l
diag_name names types f (Some g) l = parameter_text names.spelling types (parameter_at (slice_get names.sigs g) l.root) (path l)

-- ---- causes, elements and reasons

-- what became of the variable, or what was done
abbrev pub cause_subject : Naming → Types → Function → ℕ → CauseKind → List ℕ
cause_subject names types f x Uninitialised = local_text names.spelling types f x ++ codes " uninitialised at "
cause_subject names types f x Ended = local_text names.spelling types f x ++ codes " ended at "
cause_subject names types f x TemporaryEnded = codes "temporary ended at "
cause_subject names types f x Changed = local_text names.spelling types f x ++ codes " changed at "
cause_subject names types f x OwnerChanged = codes "owner changed at "
cause_subject names types f x Moved = local_text names.spelling types f x ++ codes " moved at "
cause_subject names types f g Called = codes "call of " ++ function_text names g ++ codes " at "

abbrev pub cause_text : Naming → Types → Function → Cause → List ℕ
cause_text names types f c = cause_subject names types f c.root c.kind ++ position_text c.place

abbrev pub element_text : Naming → Types → Function → Element → List ℕ
element_text names types f element.Null = codes "null"
element_text names types f (element.Invalid c) = codes "invalid(" ++ cause_text names types f c ++ codes ")"
element_text names types f (element.Moved c) = codes "moved(" ++ cause_text names types f c ++ codes ")"
element_text names types f element.Own = codes "own"
element_text names types f element.Static = codes "static"
element_text names types f (element.At a) = place_text names.spelling types f a

-- what a result may be that it shouldn't
abbrev pub points_text : Naming → Types → Function → Element → List ℕ
points_text names types f element.Null = codes "may be null"
points_text names types f e = codes "may point to " ++ element_text names types f e

abbrev pub why_text : Naming → Types → Function → Why → List ℕ
why_text names types f why.Null = codes "may be null"
why_text names types f (why.Cause c) = cause_text names types f c
why_text names types f (why.Overlap name) = codes "overlaps " ++ name_text names.spelling name
why_text names types f (why.Points e) = points_text names types f e
