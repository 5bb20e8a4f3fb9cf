-- What is visible where a construct stands.
use Rattle.std.specs.Prelude.{◌≡◌, ℕ, ◌-◌, ◌^◌, List, [], ◌∷◌, ◌++◌, Option, Result, Ok, Err, length, nat_lt, slice_get, slice_set, unwrap_or, if◌then◌else◌}
use Rattle.std.specs.declared.alloc.Global.{Global}
use Rattle.std.specs.declared.vec.Vec.{Vec}
use Rattle.life_types.specs.declared.place.Place.{Place}
use Rattle.life_types.specs.declared.ty.NameId.{NameId}
use Rattle.life_types.specs.declared.ty.TyId.{TyId}
use Rattle.life_typed.specs.declared.typed_program.TypedLocal.{TypedLocal}
use Rattle.life_names.specs.Checked.{Ill}
use Rattle.life_names.specs.declared.environment.Entity.{Entity}
use Rattle.life_names.specs.declared.environment.Entity.TheVariants as entity
use Rattle.life_names.specs.declared.environment.MemberType.{MemberType}
use Rattle.life_names.specs.declared.environment.Signature.{Signature}
use Rattle.life_names.specs.declared.environment.Structure.{Structure}
use Rattle.life_names.specs.declared.fault.IllFault.{IllFault}
use Rattle.life_names.specs.declared.fault.IllFault.TheVariants as faults
use Rattle.life_names.specs.declared.fault.IllKind.TheVariants as kinds

-- what a call of a function needs to know
pub record SignatureView : Type 0 where
  pub result : TyId
  pub parameters : List TyId

-- a struct: its type, and its members with their types
pub record StructureView : Type 0 where
  pub ty : TyId
  pub members : List MemberType

-- the texts of the names, what each means, the structs, the functions, and the variables and parameters
-- of the function at hand
pub record Scope : Type 0 where
  pub names : List (List ℕ)
  pub visible : List Entity
  pub structs : List StructureView
  pub functions : List SignatureView
  pub locals : List TypedLocal

-- ---- of values of the program

abbrev pub text_items : Vec ℕ Global → List ℕ
text_items text = text.items

abbrev pub signature_view : Signature → SignatureView
signature_view s = record { result = s.result; parameters = s.parameters.items }

abbrev pub structure_view : Structure → StructureView
structure_view s = record { ty = s.ty; members = s.members.items }

-- ---- what there is

-- what a name means; no name hides another, so each means one thing at most
abbrev pub meaning : Scope → NameId → Entity
meaning scope name = unwrap_or (slice_get scope.visible name.0) entity.Unseen

-- the text of a name
abbrev pub text : Scope → NameId → List ℕ
text scope name = unwrap_or (slice_get scope.names name.0) []

abbrev pub function : Scope → ℕ → Option SignatureView
function scope number = slice_get scope.functions number

abbrev pub structure : Scope → ℕ → Option StructureView
structure scope number = slice_get scope.structs number

abbrev pub local : Scope → ℕ → Option TypedLocal
local scope number = slice_get scope.locals number

-- ---- what is declared

-- where names have these texts, and nothing is declared
abbrev pub unseen_names : List (List ℕ) → List Entity
unseen_names [] = []
unseen_names (name ∷ names) = entity.Unseen ∷ unseen_names names

abbrev pub nothing_seen : List (List ℕ) → Scope
nothing_seen names = record { names = names; visible = unseen_names names; structs = []; functions = []; locals = [] }

-- the name means this from here on
abbrev pub seen_as : NameId → Entity → Scope → Scope
seen_as name e scope = record scope { visible = slice_set scope.visible name.0 e }

-- these names mean nothing from here on: the block that declares them ends
abbrev pub forgotten : List NameId → Scope → Scope
forgotten [] scope = scope
forgotten (name ∷ names) scope = forgotten names (seen_as name entity.Unseen scope)

abbrev pub with_local : TypedLocal → Scope → Scope
with_local l scope = record scope { locals = scope.locals ++ l ∷ [] }

abbrev pub with_structure : StructureView → Scope → Scope
with_structure s scope = record scope { structs = scope.structs ++ s ∷ [] }

abbrev pub with_function : SignatureView → Scope → Scope
with_function f scope = record scope { functions = scope.functions ++ f ∷ [] }

-- numbers are of 32 bits
abbrev pub numbered : ℕ → Place → Scope → Result (ℕ × Scope) Ill
numbered n place scope = if nat_lt n (2 ^ 32 - 1) then Ok (n, scope) else Err (record { kind = kinds.Unsupported; place = place })

-- a variable or parameter is declared: it gets the next number, and its name means it
abbrev pub declared : TypedLocal → Scope → Result (ℕ × Scope) Ill
declared l scope = numbered (length scope.locals) l.place (seen_as l.name (entity.Local (length scope.locals)) (with_local l scope))

-- a struct is declared at this place: it gets the next number, and the name means it
abbrev pub structure_declared : NameId → Place → StructureView → Scope → Result (ℕ × Scope) Ill
structure_declared name place s scope =
    numbered (length scope.structs) place (seen_as name (entity.Structure (length scope.structs)) (with_structure s scope))

-- .. a function
abbrev pub function_declared : NameId → Place → SignatureView → Scope → Result (ℕ × Scope) Ill
function_declared name place f scope =
    numbered (length scope.functions) place (seen_as name (entity.Function (length scope.functions)) (with_function f scope))

-- the function at hand ends: its variables and parameters are no more
abbrev pub without_locals : Scope → Scope
without_locals scope = record scope { locals = [] }

-- ---- what a function of the program returned, against this

-- memory ran out, or the same rule is broken at the same place
abbrev pub DeclaresNot : IllFault → Result (ℕ × Scope) Ill → Type 0
DeclaresNot faults.NoMemory answer = Unit {0}
DeclaresNot (faults.Ill kind place) answer = answer ≡ Err (record { kind = kind; place = place })

-- the number that was returned, and what is visible after it
abbrev pub Declares : Scope → Result ℕ IllFault → Result (ℕ × Scope) Ill → Type 0
Declares after (Ok n) answer = answer ≡ Ok (n, after)
Declares after (Err e) answer = DeclaresNot e answer
