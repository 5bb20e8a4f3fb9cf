-- Calls that give an object over and write their result to it or to a member of one.
use Rattle.std.proofs.Common.{◌≡◌, ℕ, Bool, true, false, [], ◌∷◌, Some, None, refl}
use Rattle.life_types.specs.Types.{Types}
use Rattle.life_types.specs.declared.ty.Ty.TheVariants as ty
use Rattle.life_types.specs.declared.ty.TyId.{TyId}
use Rattle.life_core.specs.declared.program.Local.{Local}
use Rattle.life_core.specs.declared.program.LocalKind.TheVariants.{Object}
use Rattle.life_core.specs.Function.{Function, Default}
use Rattle.life_core.specs.Operands.{Location, GivenOver}
use Rattle.life_core.specs.Step.{Call}
use Rattle.life_core.specs.Tree.{Skip}
use Rattle.life_proper.specs.GivenOver.{keeps_given}

abbrev id : ℕ → TyId
id n = record { 0 = n }

-- a struct with a pointer
abbrev types : Types
types = record { types = ty.Void ∷ ty.Int ∷ ty.Raw (id 1) false ∷ ty.Struct 0 ∷ []; structs = (id 2 ∷ []) ∷ [] }

abbrev holder : Local
holder = record { name = None; ty = id 3; kind = Object; place = record { line = 1; column = 1 }; nonnull = false; keeps = false }

abbrev f : Function
f = record { name = record { 0 = 0 }; place = record { line = 1; column = 1 }; parameters = 0; result = id 0; promise = Default; locals = holder ∷ holder ∷ []; body = Skip }

abbrev keeps_with : Location → Bool
keeps_with target = keeps_given types f (Call (Some target) (record { 0 = 0 }) (GivenOver 0 ∷ []))

-- the object is gone when its member is written
member_of_given : keeps_with (record { local = 0; members = 0 ∷ [] }) ≡ false
member_of_given = refl

member_of_another : keeps_with (record { local = 1; members = 0 ∷ [] }) ≡ true
member_of_another = refl

-- a whole object comes to life with the result
given_object : keeps_with (record { local = 0; members = [] }) ≡ true
given_object = refl
