-- The numbers of structs and of their types.
use Rattle.std.proofs.Common.{◌≡◌, ℕ, ◌-◌, ◌^◌, Bool, true, false, ◌&&◌, List, [], ◌∷◌, Some, Ok, length, slice_get, refl, sym, ap, ◌∙◌}
use Rattle.std.specs.Prelude.{nat_lt}
use Rattle.std.proofs.lemmas.Bool.{ltb-true}
use Rattle.life_types.specs.Types.{Types, HasEachOnce, HasTypes, with_type}
use Rattle.life_types.specs.declared.place.Place.{Place}
use Rattle.life_types.specs.declared.ty.Ty.{Ty}
use Rattle.life_types.specs.declared.ty.Ty.TheVariants as ty
use Rattle.life_types.specs.declared.ty.TyId.{TyId}
use Rattle.life_names.specs.Checked.{Checked}
use Rattle.life_typing.specs.StructTypes.{are_there, number_added}
use Rattle.life_names.specs.Table.{is_there, number_of}
use Rattle.life_names.proofs.Numbers.{number_given}

pub all_there : (types : Types) (ids : List TyId) → are_there types ids ≡ true → HasTypes types ids
all_there types [] h = tt
all_there types (id ∷ ids) h = go (is_there types id) refl (all_there types ids) h
  where
    go : (b : Bool) → is_there types id ≡ b → (are_there types ids ≡ true → HasTypes types ids) → (b && are_there types ids) ≡ true → HasTypes types (id ∷ ids)
    go true e more h = (ltb-true id.0 (length types.types) e, more h)
    go false e more h = cc

abbrev counted : Ty → Types → Checked TyId
counted t types = Ok (record { 0 = number_of types.types t }, types)

-- the type of a struct that was added
pub struct_added : (types after : Types) (place : Place) (number : ℕ) (id : TyId) → nat_lt (length types.types) (2 ^ 32 - 1) ≡ true
    → after ≡ record types { types = with_type types.types (ty.Struct number) } → HasEachOnce after → slice_get after.types id.0 ≡ Some (ty.Struct number)
    → number_added place number types ≡ Ok (id, after)
unfolding number_added
struct_added types after place number id can grown once e =
    let given : record { 0 = number_of after.types (ty.Struct number) } ≡ id = number_given after (ty.Struct number) id once e in
    rw can (ap (counted (ty.Struct number)) (sym grown) ∙ ap (λ (i : TyId). Ok (i, after)) given)
