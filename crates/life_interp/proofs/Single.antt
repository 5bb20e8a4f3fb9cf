-- A local that holds an object is of a type of numbers.
use Rattle.std.proofs.Common.{◌≡◌, Option, Some, None, refl}
use Rattle.std.specs.Prelude.{slice_get}
use Rattle.life_types.specs.Types.{Types, class, class_at}
use Rattle.life_types.specs.declared.ty.Class.{Class}
use Rattle.life_types.specs.declared.ty.Class.TheVariants.{Value, Pointer, Owner as AnOwner, Aggregate}
use Rattle.life_types.specs.declared.ty.Ty.{Ty}
use Rattle.life_types.specs.declared.ty.Ty.TheVariants as variant
use Rattle.life_types.specs.declared.ty.TyId.{TyId}
use Rattle.life_core.specs.Holdings.{AnObject, Blank, held_by, held_if, pointer_held}
use Rattle.life_core.specs.declared.program.Local.{Local}
use Rattle.life_core.specs.declared.program.LocalKind.{LocalKind}
use Rattle.life_store.specs.Parts.{Parts, Single, parts_of, parts_within}
use Rattle.life_interp.specs.Fits.{IsNumber}

not_pointer : (o : Option Ty) → AnObject ≡ pointer_held o → ⊥
not_pointer None e = cc
not_pointer (Some variant.Void) e = cc
not_pointer (Some variant.Bool) e = cc
not_pointer (Some variant.Char) e = cc
not_pointer (Some variant.Int) e = cc
not_pointer (Some variant.Long) e = cc
not_pointer (Some variant.Size) e = cc
not_pointer (Some variant.Text) e = cc
not_pointer (Some variant.View) e = cc
not_pointer (Some (variant.Vector element)) e = cc
not_pointer (Some (variant.Unique target)) e = cc
not_pointer (Some (variant.Raw target constant)) e = cc
not_pointer (Some (variant.Reference target constant)) e = cc
not_pointer (Some (variant.Iterator target constant)) e = cc
not_pointer (Some (variant.Span target constant)) e = cc
not_pointer (Some (variant.Struct number)) e = cc

not_blank : AnObject ≡ Blank → ⊥
not_blank e = cc

object_value : (k : Class) (kind : LocalKind) (ty : Option Ty) → AnObject ≡ held_if k kind ty → k ≡ Value
object_value Value kind ty e = refl
object_value Pointer kind ty e = absurd (not_pointer ty e)
object_value AnOwner kind ty e = absurd (not_blank e)
object_value Aggregate kind ty e = absurd (not_blank e)

not_owner : AnOwner ≡ Value → ⊥
not_owner e = cc

not_aimed : Pointer ≡ Value → ⊥
not_aimed e = cc

not_struct : Aggregate ≡ Value → ⊥
not_struct e = cc

value_single : (types : Types) (part : TyId → Parts) (o : Option Ty) → class o ≡ Value → parts_of types part o ≡ Single
value_single types part None e = refl
value_single types part (Some variant.Void) e = refl
value_single types part (Some variant.Bool) e = refl
value_single types part (Some variant.Char) e = refl
value_single types part (Some variant.Int) e = refl
value_single types part (Some variant.Long) e = refl
value_single types part (Some variant.Size) e = refl
value_single types part (Some variant.Text) e = absurd (not_owner e)
value_single types part (Some variant.View) e = absurd (not_aimed e)
value_single types part (Some (variant.Vector element)) e = absurd (not_owner e)
value_single types part (Some (variant.Unique target)) e = absurd (not_owner e)
value_single types part (Some (variant.Raw target constant)) e = absurd (not_aimed e)
value_single types part (Some (variant.Reference target constant)) e = absurd (not_aimed e)
value_single types part (Some (variant.Iterator target constant)) e = absurd (not_aimed e)
value_single types part (Some (variant.Span target constant)) e = absurd (not_aimed e)
value_single types part (Some (variant.Struct number)) e = absurd (not_struct e)

pub object_is_number : (types : Types) (l : Local) → AnObject ≡ held_by types (Some l) → IsNumber types l.ty
object_is_number types l e =
    value_single types (parts_within l.ty.0 types) (slice_get types.types l.ty.0) (object_value (class_at types l.ty) l.kind (slice_get types.types l.ty.0) e)
