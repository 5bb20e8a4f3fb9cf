-- What holds of each of the five types of values holds of a value, what holds of strings and vectors of an owner, and what holds of iterators and spans of either.
use Rattle.std.proofs.Common.{◌≡◌, Bool, true}
use Rattle.std.proofs.lemmas.Bool.{false≢true}
use Rattle.life_types.specs.TypeTests.{is_value}
use Rattle.life_types.specs.Types.{Types}
use Rattle.life_types.specs.declared.ty.Ty.{Ty}
use Rattle.life_types.specs.declared.ty.Ty.TheVariants as ty
use Rattle.life_types.specs.declared.ty.TyId.{TyId}
use Rattle.life_elab_laws.proofs.ObjectTypes.{is_owner_of_values, is_walker_of_values}

pub by_values : (P : Ty → Type 0) → P ty.Bool → P ty.Char → P ty.Int → P ty.Long → P ty.Size → (t : Ty) → is_value t ≡ true → P t
by_values P bool char int long size ty.Bool v = bool
by_values P bool char int long size ty.Char v = char
by_values P bool char int long size ty.Int v = int
by_values P bool char int long size ty.Long v = long
by_values P bool char int long size ty.Size v = size
by_values P bool char int long size _ v = absurd (false≢true v)

pub by_owners : (types : Types) (P : Ty → Type 0) → P ty.Text → ((item : TyId) → P (ty.Vector item)) → (t : Ty) → is_owner_of_values types t ≡ true → P t
by_owners types P text vector ty.Text o = text
by_owners types P text vector (ty.Vector item) o = vector item
by_owners types P text vector _ o = absurd (false≢true o)

pub by_walkers : (types : Types) (P : Ty → Type 0) → ((item : TyId) (constant : Bool) → P (ty.Iterator item constant)) → ((item : TyId) (constant : Bool) → P (ty.Span item constant)) → (t : Ty) → is_walker_of_values types t ≡ true → P t
by_walkers types P iterator span (ty.Iterator item constant) w = iterator item constant
by_walkers types P iterator span (ty.Span item constant) w = span item constant
by_walkers types P iterator span _ w = absurd (false≢true w)
