-- A function with which a run may begin is admitted where the input has numbers for its parameters.
use Rattle.std.proofs.Common.{◌≡◌, ◌≤◌, ℕ, zero, suc, true, List, [], ◌∷◌, Option, length, refl}
use Rattle.std.specs.Prelude.{ℤ, ◌&&◌, map, nat_le, slice_get, take}
use Rattle.std.specs.List.{list_all}
use Rattle.std.proofs.lemmas.Bool.{and_parts, false≢true, leb-true}
use Rattle.life_types.specs.Types.{Types, class_at}
use Rattle.life_types.specs.declared.ty.Class.{Class}
use Rattle.life_types.specs.declared.ty.Class.TheVariants.{Value, Pointer, Owner, Aggregate}
use Rattle.life_types.specs.declared.ty.Ty.{Ty}
use Rattle.life_core.specs.Function.{Function, Program}
use Rattle.life_core.specs.Holdings.{AnObject, held_if, sort_of_local}
use Rattle.life_core.specs.declared.program.Local.{Local}
use Rattle.life_core.specs.declared.program.LocalKind.{LocalKind}
use Rattle.life_core.specs.declared.program.LocalKind.TheVariants as kind
use Rattle.life_store.specs.Meaning.{AreObjects, IsAdmitted, is_told}
use Rattle.life_cli.specs.Entry.{holds_value, is_object, is_value, may_begin, takes_values}

held_object : (c : Class) (k : LocalKind) (t : Option Ty) → is_value c && is_object k ≡ true → held_if c k t ≡ AnObject
held_object Value kind.Object t h = refl
held_object Value kind.Register t h = absurd (false≢true h)
held_object Value kind.Range t h = absurd (false≢true h)
held_object Pointer k t h = absurd (false≢true h)
held_object Owner k t h = absurd (false≢true h)
held_object Aggregate k t h = absurd (false≢true h)

all_objects : (types : Types) (n : ℕ) (ls : List Local) → list_all (holds_value types) (take n ls) ≡ true → AreObjects (map (sort_of_local types) (take n ls))
all_objects types zero ls h = tt
all_objects types (suc n) [] h = tt
all_objects types (suc n) (l ∷ ls) h =
    let both = and_parts (holds_value types l) (list_all (holds_value types) (take n ls)) h in
    (held_object (class_at types l.ty) l.kind (slice_get types.types l.ty.0) both.0, all_objects types n ls both.1)

pub admitted : (p : Program) (f : Function) (input : List ℤ) → may_begin p.types f ≡ true → f.parameters ≤ length input → IsAdmitted p f input
admitted p f input may enough =
    let told = is_told (slice_get p.types.types f.result.0) in
    let whole = and_parts (told && nat_le f.parameters (length f.locals)) (takes_values p.types f) may in
    let front = and_parts told (nat_le f.parameters (length f.locals)) whole.0 in
    record {
      room = leb-true f.parameters (length f.locals) front.1;
      values = all_objects p.types f.parameters f.locals whole.1;
      told = front.0;
      enough = enough;
    }
