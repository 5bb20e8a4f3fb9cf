-- `std::move(x)` is well typed.
use Rattle.std.proofs.Common.{◌≡◌, ℕ, Option, None, Some, Ok, refl, sym, ap, subst, ◌∙◌}
use Rattle.life_types.specs.Types.{Types, HasParts, HasType}
use Rattle.life_types.specs.declared.place.Place.{Place}
use Rattle.life_types.specs.declared.ty.Ty.{Ty}
use Rattle.life_tree.specs.declared.identifier.Identifier.{Identifier}
use Rattle.life_typed.specs.BaseTypes.{type_at}
use Rattle.life_typed.specs.TypedForm.{Typed, move}
use Rattle.life_typed.specs.declared.typed_program.TypedLocal.{TypedLocal}
use Rattle.life_names.specs.Found.{found_in, given}
use Rattle.life_names.specs.declared.fault.IllKind.{IllKind}
use Rattle.life_type_expr.specs.Lists.{Meaning}
use Rattle.life_type_expr.specs.Named.{local_named}
use Rattle.life_type_expr.specs.Operands.{move_fault_of, moved, moved_unless, value}
use Rattle.life_well_typed.specs.Expressions.{IsMoved}
use Rattle.life_typing_laws.specs.Sound.{Grows}
use Rattle.life_well_typed.proofs.ObjectsKept.{object_there}
use Rattle.life_typing_laws.proofs.Growing.{grown_not, parts_there, same_type_at}
use Rattle.life_typing_laws.proofs.Operands.{local_is}
use Rattle.life_typing_laws.proofs.Steps.{found_ok, given_ok}
use Rattle.life_typing_laws.proofs.Typed.{Good, IsGood, IsTyped}

abbrev pub move_part : Place → Identifier → Meaning
move_part place name scope types = given (local_named name scope) (λ l. found_in types (moved types place l))

moved_is : (types : Types) (place : Place) (l : ℕ × TypedLocal) (e : Typed) → moved types place l ≡ Ok e → value place (type_at types l.1.ty) (move l.0) ≡ e
moved_is types place l e h = go (move_fault_of (type_at types l.1.ty) l.1.constant) h
  where
    go : (o : Option IllKind) → moved_unless o types place l ≡ Ok e → value place (type_at types l.1.ty) (move l.0) ≡ e
    go None h = cc
    go (Some kind) h = absurd (cc)

-- in a table that has grown it is the same
same_moved : (old new : Types) (place : Place) (l : ℕ × TypedLocal) → Grows old new → HasType old l.1.ty → moved new place l ≡ moved old place l
same_moved old new place l grows there =
    ap (λ (t : Ty). moved_unless (move_fault_of t l.1.constant) new place l) same ∙ go (move_fault_of (type_at old l.1.ty) l.1.constant)
  where
    same : type_at new l.1.ty ≡ type_at old l.1.ty
    same = same_type_at old new l.1.ty grows there

    go : (o : Option IllKind) → moved_unless o new place l ≡ moved_unless o old place l
    go None = ap (λ (t : Ty). Ok (value place t (move l.0))) same
    go (Some kind) = refl

pub move_good : (place : Place) (name : Identifier) → Good (move_part place name)
move_good place name v scope types x e sound =
    let found = given_ok (local_named name scope) (λ l. found_in types (moved types place l)) x e in
    let l = found.value in
    let last = found_ok types (moved types place l) x found.behind in
    let is = moved_is types place l x.0 last.0 in
    let l_is = local_is name scope l found.gave in
    subst (λ (s : Types). IsGood v scope types (x.0, s)) last.1 (record {
      grown = grown_not types sound.ordered;
      is = λ p locals final.
          let there : HasType types l.1.ty = object_there types l.1.ty (sound.locals_there l.0 l.1 l_is.there) in
          let parts : HasParts types (type_at types l.1.ty) = parts_there types l.1.ty sound.ordered there in
          let stays : moved p.types place l ≡ Ok (value place (type_at types l.1.ty) (move l.0)) =
          same_moved types p.types place l final.grown there ∙ last.0 ∙ ap (λ (y : Typed). Ok y) (sym is) in
          subst (IsTyped p locals v types) is (record {
            is = (
              sound.visible name.id.0 l.0 l_is.means,
              subst (λ (o : Option TypedLocal). IsMoved p.types l.0 o (value place (type_at types l.1.ty) (move l.0))) (sym (final.kept l.0 l.1 l_is.there)) stays,
            );
            parts = parts;
            place = tt;
          });
    })
