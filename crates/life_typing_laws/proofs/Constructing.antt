-- A struct that is made of a list is well typed.
use Rattle.std.proofs.Common.{◌≡◌, ℕ, true, Option, None, Some, Ok, List, [], length, slice_get, refl, sym, ap, subst}
use Rattle.std.specs.Prelude.{unwrap_or}
use Rattle.std.proofs.lemmas.Option.{slice_get_within}
use Rattle.life_types.specs.Trees.{members_at}
use Rattle.life_types.specs.Types.{Types, HasTypes}
use Rattle.life_types.specs.declared.place.Place.{Place}
use Rattle.life_types.specs.declared.ty.Ty.TheVariants as ty
use Rattle.life_types.specs.declared.ty.TyId.{TyId}
use Rattle.life_tree.specs.declared.identifier.Identifier.{Identifier}
use Rattle.life_typed.specs.Delimiters.{DelimitersForm}
use Rattle.life_typed.specs.Programs.{ProgramForm}
use Rattle.life_typed.specs.TypedForm.{Typed, construct, forms}
use Rattle.life_typed.specs.declared.typed_program.TypedLocal.{TypedLocal}
use Rattle.life_names.specs.Environment.{Scope, StructureView}
use Rattle.life_names.specs.Found.{given}
use Rattle.life_names.specs.declared.fault.IllKind.TheVariants as kinds
use Rattle.life_type_expr.specs.Expressions.{constructed}
use Rattle.life_type_expr.specs.Lists.{ListMeaning, Meaning, braced, count_fault, lower_kind, members, misfits}
use Rattle.life_type_expr.specs.Named.{structure_named}
use Rattle.life_type_expr.specs.Operands.{value}
use Rattle.life_typing.specs.Structs.{types_of}
use Rattle.life_well_typed.specs.Expressions.{AreExpressions}
use Rattle.life_well_typed.specs.Members.{are_members}
use Rattle.life_well_typed.specs.Visible.{Visible}
use Rattle.life_typing_laws.proofs.MembersListed.{all_there, members_listed}
use Rattle.life_typing_laws.proofs.Operands.{structure_is}
use Rattle.life_typing_laws.proofs.Reading.{PlacesThere, passed_is}
use Rattle.life_typing_laws.proofs.Scopes.{sound_now}
use Rattle.life_typing_laws.proofs.Steps.{bound, given_ok, same_value}
use Rattle.life_typing_laws.proofs.Typed.{Good, GoodList, IsGood, IsTyped}
use Rattle.life_typing_laws.specs.Sound.{HasStruct, IsFinal, IsSound}

abbrev pub construct_part : Identifier → ListMeaning → Meaning
construct_part name l scope types = given (structure_named name scope) (λ s. constructed l s scope types)

-- over the table behind its members
module _ (p : ProgramForm) (locals : List TypedLocal) (v : Visible) (scope : Scope) (types : Types) (sound : IsSound v scope types) (final : IsFinal p locals scope types) where
  constructed_typed : (n : ℕ) (s : StructureView) (place : Place) (es : List Typed) (delimiters : DelimitersForm) → slice_get scope.structs n ≡ Some s → AreExpressions p locals v.visible (forms es) → PlacesThere types es
      → misfits kinds.WrongType (members s.members) types (lower_kind None (count_fault kinds.WrongType (members s.members) (length es))) 0 es ≡ None
      → IsTyped p locals v types (value place (ty.Struct n) (construct n (forms es) delimiters))
  constructed_typed n s place es delimiters here are places fine = record {
    is = (refl, subst (λ (ids : List TyId). are_members p.types ids (forms es) ≡ true) (sym same) (members_listed s.members types p.types sound.ordered final.grown es there places fine), are, (s.ty.0, final.grown.types s.ty.0 (ty.Struct n) has.type));
    parts = slice_get_within types.structs n (types_of s.members) has.members;
    place = tt;
  }
    where
      has : HasStruct types n s
      has = sound.structs_there n s here

      there : HasTypes types (types_of s.members)
      there = all_there types (types_of s.members) (sound.ordered.members n (types_of s.members) has.members)

      same : members_at p.types n ≡ types_of s.members
      same = ap (λ (o : Option (List TyId)). unwrap_or o []) (final.grown.structs n (types_of s.members) has.members)

pub construct_good : (name : Identifier) (l : ListMeaning) → GoodList l → Good (construct_part name l)
construct_good name l good v scope types x e sound =
    let found = given_ok (structure_named name scope) (λ s. constructed l s scope types) x e in
    let s = found.value in
    let step = bound (braced (members s.1.members) l scope types) (λ y. Ok (value l.opening (ty.Struct s.0) (construct s.0 (forms y.0) l.delimiters), y.1)) x found.behind in
    let passed = passed_is kinds.WrongType None l.opening (members s.1.members) l.list v scope types step.value good step.gave sound in
    subst (IsGood v scope types) (same_value (value l.opening (ty.Struct s.0) (construct s.0 (forms step.value.0) l.delimiters), step.value.1) x step.behind) (record {
      grown = passed.read.grown;
      is = λ p locals final.
          constructed_typed p locals v scope step.value.1 (sound_now v scope types step.value.1 sound passed.read.grown) final s.0 s.1 l.opening step.value.0 l.delimiters (structure_is name scope s found.gave)
          (subst (λ (es : List Typed). AreExpressions p locals v.visible (forms es)) (sym passed.read.all) (passed.read.are p locals final))
          (subst (PlacesThere step.value.1) (sym passed.read.all) (passed.read.places p locals final)) passed.fine;
    })
