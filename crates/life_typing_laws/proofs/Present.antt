-- What is well typed in each program that has what there is at a moment of checking is so in one that has no more, so the type of an expression holds objects then.
use Rattle.std.proofs.Common.{◌≡◌, ℕ, zero, suc, false, Some, List, [], ◌∷◌, length, map, slice_get, take, refl, ap, ◌∙◌}
use Rattle.std.proofs.lemmas.List.{length-map}
use Rattle.life_types.specs.Types.{Types}
use Rattle.life_types.specs.declared.place.Place.{Place}
use Rattle.life_types.specs.declared.ty.Ty.TheVariants as ty
use Rattle.life_types.specs.declared.ty.TyId.{TyId}
use Rattle.life_typed.specs.BaseTypes.{type_at}
use Rattle.life_typed.specs.Programs.{FunctionForm, ProgramForm, default}
use Rattle.life_typed.specs.TypedForm.{Typed, whole}
use Rattle.life_typed.specs.TypedStatement.{no_more}
use Rattle.life_typed.specs.declared.basic.TheConstants.{CHAR}
use Rattle.life_typed.specs.declared.typed_program.TypedLocal.{TypedLocal}
use Rattle.life_names.specs.Environment.{Scope, SignatureView}
use Rattle.life_well_typed.specs.Expressions.{parameter_types, type_of}
use Rattle.life_well_typed.specs.Tables.{HasObjects, HasTargetIfAny}
use Rattle.life_well_typed.specs.Visible.{Visible}
use Rattle.life_well_typed.proofs.TargetsHeld.{expression_holds}
use Rattle.life_typing_laws.proofs.Growing.{grows_not, object_later, type_is}
use Rattle.life_typing_laws.proofs.Steps.{same_some}
use Rattle.life_typing_laws.proofs.Typed.{IsTyped}
use Rattle.life_typing_laws.specs.Sound.{Grows, IsFinal, IsSound}

abbrev nowhere : Place
nowhere = record { line = 0; column = 0 }

abbrev one_of : TyId → TypedLocal
one_of id = record { name = record { 0 = 0 }; place = nowhere; ty = id; constant = false }

-- a function with this result and these parameters
abbrev form_of : SignatureView → FunctionForm
form_of s = record {
  name = record { 0 = 0 };
  place = nowhere;
  first_place = nowhere;
  result = s.result;
  parameters = map (λ (id : TyId). record { nonnull = false; keeps = false }) s.parameters;
  promise = default;
  locals = map one_of s.parameters;
  body = no_more;
}

-- a program that has no more than there is
abbrev present : Scope → Types → ProgramForm
present scope types = record { names = []; texts = []; types = types; structs = []; functions = map form_of scope.functions }

functions_there : (fs : List SignatureView) (n : ℕ) (s : SignatureView) → slice_get fs n ≡ Some s → slice_get (map form_of fs) n ≡ Some (form_of s)
functions_there [] n s e = absurd (cc)
functions_there (f ∷ fs) zero s e = ap (λ (g : SignatureView). Some (form_of g)) (same_some f s e)
functions_there (f ∷ fs) (suc n) s e = functions_there fs n s e

types_are : (ids : List TyId) → map type_of (take (length ids) (map one_of ids)) ≡ ids
types_are [] = refl
types_are (id ∷ ids) = ap (λ (rest : List TyId). id ∷ rest) (types_are ids)

parameters_are : (s : SignatureView) → parameter_types (Some (form_of s)) ≡ s.parameters
parameters_are s =
    let count : length (form_of s).parameters ≡ length s.parameters = length-map s.parameters (λ (id : TyId). record { nonnull = false; keeps = false }) in
    ap (λ (n : ℕ). map type_of (take n (map one_of s.parameters))) count ∙ types_are s.parameters

present_final : (scope : Scope) (types : Types) → IsFinal (present scope types) scope.locals scope types
present_final scope types = record {
  grown = grows_not types;
  kept = λ n l e. e;
  functions = λ n s e. record { form = form_of s; there = functions_there scope.functions n s e; result = refl; parameters = parameters_are s };
}

pub typed_target : (v : Visible) (scope : Scope) (before types : Types) (e : Typed) → IsSound v scope before → Grows before types → HasObjects types
    → ((p : ProgramForm) (locals : List TypedLocal) → IsFinal p locals scope types → IsTyped p locals v types e) → HasTargetIfAny types e.ty
typed_target v scope before types e sound grows objects typed =
    let chars : type_at types CHAR ≡ ty.Char = type_is types CHAR ty.Char (grows.types 2 ty.Char (sound.based.types 2 ty.Char refl)) in
    (expression_holds (present scope types) objects chars scope.locals (λ n l at. object_later before types l.ty grows (sound.locals_there n l at)) v.visible (whole e) (typed (present scope types) scope.locals (present_final scope types)).is).0
