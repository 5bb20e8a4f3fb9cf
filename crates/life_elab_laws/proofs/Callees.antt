-- What the core functions of a program take and give.
use Rattle.std.proofs.Common.{◌≡◌, ◌<◌, ◌≤◌, ℕ, zero, suc, true, false, List, [], ◌∷◌, ◌++◌, length, map, slice_get, take, Option, Some, None, refl, sym, ap, ◌∙◌, subst, unwrap_or, arith, Bool, if◌then◌else◌}
use Rattle.std.proofs.lemmas.Bool.{and_parts, false≢true}
use Rattle.std.proofs.lemmas.Option.{none-some, same_Some}
use Rattle.life_types.specs.Pointees.{or_void, ty_of}
use Rattle.life_types.specs.TypeTests.{is_void, is_value}
use Rattle.life_types.specs.Types.{Types, class, class_at}
use Rattle.life_types.specs.declared.ty.Ty.{Ty}
use Rattle.life_types.specs.declared.ty.Ty.TheVariants as ty
use Rattle.life_types.specs.declared.ty.TyId.{TyId}
use Rattle.life_elab_laws.proofs.ObjectTypes.{are_admitted_variables, is_admitted_result, are_admitted_parameters, is_admitted_parameter, is_walker_of_values, is_owner_of_values}
use Rattle.life_elab_laws.proofs.StatementKinds.{is_read_function, is_read_statement}
use Rattle.life_typed.specs.BaseTypes.{type_at}
use Rattle.life_typed.specs.Ends.{ends}
use Rattle.life_typed.specs.Programs.{FunctionForm, ProgramForm, is_main}
use Rattle.life_typed.specs.declared.typed_program.ParameterPromise.{ParameterPromise}
use Rattle.life_typed.specs.declared.typed_program.TypedLocal.{TypedLocal}
use Rattle.life_core.specs.Function.{Function}
use Rattle.life_core.specs.declared.program.Local.{Local}
use Rattle.life_proper.specs.WellFormed.{local_type, types_taken}
use Rattle.life_well_typed.specs.Expressions.{parameter_types, type_of}
use Rattle.life_well_typed.specs.Functions.{IsWellTypedFunction}
use Rattle.life_writer.specs.Around.{Around}
use Rattle.life_elab.specs.Functions.{parameter_local}
use Rattle.life_elab.specs.ProgramForms.{first_state}
use Rattle.life_elab.specs.Programs.{around, texts_of}
use Rattle.life_elab_laws.proofs.Beginning.{parameter_locals, parameters_front, register_there}
use Rattle.life_elab_laws.proofs.Calls.{IsCallee}
use Rattle.life_elab_laws.proofs.Fronts.{IsFront, front_cut, front_then}
use Rattle.life_elab_laws.proofs.HandedTypes.{IsHandedType, handed_later, handed_type}
use Rattle.life_elab_laws.proofs.ResultTypes.{IsResultType, gives_alias, gives_walker, gives_nothing, gives_raw, gives_reference, gives_value, gives_view, past_end, result_is, gives_struct, gives_owner, gives_unique, gives_whole}
use Rattle.life_elab_laws.proofs.Setting.{GivesBack, asked, unasked}
use Rattle.life_elab_laws.proofs.Types.{value_class}
use Rattle.life_elab_laws.proofs.OwnLocals.{first_own}
use Rattle.life_elab_laws.proofs.Shaped.{PlainStays}
use Rattle.life_elab_laws.proofs.NoVoid.{no_void}

-- what stands in a table is the type there
pub type_found : (types : Types) (id : TyId) (t : Ty) → slice_get types.types id.0 ≡ Some t → type_at types id ≡ t
type_found types id t at = ap (λ (o : Option Ty). unwrap_or o ty.Void) at

-- ---- the kinds of its parts

pub record IsReadFunction (texts : ℕ) (program : ProgramForm) (f : FunctionForm) : Type 0 where
  pub result : is_admitted_result program.types f.result ≡ true
  pub parameters : are_admitted_parameters program.types (take (length f.parameters) f.locals) ≡ true
  pub variables : are_admitted_variables program.types f.locals ≡ true
  pub body : is_read_statement texts program f.locals f.body ≡ true

pub read_parts : (texts : ℕ) (program : ProgramForm) (f : FunctionForm) → is_read_function texts program f ≡ true → IsReadFunction texts program f
read_parts texts program f b =
    let one = and_parts (is_admitted_result program.types f.result) _ b in
    let two = and_parts (are_admitted_parameters program.types (take (length f.parameters) f.locals)) _ one.1 in
    let three = and_parts (are_admitted_variables program.types f.locals) (is_read_statement texts program f.locals f.body) two.1 in
    record { result = one.0; parameters = two.0; variables = three.0; body = three.1 }

pub parameter_at : (types : Types) (us : List TypedLocal) → are_admitted_parameters types us ≡ true → (n : ℕ) (id : TyId) → slice_get (map type_of us) n ≡ Some id → is_admitted_parameter types id ≡ true
parameter_at types [] b n id at = absurd (none-some id at)
parameter_at types (u ∷ us) b zero id at =
    subst (λ (i : TyId). is_admitted_parameter types i ≡ true) (same_Some u.ty id at) (and_parts (is_admitted_parameter types u.ty) (are_admitted_parameters types us) b).0
parameter_at types (u ∷ us) b (suc n) id at = parameter_at types us (and_parts (is_admitted_parameter types u.ty) (are_admitted_parameters types us) b).1 n id at

-- ---- what a function takes

-- the types of its parameters
types_cut : (a : Around) (ps : List ParameterPromise) (us : List TypedLocal) (rest : List Local) → length ps ≤ length us
    → map local_type (take (length ps) (parameter_locals a ps us ++ rest)) ≡ map type_of (take (length ps) us)
types_cut a [] us rest few = refl
types_cut a (p ∷ ps) [] rest few = absurd (omega (arith, few))
types_cut a (p ∷ ps) (u ∷ us) rest few = ap (λ (ids : List TyId). u.ty ∷ ids) (types_cut a ps us rest (omega (arith, few)))

parameter_taken : (a : Around) (ps : List ParameterPromise) (us : List TypedLocal) (y : ℕ) → length ps ≤ length us → are_admitted_parameters a.program.types (take (length ps) us) ≡ true → y < length ps
    → (l : Local) × (slice_get (parameter_locals a ps us) y ≡ Some l) × IsHandedType a.program.types l.ty
parameter_taken a [] us y few b lt = absurd (omega (arith, lt))
parameter_taken a (p ∷ ps) [] y few b lt = absurd (omega (arith, few))
parameter_taken a (p ∷ ps) (u ∷ us) zero few b lt =
    let parts = and_parts (is_admitted_parameter a.program.types u.ty) (are_admitted_parameters a.program.types (take (length ps) us)) b in
    (parameter_local a p u, refl, handed_type a.program.types u.ty parts.0)
parameter_taken a (p ∷ ps) (u ∷ us) (suc y) few b lt =
    let parts = and_parts (is_admitted_parameter a.program.types u.ty) (are_admitted_parameters a.program.types (take (length ps) us)) b in
    parameter_taken a ps us y (omega (arith, few)) parts.1 (omega (arith, lt))

-- ---- what its core function takes and gives, where it begins as it is written

-- a function of a well typed program
pub record IsFunctionOf (p : ProgramForm) (f : FunctionForm) : Type 0 where
  pub typed : IsWellTypedFunction p f
  pub built : IsReadFunction (length (texts_of p)) p f
  pub ty : Ty
  pub result : slice_get p.types.types f.result.0 ≡ Some ty

-- .. whose core function begins as it is written
pub record IsBegun (p : ProgramForm) (f : FunctionForm) (T types : Types) (core : Function) : Type 0 where
  pub table : IsFront p.types.types T.types
  pub later : IsFront T.types types.types
  pub plain : PlainStays p.types types
  pub count : core.parameters ≡ length f.parameters
  pub same : core.result ≡ f.result
  pub locals : IsFront (first_state (around p f) T).locals core.locals

module _ (p : ProgramForm) (of : FunctionForm) (T types : Types) (core : Function) (is : IsFunctionOf p of) (begun : IsBegun p of T types core) where
  front : IsFront p.types.types types.types
  front = front_then p.types.types T.types types.types begun.table begun.later

  -- its locals begin with the parameters
  cut : (rest : List Local) × (core.locals ≡ parameter_locals (around p of) of.parameters of.locals ++ rest)
  cut =
      front_cut (parameter_locals (around p of) of.parameters of.locals) core.locals
      (front_then (parameter_locals (around p of) of.parameters of.locals) (first_state (around p of) T).locals core.locals (parameters_front (around p of) T is.typed.parameters begun.table is.built.result) begun.locals)

  takes_types : types_taken core ≡ parameter_types (Some of)
  takes_types =
      ap (λ (n : ℕ). map local_type (take n core.locals)) begun.count
      ∙ ap (λ (ls : List Local). map local_type (take (length of.parameters) ls)) cut.1
      ∙ types_cut (around p of) of.parameters of.locals cut.0 is.typed.parameters

  pub takes_handed : (y : ℕ) (l : Local) → slice_get core.locals y ≡ Some l → y < core.parameters → IsHandedType types l.ty
  takes_handed y l at lt =
      let taken = parameter_taken (around p of) of.parameters of.locals y is.typed.parameters is.built.parameters (omega (arith, lt, begun.count)) in
      let there : slice_get core.locals y ≡ Some taken.0 = begun.locals y taken.0 (parameters_front (around p of) T is.typed.parameters begun.table is.built.result y taken.0 taken.1) in
      handed_later p.types types front begun.plain l.ty (subst (λ (u : Local). IsHandedType p.types u.ty) (same_Some taken.0 l (sym there ∙ at)) taken.2)

  result_type : slice_get types.types core.result.0 ≡ Some is.ty
  result_type = ap (λ (id : TyId). slice_get types.types id.0) begun.same ∙ front of.result.0 is.ty is.result

  pub callee_from : (fs : List Function) (g : ℕ) → slice_get fs g ≡ Some core → IsCallee types fs g of
  callee_from fs g there = record { core = core; there = there; typed = takes_types; gives = begun.same }

  -- what a pointer is given back by has an end that control doesn't come to, since main gives back an int
  pub gives_from : (is_main p.names of.name ≡ true → type_at p.types of.result ≡ ty.Int) → GivesBack (around p of) types core
  gives_from mains = go (result_is p.types (type_at p.types of.result) is.built.result)
    where
      class_is : class_at types core.result ≡ class (Some (type_at p.types of.result))
      class_is = ap class result_type ∙ ap (λ (t : Ty). class (Some t)) (sym (type_found p.types of.result is.ty is.result))

      pointing : is_void (type_at p.types of.result) ≡ false → (type_at p.types of.result ≡ ty.Int → ⊥) → GivesBack (around p of) types core
      pointing some other = asked begun.count some (past_end (is_main p.names of.name) (is_void (type_at p.types of.result)) (ends of.body) some (λ main. other (mains main)) is.typed.ending)

      -- .. of a type that is no int
      pointing_as : (t : Ty) → type_at p.types of.result ≡ t → is_void t ≡ false → is_value t ≡ false → GivesBack (around p of) types core
      pointing_as t is some other = pointing (ap is_void is ∙ some) (λ int. false≢true (sym other ∙ ap is_value (sym is ∙ int)))

      go : IsResultType p.types (type_at p.types of.result) → GivesBack (around p of) types core
      go (gives_nothing void) = unasked (class_is ∙ ap (λ (t : Ty). class (Some t)) void)
      go (gives_value v) = unasked (class_is ∙ value_class (type_at p.types of.result) v)
      go (gives_raw target constant raw w) = pointing_as (ty.Raw target constant) raw refl refl
      go (gives_walker w) = pointing (no_void (is_walker_of_values p.types) refl (type_at p.types of.result) w) (λ int. false≢true (subst (λ (t : Ty). is_walker_of_values p.types t ≡ true) int w))
      go (gives_owner o) = pointing (no_void (is_owner_of_values p.types) refl (type_at p.types of.result) o) (λ int. false≢true (subst (λ (t : Ty). is_owner_of_values p.types t ≡ true) int o))
      go (gives_unique target unique w) = pointing_as (ty.Unique target) unique refl refl
      go (gives_whole number whole) = pointing_as (ty.Struct number) whole refl refl
      go (gives_view view) = pointing_as ty.View view refl refl
      go (gives_reference target constant refers w) = pointing_as (ty.Reference target constant) refers refl refl
      go (gives_alias target constant refers o) = pointing_as (ty.Reference target constant) refers refl refl
      go (gives_struct target constant number refers structure pointless) = pointing_as (ty.Reference target constant) refers refl refl

  -- what the core function gives back is what is told of it
  result_void : is_void (ty_of types core.result) ≡ is_void (type_at p.types of.result)
  result_void = ap is_void (ap or_void result_type ∙ sym (type_found p.types of.result is.ty is.result))

  -- the local of its result has no name
  pub result_nameless : (l : Local) → slice_get core.locals core.parameters ≡ Some l → is_void (ty_of types core.result) ≡ false → l.name ≡ None
  result_nameless l at some =
      let register = register_there (around p of) T is.typed.parameters begun.table is.ty is.result is.built.result (sym result_void ∙ some) in
      let same : l ≡ register.local = same_Some l register.local (sym at ∙ ap (slice_get core.locals) begun.count ∙ begun.locals (length of.parameters) register.local register.there) in
      ap (λ (x : Local). x.name) same ∙ register.nameless

  -- .. and its own locals lie beyond that
  pub result_before : is_void (ty_of types core.result) ≡ false → core.parameters < first_own (around p of)
  result_before some =
      subst (λ (n : ℕ). core.parameters < n) (sym (ap (λ (b : Bool). if b then 0 else suc (length of.parameters)) (sym result_void ∙ some))) (omega (arith, begun.count))
