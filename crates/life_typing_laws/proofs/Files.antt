-- Whole files: what is resolved is well typed.
use Rattle.std.proofs.Common.{◌≡◌, inr, ⊎_elim, ℕ, zero, suc, Bool, true, false, Option, None, Some, Ok, List, [], ◌∷◌, length, slice_get, refl, sym, ap, subst, ◌∙◌, arith}
use Rattle.std.specs.Prelude.{unwrap_or}
use Rattle.std.proofs.lemmas.Option.{slice_get_within}
use Rattle.life_types.specs.Trees.{HasPartsBelow, IsOrdered}
use Rattle.life_types.specs.Types.{HasEachOnce, HasType, Types}
use Rattle.life_types.specs.declared.ty.Ty.{Ty}
use Rattle.life_types.specs.declared.ty.Ty.TheVariants as ty
use Rattle.life_types.specs.declared.ty.TyId.{TyId}
use Rattle.life_types.proofs.TreeLemmas.{IsThere, within}
use Rattle.life_tree.specs.declared.program.Definition.{Definition}
use Rattle.life_tree.specs.declared.program.Definition.TheVariants as definition
use Rattle.life_tree.specs.declared.program.Program.{Program}
use Rattle.life_typed.specs.BaseTypes.{base_types, type_at}
use Rattle.life_typed.specs.Programs.{FunctionForm, ProgramForm, is_main}
use Rattle.life_names.specs.Environment.{SignatureView, unseen_names}
use Rattle.life_names.specs.declared.environment.Entity.TheVariants as entity
use Rattle.life_typing.specs.Functions.{with_function}
use Rattle.life_typing.specs.Names.{DeclaredView}
use Rattle.life_typing.specs.Progress.{ProgressView, nothing_defined}
use Rattle.life_typing.specs.Resolves.{bodies_of, finished, no_flags, resolved, texts_of, with_definitions}
use Rattle.life_typing.specs.Structs.{with_structure}
use Rattle.life_well_typed.specs.Functions.{AreWellTyped, IsWellTyped, IsWellTypedFunction}
use Rattle.life_well_typed.specs.Mains.{HasIntMain, HaveIntMains}
use Rattle.life_well_typed.specs.Results.{HasResults, HasTable, HaveResults, HaveVariables}
use Rattle.life_well_typed.specs.Tables.{AreVariables, HasObjects, HasTarget}
use Rattle.life_typing_laws.proofs.BodiesCome.{BodiesCome, all_flags_size, bodies_come_on, flag_comes, no_flag}
use Rattle.life_typing_laws.proofs.Each.{EachHolds}
use Rattle.life_typing_laws.proofs.Growing.{grows_not}
use Rattle.life_well_typed.proofs.Once.{once_more}
use Rattle.life_typing_laws.proofs.Known.{HasBody, HasInEnd, KnownAt}
use Rattle.life_typing_laws.proofs.Steps.{answered, same_some, same_answer}
use Rattle.life_typing_laws.proofs.StructsDefined.{StructWent, bodies_come_then, struct_went}
use Rattle.life_typing_laws.proofs.Visible.{IsUnderway}
use Rattle.life_typing_laws.proofs.Went.{Went, function_went}

-- ---- at the beginning

held_at : {A : Type 0} (Holds : A → Type 0) (xs : List A) (n : ℕ) (x : A) → EachHolds Holds xs → slice_get xs n ≡ Some x → Holds x
held_at Holds [] n x all e = absurd (cc)
held_at Holds (y ∷ ys) zero x all e = subst Holds (same_some y x e) all.0
held_at Holds (y ∷ ys) (suc n) x all e = held_at Holds ys n x all.1 e

nothing_there : {A : Type 0} (n : ℕ) (x : A) → slice_get [] n ≡ Some x → ⊥
nothing_there n x e = cc

base_ordered : IsOrdered base_types
base_ordered = record {
  parts = λ n t e. held_at (λ (u : Ty). HasPartsBelow base_types n u) base_types.types n t (tt, (tt, (tt, (tt, (tt, (tt, (tt, (tt, tt)))))))) e;
  members = λ n ids e. absurd (nothing_there n ids e);
}

no_local : (names : List (List ℕ)) (k n : ℕ) → slice_get (unseen_names names) k ≡ Some (entity.Local n) → ⊥
no_local [] k n e = cc
no_local (name ∷ names) zero n e = cc
no_local (name ∷ names) (suc k) n e = no_local names k n e

no_function : (names : List (List ℕ)) (k n : ℕ) → slice_get (unseen_names names) k ≡ Some (entity.Function n) → ⊥
no_function [] k n e = cc
no_function (name ∷ names) zero n e = cc
no_function (name ∷ names) (suc k) n e = no_function names k n e

names_count : (names : List (List ℕ)) → length (unseen_names names) ≡ length (no_flags names)
names_count [] = refl
names_count (name ∷ names) = ap suc (names_count names)

begins : (tree : Program) → IsUnderway (bodies_of tree) (nothing_defined (texts_of tree))
begins tree = record {
  sound = record {
    ordered = base_ordered;
    based = grows_not base_types;
    structs_there = λ n s e. absurd (nothing_there n s e);
    structs_count = refl;
    locals_there = λ n l e. absurd (nothing_there n l e);
    results_there = λ n s e. absurd (nothing_there n s e);
    parameters_there = λ n s e. absurd (nothing_there n s e);
    declared = refl;
    visible = λ k n e. absurd (no_local (texts_of tree) k n e);
  };
  known = record { forms_count = refl; declared_count = refl; each = λ n s e. absurd (nothing_there n s e) };
  named = λ k n e. absurd (no_function (texts_of tree) k n e);
  size = names_count (texts_of tree) ∙ sym (all_flags_size tree.definitions.items (no_flags (texts_of tree)));
  structs = tt;
}

all_come : (tree : Program) → BodiesCome (bodies_of tree) (nothing_defined (texts_of tree)) tree.definitions.items
all_come tree = record {
  flagged = λ k e. ⊎_elim (λ old. absurd (no_flag (texts_of tree) k old)) (λ comes. inr comes) (flag_comes tree.definitions.items (no_flags (texts_of tree)) k e);
  pending = λ m d e none. absurd (nothing_there m d e);
}

-- ---- along the definitions

pub record Ends (bodies : List Bool) (names : List (List ℕ)) (q : ProgressView) : Type 0 where
  pub texts : q.scope.names ≡ names
  pub under : IsUnderway bodies q
  pub come : BodiesCome bodies q []

goes_on : (bodies : List Bool) (names : List (List ℕ)) (ds : List Definition) (p q : ProgressView) → p.scope.names ≡ names → IsUnderway bodies p → BodiesCome bodies p ds → with_definitions bodies ds p ≡ Ok q → Ends bodies names q
goes_on bodies names [] p q texts under come e = subst (Ends bodies names) (same_answer p q e) (record { texts = texts; under = under; come = come })
goes_on bodies names (definition.Function f ∷ ds) p q texts under come e =
    let step = answered (with_function bodies f p) (with_definitions bodies ds) q e in
    let went : Went bodies f p step.value = function_went bodies f p step.value under step.gave in
    goes_on bodies names ds step.value q (went.texts ∙ texts) went.under (bodies_come_on bodies f ds p step.value come went) step.behind
goes_on bodies names (definition.Struct s ∷ ds) p q texts under come e =
    let step = answered (with_structure s p) (with_definitions bodies ds) q e in
    let went : StructWent bodies p step.value = struct_went bodies s p step.value under step.gave in
    goes_on bodies names ds step.value q (went.texts ∙ texts) went.under (bodies_come_then bodies s ds p step.value come went) step.behind

-- ---- at the end

each_gives : (types : Types) (fs : List FunctionForm) → ((n : ℕ) (f : FunctionForm) → slice_get fs n ≡ Some f → HasType types f.result) → HaveResults types fs
each_gives types [] gives = tt
each_gives types (f ∷ fs) gives = (gives 0 f refl, each_gives types fs (λ n g e. gives (suc n) g e))

each_int : (names : List (List ℕ)) (types : Types) (fs : List FunctionForm) → ((n : ℕ) (f : FunctionForm) → slice_get fs n ≡ Some f → is_main names f.name ≡ true → type_at types f.result ≡ ty.Int) → HaveIntMains names types fs
each_int names types [] int = tt
each_int names types (f ∷ fs) int = (int 0 f refl, each_int names types fs (λ n g e. int (suc n) g e))

each_variables : (types : Types) (fs : List FunctionForm) → ((n : ℕ) (f : FunctionForm) → slice_get fs n ≡ Some f → AreVariables types f.locals) → HaveVariables types fs
each_variables types [] are = tt
each_variables types (f ∷ fs) are = (are 0 f refl, each_variables types fs (λ n g e. are (suc n) g e))

each_well : (p : ProgramForm) (fs : List FunctionForm) → ((n : ℕ) (f : FunctionForm) → slice_get fs n ≡ Some f → IsWellTypedFunction p f) → AreWellTyped p fs
each_well p [] well = tt
each_well p (f ∷ fs) well = (well 0 f refl, each_well p fs (λ n g e. well (suc n) g e))

-- the types without parts stand once
base_once : HasEachOnce base_types
base_once =
    once_more [] (ty.Void ∷ ty.Bool ∷ ty.Char ∷ ty.Int ∷ ty.Long ∷ ty.Size ∷ ty.Text ∷ []) ty.View refl
    (once_more [] (ty.Void ∷ ty.Bool ∷ ty.Char ∷ ty.Int ∷ ty.Long ∷ ty.Size ∷ []) ty.Text refl
    (once_more [] (ty.Void ∷ ty.Bool ∷ ty.Char ∷ ty.Int ∷ ty.Long ∷ []) ty.Size refl
    (once_more [] (ty.Void ∷ ty.Bool ∷ ty.Char ∷ ty.Int ∷ []) ty.Long refl
    (once_more [] (ty.Void ∷ ty.Bool ∷ ty.Char ∷ []) ty.Int refl
    (once_more [] (ty.Void ∷ ty.Bool ∷ []) ty.Char refl
    (once_more [] (ty.Void ∷ []) ty.Bool refl
    (once_more [] [] ty.Void refl (λ m n t here there. absurd (nothing_at m t here)))))))))
  where
    nothing_at : (m : ℕ) (t : Ty) → ◌≡◌ {A = Option Ty} None (Some t) → ⊥
    nothing_at m t e = cc

-- .. and are made of nothing
base_objects : HasObjects base_types
base_objects = record {
  targets = λ n t e. held_at (λ (u : Ty). HasTarget base_types u) base_types.types n t (tt, (tt, (tt, (tt, (tt, (tt, (tt, (tt, tt)))))))) e;
  members = λ n ids e. absurd (nothing_there n ids e);
}

-- all that is known of a resolved program
abbrev pub IsWhole : ProgramForm → Type 0
IsWhole p = IsWellTyped p × (HasResults p × (HasIntMain p × HasTable p))

module _ (tree : Program) (q : ProgressView) (ends : Ends (bodies_of tree) (texts_of tree) q) where
  abbrev p : ProgramForm
  p = finished tree q

  -- each has its body
  has_body_now : (n : ℕ) (d : DeclaredView) → slice_get q.declared n ≡ Some d → d.has_body ≡ true
  has_body_now n d e = go d.has_body refl
    where
      go : (b : Bool) → d.has_body ≡ b → d.has_body ≡ true
      go true is = is
      go false is = absurd ((ends.come.pending n d e is).comes)

  body_now : (n : ℕ) (s : SignatureView) (k : KnownAt q.scope.names q.types q.scope.functions q.functions q.declared n s) → HasBody q.scope.names q.types q.scope.functions k.form s
  body_now n s k = k.is.body (has_body_now n k.declared k.declared_there)

  in_end : HasInEnd p q.scope.names q.types q.scope.functions
  in_end = record {
    named = sym ends.texts;
    grown = grows_not q.types;
    functions = λ n s e.
        let k = ends.under.known.each n s e in
        record { form = k.form; there = k.form_there; result = k.is.result; parameters = (body_now n s k).parameters };
  }

  -- .. and the table has the type of what it gives back
  function_gives : (n : ℕ) (f : FunctionForm) → slice_get q.functions n ≡ Some f → HasType q.types f.result
  function_gives n f e =
      let found : IsThere q.scope.functions n = within q.scope.functions n (omega (arith, slice_get_within q.functions n f e, ends.under.known.forms_count)) in
      let k = ends.under.known.each n found.item found.there in
      let same : found.item.result ≡ f.result = sym k.is.result ∙ ap (λ (g : FunctionForm). g.result) (same_some k.form f (sym k.form_there ∙ e)) in
      subst (λ (id : TyId). HasType q.types id) same (ends.under.sound.results_there n found.item found.there)

  function_variables : (n : ℕ) (f : FunctionForm) → slice_get q.functions n ≡ Some f → AreVariables q.types f.locals
  function_variables n f e =
      let found : IsThere q.scope.functions n = within q.scope.functions n (omega (arith, slice_get_within q.functions n f e, ends.under.known.forms_count)) in
      let k = ends.under.known.each n found.item found.there in
      subst (λ (g : FunctionForm). AreVariables q.types g.locals) (same_some k.form f (sym k.form_there ∙ e)) (body_now n found.item k).variables

  function_well : (n : ℕ) (f : FunctionForm) → slice_get q.functions n ≡ Some f → IsWellTypedFunction p f
  function_well n f e =
      let found : IsThere q.scope.functions n = within q.scope.functions n (omega (arith, slice_get_within q.functions n f e, ends.under.known.forms_count)) in
      let k = ends.under.known.each n found.item found.there in
      subst (IsWellTypedFunction p) (same_some k.form f (sym k.form_there ∙ e)) ((body_now n found.item k).is p in_end)

  -- `main` gives back an int
  int_main : (n : ℕ) (f : FunctionForm) → slice_get q.functions n ≡ Some f → is_main p.names f.name ≡ true → type_at q.types f.result ≡ ty.Int
  int_main n f e is =
      let found : IsThere q.scope.functions n = within q.scope.functions n (omega (arith, slice_get_within q.functions n f e, ends.under.known.forms_count)) in
      let k = ends.under.known.each n found.item found.there in
      let same : k.form ≡ f = same_some k.form f (sym k.form_there ∙ e) in
      let named : is_main q.scope.names k.form.name ≡ true = ap (λ (g : FunctionForm). is_main q.scope.names g.name) same ∙ ap (λ (ns : List (List ℕ)). is_main ns f.name) ends.texts ∙ is in
      ap (λ (g : FunctionForm). type_at q.types g.result) (sym same) ∙ ap (type_at q.types) (k.is.main named) ∙ ap (λ (o : Option Ty). unwrap_or o ty.Void) (ends.under.sound.based.types 3 ty.Int refl)

  -- each type of the table comes behind its parts and stands once
  table_well : HasTable p
  table_well = record {
    ordered = ends.under.sound.ordered;
    once = ends.under.sound.based.once base_once;
    chars = ap (λ (o : Option Ty). unwrap_or o ty.Void) (ends.under.sound.based.types 2 ty.Char refl);
    structs = ends.under.structs;
    objects = ends.under.sound.based.objects base_objects;
    variables = each_variables p.types q.functions function_variables;
  }

  all_well : IsWhole p
  all_well = (each_well p q.functions function_well, (each_gives q.types q.functions function_gives, (each_int p.names q.types q.functions int_main, table_well)))

pub resolved_well_typed : (tree : Program) (p : ProgramForm) → resolved tree ≡ Ok p → IsWhole p
resolved_well_typed tree p e =
    let step = answered (with_definitions (bodies_of tree) tree.definitions.items (nothing_defined (texts_of tree))) (λ q. Ok (finished tree q)) p e in
    subst IsWhole (same_answer (finished tree step.value) p step.behind) (all_well tree step.value
    (goes_on (bodies_of tree) (texts_of tree) tree.definitions.items (nothing_defined (texts_of tree)) step.value refl (begins tree) (all_come tree) step.gave))
