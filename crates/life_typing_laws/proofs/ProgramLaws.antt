-- Functions and whole files: where a tree's names are in a table of so many, so are those of what is resolved of it, and no two functions have one.
use Rattle.std.proofs.Common.{◌≡◌, ℕ, ◌-◌, ◌^◌, zero, suc, Bool, true, not, List, [], ◌∷◌, ◌++◌, length, map, nat_lt, Option, None, Some, refl, slice_get, slice_set, sym, subst, ◌∙◌}
use Rattle.std.proofs.lemmas.Bool.{and_from, and_parts, ltb-true}
use Rattle.std.proofs.lemmas.List.{length-map}
use Rattle.std.proofs.lemmas.List.Folds.{list_all-append}
use Rattle.std.specs.List.{list_all}
use Rattle.life_types.specs.declared.place.Place.{Place}
use Rattle.life_types.specs.declared.ty.TyId.{TyId}
use Rattle.life_keys.specs.NamedTokens.{are_named}
use Rattle.life_tree.specs.Tree.{tokens_of}
use Rattle.life_tree.specs.Views.{body_tree, definition_tree, function_tree, later_tree, block_tree, list_tree, parameter_tree, program_tree, separated_tree}
use Rattle.life_tree.specs.declared.function.Function.{Function}
use Rattle.life_tree.specs.declared.function.FunctionBody.{FunctionBody}
use Rattle.life_tree.specs.declared.function.FunctionBody.TheVariants as function_body
use Rattle.life_tree.specs.declared.function.Parameter.{Parameter}
use Rattle.life_tree.specs.declared.program.Definition.{Definition}
use Rattle.life_tree.specs.declared.program.Definition.TheVariants as definition
use Rattle.life_tree.specs.declared.program.Program.{Program}
use Rattle.life_tree.specs.declared.program.StructDefinition.{StructDefinition}
use Rattle.life_typed.specs.Programs.{FunctionForm, ProgramForm}
use Rattle.life_typed.specs.TypedStatement.{StmtForm}
use Rattle.life_typed.specs.declared.typed_program.TypedLocal.{TypedLocal}
use Rattle.life_names.specs.Environment.{Scope, StructureView, meaning, text_items, without_locals}
use Rattle.life_names.specs.declared.environment.Entity.{Entity}
use Rattle.life_names.specs.declared.environment.Entity.TheVariants as entity
use Rattle.life_names.specs.declared.fault.IllKind.TheVariants as kinds
use Rattle.life_type_stmt.specs.Ends.{block_ends}
use Rattle.life_typing.specs.Functions.{PartsView, behind_header_as, body_kept, changed, changed_at, declared, declared_first, header_with, sound_header, with_first, with_function, with_parameters_forgotten, without_body}
use Rattle.life_typing.specs.Headers as headers
use Rattle.life_typing.specs.Names.{is_main}
use Rattle.life_typing.specs.Parameters.{declared_behind, is_seen, known_or_void, parameter_local, parameters_forgotten}
use Rattle.life_typing.specs.Pieces.{pieces}
use Rattle.life_typing.specs.Progress.{ProgressView, nothing_defined}
use Rattle.life_typing.specs.Resolves.{bodies_of, finished, resolved, texts_of, with_definition, with_definitions}
use Rattle.life_typing.specs.Structs.{added_unless_empty, found_structure, member_types, named_structure, types_of, unless, with_structure}
use Rattle.life_well_typed.specs.Names.{have_own_names, is_function_named, is_local_named}
use Rattle.life_typing_laws.proofs.Bodies.{body_said}
use Rattle.life_typing_laws.proofs.Domains.{Piece}
use Rattle.life_typing_laws.proofs.Each.{EachHolds}
use Rattle.life_typing_laws.proofs.FunctionsMeant.{AreMeant, function_meant, structure_meant}
use Rattle.life_typing_laws.proofs.HeaderTypes.{by_seen}
use Rattle.life_typing_laws.proofs.Behind.{LocalsNamed, NamedBehind, local_named}
use Rattle.life_typing_laws.proofs.NamedTrees.{IsNamedTree, tree_named}
use Rattle.life_typing_laws.proofs.OwnNames.{meant_own_names, nothing_meant}
use Rattle.life_typing_laws.proofs.StatementLaws.{Said}
use Rattle.life_typing_laws.proofs.Yields.{Finds, finds_behind, finds_if, finds_none, finds_ok, finds_then}

-- ---- functions of which a test holds

module _ (test : FunctionForm → Bool) where
  abbrev All : List FunctionForm → Type 0
  All fs = list_all test fs ≡ true

  more_all : (fs : List FunctionForm) (f : FunctionForm) → All fs → test f ≡ true → All (fs ++ f ∷ [])
  more_all fs f all one = list_all-append test fs (f ∷ []) ∙ and_from (list_all test fs) (list_all test (f ∷ [])) all (and_from (test f) true one refl)

  set_all : (fs : List FunctionForm) (n : ℕ) (f : FunctionForm) → All fs → test f ≡ true → All (slice_set fs n f)
  set_all [] n f all one = all
  set_all (g ∷ gs) zero f all one = and_from (test f) (list_all test gs) one (and_parts (test g) (list_all test gs) all).1
  set_all (g ∷ gs) (suc n) f all one = let both = and_parts (test g) (list_all test gs) all in and_from (test g) (list_all test (slice_set gs n f)) both.0 (set_all gs n f both.1 one)

  all_at : (fs : List FunctionForm) (n : ℕ) (f : FunctionForm) → All fs → slice_get fs n ≡ Some f → test f ≡ true
  all_at [] n f all e = absurd (cc)
  all_at (g ∷ gs) zero f all e = let same : g ≡ f = cc in subst (λ (h : FunctionForm). test h ≡ true) same (and_parts (test g) (list_all test gs) all).0
  all_at (g ∷ gs) (suc n) f all e = all_at gs n f (and_parts (test g) (list_all test gs) all).1 e

  -- one is changed into what passes, if it does
  changed_all : (n : ℕ) (change : FunctionForm → FunctionForm) → ((f : FunctionForm) → test f ≡ true → test (change f) ≡ true) → (fs : List FunctionForm) → All fs → All (changed n change fs)
  changed_all n change passes fs all = of (slice_get fs n) refl
    where
      of : (o : Option FunctionForm) → slice_get fs n ≡ o → All (changed_at n change fs o)
      of None is = all
      of (Some f) is = set_all fs n (change f) all (passes f (all_at fs n f all is))

-- ---- with names in a table of so many

-- a function with this body and these variables
abbrev bodied : Place → List TypedLocal → StmtForm → FunctionForm → FunctionForm
bodied place locals found f = record f { place = place; locals = locals; body = found }

module _ (names : ℕ) where
  bodied_named : (place : Place) (locals : List TypedLocal) (found : StmtForm) → LocalsNamed names locals → (f : FunctionForm) → is_function_named names f ≡ true → is_function_named names (bodied place locals found f) ≡ true
  bodied_named place locals found kept f one = and_from (nat_lt f.name.0 names) (list_all (is_local_named names) locals) (and_parts (nat_lt f.name.0 names) (list_all (is_local_named names) f.locals) one).0 kept

  each_parameter : (known : List TyId) (ps : List Parameter) → EachHolds (λ (q : Parameter). nat_lt q.name.id.0 names ≡ true) ps → (hides : List Bool) (scope : Scope) → LocalsNamed names scope.locals
      → Finds (NamedBehind (List Bool) names) (declared_behind hides known ps scope)
  each_parameter known [] named hides scope all = finds_ok (NamedBehind (List Bool) names) (hides, scope) all
  each_parameter known (q ∷ ps) named hides scope all =
      finds_then (NamedBehind ℕ names) (NamedBehind (List Bool) names) _ _ (local_named names (parameter_local q (known_or_void known (length hides))) scope named.0 all) (λ x kept.
      each_parameter known ps named.1 (hides ++ is_seen scope q.name.id ∷ []) x.1 kept)

  later_parameters : (commas : List Place) (ps : List Parameter) → IsNamedTree names (later_tree commas (map parameter_tree ps)) → EachHolds (λ (q : Parameter). nat_lt q.name.id.0 names ≡ true) ps
  later_parameters commas [] named = tt
  later_parameters [] (q ∷ ps) named = (named.0.1.1, later_parameters [] ps named.1)
  later_parameters (comma ∷ commas) (q ∷ ps) named = (named.0.1.1.1, later_parameters commas ps named.1)

  parameters_named : (commas : List Place) (ps : List Parameter) → IsNamedTree names (separated_tree commas (map parameter_tree ps)) → EachHolds (λ (q : Parameter). nat_lt q.name.id.0 names ≡ true) ps
  parameters_named commas [] named = tt
  parameters_named commas (q ∷ ps) named = (named.0.1.1, later_parameters commas ps named.1)

  -- their names are forgotten
  still_named : (ps : List Parameter) (scope : Scope) → LocalsNamed names scope.locals → LocalsNamed names (parameters_forgotten ps scope).locals
  still_named [] scope all = all
  still_named (q ∷ ps) scope all = still_named ps _ all

-- ---- definitions

-- behind what has names in a table of so many, if so much is known: the functions so far, and the variables of the one at hand
module _ (names : ℕ) (Named : Type 0) where
  abbrev IsSoFar : ProgressView → Type 0
  IsSoFar p = Named → All (is_function_named names) p.functions × LocalsNamed names p.scope.locals

  -- .. of what has this scope and so many functions
  abbrev IsBeside : {A : Type 0} → A × ProgressView → Type 0
  IsBeside x = IsSoFar x.1

  abbrev AreNamedBehind : {A : Type 0} → A × Scope → Type 0
  AreNamedBehind x = Named → LocalsNamed names x.1.locals

  header_so_far : (bodies : List Bool) (before : Entity) (f : Function) (p : ProgressView) (h : headers.Header) → (Named → EachHolds (λ (q : Parameter). nat_lt q.name.id.0 names ≡ true) f.parameters.items) → IsSoFar p
      → Finds (IsBeside {A = PartsView}) (header_with bodies before f p h)
  header_so_far bodies before f p (headers.sound returned known types) named so_far =
      finds_then (AreNamedBehind {A = List Piece}) (IsBeside {A = PartsView}) _ _
      (finds_then (AreNamedBehind {A = List Bool}) (AreNamedBehind {A = List Piece}) _ _ (λ x e n. each_parameter names known.types f.parameters.items (named n) [] p.scope (so_far n).1 x e) (λ x kept.
      finds_behind (AreNamedBehind {A = List Piece}) _ _ (λ y. finds_ok (AreNamedBehind {A = List Piece}) (pieces x.1 f, x.1) kept)))
      (λ x kept. finds_ok (IsBeside {A = PartsView}) (sound_header returned known types p x) (λ n. ((so_far n).0, kept n)))
  header_so_far bodies before f p (headers.ill_at returned known fault) named so_far = finds_behind (IsBeside {A = PartsView}) _ _ (λ x. finds_none (IsBeside {A = PartsView}) fault)

  -- a function is declared for the first time
  first_so_far : (f : Function) (h : PartsView) (p : ProgressView) → (Named → nat_lt f.name.id.0 names ≡ true) → IsSoFar p → Finds (IsBeside {A = ℕ}) (declared_first f h p)
  first_so_far f h p named so_far =
      finds_then (AreNamedBehind {A = ℕ}) (IsBeside {A = ℕ}) _ _ (finds_if (AreNamedBehind {A = ℕ}) (nat_lt (length p.scope.functions) (2 ^ 32 - 1)) _ _ (λ n. (so_far n).1)) (λ x kept.
      finds_ok (IsBeside {A = ℕ}) (x.0, record (with_first f h p) { scope = x.1 })
      (λ n. (more_all (is_function_named names) p.functions (without_body f h.returned p.scope) (so_far n).0 (and_from (nat_lt f.name.id.0 names) true (named n) refl), kept n)))

  declared_so_far : (before : Entity) (f : Function) (h : PartsView) (p : ProgressView) → (Named → nat_lt f.name.id.0 names ≡ true) → IsSoFar p → Finds (IsBeside {A = ℕ}) (declared before f h p)
  declared_so_far (entity.Function number) f h p named so_far = finds_ok (IsBeside {A = ℕ}) (number, p) so_far
  declared_so_far entity.Unseen f h p named so_far = first_so_far f h p named so_far
  declared_so_far (entity.Structure number) f h p named so_far = first_so_far f h p named so_far
  declared_so_far (entity.Local number) f h p named so_far = first_so_far f h p named so_far

  behind_so_far : (b : FunctionBody) (f : Function) (number : ℕ) (returned : TyId) (p : ProgressView) → (Named → IsNamedTree names (body_tree b)) → IsSoFar p
      → Finds IsSoFar (behind_header_as b f number returned p)
  behind_so_far (function_body.Block b) f number returned p named so_far =
      finds_then (λ x. Said (λ n. IsNamedTree n (block_tree b)) (block_ends b) [] p.scope x.0) IsSoFar _ _ (λ x gave. body_said returned (is_main p.scope f.name.id) b p.scope p.types x gave) (λ x said.
      finds_ok IsSoFar (body_kept f number p x.0.0 x.0.1 x.1)
      (λ n. (changed_all (is_function_named names) number (bodied f.name.place x.0.1.locals x.0.0) (bodied_named names f.name.place x.0.1.locals x.0.0 (said.named names (named n) (so_far n).1)) p.functions (so_far n).0, refl)))
  behind_so_far (function_body.Declared place) f number returned p named so_far = finds_ok IsSoFar (record p { scope = without_locals p.scope }) (λ n. ((so_far n).0, refl))

  function_so_far : (bodies : List Bool) (f : Function) (p : ProgressView) → (Named → IsNamedTree names (function_tree f)) → IsSoFar p → Finds IsSoFar (with_function bodies f p)
  function_so_far bodies f p named so_far =
      finds_then (IsBeside {A = PartsView}) IsSoFar _ _
      (header_so_far bodies (meaning p.scope f.name.id) f (record p { scope = headers.function_seen f p.scope }) (headers.header_types p.pointing f p.scope p.types)
      (λ n. parameters_named names f.commas.items f.parameters.items (named n).1.1.1.0.0) (λ n. ((so_far n).0, by_seen f p.scope (λ (s : Scope). LocalsNamed names s.locals) (so_far n).1 (so_far n).1))) (λ x h.
      finds_then (IsBeside {A = ℕ}) IsSoFar _ _ (declared_so_far (meaning p.scope f.name.id) f x.0 x.1 (λ n. (named n).1.1.0) h) (λ y d.
      finds_then IsSoFar IsSoFar _ _ (behind_so_far f.body f y.0 x.0.returned y.1 (λ n. (named n).1.1.1.1) d) (λ z b.
      finds_ok IsSoFar (with_parameters_forgotten f z) (λ n. ((b n).0, still_named names f.parameters.items z.scope (b n).1)))))

  -- structs have no bodies and no variables
  structure_so_far : (s : StructDefinition) (p : ProgressView) → IsSoFar p → Finds IsSoFar (with_structure s p)
  structure_so_far s p so_far =
      finds_then (IsBeside {A = StructureView}) IsSoFar (found_structure s p) (named_structure s)
      (finds_behind (IsBeside {A = StructureView}) (unless (not (is_seen p.scope s.name.id)) kinds.Redeclared s.name.place) _ (λ _.
      finds_behind (IsBeside {A = StructureView}) (member_types s.members.items p.scope p.types) _ (λ x.
      finds_behind (IsBeside {A = StructureView}) (added_unless_empty s.name.place (types_of x.0) x.1) _ (λ y. finds_ok (IsBeside {A = StructureView}) _ so_far))))
      (λ x d. finds_then (AreNamedBehind {A = ℕ}) IsSoFar _ _ (finds_if (AreNamedBehind {A = ℕ}) (nat_lt (length x.1.scope.structs) (2 ^ 32 - 1)) _ _ (λ n. (d n).1)) (λ y kept. finds_ok IsSoFar _ (λ n. ((d n).0, kept n))))

  -- .. and each function is what its name means
  abbrev IsBetween : ProgressView → Type 0
  IsBetween p = IsSoFar p × (Named → AreMeant names [] p)

  definition_so_far : (bodies : List Bool) (d : Definition) (p : ProgressView) → (Named → IsNamedTree names (definition_tree d)) → IsBetween p → Finds IsBetween (with_definition bodies d p)
  definition_so_far bodies (definition.Struct s) p named so_far q e = (structure_so_far s p so_far.0 q e, λ n. structure_meant names s p (so_far.1 n) q e)
  definition_so_far bodies (definition.Function f) p named so_far q e =
      (function_so_far bodies f p named so_far.0 q e, λ n. function_meant names bodies f p (ltb-true f.name.id.0 names (named n).1.1.0) (so_far.1 n) q e)

  definitions_so_far : (bodies : List Bool) (ds : List Definition) (p : ProgressView) → (Named → IsNamedTree names (list_tree (map definition_tree ds))) → IsBetween p → Finds IsBetween (with_definitions bodies ds p)
  definitions_so_far bodies [] p named so_far = finds_ok IsBetween p so_far
  definitions_so_far bodies (d ∷ ds) p named so_far =
      finds_then IsBetween IsBetween _ _ (definition_so_far bodies d p (λ n. (named n).0) so_far) (λ q more. definitions_so_far bodies ds q (λ n. (named n).1) more)

-- ---- files

abbrev count_of : Program → ℕ
count_of tree = length tree.names.items

abbrev IsOf : Program → ProgressView → Type 0
IsOf tree = IsBetween (count_of tree) (IsNamedTree (count_of tree) (program_tree tree))

so_far : (tree : Program) → Finds (IsOf tree) (with_definitions (bodies_of tree) tree.definitions.items (nothing_defined (texts_of tree)))
so_far tree =
    definitions_so_far (count_of tree) (IsNamedTree (count_of tree) (program_tree tree)) (bodies_of tree) tree.definitions.items (nothing_defined (texts_of tree)) (λ named. named)
    (λ named. (refl, refl), λ named. nothing_meant tree)

-- .. in a program's table; and no two functions have one name
abbrev HasNamedFunctions : ProgramForm → Type 0
HasNamedFunctions p = (list_all (is_function_named (length p.names)) p.functions ≡ true) × (have_own_names p.functions ≡ true)

pub resolved_named : (tree : Program) → are_named (count_of tree) (tokens_of (program_tree tree)) ≡ true → Finds HasNamedFunctions (resolved tree)
resolved_named tree tokens =
    let named = tree_named (count_of tree) (program_tree tree) tokens in
    finds_then (IsOf tree) HasNamedFunctions _ _ (so_far tree) (λ q all.
    finds_ok HasNamedFunctions (finished tree q) (subst (λ n. list_all (is_function_named n) q.functions ≡ true) (sym (length-map tree.names.items text_items)) (all.0 named).0, meant_own_names (count_of tree) q (all.1 named)))
