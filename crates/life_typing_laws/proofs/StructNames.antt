-- The members of structs: where a tree's names are in a table of so many, so are theirs.
use Rattle.std.proofs.Common.{◌≡◌, ℕ, Bool, true, not, List, [], ◌∷◌, ◌++◌, length, map, nat_lt, refl, sym, ap, subst, ◌∙◌}
use Rattle.std.proofs.lemmas.Bool.{and_from}
use Rattle.std.proofs.lemmas.List.{length-map}
use Rattle.std.proofs.lemmas.List.Folds.{list_all-append}
use Rattle.std.specs.List.{list_all}
use Rattle.life_types.specs.Types.{Types}
use Rattle.life_types.specs.declared.ty.NameId.{NameId}
use Rattle.life_types.specs.declared.ty.TyId.{TyId}
use Rattle.life_keys.specs.NamedTokens.{are_named}
use Rattle.life_tree.specs.Tree.{tokens_of}
use Rattle.life_tree.specs.Views.{definition_tree, list_tree, member_tree, program_tree, struct_tree}
use Rattle.life_tree.specs.declared.function.Function.{Function}
use Rattle.life_tree.specs.declared.function.FunctionBody.{FunctionBody}
use Rattle.life_tree.specs.declared.function.FunctionBody.TheVariants as function_body
use Rattle.life_tree.specs.declared.program.Definition.{Definition}
use Rattle.life_tree.specs.declared.program.Definition.TheVariants as definition
use Rattle.life_tree.specs.declared.program.Member.{Member}
use Rattle.life_tree.specs.declared.program.Program.{Program}
use Rattle.life_tree.specs.declared.program.StructDefinition.{StructDefinition}
use Rattle.life_typed.specs.Programs.{ProgramForm, StructForm}
use Rattle.life_names.specs.Environment.{Scope, StructureView, text_items}
use Rattle.life_names.specs.declared.environment.MemberType.{MemberType}
use Rattle.life_names.specs.declared.fault.IllKind.TheVariants as kinds
use Rattle.life_typing.specs.Functions.{behind_header_as, body_kept, with_function}
use Rattle.life_typing.specs.Parameters.{is_seen}
use Rattle.life_typing.specs.Progress.{ProgressView, nothing_defined}
use Rattle.life_typing.specs.Resolves.{bodies_of, finished, resolved, texts_of, with_definitions}
use Rattle.life_typing.specs.Structs.{added_unless_empty, found_structure, member_type, member_types, members_behind, name_added, named_structure, names_of, structure_form, types_of, unless, with_structure}
use Rattle.life_well_typed.specs.Names.{is_name, is_struct_named}
use Rattle.life_typing_laws.proofs.Declaring.{by_way, function_is}
use Rattle.life_typing_laws.proofs.Each.{EachHolds}
use Rattle.life_typing_laws.proofs.NamedTrees.{IsNamedTree, tree_named}
use Rattle.life_typing_laws.proofs.Yields.{Finds, finds_behind, finds_ok, finds_then}

-- ---- functions add no structs

abbrev SameStructs : ProgressView → ProgressView → Type 0
SameStructs p q = q.structs ≡ p.structs

behind_structs : (b : FunctionBody) (f : Function) (number : ℕ) (returned : TyId) (p : ProgressView) → Finds (SameStructs p) (behind_header_as b f number returned p)
behind_structs (function_body.Block b) f number returned p = finds_behind (SameStructs p) _ _ (λ x. finds_ok (SameStructs p) (body_kept f number p x.0.0 x.0.1 x.1) refl)
behind_structs (function_body.Declared place) f number returned p = finds_ok (SameStructs p) _ refl

function_structs : (bodies : List Bool) (f : Function) (p : ProgressView) → Finds (SameStructs p) (with_function bodies f p)
function_structs bodies f p q e =
    let it = function_is bodies f p q e in
    let declared : it.y.1.structs ≡ p.structs = by_way it.h (λ y. y.1.structs ≡ p.structs) (λ number is agree. refl) (λ flagged unseen. refl) it.y it.declared in
    let behind : it.z.structs ≡ it.y.1.structs = behind_structs f.body f it.y.0 it.h.returned.ty it.y.1 it.z it.behind in
    ap (λ (u : ProgressView). u.structs) (sym it.is) ∙ behind ∙ declared

-- ---- members

module _ (names : ℕ) where
  abbrev NamesFound : List MemberType × Types → Type 0
  NamesFound x = list_all (is_name names) (names_of x.0) ≡ true

  each_named : (ms : List Member) → IsNamedTree names (list_tree (map member_tree ms)) → EachHolds (λ (m : Member). nat_lt m.name.id.0 names ≡ true) ms
  each_named [] named = tt
  each_named (m ∷ ms) named = (named.0.1.0, each_named ms named.1)

  members_named : (before : List NameId) (ms : List Member) (scope : Scope) (types : Types) → EachHolds (λ (m : Member). nat_lt m.name.id.0 names ≡ true) ms → Finds NamesFound (members_behind before ms scope types)
  members_named before [] scope types named = finds_ok NamesFound ([], types) refl
  members_named before (m ∷ ms) scope types named =
      finds_behind NamesFound (member_type m scope types) _ (λ x.
      finds_behind NamesFound (name_added before m.name) _ (λ seen.
      finds_then NamesFound NamesFound (members_behind seen ms scope x.1) _ (members_named seen ms scope x.1 named.1) (λ xs kept.
      finds_ok NamesFound (record { name = m.name.id; ty = x.0 } ∷ xs.0, xs.1) (and_from (nat_lt m.name.id.0 names) (list_all (is_name names) (names_of xs.0)) named.0 kept))))

  -- ---- structs

  abbrev StructsNamed : ProgressView → Type 0
  StructsNamed p = list_all (is_struct_named names) p.structs ≡ true

  abbrev FoundNamed : StructureView × ProgressView → Type 0
  FoundNamed x = (list_all (is_name names) (names_of x.0.members) ≡ true) × StructsNamed x.1

  more_named : (ss : List StructForm) (s : StructForm) → list_all (is_struct_named names) ss ≡ true → is_struct_named names s ≡ true → list_all (is_struct_named names) (ss ++ s ∷ []) ≡ true
  more_named ss s all one =
      list_all-append (is_struct_named names) ss (s ∷ []) ∙ and_from (list_all (is_struct_named names) ss) (list_all (is_struct_named names) (s ∷ [])) all (and_from (is_struct_named names s) true one refl)

  struct_named : (s : StructDefinition) (p : ProgressView) → IsNamedTree names (struct_tree s) → StructsNamed p → Finds StructsNamed (with_structure s p)
  struct_named s p named so_far =
      finds_then FoundNamed StructsNamed (found_structure s p) (named_structure s)
      (finds_behind FoundNamed (unless (not (is_seen p.scope s.name.id)) kinds.Redeclared s.name.place) _ (λ _.
      finds_then NamesFound FoundNamed (member_types s.members.items p.scope p.types) _ (members_named [] s.members.items p.scope p.types (each_named s.members.items named.1.1.0.0)) (λ x kept.
      finds_behind FoundNamed (added_unless_empty s.name.place (types_of x.0) x.1) _ (λ y. finds_ok FoundNamed _ (kept, so_far)))))
      (λ x d. finds_behind StructsNamed _ _ (λ y. finds_ok StructsNamed _ (more_named x.1.structs (structure_form s x.0.members) d.1 d.0)))

  definitions_named : (bodies : List Bool) (ds : List Definition) (p : ProgressView) → IsNamedTree names (list_tree (map definition_tree ds)) → StructsNamed p → Finds StructsNamed (with_definitions bodies ds p)
  definitions_named bodies [] p named so_far = finds_ok StructsNamed p so_far
  definitions_named bodies (definition.Struct s ∷ ds) p named so_far =
      finds_then StructsNamed StructsNamed (with_structure s p) (with_definitions bodies ds) (struct_named s p named.0 so_far) (λ q kept. definitions_named bodies ds q named.1 kept)
  definitions_named bodies (definition.Function f ∷ ds) p named so_far =
      finds_then (SameStructs p) StructsNamed (with_function bodies f p) (with_definitions bodies ds) (function_structs bodies f p) (λ q same.
      definitions_named bodies ds q named.1 (subst (λ (ss : List StructForm). list_all (is_struct_named names) ss ≡ true) (sym same) so_far))

-- ---- files

abbrev pub HasNamedStructs : ProgramForm → Type 0
HasNamedStructs p = list_all (is_struct_named (length p.names)) p.structs ≡ true

pub resolved_structs : (tree : Program) → are_named (length tree.names.items) (tokens_of (program_tree tree)) ≡ true → Finds HasNamedStructs (resolved tree)
resolved_structs tree tokens =
    finds_then (StructsNamed (length tree.names.items)) HasNamedStructs _ _
    (definitions_named (length tree.names.items) (bodies_of tree) tree.definitions.items (nothing_defined (texts_of tree)) (tree_named (length tree.names.items) (program_tree tree) tokens) refl) (λ q all.
    finds_ok HasNamedStructs (finished tree q) (subst (λ n. list_all (is_struct_named n) q.structs ≡ true) (sym (length-map tree.names.items text_items)) all))
