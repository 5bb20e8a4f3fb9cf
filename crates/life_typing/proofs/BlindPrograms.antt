-- What a program has of types is the same when it is settled, and so depends on its tree, names and texts alone.
use Rattle.std.proofs.Common.{◌≡◌, ℕ, Bool, List, [], ◌∷◌, map, refl, ap, sym, ◌∙◌, Vec}
use Rattle.std.specs.Prelude.{Ok}
use Rattle.std.specs.declared.alloc.Global.{Global}
use Rattle.life_types.specs.Types.{Types}
use Rattle.life_types.specs.declared.ty.NameId.{NameId}
use Rattle.life_tree.specs.Views.{program_tree}
use Rattle.life_tree.specs.declared.program.Definition.{Definition}
use Rattle.life_tree.specs.declared.program.Definition.TheVariants as definition
use Rattle.life_tree.specs.declared.program.Member.{Member}
use Rattle.life_tree.specs.declared.program.Program.{Program}
use Rattle.life_tree.specs.declared.program.StructDefinition.{StructDefinition}
use Rattle.life_tree.specs.declared.type_name.TypeName.{TypeName}
use Rattle.life_names.specs.Environment.{Scope, text_items}
use Rattle.life_typing.specs.Progress.{ProgressView, nothing_defined}
use Rattle.life_typing.specs.Resolves.{bodies_of, finished, no_flags, resolved, with_all_noted, with_definition, with_definition_noted, with_definitions}
use Rattle.life_typing.specs.Structs.{is_reference, is_reference_with, member_type, members_behind, reference_member, value_member, with_structure}
use Rattle.life_unique.specs.SettledPrograms.{settled_definition, settled_member, settled_program, settled_structure}
use Rattle.life_unique.specs.SettledTypes.{settled_type}
use Rattle.life_unique.specs.Standing.{settled_list}
use Rattle.life_unique.proofs.OutsSeen.{suffix_seen}
use Rattle.life_unique.proofs.ProgramsFound.{one_program}
use Rattle.life_typing.proofs.BlindFunctions.{body_known, function_blind}
use Rattle.life_typing.proofs.BlindSteps.{then_as}
use Rattle.life_typing.proofs.BlindTypes.{base_blind, const_blind, written_blind}

-- ---- structs

reference_blind : (t : TypeName) → is_reference (settled_type t) ≡ is_reference t
reference_blind t = λ i. is_reference_with (suffix_seen t i)

reference_member_blind : (m : Member) (scope : Scope) (types : Types) → reference_member (settled_member m) scope types ≡ reference_member m scope types
reference_member_blind m scope types = then_as (base_blind m.ty m.name.place scope types) (λ x. refl)

value_member_blind : (m : Member) (scope : Scope) (types : Types) → value_member (settled_member m) scope types ≡ value_member m scope types
value_member_blind m scope types = then_as (written_blind m.ty m.name.place scope types) (λ x. rw (const_blind m.ty) refl)

member_type_blind : (m : Member) (scope : Scope) (types : Types) → member_type (settled_member m) scope types ≡ member_type m scope types
member_type_blind m scope types = rw (reference_blind m.ty, reference_member_blind m scope types, value_member_blind m scope types) refl

members_blind : (before : List NameId) (ms : List Member) (scope : Scope) (types : Types) →
    members_behind before (map settled_member ms) scope types ≡ members_behind before ms scope types
members_blind before [] scope types = refl
members_blind before (m ∷ ms) scope types =
    then_as (member_type_blind m scope types) (λ x. then_as refl (λ seen. then_as (members_blind seen ms scope x.1) (λ xs. refl)))

structure_blind : (s : StructDefinition) (p : ProgressView) → with_structure (settled_structure s) p ≡ with_structure s p
structure_blind s p = then_as (then_as refl (λ _. then_as (members_blind [] s.members.items p.scope p.types) (λ x. refl))) (λ x. refl)

-- ---- definitions

definition_blind : (bodies : List Bool) (d : Definition) (p : ProgressView) → with_definition bodies (settled_definition d) p ≡ with_definition bodies d p
definition_blind bodies (definition.Struct s) p = structure_blind s p
definition_blind bodies (definition.Function f) p = function_blind bodies f p

definitions_blind : (bodies : List Bool) (ds : List Definition) (p : ProgressView) →
    with_definitions bodies (map settled_definition ds) p ≡ with_definitions bodies ds p
definitions_blind bodies [] p = refl
definitions_blind bodies (d ∷ ds) p = then_as (definition_blind bodies d p) (λ q. definitions_blind bodies ds q)

noted_blind : (d : Definition) (bodies : List Bool) → with_definition_noted (settled_definition d) bodies ≡ with_definition_noted d bodies
noted_blind (definition.Struct s) bodies = refl
noted_blind (definition.Function f) bodies = rw (body_known f.body) refl

all_noted_blind : (ds : List Definition) (bodies : List Bool) → with_all_noted (map settled_definition ds) bodies ≡ with_all_noted ds bodies
all_noted_blind [] bodies = refl
all_noted_blind (d ∷ ds) bodies = all_noted_blind ds (with_definition_noted (settled_definition d) bodies) ∙ ap (with_all_noted ds) (noted_blind d bodies)

-- ---- programs

texts_blind : (ts : List (Vec ℕ Global)) → map text_items (map settled_list ts) ≡ map text_items ts
texts_blind [] = refl
texts_blind (t ∷ ts) = ap (λ others. t.items ∷ others) (texts_blind ts)

bodies_blind : (p : Program) → bodies_of (settled_program p) ≡ bodies_of p
bodies_blind p = all_noted_blind p.definitions.items _ ∙ ap (λ texts. with_all_noted p.definitions.items (no_flags texts)) (texts_blind p.names.items)

pub resolved_blind : (p : Program) → resolved (settled_program p) ≡ resolved p
resolved_blind p = then_as
    (definitions_blind (bodies_of (settled_program p)) p.definitions.items _
    ∙ (λ i. with_definitions (bodies_blind p i) p.definitions.items (nothing_defined (texts_blind p.names.items i))))
    (λ q. λ i. Ok (record (finished p q) { names = texts_blind p.names.items i; texts = texts_blind p.texts.items i }))

-- what a program has of types depends on its tree, its names and its texts
pub types_of_trees : (p q : Program) → program_tree p ≡ program_tree q → map (λ t. t.items) p.names.items ≡ map (λ t. t.items) q.names.items
    → map (λ t. t.items) p.texts.items ≡ map (λ t. t.items) q.texts.items → resolved p ≡ resolved q
types_of_trees p q e names texts = sym (resolved_blind p) ∙ ap resolved (one_program p q e names texts) ∙ resolved_blind q
