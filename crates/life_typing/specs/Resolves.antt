-- Whole files.
use Rattle.std.specs.Prelude.{ℕ, Bool, true, false, List, [], ◌∷◌, Ok, map, slice_set, if◌then◌else◌}
use Rattle.life_tree.specs.declared.function.Function.{Function}
use Rattle.life_tree.specs.declared.program.Definition.{Definition}
use Rattle.life_tree.specs.declared.program.Definition.TheVariants as definition
use Rattle.life_tree.specs.declared.program.Program.{Program}
use Rattle.life_typing.specs.Answers.{Answer, ◌>>◌}
use Rattle.life_names.specs.Environment.{text_items}
use Rattle.life_typing.specs.Functions.{with_function}
use Rattle.life_typing.specs.Names.{has_body}
use Rattle.life_typed.specs.Programs.{ProgramForm}
use Rattle.life_typing.specs.Progress.{ProgressView, nothing_defined}
use Rattle.life_typing.specs.Structs.{with_structure}

-- ---- of which names there are bodies

abbrev pub no_flags : List (List ℕ) → List Bool
no_flags [] = []
no_flags (name ∷ names) = false ∷ no_flags names

abbrev pub with_function_noted : Function → List Bool → List Bool
with_function_noted f bodies = if has_body f.body then slice_set bodies f.name.id.0 true else bodies

abbrev pub with_definition_noted : Definition → List Bool → List Bool
with_definition_noted (definition.Struct s) bodies = bodies
with_definition_noted (definition.Function f) bodies = with_function_noted f bodies

abbrev pub with_all_noted : List Definition → List Bool → List Bool
with_all_noted [] bodies = bodies
with_all_noted (d ∷ ds) bodies = with_all_noted ds (with_definition_noted d bodies)

abbrev pub texts_of : Program → List (List ℕ)
texts_of tree = map text_items tree.names.items

abbrev pub bodies_of : Program → List Bool
bodies_of tree = with_all_noted tree.definitions.items (no_flags (texts_of tree))

-- ---- definitions in their order

abbrev pub with_definition : List Bool → Definition → ProgressView → Answer ProgressView
with_definition bodies (definition.Struct s) p = with_structure s p
with_definition bodies (definition.Function f) p = with_function bodies f p

abbrev pub with_definitions : List Bool → List Definition → ProgressView → Answer ProgressView
with_definitions bodies [] p = Ok p
with_definitions bodies (d ∷ ds) p = with_definition bodies d p >> with_definitions bodies ds

abbrev pub finished : Program → ProgressView → ProgramForm
finished tree p = record {
  names = map text_items tree.names.items;
  texts = map text_items tree.texts.items;
  types = p.types;
  structs = p.structs;
  functions = p.functions;
}

-- the typed program of a tree, or the first rule that it breaks
abbrev pub resolved : Program → Answer ProgramForm
resolved tree = with_definitions (bodies_of tree) tree.definitions.items (nothing_defined (texts_of tree)) >> λ p. Ok (finished tree p)
