-- Functions and whole programs from their trees.
use Rattle.std.proofs.Common.{◌≡◌, ℕ, Bool, true, false, List, [], ◌∷◌, Option, None, Some, map, refl, sym, ◌∙◌, Vec}
use Rattle.std.specs.Prelude.{if◌then◌else◌, option_map}
use Rattle.std.specs.declared.alloc.Global.{Global}
use Rattle.life_types.specs.declared.place.Place.{Place}
use Rattle.life_tree.specs.Rules as rules
use Rattle.life_tree.specs.Tree.{Tree, token, ◌⨾◌, construct, node}
use Rattle.life_tree.specs.declared.attribute.Attribute.{Attribute}
use Rattle.life_tree.specs.declared.attribute.AttributeArguments.{AttributeArguments}
use Rattle.life_tree.specs.declared.attribute.AttributeScope.{AttributeScope}
use Rattle.life_tree.specs.declared.attribute.AttributeWord.{AttributeWord}
use Rattle.life_tree.specs.declared.attribute.AttributeWord.TheVariants as attribute_word
use Rattle.life_tree.specs.declared.function.Function.{Function}
use Rattle.life_tree.specs.declared.function.FunctionBody.{FunctionBody}
use Rattle.life_tree.specs.declared.function.FunctionBody.TheVariants as function_body
use Rattle.life_tree.specs.declared.function.Parameter.{Parameter}
use Rattle.life_tree.specs.declared.function.ResultType.{ResultType}
use Rattle.life_tree.specs.declared.function.ResultType.TheVariants as result_type
use Rattle.life_tree.specs.declared.key.TokenKey.TheVariants as keys
use Rattle.life_tree.specs.declared.program.Definition.{Definition}
use Rattle.life_tree.specs.declared.program.Definition.TheVariants as definition
use Rattle.life_tree.specs.declared.program.Member.{Member}
use Rattle.life_tree.specs.declared.program.Program.{Program}
use Rattle.life_tree.specs.declared.program.StructDefinition.{StructDefinition}
use Rattle.life_tree.specs.Views.{optional_tree, list_tree, later_tree, separated_tree, block_tree, word_tree, scope_tree, attribute_arguments_tree, attribute_tree, attributes_tree, parameter_tree, result_tree, body_tree, function_tree, member_tree, struct_tree, definition_tree, program_tree}
use Rattle.life_unique.specs.SettledPrograms.{settled_words, settled_attribute, settled_parameter, settled_result, settled_body, settled_function, settled_member, settled_structure, settled_definition, settled_program}
use Rattle.life_unique.specs.Standing.{settled_list, list_of}
use Rattle.life_unique.proofs.Commas.{commas_found, commas_of}
use Rattle.life_unique.proofs.Lists.{listed, settled_is, list_found}
use Rattle.life_unique.proofs.StatementsFrom.{from_block}
use Rattle.life_unique.proofs.StatementsFound.{block_found, block_is_node}
use Rattle.life_unique.proofs.Tokens.{place_of, name_of, is_node, front, behind, derived, inside}
use Rattle.life_unique.proofs.TypesFound.{type_found}
use Rattle.life_unique.proofs.TypesFrom.{from_type}

-- ---- from trees

abbrev word_of : Tree → AttributeWord
word_of (token (keys.Name id) place) = attribute_word.Name (record { id = id; place = place })
word_of t = attribute_word.Static (place_of t)

abbrev words_of : Tree → List AttributeWord
words_of ((comma ⨾ t) ⨾ ts) = word_of (derived t) ∷ words_of ts
words_of (node rule t ⨾ ts) = word_of t ∷ words_of ts
words_of (t ⨾ ts) = words_of ts
words_of _ = []

abbrev scope_of : Tree → Option AttributeScope
scope_of (scope ⨾ name) = Some (record { scope = place_of scope; name = name_of name })
scope_of _ = None

abbrev is_structure : Tree → Bool
is_structure (node rules.structure t) = true
is_structure _ = false

module _ (g : Global) where
  abbrev arguments_of : Tree → Option AttributeArguments
  arguments_of (construct _ opening (t ⨾ closing)) = Some (record { opening = opening; words = listed g (words_of t); commas = listed g (commas_of t); closing = place_of closing })
  arguments_of _ = None

  abbrev attribute_of : Tree → Attribute
  attribute_of (a ⨾ b ⨾ name ⨾ scope ⨾ arguments ⨾ c ⨾ d) = record {
    outer_opening = place_of a;
    inner_opening = place_of b;
    name = name_of name;
    scope = scope_of scope;
    arguments = arguments_of arguments;
    inner_closing = place_of c;
    outer_closing = place_of d;
  }
  attribute_of t = record {
    outer_opening = place_of t;
    inner_opening = place_of t;
    name = name_of t;
    scope = None;
    arguments = None;
    inner_closing = place_of t;
    outer_closing = place_of t;
  }

  abbrev attributes_of : Tree → List Attribute
  attributes_of (t ⨾ ts) = attribute_of (derived t) ∷ attributes_of ts
  attributes_of _ = []

  -- the attributes, the type and the name
  abbrev parameter_of : Tree → Parameter
  parameter_of t = record { attributes = listed g (attributes_of (front t)); ty = from_type g (front (behind t)); name = name_of (behind (behind t)) }

  abbrev parameters_of : Tree → List Parameter
  parameters_of ((comma ⨾ t) ⨾ ts) = parameter_of (derived t) ∷ parameters_of ts
  parameters_of (node rule t ⨾ ts) = parameter_of t ∷ parameters_of ts
  parameters_of (t ⨾ ts) = parameters_of ts
  parameters_of _ = []

  abbrev result_of : Tree → ResultType
  result_of t = if is_node t then result_type.Type (from_type g t) else result_type.Void (place_of t)

  abbrev body_of : Tree → FunctionBody
  body_of t = if is_node t then function_body.Block (from_block g t) else function_body.Declared (place_of t)

  -- the attributes, the result, the name, what stands in parentheses, and the body
  abbrev function_of : Tree → Tree → Tree → Tree → Tree → Function
  function_of attributes returned name parentheses body = record {
    attributes = listed g (attributes_of attributes);
    returned = result_of returned;
    name = name_of name;
    opening = place_of parentheses;
    parameters = listed g (parameters_of (front (inside parentheses)));
    commas = listed g (commas_of (front (inside parentheses)));
    closing = place_of (behind (inside parentheses));
    body = body_of body;
  }

  abbrev member_of : Tree → Member
  member_of t = record { ty = from_type g (front t); name = name_of (front (behind t)); semicolon = place_of (behind (behind t)) }

  abbrev members_of : Tree → List Member
  members_of (t ⨾ ts) = member_of (derived t) ∷ members_of ts
  members_of _ = []

  -- the keyword, the name, what stands in braces, and the semicolon
  abbrev structure_of : Tree → Tree → Tree → Tree → StructDefinition
  structure_of keyword name braces semicolon = record {
    keyword = place_of keyword;
    name = name_of name;
    opening = place_of braces;
    members = listed g (members_of (front (inside braces)));
    closing = place_of (behind (inside braces));
    semicolon = place_of semicolon;
  }

  abbrev definition_of : Tree → Definition
  definition_of t =
      let form : Tree = derived t in
      if is_structure t then definition.Struct (structure_of (front form) (front (behind form)) (front (behind (behind form))) (behind (behind (behind form))))
      else definition.Function (function_of (front form) (front (behind form)) (front (behind (behind form)))
      (front (behind (behind (behind form)))) (behind (behind (behind (behind form)))))

  abbrev definitions_of : Tree → List Definition
  definitions_of (t ⨾ ts) = definition_of (derived t) ∷ definitions_of ts
  definitions_of _ = []

  -- a program, by its tree and what its names and texts are
  abbrev pub from_program : Tree → List (List ℕ) → List (List ℕ) → Program
  from_program t names texts = record {
    definitions = listed g (definitions_of (derived t));
    names = listed g (map (listed g) names);
    texts = listed g (map (listed g) texts);
  }

  -- ---- which give them back, settled

  word_found : (w : AttributeWord) → word_of (derived (word_tree w)) ≡ w
  word_found (attribute_word.Name name) = refl
  word_found (attribute_word.Static place) = refl

  later_words_row : (commas : List Place) (ws : List AttributeWord) → words_of (later_tree commas (map word_tree ws)) ≡ ws
  later_words_row [] [] = refl
  later_words_row [] (w ∷ ws) = λ i. word_found w i ∷ later_words_row [] ws i
  later_words_row (comma ∷ commas) [] = later_words_row commas []
  later_words_row (comma ∷ commas) (w ∷ ws) = λ i. word_found w i ∷ later_words_row commas ws i

  words_row : (commas : List Place) (ws : List AttributeWord) → words_of (separated_tree commas (map word_tree ws)) ≡ ws
  words_row commas [] = later_words_row commas []
  words_row commas (w ∷ ws) = λ i. word_found w i ∷ later_words_row commas ws i

  scope_found : (s : Option AttributeScope) → scope_of (optional_tree scope_tree s) ≡ s
  scope_found None = refl
  scope_found (Some s) = refl

  arguments_found : (a : Option AttributeArguments) → arguments_of (optional_tree attribute_arguments_tree a) ≡ option_map settled_words a
  arguments_found None = refl
  arguments_found (Some a) = λ i. Some (record {
    opening = a.opening;
    words = settled_is g a.words (words_of (separated_tree a.commas.items (map word_tree a.words.items))) (words_row a.commas.items a.words.items) i;
    commas = settled_is g a.commas (commas_of (separated_tree a.commas.items (map word_tree a.words.items))) (commas_found rules.word word_tree (λ w. refl) a.commas.items a.words.items) i;
    closing = a.closing;
  })

  attribute_found : (a : Attribute) → attribute_of (derived (attribute_tree a)) ≡ settled_attribute a
  attribute_found a = λ i. record a { scope = scope_found a.scope i; arguments = arguments_found a.arguments i }

  attributes_row : (others : List Attribute) → attributes_of (attributes_tree others) ≡ map settled_attribute others
  attributes_row [] = refl
  attributes_row (a ∷ others) = λ i. attribute_found a i ∷ attributes_row others i

  attributes_found : (others : Vec Attribute Global) → listed g (attributes_of (attributes_tree others.items)) ≡ list_of settled_attribute others
  attributes_found others = list_found g settled_attribute others (attributes_of (attributes_tree others.items)) (attributes_row others.items)

  parameter_found : (p : Parameter) → parameter_of (derived (parameter_tree p)) ≡ settled_parameter p
  parameter_found p = λ i. record { attributes = attributes_found p.attributes i; ty = type_found g p.ty i; name = p.name }

  later_parameters_row : (commas : List Place) (ps : List Parameter) → parameters_of (later_tree commas (map parameter_tree ps)) ≡ map settled_parameter ps
  later_parameters_row [] [] = refl
  later_parameters_row [] (p ∷ ps) = λ i. parameter_found p i ∷ later_parameters_row [] ps i
  later_parameters_row (comma ∷ commas) [] = later_parameters_row commas []
  later_parameters_row (comma ∷ commas) (p ∷ ps) = λ i. parameter_found p i ∷ later_parameters_row commas ps i

  parameters_row : (commas : List Place) (ps : List Parameter) → parameters_of (separated_tree commas (map parameter_tree ps)) ≡ map settled_parameter ps
  parameters_row commas [] = later_parameters_row commas []
  parameters_row commas (p ∷ ps) = λ i. parameter_found p i ∷ later_parameters_row commas ps i

  result_found : (r : ResultType) → result_of (result_tree r) ≡ settled_result r
  result_found (result_type.Void place) = refl
  result_found (result_type.Type ty) = λ i. result_type.Type (type_found g ty i)

  body_found : (b : FunctionBody) → body_of (body_tree b) ≡ settled_body b
  body_found (function_body.Block b) = λ i.
      if block_is_node b i then function_body.Block (block_found g b i) else function_body.Declared (place_of (block_tree b))
  body_found (function_body.Declared place) = refl

  function_found : (f : Function) → definition_of (function_tree f) ≡ definition.Function (settled_function f)
  function_found f = λ i. definition.Function (record f {
    attributes = attributes_found f.attributes i;
    returned = result_found f.returned i;
    parameters = list_found g settled_parameter f.parameters (parameters_of (separated_tree f.commas.items (map parameter_tree f.parameters.items))) (parameters_row f.commas.items f.parameters.items) i;
    commas = settled_is g f.commas (commas_of (separated_tree f.commas.items (map parameter_tree f.parameters.items))) (commas_found rules.parameter parameter_tree (λ p. refl) f.commas.items f.parameters.items) i;
    body = body_found f.body i;
  })

  member_found : (m : Member) → member_of (derived (member_tree m)) ≡ settled_member m
  member_found m = λ i. record { ty = type_found g m.ty i; name = m.name; semicolon = m.semicolon }

  members_row : (ms : List Member) → members_of (list_tree (map member_tree ms)) ≡ map settled_member ms
  members_row [] = refl
  members_row (m ∷ ms) = λ i. member_found m i ∷ members_row ms i

  structure_found : (s : StructDefinition) → definition_of (struct_tree s) ≡ definition.Struct (settled_structure s)
  structure_found s = λ i. definition.Struct (record s {
    members = list_found g settled_member s.members (members_of (list_tree (map member_tree s.members.items))) (members_row s.members.items) i;
  })

  definition_found : (d : Definition) → definition_of (derived (definition_tree d)) ≡ settled_definition d
  definition_found (definition.Struct s) = structure_found s
  definition_found (definition.Function f) = function_found f

  definitions_row : (ds : List Definition) → definitions_of (list_tree (map definition_tree ds)) ≡ map settled_definition ds
  definitions_row [] = refl
  definitions_row (d ∷ ds) = λ i. definition_found d i ∷ definitions_row ds i

  texts_row : (ts : List (Vec ℕ Global)) → map (listed g) (map (λ t. t.items) ts) ≡ map settled_list ts
  texts_row [] = refl
  texts_row (t ∷ ts) = λ i. settled_is g t t.items refl i ∷ texts_row ts i

  pub program_found : (p : Program) → from_program (program_tree p) (map (λ t. t.items) p.names.items) (map (λ t. t.items) p.texts.items) ≡ settled_program p
  program_found p = λ i. record {
    definitions = list_found g settled_definition p.definitions (definitions_of (list_tree (map definition_tree p.definitions.items))) (definitions_row p.definitions.items) i;
    names = list_found g settled_list p.names (map (listed g) (map (λ t. t.items) p.names.items)) (texts_row p.names.items) i;
    texts = list_found g settled_list p.texts (map (listed g) (map (λ t. t.items) p.texts.items)) (texts_row p.texts.items) i;
  }

-- programs of one tree, names and texts are one but for where they lie
pub one_program : (p q : Program) → program_tree p ≡ program_tree q → map (λ t. t.items) p.names.items ≡ map (λ t. t.items) q.names.items
    → map (λ t. t.items) p.texts.items ≡ map (λ t. t.items) q.texts.items → settled_program p ≡ settled_program q
one_program p q e names texts =
    sym (program_found p.definitions.alloc p) ∙ (λ i. from_program p.definitions.alloc (e i) (names i) (texts i)) ∙ program_found p.definitions.alloc q
