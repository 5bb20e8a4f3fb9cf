-- Functions and whole programs, settled.
use Rattle.std.specs.Prelude.{option_map}
use Rattle.life_tree.specs.declared.attribute.Attribute.{Attribute}
use Rattle.life_tree.specs.declared.attribute.AttributeArguments.{AttributeArguments}
use Rattle.life_tree.specs.declared.function.Function.{Function}
use Rattle.life_tree.specs.declared.function.FunctionBody.{FunctionBody}
use Rattle.life_tree.specs.declared.function.FunctionBody.TheVariants as function_body
use Rattle.life_tree.specs.declared.function.Parameter.{Parameter}
use Rattle.life_tree.specs.declared.function.ResultType.{ResultType}
use Rattle.life_tree.specs.declared.function.ResultType.TheVariants as result_type
use Rattle.life_tree.specs.declared.program.Definition.{Definition}
use Rattle.life_tree.specs.declared.program.Definition.TheVariants as definition
use Rattle.life_tree.specs.declared.program.Member.{Member}
use Rattle.life_tree.specs.declared.program.Program.{Program}
use Rattle.life_tree.specs.declared.program.StructDefinition.{StructDefinition}
use Rattle.life_unique.specs.SettledStatements.{settled_block}
use Rattle.life_unique.specs.SettledTypes.{settled_type}
use Rattle.life_unique.specs.Standing.{list_of, settled_list}

-- ---- functions

abbrev pub settled_words : AttributeArguments → AttributeArguments
settled_words a = record a { words = settled_list a.words; commas = settled_list a.commas }

abbrev pub settled_attribute : Attribute → Attribute
settled_attribute a = record a { arguments = option_map settled_words a.arguments }

abbrev pub settled_parameter : Parameter → Parameter
settled_parameter p = record { attributes = list_of settled_attribute p.attributes; ty = settled_type p.ty; name = p.name }

abbrev pub settled_result : ResultType → ResultType
settled_result (result_type.Void place) = result_type.Void place
settled_result (result_type.Type ty) = result_type.Type (settled_type ty)

abbrev pub settled_body : FunctionBody → FunctionBody
settled_body (function_body.Block b) = function_body.Block (settled_block b)
settled_body (function_body.Declared place) = function_body.Declared place

abbrev pub settled_function : Function → Function
settled_function f = record f {
  attributes = list_of settled_attribute f.attributes;
  returned = settled_result f.returned;
  parameters = list_of settled_parameter f.parameters;
  commas = settled_list f.commas;
  body = settled_body f.body;
}

-- ---- structs

abbrev pub settled_member : Member → Member
settled_member m = record { ty = settled_type m.ty; name = m.name; semicolon = m.semicolon }

abbrev pub settled_structure : StructDefinition → StructDefinition
settled_structure s = record s { members = list_of settled_member s.members }

-- ---- programs

abbrev pub settled_definition : Definition → Definition
settled_definition (definition.Struct s) = definition.Struct (settled_structure s)
settled_definition (definition.Function f) = definition.Function (settled_function f)

-- a program with all its boxes at one address, and its lists with no room to spare
abbrev pub settled_program : Program → Program
settled_program p = record {
  definitions = list_of settled_definition p.definitions;
  names = list_of settled_list p.names;
  texts = list_of settled_list p.texts;
}
