-- Declarations, settled.
use Rattle.std.specs.Prelude.{option_map}
use Rattle.life_tree.specs.declared.declaration.Declaration.{Declaration}
use Rattle.life_tree.specs.declared.declaration.DeclaredType.{DeclaredType}
use Rattle.life_tree.specs.declared.declaration.DeclaredType.TheVariants as declared_type
use Rattle.life_tree.specs.declared.declaration.Initializer.{Initializer}
use Rattle.life_tree.specs.declared.declaration.Initializer.TheVariants as initializer
use Rattle.life_tree.specs.declared.declaration.InitialValue.{InitialValue}
use Rattle.life_tree.specs.declared.declaration.InitialValue.TheVariants as initial_value
use Rattle.life_unique.specs.SettledExpressions.{settled_expr, settled_init_list}
use Rattle.life_unique.specs.SettledTypes.{settled_type}
use Rattle.life_unique.specs.Standing.{box_of}

abbrev pub settled_declared_type : DeclaredType → DeclaredType
settled_declared_type (declared_type.Written ty) = declared_type.Written (settled_type ty)
settled_declared_type (declared_type.Auto ty) = declared_type.Auto ty

abbrev pub settled_initial : InitialValue → InitialValue
settled_initial (initial_value.Expr value) = initial_value.Expr (box_of settled_expr value)
settled_initial (initial_value.List elements) = initial_value.List (settled_init_list elements)

abbrev pub settled_initializer : Initializer → Initializer
settled_initializer (initializer.Equals equals value) = initializer.Equals equals (settled_initial value)
settled_initializer (initializer.List elements) = initializer.List (settled_init_list elements)

abbrev pub settled_declaration : Declaration → Declaration
settled_declaration d = record {
  ty = settled_declared_type d.ty;
  name = d.name;
  initializer = option_map settled_initializer d.initializer;
}
