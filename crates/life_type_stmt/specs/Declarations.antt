-- Declarations of variables (ISO/IEC 14882:2017 [dcl.dcl]). A variable is visible from behind its declaration.
use Rattle.std.specs.Prelude.{Option, Some, None, Ok}
use Rattle.life_types.specs.Types.{Types}
use Rattle.life_types.specs.declared.ty.NameId.{NameId}
use Rattle.life_types.specs.declared.ty.Ty.{Ty}
use Rattle.life_types.specs.declared.ty.Ty.TheVariants as ty
use Rattle.life_tree.specs.declared.declaration.AutoType.{AutoType}
use Rattle.life_tree.specs.declared.declaration.Declaration.{Declaration}
use Rattle.life_tree.specs.declared.declaration.DeclaredType.{DeclaredType}
use Rattle.life_tree.specs.declared.declaration.DeclaredType.TheVariants as declared_type
use Rattle.life_tree.specs.declared.declaration.Initializer.{Initializer}
use Rattle.life_tree.specs.declared.identifier.Identifier.{Identifier}
use Rattle.life_tree.specs.declared.type_name.TypeName.{TypeName}
use Rattle.life_typed.specs.TypedStatement.{DeclarationForm, InitialForm}
use Rattle.life_typed.specs.declared.typed_program.TypedLocal.{TypedLocal}
use Rattle.life_type_stmt.specs.Autos.{auto_given, auto_local}
use Rattle.life_names.specs.Checked.{Checked, ◌>>=◌}
use Rattle.life_names.specs.Environment.{Scope, meaning, declared}
use Rattle.life_names.specs.Found.{allowed, given}
use Rattle.life_type_stmt.specs.Given.{given_first, initial_fault}
use Rattle.life_type_expr.specs.Lists.{lower_kind}
use Rattle.life_typed.specs.BaseTypes.{type_at}
use Rattle.life_names.specs.WrittenTypes.{written_local}
use Rattle.life_names.specs.declared.environment.Entity.{Entity}
use Rattle.life_names.specs.declared.environment.Entity.TheVariants as entity
use Rattle.life_names.specs.declared.fault.IllKind.{IllKind}
use Rattle.life_names.specs.declared.fault.IllKind.TheVariants as kinds
use Rattle.life_names.specs.declared.written.Written.{Written}

-- no name hides another
abbrev pub visible_fault : Entity → Option IllKind
visible_fault entity.Unseen = None
visible_fault (entity.Structure number) = Some kinds.Redeclared
visible_fault (entity.Function number) = Some kinds.Redeclared
visible_fault (entity.Local number) = Some kinds.Redeclared

abbrev pub redeclared : Scope → NameId → Option IllKind
redeclared scope name = visible_fault (meaning scope name)

-- a reference needs what it refers to
abbrev pub default_fault : Ty → Option IllKind
default_fault (ty.Reference target constant) = Some kinds.WrongType
default_fault t = None

-- the rule that a variable of this type breaks with what it is given
abbrev pub variable_fault : Types → Ty → Option InitialForm → Option IllKind
variable_fault types target None = default_fault target
variable_fault types target (Some value) = initial_fault kinds.WrongType types target value

abbrev pub local_of : Identifier → Written → TypedLocal
local_of name w = record { name = name.id; place = name.place; ty = w.ty; constant = w.constant }

-- with a type that is written
abbrev pub written_declaration : TypeName → Identifier → Option Initializer → Scope → Types → Checked (DeclarationForm × Scope)
written_declaration t name i scope types =
    written_local t name.place scope types >>= (λ w. given_first (type_at w.1 w.0.ty) i scope w.1 >>= (λ v.
    given (allowed (lower_kind (redeclared scope name.id) (variable_fault v.1 (type_at w.1 w.0.ty) v.0)) name.place) (λ _.
    given (declared (local_of name w.0) scope) (λ n. Ok ((record { local = n.0; name = name; value = v.0 }, n.1), v.1)))))

-- with `auto`
abbrev pub auto_declaration : AutoType → Identifier → Option Initializer → Scope → Types → Checked (DeclarationForm × Scope)
auto_declaration a name i scope types =
    auto_given i scope types >>= (λ v. given (allowed (redeclared scope name.id) name.place) (λ _.
    auto_local a name.place v.0 scope v.1 >>= (λ w.
    given (declared (local_of name w.0) scope) (λ n. Ok ((record { local = n.0; name = name; value = v.0 }, n.1), w.1)))))

abbrev pub declaration_by : DeclaredType → Identifier → Option Initializer → Scope → Types → Checked (DeclarationForm × Scope)
declaration_by (declared_type.Written t) name i scope types = written_declaration t name i scope types
declaration_by (declared_type.Auto a) name i scope types = auto_declaration a name i scope types

abbrev pub declaration : Declaration → Scope → Types → Checked (DeclarationForm × Scope)
declaration d scope types = declaration_by d.ty d.name d.initializer scope types
