-- What a declaration means is the same when it is settled.
use Rattle.std.proofs.Common.{◌≡◌, List, [], ◌∷◌, Option, None, Some, map, refl, ap, sym, ◌∙◌}
use Rattle.std.specs.Prelude.{Ok, option_map, false}
use Rattle.life_types.specs.Types.{Types}
use Rattle.life_types.specs.declared.place.Place.{Place}
use Rattle.life_types.specs.declared.ty.Ty.{Ty}
use Rattle.life_tree.specs.declared.declaration.Declaration.{Declaration}
use Rattle.life_tree.specs.declared.declaration.DeclaredType.{DeclaredType}
use Rattle.life_tree.specs.declared.declaration.DeclaredType.TheVariants as declared_type
use Rattle.life_tree.specs.declared.declaration.Initializer.{Initializer}
use Rattle.life_tree.specs.declared.declaration.Initializer.TheVariants as initializer
use Rattle.life_tree.specs.declared.declaration.InitialValue.{InitialValue}
use Rattle.life_tree.specs.declared.declaration.InitialValue.TheVariants as initial_value
use Rattle.life_tree.specs.declared.expr.Expr.{Expr}
use Rattle.life_tree.specs.declared.expr.InitList.{InitList, out-InitList}
use Rattle.life_tree.specs.declared.identifier.Identifier.{Identifier}
use Rattle.life_tree.specs.declared.primary.PostfixPart.TheFolds.{fold_out-InitList}
use Rattle.life_typed.specs.BaseTypes.{type_at}
use Rattle.life_typed.specs.TypedForm.{Typed}
use Rattle.life_typed.specs.TypedStatement.{InitialForm, several}
use Rattle.life_names.specs.Checked.{Checked, ◌>>=◌}
use Rattle.life_names.specs.Environment.{Scope}
use Rattle.life_names.specs.Found.{given}
use Rattle.life_type_expr.specs.Expressions.{PartMeaning, part_step, primary_step, unary_step, additive_step, additive_part, multiplicative_step, multiplicative_part, equality_step, equality_part, relational_step, relational_part, and_part, arguments_step, expr_step, init_list_step, logical_and_step, or_part, postfix_step, expr_meaning, init_list_meaning}
use Rattle.life_type_expr.specs.Lists.{ListMeaning, Meaning, list_for}
use Rattle.life_type_expr.specs.Operands.{literal_allowed}
use Rattle.life_type_stmt.specs.Autos.{auto_given, auto_value, lone_element, lone_list}
use Rattle.life_type_stmt.specs.Declarations.{declaration, declaration_by}
use Rattle.life_type_stmt.specs.Each.{each}
use Rattle.life_type_stmt.specs.Given.{given_expr, given_first, given_list, given_value}
use Rattle.life_type_stmt.specs.Ranges.{range_head, range_of}
use Rattle.life_unique.specs.SettledDeclarations.{settled_declaration, settled_declared_type, settled_initial, settled_initializer}
use Rattle.life_unique.specs.SettledExpressions.{settled_expr, settled_init_list}
use Rattle.life_typing.proofs.BlindExpressions.{expr_blind, init_list_blind}
use Rattle.life_typing.proofs.BlindSteps.{bind_as}
use Rattle.life_typing.proofs.BlindTypes.{local_blind}

-- ---- what is given

pub expr_at : (e : Expr) (scope : Scope) (types : Types) → expr_meaning (settled_expr e) scope types ≡ expr_meaning e scope types
expr_at e scope types = λ i. expr_blind e i scope types

pub given_expr_blind : (t : Ty) (e : Expr) (scope : Scope) (types : Types) → given_expr t (settled_expr e) scope types ≡ given_expr t e scope types
given_expr_blind t e scope types = bind_as (expr_at e scope types) (λ x. refl)

given_list_blind : (t : Ty) (l : InitList) (scope : Scope) (types : Types) → given_list t (settled_init_list l) scope types ≡ given_list t l scope types
given_list_blind t l scope types = bind_as (λ i. list_for t (init_list_blind l i) scope types) (λ x. refl)

pub given_value_blind : (t : Ty) (v : InitialValue) (scope : Scope) (types : Types) → given_value t (settled_initial v) scope types ≡ given_value t v scope types
given_value_blind t (initial_value.Expr e) scope types = bind_as (given_expr_blind t e.value scope types) (λ x. refl)
given_value_blind t (initial_value.List l) scope types = given_list_blind t l scope types

given_first_blind : (t : Ty) (v : Option Initializer) (scope : Scope) (types : Types) →
    given_first t (option_map settled_initializer v) scope types ≡ given_first t v scope types
given_first_blind t None scope types = refl
given_first_blind t (Some (initializer.Equals equals v)) scope types = bind_as (given_value_blind t v scope types) (λ x. refl)
given_first_blind t (Some (initializer.List l)) scope types = bind_as (given_list_blind t l scope types) (λ x. refl)

-- ---- behind `auto`

-- an element of a list, by what it means
abbrev lone_by : Meaning → Scope → Types → Checked Typed
lone_by e scope types = e scope types >>= (λ x. given (literal_allowed false x.0) (λ _. Ok x))

abbrev lone_list_by : ListMeaning → Scope → Types → Checked InitialForm
lone_list_by l scope types =
    each lone_by l.list scope types >>= (λ x. Ok (several (record { opening = l.opening; elements = x.0; delimiters = l.delimiters }), x.1))

each_by : (es : List Expr) (scope : Scope) (types : Types) → each lone_element es scope types ≡ each lone_by (map expr_meaning es) scope types
each_by [] scope types = refl
each_by (e ∷ es) scope types = bind_as {m = lone_element e scope types} refl (λ x. bind_as (each_by es scope x.1) (λ y. refl))

-- the outermost layer of a list, by what the list means
list_opened : (l : InitList) →
    init_list_meaning l ≡ record { opening = (out-InitList l).opening; list = map expr_meaning (out-InitList l).list.items; delimiters = record { commas = (out-InitList l).commas.items; closing = (out-InitList l).closing } }
unfolding init_list_meaning expr_meaning
list_opened l = fold_out-InitList PartMeaning Meaning Meaning Meaning PartMeaning Meaning PartMeaning Meaning PartMeaning Meaning PartMeaning PartMeaning ListMeaning Meaning ListMeaning Meaning PartMeaning Meaning
    part_step primary_step unary_step additive_step additive_part multiplicative_step multiplicative_part equality_step equality_part relational_step relational_part and_part arguments_step expr_step init_list_step logical_and_step or_part postfix_step l

lone_list_is : (l : InitList) (scope : Scope) (types : Types) → lone_list l scope types ≡ lone_list_by (init_list_meaning l) scope types
lone_list_is l scope types = bind_as (each_by (out-InitList l).list.items scope types) (λ x. refl) ∙ ap (λ m. lone_list_by m scope types) (sym (list_opened l))

lone_list_blind : (l : InitList) (scope : Scope) (types : Types) → lone_list (settled_init_list l) scope types ≡ lone_list l scope types
lone_list_blind l scope types =
    lone_list_is (settled_init_list l) scope types ∙ ap (λ m. lone_list_by m scope types) (init_list_blind l) ∙ sym (lone_list_is l scope types)

auto_value_blind : (v : InitialValue) (scope : Scope) (types : Types) → auto_value (settled_initial v) scope types ≡ auto_value v scope types
auto_value_blind (initial_value.Expr e) scope types = bind_as (expr_at e.value scope types) (λ x. refl)
auto_value_blind (initial_value.List l) scope types = lone_list_blind l scope types

auto_given_blind : (v : Option Initializer) (scope : Scope) (types : Types) → auto_given (option_map settled_initializer v) scope types ≡ auto_given v scope types
auto_given_blind None scope types = refl
auto_given_blind (Some (initializer.Equals equals v)) scope types = bind_as (auto_value_blind v scope types) (λ x. refl)
auto_given_blind (Some (initializer.List l)) scope types = bind_as (lone_list_blind l scope types) (λ x. refl)

-- ---- declarations

declaration_by_blind : (t : DeclaredType) (name : Identifier) (v : Option Initializer) (scope : Scope) (types : Types) →
    declaration_by (settled_declared_type t) name (option_map settled_initializer v) scope types ≡ declaration_by t name v scope types
declaration_by_blind (declared_type.Written t) name v scope types =
    bind_as (local_blind t name.place scope types) (λ w. bind_as (given_first_blind (type_at w.1 w.0.ty) v scope w.1) (λ x. refl))
declaration_by_blind (declared_type.Auto a) name v scope types = bind_as (auto_given_blind v scope types) (λ x. refl)

pub declaration_blind : (d : Declaration) (scope : Scope) (types : Types) → declaration (settled_declaration d) scope types ≡ declaration d scope types
declaration_blind d scope types = declaration_by_blind d.ty d.name d.initializer scope types

-- ---- the head of a loop over a range

range_of_blind : (name : Identifier) (colon : Place) (e : Expr) (scope : Scope) (types : Types) →
    range_of name colon (settled_expr e) scope types ≡ range_of name colon e scope types
range_of_blind name colon e scope types = bind_as (expr_at e scope types) (λ x. refl)

pub range_head_blind : (t : DeclaredType) (name : Identifier) (colon : Place) (e : Expr) (scope : Scope) (types : Types) →
    range_head (settled_declared_type t) name colon (settled_expr e) scope types ≡ range_head t name colon e scope types
range_head_blind (declared_type.Written t) name colon e scope types =
    bind_as (local_blind t name.place scope types) (λ w. bind_as (range_of_blind name colon e scope w.1) (λ r. refl))
range_head_blind (declared_type.Auto a) name colon e scope types = bind_as (range_of_blind name colon e scope types) (λ r. refl)
