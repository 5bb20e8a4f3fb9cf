-- What declarations, the heads of loops over ranges and the starts of loops give, and the scope behind them.
use Rattle.std.proofs.Common.{◌≡◌, ℕ, false, Option, None, Some, Ok}
use Rattle.life_types.specs.Types.{Types}
use Rattle.life_types.specs.declared.place.Place.{Place}
use Rattle.life_tree.specs.Tree.{Tree}
use Rattle.life_tree.specs.Views.{for_clauses_form}
use Rattle.life_tree.specs.declared.declaration.DeclaredType.{DeclaredType}
use Rattle.life_tree.specs.declared.declaration.DeclaredType.TheVariants as declared_type
use Rattle.life_tree.specs.declared.declaration.Initializer.{Initializer}
use Rattle.life_tree.specs.declared.expr.Expr.{Expr}
use Rattle.life_tree.specs.declared.identifier.Identifier.{Identifier}
use Rattle.life_tree.specs.declared.stmt.ForStart.{ForStart}
use Rattle.life_tree.specs.declared.stmt.ForStart.TheVariants as for_start
use Rattle.life_typed.specs.BaseTypes.{type_at}
use Rattle.life_typed.specs.Statements.{range_element}
use Rattle.life_typed.specs.TypedStatement.{DeclarationForm, ForStartForm, declared_first, done_first}
use Rattle.life_names.specs.Environment.{Scope, declared}
use Rattle.life_names.specs.Found.{allowed, given}
use Rattle.life_names.specs.WrittenTypes.{written_local}
use Rattle.life_names.specs.declared.fault.IllKind.TheVariants as kinds
use Rattle.life_names.specs.declared.written.Written.{Written}
use Rattle.life_type_expr.specs.Expressions.{expr_meaning}
use Rattle.life_type_expr.specs.Lists.{lower_kind}
use Rattle.life_type_expr.specs.Operands.{is_constant, literal_allowed}
use Rattle.life_type_stmt.specs.Autos.{auto_given, auto_local, auto_written}
use Rattle.life_type_stmt.specs.Declarations.{declaration_by, local_of, redeclared, variable_fault}
use Rattle.life_type_stmt.specs.Given.{given_first, value_fault}
use Rattle.life_type_stmt.specs.Ranges.{RangeForm, RangeHead, element_place, element_type, elements_of, range_head, range_of}
use Rattle.life_type_stmt.specs.Simples.{simple_statement}
use Rattle.life_type_stmt.specs.Statements.{for_start_part, start_names}
use Rattle.life_typing_laws.proofs.Behind.{LocalBehind, MadeBehind, VariableBehind, local_behind}
use Rattle.life_typing_laws.proofs.Fitting.{lower_none}
use Rattle.life_typing_laws.proofs.NamedTrees.{IsNamedTree}
use Rattle.life_typing_laws.proofs.Staying.{finds_allowed, free_to_declare, stays_not}
use Rattle.life_typing_laws.proofs.Yields.{Yields, yields_behind, yields_given, yields_given_with, yields_ok, yields_then}

-- ---- a variable that no name hides

variable_behind : (A : Type 0) (name : Identifier) (scope : Scope) (w : Written) (form : ℕ → A) (types : Types) → redeclared scope name.id ≡ None
    → Yields (VariableBehind A name.id scope) (given (declared (local_of name w) scope) (λ n. Ok ((form n.0, n.1), types)))
variable_behind A name scope w form types free =
    yields_given_with (LocalBehind name.id scope) (VariableBehind A name.id scope) (declared (local_of name w) scope) _ (local_behind (local_of name w) scope (free_to_declare name.id scope free)) (λ n b.
    yields_ok (VariableBehind A name.id scope) (form n.0, n.1) types (record { stays = b.stays; named = b.named; is = tt }))

-- ---- declarations

abbrev pub DeclaredBehind : Identifier → Scope → DeclarationForm × Scope → Type 0
DeclaredBehind name scope = VariableBehind DeclarationForm name.id scope

pub declaration_behind : (t : DeclaredType) (name : Identifier) (i : Option Initializer) (scope : Scope) (types : Types) → Yields (DeclaredBehind name scope) (declaration_by t name i scope types)
declaration_behind (declared_type.Written t) name i scope types =
    yields_behind (DeclaredBehind name scope) (written_local t name.place scope types) _ (λ w.
    yields_behind (DeclaredBehind name scope) (given_first (type_at w.1 w.0.ty) i scope w.1) _ (λ v.
    yields_given_with _ (DeclaredBehind name scope) (allowed (lower_kind (redeclared scope name.id) (variable_fault v.1 (type_at w.1 w.0.ty) v.0)) name.place) _
    (finds_allowed (lower_kind (redeclared scope name.id) (variable_fault v.1 (type_at w.1 w.0.ty) v.0)) name.place) (λ _ fine.
    variable_behind DeclarationForm name scope w.0 (λ n. record { local = n; name = name; value = v.0 }) v.1 (lower_none (redeclared scope name.id) (variable_fault v.1 (type_at w.1 w.0.ty) v.0) fine).0)))
declaration_behind (declared_type.Auto a) name i scope types =
    yields_behind (DeclaredBehind name scope) (auto_given i scope types) _ (λ v.
    yields_given_with _ (DeclaredBehind name scope) (allowed (redeclared scope name.id) name.place) _ (finds_allowed (redeclared scope name.id) name.place) (λ _ fine.
    yields_behind (DeclaredBehind name scope) (auto_local a name.place v.0 scope v.1) _ (λ w.
    variable_behind DeclarationForm name scope w.0 (λ n. record { local = n; name = name; value = v.0 }) w.1 fine)))

-- ---- loops over ranges

abbrev IsFreeBehind : Identifier → Scope → RangeForm → Type 0
IsFreeBehind name scope r = redeclared scope name.id ≡ None

range_behind : (name : Identifier) (colon : Place) (e : Expr) (scope : Scope) (types : Types) → Yields (IsFreeBehind name scope) (range_of name colon e scope types)
range_behind name colon e scope types =
    yields_behind (IsFreeBehind name scope) (expr_meaning e scope types) _ (λ x.
    yields_given (IsFreeBehind name scope) (literal_allowed false x.0) _ (λ _.
    yields_given_with _ (IsFreeBehind name scope) (allowed (redeclared scope name.id) name.place) _ (finds_allowed (redeclared scope name.id) name.place) (λ _ fine.
    yields_given (IsFreeBehind name scope) (elements_of (range_element x.0.ty (is_constant x.0.category)) colon x.0) _ (λ r. yields_ok (IsFreeBehind name scope) r x.1 fine))))

abbrev pub HeadBehind : Identifier → Scope → RangeHead × Scope → Type 0
HeadBehind name scope = VariableBehind RangeHead name.id scope

pub head_behind : (t : DeclaredType) (name : Identifier) (colon : Place) (e : Expr) (scope : Scope) (types : Types) → Yields (HeadBehind name scope) (range_head t name colon e scope types)
head_behind (declared_type.Written t) name colon e scope types =
    yields_behind (HeadBehind name scope) (written_local t name.place scope types) _ (λ w.
    yields_then (IsFreeBehind name scope) (HeadBehind name scope) (range_of name colon e scope w.1) _ (range_behind name colon e scope w.1) (λ r free.
    yields_given (HeadBehind name scope) (allowed (value_fault kinds.WrongType r.1 (type_at w.1 w.0.ty) (element_type r.1 r.0.element) (element_place r.0.element)) name.place) _ (λ _.
    variable_behind RangeHead name scope w.0 (λ n. record { local = n; range = r.0.range }) r.1 free)))
head_behind (declared_type.Auto a) name colon e scope types =
    yields_then (IsFreeBehind name scope) (HeadBehind name scope) (range_of name colon e scope types) _ (range_behind name colon e scope types) (λ r free.
    yields_behind (HeadBehind name scope) (auto_written a name.place (element_type r.1 r.0.element) (element_place r.0.element) scope r.1) _ (λ w.
    variable_behind RangeHead name scope w.0 (λ n. record { local = n; range = r.0.range }) w.1 free))

-- ---- what a `for` begins with

abbrev pub StartBehind : Option ForStart → Tree → Scope → Option ForStartForm × Scope → Type 0
StartBehind start rest scope = MadeBehind (Option ForStartForm) (λ n. IsNamedTree n (for_clauses_form start rest)) (start_names start) scope

pub start_behind : (start : Option ForStart) (rest : Tree) (scope : Scope) (types : Types) → Yields (StartBehind start rest scope) (for_start_part start scope types)
start_behind None rest scope types = yields_ok (StartBehind None rest scope) (None, scope) types (record { stays = stays_not scope; named = λ n named all. all; is = tt })
start_behind (Some (for_start.Declaration d)) rest scope types =
    yields_then (DeclaredBehind d.value.name scope) (StartBehind (Some (for_start.Declaration d)) rest scope) (declaration_by d.value.ty d.value.name d.value.initializer scope types) _
    (declaration_behind d.value.ty d.value.name d.value.initializer scope types) (λ x b.
    yields_ok (StartBehind (Some (for_start.Declaration d)) rest scope) (Some (declared_first x.0.0), x.0.1) x.1 (record { stays = b.stays; named = λ n named. b.named n named.1.0; is = tt }))
start_behind (Some (for_start.Simple s)) rest scope types =
    yields_behind (StartBehind (Some (for_start.Simple s)) rest scope) (simple_statement s.value scope types) _ (λ y.
    yields_ok (StartBehind (Some (for_start.Simple s)) rest scope) (Some (done_first y.0), scope) y.1 (record { stays = stays_not scope; named = λ n named all. all; is = tt }))
