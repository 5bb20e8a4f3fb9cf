-- Declarations from their trees.
use Rattle.std.proofs.Common.{◌≡◌, Option, None, Some, refl, ap, sym, subst, ◌∙◌}
use Rattle.std.specs.Prelude.{if◌then◌else◌, option_map}
use Rattle.std.specs.declared.alloc.Global.{Global}
use Rattle.life_tree.specs.Rules as rules
use Rattle.life_tree.specs.Tree.{Tree, node, ◌⨾◌}
use Rattle.life_tree.specs.declared.declaration.AutoType.{AutoType}
use Rattle.life_tree.specs.declared.declaration.Declaration.{Declaration}
use Rattle.life_tree.specs.declared.declaration.DeclaredType.{DeclaredType}
use Rattle.life_tree.specs.declared.declaration.DeclaredType.TheVariants as declared_type
use Rattle.life_tree.specs.declared.declaration.Initializer.{Initializer}
use Rattle.life_tree.specs.declared.declaration.Initializer.TheVariants as initializer
use Rattle.life_tree.specs.declared.declaration.InitialValue.{InitialValue}
use Rattle.life_tree.specs.declared.declaration.InitialValue.TheVariants as initial_value
use Rattle.life_tree.specs.declared.fixed.TheConstants as fixed
use Rattle.life_tree.specs.declared.type_name.Base.TheFolds.{fold_out-TypeName}
use Rattle.life_tree.specs.declared.type_name.TypeName.{TypeName}
use Rattle.life_tree.specs.Views.{TypeView, at, optional_tree, whole_type, type_view, base_step, argument_step, type_step, declared_type_tree, initial_tree, initializer_form, initializer_tree, declaration_tree, expr_tree, init_list_tree}
use Rattle.life_unique.specs.SettledDeclarations.{settled_declared_type, settled_initial, settled_initializer, settled_declaration}
use Rattle.life_unique.specs.Standing.{boxed_at}
use Rattle.life_unique.proofs.ExpressionsFrom.{from_expr, from_init_list}
use Rattle.life_unique.proofs.ExpressionsFound.{expr_found, init_list_found, expr_is_list, init_list_is_list, init_list_is_nothing}
use Rattle.life_unique.proofs.Tokens.{place_of, name_of, place_if, place_if_is, is_nothing, is_list, is_pair, front, behind, derived}
use Rattle.life_unique.proofs.TypesFound.{type_found}
use Rattle.life_unique.proofs.TypesFrom.{from_type}

-- ---- from trees

abbrev auto_of : Tree → AutoType
auto_of t = record { constant = place_if (front t); keyword = place_of (front (behind t)); reference = place_if (behind (behind t)) }

module _ (g : Global) where
  abbrev pub from_declared_type : Tree → DeclaredType
  from_declared_type t =
      if is_pair (behind (derived t)) then declared_type.Auto (auto_of (derived t)) else declared_type.Written (from_type g t)

  abbrev initial_of : Tree → InitialValue
  initial_of t = if is_list t then initial_value.List (from_init_list g t) else initial_value.Expr (boxed_at g (from_expr g t))

  abbrev pub from_initial : Tree → InitialValue
  from_initial t = initial_of (derived t)

  abbrev initializer_of : Tree → Option Initializer
  initializer_of t =
      if is_nothing t then None
      else (if is_list t then Some (initializer.List (from_init_list g t))
      else Some (initializer.Equals (place_of (front t)) (from_initial (behind t))))

  abbrev pub from_initializer : Tree → Option Initializer
  from_initializer t = initializer_of (derived t)

  -- a declaration, by its parts
  abbrev pub declared : Tree → Tree → Tree → Declaration
  declared ty name i = record { ty = from_declared_type ty; name = name_of name; initializer = from_initializer i }

  abbrev pub from_declaration : Tree → Declaration
  from_declaration t = declared (front (derived t)) (front (behind (derived t))) (behind (behind (derived t)))

  -- ---- which give them back, settled

  -- a type that is written looks like no `auto`, and is found behind another rule's name, too
  written_is : (t : TypeName) →
      from_declared_type (node rules.declared_type (optional_tree (at fixed.CONST) (type_view t).constant ⨾ (type_view t).unqualified))
      ≡ declared_type.Written (from_type g (whole_type (type_view t)))
  written_is t = subst (λ (v : TypeView). from_declared_type (node rules.declared_type (optional_tree (at fixed.CONST) v.constant ⨾ v.unqualified))
      ≡ declared_type.Written (from_type g (whole_type v)))
      (sym (fold_out-TypeName Tree Tree TypeView base_step argument_step type_step t)) refl

  pub declared_type_found : (t : DeclaredType) → from_declared_type (declared_type_tree t) ≡ settled_declared_type t
  declared_type_found (declared_type.Written ty) = written_is ty ∙ ap (λ z. declared_type.Written z) (type_found g ty)
  declared_type_found (declared_type.Auto ty) = λ i. declared_type.Auto
      (record { constant = place_if_is fixed.CONST ty.constant i; keyword = ty.keyword; reference = place_if_is fixed.AMPERSAND ty.reference i })

  pub initial_found : (v : InitialValue) → from_initial (initial_tree v) ≡ settled_initial v
  initial_found (initial_value.Expr e) = λ i.
      if expr_is_list e.value i then initial_value.List (from_init_list g (expr_tree e.value)) else initial_value.Expr (boxed_at g (expr_found g e.value i))
  initial_found (initial_value.List l) = λ i.
      if init_list_is_list l i then initial_value.List (init_list_found g l i) else initial_value.Expr (boxed_at g (from_expr g (init_list_tree l)))

  some_initializer : (v : Initializer) → initializer_of (initializer_form v) ≡ Some (settled_initializer v)
  some_initializer (initializer.Equals equals v) = λ i. Some (initializer.Equals equals (initial_found v i))
  some_initializer (initializer.List l) = λ i.
      if init_list_is_nothing l i then None
      else (if init_list_is_list l i then Some (initializer.List (init_list_found g l i))
      else Some (initializer.Equals (place_of (front (init_list_tree l))) (from_initial (behind (init_list_tree l)))))

  pub initializer_found : (v : Option Initializer) → from_initializer (initializer_tree v) ≡ option_map settled_initializer v
  initializer_found None = refl
  initializer_found (Some v) = some_initializer v

  pub declaration_found : (d : Declaration) → from_declaration (declaration_tree d) ≡ settled_declaration d
  declaration_found d = λ i. record { ty = declared_type_found d.ty i; name = d.name; initializer = initializer_found d.initializer i }
