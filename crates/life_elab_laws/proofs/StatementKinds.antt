-- Of which kind each statement of a typed program is, by the expressions in it, and which types its functions have; each well typed one is of such a kind.
use Rattle.std.specs.Prelude.{ℕ, Bool, true, false, ◌&&◌, ◌||◌, not, if◌then◌else◌, List, [], ◌∷◌, take, length, Option, Some, None, slice_get}
use Rattle.life_types.specs.TypeTests.{is_unique}
use Rattle.life_types.specs.Types.{Types}
use Rattle.life_types.specs.declared.ty.Ty.{Ty}
use Rattle.life_typed.specs.BaseTypes.{type_at}
use Rattle.life_typed.specs.Conversions.{is_const_place, is_place}
use Rattle.life_typed.specs.Statements.{range_element}
use Rattle.life_typed.specs.TypedForm.{call, Form, forms, method, null, paren, text, typed, Typed, whole}
use Rattle.life_typed.specs.TypedStatement.{StmtForm, DeclarationForm, ForStartForm, InitialForm, ItemForm, SimpleForm, one, several, assign, compound, step, discarded, declared_first, done_first, printed, line_end, block, empty, sentence, branching, while_loop, for_loop, range_loop, loop_break, loop_continue, returned, print, assertion, branch, declaration, no_more, chain}
use Rattle.life_typed.specs.declared.typed_program.TypedLocal.{TypedLocal}
use Rattle.life_typed.specs.Programs.{FunctionForm, ProgramForm}
use Rattle.life_elab_laws.proofs.ObjectTypes.{are_admitted_parameters, are_admitted_variables, is_admitted_result}
use Rattle.life_elab_laws.proofs.TypeKinds.{form_type, gives_nothing, is_owner_type, is_vector_type, is_view_type, is_walker, lists_members, takes_elements, takes_list, takes_owner, takes_struct, takes_value}
use Rattle.life_elab_laws.proofs.FormKinds.{are_read_arguments, are_read_elements, are_read_listed, is_changing, is_read_any, is_read_condition, is_read_condition_if, is_read_expression, is_read_fresh, is_read_object, is_read_owner, is_read_owning, is_read_struct, is_read_unique, is_read_walker, is_reset}
use Rattle.life_typed.specs.declared.typed_expr.Method.{Method}

-- in a program, whose core program has so many texts
module _ (texts : ℕ) (program : ProgramForm) where
  abbrev types : Types
  types = program.types

  -- ---- declarations and simple statements

  -- an owner, a view, a span or a reference is given an owner, an iterator or a span another one, a unique_ptr what another one owns, or a struct or a reference a struct
  abbrev pub is_read_owned : Ty → Typed → Bool
  is_read_owned t e =
      (takes_owner t && is_read_owning texts program e)
      || ((is_walker t && is_read_walker texts program (whole e)) || ((is_unique t && is_read_fresh texts program (whole e)) || (takes_struct t && is_read_struct texts program (whole e))))

  abbrev pub is_read_given : Ty → Typed → Bool
  is_read_given t e = (takes_value t && is_read_expression texts program e) || is_read_owned t e

  abbrev pub is_read_initial : Ty → Option InitialForm → Bool
  is_read_initial t None = true
  is_read_initial t (Some (one e)) = is_read_given t e
  is_read_initial t (Some (several list)) = takes_list types t && are_read_listed texts program (lists_members types t) (forms list.elements)

  abbrev pub is_read_declared : Option TypedLocal → Option InitialForm → Bool
  is_read_declared None value = true
  is_read_declared (Some v) value = is_read_initial (type_at types v.ty) value

  -- an owner that is assigned to: one at a place, or one that is made, which is a temporary
  abbrev pub is_read_target : Typed → Bool
  is_read_target e = is_owner_type e.ty && (is_read_object texts program (whole e) || (not (is_place e.category) && is_read_owner texts program (whole e)))

  -- an owner is copied or made, also of a literal, a view sees a string, a span a vector, an iterator or a span becomes another one, a unique_ptr owns nothing more or another value, or a struct is copied, also one that is made
  abbrev pub is_read_renewed : (target e : Typed) → Bool
  is_read_renewed target e =
      (is_read_target target && is_read_any texts program e)
      || (((is_view_type target.ty && is_read_expression texts program target) && is_read_owning texts program e)
      || ((is_read_walker texts program (whole target) && (is_read_walker texts program (whole e) || is_read_owning texts program e)) || ((is_read_unique texts program (whole target) && (is_read_expression texts program e || is_read_fresh texts program (whole e))) || (is_read_struct texts program (whole target) && is_read_struct texts program (whole e)))))

  -- .. or anything else a value, or a vector elements, or a struct members
  abbrev pub is_read_assigned : Typed → InitialForm → Bool
  is_read_assigned target (one e) = (is_read_expression texts program target && is_read_expression texts program e) || is_read_renewed target e
  is_read_assigned target (several list) =
      (is_read_target target && (is_vector_type target.ty && are_read_elements texts program (forms list.elements))) || (is_read_struct texts program (whole target) && are_read_arguments texts program (forms list.elements))

  -- what is given back
  abbrev pub is_read_returned : Option Typed → Bool
  is_read_returned None = true
  is_read_returned (Some e) = is_read_any texts program e || (is_read_walker texts program (whole e) || (is_read_struct texts program (whole e) || (is_read_fresh texts program (whole e) || is_read_unique texts program (whole e))))

  -- of numbers, or a string gains characters
  abbrev pub is_read_compound : (target e : Typed) → Bool
  is_read_compound target e = (is_read_expression texts program target && is_read_expression texts program e) || (is_read_owning texts program target && is_read_any texts program e)

  abbrev pub is_read_stepped : Typed → Bool
  is_read_stepped target = is_read_expression texts program target || is_read_walker texts program (whole target)

  -- a change of an owner
  abbrev pub is_read_change : (base : Form) → Method → (arguments : Form) → Bool
  is_read_change base called arguments = is_changing called && (is_owner_type (form_type base) && (is_read_owner texts program base && are_read_elements texts program arguments))

  -- what gives nothing: a call, a change of an owner or of a unique_ptr, nullptr or a literal, also in parentheses
  abbrev pub is_read_doing : Form → Bool
  is_read_doing null = true
  is_read_doing (text n) = true
  is_read_doing (call f arguments delimiters) = are_read_arguments texts program arguments
  is_read_doing (method base called arguments delimiters) =
      is_read_change base called arguments || (is_reset called && is_read_unique texts program base)
  is_read_doing (paren inner closing) = is_read_doing inner
  is_read_doing (typed place t category form) = is_read_doing form
  is_read_doing _ = false

  -- it is done, or what it gives is thrown away, whatever that is
  abbrev pub is_read_alone : Typed → Bool
  is_read_alone e = if gives_nothing e.ty then is_read_doing (whole e) else (is_read_any texts program e || (is_read_walker texts program (whole e) || (is_read_struct texts program (whole e) || is_read_unique texts program (whole e))))

  abbrev pub is_read_simple : SimpleForm → Bool
  is_read_simple (assign target equals initial) = is_read_assigned target initial
  is_read_simple (compound target operator place e) = is_read_compound target e
  is_read_simple (step target operator place) = is_read_stepped target
  is_read_simple (discarded e) = is_read_alone e

  abbrev pub is_read_step : Option SimpleForm → Bool
  is_read_step None = true
  is_read_step (Some it) = is_read_simple it

  abbrev pub is_read_item : ItemForm → Bool
  is_read_item (printed e) = is_read_any texts program e
  is_read_item (line_end place) = true

  abbrev pub are_read_items : List ItemForm → Bool
  are_read_items [] = true
  are_read_items (i ∷ is) = is_read_item i && are_read_items is

  -- ---- loops over ranges

  -- an owner that is there or made, a view or a span
  abbrev pub is_read_range : Typed → Bool
  is_read_range e = is_read_owning texts program e || ((is_view_type e.ty && is_read_expression texts program e) || is_read_walker texts program (whole e))

  -- ---- statements

  -- in a function with these parameters and variables
  module _ (locals : List TypedLocal) where
    abbrev pub is_read_declaration : DeclarationForm → Bool
    is_read_declaration d = is_read_declared (slice_get locals d.local) d.value

    abbrev pub is_read_start : Option ForStartForm → Bool
    is_read_start None = true
    is_read_start (Some (declared_first d)) = is_read_declaration d
    is_read_start (Some (done_first it)) = is_read_simple it

    abbrev pub is_read_statement : StmtForm → Bool
    is_read_statement (block items closing) = is_read_statement items
    is_read_statement (empty place) = true
    is_read_statement (sentence it semicolon) = is_read_simple it
    is_read_statement (branching branches last) = is_read_statement branches && is_read_statement last
    is_read_statement (while_loop keyword decides closing body) = is_read_condition texts program decides && is_read_statement body
    is_read_statement (for_loop keyword start first decides second stepping closing body) =
        is_read_start start && (is_read_condition_if texts program decides && (is_read_step stepping && is_read_statement body))
    is_read_statement (range_loop keyword x name colon range closing body) =
        is_read_range range && (takes_elements types (slice_get locals x) (range_element range.ty (is_const_place range.category)) && is_read_statement body)
    is_read_statement (loop_break keyword semicolon) = true
    is_read_statement (loop_continue keyword semicolon) = true
    is_read_statement (returned keyword value semicolon) = is_read_returned value
    is_read_statement (print items semicolon) = are_read_items items
    is_read_statement (assertion keyword decides closing semicolon) = is_read_condition texts program decides
    is_read_statement (branch keyword decides closing body) = is_read_condition texts program decides && is_read_statement body
    is_read_statement (declaration d semicolon) = is_read_declaration d
    is_read_statement no_more = true
    is_read_statement (chain first others) = is_read_statement first && is_read_statement others

-- ---- functions

abbrev pub is_read_function : (texts : ℕ) → ProgramForm → FunctionForm → Bool
is_read_function texts program f =
    is_admitted_result program.types f.result
    && (are_admitted_parameters program.types (take (length f.parameters) f.locals) && (are_admitted_variables program.types f.locals && is_read_statement texts program f.locals f.body))

abbrev pub are_read_functions : (texts : ℕ) → ProgramForm → List FunctionForm → Bool
are_read_functions texts program [] = true
are_read_functions texts program (f ∷ fs) = is_read_function texts program f && are_read_functions texts program fs
