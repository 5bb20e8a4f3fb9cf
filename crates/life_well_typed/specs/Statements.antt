-- Statements that are well typed, in the order of their text.
use Rattle.std.specs.Prelude.{◌≡◌, ℕ, Bool, true, false, ◌&&◌, ◌||◌, not, List, [], ◌∷◌, Option, None, Some, is_none, slice_get}
use Rattle.life_types.specs.TypeTests.{is_void}
use Rattle.life_types.specs.declared.ty.Ty.{Ty}
use Rattle.life_types.specs.declared.ty.TyId.{TyId}
use Rattle.life_typed.specs.BaseTypes.{type_at}
use Rattle.life_typed.specs.Conversions.{fits}
use Rattle.life_typed.specs.Operators.{is_condition}
use Rattle.life_typed.specs.Programs.{ProgramForm}
use Rattle.life_typed.specs.Statements.{can_step, compounded, is_printed, range_element}
use Rattle.life_typed.specs.TypedForm.{Typed, forms, whole}
use Rattle.life_typed.specs.TypedStatement.{StmtForm, DeclarationForm, ForStartForm, InitialForm, ItemForm, SimpleForm, one, several, assign, compound, step, discarded, declared_first, done_first, printed, line_end, block, empty, sentence, branching, while_loop, for_loop, range_loop, loop_break, loop_continue, returned, print, assertion, branch, declaration, no_more, chain}
use Rattle.life_typed.specs.declared.typed_program.TypedLocal.{TypedLocal}
use Rattle.life_type_expr.specs.Lists.{fits_at_all}
use Rattle.life_type_expr.specs.Operands.{is_constant}
use Rattle.life_type_stmt.specs.Declarations.{default_fault}
use Rattle.life_type_stmt.specs.Ranges.{element_place, element_type}
use Rattle.life_type_stmt.specs.Returns.{moves_out}
use Rattle.life_type_stmt.specs.Simples.{is_place, named_in, self_fault, type_of, whole_fault}
use Rattle.life_well_typed.specs.Apart.{is_apart}
use Rattle.life_well_typed.specs.Expressions.{AreExpressions, IsExpression}
use Rattle.life_well_typed.specs.Given.{is_given}
use Rattle.life_well_typed.specs.Members.{is_listed}
use Rattle.life_well_typed.specs.Visible.{Visible, after, after_start, with_next}

-- it declares nothing that is visible behind it
abbrev pub is_one : StmtForm → Bool
is_one (declaration d semicolon) = false
is_one (chain first others) = false
is_one _ = true

-- the variable or parameter that is named
abbrev pub named_local : List TypedLocal → Option ℕ → Option TypedLocal
named_local locals None = None
named_local locals (Some x) = slice_get locals x

-- in a function with these parameters and variables that gives back this
module _ (p : ProgramForm) (locals : List TypedLocal) (result : TyId) where
  -- ---- parts of statements, where these variables are visible

  abbrev pub IsWhole : List ℕ → Typed → Type 0
  IsWhole visible e = IsExpression p locals visible (whole e)

  -- an expression that decides
  abbrev pub Decides : List ℕ → Typed → Type 0
  Decides visible e = (is_condition e.ty ≡ true) × IsWhole visible e

  abbrev pub DecidesIfAny : List ℕ → Option Typed → Type 0
  DecidesIfAny visible None = Unit {0}
  DecidesIfAny visible (Some e) = Decides visible e

  -- what is given to an object of a type
  abbrev pub IsGiven : List ℕ → Ty → InitialForm → Type 0
  IsGiven visible t (one e) = (is_given p.types t e ≡ true) × IsWhole visible e
  IsGiven visible t (several list) = (is_listed p.types t (forms list.elements) ≡ true) × AreExpressions p locals visible (forms list.elements)

  -- a place that isn't const
  abbrev pub IsTarget : List ℕ → Typed → Type 0
  IsTarget visible e = ((is_place e.ty e.category && not (is_constant e.category)) ≡ true) × IsWhole visible e

  -- a struct that is assigned as a whole has a copy, and nothing is moved onto itself
  abbrev pub is_assigned : Typed → InitialForm → Bool
  is_assigned target value = is_none (whole_fault p.types target.category) && is_none (self_fault target.form value)

  abbrev pub IsSimple : List ℕ → SimpleForm → Type 0
  IsSimple visible (assign target equals value) =
      IsTarget visible target × IsGiven visible (type_of target.ty) value × (is_assigned target value ≡ true)
  IsSimple visible (compound target o place e) =
      (fits_at_all (compounded o (type_of target.ty) e.ty) ≡ true) × IsTarget visible target × IsWhole visible e
  IsSimple visible (step target o place) = (can_step (type_of target.ty) ≡ true) × IsTarget visible target
  IsSimple visible (discarded e) = IsWhole visible e

  abbrev pub IsSimpleIfAny : List ℕ → Option SimpleForm → Type 0
  IsSimpleIfAny visible None = Unit {0}
  IsSimpleIfAny visible (Some it) = IsSimple visible it

  -- what is printed is a sum: `&&` and `||` stand in parentheses
  abbrev pub IsItem : List ℕ → ItemForm → Type 0
  IsItem visible (printed e) = (is_printed e.ty ≡ true) × (is_apart e.form ≡ true) × IsWhole visible e
  IsItem visible (line_end place) = Unit {0}

  abbrev pub AreItems : List ℕ → List ItemForm → Type 0
  AreItems visible [] = Unit {0}
  AreItems visible (i ∷ is) = IsItem visible i × AreItems visible is

  -- a std::unique_ptr that is named is moved out, and what is given back else fits the result
  abbrev pub is_given_back : Typed → Bool
  is_given_back e = moves_out (type_at p.types result) result (named_local locals (named_in e.form)) || is_given p.types (type_at p.types result) e

  -- a value is given back by a function that isn't void, and by no other one
  abbrev pub IsReturned : List ℕ → Option Typed → Type 0
  IsReturned visible None = is_void (type_at p.types result) ≡ true
  IsReturned visible (Some e) = (is_void (type_at p.types result) ≡ false) × (is_given_back e ≡ true) × IsWhole visible e

  -- ---- declarations

  -- a variable and what it is given: a reference is given something
  abbrev pub IsInitialised : List ℕ → Option TypedLocal → Option InitialForm → Type 0
  IsInitialised visible None value = ⊥
  IsInitialised visible (Some v) None = default_fault (type_at p.types v.ty) ≡ None
  IsInitialised visible (Some v) (Some value) = IsGiven visible (type_at p.types v.ty) value

  -- it has the next number, and isn't visible in what it is given
  abbrev pub IsDeclaration : DeclarationForm → Visible → Type 0
  IsDeclaration d v = (d.local ≡ v.declared) × IsInitialised v.visible (slice_get locals d.local) d.value

  abbrev pub IsStart : Option ForStartForm → Visible → Type 0
  IsStart None v = Unit {0}
  IsStart (Some (declared_first d)) v = IsDeclaration d v
  IsStart (Some (done_first it)) v = IsSimple v.visible it

  -- each element is given to the variable of a loop over a range
  abbrev pub TakesElements : Option TypedLocal → Option (TyId × Bool) → Type 0
  TakesElements None element = ⊥
  TakesElements (Some v) None = ⊥
  TakesElements (Some v) (Some element) = fits_at_all (fits p.types (type_at p.types v.ty) (element_type p.types element) (element_place element)) ≡ true

  -- the variable has the next number, and isn't visible in the range
  abbrev pub IsRange : ℕ → Typed → Visible → Type 0
  IsRange x range v =
      (x ≡ v.declared) × TakesElements (slice_get locals x) (range_element range.ty (is_constant range.category)) × IsWhole v.visible range

  -- ---- any statement

  -- .. which stands in a loop or not
  abbrev mutual
    pub IsStatement : StmtForm → (in_loop : Bool) → Visible → Type 0
    IsStatement (block items closing) in_loop v = IsStatement items in_loop v
    IsStatement (empty place) in_loop v = Unit {0}
    IsStatement (sentence it semicolon) in_loop v = IsSimple v.visible it
    IsStatement (branching branches last) in_loop v =
        AreBranches branches in_loop v × (is_one last ≡ true) × IsStatement last in_loop (after branches v)
    IsStatement (while_loop keyword decides closing body) in_loop v =
        Decides v.visible decides × (is_one body ≡ true) × IsStatement body true v
    IsStatement (for_loop keyword start first decides second stepping closing body) in_loop v =
        IsStart start v
        × DecidesIfAny (after_start start v).visible decides
        × IsSimpleIfAny (after_start start v).visible stepping
        × (is_one body ≡ true)
        × IsStatement body true (after_start start v)
    IsStatement (range_loop keyword x name colon range closing body) in_loop v =
        IsRange x range v × (is_one body ≡ true) × IsStatement body true (with_next v)
    IsStatement (loop_break keyword semicolon) in_loop v = in_loop ≡ true
    IsStatement (loop_continue keyword semicolon) in_loop v = in_loop ≡ true
    IsStatement (returned keyword value semicolon) in_loop v = IsReturned v.visible value
    IsStatement (print items semicolon) in_loop v = AreItems v.visible items
    IsStatement (assertion keyword decides closing semicolon) in_loop v = Decides v.visible decides
    IsStatement (branch keyword decides closing body) in_loop v = ⊥
    IsStatement (declaration d semicolon) in_loop v = IsDeclaration d v
    IsStatement no_more in_loop v = Unit {0}
    IsStatement (chain first others) in_loop v = IsStatement first in_loop v × IsStatement others in_loop (after first v)

    -- the branches of an `if`
    pub AreBranches : StmtForm → (in_loop : Bool) → Visible → Type 0
    AreBranches (chain (branch keyword decides closing body) others) in_loop v =
        Decides v.visible decides
        × (is_one body ≡ true)
        × IsStatement body in_loop v
        × AreBranches others in_loop (after (branch keyword decides closing body) v)
    AreBranches no_more in_loop v = Unit {0}
    AreBranches _ in_loop v = ⊥
