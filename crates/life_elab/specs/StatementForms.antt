-- Statements of every form (ISO/IEC 14882:2017 [stmt.stmt]).
use Rattle.std.specs.Prelude.{ℕ, List, [], ◌∷◌, Option, Some, None, length, pos, if◌then◌else◌, slice_get}
use Rattle.life_types.specs.TypeTests.{is_value}
use Rattle.life_types.specs.Types.{class}
use Rattle.life_types.specs.declared.place.Place.{Place}
use Rattle.life_types.specs.declared.ty.Class.{Class}
use Rattle.life_types.specs.declared.ty.Class.TheVariants as classes
use Rattle.life_types.specs.declared.ty.Ty.{Ty}
use Rattle.life_types.specs.declared.ty.Ty.TheVariants as ty
use Rattle.life_typed.specs.TypedForm.{Typed}
use Rattle.life_typed.specs.TypedForm as form
use Rattle.life_typed.specs.TypedStatement.{StmtForm, ForStartForm, ItemForm, declared_first, done_first, printed, line_end, block, empty, sentence, branching, while_loop, for_loop, range_loop, loop_break, loop_continue, returned, print, assertion, branch, declaration, no_more, chain}
use Rattle.life_core.specs.Step.{Ports, Writes, WritesView}
use Rattle.life_core.specs.Tree.{Tree, Breaks, Continues, Returns}
use Rattle.life_core.specs.declared.instr.Form.TheVariants.{Plain}
use Rattle.life_writer.specs.Around.{Around, result_local, type_of}
use Rattle.life_writer.specs.Assigning.{moved}
use Rattle.life_writer.specs.Behind.{ending}
use Rattle.life_writer.specs.Building.{Destination}
use Rattle.life_writer.specs.Characters.{seen, viewed}
use Rattle.life_writer.specs.Conditions.{non_zero}
use Rattle.life_writer.specs.ExpressionForms.{uses}
use Rattle.life_writer.specs.Giving.{initial}
use Rattle.life_writer.specs.Registers.{computed, constant}
use Rattle.life_writer.specs.Temporaries.{temporary}
use Rattle.life_writer.specs.Uses.{Remaining, Uses, lived, own}
use Rattle.life_writer.specs.Using.{condition, value}
use Rattle.life_writer.specs.Variables.{end_since, full, object_at, variable}
use Rattle.life_writer.specs.Writing.{State, Gives, gives, ◌>>◌, emit, mapped}
use Rattle.life_elab.specs.DeclarationForms.{declared}
use Rattle.life_elab.specs.LastTokens.{last_token}
use Rattle.life_elab.specs.RangeForms.{ranged}
use Rattle.life_elab.specs.SimpleForms.{simple, simple_if}
use Rattle.life_elab.specs.Statements.{Opened, asserted, branched, left, line, looped, opened}

-- ---- what a function returns

-- the object that is named, unless that refers to another
abbrev pub object_named : Option ℕ → State → Option ℕ
object_named None s = None
object_named (Some x) s = object_at (slice_get s.locals (variable s x)) (variable s x)

-- an owner is moved out of what is named ([class.copy.elision]), and what anything else needs is told by `other`
abbrev pub moved_out : Class → Option ℕ → (other : State → Gives Remaining) → State → Gives Remaining
moved_out classes.Owner (Some x) other s = gives (lived Plain (moved x)) s
moved_out _ _ other s = other s

-- ---- what is printed

-- a value, or characters that are seen
abbrev pub written : Uses → (behind : Place) → State → State
written e behind s =
    if is_value (own e) then (value e behind (own e) None s >> λ r s. emit e.place (Ports (Writes r)) s)
    else (seen e s >> λ x s. viewed x s >> λ l s. emit e.place (Ports (WritesView l)) s)

module _ (a : Around) where
  -- what is built there comes to life at the keyword
  abbrev pub result : (keyword : Place) → Destination
  result keyword = record { begins = λ s. gives (result_local a) s; place = keyword }

  abbrev pub result_by : Class → Uses → Ty → (keyword behind : Place) → State → State
  result_by classes.Value e t keyword behind s = (value e behind t (Some (result_local a)) s).state
  result_by kind e t keyword behind s =
      (moved_out kind (object_named e.named s) (initial a temporary e t behind) s >> λ rest s. rest (result keyword) s).state

  abbrev pub given_back : Typed → (keyword behind : Place) → State → State
  given_back e keyword behind s =
      result_by (class (Some (type_of a a.function.result))) (uses a (form.whole e)) (type_of a a.function.result) keyword behind s

  -- a full expression
  abbrev pub result_given : Option Typed → (keyword behind : Place) → State → State
  result_given None keyword behind s = s
  result_given (Some e) keyword behind s = full behind (given_back e keyword behind) s

  -- ---- output

  abbrev pub item : ItemForm → (behind : Place) → State → State
  item (printed e) behind s = written (uses a (form.whole e)) behind s
  item (line_end place) behind s = line a place s

  abbrev pub items : List ItemForm → (behind : Place) → State → State
  items [] behind s = s
  items (i ∷ is) behind s = items is behind (item i behind s)

  -- all of them are one full expression
  abbrev pub output : List ItemForm → (behind : Place) → State → State
  output is behind s = full behind (items is behind) s

  -- ---- conditions and starts of loops

  abbrev pub decided : Typed → (behind : Place) → State → Gives Tree
  decided e behind s = condition (uses a (form.whole e)) (ending behind) s

  -- a condition that is left out always holds
  abbrev pub condition_or_true : (keyword : Place) → Option Typed → (behind : Place) → State → Gives Tree
  condition_or_true keyword None behind s = non_zero keyword None (computed None ty.Bool keyword (constant (pos 1))) s
  condition_or_true keyword (Some e) behind s = decided e behind s

  abbrev pub started : Option ForStartForm → (behind : Place) → State → State
  started None behind s = s
  started (Some (declared_first d)) behind s = declared a d behind s
  started (Some (done_first it)) behind s = simple a it behind s

  -- ---- any statement

  abbrev mutual
    pub statement : StmtForm → State → State
    statement (block inner closing) s = end_since closing (length s.living) (statement inner s)
    statement (empty place) s = s
    statement (sentence it semicolon) s = simple a it semicolon s
    statement (branching branches last) s = branches_of branches (statement last) s
    statement (while_loop keyword decides closing body) s = looped (decided decides closing) (statement body) (λ s. s) s
    statement (for_loop keyword start first decides second step closing body) s =
        end_since (last_token body closing) (length s.living)
        (looped (condition_or_true keyword decides second) (statement body) (simple_if a step closing) (started start first s))
    statement (range_loop keyword x name colon range closing body) s =
        ranged a (slice_get a.function.locals x) colon closing (last_token body closing) (uses a (form.whole range)) (statement body) s
    statement (loop_break keyword semicolon) s = left s.outside keyword Breaks s
    statement (loop_continue keyword semicolon) s = left s.outside keyword Continues s
    statement (returned keyword e semicolon) s = left 0 keyword (Returns keyword) (result_given e keyword semicolon s)
    statement (print is semicolon) s = output is semicolon s
    statement (assertion keyword decides closing semicolon) s = asserted (decided decides closing) keyword s
    statement (branch keyword decides closing body) s = s
    statement (declaration d semicolon) s = declared a d semicolon s
    statement no_more s = s
    statement (chain first others) s = statement others (statement first s)

    -- the branches of an `if` one in the other, and what is done where no condition holds
    pub branches_of : StmtForm → (State → State) → State → State
    branches_of (chain (branch keyword decides closing body) others) last s =
        branched (decided decides closing) (statement body) (branches_of others last) s
    branches_of _ last s = last s

  -- the branches of an `if`, up to what is done where no condition holds
  abbrev pub opened_all : StmtForm → State → Gives (List Opened)
  opened_all (chain (branch keyword decides closing body) others) s =
      opened (decided decides closing) (statement body) s >> λ o s. mapped (λ os. o ∷ os) (opened_all others s)
  opened_all _ s = gives [] s
