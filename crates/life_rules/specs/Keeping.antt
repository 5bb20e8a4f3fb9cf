-- Owners that a parameter of the function keeps as they are: what changes one of them.
use Rattle.std.specs.Prelude.{ℕ, Bool, false, cond, if◌then◌else◌, List, [], Option, Some, None, slice_get}
use Rattle.life_types.specs.Trees.{holds_owner}
use Rattle.life_types.specs.Types.{Types}
use Rattle.life_types.specs.declared.place.Place.{Place}
use Rattle.life_core.specs.Function.{Function}
use Rattle.life_core.specs.Operands.{Argument, Operand, Name, Through}
use Rattle.life_core.specs.Step.{Step, Copy, Move, Changes, Call}
use Rattle.life_core.specs.declared.program.Local.{Local}
use Rattle.life_pset.specs.Elements.{Input, called, owner_changed}
use Rattle.life_pset.specs.Shapes.{operand_type, tree_if}
use Rattle.life_pset.specs.declared.element.Cause.{Cause}
use Rattle.life_pset.specs.declared.element.Element.{Element}
use Rattle.life_pset.specs.declared.element.Element.TheVariants as element
use Rattle.life_pset.specs.declared.element.Fact.{Fact}
use Rattle.life_pset.specs.declared.element.Root.{Root}
use Rattle.life_pset.specs.declared.element.Root.TheVariants as root
use Rattle.life_contract.specs.Arguments.{is_mutating_argument}
use Rattle.life_contract.specs.Located.{is_location}
use Rattle.life_contract.specs.Signatures.{Signature}
use Rattle.life_rules.specs.Telling.{told}
use Rattle.life_rules.specs.Texts.{input_of}
use Rattle.life_rules.specs.declared.diag.Diag.{Diag}
use Rattle.life_rules.specs.declared.diag.DiagKind.TheVariants.{KeepsBroken}
use Rattle.life_rules.specs.declared.diag.Why.TheVariants as why

abbrev pub is_kept : Option Local → Bool
is_kept None = false
is_kept (Some l) = l.keeps

-- something behind the pointer of this input changes
abbrev pub kept_input : ℕ → Place → Cause → Option Input → List Diag
kept_input function place c None = []
kept_input function place c (Some i) = told function place KeepsBroken i.pointer (why.Cause c)

-- .. if its parameter keeps it
abbrev pub kept_parameter : Types → ℕ → Function → Place → Cause → (parameter : ℕ) → (member : Option ℕ) → List Diag
kept_parameter types function f place c q member = cond (is_kept (slice_get f.locals q)) (kept_input function place c (input_of types f q member)) []

abbrev pub kept_root : Types → ℕ → Function → Place → Cause → Root → List Diag
kept_root types function f place c (root.Local x) = []
kept_root types function f place c (root.Input q member) = kept_parameter types function f place c q member

-- .. where a pointer points through which it is changed
abbrev pub kept_target : Types → ℕ → Function → Place → Cause → Element → List Diag
kept_target types function f place c (element.At a) = kept_root types function f place c a.root
kept_target types function f place c _ = []

abbrev pub kept_through : Types → ℕ → Function → Place → Fact → Operand → List Diag
kept_through types function f place fact (Name l) = []
kept_through types function f place fact (Through p members) = cond (is_location p fact.location) (kept_target types function f place (owner_changed place) fact.element) []

-- .. or by a call
abbrev pub kept_by_call : Types → ℕ → Function → Place → (callee : ℕ) → Option Signature → List Argument → Fact → List Diag
kept_by_call types function f place g None xs fact = []
kept_by_call types function f place g (Some sig) xs fact = cond (is_mutating_argument types sig xs fact.location) (kept_target types function f place (called place g) fact.element) []

abbrev pub keeping_diags : List Signature → Types → ℕ → Function → Place → Step → Fact → List Diag
keeping_diags sigs types function f place (Copy to from) fact = if holds_owner (tree_if types (operand_type types f to)) then kept_through types function f place fact to else []
keeping_diags sigs types function f place (Move to y) fact = kept_through types function f place fact to
keeping_diags sigs types function f place (Changes o change) fact = kept_through types function f place fact o
keeping_diags sigs types function f place (Call target g xs) fact = kept_by_call types function f place g.0 (slice_get sigs g.0) xs fact
keeping_diags sigs types function f place _ fact = []
