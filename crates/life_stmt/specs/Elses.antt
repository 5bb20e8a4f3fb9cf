-- How reading goes, which nobody need believe: reading what follows the first branch of an `if`, branch by branch.
use Rattle.std.specs.Prelude.{◌≡◌, ℕ, false, Result, Ok, Err, Option, Some, None, List, [], ◌∷◌, map, option_map}
use Rattle.life_stmt.specs.Fronts.{mapped}
use Rattle.life_expr.specs.Gives.{Fails}
use Rattle.life_expr.specs.Heads.{Kind, quoted_kind}
use Rattle.life_expr.specs.Read.{Reader, reads}
use Rattle.life_expr.specs.Readers.{Readers, no_reader, else_parts, begins}
use Rattle.life_expr.specs.declared.stop.Stop.{Stop as Fault}
use Rattle.life_stmt.specs.declared.statements.ElseParts.{ElseParts}
use Rattle.life_tree.specs.Grammar.{no_else, quoted, ◌then◌, ◌or◌, rule}
use Rattle.life_tree.specs.Rules as rules
use Rattle.life_tree.specs.Tree.{Tree, node, without_else, ◌⨾◌, Tokens}
use Rattle.life_tree.specs.Views.{BranchView, ElseIfView, at, else_if_view, else_part_tree, else_tree}
use Rattle.life_tree.specs.declared.fixed.TheConstants as fixed
use Rattle.life_types.specs.declared.place.Place.{Place}

abbrev pub else_if_kinds : List Kind
else_if_kinds = quoted_kind fixed.ELSE ∷ quoted_kind fixed.IF ∷ []

-- a branch behind an `else`
abbrev pub else_if_with : ℕ → Readers → Reader
else_if_with n inside = reads n inside (else_parts no_reader n inside) (quoted fixed.ELSE then quoted fixed.IF then rule rules.condition then rule rules.statement)

-- the last `else`, where it stands
abbrev pub last_else_with : ℕ → Readers → Reader
last_else_with n inside = reads n inside (else_parts no_reader n inside) ((quoted fixed.ELSE then rule rules.plain) or no_else)

abbrev pub else_if_front : ElseIfView → Tree
else_if_front e = at fixed.ELSE e.keyword ⨾ at fixed.IF e.branch.keyword ⨾ e.branch.condition ⨾ e.branch.body

abbrev pub branch_from : Place → Tree → Tree → BranchView
branch_from keyword condition body = record { keyword = keyword; condition = condition; body = body }

-- what follows a branch, behind it
abbrev pub attach : Tree → Tree → Tree
attach (a ⨾ (b ⨾ (c ⨾ d))) t = node rules.else_part (a ⨾ b ⨾ c ⨾ d ⨾ t)
attach _ t = t

-- these branches, and then what follows
abbrev pub elses_before : List ElseIfView → Tree → Tree
elses_before [] t = t
elses_before (e ∷ es) t = node rules.else_part (at fixed.ELSE e.keyword ⨾ at fixed.IF e.branch.keyword ⨾ e.branch.condition ⨾ e.branch.body ⨾ elses_before es t)

abbrev pub elses_view : ElseParts → Tree
elses_view e = else_part_tree (map else_if_view e.more.items) (option_map else_tree e.last)

-- These branches were read, and no other is next.
pub record BranchesRead (whole : Reader) (branches : List ElseIfView) (ts rest : Tokens) : Type 0 where
  pub so_far : whole ts ≡ mapped (elses_before branches) (whole rest)
  pub no_more : begins else_if_kinds rest ≡ false

abbrev pub last_form : Option Tree → Tree
last_form None = without_else
last_form (Some last) = last

-- .. unless reading stopped
abbrev pub BranchesGiven : {X : Type 0} → (X → List ElseIfView × Tokens) → Result X Fault → Reader → Tokens → Type 0
BranchesGiven view (Ok x) whole ts = BranchesRead whole (view x).0 ts (view x).1
BranchesGiven view (Err e) whole ts = Fails e (whole ts)
