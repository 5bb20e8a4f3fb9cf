-- How reading goes, which nobody need believe: readers of parts of statements, each as a function of the program reads one.
use Rattle.std.specs.Prelude.{ℕ, Bool, ◌&&◌, ◌||◌, if◌then◌else◌, List, [], ◌∷◌}
use Rattle.life_stmt.specs.Fronts.{mapped, behind}
use Rattle.life_expr.specs.Heads.{Kind, quoted_kind, name_kind}
use Rattle.life_expr.specs.Read.{Reader, Read, reads}
use Rattle.life_expr.specs.Readers.{Readers, simple_parts}
use Rattle.life_tree.specs.Grammar.{Form, none, quoted, ◌or◌, assignment, step, ending, ends_in_arguments}
use Rattle.life_expr.specs.Types.{flat}
use Rattle.life_tree.specs.Rules as rules
use Rattle.life_tree.specs.Tree.{Tree, node, is_empty}
use Rattle.life_tree.specs.Views.{postfix_part_tree}
use Rattle.life_tree.specs.declared.fixed.TheConstants as fixed
use Rattle.life_tree.specs.declared.primary.PostfixPart.{PostfixPart}

abbrev pub assignment_heads : List Kind
assignment_heads =
    quoted_kind fixed.ASSIGN ∷ quoted_kind fixed.PLUS_ASSIGN ∷ quoted_kind fixed.MINUS_ASSIGN ∷ quoted_kind fixed.STAR_ASSIGN
    ∷ quoted_kind fixed.SLASH_ASSIGN ∷ quoted_kind fixed.PERCENT_ASSIGN ∷ []

-- what stands behind a name that is a type
abbrev pub type_behinds : List (List Kind)
type_behinds = (quoted_kind fixed.STAR ∷ []) ∷ (quoted_kind fixed.AMPERSAND ∷ []) ∷ (name_kind ∷ []) ∷ []

-- what stands behind `std` where that begins a declaration
abbrev pub std_types : List (List Kind)
std_types =
    (quoted_kind fixed.SCOPE ∷ quoted_kind fixed.SIZE_T ∷ []) ∷ (quoted_kind fixed.SCOPE ∷ quoted_kind fixed.STRING_VIEW ∷ [])
    ∷ (quoted_kind fixed.SCOPE ∷ quoted_kind fixed.VECTOR ∷ []) ∷ (quoted_kind fixed.SCOPE ∷ quoted_kind fixed.UNIQUE_PTR ∷ [])
    ∷ (quoted_kind fixed.SCOPE ∷ quoted_kind fixed.STRING ∷ quoted_kind fixed.STAR ∷ [])
    ∷ (quoted_kind fixed.SCOPE ∷ quoted_kind fixed.STRING ∷ quoted_kind fixed.AMPERSAND ∷ [])
    ∷ (quoted_kind fixed.SCOPE ∷ quoted_kind fixed.STRING ∷ name_kind ∷ []) ∷ []

abbrev pub assignment_with : ℕ → Readers → Reader
assignment_with n inside = reads n inside (simple_parts n inside) assignment

-- a simple statement, where its target is read
abbrev pub behind_target : Tree → Read → Read
behind_target target read = mapped (λ t. node rules.simple t) (behind target read)

abbrev pub step_at : Reader
step_at = flat step

abbrev pub compound_at : Reader
compound_at = flat (quoted fixed.PLUS_ASSIGN or quoted fixed.MINUS_ASSIGN or quoted fixed.STAR_ASSIGN or quoted fixed.SLASH_ASSIGN or quoted fixed.PERCENT_ASSIGN)

-- what may stand behind a target
abbrev pub ending_with : ℕ → Readers → Tree → Reader
ending_with n inside target = reads n inside (simple_parts n inside) (ending target)

-- whether an operand ends in arguments, where it does or not before this part
abbrev pub call_after : Bool → PostfixPart → Bool
call_after before part = ends_in_arguments (postfix_part_tree part) || (is_empty (postfix_part_tree part) && before)

-- whether this ends in arguments, where what stands before it does or not
abbrev pub call_behind : Bool → Tree → Bool
call_behind before t = ends_in_arguments t || (is_empty t && before)

-- what may stand behind a target without a star, which is a call or not
abbrev pub operand_ending : Bool → Form
operand_ending call = if call then (assignment or step or none) else (assignment or step)

abbrev pub operand_ending_with : ℕ → Readers → Bool → Reader
operand_ending_with n inside call = reads n inside (simple_parts n inside) (operand_ending call)
