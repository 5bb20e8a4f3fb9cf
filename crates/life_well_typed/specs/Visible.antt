-- What is visible where a statement stands.
use Rattle.std.specs.Prelude.{ℕ, zero, suc, List, [], ◌∷◌, ◌++◌, Option, Some, None}
use Rattle.life_typed.specs.TypedStatement.{StmtForm, ForStartForm, block, empty, sentence, branching, while_loop, for_loop, range_loop, loop_break, loop_continue, returned, print, assertion, branch, declaration, no_more, chain, declared_first, done_first}

-- how many parameters and variables have been declared so far, in the order of the text; and the numbers of those whose block
-- hasn't ended, in their order
pub record Visible : Type 0 where
  pub declared : ℕ
  pub visible : List ℕ

-- the next variable is declared: it has the next number
abbrev pub with_next : Visible → Visible
with_next v = record { declared = suc v.declared; visible = v.visible ++ v.declared ∷ [] }

-- the parameters are visible in the whole body
abbrev pub with_parameters : ℕ → Visible
with_parameters zero = record { declared = 0; visible = [] }
with_parameters (suc n) = with_next (with_parameters n)

-- a block or a loop ends: what was visible before it is visible again, and numbers aren't used twice
abbrev pub behind : Visible → Visible → Visible
behind before after = record { declared = after.declared; visible = before.visible }

abbrev pub after_start : Option ForStartForm → Visible → Visible
after_start None v = v
after_start (Some (declared_first d)) v = with_next v
after_start (Some (done_first it)) v = v

-- behind a statement, or several
abbrev pub after : StmtForm → Visible → Visible
after (block items closing) v = behind v (after items v)
after (empty place) v = v
after (sentence it semicolon) v = v
after (branching branches last) v = after last (after branches v)
after (while_loop keyword decides closing body) v = behind v (after body v)
after (for_loop keyword start first decides second stepping closing body) v = behind v (after body (after_start start v))
after (range_loop keyword x name colon range closing body) v = behind v (after body (with_next v))
after (loop_break keyword semicolon) v = v
after (loop_continue keyword semicolon) v = v
after (returned keyword value semicolon) v = v
after (print items semicolon) v = v
after (assertion keyword decides closing semicolon) v = v
after (branch keyword decides closing body) v = behind v (after body v)
after (declaration d semicolon) v = with_next v
after no_more v = v
after (chain first others) v = after others (after first v)
