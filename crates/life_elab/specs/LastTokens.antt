-- The last tokens of statements.
use Rattle.life_types.specs.declared.place.Place.{Place}
use Rattle.life_typed.specs.TypedStatement.{StmtForm, block, empty, sentence, branching, while_loop, for_loop, range_loop, loop_break, loop_continue, returned, print, assertion, branch, declaration, no_more, chain}

-- the last token of a statement, or the one before where there is none
abbrev pub last_token : StmtForm → Place → Place
last_token (block items closing) before = closing
last_token (empty place) before = place
last_token (sentence simple semicolon) before = semicolon
last_token (branching branches last) before = last_token last (last_token branches before)
last_token (while_loop keyword condition closing body) before = last_token body closing
last_token (for_loop keyword start first condition second step closing body) before = last_token body closing
last_token (range_loop keyword local name colon range closing body) before = last_token body closing
last_token (loop_break keyword semicolon) before = semicolon
last_token (loop_continue keyword semicolon) before = semicolon
last_token (returned keyword value semicolon) before = semicolon
last_token (print items semicolon) before = semicolon
last_token (assertion keyword condition closing semicolon) before = semicolon
last_token (branch keyword condition closing body) before = last_token body closing
last_token (declaration d semicolon) before = semicolon
last_token no_more before = before
last_token (chain first others) before = last_token others (last_token first before)
