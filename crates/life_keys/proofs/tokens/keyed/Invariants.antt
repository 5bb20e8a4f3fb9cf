use Rattle.std.proofs.Common.{◌≡◌, ◌++◌, ◌+◌, ◌≤◌, drop, length, map}
use Rattle.life_keys.specs.Keys.{no_tables, tokens_from, tables_from}
use Rattle.life_lex.specs.Answers.{lexeme}
use Rattle.life_keys.proofs.tokens.keyed.Given as goal

abbrev pub invariant-loop-token : goal.invariant-loop-token
invariant-loop-token l =
    (l.tokens.items ++ tokens_from l.keyer (map lexeme (drop l.token-index l.lexed)) ≡ tokens_from no_tables (map lexeme l.lexed))
    × (tables_from l.keyer (map lexeme (drop l.token-index l.lexed)) ≡ tables_from no_tables (map lexeme l.lexed))
    × (length l.keyer.names ≤ l.token-index) × (length l.keyer.texts ≤ l.token-index)
