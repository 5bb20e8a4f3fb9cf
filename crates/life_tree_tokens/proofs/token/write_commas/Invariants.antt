use Rattle.std.proofs.Common.{◌≡◌, ◌++◌, drop}
use Rattle.life_tree.specs.Separated.{comma_keys}
use Rattle.life_tree_tokens.proofs.token.write_commas.Given as goal

abbrev pub invariant-commas : goal.invariant-commas
invariant-commas l = l.keys.items ++ comma_keys (drop l._comma-index l.commas) ≡ l.initial.keys.items ++ comma_keys l.commas
