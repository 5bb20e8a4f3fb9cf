use Rattle.std.proofs.Common.{◌≡◌, map, take}
use Rattle.life_keys.proofs.keyer.copied_texts.Given as goal

abbrev pub invariant-loop-number : goal.invariant-loop-number
invariant-loop-number l = map (λ text. text.items) l.list.items ≡ take l.number (map (λ text. text.items) l.table.keys)
