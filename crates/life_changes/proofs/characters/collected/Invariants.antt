use Rattle.std.proofs.Common.{◌≡◌, ◌++◌, map, take}
use Rattle.life_core.specs.Function.{name_bytes}
use Rattle.life_pointers.specs.Bytes.{stored_words}
use Rattle.life_changes.proofs.characters.collected.Given as goal

abbrev pub invariant-loop-position : goal.invariant-loop-position
invariant-loop-position g l = l.words.items ≡ take l.position (stored_words (map name_bytes l.texts) (g.S.Store.content l.store) (g.S.Store.rows l.store) l.view)

abbrev pub invariant-loop-other : goal.invariant-loop-other
invariant-loop-other g l = l.words.items ≡ stored_words (map name_bytes l.texts) (g.S.Store.content l.store) (g.S.Store.rows l.store) l.fn.view ++ take l.other-index l.others
