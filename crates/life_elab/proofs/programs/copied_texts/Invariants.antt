use Rattle.std.proofs.Common.{◌≡◌, ◌++◌, drop, map}
use Rattle.life_typed.specs.Programs.{text_view}
use Rattle.life_elab.proofs.programs.copied_texts.Given as goal

abbrev pub invariant-texts : goal.invariant-texts
invariant-texts l = map text_view l.copies.items ++ map text_view (drop l.text-index l.texts) ≡ map text_view l.texts
