use Rattle.std.proofs.Common.{◌≡◌, drop, map}
use Rattle.life_keys.specs.Words.{number_in}
use Rattle.life_keys.proofs.words.number_in.Given as goal

abbrev pub invariant-loop-word : goal.invariant-loop-word
invariant-loop-word l = number_in (drop l.word-index (map (λ w. (w.0, w.1.now)) l.words)) l.text ≡ number_in (map (λ w. (w.0, w.1.now)) l.words) l.text
