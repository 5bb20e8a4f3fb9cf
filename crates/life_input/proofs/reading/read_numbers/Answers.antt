use Rattle.std.proofs.Common.{◌≡◌, ◌+◌, ◌-◌, ◌++◌, ℕ, ℤ, true, List, [], ◌∷◌, length, take, drop, rules, ap, ap₂, ◌∙◌, arith, length-drop}
use Rattle.std.proofs.lemmas.Int.{to_z-of_z}
use Rattle.std.proofs.lemmas.List.{take_all}
use Rattle.std.specs.Int.{w64}
use mir.Val.{SFits}
use Rattle.life_input.specs.Input.{numbers_from}
use Rattle.life_input.specs.Words.{words_from}
use Rattle.life_input.proofs.ReadingLemmas.{reads_on}
use Rattle.life_input.proofs.reading.read_numbers.Goals as goal

pub loop-rest-preserved : goal.loop-rest-preserved
loop-rest-preserved c =
    let bytes = c.args.bytes.now in
    let rest = c.loop-rest.rest.now in
    let numbers = c.loop-rest.numbers.items in
    let at = c.loop-rest.offset in
    let n = c.word_len-len.result in
    let fits : SFits w64 c.in-Some.number = search rules in
    let count : c.len.result ≡ length numbers = omega (arith, c.len.ensures, c.loop-rest.numbers.ok.0) in
    let pushed : c.push.new.self.items ≡ numbers ++ c.in-Some.number ∷ [] =
    c.in_ok-push.ensures.items ∙ ap (λ (z : ℤ). numbers ++ z ∷ []) (to_z-of_z w64 c.in-Some.number fits) in
    let left : take (length rest - n) (drop n rest) ≡ drop n rest = take_all (length rest - n) (drop n rest) (omega (arith, length-drop n rest)) in
    let reads = reads_on _ numbers c.in-Some.number at n c.len.result c.admitted.result count c.in-Some.is rest c.is_gap.result
    c.loop-rest.invariant.reads c.in-len1-up.len_at_least c.is_gap.ensures c.if-is_gap.false c.word_len-len.ensures.value c.admitted.ensures in
    let passed : at + n + length (drop n rest) ≡ length bytes = omega (arith, length-drop n rest, c.word_len-len.ensures.bound, c.loop-rest.invariant.passed) in
    record {
      reads = ap₂ (λ (so_far : List ℤ) (bs : List ℕ). numbers_from so_far (words_from true (at + n) bs)) pushed left ∙ reads;
      passed = ap (λ (bs : List ℕ). at + n + length bs) left ∙ passed;
    }
