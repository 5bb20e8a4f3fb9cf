use Rattle.std.proofs.Common.{◌≡◌, ◌+◌, ◌<◌, List, length, slice_set, length-set, sym, ◌∙◌, ap, arith}
use Rattle.life_proper.specs.declared.known.Known.{Known}
use Rattle.life_proper.specs.Knowing.{agreed, known_at}
use Rattle.life_proper.proofs.Loops.{agreed_from, agreed_step}
use Rattle.life_proper.proofs.knowing.agreed_all.Goals as goal

pub loop-i-preserved : goal.loop-i-preserved
loop-i-preserved c =
    let k = c.loop-i.known.items in
    let j = c.args.second.now in
    let i = c.loop-i.i in
    let was = c.loop-i.invariant in
    let lt : i < length k = omega (arith, c.loop-i-test.true, was.end) in
    let le : i < length j = omega (arith, lt, was.within) in
    let made : c.agree_at.new.known.items ≡ slice_set k i (agreed (known_at k i) (known_at j i)) =
    c.agree_at.ensures ∙ ap (λ (b : Known). slice_set k i (agreed (known_at k i) b)) c.known_in.ensures in
    let long = ap length made ∙ length-set k i (agreed (known_at k i) (known_at j i)) in
    record {
      end = was.end ∙ sym long;
      within = omega (arith, long, was.within);
      so_far = ap (λ (xs : List Known). agreed_from (i + 1) xs j) made ∙ agreed_step i k j lt le ∙ was.so_far;
    }
