use Rattle.std.proofs.Common.{◌≡◌, ◌+◌, ◌++◌, List, [], ◌∷◌, drop, slice_get, sym, ◌∙◌, ap, append_assoc, append-nil}
use Rattle.life_proper.specs.declared.known.Known.{Known}
use Rattle.life_proper.specs.Knowing.{forgotten, known_at}
use Rattle.life_proper.specs.Turns.{kept_by}
use Rattle.life_proper.proofs.Loops.{forgotten_done, forgotten_step}
use Rattle.life_proper.proofs.knowing.forgotten.Goals as goal

pub loop-i-preserved : goal.loop-i-preserved
loop-i-preserved c =
    let ls = c.args.locals.now in
    let ks = c.args.known.now in
    let made = c.loop-i.made.items in
    let i = c.loop-i.i in
    let more = forgotten (drop (i + 1) ls) (drop (i + 1) ks) in
    let is : c.kept_at.result ≡ kept_by (slice_get ls i) (known_at ks i) = c.kept_at.ensures ∙ ap (kept_by (slice_get ls i)) c.known_in.ensures in
    ap (λ (ys : List Known). ys ++ more) c.in_ok-push.ensures.items
    ∙ append_assoc made (c.kept_at.result ∷ []) more
    ∙ ap (λ (y : Known). made ++ y ∷ more) is
    ∙ ap (λ (ys : List Known). made ++ ys) (sym (forgotten_step ls ks i c.loop-i-test.true))
    ∙ c.loop-i.invariant

pub returns : goal.returns
returns c =
    let made = c.loop-i.made.items in
    sym (append-nil made)
    ∙ ap (λ (ys : List Known). made ++ ys) (sym (forgotten_done c.args.locals.now c.args.known.now c.loop-i.i c.loop-i-test.false))
    ∙ c.loop-i.invariant
