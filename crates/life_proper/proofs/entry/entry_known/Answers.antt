use Rattle.std.proofs.Common.{◌+◌, ◌-◌, ◌<◌, ◌++◌, ℕ, List, ◌∷◌, [], drop, length, map, ◌∙◌, ap, subst}
use Rattle.life_core.specs.Ready.{given_ready}
use Rattle.life_core.specs.declared.program.Local.{Local}
use Rattle.life_proper.specs.Knowing.{known_as}
use Rattle.life_proper.specs.declared.known.Known.{Known}
use Rattle.life_proper.proofs.Loops.{given_turn}
use Rattle.life_proper.proofs.entry.entry_known.Goals as goal

-- src/entry.rt:19:5
pub loop-local-preserved : goal.loop-local-preserved
loop-local-preserved c =
    let made = c.loop-local.known.items in
    let n = c.loop-local.left in
    let ls = c.args.f.now.locals.items in
    let i = c.loop-local._local-index in
    let within : i < length ls = subst (λ (xs : List Local). i < length xs) c.deref-local-items.ensures.value c.loop-local-test.true in
    ap (λ (ks : List Known). ks ++ map known_as (given_ready c.saturating_sub-left.result (drop (i + 1) ls))) c.in_ok-push.ensures.items
    ∙ ap (λ (m : ℕ). (made ++ c.given_first.result ∷ []) ++ map known_as (given_ready m (drop (i + 1) ls))) c.saturating_sub-left.ensures
    ∙ ap (λ (k : Known). (made ++ k ∷ []) ++ map known_as (given_ready (n - 1) (drop (i + 1) ls))) c.given_first.ensures
    ∙ given_turn made n ls i within
    ∙ c.loop-local.invariant
