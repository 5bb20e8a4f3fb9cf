use Rattle.std.proofs.Common.{◌≡◌, ◌+◌, ◌++◌, ◌∙◌, ℕ, suc, ap, append_assoc, arith, subst, sym, ◌<◌}
use Rattle.life_vectors.specs.Generated.{function_line, lines, next_state, state}
use Rattle.life_vectors.proofs.States.{state_is_small}
use Rattle.life_vectors.proofs.program.push_functions.Goals as goal

pub next_state-next-requires : goal.next_state-next-requires
next_state-next-requires c = subst (λ (x : ℕ). x < 65537) (sym c.loop-index.invariant.at) (state_is_small c.args.number c.loop-index.index)

pub loop-index-preserved : goal.loop-index-preserved
loop-index-preserved c =
    let number = c.args.number in
    let k = c.loop-index.index in
    let before = c.args.out.now.items in
    let later : k + 1 ≡ suc k = omega arith in
    let here : c.next_state-next.result ≡ state number (suc k) = c.next_state-next.ensures ∙ ap next_state c.loop-index.invariant.at in
    record {
      within = omega (arith, c.loop-index-test.true);
      at = here ∙ ap (state number) (sym later);
      are =
          c.in_ok-push_function.ensures ∙ (λ i. c.loop-index.invariant.are i ++ function_line k (here i))
          ∙ append_assoc before (lines number k) (function_line k (state number (suc k)))
          ∙ ap (λ (n : ℕ). before ++ lines number n) (sym later);
    }

pub returns : goal.returns
returns c =
    let last : c.loop-index.index ≡ c.args.size = omega (arith, c.loop-index.invariant.within, c.loop-index-test.false) in
    c.loop-index.invariant.are ∙ ap (λ (n : ℕ). c.args.out.now.items ++ lines c.args.number n) last
