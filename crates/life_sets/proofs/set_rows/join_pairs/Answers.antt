use Rattle.std.proofs.Common.{subst, sym, ℕ, List}
use Rattle.std.specs.Prelude.{Contains}
use Rattle.life_sets.specs.PairSets.{contains_pair, AddsKeys}
use Rattle.life_sets.proofs.Members.{in_tail, in_head}
use Rattle.life_sets.proofs.PairLemmas.{adds_key, adds_no_key, adds_pair_keeps, fresh_iff, gained_more, among_more}
use Rattle.life_sets.proofs.set_rows.join_pairs.Goals as goal

pub loop-pair-preserved : goal.loop-pair-preserved
loop-pair-preserved c =
    let old = contains_pair c.args.into.now in
    let before = contains_pair c.loop-pair.into in
    let after = contains_pair c.insert_pair.new.pairs in
    let p = c.in-Some.pair.now in
    let rest = c.next.new.self in
    let steps = sym c.in-Some.ensures.steps in
    let fresh = c.in_ok-gained.field-0 in
    let added = c.in_ok-gained.ensures.added in
    record {
      can = tt;
      finite = tt;
      rest = λ new more. c.loop-pair.invariant.rest new (subst (λ (xs : List (ℕ × ℕ)). AddsKeys xs before new) steps (adds_key rest p before after new added more));
      left = λ l e h. c.loop-pair.invariant.left l e (subst (λ (xs : List (ℕ × ℕ)). Contains xs (l, e)) steps (in_tail p rest (l, e) h));
      among = among_more c.args.from.now.keys p old before after c.loop-pair.invariant.among (c.loop-pair.invariant.left p.0 p.1 (subst (λ (xs : List (ℕ × ℕ)). Contains xs p) steps (in_head p rest))) added;
      gained = gained_more old before after (λ l e. (c.loop-pair.invariant.among l e).0) (adds_pair_keeps p.0 p.1 before after added) c.loop-pair.gained fresh c.loop-pair.invariant.gained (fresh_iff p.0 p.1 before after fresh added c.in_ok-gained.ensures.fresh);
    }

pub returns-clause-joined : goal.returns-clause-joined
returns-clause-joined c =
    let all = contains_pair c.loop-pair.into in
    c.loop-pair.invariant.rest all (subst (λ (xs : List (ℕ × ℕ)). AddsKeys xs all all) (sym c.in-None.ensures.steps.0) (adds_no_key all))
