use Rattle.std.proofs.Common.{arith, ◌∙◌, ◌+◌, ℕ, Bool, BTreeSet, subst, sym}
use Rattle.std.specs.Prelude.{IsTrue, ◌↔◌}
use Rattle.life_sets.specs.Pairs.{HasNew}
use Rattle.life_sets.specs.PairSets.{contains_pair}
use Rattle.life_sets.proofs.ElementLemmas.{IsJoinedBelow, joined_between, joined_every, joined_one, joined_over, none_from}
use Rattle.life_sets.proofs.PairLemmas.{adds_pair_keeps, fresh_iff, gained_more}
use Rattle.life_sets.proofs.set_rows.join_location.Goals as goal
use Rattle.life_sets.proofs.set_rows.join_location.Goals.{then-contains+in_ok-gained, else-contains}

pub loop-element-preserved : goal.loop-element-preserved
loop-element-preserved c =
    let l = c.args.location in
    let test = contains_pair c.args.from.now l in
    let k = c.loop-element.element in
    let old = contains_pair c.args.into.now in
    let before = contains_pair c.loop-element.into in
    let was = c.loop-element.invariant in
    elim c.if-contains.branch [
      | then-contains+in_ok-gained w ↦
          let after = contains_pair w.insert_pair.new.pairs in
          let added = w.in_ok-gained.ensures.added in
          let fresh = w.in_ok-gained.field-0 in
          record {
            joined = subst (λ (s : BTreeSet (ℕ × ℕ)). IsJoinedBelow l test (k + 1) old (contains_pair s)) (sym w.into-is) (joined_one l test k old before after was.joined (sym c.contains.ensures ∙ w.if-contains.true) added);
            gained = subst (λ (s : BTreeSet (ℕ × ℕ)). IsTrue c.if-contains.gained ↔ HasNew old (contains_pair s)) (sym w.into-is)
                (subst (λ (g : Bool). IsTrue g ↔ HasNew old after) (sym w.gained-is)
                (gained_more old before after (λ x e. (joined_between l test k old before was.joined x e).0) (adds_pair_keeps l k before after added) c.loop-element.gained fresh was.gained (fresh_iff l k before after fresh added w.in_ok-gained.ensures.fresh)));
          }
      | else-contains w ↦ record {
        joined = subst (λ (s : BTreeSet (ℕ × ℕ)). IsJoinedBelow l test (k + 1) old (contains_pair s)) (sym w.into-is) (joined_over l test k old before was.joined (sym c.contains.ensures ∙ w.if-contains.false));
        gained = subst (λ (s : BTreeSet (ℕ × ℕ)). IsTrue c.if-contains.gained ↔ HasNew old (contains_pair s)) (sym w.into-is)
            (subst (λ (g : Bool). IsTrue g ↔ HasNew old before) (sym w.gained-is) was.gained);
      }
    ]

pub returns-clause-joined : goal.returns-clause-joined
returns-clause-joined c =
    let test = contains_pair c.args.from.now c.args.location in
    joined_every c.args.location test c.loop-element.element (contains_pair c.args.into.now) (contains_pair c.loop-element.into)
    (λ e ge. none_from test c.args.limit c.requires e (omega (arith, ge, c.loop-element-test.false))) c.loop-element.invariant.joined
