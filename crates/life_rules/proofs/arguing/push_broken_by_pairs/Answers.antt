use Rattle.std.proofs.Common.{◌≡◌, ◌++◌, List, subst, sym}
use Rattle.std.proofs.lemmas.Result.{on_ok_weaker}
use Rattle.std.specs.List.{flat_map}
use Rattle.life_rules.proofs.ArgumentPairs.{every_broken}
use Rattle.life_rules.specs.Given.{moved_given}
use Rattle.life_rules.specs.declared.given.Given.{Given}
use Rattle.life_rules.proofs.arguing.push_broken_by_pairs.Goals as goal

pub returns : goal.returns
returns c =
    let call = c.args.call.now in
    let facts = c.args.facts.now in
    let moved = subst (λ (all : List Given). c.push_moved.new.out.items ≡ c.args.out.now.items ++ flat_map (λ g. flat_map (moved_given call g) facts) all) c.deref.ensures.value c.in_ok-push_moved.ensures in
    on_ok_weaker c.push_overlapping.result
    (λ overlapping. every_broken call facts c.in_ok-given.given.items c.in_ok-given.ensures c.args.out.now.items c.push_moved.new.out.items c.push_overlapping.new.out.items moved (rw (sym c.deref-2.ensures.value) overlapping))
    c.push_overlapping.ensures
