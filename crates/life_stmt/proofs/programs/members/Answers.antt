use Rattle.std.proofs.Common.{◌≡◌, ◌∷◌, [], map, refl}
use Rattle.life_stmt.proofs.LoopReads.{some_reads}
use Rattle.life_stmt.proofs.programs.members.Goals as goal
use Rattle.life_expr.specs.Heads.{heads_of}
use Rattle.life_expr.specs.Readers as readers
use Rattle.life_tree.specs.Rules as rules
use Rattle.life_tree.specs.Views.{member_tree}

pub returns : goal.returns
returns c =
    let e : map member_tree c.push.new.self.items ≡ member_tree c.in_ok-first.first ∷ [] = rw (c.in_ok-push.ensures.items, c.new-list.ensures.items) refl in
    rw (some_reads (heads_of rules.member) (readers.below c.args.left rules.member) c.args.tokens.now (member_tree c.in_ok-first.first) c.in_ok-first.rest.now (map member_tree c.push.new.self.items) e c.in_ok-first.ensures) c.more_members.ensures
