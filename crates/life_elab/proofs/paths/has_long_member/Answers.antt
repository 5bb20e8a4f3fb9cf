use Rattle.std.proofs.Common.{ap, ◌∙◌}
use Rattle.life_types.specs.Trees.{members_at, struct_of, tree_at}
use Rattle.life_elab.specs.KeptPaths.{is_long, of_members}
use Rattle.life_elab.proofs.PathSteps.{long_kept, struct_kept}
use Rattle.life_elab.proofs.paths.has_long_member.Goals as goal

pub returns : goal.returns
returns c =
    let types = c.args.measured.now.types.now in
    let paths = c.args.measured.now.paths.now in
    let members = members_at types c.args.number in
    c.is_long.ensures
    ∙ ap is_long c.longest.ensures
    ∙ long_kept c.of_members.result (struct_of (tree_at types) members) (c.of_members.ensures ∙ ap (of_members paths) c.members_at.ensures ∙ struct_kept types paths c.requires members)
