use Rattle.life_typing.proofs.BlindPrograms.{types_of_trees}
use Rattle.life_typing.proofs.laws.types_depend_on_the_tree_alone.Goals as goal

pub returns : goal.returns
returns c = types_of_trees
