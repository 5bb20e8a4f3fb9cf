use Rattle.life_parse_laws.proofs.NamedFiles.{file_named}
use Rattle.life_parse_laws.proofs.laws.trees_have_names.Goals as goal

pub returns : goal.returns
returns c bytes p source = file_named bytes p source
