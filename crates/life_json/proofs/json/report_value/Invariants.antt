use Rattle.std.proofs.Common.{◌≡◌, map, take}
use Rattle.serde_json.specs.View.{view}
use Rattle.life_json.specs.JsonReports.{listed_data}
use Rattle.life_json.proofs.json.report_value.Given as goal

abbrev pub invariant-loop-listed : goal.invariant-loop-listed
invariant-loop-listed l = map view l.values.items ≡ map listed_data (take l.listed-index l.found)
