-- A place as text.
use Rattle.std.specs.Prelude.{ℕ, List, ◌++◌, codes, decimal}
use Rattle.life_types.specs.declared.place.Place.{Place}

-- the line and the column, with a colon between
abbrev pub position_text : Place → List ℕ
position_text place = decimal place.line ++ codes ":" ++ decimal place.column
