-- The tokens behind the parts of a list: a comma behind each but the last, and what closes the list.
use Rattle.std.specs.Prelude.{List, [], ◌∷◌}
use Rattle.life_types.specs.declared.place.Place.{Place}
use Rattle.life_typed.specs.declared.delimiters.Delimiters.{Delimiters}

pub record DelimitersForm : Type 0 where
  pub commas : List Place
  pub closing : Place

abbrev pub delimiters_view : Delimiters → DelimitersForm
delimiters_view d = record { commas = d.commas.items; closing = d.closing }

-- the first of some commas, or where none is left what closes the list
abbrev pub first_of : List Place → Place → Place
first_of [] closing = closing
first_of (comma ∷ commas) closing = comma

abbrev pub without_first : List Place → List Place
without_first [] = []
without_first (comma ∷ commas) = commas

-- the token behind the first part
abbrev pub behind_first : DelimitersForm → Place
behind_first d = first_of d.commas d.closing

-- the tokens behind the others
abbrev pub behind_others : DelimitersForm → DelimitersForm
behind_others d = record { commas = without_first d.commas; closing = d.closing }
