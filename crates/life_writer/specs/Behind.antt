-- What stands behind an expression that may be tested.
use Rattle.std.specs.Prelude.{Some, None}
use Rattle.life_types.specs.declared.place.Place.{Place}
use Rattle.life_writer.specs.declared.behind.Behind.{Behind}

-- a part of a full expression: what is made for it lasts as long as that
abbrev pub lasting : Place → Behind
lasting token = record { token = token; ends = None }

-- a condition or an operand of `&&` or `||`: what is made for it ends before it is tested, which is said to be at the first token behind it
abbrev pub ending : Place → Behind
ending token = record { token = token; ends = Some token }

-- .. in parentheses
abbrev pub closed_by : Place → Behind → Behind
closed_by closing b = record { token = closing; ends = b.ends }
