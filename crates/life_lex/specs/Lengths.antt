-- Lengths of what stands in front.
use Rattle.std.specs.Prelude.{ℕ, ◌+◌, not, ◌==◌, List, Option}
use Rattle.std.specs.List.{prefix_len}
use Rattle.std.specs.Option.{option_map}

-- how many bytes stand before the next byte 10, or before the end
abbrev pub line_len : List ℕ → ℕ
line_len bytes = prefix_len (λ b. not (b == 10)) bytes

-- n more, where there is a number
abbrev pub plus : ℕ → Option ℕ → Option ℕ
plus n len = option_map (λ m. n + m) len
