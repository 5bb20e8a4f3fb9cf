-- How many steps the longest paths of a type have.
use Rattle.std.specs.Prelude.{ℕ, ◌+◌, max}
use Rattle.life_types.specs.Trees.{TypeTree, Text, Vector, Unique, Raw, Reference, Iterator, Span, Member}

-- into an object of it: one for each member, a pointer too, and one for what an owner holds
abbrev pub longest : TypeTree → ℕ
longest Text = 1
longest (Vector element) = 1 + longest element
longest (Unique target) = 1 + longest target
longest (Member first others) = max (1 + longest first) (longest others)
longest _ = 0

-- .. and into what its pointers point to
abbrev pub longest_behind : TypeTree → ℕ
longest_behind (Raw target constant) = longest target
longest_behind (Reference target constant) = longest target
longest_behind (Iterator target constant) = longest target
longest_behind (Span target constant) = longest target
longest_behind (Member first others) = max (longest_behind first) (longest_behind others)
longest_behind _ = 0

abbrev pub steps : TypeTree → ℕ
steps t = max (longest t) (longest_behind t)
