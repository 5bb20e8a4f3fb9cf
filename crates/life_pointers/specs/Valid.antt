-- Whether what is seen is there.
use Rattle.std.specs.Prelude.{ℕ, ◌+◌, Bool, ◌||◌, nat_eq, nat_le}

-- what sees nothing may begin anywhere
abbrev pub sees_there : (index count length : ℕ) → Bool
sees_there index count length = nat_eq count 0 || nat_le (index + count) length
