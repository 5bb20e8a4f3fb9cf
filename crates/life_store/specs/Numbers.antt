-- What operators make of numbers. A register holds 64 bits, read with a sign; a size_t is read without one.
use Rattle.std.specs.Prelude.{ℕ, ℤ, pos, neg_ℤ, ◌+ℤ◌, ◌-ℤ◌, ◌*ℤ◌, ◌+◌, ◌-◌, ◌*◌, ◌/◌, ◌%◌, ◌^◌, Bool, cond, not, ◌&&◌, nat_eq, nat_lt, nat_le, int_lt, int_le, int_div, int_rem, Option, Some, Result, Ok, Err}
use Rattle.std.specs.Int.{cast_signed, cast_unsigned, w64}
use Rattle.life_types.specs.declared.ty.Ty.{Ty}
use Rattle.life_types.specs.declared.ty.Ty.TheVariants as ty
use Rattle.life_core.specs.declared.operation.Operator.{Operator}
use Rattle.life_core.specs.declared.operation.Operator.TheVariants.{Add, Subtract, Multiply, Divide, Remainder, Less, LessEqual, Greater, GreaterEqual, Equal, NotEqual}
use Rattle.life_store.specs.declared.run.TrapKind.{TrapKind}
use Rattle.life_store.specs.declared.run.TrapKind.TheVariants.{Overflow, ZeroDivisor}

-- a number, or why there is none
abbrev pub Computed : Type 0
Computed = Result ℤ TrapKind

-- from -2^k to 2^k - 1
abbrev pub is_between : ℕ → ℤ → Bool
is_between k z = int_le (neg_ℤ (pos (2 ^ k))) z && int_lt z (pos (2 ^ k))

-- the numbers of an int, and of a long
abbrev pub in_range : Option Ty → ℤ → Bool
in_range (Some ty.Int) z = is_between 31 z
in_range _ z = is_between 63 z

-- an overflow of a number with a sign is undefined in C++ (ISO/IEC 14882:2017 [expr] 4): here it is a trap
abbrev pub checked : Option Ty → ℤ → Computed
checked t z = cond (in_range t z) (Ok z) (Err Overflow)

abbrev pub truth : Bool → Computed
truth b = Ok (cond b (pos 1) (pos 0))

abbrev pub is_zero : ℤ → Bool
is_zero z = int_le z (pos 0) && int_le (pos 0) z

abbrev pub same : ℤ → ℤ → Bool
same a b = int_le a b && int_le b a

-- rounded toward zero ([expr.mul] 4)
abbrev pub quotient : Option Ty → ℤ → ℤ → Computed
quotient t a b = cond (is_zero b) (Err ZeroDivisor) (checked t (int_div a b))

-- a remainder is there where the quotient is
abbrev pub where_there : Computed → ℤ → Computed
where_there (Ok quotient) z = Ok z
where_there (Err kind) z = Err kind

abbrev pub remainder : Option Ty → ℤ → ℤ → Computed
remainder t a b = where_there (quotient t a b) (int_rem a b)

-- numbers with a sign
abbrev pub with_sign : Option Ty → Operator → ℤ → ℤ → Computed
with_sign t Add a b = checked t (a +ℤ b)
with_sign t Subtract a b = checked t (a -ℤ b)
with_sign t Multiply a b = checked t (a *ℤ b)
with_sign t Divide a b = quotient t a b
with_sign t Remainder a b = remainder t a b
with_sign t Less a b = truth (int_lt a b)
with_sign t LessEqual a b = truth (int_le a b)
with_sign t Greater a b = truth (int_lt b a)
with_sign t GreaterEqual a b = truth (int_le b a)
with_sign t Equal a b = truth (same a b)
with_sign t NotEqual a b = truth (not (same a b))

-- modulo 2^64 ([basic.fundamental] 4)
abbrev pub wrapped : ℕ → Computed
wrapped n = Ok (cast_signed w64 (n % 2 ^ 64))

-- numbers without one
abbrev pub without_sign : Operator → ℕ → ℕ → Computed
without_sign Add a b = wrapped (a + b)
without_sign Subtract a b = wrapped (a + (2 ^ 64 - b))
without_sign Multiply a b = wrapped (a * b)
without_sign Divide a b = cond (nat_eq b 0) (Err ZeroDivisor) (wrapped (a / b))
without_sign Remainder a b = cond (nat_eq b 0) (Err ZeroDivisor) (wrapped (a % b))
without_sign Less a b = truth (nat_lt a b)
without_sign LessEqual a b = truth (nat_le a b)
without_sign Greater a b = truth (nat_lt b a)
without_sign GreaterEqual a b = truth (nat_le b a)
without_sign Equal a b = truth (nat_eq a b)
without_sign NotEqual a b = truth (not (nat_eq a b))

-- what an operator makes of two numbers of a type
abbrev pub combined : Option Ty → Operator → ℤ → ℤ → Computed
combined (Some ty.Size) operator a b = without_sign operator (cast_unsigned w64 a) (cast_unsigned w64 b)
combined t operator a b = with_sign t operator a b

abbrev pub negated : Option Ty → ℤ → Computed
negated (Some ty.Size) z = without_sign Subtract 0 (cast_unsigned w64 z)
negated t z = checked t (neg_ℤ z)
