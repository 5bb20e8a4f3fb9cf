-- Tests of a type by its outermost form: each asks what kind of type it is, and of nothing that it is made of.
use Rattle.std.specs.Prelude.{Bool, true, false}
use Rattle.life_types.specs.declared.ty.Ty.{Ty}
use Rattle.life_types.specs.declared.ty.Ty.TheVariants as ty

-- ---- values

-- it is nothing, which a function alone may answer
abbrev pub is_void : Ty → Bool
is_void ty.Void = true
is_void _ = false

-- it is a number: each of these converts to each other (ISO/IEC 14882:2017 [conv])
abbrev pub is_value : Ty → Bool
is_value ty.Bool = true
is_value ty.Char = true
is_value ty.Int = true
is_value ty.Long = true
is_value ty.Size = true
is_value _ = false

-- it is `char`
abbrev pub is_char : Ty → Bool
is_char ty.Char = true
is_char _ = false

-- it is `long`
abbrev pub is_long : Ty → Bool
is_long ty.Long = true
is_long _ = false

-- it is `std::size_t`
abbrev pub is_size : Ty → Bool
is_size ty.Size = true
is_size _ = false

-- ---- owners

-- it is `std::string`
abbrev pub is_text : Ty → Bool
is_text ty.Text = true
is_text _ = false

-- it is a `std::unique_ptr`
abbrev pub is_unique : Ty → Bool
is_unique (ty.Unique target) = true
is_unique _ = false

-- ---- pointers

-- it points to an object that it doesn't own
abbrev pub is_pointer : Ty → Bool
is_pointer ty.View = true
is_pointer (ty.Raw target constant) = true
is_pointer (ty.Reference target constant) = true
is_pointer (ty.Iterator target constant) = true
is_pointer (ty.Span target constant) = true
is_pointer _ = false

-- what it points to is const: for a view it always is
abbrev pub is_constant : Ty → Bool
is_constant ty.View = true
is_constant (ty.Raw target constant) = constant
is_constant (ty.Reference target constant) = constant
is_constant (ty.Iterator target constant) = constant
is_constant (ty.Span target constant) = constant
is_constant _ = false

-- it is a raw pointer: of the pointers no other may be null
abbrev pub is_raw : Ty → Bool
is_raw (ty.Raw target constant) = true
is_raw _ = false

-- it is a reference
abbrev pub is_reference : Ty → Bool
is_reference (ty.Reference target constant) = true
is_reference _ = false

-- it is an iterator of a vector
abbrev pub is_iterator : Ty → Bool
is_iterator (ty.Iterator target constant) = true
is_iterator _ = false

-- it is `std::string_view`
abbrev pub is_view : Ty → Bool
is_view ty.View = true
is_view _ = false
