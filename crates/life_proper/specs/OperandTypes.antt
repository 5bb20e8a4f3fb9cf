-- Tests of the types that operands of core instructions have: what operators compute in, what a pointer takes from another one, what has elements, and
-- what stands where. A type that isn't there counts as void, which no operand has.
use Rattle.std.specs.Prelude.{Bool, true, false, ◌&&◌, ◌||◌, not}
use Rattle.life_types.specs.Pointees.{ty_of}
use Rattle.life_types.specs.TypeTests.{is_constant, is_pointer, is_value, is_view, is_void}
use Rattle.life_types.specs.Types.{Types}
use Rattle.life_types.specs.contracts.ty.TyPartialEq.TheImpl.{ghosts as compared}
use Rattle.life_types.specs.declared.ty.Ty.{Ty}
use Rattle.life_types.specs.declared.ty.Ty.TheVariants as ty

-- ---- values

-- what operators compute in: the types that the others are promoted to (ISO/IEC 14882:2017 [conv.prom])
abbrev pub is_promoted : Ty → Bool
is_promoted ty.Int = true
is_promoted ty.Long = true
is_promoted ty.Size = true
is_promoted _ = false

abbrev pub is_owner : Ty → Bool
is_owner ty.Text = true
is_owner (ty.Vector element) = true
is_owner (ty.Unique target) = true
is_owner _ = false

-- an owner or a struct
abbrev pub is_composed : Ty → Bool
is_composed t = not (is_void t || (is_value t || is_pointer t))

-- one type
abbrev pub same : Ty → Ty → Bool
same ty.Void u = false
same t u = compared.eq t u

-- ---- pointers

-- a span or a view
abbrev pub is_range : Ty → Bool
is_range (ty.Span target constant) = true
is_range t = is_view t

-- a pointer to what isn't const takes nothing from one to what is ([conv.qual])
abbrev pub keeps_const : (to from : Bool) → Bool
keeps_const to from = to || not from

-- two pointers of one kind with one target
abbrev pub are_alike : Types → Ty → Ty → Bool
are_alike types (ty.Raw t c) (ty.Raw u d) = same (ty_of types t) (ty_of types u)
are_alike types (ty.Reference t c) (ty.Reference u d) = same (ty_of types t) (ty_of types u)
are_alike types (ty.Iterator t c) (ty.Iterator u d) = same (ty_of types t) (ty_of types u)
are_alike types (ty.Span t c) (ty.Span u d) = same (ty_of types t) (ty_of types u)
are_alike types ty.View ty.View = true
are_alike types _ _ = false

-- the first takes what the second is
abbrev pub takes : Types → (to from : Ty) → Bool
takes types to from = are_alike types to from && keeps_const (is_constant to) (is_constant from)

-- ---- what stands behind

-- an element of a vector or a string
abbrev pub owned_element : Types → Ty → Ty
owned_element types ty.Text = ty.Char
owned_element types (ty.Vector element) = ty_of types element
owned_element types _ = ty.Void

-- .. of a span or a view
abbrev pub seen_element : Types → Ty → Ty
seen_element types ty.View = ty.Char
seen_element types (ty.Span target constant) = ty_of types target
seen_element types _ = ty.Void

-- what a unique_ptr owns
abbrev pub owned_target : Types → Ty → Ty
owned_target types (ty.Unique target) = ty_of types target
owned_target types _ = ty.Void

-- ---- what a pointer is aimed at

-- a raw pointer or a reference at an object of a type
abbrev pub aims_at : Types → Ty → Ty → Bool
aims_at types (ty.Raw target constant) t = same (ty_of types target) t
aims_at types (ty.Reference target constant) t = same (ty_of types target) t
aims_at types _ t = false

-- a raw pointer at what a unique_ptr owns
abbrev pub gets : Types → Ty → Ty → Bool
gets types (ty.Raw target constant) t = same (ty_of types target) t
gets types _ t = false

-- an iterator at an element
abbrev pub walks : Types → Ty → Ty → Bool
walks types (ty.Iterator target constant) t = same (ty_of types target) t
walks types _ t = false

-- a span at the whole of a vector, a view at the whole of a string
abbrev pub spans : Types → Ty → Ty → Bool
spans types (ty.Span target constant) (ty.Vector element) = same (ty_of types target) (ty_of types element)
spans types ty.View ty.Text = true
spans types _ _ = false

-- iterators of one type of elements, const or not, and views
abbrev pub are_compared : Types → Ty → Ty → Bool
are_compared types (ty.Iterator t c) (ty.Iterator u d) = same (ty_of types t) (ty_of types u)
are_compared types ty.View ty.View = true
are_compared types _ _ = false
