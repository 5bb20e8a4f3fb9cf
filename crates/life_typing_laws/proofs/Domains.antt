-- Types whose names the crates below keep to themselves, by the definitions that take their values.
use Rattle.std.proofs.Common.{List}
use Rattle.life_type_expr.specs.Members.{answered}
use Rattle.life_type_stmt.specs.Statements.{in_loop}
use Rattle.life_typing.specs.Attributes.{fits_function_as, parameter_points}
use Rattle.life_typing.specs.Functions.{sound_header}
use Rattle.life_typing.specs.Names.{pieces_agree}
use Rattle.life_typing.specs.Pointing.{pointing_of_both}

abbrev DomainOf : {A B : Type 0} → (A → B) → Type 0
DomainOf {A = A} f = A

abbrev ElementOf : {A B : Type 0} → (List A → B) → Type 0
ElementOf {A = A} f = A

-- the member function that is called
abbrev pub Called : Type 0
Called = DomainOf answered

-- what stands around a statement: the function's result, and whether that is in a loop
abbrev pub Around : Type 0
Around = DomainOf in_loop

-- the type of a function's result, and what it holds of pointers
abbrev pub Returned : Type 0
Returned = DomainOf sound_header

-- what a type holds of pointers
abbrev pub Pointing : Type 0
Pointing = DomainOf pointing_of_both

-- what the rules on attributes ask of a parameter's type
abbrev pub Reach : Type 0
Reach = ElementOf parameter_points

-- a piece of what a declaration says beside its types
abbrev pub Piece : Type 0
Piece = ElementOf pieces_agree

-- an attribute of the namespace `life`
abbrev pub LifeAttribute : Type 0
LifeAttribute = DomainOf fits_function_as
