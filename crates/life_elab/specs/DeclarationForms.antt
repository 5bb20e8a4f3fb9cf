-- Declarations of variables of every type (ISO/IEC 14882:2017 [dcl.init]).
use Rattle.std.specs.Prelude.{ℕ, Option, Some, None, slice_get}
use Rattle.life_types.specs.declared.place.Place.{Place}
use Rattle.life_types.specs.declared.ty.Ty.{Ty}
use Rattle.life_types.specs.declared.ty.Ty.TheVariants as ty
use Rattle.life_typed.specs.TypedForm.{forms, whole}
use Rattle.life_typed.specs.TypedStatement.{DeclarationForm, InitialForm, one, several}
use Rattle.life_typed.specs.declared.typed_program.TypedLocal.{TypedLocal}
use Rattle.life_core.specs.Operands.{Empty}
use Rattle.life_writer.specs.Around.{Around, type_of}
use Rattle.life_writer.specs.Building.{Destination, Fill, built, live}
use Rattle.life_writer.specs.ExpressionForms.{all_uses, uses}
use Rattle.life_writer.specs.Initialising.{initialised}
use Rattle.life_writer.specs.Lists.{built_type, listed}
use Rattle.life_writer.specs.Pointers.{aimed, pointed}
use Rattle.life_writer.specs.Uses.{Uses}
use Rattle.life_writer.specs.Variables.{full}
use Rattle.life_writer.specs.Writing.{State, Gives}
use Rattle.life_elab.specs.Declarations.{variable}

-- a view or a span without an initialiser is empty, and anything else comes to life by itself
abbrev pub empty : Destination → State → Gives ℕ
empty d s = built (Fill d.place (pointed (aimed Empty))) d s

abbrev pub default_to : Ty → Destination → State → Gives ℕ
default_to ty.View d s = empty d s
default_to (ty.Span target constant) d s = empty d s
default_to t d s = live d s

module _ (a : Around) where
  -- what is given, by its uses
  abbrev pub initial_uses : (wanted : Ty) → InitialForm → Uses
  initial_uses t (one e) = uses a (whole e)
  initial_uses t (several l) = listed a (built_type a t) l.opening (all_uses a (forms l.elements)) l.delimiters

  abbrev pub given_initial : TypedLocal → Option InitialForm → (behind : Place) → State → State
  given_initial v None behind s = (default_to (type_of a v.ty) (variable a v) s).state
  given_initial v (Some i) behind s = (initialised a (initial_uses (type_of a v.ty) i) (type_of a v.ty) behind (variable a v) s).state

  abbrev pub declared_as : Option TypedLocal → Option InitialForm → (behind : Place) → State → State
  declared_as None value behind s = s
  declared_as (Some v) value behind s = given_initial v value behind s

  -- a full expression, up to the token behind it
  abbrev pub declared : DeclarationForm → (behind : Place) → State → State
  declared d behind s = full behind (declared_as (slice_get a.function.locals d.local) d.value behind) s
