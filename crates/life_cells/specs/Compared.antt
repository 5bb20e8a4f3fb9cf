-- What is compared by its characters, and not by its position.
use Rattle.std.specs.Prelude.{Bool, true, false, Option, Some}
use Rattle.life_types.specs.declared.ty.Ty.{Ty}
use Rattle.life_types.specs.declared.ty.Ty.TheVariants as variant
use Rattle.life_store.specs.Parts.{Parts, Views}

abbrev pub are_views : Parts → Bool
are_views Views = true
are_views _ = false

-- .. by its type: a span or a view
abbrev pub is_viewing : Option Ty → Bool
is_viewing (Some variant.View) = true
is_viewing (Some (variant.Span target constant)) = true
is_viewing _ = false
