-- Pointers that lie in a location of their own: raw pointers, views, iterators and spans. And what gives them something.
use Rattle.std.proofs.Common.{◌≡◌, ◌⊎◌, inl, inr, Bool, true, false, refl, ◌∙◌, sym}
use Rattle.std.proofs.lemmas.Bool.{false≢true}
use Rattle.life_types.specs.TypeTests.{is_raw, is_value, is_view}
use Rattle.life_types.specs.declared.ty.Ty.{Ty}
use Rattle.life_types.specs.declared.ty.Ty.TheVariants as ty
use Rattle.life_typed.specs.declared.typed_expr.ExprType.{ExprType}
use Rattle.life_typed.specs.declared.typed_expr.ExprType.TheVariants.{NullPointer, Of, TextLiteral}
use Rattle.life_well_typed.specs.Given.{is_number}
use Rattle.life_writer.specs.Around.{own_type}
use Rattle.life_elab_laws.proofs.Values.{by_values}

abbrev pub is_location : Ty → Bool
is_location (ty.Raw target constant) = true
is_location ty.View = true
is_location (ty.Iterator target constant) = true
is_location (ty.Span target constant) = true
is_location _ = false

-- an expression of this type gives a pointer something: it is one itself, nullptr, or a literal
abbrev pub is_pointed : ExprType → Bool
is_pointed (Of t) = is_location t
is_pointed NullPointer = true
is_pointed TextLiteral = true

-- characters that are no string
abbrev pub is_seen : ExprType → Bool
is_seen (Of t) = is_view t
is_seen NullPointer = false
is_seen TextLiteral = true

pub raw_location : (t : Ty) → is_raw t ≡ true → is_location t ≡ true
raw_location (ty.Raw target constant) raw = refl
raw_location _ raw = absurd (false≢true raw)

pub view_location : (t : Ty) → is_view t ≡ true → is_location t ≡ true
view_location ty.View v = refl
view_location _ v = absurd (false≢true v)

pub value_no_location : (t : Ty) → is_value t ≡ true → is_location t ≡ false
value_no_location = by_values (λ t. is_location t ≡ false) refl refl refl refl refl

pub number_no_pointer : (t : ExprType) → is_number t ≡ true → is_pointed t ≡ true → ⊥
number_no_pointer (Of t) n is = false≢true (sym (value_no_location t n) ∙ is)
number_no_pointer NullPointer n is = false≢true n
number_no_pointer TextLiteral n is = false≢true n

-- a location's type, nullptr or a literal
pub data IsPointed (t : ExprType) : Type 0 where
  at_location : (u : Ty) → t ≡ Of u → is_location u ≡ true → IsPointed t
  by_null : t ≡ NullPointer → IsPointed t
  by_literal : t ≡ TextLiteral → IsPointed t

pub pointed_type : (t : ExprType) → is_pointed t ≡ true → IsPointed t
pointed_type (Of u) e = at_location u refl e
pointed_type NullPointer e = by_null refl
pointed_type TextLiteral e = by_literal refl

pub location_is : (t : ExprType) → is_location (own_type t) ≡ true → t ≡ Of (own_type t)
location_is (Of u) e = refl
location_is NullPointer e = absurd (false≢true e)
location_is TextLiteral e = absurd (false≢true e)

pub seen_type : (t : ExprType) → is_seen t ≡ true → (t ≡ Of ty.View) ⊎ (t ≡ TextLiteral)
seen_type (Of ty.View) e = inl refl
seen_type (Of _) e = absurd (false≢true e)
seen_type NullPointer e = absurd (false≢true e)
seen_type TextLiteral e = inr refl

pub seen_pointed : (t : ExprType) → is_seen t ≡ true → is_pointed t ≡ true
seen_pointed (Of u) e = view_location u e
seen_pointed NullPointer e = absurd (false≢true e)
seen_pointed TextLiteral e = refl
