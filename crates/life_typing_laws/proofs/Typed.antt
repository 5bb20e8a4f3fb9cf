-- What is to hold of the meaning of an expression, and of what stands behind an operand: what they give where they succeed is well typed.
use Rattle.std.proofs.Common.{◌≡◌, List, Ok}
use Rattle.life_types.specs.Types.{Types, HasType, HasParts}
use Rattle.life_typed.specs.Programs.{ProgramForm}
use Rattle.life_typed.specs.TypedForm.{Typed, whole}
use Rattle.life_typed.specs.declared.typed_expr.Category.{Category}
use Rattle.life_typed.specs.declared.typed_expr.Category.TheVariants as category
use Rattle.life_typed.specs.declared.typed_expr.ExprType.{ExprType}
use Rattle.life_typed.specs.declared.typed_expr.ExprType.TheVariants.{Of, NullPointer, TextLiteral}
use Rattle.life_typed.specs.declared.typed_program.TypedLocal.{TypedLocal}
use Rattle.life_names.specs.Environment.{Scope}
use Rattle.life_type_expr.specs.Expressions.{PartMeaning}
use Rattle.life_type_expr.specs.Lists.{ListMeaning, Meaning}
use Rattle.life_well_typed.specs.Expressions.{IsExpression}
use Rattle.life_well_typed.specs.Visible.{Visible}
use Rattle.life_typing_laws.proofs.Each.{EachHolds}
use Rattle.life_typing_laws.proofs.Growing.{IsGrown, parts_stay, stays_there}
use Rattle.life_typing_laws.specs.Sound.{Grows, IsFinal, IsSound}

-- ---- an expression

-- the parts of its type are there
abbrev pub PartsThere : Types → ExprType → Type 0
PartsThere types (Of t) = HasParts types t
PartsThere types NullPointer = Unit {0}
PartsThere types TextLiteral = Unit {0}

-- .. and the type of the object, where it is a place
abbrev pub PlaceThere : Types → Category → Type 0
PlaceThere types category.Value = Unit {0}
PlaceThere types (category.Place id constant) = HasType types id

pub record IsTyped (p : ProgramForm) (locals : List TypedLocal) (v : Visible) (types : Types) (e : Typed) : Type 0 where
  pub is : IsExpression p locals v.visible (whole e)
  pub parts : PartsThere types e.ty
  pub place : PlaceThere types e.category

-- ---- .. over a table that has grown

module _ (old new : Types) (grows : Grows old new) where
  pub expression_parts_stay : (t : ExprType) → PartsThere old t → PartsThere new t
  expression_parts_stay (Of t) there = parts_stay old new t grows there
  expression_parts_stay NullPointer there = tt
  expression_parts_stay TextLiteral there = tt

  pub place_stays : (c : Category) → PlaceThere old c → PlaceThere new c
  place_stays category.Value there = tt
  place_stays (category.Place id constant) there = stays_there old new id grows there

  pub typed_stays : (p : ProgramForm) (locals : List TypedLocal) (v : Visible) (e : Typed) → IsTyped p locals v old e → IsTyped p locals v new e
  typed_stays p locals v e typed = record { is = typed.is; parts = expression_parts_stay e.ty typed.parts; place = place_stays e.category typed.place }

-- ---- what gives one

-- .. leaves a table that has grown, and gives what is well typed in the end
pub record IsGood (v : Visible) (scope : Scope) (types : Types) (x : Typed × Types) : Type 0 where
  pub grown : IsGrown types x.1
  pub is : (p : ProgramForm) (locals : List TypedLocal) → IsFinal p locals scope x.1 → IsTyped p locals v x.1 x.0

abbrev pub Good : Meaning → Type 0
Good m = (v : Visible) (scope : Scope) (types : Types) (x : Typed × Types) → m scope types ≡ Ok x → IsSound v scope types → IsGood v scope types x

-- .. behind an operand
pub record IsGoodBehind (v : Visible) (left : Typed) (scope : Scope) (types : Types) (x : Typed × Types) : Type 0 where
  pub grown : IsGrown types x.1
  pub is : (p : ProgramForm) (locals : List TypedLocal) → IsFinal p locals scope x.1 → IsTyped p locals v types left → IsTyped p locals v x.1 x.0

abbrev pub GoodBehind : PartMeaning → Type 0
GoodBehind q = (v : Visible) (left : Typed) (scope : Scope) (types : Types) (x : Typed × Types) → q left scope types ≡ Ok x → IsSound v scope types → IsGoodBehind v left scope types x

-- .. each of a list
abbrev pub GoodList : ListMeaning → Type 0
GoodList l = EachHolds Good l.list
