-- Each item of an output is apart: no `&&` and no `||` stands in it but in parentheses, brackets and lists.
use Rattle.std.proofs.Common.{◌≡◌, ℕ, Bool, true, false, not, ◌&&◌, Option, None, Some, Result, Ok, Err, List, [], ◌∷◌, refl, subst, sym}
use Rattle.std.proofs.lemmas.Bool.{and_from}
use Rattle.life_types.specs.Trees.{is_plain, tree_at}
use Rattle.life_types.specs.Types.{Types}
use Rattle.life_types.specs.declared.place.Place.{Place}
use Rattle.life_types.specs.declared.ty.Ty.{Ty}
use Rattle.life_types.specs.declared.ty.Ty.TheVariants as ty
use Rattle.life_types.specs.declared.ty.TyId.{TyId}
use Rattle.life_tree.specs.declared.identifier.Identifier.{Identifier}
use Rattle.life_tree.specs.declared.operator.PrefixOperator.{PrefixOperator}
use Rattle.life_tree.specs.declared.operator.PrefixOperator.TheVariants as prefix
use Rattle.life_typed.specs.BaseTypes.{type_at}
use Rattle.life_typed.specs.Delimiters.{DelimitersForm}
use Rattle.life_typed.specs.Members.{method_answer}
use Rattle.life_typed.specs.Operators.{combined, dereferenced, is_condition, negated, takes_literals}
use Rattle.life_typed.specs.TypedForm.{Typed, address_of, binary, call, dereference, forms, index, local, member, method, move, negate, not as negation, whole}
use Rattle.life_typed.specs.declared.misfit.Misfit.{Misfit}
use Rattle.life_typed.specs.declared.typed_expr.BinaryOperator.{BinaryOperator}
use Rattle.life_typed.specs.declared.typed_expr.Category.{Category}
use Rattle.life_typed.specs.declared.typed_expr.Category.TheVariants as category
use Rattle.life_typed.specs.declared.typed_expr.ExprType.{ExprType}
use Rattle.life_typed.specs.declared.typed_program.TypedLocal.{TypedLocal}
use Rattle.life_names.specs.Environment.{Scope}
use Rattle.life_names.specs.declared.fault.IllKind.{IllKind}
use Rattle.life_type_expr.specs.Expressions.{PartMeaning, chain, chained, operand_part}
use Rattle.life_type_expr.specs.Lists.{ListMeaning, Meaning}
use Rattle.life_type_expr.specs.Members.{answered, answered_as, arrow_part, called_of, data_member, data_member_of, dot_part, element_of, index_part, indexed_at, indexed_to, member_in, member_of, member_part}
use Rattle.life_type_expr.specs.Operands.{address_to, answer_of, combination, combined_to, dereferenced_to, is_constant, literal_allowed, move_fault_of, moved, moved_unless, negated_to, place_of, pointed_to, prefixed_by, value, variable, variable_of}
use Rattle.life_well_typed.specs.Apart.{is_apart, joins}
use Rattle.life_typing_laws.proofs.Domains.{Called}
use Rattle.life_typing_laws.proofs.Each.{EachHolds}
use Rattle.life_typing_laws.proofs.Prefixes.{prefix_of}
use Rattle.life_typing_laws.proofs.Yields.{Finds, Yields, finds_if, finds_none, finds_ok, yields_behind, yields_found, yields_given, yields_ok, yields_then}

abbrev pub IsApart : Typed → Type 0
IsApart e = is_apart e.form ≡ true

-- whatever is read, and wherever
abbrev pub GivesApart : Meaning → Type 0
GivesApart m = (scope : Scope) (types : Types) → Yields IsApart (m scope types)

-- .. behind what is apart
abbrev pub GivesApartBehind : PartMeaning → Type 0
GivesApartBehind q = (left : Typed) (scope : Scope) (types : Types) → IsApart left → Yields IsApart (q left scope types)

-- ---- chains

chained_apart : (qs : List PartMeaning) → EachHolds GivesApartBehind qs → (scope : Scope) (x : Typed × Types) → IsApart x.0 → Yields IsApart (chained qs scope x)
chained_apart [] all scope x one = yields_ok IsApart x.0 x.1 one
chained_apart (q ∷ qs) all scope x one = yields_then IsApart IsApart (q x.0 scope x.1) (chained qs scope) (all.0 x.0 scope x.1 one) (λ y h. chained_apart qs all.1 scope y h)

pub chain_apart : (first : Meaning) (more : List PartMeaning) → GivesApart first → EachHolds GivesApartBehind more → GivesApart (chain first more)
chain_apart first more one all scope types = yields_then IsApart IsApart (first scope types) (chained more scope) (one scope types) (λ x h. chained_apart more all scope x h)

combined_apart : (o : BinaryOperator) (place : Place) (left right : Typed) → joins o ≡ false → IsApart left → IsApart right → Finds IsApart (combination o place left right)
combined_apart o place left right sum l r = go (combined o left.ty right.ty)
  where
    both : is_apart (binary o (whole left) (whole right)) ≡ true
    both = subst (λ (b : Bool). (not b && (is_apart left.form && is_apart right.form)) ≡ true) (sym sum) (and_from (is_apart left.form) (is_apart right.form) l r)

    go : (t : Result Ty Misfit) → Finds IsApart (combined_to t o place left right)
    go (Ok t) = finds_ok IsApart (value place t (binary o (whole left) (whole right))) both
    go (Err m) = finds_none IsApart _

pub operand_apart : (o : BinaryOperator) (place : Place) (operand : Meaning) → joins o ≡ false → GivesApart operand → GivesApartBehind (operand_part o place operand)
operand_apart o place operand sum good left scope types l =
    yields_given IsApart (literal_allowed (takes_literals o) left) _ (λ _.
    yields_then IsApart IsApart (operand scope types) _ (good scope types) (λ x r.
    yields_given IsApart (literal_allowed (takes_literals o) x.0) _ (λ _.
    yields_found IsApart x.1 (combination o place left x.0) (combined_apart o place left x.0 sum l r))))

-- ---- operators before an operand

prefixed_apart : (o : PrefixOperator) (types : Types) (place : Place) (e : Typed) → IsApart e → Finds IsApart (prefixed_by o types place e)
prefixed_apart prefix.Not types place e one = finds_if IsApart (is_condition e.ty) (value place ty.Bool (negation (whole e))) _ one
prefixed_apart prefix.Negate types place e one = go (negated e.ty)
  where
    go : (t : Result Ty Misfit) → Finds IsApart (negated_to t place e)
    go (Ok t) = finds_ok IsApart (value place t (negate (whole e))) one
    go (Err m) = finds_none IsApart _
prefixed_apart prefix.Dereference types place e one = go (dereferenced e.ty)
  where
    go : (o : Option (TyId × Bool)) → Finds IsApart (dereferenced_to o types place e)
    go None = finds_none IsApart _
    go (Some target) = finds_ok IsApart (place_of types target.0 target.1 place (dereference (whole e))) refl
prefixed_apart prefix.AddressOf types place e one = go e.category
  where
    go : (c : Category) → Finds IsApart (address_to c types place e)
    go category.Value = finds_none IsApart _
    go (category.Place id constant) = finds_if IsApart (is_plain (tree_at types id)) (value place (ty.Raw id constant) (address_of (whole e))) _ refl

pub prefix_apart : (o : PrefixOperator) (place : Place) (operand : Meaning) → GivesApart operand → GivesApart (prefix_of o place operand)
prefix_apart o place operand good scope types =
    yields_then IsApart IsApart (operand scope types) _ (good scope types) (λ x one.
    yields_given IsApart (literal_allowed false x.0) _ (λ _.
    yields_found IsApart x.1 (prefixed_by o x.1 place x.0) (prefixed_apart o x.1 place x.0 one)))

-- ---- what stands behind an operand

data_apart : (name : Identifier) (scope : Scope) (types : Types) (base : Typed) → Finds IsApart (data_member name scope types base)
data_apart name scope types base = go (member_of base.ty name.id scope)
  where
    of : (m : ℕ × TyId) (c : Category) → Finds IsApart (member_in c types name.place base m)
    of m category.Value = finds_none IsApart _
    of m (category.Place id constant) = finds_ok IsApart (place_of types m.1 constant name.place (member (whole base) m.0)) refl

    go : (o : Option (ℕ × TyId)) → Finds IsApart (data_member_of o types name.place base)
    go None = finds_none IsApart _
    go (Some m) = of m base.category

answered_apart : (c : Called) (types : Types) (place : Place) (base : Typed) (es : List Typed) (d : DelimitersForm) → Finds IsApart (answered c types place base es d)
answered_apart c types place base es d = go (method_answer types c.base (is_constant base.category) c.method)
  where
    go : (o : Option (ExprType × Category)) → Finds IsApart (answered_as o place base c.method es d)
    go None = finds_none IsApart _
    go (Some a) = finds_ok IsApart (record { place = place; ty = a.0; category = a.1; form = method (whole base) c.method (forms es) d }) refl

member_apart : (name : Identifier) (o : Option ListMeaning) (base : Typed) (scope : Scope) (types : Types) → Yields IsApart (member_part name o base scope types)
member_apart name None base scope types = yields_found IsApart types (data_member name scope types base) (data_apart name scope types base)
member_apart name (Some l) base scope types =
    yields_given IsApart (called_of base.ty name scope types) _ (λ c.
    yields_behind IsApart _ _ (λ x. yields_found IsApart x.1 (answered c x.1 name.place base x.0 l.delimiters) (answered_apart c x.1 name.place base x.0 l.delimiters)))

pub dot_apart : (name : Identifier) (o : Option ListMeaning) → GivesApartBehind (dot_part name o)
dot_apart name o base scope types one = yields_given IsApart (literal_allowed false base) _ (λ _. member_apart name o base scope types)

pub arrow_apart : (name : Identifier) (o : Option ListMeaning) → GivesApartBehind (arrow_part name o)
arrow_apart name o base scope types one =
    yields_given IsApart (literal_allowed false base) _ (λ _. yields_given IsApart (pointed_to types name.place base) _ (λ target. member_apart name o target scope types))

indexed_apart : (types : Types) (opening : Place) (base position : Typed) (closing : Place) → Finds IsApart (indexed_at types opening base position closing)
indexed_apart types opening base position closing = go (element_of base position)
  where
    go : (o : Option (TyId × Bool)) → Finds IsApart (indexed_to o types opening base position closing)
    go None = finds_none IsApart _
    go (Some element) = finds_ok IsApart (place_of types element.0 element.1 opening (index (whole base) (whole position) closing)) refl

pub index_apart : (opening : Place) (position : Meaning) (closing : Place) → GivesApartBehind (index_part opening position closing)
index_apart opening position closing base scope types one =
    yields_given IsApart (literal_allowed false base) _ (λ _.
    yields_behind IsApart (position scope types) _ (λ x.
    yields_given IsApart (literal_allowed false x.0) _ (λ _. yields_found IsApart x.1 (indexed_at x.1 opening base x.0 closing) (indexed_apart x.1 opening base x.0 closing))))

-- ---- primaries

pub variable_apart : (types : Types) (place : Place) (l : ℕ × TypedLocal) → IsApart (variable types place l)
variable_apart types place l = go (type_at types l.1.ty)
  where
    go : (t : Ty) → IsApart (variable_of t types l.1.ty l.1.constant place (local l.0))
    go (ty.Reference target constant) = refl
    go _ = refl

pub answer_apart : (t : Ty) (types : Types) (place : Place) (n : ℕ) (es : List Typed) (d : DelimitersForm) → IsApart (answer_of t types place (call n (forms es) d))
answer_apart (ty.Reference target constant) types place n es d = refl
answer_apart _ types place n es d = refl

pub moved_apart : (types : Types) (place : Place) (l : ℕ × TypedLocal) → Finds IsApart (moved types place l)
moved_apart types place l = go (move_fault_of (type_at types l.1.ty) l.1.constant)
  where
    go : (o : Option IllKind) → Finds IsApart (moved_unless o types place l)
    go None = finds_ok IsApart (value place (type_at types l.1.ty) (move l.0)) refl
    go (Some kind) = finds_none IsApart _
