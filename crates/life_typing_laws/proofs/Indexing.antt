-- `e[i]` is well typed.
use Rattle.std.proofs.Common.{◌≡◌, Bool, true, false, Option, None, Some, Ok, List, refl, ap, subst, ◌∙◌, if◌then◌else◌, arith}
use Rattle.life_types.specs.Types.{Types, HasType}
use Rattle.life_types.specs.declared.place.Place.{Place}
use Rattle.life_types.specs.declared.ty.Ty.TheVariants as ty
use Rattle.life_types.specs.declared.ty.TyId.{TyId}
use Rattle.life_typed.specs.BaseTypes.{base_types}
use Rattle.life_typed.specs.Operators.{indexed}
use Rattle.life_typed.specs.Programs.{ProgramForm}
use Rattle.life_typed.specs.TypedForm.{Typed, index, whole}
use Rattle.life_typed.specs.declared.basic.TheConstants.{CHAR}
use Rattle.life_typed.specs.declared.typed_expr.ExprType.{ExprType}
use Rattle.life_typed.specs.declared.typed_expr.ExprType.TheVariants.{Of, NullPointer, TextLiteral}
use Rattle.life_typed.specs.declared.typed_program.TypedLocal.{TypedLocal}
use Rattle.life_names.specs.Checked.{Checked, ◌>>=◌}
use Rattle.life_names.specs.Environment.{Scope}
use Rattle.life_names.specs.Found.{found_in, given}
use Rattle.life_type_expr.specs.Lists.{Meaning}
use Rattle.life_type_expr.specs.Members.{element_of, index_part, indexed_at, indexed_to, is_position}
use Rattle.life_type_expr.specs.Operands.{is_constant, literal_allowed, place_of}
use Rattle.life_well_typed.specs.Visible.{Visible}
use Rattle.life_typing_laws.specs.Sound.{Grows, IsFinal, IsSound}
use Rattle.life_typing_laws.proofs.Growing.{parts_there, same_type_at, stays_there}
use Rattle.life_typing_laws.proofs.Scopes.{sound_now}
use Rattle.life_typing_laws.proofs.Steps.{bound, found_ok, given_ok}
use Rattle.life_typing_laws.proofs.Typed.{Good, GoodBehind, IsGood, IsGoodBehind, IsTyped, PartsThere, typed_stays}

-- ---- the type of an element is there

module _ (types : Types) (based : Grows base_types types) where
  pub indexed_there : (e : ExprType) (constant : Bool) (element : TyId × Bool) → PartsThere types e → indexed e constant ≡ Some element → HasType types element.0
  indexed_there (Of (ty.Vector id)) constant element parts e = let same : ◌≡◌ {A = TyId × Bool} (id, constant) element = cc in subst (λ (y : TyId × Bool). HasType types y.0) same parts
  indexed_there (Of ty.Text) constant element parts e =
      let same : ◌≡◌ {A = TyId × Bool} (CHAR, constant) element = cc in subst (λ (y : TyId × Bool). HasType types y.0) same (stays_there base_types types CHAR based (omega arith))
  indexed_there (Of ty.View) constant element parts e =
      let same : ◌≡◌ {A = TyId × Bool} (CHAR, true) element = cc in subst (λ (y : TyId × Bool). HasType types y.0) same (stays_there base_types types CHAR based (omega arith))
  indexed_there (Of (ty.Span id held)) constant element parts e = let same : ◌≡◌ {A = TyId × Bool} (id, held) element = cc in subst (λ (y : TyId × Bool). HasType types y.0) same parts
  indexed_there (Of _) constant element parts e = absurd (cc)
  indexed_there NullPointer constant element parts e = absurd (cc)
  indexed_there TextLiteral constant element parts e = absurd (cc)

-- ---- what is indexed

pub record IsIndexed (types : Types) (opening : Place) (base position : Typed) (closing : Place) (e : Typed) : Type 0 where
  pub element : TyId × Bool
  pub gives : element_of base position ≡ Some element
  pub of : indexed base.ty (is_constant base.category) ≡ Some element
  pub is : place_of types element.0 element.1 opening (index (whole base) (whole position) closing) ≡ e

indexed_is : (types : Types) (opening : Place) (base position : Typed) (closing : Place) (e : Typed) → indexed_at types opening base position closing ≡ Ok e → IsIndexed types opening base position closing e
indexed_is types opening base position closing e h = go (element_of base position) refl h
  where
    from : (b : Bool) (element : TyId × Bool) → (if b then indexed base.ty (is_constant base.category) else None) ≡ Some element → indexed base.ty (is_constant base.category) ≡ Some element
    from true element is = is
    from false element is = absurd (cc)

    go : (o : Option (TyId × Bool)) → element_of base position ≡ o → indexed_to o types opening base position closing ≡ Ok e → IsIndexed types opening base position closing e
    go None is h = absurd (cc)
    go (Some element) is h = record { element = element; gives = is; of = from (is_position position.ty) element is; is = cc }

abbrev behind_position : Place → Place → Typed → Typed × Types → Checked Typed
behind_position opening closing base x = given (literal_allowed false x.0) (λ _. found_in x.1 (indexed_at x.1 opening base x.0 closing))

-- behind a base, a position that was read
pub record Indexes (opening : Place) (position : Meaning) (closing : Place) (base : Typed) (scope : Scope) (types : Types) (x : Typed × Types) : Type 0 where
  pub right : Typed × Types
  pub reads : position scope types ≡ Ok right
  pub at : IsIndexed right.1 opening base right.0 closing x.0
  pub table : right.1 ≡ x.1

indexes_of : (opening : Place) (position : Meaning) (closing : Place) (base : Typed) (scope : Scope) (types : Types) (x : Typed × Types) → index_part opening position closing base scope types ≡ Ok x
    → Indexes opening position closing base scope types x
indexes_of opening position closing base scope types x e =
    let first = given_ok (literal_allowed false base) (λ _. position scope types >>= behind_position opening closing base) x e in
    let read = bound (position scope types) (behind_position opening closing base) x first.behind in
    let literal = given_ok (literal_allowed false read.value.0) (λ _. found_in read.value.1 (indexed_at read.value.1 opening base read.value.0 closing)) x read.behind in
    let last = found_ok read.value.1 (indexed_at read.value.1 opening base read.value.0 closing) x literal.behind in
    record { right = read.value; reads = read.gave; at = indexed_is read.value.1 opening base read.value.0 closing x.0 last.0; table = last.1 }

module _ (p : ProgramForm) (locals : List TypedLocal) (v : Visible) (scope : Scope) (types : Types) (sound : IsSound v scope types) (final : IsFinal p locals scope types) where
  indexed_typed : (opening : Place) (base position : Typed) (closing : Place) (e : Typed) → IsIndexed types opening base position closing e → IsTyped p locals v types base → IsTyped p locals v types position
      → IsTyped p locals v types e
  indexed_typed opening base position closing e at left right =
      subst (IsTyped p locals v types) at.is (record {
        is = (ap (λ (o : Option (TyId × Bool)). indexed_to o p.types opening base position closing) at.gives ∙ ap (λ (y : Typed). Ok y) stays, left.is, right.is);
        parts = parts_there types at.element.0 sound.ordered there;
        place = there;
      })
    where
      there : HasType types at.element.0
      there = indexed_there types sound.based base.ty (is_constant base.category) at.element left.parts at.of

      stays : place_of p.types at.element.0 at.element.1 opening (index (whole base) (whole position) closing) ≡ place_of types at.element.0 at.element.1 opening (index (whole base) (whole position) closing)
      stays = rw (same_type_at types p.types at.element.0 final.grown there) refl

pub index_good : (opening : Place) (position : Meaning) (closing : Place) → Good position → GoodBehind (index_part opening position closing)
index_good opening position closing good v base scope types x e sound = made (indexes_of opening position closing base scope types x e)
  where
    made : Indexes opening position closing base scope types x → IsGoodBehind v base scope types x
    made i = subst (λ (s : Types). IsGoodBehind v base scope types (x.0, s)) i.table (record {
      grown = right.grown;
      is = λ p locals final left.
          indexed_typed p locals v scope i.right.1 (sound_now v scope types i.right.1 sound right.grown) final opening base i.right.0 closing x.0 i.at
          (typed_stays types i.right.1 right.grown.grows p locals v base left) (right.is p locals final);
    })
      where
        right : IsGood v scope types i.right
        right = good v scope types i.right i.reads sound
