-- Operators before an operand, and parentheses around one.
use Rattle.std.proofs.Common.{◌≡◌, Bool, true, false, Option, None, Some, Result, Ok, Err, List, slice_get, refl, sym, ap, subst, ◌∙◌, if◌then◌else◌}
use Rattle.life_types.specs.Trees.{TypeTree, is_plain, tree_at, tree_of, tree_within}
use Rattle.life_types.specs.TypeTests.{is_raw}
use Rattle.life_types.specs.Types.{Types, HasType}
use Rattle.life_types.specs.declared.place.Place.{Place}
use Rattle.life_types.specs.declared.ty.Ty.{Ty}
use Rattle.life_types.specs.declared.ty.Ty.TheVariants as ty
use Rattle.life_types.specs.declared.ty.TyId.{TyId}
use Rattle.life_tree.specs.declared.operator.PrefixOperator.{PrefixOperator}
use Rattle.life_tree.specs.declared.operator.PrefixOperator.TheVariants as prefix
use Rattle.life_typed.specs.BaseTypes.{type_at}
use Rattle.life_typed.specs.Operators.{dereferenced, is_condition, negated}
use Rattle.life_typed.specs.Programs.{ProgramForm}
use Rattle.life_typed.specs.TypedForm.{Typed, address_of, dereference, negate, not as negation, paren, whole}
use Rattle.life_typed.specs.declared.misfit.Misfit.{Misfit}
use Rattle.life_typed.specs.declared.typed_expr.Category.{Category}
use Rattle.life_typed.specs.declared.typed_expr.Category.TheVariants as category
use Rattle.life_typed.specs.declared.typed_expr.ExprType.{ExprType}
use Rattle.life_typed.specs.declared.typed_expr.ExprType.TheVariants.{Of, NullPointer, TextLiteral}
use Rattle.life_typed.specs.declared.typed_program.TypedLocal.{TypedLocal}
use Rattle.life_names.specs.Checked.{◌>>=◌}
use Rattle.life_names.specs.Environment.{Scope}
use Rattle.life_names.specs.Found.{Found, found_in, not_found}
use Rattle.life_names.specs.declared.fault.IllKind.TheVariants as kinds
use Rattle.life_type_expr.specs.Lists.{Meaning}
use Rattle.life_type_expr.specs.Operands.{address_to, dereferenced_to, literal_allowed, negated_to, parenthesized, place_of, prefixed, prefixed_by, value}
use Rattle.life_well_typed.specs.Expressions.{IsAddress}
use Rattle.life_well_typed.specs.Visible.{Visible}
use Rattle.life_typing_laws.proofs.Combining.{negated_parts}
use Rattle.life_typing_laws.proofs.Fitting.{same_tree_at}
use Rattle.life_typing_laws.proofs.Growing.{parts_there, same_type_at}
use Rattle.life_typing_laws.specs.Sound.{IsFinal, IsSound}
use Rattle.life_typing_laws.proofs.Scopes.{sound_now}
use Rattle.life_typing_laws.proofs.Steps.{bound, found_ok, given_ok}
use Rattle.life_typing_laws.proofs.Typed.{Good, IsGood, IsTyped, PartsThere, PlaceThere}

-- ---- addresses

-- what is plain is no pointer
plain_no_pointer : (types : Types) (id : TyId) → is_plain (tree_at types id) ≡ true → is_raw (type_at types id) ≡ false
unfolding tree_at
plain_no_pointer types id plain = go (slice_get types.types id.0) refl plain
  where
    of : (t : Ty) → is_plain (tree_of types (tree_within id.0 types) (Some t)) ≡ true → is_raw t ≡ false
    of (ty.Raw target constant) plain = absurd (cc)
    of _ plain = refl

    go : (o : Option Ty) → slice_get types.types id.0 ≡ o → is_plain (tree_of types (tree_within id.0 types) (slice_get types.types id.0)) ≡ true → is_raw (type_at types id) ≡ false
    go None is plain = rw is refl
    go (Some t) is plain = rw is (of t (rw is at plain))

-- ---- what a pointer points to is there

pub target_there : (types : Types) (e : ExprType) (target : TyId × Bool) → PartsThere types e → dereferenced e ≡ Some target → HasType types target.0
target_there types (Of (ty.Raw id constant)) target parts e = let same : ◌≡◌ {A = TyId × Bool} (id, constant) target = cc in subst (λ (y : TyId × Bool). HasType types y.0) same parts
target_there types (Of (ty.Iterator id constant)) target parts e = let same : ◌≡◌ {A = TyId × Bool} (id, constant) target = cc in subst (λ (y : TyId × Bool). HasType types y.0) same parts
target_there types (Of (ty.Unique id)) target parts e = let same : ◌≡◌ {A = TyId × Bool} (id, false) target = cc in subst (λ (y : TyId × Bool). HasType types y.0) same parts
target_there types (Of _) target parts e = absurd (cc)
target_there types NullPointer target parts e = absurd (cc)
target_there types TextLiteral target parts e = absurd (cc)

-- ---- what an operator makes of an operand

module _ (p : ProgramForm) (locals : List TypedLocal) (v : Visible) (scope : Scope) (types : Types) (sound : IsSound v scope types) (final : IsFinal p locals scope types) where
  pub prefixed_typed : (operator : PrefixOperator) (place : Place) (inner e : Typed) → prefixed_by operator types place inner ≡ Ok e → IsTyped p locals v types inner → IsTyped p locals v types e
  prefixed_typed prefix.Not place inner e h is = go (is_condition inner.ty) refl h
    where
      go : (b : Bool) → is_condition inner.ty ≡ b → ◌≡◌ {A = Found Typed} (if b then Ok (value place ty.Bool (negation (whole inner))) else not_found kinds.WrongType place) (Ok e) → IsTyped p locals v types e
      go true test h =
          let same : value place ty.Bool (negation (whole inner)) ≡ e = cc in
          subst (IsTyped p locals v types) same (record { is = (rw test refl, is.is); parts = tt; place = tt })
      go false test h = absurd (cc)
  prefixed_typed prefix.Negate place inner e h is = go (negated inner.ty) refl h
    where
      go : (r : Result Ty Misfit) → negated inner.ty ≡ r → negated_to r place inner ≡ Ok e → IsTyped p locals v types e
      go (Ok t) test h =
          let same : value place t (negate (whole inner)) ≡ e = cc in
          subst (IsTyped p locals v types) same (record { is = (ap (λ (r : Result Ty Misfit). negated_to r place inner) test, is.is); parts = negated_parts types inner.ty t test; place = tt })
      go (Err m) test h = absurd (cc)
  prefixed_typed prefix.Dereference place inner e h is = go (dereferenced inner.ty) refl h
    where
      go : (o : Option (TyId × Bool)) → dereferenced inner.ty ≡ o → dereferenced_to o types place inner ≡ Ok e → IsTyped p locals v types e
      go None test h = absurd (cc)
      go (Some target) test h =
          let there : HasType types target.0 = target_there types inner.ty target is.parts test in
          let same : place_of types target.0 target.1 place (dereference (whole inner)) ≡ e = cc in
          let stays : place_of p.types target.0 target.1 place (dereference (whole inner)) ≡ place_of types target.0 target.1 place (dereference (whole inner)) = rw (same_type_at types p.types target.0 final.grown there) refl in
          subst (IsTyped p locals v types) same (record {
            is = (ap (λ (o : Option (TyId × Bool)). dereferenced_to o p.types place inner) test ∙ ap (λ (y : Typed). Ok y) stays, is.is);
            parts = parts_there types target.0 sound.ordered there;
            place = there;
          })
  prefixed_typed prefix.AddressOf place inner e h is = go inner.category refl is.place h
    where
      plain : (id : TyId) (constant : Bool) → inner.category ≡ category.Place id constant → HasType types id → (b : Bool) → is_plain (tree_at types id) ≡ b
          → ◌≡◌ {A = Found Typed} (if b then Ok (value place (ty.Raw id constant) (address_of (whole inner))) else not_found kinds.NotPlain place) (Ok e) → IsTyped p locals v types e
      plain id constant cat there true test h =
          let same : value place (ty.Raw id constant) (address_of (whole inner)) ≡ e = cc in
          let still : is_plain (tree_at p.types id) ≡ true = subst (λ (t : TypeTree). is_plain t ≡ true) (sym (same_tree_at types p.types sound.ordered final.grown id there)) test in
          let no_pointer : is_raw (type_at p.types id) ≡ false = subst (λ (t : Ty). is_raw t ≡ false) (sym (same_type_at types p.types id final.grown there)) (plain_no_pointer types id test) in
          subst (IsTyped p locals v types) same (record {
            is = (subst (λ (c : Category). IsAddress p.types c (value place (ty.Raw id constant) (address_of (whole inner)))) (sym cat) (no_pointer, refl, still), is.is);
            parts = there;
            place = tt;
          })
      plain id constant cat there false test h = absurd (cc)

      go : (c : Category) → inner.category ≡ c → PlaceThere types inner.category → address_to c types place inner ≡ Ok e → IsTyped p locals v types e
      go category.Value cat there h = absurd (cc)
      go (category.Place id constant) cat there h = plain id constant cat (subst (PlaceThere types) cat there) (is_plain (tree_at types id)) refl h

-- an operand behind an operator
abbrev pub prefix_of : PrefixOperator → Place → Meaning → Meaning
prefix_of operator place operand scope types = operand scope types >>= prefixed operator place

pub record IsPrefixed (operator : PrefixOperator) (place : Place) (operand : Meaning) (scope : Scope) (types : Types) (x : Typed × Types) : Type 0 where
  pub inner : Typed × Types
  pub reads : operand scope types ≡ Ok inner
  pub is : prefixed_by operator inner.1 place inner.0 ≡ Ok x.0
  pub table : inner.1 ≡ x.1

prefixed_is : (operator : PrefixOperator) (place : Place) (operand : Meaning) (scope : Scope) (types : Types) (x : Typed × Types) → prefix_of operator place operand scope types ≡ Ok x
    → IsPrefixed operator place operand scope types x
prefixed_is operator place operand scope types x e =
    let step = bound (operand scope types) (prefixed operator place) x e in
    let literal = given_ok (literal_allowed false step.value.0) (λ _. found_in step.value.1 (prefixed_by operator step.value.1 place step.value.0)) x step.behind in
    let found = found_ok step.value.1 (prefixed_by operator step.value.1 place step.value.0) x literal.behind in
    record { inner = step.value; reads = step.gave; is = found.0; table = found.1 }

pub prefix_good : (operator : PrefixOperator) (place : Place) (operand : Meaning) → Good operand → Good (prefix_of operator place operand)
prefix_good operator place operand good v scope types x e sound =
    let q = prefixed_is operator place operand scope types x e in
    let inner = good v scope types q.inner q.reads sound in
    subst (λ (s : Types). IsGood v scope types (x.0, s)) q.table (record {
      grown = inner.grown;
      is = λ p locals final. prefixed_typed p locals v scope q.inner.1 (sound_now v scope types q.inner.1 sound inner.grown) final operator place q.inner.0 x.0 q.is (inner.is p locals final);
    })

-- ---- parentheses

abbrev pub paren_of : Place → Meaning → Meaning
paren_of closing operand scope types = operand scope types >>= (λ x. found_in x.1 (parenthesized closing x.0))

abbrev around : Place → Typed → Typed
around closing e = record { place = e.place; ty = e.ty; category = e.category; form = paren (whole e) closing }

pub record IsParen (closing : Place) (operand : Meaning) (scope : Scope) (types : Types) (x : Typed × Types) : Type 0 where
  pub inner : Typed × Types
  pub reads : operand scope types ≡ Ok inner
  pub is : around closing inner.0 ≡ x.0
  pub table : inner.1 ≡ x.1

paren_is : (closing : Place) (operand : Meaning) (scope : Scope) (types : Types) (x : Typed × Types) → paren_of closing operand scope types ≡ Ok x → IsParen closing operand scope types x
paren_is closing operand scope types x e =
    let step = bound (operand scope types) (λ y. found_in y.1 (parenthesized closing y.0)) x e in
    let found = found_ok step.value.1 (parenthesized closing step.value.0) x step.behind in
    record { inner = step.value; reads = step.gave; is = same_found (around closing step.value.0) x.0 found.0; table = found.1 }
  where
    same_found : (a b : Typed) → ◌≡◌ {A = Found Typed} (Ok a) (Ok b) → a ≡ b
    same_found a b h = cc

pub paren_good : (closing : Place) (operand : Meaning) → Good operand → Good (paren_of closing operand)
paren_good closing operand good v scope types x e sound =
    let q = paren_is closing operand scope types x e in
    let inner = good v scope types q.inner q.reads sound in
    subst (λ (s : Types). IsGood v scope types (x.0, s)) q.table (record {
      grown = inner.grown;
      is = λ p locals final.
          let typed = inner.is p locals final in
          subst (IsTyped p locals v q.inner.1) q.is (record { is = (refl, typed.is); parts = typed.parts; place = typed.place });
    })
