-- What stands behind a `.` or a `->` is well typed.
use Rattle.std.proofs.Common.{◌≡◌, ℕ, zero, suc, ◌+◌, ◌<◌, ◌-◌, ◌^◌, Bool, true, false, ◌&&◌, Option, None, Some, Ok, List, [], ◌∷◌, length, slice_get, if◌then◌else◌, refl, sym, ap, subst, arith}
use Rattle.std.specs.Prelude.{nat_eq, nat_lt, unwrap_or}
use Rattle.life_types.specs.Trees.{AllBelow, members_at}
use Rattle.life_types.specs.Types.{Types, HasType}
use Rattle.life_types.specs.declared.place.Place.{Place}
use Rattle.life_types.specs.declared.ty.NameId.{NameId}
use Rattle.life_types.specs.declared.ty.Ty.TheVariants as ty
use Rattle.life_types.specs.declared.ty.TyId.{TyId}
use Rattle.life_tree.specs.declared.identifier.Identifier.{Identifier}
use Rattle.life_tree.specs.declared.operator.PrefixOperator.TheVariants as prefix
use Rattle.life_typed.specs.Programs.{ProgramForm}
use Rattle.life_typed.specs.TypedForm.{Typed, member, whole}
use Rattle.life_typed.specs.declared.typed_expr.Category.{Category}
use Rattle.life_typed.specs.declared.typed_expr.Category.TheVariants as category
use Rattle.life_typed.specs.declared.typed_expr.ExprType.{ExprType}
use Rattle.life_typed.specs.declared.typed_expr.ExprType.TheVariants.{Of, NullPointer, TextLiteral}
use Rattle.life_typed.specs.declared.typed_program.TypedLocal.{TypedLocal}
use Rattle.life_names.specs.Environment.{Scope, StructureView}
use Rattle.life_names.specs.Found.{given}
use Rattle.life_names.specs.declared.environment.MemberType.{MemberType}
use Rattle.life_type_expr.specs.Lists.{ListMeaning}
use Rattle.life_type_expr.specs.Members.{arrow_part, data_member, data_member_of, dot_part, member_from, member_in, member_of, member_of_struct, member_part}
use Rattle.life_type_expr.specs.Operands.{literal_allowed, place_of, pointed_to}
use Rattle.life_typing.specs.Structs.{types_of}
use Rattle.life_well_typed.specs.Members.{IsMember, IsMemberAt}
use Rattle.life_well_typed.specs.Visible.{Visible}
use Rattle.life_typing_laws.proofs.Growing.{grown_not, parts_there, same_type_at}
use Rattle.life_typing_laws.proofs.Methods.{method_good}
use Rattle.life_typing_laws.proofs.Prefixes.{prefixed_typed}
use Rattle.life_typing_laws.proofs.Scopes.{final_then}
use Rattle.life_typing_laws.proofs.Steps.{found_ok, given_ok}
use Rattle.life_typing_laws.proofs.Typed.{GoodBehind, GoodList, IsGoodBehind, IsTyped}
use Rattle.life_typing_laws.specs.Sound.{HasStruct, IsFinal, IsSound}

-- ---- members of structs

-- a member that is found is there
pub record IsMemberFrom (n : ℕ) (ms : List MemberType) (m : ℕ × TyId) : Type 0 where
  pub place : ℕ
  pub number : m.0 ≡ n + place
  pub there : slice_get (types_of ms) place ≡ Some m.1

member_is : (n : ℕ) (ms : List MemberType) (name : NameId) (m : ℕ × TyId) → member_from n ms name ≡ Some m → IsMemberFrom n ms m
member_is n [] name m e = absurd (cc)
member_is n (first ∷ ms) name m e = go (nat_eq first.name.0 name.0 && nat_lt n (2 ^ 32 - 1)) e (λ h. member_is (suc n) ms name m h)
  where
    go : (b : Bool) → (if b then Some (n, first.ty) else member_from (suc n) ms name) ≡ Some m → (member_from (suc n) ms name ≡ Some m → IsMemberFrom (suc n) ms m) → IsMemberFrom n (first ∷ ms) m
    go true e others =
        let same : ◌≡◌ {A = ℕ × TyId} (n, first.ty) m = cc in
        subst (IsMemberFrom n (first ∷ ms)) same (record { place = 0; number = omega arith; there = refl })
    go false e others = let rest = others e in record { place = suc rest.place; number = omega (arith, rest.number); there = rest.there }

-- a member of a struct that is a place
pub record IsData (types : Types) (scope : Scope) (place : Place) (base e : Typed) : Type 0 where
  pub number : ℕ
  pub s : StructureView
  pub structure : slice_get scope.structs number ≡ Some s
  pub type : base.ty ≡ Of (ty.Struct number)
  pub which : ℕ
  pub id : TyId
  pub there : slice_get (types_of s.members) which ≡ Some id
  pub object : TyId
  pub constant : Bool
  pub held : base.category ≡ category.Place object constant
  pub is : place_of types id constant place (member (whole base) which) ≡ e

data_is : (name : Identifier) (scope : Scope) (types : Types) (base e : Typed) → data_member name scope types base ≡ Ok e → IsData types scope name.place base e
data_is name scope types base e h = of_type base.ty refl h
  where
    in_place : (number : ℕ) (s : StructureView) → slice_get scope.structs number ≡ Some s → base.ty ≡ Of (ty.Struct number) → (m : ℕ × TyId) → IsMemberFrom 0 s.members m → (c : Category) → base.category ≡ c
        → member_in c types name.place base m ≡ Ok e → IsData types scope name.place base e
    in_place number s found is m from category.Value held h = absurd (cc)
    in_place number s found is m from (category.Place object constant) held h =
        let same : place_of types m.1 constant name.place (member (whole base) m.0) ≡ e = cc in
        let at : from.place ≡ m.0 = omega (arith, from.number) in
        record {
          number = number;
          s = s;
          structure = found;
          type = is;
          which = m.0;
          id = m.1;
          there = subst (λ (n : ℕ). slice_get (types_of s.members) n ≡ Some m.1) at from.there;
          object = object;
          constant = constant;
          held = held;
          is = same;
        }

    of_member : (number : ℕ) (s : StructureView) → slice_get scope.structs number ≡ Some s → base.ty ≡ Of (ty.Struct number) → (o : Option (ℕ × TyId)) → member_from 0 s.members name.id ≡ o
        → data_member_of o types name.place base ≡ Ok e → IsData types scope name.place base e
    of_member number s found is None from h = absurd (cc)
    of_member number s found is (Some m) from h = in_place number s found is m (member_is 0 s.members name.id m from) base.category refl h

    of_struct : (number : ℕ) (o : Option StructureView) → slice_get scope.structs number ≡ o → base.ty ≡ Of (ty.Struct number) → data_member_of (member_of_struct o name.id) types name.place base ≡ Ok e
        → IsData types scope name.place base e
    of_struct number None found is h = absurd (cc)
    of_struct number (Some s) found is h = of_member number s found is (member_from 0 s.members name.id) refl h

    of_type : (t : ExprType) → base.ty ≡ t → data_member_of (member_of t name.id scope) types name.place base ≡ Ok e → IsData types scope name.place base e
    of_type (Of (ty.Struct number)) is h = of_struct number (slice_get scope.structs number) refl is h
    of_type (Of _) is h = absurd (cc)
    of_type NullPointer is h = absurd (cc)
    of_type TextLiteral is h = absurd (cc)

-- the type of a member is there
below_at : (n : ℕ) (ids : List TyId) (k : ℕ) (id : TyId) → AllBelow n ids → slice_get ids k ≡ Some id → id.0 < n
below_at n [] k id below e = absurd (cc)
below_at n (first ∷ ids) zero id below e = let same : first ≡ id = cc in subst (λ (i : TyId). i.0 < n) same below.0
below_at n (first ∷ ids) (suc k) id below e = below_at n ids k id below.1 e

module _ (p : ProgramForm) (locals : List TypedLocal) (v : Visible) (scope : Scope) (types : Types) (sound : IsSound v scope types) (final : IsFinal p locals scope types) where
  data_typed : (place : Place) (base e : Typed) → IsData types scope place base e → IsTyped p locals v types base → IsTyped p locals v types e
  data_typed place base e d left = subst (IsTyped p locals v types) d.is (record {
    is = (
      subst (λ (t : ExprType). IsMember p.types t base.category d.which of) (sym d.type)
          (subst (λ (c : Category). IsMember p.types (Of (ty.Struct d.number)) c d.which of) (sym d.held)
          (subst (λ (ids : List TyId). IsMemberAt p.types (slice_get ids d.which) d.constant of) (sym members)
          (subst (λ (o : Option TyId). IsMemberAt p.types o d.constant of) (sym d.there) (sym stays)))),
      left.is,
    );
    parts = parts_there types d.id sound.ordered there;
    place = there;
  })
    where
      of : Typed
      of = place_of types d.id d.constant place (member (whole base) d.which)

      has : HasStruct types d.number d.s
      has = sound.structs_there d.number d.s d.structure

      there : HasType types d.id
      there = below_at (length types.types) (types_of d.s.members) d.which d.id (sound.ordered.members d.number (types_of d.s.members) has.members) d.there

      members : members_at p.types d.number ≡ types_of d.s.members
      members = ap (λ (o : Option (List TyId)). unwrap_or o []) (final.grown.structs d.number (types_of d.s.members) has.members)

      stays : place_of p.types d.id d.constant place (member (whole base) d.which) ≡ place_of types d.id d.constant place (member (whole base) d.which)
      stays = rw (same_type_at types p.types d.id final.grown there) refl

abbrev pub AreGood : Option ListMeaning → Type 0
AreGood None = Unit {0}
AreGood (Some l) = GoodList l

member_good : (name : Identifier) (o : Option ListMeaning) → AreGood o → GoodBehind (member_part name o)
member_good name (Some l) good v base scope types x e sound = method_good name l good v base scope types x e sound
member_good name None good v base scope types x e sound =
    let last = found_ok types (data_member name scope types base) x e in
    let found = data_is name scope types base x.0 last.0 in
    subst (λ (s : Types). IsGoodBehind v base scope types (x.0, s)) last.1 (record {
      grown = grown_not types sound.ordered;
      is = λ p locals final left. data_typed p locals v scope types sound final name.place base x.0 found left;
    })

pub dot_good : (name : Identifier) (o : Option ListMeaning) → AreGood o → GoodBehind (dot_part name o)
dot_good name o good v base scope types x e sound =
    let literal = given_ok (literal_allowed false base) (λ _. member_part name o base scope types) x e in
    member_good name o good v base scope types x literal.behind sound

pub arrow_good : (name : Identifier) (o : Option ListMeaning) → AreGood o → GoodBehind (arrow_part name o)
arrow_good name o good v base scope types x e sound =
    let literal = given_ok (literal_allowed false base) (λ _. given (pointed_to types name.place base) (λ target. member_part name o target scope types)) x e in
    let target = given_ok (pointed_to types name.place base) (λ target. member_part name o target scope types) x literal.behind in
    let behind = member_good name o good v target.value scope types x target.behind sound in
    record {
      grown = behind.grown;
      is = λ p locals final left.
          behind.is p locals final (prefixed_typed p locals v scope types sound (final_then p locals scope types x.1 behind.grown final) prefix.Dereference name.place base target.value target.gave left);
    }
