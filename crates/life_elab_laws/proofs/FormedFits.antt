-- What the rules of initialisation let a pointer be given it takes, and so does a reference: of one target, and const stays const.
use Rattle.std.proofs.Common.{◌≡◌, ℕ, Bool, true, false, ◌&&◌, not, cond, Err, refl, ap, ◌∙◌, subst, rules, ◌||◌, sym, nat_eq, if◌then◌else◌, arith}
use Rattle.std.proofs.lemmas.Bool.{and_from, false≢true}
use Rattle.std.proofs.lemmas.Bool.Decides.{nat_tests}
use Rattle.life_elab_laws.proofs.ObjectTypes.{is_owner_of_values, is_walker_of_values, is_element, is_target}
use Rattle.life_types.specs.Pointees.{ty_of}
use Rattle.life_types.specs.Types.{Types}
use Rattle.life_types.specs.contracts.ty.TyIdPartialEq.TheImpl.{ghosts as id}
use Rattle.life_types.specs.declared.ty.Ty.TheVariants as ty
use Rattle.life_types.specs.declared.ty.TyId.{TyId}
use Rattle.life_typed.specs.BaseTypes.{type_at}
use Rattle.life_typed.specs.Conversions.{copied, fits, fitting, initialised, is_const_place, is_place_of, pointer_from, refused, unless, same_target}
use Rattle.life_typed.specs.TypedForm.{Typed}
use Rattle.life_typed.specs.declared.misfit.Misfit.TheVariants.{General, Constant}
use Rattle.life_typed.specs.declared.typed_expr.Category.{Category}
use Rattle.life_typed.specs.declared.typed_expr.Category.TheVariants as category
use Rattle.life_typed.specs.declared.typed_expr.ExprType.{ExprType}
use Rattle.life_typed.specs.declared.typed_expr.ExprType.TheVariants.{Of, NullPointer, TextLiteral}
use Rattle.life_type_expr.specs.Lists.{fits_at_all}
use Rattle.life_type_expr.specs.Operands.{is_constant}
use Rattle.life_well_typed.specs.Given.{is_given}
use Rattle.life_proper.specs.OperandTypes.{keeps_const, same, takes}
use Rattle.life_elab_laws.proofs.Gifts.{takes_from}
use Rattle.life_elab_laws.proofs.FormedVariables.{keeps_same}
use Rattle.life_elab_laws.proofs.Fronts.{IsFront}
use Rattle.life_elab_laws.proofs.Locations.{is_seen}
use Rattle.life_types.specs.declared.ty.Ty.{Ty}
use Rattle.life_elab_laws.proofs.Elements.{one_element, element_target}
use Rattle.life_elab_laws.proofs.Targets.{one_target}
use Rattle.life_elab_laws.proofs.Values.{by_owners}

pub same_id : (a b : TyId) → id.eq a b ≡ true → a ≡ b
same_id a b e = search rules

keeps_as : (c held : Bool) → fits_at_all (unless (held && not c) Constant) ≡ true → keeps_const c held ≡ true
keeps_as true held e = refl
keeps_as false true e = absurd (false≢true e)
keeps_as false false e = refl

module _ (few more : Types) (front : IsFront few.types more.types) (target : TyId) (constant : Bool) (worth : is_target few (type_at few target) ≡ true) where
  alike : (found : TyId) → found ≡ target → same (ty_of more target) (ty_of more found) ≡ true
  alike found e = ap (λ (i : TyId). same (ty_of more target) (ty_of more i)) e ∙ one_target few more front target worth

  from_pointer : (found : TyId) (held : Bool) → fits_at_all (pointer_from target constant (ty.Raw found held)) ≡ true → takes_from more (ty.Raw target constant) (Of (ty.Raw found held)) ≡ true
  from_pointer found held e = go (id.eq found target) refl e
    where
      go : (b : Bool) → id.eq found target ≡ b → fits_at_all (cond b (unless (held && not constant) Constant) (Err General)) ≡ true
          → (same (ty_of more target) (ty_of more found) && keeps_const constant held) ≡ true
      go true is e = and_from (same (ty_of more target) (ty_of more found)) (keeps_const constant held) (alike found (same_id found target is)) (keeps_as constant held e)
      go false is e = absurd (false≢true e)

  fits_raw : (t : ExprType) (c : Category) → fits_at_all (initialised few (ty.Raw target constant) t c) ≡ true → takes_from more (ty.Raw target constant) t ≡ true
  fits_raw (Of (ty.Raw found held)) c e = from_pointer found held e
  fits_raw (Of _) c e = absurd (false≢true e)
  fits_raw NullPointer c e = refl
  fits_raw TextLiteral c e = absurd (false≢true e)

  -- what is given to a raw pointer
  pub given_raw : (e : Typed) → is_given few (ty.Raw target constant) e ≡ true → takes_from more (ty.Raw target constant) e.ty ≡ true
  given_raw e given = fits_raw e.ty e.category given

-- .. and to a view
pub given_seen : (types : Types) (t : ExprType) → is_seen t ≡ true → takes_from types ty.View t ≡ true
given_seen types (Of ty.View) e = refl
given_seen types (Of _) e = absurd (false≢true e)
given_seen types NullPointer e = absurd (false≢true e)
given_seen types TextLiteral e = refl

-- a place that a reference is bound to, which keeps its const
pub record IsBoundTo (target : TyId) (constant : Bool) (c : Category) : Type 0 where
  pub held : Bool
  pub place : c ≡ category.Place target held
  pub kept : keeps_const constant held ≡ true
  pub here : is_place_of c target ≡ true

bound_kept : (types : Types) (target : TyId) (constant held : Bool) (t : ExprType) → fits_at_all (fits types (ty.Reference target constant) t (category.Place target held)) ≡ true → id.eq target target ≡ true → keeps_const constant held ≡ true
bound_kept types target true held t e is = refl
bound_kept types target false held t e is = plain held (rw is at e)
  where
    plain : (held : Bool) → fits_at_all (unless held Constant) ≡ true → keeps_const false held ≡ true
    plain true e = absurd (false≢true e)
    plain false e = refl

bound_place : (types : Types) (target : TyId) (constant : Bool) (t : ExprType) (c : Category) → is_place_of c target ≡ true → fits_at_all (fits types (ty.Reference target constant) t c) ≡ true → IsBoundTo target constant c
bound_place types target constant t category.Value is e = absurd (false≢true is)
bound_place types target constant t (category.Place found held) is e =
    let one = same_id found target is in
    record {
      held = held;
      place = ap (λ (i : TyId). category.Place i held) one;
      here = is;
      kept = bound_kept types target constant held t (subst (λ (i : TyId). fits_at_all (fits types (ty.Reference target constant) t (category.Place i held)) ≡ true) one e)
          (subst (λ (i : TyId). id.eq i target ≡ true) one is);
    }

-- what is given to a reference through which it may be changed
pub given_changed : (types : Types) (target : TyId) (e : Typed) → is_given types (ty.Reference target false) e ≡ true → IsBoundTo target false e.category
given_changed types target e given = go e.category refl given
  where
    none : (t : ExprType) → fits_at_all (refused t) ≡ true → ⊥
    none (Of t) h = false≢true h
    none NullPointer h = false≢true h
    none TextLiteral h = false≢true h

    go : (c : Category) → e.category ≡ c → fits_at_all (fits types (ty.Reference target false) e.ty c) ≡ true → IsBoundTo target false e.category
    go category.Value at h = absurd (none e.ty h)
    go (category.Place found held) at h = same (id.eq found target) refl h
      where
        same : (b : Bool) → id.eq found target ≡ b → fits_at_all (cond b (unless held Constant) (refused e.ty)) ≡ true → IsBoundTo target false e.category
        same true is h = subst (IsBoundTo target false) (sym at) (bound_place types target false e.ty (category.Place found held) is (subst (λ (c : Category). fits_at_all (fits types (ty.Reference target false) e.ty c) ≡ true) at given))
        same false is h = absurd (none e.ty h)

-- what a reference is given: a place that it is bound to, or what a temporary of its target is given
pub data IsBound (types : Types) (target : TyId) (constant : Bool) (e : Typed) : Type 0 where
  at_place : IsBoundTo target constant e.category → IsBound types target constant e
  by_temporary : is_place_of e.category target ≡ false → is_given types (type_at types target) e ≡ true → IsBound types target constant e

pub given_bound : (types : Types) (target : TyId) (constant : Bool) (e : Typed) → is_target types (type_at types target) ≡ true → is_given types (ty.Reference target constant) e ≡ true → IsBound types target constant e
given_bound types target false e worth given = at_place (given_changed types target e given)
given_bound types target true e worth given = go (is_place_of e.category target) refl given
  where
    initial : (t : Ty) → is_target types t ≡ true → fits_at_all (initialised types t e.ty e.category) ≡ true → is_given types t e ≡ true
    initial (ty.Reference found held) worth h = absurd (false≢true worth)
    initial _ worth h = h

    go : (b : Bool) → is_place_of e.category target ≡ b → fits_at_all (cond b fitting (initialised types (type_at types target) e.ty e.category)) ≡ true → IsBound types target true e
    go true is h = at_place (bound_place types target true e.ty e.category is given)
    go false is h = by_temporary is (initial (type_at types target) worth h)

-- ---- owners

pub tested_as : (b : Bool) → fits_at_all (unless (not b) General) ≡ true → b ≡ true
tested_as true h = refl
tested_as false h = absurd (false≢true h)

-- an owner that an owner is given has its type
pub given_owner : (types : Types) (t u : Ty) (e : Typed) → is_owner_of_values types t ≡ true → is_owner_of_values types u ≡ true → e.ty ≡ Of u → is_given types t e ≡ true → u ≡ t
given_owner types t u e o own is given = go t u o own (subst (λ (x : ExprType). fits_at_all (fits types t x e.category) ≡ true) is given)
  where
    go : (t u : Ty) → is_owner_of_values types t ≡ true → is_owner_of_values types u ≡ true → fits_at_all (fits types t (Of u) e.category) ≡ true → u ≡ t
    go ty.Text ty.Text o own h = refl
    go ty.Text (ty.Vector found) o own h = absurd (false≢true h)
    go ty.Text _ o own h = absurd (false≢true own)
    go (ty.Vector item) (ty.Vector found) o own h = ap ty.Vector (same_id found item (tested_as (id.eq found item) h))
    go (ty.Vector item) ty.Text o own h = absurd (false≢true h)
    go (ty.Vector item) _ o own h = absurd (false≢true own)
    go _ u o own h = absurd (false≢true o)

-- .. and so does a struct
pub given_struct : (types : Types) (number found : ℕ) (e : Typed) → e.ty ≡ Of (ty.Struct found) → is_given types (ty.Struct number) e ≡ true → found ≡ number
given_struct types number found e is given = go (nat_eq found number) refl (subst (λ (x : ExprType). fits_at_all (fits types (ty.Struct number) x e.category) ≡ true) is given)
  where
    one : (m n : ℕ) → nat_eq m n ≡ true → m ≡ n
    one m n h = grind (arith, nat_tests)

    go : (b : Bool) → nat_eq found number ≡ b → fits_at_all (if b then copied types e.category else Err General) ≡ true → found ≡ number
    go true same h = one found number same
    go false same h = absurd (false≢true h)

-- .. and one that a view is given is a string
pub given_string : (types : Types) (u : Ty) (e : Typed) → is_owner_of_values types u ≡ true → e.ty ≡ Of u → is_given types ty.View e ≡ true → u ≡ ty.Text
given_string types u e own is given = go u own (subst (λ (x : ExprType). fits_at_all (fits types ty.View x e.category) ≡ true) is given)
  where
    go : (u : Ty) → is_owner_of_values types u ≡ true → fits_at_all (fits types ty.View (Of u) e.category) ≡ true → u ≡ ty.Text
    go = by_owners types _ (λ h. refl) (λ found h. absurd (false≢true h))

-- ---- iterators and spans

tested_both : (same_one held : Bool) (constant : Bool) → fits_at_all (unless (not same_one || (held && not constant)) General) ≡ true → (same_one ≡ true) × (keeps_const constant held ≡ true)
tested_both true false constant h = (refl, keeps_none constant)
  where
    keeps_none : (c : Bool) → keeps_const c false ≡ true
    keeps_none true = refl
    keeps_none false = refl
tested_both true true true h = (refl, refl)
tested_both true true false h = absurd (false≢true h)
tested_both false held constant h = absurd (false≢true h)

tested_target : (same_one held : Bool) (constant : Bool) → fits_at_all (same_target same_one held constant) ≡ true → (same_one ≡ true) × (keeps_const constant held ≡ true)
tested_target true held constant h = (refl, keeps_as constant held h)
tested_target false held constant h = absurd (false≢true h)

module _ (few more : Types) (front : IsFront few.types more.types) where
  one_item : (item found : TyId) → is_element few (type_at few item) ≡ true → id.eq found item ≡ true → same (ty_of more item) (ty_of more found) ≡ true
  one_item item found v e = ap (λ (i : TyId). same (ty_of more item) (ty_of more i)) (same_id found item e) ∙ one_element few more front item v

  -- one that is given to another
  pub given_walker : (t u : Ty) (e : Typed) → is_walker_of_values few t ≡ true → is_walker_of_values few u ≡ true → e.ty ≡ Of u → is_given few t e ≡ true → takes more t u ≡ true
  given_walker t u e w own is given = go t u w own (subst (λ (x : ExprType). fits_at_all (fits few t x e.category) ≡ true) is given)
    where
      go : (t u : Ty) → is_walker_of_values few t ≡ true → is_walker_of_values few u ≡ true → fits_at_all (fits few t (Of u) e.category) ≡ true → takes more t u ≡ true
      go (ty.Iterator item c) (ty.Iterator found held) w own h =
          let both = tested_both (id.eq found item) held c h in and_from (same (ty_of more item) (ty_of more found)) (keeps_const c held) (one_item item found w both.0) both.1
      go (ty.Iterator item c) (ty.Span found held) w own h = absurd (false≢true h)
      go (ty.Iterator item c) _ w own h = absurd (false≢true own)
      go (ty.Span item c) (ty.Span found held) w own h =
          let both = tested_target (id.eq found item) held c h in and_from (same (ty_of more item) (ty_of more found)) (keeps_const c held) (one_item item found w both.0) both.1
      go (ty.Span item c) (ty.Iterator found held) w own h = absurd (false≢true h)
      go (ty.Span item c) _ w own h = absurd (false≢true own)
      go _ u w own h = absurd (false≢true w)

-- .. and it takes itself
pub walker_itself : (few more : Types) → IsFront few.types more.types → (t : Ty) → is_walker_of_values few t ≡ true → takes more t t ≡ true
walker_itself few more front (ty.Iterator item c) w = and_from (same (ty_of more item) (ty_of more item)) (keeps_const c c) (one_target few more front item (element_target few (type_at few item) w)) (keeps_same c)
walker_itself few more front (ty.Span item c) w = and_from (same (ty_of more item) (ty_of more item)) (keeps_const c c) (one_target few more front item (element_target few (type_at few item) w)) (keeps_same c)
walker_itself few more front _ w = absurd (false≢true w)

-- a span that is given an owner is given a vector of its elements
pub record IsSpanOf (item : TyId) (constant held : Bool) (u : Ty) : Type 0 where
  pub is : u ≡ ty.Vector item
  pub kept : keeps_const constant held ≡ true

-- const by both definitions
const_either : (c : Category) → is_const_place c ≡ is_constant c
const_either category.Value = refl
const_either (category.Place target constant) = refl

pub given_vector : (types : Types) (item : TyId) (constant held : Bool) (u : Ty) (e : Typed) → is_owner_of_values types u ≡ true → e.ty ≡ Of u → is_constant e.category ≡ held → is_given types (ty.Span item constant) e ≡ true → IsSpanOf item constant held u
given_vector types item constant held u e own is told given = go u own (subst (λ (x : ExprType). fits_at_all (fits types (ty.Span item constant) x e.category) ≡ true) is given)
  where
    go : (u : Ty) → is_owner_of_values types u ≡ true → fits_at_all (fits types (ty.Span item constant) (Of u) e.category) ≡ true → IsSpanOf item constant held u
    go (ty.Vector found) own h =
        let both = tested_target (id.eq found item) held constant (subst (λ (b : Bool). fits_at_all (same_target (id.eq found item) b constant) ≡ true) (const_either e.category ∙ told) h) in
        record { is = ap ty.Vector (same_id found item both.0); kept = both.1 }
    go ty.Text own h = absurd (false≢true h)
    go _ own h = absurd (false≢true own)
