-- A unique_ptr is given back: made anew, moved out of a variable, which may be named alone ([class.copy.elision]), or given by a call; or it owns nothing.
use Rattle.std.proofs.Common.{◌≡◌, inl, inr, ℕ, Bool, true, false, ◌||◌, if◌then◌else◌, not, nat_eq, List, [], ◌∷◌, Contains, slice_get, Option, None, Some, Err, refl, sym, ap, ◌∙◌, subst, unwrap_or, arith}
use Rattle.std.proofs.lemmas.Bool.{and_parts, false≢true, or_cases}
use Rattle.std.proofs.lemmas.Bool.Decides.{nat_tests}
use Rattle.std.proofs.lemmas.Option.{none-some}
use Rattle.life_types.specs.Types.{Types, class}
use Rattle.life_types.specs.contracts.ty.TyIdPartialEq.TheImpl.{ghosts as id}
use Rattle.life_types.specs.declared.place.Place.{Place}
use Rattle.life_types.specs.declared.ty.Class.TheVariants as classes
use Rattle.life_types.specs.declared.ty.Ty.{Ty}
use Rattle.life_types.specs.declared.ty.Ty.TheVariants as ty
use Rattle.life_types.specs.declared.ty.TyId.{TyId}
use Rattle.life_elab_laws.proofs.FormKinds.{is_read_fresh}
use Rattle.life_elab_laws.proofs.ObjectTypes.{is_element, is_unique_of_element}
use Rattle.life_elab_laws.proofs.TypeKinds.{is_unique_type}
use Rattle.life_typed.specs.BaseTypes.{type_at}
use Rattle.life_typed.specs.Conversions.{fits}
use Rattle.life_typed.specs.TypedForm.{Form, Typed, call, local, make_unique, move, paren, typed, whole as whole_form}
use Rattle.life_typed.specs.declared.misfit.Misfit.TheVariants.{Copy, General}
use Rattle.life_typed.specs.declared.typed_expr.Category.{Category}
use Rattle.life_typed.specs.declared.typed_expr.Category.TheVariants as category
use Rattle.life_typed.specs.declared.typed_expr.ExprType.{ExprType}
use Rattle.life_typed.specs.declared.typed_expr.ExprType.TheVariants.{Of}
use Rattle.life_typed.specs.declared.typed_program.TypedLocal.{TypedLocal}
use Rattle.life_type_expr.specs.Lists.{fits_at_all}
use Rattle.life_type_stmt.specs.Returns.{is_moved_out, moves_out}
use Rattle.life_type_stmt.specs.Simples.{named_in}
use Rattle.life_core.specs.Function.{Function}
use Rattle.life_core.specs.Step.{Move}
use Rattle.life_core.specs.Tree.{Acts, Returns}
use Rattle.life_core.specs.declared.instr.Form.TheVariants.{Plain}
use Rattle.life_core.specs.declared.program.Local.{Local}
use Rattle.life_core.specs.declared.program.LocalKind.{LocalKind}
use Rattle.life_well_typed.specs.Expressions.{IsExpression, IsMadeOf}
use Rattle.life_well_typed.specs.Given.{is_given}
use Rattle.life_well_typed.specs.Statements.{IsReturned, named_local}
use Rattle.life_well_typed.specs.Visible.{Visible}
use Rattle.life_writer.specs.Around.{Around}
use Rattle.life_writer.specs.Assigning.{moved}
use Rattle.life_writer.specs.ExpressionForms.{form_uses, uses}
use Rattle.life_writer.specs.Giving as giving
use Rattle.life_writer.specs.Uses.{Remaining, Uses, lived}
use Rattle.life_writer.specs.Variables.{object_at, object_of_kind, variable}
use Rattle.life_writer.specs.Writing.{Gives, State, ◌>>◌, gives}
use Rattle.life_elab.specs.StatementForms.{given_back, result, result_by, result_given}
use Rattle.life_elab.specs.StatementForms as statements
use Rattle.life_elab.specs.Statements.{left}
use Rattle.life_elab_laws.proofs.Doing.{DoesLevel}
use Rattle.life_elab_laws.proofs.ExpressionForms.{IsWhole, Standing}
use Rattle.life_elab_laws.proofs.Following.{Follows, IsResultObject}
use Rattle.life_elab_laws.proofs.FreshUniques.{IsFresh, fresh_builds, given_null, null_builds}
use Rattle.life_elab_laws.proofs.Gifts.{a_place, both}
use Rattle.life_elab_laws.proofs.MadeForms.{Builds, lived_builds, new_apart, of_moved}
use Rattle.life_elab_laws.proofs.MoveSteps.{a_source, moves_part}
use Rattle.life_elab_laws.proofs.MovedOwners.{IsMovedFrom, source_part}
use Rattle.life_elab_laws.proofs.ReturnedOwners.{owner_given_back}
use Rattle.life_elab_laws.proofs.Setting.{Setting}
use Rattle.life_elab_laws.proofs.UniqueForms.{IsUnique}
use Rattle.life_elab_laws.proofs.VariablePlaces.{IsVariableAt, kind_is}

-- ---- what is moved by its name

module _ (a : Around) (visible : List ℕ) where
  -- an expression that names a variable has its name
  mutual
    named_uses : (form : Form) → IsExpression a.program a.function.locals visible form → (x : ℕ) → named_in form ≡ Some x → ((uses a form).named ≡ Some x) × Contains visible x
    named_uses (typed place t c form) h x at = named_form form (record { place = place; ty = t; category = c; form = form }) h x at place
    named_uses _ h x at = absurd h

    named_form : (form : Form) (e : Typed) → IsMadeOf a.program a.function.locals visible e form → (x : ℕ) → named_in form ≡ Some x → (place : Place) → ((form_uses a form place e.ty e.category).named ≡ Some x) × Contains visible x
    named_form (local y) e h x at place = (at, subst (Contains visible) (same at) h.0)
      where
        same : Some y ≡ Some x → y ≡ x
        same e = cc
    named_form (paren inner closing) e h x at place = named_uses inner h.1 x at
    named_form (typed at t c form) e h x same place = absurd h
    named_form _ e h x at place = absurd (none-some x at)

  -- .. and one that is made anew, moved or given has none
  pub fresh_nameless : (texts : ℕ) (form : Form) (e : Typed) → is_read_fresh texts a.program form ≡ true → IsMadeOf a.program a.function.locals visible e form → (place : Place) → (form_uses a form place e.ty e.category).named ≡ None
  fresh_nameless texts (make_unique target argument closing) e b h place = refl
  fresh_nameless texts (paren (typed at t c form) closing) e b h place =
      fresh_nameless texts form (record { place = at; ty = t; category = c; form = form }) (and_parts (is_unique_type t) (is_read_fresh texts a.program form) b).1 h.1 at
  fresh_nameless texts (paren _ closing) e b h place = absurd h.1
  fresh_nameless texts (move x) e b h place = refl
  fresh_nameless texts (call g given delimiters) e b h place = refl
  fresh_nameless texts (typed at t c form) e b h place = absurd h
  fresh_nameless texts _ e b h place = absurd (false≢true b)

module _ (a : Around) (visible : List ℕ) (types : Types) (texts : ℕ) (fs : List Function) (f : Function) (setting : Setting a types fs f) where
  moved_by_name : (x : ℕ) (e : Typed) → Contains visible x → (is : IsMovedFrom a visible types texts fs f setting x e) → (s : State) → Standing a visible types texts fs f setting s
      → Builds a visible types texts fs f setting is.ty s (gives (lived Plain (moved (variable s x))) s)
  moved_by_name x e c is s stands =
      let P = both types texts fs f (a_source types texts fs f is.ty) (a_place types texts fs f is.ty false) in
      let v : IsVariableAt a s x is.source = stands.seen x is.source c is.found in
      lived_builds a visible types texts fs f setting true is.ty s s (of_moved x is.ty) (variable s x) Plain (moved (variable s x)) (source_part a visible types texts fs f setting x e is c s stands) refl
      (λ place to s' there still new.
      moves_part types texts fs f P (variable s x, to) is.ty to (variable s x) place s' is.owner (λ h. (h.1, h.0)) (λ n k q. (q.1, q.0)) (new_apart a visible types texts fs f setting s s' to new (variable s x) v.lives))
      (λ plain. record {
        free = λ place to s' pending. refl;
        kept = λ place to s' living. refl;
        code = λ place to s'. Acts place (Move to (variable s x)) ∷ [];
        written = λ place to s'. refl;
        looks = λ place to s' still y m. m;
      })

-- ---- the type of the result

type_found : (o : Option Ty) (target : TyId) → unwrap_or o ty.Void ≡ ty.Unique target → o ≡ Some (ty.Unique target)
type_found None target e = absurd (clash e)
  where
    clash : ty.Void ≡ ty.Unique target → ⊥
    clash e = cc
type_found (Some t) target e = ap Some e

one_number : (n m : ℕ) → nat_eq n m ≡ true → n ≡ m
one_number n m h = grind (arith, nat_tests)

-- a place is given to none
no_place_given : (types : Types) (target owned : TyId) (id : TyId) (constant : Bool) → fits_at_all (fits types (ty.Unique target) (Of (ty.Unique owned)) (category.Place id constant)) ≡ true → ⊥
no_place_given types target owned place constant h = go (id.eq owned target) h
  where
    go : (b : Bool) → fits_at_all (if b then Err Copy else Err General) ≡ true → ⊥
    go true h = false≢true h
    go false h = false≢true h

module _ (a : Around) (types : Types) (texts : ℕ) (fs : List Function) (f : Function) (setting : Setting a types fs f) (v : Visible) (in_loop : Bool) (s : State) (h : Follows types f a v s) (object : IsResultObject a s)
    (target : TyId) (unique : type_at a.program.types a.function.result ≡ ty.Unique target) (worth : is_element a.program.types (type_at a.program.types target) ≡ true)
    (e : Typed) (keyword token : Place) (r : IsReturned a.program a.function.locals a.function.result v.visible (Some e)) where
  abbrev t : Ty
  t = type_at a.program.types a.function.result

  abbrev u : Uses
  u = uses a (whole_form e)

  abbrev Back : Type 0
  Back = DoesLevel types texts fs f a v in_loop s (left 0 keyword (Returns keyword) (result_given a (Some e) keyword token s))

  abbrev BuildsThat : Gives Remaining → Type 0
  BuildsThat w = Builds a v.visible types texts fs f setting (ty.Unique target) s w

  abbrev by_name : Option ℕ → State
  by_name o = (statements.moved_out classes.Owner o (giving.given u (ty.Unique target) token) s >> λ rest s. rest (result a keyword) s).state

  by_unique : given_back a e keyword token s ≡ by_name (statements.object_named u.named s)
  by_unique = ap (λ (q : Ty). result_by a (class (Some q)) u q keyword token s) unique

  built_back : (w : Gives Remaining) → BuildsThat w → (w.given (result a keyword) w.state).state ≡ by_name (statements.object_named u.named s) → Back
  built_back w is same =
      owner_given_back a types texts fs f setting v in_loop s h object (inr (inl (subst (λ (q : Ty). is_unique_of_element a.program.types q ≡ true) (sym unique) worth))) r.0 keyword token w
      (subst (λ (q : Ty). Builds a v.visible types texts fs f setting q s w) (sym unique) is) (given_back a e keyword token s) (by_unique ∙ sym same)

  -- where nothing is named
  plain_back : BuildsThat (giving.given u (ty.Unique target) token s) → u.named ≡ None → Back
  plain_back is none = built_back (giving.given u (ty.Unique target) token s) is (ap by_name (sym (ap (λ (o : Option ℕ). statements.object_named o s) none)))

  -- ---- a variable that is named alone

  named_back : (x : ℕ) (l : TypedLocal) → named_in e.form ≡ Some x → slice_get a.function.locals x ≡ Some l → nat_eq l.ty.0 a.function.result.0 ≡ true → Back
  named_back x l at found same =
      built_back (gives (lived Plain (moved (variable s x))) s)
      (moved_by_name a v.visible types texts fs f setting x (record { place = e.place; ty = Of (ty.Unique target); category = category.Value; form = move x }) name.1 from s h.stands)
      (ap by_name (sym here ∙ sym (ap (λ (o : Option ℕ). statements.object_named o s) name.0)))
    where
      name : (u.named ≡ Some x) × Contains v.visible x
      name = named_uses a v.visible (whole_form e) r.2 x at

      of_type : slice_get a.program.types.types l.ty.0 ≡ Some (ty.Unique target)
      of_type = ap (slice_get a.program.types.types) (one_number l.ty.0 a.function.result.0 same) ∙ type_found (slice_get a.program.types.types a.function.result.0) target unique

      from : IsMovedFrom a v.visible types texts fs f setting x (record { place = e.place; ty = Of (ty.Unique target); category = category.Value; form = move x })
      from = record { source = l; found = found; ty = ty.Unique target; at = of_type; owner = refl; held = λ n. absurd (false≢true n); is = refl; value = refl }

      it : IsVariableAt a s x l
      it = h.stands.seen x l name.1 found

      here : statements.object_named (Some x) s ≡ Some (variable s x)
      here = ap (λ (q : Option Local). object_at q (variable s x)) it.there ∙ ap (λ (k : LocalKind). object_of_kind k (variable s x)) (kind_is a s x l it (ty.Unique target) of_type)

  moved_back : is_moved_out a.function.result (named_local a.function.locals (named_in e.form)) ≡ true → Back
  moved_back m = go (named_in e.form) refl m
    where
      found : (x : ℕ) → named_in e.form ≡ Some x → (o : Option TypedLocal) → slice_get a.function.locals x ≡ o → is_moved_out a.function.result o ≡ true → Back
      found x at None is m = absurd (false≢true m)
      found x at (Some l) is m = named_back x l at is (and_parts (nat_eq l.ty.0 a.function.result.0) (not l.constant) m).0

      go : (o : Option ℕ) → named_in e.form ≡ o → is_moved_out a.function.result (named_local a.function.locals o) ≡ true → Back
      go None at m = absurd (false≢true m)
      go (Some x) at m = found x at (slice_get a.function.locals x) refl m

  -- ---- what is given it

  abbrev IsGiven : Type 0
  IsGiven = is_given a.program.types (ty.Unique target) e ≡ true

  pub unique_back : (IsGiven → Back) → Back
  unique_back given =
      elim (or_cases (moves_out (ty.Unique target) a.function.result (named_local a.function.locals (named_in e.form))) (is_given a.program.types (ty.Unique target) e)
      (subst (λ (q : Ty). (moves_out q a.function.result (named_local a.function.locals (named_in e.form)) || is_given a.program.types q e) ≡ true) unique r.1)) [ inl moves ↦ moved_back moves | inr gives ↦ given gives ]

  pub fresh_back : IsFresh a v.visible types texts fs f setting (whole_form e) → u.named ≡ None → IsGiven → Back
  fresh_back from none given = plain_back (fresh_builds a v.visible types texts fs f setting (whole_form e) from target worth given token s h.stands) none

  pub null_back : IsWhole a v.visible types texts fs f setting (whole_form e) → IsGiven → Back
  null_back is given =
      plain_back (null_builds a v.visible types texts fs f setting (whole_form e) is target given token s h.stands) (is.as_null (given_null a v.visible types texts fs f setting e is.kind.kind target given).0).1.1

  pub no_named_given : IsUnique a v.visible types texts fs f setting (whole_form e) → IsGiven → ⊥
  no_named_given is given =
      no_place_given a.program.types target is.target is.id is.constant
      (subst (λ (c : Category). fits_at_all (fits a.program.types (ty.Unique target) (Of (ty.Unique is.target)) c) ≡ true) is.place
      (subst (λ (x : ExprType). fits_at_all (fits a.program.types (ty.Unique target) x e.category) ≡ true) is.is given))
