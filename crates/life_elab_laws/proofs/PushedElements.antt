-- What a vector is given: a number is pushed as it is, and an owner or a struct is built and given over.
use Rattle.std.proofs.Common.{◌≡◌, ◌⊎◌, inl, inr, ℕ, Bool, true, false, cond, List, [], ◌∷◌, None, Some, refl, sym, ap, ◌∙◌, subst}
use Rattle.std.proofs.lemmas.Bool.{false≢true}
use Rattle.life_elab_laws.proofs.ObjectTypes.{is_element, is_owner_of_values}
use Rattle.life_types.specs.Pointees.{ty_of}
use Rattle.life_types.specs.TypeTests.{is_value}
use Rattle.life_types.specs.Types.{Types}
use Rattle.life_types.specs.declared.place.Place.{Place}
use Rattle.life_types.specs.declared.ty.Ty.{Ty}
use Rattle.life_types.specs.declared.ty.Ty.TheVariants as ty
use Rattle.life_types.specs.declared.ty.TyId.{TyId}
use Rattle.life_typed.specs.BaseTypes.{type_at}
use Rattle.life_typed.specs.TypedForm.{Form, nothing, ◌⨟◌}
use Rattle.life_typed.specs.Conversions.{fits}
use Rattle.life_typed.specs.declared.typed_expr.Category.{Category}
use Rattle.life_typed.specs.declared.typed_expr.ExprType.{ExprType}
use Rattle.life_typed.specs.declared.typed_expr.ExprType.TheVariants.{NullPointer, Of, TextLiteral}
use Rattle.life_type_expr.specs.Lists.{fits_at_all, is_taken}
use Rattle.life_core.specs.Function.{Function}
use Rattle.life_core.specs.Operands.{Operand}
use Rattle.life_core.specs.Step.{Change, Changes, PushBack}
use Rattle.life_proper.specs.Placed.{is_given, is_number_of}
use Rattle.life_proper.specs.WellFormed.{is_change_of}
use Rattle.life_proper.specs.declared.known.Known.{Known}
use Rattle.life_well_typed.specs.Expressions.{typed_in}
use Rattle.life_well_typed.specs.Given.{is_given as is_given_as, is_number}
use Rattle.life_writer.specs.Around.{Around}
use Rattle.life_writer.specs.ExpressionForms.{uses}
use Rattle.life_writer.specs.Giving as giving
use Rattle.life_writer.specs.Giving.{given_over}
use Rattle.life_writer.specs.Temporaries.{consumed}
use Rattle.life_writer.specs.Uses.{Uses}
use Rattle.life_writer.specs.Using.{value}
use Rattle.life_writer.specs.Writing.{Gives, State, ◌>>◌, emit, gives}
use Rattle.life_elab_laws.proofs.AliasForms.{no_owner_given, owning_builds, value_builds}
use Rattle.life_elab_laws.proofs.ChangeSteps.{Takes, changes_part, push_takes}
use Rattle.life_elab_laws.proofs.Elements.{IsElement, element_is, element_there, has_owner, has_struct, has_value, inner_owner}
use Rattle.life_elab_laws.proofs.ExpressionForms.{IsWhole, Standing}
use Rattle.life_elab_laws.proofs.FormedVariables.{owner_no_value}
use Rattle.life_elab_laws.proofs.Gifts.{Gift, IsPlaceOf, a_given, a_number, both, nothing as no_gift}
use Rattle.life_elab_laws.proofs.GivenKinds.{taken_number}
use Rattle.life_elab_laws.proofs.GivenOwners.{given_handing}
use Rattle.life_elab_laws.proofs.Handing.{HandingAlone}
use Rattle.life_elab_laws.proofs.MadeForms.{Builds, IsOwning, owning_owner}
use Rattle.life_elab_laws.proofs.MadeStructs.{IsAnyStruct, as_struct, struct_typed, unseen_over}
use Rattle.life_elab_laws.proofs.Making.{IsOpen, IsPlace}
use Rattle.life_elab_laws.proofs.Parts.{Makes, Part, gives_part, keep_part, then_part, under_part}
use Rattle.life_elab_laws.proofs.PushedOwners.{pushed_part}
use Rattle.life_elab_laws.proofs.AdmittedTypes.{IsTabled, struct_tabled}
use Rattle.life_elab_laws.proofs.Setting.{Setting}
use Rattle.life_elab_laws.proofs.TakenOwners.{owner_plain}
use Rattle.life_elab_laws.proofs.TypedKinds.{HasKind, a_null, a_number as is_number_kind, a_pointer as is_pointer_kind, a_text, a_view, no_value}
use Rattle.life_elab_laws.proofs.Values.{by_owners, by_values}

-- a struct is given a struct
struct_fits : (types : Types) (number : ℕ) (u : Ty) (c : Category) → ((found : ℕ) → u ≡ ty.Struct found → ⊥) → fits_at_all (fits types (ty.Struct number) (Of u) c) ≡ true → ⊥
struct_fits types number (ty.Struct found) c none h = none found refl
struct_fits types number _ c none h = false≢true h

module _ (a : Around) (visible : List ℕ) (types : Types) (texts : ℕ) (fs : List Function) (f : Function) (setting : Setting a types fs f) where
  -- ---- what is given

  -- it has a value, or is an owner
  abbrev pub IsGiving : Form → Type 0
  IsGiving form = IsWhole a visible types texts fs f setting form ⊎ IsOwning a visible types texts fs f setting form

  -- .. or is a struct
  abbrev pub IsPushing : Form → Type 0
  IsPushing form = IsGiving form ⊎ IsAnyStruct a visible types texts fs f setting form

  abbrev pub AreGiving : Form → Type 0
  AreGiving (e ⨟ es) = IsPushing e × AreGiving es
  AreGiving nothing = Unit {0}
  AreGiving _ = ⊥

  -- a number is no owner
  pub giving_number : (form : Form) → IsGiving form → is_number (typed_in form).ty ≡ true → IsWhole a visible types texts fs f setting form
  giving_number form (inl whole) n = whole
  giving_number form (inr owner) n =
      let o = owning_owner a visible types texts fs f setting form owner in
      absurd (owner_no_value a.program.types o.ty o.owner (subst (λ (x : ExprType). is_number x ≡ true) o.is n))

  -- what is no struct isn't given to one
  pub giving_no_struct : (form : Form) → IsGiving form → (number : ℕ) → is_taken a.program.types (Some (ty.Struct number)) (typed_in form) ≡ true → ⊥
  giving_no_struct form is number taken = go is
    where
      c : Category
      c = (typed_in form).category

      fits_as : (x : ExprType) → (typed_in form).ty ≡ x → fits_at_all (fits a.program.types (ty.Struct number) x c) ≡ true
      fits_as x at = subst (λ (x : ExprType). fits_at_all (fits a.program.types (ty.Struct number) x c) ≡ true) at taken

      by_kind : HasKind a.program.types (typed_in form) → ⊥
      by_kind (is_number_kind t at v) = struct_fits a.program.types number t c (λ found same. false≢true (sym (ap is_value same) ∙ v)) (fits_as (Of t) at)
      by_kind (is_pointer_kind target constant at w) = false≢true (fits_as (Of (ty.Raw target constant)) at)
      by_kind (a_view at) = false≢true (fits_as (Of ty.View) at)
      by_kind (a_text at v) = false≢true (fits_as TextLiteral at)
      by_kind (no_value at v) = false≢true (fits_as (Of ty.Void) at)
      by_kind (a_null at v) = false≢true (fits_as NullPointer at)

      go : IsGiving form → ⊥
      go (inl whole) = by_kind whole.kind.kind
      go (inr owner) =
          let o = owning_owner a visible types texts fs f setting form owner in
          struct_fits a.program.types number o.ty c (λ found same. false≢true (ap (is_owner_of_values a.program.types) (sym same) ∙ o.owner)) (fits_as (Of o.ty) o.is)

  -- a struct isn't one either, nor is it given to an owner
  pub pushing_number : (form : Form) → IsPushing form → is_number (typed_in form).ty ≡ true → IsWhole a visible types texts fs f setting form
  pushing_number form (inl giving) n = giving_number form giving n
  pushing_number form (inr structure) n = absurd (false≢true (sym (ap is_number (struct_typed a visible types texts fs f setting form structure).1) ∙ n))

  pub pushing_owner : (form : Form) → IsPushing form → (t : Ty) → is_owner_of_values a.program.types t ≡ true → is_taken a.program.types (Some t) (typed_in form) ≡ true → IsGiving form
  pushing_owner form (inl giving) t o taken = giving
  pushing_owner form (inr structure) t o taken =
      let its = struct_typed a visible types texts fs f setting form structure in
      absurd (no_owner_given a.program.types t o (ty.Struct its.0) refl (typed_in form).category (subst (λ (x : ExprType). fits_at_all (fits a.program.types t x (typed_in form).category) ≡ true) its.1 taken))

  -- a struct is built, and given over
  pub struct_over : (e : Form) → IsPushing e → (number : ℕ) → IsTabled a.program.types (ty.Struct number) → is_taken a.program.types (Some (ty.Struct number)) (typed_in e) ≡ true → (behind : Place) (s : State) → Standing a visible types texts fs f setting s
      → (let v = given_over (uses a e) (ty.Struct number) behind s in HandingAlone types texts fs f (v.given ∷ []) s v (a_given types texts fs f (ty.Struct number)))
  struct_over e (inl giving) number tabled taken behind s stands = absurd (giving_no_struct e giving number taken)
  struct_over e (inr from) number tabled taken behind s stands =
      unseen_over a visible types texts fs f setting number (λ (s : State). giving.given (uses a e) (ty.Struct number) behind s) ((as_struct a visible types texts fs f setting e number from taken).unseen behind) tabled (uses a e).place s stands

  -- an owner is built, and given over
  over_owner : (t : Ty) → is_owner_of_values a.program.types t ≡ true → (u : Uses) (behind : Place) (s : State) → given_over u t behind s ≡ (giving.given u t behind s >> λ rest r. rest (consumed u.place t) r)
  over_owner = by_owners a.program.types _ (λ u behind s. refl) (λ item u behind s. refl)

  pub owner_over : (e : Form) → IsGiving e → (t : Ty) → is_owner_of_values a.program.types t ≡ true → is_given_as a.program.types t (typed_in e) ≡ true → (behind : Place) (s : State) → Standing a visible types texts fs f setting s
      → (let v = given_over (uses a e) t behind s in HandingAlone types texts fs f (v.given ∷ []) s v (a_given types texts fs f t))
  owner_over e is t o given behind s stands =
      subst (λ (v : Gives ℕ). HandingAlone types texts fs f (v.given ∷ []) s v (a_given types texts fs f t)) (sym (over_owner t o (uses a e) behind s))
      (given_handing a visible types texts fs f setting t (uses a e).place s (giving.given (uses a e) t behind s) (inl o) (built is) stands)
    where
      built : IsGiving e → Builds a visible types texts fs f setting t s (giving.given (uses a e) t behind s)
      built (inl whole) = value_builds a visible types texts fs f setting e whole t o given behind s stands
      built (inr owner) = owning_builds a visible types texts fs f setting e owner t o given behind s stands

  -- ---- behind what gave the vector

  module _ {A : Type 0} (P : Gift types texts fs f A) (x : A) (to : Operand) (ready : (n : ℕ) (k : List Known) → P.ready x n k → IsPlace to n k) where
    abbrev G : Gift types texts fs f (Unit {0})
    G = no_gift types texts fs f

    -- a change that takes a number
    pub taking_part : (vector : Ty) → (P.typed x → IsPlaceOf types texts fs f vector false to) → (place : Place) (t : Ty) (number : State → Gives ℕ) (change : ℕ → Change) (s : State) → IsOpen s
        → Makes types texts fs f None s (number s) (a_number types texts fs f t)
        → ((r : ℕ) → is_number_of types f t r ≡ true → (is_change_of types texts fs f vector (change r) ≡ true) × Takes types f (change r) (r ∷ []))
        → Part types texts fs f P x None s (gives tt (number s >> λ y r. emit place (Changes to (change y)) r)) G
    taking_part vector typed place t number change s opened made formed =
        let w = number s in
        let Q = a_number types texts fs f t in
        let D = both types texts fs f P Q in
        then_part types texts fs f P x None s (gives (x, w.given) w.state) _ D G opened
        (keep_part types texts fs f P x s (gives x s) w P Q opened (gives_part types texts fs f P x None x s P (λ b h. h) (λ b k alive h. h)) (under_part types texts fs f G tt P x None s w Q made (λ h. tt) (λ n k h. tt)))
        (changes_part types texts fs f D (x, w.given) vector to (change w.given) (w.given ∷ []) place w.state (λ p. let c = formed w.given p.1 in (typed p.0, c.0, c.1)) (λ m k q. (ready m k q.0, (q.1, tt))))

    -- an element
    module _ (item : TyId) (typed : P.typed x → IsPlaceOf types texts fs f (ty.Vector item) false to) (worth : is_element a.program.types (type_at a.program.types item) ≡ true) (e : Form) (behind at : Place) (s : State) (is : IsPushing e)
        (taken : is_taken a.program.types (Some (type_at a.program.types item)) (typed_in e) ≡ true) (stands : Standing a visible types texts fs f setting s) where
      abbrev t : Ty
      t = type_at a.program.types item

      abbrev Pushes : Gives ℕ → Type 0
      Pushes g = Part types texts fs f P x None s (gives tt (g >> λ y r. emit at (Changes to (PushBack y)) r)) G

      holds : ty_of types item ≡ t
      holds = element_there a.program.types types setting.front item worth

      -- a number
      over_value : (t : Ty) → is_value t ≡ true → given_over (uses a e) t behind s ≡ value (uses a e) behind t None s
      over_value = by_values (λ t. given_over (uses a e) t behind s ≡ value (uses a e) behind t None s) refl refl refl refl refl

      pushes : is_value t ≡ true → (r : ℕ) → is_number_of types f t r ≡ true → is_change_of types texts fs f (ty.Vector item) (PushBack r) ≡ true
      pushes v r number =
          ap (λ (b : Bool). cond b (is_number_of types f (ty_of types item) r) (is_given types f (ty_of types item) r)) (ap is_value holds ∙ v) ∙ ap (λ (w : Ty). is_number_of types f w r) holds ∙ number

      pub given_pushed : Pushes (given_over (uses a e) t behind s)
      given_pushed = go (element_is a.program.types t worth)
        where
          go : IsElement a.program.types t → Pushes (given_over (uses a e) t behind s)
          go (has_value v) =
              let number = taken_number a.program.types t (typed_in e) v taken in
              subst Pushes (sym (over_value t v))
              (taking_part (ty.Vector item) typed at t (λ r. value (uses a e) behind t None r) PushBack s stands.opened ((pushing_number e is number).valued number behind t v None s tt stands)
              (λ r n. (pushes v r n, push_takes types f t r n)))
          go (has_struct number structure pointless) =
              let over = struct_over e is number (struct_tabled a.program.types item number structure) (subst (λ (u : Ty). is_taken a.program.types (Some u) (typed_in e) ≡ true) structure taken) behind s stands in
              pushed_part types texts fs f t (ap is_value structure) s (given_over (uses a e) t behind s)
              (subst (λ (u : Ty). (let v = given_over (uses a e) u behind s in HandingAlone types texts fs f (v.given ∷ []) s v (a_given types texts fs f u))) (sym structure) over) P x to item at typed ready holds
          go (has_owner inner) =
              let o = inner_owner a.program.types t inner in
              pushed_part types texts fs f t (owner_plain a.program.types t o) s (given_over (uses a e) t behind s) (owner_over e (pushing_owner e is t o taken) t o taken behind s stands) P x to item at typed ready holds
