-- Structs that are made, and structs of either kind: what each builds where one has come to life, and where each is found, which is its place or a temporary.
use Rattle.std.proofs.Common.{◌≡◌, ◌<◌, inr, ℕ, true, false, Bool, List, refl, sym, ◌∙◌, subst, [], ◌∷◌, length}
use Rattle.life_types.specs.Types.{Types}
use Rattle.life_types.specs.declared.place.Place.{Place}
use Rattle.life_types.specs.declared.ty.Ty.{Ty}
use Rattle.life_types.specs.declared.ty.Ty.TheVariants as ty
use Rattle.life_typed.specs.TypedForm.{Form, Typed}
use Rattle.life_typed.specs.declared.typed_expr.Category.{Category}
use Rattle.life_typed.specs.declared.typed_expr.Category.TheVariants as category
use Rattle.life_typed.specs.declared.typed_expr.ExprType.{ExprType}
use Rattle.life_typed.specs.declared.typed_expr.ExprType.TheVariants.{Of}
use Rattle.life_core.specs.Function.{Function}
use Rattle.life_core.specs.Operands.{Operand, object_named}
use Rattle.life_core.specs.declared.instr.Form.{Form as LiveForm}
use Rattle.life_core.specs.declared.instr.Form.TheVariants.{Plain}
use Rattle.life_well_typed.specs.Expressions.{IsAddress, typed_in}
use Rattle.life_well_typed.specs.Given.{is_given}
use Rattle.life_well_typed.specs.Members.{IsMember}
use Rattle.life_writer.specs.Around.{Around}
use Rattle.life_writer.specs.Assigning.{struct_by}
use Rattle.life_writer.specs.ExpressionForms.{uses}
use Rattle.life_writer.specs.Giving as giving
use Rattle.life_writer.specs.Giving.{copied, object_by}
use Rattle.life_writer.specs.Uses.{Act, Remaining, Uses, lived}
use Rattle.life_writer.specs.Using.{temporary_of}
use Rattle.life_writer.specs.Writing.{Gives, State, gives, mapped}
use Rattle.life_elab_laws.proofs.ExpressionForms.{Placed, Standing}
use Rattle.life_elab_laws.proofs.FormedFits.{given_struct}
use Rattle.life_elab_laws.proofs.Gifts.{a_place, both, a_given}
use Rattle.life_elab_laws.proofs.MadeForms.{BuildsIn, less_plain, lived_builds, of_copy, temporary_made}
use Rattle.life_elab_laws.proofs.PlainActs.{copied_plain}
use Rattle.life_elab_laws.proofs.PointerForms.{held_typed}
use Rattle.life_elab_laws.proofs.AdmittedTypes.{IsTabled}
use Rattle.life_elab_laws.proofs.Setting.{Setting}
use Rattle.life_elab_laws.proofs.StructForms.{IsStruct, IsStructAt, struct_same}
use Rattle.life_elab_laws.proofs.StructSteps.{struct_copies_part}
use Rattle.std.proofs.lemmas.Bool.{false≢true}
use Rattle.life_types.specs.declared.ty.TyId.{TyId}
use Rattle.life_type_stmt.specs.Simples.{is_place}
use Rattle.life_elab_laws.proofs.TypedKinds.{value_place}
use Rattle.life_elab_laws.proofs.GivenOwners.{given_handing}
use Rattle.life_elab_laws.proofs.Handing.{HandingAlone}
use Rattle.life_writer.specs.Temporaries.{consumed}
use Rattle.life_elab_laws.proofs.ConsumedObjects.{begun, begun_grows, consumed_over, one_more}
use Rattle.life_elab_laws.proofs.CopiedStructs.{given_copied, is_copied_struct}
use Rattle.life_elab_laws.proofs.FilledObjects.{FillsObject}
use Rattle.life_elab_laws.proofs.VariablePlaces.{stands_later}

-- ---- where a struct is found

-- at its place, or as a temporary
abbrev pub struct_at : Category → Uses → Ty → State → Gives Operand
struct_at (category.Place id constant) e t s = e.at s
struct_at category.Value e t s = mapped object_named (temporary_of e t s)

-- it is copied from there
pub struct_by_at : (c : Category) (e : Uses) (t : Ty) (s : State) → struct_by c e t s ≡ mapped copied (struct_at c e t s)
struct_by_at (category.Place id constant) e t s = refl
struct_by_at category.Value e t s = refl

module _ (a : Around) (visible : List ℕ) (types : Types) (texts : ℕ) (fs : List Function) (f : Function) (setting : Setting a types fs f) where
  abbrev Stood : State → Type 0
  Stood s = Standing a visible types texts fs f setting s

  abbrev PlacedAs : Ty → Bool → State → Gives Operand → Type 0
  PlacedAs t constant s w = Placed a visible types texts fs f setting t constant s w

  abbrev BuildsAs : Ty → State → Gives Remaining → Type 0
  BuildsAs t s w = BuildsIn a visible types texts fs f setting false t s w

  -- it is given over
  abbrev IsOver : Ty → State → Gives ℕ → Type 0
  IsOver t s v = HandingAlone types texts fs f (v.given ∷ []) s v (a_given types texts fs f t)

  -- ---- how one is built where nothing else sees it

  -- member by member, or at once, by what makes no temporaries
  pub data IsBuiltUnseen (number : ℕ) (object : State → Gives Remaining) : Type 0 where
    by_members : (form : LiveForm) (act : Act) → ((s : State) → object s ≡ gives (lived form act) s)
        → ((place : Place) (x : ℕ) (s : State) → Stood s → x < length s.locals → FillsObject types texts fs f x (ty.Struct number) s (act place (object_named x) s)) → IsBuiltUnseen number object
    at_once : ((s : State) → Stood s → BuildsIn a visible types texts fs f setting true (ty.Struct number) s (object s)) → IsBuiltUnseen number object

  -- so it may be given over
  pub unseen_over : (number : ℕ) (object : State → Gives Remaining) → IsBuiltUnseen number object → IsTabled a.program.types (ty.Struct number) → (place : Place) (s : State) → Stood s
      → IsOver (ty.Struct number) s ((object s).given (consumed place (ty.Struct number)) (object s).state)
  unseen_over number object (at_once builds) tabled place s stands = given_handing a visible types texts fs f setting (ty.Struct number) place s (object s) (inr (inr tabled)) (builds s stands) stands
  unseen_over number object (by_members form act same fills) tabled place s stands =
      let t = ty.Struct number in
      subst (λ (w : Gives Remaining). IsOver t s (w.given (consumed place t) w.state)) (sym (same s))
      (consumed_over a visible types texts fs f setting t (inr (inr tabled)) place s stands form act
      (fills place (length s.locals) (begun a visible types texts fs f setting t (inr (inr tabled)) place s stands form act)
      (stands_later a visible s (begun a visible types texts fs f setting t (inr (inr tabled)) place s stands form act) (begun_grows a visible types texts fs f setting t (inr (inr tabled)) place s stands form act) stands)
      (one_more a visible types texts fs f setting t (inr (inr tabled)) place s stands form act)))

  -- ---- one that is made

  pub record IsMadeStructAt (e : Typed) (object : State → Gives Remaining) : Type 0 where
    pub number : ℕ
    pub is : e.ty ≡ Of (ty.Struct number)
    pub value : e.category ≡ category.Value
    -- the table has its type
    pub tabled : IsTabled a.program.types (ty.Struct number)
    pub builds : (s : State) → Stood s → BuildsAs (ty.Struct number) s (object s)
    pub unseen : IsBuiltUnseen number object

  -- ---- one of either kind

  pub data IsAnyStructAt (e : Typed) (at : State → Gives Operand) (object : State → Gives Remaining) : Type 0 where
    struct_there : IsStructAt a visible types texts fs f setting e at → IsAnyStructAt e at object
    struct_made : IsMadeStructAt e object → IsAnyStructAt e at object

  abbrev pub IsAnyStruct : Form → Type 0
  IsAnyStruct form = IsAnyStructAt (typed_in form) ((uses a form).at) ((uses a form).object)

  -- the same with another type and category that are equal
  pub any_same : (e e' : Typed) (at : State → Gives Operand) (object : State → Gives Remaining) → e.ty ≡ e'.ty → e.category ≡ e'.category → IsAnyStructAt e at object → IsAnyStructAt e' at object
  any_same e e' at object t c (struct_there is) = struct_there (struct_same a visible types texts fs f setting e e' at t c is)
  any_same e e' at object t c (struct_made is) = struct_made (record { number = is.number; is = sym t ∙ is.is; value = sym c ∙ is.value; tabled = is.tabled; builds = is.builds; unseen = is.unseen })

  pub struct_typed : (form : Form) → IsAnyStruct form → (number : ℕ) × ((typed_in form).ty ≡ Of (ty.Struct number))
  struct_typed form (struct_there is) = (is.number, is.is)
  struct_typed form (struct_made is) = (is.number, is.is)

  -- what has members stands at a place
  pub with_members : (base : Form) (which : ℕ) (e : Typed) → IsAnyStruct base → IsMember a.program.types (typed_in base).ty (typed_in base).category which e → IsStruct a visible types texts fs f setting base
  with_members base which e (struct_there is) h = is
  with_members base which e (struct_made is) h =
      absurd (subst (λ (k : Category). IsMember a.program.types (Of (ty.Struct is.number)) k which e) is.value (subst (λ (x : ExprType). IsMember a.program.types x (typed_in base).category which e) is.is h))

  -- .. and so does what has an address
  pub with_address : (inner : Form) (e : Typed) → IsAnyStruct inner → IsAddress a.program.types (typed_in inner).category e → IsStruct a visible types texts fs f setting inner
  with_address inner e (struct_there is) h = is
  with_address inner e (struct_made is) h = absurd (subst (λ (k : Category). IsAddress a.program.types k e) is.value h)

  -- .. what is assigned to, and what has a place as its category
  pub with_target : (form : Form) → IsAnyStruct form → is_place (typed_in form).ty (typed_in form).category ≡ true → IsStruct a visible types texts fs f setting form
  with_target form (struct_there is) h = is
  with_target form (struct_made is) h =
      absurd (false≢true (subst (λ (k : Category). is_place (Of (ty.Struct is.number)) k ≡ true) is.value (subst (λ (x : ExprType). is_place x (typed_in form).category ≡ true) is.is h)))

  pub with_place : (form : Form) → IsAnyStruct form → (target : TyId) (constant : Bool) → (typed_in form).category ≡ category.Place target constant → IsStruct a visible types texts fs f setting form
  with_place form (struct_there is) target constant there = is
  with_place form (struct_made is) target constant there = absurd (value_place (sym is.value ∙ there))

  -- .. and what is a value is made
  pub with_value : (form : Form) → IsAnyStruct form → (number : ℕ) → (typed_in form).ty ≡ Of (ty.Struct number) → (typed_in form).category ≡ category.Value → (s : State) → Stood s → BuildsAs (ty.Struct number) s ((uses a form).object s)
  with_value form (struct_there is) number typed held s stands = absurd (value_place (sym held ∙ is.place))
  with_value form (struct_made is) number typed held s stands = subst (λ (n : ℕ). BuildsAs (ty.Struct n) s ((uses a form).object s)) (same_number (sym is.is ∙ typed)) (is.builds s stands)
    where
      same_number : {m n : ℕ} → ◌≡◌ {A = ExprType} (Of (ty.Struct m)) (Of (ty.Struct n)) → m ≡ n
      same_number e = cc

  -- ---- a copy of one at a place

  pub struct_copied_builds : (number : ℕ) → is_copied_struct a.program.types number ≡ true → (constant : Bool) (s : State) (w : Gives Operand) → PlacedAs (ty.Struct number) constant s w → BuildsIn a visible types texts fs f setting true (ty.Struct number) s (mapped (λ from. lived Plain (copied from)) w)
  struct_copied_builds number copies constant s w placed =
      let t = ty.Struct number in
      lived_builds a visible types texts fs f setting true t s w.state (of_copy t constant) w.given Plain (copied w.given) placed refl
      (λ place to s' there still new.
      struct_copies_part types texts fs f setting.structs (both types texts fs f (a_place types texts fs f t constant) (a_place types texts fs f t false)) (w.given, to) number (setting.copies number copies) constant to w.given place s'
      (λ h. (h.1, h.0)) (λ n k h. (h.1, h.0)))
      (λ e. copied_plain _ w.given)

  -- ---- as one with this number

  pub record IsStructOf (number : ℕ) (form : Form) : Type 0 where
    -- what it gives a struct
    pub builds : (behind : Place) (s : State) → Stood s → BuildsAs (ty.Struct number) s (giving.given (uses a form) (ty.Struct number) behind s)
    -- where it is found
    pub constant : Bool
    pub found : IsTabled a.program.types (ty.Struct number) → (s : State) → Stood s → PlacedAs (ty.Struct number) constant s (struct_at (uses a form).category (uses a form) (ty.Struct number) s)
    -- .. and where nothing else sees what it is given to
    pub unseen : (behind : Place) → IsBuiltUnseen number (λ (s : State). giving.given (uses a form) (ty.Struct number) behind s)

  module _ (form : Form) (number : ℕ) where
    abbrev u : Uses
    u = uses a form

    abbrev t : Ty
    t = ty.Struct number

    there_of : (is : IsStruct a visible types texts fs f setting form) → is.number ≡ number → is_copied_struct a.program.types number ≡ true → IsStructOf number form
    there_of is one copies = record {
      builds = λ behind s stands.
          subst (λ (c : Category). BuildsAs t s (object_by c u.at u.object s)) here
          (less_plain a visible types texts fs f setting t s (mapped (λ from. lived Plain (copied from)) (u.at s)) (struct_copied_builds number copies is.constant s (u.at s) (names s stands)));
      constant = is.constant;
      found = λ tabled s stands. subst (λ (c : Category). PlacedAs t is.constant s (struct_at c u t s)) here (names s stands);
      unseen = λ behind.
          subst (λ (c : Category). IsBuiltUnseen number (λ (s : State). object_by c u.at u.object s)) here (at_once (λ s stands. struct_copied_builds number copies is.constant s (u.at s) (names s stands)));
    }
      where
        here : category.Place is.id is.constant ≡ u.category
        here = sym is.place ∙ held_typed a visible types texts fs f setting form

        names : (s : State) → Stood s → PlacedAs t is.constant s (u.at s)
        names s stands = subst (λ (n : ℕ). PlacedAs (ty.Struct n) is.constant s (u.at s)) one (is.names s stands)

    made_of : (is : IsMadeStructAt (typed_in form) u.object) → is.number ≡ number → IsStructOf number form
    made_of is one = record {
      builds = λ behind s stands. subst (λ (c : Category). BuildsAs t s (object_by c u.at u.object s)) here (makes s stands);
      constant = false;
      found = λ tabled s stands.
          subst (λ (c : Category). PlacedAs t false s (struct_at c u t s)) here (temporary_made a visible types texts fs f setting t u.place s (u.object s) (inr (inr tabled)) (makes s stands) stands);
      unseen = λ behind. subst (λ (c : Category). IsBuiltUnseen number (λ (s : State). object_by c u.at u.object s)) here (subst (λ (n : ℕ). IsBuiltUnseen n u.object) one is.unseen);
    }
      where
        here : category.Value ≡ u.category
        here = sym is.value ∙ held_typed a visible types texts fs f setting form

        makes : (s : State) → Stood s → BuildsAs t s (u.object s)
        makes s stands = subst (λ (n : ℕ). BuildsAs (ty.Struct n) s (u.object s)) one (is.builds s stands)

    -- it is given to a struct with the same one
    pub as_struct : IsAnyStruct form → is_given a.program.types t (typed_in form) ≡ true → IsStructOf number form
    as_struct (struct_there is) given =
        let one = given_struct a.program.types number is.number (typed_in form) is.is given in
        there_of is one (subst (λ (n : ℕ). is_copied_struct a.program.types n ≡ true) one (given_copied a.program.types setting.values.ordered is.id is.number is.here (typed_in form) number is.constant is.is is.place given))
    as_struct (struct_made is) given = made_of is (given_struct a.program.types number is.number (typed_in form) is.is given)
