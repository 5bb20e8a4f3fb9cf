-- What `std::make_unique` makes a unique_ptr own, whatever that is: what stands there at first or a number, which a part finds, or an owner or a struct, which is given over.
use Rattle.std.proofs.Common.{◌≡◌, ℕ, true, false, List, [], ◌∷◌, refl, sym, ap, ◌∙◌, subst}
use Rattle.life_elab_laws.proofs.ObjectTypes.{is_element}
use Rattle.life_types.specs.Pointees.{ty_of}
use Rattle.life_types.specs.TypeTests.{is_value}
use Rattle.life_types.specs.Types.{Types}
use Rattle.life_types.specs.declared.place.Place.{Place}
use Rattle.life_types.specs.declared.ty.Ty.{Ty}
use Rattle.life_types.specs.declared.ty.Ty.TheVariants as ty
use Rattle.life_types.specs.declared.ty.TyId.{TyId}
use Rattle.life_typed.specs.BaseTypes.{type_at}
use Rattle.life_typed.specs.TypedForm.{Form, Typed, make_unique, nothing, typed}
use Rattle.life_typed.specs.declared.typed_expr.Category.{Category}
use Rattle.life_typed.specs.declared.typed_expr.ExprType.{ExprType}
use Rattle.life_core.specs.Function.{Function}
use Rattle.life_core.specs.declared.instr.Made.{Made}
use Rattle.life_core.specs.declared.instr.Made.TheVariants as made
use Rattle.life_well_typed.specs.Expressions.{IsMadeOf, typed_in}
use Rattle.life_well_typed.specs.Given.{is_given}
use Rattle.life_writer.specs.Around.{Around, type_of}
use Rattle.life_writer.specs.ExpressionForms.{uses, uses_if}
use Rattle.life_writer.specs.Giving.{given_over}
use Rattle.life_writer.specs.OwnerForms.{owned_operand}
use Rattle.life_writer.specs.Writing.{Gives, State, mapped}
use Rattle.life_elab_laws.proofs.Elements.{IsElement, element_is, element_there, has_owner, has_struct, has_value, inner_owner}
use Rattle.life_elab_laws.proofs.ExpressionForms.{Standing}
use Rattle.life_elab_laws.proofs.Gifts.{a_given}
use Rattle.life_elab_laws.proofs.GivenKinds.{taken_number}
use Rattle.life_elab_laws.proofs.Handing.{HandingAlone}
use Rattle.life_elab_laws.proofs.MovedOwners.{given_moved}
use Rattle.life_elab_laws.proofs.PushedElements.{IsPushing, owner_over, pushing_number, pushing_owner, struct_over}
use Rattle.life_elab_laws.proofs.AdmittedTypes.{struct_tabled}
use Rattle.life_elab_laws.proofs.TakenOwners.{owner_plain}
use Rattle.life_elab_laws.proofs.Setting.{Setting}
use Rattle.life_elab_laws.proofs.UniqueMaking.{IsOwnedBy, number_owned, zero_owned}

module _ (a : Around) (visible : List ℕ) (types : Types) (texts : ℕ) (fs : List Function) (f : Function) (setting : Setting a types fs f) where
  -- ---- an owner or a struct that is given over to it

  pub record IsOver (t : Ty) (s : State) (w : Gives Made) : Type 0 where
    pub given : Gives ℕ
    pub is : w ≡ mapped made.Of given
    pub over : HandingAlone types texts fs f (given.given ∷ []) s given (a_given types texts fs f t)

  pub data IsContentOf (target id : TyId) (argument : Form) (closing : Place) : Type 0 where
    is_found : IsOwnedBy a visible types texts fs f setting target id argument closing → IsContentOf target id argument closing
    is_over : (t : Ty) → is_value t ≡ false → ty_of types target ≡ t
        → ((s : State) → Standing a visible types texts fs f setting s → IsOver t s (owned_operand (type_of a id) (uses_if a argument) closing s)) → IsContentOf target id argument closing

  -- ---- whichever it is

  -- an argument, if there is one
  abbrev pub IsGivingIfAny : Form → Type 0
  IsGivingIfAny (typed place t c form) = IsPushing a visible types texts fs f setting (typed place t c form)
  IsGivingIfAny _ = Unit {0}

  -- where it is of the type that is wanted
  module _ (target : TyId) (worth : is_element a.program.types (type_at a.program.types target) ≡ true) (id : TyId) (closing : Place) (one : id ≡ target) where
    abbrev t : Ty
    t = type_at a.program.types id

    there : is_element a.program.types t ≡ true
    there = ap (λ (x : TyId). is_element a.program.types (type_at a.program.types x)) one ∙ worth

    holds : ty_of types target ≡ t
    holds = element_there a.program.types types setting.front target worth ∙ ap (type_at a.program.types) (sym one)

    module _ (place : Place) (x : ExprType) (c : Category) (form : Form) (giving : IsPushing a visible types texts fs f setting (typed place x c form)) (fits : is_given a.program.types t (typed_in (typed place x c form)) ≡ true) where
      abbrev argument : Form
      argument = typed place x c form

      by_kind : IsElement a.program.types t → IsContentOf target id argument closing
      by_kind (has_value v) =
          let number = taken_number a.program.types t (typed_in argument) v fits in
          is_found (number_owned a visible types texts fs f setting target id closing place x c form holds v number (pushing_number a visible types texts fs f setting argument giving number))
      by_kind (has_struct number structure pointless) =
          is_over t (ap is_value structure) holds (λ s stands. record {
            given = given_over (uses a argument) t closing s;
            is = refl;
            over =
                subst (λ (u : Ty). (let v = given_over (uses a argument) u closing s in HandingAlone types texts fs f (v.given ∷ []) s v (a_given types texts fs f u))) (sym structure)
                (struct_over a visible types texts fs f setting argument giving number (struct_tabled a.program.types id number structure) (subst (λ (u : Ty). is_given a.program.types u (typed_in argument) ≡ true) structure fits) closing s stands);
          })
      by_kind (has_owner inner) =
          let o = inner_owner a.program.types t inner in
          is_over t (owner_plain a.program.types t o) holds
          (λ s stands. record { given = given_over (uses a argument) t closing s; is = refl; over = owner_over a visible types texts fs f setting argument (pushing_owner a visible types texts fs f setting argument giving t o fits) t o fits closing s stands })

  pub content_as : (target : TyId) → is_element a.program.types (type_at a.program.types target) ≡ true → (id : TyId) (argument : Form) (closing : Place) (e : Typed) → is_given a.program.types (ty.Unique target) e ≡ true
      → IsMadeOf a.program a.function.locals visible e (make_unique id argument closing) → IsGivingIfAny argument → IsContentOf target id argument closing
  content_as target worth id argument closing e given h giving = go argument giving h
    where
      target_in : Ty → TyId
      target_in (ty.Unique t) = t
      target_in _ = id

      unique_same : ty.Unique id ≡ ty.Unique target → id ≡ target
      unique_same e = ap target_in e

      one : id ≡ target
      one = unique_same (given_moved a visible types texts fs f setting (ty.Unique target) (ty.Unique id) e refl refl (ap (λ (y : Typed). y.ty) h.0) given)

      go : (argument : Form) → IsGivingIfAny argument → IsMadeOf a.program a.function.locals visible e (make_unique id argument closing) → IsContentOf target id argument closing
      go nothing giving h = is_found (zero_owned a visible types texts fs f setting target id closing)
      go (typed place x c form) giving h =
          by_kind target worth id closing one place x c form giving h.2
          (element_is a.program.types (type_at a.program.types id) (there target worth id closing one))
      go _ giving h = absurd h.3
