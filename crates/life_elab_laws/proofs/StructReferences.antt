-- References to structs: each is given a struct, at a place or made, and nothing else; no other reference is given one.
use Rattle.std.proofs.Common.{◌≡◌, ℕ, Bool, true, false, List, refl, sym, ap, ◌∙◌, subst}
use Rattle.std.proofs.lemmas.Bool.{false≢true}
use Rattle.life_elab_laws.proofs.ObjectTypes.{is_target}
use Rattle.life_elab_laws.proofs.TypeKinds.{is_struct_type}
use Rattle.life_types.specs.Types.{Types}
use Rattle.life_types.specs.declared.ty.Ty.{Ty}
use Rattle.life_types.specs.declared.ty.Ty.TheVariants as ty
use Rattle.life_types.specs.declared.ty.TyId.{TyId}
use Rattle.life_typed.specs.BaseTypes.{type_at}
use Rattle.life_typed.specs.Conversions.{fits, is_place_of}
use Rattle.life_typed.specs.TypedForm.{Form, Typed}
use Rattle.life_typed.specs.declared.typed_expr.Category.{Category}
use Rattle.life_typed.specs.declared.typed_expr.Category.TheVariants as category
use Rattle.life_typed.specs.declared.typed_expr.ExprType.{ExprType}
use Rattle.life_typed.specs.declared.typed_expr.ExprType.TheVariants.{NullPointer, Of, TextLiteral}
use Rattle.life_type_expr.specs.Lists.{fits_at_all}
use Rattle.life_core.specs.Function.{Function}
use Rattle.life_core.specs.Operands.{Operand}
use Rattle.life_well_typed.specs.Expressions.{typed_in}
use Rattle.life_well_typed.specs.Given.{is_given, is_number}
use Rattle.life_writer.specs.Around.{Around}
use Rattle.life_writer.specs.ExpressionForms.{uses}
use Rattle.life_writer.specs.Giving as giving
use Rattle.life_writer.specs.Writing.{Gives, State}
use Rattle.life_elab_laws.proofs.AliasForms.{IsAliased, no_owner_given, to_built, to_place}
use Rattle.life_elab_laws.proofs.ExpressionForms.{Placed, Standing}
use Rattle.life_elab_laws.proofs.FormedFits.{IsBound, IsBoundTo, at_place, by_temporary, given_bound}
use Rattle.life_elab_laws.proofs.FormedVariables.{const_same}
use Rattle.life_elab_laws.proofs.GivenKinds.{given_number}
use Rattle.life_elab_laws.proofs.MadeForms.{BuildsIn}
use Rattle.life_elab_laws.proofs.MadeStructs.{IsAnyStruct, as_struct, struct_made, struct_there, struct_typed}
use Rattle.life_elab_laws.proofs.PointerForms.{held_typed}
use Rattle.life_elab_laws.proofs.Setting.{Setting}
use Rattle.life_elab_laws.proofs.StructForms.{IsStruct, value_no_struct}
use Rattle.life_elab_laws.proofs.Targets.{IsTarget, target_is, to_owner, to_struct, to_value}
use Rattle.life_elab_laws.proofs.TypedKinds.{HasKind, a_null, a_number, a_pointer, a_text, a_view, no_value, place_same, value_place}

-- ---- what is no struct

pub kind_no_struct : (types : Types) (e : Typed) → HasKind types e → is_struct_type e.ty ≡ true → ⊥
kind_no_struct types e (a_number t is v) n = false≢true (sym (ap is_struct_type is ∙ value_no_struct t v) ∙ n)
kind_no_struct types e (a_pointer target constant is v) n = false≢true (sym (ap is_struct_type is) ∙ n)
kind_no_struct types e (a_view is) n = false≢true (sym (ap is_struct_type is) ∙ n)
kind_no_struct types e (a_text is v) n = false≢true (sym (ap is_struct_type is) ∙ n)
kind_no_struct types e (no_value is v) n = false≢true (sym (ap is_struct_type is) ∙ n)
kind_no_struct types e (a_null is v) n = false≢true (sym (ap is_struct_type is) ∙ n)

-- a struct is given to a struct alone
pub struct_fits : (types : Types) (number : ℕ) (t : ExprType) (c : Category) → fits_at_all (fits types (ty.Struct number) t c) ≡ true → is_struct_type t ≡ true
struct_fits types number (Of (ty.Struct found)) c h = refl
struct_fits types number (Of _) c h = absurd (false≢true h)
struct_fits types number NullPointer c h = absurd (false≢true h)
struct_fits types number TextLiteral c h = absurd (false≢true h)

-- .. and to a reference to one
pub struct_alone : (types : Types) (target : TyId) (constant : Bool) (number : ℕ) (e : Typed) → type_at types target ≡ ty.Struct number → is_target types (type_at types target) ≡ true → is_given types (ty.Reference target constant) e ≡ true
    → ((held : Bool) → e.category ≡ category.Place target held → e.ty ≡ Of (type_at types target)) → is_struct_type e.ty ≡ true
struct_alone types target constant number e structure wide given placed = go (given_bound types target constant e wide given)
  where
    go : IsBound types target constant e → is_struct_type e.ty ≡ true
    go (at_place there) = ap is_struct_type (placed there.held there.place ∙ ap Of structure)
    go (by_temporary none initial) = struct_fits types number e.ty e.category (subst (λ (t : Ty). is_given types t e ≡ true) structure initial)

module _ (a : Around) (visible : List ℕ) (types : Types) (texts : ℕ) (fs : List Function) (f : Function) (setting : Setting a types fs f) where
  abbrev Stood : State → Type 0
  Stood s = Standing a visible types texts fs f setting s

  abbrev PlacedAs : Ty → Bool → State → Gives Operand → Type 0
  PlacedAs t constant s w = Placed a visible types texts fs f setting t constant s w

  -- ---- what a reference to a struct is bound to: a place, or a temporary

  pub record IsStructAlias (e : Form) (target : TyId) (constant : Bool) : Type 0 where
    pub number : ℕ
    pub structure : type_at a.program.types target ≡ ty.Struct number
    pub aliased : IsAliased a visible types texts fs f setting (uses a e) target constant

  module _ (e : Form) (target : TyId) (constant : Bool) where
    seen_here : is_place_of (uses a e).category target ≡ is_place_of (typed_in e).category target
    seen_here = ap (λ (c : Category). is_place_of c target) (sym (held_typed a visible types texts fs f setting e))

    bound_there : IsStruct a visible types texts fs f setting e → IsBoundTo target constant (typed_in e).category → IsStructAlias e target constant
    bound_there from there =
        let same = sym from.place ∙ there.place in
        let one = ap (type_at a.program.types) (place_same from.id target from.constant there.held same) in
        record {
          number = from.number;
          structure = sym one ∙ from.here;
          aliased = to_place there.held (seen_here ∙ there.here) there.kept (λ s stands.
              subst (λ (d : Bool). PlacedAs (type_at a.program.types target) d s ((uses a e).at s)) (const_same from.id target from.constant there.held same)
              (subst (λ (t : Ty). PlacedAs t from.constant s ((uses a e).at s)) (sym from.here ∙ one) (from.names s stands)));
        }

    -- what isn't at a place of the target is given to one that is built for it, since no type stands twice
    module _ (from : IsAnyStruct a visible types texts fs f setting e) (none : is_place_of (typed_in e).category target ≡ false) (initial : is_given a.program.types (type_at a.program.types target) (typed_in e) ≡ true) where
      its : (number : ℕ) × ((typed_in e).ty ≡ Of (ty.Struct number))
      its = struct_typed a visible types texts fs f setting e from

      bound_built : is_target a.program.types (type_at a.program.types target) ≡ true → IsStructAlias e target constant
      bound_built wide = go (target_is a.program.types (type_at a.program.types target) wide)
        where
          go : IsTarget a.program.types (type_at a.program.types target) → IsStructAlias e target constant
          go (to_value v) = absurd (false≢true (subst (λ (x : ExprType). is_number x ≡ true) its.1 (given_number a.program.types (type_at a.program.types target) (typed_in e) v initial)))
          go (to_owner o) =
              absurd (no_owner_given a.program.types (type_at a.program.types target) o (ty.Struct its.0) refl (typed_in e).category
              (subst (λ (x : ExprType). fits_at_all (fits a.program.types (type_at a.program.types target) x (typed_in e).category) ≡ true) its.1 initial))
          go (to_struct number structure pointless) =
              let of = as_struct a visible types texts fs f setting e number from (subst (λ (t : Ty). is_given a.program.types t (typed_in e) ≡ true) structure initial) in
              record {
                number = number;
                structure = structure;
                aliased = to_built (seen_here ∙ none) (λ behind s stands. subst (λ (t : Ty). BuildsIn a visible types texts fs f setting false t s (giving.given (uses a e) t behind s)) (sym structure) (of.builds behind s stands));
              }

    pub struct_aliased : IsAnyStruct a visible types texts fs f setting e → is_target a.program.types (type_at a.program.types target) ≡ true → is_given a.program.types (ty.Reference target constant) (typed_in e) ≡ true → IsStructAlias e target constant
    struct_aliased from wide given = go from (given_bound a.program.types target constant (typed_in e) wide given)
      where
        go : IsAnyStruct a visible types texts fs f setting e → IsBound a.program.types target constant (typed_in e) → IsStructAlias e target constant
        go (struct_there is) (at_place there) = bound_there is there
        go (struct_made is) (at_place there) = absurd (value_place (sym is.value ∙ there.place))
        go from (by_temporary none initial) = bound_built from none initial wide
