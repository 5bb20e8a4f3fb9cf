-- unique_ptrs that are members of structs: each lies in the variable that its struct lies in.
use Rattle.std.proofs.Common.{◌≡◌, ℕ, Bool, true, false, List, None, refl, sym, ap, ◌∙◌, subst}
use Rattle.std.proofs.lemmas.Bool.{false≢true}
use Rattle.life_elab_laws.proofs.ObjectTypes.{is_plain_struct}
use Rattle.life_elab_laws.proofs.TypeKinds.{is_unique_type}
use Rattle.life_types.specs.TypeTests.{is_unique}
use Rattle.life_types.specs.Types.{Types}
use Rattle.life_types.specs.declared.ty.Ty.{Ty}
use Rattle.life_types.specs.declared.ty.Ty.TheVariants as ty
use Rattle.life_typed.specs.BaseTypes.{type_at}
use Rattle.life_typed.specs.TypedForm.{Form, Typed}
use Rattle.life_typed.specs.declared.typed_expr.ExprType.TheVariants.{Of}
use Rattle.life_core.specs.Function.{Function}
use Rattle.life_core.specs.Operands.{Operand}
use Rattle.life_proper.specs.OperandTypes.{keeps_const}
use Rattle.life_proper.specs.Placed.{is_const_place}
use Rattle.life_well_typed.specs.Expressions.{typed_in}
use Rattle.life_well_typed.specs.Members.{IsMember}
use Rattle.life_writer.specs.Around.{Around}
use Rattle.life_writer.specs.ExpressionForms.{member_at, uses}
use Rattle.life_writer.specs.Writing.{Gives, State}
use Rattle.life_elab_laws.proofs.ExpressionForms.{Placed, Standing}
use Rattle.life_elab_laws.proofs.Gifts.{a_place, nothing as no_gift}
use Rattle.life_elab_laws.proofs.Parts.{seen_part}
use Rattle.life_elab_laws.proofs.PlainStructs.{no_unique_in}
use Rattle.life_elab_laws.proofs.Setting.{Setting}
use Rattle.life_elab_laws.proofs.StructForms.{HasMember, IsStruct, found, member_lies}
use Rattle.life_elab_laws.proofs.StructTypes.{IsHeld, a_raw_held, a_struct_held, a_unique_held, a_value_held, a_view_held, a_walker_held, an_owner_held}
use Rattle.life_elab_laws.proofs.TypedKinds.{value_simple}
use Rattle.life_elab_laws.proofs.UniqueForms.{IsUniqueAt, owner_no_unique, walker_no_unique}
use Rattle.life_elab_laws.proofs.VariableParts.{LiesIn}

module _ (a : Around) (visible : List ℕ) (types : Types) (texts : ℕ) (fs : List Function) (f : Function) (setting : Setting a types fs f) where
  module _ (base : Form) (which : ℕ) (e : Typed) (is : IsStruct a visible types texts fs f setting base) (h : IsMember a.program.types (typed_in base).ty (typed_in base).category which e) where
    abbrev m : HasMember a visible types texts fs f setting base which e is.number is.constant
    m = found a visible types texts fs f setting base which e is h

    abbrev at : State → Gives Operand
    at s = member_at (uses a base) which s

    -- the struct holds one
    holds : is_unique (type_at a.program.types m.id) ≡ true → is_plain_struct a.program.types (ty.Struct is.number) ≡ false
    holds unique = go (is_plain_struct a.program.types (ty.Struct is.number)) refl
      where
        go : (b : Bool) → is_plain_struct a.program.types (ty.Struct is.number) ≡ b → b ≡ false
        go false plain = refl
        go true plain = absurd (no_unique_in a.program.types setting.values.ordered is.number which m.id m.there plain unique)

    -- so it is const nowhere: what typing calls const is an object of the function all the same
    free_there : (t : Ty) → LiesIn a visible types texts fs f setting at → (s : State) → Standing a visible types texts fs f setting s → Placed a visible types texts fs f setting t is.constant s (at s) → Placed a visible types texts fs f setting t false s (at s)
    free_there t lies s stands placed =
        seen_part types texts fs f (no_gift types texts fs f) tt None s (at s) (a_place types texts fs f t is.constant) (λ o. o) (a_place types texts fs f t false) placed
        (λ b q. record { typed = q.typed; held = ap (λ (w : Gives Operand). keeps_const false (is_const_place types f w.given)) (lies.here s stands) }) (λ n k q. q)

    pub member_unique : is_unique_type e.ty ≡ true → IsUniqueAt a visible types texts fs f setting e at (λ b. None)
    member_unique n = go (type_at a.program.types m.id) refl m.kind
      where
        other : (t : Ty) → type_at a.program.types m.id ≡ t → is_unique t ≡ false → IsUniqueAt a visible types texts fs f setting e at (λ b. None)
        other t same none = absurd (false≢true (sym none ∙ ap is_unique (sym same) ∙ ap is_unique_type (sym m.own) ∙ n))

        go : (t : Ty) → type_at a.program.types m.id ≡ t → IsHeld a.program.types t → IsUniqueAt a visible types texts fs f setting e at (λ b. None)
        go t same (a_value_held v) = other t same (value_simple t v).unique
        go t same (a_raw_held target constant raw w) = other t same (ap is_unique raw)
        go t same (a_view_held view) = other t same (ap is_unique view)
        go t same (a_walker_held w) = other t same (walker_no_unique a.program.types t w)
        go t same (an_owner_held o) = other t same (owner_no_unique a.program.types t o)
        go t same (a_struct_held number structure) = other t same (ap is_unique structure)
        go t same (a_unique_held target unique w) =
            let one = same ∙ unique in
            let lies = member_lies a visible types texts fs f setting base which e is h (holds (ap is_unique one)) in
            record {
              target = target;
              is = m.own ∙ ap Of one;
              worth = w;
              id = m.id;
              constant = is.constant;
              place = m.held;
              owns = one;
              lies = lies;
              placed = λ s stands. free_there (ty.Unique target) lies s stands (subst (λ (t : Ty). Placed a visible types texts fs f setting t is.constant s (at s)) one (m.names s stands));
              undecided = λ b. refl;
            }
