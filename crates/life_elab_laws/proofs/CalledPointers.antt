-- Calls that give a raw pointer, a view, an iterator, a span or a reference: a pointer of its type takes the one, and a reference comes to a register, behind which the place is.
use Rattle.std.proofs.Common.{◌≡◌, inl, inr, ℕ, Bool, true, List, length, Some, None, refl, sym, ap, ◌∙◌, subst}
use Rattle.std.proofs.lemmas.Bool.{and_from, false≢true}
use Rattle.life_types.specs.Pointees.{ty_of}
use Rattle.life_types.specs.Types.{Types}
use Rattle.life_types.specs.declared.place.Place.{Place}
use Rattle.life_types.specs.declared.ty.Ty.{Ty}
use Rattle.life_types.specs.declared.ty.Ty.TheVariants as ty
use Rattle.life_types.specs.declared.ty.TyId.{TyId}
use Rattle.life_typed.specs.BaseTypes.{type_at}
use Rattle.life_typed.specs.Programs.{FunctionForm}
use Rattle.life_typed.specs.declared.typed_expr.ExprType.TheVariants.{Of}
use Rattle.life_core.specs.Function.{Function}
use Rattle.life_core.specs.Kinds.{is_register_at}
use Rattle.life_core.specs.Operands.{Argument, Location, behind as through, whole}
use Rattle.life_proper.specs.OperandTypes.{keeps_const, same, takes}
use Rattle.life_proper.specs.Placed.{type_in}
use Rattle.life_proper.specs.WellFormed.{goes_to}
use Rattle.life_well_typed.specs.Expressions.{parameter_types}
use Rattle.life_writer.specs.Building.{Fill, built}
use Rattle.life_writer.specs.Calls.{called}
use Rattle.life_writer.specs.Pointers.{By}
use Rattle.life_writer.specs.Registers.{new_register, wanted}
use Rattle.life_writer.specs.Writing.{Gives, State, mapped}
use Rattle.life_elab_laws.proofs.Calls.{IsCallee}
use Rattle.life_elab_laws.proofs.Emitting.{Targets, new_targeted}
use Rattle.life_elab_laws.proofs.FormedVariables.{behind_place, reference_there}
use Rattle.life_elab_laws.proofs.Fronts.{IsFront, front_length, last_there}
use Rattle.life_elab_laws.proofs.Gifts.{IsTakenBy, a_place}
use Rattle.life_elab_laws.proofs.Growing.{Begins, added}
use Rattle.life_elab_laws.proofs.OperandsThere.{register_there}
use Rattle.life_elab_laws.proofs.Parts.{Makes}
use Rattle.life_elab_laws.proofs.PointedCalls.{IsPointedCall}
use Rattle.life_elab_laws.proofs.Types.{type_added}
use Rattle.life_elab_laws.proofs.WalkerSteps.{keeps_itself}
use Rattle.life_elab_laws.proofs.WrittenLocals.{fits_below, fits_later}
use Rattle.life_elab_laws.proofs.ObjectTypes.{is_target, is_walker_of_values}
use Rattle.life_elab_laws.proofs.Targets.{one_target, target_no_void, target_type, target_unslotted}
use Rattle.life_elab_laws.proofs.Shaped.{PlainStays}
use Rattle.life_elab_laws.proofs.HandedArguments.{Hands}
use Rattle.life_elab_laws.proofs.HandingCalls.{call_received, register_receives}

module _ (types : Types) (texts : ℕ) (fs : List Function) (f : Function) (g : ℕ) (of : FunctionForm) (callee : IsCallee types fs g of)
    (s : State) (w : Gives (List Argument)) (hands : Hands types texts fs f (parameter_types (Some of)) s w) where
  abbrev IsPointed : Ty → Type 0
  IsPointed t = IsPointedCall types texts fs f (Of t) s (mapped (λ (xs : List Argument). By (called g xs)) w)

  -- ---- a pointer of a type that takes its own, which is taken

  module _ (pointer : Ty) (own : ty_of types of.result ≡ pointer) (itself : takes types pointer pointer ≡ true) (comes : (l : Location) → takes types (type_in types f l) pointer ≡ true → goes_to types texts fs f pointer (Some l) ≡ true) where
    taken : (u : Ty) → IsTakenBy types u (Of pointer) → takes types u pointer ≡ true
    taken u (inl e) = subst (λ (t : Ty). takes types t pointer ≡ true) (same_of u e) itself
      where
        same_of : (u : Ty) → Of pointer ≡ Of u → pointer ≡ u
        same_of u e = cc
    taken u (inr e) = e

    taken_call : IsPointed pointer
    taken_call = record {
      function = g;
      of = of;
      callee = callee;
      given = w;
      hands = hands;
      is = refl;
      own = ap Of (sym own);
      goes = λ u l at by. ap (λ (t : Ty). goes_to types texts fs f t (Some l)) own ∙ comes l (ap (λ (t : Ty). takes types t pointer) at ∙ taken u by);
    }

  -- a view
  pub viewed_call : ty_of types of.result ≡ ty.View → IsPointed ty.View
  viewed_call own = taken_call ty.View own refl (λ l h. h)

  -- an iterator or a span
  pub walked_call : (table : Types) (t : Ty) → is_walker_of_values table t ≡ true → ty_of types of.result ≡ t → takes types t t ≡ true → IsPointed t
  walked_call table (ty.Iterator item held) walks own itself = taken_call (ty.Iterator item held) own itself (λ l h. h)
  walked_call table (ty.Span item held) walks own itself = taken_call (ty.Span item held) own itself (λ l h. h)
  walked_call table _ walks own itself = absurd (false≢true walks)

  -- a raw pointer to a value, an owner or a struct
  pub pointed_call : (few : Types) → IsFront few.types types.types → (target : TyId) (constant : Bool) → is_target few (type_at few target) ≡ true → ty_of types of.result ≡ ty.Raw target constant → IsPointed (ty.Raw target constant)
  pointed_call few front target constant worth own =
      taken_call (ty.Raw target constant) own (and_from (same (ty_of types target) (ty_of types target)) (keeps_const constant constant) (one_target few types front target worth) (keeps_itself constant)) (λ l h. h)

-- ---- a reference

module _ (types : Types) (texts : ℕ) (fs : List Function) (f : Function) (g : ℕ) (of : FunctionForm) (callee : IsCallee types fs g of)
    (s : State) (w : Gives (List Argument)) (hands : Hands types texts fs f (parameter_types (Some of)) s w)
    (few : Types) (front : IsFront few.types types.types) (target : TyId) (constant : Bool) (worth : is_target few (type_at few target) ≡ true)
    (own : ty_of types of.result ≡ ty.Reference target constant) (place : Place) (table : IsFront few.types w.state.types.types) (stays : PlainStays few types) where
  abbrev reference : Ty
  reference = ty.Reference target constant

  abbrev register : Gives ℕ
  register = new_register place reference w.state

  referred : Begins types f register.state → type_in types f (whole register.given) ≡ reference
  referred b =
      let l = added place reference w.state in
      reference_there types f (length w.state.locals) l target constant (b.locals (length w.state.locals) l (last_there w.state.locals l)) (b.table l.ty.0 reference (type_added w.state.types.types reference)) (target_unslotted few types front target worth)

  kept : Begins types f register.state → is_register_at f register.given ≡ true
  kept b = let l = added place reference w.state in register_there types f (length w.state.locals) l (b.locals (length w.state.locals) l (last_there w.state.locals l)) refl

  comes : Begins types f register.state → goes_to types texts fs f (ty_of types of.result) (Some (whole register.given)) ≡ true
  comes b =
      ap (λ (t : Ty). goes_to types texts fs f t (Some (whole register.given))) own ∙ ap (λ (t : Ty). takes types t reference) (referred b)
      ∙ and_from (same (ty_of types target) (ty_of types target)) (keeps_const constant constant) (one_target few types front target worth) (keeps_itself constant)

  targets : Targets types f None w.state register
  targets = new_targeted types f place reference w.state (fits_later few types front stays reference worth) (fits_below few w.state.types (front_length few.types w.state.types.types table) reference worth)

  pub referred_call : Makes types texts fs f None s (mapped through (built (Fill place (called g w.given)) (wanted place None reference) w.state)) (a_place types texts fs f (type_at few target) constant)
  referred_call =
      call_received types texts fs f g of callee s w hands None register.given register.state (through register.given) (a_place types texts fs f (type_at few target) constant) place (register_receives types texts fs f None w.state register targets) comes
      (λ b.
      behind_place types texts fs f (whole register.given) reference target constant (type_at few target) (record { typed = referred b; kept = kept b }) refl refl refl (target_type few types front target worth) (target_no_void few (type_at few target) worth))
      (λ k there. record { local = register.given; uses = refl; below = targets.below; held = there })
