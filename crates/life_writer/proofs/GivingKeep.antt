-- What each step of writing keeps is kept where something is initialised, handed over or assigned.
use Rattle.std.proofs.Common.{ℕ, suc, Bool, true, false, List, [], ◌∷◌, Option, Some, None, length}
use Rattle.std.specs.Prelude.{if◌then◌else◌, not, pos, ◌&&◌}
use Rattle.life_types.specs.Trees.{members_at}
use Rattle.life_types.specs.Types.{class}
use Rattle.life_types.specs.contracts.ty.TyPartialEq.TheImpl.{ghosts as compared}
use Rattle.life_types.specs.declared.place.Place.{Place}
use Rattle.life_types.specs.declared.ty.Class.{Class}
use Rattle.life_types.specs.declared.ty.Class.TheVariants as classes
use Rattle.life_types.specs.declared.ty.Ty.{Ty}
use Rattle.life_types.specs.declared.ty.Ty.TheVariants as ty
use Rattle.life_types.specs.declared.ty.TyId.{TyId}
use Rattle.life_typed.specs.Conversions.{is_place, is_place_of}
use Rattle.life_typed.specs.Delimiters.{DelimitersForm, behind_first, behind_others}
use Rattle.life_typed.specs.declared.typed_expr.Category.{Category}
use Rattle.life_typed.specs.declared.typed_expr.Category.TheVariants as category
use Rattle.life_core.specs.Operands.{Location, Operand, Place as Aimed, object_named}
use Rattle.life_core.specs.Step.{Step}
use Rattle.life_core.specs.declared.instr.Form.TheVariants.{Plain, Zero}
use Rattle.life_writer.proofs.UsesKeep.{Does, DoesTo, Finishes, Keeps, Steps, Writes, WritesActIf, WritesAct, WritesIf, WritesRest, built_keeps, computed_keeps, consumed_keeps, emits, lived_keeps, temporary_keeps, wanted_keeps}
use Rattle.life_writer.proofs.UsingKeep.{pointer_keeps, pointing_keeps, temporary_of_keeps, value_keeps}
use Rattle.life_writer.specs.Around.{Around, type_of}
use Rattle.life_writer.specs.Assigning.{Target, acted, assigned, assigned_by, owner_by, replaced_by, struct_by}
use Rattle.life_writer.specs.Building.{Destination, Fill, Saved}
use Rattle.life_writer.specs.Pointers.{aimed, pointed}
use Rattle.life_writer.specs.Giving.{aimed_at, argument, argument_by, arguments, bound, call_to, consumed_by, copied, given, given_by, given_over, object_by, pointer_argument, value_by}
use Rattle.life_writer.specs.Lists.{assigned_members, filled_in, list_object, member_target, pushed, reserved}
use Rattle.life_writer.specs.Registers.{constant, wanted}
use Rattle.life_writer.specs.Temporaries.{consumed, temporary}
use Rattle.life_writer.specs.Uses.{Act, Remaining, Uses, filled, own}
use Rattle.life_writer.specs.Using.{pointing, temporary_of, value}
use Rattle.life_writer.specs.Writing.{State, Gives, gives, ◌>>◌, mapped}

module _ (Kept : State → State → Type 0) (k : Steps Kept) where
  -- ---- what is initialised

  pub filled_keeps : (place : Place) (step : Location → Step) → Finishes Kept k (filled place step)
  filled_keeps place step d begins s = built_keeps Kept k (Fill place step) d begins s

  pub copied_keeps : (from : Operand) → DoesTo Kept k (copied from)
  copied_keeps from place to s = emits Kept k place _ s

  chosen : (b : Bool) (call : Option (State → Gives (Location → Step))) → WritesIf Kept k call → WritesIf Kept k (if b then call else None)
  chosen true call h = h
  chosen false call h = tt

  pub value_by_keeps : (call : Option (State → Gives (Location → Step))) (place : Place) (value : State → Gives ℕ) → WritesIf Kept k call → Writes Kept k value
      → WritesRest Kept k (value_by call place value)
  value_by_keeps (Some call) place value calls gives s = (calls s, filled_keeps place (call s).given)
  value_by_keeps None place value calls gives s = (gives s, built_keeps Kept k (Saved (value s).given))

  pub object_by_keeps : (c : Category) (at : State → Gives Operand) (made : State → Gives Remaining) → Writes Kept k at → WritesRest Kept k made
      → WritesRest Kept k (object_by c at made)
  object_by_keeps category.Value at made stands makes s = makes s
  object_by_keeps (category.Place id constant) at made stands makes s = (stands s, lived_keeps Kept k Plain (copied (at s).given) (copied_keeps (at s).given))

  pub given_by_keeps : (kind : Class) (e : Uses) → Keeps Kept k e → (t : Ty) (behind : Place) → WritesRest Kept k (given_by kind e t behind)
  given_by_keeps classes.Value e h t behind s =
      value_by_keeps (call_to e t) e.place (value e behind t None) (chosen (compared.eq (own e) t && not (is_place e.category)) e.call h.call) (value_keeps Kept k e h behind t None) s
  given_by_keeps classes.Pointer e h t behind s = (pointing_keeps Kept k e h s, filled_keeps e.place (pointed (pointing e s).given))
  given_by_keeps classes.Owner e h t behind s = object_by_keeps e.category e.at e.object h.at h.object s
  given_by_keeps classes.Aggregate e h t behind s = object_by_keeps e.category e.at e.object h.at h.object s

  pub given_keeps : (e : Uses) → Keeps Kept k e → (t : Ty) (behind : Place) → WritesRest Kept k (given e t behind)
  given_keeps e h t behind s = given_by_keeps (class (Some t)) e h t behind s

  pub consumed_by_keeps : (kind : Class) (e : Uses) → Keeps Kept k e → (t : Ty) (behind : Place) → Writes Kept k (consumed_by kind e t behind)
  consumed_by_keeps classes.Value e h t behind s = value_keeps Kept k e h behind t None s
  consumed_by_keeps _ e h t behind s =
      k.goes_on _ _ _ (given_keeps e h t behind s).0 ((given_keeps e h t behind s).1 (consumed e.place t) (consumed_keeps Kept k e.place t) _)

  pub given_over_keeps : (e : Uses) → Keeps Kept k e → (t : Ty) (behind : Place) → Writes Kept k (given_over e t behind)
  given_over_keeps e h t behind s = consumed_by_keeps (class (Some t)) e h t behind s

  -- ---- what is assigned

  pub acted_keeps : (w : State → Gives Act) (to : Target) (equals : Place) → WritesAct Kept k w → Writes Kept k to.operand → Does Kept k (λ s. acted (w s) to equals)
  acted_keeps w to equals writes stands s = k.goes_on _ _ _ (writes s).0 (k.goes_on _ _ _ (stands _) ((writes s).1 equals _ _))

  pub replaced_by_keeps : (act : Option (State → Gives Act)) (made : State → Gives ℕ) → WritesActIf Kept k act → Writes Kept k made → WritesAct Kept k (replaced_by act made)
  replaced_by_keeps (Some act) made acts makes s = acts s
  replaced_by_keeps None made acts makes s = (makes s, λ place to s. emits Kept k place _ s)

  pub owner_by_keeps : (c : Category) (e : Uses) → Keeps Kept k e → (t : Ty) → WritesAct Kept k (owner_by c e t)
  owner_by_keeps (category.Place id constant) e h t s = (h.at s, copied_keeps (e.at s).given)
  owner_by_keeps category.Value e h t s = replaced_by_keeps e.replacing (temporary_of e t) h.replacing (temporary_of_keeps Kept k e h t) s

  pub struct_by_keeps : (c : Category) (e : Uses) → Keeps Kept k e → (t : Ty) → WritesAct Kept k (struct_by c e t)
  struct_by_keeps (category.Place id constant) e h t s = (h.at s, copied_keeps (e.at s).given)
  struct_by_keeps category.Value e h t s = (temporary_of_keeps Kept k e h t s, copied_keeps (object_named (temporary_of e t s).given))

  pub assigned_by_keeps : (kind : Class) (e : Uses) → Keeps Kept k e → (t : Ty) (to : Target) → Writes Kept k to.operand → Writes Kept k to.location
      → (equals behind : Place) → Does Kept k (assigned_by kind e t to equals behind)
  assigned_by_keeps classes.Value e h t to stands lies equals behind s =
      k.goes_on _ _ _ (value_keeps Kept k e h behind t None s) (k.goes_on _ _ _ (stands _) (emits Kept k equals _ _))
  assigned_by_keeps classes.Pointer e h t to stands lies equals behind s =
      k.goes_on _ _ _ (pointing_keeps Kept k e h s) (k.goes_on _ _ _ (lies _) (emits Kept k e.place _ _))
  assigned_by_keeps classes.Owner e h t to stands lies equals behind s = acted_keeps (owner_by e.category e t) to equals (owner_by_keeps e.category e h t) stands s
  assigned_by_keeps classes.Aggregate e h t to stands lies equals behind s = acted_keeps (struct_by e.category e t) to equals (struct_by_keeps e.category e h t) stands s

  pub assigned_keeps : (e : Uses) → Keeps Kept k e → (t : Ty) (to : Target) → Writes Kept k to.operand → Writes Kept k to.location
      → (equals behind : Place) → Does Kept k (assigned e t to equals behind)
  assigned_keeps e h t to stands lies equals behind s = assigned_by_keeps (class (Some t)) e h t to stands lies equals behind s

  -- ---- several expressions

  abbrev pub AllKeep : List Uses → Type 0
  AllKeep [] = Unit {0}
  AllKeep (e ∷ es) = Keeps Kept k e × AllKeep es

  pub pushed_keeps : (t : Ty) (to : Operand) (es : List Uses) → AllKeep es → (d : DelimitersForm) → Does Kept k (pushed t to es d)
  pushed_keeps t to [] h d s = k.stays s
  pushed_keeps t to (e ∷ es) h d s =
      k.goes_on _ _ _ (k.goes_on _ _ _ (given_over_keeps e h.0 t (behind_first d) s) (emits Kept k e.place _ _)) (pushed_keeps t to es h.1 (behind_others d) _)

  pub reserved_keeps : (opening : Place) (n : ℕ) (to : Operand) → Does Kept k (reserved opening n to)
  reserved_keeps opening n to s = k.goes_on _ _ _ (computed_keeps Kept k None ty.Size opening (constant (pos n)) s) (emits Kept k opening _ _)

  module _ (a : Around) where
    -- a place, or else a temporary
    either_keeps : (b : Bool) (x y : Gives Remaining) (s : State) → Kept s x.state × Finishes Kept k x.given → Kept s y.state × Finishes Kept k y.given
        → Kept s (if b then x else y).state × Finishes Kept k (if b then x else y).given
    either_keeps true x y s first second = first
    either_keeps false x y s first second = second

    pub bound_keeps : (keeps : Place → Ty → Destination) → ((place : Place) (t : Ty) → Writes Kept k (keeps place t).begins)
        → (e : Uses) → Keeps Kept k e → (target : TyId) (behind : Place) → WritesRest Kept k (bound a keeps e target behind)
    bound_keeps keeps begins e h target behind s0 =
        either_keeps (is_place_of e.category target) (mapped (aimed_at e.place) (e.at s0))
        (given e (type_of a target) behind s0 >> λ rest s. rest (keeps e.place (type_of a target)) s >> λ x s. gives (aimed_at e.place (object_named x)) s) s0
        (h.at s0, filled_keeps e.place (pointed (aimed (Aimed (e.at s0).given)))) (
          k.goes_on _ _ _ (given_keeps e h (type_of a target) behind s0).0
              ((given_keeps e h (type_of a target) behind s0).1 (keeps e.place (type_of a target)) (begins e.place (type_of a target)) _),
          λ d begun s. built_keeps Kept k (Fill e.place (pointed (aimed (Aimed (object_named (((given e (type_of a target) behind s0).given (keeps e.place (type_of a target)) (given e (type_of a target) behind s0).state).given)))))) d begun s,
        )

    -- ---- arguments

    pub pointer_argument_keeps : (e : Uses) → Keeps Kept k e → (t : Ty) (behind : Place) → Writes Kept k (pointer_argument a e t behind)
    pointer_argument_keeps e h (ty.Reference target constant) behind s =
        k.goes_on _ _ _ (bound_keeps temporary (temporary_keeps Kept k) e h target behind s).0
        ((bound_keeps temporary (temporary_keeps Kept k) e h target behind s).1 (wanted e.place None (ty.Reference target constant)) (wanted_keeps Kept k e.place None (ty.Reference target constant)) _)
    pointer_argument_keeps e h t behind s = pointer_keeps Kept k e h t s

    pub argument_by_keeps : (kind : Class) (e : Uses) → Keeps Kept k e → (t : Ty) (behind : Place) → Writes Kept k (argument_by a kind e t behind)
    argument_by_keeps classes.Value e h t behind s = value_keeps Kept k e h behind t None s
    argument_by_keeps classes.Pointer e h t behind s = pointer_argument_keeps e h t behind s
    argument_by_keeps _ e h t behind s = given_over_keeps e h t behind s

    pub argument_keeps : (e : Uses) → Keeps Kept k e → (t : Ty) (behind : Place) → Writes Kept k (argument a e t behind)
    argument_keeps e h t behind s = argument_by_keeps (class (Some t)) e h t behind s

    pub arguments_keep : (es : List Uses) → AllKeep es → (d : DelimitersForm) (ts : List TyId) → Writes Kept k (arguments a es d ts)
    arguments_keep (e ∷ es) h d (t ∷ ts) s =
        k.goes_on _ _ _ (argument_keeps e h.0 (type_of a t) (behind_first d) s) (arguments_keep es h.1 (behind_others d) ts _)
    arguments_keep [] h d ts s = k.stays s
    arguments_keep (e ∷ es) h d [] s = k.stays s

    -- ---- lists

    pub assigned_members_keep : (m : ℕ) (ts : List TyId) (to : Operand) (es : List Uses) → AllKeep es → (d : DelimitersForm) → Does Kept k (assigned_members a m ts to es d)
    assigned_members_keep m (t ∷ ts) to (e ∷ es) h d s =
        k.goes_on _ _ _ (assigned_keeps e h.0 (type_of a t) (member_target m to) k.stays k.stays e.place (behind_first d) s)
        (assigned_members_keep (suc m) ts to es h.1 (behind_others d) _)
    assigned_members_keep m [] to es h d s = k.stays s
    assigned_members_keep m (t ∷ ts) to [] h d s = k.stays s

    pub filled_in_keeps : (t : Ty) (opening : Place) (es : List Uses) → AllKeep es → (d : DelimitersForm) → DoesTo Kept k (filled_in a t opening es d)
    filled_in_keeps (ty.Vector t) opening es h d place to s =
        k.goes_on _ _ _ (reserved_keeps opening (length es) to s) (pushed_keeps (type_of a t) to es h d _)
    filled_in_keeps (ty.Struct number) opening es h d place to s = assigned_members_keep 0 (members_at a.program.types number) to es h d s
    filled_in_keeps _ opening es h d place to s = k.stays s

    pub list_object_keeps : (t : Ty) (opening : Place) (es : List Uses) → AllKeep es → (d : DelimitersForm) → Finishes Kept k (list_object a t opening es d)
    list_object_keeps t opening [] h d = lived_keeps Kept k Zero (λ place to s. s) (λ place to. k.stays)
    list_object_keeps t opening (e ∷ es) h d = lived_keeps Kept k Plain (filled_in a t opening (e ∷ es) d) (filled_in_keeps t opening (e ∷ es) h d)
