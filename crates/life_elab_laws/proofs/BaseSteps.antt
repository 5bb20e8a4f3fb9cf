-- Instructions on what has elements, a view or an owner at a place: how many there are, whether there are none, and one of them.
use Rattle.std.proofs.Common.{◌≡◌, ◌<◌, ◌≤◌, ℕ, Bool, true, List, [], ◌∷◌, ◌++◌, None, not, if◌then◌else◌, length, refl, sym, ap, ◌∙◌, arith, Option}
use Rattle.std.proofs.lemmas.Bool.{and_from}
use Rattle.life_types.specs.Pointees.{ty_of}
use Rattle.life_types.specs.TypeTests.{is_constant, is_void}
use Rattle.life_types.specs.Types.{Types}
use Rattle.life_types.specs.declared.place.Place.{Place}
use Rattle.life_types.specs.declared.ty.Ty.{Ty}
use Rattle.life_types.specs.declared.ty.Ty.TheVariants as ty
use Rattle.life_types.specs.declared.ty.TyId.{TyId}
use Rattle.life_typed.specs.BaseTypes.{type_at}
use Rattle.life_typed.specs.declared.typed_expr.Category.TheVariants as category
use Rattle.life_core.specs.Function.{Function}
use Rattle.life_core.specs.Kinds.{is_register_at}
use Rattle.life_core.specs.Operands.{Base, behind, whole}
use Rattle.life_core.specs.Step.{Element, Size}
use Rattle.life_core.specs.Touched.{base_uses, which_uses}
use Rattle.life_core.specs.declared.operand.Which.{Which}
use Rattle.life_core.specs.declared.operand.Which.TheVariants as which
use Rattle.life_core.specs.declared.operation.Operation.TheVariants as operation
use Rattle.life_proper.specs.Knowing.{known_at}
use Rattle.life_proper.specs.OperandTypes.{aims_at, keeps_const, same}
use Rattle.life_proper.specs.Placed.{element_of, is_const_base, is_number, is_number_of, type_in, type_of_element}
use Rattle.life_proper.specs.ReadyKnown.{are_known}
use Rattle.life_proper.specs.declared.known.Known.{Known}
use Rattle.life_proper.specs.declared.known.Known.TheVariants as known
use Rattle.life_proper.proofs.ReadyTests.{both_known, uses_ready}
use Rattle.life_writer.specs.Bases.{element}
use Rattle.life_writer.specs.Registers.{computed, eval, new_register}
use Rattle.life_writer.specs.Writing.{Gives, State}
use Rattle.life_elab_laws.proofs.Emitting.{new_targeted}
use Rattle.life_elab_laws.proofs.FormedVariables.{behind_place, reference_there}
use Rattle.life_elab_laws.proofs.Fronts.{IsFront, front_length, last_there}
use Rattle.life_elab_laws.proofs.Gifts.{Gift, a_number, a_place, both, held_stays}
use Rattle.life_elab_laws.proofs.Growing.{Begins, added}
use Rattle.life_elab_laws.proofs.Held.{one_there}
use Rattle.life_elab_laws.proofs.Instructions.{IsIntoOf, computed_part, emit_part, evaluates}
use Rattle.life_elab_laws.proofs.Making.{IsHeld, Keeps}
use Rattle.life_elab_laws.proofs.OperandsThere.{number_any, register_there, type_either, value_same}
use Rattle.life_elab_laws.proofs.Parts.{Part}
use Rattle.life_elab_laws.proofs.Types.{type_added}
use Rattle.life_elab_laws.proofs.WrittenLocals.{fits_below, fits_register}
use Rattle.life_elab_laws.proofs.Targets.{target_no_void, target_same, target_no_slot}
use Rattle.life_elab_laws.proofs.ObjectTypes.{is_element, is_target}
use Rattle.life_elab_laws.proofs.Elements.{element_target, element_there}
use Rattle.life_elab_laws.proofs.Shaped.{element_further, PlainStays}

-- what has elements names a local that is there
pub record IsBase (b : Base) (n : ℕ) (k : List Known) : Type 0 where
  pub local : ℕ
  pub uses : base_uses b ≡ local ∷ []
  pub below : local < n
  pub held : known_at k local ≡ known.Ready

base_there : (b : Base) (n : ℕ) (k : List Known) → IsBase b n k → are_known known.Ready k (base_uses b) ≡ true
base_there b n k h = ap (are_known known.Ready k) h.uses ∙ one_there k h.local h.held

-- which element it is: the one at an index, the first or the last
abbrev pub IsWhich : Which → ℕ → List Known → Type 0
IsWhich (which.Index r) n k = IsHeld r n k
IsWhich which.First n k = Unit {0}
IsWhich which.Last n k = Unit {0}
IsWhich which.Target n k = ⊥

which_there : (w : Which) (n : ℕ) (k : List Known) → IsWhich w n k → are_known known.Ready k (which_uses w ++ []) ≡ true
which_there (which.Index r) n k h = one_there k r h.1
which_there which.First n k h = refl
which_there which.Last n k h = refl
which_there which.Target n k h = refl

module _ (types : Types) (texts : ℕ) (fs : List Function) (f : Function) where
  -- elements of a type, which are const only where this is
  pub record IsBaseOf (t : Ty) (constant : Bool) (b : Base) : Type 0 where
    pub element : element_of types f b ≡ t
    pub held : keeps_const constant (is_const_base types f b) ≡ true

  pub base_stays : (b : Base) (n m : ℕ) (k j : List Known) → n ≤ m → IsBase b n k → Keeps f n None k j → IsBase b m j
  base_stays b n m k j h p keeps = record { local = p.local; uses = p.uses; below = omega (arith, p.below, h); held = keeps.below p.local p.below tt ∙ p.held }

  abbrev pub a_base : Ty → Bool → Gift types texts fs f Base
  a_base t constant = record { typed = IsBaseOf t constant; ready = IsBase; stays = base_stays }

  abbrev pub IsWhichOf : Which → Type 0
  IsWhichOf (which.Index r) = is_number_of types f ty.Size r ≡ true
  IsWhichOf which.First = Unit {0}
  IsWhichOf which.Last = Unit {0}
  IsWhichOf which.Target = ⊥

  pub which_stays : (w : Which) (n m : ℕ) (k j : List Known) → n ≤ m → IsWhich w n k → Keeps f n None k j → IsWhich w m j
  which_stays (which.Index r) n m k j h p keeps = held_stays types texts fs f r n m k j h p keeps
  which_stays which.First n m k j h p keeps = tt
  which_stays which.Last n m k j h p keeps = tt
  which_stays which.Target n m k j h p keeps = absurd p

  abbrev pub a_which : Gift types texts fs f Which
  a_which = record { typed = IsWhichOf; ready = IsWhich; stays = which_stays }

  -- how many elements there are
  pub size_part : (into : Option ℕ) (t : Ty) (constant : Bool) (place : Place) (b : Base) (s : State) → not (is_void t) ≡ true → IsIntoOf ty.Size s into
      → Part types texts fs f (a_base t constant) b into s (computed into ty.Size place (λ r. Size r b) s) (a_number types texts fs f ty.Size)
  size_part into t constant place b s v wanted =
      computed_part types texts fs f (a_base t constant) b into ty.Size place (λ r. Size r b) s refl wanted
      (record {
        fills = λ r n k e p. record { ready = uses_ready k (base_uses b) (r ∷ []) (base_there b n k p); after = refl };
        fine = λ r e h. record {
          given = refl;
          formed = and_from (is_number_of types f ty.Size r) (not (is_void (element_of types f b))) e (ap (λ (u : Ty). not (is_void u)) h.element ∙ v);
        };
      })

  -- whether a number is 0
  pub zero_part : (into : Option ℕ) (u : Ty) (place : Place) (n : ℕ) (s : State) → IsIntoOf ty.Bool s into
      → Part types texts fs f (a_number types texts fs f u) n into s (computed into ty.Bool place (eval (operation.IsZero n)) s) (a_number types texts fs f ty.Bool)
  zero_part into u place n s wanted =
      computed_part types texts fs f (a_number types texts fs f u) n into ty.Bool place (eval (operation.IsZero n)) s refl wanted
      (evaluates types texts fs f (a_number types texts fs f u) n ty.Bool (operation.IsZero n) (λ m k h. one_there k n h.1)
      (λ h. and_from (same ty.Bool ty.Bool) (is_number types f n) (value_same ty.Bool refl) (number_any types f u n h)))

  element_is : (t : Ty) (constant : Bool) (b : Base) (w : Which) → IsBaseOf t constant b → IsWhichOf w → type_of_element types f b w ≡ t
  element_is t constant b (which.Index r) h number = ap (λ (c : Bool). if c then element_of types f b else ty.Void) number ∙ h.element
  element_is t constant b which.First h number = h.element
  element_is t constant b which.Last h number = h.element
  element_is t constant b which.Target h number = absurd number

  -- an element, which is reached through a register
  pub element_part : (few : Types) (place : Place) (id : TyId) (constant : Bool) (t : Ty) (x : Base × Which) (s : State) → IsFront few.types types.types → PlainStays few types → IsFront few.types s.types.types → type_at few id ≡ t → is_element few t ≡ true
      → Part types texts fs f (both types texts fs f (a_base t constant) a_which) x None s (element place (category.Place id constant) x.0 x.1 s) (a_place types texts fs f t constant)
  element_part few place id constant t x s front stays table here v =
      emit_part types texts fs f (both types texts fs f (a_base t constant) a_which) x None s w place (λ r. Element (whole r) x.0 x.1) (behind w.given)
      (a_place types texts fs f t constant)
      (new_targeted types f place reference s fits (fits_below few s.types (front_length few.types s.types.types table) reference (ap (is_target few) here ∙ element_target few t v)))
      (λ b h. let at = at_reference b in (
        record {
          given = refl;
          formed =
              and_from (aims_at types (type_in types f (whole w.given)) (type_of_element types f x.0 x.1)) _
              (ap (λ (u : Ty). aims_at types u (type_of_element types f x.0 x.1)) at ∙ ap (same (ty_of types id)) (element_is t constant x.0 x.1 h.0 h.1) ∙ ap (λ (u : Ty). same u t) later ∙ target_same few t (element_target few t v))
              (ap (λ (u : Ty). keeps_const (is_constant u) (is_const_base types f x.0)) at ∙ h.0.held);
        },
        behind_place types texts fs f (whole w.given) reference id constant t (record { typed = at; kept = kept_reference b }) refl refl refl later (target_no_void few t (element_target few t v)),
      ))
      (λ r n k e p. record { ready = uses_ready k (base_uses x.0 ++ (which_uses x.1 ++ [])) (r ∷ []) (both_known known.Ready k (base_uses x.0) (which_uses x.1 ++ []) (base_there x.0 n k p.0) (which_there x.1 n k p.1)); after = refl })
      (λ k lt e. record { local = w.given; uses = refl; below = lt; held = e })
    where
      reference : Ty
      reference = ty.Reference id constant

      w : Gives ℕ
      w = new_register place (ty.Reference id constant) s

      later : ty_of types id ≡ t
      later = element_there few types front id (ap (is_element few) here ∙ v) ∙ here

      -- in the finished table it may be pointed to too
      wide : is_target types t ≡ true
      wide = element_target types t (element_further few types front stays t v)

      fits : fits_register types (ty.Reference id constant) ≡ true
      fits = ap (is_target types) (sym (type_either types id) ∙ later) ∙ wide

      at_reference : Begins types f (new_register place (ty.Reference id constant) s).state → type_in types f (whole (length s.locals)) ≡ ty.Reference id constant
      at_reference b =
          let l = added place (ty.Reference id constant) s in
          reference_there types f (length s.locals) l id constant (b.locals (length s.locals) l (last_there s.locals l)) (b.table l.ty.0 (ty.Reference id constant) (type_added s.types.types (ty.Reference id constant))) (target_no_slot types (ty_of types id) (ap (is_target types) later ∙ wide))

      kept_reference : Begins types f (new_register place (ty.Reference id constant) s).state → is_register_at f (length s.locals) ≡ true
      kept_reference b = let l = added place (ty.Reference id constant) s in register_there types f (length s.locals) l (b.locals (length s.locals) l (last_there s.locals l)) refl
