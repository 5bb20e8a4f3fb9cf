-- A variable that is given the element of a turn, part by part.
use Rattle.std.proofs.Common.{◌≡◌, ℕ, Bool, true, false, Option, Some, None, Result, refl, sym, ap, ◌∙◌}
use Rattle.std.specs.Prelude.{◌&&◌, if◌then◌else◌}
use Rattle.life_types.specs.Types.{Types, class}
use Rattle.life_types.specs.contracts.ty.TyPartialEq.TheImpl.{ghosts as compared}
use Rattle.life_types.specs.declared.memory.NoMemory.{NoMemory}
use Rattle.life_types.specs.declared.place.Place.{Place}
use Rattle.life_types.specs.declared.ty.Class.{Class}
use Rattle.life_types.specs.declared.ty.Class.TheVariants as classes
use Rattle.life_types.specs.declared.ty.Ty.{Ty}
use Rattle.life_types.specs.declared.ty.Ty.TheVariants as ty
use Rattle.life_types.specs.declared.ty.TyId.{TyId}
use Rattle.life_typed.specs.BaseTypes.{type_at}
use Rattle.life_typed.specs.declared.typed_program.TypedLocal.{TypedLocal}
use Rattle.life_core.specs.Operands.{Location, Operand, Source, Whole, behind}
use Rattle.life_core.specs.Step.{Step}
use Rattle.life_core.specs.declared.instr.Form.TheVariants.{Plain}
use Rattle.life_writer.proofs.Begun.{finished, given_as, pointer_given}
use Rattle.life_writer.proofs.Giving.{answers_as}
use Rattle.life_writer.specs.Answers.{Answers}
use Rattle.life_writer.specs.Around.{Around, type_of}
use Rattle.life_writer.specs.Building.{Destination}
use Rattle.life_writer.specs.Giving.{copied, given, given_in, value_by}
use Rattle.life_writer.specs.Initialising.{initialised}
use Rattle.life_writer.specs.OwnerForms.{copied_at}
use Rattle.life_writer.specs.Pointers.{aimed, pointed}
use Rattle.life_writer.specs.Registers.{computed, conversion, converted, load}
use Rattle.life_writer.specs.Uses.{Uses, filled, lived, saved}
use Rattle.life_writer.specs.Using.{operand, pointing_by, value}
use Rattle.life_writer.specs.Writing.{State, Gives, gives, ◌>>◌, mapped}
use Rattle.life_elab.specs.Declarations.{variable}
use Rattle.life_elab.specs.RangeForms.{IsSeenWhole, element_at, element_value, given_element}

-- ---- the value of the element

pub value_converted : (own t : Ty) (colon : Place) (it : ℕ) (s s1 now : State) (from : Operand) (r : ℕ) (answer : Result ℕ NoMemory) → from ≡ behind it → computed None own colon (load from) s ≡ gives r s1
    → Answers (λ x. x) answer (converted own t colon r s1) now → Answers (λ x. x) answer (element_value own colon it t s) now
value_converted own t colon it s s1 now from r answer is read given =
    answers_as (λ x. x) answer _ _ now
    (ap (λ (o : Operand). computed None own colon (load o) s >> λ r s. converted own t colon r s) (sym is) ∙ ap (λ (w : Gives ℕ). w >> λ r s. converted own t colon r s) read) given

either : {A : Type 0} (b : Bool) (x : A) → (if b then x else x) ≡ x
either true x = refl
either false x = refl

-- a conversion behind a value, or only where the types differ
converted_if : (b : Bool) (t : Ty) (colon : Place) (w : Gives ℕ)
    → (w >> λ r s. if b then gives r s else computed None t colon (conversion r) s) ≡ (if b then w else (w >> λ r s. computed None t colon (conversion r) s))
converted_if true t colon w = refl
converted_if false t colon w = refl

-- a string or a vector is seen by a pointer to the whole of it
whole_seen : (t : Ty) (e : Uses) (s : State) → IsSeenWhole t → pointing_by t e s ≡ mapped (λ o. aimed (Whole o)) (operand e s)
whole_seen ty.Text e s is = refl
whole_seen (ty.Vector x) e s is = refl
whole_seen ty.Void e s is = elim is [ ]
whole_seen ty.Bool e s is = elim is [ ]
whole_seen ty.Char e s is = elim is [ ]
whole_seen ty.Int e s is = elim is [ ]
whole_seen ty.Long e s is = elim is [ ]
whole_seen ty.Size e s is = elim is [ ]
whole_seen ty.View e s is = elim is [ ]
whole_seen (ty.Unique x) e s is = elim is [ ]
whole_seen (ty.Raw x constant) e s is = elim is [ ]
whole_seen (ty.Reference x constant) e s is = elim is [ ]
whole_seen (ty.Iterator x constant) e s is = elim is [ ]
whole_seen (ty.Span x constant) e s is = elim is [ ]
whole_seen (ty.Struct x) e s is = elim is [ ]

module _ (types : Types) (colon : Place) (it : ℕ) (x : TyId × Bool) where
  abbrev element : Uses
  element = element_at types colon it (Some x)

  abbrev own : Ty
  own = type_at types x.0

  pub element_placed : (s : State) (o : Operand) → o ≡ behind it → element.at s ≡ gives o s
  element_placed s o is = ap (λ (y : Operand). gives y s) (sym is)

  value_read : (t : Ty) (s : State) → element_value own colon it t s ≡ value element colon t None s
  value_read t s = converted_if (compared.eq own t) t colon (computed None own colon (load (behind it)) s)

  -- ---- what is given the element, by its class

  module _ (t : Ty) (k : Class) (d : Destination) (s s1 now : State) (answer : Result ℕ NoMemory) (same : k ≡ class (Some t)) where
    pub value_from_element : (u : Ty) (r : ℕ) → k ≡ classes.Value → u ≡ own → element_value u colon it t s ≡ gives r s1 → Answers (λ x. x) answer (saved r d s1) now → Answers (λ x. x) answer (given_in element t colon d s) now
    value_from_element u r is own_is first last =
        finished (given element t colon s) (saved r) d s1 now answer
        (given_as element t colon s k classes.Value same is
        ∙ ap (λ (call : Option (State → Gives (Location → Step))). value_by call colon (value element colon t None) s) (either (compared.eq own t && false) None)
        ∙ ap (mapped saved) (sym (value_read t s) ∙ ap (λ (v : Ty). element_value v colon it t s) (sym own_is) ∙ first))
        last

    pub pointer_from_element : (u : Ty) (source : Source) → k ≡ classes.Pointer → u ≡ own → source ≡ Whole (behind it) → IsSeenWhole u → Answers (λ x. x) answer (filled colon (pointed (aimed source)) d s) now
        → Answers (λ x. x) answer (given_in element t colon d s) now
    pointer_from_element u source is own_is aims seen last =
        finished (given element t colon s) (filled colon (pointed (aimed source))) d s now answer
        (pointer_given element t colon s s k (aimed (Whole (behind it))) same is (ap (λ (v : Ty). pointing_by v element s) (sym own_is) ∙ whole_seen u element s seen)
        ∙ ap (λ (from : Source). gives (filled colon (pointed (aimed from))) s) (sym aims))
        last

    pub owner_from_element : (from : Operand) → k ≡ classes.Owner → from ≡ behind it → Answers (λ x. x) answer (lived Plain (copied from) d s) now → Answers (λ x. x) answer (given_in element t colon d s) now
    owner_from_element from is copies last =
        finished (given element t colon s) (lived Plain (copied from)) d s now answer
        (given_as element t colon s k classes.Owner same is ∙ ap (λ (o : Operand). gives (lived Plain (copied o)) s) (sym copies)) last

    pub struct_from_element : (from : Operand) → k ≡ classes.Aggregate → from ≡ behind it → Answers (λ x. x) answer (lived Plain (copied from) d s) now → Answers (λ x. x) answer (given_in element t colon d s) now
    struct_from_element from is copies last =
        finished (given element t colon s) (lived Plain (copied from)) d s now answer
        (given_as element t colon s k classes.Aggregate same is ∙ ap (λ (o : Operand). gives (lived Plain (copied o)) s) (sym copies)) last

-- ---- the variable of a turn, by the class of its type

module _ (a : Around) (v : TypedLocal) (colon : Place) (it : ℕ) (e : Uses) (t : Ty) (k : Class) (s now : State) (type_is : t ≡ type_of a v.ty) (same : k ≡ class (Some t)) where
  -- what is known of the class
  declared_as : (known : Class) → k ≡ known → given_element a known v colon it e s ≡ given_element a (class (Some (type_of a v.ty))) v colon it e s
  declared_as known is = ap (λ (x : Class). given_element a x v colon it e s) (sym is ∙ same ∙ ap (λ (u : Ty). class (Some u)) type_is)

  module _ (d : Destination) (home_is : d ≡ variable a v) where
    given_there : (r : ℕ) → initialised a e t colon d s ≡ gives r now → now ≡ given_element a classes.Value v colon it e s
    given_there r given =
        sym
        (ap (λ (u : Ty). (initialised a e u colon (variable a v) s).state) (sym type_is)
        ∙ ap (λ (y : Destination). (initialised a e t colon y s).state) (sym home_is)
        ∙ ap (λ (w : Gives ℕ). w.state) given)

    pub value_declared : (r : ℕ) → k ≡ classes.Value → initialised a e t colon d s ≡ gives r now → now ≡ given_element a (class (Some (type_of a v.ty))) v colon it e s
    value_declared r is given = given_there r given ∙ declared_as classes.Value is

    pub pointer_declared : (r : ℕ) → k ≡ classes.Pointer → initialised a e t colon d s ≡ gives r now → now ≡ given_element a (class (Some (type_of a v.ty))) v colon it e s
    pointer_declared r is given = given_there r given ∙ declared_as classes.Pointer is

    pub owner_declared : k ≡ classes.Owner → now ≡ (lived Plain (copied_at colon (behind it)) d s).state → now ≡ given_element a (class (Some (type_of a v.ty))) v colon it e s
    owner_declared is given = given ∙ ap (λ (y : Destination). (lived Plain (copied_at colon (behind it)) y s).state) home_is ∙ declared_as classes.Owner is

    pub struct_declared : k ≡ classes.Aggregate → now ≡ (lived Plain (copied_at colon (behind it)) d s).state → now ≡ given_element a (class (Some (type_of a v.ty))) v colon it e s
    struct_declared is given = given ∙ ap (λ (y : Destination). (lived Plain (copied_at colon (behind it)) y s).state) home_is ∙ declared_as classes.Aggregate is
