-- Assignments by the class of the target.
use Rattle.std.proofs.Common.{◌≡◌, ℕ, Option, None, Some, sym, ap, ◌∙◌}
use Rattle.life_types.specs.Types.{class}
use Rattle.life_types.specs.declared.place.Place.{Place}
use Rattle.life_types.specs.declared.ty.Class.{Class}
use Rattle.life_types.specs.declared.ty.Class.TheVariants as classes
use Rattle.life_types.specs.declared.ty.Ty.{Ty}
use Rattle.life_typed.specs.TypedForm.{Typed, whole}
use Rattle.life_core.specs.Operands.{Location, Operand}
use Rattle.life_core.specs.Step.{Save}
use Rattle.life_writer.specs.Answers.{Answered}
use Rattle.life_writer.specs.Around.{Around, own_type}
use Rattle.life_writer.specs.Assigning.{Target, acted, assigned, assigned_by, moved, owner_by, replaced_by, struct_by}
use Rattle.life_writer.specs.ExpressionForms.{uses}
use Rattle.life_writer.specs.Pointers.{Pointing, pointed}
use Rattle.life_writer.specs.Targets.{place_target}
use Rattle.life_writer.specs.Uses.{Act, Uses}
use Rattle.life_writer.specs.Using.{pointing, value}
use Rattle.life_writer.specs.Writing.{State, Gives, gives, ◌>>◌, emit, mapped}

-- what is done to an owner that is assigned to
pub replaced_is : {X : Type 0} (view : X → Act) (x : X) (by : Option (State → Gives Act)) (made : State → Gives ℕ) (s now : State) → Answered view x by s now → replaced_by by made s ≡ gives (view x) now
replaced_is view x None made s now h = absurd h
replaced_is view x (Some act) made s now h = h

pub not_replaced : (by : Option (State → Gives Act)) (made : State → Gives ℕ) (s s1 now : State) (x : ℕ) → by ≡ None → s1 ≡ s → made s1 ≡ gives x now → replaced_by by made s ≡ gives (moved x) now
not_replaced by made s s1 now x none same given =
    ap (λ (y : Option (State → Gives Act)). replaced_by y made s) none ∙ ap (λ (z : State). mapped moved (made z)) (sym same) ∙ ap (mapped moved) given

-- what is done to a target, once it is found
pub acted_on : (act : Act) (to : Target) (equals : Place) (s s1 now : State) (o : Operand) → to.operand s ≡ gives o s1 → now ≡ act equals o s1 → now ≡ acted (gives act s) to equals
acted_on act to equals s s1 now o found written = written ∙ sym (ap (λ (w : Gives Operand). act equals w.given w.state) found)

-- what is written of a part is written of the expression that it is
pub assigned_as : (a : Around) (e known target place : Typed) (t : Ty) (equals behind : Place) (s now : State) → e ≡ known → t ≡ own_type target.ty → target ≡ place
    → now ≡ assigned (uses a (whole e)) t (place_target (uses a (whole target))) equals behind s → now ≡ assigned (uses a (whole known)) (own_type place.ty) (place_target (uses a (whole place))) equals behind s
assigned_as a e known target place t equals behind s now same of there written =
    written
    ∙ ap (λ (x : Typed). assigned (uses a (whole x)) t (place_target (uses a (whole target))) equals behind s) same
    ∙ ap (λ (u : Ty). assigned (uses a (whole known)) u (place_target (uses a (whole target))) equals behind s) of
    ∙ ap (λ (y : Typed). assigned (uses a (whole known)) (own_type y.ty) (place_target (uses a (whole y))) equals behind s) there

-- ---- by the class of the target

module _ (e : Uses) (t : Ty) (to : Target) (equals behind : Place) (s : State) (k : Class) (of : k ≡ class (Some t)) where
  by_class : (known : Class) → k ≡ known → assigned_by known e t to equals behind s ≡ assigned e t to equals behind s
  by_class known is = ap (λ (x : Class). assigned_by x e t to equals behind s) (sym is ∙ of)

  pub value_assigned : (s1 s2 now : State) (r : ℕ) (o : Operand) → k ≡ classes.Value → value e behind t None s ≡ gives r s1 → to.operand s1 ≡ gives o s2 → now ≡ emit equals (Save o r) s2
      → now ≡ assigned e t to equals behind s
  value_assigned s1 s2 now r o is first second written =
      written
      ∙ sym (ap (λ (w : Gives ℕ). to.operand w.state >> λ o s. emit equals (Save o w.given) s) first ∙ ap (λ (w : Gives Operand). emit equals (Save w.given r) w.state) second)
      ∙ by_class classes.Value is

  pub pointer_assigned : (s1 s2 now : State) (p : Pointing) (l : Location) → k ≡ classes.Pointer → pointing e s ≡ gives p s1 → to.location s1 ≡ gives l s2 → now ≡ emit e.place (pointed p l) s2
      → now ≡ assigned e t to equals behind s
  pointer_assigned s1 s2 now p l is first second written =
      written
      ∙ sym (ap (λ (w : Gives Pointing). to.location w.state >> λ l s. emit e.place (pointed w.given l) s) first ∙ ap (λ (w : Gives Location). emit e.place (pointed p w.given) w.state) second)
      ∙ by_class classes.Pointer is

  pub owner_assigned : (s1 now : State) (act : Act) → k ≡ classes.Owner → owner_by e.category e t s ≡ gives act s1 → now ≡ acted (gives act s1) to equals → now ≡ assigned e t to equals behind s
  owner_assigned s1 now act is first written = written ∙ sym (ap (λ (w : Gives Act). acted w to equals) first) ∙ by_class classes.Owner is

  pub struct_assigned : (s1 now : State) (act : Act) → k ≡ classes.Aggregate → struct_by e.category e t s ≡ gives act s1 → now ≡ acted (gives act s1) to equals → now ≡ assigned e t to equals behind s
  struct_assigned s1 now act is first written = written ∙ sym (ap (λ (w : Gives Act). acted w to equals) first) ∙ by_class classes.Aggregate is
