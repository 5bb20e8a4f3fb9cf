-- Operands over a table that has grown: each is what it was.
use Rattle.std.proofs.Common.{◌≡◌, ℕ, Bool, Option, None, Some, Ok, List, slice_get, refl, sym, ap, subst, ◌∙◌}
use Rattle.life_types.specs.Types.{Types, HasParts, HasType}
use Rattle.life_types.specs.declared.place.Place.{Place}
use Rattle.life_types.specs.declared.ty.Ty.{Ty}
use Rattle.life_types.specs.declared.ty.Ty.TheVariants as ty
use Rattle.life_types.specs.declared.ty.TyId.{TyId}
use Rattle.life_typing_laws.specs.Sound.{Grows}
use Rattle.life_tree.specs.declared.identifier.Identifier.{Identifier}
use Rattle.life_typed.specs.BaseTypes.{type_at}
use Rattle.life_typed.specs.TypedForm.{Form, Typed, local}
use Rattle.life_typed.specs.declared.typed_program.TypedLocal.{TypedLocal}
use Rattle.life_names.specs.Environment.{Scope, SignatureView, StructureView, meaning}
use Rattle.life_names.specs.declared.environment.Entity.{Entity}
use Rattle.life_names.specs.declared.environment.Entity.TheVariants as entity
use Rattle.life_type_expr.specs.Named.{function_meant, function_named, local_meant, local_named, numbered_as, structure_meant, structure_named}
use Rattle.life_type_expr.specs.Operands.{answer_of, variable, variable_of}
use Rattle.life_typing_laws.proofs.Growing.{same_type_at}

-- ---- names

numbered_there : {A : Type 0} (things : List A) (number : ℕ) (place : Place) (found : Option A) (x : ℕ × A) → slice_get things number ≡ found → numbered_as number place found ≡ Ok x
    → (number ≡ x.0) × (slice_get things x.0 ≡ Some x.1)
numbered_there things number place None x is e = absurd (cc)
numbered_there {A = A} things number place (Some y) x is e =
    let same : ◌≡◌ {A = ℕ × A} (number, y) x = cc in
    let number_is : number ≡ x.0 = ap (λ (z : ℕ × A). z.0) same in
    let thing_is : y ≡ x.1 = ap (λ (z : ℕ × A). z.1) same in
    (number_is, subst (λ (n : ℕ). slice_get things n ≡ Some x.1) number_is (is ∙ ap Some thing_is))

-- a name that stands for a variable means it
pub record IsLocal (k : ℕ) (scope : Scope) (x : ℕ × TypedLocal) : Type 0 where
  pub means : slice_get scope.visible k ≡ Some (entity.Local x.0)
  pub there : slice_get scope.locals x.0 ≡ Some x.1

pub local_is : (name : Identifier) (scope : Scope) (x : ℕ × TypedLocal) → local_named name scope ≡ Ok x → IsLocal name.id.0 scope x
local_is name scope x e = go (slice_get scope.visible name.id.0) refl e
  where
    of : (m : Entity) → slice_get scope.visible name.id.0 ≡ Some m → local_meant m name.place scope ≡ Ok x → IsLocal name.id.0 scope x
    of entity.Unseen is e = absurd (cc)
    of (entity.Structure number) is e = absurd (cc)
    of (entity.Function number) is e = absurd (cc)
    of (entity.Local number) is e =
        let found = numbered_there scope.locals number name.place (slice_get scope.locals number) x refl e in
        record { means = is ∙ ap (λ (n : ℕ). Some (entity.Local n)) found.0; there = found.1 }

    go : (m : Option Entity) → slice_get scope.visible name.id.0 ≡ m → local_named name scope ≡ Ok x → IsLocal name.id.0 scope x
    go None is e = absurd (never (rw is at e))
      where
        never : local_meant entity.Unseen name.place scope ≡ Ok x → ⊥
        never e = cc
    go (Some m) is e = of m is (rw is at e)

pub function_is : (name : Identifier) (scope : Scope) (x : ℕ × SignatureView) → function_named name scope ≡ Ok x → slice_get scope.functions x.0 ≡ Some x.1
function_is name scope x e = of (meaning scope name.id) e
  where
    of : (m : Entity) → function_meant m name.place scope ≡ Ok x → slice_get scope.functions x.0 ≡ Some x.1
    of entity.Unseen e = absurd (cc)
    of (entity.Structure number) e = absurd (cc)
    of (entity.Function number) e = (numbered_there scope.functions number name.place (slice_get scope.functions number) x refl e).1
    of (entity.Local number) e = absurd (cc)

pub structure_is : (name : Identifier) (scope : Scope) (x : ℕ × StructureView) → structure_named name scope ≡ Ok x → slice_get scope.structs x.0 ≡ Some x.1
structure_is name scope x e = of (meaning scope name.id) e
  where
    of : (m : Entity) → structure_meant m name.place scope ≡ Ok x → slice_get scope.structs x.0 ≡ Some x.1
    of entity.Unseen e = absurd (cc)
    of (entity.Structure number) e = (numbered_there scope.structs number name.place (slice_get scope.structs number) x refl e).1
    of (entity.Function number) e = absurd (cc)
    of (entity.Local number) e = absurd (cc)

-- ---- what they name

pub answer_form : (types : Types) (t : Ty) (place : Place) (form : Form) → (answer_of t types place form).form ≡ form
answer_form types (ty.Reference target constant) place form = refl
answer_form types _ place form = refl

module _ (old new : Types) (grows : Grows old new) where
  -- the result of a call
  answer_as : (t : Ty) (place : Place) (form : Form) → HasParts old t → answer_of t old place form ≡ answer_of t new (answer_of t old place form).place (answer_of t old place form).form
  answer_as (ty.Reference target constant) place form there = rw (same_type_at old new target grows there) refl
  answer_as _ place form there = refl

  pub answer_stays : (id : TyId) (place : Place) (form : Form) (e : Typed) → HasType old id → HasParts old (type_at old id) → answer_of (type_at old id) old place form ≡ e
      → e ≡ answer_of (type_at new id) new e.place e.form
  answer_stays id place form e there target is =
      subst (λ (x : Typed). x ≡ answer_of (type_at new id) new x.place x.form) is
      (subst (λ (t : Ty). answer_of (type_at old id) old place form ≡ answer_of t new (answer_of (type_at old id) old place form).place (answer_of (type_at old id) old place form).form)
      (sym (same_type_at old new id grows there)) (answer_as (type_at old id) place form target))

  -- a variable
  variable_as : (t : Ty) (id : TyId) (constant : Bool) (place : Place) (form : Form) → HasType old id → HasParts old t
      → variable_of t old id constant place form ≡ variable_of t new id constant (variable_of t old id constant place form).place (variable_of t old id constant place form).form
  variable_as (ty.Reference target constant_target) id constant place form there target_there = rw (same_type_at old new target grows target_there) refl
  variable_as _ id constant place form there target_there = rw (same_type_at old new id grows there) refl

  pub variable_form : (t : Ty) (id : TyId) (constant : Bool) (place : Place) (form : Form) → (variable_of t old id constant place form).form ≡ form
  variable_form (ty.Reference target constant_target) id constant place form = refl
  variable_form _ id constant place form = refl

  pub variable_stays : (x : ℕ × TypedLocal) (place : Place) (e : Typed) → HasType old x.1.ty → HasParts old (type_at old x.1.ty) → variable old place x ≡ e
      → (e.form ≡ local x.0) × (e ≡ variable new e.place x)
  variable_stays x place e there parts is = (
    subst (λ (y : Typed). y.form ≡ local x.0) is (variable_form (type_at old x.1.ty) x.1.ty x.1.constant place (local x.0)),
    subst (λ (y : Typed). y ≡ variable new y.place x) is (again (sym (same_type_at old new x.1.ty grows there))),
  )
    where
      again : type_at old x.1.ty ≡ type_at new x.1.ty → variable old place x ≡ variable new (variable old place x).place x
      again same =
          subst (λ (t : Ty). variable old place x ≡ variable_of t new x.1.ty x.1.constant (variable old place x).place (local x.0)) same
          (subst (λ (f : Form). variable old place x ≡ variable_of (type_at old x.1.ty) new x.1.ty x.1.constant (variable old place x).place f) (variable_form (type_at old x.1.ty) x.1.ty x.1.constant place (local x.0))
          (variable_as (type_at old x.1.ty) x.1.ty x.1.constant place (local x.0) there parts))
