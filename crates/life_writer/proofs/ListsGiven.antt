-- Lists as what is given, bound and assigned.
use Rattle.std.proofs.Common.{◌≡◌, ℕ, List, Some, refl, sym, ap, ◌∙◌}
use Rattle.life_types.specs.Types.{class}
use Rattle.life_types.specs.declared.place.Place.{Place}
use Rattle.life_types.specs.declared.ty.Class.{Class}
use Rattle.life_types.specs.declared.ty.Class.TheVariants as classes
use Rattle.life_types.specs.declared.ty.Ty.{Ty}
use Rattle.life_types.specs.declared.ty.Ty.TheVariants as ty
use Rattle.life_types.specs.declared.ty.TyId.{TyId}
use Rattle.life_typed.specs.Delimiters.{DelimitersForm}
use Rattle.life_core.specs.Operands.{Operand, object_named}
use Rattle.life_writer.specs.Around.{Around, type_of}
use Rattle.life_writer.specs.Assigning.{Target, acted, assigned, moved}
use Rattle.life_writer.specs.Building.{Destination}
use Rattle.life_writer.specs.Giving.{aimed_at, bound, copied, given_in}
use Rattle.life_writer.specs.Lists.{built_type, list_object, listed}
use Rattle.life_writer.specs.Temporaries.{scoped, temporary}
use Rattle.life_writer.specs.Uses.{Remaining, Uses}
use Rattle.life_writer.specs.Writing.{State, Gives, gives, ◌>>◌, mapped}
use Rattle.life_writer.proofs.Assigned.{owner_assigned, struct_assigned}
use Rattle.life_writer.proofs.Begun.{given_as, temporary_bound}

-- what is no pointer is the type that its list builds
built_itself : (a : Around) (t : Ty) → (class (Some t) ≡ classes.Pointer → ⊥) → built_type a t ≡ t
built_itself a ty.Void other = refl
built_itself a ty.Bool other = refl
built_itself a ty.Char other = refl
built_itself a ty.Int other = refl
built_itself a ty.Long other = refl
built_itself a ty.Size other = refl
built_itself a ty.Text other = refl
built_itself a ty.View other = refl
built_itself a (ty.Vector x) other = refl
built_itself a (ty.Unique x) other = refl
built_itself a (ty.Raw x y) other = refl
built_itself a (ty.Reference x y) other = absurd (other refl)
built_itself a (ty.Iterator x y) other = refl
built_itself a (ty.Span x y) other = refl
built_itself a (ty.Struct n) other = refl

module _ (a : Around) (opening : Place) (us : List Uses) (d : DelimitersForm) (behind : Place) (s : State) where
  -- ---- what is given

  pub owner_listed : (t : Ty) (goal : Destination) (k : Class) → k ≡ class (Some t) → k ≡ classes.Owner → given_in (listed a t opening us d) t behind goal s ≡ list_object a t opening us d goal s
  owner_listed t goal k same is = ap (λ (w : Gives Remaining). w >> λ rest s. rest goal s) (given_as (listed a t opening us d) t behind s k classes.Owner same is)

  pub struct_listed : (t : Ty) (goal : Destination) (k : Class) → k ≡ class (Some t) → k ≡ classes.Aggregate → given_in (listed a t opening us d) t behind goal s ≡ list_object a t opening us d goal s
  struct_listed t goal k same is = ap (λ (w : Gives Remaining). w >> λ rest s. rest goal s) (given_as (listed a t opening us d) t behind s k classes.Aggregate same is)

  -- ---- what a reference is bound to

  pub list_bound : (target : TyId) (t : Ty) (now : State) (x : ℕ) (o : Operand) → t ≡ type_of a target → given_in (listed a t opening us d) t behind (scoped opening t) s ≡ gives x now → o ≡ object_named x
      → bound a scoped (listed a (type_of a target) opening us d) target behind s ≡ gives (aimed_at opening o) now
  list_bound target t now x o type_is given named =
      temporary_bound a scoped (listed a (type_of a target) opening us d) target t behind (scoped opening t) s now x o refl type_is refl
      (ap (λ (u : Ty). given_in (listed a u opening us d) t behind (scoped opening t) s) (sym type_is) ∙ given) named

  -- ---- what is assigned

  module _ (t : Ty) (to : Target) (equals : Place) (k : Class) (of : k ≡ class (Some t)) (s1 now : State) (x : ℕ) where
    built_first : (class (Some t) ≡ classes.Pointer → ⊥) → list_object a t opening us d (temporary opening t) s ≡ gives x s1
        → list_object a (built_type a t) opening us d (temporary opening t) s ≡ gives x s1
    built_first other first = ap (λ (u : Ty). list_object a u opening us d (temporary opening t) s) (built_itself a t other) ∙ first

    pub owner_list_assigned : k ≡ classes.Owner → list_object a t opening us d (temporary opening t) s ≡ gives x s1 → now ≡ acted (gives (moved x) s1) to equals
        → now ≡ assigned (listed a (built_type a t) opening us d) t to equals behind s
    owner_list_assigned is first written =
        let other : class (Some t) ≡ classes.Pointer → ⊥ = λ pointer. (let both : classes.Owner ≡ classes.Pointer = sym is ∙ of ∙ pointer in cc) in
        owner_assigned (listed a (built_type a t) opening us d) t to equals behind s k of s1 now (moved x) is (ap (mapped moved) (built_first other first)) written

    pub struct_list_assigned : (o : Operand) → k ≡ classes.Aggregate → list_object a t opening us d (temporary opening t) s ≡ gives x s1 → o ≡ object_named x → now ≡ acted (gives (copied o) s1) to equals
        → now ≡ assigned (listed a (built_type a t) opening us d) t to equals behind s
    struct_list_assigned o is first named written =
        let other : class (Some t) ≡ classes.Pointer → ⊥ = λ pointer. (let both : classes.Aggregate ≡ classes.Pointer = sym is ∙ of ∙ pointer in cc) in
        struct_assigned (listed a (built_type a t) opening us d) t to equals behind s k of s1 now (copied o) is
        (ap (mapped (λ x. copied (object_named x))) (built_first other first) ∙ ap (λ (y : Operand). gives (copied y) s1) (sym named)) written
