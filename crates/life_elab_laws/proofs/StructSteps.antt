-- Places of members, and copies of structs.
use Rattle.std.proofs.Common.{◌≡◌, ◌&&◌, ◌++◌, nat_eq, ℕ, Bool, true, false, not, if◌then◌else◌, List, [], ◌∷◌, Option, Some, None, refl, ap, ◌∙◌, slice_get, is_some, sym, subst}
use Rattle.std.proofs.lemmas.Bool.{and_from, false≢true}
use Rattle.std.specs.List.{starts_with}
use Rattle.life_types.specs.Pointees.{ty_of}
use Rattle.life_types.specs.Trees.{holds_unique, members_at}
use Rattle.life_types.specs.TypeTests.{is_pointer}
use Rattle.life_types.specs.Types.{Types}
use Rattle.life_types.specs.declared.place.Place.{Place}
use Rattle.life_types.specs.declared.ty.Ty.{Ty}
use Rattle.life_types.specs.declared.ty.Ty.TheVariants as ty
use Rattle.life_types.specs.declared.ty.TyId.{TyId}
use Rattle.life_core.specs.Function.{Function}
use Rattle.life_core.specs.Operands.{Name, Operand, Through, Location}
use Rattle.life_core.specs.Step.{Copy}
use Rattle.life_core.specs.Touched.{place_uses}
use Rattle.life_pset.specs.Shapes.{local_type, location_type, member_of, member_type, members_type, operand_type, target_type, tree_if, ty_if}
use Rattle.life_proper.specs.OperandTypes.{keeps_const, same}
use Rattle.life_proper.specs.WellFormed.{is_itself}
use Rattle.life_proper.specs.Placed.{is_const_place, is_place, type_of, object_at, type_in}
use Rattle.life_proper.specs.declared.known.Known.{Known}
use Rattle.life_proper.specs.declared.known.Known.TheVariants as known
use Rattle.life_proper.proofs.ReadyTests.{both_known, uses_ready}
use Rattle.life_writer.specs.Using.{with_member, location_in}
use Rattle.life_writer.specs.Writing.{State, emit, gives}
use Rattle.life_elab_laws.proofs.Gifts.{Gift, IsPlaceOf, nothing, IsAt}
use Rattle.life_elab_laws.proofs.Held.{place_there}
use Rattle.life_elab_laws.proofs.Instructions.{acted_part}
use Rattle.life_elab_laws.proofs.Making.{IsPlace, keeps_all, IsPointer, is_named, lies_by, fills_in, lies_in}
use Rattle.life_elab_laws.proofs.Parts.{Part}
use Rattle.life_elab_laws.proofs.Shaping.{IsFineStep}
use Rattle.life_elab_laws.proofs.CopiedStructs.{is_copied_struct, struct_copied}
use Rattle.life_elab_laws.proofs.OperandsThere.{type_either}
use Rattle.life_elab_laws.proofs.StructTypes.{HasStructs}
use Rattle.life_elab_laws.proofs.Types.{same_type}
use Rattle.life_core.specs.Kinds.{is_register_at}
use Rattle.life_core.specs.declared.program.Local.{Local}
use Rattle.life_elab_laws.proofs.Growing.{Begins}
use Rattle.life_elab_laws.proofs.Locations.{is_location}

void_struct : (number : ℕ) → ty.Void ≡ ty.Struct number → ⊥
void_struct number e = cc

-- ---- a member of a place is a place, and no variable itself

member_uses : (m : ℕ) (o : Operand) → place_uses (with_member m o) ≡ place_uses o
member_uses m (Name l) = refl
member_uses m (Through p members) = refl

pub member_there : (m : ℕ) (o : Operand) (n : ℕ) (k : List Known) → IsPlace o n k → IsPlace (with_member m o) n k
member_there m o n k h = record { local = h.local; uses = member_uses m o ∙ h.uses; below = h.below; held = h.held }

members_further : (types : Types) (id : Option TyId) (ms : List ℕ) (m : ℕ) → members_type types id (ms ++ m ∷ []) ≡ member_type types (members_type types id ms) m
members_further types id [] m = refl
members_further types id (k ∷ ms) m = members_further types (member_type types id k) ms m

module _ (types : Types) (texts : ℕ) (fs : List Function) (f : Function) where
  operand_further : (m : ℕ) (o : Operand) → operand_type types f (with_member m o) ≡ member_type types (operand_type types f o) m
  operand_further m (Name l) = members_further types (local_type types f l.local) l.members m
  operand_further m (Through p members) = members_further types (target_type types (location_type types f p)) members m

  place_further : (m : ℕ) (o : Operand) → is_place types f (with_member m o) ≡ is_place types f o
  place_further m (Name l) = refl
  place_further m (Through p members) = refl

  const_further : (m : ℕ) (o : Operand) → is_const_place types f (with_member m o) ≡ is_const_place types f o
  const_further m (Name l) = refl
  const_further m (Through p members) = refl

  pub member_apart : (m y : ℕ) (o : Operand) → is_itself types texts fs f y (with_member m o) ≡ false
  member_apart m y (Name l) = ap (λ (b : Bool). b && nat_eq l.local y) (longer l.members)
    where
      longer : (ms : List ℕ) → starts_with nat_eq [] (ms ++ m ∷ []) ≡ false
      longer [] = refl
      longer (n ∷ ms) = refl
  member_apart m y (Through p members) = refl

  pub member_placed : (number m : ℕ) (id : TyId) (t : Ty) (c : Bool) (o : Operand) → slice_get (members_at types number) m ≡ Some id → ty_of types id ≡ t → IsPlaceOf types texts fs f (ty.Struct number) c o
      → IsPlaceOf types texts fs f t c (with_member m o)
  member_placed number m id t c o at is h = record {
    typed = ap (λ (b : Bool). if b then ty_if types (operand_type types f (with_member m o)) else ty.Void) (place_further m o) ∙ go (is_place types f o) h.typed;
    held = ap (keeps_const c) (const_further m o) ∙ h.held;
  }
    where
      go : (b : Bool) → (if b then ty_if types (operand_type types f o) else ty.Void) ≡ ty.Struct number → (if b then ty_if types (operand_type types f (with_member m o)) else ty.Void) ≡ t
      go false e = absurd (void_struct number e)
      go true e = ap (ty_if types) (operand_further m o) ∙ ap (λ (u : Ty). ty_if types (member_of types u m)) e ∙ ap (ty_if types) at ∙ is

-- ---- a pointer that is a member of a variable

-- what holds pointers is a variable, or in one
pub record LiesNamed (s : State) (o : Operand) : Type 0 where
  pub location : Location
  pub is : o ≡ Name location
  pub local : Local
  pub there : slice_get s.locals location.local ≡ Some local
  pub named : is_some local.name ≡ true

-- it lies in a member, and the variable has a name
member_lies : (members : List ℕ) (m : ℕ) (whole named : Bool) → named ≡ true → lies_by (members ++ m ∷ []) whole named ≡ true
member_lies [] m whole named has = has
member_lies (n ∷ members) m whole named has = has

pub member_pointer : (m : ℕ) (o : Operand) (l : Location) → o ≡ Name l → (n : ℕ) (k : List Known) → IsPlace o n k → IsPointer (location_in (with_member m o)) n k
member_pointer m o l is n k h = subst (λ (q : Operand). IsPointer (location_in (with_member m q)) n k) (sym is) (record { local = h.local; is = one (sym (ap place_uses is) ∙ h.uses); below = h.below; held = h.held })
  where
    one : {x y : ℕ} → x ∷ [] ≡ y ∷ [] → x ≡ y
    one e = cc

-- a member is given a pointer, whatever it is of
pub fills_member : (f : Function) (m : ℕ) (o : Operand) (l : Location) → o ≡ Name l → fills_in f (location_in (with_member m o)) ≡ true
fills_member f m o l is = ap (λ (q : Operand). fills_in f (location_in (with_member m q))) is ∙ member_lies l.members m (is_register_at f l.local) true refl

module _ (types : Types) (texts : ℕ) (fs : List Function) (f : Function) where
  -- .. of the type of its place: where no object stands is no pointer
  pub type_in_member : (t : Ty) (m : ℕ) (o : Operand) (l : Location) → o ≡ Name l → is_location t ≡ true → type_of types f (with_member m o) ≡ t → type_in types f (location_in (with_member m o)) ≡ t
  type_in_member t m o l is loc typed = ap (λ (q : Operand). type_in types f (location_in (with_member m q))) is ∙ go (object_at types f l.local) (sym (ap (λ (q : Operand). type_of types f (with_member m q)) is) ∙ typed)
    where
      go : (object : Bool) → (if object then type_in types f (location_in (with_member m (Name l))) else ty.Void) ≡ t → type_in types f (location_in (with_member m (Name l))) ≡ t
      go true e = e
      go false e = absurd (false≢true (ap is_location e ∙ loc))

  pub at_member : (t : Ty) (m : ℕ) (o : Operand) (s : State) → Begins types f s → (l : Location) → o ≡ Name l → (local : Local) → slice_get s.locals l.local ≡ Some local → is_some local.name ≡ true → is_location t ≡ true
      → type_of types f (with_member m o) ≡ t → IsAt types texts fs f t (location_in (with_member m o))
  at_member t m o s b l is local there named loc typed = record {
    typed = type_in_member t m o l is loc typed;
    kept =
        ap (λ (q : Operand). lies_in f (location_in (with_member m q))) is
        ∙ member_lies l.members m (is_register_at f l.local) (is_named (slice_get f.locals l.local)) (ap is_named (b.locals l.local local there) ∙ named);
  }

-- ---- copies

module _ (types : Types) (texts : ℕ) (fs : List Function) (f : Function) (structs : HasStructs types) where
  -- no unique_ptr is copied
  struct_free : (number : ℕ) → is_copied_struct types number ≡ true → (b : Bool) (id : Option TyId) → (if b then ty_if types id else ty.Void) ≡ ty.Struct number → not (holds_unique (tree_if types id)) ≡ true
  struct_free number copies false id e = absurd (void_struct number e)
  struct_free number copies true None e = absurd (void_struct number e)
  struct_free number copies true (Some id) e = struct_copied types structs.ordered id number (sym (type_either types id) ∙ e) ∙ copies

  pub struct_copy_fine : (number : ℕ) → is_copied_struct types number ≡ true → (to from : Operand) → type_of types f to ≡ ty.Struct number → keeps_const false (is_const_place types f to) ≡ true → type_of types f from ≡ ty.Struct number → IsFineStep types texts fs f (Copy to from)
  struct_copy_fine number copies to from at free source = record {
    given = refl;
    formed =
        and_from (same (type_of types f to) (type_of types f from)) _ (ap (λ (u : Ty). same u (type_of types f from)) at ∙ ap (same (ty.Struct number)) source ∙ same_type (ty.Struct number))
        (and_from (not (is_pointer (type_of types f to))) _ (ap (λ (u : Ty). not (is_pointer u)) at)
        (and_from (not (holds_unique (tree_if types (operand_type types f to)))) (not (is_const_place types f to)) (struct_free number copies (is_place types f to) (operand_type types f to) at) free));
  }

  pub struct_copies_part : {A : Type 0} (P : Gift types texts fs f A) (x : A) (number : ℕ) → is_copied_struct types number ≡ true → (constant : Bool) (to from : Operand) (place : Place) (s : State)
      → (P.typed x → IsPlaceOf types texts fs f (ty.Struct number) false to × IsPlaceOf types texts fs f (ty.Struct number) constant from) → ((n : ℕ) (k : List Known) → P.ready x n k → IsPlace to n k × IsPlace from n k)
      → Part types texts fs f P x None s (gives tt (emit place (Copy to from) s)) (nothing types texts fs f)
  struct_copies_part P x number copies constant to from place s typed ready =
      acted_part types texts fs f P x place (Copy to from) s
      (λ h. let both = typed h in struct_copy_fine number copies to from both.0.typed both.0.held both.1.typed)
      (λ n k q. let both = ready n k q in uses_ready k (place_uses to ++ place_uses from) [] (both_known known.Ready k (place_uses to) (place_uses from) (place_there to n k both.0) (place_there from n k both.1)))
      (λ n m k q. keeps_all f m None k)
