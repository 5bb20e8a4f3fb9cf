-- What a pointer of one type is handed on as, by what is asked of the types of well-formed instructions.
use Rattle.std.proofs.Common.{◌≡◌, Bool, true, false, Option, Some, refl, sym, ap, subst, ◌∙◌, ◌+◌, ℕ, arith, length}
use Rattle.std.proofs.lemmas.Bool.{false≢true}
use Rattle.std.specs.Prelude.{if◌then◌else◌, not, slice_get}
use Rattle.life_types.specs.Pointees.{pointee, ty_of}
use Rattle.life_types.specs.Trees.{IsOrdered}
use Rattle.life_types.specs.TypeTests.{is_iterator, is_pointer, is_raw, is_value, is_view, is_void}
use Rattle.life_types.specs.Types.{HasEachOnce, Types}
use Rattle.life_types.specs.declared.ty.Ty.{Ty}
use Rattle.life_types.specs.declared.ty.Ty.TheVariants as ty
use Rattle.life_types.specs.declared.ty.TyId.{TyId}
use Rattle.life_proper.specs.OperandTypes.{aims_at, are_alike, gets, is_range, owned_element, owned_target, same, seen_element, spans, walks}
use Rattle.life_proper.proofs.HeldSorts.{same_is, same_void}
use Rattle.life_store.specs.Kinds.{kind_in}
use Rattle.life_store.specs.Parts.{Parts, Single, characters_type, parts_at, parts_of, parts_within, width}
use Rattle.life_store.proofs.CellLemmas.{some_same}
use Rattle.life_forest.specs.FrameTypes.{seen_in}
use Rattle.life_forest.specs.Kinds.{owned_type}
use Rattle.life_forest.specs.Within.{LiesWithin}
use Rattle.life_forest.proofs.Laying.{none_behind, parts_made}
use Rattle.life_forest.proofs.OneNumber.{one_number, type_there}
use Rattle.life_forest.proofs.OwnedAims.{OwnsType}
use Rattle.life_forest.proofs.Retargets.{Retargets, same_target}
use Rattle.life_forest.proofs.StandingPointers.{IsPointer}

-- ---- kinds of types

pub pointer_solid : (t : Ty) → is_pointer t ≡ true → is_void t ≡ false
pointer_solid ty.Void e = absurd (false≢true e)
pointer_solid _ e = refl

pub raw_points : (t : Ty) → is_raw t ≡ true → is_pointer t ≡ true
raw_points (ty.Raw target constant) e = refl
raw_points _ e = absurd (false≢true e)

pub iterator_points : (t : Ty) → is_iterator t ≡ true → is_pointer t ≡ true
iterator_points (ty.Iterator target constant) e = refl
iterator_points _ e = absurd (false≢true e)

pub range_points : (t : Ty) → is_range t ≡ true → is_pointer t ≡ true
range_points (ty.Span target constant) e = refl
range_points ty.View e = refl
range_points _ e = absurd (false≢true e)

pub view_is : (t : Ty) → is_view t ≡ true → t ≡ ty.View
view_is ty.View e = refl
view_is _ e = absurd (false≢true e)

pub pointee_points : (types : Types) (t : Ty) → not (is_void (pointee types t)) ≡ true → is_pointer t ≡ true
pointee_points types (ty.Raw target constant) e = refl
pointee_points types (ty.Reference target constant) e = refl
pointee_points types (ty.Iterator target constant) e = refl
pointee_points types _ e = absurd (false≢true e)

-- what isn't there is the same as nothing
pub same_if : (b : Bool) (t u : Ty) → same t (if b then u else ty.Void) ≡ true → same t u ≡ true
same_if true t u e = e
same_if false t u e = absurd (same_void t e)

module _ (types : Types) (ordered : IsOrdered types) where
  -- ---- the parts of a type that is there

  pub parts_typed : (id : TyId) (t : Ty) → slice_get types.types id.0 ≡ Some t → parts_at types id ≡ parts_of types (parts_at types) (Some t)
  parts_typed id t e = parts_made types ordered id ∙ ap (parts_of types (parts_at types)) e

  pub pointer_parts : (id : TyId) (t : Ty) → slice_get types.types id.0 ≡ Some t → is_pointer t ≡ true → IsPointer (parts_at types id)
  pointer_parts id t e pointer = subst IsPointer (sym (parts_typed id t e)) (go t pointer)
    where
      go : (u : Ty) → is_pointer u ≡ true → IsPointer (parts_of types (parts_at types) (Some u))
      go ty.View p = tt
      go (ty.Raw target constant) p = tt
      go (ty.Reference target constant) p = tt
      go (ty.Iterator target constant) p = tt
      go (ty.Span target constant) p = tt
      go _ p = absurd (false≢true p)

  pub value_parts : (id : TyId) (t : Ty) → slice_get types.types id.0 ≡ Some t → is_value t ≡ true → parts_at types id ≡ Single
  value_parts id t e value = parts_typed id t e ∙ go t value
    where
      go : (u : Ty) → is_value u ≡ true → parts_of types (parts_at types) (Some u) ≡ Single
      go ty.Bool p = refl
      go ty.Char p = refl
      go ty.Int p = refl
      go ty.Long p = refl
      go ty.Size p = refl
      go _ p = absurd (false≢true p)

  pub character_parts : parts_at types (characters_type types) ≡ Single
  character_parts = ap (parts_of types (parts_within (length types.types) types)) (none_behind types ordered types.types)

  -- ---- values of the same parts

  pub alike_within : (a b : TyId) → parts_at types a ≡ parts_at types b → LiesWithin types a 0 b
  alike_within a b e = record {
    fits = let w = ap width e in omega arith;
    words = λ u lt. ap (kind_in (parts_at types a)) (nothing u) ∙ ap (λ (p : Parts). kind_in p u) e;
    owners = λ u lt. ap (owned_type (parts_at types a)) (nothing u) ∙ ap (λ (p : Parts). owned_type p u) e;
  }
    where
      nothing : (u : ℕ) → 0 + u ≡ u
      nothing u = omega arith

  pub alike_retargets : (a b : TyId) → parts_at types a ≡ parts_at types b → Retargets types (Some a) (Some b)
  alike_retargets a b e = record {
    within = λ t is. (a, refl, subst (LiesWithin types a 0) (some_same is) (alike_within a b e));
    single = λ single. sym e ∙ single;
  }

  pub one_retargets : (a b : Option TyId) → a ≡ b → Retargets types a b
  one_retargets a b e = subst (Retargets types a) e (same_target types a)

  -- ---- owners

  pub vector_owns : (id element : TyId) → slice_get types.types id.0 ≡ Some (ty.Vector element) → OwnsType (parts_at types id) element
  vector_owns id element e = subst (λ (p : Parts). OwnsType p element) (sym (parts_typed id (ty.Vector element) e)) (record { one = refl; owner = refl; owned = refl })

  pub unique_owns : (id target : TyId) → slice_get types.types id.0 ≡ Some (ty.Unique target) → OwnsType (parts_at types id) target
  unique_owns id target e = subst (λ (p : Parts). OwnsType p target) (sym (parts_typed id (ty.Unique target) e)) (record { one = refl; owner = refl; owned = refl })

  pub text_owns : (id : TyId) → slice_get types.types id.0 ≡ Some ty.Text → OwnsType (parts_at types id) (characters_type types)
  text_owns id e = subst (λ (p : Parts). OwnsType p (characters_type types)) (sym (parts_typed id ty.Text e)) (record { one = refl; owner = refl; owned = refl })

  -- ---- what a pointer is aimed at

  module _ (once : HasEachOnce types) where
    -- a pointer of the type points to the target, which is this type
    pub record Seen (t u : Ty) : Type 0 where
      pub target : TyId
      pub seen : seen_in types (Some t) ≡ Some target
      pub is : same (ty_of types target) u ≡ true
      pub pointer : is_pointer t ≡ true

    pub aims_seen : (t u : Ty) → aims_at types t u ≡ true → Seen t u
    aims_seen (ty.Raw target constant) u e = record { target = target; seen = refl; is = e; pointer = refl }
    aims_seen (ty.Reference target constant) u e = record { target = target; seen = refl; is = e; pointer = refl }
    aims_seen _ u e = absurd (false≢true e)

    pub gets_seen : (t u : Ty) → gets types t u ≡ true → Seen t u
    gets_seen (ty.Raw target constant) u e = record { target = target; seen = refl; is = e; pointer = refl }
    gets_seen _ u e = absurd (false≢true e)

    pub walks_seen : (t u : Ty) → walks types t u ≡ true → Seen t u
    walks_seen (ty.Iterator target constant) u e = record { target = target; seen = refl; is = e; pointer = refl }
    walks_seen _ u e = absurd (false≢true e)

    -- two pointers, one of which takes what the other is
    pub record AreAlike (t u : Ty) : Type 0 where
      pub seen : seen_in types (Some u) ≡ seen_in types (Some t)
      pub to : is_pointer t ≡ true
      pub from : is_pointer u ≡ true

    pub alike_seen : (t u : Ty) → are_alike types t u ≡ true → AreAlike t u
    alike_seen (ty.Raw t c) (ty.Raw u d) e = record { seen = ap Some (sym (one_number types once t u e)); to = refl; from = refl }
    alike_seen (ty.Reference t c) (ty.Reference u d) e = record { seen = ap Some (sym (one_number types once t u e)); to = refl; from = refl }
    alike_seen (ty.Iterator t c) (ty.Iterator u d) e = record { seen = ap Some (sym (one_number types once t u e)); to = refl; from = refl }
    alike_seen (ty.Span t c) (ty.Span u d) e = record { seen = ap Some (sym (one_number types once t u e)); to = refl; from = refl }
    alike_seen ty.View ty.View e = record { seen = refl; to = refl; from = refl }
    alike_seen _ _ e = absurd (false≢true e)

    -- ---- what has elements, or a target

    -- an owner of what a pointer of the type points to
    abbrev pub OwnsFor : TyId → Option TyId → Type 0
    OwnsFor whole to = (id : TyId) × OwnsType (parts_at types whole) id × Retargets types (Some id) to

    pub element_owned : (whole : TyId) (u : Ty) (target : TyId) → slice_get types.types whole.0 ≡ Some u → same (ty_of types target) (owned_element types u) ≡ true → OwnsFor whole (Some target)
    element_owned whole ty.Text target there e =
        let char : parts_at types target ≡ Single = value_parts target ty.Char (type_there types target ty.Char (same_is (ty_of types target) ty.Char e) refl) refl in
        (characters_type types, text_owns whole there, alike_retargets (characters_type types) target (character_parts ∙ sym char))
    element_owned whole (ty.Vector element) target there e = (element, vector_owns whole element there, one_retargets (Some element) (Some target) (ap Some (sym (one_number types once target element e))))
    element_owned whole _ target there e = absurd (same_void (ty_of types target) e)

    pub target_owned : (whole : TyId) (u : Ty) (target : TyId) → slice_get types.types whole.0 ≡ Some u → same (ty_of types target) (owned_target types u) ≡ true → OwnsFor whole (Some target)
    target_owned whole (ty.Unique of) target there e = (of, unique_owns whole of there, one_retargets (Some of) (Some target) (ap Some (sym (one_number types once target of e))))
    target_owned whole _ target there e = absurd (same_void (ty_of types target) e)

    pub whole_owned : (whole : TyId) (t u : Ty) → slice_get types.types whole.0 ≡ Some u → spans types t u ≡ true → OwnsFor whole (seen_in types (Some t))
    whole_owned whole (ty.Span target constant) (ty.Vector element) there e =
        (element, vector_owns whole element there, one_retargets (Some element) (Some target) (ap Some (sym (one_number types once target element e))))
    whole_owned whole ty.View ty.Text there e = (characters_type types, text_owns whole there, same_target types (Some (characters_type types)))
    whole_owned whole _ _ there e = absurd (false≢true e)

    -- an element of a span or a view
    pub element_seen : (u : Ty) (target : TyId) → same (ty_of types target) (seen_element types u) ≡ true → (is_pointer u ≡ true) × Retargets types (seen_in types (Some u)) (Some target)
    element_seen ty.View target e =
        let char : parts_at types target ≡ Single = value_parts target ty.Char (type_there types target ty.Char (same_is (ty_of types target) ty.Char e) refl) refl in
        (refl, alike_retargets (characters_type types) target (character_parts ∙ sym char))
    element_seen (ty.Span of constant) target e = (refl, one_retargets (Some of) (Some target) (ap Some (sym (one_number types once target of e))))
    element_seen _ target e = absurd (same_void (ty_of types target) e)
