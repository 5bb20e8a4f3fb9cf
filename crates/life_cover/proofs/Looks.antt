-- What a pointer sees by its type, as it is asked of well-formed instructions: a pointer that is handed on, one to an element, and one to what
-- an owner has.
use Rattle.std.proofs.Common.{◌≡◌, inl, inr, ℕ, Bool, true, false, [], Option, Some, refl, sym, ap, subst, ◌∙◌}
use Rattle.std.proofs.lemmas.Bool.{and_parts, false≢true}
use Rattle.std.specs.Prelude.{slice_get}
use Rattle.life_types.specs.Pointees.{ty_of}
use Rattle.life_types.specs.Trees.{IsOrdered}
use Rattle.life_types.specs.TypeTests.{is_constant, is_pointer, is_view, is_void}
use Rattle.life_types.specs.Types.{HasEachOnce, Types}
use Rattle.life_types.specs.declared.ty.Ty.{Ty}
use Rattle.life_types.specs.declared.ty.Ty.TheVariants as ty
use Rattle.life_types.specs.declared.ty.TyId.{TyId}
use Rattle.life_core.specs.Function.{Function}
use Rattle.life_core.specs.Operands.{Location}
use Rattle.life_pset.specs.Shapes as shapes
use Rattle.life_pset.specs.Shapes.{has_buffer, ty_if}
use Rattle.life_proper.specs.OperandTypes.{aims_at, are_alike, are_compared, is_range, keeps_const, owned_element, same, seen_element, spans, takes, walks}
use Rattle.life_proper.specs.Placed.{type_at, type_in}
use Rattle.life_proper.proofs.HeldSorts.{same_is, same_void}
use Rattle.life_store.specs.Parts.{Single, characters_type, local_type, location_type, parts_at, parts_of, type_within}
use Rattle.life_forest.specs.FrameTypes.{seen_in, seen_type}
use Rattle.life_forest.proofs.OneNumber.{also_solid, number_of_type, one_number, type_there, typed_at}
use Rattle.life_forest.proofs.SeenTypes.{alike_seen, parts_typed, pointer_solid, value_parts}
use Rattle.life_forest.proofs.Shaped.{IsShaped, within_same}
use Rattle.life_forest.proofs.TypedSteps.{location_of}
use Rattle.life_cover.specs.Covers.{IsSeenAs, Look, Reseen}
use Rattle.life_cover.specs.Frames.{look_in, look_of}
use Rattle.life_cover.specs.Regions.{owned_in_type}

pub same_reseen : (types : Types) (a b : Option TyId) → a ≡ b → Reseen types a b
same_reseen types a b e id h = subst (λ (o : Option TyId). IsSeenAs types o id) e h

pub const_kept : (to from : Bool) → keeps_const to from ≡ true → to ≡ false → from ≡ false
const_kept true from e k = absurd (false≢true (sym k))
const_kept false true e k = absurd (false≢true e)
const_kept false false e k = refl

-- ---- kinds of types

alike_ranged : (types : Types) (t u : Ty) → are_alike types t u ≡ true → is_range u ≡ is_range t
alike_ranged types (ty.Raw t c) (ty.Raw u d) e = refl
alike_ranged types (ty.Reference t c) (ty.Reference u d) e = refl
alike_ranged types (ty.Iterator t c) (ty.Iterator u d) e = refl
alike_ranged types (ty.Span t c) (ty.Span u d) e = refl
alike_ranged types ty.View ty.View e = refl
alike_ranged types _ _ e = absurd (false≢true e)

pub aims_single : (types : Types) (t u : Ty) → aims_at types t u ≡ true → is_range t ≡ false
aims_single types (ty.Raw target constant) u e = refl
aims_single types (ty.Reference target constant) u e = refl
aims_single types _ u e = absurd (false≢true e)

pub walks_single : (types : Types) (t u : Ty) → walks types t u ≡ true → is_range t ≡ false
walks_single types (ty.Iterator target constant) u e = refl
walks_single types _ u e = absurd (false≢true e)

pub spans_range : (types : Types) (t u : Ty) → spans types t u ≡ true → is_range t ≡ true
spans_range types (ty.Span target constant) u e = refl
spans_range types ty.View u e = refl
spans_range types _ u e = absurd (false≢true e)

pub element_ranged : (types : Types) (t : Ty) (target : TyId) → same (ty_of types target) (seen_element types t) ≡ true → is_range t ≡ true
element_ranged types ty.View target e = refl
element_ranged types (ty.Span of constant) target e = refl
element_ranged types _ target e = absurd (same_void (ty_of types target) e)

pub view_range : (t : Ty) → is_view t ≡ true → is_range t ≡ true
view_range ty.View e = refl
view_range _ e = absurd (false≢true e)

-- views are both ranges, and iterators both aren't
pub compared_ranged : (types : Types) (t u : Ty) → are_compared types t u ≡ true → is_range u ≡ is_range t
compared_ranged types (ty.Iterator t c) (ty.Iterator u d) e = refl
compared_ranged types ty.View ty.View e = refl
compared_ranged types _ _ e = absurd (false≢true e)

module _ (types : Types) (ordered : IsOrdered types) (once : HasEachOnce types) where
  -- ---- elements and owners

  -- an element of a span or a view
  pub element_reseen : (u : Ty) (target : TyId) → same (ty_of types target) (seen_element types u) ≡ true → Reseen types (seen_in types (Some u)) (Some target)
  element_reseen ty.View target e id (inl is) = inr (value_parts types ordered target ty.Char (type_there types target ty.Char (same_is (ty_of types target) ty.Char e) refl) refl, sym is)
  element_reseen ty.View target e id (inr is) = inr (value_parts types ordered target ty.Char (type_there types target ty.Char (same_is (ty_of types target) ty.Char e) refl) refl, is.1)
  element_reseen (ty.Span of constant) target e id h = same_reseen types (Some of) (Some target) (ap Some (sym (one_number types once target of e))) id h
  element_reseen _ target e id h = absurd (same_void (ty_of types target) e)

  -- what an owner has, seen as this
  pub record HasItem (u : Ty) (to : Option TyId) : Type 0 where
    pub item : TyId
    pub type : owned_in_type types (Some u) ≡ Some item
    pub buffer : has_buffer u ≡ true
    pub seen : IsSeenAs types to item

  pub element_item : (u : Ty) (target : TyId) → same (ty_of types target) (owned_element types u) ≡ true → HasItem u (Some target)
  element_item ty.Text target e = record {
    item = characters_type types;
    type = refl;
    buffer = refl;
    seen = inr (value_parts types ordered target ty.Char (type_there types target ty.Char (same_is (ty_of types target) ty.Char e) refl) refl, refl);
  }
  element_item (ty.Vector element) target e = record { item = element; type = refl; buffer = refl; seen = inl (one_number types once target element e) }
  element_item _ target e = absurd (same_void (ty_of types target) e)

  pub whole_item : (t u : Ty) → spans types t u ≡ true → HasItem u (seen_in types (Some t))
  whole_item (ty.Span target constant) (ty.Vector element) e = record { item = element; type = refl; buffer = refl; seen = inl (one_number types once target element e) }
  whole_item ty.View ty.Text e = record { item = characters_type types; type = refl; buffer = refl; seen = inl refl }
  whole_item _ _ e = absurd (false≢true e)

  -- what has elements is no single value, so what is seen as it has its type
  pub exact_owner : (id whole : TyId) (u : Ty) (item : TyId) → slice_get types.types id.0 ≡ Some u → owned_in_type types (Some u) ≡ Some item → IsSeenAs types (Some id) whole → id ≡ whole
  exact_owner id whole u item there owned (inl e) = e
  exact_owner id whole u item there owned (inr e) = absurd (go u owned (sym (parts_typed types ordered id u there) ∙ e.0))
    where
      go : (v : Ty) → owned_in_type types (Some v) ≡ Some item → parts_of types (parts_at types) (Some v) ≡ Single → ⊥
      go ty.Text h k = cc
      go (ty.Vector element) h k = cc
      go (ty.Unique target) h k = cc
      go _ h k = cc

  -- ---- the pointers of a function

  module _ (f : Function) (shaped : IsShaped types f) where
    pub seen_at : (l : Location) (t : Ty) → type_in types f l ≡ t → is_void t ≡ false → seen_type types (location_type types f l) ≡ seen_in types (Some t)
    seen_at l t e some =
        let of = location_of types ordered once 0 [] f shaped l t e some in
        ap (seen_type types) of.is ∙ ap (seen_in types) of.there

    -- p takes what q is
    pub record TakesLook (p q : Location) : Type 0 where
      pub target : Reseen types (look_in types f q).target (look_in types f p).target
      pub constant : (look_in types f p).constant ≡ false → (look_in types f q).constant ≡ false
      pub ranged : (look_in types f q).ranged ≡ (look_in types f p).ranged
      pub to : is_pointer (type_in types f p) ≡ true
      pub from : is_pointer (type_in types f q) ≡ true

    pub takes_look : (p q : Location) → takes types (type_in types f p) (type_in types f q) ≡ true → TakesLook p q
    takes_look p q e =
        let both = and_parts (are_alike types (type_in types f p) (type_in types f q)) (keeps_const (is_constant (type_in types f p)) (is_constant (type_in types f q))) e in
        let alike = alike_seen types ordered once (type_in types f p) (type_in types f q) both.0 in record {
          target = same_reseen types (look_in types f q).target (look_in types f p).target
              (seen_at q (type_in types f q) refl (pointer_solid (type_in types f q) alike.from) ∙ alike.seen ∙ sym (seen_at p (type_in types f p) refl (pointer_solid (type_in types f p) alike.to)));
          constant = const_kept (is_constant (type_in types f p)) (is_constant (type_in types f q)) both.1;
          ranged = alike_ranged types (type_in types f p) (type_in types f q) both.0;
          to = alike.to;
          from = alike.from;
        }

    -- what is given over has the type of an element
    pub given_type : (x : ℕ) (id : TyId) → same (ty_of types id) (type_at types f x) ≡ true → local_type types f x ≡ Some id
    given_type x id e =
        let of = typed_at types (local_type types f x) (type_at types f x) (sym (ap (ty_if types) (shaped x))) (also_solid (ty_of types id) (type_at types f x) e) in
        of.is ∙ ap Some (sym (number_of_type types once id of.number (type_at types f x) e of.there))

-- ---- the types of locations

pub location_is : (types : Types) (f : Function) → IsShaped types f → (l : Location) → shapes.location_type types f l ≡ location_type types f l
location_is types f shaped l = within_same types l.members (shapes.local_type types f l.local) ∙ ap (λ (id : Option TyId). type_within types id l.members) (shaped l.local)

-- a pointer is seen as its type says
pub look_same : (types : Types) (f : Function) → IsShaped types f → (l : Location) → look_in types f l ≡ look_of types (shapes.location_type types f l)
look_same types f shaped l =
    ap (λ (id : Option TyId). record { ranged = is_range (type_in types f l); target = seen_type types id; constant = is_constant (type_in types f l) }) (sym (location_is types f shaped l))

-- ---- the pointers of two functions

-- whatever the one pointer is, the other may be
pub record TakesAll (types : Types) (to from : Look) : Type 0 where
  pub target : Reseen types from.target to.target
  pub constant : to.constant ≡ false → from.constant ≡ false
  pub ranged : from.ranged ≡ to.ranged

pub takes_itself : (types : Types) (look : Look) → TakesAll types look look
takes_itself types look = record { target = λ id seen. seen; constant = λ free. free; ranged = refl }

pub takes_across : (types : Types) (ordered : IsOrdered types) (once : HasEachOnce types) (f : Function) (shaped_f : IsShaped types f) (g : Function) (shaped_g : IsShaped types g) (p q : Location) → takes types (type_in types g p) (type_in types f q) ≡ true → TakesAll types (look_in types g p) (look_in types f q)
takes_across types ordered once f shaped_f g shaped_g p q e =
    let both = and_parts (are_alike types (type_in types g p) (type_in types f q)) (keeps_const (is_constant (type_in types g p)) (is_constant (type_in types f q))) e in
    let alike = alike_seen types ordered once (type_in types g p) (type_in types f q) both.0 in record {
      target = same_reseen types (look_in types f q).target (look_in types g p).target
          (seen_at types ordered once f shaped_f q (type_in types f q) refl (pointer_solid (type_in types f q) alike.from) ∙ alike.seen ∙ sym (seen_at types ordered once g shaped_g p (type_in types g p) refl (pointer_solid (type_in types g p) alike.to)));
      constant = const_kept (is_constant (type_in types g p)) (is_constant (type_in types f q)) both.1;
      ranged = alike_ranged types (type_in types g p) (type_in types f q) both.0;
    }
