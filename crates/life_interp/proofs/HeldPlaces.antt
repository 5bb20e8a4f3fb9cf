-- What locations and operands name in a frame that stands, by their types: the words of a value lie in its object, and are of its type.
use Rattle.std.proofs.Common.{◌≡◌, ℕ, ◌+◌, ◌^◌, ◌≤◌, List, [], ◌∷◌, length, Option, Some, None, refl, sym, ap, subst, ◌∙◌, arith}
use Rattle.std.proofs.lemmas.Option.{none-some, same_Some}
use Rattle.std.specs.Prelude.{slice_get}
use Rattle.life_types.specs.Trees.{IsOrdered}
use Rattle.life_types.specs.Types.{Types}
use Rattle.life_types.specs.declared.ty.Ty.{Ty}
use Rattle.life_types.specs.declared.ty.Ty.TheVariants as ty
use Rattle.life_types.specs.declared.ty.TyId.{TyId}
use Rattle.life_core.specs.Function.{Function}
use Rattle.life_core.specs.Operands.{Location, Operand, Name, Through}
use Rattle.life_store.specs.Content.{Slot, Object, Content}
use Rattle.life_store.specs.Kinds.{Kind, Owner, Pointing, kind_in}
use Rattle.life_store.specs.Parts.{Parts, Single, Raw, Iterates, Views, Text, Vector, Unique, Member, NoMember, location_type, operand_type, parts_at, parts_of, target_in, target_type, type_within, width, width_at}
use Rattle.life_store.specs.Places.{Here, locate, operand_word}
use Rattle.life_store.specs.State.{State}
use Rattle.life_forest.specs.FrameTypes.{IsFrame}
use Rattle.life_forest.specs.Typed.{IsStore}
use Rattle.life_forest.specs.Values.{AllWide}
use Rattle.life_forest.proofs.Laying.{parts_made}
use Rattle.life_forest.proofs.Operands.{FoundWell, IsPlace, OperandAims, operand_well, place_named}
use Rattle.life_forest.proofs.StandingPointers.{IsPointer, pointer_width}
use Rattle.life_seen.specs.Kinds.{kinds_of}
use Rattle.life_cells.specs.Typed.{GoesThrough, Holds, HoldsOwner, HoldsPointer, IsOwnerPlace, IsPlaced, LieIn, member_of}
use Rattle.life_interp.specs.Accessed.{IsNumberPlace}

-- ---- the first word of a value

pub first_pointing : (p : Parts) → IsPointer p → kind_in p 0 ≡ Pointing 0
first_pointing Raw is = refl
first_pointing Iterates is = refl
first_pointing Views is = refl
first_pointing Single is = absurd is
first_pointing (Text id) is = absurd is
first_pointing (Vector id element) is = absurd is
first_pointing (Unique id target) is = absurd is
first_pointing (Member first others) is = absurd is
first_pointing NoMember is = absurd is

-- an owner has one word, which owns
pub record IsOwning (p : Parts) : Type 0 where
  pub wide : 1 ≤ width p
  pub owner : kind_in p 0 ≡ Owner

wide_first : (n : ℕ) (ss : List Slot) (s : Slot) → AllWide n ss → slice_get ss 0 ≡ Some s → length s.words ≡ n
wide_first n [] s h e = absurd (none-some s e)
wide_first n (x ∷ xs) s h e = sym (ap (λ (t : Slot). length t.words) (same_Some x s e)) ∙ h.0

-- what a pointer of a type points to is told by a pointer's type alone
targets_point : (types : Types) (part : TyId → Parts) (o : Option Ty) (t : TyId) → target_in o ≡ Some t → IsPointer (parts_of types part o)
targets_point types part None t e = absurd (none-some t e)
targets_point types part (Some (ty.Raw target constant)) t e = tt
targets_point types part (Some (ty.Reference target constant)) t e = tt
targets_point types part (Some (ty.Iterator target constant)) t e = tt
targets_point types part (Some (ty.Span target constant)) t e = tt
targets_point types part (Some _) t e = absurd (none-some t e)

member_there : (types : Types) (o : Option TyId) (ms : List ℕ) (part : TyId) → type_within types o ms ≡ Some part → (t : TyId) × (o ≡ Some t)
member_there types None [] part e = absurd (none-some part e)
member_there types None (m ∷ ms) part e = absurd (none-some part e)
member_there types (Some t) ms part e = (t, refl)

module _ (types : Types) (ordered : IsOrdered types) (narrow : (ty : TyId) → width_at types ty ≤ 2 ^ 32) (f : Function) (hand : ℕ → ℕ) (st : State) (store : IsStore types hand st.world.content) (frame : IsFrame types f st.world.content st.cells) where
  abbrev c : Content
  c = st.world.content

  -- ---- the words of a value

  lies_at : (part : TyId) (n i w count : ℕ) (o : Object) → IsPlace types c part n i w o → count ≤ width_at types part → LieIn w count o
  lies_at part n i w count o place le =
      let fits = place.within.fits in
      let wide : o.width ≡ width_at types o.ty = (store.fit n o place.there).width in
      let small = narrow o.ty in
      record { within = omega (arith, le, fits, wide); small = omega (arith, wide, small) }

  first_at : (part : TyId) (n i w : ℕ) (o : Object) → IsPlace types c part n i w o → 1 ≤ width_at types part → kinds_of types o.ty w ≡ kind_in (parts_at types part) 0
  first_at part n i w o place le =
      let none : w + 0 ≡ w = omega arith in
      subst (λ k. kind_in (parts_at types o.ty) k ≡ kind_in (parts_at types part) 0) none (place.within.words 0 (omega (arith, le)))

  held_at : (kind : Kind) (count : ℕ) (part : TyId) (n w : ℕ) (o : Object) → IsPlace types c part n 0 w o → 1 ≤ count → count ≤ width_at types part → kind_in (parts_at types part) 0 ≡ kind → Holds types kind count n w c
  held_at kind count part n w o place some le first =
      let lies = lies_at part n 0 w count o place le in
      record {
        object = o;
        there = place.there;
        slot = place.slot;
        lies = lies;
        whole = λ s e. let same = wide_first o.width o.slots s (store.fit n o place.there).slots e in let within = lies.within in omega (arith, same, within);
        is = first_at part n 0 w o place (omega (arith, some, le)) ∙ first;
      }

  -- ---- locations

  pub pointer_held : (l : Location) (part : TyId) → location_type types f l ≡ Some part → IsPointer (parts_at types part) → HoldsPointer types f l st
  pointer_held l part typed is = λ n some named.
      let place = place_named types ordered f st frame l part typed n named in
      let wide = pointer_width (parts_at types part) is in
      held_at (Pointing 0) 5 part n (member_of types f l) place.0 place.1 (omega arith) (omega (arith, wide)) (first_pointing (parts_at types part) is)

  pub owner_held : (l : Location) (part : TyId) → location_type types f l ≡ Some part → IsOwning (parts_at types part) → HoldsOwner types f l st
  owner_held l part typed is = λ n named.
      let place = place_named types ordered f st frame l part typed n named in
      held_at Owner 1 part n (member_of types f l) place.0 place.1 (omega arith) is.wide is.owner

  -- ---- operands

  through_held : (p : Location) (id : Option TyId) (t : TyId) → location_type types f p ≡ id → target_type types id ≡ Some t → HoldsPointer types f p st
  through_held p None t is e = absurd (none-some t e)
  through_held p (Some id) t is e = pointer_held p id is (subst IsPointer (sym (parts_made types ordered id)) (targets_point types (parts_at types) (slice_get types.types id.0) t e))

  goes_through : (o : Operand) (part : TyId) → operand_type types f o ≡ Some part → GoesThrough types f o st
  goes_through (Name l) part typed = tt
  goes_through (Through p members) part typed =
      let target = member_there types (target_type types (location_type types f p)) members part typed in
      through_held p (location_type types f p) target.0 refl target.1

  found_at : (o : Operand) (part : TyId) → operand_type types f o ≡ Some part → OperandAims types f st o → (n i : ℕ) (object : Object) → locate types f o st ≡ Here n i object → IsPlace types c part n i (operand_word types f o st) object
  found_at o part typed aims n i object located = subst (FoundWell types c part (operand_word types f o st)) located (operand_well types ordered f st frame o part typed aims)

  pub placed : (o : Operand) (part : TyId) → operand_type types f o ≡ Some part → OperandAims types f st o → 1 ≤ width_at types part → IsPlaced types f o st
  placed o part typed aims wide = record {
    through = goes_through o part typed;
    lies = λ n i object located. lies_at part n i (operand_word types f o st) 1 object (found_at o part typed aims n i object located) wide;
  }

  pub owner_placed : (o : Operand) (part : TyId) → operand_type types f o ≡ Some part → OperandAims types f st o → IsOwning (parts_at types part) → IsOwnerPlace types f o st
  owner_placed o part typed aims is = record {
    placed = placed o part typed aims is.wide;
    owner = λ n i object located. first_at part n i (operand_word types f o st) object (found_at o part typed aims n i object located) is.wide ∙ is.owner;
  }

  pub number_placed : (o : Operand) (part : TyId) → operand_type types f o ≡ Some part → OperandAims types f st o → parts_at types part ≡ Single → IsNumberPlace types f o st
  number_placed o part typed aims single =
      let one : width_at types part ≡ 1 = ap width single in
      record {
        placed = placed o part typed aims (omega (arith, one));
        plain = λ n i object located. first_at part n i (operand_word types f o st) object (found_at o part typed aims n i object located) (omega (arith, one)) ∙ ap (λ (p : Parts). kind_in p 0) single;
      }
