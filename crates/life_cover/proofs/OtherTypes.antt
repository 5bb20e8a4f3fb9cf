-- Types in which no unique_ptr is: of vectors and strings, of what is copied, and of what pointers point to.
use Rattle.std.proofs.Common.{◌≡◌, inl, inr, ⊎_elim, ℕ, zero, suc, Bool, true, false, [], Option, Some, None, refl, sym, ap, subst, ◌∙◌}
use Rattle.std.specs.Prelude.{◌||◌, not, slice_get}
use Rattle.std.proofs.lemmas.Bool.{and_parts, false≢true}
use Rattle.life_types.specs.Trees.{TypeTree, IsOrdered, holds_unique, is_plain, tree_at, tree_of}
use Rattle.life_types.specs.Trees as trees
use Rattle.life_types.specs.TypeTests.{is_void}
use Rattle.life_types.specs.Types.{Types}
use Rattle.life_types.specs.declared.ty.Ty.{Ty}
use Rattle.life_types.specs.declared.ty.Ty.TheVariants as ty
use Rattle.life_types.specs.declared.ty.TyId.{TyId}
use Rattle.life_types.proofs.TreeLemmas.{tree_made}
use Rattle.life_core.specs.Function.{Function}
use Rattle.life_core.specs.Operands.{Location, Operand}
use Rattle.life_core.specs.Operands as named
use Rattle.life_pset.specs.Shapes.{has_buffer, tree_if}
use Rattle.life_pset.specs.Shapes as shapes
use Rattle.life_pset.specs.declared.element.Fact.{Fact}
use Rattle.life_pset.specs.declared.element.Root.{Root}
use Rattle.life_proper.specs.Placed.{type_of}
use Rattle.life_proper.specs.WellFormedPrograms.{may_stand}
use Rattle.life_store.specs.Kinds.{Owner, Plain, Pointing, first_owns, kind_in}
use Rattle.life_store.specs.Parts.{Parts, Single, Raw, Iterates, Views, Text, Vector, Unique, Member, NoMember, characters_type, location_type, operand_type, parts_at, width}
use Rattle.life_store.specs.State.{State}
use Rattle.life_forest.specs.FrameTypes.{seen_in, seen_type}
use Rattle.life_forest.proofs.Begins.{behind, in_front, row_cases}
use Rattle.life_forest.proofs.CopiedTypes.{NoUnique, copied_free, members_stand, operand_stands}
use Rattle.life_forest.proofs.OneNumber.{IsOfType}
use Rattle.life_forest.proofs.PlainTypes.{plain_free}
use Rattle.life_forest.proofs.SeenTypes.{character_parts, parts_typed}
use Rattle.life_forest.proofs.TypedSteps.{operand_of, operand_same}
use Rattle.life_cover.specs.Buffered.{is_buffer_at, is_first}
use Rattle.life_cover.specs.Covers.{IsSeenAs}
use Rattle.life_cover.specs.Frames.{look_in}
use Rattle.life_cover.specs.Inputs.{StandsAt, may_change}
use Rattle.life_cover.specs.Regions.{Region}
use Rattle.life_cover.proofs.KnownFrames.{IsKnownFrame}
use Rattle.life_cover.proofs.PlainParts.{plain_none}
use Rattle.life_cover.proofs.Reaching.{IsReached}
use Rattle.life_cover.proofs.SparedPointers.{HasNoPointer}

-- each owner in it is a vector or a string
abbrev pub AreBuffers : Parts → Type 0
AreBuffers p = (u : ℕ) → kind_in p u ≡ Owner → is_buffer_at p u ≡ true

abbrev pub IsOther : Types → TyId → Type 0
IsOther types id = AreBuffers (parts_at types id)

pub unlike_plain : Plain ≡ Owner → ⊥
unlike_plain h = cc

pub unlike_pointing : (j : ℕ) → Pointing j ≡ Owner → ⊥
unlike_pointing j h = cc

pub owner_first : (u : ℕ) → first_owns u ≡ Owner → is_first u ≡ true
owner_first zero e = refl
owner_first (suc u) e = absurd (unlike_plain e)

-- ---- by its parts

free_buffers : (p : Parts) → NoUnique p → AreBuffers p
free_buffers Single free u e = absurd (unlike_plain e)
free_buffers Raw free u e = absurd (unlike_pointing u e)
free_buffers Iterates free u e = absurd (unlike_pointing u e)
free_buffers Views free u e = absurd (unlike_pointing u e)
free_buffers (Text id) free u e = owner_first u e
free_buffers (Vector id element) free u e = owner_first u e
free_buffers (Unique id target) free u e = absurd free
free_buffers (Member first others) free u e =
    ⊎_elim (λ h. in_front (width first) (is_buffer_at first) (is_buffer_at others) u h.0 ∙ free_buffers first free.0 u (sym h.1 ∙ e))
    (λ h. behind (width first) (is_buffer_at first) (is_buffer_at others) h.0 u h.1 ∙ free_buffers others free.1 h.0 (sym h.2 ∙ e)) (row_cases (width first) (kind_in first) (kind_in others) u)
free_buffers NoMember free u e = absurd (unlike_plain e)

-- a vector, or a string
pub buffer_other : (types : Types) → IsOrdered types → (t : Ty) (id : TyId) → slice_get types.types id.0 ≡ Some t → has_buffer t ≡ true → IsOther types id
buffer_other types ordered ty.Text id there buffer = subst AreBuffers (sym (parts_typed types ordered id ty.Text there)) (λ u e. owner_first u e)
buffer_other types ordered (ty.Vector element) id there buffer = subst AreBuffers (sym (parts_typed types ordered id (ty.Vector element) there)) (λ u e. owner_first u e)
buffer_other types ordered _ id there buffer = absurd (false≢true buffer)

-- ---- by its tree

neither : (a b : Bool) → a ≡ false → b ≡ false → (a || b) ≡ false
neither true b e h = e
neither false b e h = h

plain_holds_none : (t : TypeTree) → is_plain t ≡ true → holds_unique t ≡ false
plain_holds_none (trees.Unique target) e = absurd (false≢true e)
plain_holds_none (trees.Member first others) e =
    let both = and_parts (is_plain first) (is_plain others) e in
    neither (holds_unique first) (holds_unique others) (plain_holds_none first both.0) (plain_holds_none others both.1)
plain_holds_none _ e = refl

not_held : (b : Bool) → not b ≡ true → b ≡ false
not_held true h = absurd (false≢true h)
not_held false h = refl

module _ (types : Types) (f : Function) (rest : ℕ → ℕ) (inputs : Root → Option Region) (S : Fact → Type 0) (st : State) (k : IsKnownFrame types f rest inputs S st) where
  -- what may stand and holds none
  stands_other : (id : TyId) → may_stand (tree_at types id) ≡ true → holds_unique (tree_at types id) ≡ false → IsOther types id
  stands_other id stand none = free_buffers (parts_at types id) (copied_free types k.ordered id stand none)

  -- a character
  characters_other : IsOther types (characters_type types)
  characters_other u e = absurd (unlike_plain (sym (ap (λ (p : Parts). kind_in p u) (character_parts types k.ordered)) ∙ e))

  -- what is plain
  plain_other : (id : TyId) → is_plain (tree_at types id) ≡ true → may_stand (tree_at types id) ≡ true → IsOther types id
  plain_other id plain stand = stands_other id stand (plain_holds_none (tree_at types id) plain)

  -- what is seen as such
  seen_other : (t id : TyId) → IsSeenAs types (Some t) id → IsOther types t → IsOther types id
  seen_other t id (inl same) other = subst (IsOther types) same other
  seen_other t id (inr character) other = subst (IsOther types) (sym character.1) characters_other

  -- ---- an operand

  -- that is copied
  pub copied_number : (o : Operand) → not (holds_unique (tree_if types (shapes.operand_type types f o))) ≡ true → (number : TyId) → operand_type types f o ≡ Some number → IsOther types number
  copied_number o free number typed =
      let is : shapes.operand_type types f o ≡ Some number = operand_same types k.ordered k.once 0 [] f k.shaped o ∙ typed in
      stands_other number (subst (λ (id : Option TyId). may_stand (tree_if types id) ≡ true) is (operand_stands types k.ordered f k.stand o))
      (not_held (holds_unique (tree_at types number)) (subst (λ (id : Option TyId). not (holds_unique (tree_if types id)) ≡ true) is free))

  module _ (o : Operand) (r : IsReached types f st (StandsAt inputs) (may_change types f) S o) (solid : is_void (type_of types f o) ≡ false) where
    of : IsOfType types (operand_type types f o) (type_of types f o)
    of = operand_of types k.ordered k.once 0 [] f k.shaped o (type_of types f o) refl solid

    reached_so : IsOther types of.number → IsOther types r.region.ty
    reached_so other = seen_other of.number r.region.ty (subst (λ (t : Option TyId). IsSeenAs types t r.region.ty) of.is r.seen) other

    pub copied_other : not (holds_unique (tree_if types (shapes.operand_type types f o))) ≡ true → IsOther types r.region.ty
    copied_other free = reached_so (copied_number o free of.number of.is)

    -- .. or is a vector or a string
    pub reached_other : has_buffer (type_of types f o) ≡ true → IsOther types r.region.ty
    reached_other buffer = reached_so (buffer_other types k.ordered (type_of types f o) of.number of.there buffer)

  -- ---- what a pointer points to: it is plain, or a character

  module _ (P : TyId → Type 0) (plain : (t : TyId) → is_plain (tree_at types t) ≡ true → may_stand (tree_at types t) ≡ true → P t) (character : P (characters_type types)) where
    seen_as : (t id : TyId) → IsSeenAs types (Some t) id → P t → P id
    seen_as t id (inl same) h = subst P same h
    seen_as t id (inr one) h = subst P (sym one.1) character

    pub pointed_as : (l : Location) (id : TyId) → IsSeenAs types (look_in types f l).target id → P id
    pointed_as l id seen =
        go (location_type types f l)
        (sym (ap (λ (i : Option TyId). may_stand (tree_if types i)) (operand_same types k.ordered k.once 0 [] f k.shaped (named.Name l))) ∙ members_stand types k.ordered l.members (shapes.local_type types f l.local) (k.stand l.local)) seen
      where
        by_type : (o : Option Ty) → may_stand (tree_of types (tree_at types) o) ≡ true → IsSeenAs types (seen_in types o) id → P id
        by_type (Some (ty.Raw t constant)) stand s = let both = and_parts (is_plain (tree_at types t)) (may_stand (tree_at types t)) stand in seen_as t id s (plain t both.0 both.1)
        by_type (Some (ty.Reference t constant)) stand s = let both = and_parts (is_plain (tree_at types t)) (may_stand (tree_at types t)) stand in seen_as t id s (plain t both.0 both.1)
        by_type (Some (ty.Iterator t constant)) stand s = let both = and_parts (is_plain (tree_at types t)) (may_stand (tree_at types t)) stand in seen_as t id s (plain t both.0 both.1)
        by_type (Some (ty.Span t constant)) stand s = let both = and_parts (is_plain (tree_at types t)) (may_stand (tree_at types t)) stand in seen_as t id s (plain t both.0 both.1)
        by_type (Some ty.View) stand s = seen_as (characters_type types) id s character
        by_type None stand s = absurd s
        by_type (Some _) stand s = absurd s

        go : (i : Option TyId) → may_stand (tree_if types i) ≡ true → IsSeenAs types (seen_type types i) id → P id
        go None stand s = absurd s
        go (Some t) stand s = by_type (slice_get types.types t.0) (sym (ap may_stand (tree_made types k.ordered t)) ∙ stand) s

  -- no unique_ptr
  pub pointed_other : (l : Location) (id : TyId) → IsSeenAs types (look_in types f l).target id → IsOther types id
  pointed_other l id seen = pointed_as (IsOther types) plain_other characters_other l id seen

  -- and it holds no pointer
  pub pointed_free : (l : Location) (id : TyId) → IsSeenAs types (look_in types f l).target id → HasNoPointer types id
  pointed_free l id seen = pointed_as (HasNoPointer types) (λ t plain stand u j h. plain_none (parts_at types t) (plain_free types k.ordered t plain) u j h) (λ u j h. unlike u j (sym (ap (λ (p : Parts). kind_in p u) (character_parts types k.ordered)) ∙ h)) l id seen
    where
      unlike : (u j : ℕ) → kind_in Single u ≡ Pointing j → ⊥
      unlike u j h = cc
