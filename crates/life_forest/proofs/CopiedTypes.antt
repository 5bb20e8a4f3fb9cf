-- What a well-formed instruction copies holds no unique_ptr, nor do the elements of vectors in it.
use Rattle.std.proofs.Common.{◌≡◌, ℕ, zero, suc, ◌<◌, Bool, true, false, ◌||◌, List, [], ◌∷◌, Option, Some, None, refl, sym, ap, subst, ◌∙◌, arith}
use Rattle.std.proofs.lemmas.Bool.{and_parts, false≢true}
use Rattle.std.specs.Prelude.{slice_get}
use Rattle.life_types.specs.Pointees.{or_void}
use Rattle.life_types.specs.Trees.{AllBelow, HasPartsBelow, IsOrdered, TypeTree, holds_unique, is_plain, members_at, tree_at, tree_of}
use Rattle.life_types.specs.Trees as tree
use Rattle.life_types.specs.Types.{Types}
use Rattle.life_types.specs.declared.ty.Ty.{Ty}
use Rattle.life_types.specs.declared.ty.Ty.TheVariants as ty
use Rattle.life_types.specs.declared.ty.TyId.{TyId}
use Rattle.life_types.proofs.TreeLemmas.{tree_made}
use Rattle.life_core.specs.Function.{Function}
use Rattle.life_core.specs.Operands.{Operand, Name, Through}
use Rattle.life_pset.specs.Shapes.{local_type, location_type, member_of, member_type, members_type, operand_type, target_of, target_type, tree_if}
use Rattle.life_proper.specs.WellFormedPrograms.{is_member, may_stand}
use Rattle.life_store.specs.Parts.{Parts, Single, Raw, Iterates, Views, Text, Vector, Unique, Member, NoMember, parts_at, parts_of, struct_of}
use Rattle.life_forest.proofs.Laying.{parts_made}

-- no unique_ptr is copied with a value of these parts
abbrev pub NoUnique : Parts → Type 0
NoUnique Single = Unit {0}
NoUnique Raw = Unit {0}
NoUnique Iterates = Unit {0}
NoUnique Views = Unit {0}
NoUnique (Text id) = Unit {0}
NoUnique (Vector id element) = NoUnique element
NoUnique (Unique id target) = ⊥
NoUnique (Member first others) = NoUnique first × NoUnique others
NoUnique NoMember = Unit {0}

or_both : (a b : Bool) → (a || b) ≡ false → (a ≡ false) × (b ≡ false)
or_both true b e = absurd (false≢true (sym e))
or_both false b e = (refl, e)

module _ (types : Types) (ordered : IsOrdered types) where
  -- ---- plain types

  plain_struct : (n : ℕ) (ids : List TyId) → AllBelow n ids → ((id : TyId) → id.0 < n → is_plain (tree_at types id) ≡ true → NoUnique (parts_at types id)) → is_plain (tree.struct_of (tree_at types) ids) ≡ true → NoUnique (struct_of (parts_at types) ids)
  plain_struct n [] below each e = tt
  plain_struct n (id ∷ ids) below each e =
      let both = and_parts (is_plain (tree_at types id)) (is_plain (tree.struct_of (tree_at types) ids)) e in
      (each id below.0 both.0, plain_struct n ids below.1 each both.1)

  plain_parts : (t : Ty) (n : ℕ) → HasPartsBelow types n t → ((id : TyId) → id.0 < n → is_plain (tree_at types id) ≡ true → NoUnique (parts_at types id)) → is_plain (tree_of types (tree_at types) (Some t)) ≡ true → NoUnique (parts_of types (parts_at types) (Some t))
  plain_parts (ty.Vector element) n below each e = each element below e
  plain_parts (ty.Unique target) n below each e = absurd (false≢true e)
  plain_parts (ty.Struct number) n below each e = plain_struct n (members_at types number) (rw (below.there) (below.below)) each e
  plain_parts ty.Text n below each e = tt
  plain_parts ty.View n below each e = tt
  plain_parts (ty.Raw target constant) n below each e = tt
  plain_parts (ty.Reference target constant) n below each e = tt
  plain_parts (ty.Iterator target constant) n below each e = tt
  plain_parts (ty.Span target constant) n below each e = tt
  plain_parts ty.Void n below each e = tt
  plain_parts ty.Bool n below each e = tt
  plain_parts ty.Char n below each e = tt
  plain_parts ty.Int n below each e = tt
  plain_parts ty.Long n below each e = tt
  plain_parts ty.Size n below each e = tt

  plain_within : (n : ℕ) (id : TyId) → id.0 < n → is_plain (tree_at types id) ≡ true → NoUnique (parts_at types id)
  plain_within zero id lt e = absurd (omega arith)
  plain_within (suc n) id lt e = subst NoUnique (sym (parts_made types ordered id)) (go (λ part below h. plain_within n part (omega arith) h) (slice_get types.types id.0) refl (sym (ap is_plain (tree_made types ordered id)) ∙ e))
    where
      go : ((part : TyId) → part.0 < id.0 → is_plain (tree_at types part) ≡ true → NoUnique (parts_at types part)) → (o : Option Ty) → slice_get types.types id.0 ≡ o → is_plain (tree_of types (tree_at types) o) ≡ true → NoUnique (parts_of types (parts_at types) o)
      go each None there h = tt
      go each (Some t) there h = plain_parts t id.0 (ordered.parts id.0 t there) each h

  -- ---- types that may stand and hold no unique_ptr

  copied_struct : (n : ℕ) (ids : List TyId) → AllBelow n ids → ((id : TyId) → id.0 < n → may_stand (tree_at types id) ≡ true → holds_unique (tree_at types id) ≡ false → NoUnique (parts_at types id)) → may_stand (tree.struct_of (tree_at types) ids) ≡ true
      → holds_unique (tree.struct_of (tree_at types) ids) ≡ false → NoUnique (struct_of (parts_at types) ids)
  copied_struct n [] below each e free = tt
  copied_struct n (id ∷ ids) below each e free =
      let both = and_parts (may_stand (tree_at types id)) (may_stand (tree.struct_of (tree_at types) ids)) (and_parts (is_member (tree_at types id)) _ e).1 in
      let none = or_both (holds_unique (tree_at types id)) (holds_unique (tree.struct_of (tree_at types) ids)) free in
      (each id below.0 both.0 none.0, copied_struct n ids below.1 each both.1 none.1)

  copied_parts : (t : Ty) (n : ℕ) → HasPartsBelow types n t → ((id : TyId) → id.0 < n → may_stand (tree_at types id) ≡ true → holds_unique (tree_at types id) ≡ false → NoUnique (parts_at types id)) → may_stand (tree_of types (tree_at types) (Some t)) ≡ true
      → holds_unique (tree_of types (tree_at types) (Some t)) ≡ false → NoUnique (parts_of types (parts_at types) (Some t))
  copied_parts (ty.Vector element) n below each e free = plain_within (suc element.0) element (omega arith) (and_parts (is_plain (tree_at types element)) (may_stand (tree_at types element)) e).0
  copied_parts (ty.Unique target) n below each e free = absurd (false≢true (sym free))
  copied_parts (ty.Struct number) n below each e free = copied_struct n (members_at types number) (rw (below.there) (below.below)) each e free
  copied_parts ty.Text n below each e free = tt
  copied_parts ty.View n below each e free = tt
  copied_parts (ty.Raw target constant) n below each e free = tt
  copied_parts (ty.Reference target constant) n below each e free = tt
  copied_parts (ty.Iterator target constant) n below each e free = tt
  copied_parts (ty.Span target constant) n below each e free = tt
  copied_parts ty.Void n below each e free = tt
  copied_parts ty.Bool n below each e free = tt
  copied_parts ty.Char n below each e free = tt
  copied_parts ty.Int n below each e free = tt
  copied_parts ty.Long n below each e free = tt
  copied_parts ty.Size n below each e free = tt

  copied_within : (n : ℕ) (id : TyId) → id.0 < n → may_stand (tree_at types id) ≡ true → holds_unique (tree_at types id) ≡ false → NoUnique (parts_at types id)
  copied_within zero id lt e free = absurd (omega arith)
  copied_within (suc n) id lt e free =
      subst NoUnique (sym (parts_made types ordered id))
      (go (λ part below h k. copied_within n part (omega arith) h k) (slice_get types.types id.0) refl (sym (ap may_stand (tree_made types ordered id)) ∙ e) (sym (ap holds_unique (tree_made types ordered id)) ∙ free))
    where
      go : ((part : TyId) → part.0 < id.0 → may_stand (tree_at types part) ≡ true → holds_unique (tree_at types part) ≡ false → NoUnique (parts_at types part)) → (o : Option Ty) → slice_get types.types id.0 ≡ o → may_stand (tree_of types (tree_at types) o) ≡ true
          → holds_unique (tree_of types (tree_at types) o) ≡ false → NoUnique (parts_of types (parts_at types) o)
      go each None there h k = tt
      go each (Some t) there h k = copied_parts t id.0 (ordered.parts id.0 t there) each h k

  pub copied_free : (id : TyId) → may_stand (tree_at types id) ≡ true → holds_unique (tree_at types id) ≡ false → NoUnique (parts_at types id)
  copied_free id e free = copied_within (suc id.0) id (omega arith) e free

  -- ---- types that may stand, through members and targets

  abbrev pub MayStand : Option TyId → Type 0
  MayStand id = may_stand (tree_if types id) ≡ true

  struct_stands : (ids : List TyId) (m : ℕ) → may_stand (tree.struct_of (tree_at types) ids) ≡ true → MayStand (slice_get ids m)
  struct_stands [] m e = refl
  struct_stands (id ∷ ids) zero e = (and_parts (may_stand (tree_at types id)) _ (and_parts (is_member (tree_at types id)) _ e).1).0
  struct_stands (id ∷ ids) (suc m) e = struct_stands ids m (and_parts (may_stand (tree_at types id)) _ (and_parts (is_member (tree_at types id)) _ e).1).1

  member_stands : (id : Option TyId) (m : ℕ) → MayStand id → MayStand (member_type types id m)
  member_stands None m e = refl
  member_stands (Some id) m e = go (slice_get types.types id.0) (sym (ap may_stand (tree_made types ordered id)) ∙ e)
    where
      go : (o : Option Ty) → may_stand (tree_of types (tree_at types) o) ≡ true → MayStand (member_of types (or_void o) m)
      go (Some (ty.Struct number)) h = struct_stands (members_at types number) m h
      go None h = refl
      go (Some _) h = refl

  pub members_stand : (ms : List ℕ) (id : Option TyId) → MayStand id → MayStand (members_type types id ms)
  members_stand [] id e = e
  members_stand (m ∷ ms) id e = members_stand ms (member_type types id m) (member_stands id m e)

  target_stands : (id : Option TyId) → MayStand id → MayStand (target_type types id)
  target_stands None e = refl
  target_stands (Some id) e = go (slice_get types.types id.0) (sym (ap may_stand (tree_made types ordered id)) ∙ e)
    where
      go : (o : Option Ty) → may_stand (tree_of types (tree_at types) o) ≡ true → MayStand (target_of (or_void o))
      go (Some (ty.Raw target constant)) h = (and_parts (is_plain (tree_at types target)) (may_stand (tree_at types target)) h).1
      go (Some (ty.Reference target constant)) h = (and_parts (is_plain (tree_at types target)) (may_stand (tree_at types target)) h).1
      go (Some (ty.Iterator target constant)) h = (and_parts (is_plain (tree_at types target)) (may_stand (tree_at types target)) h).1
      go (Some (ty.Span target constant)) h = (and_parts (is_plain (tree_at types target)) (may_stand (tree_at types target)) h).1
      go None h = refl
      go (Some _) h = refl

  -- each local's type may stand
  abbrev pub LocalsStand : Function → Type 0
  LocalsStand f = (x : ℕ) → MayStand (local_type types f x)

  pub operand_stands : (f : Function) → LocalsStand f → (o : Operand) → MayStand (operand_type types f o)
  operand_stands f stand (Name l) = members_stand l.members (local_type types f l.local) (stand l.local)
  operand_stands f stand (Through p members) =
      members_stand members (target_type types (location_type types f p)) (target_stands (location_type types f p) (members_stand p.members (local_type types f p.local) (stand p.local)))
