-- A plain type has no words of a pointer, and what a pointer points to is plain, with all of its members.
use Rattle.std.proofs.Common.{◌≡◌, ⊎_elim, ℕ, zero, suc, ◌<◌, true, List, [], ◌∷◌, Option, Some, None, refl, sym, ap, subst, ◌∙◌, arith}
use Rattle.std.proofs.lemmas.Bool.{and_parts, false≢true}
use Rattle.std.specs.Prelude.{slice_get}
use Rattle.life_types.specs.Pointees.{or_void}
use Rattle.life_types.specs.Trees.{AllBelow, HasPartsBelow, IsOrdered, is_plain, members_at, tree_at, tree_of}
use Rattle.life_types.specs.Trees as tree
use Rattle.life_types.specs.Types.{Types}
use Rattle.life_types.specs.declared.ty.Ty.{Ty}
use Rattle.life_types.specs.declared.ty.Ty.TheVariants as ty
use Rattle.life_types.specs.declared.ty.TyId.{TyId}
use Rattle.life_types.proofs.TreeLemmas.{tree_made}
use Rattle.life_core.specs.Function.{Function}
use Rattle.life_core.specs.Operands.{Location}
use Rattle.life_pset.specs.Shapes.{local_type, location_type, member_of, member_type, members_type, operand_type, target_of, target_type, tree_if}
use Rattle.life_core.specs.Operands.{Through}
use Rattle.life_proper.specs.WellFormedPrograms.{may_stand}
use Rattle.life_store.specs.Kinds.{kind_in}
use Rattle.life_store.specs.Parts.{Parts, Single, Text, Vector, characters_type, parts_at, parts_of, struct_of, width, width_at}
use Rattle.life_forest.proofs.Begins.{row_cases}
use Rattle.life_forest.proofs.CopiedTypes.{LocalsStand, members_stand}
use Rattle.life_forest.proofs.Laying.{parts_made}
use Rattle.life_forest.proofs.WrittenPointers.{IsNoPointer}

-- no word of a value of these parts is a pointer's
abbrev pub HasNoPointer : Parts → Type 0
HasNoPointer p = (u : ℕ) → u < width p → IsNoPointer (kind_in p u)

pub single_free : (p : Parts) → width p ≡ 1 → IsNoPointer (kind_in p 0) → HasNoPointer p
single_free p one free zero lt = free
single_free p one free (suc u) lt = absurd (omega (arith, one, lt))

module _ (types : Types) (ordered : IsOrdered types) where
  struct_free : (n : ℕ) (ids : List TyId) → AllBelow n ids → ((id : TyId) → id.0 < n → is_plain (tree_at types id) ≡ true → HasNoPointer (parts_at types id)) → is_plain (tree.struct_of (tree_at types) ids) ≡ true → HasNoPointer (struct_of (parts_at types) ids)
  struct_free n [] below each e u lt = tt
  struct_free n (id ∷ ids) below each e u lt =
      let both = and_parts (is_plain (tree_at types id)) (is_plain (tree.struct_of (tree_at types) ids)) e in
      ⊎_elim
      (λ h. subst IsNoPointer (sym h.1) (each id below.0 both.0 u h.0))
      (λ h. let k = h.1 in subst IsNoPointer (sym h.2) (struct_free n ids below.1 each both.1 h.0 (omega (arith, lt, k))))
      (row_cases (width_at types id) (kind_in (parts_at types id)) (kind_in (struct_of (parts_at types) ids)) u)

  parts_free : (t : Ty) (n : ℕ) → HasPartsBelow types n t → ((id : TyId) → id.0 < n → is_plain (tree_at types id) ≡ true → HasNoPointer (parts_at types id)) → is_plain (tree_of types (tree_at types) (Some t)) ≡ true → HasNoPointer (parts_of types (parts_at types) (Some t))
  parts_free ty.Text n below each e = single_free (Text (characters_type types)) refl tt
  parts_free (ty.Vector element) n below each e = single_free (Vector element (parts_at types element)) refl tt
  parts_free (ty.Struct number) n below each e = struct_free n (members_at types number) (rw (below.there) (below.below)) each e
  parts_free (ty.Unique target) n below each e = absurd (false≢true e)
  parts_free ty.View n below each e = absurd (false≢true e)
  parts_free (ty.Raw target constant) n below each e = absurd (false≢true e)
  parts_free (ty.Reference target constant) n below each e = absurd (false≢true e)
  parts_free (ty.Iterator target constant) n below each e = absurd (false≢true e)
  parts_free (ty.Span target constant) n below each e = absurd (false≢true e)
  parts_free ty.Void n below each e = single_free Single refl tt
  parts_free ty.Bool n below each e = single_free Single refl tt
  parts_free ty.Char n below each e = single_free Single refl tt
  parts_free ty.Int n below each e = single_free Single refl tt
  parts_free ty.Long n below each e = single_free Single refl tt
  parts_free ty.Size n below each e = single_free Single refl tt

  free_within : (n : ℕ) (id : TyId) → id.0 < n → is_plain (tree_at types id) ≡ true → HasNoPointer (parts_at types id)
  free_within zero id lt e = absurd (omega (arith, lt))
  free_within (suc n) id lt e = subst HasNoPointer (sym (parts_made types ordered id)) (go (λ part below h. free_within n part (omega (arith, below, lt)) h) (slice_get types.types id.0) refl (sym (ap is_plain (tree_made types ordered id)) ∙ e))
    where
      go : ((part : TyId) → part.0 < id.0 → is_plain (tree_at types part) ≡ true → HasNoPointer (parts_at types part)) → (o : Option Ty) → slice_get types.types id.0 ≡ o → is_plain (tree_of types (tree_at types) o) ≡ true → HasNoPointer (parts_of types (parts_at types) o)
      go each None there h = single_free Single refl tt
      go each (Some t) there h = parts_free t id.0 (ordered.parts id.0 t there) each h

  pub plain_free : (id : TyId) → is_plain (tree_at types id) ≡ true → HasNoPointer (parts_at types id)
  plain_free id e = free_within (suc id.0) id (omega arith) e

  -- ---- what a pointer points to, and its members

  abbrev IsPlainType : Option TyId → Type 0
  IsPlainType id = is_plain (tree_if types id) ≡ true

  struct_plain : (ids : List TyId) (m : ℕ) → is_plain (tree.struct_of (tree_at types) ids) ≡ true → IsPlainType (slice_get ids m)
  struct_plain [] m e = refl
  struct_plain (id ∷ ids) zero e = (and_parts (is_plain (tree_at types id)) (is_plain (tree.struct_of (tree_at types) ids)) e).0
  struct_plain (id ∷ ids) (suc m) e = struct_plain ids m (and_parts (is_plain (tree_at types id)) (is_plain (tree.struct_of (tree_at types) ids)) e).1

  member_plain : (id : Option TyId) (m : ℕ) → IsPlainType id → IsPlainType (member_type types id m)
  member_plain None m e = refl
  member_plain (Some id) m e = go (slice_get types.types id.0) (sym (ap is_plain (tree_made types ordered id)) ∙ e)
    where
      go : (o : Option Ty) → is_plain (tree_of types (tree_at types) o) ≡ true → IsPlainType (member_of types (or_void o) m)
      go (Some (ty.Struct number)) h = struct_plain (members_at types number) m h
      go None h = refl
      go (Some _) h = refl

  members_plain : (ms : List ℕ) (id : Option TyId) → IsPlainType id → IsPlainType (members_type types id ms)
  members_plain [] id e = e
  members_plain (m ∷ ms) id e = members_plain ms (member_type types id m) (member_plain id m e)

  target_plain : (id : Option TyId) → may_stand (tree_if types id) ≡ true → IsPlainType (target_type types id)
  target_plain None e = refl
  target_plain (Some id) e = go (slice_get types.types id.0) (sym (ap may_stand (tree_made types ordered id)) ∙ e)
    where
      go : (o : Option Ty) → may_stand (tree_of types (tree_at types) o) ≡ true → IsPlainType (target_of (or_void o))
      go (Some (ty.Raw target constant)) h = (and_parts (is_plain (tree_at types target)) (may_stand (tree_at types target)) h).0
      go (Some (ty.Reference target constant)) h = (and_parts (is_plain (tree_at types target)) (may_stand (tree_at types target)) h).0
      go (Some (ty.Iterator target constant)) h = (and_parts (is_plain (tree_at types target)) (may_stand (tree_at types target)) h).0
      go (Some (ty.Span target constant)) h = (and_parts (is_plain (tree_at types target)) (may_stand (tree_at types target)) h).0
      go None h = refl
      go (Some _) h = refl

  pub through_plain : (f : Function) → LocalsStand types ordered f → (p : Location) (members : List ℕ) → is_plain (tree_if types (operand_type types f (Through p members))) ≡ true
  through_plain f stand p members =
      members_plain members (target_type types (location_type types f p)) (target_plain (location_type types f p) (members_stand types ordered p.members (local_type types f p.local) (stand p.local)))
