-- A pointer that begins in the words of a type has five of them.
use Rattle.std.proofs.Common.{◌≡◌, ⊎_elim, ℕ, zero, suc, ◌+◌, ◌≤◌, ◌<◌, List, [], ◌∷◌, Option, Some, None, refl, sym, ap, subst, ◌∙◌, arith}
use Rattle.std.specs.Prelude.{slice_get}
use Rattle.life_types.specs.Trees.{AllBelow, IsOrdered, members_at}
use Rattle.life_types.specs.Types.{Types}
use Rattle.life_types.specs.declared.ty.Ty.{Ty}
use Rattle.life_types.specs.declared.ty.Ty.TheVariants as ty
use Rattle.life_types.specs.declared.ty.TyId.{TyId}
use Rattle.life_store.specs.Kinds.{Pointing, kind_in}
use Rattle.life_store.specs.Parts.{Parts, Raw, Iterates, Views, parts_at, parts_of, struct_of, width, width_at}
use Rattle.life_store.proofs.CellLemmas.{none_some}
use Rattle.life_forest.specs.Begins.{begins_at, begins_of, first_begins, struct_begins}
use Rattle.life_forest.proofs.Begins.{begins_made, behind, in_front, row_cases}
use Rattle.life_forest.proofs.Laying.{parts_made}

-- ---- the five words of a pointer that begins

pub record IsBegun (p : Parts) (u : ℕ) : Type 0 where
  pub fits : u + 5 ≤ width p
  pub words : (j : ℕ) → j < 5 → kind_in p (u + j) ≡ Pointing j

module _ (types : Types) (ordered : IsOrdered types) where
  begun_within : (n : ℕ) (id : TyId) → id.0 < n → (u : ℕ) (q : TyId) → begins_at types id u ≡ Some q → IsBegun (parts_at types id) u
  begun_within zero id lt u q e = absurd (omega arith)
  begun_within (suc n) id lt u q e =
      subst (λ (p : Parts). IsBegun p u) (sym (parts_made types ordered id)) (go (λ x below v r k. begun_within n x (omega arith) v r k) (slice_get types.types id.0) refl (sym (begins_made types ordered id u) ∙ e))
    where
      again : (j : ℕ) → Pointing (0 + j) ≡ Pointing j
      again j = let s : 0 + j ≡ j = omega arith in ap Pointing s

      first : (p : Parts) (v : ℕ) → 5 ≤ width p → ((j : ℕ) → kind_in p j ≡ Pointing j) → first_begins id v ≡ Some q → IsBegun p v
      first p zero five kinds h = record { fits = omega (arith, five); words = λ j less. kinds (0 + j) ∙ again j }
      first p (suc v) five kinds h = absurd (none_some h)

      struct : (xs : List TyId) → AllBelow id.0 xs → ((x : TyId) → x.0 < id.0 → (v : ℕ) (r : TyId) → begins_at types x v ≡ Some r → IsBegun (parts_at types x) v) → (v : ℕ) → struct_begins types (begins_at types) xs v ≡ Some q → IsBegun (struct_of (parts_at types) xs) v
      struct [] below each v h = absurd (none_some h)
      struct (x ∷ xs) below each v h = ⊎_elim (λ s. front s.0 s.1) (λ s. back s.0 s.1 (struct xs below.1 each s.0 (sym s.2 ∙ h))) (row_cases (width_at types x) (begins_at types x) (struct_begins types (begins_at types) xs) v)
        where
          front : v < width_at types x → struct_begins types (begins_at types) (x ∷ xs) v ≡ begins_at types x v → IsBegun (struct_of (parts_at types) (x ∷ xs)) v
          front less is =
              let b = each x below.0 v q (sym is ∙ h) in
              let f = b.fits in
              record {
                fits = omega (arith, f);
                words = λ j five. in_front (width_at types x) (kind_in (parts_at types x)) (kind_in (struct_of (parts_at types) xs)) (v + j) (omega (arith, f, five)) ∙ b.words j five;
              }

          back : (w : ℕ) → v ≡ width_at types x + w → IsBegun (struct_of (parts_at types) xs) w → IsBegun (struct_of (parts_at types) (x ∷ xs)) v
          back w is b =
              let f = b.fits in
              record {
                fits = omega (arith, f, is);
                words = λ j five. behind (width_at types x) (kind_in (parts_at types x)) (kind_in (struct_of (parts_at types) xs)) (w + j) (v + j) (omega (arith, is)) ∙ b.words j five;
              }

      go : ((x : TyId) → x.0 < id.0 → (v : ℕ) (r : TyId) → begins_at types x v ≡ Some r → IsBegun (parts_at types x) v) → (o : Option Ty) → slice_get types.types id.0 ≡ o → begins_of types (begins_at types) id o u ≡ Some q → IsBegun (parts_of types (parts_at types) o) u
      go each (Some ty.View) there h = first Views u (omega arith) (λ j. refl) h
      go each (Some (ty.Raw target constant)) there h = first Raw u (omega arith) (λ j. refl) h
      go each (Some (ty.Reference target constant)) there h = first Raw u (omega arith) (λ j. refl) h
      go each (Some (ty.Iterator target constant)) there h = first Iterates u (omega arith) (λ j. refl) h
      go each (Some (ty.Span target constant)) there h = first Views u (omega arith) (λ j. refl) h
      go each (Some (ty.Struct number)) there h = let below = ordered.parts id.0 (ty.Struct number) there in struct (members_at types number) (rw (below.there) (below.below)) each u h
      go each None there h = absurd (none_some h)
      go each (Some _) there h = absurd (none_some h)

  pub begun_at : (id : TyId) (u : ℕ) (q : TyId) → begins_at types id u ≡ Some q → IsBegun (parts_at types id) u
  begun_at id u q e = begun_within (suc id.0) id (omega arith) u q e
