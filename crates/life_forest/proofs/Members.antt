-- A member of a struct lies within it, behind the members before it; and so does a member of a member.
use Rattle.std.proofs.Common.{◌≡◌, ℕ, zero, suc, ◌+◌, ◌≤◌, ◌<◌, List, [], ◌∷◌, take, Option, Some, None, refl, sym, ap, subst, ◌∙◌, arith}
use Rattle.std.specs.Prelude.{slice_get, sum_by}
use Rattle.std.proofs.lemmas.List.Sums.{sum_by-cons}
use Rattle.life_types.specs.declared.ty.Ty.{Ty}
use Rattle.life_types.specs.declared.ty.Ty.TheVariants as ty
use Rattle.life_types.specs.declared.ty.TyId.{TyId}
use Rattle.life_types.specs.Trees.{members_at, IsOrdered}
use Rattle.life_types.specs.Types.{Types}
use Rattle.life_store.specs.Parts.{members_if, members_of, parts_at, parts_of, struct_of, type_within, width, width_at, word_within}
use Rattle.life_store.proofs.CellLemmas.{none_some, some_same}
use Rattle.life_forest.specs.Kinds.{owned_type}
use Rattle.life_store.specs.Kinds.{kind_in, row_behind}
use Rattle.life_forest.specs.Within.{LiesWithin}
use Rattle.life_forest.proofs.Laying.{parts_made}

-- ---- rows

row_front : {A : Type 0} (n : ℕ) (f g : ℕ → A) (u : ℕ) → u < n → row_behind n f g u ≡ f u
row_front zero f g u lt = absurd (omega arith)
row_front (suc n) f g zero lt = refl
row_front (suc n) f g (suc u) lt = row_front n (λ v. f (suc v)) g u (omega arith)

row_back : {A : Type 0} (n : ℕ) (f g : ℕ → A) (u w : ℕ) → w ≡ n + u → row_behind n f g w ≡ g u
row_back zero f g u w e = let s : w ≡ u = omega arith in ap g s
row_back (suc n) f g u zero e = absurd (omega arith)
row_back (suc n) f g u (suc w) e = row_back n (λ v. f (suc v)) g u w (omega arith)

-- ---- a value in itself, and in one that lies in another

pub within_self : (types : Types) (id : TyId) → LiesWithin types id 0 id
within_self types id = record {
  fits = omega arith;
  words = λ u lt. ap (kind_in (parts_at types id)) (nothing u);
  owners = λ u lt. ap (owned_type (parts_at types id)) (nothing u);
}
  where
    nothing : (u : ℕ) → 0 + u ≡ u
    nothing u = omega arith

pub within_then : (types : Types) (a b c : TyId) (w v : ℕ) → LiesWithin types a w b → LiesWithin types b v c → LiesWithin types a (w + v) c
within_then types a b c w v one two = record {
  fits = let x = one.fits in let y = two.fits in omega arith;
  words = λ u lt. ap (kind_in (parts_at types a)) (again u) ∙ one.words (v + u) (let y = two.fits in omega arith) ∙ two.words u lt;
  owners = λ u lt. ap (owned_type (parts_at types a)) (again u) ∙ one.owners (v + u) (let y = two.fits in omega arith) ∙ two.owners u lt;
}
  where
    again : (u : ℕ) → (w + v) + u ≡ w + (v + u)
    again u = omega arith

-- ---- members

module _ (types : Types) where
  pub record IsMember (ids : List TyId) (w : ℕ) (id : TyId) : Type 0 where
    pub fits : w + width_at types id ≤ width (struct_of (parts_at types) ids)
    pub words : (u : ℕ) → u < width_at types id → kind_in (struct_of (parts_at types) ids) (w + u) ≡ kind_in (parts_at types id) u
    pub owners : (u : ℕ) → u < width_at types id → owned_type (struct_of (parts_at types) ids) (w + u) ≡ owned_type (parts_at types id) u

  member_there : (ids : List TyId) (m : ℕ) (id : TyId) → slice_get ids m ≡ Some id → IsMember ids (sum_by (width_at types) (take m ids)) id
  member_there [] m id e = absurd (none_some e)
  member_there (x ∷ xs) zero id e =
      subst (IsMember (x ∷ xs) 0) (some_same e)
      (record {
        fits = omega arith;
        words = λ u lt. ap (kind_in (struct_of (parts_at types) (x ∷ xs))) (nothing u) ∙ row_front (width_at types x) (kind_in (parts_at types x)) (kind_in (struct_of (parts_at types) xs)) u lt;
        owners = λ u lt. ap (owned_type (struct_of (parts_at types) (x ∷ xs))) (nothing u) ∙ row_front (width_at types x) (owned_type (parts_at types x)) (owned_type (struct_of (parts_at types) xs)) u lt;
      })
    where
      nothing : (u : ℕ) → 0 + u ≡ u
      nothing u = omega arith
  member_there (x ∷ xs) (suc m) id e =
      subst (λ w. IsMember (x ∷ xs) w id) (sym (sum_by-cons (width_at types) x (take m xs))) (behind (member_there xs m id e))
    where
      behind : IsMember xs (sum_by (width_at types) (take m xs)) id → IsMember (x ∷ xs) (width_at types x + sum_by (width_at types) (take m xs)) id
      behind h = record {
        fits = let f = h.fits in omega arith;
        words = λ u lt.
            row_back (width_at types x) (kind_in (parts_at types x)) (kind_in (struct_of (parts_at types) xs)) (sum_by (width_at types) (take m xs) + u) ((width_at types x + sum_by (width_at types) (take m xs)) + u) (omega arith)
            ∙ h.words u lt;
        owners = λ u lt.
            row_back (width_at types x) (owned_type (parts_at types x)) (owned_type (struct_of (parts_at types) xs)) (sum_by (width_at types) (take m xs) + u) ((width_at types x + sum_by (width_at types) (take m xs)) + u) (omega arith)
            ∙ h.owners u lt;
      }

  module _ (ordered : IsOrdered types) where
    -- the type has such members
    member_of : (o : Option Ty) (id part : TyId) (m : ℕ) → slice_get types.types id.0 ≡ o → slice_get (members_if types o) m ≡ Some part → LiesWithin types id (sum_by (width_at types) (take m (members_if types o))) part
    member_of (Some (ty.Struct number)) id part m e there =
        let made : parts_at types id ≡ struct_of (parts_at types) (members_at types number) = parts_made types ordered id ∙ ap (parts_of types (parts_at types)) e in
        let h = member_there (members_at types number) m part there in
        record {
          fits = let f = h.fits in let w = ap width made in omega arith;
          words = λ u lt. ap (λ p. kind_in p (sum_by (width_at types) (take m (members_at types number)) + u)) made ∙ h.words u lt;
          owners = λ u lt. ap (λ p. owned_type p (sum_by (width_at types) (take m (members_at types number)) + u)) made ∙ h.owners u lt;
        }
    member_of None id part m e there = absurd (none_some there)
    member_of (Some _) id part m e there = absurd (none_some there)

    pub member_within : (id part : TyId) (m : ℕ) → slice_get (members_of types id) m ≡ Some part → LiesWithin types id (sum_by (width_at types) (take m (members_of types id))) part
    member_within id part m there = member_of (slice_get types.types id.0) id part m refl there

    -- a member of a member, and so on
    pub path_within : (id part : TyId) (ms : List ℕ) → type_within types (Some id) ms ≡ Some part → LiesWithin types id (word_within types (Some id) ms) part
    path_within id part [] e = subst (LiesWithin types id 0) (some_same e) (within_self types id)
    path_within id part (m ∷ ms) e = go (λ x h. path_within x part ms h) (slice_get (members_of types id) m) refl e
      where
        go : ((x : TyId) → type_within types (Some x) ms ≡ Some part → LiesWithin types x (word_within types (Some x) ms) part) → (x : Option TyId) → slice_get (members_of types id) m ≡ x → type_within types x ms ≡ Some part → LiesWithin types id (sum_by (width_at types) (take m (members_of types id)) + word_within types x ms) part
        go rest None there h = absurd (nowhere ms h)
          where
            nowhere : (ns : List ℕ) → type_within types None ns ≡ Some part → ⊥
            nowhere [] k = none_some k
            nowhere (n ∷ ns) k = none_some k
        go rest (Some x) there h = within_then types id x part (sum_by (width_at types) (take m (members_of types id))) (word_within types (Some x) ms) (member_within id x m there) (rest x h)
