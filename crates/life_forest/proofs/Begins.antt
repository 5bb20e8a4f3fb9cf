-- The pointers of a member are those that the struct has at its words.
use Rattle.std.proofs.Common.{◌≡◌, ◌⊎◌, inl, inr, ⊎_elim, ℕ, zero, suc, ◌+◌, ◌<◌, List, [], ◌∷◌, take, Option, Some, None, refl, sym, ap, subst, ◌∙◌, arith}
use Rattle.std.proofs.lemmas.List.Sums.{sum_by-cons}
use Rattle.std.specs.Prelude.{slice_get, sum_by}
use Rattle.life_types.specs.Trees.{AllBelow, HasMembersBelow, HasPartsBelow, IsOrdered, members_at}
use Rattle.life_types.specs.Types.{Types}
use Rattle.life_types.specs.declared.ty.Ty.{Ty}
use Rattle.life_types.specs.declared.ty.Ty.TheVariants as ty
use Rattle.life_types.specs.declared.ty.TyId.{TyId}
use Rattle.life_store.specs.Kinds.{row_behind}
use Rattle.life_store.specs.Parts.{Parts, Single, Raw, Iterates, Views, Text, Vector, Unique, Member, NoMember, members_if, members_of, parts_at, parts_of, struct_of, type_within, width, width_at, word_within}
use Rattle.life_store.proofs.CellLemmas.{none_some, some_same}
use Rattle.life_forest.specs.Begins.{begins_at, begins_of, begins_within, struct_begins}
use Rattle.life_forest.proofs.Laying.{parts_made}
use Rattle.life_forest.proofs.Members.{path_within}
use Rattle.life_forest.proofs.StandingPointers.{IsPointer}

-- ---- rows

-- a row behind so many words of another: one of both has the word
pub row_cases : {A : Type 0} (n : ℕ) (f g : ℕ → A) (u : ℕ) → ((u < n) × (row_behind n f g u ≡ f u)) ⊎ ((v : ℕ) × (u ≡ n + v) × (row_behind n f g u ≡ g v))
row_cases zero f g u = inr (u, omega arith, refl)
row_cases (suc n) f g zero = inl (omega arith, refl)
row_cases (suc n) f g (suc u) = ⊎_elim (λ h. inl (let l = h.0 in omega arith, h.1)) (λ h. inr (h.0, let e = h.1 in omega (arith, e), h.2)) (row_cases n (λ v. f (suc v)) g u)

pub in_front : {A : Type 0} (n : ℕ) (f g : ℕ → A) (u : ℕ) → u < n → row_behind n f g u ≡ f u
in_front n f g u lt = ⊎_elim (λ h. h.1) (λ h. let e = h.1 in absurd (omega (arith, lt, e))) (row_cases n f g u)

pub behind : {A : Type 0} (n : ℕ) (f g : ℕ → A) (u w : ℕ) → w ≡ n + u → row_behind n f g w ≡ g u
behind n f g u w is = ⊎_elim (λ h. let l = h.0 in absurd (omega (arith, is, l))) (λ h. let e = h.1 in let s : h.0 ≡ u = omega (arith, is, e) in h.2 ∙ ap g s) (row_cases n f g w)

pub row_same : {A : Type 0} (n : ℕ) (f f' g g' : ℕ → A) (u : ℕ) → ((v : ℕ) → f v ≡ f' v) → ((v : ℕ) → g v ≡ g' v) → row_behind n f g u ≡ row_behind n f' g' u
row_same zero f f' g g' u first others = others u
row_same (suc n) f f' g g' zero first others = first zero
row_same (suc n) f f' g g' (suc u) first others = row_same n (λ v. f (suc v)) (λ v. f' (suc v)) g g' u (λ v. first (suc v)) others

wide : (p : Parts) → IsPointer p → 0 < width p
wide Raw is = omega arith
wide Iterates is = omega arith
wide Views is = omega arith
wide Single is = absurd is
wide (Text id) is = absurd is
wide (Vector id element) is = absurd is
wide (Unique id target) is = absurd is
wide (Member first others) is = absurd is
wide NoMember is = absurd is

module _ (types : Types) where
  same_struct : (f g : TyId → ℕ → Option TyId) (n : ℕ) (ids : List TyId) → AllBelow n ids → ((id : TyId) → id.0 < n → (v : ℕ) → f id v ≡ g id v) → (u : ℕ) → struct_begins types f ids u ≡ struct_begins types g ids u
  same_struct f g n [] below same u = refl
  same_struct f g n (id ∷ ids) below same u =
      row_same (width_at types id) (f id) (g id) (struct_begins types f ids) (struct_begins types g ids) u (λ v. same id below.0 v) (λ v. same_struct f g n ids below.1 same v)

  same_members : (f g : TyId → ℕ → Option TyId) (n number : ℕ) → HasMembersBelow types n number → ((id : TyId) → id.0 < n → (v : ℕ) → f id v ≡ g id v) → (u : ℕ) → struct_begins types f (members_at types number) u ≡ struct_begins types g (members_at types number) u
  same_members f g n number h same u = rw (h.there) (same_struct f g n h.members h.below same u)

  same_begins : (f g : TyId → ℕ → Option TyId) (n : ℕ) (id : TyId) (t : Ty) → HasPartsBelow types n t → ((x : TyId) → x.0 < n → (v : ℕ) → f x v ≡ g x v) → (u : ℕ) → begins_of types f id (Some t) u ≡ begins_of types g id (Some t) u
  same_begins f g n id (ty.Struct number) below same u = same_members f g n number below same u
  same_begins f g n id _ below same u = refl

module _ (types : Types) (ordered : IsOrdered types) where
  -- ---- a number is deep enough

  enough : (m n : ℕ) (id : TyId) → id.0 < m → id.0 < n → (u : ℕ) → begins_within m types id u ≡ begins_within n types id u
  enough zero n id deep deep' u = absurd (omega arith)
  enough (suc m) zero id deep deep' u = absurd (omega arith)
  enough (suc m) (suc n) id deep deep' u = go (λ part below v. enough m n part (omega arith) (omega arith) v) (slice_get types.types id.0) refl
    where
      go : ((part : TyId) → part.0 < id.0 → (v : ℕ) → begins_within m types part v ≡ begins_within n types part v) → (o : Option Ty) → slice_get types.types id.0 ≡ o → begins_of types (begins_within m types) id o u ≡ begins_of types (begins_within n types) id o u
      go same None e = refl
      go same (Some t) e = same_begins types (begins_within m types) (begins_within n types) id.0 id t (ordered.parts id.0 t e) same u

  pub begins_made : (id : TyId) (u : ℕ) → begins_at types id u ≡ begins_of types (begins_at types) id (slice_get types.types id.0) u
  begins_made id u = go (slice_get types.types id.0) refl
    where
      go : (o : Option Ty) → slice_get types.types id.0 ≡ o → begins_of types (begins_within id.0 types) id o u ≡ begins_of types (begins_at types) id o u
      go None e = refl
      go (Some t) e = same_begins types (begins_within id.0 types) (begins_at types) id.0 id t (ordered.parts id.0 t e) (λ part below v. enough id.0 (suc part.0) part below (omega arith) v) u

  -- ---- a pointer begins where it does

  pub begins_itself : (id : TyId) → IsPointer (parts_at types id) → begins_at types id 0 ≡ Some id
  begins_itself id pointer = begins_made id 0 ∙ go (slice_get types.types id.0) refl (subst IsPointer (parts_made types ordered id) pointer)
    where
      struct : (ids : List TyId) → IsPointer (struct_of (parts_at types) ids) → ⊥
      struct [] h = h
      struct (x ∷ xs) h = h

      go : (o : Option Ty) → slice_get types.types id.0 ≡ o → IsPointer (parts_of types (parts_at types) o) → begins_of types (begins_at types) id o 0 ≡ Some id
      go (Some ty.View) e h = refl
      go (Some (ty.Raw target constant)) e h = refl
      go (Some (ty.Reference target constant)) e h = refl
      go (Some (ty.Iterator target constant)) e h = refl
      go (Some (ty.Span target constant)) e h = refl
      go (Some (ty.Struct number)) e h = absurd (struct (members_at types number) h)
      go None e h = absurd h
      go (Some _) e h = absurd h

  -- ---- members

  nothing : (u : ℕ) → 0 + u ≡ u
  nothing u = omega arith

  -- the pointers of a part that lies at the word
  abbrev pub BeginsWithin : TyId → ℕ → TyId → Type 0
  BeginsWithin whole w part = (u : ℕ) → u < width_at types part → begins_at types whole (w + u) ≡ begins_at types part u

  member_begins : (ids : List TyId) (m : ℕ) (id : TyId) → slice_get ids m ≡ Some id → (u : ℕ) → u < width_at types id → struct_begins types (begins_at types) ids (sum_by (width_at types) (take m ids) + u) ≡ begins_at types id u
  member_begins [] m id e u lt = absurd (none_some e)
  member_begins (x ∷ xs) zero id e u lt =
      let same : x ≡ id = some_same e in
      ap (struct_begins types (begins_at types) (x ∷ xs)) (nothing u)
      ∙ in_front (width_at types x) (begins_at types x) (struct_begins types (begins_at types) xs) u (subst (λ y. u < width_at types y) (sym same) lt)
      ∙ ap (λ y. begins_at types y u) same
  member_begins (x ∷ xs) (suc m) id e u lt =
      let s = sum_by-cons (width_at types) x (take m xs) in
      behind (width_at types x) (begins_at types x) (struct_begins types (begins_at types) xs) (sum_by (width_at types) (take m xs) + u) (sum_by (width_at types) (x ∷ take m xs) + u) (omega (arith, s))
      ∙ member_begins xs m id e u lt

  -- the type has such members
  member_at : (id part : TyId) (m : ℕ) → slice_get (members_of types id) m ≡ Some part → BeginsWithin id (sum_by (width_at types) (take m (members_of types id))) part
  member_at id part m there u lt = begins_made id (sum_by (width_at types) (take m (members_of types id)) + u) ∙ go (slice_get types.types id.0) there
    where
      go : (o : Option Ty) → slice_get (members_if types o) m ≡ Some part → begins_of types (begins_at types) id o (sum_by (width_at types) (take m (members_if types o)) + u) ≡ begins_at types part u
      go (Some (ty.Struct number)) e = member_begins (members_at types number) m part e u lt
      go None e = absurd (none_some e)
      go (Some _) e = absurd (none_some e)

  -- a member of a member, and so on
  pub path_begins : (id part : TyId) (ms : List ℕ) → type_within types (Some id) ms ≡ Some part → BeginsWithin id (word_within types (Some id) ms) part
  path_begins id part [] e u lt = ap (begins_at types id) (nothing u) ∙ ap (λ y. begins_at types y u) (some_same e)
  path_begins id part (m ∷ ms) e u lt = go (slice_get (members_of types id) m) refl e (λ x h v less. path_begins x part ms h v less)
    where
      nowhere : (ns : List ℕ) → type_within types None ns ≡ Some part → ⊥
      nowhere [] k = none_some k
      nowhere (n ∷ ns) k = none_some k

      go : (x : Option TyId) → slice_get (members_of types id) m ≡ x → type_within types x ms ≡ Some part → ((y : TyId) → type_within types (Some y) ms ≡ Some part → BeginsWithin y (word_within types (Some y) ms) part)
          → begins_at types id ((sum_by (width_at types) (take m (members_of types id)) + word_within types x ms) + u) ≡ begins_at types part u
      go None there h rest = absurd (nowhere ms h)
      go (Some x) there h rest =
          let inner = path_within types ordered x part ms h in
          let fits = inner.fits in
          ap (begins_at types id) (again (sum_by (width_at types) (take m (members_of types id))) (word_within types (Some x) ms))
          ∙ member_at id x m there (word_within types (Some x) ms + u) (omega (arith, fits, lt))
          ∙ rest x h u lt
        where
          again : (a b : ℕ) → (a + b) + u ≡ a + (b + u)
          again a b = omega arith

  -- a pointer that is a member begins at its word
  pub pointer_begins : (id part : TyId) (ms : List ℕ) → type_within types (Some id) ms ≡ Some part → IsPointer (parts_at types part) → begins_at types id (word_within types (Some id) ms) ≡ Some part
  pointer_begins id part ms e pointer =
      ap (begins_at types id) (end (word_within types (Some id) ms)) ∙ path_begins id part ms e 0 (wide (parts_at types part) pointer) ∙ begins_itself part pointer
    where
      end : (w : ℕ) → w ≡ w + 0
      end w = omega arith
