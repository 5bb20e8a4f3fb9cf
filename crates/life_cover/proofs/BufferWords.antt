-- Which words of a value are those of vectors and strings, and when each of them has its buffer.
use Rattle.std.proofs.Common.{◌≡◌, ◌⊎◌, ⊎_elim, inl, inr, ℕ, zero, suc, ◌+◌, ◌<◌, true, false, List, [], ◌∷◌, ◌++◌, length, Option, Some, None, refl, sym, ap, subst, ◌∙◌, arith}
use Rattle.std.specs.Prelude.{drop, slice_get, slice_index, slice_set, sum_by, take}
use Rattle.std.proofs.lemmas.Bool.{false≢true}
use Rattle.std.proofs.lemmas.List.Sums.{sum_by-cons}
use Rattle.life_types.specs.Trees.{IsOrdered, members_at}
use Rattle.life_types.specs.Types.{Types}
use Rattle.life_types.specs.declared.ty.Ty.{Ty}
use Rattle.life_types.specs.declared.ty.Ty.TheVariants as ty
use Rattle.life_types.specs.declared.ty.TyId.{TyId}
use Rattle.life_store.specs.Held.{owned_in}
use Rattle.life_store.specs.Kinds.{Owner, kind_in}
use Rattle.life_store.specs.Parts.{Parts, Single, Raw, Iterates, Views, Text, Vector, Unique, Member, NoMember, members_if, members_of, parts_at, parts_of, struct_of, width, width_at}
use Rattle.life_store.proofs.CellLemmas.{none_some, some_same}
use Rattle.life_forest.proofs.Begins.{behind, in_front, row_cases}
use Rattle.life_forest.proofs.Laying.{parts_made}
use Rattle.life_forest.proofs.Members.{member_within}
use Rattle.life_cover.specs.Buffered.{HasBuffers, is_buffer_at, is_first}
use Rattle.life_cover.specs.Regions.{HasPart, itself, member_part}

-- ---- values of one kind

pub bufferless : (p : Parts) → ((u : ℕ) → is_buffer_at p u ≡ false) → (ws : List ℕ) → HasBuffers p ws
bufferless p none ws u e = absurd (false≢true (sym (none u) ∙ e))

first_is : (P : ℕ → Type 0) (u : ℕ) → is_first u ≡ true → P 0 → P u
first_is P zero e h = h
first_is P (suc u) e h = absurd (false≢true e)

pub text_has : (id : TyId) (ws : List ℕ) (m : ℕ) → owned_in (slice_index ws 0) ≡ Some m → HasBuffers (Text id) ws
text_has id ws m owned u e = first_is (λ v. (b : ℕ) × (owned_in (slice_index ws v) ≡ Some b)) u e (m, owned)

pub vector_has : (id : TyId) (element : Parts) (ws : List ℕ) (m : ℕ) → owned_in (slice_index ws 0) ≡ Some m → HasBuffers (Vector id element) ws
vector_has id element ws m owned u e = first_is (λ v. (b : ℕ) × (owned_in (slice_index ws v) ≡ Some b)) u e (m, owned)

-- ---- words that are the same, and one that is written

pub same_has : (p : Parts) (ws vs : List ℕ) → ((u : ℕ) → is_buffer_at p u ≡ true → slice_index vs u ≡ slice_index ws u) → HasBuffers p ws → HasBuffers p vs
same_has p ws vs same has u e = let b = has u e in (b.0, ap owned_in (same u e) ∙ b.1)

pub set_cases_at : (ws : List ℕ) (w v u : ℕ) → ((u ≡ w) × (slice_index (slice_set ws w v) u ≡ v)) ⊎ (slice_index (slice_set ws w v) u ≡ slice_index ws u)
set_cases_at [] w v u = inr refl
set_cases_at (x ∷ xs) zero v zero = inl (refl, refl)
set_cases_at (x ∷ xs) zero v (suc u) = inr refl
set_cases_at (x ∷ xs) (suc w) v zero = inr refl
set_cases_at (x ∷ xs) (suc w) v (suc u) = ⊎_elim (λ h. inl (ap suc h.0, h.1)) (λ h. inr h) (set_cases_at xs w v u)

-- an owner that owns something may stand anywhere
pub set_has : (p : Parts) (ws : List ℕ) (w m : ℕ) → HasBuffers p ws → HasBuffers p (slice_set ws w (suc m))
set_has p ws w m has u e =
    ⊎_elim (λ new. (m, ap owned_in new.1)) (λ old. let b = has u e in (b.0, ap owned_in old ∙ b.1)) (set_cases_at ws w (suc m) u)

-- ---- such a word is an owner's, and one of the value's

pub buffer_owner : (p : Parts) (u : ℕ) → is_buffer_at p u ≡ true → kind_in p u ≡ Owner
buffer_owner (Text id) u e = first_is (λ v. kind_in (Text id) v ≡ Owner) u e refl
buffer_owner (Vector id element) u e = first_is (λ v. kind_in (Vector id element) v ≡ Owner) u e refl
buffer_owner (Member first others) u e =
    ⊎_elim (λ h. in_front (width first) (kind_in first) (kind_in others) u h.0 ∙ buffer_owner first u (sym h.1 ∙ e))
    (λ h. behind (width first) (kind_in first) (kind_in others) h.0 u h.1 ∙ buffer_owner others h.0 (sym h.2 ∙ e)) (row_cases (width first) (is_buffer_at first) (is_buffer_at others) u)
buffer_owner Single u e = absurd (false≢true e)
buffer_owner Raw u e = absurd (false≢true e)
buffer_owner Iterates u e = absurd (false≢true e)
buffer_owner Views u e = absurd (false≢true e)
buffer_owner (Unique id target) u e = absurd (false≢true e)
buffer_owner NoMember u e = absurd (false≢true e)

pub buffer_inside : (p : Parts) (u : ℕ) → is_buffer_at p u ≡ true → u < width p
buffer_inside (Text id) u e = first_is (λ v. v < 1) u e (omega arith)
buffer_inside (Vector id element) u e = first_is (λ v. v < 1) u e (omega arith)
buffer_inside (Member first others) u e =
    ⊎_elim (λ h. let lt = h.0 in omega (arith, lt))
    (λ h. let lt = buffer_inside others h.0 (sym h.2 ∙ e) in let is = h.1 in omega (arith, lt, is)) (row_cases (width first) (is_buffer_at first) (is_buffer_at others) u)
buffer_inside Single u e = absurd (false≢true e)
buffer_inside Raw u e = absurd (false≢true e)
buffer_inside Iterates u e = absurd (false≢true e)
buffer_inside Views u e = absurd (false≢true e)
buffer_inside (Unique id target) u e = absurd (false≢true e)
buffer_inside NoMember u e = absurd (false≢true e)

-- ---- parts

nil_index : (u : ℕ) → slice_index [] u ≡ 0
nil_index zero = refl
nil_index (suc u) = refl

pub drop_index : (ws : List ℕ) (w u v : ℕ) → v ≡ w + u → slice_index (drop w ws) u ≡ slice_index ws v
drop_index ws zero u v e = ap (slice_index ws) (omega (arith, e))
drop_index [] (suc w) u v e = nil_index u ∙ sym (nil_index v)
drop_index (x ∷ xs) (suc w) u zero e = absurd (omega (arith, e))
drop_index (x ∷ xs) (suc w) u (suc v) e = drop_index xs w u v (omega (arith, e))

pub take_index : (ws : List ℕ) (n u : ℕ) → u < n → slice_index (take n ws) u ≡ slice_index ws u
take_index ws zero u lt = absurd (omega (arith, lt))
take_index [] (suc n) u lt = refl
take_index (x ∷ xs) (suc n) zero lt = refl
take_index (x ∷ xs) (suc n) (suc u) lt = take_index xs n u (omega (arith, lt))

-- a struct has its buffers where its members have theirs
pub member_has : (first others : Parts) (ws : List ℕ) → HasBuffers first (take (width first) ws) → HasBuffers others (drop (width first) ws) → HasBuffers (Member first others) ws
member_has first others ws one two u e =
    ⊎_elim
    (λ h. let b = one u (sym h.1 ∙ e) in (b.0, ap owned_in (sym (take_index ws (width first) u h.0)) ∙ b.1))
    (λ h. let b = two h.0 (sym h.2 ∙ e) in (b.0, ap owned_in (sym (drop_index ws (width first) h.0 u h.1)) ∙ b.1))
    (row_cases (width first) (is_buffer_at first) (is_buffer_at others) u)

pub first_member : (first others : Parts) (ws : List ℕ) → HasBuffers (Member first others) ws → HasBuffers first (take (width first) ws)
first_member first others ws has u e =
    let lt = buffer_inside first u e in
    let b = has u (in_front (width first) (is_buffer_at first) (is_buffer_at others) u lt ∙ e) in
    (b.0, ap owned_in (take_index ws (width first) u lt) ∙ b.1)

pub other_members : (first others : Parts) (ws : List ℕ) → HasBuffers (Member first others) ws → HasBuffers others (drop (width first) ws)
other_members first others ws has u e =
    let b = has (width first + u) (behind (width first) (is_buffer_at first) (is_buffer_at others) u (width first + u) refl ∙ e) in
    (b.0, ap owned_in (drop_index ws (width first) u (width first + u) refl) ∙ b.1)

-- .. and of words one behind the other
pub append_front : (xs ys : List ℕ) (u : ℕ) → u < length xs → slice_index (xs ++ ys) u ≡ slice_index xs u
append_front [] ys u lt = absurd (omega (arith, lt))
append_front (x ∷ xs) ys zero lt = refl
append_front (x ∷ xs) ys (suc u) lt = append_front xs ys u (omega (arith, lt))

pub append_back : (xs ys : List ℕ) (u v : ℕ) → v ≡ length xs + u → slice_index (xs ++ ys) v ≡ slice_index ys u
append_back [] ys u v e = ap (slice_index ys) (omega (arith, e))
append_back (x ∷ xs) ys u zero e = absurd (omega (arith, e))
append_back (x ∷ xs) ys u (suc v) e = append_back xs ys u v (omega (arith, e))

pub joined_has : (first others : Parts) (xs ys : List ℕ) → length xs ≡ width first → HasBuffers first xs → HasBuffers others ys → HasBuffers (Member first others) (xs ++ ys)
joined_has first others xs ys wide one two u e =
    ⊎_elim
    (λ h. let b = one u (sym h.1 ∙ e) in (b.0, ap owned_in (append_front xs ys u (let lt = h.0 in omega (arith, lt, wide))) ∙ b.1))
    (λ h. let b = two h.0 (sym h.2 ∙ e) in (b.0, ap owned_in (append_back xs ys h.0 u (let is = h.1 in omega (arith, is, wide))) ∙ b.1))
    (row_cases (width first) (is_buffer_at first) (is_buffer_at others) u)

module _ (types : Types) where
  nothing : (u : ℕ) → 0 + u ≡ u
  nothing u = omega arith

  member_words : (ids : List TyId) (m : ℕ) (id : TyId) → slice_get ids m ≡ Some id → (u : ℕ) → u < width_at types id → is_buffer_at (struct_of (parts_at types) ids) (sum_by (width_at types) (take m ids) + u) ≡ is_buffer_at (parts_at types id) u
  member_words [] m id there u lt = absurd (none_some there)
  member_words (x ∷ xs) zero id there u lt =
      let same = some_same there in
      ap (is_buffer_at (struct_of (parts_at types) (x ∷ xs))) (nothing u)
      ∙ in_front (width_at types x) (is_buffer_at (parts_at types x)) (is_buffer_at (struct_of (parts_at types) xs)) u (subst (λ (i : TyId). u < width_at types i) (sym same) lt) ∙ ap (λ (i : TyId). is_buffer_at (parts_at types i) u) same
  member_words (x ∷ xs) (suc m) id there u lt =
      let sum = sum_by-cons (width_at types) x (take m xs) in
      behind (width_at types x) (is_buffer_at (parts_at types x)) (is_buffer_at (struct_of (parts_at types) xs)) (sum_by (width_at types) (take m xs) + u) (sum_by (width_at types) (take (suc m) (x ∷ xs)) + u) (omega (arith, sum))
      ∙ member_words xs m id there u lt

  module _ (ordered : IsOrdered types) where
    of_member : (o : Option Ty) (id part : TyId) (m : ℕ) → slice_get types.types id.0 ≡ o → slice_get (members_if types o) m ≡ Some part → (u : ℕ) → u < width_at types part
        → is_buffer_at (parts_at types id) (sum_by (width_at types) (take m (members_if types o)) + u) ≡ is_buffer_at (parts_at types part) u
    of_member (Some (ty.Struct number)) id part m e there u lt =
        ap (λ (p : Parts). is_buffer_at p (sum_by (width_at types) (take m (members_at types number)) + u)) (parts_made types ordered id ∙ ap (parts_of types (parts_at types)) e) ∙ member_words (members_at types number) m part there u lt
    of_member None id part m e there u lt = absurd (none_some there)
    of_member (Some _) id part m e there u lt = absurd (none_some there)

    begun : (w u : ℕ) → w ≡ 0 → w + u ≡ u
    begun w u e = omega (arith, e)

    moved : (w v s u : ℕ) → w ≡ v + s → w + u ≡ v + (s + u)
    moved w v s u e = omega (arith, e)

    pub part_words : (whole : TyId) (w : ℕ) (part : TyId) → HasPart types whole w part → (u : ℕ) → u < width_at types part → is_buffer_at (parts_at types whole) (w + u) ≡ is_buffer_at (parts_at types part) u
    part_words whole w part (itself _ _ word same) u lt = ap (is_buffer_at (parts_at types whole)) (begun w u word) ∙ ap (λ (i : TyId). is_buffer_at (parts_at types i) u) same
    part_words whole w part (member_part v _ m id _ has there word) u lt =
        ap (is_buffer_at (parts_at types whole)) (moved w v (sum_by (width_at types) (take m (members_of types id))) u word)
        ∙ part_words whole v id has (sum_by (width_at types) (take m (members_of types id)) + u) (inside id part m there u lt)
        ∙ of_member (slice_get types.types id.0) id part m refl there u lt
      where
        inside : (i q : TyId) (k : ℕ) → slice_get (members_of types i) k ≡ Some q → (x : ℕ) → x < width_at types q → sum_by (width_at types) (take k (members_of types i)) + x < width_at types i
        inside i q k e x less = let f = (member_within types ordered i q k e).fits in omega (arith, f, less)

    -- what has its buffers has them in each part
    pub part_has : (whole : TyId) (w : ℕ) (part : TyId) → HasPart types whole w part → (ws : List ℕ) → HasBuffers (parts_at types whole) ws → HasBuffers (parts_at types part) (drop w ws)
    part_has whole w part has ws buffers u e =
        let b = buffers (w + u) (part_words whole w part has u (buffer_inside (parts_at types part) u e) ∙ e) in
        (b.0, ap owned_in (drop_index ws w u (w + u) refl) ∙ b.1)
