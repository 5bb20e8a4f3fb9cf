-- What is kept of the paths into a type is made of what is kept of its parts.
use Rattle.std.proofs.Common.{◌≡◌, ℕ, zero, suc, ◌+◌, ◌<◌, ◌≤◌, max, min, Bool, true, false, nat_lt, List, [], ◌∷◌, ◌++◌, Some, None, length, slice_get, refl, sym, ap, ◌∙◌, ◌⊎◌, inl, inr, arith}
use Rattle.std.specs.Prelude.{unwrap_or}
use Rattle.std.proofs.lemmas.Bool.{lt-ltb, le-ltb}
use Rattle.std.proofs.lemmas.Bool.Decides.{nat_tests}
use Rattle.life_types.specs.Trees.{TypeTree, Vector, Unique, Member, members_at, struct_of, tree_of, tree_at, AllBelow, HasPartsBelow}
use Rattle.life_types.specs.Types.{Types}
use Rattle.life_types.specs.declared.ty.Ty.{Ty}
use Rattle.life_types.specs.declared.ty.Ty.TheVariants as ty
use Rattle.life_types.specs.declared.ty.TyId.{TyId}
use Rattle.life_pset.proofs.CandidateLemmas.{members_below, nowhere}
use Rattle.life_elab.specs.Paths.{longest, longest_behind, steps}
use Rattle.life_elab.specs.KeptPaths.{AreAllKept, AreKept, capped, kept, is_long, kept_at, none, of_members, of_members_from, of_type, owning, pointing, with_member}
use Rattle.life_elab.specs.declared.paths.Paths.{Paths}

pub same_paths : (p q : Paths) → p.own ≡ q.own → p.behind ≡ q.behind → p ≡ q
same_paths p q own behind = λ i. record { own = own i; behind = behind i }

-- ---- numbers

capped_more : (n : ℕ) → min (1 + min n 9) 9 ≡ min (1 + n) 9
capped_more n = omega arith

capped_most : (m n : ℕ) → max (min m 9) (min n 9) ≡ min (max m n) 9
capped_most m n = omega arith

capped_member : (m n k : ℕ) → max (max m (min (1 + min n 9) 9)) (min k 9) ≡ max m (min (max (1 + n) k) 9)
capped_member m n k = omega arith

most_more : (m n k : ℕ) → max (max m (min n 9)) (min k 9) ≡ max m (min (max n k) 9)
most_more m n k = omega arith

most_none : (n : ℕ) → n ≡ max n 0
most_none n = omega arith

none_most : (n : ℕ) → max 0 n ≡ n
none_most n = omega arith

is_more : (n : ℕ) → nat_lt 8 n ≡ true → 8 < n
is_more n is = grind (arith, nat_tests)

is_few : (n : ℕ) → nat_lt 8 n ≡ false → n ≤ 8
is_few n is = grind (arith, nat_tests)

long_capped : (n : ℕ) → is_long (capped n) ≡ is_long n
long_capped n = go (nat_lt 8 n) refl
  where
    go : (b : Bool) → nat_lt 8 n ≡ b → is_long (capped n) ≡ b
    go true is = let more = is_more n is in lt-ltb 8 (min n 9) (omega (arith, more))
    go false is = let few = is_few n is in le-ltb 8 (min n 9) (omega (arith, few))

-- a path is long where what is kept of it says so
pub long_kept : (p : Paths) (t : TypeTree) → p ≡ kept t → is_long (max p.own p.behind) ≡ is_long (steps t)
long_kept p t is = ap (λ (q : Paths). is_long (max q.own q.behind)) is ∙ ap is_long (capped_most (longest t) (longest_behind t)) ∙ long_capped (steps t)

-- ---- one type

owning_kept : (t : TypeTree) → owning (kept t) ≡ kept (Vector t)
owning_kept t = same_paths (owning (kept t)) (kept (Vector t)) (capped_more (longest t)) refl

owning_one : (t : TypeTree) → owning (kept t) ≡ kept (Unique t)
owning_one t = same_paths (owning (kept t)) (kept (Unique t)) (capped_more (longest t)) refl

-- members that were passed, and those that are left
abbrev joined : (passed rest : Paths) → Paths
joined passed rest = record { own = max passed.own rest.own; behind = max passed.behind rest.behind }

joined_member : (passed : Paths) (first others : TypeTree) → joined (with_member passed (kept first)) (kept others) ≡ joined passed (kept (Member first others))
joined_member passed first others =
    same_paths (joined (with_member passed (kept first)) (kept others)) (joined passed (kept (Member first others)))
    (capped_member passed.own (longest first) (longest others)) (most_more passed.behind (longest_behind first) (longest_behind others))

joined_none : (p : Paths) → joined none p ≡ p
joined_none p = same_paths (joined none p) p (none_most p.own) (none_most p.behind)

module _ (types : Types) (all : List Paths) where
  -- what is kept of each of these types is so
  abbrev AreTheirs : List TyId → Type 0
  AreTheirs [] = Unit {0}
  AreTheirs (id ∷ ids) = (kept_at all id ≡ kept (tree_at types id)) × AreTheirs ids

  members_from : (passed : Paths) (ids : List TyId) → AreTheirs ids → of_members_from all passed ids ≡ joined passed (kept (struct_of (tree_at types) ids))
  members_from passed [] are = same_paths passed (joined passed none) (most_none passed.own) (most_none passed.behind)
  members_from passed (id ∷ ids) are =
      ap (λ (p : Paths). of_members_from all (with_member passed p) ids) are.0
      ∙ members_from (with_member passed (kept (tree_at types id))) ids are.1
      ∙ joined_member passed (tree_at types id) (struct_of (tree_at types) ids)

  of_theirs : (ids : List TyId) → AreTheirs ids → of_members all ids ≡ kept (struct_of (tree_at types) ids)
  of_theirs ids are = members_from none ids are ∙ joined_none (kept (struct_of (tree_at types) ids))

  -- .. where each number has what is kept of it
  all_theirs : AreAllKept types all → (ids : List TyId) → AreTheirs ids
  all_theirs are [] = tt
  all_theirs are (id ∷ ids) = (are id, all_theirs are ids)

  pub struct_kept : AreAllKept types all → (ids : List TyId) → of_members all ids ≡ kept (struct_of (tree_at types) ids)
  struct_kept are ids = of_theirs ids (all_theirs are ids)

  -- .. and the smaller ones
  older : (n : ℕ) → AreKept types n all → (ids : List TyId) → AllBelow n ids → AreTheirs ids
  older n are [] below = tt
  older n are (id ∷ ids) below = (are id below.0, older n are ids below.1)

module _ (types : Types) (n : ℕ) (all : List Paths) (are : AreKept types n all) where
  members_kept : (ids : List TyId) → AllBelow n ids → of_members all ids ≡ kept (struct_of (tree_at types) ids)
  members_kept ids below = of_theirs types all ids (older types all n are ids below)

  pub type_kept : (t : Ty) → HasPartsBelow types n t → of_type types all t ≡ kept (tree_of types (tree_at types) (Some t))
  type_kept ty.Text below = refl
  type_kept (ty.Vector element) below = ap owning (are element below) ∙ owning_kept (tree_at types element)
  type_kept (ty.Unique target) below = ap owning (are target below) ∙ owning_one (tree_at types target)
  type_kept (ty.Raw target constant) below = ap pointing (are target below)
  type_kept (ty.Reference target constant) below = ap pointing (are target below)
  type_kept (ty.Iterator target constant) below = ap pointing (are target below)
  type_kept (ty.Span target constant) below = ap pointing (are target below)
  type_kept (ty.Struct number) below = members_kept (members_at types number) (members_below types n number below)
  type_kept _ below = refl

-- ---- the table

kept_before : (xs : List Paths) (p : Paths) (k : ℕ) → k < length xs → unwrap_or (slice_get (xs ++ p ∷ []) k) none ≡ unwrap_or (slice_get xs k) none
kept_before [] p k there = absurd (omega (arith, there))
kept_before (x ∷ xs) p zero there = refl
kept_before (x ∷ xs) p (suc k) there = kept_before xs p k (omega (arith, there))

kept_last : (xs : List Paths) (p : Paths) → unwrap_or (slice_get (xs ++ p ∷ []) (length xs)) none ≡ p
kept_last [] p = refl
kept_last (x ∷ xs) p = kept_last xs p

kept_past : (xs : List Paths) (k : ℕ) → length xs ≤ k → unwrap_or (slice_get xs k) none ≡ none
kept_past [] k past = refl
kept_past (x ∷ xs) zero past = absurd (omega (arith, past))
kept_past (x ∷ xs) (suc k) past = kept_past xs k (omega (arith, past))

module _ (types : Types) (n : ℕ) (all : List Paths) (count : length all ≡ n) (are : AreKept types n all) where
  -- one more type
  pub kept_more : (t : Ty) (p : Paths) → HasPartsBelow types n t → tree_at types (record { 0 = n }) ≡ tree_of types (tree_at types) (Some t) → p ≡ of_type types all t → AreKept types (n + 1) (all ++ p ∷ [])
  kept_more t p below made is = λ id few. go id few (older_or_last id.0 few)
    where
      older_or_last : (k : ℕ) → k < n + 1 → (k < n) ⊎ (k ≡ n)
      older_or_last k few = grind (arith, few)

      go : (id : TyId) → id.0 < n + 1 → (id.0 < n) ⊎ (id.0 ≡ n) → kept_at (all ++ p ∷ []) id ≡ kept (tree_at types id)
      go id few (inl older) = kept_before all p id.0 (omega (arith, count, older)) ∙ are id older
      go id few (inr last) =
          ap (λ (k : ℕ). unwrap_or (slice_get (all ++ p ∷ []) k) none) (last ∙ sym count)
          ∙ kept_last all p
          ∙ is
          ∙ type_kept types n all are t below
          ∙ ap kept (sym made)
          ∙ ap (λ (k : ℕ). let at : TyId = record { 0 = k } in kept (tree_at types at)) (sym last)

  -- no type is left
  none_past : {X : Type 0} (xs : List X) (i k : ℕ) → slice_get xs i ≡ None → i ≤ k → slice_get xs k ≡ None
  none_past [] i k none past = refl
  none_past (x ∷ xs) zero k none past = absurd (cc)
  none_past (x ∷ xs) (suc i) zero none past = absurd (omega (arith, past))
  none_past (x ∷ xs) (suc i) (suc k) none past = none_past xs i k none (omega (arith, past))

  pub all_kept : slice_get types.types n ≡ None → AreAllKept types all
  all_kept end = λ id. go id (before_or_past id.0)
    where
      before_or_past : (k : ℕ) → (k < n) ⊎ (n ≤ k)
      before_or_past k = grind arith

      go : (id : TyId) → (id.0 < n) ⊎ (n ≤ id.0) → kept_at all id ≡ kept (tree_at types id)
      go id (inl older) = are id older
      go id (inr past) = kept_past all id.0 (omega (arith, count, past)) ∙ ap kept (sym (nowhere types id (none_past types.types n id.0 end past)))
