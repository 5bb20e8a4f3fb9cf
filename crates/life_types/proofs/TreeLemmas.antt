-- The tree of a type is made of the trees of its parts, and stays as the table grows.
use Rattle.std.proofs.Common.{◌≡◌, ◌⊎◌, ℕ, zero, suc, ◌<◌, sym, ap, ◌∙◌, inl, inr, ⊎_elim, Option, Some, None, List, [], ◌∷◌, ◌++◌, length, slice_get, refl, arith, length-append}
use Rattle.life_types.specs.declared.ty.Ty.{Ty}
use Rattle.life_types.specs.declared.ty.Ty.TheVariants as ty
use Rattle.life_types.specs.declared.ty.TyId.{TyId}
use Rattle.life_types.specs.Trees.{TypeTree, struct_of, members_at, tree_of, tree_within, tree_at, AllBelow, HasMembersBelow, HasPartsBelow, IsOrdered}
use Rattle.life_types.specs.Types.{Types, HasTypes, HasParts}

-- ---- lists that grow at their end

pub in_more : {X : Type 0} (xs : List X) (y : X) (n : ℕ) (x : X) → slice_get (xs ++ y ∷ []) n ≡ Some x → (slice_get xs n ≡ Some x) ⊎ ((n ≡ length xs) × (y ≡ x))
in_more [] y zero x e = let same : y ≡ x = cc in inr (refl, same)
in_more [] y (suc n) x e = absurd (cc)
in_more (z ∷ zs) y zero x e = inl e
in_more (z ∷ zs) y (suc n) x e = ⊎_elim (λ old. inl old) (λ last. inr (omega (arith, last.0), last.1)) (in_more zs y n x e)

pub stays_in : {X : Type 0} (xs ys : List X) (n : ℕ) (x : X) → slice_get xs n ≡ Some x → slice_get (xs ++ ys) n ≡ Some x
stays_in [] ys n x e = absurd (cc)
stays_in (z ∷ zs) ys zero x e = e
stays_in (z ∷ zs) ys (suc n) x e = stays_in zs ys n x e

pub last_in : {X : Type 0} (xs : List X) (y : X) → slice_get (xs ++ y ∷ []) (length xs) ≡ Some y
last_in [] y = refl
last_in (x ∷ xs) y = last_in xs y

pub record IsThere {X : Type 0} (xs : List X) (n : ℕ) : Type 0 where
  pub item : X
  pub there : slice_get xs n ≡ Some item

pub within : {X : Type 0} (xs : List X) (n : ℕ) → n < length xs → IsThere xs n
within [] n h = absurd (omega arith)
within (x ∷ xs) zero h = record { item = x; there = refl }
within (x ∷ xs) (suc n) h = let rest = within xs n (omega arith) in record { item = rest.item; there = rest.there }

-- ---- one step

same_struct : (f g : TyId → TypeTree) (n : ℕ) (ids : List TyId) → AllBelow n ids → ((id : TyId) → id.0 < n → f id ≡ g id) → struct_of g ids ≡ struct_of f ids
same_struct f g n [] below same = refl
same_struct f g n (id ∷ ids) below same = rw (same id below.0, same_struct f g n ids below.1 same) refl

-- structs keep their numbers
abbrev KeepsStructs : Types → Types → Type 0
KeepsStructs old new = (n : ℕ) (ids : List TyId) → slice_get old.structs n ≡ Some ids → slice_get new.structs n ≡ Some ids

module _ (old new : Types) (f g : TyId → TypeTree) (n : ℕ) (keeps : KeepsStructs old new) (same : (id : TyId) → id.0 < n → f id ≡ g id) where
  same_members : (number : ℕ) → HasMembersBelow old n number → struct_of g (members_at new number) ≡ struct_of f (members_at old number)
  same_members number h = rw (h.there, keeps number h.members h.there) (same_struct f g n h.members h.below same)

  same_tree : (t : Ty) → HasPartsBelow old n t → tree_of new g (Some t) ≡ tree_of old f (Some t)
  same_tree (ty.Vector element) below = rw (same element below) refl
  same_tree (ty.Unique target) below = rw (same target below) refl
  same_tree (ty.Raw target constant) below = rw (same target below) refl
  same_tree (ty.Reference target constant) below = rw (same target below) refl
  same_tree (ty.Iterator target constant) below = rw (same target below) refl
  same_tree (ty.Span target constant) below = rw (same target below) refl
  same_tree (ty.Struct number) below = same_members number below
  same_tree _ below = refl

-- ---- a number is deep enough

module _ (table : Types) (ordered : IsOrdered table) where
  enough : (m n : ℕ) (id : TyId) → id.0 < m → id.0 < n → tree_within m table id ≡ tree_within n table id
  enough zero n id deep deep' = absurd (omega arith)
  enough (suc m) zero id deep deep' = absurd (omega arith)
  enough (suc m) (suc n) id deep deep' = go (λ part below. enough m n part (omega arith) (omega arith)) (slice_get table.types id.0) refl
    where
      go : ((part : TyId) → part.0 < id.0 → tree_within m table part ≡ tree_within n table part) → (o : Option Ty) → slice_get table.types id.0 ≡ o → tree_of table (tree_within m table) o ≡ tree_of table (tree_within n table) o
      go same None e = refl
      go same (Some t) e = same_tree table table (tree_within n table) (tree_within m table) id.0 (λ _ _ here. here) (λ part below. sym (same part below)) t (ordered.parts id.0 t e)

  -- the tree of a type is made of the trees of its parts
  pub tree_made : (id : TyId) → tree_at table id ≡ tree_of table (tree_at table) (slice_get table.types id.0)
  unfolding tree_at
  tree_made id = go (slice_get table.types id.0) refl
    where
      go : (o : Option Ty) → slice_get table.types id.0 ≡ o → tree_of table (tree_within id.0 table) o ≡ tree_of table (tree_at table) o
      go None e = refl
      go (Some t) e = same_tree table table (tree_at table) (tree_within id.0 table) id.0 (λ _ _ here. here) (λ part below. enough (suc part.0) id.0 part (omega arith) below) t (ordered.parts id.0 t e)

-- ---- older numbers stay

pub record Grows (old new : Types) : Type 0 where
  pub types : (n : ℕ) (t : Ty) → slice_get old.types n ≡ Some t → slice_get new.types n ≡ Some t
  pub structs : (n : ℕ) (ids : List TyId) → slice_get old.structs n ≡ Some ids → slice_get new.structs n ≡ Some ids

module _ (old new : Types) (ordered : IsOrdered old) (grows : Grows old new) where
  stays_within : (n : ℕ) (id : TyId) → id.0 < length old.types → tree_within n new id ≡ tree_within n old id
  stays_within zero id there = refl
  stays_within (suc n) id there = rw (grows.types id.0 found.item found.there, found.there) (same_tree old new (tree_within n old) (tree_within n new) id.0 grows.structs (λ part below. sym (stays_within n part (omega arith))) found.item (ordered.parts id.0 found.item found.there))
    where
      found : IsThere old.types id.0
      found = within old.types id.0 there

  pub tree_stays : (id : TyId) → id.0 < length old.types → tree_at new id ≡ tree_at old id
  unfolding tree_at
  tree_stays id there = stays_within (suc id.0) id there

-- ---- one more type

all_below_more : (n m : ℕ) → n < m → (ids : List TyId) → AllBelow n ids → AllBelow m ids
all_below_more n m more [] below = tt
all_below_more n m more (id ∷ ids) below = (omega (arith, below.0), all_below_more n m more ids below.1)

all_there : (table : Types) (ids : List TyId) → HasTypes table ids → AllBelow (length table.types) ids
all_there table [] there = tt
all_there table (id ∷ ids) there = (there.0, all_there table ids there.1)

module _ (table : Types) (ordered : IsOrdered table) where
  -- what is there has a smaller number than what comes next
  parts_below : (t : Ty) → HasParts table t → HasPartsBelow table (length table.types) t
  parts_below (ty.Struct number) there =
      let found = within table.structs number there in
      record { members = found.item; there = found.there; below = ordered.members number found.item found.there }
  parts_below (ty.Vector element) there = there
  parts_below (ty.Unique target) there = there
  parts_below (ty.Raw target constant) there = there
  parts_below (ty.Reference target constant) there = there
  parts_below (ty.Iterator target constant) there = there
  parts_below (ty.Span target constant) there = there
  parts_below _ there = tt

  module _ (t : Ty) (there : HasParts table t) where
    abbrev pub more_types : Types
    more_types = record { types = table.types ++ t ∷ []; structs = table.structs }

    keeps_parts : (n : ℕ) (u : Ty) → HasPartsBelow table n u → HasPartsBelow more_types n u
    keeps_parts n (ty.Struct number) below = record { members = below.members; there = below.there; below = below.below }
    keeps_parts n (ty.Vector element) below = below
    keeps_parts n (ty.Unique target) below = below
    keeps_parts n (ty.Raw target constant) below = below
    keeps_parts n (ty.Reference target constant) below = below
    keeps_parts n (ty.Iterator target constant) below = below
    keeps_parts n (ty.Span target constant) below = below
    keeps_parts n _ below = tt

    pub ordered_more : IsOrdered more_types
    ordered_more = record { parts = parts; members = members }
      where
        last : (n : ℕ) (u : Ty) → n ≡ length table.types → t ≡ u → HasPartsBelow more_types n u
        last n u here same = rw (here, ← same) (keeps_parts (length table.types) t (parts_below t there))

        parts : (n : ℕ) (u : Ty) → slice_get (table.types ++ t ∷ []) n ≡ Some u → HasPartsBelow more_types n u
        parts n u e = ⊎_elim (λ old. keeps_parts n u (ordered.parts n u old)) (λ new. last n u new.0 new.1) (in_more table.types t n u e)

        members : (n : ℕ) (ids : List TyId) → slice_get table.structs n ≡ Some ids → AllBelow (length (table.types ++ t ∷ [])) ids
        members n ids e = all_below_more (length table.types) (length (table.types ++ t ∷ [])) (simp length-append (omega arith)) ids (ordered.members n ids e)

    pub grows_more : Grows table more_types
    grows_more = record { types = λ n u e. stays_in table.types (t ∷ []) n u e; structs = λ n ids e. e }

    -- the new type is made of the trees that were there
    pub tree_new : (id : TyId) → id.0 ≡ length table.types → tree_at more_types id ≡ tree_of table (tree_at table) (Some t)
    tree_new id last =
        let here : slice_get (table.types ++ t ∷ []) id.0 ≡ Some t = rw last (last_in table.types t) in
        tree_made more_types ordered_more id
        ∙ ap (tree_of more_types (tree_at more_types)) here
        ∙ same_tree table more_types (tree_at table) (tree_at more_types) (length table.types) grows_more.structs (λ part below. sym (tree_stays table more_types ordered grows_more part below)) t (parts_below t there)

  -- ---- one more struct

  module _ (ids : List TyId) (there : HasTypes table ids) where
    abbrev pub more_structs : Types
    more_structs = record { types = table.types; structs = table.structs ++ ids ∷ [] }

    pub grows_struct : Grows table more_structs
    grows_struct = record { types = λ n u e. e; structs = λ n old e. stays_in table.structs (ids ∷ []) n old e }

    keeps_parts_struct : (n : ℕ) (u : Ty) → HasPartsBelow table n u → HasPartsBelow more_structs n u
    keeps_parts_struct n (ty.Struct number) below = record { members = below.members; there = grows_struct.structs number below.members below.there; below = below.below }
    keeps_parts_struct n (ty.Vector element) below = below
    keeps_parts_struct n (ty.Unique target) below = below
    keeps_parts_struct n (ty.Raw target constant) below = below
    keeps_parts_struct n (ty.Reference target constant) below = below
    keeps_parts_struct n (ty.Iterator target constant) below = below
    keeps_parts_struct n (ty.Span target constant) below = below
    keeps_parts_struct n _ below = tt

    pub ordered_struct : IsOrdered more_structs
    ordered_struct = record { parts = λ n u e. keeps_parts_struct n u (ordered.parts n u e); members = members }
      where
        members : (n : ℕ) (more : List TyId) → slice_get (table.structs ++ ids ∷ []) n ≡ Some more → AllBelow (length table.types) more
        members n more e = ⊎_elim (λ old. ordered.members n more old) (λ new. rw (← new.1) (all_there table ids there)) (in_more table.structs ids n more e)
