-- What is kept with each type: the facts of several members, and of a table that grows.
use Rattle.std.proofs.Common.{◌≡◌, ℕ, zero, suc, ◌+◌, ◌-◌, ◌<◌, ◌≤◌, ◌^◌, min, sym, ap, subst, ◌∙◌, ⊎_elim, Bool, true, false, ◌||◌, Some, None, List, [], ◌∷◌, ◌++◌, map, length, slice_get, drop, refl, arith, length-append, if◌then◌else◌, true≢false}
use Rattle.std.proofs.Math.Bool.{and_assoc, and-true, or_assoc, or-false}
use Rattle.std.specs.List.{list_any}
use Rattle.std.proofs.lemmas.List.{drop_all, length-map, map-append}
use Rattle.std.proofs.lemmas.Map.Entries.{length-keys_of}
use Rattle.std.proofs.lemmas.Option.{slice_get_within}
use Rattle.std.specs.Map.{keys_of}
use Rattle.std.specs.declared.alloc.Global.{Global}
use Rattle.std.specs.declared.vec.Vec.{Vec}
use Rattle.life_types.specs.declared.facts.Facts.{Facts}
use Rattle.life_types.specs.declared.ty.Ty.{Ty}
use Rattle.life_types.specs.declared.ty.TyId.{TyId}
use Rattle.life_types.specs.Facts.{facts, no_members, together, ids_of, table_in, IsKept}
use Rattle.life_types.specs.Trees.{TypeTree, Void, Member, NoMember, words, struct_of, tree_of, tree_within, tree_at, IsOrdered}
use Rattle.life_types.specs.Types.{Types, HasTypes, HasParts, with_type}
use Rattle.life_types.specs.contracts.ty.TyPartialEq.TheImpl.{ghosts as compared}
use Rattle.indexmap.specs.IndexMap.{insert_entry}
use Rattle.life_types.proofs.Numbers.{new_last}
use Rattle.life_types.proofs.TreeLemmas.{in_more, last_in, tree_made, tree_stays, more_types, more_structs, ordered_more, ordered_struct, grows_more, grows_struct, tree_new}

same_facts : (a b : Facts) → a.plain ≡ b.plain → a.owner ≡ b.owner → a.unique ≡ b.unique → a.words ≡ b.words → a ≡ b
same_facts a b plain owner unique words = λ i. record { plain = plain i; owner = owner i; unique = unique i; words = words i }

-- ---- several members

capped : (a b c : ℕ) → min (min (a + b) (2 ^ 48) + c) (2 ^ 48) ≡ min (a + min (b + c) (2 ^ 48)) (2 ^ 48)
capped a b c = omega arith

capped_sum : (a b : ℕ) → min (a + b) (2 ^ 48) ≡ min (min a (2 ^ 48) + min b (2 ^ 48)) (2 ^ 48)
capped_sum a b = omega arith

grouped : (a b c : Facts) → together (together a b) c ≡ together a (together b c)
grouped a b c = same_facts (together (together a b) c) (together a (together b c)) (and_assoc a.plain b.plain c.plain) (or_assoc a.owner b.owner c.owner) (or_assoc a.unique b.unique c.unique) (capped a.words b.words c.words)

facts_of_member : (first others : TypeTree) → facts (Member first others) ≡ together (facts first) (facts others)
facts_of_member first others = same_facts (facts (Member first others)) (together (facts first) (facts others)) refl refl refl (capped_sum (words first) (words others))

-- all members so far, with the facts of those that are left, have those of the struct
pub record IsGathered (part : TyId → TypeTree) (ids : List TyId) (so_far : Facts) (n : ℕ) : Type 0 where
  pub few : so_far.words ≤ 2 ^ 48
  pub with_rest : together so_far (facts (struct_of part (drop n ids))) ≡ facts (struct_of part ids)

-- before the first member, past one more, and behind the last
module _ (part : TyId → TypeTree) (ids : List TyId) where
  pub gathered_none : IsGathered part ids no_members 0
  gathered_none = record { few = omega arith; with_rest = same_facts (together no_members (facts (struct_of part ids))) (facts (struct_of part ids)) refl refl refl (omega arith) }

  pub gathered_more : (so_far : Facts) (n : ℕ) (id : TyId) → IsGathered part ids so_far n → slice_get ids n ≡ Some id → IsGathered part ids (together so_far (facts (part id))) (n + 1)
  gathered_more so_far n id gathered here = record {
    few = omega arith;
    with_rest = grouped so_far (facts (part id)) (facts (struct_of part (drop (n + 1) ids))) ∙ sym (ap (together so_far) (rest ids n here)) ∙ gathered.with_rest;
  }
    where
      rest : (ids : List TyId) (n : ℕ) → slice_get ids n ≡ Some id → facts (struct_of part (drop n ids)) ≡ together (facts (part id)) (facts (struct_of part (drop (n + 1) ids)))
      rest [] n here = absurd (cc)
      rest (x ∷ xs) zero here = let same : x ≡ id = cc in facts_of_member (part x) (struct_of part xs) ∙ ap (λ y. together (facts (part y)) (facts (struct_of part xs))) same
      rest (x ∷ xs) (suc n) here = let next : suc n + 1 ≡ suc (n + 1) = omega arith in rw next (rest xs n here)

  pub gathered_all : (so_far : Facts) (n : ℕ) → IsGathered part ids so_far n → length ids ≤ n → so_far ≡ facts (struct_of part ids)
  gathered_all so_far n gathered all = sym (same_facts (together so_far (facts NoMember)) so_far (and-true so_far.plain) (or-false so_far.owner) (or-false so_far.unique) (under so_far.words gathered.few)) ∙ sym (ap (λ rest. together so_far (facts (struct_of part rest))) (drop_all n ids all)) ∙ gathered.with_rest
    where
      under : (n : ℕ) → n ≤ 2 ^ 48 → min (n + 0) (2 ^ 48) ≡ n
      under n few = omega arith

-- ---- a table that grows

pub no_type_at : (types : List (Ty × Facts)) (n : ℕ) → slice_get types n ≡ None → slice_get (keys_of types) n ≡ None
no_type_at [] n e = refl
no_type_at (x ∷ xs) zero e = absurd (cc)
no_type_at (x ∷ xs) (suc n) e = no_type_at xs n e

-- a type stands where its entry does
pub type_at : (types : List (Ty × Facts)) (n : ℕ) (x : Ty × Facts) → slice_get types n ≡ Some x → slice_get (keys_of types) n ≡ Some x.0
type_at [] n x e = absurd (cc)
type_at (y ∷ ys) zero x e = let same : y ≡ x = cc in ap (λ z. Some z.0) same
type_at (y ∷ ys) (suc n) x e = type_at ys n x e

pub void_at : (types : List (Ty × Facts)) (structs : List (Vec TyId Global)) (id : TyId) → slice_get types id.0 ≡ None → tree_at (table_in types structs) id ≡ Void
unfolding tree_at
void_at types structs id e = ap (tree_of (table_in types structs) (tree_within id.0 (table_in types structs))) (no_type_at types id.0 e)

module _ (types : List (Ty × Facts)) (structs : List (Vec TyId Global)) (kept : IsKept types structs) where
  module _ (t : Ty) (f : Facts) (parts : HasParts (table_in types structs) t) where
    pub seen_more : table_in (types ++ (t, f) ∷ []) structs ≡ more_types (table_in types structs) kept.ordered t parts
    seen_more = ap (λ (ts : List Ty). let table : Types = record { types = ts; structs = map ids_of structs } in table) (map-append (λ (e : Ty × Facts). e.0) types ((t, f) ∷ []))

    pub stays_more : (id : TyId) → id.0 < length (keys_of types) → tree_at (table_in (types ++ (t, f) ∷ []) structs) id ≡ tree_at (table_in types structs) id
    stays_more id there = ap (λ table. tree_at table id) seen_more ∙ tree_stays (table_in types structs) (more_types (table_in types structs) kept.ordered t parts) kept.ordered (grows_more (table_in types structs) kept.ordered t parts) id there

    pub kept_more : length types < 2 ^ 32 - 1 → f ≡ facts (tree_of (table_in types structs) (tree_at (table_in types structs)) (Some t)) → IsKept (types ++ (t, f) ∷ []) structs
    kept_more few is = record {
      few_types = simp length-append (omega arith);
      few_structs = kept.few_structs;
      ordered = subst IsOrdered (sym seen_more) (ordered_more (table_in types structs) kept.ordered t parts);
      facts = λ id u g here. ⊎_elim (old id u g) (λ new. last id u g new.0 new.1) (in_more types (t, f) id.0 (u, g) here);
    }
      where
        old : (id : TyId) (u : Ty) (g : Facts) → slice_get types id.0 ≡ Some (u, g) → g ≡ facts (tree_at (table_in (types ++ (t, f) ∷ []) structs) id)
        old id u g here = kept.facts id u g here ∙ ap facts (sym (stays_more id (slice_get_within (keys_of types) id.0 u (type_at types id.0 (u, g) here))))

        last : (id : TyId) (u : Ty) (g : Facts) → id.0 ≡ length types → ◌≡◌ {A = Ty × Facts} (t, f) (u, g) → g ≡ facts (tree_at (table_in (types ++ (t, f) ∷ []) structs) id)
        last id u g here same = ap (λ (x : Ty × Facts). x.1) (sym same) ∙ is ∙ ap facts (sym (ap (λ table. tree_at table id) seen_more ∙ tree_new (table_in types structs) kept.ordered t parts id (here ∙ sym (length-keys_of types))))

  module _ (ids : Vec TyId Global) (there : HasTypes (table_in types structs) ids.items) where
    pub seen_struct : table_in types (structs ++ ids ∷ []) ≡ more_structs (table_in types structs) kept.ordered ids.items there
    seen_struct = ap (λ (all : List (List TyId)). let table : Types = record { types = keys_of types; structs = all } in table) (map-append ids_of structs (ids ∷ []))

    pub stays_struct : (id : TyId) → id.0 < length (keys_of types) → tree_at (table_in types (structs ++ ids ∷ [])) id ≡ tree_at (table_in types structs) id
    stays_struct id in_table = ap (λ table. tree_at table id) seen_struct ∙ tree_stays (table_in types structs) (more_structs (table_in types structs) kept.ordered ids.items there) kept.ordered (grows_struct (table_in types structs) kept.ordered ids.items there) id in_table

    pub kept_struct : length structs < 2 ^ 32 - 1 → IsKept types (structs ++ ids ∷ [])
    kept_struct few = record {
      few_types = kept.few_types;
      few_structs = simp length-append (omega arith);
      ordered = subst IsOrdered (sym seen_struct) (ordered_struct (table_in types structs) kept.ordered ids.items there);
      facts = λ id u g here. kept.facts id u g here ∙ ap facts (sym (stays_struct id (slice_get_within (keys_of types) id.0 u (type_at types id.0 (u, g) here))));
    }

-- a type that is there is made of its parts
pub made_of_parts : (types : List (Ty × Facts)) (structs : List (Vec TyId Global)) → IsKept types structs → (table : Types) → table_in types structs ≡ table → (id : TyId) (t : Ty) → slice_get table.types id.0 ≡ Some t
    → tree_at table id ≡ tree_of table (tree_at table) (Some t)
made_of_parts types structs kept table seen id t here = tree_made table (subst IsOrdered seen kept.ordered) id ∙ ap (tree_of table (tree_at table)) here

-- ---- the calls that add

new_entry : (types : List (Ty × Facts)) (t : Ty) (f : Facts) → list_any (compared.eq t) (keys_of types) ≡ false → insert_entry compared.eq types t f ≡ types ++ (t, f) ∷ []
new_entry [] t f absent = refl
new_entry (x ∷ xs) t f absent = go (λ absent. new_entry xs t f absent) (compared.eq t x.0) refl
  where
    go : (list_any (compared.eq t) (keys_of xs) ≡ false → insert_entry compared.eq xs t f ≡ xs ++ (t, f) ∷ []) → (b : Bool) → compared.eq t x.0 ≡ b → (if b then (x.0, f) ∷ xs else x ∷ insert_entry compared.eq xs t f) ≡ x ∷ (xs ++ (t, f) ∷ [])
    go rest true e = absurd (true≢false (sym (ap (λ b. b || list_any (compared.eq t) (keys_of xs)) e) ∙ absent))
    go rest false e = ap (λ es. x ∷ es) (rest (sym (ap (λ b. b || list_any (compared.eq t) (keys_of xs)) e) ∙ absent))

-- a table of which these are the entries after a type was added
pub record IsAdded (table : Types) (t : Ty) (after : List (Ty × Facts)) (structs : List (Vec TyId Global)) : Type 0 where
  pub kept : IsKept after structs
  pub grown : table_in after structs ≡ record { types = with_type table.types t; structs = table.structs }
  pub last : (n : ℕ) → n ≡ length table.types → slice_get (keys_of after) n ≡ Some t
  pub made : (id : TyId) → id.0 ≡ length table.types → tree_at (table_in after structs) id ≡ tree_of table (tree_at table) (Some t)
  pub trees : (id : TyId) → id.0 < length table.types → tree_at (table_in after structs) id ≡ tree_at table id

module _ (types : List (Ty × Facts)) (structs : List (Vec TyId Global)) (kept : IsKept types structs) (t : Ty) (f : Facts) where
  added_to : HasParts (table_in types structs) t → length (keys_of types) < 2 ^ 32 - 1 → list_any (compared.eq t) (keys_of types) ≡ false
      → f ≡ facts (tree_of (table_in types structs) (tree_at (table_in types structs)) (Some t)) → IsAdded (table_in types structs) t (types ++ (t, f) ∷ []) structs
  added_to parts few absent is = record {
    kept = kept_more types structs kept t f parts (omega (arith, length-keys_of types)) is;
    grown = seen_more types structs kept t f parts ∙ ap (λ (ts : List Ty). let table : Types = record { types = ts; structs = map ids_of structs } in table) (sym (new_last (keys_of types) t absent));
    made = λ id here. ap (λ table. tree_at table id) (seen_more types structs kept t f parts) ∙ tree_new (table_in types structs) kept.ordered t parts id here;
    last = λ n here. rw (map-append (λ (e : Ty × Facts). e.0) types ((t, f) ∷ []), here) (last_in (keys_of types) t);
    trees = stays_more types structs kept t f parts;
  }

  pub added : (table : Types) → table_in types structs ≡ table → HasParts table t → length table.types < 2 ^ 32 - 1 → list_any (compared.eq t) table.types ≡ false
      → f ≡ facts (tree_of table (tree_at table) (Some t)) → (after : List (Ty × Facts)) → after ≡ insert_entry compared.eq types t f → IsAdded table t after structs
  added table seen parts few absent is after inserted =
      let absent' : list_any (compared.eq t) (keys_of types) ≡ false = ap (λ (a : Types). list_any (compared.eq t) a.types) seen ∙ absent in
      subst (λ (entries : List (Ty × Facts)). IsAdded table t entries structs) (sym (inserted ∙ new_entry types t f absent'))
      (subst (λ (a : Types). HasParts a t → length a.types < 2 ^ 32 - 1 → list_any (compared.eq t) a.types ≡ false → f ≡ facts (tree_of a (tree_at a) (Some t)) → IsAdded a t (types ++ (t, f) ∷ []) structs) seen added_to parts few absent is)

-- .. after a struct was added
pub record HasStruct (table : Types) (types : List (Ty × Facts)) (after : List (Vec TyId Global)) : Type 0 where
  pub kept : IsKept types after
  pub trees : (id : TyId) → id.0 < length table.types → tree_at (table_in types after) id ≡ tree_at table id

pub added_struct : (types : List (Ty × Facts)) (structs : List (Vec TyId Global)) → IsKept types structs → (ids : Vec TyId Global) (table : Types) → table_in types structs ≡ table → HasTypes table ids.items
    → length table.structs < 2 ^ 32 - 1 → (after : List (Vec TyId Global)) → after ≡ structs ++ ids ∷ [] → HasStruct table types after
added_struct types structs kept ids table seen there few after pushed =
    subst (λ (all : List (Vec TyId Global)). HasStruct table types all) (sym pushed)
    (subst (λ (a : Types). HasTypes a ids.items → length a.structs < 2 ^ 32 - 1 → HasStruct a types (structs ++ ids ∷ [])) seen
    (λ there few. record { kept = kept_struct types structs kept ids there (omega (arith, length-map structs ids_of)); trees = stays_struct types structs kept ids there }) there few)
