-- The layout of a struct, one member behind the other.
use Rattle.std.proofs.Common.{◌≡◌, ℕ, zero, suc, ◌+◌, ◌≤◌, ◌<◌, List, [], ◌∷◌, ◌++◌, length, map, drop, Some, Result, Ok, Err, IfOk, sym, ap, subst, ◌∙◌, arith, append_assoc, length-append, ⊎_elim}
use Rattle.std.proofs.lemmas.List.{append-nil, drop_all}
use Rattle.std.proofs.lemmas.Option.{none-some, same_Some, slice_get_within}
use Rattle.std.specs.Prelude.{slice_get, unwrap_or}
use Rattle.life_types.proofs.TreeLemmas.{in_more}
use Rattle.life_types.specs.declared.memory.NoMemory.{NoMemory}
use Rattle.life_types.specs.declared.ty.Ty.TheVariants as ty
use Rattle.life_types.specs.declared.ty.TyId.{TyId}
use Rattle.life_types.specs.Trees.{AllBelow, HasMembersBelow, IsOrdered}
use Rattle.life_types.specs.Types.{Types}
use Rattle.life_store.specs.Parts.{Parts, parts_at, parts_of, struct_of, width}
use Rattle.life_forest.proofs.Laying.{parts_made}
use Rattle.life_values.specs.Layouts.{flat, moved, owner_words, AreBefore, IsJoined, IsLaid}
use Rattle.life_values.specs.declared.layout.Layout.{Layout}
use Rattle.life_values.proofs.Flat.{drop_here, flat_at, owner_words-append}

-- what is laid so far, and the members behind it, are the struct
pub record IsFrontOf (l : Layout) (rest whole : Parts) : Type 0 where
  pub width : l.width + width rest ≡ width whole
  pub owners : l.owners.items ++ owner_words (flat l.width rest) ≡ owner_words (flat 0 whole)
  pub leaves : l.leaves.items ++ flat l.width rest ≡ flat 0 whole

abbrev pub AreOf : (TyId → Parts) → List Layout → Type 0
AreOf part before = (id : TyId) (one : Layout) → slice_get before id.0 ≡ Some one → IsLaid (part id) one

abbrev pub Joining : List Layout → List TyId → Layout → ℕ → Type 0
Joining before members l i = (part : TyId → Parts) → AreOf part before → IsFrontOf l (struct_of part (drop i members)) (struct_of part members)

pub joining_begin : (before : List Layout) (members : List TyId) (l : Layout) → l.width ≡ 0 → l.owners.items ≡ [] → l.leaves.items ≡ [] → Joining before members l 0
joining_begin before members l wide owners leaves part are = record {
  width = omega (arith, wide);
  owners = (λ i. owners i ++ owner_words (flat (wide i) (struct_of part members)));
  leaves = (λ i. leaves i ++ flat (wide i) (struct_of part members));
}

pub joining_next : (before : List Layout) (members : List TyId) (l : Layout) (i : ℕ) → Joining before members l i → (id : TyId) → slice_get members i ≡ Some id → (one : Layout) → slice_get before id.0 ≡ Some one
    → (m : Layout) → m.width ≡ l.width + one.width → m.leaves.items ≡ l.leaves.items ++ map (moved l.width) one.leaves.items → m.owners.items ≡ l.owners.items ++ owner_words (map (moved l.width) one.leaves.items)
    → Joining before members m (i + 1)
joining_next before members l i so_far id here one there m wide leaves owners part are =
    let laid = are id one there in
    let rest : Parts = struct_of part (drop (i + 1) members) in
    let was : IsFrontOf l (struct_of part (id ∷ drop (i + 1) members)) (struct_of part members) =
    subst (λ ids. IsFrontOf l (struct_of part ids) (struct_of part members)) (drop_here members i id here) (so_far part are) in
    let same : m.width ≡ l.width + width (part id) = (let w = laid.width in omega (arith, wide, w)) in
    let mine : map (moved l.width) one.leaves.items ≡ flat l.width (part id) = ap (map (moved l.width)) laid.leaves ∙ sym (flat_at l.width (part id)) in
    record {
      width = let w = was.width in omega (arith, same, w);
      owners =
          (λ j. (owners ∙ ap (λ xs. l.owners.items ++ owner_words xs) mine) j ++ owner_words (flat (same j) rest))
          ∙ append_assoc l.owners.items (owner_words (flat l.width (part id))) (owner_words (flat (l.width + width (part id)) rest))
          ∙ ap (λ xs. l.owners.items ++ xs) (sym (owner_words-append (flat l.width (part id)) (flat (l.width + width (part id)) rest)))
          ∙ was.owners;
      leaves =
          (λ j. (leaves ∙ ap (λ xs. l.leaves.items ++ xs) mine) j ++ flat (same j) rest)
          ∙ append_assoc l.leaves.items (flat l.width (part id)) (flat (l.width + width (part id)) rest)
          ∙ was.leaves;
    }

pub joining_end : (before : List Layout) (members : List TyId) (l : Layout) (i : ℕ) → Joining before members l i → length members ≤ i → IsJoined before members l
joining_end before members l i so_far all part are =
    let front : IsFrontOf l (struct_of part []) (struct_of part members) =
    subst (λ ids. IsFrontOf l (struct_of part ids) (struct_of part members)) (drop_all i members all) (so_far part are) in
    record {
      width = let w = front.width in omega (arith, w);
      owners = sym (append-nil l.owners.items) ∙ front.owners;
      leaves = sym (append-nil l.leaves.items) ∙ front.leaves;
    }

-- ---- by the table

pub below_at : (n : ℕ) (ids : List TyId) (i : ℕ) (id : TyId) → AllBelow n ids → slice_get ids i ≡ Some id → id.0 < n
below_at n [] i id below e = absurd (none-some id e)
below_at n (x ∷ xs) zero id below e = let s = ap (λ (y : TyId). y.0) (same_Some x id e) in let b = below.0 in omega (arith, s, b)
below_at n (x ∷ xs) (suc i) id below e = below_at n xs i id below.1 e

module _ (types : Types) (ordered : IsOrdered types) (id : TyId) (number : ℕ) (is : slice_get types.types id.0 ≡ Some (ty.Struct number)) where
  struct_there : HasMembersBelow types id.0 number
  struct_there = ordered.parts id.0 (ty.Struct number) is

  pub has_struct : number < length types.structs
  has_struct = slice_get_within types.structs number struct_there.members struct_there.there

  pub members_below : (n : ℕ) → n ≡ id.0 → (members : List TyId) → slice_get types.structs number ≡ Some members → AllBelow n members
  members_below n count members there = subst (λ k. AllBelow k members) (sym count) (subst (AllBelow id.0) (same_Some _ _ (sym struct_there.there ∙ there)) struct_there.below)

  pub struct_laid : (before : List Layout) → AreBefore types id.0 before → (members : List TyId) → slice_get types.structs number ≡ Some members → (result : Result Layout NoMemory) → IfOk result (IsJoined before members) → IfOk result (IsLaid (parts_at types id))
  struct_laid before laid members there (Err fault) joined = tt
  struct_laid before laid members there (Ok l) joined =
      subst (λ p. IsLaid p l)
      (sym (parts_made types ordered id ∙ ap (parts_of types (parts_at types)) is ∙ ap (λ o. struct_of (parts_at types) (unwrap_or o [])) there))
      (joined (parts_at types) laid.1)

pub before_more : (types : Types) (n : ℕ) (ls : List Layout) (l : Layout) (more : List Layout) → AreBefore types n ls → IsLaid (parts_at types (record { 0 = n })) l → more ≡ ls ++ l ∷ [] → AreBefore types (n + 1) more
before_more types n ls l more before one is =
    subst (AreBefore types (n + 1)) (sym is) (
      (let a = length-append ls (l ∷ []) in let b = before.0 in omega (arith, a, b)),
      (λ ty m e. ⊎_elim
          (λ old. before.1 ty m old)
          (λ last. let same : n ≡ ty.0 = (let a = last.0 in let b = before.0 in omega (arith, a, b)) in
          subst (IsLaid (parts_at types ty)) last.1 (subst (λ k. IsLaid (parts_at types (record { 0 = k })) l) same one))
          (in_more ls l ty.0 m e)),
    )
