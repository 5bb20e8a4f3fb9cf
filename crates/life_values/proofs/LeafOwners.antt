-- The leaves of a value that are strings are words that own.
use Rattle.std.proofs.Common.{◌≡◌, ℕ, zero, suc, ◌+◌, List, [], ◌∷◌, ◌++◌, length, Some, ◌<◌, ap, ◌∙◌, arith}
use Rattle.std.proofs.lemmas.Option.{none-some, same_Some}
use Rattle.std.specs.Prelude.{slice_get}
use Rattle.life_types.specs.declared.ty.TyId.{TyId}
use Rattle.life_store.specs.Parts.{Parts, Single, Raw, Iterates, Views, Text, Vector, Unique, Member, NoMember, width}
use Rattle.life_values.specs.Layouts.{flat, leaf, owned_word, owner_words}
use Rattle.life_values.specs.declared.layout.Holds.{Holds}
use Rattle.life_values.specs.declared.layout.Holds.TheVariants as holds
use Rattle.life_values.specs.declared.layout.Leaf.{Leaf}
use Rattle.life_values.proofs.Flat.{in_back, in_either, owner_words_own, IsAmong, IsOwnerOf}

leaf_among : (ls : List Leaf) (j u : ℕ) (l : Leaf) → slice_get ls j ≡ Some l → owned_word l ≡ u ∷ [] → IsAmong (owner_words ls) u
leaf_among [] j u l at_j own = absurd (none-some l at_j)
leaf_among (x ∷ xs) zero u l at_j own = (0, ap (λ ys. slice_get (ys ++ owner_words xs) 0) (ap owned_word (same_Some x l at_j) ∙ own))
leaf_among (x ∷ xs) (suc j) u l at_j own =
    let r = leaf_among xs j u l at_j own in
    (length (owned_word x) + r.0, in_back (owned_word x) (owner_words xs) r.0 u r.1)

one_leaf : (w n : ℕ) (h : Holds) (j : ℕ) (l : Leaf) → slice_get (leaf w h ∷ []) j ≡ Some l → 0 < n → l.word < w + n
one_leaf w n h zero l e lt = let s = ap (λ (x : Leaf). x.word) (same_Some (leaf w h) l e) in omega (arith, s, lt)
one_leaf w n h (suc j) l e lt = absurd (none-some l e)

pub characters_own : (p : Parts) (w j : ℕ) (l : Leaf) (ty : TyId) → slice_get (flat w p) j ≡ Some l → l.holds ≡ holds.Characters ty → IsOwnerOf p w l.word
characters_own p w j l ty at_j e =
    let r = leaf_among (flat w p) j l.word l at_j (ap (λ h. owned_word (leaf l.word h)) e) in
    owner_words_own p w r.0 l.word r.1

-- a leaf begins within its value
pub leaf_within : (p : Parts) (w j : ℕ) (l : Leaf) → slice_get (flat w p) j ≡ Some l → l.word < w + width p
leaf_within Single w j l e = absurd (none-some l e)
leaf_within Raw w j l e = one_leaf w 5 holds.Raw j l e (omega arith)
leaf_within Iterates w j l e = absurd (none-some l e)
leaf_within Views w j l e = one_leaf w 5 holds.View j l e (omega arith)
leaf_within (Text ty) w j l e = one_leaf w 1 (holds.Characters ty) j l e (omega arith)
leaf_within (Vector ty element) w j l e = one_leaf w 1 (holds.Elements ty) j l e (omega arith)
leaf_within (Unique ty target) w j l e = one_leaf w 1 (holds.Target ty) j l e (omega arith)
leaf_within (Member first others) w j l e =
    in_either (flat w first) (flat (w + width first) others) j l e
    (λ f. let r = leaf_within first w j l f in omega (arith, r))
    (λ k f. let r = leaf_within others (w + width first) k l f in omega (arith, r))
leaf_within NoMember w j l e = absurd (none-some l e)
