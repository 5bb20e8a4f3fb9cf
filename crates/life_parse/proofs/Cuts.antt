-- One list of tokens, cut in two ways.
use Rattle.std.proofs.Common.{◌≡◌, ◌≤◌, [], ◌∷◌, ◌++◌, length, refl, sym, ap, ap₂, arith}
use Rattle.std.proofs.lemmas.List.{length-append}
use Rattle.life_tree.specs.Tree.{Tokens}
use Rattle.life_parse.specs.Source.{SameFront}
use Rattle.life_tree.specs.declared.token.TreeToken.{TreeToken}

abbrev onto : TreeToken → Tokens → Tokens
onto k ks = k ∷ ks

-- what the second beginning has beyond the first
pub cut_later : (xs ys us vs : Tokens) → xs ++ ys ≡ us ++ vs → length xs ≤ length us → (mid : Tokens) × (us ≡ xs ++ mid) × (ys ≡ mid ++ vs)
cut_later [] ys us vs e l = (us, refl, e)
cut_later (x ∷ xs) ys [] vs e l = absurd (omega arith)
cut_later (x ∷ xs) ys (u ∷ us) vs e l =
    let first : x ≡ u = cc in
    let behind : xs ++ ys ≡ us ++ vs = cc in
    let c = cut_later xs ys us vs behind (omega arith) in
    (c.0, ap₂ onto (sym first) c.1, c.2)

-- before the same end there is the same
pub same_before : (xs ys zs : Tokens) → xs ++ zs ≡ ys ++ zs → xs ≡ ys
same_before [] [] zs e = refl
same_before [] (y ∷ ys) zs e = absurd (omega (arith, ap length e, length-append ys zs))
same_before (x ∷ xs) [] zs e = absurd (omega (arith, ap length e, length-append xs zs))
same_before (x ∷ xs) (y ∷ ys) zs e =
    let first : x ≡ y = cc in
    let behind : xs ++ zs ≡ ys ++ zs = cc in
    ap₂ onto first (same_before xs ys zs behind)

-- ---- the same token in front

pub same_itself : (ts : Tokens) → SameFront ts ts
same_itself [] = tt
same_itself (k ∷ ks) = refl

pub same_up_to : (ks : Tokens) (k : TreeToken) (xs ys : Tokens) → SameFront (ks ++ k ∷ xs) (ks ++ k ∷ ys)
same_up_to [] k xs ys = refl
same_up_to (l ∷ ls) k xs ys = refl
