-- Branches, and the parts of the head of a `for`, written one after the other, are those of the tree.
use Rattle.std.proofs.Common.{◌≡◌, List, [], ◌∷◌, ◌++◌, Option, Some, None, refl, ap, sym, ◌∙◌, append_assoc}
use Rattle.life_tree.specs.Branches.{branch_keys, else_if_keys, start_tree}
use Rattle.life_tree.specs.Tree.{Tree, ◌⨾◌, construct, keys_of}
use Rattle.life_tree.specs.Views.{BranchView, ElseIfView, else_part_tree, for_clauses_form, optional_tree}
use Rattle.life_tree.specs.declared.fixed.TheConstants.{ELSE, IF}
use Rattle.life_tree.specs.declared.key.TokenKey.{TokenKey}
use Rattle.life_tree.specs.declared.key.TokenKey.TheVariants.{Fixed}
use Rattle.life_tree.specs.declared.stmt.ForStart.{ForStart}
use Rattle.life_tree.specs.declared.stmt.ForStart.TheVariants.{Declaration, Simple}

pub else_keys : (es : List ElseIfView) (last : Option Tree) → keys_of (else_part_tree es last) ≡ else_if_keys es ++ keys_of (optional_tree (λ (t : Tree). t) last)
else_keys [] None = refl
else_keys [] (Some last) = refl
else_keys (e ∷ es) last =
    ap (λ (ks : List TokenKey). Fixed ELSE ∷ Fixed IF ∷ (keys_of e.branch.condition ++ (keys_of e.branch.body ++ ks))) (else_keys es last)
    ∙ simp append_assoc

pub chain_keys : (b : BranchView) (es : List ElseIfView) (last : Option Tree) → keys_of (construct IF b.keyword (b.condition ⨾ b.body ⨾ else_part_tree es last)) ≡ branch_keys b ++ (else_if_keys es ++ keys_of (optional_tree (λ (t : Tree). t) last))
chain_keys b es last =
    ap (λ (ks : List TokenKey). Fixed IF ∷ (keys_of b.condition ++ (keys_of b.body ++ ks))) (else_keys es last)
    ∙ ap (λ (ks : List TokenKey). Fixed IF ∷ ks) (sym (append_assoc (keys_of b.condition) (keys_of b.body) (else_if_keys es ++ keys_of (optional_tree (λ (t : Tree). t) last))))

pub start_keys : (start : Option ForStart) (rest : Tree) → keys_of (for_clauses_form start rest) ≡ keys_of (start_tree start) ++ keys_of rest
start_keys None rest = refl
start_keys (Some (Declaration d)) rest = simp append_assoc
start_keys (Some (Simple s)) rest = refl
