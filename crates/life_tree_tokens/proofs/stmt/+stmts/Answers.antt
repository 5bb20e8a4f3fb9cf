use Rattle.std.proofs.Common.{◌≡◌, ◌++◌, List, [], ◌∷◌, Some, None, map, refl, sym, ap, ◌∙◌, append_assoc}
use Rattle.std.proofs.lemmas.List.{append-nil}
use Rattle.life_tree_tokens.proofs.BranchKeys.{chain_keys, start_keys}
use Rattle.life_tree_tokens.proofs.Written.{ended, joined}
use Rattle.life_tree.specs.Branches.{branch_keys, else_if_keys, start_tree}
use Rattle.life_tree.specs.Tree.{keys_of}
use Rattle.life_tree.specs.Views.{boxed, branch_view, else_if_view, else_tree, expr_tree, for_rest_tree, for_tree, if_tree, optional_tree, plain_stmt_tree, simple_tree, stmt_tree}
use Rattle.life_tree.specs.declared.fixed.TheConstants.{ELSE, FOR, LEFT_PAREN, RIGHT_PAREN, SEMICOLON}
use Rattle.life_tree.specs.declared.key.TokenKey.{TokenKey}
use Rattle.life_tree.specs.declared.key.TokenKey.TheVariants.{Fixed}
use Rattle.life_tree.specs.declared.stmt.Else.{Else, fold_out-Else}
use Rattle.life_tree.specs.declared.stmt.For.{For, fold_out-For, out-For}
use Rattle.life_tree.specs.declared.stmt.If.{If, fold_out-If, out-If}
use Rattle.life_tree_tokens.proofs.stmt.+stmts.Goals as goal

for_keys : (f : For) → keys_of (for_tree f) ≡ Fixed FOR ∷ ((Fixed LEFT_PAREN ∷ ((keys_of (start_tree (out-For f).start) ++ Fixed SEMICOLON ∷ (keys_of (optional_tree (boxed expr_tree) (out-For f).condition)
    ++ Fixed SEMICOLON ∷ keys_of (optional_tree (boxed simple_tree) (out-For f).step))) ++ Fixed RIGHT_PAREN ∷ [])) ++ keys_of (stmt_tree (out-For f).body.value))
for_keys f = rw fold_out-For
    (ap (λ (ks : List TokenKey). Fixed FOR ∷ (Fixed LEFT_PAREN ∷ (ks ++ Fixed RIGHT_PAREN ∷ [])) ++ keys_of (stmt_tree (out-For f).body.value))
    (start_keys (out-For f).start (for_rest_tree (out-For f).first_semicolon (out-For f).condition (out-For f).second_semicolon (out-For f).step)))

if_none : (i : If) → (out-If i).last ≡ None → keys_of (if_tree i) ≡ branch_keys (branch_view (out-If i).first) ++ (else_if_keys (map else_if_view (out-If i).more.items) ++ [])
if_none i is = rw (fold_out-If, is) (chain_keys (branch_view (out-If i).first) (map else_if_view (out-If i).more.items) None)

if_some : (i : If) (e : Else) → (out-If i).last ≡ Some e
    → keys_of (if_tree i) ≡ (branch_keys (branch_view (out-If i).first) ++ else_if_keys (map else_if_view (out-If i).more.items)) ++ (Fixed ELSE ∷ keys_of (plain_stmt_tree e.body.value))
if_some i e is =
    let first = branch_keys (branch_view (out-If i).first) in
    let more = else_if_keys (map else_if_view (out-If i).more.items) in
    rw (fold_out-If, is)
    (chain_keys (branch_view (out-If i).first) (map else_if_view (out-If i).more.items) (Some (else_tree e))
    ∙ ap (λ (ks : List TokenKey). first ++ (more ++ ks)) (rw fold_out-Else)
    ∙ sym (append_assoc first more (Fixed ELSE ∷ keys_of (plain_stmt_tree e.body.value))))

pub write_for-returns : goal.write_for-returns
write_for-returns t c =
    joined c.write_stmt.result (Fixed FOR ∷ []) _ (keys_of (stmt_tree (out-For c.args.stmt.now).body.value)) _ _ _ _ _
    c.in_ok-write_fixed.ensures c.in_ok-write_for_head.ensures (for_keys c.args.stmt.now) (rw c.deref.ensures at c.write_stmt.ensures)

pub write_if-returns-in_ok-write_fixed-in-Some : goal.write_if-returns-in_ok-write_fixed-in-Some
write_if-returns-in_ok-write_fixed-in-Some t c =
    let first = branch_keys (branch_view (out-If c.args.stmt.now).first) in
    let more = else_if_keys (map else_if_view (out-If c.args.stmt.now).more.items) in
    joined c.write_plain.result (first ++ more) (Fixed ELSE ∷ []) (keys_of (plain_stmt_tree c.in-Some.last.body.value)) _ _ _ _ _
    (ended (λ items. else_if_keys (map else_if_view items)) (λ items. else_if_keys (map else_if_view items)) _ _ _ first (first ++ more) _ _ _
    c.branches-test.false refl c.branches.invariant c.deref-next-items.ensures.value c.in_ok-write_branch.ensures refl)
    c.in_ok-write_fixed-in-Some.ensures (if_some c.args.stmt.now c.in-Some.last c.in-Some.is) (rw c.deref.ensures at c.write_plain.ensures)

pub write_if-returns-in-None : goal.write_if-returns-in-None
write_if-returns-in-None t c = ended (λ items. else_if_keys (map else_if_view items)) (λ items. else_if_keys (map else_if_view items) ++ []) _ _ _ _ _ _ _ _
    c.branches-test.false refl (rw append-nil c.branches.invariant) c.deref-next-items.ensures.value c.in_ok-write_branch.ensures (if_none c.args.stmt.now c.in-None.is)
