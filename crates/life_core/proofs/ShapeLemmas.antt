-- The tree of a statement is one of a statement, and that of a condition one of a condition.
use Rattle.std.proofs.Common.{◌≡◌, List, [], ◌∷◌, map, refl, sym, subst}
use Rattle.std.proofs.lemmas.Bool.{and_from}
use Rattle.std.specs.Prelude.{IsTrue}
use Rattle.life_core.specs.declared.stmt.Condition.{Condition, roll-Condition}
use Rattle.life_core.specs.declared.stmt.Condition.TheFolds.{fold-roll-Condition, fold-roll-Stmt, ind-Condition, ind-Stmt, map-Condition, map-Stmt}
use Rattle.life_core.specs.declared.stmt.Condition.TheOpen.{Condition-F, After, Single, And, Or, Not, Stmt-F, List as Sequence, Do, Branch, Loop, Break, Continue, Return as ReturnAt, Stop as StopAt}
use Rattle.life_core.specs.declared.stmt.Stmt.{Stmt, roll-Stmt}
use Rattle.life_core.specs.Shape.{is_statement, is_condition}
use Rattle.life_core.specs.Tree.{Tree, trees, condition_step, stmt_step, condition_tree, tree_of}

abbrev IsConditionTree : Condition → Type 0
IsConditionTree c = IsTrue (is_condition (condition_tree c))

abbrev IsStatementTree : Stmt → Type 0
IsStatementTree s = IsTrue (is_statement (tree_of s))

-- one layer, over parts whose trees are of the right shape
module _ (Y Y' : Type 0) (u : Y → Condition) (v : Y' → Stmt) (p : (y : Y) → IsConditionTree (u y)) (q : (y : Y') → IsStatementTree (v y)) where
  condition_layer : (y : Condition-F Y Y') → IsTrue (is_condition (condition_step (map-Condition Condition Stmt Tree Tree condition_tree tree_of (map-Condition Y Y' Condition Stmt u v y))))
  condition_layer (After s t) = and_from _ _ (q s.value) (p t.value)
  condition_layer (Single place t) = refl
  condition_layer (And a b) = and_from _ _ (p a.value) (p b.value)
  condition_layer (Or a b) = and_from _ _ (p a.value) (p b.value)
  condition_layer (Not a) = p a.value

  row : (ys : List Y') → IsTrue (is_statement (trees (map tree_of (map v ys))))
  row [] = refl
  row (y ∷ ys) = and_from _ _ (q y) (row ys)

  stmt_layer : (y : Stmt-F Y Y') → IsTrue (is_statement (stmt_step (map-Stmt Condition Stmt Tree Tree condition_tree tree_of (map-Stmt Y Y' Condition Stmt u v y))))
  stmt_layer (Sequence items) = row items.items
  stmt_layer (Do place i) = refl
  stmt_layer (Branch t a b) = and_from _ _ (p t) (and_from _ _ (q a.value) (q b.value))
  stmt_layer (Loop t body step) = and_from _ _ (p t) (and_from _ _ (q body.value) (q step.value))
  stmt_layer Break = refl
  stmt_layer Continue = refl
  stmt_layer (ReturnAt place) = refl
  stmt_layer (StopAt place) = refl

  condition_made : (x : Condition-F Condition Stmt) (y : Condition-F Y Y') → map-Condition Y Y' Condition Stmt u v y ≡ x → IsConditionTree (roll-Condition x)
  condition_made x y e =
      subst (λ t. IsTrue (is_condition t)) (sym (fold-roll-Condition Tree Tree condition_step stmt_step x))
      (subst (λ (z : Condition-F Condition Stmt). IsTrue (is_condition (condition_step (map-Condition Condition Stmt Tree Tree condition_tree tree_of z)))) e
      (condition_layer y))

  stmt_made : (x : Stmt-F Condition Stmt) (y : Stmt-F Y Y') → map-Stmt Y Y' Condition Stmt u v y ≡ x → IsStatementTree (roll-Stmt x)
  stmt_made x y e =
      subst (λ t. IsTrue (is_statement t)) (sym (fold-roll-Stmt Tree Tree condition_step stmt_step x))
      (subst (λ (z : Stmt-F Condition Stmt). IsTrue (is_statement (stmt_step (map-Stmt Condition Stmt Tree Tree condition_tree tree_of z)))) e
      (stmt_layer y))

-- the tree of each statement is one of a statement
pub tree_is_statement : (s : Stmt) → IsTrue (is_statement (tree_of s))
tree_is_statement =
    ind-Stmt IsConditionTree IsStatementTree
    (λ x y e. condition_made _ _ (λ z. z.0) (λ z. z.0) (λ z. z.1) (λ z. z.1) x y e)
    (λ x y e. stmt_made _ _ (λ z. z.0) (λ z. z.0) (λ z. z.1) (λ z. z.1) x y e)

-- .. and the tree of each condition one of a condition
pub tree_is_condition : (c : Condition) → IsTrue (is_condition (condition_tree c))
tree_is_condition =
    ind-Condition IsConditionTree IsStatementTree
    (λ x y e. condition_made _ _ (λ z. z.0) (λ z. z.0) (λ z. z.1) (λ z. z.1) x y e)
    (λ x y e. stmt_made _ _ (λ z. z.0) (λ z. z.0) (λ z. z.1) (λ z. z.1) x y e)
