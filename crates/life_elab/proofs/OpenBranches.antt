-- The branches of an `if`, one opened after the other and then closed.
use Rattle.std.proofs.Common.{◌≡◌, ◌+◌, ◌<◌, ℕ, List, [], ◌∷◌, ◌++◌, length, drop, map, get_or, refl, sym, ap, subst, ◌∙◌, append_assoc}
use Rattle.std.proofs.lemmas.List.{drop_more, map-append}
use Rattle.life_typed.specs.TypedForm.{typed_view, whole}
use Rattle.life_typed.specs.TypedStatement.{StmtForm, branch, branch_view, branching, chain, stmt_forms, stmt_view}
use Rattle.life_typed.specs.declared.typed_stmt.TypedBranch.{TypedBranch, fold_out-TypedBranch, out-TypedBranch}
use Rattle.life_typed.specs.declared.typed_stmt.TypedStmt.{TypedStmt}
use Rattle.life_writer.specs.Around.{Around}
use Rattle.life_writer.specs.Behind.{ending}
use Rattle.life_writer.specs.ExpressionForms.{uses}
use Rattle.life_writer.specs.Using.{condition}
use Rattle.life_writer.specs.Writing.{State, Gives, gives, mapped}
use Rattle.life_elab.specs.OpenedViews.{opened_of}
use Rattle.life_elab.specs.StatementForms.{branches_of, opened_all, statement}
use Rattle.life_elab.specs.Statements.{Opened, closed, closed_one, opened}
use Rattle.life_elab.specs.declared.branches.Opened.{Opened as Writing}

-- opened, and closed behind what is done where no condition holds
pub all_opened : (a : Around) (branches : StmtForm) (last : State → State) (s : State)
    → closed (opened_all a branches s).given (last (opened_all a branches s).state) ≡ branches_of a branches last s
all_opened a (chain (branch keyword decides closing body) others) last s =
    let w = opened (condition (uses a (whole decides)) (ending closing)) (statement a body) s in
    ap (closed_one w.given) (all_opened a others last w.state)
all_opened a _ last s = refl

pub if_written : (a : Around) (branches last : StmtForm) (s : State) (os : List Opened) (between behind after : State)
    → opened_all a branches s ≡ gives os between → behind ≡ statement a last between → after ≡ closed os behind → after ≡ branches_of a branches (statement a last) s
if_written a branches last s os between behind after first second third =
    third ∙ ap (closed os) second ∙ sym (ap (λ (w : Gives (List Opened)). closed w.given (statement a last w.state)) first) ∙ all_opened a branches (statement a last) s

pub if_gives : (a : Around) (f branches last : StmtForm) (s : State) (os : List Opened) (between behind after : State) → f ≡ branching branches last
    → opened_all a branches s ≡ gives os between → behind ≡ statement a last between → after ≡ closed os behind → after ≡ statement a f s
if_gives a f branches last s os between behind after is first second third =
    if_written a branches last s os between behind after first second third ∙ ap (λ (g : StmtForm). statement a g s) (sym is)

-- ---- opening

-- those so far and those that are left are all
abbrev pub Opening : Around → List Opened → List TypedBranch → State → Gives (List Opened) → Type 0
Opening a so_far branches s total = mapped (λ rest. so_far ++ rest) (opened_all a (stmt_forms (map branch_view branches)) s) ≡ total

seen : (b : TypedBranch) (x : TypedStmt) → (out-TypedBranch b).body.value ≡ x
    → branch_view b ≡ branch (out-TypedBranch b).keyword (typed_view (out-TypedBranch b).condition) (out-TypedBranch b).closing (stmt_view x)
seen b x is = rw fold_out-TypedBranch (ap (λ (y : TypedStmt). branch (out-TypedBranch b).keyword (typed_view (out-TypedBranch b).condition) (out-TypedBranch b).closing (stmt_view y)) is)

opening_more : (a : Around) (so_far : List Opened) (b : TypedBranch) (bs : List TypedBranch) (x : TypedStmt) (s : State) (o : Opened) (after : State) (total : Gives (List Opened))
    → (out-TypedBranch b).body.value ≡ x → opened (condition (uses a (whole (typed_view (out-TypedBranch b).condition))) (ending (out-TypedBranch b).closing)) (statement a (stmt_view x)) s ≡ gives o after
    → Opening a so_far (b ∷ bs) s total → Opening a (so_far ++ o ∷ []) bs after total
opening_more a so_far b bs x s o after total is given all =
    let rest = opened_all a (stmt_forms (map branch_view bs)) after in
    let moved : mapped (λ rest. (so_far ++ o ∷ []) ++ rest) rest ≡ gives (so_far ++ (o ∷ rest.given)) rest.state =
    ap (λ (xs : List Opened). gives xs rest.state) (append_assoc so_far (o ∷ []) rest.given) in
    let first : mapped (λ rest. so_far ++ rest) (opened_all a (chain (branch (out-TypedBranch b).keyword (typed_view (out-TypedBranch b).condition) (out-TypedBranch b).closing (stmt_view x)) (stmt_forms (map branch_view bs))) s)
    ≡ gives (so_far ++ (o ∷ rest.given)) rest.state =
    ap (λ (w : Gives Opened). gives (so_far ++ (w.given ∷ (opened_all a (stmt_forms (map branch_view bs)) w.state).given)) (opened_all a (stmt_forms (map branch_view bs)) w.state).state) given in
    moved ∙ sym first ∙ sym (ap (λ (f : StmtForm). mapped (λ rest. so_far ++ rest) (opened_all a (chain f (stmt_forms (map branch_view bs))) s)) (seen b x is)) ∙ all

pub opening_turn : (a : Around) (so_far : List Opened) (branches : List TypedBranch) (i : ℕ) (b : TypedBranch) (x : TypedStmt) (s : State) (o : Opened) (after : State) (total : Gives (List Opened))
    → i < length branches → b ≡ get_or branches i b → (out-TypedBranch b).body.value ≡ x
    → opened (condition (uses a (whole (typed_view (out-TypedBranch b).condition))) (ending (out-TypedBranch b).closing)) (statement a (stmt_view x)) s ≡ gives o after
    → Opening a so_far (drop i branches) s total → Opening a (so_far ++ o ∷ []) (drop (i + 1) branches) after total
opening_turn a so_far branches i b x s o after total more is body given all =
    let first : drop i branches ≡ b ∷ drop (i + 1) branches = drop_more branches i b more ∙ ap (λ y. y ∷ drop (i + 1) branches) (sym is) in
    opening_more a so_far b (drop (i + 1) branches) x s o after total body given (subst (λ (bs : List TypedBranch). Opening a so_far bs s total) first all)

-- ---- closing

pub closed_last : (os : List Opened) (o : Opened) (s : State) → closed (os ++ o ∷ []) s ≡ closed os (closed_one o s)
closed_last [] o s = refl
closed_last (p ∷ os) o s = ap (closed_one p) (closed_last os o s)

-- the innermost of what is open is closed
pub closed_innermost : (all front : List Writing) (o : Writing) (s after : State) (total : State) → all ≡ front ++ o ∷ [] → after ≡ closed_one (opened_of o) s
    → closed (map opened_of all) s ≡ total → closed (map opened_of front) after ≡ total
closed_innermost all front o s after total is done rest =
    ap (closed (map opened_of front)) done
    ∙ sym (ap (λ (os : List Opened). closed os s) (ap (map opened_of) is ∙ map-append opened_of front (o ∷ [])) ∙ closed_last (map opened_of front) (opened_of o) s)
    ∙ rest
