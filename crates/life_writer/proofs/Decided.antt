-- What is decided by tests, and what isn't.
use Rattle.std.proofs.Common.{◌≡◌, ℕ, Bool, true, false, List, [], length, Option, None, Some, Result, Ok, refl, sym, ap, subst, ◌∙◌}
use Rattle.std.specs.Prelude.{if◌then◌else◌}
use Rattle.life_types.specs.declared.memory.NoMemory.{NoMemory}
use Rattle.life_types.specs.declared.place.Place.{Place}
use Rattle.life_types.specs.declared.ty.Ty.{Ty}
use Rattle.life_typed.specs.Operators.{is_nullable}
use Rattle.life_typed.specs.declared.typed_expr.Category.{Category}
use Rattle.life_core.specs.Operands.{Location, Operand}
use Rattle.life_core.specs.Step.{Test}
use Rattle.life_core.specs.Tree.{Tree, condition_tree, trees}
use Rattle.life_core.specs.declared.stmt.Condition.{Condition}
use Rattle.life_writer.specs.Answers.{Answered, Answers, AnswersIf}
use Rattle.life_writer.specs.Conditions.{behind_code, branched, by_branch, end_tested, non_zero, not_null, tested}
use Rattle.life_writer.specs.Registers.{target}
use Rattle.life_writer.specs.Uses.{Uses}
use Rattle.life_writer.specs.Using.{condition_by}
use Rattle.life_writer.specs.Values as values
use Rattle.life_writer.specs.declared.behind.Behind.{Behind}
use Rattle.life_writer.specs.Writing.{State, Gives, gives, ◌>>◌, mapped, taken, with_code}
use Rattle.life_writer.proofs.Giving.{answers_as}

-- ---- an answer that may not be there

pub nothing_there : {X : Type 0} (o : Option X) → ((x : X) → o ≡ Some x → ⊥) → o ≡ None
nothing_there None h = refl
nothing_there (Some x) h = absurd (h x refl)

pub decides : {X A : Type 0} (view : X → A) (o : Option X) (x : X) (by : Option (State → Gives A)) (before now : State) → o ≡ Some x → AnswersIf view (Ok o) by before now → Answered view x by before now
decides {X = X} view o x by before now is h = subst (λ (p : Option X). AnswersIf view (Ok p) by before now) is h

pub leaves : {X A : Type 0} (view : X → A) (o : Option X) (by : Option (State → Gives A)) (before now : State) → o ≡ None → AnswersIf view (Ok o) by before now → (by ≡ None) × (now ≡ before)
leaves {X = X} view o by before now is h = subst (λ (p : Option X). AnswersIf view (Ok p) by before now) is h

-- .. with the same behind it
pub decision_behind : (e : Uses) (o : Option Condition) (b c : Behind) (before now : State) → b ≡ c → AnswersIf condition_tree (Ok o) (e.decision b) before now → AnswersIf condition_tree (Ok o) (e.decision c) before now
decision_behind e o b c before now same h = subst (λ (d : Behind). AnswersIf condition_tree (Ok o) (e.decision d) before now) same h

-- ---- conditions

pub condition_decided : {X : Type 0} (view : X → Tree) (x : X) (d : Option (State → Gives Tree)) (t : Ty) (place : Place) (ends : Option Place) (pointer : State → Gives Location) (value : State → Gives ℕ) (s now : State)
    → Answered view x d s now → condition_by d t place ends pointer value s ≡ gives (view x) now
condition_decided view x None t place ends pointer value s now h = absurd h
condition_decided view x (Some g) t place ends pointer value s now h = h

condition_else : (b : Bool) (d : Option (State → Gives Tree)) (t : Ty) (place : Place) (ends : Option Place) (pointer : State → Gives Location) (value : State → Gives ℕ) (s s1 : State)
    → d ≡ None → s1 ≡ s → is_nullable t ≡ b → condition_by d t place ends pointer value s ≡ (if b then not_null place ends pointer s1 else non_zero place ends value s1)
condition_else b d t place ends pointer value s s1 none same raw =
    ap (λ (x : Option (State → Gives Tree)). condition_by x t place ends pointer value s) none
    ∙ ap (λ (c : Bool). if c then not_null place ends pointer s else non_zero place ends value s) raw
    ∙ ap (λ (x : State). if b then not_null place ends pointer x else non_zero place ends value x) (sym same)

pub condition_pointer : (d : Option (State → Gives Tree)) (t : Ty) (place : Place) (ends : Option Place) (pointer : State → Gives Location) (value : State → Gives ℕ) (s s1 : State)
    → d ≡ None → s1 ≡ s → is_nullable t ≡ true → condition_by d t place ends pointer value s ≡ not_null place ends pointer s1
condition_pointer d t place ends pointer value s s1 none same raw = condition_else true d t place ends pointer value s s1 none same raw

pub condition_value : (d : Option (State → Gives Tree)) (t : Ty) (place : Place) (ends : Option Place) (pointer : State → Gives Location) (value : State → Gives ℕ) (s s1 : State)
    → d ≡ None → s1 ≡ s → is_nullable t ≡ false → condition_by d t place ends pointer value s ≡ non_zero place ends value s1
condition_value d t place ends pointer value s s1 none same raw = condition_else false d t place ends pointer value s s1 none same raw

-- ---- values

pub value_decided : {X : Type 0} (view : X → Tree) (x : X) (into : Option ℕ) (u t : Ty) (place : Place) (category : Category) (d : Option (State → Gives Tree)) (at : State → Gives Operand)
    (made : Option ℕ → State → Gives ℕ) (s s1 now : State) (r : Result ℕ NoMemory)
    → u ≡ t → Answered view x d s s1 → Answers (λ n. n) r (by_branch into u place (gives (view x)) s1) now → Answers (λ n. n) r (values.value_from t place category d at made into s) now
value_decided view x into u t place category None at made s s1 now r same h given = absurd h
value_decided view x into u t place category (Some g) at made s s1 now r same h given =
    answers_as (λ n. n) r _ _ now
    (ap (λ (w : Gives Tree). w >> λ test s. target place into t s >> λ x s. branched place test x s) h
    ∙ ap (λ (y : Ty). by_branch into y place (gives (view x)) s1) (sym same))
    given

pub value_undecided : (into : Option ℕ) (t : Ty) (place : Place) (category : Category) (d : Option (State → Gives Tree)) (at : State → Gives Operand)
    (made : Option ℕ → State → Gives ℕ) (s s1 now : State) (r : Result ℕ NoMemory)
    → d ≡ None → s1 ≡ s → Answers (λ n. n) r (values.read_or_made t place category at made into s1) now → Answers (λ n. n) r (values.value_from t place category d at made into s) now
value_undecided into t place category d at made s s1 now r none same given =
    answers_as (λ n. n) r _ _ now
    (ap (λ (x : Option (State → Gives Tree)). values.value_from t place category x at made into s) none
    ∙ ap (λ (x : State). values.read_or_made t place category at made into x) (sym same))
    given

-- ---- single tests

pub tested_behind : {A : Type 0} (place : Place) (ends : Option Place) (asks : State → Gives A) (what : A → Test) (s s1 s2 now : State) (x : A) (codes : List Tree) (pending : ℕ) (r : Result Condition NoMemory)
    → codes ≡ s.code → pending ≡ length s.pending → s1 ≡ with_code [] s → asks s1 ≡ gives x s2
    → Answers condition_tree r (behind_code place (what x) (taken (with_code codes s2) (end_tested pending ends s2))) now
    → Answers condition_tree r (tested place ends (λ s. mapped what (asks s)) s) now
tested_behind {A = A} place ends asks what s s1 s2 now x codes pending r same count begun given answered =
    answers_as condition_tree r _ _ now
    (ap (λ (w : Gives A). behind_code place (what w.given) (taken s (end_tested (length s.pending) ends w.state))) (ap asks (sym begun) ∙ given)
    ∙ ap (λ (n : ℕ). behind_code place (what x) (taken s (end_tested n ends s2))) (sym count)
    ∙ ap (λ (cs : List Tree). let e = end_tested pending ends s2 in behind_code place (what x) (gives (trees e.code) (with_code cs e))) (sym same))
    answered
