-- A loop that is written part by part.
use Rattle.std.proofs.Common.{◌≡◌, ℕ, Option, Some, Result, length, sym, ap, ◌∙◌}
use Rattle.life_types.specs.declared.memory.NoMemory.{NoMemory}
use Rattle.life_types.specs.declared.place.Place.{Place}
use Rattle.life_typed.specs.TypedForm.{Typed, whole}
use Rattle.life_typed.specs.TypedStatement.{ForStartForm, SimpleForm, StmtForm, for_loop, while_loop}
use Rattle.life_core.specs.Tree.{Skip, Tree, Turns, condition_tree}
use Rattle.life_core.specs.declared.stmt.Condition.{Condition}
use Rattle.life_writer.proofs.Giving.{answers_as}
use Rattle.life_writer.specs.Answers.{Answers}
use Rattle.life_writer.specs.Writing.{State, Gives, gives, ◌>>◌, apart, write}
use Rattle.life_writer.specs.Around.{Around}
use Rattle.life_writer.specs.Behind.{ending}
use Rattle.life_writer.specs.ExpressionForms.{uses}
use Rattle.life_writer.specs.Using.{condition}
use Rattle.life_writer.specs.declared.behind.Behind.{Behind}
use Rattle.life_writer.specs.Variables.{end_since}
use Rattle.life_elab.specs.LastTokens.{last_token}
use Rattle.life_elab.specs.SimpleForms.{simple_if}
use Rattle.life_elab.specs.StatementForms.{condition_or_true, started, statement}
use Rattle.life_elab.specs.Statements.{body_of_loop, looped}

pub looped_gives : (test : State → Gives Tree) (body step : State → State) (s : State) (t : Tree) (tested : State) (b : Tree) (repeated : State) (n : Tree) (stepped after : State)
    → test s ≡ gives t tested → apart (body_of_loop body) tested ≡ gives b repeated → apart step repeated ≡ gives n stepped → after ≡ write (Turns t b n) stepped
    → after ≡ looped test body step s
looped_gives test body step s t tested b repeated n stepped after first second third last =
    last
    ∙ sym (ap (λ (w : Gives Tree). write (Turns t b w.given) w.state) third)
    ∙ sym (ap (λ (w : Gives Tree). apart step w.state >> λ n s. write (Turns t w.given n) s) second)
    ∙ sym (ap (λ (w : Gives Tree). apart (body_of_loop body) w.state >> λ b s. apart step s >> λ n s. write (Turns w.given b n) s) first)

-- a condition, or none
pub tested_if : (a : Around) (keyword : Place) (v : Option Typed) (e : Typed) (token : Place) (b : Behind) (s now : State) (r : Result Condition NoMemory) → v ≡ Some e → b ≡ ending token
    → Answers condition_tree r (condition (uses a (whole e)) b s) now → Answers condition_tree r (condition_or_true a keyword v token s) now
tested_if a keyword v e token b s now r is here given =
    answers_as condition_tree r _ _ now (ap (λ (o : Option Typed). condition_or_true a keyword o token s) is ∙ ap (λ (c : Behind). condition (uses a (whole e)) c s) (sym here)) given

-- a loop without a step
pub while_gives : (a : Around) (f : StmtForm) (keyword : Place) (decides : Typed) (closing : Place) (body : StmtForm) (s : State) (t : Tree) (tested : State) (b : Tree) (repeated : State) (n : Tree) (after : State) (b0 : Behind)
    → f ≡ while_loop keyword decides closing body → b0 ≡ ending closing → condition (uses a (whole decides)) b0 s ≡ gives t tested → apart (body_of_loop (statement a body)) tested ≡ gives b repeated → n ≡ Skip
    → after ≡ write (Turns t b n) repeated → after ≡ statement a f s
while_gives a f keyword decides closing body s t tested b repeated n after b0 is here first second none last =
    looped_gives (condition (uses a (whole decides)) (ending closing)) (statement a body) (λ s. s) s t tested b repeated n repeated after (ap (λ (c : Behind). condition (uses a (whole decides)) c s) (sym here) ∙ first) second
    (ap (λ (m : Tree). gives m repeated) (sym none)) last
    ∙ ap (λ (g : StmtForm). statement a g s) (sym is)

pub for_gives : (a : Around) (f : StmtForm) (keyword : Place) (start : Option ForStartForm) (one : Place) (decides : Option Typed) (two : Place) (step : Option SimpleForm) (closing : Place) (body : StmtForm)
    (s begun : State) (t : Tree) (tested : State) (b : Tree) (repeated : State) (n : Tree) (stepped written after : State) (outside : ℕ) (place : Place)
    → f ≡ for_loop keyword start one decides two step closing body → outside ≡ length s.living → begun ≡ started a start one s
    → condition_or_true a keyword decides two begun ≡ gives t tested → apart (body_of_loop (statement a body)) tested ≡ gives b repeated → apart (simple_if a step closing) repeated ≡ gives n stepped
    → written ≡ write (Turns t b n) stepped → place ≡ last_token body closing → after ≡ end_since place outside written → after ≡ statement a f s
for_gives a f keyword start one decides two step closing body s begun t tested b repeated n stepped written after outside place is count begins first second third turns token last =
    last
    ∙ ap (λ (p : Place). end_since p outside written) token
    ∙ ap (λ (m : ℕ). end_since (last_token body closing) m written) count
    ∙ ap (end_since (last_token body closing) (length s.living))
    (looped_gives (condition_or_true a keyword decides two) (statement a body) (simple_if a step closing) begun t tested b repeated n stepped written first second third turns
    ∙ ap (looped (condition_or_true a keyword decides two) (statement a body) (simple_if a step closing)) begins)
    ∙ ap (λ (g : StmtForm). statement a g s) (sym is)
