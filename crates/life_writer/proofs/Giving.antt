-- What is written one part after the other.
use Rattle.std.proofs.Common.{◌≡◌, Option, Some, Result, Ok, Err, sym, ap, subst, ◌∙◌}
use Rattle.life_types.specs.declared.memory.NoMemory.{NoMemory}
use Rattle.life_core.specs.Tree.{Tree, Negated}
use Rattle.life_writer.specs.Answers.{Answered, Answers, AnswersIf}
use Rattle.life_writer.specs.Conditions.{joined, negation}
use Rattle.life_writer.specs.Writing.{State, Gives, gives, mapped}

-- an answer to one definition is one to the same by another
pub answers_as : {X A : Type 0} (view : X → A) (r : Result X NoMemory) (g h : Gives A) (s : State) → g ≡ h → Answers view r h s → Answers view r g s
answers_as view (Ok x) g h s e p = e ∙ p
answers_as view (Err x) g h s e p = tt

pub answers_if_as : {X A : Type 0} (view : X → A) (r : Result (Option X) NoMemory) (g h : Option (State → Gives A)) (before now : State) → g ≡ h → AnswersIf view r h before now → AnswersIf view r g before now
answers_if_as {A = A} view r g h before now e p = subst (λ (x : Option (State → Gives A)). AnswersIf view r x before now) (sym e) p

pub answered_as : {X A : Type 0} (view : X → A) (x : X) (g : Option (State → Gives A)) (given : State → Gives A) (before now : State) → g ≡ Some given → given before ≡ gives (view x) now → Answered view x g before now
answered_as {A = A} view x g given before now e p = subst (λ (y : Option (State → Gives A)). Answered view x y before now) (sym e) p

-- two conditions joined
pub joined_gives : (join : Tree → Tree → Tree) (left right : State → Gives Tree) (s : State) (l : Tree) (behind : State) (r : Tree) (after : State) (both : Tree)
    → left s ≡ gives l behind → right behind ≡ gives r after → both ≡ join l r → joined join left right s ≡ gives both after
joined_gives join left right s l behind r after both first second is =
    ap (λ (w : Gives Tree). mapped (join w.given) (right w.state)) first ∙ ap (mapped (join l)) second ∙ ap (λ (t : Tree). gives t after) (sym is)

pub negation_gives : (condition : State → Gives Tree) (s : State) (t : Tree) (after : State) (n : Tree) → condition s ≡ gives t after → n ≡ Negated t → negation condition s ≡ gives n after
negation_gives condition s t after n given is = ap (mapped Negated) given ∙ ap (λ (x : Tree). gives x after) (sym is)
