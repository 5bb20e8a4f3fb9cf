-- The loops over a chain: one operator after the other, and the last one.
use Rattle.std.proofs.Common.{◌≡◌, ◌+◌, ◌<◌, ◌≤◌, ℕ, suc, Bool, true, List, Option, None, Result, length, take, sym, ap, ◌∙◌, arith}
use Rattle.std.proofs.lemmas.List.{take_all}
use Rattle.std.proofs.lemmas.Option.{slice_get_past}
use Rattle.life_types.specs.declared.place.Place.{Place}
use Rattle.life_types.specs.declared.memory.NoMemory.{NoMemory}
use Rattle.life_typed.specs.TypedForm.{Form, Typed, whole}
use Rattle.life_typed.specs.declared.typed_expr.TypedOperand.{TypedOperand}
use Rattle.life_core.specs.Tree.{Tree}
use Rattle.life_writer.specs.Answers.{Answers}
use Rattle.life_writer.specs.Around.{Around}
use Rattle.life_writer.specs.Behind.{ending}
use Rattle.life_writer.specs.Chains.{Follows, Runs, is_link, joined_on, operated_on, place_if, token_behind}
use Rattle.life_writer.specs.ExpressionForms.{uses}
use Rattle.life_writer.specs.Parts.{HasLeft, inside, node_view, part_view}
use Rattle.life_writer.specs.Using.{condition, own_value}
use Rattle.life_writer.specs.Writing.{State, Gives, gives}
use Rattle.life_writer.specs.declared.behind.Behind.{Behind}
use Rattle.life_writer.specs.declared.chains.Chain.{Chain}
use Rattle.life_writer.specs.declared.chains.Chain.TheVariants as chain
use Rattle.life_writer.specs.declared.parts.Node.{Node}
use Rattle.life_writer.specs.declared.parts.Part.{Part}
use Rattle.life_writer.proofs.Following.{follows, next_condition, next_value}
use Rattle.life_writer.proofs.Giving.{answers_as}
use Rattle.life_writer.proofs.Seen.{token_seen}
use Rattle.life_writer.proofs.Weights.{left_lighter, runs_lighter, weight}

-- a part that was opened
module _ (n : Node) (part : Part) (node : node_view n ≡ part_view part) (left : HasLeft n.shape (inside part.within.now)) where
  pub same_weight : weight (whole (node_view n)) ≡ weight (whole (part_view part))
  same_weight = ap (λ (t : Typed). weight (whole t)) node

  last_follows : (which : Chain) (b : Bool) → b ≡ is_link which n.ty n.category n.shape → b ≡ true → Follows which (inside part.within.now) (whole (node_view n))
  last_follows which b found is = follows which n (inside part.within.now) (sym found ∙ is) left

  -- what is within an operator weighs less
  pub within_lighter : (which : Chain) (b : Bool) → b ≡ is_link which n.ty n.category n.shape → b ≡ true → (from k : ℕ) → Runs which part.within.now from → from ≤ k → k ≤ length part.within.now
      → suc (weight (inside (take k part.within.now))) < weight (whole (part_view part))
  within_lighter which b found is from k runs after within =
      let above = left_lighter which (inside part.within.now) (whole (node_view n)) (last_follows which b found is) in
      let below = runs_lighter which part.within.now from runs k after within in
      let same = same_weight in omega arith

  -- the last operator
  pub last_value : (a : Around) (behind : Place) (b : Bool) → b ≡ is_link chain.Computed n.ty n.category n.shape → b ≡ true → (i : ℕ) → length part.within.now ≤ i
      → (into : Option ℕ) (s0 s : State) (r : ℕ) (x : Result ℕ NoMemory) (now : State) → own_value (uses a (inside (take i part.within.now))) behind None s0 ≡ gives r s
      → Answers (λ x. x) x (operated_on a (whole (node_view n)) behind r into s) now → Answers (λ x. x) x (own_value (uses a (whole (part_view part))) behind into s0) now
  last_value a behind b found is i past into s0 s r x now so_far given =
      answers_as (λ x. x) x _ _ now
      (ap (λ (t : Typed). own_value (uses a (whole t)) behind into s0) (sym node)
      ∙ next_value a behind (inside part.within.now) (whole (node_view n)) into s0 s r (last_follows chain.Computed b found is)
      (ap (λ (os : List TypedOperand). own_value (uses a (inside os)) behind None s0) (sym (take_all i part.within.now past)) ∙ so_far))
      given

  pub last_condition : (a : Around) (b : Behind) (l : Bool) → l ≡ is_link chain.Joined n.ty n.category n.shape → l ≡ true → (i : ℕ) → length part.within.now ≤ i
      → {X : Type 0} (view : X → Tree) (s0 s : State) (test : Tree) (x : Result X NoMemory) (now : State) → condition (uses a (inside (take i part.within.now))) (ending (token_behind part.within.now i part.place)) s0 ≡ gives test s
      → Answers view x (joined_on a (whole (node_view n)) b.token test s) now → Answers view x (condition (uses a (whole (part_view part))) b s0) now
  last_condition a b l found is i past view s0 s test x now so_far given =
      let here : token_behind part.within.now i part.place ≡ n.place = ap (λ (o : Option TypedOperand). place_if o part.place) (slice_get_past part.within.now i past) ∙ sym (ap (λ (t : Typed). t.place) node) in
      answers_as view x _ _ now
      (ap (λ (t : Typed). condition (uses a (whole t)) b s0) (sym node)
      ∙ next_condition a b (inside part.within.now) (whole (node_view n)) s0 s test (last_follows chain.Joined l found is)
      (ap (λ (os : List TypedOperand). condition (uses a (inside os)) (ending n.place) s0) (sym (take_all i part.within.now past))
      ∙ ap (λ (place : Place). condition (uses a (inside (take i part.within.now))) (ending place) s0) (sym here)
      ∙ so_far))
      given

-- what a chain gives, link by link; its last one may be asked otherwise
module _ (which : Chain) (X : Type 0) (gives_so_far at_last : Form → Gives X) (on : Form → X → State → Gives X)
    (next : (first second : Form) (s : State) (x : X) → Follows which first second → gives_so_far first ≡ gives x s → at_last second ≡ on second x s) where
  pub link_turn : (operands : List TypedOperand) (from i : ℕ) → Runs which operands from → from ≤ i → i < length operands
      → (s now : State) (x y : X) (form : Form) → gives_so_far (inside (take i operands)) ≡ gives x s → form ≡ inside (take (i + 1) operands)
      → on form x s ≡ gives y now → at_last (inside (take (i + 1) operands)) ≡ gives y now
  link_turn operands from i runs after within s now x y form so_far is given =
      next (inside (take i operands)) (inside (take (i + 1) operands)) s x (runs i after within) so_far ∙ ap (λ (f : Form). on f x s) (sym is) ∙ given

  pub last_link : (n : Node) (part : Part) → node_view n ≡ part_view part → HasLeft n.shape (inside part.within.now)
      → (b : Bool) → b ≡ is_link which n.ty n.category n.shape → b ≡ true → (i : ℕ) → length part.within.now ≤ i
      → {Y : Type 0} (view : Y → X) (s : State) (x : X) (r : Result Y NoMemory) (now : State) → gives_so_far (inside (take i part.within.now)) ≡ gives x s
      → Answers view r (on (whole (node_view n)) x s) now → Answers view r (at_last (whole (part_view part))) now
  last_link n part node left b found is i past view s x r now so_far given =
      answers_as view r _ _ now
      (ap (λ (t : Typed). at_last (whole t)) (sym node)
      ∙ next (inside part.within.now) (whole (node_view n)) s x (last_follows n part node left which b found is)
      (ap (λ (os : List TypedOperand). gives_so_far (inside os)) (sym (take_all i part.within.now past)) ∙ so_far))
      given

-- one operator more
pub value_turn : (a : Around) (behind : Place) (operands : List TypedOperand) (from i : ℕ) → Runs chain.Computed operands from → from ≤ i → i < length operands
    → (s0 s now : State) (r r' : ℕ) (form : Form) → own_value (uses a (inside (take i operands))) behind None s0 ≡ gives r s → form ≡ inside (take (i + 1) operands)
    → operated_on a form behind r None s ≡ gives r' now → own_value (uses a (inside (take (i + 1) operands))) behind None s0 ≡ gives r' now
value_turn a behind operands from i runs after within s0 s now r r' form so_far is given =
    next_value a behind (inside (take i operands)) (inside (take (i + 1) operands)) None s0 s r (runs i after within) so_far
    ∙ ap (λ (f : Form). operated_on a f behind r None s) (sym is) ∙ given

pub condition_turn : (a : Around) (last : Place) (operands : List TypedOperand) (from i : ℕ) → Runs chain.Joined operands from → from ≤ i → i < length operands
    → (s0 s now : State) (test test' : Tree) (form : Form) (token : Place) → condition (uses a (inside (take i operands))) (ending (token_behind operands i last)) s0 ≡ gives test s → form ≡ inside (take (i + 1) operands)
    → token ≡ token_behind operands (i + 1) last
    → joined_on a form token test s ≡ gives test' now → condition (uses a (inside (take (i + 1) operands))) (ending (token_behind operands (i + 1) last)) s0 ≡ gives test' now
condition_turn a last operands from i runs after within s0 s now test test' form token so_far is next given =
    next_condition a (ending (token_behind operands (i + 1) last)) (inside (take i operands)) (inside (take (i + 1) operands)) s0 s test (runs i after within)
    (ap (λ (place : Place). condition (uses a (inside (take i operands))) (ending place) s0) (token_seen operands i last within) ∙ so_far)
    ∙ ap (λ (place : Place). joined_on a (inside (take (i + 1) operands)) place test s) (sym next)
    ∙ ap (λ (f : Form). joined_on a f token test s) (sym is) ∙ given
