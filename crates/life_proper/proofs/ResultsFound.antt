-- Where each return stands behind a write of the result, as the flow knows, the result was written on every way to a return.
use Rattle.std.proofs.Common.{◌≡◌, ℕ, true, Some, None, ⊎_elim, sym, ◌∙◌, ap}
use Rattle.std.proofs.lemmas.Option.{same_Some}
use Rattle.std.specs.Prelude.{IsTrue}
use Rattle.life_types.specs.Types.{Types}
use Rattle.life_core.specs.declared.exits.Exits.{Exits}
use Rattle.life_core.specs.Function.{Function}
use Rattle.life_core.specs.Linked.{Linked, code_of, no_exits, numbered}
use Rattle.life_core.specs.Proper.{Reaches}
use Rattle.life_core.specs.Ready.{IsThere, Ready}
use Rattle.life_core.specs.Step.{Step, Test}
use Rattle.life_core.specs.Tree.{Tree, Skip, Then, Acts, Asks, Both, Either, Negated, Choice, Turns, Breaks, Continues, Returns, Stops, Node, Action, Question, Return, Stop}
use Rattle.life_proper.specs.declared.known.Known.{Known}
use Rattle.life_proper.specs.declared.known.Known.TheVariants as known
use Rattle.life_proper.specs.Checking.{is_checked}
use Rattle.life_proper.specs.Knowing.{State, entry_known, same}
use Rattle.life_proper.specs.ResultsKnown.{IsKnownReady, ReturnsKnown}
use Rattle.life_proper.proofs.Meeting.{IsMet, there}
use Rattle.life_proper.proofs.ProperFunctions.{reached}
use Rattle.life_proper.proofs.Ways.{Stands}

-- ---- what stands at other points

action_returns : (i : Step) → Action i ≡ Return → ⊥
action_returns i e = cc

question_returns : (t : Test) → Question t ≡ Return → ⊥
question_returns t e = cc

stop_returns : Stop ≡ Return → ⊥
stop_returns e = cc

abbrev node_of : Linked → Node
node_of l = l.spot.node

module _ (types : Types) (f : Function) (r : ℕ) where
  known_held : (s : State) (bits : Ready) → IsMet s bits → IsKnownReady r s → IsThere bits r
  known_held None bits m e = absurd m
  known_held (Some k) bits m e = there k bits r true m (ap (λ (a : Known). same a known.Ready) e)

  -- a return that is reached in a tree
  written_at : (t : Tree) (at : ℕ) (s : State) (x : Exits) (p : ℕ) (l : Linked) (bits : Ready) → Stands types f t at s x p l bits → ReturnsKnown types f r t s → l.spot.node ≡ Return → IsThere bits r
  written_at Skip at s x p l bits h g is = absurd h
  written_at (Then a b) at s x p l bits h g is = ⊎_elim (λ i. written_at a at s _ p l bits i g.0 is) (λ i. written_at b _ _ x p l bits i g.1 is) h
  written_at (Acts place i) at s x p l bits h g is = absurd (action_returns i (ap node_of h.is ∙ is))
  written_at (Asks place t) at s x p l bits h g is = absurd (question_returns t (ap node_of h.is ∙ is))
  written_at (Both a b) at s x p l bits h g is = ⊎_elim (λ i. written_at a at s _ p l bits i g.0 is) (λ i. written_at b _ _ x p l bits i g.1 is) h
  written_at (Either a b) at s x p l bits h g is = ⊎_elim (λ i. written_at a at s _ p l bits i g.0 is) (λ i. written_at b _ _ x p l bits i g.1 is) h
  written_at (Negated a) at s x p l bits h g is = written_at a at s _ p l bits h g is
  written_at (Choice t a b) at s x p l bits h g is =
      ⊎_elim (λ i. written_at t at s _ p l bits i g.0 is)
      (⊎_elim (λ i. written_at a _ _ x p l bits i g.1.0 is) (λ i. written_at b _ _ x p l bits i g.1.1 is))
      h
  written_at (Turns t body step) at s x p l bits h g is =
      ⊎_elim (λ i. written_at t at _ _ p l bits i g.0 is)
      (⊎_elim (λ i. written_at body _ _ _ p l bits i g.1.0 is) (λ i. written_at step _ _ _ p l bits i g.1.1 is))
      h
  written_at Breaks at s x p l bits h g is = absurd h
  written_at Continues at s x p l bits h g is = absurd h
  written_at (Returns place) at s x p l bits h g is = known_held s bits h.meets g
  written_at (Stops place) at s x p l bits h g is = absurd (stop_returns (ap node_of h.is ∙ is))

-- .. and in a function that is let through
pub results_found : (types : Types) (f : Function) → IsTrue (is_checked types f) → (r : ℕ) → ReturnsKnown types f r f.body (Some (entry_known f))
    → (p : ℕ) (bits : Ready) (l : Linked) → Reaches types f p bits → numbered (code_of f) p ≡ Some l → l.spot.node ≡ Return → IsThere bits r
results_found types f e r g p bits l way at is =
    let here = reached types f e p bits way in
    written_at types f r f.body 1 (Some (entry_known f)) no_exits p here.link bits here.stands g (ap node_of (same_Some here.link l (sym here.at ∙ at)) ∙ is)
