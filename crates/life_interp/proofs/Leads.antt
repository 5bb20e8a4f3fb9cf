-- What stands at a point tells how many ways lead on from it.
use Rattle.std.proofs.Common.{◌≡◌, ℕ, zero, suc, ◌+◌, List, [], ◌∷◌, ◌++◌, Some, refl, ap, subst, ◌∙◌}
use Rattle.std.proofs.lemmas.Option.{none-some, same_Some}
use Rattle.std.specs.Prelude.{slice_get}
use Rattle.life_core.specs.declared.exits.Exits.{Exits}
use Rattle.life_core.specs.Function.{Function}
use Rattle.life_core.specs.Linked.{Lead, Linked, body_exits, code_of, enter, goes, linked, no_exits, numbered, parts, spot_at, turned, with_false, with_next, with_true}
use Rattle.life_core.specs.Step.{Step, Test}
use Rattle.life_core.specs.Tree.{Tree, Skip, Then, Acts, Asks, Both, Either, Negated, Choice, Turns, Breaks, Continues, Returns, Stops, Node, Action, Question, Return, Stop, size}
use Rattle.life_interp.specs.Walk.{first_way, second_way}

-- one way behind an instruction, two behind a test
abbrev IsLed : Node → List Lead → Type 0
IsLed (Action i) leads = leads ≡ goes (first_way leads)
IsLed (Question t) leads = leads ≡ parts (first_way leads) (second_way leads)
IsLed Return leads = leads ≡ []
IsLed Stop leads = leads ≡ []

abbrev AreLed : List Linked → Type 0
AreLed [] = Unit {0}
AreLed (l ∷ ls) = IsLed l.spot.node l.leads × AreLed ls

both_led : (a b : List Linked) → AreLed a → AreLed b → AreLed (a ++ b)
both_led [] b h k = k
both_led (l ∷ ls) b h k = (h.0, both_led ls b h.1 k)

linked_led : (t : Tree) (at : ℕ) (x : Exits) → AreLed (linked t at x)
linked_led Skip at x = tt
linked_led (Then a b) at x = both_led (linked a at (with_next (enter b (at + size a) x) x)) (linked b (at + size a) x) (linked_led a at (with_next (enter b (at + size a) x) x)) (linked_led b (at + size a) x)
linked_led (Acts place i) at x = (refl, tt)
linked_led (Asks place t) at x = (refl, tt)
linked_led (Both a b) at x = both_led (linked a at (with_true (enter b (at + size a) x) x)) (linked b (at + size a) x) (linked_led a at (with_true (enter b (at + size a) x) x)) (linked_led b (at + size a) x)
linked_led (Either a b) at x = both_led (linked a at (with_false (enter b (at + size a) x) x)) (linked b (at + size a) x) (linked_led a at (with_false (enter b (at + size a) x) x)) (linked_led b (at + size a) x)
linked_led (Negated a) at x = linked_led a at (turned x)
linked_led (Choice t a b) at x =
    let first = at + size t in
    let second = first + size a in
    let tests = with_true (enter a first x) (with_false (enter b second x) x) in
    both_led (linked t at tests) (linked a first x ++ linked b second x) (linked_led t at tests) (both_led (linked a first x) (linked b second x) (linked_led a first x) (linked_led b second x))
linked_led (Turns t body step) at x =
    let first = at + size t in
    let second = first + size body in
    let turn = with_next (enter t at x) x in
    let inner = body_exits (enter step second turn) x in
    let tests = with_true (enter body first inner) (with_false x.next x) in
    both_led (linked t at tests) (linked body first inner ++ linked step second turn) (linked_led t at tests) (both_led (linked body first inner) (linked step second turn) (linked_led body first inner) (linked_led step second turn))
linked_led Breaks at x = tt
linked_led Continues at x = tt
linked_led (Returns place) at x = (refl, tt)
linked_led (Stops place) at x = (refl, tt)

one_led : (ls : List Linked) (n : ℕ) (l : Linked) → AreLed ls → slice_get ls n ≡ Some l → IsLed l.spot.node l.leads
one_led [] n l h e = absurd (none-some l e)
one_led (m ∷ ls) zero l h e = subst (λ (k : Linked). IsLed k.spot.node k.leads) (same_Some m l e) h.0
one_led (m ∷ ls) (suc n) l h e = one_led ls n l h.1 e

point_led : (f : Function) (n : ℕ) (l : Linked) → numbered (code_of f) n ≡ Some l → IsLed l.spot.node l.leads
point_led f zero l e = absurd (none-some l e)
point_led f (suc n) l e = one_led (code_of f) n l (linked_led f.body 1 no_exits) e

module _ (f : Function) (q : ℕ) (l : Linked) (here : numbered (code_of f) q ≡ Some l) where
  as_led : (node : Node) (leads : List Lead) → l.spot.node ≡ node → l.leads ≡ leads → numbered (code_of f) q ≡ Some (record { spot = spot_at l.spot.place node; leads = leads })
  as_led node leads is led =
      here
      ∙ ap (λ (n : Node). Some (record { spot = spot_at l.spot.place n; leads = l.leads })) is
      ∙ ap (λ (ls : List Lead). Some (record { spot = spot_at l.spot.place node; leads = ls })) led

  pub action_here : (i : Step) → l.spot.node ≡ Action i → numbered (code_of f) q ≡ Some (record { spot = spot_at l.spot.place (Action i); leads = goes (first_way l.leads) })
  action_here i is = as_led (Action i) (goes (first_way l.leads)) is (subst (λ node. IsLed node l.leads) is (point_led f q l here))

  pub question_here : (t : Test) → l.spot.node ≡ Question t → numbered (code_of f) q ≡ Some (record { spot = spot_at l.spot.place (Question t); leads = parts (first_way l.leads) (second_way l.leads) })
  question_here t is = as_led (Question t) (parts (first_way l.leads) (second_way l.leads)) is (subst (λ node. IsLed node l.leads) is (point_led f q l here))

  pub return_here : l.spot.node ≡ Return → numbered (code_of f) q ≡ Some (record { spot = spot_at l.spot.place Return; leads = [] })
  return_here is = as_led Return [] is (subst (λ node. IsLed node l.leads) is (point_led f q l here))
