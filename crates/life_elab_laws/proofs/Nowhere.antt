-- Where no way comes in, none goes out, and all is ready.
use Rattle.std.proofs.Common.{◌≡◌, true, None, refl, sym, ap, ◌∙◌, subst}
use Rattle.std.proofs.lemmas.Bool.{and_from}
use Rattle.life_types.specs.Types.{Types}
use Rattle.life_core.specs.Function.{Function}
use Rattle.life_core.specs.Tree.{Tree, Skip, Then, Acts, Asks, Both, Either, Negated, Choice, Turns, Breaks, Continues, Returns, Stops}
use Rattle.life_proper.specs.Checking.{Flow, before_both, before_false, before_next, before_true, flow, joined, of_body, of_step, of_test, turned}
use Rattle.life_proper.specs.Knowing.{State, at_head, comes_back, met}

pub record IsNowhere (w : Flow) : Type 0 where
  pub fine : w.fine ≡ true
  pub next : w.next ≡ None
  pub on_break : w.on_break ≡ None
  pub on_continue : w.on_continue ≡ None
  pub on_true : w.on_true ≡ None
  pub on_false : w.on_false ≡ None

pub none_met : (s t : State) → s ≡ None → t ≡ None → met s t ≡ None
none_met s t a b = ap (λ (u : State). met u t) a ∙ b

nowhere_joined : (w v : Flow) → IsNowhere w → IsNowhere v → IsNowhere (joined w v)
nowhere_joined w v a b = record {
  fine = and_from w.fine v.fine a.fine b.fine;
  next = none_met w.next v.next a.next b.next;
  on_break = none_met w.on_break v.on_break a.on_break b.on_break;
  on_continue = none_met w.on_continue v.on_continue a.on_continue b.on_continue;
  on_true = none_met w.on_true v.on_true a.on_true b.on_true;
  on_false = none_met w.on_false v.on_false a.on_false b.on_false;
}

nowhere_next : (w : Flow) → IsNowhere w → IsNowhere (before_next w)
nowhere_next w a = record { fine = a.fine; next = refl; on_break = a.on_break; on_continue = a.on_continue; on_true = a.on_true; on_false = a.on_false }

nowhere_true : (w : Flow) → IsNowhere w → IsNowhere (before_true w)
nowhere_true w a = record { fine = a.fine; next = a.next; on_break = a.on_break; on_continue = a.on_continue; on_true = refl; on_false = a.on_false }

nowhere_false : (w : Flow) → IsNowhere w → IsNowhere (before_false w)
nowhere_false w a = record { fine = a.fine; next = a.next; on_break = a.on_break; on_continue = a.on_continue; on_true = a.on_true; on_false = refl }

nowhere_both : (w : Flow) → IsNowhere w → IsNowhere (before_both w)
nowhere_both w a = record { fine = a.fine; next = a.next; on_break = a.on_break; on_continue = a.on_continue; on_true = refl; on_false = refl }

nowhere_turned : (w : Flow) → IsNowhere w → IsNowhere (turned w)
nowhere_turned w a = record { fine = a.fine; next = a.next; on_break = a.on_break; on_continue = a.on_continue; on_true = a.on_false; on_false = a.on_true }

nowhere_test : (w : Flow) → IsNowhere w → IsNowhere (of_test w)
nowhere_test w a = record { fine = a.fine; next = none_met w.next w.on_false a.next a.on_false; on_break = a.on_break; on_continue = a.on_continue; on_true = refl; on_false = refl }

nowhere_body : (w : Flow) → IsNowhere w → IsNowhere (of_body w)
nowhere_body w a = record { fine = a.fine; next = a.on_break; on_break = refl; on_continue = refl; on_true = a.on_true; on_false = a.on_false }

nowhere_step : (head : State) (w : Flow) → IsNowhere w → IsNowhere (of_step head w)
nowhere_step head w a = record {
  fine = and_from w.fine (comes_back head w.next) a.fine (ap (comes_back head) a.next);
  next = refl;
  on_break = a.on_break;
  on_continue = a.on_continue;
  on_true = a.on_true;
  on_false = a.on_false;
}

module _ (types : Types) (f : Function) where
  pub nowhere_flows : (t : Tree) (s : State) → s ≡ None → IsNowhere (flow types f t s)
  nowhere_flows Skip s e = record { fine = refl; next = e; on_break = refl; on_continue = refl; on_true = refl; on_false = refl }
  nowhere_flows (Then a b) s e =
      let w = nowhere_flows a s e in
      nowhere_joined (before_next (flow types f a s)) (flow types f b (flow types f a s).next) (nowhere_next (flow types f a s) w) (nowhere_flows b (flow types f a s).next w.next)
  nowhere_flows (Acts place i) s e = subst (λ (u : State). IsNowhere (flow types f (Acts place i) u)) (sym e) (record { fine = refl; next = refl; on_break = refl; on_continue = refl; on_true = refl; on_false = refl })
  nowhere_flows (Asks place t) s e = subst (λ (u : State). IsNowhere (flow types f (Asks place t) u)) (sym e) (record { fine = refl; next = refl; on_break = refl; on_continue = refl; on_true = refl; on_false = refl })
  nowhere_flows (Both a b) s e =
      let w = nowhere_flows a s e in
      nowhere_joined (before_true (flow types f a s)) (flow types f b (flow types f a s).on_true) (nowhere_true (flow types f a s) w) (nowhere_flows b (flow types f a s).on_true w.on_true)
  nowhere_flows (Either a b) s e =
      let w = nowhere_flows a s e in
      nowhere_joined (before_false (flow types f a s)) (flow types f b (flow types f a s).on_false) (nowhere_false (flow types f a s) w) (nowhere_flows b (flow types f a s).on_false w.on_false)
  nowhere_flows (Negated a) s e = nowhere_turned (flow types f a s) (nowhere_flows a s e)
  nowhere_flows (Choice t a b) s e =
      let w = flow types f t s in
      let h = nowhere_flows t s e in
      nowhere_joined (before_both w) (joined (flow types f a w.on_true) (flow types f b w.on_false)) (nowhere_both w h)
      (nowhere_joined (flow types f a w.on_true) (flow types f b w.on_false) (nowhere_flows a w.on_true h.on_true) (nowhere_flows b w.on_false h.on_false))
  nowhere_flows (Turns t body step) s e = turns (at_head f.locals s) (ap (at_head f.locals) e) (nowhere_flows t) (nowhere_flows body) (nowhere_flows step)
    where
      turns : (head : State) → head ≡ None → ((s : State) → s ≡ None → IsNowhere (flow types f t s)) → ((s : State) → s ≡ None → IsNowhere (flow types f body s)) → ((s : State) → s ≡ None → IsNowhere (flow types f step s))
          → IsNowhere (joined (of_test (flow types f t head)) (joined (of_body (flow types f body (flow types f t head).on_true))
          (of_step head (flow types f step (met (flow types f body (flow types f t head).on_true).next (flow types f body (flow types f t head).on_true).on_continue)))))
      turns head none test inner after =
          let w = flow types f t head in
          let h = test head none in
          let v = flow types f body w.on_true in
          let g = inner w.on_true h.on_true in
          let u = flow types f step (met v.next v.on_continue) in
          nowhere_joined (of_test w) (joined (of_body v) (of_step head u)) (nowhere_test w h)
          (nowhere_joined (of_body v) (of_step head u) (nowhere_body v g) (nowhere_step head u (after (met v.next v.on_continue) (none_met v.next v.on_continue g.next g.on_continue))))
  nowhere_flows Breaks s e = record { fine = refl; next = refl; on_break = e; on_continue = refl; on_true = refl; on_false = refl }
  nowhere_flows Continues s e = record { fine = refl; next = refl; on_break = refl; on_continue = e; on_true = refl; on_false = refl }
  nowhere_flows (Returns place) s e = subst (λ (u : State). IsNowhere (flow types f (Returns place) u)) (sym e) (record { fine = refl; next = refl; on_break = refl; on_continue = refl; on_true = refl; on_false = refl })
  nowhere_flows (Stops place) s e = record { fine = refl; next = refl; on_break = refl; on_continue = refl; on_true = refl; on_false = refl }
