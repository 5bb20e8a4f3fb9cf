-- Loops: what is known at the head of a loop is known again wherever control comes back to it.
use Rattle.std.proofs.Common.{◌≡◌, ◌⊎◌, inl, inr, ℕ, zero, suc, Bool, true, false, ◌&&◌, List, [], ◌∷◌, ◌++◌, length, slice_get, take, Option, Some, None, refl, sym, ap, ◌∙◌, subst, arith, is_none, not, true≢false}
use Rattle.std.proofs.lemmas.Bool.{and_from, false≢true}
use Rattle.std.proofs.lemmas.Option.{same_Some}
use Rattle.life_types.specs.Types.{Types}
use Rattle.life_types.specs.declared.place.Place.{Place}
use Rattle.life_types.specs.declared.ty.NameId.{NameId}
use Rattle.life_core.specs.Function.{Function}
use Rattle.life_core.specs.Kinds.{is_object}
use Rattle.life_core.specs.Tree.{Tree, Turns, trees}
use Rattle.life_core.specs.declared.program.Local.{Local}
use Rattle.life_core.specs.declared.program.LocalKind.{LocalKind}
use Rattle.life_core.specs.declared.program.LocalKind.TheVariants as kind
use Rattle.life_proper.specs.declared.known.Known.{Known}
use Rattle.life_proper.specs.declared.known.Known.TheVariants as known
use Rattle.life_proper.specs.Checking.{Flow, flow, joined, of_body, of_step, of_test}
use Rattle.life_proper.specs.Knowing.{State as Knowing, are_implied, comes_back, forgotten, is_blank, is_forgotten, is_implied, is_lost, known_at, met}
use Rattle.life_proper.specs.ResultsKnown.{ReturnsKnown}
use Rattle.life_proper.proofs.Joining.{joined_end}
use Rattle.life_well_typed.specs.Visible.{Visible, behind}
use Rattle.life_writer.specs.Around.{Around, result_local}
use Rattle.life_writer.specs.Variables.{with_outside}
use Rattle.life_writer.specs.Writing.{State, Gives, with_code, write}
use Rattle.life_elab.specs.Statements.{looped}
use Rattle.life_elab_laws.proofs.Among.{Among, among_or}
use Rattle.life_elab_laws.proofs.Conditions.{Asked}
use Rattle.life_elab_laws.proofs.Exits.{AreLasting, Knows, Leaves, MayKnow, MayLeave, forgotten_implied, implied_same, leaves_joined, leaves_same, may_met, none_leaves}
use Rattle.life_elab_laws.proofs.Falling.{deciding}
use Rattle.life_elab_laws.proofs.Following.{Adds, Follows, HasRegister, adds_then, alive_knows, begins_added, follows_again, follows_grown, follows_lasting, grows_adds, knows_alive, register_later, take_itself, visible_again}
use Rattle.life_elab_laws.proofs.Fronts.{IsFront, front_itself, front_then}
use Rattle.life_elab_laws.proofs.GivingBack.{GivesResult, asks_known}
use Rattle.life_elab_laws.proofs.GivenApart.{alone_apart, three_apart}
use Rattle.life_elab_laws.proofs.Growing.{Begins}
use Rattle.life_elab_laws.proofs.HiddenStay.{Has, IsHidden, at_head_stays, has_met, stays}
use Rattle.life_elab_laws.proofs.Making.{Alive}
use Rattle.life_elab_laws.proofs.SomeKnown.{some_known, some_knows}
use Rattle.life_elab_laws.proofs.OrderedTypes.{order_then}
use Rattle.life_elab_laws.proofs.Shaped.{is_passing}
use Rattle.life_elab_laws.proofs.Shaping.{stated_alone, stated_turns}
use Rattle.life_elab_laws.proofs.Under.{ActingUnder, AsksUnder, DoesLevelUnder, May, StaysKnown, TestsUnder, known_under, leaves_under}
use Rattle.life_elab_laws.proofs.WrittenLocals.{locals_added}

-- ---- at the head nothing is known of intermediate values, and the same of all others

passing_known : (l : Local) (x : Known) → is_passing l ≡ false → is_forgotten l x ≡ false
passing_known l x lasts = go l.kind (is_none l.name) lasts
  where
    go : (k : LocalKind) (nameless : Bool) → (nameless && not (is_object k)) ≡ false → (nameless && is_lost k x) ≡ false
    go kind.Object true h = refl
    go kind.Register true h = h
    go kind.Range true h = absurd (true≢false h)
    go k false h = refl

-- what is passing and isn't forgotten is hidden
passing_kept : (l : Local) (x : Known) → is_passing l ≡ true → is_forgotten l x ≡ false → (l.name ≡ None) × (l.kind ≡ kind.Range) × (is_blank x ≡ false)
passing_kept l x passes stays = go l.kind l.name passes stays
  where
    go : (k : LocalKind) (n : Option NameId) → (is_none n && not (is_object k)) ≡ true → (is_none n && is_lost k x) ≡ false → (n ≡ None) × (k ≡ kind.Range) × (is_blank x ≡ false)
    go kind.Object None h e = absurd (false≢true h)
    go kind.Register None h e = absurd (true≢false e)
    go kind.Range None h e = (refl, refl, e)
    go k (Some name) h e = absurd (false≢true h)

-- .. which may be unknown, and else is there
kept_implied : (x y : Known) → is_blank x ≡ false → (x ≡ known.Ready → y ≡ known.Ready) → is_implied x y ≡ true
kept_implied known.Unknown y h there = refl
kept_implied known.Blank y h there = absurd (true≢false h)
kept_implied known.Ready y h there = ap (is_implied known.Ready) (there refl)

forgotten_length : (ls : List Local) (k : List Known) → length (forgotten ls k) ≡ length k
forgotten_length [] k = refl
forgotten_length (l ∷ ls) [] = refl
forgotten_length (l ∷ ls) (x ∷ k) = ap suc (forgotten_length ls k)

forgotten_at : (ls : List Local) (k : List Known) (y : ℕ) (l : Local) → slice_get ls y ≡ Some l → is_passing l ≡ false → known_at (forgotten ls k) y ≡ known_at k y
forgotten_at [] k y l at e = refl
forgotten_at (u ∷ ls) [] y l at e = refl
forgotten_at (u ∷ ls) (x ∷ k) zero l at e = rw here refl
  where
    here : is_forgotten u x ≡ false
    here = passing_known u x (ap (λ (v : Local). is_passing v) (same_Some u l at) ∙ e)
forgotten_at (u ∷ ls) (x ∷ k) (suc y) l at e = forgotten_at ls k y l at e

module _ (types : Types) (texts : ℕ) (fs : List Function) (f : Function) where
  knows_forgotten : (living : List ℕ) (k : List Known) → AreLasting f living → Knows f living k → Knows f living (forgotten f.locals k)
  knows_forgotten living k lasting knows = record {
    sized = forgotten_length f.locals k ∙ knows.sized;
    alive = λ y m. let is = lasting y m in forgotten_at f.locals k y is.0 is.1 is.2 ∙ knows.alive y m;
    blank = λ y l there lasts no. forgotten_at f.locals k y l there lasts ∙ knows.blank y l there lasts no;
  }

  -- what is hidden, and there at the head, is there
  abbrev StaysHidden : List Known → Knowing → Type 0
  StaysHidden k o = (y : ℕ) → IsHidden f y → known_at k y ≡ known.Ready → Has f y o

  -- control comes back with what is known at the head
  known_again : (living : List ℕ) (k j : List Known) → Knows f living k → Knows f living j → StaysHidden k (Some j) → are_implied (forgotten f.locals k) j ≡ true
  known_again living k j a b hidden = forgotten_implied f.locals k j a.sized b.sized same
    where
      same : (y : ℕ) (l : Local) → slice_get f.locals y ≡ Some l → is_forgotten l (known_at k y) ≡ false → is_implied (known_at k y) (known_at j y) ≡ true
      same y l there stays = told (is_passing l) refl
        where
          go : is_passing l ≡ false → Among y living ⊎ (Among y living → ⊥) → known_at j y ≡ known_at k y
          go lasts (inl m) = b.alive y m ∙ sym (a.alive y m)
          go lasts (inr none) = b.blank y l there lasts none ∙ sym (a.blank y l there lasts none)

          told : (p : Bool) → is_passing l ≡ p → is_implied (known_at k y) (known_at j y) ≡ true
          told false lasts = implied_same (known_at k y) (known_at j y) (go lasts (among_or y living))
          told true passes =
              let is = passing_kept l (known_at k y) passes stays in
              kept_implied (known_at k y) (known_at j y) is.2 (λ e. hidden y (record { local = l; there = there; nameless = is.0; kind = is.1 }) e)

  comes : (living : List ℕ) (k : List Known) (o : Knowing) → Knows f living k → MayKnow f living o → StaysHidden k o → comes_back (Some (forgotten f.locals k)) o ≡ true
  comes living k None a b hidden = refl
  comes living k (Some j) a b hidden = known_again living k j a b hidden

  -- ---- the ways out of a loop

  module _ (in_loop : Bool) (living outside : List ℕ) where
    test_leaves : (off : List Known) → Knows f living off → (on : List Known) → Leaves f in_loop living outside (of_test (deciding on off))
    test_leaves off knows on = record { fine = refl; next = knows; on_break = none_leaves f in_loop outside; on_continue = none_leaves f in_loop outside; on_true = refl; on_false = refl }

    body_leaves : (w : Flow) → Leaves f true living living w → Leaves f in_loop living outside (of_body w)
    body_leaves w h = record { fine = h.fine; next = h.on_break; on_break = none_leaves f in_loop outside; on_continue = none_leaves f in_loop outside; on_true = h.on_true; on_false = h.on_false }

    step_leaves : (k : List Known) (w : Flow) → Knows f living k → StaysHidden k w.next → Leaves f false living outside w → Leaves f in_loop living outside (of_step (Some (forgotten f.locals k)) w)
    step_leaves k w knows hidden h = record {
      fine = and_from w.fine (comes_back (Some (forgotten f.locals k)) w.next) h.fine (comes living k w.next knows h.next hidden);
      next = tt;
      on_break = never in_loop w.on_break h.on_break;
      on_continue = never in_loop w.on_continue h.on_continue;
      on_true = h.on_true;
      on_false = h.on_false;
    }
      where
        never : (b : Bool) (o : Knowing) → o ≡ None → MayLeave f b outside o
        never b o e = subst (MayLeave f b outside) (sym e) (none_leaves f b outside)

  -- ---- the whole loop, where more is known

  module _ {ends : Place} (U : List Known → Type 0) (a : Around) (v : Visible) (in_loop : Bool) (s : State) (keeps : Begins types f s → StaysKnown types f U) (w : Gives Tree) (h : Follows types f a v s) (test : TestsUnder types texts fs f U (Some ends) s w) where
    -- the body is written where all that lives stays outside of the loop
    abbrev pub inside : State
    inside = with_outside (length w.state.living) (with_code [] w.state)

    abbrev pub past : State → State
    past t = with_outside w.state.outside t

    pub inside_follows : Follows types f a v inside
    inside_follows =
        let later = follows_grown types f a v s w.state (test.level tt) test.grown h in
        follows_again types f a v w.state inside v.declared later (front_itself w.state.locals) (front_itself w.state.types.types) (front_itself w.state.variables) refl refl (omega arith) later.count (omega arith)

    -- .. and the step where what was visible before the body is again
    pub step_follows : (u : Visible) (t : State) → DoesLevelUnder types texts fs f U a u true inside t → Follows types f a (behind v u) (with_code [] (past t))
    step_follows u t body =
        let again = visible_again types f a v u inside t inside_follows body.does.adds body.does.follows body.level in
        follows_again types f a (behind v u) t (with_code [] (past t)) u.declared again (front_itself t.locals) (front_itself t.types.types) (front_itself t.variables) refl refl
        (omega (arith, test.grown.outside, h.outside, ap length body.level, ap length test.grown.living)) again.count (omega arith)

    module _ (u x : Visible) (t r : State) (body : DoesLevelUnder types texts fs f U a u true inside t) (step : DoesLevelUnder types texts fs f U a x false (with_code [] (past t)) r) where
      abbrev whole : State
      whole = write (Turns w.given (trees t.code) (trees r.code)) (with_code w.state.code r)

      abbrev turns : Tree
      turns = Turns w.given (trees body.does.code) (trees step.does.code)

      to_body : Adds types f w.state (past t)
      to_body = record {
        locals = body.does.adds.locals;
        table = body.does.adds.table;
        variables = body.does.adds.variables;
        living = body.does.adds.living;
        pending = body.does.adds.pending;
        outside = refl;
      }

      module _ (b : Begins types f r) where
        begun : Begins types f (past t)
        begun = begins_added types f (past t) r step.does.adds b

        tested : Begins types f w.state
        tested = begins_added types f w.state (past t) to_body begun

        asks : AsksUnder types texts fs f U s w.state w.given
        asks = test.runs tested

        one : ActingUnder types texts fs f U true inside t body.does.code
        one = body.does.acts begun

        other : ActingUnder types texts fs f U false (with_code [] (past t)) r step.does.code
        other = step.does.acts b

        body_living : t.living ≡ s.living
        body_living = body.level ∙ test.grown.living

        step_living : r.living ≡ s.living
        step_living = step.level ∙ body_living

        body_outside : take (length w.state.living) w.state.living ≡ s.living
        body_outside = take_itself w.state.living ∙ test.grown.living

        step_outside : take w.state.outside t.living ≡ take s.outside s.living
        step_outside = ap (take w.state.outside) body_living ∙ ap (λ (n : ℕ). take n s.living) test.grown.outside

        before : Begins types f s
        before = begins_added types f s w.state (grows_adds types f s w.state (test.level tt) test.grown) tested

        keep : StaysKnown types f U
        keep = keeps before

        -- something may be known there
        some : (k : List Known) × Knows f s.living k × U k
        some = keep.some s.living (some_known types f a v s h before) (some_knows types f a v s h before)

        lasting : AreLasting f s.living
        lasting = follows_lasting types f a v s h before

        -- what is known at the head, in the body and in the step
        module _ (k : List Known) (knows : Knows f s.living k) (more : U k) where
          abbrev head : List Known
          head = forgotten f.locals k

          at_head_known : Knows f s.living head
          at_head_known = knows_forgotten s.living k lasting knows

          abbrev g : Asked types texts fs f s w.state w.given head
          g = asks.goes head (knows_alive types f a v s h head at_head_known) (keep.head (Some k) more)

          there : (j : List Known) → Alive f w.state j → Knows f s.living j
          there j alive = subst (λ (ys : List ℕ). Knows f ys j) test.grown.living (alive_knows types f w.state j (test.level tt ∙ h.pending) alive)

          known_on : Knows f w.state.living g.on
          known_on = subst (λ (xs : List ℕ). Knows f xs g.on) (sym test.grown.living) (there g.on g.alive_on)

          on_more : U g.on
          on_more = subst (λ (q : Flow). May U q.on_true) g.decides (keep.ways w.given (Some head) asks.fine.given (keep.head (Some k) more)).on_true

          abbrev inner : Flow
          inner = flow types f (trees body.does.code) (Some g.on)

          on : Leaves f true s.living s.living inner
          on = leaves_same f true t.living s.living (take (length w.state.living) w.state.living) s.living inner body_living body_outside (one.ways (Some g.on) known_on on_more)

          abbrev back : Knowing
          back = met inner.next inner.on_continue

          known_back : MayKnow f t.living back
          known_back = subst (λ (xs : List ℕ). MayKnow f xs back) (sym body_living) (may_met f s.living inner.next inner.on_continue on.next on.on_continue)

          back_more : May U back
          back_more = let all = keep.ways (trees body.does.code) (Some g.on) one.stated.given on_more in keep.meets inner.next inner.on_continue all.next all.on_continue

          -- what is hidden is there from the head on
          hidden : StaysHidden k (flow types f (trees step.does.code) back).next
          hidden y is e =
              let on_there = subst (λ (q : Flow). Has f y q.on_true) g.decides (stays f y is types w.given (Some head) asks.fine.given (at_head_stays f y is types (Some k) e)).on_true in
              let all = stays f y is types (trees body.does.code) (Some g.on) one.stated.given on_there in
              (stays f y is types (trees step.does.code) back other.stated.given (has_met f y inner.next inner.on_continue all.next all.on_continue)).next

          went : Leaves f in_loop r.living (take s.outside s.living) (flow types f (trees (turns ∷ [])) (Some k))
          went =
              let last : Flow = flow types f (trees step.does.code) back in
              let stepped = leaves_same f false r.living s.living (take w.state.outside t.living) (take s.outside s.living) last step_living step_outside (other.ways back known_back back_more) in
              let out = leaves_joined f in_loop s.living (take s.outside s.living) (of_test (deciding g.on g.off)) (joined (of_body inner) (of_step (Some head) last))
              (test_leaves in_loop s.living (take s.outside s.living) g.off (there g.off g.alive_off) g.on)
              (leaves_joined f in_loop s.living (take s.outside s.living) (of_body inner) (of_step (Some head) last)
              (body_leaves in_loop s.living (take s.outside s.living) inner on)
              (step_leaves in_loop s.living (take s.outside s.living) k last knows hidden stepped)) in
              leaves_same f in_loop s.living r.living (take s.outside s.living) (take s.outside s.living) (flow types f (trees (turns ∷ [])) (Some k)) (sym step_living) refl
              (subst (Leaves f in_loop s.living (take s.outside s.living)) (sym (joined_end (flow types f turns (Some k)) ∙ ap ways_of g.decides)) out)
            where
              ways_of : Flow → Flow
              ways_of q =
                  let v = flow types f (trees body.does.code) q.on_true in
                  joined (of_test q) (joined (of_body v) (of_step (Some head) (flow types f (trees step.does.code) (met v.next v.on_continue))))

          abbrev ReturnBehind : Flow → Type 0
          ReturnBehind q =
              let v = flow types f (trees body.does.code) q.on_true in
              ReturnsKnown types f (result_local a) (trees body.does.code) q.on_true × ReturnsKnown types f (result_local a) (trees step.does.code) (met v.next v.on_continue)

          returned : GivesResult a → ReturnsKnown types f (result_local a) (trees (turns ∷ [])) (Some k)
          returned gives =
              let behind = subst ReturnBehind (sym g.decides) (body.does.returns begun gives (Some g.on) known_on on_more, step.does.returns b gives back known_back back_more) in
              ((asks_known types f (result_local a) texts fs w.given asks.fine (Some head), behind), tt)

        loop_acts : ActingUnder types texts fs f U in_loop s whole (turns ∷ [])
        loop_acts = record {
          stated =
              stated_alone types texts fs f in_loop turns (stated_turns types texts fs f in_loop w.given (trees body.does.code) (trees step.does.code) asks.fine one.stated other.stated);
          ways = leaves_under types f U in_loop s.living r.living (take s.outside s.living) (trees (turns ∷ [])) went;
          apart =
              alone_apart f s whole turns
              (three_apart f s w.state t r w.given (trees body.does.code) (trees step.does.code) (asks.goes some.0 (knows_alive types f a v s h some.0 some.1) some.2).apart one.apart other.apart);
        }

        loop_returns : GivesResult a → (o : Knowing) → MayKnow f s.living o → May U o → ReturnsKnown types f (result_local a) (trees (turns ∷ [])) o
        loop_returns gives = known_under types f (result_local a) U s.living (trees (turns ∷ [])) (λ k knows more. returned k knows more gives)

      pub loop_does : DoesLevelUnder types texts fs f U a x in_loop s whole
      loop_does = record {
        does = record {
          adds = adds_then types f s (past t) r (adds_then types f s w.state (past t) (grows_adds types f s w.state (test.level tt) test.grown) to_body) step.does.adds;
          locals = λ are. step.does.locals (body.does.locals (locals_added types a s w.state test.grown.types test.registers are));
          order = order_then s.types w.state.types r.types test.registers.1 (order_then w.state.types t.types r.types body.does.order step.does.order);
          follows = step.does.follows;
          code = turns ∷ [];
          written =
              ap (λ (c : List Tree). c ++ Turns w.given (trees t.code) (trees r.code) ∷ []) test.unwritten
              ∙ ap (λ (c : List Tree). s.code ++ Turns w.given (trees c) (trees r.code) ∷ []) body.does.written
              ∙ ap (λ (c : List Tree). s.code ++ Turns w.given (trees body.does.code) (trees c) ∷ []) step.does.written;
          acts = loop_acts;
          returns = loop_returns;
        };
        level = step.level ∙ body.level ∙ test.grown.living;
      }

  -- ---- by what writes its parts

  pub looped_under : {ends : Place} (U : List Known → Type 0) (a : Around) (v u : Visible) (in_loop : Bool) (test : State → Gives Tree) (body step : State → State) (s : State)
      → (Begins types f s → StaysKnown types f U) → Follows types f a v s → HasRegister a s → TestsUnder types texts fs f U (Some ends) s (test s)
      → ((t : State) → IsFront s.locals t.locals → IsFront s.types.types t.types.types → Follows types f a v t → HasRegister a t → DoesLevelUnder types texts fs f U a u true t (body t))
      → ((t : State) → IsFront s.locals t.locals → IsFront s.types.types t.types.types → Follows types f a (behind v u) t → DoesLevelUnder types texts fs f U a (behind v u) false t (step t))
      → DoesLevelUnder types texts fs f U a (behind v u) in_loop s (looped test body step s)
  looped_under U a v u in_loop test body step s keeps follows register h inner last =
      let w = test s in
      let start = inside U a v in_loop s keeps w follows h in
      let first = inner start h.grown.locals h.grown.types (inside_follows U a v in_loop s keeps w follows h) (register_later a s start h.grown.locals h.grown.types register) in
      let foot : State = with_code [] (past U a v in_loop s keeps w follows h (body start)) in
      loop_does U a v in_loop s keeps w follows h u (behind v u) (body start) (step foot) first
      (last foot (front_then s.locals start.locals foot.locals h.grown.locals first.does.adds.locals) (front_then s.types.types start.types.types foot.types.types h.grown.types first.does.adds.table)
      (step_follows U a v in_loop s keeps w follows h u (body start) first))
