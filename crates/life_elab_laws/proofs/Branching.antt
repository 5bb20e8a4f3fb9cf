-- Branches: two lists of statements behind a condition, and assertions.
use Rattle.std.proofs.Common.{◌≡◌, ℕ, Bool, List, [], ◌∷◌, ◌++◌, take, Some, refl, sym, ap, ◌∙◌, subst}
use Rattle.life_types.specs.Types.{Types}
use Rattle.life_types.specs.declared.place.Place.{Place}
use Rattle.life_core.specs.Function.{Function}
use Rattle.life_core.specs.Tree.{Tree, Skip, Choice, Stops, trees}
use Rattle.life_proper.specs.declared.known.Known.{Known}
use Rattle.life_proper.specs.Checking.{Flow, before_both, flow, joined}
use Rattle.life_proper.specs.Knowing.{State as Knowing}
use Rattle.life_proper.specs.ResultsKnown.{ReturnsKnown}
use Rattle.life_proper.proofs.Joining.{joined_end}
use Rattle.life_well_typed.specs.Visible.{Visible}
use Rattle.life_writer.specs.Around.{Around, result_local}
use Rattle.life_writer.specs.Writing.{State, Gives, with_code, write}
use Rattle.life_elab_laws.proofs.Doing.{Acting, DoesLevel}
use Rattle.life_elab_laws.proofs.Exits.{Knows, Leaves, MayKnow, leaves_falling, leaves_joined, leaves_may, leaves_same}
use Rattle.life_elab_laws.proofs.Following.{alive_knows, Adds, Follows, adds_then, begins_added, follows_grown, grows_adds, knows_alive}
use Rattle.life_elab_laws.proofs.GivingBack.{GivesResult, asks_known, known_may}
use Rattle.life_elab_laws.proofs.GivenApart.{alone_apart, same_apart, three_apart}
use Rattle.life_elab_laws.proofs.Growing.{Begins, begins_before}
use Rattle.life_elab_laws.proofs.SomeKnown.{some_known, some_knows}
use Rattle.life_elab_laws.proofs.OrderedTypes.{order_then}
use Rattle.life_elab_laws.proofs.Conditions.{Asked, AsksAll, Tests}
use Rattle.life_elab_laws.proofs.Shaping.{stated_alone, stated_choice, stated_none}
use Rattle.life_elab_laws.proofs.WrittenLocals.{locals_added}
use Rattle.life_elab_laws.proofs.Making.{Alive}

module _ (types : Types) (texts : ℕ) (fs : List Function) (f : Function) where
  -- ---- behind a condition

  module _ {ends : Place} (a : Around) (v : Visible) (in_loop : Bool) (s : State) (w : Gives Tree) (h : Follows types f a v s) (test : Tests types texts fs f (Some ends) s w) where
    pub tested_follows : Follows types f a v (with_code [] w.state)
    tested_follows = follows_grown types f a v s w.state (test.level tt) test.grown h

    pub same_outside : take w.state.outside w.state.living ≡ take s.outside s.living
    same_outside = ap (λ (n : ℕ). take n w.state.living) test.grown.outside ∙ ap (take s.outside) test.grown.living

    -- what is known on both ways
    pub known_behind : (k : List Known) (asked : Asked types texts fs f s w.state w.given k) → Knows f s.living asked.on × Knows f s.living asked.off
    known_behind k asked =
        (there asked.on asked.alive_on, there asked.off asked.alive_off)
      where
        there : (j : List Known) → Alive f w.state j → Knows f s.living j
        there j alive = subst (λ (ys : List ℕ). Knows f ys j) test.grown.living (alive_knows types f w.state j (test.level tt ∙ h.pending) alive)

    -- both branches, the second of which is written behind the first
    module _ (u x : Visible) (t r : State) (first : DoesLevel types texts fs f a u in_loop (with_code [] w.state) t) (second : DoesLevel types texts fs f a x in_loop (with_code [] t) r) where
      abbrev both : State
      both = write (Choice w.given (trees t.code) (trees r.code)) (with_code w.state.code r)

      abbrev chosen : Tree
      chosen = Choice w.given (trees first.does.code) (trees second.does.code)

      branched_adds : Adds types f s both
      branched_adds =
          adds_then types f s t r
          (adds_then types f s w.state t (grows_adds types f s w.state (test.level tt) test.grown) first.does.adds)
          second.does.adds

      branched_level : r.living ≡ s.living
      branched_level = second.level ∙ first.level ∙ test.grown.living

      module _ (b : Begins types f r) where
        begun : Begins types f t
        begun = begins_added types f t r second.does.adds b

        tested : Begins types f w.state
        tested = begins_added types f w.state t first.does.adds begun

        before : Begins types f s
        before = begins_before types f s w.state test.grown tested

        abbrev known_first : List Known
        known_first = some_known types f a v s h before

        asks : AsksAll types texts fs f s w.state w.given
        asks = test.runs tested

        one : Acting types texts fs f in_loop (with_code [] w.state) t first.does.code
        one = first.does.acts begun

        other : Acting types texts fs f in_loop (with_code [] t) r second.does.code
        other = second.does.acts b

        outside_second : take t.outside t.living ≡ take s.outside s.living
        outside_second = ap (λ (n : ℕ). take n t.living) first.does.adds.outside ∙ ap (take w.state.outside) first.level ∙ same_outside

        -- .. on each of both ways
        module _ (k : List Known) (knows : Knows f s.living k) where
          abbrev g : Asked types texts fs f s w.state w.given k
          g = asks.goes k (knows_alive types f a v s h k knows)

          known_on : Knows f w.state.living g.on
          known_on = subst (λ (xs : List ℕ). Knows f xs g.on) (sym test.grown.living) (known_behind k g).0

          known_off : Knows f t.living g.off
          known_off = subst (λ (xs : List ℕ). Knows f xs g.off) (sym (first.level ∙ test.grown.living)) (known_behind k g).1

          went : Leaves f in_loop r.living (take s.outside s.living) (flow types f (trees (chosen ∷ [])) (Some k))
          went =
              let on = one.ways (Some g.on) known_on in
              let off = other.ways (Some g.off) known_off in
              let after = leaves_joined f in_loop r.living (take s.outside s.living) (flow types f (trees first.does.code) (Some g.on)) (flow types f (trees second.does.code) (Some g.off))
              (leaves_same f in_loop t.living r.living (take w.state.outside w.state.living) (take s.outside s.living) (flow types f (trees first.does.code) (Some g.on)) (sym second.level) same_outside on)
              (leaves_same f in_loop r.living r.living (take t.outside t.living) (take s.outside s.living) (flow types f (trees second.does.code) (Some g.off)) refl outside_second off) in
              subst (Leaves f in_loop r.living (take s.outside s.living))
              (sym (joined_end (flow types f chosen (Some k))
              ∙ ap (λ (q : Flow). joined (before_both q) (joined (flow types f (trees first.does.code) q.on_true) (flow types f (trees second.does.code) q.on_false))) g.decides))
              after

          returned : GivesResult a → ReturnsKnown types f (result_local a) (trees (chosen ∷ [])) (Some k)
          returned gives =
              let behind = subst (λ (q : Flow). ReturnsKnown types f (result_local a) (trees first.does.code) q.on_true × ReturnsKnown types f (result_local a) (trees second.does.code) q.on_false) (sym g.decides)
              (first.does.returns begun gives (Some g.on) known_on, second.does.returns b gives (Some g.off) known_off) in
              ((asks_known types f (result_local a) texts fs w.given asks.fine (Some k), behind), tt)

        branched_acts : Acting types texts fs f in_loop s both (chosen ∷ [])
        branched_acts = record {
          stated =
              stated_alone types texts fs f in_loop chosen (stated_choice types texts fs f in_loop w.given (trees first.does.code) (trees second.does.code) asks.fine one.stated other.stated);
          ways = leaves_may types f in_loop s.living r.living (take s.outside s.living) (trees (chosen ∷ [])) went;
          apart =
              alone_apart f s both chosen
              (three_apart f s w.state t r w.given (trees first.does.code) (trees second.does.code)
              (asks.goes known_first (knows_alive types f a v s h known_first (some_knows types f a v s h before))).apart one.apart other.apart);
        }

        branched_returns : GivesResult a → (o : Knowing) → MayKnow f s.living o → ReturnsKnown types f (result_local a) (trees (chosen ∷ [])) o
        branched_returns gives = known_may types f (result_local a) s.living (trees (chosen ∷ [])) (λ k knows. returned k knows gives)

      pub branched_does : DoesLevel types texts fs f a x in_loop s both
      branched_does = record {
        does = record {
          adds = branched_adds;
          locals = λ are. second.does.locals (first.does.locals (locals_added types a s w.state test.grown.types test.registers are));
          order = order_then s.types w.state.types r.types test.registers.1 (order_then w.state.types t.types r.types first.does.order second.does.order);
          follows = second.does.follows;
          code = chosen ∷ [];
          written =
              ap (λ (c : List Tree). c ++ Choice w.given (trees t.code) (trees r.code) ∷ []) test.unwritten
              ∙ ap (λ (c : List Tree). s.code ++ Choice w.given (trees c) (trees r.code) ∷ []) first.does.written
              ∙ ap (λ (c : List Tree). s.code ++ Choice w.given (trees first.does.code) (trees c) ∷ []) second.does.written;
          acts = branched_acts;
          returns = branched_returns;
        };
        level = branched_level;
      }

    -- ---- an assertion

    asserted_acts : (keyword : Place) → Begins types f w.state → Acting types texts fs f in_loop s (write (Choice w.given Skip (Stops keyword)) w.state) (Choice w.given Skip (Stops keyword) ∷ [])
    asserted_acts keyword b = record {
      stated =
          stated_alone types texts fs f in_loop (Choice w.given Skip (Stops keyword))
          (stated_choice types texts fs f in_loop w.given Skip (Stops keyword) asks.fine (stated_none types texts fs f in_loop)
          (record { statement = refl; tests = refl; breaks = refl; given = refl; formed = refl }));
      ways = leaves_may types f in_loop s.living w.state.living (take s.outside s.living) (trees (Choice w.given Skip (Stops keyword) ∷ [])) went;
      apart =
          alone_apart f s w.state (Choice w.given Skip (Stops keyword))
          (three_apart f s w.state w.state w.state w.given Skip (Stops keyword) (asks.goes known_first (knows_alive types f a v s h known_first (some_knows types f a v s h before))).apart
          (same_apart f w.state w.state refl refl refl) (same_apart f w.state w.state refl refl refl));
    }
      where
        before : Begins types f s
        before = begins_before types f s w.state test.grown b

        known_first : List Known
        known_first = some_known types f a v s h before

        asks : AsksAll types texts fs f s w.state w.given
        asks = test.runs b

        went : (k : List Known) → Knows f s.living k → Leaves f in_loop w.state.living (take s.outside s.living) (flow types f (trees (Choice w.given Skip (Stops keyword) ∷ [])) (Some k))
        went k knows =
            let g = asks.goes k (knows_alive types f a v s h k knows) in
            subst (Leaves f in_loop w.state.living (take s.outside s.living))
            (sym (joined_end (flow types f (Choice w.given Skip (Stops keyword)) (Some k))
            ∙ ap (λ (q : Flow). joined (before_both q) (joined (flow types f Skip q.on_true) (flow types f (Stops keyword) q.on_false))) g.decides))
            (leaves_falling f in_loop w.state.living (take s.outside s.living) g.on (subst (λ (xs : List ℕ). Knows f xs g.on) (sym test.grown.living) (known_behind k g).0))

    pub asserted_does : (keyword : Place) → DoesLevel types texts fs f a v in_loop s (write (Choice w.given Skip (Stops keyword)) w.state)
    asserted_does keyword = record {
      does = record {
        adds = grows_adds types f s w.state (test.level tt) test.grown;
        locals = locals_added types a s w.state test.grown.types test.registers;
        order = test.registers.1;
        follows = follows_grown types f a v s w.state (test.level tt) test.grown h;
        code = Choice w.given Skip (Stops keyword) ∷ [];
        written = ap (λ (c : List Tree). c ++ Choice w.given Skip (Stops keyword) ∷ []) test.unwritten;
        acts = asserted_acts keyword;
        returns = λ b gives o k. ((asks_known types f (result_local a) texts fs w.given (test.runs b).fine o, (tt, tt)), tt);
      };
      level = test.grown.living;
    }
