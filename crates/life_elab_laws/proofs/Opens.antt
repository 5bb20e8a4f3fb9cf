-- What is written before a statement that needs what it gives: more is known behind it, and it may bring a temporary to life that lasts.
use Rattle.std.proofs.Common.{◌≡◌, ℕ, Bool, List, ◌++◌, length, None, Some, sym, ap, ◌∙◌, subst, append_assoc, take}
use Rattle.life_types.specs.Types.{Types}
use Rattle.life_core.specs.Function.{Function}
use Rattle.life_core.specs.Tree.{Tree, trees}
use Rattle.life_proper.specs.Checking.{Flow, before_next, flow, joined}
use Rattle.life_proper.specs.Knowing.{State as Knowing}
use Rattle.life_proper.specs.ResultsKnown.{ReturnsKnown}
use Rattle.life_proper.specs.declared.known.Known.{Known}
use Rattle.life_well_typed.specs.Visible.{Visible}
use Rattle.life_writer.specs.Around.{Around, result_local}
use Rattle.life_writer.specs.Writing.{Gives, State}
use Rattle.life_elab_laws.proofs.Doing.{Acting, Does, outside_stays}
use Rattle.life_elab_laws.proofs.Exits.{Knows, Leaves, MayKnow, leaves_falling, leaves_may, leaves_then}
use Rattle.life_elab_laws.proofs.Falling.{Falls, falling, falls_append, flow_append}
use Rattle.life_elab_laws.proofs.Following.{Adds, Follows, adds_then, alive_knows, begins_added, follows_grown, grows_adds, knows_alive}
use Rattle.life_elab_laws.proofs.Gifts.{Gift}
use Rattle.life_elab_laws.proofs.GivenApart.{Apart, codes_apart}
use Rattle.life_elab_laws.proofs.GivingBack.{GivesResult, fine_known, known_append, known_may}
use Rattle.life_elab_laws.proofs.Growing.{Begins, begins_before}
use Rattle.life_elab_laws.proofs.OrderedTypes.{KeepsOrder, order_then}
use Rattle.life_elab_laws.proofs.Parts.{Makes, Part}
use Rattle.life_elab_laws.proofs.Shaping.{IsFine, fine_append, stated_append}
use Rattle.life_elab_laws.proofs.SomeKnown.{some_known, some_knows}
use Rattle.life_elab_laws.proofs.Under.{ActingUnder, DoesUnder}
use Rattle.life_elab_laws.proofs.WrittenLocals.{AreWrittenLocals, locals_added}

module _ (types : Types) (texts : ℕ) (fs : List Function) (f : Function) where
  -- the way through its code
  pub record Opening (U : List Known → Type 0) (s s' : State) (code : List Tree) (k : List Known) : Type 0 where
    pub after : List Known
    pub falls : Falls types f code k after
    pub knows : Knows f s'.living after
    pub more : U after
    pub apart : Apart f s s' (trees code)

  pub record Opens (U : List Known → Type 0) (a : Around) (v : Visible) (s s' : State) : Type 0 where
    pub adds : Adds types f s s'
    pub locals : AreWrittenLocals types a s → AreWrittenLocals types a s'
    pub order : KeepsOrder s.types s'.types
    pub follows : Follows types f a v s'
    pub code : List Tree
    pub written : s'.code ≡ s.code ++ code
    pub fine : Begins types f s' → IsFine types texts fs f code
    pub goes : Begins types f s' → (k : List Known) → Knows f s.living k → Opening U s s' code k

  -- a part that ends all its temporaries
  pub opens_part : {A : Type 0} (Q : Gift types texts fs f A) (a : Around) (v : Visible) (s : State) (w : Gives A) → Follows types f a v s → w.state.pending ≡ s.pending → Makes types texts fs f None s w Q
      → Opens (Q.ready w.given (length w.state.locals)) a v s w.state
  opens_part Q a v s w h level made = record {
    adds = grows_adds types f s w.state level made.grown;
    locals = locals_added types a s w.state made.grown.types made.registers;
    order = made.registers.1;
    follows = follows_grown types f a v s w.state level made.grown h;
    code = made.code;
    written = made.written;
    fine = λ b. (made.runs b tt).fine;
    goes = λ b k knows.
        let g = (made.runs b tt).goes k (knows_alive types f a v s h k knows) tt in
        record { after = g.after; falls = g.falls; knows = alive_knows types f w.state g.after (level ∙ h.pending) g.alive; more = g.gives; apart = g.apart };
  }

  -- .. behind what was opened
  module _ {A B : Type 0} (P : Gift types texts fs f A) (x : A) (Q : Gift types texts fs f B) (a : Around) (v : Visible) (s t : State) (w : Gives B) (first : Opens (P.ready x (length t.locals)) a v s t)
      (told : Begins types f t → P.typed x) (level : w.state.pending ≡ t.pending) (made : Part types texts fs f P x None t w Q) where
    older : Begins types f w.state → Begins types f t
    older b = begins_before types f t w.state made.grown b

    going : (b : Begins types f w.state) (k : List Known) → Knows f s.living k → Opening (Q.ready w.given (length w.state.locals)) s w.state (first.code ++ made.code) k
    going b k knows =
        let one = first.goes (older b) k knows in
        let g = (made.runs b (told (older b))).goes one.after (knows_alive types f a v t first.follows one.after one.knows) one.more in
        record {
          after = g.after;
          falls = falls_append types f first.code made.code k one.after g.after one.falls g.falls;
          knows = alive_knows types f w.state g.after (level ∙ first.follows.pending) g.alive;
          more = g.gives;
          apart = codes_apart f s t w.state first.code made.code one.apart g.apart;
        }

    pub opens_then : Opens (Q.ready w.given (length w.state.locals)) a v s w.state
    opens_then = record {
      adds = adds_then types f s t w.state first.adds (grows_adds types f t w.state level made.grown);
      locals = λ are. locals_added types a t w.state made.grown.types made.registers (first.locals are);
      order = order_then s.types t.types w.state.types first.order made.registers.1;
      follows = follows_grown types f a v t w.state level made.grown first.follows;
      code = first.code ++ made.code;
      written = made.written ∙ ap (λ (c : List Tree). c ++ made.code) first.written ∙ append_assoc s.code first.code made.code;
      fine = λ b. fine_append types texts fs f first.code made.code (first.fine (older b)) (made.runs b (told (older b))).fine;
      goes = going;
    }

  -- where more is known
  pub opens_more : (U V : List Known → Type 0) → ((k : List Known) → U k → V k) → (a : Around) (v : Visible) (s s' : State) → Opens U a v s s' → Opens V a v s s'
  opens_more U V more a v s s' h = record {
    adds = h.adds;
    locals = h.locals;
    order = h.order;
    follows = h.follows;
    code = h.code;
    written = h.written;
    fine = h.fine;
    goes = λ b k knows. let g = h.goes b k knows in record { after = g.after; falls = g.falls; knows = g.knows; more = more g.after g.more; apart = g.apart };
  }

  -- ---- the statement that needs it

  module _ (U : List Known → Type 0) (a : Around) (v u : Visible) (in_loop : Bool) (s t r : State) (h : Follows types f a v s) (first : Opens U a v s t) (second : DoesUnder types texts fs f U a u in_loop t r) where
    middle : Begins types f r → Begins types f t
    middle b = begins_added types f t r second.adds b

    opened_acts : Begins types f r → Acting types texts fs f in_loop s r (first.code ++ second.code)
    opened_acts b = record {
      stated = stated_append types texts fs f in_loop first.code second.code ((first.fine (middle b)).stated in_loop) q.stated;
      ways = leaves_may types f in_loop s.living r.living (take s.outside s.living) (trees (first.code ++ second.code)) went;
      apart = codes_apart f s t r first.code second.code (first.goes (middle b) (some_known types f a v s h before) (some_knows types f a v s h before)).apart q.apart;
    }
      where
        q : ActingUnder types texts fs f U in_loop t r second.code
        q = second.acts b

        before : Begins types f s
        before = begins_added types f s t first.adds (middle b)

        went : (k : List Known) → Knows f s.living k → Leaves f in_loop r.living (take s.outside s.living) (flow types f (trees (first.code ++ second.code)) (Some k))
        went k knows =
            let g = first.goes (middle b) k knows in
            let last : Flow = flow types f (trees second.code) (Some g.after) in
            subst (Leaves f in_loop r.living (take s.outside s.living))
            (sym (flow_append types f first.code second.code (Some k) ∙ ap (λ (z : Flow). joined (before_next z) (flow types f (trees second.code) z.next)) g.falls))
            (leaves_then f in_loop t.living r.living (take s.outside s.living) (falling g.after) last
            (leaves_falling f in_loop t.living (take s.outside s.living) g.after g.knows)
            (subst (λ (ys : List ℕ). Leaves f in_loop r.living ys last) (outside_stays types texts fs f s t first.adds h.outside) (q.ways (Some g.after) g.knows g.more)))

    opened_returns : Begins types f r → GivesResult a → (o : Knowing) → MayKnow f s.living o → ReturnsKnown types f (result_local a) (trees (first.code ++ second.code)) o
    opened_returns b gives = known_may types f (result_local a) s.living (trees (first.code ++ second.code)) (λ k knows.
        let g = first.goes (middle b) k knows in
        known_append types f (result_local a) first.code second.code (Some k) (fine_known types f (result_local a) texts fs first.code (first.fine (middle b)) (Some k))
        (subst (λ (z : Flow). ReturnsKnown types f (result_local a) (trees second.code) z.next) (sym g.falls) (second.returns b gives (Some g.after) g.knows g.more)))

    pub opened_does : Does types texts fs f a u in_loop s r
    opened_does = record {
      adds = adds_then types f s t r first.adds second.adds;
      locals = λ are. second.locals (first.locals are);
      order = order_then s.types t.types r.types first.order second.order;
      follows = second.follows;
      code = first.code ++ second.code;
      written = second.written ∙ ap (λ (c : List Tree). c ++ second.code) first.written ∙ append_assoc s.code first.code second.code;
      acts = opened_acts;
      returns = opened_returns;
    }
