-- What a statement writes where something more is known before it: that hidden iterators are there.
use Rattle.std.proofs.Common.{◌≡◌, ◌≤◌, ℕ, Bool, true, List, ◌++◌, length, take, Option, Some, None, refl, sym, ap, ◌∙◌, subst, append_assoc}
use Rattle.life_types.specs.Types.{Types}
use Rattle.life_types.specs.declared.place.Place.{Place}
use Rattle.life_core.specs.Function.{Function}
use Rattle.life_core.specs.Tree.{Tree, trees}
use Rattle.life_proper.specs.Checking.{Flow, flow}
use Rattle.life_proper.specs.Knowing.{State as Knowing, at_head, known_at, met}
use Rattle.life_proper.specs.ResultsKnown.{ReturnsKnown}
use Rattle.life_proper.specs.declared.known.Known.{Known}
use Rattle.life_proper.specs.declared.known.Known.TheVariants as known
use Rattle.life_well_typed.specs.Visible.{Visible}
use Rattle.life_writer.specs.Around.{Around, result_local}
use Rattle.life_writer.specs.Writing.{Gives, State}
use Rattle.life_elab_laws.proofs.Conditions.{Asked, Ends, Tests}
use Rattle.life_elab_laws.proofs.Doing.{Does, DoesLevel, outside_stays}
use Rattle.life_elab_laws.proofs.Exits.{Knows, Leaves, MayKnow, leaves_nowhere, leaves_then}
use Rattle.life_elab_laws.proofs.Falling.{flow_append}
use Rattle.life_elab_laws.proofs.Following.{Adds, Follows, adds_then, begins_added}
use Rattle.life_elab_laws.proofs.GivenApart.{Apart, codes_apart}
use Rattle.life_elab_laws.proofs.GivingBack.{GivesResult, known_append, nowhere_known}
use Rattle.life_elab_laws.proofs.Growing.{Begins, Grows, bare}
use Rattle.life_elab_laws.proofs.HiddenStay.{Has, HasAll, IsHidden, at_head_stays, has_met, hidden_known, stays}
use Rattle.life_elab_laws.proofs.Making.{Alive}
use Rattle.life_elab_laws.proofs.Nowhere.{nowhere_flows}
use Rattle.life_elab_laws.proofs.OrderedTypes.{KeepsOrder, order_then}
use Rattle.life_elab_laws.proofs.Shaping.{IsFineTest, IsStated, stated_append, tree_keeps}
use Rattle.life_elab_laws.proofs.WrittenLocals.{AddsRegisters, AreWrittenLocals}

-- ---- what is known

-- .. where some way comes
abbrev pub May : (List Known → Type 0) → Knowing → Type 0
May U None = Unit {0}
May U (Some k) = U k

-- .. at each exit
pub record MayAll (U : List Known → Type 0) (w : Flow) : Type 0 where
  pub next : May U w.next
  pub on_break : May U w.on_break
  pub on_continue : May U w.on_continue
  pub on_true : May U w.on_true
  pub on_false : May U w.on_false

-- it may be known wherever these live
abbrev pub MayBeKnown : Function → (List Known → Type 0) → Type 0
MayBeKnown f U = (living : List ℕ) (k : List Known) → Knows f living k → (j : List Known) × Knows f living j × U j

-- it stays known on every way
pub record StaysKnown (types : Types) (f : Function) (U : List Known → Type 0) : Type 0 where
  pub meets : (s t : Knowing) → May U s → May U t → May U (met s t)
  pub head : (o : Knowing) → May U o → May U (at_head f.locals o)
  pub ways : (t : Tree) (o : Knowing) → tree_keeps f t ≡ true → May U o → MayAll U (flow types f t o)
  pub some : MayBeKnown f U

-- nothing is asked
abbrev pub nothing_more : List Known → Type 0
nothing_more k = Unit {0}

nothing_met : (o : Knowing) → May nothing_more o
nothing_met None = tt
nothing_met (Some k) = tt

pub nothing_stays : (types : Types) (f : Function) → StaysKnown types f nothing_more
nothing_stays types f = record {
  meets = λ s t a b. nothing_met (met s t);
  head = λ o a. nothing_met (at_head f.locals o);
  ways = λ t o h a. let w = flow types f t o in record { next = nothing_met w.next; on_break = nothing_met w.on_break; on_continue = nothing_met w.on_continue; on_true = nothing_met w.on_true; on_false = nothing_met w.on_false };
  some = λ living k knows. (k, knows, tt);
}

-- two hidden locals are there
abbrev pub both_there : ℕ → ℕ → List Known → Type 0
both_there x y k = (known_at k x ≡ known.Ready) × (known_at k y ≡ known.Ready)

module _ (f : Function) (x y : ℕ) where
  two_there : (o : Knowing) → Has f x o → Has f y o → May (both_there x y) o
  two_there None a b = tt
  two_there (Some k) a b = (a, b)

  first_there : (o : Knowing) → May (both_there x y) o → Has f x o
  first_there None a = tt
  first_there (Some k) a = a.0

  second_there : (o : Knowing) → May (both_there x y) o → Has f y o
  second_there None a = tt
  second_there (Some k) a = a.1

  pub hidden_stay : (types : Types) → IsHidden f x → IsHidden f y → StaysKnown types f (both_there x y)
  hidden_stay types first second = record {
    meets = λ s t a b. two_there (met s t) (has_met f x s t (first_there s a) (first_there t b)) (has_met f y s t (second_there s a) (second_there t b));
    head = λ o a. two_there (at_head f.locals o) (at_head_stays f x first types o (first_there o a)) (at_head_stays f y second types o (second_there o a));
    ways = λ t o h a. all (flow types f t o) (stays f x first types t o h (first_there o a)) (stays f y second types t o h (second_there o a));
    some = λ living k knows.
        let one = hidden_known f x first living k knows in
        let two = hidden_known f y second living one.0 one.1 in
        (two.0, two.1, (two.3 x one.2, two.2));
  }
    where
      all : (w : Flow) → HasAll f x w → HasAll f y w → MayAll (both_there x y) w
      all w a b = record {
        next = two_there w.next a.next b.next;
        on_break = two_there w.on_break a.on_break b.on_break;
        on_continue = two_there w.on_continue a.on_continue b.on_continue;
        on_true = two_there w.on_true a.on_true b.on_true;
        on_false = two_there w.on_false a.on_false b.on_false;
      }

-- control that comes or not
pub leaves_under : (types : Types) (f : Function) (U : List Known → Type 0) (in_loop : Bool) (before after outside : List ℕ) (t : Tree)
    → ((k : List Known) → Knows f before k → U k → Leaves f in_loop after outside (flow types f t (Some k)))
    → (o : Knowing) → MayKnow f before o → May U o → Leaves f in_loop after outside (flow types f t o)
leaves_under types f U in_loop before after outside t some None h u = leaves_nowhere f in_loop after outside (flow types f t None) (nowhere_flows types f t None refl)
leaves_under types f U in_loop before after outside t some (Some k) h u = some k h u

pub known_under : (types : Types) (f : Function) (r : ℕ) (U : List Known → Type 0) (living : List ℕ) (t : Tree) → ((k : List Known) → Knows f living k → U k → ReturnsKnown types f r t (Some k))
    → (o : Knowing) → MayKnow f living o → May U o → ReturnsKnown types f r t o
known_under types f r U living t some None h u = nowhere_known types f r t None refl
known_under types f r U living t some (Some k) h u = some k h u

module _ (types : Types) (texts : ℕ) (fs : List Function) (f : Function) (U : List Known → Type 0) where
  -- ---- a condition

  pub record AsksBare (s s' : State) (t : Tree) : Type 0 where
    pub fine : IsFineTest types texts fs f t
    pub goes : (k : List Known) → Alive f s k → U k → Asked types texts fs f s s' t k

  abbrev pub AsksUnder : State → State → Tree → Type 0
  AsksUnder s s' t = AsksBare (bare s) (bare s') t

  pub record TestsUnder (ends : Option Place) (s : State) (w : Gives Tree) : Type 0 where
    pub grown : Grows s w.state
    pub level : Ends ends → w.state.pending ≡ s.pending
    pub registers : AddsRegisters types s w.state
    pub unwritten : w.state.code ≡ s.code
    pub runs : Begins types f w.state → AsksUnder s w.state w.given

  pub tests_under : {ends : Option Place} (s : State) (w : Gives Tree) → Tests types texts fs f ends s w → TestsUnder ends s w
  tests_under s w t = record {
    grown = t.grown;
    level = t.level;
    registers = t.registers;
    unwritten = t.unwritten;
    runs = λ b. let r = t.runs b in record { fine = r.fine; goes = λ k alive u. r.goes k alive };
  }

  -- ---- a statement

  pub record ActingUnder (in_loop : Bool) (s s' : State) (code : List Tree) : Type 0 where
    pub stated : IsStated types texts fs f in_loop (trees code)
    pub ways : (o : Knowing) → MayKnow f s.living o → May U o → Leaves f in_loop s'.living (take s.outside s.living) (flow types f (trees code) o)
    pub apart : Apart f s s' (trees code)

  pub record DoesUnder (a : Around) (v : Visible) (in_loop : Bool) (s s' : State) : Type 0 where
    pub adds : Adds types f s s'
    pub locals : AreWrittenLocals types a s → AreWrittenLocals types a s'
    pub order : KeepsOrder s.types s'.types
    pub follows : Follows types f a v s'
    pub code : List Tree
    pub written : s'.code ≡ s.code ++ code
    pub acts : Begins types f s' → ActingUnder in_loop s s' code
    pub returns : Begins types f s' → GivesResult a → (o : Knowing) → MayKnow f s.living o → May U o → ReturnsKnown types f (result_local a) (trees code) o

  pub record DoesLevelUnder (a : Around) (v : Visible) (in_loop : Bool) (s s' : State) : Type 0 where
    pub does : DoesUnder a v in_loop s s'
    pub level : s'.living ≡ s.living

  pub does_under : (a : Around) (v : Visible) (in_loop : Bool) (s s' : State) → Does types texts fs f a v in_loop s s' → DoesUnder a v in_loop s s'
  does_under a v in_loop s s' h = record {
    adds = h.adds;
    locals = h.locals;
    order = h.order;
    follows = h.follows;
    code = h.code;
    written = h.written;
    acts = λ b. let one = h.acts b in record { stated = one.stated; ways = λ o k u. one.ways o k; apart = one.apart };
    returns = λ b gives o k u. h.returns b gives o k;
  }

  pub level_under : (a : Around) (v : Visible) (in_loop : Bool) (s s' : State) → DoesLevel types texts fs f a v in_loop s s' → DoesLevelUnder a v in_loop s s'
  level_under a v in_loop s s' h = record { does = does_under a v in_loop s s' h.does; level = h.level }

  -- one and then another
  pub under_then : (a : Around) (v u : Visible) (in_loop : Bool) (s t r : State) → (Begins types f s → StaysKnown types f U) → s.outside ≤ length s.living → DoesUnder a v in_loop s t → DoesUnder a u in_loop t r → DoesUnder a u in_loop s r
  under_then a v u in_loop s t r stay h first second = record {
    adds = adds_then types f s t r first.adds second.adds;
    locals = λ are. second.locals (first.locals are);
    order = order_then s.types t.types r.types first.order second.order;
    follows = second.follows;
    code = first.code ++ second.code;
    written = second.written ∙ ap (λ (c : List Tree). c ++ second.code) first.written ∙ append_assoc s.code first.code second.code;
    acts = λ b. acting b;
    returns = λ b gives o k m.
        let before = begins_added types f t r second.adds b in
        known_append types f (result_local a) first.code second.code o (first.returns before gives o k m)
        (second.returns b gives (flow types f (trees first.code) o).next ((first.acts before).ways o k m).next (next b o m));
  }
    where
      next : Begins types f r → (o : Knowing) → May U o → May U (flow types f (trees first.code) o).next
      next b o m = ((stay (begins_added types f s t first.adds (begins_added types f t r second.adds b))).ways (trees first.code) o (first.acts (begins_added types f t r second.adds b)).stated.given m).next

      acting : Begins types f r → ActingUnder in_loop s r (first.code ++ second.code)
      acting b =
          let p = first.acts (begins_added types f t r second.adds b) in
          let q = second.acts b in
          record {
            stated = stated_append types texts fs f in_loop first.code second.code p.stated q.stated;
            ways = λ o k m.
                let w = p.ways o k m in
                subst (λ (x : Flow). Leaves f in_loop r.living (take s.outside s.living) x) (sym (flow_append types f first.code second.code o))
                (leaves_then f in_loop t.living r.living (take s.outside s.living) (flow types f (trees first.code) o) (flow types f (trees second.code) (flow types f (trees first.code) o).next) w
                (subst (λ (ys : List ℕ). Leaves f in_loop r.living ys (flow types f (trees second.code) (flow types f (trees first.code) o).next)) (outside_stays types texts fs f s t first.adds h) (q.ways (flow types f (trees first.code) o).next w.next (next b o m))));
            apart = codes_apart f s t r first.code second.code p.apart q.apart;
          }

-- where more is known
module _ (types : Types) (texts : ℕ) (fs : List Function) (f : Function) (U V : List Known → Type 0) (more : (k : List Known) → U k → V k) where
  may_more : (o : Knowing) → May U o → May V o
  may_more None u = tt
  may_more (Some k) u = more k u

  pub does_more : (a : Around) (v : Visible) (in_loop : Bool) (s s' : State) → DoesUnder types texts fs f V a v in_loop s s' → DoesUnder types texts fs f U a v in_loop s s'
  does_more a v in_loop s s' h = record {
    adds = h.adds;
    locals = h.locals;
    order = h.order;
    follows = h.follows;
    code = h.code;
    written = h.written;
    acts = λ b. let one = h.acts b in record { stated = one.stated; ways = λ o k u. one.ways o k (may_more o u); apart = one.apart };
    returns = λ b gives o k u. h.returns b gives o k (may_more o u);
  }

  pub level_more : (a : Around) (v : Visible) (in_loop : Bool) (s s' : State) → DoesLevelUnder types texts fs f V a v in_loop s s' → DoesLevelUnder types texts fs f U a v in_loop s s'
  level_more a v in_loop s s' h = record { does = does_more a v in_loop s s' h.does; level = h.level }

-- where nothing is asked, nothing has to be known
module _ (types : Types) (texts : ℕ) (fs : List Function) (f : Function) where
  pub does_plain : (a : Around) (v : Visible) (in_loop : Bool) (s s' : State) → DoesUnder types texts fs f nothing_more a v in_loop s s' → Does types texts fs f a v in_loop s s'
  does_plain a v in_loop s s' h = record {
    adds = h.adds;
    locals = h.locals;
    order = h.order;
    follows = h.follows;
    code = h.code;
    written = h.written;
    acts = λ b. let one = h.acts b in record { stated = one.stated; ways = λ o k. one.ways o k (nothing_met o); apart = one.apart };
    returns = λ b gives o k. h.returns b gives o k (nothing_met o);
  }

  pub level_plain : (a : Around) (v : Visible) (in_loop : Bool) (s s' : State) → DoesLevelUnder types texts fs f nothing_more a v in_loop s s' → DoesLevel types texts fs f a v in_loop s s'
  level_plain a v in_loop s s' h = record { does = does_plain a v in_loop s s' h.does; level = h.level }
