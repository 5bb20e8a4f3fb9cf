-- What a statement writes: from knowledge between statements to such knowledge, and at each exit.
use Rattle.std.proofs.Common.{◌≡◌, ◌≤◌, inl, inr, ℕ, Bool, List, [], ◌++◌, length, take, Option, Some, refl, sym, ap, ◌∙◌, subst, append_assoc, append-nil, arith}
use Rattle.life_types.specs.Types.{Types}
use Rattle.life_core.specs.Function.{Function}
use Rattle.life_core.specs.Tree.{Tree, trees}
use Rattle.life_proper.specs.declared.known.Known.{Known}
use Rattle.life_proper.specs.Checking.{Flow, flow}
use Rattle.life_proper.specs.Knowing.{State as Knowing}
use Rattle.life_proper.specs.ResultsKnown.{ReturnsKnown}
use Rattle.life_well_typed.specs.Visible.{Visible}
use Rattle.life_writer.specs.Around.{Around, result_local}
use Rattle.life_writer.specs.Writing.{State, Gives}
use Rattle.life_elab_laws.proofs.Exits.{Knows, Leaves, MayKnow, leaves_falling, leaves_may, leaves_then, none_leaves}
use Rattle.life_elab_laws.proofs.Falling.{Falls, falls_append, flow_append}
use Rattle.life_elab_laws.proofs.Following.{Adds, Follows, adds_none, adds_then, begins_added, alive_knows, follows_grown, grows_adds, knows_alive, take_front, take_itself}
use Rattle.life_elab_laws.proofs.GivingBack.{GivesResult, fine_known, known_append}
use Rattle.life_elab_laws.proofs.Among.{among_take}
use Rattle.life_elab_laws.proofs.GivenApart.{Apart, codes_apart, same_apart}
use Rattle.life_elab_laws.proofs.Growing.{Begins, Grows, begins_before}
use Rattle.life_elab_laws.proofs.SomeKnown.{some_known, some_knows}
use Rattle.life_elab_laws.proofs.Gifts.{Gift}
use Rattle.life_elab_laws.proofs.Parts.{Goes, Makes}
use Rattle.life_elab_laws.proofs.OrderedTypes.{KeepsOrder, order_none, order_then}
use Rattle.life_elab_laws.proofs.Shaping.{IsFine, IsStated, fine_append, stated_append, stated_none}
use Rattle.life_elab_laws.proofs.WrittenLocals.{AreWrittenLocals, locals_added}
use Rattle.life_elab_laws.proofs.EndedTemporaries.{behind, behind_grows, behind_is, ending, ending_is, ends_alive, ends_fall, ends_fine, ends_level}
use Rattle.life_elab_laws.proofs.Ending.{set_blank}
use Rattle.life_elab_laws.proofs.TemporaryEnds.{TemporariesEnd}
use Rattle.life_types.specs.declared.place.Place.{Place}
use Rattle.life_writer.specs.Variables.{end_pending}
use Rattle.life_elab_laws.proofs.OwnLocals.{first_own}

module _ (types : Types) (texts : ℕ) (fs : List Function) (f : Function) where
  pub record Acting (in_loop : Bool) (s s' : State) (code : List Tree) : Type 0 where
    pub stated : IsStated types texts fs f in_loop (trees code)
    pub ways : (o : Knowing) → MayKnow f s.living o → Leaves f in_loop s'.living (take s.outside s.living) (flow types f (trees code) o)
    -- what it gives over is new, and nothing looks at it
    pub apart : Apart f s s' (trees code)

  pub record Does (a : Around) (v : Visible) (in_loop : Bool) (s s' : State) : Type 0 where
    pub adds : Adds types f s s'
    pub locals : AreWrittenLocals types a s → AreWrittenLocals types a s'
    pub order : KeepsOrder s.types s'.types
    pub follows : Follows types f a v s'
    pub code : List Tree
    pub written : s'.code ≡ s.code ++ code
    pub acts : Begins types f s' → Acting in_loop s s' code
    -- where something must be given back, each return stands behind it
    pub returns : Begins types f s' → GivesResult a → (o : Knowing) → MayKnow f s.living o → ReturnsKnown types f (result_local a) (trees code) o

  -- what stays outside of the innermost loop is the same
  take_less : (n m : ℕ) (xs ys : List ℕ) → n ≤ m → take m ys ≡ take m xs → take n ys ≡ take n xs
  take_less n m xs ys h e = sym (take_front n m ys h) ∙ ap (take n) e ∙ take_front n m xs h

  pub outside_stays : (s s' : State) → Adds types f s s' → s.outside ≤ length s.living → take s'.outside s'.living ≡ take s.outside s.living
  outside_stays s s' g h = ap (λ (n : ℕ). take n s'.living) g.outside ∙ take_less s.outside (length s.living) s.living s'.living h (g.living ∙ sym (take_itself s.living))

  -- what lives is the same behind it
  pub record DoesLevel (a : Around) (v : Visible) (in_loop : Bool) (s s' : State) : Type 0 where
    pub does : Does a v in_loop s s'
    pub level : s'.living ≡ s.living

  -- nothing
  pub does_nothing : (a : Around) (v : Visible) (in_loop : Bool) (s : State) → Follows types f a v s → Does a v in_loop s s
  does_nothing a v in_loop s h = record {
    adds = adds_none types f s;
    locals = λ are. are;
    order = order_none s.types;
    follows = h;
    code = [];
    written = sym (append-nil s.code);
    acts = λ b. record { stated = stated_none types texts fs f in_loop; ways = λ o k. record { fine = refl; next = k; on_break = none_leaves f in_loop (take s.outside s.living); on_continue = none_leaves f in_loop (take s.outside s.living); on_true = refl; on_false = refl }; apart = same_apart f s s refl refl refl };
    returns = λ b gives o k. tt;
  }

  pub acts_then : (in_loop : Bool) (s t r : State) (c d : List Tree) → s.outside ≤ length s.living → Adds types f s t → Acting in_loop s t c → Acting in_loop t r d → Acting in_loop s r (c ++ d)
  acts_then in_loop s t r c d h adds p q = record {
    stated = stated_append types texts fs f in_loop c d p.stated q.stated;
    ways = λ o k.
        let w = p.ways o k in
        subst (λ (x : Flow). Leaves f in_loop r.living (take s.outside s.living) x) (sym (flow_append types f c d o))
        (leaves_then f in_loop t.living r.living (take s.outside s.living) (flow types f (trees c) o) (flow types f (trees d) (flow types f (trees c) o).next) w
        (subst (λ (ys : List ℕ). Leaves f in_loop r.living ys (flow types f (trees d) (flow types f (trees c) o).next)) (outside_stays s t adds h) (q.ways (flow types f (trees c) o).next w.next)));
    apart = codes_apart f s t r c d p.apart q.apart;
  }

  -- one and then another
  pub does_then : (a : Around) (v u : Visible) (in_loop : Bool) (s t r : State) → s.outside ≤ length s.living → Does a v in_loop s t → Does a u in_loop t r → Does a u in_loop s r
  does_then a v u in_loop s t r h first second = record {
    adds = adds_then types f s t r first.adds second.adds;
    locals = λ are. second.locals (first.locals are);
    order = order_then s.types t.types r.types first.order second.order;
    follows = second.follows;
    code = first.code ++ second.code;
    written = second.written ∙ ap (λ (c : List Tree). c ++ second.code) first.written ∙ append_assoc s.code first.code second.code;
    acts = λ b. acts_then in_loop s t r first.code second.code h first.adds (first.acts (begins_added types f t r second.adds b)) (second.acts b);
    returns = λ b gives o k.
        let before = begins_added types f t r second.adds b in
        known_append types f (result_local a) first.code second.code o (first.returns before gives o k)
        (second.returns b gives (flow types f (trees first.code) o).next ((first.acts before).ways o k).next);
  }

  -- ---- what a full expression writes, as a statement: behind it its temporaries end

  module _ {A : Type 0} (a : Around) (v : Visible) (in_loop : Bool) (into : Option ℕ) (s : State) (w : Gives A) (Q : Gift types texts fs f A) (h : Follows types f a v s) (can : TemporariesEnd types texts fs f (first_own a)) (place : Place)
      (made : Makes types texts fs f into s w Q) where
    -- where they have ended
    abbrev pub full_state : State
    full_state = behind types texts fs f s w.state made.grown _ h.stands.pends place

    abbrev ends : List Tree
    ends = (ending_is types texts fs f s w.state made.grown _ h.stands.pends place).code

    abbrev pub full_code : List Tree
    full_code = made.code ++ ends

    abbrev pub ended_then : List Known → List Known
    ended_then k = set_blank (ending types texts fs f s w.state made.grown _ h.stands.pends place) k

    full_level : full_state.pending ≡ s.pending
    full_level = ends_level types texts fs f s w.state made.grown _ h.stands.pends place

    full_grows : Grows s full_state
    full_grows = behind_grows types texts fs f s w.state made.grown _ h.stands.pends place

    pub full_adds : Adds types f s full_state
    full_adds = grows_adds types f s full_state full_level full_grows

    pub full_follows : Follows types f a v full_state
    full_follows = follows_grown types f a v s full_state full_level full_grows h

    -- the same variables live
    pub full_knows : (k : List Known) → (g : Goes types texts fs f into s w Q made.code k) → Knows f w.state.living (ended_then g.after)
    full_knows k g = alive_knows types f full_state (ended_then g.after) (full_level ∙ h.pending) (ends_alive types texts fs f s w.state made.grown _ h.stands.pends place g.after g.alive)

    pub full_fine : Begins types f w.state → IsFine types texts fs f full_code
    full_fine b = fine_append types texts fs f made.code ends (made.runs b tt).fine (ends_fine types texts fs f s w.state made.grown _ h.stands.pends place b can)

    pub full_falls : (k : List Known) → (g : Goes types texts fs f into s w Q made.code k) → Falls types f full_code k (ended_then g.after)
    full_falls k g = falls_append types f made.code ends k g.after (ended_then g.after) g.falls (ends_fall types texts fs f s w.state made.grown _ h.stands.pends place g.after g.alive)

    pub full_apart : Begins types f w.state → Apart f s full_state (trees full_code)
    full_apart b =
        let before = begins_before types f s w.state made.grown b in
        let g = (made.runs b tt).goes (some_known types f a v s h before) (knows_alive types f a v s h (some_known types f a v s h before) (some_knows types f a v s h before)) tt in
        codes_apart f s w.state full_state made.code ends g.apart
        ((ending_is types texts fs f s w.state made.grown _ h.stands.pends place).apart w.state full_state (omega arith) (λ x o. elim o [ inl m ↦ inl (inl m) | inr m ↦ inl (inr (among_take (length s.pending) w.state.pending x m)) ]))

    pub full_written : full_state.code ≡ s.code ++ full_code
    full_written = ap (λ (c : List Tree). c ++ ends) made.written ∙ append_assoc s.code made.code ends

    pub full_acts : Begins types f w.state → Acting in_loop s full_state full_code
    full_acts b = record {
      stated = (full_fine b).stated in_loop;
      ways = leaves_may types f in_loop s.living w.state.living (take s.outside s.living) (trees full_code) went;
      apart = full_apart b;
    }
      where
        went : (k : List Known) → Knows f s.living k → Leaves f in_loop w.state.living (take s.outside s.living) (flow types f (trees full_code) (Some k))
        went k known =
            let g = (made.runs b tt).goes k (knows_alive types f a v s h k known) tt in
            subst (Leaves f in_loop w.state.living (take s.outside s.living)) (sym (full_falls k g))
            (leaves_falling f in_loop w.state.living (take s.outside s.living) (ended_then g.after) (full_knows k g))

    full_does : Does a v in_loop s full_state
    full_does = record {
      adds = full_adds;
      locals = locals_added types a s w.state made.grown.types made.registers;
      order = made.registers.1;
      follows = full_follows;
      code = full_code;
      written = full_written;
      acts = full_acts;
      returns = λ b gives o k. fine_known types f (result_local a) texts fs full_code (full_fine b) o;
    }

    pub does_full : Does a v in_loop s (end_pending (length s.pending) place w.state)
    does_full = subst (Does a v in_loop s) (sym (behind_is types texts fs f s w.state made.grown _ h.stands.pends place)) full_does
