-- Where variables end: at the end of a block, and before control goes elsewhere.
use Rattle.std.proofs.Common.{◌≡◌, inl, inr, ℕ, Bool, true, List, [], ◌∷◌, ◌++◌, drop, length, reverse, take, Some, sym, ap, ◌∙◌, subst, arith, append_assoc}
use Rattle.life_types.specs.Types.{Types}
use Rattle.life_types.specs.declared.place.Place.{Place}
use Rattle.life_core.specs.Function.{Function}
use Rattle.life_core.specs.Tree.{Tree, trees}
use Rattle.life_proper.specs.declared.known.Known.{Known}
use Rattle.life_proper.specs.Checking.{Flow, before_next, flow, joined}
use Rattle.life_proper.specs.Knowing.{State as Knowing}
use Rattle.life_proper.specs.ResultsKnown.{ReturnsKnown}
use Rattle.life_well_typed.specs.Visible.{Visible, behind}
use Rattle.life_writer.specs.Around.{Around, result_local}
use Rattle.life_writer.specs.Variables.{end_since, with_living_of}
use Rattle.life_writer.specs.Writing.{State, with_code, write}
use Rattle.life_elab.specs.Statements.{left}
use Rattle.life_elab_laws.proofs.Among.{Among, all_among, among_drop, among_take, reverse_among}
use Rattle.life_elab_laws.proofs.Doing.{Acting, Does}
use Rattle.life_elab_laws.proofs.Ending.{end_knows, end_ready, set_blank}
use Rattle.life_elab_laws.proofs.EndSteps.{IsEnded, end_living, ended, ends_here}
use Rattle.life_elab_laws.proofs.Exits.{Knows, Leaves, MayKnow, leaves_falling, leaves_may, leaves_then}
use Rattle.life_elab_laws.proofs.Falling.{falling, flow_append}
use Rattle.life_elab_laws.proofs.Following.{Follows, adds_none, follows_again, take_itself}
use Rattle.life_elab_laws.proofs.FormedEnds.{variable_ends}
use Rattle.life_elab_laws.proofs.Fronts.{front_length}
use Rattle.life_elab_laws.proofs.GivingBack.{GivesResult, fine_known, known_append}
use Rattle.life_elab_laws.proofs.GivenApart.{Apart, codes_apart}
use Rattle.life_elab_laws.proofs.Growing.{Begins}
use Rattle.life_elab_laws.proofs.OrderedTypes.{order_none}
use Rattle.life_elab_laws.proofs.Setting.{Setting}
use Rattle.life_elab_laws.proofs.Shaping.{IsFine, IsStated, stated_alone, stated_append}
use Rattle.life_elab_laws.proofs.Under.{ActingUnder, DoesUnder, May, does_plain, does_under, nothing_more}
use Rattle.life_elab_laws.proofs.OwnLocals.{first_own}

module _ (types : Types) (texts : ℕ) (fs : List Function) (f : Function) where
  -- all past so many
  module _ (a : Around) (setting : Setting a types fs f) (v : Visible) (s : State) (h : Follows types f a v s) (b : Begins types f s) (n : ℕ) where
    -- .. each is a variable or a temporary, so it can end
    pub past_fine : (place : Place) (e : IsEnded types texts fs f (reverse (drop n s.living)) place s) → IsFine types texts fs f e.code
    past_fine place e = e.fine (all_among (ends_here types texts fs f) (reverse (drop n s.living)) (λ y m. one y (among_drop n s.living y (reverse_among (drop n s.living) y m))))
      where
        one : (y : ℕ) → Among y s.living → ends_here types texts fs f y ≡ true
        one y m =
            let is = h.living y m in
            variable_ends types texts fs f setting.shaped setting.nameless (first_own a) setting.own y is.local (b.locals y is.local is.there) is.lasts (is.beyond is.local is.there) (h.sorts b y m)

  -- ---- the end of a block

  -- what was visible before it is visible again, and only what lived before lives
  module _ (a : Around) (setting : Setting a types fs f) (v u : Visible) (in_loop : Bool) (s t : State) (h : Follows types f a v s) (U : List Known → Type 0) (inner : DoesUnder types texts fs f U a u in_loop s t) (place : Place) where
    is : IsEnded types texts fs f (reverse (drop (length s.living) t.living)) place t
    is = ended types texts fs f (reverse (drop (length s.living) t.living)) place t

    abbrev behind_block : List Tree → State
    behind_block code = with_living_of (length s.living) (with_code (t.code ++ code) t)

    ended_acts : (e : IsEnded types texts fs f (reverse (drop (length s.living) t.living)) place t) → Begins types f t → ActingUnder types texts fs f U in_loop s (behind_block e.code) (inner.code ++ e.code)
    ended_acts e b = record {
      stated = stated_append types texts fs f in_loop inner.code e.code (inner.acts b).stated ((past_fine a setting u t inner.follows b (length s.living) place e).stated in_loop);
      ways = ways;
      apart = codes_apart f s t (behind_block e.code) inner.code e.code (inner.acts b).apart
          (e.apart t (behind_block e.code) (omega arith) (λ x o. elim o [ inl m ↦ inl (inl (among_take (length s.living) t.living x m)) | inr m ↦ inl (inr m) ]));
    }
      where
        last : (k : List Known) → Knows f t.living k
            → Leaves f in_loop (take (length s.living) t.living) (take s.outside s.living) (flow types f (trees e.code) (Some k))
        last k knows =
            subst (Leaves f in_loop (take (length s.living) t.living) (take s.outside s.living)) (sym (e.falls k (end_ready f t.living (length s.living) 0 inner.follows.ascend k knows)))
            (leaves_falling f in_loop (take (length s.living) t.living) (take s.outside s.living) (set_blank (reverse (drop (length s.living) t.living)) k)
            (end_knows f t.living (length s.living) 0 inner.follows.ascend k knows))

        ways : (o : Knowing) → MayKnow f s.living o → May U o → Leaves f in_loop (take (length s.living) t.living) (take s.outside s.living) (flow types f (trees (inner.code ++ e.code)) o)
        ways o knows more =
            let w = (inner.acts b).ways o knows more in
            let between : Knowing = (flow types f (trees inner.code) o).next in
            subst (Leaves f in_loop (take (length s.living) t.living) (take s.outside s.living)) (sym (flow_append types f inner.code e.code o))
            (leaves_then f in_loop t.living (take (length s.living) t.living) (take s.outside s.living) (flow types f (trees inner.code) o) (flow types f (trees e.code) between) w
            (leaves_may types f in_loop t.living (take (length s.living) t.living) (take s.outside s.living) (trees e.code) last between w.next))

    ended_does : (e : IsEnded types texts fs f (reverse (drop (length s.living) t.living)) place t) → DoesUnder types texts fs f U a (behind v u) in_loop s (behind_block e.code)
    ended_does e = record {
      adds = record {
        locals = inner.adds.locals;
        table = inner.adds.table;
        variables = inner.adds.variables;
        living = ap (take (length s.living)) inner.adds.living ∙ take_itself s.living;
        pending = inner.adds.pending;
        outside = inner.adds.outside;
      };
      locals = inner.locals;
      order = inner.order;
      follows = follows_again types f a v s (behind_block e.code) u.declared h inner.adds.locals inner.adds.table inner.adds.variables inner.adds.living inner.adds.pending
          (omega (arith, inner.adds.outside, ap length inner.adds.living, h.outside)) inner.follows.count
          (omega (arith, h.count, inner.follows.count, front_length s.variables t.variables inner.adds.variables));
      code = inner.code ++ e.code;
      written = ap (λ (c : List Tree). c ++ e.code) inner.written ∙ append_assoc s.code inner.code e.code;
      acts = ended_acts e;
      returns = λ b gives o k more.
          known_append types f (result_local a) inner.code e.code o (inner.returns b gives o k more)
          (fine_known types f (result_local a) texts fs e.code (past_fine a setting u t inner.follows b (length s.living) place e) (flow types f (trees inner.code) o).next);
    }

    pub block_under : DoesUnder types texts fs f U a (behind v u) in_loop s (end_since place (length s.living) t)
    block_under = subst (λ (r : State). DoesUnder types texts fs f U a (behind v u) in_loop s (with_living_of (length s.living) r)) (sym is.written) (ended_does is)

    pub level_behind : (end_since place (length s.living) t).living ≡ s.living
    level_behind = ap (take (length s.living)) (end_living types texts fs f (reverse (drop (length s.living) t.living)) place t) ∙ inner.adds.living

  -- .. where nothing more has to be known
  module _ (a : Around) (setting : Setting a types fs f) (v u : Visible) (in_loop : Bool) (s t : State) (h : Follows types f a v s) (inner : Does types texts fs f a u in_loop s t) (place : Place) where
    pub block_does : Does types texts fs f a (behind v u) in_loop s (end_since place (length s.living) t)
    block_does =
        does_plain types texts fs f a (behind v u) in_loop s (end_since place (length s.living) t)
        (block_under a setting v u in_loop s t h nothing_more (does_under types texts fs f nothing_more a u in_loop s t inner) place)

    pub block_level : (end_since place (length s.living) t).living ≡ s.living
    block_level = level_behind a setting v u in_loop s t h nothing_more (does_under types texts fs f nothing_more a u in_loop s t inner) place

  -- ---- control goes elsewhere

  module _ (a : Around) (setting : Setting a types fs f) (v : Visible) (in_loop : Bool) (s : State) (h : Follows types f a v s) (n : ℕ) (place : Place) (t : Tree) (stated : IsStated types texts fs f in_loop t)
      (leaves : (k : List Known) → Knows f (take n s.living) k → Leaves f in_loop s.living (take s.outside s.living) (flow types f (trees (t ∷ [])) (Some k)))
      (plain : Apart f s s (trees (t ∷ []))) where
    pub left_acts : (e : IsEnded types texts fs f (reverse (drop n s.living)) place s) → Begins types f s → Acting types texts fs f in_loop s (write t (with_code (s.code ++ e.code) s)) (e.code ++ t ∷ [])
    left_acts e b = record {
      stated = stated_append types texts fs f in_loop e.code (t ∷ []) ((past_fine a setting v s h b n place e).stated in_loop) (stated_alone types texts fs f in_loop t stated);
      ways = leaves_may types f in_loop s.living s.living (take s.outside s.living) (trees (e.code ++ t ∷ [])) went;
      apart = codes_apart f s s s e.code (t ∷ []) (e.apart s s (omega arith) (λ x o. inl o)) plain;
    }
      where
        went : (k : List Known) → Knows f s.living k → Leaves f in_loop s.living (take s.outside s.living) (flow types f (trees (e.code ++ t ∷ [])) (Some k))
        went k knows =
            let j : List Known = set_blank (reverse (drop n s.living)) k in
            let ends : Knows f (take n s.living) j = end_knows f s.living n 0 h.ascend k knows in
            subst (Leaves f in_loop s.living (take s.outside s.living))
            (sym (flow_append types f e.code (t ∷ []) (Some k) ∙ ap (λ (w : Flow). joined (before_next w) (flow types f (trees (t ∷ [])) w.next)) (e.falls k (end_ready f s.living n 0 h.ascend k knows))))
            (leaves_then f in_loop (take n s.living) s.living (take s.outside s.living) (falling j) (flow types f (trees (t ∷ [])) (Some j))
            (leaves_falling f in_loop (take n s.living) (take s.outside s.living) j ends) (leaves j ends))

    -- .. and where that is a return, no value has to be given back
    left_from : (GivesResult a → (o : Knowing) → ReturnsKnown types f (result_local a) (trees (t ∷ [])) o) → (e : IsEnded types texts fs f (reverse (drop n s.living)) place s)
        → Does types texts fs f a v in_loop s (write t (with_code (s.code ++ e.code) s))
    left_from back e = record {
      adds = adds_none types f s;
      locals = λ are. are;
      order = order_none s.types;
      follows = h;
      code = e.code ++ t ∷ [];
      written = append_assoc s.code e.code (t ∷ []);
      acts = left_acts e;
      returns = λ b gives o k.
          let ends : Knowing = (flow types f (trees e.code) o).next in
          known_append types f (result_local a) e.code (t ∷ []) o (fine_known types f (result_local a) texts fs e.code (past_fine a setting v s h b n place e) o) (back gives ends);
    }

    pub left_does : (GivesResult a → (o : Knowing) → ReturnsKnown types f (result_local a) (trees (t ∷ [])) o) → Does types texts fs f a v in_loop s (left n place t s)
    left_does back = subst (λ (r : State). Does types texts fs f a v in_loop s (write t r)) (sym (ended types texts fs f (reverse (drop n s.living)) place s).written) (left_from back (ended types texts fs f (reverse (drop n s.living)) place s))

  pub left_level : (s : State) (n : ℕ) (place : Place) (t : Tree) → (left n place t s).living ≡ s.living
  left_level s n place t = end_living types texts fs f (reverse (drop n s.living)) place s
