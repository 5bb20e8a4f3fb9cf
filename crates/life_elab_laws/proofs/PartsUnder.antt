-- Parts of expressions as statements where more is known: behind what is hidden, and before it.
use Rattle.std.proofs.Common.{◌≡◌, inl, inr, ℕ, Bool, List, ◌++◌, length, None, Some, sym, ap, ◌∙◌, subst, append_assoc, take, arith}
use Rattle.life_types.specs.Types.{Types}
use Rattle.life_types.specs.declared.place.Place.{Place}
use Rattle.life_core.specs.Function.{Function}
use Rattle.life_core.specs.Tree.{Tree, trees}
use Rattle.life_proper.specs.Checking.{flow}
use Rattle.life_proper.specs.declared.known.Known.{Known}
use Rattle.life_well_typed.specs.Visible.{Visible}
use Rattle.life_writer.specs.Around.{Around, result_local}
use Rattle.life_writer.specs.Variables.{end_pending}
use Rattle.life_writer.specs.Writing.{Gives, State, gives}
use Rattle.life_elab_laws.proofs.Among.{among_take}
use Rattle.life_elab_laws.proofs.Conditions.{Spares}
use Rattle.life_elab_laws.proofs.EndedTemporaries.{behind, behind_grows, behind_is, ending, ending_is, ends_alive, ends_fall, ends_fine, ends_keep, ends_spare}
use Rattle.life_elab_laws.proofs.Ending.{set_blank}
use Rattle.life_elab_laws.proofs.Exits.{Knows, Leaves, leaves_falling}
use Rattle.life_elab_laws.proofs.Falling.{falls_append}
use Rattle.life_elab_laws.proofs.Following.{Follows, alive_knows, follows_grown, grows_adds, knows_alive}
use Rattle.life_elab_laws.proofs.Gifts.{Gift}
use Rattle.life_elab_laws.proofs.GivenApart.{codes_apart}
use Rattle.life_elab_laws.proofs.GivingBack.{fine_known}
use Rattle.life_elab_laws.proofs.Growing.{Begins, begins_before}
use Rattle.life_elab_laws.proofs.Making.{keeps_then}
use Rattle.life_elab_laws.proofs.Parts.{Makes, Part, Runs}
use Rattle.life_elab_laws.proofs.PendingTemporaries.{ArePending}
use Rattle.life_elab_laws.proofs.Shaping.{fine_append}
use Rattle.life_elab_laws.proofs.SomeKnown.{some_known, some_knows}
use Rattle.life_elab_laws.proofs.TemporaryEnds.{TemporariesEnd}
use Rattle.life_elab_laws.proofs.Under.{ActingUnder, DoesLevelUnder, MayBeKnown, leaves_under}
use Rattle.life_elab_laws.proofs.WrittenLocals.{locals_added}
use Rattle.life_elab_laws.proofs.BornLocals.{codes_bear}

module _ (types : Types) (texts : ℕ) (fs : List Function) (f : Function) where
  -- ---- a part behind which its temporaries end

  module _ {A : Type 0} (Q : Gift types texts fs f A) (s : State) (w : Gives A) (place : Place) (low : ℕ) (before : ArePending low s) (can : TemporariesEnd types texts fs f low)
      (spared : (n : ℕ) (k j : List Known) → Q.typed w.given → Q.ready w.given n k → Spares types texts fs f k j → Q.ready w.given n j) (made : Makes types texts fs f None s w Q) where
    abbrev after : State
    after = behind types texts fs f s w.state made.grown low before place

    ended_behind : Makes types texts fs f None s (gives w.given after) Q
    ended_behind = record {
      grown = behind_grows types texts fs f s w.state made.grown low before place;
      registers = made.registers;
      code = made.code ++ (ending_is types texts fs f s w.state made.grown low before place).code;
      written = ap (λ (c : List Tree). c ++ (ending_is types texts fs f s w.state made.grown low before place).code) made.written ∙ append_assoc s.code made.code (ending_is types texts fs f s w.state made.grown low before place).code;
      runs = λ b p. let r = made.runs b p in record {
        fine = fine_append types texts fs f made.code (ending_is types texts fs f s w.state made.grown low before place).code r.fine (ends_fine types texts fs f s w.state made.grown low before place b can);
        typed = r.typed;
        goes = λ k alive q.
            let g = r.goes k alive q in
            let j : List Known = set_blank (ending types texts fs f s w.state made.grown low before place) g.after in
            record {
              after = j;
              falls = falls_append types f made.code (ending_is types texts fs f s w.state made.grown low before place).code k g.after j g.falls (ends_fall types texts fs f s w.state made.grown low before place g.after g.alive);
              keeps = keeps_then f (length s.locals) (length s.locals) None k g.after j (omega arith) g.keeps (ends_keep types texts fs f s w.state made.grown low before place g.after);
              gives = spared (length w.state.locals) g.after j r.typed g.gives (ends_spare types texts fs f s w.state made.grown low before place b g.after);
              alive = ends_alive types texts fs f s w.state made.grown low before place g.after g.alive;
              apart =
                  codes_apart f s w.state after made.code (ending_is types texts fs f s w.state made.grown low before place).code g.apart
                  ((ending_is types texts fs f s w.state made.grown low before place).apart w.state after (omega arith) (λ x o. elim o [ inl m ↦ inl (inl m) | inr m ↦ inl (inr (among_take (length s.pending) w.state.pending x m)) ]));
              bears = codes_bear f s w.state made.code (ending_is types texts fs f s w.state made.grown low before place).code made.grown g.bears ((ending_is types texts fs f s w.state made.grown low before place).bears w.state);
            };
      };
    }

    pub ended_part : Makes types texts fs f None s (gives w.given (end_pending (length s.pending) place w.state)) Q
    ended_part = subst (λ (r : State). Makes types texts fs f None s (gives w.given r) Q) (sym (behind_is types texts fs f s w.state made.grown low before place)) ended_behind

  -- ---- a part that ends all its temporaries is a statement, where what it needs is known

  module _ {A B : Type 0} (P : Gift types texts fs f A) (x : A) (Q : Gift types texts fs f B) (a : Around) (v : Visible) (in_loop : Bool) (s : State) (w : Gives B) (h : Follows types f a v s) (level : w.state.pending ≡ s.pending)
      (made : Part types texts fs f P x None s w Q) (told : Begins types f w.state → P.typed x) (some : Begins types f w.state → MayBeKnown f (P.ready x (length s.locals))) where
    abbrev More : List Known → Type 0
    More = P.ready x (length s.locals)

    part_acts : Begins types f w.state → ActingUnder types texts fs f More in_loop s w.state made.code
    part_acts b = record {
      stated = r.fine.stated in_loop;
      ways = leaves_under types f More in_loop s.living w.state.living (take s.outside s.living) (trees made.code) went;
      apart = (r.goes first.0 (knows_alive types f a v s h first.0 first.1) first.2).apart;
    }
      where
        r : Runs types texts fs f P x None s w Q made.code
        r = made.runs b (told b)

        before : Begins types f s
        before = begins_before types f s w.state made.grown b

        first : (k : List Known) × Knows f s.living k × More k
        first = some b s.living (some_known types f a v s h before) (some_knows types f a v s h before)

        went : (k : List Known) → Knows f s.living k → More k → Leaves f in_loop w.state.living (take s.outside s.living) (flow types f (trees made.code) (Some k))
        went k known more =
            let g = r.goes k (knows_alive types f a v s h k known) more in
            subst (Leaves f in_loop w.state.living (take s.outside s.living)) (sym g.falls)
            (leaves_falling f in_loop w.state.living (take s.outside s.living) g.after (alive_knows types f w.state g.after (level ∙ h.pending) g.alive))

    pub part_under : DoesLevelUnder types texts fs f More a v in_loop s w.state
    part_under = record {
      does = record {
        adds = grows_adds types f s w.state level made.grown;
        locals = locals_added types a s w.state made.grown.types made.registers;
        order = made.registers.1;
        follows = follows_grown types f a v s w.state level made.grown h;
        code = made.code;
        written = made.written;
        acts = part_acts;
        returns = λ b gives o k more. fine_known types f (result_local a) texts fs made.code (made.runs b (told b)).fine o;
      };
      level = made.grown.living;
    }
