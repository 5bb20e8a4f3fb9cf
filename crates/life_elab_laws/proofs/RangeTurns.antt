-- The test of a loop over a range, its step, and the variable of a turn: what is written through the hidden iterators.
use Rattle.std.specs.Prelude.{pos}
use Rattle.std.proofs.Common.{◌≡◌, ◌<◌, ℕ, Bool, true, false, List, [], ◌∷◌, length, Some, None, refl, sym, ap, ◌∙◌, subst}
use Rattle.std.proofs.lemmas.Bool.{and_from}
use Rattle.life_types.specs.Pointees.{ty_of}
use Rattle.life_types.specs.TypeTests.{is_iterator}
use Rattle.life_types.specs.Types.{Types}
use Rattle.life_types.specs.declared.place.Place.{Place}
use Rattle.life_types.specs.declared.ty.Ty.{Ty}
use Rattle.life_types.specs.declared.ty.Ty.TheVariants as ty
use Rattle.life_types.specs.declared.ty.TyId.{TyId}
use Rattle.life_core.specs.Function.{Function}
use Rattle.life_core.specs.Operands.{whole}
use Rattle.life_core.specs.Step.{Advance, NonZero, Same}
use Rattle.life_core.specs.Tree.{Asks, Then, Tree, trees}
use Rattle.life_core.specs.declared.instr.Direction.TheVariants.{Forward}
use Rattle.life_proper.specs.OperandTypes.{are_compared, keeps_const, same, takes}
use Rattle.life_proper.specs.Placed.{is_number, is_number_of, type_in}
use Rattle.life_proper.specs.declared.known.Known.{Known}
use Rattle.life_proper.specs.declared.known.Known.TheVariants as known
use Rattle.life_proper.proofs.ReadyTests.{uses_ready}
use Rattle.life_well_typed.specs.Visible.{Visible}
use Rattle.life_writer.specs.Around.{Around}
use Rattle.life_writer.specs.Registers.{computed}
use Rattle.life_writer.specs.Registers as registers
use Rattle.life_writer.specs.Writing.{Gives, State, gives, with_code}
use Rattle.life_elab.specs.RangeForms.{Iterators, goes_on, next}
use Rattle.life_elab_laws.proofs.Falling.{decides_asks, decides_behind}
use Rattle.life_elab_laws.proofs.Following.{Follows}
use Rattle.life_elab_laws.proofs.Gifts.{a_number, both, nothing as no_gift}
use Rattle.life_elab_laws.proofs.GivenApart.{same_apart, trees_apart}
use Rattle.life_elab_laws.proofs.Growing.{Begins, begins_before}
use Rattle.life_elab_laws.proofs.Held.{one_there, two_there}
use Rattle.life_elab_laws.proofs.Instructions.{acted_part, computed_part, constant_part}
use Rattle.life_elab_laws.proofs.Knowledge.{set_length, set_same}
use Rattle.life_elab_laws.proofs.Making.{IsHeld}
use Rattle.life_elab_laws.proofs.OperandsThere.{number_any}
use Rattle.life_elab_laws.proofs.Parts.{Makes, Part, Runs, and_part, gives_part, then_part}
use Rattle.life_elab_laws.proofs.PartsUnder.{part_under}
use Rattle.life_elab_laws.proofs.RangeOpening.{AreIterators, iterators}
use Rattle.life_elab_laws.proofs.Shaping.{fine_asks, fine_behind}
use Rattle.life_elab_laws.proofs.Under.{AsksUnder, DoesLevelUnder, TestsUnder, both_there, hidden_stay, level_more}
use Rattle.life_elab_laws.proofs.WalkerSteps.{keeps_itself}
use Rattle.life_elab_laws.proofs.BornLocals.{bears_then}

module _ (types : Types) (texts : ℕ) (fs : List Function) (f : Function) (id : TyId) (constant : Bool) (alike : same (ty_of types id) (ty_of types id) ≡ true) (it : Iterators) where
  abbrev I : Ty
  I = ty.Iterator id constant

  -- that both are there is all that has to be known, where they are among so many locals
  abbrev pub More : List Known → Type 0
  More = both_there it.first it.last

  module _ (n : ℕ) (first : it.first < n) (last : it.last < n) where
    both_held : (k : List Known) → More k → IsHeld it.first n k × IsHeld it.last n k
    both_held k m = ((first, m.0), (last, m.1))

  -- ---- the test

  module _ (colon : Place) (s : State) (first : it.first < length s.locals) (last : it.last < length s.locals) (hidden : Begins types f s → AreIterators types texts fs f id constant it) where
    -- they differ
    differ_part : Part types texts fs f (iterators types texts fs f id constant) it None (with_code [] s) (computed None ty.Bool colon (λ r. Same r (whole it.first) (whole it.last) false) (with_code [] s)) (a_number types texts fs f ty.Bool)
    differ_part =
        computed_part types texts fs f (iterators types texts fs f id constant) it None ty.Bool colon (λ r. Same r (whole it.first) (whole it.last) false) (with_code [] s) refl tt
        (record {
          fills = λ r n k e p. record { ready = uses_ready k (it.first ∷ it.last ∷ []) (r ∷ []) (two_there k it.first it.last p.0.1 p.1.1); after = refl };
          fine = λ r e h. record {
            given = refl;
            formed =
                and_from (is_number_of types f ty.Bool r) (are_compared types (type_in types f (whole it.first)) (type_in types f (whole it.last))) e
                (ap (λ (u : Ty). are_compared types u (type_in types f (whole it.last))) h.0.typed ∙ ap (are_compared types I) h.1.typed ∙ alike);
          };
        })

    abbrev w : Gives ℕ
    w = computed None ty.Bool colon (λ r. Same r (whole it.first) (whole it.last) false) (with_code [] s)

    pub goes_on_tests : {ends : Place} → TestsUnder types texts fs f More (Some ends) s (goes_on colon it s)
    goes_on_tests = record {
      grown = differ_part.grown;
      level = λ told. refl;
      registers = differ_part.registers;
      unwritten = refl;
      runs = λ b. subst (λ (c : List Tree). AsksUnder types texts fs f More s w.state (Then (trees c) (Asks colon (NonZero w.given)))) (sym differ_part.written) (all b);
    }
      where
        all : Begins types f w.state → AsksUnder types texts fs f More s w.state (Then (trees differ_part.code) (Asks colon (NonZero w.given)))
        all b = record {
          fine = fine_behind types texts fs f differ_part.code (Asks colon (NonZero w.given)) r.fine (fine_asks types texts fs f colon (NonZero w.given) (number_any types f ty.Bool w.given r.typed));
          goes = λ k alive m. let g = r.goes k alive (both_held (length s.locals) first last k m) in record {
            on = g.after;
            off = g.after;
            decides = decides_behind types f differ_part.code (Asks colon (NonZero w.given)) k g.after g.after g.after g.falls
                (decides_asks types f colon (NonZero w.given) g.after (uses_ready g.after (w.given ∷ []) [] (one_there g.after w.given g.gives.1)));
            keeps_on = g.keeps;
            keeps_off = g.keeps;
            alive_on = g.alive;
            alive_off = g.alive;
            apart = trees_apart f s w.state w.state (trees differ_part.code) (Asks colon (NonZero w.given)) g.apart (same_apart f w.state w.state refl refl refl);
            bears = bears_then f s w.state (trees differ_part.code) (Asks colon (NonZero w.given)) differ_part.grown g.bears (λ x object none. absurd none);
          };
        }
          where
            r : Runs types texts fs f (iterators types texts fs f id constant) it None (with_code [] s) w (a_number types texts fs f ty.Bool) differ_part.code
            r = differ_part.runs b (hidden (begins_before types f s w.state differ_part.grown b))

  -- ---- the step

  module _ (a : Around) (v : Visible) (in_loop : Bool) (colon : Place) (s : State) (h : Follows types f a v s) (first : it.first < length s.locals) (last : it.last < length s.locals) (hidden : Begins types f s → AreIterators types texts fs f id constant it) where
    abbrev number : Gives ℕ
    number = computed None ty.Int colon (registers.constant (pos 1)) s

    -- it is moved by 1, which leaves what is known of it
    next_part : Part types texts fs f (iterators types texts fs f id constant) it None s (gives tt (next colon it s)) (no_gift types texts fs f)
    next_part =
        let P = iterators types texts fs f id constant in
        let N = a_number types texts fs f ty.Int in
        let one : Makes types texts fs f None s number N = constant_part types texts fs f None ty.Int colon (pos 1) s refl tt in
        then_part types texts fs f P it None s (gives (it, number.given) number.state) (gives tt (next colon it s)) (both types texts fs f P N) (no_gift types texts fs f) h.stands.opened
        (and_part types texts fs f P it s (gives it s) number P N h.stands.opened (gives_part types texts fs f P it None it s P (λ b p. p) (λ b k alive q. q)) one)
        (acted_part types texts fs f (both types texts fs f P N) (it, number.given) colon (Advance (whole it.first) (whole it.first) number.given Forward) number.state
        (λ p. record {
          given = refl;
          formed =
              and_from (is_iterator (type_in types f (whole it.first))) _ (ap is_iterator p.0.0.typed)
              (and_from (takes types (type_in types f (whole it.first)) (type_in types f (whole it.first))) (is_number types f number.given)
              (ap (λ (u : Ty). takes types u (type_in types f (whole it.first))) p.0.0.typed ∙ ap (takes types I) p.0.0.typed
              ∙ and_from (same (ty_of types id) (ty_of types id)) (keeps_const constant constant) alike (keeps_itself constant))
              (number_any types f ty.Int number.given p.1));
        })
        (λ n k q. uses_ready k (it.first ∷ number.given ∷ []) (it.first ∷ []) (two_there k it.first number.given q.0.0.1 q.1.1))
        (λ n m k q. record { sized = set_length k it.first known.Ready; below = λ y lt beside. set_same k it.first known.Ready y q.0.0.1 }))

    pub next_does : DoesLevelUnder types texts fs f More a v in_loop s (next colon it s)
    next_does =
        level_more types texts fs f More ((iterators types texts fs f id constant).ready it (length s.locals)) (λ k m. both_held (length s.locals) first last k m) a v in_loop s (next colon it s)
        (part_under types texts fs f (iterators types texts fs f id constant) it (no_gift types texts fs f) a v in_loop s (gives tt (next colon it s)) h refl next_part (λ b. hidden (begins_before types f s (next colon it s) next_part.grown b))
        (λ b living k knows.
        let are = hidden (begins_before types f s (next colon it s) next_part.grown b) in
        let j = (hidden_stay f it.first it.last types are.0.is are.1.is).some living k knows in
        (j.0, j.1, both_held (length s.locals) first last j.0 j.2)))
