-- What is given over first, and is taken by an instruction on a place that is found behind it.
use Rattle.std.proofs.Common.{◌≡◌, arith, inl, refl, ℕ, true, List, [], ◌∷◌, ◌++◌, length, None, sym, ap, ◌∙◌, subst, append_assoc, append-nil}
use Rattle.life_types.specs.Types.{Types}
use Rattle.life_types.specs.declared.place.Place.{Place}
use Rattle.life_core.specs.Function.{Function}
use Rattle.life_core.specs.Kinds.{is_object_at}
use Rattle.life_core.specs.Step.{Step}
use Rattle.life_core.specs.Touched.{Touched, nothing as no_locals, touched_by}
use Rattle.life_core.specs.Tree.{Acts, Tree, trees}
use Rattle.life_proper.specs.GivenOver.{given_spot}
use Rattle.life_proper.specs.ReadyKnown.{are_known, are_ready, can_leave, known_after, set_known}
use Rattle.life_proper.specs.WellFormed.{is_well_formed_step}
use Rattle.life_proper.specs.declared.known.Known.{Known}
use Rattle.life_proper.specs.declared.known.Known.TheVariants as known
use Rattle.life_proper.proofs.ReadyTests.{all_ready}
use Rattle.life_writer.specs.Writing.{Gives, State, emit, gives}
use Rattle.life_elab_laws.proofs.Among.{Among, ascend_apart}
use Rattle.life_elab_laws.proofs.BornLocals.{born_of, codes_bear}
use Rattle.life_elab_laws.proofs.Falling.{Falls, falls_acts, falls_append}
use Rattle.life_elab_laws.proofs.Gifts.{Gift, nothing as no_gift}
use Rattle.life_elab_laws.proofs.GivenApart.{AreApart, IsBelow, given_of, parts_of}
use Rattle.life_elab_laws.proofs.Handing.{GoesHanding, HandingAlone, RunsHanding}
use Rattle.life_elab_laws.proofs.LookedLocals.{looked_of, looked_spot}
use Rattle.life_elab_laws.proofs.Parts.{Makes, Runs}
use Rattle.life_elab_laws.proofs.Shaping.{fine_append, fine_gives}
use Rattle.life_elab_laws.proofs.TakenOwners.{Takes}
use Rattle.life_elab_laws.proofs.UnseenLocals.{all_leave, used_there}

module _ (types : Types) (texts : ℕ) (fs : List Function) (f : Function) {B : Type 0} (x : ℕ) (s : State) (w : Gives B) (Q : Gift types texts fs f B) (over : HandingAlone types texts fs f (x ∷ []) s w Q)
    (uses : List ℕ) (step : Step) (at : Place) (takes : Takes f uses x step) (formed : Q.typed w.given → is_object_at f x ≡ true → is_well_formed_step types texts fs f step ≡ true)
    (ready : (n : ℕ) (k : List Known) → Q.ready w.given n k → are_known known.Ready k uses ≡ true) where
  abbrev G : Gift types texts fs f (Unit {0})
  G = no_gift types texts fs f

  abbrev does : List Tree
  does = Acts at step ∷ []

  abbrev code : List Tree
  code = over.code ++ does

  abbrev done : State
  done = emit at step w.state

  -- in the finished function
  module _ (r : RunsHanding types texts fs f G tt (x ∷ []) s w Q over.code) where
    object : is_object_at f x ≡ true
    object = r.objects x (inl refl)

    touches : touched_by f step ≡ record no_locals { uses = uses; leaves = x ∷ [] }
    touches = takes.touches object

    none_born : born_of f (trees does) ≡ []
    none_born = ap (λ (u : Touched). (u.births ++ u.writes) ++ []) touches

    -- on a way
    module _ (k : List Known) (g : GoesHanding types texts fs f (x ∷ []) s w Q over.code k) where
      -- with it
      abbrev j : List Known
      j = set_known known.Ready (x ∷ []) g.after

      leaves : (can_leave j (x ∷ []) ≡ true) × (set_known known.Blank (x ∷ []) j ≡ g.after)
      leaves = all_leave (x ∷ []) (ascend_apart 0 (x ∷ []) (omega arith, tt)) g.after g.blank

      there : are_known known.Ready j uses ≡ true
      there = used_there (x ∷ []) (ascend_apart 0 (x ∷ []) (omega arith, tt)) g.after g.blank uses (ready (length w.state.locals) g.after g.gives)

      is_ready : are_ready j (touched_by f step) ≡ true
      is_ready = ap (are_ready j) touches ∙ all_ready j (record no_locals { uses = uses; leaves = x ∷ [] }) there leaves.0 refl

      behind : known_after (touched_by f step) j ≡ g.after
      behind = ap (λ (u : Touched). known_after u j) touches ∙ leaves.1

      falls : Falls types f code k g.after
      falls = falls_append types f over.code does k j g.after g.falls (subst (Falls types f does j) behind (falls_acts types f at step j is_ready))

      apart : IsBelow s → AreApart f s done (looked_of (trees code)) (given_of (trees code))
      apart below =
          subst (λ (xs : List ℕ). AreApart f s done xs (given_of (trees code)))
          (sym (parts_of looked_spot over.code does ∙ ap (λ (xs : List ℕ). looked_of (trees over.code) ++ (xs ++ [])) takes.looks ∙ append-nil (looked_of (trees over.code))))
          (subst (AreApart f s done (looked_of (trees over.code))) (sym (parts_of given_spot over.code does ∙ ap (λ (xs : List ℕ). given_of (trees over.code) ++ (xs ++ [])) takes.gives)) (g.apart below))

    runs : Runs types texts fs f G tt None s (gives tt done) G code
    runs = record {
      fine = fine_append types texts fs f over.code does r.fine (fine_gives types texts fs f at step takes.keeps (formed r.typed object));
      typed = tt;
      goes = λ k alive q. let g = r.goes k alive tt in record {
        after = g.after;
        falls = falls k g;
        keeps = g.keeps;
        gives = tt;
        alive = g.alive;
        apart = apart k g;
        bears = codes_bear f s w.state over.code does over.grown g.bears (λ y is_object m. absurd (subst (Among y) none_born m));
      };
    }

  pub taken_behind : Makes types texts fs f None s (gives tt done) G
  taken_behind = record {
    grown = over.grown;
    registers = over.registers;
    code = code;
    written = ap (λ (c : List Tree). c ++ does) over.written ∙ append_assoc s.code over.code does;
    runs = λ b p. runs (over.runs b tt);
  }
