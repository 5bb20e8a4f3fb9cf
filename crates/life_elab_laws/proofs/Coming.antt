-- What brings an owner to life behind what was found for it: it comes to life by itself, and then it is filled, or it is the result of a call, to which owners may be given over.
use Rattle.std.proofs.Common.{◌≡◌, ◌<◌, ◌≤◌, inl, inr, ℕ, true, false, List, [], ◌∷◌, ◌++◌, length, slice_set, None, refl, ap, ◌∙◌, subst, arith, append_assoc, length-append}
use Rattle.life_types.specs.Types.{Types}
use Rattle.life_types.specs.declared.place.Place.{Place}
use Rattle.life_types.specs.declared.ty.Ty.{Ty}
use Rattle.life_core.specs.Function.{Function}
use Rattle.life_core.specs.Operands.{Operand, object_named}
use Rattle.life_core.specs.Step.{Live, Step}
use Rattle.life_core.specs.Tree.{Acts, Tree, trees}
use Rattle.life_core.specs.declared.instr.Form.{Form}
use Rattle.life_core.specs.declared.instr.Form.TheVariants.{Plain}
use Rattle.life_core.specs.declared.program.LocalKind.TheVariants.{Object}
use Rattle.life_proper.specs.GivenOver.{given_spot}
use Rattle.life_proper.specs.Knowing.{known_at}
use Rattle.life_proper.specs.ReadyKnown.{set_known}
use Rattle.life_proper.specs.WellFormed.{can_live}
use Rattle.life_proper.specs.declared.known.Known.{Known}
use Rattle.life_proper.specs.declared.known.Known.TheVariants as known
use Rattle.life_writer.specs.Registers.{type_number, typed_with}
use Rattle.life_writer.specs.Temporaries.{nameless_of}
use Rattle.life_writer.specs.Writing.{Gives, State, gives, with_code}
use Rattle.life_elab_laws.proofs.Among.{Among, among_either, among_left, among_right}
use Rattle.life_elab_laws.proofs.BornLocals.{born_of, codes_bear}
use Rattle.life_elab_laws.proofs.Emitting.{keeps_set}
use Rattle.life_elab_laws.proofs.Falling.{Falls, falls_append, falls_filling}
use Rattle.life_elab_laws.proofs.Gifts.{Gift, IsPlaceOf, a_place, both, nothing}
use Rattle.life_elab_laws.proofs.GivenApart.{AreApart, given_of, one_pending, parts_of, then_opens}
use Rattle.life_elab_laws.proofs.LookedLocals.{looked_of, looked_spot}
use Rattle.life_elab_laws.proofs.Growing.{Begins, begins_before, grows_then}
use Rattle.life_elab_laws.proofs.Handing.{GoesHanding, HandingAlone, RunsHanding, fewer_apart, handing_none}
use Rattle.life_elab_laws.proofs.Knowledge.{at_set}
use Rattle.life_elab_laws.proofs.Making.{IsOpen, keeps_then}
use Rattle.life_elab_laws.proofs.OrderedTypes.{HasPartsIn}
use Rattle.life_elab_laws.proofs.Parts.{Goes, Makes}
use Rattle.life_elab_laws.proofs.PendingTemporaries.{ArePending}
use Rattle.life_elab_laws.proofs.Saving.{live_fills}
use Rattle.life_elab_laws.proofs.Shaping.{IsFine, fine_acts, fine_append}
use Rattle.life_elab_laws.proofs.TemporaryBirths.{begun, born_alive, born_blank, born_grows, born_lives, born_place, born_registers, born_within}
use Rattle.life_elab_laws.proofs.WrittenLocals.{FitsTemporary, registers_then}

module _ (types : Types) (texts : ℕ) (fs : List Function) (f : Function) where
  module _ {A : Type 0} (over : List ℕ) (s : State) (found : Gives A) (Q : Gift types texts fs f A) (hands : HandingAlone types texts fs f over s found Q) where
    -- the instructions that do it, told where the owner goes
    pub record Comes (t : Ty) : Type 0 where
      pub code : Place → ℕ → List Tree
      pub fine : Q.typed found.given → (place : Place) (x : ℕ) → can_live types texts fs f x ≡ true → IsPlaceOf types texts fs f t false (object_named x) → IsFine types texts fs f (code place x)
      -- what is given over is there before it, and gone behind it
      pub falls : RunsHanding types texts fs f (nothing types texts fs f) tt over s found Q hands.code → (place : Place) (x : ℕ) (k : List Known) → Q.ready found.given (length found.state.locals) k
          → ((y : ℕ) → Among y over → known_at k y ≡ known.Blank) → known_at k x ≡ known.Blank → (Among x over → ⊥) → Falls types f (code place x) (set_known known.Ready over k) (slice_set k x known.Ready)
      pub named : (place : Place) (x y : ℕ) → Among y (given_of (trees (code place x))) → Among y over
      pub looks : (place : Place) (x : ℕ) (k : List Known) → Q.ready found.given (length found.state.locals) k → looked_of (trees (code place x)) ≡ []
      pub births : (place : Place) (x y : ℕ) → Among y (born_of f (trees (code place x))) → x ≡ y

    module _ (t : Ty) (is : Comes t) (place : Place) (x : ℕ) where
      abbrev comes : List Tree
      comes = is.code place x

      -- what is looked at and given over, in all
      pub comes_apart : (r : State) (k : List Known) → Q.ready found.given (length found.state.locals) k → AreApart f s r (looked_of (trees hands.code)) (given_of (trees hands.code) ++ over)
          → AreApart f s r (looked_of (trees (hands.code ++ comes))) (given_of (trees (hands.code ++ comes)))
      comes_apart r k q h =
          fewer_apart types texts fs f s r (looked_of (trees hands.code)) (given_of (trees hands.code) ++ over) (looked_of (trees (hands.code ++ comes))) (given_of (trees (hands.code ++ comes)))
          (λ y m. elim (among_either (looked_of (trees hands.code)) (looked_of (trees comes)) y (subst (Among y) (parts_of looked_spot hands.code comes) m)) [
            | inl l ↦ l
            | inr l ↦ absurd (subst (Among y) (is.looks place x k q) l)
          ])
          (λ y m. elim (among_either (given_of (trees hands.code)) (given_of (trees comes)) y (subst (Among y) (parts_of given_spot hands.code comes) m)) [
            | inl l ↦ among_left (given_of (trees hands.code)) over y l
            | inr l ↦ among_right (given_of (trees hands.code)) over y (is.named place x y l)
          ])
          h

      -- its way, behind what was found
      pub comes_falls : (r : RunsHanding types texts fs f (nothing types texts fs f) tt over s found Q hands.code) (k : List Known) (q : GoesHanding types texts fs f over s found Q hands.code k) → known_at q.after x ≡ known.Blank
          → length found.state.locals ≤ x → Falls types f (hands.code ++ comes) k (slice_set q.after x known.Ready)
      comes_falls r k q blank new =
          falls_append types f hands.code comes k (set_known known.Ready over q.after) (slice_set q.after x known.Ready) q.falls
          (is.falls r place x q.after q.gives q.blank blank (λ m. let lt = hands.below x m in omega (arith, lt, new)))

  -- ---- by itself

  abbrev pub lived_comes : {A : Type 0} (s : State) (found : Gives A) (Q : Gift types texts fs f A) (part : Makes types texts fs f None s found Q) (form : Form) (t : Ty)
      → Comes [] s found Q (handing_none types texts fs f (nothing types texts fs f) tt s found Q part) t
  lived_comes s found Q part form t = record {
    code = λ place x. Acts place (Live x form) ∷ [];
    fine = λ q place x can is. fine_acts types texts fs f place (Live x form) (record { given = refl; formed = can });
    falls = λ r place x k q none blank aside. falls_filling types f place (Live x form) x k (live_fills types f x form k blank);
    named = λ place x y m. absurd m;
    looks = λ place x k q. refl;
    births = λ place x y m. elim m [ inl e ↦ e | inr none ↦ absurd none ];
  }

  -- ---- as a temporary, which is pending from there on

  module _ {A : Type 0} (over : List ℕ) (s : State) (found : Gives A) (Q : Gift types texts fs f A) (hands : HandingAlone types texts fs f over s found Q) (t : Ty) (is : Comes over s found Q hands t) (place : Place)
      (fits : FitsTemporary types t) (opened : IsOpen found.state) (low : ℕ) (before : ArePending low found.state) (within : HasPartsIn found.state.types t) where
    abbrev w : State
    w = found.state

    abbrev x : ℕ
    x = length w.locals

    -- whichever instructions they are, it is born as by its own
    abbrev lives : ℕ → Step
    lives y = Live y Plain

    abbrev pub came : Gives Operand
    came = let b = begun types texts fs f place lives t w fits opened low before within in gives (object_named x) (with_code (b.code ++ is.code place x) b)

    abbrev comes_here : List Tree
    comes_here = is.code place x

    more : x < length came.state.locals
    more = omega (arith, length-append w.locals (nameless_of Object place (type_number t (typed_with t w)) ∷ []))

    goes_on : (b : Begins types f came.state) (r : RunsHanding types texts fs f (nothing types texts fs f) tt over s found Q hands.code) (k : List Known) → GoesHanding types texts fs f over s found Q hands.code k
        → Goes types texts fs f None s (gives (found.given, object_named x) came.state) (both types texts fs f Q (a_place types texts fs f t false)) (hands.code ++ comes_here) k
    goes_on b r k q =
        let j : List Known = slice_set q.after x known.Ready in
        record {
          after = j;
          falls = comes_falls over s found Q hands t is place x r k q (born_blank types texts fs f place lives t w fits opened low before within b q.after q.alive) (omega arith);
          keeps = keeps_then f (length s.locals) (length w.locals) None k q.after j hands.grown.count q.keeps (keeps_set f (length w.locals) None x known.Ready q.after (λ y lt beside e. omega (arith, lt, e)));
          gives = (
            Q.stays found.given x (length came.state.locals) q.after j (omega (arith, more)) q.gives (keeps_set f x None x known.Ready q.after (λ y lt beside e. omega (arith, lt, e))),
            record { local = x; uses = refl; below = more; held = at_set q.after x known.Ready (born_within types texts fs f place lives t w fits opened low before within b q.after q.alive) },
          );
          alive = born_alive types texts fs f place lives t w fits opened low before within b q.after q.alive;
          apart = λ under.
              comes_apart over s found Q hands t is place x came.state q.after q.gives
              (then_opens f s w came.state (looked_of (trees hands.code)) (given_of (trees hands.code) ++ over) (born_grows types texts fs f place lives t w fits opened low before within).count
              (λ y o. one_pending x (length came.state.locals) w.living w.pending y more o) under (q.apart under));
          bears = codes_bear f s w hands.code comes_here hands.grown q.bears (λ y object m. inr (let e = is.births place x y m in omega (arith, e)));
        }

    pub came_part : Makes types texts fs f None s (gives (found.given, object_named x) came.state) (both types texts fs f Q (a_place types texts fs f t false))
    came_part = record {
      grown = grows_then s w came.state hands.grown (born_grows types texts fs f place lives t w fits opened low before within);
      registers = registers_then types s w came.state (born_grows types texts fs f place lives t w fits opened low before within).types hands.registers (born_registers types texts fs f place lives t w fits opened low before within);
      code = hands.code ++ comes_here;
      written = ap (λ (c : List Tree). c ++ comes_here) hands.written ∙ append_assoc s.code hands.code comes_here;
      runs = λ b p. let r = hands.runs (begins_before types f w came.state (born_grows types texts fs f place lives t w fits opened low before within) b) tt in record {
        fine =
            fine_append types texts fs f hands.code comes_here r.fine
            (is.fine r.typed place x (born_lives types texts fs f place lives t w fits opened low before within b) (born_place types texts fs f place lives t w fits opened low before within b));
        typed = (r.typed, born_place types texts fs f place lives t w fits opened low before within b);
        goes = λ k alive q. goes_on b r k (r.goes k alive tt);
      };
    }
