-- A variable that comes to life, and is then built by as many instructions as that takes, behind what they use.
use Rattle.std.proofs.Common.{◌≡◌, ◌<◌, ◌⊎◌, inl, inr, ℕ, Bool, true, false, List, [], ◌∷◌, ◌++◌, Contains, drop, length, reverse, slice_get, slice_set, take, Some, None, refl, sym, ap, ◌∙◌, subst, arith, append_assoc, length-append}
use Rattle.std.proofs.lemmas.List.Elements.{Contains-append_left, Contains-push_cases}
use Rattle.std.proofs.lemmas.Option.{slice_get_within}
use Rattle.life_elab_laws.proofs.ObjectTypes.{is_admitted_variable}
use Rattle.life_types.specs.Types.{Types}
use Rattle.life_types.specs.declared.place.Place.{Place}
use Rattle.life_types.specs.declared.ty.Ty.{Ty}
use Rattle.life_typed.specs.declared.typed_program.TypedLocal.{TypedLocal}
use Rattle.life_core.specs.Function.{Function}
use Rattle.life_core.specs.Operands.{object_named}
use Rattle.life_core.specs.Tree.{Tree, trees}
use Rattle.life_core.specs.declared.program.Local.{Local}
use Rattle.life_proper.specs.Checking.{flow}
use Rattle.life_proper.specs.Knowing.{known_at}
use Rattle.life_proper.specs.ReadyKnown.{can_leave, set_known}
use Rattle.life_proper.specs.WellFormed.{can_live}
use Rattle.life_proper.specs.declared.known.Known.{Known}
use Rattle.life_proper.specs.declared.known.Known.TheVariants as known
use Rattle.life_well_typed.specs.Visible.{Visible, with_next}
use Rattle.life_writer.specs.Around.{Around, result_local}
use Rattle.life_writer.specs.Variables.{end_pending, variable_local}
use Rattle.life_writer.specs.Writing.{Gives, State, emit, gives, with_code}
use Rattle.life_elab_laws.proofs.Among.{Among, all_among, among_contains, among_left, among_or, among_right, among_take, apart_reverse, ascend_apart, ascend_drop}
use Rattle.life_elab_laws.proofs.Declaring.{adds_new, follows_new, its_local, new_none, with_new}
use Rattle.life_elab_laws.proofs.Doing.{Acting, Does}
use Rattle.life_elab_laws.proofs.Emitting.{keeps_set}
use Rattle.life_elab_laws.proofs.EndSteps.{IsEnded, ended, ends_here}
use Rattle.life_elab_laws.proofs.Ending.{blank_beside, blank_in, blank_length, ends_there, set_blank}
use Rattle.life_elab_laws.proofs.Exits.{Knows, Leaves, leaves_falling, leaves_may}
use Rattle.life_elab_laws.proofs.Falling.{Falls, falls_append}
use Rattle.life_elab_laws.proofs.Following.{Adds, Follows, adds_settled, adds_then, follows_again, follows_settled, knows_alive, settled, take_itself}
use Rattle.life_elab_laws.proofs.Fronts.{IsFront, front_append, front_itself, front_then, last_there}
use Rattle.life_elab_laws.proofs.Gifts.{Gift, IsPlaceOf, a_place, both, nothing}
use Rattle.life_elab_laws.proofs.GivingBack.{fine_known}
use Rattle.life_elab_laws.proofs.GivenApart.{Apart, codes_apart, AreApart}
use Rattle.life_elab_laws.proofs.Growing.{Begins, begins_before}
use Rattle.life_elab_laws.proofs.Knowledge.{at_set, beside_set, set_length}
use Rattle.life_elab_laws.proofs.Making.{Alive, IsOpen, opened_later}
use Rattle.life_elab_laws.proofs.OrderedTypes.{order_then}
use Rattle.life_elab_laws.proofs.Parts.{Goes, Part, Runs, Makes}
use Rattle.life_elab_laws.proofs.PendingEnds.{ends_pending, none_kept, pending_ends}
use Rattle.life_elab_laws.proofs.PendingTemporaries.{ArePending, temporary_later}
use Rattle.life_elab_laws.proofs.Setting.{Setting}
use Rattle.life_elab_laws.proofs.Shaped.{is_passing, named_lasts}
use Rattle.life_elab_laws.proofs.Shaping.{IsFine, fine_append}
use Rattle.life_elab_laws.proofs.SomeKnown.{some_known, some_knows}
use Rattle.life_elab_laws.proofs.TemporaryEnds.{temporary_ends}
use Rattle.life_elab_laws.proofs.VariablePlaces.{Stands}
use Rattle.life_elab_laws.proofs.WrittenLocals.{locals_added, own_added}
use Rattle.life_elab_laws.proofs.Coming.{Comes, lived_comes}
use Rattle.life_elab_laws.proofs.Handing.{GoesHanding, HandingAlone, RunsHanding, handed_apart, handing_none}
use Rattle.life_core.specs.Step.{Live}
use Rattle.life_core.specs.declared.instr.Form.{Form}
use Rattle.life_elab_laws.proofs.OwnLocals.{first_own}

module _ (a : Around) (types : Types) (texts : ℕ) (fs : List Function) (f : Function) (setting : Setting a types fs f) (v : Visible) (in_loop : Bool) (last : Place)
    (u : TypedLocal) (s : State) (h : Follows types f a v s) (at : slice_get a.function.locals v.declared ≡ Some u) (built : is_admitted_variable a.program.types u.ty ≡ true) where
  module _ {A : Type 0} (handed : List ℕ) (w : Gives A) (Q : Gift types texts fs f A) (made : HandingAlone types texts fs f handed s w Q) (t : Ty) (come : Comes types texts fs f handed s w Q made t) where
    -- its number, its local, and where it has come to life
    abbrev x : ℕ
    x = length w.state.locals

    abbrev l : Local
    l = variable_local a u

    abbrev pub begun : State
    begun = with_code (w.state.code ++ come.code u.place x) (with_new l w.state)

    -- what stands there, and what makes that of it
    module _ (act : State → State) (lives : Begins types f begun → can_live types texts fs f x ≡ true) (is_place : Begins types f begun → IsPlaceOf types texts fs f t false (object_named x))
        (builds : Stands a v.visible begun → Part types texts fs f (both types texts fs f Q (a_place types texts fs f t false)) (w.given, object_named x) None begun (gives tt (act begun)) (nothing types texts fs f)) where
      -- without its temporaries
      abbrev there : State
      there = settled types f s w.state

      new : Follows types f a (with_next v) (with_new l there)
      new = follows_new types f a setting.front v u l (its_local a u) there (follows_settled types f a v s w.state made.grown h) at built

      -- ---- what is pending

      before : ArePending (first_own a) w.state
      before = made.grown.pends _ h.stands.pends

      below : (y : ℕ) → Among y w.state.pending → y < x
      below y m = let is = before.each y m in slice_get_within w.state.locals y is.local is.there

      begun_pends : ArePending (first_own a) begun
      begun_pends = record {
        past = omega (arith, before.past, length-append w.state.locals (l ∷ []));
        ascend = before.ascend;
        each = λ y m. temporary_later _ w.state.locals begun.locals w.state.types.types w.state.types.types y (front_append w.state.locals (l ∷ [])) (front_itself w.state.types.types) (before.each y m);
        beside = λ y m c. elim (Contains-push_cases w.state.living x y c) [ inl old ↦ before.beside y m old | inr e ↦ let lt = below y m in omega (arith, e, lt) ];
      }

      part : Part types texts fs f (both types texts fs f Q (a_place types texts fs f t false)) (w.given, object_named x) None begun (gives tt (act begun)) (nothing types texts fs f)
      part = builds (record {
        table = new.stands.table;
        opened = new.stands.opened;
        pends = begun_pends;
        seen = λ y z c found.
            let at = new.stands.seen y z (Contains-append_left v.visible (v.declared ∷ []) y c) found in
            record { local = at.local; there = at.there; typed = at.typed; kind = at.kind; named = at.named; lives = at.lives };
        apart = λ y n z w c found d there. new.stands.apart y n z w (Contains-append_left v.visible (v.declared ∷ []) y c) found (Contains-append_left v.visible (v.declared ∷ []) n d) there;
      })

      abbrev done : State
      done = act begun

      pends : ArePending (first_own a) done
      pends = part.grown.pends _ begun_pends

      -- nothing was before
      abbrev n : ℕ
      n = length s.pending

      abbrev over : List ℕ
      over = reverse (drop n done.pending)

      -- ---- where they have ended

      e : IsEnded types texts fs f over last done
      e = ended types texts fs f over last done

      abbrev finished : State
      finished = record done { code = done.code ++ e.code; pending = take n done.pending }

      finished_is : end_pending n last done ≡ finished
      finished_is = ap (λ (r : State). record r { pending = take n done.pending }) e.written

      abbrev comes : List Tree
      comes = come.code u.place x

      abbrev whole : List Tree
      whole = made.code ++ (comes ++ (part.code ++ e.code))

      same_variables : IsFront begun.variables done.variables
      same_variables = subst (IsFront begun.variables) (sym part.grown.variables) (front_itself begun.variables)

      same_pending : take n done.pending ≡ take n w.state.pending
      same_pending = none_kept s.pending done.pending h.pending ∙ sym (none_kept s.pending w.state.pending h.pending)

      adds : Adds types f s finished
      adds =
          adds_then types f s (with_new l there) finished
          (adds_then types f s there (with_new l there) (adds_settled types f s w.state made.grown) (adds_new types f a setting.front v u l (its_local a u) there (follows_settled types f a v s w.state made.grown h) at built))
          (record {
            locals = part.grown.locals;
            table = part.grown.types;
            variables = same_variables;
            living = ap (take (length begun.living)) part.grown.living ∙ take_itself begun.living;
            pending = same_pending;
            outside = part.grown.outside;
          })

      follows : Follows types f a (with_next v) finished
      follows =
          follows_again types f a (with_next v) (with_new l there) finished (with_next v).declared new part.grown.locals part.grown.types same_variables part.grown.living same_pending
          (omega (arith, part.grown.outside, ap length part.grown.living, new.outside)) (ap length part.grown.variables ∙ new.count) (omega arith)

      -- ---- in the finished function

      module _ (b : Begins types f done) where
        begins : Begins types f begun
        begins = begins_before types f begun done part.grown b

        it : slice_get f.locals x ≡ Some l
        it = begins.locals x l (last_there w.state.locals l)

        before_begun : Begins types f w.state
        before_begun = record { locals = front_then w.state.locals begun.locals f.locals (front_append w.state.locals (l ∷ [])) begins.locals; table = begins.table }

        first : RunsHanding types texts fs f (nothing types texts fs f) tt handed s w Q made.code
        first = made.runs before_begun tt

        second : Runs types texts fs f (both types texts fs f Q (a_place types texts fs f t false)) (w.given, object_named x) None begun (gives tt done) (nothing types texts fs f) part.code
        second = part.runs b (first.typed, is_place begins)

        ends_fine : IsFine types texts fs f e.code
        ends_fine =
            e.fine (all_among (ends_here types texts fs f) over (λ y m. temporary_ends types texts fs f (first_own a) setting.own y (temporary_later _ done.locals f.locals done.types.types types.types y b.locals b.table (pends.each y (ends_pending s.pending done.pending y m)))))

        all_fine : IsFine types texts fs f whole
        all_fine =
            fine_append types texts fs f made.code (comes ++ (part.code ++ e.code)) first.fine
            (fine_append types texts fs f comes (part.code ++ e.code)
            (come.fine first.typed u.place x (lives begins) (is_place begins))
            (fine_append types texts fs f part.code e.code second.fine ends_fine))

        -- ---- on a way

        module _ (k : List Known) (knows : Knows f s.living k) where
          g : GoesHanding types texts fs f handed s w Q made.code k
          g = first.goes k (knows_alive types f a v s h k knows) tt

          lt : x < length g.after
          lt = omega (arith, g.alive.sized, slice_get_within f.locals x l it)

          opened : IsOpen w.state
          opened = opened_later s w.state made.grown h.stands.opened

          blank : known_at g.after x ≡ known.Blank
          blank =
              g.alive.blank x l it (named_lasts l u.name refl) (λ m. let far = opened x (among_contains w.state.living x m) in omega (arith, far))
              (λ m. let far = below x m in omega (arith, far))

          -- it has come to life
          abbrev j : List Known
          j = slice_set g.after x known.Ready

          alive : Alive f begun j
          alive = record {
            sized = set_length g.after x known.Ready ∙ g.alive.sized;
            living = λ y c. lived y (Contains-push_cases w.state.living x y c);
            pending = λ y m. beside_set g.after x y known.Ready (λ e. let far = below y m in omega (arith, e, far)) ∙ g.alive.pending y m;
            blank = λ y z there lasts out no.
                beside_set g.after x y known.Ready (λ e. out (among_right w.state.living (x ∷ []) y (inl e)))
                ∙ g.alive.blank y z there lasts (λ m. out (among_left w.state.living (x ∷ []) y m)) no;
          }
            where
              lived : (y : ℕ) → Contains w.state.living y ⊎ (x ≡ y) → known_at j y ≡ known.Ready
              lived y (inl old) = beside_set g.after x y known.Ready (λ e. let far = opened y old in omega (arith, e, far)) ∙ g.alive.living y old
              lived y (inr e) = subst (λ (z : ℕ). known_at j z ≡ known.Ready) e (at_set g.after x known.Ready lt)

          r : Goes types texts fs f None begun (gives tt done) (nothing types texts fs f) part.code j
          r =
              second.goes j alive (
                Q.stays w.given x (length begun.locals) g.after j (omega (arith, length-append w.state.locals (l ∷ []))) g.gives (keeps_set f x None x known.Ready g.after (λ y small b e. omega (arith, small, e))),
                record { local = x; uses = refl; below = omega (arith, length-append w.state.locals (l ∷ [])); held = at_set g.after x known.Ready lt },
              )

          abbrev final : List Known
          final = set_blank over r.after

          ready : can_leave r.after over ≡ true
          ready = ends_there over r.after (apart_reverse (drop n done.pending) (ascend_apart 0 (drop n done.pending) (ascend_drop n 0 done.pending pends.ascend))) (λ y m. r.alive.pending y (ends_pending s.pending done.pending y m))

          falls : Falls types f whole k final
          falls =
              falls_append types f made.code (comes ++ (part.code ++ e.code)) k (set_known known.Ready handed g.after) final g.falls
              (falls_append types f comes (part.code ++ e.code) (set_known known.Ready handed g.after) j final
              (come.falls first u.place x g.after g.gives g.blank blank (λ m. let far = made.below x m in omega (arith, far)))
              (falls_append types f part.code e.code j r.after final r.falls (e.falls r.after ready)))

          known_there : Knows f done.living final
          known_there = record {
            sized = blank_length over r.after ∙ r.alive.sized;
            alive = λ y m.
                let c = among_contains done.living y m in
                blank_beside over r.after y (λ p. pends.beside y (ends_pending s.pending done.pending y p) c) ∙ r.alive.living y c;
            blank = gone;
          }
            where
              gone : (y : ℕ) (z : Local) → slice_get f.locals y ≡ Some z → is_passing z ≡ false → (Among y done.living → ⊥) → known_at final y ≡ known.Blank
              gone y z there lasts out = elim (among_or y over) [
                | inl m ↦ blank_in over r.after y (omega (arith, r.alive.sized, slice_get_within f.locals y z there)) m
                | inr none ↦ blank_beside over r.after y none ∙ r.alive.blank y z there lasts out (λ m. none (pending_ends s.pending done.pending h.pending y m))
              ]

          all_apart : Apart f s finished (trees whole)
          all_apart under =
              handed_apart types texts fs f handed [] s w.state begun finished made.code comes (part.code ++ e.code) under (λ y m. inr (come.named u.place x y m)) (g.apart under)
              (λ low. subst (λ (xs : List ℕ). AreApart f w.state begun xs []) (sym (come.looks u.place x g.after g.gives)) (new_none f l w.state low))
              (codes_apart f begun done finished part.code e.code r.apart
              (e.apart done finished (omega arith) (λ y o. elim o [ inl m ↦ inl (inl m) | inr m ↦ inl (inr (among_take n done.pending y m)) ])))

        first_begins : Begins types f s
        first_begins = begins_before types f s w.state made.grown before_begun

        acting : Acting types texts fs f in_loop s finished whole
        acting = record {
          stated = all_fine.stated in_loop;
          ways = leaves_may types f in_loop s.living done.living (take s.outside s.living) (trees whole) went;
          apart = all_apart (some_known types f a v s h first_begins) (some_knows types f a v s h first_begins);
        }
          where
            went : (k : List Known) → Knows f s.living k → Leaves f in_loop done.living (take s.outside s.living) (flow types f (trees whole) (Some k))
            went k knows =
                subst (Leaves f in_loop done.living (take s.outside s.living)) (sym (falls k knows))
                (leaves_falling f in_loop done.living (take s.outside s.living) (final k knows) (known_there k knows))

      finished_does : Does types texts fs f a (with_next v) in_loop s finished
      finished_does = record {
        adds = adds;
        locals = λ are.
            locals_added types a begun done part.grown.types part.registers
            (own_added types a w.state l (record { number = v.declared; variable = u; there = at; of = its_local a u })
            (locals_added types a s w.state made.grown.types made.registers are));
        order = order_then s.types w.state.types done.types made.registers.1 part.registers.1;
        follows = follows;
        code = whole;
        written =
            ap (λ (c : List Tree). c ++ e.code) (part.written ∙ ap (λ (c : List Tree). (c ++ comes) ++ part.code) made.written)
            ∙ append_assoc ((s.code ++ made.code) ++ comes) part.code e.code
            ∙ append_assoc (s.code ++ made.code) comes (part.code ++ e.code)
            ∙ append_assoc s.code made.code (comes ++ (part.code ++ e.code));
        acts = acting;
        returns = λ b gives o k. fine_known types f (result_local a) texts fs whole (all_fine b) o;
      }

      pub built_does : Does types texts fs f a (with_next v) in_loop s (end_pending n last (act begun))
      built_does = subst (Does types texts fs f a (with_next v) in_loop s) (sym finished_is) finished_does

  -- .. by itself
  pub lived_does : {A : Type 0} (w : Gives A) (Q : Gift types texts fs f A) (made : Makes types texts fs f None s w Q) (form : Form) (t : Ty) (act : State → State) → let begun = emit u.place (Live (length w.state.locals) form) (with_new (variable_local a u) w.state) in
      (Begins types f begun → can_live types texts fs f (length w.state.locals) ≡ true) → (Begins types f begun → IsPlaceOf types texts fs f t false (object_named (length w.state.locals)))
      → (Stands a v.visible begun → Part types texts fs f (both types texts fs f Q (a_place types texts fs f t false)) (w.given, object_named (length w.state.locals)) None begun (gives tt (act begun)) (nothing types texts fs f))
      → Does types texts fs f a (with_next v) in_loop s (end_pending (length s.pending) last (act begun))
  lived_does w Q made form t act lives is_place builds =
      built_does [] w Q (handing_none types texts fs f (nothing types texts fs f) tt s w Q made) t (lived_comes types texts fs f s w Q made form t) act lives is_place builds
