-- An owner that is built in a temporary, which lasts, and a part that uses it: behind both, what was made to build it ends.
use Rattle.std.proofs.Common.{◌≡◌, ◌<◌, ◌⊎◌, inl, inr, ℕ, true, false, List, [], ◌∷◌, ◌++◌, Contains, drop, length, reverse, slice_get, slice_set, take, Some, None, refl, sym, ap, ◌∙◌, subst, arith, append_assoc, length-append}
use Rattle.std.proofs.lemmas.List.Elements.{Contains-push_cases}
use Rattle.std.proofs.lemmas.Option.{slice_get_within}
use Rattle.life_elab_laws.proofs.ObjectTypes.{is_owner_of_values}
use Rattle.life_types.specs.Types.{Types}
use Rattle.life_types.specs.declared.place.Place.{Place}
use Rattle.life_types.specs.declared.ty.Ty.{Ty}
use Rattle.life_core.specs.Function.{Function}
use Rattle.life_core.specs.Operands.{Operand, object_named}
use Rattle.life_core.specs.Tree.{Tree, trees}
use Rattle.life_core.specs.declared.program.Local.{Local}
use Rattle.life_proper.specs.Knowing.{known_at}
use Rattle.life_proper.specs.ReadyKnown.{can_leave, set_known}
use Rattle.life_proper.specs.declared.known.Known.{Known}
use Rattle.life_proper.specs.declared.known.Known.TheVariants as known
use Rattle.life_well_typed.specs.Visible.{Visible}
use Rattle.life_writer.specs.Around.{Around}
use Rattle.life_writer.specs.Uses.{Remaining}
use Rattle.life_writer.specs.Variables.{end_pending}
use Rattle.life_writer.specs.Writing.{Gives, State, gives, with_code}
use Rattle.life_elab_laws.proofs.Among.{Among, all_among, among_contains, among_left, among_or, among_right, among_take, apart_reverse, ascend_apart, ascend_drop}
use Rattle.life_elab_laws.proofs.BoundVariables.{adds_temporary, begins_before_it, follows_temporary, kept_none, kept_place, temporary_lives, temporary_local, temporary_written, with_temporary}
use Rattle.life_elab_laws.proofs.Conditions.{Spares}
use Rattle.life_elab_laws.proofs.Emitting.{keeps_set}
use Rattle.life_elab_laws.proofs.EndSteps.{IsEnded, ended, ends_here}
use Rattle.life_elab_laws.proofs.Ending.{blank_beside, blank_in, blank_length, ends_there, set_blank}
use Rattle.life_elab_laws.proofs.Exits.{Knows}
use Rattle.life_elab_laws.proofs.Falling.{Falls, falls_append}
use Rattle.life_elab_laws.proofs.Following.{Adds, Follows, adds_settled, adds_then, follows_again, follows_settled, knows_alive, settled, take_itself}
use Rattle.life_elab_laws.proofs.Fronts.{IsFront, front_append, front_itself, front_length, front_then, last_there}
use Rattle.life_elab_laws.proofs.Gifts.{Gift, IsPlaceOf, a_place, both, nothing as no_gift}
use Rattle.life_elab_laws.proofs.GivenApart.{Apart, codes_apart, AreApart}
use Rattle.life_elab_laws.proofs.Growing.{Begins, begins_before}
use Rattle.life_elab_laws.proofs.Knowledge.{at_set, beside_set, set_length}
use Rattle.life_elab_laws.proofs.MadeForms.{Builds, Found, gift_of, one_new}
use Rattle.life_elab_laws.proofs.Making.{Alive, IsOpen, opened_later}
use Rattle.life_elab_laws.proofs.Opens.{Opening, Opens}
use Rattle.life_elab_laws.proofs.OrderedTypes.{HasPartsIn, order_then, type_ordered}
use Rattle.life_elab_laws.proofs.Parts.{Goes, Part, Runs, gives_part, keep_part, then_part, under_part}
use Rattle.life_elab_laws.proofs.PendingEnds.{ends_pending, none_kept, pending_ends}
use Rattle.life_elab_laws.proofs.PendingTemporaries.{ArePending, temporary_later}
use Rattle.life_elab_laws.proofs.Setting.{Setting}
use Rattle.life_elab_laws.proofs.Shaped.{is_passing, owner_later}
use Rattle.life_elab_laws.proofs.Shaping.{IsFine, fine_append}
use Rattle.life_elab_laws.proofs.TemporaryEnds.{temporary_ends}
use Rattle.life_elab_laws.proofs.Types.{types_before}
use Rattle.life_elab_laws.proofs.VariablePlaces.{Stands}
use Rattle.life_elab_laws.proofs.WrittenLocals.{FitsTemporary, locals_added, owner_below}
use Rattle.life_core.specs.declared.instr.Form.TheVariants.{Plain}
use Rattle.life_elab_laws.proofs.Handing.{GoesHanding, RunsHanding, handed_apart}
use Rattle.life_elab_laws.proofs.OwnLocals.{first_own}

module _ (a : Around) (types : Types) (texts : ℕ) (fs : List Function) (f : Function) (setting : Setting a types fs f) (v : Visible) (s : State) (h : Follows types f a v s)
    (t : Ty) (owner : is_owner_of_values a.program.types t ≡ true) (place : Place) (w : Gives Remaining) (is : Builds a v.visible types texts fs f setting t s w) where
  abbrev Q : Gift types texts fs f (Found is.making)
  Q = gift_of a v.visible types texts fs f setting is.making

  abbrev P : Gift types texts fs f (Found is.making × Operand)
  P = both types texts fs f Q (a_place types texts fs f t false)

  -- ---- what is built

  pub fits : FitsTemporary types t
  fits = inr (inl (owner_later a.program.types types setting.front setting.plain t owner))

  -- behind what is found, without the temporaries of that
  abbrev there : State
  there = settled types f s w.state

  first : Follows types f a v there
  first = follows_settled types f a v s w.state is.hands.grown h

  pub within : HasPartsIn w.state.types t
  within ordered = owner_below a.program.types w.state.types (front_length a.program.types.types w.state.types.types first.stands.table) t owner

  abbrev pub x : ℕ
  x = length w.state.locals

  abbrev kept : State
  kept = with_temporary a types texts fs f place t fits w.state within

  abbrev tl : Local
  tl = temporary_local a types texts fs f place t fits w.state within

  -- it has come to life
  abbrev begun : State
  begun = with_code (kept.code ++ is.comes.code place x) kept

  abbrev there_kept : State
  there_kept = with_temporary a types texts fs f place t fits there within

  second : Follows types f a v there_kept
  second = follows_temporary a types texts fs f place t fits there within v first

  before : ArePending (first_own a) w.state
  before = is.hands.grown.pends _ h.stands.pends

  below : (y : ℕ) → Among y w.state.pending → y < x
  below y m = let was = before.each y m in slice_get_within w.state.locals y was.local was.there

  begun_pends : ArePending (first_own a) begun
  begun_pends = record {
    past = omega (arith, before.past, length-append w.state.locals (tl ∷ []));
    ascend = before.ascend;
    each = λ y m. temporary_later _ w.state.locals begun.locals w.state.types.types begun.types.types y (front_append w.state.locals (tl ∷ [])) (types_before w.state.types.types t) (before.each y m);
    beside = λ y m c. elim (Contains-push_cases w.state.living x y c) [ inl old ↦ before.beside y m old | inr e ↦ let lt = below y m in omega (arith, e, lt) ];
  }

  stood : Stands a v.visible begun
  stood = record {
    table = second.stands.table;
    opened = second.stands.opened;
    pends = begun_pends;
    seen = λ y z c found.
        let at = second.stands.seen y z c found in
        record { local = at.local; there = at.there; typed = at.typed; named = at.named; kind = at.kind; lives = at.lives };
    apart = second.stands.apart;
  }

  -- it is built
  abbrev pub acted : State
  acted = is.act place (object_named x) begun

  acts : Part types texts fs f P (is.found, object_named x) None begun (gives tt acted) (no_gift types texts fs f)
  acts = is.acts place (object_named x) begun stood (λ n c. refl) (one_new a v.visible types texts fs f setting s begun x h.stands.opened is.hands.grown.count (omega (arith, length-append w.state.locals (tl ∷ []))))

  pub acted_table : IsFront a.program.types.types acted.types.types
  acted_table = front_then a.program.types.types begun.types.types acted.types.types stood.table acts.grown.types

  pub acted_opened : IsOpen acted
  acted_opened = opened_later begun acted acts.grown stood.opened

  -- ---- the part behind it

  module _ {B : Type 0} (last : Gives B) (H : Gift types texts fs f B) (closing : Place) (part : Part types texts fs f (a_place types texts fs f t false) (object_named x) None acted last H)
      (spared : (n : ℕ) (k j : List Known) → H.typed last.given → H.ready last.given n k → Spares types texts fs f k j → H.ready last.given n j) where
    R : Part types texts fs f P (is.found, object_named x) None begun last H
    R =
        let B = both types texts fs f P (no_gift types texts fs f) in
        then_part types texts fs f P (is.found, object_named x) None begun (gives ((is.found, object_named x), tt) acted) last B H stood.opened
        (keep_part types texts fs f P (is.found, object_named x) begun (gives (is.found, object_named x) begun) (gives tt acted) P (no_gift types texts fs f) stood.opened
        (gives_part types texts fs f P (is.found, object_named x) None (is.found, object_named x) begun P (λ b p. p) (λ b k alive q. q)) acts)
        (under_part types texts fs f (a_place types texts fs f t false) (object_named x) B ((is.found, object_named x), tt) None acted last H part (λ p. p.0.1) (λ n k q. q.0.1))

    pends : ArePending (first_own a) last.state
    pends = R.grown.pends _ begun_pends

    -- ---- nothing was pending before

    abbrev n : ℕ
    n = length s.pending

    abbrev over : List ℕ
    over = reverse (drop n last.state.pending)

    same_pending : take n last.state.pending ≡ take n w.state.pending
    same_pending = none_kept s.pending last.state.pending h.pending ∙ sym (none_kept s.pending w.state.pending h.pending)

    e : IsEnded types texts fs f over closing last.state
    e = ended types texts fs f over closing last.state

    abbrev finished : State
    finished = record last.state { code = last.state.code ++ e.code; pending = take n last.state.pending }

    finished_is : end_pending n closing last.state ≡ finished
    finished_is = ap (λ (r : State). record r { pending = take n last.state.pending }) e.written

    same_variables : IsFront there_kept.variables last.state.variables
    same_variables = subst (IsFront there_kept.variables) (sym R.grown.variables) (front_itself there_kept.variables)

    third : Follows types f a v finished
    third =
        follows_again types f a v there_kept finished v.declared second R.grown.locals R.grown.types same_variables R.grown.living same_pending
        (omega (arith, R.grown.outside, ap length R.grown.living, second.outside)) (ap length R.grown.variables ∙ second.count) (omega arith)

    adds : Adds types f s finished
    adds =
        adds_then types f s there finished (adds_settled types f s w.state is.hands.grown)
        (adds_then types f there there_kept finished (adds_temporary a types texts fs f place t fits there within v first)
        (record {
          locals = R.grown.locals;
          table = R.grown.types;
          variables = same_variables;
          living = ap (take (length there_kept.living)) R.grown.living ∙ take_itself there_kept.living;
          pending = same_pending;
          outside = R.grown.outside;
        }))

    abbrev comes : List Tree
    comes = is.comes.code place x

    abbrev all_code : List Tree
    all_code = is.hands.code ++ (comes ++ (R.code ++ e.code))

    opened : IsOpen w.state
    opened = opened_later s w.state is.hands.grown h.stands.opened

    -- ---- in the finished function

    module _ (b : Begins types f finished) where
      begins : Begins types f begun
      begins = begins_before types f begun last.state R.grown b

      it : slice_get f.locals x ≡ Some tl
      it = begins.locals x tl (last_there w.state.locals tl)

      found_first : RunsHanding types texts fs f (no_gift types texts fs f) tt is.over s (gives is.found w.state) Q is.hands.code
      found_first = is.hands.runs (begins_before_it a types texts fs f place t fits w.state within begins) tt

      is_place : IsPlaceOf types texts fs f t false (object_named x)
      is_place = kept_place a types texts fs f place t fits w.state within begins

      runs : Runs types texts fs f P (is.found, object_named x) None begun last H R.code
      runs = R.runs b (found_first.typed, is_place)

      ends_fine : IsFine types texts fs f e.code
      ends_fine =
          e.fine (all_among (ends_here types texts fs f) over (λ z m. temporary_ends types texts fs f (first_own a) setting.own z (temporary_later _ last.state.locals f.locals last.state.types.types types.types z b.locals b.table (pends.each z (ends_pending s.pending last.state.pending z m)))))

      all_fine : IsFine types texts fs f all_code
      all_fine =
          fine_append types texts fs f is.hands.code (comes ++ (R.code ++ e.code)) found_first.fine
          (fine_append types texts fs f comes (R.code ++ e.code)
          (is.comes.fine found_first.typed place x (temporary_lives a types texts fs f place t fits w.state within begins Plain).formed is_place)
          (fine_append types texts fs f R.code e.code runs.fine ends_fine))

      -- ---- on a way

      module _ (k : List Known) (knows : Knows f s.living k) where
        g : GoesHanding types texts fs f is.over s (gives is.found w.state) Q is.hands.code k
        g = found_first.goes k (knows_alive types f a v s h k knows) tt

        lt : x < length g.after
        lt = omega (arith, g.alive.sized, slice_get_within f.locals x tl it)

        blank : known_at g.after x ≡ known.Blank
        blank = g.alive.blank x tl it refl (λ m. let far = opened x (among_contains w.state.living x m) in omega (arith, far)) (λ m. let far = below x m in omega (arith, far))

        -- it has come to life
        abbrev j : List Known
        j = slice_set g.after x known.Ready

        alive : Alive f begun j
        alive = record {
          sized = set_length g.after x known.Ready ∙ g.alive.sized;
          living = λ z c. lived z (Contains-push_cases w.state.living x z c);
          pending = λ z m. beside_set g.after x z known.Ready (λ e. let far = below z m in omega (arith, e, far)) ∙ g.alive.pending z m;
          blank = λ z q there lasts out no.
              beside_set g.after x z known.Ready (λ e. out (among_right w.state.living (x ∷ []) z (inl e)))
              ∙ g.alive.blank z q there lasts (λ m. out (among_left w.state.living (x ∷ []) z m)) no;
        }
          where
            lived : (z : ℕ) → Contains w.state.living z ⊎ (x ≡ z) → known_at j z ≡ known.Ready
            lived z (inl old) = beside_set g.after x z known.Ready (λ e. let far = opened z old in omega (arith, e, far)) ∙ g.alive.living z old
            lived z (inr e) = subst (λ (q : ℕ). known_at j q ≡ known.Ready) e (at_set g.after x known.Ready lt)

        r : Goes types texts fs f None begun last H R.code j
        r =
            runs.goes j alive (
              Q.stays is.found x (length begun.locals) g.after j (omega (arith, length-append w.state.locals (tl ∷ []))) g.gives (keeps_set f x None x known.Ready g.after (λ z small b e. omega (arith, small, e))),
              record { local = x; uses = refl; below = omega (arith, length-append w.state.locals (tl ∷ [])); held = at_set g.after x known.Ready lt },
            )

        abbrev final : List Known
        final = set_blank over r.after

        ready : can_leave r.after over ≡ true
        ready =
            ends_there over r.after (apart_reverse (drop n last.state.pending) (ascend_apart 0 (drop n last.state.pending) (ascend_drop n 0 last.state.pending pends.ascend)))
            (λ z m. r.alive.pending z (ends_pending s.pending last.state.pending z m))

        falls : Falls types f all_code k final
        falls =
            falls_append types f is.hands.code (comes ++ (R.code ++ e.code)) k (set_known known.Ready is.over g.after) final g.falls
            (falls_append types f comes (R.code ++ e.code) (set_known known.Ready is.over g.after) j final
            (is.comes.falls found_first place x g.after g.gives g.blank blank (λ m. let far = is.hands.below x m in omega (arith, far)))
            (falls_append types f R.code e.code j r.after final r.falls (e.falls r.after ready)))

        known_there : Knows f last.state.living final
        known_there = record {
          sized = blank_length over r.after ∙ r.alive.sized;
          alive = λ z m. let c = among_contains last.state.living z m in blank_beside over r.after z (λ p. pends.beside z (ends_pending s.pending last.state.pending z p) c) ∙ r.alive.living z c;
          blank = gone;
        }
          where
            gone : (z : ℕ) (q : Local) → slice_get f.locals z ≡ Some q → is_passing q ≡ false → (Among z last.state.living → ⊥) → known_at final z ≡ known.Blank
            gone z q there lasts out = elim (among_or z over) [
              | inl m ↦ blank_in over r.after z (omega (arith, r.alive.sized, slice_get_within f.locals z q there)) m
              | inr none ↦ blank_beside over r.after z none ∙ r.alive.blank z q there lasts out (λ m. none (pending_ends s.pending last.state.pending h.pending z m))
            ]

        -- what isn't a temporary is known as before its ends
        spares : Spares types texts fs f r.after final
        spares z none = blank_beside over r.after z (λ m. none _ (temporary_later _ last.state.locals f.locals last.state.types.types types.types z b.locals b.table (pends.each z (ends_pending s.pending last.state.pending z m))))

        all_apart : Apart f s finished (trees all_code)
        all_apart under =
            handed_apart types texts fs f is.over [] s w.state begun finished is.hands.code comes (R.code ++ e.code) under (λ z m. inr (is.comes.named place x z m)) (g.apart under)
            (λ low. subst (λ (xs : List ℕ). AreApart f w.state begun xs []) (sym (is.comes.looks place x g.after g.gives)) (kept_none a types texts fs f place t fits w.state within low))
            (codes_apart f begun last.state finished R.code e.code r.apart
            (e.apart last.state finished (omega arith) (λ z o. elim o [ inl m ↦ inl (inl m) | inr m ↦ inl (inr (among_take n last.state.pending z m)) ])))

        opening : Opening types texts fs f (H.ready last.given (length last.state.locals)) s finished all_code k
        opening = record {
          after = final;
          falls = falls;
          knows = known_there;
          more = spared (length last.state.locals) r.after final runs.typed r.gives spares;
          apart = all_apart;
        }

    scoped_opens : Opens types texts fs f (H.ready last.given (length last.state.locals)) a v s finished
    scoped_opens = record {
      adds = adds;
      locals = λ are.
          locals_added types a begun last.state R.grown.types R.registers
          (temporary_written a types texts fs f place t fits w.state within (locals_added types a s w.state is.hands.grown.types is.hands.registers are));
      order = order_then s.types w.state.types last.state.types is.hands.registers.1 (order_then w.state.types kept.types last.state.types (type_ordered w.state.types t within) R.registers.1);
      follows = third;
      code = all_code;
      written =
          ap (λ (c : List Tree). c ++ e.code) (R.written ∙ ap (λ (c : List Tree). (c ++ comes) ++ R.code) is.hands.written)
          ∙ append_assoc ((s.code ++ is.hands.code) ++ comes) R.code e.code
          ∙ append_assoc (s.code ++ is.hands.code) comes (R.code ++ e.code)
          ∙ append_assoc s.code is.hands.code (comes ++ (R.code ++ e.code));
      fine = λ b. all_fine b;
      goes = λ b k knows. opening b k knows;
    }

    pub made_opens : Opens types texts fs f (H.ready last.given (length (end_pending n closing last.state).locals)) a v s (end_pending n closing last.state)
    made_opens = subst (λ (r : State). Opens types texts fs f (H.ready last.given (length r.locals)) a v s r) (sym finished_is) scoped_opens

    -- what it gives has its type there
    pub made_typed : Begins types f (end_pending n closing last.state) → H.typed last.given
    made_typed b = (runs (subst (Begins types f) finished_is b)).typed
