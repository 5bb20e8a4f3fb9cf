-- A reference that is declared with an owner that is built for it: that comes to life right before it, and lives as long as it does.
use Rattle.std.proofs.Common.{◌≡◌, ◌<◌, ◌⊎◌, inl, inr, ℕ, Bool, true, false, List, [], ◌∷◌, ◌++◌, Contains, drop, length, reverse, slice_get, slice_set, take, Some, None, refl, sym, ap, ◌∙◌, subst, arith, append_assoc, length-append}
use Rattle.std.proofs.lemmas.List.Elements.{Contains-push, Contains-push_cases}
use Rattle.std.proofs.lemmas.Option.{slice_get_within}
use Rattle.life_elab_laws.proofs.ObjectTypes.{is_admitted_variable, is_target}
use Rattle.life_types.specs.Types.{Types}
use Rattle.life_types.specs.declared.place.Place.{Place}
use Rattle.life_types.specs.declared.ty.Ty.{Ty}
use Rattle.life_types.specs.declared.ty.Ty.TheVariants as ty
use Rattle.life_types.specs.declared.ty.TyId.{TyId}
use Rattle.life_typed.specs.BaseTypes.{type_at}
use Rattle.life_typed.specs.declared.typed_program.TypedLocal.{TypedLocal}
use Rattle.life_core.specs.Function.{Function}
use Rattle.life_core.specs.Operands.{Place as Aimed, object_named, whole}
use Rattle.life_core.specs.Step.{Aim}
use Rattle.life_core.specs.Tree.{Acts as Act, Tree, trees}
use Rattle.life_core.specs.declared.program.Local.{Local}
use Rattle.life_proper.specs.Checking.{flow}
use Rattle.life_proper.specs.Knowing.{known_at}
use Rattle.life_proper.specs.ReadyKnown.{can_leave, set_known}
use Rattle.life_proper.specs.WellFormed.{is_source_of}
use Rattle.life_proper.specs.declared.known.Known.{Known}
use Rattle.life_proper.specs.declared.known.Known.TheVariants as known
use Rattle.life_well_typed.specs.Visible.{Visible, with_next}
use Rattle.life_writer.specs.Around.{Around, result_local}
use Rattle.life_writer.specs.Uses.{Remaining}
use Rattle.life_writer.specs.Variables.{end_pending, variable_local}
use Rattle.life_writer.specs.Writing.{Gives, State, emit, gives, with_code}
use Rattle.life_elab_laws.proofs.Among.{Among, all_among, among_contains, among_either, among_left, among_or, among_right, among_take, apart_reverse, ascend_apart, ascend_drop, contains_among}
use Rattle.life_elab_laws.proofs.BoundVariables.{adds_temporary, begins_before_it, follows_temporary, kept_none, kept_place, temporary_lives, temporary_local, temporary_written, with_temporary}
use Rattle.life_elab_laws.proofs.Declaring.{adds_new, begins_old, follows_new, its_local, new_then, with_new}
use Rattle.life_elab_laws.proofs.Doing.{Acting, Does}
use Rattle.life_elab_laws.proofs.Emitting.{keeps_set}
use Rattle.life_elab_laws.proofs.EndSteps.{IsEnded, ended, ends_here}
use Rattle.life_elab_laws.proofs.Ending.{blank_beside, blank_in, blank_length, ends_there, set_blank}
use Rattle.life_elab_laws.proofs.Exits.{Knows, Leaves, leaves_falling, leaves_may}
use Rattle.life_elab_laws.proofs.Falling.{Falls, falls_append, falls_filling}
use Rattle.life_elab_laws.proofs.Filling.{aimed_filling, filling_fills}
use Rattle.life_elab_laws.proofs.Following.{Adds, Follows, adds_settled, adds_then, follows_again, follows_settled, knows_alive, settled, take_itself}
use Rattle.life_elab_laws.proofs.FormedVariables.{keeps_all}
use Rattle.life_elab_laws.proofs.Fronts.{IsFront, front_append, front_itself, last_there}
use Rattle.life_elab_laws.proofs.Gifts.{Gift, IsPlaceOf, a_place, both, nothing}
use Rattle.life_elab_laws.proofs.GivenApart.{Apart, codes_apart, AreApart}
use Rattle.life_elab_laws.proofs.GivingBack.{fine_known}
use Rattle.life_elab_laws.proofs.Growing.{Begins, begins_before}
use Rattle.life_elab_laws.proofs.Knowledge.{at_set, beside_set, ready_set, set_length}
use Rattle.life_elab_laws.proofs.MadeForms.{BuildsIn, Found, gift_of, one_new}
use Rattle.life_elab_laws.proofs.Making.{Alive, IsOpen, opened_later}
use Rattle.life_elab_laws.proofs.NewVariables.{bound_given, reference_declared, reference_kept}
use Rattle.life_elab_laws.proofs.OrderedTypes.{HasPartsIn, order_then, type_ordered}
use Rattle.life_elab_laws.proofs.Parts.{Goes, Part, Runs}
use Rattle.life_elab_laws.proofs.PendingEnds.{ends_pending, none_kept, pending_ends}
use Rattle.life_elab_laws.proofs.PendingTemporaries.{ArePending, temporary_later}
use Rattle.life_elab_laws.proofs.AdmittedTypes.{IsBuilt}
use Rattle.life_elab_laws.proofs.Setting.{Setting}
use Rattle.life_elab_laws.proofs.Shaped.{built_later, is_passing, named_lasts}
use Rattle.life_elab_laws.proofs.Shaping.{IsFine, fine_acts, fine_append}
use Rattle.life_elab_laws.proofs.SomeKnown.{some_known, some_knows}
use Rattle.life_elab_laws.proofs.TemporaryEnds.{temporary_ends}
use Rattle.life_elab_laws.proofs.Types.{types_before}
use Rattle.life_elab_laws.proofs.VariablePlaces.{Stands}
use Rattle.life_elab_laws.proofs.WrittenLocals.{FitsTemporary, built_below, locals_added, own_added}
use Rattle.life_core.specs.declared.instr.Form.TheVariants.{Plain}
use Rattle.life_elab_laws.proofs.Handing.{GoesHanding, RunsHanding, handed_apart}
use Rattle.life_elab_laws.proofs.OwnLocals.{first_own}

module _ (a : Around) (types : Types) (texts : ℕ) (fs : List Function) (f : Function) (setting : Setting a types fs f) (v : Visible) (in_loop : Bool) (last : Place)
    (u : TypedLocal) (s : State) (h : Follows types f a v s) (at : slice_get a.function.locals v.declared ≡ Some u) (built : is_admitted_variable a.program.types u.ty ≡ true)
    (target : TyId) (constant : Bool) (found : slice_get a.program.types.types u.ty.0 ≡ Some (ty.Reference target constant)) (wide : is_target a.program.types (type_at a.program.types target) ≡ true) (owner : IsBuilt a.program.types (type_at a.program.types target)) (place : Place)
    (w : Gives Remaining) {plain : Bool} (is : BuildsIn a v.visible types texts fs f setting plain (type_at a.program.types target) s w) where
  abbrev t : Ty
  t = type_at a.program.types target

  abbrev Q : Gift types texts fs f (Found is.making)
  Q = gift_of a v.visible types texts fs f setting is.making

  -- ---- what is built

  pub fits : FitsTemporary types (type_at a.program.types target)
  fits = inr (built_later a.program.types types setting.front setting.plain (type_at a.program.types target) owner)

  -- behind what is found, without the temporaries of that
  abbrev there : State
  there = settled types f s w.state

  first : Follows types f a v there
  first = follows_settled types f a v s w.state is.hands.grown h

  pub within : HasPartsIn w.state.types (type_at a.program.types target)
  within = built_below a.program.types w.state.types first.stands.table (type_at a.program.types target) owner

  abbrev x : ℕ
  x = length w.state.locals

  abbrev kept : State
  kept = with_temporary a types texts fs f place t fits w.state within

  abbrev tl : Local
  tl = temporary_local a types texts fs f place t fits w.state within

  -- it has come to life
  abbrev begun : State
  begun = with_code (kept.code ++ is.comes.code place x) kept

  abbrev there_kept : State
  there_kept = with_temporary a types texts fs f place t fits there within

  second : Follows types f a v there_kept
  second = follows_temporary a types texts fs f place t fits there within v first

  before : ArePending (first_own a) w.state
  before = is.hands.grown.pends _ h.stands.pends

  below : (y : ℕ) → Among y w.state.pending → y < x
  below y m = let was = before.each y m in slice_get_within w.state.locals y was.local was.there

  begun_pends : ArePending (first_own a) begun
  begun_pends = record {
    past = omega (arith, before.past, length-append w.state.locals (tl ∷ []));
    ascend = before.ascend;
    each = λ y m. temporary_later _ w.state.locals begun.locals w.state.types.types begun.types.types y (front_append w.state.locals (tl ∷ [])) (types_before w.state.types.types t) (before.each y m);
    beside = λ y m c. elim (Contains-push_cases w.state.living x y c) [ inl old ↦ before.beside y m old | inr e ↦ let lt = below y m in omega (arith, e, lt) ];
  }

  stood : Stands a v.visible begun
  stood = record {
    table = second.stands.table;
    opened = second.stands.opened;
    pends = begun_pends;
    seen = λ y z c found.
        let at = second.stands.seen y z c found in
        record { local = at.local; there = at.there; typed = at.typed; kind = at.kind; named = at.named; lives = at.lives };
    apart = second.stands.apart;
  }

  part : Part types texts fs f (both types texts fs f Q (a_place types texts fs f t false)) (is.found, object_named x) None begun (gives tt (is.act place (object_named x) begun)) (nothing types texts fs f)
  part = is.acts place (object_named x) begun stood (λ n c. refl) (one_new a v.visible types texts fs f setting s begun x h.stands.opened is.hands.grown.count (omega (arith, length-append w.state.locals (tl ∷ []))))

  -- it is built
  abbrev acted : State
  acted = is.act place (object_named x) begun

  pends : ArePending (first_own a) acted
  pends = part.grown.pends _ begun_pends

  -- ---- nothing was pending before

  abbrev n : ℕ
  n = length s.pending

  abbrev over : List ℕ
  over = reverse (drop n acted.pending)

  same_pending : take n acted.pending ≡ take n w.state.pending
  same_pending = none_kept s.pending acted.pending h.pending ∙ sym (none_kept s.pending w.state.pending h.pending)

  -- ---- the reference

  abbrev level : State
  level = record acted { pending = take n acted.pending }

  same_variables : IsFront there_kept.variables acted.variables
  same_variables = subst (IsFront there_kept.variables) (sym part.grown.variables) (front_itself there_kept.variables)

  third : Follows types f a v level
  third =
      follows_again types f a v there_kept level v.declared second part.grown.locals part.grown.types same_variables part.grown.living same_pending
      (omega (arith, part.grown.outside, ap length part.grown.living, second.outside)) (ap length part.grown.variables ∙ second.count) (omega arith)

  abbrev y : ℕ
  y = length acted.locals

  abbrev l : Local
  l = variable_local a u

  abbrev news : State
  news = with_new l acted

  abbrev done : State
  done = emit place (Aim (whole y) (Aimed (object_named x))) news

  new : Follows types f a (with_next v) (with_new l level)
  new = follows_new types f a setting.front v u l (its_local a u) level third at built

  -- ---- where the temporaries have ended

  e : IsEnded types texts fs f over last done
  e = ended types texts fs f over last done

  abbrev finished : State
  finished = record done { code = done.code ++ e.code; pending = take n acted.pending }

  finished_is : end_pending n last done ≡ finished
  finished_is = ap (λ (r : State). record r { pending = take n acted.pending }) e.written

  abbrev comes : List Tree
  comes = is.comes.code place x

  abbrev aims : List Tree
  aims = Act place (Aim (whole y) (Aimed (object_named x))) ∷ []

  abbrev all_code : List Tree
  all_code = is.hands.code ++ (comes ++ (part.code ++ (aims ++ e.code)))

  adds : Adds types f s (with_new l level)
  adds =
      adds_then types f s there (with_new l level) (adds_settled types f s w.state is.hands.grown)
      (adds_then types f there there_kept (with_new l level) (adds_temporary a types texts fs f place t fits there within v first)
      (adds_then types f there_kept level (with_new l level)
      (record {
        locals = part.grown.locals;
        table = part.grown.types;
        variables = same_variables;
        living = ap (take (length there_kept.living)) part.grown.living ∙ take_itself there_kept.living;
        pending = same_pending;
        outside = part.grown.outside;
      })
      (adds_new types f a setting.front v u l (its_local a u) level third at built)))

  -- the object is older than the reference
  x_lower : x < y
  x_lower = let more = part.grown.count in omega (arith, more, length-append w.state.locals (tl ∷ []))

  x_living : Contains acted.living x
  x_living = subst (λ (ys : List ℕ). Contains ys x) (sym part.grown.living) (Contains-push w.state.living x)

  opened : IsOpen w.state
  opened = opened_later s w.state is.hands.grown h.stands.opened

  opened_acted : IsOpen acted
  opened_acted = opened_later begun acted part.grown stood.opened

  below_acted : (z : ℕ) → Among z acted.pending → z < y
  below_acted z m = let was = pends.each z m in slice_get_within acted.locals z was.local was.there

  y_beside : Among y over → ⊥
  y_beside m = let lt = below_acted y (ends_pending s.pending acted.pending y m) in omega (arith, lt)

  -- the reference is aimed at the temporary, which stands
  aims_apart : Apart f acted news (trees aims)
  aims_apart =
      new_then f l acted (x ∷ []) [] (λ under. record {
        count = omega arith;
        below = under;
        opens = λ z o. inl o;
        gives = λ z object m. absurd m;
        looks = λ z object m. elim m [ inl e ↦ inl (inl (subst (λ (q : ℕ). Among q acted.living) e (contains_among acted.living x x_living))) | inr none ↦ absurd none ];
        apart = λ z object m g. g;
      })

  -- ---- in the finished function

  module _ (b : Begins types f (with_new l level)) where
    old : Begins types f acted
    old = begins_old types f a setting.front v u l (its_local a u) level third at built b

    begins : Begins types f begun
    begins = begins_before types f begun acted part.grown old

    it : slice_get f.locals x ≡ Some tl
    it = begins.locals x tl (last_there w.state.locals tl)

    reference_there : slice_get f.locals y ≡ Some l
    reference_there = b.locals y l (last_there acted.locals l)

    found_first : RunsHanding types texts fs f (nothing types texts fs f) tt is.over s (gives is.found w.state) Q is.hands.code
    found_first = is.hands.runs (begins_before_it a types texts fs f place t fits w.state within begins) tt

    is_place : IsPlaceOf types texts fs f t false (object_named x)
    is_place = kept_place a types texts fs f place t fits w.state within begins

    acts_then : Runs types texts fs f (both types texts fs f Q (a_place types texts fs f t false)) (is.found, object_named x) None begun (gives tt acted) (nothing types texts fs f) part.code
    acts_then = part.runs old (found_first.typed, is_place)

    aims_fine : IsFine types texts fs f aims
    aims_fine =
        fine_acts types texts fs f place (Aim (whole y) (Aimed (object_named x)))
        (record {
          given = refl;
          formed =
              ap (λ (r : Ty). is_source_of types texts fs f r (Aimed (object_named x))) (reference_declared a types texts fs f setting.front u acted b target constant found wide)
              ∙ bound_given a types texts fs f setting.front target constant false (object_named x) wide (keeps_all constant) is_place;
        })

    ends_fine : IsFine types texts fs f e.code
    ends_fine =
        e.fine (all_among (ends_here types texts fs f) over (λ z m. temporary_ends types texts fs f (first_own a) setting.own z (temporary_later _ acted.locals f.locals acted.types.types types.types z old.locals old.table (pends.each z (ends_pending s.pending acted.pending z m)))))

    all_fine : IsFine types texts fs f all_code
    all_fine =
        fine_append types texts fs f is.hands.code (comes ++ (part.code ++ (aims ++ e.code))) found_first.fine
        (fine_append types texts fs f comes (part.code ++ (aims ++ e.code))
        (is.comes.fine found_first.typed place x (temporary_lives a types texts fs f place t fits w.state within begins Plain).formed is_place)
        (fine_append types texts fs f part.code (aims ++ e.code) acts_then.fine (fine_append types texts fs f aims e.code aims_fine ends_fine)))

    -- ---- on a way

    module _ (k : List Known) (knows : Knows f s.living k) where
      g : GoesHanding types texts fs f is.over s (gives is.found w.state) Q is.hands.code k
      g = found_first.goes k (knows_alive types f a v s h k knows) tt

      lt : x < length g.after
      lt = omega (arith, g.alive.sized, slice_get_within f.locals x tl it)

      blank : known_at g.after x ≡ known.Blank
      blank = g.alive.blank x tl it refl (λ m. let far = opened x (among_contains w.state.living x m) in omega (arith, far)) (λ m. let far = below x m in omega (arith, far))

      -- it has come to life
      abbrev j : List Known
      j = slice_set g.after x known.Ready

      alive : Alive f begun j
      alive = record {
        sized = set_length g.after x known.Ready ∙ g.alive.sized;
        living = λ z c. lived z (Contains-push_cases w.state.living x z c);
        pending = λ z m. beside_set g.after x z known.Ready (λ e. let far = below z m in omega (arith, e, far)) ∙ g.alive.pending z m;
        blank = λ z q there lasts out no.
            beside_set g.after x z known.Ready (λ e. out (among_right w.state.living (x ∷ []) z (inl e)))
            ∙ g.alive.blank z q there lasts (λ m. out (among_left w.state.living (x ∷ []) z m)) no;
      }
        where
          lived : (z : ℕ) → Contains w.state.living z ⊎ (x ≡ z) → known_at j z ≡ known.Ready
          lived z (inl old) = beside_set g.after x z known.Ready (λ e. let far = opened z old in omega (arith, e, far)) ∙ g.alive.living z old
          lived z (inr e) = subst (λ (q : ℕ). known_at j q ≡ known.Ready) e (at_set g.after x known.Ready lt)

      r : Goes types texts fs f None begun (gives tt acted) (nothing types texts fs f) part.code j
      r =
          acts_then.goes j alive (
            Q.stays is.found x (length begun.locals) g.after j (omega (arith, length-append w.state.locals (tl ∷ []))) g.gives (keeps_set f x None x known.Ready g.after (λ z small b e. omega (arith, small, e))),
            record { local = x; uses = refl; below = omega (arith, length-append w.state.locals (tl ∷ [])); held = at_set g.after x known.Ready lt },
          )

      y_there : y < length r.after
      y_there = omega (arith, r.alive.sized, slice_get_within f.locals y l reference_there)

      blank_reference : known_at r.after y ≡ known.Blank
      blank_reference = r.alive.blank y l reference_there (named_lasts l u.name refl) (λ m. let far = opened_acted y (among_contains acted.living y m) in omega (arith, far)) (λ m. let far = below_acted y m in omega (arith, far))

      -- .. and the reference is aimed at it
      abbrev i : List Known
      i = slice_set r.after y known.Ready

      abbrev final : List Known
      final = set_blank over i

      ready : can_leave i over ≡ true
      ready =
          ends_there over i (apart_reverse (drop n acted.pending) (ascend_apart 0 (drop n acted.pending) (ascend_drop n 0 acted.pending pends.ascend)))
          (λ z m. ready_set r.after y z y_there (r.alive.pending z (ends_pending s.pending acted.pending z m)))

      falls : Falls types f all_code k final
      falls =
          falls_append types f is.hands.code (comes ++ (part.code ++ (aims ++ e.code))) k (set_known known.Ready is.over g.after) final g.falls
          (falls_append types f comes (part.code ++ (aims ++ e.code)) (set_known known.Ready is.over g.after) j final
          (is.comes.falls found_first place x g.after g.gives g.blank blank (λ m. let far = is.hands.below x m in omega (arith, far)))
          (falls_append types f part.code (aims ++ e.code) j r.after final r.falls
          (falls_append types f aims e.code r.after i final
          (falls_filling types f place (Aim (whole y) (Aimed (object_named x))) y r.after
          (filling_fills f (λ p. Aim p (Aimed (object_named x))) y r.after (aimed_filling f (object_named x) y r.after (record { local = x; uses = refl; below = x_lower; held = r.alive.living x x_living })) y
          (reference_kept a types texts fs f setting.front u acted b target constant found wide)))
          (e.falls i ready))))

      known_there : Knows f (acted.living ++ y ∷ []) final
      known_there = record {
        sized = blank_length over i ∙ set_length r.after y known.Ready ∙ r.alive.sized;
        alive = λ z m. lived z (among_either acted.living (y ∷ []) z m);
        blank = gone;
      }
        where
          lived : (z : ℕ) → Among z acted.living ⊎ Among z (y ∷ []) → known_at final z ≡ known.Ready
          lived z (inl m) =
              let c = among_contains acted.living z m in
              blank_beside over i z (λ p. pends.beside z (ends_pending s.pending acted.pending z p) c)
              ∙ beside_set r.after y z known.Ready (λ e. let far = opened_acted z c in omega (arith, e, far)) ∙ r.alive.living z c
          lived z (inr (inl e)) = subst (λ (q : ℕ). known_at final q ≡ known.Ready) e (blank_beside over i y y_beside ∙ at_set r.after y known.Ready y_there)
          lived z (inr (inr none)) = absurd none

          gone : (z : ℕ) (q : Local) → slice_get f.locals z ≡ Some q → is_passing q ≡ false → (Among z (acted.living ++ y ∷ []) → ⊥) → known_at final z ≡ known.Blank
          gone z q there lasts out = elim (among_or z over) [
            | inl m ↦ blank_in over i z (omega (arith, r.alive.sized, set_length r.after y known.Ready, slice_get_within f.locals z q there)) m
            | inr none ↦
                blank_beside over i z none
                ∙ beside_set r.after y z known.Ready (λ e. out (among_right acted.living (y ∷ []) z (inl e)))
                ∙ r.alive.blank z q there lasts (λ m. out (among_left acted.living (y ∷ []) z m)) (λ m. none (pending_ends s.pending acted.pending h.pending z m))
          ]

      all_apart : Apart f s finished (trees all_code)
      all_apart under =
          handed_apart types texts fs f is.over [] s w.state begun finished is.hands.code comes (part.code ++ (aims ++ e.code)) under (λ z m. inr (is.comes.named place x z m)) (g.apart under)
          (λ low. subst (λ (xs : List ℕ). AreApart f w.state begun xs []) (sym (is.comes.looks place x g.after g.gives)) (kept_none a types texts fs f place t fits w.state within low))
          (codes_apart f begun acted finished part.code (aims ++ e.code) r.apart
          (codes_apart f acted news finished aims e.code aims_apart
          (e.apart news finished (omega arith) (λ z o. elim o [ inl m ↦ inl (inl m) | inr m ↦ inl (inr (among_take n acted.pending z m)) ]))))

    first_begins : Begins types f s
    first_begins = begins_before types f s w.state is.hands.grown (begins_before_it a types texts fs f place t fits w.state within begins)

    acting : Acting types texts fs f in_loop s finished all_code
    acting = record {
      stated = all_fine.stated in_loop;
      ways = leaves_may types f in_loop s.living (acted.living ++ y ∷ []) (take s.outside s.living) (trees all_code) went;
      apart = all_apart (some_known types f a v s h first_begins) (some_knows types f a v s h first_begins);
    }
      where
        went : (k : List Known) → Knows f s.living k → Leaves f in_loop (acted.living ++ y ∷ []) (take s.outside s.living) (flow types f (trees all_code) (Some k))
        went k knows =
            subst (Leaves f in_loop (acted.living ++ y ∷ []) (take s.outside s.living)) (sym (falls k knows))
            (leaves_falling f in_loop (acted.living ++ y ∷ []) (take s.outside s.living) (final k knows) (known_there k knows))

  finished_does : Does types texts fs f a (with_next v) in_loop s finished
  finished_does = record {
    adds = adds;
    locals = λ are.
        own_added types a acted l (record { number = v.declared; variable = u; there = at; of = its_local a u })
        (locals_added types a begun acted part.grown.types part.registers
        (temporary_written a types texts fs f place t fits w.state within (locals_added types a s w.state is.hands.grown.types is.hands.registers are)));
    order = order_then s.types w.state.types acted.types is.hands.registers.1 (order_then w.state.types kept.types acted.types (type_ordered w.state.types t within) part.registers.1);
    follows = new;
    code = all_code;
    written =
        ap (λ (c : List Tree). (c ++ aims) ++ e.code) (part.written ∙ ap (λ (c : List Tree). (c ++ comes) ++ part.code) is.hands.written)
        ∙ append_assoc (((s.code ++ is.hands.code) ++ comes) ++ part.code) aims e.code
        ∙ append_assoc ((s.code ++ is.hands.code) ++ comes) part.code (aims ++ e.code)
        ∙ append_assoc (s.code ++ is.hands.code) comes (part.code ++ (aims ++ e.code))
        ∙ append_assoc s.code is.hands.code (comes ++ (part.code ++ (aims ++ e.code)));
    acts = acting;
    returns = λ b gives o k. fine_known types f (result_local a) texts fs all_code (all_fine b) o;
  }

  pub bound_owner_does : Does types texts fs f a (with_next v) in_loop s (end_pending n last done)
  bound_owner_does = subst (Does types texts fs f a (with_next v) in_loop s) (sym finished_is) finished_does
