-- What is given back as a whole is built where the result lies, which comes to life at the keyword and stands while all else ends, so control returns with it.
use Rattle.std.proofs.Common.{◌≡◌, ◌<◌, inl, inr, ℕ, suc, Bool, true, false, ◌&&◌, not, is_none, List, [], ◌∷◌, ◌++◌, Contains, drop, length, reverse, slice_get, slice_set, take, Option, None, Some, refl, sym, ap, ◌∙◌, subst, arith, append_assoc, if◌then◌else◌}
use Rattle.std.proofs.lemmas.Bool.{and_from, or_left}
use Rattle.std.proofs.lemmas.Option.{slice_get_within}
use Rattle.life_types.specs.TypeTests.{is_void}
use Rattle.life_types.specs.Types.{Types}
use Rattle.life_types.specs.declared.place.Place.{Place}
use Rattle.life_types.specs.declared.ty.NameId.{NameId}
use Rattle.life_types.specs.declared.ty.Ty.{Ty}
use Rattle.life_typed.specs.BaseTypes.{type_at}
use Rattle.life_core.specs.Function.{Function}
use Rattle.life_core.specs.Kinds.{is_object}
use Rattle.life_core.specs.Operands.{object_named}
use Rattle.life_core.specs.Tree.{Return, Returns, Tree, trees}
use Rattle.life_core.specs.declared.program.LocalKind.{LocalKind}
use Rattle.life_proper.specs.Checking.{Flow, before_next, flow, joined}
use Rattle.life_proper.specs.Knowing.{State as Knowing, known_at}
use Rattle.life_proper.specs.Placed.{object_at}
use Rattle.life_proper.specs.ReadyKnown.{can_leave, is_node_ready, set_known}
use Rattle.life_proper.specs.ResultsKnown.{IsKnownReady}
use Rattle.life_proper.specs.WellFormed.{can_live}
use Rattle.life_proper.specs.declared.known.Known.{Known}
use Rattle.life_proper.specs.declared.known.Known.TheVariants as known
use Rattle.life_well_typed.specs.Visible.{Visible}
use Rattle.life_writer.specs.Around.{Around, result_local}
use Rattle.life_writer.specs.Uses.{Act}
use Rattle.life_writer.specs.Variables.{end_pending}
use Rattle.life_writer.specs.Writing.{Gives, State, with_code, write}
use Rattle.life_elab.specs.Statements.{left}
use Rattle.life_elab_laws.proofs.Among.{Among, all_among, among_contains, among_drop, among_take, apart_reverse, ascend_apart, ascend_drop, ascend_low, contains_among, reverse_among}
use Rattle.life_elab_laws.proofs.Doing.{Acting, Does, DoesLevel}
use Rattle.life_elab_laws.proofs.EndSteps.{IsEnded, ended, ends_here}
use Rattle.life_elab_laws.proofs.Ending.{blank_beside, ends_there, set_blank}
use Rattle.life_elab_laws.proofs.Exits.{Knows, Leaves, MayKnow, leaves_may, none_leaves}
use Rattle.life_elab_laws.proofs.Falling.{Falls, falls_append, flow_append}
use Rattle.life_elab_laws.proofs.Following.{Adds, Follows, IsResultObject, adds_settled, adds_then, follows_again, follows_settled, knows_alive, settled, take_itself}
use Rattle.life_elab_laws.proofs.FormedVariables.{object_place}
use Rattle.life_elab_laws.proofs.Fronts.{IsFront, front_itself}
use Rattle.life_elab_laws.proofs.Gifts.{Gift, IsPlaceOf, nothing as no_gift}
use Rattle.life_elab_laws.proofs.GivenApart.{Apart, AreApart, Open, codes_apart, same_apart}
use Rattle.life_elab_laws.proofs.GivingBack.{fine_known, known_append, nowhere_ready}
use Rattle.life_elab_laws.proofs.Growing.{Begins, begins_before}
use Rattle.life_elab_laws.proofs.Handing.{GoesHanding, RunsHanding, handed_apart, HandingAlone}
use Rattle.life_elab_laws.proofs.Knowledge.{at_set, beside_set}
use Rattle.life_elab_laws.proofs.Leaving.{left_level, past_fine}
use Rattle.life_elab_laws.proofs.Nowhere.{nowhere_flows}
use Rattle.life_elab_laws.proofs.OperandsThere.{object_there, type_there}
use Rattle.life_elab_laws.proofs.OrderedTypes.{order_then}
use Rattle.life_elab_laws.proofs.OwnLocals.{first_own}
use Rattle.life_elab_laws.proofs.PendingEnds.{ends_pending, none_kept}
use Rattle.life_elab_laws.proofs.PendingTemporaries.{ArePending, temporary_later}
use Rattle.life_elab_laws.proofs.Returning.{result_ready}
use Rattle.life_elab_laws.proofs.AdmittedTypes.{IsBuilt}
use Rattle.life_elab_laws.proofs.Setting.{Setting}
use Rattle.life_elab_laws.proofs.Shaped.{is_passing}
use Rattle.life_elab_laws.proofs.Shaping.{IsFine, fine_append, stated_alone, stated_append}
use Rattle.life_elab_laws.proofs.SomeKnown.{some_known, some_knows}
use Rattle.life_elab_laws.proofs.TemporaryBirths.{no_reference}
use Rattle.life_elab_laws.proofs.TemporaryEnds.{temporary_ends}
use Rattle.life_elab_laws.proofs.VariablePlaces.{Stands, stands_later}
use Rattle.life_elab_laws.proofs.WrittenLocals.{locals_added}
use Rattle.life_elab_laws.proofs.FilledObjects.{FillsBehind, GoesFilling, RunsFilling}
use Rattle.life_elab_laws.proofs.Coming.{Comes}

module _ (a : Around) (types : Types) (texts : ℕ) (fs : List Function) (f : Function) (setting : Setting a types fs f) (v : Visible) (in_loop : Bool) (s : State) (h : Follows types f a v s) (object : IsResultObject a s)
    (owner : IsBuilt a.program.types (type_at a.program.types a.function.result)) (some : is_void (type_at a.program.types a.function.result) ≡ false) (keyword token : Place)
    {A : Type 0} (found : Gives A) (Q : Gift types texts fs f A) (given : List ℕ) (hands : HandingAlone types texts fs f given s found Q) (comes_to : Comes types texts fs f given s found Q hands (type_at a.program.types a.function.result)) (act : Act) where
  abbrev t : Ty
  t = type_at a.program.types a.function.result

  abbrev pub x : ℕ
  x = result_local a

  -- ---- where it lies

  -- before all that is the function's own
  before_own : x < first_own a
  before_own = subst (λ (n : ℕ). x < n) (sym (ap (λ (b : Bool). if b then 0 else suc (length a.function.parameters)) some)) (omega arith)

  pub below : x < length s.locals
  below = slice_get_within s.locals x object.local object.there

  -- no variable does
  pub no_variable : Contains s.living x → ⊥
  no_variable c = let is = h.living x (contains_among s.living x c) in let far = is.beyond object.local object.there object.nameless in omega (arith, far, before_own)

  there : Stands a v.visible found.state
  there = stands_later a v.visible s found.state hands.grown h.stands

  not_living : Contains found.state.living x → ⊥
  not_living c = no_variable (subst (λ (xs : List ℕ). Contains xs x) hands.grown.living c)

  not_pending : Among x found.state.pending → ⊥
  not_pending m = let is = there.pends.each x m in omega (arith, is.beyond, before_own)

  -- ---- it is filled, and nothing else sees it

  abbrev pub begun : State
  begun = with_code (found.state.code ++ comes_to.code keyword x) found.state

  abbrev pub acted : State
  acted = act keyword (object_named x) begun

  -- what stands there isn't it
  pub not_there : Open found.state x → ⊥
  not_there (inl m) = not_living (among_contains found.state.living x m)
  not_there (inr m) = not_pending m

  module _ (fills : FillsBehind types texts fs f x t Q found.given begun acted) where
    living_same : acted.living ≡ found.state.living
    living_same = fills.grown.living

    pends : ArePending (first_own a) acted
    pends = fills.grown.pends _ there.pends

    -- it stands beside what stands behind it
    other : (y : ℕ) → Open acted y → x ≡ y → ⊥
    other y (inl m) e = not_living (among_contains found.state.living x (subst (λ (z : ℕ). Among z found.state.living) (sym e) (subst (Among y) living_same m)))
    other y (inr m) e = let is = pends.each y m in omega (arith, e, is.beyond, before_own)

    -- ---- the temporaries end, and then the variables

    abbrev n : ℕ
    n = length s.pending

    abbrev over : List ℕ
    over = reverse (drop n acted.pending)

    e : IsEnded types texts fs f over token acted
    e = ended types texts fs f over token acted

    abbrev finished : State
    finished = record acted { code = acted.code ++ e.code; pending = take n acted.pending }

    finished_is : end_pending n token acted ≡ finished
    finished_is = ap (λ (r : State). record r { pending = take n acted.pending }) e.written

    abbrev ending : List ℕ
    ending = reverse (drop 0 acted.living)

    d : IsEnded types texts fs f ending keyword finished
    d = ended types texts fs f ending keyword finished

    abbrev behind : State
    behind = write (Returns keyword) (with_code (finished.code ++ d.code) finished)

    -- ---- all that is written

    abbrev first : State
    first = settled types f s found.state

    first_follows : Follows types f a v first
    first_follows = follows_settled types f a v s found.state hands.grown h

    same_variables : IsFront first.variables acted.variables
    same_variables = subst (IsFront first.variables) (sym fills.grown.variables) (front_itself first.variables)

    same_pending : take n acted.pending ≡ take n found.state.pending
    same_pending = none_kept s.pending acted.pending h.pending ∙ sym (none_kept s.pending found.state.pending h.pending)

    follows : Follows types f a v finished
    follows =
        follows_again types f a v first finished v.declared first_follows fills.grown.locals fills.grown.types same_variables living_same same_pending
        (omega (arith, fills.grown.outside, ap length living_same, first_follows.outside)) (ap length fills.grown.variables ∙ first_follows.count) (omega arith)

    adds : Adds types f s finished
    adds =
        adds_then types f s first finished (adds_settled types f s found.state hands.grown)
        (record {
          locals = fills.grown.locals;
          table = fills.grown.types;
          variables = same_variables;
          living = ap (take (length first.living)) living_same ∙ take_itself first.living;
          pending = same_pending;
          outside = fills.grown.outside;
        })

    abbrev comes : List Tree
    comes = comes_to.code keyword x

    abbrev all_code : List Tree
    all_code = hands.code ++ (comes ++ (fills.code ++ e.code))

    abbrev back : List Tree
    back = d.code ++ Returns keyword ∷ []

    -- ---- in the finished function

    module _ (b : Begins types f behind) where
      begins : Begins types f found.state
      begins = begins_before types f begun acted fills.grown b

      it : slice_get f.locals x ≡ Some object.local
      it = begins.locals x object.local (hands.grown.locals x object.local object.there)

      is_there : object_at types f x ≡ true
      is_there = object_there types f x object.local it object.kind

      is_place : IsPlaceOf types texts fs f t false (object_named x)
      is_place =
          object_place types texts fs f x t false is_there
          (type_there types f x object.local t it (begins.table object.local.ty.0 t (hands.grown.types object.local.ty.0 t object.typed)) (no_reference a.program.types t (inr owner)))

      can : can_live types texts fs f x ≡ true
      can = or_left (object_at types f x) _ is_there

      found_first : RunsHanding types texts fs f (no_gift types texts fs f) tt given s found Q hands.code
      found_first = hands.runs begins tt

      runs : RunsFilling types texts fs f x t Q found.given begun acted fills.code
      runs = fills.runs (omega (arith, below, hands.grown.count)) is_there b is_place found_first.typed

      ends_fine : IsFine types texts fs f e.code
      ends_fine =
          e.fine (all_among (ends_here types texts fs f) over (λ z m. temporary_ends types texts fs f (first_own a) setting.own z (temporary_later _ acted.locals f.locals acted.types.types types.types z b.locals b.table (pends.each z (ends_pending s.pending acted.pending z m)))))

      all_fine : IsFine types texts fs f all_code
      all_fine =
          fine_append types texts fs f hands.code (comes ++ (fills.code ++ e.code)) found_first.fine
          (fine_append types texts fs f comes (fills.code ++ e.code) (comes_to.fine found_first.typed keyword x can is_place) (fine_append types texts fs f fills.code e.code runs.fine ends_fine))

      -- ---- on a way

      module _ (k : List Known) (knows : Knows f s.living k) where
        g : GoesHanding types texts fs f given s found Q hands.code k
        g = found_first.goes k (knows_alive types f a v s h k knows) tt

        lt : x < length g.after
        lt = omega (arith, g.alive.sized, slice_get_within f.locals x object.local it)

        lasting : is_passing object.local ≡ false
        lasting = ap (λ (o : Option NameId). is_none o && not (is_object object.local.kind)) object.nameless ∙ ap (λ (q : LocalKind). not (is_object q)) object.kind

        blank : known_at g.after x ≡ known.Blank
        blank = g.alive.blank x object.local it lasting (λ m. not_living (among_contains found.state.living x m)) not_pending

        aside : Among x given → ⊥
        aside m = let far = ascend_low (length s.locals) given x hands.ascend m in omega (arith, far, below)

        -- it has come to life
        abbrev j : List Known
        j = slice_set g.after x known.Ready

        r : GoesFilling types texts fs f x t begun acted fills.code g.after
        r = runs.goes g.after g.alive blank g.gives

        -- .. and is there
        abbrev filled : List Known
        filled = slice_set r.after x known.Ready

        x_there : x < length r.after
        x_there = omega (arith, r.alive.sized, slice_get_within f.locals x object.local it)

        -- its temporaries have ended, and then all that lives
        abbrev middle : List Known
        middle = set_blank over filled

        abbrev last : List Known
        last = set_blank ending middle

        ready : can_leave filled over ≡ true
        ready =
            ends_there over filled (apart_reverse (drop n acted.pending) (ascend_apart 0 (drop n acted.pending) (ascend_drop n 0 acted.pending pends.ascend)))
            (λ z m. beside_set r.after x z known.Ready (λ e. other z (inr (ends_pending s.pending acted.pending z m)) e) ∙ r.alive.pending z (ends_pending s.pending acted.pending z m))

        lives : (z : ℕ) → Among z ending → Among z acted.living
        lives z m = among_drop 0 acted.living z (reverse_among (drop 0 acted.living) z m)

        all_ready : can_leave middle ending ≡ true
        all_ready =
            ends_there ending middle (apart_reverse (drop 0 acted.living) (ascend_apart 0 (drop 0 acted.living) (ascend_drop 0 0 acted.living follows.ascend)))
            (λ z m. let c = among_contains acted.living z (lives z m) in
            blank_beside over filled z (λ p. pends.beside z (ends_pending s.pending acted.pending z p) c) ∙ beside_set r.after x z known.Ready (λ e. other z (inl (lives z m)) e) ∙ r.alive.living z c)

        falls : Falls types f all_code k middle
        falls =
            falls_append types f hands.code (comes ++ (fills.code ++ e.code)) k (set_known known.Ready given g.after) middle g.falls
            (falls_append types f comes (fills.code ++ e.code) (set_known known.Ready given g.after) j middle
            (comes_to.falls found_first keyword x g.after g.gives g.blank blank aside)
            (falls_append types f fills.code e.code j filled middle r.falls (e.falls filled ready)))

        falls_there : Falls types f (all_code ++ d.code) k last
        falls_there = falls_append types f all_code d.code k middle last falls (d.falls middle all_ready)

        -- it is there where control returns
        written_there : known_at last x ≡ known.Ready
        written_there =
            blank_beside ending middle x (λ m. other x (inl (lives x m)) refl)
            ∙ blank_beside over filled x (λ m. other x (inr (ends_pending s.pending acted.pending x m)) refl)
            ∙ at_set r.after x known.Ready x_there

        leaves_there : Leaves f in_loop finished.living (take s.outside s.living) (flow types f (trees (all_code ++ back)) (Some k))
        leaves_there =
            subst (Leaves f in_loop finished.living (take s.outside s.living))
            (sym (ap (λ (c : List Tree). flow types f (trees c) (Some k)) (sym (append_assoc all_code d.code (Returns keyword ∷ [])))
            ∙ flow_append types f (all_code ++ d.code) (Returns keyword ∷ []) (Some k)
            ∙ ap (λ (q : Flow). joined (before_next q) (flow types f (trees (Returns keyword ∷ [])) q.next)) falls_there))
            (record {
              fine = and_from (is_node_ready types f last Return) true (result_ready a types texts fs f setting v in_loop last written_there) refl;
              next = tt;
              on_break = none_leaves f in_loop (take s.outside s.living);
              on_continue = none_leaves f in_loop (take s.outside s.living);
              on_true = refl;
              on_false = refl;
            })

        -- ---- what is given over is new, and nothing looks at it

        all_apart : Apart f s finished (trees all_code)
        all_apart under =
            handed_apart types texts fs f given [] s found.state begun finished hands.code comes (fills.code ++ e.code) under (λ z m. inr (comes_to.named keyword x z m)) (g.apart under)
            (λ low. subst (λ (xs : List ℕ). AreApart f found.state begun xs []) (sym (comes_to.looks keyword x g.after g.gives))
            (record { count = omega arith; below = low; opens = λ z o. inl o; gives = λ z is_object m. absurd m; looks = λ z is_object m. absurd m; apart = λ z is_object m q. q }))
            (codes_apart f begun acted finished fills.code e.code r.apart
            (e.apart acted finished (omega arith) (λ z o. elim o [ inl m ↦ inl (inl m) | inr m ↦ inl (inr (among_take n acted.pending z m)) ])))

      -- what is known where control returns
      known_there : (o : Knowing) → MayKnow f s.living o → IsKnownReady x (flow types f (trees d.code) (flow types f (trees all_code) o).next).next
      known_there None known =
          nowhere_ready x (flow types f (trees d.code) (flow types f (trees all_code) None).next).next
          (nowhere_flows types f (trees d.code) (flow types f (trees all_code) None).next (nowhere_flows types f (trees all_code) None refl).next).next
      known_there (Some k) known =
          subst (λ (q : Flow). IsKnownReady x (flow types f (trees d.code) q.next).next) (sym (falls k known))
          (subst (λ (q : Flow). IsKnownReady x q.next) (sym (d.falls (middle k known) (all_ready k known))) (written_there k known))

      first_begins : Begins types f s
      first_begins = begins_before types f s found.state hands.grown begins

      acting : Acting types texts fs f in_loop s behind (all_code ++ back)
      acting = record {
        stated =
            stated_append types texts fs f in_loop all_code back (all_fine.stated in_loop)
            (stated_append types texts fs f in_loop d.code (Returns keyword ∷ []) ((past_fine types texts fs f a setting v finished follows b 0 keyword d).stated in_loop)
            (stated_alone types texts fs f in_loop (Returns keyword) (record { statement = refl; tests = refl; breaks = refl; given = refl; formed = refl })));
        ways = leaves_may types f in_loop s.living finished.living (take s.outside s.living) (trees (all_code ++ back)) (λ k known. leaves_there k known);
        apart =
            codes_apart f s finished behind all_code back (all_apart (some_known types f a v s h first_begins) (some_knows types f a v s h first_begins))
            (codes_apart f finished finished behind d.code (Returns keyword ∷ []) (d.apart finished finished (omega arith) (λ z o. inl o)) (same_apart f finished behind refl refl refl));
      }

    returned_from : Does types texts fs f a v in_loop s behind
    returned_from = record {
      adds = adds;
      locals = λ are. locals_added types a begun acted fills.grown.types fills.registers (locals_added types a s found.state hands.grown.types hands.registers are);
      order = order_then s.types found.state.types acted.types hands.registers.1 fills.registers.1;
      follows = follows;
      code = all_code ++ back;
      written =
          ap (λ (c : List Tree). ((c ++ e.code) ++ d.code) ++ Returns keyword ∷ []) (fills.written ∙ ap (λ (c : List Tree). (c ++ comes) ++ fills.code) hands.written)
          ∙ ap (λ (c : List Tree). (c ++ d.code) ++ Returns keyword ∷ [])
          (append_assoc ((s.code ++ hands.code) ++ comes) fills.code e.code ∙ append_assoc (s.code ++ hands.code) comes (fills.code ++ e.code) ∙ append_assoc s.code hands.code (comes ++ (fills.code ++ e.code)))
          ∙ append_assoc (s.code ++ all_code) d.code (Returns keyword ∷ [])
          ∙ append_assoc s.code all_code back;
      acts = acting;
      returns = λ b gives o known.
          let between : Knowing = (flow types f (trees all_code) o).next in
          known_append types f x all_code back o (fine_known types f x texts fs all_code (all_fine b) o)
          (known_append types f x d.code (Returns keyword ∷ []) between (fine_known types f x texts fs d.code (past_fine types texts fs f a setting v finished follows b 0 keyword d) between)
          (known_there b o known, tt));
    }

    whole_left : DoesLevel types texts fs f a v in_loop s (left 0 keyword (Returns keyword) finished)
    whole_left = record {
      does = subst (λ (q : State). Does types texts fs f a v in_loop s (write (Returns keyword) q)) (sym d.written) returned_from;
      level = left_level types texts fs f finished 0 keyword (Returns keyword) ∙ living_same ∙ hands.grown.living;
    }

    -- .. however that is told
    pub filled_back : (y : State) → y ≡ acted → DoesLevel types texts fs f a v in_loop s (left 0 keyword (Returns keyword) (end_pending (length s.pending) token y))
    filled_back y same =
        subst (λ (y : State). DoesLevel types texts fs f a v in_loop s (left 0 keyword (Returns keyword) (end_pending (length s.pending) token y))) (sym same)
        (subst (λ (y : State). DoesLevel types texts fs f a v in_loop s (left 0 keyword (Returns keyword) y)) (sym finished_is) whole_left)
