-- A reference that is declared with a temporary, which comes to life right before it and lives as long as it does.
use Rattle.std.proofs.Common.{◌≡◌, ◌<◌, ◌⊎◌, inl, inr, ℕ, Bool, true, false, List, [], ◌∷◌, ◌++◌, Contains, length, slice_get, slice_set, take, Some, refl, sym, ap, ◌∙◌, subst, arith, append_assoc, length-append, append-nil}
use Rattle.std.proofs.lemmas.Bool.{or_left}
use Rattle.std.proofs.lemmas.List.Elements.{Contains-append_left, Contains-push_cases}
use Rattle.std.proofs.lemmas.Option.{slice_get_within, same_Some}
use Rattle.life_elab_laws.proofs.ObjectTypes.{is_admitted_variable, is_target}
use Rattle.life_types.specs.TypeTests.{is_value}
use Rattle.life_types.specs.Types.{Types}
use Rattle.life_types.specs.declared.place.Place.{Place}
use Rattle.life_types.specs.declared.ty.Ty.{Ty}
use Rattle.life_types.specs.declared.ty.Ty.TheVariants as ty
use Rattle.life_types.specs.declared.ty.TyId.{TyId}
use Rattle.life_typed.specs.BaseTypes.{type_at}
use Rattle.life_typed.specs.declared.typed_program.TypedLocal.{TypedLocal}
use Rattle.life_core.specs.Function.{Function}
use Rattle.life_core.specs.declared.instr.Form.{Form}
use Rattle.life_core.specs.Operands.{Place as Aimed, object_named, whole}
use Rattle.life_core.specs.Step.{Aim, Live}
use Rattle.life_core.specs.Tree.{Acts as Act, Tree, trees}
use Rattle.life_core.specs.declared.program.Local.{Local}
use Rattle.life_core.specs.declared.program.LocalKind.TheVariants.{Object}
use Rattle.life_proper.specs.Checking.{flow}
use Rattle.life_proper.specs.Knowing.{known_at}
use Rattle.life_proper.specs.Placed.{object_at}
use Rattle.life_proper.specs.Placed as placed
use Rattle.life_proper.specs.ReadyKnown.{can_leave, set_known}
use Rattle.life_proper.specs.WellFormed.{goes_to, is_source_of}
use Rattle.life_proper.specs.declared.known.Known.{Known}
use Rattle.life_proper.specs.declared.known.Known.TheVariants as known
use Rattle.life_well_typed.specs.Visible.{Visible, with_next}
use Rattle.life_writer.specs.Around.{Around, result_local}
use Rattle.life_writer.specs.Registers.{type_number, typed_with}
use Rattle.life_writer.specs.Temporaries.{nameless_of, scoped}
use Rattle.life_writer.specs.Variables.{end_pending, variable, variable_local}
use Rattle.life_writer.specs.Writing.{Gives, State, with_code}
use Rattle.life_elab_laws.proofs.Among.{Among, all_among, among_either, among_left, among_right, among_take, ascend_more}
use Rattle.life_elab_laws.proofs.CallParts.{goes_object}
use Rattle.life_elab_laws.proofs.Declaring.{adds_new, begins_old, follows_new, its_local, knows_new, new_below, new_then, with_new}
use Rattle.life_elab_laws.proofs.Doing.{Does}
use Rattle.life_elab_laws.proofs.EndSteps.{IsEnded, ended, ends_here}
use Rattle.life_elab_laws.proofs.EndedTemporaries.{ending, ends_alive, ends_apart, ends_below, ends_pending, ends_temporary}
use Rattle.life_elab_laws.proofs.Ending.{blank_beside, blank_length, blank_set, ends_there, set_blank}
use Rattle.life_elab_laws.proofs.Exits.{Knows, Leaves, knows_same, leaves_falling}
use Rattle.life_elab_laws.proofs.Falling.{Falls, falls_append, falls_filling}
use Rattle.life_elab_laws.proofs.Filling.{aimed_filling, filling_fills}
use Rattle.life_elab_laws.proofs.Following.{Adds, Follows, IsLiving, adds_settled, adds_then, alive_knows, follows_below, follows_settled, knows_alive, may_end, settled}
use Rattle.life_elab_laws.proofs.FormedVariables.{keeps_all, object_place}
use Rattle.life_elab_laws.proofs.Fronts.{front_append, front_then, last_there}
use Rattle.life_elab_laws.proofs.Gifts.{Gift, IsPlaceOf, nothing}
use Rattle.life_elab_laws.proofs.GivingBack.{fine_known}
use Rattle.life_elab_laws.proofs.GivenApart.{Apart, AreApart, IsBelow, none_apart, one_more, then_opens, apart_then, given_of, parts_of}
use Rattle.life_elab_laws.proofs.LookedLocals.{looked_of, looked_spot}
use Rattle.life_elab_laws.proofs.Growing.{Begins, begins_before}
use Rattle.life_elab_laws.proofs.Knowledge.{at_set, beside_set, ready_set, set_length}
use Rattle.life_elab_laws.proofs.Making.{Alive}
use Rattle.life_elab_laws.proofs.NewVariables.{bound_given, reference_declared, reference_kept}
use Rattle.life_elab_laws.proofs.OperandsThere.{object_there, type_there}
use Rattle.life_elab_laws.proofs.OrderedTypes.{HasPartsIn, order_then, type_ordered}
use Rattle.life_elab_laws.proofs.PendingTemporaries.{none_pending}
use Rattle.life_elab_laws.proofs.Setting.{Setting}
use Rattle.life_elab_laws.proofs.Shaping.{IsFine, IsFineStep, fine_acts, fine_append}
use Rattle.life_elab_laws.proofs.SomeKnown.{some_known, some_knows}
use Rattle.life_elab_laws.proofs.TemporaryEnds.{TemporariesEnd, temporary_ends}
use Rattle.life_elab_laws.proofs.Types.{type_added, types_before}
use Rattle.life_elab_laws.proofs.VariablePlaces.{IsVariableAt}
use Rattle.life_elab_laws.proofs.Under.{ActingUnder, DoesUnder, MayBeKnown, does_plain, leaves_under}
use Rattle.life_elab_laws.proofs.WrittenLocals.{AreWrittenLocals, fits_below, locals_added, own_added, register_pushed, value_fits, FitsTemporary}
use Rattle.life_elab_laws.proofs.Targets.{value_target}
use Rattle.life_elab_laws.proofs.TemporaryBirths.{no_reference}
use Rattle.life_elab_laws.proofs.Handing.{Handing, HandingAlone, RunsHanding, handed_apart}
use Rattle.life_proper.specs.GivenOver.{given_spot}
use Rattle.life_elab_laws.proofs.OwnLocals.{first_own}

-- what a value is of is in the table
pub value_below : (table : Types) (t : Ty) → is_value t ≡ true → HasPartsIn table t
value_below table t worth ordered = fits_below table table (omega arith) t (value_fits table t worth)

-- ---- the temporary lives, and nothing more is visible

module _ (a : Around) (types : Types) (texts : ℕ) (fs : List Function) (f : Function) (place : Place) (t : Ty) (fits : FitsTemporary types t) (s : State) (within : HasPartsIn s.types t) where
  abbrev pub temporary_local : Local
  temporary_local = nameless_of Object place (type_number t (typed_with t s))

  -- where it is there
  abbrev pub with_temporary : State
  with_temporary = ((scoped place t).begins s).state

  -- it stands from here on

  kept_count : length s.locals < length with_temporary.locals
  kept_count = omega (arith, length-append s.locals (temporary_local ∷ []))

  pub kept_none : IsBelow s → AreApart f s with_temporary [] []
  kept_none = none_apart f s with_temporary (omega (arith, kept_count)) (λ x o. one_more (length s.locals) (length with_temporary.locals) s.living s.pending x kept_count o)

  pub kept_then : (looked given : List ℕ) → (IsBelow s → AreApart f s s looked given) → IsBelow s → AreApart f s with_temporary looked given
  kept_then looked given h below =
      then_opens f s s with_temporary looked given (omega (arith, kept_count)) (λ x o. one_more (length s.locals) (length with_temporary.locals) s.living s.pending x kept_count o) below (h below)

  pub begins_before_it : Begins types f with_temporary → Begins types f s
  begins_before_it b = record {
    locals = front_then s.locals with_temporary.locals f.locals (front_append s.locals (temporary_local ∷ [])) b.locals;
    table = front_then s.types.types with_temporary.types.types types.types (types_before s.types.types t) b.table;
  }

  module _ (b : Begins types f with_temporary) where
    there : slice_get f.locals (length s.locals) ≡ Some temporary_local
    there = b.locals (length s.locals) temporary_local (last_there s.locals temporary_local)

    kept_object : object_at types f (length s.locals) ≡ true
    kept_object = object_there types f (length s.locals) temporary_local there refl

    kept_typed : placed.type_at types f (length s.locals) ≡ t
    kept_typed = type_there types f (length s.locals) temporary_local t there (b.table temporary_local.ty.0 t (type_added s.types.types t)) (no_reference types t fits)

    pub kept_place : IsPlaceOf types texts fs f t false (object_named (length s.locals))
    kept_place = object_place types texts fs f (length s.locals) t false kept_object kept_typed

    pub temporary_below : length s.locals < length f.locals
    temporary_below = slice_get_within f.locals (length s.locals) temporary_local there

    -- it can live, and a call can give it its result
    pub temporary_lives : (form : Form) → IsFineStep types texts fs f (Live (length s.locals) form)
    temporary_lives form = record {
      given = refl;
      formed = or_left (object_at types f (length s.locals)) _ kept_object;
    }

    pub temporary_goes : is_value t ≡ true → goes_to types texts fs f t (Some (whole (length s.locals))) ≡ true
    temporary_goes worth = goes_object types texts fs f t (length s.locals) worth kept_typed kept_object

  pub temporary_written : AreWrittenLocals types a s → AreWrittenLocals types a with_temporary
  temporary_written are =
      locals_added types a s with_temporary (types_before s.types.types t)
      (register_pushed types with_temporary.types s.locals temporary_local (record { nameless = refl; ty = t; typed = type_added s.types.types t; fits = inr (inl (refl, fits)) }), type_ordered s.types t within) are

  module _ (v : Visible) (h : Follows types f a v s) where
    opened : (y : ℕ) → Contains (s.living ++ length s.locals ∷ []) y → y < length (s.locals ++ temporary_local ∷ [])
    opened y c = elim (Contains-push_cases s.living (length s.locals) y c) [
      | inl old ↦ omega (arith, h.stands.opened y old, length-append s.locals (temporary_local ∷ []))
      | inr e ↦ omega (arith, e, length-append s.locals (temporary_local ∷ []))
    ]

    moved : (x : ℕ) (w : TypedLocal) → IsVariableAt a s x w → IsVariableAt a with_temporary x w
    moved x w is = record {
      local = is.local;
      there = front_append s.locals (temporary_local ∷ []) (variable s x) is.local is.there;
      typed = is.typed;
      kind = is.kind;
      named = is.named;
      lives = Contains-append_left s.living (length s.locals ∷ []) (variable s x) is.lives;
    }

    lives : (y : ℕ) → Among y s.living ⊎ Among y (length s.locals ∷ []) → IsLiving (first_own a) with_temporary y
    lives y (inl m) = let is = h.living y m in record {
      beyond = λ z there none. is.beyond is.local is.there (ap (λ (r : Local). r.name) (same_Some is.local z (sym (front_append s.locals (temporary_local ∷ []) y is.local is.there) ∙ there)) ∙ none);
      local = is.local;
      there = front_append s.locals (temporary_local ∷ []) y is.local is.there;
      lasts = is.lasts;
    }
    lives y (inr (inl e)) = record { beyond = λ z there none. omega (arith, e, h.stands.pends.past); local = temporary_local; there = subst (λ (z : ℕ). slice_get with_temporary.locals z ≡ Some temporary_local) e (last_there s.locals temporary_local); lasts = refl }
    lives y (inr (inr none)) = absurd none

    sorted : Begins types f with_temporary → (y : ℕ) → Among y s.living ⊎ Among y (length s.locals ∷ []) → may_end types f y ≡ true
    sorted b y (inl m) = h.sorts (begins_before_it b) y m
    sorted b y (inr (inl e)) = subst (λ (z : ℕ). may_end types f z ≡ true) e (or_left (object_at types f (length s.locals)) _ (kept_object b))
    sorted b y (inr (inr none)) = absurd none

    pub follows_temporary : Follows types f a v with_temporary
    follows_temporary = record {
      count = h.count;
      visible = h.visible;
      stands = record {
        table = front_then a.program.types.types s.types.types with_temporary.types.types h.stands.table (types_before s.types.types t);
        opened = opened;
        pends = none_pending _ with_temporary.locals with_temporary.types.types with_temporary.living s.pending (omega (arith, h.stands.pends.past, length-append s.locals (temporary_local ∷ []))) h.pending;
        seen = λ x w c at. moved x w (h.stands.seen x w c at);
        apart = h.stands.apart;
      };
      ascend = ascend_more 0 s.living (length s.locals) h.ascend (omega arith) (λ y m. follows_below types f a v s h y m);
      outside = omega (arith, length-append s.living (length s.locals ∷ []), h.outside);
      living = λ y m. lives y (among_either s.living (length s.locals ∷ []) y m);
      sorts = λ b y m. sorted b y (among_either s.living (length s.locals ∷ []) y m);
      pending = h.pending;
    }

    pub adds_temporary : Adds types f s with_temporary
    adds_temporary = record {
      locals = front_append s.locals (temporary_local ∷ []);
      table = types_before s.types.types t;
      variables = λ n x at. at;
      living = before s.living;
      pending = refl;
      outside = refl;
    }
      where
        before : (xs : List ℕ) → take (length xs) (xs ++ length s.locals ∷ []) ≡ xs
        before [] = refl
        before (x ∷ xs) = ap (λ (zs : List ℕ). x ∷ zs) (before xs)

    -- ---- what is known

    module _ (b : Begins types f with_temporary) (k : List Known) (knows : Knows f s.living k) where
      pub blank_temporary : known_at k (length s.locals) ≡ known.Blank
      blank_temporary = knows.blank (length s.locals) temporary_local (there b) refl (λ m. let below = follows_below types f a v s h (length s.locals) m in omega (arith, below))

      pub knows_temporary : Knows f (s.living ++ length s.locals ∷ []) (slice_set k (length s.locals) known.Ready)
      knows_temporary = record {
        sized = set_length k (length s.locals) known.Ready ∙ knows.sized;
        alive = λ y m. alive y (among_either s.living (length s.locals ∷ []) y m);
        blank = λ y z at lasts no.
            beside_set k (length s.locals) y known.Ready (λ e. no (among_right s.living (length s.locals ∷ []) y (inl e)))
            ∙ knows.blank y z at lasts (λ m. no (among_left s.living (length s.locals ∷ []) y m));
      }
        where
          lt : length s.locals < length k
          lt = omega (arith, knows.sized, slice_get_within f.locals (length s.locals) temporary_local (there b))

          alive : (y : ℕ) → Among y s.living ⊎ Among y (length s.locals ∷ []) → known_at (slice_set k (length s.locals) known.Ready) y ≡ known.Ready
          alive y (inl m) = beside_set k (length s.locals) y known.Ready (λ e. let below = follows_below types f a v s h y m in omega (arith, e, below)) ∙ knows.alive y m
          alive y (inr (inl e)) = subst (λ (z : ℕ). known_at (slice_set k (length s.locals) known.Ready) z ≡ known.Ready) e (at_set k (length s.locals) known.Ready lt)
          alive y (inr (inr none)) = absurd none

-- ---- the whole: what is written first, the temporary, and the reference that is aimed at it

module _ (a : Around) (types : Types) (texts : ℕ) (fs : List Function) (f : Function) (setting : Setting a types fs f) (v : Visible) (in_loop : Bool) (last : Place)
    (u : TypedLocal) (s : State) (h : Follows types f a v s) (at : slice_get a.function.locals v.declared ≡ Some u) (built : is_admitted_variable a.program.types u.ty ≡ true)
    (target : TyId) (constant : Bool) (found : slice_get a.program.types.types u.ty.0 ≡ Some (ty.Reference target constant)) (worth : is_value (type_at a.program.types target) ≡ true) (place : Place) where
  abbrev t : Ty
  t = type_at a.program.types target

  wide : is_target a.program.types (type_at a.program.types target) ≡ true
  wide = value_target a.program.types (type_at a.program.types target) worth

  -- .. behind what gave z
  module _ {A B : Type 0} (P : Gift types texts fs f B) (z : B) (w : Gives A) (Q : Gift types texts fs f A) (over : List ℕ) (made : Handing types texts fs f P z over s w Q) where
    -- what has to be known
    abbrev More : List Known → Type 0
    More = P.ready z (length s.locals)

    -- the temporary, and the reference
    abbrev x : ℕ
    x = length w.state.locals

    abbrev kept : State
    kept = with_temporary a types texts fs f place t (inl worth) w.state (value_below w.state.types t worth)

    abbrev y : ℕ
    y = length kept.locals

    -- what brings the temporary to life
    module _ (brings : List Tree) (fine : Begins types f kept → Q.typed w.given → IsFine types texts fs f brings)
        (falls : Begins types f kept → RunsHanding types texts fs f P z over s w Q made.code → (k : List Known) → length k ≡ length f.locals → Q.ready w.given x k → ((z : ℕ) → Among z over → known_at k z ≡ known.Blank) → known_at k x ≡ known.Blank
        → Falls types f brings (set_known known.Ready over k) (slice_set k x known.Ready))
        (given : List ℕ) (named : (z : ℕ) → Among z (given_of (trees brings)) → Among z given ⊎ Among z over)
        (apart : Begins types f kept → Q.typed w.given → (k : List Known) → Alive f w.state k → Q.ready w.given x k → known_at k x ≡ known.Blank → IsBelow w.state → AreApart f w.state kept (looked_of (trees brings)) given)
        (told : Begins types f s → P.typed z) (some : Begins types f s → MayBeKnown f More) where
      abbrev aims : List Tree
      aims = Act place (Aim (whole y) (Aimed (object_named x))) ∷ []

      abbrev code : List Tree
      code = brings ++ aims

      -- without its other temporaries, which end behind it
      abbrev there_first : State
      there_first = settled types f s w.state

      first : Follows types f a v there_first
      first = follows_settled types f a v s w.state made.grown h

      abbrev there_kept : State
      there_kept = with_temporary a types texts fs f place t (inl worth) there_first (value_below there_first.types t worth)

      second : Follows types f a v there_kept
      second = follows_temporary a types texts fs f place t (inl worth) there_first (value_below there_first.types t worth) v first

      abbrev l : Local
      l = variable_local a u

      adds : Adds types f s (with_new l there_kept)
      adds =
          adds_then types f s there_first (with_new l there_kept) (adds_settled types f s w.state made.grown)
          (adds_then types f there_first there_kept (with_new l there_kept) (adds_temporary a types texts fs f place t (inl worth) there_first (value_below there_first.types t worth) v first) (adds_new types f a setting.front v u l (its_local a u) there_kept second at built))

      abbrev done : State
      done = with_code (w.state.code ++ code) (with_new l kept)

      can : TemporariesEnd types texts fs f (first_own a)
      can = temporary_ends types texts fs f (first_own a) setting.own

      abbrev ends : List ℕ
      ends = ending types texts fs f s w.state made.grown _ h.stands.pends last

      e : IsEnded types texts fs f ends last done
      e = ended types texts fs f ends last done

      abbrev finished : State
      finished = record done { code = done.code ++ e.code; pending = take (length s.pending) w.state.pending }

      finished_is : end_pending (length s.pending) last done ≡ finished
      finished_is = ap (λ (r : State). record r { pending = take (length s.pending) w.state.pending }) e.written

      abbrev all_code : List Tree
      all_code = made.code ++ (code ++ e.code)

      -- neither is one of those that end
      x_beside : Among x ends → ⊥
      x_beside m = let lt = ends_below types texts fs f s w.state made.grown _ h.stands.pends last x m in omega (arith, lt)

      y_beside : Among y ends → ⊥
      y_beside m = let lt = ends_below types texts fs f s w.state made.grown _ h.stands.pends last y m in omega (arith, lt, length-append w.state.locals (temporary_local a types texts fs f place t (inl worth) w.state (value_below w.state.types t worth) ∷ []))

      module _ (b : Begins types f (with_new l kept)) where
        begun : Begins types f kept
        begun = begins_old types f a setting.front v u l (its_local a u) there_kept second at built b

        before : Begins types f w.state
        before = begins_before_it a types texts fs f place t (inl worth) w.state (value_below w.state.types t worth) begun

        first_begins : Begins types f s
        first_begins = begins_before types f s w.state made.grown before

        part : RunsHanding types texts fs f P z over s w Q made.code
        part = made.runs before (told first_begins)

        aims_fine : IsFine types texts fs f aims
        aims_fine =
            let at_it = kept_place a types texts fs f place t (inl worth) w.state (value_below w.state.types t worth) begun in
            fine_acts types texts fs f place (Aim (whole y) (Aimed (object_named x)))
            (record {
              given = refl;
              formed =
                  ap (λ (r : Ty). is_source_of types texts fs f r (Aimed (object_named x))) (reference_declared a types texts fs f setting.front u kept b target constant found wide)
                  ∙ bound_given a types texts fs f setting.front target constant false (object_named x) wide (keeps_all constant) at_it;
            })

        ends_fine_here : IsFine types texts fs f e.code
        ends_fine_here = e.fine (all_among (ends_here types texts fs f) ends (λ z m. can z (ends_temporary types texts fs f s w.state made.grown _ h.stands.pends last before z m)))

        all_fine : IsFine types texts fs f all_code
        all_fine =
            fine_append types texts fs f made.code (code ++ e.code) part.fine
            (fine_append types texts fs f code e.code (fine_append types texts fs f brings aims (fine begun part.typed) aims_fine) ends_fine_here)

        -- ---- on a way

        went : (k : List Known) → Knows f s.living k → More k → Leaves f in_loop (kept.living ++ y ∷ []) (take s.outside s.living) (flow types f (trees all_code) (Some k))
        went k knows more =
            let g = part.goes k (knows_alive types f a v s h k knows) more in
            let mid : Knows f w.state.living (set_blank ends g.after) = alive_knows types f there_first (set_blank ends g.after) first.pending (ends_alive types texts fs f s w.state made.grown _ h.stands.pends last g.after g.alive) in
            let blank : known_at g.after x ≡ known.Blank = sym (blank_beside ends g.after x x_beside) ∙ blank_temporary a types texts fs f place t (inl worth) there_first (value_below there_first.types t worth) v first begun (set_blank ends g.after) mid in
            let y_there : y < length g.after = omega (arith, g.alive.sized, new_below types f a setting.front v u l (its_local a u) there_kept second at built b) in
            let x_lower : x < y = omega (arith, length-append w.state.locals (temporary_local a types texts fs f place t (inl worth) w.state (value_below w.state.types t worth) ∷ [])) in
            let x_there : x < length g.after = omega (arith, y_there, x_lower) in
            let i : List Known = slice_set g.after x known.Ready in
            let y_within : y < length i = omega (arith, y_there, set_length g.after x known.Ready) in
            let j : List Known = slice_set i y known.Ready in
            let sized_i : length (set_blank ends i) ≡ length (slice_set (set_blank ends g.after) x known.Ready) =
            blank_length ends i ∙ set_length g.after x known.Ready ∙ sym (blank_length ends g.after) ∙ sym (set_length (set_blank ends g.after) x known.Ready) in
            let with_it : Knows f (w.state.living ++ x ∷ []) (set_blank ends i) =
            knows_same f (w.state.living ++ x ∷ []) (slice_set (set_blank ends g.after) x known.Ready) (set_blank ends i) sized_i (λ z. blank_set ends g.after x z x_there x_beside)
            (knows_temporary a types texts fs f place t (inl worth) there_first (value_below there_first.types t worth) v first begun (set_blank ends g.after) mid) in
            let sized_j : length (set_blank ends j) ≡ length (slice_set (set_blank ends i) y known.Ready) =
            blank_length ends j ∙ set_length i y known.Ready ∙ sym (blank_length ends i) ∙ sym (set_length (set_blank ends i) y known.Ready) in
            let with_both : Knows f (kept.living ++ y ∷ []) (set_blank ends j) =
            knows_same f (kept.living ++ y ∷ []) (slice_set (set_blank ends i) y known.Ready) (set_blank ends j) sized_j (λ z. blank_set ends i y z y_within y_beside)
            (knows_new types f a setting.front v u l (its_local a u) there_kept second at built b (set_blank ends i) with_it) in
            let fills = filling_fills f (λ p. Aim p (Aimed (object_named x))) y i (aimed_filling f (object_named x) y i (record { local = x; uses = refl; below = x_lower; held = at_set g.after x known.Ready x_there })) y
            (reference_kept a types texts fs f setting.front u kept b target constant found wide) in
            let ready : can_leave j ends ≡ true =
            ends_there ends j (ends_apart types texts fs f s w.state made.grown _ h.stands.pends last)
            (λ z m. ready_set i y z y_within (ready_set g.after x z x_there (g.alive.pending z (ends_pending types texts fs f s w.state made.grown _ h.stands.pends last z m)))) in
            subst (Leaves f in_loop (kept.living ++ y ∷ []) (take s.outside s.living))
            (sym (falls_append types f made.code (code ++ e.code) k (set_known known.Ready over g.after) (set_blank ends j) g.falls
            (falls_append types f code e.code (set_known known.Ready over g.after) j (set_blank ends j)
            (falls_append types f brings aims (set_known known.Ready over g.after) i j (falls begun part g.after g.alive.sized g.gives g.blank blank) (falls_filling types f place (Aim (whole y) (Aimed (object_named x))) y i fills))
            (e.falls j ready))))
            (leaves_falling f in_loop (kept.living ++ y ∷ []) (take s.outside s.living) (set_blank ends j) with_both)

        -- the reference is aimed at the temporary, which stands
        aims_apart : Apart f kept (with_new l kept) (trees aims)
        aims_apart =
            new_then f l kept (x ∷ []) [] (λ under. record {
              count = omega arith;
              below = under;
              opens = λ z o. inl o;
              gives = λ z object m. absurd m;
              looks = λ z object m. elim m [ inl e ↦ inl (inl (among_right w.state.living (x ∷ []) z (inl e))) | inr none ↦ absurd none ];
              apart = λ z object m g. g;
            })

        known_apart : (k : List Known) → Knows f s.living k → More k → Apart f s finished (trees all_code)
        known_apart k knows more under =
            let g = part.goes k (knows_alive types f a v s h k knows) more in
            let mid : Knows f w.state.living (set_blank ends g.after) = alive_knows types f there_first (set_blank ends g.after) first.pending (ends_alive types texts fs f s w.state made.grown _ h.stands.pends last g.after g.alive) in
            let blank : known_at g.after x ≡ known.Blank = sym (blank_beside ends g.after x x_beside) ∙ blank_temporary a types texts fs f place t (inl worth) there_first (value_below there_first.types t worth) v first begun (set_blank ends g.after) mid in
            handed_apart types texts fs f over given s w.state (with_new l kept) finished made.code code e.code under
            (λ z m. named z (subst (Among z) (parts_of given_spot brings aims ∙ append-nil (given_of (trees brings))) m)) (g.apart under)
            (λ first. let one = apart begun part.typed g.after g.alive g.gives blank first in
            subst (λ (xs : List ℕ). AreApart f w.state (with_new l kept) xs given) (sym (parts_of looked_spot brings aims))
            (subst (AreApart f w.state (with_new l kept) (looked_of (trees brings) ++ looked_of (trees aims))) (append-nil given)
            (apart_then f w.state kept (with_new l kept) (looked_of (trees brings)) given (looked_of (trees aims)) [] first one (aims_apart one.below))))
            (e.apart (with_new l kept) finished (omega arith) (λ z o. elim o [ inl m ↦ inl (inl m) | inr m ↦ inl (inr (among_take (length s.pending) w.state.pending z m)) ]))

        acting : ActingUnder types texts fs f More in_loop s finished all_code
        acting =
            let start = some first_begins s.living (some_known types f a v s h first_begins) (some_knows types f a v s h first_begins) in
            record {
              stated = all_fine.stated in_loop;
              ways = leaves_under types f More in_loop s.living (kept.living ++ y ∷ []) (take s.outside s.living) (trees all_code) went;
              apart = known_apart start.0 start.1 start.2;
            }

      finished_does : DoesUnder types texts fs f More a (with_next v) in_loop s finished
      finished_does = record {
        adds = adds;
        locals = λ are.
            own_added types a kept l (record { number = v.declared; variable = u; there = at; of = its_local a u })
            (temporary_written a types texts fs f place t (inl worth) w.state (value_below w.state.types t worth) (locals_added types a s w.state made.grown.types made.registers are));
        order = order_then s.types w.state.types kept.types made.registers.1 (type_ordered w.state.types t (value_below w.state.types t worth));
        follows = follows_new types f a setting.front v u l (its_local a u) there_kept second at built;
        code = all_code;
        written = ap (λ (c : List Tree). (c ++ code) ++ e.code) made.written ∙ ap (λ (c : List Tree). c ++ e.code) (append_assoc s.code made.code code) ∙ append_assoc s.code (made.code ++ code) e.code ∙ ap (λ (c : List Tree). s.code ++ c) (append_assoc made.code code e.code);
        acts = acting;
        returns = λ b gives o k more. fine_known types f (result_local a) texts fs all_code (all_fine b) o;
      }

      pub bound_under : DoesUnder types texts fs f More a (with_next v) in_loop s (end_pending (length s.pending) last done)
      bound_under = subst (DoesUnder types texts fs f More a (with_next v) in_loop s) (sym finished_is) finished_does

  -- .. behind nothing
  module _ {A : Type 0} (w : Gives A) (Q : Gift types texts fs f A) (over : List ℕ) (made : HandingAlone types texts fs f over s w Q) where
    abbrev its_kept : State
    its_kept = with_temporary a types texts fs f place t (inl worth) w.state (value_below w.state.types t worth)

    pub bound_does : (brings : List Tree) → (Begins types f its_kept → Q.typed w.given → IsFine types texts fs f brings)
        → (Begins types f its_kept → RunsHanding types texts fs f (nothing types texts fs f) tt over s w Q made.code → (k : List Known) → length k ≡ length f.locals → Q.ready w.given (length w.state.locals) k
        → ((z : ℕ) → Among z over → known_at k z ≡ known.Blank) → known_at k (length w.state.locals) ≡ known.Blank → Falls types f brings (set_known known.Ready over k) (slice_set k (length w.state.locals) known.Ready))
        → (given : List ℕ) → ((z : ℕ) → Among z (given_of (trees brings)) → Among z given ⊎ Among z over)
        → (Begins types f its_kept → Q.typed w.given → (k : List Known) → Alive f w.state k → Q.ready w.given (length w.state.locals) k → known_at k (length w.state.locals) ≡ known.Blank → IsBelow w.state → AreApart f w.state its_kept (looked_of (trees brings)) given)
        → Does types texts fs f a (with_next v) in_loop s (end_pending (length s.pending) last
        (with_code (w.state.code ++ (brings ++ Act place (Aim (whole (length its_kept.locals)) (Aimed (object_named (length w.state.locals)))) ∷ [])) (with_new (variable_local a u) its_kept)))
    bound_does brings fine falls given named apart =
        does_plain types texts fs f a (with_next v) in_loop s (end_pending (length s.pending) last
        (with_code (w.state.code ++ (brings ++ Act place (Aim (whole (length its_kept.locals)) (Aimed (object_named (length w.state.locals)))) ∷ [])) (with_new (variable_local a u) its_kept)))
        (bound_under (nothing types texts fs f) tt w Q over made brings fine falls given named apart (λ b. tt) (λ b living k knows. (k, knows, tt)))
