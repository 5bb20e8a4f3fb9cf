-- What a declaration adds: the next variable, which is visible and lives from here on.
use Rattle.std.proofs.Common.{◌≡◌, ◌<◌, ◌⊎◌, inl, inr, ℕ, Bool, true, List, [], ◌∷◌, ◌++◌, Contains, length, slice_get, slice_set, take, Option, Some, None, refl, sym, ap, ◌∙◌, subst, unwrap_or, arith, length-append, append_assoc}
use Rattle.std.proofs.lemmas.Bool.{or_left, or_right}
use Rattle.std.proofs.lemmas.List.Elements.{Contains-append_left, Contains-push, Contains-push_cases}
use Rattle.std.proofs.lemmas.Option.{same_Some, slice_get_within, none-some}
use Rattle.life_elab_laws.proofs.ObjectTypes.{is_admitted_variable, is_target}
use Rattle.life_types.specs.TypeTests.{is_pointer}
use Rattle.life_types.specs.Types.{Types, class, class_at}
use Rattle.life_types.specs.declared.ty.Ty.{Ty}
use Rattle.life_types.specs.declared.ty.Ty.TheVariants as ty
use Rattle.life_types.specs.declared.ty.TyId.{TyId}
use Rattle.life_typed.specs.declared.typed_program.TypedLocal.{TypedLocal}
use Rattle.life_core.specs.Function.{Function}
use Rattle.life_core.specs.Tree.{Tree, trees}
use Rattle.life_core.specs.declared.program.Local.{Local}
use Rattle.life_core.specs.declared.program.LocalKind.TheVariants.{Object}
use Rattle.life_proper.specs.Placed.{object_at}
use Rattle.life_proper.specs.Placed as placed
use Rattle.life_proper.specs.declared.known.Known.{Known}
use Rattle.life_proper.specs.declared.known.Known.TheVariants as known
use Rattle.life_proper.specs.Checking.{flow}
use Rattle.life_proper.specs.Knowing.{known_at}
use Rattle.life_well_typed.specs.Visible.{Visible, with_next}
use Rattle.life_writer.specs.Around.{Around, result_local}
use Rattle.life_writer.specs.Variables.{kind, variable, variable_local, with_variable, end_pending}
use Rattle.life_writer.specs.Writing.{State, Gives, with_code}
use Rattle.life_elab_laws.proofs.Among.{Among, among_either, among_left, among_right, among_take, ascend_more, all_among}
use Rattle.life_elab_laws.proofs.Doing.{Does}
use Rattle.life_elab_laws.proofs.Exits.{Knows, Leaves, leaves_falling, knows_same}
use Rattle.life_elab_laws.proofs.Falling.{Falls, falls_append}
use Rattle.life_elab_laws.proofs.Following.{Adds, Follows, IsLiving, may_end, adds_then, follows_below, knows_alive, same_variable, alive_knows, settled, follows_settled, adds_settled}
use Rattle.life_elab_laws.proofs.FormedVariables.{reference_there}
use Rattle.life_elab_laws.proofs.Fronts.{IsFront, front_append, front_itself, front_then, last_there}
use Rattle.life_elab_laws.proofs.GivingBack.{fine_known}
use Rattle.life_elab_laws.proofs.GivenApart.{Apart, AreApart, IsBelow, none_apart, one_more, then_opens, given_of}
use Rattle.life_elab_laws.proofs.LookedLocals.{looked_of}
use Rattle.life_elab_laws.proofs.Growing.{Begins, begins_before}
use Rattle.life_elab_laws.proofs.Making.{Alive}
use Rattle.life_elab_laws.proofs.SomeKnown.{some_known, some_knows}
use Rattle.life_elab_laws.proofs.Knowledge.{at_set, beside_set, set_length, ready_set}
use Rattle.life_elab_laws.proofs.Gifts.{Gift, nothing}
use Rattle.life_elab_laws.proofs.OperandsThere.{object_there, type_there}
use Rattle.life_elab_laws.proofs.Parts.{Makes, Part}
use Rattle.life_elab_laws.proofs.Shaped.{named_lasts}
use Rattle.life_elab_laws.proofs.Shaping.{IsFine, fine_append}
use Rattle.life_elab_laws.proofs.Types.{value_kind}
use Rattle.life_elab_laws.proofs.VariablePlaces.{a_raw, a_reference, a_struct, a_unique, a_value, a_view, a_walker, an_alias, an_owner, IsVariableAt, IsVariableType, owner_kind, variable_type, walker_is, a_struct_alias}
use Rattle.life_elab_laws.proofs.WrittenLocals.{IsLocalOf, locals_added, own_added}
use Rattle.life_elab_laws.proofs.PendingTemporaries.{none_pending}
use Rattle.life_elab_laws.proofs.EndedTemporaries.{ending, ends_alive, ends_apart, ends_below, ends_pending, ends_temporary}
use Rattle.life_elab_laws.proofs.EndSteps.{IsEnded, ended, ends_here}
use Rattle.life_elab_laws.proofs.Ending.{blank_beside, blank_length, blank_set, ends_there, set_blank}
use Rattle.life_elab_laws.proofs.TemporaryEnds.{TemporariesEnd}
use Rattle.life_elab_laws.proofs.Under.{ActingUnder, DoesUnder, MayBeKnown, does_plain, leaves_under}
use Rattle.life_proper.specs.ReadyKnown.{can_leave, set_known}
use Rattle.life_types.specs.declared.place.Place.{Place}
use Rattle.life_elab_laws.proofs.Targets.{owner_target, value_target, struct_target, target_unslotted}
use Rattle.life_typed.specs.BaseTypes.{type_at}
use Rattle.life_elab_laws.proofs.Handing.{Handing, RunsHanding, handed_apart, handing_none}
use Rattle.life_elab_laws.proofs.OwnLocals.{first_own}

take_before : (xs ys : List ℕ) → take (length xs) (xs ++ ys) ≡ xs
take_before [] ys = refl
take_before (x ∷ xs) ys = ap (λ (zs : List ℕ). x ∷ zs) (take_before xs ys)

pub its_local : (a : Around) (u : TypedLocal) → IsLocalOf a u (variable_local a u)
its_local a u = record { named = refl; typed = refl; kind = refl }

-- it is the next local
abbrev pub with_new : Local → State → State
with_new l s = (with_variable l s).state

module _ (types : Types) (f : Function) (a : Around) (front : IsFront a.program.types.types types.types) where
  module _ (v : Visible) (u : TypedLocal) (l : Local) (of : IsLocalOf a u l) (s : State) (h : Follows types f a v s) (at : slice_get a.function.locals v.declared ≡ Some u) (built : is_admitted_variable a.program.types u.ty ≡ true) where
    pub new_at : slice_get (with_new l s).locals (length s.locals) ≡ Some l
    new_at = last_there s.locals l

    new_variable : (x : ℕ) → v.declared ≡ x → variable (with_new l s) x ≡ length s.locals
    new_variable x e =
        ap (λ (o : Option ℕ). unwrap_or o 0)
        (subst (λ (z : ℕ). slice_get (s.variables ++ length s.locals ∷ []) z ≡ Some (length s.locals)) (h.count ∙ e) (last_there s.variables (length s.locals)))

    pub new_below : Begins types f (with_new l s) → length s.locals < length f.locals
    new_below b = slice_get_within f.locals (length s.locals) l (b.locals (length s.locals) l new_at)

    -- ---- it may end

    pub new_ends : Begins types f (with_new l s) → may_end types f (length s.locals) ≡ true
    new_ends b = go (variable_type a.program.types u.ty built)
      where
        there : slice_get f.locals (length s.locals) ≡ Some l
        there = b.locals (length s.locals) l new_at

        typed : (t : Ty) → slice_get a.program.types.types u.ty.0 ≡ Some t → slice_get types.types l.ty.0 ≡ Some t
        typed t is = ap (λ (i : TyId). slice_get types.types i.0) of.typed ∙ front u.ty.0 t is

        kept : (t : Ty) → slice_get a.program.types.types u.ty.0 ≡ Some t → l.kind ≡ kind (class (Some t))
        kept t is = of.kind ∙ ap (λ (o : Option Ty). kind (class o)) is

        object : (t : Ty) → slice_get a.program.types.types u.ty.0 ≡ Some t → kind (class (Some t)) ≡ Object → may_end types f (length s.locals) ≡ true
        object t is k = or_left (object_at types f (length s.locals)) _ (object_there types f (length s.locals) l there (kept t is ∙ k))

        pointer : (t : Ty) → placed.type_at types f (length s.locals) ≡ t → is_pointer t ≡ true → may_end types f (length s.locals) ≡ true
        pointer t at p = or_right (object_at types f (length s.locals)) _ (ap is_pointer at ∙ p)

        refers : (target : TyId) (constant : Bool) → slice_get a.program.types.types u.ty.0 ≡ Some (ty.Reference target constant) → is_target a.program.types (type_at a.program.types target) ≡ true → may_end types f (length s.locals) ≡ true
        refers target constant is h =
            pointer (ty.Reference target constant)
            (reference_there types f (length s.locals) l target constant there (typed (ty.Reference target constant) is) (target_unslotted a.program.types types front target h)) refl

        go : IsVariableType a.program.types u.ty → may_end types f (length s.locals) ≡ true
        go (a_value t is e) = object t is (value_kind t e)
        go (an_owner t is o) = object t is (owner_kind a.program.types t o)
        go (a_unique target is w) = object (ty.Unique target) is refl
        go (a_struct number is) = object (ty.Struct number) is refl
        go (a_walker t is w) = pointer t (type_there types f (length s.locals) l t there (typed t is) (walker_is a.program.types t w).reference) (walker_is a.program.types t w).pointer
        go (a_raw target constant is e) = pointer (ty.Raw target constant) (type_there types f (length s.locals) l (ty.Raw target constant) there (typed (ty.Raw target constant) is) refl) refl
        go (a_view is) = pointer ty.View (type_there types f (length s.locals) l ty.View there (typed ty.View is) refl) refl
        go (a_reference target constant is e) = refers target constant is (value_target a.program.types (type_at a.program.types target) e)
        go (an_alias target constant is o) = refers target constant is (owner_target a.program.types (type_at a.program.types target) o)
        go (a_struct_alias target constant number is structure pointless) = refers target constant is (struct_target a.program.types (type_at a.program.types target) pointless)

    -- ---- the state

    pub begins_old : Begins types f (with_new l s) → Begins types f s
    begins_old b = record { locals = front_then s.locals (with_new l s).locals f.locals (front_append s.locals (l ∷ [])) b.locals; table = b.table }

    opened : (y : ℕ) → Contains (s.living ++ length s.locals ∷ []) y → y < length (s.locals ++ l ∷ [])
    opened y c = elim (Contains-push_cases s.living (length s.locals) y c) [
      | inl old ↦ omega (arith, h.stands.opened y old, length-append s.locals (l ∷ []))
      | inr e ↦ omega (arith, e, length-append s.locals (l ∷ []))
    ]

    stays : (x : ℕ) → x < v.declared → variable (with_new l s) x ≡ variable s x
    stays x lt = same_variable types f s (with_new l s) x (front_append s.variables (length s.locals ∷ [])) (omega (arith, lt, h.count))

    moved : (x : ℕ) (w : TypedLocal) → x < v.declared → IsVariableAt a s x w → IsVariableAt a (with_new l s) x w
    moved x w lt is = record {
      local = is.local;
      there = ap (slice_get (with_new l s).locals) (stays x lt) ∙ front_append s.locals (l ∷ []) (variable s x) is.local is.there;
      typed = is.typed;
      kind = is.kind;
      named = is.named;
      lives = subst (Contains (s.living ++ length s.locals ∷ [])) (sym (stays x lt)) (Contains-append_left s.living (length s.locals ∷ []) (variable s x) is.lives);
    }

    -- each has a local of its own: the new one's is behind all others
    older : (x : ℕ) (w : TypedLocal) → Contains v.visible x → slice_get a.function.locals x ≡ Some w → variable (with_new l s) x < length s.locals
    older x w c there =
        let is = h.stands.seen x w c there in
        subst (λ (z : ℕ). z < length s.locals) (sym (stays x (h.visible x c))) (slice_get_within s.locals (variable s x) is.local is.there)

    apart : (x y : ℕ) (w z : TypedLocal) → Contains (v.visible ++ v.declared ∷ []) x → slice_get a.function.locals x ≡ Some w → Contains (v.visible ++ v.declared ∷ []) y → slice_get a.function.locals y ≡ Some z
        → (x ≡ y → ⊥) → variable (with_new l s) x ≡ variable (with_new l s) y → ⊥
    apart x y w z c at d there other e = go (Contains-push_cases v.visible v.declared x c) (Contains-push_cases v.visible v.declared y d)
      where
        go : Contains v.visible x ⊎ (v.declared ≡ x) → Contains v.visible y ⊎ (v.declared ≡ y) → ⊥
        go (inl old) (inl too) = h.stands.apart x y w z old at too there other (sym (stays x (h.visible x old)) ∙ e ∙ stays y (h.visible y too))
        go (inl old) (inr new) = omega (arith, older x w old at, e, new_variable y new)
        go (inr new) (inl old) = omega (arith, older y z old there, e, new_variable x new)
        go (inr new) (inr newer) = other (sym new ∙ newer)

    fresh : (x : ℕ) (w : TypedLocal) → v.declared ≡ x → slice_get a.function.locals x ≡ Some w → IsVariableAt a (with_new l s) x w
    fresh x w e there = record {
      local = l;
      there = ap (slice_get (with_new l s).locals) (new_variable x e) ∙ new_at;
      typed = of.typed ∙ ap (λ (z : TypedLocal). z.ty) same;
      kind = of.kind ∙ ap (λ (z : TypedLocal). kind (class_at a.program.types z.ty)) same;
      named = of.named ∙ ap (λ (z : TypedLocal). Some z.name) same;
      lives = subst (Contains (s.living ++ length s.locals ∷ [])) (sym (new_variable x e)) (Contains-push s.living (length s.locals));
    }
      where
        same : u ≡ w
        same = same_Some u w (sym at ∙ ap (slice_get a.function.locals) e ∙ there)

    lives : (y : ℕ) → Among y s.living ⊎ Among y (length s.locals ∷ []) → IsLiving (first_own a) (with_new l s) y
    lives y (inl m) = let is = h.living y m in record {
      beyond = λ z there none. is.beyond is.local is.there (ap (λ (r : Local). r.name) (same_Some is.local z (sym (front_append s.locals (l ∷ []) y is.local is.there) ∙ there)) ∙ none);
      local = is.local;
      there = front_append s.locals (l ∷ []) y is.local is.there;
      lasts = is.lasts;
    }
    lives y (inr (inl e)) = record {
      beyond = λ z there none. absurd (none-some u.name (sym none ∙ ap (λ (r : Local). r.name) (same_Some z l (sym there ∙ subst (λ (q : ℕ). slice_get (with_new l s).locals q ≡ Some l) e new_at)) ∙ of.named));
      local = l;
      there = subst (λ (z : ℕ). slice_get (with_new l s).locals z ≡ Some l) e new_at;
      lasts = named_lasts l u.name of.named;
    }
    lives y (inr (inr none)) = absurd none

    sorted : Begins types f (with_new l s) → (y : ℕ) → Among y s.living ⊎ Among y (length s.locals ∷ []) → may_end types f y ≡ true
    sorted b y (inl m) = h.sorts (begins_old b) y m
    sorted b y (inr (inl e)) = subst (λ (z : ℕ). may_end types f z ≡ true) e (new_ends b)
    sorted b y (inr (inr none)) = absurd none

    pub follows_new : Follows types f a (with_next v) (with_new l s)
    follows_new = record {
      count = omega (arith, length-append s.variables (length s.locals ∷ []), h.count);
      visible = λ x c. elim (Contains-push_cases v.visible v.declared x c) [ inl old ↦ omega (arith, h.visible x old) | inr e ↦ omega (arith, e) ];
      stands = record {
        table = h.stands.table;
        opened = opened;
        pends = none_pending _ (with_new l s).locals s.types.types (with_new l s).living s.pending (omega (arith, h.stands.pends.past, length-append s.locals (l ∷ []))) h.pending;
        seen = λ x w c there. elim (Contains-push_cases v.visible v.declared x c) [ inl old ↦ moved x w (h.visible x old) (h.stands.seen x w old there) | inr e ↦ fresh x w e there ];
        apart = apart;
      };
      ascend = ascend_more 0 s.living (length s.locals) h.ascend (omega arith) (λ y m. follows_below types f a v s h y m);
      outside = omega (arith, length-append s.living (length s.locals ∷ []), h.outside);
      living = λ y m. lives y (among_either s.living (length s.locals ∷ []) y m);
      sorts = λ b y m. sorted b y (among_either s.living (length s.locals ∷ []) y m);
      pending = h.pending;
    }

    pub adds_new : Adds types f s (with_new l s)
    adds_new = record {
      locals = front_append s.locals (l ∷ []);
      table = front_itself s.types.types;
      variables = front_append s.variables (length s.locals ∷ []);
      living = take_before s.living (length s.locals ∷ []);
      pending = refl;
      outside = refl;
    }

    -- ---- what is known

    pub blank_new : Begins types f (with_new l s) → (k : List Known) → Knows f s.living k → known_at k (length s.locals) ≡ known.Blank
    blank_new b k knows =
        knows.blank (length s.locals) l (b.locals (length s.locals) l new_at) (named_lasts l u.name of.named)
        (λ m. let below = follows_below types f a v s h (length s.locals) m in omega (arith, below))

    pub knows_new : Begins types f (with_new l s) → (k : List Known) → Knows f s.living k
        → Knows f (s.living ++ length s.locals ∷ []) (slice_set k (length s.locals) known.Ready)
    knows_new b k knows = record {
      sized = set_length k (length s.locals) known.Ready ∙ knows.sized;
      alive = λ y m. alive y (among_either s.living (length s.locals ∷ []) y m);
      blank = λ y z there lasts no.
          beside_set k (length s.locals) y known.Ready (λ e. no (among_right s.living (length s.locals ∷ []) y (inl e)))
          ∙ knows.blank y z there lasts (λ m. no (among_left s.living (length s.locals ∷ []) y m));
    }
      where
        lt : length s.locals < length k
        lt = omega (arith, knows.sized, new_below b)

        alive : (y : ℕ) → Among y s.living ⊎ Among y (length s.locals ∷ []) → known_at (slice_set k (length s.locals) known.Ready) y ≡ known.Ready
        alive y (inl m) =
            beside_set k (length s.locals) y known.Ready (λ e. let below = follows_below types f a v s h y m in omega (arith, e, below)) ∙ knows.alive y m
        alive y (inr (inl e)) = subst (λ (z : ℕ). known_at (slice_set k (length s.locals) known.Ready) z ≡ known.Ready) e (at_set k (length s.locals) known.Ready lt)
        alive y (inr (inr none)) = absurd none

-- ---- it stands, and what looks at nothing but what stood before leaves what is given over alone

module _ (f : Function) (l : Local) (s : State) where
  pub new_count : length s.locals < length (with_new l s).locals
  new_count = omega (arith, length-append s.locals (l ∷ []))

  pub new_none : IsBelow s → AreApart f s (with_new l s) [] []
  new_none = none_apart f s (with_new l s) (omega (arith, new_count)) (λ x o. one_more (length s.locals) (length (with_new l s).locals) s.living s.pending x new_count o)

  pub new_then : (looked given : List ℕ) → (IsBelow s → AreApart f s s looked given) → IsBelow s → AreApart f s (with_new l s) looked given
  new_then looked given h below =
      then_opens f s s (with_new l s) looked given (omega (arith, new_count)) (λ x o. one_more (length s.locals) (length (with_new l s).locals) s.living s.pending x new_count o) below (h below)

-- ---- the whole: what computes what it is given, the variable, and what gives it that

module _ (types : Types) (texts : ℕ) (fs : List Function) (f : Function) (a : Around) (front : IsFront a.program.types.types types.types) where
  -- .. behind what gave y
  module _ {A B : Type 0} (v : Visible) (in_loop : Bool) (can : TemporariesEnd types texts fs f (first_own a)) (last : Place) (u : TypedLocal) (P : Gift types texts fs f B) (y : B) (s : State) (w : Gives A) (Q : Gift types texts fs f A) (code : List Tree)
      (h : Follows types f a v s) (at : slice_get a.function.locals v.declared ≡ Some u) (built : is_admitted_variable a.program.types u.ty ≡ true)
      (over : List ℕ) (made : Handing types texts fs f P y over s w Q) (told : Begins types f (with_new (variable_local a u) w.state) → P.typed y)
      (fine : Begins types f (with_new (variable_local a u) w.state) → Q.typed w.given → IsFine types texts fs f code)
      (falls : Begins types f (with_new (variable_local a u) w.state) → RunsHanding types texts fs f P y over s w Q made.code → (k : List Known) → length k ≡ length f.locals → Q.ready w.given (length w.state.locals) k
      → ((z : ℕ) → Among z over → known_at k z ≡ known.Blank) → known_at k (length w.state.locals) ≡ known.Blank
      → Falls types f code (set_known known.Ready over k) (slice_set k (length w.state.locals) known.Ready))
      (given : List ℕ) (named : (z : ℕ) → Among z (given_of (trees code)) → Among z given ⊎ Among z over)
      (apart : Begins types f (with_new (variable_local a u) w.state) → Q.typed w.given → (k : List Known) → Alive f w.state k → Q.ready w.given (length w.state.locals) k → known_at k (length w.state.locals) ≡ known.Blank
      → IsBelow w.state → AreApart f w.state (with_new (variable_local a u) w.state) (looked_of (trees code)) given)
      (some : Begins types f (with_new (variable_local a u) w.state) → MayBeKnown f (P.ready y (length s.locals))) where
    -- what has to be known
    abbrev More : List Known → Type 0
    More = P.ready y (length s.locals)

    -- its temporaries end behind it
    abbrev there : State
    there = settled types f s w.state

    later : Follows types f a v there
    later = follows_settled types f a v s w.state made.grown h

    adds : Adds types f s (with_new (variable_local a u) there)
    adds = adds_then types f s there (with_new (variable_local a u) there) (adds_settled types f s w.state made.grown) (adds_new types f a front v u (variable_local a u) (its_local a u) there later at built)

    abbrev done : State
    done = with_code (w.state.code ++ code) (with_new (variable_local a u) w.state)

    abbrev x : ℕ
    x = length w.state.locals

    abbrev ends : List ℕ
    ends = ending types texts fs f s w.state made.grown _ h.stands.pends last

    e : IsEnded types texts fs f ends last done
    e = ended types texts fs f ends last done

    abbrev finished : State
    finished = record done { code = done.code ++ e.code; pending = take (length s.pending) w.state.pending }

    finished_is : end_pending (length s.pending) last done ≡ finished
    finished_is = ap (λ (r : State). record r { pending = take (length s.pending) w.state.pending }) e.written

    abbrev whole : List Tree
    whole = made.code ++ (code ++ e.code)

    module _ (b : Begins types f (with_new (variable_local a u) w.state)) where
      before : Begins types f w.state
      before = begins_old types f a front v u (variable_local a u) (its_local a u) there later at built b

      part : RunsHanding types texts fs f P y over s w Q made.code
      part = made.runs before (told b)

      ends_fine_here : IsFine types texts fs f e.code
      ends_fine_here = e.fine (all_among (ends_here types texts fs f) ends (λ y m. can y (ends_temporary types texts fs f s w.state made.grown _ h.stands.pends last before y m)))

      all_fine : IsFine types texts fs f whole
      all_fine = fine_append types texts fs f made.code (code ++ e.code) part.fine (fine_append types texts fs f code e.code (fine b part.typed) ends_fine_here)

      -- the variable is none of them
      beside : Among x ends → ⊥
      beside m = let lt = ends_below types texts fs f s w.state made.grown _ h.stands.pends last x m in omega (arith, lt)

      went : (k : List Known) → Knows f s.living k → More k → Leaves f in_loop (w.state.living ++ x ∷ []) (take s.outside s.living) (flow types f (trees whole) (Some k))
      went k knows more =
          let g = part.goes k (knows_alive types f a v s h k knows) more in
          let mid : Knows f w.state.living (set_blank ends g.after) = alive_knows types f there (set_blank ends g.after) later.pending (ends_alive types texts fs f s w.state made.grown _ h.stands.pends last g.after g.alive) in
          let blank : known_at g.after x ≡ known.Blank = sym (blank_beside ends g.after x beside) ∙ blank_new types f a front v u (variable_local a u) (its_local a u) there later at built b (set_blank ends g.after) mid in
          let lt : x < length g.after = omega (arith, g.alive.sized, new_below types f a front v u (variable_local a u) (its_local a u) there later at built b) in
          let j : List Known = slice_set g.after x known.Ready in
          let ready : can_leave j ends ≡ true =
          ends_there ends j (ends_apart types texts fs f s w.state made.grown _ h.stands.pends last) (λ y m. ready_set g.after x y lt (g.alive.pending y (ends_pending types texts fs f s w.state made.grown _ h.stands.pends last y m))) in
          subst (Leaves f in_loop (w.state.living ++ x ∷ []) (take s.outside s.living))
          (sym (falls_append types f made.code (code ++ e.code) k (set_known known.Ready over g.after) (set_blank ends j) g.falls
          (falls_append types f code e.code (set_known known.Ready over g.after) j (set_blank ends j) (falls b part g.after g.alive.sized g.gives g.blank blank) (e.falls j ready))))
          (leaves_falling f in_loop (w.state.living ++ x ∷ []) (take s.outside s.living) (set_blank ends j)
          (knows_same f (w.state.living ++ x ∷ []) (slice_set (set_blank ends g.after) x known.Ready) (set_blank ends j)
          (blank_length ends j ∙ set_length g.after x known.Ready ∙ sym (blank_length ends g.after) ∙ sym (set_length (set_blank ends g.after) x known.Ready))
          (λ y. blank_set ends g.after x y lt beside)
          (knows_new types f a front v u (variable_local a u) (its_local a u) there later at built b (set_blank ends g.after) mid)))

      known_apart : (k : List Known) → Knows f s.living k → More k → Apart f s finished (trees whole)
      known_apart k knows more under =
          let g = part.goes k (knows_alive types f a v s h k knows) more in
          let mid : Knows f w.state.living (set_blank ends g.after) = alive_knows types f there (set_blank ends g.after) later.pending (ends_alive types texts fs f s w.state made.grown _ h.stands.pends last g.after g.alive) in
          let blank : known_at g.after x ≡ known.Blank = sym (blank_beside ends g.after x beside) ∙ blank_new types f a front v u (variable_local a u) (its_local a u) there later at built b (set_blank ends g.after) mid in
          handed_apart types texts fs f over given s w.state (with_new (variable_local a u) w.state) finished made.code code e.code under named (g.apart under) (apart b part.typed g.after g.alive g.gives blank)
          (e.apart (with_new (variable_local a u) w.state) finished (omega arith) (λ y o. elim o [ inl m ↦ inl (inl m) | inr m ↦ inl (inr (among_take (length s.pending) w.state.pending y m)) ]))

      first_begins : Begins types f s
      first_begins = begins_before types f s w.state made.grown before

      acting : ActingUnder types texts fs f More in_loop s finished whole
      acting =
          let start = some b s.living (some_known types f a v s h first_begins) (some_knows types f a v s h first_begins) in
          record {
            stated = all_fine.stated in_loop;
            ways = leaves_under types f More in_loop s.living (w.state.living ++ x ∷ []) (take s.outside s.living) (trees whole) went;
            apart = known_apart start.0 start.1 start.2;
          }

    finished_does : DoesUnder types texts fs f More a (with_next v) in_loop s finished
    finished_does = record {
      adds = adds;
      locals = λ are.
          own_added types a w.state (variable_local a u) (record { number = v.declared; variable = u; there = at; of = its_local a u })
          (locals_added types a s w.state made.grown.types made.registers are);
      order = made.registers.1;
      follows = follows_new types f a front v u (variable_local a u) (its_local a u) there later at built;
      code = whole;
      written = ap (λ (c : List Tree). (c ++ code) ++ e.code) made.written ∙ ap (λ (c : List Tree). c ++ e.code) (append_assoc s.code made.code code) ∙ append_assoc s.code (made.code ++ code) e.code ∙ ap (λ (c : List Tree). s.code ++ c) (append_assoc made.code code e.code);
      acts = acting;
      returns = λ b gives o k more. fine_known types f (result_local a) texts fs whole (all_fine b) o;
    }

    pub handed_under : DoesUnder types texts fs f More a (with_next v) in_loop s (end_pending (length s.pending) last done)
    handed_under = subst (DoesUnder types texts fs f More a (with_next v) in_loop s) (sym finished_is) finished_does

  -- .. where nothing is given over before
  pub declared_under : {A B : Type 0} (v : Visible) (in_loop : Bool) (can : TemporariesEnd types texts fs f (first_own a)) (last : Place) (u : TypedLocal) (P : Gift types texts fs f B) (y : B) (s : State) (w : Gives A) (Q : Gift types texts fs f A) (code : List Tree)
      (h : Follows types f a v s) (at : slice_get a.function.locals v.declared ≡ Some u) (built : is_admitted_variable a.program.types u.ty ≡ true)
      → Part types texts fs f P y None s w Q → (Begins types f (with_new (variable_local a u) w.state) → P.typed y)
      → (Begins types f (with_new (variable_local a u) w.state) → Q.typed w.given → IsFine types texts fs f code)
      → (Begins types f (with_new (variable_local a u) w.state) → (k : List Known) → length k ≡ length f.locals → Q.ready w.given (length w.state.locals) k → known_at k (length w.state.locals) ≡ known.Blank
      → Falls types f code k (slice_set k (length w.state.locals) known.Ready))
      → (Begins types f (with_new (variable_local a u) w.state) → Q.typed w.given → (k : List Known) → Alive f w.state k → Q.ready w.given (length w.state.locals) k → known_at k (length w.state.locals) ≡ known.Blank
      → Apart f w.state (with_new (variable_local a u) w.state) (trees code))
      → (Begins types f (with_new (variable_local a u) w.state) → MayBeKnown f (P.ready y (length s.locals)))
      → DoesUnder types texts fs f (P.ready y (length s.locals)) a (with_next v) in_loop s (end_pending (length s.pending) last (with_code (w.state.code ++ code) (with_new (variable_local a u) w.state)))
  declared_under v in_loop can last u P y s w Q code h at built made told fine falls apart some =
      handed_under v in_loop can last u P y s w Q code h at built [] (handing_none types texts fs f P y s w Q made) told fine (λ b r k size q none blank. falls b k size q blank) (given_of (trees code)) (λ z m. inl m) apart some

  -- .. behind nothing
  pub handed_declared : {A : Type 0} (v : Visible) (in_loop : Bool) (can : TemporariesEnd types texts fs f (first_own a)) (last : Place) (u : TypedLocal) (s : State) (w : Gives A) (Q : Gift types texts fs f A) (code : List Tree)
      (h : Follows types f a v s) (at : slice_get a.function.locals v.declared ≡ Some u) (built : is_admitted_variable a.program.types u.ty ≡ true)
      (over : List ℕ) (made : Handing types texts fs f (nothing types texts fs f) tt over s w Q)
      → (Begins types f (with_new (variable_local a u) w.state) → Q.typed w.given → IsFine types texts fs f code)
      → (Begins types f (with_new (variable_local a u) w.state) → RunsHanding types texts fs f (nothing types texts fs f) tt over s w Q made.code → (k : List Known) → length k ≡ length f.locals → Q.ready w.given (length w.state.locals) k
      → ((z : ℕ) → Among z over → known_at k z ≡ known.Blank) → known_at k (length w.state.locals) ≡ known.Blank
      → Falls types f code (set_known known.Ready over k) (slice_set k (length w.state.locals) known.Ready))
      → (given : List ℕ) → ((z : ℕ) → Among z (given_of (trees code)) → Among z given ⊎ Among z over)
      → (Begins types f (with_new (variable_local a u) w.state) → Q.typed w.given → (k : List Known) → Alive f w.state k → Q.ready w.given (length w.state.locals) k → known_at k (length w.state.locals) ≡ known.Blank
      → IsBelow w.state → AreApart f w.state (with_new (variable_local a u) w.state) (looked_of (trees code)) given)
      → Does types texts fs f a (with_next v) in_loop s (end_pending (length s.pending) last (with_code (w.state.code ++ code) (with_new (variable_local a u) w.state)))
  handed_declared v in_loop can last u s w Q code h at built over made fine falls given named apart =
      does_plain types texts fs f a (with_next v) in_loop s (end_pending (length s.pending) last (with_code (w.state.code ++ code) (with_new (variable_local a u) w.state)))
      (handed_under v in_loop can last u (nothing types texts fs f) tt s w Q code h at built over made (λ b. tt) fine falls given named apart (λ b living k knows. (k, knows, tt)))

  pub declared_does : {A : Type 0} (v : Visible) (in_loop : Bool) (can : TemporariesEnd types texts fs f (first_own a)) (last : Place) (u : TypedLocal) (s : State) (w : Gives A) (Q : Gift types texts fs f A) (code : List Tree)
      (h : Follows types f a v s) (at : slice_get a.function.locals v.declared ≡ Some u) (built : is_admitted_variable a.program.types u.ty ≡ true)
      → Makes types texts fs f None s w Q
      → (Begins types f (with_new (variable_local a u) w.state) → Q.typed w.given → IsFine types texts fs f code)
      → (Begins types f (with_new (variable_local a u) w.state) → (k : List Known) → length k ≡ length f.locals → Q.ready w.given (length w.state.locals) k → known_at k (length w.state.locals) ≡ known.Blank
      → Falls types f code k (slice_set k (length w.state.locals) known.Ready))
      → (Begins types f (with_new (variable_local a u) w.state) → Q.typed w.given → (k : List Known) → Alive f w.state k → Q.ready w.given (length w.state.locals) k → known_at k (length w.state.locals) ≡ known.Blank
      → Apart f w.state (with_new (variable_local a u) w.state) (trees code))
      → Does types texts fs f a (with_next v) in_loop s (end_pending (length s.pending) last (with_code (w.state.code ++ code) (with_new (variable_local a u) w.state)))
  declared_does v in_loop can last u s w Q code h at built made fine falls apart =
      does_plain types texts fs f a (with_next v) in_loop s (end_pending (length s.pending) last (with_code (w.state.code ++ code) (with_new (variable_local a u) w.state)))
      (declared_under v in_loop can last u (nothing types texts fs f) tt s w Q code h at built made (λ b. tt) fine falls apart (λ b living k knows. (k, knows, tt)))
