-- Where the body of a function begins: its parameters live, and no other variable does.
use Rattle.std.proofs.Common.{◌≡◌, ◌<◌, ◌≤◌, ◌⊎◌, inl, inr, ℕ, zero, suc, Bool, true, false, List, [], ◌∷◌, ◌++◌, length, map, slice_get, Option, Some, option_map, refl, sym, ap, ◌∙◌, subst, unwrap_or, arith, length-append, append_assoc, append-nil, None, if◌then◌else◌}
use Rattle.std.proofs.lemmas.Bool.{cases_eq, cases_lt, false≢true}
use Rattle.std.proofs.lemmas.Option.{none-some, slice_get-map, same_Some}
use Rattle.life_types.specs.TypeTests.{is_void}
use Rattle.life_types.specs.Types.{Types, class}
use Rattle.life_types.specs.declared.ty.Ty.{Ty}
use Rattle.life_types.specs.declared.ty.Ty.TheVariants as ty
use Rattle.life_elab_laws.proofs.ObjectTypes.{are_admitted_variables, is_admitted_result}
use Rattle.life_typed.specs.BaseTypes.{type_at}
use Rattle.life_typed.specs.declared.typed_program.ParameterPromise.{ParameterPromise}
use Rattle.life_typed.specs.declared.typed_program.TypedLocal.{TypedLocal}
use Rattle.life_core.specs.Function.{Function}
use Rattle.life_core.specs.Ready.{Ready, given_ready}
use Rattle.life_core.specs.declared.program.Local.{Local}
use Rattle.life_proper.specs.declared.known.Known.{Known}
use Rattle.life_proper.specs.declared.known.Known.TheVariants as known
use Rattle.life_proper.specs.Knowing.{entry_known, known_as, known_at}
use Rattle.life_well_typed.specs.Visible.{Visible, with_next, with_parameters}
use Rattle.life_writer.specs.Around.{Around}
use Rattle.life_writer.specs.Writing.{State, nothing_written}
use Rattle.life_elab.specs.Functions.{parameter_local}
use Rattle.life_elab.specs.Functions as elab
use Rattle.life_elab.specs.ProgramForms.{first_state, with_result, result_kind}
use Rattle.life_elab_laws.proofs.Among.{Among, among_left, among_right, contains_among}
use Rattle.life_elab_laws.proofs.Declaring.{follows_new, with_new}
use Rattle.life_elab_laws.proofs.Exits.{Knows}
use Rattle.life_elab_laws.proofs.ExpressionKinds.{variable_built}
use Rattle.life_elab_laws.proofs.Following.{Follows, HasRegister, follows_below, follows_grown}
use Rattle.life_elab_laws.proofs.Fronts.{IsFront, front_append, front_itself, last_there}
use Rattle.life_elab_laws.proofs.Growing.{Grows, grows_none}
use Rattle.life_elab_laws.proofs.OrderedTypes.{order_none}
use Rattle.life_elab_laws.proofs.WrittenLocals.{AddsRegisters, AreWrittenLocals, IsIntermediate, fits_register, locals_added, own_added, register_pushed, registers_none}
use Rattle.life_elab_laws.proofs.PendingTemporaries.{none_pending, pending_later}
use Rattle.life_elab_laws.proofs.ResultTypes.{IsResultType, gives_alias, gives_walker, gives_nothing, gives_raw, gives_reference, gives_value, gives_view, result_is, gives_struct, gives_owner, gives_unique, gives_whole}
use Rattle.life_elab_laws.proofs.Targets.{owner_target, value_target, struct_target}
use Rattle.life_elab_laws.proofs.AdmittedTypes.{IsBuilt, struct_tabled}
use Rattle.life_elab_laws.proofs.Values.{by_values}
use Rattle.life_elab_laws.proofs.OwnLocals.{first_own}
use Rattle.life_types.specs.declared.ty.NameId.{NameId}
use Rattle.life_writer.specs.Temporaries.{nameless_of}
use Rattle.life_core.specs.declared.program.LocalKind.{LocalKind}
use Rattle.life_core.specs.declared.program.LocalKind.TheVariants.{Object, Register}

-- ---- what is there at the entry

given_length : (n : ℕ) (ls : List Local) → length (given_ready n ls) ≡ length ls
given_length n [] = refl
given_length zero (l ∷ ls) = ap suc (given_length zero ls)
given_length (suc n) (l ∷ ls) = ap suc (given_length n ls)

given_there : (n : ℕ) (ls : List Local) (y : ℕ) (l : Local) → y < n → slice_get ls y ≡ Some l → slice_get (given_ready n ls) y ≡ Some true
given_there n [] y l lt at = absurd (none-some l at)
given_there zero (u ∷ ls) y l lt at = absurd (omega (arith, lt))
given_there (suc n) (u ∷ ls) zero l lt at = refl
given_there (suc n) (u ∷ ls) (suc y) l lt at = given_there n ls y l (omega (arith, lt)) at

given_blank : (n : ℕ) (ls : List Local) (y : ℕ) (l : Local) → n ≤ y → slice_get ls y ≡ Some l → slice_get (given_ready n ls) y ≡ Some false
given_blank n [] y l le at = absurd (none-some l at)
given_blank zero (u ∷ ls) zero l le at = refl
given_blank zero (u ∷ ls) (suc y) l le at = given_blank zero ls y l (omega arith) at
given_blank (suc n) (u ∷ ls) zero l le at = absurd (omega (arith, le))
given_blank (suc n) (u ∷ ls) (suc y) l le at = given_blank n ls y l (omega (arith, le)) at

known_given : (bits : Ready) (y : ℕ) (there : Bool) → slice_get bits y ≡ Some there → known_at (map known_as bits) y ≡ known_as there
known_given bits y there at = ap (λ (o : Option Known). unwrap_or o known.Unknown) (slice_get-map known_as bits y ∙ ap (option_map known_as) at)

map_length : (bits : Ready) → length (map known_as bits) ≡ length bits
map_length [] = refl
map_length (b ∷ bits) = ap suc (map_length bits)

-- ---- the parameters of a function

middle_there : {X : Type 0} (xs : List X) (x : X) (ys : List X) → slice_get (xs ++ x ∷ ys) (length xs) ≡ Some x
middle_there [] x ys = refl
middle_there (z ∷ xs) x ys = middle_there xs x ys

-- what is visible behind them
abbrev past_parameters : List ParameterPromise → Visible → Visible
past_parameters [] v = v
past_parameters (p ∷ ps) v = past_parameters ps (with_next v)

one_more : (ps : List ParameterPromise) (v : Visible) → past_parameters ps (with_next v) ≡ with_next (past_parameters ps v)
one_more [] v = refl
one_more (p ∷ ps) v = one_more ps (with_next v)

all_visible : (ps : List ParameterPromise) → past_parameters ps (with_parameters 0) ≡ with_parameters (length ps)
all_visible [] = refl
all_visible (p ∷ ps) = one_more ps (with_parameters 0) ∙ ap with_next (all_visible ps)

module _ (a : Around) where
  -- their locals
  abbrev pub parameter_locals : List ParameterPromise → List TypedLocal → List Local
  parameter_locals (p ∷ ps) (u ∷ us) = parameter_local a p u ∷ parameter_locals ps us
  parameter_locals _ _ = []

  locals_length : (ps : List ParameterPromise) (us : List TypedLocal) → length ps ≤ length us → length (parameter_locals ps us) ≡ length ps
  locals_length [] us few = refl
  locals_length (p ∷ ps) [] few = absurd (omega (arith, few))
  locals_length (p ∷ ps) (u ∷ us) few = ap suc (locals_length ps us (omega (arith, few)))

  locals_written : (ps : List ParameterPromise) (us : List TypedLocal) (s : State) → (elab.with_parameters a ps us s).locals ≡ s.locals ++ parameter_locals ps us
  locals_written [] us s = sym (append-nil s.locals)
  locals_written (p ∷ ps) [] s = sym (append-nil s.locals)
  locals_written (p ∷ ps) (u ∷ us) s =
      locals_written ps us (with_new (parameter_local a p u) s) ∙ append_assoc s.locals (parameter_local a p u ∷ []) (parameter_locals ps us)

  pub types_same : (ps : List ParameterPromise) (us : List TypedLocal) (s : State) → (elab.with_parameters a ps us s).types ≡ s.types
  types_same [] us s = refl
  types_same (p ∷ ps) [] s = refl
  types_same (p ∷ ps) (u ∷ us) s = types_same ps us (with_new (parameter_local a p u) s)

  code_same : (ps : List ParameterPromise) (us : List TypedLocal) (s : State) → (elab.with_parameters a ps us s).code ≡ s.code
  code_same [] us s = refl
  code_same (p ∷ ps) [] s = refl
  code_same (p ∷ ps) (u ∷ us) s = code_same ps us (with_new (parameter_local a p u) s)

  own_parameters : (types : Types) (ps : List ParameterPromise) (done us : List TypedLocal) (s : State) → done ++ us ≡ a.function.locals → AreWrittenLocals types a s → AreWrittenLocals types a (elab.with_parameters a ps us s)
  own_parameters types [] done us s e h = h
  own_parameters types (p ∷ ps) done [] s e h = h
  own_parameters types (p ∷ ps) done (u ∷ us) s e h =
      let at : slice_get a.function.locals (length done) ≡ Some u = subst (λ (xs : List TypedLocal). slice_get xs (length done) ≡ Some u) e (middle_there done u us) in
      own_parameters types ps (done ++ u ∷ []) us (with_new (parameter_local a p u) s) (append_assoc done (u ∷ []) us ∙ e)
      (own_added types a s (parameter_local a p u) (record { number = length done; variable = u; there = at; of = record { named = refl; typed = refl; kind = refl } }) h)

  -- all of them live
  abbrev AllLive : State → Type 0
  AllLive s = (y : ℕ) → y < length s.locals → Among y s.living

  all_live : (ps : List ParameterPromise) (us : List TypedLocal) (s : State) → AllLive s → AllLive (elab.with_parameters a ps us s)
  all_live [] us s h = h
  all_live (p ∷ ps) [] s h = h
  all_live (p ∷ ps) (u ∷ us) s h = all_live ps us (with_new (parameter_local a p u) s) more
    where
      more : AllLive (with_new (parameter_local a p u) s)
      more y lt = elim (cases_eq (length s.locals) y) [
        | inl e ↦ among_right s.living (length s.locals ∷ []) y (inl e)
        | inr other ↦ among_left s.living (length s.locals ∷ []) y (h y (omega (arith, lt, other, length-append s.locals (parameter_local a p u ∷ []))))
      ]

  -- ---- the result behind them

  abbrev result_here : LocalKind → Local
  result_here kind = nameless_of kind a.function.place a.function.result

  -- a register, or an object that is an owner, a unique_ptr or a struct
  abbrev FitsResult : Ty → LocalKind → Type 0
  FitsResult t kind = ((kind ≡ Register) × (fits_register a.program.types t ≡ true)) ⊎ ((kind ≡ Object) × (slice_get a.program.types.types a.function.result.0 ≡ Some t → IsBuilt a.program.types t))

  one_register : (t : Ty) (kind : LocalKind) (s : State) → FitsResult t kind → slice_get a.program.types.types a.function.result.0 ≡ Some t → slice_get s.types.types a.function.result.0 ≡ Some t
      → (y : ℕ) (l : Local) → slice_get (s.locals ++ result_here kind ∷ []) y ≡ Some l → (slice_get s.locals y ≡ Some l) ⊎ IsIntermediate a.program.types s.types l
  one_register t kind s (inl fits) own at =
      register_pushed a.program.types s.types s.locals (result_here kind) (record { nameless = refl; ty = t; typed = at; fits = inl (fits.0, fits.1) })
  one_register t kind s (inr fits) own at =
      register_pushed a.program.types s.types s.locals (result_here kind) (record { nameless = refl; ty = t; typed = at; fits = inr (inl (fits.0, inr (fits.1 own))) })

  one_register_grows : (kind : LocalKind) (s : State) → Grows s (record s { locals = s.locals ++ result_here kind ∷ [] })
  one_register_grows kind s = record {
    locals = front_append s.locals (result_here kind ∷ []);
    types = front_itself s.types.types;
    count = omega (arith, length-append s.locals (result_here kind ∷ []));
    variables = refl;
    living = refl;
    pending = front_itself s.pending;
    fresh = λ y m lt. m;
    pends = λ low p. pending_later low s (record s { locals = s.locals ++ result_here kind ∷ [] }) (front_append s.locals (result_here kind ∷ [])) (front_itself s.types.types) refl refl p;
    outside = refl;
  }

  -- what is so of one local more, and where nothing is given back, is so of the result
  by_result : (s : State) (P : Ty → State → Type 0) → P ty.Void s → ((t : Ty) → FitsResult t (result_kind (class (Some t))) → P t (record s { locals = s.locals ++ result_here (result_kind (class (Some t))) ∷ [] })) → (t : Ty) → IsResultType a.program.types t → P t (with_result a t s)
  by_result s P none one t (gives_nothing void) = subst (λ (u : Ty). P u (with_result a u s)) (sym void) none
  by_result s P none one t (gives_value v) =
      by_values (λ u. P u (with_result a u s)) (one ty.Bool (inl (refl, refl))) (one ty.Char (inl (refl, refl))) (one ty.Int (inl (refl, refl))) (one ty.Long (inl (refl, refl))) (one ty.Size (inl (refl, refl))) t v
  by_result s P none one t (gives_raw target constant raw w) = subst (λ (u : Ty). P u (with_result a u s)) (sym raw) (one (ty.Raw target constant) (inl (refl, w)))
  by_result s P none one (ty.Iterator target constant) (gives_walker w) = one (ty.Iterator target constant) (inl (refl, w))
  by_result s P none one (ty.Span target constant) (gives_walker w) = one (ty.Span target constant) (inl (refl, w))
  by_result s P none one _ (gives_walker w) = absurd (false≢true w)
  by_result s P none one ty.Text (gives_owner o) = one ty.Text (inr (refl, λ own. inl o))
  by_result s P none one (ty.Vector item) (gives_owner o) = one (ty.Vector item) (inr (refl, λ own. inl o))
  by_result s P none one _ (gives_owner o) = absurd (false≢true o)
  by_result s P none one t (gives_unique target unique w) = subst (λ (u : Ty). P u (with_result a u s)) (sym unique) (one (ty.Unique target) (inr (refl, λ own. inr (inl w))))
  by_result s P none one t (gives_whole number whole) =
      subst (λ (u : Ty). P u (with_result a u s)) (sym whole)
      (one (ty.Struct number) (inr (refl, λ own. inr (inr (struct_tabled a.program.types a.function.result number (ap (λ (o : Option Ty). unwrap_or o ty.Void) own))))))
  by_result s P none one t (gives_view view) = subst (λ (u : Ty). P u (with_result a u s)) (sym view) (one ty.View (inl (refl, refl)))
  by_result s P none one t (gives_reference target constant refers w) =
      subst (λ (u : Ty). P u (with_result a u s)) (sym refers) (one (ty.Reference target constant) (inl (refl, value_target a.program.types (type_at a.program.types target) w)))
  by_result s P none one t (gives_alias target constant refers o) =
      subst (λ (u : Ty). P u (with_result a u s)) (sym refers) (one (ty.Reference target constant) (inl (refl, owner_target a.program.types (type_at a.program.types target) o)))
  by_result s P none one t (gives_struct target constant number refers structure pointless) =
      subst (λ (u : Ty). P u (with_result a u s)) (sym refers) (one (ty.Reference target constant) (inl (refl, struct_target a.program.types (type_at a.program.types target) pointless)))

  pub result_grows : (t : Ty) (s : State) → IsResultType a.program.types t → Grows s (with_result a t s)
  result_grows t s kind = by_result s (λ t r. Grows s r) (grows_none s) (λ t fits. one_register_grows (result_kind (class (Some t))) s) t kind

  -- .. a local without a name
  result_registers : (t : Ty) (s : State) → IsResultType a.program.types t → slice_get a.program.types.types a.function.result.0 ≡ Some t → slice_get s.types.types a.function.result.0 ≡ Some t → AddsRegisters a.program.types s (with_result a t s)
  result_registers t s kind own at =
      by_result s (λ t r. slice_get a.program.types.types a.function.result.0 ≡ Some t → slice_get s.types.types a.function.result.0 ≡ Some t → AddsRegisters a.program.types s r) (λ own at. registers_none a.program.types s)
      (λ t fits own at. (one_register t (result_kind (class (Some t))) s fits own at, order_none s.types)) t kind own at

  result_there : (t : Ty) (s : State) → IsResultType a.program.types t → is_void t ≡ false → slice_get (with_result a t s).locals (length s.locals) ≡ Some (result_here (result_kind (class (Some t))))
  result_there t s kind some =
      by_result s (λ t r. is_void t ≡ false → slice_get r.locals (length s.locals) ≡ Some (result_here (result_kind (class (Some t))))) (λ void. absurd (false≢true (sym void)))
      (λ t fits some. last_there s.locals (result_here (result_kind (class (Some t))))) t kind some

  result_code : (t : Ty) (s : State) → (with_result a t s).code ≡ s.code
  result_code ty.Void s = refl
  result_code _ s = refl

  result_pending : (t : Ty) (s : State) → (with_result a t s).pending ≡ s.pending
  result_pending ty.Void s = refl
  result_pending _ s = refl

  result_types : (t : Ty) (s : State) → (with_result a t s).types ≡ s.types
  result_types ty.Void s = refl
  result_types _ s = refl

  -- ---- where the body begins, in a table that begins with the program's

  module _ (T : Types) (fits : length a.function.parameters ≤ length a.function.locals) (table : IsFront a.program.types.types T.types) where
    abbrev pub given : State
    given = elab.with_parameters a a.function.parameters a.function.locals (nothing_written T)

    pub given_count : length given.locals ≡ length a.function.parameters
    given_count = ap length (locals_written a.function.parameters a.function.locals (nothing_written T)) ∙ locals_length a.function.parameters a.function.locals fits

    pub first_code : (first_state a T).code ≡ []
    first_code = result_code (type_at a.program.types a.function.result) given ∙ code_same a.function.parameters a.function.locals (nothing_written T)

    pub first_types : (first_state a T).types ≡ T
    first_types = result_types (type_at a.program.types a.function.result) given ∙ types_same a.function.parameters a.function.locals (nothing_written T)

    kind_of : is_admitted_result a.program.types a.function.result ≡ true → IsResultType a.program.types (type_at a.program.types a.function.result)
    kind_of b = result_is a.program.types (type_at a.program.types a.function.result) b

    -- the parameters, and the local of the result
    pub first_locals : (t : Ty) → slice_get a.program.types.types a.function.result.0 ≡ Some t → is_admitted_result a.program.types a.function.result ≡ true → AreWrittenLocals a.program.types a (first_state a T)
    first_locals t at b =
        let found : type_at a.program.types a.function.result ≡ t = ap (λ (o : Option Ty). unwrap_or o ty.Void) at in
        let there : slice_get given.types.types a.function.result.0 ≡ Some t =
        ap (λ (x : Types). slice_get x.types a.function.result.0) (types_same a.function.parameters a.function.locals (nothing_written T)) ∙ table a.function.result.0 t at in
        locals_added a.program.types a given (first_state a T) (result_grows (type_at a.program.types a.function.result) given (kind_of b)).types
        (result_registers (type_at a.program.types a.function.result) given (kind_of b) (at ∙ ap Some (sym found)) (there ∙ ap Some (sym found)))
        (own_parameters a.program.types a.function.parameters [] a.function.locals (nothing_written T) refl (λ y l none. absurd (none-some l none)))

    pub result_first : is_admitted_result a.program.types a.function.result ≡ true → is_void (type_at a.program.types a.function.result) ≡ false
        → slice_get (first_state a T).locals (length a.function.parameters) ≡ Some (result_here (result_kind (class (Some (type_at a.program.types a.function.result)))))
    result_first b some = ap (slice_get (first_state a T).locals) (sym given_count) ∙ result_there (type_at a.program.types a.function.result) given (kind_of b) some

    pub parameters_front : is_admitted_result a.program.types a.function.result ≡ true → IsFront (parameter_locals a.function.parameters a.function.locals) (first_state a T).locals
    parameters_front result y l at =
        (result_grows (type_at a.program.types a.function.result) given (kind_of result)).locals y l
        (subst (λ (ls : List Local). slice_get ls y ≡ Some l) (sym (locals_written a.function.parameters a.function.locals (nothing_written T))) at)

    pub register_there : (t : Ty) → slice_get a.program.types.types a.function.result.0 ≡ Some t → is_admitted_result a.program.types a.function.result ≡ true → HasRegister a (first_state a T)
    register_there t at b some = record {
      local = result_here (result_kind (class (Some (type_at a.program.types a.function.result))));
      there = result_first b some;
      nameless = refl;
      kind = refl;
      typed =
          ap (λ (x : Types). slice_get x.types a.function.result.0) first_types ∙ table a.function.result.0 t at
          ∙ ap Some (sym (ap (λ (o : Option Ty). unwrap_or o ty.Void) at));
    }

    -- .. of a function that gives nothing back, so its own locals may begin anywhere
    module _ (none : first_own a ≡ 0) (types : Types) (f : Function) (front : IsFront a.program.types.types types.types) (variables : are_admitted_variables a.program.types a.function.locals ≡ true) where
      nothing_follows : Follows types f a (with_parameters 0) (nothing_written T)
      nothing_follows = record {
        count = refl;
        visible = λ x c. absurd (contains_among [] x c);
        stands = record { table = table; opened = λ y c. absurd (contains_among [] y c); pends = none_pending _ [] T.types [] [] (omega (arith, none)) refl; seen = λ x u c at. absurd (contains_among [] x c); apart = λ x y u w c at d there other e. contains_among [] x c };
        ascend = tt;
        outside = omega arith;
        living = λ y m. absurd m;
        sorts = λ b y m. absurd m;
        pending = refl;
      }

      each_follows : (ps : List ParameterPromise) (done us : List TypedLocal) (v : Visible) (s : State) → done ++ us ≡ a.function.locals → length done ≡ v.declared → length ps ≤ length us → Follows types f a v s
          → Follows types f a (past_parameters ps v) (elab.with_parameters a ps us s)
      each_follows [] done us v s e n few h = h
      each_follows (p ∷ ps) done [] v s e n few h = absurd (omega (arith, few))
      each_follows (p ∷ ps) done (u ∷ us) v s e n few h =
          let at : slice_get a.function.locals v.declared ≡ Some u = subst (λ (k : ℕ). slice_get a.function.locals k ≡ Some u) n (subst (λ (xs : List TypedLocal). slice_get xs (length done) ≡ Some u) e (middle_there done u us)) in
          each_follows ps (done ++ u ∷ []) us (with_next v) (with_new (parameter_local a p u) s) (append_assoc done (u ∷ []) us ∙ e) (omega (arith, n, length-append done (u ∷ []))) (omega (arith, few))
          (follows_new types f a front v u (parameter_local a p u) (record { named = refl; typed = refl; kind = refl }) s h at (variable_built a.program.types a.function.locals v.declared u variables at))

      pub given_follows : Follows types f a (with_parameters (length a.function.parameters)) given
      given_follows =
          subst (λ (v : Visible). Follows types f a v given) (all_visible a.function.parameters)
          (each_follows a.function.parameters [] a.function.locals (with_parameters 0) (nothing_written T) refl refl fits nothing_follows)

either_low : (b : Bool) (n m : ℕ) → n ≤ m → (if b then 0 else n) ≤ m
either_low true n m le = omega arith
either_low false n m le = le

-- there is nothing past the end of a list
pub nothing_past : {X : Type 0} (xs : List X) → slice_get xs (length xs) ≡ None
nothing_past [] = refl
nothing_past (x ∷ xs) = nothing_past xs

-- in any function
module _ (a : Around) where
  parameters_named : (ps : List ParameterPromise) (us : List TypedLocal) (y : ℕ) (l : Local) → slice_get (parameter_locals a ps us) y ≡ Some l → l.name ≡ None → ⊥
  parameters_named [] us y l at none = none-some l at
  parameters_named (p ∷ ps) [] y l at none = none-some l at
  parameters_named (p ∷ ps) (u ∷ us) zero l at none = none_name (ap (λ (z : Local). z.name) (same_Some (parameter_local a p u) l at) ∙ none)
    where
      none_name : ◌≡◌ {A = Option NameId} (Some u.name) None → ⊥
      none_name e = cc
  parameters_named (p ∷ ps) (u ∷ us) (suc y) l at none = parameters_named ps us y l at none

  module _ (T : Types) (fits : length a.function.parameters ≤ length a.function.locals) (table : IsFront a.program.types.types T.types) (types : Types) (f : Function) (front : IsFront a.program.types.types types.types)
      (variables : are_admitted_variables a.program.types a.function.locals ≡ true) where
    abbrev start : State
    start = elab.with_parameters a a.function.parameters a.function.locals (nothing_written T)

    -- it is as if nothing were given back
    abbrev mute : Around
    mute = record a { function = record a.function { result = record { 0 = length a.program.types.types } } }

    mute_none : first_own mute ≡ 0
    mute_none = ap (λ (o : Option Ty). if is_void (unwrap_or o ty.Void) then 0 else suc (length a.function.parameters)) (nothing_past a.program.types.types)

    same_given : (ps : List ParameterPromise) (us : List TypedLocal) (s : State) → elab.with_parameters mute ps us s ≡ elab.with_parameters a ps us s
    same_given [] us s = refl
    same_given (p ∷ ps) [] s = refl
    same_given (p ∷ ps) (u ∷ us) s = same_given ps us (with_new (parameter_local a p u) s)

    begins_there : Follows types f mute (with_parameters (length a.function.parameters)) start
    begins_there =
        subst (λ (s : State). Follows types f mute (with_parameters (length a.function.parameters)) s) (same_given a.function.parameters a.function.locals (nothing_written T))
        (given_follows mute T fits table mute_none types f front variables)

    -- the parameters have names
    named : (y : ℕ) (l : Local) → slice_get start.locals y ≡ Some l → l.name ≡ None → ⊥
    named y l at none =
        parameters_named a.function.parameters a.function.locals y l
        (ap (λ (ls : List Local). slice_get ls y) (sym (locals_written a a.function.parameters a.function.locals (nothing_written T))) ∙ at) none

    -- .. and behind the result the function's own locals begin
    past_result : is_admitted_result a.program.types a.function.result ≡ true → first_own a ≤ length (first_state a T).locals
    past_result result =
        by_result a start (λ t r. (if is_void t then 0 else suc (length a.function.parameters)) ≤ length r.locals) (omega arith)
        (λ t one. either_low (is_void t) (suc (length a.function.parameters)) (length (start.locals ++ result_here a (result_kind (class (Some t))) ∷ []))
        (omega (arith, given_count a T fits table, length-append start.locals (result_here a (result_kind (class (Some t))) ∷ []))))
        (type_at a.program.types a.function.result) (kind_of a T fits table result)

    pub first_follows : is_admitted_result a.program.types a.function.result ≡ true → Follows types f a (with_parameters (length a.function.parameters)) (first_state a T)
    first_follows result =
        let grows = result_grows a (type_at a.program.types a.function.result) start (kind_of a T fits table result) in
        let h =
        follows_grown types f mute (with_parameters (length a.function.parameters)) start (first_state a T) (result_pending a (type_at a.program.types a.function.result) start) grows begins_there in
        record {
          count = h.count;
          visible = h.visible;
          stands = record {
            table = h.stands.table;
            opened = h.stands.opened;
            pends = none_pending _ (first_state a T).locals (first_state a T).types.types (first_state a T).living (first_state a T).pending (past_result result) h.pending;
            seen = λ x u c at. let is = h.stands.seen x u c at in record { local = is.local; there = is.there; typed = is.typed; kind = is.kind; named = is.named; lives = is.lives };
            apart = h.stands.apart;
          };
          ascend = h.ascend;
          outside = h.outside;
          living = λ y m.
              let is = h.living y m in
              let was = begins_there.living y (subst (Among y) grows.living m) in
              record {
                beyond = λ l at none. absurd (named y was.local was.there (ap (λ (z : Local). z.name) (same_Some was.local l (sym (grows.locals y was.local was.there) ∙ at)) ∙ none));
                local = is.local;
                there = is.there;
                lasts = is.lasts;
              };
          sorts = h.sorts;
          pending = h.pending;
        }

    -- the parameters are known, and all else that has a name is blank
    pub entry_knows : is_admitted_result a.program.types a.function.result ≡ true → f.parameters ≡ length a.function.parameters → IsFront (first_state a T).locals f.locals → Knows f (first_state a T).living (entry_known f)
    entry_knows result count locals = record {
      sized = map_length (given_ready f.parameters f.locals) ∙ given_length f.parameters f.locals;
      alive = λ y m. alive y (subst (Among y) same m);
      blank = λ y l there lasts none. blank y l there (λ m. none (subst (Among y) (sym same) m));
    }
      where
        grows : Grows start (first_state a T)
        grows = result_grows a (type_at a.program.types a.function.result) start (kind_of a T fits table result)

        same : (first_state a T).living ≡ start.living
        same = grows.living

        alive : (y : ℕ) → Among y start.living → known_at (entry_known f) y ≡ known.Ready
        alive y m =
            let is = begins_there.living y m in
            let there : slice_get f.locals y ≡ Some is.local = locals y is.local (grows.locals y is.local is.there) in
            let below : y < length start.locals = follows_below types f mute (with_parameters (length a.function.parameters)) start begins_there y m in
            known_given (given_ready f.parameters f.locals) y true (given_there f.parameters f.locals y is.local (omega (arith, below, given_count a T fits table, count)) there)

        blank : (y : ℕ) (l : Local) → slice_get f.locals y ≡ Some l → (Among y start.living → ⊥) → known_at (entry_known f) y ≡ known.Blank
        blank y l there none = elim (cases_lt y (length start.locals)) [
          | inl lt ↦ absurd (none (all_live a a.function.parameters a.function.locals (nothing_written T) (λ z small. absurd (omega (arith, small))) y lt))
          | inr le ↦ known_given (given_ready f.parameters f.locals) y false (given_blank f.parameters f.locals y l (omega (arith, le, given_count a T fits table, count)) there)
        ]
