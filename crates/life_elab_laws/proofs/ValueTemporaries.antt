-- A temporary of a value type: what is computed is saved there, or a call gives its result there.
use Rattle.std.proofs.Common.{◌≡◌, inl, ℕ, Bool, true, false, ◌&&◌, cond, not, List, None, Option, Some, length, refl, sym, ap, ◌∙◌, subst, arith, slice_get, ◌∷◌, [], length-append, if◌then◌else◌}
use Rattle.life_types.specs.Pointees.{ty_of}
use Rattle.life_types.specs.TypeTests.{is_value}
use Rattle.life_types.specs.Types.{Types}
use Rattle.life_types.specs.contracts.ty.TyPartialEq.TheImpl.{ghosts as compared}
use Rattle.life_types.specs.declared.place.Place.{Place}
use Rattle.life_types.specs.declared.ty.Ty.{Ty}
use Rattle.life_typed.specs.BaseTypes.{type_at}
use Rattle.life_typed.specs.Conversions.{is_place}
use Rattle.life_typed.specs.Programs.{FunctionForm}
use Rattle.life_typed.specs.TypedForm.{Form, typed}
use Rattle.life_typed.specs.declared.typed_expr.Category.{Category}
use Rattle.life_core.specs.Function.{Function}
use Rattle.life_core.specs.Operands.{Argument, Location, Operand, object_named, whole}
use Rattle.life_core.specs.Step.{Save, Step}
use Rattle.life_core.specs.declared.instr.Form.TheVariants.{Plain}
use Rattle.life_proper.specs.WellFormed.{goes_to}
use Rattle.life_well_typed.specs.Expressions.{parameter_types, typed_in}
use Rattle.life_well_typed.specs.Given.{is_number}
use Rattle.life_writer.specs.Around.{Around, own_type}
use Rattle.life_writer.specs.Around as around
use Rattle.life_writer.specs.Calls.{Called, called, expression_call}
use Rattle.life_writer.specs.ExpressionForms.{all_uses, uses}
use Rattle.life_writer.specs.Giving.{call_to, value_by}
use Rattle.life_writer.specs.Giving as giving
use Rattle.life_writer.specs.Temporaries.{temporary, nameless_of}
use Rattle.life_writer.specs.Uses.{Uses, filled, own, saved}
use Rattle.life_writer.specs.Using.{value}
use Rattle.life_writer.specs.Writing.{Gives, State, ◌>>◌, emit, gives, mapped}
use Rattle.life_writer.proofs.Called.{calling, form_calls}
use Rattle.life_elab_laws.proofs.CallParts.{goes_object}
use Rattle.life_elab_laws.proofs.ExpressionForms.{IsWhole, Placed, Standing}
use Rattle.life_elab_laws.proofs.ExpressionTypes.{answer_own}
use Rattle.life_elab_laws.proofs.Gifts.{a_number, a_place, both, nothing as no_gift}
use Rattle.life_elab_laws.proofs.Parts.{Makes, and_part, keep_part, seen_part}
use Rattle.life_elab_laws.proofs.PointerForms.{held_typed, own_typed, result_later}
use Rattle.life_elab_laws.proofs.Saving.{saved_part}
use Rattle.life_elab_laws.proofs.Setting.{Setting}
use Rattle.life_elab_laws.proofs.TemporaryBirths.{born_object, born_typed, lived_part, lived_there, begun, born_alive, born_blank, born_grows, born_place, born_registers, born_within}
use Rattle.life_elab_laws.proofs.Types.{same_types}
use Rattle.life_elab_laws.proofs.Values.{by_values}
use Rattle.life_elab_laws.proofs.VariablePlaces.{stands_later}
use Rattle.life_elab_laws.proofs.WrittenLocals.{fits_below, value_fits}
use Rattle.life_elab_laws.proofs.HandedArguments.{Hands}
use Rattle.life_elab_laws.proofs.HandingCalls.{Receives, call_received}
use Rattle.life_elab_laws.proofs.GivenApart.{one_pending}
use Rattle.life_elab_laws.proofs.Held.{blank_there}
use Rattle.life_elab_laws.proofs.Knowledge.{at_set}
use Rattle.life_core.specs.declared.program.Local.{Local}
use Rattle.life_core.specs.declared.program.LocalKind.TheVariants.{Object}
use Rattle.life_core.specs.Kinds.{is_object_at}
use Rattle.life_proper.specs.Knowing.{known_at}
use Rattle.life_proper.specs.ReadyKnown.{are_known}
use Rattle.life_proper.specs.declared.known.Known.{Known}
use Rattle.life_proper.specs.declared.known.Known.TheVariants as known
use Rattle.life_proper.proofs.ReadyTests.{one_known}
use Rattle.life_writer.specs.Registers.{type_number, typed_with}
use Rattle.life_elab_laws.proofs.OrderedTypes.{HasPartsIn}

-- the call that an expression is
pub call_seen : (a : Around) (form : Form) → (uses a form).call ≡ calling a (expression_call form)
call_seen a (typed place t c form) = form_calls a form place t c
call_seen a _ = refl

module _ (a : Around) (visible : List ℕ) (types : Types) (texts : ℕ) (fs : List Function) (f : Function) (setting : Setting a types fs f) where
  abbrev Stood : State → Type 0
  Stood s = Standing a visible types texts fs f setting s

  module _ (t : Ty) (worth : is_value t ≡ true) (place : Place) where
    abbrev PlacedThere : State → Gives Operand → Type 0
    PlacedThere s w = Placed a visible types texts fs f setting t false s w

    within : (s : State) → HasPartsIn s.types t
    within s ordered = fits_below s.types s.types (omega arith) t (value_fits s.types t worth)

    -- a value is saved there
    saved_there : (s : State) (w : Gives ℕ) → Stood s → Makes types texts fs f None s w (a_number types texts fs f t) → PlacedThere s (mapped object_named (saved w.given (temporary place t) w.state))
    saved_there s w stands made =
        let later = stands_later a visible s w.state made.grown stands in
        let x = lived_there types texts fs f place Plain t w.state (inl worth) later.opened _ later.pends (within w.state) in
        let one = lived_part types texts fs f place Plain t w.state (inl worth) later.opened _ later.pends (within w.state) in
        let G = no_gift types texts fs f in
        let N = a_number types texts fs f t in
        let Q = a_place types texts fs f t false in
        let B = both types texts fs f N Q in
        let done = emit place (Save x.given w.given) x.state in
        let pair = and_part types texts fs f G tt s w x N Q stands.opened made one in
        let act = saved_part types texts fs f B (w.given, x.given) t w.given x.given place x.state (λ h. h.0) (λ h. h.1) (λ n k h. h) in
        let all = keep_part types texts fs f G tt s (gives (w.given, x.given) x.state) (gives tt done) B G stands.opened pair act in
        seen_part types texts fs f G tt None s (gives ((w.given, x.given), tt) done) (both types texts fs f B G) (λ y. y.0.1) Q all (λ b h. h.0.1) (λ n k h. h.0.1)

    -- .. or a call gives its result
    module _ (g : ℕ) (of : FunctionForm) (there : slice_get a.program.functions g ≡ Some of) (same : ty_of types of.result ≡ t) (s : State) (w : Gives (List Argument)) (stands : Stood s)
        (hands : Hands types texts fs f (parameter_types (Some of)) s w) where
      abbrev x : ℕ
      x = length w.state.locals

      abbrev calls : ℕ → Step
      calls y = called g w.given (whole y)

      later : Stood w.state
      later = stands_later a visible s w.state hands.grown stands

      -- it takes the result of the call
      receives : Receives types texts fs f None w.state x (begun types texts fs f place calls t w.state (inl worth) later.opened _ later.pends (within w.state))
      receives = record {
        grown = born_grows types texts fs f place calls t w.state (inl worth) later.opened _ later.pends (within w.state);
        registers = born_registers types texts fs f place calls t w.state (inl worth) later.opened _ later.pends (within w.state);
        unwritten = refl;
        opens = λ y o. one_pending x (length (begun types texts fs f place calls t w.state (inl worth) later.opened _ later.pends (within w.state)).locals) w.state.living w.state.pending y (omega (arith, length-append w.state.locals (new ∷ []))) o;
        below = omega (arith, length-append w.state.locals (new ∷ []));
        beside = λ y lt b e. omega (arith, lt, e);
        aside = λ b y lt object e. omega (arith, lt, e);
        new = λ b object. omega arith;
        blank = λ b k alive. one k (is_object_at f x) (born_blank types texts fs f place calls t w.state (inl worth) later.opened _ later.pends (within w.state) b k alive);
        there = λ b k alive. at_set k x known.Ready (born_within types texts fs f place calls t w.state (inl worth) later.opened _ later.pends (within w.state) b k alive);
        alive = λ b k alive. born_alive types texts fs f place calls t w.state (inl worth) later.opened _ later.pends (within w.state) b k alive;
      }
        where
          new : Local
          new = nameless_of Object place (type_number t (typed_with t w.state))

          one : (k : List Known) (object : Bool) → known_at k x ≡ known.Blank → are_known known.Blank k (if object then x ∷ [] else []) ≡ true
          one k true blank = one_known known.Blank k x (blank_there k x blank)
          one k false blank = refl

      called_there : PlacedThere s (mapped object_named (filled place (called g w.given) (temporary place t) w.state))
      called_there =
          call_received types texts fs f g of (setting.callees g of there) s w hands None x (begun types texts fs f place calls t w.state (inl worth) later.opened _ later.pends (within w.state)) (object_named x) (a_place types texts fs f t false) place receives
          (λ b.
          ap (λ (u : Ty). goes_to types texts fs f u (Some (whole x))) same
          ∙ goes_object types texts fs f t x worth
          (born_typed types texts fs f place calls t w.state (inl worth) later.opened _ later.pends (within w.state) b)
          (born_object types texts fs f place calls t w.state (inl worth) later.opened _ later.pends (within w.state) b))
          (λ b. born_place types texts fs f place calls t w.state (inl worth) later.opened _ later.pends (within w.state) b)
          (λ k ready. record { local = x; uses = refl; below = receives.below; held = ready })

  -- ---- what an expression gives it

  module _ (form : Form) (is : IsWhole a visible types texts fs f setting form) (t : Ty) (worth : is_value t ≡ true) (n : is_number (typed_in form).ty ≡ true) (behind : Place) (s : State) (stands : Stood s) where
    abbrev e : Uses
    e = uses a form

    -- .. with the call that it is
    abbrev By : Option (State → Gives (Location → Step)) → Gives Operand
    By o = mapped object_named (value_by o e.place (value e behind t None) s >> λ rest s. rest (temporary e.place t) s)

    abbrev Made : Gives Operand → Type 0
    Made w = Placed a visible types texts fs f setting t false s w

    by_value : Made (By None)
    by_value = saved_there t worth e.place s (value e behind t None s) stands (is.valued n behind t worth None s tt stands)

    by_call : (c : Called) → expression_call form ≡ Some c → compared.eq (own e) t ≡ true → not (is_place e.category) ≡ true → Made (By (calling a (Some c)))
    by_call c found same plain =
        let k = is.calls c found in
        called_there t worth e.place c.function k.of k.there
        (result_later a visible types texts fs f setting c.function k.of k.there
        ∙ answer_own a.program.types (type_at a.program.types k.of.result) (typed_in form).ty (typed_in form).category k.answers (ap (λ (c : Category). not (is_place c)) (held_typed a visible types texts fs f setting form) ∙ plain)
        ∙ ap own_type (own_typed a visible types texts fs f setting form) ∙ same_types (own e) t same)
        s (giving.arguments a (all_uses a c.arguments) c.delimiters (around.parameter_types a c.function) s) stands (k.hands s stands)

    -- a call is one where it needs no conversion and gives no reference
    chosen : Made (By (call_to e t))
    chosen = go (compared.eq (own e) t) refl (not (is_place e.category)) refl
      where
        found : (o : Option Called) → expression_call form ≡ o → compared.eq (own e) t ≡ true → not (is_place e.category) ≡ true → Made (By (calling a o))
        found None at same plain = by_value
        found (Some c) at same plain = by_call c at same plain

        go : (b : Bool) → compared.eq (own e) t ≡ b → (c : Bool) → not (is_place e.category) ≡ c → Made (By (cond (b && c) e.call None))
        go true same true plain = subst (λ (o : Option (State → Gives (Location → Step))). Made (By o)) (sym (call_seen a form)) (found (expression_call form) refl same plain)
        go true same false plain = by_value
        go false same c plain = by_value

    pub value_temporary : Made (mapped object_named (giving.given e t behind s >> λ rest s. rest (temporary e.place t) s))
    value_temporary =
        subst Made
        (sym (by_values (λ x. mapped object_named (giving.given e x behind s >> λ rest s. rest (temporary e.place x) s) ≡ mapped object_named (value_by (call_to e x) e.place (value e behind x None) s >> λ rest s. rest (temporary e.place x) s)) refl refl refl refl refl t worth))
        chosen
