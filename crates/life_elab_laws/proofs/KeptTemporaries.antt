-- A reference that is declared with what isn't a place of its type: what is computed is saved in a temporary that lives as long as it, or a call gives its result there.
use Rattle.std.proofs.Common.{◌≡◌, ℕ, Bool, true, false, ◌&&◌, cond, not, List, [], ◌∷◌, ◌++◌, length, slice_get, Option, Some, None, refl, sym, ap, ◌∙◌, subst, arith, append_assoc, inl, flat_map}
use Rattle.life_elab_laws.proofs.ObjectTypes.{is_admitted_variable}
use Rattle.life_types.specs.TypeTests.{is_value}
use Rattle.life_types.specs.Types.{Types}
use Rattle.life_types.specs.contracts.ty.TyPartialEq.TheImpl.{ghosts as compared}
use Rattle.life_types.specs.declared.place.Place.{Place}
use Rattle.life_types.specs.declared.ty.Ty.{Ty}
use Rattle.life_types.specs.declared.ty.TyId.{TyId}
use Rattle.life_typed.specs.BaseTypes.{type_at}
use Rattle.life_typed.specs.Conversions.{is_place, is_place_of}
use Rattle.life_typed.specs.TypedForm.{Typed, whole as whole_form}
use Rattle.life_typed.specs.declared.typed_program.TypedLocal.{TypedLocal}
use Rattle.life_core.specs.Function.{Function}
use Rattle.life_core.specs.Operands.{Place as Aimed, Location, object_named, whole}
use Rattle.life_core.specs.Step.{Aim, Live, Save, Step}
use Rattle.life_core.specs.Tree.{Acts, Tree}
use Rattle.life_core.specs.declared.instr.Form.TheVariants.{Plain}
use Rattle.life_proper.specs.GivenOver.{given_argument}
use Rattle.life_proper.specs.WellFormed.{goes_to}
use Rattle.life_well_typed.specs.Expressions.{parameter_types}
use Rattle.life_well_typed.specs.Given.{is_number}
use Rattle.life_well_typed.specs.Visible.{Visible, with_next}
use Rattle.life_writer.proofs.Called.{call_for_seen, calling}
use Rattle.life_writer.specs.Around.{Around, own_type, type_of}
use Rattle.life_writer.specs.Calls.{Called, call_for, called, form_call}
use Rattle.life_writer.specs.ExpressionForms.{all_uses, uses}
use Rattle.life_writer.specs.Giving.{aimed_at, call_to, initial, value_by}
use Rattle.life_writer.specs.Temporaries.{scoped}
use Rattle.life_writer.specs.Uses.{Remaining}
use Rattle.life_writer.specs.Using.{value}
use Rattle.life_writer.specs.Variables.{end_pending, variable_local}
use Rattle.life_writer.specs.Writing.{Gives, State, gives, mapped, with_code, ◌>>◌}
use Rattle.life_elab.specs.Declarations.{variable as home}
use Rattle.life_elab_laws.proofs.BoundVariables.{bound_does, kept_none, kept_place, temporary_below, temporary_goes, temporary_lives, with_temporary, value_below}
use Rattle.life_elab_laws.proofs.Declaring.{with_new}
use Rattle.life_elab_laws.proofs.Doing.{Does}
use Rattle.life_elab_laws.proofs.ExpressionForms.{IsWhole}
use Rattle.life_elab_laws.proofs.ExpressionTypes.{answer_own}
use Rattle.life_elab_laws.proofs.Following.{Follows}
use Rattle.life_elab_laws.proofs.Gifts.{a_number, all_handed, nothing as no_gift}
use Rattle.life_elab_laws.proofs.GivenApart.{AreApart}
use Rattle.life_elab_laws.proofs.Growing.{Begins}
use Rattle.life_elab_laws.proofs.PointerForms.{result_later}
use Rattle.life_elab_laws.proofs.Saving.{saved_falls, saved_fine}
use Rattle.life_elab_laws.proofs.Setting.{Setting}
use Rattle.life_elab_laws.proofs.Shaping.{fine_acts, fine_append}
use Rattle.life_elab_laws.proofs.Types.{same_types}
use Rattle.life_elab_laws.proofs.Values.{by_values}
use Rattle.life_types.specs.declared.ty.Ty.TheVariants as ty
use Rattle.life_writer.specs.Around as around
use Rattle.life_writer.specs.Giving as giving
use Rattle.life_elab_laws.proofs.HandingCalls.{born_falls, born_fine, born_looks, born_named}
use Rattle.life_elab_laws.proofs.Handing.{handing_none}
use Rattle.life_types.specs.Pointees.{ty_of}

module _ (a : Around) (types : Types) (texts : ℕ) (fs : List Function) (f : Function) (setting : Setting a types fs f) (v : Visible) (in_loop : Bool) (last : Place)
    (u : TypedLocal) (s : State) (h : Follows types f a v s) (at : slice_get a.function.locals v.declared ≡ Some u) (built : is_admitted_variable a.program.types u.ty ≡ true)
    (target : TyId) (constant : Bool) (is : slice_get a.program.types.types u.ty.0 ≡ Some (ty.Reference target constant)) (worth : is_value (type_at a.program.types target) ≡ true)
    (e : Typed) (whole_is : IsWhole a v.visible types texts fs f setting (whole_form e)) (n : is_number e.ty ≡ true) (behind : Place) where
  abbrev Born : State → Type 0
  Born s' = Does types texts fs f a (with_next v) in_loop s (end_pending (length s.pending) last s')

  -- what is built, and the reference to it
  abbrev bound_to : Ty → Gives Remaining → State
  bound_to t w = (w >> λ rest s. rest (scoped e.place t) s >> λ x s. gives (aimed_at e.place (object_named x)) s >> λ rest s. rest (home a u) s).state

  abbrev t : Ty
  t = type_at a.program.types target

  -- with the call that it is
  abbrev Kept : Option Called → State
  Kept o = bound_to t (value_by (calling a o) e.place (value (uses a (whole_form e)) behind t None) s)

  kept_value_does : Born (Kept None)
  kept_value_does =
      let w = value (uses a (whole_form e)) behind t None s in
      let made = whole_is.valued n behind t worth None s tt h.stands in
      let x = length w.state.locals in
      let kept = with_temporary a types texts fs f e.place t (inl worth) w.state (value_below w.state.types t worth) in
      let lives = Acts e.place (Live x Plain) ∷ [] in
      let saves = Acts e.place (Save (object_named x) w.given) ∷ [] in
      let aims = Acts e.place (Aim (whole (length kept.locals)) (Aimed (object_named x))) ∷ [] in
      subst (λ (c : List Tree). Born (with_code c (with_new (variable_local a u) kept)))
      (sym (append_assoc (w.state.code ++ lives) saves aims ∙ append_assoc w.state.code lives (saves ++ aims)))
      (bound_does a types texts fs f setting v in_loop last u s h at built target constant is worth e.place w (a_number types texts fs f t) [] (handing_none types texts fs f (no_gift types texts fs f) tt s w (a_number types texts fs f t) made) (lives ++ saves)
      (λ b q.
      fine_append types texts fs f lives saves (fine_acts types texts fs f e.place (Live x Plain) (temporary_lives a types texts fs f e.place t (inl worth) w.state (value_below w.state.types t worth) b Plain))
      (fine_acts types texts fs f e.place (Save (object_named x) w.given) (saved_fine types texts fs f t w.given (object_named x) q (kept_place a types texts fs f e.place t (inl worth) w.state (value_below w.state.types t worth) b))))
      (λ b r k size q none blank. saved_falls types f e.place x w.given k (omega (arith, size, temporary_below a types texts fs f e.place t (inl worth) w.state (value_below w.state.types t worth) b)) blank q.0 q.1)
      [] (λ z m. absurd m) (λ b q k alive r blank. kept_none a types texts fs f e.place t (inl worth) w.state (value_below w.state.types t worth)))

  kept_call_does : (c : Called) → form_call e.form ≡ Some c → compared.eq (own_type e.ty) t ≡ true → not (is_place e.category) ≡ true → Born (Kept (Some c))
  kept_call_does c found same plain =
      let k = whole_is.calls c found in
      let w = giving.arguments a (all_uses a c.arguments) c.delimiters (around.parameter_types a c.function) s in
      let x = length w.state.locals in
      let kept = with_temporary a types texts fs f e.place t (inl worth) w.state (value_below w.state.types t worth) in
      let ids = parameter_types (Some k.of) in
      let calls = Acts e.place (called c.function w.given (whole x)) ∷ [] in
      let aims = Acts e.place (Aim (whole (length kept.locals)) (Aimed (object_named x))) ∷ [] in
      let hands = k.hands s h.stands in
      let callee = setting.callees c.function k.of k.there in
      let goes : Begins types f kept → goes_to types texts fs f (ty_of types k.of.result) (Some (whole x)) ≡ true = λ b.
      ap (λ (r : Ty). goes_to types texts fs f r (Some (whole x)))
      (result_later a v.visible types texts fs f setting c.function k.of k.there ∙ answer_own a.program.types (type_at a.program.types k.of.result) e.ty e.category k.answers plain ∙ same_types (own_type e.ty) t same)
      ∙ temporary_goes a types texts fs f e.place t (inl worth) w.state (value_below w.state.types t worth) b worth in
      subst (λ (c : List Tree). Born (with_code c (with_new (variable_local a u) kept)))
      (sym (append_assoc w.state.code calls aims))
      (bound_does a types texts fs f setting v in_loop last u s h at built target constant is worth e.place w (all_handed types texts fs f ids) (flat_map given_argument w.given) hands calls
      (λ b q. born_fine types texts fs f c.function k.of callee s w hands x e.place q (goes b))
      (λ b r m size q none blank. born_falls types texts fs f c.function k.of callee s w hands x e.place r m q none blank (λ g. let lt = hands.below x g in omega (arith, lt)))
      [] (born_named types texts fs f c.function k.of callee s w hands x e.place)
      (λ b q m alive r blank under.
      subst (λ (xs : List ℕ). AreApart f w.state kept xs []) (sym (born_looks types texts fs f c.function k.of callee s w hands x e.place m r))
      (kept_none a types texts fs f e.place t (inl worth) w.state (value_below w.state.types t worth) under)))

  kept_does : Born (Kept (call_for e t))
  kept_does = go (compared.eq (own_type e.ty) t) refl (not (is_place e.category)) refl
    where
      found : (o : Option Called) → form_call e.form ≡ o → compared.eq (own_type e.ty) t ≡ true → not (is_place e.category) ≡ true → Born (Kept o)
      found None at same plain = kept_value_does
      found (Some c) at same plain = kept_call_does c at same plain

      go : (b : Bool) → compared.eq (own_type e.ty) t ≡ b → (c : Bool) → not (is_place e.category) ≡ c → Born (Kept (cond (b && c) (form_call e.form) None))
      go true same true plain = found (form_call e.form) refl same plain
      go true same false plain = kept_value_does
      go false same c plain = kept_value_does

  pub temporary_does : is_place_of e.category target ≡ false → Born (initial a scoped (uses a (whole_form e)) (ty.Reference target constant) behind s >> λ rest s. rest (home a u) s).state
  temporary_does none =
      subst (λ (c : Bool). Born ((cond c (mapped (aimed_at e.place) ((uses a (whole_form e)).at s)) (giving.given (uses a (whole_form e)) (type_of a target) behind s >> λ rest s. rest (scoped e.place (type_of a target)) s >> λ x s. gives (aimed_at e.place (object_named x)) s) >> λ rest s. rest (home a u) s).state)) (sym none)
      (subst Born
      (sym (by_values (λ x. bound_to x (giving.given (uses a (whole_form e)) x behind s) ≡ bound_to x (value_by (call_to (uses a (whole_form e)) x) e.place (value (uses a (whole_form e)) behind x None) s)) refl refl refl refl refl t worth))
      (subst (λ (o : Option (State → Gives (Location → Step))). Born (bound_to t (value_by o e.place (value (uses a (whole_form e)) behind t None) s))) (sym (call_for_seen a e t)) kept_does))
