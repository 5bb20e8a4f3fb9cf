-- Arguments one after the other: a number in a register, a pointer, or an owner that is given over, before the others.
use Rattle.std.proofs.Common.{◌≡◌, ℕ, true, false, ◌&&◌, not, List, [], ◌∷◌, flat_map, None, refl, ap, ◌∙◌, subst, sym}
use Rattle.std.proofs.lemmas.Bool.{and_from}
use Rattle.life_types.specs.Pointees.{ty_of}
use Rattle.life_types.specs.Types.{Types, is_slot_at}
use Rattle.life_types.specs.declared.ty.Ty.{Ty}
use Rattle.life_types.specs.declared.ty.TyId.{TyId}
use Rattle.life_core.specs.Function.{Function}
use Rattle.life_core.specs.Operands.{Argument, GivenOver, Location, PointerOf, Value}
use Rattle.life_proper.specs.GivenOver.{given_argument}
use Rattle.life_proper.specs.OperandTypes.{is_composed, takes}
use Rattle.life_proper.specs.Placed.{is_given, is_number_of, type_in}
use Rattle.life_proper.specs.WellFormed.{are_arguments_for, is_argument_for}
use Rattle.life_writer.specs.Calls.{handed}
use Rattle.life_writer.specs.Writing.{Gives, State, ◌>>◌, gives, mapped}
use Rattle.life_elab_laws.proofs.Gifts.{a_given, a_number, a_pointer, all_handed, both, nothing as no_gift}
use Rattle.life_elab_laws.proofs.Handing.{HandingAlone, handing_none, handing_seen, handing_then}
use Rattle.life_elab_laws.proofs.Parts.{Makes, leaf_part}

module _ (types : Types) (texts : ℕ) (fs : List Function) (f : Function) where
  -- for parameters of these types
  abbrev pub Hands : List TyId → State → Gives (List Argument) → Type 0
  Hands ids s w = HandingAlone types texts fs f (flat_map given_argument w.given) s w (all_handed types texts fs f ids)

  pub none_handed : (s : State) → Hands [] s (gives [] s)
  none_handed s =
      let Q = all_handed types texts fs f [] in
      handing_none types texts fs f (no_gift types texts fs f) tt s (gives [] s) Q (leaf_part types texts fs f [] s Q (λ b. record { fit = refl; own = refl }) (λ b k alive. tt))

  module _ (id : TyId) (t : Ty) (ids : List TyId) (others : State → Gives (List Argument)) (s : State) (at : ty_of types id ≡ t) where
    -- a number
    pub number_handed : (first : State → Gives ℕ) → Makes types texts fs f None s (first s) (a_number types texts fs f t) → Hands ids (first s).state (others (first s).state) → Hands (id ∷ ids) s (handed first others s)
    number_handed first one more =
        let r = first s in
        let xs = others r.state in
        let over = flat_map given_argument xs.given in
        let P = a_number types texts fs f t in
        let Q = all_handed types texts fs f ids in
        handing_seen types texts fs f over s (gives (r.given, xs.given) xs.state) (both types texts fs f P Q) (λ x. Value x.0 ∷ x.1) (all_handed types texts fs f (id ∷ ids))
        (handing_then types texts fs f [] over s r xs P Q (handing_none types texts fs f (no_gift types texts fs f) tt s r P one) more)
        (λ h. record {
          fit = and_from (is_argument_for types texts fs f id (Value r.given)) (are_arguments_for types texts fs f ids xs.given) (ap (λ (u : Ty). is_number_of types f u r.given) at ∙ h.0) h.1.fit;
          own = h.1.own;
        })
        (λ n k h away. h)

    -- a pointer
    pub pointer_handed : (u : Ty) (first : State → Gives Location) → is_slot_at types id ≡ false → takes types t u ≡ true → Makes types texts fs f None s (first s) (a_pointer types texts fs f u) → Hands ids (first s).state (others (first s).state)
        → Hands (id ∷ ids) s (first s >> λ l s. mapped (λ xs. PointerOf l ∷ xs) (others s))
    pointer_handed u first plain taken one more =
        let l = first s in
        let xs = others l.state in
        let over = flat_map given_argument xs.given in
        let P = a_pointer types texts fs f u in
        let Q = all_handed types texts fs f ids in
        handing_seen types texts fs f over s (gives (l.given, xs.given) xs.state) (both types texts fs f P Q) (λ x. PointerOf x.0 ∷ x.1) (all_handed types texts fs f (id ∷ ids))
        (handing_then types texts fs f [] over s l xs P Q (handing_none types texts fs f (no_gift types texts fs f) tt s l P one) more)
        (λ h. record {
          fit =
              and_from (is_argument_for types texts fs f id (PointerOf l.given)) (are_arguments_for types texts fs f ids xs.given)
              (and_from (not (is_slot_at types id)) (takes types (ty_of types id) (type_in types f l.given)) (ap not plain) (ap (λ (w : Ty). takes types w (type_in types f l.given)) at ∙ ap (takes types t) h.0.typed ∙ taken)) h.1.fit;
          own = h.1.own;
        })
        (λ n k h away. h)

    -- an owner
    pub owner_handed : (first : State → Gives ℕ) → is_composed t ≡ true → HandingAlone types texts fs f ((first s).given ∷ []) s (first s) (a_given types texts fs f t) → Hands ids (first s).state (others (first s).state)
        → Hands (id ∷ ids) s (first s >> λ x s. mapped (λ xs. GivenOver x ∷ xs) (others s))
    owner_handed first composed one more =
        let x = first s in
        let xs = others x.state in
        let over = flat_map given_argument xs.given in
        let P = a_given types texts fs f t in
        let Q = all_handed types texts fs f ids in
        handing_seen types texts fs f (x.given ∷ over) s (gives (x.given, xs.given) xs.state) (both types texts fs f P Q) (λ y. GivenOver y.0 ∷ y.1) (all_handed types texts fs f (id ∷ ids))
        (handing_then types texts fs f (x.given ∷ []) over s x xs P Q one more)
        (λ h. record {
          fit =
              and_from (is_argument_for types texts fs f id (GivenOver x.given)) (are_arguments_for types texts fs f ids xs.given)
              (subst (λ (w : Ty). (is_composed w && is_given types f w x.given) ≡ true) (sym at) (and_from (is_composed t) (is_given types f t x.given) composed h.0)) h.1.fit;
          own = h.1.own;
        })
        (λ n k h away. h)
