-- A number is saved at a place, or in an object that has just come to life.
use Rattle.std.proofs.Common.{◌≡◌, ◌<◌, ℕ, true, false, not, List, [], ◌∷◌, None, length, slice_set, refl, ap, ◌∙◌, arith}
use Rattle.std.proofs.lemmas.Bool.{and_from}
use Rattle.life_types.specs.Types.{Types}
use Rattle.life_types.specs.declared.place.Place.{Place}
use Rattle.life_types.specs.declared.ty.Ty.{Ty}
use Rattle.life_core.specs.Function.{Function}
use Rattle.life_core.specs.Operands.{Operand, object_named}
use Rattle.life_core.specs.Step.{Live, Save}
use Rattle.life_core.specs.Touched.{place_uses}
use Rattle.life_core.specs.Tree.{Acts}
use Rattle.life_core.specs.declared.instr.Form.{Form}
use Rattle.life_core.specs.declared.instr.Form.TheVariants.{Plain}
use Rattle.life_proper.specs.Knowing.{known_at}
use Rattle.life_proper.specs.Placed.{is_const_place, is_number_of, type_of}
use Rattle.life_proper.specs.ReadyKnown.{are_known, is_known}
use Rattle.life_proper.specs.declared.known.Known.{Known}
use Rattle.life_proper.specs.declared.known.Known.TheVariants as known
use Rattle.life_proper.proofs.ReadyTests.{one_known, uses_ready}
use Rattle.life_writer.specs.Writing.{State, emit, gives}
use Rattle.life_elab_laws.proofs.Falling.{Falls, Fills, falls_acts, falls_append, falls_filling}
use Rattle.life_elab_laws.proofs.Gifts.{Gift, IsPlaceOf, nothing}
use Rattle.life_elab_laws.proofs.Held.{blank_there, place_there, ready_there, two_there}
use Rattle.life_elab_laws.proofs.Instructions.{acted_part}
use Rattle.life_elab_laws.proofs.Knowledge.{at_set, beside_set}
use Rattle.life_elab_laws.proofs.Making.{IsHeld, IsPlace, keeps_all}
use Rattle.life_elab_laws.proofs.Parts.{Part}
use Rattle.life_elab_laws.proofs.Shaping.{IsFineStep}

module _ (types : Types) (texts : ℕ) (fs : List Function) (f : Function) where
  pub saved_fine : (t : Ty) (r : ℕ) (o : Operand) → is_number_of types f t r ≡ true → IsPlaceOf types texts fs f t false o → IsFineStep types texts fs f (Save o r)
  saved_fine t r o number at = record {
    given = refl;
    formed = and_from (is_number_of types f (type_of types f o) r) (not (is_const_place types f o)) (ap (λ (u : Ty). is_number_of types f u r) at.typed ∙ number) at.held;
  }

  pub saved_part : {A : Type 0} (P : Gift types texts fs f A) (x : A) (t : Ty) (r : ℕ) (o : Operand) (place : Place) (s : State)
      → (P.typed x → is_number_of types f t r ≡ true) → (P.typed x → IsPlaceOf types texts fs f t false o) → ((n : ℕ) (k : List Known) → P.ready x n k → IsHeld r n k × IsPlace o n k)
      → Part types texts fs f P x None s (gives tt (emit place (Save o r) s)) (nothing types texts fs f)
  saved_part P x t r o place s number at ready =
      acted_part types texts fs f P x place (Save o r) s
      (λ h. saved_fine t r o (number h) (at h))
      (λ n k p. let is = ready n k p in
      uses_ready k (r ∷ place_uses o) [] (and_from (is_known known.Ready k r) (are_known known.Ready k (place_uses o)) (ready_there k r is.0.1) (place_there o n k is.1)))
      (λ n m k p. keeps_all f m None k)

module _ (types : Types) (f : Function) where
  pub live_fills : (x : ℕ) (form : Form) (k : List Known) → known_at k x ≡ known.Blank → Fills f k (Live x form) x
  live_fills x form k e = record { ready = one_known known.Blank k x (blank_there k x e); after = refl }

  pub saved_falls : (place : Place) (x r : ℕ) (k : List Known) → x < length k → known_at k x ≡ known.Blank → r < x → known_at k r ≡ known.Ready
      → Falls types f (Acts place (Live x Plain) ∷ Acts place (Save (object_named x) r) ∷ []) k (slice_set k x known.Ready)
  saved_falls place x r k lt blank lower number =
      let j : List Known = slice_set k x known.Ready in
      falls_append types f (Acts place (Live x Plain) ∷ []) (Acts place (Save (object_named x) r) ∷ []) k j j
      (falls_filling types f place (Live x Plain) x k (live_fills x Plain k blank))
      (falls_acts types f place (Save (object_named x) r) j
      (uses_ready j (r ∷ x ∷ []) [] (two_there j r x (beside_set k x r known.Ready (λ e. omega (arith, e, lower)) ∙ number) (at_set k x known.Ready lt))))
