-- An owner or a struct is given over to a vector: what is given over stands before the push, and is gone behind it.
use Rattle.std.proofs.Common.{◌≡◌, ℕ, Bool, false, not, List, [], ◌∷◌, ◌++◌, None, refl, ap, ◌∙◌, if◌then◌else◌}
use Rattle.std.proofs.lemmas.Bool.{and_from}
use Rattle.life_types.specs.Pointees.{ty_of}
use Rattle.life_types.specs.TypeTests.{is_value}
use Rattle.life_types.specs.Types.{Types}
use Rattle.life_types.specs.declared.place.Place.{Place}
use Rattle.life_types.specs.declared.ty.Ty.{Ty}
use Rattle.life_types.specs.declared.ty.Ty.TheVariants as ty
use Rattle.life_types.specs.declared.ty.TyId.{TyId}
use Rattle.life_core.specs.Function.{Function}
use Rattle.life_core.specs.Operands.{Operand}
use Rattle.life_core.specs.Step.{Changes, PushBack}
use Rattle.life_core.specs.Touched.{nothing as no_locals, place_uses}
use Rattle.life_proper.specs.Placed.{is_const_place, type_of}
use Rattle.life_proper.specs.WellFormed.{is_change_of}
use Rattle.life_proper.specs.declared.known.Known.{Known}
use Rattle.life_proper.specs.declared.known.Known.TheVariants as known
use Rattle.life_proper.proofs.ReadyTests.{both_known}
use Rattle.life_writer.specs.Writing.{Gives, State, emit, gives}
use Rattle.life_elab_laws.proofs.Gifts.{Gift, IsPlaceOf, a_given, nothing as no_gift}
use Rattle.life_elab_laws.proofs.Handing.{HandingAlone}
use Rattle.life_elab_laws.proofs.Held.{place_there}
use Rattle.life_elab_laws.proofs.Making.{IsPlace}
use Rattle.life_elab_laws.proofs.Parts.{Part}
use Rattle.life_elab_laws.proofs.TakenOwners.{object_consumed, takes_over}
use Rattle.life_elab_laws.proofs.WrittenMembers.{part_writing}

-- behind what gave the vector
pub pushed_part : (types : Types) (texts : ℕ) (fs : List Function) (f : Function) (t : Ty) → is_value t ≡ false → (s : State) (v : Gives ℕ) → HandingAlone types texts fs f (v.given ∷ []) s v (a_given types texts fs f t)
    → {A : Type 0} (P : Gift types texts fs f A) (z : A) (to : Operand) (item : TyId) (at : Place) → (P.typed z → IsPlaceOf types texts fs f (ty.Vector item) false to) → ((n : ℕ) (k : List Known) → P.ready z n k → IsPlace to n k) → ty_of types item ≡ t
    → Part types texts fs f P z None s (gives tt (emit at (Changes to (PushBack v.given)) v.state)) (no_gift types texts fs f)
pushed_part types texts fs f t plain s v over P z to item at typed ready holds =
    (part_writing types texts fs f (ty.Vector item) P z to typed ready).over (v.given ∷ []) s v (a_given types texts fs f t) at (Changes to (PushBack v.given)) over
    (takes_over types texts fs f t (ty.Vector item) to (place_uses to ++ []) v.given (Changes to (PushBack v.given)) at
    (record {
      keeps = refl;
      touches = λ object. ap (λ (b : Bool). record no_locals { uses = place_uses to ++ (if b then [] else v.given ∷ []); leaves = if b then v.given ∷ [] else [] }) object;
      looks = refl;
      gives = refl;
    })
    (λ p object given.
    and_from (is_change_of types texts fs f (type_of types f to) (PushBack v.given)) (not (is_const_place types f to))
    (ap (λ (u : Ty). is_change_of types texts fs f u (PushBack v.given)) p.typed ∙ object_consumed types f t (ty_of types item) v.given plain holds given)
    p.held)
    (λ n k q. both_known known.Ready k (place_uses to) [] (place_there to n k q) refl))
