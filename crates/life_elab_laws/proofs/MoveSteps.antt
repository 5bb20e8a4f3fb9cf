-- An owner is moved from an object to a place.
use Rattle.std.proofs.Common.{◌≡◌, ℕ, Bool, true, false, not, if◌then◌else◌, List, [], ◌∷◌, None, refl, sym, ap, ◌∙◌, subst}
use Rattle.std.proofs.lemmas.Bool.{and_from, false≢true}
use Rattle.life_elab_laws.proofs.ObjectTypes.{is_owner_of_values}
use Rattle.life_types.specs.Types.{Types}
use Rattle.life_types.specs.declared.place.Place.{Place}
use Rattle.life_types.specs.declared.ty.Ty.{Ty}
use Rattle.life_types.specs.declared.ty.Ty.TheVariants as ty
use Rattle.life_core.specs.Function.{Function}
use Rattle.life_core.specs.Operands.{Operand, object_named}
use Rattle.life_core.specs.Step.{Move}
use Rattle.life_core.specs.Touched.{place_uses}
use Rattle.life_proper.specs.OperandTypes.{is_composed, is_owner, same}
use Rattle.life_proper.specs.Placed.{is_const_place, object_at, result_at, type_of}
use Rattle.life_proper.specs.Placed as placed
use Rattle.life_proper.specs.WellFormed.{is_itself}
use Rattle.life_proper.specs.declared.known.Known.{Known}
use Rattle.life_proper.specs.declared.known.Known.TheVariants as known
use Rattle.life_proper.proofs.ReadyTests.{both_known, uses_ready}
use Rattle.life_writer.specs.Writing.{State, emit, gives}
use Rattle.life_elab_laws.proofs.Gifts.{Gift, IsPlaceOf, nothing, place_stays}
use Rattle.life_elab_laws.proofs.Held.{place_there}
use Rattle.life_elab_laws.proofs.Instructions.{acted_part}
use Rattle.life_elab_laws.proofs.Making.{IsPlace, keeps_all}
use Rattle.life_elab_laws.proofs.Types.{same_type}
use Rattle.life_elab_laws.proofs.Parts.{Part}
use Rattle.life_elab_laws.proofs.Shaping.{IsFineStep}
use Rattle.life_elab_laws.proofs.Values.{by_owners}

-- what may be moved
pub owner_moves : (table : Types) (t : Ty) → is_owner_of_values table t ≡ true → is_owner t ≡ true
owner_moves table = by_owners table _ refl (λ item. refl)

owner_composed : (t : Ty) → is_owner t ≡ true → is_composed t ≡ true
owner_composed ty.Text o = refl
owner_composed (ty.Vector item) o = refl
owner_composed (ty.Unique target) o = refl
owner_composed _ o = absurd (false≢true o)

-- it is what it is, as a struct is
pub moved_same : (t : Ty) → is_composed t ≡ true → same t t ≡ true
moved_same ty.Text o = same_type ty.Text
moved_same (ty.Vector item) o = same_type (ty.Vector item)
moved_same (ty.Unique target) o = same_type (ty.Unique target)
moved_same (ty.Struct number) o = same_type (ty.Struct number)
moved_same _ o = absurd (false≢true o)

module _ (types : Types) (texts : ℕ) (fs : List Function) (f : Function) where
  -- an owner that is named is an object
  pub record IsOwnerThere (t : Ty) (y : ℕ) : Type 0 where
    pub object : object_at types f y ≡ true
    pub typed : placed.type_at types f y ≡ t

  pub moved_there : (t : Ty) (y : ℕ) → is_composed t ≡ true → IsPlaceOf types texts fs f t false (object_named y) → IsOwnerThere t y
  moved_there t y o is = go (object_at types f y) refl is.typed
    where
      go : (b : Bool) → object_at types f y ≡ b → (if b then placed.type_at types f y else ty.Void) ≡ t → IsOwnerThere t y
      go true at typed = record { object = at; typed = typed }
      go false at typed = absurd (false≢true (subst (λ (u : Ty). is_composed u ≡ true) (sym typed) o))

  pub owner_there : (table : Types) (t : Ty) (y : ℕ) → is_owner_of_values table t ≡ true → IsPlaceOf types texts fs f t false (object_named y) → IsOwnerThere t y
  owner_there table t y o is = moved_there t y (owner_composed t (owner_moves table t o)) is

  -- one that may be moved: it isn't the result
  abbrev pub a_source : Ty → Gift types texts fs f ℕ
  a_source t = record {
    typed = λ y. IsPlaceOf types texts fs f t false (object_named y) × (not (result_at types f y) ≡ true);
    ready = λ y n k. IsPlace (object_named y) n k;
    stays = λ y n m k j h p keeps. place_stays types texts fs f (object_named y) n m k j h p keeps;
  }

  move_fine : (t : Ty) (to : Operand) (y : ℕ) → is_owner t ≡ true → IsPlaceOf types texts fs f t false to → IsPlaceOf types texts fs f t false (object_named y) × (not (result_at types f y) ≡ true) → is_itself types texts fs f y to ≡ false
      → IsFineStep types texts fs f (Move to y)
  move_fine t to y o place from apart =
      let is = moved_there t y (owner_composed t o) from.0 in
      record {
        given = refl;
        formed =
            and_from (is_owner (type_of types f to)) _ (ap is_owner place.typed ∙ o)
            (and_from (object_at types f y) _ is.object
            (and_from (same (type_of types f to) (placed.type_at types f y)) _ (ap (λ (u : Ty). same u (placed.type_at types f y)) place.typed ∙ ap (same t) is.typed ∙ moved_same t (owner_composed t o))
            (and_from (not (result_at types f y)) _ from.1
            (and_from (not (is_itself types texts fs f y to)) (not (is_const_place types f to)) (ap not apart) place.held))));
      }

  pub moves_part : {A : Type 0} (P : Gift types texts fs f A) (x : A) (t : Ty) (to : Operand) (y : ℕ) (place : Place) (s : State) → is_owner t ≡ true
      → (P.typed x → IsPlaceOf types texts fs f t false to × (a_source t).typed y) → ((n : ℕ) (k : List Known) → P.ready x n k → IsPlace to n k × IsPlace (object_named y) n k) → is_itself types texts fs f y to ≡ false
      → Part types texts fs f P x None s (gives tt (emit place (Move to y) s)) (nothing types texts fs f)
  moves_part P x t to y place s o typed ready apart =
      acted_part types texts fs f P x place (Move to y) s
      (λ h. let both = typed h in move_fine t to y o both.0 both.1 apart)
      (λ n k q. let both = ready n k q in uses_ready k (y ∷ place_uses to) [] (both_known known.Ready k (y ∷ []) (place_uses to) (place_there (object_named y) n k both.1) (place_there to n k both.0)))
      (λ n m k q. keeps_all f m None k)
