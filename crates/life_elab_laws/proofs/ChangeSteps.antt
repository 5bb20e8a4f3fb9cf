-- Instructions that change an owner at a place, and take what is in registers.
use Rattle.std.proofs.Common.{◌≡◌, ℕ, Bool, true, false, cond, not, List, [], ◌∷◌, ◌++◌, None, slice_get, refl, ap, ◌∙◌}
use Rattle.std.proofs.lemmas.Bool.{and_from, and_parts}
use Rattle.std.specs.List.{list_all}
use Rattle.life_types.specs.Types.{Types}
use Rattle.life_types.specs.declared.place.Place.{Place}
use Rattle.life_types.specs.declared.ty.Ty.{Ty}
use Rattle.life_core.specs.Function.{Function}
use Rattle.life_core.specs.Kinds.{is_object_at, is_register_at}
use Rattle.life_core.specs.Operands.{Operand}
use Rattle.life_core.specs.Step.{Change, Changes, PushBack}
use Rattle.life_core.specs.Touched.{Touched, change_leaves, change_uses, change_writes, nothing as no_locals, place_uses, touched_by}
use Rattle.life_proper.specs.GivenOver.{given_change}
use Rattle.life_proper.specs.Placed.{is_const_place, is_number_of, register_at, type_of}
use Rattle.life_proper.specs.ReadyKnown.{are_ready, known_after}
use Rattle.life_proper.specs.WellFormed.{is_change_of}
use Rattle.life_proper.specs.declared.known.Known.{Known}
use Rattle.life_proper.specs.declared.known.Known.TheVariants as known
use Rattle.life_proper.proofs.ReadyTests.{both_known, uses_ready}
use Rattle.life_writer.specs.Writing.{State, emit, gives}
use Rattle.life_elab_laws.proofs.Calls.{no_object}
use Rattle.life_elab_laws.proofs.Filling.{all_there}
use Rattle.life_elab_laws.proofs.Gifts.{Gift, IsPlaceOf, nothing}
use Rattle.life_elab_laws.proofs.Held.{place_there}
use Rattle.life_elab_laws.proofs.Instructions.{acted_typed_part}
use Rattle.life_elab_laws.proofs.Making.{AreHeld, IsPlace}
use Rattle.life_elab_laws.proofs.Parts.{Part}
use Rattle.life_elab_laws.proofs.Shaping.{is_no_object}

-- what a change takes: locals that stay, and none of them an object that is given over
pub record Takes (types : Types) (f : Function) (c : Change) (taken : List ℕ) : Type 0 where
  pub uses : change_uses f c ≡ taken
  pub leaves : change_leaves f c ≡ []
  pub writes : change_writes c ≡ []
  pub given : list_all (is_no_object types f) (given_change c) ≡ true

-- a register is no object
pub register_no_object : (f : Function) (r : ℕ) → is_register_at f r ≡ true → is_object_at f r ≡ false
register_no_object f r e = no_object (slice_get f.locals r) e

-- a number that is pushed stays
pub push_takes : (types : Types) (f : Function) (t : Ty) (r : ℕ) → is_number_of types f t r ≡ true → Takes types f (PushBack r) (r ∷ [])
push_takes types f t r number = record {
  uses = ap (λ (b : Bool). cond b [] (r ∷ [])) plain;
  leaves = ap (λ (b : Bool). cond b (r ∷ []) []) plain;
  writes = refl;
  given = and_from (not (is_object_at f r)) true (ap not plain) refl;
}
  where
    plain : is_object_at f r ≡ false
    plain = register_no_object f r (and_parts (register_at types f r) _ number).0

module _ (types : Types) (texts : ℕ) (fs : List Function) (f : Function) where
  pub changes_part : {A : Type 0} (P : Gift types texts fs f A) (x : A) (t : Ty) (o : Operand) (c : Change) (taken : List ℕ) (place : Place) (s : State)
      → (P.typed x → IsPlaceOf types texts fs f t false o × (is_change_of types texts fs f t c ≡ true) × Takes types f c taken)
      → ((n : ℕ) (k : List Known) → P.ready x n k → IsPlace o n k × AreHeld taken n k)
      → Part types texts fs f P x None s (gives tt (emit place (Changes o c) s)) (nothing types texts fs f)
  changes_part P x t o c taken place s typed ready =
      acted_typed_part types texts fs f P x place (Changes o c) s
      (λ p. let is = typed p in (
        record {
          given = and_from (list_all (is_no_object types f) (given_change c)) true is.2.given refl;
          formed = and_from (is_change_of types texts fs f (type_of types f o) c) (not (is_const_place types f o)) (ap (λ (u : Ty). is_change_of types texts fs f u c) is.0.typed ∙ is.1) is.0.held;
        },
        λ n k q. let there = ready n k q in (
          ap (are_ready k) (touches is.2)
              ∙ uses_ready k (place_uses o ++ taken) [] (both_known known.Ready k (place_uses o) taken (place_there o n k there.0) (all_there taken n k there.1)),
          ap (λ (u : Touched). known_after u k) (touches is.2),
        ),
      ))
    where
      touches : Takes types f c taken → touched_by f (Changes o c) ≡ record no_locals { uses = place_uses o ++ taken }
      touches is =
          ap (λ (xs : List ℕ). record no_locals { uses = place_uses o ++ xs; leaves = change_leaves f c; writes = change_writes c }) is.uses
          ∙ ap (λ (xs : List ℕ). record no_locals { uses = place_uses o ++ taken; leaves = xs; writes = change_writes c }) is.leaves
          ∙ ap (λ (xs : List ℕ). record no_locals { uses = place_uses o ++ taken; leaves = []; writes = xs }) is.writes
