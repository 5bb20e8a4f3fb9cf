-- What points to what an owner has aims well.
use Rattle.std.proofs.Common.{◌≡◌, ℕ, zero, suc, ◌<◌, Option, Some, sym, ap, subst, ◌∙◌, arith}
use Rattle.std.specs.Prelude.{slice_index}
use Rattle.life_types.specs.Trees.{IsOrdered}
use Rattle.life_types.specs.Types.{Types}
use Rattle.life_types.specs.declared.ty.TyId.{TyId}
use Rattle.life_store.specs.Cells.{at}
use Rattle.life_store.specs.Content.{Object, Content}
use Rattle.life_store.specs.Edits.{owned_at}
use Rattle.life_store.specs.Held.{owned_in}
use Rattle.life_store.specs.Parts.{Parts, parts_at, width}
use Rattle.life_store.specs.Places.{Spot, spot_words}
use Rattle.life_store.proofs.CellLemmas.{none_some, some_same}
use Rattle.life_forest.specs.FrameTypes.{Aims}
use Rattle.life_forest.specs.Kinds.{kinds_of, owned_type}
use Rattle.life_store.specs.Kinds.{Owner, kind_in}
use Rattle.life_forest.specs.Typed.{IsStore}
use Rattle.life_forest.specs.Within.{LiesWithin}
use Rattle.life_forest.proofs.Below.{lives}
use Rattle.life_forest.proofs.Operands.{IsPlace}
use Rattle.life_forest.proofs.Placed.{place_owns}
use Rattle.life_forest.proofs.Spots.{spot_flat}

-- an owner of what has the type
pub record OwnsType (p : Parts) (id : TyId) : Type 0 where
  pub one : width p ≡ 1
  pub owner : kind_in p 0 ≡ Owner
  pub owned : owned_type p 0 ≡ Some id

module _ (types : Types) (ordered : IsOrdered types) (hand : ℕ → ℕ) (c : Content) (store : IsStore types hand c) (part : TyId) (n i w : ℕ) (o : Object) (place : IsPlace types c part n i w o) (id : TyId) (owns : OwnsType (parts_at types part) id) (b : ℕ)
    (is : owned_at c (record { object = n; index = i; word = w }) ≡ Some b) where
  abbrev spot : Spot
  spot = record { object = n; index = i; word = w }

  pub owned_object : (x : Object) → at c.objects b ≡ Some x → x.ty ≡ id
  owned_object x there =
      some_same (sym (spot_flat types ordered hand c store n i w part o place.there place.within place.slot 0 b x owns.owner (ap (λ k. slice_index (spot_words c spot k) 0) owns.one ∙ has (slice_index (spot_words c spot 1) 0) is) there) ∙ owns.owned)
    where
      has : (y : ℕ) → owned_in y ≡ Some b → y ≡ suc b
      has zero e = absurd (none_some e)
      has (suc y) e = ap suc (some_same e)

  pub owned_born : b < c.births
  owned_born =
      let own = place_owns types ordered hand c store part n i w o place owns.one owns.owner b is in
      let h = store.forest.held b in
      let x = lives (kinds_of types) c b (omega arith) in
      store.forest.births b x.0 x.1

  -- a target that begins where what is owned does
  pub owned_aims : (target : Option TyId) → ((t : TyId) → target ≡ Some t → LiesWithin types id 0 t) → (index count moment : ℕ) → Aims types c target (record { object = b; index = index; word = 0; count = count; moment = moment })
  owned_aims target begins index count moment = record {
    given = owned_born;
    place = λ x t there e. subst (λ ty. LiesWithin types ty 0 t) (sym (owned_object x there)) (begins t e);
  }
