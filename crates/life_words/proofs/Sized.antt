-- An object that has just been born, and its slots.
use Rattle.std.proofs.Common.{◌≡◌, ◌≤◌, ℕ, Some, sym, ap, ◌∙◌, arith}
use Rattle.life_types.specs.declared.ty.TyId.{TyId}
use Rattle.life_store.specs.Cells.{at, at-set_same}
use Rattle.life_store.specs.Content.{Content, newborn, with_birth, with_resize}
use Rattle.life_store.specs.Held.{resized_at, resized_if}
use Rattle.life_store.specs.References.{Rows, object_of, CanResize}
use Rattle.life_store.specs.declared.object.ObjRef.{ObjRef}
use Rattle.life_seen.specs.Housed.{Shows}
use Rattle.life_seen.specs.Kinds.{Kinds}
use Rattle.life_seen.proofs.Calls.{shows_resize}
use Rattle.life_seen.proofs.References.{of_found}

module _ (c d : Content) (new : Rows) (r : ObjRef) (ty : TyId) (width capacity : ℕ) (number : r.birth ≡ c.births) (born : d ≡ with_birth ty width capacity c) (placed : at new r.birth ≡ Some r.row) where
  pub born_there : object_of d new r ≡ Some (newborn ty width capacity c.clock)
  born_there = of_found d new r (newborn ty width capacity c.clock)
      (record { there = ap (λ (x : Content). at x.objects r.birth) born ∙ at-set_same c.objects c.births r.birth (newborn ty width capacity c.clock) (sym number); placed = placed })

  pub can_resize : (size : ℕ) → size ≤ capacity → CanResize size 0 (newborn ty width capacity c.clock)
  can_resize size le = record { fits = le; to = omega arith; from = omega arith }

  pub shows_sized : (size : ℕ) (kinds : Kinds) (m : Content) → m.births ≡ c.births → m.clock ≡ c.clock → Shows kinds d new (with_birth ty width capacity m) → (e : Content) (after : Rows) → e ≡ with_resize r.birth size 0 (newborn ty width capacity c.clock) d → after ≡ new
      → Shows kinds e after (resized_at c.births size 0 (with_birth ty width capacity m))
  shows_sized size kinds m births clock shows e after last same =
      let resized = shows_resize kinds d new shows.housed e after r size 0 (newborn ty width capacity c.clock) born_there last same in
      let there : at (with_birth ty width capacity m).objects c.births ≡ Some (newborn ty width capacity c.clock) =
      at-set_same m.objects m.births c.births (newborn ty width capacity m.clock) births ∙ ap (λ k. Some (newborn ty width capacity k)) clock in
      record {
        housed = resized.housed;
        is = resized.is
            ∙ (λ i. with_resize (number i) size 0 (newborn ty width capacity c.clock) (shows.is i))
            ∙ sym (ap (λ x. resized_if x c.births size 0 (with_birth ty width capacity m)) there);
      }
