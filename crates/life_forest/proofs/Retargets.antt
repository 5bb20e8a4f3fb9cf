-- Pointers of one kind that are handed on as pointers of another point as well.
use Rattle.std.proofs.Common.{◌≡◌, ℕ, ◌+◌, Bool, true, false, cond, Option, Some, None, refl, sym, subst, arith}
use Rattle.life_types.specs.Types.{Types}
use Rattle.life_types.specs.declared.ty.TyId.{TyId}
use Rattle.life_store.specs.Content.{Content}
use Rattle.life_store.specs.Effects.{Got, GotFault}
use Rattle.life_store.specs.Iterators.{at_index, element_of, iterator, start_of}
use Rattle.life_store.specs.Parts.{Single, parts_if}
use Rattle.life_store.specs.Places.{is_valid}
use Rattle.life_store.specs.State.{Pointer, Null, Wild, To, Static, Cell, Empty, Named, Number, Points}
use Rattle.life_store.specs.Views.{is_valid_range, part_of, used}
use Rattle.life_store.specs.declared.run.FaultKind.TheVariants as fault
use Rattle.life_store.proofs.CellLemmas.{some_same}
use Rattle.life_forest.specs.FrameTypes.{IsOfText, PointsWell}
use Rattle.life_forest.specs.Within.{LiesWithin}
use Rattle.life_forest.proofs.Coming.{IfGot}
use Rattle.life_forest.proofs.Members.{within_self, within_then}

-- what begins where a value of the one type does is a value of the other
pub record Retargets (types : Types) (from to : Option TyId) : Type 0 where
  pub within : (t : TyId) → to ≡ Some t → (u : TyId) × (from ≡ Some u) × LiesWithin types u 0 t
  pub single : parts_if types from ≡ Single → parts_if types to ≡ Single

pub same_target : (types : Types) (id : Option TyId) → Retargets types id id
same_target types id = record { within = λ t e. (t, e, within_self types t); single = λ e. e }

-- from one type on
pub begins : (types : Types) (id : TyId) (to : Option TyId) → Retargets types (Some id) to → (t : TyId) → to ≡ Some t → LiesWithin types id 0 t
begins types id to targets t e = let u = targets.within t e in subst (λ x. LiesWithin types x 0 t) (sym (some_same u.1)) u.2

module _ (types : Types) (c : Content) where
  pub text_retargets : (from to : Option TyId) → Retargets types from to → (n : Option ℕ) → IsOfText types from n → IsOfText types to n
  text_retargets from to targets None of = tt
  text_retargets from to targets (Some n) of = targets.single of

  pub retargeted : (from to : Option TyId) → Retargets types from to → (p : Pointer) → PointsWell types c from p → PointsWell types c to p
  retargeted from to targets Null well = tt
  retargeted from to targets Wild well = tt
  retargeted from to targets (To t) well = record {
    given = well.given;
    place = λ o part there e.
        let u = targets.within part e in
        let same : t.word + 0 ≡ t.word = omega arith in
        subst (λ w. LiesWithin types o.ty w part) same (within_then types o.ty u.0 part t.word 0 (well.place o u.0 there u.1) u.2);
  }
  retargeted from to targets (Static s) well = text_retargets from to targets s.text well

  -- ---- at another position

  pub index_well : (id : Option TyId) (now i : ℕ) (p : Pointer) → PointsWell types c id p → PointsWell types c id (at_index now i p)
  index_well id now i Null well = tt
  index_well id now i Wild well = tt
  index_well id now i (To t) well = record { given = well.given; place = well.place }
  index_well id now i (Static s) well = well

  pub element_well : (id : Option TyId) (now i : ℕ) (p : Pointer) → PointsWell types c id p → PointsWell types c id (element_of now i p)
  element_well id now i p well = index_well id now (start_of p + i) p well

  pub part_well : (id : Option TyId) (now i n : ℕ) (p : Pointer) → PointsWell types c id p → PointsWell types c id (part_of now i n p)
  part_well id now i n Null well = tt
  part_well id now i n Wild well = tt
  part_well id now i n (To t) well = record { given = well.given; place = well.place }
  part_well id now i n (Static s) well = well

  -- ---- what is used is what stands there

  pub used_well : (id : Option TyId) (o : Option Cell) → ((p : Pointer) → o ≡ Some (Points p) → PointsWell types c id p) → IfGot (used c o) (PointsWell types c id)
  used_well id None well = tt
  used_well id (Some Empty) well = tt
  used_well id (Some (Named n)) well = tt
  used_well id (Some (Number z)) well = tt
  used_well id (Some (Points Null)) well = tt
  used_well id (Some (Points Wild)) well = tt
  used_well id (Some (Points (Static s))) well = well (Static s) refl
  used_well id (Some (Points (To t))) well = valid (is_valid_range c t)
    where
      valid : (b : Bool) → IfGot (cond b (Got (To t)) (GotFault fault.Dangling)) (PointsWell types c id)
      valid true = well (To t) refl
      valid false = tt

  pub iterator_well : (id : Option TyId) (o : Option Cell) → ((p : Pointer) → o ≡ Some (Points p) → PointsWell types c id p) → IfGot (iterator c o) (PointsWell types c id)
  iterator_well id None well = tt
  iterator_well id (Some Empty) well = tt
  iterator_well id (Some (Named n)) well = tt
  iterator_well id (Some (Number z)) well = tt
  iterator_well id (Some (Points Null)) well = tt
  iterator_well id (Some (Points Wild)) well = tt
  iterator_well id (Some (Points (Static s))) well = well (Static s) refl
  iterator_well id (Some (Points (To t))) well = valid (is_valid c t)
    where
      valid : (b : Bool) → IfGot (cond b (Got (To t)) (GotFault fault.Dangling)) (PointsWell types c id)
      valid true = well (To t) refl
      valid false = tt
