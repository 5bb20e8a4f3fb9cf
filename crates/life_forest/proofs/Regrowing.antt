-- What a fresh buffer of a vector leaves: reserve, and the first half of a push_back.
use Rattle.std.proofs.Common.{◌≡◌, ℕ, Bool, true, false, cond, List, Some, sym, ap, subst, ◌∙◌}
use Rattle.std.specs.Prelude.{nat_lt}
use Rattle.life_types.specs.declared.ty.TyId.{TyId}
use Rattle.life_store.specs.Cells.{at}
use Rattle.life_store.specs.Content.{Slot, Object, Content, with_birth, without}
use Rattle.life_store.specs.Edits.{capacity_of, filled_by, owns as takes, regrown, reserved, size_of}
use Rattle.life_store.specs.Effects.{Setting, Attempt, Got, then_get}
use Rattle.life_store.specs.Held.{resized_at, slots_if}
use Rattle.life_store.specs.Owners.{birth, taken_slots}
use Rattle.life_store.specs.Parts.{Parts, Vector, width}
use Rattle.life_store.specs.Places.{Spot}
use Rattle.life_forest.specs.Kinds.{Kinds}
use Rattle.life_forest.specs.Forest.{IsForest, Foot, Touches}
use Rattle.life_forest.proofs.Coming.{IfGot, got_then, if_room}
use Rattle.life_forest.proofs.Copying.{Sized, sized_is}
use Rattle.life_forest.proofs.Growing.{OwnsBuffer, grown_content, grown_fit, grown_forest, grown_touches, run_holder, run_is, run_rows}
use Rattle.life_forest.proofs.Lying.{Covers}
use Rattle.life_forest.proofs.Steps.{touches_self}
use Rattle.life_forest.specs.Typed.{AreFit}
use Rattle.life_forest.specs.Values.{IsNamed}
use Rattle.life_forest.proofs.Fitting.{OwnsAlike}
use Rattle.life_forest.proofs.FittingBirths.{fit_sized}

pub if_cond : {A : Type 0} (b : Bool) (x y : Attempt A) (P : A → Type 0) → IfGot x P → IfGot y P → IfGot (cond b x y) P
if_cond true x y P h k = h
if_cond false x y P h k = k

module _ (kind : Kinds) (ty : TyId) (element : Parts) (spot : Spot) (b : ℕ) (hand : ℕ → ℕ) (c : Content) (o ob : Object) (forest : IsForest kind hand c) (own : OwnsBuffer kind ty element spot b c o ob) where
  module _ (capacity size : ℕ) where
    -- the fresh buffer, with its slots
    abbrev pub fresh_one : ℕ × Content
    fresh_one = (c.births, resized_at c.births size 0 (with_birth ty (width element) capacity c))

    pub fresh_sized : Sized kind (kind.rank o.ty) hand ty (width element) size c (c.births, resized_at c.births size 0 (with_birth ty (width element) capacity c))
    fresh_sized = sized_is kind (kind.rank o.ty) hand ty (width element) capacity size c own.lower forest

    -- what the run has then, but for the owner's word
    abbrev pub left : ℕ × Content
    left = (c.births, without b (filled_by c.births (taken_slots element ob.slots (resized_at c.births size 0 (with_birth ty (width element) capacity c)))))

    abbrev pub grown_one : Content
    grown_one = grown_content kind ty element spot b hand c o ob forest own size fresh_one fresh_sized

    pub taken_over : takes spot c.births left.1 ≡ grown_one
    taken_over =
        ap (takes spot c.births) (run_rows kind ty element spot b hand c o ob forest own size fresh_one fresh_sized)
        ∙ run_is kind ty element spot b hand c o ob forest own size fresh_one fresh_sized

    pub left_holder : at left.1.objects spot.object ≡ Some o
    left_holder =
        ap (λ (d : Content). at d.objects spot.object) (run_rows kind ty element spot b hand c o ob forest own size fresh_one fresh_sized)
        ∙ run_holder kind ty element spot b hand c o ob forest own size fresh_one fresh_sized

    pub left_forest : IsForest kind hand (takes spot c.births left.1)
    left_forest = subst (IsForest kind hand) (sym taken_over) (grown_forest kind ty element spot b hand c o ob forest own size fresh_one fresh_sized)

    pub left_fit : AreFit kind c → IsNamed kind ty element → OwnsAlike kind o spot (Vector ty element) → AreFit kind (takes spot c.births left.1)
    left_fit fit named alike =
        subst (AreFit kind) (sym taken_over)
        (grown_fit kind ty element spot b hand c o ob forest own size fresh_one fresh_sized fit (fit_sized kind hand c ty (width element) capacity size forest named.0 fit) named alike)

    pub left_touches : (t : Foot) → Covers kind t spot (Vector ty element) → Touches kind t c (takes spot c.births left.1)
    left_touches t covers = subst (Touches kind t c) (sym taken_over) (grown_touches kind ty element spot b hand c o ob forest own size fresh_one fresh_sized t covers)

    abbrev regrown_from : Setting → List Slot → Attempt (ℕ × Content)
    regrown_from s ss = then_get (birth s ty (width element) capacity c) (λ g. Got (g.0, without b (filled_by g.0 (taken_slots element ss (resized_at g.0 size 0 g.1)))))

    pub regrown_got : (s : Setting) (P : ℕ × Content → Type 0) → P left → IfGot (regrown s ty element b capacity size c) P
    regrown_got s P h =
        subst (λ ss. IfGot (regrown_from s ss) P) (sym (ap slots_if own.there))
        (got_then (birth s ty (width element) capacity c) (λ g. Got (g.0, without b (filled_by g.0 (taken_slots element ob.slots (resized_at g.0 size 0 g.1)))))
        (λ g. P (g.0, without b (filled_by g.0 (taken_slots element ob.slots (resized_at g.0 size 0 g.1))))) P
        (if_room _ _ (c.births, with_birth ty (width element) capacity c) (λ g. P (g.0, without b (filled_by g.0 (taken_slots element ob.slots (resized_at g.0 size 0 g.1))))) h)
        (λ g k. k))

  -- ---- reserve

  pub reserved_forest : (s : Setting) (n : ℕ) → IfGot (reserved s ty element spot b n c) (IsForest kind hand)
  reserved_forest s n =
      if_cond (nat_lt (capacity_of c b) n) (then_get (regrown s ty element b n (size_of c b) c) (λ f. Got (takes spot f.0 f.1))) (Got c) (IsForest kind hand)
      (got_then (regrown s ty element b n (size_of c b) c) (λ f. Got (takes spot f.0 f.1)) (λ f. IsForest kind hand (takes spot f.0 f.1)) (IsForest kind hand)
      (regrown_got n (size_of c b) s (λ f. IsForest kind hand (takes spot f.0 f.1)) (left_forest n (size_of c b)))
      (λ f h. h))
      forest

  pub reserved_touches : (s : Setting) (n : ℕ) (t : Foot) → Covers kind t spot (Vector ty element) → IfGot (reserved s ty element spot b n c) (Touches kind t c)
  reserved_touches s n t covers =
      if_cond (nat_lt (capacity_of c b) n) (then_get (regrown s ty element b n (size_of c b) c) (λ f. Got (takes spot f.0 f.1))) (Got c) (Touches kind t c)
      (got_then (regrown s ty element b n (size_of c b) c) (λ f. Got (takes spot f.0 f.1)) (λ f. Touches kind t c (takes spot f.0 f.1)) (Touches kind t c)
      (regrown_got n (size_of c b) s (λ f. Touches kind t c (takes spot f.0 f.1)) (left_touches n (size_of c b) t covers))
      (λ f h. h))
      (touches_self kind t c)

  pub reserved_fit : (s : Setting) (n : ℕ) → AreFit kind c → IsNamed kind ty element → OwnsAlike kind o spot (Vector ty element) → IfGot (reserved s ty element spot b n c) (AreFit kind)
  reserved_fit s n fit named alike =
      if_cond (nat_lt (capacity_of c b) n) (then_get (regrown s ty element b n (size_of c b) c) (λ f. Got (takes spot f.0 f.1))) (Got c) (AreFit kind)
      (got_then (regrown s ty element b n (size_of c b) c) (λ f. Got (takes spot f.0 f.1)) (λ f. AreFit kind (takes spot f.0 f.1)) (AreFit kind)
      (regrown_got n (size_of c b) s (λ f. AreFit kind (takes spot f.0 f.1)) (left_fit n (size_of c b) fit named alike))
      (λ f h. h))
      fit
