-- A pointer that is covered and isn't misused makes no fault; and what is made of one is covered by its facts.
use Rattle.std.proofs.Common.{◌≡◌, ℕ, Bool, true, false, Option, Some, None, sym, subst, ◌∙◌}
use Rattle.std.specs.Prelude.{cond, nat_lt, length}
use Rattle.life_types.specs.Types.{Types}
use Rattle.life_pset.specs.declared.element.AbsPlace.{AbsPlace}
use Rattle.life_pset.specs.declared.element.Cause.{Cause}
use Rattle.life_pset.specs.declared.element.Element.{Element}
use Rattle.life_pset.specs.declared.element.Element.TheVariants as element
use Rattle.life_pset.specs.declared.element.Fact.{Fact}
use Rattle.life_pset.specs.declared.element.Root.{Root}
use Rattle.life_rules.specs.Matching.{fact_at}
use Rattle.life_store.specs.Cells.{at}
use Rattle.life_store.specs.Content.{Object, Content}
use Rattle.life_store.specs.Effects.{Attempt, Got, GotTrap, GotFault, GotLost}
use Rattle.life_store.specs.Iterators.{standing}
use Rattle.life_store.specs.Places.{Found, Here, Fixed, Outside, Wrong, Astray, behind_pointer, found_if, found_text, reached_if, reached_in}
use Rattle.life_store.specs.State.{Target, Pointer, Null, Wild, To, Static}
use Rattle.life_store.specs.Views.{usable}
use Rattle.life_store.specs.declared.run.FaultKind.TheVariants as fault
use Rattle.life_cover.specs.Covers.{Covers, Holds, IsCovered, Look, PointsTo, Reseen}
use Rattle.life_cover.specs.Regions.{Region}
use Rattle.life_cover.proofs.Fresh.{position_valid, range_valid}

-- ---- no faults

abbrev pub Faultless : {A : Type 0} → Attempt A → Type 0
Faultless (Got a) = Unit {0}
Faultless (GotTrap kind) = Unit {0}
Faultless (GotFault kind) = ⊥
Faultless GotLost = Unit {0}

abbrev pub IsRight : Found → Type 0
IsRight (Here n i o) = Unit {0}
IsRight (Fixed c) = Unit {0}
IsRight Outside = Unit {0}
IsRight (Wrong kind) = ⊥
IsRight Astray = Unit {0}

-- it may not be invalid
abbrev pub NotInvalid : (Fact → Type 0) → AbsPlace → Type 0
NotInvalid S l = (cause : Cause) → S (fact_at l (element.Invalid cause)) → ⊥

module _ (types : Types) (c : Content) (Stands : Root → Region → Type 0) (may_change : Root → Bool) (S : Fact → Type 0) (l : AbsPlace) (look : Look) (right : NotInvalid S l) where
  -- a covered pointer to an object that may not be invalid points to a place of its facts
  pub record IsTo (t : Target) : Type 0 where
    pub place : AbsPlace
    pub fact : S (fact_at l (element.At place))
    pub points : PointsTo types c Stands may_change look place t

  pub to_place : (t : Target) → IsCovered types c Stands may_change S l look (To t) → IsTo t
  to_place t h = go h.known h.holds h.covers
    where
      go : (e : Element) → S (fact_at l e) → Covers types c Stands may_change look e (To t) → IsTo t
      go (element.Invalid cause) s k = absurd (right cause s)
      go element.Null s k = absurd k
      go (element.Moved cause) s k = absurd k
      go element.Own s k = absurd k
      go element.Static s k = absurd k
      go (element.At place) s k = record { place = place; fact = s; points = k }

  pub not_wild : IsCovered types c Stands may_change S l look Wild → ⊥
  not_wild h = go h.known h.holds h.covers
    where
      go : (e : Element) → S (fact_at l e) → Covers types c Stands may_change look e Wild → ⊥
      go (element.Invalid cause) s k = right cause s
      go element.Null s k = k
      go (element.Moved cause) s k = k
      go element.Own s k = k
      go element.Static s k = k
      go (element.At place) s k = k

  pub not_null : (S (fact_at l element.Null) → ⊥) → IsCovered types c Stands may_change S l look Null → ⊥
  not_null some h = go h.known h.holds h.covers
    where
      go : (e : Element) → S (fact_at l e) → Covers types c Stands may_change look e Null → ⊥
      go (element.Invalid cause) s k = right cause s
      go element.Null s k = some s
      go (element.Moved cause) s k = k
      go element.Own s k = k
      go element.Static s k = k
      go (element.At place) s k = k

  -- a view or a span
  pub usable_right : (v : Pointer) → look.ranged ≡ true → IsCovered types c Stands may_change S l look v → Faultless (usable c v)
  usable_right Null ranged h = tt
  usable_right Wild ranged h = absurd (not_wild h)
  usable_right (Static k) ranged h = tt
  usable_right (To t) ranged h = subst (λ b. Faultless (cond b (Got (To t)) (GotFault fault.Dangling))) (sym (range_valid c t (subst (λ b. Holds c b t) ranged (to_place t h).points.holds))) tt

  -- an iterator
  pub standing_right : (v : Pointer) → look.ranged ≡ false → IsCovered types c Stands may_change S l look v → Faultless (standing c v)
  standing_right Null ranged h = tt
  standing_right Wild ranged h = absurd (not_wild h)
  standing_right (Static k) ranged h = tt
  standing_right (To t) ranged h = subst (λ b. Faultless (cond b (Got (To t)) (GotFault fault.Dangling))) (sym (position_valid c t (subst (λ b. Holds c b t) ranged (to_place t h).points.holds))) tt

  -- what is gone through
  pub behind_right : (v : Pointer) → look.ranged ≡ false → (S (fact_at l element.Null) → ⊥) → IsCovered types c Stands may_change S l look v → IsRight (behind_pointer c v)
  behind_right Null ranged some h = absurd (not_null some h)
  behind_right Wild ranged some h = absurd (not_wild h)
  behind_right (Static k) ranged some h = text k.text
    where
      text : (n : Option ℕ) → IsRight (found_text n k)
      text None = tt
      text (Some n) = tt
  behind_right (To t) ranged some h = subst (λ b. IsRight (found_if b c t)) (sym (position_valid c t (subst (λ b. Holds c b t) ranged (to_place t h).points.holds))) (found (at c.objects t.object))
    where
      reached : (b : Bool) (o : Object) → IsRight (reached_if b t.object t.index o)
      reached true o = tt
      reached false o = tt

      found : (x : Option Object) → IsRight (reached_in x t.object t.index)
      found None = tt
      found (Some o) = reached (nat_lt t.index (length o.slots)) o

-- ---- what is made of a pointer points to the same place

pub points_again : (types : Types) (c : Content) (Stands : Root → Region → Type 0) (may_change : Root → Bool) (look look' : Look) (place : AbsPlace) (t t' : Target) → PointsTo types c Stands may_change look place t → t'.object ≡ t.object → t'.word ≡ t.word
    → Reseen types look.target look'.target → (look'.constant ≡ false → look.constant ≡ false) → Holds c look'.ranged t' → PointsTo types c Stands may_change look' place t'
points_again types c Stands may_change look look' place t t' h object word target constant holds = record {
  region = h.region;
  lies = h.lies;
  object = object ∙ h.object;
  word = word ∙ h.word;
  type = target h.region.ty h.type;
  change = λ e. h.change (constant e);
  holds = holds;
}
