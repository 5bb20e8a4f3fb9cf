-- A store goes the way of the meaning where a vector gets room for so many elements.
use Rattle.std.proofs.Common.{◌≡◌, ℕ, suc, ◌<◌, ◌≤◌, ◌^◌, true, false, cond, Option, Some, Ok, Err, ap, ◌∙◌, arith, length, ⊎_elim, mul-le-mul_right}
use Rattle.std.proofs.lemmas.Bool.Decides.{leb_tells}
use Rattle.std.specs.Prelude.{nat_lt}
use Rattle.life_types.specs.declared.ty.TyId.{TyId}
use Rattle.life_store.specs.Cells.{at}
use Rattle.life_store.specs.Content.{Object, Content, without}
use Rattle.life_store.specs.Edits.{capacity_if, filled_by, owns as takes, regrown, reserved}
use Rattle.life_store.specs.Effects.{Setting, Attempt, Got, GotTrap, GotFault, GotLost, then_get}
use Rattle.life_store.specs.Held.{resized_at, slots_at, slots_if}
use Rattle.life_store.specs.Owners.{taken_slots}
use Rattle.life_store.specs.Parts.{Parts}
use Rattle.life_store.specs.Parts.{width as parts_width}
use Rattle.life_store.specs.Places.{Spot as Place}
use Rattle.life_store.specs.References.{Rows}
use Rattle.life_store.specs.declared.object.BirthFault.{BirthFault}
use Rattle.life_store.specs.declared.object.BirthFault.TheVariants as birth_fault
use Rattle.life_store.specs.declared.object.ObjRef.{ObjRef}
use Rattle.life_store.specs.declared.run.TrapKind.TheVariants as trap
use Rattle.life_seen.specs.Kinds.{Kinds}
use Rattle.life_seen.specs.Seen.{seen}
use Rattle.life_values.specs.Fresh.{Comes}
use Rattle.life_values.specs.Regrown.{then_owned}
use Rattle.life_values.specs.Texts.{IsBuffer}
use Rattle.life_values.proofs.Beginning.{birth_full}

is_less : (a b : ℕ) → a < b → nat_lt a b ≡ true
is_less a b lt = ⊎_elim (λ h. h.0) (λ h. let g = h.1 in absurd (omega (arith, g, lt))) (leb_tells (suc a) b)

isn't_less : (a b : ℕ) → b ≤ a → nat_lt a b ≡ false
isn't_less a b le = ⊎_elim (λ h. let l = h.1 in absurd (omega (arith, l, le))) (λ h. h.0) (leb_tells (suc a) b)

module _ (kinds : Kinds) (s : Setting) (ty : TyId) (element : Parts) (spot : Place) (b n : ℕ) (m : Content) (o : Object) (there : at m.objects b ≡ Some o) where
  abbrev owned : ℕ × Content → Attempt Content
  owned f = Got (takes spot f.0 f.1)

  abbrev both : ℕ × Content → Attempt (ℕ × Content)
  both f = Got (f.0, takes spot f.0 f.1)

  tested : reserved s ty element spot b n m ≡ cond (nat_lt o.capacity n) (then_get (regrown s ty element b n (length o.slots) m) owned) (Got m)
  tested = ap (λ (x : Option Object). cond (nat_lt (capacity_if x) n) (then_get (regrown s ty element b n (length (slots_if x)) m) owned) (Got m)) there

  pub reserved_there : n ≤ o.capacity → reserved s ty element spot b n m ≡ Got m
  reserved_there le = tested ∙ ap (λ t. cond t (then_get (regrown s ty element b n (length o.slots) m) owned) (Got m)) (isn't_less o.capacity n le)

  pub reserved_more : o.capacity < n → reserved s ty element spot b n m ≡ then_get (regrown s ty element b n (length o.slots) m) owned
  reserved_more lt = tested ∙ ap (λ t. cond t (then_get (regrown s ty element b n (length o.slots) m) owned) (Got m)) (is_less o.capacity n lt)

  -- of what came, the content
  trapped : (x : Attempt (ℕ × Content)) → then_get x both ≡ GotTrap trap.Cells → then_get x owned ≡ GotTrap trap.Cells
  trapped (Got f) e = absurd (clash e)
    where
      clash : ◌≡◌ {A = Attempt (ℕ × Content)} (Got (f.0, takes spot f.0 f.1)) (GotTrap trap.Cells) → ⊥
      clash h = cc
  trapped (GotTrap k) e = ap GotTrap (same e)
    where
      same : ◌≡◌ {A = Attempt (ℕ × Content)} (GotTrap k) (GotTrap trap.Cells) → k ≡ trap.Cells
      same h = cc
  trapped (GotFault k) e = absurd (clash e)
    where
      clash : ◌≡◌ {A = Attempt (ℕ × Content)} (GotFault k) (GotTrap trap.Cells) → ⊥
      clash h = cc
  trapped GotLost e = absurd (clash e)
    where
      clash : ◌≡◌ {A = Attempt (ℕ × Content)} GotLost (GotTrap trap.Cells) → ⊥
      clash h = cc

  abbrev content_or : Content → Attempt (ℕ × Content) → Content
  content_or d (Got f) = f.1
  content_or d _ = d

  came : (x : Attempt (ℕ × Content)) (k : ℕ) (d : Content) → then_get x both ≡ Got (k, d) → then_get x owned ≡ Got d
  came (Got f) k d e = ap (λ (x : Attempt (ℕ × Content)). Got (content_or d x)) e
  came (GotTrap t) k d e = absurd (clash e)
    where
      clash : ◌≡◌ {A = Attempt (ℕ × Content)} (GotTrap t) (Got (k, d)) → ⊥
      clash h = cc
  came (GotFault t) k d e = absurd (clash e)
    where
      clash : ◌≡◌ {A = Attempt (ℕ × Content)} (GotFault t) (Got (k, d)) → ⊥
      clash h = cc
  came GotLost k d e = absurd (clash e)
    where
      clash : ◌≡◌ {A = Attempt (ℕ × Content)} GotLost (Got (k, d)) → ⊥
      clash h = cc

  pub reserve_fails : o.capacity < n → (fault : BirthFault) (c : Content) (rows : Rows) → IsBuffer kinds (then_owned spot (regrown s ty element b n (length o.slots) m)) (Err fault) c rows
      → Comes {A = Unit {0}} kinds (reserved s ty element spot b n m) (Err fault) c rows
  reserve_fails lt birth_fault.Cells c rows e = reserved_more lt ∙ trapped (regrown s ty element b n (length o.slots) m) e
  reserve_fails lt birth_fault.NoMemory c rows e = tt

  pub reserve_comes : o.capacity < n → (q : ObjRef) (c : Content) (rows : Rows) → IsBuffer kinds (then_owned spot (regrown s ty element b n (length o.slots) m)) (Ok q) c rows
      → Comes {A = Unit {0}} kinds (reserved s ty element spot b n m) (Ok tt) c rows
  reserve_comes lt q c rows e = (e.0, reserved_more lt ∙ came (regrown s ty element b n (length o.slots) m) q.birth e.0 e.1, e.2)

-- more than a capacity can be is more than the live words may be
module _ (kinds : Kinds) (s : Setting) (ty : TyId) (element : Parts) (spot : Place) (b n limit : ℕ) (c : Content) (rows : Rows) (o : Object) (there : at (seen kinds c rows).objects b ≡ Some o) where
  abbrev carried : ℕ × Content → Attempt (ℕ × Content)
  carried f = Got (f.0, without b (filled_by f.0 (taken_slots element (slots_at (seen kinds c rows) b) (resized_at f.0 (length o.slots) 0 f.1))))

  abbrev given : ℕ × Content → Attempt Content
  given f = Got (takes spot f.0 f.1)

  pub reserve_huge : s.given.cells ≡ limit → limit < 2 ^ 32 → 2 ^ 32 ≤ n → o.capacity < n → 1 ≤ parts_width element → reserved s ty element spot b n (seen kinds c rows) ≡ GotTrap trap.Cells
  reserve_huge cells few huge more wide =
      reserved_more kinds s ty element spot b n (seen kinds c rows) o there more
      ∙ ap (λ x. then_get (then_get x carried) given)
      (birth_full kinds s c rows ty (parts_width element) n limit cells (let l = mul-le-mul_right {m = 1} {n = parts_width element} n wide in omega (arith, l, few, huge)))
