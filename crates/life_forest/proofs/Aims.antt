-- Pointers to what isn't beneath a foot stay as good as they were, and new ones are good.
use Rattle.std.proofs.Common.{◌≡◌, ◌≢◌, ℕ, zero, suc, ◌≤◌, ◌<◌, Bool, true, cond, List, [], ◌∷◌, length, Option, Some, None, refl, sym, ap, subst, ◌∙◌, arith, ⊎_elim}
use Rattle.std.specs.Prelude.{◌&&◌, nat_le, option_map, slice_get}
use Rattle.std.proofs.lemmas.Bool.Decides.{eqb_tells, leb_tells}
use Rattle.life_types.specs.Types.{Types}
use Rattle.life_types.specs.declared.ty.TyId.{TyId}
use Rattle.life_store.specs.Cells.{at}
use Rattle.life_store.specs.Content.{Slot, Object, Content, is_settled, is_since, is_valid_in}
use Rattle.life_store.specs.Places.{is_valid}
use Rattle.life_store.specs.State.{Target}
use Rattle.life_store.proofs.CellLemmas.{none_some, some_same}
use Rattle.life_forest.specs.Forest.{AllSince, IsForest, Foot, Beneath, Touches}
use Rattle.life_forest.specs.Kinds.{Kinds, kinds_of}
use Rattle.life_forest.specs.Owned.{spared}
use Rattle.life_forest.specs.Within.{AimsWell, LiesWithin}
use Rattle.life_forest.proofs.Counting.{true_false}
use Rattle.life_forest.proofs.Steps.{stands_on}

-- ---- beside a foot

-- an object that isn't beneath has its type still
pub type_on : (kind : Kinds) (t : Foot) (c d : Content) (n : ℕ) (x : Object) → Touches kind t c d → n < c.births → (Beneath kind c t n → ⊥) → at d.objects n ≡ Some x → (o : Object) × (at c.objects n ≡ Some o) × (o.ty ≡ x.ty)
type_on kind t c d n x touch born apart there = go (at c.objects n) refl (sym (ap (option_map (spared kind (t.part n))) there) ∙ touch.kept n born apart)
  where
    go : (y : Option Object) → at c.objects n ≡ y → Some (spared kind (t.part n) x) ≡ option_map (spared kind (t.part n)) y → (o : Object) × (at c.objects n ≡ Some o) × (o.ty ≡ x.ty)
    go None e h = absurd (none_some (sym h))
    go (Some o) e h = (o, e, ap (λ (z : Object). z.ty) (some_same (sym h)))

module _ (types : Types) (t : Foot) (hand : ℕ → ℕ) (c d : Content) (forest : IsForest (kinds_of types) hand c) (touch : Touches (kinds_of types) t c d) (target : TyId) (p : Target) (apart : Beneath (kinds_of types) c t p.object → ⊥) where
  valid_born : (o : Option Object) → at c.objects p.object ≡ o → is_valid_in p.index 1 p.moment o ≡ true → p.object < c.births
  valid_born None e h = absurd (true_false (sym h))
  valid_born (Some o) e h = forest.births p.object o e

  -- a valid pointer stays valid
  pub valid_beside : is_valid c p ≡ true → is_valid d p ≡ true
  valid_beside valid = stands_on (kinds_of types) t c d p.object p.index 1 p.moment touch (valid_born (at c.objects p.object) refl valid) apart ∙ valid

  -- .. and aims at the same: what was there before, or is dead for good
  pub aims_beside : p.object < c.births → AimsWell types c target p → AimsWell types d target p
  aims_beside born aims valid o there =
      let was = type_on (kinds_of types) t c d p.object o touch born apart there in
      subst (λ id. LiesWithin types id p.word target) was.2
      (aims (sym (stands_on (kinds_of types) t c d p.object p.index 1 p.moment touch born apart) ∙ valid) was.0 was.1)

-- ---- new ones

le_true : (a b : ℕ) → a ≤ b → nat_le a b ≡ true
le_true a b le = ⊎_elim (λ h. h.0) (λ h. absurd (omega (arith, h.1, le))) (leb_tells a b)

since_there : (t : ℕ) (ss : List Slot) (i : ℕ) → AllSince t ss → i < length ss → is_since t (slice_get ss i) ≡ true
since_there t [] i all lt = absurd (omega arith)
since_there t (s ∷ ss) zero all lt = le_true s.stamp t all.0
since_there t (s ∷ ss) (suc i) all lt = since_there t ss i all.1 (omega arith)

-- a pointer to any position, the end among them, is valid when it is made
pub valid_now : (kind : Kinds) (hand : ℕ → ℕ) (c : Content) (n i : ℕ) (o : Object) → IsForest kind hand c → at c.objects n ≡ Some o → i ≤ length o.slots → is_valid_in i 1 c.clock (at c.objects n) ≡ true
valid_now kind hand c n i o forest there le = ap (is_valid_in i 1 c.clock) there ∙ ap (λ (b : Bool). b && true) settled
  where
    settled : is_settled o i c.clock ≡ true
    settled = ⊎_elim
        (λ h. ap (λ (b : Bool). cond b (nat_le o.end c.clock) (is_since c.clock (slice_get o.slots i))) h.0 ∙ le_true o.end c.clock (forest.ends n o there))
        (λ h. ap (λ (b : Bool). cond b (nat_le o.end c.clock) (is_since c.clock (slice_get o.slots i))) h.0 ∙ since_there c.clock o.slots i (forest.slots n o there) (less h.1))
        (eqb_tells i (length o.slots))
      where
        less : i ≢ length o.slots → i < length o.slots
        less ne = omega arith
