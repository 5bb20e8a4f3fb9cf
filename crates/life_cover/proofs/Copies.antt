-- A copy of a vector or a string makes no fault where each vector and each string has its buffer.
use Rattle.std.proofs.Common.{◌≡◌, ℕ, zero, suc, ◌+◌, ◌*◌, ◌≤◌, ◌<◌, List, [], ◌∷◌, length, Option, Some, None, refl, sym, ap, subst, ◌∙◌, arith, ◌++◌}
use Rattle.std.specs.Prelude.{nat_lt, slice_get, slice_index, drop, take}
use Rattle.life_types.specs.declared.ty.TyId.{TyId}
use Rattle.life_store.specs.Cells.{at, at-set_other}
use Rattle.life_store.specs.Content.{Slot, Object, Content, live_words_of, newborn, with_birth, with_object, resized}
use Rattle.life_store.specs.Effects.{Attempt, Got, GotTrap, Setting, then_get}
use Rattle.life_store.specs.Held.{filled, filled_if, owned_in, resized_at, resized_if, slots_at, slots_if}
use Rattle.life_store.specs.Owners.{Words, birth, copied, copied_buffer, copied_slots, owning, sized_birth}
use Rattle.life_store.specs.Parts.{Parts, Single, Raw, Iterates, Views, Text, Vector, Unique, Member, NoMember, width}
use Rattle.life_store.specs.declared.run.TrapKind.TheVariants as trap
use Rattle.life_store.proofs.CellLemmas.{none_some}
use Rattle.life_cover.proofs.Pointers.{IfRight}
use Rattle.life_cover.proofs.Walks.{by_test, then_right}

pub slot_within : (ss : List Slot) (j : ℕ) (u : Slot) → slice_get ss j ≡ Some u → j < length ss
slot_within [] j u h = absurd (none_some h)
slot_within (x ∷ ss) zero u h = omega arith
slot_within (x ∷ ss) (suc j) u h = let r = slot_within ss j u h in omega (arith, r)

-- ---- what can be copied

-- the vectors and strings of a value have their buffers, and so have the elements of its vectors
abbrev pub IsFull : Content → Parts → List ℕ → Type 0
IsFull c (Text id) ws = (b : ℕ) × (owned_in (slice_index ws 0) ≡ Some b)
IsFull c (Vector id element) ws =
    (b : ℕ) × (owned_in (slice_index ws 0) ≡ Some b) × (b < c.births) × ((j : ℕ) (u : Slot) → slice_get (slots_at c b) j ≡ Some u → (length u.words ≡ width element) × IsFull c element u.words)
IsFull c (Member first others) ws = IsFull c first (take (width first) ws) × IsFull c others (drop (width first) ws)
IsFull c _ ws = Unit {0}

module _ (c : Content) (s : Setting) where
  -- ---- only new objects came

  pub record IsLater (d : Content) : Type 0 where
    pub births : c.births ≤ d.births
    pub same : (k : ℕ) → k < c.births → at d.objects k ≡ at c.objects k

  pub now : IsLater c
  now = record { births = omega arith; same = λ k lt. refl }

  set_later : (d : Content) (n : ℕ) (o : Object) → c.births ≤ n → IsLater d → IsLater (with_object n o d)
  set_later d n o new later = record { births = later.births; same = λ k lt. at-set_other d.objects n k o (λ e. absurd (omega (arith, e, lt, new))) ∙ later.same k lt }

  resized_later : (d : Content) (n size since : ℕ) → c.births ≤ n → IsLater d → IsLater (resized_at n size since d)
  resized_later d n size since new later = go (at d.objects n)
    where
      go : (o : Option Object) → IsLater (resized_if o n size since d)
      go None = later
      go (Some o) = record { births = later.births; same = λ k lt. at-set_other d.objects n k (resized (d.clock + 1) size since o) (λ e. absurd (omega (arith, e, lt, new))) ∙ later.same k lt }

  filled_later : (d : Content) (n : ℕ) (rows : List (List ℕ)) → c.births ≤ n → IsLater d → IsLater (filled n rows d)
  filled_later d n rows new later = go (at d.objects n)
    where
      go : (o : Option Object) → IsLater (filled_if o n rows d)
      go None = later
      go (Some o) = set_later d n _ new later

  -- an object is born behind all that were there
  sized_right : (ty : TyId) (w size : ℕ) (d : Content) → IsLater d → IfRight (sized_birth s ty w size d) (λ b. (c.births ≤ b.0) × IsLater b.1)
  sized_right ty w size d later =
      then_right (birth s ty w size d) (λ b. Got (b.0, resized_at b.0 size 0 b.1)) (λ b. (c.births ≤ b.0) × IsLater b.1) (λ b. (c.births ≤ b.0) × IsLater b.1)
      (by_test (nat_lt s.given.cells (live_words_of d + (2 + w * size))) (GotTrap trap.Cells) (Got (d.births, with_birth ty w size d)) (λ b. (c.births ≤ b.0) × IsLater b.1) (λ e. tt) (later.births, born))
      (λ b h. (h.0, resized_later b.1 b.0 size 0 h.0 h.1))
    where
      born : IsLater (with_birth ty w size d)
      born = record {
        births = let b = later.births in omega (arith, b);
        same = λ k lt. at-set_other d.objects d.births k (newborn ty w size d.clock) (λ e. let b = later.births in absurd (omega (arith, e, lt, b))) ∙ later.same k lt;
      }

  -- ---- copies

  slots_right : (copy : List ℕ → Content → Attempt Words) (ss : List Slot) → ((i : ℕ) (t : Slot) → slice_get ss i ≡ Some t → (d : Content) → IsLater d → IfRight (copy t.words d) (λ v. IsLater v.1)) → (d : Content) → IsLater d
      → IfRight (copied_slots copy ss d) (λ vs. IsLater vs.1)
  slots_right copy [] each d later = later
  slots_right copy (t ∷ ss) each d later =
      then_right (copy t.words d) (λ v. then_get (copied_slots copy ss v.1) (λ vs. Got (v.0 ∷ vs.0, vs.1))) (λ v. IsLater v.1) (λ vs. IsLater vs.1) (each 0 t refl d later)
      (λ v h. then_right (copied_slots copy ss v.1) (λ vs. Got (v.0 ∷ vs.0, vs.1)) (λ vs. IsLater vs.1) (λ vs. IsLater vs.1) (slots_right copy ss (λ i u e. each (suc i) u e) v.1 h) (λ vs k. k))

  buffer_right : (ty : TyId) (w : ℕ) (copy : List ℕ → Content → Attempt Words) (b : ℕ) (d : Content) → IsLater d → ((i : ℕ) (t : Slot) → slice_get (slots_at d b) i ≡ Some t → (e : Content) → IsLater e → IfRight (copy t.words e) (λ v. IsLater v.1))
      → IfRight (copied_buffer s ty w copy (Some b) d) (λ v. IsLater v.1)
  buffer_right ty w copy b d later each =
      then_right (sized_birth s ty w (length (slots_at d b)) d) (λ f. then_get (copied_slots copy (slots_at d b) f.1) (λ vs. Got (owning (f.0, filled f.0 vs.0 vs.1)))) (λ f. (c.births ≤ f.0) × IsLater f.1) (λ v. IsLater v.1)
      (sized_right ty w (length (slots_at d b)) d later)
      (λ f h. then_right (copied_slots copy (slots_at d b) f.1) (λ vs. Got (owning (f.0, filled f.0 vs.0 vs.1))) (λ vs. IsLater vs.1) (λ v. IsLater v.1)
      (slots_right copy (slots_at d b) each f.1 h.1) (λ vs k. filled_later vs.1 f.0 vs.0 h.0 k))

  -- a value whose vectors and strings have their buffers
  pub copied_right : (p : Parts) (ws : List ℕ) → IsFull c p ws → (d : Content) → IsLater d → IfRight (copied s p ws d) (λ v. IsLater v.1)
  copied_right Single ws has d later = later
  copied_right Raw ws has d later = later
  copied_right Iterates ws has d later = later
  copied_right Views ws has d later = later
  copied_right (Unique ty target) ws has d later = tt
  copied_right NoMember ws has d later = later
  copied_right (Member first others) ws has d later =
      then_right (copied s first (take (width first) ws) d) (λ a. then_get (copied s others (drop (width first) ws) a.1) (λ b. Got (a.0 ++ b.0, b.1))) (λ a. IsLater a.1) (λ v. IsLater v.1) (copied_right first (take (width first) ws) has.0 d later)
      (λ a h. then_right (copied s others (drop (width first) ws) a.1) (λ b. Got (a.0 ++ b.0, b.1)) (λ b. IsLater b.1) (λ v. IsLater v.1) (copied_right others (drop (width first) ws) has.1 a.1 h) (λ b k. k))
  copied_right (Text ty) ws has d later =
      subst (λ (x : Option ℕ). IfRight (copied_buffer s ty 1 (λ vs g. Got (vs, g)) x d) (λ v. IsLater v.1)) (sym has.1) (buffer_right ty 1 (λ vs g. Got (vs, g)) has.0 d later (λ j u h g k. k))
  copied_right (Vector ty element) ws has d later =
      subst (λ (x : Option ℕ). IfRight (copied_buffer s ty (width element) (copied s element) x d) (λ v. IsLater v.1)) (sym has.1)
      (buffer_right ty (width element) (copied s element) has.0 d later
      (λ j u at_j g k. copied_right element u.words (has.3 j u (sym (ap (λ (x : Option Object). slice_get (slots_if x) j) (later.same has.0 has.2)) ∙ at_j)).1 g k))
