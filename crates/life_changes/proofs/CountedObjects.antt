-- How far a new object with a value counts.
use Rattle.std.proofs.Common.{◌≡◌, ℕ, ◌+◌, ◌*◌, ◌≤◌, ◌<◌, ◌++◌, Some, refl, arith}
use Rattle.life_types.specs.declared.ty.TyId.{TyId}
use Rattle.life_core.specs.declared.instr.Form.{Form}
use Rattle.life_store.specs.Cells.{at}
use Rattle.life_store.specs.Content.{Object, Content, live_words_of, with_birth}
use Rattle.life_store.specs.Effects.{Setting, Attempt, Got, then_get}
use Rattle.life_store.specs.Held.{resized_at, wrote}
use Rattle.life_store.specs.Owners.{Words, birth, fresh, object_with, owning, sized_birth}
use Rattle.life_store.specs.Parts.{Parts, Single, Raw, Iterates, Views, Text, Vector, Unique, Member, NoMember, width}
use Rattle.life_forest.proofs.Coming.{IfGot, got_then}
use Rattle.life_changes.specs.Bounded.{IsBounded}
use Rattle.life_changes.proofs.Counted.{Counted, counted_born, counted_more, counted_wrote}
use Rattle.life_changes.proofs.CountedEdits.{begin, born_sized, if_fits, IsBorn}

-- ---- a fresh value

module _ (limit : ℕ) (c : Content) (b cap : ℕ) (s : Setting) (given : s.given.cells ≡ limit) where
  birth_counted : (ty : TyId) (w capacity n t : ℕ) (d : Content) → Counted limit c b cap n t d → IfGot (birth s ty w capacity d) (λ f. Counted limit c b cap (n + 1) t f.1)
  birth_counted ty w capacity n t d h =
      if_fits s.given.cells (live_words_of d + (2 + w * capacity)) _ (d.births, with_birth ty w capacity d) (λ f. Counted limit c b cap (n + 1) t f.1)
      (λ le. counted_born limit c b cap n t ty w capacity d (omega (arith, le, given)) h)

  owning_counted : (ty : TyId) (w n t : ℕ) (d : Content) → Counted limit c b cap n t d → IfGot (then_get (birth s ty w 0 d) (λ f. Got (owning f))) (λ v. Counted limit c b cap (n + 1) t v.1)
  owning_counted ty w n t d h = got_then (birth s ty w 0 d) (λ f. Got (owning f)) (λ f. Counted limit c b cap (n + 1) t f.1) (λ v. Counted limit c b cap (n + 1) t v.1) (birth_counted ty w 0 n t d h) (λ f k. k)

  -- at most one birth for each word
  pub fresh_counted : (form : Form) (p : Parts) (n t : ℕ) (d : Content) → Counted limit c b cap n t d → IfGot (fresh s form p d) (λ v. Counted limit c b cap (n + width p) t v.1)
  fresh_counted form Single n t d h = counted_more limit c b cap n t (n + 1) t d (omega arith) (omega arith) h
  fresh_counted form Raw n t d h = counted_more limit c b cap n t (n + 5) t d (omega arith) (omega arith) h
  fresh_counted form Iterates n t d h = counted_more limit c b cap n t (n + 5) t d (omega arith) (omega arith) h
  fresh_counted form Views n t d h = counted_more limit c b cap n t (n + 5) t d (omega arith) (omega arith) h
  fresh_counted form (Text ty) n t d h = owning_counted ty 1 n t d h
  fresh_counted form (Vector ty element) n t d h = owning_counted ty (width element) n t d h
  fresh_counted form (Unique ty target) n t d h = counted_more limit c b cap n t (n + 1) t d (omega arith) (omega arith) h
  fresh_counted form (Member first others) n t d h =
      got_then (fresh s form first d) (λ a. then_get (fresh s form others a.1) (λ e. Got (a.0 ++ e.0, e.1))) (λ v. Counted limit c b cap (n + width first) t v.1) (λ v. Counted limit c b cap (n + (width first + width others)) t v.1)
      (fresh_counted form first n t d h)
      (λ a k. got_then (fresh s form others a.1) (λ e. Got (a.0 ++ e.0, e.1)) (λ v. Counted limit c b cap (n + width first + width others) t v.1) (λ v. Counted limit c b cap (n + (width first + width others)) t v.1)
      (fresh_counted form others (n + width first) t a.1 k)
      (λ e m. counted_more limit c b cap (n + width first + width others) t (n + (width first + width others)) t e.1 (omega arith) (omega arith) m))
  fresh_counted form NoMember n t d h = counted_more limit c b cap n t (n + 0) t d (omega arith) (omega arith) h

-- ---- the object

module _ (limit : ℕ) (c : Content) (b : ℕ) (ob : Object) (there : at c.objects b ≡ Some ob) (bounded : IsBounded limit c) (old : b < c.births) (s : Setting) (given : s.given.cells ≡ limit) where
  -- .. which has no more words than may live
  pub object_counted : (ty : TyId) (p : Parts) (value : Content → Attempt Words) (more : ℕ) → ((n t : ℕ) (d : Content) → Counted limit c b ob.capacity n t d → IfGot (value d) (λ v. Counted limit c b ob.capacity (n + more) t v.1))
      → IfGot (object_with s ty p value c) (λ f. Counted limit c b ob.capacity (1 + more) 1 f.1 × (2 + width p ≤ limit))
  object_counted ty p value more each =
      got_then (sized_birth s ty (width p) 1 c) (λ f. then_get (value f.1) (λ v. Got (f.0, wrote f.0 0 0 v.0 v.1))) (λ f. Counted limit c b ob.capacity 1 1 f.1 × (2 + width p ≤ limit)) (λ f. Counted limit c b ob.capacity (1 + more) 1 f.1 × (2 + width p ≤ limit))
      (got_then (birth s ty (width p) 1 c) (λ f. Got (f.0, resized_at f.0 1 0 f.1)) (λ f. IsBorn limit c b ob there bounded old s given (width p) 1 ty f × (2 + width p ≤ limit)) (λ f. Counted limit c b ob.capacity 1 1 f.1 × (2 + width p ≤ limit))
      (if_fits s.given.cells (live_words_of c + (2 + width p * 1)) _ (c.births, with_birth ty (width p) 1 c) (λ f. IsBorn limit c b ob there bounded old s given (width p) 1 ty f × (2 + width p ≤ limit))
      (λ le. ((refl, counted_born limit c b ob.capacity 0 0 ty (width p) 1 c (omega (arith, le, given)) (begin limit c b ob there bounded old s given)), omega (arith, le, given))))
      (λ f h. (born_sized limit c b ob there bounded old s given ty (width p) 1 1 (omega arith) f h.0, h.1)))
      (λ f h. got_then (value f.1) (λ v. Got (f.0, wrote f.0 0 0 v.0 v.1)) (λ v. Counted limit c b ob.capacity (1 + more) 1 v.1) (λ e. Counted limit c b ob.capacity (1 + more) 1 e.1 × (2 + width p ≤ limit)) (each 1 1 f.1 h.0)
      (λ v k. (counted_wrote limit c b ob.capacity (1 + more) 1 f.0 0 0 v.0 v.1 k, h.1)))
