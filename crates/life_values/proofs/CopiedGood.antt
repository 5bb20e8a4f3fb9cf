-- Where an object is copied, only new objects come, and all stay good.
use Rattle.std.proofs.Common.{◌≡◌, ℕ, zero, suc, ◌+◌, ◌*◌, ◌≤◌, ◌<◌, Bool, cond, List, [], ◌∷◌, length, take, Option, Some, None, refl, sym, ap, subst, ◌∙◌, arith, ⊎_elim}
use Rattle.std.proofs.lemmas.Bool.Decides.{leb_tells}
use Rattle.std.proofs.lemmas.Option.{none-some, same_Some}
use Rattle.std.specs.Prelude.{slice_get, slice_index}
use Rattle.life_types.specs.declared.ty.TyId.{TyId}
use Rattle.life_store.specs.Cells.{at, at-set_same, at-set_other}
use Rattle.life_store.specs.Content.{Slot, Object, Content, live_words_of, with_birth, with_object, with_word, word_in, word_at}
use Rattle.life_store.specs.Effects.{Setting, Attempt, Got, GotTrap, GotFault, GotLost, then_get}
use Rattle.life_store.specs.Held.{owned_in, owner_word, resized_at, slots_if, with_words, words_at, words_if, wrote, wrote_if}
use Rattle.life_store.specs.Kinds.{Owner}
use Rattle.life_store.specs.Owners.{sized_birth}
use Rattle.life_store.specs.declared.run.TrapKind.TheVariants as trap
use Rattle.life_forest.specs.Kinds.{Kinds}
use Rattle.life_forest.proofs.Coming.{IfGot, got_then}
use Rattle.life_values.specs.Copied.{copied_if, copied_number, copied_object, recopied, recopied_each, slots_copied}
use Rattle.life_values.specs.Good.{IsNaming, AreGood}
use Rattle.life_values.specs.Taken.{owned_if}
use Rattle.life_values.proofs.GoodSteps.{good_with, good_word, good_words, sized_is, Sized}
use Rattle.life_values.proofs.Renewed.{like_then, word_like}
use Rattle.life_values.proofs.Zeroing.{IsLike}

pub got_is : {A : Type 0} (x : Attempt A) (P : A → Type 0) (a : A) → IfGot x P → x ≡ Got a → P a
got_is x P a h e = subst (λ y. IfGot y P) e h

got_weaker : {A : Type 0} (x : Attempt A) (P Q : A → Type 0) → IfGot x P → ((a : A) → P a → Q a) → IfGot x Q
got_weaker (Got a) P Q h more = more a h
got_weaker (GotTrap kind) P Q h more = tt
got_weaker (GotFault kind) P Q h more = tt
got_weaker GotLost P Q h more = tt

words_like : (i w : ℕ) (vs : List ℕ) (o : Object) → IsLike (with_words i w vs o) o
words_like i w [] o = record { ty = refl; width = refl; capacity = refl; count = refl }
words_like i w (v ∷ vs) o = like_then (words_like i (w + 1) vs (with_word i w v o)) (word_like i w v o)

owned_word : (w q : ℕ) → owned_in w ≡ Some q → w ≡ suc q
owned_word zero q e = absurd (none-some q e)
owned_word (suc n) q e = ap suc (same_Some n q e)

cut_index : (w : ℕ) (xs : List ℕ) (t v : ℕ) → slice_get (take w xs) t ≡ Some v → slice_index xs t ≡ v
cut_index zero [] t v e = absurd (none-some v e)
cut_index zero (x ∷ xs) t v e = absurd (none-some v e)
cut_index (suc w) [] t v e = absurd (none-some v e)
cut_index (suc w) (x ∷ xs) zero v e = same_Some x v e
cut_index (suc w) (x ∷ xs) (suc t) v e = cut_index w xs t v e

in_slot : (x : Option Slot) (u : ℕ) → word_in x u ≡ slice_index (words_if x) u
in_slot None zero = refl
in_slot None (suc u) = refl
in_slot (Some s) u = refl

module _ (kind : Kinds) (limit : ℕ) where
  -- from c to d, of the old objects only this one changed, and in words alone
  pub record Grew (m : ℕ) (c d : Content) : Type 0 where
    pub births : c.births ≤ d.births
    pub same : (k : ℕ) → k < c.births → (m ≡ k → ⊥) → at d.objects k ≡ at c.objects k
    pub target : (o : Object) → at c.objects m ≡ Some o → (p : Object) × (at d.objects m ≡ Some p) × IsLike p o
    pub good : AreGood kind limit d

  pub grew_self : (m : ℕ) (c : Content) → AreGood kind limit c → Grew m c c
  grew_self m c good = record {
    births = omega arith;
    same = λ k lt ne. refl;
    target = λ o there. (o, there, record { ty = refl; width = refl; capacity = refl; count = refl });
    good = good;
  }

  pub grew_then : (m : ℕ) (c d e : Content) → Grew m c d → Grew m d e → Grew m c e
  grew_then m c d e a b = record {
    births = let x = a.births in let y = b.births in omega (arith, x, y);
    same = λ k lt ne. b.same k (let x = a.births in omega (arith, x, lt)) ne ∙ a.same k lt ne;
    target = λ o there. let x = a.target o there in let y = b.target x.0 x.1 in (y.0, y.1, like_then y.2 x.2);
    good = b.good;
  }

  -- a copy of an object came, and nothing else changed
  pub record Copied (n : ℕ) (c : Content) (b : ℕ × Content) : Type 0 where
    pub number : b.0 ≡ c.births
    pub births : b.0 < b.1.births
    pub same : (k : ℕ) → k < c.births → at b.1.objects k ≡ at c.objects k
    pub source : Object
    pub source_there : at c.objects n ≡ Some source
    pub object : Object
    pub there : at b.1.objects b.0 ≡ Some object
    pub type : object.ty ≡ source.ty
    pub good : AreGood kind limit b.1

  -- ---- words that own

  module _ (copy : ℕ → Content → Attempt (ℕ × Content)) (copies : (n : ℕ) (c : Content) → AreGood kind limit c → IfGot (copy n c) (Copied n c)) where
    module _ (m i u : ℕ) (c : Content) (o : Object) (good : AreGood kind limit c) (there : at c.objects m ≡ Some o) (owner : kind.word o.ty u ≡ Owner) (q : ℕ) (holds : word_at o i u ≡ suc q) (b : ℕ × Content) (h : Copied q c b) where
      there_b : at b.1.objects m ≡ Some o
      there_b = h.same m (good.born m o there) ∙ there

      naming : IsNaming kind b.1 o.ty u b.0
      naming = record {
        born = h.births;
        type = λ y at_y.
            ((good.good m o there).names i u q owner holds).type h.source h.source_there ∙ ap Some (sym h.type ∙ ap (λ (x : Object). x.ty) (same_Some h.object y (sym h.there ∙ at_y)));
      }

      abbrev new : Object
      new = with_word i u (suc b.0) o

      wrote_is : wrote m i u (owner_word (Some b.0) ∷ []) b.1 ≡ with_object m (with_word i u (suc b.0) o) b.1
      wrote_is = ap (λ (x : Option Object). wrote_if x m i u (suc b.0 ∷ []) b.1) there_b

      pub word_grew : Grew m c (wrote m i u (owner_word (Some b.0) ∷ []) b.1)
      word_grew = subst (Grew m c) (sym wrote_is) (record {
        births = let x = h.number in let y = h.births in omega (arith, x, y);
        same = λ k lt ne. at-set_other b.1.objects m k (with_word i u (suc b.0) o) ne ∙ h.same k lt;
        target = λ x at_x. (with_word i u (suc b.0) o, at-set_same b.1.objects m m (with_word i u (suc b.0) o) refl, subst (IsLike (with_word i u (suc b.0) o)) (same_Some o x (sym there ∙ at_x)) (word_like i u (suc b.0) o));
        good = good_with kind limit b.1 m (with_word i u (suc b.0) o) o h.good there_b refl refl refl
            (good_word kind b.1 o i u (suc b.0) (h.good.good m o there_b) (λ k own e. let z : b.0 ≡ k = omega (arith, e) in subst (IsNaming kind b.1 o.ty u) z naming));
      })

    recopied_grew : (m i u : ℕ) (c : Content) (o : Object) → AreGood kind limit c → at c.objects m ≡ Some o → kind.word o.ty u ≡ Owner → (x : Option ℕ) → owned_in (word_at o i u) ≡ x → IfGot (recopied copy x m i u c) (Grew m c)
    recopied_grew m i u c o good there owner None e = tt
    recopied_grew m i u c o good there owner (Some q) e =
        got_then (copy q c) (λ b. Got (wrote m i u (owner_word (Some b.0) ∷ []) b.1)) (Copied q c) (Grew m c) (copies q c good)
        (λ b h. word_grew m i u c o good there owner q (owned_word (word_at o i u) q e) b h)

    pub one_grew : (m i u : ℕ) (c : Content) (o : Object) → AreGood kind limit c → at c.objects m ≡ Some o → kind.word o.ty u ≡ Owner → IfGot (recopied copy (owned_if (at c.objects m) i u) m i u c) (Grew m c)
    one_grew m i u c o good there owner =
        subst (λ (x : Option Object). IfGot (recopied copy (owned_if x i u) m i u c) (Grew m c)) (sym there) (recopied_grew m i u c o good there owner (owned_in (word_at o i u)) refl)

    pub each_grew : (us : List ℕ) (m i : ℕ) (c : Content) (o : Object) → AreGood kind limit c → at c.objects m ≡ Some o → ((j u : ℕ) → slice_get us j ≡ Some u → kind.word o.ty u ≡ Owner) → IfGot (recopied_each copy m i us c) (Grew m c)
    each_grew [] m i c o good there own = grew_self m c good
    each_grew (u ∷ us) m i c o good there own =
        got_then (recopied copy (owned_if (at c.objects m) i u) m i u c) (recopied_each copy m i us) (Grew m c) (Grew m c) (one_grew m i u c o good there (own 0 u refl))
        (λ d g.
        let t = g.target o there in
        got_weaker (recopied_each copy m i us d) (Grew m d) (Grew m c) (each_grew us m i d t.0 g.good t.1 (λ j v e. ap (λ ty. kind.word ty v) t.2.ty ∙ own (suc j) v e)) (λ e h. grew_then m c d e g h))

    -- ---- the words of a slot

    pub raw_grew : (n m i w : ℕ) (c : Content) (source target : Object) → AreGood kind limit c → at c.objects n ≡ Some source → at c.objects m ≡ Some target → source.ty ≡ target.ty → Grew m c (wrote m i 0 (words_at c n i 0 w) c)
    raw_grew n m i w c source target good at_n at_m alike =
        subst (Grew m c) (sym wrote_raw) (record {
          births = omega arith;
          same = λ k lt ne. at-set_other c.objects m k (with_words i 0 (words_at c n i 0 w) target) ne;
          target = λ x at_x. (
            with_words i 0 (words_at c n i 0 w) target,
            at-set_same c.objects m m (with_words i 0 (words_at c n i 0 w) target) refl,
            subst (IsLike (with_words i 0 (words_at c n i 0 w) target)) (same_Some target x (sym at_m ∙ at_x)) (words_like i 0 (words_at c n i 0 w) target),
          );
          good =
              let l = words_like i 0 (words_at c n i 0 w) target in
              good_with kind limit c m (with_words i 0 (words_at c n i 0 w) target) target good at_m l.ty l.width l.capacity
              (good_words kind c (words_at c n i 0 w) target i 0 (good.good m target at_m) naming);
        })
      where
        wrote_raw : wrote m i 0 (words_at c n i 0 w) c ≡ with_object m (with_words i 0 (words_at c n i 0 w) target) c
        wrote_raw = ap (λ (x : Option Object). wrote_if x m i 0 (words_at c n i 0 w) c) at_m

        naming : (t v k : ℕ) → slice_get (words_at c n i 0 w) t ≡ Some v → kind.word target.ty (0 + t) ≡ Owner → v ≡ suc k → IsNaming kind c target.ty (0 + t) k
        naming t v k here owner e =
            let z : 0 + t ≡ t = omega arith in
            let word : word_at source i t ≡ v =
            in_slot (slice_get source.slots i) t
            ∙ cut_index w (words_if (slice_get source.slots i)) t v (ap (λ (x : Option Object). slice_get (take w (words_if (slice_get (slots_if x) i))) t) (sym at_n) ∙ here) in
            let own : kind.word source.ty t ≡ Owner = (λ j. kind.word (alike j) (sym z j)) ∙ owner in
            subst (λ ty. IsNaming kind c ty (0 + t) k) alike (subst (λ x. IsNaming kind c source.ty x k) (sym z) ((good.good n source at_n).names i t k own (word ∙ e)))

    pub slots_grew : (owners : List ℕ) (w n m k i : ℕ) (c : Content) (source target : Object) → AreGood kind limit c → at c.objects n ≡ Some source → at c.objects m ≡ Some target → source.ty ≡ target.ty → (m ≡ n → ⊥)
        → ((j u : ℕ) → slice_get owners j ≡ Some u → kind.word source.ty u ≡ Owner) → IfGot (slots_copied copy owners w n m i k c) (Grew m c)
    slots_grew owners w n m zero i c source target good at_n at_m alike apart own = grew_self m c good
    slots_grew owners w n m (suc k) i c source target good at_n at_m alike apart own =
        let raw : Grew m c (wrote m i 0 (words_at c n i 0 w) c) = raw_grew n m i w c source target good at_n at_m alike in
        let t = raw.target target at_m in
        got_then (recopied_each copy m i owners (wrote m i 0 (words_at c n i 0 w) c)) (slots_copied copy owners w n m (i + 1) k) (Grew m (wrote m i 0 (words_at c n i 0 w) c)) (Grew m c)
        (each_grew owners m i (wrote m i 0 (words_at c n i 0 w) c) t.0 raw.good t.1 (λ j u e. ap (λ ty. kind.word ty u) (t.2.ty ∙ sym alike) ∙ own j u e))
        (λ d g.
        let both : Grew m c d = grew_then m c (wrote m i 0 (words_at c n i 0 w) c) d raw g in
        let x = both.target target at_m in
        got_weaker (slots_copied copy owners w n m (i + 1) k d) (Grew m d) (Grew m c)
        (slots_grew owners w n m k (i + 1) d source x.0 both.good (both.same n (good.born n source at_n) apart ∙ at_n) x.1 (alike ∙ sym x.2.ty) apart own) (λ e h. grew_then m c d e both h))

  -- ---- objects

  module _ (s : Setting) (cells : s.given.cells ≡ limit) (owners : TyId → List ℕ) (sound : (ty : TyId) (j u : ℕ) → slice_get (owners ty) j ≡ Some u → kind.word ty u ≡ Owner) where
    abbrev born_if : Bool → TyId → (w size : ℕ) → Content → Attempt (ℕ × Content)
    born_if full ty w size c = cond full (GotTrap trap.Cells) (Got (c.births, with_birth ty w size c))

    abbrev all_slots : (size : ℕ) → ℕ × Content → Attempt (ℕ × Content)
    all_slots size x = Got (x.0, resized_at x.0 size 0 x.1)

    pub sized_grew : (ty : TyId) (w size : ℕ) (c : Content) → AreGood kind limit c → kind.width ty ≡ w → IfGot (sized_birth s ty w size c) (Sized kind limit ty w size c)
    sized_grew ty w size c good wide =
        ⊎_elim
        (λ h. subst (λ b. IfGot (then_get (born_if b ty w size c) (all_slots size)) (Sized kind limit ty w size c)) (sym h.0) tt)
        (λ h. let l = h.1 in
        subst (λ b. IfGot (then_get (born_if b ty w size c) (all_slots size)) (Sized kind limit ty w size c)) (sym h.0) (sized_is kind limit ty w size c good wide (omega (arith, l, cells))))
        (leb_tells (suc s.given.cells) (live_words_of c + (2 + w * size)))

    pub object_grew : (depth n : ℕ) (c : Content) (o : Object) → ((k : ℕ) (e : Content) → AreGood kind limit e → IfGot (copied_number s owners depth k e) (Copied k e)) → AreGood kind limit c → at c.objects n ≡ Some o
        → IfGot (copied_object s (owners o.ty) (copied_number s owners depth) n o c) (Copied n c)
    object_grew depth n c o copies good there =
        got_then (sized_birth s o.ty o.width (length o.slots) c) (λ b. then_get (slots_copied (copied_number s owners depth) (owners o.ty) o.width n b.0 0 (length o.slots) b.1) (λ d. Got (b.0, d)))
        (Sized kind limit o.ty o.width (length o.slots) c) (Copied n c) (sized_grew o.ty o.width (length o.slots) c good (sym (good.good n o there).width))
        (λ b z.
        let lt = good.born n o there in
        got_then (slots_copied (copied_number s owners depth) (owners o.ty) o.width n b.0 0 (length o.slots) b.1) (λ d. Got (b.0, d)) (Grew b.0 b.1) (Copied n c)
        (slots_grew (copied_number s owners depth) copies (owners o.ty) o.width n b.0 (length o.slots) 0 b.1 o z.object z.good (z.same n lt ∙ there) z.there (sym z.type) (λ e. let x = z.number in absurd (omega (arith, x, e, lt))) (sound o.ty))
        (λ d g.
        let t = g.target z.object z.there in
        record {
          number = z.number;
          births = let x = z.number in let y = z.births in let w = g.births in omega (arith, x, y, w);
          same = λ k below. let x = z.number in let y = z.births in g.same k (omega (arith, y, below)) (λ e. absurd (omega (arith, x, e, below))) ∙ z.same k below;
          source = o;
          source_there = there;
          object = t.0;
          there = t.1;
          type = t.2.ty ∙ z.type;
          good = g.good;
        }))

    pub number_grew : (depth n : ℕ) (c : Content) → AreGood kind limit c → IfGot (copied_number s owners depth n c) (Copied n c)
    number_grew zero n c good = tt
    number_grew (suc depth) n c good = go (number_grew depth) (at c.objects n) refl
      where
        go : ((k : ℕ) (e : Content) → AreGood kind limit e → IfGot (copied_number s owners depth k e) (Copied k e)) → (x : Option Object) → at c.objects n ≡ x → IfGot (copied_if s owners (copied_number s owners depth) n x c) (Copied n c)
        go copies None e = tt
        go copies (Some o) e = object_grew depth n c o copies good e
