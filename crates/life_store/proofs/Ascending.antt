-- Stamps that ascend: what stands at one position since a moment stands at all before it since then.
use Rattle.std.proofs.Common.{◌≡◌, ℕ, zero, suc, ◌+◌, ◌-◌, ◌≤◌, ◌<◌, List, [], ◌∷◌, ◌++◌, length, take, replicate, get_or, Some, Bool, true, false, refl, sym, ap, subst, ◌∙◌, arith, ⊎_elim}
use Rattle.std.proofs.lemmas.Bool.{false≢true}
use Rattle.std.proofs.lemmas.Bool.Decides.{leb_tells}
use Rattle.std.proofs.lemmas.List.{length-append, length-replicate, length-take}
use Rattle.std.proofs.lemmas.Option.{none-some, same_Some, slice_get-get_or}
use Rattle.std.specs.Prelude.{slice_get, nat_le, ◌&&◌}
use Rattle.life_store.specs.Content.{is_settled, are_settled}
use Rattle.life_store.specs.Layout.{object_in, Ascend, IsLaidOut}
use Rattle.life_store.specs.declared.plain_object.PlainObject.TheInside.{Inside}
use Rattle.life_store.proofs.LaidOut.{settled_end, settled_past, settled_slot}

-- ---- lists

-- the front of such a list, with a later end
pub ascend_front : (stamps : List ℕ) (end later n : ℕ) → end ≤ later → Ascend stamps end → Ascend (take n stamps) later
ascend_front stamps end later zero le h = tt
ascend_front [] end later (suc n) le h = tt
ascend_front (s ∷ []) end later (suc zero) le h = omega (arith, h, le)
ascend_front (s ∷ []) end later (suc (suc n)) le h = omega (arith, h, le)
ascend_front (s ∷ t ∷ stamps) end later (suc zero) le h = omega (arith, least (t ∷ stamps) s end h, le)
  where
    least : (rest : List ℕ) (s end : ℕ) → Ascend (s ∷ rest) end → s ≤ end
    least [] s end h = h
    least (t ∷ rest) s end h = omega (arith, h.0, least rest t end h.1)
ascend_front (s ∷ t ∷ stamps) end later (suc (suc n)) le h = (h.0, ascend_front (t ∷ stamps) end later (suc n) le h.1)

-- the end's stamp, so many times
ascend_same : (n moment : ℕ) → Ascend (replicate n moment) moment
ascend_same zero moment = tt
ascend_same (suc zero) moment = omega arith
ascend_same (suc (suc n)) moment = (omega arith, ascend_same (suc n) moment)

pub ascend_filled : (stamps : List ℕ) (n moment : ℕ) → Ascend stamps moment → Ascend (stamps ++ replicate n moment) moment
ascend_filled [] n moment h = ascend_same n moment
ascend_filled (s ∷ []) zero moment h = h
ascend_filled (s ∷ []) (suc n) moment h = (h, ascend_same (suc n) moment)
ascend_filled (s ∷ t ∷ stamps) n moment h = (h.0, ascend_filled (t ∷ stamps) n moment h.1)

-- the last stamp
pub ascend_last : (stamps : List ℕ) (end i x : ℕ) → Ascend stamps end → slice_get stamps i ≡ Some x → x ≤ end
ascend_last [] end i x h at = absurd (none-some x at)
ascend_last (s ∷ []) end zero x h at = subst (λ y. y ≤ end) (same_Some s x at) h
ascend_last (s ∷ []) end (suc i) x h at = absurd (none-some x at)
ascend_last (s ∷ t ∷ stamps) end zero x h at = let le = ascend_last (t ∷ stamps) end zero t h.1 refl in subst (λ y. y ≤ end) (same_Some s x at) (omega (arith, h.0, le))
ascend_last (s ∷ t ∷ stamps) end (suc i) x h at = ascend_last (t ∷ stamps) end i x h.1 at

-- one stamp and the next one
pub ascend_next : (stamps : List ℕ) (end i x y : ℕ) → Ascend stamps end → slice_get stamps i ≡ Some x → slice_get stamps (suc i) ≡ Some y → x ≤ y
ascend_next [] end i x y h at next = absurd (none-some x at)
ascend_next (s ∷ []) end zero x y h at next = absurd (none-some y next)
ascend_next (s ∷ []) (end) (suc i) x y h at next = absurd (none-some x at)
ascend_next (s ∷ t ∷ stamps) end zero x y h at next = omega (arith, h.0, same_Some s x at, same_Some t y next)
ascend_next (s ∷ t ∷ stamps) end (suc i) x y h at next = ascend_next (t ∷ stamps) end i x y h.1 at next

-- a list that is cut or filled up to so many has so many
pub filled_length : (n v : ℕ) (xs : List ℕ) → length (take n xs ++ replicate (n - length xs) v) ≡ n
filled_length n v xs = omega (arith, length-append (take n xs) (replicate (n - length xs) v), length-take n xs, length-replicate (n - length xs) v)

-- ---- positions

decided : (x moment : ℕ) → x ≤ moment → nat_le x moment ≡ true
decided x moment le = ⊎_elim (λ h. h.0) (λ h. absurd (omega (arith, le, h.1))) (leb_tells x moment)

told : (x moment : ℕ) → nat_le x moment ≡ true → x ≤ moment
told x moment e = ⊎_elim (λ h. h.1) (λ h. absurd (false≢true (sym h.0 ∙ e))) (leb_tells x moment)

both : (b r : Bool) → (r ≡ true → b ≡ true) → (b && r) ≡ r
both true r h = refl
both false true h = h refl
both false false h = refl

module _ (a : Inside) (ok : IsLaidOut a) (moment : ℕ) where
  -- what stands at a position since then stands at the one before it
  settled_before : (p q : ℕ) → q ≡ suc p → is_settled (object_in a) q moment ≡ true → is_settled (object_in a) p moment ≡ true
  settled_before p q is e =
      ⊎_elim
      (λ h.
      let at = slice_get-get_or a.stamps.items p 0 (omega (arith, h.1, is)) in
      let next = slice_get-get_or a.stamps.items q 0 (omega (arith, h.1)) in
      let le = told (get_or a.stamps.items q 0) moment (sym (settled_slot a q moment (get_or a.stamps.items q 0) next) ∙ e) in
      let behind = ascend_next a.stamps.items a.end p (get_or a.stamps.items p 0) (get_or a.stamps.items q 0) ok.ascend at (ap (slice_get a.stamps.items) (sym is) ∙ next) in
      settled_slot a p moment (get_or a.stamps.items p 0) at ∙ decided (get_or a.stamps.items p 0) moment (omega (arith, behind, le)))
      (λ h.
      ⊎_elim
      (λ t.
      let at = slice_get-get_or a.stamps.items p 0 (omega (arith, h.1, t.1, is)) in
      let le = told a.end moment (sym (settled_end a q moment (omega (arith, h.1, t.1))) ∙ e) in
      let behind = ascend_last a.stamps.items a.end p (get_or a.stamps.items p 0) ok.ascend at in
      settled_slot a p moment (get_or a.stamps.items p 0) at ∙ decided (get_or a.stamps.items p 0) moment (omega (arith, behind, le)))
      (λ t. absurd (false≢true (sym (settled_past a q moment t.1) ∙ e)))
      (leb_tells q (length a.stamps.items)))
      (leb_tells (suc q) (length a.stamps.items))

  -- .. and at all before it
  settled_all : (n p : ℕ) → is_settled (object_in a) (p + n) moment ≡ true → is_settled (object_in a) p moment ≡ true
  settled_all zero p e = let k : p ≡ p + 0 = omega arith in ap (λ i. is_settled (object_in a) i moment) k ∙ e
  settled_all (suc n) p e = let k : p + suc n ≡ suc (p + n) = omega arith in settled_all n p (settled_before (p + n) (p + suc n) k e)

  -- so the last of some positions tells of all
  settled_last : (n first : ℕ) → are_settled (object_in a) first (suc n) moment ≡ is_settled (object_in a) (first + n) moment
  settled_last zero first =
      let k : first ≡ first + 0 = omega arith in
      ap (λ i. is_settled (object_in a) i moment && true) k ∙ both_true (is_settled (object_in a) (first + 0) moment)
    where
      both_true : (b : Bool) → (b && true) ≡ b
      both_true true = refl
      both_true false = refl
  settled_last (suc n) first =
      let k : first + 1 + n ≡ first + suc n = omega arith in
      ap (λ r. is_settled (object_in a) first moment && r) (settled_last n (first + 1) ∙ ap (λ i. is_settled (object_in a) i moment) k)
      ∙ both (is_settled (object_in a) first moment) (is_settled (object_in a) (first + suc n) moment) (settled_all (suc n) first)

  -- .. by whatever name it goes
  last_tells : (first count last : ℕ) → 1 ≤ count → last + 1 ≡ first + count → are_settled (object_in a) first count moment ≡ is_settled (object_in a) last moment
  last_tells first zero last le e = absurd (omega (arith, le))
  last_tells first (suc n) last le e = let k : first + n ≡ last = omega (arith, e) in settled_last n first ∙ ap (λ i. is_settled (object_in a) i moment) k

  module _ (first count last : ℕ) (some : 1 ≤ count) (behind : last + 1 ≡ first + count) where
    -- the last one is the end
    pub end_tells : last ≡ length a.stamps.items → are_settled (object_in a) first count moment ≡ nat_le a.end moment
    end_tells at = last_tells first count last some behind ∙ settled_end a last moment at

    -- .. a slot's position
    pub slot_tells : (x : ℕ) → slice_get a.stamps.items last ≡ Some x → are_settled (object_in a) first count moment ≡ nat_le x moment
    slot_tells x at = last_tells first count last some behind ∙ settled_slot a last moment x at

    -- .. or none
    pub past_tells : length a.stamps.items < last → are_settled (object_in a) first count moment ≡ false
    past_tells past = last_tells first count last some behind ∙ settled_past a last moment past
