-- Where variables end: each is there, and none of them is known behind.
use Rattle.std.proofs.Common.{◌≡◌, ◌<◌, ◌⊎◌, inl, inr, ℕ, true, false, List, [], ◌∷◌, drop, length, reverse, slice_get, slice_set, Some, take, refl, sym, ◌∙◌, subst, arith, ◌≤◌, zero, suc}
use Rattle.std.proofs.lemmas.Bool.{and_from, cases_eq, cases_lt}
use Rattle.std.proofs.lemmas.Option.{slice_get_within}
use Rattle.life_core.specs.Function.{Function}
use Rattle.life_core.specs.declared.program.Local.{Local}
use Rattle.life_proper.specs.declared.known.Known.{Known}
use Rattle.life_proper.specs.declared.known.Known.TheVariants as known
use Rattle.life_proper.specs.Knowing.{known_at}
use Rattle.life_proper.specs.ReadyKnown.{can_leave, is_known, set_known}
use Rattle.life_elab_laws.proofs.Among.{Among, Apart, Ascend, among_drop, among_or, among_parts, among_reverse, among_take, apart_reverse, ascend_apart, ascend_drop, parts_apart, reverse_among}
use Rattle.life_elab_laws.proofs.Exits.{Knows}
use Rattle.life_elab_laws.proofs.Held.{ready_there}
use Rattle.life_elab_laws.proofs.Knowledge.{at_set, beside_set, set_length}
use Rattle.life_elab_laws.proofs.Shaped.{is_passing}

-- ---- what is known behind

abbrev pub set_blank : List ℕ → List Known → List Known
set_blank xs k = set_known known.Blank xs k

pub blank_length : (xs : List ℕ) (k : List Known) → length (set_blank xs k) ≡ length k
blank_length [] k = refl
blank_length (x ∷ xs) k = blank_length xs (slice_set k x known.Blank) ∙ set_length k x known.Blank

pub blank_beside : (xs : List ℕ) (k : List Known) (y : ℕ) → (Among y xs → ⊥) → known_at (set_blank xs k) y ≡ known_at k y
blank_beside [] k y h = refl
blank_beside (x ∷ xs) k y h = blank_beside xs (slice_set k x known.Blank) y (λ m. h (inr m)) ∙ beside_set k x y known.Blank (λ e. h (inl e))

blank_stays : (xs : List ℕ) (k : List Known) (y : ℕ) → y < length k → known_at k y ≡ known.Blank → known_at (set_blank xs k) y ≡ known.Blank
blank_stays [] k y lt e = e
blank_stays (x ∷ xs) k y lt e = blank_stays xs (slice_set k x known.Blank) y (omega (arith, lt, set_length k x known.Blank)) (go (cases_eq x y))
  where
    go : ((x ≡ y) ⊎ (x ≡ y → ⊥)) → known_at (slice_set k x known.Blank) y ≡ known.Blank
    go (inl same) = subst (λ (z : ℕ). known_at (slice_set k x known.Blank) z ≡ known.Blank) same (at_set k x known.Blank (omega (arith, lt, same)))
    go (inr other) = beside_set k x y known.Blank other ∙ e

pub blank_in : (xs : List ℕ) (k : List Known) (y : ℕ) → y < length k → Among y xs → known_at (set_blank xs k) y ≡ known.Blank
blank_in [] k y lt h = absurd h
blank_in (x ∷ xs) k y lt (inl e) =
    blank_stays xs (slice_set k x known.Blank) y (omega (arith, lt, set_length k x known.Blank))
    (subst (λ (z : ℕ). known_at (slice_set k x known.Blank) z ≡ known.Blank) e (at_set k x known.Blank (omega (arith, lt, e))))
blank_in (x ∷ xs) k y lt (inr h) = blank_in xs (slice_set k x known.Blank) y (omega (arith, lt, set_length k x known.Blank)) h

-- .. of two that know the same of it
same_blank : (xs : List ℕ) (k j : List Known) (y : ℕ) → length k ≡ length j → Among y xs → known_at k y ≡ known_at j y → known_at (set_blank xs k) y ≡ known_at (set_blank xs j) y
same_blank xs k j y size m e = elim (cases_lt y (length k)) [
  | inl lt ↦ blank_in xs k y lt m ∙ sym (blank_in xs j y (omega (arith, lt, size)) m)
  | inr le ↦ past (set_blank xs k) y (omega (arith, le, blank_length xs k)) ∙ sym (past (set_blank xs j) y (omega (arith, le, size, blank_length xs j)))
]
  where
    past : (k : List Known) (y : ℕ) → length k ≤ y → known_at k y ≡ known.Unknown
    past [] y le = refl
    past (a ∷ k) zero le = absurd (omega (arith, le))
    past (a ∷ k) (suc y) le = past k y (omega (arith, le))

-- .. also where another one comes before
pub blank_set : (xs : List ℕ) (k : List Known) (x y : ℕ) → x < length k → (Among x xs → ⊥) → known_at (set_blank xs (slice_set k x known.Ready)) y ≡ known_at (slice_set (set_blank xs k) x known.Ready) y
blank_set xs k x y lt none = elim (cases_eq x y) [
  | inl same ↦ subst (λ (z : ℕ). known_at (set_blank xs (slice_set k x known.Ready)) z ≡ known_at (slice_set (set_blank xs k) x known.Ready) z) same here
  | inr other ↦ go other (among_or y xs)
]
  where
    here : known_at (set_blank xs (slice_set k x known.Ready)) x ≡ known_at (slice_set (set_blank xs k) x known.Ready) x
    here = blank_beside xs (slice_set k x known.Ready) x none ∙ at_set k x known.Ready lt ∙ sym (at_set (set_blank xs k) x known.Ready (omega (arith, lt, blank_length xs k)))

    go : (x ≡ y → ⊥) → Among y xs ⊎ (Among y xs → ⊥) → known_at (set_blank xs (slice_set k x known.Ready)) y ≡ known_at (slice_set (set_blank xs k) x known.Ready) y
    go other (inr none_y) = blank_beside xs (slice_set k x known.Ready) y none_y ∙ beside_set k x y known.Ready other ∙ sym (beside_set (set_blank xs k) x y known.Ready other ∙ blank_beside xs k y none_y)
    go other (inl m) = sym (beside_set (set_blank xs k) x y known.Ready other ∙ same_blank xs k (slice_set k x known.Ready) y (sym (set_length k x known.Ready)) m (sym (beside_set k x y known.Ready other)))

-- ---- whether they can end

pub ends_there : (xs : List ℕ) (k : List Known) → Apart xs → ((y : ℕ) → Among y xs → known_at k y ≡ known.Ready) → can_leave k xs ≡ true
ends_there [] k a h = refl
ends_there (x ∷ xs) k a h =
    and_from (is_known known.Ready k x) (can_leave (slice_set k x known.Blank) xs) (ready_there k x (h x (inl refl)))
    (ends_there xs (slice_set k x known.Blank) a.1 (λ y m. beside_set k x y known.Blank (λ e. a.0 (subst (λ z. Among z xs) (sym e) m)) ∙ h y (inr m)))

-- those past the first so many end
module _ (f : Function) (living : List ℕ) (n low : ℕ) (ascend : Ascend low living) (k : List Known) (h : Knows f living k) where
  pub end_ready : can_leave k (reverse (drop n living)) ≡ true
  end_ready =
      ends_there (reverse (drop n living)) k (apart_reverse (drop n living) (ascend_apart low (drop n living) (ascend_drop n low living ascend)))
      (λ y m. h.alive y (among_drop n living y (reverse_among (drop n living) y m)))

  pub end_knows : Knows f (take n living) (set_blank (reverse (drop n living)) k)
  end_knows = record {
    sized = blank_length (reverse (drop n living)) k ∙ h.sized;
    alive = λ y m.
        blank_beside (reverse (drop n living)) k y (λ g. parts_apart n low living y ascend m (reverse_among (drop n living) y g))
        ∙ h.alive y (among_take n living y m);
    blank = dead;
  }
    where
      dead : (y : ℕ) (l : Local) → slice_get f.locals y ≡ Some l → is_passing l ≡ false → (Among y (take n living) → ⊥) → known_at (set_blank (reverse (drop n living)) k) y ≡ known.Blank
      dead y l there lasts m = go (among_or y (drop n living))
        where
          lt : y < length k
          lt = omega (arith, h.sized, slice_get_within f.locals y l there)

          go : Among y (drop n living) ⊎ (Among y (drop n living) → ⊥) → known_at (set_blank (reverse (drop n living)) k) y ≡ known.Blank
          go (inl d) = blank_in (reverse (drop n living)) k y lt (among_reverse (drop n living) y d)
          go (inr d) =
              blank_beside (reverse (drop n living)) k y (λ g. d (reverse_among (drop n living) y g))
              ∙ h.blank y l there lasts (λ g. elim (among_parts n living y g) [ inl a ↦ m a | inr b ↦ d b ])
