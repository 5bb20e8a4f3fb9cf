-- A local that is there and that a point doesn't see: what is ready where it is blank is ready where it is there, and leaves it so.
use Rattle.std.proofs.Common.{◌≡◌, ◌<◌, ℕ, zero, suc, true, ◌&&◌, List, [], ◌∷◌, ◌++◌, length, slice_set, inl, inr, refl, sym, ap, ◌∙◌, subst, arith}
use Rattle.std.proofs.lemmas.Bool.{and_from, and_parts, false≢true}
use Rattle.life_core.specs.Touched.{Touched}
use Rattle.life_proper.specs.Knowing.{agreed, agreed_all, known_at, same}
use Rattle.life_proper.specs.ReadyKnown.{are_known, are_ready, can_leave, is_known, known_after, set_known}
use Rattle.life_proper.specs.declared.known.Known.{Known}
use Rattle.life_proper.specs.declared.known.Known.TheVariants as known
use Rattle.life_proper.proofs.ReadyTests.{all_ready}
use Rattle.life_elab_laws.proofs.Among.{Among, Apart, among_left}
use Rattle.life_elab_laws.proofs.Knowledge.{at_set, beside_set}

-- ---- one local more is there

-- two of them, in either order
pub set_swap : (k : List Known) (x y : ℕ) (a b : Known) → (x ≡ y → ⊥) → slice_set (slice_set k x a) y b ≡ slice_set (slice_set k y b) x a
set_swap [] x y a b ne = refl
set_swap (c ∷ k) zero zero a b ne = absurd (ne refl)
set_swap (c ∷ k) zero (suc y) a b ne = refl
set_swap (c ∷ k) (suc x) zero a b ne = refl
set_swap (c ∷ k) (suc x) (suc y) a b ne = ap (λ (more : List Known). c ∷ more) (set_swap k x y a b (λ e. ne (ap suc e)))

-- where two ways meet
pub agreed_set : (k j : List Known) (x : ℕ) → agreed_all (slice_set k x known.Ready) (slice_set j x known.Ready) ≡ slice_set (agreed_all k j) x known.Ready
agreed_set [] j x = refl
agreed_set (a ∷ k) [] zero = refl
agreed_set (a ∷ k) [] (suc x) = refl
agreed_set (a ∷ k) (b ∷ j) zero = refl
agreed_set (a ∷ k) (b ∷ j) (suc x) = ap (λ (more : List Known). agreed a b ∷ more) (agreed_set k j x)

pub blank_agreed : (k j : List Known) (x : ℕ) → known_at k x ≡ known.Blank → known_at j x ≡ known.Blank → known_at (agreed_all k j) x ≡ known.Blank
blank_agreed [] j x one other = one
blank_agreed (a ∷ k) [] x one other = other
blank_agreed (a ∷ k) (b ∷ j) zero one other = ap (λ (c : Known). agreed c b) one ∙ ap (agreed known.Blank) other
blank_agreed (a ∷ k) (b ∷ j) (suc x) one other = blank_agreed k j x one other

clash : ◌≡◌ {A = Known} known.Blank known.Ready → ⊥
clash e = cc

is_ready : (b : Known) → same b known.Ready ≡ true → b ≡ known.Ready
is_ready known.Ready e = refl
is_ready known.Blank e = absurd (false≢true e)
is_ready known.Unknown e = absurd (false≢true e)

module _ (x : ℕ) where
  abbrev pub there : List Known → List Known
  there k = slice_set k x known.Ready

  -- ---- a point

  -- what is ready is another one
  other : (k : List Known) (y : ℕ) → known_at k x ≡ known.Blank → is_known known.Ready k y ≡ true → x ≡ y → ⊥
  other k y blank h e = clash (sym blank ∙ ap (known_at k) e ∙ is_ready (known_at k y) h)

  known_there : (a : Known) (k : List Known) (y : ℕ) → (x ≡ y → ⊥) → is_known a k y ≡ true → is_known a (there k) y ≡ true
  known_there a k y ne h = ap (λ (b : Known). same b a) (beside_set k x y known.Ready ne) ∙ h

  pub uses_there : (k : List Known) (ys : List ℕ) → known_at k x ≡ known.Blank → are_known known.Ready k ys ≡ true → are_known known.Ready (there k) ys ≡ true
  uses_there k [] blank h = refl
  uses_there k (y ∷ ys) blank h =
      let parts = and_parts (is_known known.Ready k y) (are_known known.Ready k ys) h in
      and_from (is_known known.Ready (there k) y) (are_known known.Ready (there k) ys) (known_there known.Ready k y (other k y blank parts.0) parts.0) (uses_there k ys blank parts.1)

  leaves_there : (k : List Known) (ys : List ℕ) → known_at k x ≡ known.Blank → can_leave k ys ≡ true
      → (can_leave (there k) ys ≡ true) × (set_known known.Blank ys (there k) ≡ there (set_known known.Blank ys k)) × (known_at (set_known known.Blank ys k) x ≡ known.Blank)
  leaves_there k [] blank h = (refl, refl, blank)
  leaves_there k (y ∷ ys) blank h =
      let parts = and_parts (is_known known.Ready k y) (can_leave (slice_set k y known.Blank) ys) h in
      let ne : x ≡ y → ⊥ = other k y blank parts.0 in
      let rest = leaves_there (slice_set k y known.Blank) ys (beside_set k y x known.Blank (λ e. ne (sym e)) ∙ blank) parts.1 in
      let swap = set_swap k x y known.Ready known.Blank ne in (
        and_from (is_known known.Ready (there k) y) (can_leave (slice_set (there k) y known.Blank) ys) (known_there known.Ready k y ne parts.0) (ap (λ (j : List Known). can_leave j ys) swap ∙ rest.0),
        ap (set_known known.Blank ys) swap ∙ rest.1,
        rest.2,
      )

  births_there : (k : List Known) (ys : List ℕ) → (Among x ys → ⊥) → are_known known.Blank k ys ≡ true → are_known known.Blank (there k) ys ≡ true
  births_there k [] none h = refl
  births_there k (y ∷ ys) none h =
      let parts = and_parts (is_known known.Blank k y) (are_known known.Blank k ys) h in
      and_from (is_known known.Blank (there k) y) (are_known known.Blank (there k) ys) (known_there known.Blank k y (λ e. none (inl (sym e))) parts.0) (births_there k ys (λ m. none (inr m)) parts.1)

  pub set_there : (a : Known) (k : List Known) (ys : List ℕ) → (Among x ys → ⊥) → (set_known a ys (there k) ≡ there (set_known a ys k)) × (known_at (set_known a ys k) x ≡ known_at k x)
  set_there a k [] none = (refl, refl)
  set_there a k (y ∷ ys) none =
      let ne : x ≡ y → ⊥ = λ e. none (inl (sym e)) in
      let rest = set_there a (slice_set k y a) ys (λ m. none (inr m)) in
      (ap (set_known a ys) (set_swap k x y known.Ready a ne) ∙ rest.0, rest.1 ∙ beside_set k y x a (λ e. ne (sym e)))

  pub point_there : (k : List Known) (t : Touched) → known_at k x ≡ known.Blank → are_ready k t ≡ true → (Among x (t.births ++ t.writes) → ⊥)
      → (are_ready (there k) t ≡ true) × (known_after t (there k) ≡ there (known_after t k)) × (known_at (known_after t k) x ≡ known.Blank)
  point_there k t blank ready none =
      let parts = and_parts (are_known known.Ready k t.uses) (can_leave k t.leaves && are_known known.Blank k t.births) ready in
      let others = and_parts (can_leave k t.leaves) (are_known known.Blank k t.births) parts.1 in
      let gone = leaves_there k t.leaves blank others.0 in
      let set = set_there known.Ready (set_known known.Blank t.leaves k) (t.births ++ t.writes) none in (
        all_ready (there k) t (uses_there k t.uses blank parts.0) gone.0 (births_there k t.births (λ m. none (among_left t.births t.writes x m)) others.1),
        ap (set_known known.Ready (t.births ++ t.writes)) gone.1 ∙ set.0,
        set.1 ∙ gone.2,
      )

-- ---- they leave

pub set_twice : (k : List Known) (x : ℕ) (a b : Known) → slice_set (slice_set k x a) x b ≡ slice_set k x b
set_twice [] x a b = refl
set_twice (c ∷ k) zero a b = refl
set_twice (c ∷ k) (suc x) a b = ap (λ (more : List Known). c ∷ more) (set_twice k x a b)

pub set_itself : (k : List Known) (x : ℕ) (a : Known) → known_at k x ≡ a → slice_set k x a ≡ k
set_itself [] x a e = refl
set_itself (c ∷ k) zero a e = ap (λ (b : Known). b ∷ k) (sym e)
set_itself (c ∷ k) (suc x) a e = ap (λ (more : List Known). c ∷ more) (set_itself k x a e)

unknown : ◌≡◌ {A = Known} known.Unknown known.Blank → ⊥
unknown e = cc

pub blank_within : (k : List Known) (x : ℕ) → known_at k x ≡ known.Blank → x < length k
blank_within [] x e = absurd (unknown e)
blank_within (c ∷ k) zero e = omega arith
blank_within (c ∷ k) (suc x) e = let lt = blank_within k x e in omega (arith, lt)

-- what is there beside them is there with them
pub used_there : (xs : List ℕ) → Apart xs → (k : List Known) → ((x : ℕ) → Among x xs → known_at k x ≡ known.Blank) → (ys : List ℕ) → are_known known.Ready k ys ≡ true → are_known known.Ready (set_known known.Ready xs k) ys ≡ true
used_there [] apart k blank ys h = h
used_there (x ∷ xs) apart k blank ys h =
    used_there xs apart.1 (slice_set k x known.Ready) (λ y m. beside_set k x y known.Ready (λ e. apart.0 (subst (λ (z : ℕ). Among z xs) (sym e) m)) ∙ blank y (inr m)) ys (uses_there x k ys (blank x (inl refl)) h)

-- they can leave, and then it is as if they had never been there
pub all_leave : (xs : List ℕ) → Apart xs → (k : List Known) → ((x : ℕ) → Among x xs → known_at k x ≡ known.Blank)
    → (can_leave (set_known known.Ready xs k) xs ≡ true) × (set_known known.Blank xs (set_known known.Ready xs k) ≡ k)
all_leave [] apart k blank = (refl, refl)
all_leave (x ∷ xs) apart k blank =
    let others : List Known = set_known known.Ready xs k in
    let set = set_there x known.Ready k xs apart.0 in
    let gone : known_at others x ≡ known.Blank = set.1 ∙ blank x (inl refl) in
    let back : slice_set (set_known known.Ready xs (slice_set k x known.Ready)) x known.Blank ≡ others =
    ap (λ (j : List Known). slice_set j x known.Blank) set.0 ∙ set_twice others x known.Ready known.Blank ∙ set_itself others x known.Blank gone in
    let rest = all_leave xs apart.1 k (λ y m. blank y (inr m)) in (
      and_from (is_known known.Ready (set_known known.Ready xs (slice_set k x known.Ready)) x) (can_leave (slice_set (set_known known.Ready xs (slice_set k x known.Ready)) x known.Blank) xs)
          (ap (λ (j : List Known). is_known known.Ready j x) set.0 ∙ ap (λ (b : Known). same b known.Ready) (at_set others x known.Ready (blank_within others x gone)))
          (ap (λ (j : List Known). can_leave j xs) back ∙ rest.0),
      ap (set_known known.Blank xs) back ∙ rest.1,
    )
