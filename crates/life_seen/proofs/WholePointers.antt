-- A pointer's words lie one behind the other in each value that has one.
use Rattle.std.proofs.Common.{◌≡◌, ℕ, zero, suc, ◌+◌, ◌≤◌, ◌<◌, refl, sym, ap, ◌∙◌, arith}
use Rattle.life_store.specs.Parts.{Parts, Single, Raw, Iterates, Views, Text, Vector, Unique, Member, NoMember, width}
use Rattle.life_store.specs.Kinds.{Plain, Owner, Pointing, row_behind, first_owns, kind_in}

module _ {A : Type 0} where
  pub row_front : (n : ℕ) (f g : ℕ → A) (u : ℕ) → u < n → row_behind n f g u ≡ f u
  row_front zero f g u lt = absurd (omega arith)
  row_front (suc n) f g zero lt = refl
  row_front (suc n) f g (suc u) lt = row_front n (λ v. f (suc v)) g u (omega arith)

  pub row_back : (n : ℕ) (f g : ℕ → A) (u : ℕ) → row_behind n f g (n + u) ≡ g u
  row_back zero f g u = ap g (omega arith)
  row_back (suc n) f g u = let e : suc n + u ≡ suc (n + u) = omega arith in ap (row_behind (suc n) f g) e ∙ row_back n (λ v. f (suc v)) g u

  pub row_cases : {C : Type 0} (n : ℕ) (f g : ℕ → A) (u : ℕ) → (u < n → row_behind n f g u ≡ f u → C) → ((v : ℕ) → u ≡ n + v → row_behind n f g u ≡ g v → C) → C
  row_cases zero f g u front back = back u (omega arith) refl
  row_cases (suc n) f g zero front back = front (omega arith) refl
  row_cases (suc n) f g (suc u) front back = row_cases n (λ v. f (suc v)) g u (λ lt e. front (omega arith) e) (λ v s e. back v (omega arith) e)

pointing_same : (i j : ℕ) → Pointing i ≡ Pointing j → i ≡ j
pointing_same i j e = cc

plain_pointing : (i : ℕ) → Plain ≡ Pointing i → ⊥
plain_pointing i e = cc

owner_pointing : (i : ℕ) → Owner ≡ Pointing i → ⊥
owner_pointing i e = cc

no_pointer : (u i : ℕ) → first_owns u ≡ Pointing i → ⊥
no_pointer zero i e = owner_pointing i e
no_pointer (suc u) i e = plain_pointing i e

-- one that begins within a value ends within it
pub stays_within : (p : Parts) (u : ℕ) → u < width p → kind_in p u ≡ Pointing 0 → u + 4 < width p
stays_within Single u lt e = absurd (plain_pointing 0 e)
stays_within Raw u lt e = let z = pointing_same u 0 e in omega arith
stays_within Iterates u lt e = let z = pointing_same u 0 e in omega arith
stays_within Views u lt e = let z = pointing_same u 0 e in omega arith
stays_within (Text ty) u lt e = absurd (no_pointer u 0 e)
stays_within (Vector ty element) u lt e = absurd (no_pointer u 0 e)
stays_within (Unique ty target) u lt e = absurd (no_pointer u 0 e)
stays_within (Member first others) u lt e =
    row_cases (width first) (kind_in first) (kind_in others) u
    (λ l s. let h = stays_within first u l (sym s ∙ e) in omega arith)
    (λ v s t. let h = stays_within others v (omega arith) (sym t ∙ e) in omega arith)
stays_within NoMember u lt e = absurd (plain_pointing 0 e)

pub whole_pointers : (p : Parts) (u k : ℕ) → k ≤ 4 → kind_in p u ≡ Pointing 0 → kind_in p (u + k) ≡ Pointing k
whole_pointers Single u k le e = absurd (plain_pointing 0 e)
whole_pointers Raw u k le e = let z = pointing_same u 0 e in let s : u + k ≡ k = omega arith in ap Pointing s
whole_pointers Iterates u k le e = let z = pointing_same u 0 e in let s : u + k ≡ k = omega arith in ap Pointing s
whole_pointers Views u k le e = let z = pointing_same u 0 e in let s : u + k ≡ k = omega arith in ap Pointing s
whole_pointers (Text ty) u k le e = absurd (no_pointer u 0 e)
whole_pointers (Vector ty element) u k le e = absurd (no_pointer u 0 e)
whole_pointers (Unique ty target) u k le e = absurd (no_pointer u 0 e)
whole_pointers (Member first others) u k le e =
    row_cases (width first) (kind_in first) (kind_in others) u
    (λ l s. let h = stays_within first u l (sym s ∙ e) in
    row_front (width first) (kind_in first) (kind_in others) (u + k) (omega arith) ∙ whole_pointers first u k le (sym s ∙ e))
    (λ v s t. let j : u + k ≡ width first + (v + k) = omega arith in
    ap (row_behind (width first) (kind_in first) (kind_in others)) j ∙ row_back (width first) (kind_in first) (kind_in others) (v + k) ∙ whole_pointers others v k le (sym t ∙ e))
whole_pointers NoMember u k le e = absurd (plain_pointing 0 e)
