-- An instruction with a hole: what it uses is there, and behind it so is what is in the hole.
use Rattle.std.proofs.Common.{◌≡◌, ℕ, true, List, [], ◌∷◌, ◌++◌, append_assoc, refl, sym, ap, ◌∙◌, subst}
use Rattle.std.proofs.lemmas.Bool.{and_from}
use Rattle.life_core.specs.Function.{Function}
use Rattle.life_core.specs.Kinds.{is_register_at}
use Rattle.life_core.specs.Operands.{Location, Null, Operand, Place as Aimed, Text, whole}
use Rattle.life_core.specs.Step.{Aim, Step}
use Rattle.life_core.specs.Touched.{Touched, nothing, place_uses, touched_by}
use Rattle.life_proper.specs.Knowing.{known_at}
use Rattle.life_proper.specs.ReadyKnown.{are_known, are_ready, is_known, known_after}
use Rattle.life_proper.specs.declared.known.Known.{Known}
use Rattle.life_proper.specs.declared.known.Known.TheVariants as known
use Rattle.life_proper.proofs.ReadyTests.{uses_ready, both_known}
use Rattle.life_elab_laws.proofs.Among.{among_left}
use Rattle.life_elab_laws.proofs.Falling.{Fills}
use Rattle.life_elab_laws.proofs.Held.{one_there, ready_there}
use Rattle.life_elab_laws.proofs.LookedLocals.{place_used}
use Rattle.life_elab_laws.proofs.Making.{AreHeld, IsFilling, IsPlace}

pub all_there : (xs : List ℕ) (n : ℕ) (k : List Known) → AreHeld xs n k → are_known known.Ready k xs ≡ true
all_there [] n k h = refl
all_there (x ∷ xs) n k h = and_from (is_known known.Ready k x) (are_known known.Ready k xs) (ready_there k x h.0.1) (all_there xs n k h.1)

-- what only uses
pub only_uses : {xs ys : List ℕ} → xs ≡ ys → record nothing { uses = xs } ≡ record nothing { uses = ys }
only_uses e = ap (λ (zs : List ℕ). record nothing { uses = zs }) e

module _ (f : Function) where
  pub filling_fills : (step : Location → Step) (n : ℕ) (k : List Known) → IsFilling f step n k → (x : ℕ) → is_register_at f x ≡ true → Fills f k (step (whole x)) x
  filling_fills step n k h x e = record {
    ready = ap (are_ready k) (h.touches x e) ∙ uses_ready k h.uses (x ∷ []) (all_there h.uses n k h.held);
    after = ap (λ (t : Touched). known_after t k) (h.touches x e);
  }

  -- .. where a member is in the hole, all that is known stays
  module _ (step : Location → Step) (n : ℕ) (k : List Known) (h : IsFilling f step n k) (x m : ℕ) (ms : List ℕ) where
    pub filling_ready : known_at k x ≡ known.Ready → are_ready k (touched_by f (step (record { local = x; members = m ∷ ms }))) ≡ true
    filling_ready there = ap (are_ready k) (h.parts x m ms) ∙ uses_ready k (h.uses ++ x ∷ []) [] (both_known known.Ready k h.uses (x ∷ []) (all_there h.uses n k h.held) (one_there k x there))

    pub filling_leaves : known_after (touched_by f (step (record { local = x; members = m ∷ ms }))) k ≡ k
    filling_leaves = ap (λ (t : Touched). known_after t k) (h.parts x m ms)

  -- it is aimed at a place that is there, at nothing, or at a literal
  pub aimed_filling : (o : Operand) (n : ℕ) (k : List Known) → IsPlace o n k → IsFilling f (λ p. Aim p (Aimed o)) n k
  aimed_filling o n k h = record {
    uses = place_uses o ++ [];
    held = subst (λ (xs : List ℕ). AreHeld (xs ++ []) n k) (sym h.uses) ((h.below, h.held), tt);
    touches = λ x e. refl;
    parts = λ x m ms. only_uses (sym (append_assoc (place_uses o) [] (x ∷ [])));
    looks = λ l x m. among_left (place_uses o) [] x (place_used f o x m);
  }

  pub null_filling : (n : ℕ) (k : List Known) → IsFilling f (λ p. Aim p Null) n k
  null_filling n k = record { uses = []; held = tt; touches = λ x e. refl; parts = λ x m ms. refl; looks = λ l x m. m }

  pub text_filling : (m n : ℕ) (k : List Known) → IsFilling f (λ p. Aim p (Text m)) n k
  text_filling m n k = record { uses = []; held = tt; touches = λ x e. refl; parts = λ x m ms. refl; looks = λ l x m. m }
