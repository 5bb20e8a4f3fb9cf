-- Where more may be open, the same is read, but for what goes too deep.
use Rattle.std.proofs.Common.{◌≡◌, ℕ, zero, suc, ◌<◌, ◌≤◌, nat_lt, Bool, true, false, cond, List, [], ◌∷◌, length, Result, Ok, Err, refl, arith}
use Rattle.std.proofs.lemmas.Bool.{lt-ltb}
use Rattle.life_expr.specs.Heads.{Kind, heads, is_of, quoted_kind}
use Rattle.life_expr.specs.Read.{Stop, refused, deep, ◌>>=◌, Reader, starts, opener, many_below, as_many, reads}
use Rattle.life_expr.specs.Readers.{Readers, begins_as, choose, chosen, derived}
use Rattle.life_parse.proofs.Looks.{Answer}
use Rattle.life_parse.proofs.LooksOn.{both, when, as_made}
use Rattle.life_tree.specs.Grammar.{Form, form_of, ◌then◌, ◌decides◌, ◌or◌, many, opens, rule}
use Rattle.life_tree.specs.Rules.{Rule}
use Rattle.life_tree.specs.Tree.{nothing, construct, ◌⨾◌, node, Tokens}
use Rattle.life_types.specs.declared.place.Place.{Place}

abbrev pub goes_too_deep : {A : Type 0} → Result A Stop → Bool
goes_too_deep (Ok x) = false
goes_too_deep (Err (refused ts)) = false
goes_too_deep (Err (deep ts)) = true

pub record Agrees {A : Type 0} (p q : Tokens → Answer A) : Type 0 where
  pub agrees : (ts : Tokens) → goes_too_deep (p ts) ≡ false → q ts ≡ p ts

pub Agrees-self : {A : Type 0} (p : Tokens → Answer A) → Agrees p p
Agrees-self p = record { agrees = λ ts h. refl }

-- q' goes on as q does from what p answered
follow : {A C : Type 0} (r r' : Result A Stop) (f f' : A → Result C Stop) → (goes_too_deep r ≡ false → r' ≡ r) → ((x : A) → goes_too_deep (f x) ≡ false → f' x ≡ f x) → goes_too_deep (r >>= f) ≡ false → (r' >>= f') ≡ (r >>= f)
follow (Ok x) r' f f' g h e = rw (g refl) (h x e)
follow (Err (refused us)) r' f f' g h e = rw (g refl) refl
follow (Err (deep us)) r' f f' g h e = absurd cc

pub Agrees-both : {A B C : Type 0} (p p' : Tokens → Answer A) (q q' : A → Tokens → Answer B) (f : A → B → C) → Agrees p p' → ((x : A) → Agrees (q x) (q' x)) → Agrees (both p q f) (both p' q' f)
Agrees-both p p' q q' f g h = record {
  agrees = λ ts e. follow (p ts) (p' ts) _ _ (g.agrees ts) (λ x. follow (q x.0 x.1) (q' x.0 x.1) _ _ ((h x.0).agrees x.1) (λ y k. refl)) e;
}

pub Agrees-made : {A B : Type 0} (f : A → B) (p p' : Tokens → Answer A) → Agrees p p' → Agrees (as_made f p) (as_made f p')
Agrees-made f p p' g = record { agrees = λ ts e. follow (p ts) (p' ts) _ _ (g.agrees ts) (λ x k. refl) e }

-- the same choice
pub chosen_agrees : {A : Type 0} (b : Bool) (p p' q q' : Answer A) → (goes_too_deep p ≡ false → p' ≡ p) → (goes_too_deep q ≡ false → q' ≡ q) → goes_too_deep (cond b p q) ≡ false → cond b p' q' ≡ cond b p q
chosen_agrees true p p' q q' g h e = g e
chosen_agrees false p p' q q' g h e = h e

pub Agrees-when : {A : Type 0} (kinds : List Kind) (p p' q q' : Tokens → Answer A) → Agrees p p' → Agrees q q' → Agrees (when kinds p q) (when kinds p' q')
Agrees-when kinds p p' q q' g h = record { agrees = λ ts e. chosen_agrees (starts kinds ts) (p ts) (p' ts) (q ts) (q' ts) (g.agrees ts) (h.agrees ts) e }

Agrees-many_below : (j : ℕ) (kinds : List Kind) (p p' : Reader) → Agrees p p' → Agrees (many_below j kinds p) (many_below j kinds p')
Agrees-many_below zero kinds p p' g = record { agrees = λ ts e. refl }
Agrees-many_below (suc j) kinds p p' g = Agrees-when kinds _ _ _ _ (Agrees-both p p' (λ x. many_below j kinds p) (λ x. many_below j kinds p') ◌⨾◌ g (λ x. Agrees-many_below j kinds p p' g)) (Agrees-self (λ ts. Ok (nothing, ts)))

Agrees-many : (kinds : List Kind) (p p' : Reader) → Agrees p p' → Agrees (as_many kinds p) (as_many kinds p')
unfolding as_many
Agrees-many kinds p p' g = record { agrees = λ ts e. (Agrees-many_below (suc (length ts)) kinds p p' g).agrees ts e }

opener_agrees : (n k m : ℕ) → n ≤ k → (ts : Tokens) → goes_too_deep (opener n m ts) ≡ false → opener k m ts ≡ opener n m ts
opener_agrees n k m le [] e = refl
opener_agrees n k m le (t ∷ ts) e = go (is_of (quoted_kind m) t) (nat_lt 0 n) refl e
  where
    some : (j : ℕ) → j ≤ k → nat_lt 0 j ≡ true → 0 < k
    some zero l h = absurd cc
    some (suc j) l h = omega arith

    go : (b c : Bool) → nat_lt 0 n ≡ c → goes_too_deep {A = Place × Tokens} (cond b (cond c (Ok (t.place, ts)) (Err (deep (t ∷ ts)))) (Err (refused (t ∷ ts)))) ≡ false
        → ◌≡◌ {A = Answer Place} (cond b (cond (nat_lt 0 k) (Ok (t.place, ts)) (Err (deep (t ∷ ts)))) (Err (refused (t ∷ ts)))) (cond b (cond c (Ok (t.place, ts)) (Err (deep (t ∷ ts)))) (Err (refused (t ∷ ts))))
    go true true has e = rw (lt-ltb 0 k (some n le has)) refl
    go true false has e = absurd cc
    go false c has e = refl

-- of each rule
abbrev pub AllAgree : Readers → Readers → Type 0
AllAgree readers readers' = (r : Rule) → Agrees (readers r) (readers' r)

pub reads_agree : (n k : ℕ) (inside inside' same same' : Readers) → n ≤ k → AllAgree inside inside' → AllAgree same same' → (f : Form) → Agrees (reads n inside same f) (reads k inside' same' f)
reads_agree n k inside inside' same same' le i s (f then g) =
    Agrees-both (reads n inside same f) (reads k inside' same' f) (λ x. reads n inside same g) (λ x. reads k inside' same' g) ◌⨾◌
    (reads_agree n k inside inside' same same' le i s f) (λ x. reads_agree n k inside inside' same same' le i s g)
reads_agree n k inside inside' same same' le i s (f decides g) =
    Agrees-both (reads n inside same f) (reads k inside' same' f) (λ x. reads n inside same (g x)) (λ x. reads k inside' same' (g x)) ◌⨾◌
    (reads_agree n k inside inside' same same' le i s f) (λ x. reads_agree n k inside inside' same same' le i s (g x))
reads_agree n k inside inside' same same' le i s (f or g) =
    Agrees-when (heads f) (reads n inside same f) (reads k inside' same' f) (reads n inside same g) (reads k inside' same' g)
    (reads_agree n k inside inside' same same' le i s f) (reads_agree n k inside inside' same same' le i s g)
reads_agree n k inside inside' same same' le i s (many f) =
    Agrees-many (heads f) (λ us. reads n inside same f us) (λ us. reads k inside' same' f us) (reads_agree n k inside inside' same same' le i s f)
reads_agree n k inside inside' same same' le i s (opens m f) =
    Agrees-both (opener n m) (opener k m) (λ x. reads 0 inside inside f) (λ x. reads 0 inside' inside' f) (construct m)
    (record { agrees = opener_agrees n k m le }) (λ x. reads_agree 0 0 inside inside' inside inside' (omega arith) i i f)
reads_agree n k inside inside' same same' le i s (rule r) = s r
reads_agree n k inside inside' same same' le i s _ = record { agrees = λ ts e. refl }

pub Agrees-derived : (n k : ℕ) (inside inside' same same' : Readers) → n ≤ k → AllAgree inside inside' → AllAgree same same' → (r : Rule) → Agrees (derived n inside same r) (derived k inside' same' r)
Agrees-derived n k inside inside' same same' le i s r =
    Agrees-made (node r) (reads n inside same (form_of r)) (reads k inside' same' (form_of r)) (reads_agree n k inside inside' same same' le i s (form_of r))

pub Agrees-chosen : (fronts : List (List Kind)) (n k : ℕ) (inside inside' same same' : Readers) → n ≤ k → AllAgree inside inside' → AllAgree same same' → (r : Rule) → Agrees (chosen fronts n inside same r) (chosen fronts k inside' same' r)
Agrees-chosen fronts n k inside inside' same same' le i s r = Agrees-made (node r) (choose fronts n inside same (form_of r)) (choose fronts k inside' same' (form_of r)) (choose_agrees (form_of r))
  where
    choose_agrees : (f : Form) → Agrees (choose fronts n inside same f) (choose fronts k inside' same' f)
    choose_agrees (f or g) = record {
      agrees = λ ts e.
          chosen_agrees (begins_as fronts ts) (reads n inside same f ts) (reads k inside' same' f ts) (reads n inside same g ts) (reads k inside' same' g ts)
          ((reads_agree n k inside inside' same same' le i s f).agrees ts) ((reads_agree n k inside inside' same same' le i s g).agrees ts) e;
    }
    choose_agrees f = reads_agree n k inside inside' same same' le i s f
