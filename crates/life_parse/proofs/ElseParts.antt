-- What stands behind an `if`: an `else` and a form X, or no `else` at all.
use Rattle.std.proofs.Common.{◌≡◌, ℕ, Bool, true, false, ◌||◌, [], ◌∷◌, Ok, Err, if◌then◌else◌, inl, inr, ◌⊎◌, refl, sym, subst, ◌∙◌}
use Rattle.life_parse.proofs.Binds.{bind_ok, bind_err, ok_is, ok_no_err}
use Rattle.life_parse.proofs.Closed.{joined, Stopped, Closed, stopped_second, stopped_as}
use Rattle.life_parse.proofs.ClosesReads.{Whole-quoted}
use Rattle.life_parse.proofs.ElseTokens.{else_key}
use Rattle.life_parse.proofs.Laws.{else_in_front}
use Rattle.life_parse.proofs.Wholes.{Whole, whole_pair, fits_left, whole_as}
use Rattle.life_expr.specs.Heads.{quoted_kind, is_of}
use Rattle.life_expr.specs.Read.{Stop, ◌>>=◌, Read, Reader, mark, pair, starts}
use Rattle.life_tree.specs.Grammar.{Form, no_else, quoted, ◌then◌, ◌or◌}
use Rattle.life_tree.specs.Tree.{Tree, without_else, token, ◌⨾◌, Tokens}
use Rattle.life_tree.specs.declared.fixed.TheConstants as fixed
use Rattle.life_tree.specs.declared.key.TokenKey.TheVariants as keys

-- an `else` stands in front
abbrev else_stands : Tokens → Bool
else_stands = starts (quoted_kind fixed.ELSE ∷ [])

or_false : (b : Bool) → b ≡ b || false
or_false true = refl
or_false false = refl

else_starts : (ts : Tokens) → else_in_front ts ≡ else_stands ts
else_starts [] = refl
else_starts (k ∷ ks) = else_key k.key ∙ or_false (is_of (quoted_kind fixed.ELSE) k)

-- .. then reading it doesn't fail
else_passes : (ts : Tokens) (s : Stop) → else_stands ts ≡ true → mark fixed.ELSE ts ≡ Err s → ⊥
else_passes [] s h e = cc
else_passes (k ∷ ks) s h e =
    let is : is_of (quoted_kind fixed.ELSE) k ≡ true = or_false (is_of (quoted_kind fixed.ELSE) k) ∙ h in
    let passes : mark fixed.ELSE (k ∷ ks) ≡ Ok (token (keys.Fixed fixed.ELSE) k.place, ks) = rw is refl in
    ok_no_err _ _ (sym passes ∙ e)

abbrev pub else_form : Form → Form
else_form X = (quoted fixed.ELSE then X) or no_else

pub Closed-else : (q : Reader) (X : Form) (n : ℕ) → Closed q X n → Closed (λ ts. if else_stands ts then pair (mark fixed.ELSE) (λ t. q) ts else Ok (without_else, ts)) (else_form X) n
Closed-else q X n c = record {
  missing = record { tree = without_else; fits = record { conforms = inr tt; elses = tt }; later = refl };
  reads = λ ts t rest e. reads (else_stands ts) ts t rest refl e;
  stops = λ ts s e. stops (else_stands ts) ts s refl e;
}
  where
    behind : (ts : Tokens) (t : Tree) (rest : Tokens) → pair (mark fixed.ELSE) (λ t. q) ts ≡ Ok (t, rest) → Whole (quoted fixed.ELSE then X) ts t rest
    behind ts t rest e =
        let a = bind_ok (mark fixed.ELSE ts) (λ x. q x.1 >>= λ y. Ok (x.0 ⨾ y.0, y.1)) (t, rest) e in
        let b = bind_ok (q a.0.1) (λ y. Ok (a.0.0 ⨾ y.0, y.1)) (t, rest) a.2 in
        subst (λ (y : Tree × Tokens). Whole (quoted fixed.ELSE then X) ts y.0 y.1) (ok_is (a.0.0 ⨾ b.0.0, b.0.1) (t, rest) b.2)
        (whole_pair (quoted fixed.ELSE) (λ t. X) (quoted fixed.ELSE then X) (λ x y u v. (u, v)) ts a.0.0 a.0.1 b.0.0 b.0.1 (Whole-quoted fixed.ELSE ts a.0.0 a.0.1 a.1) (c.reads a.0.1 b.0.0 b.0.1 b.1))

    reads : (b : Bool) (ts : Tokens) (t : Tree) (rest : Tokens) → else_stands ts ≡ b → (if b then pair (mark fixed.ELSE) (λ t. q) ts else Ok (without_else, ts)) ≡ Ok (t, rest) → Whole (else_form X) ts t rest
    reads true ts t rest is e = whole_as (quoted fixed.ELSE then X) (else_form X) (λ u. fits_left u (quoted fixed.ELSE then X) no_else) ts t rest (behind ts t rest e)
    reads false ts t rest is e =
        subst (λ (y : Tree × Tokens). Whole (else_form X) ts y.0 y.1) (ok_is (without_else, ts) (t, rest) e)
        (record { spelled = refl; fits = record { conforms = inr tt; elses = tt }; elses = λ front. let none = else_starts ts in absurd cc })

    second : (ts : Tokens) (x : Tree × Tokens) (s : Stop) → mark fixed.ELSE ts ≡ Ok x → (q x.1 ≡ Err s) ⊎ ((y : Tree × Tokens) × (q x.1 ≡ Ok y) × (◌≡◌ {A = Read} (Ok (x.0 ⨾ y.0, y.1)) (Err s))) → Stopped (quoted fixed.ELSE then X) n ts s
    second ts x s e (inl u) = stopped_second (quoted fixed.ELSE) (λ t. X) (quoted fixed.ELSE then X) n (λ x y u v. (u, v)) ts x.0 x.1 s (Whole-quoted fixed.ELSE ts x.0 x.1 e) (c.stops x.1 s u)
    second ts x s e (inr u) = absurd (ok_no_err _ _ u.2)

    first : (ts : Tokens) (s : Stop) → else_stands ts ≡ true → (mark fixed.ELSE ts ≡ Err s) ⊎ ((x : Tree × Tokens) × (mark fixed.ELSE ts ≡ Ok x) × (joined x.0 (q x.1) ≡ Err s)) → Stopped (quoted fixed.ELSE then X) n ts s
    first ts s is (inl e) = absurd (else_passes ts s is e)
    first ts s is (inr u) = second ts u.0 s u.1 (bind_err (q u.0.1) (λ y. Ok (u.0.0 ⨾ y.0, y.1)) s u.2)

    stops : (b : Bool) (ts : Tokens) (s : Stop) → else_stands ts ≡ b → (if b then pair (mark fixed.ELSE) (λ t. q) ts else Ok (without_else, ts)) ≡ Err s → Stopped (else_form X) n ts s
    stops true ts s is e =
        stopped_as (quoted fixed.ELSE then X) (else_form X) n (λ u. fits_left u (quoted fixed.ELSE then X) no_else) ts s
        (first ts s is (bind_err (mark fixed.ELSE ts) (λ x. q x.1 >>= λ y. Ok (x.0 ⨾ y.0, y.1)) s e))
    stops false ts s is e = absurd (ok_no_err _ _ e)
