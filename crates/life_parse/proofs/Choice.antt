-- A choice by some tokens is the same for other tokens that go on alike, where all but the last that it looks at were taken.
use Rattle.std.proofs.Common.{◌≡◌, suc, ◌<◌, ◌≤◌, Bool, true, false, cond, ◌&&◌, List, [], ◌∷◌, ◌++◌, length, Ok, refl, sym, ap, ◌∙◌, arith}
use Rattle.std.proofs.lemmas.List.{length-append}
use Rattle.life_expr.specs.Heads.{Kind, is_of, quoted_kind, name_kind}
use Rattle.life_expr.specs.Read.{Reader}
use Rattle.life_expr.specs.Readers.{begins, begins_as, std_front, declaration_fronts, print_fronts, end_of_line_fronts}
use Rattle.life_parse.specs.Source.{SameFront}
use Rattle.life_parse.proofs.Looks.{rest_of, LooksAt, Looks, Law, same_behind}
use Rattle.life_parse.proofs.Passes.{Takes, Passes, PassesScope, takes_name, takes_std, takes_scope, takes_string}
use Rattle.life_tree.specs.Tree.{Tree, Tokens}
use Rattle.life_tree.specs.declared.fixed.TheConstants as fixed
use Rattle.life_tree.specs.declared.token.TreeToken.{TreeToken}

abbrev IsNotFirst : Kind → Tokens → Type 0
IsNotFirst x [] = Unit {0}
IsNotFirst x (k ∷ ks) = is_of x k ≡ false

-- the test of these kinds looks no further than the first token of `rest`
abbrev pub Enough : List Kind → Tokens → Tokens → Type 0
Enough [] pre rest = Unit {0}
Enough (x ∷ []) pre rest = Unit {0}
Enough (x ∷ y ∷ ys) [] rest = IsNotFirst x rest
Enough (x ∷ y ∷ ys) (k ∷ pre) rest = is_of x k ≡ true → Enough (y ∷ ys) pre rest

first_same : (x : Kind) (ts us : Tokens) → SameFront ts us → begins (x ∷ []) us ≡ begins (x ∷ []) ts
first_same x [] [] s = refl
first_same x [] (l ∷ ls) s = absurd s
first_same x (k ∷ ks) [] s = absurd s
first_same x (k ∷ ks) (l ∷ ls) s = ap (λ (t : TreeToken). is_of x t && true) (sym s)

fails_same : (x y : Kind) (ys : List Kind) (ts us : Tokens) → SameFront ts us → IsNotFirst x ts → begins (x ∷ y ∷ ys) us ≡ begins (x ∷ y ∷ ys) ts
fails_same x y ys [] [] s h = refl
fails_same x y ys [] (l ∷ ls) s h = absurd s
fails_same x y ys (k ∷ ks) [] s h = absurd s
fails_same x y ys (k ∷ ks) (l ∷ ls) s h = let e : is_of x l ≡ false = ap (is_of x) (sym s) ∙ h in rw (h, e) refl

both_same : (a b c : Bool) → (a ≡ true → b ≡ c) → a && b ≡ a && c
both_same true b c h = h refl
both_same false b c h = refl

begins_same : (xs : List Kind) (pre rest other : Tokens) → SameFront rest other → Enough xs pre rest → begins xs (pre ++ other) ≡ begins xs (pre ++ rest)
begins_same [] pre rest other s h = refl
begins_same (x ∷ []) pre rest other s h = first_same x (pre ++ rest) (pre ++ other) (same_behind pre rest other s)
begins_same (x ∷ y ∷ ys) [] rest other s h = fails_same x y ys rest other s h
begins_same (x ∷ y ∷ ys) (k ∷ pre) rest other s h = both_same (is_of x k) _ _ (λ e. begins_same (y ∷ ys) pre rest other s (h e))

abbrev pub AllEnough : List (List Kind) → Tokens → Tokens → Type 0
AllEnough [] pre rest = Unit {0}
AllEnough (f ∷ fs) pre rest = Enough f pre rest × AllEnough fs pre rest

begins_as_same : (fronts : List (List Kind)) (pre rest other : Tokens) → SameFront rest other → AllEnough fronts pre rest → begins_as fronts (pre ++ other) ≡ begins_as fronts (pre ++ rest)
begins_as_same [] pre rest other s h = refl
begins_as_same (f ∷ fs) pre rest other s h = rw (begins_same f pre rest other s h.0, begins_as_same fs pre rest other s h.1) refl

-- ---- the choice

-- where p stops, it has taken enough
abbrev pub Ready : List (List Kind) → Reader → Type 0
Ready fronts p = (ts pre : Tokens) → ts ≡ pre ++ rest_of (p ts) → AllEnough fronts pre (rest_of (p ts))

abbrev pub selected : List (List Kind) → Reader → Reader → Reader
selected fronts p q ts = cond (begins_as fronts ts) (p ts) (q ts)

Looks-selected : (fronts : List (List Kind)) (p q : Reader) → Looks p → Looks q → Ready fronts p → Ready fronts q → Looks (selected fronts p q)
Looks-selected fronts p q g h u v = record { looks = λ ts. go ts (begins_as fronts ts) refl }
  where
    again : (ts pre rest other : Tokens) → ts ≡ pre ++ rest → SameFront rest other → AllEnough fronts pre rest → begins_as fronts (pre ++ other) ≡ begins_as fronts ts
    again ts pre rest other e s k = begins_as_same fronts pre rest other s k ∙ ap (begins_as fronts) (sym e)

    go : (ts : Tokens) (b : Bool) → begins_as fronts ts ≡ b → LooksAt (selected fronts p q) ts (cond b (p ts) (q ts))
    go ts true is = let l = g.looks ts in (l.0, l.1, λ other s. rw (again ts l.0 (rest_of (p ts)) other l.1 s (u ts l.0 l.1) ∙ is) (l.2 other s))
    go ts false is = let l = h.looks ts in (l.0, l.1, λ other s. rw (again ts l.0 (rest_of (q ts)) other l.1 s (v ts l.0 l.1) ∙ is) (l.2 other s))

pub Law-selected : (fronts : List (List Kind)) (p q : Reader) → Law false p → Law false q → Ready fronts p → Ready fronts q → Law false (selected fronts p q)
Law-selected fronts p q g h u v = record {
  looks = Looks-selected fronts p q g.looks h.looks u v;
  shrinks = λ k. record { shrinks = λ ts x rest e. go ts x rest (begins_as fronts ts) e };
}
  where
    go : (ts : Tokens) (x : Tree) (rest : Tokens) → (c : Bool) → cond c (p ts) (q ts) ≡ Ok (x, rest) → length rest < length ts
    go ts x rest true e = (g.shrinks refl).shrinks ts x rest e
    go ts x rest false e = (h.shrinks refl).shrinks ts x rest e

-- ---- enough was taken, where the beginnings of a list of kinds are

abbrev Long : List Kind → Tokens → Tokens → Type 0
Long u pre rest = begins u (pre ++ rest) ≡ true → length u ≤ length pre

pub long : (u : List Kind) (p : Reader) → Takes u p → (ts pre : Tokens) → ts ≡ pre ++ rest_of (p ts) → Long u pre (rest_of (p ts))
long u p t ts pre e h = let l = t.takes ts (ap (begins u) e ∙ h) in omega (arith, ap length e, length-append pre (rest_of (p ts)))

not_first : (x : Kind) (rest : Tokens) → Long (x ∷ []) [] rest → IsNotFirst x rest
not_first x [] h = tt
not_first x (k ∷ ks) h = go (is_of x k) refl
  where
    go : (b : Bool) → is_of x k ≡ b → b ≡ false
    go false is = refl
    go true is = absurd (omega (arith, h (rw is refl)))

shift : (x : Kind) (u : List Kind) (k : TreeToken) (pre rest : Tokens) → is_of x k ≡ true → Long (x ∷ u) (k ∷ pre) rest → Long u pre rest
shift x u k pre rest e l h = let m : suc (length u) ≤ suc (length pre) = l (rw (e, h) refl) in omega arith

pub enough2 : (x y : Kind) (pre rest : Tokens) → Long (x ∷ []) pre rest → Enough (x ∷ y ∷ []) pre rest
enough2 x y [] rest l = not_first x rest l
enough2 x y (k ∷ pre) rest l = λ e. tt

pub enough3 : (x y z : Kind) (pre rest : Tokens) → Long (x ∷ []) pre rest → Long (x ∷ y ∷ []) pre rest → Enough (x ∷ y ∷ z ∷ []) pre rest
enough3 x y z [] rest l m = not_first x rest l
enough3 x y z (k ∷ pre) rest l m = λ e. enough2 y z pre rest (shift x (y ∷ []) k pre rest e m)

pub enough4 : (x y z w : Kind) (pre rest : Tokens) → Long (x ∷ []) pre rest → Long (x ∷ y ∷ []) pre rest → Long (x ∷ y ∷ z ∷ []) pre rest → Enough (x ∷ y ∷ z ∷ w ∷ []) pre rest
enough4 x y z w [] rest l m o = not_first x rest l
enough4 x y z w (k ∷ pre) rest l m o = λ e. enough3 y z w pre rest (shift x (y ∷ []) k pre rest e m) (shift x (y ∷ z ∷ []) k pre rest e o)

pub word_enough : (p : Reader) → PassesScope p → (z : Kind) (ts pre : Tokens) → ts ≡ pre ++ rest_of (p ts) → Enough (std_front (z ∷ [])) pre (rest_of (p ts))
word_enough p g z ts pre e =
    enough3 (quoted_kind fixed.STD) (quoted_kind fixed.SCOPE) z pre (rest_of (p ts))
    (long (quoted_kind fixed.STD ∷ []) p (takes_std p g) ts pre e)
    (long (quoted_kind fixed.STD ∷ quoted_kind fixed.SCOPE ∷ []) p (takes_scope p g) ts pre e)

string_enough : (p : Reader) → Passes p → (w : Kind) (ts pre : Tokens) → ts ≡ pre ++ rest_of (p ts) → Enough (std_front (quoted_kind fixed.STRING ∷ w ∷ [])) pre (rest_of (p ts))
string_enough p g w ts pre e =
    enough4 (quoted_kind fixed.STD) (quoted_kind fixed.SCOPE) (quoted_kind fixed.STRING) w pre (rest_of (p ts))
    (long (quoted_kind fixed.STD ∷ []) p (takes_std p g.scoped) ts pre e)
    (long (quoted_kind fixed.STD ∷ quoted_kind fixed.SCOPE ∷ []) p (takes_scope p g.scoped) ts pre e)
    (long (quoted_kind fixed.STD ∷ quoted_kind fixed.SCOPE ∷ quoted_kind fixed.STRING ∷ []) p (takes_string p g) ts pre e)

name_enough : (p : Reader) → Passes p → (y : Kind) (ts pre : Tokens) → ts ≡ pre ++ rest_of (p ts) → Enough (name_kind ∷ y ∷ []) pre (rest_of (p ts))
name_enough p g y ts pre e = enough2 name_kind y pre (rest_of (p ts)) (long (name_kind ∷ []) p (takes_name p g) ts pre e)

pub Ready-print : (p : Reader) → PassesScope p → Ready print_fronts p
Ready-print p g ts pre e = (word_enough p g (quoted_kind fixed.COUT) ts pre e, tt)

pub Ready-end_of_line : (p : Reader) → PassesScope p → Ready end_of_line_fronts p
Ready-end_of_line p g ts pre e = (word_enough p g (quoted_kind fixed.ENDL) ts pre e, tt)

pub Ready-declaration : (p : Reader) → Passes p → Ready declaration_fronts p
Ready-declaration p g ts pre e = (
  tt,
  (
    tt,
    (
      tt,
      (
        tt,
        (
          tt,
          (
            tt,
            (
              tt,
              (
                name_enough p g (quoted_kind fixed.STAR) ts pre e,
                (
                  name_enough p g (quoted_kind fixed.AMPERSAND) ts pre e,
                  (
                    name_enough p g name_kind ts pre e,
                    (
                      word_enough p g.scoped (quoted_kind fixed.SIZE_T) ts pre e,
                      (
                        word_enough p g.scoped (quoted_kind fixed.STRING_VIEW) ts pre e,
                        (
                          word_enough p g.scoped (quoted_kind fixed.VECTOR) ts pre e,
                          (
                            word_enough p g.scoped (quoted_kind fixed.UNIQUE_PTR) ts pre e,
                            (string_enough p g (quoted_kind fixed.STAR) ts pre e, (string_enough p g (quoted_kind fixed.AMPERSAND) ts pre e, (string_enough p g name_kind ts pre e, tt))),
                          ),
                        ),
                      ),
                    ),
                  ),
                ),
              ),
            ),
          ),
        ),
      ),
    ),
  ),
)
