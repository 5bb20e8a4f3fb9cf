-- The scan finds the longest token.
use Rattle.std.proofs.Common.{◌≡◌, ℕ, zero, suc, ◌+◌, ◌<◌, ◌≤◌, Bool, true, false, cond, ltb, eqb, ◌&&◌, ◌||◌, List, [], ◌∷◌, length, take, Option, Some, None, refl, sym, subst, ◌∙◌, arith}
use Rattle.std.proofs.lemmas.Bool.{eqb-true}
use Rattle.std.proofs.lemmas.List.Sums.{prefix_len-le-length}
use Rattle.std.specs.Char.{is_ascii_digit}
use Rattle.std.specs.List.{list_all, prefix_len}
use Rattle.life_lex.specs.Bytes.{is_nondigit, is_word_byte, is_empty}
use Rattle.life_lex.specs.Lengths.{plus}
use Rattle.life_lex.specs.Literals.{is_escape, is_unit, is_character_rest, is_string_rest}
use Rattle.life_lex.specs.Marks.{is_short_mark, is_long_mark, is_mark_rest}
use Rattle.life_lex.specs.Scan.{starts_byte, quote_scan, escape_scan, character_scan, string_scan, mark_scan, token_rest_scan, token_scan}
use Rattle.life_lex.specs.Tokens.{is_token_rest, is_token, IsLongest}

all_true : (p : ℕ → Bool) (bs : List ℕ) (m : ℕ) → m ≤ prefix_len p bs → list_all p (take m bs) ≡ true
all_true p bs zero h = refl
all_true p [] (suc m) h = refl
all_true p (b ∷ bs) (suc m) h = go (all_true p bs m) (p b) refl h
  where
    go : (m ≤ prefix_len p bs → list_all p (take m bs) ≡ true) → (c : Bool) → p b ≡ c → suc m ≤ cond c (1 + prefix_len p bs) 0 → (p b && list_all p (take m bs)) ≡ true
    go ih true is h = rw (is, ih (omega arith)) refl
    go ih false is h = absurd (omega arith)

all_false : (p : ℕ → Bool) (bs : List ℕ) (m : ℕ) → prefix_len p bs < m → m ≤ length bs → list_all p (take m bs) ≡ false
all_false p bs zero h k = absurd (omega arith)
all_false p [] (suc m) h k = absurd (omega arith)
all_false p (b ∷ bs) (suc m) h k = go (all_false p bs m) (p b) refl h
  where
    go : (prefix_len p bs < m → m ≤ length bs → list_all p (take m bs) ≡ false) → (c : Bool) → p b ≡ c → cond c (1 + prefix_len p bs) 0 < suc m → (p b && list_all p (take m bs)) ≡ false
    go ih true is h = rw (is, ih (omega arith) (omega arith)) refl
    go ih false is h = rw is refl

run : (p : ℕ → Bool) (bs : List ℕ) → IsLongest (list_all p) bs (Some (prefix_len p bs))
run p bs =
    let le = prefix_len-le-length p bs in
    (omega arith, all_true p bs (prefix_len p bs) (omega arith), λ m h k. all_false p bs m h k)

nothing : (bs : List ℕ) → IsLongest is_empty bs (Some 0)
nothing bs = (omega arith, refl, longer bs)
  where
    longer : (bs : List ℕ) (m : ℕ) → 0 < m → m ≤ length bs → is_empty (take m bs) ≡ false
    longer bs zero h k = absurd (omega arith)
    longer [] (suc m) h k = absurd (omega arith)
    longer (b ∷ bs) (suc m) h k = refl

-- one byte more in front
one_more : (p q : List ℕ → Bool) (b : ℕ) (bs : List ℕ) → q [] ≡ false → ((xs : List ℕ) → q (b ∷ xs) ≡ p xs) → (o : Option ℕ) → IsLongest p bs o → IsLongest q (b ∷ bs) (plus 1 o)
one_more p q b bs z same (Some n) s =
    let le = s.0 in
    let e : 1 + n ≡ suc n = omega arith in
    (omega arith, rw e (same (take n bs) ∙ s.1), longer)
  where
    longer : (m : ℕ) → 1 + n < m → m ≤ suc (length bs) → q (take m (b ∷ bs)) ≡ false
    longer zero h k = absurd (omega arith)
    longer (suc m) h k = same (take m bs) ∙ s.2 m (omega arith) (omega arith)
one_more p q b bs z same None s = none
  where
    none : (m : ℕ) → m ≤ suc (length bs) → q (take m (b ∷ bs)) ≡ false
    none zero k = z
    none (suc m) k = same (take m bs) ∙ s m (omega arith)

never : (q : List ℕ → Bool) (b : ℕ) (bs : List ℕ) → q [] ≡ false → ((xs : List ℕ) → q (b ∷ xs) ≡ false) → IsLongest q (b ∷ bs) None
never q b bs z no_more zero k = z
never q b bs z no_more (suc m) k = no_more (take m bs)

text_escaped : (e : ℕ) (bs : List ℕ) → IsLongest (is_string_rest false) bs (string_scan false bs) → IsLongest (is_string_rest true) (e ∷ bs) (string_scan true (e ∷ bs))
text_escaped e bs ih = go (is_escape e) refl
  where
    go : (t : Bool) → is_escape e ≡ t → IsLongest (is_string_rest true) (e ∷ bs) (cond t (plus 1 (string_scan false bs)) None)
    go true is = one_more (is_string_rest false) (is_string_rest true) e bs refl (λ xs. rw is refl) (string_scan false bs) ih
    go false is = never (is_string_rest true) e bs refl (λ xs. rw is refl)

text_plain : (b : ℕ) (bs : List ℕ) → IsLongest (is_string_rest true) bs (string_scan true bs) → IsLongest (is_string_rest false) bs (string_scan false bs) → IsLongest (is_string_rest false) (b ∷ bs) (string_scan false (b ∷ bs))
text_plain b bs ih_escaped ih = quote (eqb b 34) refl
  where
    unit : eqb b 34 ≡ false → eqb b 92 ≡ false → (t : Bool) → is_unit 34 b ≡ t → IsLongest (is_string_rest false) (b ∷ bs) (cond t (plus 1 (string_scan false bs)) None)
    unit q s true is = one_more (is_string_rest false) (is_string_rest false) b bs refl (λ xs. chosen xs q s is) (string_scan false bs) ih
      where
        chosen : (xs : List ℕ) → eqb b 34 ≡ false → eqb b 92 ≡ false → is_unit 34 b ≡ true → is_string_rest false (b ∷ xs) ≡ is_string_rest false xs
        chosen xs q s is = pick (eqb b 34) (eqb b 92) (is_unit 34 b) q s is
          where
            pick : (x y z : Bool) → x ≡ false → y ≡ false → z ≡ true → cond x (is_empty xs) (cond y (is_string_rest true xs) (z && is_string_rest false xs)) ≡ is_string_rest false xs
            pick x y z p q r = rw (p, q, r) refl
    unit q s false is = never (is_string_rest false) b bs refl (λ xs. chosen xs q s is)
      where
        chosen : (xs : List ℕ) → eqb b 34 ≡ false → eqb b 92 ≡ false → is_unit 34 b ≡ false → is_string_rest false (b ∷ xs) ≡ false
        chosen xs q s is = pick (eqb b 34) (eqb b 92) (is_unit 34 b) q s is
          where
            pick : (x y z : Bool) → x ≡ false → y ≡ false → z ≡ false → cond x (is_empty xs) (cond y (is_string_rest true xs) (z && is_string_rest false xs)) ≡ false
            pick x y z p q r = rw (p, q, r) refl

    slash : eqb b 34 ≡ false → (t : Bool) → eqb b 92 ≡ t → IsLongest (is_string_rest false) (b ∷ bs) (cond t (plus 1 (string_scan true bs)) (cond (is_unit 34 b) (plus 1 (string_scan false bs)) None))
    slash q true is = one_more (is_string_rest true) (is_string_rest false) b bs refl (λ xs. rw (q, is) refl) (string_scan true bs) ih_escaped
    slash q false is = unit q is (is_unit 34 b) refl

    quote : (t : Bool) → eqb b 34 ≡ t → IsLongest (is_string_rest false) (b ∷ bs) (cond t (Some 1) (cond (eqb b 92) (plus 1 (string_scan true bs)) (cond (is_unit 34 b) (plus 1 (string_scan false bs)) None)))
    quote true is = one_more is_empty (is_string_rest false) b bs refl (λ xs. rw is refl) (Some 0) (nothing bs)
    quote false is = slash is (eqb b 92) refl

text : (escaped : Bool) (bs : List ℕ) → IsLongest (is_string_rest escaped) bs (string_scan escaped bs)
text true [] = λ m k. none m
  where
    none : (m : ℕ) → is_string_rest true (take m []) ≡ false
    none zero = refl
    none (suc m) = refl
text false [] = λ m k. none m
  where
    none : (m : ℕ) → is_string_rest false (take m []) ≡ false
    none zero = refl
    none (suc m) = refl
text true (e ∷ bs) = text_escaped e bs (text false bs)
text false (b ∷ bs) = text_plain b bs (text true bs) (text false bs)

mark : (b : ℕ) (bs : List ℕ) → IsLongest (is_mark_rest b) bs (mark_scan b bs)
mark b [] = go (is_short_mark b) refl
  where
    go : (t : Bool) → is_short_mark b ≡ t → IsLongest (is_mark_rest b) [] (cond t (Some 0) None)
    go true is = (omega arith, is, λ m h k. absurd (omega arith))
    go false is = none
      where
        none : (m : ℕ) → m ≤ 0 → is_mark_rest b (take m []) ≡ false
        none zero k = is
        none (suc m) k = absurd (omega arith)
mark b (c ∷ cs) = pair (is_long_mark b c) refl
  where
    longer : (cs : List ℕ) (m : ℕ) → 1 < m → m ≤ suc (length cs) → is_mark_rest b (take m (c ∷ cs)) ≡ false
    longer cs zero h k = absurd (omega arith)
    longer cs (suc zero) h k = absurd (omega arith)
    longer [] (suc (suc m)) h k = absurd (omega arith)
    longer (d ∷ ds) (suc (suc m)) h k = refl

    single : is_long_mark b c ≡ false → (m : ℕ) → 0 < m → m ≤ suc (length cs) → is_mark_rest b (take m (c ∷ cs)) ≡ false
    single is zero h k = absurd (omega arith)
    single is (suc zero) h k = is
    single is (suc (suc m)) h k = longer cs (suc (suc m)) (omega arith) (omega arith)

    one : is_long_mark b c ≡ false → (t : Bool) → is_short_mark b ≡ t → IsLongest (is_mark_rest b) (c ∷ cs) (cond t (Some 0) None)
    one p true is = (omega arith, is, single p)
    one p false is = none
      where
        none : (m : ℕ) → m ≤ suc (length cs) → is_mark_rest b (take m (c ∷ cs)) ≡ false
        none zero k = is
        none (suc m) k = single p (suc m) (omega arith) k

    pair : (t : Bool) → is_long_mark b c ≡ t → IsLongest (is_mark_rest b) (c ∷ cs) (cond t (Some 1) (cond (is_short_mark b) (Some 0) None))
    pair true is = (omega arith, is, longer cs)
    pair false is = one is (is_short_mark b) refl

-- behind an escaped byte
and_last : (x y : Bool) → (x && false) ≡ false
and_last true y = refl
and_last false y = refl

escape : (bs : List ℕ) → IsLongest is_character_rest (92 ∷ bs) (escape_scan bs)
escape [] = none
  where
    none : (m : ℕ) → m ≤ 1 → is_character_rest (take m (92 ∷ [])) ≡ false
    none zero k = refl
    none (suc zero) k = refl
    none (suc (suc m)) k = absurd (omega arith)
escape (e ∷ es) = go (is_escape e || eqb e 48) refl
  where
    short : (m : ℕ) → is_character_rest (take m (92 ∷ e ∷ [])) ≡ false
    short zero = refl
    short (suc zero) = refl
    short (suc (suc zero)) = refl
    short (suc (suc (suc m))) = refl

    bad : (is_escape e || eqb e 48) ≡ false → (es : List ℕ) (m : ℕ) → m ≤ suc (suc (length es)) → is_character_rest (take m (92 ∷ e ∷ es)) ≡ false
    bad is [] m k = short m
    bad is (c ∷ cs) zero k = refl
    bad is (c ∷ cs) (suc zero) k = refl
    bad is (c ∷ cs) (suc (suc zero)) k = refl
    bad is (c ∷ cs) (suc (suc (suc zero))) k = rw is refl
    bad is (c ∷ []) (suc (suc (suc (suc m)))) k = absurd (omega arith)
    bad is (c ∷ d ∷ ds) (suc (suc (suc (suc m)))) k = refl

    longer : (c : ℕ) (cs : List ℕ) (m : ℕ) → 3 < m → m ≤ suc (suc (suc (length cs))) → is_character_rest (take m (92 ∷ e ∷ c ∷ cs)) ≡ false
    longer c cs zero h k = absurd (omega arith)
    longer c cs (suc zero) h k = absurd (omega arith)
    longer c cs (suc (suc zero)) h k = absurd (omega arith)
    longer c cs (suc (suc (suc zero))) h k = absurd (omega arith)
    longer c [] (suc (suc (suc (suc m)))) h k = absurd (omega arith)
    longer c (d ∷ ds) (suc (suc (suc (suc m)))) h k = refl

    open_end : (is_escape e || eqb e 48) ≡ true → (es : List ℕ) → starts_byte 39 es ≡ false → (m : ℕ) → m ≤ suc (suc (length es)) → is_character_rest (take m (92 ∷ e ∷ es)) ≡ false
    open_end is [] s m k = short m
    open_end is (c ∷ cs) s zero k = refl
    open_end is (c ∷ cs) s (suc zero) k = refl
    open_end is (c ∷ cs) s (suc (suc zero)) k = refl
    open_end is (c ∷ cs) s (suc (suc (suc zero))) k = rw (is, s) refl
    open_end is (c ∷ cs) s (suc (suc (suc (suc m)))) k = longer c cs (suc (suc (suc (suc m)))) (omega arith) k

    ends : (is_escape e || eqb e 48) ≡ true → (es : List ℕ) (t : Bool) → starts_byte 39 es ≡ t → IsLongest is_character_rest (92 ∷ e ∷ es) (cond t (Some 3) None)
    ends is [] true s = absurd cc
    ends is (c ∷ cs) true s = (omega arith, rw (is, s) refl, longer c cs)
    ends is es false s = open_end is es s

    go : (t : Bool) → (is_escape e || eqb e 48) ≡ t → IsLongest is_character_rest (92 ∷ e ∷ es) (cond t (quote_scan es 3) None)
    go true is = ends is es (starts_byte 39 es) refl
    go false is = bad is es

plain : (b : ℕ) (bs : List ℕ) → eqb b 92 ≡ false → IsLongest is_character_rest (b ∷ bs) (cond (is_unit 39 b && ltb b 128) (quote_scan bs 2) None)
plain b bs s = go (is_unit 39 b && ltb b 128) refl
  where
    longer : (c : ℕ) (cs : List ℕ) (m : ℕ) → 2 < m → m ≤ suc (suc (length cs)) → is_character_rest (take m (b ∷ c ∷ cs)) ≡ false
    longer c cs zero h k = absurd (omega arith)
    longer c cs (suc zero) h k = absurd (omega arith)
    longer c cs (suc (suc zero)) h k = absurd (omega arith)
    longer c [] (suc (suc (suc m))) h k = absurd (omega arith)
    longer c (d ∷ []) (suc (suc (suc zero))) h k = rw s refl
    longer c (d ∷ []) (suc (suc (suc (suc m)))) h k = absurd (omega arith)
    longer c (d ∷ f ∷ fs) (suc (suc (suc zero))) h k = rw s refl
    longer c (d ∷ f ∷ fs) (suc (suc (suc (suc m)))) h k = refl

    alone : (m : ℕ) → is_character_rest (take m (b ∷ [])) ≡ false
    alone zero = refl
    alone (suc zero) = refl
    alone (suc (suc m)) = refl

    none : (bs : List ℕ) → ((is_unit 39 b && ltb b 128) && starts_byte 39 bs) ≡ false → (m : ℕ) → m ≤ suc (length bs) → is_character_rest (take m (b ∷ bs)) ≡ false
    none [] is m k = alone m
    none (c ∷ cs) is zero k = refl
    none (c ∷ cs) is (suc zero) k = refl
    none (c ∷ cs) is (suc (suc zero)) k = is
    none (c ∷ cs) is (suc (suc (suc m))) k = longer c cs (suc (suc (suc m))) (omega arith) k

    ends : (is_unit 39 b && ltb b 128) ≡ true → (bs : List ℕ) (t : Bool) → starts_byte 39 bs ≡ t → IsLongest is_character_rest (b ∷ bs) (cond t (Some 2) None)
    ends is [] true q = absurd cc
    ends is (c ∷ cs) true q = (omega arith, rw (is, q) refl, longer c cs)
    ends is bs false q = none bs (rw (is, q) refl)

    go : (t : Bool) → (is_unit 39 b && ltb b 128) ≡ t → IsLongest is_character_rest (b ∷ bs) (cond t (quote_scan bs 2) None)
    go true is = ends is bs (starts_byte 39 bs) refl
    go false is = none bs (rw is refl)

char : (bs : List ℕ) → IsLongest is_character_rest bs (character_scan bs)
char [] = λ m k. none m
  where
    none : (m : ℕ) → is_character_rest (take m []) ≡ false
    none zero = refl
    none (suc m) = refl
char (b ∷ bs) = go (eqb b 92) refl
  where
    go : (t : Bool) → eqb b 92 ≡ t → IsLongest is_character_rest (b ∷ bs) (cond t (escape_scan bs) (cond (is_unit 39 b && ltb b 128) (quote_scan bs 2) None))
    go true is = subst (λ (d : ℕ). IsLongest is_character_rest (d ∷ bs) (escape_scan bs)) (sym (eqb-true b 92 is)) (escape bs)
    go false is = plain b bs is

tail : (b : ℕ) (bs : List ℕ) → IsLongest (is_token_rest b) bs (token_rest_scan b bs)
tail b bs = go (is_nondigit b) (is_ascii_digit b) (eqb b 48) (eqb b 39) (eqb b 34)
  where
    go : (l d z c t : Bool) → IsLongest (λ xs. cond l (list_all is_word_byte xs) (cond d (cond z (is_empty xs) (list_all is_ascii_digit xs)) (cond c (is_character_rest xs) (cond t (is_string_rest false xs) (is_mark_rest b xs))))) bs (cond l (Some (prefix_len is_word_byte bs)) (cond d (Some (cond z 0 (prefix_len is_ascii_digit bs))) (cond c (character_scan bs) (cond t (string_scan false bs) (mark_scan b bs)))))
    go true d z c t = run is_word_byte bs
    go false true true c t = nothing bs
    go false true false c t = run is_ascii_digit bs
    go false false z true t = char bs
    go false false z false true = text false bs
    go false false z false false = mark b bs

pub scanned : (bytes : List ℕ) → IsLongest is_token bytes (token_scan bytes)
unfolding token_scan
scanned [] = none
  where
    none : (m : ℕ) → m ≤ 0 → is_token (take m []) ≡ false
    none zero k = refl
    none (suc m) k = refl
scanned (b ∷ bs) = one_more (is_token_rest b) is_token b bs refl (λ xs. refl) (token_rest_scan b bs) (tail b bs)

-- the longest front is one
pub longest_is : (bytes : List ℕ) (a b : Option ℕ) → IsLongest is_token bytes a → IsLongest is_token bytes b → a ≡ b
longest_is bytes None None h k = refl
longest_is bytes None (Some n) h k = let p = k.1 in let q = h n k.0 in cc
longest_is bytes (Some n) None h k = let p = h.1 in let q = k n h.0 in cc
longest_is bytes (Some n) (Some m) h k =
    let e : n ≡ m = grind (arith, below, above) in rw e refl
  where
    below : n < m → ⊥
    below l = let p = k.1 in let q = h.2 m l k.0 in cc

    above : m < n → ⊥
    above l = let p = h.1 in let q = k.2 n l h.0 in cc
