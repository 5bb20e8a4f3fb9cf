-- The lexer knows its point.
use Rattle.std.proofs.Common.{◌≡◌, ℕ, ◌+◌, ◌<◌, ◌≤◌, ◌^◌, Bool, true, false, nat_eq, cond, List, [], ◌∷◌, length, take, drop, fold, refl, sym, ap, ◌∙◌, arith}
use Rattle.std.proofs.Math.Seq.{take-add}
use Rattle.std.proofs.lemmas.Bool.Decides.{Decides-eqb}
use Rattle.std.proofs.lemmas.List.{drop-append-le, length-take-le, length-drop}
use Rattle.std.proofs.lemmas.List.Sums.{fold-append}
use Rattle.std.proofs.lemmas.Slice.Eq.{starts_is}
use Rattle.std.specs.List.{starts_with}
use Rattle.life_lex.specs.Places.{line_after, column_after, blank_after, byte_order_mark_len, line_blank_at}
use Rattle.life_lex.specs.Positions.{IsPosition}
use Rattle.life_lex.specs.declared.position.Position.{Position}

-- a fold over n bytes more
fold-take-add : {B : Type 0} (f : B → ℕ → B) (a : B) (m n : ℕ) (bytes : List ℕ) → fold f a (take (m + n) bytes) ≡ fold f (fold f a (take m bytes)) (take n (drop m bytes))
fold-take-add f a m n bytes = ap (fold f a) (take-add m n bytes) ∙ fold-append f a (take m bytes) (take n (drop m bytes))

-- the flag n bytes further on
line_blank_at-add : (source : List ℕ) (m n : ℕ) → byte_order_mark_len source ≤ m → m ≤ length source → line_blank_at source (m + n) ≡ fold blank_after (line_blank_at source m) (take n (drop m source))
line_blank_at-add source m n started within =
    ap (λ (bytes : List ℕ). fold blank_after true (drop (byte_order_mark_len source) bytes)) (take-add m n source)
    ∙ ap (fold blank_after true) (drop-append-le (byte_order_mark_len source) (take m source) (take n (drop m source)) (rw (length-take-le m source within) started))
    ∙ fold-append blank_after true (drop (byte_order_mark_len source) (take m source)) (take n (drop m source))

-- the position behind n bytes, where the one before them is known
pub position_after : (source rest : List ℕ) (p q : Position) (n : ℕ) → IsPosition source p → rest ≡ drop p.offset source → n ≤ length rest
    → q.offset ≡ p.offset + length (take n rest) → q.line ≡ fold line_after p.line (take n rest) → q.column ≡ fold column_after p.column (take n rest)
    → q.line_blank ≡ fold blank_after p.line_blank (take n rest) → IsPosition source q
position_after source rest p q n known rest_is fits passed line column line_blank = record {
  short = known.short;
  started = let s = known.started in omega arith;
  within = let w = known.within in let l = ap length rest_is ∙ length-drop p.offset source in omega (arith, offset);
  line = line ∙ ap (λ (k : ℕ). fold line_after k (take n rest)) known.line ∙ sym (at line_after 1);
  column = column ∙ ap (λ (k : ℕ). fold column_after k (take n rest)) known.column ∙ sym (at column_after 1);
  line_blank = line_blank ∙ ap (λ (k : Bool). fold blank_after k (take n rest)) known.line_blank
      ∙ sym (ap (line_blank_at source) offset ∙ line_blank_at-add source p.offset n known.started known.within ∙ ap (λ (bytes : List ℕ). fold blank_after (line_blank_at source p.offset) (take n bytes)) (sym rest_is));
}
  where
    offset : q.offset ≡ p.offset + n
    offset = passed ∙ ap (λ (k : ℕ). p.offset + k) (length-take-le n rest fits)

    at : {B : Type 0} (f : B → ℕ → B) (a : B) → fold f a (take q.offset source) ≡ fold f (fold f a (take p.offset source)) (take n rest)
    at f a = ap (λ (k : ℕ). fold f a (take k source)) offset ∙ fold-take-add f a p.offset n source ∙ ap (λ (bytes : List ℕ). fold f (fold f a (take p.offset source)) (take n bytes)) (sym rest_is)

-- what the position of the first point has to be
record IsStart (source : List ℕ) (offset : ℕ) : Type 0 where
  line : fold line_after 1 (take offset source) ≡ 1
  column : fold column_after 1 (take offset source) ≡ offset + 1
  line_blank : fold blank_after true (drop offset (take offset source)) ≡ true

is_start : (source : List ℕ) → IsStart source (byte_order_mark_len source)
is_start source = go (starts_with nat_eq source (239 ∷ 187 ∷ 191 ∷ [])) refl
  where
    marked : starts_with nat_eq source (239 ∷ 187 ∷ 191 ∷ []) ≡ true → take 3 source ≡ 239 ∷ 187 ∷ 191 ∷ []
    marked is = ap (take 3) ((starts_is Decides-eqb source (239 ∷ 187 ∷ 191 ∷ []) (starts_with nat_eq source (239 ∷ 187 ∷ 191 ∷ [])) refl).0 is)

    go : (t : Bool) → starts_with nat_eq source (239 ∷ 187 ∷ 191 ∷ []) ≡ t → IsStart source (cond t 3 0)
    go true is = record { line = rw (marked is) refl; column = rw (marked is) refl; line_blank = rw (marked is) refl }
    go false is = record { line = refl; column = refl; line_blank = refl }

-- the first position
pub position_first : (source : List ℕ) (p : Position) (n : ℕ) → length source < 2 ^ 32 → n ≡ byte_order_mark_len source → n ≤ length source
    → p.offset ≡ n → p.line ≡ 1 → p.column ≡ n + 1 → p.line_blank ≡ true → IsPosition source p
position_first source p n short is within offset line column line_blank = record {
  short = short;
  started = omega arith;
  within = omega arith;
  line = line ∙ sym (ap (λ (k : ℕ). fold line_after 1 (take k source)) start ∙ at_start.line);
  column = column ∙ ap (λ (k : ℕ). k + 1) is ∙ sym (ap (λ (k : ℕ). fold column_after 1 (take k source)) start ∙ at_start.column);
  line_blank = line_blank ∙ sym (ap (line_blank_at source) start ∙ at_start.line_blank);
}
  where
    start : p.offset ≡ byte_order_mark_len source
    start = offset ∙ is

    at_start : IsStart source (byte_order_mark_len source)
    at_start = is_start source
