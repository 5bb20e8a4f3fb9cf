-- The table's text: elements in their places, and sets behind their functions.
use Rattle.std.proofs.Common.{◌≡◌, ◌≤◌, ◌<◌, ℕ, ◌+◌, Bool, true, false, arith, get_or, cond, nat_eq, List, [], ◌∷◌, ◌++◌, Some, length, map, drop, take, insert, slice_get, refl, ap, sym, ◌∙◌, append_assoc, append-nil}
use Rattle.std.specs.List.{prefix_len}
use Rattle.std.proofs.lemmas.List.{drop-map, drop_all, drop_more, map-append, take-map}
use Rattle.std.proofs.lemmas.List.Sums.{prefix_len-drop_all, prefix_len-drop_no, prefix_len-drop_yes, prefix_len-le-length}
use Rattle.std.proofs.lemmas.Option.{get_or_from_slice_get, slice_get_within}
use Rattle.life_core.specs.Function.{Function, Program}
use Rattle.life_rules.specs.Texts.{naming_in}
use Rattle.life_psets.specs.Sets.{SetAt, set_seen}
use Rattle.life_psets.specs.SetTexts.{Shown, function_text, is_earlier, is_own, leading, place_for, shown_seen, stands_before, table_from, table_text}
use Rattle.life_psets.specs.declared.line.SetLine.{SetLine}
use Rattle.life_psets.specs.declared.order.ElementText.{ElementText}

module _ {A B : Type 0} (seen : A → B) where
  prefix_map : (p : B → Bool) (xs : List A) → prefix_len p (map seen xs) ≡ prefix_len (λ x. p (seen x)) xs
  prefix_map p [] = refl
  prefix_map p (x ∷ xs) = ap (λ (n : ℕ). cond (p (seen x)) (1 + n) 0) (prefix_map p xs)

  insert_map : (xs : List A) (n : ℕ) (x : A) → map seen (insert xs n x) ≡ insert (map seen xs) n (seen x)
  insert_map xs n x = map-append seen (take n xs) (x ∷ drop n xs) ∙ (λ i. sym (take-map seen n xs) i ++ seen x ∷ sym (drop-map seen n xs) i)

-- how many at the front pass a test, counted one after the other
module _ {X : Type 0} (p : X → Bool) (xs : List X) where
  pub first_more : (k : ℕ) (x : X) → k < length xs → x ≡ get_or xs k x → p x ≡ true → k + prefix_len p (drop k xs) ≡ prefix_len p xs → k + 1 + prefix_len p (drop (k + 1) xs) ≡ prefix_len p xs
  first_more k x lt is passes was = omega (arith, was, prefix_len-drop_yes p xs k x lt (ap p (sym is) ∙ passes))

  pub first_stops : (k : ℕ) (x : X) → k < length xs → x ≡ get_or xs k x → p x ≡ false → k + prefix_len p (drop k xs) ≡ prefix_len p xs → k ≡ prefix_len p xs
  first_stops k x lt is fails was = omega (arith, was, prefix_len-drop_no p xs k x lt (ap p (sym is) ∙ fails))

  pub first_all : (k : ℕ) → length xs ≤ k → k + prefix_len p (drop k xs) ≡ prefix_len p xs → length xs ≡ prefix_len p xs
  first_all k past was = omega (arith, past, was, prefix_len-drop_all p xs k past, prefix_len-le-length p xs)

-- a text that is put behind those that stand before it
pub put_seen : (texts : List ElementText) (n : ℕ) (text : ElementText) → n ≡ prefix_len (is_earlier (shown_seen text)) texts
    → map shown_seen (insert texts n text) ≡ insert (map shown_seen texts) (place_for (shown_seen text) (map shown_seen texts)) (shown_seen text)
put_seen texts n text is =
    insert_map shown_seen texts n text
    ∙ ap (λ (k : ℕ). insert (map shown_seen texts) k (shown_seen text)) (is ∙ sym (prefix_map shown_seen (λ (y : Shown). stands_before y (shown_seen text)) texts))

-- the text so far, with that of the functions and sets that are left, is the table
abbrev pub IsTableSoFar : Program → List SetAt → ℕ → List SetAt → List ℕ → Type 0
IsTableSoFar p sets k left text = text ++ table_from (naming_in p) p.types k (drop k p.functions) left ≡ table_text p sets

pub table_next : (p : Program) (sets : List SetAt) (k : ℕ) (f : Function) (left : List SetLine) (n : ℕ) (text after : List ℕ)
    → slice_get p.functions k ≡ Some f → n ≡ prefix_len (is_own k) left
    → after ≡ text ++ function_text (naming_in p) p.types f (map set_seen (take n left))
    → IsTableSoFar p sets k (map set_seen left) text → IsTableSoFar p sets (k + 1) (map set_seen (drop n left)) after
table_next p sets k f left n text after at is more was =
    let here = function_text (naming_in p) p.types f (map set_seen (take n left)) in
    let rest = table_from (naming_in p) p.types (k + 1) (drop (k + 1) p.functions) (map set_seen (drop n left)) in
    let count : n ≡ leading k (map set_seen left) = is ∙ sym (prefix_map set_seen (λ (s : SetAt). nat_eq s.function k) left) in
    let first : here ≡ function_text (naming_in p) p.types f (take (leading k (map set_seen left)) (map set_seen left)) =
    ap (function_text (naming_in p) p.types f) (sym (take-map set_seen n left) ∙ ap (λ (m : ℕ). take m (map set_seen left)) count) in
    let others : rest ≡ table_from (naming_in p) p.types (k + 1) (drop (k + 1) p.functions) (drop (leading k (map set_seen left)) (map set_seen left)) =
    ap (table_from (naming_in p) p.types (k + 1) (drop (k + 1) p.functions)) (sym (drop-map set_seen n left) ∙ ap (λ (m : ℕ). drop m (map set_seen left)) count) in
    let functions : drop k p.functions ≡ f ∷ drop (k + 1) p.functions =
    drop_more p.functions k f (slice_get_within p.functions k f at) ∙ ap (λ (g : Function). g ∷ drop (k + 1) p.functions) (get_or_from_slice_get p.functions k f f at) in
    ap (λ (xs : List ℕ). xs ++ rest) more ∙ append_assoc text here rest
    ∙ (λ i. text ++ (first i ++ others i))
    ∙ sym (ap (λ (fs : List Function). text ++ table_from (naming_in p) p.types k fs (map set_seen left)) functions)
    ∙ was

pub table_whole : (p : Program) (sets : List SetAt) (k : ℕ) (left : List SetAt) (text : List ℕ) → length p.functions ≤ k → IsTableSoFar p sets k left text → text ≡ table_text p sets
table_whole p sets k left text past was =
    sym (append-nil text) ∙ sym (ap (λ (fs : List Function). text ++ table_from (naming_in p) p.types k fs left) (drop_all k p.functions past)) ∙ was
