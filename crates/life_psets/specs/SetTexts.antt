-- What the table of sets says.
use Rattle.std.specs.Prelude.{ℕ, ◌+◌, Bool, nat_eq, List, [], ◌∷◌, ◌++◌, codes, decimal, drop, insert, map, take}
use Rattle.std.specs.List.{flat_map, prefix_len}
use Rattle.std.specs.Cmp.Lexicographic.{slice_cmp}
use Rattle.std.specs.Ordering.{is_lt, nat_cmp, ordering_then}
use Rattle.life_types.specs.Places.{position_text}
use Rattle.life_types.specs.Types.{Types}
use Rattle.life_core.specs.Function.{Function, Program}
use Rattle.life_pset.specs.declared.element.Element.{Element}
use Rattle.life_pset.specs.declared.element.Element.TheVariants as element
use Rattle.life_rules.specs.Texts.{Naming, element_text, name_text, naming_in, place_text}
use Rattle.life_psets.specs.Sets.{SetAt}
use Rattle.life_psets.specs.declared.line.SetLine.{SetLine}
use Rattle.life_psets.specs.declared.order.ElementText.{ElementText}

-- ---- the order of elements

-- null, invalid, moved, own, static and places, in this order
abbrev pub kind_number : Element → ℕ
kind_number element.Null = 0
kind_number (element.Invalid c) = 1
kind_number (element.Moved c) = 2
kind_number element.Own = 3
kind_number element.Static = 4
kind_number (element.At a) = 5

-- the text of an element, with the number of its kind
pub record Shown : Type 0 where
  pub kind : ℕ
  pub text : List ℕ

abbrev pub shown_seen : ElementText → Shown
shown_seen x = record { kind = x.kind; text = x.text.items }

abbrev pub text_of : Naming → Types → Function → Element → Shown
text_of names types f e = record { kind = kind_number e; text = element_text names types f e }

-- by kind, and by bytes within one kind
abbrev pub stands_before : Shown → Shown → Bool
stands_before a b = is_lt (ordering_then (nat_cmp a.kind b.kind) (slice_cmp nat_cmp a.text b.text))

-- where a text is put: behind those at the front that stand before it
abbrev pub place_for : Shown → List Shown → ℕ
place_for x ys = prefix_len (λ (y : Shown). stands_before y x) ys

abbrev pub is_earlier : Shown → ElementText → Bool
is_earlier x other = stands_before (shown_seen other) x

-- these in order, with each of the others put in its place
abbrev pub ordered : List Shown → List Shown → List Shown
ordered done [] = done
ordered done (x ∷ xs) = ordered (insert done (place_for x done) x) xs

-- ---- the table

abbrev pub behind_text : Shown → List ℕ
behind_text x = codes ", " ++ x.text

abbrev pub joined : List Shown → List ℕ
joined [] = []
joined (x ∷ xs) = x.text ++ flat_map behind_text xs

-- the point and its place, the location, and its elements in order
abbrev pub set_text : Naming → Types → Function → SetAt → List ℕ
set_text names types f s =
    decimal s.point.0 ++ codes " " ++ position_text s.place ++ codes " "
    ++ place_text names.spelling types f s.location ++ codes " = {"
    ++ joined (ordered [] (map (text_of names types f) s.elements)) ++ codes "}\n"

-- how many sets at the front are the function's
abbrev pub leading : ℕ → List SetAt → ℕ
leading n ss = prefix_len (λ (s : SetAt). nat_eq s.function n) ss

abbrev pub is_own : ℕ → SetLine → Bool
is_own n s = nat_eq s.function n

-- a line for the function, and one for each of its sets
abbrev pub function_text : Naming → Types → Function → List SetAt → List ℕ
function_text names types f sets = codes "function " ++ name_text names.spelling f.name ++ codes "\n" ++ flat_map (set_text names types f) sets

-- the functions from this number on, each with those sets at the front that are its own
abbrev pub table_from : Naming → Types → ℕ → List Function → List SetAt → List ℕ
table_from names types n [] sets = []
table_from names types n (f ∷ fs) sets =
    function_text names types f (take (leading n sets) sets) ++ table_from names types (n + 1) fs (drop (leading n sets) sets)

abbrev pub table_text : Program → List SetAt → List ℕ
table_text p sets = table_from (naming_in p) p.types 0 p.functions sets
