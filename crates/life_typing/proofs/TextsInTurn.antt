-- Texts that are copied one after the other.
use Rattle.std.proofs.Common.{◌≡◌, ℕ, suc, ◌+◌, ◌<◌, List, [], ◌∷◌, ◌++◌, map, length, get_or, drop, append_assoc, drop-cons, add-one, sym, ◌∙◌, ap}
use Rattle.std.proofs.lemmas.List.{map-append}
use Rattle.std.specs.declared.alloc.Global.{Global}
use Rattle.std.specs.declared.vec.Vec.{Vec}
use Rattle.life_names.specs.Environment.{text_items}

-- one more
text_copied : (front : List (Vec ℕ Global)) (copy text : Vec ℕ Global) (rest : List (Vec ℕ Global)) (total : List (List ℕ))
    → map text_items front ++ map text_items (text ∷ rest) ≡ total → copy.items ≡ text.items → map text_items (front ++ copy ∷ []) ++ map text_items rest ≡ total
text_copied front copy text rest total so_far same = rw (map-append, append_assoc, same) so_far

-- .. that stands at a place of a list
pub copied_there : (front after : List (Vec ℕ Global)) (copy text : Vec ℕ Global) (all : List (Vec ℕ Global)) (i : ℕ) (total : List (List ℕ))
    → map text_items front ++ map text_items (drop i all) ≡ total → i < length all → text ≡ get_or all i text → after ≡ front ++ copy ∷ [] → copy.items ≡ text.items
    → map text_items after ++ map text_items (drop (i + 1) all) ≡ total
copied_there front after copy text all i total so_far within is grown same =
    let here : drop i all ≡ text ∷ drop (i + 1) all = rw add-one (drop-cons all i text within ∙ ap (λ (x : Vec ℕ Global). x ∷ drop (suc i) all) (sym is)) in
    rw grown (text_copied front copy text (drop (i + 1) all) total (rw here at so_far) same)
