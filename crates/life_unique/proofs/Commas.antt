-- The commas of a list from its tree, where each part of the list is what a rule derives.
use Rattle.std.proofs.Common.{◌≡◌, List, [], ◌∷◌, map, refl, ap, ◌∙◌}
use Rattle.life_types.specs.declared.place.Place.{Place}
use Rattle.life_tree.specs.Rules.{Rule}
use Rattle.life_tree.specs.Tree.{Tree, token, ◌⨾◌, node}
use Rattle.life_tree.specs.Views.{later_tree, separated_tree}
use Rattle.life_unique.proofs.Tokens.{derived}

-- those before parts, and those that stand alone
abbrev pub commas_of : Tree → List Place
commas_of ((token key place ⨾ t) ⨾ ts) = place ∷ commas_of ts
commas_of (token key place ⨾ ts) = place ∷ commas_of ts
commas_of (t ⨾ ts) = commas_of ts
commas_of _ = []

module _ {A : Type 0} (r : Rule) (view : A → Tree) (is_derived : (x : A) → view x ≡ node r (derived (view x))) where
  first_part : (x : A) (ts : Tree) → commas_of (view x ⨾ ts) ≡ commas_of ts
  first_part x ts = ap (λ (t : Tree). commas_of (t ⨾ ts)) (is_derived x)

  later_found : (commas : List Place) (xs : List A) → commas_of (later_tree commas (map view xs)) ≡ commas
  later_found [] [] = refl
  later_found [] (x ∷ xs) = first_part x (later_tree [] (map view xs)) ∙ later_found [] xs
  later_found (comma ∷ commas) [] = ap (λ (found : List Place). comma ∷ found) (later_found commas [])
  later_found (comma ∷ commas) (x ∷ xs) = ap (λ (found : List Place). comma ∷ found) (later_found commas xs)

  pub commas_found : (commas : List Place) (xs : List A) → commas_of (separated_tree commas (map view xs)) ≡ commas
  commas_found commas [] = later_found commas []
  commas_found commas (x ∷ xs) = first_part x (later_tree commas (map view xs)) ∙ later_found commas xs
