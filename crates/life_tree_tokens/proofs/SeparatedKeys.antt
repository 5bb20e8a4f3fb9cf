-- Parts that are written one after the other are those of the list.
use Rattle.std.proofs.Common.{◌≡◌, true, false, List, [], ◌∷◌, ◌++◌, refl, ap}
use Rattle.life_types.specs.declared.place.Place.{Place}
use Rattle.life_tree.specs.Separated.{comma_keys, separated_keys}
use Rattle.life_tree.specs.Tree.{Tree, keys_of}
use Rattle.life_tree.specs.Views.{later_tree, separated_tree}
use Rattle.life_tree.specs.declared.fixed.TheConstants.{COMMA}
use Rattle.life_tree.specs.declared.key.TokenKey.{TokenKey}
use Rattle.life_tree.specs.declared.key.TokenKey.TheVariants.{Fixed}

commas_alone : (commas : List Place) → comma_keys commas ≡ keys_of (later_tree commas [])
commas_alone [] = refl
commas_alone (comma ∷ commas) = ap (λ (ks : List TokenKey). Fixed COMMA ∷ ks) (commas_alone commas)

later_keys : (commas : List Place) (ts : List Tree) → separated_keys true commas ts ≡ keys_of (later_tree commas ts)
later_keys [] [] = refl
later_keys [] (t ∷ ts) = ap (λ (ks : List TokenKey). keys_of t ++ ks) (later_keys [] ts)
later_keys (comma ∷ commas) [] = commas_alone (comma ∷ commas)
later_keys (comma ∷ commas) (t ∷ ts) = ap (λ (ks : List TokenKey). Fixed COMMA ∷ (keys_of t ++ ks)) (later_keys commas ts)

pub first_keys : (commas : List Place) (ts : List Tree) → separated_keys false commas ts ≡ keys_of (separated_tree commas ts)
first_keys commas [] = commas_alone commas
first_keys commas (t ∷ ts) = ap (λ (ks : List TokenKey). keys_of t ++ ks) (later_keys commas ts)
