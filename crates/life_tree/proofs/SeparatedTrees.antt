-- One more part, with the comma before it.
use Rattle.std.proofs.Common.{◌≡◌, List, [], ◌∷◌, ◌++◌, length, map, refl, sym, ap, ◌∙◌, arith}
use Rattle.std.proofs.lemmas.List.{length-append, length-map, map_push}
use Rattle.life_types.specs.declared.place.Place.{Place}
use Rattle.life_tree.specs.Tree.{Tree, ◌⨾◌}
use Rattle.life_tree.specs.Views.{at, later_trees}
use Rattle.life_tree.specs.declared.fixed.TheConstants.{COMMA}

later_more : (commas : List Place) (ts : List Tree) (comma : Place) (t : Tree) → length commas ≡ length ts
    → later_trees (commas ++ comma ∷ []) (ts ++ t ∷ []) ≡ later_trees commas ts ++ (at COMMA comma ⨾ t) ∷ []
later_more [] [] comma t even = refl
later_more [] (x ∷ xs) comma t even = absurd (omega arith)
later_more (c ∷ cs) [] comma t even = absurd (omega arith)
later_more (c ∷ cs) (x ∷ xs) comma t even = ap (λ (us : List Tree). (at COMMA c ⨾ x) ∷ us) (later_more cs xs comma t (omega (arith, even)))

module _ {A : Type 0} (view : A → Tree) (commas commas' : List Place) (items items' : List A) (comma : Place) (item : A) where
  pub one_more : commas' ≡ commas ++ comma ∷ [] → items' ≡ items ++ item ∷ [] → length commas ≡ length items
      → later_trees commas' (map view items') ≡ later_trees commas (map view items) ++ (at COMMA comma ⨾ view item) ∷ []
  one_more c i even =
      rw (c, i, map_push view items item) (later_more commas (map view items) comma (view item) (even ∙ sym (length-map items view)))

  pub as_many_more : commas' ≡ commas ++ comma ∷ [] → items' ≡ items ++ item ∷ [] → length commas ≡ length items → length commas' ≡ length items'
  as_many_more c i even = rw (c, i) (omega (arith, even, length-append commas (comma ∷ []), length-append items (item ∷ [])))
