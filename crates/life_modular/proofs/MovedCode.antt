-- The points of a function that is moved are those of before, moved: they lead where they led.
use Rattle.std.proofs.Common.{◌≡◌, ◌∙◌, ◌++◌, ◌+◌, ℕ, zero, suc, List, [], ◌∷◌, Option, Some, None, map, option_map, refl, ap, ap₂}
use Rattle.life_core.specs.Function.{Function}
use Rattle.life_core.specs.Linked.{Linked, code_of, edges_from, edges_of, edges_out, enter, entry_of, entry_then, linked, no_exits, numbered, spot_of, spot_of_linked, target_of, turned, with_false, with_next, with_true, body_exits}
use Rattle.life_core.specs.Tree.{Tree, Skip, Then, Acts, Asks, Both, Either, Negated, Choice, Turns, Breaks, Continues, Returns, Stops, size}
use Rattle.life_core.specs.declared.exits.Exits.{Exits}
use Rattle.life_core.specs.declared.stmt.Edge.{Edge}
use Rattle.life_core.specs.declared.stmt.Point.{Point}
use Rattle.life_modular.proofs.MovedLists.{append_moved, slice_get_map}
use Rattle.life_modular.specs.Renaming.{Renaming, moved_function, moved_linked, moved_spot, moved_tree}

module _ (r : Renaming) where
  pub size_moved : (t : Tree) → size (moved_tree r t) ≡ size t
  size_moved Skip = refl
  size_moved (Then a b) = ap₂ (λ (m n : ℕ). m + n) (size_moved a) (size_moved b)
  size_moved (Acts place i) = refl
  size_moved (Asks place t) = refl
  size_moved (Both a b) = ap₂ (λ (m n : ℕ). m + n) (size_moved a) (size_moved b)
  size_moved (Either a b) = ap₂ (λ (m n : ℕ). m + n) (size_moved a) (size_moved b)
  size_moved (Negated a) = size_moved a
  size_moved (Choice t a b) = ap₂ (λ (m n : ℕ). m + n) (size_moved t) (ap₂ (λ (m n : ℕ). m + n) (size_moved a) (size_moved b))
  size_moved (Turns t a b) = ap₂ (λ (m n : ℕ). m + n) (size_moved t) (ap₂ (λ (m n : ℕ). m + n) (size_moved a) (size_moved b))
  size_moved Breaks = refl
  size_moved Continues = refl
  size_moved (Returns place) = refl
  size_moved (Stops place) = refl

  pub entry_moved : (t : Tree) → entry_of (moved_tree r t) ≡ entry_of t
  entry_moved Skip = refl
  entry_moved (Then a b) = ap₂ entry_then (entry_moved a) (entry_moved b)
  entry_moved (Acts place i) = refl
  entry_moved (Asks place t) = refl
  entry_moved (Both a b) = entry_moved a
  entry_moved (Either a b) = entry_moved a
  entry_moved (Negated a) = entry_moved a
  entry_moved (Choice t a b) = entry_moved t
  entry_moved (Turns t a b) = entry_moved t
  entry_moved Breaks = refl
  entry_moved Continues = refl
  entry_moved (Returns place) = refl
  entry_moved (Stops place) = refl

  pub linked_moved : (t : Tree) (at : ℕ) (x : Exits) → linked (moved_tree r t) at x ≡ map (moved_linked r) (linked t at x)
  linked_moved Skip at x = refl
  linked_moved (Then a b) at x =
      (λ i. linked (moved_tree r a) at (with_next (target_of (entry_moved b i) (at + size_moved a i) x) x) ++ linked (moved_tree r b) (at + size_moved a i) x)
      ∙ append_moved (moved_linked r) _ _ (linked_moved a at (with_next (enter b (at + size a) x) x)) (linked_moved b (at + size a) x)
  linked_moved (Acts place i) at x = refl
  linked_moved (Asks place t) at x = refl
  linked_moved (Both a b) at x =
      (λ i. linked (moved_tree r a) at (with_true (target_of (entry_moved b i) (at + size_moved a i) x) x) ++ linked (moved_tree r b) (at + size_moved a i) x)
      ∙ append_moved (moved_linked r) _ _ (linked_moved a at (with_true (enter b (at + size a) x) x)) (linked_moved b (at + size a) x)
  linked_moved (Either a b) at x =
      (λ i. linked (moved_tree r a) at (with_false (target_of (entry_moved b i) (at + size_moved a i) x) x) ++ linked (moved_tree r b) (at + size_moved a i) x)
      ∙ append_moved (moved_linked r) _ _ (linked_moved a at (with_false (enter b (at + size a) x) x)) (linked_moved b (at + size a) x)
  linked_moved (Negated a) at x = linked_moved a at (turned x)
  linked_moved (Choice t a b) at x =
      let first : ℕ = at + size t in
      let second : ℕ = first + size a in
      (λ i. linked (moved_tree r t) at (with_true (target_of (entry_moved a i) (at + size_moved t i) x) (with_false (target_of (entry_moved b i) (at + size_moved t i + size_moved a i) x) x))
      ++ (linked (moved_tree r a) (at + size_moved t i) x ++ linked (moved_tree r b) (at + size_moved t i + size_moved a i) x))
      ∙ append_moved (moved_linked r) _ _ (linked_moved t at (with_true (enter a first x) (with_false (enter b second x) x)))
      (append_moved (moved_linked r) _ _ (linked_moved a first x) (linked_moved b second x))
  linked_moved (Turns t body step) at x =
      let first : ℕ = at + size t in
      let second : ℕ = first + size body in
      let turn : Exits = with_next (enter t at x) x in
      let inner : Exits = body_exits (enter step second turn) x in
      (λ i. let turn_at : Exits = with_next (target_of (entry_moved t i) at x) x in
      let inner_at : Exits = body_exits (target_of (entry_moved step i) (at + size_moved t i + size_moved body i) turn_at) x in
      linked (moved_tree r t) at (with_true (target_of (entry_moved body i) (at + size_moved t i) inner_at) (with_false x.next x))
      ++ (linked (moved_tree r body) (at + size_moved t i) inner_at ++ linked (moved_tree r step) (at + size_moved t i + size_moved body i) turn_at))
      ∙ append_moved (moved_linked r) _ _ (linked_moved t at (with_true (enter body first inner) (with_false x.next x)))
      (append_moved (moved_linked r) _ _ (linked_moved body first inner) (linked_moved step second turn))
  linked_moved Breaks at x = refl
  linked_moved Continues at x = refl
  linked_moved (Returns place) at x = refl
  linked_moved (Stops place) at x = refl

  edges_from_moved : (at : ℕ) (ls : List Linked) → edges_from at (map (moved_linked r) ls) ≡ edges_from at ls
  edges_from_moved at [] = refl
  edges_from_moved at (l ∷ ls) = ap (λ (more : List Edge). edges_out at l.leads ++ more) (edges_from_moved (at + 1) ls)

  pub numbered_moved : (code : List Linked) (n : ℕ) → numbered (map (moved_linked r) code) n ≡ option_map (moved_linked r) (numbered code n)
  numbered_moved code zero = refl
  numbered_moved code (suc n) = slice_get_map (moved_linked r) code n

  spot_of_linked_moved : (o : Option Linked) → option_map spot_of_linked (option_map (moved_linked r) o) ≡ option_map (moved_spot r) (option_map spot_of_linked o)
  spot_of_linked_moved None = refl
  spot_of_linked_moved (Some l) = refl

  -- ---- of a function

  module _ (f : Function) where
    pub code_moved : code_of (moved_function r f) ≡ map (moved_linked r) (code_of f)
    code_moved = linked_moved f.body 1 no_exits

    pub edges_moved : edges_of (moved_function r f) ≡ edges_of f
    edges_moved = ap (edges_from 1) code_moved ∙ edges_from_moved 1 (code_of f)

    pub spot_moved : (point : Point) → spot_of (moved_function r f) point ≡ option_map (moved_spot r) (spot_of f point)
    spot_moved point =
        ap (λ (code : List Linked). option_map spot_of_linked (numbered code point.0)) code_moved
        ∙ (ap (option_map spot_of_linked) (numbered_moved (code_of f) point.0) ∙ spot_of_linked_moved (numbered (code_of f) point.0))
