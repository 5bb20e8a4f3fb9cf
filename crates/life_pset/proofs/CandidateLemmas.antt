-- The lists of locations and of elements, as they are made.
use Rattle.std.proofs.Common.{◌≡◌, ℕ, zero, suc, ◌+◌, ◌<◌, refl, ap, sym, subst, ◌∙◌, arith, add-one, List, [], ◌∷◌, ◌++◌, Option, None, drop, get_or, length, map, slice_get, append-nil, append_assoc}
use Rattle.std.specs.Prelude.{unwrap_or}
use Rattle.std.specs.List.{flat_map}
use Rattle.life_types.specs.Trees.{TypeTree, Void, members_at, struct_of, tree_of, tree_at, tree_within, AllBelow, HasMembersBelow}
use Rattle.life_types.specs.Types.{Types}
use Rattle.life_types.specs.declared.ty.TyId.{TyId}
use Rattle.life_core.specs.Function.{Function}
use Rattle.life_core.specs.Linked.{Linked, code_of, spot_of_linked}
use Rattle.life_core.specs.Tree.{Spot}
use Rattle.life_pset.specs.Causes.{spot_elements}
use Rattle.life_pset.specs.Elements.{caused_at, caused_elements, places_from, places_in, pointers_from, pointers_in}
use Rattle.life_pset.specs.declared.element.AbsPlace.{AbsPlace}

-- a type that the table doesn't have
pub nowhere : (table : Types) (id : TyId) → slice_get table.types id.0 ≡ None → tree_at table id ≡ Void
unfolding tree_at
nowhere table id e = ap (tree_of table (tree_within id.0 table)) e

-- the members of a struct have smaller numbers
pub members_below : (table : Types) (n number : ℕ) → HasMembersBelow table n number → AllBelow n (members_at table number)
members_below table n number h = subst (AllBelow n) (sym (ap (λ (o : Option (List TyId)). unwrap_or o []) h.there)) h.below

pub below_at : (n : ℕ) (ids : List TyId) (i : ℕ) (d : TyId) → i < length ids → AllBelow n (drop i ids) → (get_or ids i d).0 < n
below_at n [] i d lt h = absurd (omega (arith, lt))
below_at n (id ∷ ids) zero d lt h = h.0
below_at n (id ∷ ids) (suc i) d lt h = below_at n ids i d (omega (arith, lt)) h

pub below_more : (n : ℕ) (ids : List TyId) (i : ℕ) → AllBelow n (drop i ids) → AllBelow n (drop (i + 1) ids)
below_more n ids i h = subst (λ (k : ℕ). AllBelow n (drop k ids)) (sym (add-one i)) (more ids i h)
  where
    more : (ids : List TyId) (i : ℕ) → AllBelow n (drop i ids) → AllBelow n (drop (suc i) ids)
    more [] i h = tt
    more (id ∷ ids) zero h = h.1
    more (id ∷ ids) (suc i) h = more ids i h

-- a struct is taken from its first member on
pub pointers_struct : (at : AbsPlace) (part : TyId → TypeTree) (ids : List TyId) → pointers_in at (struct_of part ids) ≡ pointers_from at 0 (struct_of part ids)
pointers_struct at part [] = refl
pointers_struct at part (id ∷ ids) = refl

pub places_struct : (at : AbsPlace) (part : TyId → TypeTree) (ids : List TyId) → places_in at (struct_of part ids) ≡ at ∷ places_from at 0 (struct_of part ids)
places_struct at part [] = refl
places_struct at part (id ∷ ids) = refl

-- the members that were pushed one after the other are those of the struct
module _ (at : AbsPlace) (types : Types) (id : TyId) (number m : ℕ) (ids : List TyId) (all old : List AbsPlace) (made : tree_at types id ≡ struct_of (tree_at types) (members_at types number))
    (are : ids ≡ members_at types number) (past : drop m ids ≡ []) where
  tree_is : tree_at types id ≡ struct_of (tree_at types) ids
  tree_is = made ∙ ap (struct_of (tree_at types)) (sym are)

  pub pointers_pushed : all ++ pointers_from at m (struct_of (tree_at types) (drop m ids)) ≡ old ++ pointers_from at 0 (struct_of (tree_at types) ids) → all ≡ old ++ pointers_in at (tree_at types id)
  pointers_pushed added =
      sym (append-nil all)
      ∙ ap (λ (rest : List TyId). all ++ pointers_from at m (struct_of (tree_at types) rest)) (sym past)
      ∙ added
      ∙ ap (λ (ps : List AbsPlace). old ++ ps) (sym (pointers_struct at (tree_at types) ids) ∙ ap (pointers_in at) (sym tree_is))

  pub places_pushed : (first : List AbsPlace) → first ≡ old ++ at ∷ [] → all ++ places_from at m (struct_of (tree_at types) (drop m ids)) ≡ first ++ places_from at 0 (struct_of (tree_at types) ids) → all ≡ old ++ places_in at (tree_at types id)
  places_pushed first one added =
      sym (append-nil all)
      ∙ ap (λ (rest : List TyId). all ++ places_from at m (struct_of (tree_at types) rest)) (sym past)
      ∙ added
      ∙ ap (λ (ps : List AbsPlace). ps ++ places_from at 0 (struct_of (tree_at types) ids)) one
      ∙ append_assoc old (at ∷ []) (places_from at 0 (struct_of (tree_at types) ids))
      ∙ ap (λ (ps : List AbsPlace). old ++ ps) (sym (places_struct at (tree_at types) ids) ∙ ap (places_in at) (sym tree_is))

caused_listed : (f : Function) (code : List Linked) → flat_map (spot_elements f) (map spot_of_linked code) ≡ flat_map (caused_at f) code
caused_listed f [] = refl
caused_listed f (l ∷ ls) = ap (λ es. caused_at f l ++ es) (caused_listed f ls)

-- the elements with causes of a function's points are those of what stands there
pub caused_of_spots : (f : Function) (spots : List Spot) → spots ≡ map spot_of_linked (code_of f) → flat_map (spot_elements f) spots ≡ caused_elements f
caused_of_spots f spots are = ap (flat_map (spot_elements f)) are ∙ caused_listed f (code_of f)
