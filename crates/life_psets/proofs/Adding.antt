-- The sets of points and of functions, one after the other.
use Rattle.std.proofs.Common.{◌≡◌, ◌<◌, ◌≤◌, ◌↔◌, ℕ, suc, ◌+◌, Bool, false, IsTrue, List, [], ◌∷◌, ◌++◌, Option, Some, None, length, map, drop, slice_get, refl, ap, sym, subst, ◌∙◌, append_assoc, append-nil, arith}
use Rattle.std.proofs.lemmas.List.{drop_all, drop_more}
use Rattle.std.proofs.lemmas.Option.{get_or_from_slice_get, slice_get_within}
use Rattle.life_types.specs.Types.{Types}
use Rattle.life_core.specs.Function.{Function, Program}
use Rattle.life_core.specs.Linked.{code_of, points_of, spot_of_linked}
use Rattle.life_core.specs.Node.{spot_seen}
use Rattle.life_core.specs.Tree.{Spot}
use Rattle.life_core.specs.declared.node.SpotRef.{SpotRef}
use Rattle.life_contract.specs.Signatures.{Signature, signatures_of}
use Rattle.life_pset.specs.Table.{Table}
use Rattle.life_pset.specs.declared.element.AbsPlace.{AbsPlace}
use Rattle.life_fix.specs.Solution.{IsDerivedPair, IsSolution, Solved, numbered_row}
use Rattle.life_fix.specs.Solving.{pairs_in}
use Rattle.life_fix.proofs.PointRows.{there}
use Rattle.life_psets.specs.Sets.{SetAt, element_if, held_elements, in_turn, set_of, sets_at, sets_before, AddsSets, AreSets, AreSetsFrom}
use Rattle.life_psets.specs.declared.line.Before.{Before}
use Rattle.life_psets.proofs.InTurn.{next, turn_nothing}

-- ---- points

-- a location without elements has no set
set_of_nothing : (at : Before) (o : Option AbsPlace) → set_of at o [] ≡ []
set_of_nothing at None = refl
set_of_nothing at (Some location) = refl

-- where nothing is derived there are no sets
pub nothing_before : (at : Before) (t : Table) → sets_before at t (λ l e. false) ≡ []
nothing_before at t =
    turn_nothing (λ l. set_of at (slice_get t.locations l) (held_elements t (λ e. false)))
    (λ l. ap (set_of at (slice_get t.locations l)) (turn_nothing (λ e. element_if false (slice_get t.elements e)) (λ e. refl) (length t.elements)) ∙ set_of_nothing at (slice_get t.locations l))
    (length t.locations)

-- the row of a point gives the point's sets
pub row_sets : {R : Type 0} (has : R → ℕ → ℕ → Bool) (function k : ℕ) (t : Table) (rows : List R) (spot : Spot) (spots : List Spot) (row : Option R)
    → slice_get spots k ≡ Some spot → row ≡ numbered_row rows (k + 1)
    → sets_before (record { function = function; point = record { 0 = k + 1 }; place = spot.place }) t (pairs_in has row) ≡ sets_at function t k (slice_get spots k) (pairs_in has (slice_get rows k))
row_sets {R} has function k t rows spot spots row at is =
    ap (λ (r : Option R). sets_before (record { function = function; point = record { 0 = k + 1 }; place = spot.place }) t (pairs_in has r)) (is ∙ ap (numbered_row rows) (next k))
    ∙ ap (λ (n : ℕ). sets_before (record { function = function; point = record { 0 = n }; place = spot.place }) t (pairs_in has (slice_get rows k))) (next k)
    ∙ sym (ap (λ (s : Option Spot). sets_at function t k s (pairs_in has (slice_get rows k))) at)

-- what is made of a solution are the function's sets
pub solved_sets : {R : Type 0} (has : R → ℕ → ℕ → Bool) (location_limit element_limit : R → ℕ) (sigs : List Signature) (types : Types) (function : ℕ) (f : Function) (solution : Solved R) (spots : List SpotRef) (before after : List SetAt)
    → IsSolution has location_limit element_limit sigs types f solution → map spot_seen spots ≡ map spot_of_linked (code_of f) → length spots ≡ points_of f
    → after ≡ before ++ in_turn (length spots) (λ k. sets_at function solution.table k (slice_get (map spot_seen spots) k) (pairs_in has (slice_get solution.rows k)))
    → AddsSets sigs types function f before after
solved_sets {R} has location_limit element_limit sigs types function f solution spots before after solved all count behind = record {
  sets = in_turn (length spots) (λ k. sets_at function solution.table k (slice_get (map spot_seen spots) k) (pairs_in has (slice_get solution.rows k)));
  all = record {
    held = λ k. pairs_in has (slice_get solution.rows k);
    derived = just;
    are = λ i. in_turn (count i) (λ k. sets_at function (solved.table i) k (slice_get (all i) k) (pairs_in has (slice_get solution.rows k)));
  };
  behind = behind;
}
  where
    just : (k l e : ℕ) → k < points_of f → IsTrue (pairs_in has (slice_get solution.rows k) l e) ↔ IsDerivedPair sigs types f (record { 0 = suc k }) l e
    just k l e lt =
        let row = there solution.rows k (omega (arith, lt, solved.count)) in
        subst (λ (o : Option R). IsTrue (pairs_in has o l e) ↔ IsDerivedPair sigs types f (record { 0 = suc k }) l e) (sym row.1) (solved.pairs (record { 0 = suc k }) row.0 row.1 l e)

-- ---- functions

-- with those of the functions that are left these are the sets of the program
abbrev pub IsSoFar : Program → ℕ → List SetAt → Type 0
IsSoFar p k sets = (others : List SetAt) → AreSetsFrom (signatures_of p.functions) p.types k (drop k p.functions) others → AreSets p (sets ++ others)

rest_from : {A : Type 0} (xs : List A) (k : ℕ) (x : A) → slice_get xs k ≡ Some x → drop k xs ≡ x ∷ drop (k + 1) xs
rest_from {A} xs k x at = drop_more xs k x (slice_get_within xs k x at) ∙ ap (λ (y : A). y ∷ drop (k + 1) xs) (get_or_from_slice_get xs k x x at)

pub sets_next : (p : Program) (k : ℕ) (f : Function) (before after : List SetAt) → slice_get p.functions k ≡ Some f → AddsSets (signatures_of p.functions) p.types k f before after → IsSoFar p k before → IsSoFar p (k + 1) after
sets_next p k f before after at adds was = λ others rest.
    let sigs = signatures_of p.functions in
    let left : AreSetsFrom sigs p.types k (drop k p.functions) (adds.sets ++ others) =
    subst (λ (fs : List Function). AreSetsFrom sigs p.types k fs (adds.sets ++ others)) (sym (rest_from p.functions k f at)) (adds.sets, (others, (adds.all, (rest, refl)))) in
    subst (AreSets p) (sym (ap (λ (xs : List SetAt). xs ++ others) adds.behind ∙ append_assoc before adds.sets others)) (was (adds.sets ++ others) left)

pub sets_whole : (p : Program) (k : ℕ) (sets : List SetAt) → length p.functions ≤ k → IsSoFar p k sets → AreSets p sets
sets_whole p k sets past was =
    subst (AreSets p) (append-nil sets) (was [] (subst (λ (fs : List Function). AreSetsFrom (signatures_of p.functions) p.types k fs []) (sym (drop_all k p.functions past)) refl))
