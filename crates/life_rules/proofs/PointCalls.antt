-- What is called at a point, in a list of all points, which are numbered from 1.
use Rattle.std.proofs.Common.{◌≡◌, ◌≢◌, ◌∙◌, ◌-◌, ℕ, zero, suc, List, Option, Some, None, refl, sym, ap, subst, arith}
use Rattle.std.proofs.lemmas.Option.{slice_get-map}
use Rattle.std.specs.Prelude.{map, option_map, slice_get}
use Rattle.life_types.specs.Types.{Types}
use Rattle.life_core.specs.Linked.{Linked, numbered, spot_of_linked}
use Rattle.life_core.specs.Tree.{Spot}
use Rattle.life_contract.specs.Signatures.{Signature}
use Rattle.life_contract.specs.declared.callee.Callee.{Callee}
use Rattle.life_rules.specs.Callees.{callee_by, callee_in, callee_seen, joined, AreCallees, IsCallee}

none_some : {A : Type 0} (x : A) → None ≡ Some x → ⊥
none_some x h = cc

some_same : {A : Type 0} (x y : A) → Some x ≡ Some y → x ≡ y
some_same x y h = cc

joined_at : (types : Types) (sigs : List Signature) (callee : Option (Option Callee)) (spot : Option Spot)
    → option_map (option_map callee_seen) callee ≡ option_map (callee_by types sigs) spot → IsCallee types (callee_in sigs spot) (joined callee)
joined_at types sigs None None is = refl
joined_at types sigs None (Some s) is = absurd (none_some (callee_by types sigs s) is)
joined_at types sigs (Some c) None is = absurd (none_some (option_map callee_seen c) (sym is))
joined_at types sigs (Some c) (Some s) is = some_same (option_map callee_seen c) (callee_by types sigs s) is

pub callee_at_point : (types : Types) (sigs : List Signature) (callees : List (Option Callee)) (code : List Linked) (n : ℕ) → n ≢ 0 → AreCallees types sigs (map spot_of_linked code) callees
    → IsCallee types (callee_in sigs (option_map spot_of_linked (numbered code n))) (joined (slice_get callees (n - 1)))
callee_at_point types sigs callees code zero some are = absurd (some refl)
callee_at_point types sigs callees code (suc k) some are =
    let e : suc k - 1 ≡ k = omega arith in
    let at = sym (slice_get-map (option_map callee_seen) callees k) ∙ ap (λ (xs : List (Option (Signature × Types))). slice_get xs k) are ∙ slice_get-map (callee_by types sigs) (map spot_of_linked code) k in
    subst (λ (j : ℕ). IsCallee types (callee_in sigs (option_map spot_of_linked (slice_get code k))) (joined (slice_get callees j))) (sym e)
    (subst (λ (o : Option Spot). IsCallee types (callee_in sigs o) (joined (slice_get callees k))) (slice_get-map spot_of_linked code k)
    (joined_at types sigs (slice_get callees k) (slice_get (map spot_of_linked code) k) at))
