-- What stands at a point, in a list of the points.
use Rattle.std.proofs.Common.{◌≡◌, ◌≢◌, ℕ, zero, suc, ◌-◌, ◌<◌, ◌≤◌, List, Bor, Option, Some, None, refl, ap, sym, ◌∙◌, arith, get_or, length}
use Rattle.std.proofs.lemmas.Option.{slice_get-get_or, slice_get-map, slice_get_past}
use Rattle.std.specs.List.{HoldsAt}
use Rattle.std.specs.Option.{option_copied}
use Rattle.std.specs.Prelude.{map, option_map, slice_get, IfSome, MatchOption}
use Rattle.life_core.specs.Linked.{Linked, numbered, spot_of_linked}
use Rattle.life_core.specs.Tree.{Spot}

-- what `get` of a slice gives
pub got : {A : Type 0} (o : Option (Bor A)) (xs : List A) (i : ℕ) → IfSome o (λ x. x.now ≡ get_or xs i x.now)
    → MatchOption o (length xs ≤ i) (λ x. (i < length xs) × HoldsAt (λ y. x.now ≡ y) xs i) → option_copied o ≡ slice_get xs i
got None xs i is within = sym (slice_get_past xs i within)
got (Some x) xs i is within = ap Some is ∙ sym (slice_get-get_or xs i x.now within.0)

-- the points are numbered from 1
pub spot_at : {A : Type 0} (seen : A → Spot) (spots : List A) (code : List Linked) (n : ℕ) → n ≢ 0 → map seen spots ≡ map spot_of_linked code
    → option_map seen (slice_get spots (n - 1)) ≡ option_map spot_of_linked (numbered code n)
spot_at seen spots code zero some is = absurd (some refl)
spot_at seen spots code (suc k) some is =
    let e : suc k - 1 ≡ k = omega arith in
    ap (λ (n : ℕ). option_map seen (slice_get spots n)) e
    ∙ sym (slice_get-map seen spots k)
    ∙ ap (λ (xs : List Spot). slice_get xs k) is
    ∙ slice_get-map spot_of_linked code k
