-- What gives nothing.
use Rattle.std.proofs.Common.{◌≡◌, Bool, true, false, true≢false, cond, if◌then◌else◌, List, [], ◌∷◌, refl}
use Rattle.std.specs.Prelude.{◌&&◌}
use Rattle.std.specs.List.{flat_map, list_any}
use Rattle.life_contract.specs.Breaking.{of_pairs}

pub cond_none : {A : Type 0} (b : Bool) (xs : List A) → b ≡ false → cond b xs [] ≡ []
cond_none true xs h = absurd (true≢false h)
cond_none false xs h = refl

pub either_none : {A : Type 0} (b : Bool) (xs : List A) → xs ≡ [] → (if b then xs else []) ≡ []
either_none true xs h = h
either_none false xs h = refl

pub flat_map_empty : {A B : Type 0} (g : A → List B) (xs : List A) → ((a : A) → g a ≡ []) → flat_map g xs ≡ []
flat_map_empty g [] none = refl
flat_map_empty g (x ∷ xs) none = rw (none x) (flat_map_empty g xs none)

pub pairs_empty : {A B : Type 0} (g : A → A → List B) (xs : List A) → ((a b : A) → g a b ≡ []) → of_pairs g xs ≡ []
pairs_empty g [] none = refl
pairs_empty g (x ∷ xs) none = rw (flat_map_empty (g x) xs (none x)) (pairs_empty g xs none)

pub any_none : {A : Type 0} (g : A → Bool) (xs : List A) → ((a : A) → g a ≡ false) → list_any g xs ≡ false
any_none g [] none = refl
any_none g (x ∷ xs) none = rw (none x) (any_none g xs none)

pub and_first : (a b : Bool) → a ≡ false → (a && b) ≡ false
and_first true b h = absurd (true≢false h)
and_first false b h = refl

pub and_second : (a b : Bool) → b ≡ false → (a && b) ≡ false
and_second true b h = h
and_second false b h = refl
