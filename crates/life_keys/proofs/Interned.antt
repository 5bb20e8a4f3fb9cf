-- Tables of an insertion order, seen as lists of texts.
use Rattle.std.proofs.Common.{◌≡◌, ◌∙◌, ◌+◌, ℕ, Bool, true, false, cond, List, [], ◌∷◌, ◌++◌, map, take, Some, zero, suc, add-one, refl, sym, ap}
use Rattle.std.proofs.lemmas.List.{map-append}
use Rattle.std.specs.Prelude.{slice_get}
use Rattle.std.specs.List.{list_any, position_or_len}
use Rattle.std.specs.Str.{bytes_eq}
use Rattle.life_keys.specs.Keys.{with_text, number_of}

module _ {T : Type 0} (view : T → List ℕ) (k : T) where
  any_view : (ks : List T) → list_any (λ x. bytes_eq (view k) (view x)) ks ≡ list_any (bytes_eq (view k)) (map view ks)
  any_view [] = refl
  any_view (x ∷ xs) = rw (any_view xs) refl

  pub position_view : (ks : List T) → position_or_len (λ x. bytes_eq (view k) (view x)) ks ≡ number_of (map view ks) (view k)
  position_view [] = refl
  position_view (x ∷ xs) = rw (position_view xs) refl

  pub keys_view : (ks : List T) → map view (cond (list_any (λ x. bytes_eq (view k) (view x)) ks) ks (ks ++ k ∷ [])) ≡ with_text (map view ks) (view k)
  keys_view ks = go (list_any (bytes_eq (view k)) (map view ks)) (any_view ks)
    where
      go : (b : Bool) → list_any (λ x. bytes_eq (view k) (view x)) ks ≡ b → map view (cond (list_any (λ x. bytes_eq (view k) (view x)) ks) ks (ks ++ k ∷ [])) ≡ cond b (map view ks) (map view ks ++ view k ∷ [])
      go true e = rw e refl
      go false e = rw e (map-append view ks (k ∷ []))

-- the first few texts of a table, with one more
pub one_more : {T V : Type 0} (view : T → List ℕ) (seen : V → List ℕ) (ks : List T) (i : ℕ) (k : T) (list more : List V) (v : V) → slice_get ks i ≡ Some k → seen v ≡ view k
    → map seen list ≡ take i (map view ks) → more ≡ list ++ v ∷ [] → map seen more ≡ take (i + 1) (map view ks)
one_more view seen ks i k list more v here same before is = rw (is, add-one) (map-append seen list (v ∷ []) ∙ rw (before, same) (sym (step ks i here)))
  where
    step : (ks : List _) (i : ℕ) → slice_get ks i ≡ Some k → take (suc i) (map view ks) ≡ take i (map view ks) ++ view k ∷ []
    step [] i here = cc
    step (x ∷ xs) zero here = let same : x ≡ k = cc in rw same refl
    step (x ∷ xs) (suc i) here = rw (step xs i here) refl
