-- One after the other, as a loop goes through them.
use Rattle.std.proofs.Common.{◌≡◌, ℕ, ◌+◌, ◌<◌, ◌≤◌, List, [], ◌∷◌, ◌++◌, Ok, Err, drop, get_or, length, map, refl, sym, ap, ◌∙◌, append_assoc}
use Rattle.std.proofs.lemmas.List.{append-nil, at_drop_all, at_drop_more, map_push}
use Rattle.life_types.specs.Types.{Types}
use Rattle.life_names.specs.Checked.{Checked, Fails, ◌>>=◌}
use Rattle.life_type_stmt.specs.Each.{each}
use Rattle.life_names.specs.Environment.{Scope}
use Rattle.life_names.specs.declared.fault.IllFault.{IllFault}
use Rattle.life_names.specs.declared.fault.IllFault.TheVariants as faults

-- what was found before, and what is still found
abbrev pub with_found : {B : Type 0} → List B → Checked (List B) → Checked (List B)
with_found front checked = checked >>= (λ ys. Ok (front ++ ys.0, ys.1))

regroup : {B : Type 0} (front : List B) (x : B) (checked : Checked (List B)) → with_found front (checked >>= (λ ys. Ok (x ∷ ys.0, ys.1))) ≡ with_found (front ++ x ∷ []) checked
regroup {B} front x (Ok ys) = ap (λ (zs : List B). Ok (zs, ys.1)) (sym (append_assoc front (x ∷ []) ys.0))
regroup front x (Err e) = refl

module _ {A B : Type 0} (f : A → Scope → Types → Checked B) where
  -- one more
  pub found_more : (front : List B) (a : A) (rest : List A) (scope : Scope) (types grown : Types) (x : B) (total : Checked (List B))
      → with_found front (each f (a ∷ rest) scope types) ≡ total → f a scope types ≡ Ok (x, grown) → with_found (front ++ x ∷ []) (each f rest scope grown) ≡ total
  found_more front a rest scope types grown x total so_far one = sym (regroup front x (each f rest scope grown)) ∙ rw one at so_far

  -- the next breaks a rule
  pub found_broken : (front : List B) (a : A) (rest : List A) (scope : Scope) (types : Types) (e : IllFault) (total : Checked (List B))
      → with_found front (each f (a ∷ rest) scope types) ≡ total → Fails e (f a scope types) → Fails e total
  found_broken front a rest scope types faults.NoMemory total so_far broke = tt
  found_broken front a rest scope types (faults.Ill kind place) total so_far broke = sym so_far ∙ rw broke refl

  -- there is no other
  pub found_all : (front : List B) (scope : Scope) (types : Types) (total : Checked (List B)) → with_found front (each f [] scope types) ≡ total → total ≡ Ok (front, types)
  found_all front scope types total so_far = sym so_far ∙ rw append-nil refl

-- ---- of a list that a loop goes through, seen by view as far as it has come

module _ {A X B : Type 0} (f : A → Scope → Types → Checked B) (view : X → B) (all : List A) (i : ℕ) (a : A) (scope : Scope) (types : Types) (found : List X) (total : Checked (List B)) where
  next_one : i < length all → a ≡ get_or all i a → with_found (map view found) (each f (drop i all) scope types) ≡ total → with_found (map view found) (each f (a ∷ drop (i + 1) all) scope types) ≡ total
  next_one within here so_far =
      ap (λ (b : A). with_found (map view found) (each f (b ∷ drop (i + 1) all) scope types)) here
      ∙ sym (at_drop_more (λ (xs : List A). with_found (map view found) (each f xs scope types)) all i a within) ∙ so_far

  pub one_found : (grown : Types) (x : X) (more : List X) → i < length all → a ≡ get_or all i a → with_found (map view found) (each f (drop i all) scope types) ≡ total
      → f a scope types ≡ Ok (view x, grown) → more ≡ found ++ x ∷ [] → with_found (map view more) (each f (drop (i + 1) all) scope grown) ≡ total
  one_found grown x more within here so_far one pushed =
      rw pushed (rw (map_push view found x) (found_more f (map view found) a (drop (i + 1) all) scope types grown (view x) total (next_one within here so_far) one))

  pub one_broken : (e : IllFault) → i < length all → a ≡ get_or all i a → with_found (map view found) (each f (drop i all) scope types) ≡ total → Fails e (f a scope types) → Fails e total
  one_broken e within here so_far broke = found_broken f (map view found) a (drop (i + 1) all) scope types e total (next_one within here so_far) broke

module _ {A X B : Type 0} (f : A → Scope → Types → Checked B) (view : X → B) where
  pub none_left : (all : List A) (i : ℕ) (scope : Scope) (types : Types) (found : List X) (total : Checked (List B)) → length all ≤ i
      → with_found (map view found) (each f (drop i all) scope types) ≡ total → total ≡ Ok (map view found, types)
  none_left all i scope types found total past so_far =
      found_all f (map view found) scope types total (sym (at_drop_all (λ (xs : List A). with_found (map view found) (each f xs scope types)) all i past) ∙ so_far)
