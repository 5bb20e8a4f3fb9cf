-- Parts one after the other, as a loop goes through them.
use Rattle.std.proofs.Common.{◌≡◌, ℕ, ◌+◌, ◌<◌, ◌≤◌, List, [], ◌∷◌, ◌++◌, drop, get_or, length, map, Ok, Err, refl, sym, ap, ◌∙◌, append_assoc}
use Rattle.std.proofs.lemmas.List.{append-nil, at_drop_all, at_drop_more, map_push}
use Rattle.life_types.specs.Types.{Types}
use Rattle.life_typed.specs.TypedStatement.{StmtForm}
use Rattle.life_names.specs.Checked.{Checked, Fails, ◌>>=◌}
use Rattle.life_names.specs.Environment.{Scope}
use Rattle.life_type_stmt.specs.Statements.{Part, in_turn}
use Rattle.life_type_stmt.specs.declared.around.Around.{Around}
use Rattle.life_names.specs.declared.fault.IllFault.{IllFault}
use Rattle.life_names.specs.declared.fault.IllFault.TheVariants as faults

-- what was said before, and what is still said
abbrev pub behind : List StmtForm → Checked (List StmtForm × Scope) → Checked (List StmtForm × Scope)
behind front checked = checked >>= (λ xs. Ok ((front ++ xs.0.0, xs.0.1), xs.1))

regroup : (front : List StmtForm) (x : StmtForm) (checked : Checked (List StmtForm × Scope))
    → behind front (checked >>= (λ xs. Ok ((x ∷ xs.0.0, xs.0.1), xs.1))) ≡ behind (front ++ x ∷ []) checked
regroup front x (Ok xs) = ap (λ (ys : List StmtForm). Ok ((ys, xs.0.1), xs.1)) (sym (append_assoc front (x ∷ []) xs.0.0))
regroup front x (Err e) = refl

-- one more
pub goes_on : (front : List StmtForm) (p : Part) (ps : List Part) (around : Around) (scope after : Scope) (types grown : Types) (x : StmtForm) (total : Checked (List StmtForm × Scope))
    → behind front (in_turn (p ∷ ps) around scope types) ≡ total → p around scope types ≡ Ok ((x, after), grown)
    → behind (front ++ x ∷ []) (in_turn ps around after grown) ≡ total
goes_on front p ps around scope after types grown x total so_far one = sym (regroup front x (in_turn ps around after grown)) ∙ rw one at so_far

-- the next breaks a rule
pub fails : (front : List StmtForm) (p : Part) (ps : List Part) (around : Around) (scope : Scope) (types : Types) (e : IllFault) (total : Checked (List StmtForm × Scope))
    → behind front (in_turn (p ∷ ps) around scope types) ≡ total → Fails e (p around scope types) → Fails e total
fails front p ps around scope types faults.NoMemory total so_far f = tt
fails front p ps around scope types (faults.Ill kind place) total so_far f = sym so_far ∙ rw f refl

-- there is no other
pub ends : (front : List StmtForm) (around : Around) (scope : Scope) (types : Types) (total : Checked (List StmtForm × Scope))
    → behind front (in_turn [] around scope types) ≡ total → total ≡ Ok ((front, scope), types)
ends front around scope types total so_far = sym so_far ∙ rw append-nil refl

-- ---- of a list that a loop goes through, seen by view as far as it has come; `turns` makes parts of its items, one by one

module _ {A X : Type 0} (part : A → Part) (turns : List A → List Part) (view : X → StmtForm) (all : List A) (i : ℕ) (around : Around) (scope : Scope) (types : Types) (found : List X)
    (total : Checked (List StmtForm × Scope)) where
  next_turn : (a : A) → turns (a ∷ drop (i + 1) all) ≡ part a ∷ turns (drop (i + 1) all) → i < length all → a ≡ get_or all i a
      → behind (map view found) (in_turn (turns (drop i all)) around scope types) ≡ total
      → behind (map view found) (in_turn (part a ∷ turns (drop (i + 1) all)) around scope types) ≡ total
  next_turn a first within here so_far =
      ap (λ (ps : List Part). behind (map view found) (in_turn ps around scope types)) (sym first)
      ∙ ap (λ (b : A). behind (map view found) (in_turn (turns (b ∷ drop (i + 1) all)) around scope types)) here
      ∙ sym (at_drop_more (λ (xs : List A). behind (map view found) (in_turn (turns xs) around scope types)) all i a within) ∙ so_far

  pub turn_taken : (a : A) (after : Scope) (grown : Types) (x : X) (more : List X) → turns (a ∷ drop (i + 1) all) ≡ part a ∷ turns (drop (i + 1) all) → i < length all → a ≡ get_or all i a
      → behind (map view found) (in_turn (turns (drop i all)) around scope types) ≡ total → part a around scope types ≡ Ok ((view x, after), grown) → more ≡ found ++ x ∷ []
      → behind (map view more) (in_turn (turns (drop (i + 1) all)) around after grown) ≡ total
  turn_taken a after grown x more first within here so_far one pushed =
      rw pushed (rw (map_push view found x)
      (goes_on (map view found) (part a) (turns (drop (i + 1) all)) around scope after types grown (view x) total (next_turn a first within here so_far) one))

  pub turn_broken : (a : A) (e : IllFault) → turns (a ∷ drop (i + 1) all) ≡ part a ∷ turns (drop (i + 1) all) → i < length all → a ≡ get_or all i a
      → behind (map view found) (in_turn (turns (drop i all)) around scope types) ≡ total → Fails e (part a around scope types) → Fails e total
  turn_broken a e first within here so_far broke = fails (map view found) (part a) (turns (drop (i + 1) all)) around scope types e total (next_turn a first within here so_far) broke

  pub turns_taken : turns [] ≡ [] → length all ≤ i → behind (map view found) (in_turn (turns (drop i all)) around scope types) ≡ total → total ≡ Ok ((map view found, scope), types)
  turns_taken none past so_far =
      ends (map view found) around scope types total
      (ap (λ (ps : List Part). behind (map view found) (in_turn ps around scope types)) (sym none)
      ∙ sym (at_drop_all (λ (xs : List A). behind (map view found) (in_turn (turns xs) around scope types)) all i past) ∙ so_far)
