-- Code that control doesn't run past: it returns on each way.
use Rattle.std.proofs.Common.{◌≡◌, ◌⊎◌, inl, inr, ℕ, Bool, true, false, ◌&&◌, ◌||◌, List, [], ◌∷◌, ◌++◌, None, refl, sym, subst}
use Rattle.std.proofs.lemmas.Bool.{and_parts, false≢true, or_cases, or_left, or_right}
use Rattle.life_types.specs.Types.{Types}
use Rattle.life_types.specs.declared.place.Place.{Place}
use Rattle.life_core.specs.Function.{Function}
use Rattle.life_core.specs.Shape.{is_condition, is_statement}
use Rattle.life_core.specs.Tree.{Tree, Then, Asks, Both, Either, Negated, Choice, Returns, trees}
use Rattle.life_proper.specs.Checking.{flow}
use Rattle.life_proper.specs.Knowing.{State as Knowing}
use Rattle.life_well_typed.specs.Visible.{Visible}
use Rattle.life_writer.specs.Around.{Around}
use Rattle.life_writer.specs.Variables.{end}
use Rattle.life_writer.specs.Writing.{State}
use Rattle.life_elab_laws.proofs.Doing.{Does}
use Rattle.life_elab_laws.proofs.Nowhere.{none_met, nowhere_flows}

abbrev pub stops : Tree → Bool
stops (Returns place) = true
stops (Then a b) = stops a || stops b
stops (Choice t a b) = stops a && stops b
stops _ = false

pub stops_left : (c d : List Tree) → stops (trees c) ≡ true → stops (trees (c ++ d)) ≡ true
stops_left [] d h = absurd (false≢true h)
stops_left (t ∷ c) d h = elim (or_cases (stops t) (stops (trees c)) h) [
  | inl e ↦ or_left (stops t) (stops (trees (c ++ d))) e
  | inr e ↦ or_right (stops t) (stops (trees (c ++ d))) (stops_left c d e)
]

pub stops_right : (c d : List Tree) → stops (trees d) ≡ true → stops (trees (c ++ d)) ≡ true
stops_right [] d h = h
stops_right (t ∷ c) d h = or_right (stops t) (stops (trees (c ++ d))) (stops_right c d h)

pub stops_end : (xs : List ℕ) (place : Place) (s : State) → stops (trees s.code) ≡ true → stops (trees (end xs place s).code) ≡ true
stops_end [] place s h = h
stops_end (x ∷ xs) place s h = stops_left s.code _ h

-- what is written behind such code
pub still_stops : (types : Types) (texts : ℕ) (fs : List Function) (f : Function) (a : Around) (v : Visible) (in_loop : Bool) (s s' : State) → Does types texts fs f a v in_loop s s' → stops (trees s.code) ≡ true → stops (trees s'.code) ≡ true
still_stops types texts fs f a v in_loop s s' does h = subst (λ (c : List Tree). stops (trees c) ≡ true) (sym does.written) (stops_left s.code does.code h)

module _ (types : Types) (f : Function) where
  -- ---- no way comes to its end

  condition_next : (t : Tree) → is_condition t ≡ true → (o : Knowing) → (flow types f t o).next ≡ None
  condition_next (Then a b) h o = condition_next b (and_parts (is_statement a) (is_condition b) h).1 (flow types f a o).next
  condition_next (Asks place t) h o = refl
  condition_next (Both a b) h o =
      let parts = and_parts (is_condition a) (is_condition b) h in
      none_met (flow types f a o).next (flow types f b (flow types f a o).on_true).next (condition_next a parts.0 o) (condition_next b parts.1 (flow types f a o).on_true)
  condition_next (Either a b) h o =
      let parts = and_parts (is_condition a) (is_condition b) h in
      none_met (flow types f a o).next (flow types f b (flow types f a o).on_false).next (condition_next a parts.0 o) (condition_next b parts.1 (flow types f a o).on_false)
  condition_next (Negated a) h o = condition_next a h o
  condition_next _ h o = absurd (false≢true h)

  pub stops_next : (t : Tree) → is_statement t ≡ true → stops t ≡ true → (o : Knowing) → (flow types f t o).next ≡ None
  stops_next (Then a b) s h o = go (or_cases (stops a) (stops b) h) (stops_next a parts.0) (stops_next b parts.1)
    where
      parts : (is_statement a ≡ true) × (is_statement b ≡ true)
      parts = and_parts (is_statement a) (is_statement b) s

      go : (stops a ≡ true) ⊎ (stops b ≡ true) → (stops a ≡ true → (o : Knowing) → (flow types f a o).next ≡ None) → (stops b ≡ true → (o : Knowing) → (flow types f b o).next ≡ None) → (flow types f b (flow types f a o).next).next ≡ None
      go (inl e) first second = (nowhere_flows types f b (flow types f a o).next (first e o)).next
      go (inr e) first second = second e (flow types f a o).next
  stops_next (Choice t a b) s h o =
      let parts = and_parts (is_condition t) (is_statement a && is_statement b) s in
      let both = and_parts (is_statement a) (is_statement b) parts.1 in
      let over = and_parts (stops a) (stops b) h in
      let w = flow types f t o in
      let first = flow types f a w.on_true in
      let second = flow types f b w.on_false in
      none_met w.next _ (condition_next t parts.0 o) (none_met first.next second.next (stops_next a both.0 over.0 w.on_true) (stops_next b both.1 over.1 w.on_false))
  stops_next (Returns place) s h o = refl
  stops_next _ s h o = absurd (false≢true h)
