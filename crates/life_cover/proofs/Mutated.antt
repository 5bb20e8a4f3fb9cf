-- What a frame may touch behind its mutating inputs.
use Rattle.std.proofs.Common.{◌≡◌, ⊎_elim, ℕ, Bool, true, false, List, [], ◌∷◌, Option, Some, None, refl, ap, subst, ◌∙◌}
use Rattle.std.specs.Prelude.{Contains, ◌||◌}
use Rattle.std.specs.List.{list_any}
use Rattle.std.proofs.lemmas.Bool.{false≢true}
use Rattle.life_types.specs.Types.{Types}
use Rattle.life_core.specs.Function.{Function}
use Rattle.life_pset.specs.Elements.{Input, inputs_of}
use Rattle.life_pset.specs.declared.element.Root.{Root}
use Rattle.life_rules.proofs.Giving.{at_head, cons_cases, flat_map_from, flat_map_into, in_tail, none_in_empty}
use Rattle.life_store.proofs.CellLemmas.{none_some, some_same}
use Rattle.life_cover.specs.Inputs.{IsInput, StandsAt, mutated, no_inputs, owning, region_if}
use Rattle.life_cover.specs.Regions.{Region, is_in_region}

-- ---- some member of a list passes a test

pub some_passes : {A : Type 0} (test : A → Bool) (xs : List A) (x : A) → Contains xs x → test x ≡ true → list_any test xs ≡ true
some_passes test [] x among passes = absurd (none_in_empty x among)
some_passes test (y ∷ ys) x among passes = ⊎_elim
    (λ same. either (test y) (list_any test ys) (ap test same ∙ passes))
    (λ more. or_more (test y) (list_any test ys) (some_passes test ys x more passes))
    (cons_cases y ys x among)
  where
    either : (a b : Bool) → a ≡ true → (a || b) ≡ true
    either true b e = refl
    either false b e = absurd (false≢true e)

    or_more : (a b : Bool) → b ≡ true → (a || b) ≡ true
    or_more true b e = refl
    or_more false b e = e

pub which_passes : {A : Type 0} (test : A → Bool) (xs : List A) → list_any test xs ≡ true → (x : A) × Contains xs x × (test x ≡ true)
which_passes {A = A} test [] e = absurd (false≢true e)
which_passes {A = A} test (y ∷ ys) e = go (test y) refl e (which_passes test ys)
  where
    go : (b : Bool) → test y ≡ b → (b || list_any test ys) ≡ true → (list_any test ys ≡ true → (x : A) × Contains ys x × (test x ≡ true)) → (x : A) × Contains (y ∷ ys) x × (test x ≡ true)
    go true is e more = (y, at_head y ys, is)
    go false is e more = let r = more e in (r.0, in_tail y ys r.0 r.1, r.2)

-- ---- the regions behind mutating inputs

region_among : (o : Option Region) (b : Bool) (a : Region) → o ≡ Some a → b ≡ true → Contains (region_if o b) a
region_among (Some x) true a e h = subst (λ (z : Region). Contains (region_if (Some x) true) z) (some_same e) (at_head x [])
region_among (Some x) false a e h = absurd (false≢true h)
region_among None b a e h = absurd (none_some e)

region_of : (o : Option Region) (b : Bool) (a : Region) → Contains (region_if o b) a → (o ≡ Some a) × (b ≡ true)
region_of (Some x) true a h = ⊎_elim (λ same. (ap Some same, refl)) (λ none. absurd (none_in_empty a none)) (cons_cases x [] a h)
region_of (Some x) false a h = absurd (none_in_empty a h)
region_of None true a h = absurd (none_in_empty a h)
region_of None false a h = absurd (none_in_empty a h)

module _ (types : Types) (f : Function) (inputs : Root → Option Region) where
  pub mutated_among : (r : Root) (a : Region) → IsInput types f r a → StandsAt inputs r a → owning types f r ≡ true → Contains (mutated types f inputs) a
  mutated_among r a is stands own =
      flat_map_into (λ (i : Input). region_if (inputs i.root) (owning types f i.root)) (inputs_of types f) is.input a is.among
      (region_among (inputs is.input.root) (owning types f is.input.root) a (ap inputs is.named ∙ stands) (ap (owning types f) is.named ∙ own))

  pub mutated_from : (a : Region) → Contains (mutated types f inputs) a → (r : Root) × (StandsAt inputs r a) × (owning types f r ≡ true)
  mutated_from a h =
      let i = flat_map_from (λ (i : Input). region_if (inputs i.root) (owning types f i.root)) (inputs_of types f) a h in
      let o = region_of (inputs i.0.root) (owning types f i.0.root) a i.1.1 in
      (i.0.root, o.0, o.1)

  -- the owners there may be touched
  pub in_mutated : (r : Root) (a : Region) → IsInput types f r a → StandsAt inputs r a → owning types f r ≡ true → (m u : ℕ) → is_in_region types a m u ≡ true → list_any (λ b. is_in_region types b m u) (mutated types f inputs) ≡ true
  in_mutated r a is stands own m u = some_passes (λ b. is_in_region types b m u) (mutated types f inputs) a (mutated_among r a is stands own)

-- nothing is mutated where there is no input
pub none_mutated : (types : Types) (f : Function) (m u : ℕ) → list_any (λ b. is_in_region types b m u) (mutated types f no_inputs) ≡ true → ⊥
none_mutated types f m u e =
    let a = which_passes (λ b. is_in_region types b m u) (mutated types f no_inputs) e in
    none_some (mutated_from types f no_inputs a.0 a.1).1
