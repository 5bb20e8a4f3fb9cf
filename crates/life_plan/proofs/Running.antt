-- The steps of a run, one after the other.
use Rattle.std.proofs.Common.{◌≡◌, ◌<◌, ℕ, Bool, true, false, List, inl, inr, sym, ◌∙◌, subst, length, ◌||◌}
use Rattle.std.proofs.lemmas.Bool.{cases_Bool, or_left, or_right}
use Rattle.std.specs.Prelude.{IsTrue}
use Rattle.life_core.specs.Function.{function_of}
use Rattle.life_sets.specs.NumberSets.{holds}
use Rattle.life_rules.specs.FactSets.{CarriesPair, GainsSome, Includes}
use Rattle.life_plan.specs.Carried.{AreMade, AreSeen, none_due}
use Rattle.life_plan.specs.Crossing.{Crosses, Crossing, FromNone, IsContext, crossing_in}
use Rattle.life_plan.specs.Numbered.{AreReadings, IsMarking, IsStaying, KeepsFrom, LeadsTo, MakesFrom}
use Rattle.life_plan.specs.declared.context.EdgeContext.{EdgeContext}
use Rattle.life_plan.specs.declared.marking.Marking.{Marking}
use Rattle.life_plan.specs.declared.reading.Reading.{Reading}
use Rattle.life_plan.specs.declared.staying.Staying.{Staying}
use Rattle.life_plan.proofs.Crossings.{crosses_carries, crossing_is}
use Rattle.life_plan.proofs.Growing.{some_as}
use Rattle.life_plan.proofs.Sound.{keeps_crosses, makes_crosses}

-- ---- what each step adds is what the edge carries

module _ (x : EdgeContext) (is : IsContext x) (from : ℕ → ℕ → Bool) where
  abbrev Carried : ℕ → ℕ → Type 0
  Carried = CarriesPair x.sigs.now x.types.now (function_of x.f.now) x.edge from

  carries : (l m : ℕ) → Crosses (crossing_in x) from l m → Carried l m
  carries l m h = crosses_carries x.sigs.now x.types.now (function_of x.f.now) x.edge from l m (subst (λ (c : Crossing). Crosses c from l m) (crossing_is x is) h)

  pub none_carried : (a b : ℕ → ℕ → Bool) → GainsSome a b (FromNone (crossing_in x)) → GainsSome a b Carried
  none_carried a b some = some_as a b (FromNone (crossing_in x)) Carried (λ l m h. carries l m (inl h)) some

  pub kept_carried : (s : Staying) (k : Marking) → IsStaying (crossing_in x) s → IsMarking (crossing_in x) k → AreSeen (crossing_in x) k none_due from → (locations elements : ℕ) → locations ≡ length x.table.now.locations → elements ≡ length x.table.now.elements
      → (a b : ℕ → ℕ → Bool) → GainsSome a b (KeepsFrom s k locations elements from) → GainsSome a b Carried
  kept_carried s k is_s is_k seen locations elements ls es a b some =
      some_as a b (KeepsFrom s k locations elements from) Carried (λ l m h. carries l m (keeps_crosses (crossing_in x) from s k is_s is_k seen.only locations elements ls es l m h)) some

  pub made_carried : (readings : List Reading) → AreReadings (crossing_in x) readings → (a b : ℕ → ℕ → Bool) → GainsSome a b (MakesFrom (crossing_in x) readings from) → GainsSome a b Carried
  made_carried readings are a b some = some_as a b (MakesFrom (crossing_in x) readings from) Carried (λ l m h. carries l m (makes_crosses (crossing_in x) from readings are l m h)) some

-- ---- what is there at the end

-- what is kept at a location was kept before, or is kept now
pub kept_after : (s : Staying) (before after : Marking) (locations elements : ℕ) (due : ℕ → Bool) (grew : Bool) (from first last : ℕ → ℕ → Bool)
    → ((l m : ℕ) → due l ≡ false → KeepsFrom s before locations elements from l m → IsTrue (first l m)) → Includes first last
    → after.mark ≡ before.mark → (grew ≡ false → (e : ℕ) → IsTrue (holds after.mask e) → IsTrue (holds before.mask e))
    → ((l m : ℕ) → IsTrue (grew || due l) → KeepsFrom s after locations elements from l m → IsTrue (last l m))
    → (l m : ℕ) → KeepsFrom s after locations elements from l m → IsTrue (last l m)
kept_after s before after locations elements due grew from first last was grown mark not_grown now l m h =
    elim (cases_Bool grew) [
      | inl all ↦ now l m (or_left grew (due l) all) h
      | inr same ↦ elim (cases_Bool (due l)) [
        | inl here ↦ now l m (or_right grew (due l) here) h
        | inr not_due ↦ grown l m (was l m not_due (h.0, (h.1.0, (h.1.1.0, (h.1.1.1.0, (h.1.1.1.1.0, leads h.1.1.0 same h.1.1.1.1.1))))))
      ]
    ]
  where
    leads : (e : ℕ) → grew ≡ false → LeadsTo s after e m → LeadsTo s before e m
    leads e same (inl stays) = inl stays
    leads e same (inr masked) = inr (not_grown same e masked.0, sym mark ∙ masked.1)

-- the limits under another name
pub keeps_within : (s : Staying) (k : Marking) (ls es locations elements : ℕ) → ls ≡ locations → es ≡ elements → (from : ℕ → ℕ → Bool) (l m : ℕ) → KeepsFrom s k ls es from l m → KeepsFrom s k locations elements from l m
keeps_within s k ls es locations elements p q from l m h = (subst (λ (n : ℕ). l < n) p h.0, (h.1.0, (h.1.1.0, (subst (λ (n : ℕ). h.1.1.0 < n) q h.1.1.1.0, h.1.1.1.1))))

-- what comes of no fact was there, or is now
pub none_after : (c : Crossing) (is_fresh : Bool) (first start last : ℕ → ℕ → Bool) → (is_fresh ≡ false → (l m : ℕ) → FromNone c l m → IsTrue (first l m)) → (is_fresh ≡ true → (l m : ℕ) → FromNone c l m → IsTrue (start l m))
    → Includes first last → Includes start last → (l m : ℕ) → FromNone c l m → IsTrue (last l m)
none_after c is_fresh first start last was now grown more l m h =
    elim (cases_Bool is_fresh) [
      | inl fresh ↦ more l m (now fresh l m h)
      | inr old ↦ grown l m (was old l m h)
    ]

-- the row that readings are made into has grown
pub made_into : (c : Crossing) (readings : List Reading) (due : ℕ → Bool) (from first last : ℕ → ℕ → Bool) → Includes first last → AreMade c readings due from first → AreMade c readings due from last
made_into c readings due from first last grown was = record {
  made = λ k r at l m h. grown l m (was.made k r at l m h);
  seen = was.seen;
}
