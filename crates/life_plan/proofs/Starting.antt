-- A plan that was just made.
use Rattle.std.proofs.Common.{◌≡◌, ◌≢◌, ◌<◌, ℕ, Bool, true, false, length, Option, Some, None, refl, subst}
use Rattle.std.proofs.lemmas.Bool.{both_ways}
use Rattle.std.specs.Prelude.{slice_get, Box, IsTrue}
use Rattle.std.specs.declared.alloc.Global.{Global}
use Rattle.std.specs.declared.vec.Vec.{Vec}
use Rattle.life_sets.specs.NumberSets.{holds}
use Rattle.life_plan.specs.Carried.{carried_by, has_no_table, is_whole, AreCarried, IsCarried}
use Rattle.life_plan.specs.Crossing.{Crossing}
use Rattle.life_plan.specs.Numbered.{AreReadings, IsMarking, IsStaying}
use Rattle.life_plan.specs.declared.marking.Marking.{Marking}
use Rattle.life_plan.specs.declared.plan.Plan.{Plan}
use Rattle.life_plan.specs.declared.reading.Reading.{Reading}
use Rattle.life_plan.specs.declared.staying.Staying.{Staying}
use Rattle.life_plan.specs.declared.tabulated.Tabulated.{Tabulated}
use Rattle.life_plan.proofs.Naming.{holds_within}

-- it has nothing to answer for where all locations are due
pub starts_carried : (c : Crossing) (s : Staying) (m : Marking) (readings : Vec Reading Global) → IsStaying c s → IsMarking c m → AreReadings c readings.items → ((n : ℕ) → holds m.seen n ≡ false) → ((n : ℕ) → holds m.mask n ≡ false)
    → ((k : ℕ) (r : Reading) → slice_get readings.items k ≡ Some r → (e : ℕ) → holds r.seen e ≡ false) → (due : ℕ → Bool) (from into : ℕ → ℕ → Bool) → ((l : ℕ) → l < length c.table.locations → due l ≡ true)
    → AreCarried c (record { is_fresh = true; staying = s; marking = m; readings = readings }) due from into
starts_carried c s m readings is_s is_m are no_seen no_mask none_seen due from into all = record {
  means = record { staying = is_s; marking = is_m; readings = are };
  fresh = λ _ l lt. all l lt;
  none = λ old l m h. absurd (both_ways true old refl);
  targets = record {
    seen = λ q e not_due target h. absurd (both_ways (due q) not_due (all q (subst (λ (n : ℕ). q < n) is_m.within (holds_within m.targets q target))));
    marked = λ d e h marks. absurd (both_ways (holds m.seen d) (no_seen d) h);
    only = λ e h. absurd (both_ways (holds m.mask e) (no_mask e) h);
  };
  kept = λ l m not_due h. absurd (both_ways (due l) not_due (all l h.0));
  made = record {
    made = λ k r at l m h. absurd (both_ways (holds r.seen h.1.1.0) (none_seen k r at h.1.1.0) h.1.1.1.0);
    seen = λ k r at not_due e h. absurd (both_ways (due r.location) not_due (all r.location (are.sized k r at).0));
  };
}

-- where it carries each fact as it is, it has nothing to answer for from a row without facts, whatever is due
carried_from_none : {Z : Type 0} (c : Crossing) (t : Option (Box Tabulated Z)) (before due : ℕ → Bool) (from into : ℕ → ℕ → Bool) → IsTrue (has_no_table t) → ((l m : ℕ) → from l m ≢ true) → carried_by c t before from into → carried_by c t due from into
carried_from_none c None before due from into whole none h = record { still = h.still; kept = λ l m _ _ held. absurd (none l m held) }
carried_from_none c (Some t) before due from into whole none h = absurd (cc)

pub whole_from_none : (c : Crossing) (plan : Plan) (before due : ℕ → Bool) (from into : ℕ → ℕ → Bool) → IsTrue (is_whole plan) → ((l m : ℕ) → from l m ≢ true) → IsCarried c plan before from into → IsCarried c plan due from into
whole_from_none c plan before due from into whole none h = carried_from_none c plan.tabulated before due from into whole none h
