-- What a plan that has carried all gives, and what it keeps as rows and due sets grow.
use Rattle.std.proofs.Common.{◌≡◌, ℕ, Box, Global, Bool, true, false, List, [], cond, map, Option, Some, None, inl, inr, ap, sym, ◌∙◌, subst, not, ◌&&◌}
use Rattle.std.proofs.lemmas.Bool.{and_parts, both_ways, cases_Bool, false_from_ne_true, not-true}
use Rattle.std.proofs.lemmas.List.Elements.{Contains-append_cases}
use Rattle.std.proofs.lemmas.Option.{slice_get_within}
use Rattle.std.specs.Prelude.{Contains, IsTrue, slice_get}
use Rattle.life_types.specs.Types.{Types}
use Rattle.life_core.specs.Function.{Function}
use Rattle.life_core.specs.declared.stmt.Edge.{Edge}
use Rattle.life_contract.specs.Signatures.{Signature}
use Rattle.life_pset.specs.Table.{Names}
use Rattle.life_pset.specs.TableInvariant.{HasOneNumber}
use Rattle.life_pset.specs.declared.element.Element.{Element}
use Rattle.life_pset.specs.declared.element.Fact.{Fact}
use Rattle.life_pset.proofs.Members.{none_in_empty, cons_cases}
use Rattle.life_pset.proofs.Numbers.{one_element, one_location}
use Rattle.life_rules.specs.FactSets.{CarriesPair, Includes}
use Rattle.life_rules.specs.Matching.{fact_at, facts_at}
use Rattle.life_rules.specs.Staying.{mark, marks, spot_reads, spot_targets, spot_writes, staying}
use Rattle.life_plan.specs.Carried.{AreCarried, IsCarried, carried_by}
use Rattle.life_plan.specs.Crossing.{Crosses, Crossing, FromNone, FromOne, FromTwo, crossing_of}
use Rattle.life_plan.specs.Numbered.{made_by}
use Rattle.life_plan.specs.declared.plan.Plan.{Plan}
use Rattle.life_plan.specs.declared.tabulated.Tabulated.{Tabulated}
use Rattle.life_plan.proofs.Crossings.{carries_crosses}
use Rattle.life_plan.proofs.Laws.{ones, twos}
use Rattle.life_plan.proofs.Naming.{cond_other, cond_parts, made_facts_is, map_from}
use Rattle.life_plan.proofs.AllKept.{whole_settled}

-- the mark at a location
marked_at : (o : Option Element) (b : Bool) (x y : Fact) → Contains (cond b (facts_at x.location o) []) y → (b ≡ true) × ((o ≡ Some y.element) × (x.location ≡ y.location))
marked_at o b x y h = let k = cond_parts b (facts_at x.location o) y h in (k.0, by o k.1)
  where
    by : (o : Option Element) → Contains (facts_at x.location o) y → (o ≡ Some y.element) × (x.location ≡ y.location)
    by None h = absurd (none_in_empty y h)
    by (Some e) h =
        elim (cons_cases (fact_at x.location e) [] y h) [
          | inl is ↦ (ap (λ (z : Fact). Some z.element) is, ap (λ (z : Fact). z.location) is)
          | inr none ↦ absurd (none_in_empty y none)
        ]

module _ (c : Crossing) (unique : HasOneNumber c.table.locations) (plan : Tabulated) (due : ℕ → Bool) (from into : ℕ → ℕ → Bool) (carried : AreCarried c plan due from into) (none_due : (l : ℕ) → due l ≡ false) where
  settled_none : (l m : ℕ) → FromNone c l m → IsTrue (into l m)
  settled_none l m h =
      elim (cases_Bool plan.is_fresh) [
        | inl fresh ↦ absurd (both_ways (due l) (none_due l) (carried.fresh fresh l (slice_get_within c.table.locations l _ h.1.0.0)))
        | inr old ↦ carried.none old l m h
      ]

  -- what stays of a fact
  settled_kept : (x y : Fact) (k e l m : ℕ) → Names c.table k e x → IsTrue (from k e) → Names c.table l m y → Contains (cond (spot_writes c.spot x.location) [] (map (fact_at x.location) (staying c.types c.f c.spot x.element))) y → IsTrue (into l m)
  settled_kept x y k e l m names held named h =
      let parts = cond_other (spot_writes c.spot x.location) (map (fact_at x.location) (staying c.types c.f c.spot x.element)) y h in
      let z = map_from (fact_at x.location) (staying c.types c.f c.spot x.element) y parts.1 in
      let at : k ≡ l = unique k l x.location names.0 (named.0 ∙ ap (λ (w : Fact). Some w.location) (sym z.1.1)) in
      let to : slice_get c.table.elements m ≡ Some z.0 = named.1 ∙ ap (λ (w : Fact). Some w.element) (sym z.1.1) in
      let stays = (carried.means.staying.stays e m x.element z.0 names.1 to).1 z.1.0 in
      subst (λ n. IsTrue (into n m)) at
      (carried.kept k m (none_due k) (
        slice_get_within c.table.locations k x.location names.0,
        (carried.means.staying.written k x.location names.0 ∙ parts.0, (e, (slice_get_within c.table.elements e x.element names.1, (held, inl stays)))),
      ))

  -- what is made of it
  settled_made : (x y : Fact) (k e l m : ℕ) → Names c.table k e x → IsTrue (from k e) → Names c.table l m y → Contains (cond (spot_reads c.spot x.location) (made_by c x) []) y → IsTrue (into l m)
  settled_made x y k e l m names held named h =
      let parts = cond_parts (spot_reads c.spot x.location) (made_by c x) y h in
      let at = (carried.means.readings.each k x.location names.0).1 parts.0 in
      let seen = carried.made.seen at.0 at.1.0 at.1.1.0 (none_due at.1.0.location) e (subst (λ n. IsTrue (from n e)) (sym at.1.1.1) held) in
      let made = subst (λ xs. Contains xs y) (sym (made_facts_is c at.1.0.location e x (subst (λ n. Names c.table n e x) (sym at.1.1.1) names))) parts.1 in
      carried.made.made at.0 at.1.0 at.1.1.0 l m (y, (named, (e, (seen, made))))

  settled_one : (l m : ℕ) → FromOne c from l m → IsTrue (into l m)
  settled_one l m h =
      let x = h.0 in
      let k = h.1.0.0 in
      let e = h.1.0.1.0 in
      let y = h.1.1.0 in
      elim (Contains-append_cases (cond (spot_writes c.spot x.location) [] (map (fact_at x.location) (staying c.types c.f c.spot x.element))) (cond (spot_reads c.spot x.location) (made_by c x) []) y
      (subst (λ xs. Contains xs y) (ones c.sigs c.types c.f c.branch c.spot x) h.1.1.1.1)) [
        | inl kept ↦ settled_kept x y k e l m h.1.0.1.1.0 h.1.0.1.1.1 h.1.1.1.0 kept
        | inr made ↦ settled_made x y k e l m h.1.0.1.1.0 h.1.0.1.1.1 h.1.1.1.0 made
      ]

  settled_two : (l m : ℕ) → FromTwo c from l m → IsTrue (into l m)
  settled_two l m h =
      let x = h.0 in
      let y = h.1.0 in
      let target = h.1.1.0 in
      let victim = h.1.1.1.0 in
      let z = h.1.1.1.1.0 in
      let named = h.1.1.1.1.1.0 in
      let test = spot_targets c.sigs c.types c.f c.spot x.location && (marks c.spot x.element y.element && not (spot_writes c.spot y.location)) in
      let is = marked_at (mark c.spot) test y z (subst (λ xs. Contains xs z) (twos c.sigs c.types c.f c.spot x y) h.1.1.1.1.1.1) in
      let all = and_parts (spot_targets c.sigs c.types c.f c.spot x.location) (marks c.spot x.element y.element && not (spot_writes c.spot y.location)) is.0 in
      let both = and_parts (marks c.spot x.element y.element) (not (spot_writes c.spot y.location)) all.1 in
      let seen = carried.targets.seen target.0 target.1.0 (none_due target.0) (carried.means.marking.targets target.0 x.location target.1.1.0.0 ∙ all.0) target.1.1.1 in
      let masked = carried.targets.marked target.1.0 victim.1.0 seen (x.element, (y.element, (target.1.1.0.1, (victim.1.1.0.1, both.0)))) in
      let to = (carried.means.marking.mark m z.element named.1).1 is.1.0 in
      let at : victim.0 ≡ l = unique victim.0 l y.location victim.1.1.0.0 (named.0 ∙ ap Some (sym is.1.1)) in
      subst (λ n. IsTrue (into n m)) at
      (carried.kept victim.0 m (none_due victim.0) (
        slice_get_within c.table.locations victim.0 y.location victim.1.1.0.0,
        (
          carried.means.staying.written victim.0 y.location victim.1.1.0.0 ∙ not-true (spot_writes c.spot y.location) both.1,
          (victim.1.0, (slice_get_within c.table.elements victim.1.0 y.element victim.1.1.0.1, (victim.1.1.1, inr (masked, to)))),
        ),
      ))

  pub settled : (l m : ℕ) → Crosses c from l m → IsTrue (into l m)
  settled l m h =
      elim h [
        | inl none ↦ settled_none l m none
        | inr some ↦ elim some [ inl one ↦ settled_one l m one | inr two ↦ settled_two l m two ]
      ]

-- where nothing is due, all that the edge carries is there
pub carried_settled : (sigs : List Signature) (types : Types) (f : Function) (edge : Edge) (plan : Plan) (due : ℕ → Bool) (from into : ℕ → ℕ → Bool)
    → IsCarried (crossing_of sigs types f edge) plan due from into → ((l : ℕ) → due l ≡ false) → (l m : ℕ) → CarriesPair sigs types f edge from l m → IsTrue (into l m)
carried_settled sigs types f edge plan due from into carried none l m h =
    by plan.tabulated carried (carries_crosses sigs types f edge from l m h)
  where
    c : Crossing
    c = crossing_of sigs types f edge

    by : (o : Option (Box Tabulated Global)) → carried_by c o due from into → Crosses c from l m → IsTrue (into l m)
    by None kept h = whole_settled c (one_location types f) (one_element types f) due from into kept none l m h
    by (Some t) carried h = settled c (one_location types f) t.value due from into carried none l m h

-- the first row gained pairs at locations that are due now, and what was due is
pub carried_due : (c : Crossing) (plan : Plan) (due now_due : ℕ → Bool) (from now_from into : ℕ → ℕ → Bool) → ((l : ℕ) → IsTrue (due l) → IsTrue (now_due l)) → Includes from now_from
    → ((l e : ℕ) → now_due l ≡ false → IsTrue (now_from l e) → IsTrue (from l e)) → IsCarried c plan due from into → IsCarried c plan now_due now_from into
carried_due c plan due now_due from now_from into more grown same was = by plan.tabulated was
  where
    before : (l : ℕ) → now_due l ≡ false → due l ≡ false
    before l not_due = false_from_ne_true (due l) (λ t. both_ways (now_due l) not_due (more l t))

    by : (o : Option (Box Tabulated Global)) → carried_by c o due from into → carried_by c o now_due now_from into
    by None was = record { still = was.still; kept = λ l m not_due lt h. was.kept l m (before l not_due) lt (same l m not_due h) }
    by (Some t) was = record {
      means = was.means;
      fresh = λ fresh l within. more l (was.fresh fresh l within);
      none = was.none;
      targets = record {
        seen = λ q e not_due target h. was.targets.seen q e (before q not_due) target (same q e not_due h);
        marked = was.targets.marked;
        only = λ e h. let k = was.targets.only e h in (k.0, (k.1.0, (k.1.1.0, (grown k.0 k.1.0 k.1.1.1.0, k.1.1.1.1))));
      };
      kept = λ l m not_due h. was.kept l m (before l not_due) (h.0, (h.1.0, (h.1.1.0, (h.1.1.1.0, (same l h.1.1.0 not_due h.1.1.1.1.0, h.1.1.1.1.1)))));
      made = record {
        made = was.made.made;
        seen = λ k r at not_due e h. was.made.seen k r at (before r.location not_due) e (same r.location e not_due h);
      };
    }

-- the second row gained pairs
pub carried_into : (c : Crossing) (plan : Plan) (due : ℕ → Bool) (from into now_into : ℕ → ℕ → Bool) → Includes into now_into → IsCarried c plan due from into → IsCarried c plan due from now_into
carried_into c plan due from into now_into grown was = by plan.tabulated was
  where
    by : (o : Option (Box Tabulated Global)) → carried_by c o due from into → carried_by c o due from now_into
    by None was = record { still = was.still; kept = λ l m not_due lt h. grown l m (was.kept l m not_due lt h) }
    by (Some t) was = record {
      means = was.means;
      fresh = was.fresh;
      none = λ old l m h. grown l m (was.none old l m h);
      targets = was.targets;
      kept = λ l m not_due h. grown l m (was.kept l m not_due h);
      made = record {
        made = λ k r at l m h. grown l m (was.made.made k r at l m h);
        seen = was.made.seen;
      };
    }
