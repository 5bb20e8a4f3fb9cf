-- What a plan adds to a row is what the edge carries.
use Rattle.std.proofs.Common.{◌≡◌, ◌<◌, ℕ, Bool, true, false, List, [], cond, map, Option, Some, inl, inr, sym, ◌∙◌, subst, not, ◌&&◌, length}
use Rattle.std.proofs.lemmas.Bool.{and_from, not_from_false}
use Rattle.std.proofs.lemmas.List.Elements.{Contains-append_left, Contains-append_right}
use Rattle.std.specs.Prelude.{Contains, IfSome, IsTrue}
use Rattle.life_pset.specs.declared.element.AbsPlace.{AbsPlace}
use Rattle.life_pset.specs.declared.element.Element.{Element}
use Rattle.life_pset.specs.declared.element.Fact.{Fact}
use Rattle.life_pset.proofs.Members.{in_head}
use Rattle.life_sets.specs.NumberSets.{holds}
use Rattle.life_rules.specs.Matching.{fact_at, facts_at, facts_if}
use Rattle.life_rules.specs.Staying.{mark, marks, spot_reads, spot_targets, spot_writes, staying}
use Rattle.life_plan.specs.Crossing.{Crosses, Crossing}
use Rattle.life_plan.specs.Numbered.{AreReadings, IsMarked, IsMarking, IsStaying, KeepsFrom, MakesFrom, StaysAs, made_by}
use Rattle.life_plan.specs.declared.marking.Marking.{Marking}
use Rattle.life_plan.specs.declared.reading.Reading.{Reading}
use Rattle.life_plan.specs.declared.staying.Staying.{Staying}
use Rattle.life_plan.proofs.Laws.{ones, twos}
use Rattle.life_plan.proofs.Naming.{at_number, cond_not, cond_there, holds_within, made_facts_from, map_into}

marked_there : (o : Option Element) (b : Bool) (l : AbsPlace) (y : Element) → b ≡ true → o ≡ Some y → Contains (facts_if b l o) (fact_at l y)
marked_there o b l y t is = cond_there b (facts_at l o) (fact_at l y) t (subst (λ (o : Option Element). Contains (facts_at l o) (fact_at l y)) (sym is) (in_head (fact_at l y) []))

within_mark : (o : Option ℕ) (n m : ℕ) → IfSome o (λ k. k < n) → o ≡ Some m → m < n
within_mark o n m within is = subst (λ (o : Option ℕ). IfSome o (λ k. k < n)) is within

module _ (c : Crossing) (from : ℕ → ℕ → Bool) where
  -- an element that stays, or becomes another
  stays_crosses : (s : Staying) → IsStaying c s → (l e m : ℕ) → l < length c.table.locations → holds s.written l ≡ false → e < length c.table.elements → IsTrue (from l e) → StaysAs s e m → Crosses c from l m
  stays_crosses s is l e m in_l kept in_e held stays =
      let a = at_number c.table.locations l in_l in
      let x = at_number c.table.elements e in_e in
      let y = at_number c.table.elements m (to stays) in
      let stay = (is.stays e m x.0 y.0 x.1 y.1).0 stays in
      let here = Contains-append_left (cond (spot_writes c.spot a.0) [] (map (fact_at a.0) (staying c.types c.f c.spot x.0))) (cond (spot_reads c.spot a.0) (made_by c (fact_at a.0 x.0)) []) (fact_at a.0 y.0)
      (cond_not (spot_writes c.spot a.0) (map (fact_at a.0) (staying c.types c.f c.spot x.0)) (fact_at a.0 y.0) (sym (is.written l a.0 a.1) ∙ kept) (map_into (fact_at a.0) (staying c.types c.f c.spot x.0) y.0 stay)) in
      inr (inl (fact_at a.0 x.0, ((l, (e, ((a.1, x.1), held))), (fact_at a.0 y.0, ((a.1, y.1), subst (λ (xs : List Fact). Contains xs (fact_at a.0 y.0)) (sym (ones c.sigs c.types c.f c.branch c.spot (fact_at a.0 x.0))) here)))))
    where
      to : StaysAs s e m → m < length c.table.elements
      to (inl h) = subst (λ (n : ℕ). n < length c.table.elements) h.0 in_e
      to (inr h) = subst (λ (n : ℕ). n < length c.table.elements) h.1.1.1.0 (is.sized.becoming h.0 h.1.0 h.1.1.0).0

  -- an element that a target marks
  mark_crosses : (s : Staying) (k : Marking) → IsStaying c s → IsMarking c k → (l e m : ℕ) → l < length c.table.locations → holds s.written l ≡ false → IsTrue (from l e) → IsMarked c k from e → k.mark ≡ Some m → Crosses c from l m
  mark_crosses s k is_s is l e m in_l kept held marked mark_is =
      let a = at_number c.table.locations l in_l in
      let y = at_number c.table.elements m (within_mark k.mark (length c.table.elements) m is.sized.mark mark_is) in
      let q = marked.0 in
      let d = marked.1.0 in
      let at_q = at_number c.table.locations q (subst (λ (n : ℕ). q < n) is.within (holds_within k.targets q marked.1.1.0)) in
      let by = marked.1.1.1.1 in
      let x = fact_at at_q.0 by.0 in
      let v = fact_at a.0 by.1.0 in
      let test = and_from (spot_targets c.sigs c.types c.f c.spot at_q.0) (marks c.spot by.0 by.1.0 && not (spot_writes c.spot a.0)) (sym (is.targets q at_q.0 at_q.1) ∙ marked.1.1.0)
      (and_from (marks c.spot by.0 by.1.0) (not (spot_writes c.spot a.0)) by.1.1.1.1 (not_from_false (spot_writes c.spot a.0) (sym (is_s.written l a.0 a.1) ∙ kept))) in
      let here = marked_there (mark c.spot) (spot_targets c.sigs c.types c.f c.spot at_q.0 && (marks c.spot by.0 by.1.0 && not (spot_writes c.spot a.0))) a.0 y.0 test ((is.mark m y.0 y.1).0 mark_is) in
      inr (inr (
        x,
        (
          v,
          (
            (q, (d, ((at_q.1, by.1.1.0), marked.1.1.1.0))),
            (
              (l, (e, ((a.1, by.1.1.1.0), held))),
              (fact_at a.0 y.0, ((a.1, y.1), subst (λ (xs : List Fact). Contains xs (fact_at a.0 y.0)) (sym (twos c.sigs c.types c.f c.spot x v)) here)),
            ),
          ),
        ),
      ))

  pub keeps_crosses : (s : Staying) (k : Marking) → IsStaying c s → IsMarking c k → ((e : ℕ) → IsTrue (holds k.mask e) → IsMarked c k from e) → (locations elements : ℕ) → locations ≡ length c.table.locations → elements ≡ length c.table.elements
      → (l m : ℕ) → KeepsFrom s k locations elements from l m → Crosses c from l m
  keeps_crosses s k is_s is only locations elements ls es l m h =
      let e = h.1.1.0 in
      let in_l = subst (λ (n : ℕ). l < n) ls h.0 in
      let in_e = subst (λ (n : ℕ). e < n) es h.1.1.1.0 in
      elim h.1.1.1.1.1 [
        | inl stays ↦ stays_crosses s is_s l e m in_l h.1.0 in_e h.1.1.1.1.0 stays
        | inr masked ↦ mark_crosses s k is_s is l e m in_l h.1.0 h.1.1.1.1.0 (only e masked.0) masked.1
      ]

  pub makes_crosses : (readings : List Reading) → AreReadings c readings → (l m : ℕ) → MakesFrom c readings from l m → Crosses c from l m
  makes_crosses readings are l m h =
      let n = h.0 in
      let y = h.1.1.0 in
      let e = h.1.1.1.1.0 in
      let x = made_facts_from c n e y h.1.1.1.1.1.1 in
      let reads = (are.each n x.0.location x.1.0.0).0 h.1.0 in
      let here = Contains-append_right (cond (spot_writes c.spot x.0.location) [] (map (fact_at x.0.location) (staying c.types c.f c.spot x.0.element))) (cond (spot_reads c.spot x.0.location) (made_by c x.0) []) y
      (cond_there (spot_reads c.spot x.0.location) (made_by c x.0) y reads x.1.1) in
      inr (inl (x.0, ((n, (e, (x.1.0, h.1.1.1.1.1.0))), (y, (h.1.1.1.0, subst (λ (xs : List Fact). Contains xs y) (sym (ones c.sigs c.types c.f c.branch c.spot x.0)) here)))))
