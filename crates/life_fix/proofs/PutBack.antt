-- Which edges leave a point, and what is due for them when it gained.
use Rattle.std.proofs.Common.{◌≡◌, ◌≢◌, ℕ, zero, suc, ◌+◌, ◌<◌, ◌≤◌, List, [], ◌∷◌, ◌++◌, ap, sym, ◌∙◌, inl, inr, ◌⊎◌, arith, subst, Some, Bool, false, true≢false, length, get_or}
use Rattle.std.proofs.lemmas.Bool.{cases_lt, or_cases, or_left, or_right}
use Rattle.std.proofs.lemmas.Option.{get_or_from_slice_get, slice_get-get_or, slice_get_within}
use Rattle.std.specs.Prelude.{◌↔◌, ◌||◌, IsTrue, slice_get, slice_set}
use Rattle.life_core.specs.Linked.{AreAscending, AreFrom}
use Rattle.life_core.specs.declared.stmt.Edge.{Edge}
use Rattle.life_sets.specs.NumberSets.{Numbers, holds}
use Rattle.life_sets.proofs.NumberLemmas.{held_below}
use Rattle.life_plan.proofs.Places.{get_set_other, get_set_same, same_or_not}
use Rattle.life_fix.specs.Solving.{set_at, set_in, AddsBetween, AreSized, IsBegin, IsPutBack}
use Rattle.life_fix.proofs.PointRows.{push_at, there}

-- ---- edges that leave a point stand together

least : (p : ℕ) (es : List Edge) → AreFrom p es → (j : ℕ) (d : Edge) → j < length es → p ≤ (get_or es j d).from.0
least p [] h j d lt = absurd (omega (arith, lt))
least p (e ∷ es) h zero d lt = h.0
least p (e ∷ es) h (suc j) d lt = omega (arith, h.0, least e.from.0 es h.1 j d (omega (arith, lt)))

rising : (p : ℕ) (es : List Edge) → AreFrom p es → (i j : ℕ) (d : Edge) → i ≤ j → j < length es → (get_or es i d).from.0 ≤ (get_or es j d).from.0
rising p [] h i j d le lt = absurd (omega (arith, lt))
rising p (e ∷ es) h zero zero d le lt = omega arith
rising p (e ∷ es) h zero (suc j) d le lt = least e.from.0 es h.1 j d (omega (arith, lt))
rising p (e ∷ es) h (suc i) zero d le lt = absurd (omega (arith, le))
rising p (e ∷ es) h (suc i) (suc j) d le lt = rising e.from.0 es h.1 i j d (omega (arith, le)) (omega (arith, lt))

-- the first that doesn't leave an earlier point tells how many do
pub begins_at : (es : List Edge) (n i : ℕ) (e : Edge) → AreAscending es → slice_get es i ≡ Some e → n ≤ e.from.0 → ((k : ℕ) (edge : Edge) → slice_get es k ≡ Some edge → k < i → edge.from.0 < n) → IsBegin es n i
begins_at es n i e ascend here late early = (
  omega (arith, slice_get_within es i e here),
  λ k edge at. (
    λ lt. early k edge at lt,
    λ before.
        elim (cases_lt k i) [
          | inl lt ↦ lt
          | inr ge ↦
              let order = rising 0 es ascend i k e ge (slice_get_within es k edge at) in
              let from : (get_or es i e).from.0 ≡ e.from.0 = ap (λ (x : Edge). x.from.0) (get_or_from_slice_get es i e e here) in
              let to : (get_or es k e).from.0 ≡ edge.from.0 = ap (λ (x : Edge). x.from.0) (get_or_from_slice_get es k edge e at) in
              absurd (omega (arith, order, from, to, late, before))
        ],
  ),
)

-- one more that does
pub begins_later : (es : List Edge) (n k : ℕ) (d : Edge) → ((j : ℕ) (edge : Edge) → slice_get es j ≡ Some edge → j < k → edge.from.0 < n) → (get_or es k d).from.0 < n → (j : ℕ) (edge : Edge) → slice_get es j ≡ Some edge → j < k + 1 → edge.from.0 < n
begins_later es n k d early here j edge at lt =
    elim (cases_lt j k) [
      | inl before ↦ early j edge at before
      | inr ge ↦
          let is : j ≡ k = omega (arith, lt, ge) in
          let same : (get_or es k d).from.0 ≡ edge.from.0 = ap (λ (i : ℕ). (get_or es i d).from.0) (sym is) ∙ ap (λ (e : Edge). e.from.0) (get_or_from_slice_get es j edge d at) in
          omega (arith, same, here)
    ]

-- .. or all do
pub begins_past : (es : List Edge) (n : ℕ) → ((k : ℕ) (edge : Edge) → slice_get es k ≡ Some edge → edge.from.0 < n) → IsBegin es n (length es)
begins_past es n early = (omega arith, λ k edge at. (λ _. early k edge at, λ _. slice_get_within es k edge at))

-- one more number of a table
pub begins_more : (es : List Edge) (firsts : List ℕ) (first : ℕ) → ((p i : ℕ) → slice_get firsts p ≡ Some i → IsBegin es p i) → IsBegin es (length firsts) first → (p i : ℕ) → slice_get (firsts ++ first ∷ []) p ≡ Some i → IsBegin es p i
begins_more es firsts first each new p i at =
    elim (push_at firsts first p i at) [
      | inl was ↦ each p i was
      | inr last ↦ subst (λ (q : ℕ). IsBegin es q i) (sym last.0) (subst (λ (j : ℕ). IsBegin es (length firsts) j) last.1 new)
    ]

-- what a table says of a number within it
pub begins : (es : List Edge) (firsts : List ℕ) (d : ℕ) → ((p i : ℕ) → slice_get firsts p ≡ Some i → IsBegin es p i) → (p i : ℕ) → p < length firsts → i ≡ get_or firsts p d → IsBegin es p i
begins es firsts d each p i lt is = each p i (slice_get-get_or firsts p d lt ∙ ap (λ (n : ℕ). Some n) (sym is))

-- no more leave points before one than points before the next
pub before_next : (es : List Edge) (n i j : ℕ) → IsBegin es n i → IsBegin es (n + 1) j → i ≤ j
before_next es n i j before by =
    elim (cases_lt j i) [
      | inl lt ↦
          let edge = there es j (omega (arith, lt, before.0)) in
          let low = (before.1 j edge.0 edge.1).0 lt in
          let high = (by.1 j edge.0 edge.1).1 (omega (arith, low)) in
          absurd (omega (arith, high))
      | inr le ↦ le
    ]

-- between these numbers stand those that leave it
pub leave_between : (es : List Edge) (n i j : ℕ) → IsBegin es n i → IsBegin es (n + 1) j → (k : ℕ) (edge : Edge) → slice_get es k ≡ Some edge → ((i ≤ k) × (k < j)) ↔ (edge.from.0 ≡ n)
leave_between es n i j before by k edge at = (
  λ between.
      elim (cases_lt edge.from.0 n) [
        | inl lt ↦ absurd (omega (arith, (before.1 k edge at).1 lt, between.0))
        | inr ge ↦ omega (arith, ge, (by.1 k edge at).0 between.1)
      ],
  λ is.
      elim (cases_lt k i) [
        | inl lt ↦ absurd (omega (arith, (before.1 k edge at).0 lt, is))
        | inr ge ↦ (ge, (by.1 k edge at).1 (omega (arith, is)))
      ],
)

-- ---- sets of numbers in a list

-- the set that is read at a place
pub set_is : (sets : List Numbers) (k : ℕ) (set : Numbers) → slice_get sets k ≡ Some set → set_at sets k ≡ holds set
set_is sets k set at = ap set_in at

-- what is due for an edge is a location
pub due_below : (limit : ℕ) (sets : List Numbers) (k l : ℕ) → AreSized limit sets → IsTrue (set_at sets k l) → l < limit
due_below limit [] k l sized h = absurd (cc)
due_below limit (set ∷ sets) zero l sized h = omega (arith, held_below set l h, sized 0 set (omega arith))
due_below limit (set ∷ sets) (suc k) l sized h = due_below limit sets k l (λ j d lt. sized (suc j) d (omega (arith, lt))) h

-- ---- what is put back

-- nothing is due for the edge that was run, and what was gained is due for those that leave the point
pub put_all : (es : List Edge) (k point first past : ℕ) (gained : ℕ → Bool) (sets : List Numbers) (cleared : Numbers) (after : ℕ → ℕ → Bool) → k < length sets → ((l : ℕ) → holds cleared l ≡ false)
    → ((j : ℕ) (edge : Edge) → slice_get es j ≡ Some edge → ((first ≤ j) × (j < past)) ↔ (edge.from.0 ≡ point)) → AddsBetween first past gained (set_at (slice_set sets k cleared)) after → IsPutBack es k point gained (set_at sets) after
put_all es k point first past gained sets cleared after within none each adds j edge at l = (
  λ h.
      elim ((adds j l).0 h) [
        | inl was ↦ elim (same_or_not j k) [
          | inl is ↦ absurd (true≢false (sym (subst (λ (i : ℕ). IsTrue (set_at (slice_set sets k cleared) i l)) is was) ∙ ap (λ (s : ℕ → Bool). s l) here ∙ none l))
          | inr other ↦ inr (other, sym (ap (λ (s : ℕ → Bool). s l) (elsewhere other)) ∙ was)
        ]
        | inr added ↦ inl ((each j edge at).0 added.0, added.1)
      ],
  λ h.
      elim h [
        | inl leaves ↦ (adds j l).1 (inr ((each j edge at).1 leaves.0, leaves.1))
        | inr was ↦ (adds j l).1 (inl (ap (λ (s : ℕ → Bool). s l) (elsewhere was.0) ∙ was.1))
      ],
)
  where
    here : set_at (slice_set sets k cleared) k ≡ holds cleared
    here = ap set_in (get_set_same sets k cleared within)

    elsewhere : j ≢ k → set_at (slice_set sets k cleared) j ≡ set_at sets j
    elsewhere other = ap set_in (get_set_other sets k j cleared other)

-- ---- a set is added to one after the other

pub adds_none : (first : ℕ) (added : ℕ → Bool) (before : ℕ → ℕ → Bool) → AddsBetween first first added before before
adds_none first added before k l = (
  λ h. inl h,
  λ h. elim h [ inl was ↦ was | inr new ↦ absurd (omega (arith, new.0.0, new.0.1)) ],
)

pub adds_next : (first i : ℕ) (added : Numbers) (before : ℕ → ℕ → Bool) (sets : List Numbers) (set : Numbers) → first ≤ i → i < length sets → ((l : ℕ) → holds set l ≡ (holds added l || set_at sets i l)) → AddsBetween first i (holds added) before (set_at sets)
    → AddsBetween first (i + 1) (holds added) before (set_at (slice_set sets i set))
adds_next first i added before sets set low within joined so_far k l =
    elim (same_or_not k i) [
      | inl is ↦ subst (λ (j : ℕ). IsTrue (set_at (slice_set sets i set) j l) ↔ (IsTrue (before j l) ⊎ (((first ≤ j) × (j < i + 1)) × IsTrue (holds added l)))) (sym is) here
      | inr other ↦
          let same : set_at (slice_set sets i set) k ≡ set_at sets k = ap set_in (get_set_other sets i k set other) in
          let at : set_at (slice_set sets i set) k l ≡ set_at sets k l = ap (λ (s : ℕ → Bool). s l) same in (
            λ h. elim ((so_far k l).0 (sym at ∙ h)) [ inl was ↦ inl was | inr new ↦ inr ((new.0.0, omega (arith, new.0.1)), new.1) ],
            λ h.
                at ∙ elim h [
                  | inl was ↦ (so_far k l).1 (inl was)
                  | inr new ↦ (so_far k l).1 (inr ((new.0.0, omega (arith, new.0.1, other)), new.1))
                ],
          )
    ]
  where
    at_here : set_at (slice_set sets i set) i l ≡ (holds added l || set_at sets i l)
    at_here = ap (λ (s : ℕ → Bool). s l) (ap set_in (get_set_same sets i set within)) ∙ joined l

    here : IsTrue (set_at (slice_set sets i set) i l) ↔ (IsTrue (before i l) ⊎ (((first ≤ i) × (i < i + 1)) × IsTrue (holds added l)))
    here = (
      λ h.
          elim (or_cases (holds added l) (set_at sets i l) (sym at_here ∙ h)) [
            | inl new ↦ inr ((low, omega arith), new)
            | inr was ↦ elim ((so_far i l).0 was) [ inl old ↦ inl old | inr never ↦ absurd (omega (arith, never.0.1)) ]
          ],
      λ h.
          at_here ∙ elim h [
            | inl old ↦ or_right (holds added l) (set_at sets i l) ((so_far i l).1 (inl old))
            | inr new ↦ or_left (holds added l) (set_at sets i l) new.1
          ],
    )

-- ---- one more set of a list

-- what holds of each set, and of one more
pub push_each : (says : ℕ → (ℕ → Bool) → Type 0) (sets : List Numbers) (set : Numbers) → ((k : ℕ) → k < length sets → says k (set_at sets k)) → says (length sets) (holds set) → (k : ℕ) → k < length sets + 1 → says k (set_at (sets ++ set ∷ []) k)
push_each says [] set all new zero lt = new
push_each says [] set all new (suc k) lt = absurd (omega (arith, lt))
push_each says (x ∷ sets) set all new zero lt = all 0 (omega arith)
push_each says (x ∷ sets) set all new (suc k) lt = push_each (λ j due. says (suc j) due) sets set (λ j h. all (suc j) (omega (arith, h))) new k (omega (arith, lt))

-- .. for as many numbers as the others
pub push_sized : (m : ℕ) (sets : List Numbers) (set : Numbers) → AreSized m sets → set.limit ≡ m → AreSized m (sets ++ set ∷ [])
push_sized m [] set all is zero d lt = is
push_sized m [] set all is (suc k) d lt = absurd (omega (arith, lt))
push_sized m (x ∷ sets) set all is zero d lt = all zero d (omega arith)
push_sized m (x ∷ sets) set all is (suc k) d lt = push_sized m sets set (λ j e h. all (suc j) e (omega (arith, h))) is k d (omega (arith, lt))
