-- How many pairs there are, and how many runs are left.
use Rattle.std.proofs.Common.{◌≡◌, ℕ, zero, suc, ◌+◌, ◌*◌, ◌<◌, ◌≤◌, List, [], ◌∷◌, refl, ap, sym, ◌∙◌, inl, inr, arith, subst, Some, Bool, true, false, length}
use Rattle.std.proofs.lemmas.Bool.{or_cases, or_left, or_right}
use Rattle.std.specs.Prelude.{IsTrue, slice_get}
use Rattle.life_core.specs.declared.stmt.Edge.{Edge}
use Rattle.life_types.specs.Types.{Types}
use Rattle.life_core.specs.Function.{Function}
use Rattle.life_core.specs.Linked.{edges_of}
use Rattle.life_plan.proofs.Places.{same_or_not}
use Rattle.life_pset.specs.Table.{Table, table_of}
use Rattle.life_rules.specs.FactSets.{Includes}
use Rattle.life_fix.specs.Solving.{bit, has_some, left_of, most_pairs, most_steps, runs_left, size_of, size_of_location}

bit_le : (b : Bool) → bit b ≤ 1
bit_le true = omega arith
bit_le false = omega arith

bit_mono : (a b : Bool) → (a ≡ true → b ≡ true) → bit a ≤ bit b
bit_mono true b up = let t : b ≡ true = up refl in rw t (omega arith)
bit_mono false b up = omega arith

location_most : (h : ℕ → Bool) (n : ℕ) → size_of_location h n ≤ n
location_most h zero = omega arith
location_most h (suc n) = omega (arith, bit_le (h n), location_most h n)

pub size_most : (h : ℕ → ℕ → Bool) (m n : ℕ) → size_of h m n ≤ m * n
size_most h zero n = omega arith
size_most h (suc m) n = omega (arith, location_most (h m) n, size_most h m n)

location_mono : (a b : ℕ → Bool) (n : ℕ) → ((e : ℕ) → IsTrue (a e) → IsTrue (b e)) → size_of_location a n ≤ size_of_location b n
location_mono a b zero up = omega arith
location_mono a b (suc n) up = omega (arith, bit_mono (a n) (b n) (up n), location_mono a b n up)

pub size_mono : (a b : ℕ → ℕ → Bool) (m n : ℕ) → Includes a b → size_of a m n ≤ size_of b m n
size_mono a b zero n up = omega arith
size_mono a b (suc m) n up = omega (arith, location_mono (a m) (b m) n (up m), size_mono a b m n up)

location_more : (a b : ℕ → Bool) (n e : ℕ) → ((e : ℕ) → IsTrue (a e) → IsTrue (b e)) → e < n → a e ≡ false → b e ≡ true → size_of_location a n + 1 ≤ size_of_location b n
location_more a b zero e up lt f t = absurd (omega (arith, lt))
location_more a b (suc n) e up lt f t =
    elim (same_or_not e n) [
      | inl is ↦
          let fa : bit (a n) ≡ 0 = ap bit (sym (ap a is) ∙ f) in
          let tb : bit (b n) ≡ 1 = ap bit (sym (ap b is) ∙ t) in
          omega (arith, fa, tb, location_mono a b n up)
      | inr other ↦ omega (arith, bit_mono (a n) (b n) (up n), location_more a b n e up (omega (arith, lt, other)) f t)
    ]

pub size_more : (a b : ℕ → ℕ → Bool) (m n l e : ℕ) → Includes a b → l < m → e < n → a l e ≡ false → b l e ≡ true → size_of a m n + 1 ≤ size_of b m n
size_more a b zero n l e up lt le f t = absurd (omega (arith, lt))
size_more a b (suc m) n l e up lt le f t =
    elim (same_or_not l m) [
      | inl is ↦
          let fa : a m e ≡ false = sym (ap (λ (k : ℕ). a k e) is) ∙ f in
          let tb : b m e ≡ true = sym (ap (λ (k : ℕ). b k e) is) ∙ t in
          omega (arith, location_more (a m) (b m) n e (up m) le fa tb, size_mono a b m n up)
      | inr other ↦ omega (arith, location_mono (a m) (b m) n (up m), size_more a b m n l e up (omega (arith, lt, other)) le f t)
    ]

-- ---- whether a set has a number below a limit

pub some_of : (set : ℕ → Bool) (n l : ℕ) → l < n → IsTrue (set l) → IsTrue (has_some set n)
some_of set zero l lt h = absurd (omega (arith, lt))
some_of set (suc n) l lt h =
    elim (same_or_not l n) [
      | inl is ↦ or_left (set n) (has_some set n) (subst (λ (k : ℕ). IsTrue (set k)) is h)
      | inr other ↦ or_right (set n) (has_some set n) (some_of set n l (omega (arith, lt, other)) h)
    ]

pub one_of_some : (set : ℕ → Bool) (n : ℕ) → IsTrue (has_some set n) → (l : ℕ) × ((l < n) × IsTrue (set l))
one_of_some set zero h = absurd (cc)
one_of_some set (suc n) h =
    elim (or_cases (set n) (has_some set n) h) [
      | inl here ↦ (n, (omega arith, here))
      | inr below ↦ let r = one_of_some set n below in (r.0, (omega (arith, r.1.0), r.1.1))
    ]

-- ---- how many runs are left

-- no more than one for each pair, and one more
runs_most : (t : Table) (due : ℕ → Bool) (has : ℕ → ℕ → Bool) → runs_left t due has ≤ most_pairs t + 1
runs_most t due has = omega (arith, bit_le (has_some due (length t.locations)))

left_at_first : (t : Table) (es : List Edge) (dues : ℕ → ℕ → Bool) (pairs : ℕ → ℕ → ℕ → Bool) → left_of t es dues pairs ≤ length es * (most_pairs t + 1)
left_at_first t [] dues pairs = omega arith
left_at_first t (e ∷ es) dues pairs = omega (arith, runs_most t (dues 0) (pairs e.from.0), left_at_first t es (λ k. dues (suc k)) pairs)

-- at first each edge may be run once more than a row has room for, which is no more than a function's most steps
pub most_left : (types : Types) (f : Function) (t : Table) (es : List Edge) (dues : ℕ → ℕ → Bool) (pairs : ℕ → ℕ → ℕ → Bool) → t ≡ table_of types f → es ≡ edges_of f → left_of t es dues pairs ≤ most_steps types f
most_left types f t es dues pairs is_table is_edges =
    let a = left_at_first t es dues pairs in
    let b = subst (λ (n : ℕ). left_of t es dues pairs ≤ n * (most_pairs t + 1)) (ap length is_edges) a in
    subst (λ (u : Table). left_of t es dues pairs ≤ length (edges_of f) * (most_pairs u + 1)) is_table b

-- a row with a new pair has fewer left, even where its edge is due from now on
pub runs_gained : (t : Table) (a b : ℕ → Bool) (before after : ℕ → ℕ → Bool) → Includes before after → (l e : ℕ) → l < length t.locations → e < length t.elements → before l e ≡ false → IsTrue (after l e) → runs_left t b after ≤ runs_left t a before
runs_gained t a b before after more l e low high was is =
    omega (arith, bit_le (has_some b (length t.locations)), size_more before after (length t.locations) (length t.elements) l e more low high was is, size_most after (length t.locations) (length t.elements))

-- .. and a row that gained nothing has no more left where no more is due
pub runs_same : (t : Table) (a b : ℕ → Bool) (before after : ℕ → ℕ → Bool) → Includes before after → (IsTrue (has_some b (length t.locations)) → IsTrue (has_some a (length t.locations))) → runs_left t b after ≤ runs_left t a before
runs_same t a b before after more fewer = omega (arith, bit_mono (has_some b (length t.locations)) (has_some a (length t.locations)) fewer, size_mono before after (length t.locations) (length t.elements) more)

-- an edge that was due, and isn't any more, has one run less left
pub runs_done : (t : Table) (a b : ℕ → Bool) (before after : ℕ → ℕ → Bool) → Includes before after → IsTrue (has_some a (length t.locations)) → has_some b (length t.locations) ≡ false → runs_left t b after + 1 ≤ runs_left t a before
runs_done t a b before after more was none =
    let one : bit (has_some a (length t.locations)) ≡ 1 = ap bit was in
    let nothing : bit (has_some b (length t.locations)) ≡ 0 = ap bit none in
    omega (arith, one, nothing, size_mono before after (length t.locations) (length t.elements) more)

-- .. and so has one that was due, and is due again for a new pair
pub runs_again : (t : Table) (a b : ℕ → Bool) (before after : ℕ → ℕ → Bool) → Includes before after → IsTrue (has_some a (length t.locations)) → (l e : ℕ) → l < length t.locations → e < length t.elements → before l e ≡ false → IsTrue (after l e)
    → runs_left t b after + 1 ≤ runs_left t a before
runs_again t a b before after more due l e low high was is =
    let one : bit (has_some a (length t.locations)) ≡ 1 = ap bit due in
    omega (arith, one, bit_le (has_some b (length t.locations)), size_more before after (length t.locations) (length t.elements) l e more low high was is, size_most after (length t.locations) (length t.elements))

-- where an edge is due, a run is left
pub left_some : (t : Table) (es : List Edge) (dues : ℕ → ℕ → Bool) (pairs : ℕ → ℕ → ℕ → Bool) (k : ℕ) (edge : Edge) → slice_get es k ≡ Some edge → IsTrue (has_some (dues k) (length t.locations)) → 1 ≤ left_of t es dues pairs
left_some t [] dues pairs k edge at due = absurd (cc)
left_some t (e ∷ es) dues pairs zero edge at due =
    let one : bit (has_some (dues 0) (length t.locations)) ≡ 1 = ap bit due in
    omega (arith, one)
left_some t (e ∷ es) dues pairs (suc k) edge at due = omega (arith, left_some t es (λ j. dues (suc j)) pairs k edge at due)

-- where each edge has no more left, and one has less, all together have less
pub left_same : (t : Table) (es : List Edge) (dues dues' : ℕ → ℕ → Bool) (old new : ℕ → ℕ → ℕ → Bool)
    → ((j : ℕ) (edge : Edge) → slice_get es j ≡ Some edge → runs_left t (dues' j) (new edge.from.0) ≤ runs_left t (dues j) (old edge.from.0)) → left_of t es dues' new ≤ left_of t es dues old
left_same t [] dues dues' old new each = omega arith
left_same t (e ∷ es) dues dues' old new each = omega (arith, each 0 e refl, left_same t es (λ k. dues (suc k)) (λ k. dues' (suc k)) old new (λ j. each (suc j)))

pub left_falls : (t : Table) (es : List Edge) (dues dues' : ℕ → ℕ → Bool) (old new : ℕ → ℕ → ℕ → Bool) (k : ℕ) (edge : Edge) → slice_get es k ≡ Some edge → runs_left t (dues' k) (new edge.from.0) + 1 ≤ runs_left t (dues k) (old edge.from.0)
    → ((j : ℕ) (d : Edge) → slice_get es j ≡ Some d → runs_left t (dues' j) (new d.from.0) ≤ runs_left t (dues j) (old d.from.0)) → left_of t es dues' new + 1 ≤ left_of t es dues old
left_falls t [] dues dues' old new k edge at less each = absurd (cc)
left_falls t (e ∷ es) dues dues' old new zero edge at less each =
    let is : e ≡ edge = cc in
    let first = subst (λ (d : Edge). runs_left t (dues' 0) (new d.from.0) + 1 ≤ runs_left t (dues 0) (old d.from.0)) (sym is) less in
    omega (arith, first, left_same t es (λ j. dues (suc j)) (λ j. dues' (suc j)) old new (λ j. each (suc j)))
left_falls t (e ∷ es) dues dues' old new (suc k) edge at less each =
    omega (arith, each 0 e refl, left_falls t es (λ j. dues (suc j)) (λ j. dues' (suc j)) old new k edge at less (λ j. each (suc j)))
