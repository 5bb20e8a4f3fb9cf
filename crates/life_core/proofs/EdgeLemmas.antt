-- The edges as they are computed are those that the linked points lead along; they ascend, and
-- their ends are points.
use Rattle.std.proofs.Common.{◌≡◌, ℕ, ◌+◌, ◌≤◌, List, [], ◌∷◌, ◌++◌, length, Option, Some, None, true, false, refl, sym, ap, subst, ◌∙◌, arith, append_assoc, append-nil}
use Rattle.life_core.specs.declared.exits.Entry.{Entry}
use Rattle.life_core.specs.declared.exits.Entry.TheVariants as entry
use Rattle.life_core.specs.declared.exits.Exits.{Exits}
use Rattle.life_core.specs.declared.stmt.Edge.{Edge}
use Rattle.life_core.specs.Columns.{edges_in}
use Rattle.life_core.specs.Function.{Function}
use Rattle.life_core.specs.Linked.{Lead, Linked, entry_then, entry_of, target_of, enter, with_next, with_true, with_false, turned, body_exits, linked, edge_to, edges_out, edges_from, no_exits, code_of, edges_of, points_of, AllJoin, AreFrom, AreAscending}
use Rattle.life_core.specs.Tree.{Tree, Skip, Then, Acts, Asks, Both, Either, Negated, Choice, Turns, Breaks, Continues, Returns, Stops, size}
use Rattle.life_core.proofs.SpotLemmas.{linked_length}

pub edges_joined : (at c : ℕ) (us vs : List Linked) → at + length us ≡ c → edges_from at (us ++ vs) ≡ edges_from at us ++ edges_from c vs
edges_joined at c [] vs e = let same : at ≡ c = omega arith in ap (λ n. edges_from n vs) same
edges_joined at c (l ∷ ls) vs e =
    ap (λ es. edges_out at l.leads ++ es) (edges_joined (at + 1) c ls vs (omega arith))
    ∙ sym (append_assoc (edges_out at l.leads) (edges_from (at + 1) ls) (edges_from c vs))

abbrev AreRead : Tree → ℕ → Exits → Type 0
AreRead t at x = edges_in t at x ≡ edges_from at (linked t at x)

-- so they are of two parts, the second of which begins where the first ends, and of three
two_read : (a b : Tree) (at : ℕ) (x y : Exits) → AreRead a at x → AreRead b (at + size a) y → edges_in a at x ++ edges_in b (at + size a) y ≡ edges_from at (linked a at x ++ linked b (at + size a) y)
two_read a b at x y p q =
    ap (λ es. es ++ edges_in b (at + size a) y) p
    ∙ ap (λ es. edges_from at (linked a at x) ++ es) q
    ∙ sym (edges_joined at (at + size a) (linked a at x) (linked b (at + size a) y) (ap (λ n. at + n) (linked_length a at x)))

three_read : (t a b : Tree) (at : ℕ) (x y z : Exits) → AreRead t at x → AreRead a (at + size t) y → AreRead b (at + size t + size a) z
    → edges_in t at x ++ (edges_in a (at + size t) y ++ edges_in b (at + size t + size a) z)
    ≡ edges_from at (linked t at x ++ (linked a (at + size t) y ++ linked b (at + size t + size a) z))
three_read t a b at x y z p q r =
    ap (λ es. es ++ (edges_in a (at + size t) y ++ edges_in b (at + size t + size a) z)) p
    ∙ ap (λ es. edges_from at (linked t at x) ++ es) (two_read a b (at + size t) y z q r)
    ∙ sym (edges_joined at (at + size t) (linked t at x) (linked a (at + size t) y ++ linked b (at + size t + size a) z) (ap (λ n. at + n) (linked_length t at x)))

-- the edges as they are computed are read off the linked points
pub edges_are : (t : Tree) (at : ℕ) (x : Exits) → edges_in t at x ≡ edges_from at (linked t at x)
edges_are Skip at x = refl
edges_are (Then a b) at x =
    let inner = with_next (enter b (at + size a) x) x in
    two_read a b at inner x (edges_are a at inner) (edges_are b (at + size a) x)
edges_are (Acts place i) at x = sym (append-nil (edge_to at x.next None)) ∙ sym (append-nil (edge_to at x.next None ++ []))
edges_are (Asks place t) at x =
    ap (λ es. edge_to at x.on_true (Some true) ++ es) (sym (append-nil (edge_to at x.on_false (Some false))))
    ∙ sym (append-nil (edge_to at x.on_true (Some true) ++ (edge_to at x.on_false (Some false) ++ [])))
edges_are (Both a b) at x =
    let inner = with_true (enter b (at + size a) x) x in
    two_read a b at inner x (edges_are a at inner) (edges_are b (at + size a) x)
edges_are (Either a b) at x =
    let inner = with_false (enter b (at + size a) x) x in
    two_read a b at inner x (edges_are a at inner) (edges_are b (at + size a) x)
edges_are (Negated a) at x = edges_are a at (turned x)
edges_are (Choice t a b) at x =
    let first = at + size t in
    let second = first + size a in
    let tests = with_true (enter a first x) (with_false (enter b second x) x) in
    three_read t a b at tests x x (edges_are t at tests) (edges_are a first x) (edges_are b second x)
edges_are (Turns t body step) at x =
    let first = at + size t in
    let second = first + size body in
    let turn = with_next (enter t at x) x in
    let inner = body_exits (enter step second turn) x in
    let tests = with_true (enter body first inner) (with_false x.next x) in
    three_read t body step at tests inner turn (edges_are t at tests) (edges_are body first inner) (edges_are step second turn)
edges_are Breaks at x = refl
edges_are Continues at x = refl
edges_are (Returns place) at x = refl
edges_are (Stops place) at x = refl

-- the edges that are computed for a function are its edges
pub edges_of_is : (f : Function) → edges_in f.body 1 no_exits ≡ edges_of f
edges_of_is f = edges_are f.body 1 no_exits

-- where control comes to a first point, there is one
abbrev HasFirst : Entry → ℕ → Type 0
HasFirst entry.First n = 1 ≤ n
HasFirst entry.Next n = Unit {0}
HasFirst entry.Break n = Unit {0}
HasFirst entry.Continue n = Unit {0}

more_first : (e : Entry) (m n : ℕ) → HasFirst e m → HasFirst e (m + n)
more_first entry.First m n p = omega (arith, p)
more_first entry.Next m n p = tt
more_first entry.Break m n p = tt
more_first entry.Continue m n p = tt

two_first : (d e : Entry) (m n : ℕ) → HasFirst d m → HasFirst e n → HasFirst (entry_then d e) (m + n)
two_first entry.First e m n p q = omega (arith, p)
two_first entry.Next entry.First m n p q = omega (arith, q)
two_first entry.Next entry.Next m n p q = tt
two_first entry.Next entry.Break m n p q = tt
two_first entry.Next entry.Continue m n p q = tt
two_first entry.Break e m n p q = tt
two_first entry.Continue e m n p q = tt

has_first : (t : Tree) → HasFirst (entry_of t) (size t)
has_first Skip = tt
has_first (Then a b) = two_first (entry_of a) (entry_of b) (size a) (size b) (has_first a) (has_first b)
has_first (Acts place i) = omega arith
has_first (Asks place t) = omega arith
has_first (Both a b) = more_first (entry_of a) (size a) (size b) (has_first a)
has_first (Either a b) = more_first (entry_of a) (size a) (size b) (has_first a)
has_first (Negated a) = has_first a
has_first (Choice t a b) = more_first (entry_of t) (size t) (size a + size b) (has_first t)
has_first (Turns t body step) = more_first (entry_of t) (size t) (size body + size step) (has_first t)
has_first Breaks = tt
has_first Continues = tt
has_first (Returns place) = omega arith
has_first (Stops place) = omega arith

-- where control goes is one of n points, or past the end of the body
abbrev ToIn : ℕ → Option ℕ → Type 0
ToIn n None = Unit {0}
ToIn n (Some p) = (1 ≤ p) × (p ≤ n)

record ExitsIn (n : ℕ) (x : Exits) : Type 0 where
  next : ToIn n x.next
  on_break : ToIn n x.on_break
  on_continue : ToIn n x.on_continue
  on_true : ToIn n x.on_true
  on_false : ToIn n x.on_false

abbrev LeadsIn : ℕ → List Lead → Type 0
LeadsIn n [] = Unit {0}
LeadsIn n (l ∷ ls) = ToIn n l.to × LeadsIn n ls

abbrev AllIn : ℕ → List Linked → Type 0
AllIn n [] = Unit {0}
AllIn n (l ∷ ls) = LeadsIn n l.leads × AllIn n ls

all_in : (n : ℕ) (us vs : List Linked) → AllIn n us → AllIn n vs → AllIn n (us ++ vs)
all_in n [] vs p q = q
all_in n (u ∷ us) vs p q = (p.0, all_in n us vs p.1 q)

target_in : (e : Entry) (at m n : ℕ) (x : Exits) → HasFirst e m → 1 ≤ at → at + m ≤ n + 1 → ExitsIn n x → ToIn n (target_of e at x)
target_in entry.First at m n x p pos le ex = (pos, omega (arith, p, le))
target_in entry.Next at m n x p pos le ex = ex.next
target_in entry.Break at m n x p pos le ex = ex.on_break
target_in entry.Continue at m n x p pos le ex = ex.on_continue

enter_in : (t : Tree) (at n : ℕ) (x : Exits) → 1 ≤ at → at + size t ≤ n + 1 → ExitsIn n x → ToIn n (enter t at x)
enter_in t at n x pos le ex = target_in (entry_of t) at (size t) n x (has_first t) pos le ex

next_in : (n : ℕ) (to : Option ℕ) (x : Exits) → ToIn n to → ExitsIn n x → ExitsIn n (with_next to x)
next_in n to x p ex = record { next = p; on_break = ex.on_break; on_continue = ex.on_continue; on_true = ex.on_true; on_false = ex.on_false }

true_in : (n : ℕ) (to : Option ℕ) (x : Exits) → ToIn n to → ExitsIn n x → ExitsIn n (with_true to x)
true_in n to x p ex = record { next = ex.next; on_break = ex.on_break; on_continue = ex.on_continue; on_true = p; on_false = ex.on_false }

false_in : (n : ℕ) (to : Option ℕ) (x : Exits) → ToIn n to → ExitsIn n x → ExitsIn n (with_false to x)
false_in n to x p ex = record { next = ex.next; on_break = ex.on_break; on_continue = ex.on_continue; on_true = ex.on_true; on_false = p }

turned_in : (n : ℕ) (x : Exits) → ExitsIn n x → ExitsIn n (turned x)
turned_in n x ex = record { next = ex.next; on_break = ex.on_break; on_continue = ex.on_continue; on_true = ex.on_false; on_false = ex.on_true }

body_in : (n : ℕ) (to : Option ℕ) (x : Exits) → ToIn n to → ExitsIn n x → ExitsIn n (body_exits to x)
body_in n to x p ex = record { next = p; on_break = ex.next; on_continue = p; on_true = ex.on_true; on_false = ex.on_false }

-- control leaves the points of a tree to points
leads_in : (t : Tree) (at n : ℕ) (x : Exits) → 1 ≤ at → at + size t ≤ n + 1 → ExitsIn n x → AllIn n (linked t at x)
leads_in Skip at n x pos le ex = tt
leads_in (Then a b) at n x pos le ex =
    let to = enter_in b (at + size a) n x (omega (arith, pos)) (omega (arith, le)) ex in
    all_in n _ _ (leads_in a at n _ pos (omega (arith, le)) (next_in n _ x to ex)) (leads_in b (at + size a) n x (omega (arith, pos)) (omega (arith, le)) ex)
leads_in (Acts place i) at n x pos le ex = ((ex.next, tt), tt)
leads_in (Asks place t) at n x pos le ex = ((ex.on_true, (ex.on_false, tt)), tt)
leads_in (Both a b) at n x pos le ex =
    let to = enter_in b (at + size a) n x (omega (arith, pos)) (omega (arith, le)) ex in
    all_in n _ _ (leads_in a at n _ pos (omega (arith, le)) (true_in n _ x to ex)) (leads_in b (at + size a) n x (omega (arith, pos)) (omega (arith, le)) ex)
leads_in (Either a b) at n x pos le ex =
    let to = enter_in b (at + size a) n x (omega (arith, pos)) (omega (arith, le)) ex in
    all_in n _ _ (leads_in a at n _ pos (omega (arith, le)) (false_in n _ x to ex)) (leads_in b (at + size a) n x (omega (arith, pos)) (omega (arith, le)) ex)
leads_in (Negated a) at n x pos le ex = leads_in a at n _ pos le (turned_in n x ex)
leads_in (Choice t a b) at n x pos le ex =
    let first = at + size t in
    let second = first + size a in
    let held = enter_in a first n x (omega (arith, pos)) (omega (arith, le)) ex in
    let failed = enter_in b second n x (omega (arith, pos)) (omega (arith, le)) ex in
    all_in n _ _
    (leads_in t at n _ pos (omega (arith, le)) (true_in n _ _ held (false_in n _ x failed ex)))
    (all_in n _ _ (leads_in a first n x (omega (arith, pos)) (omega (arith, le)) ex) (leads_in b second n x (omega (arith, pos)) (omega (arith, le)) ex))
leads_in (Turns t body step) at n x pos le ex =
    let first = at + size t in
    let second = first + size body in
    let turn = next_in n _ x (enter_in t at n x pos (omega (arith, le)) ex) ex in
    let inner = body_in n _ x (enter_in step second n _ (omega (arith, pos)) (omega (arith, le)) turn) ex in
    let held = enter_in body first n _ (omega (arith, pos)) (omega (arith, le)) inner in
    all_in n _ _
    (leads_in t at n _ pos (omega (arith, le)) (true_in n _ _ held (false_in n _ x ex.next ex)))
    (all_in n _ _ (leads_in body first n _ (omega (arith, pos)) (omega (arith, le)) inner) (leads_in step second n _ (omega (arith, pos)) (omega (arith, le)) turn))
leads_in Breaks at n x pos le ex = tt
leads_in Continues at n x pos le ex = tt
leads_in (Returns place) at n x pos le ex = (tt, tt)
leads_in (Stops place) at n x pos le ex = (tt, tt)

-- .. so that each end of an edge is a point
out_joined : (n at : ℕ) (ls : List Lead) (es : List Edge) → 1 ≤ at → at ≤ n → LeadsIn n ls → AllJoin n es → AllJoin n (edges_out at ls ++ es)
out_joined n at [] es pos le p q = q
out_joined n at (l ∷ ls) es pos le p q =
    subst (AllJoin n) (sym (append_assoc (edge_to at l.to l.branch) (edges_out at ls) es)) (go l.to p.0 (out_joined n at ls es pos le p.1 q))
  where
    go : (to : Option ℕ) → ToIn n to → AllJoin n (edges_out at ls ++ es) → AllJoin n (edge_to at to l.branch ++ (edges_out at ls ++ es))
    go None t rest = rest
    go (Some to) t rest = ((pos, le, t.0, t.1), rest)

from_joined : (n at : ℕ) (ls : List Linked) → 1 ≤ at → at + length ls ≤ n + 1 → AllIn n ls → AllJoin n (edges_from at ls)
from_joined n at [] pos le p = tt
from_joined n at (l ∷ ls) pos le p =
    out_joined n at l.leads _ pos (omega (arith, le)) p.0 (from_joined n (at + 1) ls (omega arith) (omega (arith, le)) p.1)

-- both ends of each edge of a function are its points
pub all_join : (f : Function) → AllJoin (points_of f) (edges_of f)
all_join f =
    from_joined (points_of f) 1 (code_of f) (omega arith) (omega (arith, linked_length f.body 1 no_exits))
    (leads_in f.body 1 (points_of f) no_exits (omega arith) (omega arith) record { next = tt; on_break = tt; on_continue = tt; on_true = tt; on_false = tt })

-- edges that begin from a later point on begin from an earlier one on
from_earlier : (p q : ℕ) (es : List Edge) → p ≤ q → AreFrom q es → AreFrom p es
from_earlier p q [] le h = tt
from_earlier p q (e ∷ es) le h = (omega (arith, le, h.0), h.1)

out_from : (at : ℕ) (ls : List Lead) (es : List Edge) → AreFrom at es → AreFrom at (edges_out at ls ++ es)
out_from at [] es h = h
out_from at (l ∷ ls) es h = subst (AreFrom at) (sym (append_assoc (edge_to at l.to l.branch) (edges_out at ls) es)) (go l.to (out_from at ls es h))
  where
    go : (to : Option ℕ) → AreFrom at (edges_out at ls ++ es) → AreFrom at (edge_to at to l.branch ++ (edges_out at ls ++ es))
    go None rest = rest
    go (Some to) rest = (omega arith, rest)

all_from : (at : ℕ) (ls : List Linked) → AreFrom at (edges_from at ls)
all_from at [] = tt
all_from at (l ∷ ls) = out_from at l.leads _ (from_earlier at (at + 1) _ (omega arith) (all_from (at + 1) ls))

-- the edges of a function ascend by their first points
pub ascending : (f : Function) → AreAscending (edges_of f)
ascending f = from_earlier 0 1 (edges_of f) (omega arith) (all_from 1 (code_of f))
