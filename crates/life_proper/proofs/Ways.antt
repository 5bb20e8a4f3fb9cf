-- The points of a tree with what is known where they are reached: where control enters it and where it goes on from each point.
use Rattle.std.proofs.Common.{◌≡◌, ◌+◌, ℕ, zero, suc, ◌&&◌, ◌⊎◌, ⊎_elim, inl, inr, List, [], ◌∷◌, ◌++◌, length, Option, Some, None, slice_get, refl, sym, ◌∙◌, ap, subst, arith}
use Rattle.std.proofs.lemmas.Bool.{and_parts, false≢true}
use Rattle.std.proofs.lemmas.Option.{none-some}
use Rattle.std.specs.Prelude.{IsTrue}
use Rattle.life_types.specs.Types.{Types}
use Rattle.life_core.specs.declared.exits.Exits.{Exits}
use Rattle.life_core.specs.Function.{Function}
use Rattle.life_core.specs.Linked.{Lead, Linked, body_exits, enter, goes, linked, parts, spot_at, turned, with_false, with_next, with_true}
use Rattle.life_core.specs.Proper.{IsNodeReady, bits_after, bits_past}
use Rattle.life_core.specs.Ready.{Ready}
use Rattle.life_core.specs.Shape.{is_condition, is_statement}
use Rattle.life_core.specs.Touched.{touched_by}
use Rattle.life_core.specs.Tree.{Tree, Skip, Then, Acts, Asks, Both, Either, Negated, Choice, Turns, Breaks, Continues, Returns, Stops, size, Action, Question, Return, Stop}
use Rattle.life_core.proofs.EntryLemmas.{enter_same, enter_then}
use Rattle.life_core.proofs.SpotLemmas.{linked_length}
use Rattle.life_proper.specs.Checking.{Flow, before_both, before_false, before_next, before_true, flow, joined, of_body, of_step, of_test}
use Rattle.life_proper.specs.Knowing.{State, at_head, comes_back, met}
use Rattle.life_proper.proofs.Meeting.{IsMet, met_forgotten, met_head, met_left, met_right}
use Rattle.life_proper.proofs.Readiness.{met_after, ready_at}

-- ---- shapes

-- what comes before something else is a statement
abbrev pub IsShaped : Tree → Type 0
IsShaped (Then a b) = IsTrue (is_statement a) × (IsShaped a × IsShaped b)
IsShaped (Both a b) = IsShaped a × IsShaped b
IsShaped (Either a b) = IsShaped a × IsShaped b
IsShaped (Negated a) = IsShaped a
IsShaped (Choice t a b) = IsShaped t × (IsShaped a × IsShaped b)
IsShaped (Turns t body step) = IsShaped t × (IsShaped body × IsShaped step)
IsShaped _ = Unit {0}

mutual
  pub statement_shaped : (t : Tree) → IsTrue (is_statement t) → IsShaped t
  statement_shaped (Then a b) h =
      let both = and_parts (is_statement a) (is_statement b) h in
      (both.0, (statement_shaped a both.0, statement_shaped b both.1))
  statement_shaped (Both a b) h = absurd (false≢true h)
  statement_shaped (Either a b) h = absurd (false≢true h)
  statement_shaped (Negated a) h = absurd (false≢true h)
  statement_shaped (Choice t a b) h =
      let outer = and_parts (is_condition t) (is_statement a && is_statement b) h in
      let both = and_parts (is_statement a) (is_statement b) outer.1 in
      (condition_shaped t outer.0, (statement_shaped a both.0, statement_shaped b both.1))
  statement_shaped (Turns t body step) h =
      let outer = and_parts (is_condition t) (is_statement body && is_statement step) h in
      let both = and_parts (is_statement body) (is_statement step) outer.1 in
      (condition_shaped t outer.0, (statement_shaped body both.0, statement_shaped step both.1))
  statement_shaped _ h = tt

  condition_shaped : (t : Tree) → IsTrue (is_condition t) → IsShaped t
  condition_shaped (Then a b) h =
      let both = and_parts (is_statement a) (is_condition b) h in
      (both.0, (statement_shaped a both.0, condition_shaped b both.1))
  condition_shaped (Both a b) h =
      let both = and_parts (is_condition a) (is_condition b) h in
      (condition_shaped a both.0, condition_shaped b both.1)
  condition_shaped (Either a b) h =
      let both = and_parts (is_condition a) (is_condition b) h in
      (condition_shaped a both.0, condition_shaped b both.1)
  condition_shaped (Negated a) h = condition_shaped a h
  condition_shaped (Choice t a b) h = absurd (false≢true h)
  condition_shaped (Turns t body step) h = absurd (false≢true h)
  condition_shaped _ h = tt

-- ---- a point among others

pub record Found (code : List Linked) (at p : ℕ) (l : Linked) : Type 0 where
  pub place : ℕ
  pub is : p ≡ at + place
  pub there : slice_get code place ≡ Some l

get_left : (us vs : List Linked) (n : ℕ) (l : Linked) → slice_get us n ≡ Some l → slice_get (us ++ vs) n ≡ Some l
get_left [] vs n l e = absurd (none-some l e)
get_left (u ∷ us) vs zero l e = e
get_left (u ∷ us) vs (suc n) l e = get_left us vs n l e

get_right : (us vs : List Linked) (n k : ℕ) → k ≡ length us + n → slice_get (us ++ vs) k ≡ slice_get vs n
get_right [] vs n k e = let same : k ≡ n = omega (arith, e) in ap (slice_get vs) same
get_right (u ∷ us) vs n zero e = absurd (omega (arith, e))
get_right (u ∷ us) vs n (suc k) e = get_right us vs n k (omega (arith, e))

-- .. in the first part of a list or in the second
two_found : {A B : Type 0} (us vs : List Linked) (m at p : ℕ) (l : Linked) → length us ≡ m → (A → Found us at p l) → (B → Found vs (at + m) p l) → A ⊎ B → Found (us ++ vs) at p l
two_found us vs m at p l e f g (inl a) = let here = f a in record { place = here.place; is = here.is; there = get_left us vs here.place l here.there }
two_found us vs m at p l e f g (inr b) =
    let here = g b in
    record { place = m + here.place; is = omega (arith, here.is); there = get_right us vs here.place (m + here.place) (omega (arith, e)) ∙ here.there }

-- ---- the points of a tree

-- a point of its own
pub record IsHere (at : ℕ) (here : Linked) (s : State) (p : ℕ) (l : Linked) (bits : Ready) : Type 0 where
  pub number : p ≡ at
  pub is : here ≡ l
  pub meets : IsMet s bits

alone : (at : ℕ) (here : Linked) (s : State) (p : ℕ) (l : Linked) (bits : Ready) → IsHere at here s p l bits → Found (here ∷ []) at p l
alone at here s p l bits h = record { place = 0; is = omega (arith, h.number); there = ap Some h.is }

-- control comes to a point with bits that have something of their own
abbrev pub Comes : (ℕ → Ready → Type 0) → Option ℕ → Ready → Type 0
Comes Q None bits = ⊥
Comes Q (Some p) bits = Q p bits

-- .. by each way out of a point
abbrev pub AllCome : (ℕ → Ready → Type 0) → Ready → List Lead → Type 0
AllCome Q bits [] = Unit {0}
AllCome Q bits (l ∷ ls) = Comes Q l.to bits × AllCome Q bits ls

-- .. whatever the bits are that what is known is true of
abbrev pub Serves : (ℕ → Ready → Type 0) → State → Option ℕ → Type 0
Serves Q s to = (bits : Ready) → IsMet s bits → Comes Q to bits

module _ (types : Types) (f : Function) where
  -- the point with this number is reached in the tree with these bits, of which is true what is known there
  abbrev pub Stands : Tree → ℕ → State → Exits → ℕ → Linked → Ready → Type 0
  Stands Skip at s x p l bits = ⊥
  Stands (Then a b) at s x p l bits =
      Stands a at s (with_next (enter b (at + size a) x) x) p l bits ⊎ Stands b (at + size a) (flow types f a s).next x p l bits
  Stands (Acts place i) at s x p l bits = IsHere at (record { spot = spot_at place (Action i); leads = goes x.next }) s p l bits
  Stands (Asks place t) at s x p l bits = IsHere at (record { spot = spot_at place (Question t); leads = parts x.on_true x.on_false }) s p l bits
  Stands (Both a b) at s x p l bits =
      Stands a at s (with_true (enter b (at + size a) x) x) p l bits ⊎ Stands b (at + size a) (flow types f a s).on_true x p l bits
  Stands (Either a b) at s x p l bits =
      Stands a at s (with_false (enter b (at + size a) x) x) p l bits ⊎ Stands b (at + size a) (flow types f a s).on_false x p l bits
  Stands (Negated a) at s x p l bits = Stands a at s (turned x) p l bits
  Stands (Choice t a b) at s x p l bits =
      let first = at + size t in
      let second = first + size a in
      let w = flow types f t s in
      Stands t at s (with_true (enter a first x) (with_false (enter b second x) x)) p l bits
      ⊎ (Stands a first w.on_true x p l bits ⊎ Stands b second w.on_false x p l bits)
  Stands (Turns t body step) at s x p l bits =
      let first = at + size t in
      let second = first + size body in
      let turn = with_next (enter t at x) x in
      let inner = body_exits (enter step second turn) x in
      let head = at_head f.locals s in
      let w = flow types f t head in
      let v = flow types f body w.on_true in
      Stands t at head (with_true (enter body first inner) (with_false x.next x)) p l bits
      ⊎ (Stands body first w.on_true inner p l bits ⊎ Stands step second (met v.next v.on_continue) turn p l bits)
  Stands Breaks at s x p l bits = ⊥
  Stands Continues at s x p l bits = ⊥
  Stands (Returns place) at s x p l bits = IsHere at (record { spot = spot_at place Return; leads = [] }) s p l bits
  Stands (Stops place) at s x p l bits = IsHere at (record { spot = spot_at place Stop; leads = [] }) s p l bits

  -- it is one of the tree's linked points
  pub found : (t : Tree) (at : ℕ) (s : State) (x : Exits) (p : ℕ) (l : Linked) (bits : Ready) → Stands t at s x p l bits → Found (linked t at x) at p l
  found Skip at s x p l bits h = absurd h
  found (Then a b) at s x p l bits h = two_found _ _ (size a) at p l (linked_length a at _) (found a at s _ p l bits) (found b (at + size a) _ x p l bits) h
  found (Acts place i) at s x p l bits h = alone at _ s p l bits h
  found (Asks place t) at s x p l bits h = alone at _ s p l bits h
  found (Both a b) at s x p l bits h = two_found _ _ (size a) at p l (linked_length a at _) (found a at s _ p l bits) (found b (at + size a) _ x p l bits) h
  found (Either a b) at s x p l bits h = two_found _ _ (size a) at p l (linked_length a at _) (found a at s _ p l bits) (found b (at + size a) _ x p l bits) h
  found (Negated a) at s x p l bits h = found a at s (turned x) p l bits h
  found (Choice t a b) at s x p l bits h =
      two_found _ _ (size t) at p l (linked_length t at _) (found t at s _ p l bits)
      (two_found _ _ (size a) (at + size t) p l (linked_length a (at + size t) _) (found a (at + size t) _ x p l bits) (found b (at + size t + size a) _ x p l bits))
      h
  found (Turns t body step) at s x p l bits h =
      two_found _ _ (size t) at p l (linked_length t at _) (found t at _ _ p l bits)
      (two_found _ _ (size body) (at + size t) p l (linked_length body (at + size t) _) (found body (at + size t) _ _ p l bits) (found step (at + size t + size body) _ _ p l bits))
      h
  found Breaks at s x p l bits h = absurd h
  found Continues at s x p l bits h = absurd h
  found (Returns place) at s x p l bits h = alone at _ s p l bits h
  found (Stops place) at s x p l bits h = alone at _ s p l bits h

  module _ (Q : ℕ → Ready → Type 0) where
    -- control comes to a point by the exits, with what is known there: past the end, by a break and by a continue
    abbrev pub Leaves : Flow → Exits → Type 0
    Leaves w x = Serves Q w.next x.next × Serves Q w.on_break x.on_break × Serves Q w.on_continue x.on_continue

    -- .. and from a condition where it holds and where it doesn't
    abbrev pub Answers : Flow → Exits → Type 0
    Answers w x = Serves Q w.on_true x.on_true × Serves Q w.on_false x.on_false

    leaves_left : (w v : Flow) (x : Exits) → Leaves (joined w v) x → Leaves w x
    leaves_left w v x h = (
      λ bits m. h.0 bits (met_left w.next v.next bits m),
      λ bits m. h.1 bits (met_left w.on_break v.on_break bits m),
      λ bits m. h.2 bits (met_left w.on_continue v.on_continue bits m),
    )

    leaves_right : (w v : Flow) (x : Exits) → Leaves (joined w v) x → Leaves v x
    leaves_right w v x h = (
      λ bits m. h.0 bits (met_right w.next v.next bits m),
      λ bits m. h.1 bits (met_right w.on_break v.on_break bits m),
      λ bits m. h.2 bits (met_right w.on_continue v.on_continue bits m),
    )

    answers_left : (w v : Flow) (x : Exits) → Answers (joined w v) x → Answers w x
    answers_left w v x h = (λ bits m. h.0 bits (met_left w.on_true v.on_true bits m), λ bits m. h.1 bits (met_left w.on_false v.on_false bits m))

    answers_right : (w v : Flow) (x : Exits) → Answers (joined w v) x → Answers v x
    answers_right w v x h = (λ bits m. h.0 bits (met_right w.on_true v.on_true bits m), λ bits m. h.1 bits (met_right w.on_false v.on_false bits m))

    -- each point of the tree, with bits of which is true what is known there, is one to come to
    abbrev pub Covers : Tree → ℕ → State → Exits → Type 0
    Covers t at s x = (p : ℕ) (l : Linked) (bits : Ready) → Stands t at s x p l bits → Q p bits

    -- control enters the tree at such a point, or goes straight to such an exit
    pub entered : (t : Tree) (at : ℕ) (s : State) (x : Exits) → IsShaped t → Leaves (flow types f t s) x → Covers t at s x → Serves Q s (enter t at x)
    entered Skip at s x sh out all = out.0
    entered (Then a b) at s x sh out all =
        let first = at + size a in
        let w = flow types f a s in
        let v = flow types f b w.next in
        let outside = leaves_left (before_next w) v x out in
        let second = entered b first w.next x sh.1.1 (leaves_right (before_next w) v x out) (λ p l bits h. all p l bits (inr h)) in
        subst (Serves Q s) (sym (enter_then a b at x sh.0))
        (entered a at s (with_next (enter b first x) x) sh.1.0 (second, outside.1, outside.2) (λ p l bits h. all p l bits (inl h)))
    entered (Acts place i) at s x sh out all = λ bits m. all at _ bits (record { number = refl; is = refl; meets = m })
    entered (Asks place t) at s x sh out all = λ bits m. all at _ bits (record { number = refl; is = refl; meets = m })
    entered (Both a b) at s x sh out all =
        let w = flow types f a s in
        let inner = with_true (enter b (at + size a) x) x in
        subst (Serves Q s) (enter_same a at inner x refl refl refl)
        (entered a at s inner sh.0 (leaves_left (before_true w) (flow types f b w.on_true) x out) (λ p l bits h. all p l bits (inl h)))
    entered (Either a b) at s x sh out all =
        let w = flow types f a s in
        let inner = with_false (enter b (at + size a) x) x in
        subst (Serves Q s) (enter_same a at inner x refl refl refl)
        (entered a at s inner sh.0 (leaves_left (before_false w) (flow types f b w.on_false) x out) (λ p l bits h. all p l bits (inl h)))
    entered (Negated a) at s x sh out all =
        subst (Serves Q s) (enter_same a at (turned x) x refl refl refl) (entered a at s (turned x) sh out all)
    entered (Choice t a b) at s x sh out all =
        let first = at + size t in
        let w = flow types f t s in
        let inner = with_true (enter a first x) (with_false (enter b (first + size a) x) x) in
        let rest = joined (flow types f a w.on_true) (flow types f b w.on_false) in
        subst (Serves Q s) (enter_same t at inner x refl refl refl)
        (entered t at s inner sh.0 (leaves_left (before_both w) rest x out) (λ p l bits h. all p l bits (inl h)))
    entered (Turns t body step) at s x sh out all =
        let first = at + size t in
        let second = first + size body in
        let turn = with_next (enter t at x) x in
        let inner = body_exits (enter step second turn) x in
        let tests = with_true (enter body first inner) (with_false x.next x) in
        let head = at_head f.locals s in
        let w = flow types f t head in
        let v = flow types f body w.on_true in
        let u = flow types f step (met v.next v.on_continue) in
        let outside = leaves_left (of_test w) (joined (of_body v) (of_step head u)) x out in
        let top = entered t at head tests sh.0 (λ bits m. outside.0 bits (met_left w.next w.on_false bits m), outside.1, outside.2) (λ p l bits h. all p l bits (inl h)) in
        λ bits m. subst (Serves Q head) (enter_same t at tests x refl refl refl) top bits (met_forgotten f.locals s bits m)
    entered Breaks at s x sh out all = out.1
    entered Continues at s x sh out all = out.2
    entered (Returns place) at s x sh out all = λ bits m. all at _ bits (record { number = refl; is = refl; meets = m })
    entered (Stops place) at s x sh out all = λ bits m. all at _ bits (record { number = refl; is = refl; meets = m })

    -- ---- each point

    -- it is ready, and control comes from it to such points
    pub record IsSound (bits : Ready) (l : Linked) : Type 0 where
      pub ready : IsNodeReady types f bits l.spot.node
      pub leads : AllCome Q (bits_past types f l.spot.node bits) l.leads

    abbrev pub AllSound : Tree → ℕ → State → Exits → Type 0
    AllSound t at s x = (p : ℕ) (l : Linked) (bits : Ready) → Stands t at s x p l bits → IsSound bits l

    pub sound : (t : Tree) (at : ℕ) (s : State) (x : Exits) → IsShaped t → Leaves (flow types f t s) x → Answers (flow types f t s) x → Covers t at s x
        → IsTrue (flow types f t s).fine → AllSound t at s x
    sound Skip at s x sh out ans all fine = λ p l bits h. absurd h
    sound (Then a b) at s x sh out ans all fine =
        let first = at + size a in
        let w = flow types f a s in
        let v = flow types f b w.next in
        let fines = and_parts w.fine v.fine fine in
        let outside = leaves_left (before_next w) v x out in
        let behind = leaves_right (before_next w) v x out in
        let second = entered b first w.next x sh.1.1 behind (λ p l bits h. all p l bits (inr h)) in
        λ p l bits. ⊎_elim
        (sound a at s (with_next (enter b first x) x) sh.1.0 (second, outside.1, outside.2) (answers_left (before_next w) v x ans) (λ p l bits h. all p l bits (inl h)) fines.0 p l bits)
        (sound b first w.next x sh.1.1 behind (answers_right (before_next w) v x ans) (λ p l bits h. all p l bits (inr h)) fines.1 p l bits)
    sound (Acts place i) at s x sh out ans all fine = λ p l bits h. subst (IsSound bits) h.is (record {
      ready = ready_at types f s bits (Action i) h.meets fine;
      leads = (out.0 (bits_after (touched_by f i) bits) (met_after f s bits i h.meets), tt);
    })
    sound (Asks place t) at s x sh out ans all fine = λ p l bits h. subst (IsSound bits) h.is (record {
      ready = ready_at types f s bits (Question t) h.meets fine;
      leads = (ans.0 bits h.meets, (ans.1 bits h.meets, tt));
    })
    sound (Both a b) at s x sh out ans all fine =
        let first = at + size a in
        let w = flow types f a s in
        let v = flow types f b w.on_true in
        let fines = and_parts w.fine v.fine fine in
        let behind = leaves_right (before_true w) v x out in
        let second = entered b first w.on_true x sh.1 behind (λ p l bits h. all p l bits (inr h)) in
        λ p l bits. ⊎_elim
        (sound a at s (with_true (enter b first x) x) sh.0 (leaves_left (before_true w) v x out) (second, (answers_left (before_true w) v x ans).1) (λ p l bits h. all p l bits (inl h)) fines.0 p l bits)
        (sound b first w.on_true x sh.1 behind (answers_right (before_true w) v x ans) (λ p l bits h. all p l bits (inr h)) fines.1 p l bits)
    sound (Either a b) at s x sh out ans all fine =
        let first = at + size a in
        let w = flow types f a s in
        let v = flow types f b w.on_false in
        let fines = and_parts w.fine v.fine fine in
        let behind = leaves_right (before_false w) v x out in
        let second = entered b first w.on_false x sh.1 behind (λ p l bits h. all p l bits (inr h)) in
        λ p l bits. ⊎_elim
        (sound a at s (with_false (enter b first x) x) sh.0 (leaves_left (before_false w) v x out) ((answers_left (before_false w) v x ans).0, second) (λ p l bits h. all p l bits (inl h)) fines.0 p l bits)
        (sound b first w.on_false x sh.1 behind (answers_right (before_false w) v x ans) (λ p l bits h. all p l bits (inr h)) fines.1 p l bits)
    sound (Negated a) at s x sh out ans all fine = sound a at s (turned x) sh out (ans.1, ans.0) all fine
    sound (Choice t a b) at s x sh out ans all fine =
        let first = at + size t in
        let second = first + size a in
        let w = flow types f t s in
        let v = flow types f a w.on_true in
        let u = flow types f b w.on_false in
        let fines = and_parts w.fine (v.fine && u.fine) fine in
        let inner_fines = and_parts v.fine u.fine fines.1 in
        let behind = leaves_right (before_both w) (joined v u) x out in
        let behind_answers = answers_right (before_both w) (joined v u) x ans in
        let out_a = leaves_left v u x behind in
        let out_b = leaves_right v u x behind in
        let to_a = entered a first w.on_true x sh.1.0 out_a (λ p l bits h. all p l bits (inr (inl h))) in
        let to_b = entered b second w.on_false x sh.1.1 out_b (λ p l bits h. all p l bits (inr (inr h))) in
        λ p l bits. ⊎_elim
        (sound t at s (with_true (enter a first x) (with_false (enter b second x) x)) sh.0 (leaves_left (before_both w) (joined v u) x out) (to_a, to_b) (λ p l bits h. all p l bits (inl h)) fines.0 p l bits)
        (⊎_elim
        (sound a first w.on_true x sh.1.0 out_a (answers_left v u x behind_answers) (λ p l bits h. all p l bits (inr (inl h))) inner_fines.0 p l bits)
        (sound b second w.on_false x sh.1.1 out_b (answers_right v u x behind_answers) (λ p l bits h. all p l bits (inr (inr h))) inner_fines.1 p l bits))
    sound (Turns t body step) at s x sh out ans all fine =
        let first = at + size t in
        let second = first + size body in
        let turn = with_next (enter t at x) x in
        let inner = body_exits (enter step second turn) x in
        let tests = with_true (enter body first inner) (with_false x.next x) in
        let head = at_head f.locals s in
        let w = flow types f t head in
        let v = flow types f body w.on_true in
        let again = met v.next v.on_continue in
        let u = flow types f step again in
        let fines = and_parts w.fine (v.fine && (u.fine && comes_back head u.next)) fine in
        let inner_fines = and_parts v.fine (u.fine && comes_back head u.next) fines.1 in
        let step_fines = and_parts u.fine (comes_back head u.next) inner_fines.1 in
        let outside = leaves_left (of_test w) (joined (of_body v) (of_step head u)) x out in
        let behind = leaves_right (of_test w) (joined (of_body v) (of_step head u)) x out in
        let behind_answers = answers_right (of_test w) (joined (of_body v) (of_step head u)) x ans in
        let out_body = leaves_left (of_body v) (of_step head u) x behind in
        let out_step = leaves_right (of_body v) (of_step head u) x behind in
        let test_leaves : Leaves w tests = (λ bits m. outside.0 bits (met_left w.next w.on_false bits m), outside.1, outside.2) in
        let top = subst (Serves Q head) (enter_same t at tests x refl refl refl) (entered t at head tests sh.0 test_leaves (λ p l bits h. all p l bits (inl h))) in
        let step_leaves : Leaves u turn = (λ bits m. top bits (met_head head u.next bits step_fines.1 m), out_step.1, out_step.2) in
        let to_step = entered step second again turn sh.1.1 step_leaves (λ p l bits h. all p l bits (inr (inr h))) in
        let body_leaves : Leaves v inner =
        (λ bits m. to_step bits (met_left v.next v.on_continue bits m), out_body.0, λ bits m. to_step bits (met_right v.next v.on_continue bits m)) in
        let to_body = entered body first w.on_true inner sh.1.0 body_leaves (λ p l bits h. all p l bits (inr (inl h))) in
        λ p l bits. ⊎_elim
        (sound t at head tests sh.0 test_leaves (to_body, λ bits m. outside.0 bits (met_right w.next w.on_false bits m)) (λ p l bits h. all p l bits (inl h)) fines.0 p l bits)
        (⊎_elim
        (sound body first w.on_true inner sh.1.0 body_leaves (answers_left (of_body v) (of_step head u) x behind_answers) (λ p l bits h. all p l bits (inr (inl h))) inner_fines.0 p l bits)
        (sound step second again turn sh.1.1 step_leaves (answers_right (of_body v) (of_step head u) x behind_answers) (λ p l bits h. all p l bits (inr (inr h))) step_fines.0 p l bits))
    sound Breaks at s x sh out ans all fine = λ p l bits h. absurd h
    sound Continues at s x sh out ans all fine = λ p l bits h. absurd h
    sound (Returns place) at s x sh out ans all fine = λ p l bits h. subst (IsSound bits) h.is (record {
      ready = ready_at types f s bits Return h.meets fine;
      leads = tt;
    })
    sound (Stops place) at s x sh out ans all fine = λ p l bits h. subst (IsSound bits) h.is (record { ready = record { uses = tt; leaves = tt; births = tt }; leads = tt })
