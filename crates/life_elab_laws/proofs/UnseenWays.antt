-- Straight code that neither brings a local to life nor writes it flows alike where that is there: what is fine where it is blank is fine where it is ready, and leaves it so.
use Rattle.std.proofs.Common.{◌≡◌, ℕ, Bool, true, ◌&&◌, List, [], ◌∷◌, ◌++◌, Some, None, flat_map, slice_set, inl, inr, refl, sym, ap, ◌∙◌, subst}
use Rattle.std.proofs.lemmas.Bool.{and_parts, false≢true}
use Rattle.std.proofs.lemmas.List.Concat.{flat_map-append}
use Rattle.life_types.specs.Types.{Types}
use Rattle.life_core.specs.Function.{Function}
use Rattle.life_core.specs.Shape.{is_condition, is_statement, is_straight, test_straight, tests_straight}
use Rattle.life_core.specs.Touched.{touched, touched_by}
use Rattle.life_core.specs.Tree.{Tree, Skip, Then, Acts, Asks, Both, Either, Negated, Choice, Stops, Question, Spot, spots, trees}
use Rattle.life_proper.specs.Checking.{Flow, before_both, before_false, before_next, before_true, flow, joined, nowhere, turned}
use Rattle.life_proper.specs.Knowing.{State, known_at, met}
use Rattle.life_proper.specs.ReadyKnown.{are_ready, known_after, set_known}
use Rattle.life_proper.specs.declared.known.Known.{Known}
use Rattle.life_proper.specs.declared.known.Known.TheVariants as known
use Rattle.life_elab_laws.proofs.Among.{Among, Apart, among_left, among_right}
use Rattle.life_elab_laws.proofs.BornLocals.{born_of, born_spot, born_step}
use Rattle.life_elab_laws.proofs.Falling.{Falls}
use Rattle.life_elab_laws.proofs.UnseenLocals.{agreed_set, blank_agreed, point_there, there}
use Rattle.life_elab_laws.proofs.Knowledge.{beside_set}
use Rattle.life_elab_laws.proofs.Shaping.{IsFine}

module _ (types : Types) (f : Function) (x : ℕ) where
  -- ---- ways

  abbrev state_there : State → State
  state_there None = None
  state_there (Some k) = Some (there x k)

  abbrev flow_there : Flow → Flow
  flow_there w = record {
    fine = w.fine;
    next = state_there w.next;
    on_break = state_there w.on_break;
    on_continue = state_there w.on_continue;
    on_true = state_there w.on_true;
    on_false = state_there w.on_false;
  }

  -- it isn't there where a way leads
  abbrev IsBlankIn : State → Type 0
  IsBlankIn None = Unit {0}
  IsBlankIn (Some k) = known_at k x ≡ known.Blank

  record AreBlank (w : Flow) : Type 0 where
    pub next : IsBlankIn w.next
    pub on_break : IsBlankIn w.on_break
    pub on_continue : IsBlankIn w.on_continue
    pub on_true : IsBlankIn w.on_true
    pub on_false : IsBlankIn w.on_false

  met_there : (s t : State) → met (state_there s) (state_there t) ≡ state_there (met s t)
  met_there None t = refl
  met_there (Some k) None = refl
  met_there (Some k) (Some j) = ap Some (agreed_set k j x)

  met_blank : (s t : State) → IsBlankIn s → IsBlankIn t → IsBlankIn (met s t)
  met_blank None t one other = other
  met_blank (Some k) None one other = one
  met_blank (Some k) (Some j) one other = blank_agreed k j x one other

  joined_there : (a b : Flow) → joined (flow_there a) (flow_there b) ≡ flow_there (joined a b)
  joined_there a b =
      rw (met_there a.next b.next, met_there a.on_break b.on_break, met_there a.on_continue b.on_continue, met_there a.on_true b.on_true, met_there a.on_false b.on_false)
      refl

  joined_blank : (a b : Flow) → AreBlank a → AreBlank b → AreBlank (joined a b)
  joined_blank a b one other = record {
    next = met_blank a.next b.next one.next other.next;
    on_break = met_blank a.on_break b.on_break one.on_break other.on_break;
    on_continue = met_blank a.on_continue b.on_continue one.on_continue other.on_continue;
    on_true = met_blank a.on_true b.on_true one.on_true other.on_true;
    on_false = met_blank a.on_false b.on_false one.on_false other.on_false;
  }

  -- ---- a tree

  record Alike (t : Tree) (s : State) : Type 0 where
    pub same : flow types f t (state_there s) ≡ flow_there (flow types f t s)
    pub blank : AreBlank (flow types f t s)

  then_alike : (a b : Tree) (s : State) → Alike a s → Alike b (flow types f a s).next → Alike (Then a b) s
  then_alike a b s first second = let w = flow types f a s in record {
    same =
        ap (λ (u : Flow). joined (before_next u) (flow types f b u.next)) first.same
        ∙ ap (joined (before_next (flow_there w))) second.same
        ∙ joined_there (before_next w) (flow types f b w.next);
    blank =
        joined_blank (before_next w) (flow types f b w.next)
        (record { next = tt; on_break = first.blank.on_break; on_continue = first.blank.on_continue; on_true = first.blank.on_true; on_false = first.blank.on_false }) second.blank;
  }

  both_alike : (a b : Tree) (s : State) → Alike a s → Alike b (flow types f a s).on_true → Alike (Both a b) s
  both_alike a b s first second = let w = flow types f a s in record {
    same =
        ap (λ (u : Flow). joined (before_true u) (flow types f b u.on_true)) first.same
        ∙ ap (joined (before_true (flow_there w))) second.same
        ∙ joined_there (before_true w) (flow types f b w.on_true);
    blank =
        joined_blank (before_true w) (flow types f b w.on_true)
        (record { next = first.blank.next; on_break = first.blank.on_break; on_continue = first.blank.on_continue; on_true = tt; on_false = first.blank.on_false }) second.blank;
  }

  either_alike : (a b : Tree) (s : State) → Alike a s → Alike b (flow types f a s).on_false → Alike (Either a b) s
  either_alike a b s first second = let w = flow types f a s in record {
    same =
        ap (λ (u : Flow). joined (before_false u) (flow types f b u.on_false)) first.same
        ∙ ap (joined (before_false (flow_there w))) second.same
        ∙ joined_there (before_false w) (flow types f b w.on_false);
    blank =
        joined_blank (before_false w) (flow types f b w.on_false)
        (record { next = first.blank.next; on_break = first.blank.on_break; on_continue = first.blank.on_continue; on_true = first.blank.on_true; on_false = tt }) second.blank;
  }

  choice_alike : (t a b : Tree) (s : State) → Alike t s → Alike a (flow types f t s).on_true → Alike b (flow types f t s).on_false → Alike (Choice t a b) s
  choice_alike t a b s test first second =
      let w = flow types f t s in
      let v = flow types f a w.on_true in
      let u = flow types f b w.on_false in
      record {
        same =
            ap (λ (q : Flow). joined (before_both q) (joined (flow types f a q.on_true) (flow types f b q.on_false))) test.same
            ∙ ap (λ (q : Flow). joined (before_both (flow_there w)) (joined q (flow types f b (state_there w.on_false)))) first.same
            ∙ ap (λ (q : Flow). joined (before_both (flow_there w)) (joined (flow_there v) q)) second.same
            ∙ ap (joined (before_both (flow_there w))) (joined_there v u)
            ∙ joined_there (before_both w) (joined v u);
        blank =
            joined_blank (before_both w) (joined v u)
            (record { next = test.blank.next; on_break = test.blank.on_break; on_continue = test.blank.on_continue; on_true = tt; on_false = tt })
            (joined_blank v u first.blank second.blank);
      }

  nothing_blank : (s : State) → IsBlankIn s → AreBlank (record nowhere { next = s })
  nothing_blank s blank = record { next = blank; on_break = tt; on_continue = tt; on_true = tt; on_false = tt }

  -- what is among neither
  abbrev IsAside : List Spot → Type 0
  IsAside xs = Among x (flat_map (born_spot f) xs) → ⊥

  aside_left : (xs ys : List Spot) → IsAside (xs ++ ys) → IsAside xs
  aside_left xs ys none m = none (subst (Among x) (sym (flat_map-append (born_spot f) xs ys)) (among_left (flat_map (born_spot f) xs) (flat_map (born_spot f) ys) x m))

  aside_right : (xs ys : List Spot) → IsAside (xs ++ ys) → IsAside ys
  aside_right xs ys none m = none (subst (Among x) (sym (flat_map-append (born_spot f) xs ys)) (among_right (flat_map (born_spot f) xs) (flat_map (born_spot f) ys) x m))

  mutual
    code_alike : (t : Tree) → is_statement t ≡ true → is_straight t ≡ true → tests_straight t ≡ true → (s : State) → IsBlankIn s → (flow types f t s).fine ≡ true → IsAside (spots t) → Alike t s
    code_alike Skip h e q s blank fine none = record { same = refl; blank = nothing_blank s blank }
    code_alike (Then a b) h e q s blank fine none =
        let shape = and_parts (is_statement a) (is_statement b) h in
        let straight = and_parts (is_straight a) (is_straight b) e in
        let tests = and_parts (tests_straight a) (tests_straight b) q in
        let w = flow types f a s in
        let parts = and_parts w.fine (flow types f b w.next).fine fine in
        let first = code_alike a shape.0 straight.0 tests.0 s blank parts.0 (aside_left (spots a) (spots b) none) in
        then_alike a b s first (code_alike b shape.1 straight.1 tests.1 w.next first.blank.next parts.1 (aside_right (spots a) (spots b) none))
    code_alike (Acts place i) h e q None blank fine none = record { same = refl; blank = nothing_blank None tt }
    code_alike (Acts place i) h e q (Some k) blank fine none =
        let point = point_there x k (touched_by f i) blank fine (λ m. none (among_left (born_step f i) [] x m)) in
        record {
          same =
              ap (λ (b : Bool). let w : Flow = record nowhere { fine = b; next = Some (known_after (touched_by f i) (there x k)) } in w) (point.0 ∙ sym fine)
              ∙ ap (λ (j : List Known). let w : Flow = record nowhere { fine = are_ready k (touched_by f i); next = Some j } in w) point.1;
          blank = record { next = point.2; on_break = tt; on_continue = tt; on_true = tt; on_false = tt };
        }
    code_alike (Choice t a b) h e q s blank fine none =
        let shape = and_parts (is_condition t) (is_statement a && is_statement b) h in
        let both = and_parts (is_statement a) (is_statement b) shape.1 in
        let straight = and_parts (is_straight a) (is_straight b) e in
        let tests = and_parts (test_straight t) (tests_straight a && tests_straight b) q in
        let inner = and_parts (tests_straight a) (tests_straight b) tests.1 in
        let w = flow types f t s in
        let parts = and_parts w.fine ((flow types f a w.on_true).fine && (flow types f b w.on_false).fine) fine in
        let others = and_parts (flow types f a w.on_true).fine (flow types f b w.on_false).fine parts.1 in
        let behind : IsAside (spots a ++ spots b) = aside_right (spots t) (spots a ++ spots b) none in
        let test = test_alike t shape.0 tests.0 s blank parts.0 (aside_left (spots t) (spots a ++ spots b) none) in
        choice_alike t a b s test
        (code_alike a both.0 straight.0 inner.0 w.on_true test.blank.on_true others.0 (aside_left (spots a) (spots b) behind))
        (code_alike b both.1 straight.1 inner.1 w.on_false test.blank.on_false others.1 (aside_right (spots a) (spots b) behind))
    code_alike (Stops place) h e q s blank fine none = record { same = refl; blank = nothing_blank None tt }
    code_alike _ h e q s blank fine none = absurd (false≢true e)

    test_alike : (t : Tree) → is_condition t ≡ true → test_straight t ≡ true → (s : State) → IsBlankIn s → (flow types f t s).fine ≡ true → IsAside (spots t) → Alike t s
    test_alike (Then a b) h e s blank fine none =
        let shape = and_parts (is_statement a) (is_condition b) h in
        let outer = and_parts (is_straight a) (tests_straight a && test_straight b) e in
        let inner = and_parts (tests_straight a) (test_straight b) outer.1 in
        let w = flow types f a s in
        let parts = and_parts w.fine (flow types f b w.next).fine fine in
        let first = code_alike a shape.0 outer.0 inner.0 s blank parts.0 (aside_left (spots a) (spots b) none) in
        then_alike a b s first (test_alike b shape.1 inner.1 w.next first.blank.next parts.1 (aside_right (spots a) (spots b) none))
    test_alike (Asks place t) h e None blank fine none = record { same = refl; blank = nothing_blank None tt }
    test_alike (Asks place t) h e (Some k) blank fine none =
        let point = point_there x k (touched types f (Question t)) blank fine (λ m. m) in
        record {
          same = ap (λ (b : Bool). let w : Flow = record nowhere { fine = b; on_true = Some (there x k); on_false = Some (there x k) } in w) (point.0 ∙ sym fine);
          blank = record { next = tt; on_break = tt; on_continue = tt; on_true = blank; on_false = blank };
        }
    test_alike (Both a b) h e s blank fine none =
        let shape = and_parts (is_condition a) (is_condition b) h in
        let straight = and_parts (test_straight a) (test_straight b) e in
        let w = flow types f a s in
        let parts = and_parts w.fine (flow types f b w.on_true).fine fine in
        let first = test_alike a shape.0 straight.0 s blank parts.0 (aside_left (spots a) (spots b) none) in
        both_alike a b s first (test_alike b shape.1 straight.1 w.on_true first.blank.on_true parts.1 (aside_right (spots a) (spots b) none))
    test_alike (Either a b) h e s blank fine none =
        let shape = and_parts (is_condition a) (is_condition b) h in
        let straight = and_parts (test_straight a) (test_straight b) e in
        let w = flow types f a s in
        let parts = and_parts w.fine (flow types f b w.on_false).fine fine in
        let first = test_alike a shape.0 straight.0 s blank parts.0 (aside_left (spots a) (spots b) none) in
        either_alike a b s first (test_alike b shape.1 straight.1 w.on_false first.blank.on_false parts.1 (aside_right (spots a) (spots b) none))
    test_alike (Negated a) h e s blank fine none =
        let first = test_alike a h e s blank fine none in
        record {
          same = ap turned first.same;
          blank = record { next = first.blank.next; on_break = first.blank.on_break; on_continue = first.blank.on_continue; on_true = first.blank.on_false; on_false = first.blank.on_true };
        }
    test_alike _ h e s blank fine none = absurd (false≢true h)

  -- ---- code that falls

  falls_alike : (texts : ℕ) (fs : List Function) (code : List Tree) → IsFine types texts fs f code → (k j : List Known) → known_at k x ≡ known.Blank → (Among x (born_of f (trees code)) → ⊥) → Falls types f code k j
      → Falls types f code (there x k) (there x j)
  falls_alike texts fs code is k j blank none falls =
      (code_alike (trees code) (is.stated true).statement is.straight (is.stated true).tests (Some k) blank (ap (λ (w : Flow). w.fine) falls) none).same ∙ ap flow_there falls

-- several more
pub falls_there : (types : Types) (texts : ℕ) (fs : List Function) (f : Function) (code : List Tree) → IsFine types texts fs f code → (xs : List ℕ) → Apart xs → (k j : List Known)
    → ((x : ℕ) → Among x xs → known_at k x ≡ known.Blank) → ((x : ℕ) → Among x xs → Among x (born_of f (trees code)) → ⊥) → Falls types f code k j
    → Falls types f code (set_known known.Ready xs k) (set_known known.Ready xs j)
falls_there types texts fs f code is [] apart k j blank none falls = falls
falls_there types texts fs f code is (x ∷ xs) apart k j blank none falls =
    falls_there types texts fs f code is xs apart.1 (slice_set k x known.Ready) (slice_set j x known.Ready)
    (λ y m. beside_set k x y known.Ready (λ e. apart.0 (subst (λ (z : ℕ). Among z xs) (sym e) m)) ∙ blank y (inr m)) (λ y m. none y (inr m))
    (falls_alike types f x texts fs code is k j (blank x (inl refl)) (none x (inl refl)) falls)
