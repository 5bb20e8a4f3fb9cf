-- Where nothing comes of a function's facts but each fact itself: by the kind of point, or as a local without locations comes to life.
use Rattle.std.proofs.Common.{◌≡◌, ◌≢◌, ◌<◌, ◌+◌, ℕ, Bool, true, false, List, [], ◌∷◌, ◌++◌, Option, Some, None, inl, inr, ap, arith, length, nat_eq, refl, subst, sym, ◌∙◌}
use Rattle.std.proofs.lemmas.Bool.{both_ways, cases_Bool, eq-eqb, eqb-true}
use Rattle.std.specs.Prelude.{slice_get}
use Rattle.life_core.specs.Step.{Step, Live, End, Eval, Load, Save, Copy, Move, Aim, Repoint, Element, Cursor, Advance, Cut, Size, Same, Changes, Make, Call, Ports}
use Rattle.life_core.specs.Tree.{Node, Action, Question, Return, Stop, Spot}
use Rattle.life_pset.specs.declared.element.AbsPlace.{AbsPlace}
use Rattle.life_pset.specs.declared.element.Fact.{Fact}
use Rattle.life_rules.specs.Carrying.{none_at, one_at, two_at}
use Rattle.life_rules.specs.Matching.{unless}
use Rattle.life_rules.specs.Staying.{spot_keeps, spot_writes}
use Rattle.life_plan.specs.Crossing.{Crossing}
use Rattle.life_plan.specs.Numbered.{passes}
use Rattle.life_plan.specs.Still.{spot_bears, IsStill}
use Rattle.life_plan.proofs.Laws.{kept}

pub keeps_still : (c : Crossing) → spot_keeps c.spot ≡ true → IsStill c
keeps_still c h =
    let all = kept c.sigs c.types c.f c.spot h in
    record { none = all.none; one = λ x n at. all.one c.branch x; two = all.two }

-- no location of the table is written, and nothing comes of no fact
module _ (c : Crossing) (none : none_at c.sigs c.types c.f c.spot ≡ []) (unwritten : (n : ℕ) (l : AbsPlace) → slice_get c.table.locations n ≡ Some l → spot_writes c.spot l ≡ false) where
  pub bears_still : spot_bears c.spot ≡ true → IsStill c
  bears_still h = record {
    none = none;
    one = λ x n at. one c.spot h x (unwritten n x.location at);
    two = λ a b. two c.spot h a b;
  }
    where
      one_by : (s : Spot) (i : Step) → spot_bears (Some (record s { node = Action i })) ≡ true → (x : Fact) → spot_writes (Some (record s { node = Action i })) x.location ≡ false → one_at c.sigs c.types c.f c.branch (Some (record s { node = Action i })) x ≡ x ∷ []
      one_by s (Live y form) h x w = ap (λ (b : Bool). unless b x ++ []) w
      one_by s (End xs) h x w = absurd (both_ways false refl h)
      one_by s (Eval r operation) h x w = absurd (both_ways false refl h)
      one_by s (Load r o) h x w = absurd (both_ways false refl h)
      one_by s (Save o r) h x w = absurd (both_ways false refl h)
      one_by s (Copy to from) h x w = absurd (both_ways false refl h)
      one_by s (Move to y) h x w = absurd (both_ways false refl h)
      one_by s (Aim p t) h x w = absurd (both_ways false refl h)
      one_by s (Repoint p q) h x w = absurd (both_ways false refl h)
      one_by s (Element p b which) h x w = absurd (both_ways false refl h)
      one_by s (Cursor p b end) h x w = absurd (both_ways false refl h)
      one_by s (Advance p q r direction) h x w = absurd (both_ways false refl h)
      one_by s (Cut p q r count) h x w = absurd (both_ways false refl h)
      one_by s (Size r b) h x w = absurd (both_ways false refl h)
      one_by s (Same r a b equal) h x w = absurd (both_ways false refl h)
      one_by s (Changes o change) h x w = absurd (both_ways false refl h)
      one_by s (Make u what) h x w = absurd (both_ways false refl h)
      one_by s (Call target g xs) h x w = absurd (both_ways false refl h)
      one_by s (Ports p) h x w = absurd (both_ways false refl h)

      one : (o : Option Spot) → spot_bears o ≡ true → (x : Fact) → spot_writes o x.location ≡ false → one_at c.sigs c.types c.f c.branch o x ≡ x ∷ []
      one None h x w = absurd (both_ways false refl h)
      one (Some s) h x w = at s.node h w
        where
          at : (n : Node) → spot_bears (Some (record s { node = n })) ≡ true → spot_writes (Some (record s { node = n })) x.location ≡ false → one_at c.sigs c.types c.f c.branch (Some (record s { node = n })) x ≡ x ∷ []
          at (Action i) h w = one_by s i h x w
          at (Question t) h w = absurd (both_ways false refl h)
          at Return h w = absurd (both_ways false refl h)
          at Stop h w = absurd (both_ways false refl h)

      two_by : (s : Spot) (i : Step) → spot_bears (Some (record s { node = Action i })) ≡ true → (a b : Fact) → two_at c.sigs c.types c.f (Some (record s { node = Action i })) a b ≡ []
      two_by s (Live y form) h a b = refl
      two_by s (End xs) h a b = refl
      two_by s (Eval r operation) h a b = refl
      two_by s (Load r o) h a b = refl
      two_by s (Save o r) h a b = refl
      two_by s (Copy to from) h a b = absurd (both_ways false refl h)
      two_by s (Move to y) h a b = absurd (both_ways false refl h)
      two_by s (Aim p t) h a b = refl
      two_by s (Repoint p q) h a b = refl
      two_by s (Element p e which) h a b = refl
      two_by s (Cursor p e end) h a b = refl
      two_by s (Advance p q r direction) h a b = refl
      two_by s (Cut p q r count) h a b = refl
      two_by s (Size r e) h a b = refl
      two_by s (Same r p q equal) h a b = refl
      two_by s (Changes o change) h a b = absurd (both_ways false refl h)
      two_by s (Make u what) h a b = refl
      two_by s (Call target g xs) h a b = absurd (both_ways false refl h)
      two_by s (Ports p) h a b = refl

      two : (o : Option Spot) → spot_bears o ≡ true → (a b : Fact) → two_at c.sigs c.types c.f o a b ≡ []
      two None h a b = refl
      two (Some s) h a b = at s.node h
        where
          at : (n : Node) → spot_bears (Some (record s { node = n })) ≡ true → two_at c.sigs c.types c.f (Some (record s { node = n })) a b ≡ []
          at (Action i) h = two_by s i h a b
          at (Question t) h = refl
          at Return h = refl
          at Stop h = refl

-- what no item so far passes, and the next doesn't, none up to the next does
pub none_passes : {A : Type 0} (test : A → Bool) (xs : List A) (k : ℕ) → ((m : ℕ) (x : A) → m < k → slice_get xs m ≡ Some x → test x ≡ false) → passes test (slice_get xs k) ≡ false → (m : ℕ) (x : A) → m < k + 1 → slice_get xs m ≡ Some x → test x ≡ false
none_passes test xs k was now m x lt at =
    elim (cases_Bool (nat_eq m k)) [
      | inl same ↦ ap (passes test) (sym (subst (λ n. slice_get xs n ≡ Some x) (eqb-true m k same) at)) ∙ now
      | inr other ↦ let ne : m ≢ k = λ e. both_ways (nat_eq m k) other (eq-eqb m k e) in was m x (omega (arith, lt, ne)) at
    ]

pub empty_list : {A : Type 0} (xs : List A) → length xs ≡ 0 → xs ≡ []
empty_list [] h = refl
empty_list (x ∷ xs) h = absurd (omega (arith, h))
