-- Along an edge whose first point keeps all facts, each fact comes of itself, and nothing else comes.
use Rattle.std.proofs.Common.{◌≡◌, Bool, true, false, List, [], ◌∷◌, Option, Some, None, refl}
use Rattle.std.proofs.lemmas.Bool.{both_ways}
use Rattle.life_types.specs.Types.{Types}
use Rattle.life_types.specs.declared.place.Place.{Place}
use Rattle.life_core.specs.Function.{Function}
use Rattle.life_core.specs.Step.{Step, Live, End, Eval, Load, Save, Copy, Move, Aim, Repoint, Element, Cursor, Advance, Cut, Size, Same, Changes, Make, Call, Ports, Test, NonZero, NotNull}
use Rattle.life_core.specs.Tree.{Node, Action, Question, Return, Stop, Spot}
use Rattle.life_pset.specs.declared.element.Fact.{Fact}
use Rattle.life_contract.specs.Signatures.{Signature}
use Rattle.life_rules.specs.Carrying.{from_none, from_one, from_two, none_at, one_at, two_at}
use Rattle.life_rules.specs.Staying.{spot_keeps, step_keeps}

module _ (sigs : List Signature) (types : Types) (f : Function) (place : Place) where
  -- what comes of an instruction that keeps all
  record IsKept (i : Step) : Type 0 where
    none : from_none sigs types f place i ≡ []
    one : (x : Fact) → from_one sigs types f place i x ≡ x ∷ []
    two : (a b : Fact) → from_two sigs types f place i a b ≡ []

  step_kept : (i : Step) → step_keeps i ≡ true → IsKept i
  step_kept (Eval r operation) h = record { none = refl; one = λ x. refl; two = λ a b. refl }
  step_kept (Load r o) h = record { none = refl; one = λ x. refl; two = λ a b. refl }
  step_kept (Save o r) h = record { none = refl; one = λ x. refl; two = λ a b. refl }
  step_kept (Size r b) h = record { none = refl; one = λ x. refl; two = λ a b. refl }
  step_kept (Same r a b equal) h = record { none = refl; one = λ x. refl; two = λ a b. refl }
  step_kept (Ports p) h = record { none = refl; one = λ x. refl; two = λ a b. refl }
  step_kept (Live x form) h = absurd (both_ways false refl h)
  step_kept (End xs) h = absurd (both_ways false refl h)
  step_kept (Copy to from) h = absurd (both_ways false refl h)
  step_kept (Move to y) h = absurd (both_ways false refl h)
  step_kept (Aim p s) h = absurd (both_ways false refl h)
  step_kept (Repoint p q) h = absurd (both_ways false refl h)
  step_kept (Element p b which) h = absurd (both_ways false refl h)
  step_kept (Cursor p b end) h = absurd (both_ways false refl h)
  step_kept (Advance p q r direction) h = absurd (both_ways false refl h)
  step_kept (Cut p q r count) h = absurd (both_ways false refl h)
  step_kept (Changes o c) h = absurd (both_ways false refl h)
  step_kept (Make u what) h = absurd (both_ways false refl h)
  step_kept (Call target g xs) h = absurd (both_ways false refl h)

-- what comes of a point that keeps all
pub record IsKeptAt (sigs : List Signature) (types : Types) (f : Function) (spot : Option Spot) : Type 0 where
  pub none : none_at sigs types f spot ≡ []
  pub one : (branch : Option Bool) (x : Fact) → one_at sigs types f branch spot x ≡ x ∷ []
  pub two : (a b : Fact) → two_at sigs types f spot a b ≡ []

pub kept : (sigs : List Signature) (types : Types) (f : Function) (spot : Option Spot) → spot_keeps spot ≡ true → IsKeptAt sigs types f spot
kept sigs types f None h = absurd (both_ways false refl h)
kept sigs types f (Some s) h = at s.node h
  where
    at : (n : Node) → spot_keeps (Some (record s { node = n })) ≡ true → IsKeptAt sigs types f (Some (record s { node = n }))
    at (Action i) h = let k = step_kept sigs types f s.place i h in record { none = k.none; one = λ branch x. k.one x; two = k.two }
    at (Question (NonZero r)) h = record { none = refl; one = λ branch x. refl; two = λ a b. refl }
    at (Question (NotNull p)) h = absurd (both_ways false refl h)
    at Return h = record { none = refl; one = λ branch x. refl; two = λ a b. refl }
    at Stop h = record { none = refl; one = λ branch x. refl; two = λ a b. refl }
