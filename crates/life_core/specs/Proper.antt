-- Ready ways: on every way through the text of a function each local is there where it is used, and no way runs past the end.
use Rattle.std.specs.Prelude.{◌≡◌, ℕ, true, false, List, [], ◌∷◌, ◌++◌, Some, IsSome, IsTrue, Contains}
use Rattle.life_types.specs.Types.{Types}
use Rattle.life_core.specs.Function.{Function, Program}
use Rattle.life_core.specs.Linked.{Lead, Linked, code_of, enter, no_exits, numbered}
use Rattle.life_core.specs.Ready.{Ready, AreBits, CanLeave, entry_ready, set_bits}
use Rattle.life_core.specs.Shape.{is_statement, tests_straight}
use Rattle.life_core.specs.Touched.{Touched, touched}
use Rattle.life_core.specs.Tree.{Node}

-- ---- a point

-- what is used and what goes is there, and what is born isn't
pub record AreReady (bits : Ready) (t : Touched) : Type 0 where
  pub uses : AreBits true bits t.uses
  pub leaves : CanLeave bits t.leaves
  pub births : AreBits false bits t.births

-- .. and behind it
abbrev pub bits_after : Touched → Ready → Ready
bits_after t bits = set_bits true (t.births ++ t.writes) (set_bits false t.leaves bits)

abbrev pub IsNodeReady : Types → Function → Ready → Node → Type 0
IsNodeReady types f bits node = AreReady bits (touched types f node)

abbrev pub bits_past : Types → Function → Node → Ready → Ready
bits_past types f node bits = bits_after (touched types f node) bits

-- some way from the entry comes to the point with these locals there
pub data Reaches (types : Types) (f : Function) : ℕ → Ready → Type 0 where
  starts : {p : ℕ} → enter f.body 1 no_exits ≡ Some p → Reaches types f p (entry_ready f)
  goes_on : {p q : ℕ} {bits : Ready} {l : Linked} {lead : Lead} → Reaches types f p bits → numbered (code_of f) p ≡ Some l
      → Contains l.leads lead → lead.to ≡ Some q → Reaches types f q (bits_past types f l.spot.node bits)

-- ---- the whole

-- each way out of a point leads to a point
abbrev pub LeadOn : List Lead → Type 0
LeadOn [] = Unit {0}
LeadOn (l ∷ ls) = IsSome l.to × LeadOn ls

-- a function
pub record HasReadyWays (types : Types) (f : Function) : Type 0 where
  pub statement : IsTrue (is_statement f.body)
  pub straight : IsTrue (tests_straight f.body)
  pub begins : IsSome (enter f.body 1 no_exits)
  pub ready : (p : ℕ) (bits : Ready) (l : Linked) → Reaches types f p bits → numbered (code_of f) p ≡ Some l → IsNodeReady types f bits l.spot.node
  pub leads_on : (p : ℕ) (bits : Ready) (l : Linked) → Reaches types f p bits → numbered (code_of f) p ≡ Some l → LeadOn l.leads

abbrev pub HaveReadyWays : Types → List Function → Type 0
HaveReadyWays types [] = Unit {0}
HaveReadyWays types (f ∷ fs) = HasReadyWays types f × HaveReadyWays types fs

-- a whole program
abbrev pub IsReadyProgram : Program → Type 0
IsReadyProgram p = HaveReadyWays p.types p.functions
