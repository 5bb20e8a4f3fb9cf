-- Conditions: tests, and what is decided by them.
use Rattle.std.specs.Prelude.{ℕ, [], Option, Some, None, length, ℤ, pos}
use Rattle.life_types.specs.declared.place.Place.{Place}
use Rattle.life_types.specs.declared.ty.Ty.{Ty}
use Rattle.life_core.specs.Operands.{Location}
use Rattle.life_core.specs.Step.{Test, NonZero, NotNull}
use Rattle.life_core.specs.Tree.{Tree, Skip, Then, Acts, Asks, Both, Either, Negated, Choice}
use Rattle.life_writer.specs.Registers.{constant, target}
use Rattle.life_writer.specs.Variables.{end_pending}
use Rattle.life_writer.specs.Writing.{State, Gives, gives, ◌>>◌, mapped, taken, with_code, write}
use Rattle.life_writer.specs.declared.rows.Join.{Join}
use Rattle.life_writer.specs.declared.rows.Join.TheVariants as join
use Rattle.life_writer.specs.declared.rows.Side.{Side}
use Rattle.life_writer.specs.declared.rows.Side.TheVariants.{Left, Right}

-- where nothing stands
abbrev pub nowhere : Place
nowhere = record { line = 0; column = 0 }

-- ---- single tests

-- what was made for a test ends right before it, where it doesn't last
abbrev pub end_tested : ℕ → Option Place → State → State
end_tested n None s = s
end_tested n (Some place) s = end_pending n place s

-- a test behind the statements that compute what is tested, which stand in a list of their own
abbrev pub behind_code : Place → Test → Gives Tree → Gives Tree
behind_code place test w = mapped (λ code. Then code (Asks place test)) w

abbrev pub tested : Place → Option Place → (State → Gives Test) → State → Gives Tree
tested place ends asks s = asks (with_code [] s) >> λ test after. behind_code place test (taken s (end_tested (length s.pending) ends after))

-- whether a register isn't 0, and whether a pointer isn't null
abbrev pub non_zero : Place → Option Place → (State → Gives ℕ) → State → Gives Tree
non_zero place ends value s = tested place ends (λ s. mapped NonZero (value s)) s

abbrev pub not_null : Place → Option Place → (State → Gives Location) → State → Gives Tree
not_null place ends pointer s = tested place ends (λ s. mapped NotNull (pointer s)) s

-- ---- operators that are decided by tests

-- both conditions hold, or one of them
abbrev pub joined_by : Join → Tree → Tree → Tree
joined_by join.Both left right = Both left right
joined_by join.Either left right = Either left right

-- the second condition is written behind the first
abbrev pub joined : (Tree → Tree → Tree) → (left right : State → Gives Tree) → State → Gives Tree
joined join left right s = left s >> λ a s. mapped (join a) (right s)

abbrev pub negation : (State → Gives Tree) → State → Gives Tree
negation condition s = mapped Negated (condition s)

-- what stands on a side
abbrev pub on : {A : Type 0} → Side → (left right : A) → A
on Left left right = left
on Right left right = right

-- ---- conditions as values

-- an answer in a register: 1 where the condition holds, else 0
abbrev pub answer : Place → ℤ → ℕ → Tree
answer place z r = Then (Acts place (constant z r)) Skip

abbrev pub branched : Place → Tree → ℕ → State → Gives ℕ
branched place test r s = gives r (write (Choice test (answer place (pos 1) r) (answer place (pos 0) r)) s)

abbrev pub by_branch : Option ℕ → Ty → Place → (State → Gives Tree) → State → Gives ℕ
by_branch into t place condition s = condition s >> λ test s. target place into t s >> λ r s. branched place test r s
