-- What a part of an expression gives where so much is known, where it begins, and what of that it keeps.
use Rattle.std.proofs.Common.{◌≡◌, ◌<◌, ◌≤◌, ℕ, Bool, true, false, is_some, List, [], ◌∷◌, ◌++◌, Contains, length, slice_get, Option, Some, None, refl, ◌∙◌, arith, subst}
use Rattle.life_core.specs.Function.{Function}
use Rattle.life_core.specs.Kinds.{is_register_at}
use Rattle.life_core.specs.Operands.{Location, Operand, whole}
use Rattle.life_core.specs.Step.{Step}
use Rattle.life_core.specs.Touched.{nothing, place_uses, touched_by}
use Rattle.life_core.specs.declared.program.Local.{Local}
use Rattle.life_proper.specs.declared.known.Known.{Known}
use Rattle.life_proper.specs.declared.known.Known.TheVariants as known
use Rattle.life_proper.specs.Knowing.{known_at}
use Rattle.life_writer.specs.Pointers.{Pointing, By, As}
use Rattle.life_writer.specs.Writing.{State}
use Rattle.life_elab_laws.proofs.Among.{Among}
use Rattle.life_elab_laws.proofs.Growing.{Grows, bare}
use Rattle.life_elab_laws.proofs.LookedLocals.{looked_step}
use Rattle.life_elab_laws.proofs.Shaped.{is_passing}

-- ---- what a part gives

-- one of so many locals, which is there
abbrev pub IsHeld : ℕ → ℕ → List Known → Type 0
IsHeld r n k = (r < n) × (known_at k r ≡ known.Ready)

-- a pointer or a reference, in a local or in a member of one
pub record IsPointer (l : Location) (n : ℕ) (k : List Known) : Type 0 where
  pub local : ℕ
  pub is : l.local ≡ local
  pub below : local < n
  pub held : known_at k local ≡ known.Ready

-- a pointer lies in a register, or in a member of a variable
abbrev pub is_named : Option Local → Bool
is_named None = false
is_named (Some l) = is_some l.name

abbrev pub lies_by : (members : List ℕ) → (whole part : Bool) → Bool
lies_by [] whole part = whole
lies_by (m ∷ ms) whole part = part

abbrev pub lies_in : Function → Location → Bool
lies_in f l = lies_by l.members (is_register_at f l.local) (is_named (slice_get f.locals l.local))

-- it is given something there, whatever the member is of
abbrev pub fills_in : Function → Location → Bool
fills_in f l = lies_by l.members (is_register_at f l.local) true

pub lies_fills : (f : Function) (l : Location) → lies_in f l ≡ true → fills_in f l ≡ true
lies_fills f l lies = go l.members lies
  where
    go : (members : List ℕ) → lies_by members (is_register_at f l.local) (is_named (slice_get f.locals l.local)) ≡ true → lies_by members (is_register_at f l.local) true ≡ true
    go [] lies = lies
    go (m ∷ members) lies = refl

-- a place: an object itself, or what a pointer points to
pub record IsPlace (o : Operand) (n : ℕ) (k : List Known) : Type 0 where
  pub local : ℕ
  pub uses : place_uses o ≡ local ∷ []
  pub below : local < n
  pub held : known_at k local ≡ known.Ready

-- locals that are there
abbrev pub AreHeld : List ℕ → ℕ → List Known → Type 0
AreHeld [] n k = Unit {0}
AreHeld (x ∷ xs) n k = IsHeld x n k × AreHeld xs n k

-- an instruction with a hole uses locals that are there, and writes the register in the hole, or a member of a local that is there too
pub record IsFilling (f : Function) (step : Location → Step) (n : ℕ) (k : List Known) : Type 0 where
  pub uses : List ℕ
  pub held : AreHeld uses n k
  pub touches : (x : ℕ) → is_register_at f x ≡ true → touched_by f (step (whole x)) ≡ record nothing { uses = uses; writes = x ∷ [] }
  pub parts : (x m : ℕ) (ms : List ℕ) → touched_by f (step (record { local = x; members = m ∷ ms })) ≡ record nothing { uses = uses ++ x ∷ [] }
  -- it looks at nothing but these
  pub looks : (l : Location) (x : ℕ) → Among x (looked_step (step l)) → Among x uses

-- what a pointer may be given
abbrev pub IsPointing : Function → Pointing → ℕ → List Known → Type 0
IsPointing f (By step) n k = IsFilling f step n k
IsPointing f (As l) n k = IsPointer l n k

-- ---- where a part begins

-- what lives is among the locals so far
abbrev pub IsOpen : State → Type 0
IsOpen s = (y : ℕ) → Contains s.living y → y < length s.locals

-- .. also where more is written
pub opened_later : (s s' : State) → Grows s s' → IsOpen s → IsOpen s'
opened_later s s' g h y c = omega (arith, h y (subst (λ (ys : List ℕ). Contains ys y) g.living c), g.count)

-- ---- what stays

-- the register that is wanted, if any, is another one
abbrev pub IsBeside : Option ℕ → ℕ → Type 0
IsBeside None y = Unit {0}
IsBeside (Some r) y = r ≡ y → ⊥

module _ (f : Function) where
  -- of the first so many locals
  pub record Keeps (n : ℕ) (into : Option ℕ) (k j : List Known) : Type 0 where
    pub sized : length j ≡ length k
    pub below : (y : ℕ) → y < n → IsBeside into y → known_at j y ≡ known_at k y

  pub keeps_all : (n : ℕ) (into : Option ℕ) (k : List Known) → Keeps n into k k
  keeps_all n into k = record { sized = refl; below = λ y h b. refl }

  pub keeps_then : (n m : ℕ) (into : Option ℕ) (k j l : List Known) → n ≤ m → Keeps n None k j → Keeps m into j l → Keeps n into k l
  keeps_then n m into k j l h first second = record {
    sized = second.sized ∙ first.sized;
    below = λ y lt b. second.below y (omega (arith, h, lt)) b ∙ first.below y lt tt;
  }

  -- ---- what is there where it begins

  -- the living variables and the temporaries so far are there, in a table of the right size, and nothing else is but what is passing
  pub record AliveBare (s : State) (k : List Known) : Type 0 where
    pub sized : length k ≡ length f.locals
    pub living : (y : ℕ) → Contains s.living y → known_at k y ≡ known.Ready
    pub pending : (y : ℕ) → Among y s.pending → known_at k y ≡ known.Ready
    pub blank : (y : ℕ) (l : Local) → slice_get f.locals y ≡ Some l → is_passing l ≡ false → (Among y s.living → ⊥) → (Among y s.pending → ⊥) → known_at k y ≡ known.Blank

  abbrev pub Alive : State → List Known → Type 0
  Alive s k = AliveBare (bare s) k
