-- What must be true of the roots of a function's places.
use Rattle.std.specs.Prelude.{◌≡◌, ◌≢◌, Bool, true}
use Rattle.life_types.specs.Types.{Types}
use Rattle.life_pset.specs.declared.element.Root.{Root}
use Rattle.life_store.specs.Content.{Content}
use Rattle.life_forest.specs.Forest.{Beneath}
use Rattle.life_forest.specs.Kinds.{kinds_of}
use Rattle.life_cover.specs.Regions.{AreBeside, Region, IsTrue, foot_of}

-- neither lies in, above or beneath the other
pub record IsApart (types : Types) (c : Content) (a b : Region) : Type 0 where
  pub beside : a.object ≡ b.object → AreBeside types a b
  pub over : Beneath (kinds_of types) c (foot_of types a) b.object → ⊥
  pub under : Beneath (kinds_of types) c (foot_of types b) a.object → ⊥

-- each root stands in one region, where there is a value of its type; and a root is apart from every other where the function may change
-- what is owned beneath it: a local, or an input that is mutating
pub record AreRooted (types : Types) (c : Content) (Stands : Root → Region → Type 0) (owning : Root → Bool) : Type 0 where
  pub fits : (r : Root) (a : Region) → Stands r a → IsTrue types c a
  pub one : (r : Root) (a b : Region) → Stands r a → Stands r b → a ≡ b
  pub apart : (r s : Root) (a b : Region) → owning r ≡ true → r ≢ s → Stands r a → Stands s b → IsApart types c a b
