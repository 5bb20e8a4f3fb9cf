-- What is asked of a value for its copy to be what the meaning has: what it owns is there, is of the type that its parts name, and can be copied, too.
use Rattle.std.specs.Prelude.{◌≡◌, ◌<◌, ℕ, List, Option, Some, None, drop, slice_index, take}
use Rattle.life_types.specs.Types.{Types}
use Rattle.life_types.specs.declared.ty.TyId.{TyId}
use Rattle.life_store.specs.Cells.{at}
use Rattle.life_store.specs.Content.{Object, Content}
use Rattle.life_store.specs.Held.{owned_in}
use Rattle.life_store.specs.Parts.{Parts, Single, Raw, Iterates, Views, Text, Vector, Unique, Member, NoMember, parts_at, width}
use Rattle.life_forest.specs.Kinds.{rank_of}
use Rattle.life_forest.specs.Values.{AllKnown, AllWide}

-- the object of the number is of the type, and each of its slots holds such a value
pub record IsReadable (types : Types) (ty : TyId) (element : Parts) (value : List ℕ → Type 0) (c : Content) (n : ℕ) : Type 0 where
  pub born : n < c.births
  pub object : Object
  pub there : at c.objects n ≡ Some object
  pub type : object.ty ≡ ty
  pub parts : parts_at types ty ≡ element
  pub words : object.width ≡ width element
  pub wide : AllWide (width element) object.slots
  pub slots : AllKnown value object.slots

abbrev pub IsReadableIf : Types → TyId → Parts → (List ℕ → Type 0) → Content → Option ℕ → Type 0
IsReadableIf types ty element value c None = Unit {0}
IsReadableIf types ty element value c (Some n) = IsReadable types ty element value c n

-- so many steps of owning deep; no copy is of a unique_ptr
abbrev pub IsCopyable : Types → Content → (bound : ℕ) → Parts → List ℕ → Type 0
IsCopyable types c bound Single ws = Unit {0}
IsCopyable types c bound Raw ws = Unit {0}
IsCopyable types c bound Iterates ws = Unit {0}
IsCopyable types c bound Views ws = Unit {0}
IsCopyable types c bound (Text ty) ws = (rank_of types ty < bound) × IsReadableIf types ty Single (λ vs. Unit {0}) c (owned_in (slice_index ws 0))
IsCopyable types c bound (Vector ty element) ws = (rank_of types ty < bound) × IsReadableIf types ty element (IsCopyable types c (rank_of types ty) element) c (owned_in (slice_index ws 0))
IsCopyable types c bound (Unique ty target) ws = ⊥
IsCopyable types c bound (Member first others) ws = IsCopyable types c bound first (take (width first) ws) × IsCopyable types c bound others (drop (width first) ws)
IsCopyable types c bound NoMember ws = Unit {0}

-- by its type
abbrev pub HasCopy : Parts → Type 0
HasCopy Single = Unit {0}
HasCopy Raw = Unit {0}
HasCopy Iterates = Unit {0}
HasCopy Views = Unit {0}
HasCopy (Text ty) = Unit {0}
HasCopy (Vector ty element) = HasCopy element
HasCopy (Unique ty target) = ⊥
HasCopy (Member first others) = HasCopy first × HasCopy others
HasCopy NoMember = Unit {0}
