-- The objects that a value owns, by the parts of its type, and what must be known of them for it to end.
use Rattle.std.specs.Prelude.{◌≡◌, ◌<◌, ℕ, List, [], ◌∷◌, ◌++◌, Option, Some, None, drop, length, slice_index, take}
use Rattle.life_types.specs.declared.ty.TyId.{TyId}
use Rattle.life_store.specs.Cells.{at}
use Rattle.life_store.specs.Content.{Slot, Object, Content}
use Rattle.life_store.specs.Held.{owned_in}
use Rattle.life_store.specs.Parts.{Parts, Single, Raw, Iterates, Views, Text, Vector, Unique, Member, NoMember, width}
use Rattle.life_forest.specs.Kinds.{Kinds, owned_type}
use Rattle.life_store.specs.Kinds.{kind_in}

abbrev pub listed : Option ℕ → List ℕ
listed None = []
listed (Some n) = n ∷ []

abbrev pub owned_of : Parts → List ℕ → List ℕ
owned_of Single ws = []
owned_of Raw ws = []
owned_of Iterates ws = []
owned_of Views ws = []
owned_of (Text ty) ws = listed (owned_in (slice_index ws 0))
owned_of (Vector ty element) ws = listed (owned_in (slice_index ws 0))
owned_of (Unique ty target) ws = listed (owned_in (slice_index ws 0))
owned_of (Member first others) ws = owned_of first (take (width first) ws) ++ owned_of others (drop (width first) ws)
owned_of NoMember ws = []

abbrev pub owned_slots : Parts → List Slot → List ℕ
owned_slots p [] = []
owned_slots p (s ∷ ss) = owned_of p s.words ++ owned_slots p ss

-- .. and values one behind the other
abbrev pub owned_rows : Parts → List (List ℕ) → List ℕ
owned_rows p [] = []
owned_rows p (v ∷ vs) = owned_of p v ++ owned_rows p vs

-- ---- each slot has so many words

abbrev pub AllWide : ℕ → List Slot → Type 0
AllWide n [] = Unit {0}
AllWide n (s ∷ ss) = (length s.words ≡ n) × AllWide n ss

-- ---- what a value owns was born, has the words that its type says, and so has what that owns

abbrev pub AllKnown : (List ℕ → Type 0) → List Slot → Type 0
AllKnown known [] = Unit {0}
AllKnown known (s ∷ ss) = known s.words × AllKnown known ss

pub record IsOf (kind : Kinds) (element : Parts) (o : Object) (known : List ℕ → Type 0) : Type 0 where
  pub kinds : (u : ℕ) → kind.word o.ty u ≡ kind_in element u
  pub words : o.width ≡ width element
  pub wide : AllWide (width element) o.slots
  pub slots : AllKnown known o.slots

abbrev pub OwnedKnown : Kinds → Content → Parts → (List ℕ → Type 0) → Option ℕ → Type 0
OwnedKnown kind c element known None = Unit {0}
OwnedKnown kind c element known (Some n) = (n < c.births) × ((o : Object) → at c.objects n ≡ Some o → IsOf kind element o known)

abbrev pub Known : Kinds → Content → Parts → List ℕ → Type 0
Known kind c Single ws = Unit {0}
Known kind c Raw ws = Unit {0}
Known kind c Iterates ws = Unit {0}
Known kind c Views ws = Unit {0}
Known kind c (Text ty) ws = OwnedKnown kind c Single (λ vs. Unit {0}) (owned_in (slice_index ws 0))
Known kind c (Vector ty element) ws = OwnedKnown kind c element (Known kind c element) (owned_in (slice_index ws 0))
Known kind c (Unique ty target) ws = OwnedKnown kind c target (Known kind c target) (owned_in (slice_index ws 0))
Known kind c (Member first others) ws = Known kind c first (take (width first) ws) × Known kind c others (drop (width first) ws)
Known kind c NoMember ws = Unit {0}

-- ---- what is made of the type: the types of what is owned are lesser than a bound, and their words are those of their parts

abbrev pub IsLaid : Kinds → TyId → Parts → Type 0
IsLaid kind ty element = (u : ℕ) → kind.word ty u ≡ kind_in element u

abbrev pub Laid : Kinds → ℕ → Parts → Type 0
Laid kind bound Single = Unit {0}
Laid kind bound Raw = Unit {0}
Laid kind bound Iterates = Unit {0}
Laid kind bound Views = Unit {0}
Laid kind bound (Text ty) = (kind.rank ty < bound) × IsLaid kind ty Single
Laid kind bound (Vector ty element) = (kind.rank ty < bound) × IsLaid kind ty element × Laid kind (kind.rank ty) element
Laid kind bound (Unique ty target) = (kind.rank ty < bound) × IsLaid kind ty target × Laid kind (kind.rank ty) target
Laid kind bound (Member first others) = Laid kind bound first × Laid kind bound others
Laid kind bound NoMember = Unit {0}

-- .. and have as many words as their parts, whose owners own what the parts name
abbrev pub IsNamed : Kinds → TyId → Parts → Type 0
IsNamed kind ty element = (kind.width ty ≡ width element) × ((u : ℕ) → kind.owned ty u ≡ owned_type element u)

abbrev pub Named : Kinds → Parts → Type 0
Named kind Single = Unit {0}
Named kind Raw = Unit {0}
Named kind Iterates = Unit {0}
Named kind Views = Unit {0}
Named kind (Text ty) = IsNamed kind ty Single
Named kind (Vector ty element) = IsNamed kind ty element × Named kind element
Named kind (Unique ty target) = IsNamed kind ty target × Named kind target
Named kind (Member first others) = Named kind first × Named kind others
Named kind NoMember = Unit {0}
