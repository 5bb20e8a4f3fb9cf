-- Where what owns and what points lies in the values of each type.
use Rattle.std.specs.Prelude.{◌≡◌, ℕ, ◌+◌, List, [], ◌∷◌, ◌++◌, Option, Some, None, length, slice_get}
use Rattle.life_types.specs.declared.ty.TyId.{TyId}
use Rattle.life_types.specs.Types.{Types}
use Rattle.life_store.specs.Kinds.{Kind, Owner}
use Rattle.life_store.specs.Parts.{Parts, Single, Raw, Iterates, Views, Text, Vector, Unique, Member, NoMember, parts_at, struct_of, width}
use Rattle.life_seen.specs.Kinds.{Kinds}
use Rattle.life_values.specs.declared.layout.Holds.{Holds}
use Rattle.life_values.specs.declared.layout.Holds.TheVariants as holds
use Rattle.life_values.specs.declared.layout.Layout.{Layout}
use Rattle.life_values.specs.declared.layout.Leaf.{Leaf}

-- ---- a value without its tree: the parts that aren't numbers, each with its word

abbrev pub leaf : ℕ → Holds → Leaf
leaf w h = record { word = w; holds = h }

-- .. where the value begins at a word
abbrev pub flat : ℕ → Parts → List Leaf
flat w Single = []
flat w Raw = leaf w holds.Raw ∷ []
flat w Iterates = []
flat w Views = leaf w holds.View ∷ []
flat w (Text ty) = leaf w (holds.Characters ty) ∷ []
flat w (Vector ty element) = leaf w (holds.Elements ty) ∷ []
flat w (Unique ty target) = leaf w (holds.Target ty) ∷ []
flat w (Member first others) = flat w first ++ flat (w + width first) others
flat w NoMember = []

abbrev pub moved : ℕ → Leaf → Leaf
moved by l = record { word = by + l.word; holds = l.holds }

-- the word, if it owns
abbrev pub owned_word : Leaf → List ℕ
owned_word l = word_if l.holds l.word
  where
    word_if : Holds → ℕ → List ℕ
    word_if holds.Raw w = []
    word_if holds.View w = []
    word_if (holds.Characters ty) w = w ∷ []
    word_if (holds.Elements ty) w = w ∷ []
    word_if (holds.Target ty) w = w ∷ []

abbrev pub owner_words : List Leaf → List ℕ
owner_words [] = []
owner_words (l ∷ ls) = owned_word l ++ owner_words ls

-- ---- layouts

-- the layout says how values with these parts lie
pub record IsLaid (p : Parts) (l : Layout) : Type 0 where
  pub width : l.width ≡ width p
  pub owners : l.owners.items ≡ owner_words (flat 0 p)
  pub leaves : l.leaves.items ≡ flat 0 p

-- .. of values without members
abbrev pub leaf_if : Option Holds → List Leaf
leaf_if None = []
leaf_if (Some h) = leaf 0 h ∷ []

pub record IsAlone (w : ℕ) (h : Option Holds) (l : Layout) : Type 0 where
  pub width : l.width ≡ w
  pub owners : l.owners.items ≡ owner_words (leaf_if h)
  pub leaves : l.leaves.items ≡ leaf_if h

-- .. of structs of these members, whatever parts their types have that the layouts are of
abbrev pub IsJoined : List Layout → List TyId → Layout → Type 0
IsJoined before members l =
    (part : TyId → Parts) → ((id : TyId) (one : Layout) → slice_get before id.0 ≡ Some one → IsLaid (part id) one) → IsLaid (struct_of part members) l

-- the types before a number have theirs
abbrev pub AreBefore : Types → ℕ → List Layout → Type 0
AreBefore types n layouts = (length layouts ≡ n) × ((ty : TyId) (l : Layout) → slice_get layouts ty.0 ≡ Some l → IsLaid (parts_at types ty) l)

-- one for each type of the table
abbrev pub AreLaid : Types → List Layout → Type 0
AreLaid types layouts = AreBefore types (length types.types) layouts

abbrev pub owners_in : Option Layout → List ℕ
owners_in None = []
owners_in (Some l) = l.owners.items

-- of a type that the table doesn't have there are none
abbrev pub owners_at : List Layout → TyId → List ℕ
owners_at layouts ty = owners_in (slice_get layouts ty.0)

abbrev pub leaves_in : Option Layout → List Leaf
leaves_in None = []
leaves_in (Some l) = l.leaves.items

abbrev pub leaves_at : List Layout → TyId → List Leaf
leaves_at layouts ty = leaves_in (slice_get layouts ty.0)

abbrev pub width_in : Option Layout → ℕ
width_in None = 1
width_in (Some l) = l.width

abbrev pub width_at : List Layout → TyId → ℕ
width_at layouts ty = width_in (slice_get layouts ty.0)

-- the words own, and no other does
pub record AreOwners (f : ℕ → Kind) (owners : List ℕ) : Type 0 where
  pub sound : (j u : ℕ) → slice_get owners j ≡ Some u → f u ≡ Owner
  pub complete : (u : ℕ) → f u ≡ Owner → (j : ℕ) × (slice_get owners j ≡ Some u)

abbrev pub AreLayouts : Kinds → List Layout → Type 0
AreLayouts kinds layouts = (ty : TyId) → AreOwners (kinds ty) (owners_at layouts ty)
