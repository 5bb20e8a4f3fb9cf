-- What a type is made of, and what follows from it: whether it is plain, whether it holds an owner or a unique_ptr, and how many words it has.
use Rattle.std.specs.Prelude.{◌≡◌, ℕ, zero, suc, ◌+◌, ◌<◌, Bool, true, false, ◌&&◌, ◌||◌, List, [], ◌∷◌, Option, Some, None, length, slice_get, unwrap_or}
use Rattle.life_types.specs.declared.ty.Ty.{Ty}
use Rattle.life_types.specs.declared.ty.Ty.TheVariants as ty
use Rattle.life_types.specs.declared.ty.TyId.{TyId}
use Rattle.life_types.specs.Types.{Types}

-- a type with its parts; a struct is its first member, and the struct of the members behind it
pub data TypeTree : Type 0 where
  Void : TypeTree
  Boolean : TypeTree
  Character : TypeTree
  Int : TypeTree
  Long : TypeTree
  Size : TypeTree
  Text : TypeTree
  View : TypeTree
  Vector : (element : TypeTree) → TypeTree
  Unique : (target : TypeTree) → TypeTree
  Raw : (target : TypeTree) → (constant : Bool) → TypeTree
  Reference : (target : TypeTree) → (constant : Bool) → TypeTree
  Iterator : (target : TypeTree) → (constant : Bool) → TypeTree
  Span : (target : TypeTree) → (constant : Bool) → TypeTree
  Member : (first : TypeTree) → (others : TypeTree) → TypeTree
  NoMember : TypeTree

-- ---- what follows from it

-- no pointer and no unique_ptr is in it, through members and elements
abbrev pub is_plain : TypeTree → Bool
is_plain View = false
is_plain (Vector element) = is_plain element
is_plain (Unique target) = false
is_plain (Raw target constant) = false
is_plain (Reference target constant) = false
is_plain (Iterator target constant) = false
is_plain (Span target constant) = false
is_plain (Member first others) = is_plain first && is_plain others
is_plain _ = true

-- it is an owner, or has a member that holds one
abbrev pub holds_owner : TypeTree → Bool
holds_owner Text = true
holds_owner (Vector element) = true
holds_owner (Unique target) = true
holds_owner (Member first others) = holds_owner first || holds_owner others
holds_owner _ = false

-- it is a unique_ptr, or has a member that holds one; no type's elements hold any
abbrev pub holds_unique : TypeTree → Bool
holds_unique (Unique target) = true
holds_unique (Member first others) = holds_unique first || holds_unique others
holds_unique _ = false

-- a value and an owner have one word, a pointer five, and a struct those of its members
abbrev pub words : TypeTree → ℕ
words View = 5
words (Raw target constant) = 5
words (Reference target constant) = 5
words (Iterator target constant) = 5
words (Span target constant) = 5
words (Member first others) = words first + words others
words NoMember = 0
words _ = 1

-- ---- the tree of a number

-- the struct of members whose trees are given
abbrev pub struct_of : (TyId → TypeTree) → List TyId → TypeTree
struct_of part [] = NoMember
struct_of part (id ∷ ids) = Member (part id) (struct_of part ids)

-- a struct's members, or none where the table doesn't have it
abbrev pub members_at : Types → ℕ → List TyId
members_at table number = unwrap_or (slice_get table.structs number) []

-- a type with the trees of its parts; what the table doesn't have counts as void
abbrev pub tree_of : Types → (TyId → TypeTree) → Option Ty → TypeTree
tree_of table part None = Void
tree_of table part (Some ty.Void) = Void
tree_of table part (Some ty.Bool) = Boolean
tree_of table part (Some ty.Char) = Character
tree_of table part (Some ty.Int) = Int
tree_of table part (Some ty.Long) = Long
tree_of table part (Some ty.Size) = Size
tree_of table part (Some ty.Text) = Text
tree_of table part (Some ty.View) = View
tree_of table part (Some (ty.Vector element)) = Vector (part element)
tree_of table part (Some (ty.Unique target)) = Unique (part target)
tree_of table part (Some (ty.Raw target constant)) = Raw (part target) constant
tree_of table part (Some (ty.Reference target constant)) = Reference (part target) constant
tree_of table part (Some (ty.Iterator target constant)) = Iterator (part target) constant
tree_of table part (Some (ty.Span target constant)) = Span (part target) constant
tree_of table part (Some (ty.Struct number)) = struct_of part (members_at table number)

-- .. so many steps deep
abbrev pub tree_within : ℕ → Types → TyId → TypeTree
tree_within zero table id = Void
tree_within (suc n) table id = tree_of table (tree_within n table) (slice_get table.types id.0)

-- the parts of a type have smaller numbers, so its own number is deep enough
unfoldable pub tree_at : Types → TyId → TypeTree
tree_at table id = tree_within (suc id.0) table id

-- ---- smaller numbers

abbrev pub AllBelow : ℕ → List TyId → Type 0
AllBelow n [] = Unit {0}
AllBelow n (id ∷ ids) = (id.0 < n) × AllBelow n ids

-- the struct is there, and its members have smaller numbers than n
pub record HasMembersBelow (table : Types) (n number : ℕ) : Type 0 where
  pub members : List TyId
  pub there : slice_get table.structs number ≡ Some members
  pub below : AllBelow n members

-- the parts of a type have smaller numbers than n
abbrev pub HasPartsBelow : Types → ℕ → Ty → Type 0
HasPartsBelow table n (ty.Vector element) = element.0 < n
HasPartsBelow table n (ty.Unique target) = target.0 < n
HasPartsBelow table n (ty.Raw target constant) = target.0 < n
HasPartsBelow table n (ty.Reference target constant) = target.0 < n
HasPartsBelow table n (ty.Iterator target constant) = target.0 < n
HasPartsBelow table n (ty.Span target constant) = target.0 < n
HasPartsBelow table n (ty.Struct number) = HasMembersBelow table n number
HasPartsBelow table n _ = Unit {0}

-- each type comes behind its parts, and the members of each struct are there
pub record IsOrdered (table : Types) : Type 0 where
  pub parts : (n : ℕ) (t : Ty) → slice_get table.types n ≡ Some t → HasPartsBelow table n t
  pub members : (n : ℕ) (ids : List TyId) → slice_get table.structs n ≡ Some ids → AllBelow (length table.types) ids
