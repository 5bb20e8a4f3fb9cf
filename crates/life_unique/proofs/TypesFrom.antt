-- Written types from their trees.
use Rattle.std.proofs.Common.{◌≡◌, Option, None, Some, refl}
use Rattle.std.specs.Prelude.{◌==◌, if◌then◌else◌}
use Rattle.std.specs.declared.alloc.Global.{Global}
use Rattle.life_tree.specs.Tree.{Tree, nothing, token, ◌⨾◌, construct, node}
use Rattle.life_tree.specs.declared.fixed.TheConstants as fixed
use Rattle.life_tree.specs.declared.key.TokenKey.TheVariants as keys
use Rattle.life_tree.specs.declared.type_name.IteratorKind.TheVariants.{Mutable, Constant}
use Rattle.life_tree.specs.declared.type_name.IteratorKind.{IteratorKind}
use Rattle.life_tree.specs.declared.type_name.IteratorName.{IteratorName}
use Rattle.life_tree.specs.declared.type_name.Suffix.{Suffix}
use Rattle.life_tree.specs.declared.type_name.Suffix.TheVariants.{Pointer, Reference}
use Rattle.life_tree.specs.declared.type_name.Base.{Base, roll-Base}
use Rattle.life_tree.specs.declared.type_name.Base.TheOpen as type_open
use Rattle.life_tree.specs.declared.type_name.Base.TheOpen.{Base-F, TypeArgument-F, TypeName-F}
use Rattle.life_tree.specs.declared.type_name.TypeArgument.{TypeArgument, roll-TypeArgument}
use Rattle.life_tree.specs.declared.type_name.TypeName.{TypeName, roll-TypeName}
use Rattle.life_tree.specs.Views.{at, optional_tree, suffix_tree, iterator_number, iterator_tree}
use Rattle.life_unique.specs.Standing.{boxed_at}
use Rattle.life_unique.proofs.Tokens.{place_of, number_of, key_number, qualified, place_if, behind}

abbrev suffix_of : Tree → Option Suffix
suffix_of (token key place) = if key_number key == fixed.STAR then Some (Pointer place) else Some (Reference place)
suffix_of _ = None

abbrev iterator_of : Tree → Option IteratorName
iterator_of (scope ⨾ word) =
    Some (record { scope = place_of scope; kind = if number_of word == fixed.ITERATOR then Mutable else Constant; word = place_of word })
iterator_of _ = None

pub suffix_is : (s : Option Suffix) → suffix_of (optional_tree suffix_tree s) ≡ s
suffix_is None = refl
suffix_is (Some (Pointer place)) = refl
suffix_is (Some (Reference place)) = refl

pub iterator_is : (i : Option IteratorName) → iterator_of (optional_tree iterator_tree i) ≡ i
iterator_is None = refl
iterator_is (Some i) = go i.kind where
  go : (k : IteratorKind) → iterator_of (at fixed.SCOPE i.scope ⨾ at (iterator_number k) i.word) ≡ Some (record { scope = i.scope; kind = k; word = i.word })
  go Mutable = refl
  go Constant = refl

-- a type that is one token
abbrev lone : Tree → Base-F Base TypeArgument TypeName
lone (token (keys.Name id) place) = type_open.Named (record { id = id; place = place })
lone (token (keys.Fixed n) place) =
    if n == fixed.BOOL then type_open.Bool place
    else (if n == fixed.CHAR then type_open.Char place
    else (if n == fixed.INT then type_open.Int place else type_open.Long place))
lone _ = type_open.Bool (place_of nothing)

-- a type of the library, by its last word
abbrev library : Tree → Tree → Tree → Base-F Base TypeArgument TypeName
library namespace scope word =
    if number_of word == fixed.SIZE_T then type_open.SizeT (qualified namespace scope word)
    else (if number_of word == fixed.STRING then type_open.Text (qualified namespace scope word)
    else type_open.View (qualified namespace scope word))

module _ (g : Global) where
  abbrev mutual
    pub from_base : Tree → Base
    from_base (node _ (namespace ⨾ scope ⨾ word ⨾ t)) =
        if number_of word == fixed.VECTOR then roll-Base (type_open.Vector (qualified namespace scope word) (from_element t) (iterator_of (behind t)))
        else (if number_of word == fixed.UNIQUE_PTR then roll-Base (type_open.UniquePtr (qualified namespace scope word) (from_argument t))
        else roll-Base (type_open.Span (qualified namespace scope word) (from_argument t)))
    from_base (node _ (namespace ⨾ scope ⨾ word)) = roll-Base (library namespace scope word)
    from_base (node _ t) = roll-Base (lone t)
    from_base t = roll-Base (lone t)

    pub from_argument : Tree → TypeArgument
    from_argument (node _ (construct _ opening (ty ⨾ closing))) =
        roll-TypeArgument (record { opening = opening; ty = boxed_at g (from_type ty); closing = place_of closing })
    from_argument t = roll-TypeArgument (record { opening = place_of t; ty = boxed_at g (roll-TypeName (record { constant = None; base = roll-Base (lone t); suffix = None })); closing = place_of t })

    -- .. of a type with what follows
    from_element : Tree → TypeArgument
    from_element (t ⨾ iterator) = from_argument t
    from_element t = roll-TypeArgument (record { opening = place_of t; ty = boxed_at g (roll-TypeName (record { constant = None; base = roll-Base (lone t); suffix = None })); closing = place_of t })

    pub from_type : Tree → TypeName
    from_type (node _ (constant ⨾ node _ (base ⨾ suffix))) =
        roll-TypeName (record { constant = place_if constant; base = from_base base; suffix = suffix_of suffix })
    from_type t = roll-TypeName (record { constant = None; base = roll-Base (lone t); suffix = None })
