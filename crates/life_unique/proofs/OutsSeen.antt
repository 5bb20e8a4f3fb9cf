-- What stands in the outermost layer of a tree is the same when the tree is settled.
use Rattle.std.proofs.Common.{◌≡◌, Option, refl, ap, sym, ◌∙◌}
use Rattle.life_types.specs.declared.place.Place.{Place}
use Rattle.life_tree.specs.declared.stmt.Block.{Block, out-Block}
use Rattle.life_tree.specs.declared.stmt.BlockItem.TheFolds.{fold_out-Block}
use Rattle.life_tree.specs.declared.type_name.Base.TheFolds.{fold_out-TypeName}
use Rattle.life_tree.specs.declared.type_name.Suffix.{Suffix}
use Rattle.life_tree.specs.declared.type_name.TypeName.{TypeName, out-TypeName}
use Rattle.life_unique.specs.SettledStatements.{settled_block}
use Rattle.life_unique.specs.SettledTypes.{settled_type}
use Rattle.life_unique.proofs.StatementsSeen.{block_seen}
use Rattle.life_unique.proofs.TypesSeen.{type_seen}

abbrev Nothing : Type 0
Nothing = Unit {0}

abbrev Marks : Type 0
Marks = Option Place × Option Suffix

marks_seen : (t : TypeName) → ◌≡◌ {A = Marks} ((out-TypeName (settled_type t)).constant, (out-TypeName (settled_type t)).suffix) ((out-TypeName t).constant, (out-TypeName t).suffix)
marks_seen t =
    sym (fold_out-TypeName Nothing Nothing Marks (λ l. tt) (λ l. tt) (λ l. (l.constant, l.suffix)) (settled_type t))
    ∙ type_seen Nothing Nothing Marks (λ l. tt) (λ l. tt) (λ l. (l.constant, l.suffix)) (λ l. refl) t
    ∙ fold_out-TypeName Nothing Nothing Marks (λ l. tt) (λ l. tt) (λ l. (l.constant, l.suffix)) t

-- a type's `const`
pub constant_seen : (t : TypeName) → (out-TypeName (settled_type t)).constant ≡ (out-TypeName t).constant
constant_seen t = ap (λ (m : Marks). m.0) (marks_seen t)

-- its `*` or `&`
pub suffix_seen : (t : TypeName) → (out-TypeName (settled_type t)).suffix ≡ (out-TypeName t).suffix
suffix_seen t = ap (λ (m : Marks). m.1) (marks_seen t)

-- where a block ends
pub closing_seen : (b : Block) → (out-Block (settled_block b)).closing ≡ (out-Block b).closing
closing_seen b =
    sym (fold_out-Block Nothing Nothing Nothing Place Nothing Nothing Nothing Nothing Nothing Nothing
    (λ l. tt) (λ l. tt) (λ l. tt) (λ l. l.closing) (λ l. tt) (λ l. tt) (λ l. tt) (λ l. tt) (λ l. tt) (λ l. tt) (settled_block b))
    ∙ block_seen Nothing Nothing Nothing Place Nothing Nothing Nothing Nothing Nothing Nothing
    (λ l. tt) (λ l. tt) (λ l. tt) (λ l. l.closing) (λ l. tt) (λ l. tt) (λ l. tt) (λ l. tt) (λ l. tt) (λ l. tt)
    (λ l. refl) (λ l. refl) (λ l. refl) (λ l. refl) (λ l. refl) (λ l. refl) (λ l. refl) (λ l. refl) (λ l. refl) b
    ∙ fold_out-Block Nothing Nothing Nothing Place Nothing Nothing Nothing Nothing Nothing Nothing
    (λ l. tt) (λ l. tt) (λ l. tt) (λ l. l.closing) (λ l. tt) (λ l. tt) (λ l. tt) (λ l. tt) (λ l. tt) (λ l. tt) b
