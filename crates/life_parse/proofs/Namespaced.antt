-- A word of `std` is read behind `std` and `::`, which are taken.
use Rattle.std.proofs.Common.{◌≡◌, ℕ, ◌≤◌, true, ◌∷◌, le_trans}
use Rattle.life_expr.specs.Read.{reads}
use Rattle.life_expr.specs.Readers.{Readers}
use Rattle.life_parse.proofs.Left.{left, part_left, then_left}
use Rattle.life_parse.proofs.LooksForms.{Laws, is_plain}
use Rattle.life_parse.proofs.Passes.{PassesScope, a_mark}
use Rattle.life_tree.specs.Grammar.{Form, quoted, ◌then◌, namespaced}
use Rattle.life_tree.specs.Tree.{Tree, token, Tokens}
use Rattle.life_tree.specs.declared.fixed.TheConstants as fixed
use Rattle.life_tree.specs.declared.key.TokenKey.TheVariants as keys
use Rattle.life_types.specs.declared.place.Place.{Place}

abbrev leaf : ℕ → Place → Tree
leaf m place = token (keys.Fixed m) place

module _ (n : ℕ) (inside same : Readers) (i : Laws inside) (s : Laws same) (f : Form) where
  pub Passes-namespaced : is_plain f ≡ true → PassesScope (reads n inside same (namespaced fixed.STD f))
  Passes-namespaced h = record {
    std = λ a ts. then_left n inside same i s (quoted fixed.STD) (quoted fixed.SCOPE then f) h (a_mark fixed.STD a ∷ ts);
    scope = λ a b ts.
        le_trans (part_left (leaf fixed.STD a) (reads n inside same (quoted fixed.SCOPE then f) (a_mark fixed.SCOPE b ∷ ts)))
        (then_left n inside same i s (quoted fixed.SCOPE) f h (a_mark fixed.SCOPE b ∷ ts));
  }

  pub behind_scope : (a b : Place) (ts : Tokens) → left (reads n inside same (namespaced fixed.STD f) (a_mark fixed.STD a ∷ a_mark fixed.SCOPE b ∷ ts)) ≤ left (reads n inside same f ts)
  behind_scope a b ts =
      le_trans (part_left (leaf fixed.STD a) (reads n inside same (quoted fixed.SCOPE then f) (a_mark fixed.SCOPE b ∷ ts)))
      (part_left (leaf fixed.SCOPE b) (reads n inside same f ts))
