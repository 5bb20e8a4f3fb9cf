-- A form that begins with another takes what that takes.
use Rattle.std.proofs.Common.{◌≡◌, ℕ, true, ◌∷◌}
use Rattle.life_expr.specs.Read.{reads}
use Rattle.life_expr.specs.Readers.{Readers}
use Rattle.life_parse.proofs.Left.{then_left}
use Rattle.life_parse.proofs.LooksForms.{Laws, is_plain}
use Rattle.life_parse.proofs.Passes.{Passes, Passes-as, a_name, a_mark}
use Rattle.life_tree.specs.Grammar.{Form, ◌then◌}
use Rattle.life_tree.specs.declared.fixed.TheConstants as fixed

-- a form that begins with another
module _ (n : ℕ) (inside same : Readers) (i : Laws inside) (s : Laws same) (f g : Form) (h : is_plain g ≡ true) where
  pub Passes-then : Passes (reads n inside same f) → Passes (reads n inside same (f then g))
  Passes-then = Passes-as (reads n inside same (f then g)) (reads n inside same f) (record { named = λ id a ts. then_left n inside same i s f g h (a_name id a ∷ ts); std = λ a ts. then_left n inside same i s f g h (a_mark fixed.STD a ∷ ts) })
