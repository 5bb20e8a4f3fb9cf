-- A reader looks at no token past the one where it stops, and so does the same reader where more may be open.
use Rattle.std.proofs.Common.{◌≡◌, ℕ, ◌≤◌, false, ◌++◌, Ok, Err, refl, ap, subst, ◌∙◌}
use Rattle.life_expr.specs.Read.{refused, deep, Reader}
use Rattle.life_expr.specs.Readers.{read_rule}
use Rattle.life_parse.proofs.Agrees.{Agrees, goes_too_deep}
use Rattle.life_parse.proofs.AgreesAll.{read_agree}
use Rattle.life_parse.proofs.Laws.{Near}
use Rattle.life_parse.proofs.Looks.{Answer, LooksAt, Looks}
use Rattle.life_parse.proofs.LooksAll.{read_law}
use Rattle.life_tree.specs.Rules.{Rule}
use Rattle.life_tree.specs.Tree.{Tree, Tokens}

module _ (p q : Reader) (g : Looks p) (h : Agrees p q) where
  -- where p answers r, and q the same unless it went too deep
  looks_so : (ts : Tokens) (r : Answer Tree) → p ts ≡ r → LooksAt p ts r
  looks_so ts r e = subst (λ (a : Answer Tree). LooksAt p ts a) e (g.looks ts)

  too : (us : Tokens) (r : Answer Tree) → goes_too_deep r ≡ false → p us ≡ r → q us ≡ r
  too us r shallow e = h.agrees us (ap goes_too_deep e ∙ shallow) ∙ e

  pub Near-looks : Near p q
  Near-looks = record {
    reads = λ ts t rest e. let l = looks_so ts (Ok (t, rest)) e in (l.0, l.1, λ other s. too (l.0 ++ other) (Ok (t, other)) refl (l.2 other s));
    refuses = λ ts rest e. let l = looks_so ts (Err (refused rest)) e in (l.0, l.1, λ other s. too (l.0 ++ other) (Err (refused other)) refl (l.2 other s));
    deepens = λ ts rest e. let l = looks_so ts (Err (deep rest)) e in (l.0, l.1, λ other s. l.2 other s);
  }

pub near_rule : (n m : ℕ) (r : Rule) → n ≤ m → Near (read_rule n r) (read_rule m r)
near_rule n m r le = Near-looks (read_rule n r) (read_rule m r) (read_law n r).looks (read_agree n m le r)
