-- The solution, from its table and its rows.
use Rattle.std.proofs.Common.{◌≡◌, ◌∙◌, ◌≤◌, ℕ, Bool, List, Some, ap, arith, length, subst, sym}
use Rattle.std.specs.Prelude.{◌↔◌, IsTrue}
use Rattle.life_types.specs.Types.{Types}
use Rattle.life_core.specs.Function.{Function}
use Rattle.life_core.specs.Linked.{points_of}
use Rattle.life_contract.specs.Signatures.{Signature}
use Rattle.life_pset.specs.Table.{Table, table_of}
use Rattle.life_fix.specs.Solution.{numbered_row, AllLimited, IsDerivedPair, IsSolution, Solved}
use Rattle.life_fix.specs.Solving.{pairs_at, pairs_in, IsSolved}
use Rattle.life_fix.proofs.PointRows.{within_rows}

pub solution_of : {R : Type 0} (has : R → ℕ → ℕ → Bool) (location_limit element_limit : R → ℕ) (sigs : List Signature) (types : Types) (f : Function) (s : Solved R) (t : Table) (rows : List R)
    → s.table ≡ t → s.rows ≡ rows → t ≡ table_of types f → length rows ≡ points_of f → IsSolved sigs types f (pairs_at has rows)
    → AllLimited location_limit (length t.locations) rows → AllLimited element_limit (length t.elements) rows → IsSolution has location_limit element_limit sigs types f s
solution_of {R = R} has location_limit element_limit sigs types f s t rows same_table same_rows is count solved locations elements = record {
  table = same_table ∙ is;
  count = ap length same_rows ∙ count;
  pairs = λ point row at l e.
      let here : numbered_row rows point.0 ≡ Some row = subst (λ (rs : List R). numbered_row rs point.0 ≡ Some row) same_rows at in
      let within = within_rows rows point.0 row here in
      let high : point.0 ≤ points_of f = omega (arith, within.1, count) in
      subst (λ (h : ℕ → ℕ → Bool). IsTrue (h l e) ↔ IsDerivedPair sigs types f point l e) (ap (pairs_in has) here) (solved point.0 l e within.0 high);
  locations =
      subst (λ (rs : List R). AllLimited location_limit (length s.table.locations) rs) (sym same_rows)
      (subst (λ (u : Table). AllLimited location_limit (length u.locations) rows) (sym same_table) locations);
  elements =
      subst (λ (rs : List R). AllLimited element_limit (length s.table.elements) rs) (sym same_rows)
      (subst (λ (u : Table). AllLimited element_limit (length u.elements) rows) (sym same_table) elements);
}
