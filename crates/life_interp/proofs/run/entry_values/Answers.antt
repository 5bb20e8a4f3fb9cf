use Rattle.std.proofs.Common.{◌≡◌, ◌+◌, ◌-◌, List, [], ◌∷◌, ◌++◌, drop, ap, append-nil, append_assoc, rules, subst, sym, ◌∙◌, arith}
use Rattle.std.proofs.lemmas.Int.{to_z-of_z}
use mir.Val.{SFits, of_z, to_z}
use Rattle.std.specs.Int.{w64}
use Rattle.std.specs.Prelude.{get_or, pos}
use Rattle.life_core.specs.Function.{function_of, program_of}
use Rattle.life_store.specs.Calls.{entry_arguments}
use Rattle.life_store.specs.Doing.{converted, type_of}
use Rattle.life_store.specs.State as state
use Rattle.life_cells.specs.Cells.{cell_seen, cells_seen}
use Rattle.life_cells.specs.Fits.{CellsFit}
use Rattle.life_cells.specs.declared.cell.Cell.{Cell}
use Rattle.life_interp.proofs.FitLemmas.{fit_both}
use Rattle.life_interp.proofs.FrameLemmas.{seen_push}
use Rattle.life_interp.proofs.RunLemmas.{one_argument}
use Rattle.life_interp.proofs.run.entry_values.Goals as goal

pub loop-local-init : goal.loop-local-init
loop-local-init c =
    let types = (program_of c.args.program.now).types in
    let f = function_of c.args.f.now in
    let input = c.args.input.now in
    let all : f.parameters - 0 ≡ f.parameters = omega arith in
    let none = c.new-values.ensures.items in
    record {
      values =
          ap (λ m. entry_arguments types f 0 m input) (sym all)
          ∙ ap (λ (vs : List Cell). cells_seen vs ++ entry_arguments types f 0 (f.parameters - 0) input) (sym none);
      fits = λ content rows. subst (CellsFit content rows) (sym none) tt;
    }

pub loop-local-preserved : goal.loop-local-preserved
loop-local-preserved c =
    let types = (program_of c.args.program.now).types in
    let f = function_of c.args.f.now in
    let x = c.loop-local.local in
    let input = c.args.input.now in
    let values = c.loop-local.values.items in
    let first = get_or input x (pos 0) in
    let word : SFits w64 (to_z w64 (of_z w64 first)) = search rules in
    let seen =
    c.entry_value-value.ensures.seen ∙ ap (λ z. state.Number (converted (type_of types f x) z)) (to_z-of_z w64 (to_z w64 (of_z w64 first)) word) in
    let rest = entry_arguments types f (x + 1) (f.parameters - (x + 1)) (drop (x + 1) input) in
    record {
      values =
          c.loop-local.invariant.values
          ∙ ap (λ (vs : List state.Cell). cells_seen values ++ vs)
          (one_argument types f x f.parameters input c.loop-local-test.true (omega (arith, c.loop-local-test.true, c.requires.enough)) ∙ ap (λ (v : state.Cell). v ∷ rest) (sym seen))
          ∙ sym (append_assoc (cells_seen values) (cell_seen c.entry_value-value.result ∷ []) rest)
          ∙ ap (λ (vs : List state.Cell). vs ++ rest) (sym (seen_push values c.entry_value-value.result))
          ∙ ap (λ (vs : List Cell). cells_seen vs ++ rest) (sym c.in_ok-push.ensures.items);
      fits = λ content rows.
          subst (CellsFit content rows) (sym c.in_ok-push.ensures.items)
          (fit_both content rows values _ (c.loop-local.invariant.fits content rows) (c.entry_value-value.ensures.fits content rows, tt));
    }

pub returns-clause-values : goal.returns-clause-values
returns-clause-values c =
    let types = (program_of c.args.program.now).types in
    let f = function_of c.args.f.now in
    let x = c.loop-local.local in
    let input = c.args.input.now in
    let values = cells_seen c.loop-local.values.items in
    let none : f.parameters - x ≡ 0 = omega (arith, c.loop-local-test.false) in
    sym (c.loop-local.invariant.values ∙ ap (λ m. values ++ entry_arguments types f x m (drop x input)) none ∙ append-nil values)
