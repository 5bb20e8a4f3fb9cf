use Rattle.std.proofs.lemmas.Result.{err_from_is_err_and}
use Rattle.life_typed.specs.Programs.{program_view}
use Rattle.life_check.proofs.Checking.{typed_finds, untyped_finds}
use Rattle.life_check.proofs.check.check_tree.Goals as goal

pub returns-in_err-typed-clause-finds : goal.returns-in_err-typed-clause-finds
returns-in_err-typed-clause-finds g c =
    let e = err_from_is_err_and c.from_residual.result c.from_residual.ensures.1 in
    rw (e.1, e.2) (untyped_finds c.args.tree c.in_err-typed.field-0.0 c.in_err-typed.ensures)

pub check_typed-requires : goal.check_typed-requires
check_typed-requires g c =
    let tree = c.args.tree in
    let typed = program_view c.in_ok-typed.typed in
    record {
      well_typed = c.resolved_programs_are_well_typed.ensures.well_typed tree typed c.in_ok-typed.ensures;
      results = c.resolved_programs_are_well_typed.ensures.results tree typed c.in_ok-typed.ensures;
      mains = c.resolved_programs_are_well_typed.ensures.mains tree typed c.in_ok-typed.ensures;
      table = c.resolved_programs_are_well_typed.ensures.table tree typed c.in_ok-typed.ensures;
      names = c.resolved_programs_have_names.ensures tree typed c.in_ok-typed.ensures c.requires;
    }

pub returns-clause-finds : goal.returns-clause-finds
returns-clause-finds g c = typed_finds c.args.tree (program_view c.in_ok-typed.typed) c.check_typed.result c.in_ok-typed.ensures c.check_typed.ensures.finds
