use Rattle.std.proofs.Common.{◌≡◌, ◌+◌, ◌∷◌, ◌++◌, [], List, length, subst, sym, ap, ◌∙◌, arith}
use Rattle.std.proofs.lemmas.List.{length-append}
use Rattle.life_elab.specs.KeptPaths.{AreKept, of_type}
use Rattle.life_elab.specs.declared.paths.Paths.{Paths}
use Rattle.life_elab.proofs.PathSteps.{all_kept, kept_more}
use Rattle.life_elab.proofs.paths.measure.Goals as goal

pub returns-in-None : goal.returns-in-None
returns-in-None c = all_kept c.args.types.now c.types.number c.types.all.items c.types.invariant.count c.types.invariant.kept (sym c.in-None.ensures)

pub types-preserved : goal.types-preserved
types-preserved c =
    let types = c.args.types.now in
    let more : c.push.new.self.items ≡ c.types.all.items ++ c.of_type-paths.result ∷ [] = c.in_ok-push-in-Some.ensures.items in
    record {
      count = ap (λ (xs : List Paths). length xs) more ∙ omega (arith, length-append c.types.all.items (c.of_type-paths.result ∷ []), c.types.invariant.count);
      kept = subst (AreKept types (c.types.number + 1)) (sym more)
          (kept_more types c.types.number c.types.all.items c.types.invariant.count c.types.invariant.kept c.ty_at.result c.of_type-paths.result c.ty_at.ensures.below c.ty_at.ensures.made
          (c.of_type-paths.ensures ∙ ap (λ (xs : List Paths). of_type types xs c.ty_at.result) c.deref.ensures.value));
    }
