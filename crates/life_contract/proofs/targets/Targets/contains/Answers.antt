use Rattle.std.proofs.Common.{sym, ◌∙◌}
use Rattle.life_contract.proofs.LookUps.{found}
use Rattle.life_contract.proofs.targets.Targets.contains.Goals as goal

pub returns : goal.returns
returns c =
    let same = found c.self.inside.places.keys c.args.place.now in
    rw (← c.self.view_is) (λ t. same.0 (sym c.contains.ensures ∙ t), λ h. c.contains.ensures ∙ same.1 h)
