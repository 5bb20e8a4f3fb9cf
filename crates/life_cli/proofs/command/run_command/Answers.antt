use Rattle.life_cli.proofs.Accepting.{accepted, made_accepted}
use Rattle.life_cli.proofs.Endings.{all_ends, ends_settled}
use Rattle.life_cli.specs.declared.status.Status.TheVariants.{Fault, Usage}
use Rattle.life_cli.proofs.command.run_command.Goals as goal

pub returns-clause-ends : goal.returns-clause-ends
returns-clause-ends g c = all_ends _ _ _ _ _ _ _ _ _ c.work-ended.result c.close.result c.work-ended.ensures.works c.close.ensures

pub returns-clause-accepted : goal.returns-clause-accepted
returns-clause-accepted g c = accepted _ _ _ _ _ _ _ c.close.result _ _ (all_ends _ _ _ _ _ _ _ _ _ c.work-ended.result c.close.result c.work-ended.ensures.works c.close.ensures)

pub returns-clause-made : goal.returns-clause-made
returns-clause-made g c = made_accepted _ _ _ _ _ _ _ c.close.result _ _ (all_ends _ _ _ _ _ _ _ _ _ c.work-ended.result c.close.result c.work-ended.ensures.works c.close.ensures)

pub returns-clause-no_job : goal.returns-clause-no_job
returns-clause-no_job g c = ends_settled _ _ Usage c.work-ended.result c.close.result tt c.work-ended.ensures.no_job c.close.ensures

pub returns-clause-faults_unchecked : goal.returns-clause-faults_unchecked
returns-clause-faults_unchecked g c = ends_settled _ _ Fault c.work-ended.result c.close.result tt c.work-ended.ensures.faults_unchecked c.close.ensures
