use Rattle.life_elab_laws.proofs.ProperTranslations.{translation_proper, translation_served}
use Rattle.life_elab_laws.proofs.laws.translations_are_proper.Goals as goal

pub returns-clause-proper : goal.returns-clause-proper
returns-clause-proper c = translation_proper

pub returns-clause-served : goal.returns-clause-served
returns-clause-served c = translation_served
