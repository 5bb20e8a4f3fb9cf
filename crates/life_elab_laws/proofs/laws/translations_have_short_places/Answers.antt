use Rattle.life_elab_laws.proofs.ProperTranslations.{translation_short}
use Rattle.life_elab_laws.proofs.laws.translations_have_short_places.Goals as goal

pub returns : goal.returns
returns c = translation_short
