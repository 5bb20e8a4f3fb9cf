use Rattle.std.proofs.Common.{◌∙◌, ◌≡◌, ap, inl, inr, subst, true}
use Rattle.std.proofs.lemmas.Option.{IfSome_then}
use Rattle.clap.specs.Words.{app_of, is_simple, is_simple_and_free}
use Rattle.life_job.specs.Command.{lifecheck}
use Rattle.life_job.specs.Words.{IsRead}
use Rattle.life_job.proofs.Parsed.{asked_ok, simple, simple_and_free, told_fault}
use Rattle.life_job.proofs.words.read_words.Goals as goal

pub returns-in-Ok-try_get_matches_from-clause-read : goal.returns-in-Ok-try_get_matches_from-clause-read
returns-in-Ok-try_get_matches_from-clause-read c =
    let app = app_of c.in-Ok.command in
    let same : app ≡ lifecheck = c.in-Ok.ensures in
    let free : is_simple_and_free app ≡ true = ap is_simple_and_free same ∙ simple_and_free in
    let plain : is_simple app ≡ true = ap is_simple same ∙ simple in
    let parse = c.in-Ok-try_get_matches_from.ensures in
    subst (λ asked. IsRead asked c.read_matches.result) (asked_ok app _ _ same (parse.kinds free) (parse.matches plain).0) c.read_matches.ensures.read

pub returns-in-Err-try_get_matches_from-clause-read : goal.returns-in-Err-try_get_matches_from-clause-read
returns-in-Err-try_get_matches_from-clause-read c =
    let app = app_of c.in-Ok.command in
    let same : app ≡ lifecheck = c.in-Ok.ensures in
    let free : is_simple_and_free app ≡ true = ap is_simple_and_free same ∙ simple_and_free in
    elim (c.in-Err-try_get_matches_from.ensures.kinds free) [
      | inl memory ↦ rw (c.refused.ensures.memory memory) tt
      | inr among ↦ IfSome_then _ c.refused.ensures.told (λ told is. told_fault app _ _ told same among is)
    ]
