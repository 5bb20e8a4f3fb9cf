use Rattle.std.proofs.Common.{◌≡◌, sym, ◌∙◌, length, map}
use Rattle.std.proofs.lemmas.Bool.{eqb-true}
use Rattle.std.proofs.lemmas.List.{length-map}
use Rattle.std.specs.Vec.{vec_len}
use Rattle.life_core.specs.Function.{program_of}
use Rattle.life_rules.specs.Listing.{listed_diag}
use Rattle.life_sound.proofs.Soundness.{sound_if_empty}
use Rattle.life_sound.proofs.acceptance.accept.Goals as goal

pub invariant_of-result : goal.invariant_of-result
invariant_of-result c =
    let none : vec_len c.args.diagnostics ≡ 0 = eqb-true (vec_len c.args.diagnostics) 0 (sym c.is_empty.ensures ∙ c.if-is_empty.true) in
    let empty : length (map listed_diag c.args.diagnostics.items) ≡ 0 = length-map c.args.diagnostics.items listed_diag ∙ sym c.args.diagnostics.ok.0 ∙ none in
    sound_if_empty (program_of c.args.program) (map listed_diag c.args.diagnostics.items) c.requires.proper c.requires.served c.requires.all empty
