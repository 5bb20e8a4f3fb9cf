use Rattle.std.proofs.Common.{◌∙◌, sym, ap, length}
use Rattle.std.proofs.lemmas.List.{length-map}
use Rattle.life_core.specs.Function.{function_of}
use Rattle.life_core.specs.Node.{spot_seen}
use Rattle.life_core.proofs.SpotLemmas.{code_spots, spots_length}
use Rattle.life_core.proofs.spot_list.spots.Goals as goal

pub returns-clause-all : goal.returns-clause-all
returns-clause-all c = rw (c.in_ok-push_spots.ensures, c.new-found.ensures.items) (sym (code_spots (function_of c.args.f.now)))

pub returns-clause-count : goal.returns-clause-count
returns-clause-count c =
    let f = function_of c.args.f.now in
    sym (length-map c.push_spots.new.found.items spot_seen) ∙ ap length (returns-clause-all c ∙ code_spots f) ∙ spots_length f.body
