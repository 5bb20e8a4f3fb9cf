use Rattle.life_fix.proofs.Listed.{kept_lines, listed_kept}
use Rattle.life_fix.proofs.listing.listed.Goals as goal

pub returns-clause-listed : goal.returns-clause-listed
returns-clause-listed c = λ line found before. listed_kept line found c.args.candidates.items c.keep_lines.new.candidates.items before c.keep_lines.ensures

pub returns-clause-lines : goal.returns-clause-lines
returns-clause-lines c = λ line found before. kept_lines line found c.args.candidates.items c.keep_lines.new.candidates.items before c.keep_lines.ensures
