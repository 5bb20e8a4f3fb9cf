use Rattle.std.proofs.lemmas.List.Sorted.{IsPermutation-map}
use Rattle.life_fix.specs.Candidates.{candidate_seen}
use Rattle.life_fix.proofs.Candidates.{sorted_seen}
use Rattle.life_fix.proofs.listing.sort.Goals as goal

pub returns : goal.returns
returns c = record {
  moved = IsPermutation-map candidate_seen _ _ c.sort_unstable.ensures.permutation;
  sorted = sorted_seen c.sort_unstable.new.self.items c.sort_unstable.ensures.sorted;
}
