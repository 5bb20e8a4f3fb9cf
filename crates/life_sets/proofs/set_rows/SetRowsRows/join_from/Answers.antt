use Rattle.std.proofs.Common.{◌<◌, ℕ, inl, inr, nat_eq, subst, sym}
use Rattle.std.proofs.lemmas.Bool.{and_parts, eqb-true}
use Rattle.life_sets.specs.PairSets.{contains_pair}
use Rattle.life_sets.proofs.set_rows.SetRowsRows.join_from.Goals as goal

pub join_location-requires : goal.join_location-requires
join_location-requires c = λ e h. subst (λ (n : ℕ). e < n) c.requires.elements (c.args.other.now.within c.args.location e h).1

pub invariant_of-self : goal.invariant_of-self
invariant_of-self c =
    let mine = c.args.self.now in
    let other = c.args.other.now in
    let location = c.args.location in
    record {
      within = λ l e h. elim ((c.join_location.ensures.between l e).1 h) [
        | inl was ↦ mine.within l e was
        | inr new ↦
            let parts = and_parts (nat_eq l location) (contains_pair other.pairs location e) new in
            (subst (λ (n : ℕ). n < mine.locations) (sym (eqb-true l location parts.0)) c.requires.location, subst (λ (n : ℕ). e < n) c.requires.elements (other.within location e parts.1).1)
      ];
    }

pub returns-clause-within : goal.returns-clause-within
returns-clause-within c = λ e h. (c.args.other.now.within c.args.location e h).1
