-- Where nothing was pending before, all that is pending ends, the last first.
use Rattle.std.proofs.Common.{◌≡◌, ℕ, List, [], drop, length, reverse, take, sym, ap, subst}
use Rattle.life_elab_laws.proofs.Among.{Among, among_drop, among_reverse, reverse_among}

pub none_kept : (before pending : List ℕ) → before ≡ [] → take (length before) pending ≡ []
none_kept before pending none = ap (λ (xs : List ℕ). take (length xs) pending) none

pub pending_ends : (before pending : List ℕ) → before ≡ [] → (x : ℕ) → Among x pending → Among x (reverse (drop (length before) pending))
pending_ends before pending none x m = among_reverse (drop (length before) pending) x (subst (λ (xs : List ℕ). Among x (drop (length xs) pending)) (sym none) m)

pub ends_pending : (before pending : List ℕ) (x : ℕ) → Among x (reverse (drop (length before) pending)) → Among x pending
ends_pending before pending x m = among_drop (length before) pending x (reverse_among (drop (length before) pending) x m)
