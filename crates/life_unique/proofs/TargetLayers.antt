-- Layers of targets whose parts are settled.
use Rattle.std.proofs.Common.{◌≡◌}
use Rattle.life_unique.proofs.Lists.{Both}
use Rattle.life_tree.specs.declared.simple.Target.{Target, roll-Target}
use Rattle.life_tree.specs.declared.simple.Target.TheFolds.{fold-roll-Target}
use Rattle.life_unique.specs.SettledSimples.{kept_target}
use Rattle.life_tree.specs.declared.simple.Target.TheFolds.{map-Target}
use Rattle.life_tree.specs.declared.simple.Target.TheOpen as open_target
use Rattle.life_unique.specs.SettledSimples.{Opened-Target}
use Rattle.life_unique.specs.SettledSimples.{settled_target}

-- ---- a layer of parts of which something is claimed, and without that

abbrev pub Layer-Target : (Target → Type 0) → Type 0
Layer-Target claim = open_target.Target-F (Both claim)

abbrev pub parts_target : (claim : Target → Type 0) → Layer-Target claim → Opened-Target
parts_target claim = map-Target (Both claim) Target (λ z. z.0)

-- ---- a layer's parts, settled

abbrev pub settle_target : Opened-Target → Opened-Target
settle_target = map-Target Target
    Target
    settled_target

-- ---- what is made of a layer, settled

pub settled_of_target : (l : Opened-Target) → settled_target (roll-Target l) ≡ kept_target (settle_target l)
settled_of_target = fold-roll-Target Target
    kept_target
