-- A fold over a target that looks at no address, and at no list's room, sees no difference when the target is settled.
-- For each type: what is claimed of it, a layer of parts of which it holds, and that it holds of what such a layer makes.
use Rattle.std.proofs.Common.{◌≡◌, refl, ap, sym, subst, ◌∙◌}
use Rattle.life_tree.specs.declared.simple.Target.{Target, roll-Target}
use Rattle.life_tree.specs.declared.simple.Target.TheFolds.{fold-Target}
use Rattle.life_tree.specs.declared.simple.Target.TheFolds.{fold-roll-Target}
use Rattle.life_tree.specs.declared.simple.Target.TheFolds.{ind-Target}
use Rattle.life_tree.specs.declared.simple.Target.TheFolds.{map-Target}
use Rattle.life_tree.specs.declared.simple.Target.TheOpen as open_target
use Rattle.life_unique.proofs.TargetLayers.{settle_target}
use Rattle.life_unique.proofs.TargetLayers.{Layer-Target}
use Rattle.life_unique.proofs.TargetLayers.{parts_target}
use Rattle.life_unique.proofs.TargetLayers.{settled_of_target}
use Rattle.life_unique.specs.SettledSimples.{Opened-Target}
use Rattle.life_unique.specs.SettledSimples.{bare_target}
use Rattle.life_unique.specs.SettledSimples.{settled_target}

module _ (A : Type 0)
    (target_step : open_target.Target-F A → A)
    (target_blind : (l : open_target.Target-F A) → target_step (bare_target l) ≡ target_step l) where
  abbrev of_target : Target → A
  of_target = fold-Target A
      target_step

  abbrev Seen-Target : Target → Type 0
  Seen-Target x = of_target (settled_target x) ≡ of_target x

  abbrev claims : Target → Type 0
  claims = Seen-Target

  -- what is seen of a layer's parts
  abbrev of_parts_target : Opened-Target → open_target.Target-F A
  of_parts_target = map-Target Target
      A
      of_target

  -- .. and of what is made of it
  target_rolled : (l : Opened-Target) → of_target (roll-Target l) ≡ target_step (of_parts_target l)
  target_rolled = fold-roll-Target A
      target_step

  -- .. are one, over parts that are seen as before
  target_layer : (l : Layer-Target claims) → of_parts_target (settle_target (parts_target claims l)) ≡ of_parts_target (parts_target claims l)
  target_layer (open_target.Dereference star operand) = λ i. open_target.Dereference star (record { ptr = operand.ptr; alloc = operand.alloc; value = operand.value.1 i })
  target_layer (open_target.Plain operand) = refl

  -- a layer's own boxes aren't looked at
  target_bare : (l : Opened-Target) → target_step (of_parts_target (bare_target l)) ≡ target_step (of_parts_target l)
  target_bare (open_target.Dereference star operand) = target_blind (open_target.Dereference star (record { ptr = operand.ptr; alloc = operand.alloc; value = of_target operand.value }))
  target_bare (open_target.Plain operand) = target_blind (open_target.Plain operand)

  target_made : (x : Opened-Target) (l : Layer-Target claims) → parts_target claims l ≡ x → Seen-Target (roll-Target x)
  target_made x l e = subst (λ z. Seen-Target (roll-Target z)) e
      (ap of_target (settled_of_target (parts_target claims l))
      ∙ target_rolled (bare_target (settle_target (parts_target claims l)))
      ∙ target_bare (settle_target (parts_target claims l)) ∙ ap target_step (target_layer l) ∙ sym (target_rolled (parts_target claims l)))

  pub target_seen : (x : Target) → Seen-Target x
  target_seen = ind-Target
      Seen-Target
      target_made
