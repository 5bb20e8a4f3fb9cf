-- From one point to the whole walk.
use Rattle.std.proofs.Common.{◌≡◌, ℕ, zero, suc, ◌-◌, ◌<◌, List, [], ◌++◌, length, take, drop, Option, Some, None, refl, sym, ap, subst, ◌∙◌, arith, append-nil, append_assoc}
use Rattle.std.proofs.KnownBytes.{Appends-trans}
use Rattle.std.proofs.lemmas.List.{take-append-drop, take_at}
use Rattle.std.specs.Io.KnownBytes.{Appends}
use Rattle.std.specs.Prelude.{ℤ, option_and_then}
use Rattle.life_base.specs.Causes.{Rose}
use Rattle.life_base.specs.Edges.{AppendsFront}
use Rattle.life_core.specs.Function.{Function, Program}
use Rattle.life_core.specs.Linked.{code_of, numbered}
use Rattle.life_store.specs.Content.{Content}
use Rattle.life_store.specs.Doing.{Setting}
use Rattle.life_store.specs.Meaning.{Called}
use Rattle.life_store.specs.State.{State}
use Rattle.life_cells.specs.Cells.{state_of}
use Rattle.life_interp.specs.Cells.{world_of}
use Rattle.life_interp.specs.Frames.{function_at, stack_seen}
use Rattle.life_interp.specs.Walk.{Waiting, at_point, walk}
use Rattle.life_interp.specs.Walking.{from, output_of, passes, PointEnds, Takes, TakesPart, WalkEnds}
use Rattle.life_interp.specs.declared.ending.Halt.{Halt}
use Rattle.life_interp.specs.declared.ending.Halt.TheVariants as halt
use Rattle.life_interp.specs.declared.frames.Frames.{Frames}
use Rattle.life_interp.proofs.Quiet.{Begins}
use Rattle.life_interp.proofs.Written.{walk_begins}

-- ---- what a sink took

pub takes_on : (a b c : Option (List ℕ)) (m n o : ℕ) (text more : List ℕ) → Takes (record { old = a; new = b; faults = m; later = n }) text → Takes (record { old = b; new = c; faults = n; later = o }) more
    → Takes (record { old = a; new = c; faults = m; later = o }) (text ++ more)
takes_on a b c m n o text more h k = record { taken = Appends-trans a b c text more h.taken k.taken; quiet = k.quiet ∙ h.quiet }

-- .. and no more
takes_still : (a b c : Option (List ℕ)) (m n o : ℕ) (text : List ℕ) → Takes (record { old = a; new = b; faults = m; later = n }) text → Takes (record { old = b; new = c; faults = n; later = o }) []
    → Takes (record { old = a; new = c; faults = m; later = o }) text
takes_still a b c m n o text h k = subst (Takes (record { old = a; new = c; faults = m; later = o })) (append-nil text) (takes_on a b c m n o text [] h k)

-- a front of what begins with the text
front_of : (a c : Option (List ℕ)) (p q all : List ℕ) → Appends a c p → all ≡ p ++ q → AppendsFront a c all
front_of a c p q all h e = (length p, subst (Appends a c) (sym (ap (take (length p)) e ∙ take_at p q (length p) refl)) h)

part_on : (a b c : Option (List ℕ)) (m n o : ℕ) (text more all : List ℕ) → Takes (record { old = a; new = b; faults = m; later = n }) text → TakesPart (record { old = b; new = c; faults = n; later = o }) more → Begins (text ++ more) all
    → TakesPart (record { old = a; new = c; faults = m; later = o }) all
part_on a b c m n o text more all h k begins =
    let front = take k.taken.0 more in
    let rest = drop k.taken.0 more in
    let joined = Appends-trans a b c text front h.taken k.taken.1 in
    let split : text ++ more ≡ (text ++ front) ++ rest = ap (λ x. text ++ x) (sym (take-append-drop k.taken.0 more)) ∙ sym (append_assoc text front rest) in
    record {
      taken = front_of a c (text ++ front) (rest ++ begins.0) all joined (begins.1 ∙ ap (λ x. x ++ begins.0) split ∙ append_assoc (text ++ front) rest begins.0);
      rose = subst (λ x. Rose x o) h.quiet k.rose;
    }

-- ---- a step of the walk

at_a_step : (s : Setting) (p : Program) (n : ℕ) (ws : List Waiting) (f : Function) (to : Option ℕ) (st : State)
    → walk s p (suc n) ws f to st ≡ at_point s p (walk s p n) ws f (option_and_then (numbered (code_of f)) to) n st
at_a_step s p n ws f None st = refl
at_a_step s p n ws f (Some q) st = refl

module _ (s : Setting) (p : Program) (frames : Frames) (c : Content) (ins : List ℤ) where
  -- where a step is left, the walk does what stands at the point
  pub a_step : (n : ℕ) (output : List ℕ) → 0 < n → from p.functions frames c ins (walk s p n) n output ≡ passes s p frames c ins (walk s p (n - 1)) (n - 1) output
  a_step zero output lt = absurd (omega (arith, lt))
  a_step (suc n) output lt =
      let k : n ≡ suc n - 1 = omega arith in
      at_a_step s p n (stack_seen p.functions frames.waiting.items) (function_at p.functions frames.function) frames.point (state_of c frames.cells.items output ins)
      ∙ ap (λ m. passes s p frames c ins (walk s p m) m output) k

  -- the walk ends where a point ends it
  pub ends_there : (walked : Called) (n : ℕ) (h : Halt) (a b e : Option (List ℕ)) (m o q : ℕ) (text : List ℕ) → 0 < n
      → Takes (record { old = a; new = b; faults = m; later = o }) text → walked ≡ from p.functions frames c ins (walk s p n) n text
      → PointEnds (passes s p frames c ins) p.functions c ins (record { old = b; new = e; faults = o; later = q }) h
      → WalkEnds walked (record { old = a; new = e; faults = m; later = q }) h
  ends_there walked n (halt.Returned z) a b e m o q text lt took is h =
      (n - 1, world_of c text ins, h.1.0, takes_still a b e m o q text took h.0, h.1.1, is ∙ a_step n text lt ∙ h.1.2 (walk s p (n - 1)) (n - 1) text)
  ends_there walked n (halt.Trap kind place) a b e m o q text lt took is h =
      (world_of c text ins, takes_still a b e m o q text took h.0, is ∙ a_step n text lt ∙ h.1 (walk s p (n - 1)) (n - 1) text)
  ends_there walked n (halt.Fault kind place) a b e m o q text lt took is h =
      (world_of c text ins, takes_still a b e m o q text took h.0, is ∙ a_step n text lt ∙ h.1 (walk s p (n - 1)) (n - 1) text)
  ends_there walked n halt.OutOfSteps a b e m o q text lt took is h = absurd h
  ends_there walked n halt.Stray a b e m o q text lt took is h = (world_of c text ins, is ∙ a_step n text lt ∙ h.1 (walk s p (n - 1)) (n - 1) text)
  ends_there walked n halt.WriteFault a b e m o q text lt took is h =
      let new = h.1 in
      let went = is ∙ a_step n text lt ∙ h.3 (walk s p (n - 1)) (n - 1) text in
      let begins = walk_begins s p (n - 1) (stack_seen p.functions new.waiting.items) (function_at p.functions new.function) new.point (state_of c new.cells.items (text ++ h.0) ins) in
      subst (λ x. TakesPart (record { old = a; new = e; faults = m; later = q }) (output_of x)) (sym went) (part_on a b e m o q text h.0 _ took h.2 begins)
  ends_there walked n halt.NoMemory a b e m o q text lt took is h =
      let kept = takes_still a b e m o q text took h in
      let begins = walk_begins s p n (stack_seen p.functions frames.waiting.items) (function_at p.functions frames.function) frames.point (state_of c frames.cells.items text ins) in
      (front_of a e text begins.0 _ kept.taken (ap output_of is ∙ begins.1), kept.quiet)
