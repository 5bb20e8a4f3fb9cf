-- Each return of a part stands where a local is known to be there, by what the flow through the part knows there.
use Rattle.std.specs.Prelude.{◌≡◌, ℕ, Some, None}
use Rattle.life_types.specs.Types.{Types}
use Rattle.life_core.specs.Function.{Function}
use Rattle.life_core.specs.Tree.{Tree, Skip, Then, Acts, Asks, Both, Either, Negated, Choice, Turns, Breaks, Continues, Returns, Stops}
use Rattle.life_proper.specs.declared.known.Known.TheVariants as known
use Rattle.life_proper.specs.Checking.{flow}
use Rattle.life_proper.specs.Knowing.{State, at_head, known_at, met}

-- where some way comes
abbrev pub IsKnownReady : ℕ → State → Type 0
IsKnownReady r None = Unit {0}
IsKnownReady r (Some k) = known_at k r ≡ known.Ready

module _ (types : Types) (f : Function) (r : ℕ) where
  abbrev pub ReturnsKnown : Tree → State → Type 0
  ReturnsKnown Skip s = Unit {0}
  ReturnsKnown (Then a b) s = ReturnsKnown a s × ReturnsKnown b (flow types f a s).next
  ReturnsKnown (Acts place i) s = Unit {0}
  ReturnsKnown (Asks place t) s = Unit {0}
  ReturnsKnown (Both a b) s = ReturnsKnown a s × ReturnsKnown b (flow types f a s).on_true
  ReturnsKnown (Either a b) s = ReturnsKnown a s × ReturnsKnown b (flow types f a s).on_false
  ReturnsKnown (Negated a) s = ReturnsKnown a s
  ReturnsKnown (Choice t a b) s =
      let w = flow types f t s in
      ReturnsKnown t s × (ReturnsKnown a w.on_true × ReturnsKnown b w.on_false)
  ReturnsKnown (Turns t body step) s =
      let head = at_head f.locals s in
      let w = flow types f t head in
      let v = flow types f body w.on_true in
      ReturnsKnown t head × (ReturnsKnown body w.on_true × ReturnsKnown step (met v.next v.on_continue))
  ReturnsKnown Breaks s = Unit {0}
  ReturnsKnown Continues s = Unit {0}
  ReturnsKnown (Returns place) s = IsKnownReady r s
  ReturnsKnown (Stops place) s = Unit {0}
