-- What is told of an instruction in a scope, told of the program and of its function.
use Rattle.std.proofs.Common.{ℕ, Bool, List, subst}
use Rattle.std.specs.declared.alloc.Global.{Global}
use Rattle.std.specs.declared.vec.Vec.{Vec}
use Rattle.life_types.specs.Types.{Types}
use Rattle.life_core.specs.Function.{Function, Program}
use Rattle.life_core.specs.Step.{Step}
use Rattle.life_store.specs.Content.{Content}
use Rattle.life_store.specs.References.{Rows}
use Rattle.life_cells.specs.Scopes.{function_in, texts_in, types_in}
use Rattle.life_cells.specs.declared.cell.Cell.{Cell}
use Rattle.life_cells.specs.declared.scope.Scope.{Scope}
use Rattle.life_interp.specs.Frames.{function_at}
use Rattle.life_interp.specs.Quick.{Attempts, IsScopeOf}

pub attempts_in : (p : Program) (n : ℕ) (scope : Scope) → IsScopeOf p n scope → (limit : ℕ) (i : Step) (c d : Content) (before after : Rows) (old new : Vec Cell Global) (done : Bool)
    → Attempts (types_in scope) (function_in scope) limit (texts_in scope) i c d before after old new done → Attempts p.types (function_at p.functions n) limit p.texts i c d before after old new done
attempts_in p n scope is limit i c d before after old new done told =
    subst (λ (t : Types). Attempts t (function_at p.functions n) limit p.texts i c d before after old new done) is.types
    (subst (λ (f : Function). Attempts (types_in scope) f limit p.texts i c d before after old new done) is.function
    (subst (λ (ts : List (List ℕ)). Attempts (types_in scope) (function_in scope) limit ts i c d before after old new done) is.texts told))
