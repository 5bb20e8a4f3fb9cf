-- Where the functions that are written have numbers for their locals, and one more has, all have.
use Rattle.std.proofs.Common.{◌<◌, ◌^◌, List, [], ◌∷◌, ◌++◌, length, map}
use Rattle.life_core.specs.Function.{function_of}
use Rattle.life_core.specs.declared.program.CoreFn.{CoreFn}
use Rattle.life_elab.specs.Bounds.{HaveNumberedLocals}

pub numbered_more : (fs : List CoreFn) (f : CoreFn) → HaveNumberedLocals (map function_of fs) → length (function_of f).locals < 2 ^ 32 → HaveNumberedLocals (map function_of (fs ++ f ∷ []))
numbered_more [] f before here = (here, tt)
numbered_more (g ∷ fs) f before here = (before.0, numbered_more fs f before.1 here)
