-- What is said of a function that is well formed.
use Rattle.std.proofs.Common.{◌≡◌, ℕ, true, List, slice_get}
use Rattle.std.proofs.lemmas.Bool.{and_parts}
use Rattle.std.specs.Prelude.{length, nat_le}
use Rattle.life_types.specs.Types.{Types}
use Rattle.life_core.specs.Function.{Function}
use Rattle.life_proper.specs.WellFormed.{is_well_formed_tree}
use Rattle.life_proper.specs.WellFormedPrograms.{are_well_formed_locals, is_name, is_result_of, is_well_formed_function, names_parameters}

pub record IsFormed (types : Types) (texts : ℕ) (fs : List Function) (f : Function) (names : ℕ) : Type 0 where
  pub result : is_result_of types f.result (slice_get types.types f.result.0) (slice_get f.locals f.parameters) ≡ true
  pub locals : are_well_formed_locals types names f.parameters 0 f.locals ≡ true
  pub body : is_well_formed_tree types texts fs f f.body ≡ true

pub formed_parts : (types : Types) (names texts : ℕ) (fs : List Function) (f : Function) → is_well_formed_function types names texts fs f ≡ true → IsFormed types texts fs f names
formed_parts types names texts fs f e =
    let a = and_parts (is_name names f.name) _ e in
    let b = and_parts (nat_le f.parameters (length f.locals)) _ a.1 in
    let c = and_parts (names_parameters f.parameters f.promise) _ b.1 in
    let d = and_parts (is_result_of types f.result (slice_get types.types f.result.0) (slice_get f.locals f.parameters)) _ c.1 in
    let g = and_parts (are_well_formed_locals types names f.parameters 0 f.locals) (is_well_formed_tree types texts fs f f.body) d.1 in
    record { result = d.0; locals = g.0; body = g.1 }
