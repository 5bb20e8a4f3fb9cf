-- Types and structs under other numbers: what names them has the new numbers, and all else of it is what it was.
use Rattle.std.specs.Prelude.{ℕ, map, option_map}
use Rattle.life_types.specs.declared.ty.Ty.{Ty}
use Rattle.life_types.specs.declared.ty.Ty.TheVariants as ty
use Rattle.life_types.specs.declared.ty.TyId.{TyId}
use Rattle.life_core.specs.Function.{Function}
use Rattle.life_core.specs.declared.program.Local.{Local}
use Rattle.life_pset.specs.Elements.{Input}
use Rattle.life_contract.specs.Signatures.{Signature}
use Rattle.life_contract.specs.declared.param.Param.{Param}

-- the numbers that types and structs get
pub record Renumbering : Type 0 where
  pub type : TyId → TyId
  pub struct : ℕ → ℕ

-- ---- types

abbrev pub renumbered_type : Renumbering → Ty → Ty
renumbered_type new (ty.Vector element) = ty.Vector (new.type element)
renumbered_type new (ty.Unique target) = ty.Unique (new.type target)
renumbered_type new (ty.Raw target constant) = ty.Raw (new.type target) constant
renumbered_type new (ty.Reference target constant) = ty.Reference (new.type target) constant
renumbered_type new (ty.Iterator target constant) = ty.Iterator (new.type target) constant
renumbered_type new (ty.Span target constant) = ty.Span (new.type target) constant
renumbered_type new (ty.Struct number) = ty.Struct (new.struct number)
renumbered_type new t = t

-- ---- functions

abbrev pub renumbered_local : Renumbering → Local → Local
renumbered_local new l = record { name = l.name; ty = new.type l.ty; kind = l.kind; place = l.place; nonnull = l.nonnull; keeps = l.keeps }

-- the same function: its statements name no types
abbrev pub renumbered_function : Renumbering → Function → Function
renumbered_function new f = record {
  name = f.name;
  place = f.place;
  parameters = f.parameters;
  result = new.type f.result;
  promise = f.promise;
  locals = map (renumbered_local new) f.locals;
  body = f.body;
}

-- ---- signatures

abbrev pub renumbered_parameter : Renumbering → Param → Param
renumbered_parameter new p = record { name = p.name; ty = new.type p.ty; nonnull = p.nonnull; keeps = p.keeps }

abbrev pub renumbered_signature : Renumbering → Signature → Signature
renumbered_signature new sig = record {
  name = sig.name;
  place = sig.place;
  parameters = map (renumbered_parameter new) sig.parameters;
  result = new.type sig.result;
  promise = sig.promise;
}

-- ---- inputs

abbrev pub renumbered_input : Renumbering → Input → Input
renumbered_input new i = record { pointer = i.pointer; ty = option_map new.type i.ty; root = i.root }
