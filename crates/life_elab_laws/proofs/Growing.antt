-- How what has been written grows, and what the finished function has of it.
use Rattle.std.proofs.Common.{◌≡◌, ◌<◌, ◌≤◌, List, [], ◌∷◌, length, refl, ◌∙◌, arith, length-append, ℕ}
use Rattle.life_types.specs.Types.{Types}
use Rattle.life_types.specs.declared.place.Place.{Place}
use Rattle.life_types.specs.declared.ty.Ty.{Ty}
use Rattle.life_core.specs.Function.{Function}
use Rattle.life_core.specs.declared.program.Local.{Local}
use Rattle.life_writer.specs.Registers.{nameless, new_register, type_number, typed_with}
use Rattle.life_writer.specs.Writing.{State, with_code}
use Rattle.life_elab_laws.proofs.Fronts.{IsFront, front_append, front_itself, front_then}
use Rattle.life_elab_laws.proofs.Types.{types_before}
use Rattle.life_elab_laws.proofs.Among.{Among}
use Rattle.life_elab_laws.proofs.PendingTemporaries.{ArePending, pending_later}

-- without the list of statements that is being written: what is told of the rest holds whatever list that is
abbrev pub bare : State → State
bare s = with_code [] s

-- locals and types are added behind those that there are, and temporaries behind those that are pending; the variables stay
pub record GrowsBare (s s' : State) : Type 0 where
  pub locals : IsFront s.locals s'.locals
  pub types : IsFront s.types.types s'.types.types
  pub count : length s.locals ≤ length s'.locals
  pub variables : s'.variables ≡ s.variables
  pub living : s'.living ≡ s.living
  pub pending : IsFront s.pending s'.pending
  pub fresh : (y : ℕ) → Among y s'.pending → y < length s.locals → Among y s.pending
  pub pends : (low : ℕ) → ArePending low s → ArePending low s'
  pub outside : s'.outside ≡ s.outside

abbrev pub Grows : State → State → Type 0
Grows s s' = GrowsBare (bare s) (bare s')

pub grows_none : (s : State) → Grows s s
grows_none s = record {
  locals = front_itself s.locals;
  types = front_itself s.types.types;
  count = omega arith;
  variables = refl;
  living = refl;
  pending = front_itself s.pending;
  fresh = λ y m lt. m;
  pends = λ low p. p;
  outside = refl;
}

pub grows_then : (s t u : State) → Grows s t → Grows t u → Grows s u
grows_then s t u g h = record {
  locals = front_then s.locals t.locals u.locals g.locals h.locals;
  types = front_then s.types.types t.types.types u.types.types g.types h.types;
  count = omega (arith, g.count, h.count);
  variables = h.variables ∙ g.variables;
  living = h.living ∙ g.living;
  pending = front_then s.pending t.pending u.pending g.pending h.pending;
  fresh = λ y m lt. g.fresh y (h.fresh y m (omega (arith, lt, g.count))) lt;
  pends = λ low p. h.pends low (g.pends low p);
  outside = h.outside ∙ g.outside;
}

-- ---- the finished function

-- what has been written so far is what the finished function and the finished table begin with
pub record BeginsWith (types : Types) (f : Function) (written : List Local) (found : List Ty) : Type 0 where
  pub locals : IsFront written f.locals
  pub table : IsFront found types.types

abbrev pub Begins : Types → Function → State → Type 0
Begins types f s = BeginsWith types f s.locals s.types.types

pub begins_before : (types : Types) (f : Function) (s s' : State) → Grows s s' → Begins types f s' → Begins types f s
begins_before types f s s' g b = record {
  locals = front_then s.locals s'.locals f.locals g.locals b.locals;
  table = front_then s.types.types s'.types.types types.types g.types b.table;
}

-- ---- a new register

-- the local that is added
abbrev pub added : Place → Ty → State → Local
added place t s = nameless place (type_number t (typed_with t s))

pub register_grows : (place : Place) (t : Ty) (s : State) → Grows s (new_register place t s).state
register_grows place t s = record {
  locals = front_append s.locals (added place t s ∷ []);
  types = types_before s.types.types t;
  count = omega (arith, length-append s.locals (added place t s ∷ []));
  variables = refl;
  living = refl;
  pending = front_itself s.pending;
  fresh = λ y m lt. m;
  pends = λ low p. pending_later low s (new_register place t s).state (front_append s.locals (added place t s ∷ [])) (types_before s.types.types t) refl refl p;
  outside = refl;
}

pub register_below : (place : Place) (t : Ty) (s : State) → length s.locals < length (new_register place t s).state.locals
register_below place t s = omega (arith, length-append s.locals (added place t s ∷ []))
