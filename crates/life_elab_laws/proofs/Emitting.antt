-- A register that an instruction writes.
use Rattle.std.proofs.Common.{◌≡◌, ◌<◌, ℕ, true, false, List, length, slice_get, slice_set, Option, Some, None, refl, ap, ◌∙◌, arith, inl}
use Rattle.std.proofs.lemmas.Option.{slice_get_within}
use Rattle.life_types.specs.Trees.{HasPartsBelow}
use Rattle.life_types.specs.TypeTests.{is_value}
use Rattle.life_types.specs.Types.{Types}
use Rattle.life_types.specs.declared.place.Place.{Place}
use Rattle.life_types.specs.declared.ty.Ty.{Ty}
use Rattle.life_core.specs.Function.{Function}
use Rattle.life_core.specs.Kinds.{has_kind, is_object, is_object_at, is_register, is_register_at}
use Rattle.life_core.specs.declared.program.Local.{Local}
use Rattle.life_core.specs.declared.program.LocalKind.TheVariants.{Register}
use Rattle.life_proper.specs.declared.known.Known.{Known}
use Rattle.life_writer.specs.Registers.{new_register, target}
use Rattle.life_writer.specs.Writing.{State, Gives, gives}
use Rattle.life_elab_laws.proofs.Fronts.{last_there}
use Rattle.life_elab_laws.proofs.Growing.{Begins, Grows, added, grows_none, register_below, register_grows}
use Rattle.life_elab_laws.proofs.Knowledge.{beside_set, set_length}
use Rattle.life_elab_laws.proofs.Making.{IsBeside, Keeps}
use Rattle.life_elab_laws.proofs.OrderedTypes.{type_ordered}
use Rattle.life_elab_laws.proofs.Types.{type_added}
use Rattle.life_elab_laws.proofs.WrittenLocals.{AddsRegisters, fits_below, fits_register, register_pushed, registers_none, value_fits}

-- a register without a name that is there already, of a value type
pub record IsWanted (s : State) (r : ℕ) : Type 0 where
  pub local : Local
  pub there : slice_get s.locals r ≡ Some local
  pub nameless : local.name ≡ None
  pub kind : local.kind ≡ Register
  pub ty : Ty
  pub typed : slice_get s.types.types local.ty.0 ≡ Some ty
  pub value : is_value ty ≡ true

abbrev pub IsInto : State → Option ℕ → Type 0
IsInto s None = Unit {0}
IsInto s (Some r) = IsWanted s r

-- a register without a name in the finished function
pub record IsNameless (f : Function) (r : ℕ) : Type 0 where
  pub local : Local
  pub there : slice_get f.locals r ≡ Some local
  pub nameless : local.name ≡ None
  pub kind : local.kind ≡ Register

pub nameless_register : (f : Function) (r : ℕ) → IsNameless f r → is_register_at f r ≡ true
nameless_register f r is = ap (has_kind is_register) is.there ∙ ap is_register is.kind

pub nameless_no_object : (f : Function) (r : ℕ) → IsNameless f r → is_object_at f r ≡ false
nameless_no_object f r is = ap (has_kind is_object) is.there ∙ ap is_object is.kind

-- what stays where it is written
pub keeps_set : (f : Function) (n : ℕ) (into : Option ℕ) (r : ℕ) (a : Known) (k : List Known) → ((y : ℕ) → y < n → IsBeside into y → r ≡ y → ⊥) → Keeps f n into k (slice_set k r a)
keeps_set f n into r a k beside = record { sized = set_length k r a; below = λ y lt b. beside_set k r y a (beside y lt b) }

module _ (types : Types) (f : Function) where
  -- the register that is written, where a part has begun
  pub record Targets (into : Option ℕ) (s : State) (w : Gives ℕ) : Type 0 where
    pub grown : Grows s w.state
    pub registers : AddsRegisters types s w.state
    pub unwritten : w.state.code ≡ s.code
    pub level : w.state.pending ≡ s.pending
    pub below : w.given < length w.state.locals
    pub there : Begins types f w.state → IsNameless f w.given
    pub beside : (y : ℕ) → y < length s.locals → IsBeside into y → w.given ≡ y → ⊥

  register_new : (place : Place) (t : Ty) (s : State) → fits_register types t ≡ true → HasPartsBelow s.types (length s.types.types) t → AddsRegisters types s (new_register place t s).state
  register_new place t s fits below = (
    register_pushed types (new_register place t s).state.types s.locals (added place t s) (record { nameless = refl; ty = t; typed = type_added s.types.types t; fits = inl (refl, fits) }),
    type_ordered s.types t (λ ordered. below),
  )

  pub new_targeted : (place : Place) (t : Ty) (s : State) → fits_register types t ≡ true → HasPartsBelow s.types (length s.types.types) t → Targets None s (new_register place t s)
  new_targeted place t s fits below = record {
    grown = register_grows place t s;
    registers = register_new place t s fits below;
    unwritten = refl;
    level = refl;
    below = register_below place t s;
    there = λ b. record { local = added place t s; there = b.locals (length s.locals) (added place t s) (last_there s.locals (added place t s)); nameless = refl; kind = refl };
    beside = λ y lt b e. omega (arith, lt, e);
  }

  -- .. that is there already
  pub kept_targeted : (s : State) (r : ℕ) (l : Local) → slice_get s.locals r ≡ Some l → l.name ≡ None → l.kind ≡ Register → Targets (Some r) s (gives r s)
  kept_targeted s r l at nameless kind = record {
    grown = grows_none s;
    registers = registers_none types s;
    unwritten = refl;
    level = refl;
    below = slice_get_within s.locals r l at;
    there = λ b. record { local = l; there = b.locals r l at; nameless = nameless; kind = kind };
    beside = λ y lt b. b;
  }

  pub targeted : (place : Place) (t : Ty) (s : State) (into : Option ℕ) → is_value t ≡ true → IsInto s into → Targets into s (target place into t s)
  targeted place t s None e h = new_targeted place t s (value_fits types t e) (fits_below s.types s.types (omega arith) t (value_fits s.types t e))
  targeted place t s (Some r) e h = kept_targeted s r h.local h.there h.nameless h.kind
