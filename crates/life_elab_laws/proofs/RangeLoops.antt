-- A loop over a range (ISO/IEC 14882:2017 [stmt.ranged]): what is hidden is there at each turn, in which the variable is given an element.
use Rattle.std.proofs.Common.{◌≡◌, ◌<◌, ℕ, Bool, true, false, List, length, slice_get, Option, Some, sym, subst, arith}
use Rattle.life_elab_laws.proofs.ObjectTypes.{is_element, is_admitted_variable}
use Rattle.life_elab_laws.proofs.TypeKinds.{takes_element}
use Rattle.life_types.specs.Pointees.{ty_of}
use Rattle.life_types.specs.Types.{Types}
use Rattle.life_types.specs.declared.place.Place.{Place}
use Rattle.life_types.specs.declared.ty.TyId.{TyId}
use Rattle.life_typed.specs.BaseTypes.{type_at}
use Rattle.life_typed.specs.TypedForm.{Form, null}
use Rattle.life_typed.specs.declared.typed_program.TypedLocal.{TypedLocal}
use Rattle.life_type_stmt.specs.Ranges.{element_place, element_type}
use Rattle.life_core.specs.Function.{Function}
use Rattle.life_proper.specs.Knowing.{known_at}
use Rattle.life_proper.specs.OperandTypes.{same}
use Rattle.life_proper.specs.declared.known.Known.{Known}
use Rattle.life_proper.specs.declared.known.Known.TheVariants as known
use Rattle.life_well_typed.specs.Given.{is_given}
use Rattle.life_well_typed.specs.Visible.{Visible, behind, with_next}
use Rattle.life_writer.specs.Around.{Around, type_of}
use Rattle.life_writer.specs.ExpressionForms.{uses}
use Rattle.life_writer.specs.Writing.{Gives, State}
use Rattle.life_elab.specs.RangeForms.{Iterators, declared_from, element_at, element_of, goes_on, next, opened, ranged, turn}
use Rattle.life_elab.specs.Statements.{looped}
use Rattle.life_elab_laws.proofs.Doing.{Does, DoesLevel}
use Rattle.life_elab_laws.proofs.ElementVariables.{element_declared}
use Rattle.life_elab_laws.proofs.Elements.{one_element}
use Rattle.life_elab_laws.proofs.Following.{Follows, HasRegister, register_later}
use Rattle.life_elab_laws.proofs.Fronts.{IsFront, front_length, front_then}
use Rattle.life_elab_laws.proofs.Growing.{Begins}
use Rattle.life_elab_laws.proofs.Leaving.{block_does, block_level, block_under, level_behind}
use Rattle.life_elab_laws.proofs.Looping.{looped_under}
use Rattle.life_elab_laws.proofs.OpenedRanges.{AreOpened}
use Rattle.life_elab_laws.proofs.Opens.{opened_does}
use Rattle.life_elab_laws.proofs.RangeTurns.{goes_on_tests, next_does}
use Rattle.life_elab_laws.proofs.Setting.{Setting}
use Rattle.life_elab_laws.proofs.Under.{DoesUnder, DoesLevelUnder, StaysKnown, both_there, does_more, does_under, hidden_stay, under_then}

module _ (a : Around) (types : Types) (texts : ℕ) (fs : List Function) (f : Function) (setting : Setting a types fs f) (v w : Visible) (in_loop : Bool) (u : TypedLocal) (form : Form) (id : TyId) (constant : Bool) (colon closing last : Place) (body : State → State)
    (elements : element_of (uses a form) ≡ Some (id, constant)) (worth : is_element a.program.types (type_at a.program.types id) ≡ true) (at : slice_get a.function.locals v.declared ≡ Some u) (built : is_admitted_variable a.program.types u.ty ≡ true)
    (takes : takes_element a.program.types (type_of a u.ty) (id, constant) ≡ true)
    (fits : is_given a.program.types (type_of a u.ty) (record { place = colon; ty = element_type a.program.types (id, constant); category = element_place (id, constant); form = null }) ≡ true)
    (inner : (t : State) → Follows types f a (with_next v) t → HasRegister a t → DoesLevel types texts fs f a w true t (body t))
    (s : State) (h : Follows types f a v s) (register : HasRegister a s) (are : AreOpened a types texts fs f setting v id constant s (opened colon closing (uses a form) s)) where
  abbrev o : Gives Iterators
  o = opened colon closing (uses a form) s

  abbrev it : Iterators
  it = o.given

  -- both iterators are there
  abbrev U : List Known → Type 0
  U = both_there it.first it.last

  keeps : Begins types f o.state → StaysKnown types f U
  keeps b = let both = are.hidden b in hidden_stay f it.first it.last types both.0.is both.1.is

  one_type : same (ty_of types id) (ty_of types id) ≡ true
  one_type = one_element a.program.types types setting.front id worth

  -- ---- later on

  module _ (t : State) (locals : IsFront o.state.locals t.locals) (table : IsFront o.state.types.types t.types.types) where
    begun : Begins types f t → Begins types f o.state
    begun b = record { locals = front_then o.state.locals t.locals f.locals locals b.locals; table = front_then o.state.types.types t.types.types types.types table b.table }

    below : (it.first < length t.locals) × (it.last < length t.locals)
    below =
        let more = front_length o.state.locals t.locals locals in
        (omega (arith, more, are.below.0), omega (arith, more, are.below.1))

    -- ---- a turn

    module _ (follows : Follows types f a v t) (there : HasRegister a t) where
      abbrev declared : State
      declared = declared_from a (Some u) colon it.first (element_at a.program.types colon it.first (Some (id, constant))) t

      first : DoesUnder types texts fs f U a (with_next v) true t declared
      first =
          does_more types texts fs f U (λ k. known_at k it.first ≡ known.Ready) (λ k m. m.0) a (with_next v) true t declared
          (element_declared a types texts fs f setting v true u t follows at built colon id constant worth it.first below.0 (λ b. (are.hidden (begun b)).0) takes fits)

      second : DoesLevel types texts fs f a w true declared (body declared)
      second = inner declared first.follows (register_later a t declared first.adds.locals first.adds.table there)

      both : DoesUnder types texts fs f U a w true t (body declared)
      both = under_then types texts fs f U a (with_next v) w true t declared (body declared) (λ b. keeps (begun b)) follows.outside first (does_under types texts fs f U a w true declared (body declared) second.does)

      turned : DoesLevelUnder types texts fs f U a (behind v w) true t (turn a (Some u) colon last it.first (element_at a.program.types colon it.first (Some (id, constant))) body t)
      turned = record {
        does = block_under types texts fs f a setting v w true t (body declared) follows U both last;
        level = level_behind types texts fs f a setting v w true t (body declared) follows U both last;
      }

      turn_does : DoesLevelUnder types texts fs f U a (behind v w) true t (turn a (Some u) colon last it.first (element_at a.program.types colon it.first (element_of (uses a form))) body t)
      turn_does = subst (λ (x : Option (TyId × Bool)). DoesLevelUnder types texts fs f U a (behind v w) true t (turn a (Some u) colon last it.first (element_at a.program.types colon it.first x) body t)) (sym elements) turned

  -- ---- the loop

  abbrev turns : State → State
  turns = turn a (Some u) colon last it.first (element_at a.program.types colon it.first (element_of (uses a form))) body

  abbrev behind_loop : State
  behind_loop = looped (goes_on colon it) turns (next colon it) o.state

  loop : DoesLevelUnder types texts fs f U a (behind v w) in_loop o.state behind_loop
  loop =
      looped_under types texts fs f {ends = last} U a v (behind v w) in_loop (goes_on colon it) turns (next colon it) o.state keeps are.opens.follows
      (register_later a s o.state are.opens.adds.locals are.opens.adds.table register) (goes_on_tests types texts fs f id constant one_type it colon o.state are.below.0 are.below.1 are.hidden)
      turn_does
      (λ t locals table follows. next_does types texts fs f id constant one_type it a (behind v w) false colon t follows (below t locals table).0 (below t locals table).1 (λ b. are.hidden (begun t locals table b)))

  all : Does types texts fs f a (behind v w) in_loop s behind_loop
  all = opened_does types texts fs f U a v (behind v w) in_loop s o.state behind_loop h are.opens loop.does

  pub ranged_does : DoesLevel types texts fs f a (behind v w) in_loop s (ranged a (Some u) colon closing last (uses a form) body s)
  ranged_does = record {
    does = block_does types texts fs f a setting v (behind v w) in_loop s behind_loop h all last;
    level = block_level types texts fs f a setting v (behind v w) in_loop s behind_loop h all last;
  }
