-- A hidden range or iterator of a loop over a range, which an instruction writes (ISO/IEC 14882:2017 [stmt.ranged]).
use Rattle.std.proofs.Common.{◌≡◌, ℕ, true, List, [], ◌∷◌, length, slice_get, slice_set, Some, None, refl, ap, ◌∙◌, arith, length-append, inl, inr}
use Rattle.std.proofs.lemmas.Bool.{and_parts, false≢true}
use Rattle.std.proofs.lemmas.Option.{slice_get_within}
use Rattle.std.specs.List.{list_all}
use Rattle.life_types.specs.Types.{Types}
use Rattle.life_types.specs.declared.place.Place.{Place}
use Rattle.life_types.specs.declared.ty.Ty.{Ty}
use Rattle.life_types.specs.declared.ty.Ty.TheVariants as ty
use Rattle.life_typed.specs.BaseTypes.{type_at}
use Rattle.life_core.specs.Function.{Function}
use Rattle.life_core.specs.Operands.{Location, whole}
use Rattle.life_core.specs.Step.{Step}
use Rattle.life_core.specs.Touched.{Touched, nothing as no_locals, touched_by}
use Rattle.life_core.specs.Tree.{Acts, trees}
use Rattle.life_core.specs.declared.program.Local.{Local}
use Rattle.life_core.specs.declared.program.LocalKind.TheVariants.{Range}
use Rattle.life_proper.specs.GivenOver.{given_step}
use Rattle.life_proper.specs.Placed.{type_in}
use Rattle.life_proper.specs.Placed as placed
use Rattle.life_proper.specs.ReadyKnown.{are_ready, known_after}
use Rattle.life_proper.specs.declared.known.Known.{Known}
use Rattle.life_proper.specs.declared.known.Known.TheVariants as known
use Rattle.life_proper.proofs.ReadyTests.{uses_ready}
use Rattle.life_writer.specs.Building.{Fill, built}
use Rattle.life_writer.specs.Registers.{type_number, typed_with}
use Rattle.life_writer.specs.Temporaries.{hidden, nameless_of, new_nameless}
use Rattle.life_writer.specs.Writing.{Gives, State}
use Rattle.life_elab_laws.proofs.Emitting.{keeps_set}
use Rattle.life_elab_laws.proofs.Falling.{Fills, falls_filling}
use Rattle.life_elab_laws.proofs.Filling.{all_there}
use Rattle.life_elab_laws.proofs.FormedVariables.{reference_there}
use Rattle.life_elab_laws.proofs.Fronts.{front_append, front_itself, last_there}
use Rattle.life_elab_laws.proofs.Gifts.{Gift, held_stays}
use Rattle.life_elab_laws.proofs.GivenApart.{given_of, step_apart, then_opens}
use Rattle.life_elab_laws.proofs.LookedLocals.{looked_of}
use Rattle.life_elab_laws.proofs.Growing.{Begins, Grows}
use Rattle.life_elab_laws.proofs.HiddenStay.{IsHidden, hidden_passes}
use Rattle.life_elab_laws.proofs.Knowledge.{at_set}
use Rattle.life_elab_laws.proofs.Making.{AreHeld, IsHeld}
use Rattle.life_elab_laws.proofs.OperandsThere.{type_there}
use Rattle.life_elab_laws.proofs.OrderedTypes.{type_ordered}
use Rattle.life_elab_laws.proofs.Parts.{Part}
use Rattle.life_elab_laws.proofs.PendingTemporaries.{pending_later}
use Rattle.life_elab_laws.proofs.Shaping.{IsFineStep, fine_acts, is_no_object, step_keeps}
use Rattle.life_elab_laws.proofs.StillThere.{alive_grown, alive_passing}
use Rattle.life_elab_laws.proofs.Targets.{owner_target, target_unslotted}
use Rattle.life_elab_laws.proofs.Types.{type_added, types_before}
use Rattle.life_elab_laws.proofs.WrittenLocals.{AddsRegisters, fits_hidden, hidden_below, hidden_later, register_pushed}
use Rattle.life_elab_laws.proofs.BornLocals.{filled_bears}

-- ---- the local

abbrev pub hidden_local : Place → Ty → State → Local
hidden_local place t s = nameless_of Range place (type_number t (typed_with t s))

abbrev pub with_hidden : Place → Ty → State → Gives ℕ
with_hidden place t s = new_nameless Range place t s

pub hidden_grows : (place : Place) (t : Ty) (s : State) → Grows s (with_hidden place t s).state
hidden_grows place t s = record {
  locals = front_append s.locals (hidden_local place t s ∷ []);
  types = types_before s.types.types t;
  count = omega (arith, length-append s.locals (hidden_local place t s ∷ []));
  variables = refl;
  living = refl;
  pending = front_itself s.pending;
  fresh = λ y m lt. m;
  pends = λ low p. pending_later low s (with_hidden place t s).state (front_append s.locals (hidden_local place t s ∷ [])) (types_before s.types.types t) refl refl p;
  outside = refl;
}

hidden_added : (types : Types) (place : Place) (t : Ty) (s : State) → fits_hidden types s.types t ≡ true → AddsRegisters types s (with_hidden place t s).state
hidden_added types place t s fits = (
  register_pushed types (with_hidden place t s).state.types s.locals (hidden_local place t s)
      (record { nameless = refl; ty = t; typed = type_added s.types.types t; fits = inr (inr (refl, hidden_later types s.types (with_hidden place t s).state.types (types_before s.types.types t) t fits)) }),
  type_ordered s.types t (λ ordered. hidden_below types s.types t fits),
)

-- ---- its type in the finished function

module _ (types : Types) (f : Function) where
  pub hidden_typed : (x : ℕ) (l : Local) (t : Ty) → slice_get f.locals x ≡ Some l → slice_get types.types l.ty.0 ≡ Some t → fits_hidden types types t ≡ true → placed.type_at types f x ≡ t
  hidden_typed x l (ty.Reference target constant) at typed h =
      reference_there types f x l target constant at typed (target_unslotted types types (λ n x e. e) target (owner_target types (type_at types target) h))
  hidden_typed x l (ty.Iterator target constant) at typed h = type_there types f x l (ty.Iterator target constant) at typed refl
  hidden_typed x l (ty.Span target constant) at typed h = type_there types f x l (ty.Span target constant) at typed refl
  hidden_typed x l ty.View at typed h = type_there types f x l ty.View at typed refl
  hidden_typed x l _ at typed h = absurd (false≢true h)

-- ---- what writes it

-- an instruction with a hole, whose uses are there
pub record FillsHidden (f : Function) (step : Location → Step) (n : ℕ) (k : List Known) : Type 0 where
  pub uses : List ℕ
  pub held : AreHeld uses n k
  pub touches : (x : ℕ) → touched_by f (step (whole x)) ≡ record no_locals { uses = uses; writes = x ∷ [] }

pub hidden_fills : (f : Function) (step : Location → Step) (n : ℕ) (k : List Known) → FillsHidden f step n k → (x : ℕ) → Fills f k (step (whole x)) x
hidden_fills f step n k h x = record {
  ready = ap (are_ready k) (h.touches x) ∙ uses_ready k h.uses (x ∷ []) (all_there h.uses n k h.held);
  after = ap (λ (t : Touched). known_after t k) (h.touches x);
}

module _ (types : Types) (texts : ℕ) (fs : List Function) (f : Function) where
  pub record IsHiddenOf (t : Ty) (x : ℕ) : Type 0 where
    pub is : IsHidden f x
    pub typed : type_in types f (whole x) ≡ t

  -- .. which is there
  abbrev pub a_hidden : Ty → Gift types texts fs f ℕ
  a_hidden t = record { typed = IsHiddenOf t; ready = IsHeld; stays = held_stays types texts fs f }

  module _ (place : Place) (t : Ty) (s : State) (fits : fits_hidden types s.types t ≡ true) where
    abbrev w : Gives ℕ
    w = with_hidden place t s

    there : Begins types f w.state → slice_get f.locals (length s.locals) ≡ Some (hidden_local place t s)
    there b = b.locals (length s.locals) (hidden_local place t s) (last_there s.locals (hidden_local place t s))

    pub is_hidden : Begins types f w.state → IsHiddenOf t (length s.locals)
    is_hidden b = record {
      is = record { local = hidden_local place t s; there = there b; nameless = refl; kind = refl };
      typed = hidden_typed types f (length s.locals) (hidden_local place t s) t (there b) (b.table (type_number t (typed_with t s)).0 t (type_added s.types.types t))
          (hidden_later types w.state.types types b.table t (hidden_later types s.types w.state.types (types_before s.types.types t) t fits));
    }

    -- behind what gave x
    pub hidden_part : {A : Type 0} (P : Gift types texts fs f A) (x : A) (step : Location → Step)
        → (Begins types f w.state → P.typed x → (y : ℕ) → IsHiddenOf t y → IsFineStep types texts fs f (step (whole y)))
        → ((n : ℕ) (k : List Known) → P.ready x n k → FillsHidden f step n k)
        → Part types texts fs f P x None s (built (Fill place step) (hidden place t) s) (a_hidden t)
    hidden_part P x step fine fills = record {
      grown = hidden_grows place t s;
      registers = hidden_added types place t s fits;
      code = Acts place (step (whole (length s.locals))) ∷ [];
      written = refl;
      runs = λ b p. let is = is_hidden b in record {
        fine = fine_acts types texts fs f place (step (whole (length s.locals))) (fine b p (length s.locals) is);
        typed = is;
        goes = λ k alive q.
            let r = length s.locals in
            let within = slice_get_within f.locals r is.is.local is.is.there in
            record {
              after = slice_set k r known.Ready;
              falls = falls_filling types f place (step (whole r)) r k (hidden_fills f step r k (fills r k q) r);
              keeps = keeps_set f r None r known.Ready k (λ y lt beside e. omega (arith, lt, e));
              gives = (omega (arith, length-append s.locals (hidden_local place t s ∷ [])), at_set k r known.Ready (omega (arith, alive.sized, within)));
              alive = alive_passing f w.state k r is.is.local is.is.there (hidden_passes f r is.is) (alive_grown f s w.state k refl (hidden_grows place t s) alive);
              apart = λ below.
                  then_opens f s s w.state (looked_of (trees (Acts place (step (whole r)) ∷ []))) (given_of (trees (Acts place (step (whole r)) ∷ []))) (hidden_grows place t s).count (λ y o. inl o) below
                  (step_apart f types (step (whole r)) place s k alive (hidden_fills f step r k (fills r k q) r).ready
                  (and_parts (list_all (is_no_object types f) (given_step (step (whole r)))) (step_keeps f (step (whole r))) (fine b p r is).given).0 below);
              bears = filled_bears f (step (whole r)) place s k alive r (hidden_fills f step r k (fills r k q) r).after (λ object. omega arith);
            };
      };
    }
