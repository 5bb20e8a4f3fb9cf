-- A variable that comes to life, and is then given something by one more instruction.
use Rattle.std.proofs.Common.{◌≡◌, ◌<◌, ◌++◌, ℕ, Bool, true, List, [], ◌∷◌, None, length, slice_get, slice_set, Some, refl, sym, ap, ◌∙◌, subst, arith, append_assoc}
use Rattle.std.proofs.lemmas.Bool.{and_parts}
use Rattle.std.specs.List.{list_all}
use Rattle.life_elab_laws.proofs.ObjectTypes.{is_admitted_variable}
use Rattle.life_types.specs.Types.{Types}
use Rattle.life_types.specs.declared.place.Place.{Place}
use Rattle.life_typed.specs.declared.typed_program.TypedLocal.{TypedLocal}
use Rattle.life_core.specs.Function.{Function}
use Rattle.life_core.specs.Step.{Live, Step}
use Rattle.life_core.specs.Touched.{Touched, nothing as no_locals, touched_by}
use Rattle.life_core.specs.Tree.{Acts, Tree}
use Rattle.life_core.specs.declared.instr.Form.TheVariants.{Plain}
use Rattle.life_proper.specs.GivenOver.{given_step}
use Rattle.life_proper.specs.Knowing.{known_at}
use Rattle.life_proper.specs.ReadyKnown.{are_ready, known_after}
use Rattle.life_proper.specs.WellFormed.{can_live}
use Rattle.life_proper.specs.declared.known.Known.{Known}
use Rattle.life_proper.specs.declared.known.Known.TheVariants as known
use Rattle.life_proper.proofs.ReadyTests.{both_known, one_known, uses_ready}
use Rattle.life_well_typed.specs.Visible.{Visible, with_next}
use Rattle.life_writer.specs.Around.{Around}
use Rattle.life_writer.specs.Variables.{variable_local, end_pending}
use Rattle.life_writer.specs.Writing.{Gives, State, emit, with_code}
use Rattle.life_elab_laws.proofs.Declaring.{declared_does, its_local, new_below, new_count, with_new}
use Rattle.life_elab_laws.proofs.Doing.{Does}
use Rattle.life_elab_laws.proofs.Falling.{Falls, falls_acts, falls_append, falls_filling}
use Rattle.life_elab_laws.proofs.Filling.{all_there}
use Rattle.life_elab_laws.proofs.Following.{Follows, follows_settled, settled}
use Rattle.life_elab_laws.proofs.Gifts.{Gift}
use Rattle.life_elab_laws.proofs.Growing.{Begins}
use Rattle.life_elab_laws.proofs.Held.{blank_there, one_there}
use Rattle.life_elab_laws.proofs.GivenApart.{one_more, quiet_apart}
use Rattle.life_elab_laws.proofs.LookedLocals.{looked_step}
use Rattle.life_elab_laws.proofs.Knowledge.{at_set, beside_set}
use Rattle.life_elab_laws.proofs.Making.{AreHeld}
use Rattle.life_elab_laws.proofs.Parts.{Makes}
use Rattle.life_elab_laws.proofs.Setting.{Setting}
use Rattle.life_elab_laws.proofs.Shaping.{IsFineStep, fine_acts, fine_append, is_no_object, step_keeps}
use Rattle.life_elab_laws.proofs.TemporaryEnds.{temporary_ends}
use Rattle.life_elab_laws.proofs.OwnLocals.{first_own}

-- what is there stays so where the next local comes to life
held_beside : (xs : List ℕ) (n : ℕ) (k : List Known) → AreHeld xs n k → AreHeld xs n (slice_set k n known.Ready)
held_beside [] n k h = tt
held_beside (x ∷ xs) n k h = ((h.0.0, beside_set k n x known.Ready (λ e. omega (arith, e, h.0.0)) ∙ h.0.1), held_beside xs n k h.1)

-- it comes to life, and the instruction looks at it and at what is there
pub lives_falls : (types : Types) (f : Function) (start place : Place) (step : ℕ → Step) (used : List ℕ) (x : ℕ) → touched_by f (step x) ≡ record no_locals { uses = x ∷ used } → (k : List Known) → x < length k
    → AreHeld used x k → known_at k x ≡ known.Blank → Falls types f (Acts start (Live x Plain) ∷ Acts place (step x) ∷ []) k (slice_set k x known.Ready)
lives_falls types f start place step used x touches k lt held blank =
    let j : List Known = slice_set k x known.Ready in
    let all = both_known known.Ready j (x ∷ []) used (one_there j x (at_set k x known.Ready lt)) (all_there used x j (held_beside used x k held)) in
    falls_append types f (Acts start (Live x Plain) ∷ []) (Acts place (step x) ∷ []) k j j
    (falls_filling types f start (Live x Plain) x k (record { ready = one_known known.Blank k x (blank_there k x blank); after = refl }))
    (subst (Falls types f (Acts place (step x) ∷ []) j) (ap (λ (t : Touched). known_after t j) touches) (falls_acts types f place (step x) j (ap (are_ready j) touches ∙ uses_ready j (x ∷ used) [] all)))

module _ (a : Around) (types : Types) (texts : ℕ) (fs : List Function) (f : Function) (setting : Setting a types fs f) (v : Visible) (in_loop : Bool) (last : Place)
    (u : TypedLocal) (s : State) (h : Follows types f a v s) (at : slice_get a.function.locals v.declared ≡ Some u) (built : is_admitted_variable a.program.types u.ty ≡ true) where
  module _ {A : Type 0} (place : Place) (w : Gives A) (Q : Gift types texts fs f A) (made : Makes types texts fs f None s w Q) (step : ℕ → Step) (used : List ℕ)
      (touches : (x : ℕ) → touched_by f (step x) ≡ record no_locals { uses = x ∷ used }) (ready : (n : ℕ) (k : List Known) → Q.ready w.given n k → AreHeld used n k) (quiet : (x : ℕ) → looked_step (step x) ≡ []) where
    abbrev x : ℕ
    x = length w.state.locals

    abbrev New : Type 0
    New = Begins types f (with_new (variable_local a u) w.state)

    abbrev lives : List Tree
    lives = Acts u.place (Live x Plain) ∷ []

    abbrev acts : List Tree
    acts = Acts place (step x) ∷ []

    live_fine : can_live types texts fs f x ≡ true → IsFineStep types texts fs f (Live x Plain)
    live_fine can = record { given = refl; formed = can }

    pub lives_then : (New → can_live types texts fs f x ≡ true) → (New → Q.typed w.given → IsFineStep types texts fs f (step x))
        → Does types texts fs f a (with_next v) in_loop s (end_pending (length s.pending) last (emit place (step x) (emit u.place (Live x Plain) (with_new (variable_local a u) w.state))))
    lives_then can fine =
        subst (λ (c : List Tree). Does types texts fs f a (with_next v) in_loop s (end_pending (length s.pending) last (with_code c (with_new (variable_local a u) w.state))))
        (sym (append_assoc w.state.code lives acts))
        (declared_does types texts fs f a setting.front v in_loop (temporary_ends types texts fs f (first_own a) setting.own) last u s w Q (lives ++ acts) h at built made
        (λ b q. fine_append types texts fs f lives acts (fine_acts types texts fs f u.place (Live x Plain) (live_fine (can b))) (fine_acts types texts fs f place (step x) (fine b q)))
        (λ b k size q blank.
        lives_falls types f u.place place step used x (touches x) k (omega (arith, size, new_below types f a setting.front v u (variable_local a u) (its_local a u) (settled types f s w.state) (follows_settled types f a v s w.state made.grown h) at built b))
        (ready x k q) blank)
        (λ b q k alive r blank.
        quiet_apart f types (step x) place w.state (with_new (variable_local a u) w.state) (quiet x) (and_parts (list_all (is_no_object types f) (given_step (step x))) (step_keeps f (step x)) (fine b q).given).0
        (omega (arith, new_count f (variable_local a u) w.state)) (λ y o. one_more x (length (with_new (variable_local a u) w.state).locals) w.state.living w.state.pending y (new_count f (variable_local a u) w.state) o)))
