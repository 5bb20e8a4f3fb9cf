-- What is written for a whole function: all is ready on every way and well formed, and no way runs past the end.
use Rattle.std.proofs.Common.{◌≡◌, ◌<◌, inl, inr, ℕ, Bool, true, false, List, [], ◌∷◌, ◌++◌, length, nat_lt, take, Some, None, is_none, refl, sym, ap, ◌∙◌, subst, arith, length-append}
use Rattle.std.proofs.lemmas.Bool.{and_from, false≢true}
use Rattle.std.proofs.lemmas.Bool.Decides.{nat_tests}
use Rattle.life_elab_laws.proofs.StatementKinds.{is_read_statement}
use Rattle.life_types.specs.Types.{Types}
use Rattle.life_typed.specs.Programs.{FunctionForm, ProgramForm}
use Rattle.life_typed.specs.TypedStatement.{StmtForm, block}
use Rattle.life_core.specs.Function.{Function}
use Rattle.life_core.specs.Kinds.{is_object_at}
use Rattle.life_core.specs.Shape.{is_statement, tests_straight}
use Rattle.life_core.specs.Tree.{Tree, Returns, trees}
use Rattle.life_proper.specs.Checking.{Flow, body_flow, flow, is_checked, is_over}
use Rattle.life_proper.specs.Knowing.{State as Knowing, entry_known}
use Rattle.life_proper.specs.ResultsKnown.{ReturnsKnown}
use Rattle.life_well_typed.specs.Functions.{IsBody}
use Rattle.life_well_typed.specs.Visible.{Visible, after, with_parameters}
use Rattle.life_writer.specs.Around.{Around, end_line}
use Rattle.life_writer.specs.Variables.{end_past}
use Rattle.life_writer.specs.Writing.{State}
use Rattle.life_typed.specs.Ends.{ends}
use Rattle.life_elab.specs.Functions.{returned_at_end}
use Rattle.life_elab.specs.ProgramForms.{body, first_state, written}
use Rattle.life_elab.specs.Programs.{around, texts_of}
use Rattle.life_elab.specs.StatementForms.{statement}
use Rattle.life_elab.specs.Statements.{left}
use Rattle.life_elab_laws.proofs.Among.{Among}
use Rattle.life_elab_laws.proofs.Beginning.{entry_knows, first_code, first_follows, register_there}
use Rattle.life_elab_laws.proofs.Callees.{IsBegun, IsFunctionOf}
use Rattle.life_elab_laws.proofs.Doing.{Acting, Does, does_then}
use Rattle.life_elab_laws.proofs.Exits.{Leaves}
use Rattle.life_elab_laws.proofs.Following.{Follows, HasRegister, follows_below}
use Rattle.life_elab_laws.proofs.Fronts.{IsFront}
use Rattle.life_elab_laws.proofs.GivenApart.{AreApart, IsBelow, given_of}
use Rattle.life_elab_laws.proofs.LookedLocals.{looked_of}
use Rattle.life_elab_laws.proofs.GivingBack.{GivesResult}
use Rattle.life_elab_laws.proofs.Growing.{Begins}
use Rattle.life_elab_laws.proofs.Returning.{return_does}
use Rattle.life_elab_laws.proofs.Setting.{Setting}
use Rattle.life_elab_laws.proofs.Shaping.{IsStated}
use Rattle.life_elab_laws.proofs.Statements.{statement_does}
use Rattle.life_elab_laws.proofs.Stopping.{stops, stops_next, stops_right}

-- what is asked of the body of a function
pub record IsProperBody (a : Around) (types : Types) (texts : ℕ) (fs : List Function) (f : Function) : Type 0 where
  pub checked : is_checked types f ≡ true
  pub stated : IsStated types texts fs f false f.body
  -- nothing that it looks at is given over
  pub apart : (x : ℕ) → is_object_at f x ≡ true → Among x (looked_of f.body) → Among x (given_of f.body) → ⊥
  -- where it gives something back and control doesn't run past its text, each return stands behind that
  pub returns : GivesResult a → ReturnsKnown types f f.parameters f.body (Some (entry_known f))

-- what endl writes stands behind the texts
text_there : (p : ProgramForm) (f : FunctionForm) → nat_lt (end_line (around p f)) (length (texts_of p)) ≡ true
text_there p f = go (length p.texts) (length (texts_of p)) (omega (arith, length-append p.texts ((10 ∷ []) ∷ [])))
  where
    go : (m n : ℕ) → m < n → nat_lt m n ≡ true
    go m n h = grind (arith, nat_tests)

module _ (p : ProgramForm) (form : FunctionForm) (T types : Types) (fs : List Function) (f : Function) (setting : Setting (around p form) types fs f) where
  abbrev texts : ℕ
  texts = length (texts_of p)

  -- a body behind which no way goes on
  pub record IsFinished (s s' : State) : Type 0 where
    pub behind : Visible
    pub does : Does types texts fs f (around p form) behind false s s'
    pub stopped : stops (trees s'.code) ≡ true

  finished : (it : StmtForm) (s : State) → ends form.body ≡ ends it → IsBody p form it → is_read_statement texts p form.locals it ≡ true → Follows types f (around p form) (with_parameters (length form.parameters)) s → HasRegister (around p form) s
      → IsFinished s (body (around p form) it s)
  finished (block items closing) s same h b follows register = go (ends (block items closing)) refl
    where
      go : (e : Bool) → ends (block items closing) ≡ e → IsFinished s (returned_at_end e closing (statement (around p form) items s))
      go true e =
          let inner = statement_does (around p form) types texts fs f setting (text_there p form) items false (with_parameters (length form.parameters)) s b h follows register in
          record { behind = after items (with_parameters (length form.parameters)); does = inner.does; stopped = inner.last false (λ n. absurd (false≢true n)) e }
      go false e =
          let u = after items (with_parameters (length form.parameters)) in
          let t = statement (around p form) items s in
          let inner = statement_does (around p form) types texts fs f setting (text_there p form) items false (with_parameters (length form.parameters)) s b h follows register in
          let last = return_does (around p form) types texts fs f setting u false t inner.does.follows (λ gives. false≢true (sym e ∙ sym same ∙ gives.1)) closing in
          record {
            behind = u;
            does = does_then types texts fs f (around p form) u u false s t (left 0 closing (Returns closing) t) follows.outside inner.does last.does;
            stopped = stops_right (end_past 0 closing t).code (Returns closing ∷ []) refl;
          }
  finished _ s same h b follows register = absurd h

  module _ (is : IsFunctionOf p form) (table : IsFront p.types.types T.types) where
    pub function_finished : IsFinished (first_state (around p form) T) (written (around p form) T)
    function_finished =
        finished form.body (first_state (around p form) T) refl is.typed.body is.built.body
        (first_follows (around p form) T is.typed.parameters table types f setting.front is.built.variables is.built.result) (register_there (around p form) T is.typed.parameters table is.ty is.result is.built.result)

    -- ---- in the finished function

    module _ (begun : IsBegun p form T types f) (begins : Begins types f (written (around p form) T)) (whole : f.body ≡ trees (written (around p form) T).code) where
      code_is : (written (around p form) T).code ≡ function_finished.does.code
      code_is = function_finished.does.written ∙ ap (λ (c : List Tree). c ++ function_finished.does.code) (first_code (around p form) T is.typed.parameters table)

      body_is : f.body ≡ trees function_finished.does.code
      body_is = whole ∙ ap trees code_is

      acting : Acting types texts fs f false (first_state (around p form) T) (written (around p form) T) function_finished.does.code
      acting = function_finished.does.acts begins

      abbrev ways : Flow
      ways = flow types f (trees function_finished.does.code) (Some (entry_known f))

      leaves : Leaves f false (written (around p form) T).living (take (first_state (around p form) T).outside (first_state (around p form) T).living) ways
      leaves = acting.ways (Some (entry_known f)) (entry_knows (around p form) T is.typed.parameters table types f setting.front is.built.variables is.built.result begun.count begun.locals)

      ended : ways.next ≡ None
      ended = stops_next types f (trees function_finished.does.code) acting.stated.statement (ap (λ (c : List Tree). stops (trees c)) (sym code_is) ∙ function_finished.stopped) (Some (entry_known f))

      none : (o : Knowing) → o ≡ None → is_none o ≡ true
      none o e = ap is_none e

      over : is_over ways ≡ true
      over =
          and_from ways.fine _ leaves.fine
          (and_from (is_none ways.next) _ (none ways.next ended)
          (and_from (is_none ways.on_break) _ (none ways.on_break leaves.on_break)
          (and_from (is_none ways.on_continue) _ (none ways.on_continue leaves.on_continue)
          (and_from (is_none ways.on_true) (is_none ways.on_false) (none ways.on_true leaves.on_true) (none ways.on_false leaves.on_false)))))

      stated : IsStated types texts fs f false f.body
      stated = subst (IsStated types texts fs f false) (sym body_is) acting.stated

      first_stands : Follows types f (around p form) (with_parameters (length form.parameters)) (first_state (around p form) T)
      first_stands = first_follows (around p form) T is.typed.parameters table types f setting.front is.built.variables is.built.result

      below : IsBelow (first_state (around p form) T)
      below x o = elim o [
        | inl m ↦ follows_below types f (around p form) (with_parameters (length form.parameters)) (first_state (around p form) T) first_stands x m
        | inr m ↦ absurd (subst (Among x) first_stands.pending m)
      ]

      apart : AreApart f (first_state (around p form) T) (written (around p form) T) (looked_of f.body) (given_of f.body)
      apart = subst (λ (t : Tree). AreApart f (first_state (around p form) T) (written (around p form) T) (looked_of t) (given_of t)) (sym body_is) (acting.apart below)

      pub function_proper : IsProperBody (around p form) types texts fs f
      function_proper = record {
        checked =
            and_from (is_statement f.body) _ stated.statement
            (and_from (tests_straight f.body) (is_over (body_flow types f)) stated.tests
            (ap (λ (t : Tree). is_over (flow types f t (Some (entry_known f)))) body_is ∙ over));
        stated = stated;
        apart = apart.apart;
        returns = λ gives.
            subst (λ (r : ℕ). ReturnsKnown types f r f.body (Some (entry_known f))) (sym begun.count)
            (subst (λ (t : Tree). ReturnsKnown types f (length form.parameters) t (Some (entry_known f))) (sym body_is)
            (function_finished.does.returns begins gives (Some (entry_known f)) (entry_knows (around p form) T is.typed.parameters table types f setting.front is.built.variables is.built.result begun.count begun.locals)));
      }
