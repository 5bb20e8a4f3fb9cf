-- What is written for a well typed statement is ready and well formed: by recursion over statements.
use Rattle.std.specs.Prelude.{pos}
use Rattle.std.proofs.Common.{◌≡◌, ℕ, Bool, true, false, ◌&&◌, List, [], ◌∷◌, drop, length, nat_lt, reverse, slice_get, Option, Some, None, refl}
use Rattle.std.proofs.lemmas.Bool.{and_from, and_parts, false≢true, or_left}
use Rattle.life_elab_laws.proofs.FormKinds.{is_read_condition, is_read_condition_if}
use Rattle.life_elab_laws.proofs.StatementKinds.{is_read_range, is_read_start, is_read_statement, is_read_step}
use Rattle.life_elab_laws.proofs.TypeKinds.{takes_elements}
use Rattle.life_types.specs.Types.{Types}
use Rattle.life_types.specs.declared.place.Place.{Place}
use Rattle.life_types.specs.declared.ty.Ty.TheVariants as ty
use Rattle.life_typed.specs.Conversions.{is_const_place}
use Rattle.life_typed.specs.Statements.{range_element}
use Rattle.life_typed.specs.TypedForm.{Typed, whole as whole_form}
use Rattle.life_typed.specs.TypedStatement.{StmtForm, ForStartForm, SimpleForm, declared_first, done_first, block, empty, sentence, branching, while_loop, for_loop, range_loop, loop_break, loop_continue, returned, print, assertion, branch, declaration, no_more, chain}
use Rattle.life_core.specs.Function.{Function}
use Rattle.life_core.specs.Tree.{Tree, Choice, Returns, trees}
use Rattle.life_well_typed.specs.Statements.{AreBranches, Decides, DecidesIfAny, IsSimpleIfAny, IsStart, IsStatement, is_one}
use Rattle.life_well_typed.specs.Visible.{Visible, after, after_start, behind, with_next}
use Rattle.life_writer.specs.Around.{Around, end_line}
use Rattle.life_writer.specs.Behind.{ending}
use Rattle.life_writer.specs.ExpressionForms.{uses}
use Rattle.life_writer.specs.Using.{condition}
use Rattle.life_writer.specs.Registers.{computed, constant}
use Rattle.life_writer.specs.Variables.{end_past}
use Rattle.life_writer.specs.Writing.{State, Gives, with_code}
use Rattle.life_elab.specs.DeclarationForms.{declared}
use Rattle.life_typed.specs.Ends.{all_end, ends, last_ends}
use Rattle.life_elab.specs.LastTokens.{last_token}
use Rattle.life_elab.specs.SimpleForms.{simple_if}
use Rattle.life_elab.specs.StatementForms.{branches_of, condition_or_true, result_given, started, statement}
use Rattle.life_elab.specs.Statements.{looped}
use Rattle.life_elab_laws.proofs.Branching.{asserted_does, branched_does, tested_follows}
use Rattle.life_elab_laws.proofs.Conditions.{Tests, level_tests, non_zero_part}
use Rattle.life_elab_laws.proofs.DeclarationWriting.{declaration_does}
use Rattle.life_elab_laws.proofs.Doing.{Does, DoesLevel, does_nothing, does_then}
use Rattle.life_elab_laws.proofs.Expressions.{deciding_expression}
use Rattle.life_elab_laws.proofs.Following.{Follows, HasRegister, register_later, visible_again}
use Rattle.life_elab_laws.proofs.Instructions.{constant_part}
use Rattle.life_elab_laws.proofs.Leaving.{block_does, block_level}
use Rattle.life_elab_laws.proofs.Looping.{looped_under}
use Rattle.life_elab_laws.proofs.GivenResults.{returned_does}
use Rattle.life_elab_laws.proofs.RangeStatements.{range_does}
use Rattle.life_elab_laws.proofs.Returning.{break_does, continue_does}
use Rattle.life_elab_laws.proofs.Setting.{Setting}
use Rattle.life_elab_laws.proofs.SimpleStatements.{items_do, simple_does}
use Rattle.life_elab_laws.proofs.Stopping.{still_stops, stops, stops_end, stops_right}
use Rattle.life_elab_laws.proofs.TemporaryEnds.{temporary_ends}
use Rattle.life_elab_laws.proofs.Under.{level_plain, level_under, nothing_more, nothing_stays, tests_under}
use Rattle.life_elab_laws.proofs.UniqueTests.{deciding_condition}
use Rattle.life_elab_laws.proofs.OwnLocals.{first_own}

module _ (a : Around) (types : Types) (texts : ℕ) (fs : List Function) (f : Function) (setting : Setting a types fs f) (lines : nat_lt (end_line a) texts ≡ true) where
  abbrev IsTyped : StmtForm → Bool → Visible → Type 0
  IsTyped form in_loop v = IsStatement a.program a.function.locals a.function.result form in_loop v

  -- behind it, what is visible is what is declared there, and a statement that declares nothing leaves what lives; control doesn't run
  -- past it where its text ends so
  pub record IsDone (form : StmtForm) (in_loop : Bool) (v : Visible) (s : State) : Type 0 where
    pub does : Does types texts fs f a (after form v) in_loop s (statement a form s)
    pub level : is_one form ≡ true → (statement a form s).living ≡ s.living
    pub over : ends form ≡ true → stops (trees (statement a form s).code) ≡ true
    pub last : (before : Bool) → (before ≡ true → stops (trees s.code) ≡ true) → last_ends form before ≡ true → stops (trees (statement a form s).code) ≡ true

  -- .. and past branches
  pub record DoesOver (x : Visible) (in_loop over : Bool) (s s' : State) : Type 0 where
    pub does : DoesLevel types texts fs f a x in_loop s s'
    pub stopped : over ≡ true → stops (trees s'.code) ≡ true

  pub level_of : (form : StmtForm) (in_loop : Bool) (v : Visible) (s : State) → IsDone form in_loop v s → is_one form ≡ true → DoesLevel types texts fs f a (after form v) in_loop s (statement a form s)
  level_of form in_loop v s h one = record { does = h.does; level = h.level one }

  -- a single statement
  done_alone : (form : StmtForm) (in_loop : Bool) (v : Visible) (s : State) → DoesLevel types texts fs f a (after form v) in_loop s (statement a form s)
      → (ends form ≡ true → stops (trees (statement a form s).code) ≡ true) → ((before : Bool) → last_ends form before ≡ true → before ≡ true) → IsDone form in_loop v s
  done_alone form in_loop v s h over alone = record {
    does = h.does;
    level = λ one. h.level;
    over = over;
    last = λ before p e. still_stops types texts fs f a (after form v) in_loop s (statement a form s) h.does (p (alone before e));
  }

  runs_on : {X : Type 0} → false ≡ true → X
  runs_on e = absurd (false≢true e)

  -- ---- the parts of loops

  pub decided : (v : Visible) (e : Typed) (behind : Place) (s : State) → is_read_condition texts a.program e ≡ true → Decides a.program a.function.locals a.function.result v.visible e → Follows types f a v s → Tests types texts fs f (Some behind) s (condition (uses a (whole_form e)) (ending behind) s)
  decided v e behind s b h follows = deciding_condition a v.visible types texts fs f setting (whole_form e) (deciding_expression a v.visible types texts fs f setting (whole_form e) b h.1) h.0 (ending behind) s follows.stands

  pub decided_or_true : (v : Visible) (keyword : Place) (e : Option Typed) (behind : Place) (s : State) → is_read_condition_if texts a.program e ≡ true → DecidesIfAny a.program a.function.locals a.function.result v.visible e → Follows types f a v s
      → Tests types texts fs f (Some behind) s (condition_or_true a keyword e behind s)
  decided_or_true v keyword None behind s b h follows =
      level_tests types texts fs f behind s (condition_or_true a keyword None behind s) refl
      (non_zero_part types texts fs f keyword None ty.Bool (computed None ty.Bool keyword (constant (pos 1))) s _ follows.stands.pends (temporary_ends types texts fs f (first_own a) setting.own) (constant_part types texts fs f None ty.Bool keyword (pos 1) (with_code [] s) refl tt))
  decided_or_true v keyword (Some e) behind s b h follows = decided v e behind s b h follows

  pub stepped : (v : Visible) (it : Option SimpleForm) (place : Place) (s : State) → is_read_step texts a.program it ≡ true → IsSimpleIfAny a.program a.function.locals a.function.result v.visible it → Follows types f a v s → DoesLevel types texts fs f a v false s (simple_if a it place s)
  stepped v None place s b h follows = record { does = does_nothing types texts fs f a v false s follows; level = refl }
  stepped v (Some it) place s b h follows = simple_does a types texts fs f setting v false it place s b h follows

  pub begun : (v : Visible) (in_loop : Bool) (start : Option ForStartForm) (place : Place) (s : State) → is_read_start texts a.program a.function.locals start ≡ true → IsStart a.program a.function.locals a.function.result start v → Follows types f a v s
      → Does types texts fs f a (after_start start v) in_loop s (started a start place s)
  begun v in_loop None place s b h follows = does_nothing types texts fs f a v in_loop s follows
  begun v in_loop (Some (declared_first d)) place s b h follows = declaration_does a types texts fs f setting v in_loop d place s follows b h
  begun v in_loop (Some (done_first it)) place s b h follows = (simple_does a types texts fs f setting v in_loop it place s b h follows).does

  -- a loop whose body and step are done
  pub loop_done : {ends : Place} (v u : Visible) (in_loop : Bool) (test : State → Gives Tree) (body step : State → State) (s : State) → Follows types f a v s → HasRegister a s → Tests types texts fs f (Some ends) s (test s)
      → ((s : State) → Follows types f a v s → HasRegister a s → DoesLevel types texts fs f a u true s (body s)) → ((s : State) → Follows types f a (behind v u) s → DoesLevel types texts fs f a (behind v u) false s (step s))
      → DoesLevel types texts fs f a (behind v u) in_loop s (looped test body step s)
  loop_done v u in_loop test body step s follows register h inner last =
      level_plain types texts fs f a (behind v u) in_loop s (looped test body step s)
      (looped_under types texts fs f nothing_more a v u in_loop test body step s (λ b. nothing_stays types f) follows register (tests_under types texts fs f nothing_more s (test s) h)
      (λ t locals table later there. level_under types texts fs f nothing_more a u true t (body t) (inner t later there))
      (λ t locals table later. level_under types texts fs f nothing_more a (behind v u) false t (step t) (last t later)))

  -- ---- any statement

  mutual
    pub statement_does : (form : StmtForm) (in_loop : Bool) (v : Visible) (s : State) → is_read_statement texts a.program a.function.locals form ≡ true → IsTyped form in_loop v → Follows types f a v s → HasRegister a s → IsDone form in_loop v s
    statement_does (block items closing) in_loop v s b h follows register =
        let inner = statement_does items in_loop v s b h follows register in
        let t = statement a items s in
        done_alone (block items closing) in_loop v s
        (record {
          does = block_does types texts fs f a setting v (after items v) in_loop s t follows inner.does closing;
          level = block_level types texts fs f a setting v (after items v) in_loop s t follows inner.does closing;
        })
        (λ e. stops_end (reverse (drop (length s.living) t.living)) closing t (inner.last false (λ n. runs_on n) e))
        (λ before e. e)
    statement_does (empty place) in_loop v s b h follows register =
        done_alone (empty place) in_loop v s (record { does = does_nothing types texts fs f a v in_loop s follows; level = refl }) (λ e. runs_on e) (λ before e. e)
    statement_does (sentence it semicolon) in_loop v s b h follows register =
        done_alone (sentence it semicolon) in_loop v s (simple_does a types texts fs f setting v in_loop it semicolon s b h follows) (λ e. runs_on e) (λ before e. e)
    statement_does (branching branches last) in_loop v s b h follows register =
        let parts = and_parts (is_read_statement texts a.program a.function.locals branches) (is_read_statement texts a.program a.function.locals last) b in
        let all = branches_do branches in_loop v s parts.0 h.0 follows register (statement a last) (after last (after branches v)) (ends last)
        (λ t later there.
        let end = statement_does last in_loop (after branches v) t parts.1 h.2 later there in
        record { does = level_of last in_loop (after branches v) t end h.1; stopped = end.over }) in
        done_alone (branching branches last) in_loop v s all.does all.stopped (λ before e. e)
    statement_does (while_loop keyword decides closing body) in_loop v s b h follows register =
        let parts = and_parts (is_read_condition texts a.program decides) (is_read_statement texts a.program a.function.locals body) b in
        done_alone (while_loop keyword decides closing body) in_loop v s
        (loop_done v (after body v) in_loop (condition (uses a (whole_form decides)) (ending closing)) (statement a body) (λ t. t) s follows register (decided v decides closing s parts.0 h.0 follows)
        (λ t later there. level_of body true v t (statement_does body true v t parts.1 h.2 later there) h.1)
        (λ t later. record { does = does_nothing types texts fs f a (behind v (after body v)) false t later; level = refl }))
        (λ e. runs_on e)
        (λ before e. e)
    statement_does (for_loop keyword start first decides second stepping closing body) in_loop v s b h follows register =
        let one = and_parts (is_read_start texts a.program a.function.locals start) _ b in
        let two = and_parts (is_read_condition_if texts a.program decides) _ one.1 in
        let three = and_parts (is_read_step texts a.program stepping) (is_read_statement texts a.program a.function.locals body) two.1 in
        let v1 = after_start start v in
        let begins = begun v in_loop start first s one.0 h.0 follows in
        let s1 = started a start first s in
        let turns = loop_done v1 (after body v1) in_loop (condition_or_true a keyword decides second) (statement a body) (simple_if a stepping closing) s1 begins.follows
        (register_later a s s1 begins.adds.locals begins.adds.table register)
        (decided_or_true v1 keyword decides second s1 two.0 h.1 begins.follows)
        (λ t later there. level_of body true v1 t (statement_does body true v1 t three.1 h.4 later there) h.3)
        (λ t later. stepped (behind v1 (after body v1)) stepping closing t three.0 h.2 later) in
        let s2 = looped (condition_or_true a keyword decides second) (statement a body) (simple_if a stepping closing) s1 in
        let all = does_then types texts fs f a v1 (behind v1 (after body v1)) in_loop s s1 s2 follows.outside begins turns.does in
        done_alone (for_loop keyword start first decides second stepping closing body) in_loop v s
        (record {
          does = block_does types texts fs f a setting v (behind v1 (after body v1)) in_loop s s2 follows all (last_token body closing);
          level = block_level types texts fs f a setting v (behind v1 (after body v1)) in_loop s s2 follows all (last_token body closing);
        })
        (λ e. runs_on e)
        (λ before e. e)
    statement_does (range_loop keyword x name colon range closing body) in_loop v s b h follows register =
        let one = and_parts (is_read_range texts a.program range) _ b in
        let two = and_parts (takes_elements a.program.types (slice_get a.function.locals x) (range_element range.ty (is_const_place range.category))) (is_read_statement texts a.program a.function.locals body) one.1 in
        done_alone (range_loop keyword x name colon range closing body) in_loop v s
        (range_does a types texts fs f setting v (after body (with_next v)) in_loop x range colon closing (last_token body closing) (statement a body) s one.0 two.0 h.0 follows register
        (λ t later there. level_of body true (with_next v) t (statement_does body true (with_next v) t two.1 h.2 later there) h.1))
        (λ e. runs_on e)
        (λ before e. e)
    statement_does (loop_break keyword semicolon) in_loop v s b h follows register =
        done_alone (loop_break keyword semicolon) in_loop v s (break_does a types texts fs f setting v in_loop s follows h keyword) (λ e. runs_on e) (λ before e. e)
    statement_does (loop_continue keyword semicolon) in_loop v s b h follows register =
        done_alone (loop_continue keyword semicolon) in_loop v s (continue_does a types texts fs f setting v in_loop s follows h keyword) (λ e. runs_on e) (λ before e. e)
    statement_does (returned keyword value semicolon) in_loop v s b h follows register =
        let t = result_given a value keyword semicolon s in
        done_alone (returned keyword value semicolon) in_loop v s (returned_does a types texts fs f setting v in_loop s follows register keyword value semicolon b h)
        (λ e. stops_right (end_past 0 keyword t).code (Returns keyword ∷ []) refl)
        (λ before e. e)
    statement_does (print items semicolon) in_loop v s b h follows register =
        done_alone (print items semicolon) in_loop v s (items_do a types texts fs f setting v in_loop lines items semicolon s b h follows) (λ e. runs_on e) (λ before e. e)
    statement_does (assertion keyword decides closing semicolon) in_loop v s b h follows register =
        done_alone (assertion keyword decides closing semicolon) in_loop v s
        (asserted_does types texts fs f a v in_loop s (condition (uses a (whole_form decides)) (ending closing) s) follows (decided v decides closing s b h follows) keyword) (λ e. runs_on e) (λ before e. e)
    statement_does (branch keyword decides closing body) in_loop v s b h follows register = absurd h
    statement_does (declaration d semicolon) in_loop v s b h follows register =
        let does = declaration_does a types texts fs f setting v in_loop d semicolon s follows b h in
        record {
          does = does;
          level = λ one. runs_on one;
          over = λ e. runs_on e;
          last = λ before p e. still_stops types texts fs f a (with_next v) in_loop s (declared a d semicolon s) does (p e);
        }
    statement_does no_more in_loop v s b h follows register =
        record { does = does_nothing types texts fs f a v in_loop s follows; level = λ one. refl; over = λ e. runs_on e; last = λ before p e. p e }
    statement_does (chain first others) in_loop v s b h follows register =
        let parts = and_parts (is_read_statement texts a.program a.function.locals first) (is_read_statement texts a.program a.function.locals others) b in
        let t = statement a first s in
        let one = statement_does first in_loop v s parts.0 h.0 follows register in
        let two = statement_does others in_loop (after first v) t parts.1 h.1 one.does.follows (register_later a s t one.does.adds.locals one.does.adds.table register) in
        record {
          does = does_then types texts fs f a (after first v) (after others (after first v)) in_loop s t (statement a others t) follows.outside one.does two.does;
          level = λ e. runs_on e;
          over = λ e. runs_on e;
          last = λ before p e. two.last (ends first) one.over e;
        }

    -- the branches of an `if`, with what is done where no condition holds
    pub branches_do : (branches : StmtForm) (in_loop : Bool) (v : Visible) (s : State) → is_read_statement texts a.program a.function.locals branches ≡ true → AreBranches a.program a.function.locals a.function.result branches in_loop v
        → Follows types f a v s → HasRegister a s → (last : State → State) (x : Visible) (over : Bool)
        → ((t : State) → Follows types f a (after branches v) t → HasRegister a t → DoesOver x in_loop over t (last t)) → DoesOver x in_loop (all_end branches && over) s (branches_of a branches last s)
    branches_do (chain (branch keyword decides closing body) others) in_loop v s b h follows register last x over end =
        let parts = and_parts (is_read_condition texts a.program decides && is_read_statement texts a.program a.function.locals body) (is_read_statement texts a.program a.function.locals others) b in
        let inner = and_parts (is_read_condition texts a.program decides) (is_read_statement texts a.program a.function.locals body) parts.0 in
        let w = condition (uses a (whole_form decides)) (ending closing) s in
        let test = decided v decides closing s inner.0 h.0 follows in
        let ready = tested_follows types texts fs f a v in_loop s w follows test in
        let there = register_later a s (with_code [] w.state) test.grown.locals test.grown.types register in
        let one = statement_does body in_loop v (with_code [] w.state) inner.1 h.2 ready there in
        let first = level_of body in_loop v (with_code [] w.state) one h.1 in
        let t = statement a body (with_code [] w.state) in
        let u = behind v (after body v) in
        let again = visible_again types f a v (after body v) (with_code [] w.state) t ready first.does.adds first.does.follows first.level in
        let rest = branches_do others in_loop u (with_code [] t) parts.1 h.3 again (register_later a (with_code [] w.state) (with_code [] t) first.does.adds.locals first.does.adds.table there) last x over end in
        let r = branches_of a others last (with_code [] t) in
        record {
          does = branched_does types texts fs f a v in_loop s w follows test (after body v) x t r first rest.does;
          stopped = λ e.
              let all = and_parts (ends body && all_end others) over e in
              let both = and_parts (ends body) (all_end others) all.0 in
              stops_right w.state.code (Choice w.given (trees t.code) (trees r.code) ∷ [])
              (or_left (stops (trees t.code) && stops (trees r.code)) false (and_from (stops (trees t.code)) (stops (trees r.code)) (one.over both.0) (rest.stopped (and_from (all_end others) over both.1 all.1))));
        }
    branches_do no_more in_loop v s b h follows register last x over end = end s follows register
    branches_do _ in_loop v s b h follows register last x over end = absurd h
