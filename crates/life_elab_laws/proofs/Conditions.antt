-- Conditions, and values that are decided by them.
use Rattle.std.proofs.Common.{◌≡◌, ◌<◌, inl, inr, ℕ, Bool, true, false, ◌||◌, cond, List, [], ◌∷◌, ◌++◌, length, slice_set, Option, Some, None, refl, sym, ap, ◌∙◌, subst, arith, is_some, slice_get}
use Rattle.std.proofs.lemmas.Bool.{or_left, and_parts, false≢true}
use Rattle.std.proofs.lemmas.Option.{slice_get_within}
use Rattle.std.specs.Prelude.{pos, ℤ}
use Rattle.life_types.specs.TypeTests.{is_pointer, is_raw, is_reference, is_unique, is_value}
use Rattle.life_types.specs.Types.{Types}
use Rattle.life_types.specs.declared.place.Place.{Place}
use Rattle.life_types.specs.declared.ty.Ty.{Ty}
use Rattle.life_core.specs.Function.{Function}
use Rattle.life_core.specs.Operands.{Location}
use Rattle.life_core.specs.Step.{NonZero, NotNull, Test}
use Rattle.life_core.specs.Tree.{Question, Acts, Asks, Both, Choice, Either, Then, Tree, trees}
use Rattle.life_proper.specs.Knowing.{agreed_all, known_at}
use Rattle.life_proper.specs.Placed.{is_number_of, type_in}
use Rattle.life_proper.specs.ReadyKnown.{is_node_ready}
use Rattle.life_proper.specs.WellFormed.{is_well_formed_test}
use Rattle.life_proper.specs.declared.known.Known.{Known}
use Rattle.life_proper.specs.declared.known.Known.TheVariants as known
use Rattle.life_proper.proofs.ReadyTests.{uses_ready}
use Rattle.life_writer.specs.Conditions.{answer, behind_code, branched, by_branch, joined, joined_by, negation, non_zero, not_null, end_tested}
use Rattle.life_writer.specs.Registers.{constant, target}
use Rattle.life_writer.specs.Using.{condition_by}
use Rattle.life_writer.specs.Writing.{Gives, State, taken, with_code}
use Rattle.life_writer.specs.declared.rows.Join.{Join}
use Rattle.life_writer.specs.declared.rows.Join.TheVariants as join
use Rattle.life_elab_laws.proofs.Among.{Among, among_take}
use Rattle.life_elab_laws.proofs.BornLocals.{Bears, bears_then, codes_bear}
use Rattle.life_elab_laws.proofs.Emitting.{IsNameless, Targets, keeps_set, nameless_no_object, targeted}
use Rattle.life_elab_laws.proofs.Falling.{Decides, Falls, decides_asks, decides_behind, decides_both, decides_either, decides_negated, falls_acts, falls_choice, falls_append}
use Rattle.life_elab_laws.proofs.Gifts.{Gift, a_number, a_pointer, nothing, IsAt}
use Rattle.life_elab_laws.proofs.GivenApart.{Apart, alone_apart, codes_apart, none_apart, same_apart, three_apart, trees_apart}
use Rattle.life_elab_laws.proofs.Growing.{Begins, Grows, bare, begins_before, grows_none, grows_then}
use Rattle.life_elab_laws.proofs.Held.{one_there}
use Rattle.life_elab_laws.proofs.Instructions.{IsIntoOf, into_of_later, is_constant, is_into, target_number}
use Rattle.life_elab_laws.proofs.Knowledge.{agreed_length, at_agreed, at_set}
use Rattle.life_elab_laws.proofs.Making.{Alive, IsBeside, Keeps, keeps_then, IsPointer, is_named, lies_by}
use Rattle.life_elab_laws.proofs.OperandsThere.{number_any, type_there}
use Rattle.life_elab_laws.proofs.Parts.{Goes, Makes, Runs}
use Rattle.life_elab_laws.proofs.EndedTemporaries.{behind, behind_grows, behind_is, ending, ending_is, ends_alive, ends_fall, ends_fine, ends_keep, ends_spare, ends_level}
use Rattle.life_elab_laws.proofs.Shaping.{IsFineStep, IsFineTest, fine_acts, fine_asks, fine_behind, fine_both, fine_choice, fine_either, fine_negated, fine_append}
use Rattle.life_elab_laws.proofs.WrittenLocals.{AddsRegisters, registers_then}
use Rattle.life_elab_laws.proofs.StillThere.{alive_agreed, alive_grown, alive_set}
use Rattle.life_elab_laws.proofs.PendingTemporaries.{ArePending, IsTemporary}
use Rattle.life_elab_laws.proofs.TemporaryEnds.{TemporariesEnd}
use Rattle.life_elab_laws.proofs.Ending.{set_blank}
use Rattle.life_core.specs.Kinds.{has_kind, is_object_at, is_register, is_register_at}
use Rattle.life_types.specs.declared.ty.Ty.TheVariants as ty

-- a place where temporaries end
abbrev pub Ends : Option Place → Type 0
Ends None = ⊥
Ends (Some place) = Unit {0}

module _ (types : Types) (texts : ℕ) (fs : List Function) (f : Function) where
  -- ---- what a condition writes

  pub record AskedBare (s s' : State) (t : Tree) (k : List Known) : Type 0 where
    pub on : List Known
    pub off : List Known
    pub decides : Decides types f t k on off
    pub keeps_on : Keeps f (length s.locals) None k on
    pub keeps_off : Keeps f (length s.locals) None k off
    pub alive_on : Alive f s' on
    pub alive_off : Alive f s' off
    -- what it gives over is new, and nothing looks at it
    pub apart : Apart f s s' t
    -- .. and what it brings to life or writes is new, or stood before
    pub bears : Bears f s t

  abbrev pub Asked : State → State → Tree → List Known → Type 0
  Asked s s' t k = AskedBare (bare s) (bare s') t k

  pub record AsksBare (s s' : State) (t : Tree) : Type 0 where
    pub fine : IsFineTest types texts fs f t
    pub goes : (k : List Known) → Alive f s k → Asked s s' t k

  abbrev pub AsksAll : State → State → Tree → Type 0
  AsksAll s s' t = AsksBare (bare s) (bare s') t

  -- what is made for it ends before it is tested, where it says so
  pub record Tests (ends : Option Place) (s : State) (w : Gives Tree) : Type 0 where
    pub grown : Grows s w.state
    pub level : Ends ends → w.state.pending ≡ s.pending
    pub registers : AddsRegisters types s w.state
    pub unwritten : w.state.code ≡ s.code
    pub runs : Begins types f w.state → AsksAll s w.state w.given

  -- what makes no temporaries ends all of them
  pub level_tests : (token : Place) (s : State) (w : Gives Tree) → w.state.pending ≡ s.pending → Tests None s w → Tests (Some token) s w
  level_tests token s w same t = record { grown = t.grown; level = λ ends. same; registers = t.registers; unwritten = t.unwritten; runs = t.runs }

  -- ---- where two ways meet

  pub keeps_agreed : (n : ℕ) (into : Option ℕ) (k j l : List Known) → Keeps f n into k j → Keeps f n into k l → Keeps f n into k (agreed_all j l)
  keeps_agreed n into k j l first second = record {
    sized = agreed_length j l sizes ∙ first.sized;
    below = λ y lt b. at_agreed j l y sizes (first.below y lt b ∙ sym (second.below y lt b)) ∙ first.below y lt b;
  }
    where
      sizes : length j ≡ length l
      sizes = first.sized ∙ sym second.sized

  -- ---- single tests

  -- all that isn't a temporary is known as before
  abbrev pub Spares : (k j : List Known) → Type 0
  Spares k j = (y : ℕ) → ((low : ℕ) → IsTemporary low f.locals types.types y → ⊥) → known_at j y ≡ known_at k y

  -- of what a part gives
  module _ {A : Type 0} (place : Place) (test : A → Test) (s : State) (w : Gives A) (Q : Gift types texts fs f A)
      (ready : (x : A) (n : ℕ) (k j : List Known) → Q.typed x → Q.ready x n k → Spares k j → is_node_ready types f j (Question (test x)) ≡ true)
      (formed : (x : A) → Q.typed x → is_well_formed_test types texts fs f (test x) ≡ true) (made : Makes types texts fs f None (with_code [] s) w Q) where
    -- where nothing ends
    lasting_tests : Tests None s (behind_code place (test w.given) (taken s w.state))
    lasting_tests = record {
      grown = made.grown;
      level = λ never. absurd never;
      registers = made.registers;
      unwritten = refl;
      runs = λ b. subst (λ (c : List Tree). AsksAll s w.state (Then (trees c) (Asks place (test w.given)))) (sym made.written) (all (made.runs b tt));
    }
      where
        all : Runs types texts fs f (nothing types texts fs f) tt None (with_code [] s) w Q made.code → AsksAll s w.state (Then (trees made.code) (Asks place (test w.given)))
        all r = record {
          fine = fine_behind types texts fs f made.code (Asks place (test w.given)) r.fine (fine_asks types texts fs f place (test w.given) (formed w.given r.typed));
          goes = λ k alive. let g = r.goes k alive tt in record {
            on = g.after;
            off = g.after;
            decides = decides_behind types f made.code (Asks place (test w.given)) k g.after g.after g.after g.falls
                (decides_asks types f place (test w.given) g.after (ready w.given (length w.state.locals) g.after g.after r.typed g.gives (λ y none. refl)));
            keeps_on = g.keeps;
            keeps_off = g.keeps;
            alive_on = g.alive;
            alive_off = g.alive;
            apart = trees_apart f s w.state w.state (trees made.code) (Asks place (test w.given)) g.apart (same_apart f w.state w.state refl refl refl);
            bears = bears_then f s w.state (trees made.code) (Asks place (test w.given)) made.grown g.bears (λ x object m. absurd m);
          };
        }

    -- where what was made for it ends
    module _ (low : ℕ) (before : ArePending low s) (can : TemporariesEnd types texts fs f low) (token : Place) where
      abbrev after : State
      after = behind types texts fs f s w.state made.grown low before token

      abbrev end_code : List Tree
      end_code = (ending_is types texts fs f s w.state made.grown low before token).code

      ending_tests : Tests (Some token) s (behind_code place (test w.given) (taken s after))
      ending_tests = record {
        grown = behind_grows types texts fs f s w.state made.grown low before token;
        level = λ told. ends_level types texts fs f s w.state made.grown low before token;
        registers = made.registers;
        unwritten = refl;
        runs = λ b. subst (λ (c : List Tree). AsksAll s after (Then (trees (c ++ end_code)) (Asks place (test w.given)))) (sym made.written) (all b (made.runs b tt));
      }
        where
          all : Begins types f w.state → Runs types texts fs f (nothing types texts fs f) tt None (with_code [] s) w Q made.code → AsksAll s after (Then (trees (made.code ++ end_code)) (Asks place (test w.given)))
          all b r = record {
            fine = fine_behind types texts fs f (made.code ++ end_code) (Asks place (test w.given))
                (fine_append types texts fs f made.code end_code r.fine (ends_fine types texts fs f s w.state made.grown low before token b can))
                (fine_asks types texts fs f place (test w.given) (formed w.given r.typed));
            goes = λ k alive. went k (r.goes k alive tt);
          }
            where
              went : (k : List Known) → (g : Goes types texts fs f None (with_code [] s) w Q made.code k) → Asked s after (Then (trees (made.code ++ end_code)) (Asks place (test w.given))) k
              went k g =
                  let j : List Known = set_blank (ending types texts fs f s w.state made.grown low before token) g.after in
                  let keeps = keeps_then f (length s.locals) (length s.locals) None k g.after j (omega arith) g.keeps (ends_keep types texts fs f s w.state made.grown low before token g.after) in
                  let there = ends_alive types texts fs f s w.state made.grown low before token g.after g.alive in
                  record {
                    on = j;
                    off = j;
                    decides = decides_behind types f (made.code ++ end_code) (Asks place (test w.given)) k j j j
                        (falls_append types f made.code end_code k g.after j g.falls (ends_fall types texts fs f s w.state made.grown low before token g.after g.alive))
                        (decides_asks types f place (test w.given) j (ready w.given (length w.state.locals) g.after j r.typed g.gives (ends_spare types texts fs f s w.state made.grown low before token b g.after)));
                    keeps_on = keeps;
                    keeps_off = keeps;
                    alive_on = there;
                    alive_off = there;
                    apart =
                        trees_apart f s after after (trees (made.code ++ end_code)) (Asks place (test w.given))
                        (codes_apart f s w.state after made.code end_code g.apart
                        ((ending_is types texts fs f s w.state made.grown low before token).apart w.state after (omega arith) (λ x o. elim o [ inl m ↦ inl (inl m) | inr m ↦ inl (inr (among_take (length s.pending) w.state.pending x m)) ])))
                        (same_apart f after after refl refl refl);
                    bears =
                        bears_then f s after (trees (made.code ++ end_code)) (Asks place (test w.given)) (behind_grows types texts fs f s w.state made.grown low before token)
                        (codes_bear f s w.state made.code end_code made.grown g.bears ((ending_is types texts fs f s w.state made.grown low before token).bears w.state)) (λ x object m. absurd m);
                  }

    pub tested_part : (ends : Option Place) → (low : ℕ) → ArePending low s → TemporariesEnd types texts fs f low → Tests ends s (behind_code place (test w.given) (taken s (end_tested (length s.pending) ends w.state)))
    tested_part None low before can = lasting_tests
    tested_part (Some token) low before can =
        subst (λ (r : State). Tests (Some token) s (behind_code place (test w.given) (taken s r))) (sym (behind_is types texts fs f s w.state made.grown low before token)) (ending_tests low before can token)

  -- a number is in a register, and no temporary is a pointer
  number_spared : (t : Ty) (r : ℕ) (k j : List Known) → is_number_of types f t r ≡ true → Spares k j → known_at k r ≡ known.Ready → known_at j r ≡ known.Ready
  number_spared t r k j number spares there = spares r never ∙ there
    where
      never : (low : ℕ) → IsTemporary low f.locals types.types r → ⊥
      never low is = false≢true (sym (ap (has_kind is_register) is.there ∙ ap is_register is.kind) ∙ (and_parts (is_register_at f r) _ number).0)

  pointer_spared : (l : Location) (t : Ty) (n : ℕ) (k j : List Known) → is_raw t ≡ true → IsAt types texts fs f t l → IsPointer l n k → Spares k j → known_at j l.local ≡ known.Ready
  pointer_spared l t n k j raw at h spares = spares l.local (λ low is. never low is l.members refl at.kept) ∙ (ap (known_at k) h.is ∙ h.held)
    where
      no_pointer : (u : Ty) → is_pointer u ≡ false → (is_reference u ≡ false) × (is_raw u ≡ false)
      no_pointer (ty.Reference target constant) plain = absurd (false≢true (sym plain))
      no_pointer (ty.Raw target constant) plain = absurd (false≢true (sym plain))
      no_pointer _ plain = (refl, refl)

      -- a temporary is no pointer, and has no name
      never : (low : ℕ) → (is : IsTemporary low f.locals types.types l.local) → (members : List ℕ) → l.members ≡ members → lies_by members (is_register_at f l.local) (is_named (slice_get f.locals l.local)) ≡ true → ⊥
      never low is [] whole kept =
          let no = no_pointer is.ty is.plain in
          false≢true (sym no.1 ∙ ap is_raw (sym (type_there types f l.local is.local is.ty is.there is.typed no.0)) ∙ ap (λ (members : List ℕ). is_raw (type_in types f (record { local = l.local; members = members }))) (sym whole) ∙ ap is_raw at.typed ∙ raw)
      never low is (m ∷ members) part kept = false≢true (sym (ap is_named is.there ∙ ap is_some is.nameless) ∙ kept)

  pub non_zero_part : (place : Place) (ends : Option Place) (t : Ty) (value : State → Gives ℕ) (s : State) → (low : ℕ) → ArePending low s → TemporariesEnd types texts fs f low
      → Makes types texts fs f None (with_code [] s) (value (with_code [] s)) (a_number types texts fs f t) → Tests ends s (non_zero place ends value s)
  non_zero_part place ends t value s low before can made =
      tested_part place NonZero s (value (with_code [] s)) (a_number types texts fs f t)
      (λ r n k j number h spares. uses_ready j (r ∷ []) [] (one_there j r (number_spared t r k j number spares h.1))) (λ r h. number_any types f t r h) made ends low before can

  pub not_null_part : (place : Place) (ends : Option Place) (t : Ty) (pointer : State → Gives Location) (s : State) → is_raw t ≡ true → (low : ℕ) → ArePending low s → TemporariesEnd types texts fs f low
      → Makes types texts fs f None (with_code [] s) (pointer (with_code [] s)) (a_pointer types texts fs f t) → Tests ends s (not_null place ends pointer s)
  not_null_part place ends t pointer s raw low before can made =
      tested_part place NotNull s (pointer (with_code [] s)) (a_pointer types texts fs f t)
      (λ l n k j at h spares. uses_ready j (l.local ∷ []) [] (one_there j l.local (pointer_spared l t n k j raw at h spares)))
      (λ l h. or_left (is_raw (type_in types f l)) (is_unique (type_in types f l)) (ap is_raw h.typed ∙ raw)) made ends low before can

  -- ---- conditions of others

  pub negation_part : (ends : Option Place) (w : State → Gives Tree) (s : State) → Tests ends s (w s) → Tests ends s (negation w s)
  negation_part ends w s t = record {
    grown = t.grown;
    level = t.level;
    registers = t.registers;
    unwritten = t.unwritten;
    runs = λ b. let r = t.runs b in record {
      fine = fine_negated types texts fs f (w s).given r.fine;
      goes = λ k alive. let g = r.goes k alive in record {
        on = g.off;
        off = g.on;
        decides = decides_negated types f (w s).given k g.on g.off g.decides;
        keeps_on = g.keeps_off;
        keeps_off = g.keeps_on;
        alive_on = g.alive_off;
        alive_off = g.alive_on;
        apart = g.apart;
        bears = g.bears;
      };
    };
  }

  module _ (one other : Place) (left right : State → Gives Tree) (s : State) (first : Tests (Some one) s (left s)) (second : Tests (Some other) (left s).state (right (left s).state)) where
    level_right : (right (left s).state).state.pending ≡ (left s).state.pending
    level_right = second.level tt

    grown : Grows s (right (left s).state).state
    grown = grows_then s (left s).state (right (left s).state).state first.grown second.grown

    registers : AddsRegisters types s (right (left s).state).state
    registers = registers_then types s (left s).state (right (left s).state).state second.grown.types first.registers second.registers

    before : Begins types f (right (left s).state).state → Begins types f (left s).state
    before b = begins_before types f (left s).state (right (left s).state).state second.grown b

    -- what the second keeps
    then_keeps : (k j l : List Known) → Keeps f (length s.locals) None k j → Keeps f (length (left s).state.locals) None j l → Keeps f (length s.locals) None k l
    then_keeps k j l a b = keeps_then f (length s.locals) (length (left s).state.locals) None k j l first.grown.count a b

    both_asked : (k : List Known) → Asked s (left s).state (left s).given k → AsksAll (left s).state (right (left s).state).state (right (left s).state).given → Asked s (right (left s).state).state (Both (left s).given (right (left s).state).given) k
    both_asked k g q =
        let h = q.goes g.on g.alive_on in
        record {
          on = h.on;
          off = agreed_all g.off h.off;
          decides = decides_both types f (left s).given (right (left s).state).given k g.on g.off h.on h.off g.decides h.decides;
          keeps_on = then_keeps k g.on h.on g.keeps_on h.keeps_on;
          keeps_off = keeps_agreed (length s.locals) None k g.off h.off g.keeps_off (then_keeps k g.on h.off g.keeps_on h.keeps_off);
          alive_on = h.alive_on;
          alive_off = alive_agreed f (right (left s).state).state g.off h.off (alive_grown f (left s).state (right (left s).state).state g.off level_right second.grown g.alive_off) h.alive_off;
          apart = trees_apart f s (left s).state (right (left s).state).state (left s).given (right (left s).state).given g.apart h.apart;
          bears = bears_then f s (left s).state (left s).given (right (left s).state).given first.grown g.bears h.bears;
        }

    either_asked : (k : List Known) → Asked s (left s).state (left s).given k → AsksAll (left s).state (right (left s).state).state (right (left s).state).given → Asked s (right (left s).state).state (Either (left s).given (right (left s).state).given) k
    either_asked k g q =
        let h = q.goes g.off g.alive_off in
        record {
          on = agreed_all g.on h.on;
          off = h.off;
          decides = decides_either types f (left s).given (right (left s).state).given k g.on g.off h.on h.off g.decides h.decides;
          keeps_on = keeps_agreed (length s.locals) None k g.on h.on g.keeps_on (then_keeps k g.off h.on g.keeps_off h.keeps_on);
          keeps_off = then_keeps k g.off h.off g.keeps_off h.keeps_off;
          alive_on = alive_agreed f (right (left s).state).state g.on h.on (alive_grown f (left s).state (right (left s).state).state g.on level_right second.grown g.alive_on) h.alive_on;
          alive_off = h.alive_off;
          apart = trees_apart f s (left s).state (right (left s).state).state (left s).given (right (left s).state).given g.apart h.apart;
          bears = bears_then f s (left s).state (left s).given (right (left s).state).given first.grown g.bears h.bears;
        }

    pub both_part : (ends : Option Place) → Tests ends s (joined Both left right s)
    both_part ends = record {
      grown = grown;
      level = λ told. level_right ∙ first.level tt;
      registers = registers;
      unwritten = second.unwritten ∙ first.unwritten;
      runs = λ b. both (first.runs (before b)) (second.runs b);
    }
      where
        both : AsksAll s (left s).state (left s).given → AsksAll (left s).state (right (left s).state).state (right (left s).state).given → AsksAll s (right (left s).state).state (Both (left s).given (right (left s).state).given)
        both r q = record {
          fine = fine_both types texts fs f (left s).given (right (left s).state).given r.fine q.fine;
          goes = λ k alive. both_asked k (r.goes k alive) q;
        }

    pub either_part : (ends : Option Place) → Tests ends s (joined Either left right s)
    either_part ends = record {
      grown = grown;
      level = λ told. level_right ∙ first.level tt;
      registers = registers;
      unwritten = second.unwritten ∙ first.unwritten;
      runs = λ b. either (first.runs (before b)) (second.runs b);
    }
      where
        either : AsksAll s (left s).state (left s).given → AsksAll (left s).state (right (left s).state).state (right (left s).state).given → AsksAll s (right (left s).state).state (Either (left s).given (right (left s).state).given)
        either r q = record {
          fine = fine_either types texts fs f (left s).given (right (left s).state).given r.fine q.fine;
          goes = λ k alive. either_asked k (r.goes k alive) q;
        }

  pub joined_part : (by : Join) (ends : Option Place) (one other : Place) (left right : State → Gives Tree) (s : State) → Tests (Some one) s (left s) → Tests (Some other) (left s).state (right (left s).state) → Tests ends s (joined (joined_by by) left right s)
  joined_part join.Both ends one other left right s first second = both_part one other left right s first second ends
  joined_part join.Either ends one other left right s first second = either_part one other left right s first second ends

  -- ---- an answer in a register

  answered : (place : Place) (n : ℤ) (r : ℕ) (k : List Known) → Falls types f (Acts place (constant n r) ∷ []) k (slice_set k r known.Ready)
  answered place n r k = falls_acts types f place (constant n r) k refl

  answer_fine : (n : ℤ) (t : Ty) (r : ℕ) → is_number_of types f t r ≡ true → IsFineStep types texts fs f (constant n r)
  answer_fine n t r e = (is_constant types texts fs f (nothing types texts fs f) tt t n).fine r e tt

  pub by_branch_part : (ends : Option Place) (into : Option ℕ) (t : Ty) (place : Place) (condition : State → Gives Tree) (s : State) → is_value t ≡ true → IsIntoOf t s into
      → Tests ends s (condition s) → Makes types texts fs f into s (by_branch into t place condition s) (a_number types texts fs f t)
  by_branch_part ends into t place condition s v wanted test =
      made (target place into t (condition s).state) (targeted types f place t (condition s).state into v (is_into t (condition s).state into later)) (target_number types texts fs f place into t (condition s).state v later)
    where
      later : IsIntoOf t (condition s).state into
      later = into_of_later t s (condition s).state into test.grown wanted

      chosen : ℕ → Tree
      chosen r = Choice (condition s).given (answer place (pos 1) r) (answer place (pos 0) r)

      run : (w : Gives ℕ) → Targets types f into (condition s).state w → IsNameless f w.given → is_number_of types f t w.given ≡ true → AsksAll s (condition s).state (condition s).given
          → Runs types texts fs f (nothing types texts fs f) tt into s (branched place (condition s).given w.given w.state) (a_number types texts fs f t) (chosen w.given ∷ [])
      run w target is number asks = record {
        fine = fine_choice types texts fs f (condition s).given (Acts place (constant (pos 1) w.given) ∷ []) (Acts place (constant (pos 0) w.given) ∷ []) asks.fine
            (fine_acts types texts fs f place (constant (pos 1) w.given) (answer_fine (pos 1) t w.given number))
            (fine_acts types texts fs f place (constant (pos 0) w.given) (answer_fine (pos 0) t w.given number));
        typed = number;
        goes = λ k alive p. went k alive (asks.goes k alive);
      }
        where
          beside : (y : ℕ) → y < length s.locals → IsBeside into y → w.given ≡ y → ⊥
          beside y lt b = target.beside y (omega (arith, lt, test.grown.count)) b

          written : (k j : List Known) → Keeps f (length s.locals) None k j → Keeps f (length s.locals) into k (slice_set j w.given known.Ready)
          written k j keeps =
              keeps_then f (length s.locals) (length s.locals) into k j (slice_set j w.given known.Ready) (omega arith) keeps
              (keeps_set f (length s.locals) into w.given known.Ready j beside)

          size : (k j : List Known) → Alive f s k → Keeps f (length s.locals) None k j → w.given < length j
          size k j alive keeps = omega (arith, keeps.sized, alive.sized, slice_get_within f.locals w.given is.local is.there)

          -- an answer is written to the register
          answer_bears : (n : ℤ) → Bears f (condition s).state (answer place n w.given)
          answer_bears n x object m = elim m [ inl e ↦ absurd (false≢true (sym (nameless_no_object f w.given is) ∙ ap (is_object_at f) e ∙ object)) | inr none ↦ absurd none ]

          answers_bear : Bears f s (condition s).given → Bears f s (trees (chosen w.given ∷ []))
          answers_bear asked =
              bears_then f s w.state (chosen w.given) (trees []) (grows_then s (condition s).state w.state test.grown target.grown)
              (bears_then f s (condition s).state (condition s).given (Then (answer place (pos 1) w.given) (answer place (pos 0) w.given)) test.grown asked
              (bears_then f (condition s).state (condition s).state (answer place (pos 1) w.given) (answer place (pos 0) w.given) (grows_none (condition s).state) (answer_bears (pos 1)) (answer_bears (pos 0))))
              (λ x object m. absurd m)

          there : (j : List Known) → Alive f (condition s).state j → Alive f w.state (slice_set j w.given known.Ready)
          there j alive = alive_set f w.state j w.given is (alive_grown f (condition s).state w.state j target.level target.grown alive)

          went : (k : List Known) → Alive f s k → Asked s (condition s).state (condition s).given k → Goes types texts fs f into s (branched place (condition s).given w.given w.state) (a_number types texts fs f t) (chosen w.given ∷ []) k
          went k alive g = record {
            after = agreed_all (slice_set g.on w.given known.Ready) (slice_set g.off w.given known.Ready);
            falls = falls_choice types f (condition s).given (Acts place (constant (pos 1) w.given) ∷ []) (Acts place (constant (pos 0) w.given) ∷ []) k g.on g.off
                (slice_set g.on w.given known.Ready) (slice_set g.off w.given known.Ready) g.decides (answered place (pos 1) w.given g.on) (answered place (pos 0) w.given g.off);
            keeps = keeps_agreed (length s.locals) into k (slice_set g.on w.given known.Ready) (slice_set g.off w.given known.Ready) (written k g.on g.keeps_on) (written k g.off g.keeps_off);
            gives = (
              target.below,
              at_agreed (slice_set g.on w.given known.Ready) (slice_set g.off w.given known.Ready) w.given
                  ((written k g.on g.keeps_on).sized ∙ sym (written k g.off g.keeps_off).sized)
                  (at_set g.on w.given known.Ready (size k g.on alive g.keeps_on) ∙ sym (at_set g.off w.given known.Ready (size k g.off alive g.keeps_off)))
                  ∙ at_set g.on w.given known.Ready (size k g.on alive g.keeps_on),
            );
            alive = alive_agreed f w.state (slice_set g.on w.given known.Ready) (slice_set g.off w.given known.Ready) (there g.on g.alive_on) (there g.off g.alive_off);
            apart =
                alone_apart f s w.state (chosen w.given)
                (three_apart f s (condition s).state w.state w.state (condition s).given (answer place (pos 1) w.given) (answer place (pos 0) w.given) g.apart
                (none_apart f (condition s).state w.state target.grown.count (λ x o. elim o [ inl m ↦ inl (inl (subst (Among x) target.grown.living m)) | inr m ↦ inl (inr (subst (Among x) target.level m)) ]))
                (same_apart f w.state w.state refl refl refl));
            bears = answers_bear g.bears;
          }

      made : (w : Gives ℕ) → Targets types f into (condition s).state w → (Begins types f w.state → is_number_of types f t w.given ≡ true) → Makes types texts fs f into s (branched place (condition s).given w.given w.state) (a_number types texts fs f t)
      made w target number = record {
        grown = grows_then s (condition s).state w.state test.grown target.grown;
        registers = registers_then types s (condition s).state w.state target.grown.types test.registers target.registers;
        code = chosen w.given ∷ [];
        written = ap (λ (c : List Tree). c ++ chosen w.given ∷ []) (target.unwritten ∙ test.unwritten);
        runs = λ b p. run w target (target.there b) (number b) (test.runs (begins_before types f (condition s).state w.state target.grown b));
      }

  -- ---- any condition

  pub condition_part : (decision : Option (State → Gives Tree)) (t : Ty) (place : Place) (ends : Option Place) (pointer : State → Gives Location) (value : State → Gives ℕ) (s : State) → is_unique t ≡ false → (low : ℕ) → ArePending low s → TemporariesEnd types texts fs f low
      → ((w : State → Gives Tree) → decision ≡ Some w → Tests ends s (w s))
      → (decision ≡ None → is_raw t ≡ true → Makes types texts fs f None (with_code [] s) (pointer (with_code [] s)) (a_pointer types texts fs f t))
      → (decision ≡ None → is_raw t ≡ false → Makes types texts fs f None (with_code [] s) (value (with_code [] s)) (a_number types texts fs f t))
      → Tests ends s (condition_by decision t place ends pointer value s)
  condition_part (Some w) t place ends pointer value s plain low before can decided pointed valued = decided w refl
  condition_part None t place ends pointer value s plain low before can decided pointed valued =
      subst (λ (b : Bool). Tests ends s (cond (is_raw t || b) (not_null place ends pointer s) (non_zero place ends value s))) (sym plain) (go (is_raw t) refl)
    where
      go : (b : Bool) → is_raw t ≡ b → Tests ends s (cond (b || false) (not_null place ends pointer s) (non_zero place ends value s))
      go true e = not_null_part place ends t pointer s e low before can (pointed refl e)
      go false e = non_zero_part place ends t value s low before can (valued refl e)
