-- break, continue and return.
use Rattle.std.proofs.Common.{◌≡◌, arith, inl, Bool, true, false, ◌&&◌, ◌||◌, not, is_none, ℕ, List, [], ◌∷◌, ◌++◌, drop, length, reverse, take, Option, Some, None, refl, sym, ap, ◌∙◌, subst, append_assoc}
use Rattle.std.proofs.lemmas.Bool.{and_from, false≢true}
use Rattle.std.proofs.lemmas.Option.{same_Some}
use Rattle.life_types.specs.TypeTests.{is_unique}
use Rattle.life_types.specs.Types.{Types, class_at}
use Rattle.life_types.specs.declared.place.Place.{Place}
use Rattle.life_types.specs.declared.ty.Class.{Class}
use Rattle.life_types.specs.declared.ty.Class.TheVariants as classes
use Rattle.life_types.specs.declared.ty.NameId.{NameId}
use Rattle.life_types.specs.declared.ty.Ty.{Ty}
use Rattle.life_types.specs.declared.ty.Ty.TheVariants as ty
use Rattle.life_types.specs.declared.ty.TyId.{TyId}
use Rattle.life_typed.specs.declared.typed_program.TypedLocal.{TypedLocal}
use Rattle.life_core.specs.Function.{Function}
use Rattle.life_core.specs.Touched.{nothing, result_uses}
use Rattle.life_core.specs.Tree.{Tree, Breaks, Continues, Return, Returns, trees}
use Rattle.life_core.specs.declared.program.Local.{Local}
use Rattle.life_core.specs.declared.program.LocalKind.{LocalKind}
use Rattle.life_proper.specs.declared.known.Known.{Known}
use Rattle.life_proper.specs.declared.known.Known.TheVariants as known
use Rattle.life_proper.specs.Checking.{Flow, before_next, flow, joined}
use Rattle.life_proper.specs.Knowing.{State as Knowing, known_at}
use Rattle.life_proper.specs.ReadyKnown.{are_ready, is_node_ready}
use Rattle.life_proper.specs.ResultsKnown.{IsKnownReady}
use Rattle.life_type_stmt.specs.Returns.{moves_out}
use Rattle.life_proper.proofs.ReadyTests.{uses_ready}
use Rattle.life_well_typed.specs.Visible.{Visible}
use Rattle.life_writer.specs.Around.{Around, result_local}
use Rattle.life_writer.specs.Variables.{end_pending}
use Rattle.life_writer.specs.Writing.{State, Gives, with_code, write}
use Rattle.life_elab.specs.Statements.{left}
use Rattle.life_elab_laws.proofs.Among.{Among, among_drop, reverse_among}
use Rattle.life_elab_laws.proofs.Doing.{Acting, Does, DoesLevel, ended_then, full_adds, full_apart, full_code, full_falls, full_fine, full_follows, full_knows, full_state, full_written}
use Rattle.life_elab_laws.proofs.Ending.{blank_beside, end_knows, end_ready, set_blank}
use Rattle.life_elab_laws.proofs.EndSteps.{IsEnded, ended}
use Rattle.life_elab_laws.proofs.Exits.{Knows, Leaves, MayKnow, MayLeave, leaves_falling, leaves_may, leaves_then, none_leaves}
use Rattle.life_elab_laws.proofs.Falling.{Falls, falling, falls_append, flow_append}
use Rattle.life_elab_laws.proofs.GivingBack.{GivesResult, fine_known, known_append, nowhere_ready}
use Rattle.life_elab_laws.proofs.GivenApart.{codes_apart, same_apart}
use Rattle.life_elab_laws.proofs.Growing.{Begins}
use Rattle.life_elab_laws.proofs.Following.{Follows, IsLiving, IsResultRegister, knows_alive}
use Rattle.life_elab_laws.proofs.Gifts.{Gift}
use Rattle.life_elab_laws.proofs.Held.{one_there}
use Rattle.life_elab_laws.proofs.Leaving.{left_does, left_level, past_fine}
use Rattle.life_elab_laws.proofs.Nowhere.{nowhere_flows}
use Rattle.life_elab_laws.proofs.Parts.{Goes, Makes}
use Rattle.life_elab_laws.proofs.PendingTemporaries.{IsTemporary}
use Rattle.life_elab_laws.proofs.EndedTemporaries.{behind_is, ends_spare}
use Rattle.life_elab_laws.proofs.TemporaryEnds.{TemporariesEnd, temporary_ends}
use Rattle.life_core.specs.Kinds.{is_object}
use Rattle.life_elab_laws.proofs.Setting.{GivesBack, Setting, asked, unasked}
use Rattle.life_elab_laws.proofs.Shaped.{is_passing}
use Rattle.life_elab_laws.proofs.Shaping.{stated_alone, stated_append}
use Rattle.life_elab_laws.proofs.WrittenLocals.{locals_added}
use Rattle.life_elab_laws.proofs.OwnLocals.{first_own}

-- what is given back fits the result: a std::unique_ptr alone is moved out
pub back_given : (t : Ty) (result : TyId) (named : Option TypedLocal) (given : Bool) → is_unique t ≡ false → (moves_out t result named || given) ≡ true → given ≡ true
back_given (ty.Unique target) result named given plain h = absurd (false≢true (sym plain))
back_given _ result named given plain h = h

module _ (a : Around) (types : Types) (texts : ℕ) (fs : List Function) (f : Function) (setting : Setting a types fs f) (v : Visible) (in_loop : Bool) where
  -- ---- where control returns

  -- nothing has to be given back, or it was written
  unasked_ready : (GivesResult a → ⊥) → (k : List Known) → is_node_ready types f k Return ≡ true
  unasked_ready never k = go setting.gives
    where
      go : GivesBack a types f → is_node_ready types f k Return ≡ true
      go (unasked value) = ap (λ (c : Class). are_ready k (record nothing { uses = result_uses c f.parameters })) value
      go (asked count some over) = absurd (never (some, over))

  pub result_ready : (k : List Known) → known_at k (result_local a) ≡ known.Ready → is_node_ready types f k Return ≡ true
  result_ready k there = go setting.gives
    where
      used : (c : Class) → f.parameters ≡ result_local a → are_ready k (record nothing { uses = result_uses c f.parameters }) ≡ true
      used classes.Value count = refl
      used classes.Pointer count = uses_ready k (f.parameters ∷ []) [] (one_there k f.parameters (ap (known_at k) count ∙ there))
      used classes.Owner count = uses_ready k (f.parameters ∷ []) [] (one_there k f.parameters (ap (known_at k) count ∙ there))
      used classes.Aggregate count = uses_ready k (f.parameters ∷ []) [] (one_there k f.parameters (ap (known_at k) count ∙ there))

      go : GivesBack a types f → is_node_ready types f k Return ≡ true
      go (unasked value) = ap (λ (c : Class). are_ready k (record nothing { uses = result_uses c f.parameters })) value
      go (asked count some over) = used (class_at types f.result) count

  return_leaves : (s : State) (keyword : Place) (k : List Known) → is_node_ready types f k Return ≡ true → Leaves f in_loop s.living (take s.outside s.living) (flow types f (trees (Returns keyword ∷ [])) (Some k))
  return_leaves s keyword k ready = record {
    fine = and_from (is_node_ready types f k Return) true ready refl;
    next = tt;
    on_break = none_leaves f in_loop (take s.outside s.living);
    on_continue = none_leaves f in_loop (take s.outside s.living);
    on_true = refl;
    on_false = refl;
  }

  module _ (s : State) (h : Follows types f a v s) where
    pub break_does : in_loop ≡ true → (keyword : Place) → DoesLevel types texts fs f a v in_loop s (left s.outside keyword Breaks s)
    break_does e keyword = record {
      does = left_does types texts fs f a setting v in_loop s h s.outside keyword Breaks (record { statement = refl; tests = refl; breaks = e; given = refl; formed = refl })
          (λ k knows. record {
            fine = refl;
            next = tt;
            on_break = subst (λ (b : Bool). MayLeave f b (take s.outside s.living) (Some k)) (sym e) knows;
            on_continue = none_leaves f in_loop (take s.outside s.living);
            on_true = refl;
            on_false = refl;
          })
          (same_apart f s s refl refl refl)
          (λ gives o. (tt, tt));
      level = left_level types texts fs f s s.outside keyword Breaks;
    }

    pub continue_does : in_loop ≡ true → (keyword : Place) → DoesLevel types texts fs f a v in_loop s (left s.outside keyword Continues s)
    continue_does e keyword = record {
      does = left_does types texts fs f a setting v in_loop s h s.outside keyword Continues (record { statement = refl; tests = refl; breaks = e; given = refl; formed = refl })
          (λ k knows. record {
            fine = refl;
            next = tt;
            on_break = none_leaves f in_loop (take s.outside s.living);
            on_continue = subst (λ (b : Bool). MayLeave f b (take s.outside s.living) (Some k)) (sym e) knows;
            on_true = refl;
            on_false = refl;
          })
          (same_apart f s s refl refl refl)
          (λ gives o. (tt, tt));
      level = left_level types texts fs f s s.outside keyword Continues;
    }

    -- control returns where nothing has to be given back
    pub return_does : (GivesResult a → ⊥) → (keyword : Place) → DoesLevel types texts fs f a v in_loop s (left 0 keyword (Returns keyword) s)
    return_does never keyword = record {
      does = left_does types texts fs f a setting v in_loop s h 0 keyword (Returns keyword) (record { statement = refl; tests = refl; breaks = refl; given = refl; formed = refl }) (λ k knows. return_leaves s keyword k (unasked_ready never k)) (same_apart f s s refl refl refl) (λ gives o. absurd (never gives));
      level = left_level types texts fs f s 0 keyword (Returns keyword);
    }

    -- .. and behind what is given back, in the register of the result
    module _ (register : IsResultRegister a s) (keyword token : Place) {A : Type 0} (w : Gives A) (Q : Gift types texts fs f A) (made : Makes types texts fs f (Some (result_local a)) s w Q)
        (lands : (n : ℕ) (k : List Known) → Q.ready w.given n k → known_at k (result_local a) ≡ known.Ready) where
      can : TemporariesEnd types texts fs f (first_own a)
      can = temporary_ends types texts fs f (first_own a) setting.own

      abbrev into : Option ℕ
      into = Some (result_local a)

      -- where its temporaries have ended
      abbrev r_state : State
      r_state = full_state types texts fs f a v in_loop into s w Q h can token made

      abbrev all_code : List Tree
      all_code = full_code types texts fs f a v in_loop into s w Q h can token made

      later : Follows types f a v r_state
      later = full_follows types texts fs f a v in_loop into s w Q h can token made

      -- the register of the result is none of them
      no_temporary : Begins types f w.state → (low : ℕ) → IsTemporary low f.locals types.types (result_local a) → ⊥
      no_temporary b low is =
          let same : is.local ≡ register.local = same_Some is.local register.local (sym is.there ∙ b.locals (result_local a) register.local (made.grown.locals (result_local a) register.local register.there)) in
          false≢true (sym (ap (λ (l : Local). is_object l.kind) same ∙ ap is_object register.kind) ∙ ap is_object is.kind)

      abbrev ending : List ℕ
      ending = reverse (drop 0 w.state.living)

      -- its register is passing, so it stays where all that lives ends
      not_ending : Among (result_local a) ending → ⊥
      not_ending m = false≢true (sym is.lasts ∙ ap (λ (l : Local). is_passing l) same ∙ passing)
        where
          is : IsLiving (first_own a) r_state (result_local a)
          is = later.living (result_local a) (among_drop 0 w.state.living (result_local a) (reverse_among (drop 0 w.state.living) (result_local a) m))

          same : is.local ≡ register.local
          same = same_Some is.local register.local (sym is.there ∙ made.grown.locals (result_local a) register.local register.there)

          passing : is_passing register.local ≡ true
          passing = ap (λ (o : Option NameId). is_none o && not (is_object register.local.kind)) register.nameless ∙ ap (λ (k : LocalKind). not (is_object k)) register.kind

      module _ (d : IsEnded types texts fs f ending keyword r_state) where
        abbrev back : List Tree
        back = d.code ++ Returns keyword ∷ []

        abbrev behind : State
        behind = write (Returns keyword) (with_code (r_state.code ++ d.code) r_state)

        -- ---- one way to where control returns

        module _ (b : Begins types f w.state) (k : List Known) (alive : Knows f s.living k) where
          g : Goes types texts fs f into s w Q made.code k
          g = (made.runs b tt).goes k (knows_alive types f a v s h k alive) tt

          abbrev middle : List Known
          middle = ended_then types texts fs f a v in_loop into s w Q h can token made g.after

          abbrev last : List Known
          last = set_blank ending middle

          falls_there : Falls types f (all_code ++ d.code) k last
          falls_there =
              falls_append types f all_code d.code k middle last (full_falls types texts fs f a v in_loop into s w Q h can token made k g)
              (d.falls middle (end_ready f w.state.living 0 0 later.ascend middle (full_knows types texts fs f a v in_loop into s w Q h can token made k g)))

          knows_there : Knows f (take 0 w.state.living) last
          knows_there = end_knows f w.state.living 0 0 later.ascend middle (full_knows types texts fs f a v in_loop into s w Q h can token made k g)

          written_there : known_at last (result_local a) ≡ known.Ready
          written_there =
              blank_beside ending middle (result_local a) not_ending
              ∙ ends_spare types texts fs f s w.state made.grown _ h.stands.pends token b g.after (result_local a) (no_temporary b)
              ∙ lands (length w.state.locals) g.after g.gives

          leaves_there : Leaves f in_loop w.state.living (take s.outside s.living) (flow types f (trees (all_code ++ back)) (Some k))
          leaves_there =
              subst (Leaves f in_loop w.state.living (take s.outside s.living))
              (sym (ap (λ (c : List Tree). flow types f (trees c) (Some k)) (sym (append_assoc all_code d.code (Returns keyword ∷ [])))
              ∙ flow_append types f (all_code ++ d.code) (Returns keyword ∷ []) (Some k)
              ∙ ap (λ (x : Flow). joined (before_next x) (flow types f (trees (Returns keyword ∷ [])) x.next)) falls_there))
              (leaves_then f in_loop (take 0 w.state.living) w.state.living (take s.outside s.living) (falling last) (flow types f (trees (Returns keyword ∷ [])) (Some last))
              (leaves_falling f in_loop (take 0 w.state.living) (take s.outside s.living) last knows_there) (returned_there (result_ready last written_there)))
            where
              returned_there : is_node_ready types f last Return ≡ true → Leaves f in_loop w.state.living (take s.outside s.living) (flow types f (trees (Returns keyword ∷ [])) (Some last))
              returned_there ready = record {
                fine = and_from (is_node_ready types f last Return) true ready refl;
                next = tt;
                on_break = none_leaves f in_loop (take s.outside s.living);
                on_continue = none_leaves f in_loop (take s.outside s.living);
                on_true = refl;
                on_false = refl;
              }

        -- what is known where control returns
        known_there : Begins types f w.state → (o : Knowing) → MayKnow f s.living o → IsKnownReady (result_local a) (flow types f (trees d.code) (flow types f (trees all_code) o).next).next
        known_there b None known =
            nowhere_ready (result_local a) (flow types f (trees d.code) (flow types f (trees all_code) None).next).next
            (nowhere_flows types f (trees d.code) (flow types f (trees all_code) None).next (nowhere_flows types f (trees all_code) None refl).next).next
        known_there b (Some k) known =
            subst (λ (q : Flow). IsKnownReady (result_local a) (flow types f (trees d.code) q.next).next) (sym (full_falls types texts fs f a v in_loop into s w Q h can token made k (g b k known)))
            (subst (λ (q : Flow). IsKnownReady (result_local a) q.next) (sym (d.falls (middle b k known) (end_ready f w.state.living 0 0 later.ascend (middle b k known) (full_knows types texts fs f a v in_loop into s w Q h can token made k (g b k known)))))
            (written_there b k known))

        returned_from : Does types texts fs f a v in_loop s behind
        returned_from = record {
          adds = full_adds types texts fs f a v in_loop into s w Q h can token made;
          locals = locals_added types a s w.state made.grown.types made.registers;
          order = made.registers.1;
          follows = later;
          code = all_code ++ back;
          written =
              ap (λ (c : List Tree). (c ++ d.code) ++ Returns keyword ∷ []) (full_written types texts fs f a v in_loop into s w Q h can token made)
              ∙ append_assoc (s.code ++ all_code) d.code (Returns keyword ∷ [])
              ∙ append_assoc s.code all_code back;
          acts = acting;
          returns = λ b gives o known.
              let between : Knowing = (flow types f (trees all_code) o).next in
              known_append types f (result_local a) all_code back o (fine_known types f (result_local a) texts fs all_code (full_fine types texts fs f a v in_loop into s w Q h can token made b) o)
              (known_append types f (result_local a) d.code (Returns keyword ∷ []) between (fine_known types f (result_local a) texts fs d.code (past_fine types texts fs f a setting v r_state later b 0 keyword d) between)
              (known_there b o known, tt));
        }
          where
            acting : Begins types f w.state → Acting types texts fs f in_loop s behind (all_code ++ back)
            acting b = record {
              stated =
                  stated_append types texts fs f in_loop all_code back ((full_fine types texts fs f a v in_loop into s w Q h can token made b).stated in_loop)
                  (stated_append types texts fs f in_loop d.code (Returns keyword ∷ []) ((past_fine types texts fs f a setting v r_state later b 0 keyword d).stated in_loop)
                  (stated_alone types texts fs f in_loop (Returns keyword) (record { statement = refl; tests = refl; breaks = refl; given = refl; formed = refl })));
              ways = leaves_may types f in_loop s.living w.state.living (take s.outside s.living) (trees (all_code ++ back)) (λ k known. leaves_there b k known);
              apart =
                  codes_apart f s r_state behind all_code back (full_apart types texts fs f a v in_loop into s w Q h can token made b)
                  (codes_apart f r_state r_state behind d.code (Returns keyword ∷ []) (d.apart r_state r_state (omega arith) (λ x o. inl o)) (same_apart f r_state behind refl refl refl));
            }

      result_left : DoesLevel types texts fs f a v in_loop s (left 0 keyword (Returns keyword) r_state)
      result_left =
          let d = ended types texts fs f ending keyword r_state in
          record {
            does = subst (λ (q : State). Does types texts fs f a v in_loop s (write (Returns keyword) q)) (sym d.written) (returned_from d);
            level = left_level types texts fs f r_state 0 keyword (Returns keyword) ∙ made.grown.living;
          }

      pub result_returned : (x : State) → x ≡ w.state → DoesLevel types texts fs f a v in_loop s (left 0 keyword (Returns keyword) (end_pending (length s.pending) token x))
      result_returned x same =
          subst (λ (x : State). DoesLevel types texts fs f a v in_loop s (left 0 keyword (Returns keyword) (end_pending (length s.pending) token x))) (sym same)
          (subst (λ (x : State). DoesLevel types texts fs f a v in_loop s (left 0 keyword (Returns keyword) x)) (sym (behind_is types texts fs f s w.state made.grown _ h.stands.pends token)) result_left)
