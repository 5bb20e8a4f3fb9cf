-- What is hidden in a loop over a range: the range and both iterators, which are there before the first turn.
use Rattle.std.proofs.Common.{◌≡◌, ◌<◌, ℕ, Bool, true, List, [], ◌∷◌, length, length-append, Option, Some, None, refl, sym, subst, arith}
use Rattle.life_elab_laws.proofs.ObjectTypes.{is_element}
use Rattle.life_types.specs.Pointees.{ty_of}
use Rattle.life_types.specs.Types.{Types}
use Rattle.life_types.specs.declared.place.Place.{Place}
use Rattle.life_types.specs.declared.ty.Ty.{Ty}
use Rattle.life_types.specs.declared.ty.Ty.TheVariants as ty
use Rattle.life_types.specs.declared.ty.TyId.{TyId}
use Rattle.life_typed.specs.BaseTypes.{type_at}
use Rattle.life_typed.specs.TypedForm.{Form}
use Rattle.life_core.specs.Function.{Function}
use Rattle.life_core.specs.Operands.{Base}
use Rattle.life_core.specs.declared.operand.RangeEnd.TheVariants.{Begin, End}
use Rattle.life_proper.specs.OperandTypes.{same}
use Rattle.life_well_typed.specs.Visible.{Visible}
use Rattle.life_writer.specs.Around.{Around}
use Rattle.life_writer.specs.ExpressionForms.{uses}
use Rattle.life_writer.specs.Uses.{own}
use Rattle.life_writer.specs.Writing.{Gives, State, gives, mapped, ◌>>◌}
use Rattle.life_elab.specs.RangeForms.{Iterators, cursor_at, element_of, hidden_by, hidden_range, iterator_type, opened}
use Rattle.life_elab_laws.proofs.Elements.{element_target, element_there}
use Rattle.life_elab_laws.proofs.EndedTemporaries.{ends_level}
use Rattle.life_elab_laws.proofs.Following.{Follows}
use Rattle.life_elab_laws.proofs.Fronts.{IsFront, front_then}
use Rattle.life_elab_laws.proofs.Gifts.{Gift, both}
use Rattle.life_elab_laws.proofs.Growing.{Begins}
use Rattle.life_elab_laws.proofs.HiddenLocals.{a_hidden, hidden_local}
use Rattle.life_elab_laws.proofs.Making.{IsOpen}
use Rattle.life_elab_laws.proofs.Opens.{Opens, opens_more, opens_part, opens_then}
use Rattle.life_elab_laws.proofs.Parts.{Makes, Part, gives_part, keep_part, seen_part, under_part}
use Rattle.life_elab_laws.proofs.PartsUnder.{ended_part}
use Rattle.life_elab_laws.proofs.RangeBases.{a_hidden_base, base_spared}
use Rattle.life_elab_laws.proofs.RangeOpening.{AreIterators, IsRange, cursor_part, iterators}
use Rattle.life_elab_laws.proofs.Setting.{Setting}
use Rattle.life_elab_laws.proofs.Shaped.{element_further}
use Rattle.life_elab_laws.proofs.Targets.{target_same}
use Rattle.life_elab_laws.proofs.TemporaryEnds.{TemporariesEnd, temporary_ends}
use Rattle.life_elab_laws.proofs.Under.{both_there}
use Rattle.life_elab_laws.proofs.WrittenLocals.{fits_hidden, there_later}
use Rattle.life_elab_laws.proofs.OwnLocals.{first_own}

module _ (a : Around) (types : Types) (texts : ℕ) (fs : List Function) (f : Function) (setting : Setting a types fs f) (v : Visible) where
  -- both iterators are there, and among the locals
  pub record AreOpened (id : TyId) (constant : Bool) (s : State) (w : Gives Iterators) : Type 0 where
    pub opens : Opens types texts fs f (both_there w.given.first w.given.last) a v s w.state
    pub hidden : Begins types f w.state → AreIterators types texts fs f id constant w.given
    pub below : (w.given.first < length w.state.locals) × (w.given.last < length w.state.locals)

  module _ (form : Form) (id : TyId) (constant : Bool) (elements : element_of (uses a form) ≡ Some (id, constant)) (worth : is_element a.program.types (type_at a.program.types id) ≡ true) (colon closing : Place) (s : State) where
    abbrev t : Ty
    t = type_at a.program.types id

    abbrev pub Q : Gift types texts fs f Base
    Q = a_hidden_base types texts fs f t constant

    abbrev I : Gift types texts fs f ℕ
    I = a_hidden types texts fs f (ty.Iterator id constant)

    abbrev pub hid : Gives Base
    hid = hidden_range colon closing (uses a form) s

    later : ty_of types id ≡ t
    later = element_there a.program.types types setting.front id worth

    one_type : same t t ≡ true
    one_type = target_same a.program.types t (element_target a.program.types t worth)

    abbrev one : Gives ℕ
    one = cursor_at colon (ty.Iterator id constant) hid.given Begin hid.state

    abbrev two : Gives ℕ
    two = cursor_at colon (ty.Iterator id constant) hid.given End one.state

    -- by what an element is
    abbrev by_element : Option (TyId × Bool) → Gives Iterators
    by_element x = hid >> λ b s. cursor_at colon (iterator_type x) b Begin s >> λ first s. mapped (λ last. record { first = first; last = last }) (cursor_at colon (iterator_type x) b End s)

    -- ---- behind the hidden range

    module _ (h : Follows types f a v s) (range : Opens types texts fs f (Q.ready hid.given (length hid.state.locals)) a v s hid.state) (told : Begins types f hid.state → Q.typed hid.given) where
      front : IsFront a.program.types.types hid.state.types.types
      front = front_then a.program.types.types s.types.types hid.state.types.types h.stands.table range.adds.table

      opened_there : IsOpen hid.state
      opened_there = range.follows.stands.opened

      fits : (r : State) → IsFront a.program.types.types r.types.types → fits_hidden types r.types (ty.Iterator id constant) ≡ true
      fits r front = there_later a.program.types r.types front (is_element types) refl id (element_further a.program.types types setting.front setting.plain (type_at a.program.types id) worth)

      first : Part types texts fs f Q hid.given None hid.state (gives (hid.given, one.given) one.state) (both types texts fs f Q I)
      first =
          keep_part types texts fs f Q hid.given hid.state (gives hid.given hid.state) one Q I opened_there (gives_part types texts fs f Q hid.given None hid.given hid.state Q (λ b p. p) (λ b k alive q. q))
          (cursor_part types texts fs f id constant t colon hid.given Begin hid.state later one_type (fits hid.state front))

      second : Part types texts fs f Q hid.given None hid.state (gives ((hid.given, one.given), two.given) two.state) (both types texts fs f (both types texts fs f Q I) I)
      second =
          keep_part types texts fs f Q hid.given hid.state (gives (hid.given, one.given) one.state) two (both types texts fs f Q I) I opened_there first
          (under_part types texts fs f Q hid.given (both types texts fs f Q I) (hid.given, one.given) None one.state two I
          (cursor_part types texts fs f id constant t colon hid.given End one.state later one_type (fits one.state (front_then a.program.types.types hid.state.types.types one.state.types.types front first.grown.types)))
          (λ p. p.0) (λ n k p. p.0))

      cursors : Part types texts fs f Q hid.given None hid.state (by_element (Some (id, constant))) (iterators types texts fs f id constant)
      cursors =
          seen_part types texts fs f Q hid.given None hid.state (gives ((hid.given, one.given), two.given) two.state) (both types texts fs f (both types texts fs f Q I) I) (λ (z : (Base × ℕ) × ℕ). record { first = z.0.1; last = z.1 }) (iterators types texts fs f id constant)
          second (λ b p. (p.0.1, p.1)) (λ n k p. (p.0.1, p.1))

      are_opened : AreOpened id constant s (by_element (Some (id, constant)))
      are_opened = record {
        opens =
            opens_more types texts fs f ((iterators types texts fs f id constant).ready (record { first = one.given; last = two.given }) (length two.state.locals)) (both_there one.given two.given) (λ k p. (p.0.1, p.1.1)) a v s two.state
            (opens_then types texts fs f Q hid.given (iterators types texts fs f id constant) a v s hid.state (by_element (Some (id, constant))) range told refl cursors);
        hidden = λ b. (cursors.runs b (told (record { locals = front_then hid.state.locals two.state.locals f.locals cursors.grown.locals b.locals; table = front_then hid.state.types.types two.state.types.types types.types cursors.grown.types b.table }))).typed;
        below =
            let more = length-append hid.state.locals (hidden_local colon (ty.Iterator id constant) hid.state ∷ []) in
            let last = length-append one.state.locals (hidden_local colon (ty.Iterator id constant) one.state ∷ []) in
            (omega (arith, more, last), omega (arith, last));
      }

      pub range_opened : AreOpened id constant s (opened colon closing (uses a form) s)
      range_opened = subst (λ (x : Option (TyId × Bool)). AreOpened id constant s (by_element x)) (sym elements) are_opened

  -- ---- of a range that ends all its temporaries

  can : TemporariesEnd types texts fs f (first_own a)
  can = temporary_ends types texts fs f (first_own a) setting.own

  module _ (form : Form) (id : TyId) (constant : Bool) (is : IsRange a v.visible types texts fs f setting form id constant) (colon closing : Place) (s : State) (h : Follows types f a v s) where
    abbrev w : Gives Base
    w = hidden_by (own (uses a form)) colon (uses a form) s

    base_there : Makes types texts fs f None s (hid form id constant is.elements is.worth colon closing s) (Q form id constant is.elements is.worth colon closing s)
    base_there =
        ended_part types texts fs f (Q form id constant is.elements is.worth colon closing s) s w closing _ h.stands.pends can
        (λ n k j p ready spares. base_spared types texts fs f (type_at a.program.types id) constant w.given n k j p ready spares) (is.hides colon s h.stands)

    pub placed_opened : AreOpened id constant s (opened colon closing (uses a form) s)
    placed_opened =
        range_opened form id constant is.elements is.worth colon closing s h
        (opens_part types texts fs f (Q form id constant is.elements is.worth colon closing s) a v s (hid form id constant is.elements is.worth colon closing s) h
        (ends_level types texts fs f s w.state (is.hides colon s h.stands).grown _ h.stands.pends closing) base_there)
        (λ b. (base_there.runs b tt).typed)
