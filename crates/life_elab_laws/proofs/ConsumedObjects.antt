-- An object comes to life by itself and is filled, to be given over: it is no temporary that is pending, and nothing sees it but what fills it.
use Rattle.std.proofs.Common.{◌≡◌, ◌<◌, ◌≤◌, inl, inr, ℕ, true, false, List, [], ◌∷◌, ◌++◌, length, slice_get, slice_set, None, Some, refl, sym, subst, ◌∙◌, arith, append_assoc, length-append}
use Rattle.std.proofs.lemmas.Bool.{and_parts, or_left}
use Rattle.std.proofs.lemmas.Option.{slice_get_within}
use Rattle.life_types.specs.Types.{Types}
use Rattle.life_types.specs.declared.place.Place.{Place}
use Rattle.life_types.specs.declared.ty.Ty.{Ty}
use Rattle.life_core.specs.Function.{Function}
use Rattle.life_core.specs.Operands.{object_named}
use Rattle.life_core.specs.Step.{Live}
use Rattle.life_core.specs.Tree.{Acts, Tree, trees}
use Rattle.life_core.specs.declared.instr.Form.{Form as LiveForm}
use Rattle.life_core.specs.declared.program.Local.{Local}
use Rattle.life_core.specs.declared.program.LocalKind.TheVariants.{Object}
use Rattle.life_proper.specs.Knowing.{known_at}
use Rattle.life_proper.specs.Placed.{is_given, object_at}
use Rattle.life_proper.specs.Placed as placed
use Rattle.life_proper.specs.WellFormed.{can_end}
use Rattle.life_proper.specs.declared.known.Known.{Known}
use Rattle.life_proper.specs.declared.known.Known.TheVariants as known
use Rattle.life_writer.specs.Around.{Around}
use Rattle.life_writer.specs.Registers.{type_number, typed_with}
use Rattle.life_writer.specs.Temporaries.{consumed, nameless_of}
use Rattle.life_writer.specs.Uses.{Act, lived}
use Rattle.life_writer.specs.Writing.{State, emit, gives}
use Rattle.life_elab_laws.proofs.Among.{Among, among_contains, among_either}
use Rattle.life_elab_laws.proofs.BornLocals.{born_of, born_spot}
use Rattle.life_elab_laws.proofs.ExpressionForms.{Standing}
use Rattle.life_elab_laws.proofs.Falling.{Falls, falls_append, falls_filling}
use Rattle.life_elab_laws.proofs.FilledObjects.{FillsObject, GoesFilling, RunsFilling, with_it}
use Rattle.life_elab_laws.proofs.FormedVariables.{object_place}
use Rattle.life_elab_laws.proofs.Fronts.{front_append, front_itself, last_there}
use Rattle.life_elab_laws.proofs.Gifts.{IsPlaceOf, a_given, nothing as no_gift}
use Rattle.life_elab_laws.proofs.GivenApart.{AreApart, IsBelow, Open, given_of, parts_of}
use Rattle.life_elab_laws.proofs.LookedLocals.{looked_of}
use Rattle.life_elab_laws.proofs.GivenOwners.{temporary_given, temporary_nameless}
use Rattle.life_elab_laws.proofs.Growing.{Begins, Grows, begins_before, grows_then}
use Rattle.life_elab_laws.proofs.HandedTypes.{built_composed}
use Rattle.life_elab_laws.proofs.Handing.{GoesHanding, HandingAlone}
use Rattle.life_elab_laws.proofs.Making.{Alive, Keeps}
use Rattle.life_elab_laws.proofs.OperandsThere.{object_there, type_there}
use Rattle.life_elab_laws.proofs.OrderedTypes.{type_ordered}
use Rattle.life_elab_laws.proofs.OwnLocals.{first_own}
use Rattle.life_elab_laws.proofs.PendingTemporaries.{IsTemporary, pending_later}
use Rattle.life_elab_laws.proofs.Saving.{live_fills}
use Rattle.life_elab_laws.proofs.AdmittedTypes.{IsBuilt}
use Rattle.life_elab_laws.proofs.Setting.{Setting}
use Rattle.life_elab_laws.proofs.Shaped.{built_later}
use Rattle.life_elab_laws.proofs.Shaping.{IsFine, fine_acts, fine_append, lasts_at}
use Rattle.life_elab_laws.proofs.StillThere.{alive_grown}
use Rattle.life_elab_laws.proofs.TemporaryBirths.{no_reference, temporary_plain}
use Rattle.life_elab_laws.proofs.TemporaryEnds.{temporary_ends}
use Rattle.life_elab_laws.proofs.Types.{type_added, types_before}
use Rattle.life_elab_laws.proofs.WrittenLocals.{AddsRegisters, FitsTemporary, built_below, register_pushed, registers_then}

module _ (a : Around) (visible : List ℕ) (types : Types) (texts : ℕ) (fs : List Function) (f : Function) (setting : Setting a types fs f) (t : Ty) (built : IsBuilt a.program.types t) (place : Place) (s : State)
    (stands : Standing a visible types texts fs f setting s) (form : LiveForm) (act : Act) where
  -- its number, and its local
  abbrev x : ℕ
  x = length s.locals

  abbrev l : Local
  l = nameless_of Object place (type_number t (typed_with t s))

  abbrev there : State
  there = ((consumed place t).begins s).state

  -- it has come to life
  abbrev pub begun : State
  begun = emit place (Live x form) there

  abbrev done : State
  done = act place (object_named x) begun

  fits : FitsTemporary types t
  fits = inr (built_later a.program.types types setting.front setting.plain t built)

  pub one_more : x < length begun.locals
  one_more = omega (arith, length-append s.locals (l ∷ []))

  pub begun_grows : Grows s begun
  begun_grows = record {
    locals = front_append s.locals (l ∷ []);
    types = types_before s.types.types t;
    count = omega (arith, one_more);
    variables = refl;
    living = refl;
    pending = front_itself s.pending;
    fresh = λ y m lt. m;
    pends = λ low p. pending_later low s begun (front_append s.locals (l ∷ [])) (types_before s.types.types t) refl refl p;
    outside = refl;
  }

  begun_registers : AddsRegisters types s begun
  begun_registers = (
    register_pushed types begun.types s.locals l (record { nameless = refl; ty = t; typed = type_added s.types.types t; fits = inr (inl (refl, fits)) }),
    type_ordered s.types t (built_below a.program.types s.types stands.table t built),
  )

  abbrev lives : List Tree
  lives = Acts place (Live x form) ∷ []

  module _ (fills : FillsObject types texts fs f x t begun done) where
    further : Grows begun done
    further = fills.grown

    -- ---- in the finished function

    module _ (b : Begins types f done) where
      here : Begins types f begun
      here = begins_before types f begun done further b

      at_it : slice_get f.locals x ≡ Some l
      at_it = here.locals x l (last_there s.locals l)

      object : object_at types f x ≡ true
      object = object_there types f x l at_it refl

      typed : placed.type_at types f x ≡ t
      typed = type_there types f x l t at_it (here.table l.ty.0 t (type_added s.types.types t)) (no_reference types t fits)

      its_place : IsPlaceOf types texts fs f t false (object_named x)
      its_place = object_place types texts fs f x t false object typed

      temporary : IsTemporary (first_own a) f.locals types.types x
      temporary = record {
        beyond = stands.pends.past;
        local = l;
        there = at_it;
        nameless = refl;
        kind = refl;
        ty = t;
        typed = here.table l.ty.0 t (type_added s.types.types t);
        plain = temporary_plain types t fits;
      }

      given : is_given types f t x ≡ true
      given =
          temporary_given types texts fs f t x object typed (built_composed a.program.types t built)
          (and_parts (can_end types texts fs f x) (lasts_at f x) (temporary_ends types texts fs f (first_own a) setting.own x temporary)).0

      r : RunsFilling types texts fs f x t (no_gift types texts fs f) tt begun done fills.code
      r = fills.runs one_more object b its_place tt

      fine : IsFine types texts fs f (lives ++ fills.code)
      fine = fine_append types texts fs f lives fills.code (fine_acts types texts fs f place (Live x form) (record { given = refl; formed = or_left (object_at types f x) _ object })) r.fine

      -- ---- on a way

      module _ (k : List Known) (alive : Alive f s k) where
        older : (y : ℕ) → Among y s.pending → y < x
        older y m = let is = stands.pends.each y m in slice_get_within s.locals y is.local is.there

        blank : known_at k x ≡ known.Blank
        blank = alive.blank x l at_it refl (λ m. let far = stands.opened x (among_contains s.living x m) in omega (arith, far)) (λ m. let far = older x m in omega (arith, far))

        g : GoesFilling types texts fs f x t begun done fills.code k
        g = r.goes k (alive_grown f s begun k refl begun_grows alive) blank tt

        gone : known_at g.after x ≡ known.Blank
        gone = g.keeps.below x one_more tt ∙ blank

        keeps : Keeps f (length s.locals) None k g.after
        keeps = record { sized = g.keeps.sized; below = λ y small beside. g.keeps.below y (omega (arith, small, one_more)) tt }

        falls : Falls types f (lives ++ fills.code) k (slice_set g.after x known.Ready)
        falls =
            falls_append types f lives fills.code k (with_it types texts fs f x t k) (with_it types texts fs f x t g.after) (falls_filling types f place (Live x form) x k (live_fills types f x form k blank)) g.falls

        apart : IsBelow s → AreApart f s done (looked_of (trees (lives ++ fills.code))) (given_of (trees (lives ++ fills.code)) ++ x ∷ [])
        apart under =
            let one = g.apart below in
            record {
              count = omega (arith, one_more, one.count);
              below = one.below;
              opens = λ y o. elim (one.opens y o) [ inl old ↦ inl old | inr new ↦ inr (omega (arith, one_more, new)) ];
              gives = λ y is_object m. elim (among_either (given_of (trees fills.code)) (x ∷ []) y m) [
                | inl old ↦ let h = one.gives y is_object old in (omega (arith, one_more, h.0), h.1, h.2)
                | inr new ↦ elim new [
                  | inl e ↦ subst (λ (v : ℕ). (length s.locals ≤ v) × (v < length done.locals) × (Open done v → ⊥)) e (omega arith, omega (arith, one_more, one.count), not_open)
                  | inr none ↦ absurd none
                ]
              ];
              looks = λ y is_object m. elim (one.looks y is_object m) [ inl old ↦ inl old | inr new ↦ inr (omega (arith, one_more, new.0), new.1) ];
              apart = λ y is_object looked m. elim (among_either (given_of (trees fills.code)) (x ∷ []) y m) [
                | inl before ↦ one.apart y is_object looked before
                | inr new ↦ elim new [ inl e ↦ g.unseen below (subst (λ (v : ℕ). Among v (looked_of (trees fills.code))) (sym e) looked) | inr none ↦ none ]
              ];
            }
          where
            below : IsBelow begun
            below y o = let lt = under y o in omega (arith, lt, one_more)

            not_open : Open done x → ⊥
            not_open o = elim ((g.apart below).opens x o) [ inl old ↦ let lt = under x old in omega (arith, lt) | inr new ↦ omega (arith, new, one_more) ]

        goes : GoesHanding types texts fs f (x ∷ []) s (gives x done) (a_given types texts fs f t) (lives ++ fills.code) k
        goes = record {
          after = g.after;
          falls = falls;
          blank = λ y m. elim m [ inl e ↦ subst (λ (v : ℕ). known_at g.after v ≡ known.Blank) e gone | inr none ↦ absurd none ];
          keeps = keeps;
          gives = (omega (arith, one_more, further.count), gone);
          alive = g.alive;
          apart = apart;
          bears = λ z is_object m. elim (among_either (born_of f (trees lives)) (born_of f (trees fills.code)) z (subst (Among z) (parts_of (born_spot f) lives fills.code) m)) [
            | inl born ↦ elim born [ inl e ↦ inr (omega (arith, e)) | inr none ↦ absurd none ]
            | inr other ↦ elim (g.bears z is_object other) [
              | inl e ↦ inr (omega (arith, e))
              | inr o ↦ elim o [ inl opens ↦ inl opens | inr new ↦ inr (omega (arith, one_more, new)) ]
            ]
          ];
        }

    object_over : HandingAlone types texts fs f (x ∷ []) s (gives x done) (a_given types texts fs f t)
    object_over = record {
      grown = grows_then s begun done begun_grows further;
      registers = registers_then types s begun done further.types begun_registers fills.registers;
      ascend = (omega arith, tt);
      below = λ y m. elim m [ inl e ↦ subst (λ (v : ℕ). v < length done.locals) e (omega (arith, one_more, further.count)) | inr none ↦ absurd none ];
      code = lives ++ fills.code;
      written = fills.written ∙ append_assoc s.code lives fills.code;
      runs = λ b p. record {
        fine = fine b;
        typed = given b;
        objects = λ y m. elim m [ inl e ↦ subst (λ (v : ℕ). object_at types f v ≡ true) e (object b) | inr none ↦ absurd none ];
        nameless = temporary_nameless (first_own a) f.locals types.types x (temporary b);
        goes = λ k alive q. goes b k alive;
      };
    }

    -- .. as what is left to do
    pub consumed_over : let v = lived form act (consumed place t) s in HandingAlone types texts fs f (v.given ∷ []) s v (a_given types texts fs f t)
    consumed_over = object_over
