-- An owner that is given over: it is built as a temporary that nothing looks at, and isn't pending.
use Rattle.std.proofs.Common.{◌≡◌, ◌<◌, ◌≤◌, inl, inr, ℕ, suc, true, false, ◌||◌, not, List, [], ◌∷◌, ◌++◌, Contains, length, slice_get, slice_set, None, Some, refl, sym, ap, ◌∙◌, subst, arith, append_assoc}
use Rattle.std.proofs.lemmas.Bool.{and_from, and_parts, cases_eq}
use Rattle.std.proofs.lemmas.List.{append_cancel_left}
use Rattle.std.proofs.lemmas.Option.{same_Some, slice_get_within}
use Rattle.life_types.specs.TypeTests.{is_pointer}
use Rattle.life_types.specs.Types.{Types}
use Rattle.life_types.specs.declared.place.Place.{Place}
use Rattle.life_types.specs.declared.ty.Ty.{Ty}
use Rattle.life_core.specs.Function.{Function}
use Rattle.life_core.specs.Operands.{Operand, Name, Through, object_named}
use Rattle.life_core.specs.Tree.{Tree, trees}
use Rattle.life_core.specs.declared.program.Local.{Local}
use Rattle.life_proper.specs.Knowing.{known_at}
use Rattle.life_proper.specs.OperandTypes.{is_composed, same}
use Rattle.life_proper.specs.Placed.{is_given, object_at, result_at, slot_at}
use Rattle.life_proper.specs.Placed as placed
use Rattle.life_proper.specs.WellFormed.{can_end}
use Rattle.life_proper.specs.declared.known.Known.{Known}
use Rattle.life_proper.specs.declared.known.Known.TheVariants as known
use Rattle.life_writer.specs.Around.{Around}
use Rattle.life_writer.specs.Characters.{Seen, InRegister, InString, InView}
use Rattle.life_writer.specs.Temporaries.{consumed}
use Rattle.life_writer.specs.Uses.{Remaining}
use Rattle.life_writer.specs.Writing.{Gives, State, gives}
use Rattle.life_elab_laws.proofs.AdmittedTypes.{IsBuilt}
use Rattle.life_elab_laws.proofs.Among.{Among, Ascend, among_contains, among_either, among_left, among_right}
use Rattle.life_elab_laws.proofs.AppendForms.{IsFoundAt}
use Rattle.life_elab_laws.proofs.Emitting.{keeps_set}
use Rattle.life_elab_laws.proofs.ExpressionForms.{Standing}
use Rattle.life_elab_laws.proofs.Falling.{Falls}
use Rattle.life_elab_laws.proofs.Gifts.{Gift, a_given, a_place, both, nothing as no_gift}
use Rattle.life_elab_laws.proofs.GivenApart.{AreApart, IsBelow, Open, given_of, parts_of}
use Rattle.life_elab_laws.proofs.LookedLocals.{looked_of, looked_place, looked_spot}
use Rattle.life_elab_laws.proofs.Growing.{Begins, Grows, begins_before, grows_then}
use Rattle.life_elab_laws.proofs.Handing.{GoesHanding, HandingAlone}
use Rattle.life_elab_laws.proofs.UnseenLocals.{set_itself, set_twice}
use Rattle.life_elab_laws.proofs.Knowledge.{at_set, beside_set, set_length}
use Rattle.life_elab_laws.proofs.MadeForms.{Builds, Found, Making, Steady, act_part, born, born_further, born_part, built, built_part, gift_of, looked_found, of_call, of_copy, of_elements, of_moved, of_target, of_texts, of_view, steady_same, of_content}
use Rattle.life_elab_laws.proofs.Making.{Alive, IsPlace, keeps_then}
use Rattle.life_elab_laws.proofs.HandedTypes.{built_composed}
use Rattle.life_elab_laws.proofs.MoveSteps.{moved_same, moved_there}
use Rattle.life_elab_laws.proofs.Parts.{Goes, Makes, Part, Runs}
use Rattle.life_elab_laws.proofs.PendingTemporaries.{ArePendingIn, IsTemporary, temporary_later}
use Rattle.life_elab_laws.proofs.PlainActs.{IsPlainAct, seen_names}
use Rattle.life_elab_laws.proofs.Setting.{Setting}
use Rattle.life_elab_laws.proofs.TemporaryEnds.{temporary_ends}
use Rattle.life_elab_laws.proofs.Shaping.{lasts_at}
use Rattle.life_elab_laws.proofs.OwnLocals.{first_own}

-- ---- what is found before lies below

named_below : (o : Operand) (n : ℕ) (k : List Known) → IsPlace o n k → (y : ℕ) → Among y (looked_place o) → y < n
named_below (Name l) n k h y (inl e) = let one = head l.local h.local h.uses in omega (arith, e, one, h.below)
  where
    first : List ℕ → ℕ
    first [] = 0
    first (z ∷ zs) = z

    head : (x z : ℕ) → x ∷ [] ≡ z ∷ [] → x ≡ z
    head x z e = ap first e
named_below (Name l) n k h y (inr none) = absurd none
named_below (Through p members) n k h y m = absurd m

module _ (a : Around) (visible : List ℕ) (types : Types) (texts : ℕ) (fs : List Function) (f : Function) (setting : Setting a types fs f) where
  seen_below : (x : Seen) (n : ℕ) (k : List Known) → IsFoundAt types texts fs f x n k → (y : ℕ) → Among y (seen_names x) → y < n
  seen_below (InString place o) n k h y m = named_below o n k h y m
  seen_below (InView l) n k h y m = absurd m
  seen_below (InRegister r) n k h y m = absurd m

  found_below : (m : Making) (x : Found m) (n : ℕ) (k : List Known) → (gift_of a visible types texts fs f setting m).ready x n k → (y : ℕ) → Among y (looked_found m x) → y < n
  found_below of_texts x n k h y m = elim (among_either (seen_names x.0) (seen_names x.1) y m) [ inl one ↦ seen_below x.0 n k h.0 y one | inr other ↦ seen_below x.1 n k h.1 y other ]
  found_below (of_copy t constant) x n k h y m = absurd m
  found_below of_view x n k h y m = absurd m
  found_below of_elements x n k h y m = absurd m
  found_below (of_call ids) x n k h y m = absurd m
  found_below (of_moved x t) z n k h y m = named_below (object_named z) n k h y m
  found_below (of_target target) x n k h y m = absurd m
  found_below (of_content t) x n k h y m = absurd m

-- what an act looks at is there
module _ (a : Around) (visible : List ℕ) (types : Types) (texts : ℕ) (fs : List Function) (f : Function) (setting : Setting a types fs f) where
  pub named_ready : (o : Operand) (n : ℕ) (k : List Known) → IsPlace o n k → (y : ℕ) → Among y (looked_place o) → known_at k y ≡ known.Ready
  named_ready (Name l) n k h y (inl e) = subst (λ (z : ℕ). known_at k z ≡ known.Ready) (sym (sym e ∙ head l.local h.local h.uses)) h.held
    where
      first : List ℕ → ℕ
      first [] = 0
      first (z ∷ zs) = z

      head : (x z : ℕ) → x ∷ [] ≡ z ∷ [] → x ≡ z
      head x z e = ap first e
  named_ready (Name l) n k h y (inr none) = absurd none
  named_ready (Through p members) n k h y m = absurd m

  seen_named : (x : Seen) (n : ℕ) (k : List Known) → IsFoundAt types texts fs f x n k → (y : ℕ) → Among y (seen_names x) → known_at k y ≡ known.Ready
  seen_named (InString place o) n k h y m = named_ready o n k h y m
  seen_named (InView l) n k h y m = absurd m
  seen_named (InRegister r) n k h y m = absurd m

  pub found_named : (m : Making) (x : Found m) (n : ℕ) (k : List Known) → (gift_of a visible types texts fs f setting m).ready x n k → (y : ℕ) → Among y (looked_found m x) → known_at k y ≡ known.Ready
  found_named of_texts x n k h y m = elim (among_either (seen_names x.0) (seen_names x.1) y m) [ inl one ↦ seen_named x.0 n k h.0 y one | inr other ↦ seen_named x.1 n k h.1 y other ]
  found_named (of_copy t constant) x n k h y m = absurd m
  found_named of_view x n k h y m = absurd m
  found_named of_elements x n k h y m = absurd m
  found_named (of_call ids) x n k h y m = absurd m
  found_named (of_moved x t) z n k h y m = named_ready (object_named z) n k h y m
  found_named (of_target target) x n k h y m = absurd m
  found_named (of_content t) x n k h y m = absurd m

-- a temporary has no name
pub temporary_nameless : (low : ℕ) (locals : List Local) (table : List Ty) (x : ℕ) → IsTemporary low locals table x → (y : ℕ) → Among y (x ∷ []) → (l : Local) → slice_get locals y ≡ Some l → l.name ≡ None
temporary_nameless low locals table x is y (inl e) l at =
    sym (ap (λ (q : Local). q.name) (same_Some is.local l (sym is.there ∙ subst (λ (z : ℕ). slice_get locals z ≡ Some l) (sym e) at))) ∙ is.nameless
temporary_nameless low locals table x is y (inr none) l at = absurd none

-- a temporary of a type that owns may be given over
pub temporary_given : (types : Types) (texts : ℕ) (fs : List Function) (f : Function) (t : Ty) (x : ℕ) → object_at types f x ≡ true → placed.type_at types f x ≡ t → is_composed t ≡ true → can_end types texts fs f x ≡ true → is_given types f t x ≡ true
temporary_given types texts fs f t x object typed moves ends =
    let free = and_parts (not (result_at types f x)) (not (slot_at types f x)) (and_parts (object_at types f x || is_pointer (placed.type_at types f x)) _ ends).1 in
    and_from (object_at types f x) _ object
    (and_from (not (result_at types f x)) _ free.0 (and_from (not (slot_at types f x)) (same t (placed.type_at types f x)) free.1 (ap (same t) typed ∙ moved_same t moves)))

ascend_front : (low : ℕ) (xs ys : List ℕ) → Ascend low (xs ++ ys) → Ascend low xs
ascend_front low [] ys h = tt
ascend_front low (x ∷ xs) ys h = (h.0, ascend_front (suc x) xs ys h.1)

-- without the last of them
pending_front : (low : ℕ) (locals : List Local) (table : List Ty) (living xs ys : List ℕ) → ArePendingIn low locals table living (xs ++ ys) → ArePendingIn low locals table living xs
pending_front low locals table living xs ys h = record {
  past = h.past;
  ascend = ascend_front 0 xs ys h.ascend;
  each = λ y m. h.each y (among_left xs ys y m);
  beside = λ y m. h.beside y (among_left xs ys y m);
}

module _ (a : Around) (visible : List ℕ) (types : Types) (texts : ℕ) (fs : List Function) (f : Function) (setting : Setting a types fs f) where
  abbrev Stood : State → Type 0
  Stood s = Standing a visible types texts fs f setting s

  abbrev G : Gift types texts fs f (Unit {0})
  G = no_gift types texts fs f

  module _ (t : Ty) (place : Place) (s : State) (w : Gives Remaining) (owner : IsBuilt a.program.types t) (is : Builds a visible types texts fs f setting t s w) (stands : Stood s) where
    abbrev x : ℕ
    x = length w.state.locals

    -- as a temporary that is pending
    abbrev there : State
    there = built a visible types texts fs f setting t place s w owner is stands

    moves : is_composed t ≡ true
    moves = built_composed a.program.types t owner

    plain : IsPlainAct is.act (looked_found is.making is.found) (Steady a visible types texts fs f setting w.state)
    plain = is.alone refl

    -- where it comes to life, and nothing more is pending
    abbrev begun : State
    begun = record (born a visible types texts fs f setting t place s w owner is stands).state { pending = w.state.pending }

    as_pending : there ≡ record (is.act place (object_named x) begun) { pending = w.state.pending ++ x ∷ [] }
    as_pending = plain.free place (object_named x) begun (w.state.pending ++ x ∷ [])

    pending_is : there.pending ≡ w.state.pending ++ x ∷ []
    pending_is = ap (λ (r : State). r.pending) as_pending

    -- what is given over isn't pending
    abbrev gone : State
    gone = record there { pending = w.state.pending }

    consumed_is : w.given (consumed place t) w.state ≡ gives x gone
    consumed_is =
        is.lives (consumed place t) w.state
        ∙ ap (gives x) (plain.free place (object_named x) begun w.state.pending ∙ sym (ap (λ (r : State). record r { pending = w.state.pending }) as_pending))

    -- ---- what is there

    whole : Makes types texts fs f None s (gives ((is.found, object_named x), tt) there) (both types texts fs f (both types texts fs f (gift_of a visible types texts fs f setting is.making) (a_place types texts fs f t false)) G)
    whole = built_part a visible types texts fs f setting t place s w owner is stands

    -- what was found, and where it comes to life
    abbrev B : Gift types texts fs f (Found is.making × Operand)
    B = both types texts fs f (gift_of a visible types texts fs f setting is.making) (a_place types texts fs f t false)

    born_there : Makes types texts fs f None s (gives (is.found, object_named x) (born a visible types texts fs f setting t place s w owner is stands).state) B
    born_there = born_part a visible types texts fs f setting t place s w owner is stands

    born_later : Grows w.state (born a visible types texts fs f setting t place s w owner is stands).state
    born_later = born_further a visible types texts fs f setting t place s w owner is stands

    acts_there : Part types texts fs f (both types texts fs f (gift_of a visible types texts fs f setting is.making) (a_place types texts fs f t false)) (is.found, object_named x) None (born a visible types texts fs f setting t place s w owner is stands).state (gives tt there) G
    acts_there = act_part a visible types texts fs f setting t place s w owner is stands

    further : Grows w.state there
    further = grows_then w.state (born a visible types texts fs f setting t place s w owner is stands).state there born_later acts_there.grown

    pends_in : (low : ℕ) → ArePendingIn low s.locals s.types.types s.living s.pending → ArePendingIn low there.locals there.types.types there.living (w.state.pending ++ x ∷ [])
    pends_in low p = subst (ArePendingIn low there.locals there.types.types there.living) pending_is (whole.grown.pends low p)

    pends : ArePendingIn (first_own a) there.locals there.types.types there.living (w.state.pending ++ x ∷ [])
    pends = pends_in (first_own a) stands.pends

    temporary : IsTemporary (first_own a) there.locals there.types.types x
    temporary = pends.each x (among_right w.state.pending (x ∷ []) x (inl refl))

    -- the others are older
    older : (y : ℕ) → Among y w.state.pending → y < x
    older y m = let was = (is.hands.grown.pends _ stands.pends).each y m in slice_get_within w.state.locals y was.local was.there

    no_variable : Contains there.living x → ⊥
    no_variable c = pends.beside x (among_right w.state.pending (x ∷ []) x (inl refl)) c

    -- the act looks at nothing but what was found
    act_code : acts_there.code ≡ plain.code place (object_named x) (born a visible types texts fs f setting t place s w owner is stands).state
    act_code =
        append_cancel_left (born a visible types texts fs f setting t place s w owner is stands).state.code acts_there.code (plain.code place (object_named x) (born a visible types texts fs f setting t place s w owner is stands).state)
        (sym acts_there.written ∙ plain.written place (object_named x) (born a visible types texts fs f setting t place s w owner is stands).state)

    abbrev comes : List Tree
    comes = is.comes.code place x

    born_code : born_there.code ≡ is.hands.code ++ comes
    born_code =
        append_cancel_left s.code born_there.code (is.hands.code ++ comes)
        (sym born_there.written ∙ ap (λ (c : List Tree). c ++ comes) is.hands.written ∙ append_assoc s.code is.hands.code comes)

    -- all that is written, in parts
    whole_code : whole.code ≡ (is.hands.code ++ comes) ++ acts_there.code
    whole_code =
        append_cancel_left s.code whole.code ((is.hands.code ++ comes) ++ acts_there.code)
        (sym whole.written ∙ acts_there.written
        ∙ ap (λ (c : List Tree). c ++ acts_there.code) (born_there.written ∙ ap (λ (c : List Tree). s.code ++ c) born_code)
        ∙ append_assoc s.code (is.hands.code ++ comes) acts_there.code)

    -- ---- in the finished function

    module _ (b : Begins types f there) where
      r : Runs types texts fs f G tt None s (gives ((is.found, object_named x), tt) there) (both types texts fs f (both types texts fs f (gift_of a visible types texts fs f setting is.making) (a_place types texts fs f t false)) G) whole.code
      r = whole.runs b tt

      object : object_at types f x ≡ true
      object = (moved_there types texts fs f t x moves r.typed.0.1).object

      ends : can_end types texts fs f x ≡ true
      ends = (and_parts (can_end types texts fs f x) (lasts_at f x) (temporary_ends types texts fs f (first_own a) setting.own x (temporary_later _ there.locals f.locals there.types.types types.types x b.locals b.table temporary))).0

      given : is_given types f t x ≡ true
      given = temporary_given types texts fs f t x object (moved_there types texts fs f t x moves r.typed.0.1).typed moves ends

      -- ---- on a way

      module _ (k : List Known) (alive : Alive f s k) where
        g : Goes types texts fs f None s (gives ((is.found, object_named x), tt) there) (both types texts fs f (both types texts fs f (gift_of a visible types texts fs f setting is.making) (a_place types texts fs f t false)) G) whole.code k
        g = r.goes k alive tt

        found_there : GoesHanding types texts fs f is.over s (gives is.found w.state) (gift_of a visible types texts fs f setting is.making) is.hands.code k
        found_there = (is.hands.runs (begins_before types f w.state there further b) tt).goes k alive tt

        held : known_at g.after x ≡ known.Ready
        held = g.alive.pending x (subst (Among x) (sym pending_is) (among_right w.state.pending (x ∷ []) x (inl refl)))

        -- without it
        abbrev final : List Known
        final = slice_set g.after x known.Blank

        lt : x < length g.after
        lt = omega (arith, g.alive.sized, slice_get_within f.locals x temporary.local (b.locals x temporary.local temporary.there))

        alive_behind : Alive f gone final
        alive_behind = record {
          sized = set_length g.after x known.Blank ∙ g.alive.sized;
          living = λ y c. beside_set g.after x y known.Blank (λ e. no_variable (subst (Contains there.living) (sym e) c)) ∙ g.alive.living y c;
          pending = λ y m.
              beside_set g.after x y known.Blank (λ e. let far = older y m in omega (arith, e, far))
              ∙ g.alive.pending y (subst (Among y) (sym pending_is) (among_left w.state.pending (x ∷ []) y m));
          blank = λ y l at_it lasts out no. elim (cases_eq x y) [
            | inl e ↦ subst (λ (v : ℕ). known_at final v ≡ known.Blank) e (at_set g.after x known.Blank lt)
            | inr ne ↦
                beside_set g.after x y known.Blank ne
                ∙ g.alive.blank y l at_it lasts out (λ m. elim (among_either w.state.pending (x ∷ []) y (subst (Among y) pending_is m)) [ inl old ↦ no old | inr new ↦ elim new [ inl e ↦ ne e | inr none ↦ none ] ])
          ];
        }

        -- what stands behind it stood there
        stood : (y : ℕ) → Open gone y → Open there y
        stood y (inl m) = inl m
        stood y (inr m) = inr (subst (Among y) (sym pending_is) (among_left w.state.pending (x ∷ []) y m))

        stands_no_more : Open gone x → ⊥
        stands_no_more (inl m) = no_variable (among_contains there.living x m)
        stands_no_more (inr m) = let far = older x m in omega (arith, far)

        -- nothing looked at it
        unseen : IsBelow s → Among x (looked_of (trees whole.code)) → ⊥
        unseen below m = elim (among_either (looked_of (trees (is.hands.code ++ comes))) (looked_of (trees acts_there.code)) x (subst (Among x) (parts_of looked_spot (is.hands.code ++ comes) acts_there.code) (subst (λ (c : List Tree). Among x (looked_of (trees c))) whole_code m))) [
          | inl before ↦ elim (among_either (looked_of (trees is.hands.code)) (looked_of (trees comes)) x (subst (Among x) (parts_of looked_spot is.hands.code comes) before)) [
            | inl found ↦ elim ((found_there.apart below).looks x object found) [
              | inl o ↦ let old = below x o in omega (arith, old, is.hands.grown.count)
              | inr new ↦ omega (arith, new.1)
            ]
            | inr lives ↦ subst (Among x) (is.comes.looks place x found_there.after found_there.gives) lives
          ]
          | inr acted ↦
              let far = found_below a visible types texts fs f setting is.making is.found (length w.state.locals) found_there.after found_there.gives x
              (plain.looks place (object_named x) (born a visible types texts fs f setting t place s w owner is stands).state (steady_same a visible types texts fs f setting w.state (born a visible types texts fs f setting t place s w owner is stands).state born_later.variables) x (subst (λ (c : List Tree). Among x (looked_of (trees c))) act_code acted)) in
              omega (arith, far)
        ]

        apart : IsBelow s → AreApart f s gone (looked_of (trees whole.code)) (given_of (trees whole.code) ++ x ∷ [])
        apart below = let one = g.apart below in record {
          count = whole.grown.count;
          below = λ y o. one.below y (stood y o);
          opens = λ y o. one.opens y (stood y o);
          gives = λ y is_object m. elim (among_either (given_of (trees whole.code)) (x ∷ []) y m) [
            | inl old ↦ let h = one.gives y is_object old in (h.0, h.1, λ o. h.2 (stood y o))
            | inr new ↦ elim new [
              | inl e ↦ subst (λ (v : ℕ). (length s.locals ≤ v) × (v < length there.locals) × (Open gone v → ⊥)) e (is.hands.grown.count, slice_get_within there.locals x temporary.local temporary.there, stands_no_more)
              | inr none ↦ absurd none
            ]
          ];
          looks = one.looks;
          apart = λ y is_object l m. elim (among_either (given_of (trees whole.code)) (x ∷ []) y m) [
            | inl before ↦ one.apart y is_object l before
            | inr new ↦ elim new [ inl e ↦ unseen below (subst (λ (v : ℕ). Among v (looked_of (trees whole.code))) (sym e) l) | inr none ↦ none ]
          ];
        }

        goes_over : GoesHanding types texts fs f (x ∷ []) s (gives x gone) (a_given types texts fs f t) whole.code k
        goes_over = record {
          after = final;
          falls = subst (Falls types f whole.code k) (sym (set_twice g.after x known.Blank known.Ready ∙ set_itself g.after x known.Ready held)) g.falls;
          blank = λ y m. elim m [ inl e ↦ subst (λ (v : ℕ). known_at final v ≡ known.Blank) e (at_set g.after x known.Blank lt) | inr none ↦ absurd none ];
          keeps =
              keeps_then f (length s.locals) (length s.locals) None k g.after final (omega arith) g.keeps
              (keeps_set f (length s.locals) None x known.Blank g.after (λ y small none e. omega (arith, e, small, is.hands.grown.count)));
          gives = (slice_get_within there.locals x temporary.local temporary.there, at_set g.after x known.Blank lt);
          alive = alive_behind;
          apart = apart;
          bears = g.bears;
        }

    owner_over : HandingAlone types texts fs f (x ∷ []) s (gives x gone) (a_given types texts fs f t)
    owner_over = record {
      grown = record {
        locals = whole.grown.locals;
        types = whole.grown.types;
        count = whole.grown.count;
        variables = whole.grown.variables;
        living = whole.grown.living;
        pending = is.hands.grown.pending;
        fresh = is.hands.grown.fresh;
        pends = λ low p. pending_front low there.locals there.types.types there.living w.state.pending (x ∷ []) (pends_in low p);
        outside = whole.grown.outside;
      };
      registers = whole.registers;
      ascend = (is.hands.grown.count, tt);
      below = λ y m. elim m [ inl e ↦ subst (λ (v : ℕ). v < length there.locals) e (slice_get_within there.locals x temporary.local temporary.there) | inr none ↦ absurd none ];
      code = whole.code;
      written = whole.written;
      runs = λ b p. record {
        fine = (r b).fine;
        typed = given b;
        objects = λ y m. elim m [ inl e ↦ subst (λ (v : ℕ). object_at types f v ≡ true) e (object b) | inr none ↦ absurd none ];
        nameless = temporary_nameless (first_own a) f.locals types.types x (temporary_later (first_own a) there.locals f.locals there.types.types types.types x b.locals b.table temporary);
        goes = λ k alive q. goes_over b k alive;
      };
    }

    -- .. by whatever builds it
    pub given_handing : let v = w.given (consumed place t) w.state in HandingAlone types texts fs f (v.given ∷ []) s v (a_given types texts fs f t)
    given_handing = subst (λ (v : Gives ℕ). HandingAlone types texts fs f (v.given ∷ []) s v (a_given types texts fs f t)) (sym consumed_is) owner_over
