-- An object is filled that nothing else sees, such as one that is given over or the result: it isn't among what is known to stand, and the code that fills it finds it there all the same.
use Rattle.std.proofs.Common.{◌≡◌, ◌<◌, ◌≤◌, ◌⊎◌, inl, inr, ℕ, true, false, List, [], ◌∷◌, ◌++◌, Contains, length, slice_set, None, refl, sym, ap, ◌∙◌, subst, arith, append-nil, append_assoc}
use Rattle.std.proofs.lemmas.Bool.{cases_eq, cases_lt}
use Rattle.std.proofs.lemmas.List.{append_cancel_left}
use Rattle.std.proofs.lemmas.List.Elements.{Contains-append_left, Contains-push, Contains-push_cases}
use Rattle.life_types.specs.Types.{Types}
use Rattle.life_types.specs.declared.place.Place.{Place}
use Rattle.life_types.specs.declared.ty.Ty.{Ty}
use Rattle.life_core.specs.Function.{Function}
use Rattle.life_core.specs.Kinds.{is_object_at}
use Rattle.life_core.specs.Operands.{object_named}
use Rattle.life_core.specs.Step.{Step}
use Rattle.life_core.specs.Tree.{Acts, Tree, trees}
use Rattle.life_proper.specs.Knowing.{known_at}
use Rattle.life_proper.specs.ReadyKnown.{set_known}
use Rattle.life_proper.specs.declared.known.Known.{Known}
use Rattle.life_proper.specs.declared.known.Known.TheVariants as known
use Rattle.life_writer.specs.Writing.{Gives, State, emit, gives}
use Rattle.life_elab_laws.proofs.Among.{Among, among_contains, among_either, among_left, among_right, ascend_apart, ascend_low, contains_among}
use Rattle.life_elab_laws.proofs.BornLocals.{born_of, born_spot, born_step}
use Rattle.life_elab_laws.proofs.Falling.{Falls, falls_append}
use Rattle.life_elab_laws.proofs.Fronts.{front_length}
use Rattle.life_elab_laws.proofs.Gifts.{Gift, IsPlaceOf, a_place, both, nothing as no_gift}
use Rattle.life_elab_laws.proofs.GivenApart.{Apart, IsBelow, Open, codes_apart, nil_right, parts_of, same_apart}
use Rattle.life_elab_laws.proofs.LookedLocals.{looked_of, looked_spot, looked_step}
use Rattle.life_elab_laws.proofs.Growing.{Begins, Grows, begins_before, grows_none, grows_then}
use Rattle.life_elab_laws.proofs.Handing.{GoesHanding, HandingAlone, RunsHanding, set_both}
use Rattle.life_elab_laws.proofs.Knowledge.{at_set, beside_set, set_length}
use Rattle.life_elab_laws.proofs.Making.{Alive, Keeps, keeps_all, keeps_then}
use Rattle.life_elab_laws.proofs.Parts.{Goes, Makes, Part, Runs}
use Rattle.life_elab_laws.proofs.Shaping.{IsFine, fine_append, fine_none}
use Rattle.life_elab_laws.proofs.UnseenLocals.{set_itself, set_twice}
use Rattle.life_elab_laws.proofs.UnseenWays.{falls_there}
use Rattle.life_elab_laws.proofs.WrittenLocals.{AddsRegisters, registers_none, registers_then}
use Rattle.life_elab_laws.proofs.WrittenMembers.{IsWriting, Stores, StoresOver, over_apart, over_looks}

clash : ◌≡◌ {A = Known} known.Blank known.Ready → ⊥
clash e = cc

module _ (types : Types) (texts : ℕ) (fs : List Function) (f : Function) (x : ℕ) (t : Ty) where
  -- where it is there
  abbrev pub with_it : List Known → List Known
  with_it k = slice_set k x known.Ready

  -- .. as if it were a variable
  abbrev pub shown : State → State
  shown s = record s { living = s.living ++ x ∷ [] }

  -- what comes to life or is written stood before or is new, or it is this
  abbrev BearsBeside : State → Tree → Type 0
  BearsBeside s c = (z : ℕ) → is_object_at f z ≡ true → Among z (born_of f c) → (x ≡ z) ⊎ (Open s z ⊎ (length s.locals ≤ z))

  -- ---- the way through the code that fills it, without it

  pub record GoesFilling (s r : State) (code : List Tree) (k : List Known) : Type 0 where
    pub after : List Known
    pub falls : Falls types f code (with_it k) (with_it after)
    pub keeps : Keeps f (length s.locals) None k after
    pub alive : Alive f r after
    pub apart : Apart f s r (trees code)
    -- nothing looks at it
    pub unseen : IsBelow s → Among x (looked_of (trees code)) → ⊥
    pub bears : BearsBeside s (trees code)

  -- one and then another
  goes_then : (s r z : State) (c d : List Tree) (k : List Known) → Grows s r → (g : GoesFilling s r c k) → GoesFilling r z d g.after → GoesFilling s z (c ++ d) k
  goes_then s r z c d k grown g h = record {
    after = h.after;
    falls = falls_append types f c d (with_it k) (with_it g.after) (with_it h.after) g.falls h.falls;
    keeps = keeps_then f (length s.locals) (length r.locals) None k g.after h.after grown.count g.keeps h.keeps;
    alive = h.alive;
    apart = codes_apart f s r z c d g.apart h.apart;
    unseen = λ below m. elim (among_either (looked_of (trees c)) (looked_of (trees d)) x (subst (Among x) (parts_of looked_spot c d) m)) [
      | inl one ↦ g.unseen below one
      | inr other ↦ h.unseen (g.apart below).below other
    ];
    bears = λ z object m. elim (among_either (born_of f (trees c)) (born_of f (trees d)) z (subst (Among z) (parts_of (born_spot f) c d) m)) [
      | inl one ↦ g.bears z object one
      | inr other ↦ elim (h.bears z object other) [
        | inl same ↦ inl same
        | inr o ↦ elim o [
          | inl opens ↦ elim opens [
            | inl lives ↦ inr (inl (inl (subst (Among z) grown.living lives)))
            | inr pends ↦ elim (cases_lt z (length s.locals)) [ inl lt ↦ inr (inl (inr (grown.fresh z pends lt))) | inr le ↦ inr (inr le) ]
          ]
          | inr new ↦ inr (inr (omega (arith, grown.count, new)))
        ]
      ]
    ];
  }

  -- ---- what stands beside it

  not_open : (s : State) (k : List Known) → Alive f s k → known_at k x ≡ known.Blank → Open s x → ⊥
  not_open s k alive blank (inl m) = clash (sym blank ∙ alive.living x (among_contains s.living x m))
  not_open s k alive blank (inr m) = clash (sym blank ∙ alive.pending x m)

  -- a part that doesn't know it
  beside_goes : {B : Type 0} (s : State) (w : Gives B) (Q : Gift types texts fs f B) (code : List Tree) (k : List Known) → x < length s.locals → is_object_at f x ≡ true → IsFine types texts fs f code → Alive f s k → known_at k x ≡ known.Blank
      → Goes types texts fs f None s w Q code k → GoesFilling s w.state code k
  beside_goes s w Q code k lt object fine alive blank g = record {
    after = g.after;
    falls =
        falls_there types texts fs f code fine (x ∷ []) (ascend_apart 0 (x ∷ []) (omega arith, tt)) k g.after
        (λ y m. elim m [ inl e ↦ subst (λ (v : ℕ). known_at k v ≡ known.Blank) e blank | inr none ↦ absurd none ])
        (λ y m born. elim m [ inl e ↦ unborn (subst (λ (v : ℕ). Among v (born_of f (trees code))) (sym e) born) | inr none ↦ none ]) g.falls;
    keeps = g.keeps;
    alive = g.alive;
    apart = g.apart;
    unseen = λ below m. elim ((g.apart below).looks x object m) [ inl o ↦ not_open s k alive blank o | inr new ↦ omega (arith, lt, new.0) ];
    bears = λ z is_object m. inr (g.bears z is_object m);
  }
    where
      unborn : Among x (born_of f (trees code)) → ⊥
      unborn m = elim (g.bears x object m) [ inl o ↦ not_open s k alive blank o | inr new ↦ omega (arith, lt, new) ]

  -- ---- code that finds it as a variable

  pub shown_alive : (s : State) (k : List Known) → Alive f s k → known_at k x ≡ known.Blank → x < length k → Alive f (shown s) (with_it k)
  shown_alive s k alive blank lt = record {
    sized = set_length k x known.Ready ∙ alive.sized;
    living = λ z c. lived z (Contains-push_cases s.living x z c);
    pending = λ z m. beside_set k x z known.Ready (λ e. not_open s k alive blank (inr (subst (λ (v : ℕ). Among v s.pending) (sym e) m))) ∙ alive.pending z m;
    blank = λ z l at lasts out no.
        beside_set k x z known.Ready (λ e. out (among_right s.living (x ∷ []) z (inl e)))
        ∙ alive.blank z l at lasts (λ m. out (among_left s.living (x ∷ []) z m)) no;
  }
    where
      lived : (z : ℕ) → Contains s.living z ⊎ (x ≡ z) → known_at (with_it k) z ≡ known.Ready
      lived z (inl old) = beside_set k x z known.Ready (λ e. clash (sym blank ∙ alive.living x (subst (Contains s.living) (sym e) old))) ∙ alive.living z old
      lived z (inr e) = subst (λ (v : ℕ). known_at (with_it k) v ≡ known.Ready) e (at_set k x known.Ready lt)

  module _ (s r : State) (code : List Tree) (k : List Known) (alive : Alive f s k) (blank : known_at k x ≡ known.Blank) (lt : x < length s.locals) (there : x < length k) (grown : Grows s r)
      (h : Goes types texts fs f None (shown s) (gives tt (shown r)) (no_gift types texts fs f) code (with_it k)) (seen : (y : ℕ) → Among y (looked_of (trees code)) → known_at k y ≡ known.Ready) where
    held : known_at h.after x ≡ known.Ready
    held = h.alive.living x (subst (λ (xs : List ℕ). Contains (xs ++ x ∷ []) x) (sym grown.living) (Contains-push s.living x))

    in_after : x < length h.after
    in_after = omega (arith, there, set_length k x known.Ready, h.keeps.sized)

    -- without it again
    abbrev after : List Known
    after = slice_set h.after x known.Blank

    kept : Keeps f (length s.locals) None k after
    kept = record {
      sized = set_length h.after x known.Blank ∙ h.keeps.sized ∙ set_length k x known.Ready;
      below = λ y small beside. elim (cases_eq x y) [
        | inl e ↦ subst (λ (v : ℕ). known_at after v ≡ known_at k v) e (at_set h.after x known.Blank in_after ∙ sym blank)
        | inr ne ↦ beside_set h.after x y known.Blank ne ∙ h.keeps.below y small tt ∙ beside_set k x y known.Ready ne
      ];
    }

    -- what stands behind it isn't this
    other : (y : ℕ) → Open r y → x ≡ y → ⊥
    other y (inl m) e = not_open s k alive blank (inl (subst (Among x) grown.living (subst (λ (v : ℕ). Among v r.living) (sym e) m)))
    other y (inr m) e = not_open s k alive blank (inr (grown.fresh x (subst (λ (v : ℕ). Among v r.pending) (sym e) m) lt))

    alive_there : Alive f r after
    alive_there = record {
      sized = set_length h.after x known.Blank ∙ h.alive.sized;
      living = λ y c. beside_set h.after x y known.Blank (λ e. other y (inl (contained y c)) e) ∙ h.alive.living y (Contains-append_left r.living (x ∷ []) y c);
      pending = λ y m. beside_set h.after x y known.Blank (λ e. other y (inr m) e) ∙ h.alive.pending y m;
      blank = λ y l at lasts out no. elim (cases_eq x y) [
        | inl e ↦ subst (λ (v : ℕ). known_at after v ≡ known.Blank) e (at_set h.after x known.Blank in_after)
        | inr ne ↦
            beside_set h.after x y known.Blank ne
            ∙ h.alive.blank y l at lasts (λ m. elim (among_either r.living (x ∷ []) y m) [ inl old ↦ out old | inr new ↦ elim new [ inl e ↦ ne e | inr none ↦ none ] ]) no
      ];
    }
      where
        contained : (y : ℕ) → Contains r.living y → Among y r.living
        contained y c = contains_among r.living y c

    hide : (y : ℕ) → Open (shown s) y → (x ≡ y → ⊥) → Open s y
    hide y (inl m) ne = elim (among_either s.living (x ∷ []) y m) [ inl old ↦ inl old | inr new ↦ elim new [ inl e ↦ absurd (ne e) | inr none ↦ absurd none ] ]
    hide y (inr m) ne = inr m

    unlooked : (y : ℕ) → Among y (looked_of (trees code)) → x ≡ y → ⊥
    unlooked y m e = clash (sym blank ∙ ap (known_at k) e ∙ seen y m)

    apart : Apart f s r (trees code)
    apart under =
        let one = h.apart shown_under in
        record {
          count = one.count;
          below = λ y o. one.below y (show y o);
          opens = λ y o. elim (one.opens y (show y o)) [ inl old ↦ inl (hide y old (other y o)) | inr new ↦ inr new ];
          gives = λ y is_object m. let p = one.gives y is_object m in (p.0, p.1, λ o. p.2 (show y o));
          looks = λ y is_object m. elim (one.looks y is_object m) [ inl old ↦ inl (hide y old (unlooked y m)) | inr new ↦ inr new ];
          apart = one.apart;
        }
      where
        shown_under : IsBelow (shown s)
        shown_under y (inl m) = elim (among_either s.living (x ∷ []) y m) [ inl old ↦ under y (inl old) | inr new ↦ elim new [ inl e ↦ omega (arith, e, lt) | inr none ↦ absurd none ] ]
        shown_under y (inr m) = under y (inr m)

        show : (y : ℕ) → Open r y → Open (shown r) y
        show y (inl m) = inl (among_left r.living (x ∷ []) y m)
        show y (inr m) = inr m

    pub shown_goes : GoesFilling s r code k
    shown_goes = record {
      after = after;
      falls = subst (Falls types f code (with_it k)) (sym (set_twice h.after x known.Blank known.Ready ∙ set_itself h.after x known.Ready held)) h.falls;
      keeps = kept;
      alive = alive_there;
      apart = apart;
      unseen = λ below m. unlooked x m refl;
      bears = λ z is_object m. elim (h.bears z is_object m) [
        | inl o ↦ elim (cases_eq x z) [ inl e ↦ inl e | inr ne ↦ inr (inl (hide z o ne)) ]
        | inr new ↦ inr (inr new)
      ];
    }

  -- ---- code that fills it, behind what gave y

  pub record RunsFilling {A : Type 0} (P : Gift types texts fs f A) (y : A) (s r : State) (code : List Tree) : Type 0 where
    pub fine : IsFine types texts fs f code
    pub goes : (k : List Known) → Alive f s k → known_at k x ≡ known.Blank → P.ready y (length s.locals) k → GoesFilling s r code k

  pub record FillsBehind {A : Type 0} (P : Gift types texts fs f A) (y : A) (s r : State) : Type 0 where
    pub grown : Grows s r
    pub registers : AddsRegisters types s r
    pub code : List Tree
    pub written : r.code ≡ s.code ++ code
    pub runs : x < length s.locals → is_object_at f x ≡ true → Begins types f r → IsPlaceOf types texts fs f t false (object_named x) → P.typed y → RunsFilling P y s r code

  -- .. behind nothing
  abbrev pub FillsObject : State → State → Type 0
  FillsObject s r = FillsBehind (no_gift types texts fs f) tt s r

  fills_none : (s : State) → FillsObject s s
  fills_none s = record {
    grown = grows_none s;
    registers = registers_none types s;
    code = [];
    written = sym (append-nil s.code);
    runs = λ lt object b place p. record {
      fine = fine_none types texts fs f;
      goes = λ k alive blank q. record {
        after = k;
        falls = refl;
        keeps = keeps_all f (length s.locals) None k;
        alive = alive;
        apart = same_apart f s s refl refl refl;
        unseen = λ below m. m;
        bears = λ z is_object m. absurd m;
      };
    };
  }

  fills_then : (s r z : State) → FillsObject s r → FillsObject r z → FillsObject s z
  fills_then s r z first second = record {
    grown = grows_then s r z first.grown second.grown;
    registers = registers_then types s r z second.grown.types first.registers second.registers;
    code = first.code ++ second.code;
    written = second.written ∙ ap (λ (c : List Tree). c ++ second.code) first.written ∙ append_assoc s.code first.code second.code;
    runs = λ lt object b place p.
        let one = first.runs lt object (begins_before types f r z second.grown b) place tt in
        let other = second.runs (omega (arith, lt, first.grown.count)) object b place tt in
        record {
          fine = fine_append types texts fs f first.code second.code one.fine other.fine;
          goes = λ k alive blank q.
              let g = one.goes k alive blank tt in
              goes_then s r z first.code second.code k first.grown g (other.goes g.after g.alive (g.keeps.below x lt tt ∙ blank) tt);
        };
  }

  -- an instruction, behind what is found for it
  module _ {B : Type 0} (s : State) (w : Gives B) (Q : Gift types texts fs f B) (place : Place) (step : Step) (made : Makes types texts fs f None s w Q) (stores : Stores types texts fs f t (object_named x) Q w.given place step) where
    abbrev acts : List Tree
    acts = Acts place step ∷ []

    abbrev done : State
    done = emit place step w.state

    second : Part types texts fs f (both types texts fs f (a_place types texts fs f t false) Q) (object_named x, w.given) None (shown w.state) (gives tt (shown done)) (no_gift types texts fs f)
    second = stores.part (shown w.state)

    second_code : second.code ≡ acts
    second_code = append_cancel_left w.state.code second.code acts (sym second.written)

    module _ (lt : x < length s.locals) (object : is_object_at f x ≡ true) (b : Begins types f done) (at_it : IsPlaceOf types texts fs f t false (object_named x)) where
      one : Runs types texts fs f (no_gift types texts fs f) tt None s w Q made.code
      one = made.runs b tt

      storing : Runs types texts fs f (both types texts fs f (a_place types texts fs f t false) Q) (object_named x, w.given) None (shown w.state) (gives tt (shown done)) (no_gift types texts fs f) second.code
      storing = second.runs b (at_it, one.typed)

      goes : (k : List Known) → Alive f s k → known_at k x ≡ known.Blank → GoesFilling s done (made.code ++ acts) k
      unfolding beside_goes one
      goes k alive blank =
          let g = one.goes k alive tt in
          let first = beside_goes s w Q made.code k lt object one.fine alive blank g in
          let gone : known_at g.after x ≡ known.Blank = g.keeps.below x lt tt ∙ blank in
          let there : x < length g.after = omega (arith, lt, made.grown.count, front_length w.state.locals f.locals b.locals, g.alive.sized) in
          let h =
          storing.goes (with_it g.after) (shown_alive w.state g.after g.alive gone there) (
            record { local = x; uses = refl; below = omega (arith, lt, made.grown.count); held = at_set g.after x known.Ready there },
            stores.kept x (length w.state.locals) g.after gone g.gives,
          ) in
          goes_then s w.state done made.code acts k made.grown first
          (shown_goes w.state done acts g.after g.alive gone (omega (arith, lt, made.grown.count)) there (grows_none w.state)
          (subst (λ (c : List Tree). Goes types texts fs f None (shown w.state) (gives tt (shown done)) (no_gift types texts fs f) c (with_it g.after)) second_code h)
          (λ y m. stores.seen (length w.state.locals) g.after g.gives y (nil_right f (looked_step step) y m)))

    fills_behind : FillsObject s done
    fills_behind = record {
      grown = made.grown;
      registers = made.registers;
      code = made.code ++ acts;
      written = ap (λ (c : List Tree). c ++ acts) made.written ∙ append_assoc s.code made.code acts;
      runs = λ lt object b place p. record {
        fine = fine_append types texts fs f made.code acts (one lt object b place).fine (subst (λ (c : List Tree). IsFine types texts fs f c) second_code (storing lt object b place).fine);
        goes = λ k alive blank q. goes lt object b place k alive blank;
      };
    }

  -- .. that takes what is given over to it
  module _ {B : Type 0} (over : List ℕ) (s : State) (w : Gives B) (Q : Gift types texts fs f B) (place : Place) (step : Step) (hands : HandingAlone types texts fs f over s w Q) (stores : StoresOver types texts fs f t (object_named x) Q w.given over place step) where
    abbrev takes : List Tree
    takes = Acts place step ∷ []

    abbrev taken : State
    taken = emit place step w.state

    module _ (lt : x < length s.locals) (object : is_object_at f x ≡ true) (b : Begins types f taken) (k : List Known) (alive : Alive f s k) (blank : known_at k x ≡ known.Blank)
        (r : RunsHanding types texts fs f (no_gift types texts fs f) tt over s w Q hands.code) (g : GoesHanding types texts fs f over s w Q hands.code k) where
      still : known_at g.after x ≡ known.Blank
      still = g.keeps.below x lt tt ∙ blank

      below_all : x < length g.after
      below_all = omega (arith, lt, hands.grown.count, front_length w.state.locals f.locals b.locals, g.alive.sized)

      -- it is older than what is given over
      aside : Among x over → ⊥
      aside m = let le = ascend_low (length s.locals) over x hands.ascend m in omega (arith, lt, le)

      unborn_there : Among x (born_of f (trees hands.code)) → ⊥
      unborn_there m = elim (g.bears x object m) [ inl o ↦ not_open s k alive blank o | inr new ↦ omega (arith, lt, new) ]

      found : Falls types f hands.code (with_it k) (with_it (set_known known.Ready over g.after))
      found =
          falls_there types texts fs f hands.code r.fine (x ∷ []) (ascend_apart 0 (x ∷ []) (omega arith, tt)) k (set_known known.Ready over g.after)
          (λ y m. elim m [ inl e ↦ subst (λ (v : ℕ). known_at k v ≡ known.Blank) e blank | inr none ↦ absurd none ])
          (λ y m born. elim m [ inl e ↦ unborn_there (subst (λ (v : ℕ). Among v (born_of f (trees hands.code))) (sym e) born) | inr none ↦ none ]) g.falls

      -- where both are there
      both_there : with_it (set_known known.Ready over g.after) ≡ set_known known.Ready over (with_it g.after)
      both_there = set_both known.Ready (x ∷ []) over g.after

      acted : Falls types f takes (set_known known.Ready over (with_it g.after)) (with_it g.after)
      acted =
          stores.falls (length w.state.locals) (with_it g.after) (record { local = x; uses = refl; below = omega (arith, lt, hands.grown.count); held = at_set g.after x known.Ready below_all })
          (stores.kept x (length w.state.locals) g.after still aside g.gives) r.objects
          (λ y m. beside_set g.after x y known.Ready (λ e. aside (subst (λ (v : ℕ). Among v over) (sym e) m)) ∙ g.blank y m)

      goes_over : GoesFilling s taken (hands.code ++ takes) k
      goes_over = record {
        after = g.after;
        falls =
            falls_append types f hands.code takes (with_it k) (with_it (set_known known.Ready over g.after)) (with_it g.after) found
            (subst (λ (j : List Known). Falls types f takes j (with_it g.after)) (sym both_there) acted);
        keeps = g.keeps;
        alive = g.alive;
        apart = λ under. over_apart types texts fs f t (object_named x) over s w Q place step stores hands.code (length w.state.locals) g.after g.gives (g.apart under);
        unseen = λ under m.
            elim ((g.apart under).looks x object (over_looks types texts fs f t (object_named x) over s w Q place step stores hands.code (length w.state.locals) g.after g.gives x m)) [
              | inl o ↦ not_open s k alive blank o
              | inr new ↦ omega (arith, lt, new.0)
            ];
        bears = λ z is_object m. elim (among_either (born_of f (trees hands.code)) (born_of f (trees takes)) z (subst (Among z) (parts_of (born_spot f) hands.code takes) m)) [
          | inl before ↦ inr (g.bears z is_object before)
          | inr now ↦ absurd (stores.bears r.objects z (nil_right f (born_step f step) z now))
        ];
      }

    fills_over : FillsObject s taken
    fills_over = record {
      grown = hands.grown;
      registers = hands.registers;
      code = hands.code ++ takes;
      written = ap (λ (c : List Tree). c ++ takes) hands.written ∙ append_assoc s.code hands.code takes;
      runs = λ lt object b at_it p. let r = hands.runs b tt in record {
        fine = fine_append types texts fs f hands.code takes r.fine (stores.fine at_it r.typed r.objects);
        goes = λ k alive blank q. goes_over lt object b k alive blank r (r.goes k alive tt);
      };
    }

  -- ---- as a way to write its members

  pub filling_writing : IsWriting types texts fs f t (object_named x) FillsObject
  filling_writing = record {
    none = fills_none;
    chained = λ s r z opened first second. fills_then s r z first second;
    behind = λ s w Q place step opened made stores. fills_behind s w Q place step made stores;
    grows = λ s r fills. fills.grown;
    over = λ given s w Q place step hands stores. fills_over given s w Q place step hands stores;
  }
