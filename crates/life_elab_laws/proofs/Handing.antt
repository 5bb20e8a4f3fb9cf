-- Code that gives locals over to a call behind it: they are there behind the code, and what is known of the others doesn't see them.
use Rattle.std.proofs.Common.{◌≡◌, ◌<◌, ◌≤◌, ◌⊎◌, inl, inr, ℕ, suc, true, List, [], ◌∷◌, ◌++◌, length, slice_get, slice_set, None, Some, refl, sym, ap, ◌∙◌, subst, arith, append_assoc, append-nil}
use Rattle.std.proofs.lemmas.Bool.{cases_eq}
use Rattle.life_types.specs.Types.{Types}
use Rattle.life_core.specs.Function.{Function}
use Rattle.life_core.specs.Kinds.{is_object_at}
use Rattle.life_core.specs.Tree.{Tree, trees}
use Rattle.life_core.specs.declared.program.Local.{Local}
use Rattle.life_proper.specs.GivenOver.{given_spot}
use Rattle.life_proper.specs.Knowing.{known_at}
use Rattle.life_proper.specs.ReadyKnown.{set_known}
use Rattle.life_proper.specs.declared.known.Known.{Known}
use Rattle.life_proper.specs.declared.known.Known.TheVariants as known
use Rattle.life_writer.specs.Writing.{Gives, State, gives, mapped}
use Rattle.life_elab_laws.proofs.Among.{Among, Ascend, among_contains, among_either, among_left, among_right, ascend_apart}
use Rattle.life_elab_laws.proofs.BornLocals.{Bears, born_of, codes_bear}
use Rattle.life_elab_laws.proofs.Falling.{Falls, falls_append}
use Rattle.life_elab_laws.proofs.Gifts.{Gift, both, nothing}
use Rattle.life_elab_laws.proofs.GivenApart.{Apart as Only, AreApart, IsBelow, apart_then, given_of, parts_of}
use Rattle.life_elab_laws.proofs.LookedLocals.{looked_of, looked_spot}
use Rattle.life_elab_laws.proofs.Growing.{Begins, Grows, begins_before, grows_then}
use Rattle.life_elab_laws.proofs.UnseenLocals.{set_swap}
use Rattle.life_elab_laws.proofs.UnseenWays.{falls_there}
use Rattle.life_elab_laws.proofs.Making.{Alive, Keeps, keeps_then}
use Rattle.life_elab_laws.proofs.Parts.{Makes, Part}
use Rattle.life_elab_laws.proofs.Shaping.{IsFine, fine_append}
use Rattle.life_elab_laws.proofs.WrittenLocals.{AddsRegisters, registers_then}

-- ---- several locals are set, in either order

one_swap : (k : List Known) (x y : ℕ) (a : Known) → slice_set (slice_set k x a) y a ≡ slice_set (slice_set k y a) x a
one_swap k x y a = elim (cases_eq x y) [
  | inl e ↦ subst (λ (z : ℕ). slice_set (slice_set k x a) z a ≡ slice_set (slice_set k z a) x a) e refl
  | inr ne ↦ set_swap k x y a a ne
]

pub set_both : (a : Known) (xs ys : List ℕ) (k : List Known) → set_known a xs (set_known a ys k) ≡ set_known a (xs ++ ys) k
set_both a xs [] k = ap (λ (zs : List ℕ). set_known a zs k) (sym (append-nil xs))
set_both a xs (y ∷ ys) k =
    set_both a xs ys (slice_set k y a) ∙ moved xs ys k y
  where
    moved : (xs ys : List ℕ) (k : List Known) (y : ℕ) → set_known a (xs ++ ys) (slice_set k y a) ≡ set_known a (xs ++ (y ∷ ys)) k
    moved [] ys k y = refl
    moved (x ∷ xs) ys k y = ap (set_known a (xs ++ ys)) (one_swap k y x a) ∙ moved xs ys (slice_set k x a) y

-- ---- they ascend

pub ascend_lower : (high low : ℕ) (xs : List ℕ) → low ≤ high → Ascend high xs → Ascend low xs
ascend_lower high low [] le h = tt
ascend_lower high low (x ∷ xs) le h = (omega (arith, le, h.0), h.1)

ascend_both : (low n : ℕ) (xs ys : List ℕ) → low ≤ n → Ascend low xs → ((x : ℕ) → Among x xs → x < n) → Ascend n ys → Ascend low (xs ++ ys)
ascend_both low n [] ys le h below g = ascend_lower n low ys le g
ascend_both low n (x ∷ xs) ys le h below g = (h.0, ascend_both (suc x) n xs ys (below x (inl refl)) h.1 (λ y m. below y (inr m)) g)

module _ (types : Types) (texts : ℕ) (fs : List Function) (f : Function) where
  -- ---- the way through its code

  pub record GoesHanding {B : Type 0} (over : List ℕ) (s : State) (w : Gives B) (Q : Gift types texts fs f B) (code : List Tree) (k : List Known) : Type 0 where
    -- without what is given over, which is there
    pub after : List Known
    pub falls : Falls types f code k (set_known known.Ready over after)
    pub blank : (x : ℕ) → Among x over → known_at after x ≡ known.Blank
    pub keeps : Keeps f (length s.locals) None k after
    pub gives : Q.ready w.given (length w.state.locals) after
    pub alive : Alive f w.state after
    -- it is new, and nothing looks at it
    pub apart : IsBelow s → AreApart f s w.state (looked_of (trees code)) (given_of (trees code) ++ over)
    pub bears : Bears f s (trees code)

  pub record RunsHanding {A B : Type 0} (P : Gift types texts fs f A) (y : A) (over : List ℕ) (s : State) (w : Gives B) (Q : Gift types texts fs f B) (code : List Tree) : Type 0 where
    pub fine : IsFine types texts fs f code
    pub typed : Q.typed w.given
    pub objects : (x : ℕ) → Among x over → is_object_at f x ≡ true
    -- which have no names
    pub nameless : (x : ℕ) → Among x over → (l : Local) → slice_get f.locals x ≡ Some l → l.name ≡ None
    pub goes : (k : List Known) → Alive f s k → P.ready y (length s.locals) k → GoesHanding over s w Q code k

  -- behind what gave y
  pub record Handing {A B : Type 0} (P : Gift types texts fs f A) (y : A) (over : List ℕ) (s : State) (w : Gives B) (Q : Gift types texts fs f B) : Type 0 where
    pub grown : Grows s w.state
    pub registers : AddsRegisters types s w.state
    pub ascend : Ascend (length s.locals) over
    pub below : (x : ℕ) → Among x over → x < length w.state.locals
    pub code : List Tree
    pub written : w.state.code ≡ s.code ++ code
    pub runs : Begins types f w.state → P.typed y → RunsHanding P y over s w Q code

  -- .. behind nothing
  abbrev pub HandingAlone : {B : Type 0} (over : List ℕ) (s : State) (w : Gives B) → Gift types texts fs f B → Type 0
  HandingAlone over s w Q = Handing (nothing types texts fs f) tt over s w Q

  -- ---- ways to put such parts together

  -- fewer are looked at and given over
  pub fewer_apart : (s s' : State) (looked given seen fewer : List ℕ) → ((x : ℕ) → Among x seen → Among x looked) → ((x : ℕ) → Among x fewer → Among x given) → AreApart f s s' looked given → AreApart f s s' seen fewer
  fewer_apart s s' looked given seen fewer within among h = record {
    count = h.count;
    below = h.below;
    opens = h.opens;
    gives = λ x object m. h.gives x object (among x m);
    looks = λ x object m. h.looks x object (within x m);
    apart = λ x object l m. h.apart x object (within x l) (among x m);
  }

  pub fewer_given : (s s' : State) (looked given fewer : List ℕ) → ((x : ℕ) → Among x fewer → Among x given) → AreApart f s s' looked given → AreApart f s s' looked fewer
  fewer_given s s' looked given fewer among h = fewer_apart s s' looked given looked fewer (λ x m. m) among h

  -- code behind such a part, which gives that over, and what ends behind it
  pub handed_apart : (over given : List ℕ) (s w v r : State) (c d e : List Tree) → IsBelow s → ((y : ℕ) → Among y (given_of (trees d)) → Among y given ⊎ Among y over) → AreApart f s w (looked_of (trees c)) (given_of (trees c) ++ over)
      → (IsBelow w → AreApart f w v (looked_of (trees d)) given) → Only f v r (trees e) → AreApart f s r (looked_of (trees (c ++ (d ++ e)))) (given_of (trees (c ++ (d ++ e))))
  handed_apart over given s w v r c d e under named one two three =
      let second = two one.below in
      let behind = looked_of (trees d) ++ looked_of (trees e) in
      let ended = given_of (trees e) in
      fewer_apart s r (looked_of (trees c) ++ behind) ((given_of (trees c) ++ over) ++ (given ++ ended)) (looked_of (trees (c ++ (d ++ e)))) (given_of (trees (c ++ (d ++ e))))
      (λ y m. elim (among_either (looked_of (trees c)) (looked_of (trees (d ++ e))) y (subst (Among y) (parts_of looked_spot c (d ++ e)) m)) [
        | inl l ↦ among_left (looked_of (trees c)) behind y l
        | inr l ↦ among_right (looked_of (trees c)) behind y (subst (Among y) (parts_of looked_spot d e) l)
      ])
      (λ y m. elim (among_either (given_of (trees c)) (given_of (trees (d ++ e))) y (subst (Among y) (parts_of given_spot c (d ++ e)) m)) [
        | inl l ↦ among_left (given_of (trees c) ++ over) (given ++ ended) y (among_left (given_of (trees c)) over y l)
        | inr l ↦ elim (among_either (given_of (trees d)) ended y (subst (Among y) (parts_of given_spot d e) l)) [
          | inl q ↦ elim (named y q) [
            | inl g ↦ among_right (given_of (trees c) ++ over) (given ++ ended) y (among_left given ended y g)
            | inr o ↦ among_left (given_of (trees c) ++ over) (given ++ ended) y (among_right (given_of (trees c)) over y o)
          ]
          | inr q ↦ among_right (given_of (trees c) ++ over) (given ++ ended) y (among_right given ended y q)
        ]
      ])
      (apart_then f s w r (looked_of (trees c)) (given_of (trees c) ++ over) behind (given ++ ended) under one
      (apart_then f w v r (looked_of (trees d)) given (looked_of (trees e)) ended one.below second (three second.below)))

  -- what gives nothing over
  pub handing_none : {A B : Type 0} (P : Gift types texts fs f A) (y : A) (s : State) (w : Gives B) (Q : Gift types texts fs f B) → Part types texts fs f P y None s w Q → Handing P y [] s w Q
  handing_none P y s w Q part = record {
    grown = part.grown;
    registers = part.registers;
    ascend = tt;
    below = λ x m. absurd m;
    code = part.code;
    written = part.written;
    runs = λ b p. let r = part.runs b p in record {
      fine = r.fine;
      typed = r.typed;
      objects = λ x m. absurd m;
      nameless = λ x m l at. absurd m;
      goes = λ k alive q. let g = r.goes k alive q in record {
        after = g.after;
        falls = g.falls;
        blank = λ x m. absurd m;
        keeps = g.keeps;
        gives = g.gives;
        alive = g.alive;
        apart = λ under. subst (AreApart f s w.state (looked_of (trees part.code))) (sym (append-nil (given_of (trees part.code)))) (g.apart under);
        bears = g.bears;
      };
    };
  }

  -- .. is a part as any other, which gives what this is
  pub none_handed : {B : Type 0} (over : List ℕ) (s : State) (w : Gives B) (Q O : Gift types texts fs f B) → (h : HandingAlone over s w Q) → (Q.typed w.given → over ≡ []) → (Q.typed w.given → O.typed w.given)
      → (Q.typed w.given → (n : ℕ) (k : List Known) → Q.ready w.given n k → O.ready w.given n k) → Makes types texts fs f None s w O
  none_handed over s w Q O h none typed ready = record {
    grown = h.grown;
    registers = h.registers;
    code = h.code;
    written = h.written;
    runs = λ b p. let r = h.runs b tt in record {
      fine = r.fine;
      typed = typed r.typed;
      goes = λ k alive q. let g = r.goes k alive tt in record {
        after = g.after;
        falls = subst (λ (xs : List ℕ). Falls types f h.code k (set_known known.Ready xs g.after)) (none r.typed) g.falls;
        keeps = g.keeps;
        gives = ready r.typed (length w.state.locals) g.after g.gives;
        alive = g.alive;
        apart = λ under. fewer_given s w.state (looked_of (trees h.code)) (given_of (trees h.code) ++ over) (given_of (trees h.code)) (λ x m. among_left (given_of (trees h.code)) over x m) (g.apart under);
        bears = g.bears;
      };
    };
  }

  -- what is given is seen otherwise
  pub handing_seen : {B C : Type 0} (over : List ℕ) (s : State) (w : Gives B) (Q : Gift types texts fs f B) (g : B → C) (O : Gift types texts fs f C) → HandingAlone over s w Q → (Q.typed w.given → O.typed (g w.given))
      → ((n : ℕ) (k : List Known) → Q.ready w.given n k → ((x : ℕ) → Among x over → (x < n) × (known_at k x ≡ known.Blank)) → O.ready (g w.given) n k) → HandingAlone over s (mapped g w) O
  handing_seen over s w Q g O h typed ready = record {
    grown = h.grown;
    registers = h.registers;
    ascend = h.ascend;
    below = h.below;
    code = h.code;
    written = h.written;
    runs = λ b p. let r = h.runs b tt in record {
      fine = r.fine;
      typed = typed r.typed;
      objects = r.objects;
      nameless = r.nameless;
      goes = λ k alive p. let q = r.goes k alive tt in record {
        after = q.after;
        falls = q.falls;
        blank = q.blank;
        keeps = q.keeps;
        gives = ready (length w.state.locals) q.after q.gives (λ x m. (h.below x m, q.blank x m));
        alive = q.alive;
        apart = q.apart;
        bears = q.bears;
      };
    };
  }

  -- one and then another, which doesn't see what the first gives over
  module _ {B C : Type 0} (one over : List ℕ) (s : State) (w : Gives B) (v : Gives C) (Q : Gift types texts fs f B) (O : Gift types texts fs f C) (first : HandingAlone one s w Q) (second : HandingAlone over w.state v O) where
    abbrev all_code : List Tree
    all_code = first.code ++ second.code

    before : Begins types f v.state → Begins types f w.state
    before b = begins_before types f w.state v.state second.grown b

    pub handing_then : HandingAlone (one ++ over) s (gives (w.given, v.given) v.state) (both types texts fs f Q O)
    handing_then = record {
      grown = grows_then s w.state v.state first.grown second.grown;
      registers = registers_then types s w.state v.state second.grown.types first.registers second.registers;
      ascend = ascend_both (length s.locals) (length w.state.locals) one over first.grown.count first.ascend first.below second.ascend;
      below = λ x m. elim (among_either one over x m) [ inl a ↦ let lt = first.below x a in omega (arith, lt, second.grown.count) | inr c ↦ second.below x c ];
      code = all_code;
      written = second.written ∙ ap (λ (c : List Tree). c ++ second.code) first.written ∙ append_assoc s.code first.code second.code;
      runs = λ b p. let q = first.runs (before b) tt in let r = second.runs b tt in record {
        fine = fine_append types texts fs f first.code second.code q.fine r.fine;
        typed = (q.typed, r.typed);
        objects = λ x m. elim (among_either one over x m) [ inl a ↦ q.objects x a | inr c ↦ r.objects x c ];
        nameless = λ x m. elim (among_either one over x m) [ inl a ↦ q.nameless x a | inr c ↦ r.nameless x c ];
        goes = λ k alive p. go q r k (q.goes k alive tt);
      };
    }
      where
        go : RunsHanding (nothing types texts fs f) tt one s w Q first.code → RunsHanding (nothing types texts fs f) tt over w.state v O second.code → (k : List Known) → GoesHanding one s w Q first.code k
            → GoesHanding (one ++ over) s (gives (w.given, v.given) v.state) (both types texts fs f Q O) all_code k
        go q r k g = record {
          after = h.after;
          falls =
              falls_append types f first.code second.code k (set_known known.Ready one g.after) (set_known known.Ready (one ++ over) h.after) g.falls
              (subst (Falls types f second.code (set_known known.Ready one g.after)) (set_both known.Ready one over h.after)
              (falls_there types texts fs f second.code r.fine one (ascend_apart (length s.locals) one first.ascend) g.after (set_known known.Ready over h.after) g.blank unseen h.falls));
          blank = λ x m. elim (among_either one over x m) [ inl a ↦ h.keeps.below x (first.below x a) tt ∙ g.blank x a | inr c ↦ h.blank x c ];
          keeps = keeps_then f (length s.locals) (length w.state.locals) None k g.after h.after first.grown.count g.keeps h.keeps;
          gives = (Q.stays w.given (length w.state.locals) (length v.state.locals) g.after h.after second.grown.count g.gives h.keeps, h.gives);
          alive = h.alive;
          apart = λ under.
              let a = g.apart under in
              let c = h.apart a.below in
              subst (λ (xs : List ℕ). AreApart f s v.state xs (given_of (trees all_code) ++ (one ++ over))) (sym (parts_of looked_spot first.code second.code))
              (fewer_given s v.state (looked_of (trees first.code) ++ looked_of (trees second.code)) ((given_of (trees first.code) ++ one) ++ (given_of (trees second.code) ++ over)) (given_of (trees all_code) ++ (one ++ over)) regrouped
              (apart_then f s w.state v.state (looked_of (trees first.code)) (given_of (trees first.code) ++ one) (looked_of (trees second.code)) (given_of (trees second.code) ++ over) under a c));
          bears = codes_bear f s w.state first.code second.code first.grown g.bears h.bears;
        }
          where
            h : GoesHanding over w.state v O second.code g.after
            h = r.goes g.after g.alive tt

            clash : ◌≡◌ {A = Known} known.Blank known.Ready → ⊥
            clash e = cc

            -- the second brings nothing to life that the first gives over
            unseen : (x : ℕ) → Among x one → Among x (born_of f (trees second.code)) → ⊥
            unseen x m born = elim (h.bears x (q.objects x m) born) [
              | inl o ↦ elim o [
                | inl lives ↦ clash (sym (g.blank x m) ∙ g.alive.living x (among_contains w.state.living x lives))
                | inr pends ↦ clash (sym (g.blank x m) ∙ g.alive.pending x pends)
              ]
              | inr new ↦ let lt = first.below x m in omega (arith, lt, new)
            ]

            regrouped : (x : ℕ) → Among x (given_of (trees all_code) ++ (one ++ over)) → Among x ((given_of (trees first.code) ++ one) ++ (given_of (trees second.code) ++ over))
            regrouped x m = elim (among_either (given_of (trees all_code)) (one ++ over) x m) [
              | inl over_code ↦ elim (among_either (given_of (trees first.code)) (given_of (trees second.code)) x (subst (Among x) (parts_of given_spot first.code second.code) over_code)) [
                | inl a ↦ among_left (given_of (trees first.code) ++ one) (given_of (trees second.code) ++ over) x (among_left (given_of (trees first.code)) one x a)
                | inr c ↦ among_right (given_of (trees first.code) ++ one) (given_of (trees second.code) ++ over) x (among_left (given_of (trees second.code)) over x c)
              ]
              | inr given ↦ elim (among_either one over x given) [
                | inl a ↦ among_left (given_of (trees first.code) ++ one) (given_of (trees second.code) ++ over) x (among_right (given_of (trees first.code)) one x a)
                | inr c ↦ among_right (given_of (trees first.code) ++ one) (given_of (trees second.code) ++ over) x (among_right (given_of (trees second.code)) over x c)
              ]
            ]
