-- The members of an object are written, one instruction after the other, each behind what is found for it, or given over to it: what such an instruction keeps, and the ways to put them together.
use Rattle.std.proofs.Common.{◌≡◌, ℕ, true, false, List, [], ◌∷◌, ◌++◌, None, length, slice_set, inl, inr, ap, ◌∙◌, subst, append_assoc}
use Rattle.life_types.specs.Types.{Types}
use Rattle.life_types.specs.declared.place.Place.{Place}
use Rattle.life_types.specs.declared.ty.Ty.{Ty}
use Rattle.life_core.specs.Function.{Function}
use Rattle.life_core.specs.Kinds.{is_object_at}
use Rattle.life_core.specs.Operands.{Operand}
use Rattle.life_core.specs.Step.{Step}
use Rattle.life_core.specs.Tree.{Acts, Tree, trees}
use Rattle.life_proper.specs.GivenOver.{given_spot, given_step}
use Rattle.life_proper.specs.Knowing.{known_at}
use Rattle.life_proper.specs.ReadyKnown.{set_known}
use Rattle.life_proper.specs.declared.known.Known.{Known}
use Rattle.life_proper.specs.declared.known.Known.TheVariants as known
use Rattle.life_writer.specs.Writing.{Gives, State, emit, gives}
use Rattle.life_elab_laws.proofs.Among.{Among, among_either, among_left, among_right}
use Rattle.life_elab_laws.proofs.BornLocals.{born_step, codes_bear}
use Rattle.life_elab_laws.proofs.Falling.{Falls, falls_append}
use Rattle.life_elab_laws.proofs.Gifts.{Gift, IsPlaceOf, a_place, both, nothing as no_gift, place_stays}
use Rattle.life_elab_laws.proofs.GivenApart.{AreApart, given_of, nil_right, parts_of}
use Rattle.life_elab_laws.proofs.Growing.{Grows}
use Rattle.life_elab_laws.proofs.Handing.{GoesHanding, HandingAlone, RunsHanding, fewer_apart}
use Rattle.life_elab_laws.proofs.LookedLocals.{looked_of, looked_spot, looked_step}
use Rattle.life_elab_laws.proofs.Making.{IsOpen, IsPlace}
use Rattle.life_elab_laws.proofs.Parts.{Goes, Makes, Part, gives_part, keep_part, then_part, under_part}
use Rattle.life_elab_laws.proofs.Shaping.{IsFine, fine_append}

module _ (types : Types) (texts : ℕ) (fs : List Function) (f : Function) where
  abbrev G : Gift types texts fs f (Unit {0})
  G = no_gift types texts fs f

  abbrev AreObjects : List ℕ → Type 0
  AreObjects xs = (x : ℕ) → Among x xs → is_object_at f x ≡ true

  -- an instruction that stores what was found in an object of a type, or in a member of it
  pub record Stores (t : Ty) (to : Operand) {B : Type 0} (Q : Gift types texts fs f B) (y : B) (place : Place) (step : Step) : Type 0 where
    pub part : (s : State) → Part types texts fs f (both types texts fs f (a_place types texts fs f t false) Q) (to, y) None s (gives tt (emit place step s)) G
    -- what was found stays ready where another local comes to life
    pub kept : (x n : ℕ) (k : List Known) → known_at k x ≡ known.Blank → Q.ready y n k → Q.ready y n (slice_set k x known.Ready)
    -- it looks at nothing else
    pub seen : (n : ℕ) (k : List Known) → Q.ready y n k → (z : ℕ) → Among z (looked_step step) → known_at k z ≡ known.Ready

  -- .. or what is given over to it, which is gone behind it
  pub record StoresOver (t : Ty) (to : Operand) {B : Type 0} (Q : Gift types texts fs f B) (y : B) (over : List ℕ) (place : Place) (step : Step) : Type 0 where
    pub fine : IsPlaceOf types texts fs f t false to → Q.typed y → AreObjects over → IsFine types texts fs f (Acts place step ∷ [])
    pub falls : (n : ℕ) (k : List Known) → IsPlace to n k → Q.ready y n k → AreObjects over → ((x : ℕ) → Among x over → known_at k x ≡ known.Blank) → Falls types f (Acts place step ∷ []) (set_known known.Ready over k) k
    -- what is found beside that stays ready where another local comes to life
    pub kept : (x n : ℕ) (k : List Known) → known_at k x ≡ known.Blank → (Among x over → ⊥) → Q.ready y n k → Q.ready y n (slice_set k x known.Ready)
    -- it looks at nothing, gives nothing else over, and brings nothing to life
    pub looks : (n : ℕ) (k : List Known) → Q.ready y n k → looked_step step ≡ []
    pub gives : (z : ℕ) → Among z (given_step step) → Among z over
    pub bears : AreObjects over → (z : ℕ) → Among z (born_step f step) → ⊥

  -- how it is written
  pub record IsWriting (t : Ty) (to : Operand) (Writes : State → State → Type 0) : Type 1 where
    pub none : (s : State) → Writes s s
    pub chained : (s r z : State) → IsOpen s → Writes s r → Writes r z → Writes s z
    pub behind : {B : Type 0} (s : State) (w : Gives B) (Q : Gift types texts fs f B) (place : Place) (step : Step) → IsOpen s → Makes types texts fs f None s w Q → Stores t to Q w.given place step → Writes s (emit place step w.state)
    pub over : {B : Type 0} (given : List ℕ) (s : State) (w : Gives B) (Q : Gift types texts fs f B) (place : Place) (step : Step) → HandingAlone types texts fs f given s w Q → StoresOver t to Q w.given given place step
        → Writes s (emit place step w.state)
    pub grows : (s r : State) → Writes s r → Grows s r

  -- ---- what is given over to an instruction behind it is new, and nothing looks at it

  module _ {B : Type 0} (t : Ty) (to : Operand) (over : List ℕ) (s : State) (w : Gives B) (Q : Gift types texts fs f B) (place : Place) (step : Step) (stores : StoresOver t to Q w.given over place step) where
    abbrev acts : List Tree
    acts = Acts place step ∷ []

    pub over_looks : (code : List Tree) (n : ℕ) (k : List Known) → Q.ready w.given n k → (y : ℕ) → Among y (looked_of (trees (code ++ acts))) → Among y (looked_of (trees code))
    over_looks code n k q y m = elim (among_either (looked_of (trees code)) (looked_of (trees acts)) y (subst (Among y) (parts_of looked_spot code acts) m)) [
      | inl seen ↦ seen
      | inr seen ↦ absurd (subst (Among y) (ap (λ (xs : List ℕ). xs ++ []) (stores.looks n k q)) seen)
    ]

    pub over_apart : (code : List Tree) (n : ℕ) (k : List Known) → Q.ready w.given n k → AreApart f s w.state (looked_of (trees code)) (given_of (trees code) ++ over) → AreApart f s w.state (looked_of (trees (code ++ acts))) (given_of (trees (code ++ acts)))
    over_apart code n k q apart =
        fewer_apart types texts fs f s w.state (looked_of (trees code)) (given_of (trees code) ++ over) (looked_of (trees (code ++ acts))) (given_of (trees (code ++ acts))) (over_looks code n k q)
        (λ y m. elim (among_either (given_of (trees code)) (given_of (trees acts)) y (subst (Among y) (parts_of given_spot code acts) m)) [
          | inl gone ↦ among_left (given_of (trees code)) over y gone
          | inr gone ↦ among_right (given_of (trees code)) over y (stores.gives y (nil_right f (given_step step) y gone))
        ])
        apart

  -- ---- as parts, behind what gives a place that is there

  module _ (t : Ty) {A : Type 0} (P : Gift types texts fs f A) (x : A) (to : Operand) (typed : P.typed x → IsPlaceOf types texts fs f t false to) (ready : (n : ℕ) (k : List Known) → P.ready x n k → IsPlace to n k) where
    abbrev Writes : State → State → Type 0
    Writes s r = Part types texts fs f P x None s (gives tt r) G

    -- what stands there stays
    kept : {B : Type 0} (s : State) (w : Gives B) (Q : Gift types texts fs f B) → IsOpen s → Part types texts fs f P x None s w Q → Part types texts fs f P x None s (gives (x, w.given) w.state) (both types texts fs f P Q)
    kept s w Q opened part = keep_part types texts fs f P x s (gives x s) w P Q opened (gives_part types texts fs f P x None x s P (λ b h. h) (λ b k alive h. h)) part

    writes_then : (s r z : State) → IsOpen s → Writes s r → Writes r z → Writes s z
    writes_then s r z opened first second =
        let D = both types texts fs f P G in
        then_part types texts fs f P x None s (gives (x, tt) r) (gives tt z) D G opened (kept s (gives tt r) G opened first)
        (under_part types texts fs f P x D (x, tt) None r (gives tt z) G second (λ h. h.0) (λ n k h. h.0))

    writes_behind : {B : Type 0} (s : State) (w : Gives B) (Q : Gift types texts fs f B) (place : Place) (step : Step) → IsOpen s → Makes types texts fs f None s w Q
        → Part types texts fs f (both types texts fs f (a_place types texts fs f t false) Q) (to, w.given) None w.state (gives tt (emit place step w.state)) G → Writes s (emit place step w.state)
    writes_behind s w Q place step opened made part =
        then_part types texts fs f P x None s (gives (x, w.given) w.state) (gives tt (emit place step w.state)) (both types texts fs f P Q) G opened
        (kept s w Q opened (under_part types texts fs f G tt P x None s w Q made (λ h. tt) (λ n k h. tt)))
        (under_part types texts fs f (both types texts fs f (a_place types texts fs f t false) Q) (to, w.given) (both types texts fs f P Q) (x, w.given) None w.state (gives tt (emit place step w.state)) G part
        (λ h. (typed h.0, h.1)) (λ n k h. (ready n k h.0, h.1)))

    module _ {B : Type 0} (over : List ℕ) (s : State) (w : Gives B) (Q : Gift types texts fs f B) (place : Place) (step : Step) (hands : HandingAlone types texts fs f over s w Q) (stores : StoresOver t to Q w.given over place step) where
      abbrev gives_it : List Tree
      gives_it = Acts place step ∷ []

      over_goes : RunsHanding types texts fs f G tt over s w Q hands.code → (k : List Known) → P.ready x (length s.locals) k → GoesHanding types texts fs f over s w Q hands.code k
          → Goes types texts fs f None s (gives tt (emit place step w.state)) G (hands.code ++ gives_it) k
      over_goes r k there g = record {
        after = g.after;
        falls =
            falls_append types f hands.code gives_it k (set_known known.Ready over g.after) g.after g.falls
            (stores.falls (length w.state.locals) g.after (place_stays types texts fs f to (length s.locals) (length w.state.locals) k g.after hands.grown.count (ready (length s.locals) k there) g.keeps) g.gives r.objects g.blank);
        keeps = g.keeps;
        gives = tt;
        alive = g.alive;
        apart = λ under. over_apart t to over s w Q place step stores hands.code (length w.state.locals) g.after g.gives (g.apart under);
        bears = codes_bear f s w.state hands.code gives_it hands.grown g.bears (λ z object m. absurd (stores.bears r.objects z (nil_right f (born_step f step) z m)));
      }

      writes_over : Writes s (emit place step w.state)
      writes_over = record {
        grown = hands.grown;
        registers = hands.registers;
        code = hands.code ++ gives_it;
        written = ap (λ (code : List Tree). code ++ gives_it) hands.written ∙ append_assoc s.code hands.code gives_it;
        runs = λ b p. let r = hands.runs b tt in record {
          fine = fine_append types texts fs f hands.code gives_it r.fine (stores.fine (typed p) r.typed r.objects);
          typed = tt;
          goes = λ k alive q. over_goes r k q (r.goes k alive tt);
        };
      }

    pub part_writing : IsWriting t to Writes
    part_writing = record {
      none = λ s. gives_part types texts fs f P x None tt s G (λ b h. tt) (λ b k alive h. tt);
      chained = writes_then;
      behind = λ s w Q place step opened made stores. writes_behind s w Q place step opened made (stores.part w.state);
      over = λ given s w Q place step hands stores. writes_over given s w Q place step hands stores;
      grows = λ s r part. part.grown;
    }
