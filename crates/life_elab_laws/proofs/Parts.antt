-- A part of what is written, with all that the laws ask of it: it grows what is written, adds nothing but registers without names, writes what is well
-- formed, runs from where all visible variables are there, and gives what has the type that is wanted and is ready. And the ways to put parts together.
use Rattle.std.proofs.Common.{◌≡◌, ℕ, List, [], ◌++◌, length, Option, None, refl, sym, ap, ◌∙◌, append-nil, append_assoc}
use Rattle.life_types.specs.Types.{Types}
use Rattle.life_core.specs.Function.{Function}
use Rattle.life_core.specs.Tree.{Tree, trees}
use Rattle.life_proper.specs.declared.known.Known.{Known}
use Rattle.life_writer.specs.Writing.{Gives, State, gives, mapped}
use Rattle.life_elab_laws.proofs.BornLocals.{Bears, codes_bear}
use Rattle.life_elab_laws.proofs.Falling.{Falls, falls_append}
use Rattle.life_elab_laws.proofs.Gifts.{Gift, both, nothing}
use Rattle.life_elab_laws.proofs.GivenApart.{Apart, codes_apart, same_apart}
use Rattle.life_elab_laws.proofs.Growing.{Begins, Grows, begins_before, grows_none, grows_then}
use Rattle.life_elab_laws.proofs.Making.{Alive, IsOpen, Keeps, keeps_all, keeps_then}
use Rattle.life_elab_laws.proofs.Shaping.{IsFine, fine_append, fine_none}
use Rattle.life_elab_laws.proofs.WrittenLocals.{AddsRegisters, registers_none, registers_then}

module _ (types : Types) (texts : ℕ) (fs : List Function) (f : Function) where
  -- ---- a part

  -- the way through its code
  pub record Goes {B : Type 0} (into : Option ℕ) (s : State) (w : Gives B) (Q : Gift types texts fs f B) (code : List Tree) (k : List Known) : Type 0 where
    pub after : List Known
    pub falls : Falls types f code k after
    pub keeps : Keeps f (length s.locals) into k after
    pub gives : Q.ready w.given (length w.state.locals) after
    pub alive : Alive f w.state after
    -- what it gives over is new, and nothing looks at it
    pub apart : Apart f s w.state (trees code)
    -- .. and what it brings to life or writes is new, or stood before
    pub bears : Bears f s (trees code)

  pub record Runs {A B : Type 0} (P : Gift types texts fs f A) (x : A) (into : Option ℕ) (s : State) (w : Gives B) (Q : Gift types texts fs f B) (code : List Tree) : Type 0 where
    pub fine : IsFine types texts fs f code
    pub typed : Q.typed w.given
    pub goes : (k : List Known) → Alive f s k → P.ready x (length s.locals) k → Goes into s w Q code k

  -- behind what gave x
  pub record Part {A B : Type 0} (P : Gift types texts fs f A) (x : A) (into : Option ℕ) (s : State) (w : Gives B) (Q : Gift types texts fs f B) : Type 0 where
    pub grown : Grows s w.state
    pub registers : AddsRegisters types s w.state
    pub code : List Tree
    pub written : w.state.code ≡ s.code ++ code
    pub runs : Begins types f w.state → P.typed x → Runs P x into s w Q code

  -- .. behind nothing
  abbrev pub Makes : {B : Type 0} (into : Option ℕ) (s : State) (w : Gives B) → Gift types texts fs f B → Type 0
  Makes into s w Q = Part (nothing types texts fs f) tt into s w Q

  -- ---- ways to put parts together

  -- nothing is written
  pub gives_part : {A B : Type 0} (P : Gift types texts fs f A) (x : A) (into : Option ℕ) (y : B) (s : State) (Q : Gift types texts fs f B) → (Begins types f s → P.typed x → Q.typed y)
      → (Begins types f s → (k : List Known) → Alive f s k → P.ready x (length s.locals) k → Q.ready y (length s.locals) k) → Part P x into s (gives y s) Q
  gives_part P x into y s Q typed ready = record {
    grown = grows_none s;
    registers = registers_none types s;
    code = [];
    written = sym (append-nil s.code);
    runs = λ b p. record {
      fine = fine_none types texts fs f;
      typed = typed b p;
      goes = λ k alive q. record { after = k; falls = refl; keeps = keeps_all f (length s.locals) into k; gives = ready b k alive q; alive = alive; apart = same_apart f s s refl refl refl; bears = λ x object m. absurd m };
    };
  }

  pub leaf_part : {B : Type 0} (y : B) (s : State) (Q : Gift types texts fs f B) → (Begins types f s → Q.typed y) → (Begins types f s → (k : List Known) → Alive f s k → Q.ready y (length s.locals) k)
      → Makes None s (gives y s) Q
  leaf_part y s Q typed ready = gives_part (nothing types texts fs f) tt None y s Q (λ b p. typed b) (λ b k alive p. ready b k alive)

  -- where more is given before
  pub under_part : {A B C : Type 0} (P : Gift types texts fs f A) (x : A) (R : Gift types texts fs f C) (y : C) (into : Option ℕ) (s : State) (w : Gives B) (Q : Gift types texts fs f B)
      → Part P x into s w Q → (R.typed y → P.typed x) → ((n : ℕ) (k : List Known) → R.ready y n k → P.ready x n k) → Part R y into s w Q
  under_part P x R y into s w Q part typed ready = record {
    grown = part.grown;
    registers = part.registers;
    code = part.code;
    written = part.written;
    runs = λ b p. let r = part.runs b (typed p) in record {
      fine = r.fine;
      typed = r.typed;
      goes = λ k alive q. let g = r.goes k alive (ready (length s.locals) k q) in record { after = g.after; falls = g.falls; keeps = g.keeps; gives = g.gives; alive = g.alive; apart = g.apart; bears = g.bears };
    };
  }

  -- what is given is seen otherwise
  pub seen_part : {A B C : Type 0} (P : Gift types texts fs f A) (x : A) (into : Option ℕ) (s : State) (w : Gives B) (Q : Gift types texts fs f B) (g : B → C) (O : Gift types texts fs f C)
      → Part P x into s w Q → (Begins types f w.state → Q.typed w.given → O.typed (g w.given)) → ((n : ℕ) (k : List Known) → Q.ready w.given n k → O.ready (g w.given) n k) → Part P x into s (mapped g w) O
  seen_part P x into s w Q g O part typed ready = record {
    grown = part.grown;
    registers = part.registers;
    code = part.code;
    written = part.written;
    runs = λ b p. let r = part.runs b p in record {
      fine = r.fine;
      typed = typed b r.typed;
      goes = λ k alive q. let h = r.goes k alive q in record { after = h.after; falls = h.falls; keeps = h.keeps; gives = ready (length w.state.locals) h.after h.gives; alive = h.alive; apart = h.apart; bears = h.bears };
    };
  }

  -- one and then another, behind what the first gives; what the first gives stays, or not
  module _ {A B C : Type 0} (P : Gift types texts fs f A) (x : A) (into : Option ℕ) (s : State) (w : Gives B) (v : Gives C) (Q : Gift types texts fs f B) (O : Gift types texts fs f C)
      (opened : IsOpen s) (first : Part P x None s w Q) (second : Part Q w.given into w.state v O) where
    before : Begins types f v.state → Begins types f w.state
    before b = begins_before types f w.state v.state second.grown b

    next : (k : List Known) → (g : Goes None s w Q first.code k) → (r : Runs Q w.given into w.state v O second.code) → Goes into w.state v O second.code g.after
    next k g r = r.goes g.after g.alive g.gives

    pub then_part : Part P x into s v O
    then_part = record {
      grown = grows_then s w.state v.state first.grown second.grown;
      registers = registers_then types s w.state v.state second.grown.types first.registers second.registers;
      code = first.code ++ second.code;
      written = second.written ∙ ap (λ (c : List Tree). c ++ second.code) first.written ∙ append_assoc s.code first.code second.code;
      runs = λ b p. let q = first.runs (before b) p in let r = second.runs b q.typed in record {
        fine = fine_append types texts fs f first.code second.code q.fine r.fine;
        typed = r.typed;
        goes = λ k alive given. let g = q.goes k alive given in let h = next k g r in record {
          after = h.after;
          falls = falls_append types f first.code second.code k g.after h.after g.falls h.falls;
          keeps = keeps_then f (length s.locals) (length w.state.locals) into k g.after h.after first.grown.count g.keeps h.keeps;
          gives = h.gives;
          alive = h.alive;
          apart = codes_apart f s w.state v.state first.code second.code g.apart h.apart;
          bears = codes_bear f s w.state first.code second.code first.grown g.bears h.bears;
        };
      };
    }

  module _ {A B C : Type 0} (P : Gift types texts fs f A) (x : A) (s : State) (w : Gives B) (v : Gives C) (Q : Gift types texts fs f B) (O : Gift types texts fs f C)
      (opened : IsOpen s) (first : Part P x None s w Q) where
    -- what the first gave, where the second has been written too
    beside : Part Q w.given None w.state v O → Part Q w.given None w.state (gives (w.given, v.given) v.state) (both types texts fs f Q O)
    beside second = record {
      grown = second.grown;
      registers = second.registers;
      code = second.code;
      written = second.written;
      runs = λ b p. let r = second.runs b p in record {
        fine = r.fine;
        typed = (p, r.typed);
        goes = λ k alive q. let g = r.goes k alive q in record {
          after = g.after;
          falls = g.falls;
          keeps = g.keeps;
          gives = (Q.stays w.given (length w.state.locals) (length v.state.locals) k g.after second.grown.count q g.keeps, g.gives);
          alive = g.alive;
          apart = g.apart;
          bears = g.bears;
        };
      };
    }

    pub keep_part : Part Q w.given None w.state v O → Part P x None s (gives (w.given, v.given) v.state) (both types texts fs f Q O)
    keep_part second = then_part P x None s w (gives (w.given, v.given) v.state) Q (both types texts fs f Q O) opened first (beside second)

    -- .. where the second asks for nothing
    pub and_part : Makes None w.state v O → Part P x None s (gives (w.given, v.given) v.state) (both types texts fs f Q O)
    and_part second = keep_part (under_part (nothing types texts fs f) tt Q w.given None w.state v O second (λ p. tt) (λ n k p. tt))
