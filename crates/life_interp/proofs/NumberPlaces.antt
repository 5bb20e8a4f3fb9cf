-- Values that are read from a place and written to one, by what is found there.
use Rattle.std.proofs.Common.{◌≡◌, ℕ, List, ap, sym, ◌∙◌, arith}
use Rattle.std.specs.Prelude.{ℤ}
use Rattle.life_types.specs.Types.{Types}
use Rattle.life_core.specs.Function.{Function}
use Rattle.life_core.specs.Operands.{Operand}
use Rattle.life_store.specs.Content.{Object, Content, word_at}
use Rattle.life_store.specs.Doing.{loaded, on_character, saved}
use Rattle.life_store.specs.Effects.{Effect, Setting, Next, Strays, number_in_word, put_cell}
use Rattle.life_store.specs.Places.{Fixed, Found, Here, locate, on_found, on_place, operand_word}
use Rattle.life_store.specs.References.{HasWord, Rows}
use Rattle.life_store.specs.State.{Characters, Number, State}
use Rattle.life_seen.specs.Housed.{IsHoused}
use Rattle.life_seen.specs.Kinds.{kinds_of}
use Rattle.life_seen.specs.Named.{names_of}
use Rattle.life_seen.specs.Seen.{object_seen}
use Rattle.life_words.specs.Numbers.{IsPlain}
use Rattle.life_pointers.specs.Places.{IsHere, TellsMiss, ended_by}
use Rattle.life_pointers.specs.declared.owned.Spot.{Spot}
use Rattle.life_pointers.specs.declared.stop.Stop.{Stop}
use Rattle.life_interp.specs.Accessed.{IsNumberPlace}

-- ---- a number in the store

pub record NumberAt (types : Types) (c : Content) (rows : Rows) (s : Spot) (o : Object) : Type 0 where
  pub is : IsPlain (kinds_of types) c rows s.object s.word o
  pub word : HasWord s.index s.word o

pub number_at_place : (types : Types) (f : Function) (o : Operand) (st : State) (c : Content) (rows : Rows) → IsHoused (kinds_of types) c rows → IsNumberPlace types f o st
    → (s : Spot) → (h : IsHere (kinds_of types) c rows (locate types f o st) s) → s.word ≡ operand_word types f o st → NumberAt types c rows s h.object
number_at_place types f o st c rows housed place s h word =
    let seen_there = object_seen (kinds_of types) (names_of c rows) h.object in
    let lies = place.placed.lies s.object.birth s.index seen_there h.here in
    record {
      is = record { housed = housed; there = h.lives; plain = ap (kinds_of types h.object.ty) word ∙ place.plain s.object.birth s.index seen_there h.here };
      word = record { has_slot = h.slot; has_word = let w = lies.within in omega (arith, w, word) };
    }

-- ---- reading

module _ (s : Setting) (types : Types) (f : Function) (r : ℕ) (o : Operand) (st : State) where
  abbrev read : ℕ → ℕ → Object → Effect
  read n i object = Next (put_cell r (Number (number_in_word (word_at object i (operand_word types f o st)))) st)

  abbrev fixed : List (List ℕ) → Characters → Effect
  fixed texts c = on_character texts c (λ z. Next (put_cell r (Number z) st))

  pub loaded_stops : (e : Stop) → TellsMiss (locate types f o st) e → loaded s types f r o st ≡ ended_by e
  loaded_stops e misses = misses read (fixed s.texts)

  pub loaded_here : (n i w : ℕ) (object : Object) → locate types f o st ≡ Here n i object → w ≡ operand_word types f o st → loaded s types f r o st ≡ Next (put_cell r (Number (number_in_word (word_at object i w))) st)
  loaded_here n i w object found word = ap (λ (x : Found). on_place x read (fixed s.texts)) found ∙ ap (λ (u : ℕ). Next (put_cell r (Number (number_in_word (word_at object i u))) st)) (sym word)

  pub loaded_fixed : (texts : List (List ℕ)) (c : Characters) → s.texts ≡ texts → locate types f o st ≡ Fixed c → loaded s types f r o st ≡ on_character texts c (λ z. Next (put_cell r (Number z) st))
  loaded_fixed texts c same found = ap (λ (x : Found). on_place x read (fixed s.texts)) found ∙ ap (λ (ts : List (List ℕ)). fixed ts c) same

-- ---- writing

module _ (types : Types) (f : Function) (o : Operand) (st : State) (z : ℤ) where
  abbrev write : ℕ → ℕ → Object → Effect
  write n i object = Next (saved z n i (operand_word types f o st) object st)

  pub stored_stops : (e : Stop) → TellsMiss (locate types f o st) e → on_found (locate types f o st) write ≡ ended_by e
  stored_stops e misses = misses write (λ c. Strays)

  pub stored_fixed : (c : Characters) → locate types f o st ≡ Fixed c → on_found (locate types f o st) write ≡ Strays
  stored_fixed c found = ap (λ (x : Found). on_found x write) found

  pub stored_here : (n i w : ℕ) (object : Object) → locate types f o st ≡ Here n i object → w ≡ operand_word types f o st → on_found (locate types f o st) write ≡ Next (saved z n i w object st)
  stored_here n i w object found word = ap (λ (x : Found). on_found x write) found ∙ ap (λ (u : ℕ). Next (saved z n i u object st)) (sym word)
