-- What an owner's word says, and what is made of it.
use Rattle.std.proofs.Common.{◌≡◌, ℕ, ◌+◌, List, [], Option, Some, None, IfSome, take, drop, sym, ap, ◌∙◌, arith}
use Rattle.std.proofs.lemmas.List.{get_or-take, get_or-drop}
use Rattle.std.proofs.lemmas.Option.{same_Some}
use Rattle.std.specs.Prelude.{option_map, slice_get, slice_index}
use Rattle.life_store.specs.Cells.{at}
use Rattle.life_store.specs.Content.{Slot, Content, Object, word_at, word_in}
use Rattle.life_store.specs.Doing.{pointer_to, whole_of}
use Rattle.life_store.specs.Edits.{owned_at, size_of}
use Rattle.life_store.specs.Effects.{Attempt, Got, then_get}
use Rattle.life_store.specs.Held.{owned_in, slots_if, words_at, words_if}
use Rattle.life_store.specs.Iterators.{element_of}
use Rattle.life_store.specs.References.{Rows}
use Rattle.life_store.specs.State.{Pointer, To}
use Rattle.life_store.specs.declared.object.ObjRef.{ObjRef}
use Rattle.life_seen.specs.Housed.{IsRef}
use Rattle.life_seen.specs.Kinds.{Kinds}
use Rattle.life_seen.specs.Named.{names_of}
use Rattle.life_seen.specs.Seen.{object_seen, seen}
use Rattle.life_seen.proofs.References.{found_seen}
use Rattle.life_words.specs.Owning.{number_of, Holds, IsOwner}
use Rattle.life_pointers.specs.Choices.{chosen_by}
use Rattle.life_pointers.specs.Owned.{element_in, spot_seen}
use Rattle.life_pointers.specs.declared.choosing.Choice.{Choice}
use Rattle.life_pointers.specs.declared.owned.Spot.{Spot}

first_there : (ws : List ℕ) (u : ℕ) → slice_index (take 1 (drop u ws)) 0 ≡ slice_index ws u
first_there ws u = let z : u + 0 ≡ u = omega arith in get_or-take 1 (drop u ws) 0 0 (omega arith) ∙ get_or-drop u ws 0 0 ∙ ap (slice_index ws) z

slot_first : (x : Option Slot) (u : ℕ) → slice_index (take 1 (drop u (words_if x))) 0 ≡ word_in x u
slot_first None u = first_there [] u
slot_first (Some s) u = first_there s.words u

object_first : (m : Content) (n i u : ℕ) (q : Object) → at m.objects n ≡ Some q → slice_index (words_at m n i u 1) 0 ≡ word_at q i u
object_first m n i u q there = ap (λ (x : Option Object). slice_index (take 1 (drop u (words_if (slice_get (slots_if x) i)))) 0) there ∙ slot_first (slice_get q.slots i) u

module _ (kinds : Kinds) (c : Content) (rows : Rows) (s : Spot) (o : Object) (is : IsOwner kinds c rows s.object s.word o) where
  pub owned_is : (found : Option ObjRef) → Holds kinds c rows s.index s.word o found → option_map number_of found ≡ owned_at (seen kinds c rows) (spot_seen s)
  owned_is found holds = go found holds ∙ ap owned_in (sym (object_first (seen kinds c rows) s.object.birth s.index s.word (object_seen kinds (names_of c rows) o) (found_seen kinds c rows is.housed s.object o is.there)))
    where
      go : (x : Option ObjRef) → Holds kinds c rows s.index s.word o x → option_map number_of x ≡ owned_in (word_at (object_seen kinds (names_of c rows) o) s.index s.word)
      go None e = ap owned_in (sym e)
      go (Some q) e = ap owned_in (sym e.0)

  pub owned_fits : (found : Option ObjRef) → Holds kinds c rows s.index s.word o found → IfSome found (IsRef c rows)
  owned_fits None holds = tt
  owned_fits (Some q) holds = record { born = is.housed.below q.birth q.row holds.1; row = λ k e. same_Some k q.row (sym e ∙ holds.1) }

pub element_there : (m : Content) (which : Choice) (b size i now : ℕ) (p : Pointer) → Got i ≡ chosen_by which size → size ≡ size_of m b → now ≡ m.clock
    → p ≡ To (record { object = b; index = i; word = 0; count = 1; moment = now }) → Got p ≡ element_in m which b
element_there m which b size i now p is same clock e =
    let begins : i ≡ 0 + i = omega arith in
    let go : ℕ → Attempt Pointer = λ k. Got (element_of m.clock k (pointer_to m b 0 0)) in
    ap Got e
    ∙ (λ j. Got (To (record { object = b; index = begins j; word = 0; count = 1; moment = clock j })))
    ∙ ap (λ (a : Attempt ℕ). then_get a go) (is ∙ ap (chosen_by which) same)

pub whole_there : (m : Content) (a : Attempt ℕ) (b size now : ℕ) (p : Pointer) → Got b ≡ a → size ≡ size_of m b → now ≡ m.clock
    → p ≡ To (record { object = b; index = 0; word = 0; count = size; moment = now }) → Got p ≡ then_get a (λ n. Got (whole_of m n))
whole_there m a b size now p is same clock e =
    let go : ℕ → Attempt Pointer = λ n. Got (whole_of m n) in
    ap Got e
    ∙ (λ j. Got (To (record { object = b; index = 0; word = 0; count = same j; moment = clock j })))
    ∙ ap (λ (x : Attempt ℕ). then_get x go) is
