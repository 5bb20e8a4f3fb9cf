-- The number of a text among words, from a word on.
use Rattle.std.proofs.Common.{◌≡◌, ◌∙◌, ◌+◌, Bor, ℕ, zero, suc, true, false, List, [], ◌∷◌, Some, drop, map, refl, sym, ap, add-one}
use Rattle.std.proofs.lemmas.Option.{slice_get-map}
use Rattle.std.specs.Prelude.{slice_get, option_map, if◌then◌else◌}
use Rattle.std.specs.Str.{bytes_eq}
use Rattle.life_keys.specs.Words.{Word, number_in}

abbrev pub word_view : ℕ × Bor (List ℕ) → Word
word_view w = (w.0, w.1.now)

number_step : (ws : List Word) (i : ℕ) (w : Word) (text : List ℕ) → slice_get ws i ≡ Some w
    → number_in (drop i ws) text ≡ (if bytes_eq w.1 text then Some w.0 else number_in (drop (suc i) ws) text)
number_step [] i w text here = cc
number_step (x ∷ xs) zero w text here = let same : x ≡ w = cc in ap (λ (y : Word). if bytes_eq y.1 text then Some y.0 else number_in xs text) same
number_step (x ∷ xs) (suc i) w text here = number_step xs i w text here

pub number_here : (ws : List Word) (i : ℕ) (w : Word) (text : List ℕ) → slice_get ws i ≡ Some w → bytes_eq w.1 text ≡ true
    → number_in (drop i ws) text ≡ number_in ws text → number_in ws text ≡ Some w.0
number_here ws i w text here is passed = sym passed ∙ number_step ws i w text here ∙ rw is refl

pub number_past : (ws : List Word) (i : ℕ) (w : Word) (text : List ℕ) → slice_get ws i ≡ Some w → bytes_eq w.1 text ≡ false
    → number_in (drop i ws) text ≡ number_in ws text → number_in (drop (i + 1) ws) text ≡ number_in ws text
number_past ws i w text here is passed = rw add-one
    (let step : number_in (drop i ws) text ≡ number_in (drop (suc i) ws) text = number_step ws i w text here ∙ rw is refl in sym step ∙ passed)
