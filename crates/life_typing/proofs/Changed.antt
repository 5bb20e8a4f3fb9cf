-- A list seen by a view, after a change of one of its values.
use Rattle.std.proofs.Common.{◌≡◌, ℕ, List, map, Some, None, slice_get, slice_set, refl, ap, ◌∙◌}
use Rattle.std.proofs.lemmas.List.{map-set}
use Rattle.std.proofs.lemmas.Option.{slice_get-map}
use Rattle.life_typing.specs.Functions.{changed}

pub changed_view : {A B : Type 0} (view : A → B) (change : B → B) (number : ℕ) (x y : A) (all : List A) → slice_get all number ≡ Some x → view y ≡ change (view x)
    → map view (slice_set all number y) ≡ changed number change (map view all)
changed_view {A} {B} view change number x y all is seen = map-set view all number y ∙ rw (slice_get-map, is) (ap (λ (b : B). slice_set (map view all) number b) seen)

pub unchanged_view : {A B : Type 0} (view : A → B) (change : B → B) (number : ℕ) (all : List A) → slice_get all number ≡ None → map view all ≡ changed number change (map view all)
unchanged_view view change number all is = rw (slice_get-map, is) refl
