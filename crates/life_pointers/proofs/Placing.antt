-- A position that is reached through a pointer.
use Rattle.std.proofs.Common.{◌≡◌, ℕ, ◌<◌, ◌≤◌, Option, Some, None, IfSome, IsSome, length, ap, ◌∙◌, arith}
use Rattle.std.proofs.lemmas.Bool.{le-ltb, lt-ltb}
use Rattle.std.proofs.lemmas.List.{length-map}
use Rattle.life_store.specs.Content.{Content, Object}
use Rattle.life_store.specs.Places.{on_place, reached_if, reached_in}
use Rattle.life_store.specs.References.{Rows, object_of}
use Rattle.life_store.specs.declared.run.TrapKind.TheVariants as trap
use Rattle.life_seen.specs.Housed.{IsHoused, IsRef}
use Rattle.life_seen.specs.Kinds.{Kinds}
use Rattle.life_seen.specs.Named.{names_of}
use Rattle.life_seen.specs.Seen.{slot_seen, object_seen, seen}
use Rattle.life_seen.proofs.References.{found_seen}
use Rattle.life_pointers.specs.Places.{reached_at, IsHere, TellsMiss}
use Rattle.life_pointers.specs.declared.owned.Spot.{Spot}
use Rattle.life_pointers.specs.declared.stop.Stop.TheVariants as stop

none_is : IsSome (let x : Option Object = None in x) → ⊥
none_is e = cc

module _ (kinds : Kinds) (c : Content) (rows : Rows) (h : IsHoused kinds c rows) (s : Spot) (fits : IsRef c rows s.object) (size : ℕ) where
  pub here : (x : Option Object) → object_of c rows s.object ≡ x → IsSome x → IfSome x (λ o. size ≡ length o.slots) → IfSome x (λ o. 1 ≤ o.width) → s.index < size
      → IsHere kinds c rows (reached_at (seen kinds c rows) s.object.birth s.index) s
  here None e some long wide lt = absurd (none_is some)
  here (Some o) e some long wide lt =
      let l = length-map o.slots (slot_seen (names_of c rows) (kinds o.ty)) in
      let within : s.index < length (object_seen kinds (names_of c rows) o).slots = omega (arith, l, long, lt) in
      record {
        object = o;
        here = ap (λ (x : Option Object). reached_in x s.object.birth s.index) (found_seen kinds c rows h s.object o e)
            ∙ ap (λ b. reached_if b s.object.birth s.index (object_seen kinds (names_of c rows) o)) (lt-ltb s.index _ within);
        lives = e;
        slot = omega (arith, long, lt);
        wide = wide;
        fits = fits;
      }

  pub at_end : (x : Option Object) → object_of c rows s.object ≡ x → IsSome x → IfSome x (λ o. size ≡ length o.slots) → size ≤ s.index
      → TellsMiss (reached_at (seen kinds c rows) s.object.birth s.index) (stop.Trap trap.Bounds)
  at_end None e some long le go fixed = absurd (none_is some)
  at_end (Some o) e some long le go fixed =
      let l = length-map o.slots (slot_seen (names_of c rows) (kinds o.ty)) in
      let past : length (object_seen kinds (names_of c rows) o).slots ≤ s.index = omega (arith, l, long, le) in
      ap (λ (x : Option Object). on_place (reached_in x s.object.birth s.index) go fixed) (found_seen kinds c rows h s.object o e)
      ∙ ap (λ b. on_place (reached_if b s.object.birth s.index (object_seen kinds (names_of c rows) o)) go fixed) (le-ltb s.index (length (object_seen kinds (names_of c rows) o).slots) past)
