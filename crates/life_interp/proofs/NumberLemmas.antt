-- An object of one number comes to life as the meaning has it.
use Rattle.std.proofs.Common.{◌≡◌, ℕ, ◌<◌, length, Option, Some, None, refl, sym, ap, ◌∙◌, arith}
use Rattle.std.proofs.lemmas.List.{length-map}
use Rattle.std.proofs.lemmas.Option.{same_Some}
use Rattle.life_types.specs.declared.ty.TyId.{TyId}
use Rattle.life_store.specs.Cells.{at, set, at-set_same}
use Rattle.life_store.specs.Content.{Object, Content, newborn, with_birth}
use Rattle.life_store.specs.Doing.{with_value_object}
use Rattle.life_store.specs.Held.{resized_at, resized_if}
use Rattle.life_store.specs.References.{Rows, HasWord, object_of}
use Rattle.life_store.specs.declared.object.ObjRef.{ObjRef}
use Rattle.life_store.proofs.Housing.{value_object}
use Rattle.life_seen.specs.Housed.{IsHoused, IsRef, Shows}
use Rattle.life_seen.specs.Kinds.{Kinds}
use Rattle.life_seen.specs.Named.{names_of}
use Rattle.life_seen.specs.Seen.{slot_seen, object_seen, seen}
use Rattle.life_seen.proofs.Contents.{seen_none}
use Rattle.life_seen.proofs.References.{found_seen, lives_placed, of_found, placed_lives}

-- nothing has the next number
pub unborn : (kinds : Kinds) (c : Content) (rows : Rows) → IsHoused kinds c rows → at (seen kinds c rows).objects c.births ≡ None
unborn kinds c rows h = seen_none kinds (names_of c rows) c c.births (go (at c.objects c.births) refl)
  where
    go : (o : Option Object) → at c.objects c.births ≡ o → at c.objects c.births ≡ None
    go None e = e
    go (Some o) e = let p = lives_placed kinds c rows h c.births o e in let lt = h.below c.births p.0 p.1 in absurd (omega (arith, lt))

-- with its one slot it is an object of a value
pub shows_value : (kinds : Kinds) (m d : Content) (new : Rows) (ty : TyId) → Shows kinds d new (resized_at m.births 1 0 (with_birth ty 1 1 m)) → Shows kinds d new (with_value_object ty m)
shows_value kinds m d new ty shows = record {
  housed = shows.housed;
  is = shows.is ∙ ap (λ x. resized_if x m.births 1 0 (with_birth ty 1 1 m)) (at-set_same m.objects m.births m.births (newborn ty 1 1 m.clock) refl);
}

-- what was born has its row
pub ref_placed : (d : Content) (new : Rows) (r : ObjRef) → r.birth < d.births → at new r.birth ≡ Some r.row → IsRef d new r
ref_placed d new r lt placed = record { born = lt; row = λ k e. same_Some k r.row (sym e ∙ placed) }

pub record IsNewValue (kinds : Kinds) (d : Content) (new : Rows) (r : ObjRef) (ty : TyId) (clock : ℕ) : Type 0 where
  pub object : Object
  pub there : object_of d new r ≡ Some object
  pub is : object_seen kinds (names_of d new) object ≡ value_object ty clock

pub new_value : (kinds : Kinds) (m d : Content) (new : Rows) (r : ObjRef) (ty : TyId) → Shows kinds d new (with_value_object ty m) → r.birth ≡ m.births → at new r.birth ≡ Some r.row → IsNewValue kinds d new r ty m.clock
new_value kinds m d new r ty shows number placed =
    let lives = placed_lives kinds d new shows.housed r.birth r.row placed in
    let there = of_found d new r lives.0 (record { there = lives.1; placed = placed }) in
    record {
      object = lives.0;
      there = there;
      is = same_Some (object_seen kinds (names_of d new) lives.0) (value_object ty m.clock)
          (sym (found_seen kinds d new shows.housed r lives.0 there)
          ∙ ap (λ (x : Content). at x.objects r.birth) shows.is
          ∙ at-set_same (set m.objects m.births (newborn ty 1 1 m.clock)) m.births r.birth (value_object ty m.clock) (sym number));
    }

pub new_has_word : (kinds : Kinds) (d : Content) (new : Rows) (r : ObjRef) (ty : TyId) (clock : ℕ) → (v : IsNewValue kinds d new r ty clock) → HasWord 0 0 v.object
new_has_word kinds d new r ty clock v =
    let same = length-map v.object.slots (slot_seen (names_of d new) (kinds v.object.ty)) in
    let one : length (object_seen kinds (names_of d new) v.object).slots ≡ 1 = ap (λ (o : Object). length o.slots) v.is in
    let wide : v.object.width ≡ 1 = ap (λ (o : Object). o.width) v.is in
    record { has_slot = omega (arith, same, one); has_word = omega (arith, wide) }
